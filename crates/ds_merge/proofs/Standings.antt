-- What one event more makes of how far a walk has come.
use Rattle.std.proofs.Common.{◌≡◌, ◌+◌, List, [], ◌∷◌, ◌++◌, Bool, true, false, cond, append-nil, length-append, length, filter, refl, ap, ◌∙◌}
use Rattle.std.proofs.lemmas.List.Elements.{filter-append}
use Rattle.ds_script.proofs.Replays.{last_of-push}
use Rattle.ds_merge.specs.declared.recorded.Recorded.{Recorded}
use Rattle.ds_merge.specs.Standing.{standing, last_stamp, same_actor, touched_it}
use Rattle.ds_merge.specs.Tables.{at_start, one_more}

pub starts : standing [] ≡ at_start
starts = refl

last_filtered : (test : Recorded → Bool) (es : List Recorded) (e : Recorded) → last_stamp (filter test (es ++ e ∷ [])) ≡ cond (test e) e.stamp (last_stamp (filter test es))
last_filtered test es e = ap last_stamp (filter-append test es (e ∷ [])) ∙ by (test e)
  where
    by : (b : Bool) → last_stamp (filter test es ++ cond b (e ∷ []) []) ≡ cond b e.stamp (last_stamp (filter test es))
    by true = last_of-push (λ x. x.stamp) 0 (filter test es) e
    by false = ap last_stamp (append-nil (filter test es))

count_filtered : (test : Recorded → Bool) (es : List Recorded) (e : Recorded) → length (filter test (es ++ e ∷ [])) ≡ cond (test e) (length (filter test es) + 1) (length (filter test es))
count_filtered test es e = ap length (filter-append test es (e ∷ [])) ∙ by (test e)
  where
    by : (b : Bool) → length (filter test es ++ cond b (e ∷ []) []) ≡ cond b (length (filter test es) + 1) (length (filter test es))
    by true = length-append (filter test es) (e ∷ [])
    by false = ap length (append-nil (filter test es))

pub stands_after : (es : List Recorded) (e : Recorded) → standing (es ++ e ∷ []) ≡ one_more e (standing es)
stands_after es e = λ i. record {
  actor_last = λ who. last_filtered (λ x. same_actor x.who who) es e i;
  object_last = λ name. last_filtered (λ x. touched_it name x.touched) es e i;
  taken = λ name. count_filtered (λ x. touched_it name x.touched) es e i;
}
