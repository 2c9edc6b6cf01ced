-- Logs that grow by one event, and by those of a run.
use Rattle.std.proofs.Common.{◌≡◌, ℕ, zero, suc, ◌<◌, List, [], ◌∷◌, ◌++◌, length, refl, sym, subst, ap, ◌∙◌, append_assoc, arith}
use Rattle.std.proofs.lemmas.List.{append-nil, length-append}
use Rattle.std.proofs.lemmas.List.Elements.{All-nil, All-push}
use Rattle.ds_script.specs.declared.actor.Actor.{Actor}
use Rattle.ds_script.proofs.Replays.{last_of-push, rises-push}
use Rattle.ds_merge.specs.declared.recorded.Recorded.{Recorded}
use Rattle.ds_turn.specs.Records.{stamp_of}
use Rattle.ds_worker.specs.Logs.{Grew, IsEventOf, Log}
use Rattle.ds_worker.specs.Runs.{Ran}

-- one event of the actor more, later than its last one
pub record GrewOne (a b : Log) : Type 0 where
  pub event : Recorded
  pub who : b.who ≡ a.who
  pub events : b.events ≡ a.events ++ event ∷ []
  pub stamp : b.stamp ≡ event.stamp
  pub later : a.stamp < event.stamp
  pub own : IsEventOf a.who event

grew_none : (a b : Log) → b ≡ a → Grew 0 a b
grew_none a b same = record {
  who = ap (λ (x : Log). x.who) same;
  more = [];
  events = ap (λ (x : Log). x.events) same ∙ sym (append-nil a.events);
  counted = refl;
  own = All-nil (IsEventOf a.who);
  rising = refl;
  last = ap (λ (x : Log). x.stamp) same;
}

one_more : (n : ℕ) (xs : List Recorded) (x : Recorded) → length xs ≡ n → length (xs ++ x ∷ []) ≡ suc n
one_more n xs x e = omega (arith, length-append xs (x ∷ []))

grew_more : (n : ℕ) (a b c : Log) → Grew n a b → GrewOne b c → Grew (suc n) a c
grew_more n a b c g one = record {
  who = one.who ∙ g.who;
  more = g.more ++ one.event ∷ [];
  events = one.events ∙ (ap (λ (es : List Recorded). es ++ one.event ∷ []) g.events ∙ append_assoc a.events g.more (one.event ∷ []));
  counted = one_more n g.more one.event g.counted;
  own = All-push (IsEventOf a.who) g.more one.event g.own (subst (λ (who : Actor). IsEventOf who one.event) g.who one.own);
  rising = rises-push stamp_of a.stamp g.more one.event g.rising (subst (λ (k : ℕ). k < one.event.stamp) g.last one.later);
  last = one.stamp ∙ sym (last_of-push stamp_of a.stamp g.more one.event);
}

pub grew_run : {X : Type 0} (Turn : X → X → Type 0) (log : X → Log) → ((a b : X) → Turn a b → GrewOne (log a) (log b)) → (n : ℕ) (a b : X) → Ran Turn n a b → Grew n (log a) (log b)
unfolding Ran
grew_run Turn log grows zero a b ran = grew_none (log a) (log b) (ap log ran)
grew_run Turn log grows (suc n) a b ran =
    grew_more n (log a) (log ran.mid) (log b) (grew_run Turn log grows n a ran.mid ran.before) (grows ran.mid b ran.turn)
