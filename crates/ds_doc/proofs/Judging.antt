-- One value more that is judged.
use Rattle.std.proofs.Common.{◌≡◌, ◌≤◌, ◌<◌, ◌^◌, ◌==◌, if◌then◌else◌, arith, map, length, drop, slice_get, unwrap_or, Some, ℕ, List, [], ◌∷◌, ◌++◌, Option, None, Bool, true, false, refl, sym, ap, subst, ◌∙◌}
use Rattle.serde_json.specs.declared.value.Value.{Value}
use Rattle.serde_json.specs.Data.{Data, array, object, Items, no_items, item, Members, no_members}
use Rattle.serde_json.specs.Data as json
use Rattle.serde_json.specs.View.{view, items_view}
use Rattle.ds_doc.specs.declared.fault.Fault.{Fault}
use Rattle.ds_doc.specs.declared.judge.Judged.{Judged}
use Rattle.ds_doc.specs.declared.form.Form.{Form}
use Rattle.ds_doc.specs.declared.form.Form.TheVariants.{Listed, Object, Worded}
use Rattle.ds_doc.specs.declared.form.Object as object_form
use Rattle.ds_doc.specs.declared.form.Listed as listed_form
use Rattle.ds_doc.specs.declared.form.Worded as worded_form
use Rattle.ds_doc.specs.declared.form.Most.{Most}
use Rattle.ds_doc.specs.Places.{◌⊕◌, size, items_size, members_size, or_default}
use Rattle.ds_doc.specs.Forms.{member_form, item_form, most}
use Rattle.ds_doc.specs.Shapes.{least, lesser, is_least, fault, unless, is_within, listed, word_arguments, Tells, judged, judged_items, judged_members, judged_words, judged_each, whole_faults}
use Rattle.ds_doc.proofs.Items.{listed_view, listed_length}
use Rattle.ds_doc.proofs.Least.{least_more, least_append, lesser_none}
use Rattle.ds_doc.proofs.Between.{IsBetween, self, more, within, stays, keeps_least, not_least, whole_here, judged_between, items_between, members_between, each_between, member_between, items_moved, members_moved}

-- what was found, those of a value and those behind it: all are what is left and lead to one least fault
more_found : (found whole : Option Fault) (f : Option Fault) (fs gs : List Fault) → f ≡ least fs → lesser found (least (fs ++ gs)) ≡ whole
    → lesser (lesser found f) (least gs) ≡ whole
more_found found whole f fs gs e h = rw e (least_more found fs gs ∙ h)

-- a fault of the least code: those behind it change nothing
done_found : (found whole : Option Fault) (f : Option Fault) (fs gs : List Fault) (low here high : ℕ) → f ≡ least fs → is_least f ≡ true
    → IsBetween low here (least fs) → IsBetween here high (least gs) → lesser found (least (fs ++ gs)) ≡ whole → lesser found f ≡ whole
done_found found whole f fs gs low here high e l hf hg h =
    let same : lesser (least fs) (least gs) ≡ least fs = stays (least fs) (least gs) low here high (rw (sym e) l) hf hg in
    ap (lesser found) (e ∙ sym same ∙ sym (least_append fs gs)) ∙ h

-- what is told where the judge stops

pub stopped : (found f : Option Fault) (faults : List Fault) (place last : ℕ) → is_least f ≡ true → lesser found f ≡ least faults
    → Tells (record { fault = lesser found f; next = place }) faults last
stopped found f faults place last e h = record {
  found = h;
  behind = λ k. let l = keeps_least found f e in absurd cc;
}

-- what is told where nothing is left
pub ended : (found : Option Fault) (faults : List Fault) (place last : ℕ) → lesser found None ≡ least faults → place ≡ last
    → Tells (record { fault = found; next = place }) faults last
ended found faults place last h e = record {
  found = sym (lesser_none found) ∙ h;
  behind = λ _. e;
}

-- items of one form

-- what was found and what is left lead to the whole's least fault, and to its end
pub record AllLeft (form : Form) (found : Option Fault) (at : ℕ) (ds : Items) (whole : Option Fault) (last : ℕ) : Type 0 where
  pub same : lesser found (least (judged_items form at ds)) ≡ whole
  pub till : items_size at ds ≡ last
  pub fits : at ≤ 4294967295

pub all_begun : (form : Form) (at : ℕ) (ds : Items) → at < 2 ^ 32 → AllLeft form None at ds (least (judged_items form at ds)) (items_size at ds)
all_begun form at ds h = record { same = refl; till = refl; fits = omega (arith, h) }

pub all_ended : (form : Form) (found : Option Fault) (faults : List Fault) (at last : ℕ) → AllLeft form found at no_items (least faults) last
    → Tells (record { fault = found; next = at }) faults last
all_ended form found faults at last left = ended found faults at last left.same left.till

pub all_more : (form : Form) (found whole : Option Fault) (j : Judged) (at last : ℕ) (d : Data) (ds : Items) → Tells j (judged form at d) (at ⊕ size d)
    → is_least j.fault ≡ false
    → AllLeft form found at (item d ds) whole last → AllLeft form (lesser found j.fault) j.next ds whole last
all_more form found whole j at last d ds t e left =
    subst (λ (n : ℕ). AllLeft form (lesser found j.fault) n ds whole last) (sym (t.behind e)) (record {
      same = more_found found whole j.fault (judged form at d) (judged_items form (at ⊕ size d) ds) t.found left.same;
      till = left.till;
      fits = within at (size d);
    })

pub all_done : (form : Form) (found whole : Option Fault) (j : Judged) (at last : ℕ) (d : Data) (ds : Items) → Tells j (judged form at d) (at ⊕ size d)
    → is_least j.fault ≡ true
    → AllLeft form found at (item d ds) whole last → lesser found j.fault ≡ whole
all_done form found whole j at last d ds t e left =
    done_found found whole j.fault (judged form at d) (judged_items form (at ⊕ size d) ds) at (at ⊕ size d) (at ⊕ items_size (size d) ds) t.found e
    (judged_between form at d left.fits) (items_between form (at ⊕ size d) at (size d) (at ⊕ size d) ds refl (self (at ⊕ size d))) left.same

-- the same as the loop sees it: what was left begins with v
pub all_on : (form : Form) (found whole f : Option Fault) (j : Judged) (at last : ℕ) (v : Value) (xs rest : List Value) → xs ≡ v ∷ rest
    → f ≡ lesser found j.fault
    → Tells j (judged form at (view v)) (at ⊕ size (view v)) → is_least j.fault ≡ false
    → AllLeft form found at (items_view xs) whole last → AllLeft form f j.next (items_view rest) whole last
all_on form found whole f j at last v xs rest step e t k left =
    rw e (all_more form found whole j at last (view v) (items_view rest) t k
    (subst (λ (vs : List Value). AllLeft form found at (items_view vs) whole last) step left))

pub all_stopped : (form : Form) (found f : Option Fault) (faults : List Fault) (j : Judged) (at last : ℕ) (v : Value) (xs rest : List Value)
    → xs ≡ v ∷ rest → f ≡ lesser found j.fault
    → Tells j (judged form at (view v)) (at ⊕ size (view v)) → is_least j.fault ≡ true
    → AllLeft form found at (items_view xs) (least faults) last → Tells (record { fault = f; next = at }) faults last
all_stopped form found f faults j at last v xs rest step e t k left =
    rw e (stopped found j.fault faults at last k
    (all_done form found (least faults) j at last (view v) (items_view rest) t k
    (subst (λ (vs : List Value). AllLeft form found at (items_view vs) (least faults) last) step left)))

-- members

pub record MembersLeft (f : object_form.Object) (found : Option Fault) (at : ℕ) (ms : Members) (whole : Option Fault) (last : ℕ) : Type 0 where
  pub same : lesser found (least (judged_members f at ms)) ≡ whole
  pub till : members_size at ms ≡ last
  pub fits : at ≤ 4294967295

pub members_begun : (f : object_form.Object) (found : Option Fault) (at : ℕ) (ms : Members) → found ≡ least (whole_faults f at ms)
    → MembersLeft f found (at ⊕ 1) ms (least (judged (Object f) at (object ms))) (at ⊕ members_size 1 ms)
members_begun f found at ms e = record {
  same = rw e (sym (least_append (whole_faults f at ms) (judged_members f (at ⊕ 1) ms)));
  till = members_moved at 1 ms;
  fits = within at 1;
}

pub members_ended : (f : object_form.Object) (found : Option Fault) (faults : List Fault) (at last : ℕ)
    → MembersLeft f found at no_members (least faults) last
    → Tells (record { fault = found; next = at }) faults last
members_ended f found faults at last left = ended found faults at last left.same left.till

pub members_more : (f : object_form.Object) (found whole : Option Fault) (j : Judged) (at last : ℕ) (k : List ℕ) (d : Data) (ms : Members)
    → Tells j (or_default (fault 3 at) (λ form. judged form at d) (member_form f k)) (at ⊕ size d) → is_least j.fault ≡ false
    → MembersLeft f found at (json.member k d ms) whole last → MembersLeft f (lesser found j.fault) j.next ms whole last
members_more f found whole j at last k d ms t e left =
    subst (λ (n : ℕ). MembersLeft f (lesser found j.fault) n ms whole last) (sym (t.behind e)) (record {
      same = more_found found whole j.fault (or_default (fault 3 at) (λ form. judged form at d) (member_form f k)) (judged_members f (at ⊕ size d) ms)
          t.found left.same;
      till = left.till;
      fits = within at (size d);
    })

pub members_done : (f : object_form.Object) (found whole : Option Fault) (j : Judged) (at last : ℕ) (k : List ℕ) (d : Data) (ms : Members)
    → Tells j (or_default (fault 3 at) (λ form. judged form at d) (member_form f k)) (at ⊕ size d) → is_least j.fault ≡ true
    → MembersLeft f found at (json.member k d ms) whole last → lesser found j.fault ≡ whole
members_done f found whole j at last k d ms t e left =
    done_found found whole j.fault (or_default (fault 3 at) (λ form. judged form at d) (member_form f k)) (judged_members f (at ⊕ size d) ms) at
    (at ⊕ size d) (at ⊕ members_size (size d) ms) t.found e
    (member_between at d (member_form f k) left.fits) (members_between f (at ⊕ size d) at (size d) (at ⊕ size d) ms refl (self (at ⊕ size d))) left.same

by_form : (o : object_form.Object) (j : Judged) (at : ℕ) (k : List ℕ) (d : Data) (form : Option Form) → form ≡ member_form o k
    → Tells j (or_default (fault 3 at) (λ form. judged form at d) form) (at ⊕ size d)
    → Tells j (or_default (fault 3 at) (λ form. judged form at d) (member_form o k)) (at ⊕ size d)
by_form o j at k d form e t = subst (λ (g : Option Form). Tells j (or_default (fault 3 at) (λ form. judged form at d) g) (at ⊕ size d)) e t

pub members_on : (o : object_form.Object) (found whole f : Option Fault) (j : Judged) (at last : ℕ) (k : List ℕ) (d : Data) (ms rest : Members)
    (form : Option Form)
    → ms ≡ json.member k d rest → f ≡ lesser found j.fault → form ≡ member_form o k
    → Tells j (or_default (fault 3 at) (λ form. judged form at d) form) (at ⊕ size d) → is_least j.fault ≡ false
    → MembersLeft o found at ms whole last → MembersLeft o f j.next rest whole last
members_on o found whole f j at last k d ms rest form step e g t b left =
    rw e (members_more o found whole j at last k d rest (by_form o j at k d form g t) b
    (subst (λ (ns : Members). MembersLeft o found at ns whole last) step left))

pub members_stopped : (o : object_form.Object) (found f : Option Fault) (faults : List Fault) (j : Judged) (at last : ℕ) (k : List ℕ) (d : Data)
    (ms rest : Members) (form : Option Form)
    → ms ≡ json.member k d rest → f ≡ lesser found j.fault → form ≡ member_form o k
    → Tells j (or_default (fault 3 at) (λ form. judged form at d) form) (at ⊕ size d) → is_least j.fault ≡ true
    → MembersLeft o found at ms (least faults) last → Tells (record { fault = f; next = at }) faults last
members_stopped o found f faults j at last k d ms rest form step e g t b left =
    rw e (stopped found j.fault faults at last b
    (members_done o found (least faults) j at last k d rest (by_form o j at k d form g t) b
    (subst (λ (ns : Members). MembersLeft o found at ns (least faults) last) step left)))

-- what stands behind a word

pub record EachLeft (forms : List Form) (found : Option Fault) (at : ℕ) (ds : Items) (whole : Option Fault) (last : ℕ) : Type 0 where
  pub same : lesser found (least (judged_each forms at ds)) ≡ whole
  pub till : items_size at ds ≡ last
  pub fits : at ≤ 4294967295

pub each_begun : (forms : List Form) (at : ℕ) (ds : Items) → at < 2 ^ 32 → EachLeft forms None at ds (least (judged_each forms at ds)) (items_size at ds)
each_begun forms at ds h = record { same = refl; till = refl; fits = omega (arith, h) }

pub each_ended : (found : Option Fault) (faults : List Fault) (at last : ℕ) → EachLeft [] found at no_items (least faults) last
    → Tells (record { fault = found; next = at }) faults last
each_ended found faults at last left = ended found faults at last left.same left.till

pub each_more : (form : Form) (forms : List Form) (found whole : Option Fault) (j : Judged) (at last : ℕ) (d : Data) (ds : Items)
    → Tells j (judged form at d) (at ⊕ size d) → is_least j.fault ≡ false
    → EachLeft (form ∷ forms) found at (item d ds) whole last → EachLeft forms (lesser found j.fault) j.next ds whole last
each_more form forms found whole j at last d ds t e left =
    subst (λ (n : ℕ). EachLeft forms (lesser found j.fault) n ds whole last) (sym (t.behind e)) (record {
      same = more_found found whole j.fault (judged form at d) (judged_each forms (at ⊕ size d) ds) t.found left.same;
      till = left.till;
      fits = within at (size d);
    })

pub each_done : (form : Form) (forms : List Form) (found whole : Option Fault) (j : Judged) (at last : ℕ) (d : Data) (ds : Items)
    → Tells j (judged form at d) (at ⊕ size d) → is_least j.fault ≡ true
    → EachLeft (form ∷ forms) found at (item d ds) whole last → lesser found j.fault ≡ whole
each_done form forms found whole j at last d ds t e left =
    done_found found whole j.fault (judged form at d) (judged_each forms (at ⊕ size d) ds) at (at ⊕ size d) (at ⊕ items_size (size d) ds) t.found e
    (judged_between form at d left.fits) (each_between forms (at ⊕ size d) at (size d) (at ⊕ size d) ds refl (self (at ⊕ size d))) left.same

pub each_on : (form : Form) (fs forms : List Form) (found whole f : Option Fault) (j : Judged) (at last : ℕ) (v : Value) (xs rest : List Value)
    → fs ≡ form ∷ forms → xs ≡ v ∷ rest → f ≡ lesser found j.fault
    → Tells j (judged form at (view v)) (at ⊕ size (view v)) → is_least j.fault ≡ false
    → EachLeft fs found at (items_view xs) whole last → EachLeft forms f j.next (items_view rest) whole last
each_on form fs forms found whole f j at last v xs rest all step e t k left =
    rw e (each_more form forms found whole j at last (view v) (items_view rest) t k
    (subst (λ (vs : List Value). EachLeft (form ∷ forms) found at (items_view vs) whole last) step
    (subst (λ (gs : List Form). EachLeft gs found at (items_view xs) whole last) all left)))

pub each_stopped : (form : Form) (fs forms : List Form) (found f : Option Fault) (faults : List Fault) (j : Judged) (at last : ℕ) (v : Value)
    (xs rest : List Value)
    → fs ≡ form ∷ forms → xs ≡ v ∷ rest → f ≡ lesser found j.fault
    → Tells j (judged form at (view v)) (at ⊕ size (view v)) → is_least j.fault ≡ true
    → EachLeft fs found at (items_view xs) (least faults) last → Tells (record { fault = f; next = at }) faults last
each_stopped form fs forms found f faults j at last v xs rest all step e t k left =
    rw e (stopped found j.fault faults at last k
    (each_done form forms found (least faults) j at last (view v) (items_view rest) t k
    (subst (λ (vs : List Value). EachLeft (form ∷ forms) found at (items_view vs) (least faults) last) step
    (subst (λ (gs : List Form). EachLeft gs found at (items_view xs) (least faults) last) all left))))

-- an object that isn't whole
pub not_whole : (o : object_form.Object) (at place last : ℕ) (ms : Members) (f : Option Fault) → at < 2 ^ 32 → f ≡ least (whole_faults o at ms)
    → is_least f ≡ true
    → Tells (record { fault = f; next = place }) (whole_faults o at ms ++ judged_members o (at ⊕ 1) ms) last
not_whole o at place last ms f h e l =
    let k : is_least (least (whole_faults o at ms)) ≡ true = rw (sym e) l in
    let same = stays (least (whole_faults o at ms)) (least (judged_members o (at ⊕ 1) ms)) at at (at ⊕ members_size 1 ms) k (whole_here o at ms k)
    (members_between o at at 1 (at ⊕ 1) ms refl (more at 1 (omega (arith, h)))) in
    record {
      found = e ∙ sym same ∙ sym (least_append (whole_faults o at ms) (judged_members o (at ⊕ 1) ms));
      behind = λ b. absurd cc;
    }

-- a list with how long it may be
all_listed : (o : Option Fault) (fs gs : List Fault) (j : Judged) (at : ℕ) (ds : Items) → o ≡ least fs → Tells j gs (items_size (at ⊕ 1) ds)
    → Tells (record { fault = lesser o j.fault; next = j.next }) (fs ++ gs) (at ⊕ items_size 1 ds)
all_listed o fs gs j at ds e t = record {
  found = rw (e, t.found) (sym (least_append fs gs));
  behind = λ h. t.behind (not_least o j.fault h) ∙ items_moved at 1 ds;
}

pub items_told : (l : listed_form.Listed) (at p : ℕ) (m : Most) (form : Form) (xs ys : List Value) (b : Bool) (o r : Option Fault) (j : Judged)
    → m ≡ most l → form ≡ item_form l → p ≡ (at ⊕ 1) → ys ≡ xs → b ≡ is_within m (map view ys) → o ≡ least (unless b 5 at) → r ≡ lesser o j.fault
    → Tells j (judged_items form p (items_view xs)) (items_size p (items_view xs))
    → Tells (record { fault = r; next = j.next }) (judged (Listed l) at (array (items_view xs))) (at ⊕ items_size 1 (items_view xs))
items_told l at p m form xs ys b o r j em ef ep ey eb eo er t =
    let short : b ≡ is_within (most l) (listed (items_view xs)) =
    eb ∙ ap (λ (n : Most). is_within n (map view ys)) em ∙ ap (λ (vs : List Value). is_within (most l) (map view vs)) ey ∙ ap (is_within (most l))
    (sym (listed_view xs)) in
    let here : Tells j (judged_items (item_form l) (at ⊕ 1) (items_view xs)) (items_size (at ⊕ 1) (items_view xs)) =
    subst (λ (f : Form). Tells j (judged_items f (at ⊕ 1) (items_view xs)) (items_size (at ⊕ 1) (items_view xs))) ef
    (subst (λ (n : ℕ). Tells j (judged_items form n (items_view xs)) (items_size n (items_view xs))) ep t) in
    subst (λ (f : Option Fault). Tells (record { fault = f; next = j.next }) (judged (Listed l) at (array (items_view xs)))
    (at ⊕ items_size 1 (items_view xs))) (sym er)
    (all_listed o (unless (is_within (most l) (listed (items_view xs))) 5 at) (judged_items (item_form l) (at ⊕ 1) (items_view xs)) j at (items_view xs)
    (eo ∙ ap (λ (c : Bool). least (unless c 5 at)) short) here)

-- what stands behind a word

first_is : (xs : List Value) (w : Value) → slice_get xs 0 ≡ Some w → xs ≡ w ∷ drop 1 xs
first_is [] w e = absurd cc
first_is (v ∷ vs) w e = ap (λ (o : Option Value). unwrap_or o w ∷ vs) e

worded_faults : (f : worded_form.Worded) (at : ℕ) (word : Data) (ds : Items) (forms : List Form) → word_arguments f word ≡ Some forms
    → (length (listed ds) == length forms) ≡ true
    → judged_words f at (item word ds) ≡ judged_each forms (at ⊕ 1 ⊕ size word) ds
worded_faults f at word ds forms e t =
    ap (or_default (fault 4 (at ⊕ 1)) (λ (gs : List Form). if length (listed ds) == length gs then judged_each gs (at ⊕ 1 ⊕ size word) ds else fault 4 at)) e
    ∙ ap (λ (b : Bool). if b then judged_each forms (at ⊕ 1 ⊕ size word) ds else fault 4 at) t

pub words_told : (f : worded_form.Worded) (at p : ℕ) (word : Value) (forms : List Form) (xs ys zs : List Value) (j : Judged)
    → ys ≡ xs → zs ≡ xs → slice_get ys 0 ≡ Some word → word_arguments f (view word) ≡ Some forms → (length (drop 1 zs) == length forms) ≡ true
    → p ≡ (at ⊕ 1 ⊕ size (view word))
    → Tells j (judged_each forms p (items_view (drop 1 xs))) (items_size p (items_view (drop 1 xs)))
    → Tells j (judged (Worded f) at (array (items_view xs))) (at ⊕ items_size 1 (items_view xs))
words_told f at p word forms xs ys zs j ey ez first known count ep t =
    let same : xs ≡ word ∷ drop 1 xs = first_is xs word (ap (λ (vs : List Value). slice_get vs 0) (sym ey) ∙ first) in
    let many : (length (listed (items_view (drop 1 xs))) == length forms) ≡ true =
    ap (λ (n : ℕ). n == length forms) (listed_length (drop 1 xs)) ∙ ap (λ (vs : List Value). length (drop 1 vs) == length forms) (sym ez) ∙ count in
    let here : Tells j (judged_each forms (at ⊕ 1 ⊕ size (view word)) (items_view (drop 1 xs)))
    (items_size (at ⊕ 1 ⊕ size (view word)) (items_view (drop 1 xs))) =
    subst (λ (n : ℕ). Tells j (judged_each forms n (items_view (drop 1 xs))) (items_size n (items_view (drop 1 xs)))) ep t in
    let there : Tells j (judged_words f at (item (view word) (items_view (drop 1 xs)))) (at ⊕ items_size 1 (item (view word) (items_view (drop 1 xs))))
    = record {
      found = here.found ∙ ap least (sym (worded_faults f at (view word) (items_view (drop 1 xs)) forms known many));
      behind = λ h. here.behind h ∙ items_moved at 1 (item (view word) (items_view (drop 1 xs)));
    } in
    subst (λ (vs : List Value). Tells j (judged (Worded f) at (array (items_view vs))) (at ⊕ items_size 1 (items_view vs))) (sym same) there
