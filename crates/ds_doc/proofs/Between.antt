-- The faults of a value have a code of 2 or more, and stand at the value or in it.
use Rattle.std.proofs.Common.{◌≡◌, ◌≤◌, ℕ, List, [], ◌∷◌, ◌++◌, Bool, true, false, length, ◌==◌, if◌then◌else◌, Option, Some, None, Result, Ok, Err, arith, refl, nat_le}
use Rattle.std.proofs.lemmas.Bool.Decides.{nat_tests}
use Rattle.serde_json.specs.Data.{Data, null, boolean, string, array, object, Items, no_items, item, Members, no_members}
use Rattle.serde_json.specs.Data as json
use Rattle.serde_json.specs.Find.{as_str}
use Rattle.hex.specs.Hex as hex
use Rattle.ds_doc.specs.declared.fault.Fault.{Fault}
use Rattle.ds_doc.specs.declared.form.Form.{Form}
use Rattle.ds_doc.specs.declared.form.Form.TheVariants.{Single, Listed, Object, Worded}
use Rattle.ds_doc.specs.declared.form.Single as single_form
use Rattle.ds_doc.specs.declared.form.Object as object_form
use Rattle.ds_doc.specs.declared.form.Worded as worded_form
use Rattle.ds_doc.specs.declared.form.Single.TheVariants as single
use Rattle.ds_doc.specs.declared.form.Object.TheVariants as objects
use Rattle.ds_doc.specs.Places.{◌⊕◌, size, items_size, members_size, or_default}
use Rattle.ds_doc.specs.Forms.{member_form, item_form, most}
use Rattle.ds_doc.specs.Shapes.{lesser, least, fault, unless, is_before, is_least, cert_text_faults, text_faults, single_faults, ranged, number_of, first_but_at, whole_faults, is_within, listed, word_arguments, judged, judged_items, judged_members, judged_words, judged_each}
use Rattle.ds_doc.proofs.Least.{least_append}

-- none, or one of code 2 or more from one place to another
abbrev pub IsBetween : ℕ → ℕ → Option Fault → Type 0
IsBetween low high None = Unit {0}
IsBetween low high (Some f) = (2 ≤ f.code) × (low ≤ f.at) × (f.at ≤ high)

wider : (a b c d : ℕ) (o : Option Fault) → c ≤ a → b ≤ d → IsBetween a b o → IsBetween c d o
wider a b c d None low high h = tt
wider a b c d (Some f) low high h = (h.0, omega (arith, low, h.1), omega (arith, high, h.2))

either : (low high : ℕ) (f g : Fault) (b : Bool) → IsBetween low high (Some f) → IsBetween low high (Some g)
    → IsBetween low high (if b then Some g else Some f)
either low high f g true hf hg = hg
either low high f g false hf hg = hf

lesser_between : (low high : ℕ) (f g : Option Fault) → IsBetween low high f → IsBetween low high g → IsBetween low high (lesser f g)
lesser_between low high None g hf hg = hg
lesser_between low high (Some f) None hf hg = hf
lesser_between low high (Some f) (Some g) hf hg = either low high f g (is_before g f) hf hg

both : (low high : ℕ) (fs gs : List Fault) → IsBetween low high (least fs) → IsBetween low high (least gs) → IsBetween low high (least (fs ++ gs))
both low high fs gs hf hg = rw (least_append fs gs) (lesser_between low high (least fs) (least gs) hf hg)

one : (low high code at : ℕ) → 2 ≤ code → low ≤ at → at ≤ high → IsBetween low high (least (fault code at))
one low high code at c l h = (c, l, h)

unless_one : (low high code at : ℕ) (b : Bool) → 2 ≤ code → low ≤ at → at ≤ high → IsBetween low high (least (unless b code at))
unless_one low high code at true c l h = tt
unless_one low high code at false c l h = (c, l, h)

-- places

pub self : (a : ℕ) → a ≤ a
self a = omega arith

pub more : (a b : ℕ) → a ≤ 4294967295 → a ≤ (a ⊕ b)
more a b h = omega (arith, h)

pub within : (a b : ℕ) → (a ⊕ b) ≤ 4294967295
within a b = omega arith

-- a place, a part, and the next part
next : (p a count n : ℕ) → p ≡ a ⊕ count → p ⊕ n ≡ a ⊕ (count ⊕ n)
next p a count n e = omega (arith, e)

grown : (a count n : ℕ) → (a ⊕ count) ≤ (a ⊕ (count ⊕ n))
grown a count n = omega arith

pub ends : (a b c : ℕ) → a ≤ b → b ≤ c → a ≤ c
ends a b c h k = omega (arith, h, k)

items_ends : (a count : ℕ) (ds : Items) → (a ⊕ count) ≤ (a ⊕ items_size count ds)
items_ends a count no_items = self (a ⊕ count)
items_ends a count (item d ds) = ends _ _ _ (grown a count (size d)) (items_ends a (count ⊕ size d) ds)

members_ends : (a count : ℕ) (ms : Members) → (a ⊕ count) ≤ (a ⊕ members_size count ms)
members_ends a count no_members = self (a ⊕ count)
members_ends a count (json.member k d ms) = ends _ _ _ (grown a count (size d)) (members_ends a (count ⊕ size d) ms)

placed : (p a count : ℕ) → p ≡ a ⊕ count → p ≤ 4294967295
placed p a count e = rw e (within a count)

items_rest : (p a count : ℕ) (d : Data) (ds : Items) → p ≡ a ⊕ count → (p ⊕ size d) ≤ (a ⊕ items_size (count ⊕ size d) ds)
items_rest p a count d ds e = rw (next p a count (size d) e) (items_ends a (count ⊕ size d) ds)

members_rest : (p a count : ℕ) (d : Data) (ms : Members) → p ≡ a ⊕ count → (p ⊕ size d) ≤ (a ⊕ members_size (count ⊕ size d) ms)
members_rest p a count d ms e = rw (next p a count (size d) e) (members_ends a (count ⊕ size d) ms)

further : (low p a count n : ℕ) → p ≡ a ⊕ count → low ≤ p → low ≤ (p ⊕ n)
further low p a count n e l = ends low p (p ⊕ n) l (more p n (placed p a count e))

-- numbers and texts

ranged_between : (low high : ℕ) (at : ℕ) (l h : ℕ) (n : Option ℕ) → low ≤ at → at ≤ high → IsBetween low high (least (ranged l h at n))
ranged_between low high at l h None a b = one low high 4 at (omega arith) a b
ranged_between low high at l h (Some n) a b = unless_one low high 5 at _ (omega arith) a b

cert_between : {E : Type 0} → (low high at : ℕ) (r : Result (List ℕ) E) → low ≤ at → at ≤ high → IsBetween low high (least (cert_text_faults at r))
cert_between low high at (Ok bytes) a b = unless_one low high 5 at _ (omega arith) a b
cert_between low high at (Err e) a b = one low high 4 at (omega arith) a b

text_between : (f : single_form.Single) (low high at : ℕ) (s : Option (List ℕ)) → low ≤ at → at ≤ high → IsBetween low high (least (text_faults f at s))
text_between f low high at None a b = one low high 4 at (omega arith) a b
text_between single.Number low high at (Some s) a b = one low high 4 at (omega arith) a b
text_between (single.Ranged l h) low high at (Some s) a b = one low high 4 at (omega arith) a b
text_between single.Name low high at (Some s) a b = unless_one low high 4 at _ (omega arith) a b
text_between single.Seed low high at (Some s) a b = unless_one low high 4 at _ (omega arith) a b
text_between single.Key low high at (Some s) a b = unless_one low high 4 at _ (omega arith) a b
text_between single.Types low high at (Some s) a b = unless_one low high 4 at _ (omega arith) a b
text_between single.Address low high at (Some s) a b = unless_one low high 4 at _ (omega arith) a b
text_between single.Category low high at (Some s) a b = unless_one low high 4 at _ (omega arith) a b
text_between single.Register low high at (Some s) a b = unless_one low high 4 at _ (omega arith) a b
text_between single.Text low high at (Some s) a b = unless_one low high 5 at _ (omega arith) a b
text_between single.Kind low high at (Some s) a b = unless_one low high 4 at _ (omega arith) a b
text_between single.Hex low high at (Some s) a b = unless_one low high 4 at _ (omega arith) a b
text_between single.Cert low high at (Some s) a b = cert_between low high at (hex.decode_of s) a b

single_between : (f : single_form.Single) (low high at : ℕ) (d : Data) → low ≤ at → at ≤ high → IsBetween low high (least (single_faults f at d))
single_between single.Number low high at d a b = unless_one low high 4 at _ (omega arith) a b
single_between (single.Ranged l h) low high at d a b = ranged_between low high at l h (number_of d) a b
single_between single.Name low high at d a b = text_between single.Name low high at (as_str d) a b
single_between single.Seed low high at d a b = text_between single.Seed low high at (as_str d) a b
single_between single.Key low high at d a b = text_between single.Key low high at (as_str d) a b
single_between single.Types low high at d a b = text_between single.Types low high at (as_str d) a b
single_between single.Address low high at d a b = text_between single.Address low high at (as_str d) a b
single_between single.Category low high at d a b = text_between single.Category low high at (as_str d) a b
single_between single.Register low high at d a b = text_between single.Register low high at (as_str d) a b
single_between single.Text low high at d a b = text_between single.Text low high at (as_str d) a b
single_between single.Kind low high at d a b = text_between single.Kind low high at (as_str d) a b
single_between single.Hex low high at d a b = text_between single.Hex low high at (as_str d) a b
single_between single.Cert low high at d a b = text_between single.Cert low high at (as_str d) a b

-- objects as a whole

first_by : (low high p : ℕ) (d : Data) (ms : Members) (b : Bool) → low ≤ p → p ≤ high
    → IsBetween low high (least (first_but_at (p ⊕ size d) ms)) → IsBetween low high (least (if b then first_but_at (p ⊕ size d) ms else fault 3 p))
first_by low high p d ms true l h rest = rest
first_by low high p d ms false l h rest = one low high 3 p (omega arith) l h

first_between : (low a count p : ℕ) (ms : Members) → p ≡ a ⊕ count → low ≤ p → IsBetween low (a ⊕ members_size count ms) (least (first_but_at p ms))
first_between low a count p no_members e l = tt
first_between low a count p (json.member k d ms) e l =
    first_by low (a ⊕ members_size (count ⊕ size d) ms) p d ms _ l (rw e (members_ends a count (json.member k d ms)))
    (first_between low a (count ⊕ size d) (p ⊕ size d) ms (next p a count (size d) e) (further low p a count (size d) e l))

cert_by : (low high at : ℕ) (ms : Members) (b c : Bool) → low ≤ at → at ≤ high → IsBetween low high (least (first_but_at (at ⊕ 1) ms))
    → IsBetween low high (least (if b then fault 2 at else if c then first_but_at (at ⊕ 1) ms else []))
cert_by low high at ms true c l h rest = one low high 2 at (omega arith) l h
cert_by low high at ms false true l h rest = rest
cert_by low high at ms false false l h rest = tt

whole_between : (o : object_form.Object) (at : ℕ) (ms : Members) → at ≤ 4294967295 → IsBetween at (at ⊕ members_size 1 ms) (least (whole_faults o at ms))
whole_between objects.Document at ms h = unless_one at _ 2 at _ (omega arith) (self at) (more at _ h)
whole_between objects.Host at ms h = unless_one at _ 2 at _ (omega arith) (self at) (more at _ h)
whole_between objects.Proc at ms h = unless_one at _ 2 at _ (omega arith) (self at) (more at _ h)
whole_between objects.Box at ms h = unless_one at _ 2 at _ (omega arith) (self at) (more at _ h)
whole_between objects.Lane at ms h = unless_one at _ 2 at _ (omega arith) (self at) (more at _ h)
whole_between objects.Inlet at ms h = unless_one at _ 2 at _ (omega arith) (self at) (more at _ h)
whole_between objects.Cert at ms h = cert_by at _ at ms _ _ (self at) (more at _ h) (first_between at at 1 (at ⊕ 1) ms refl (more at 1 h))

-- values

member_by : (low high p : ℕ) (d : Data) (o : Option Form) → low ≤ p → p ≤ high → ((form : Form) → IsBetween low high (least (judged form p d)))
    → IsBetween low high (least (or_default (fault 3 p) (λ form. judged form p d) o))
member_by low high p d None l h all = one low high 3 p (omega arith) l h
member_by low high p d (Some form) l h all = all form

count_by : (low high at p : ℕ) (ds : Items) (forms : List Form) (b : Bool) → low ≤ at → at ≤ high → IsBetween low high (least (judged_each forms p ds))
    → IsBetween low high (least (if b then judged_each forms p ds else fault 4 at))
count_by low high at p ds forms true l h rest = rest
count_by low high at p ds forms false l h rest = one low high 4 at (omega arith) l h

words_by : (low high at p : ℕ) (ds : Items) (o : Option (List Form)) → low ≤ at → at ≤ high → low ≤ (at ⊕ 1) → (at ⊕ 1) ≤ high
    → ((forms : List Form) → IsBetween low high (least (judged_each forms p ds)))
    → IsBetween low high (least (or_default (fault 4 (at ⊕ 1)) (λ forms. if length (listed ds) == length forms then judged_each forms p ds else fault 4 at)
    o))
words_by low high at p ds None l h l1 h1 all = one low high 4 (at ⊕ 1) (omega arith) l1 h1
words_by low high at p ds (Some forms) l h l1 h1 all = count_by low high at p ds forms _ l h (all forms)

mutual
  pub judged_between : (form : Form) (at : ℕ) (d : Data) → at ≤ 4294967295 → IsBetween at (at ⊕ size d) (least (judged form at d))
  judged_between (Single f) at d h = single_between f at _ at d (self at) (more at _ h)
  judged_between (Listed f) at (array ds) h =
      both at (at ⊕ items_size 1 ds) (unless (is_within (most f) (listed ds)) 5 at) (judged_items (item_form f) (at ⊕ 1) ds)
      (unless_one at (at ⊕ items_size 1 ds) 5 at (is_within (most f) (listed ds)) (omega arith) (self at) (more at _ h))
      (items_between (item_form f) at at 1 (at ⊕ 1) ds refl (more at 1 h))
  judged_between (Listed f) at null h = one at _ 4 at (omega arith) (self at) (more at _ h)
  judged_between (Listed f) at (boolean b) h = one at _ 4 at (omega arith) (self at) (more at _ h)
  judged_between (Listed f) at (json.number n) h = one at _ 4 at (omega arith) (self at) (more at _ h)
  judged_between (Listed f) at (string s) h = one at _ 4 at (omega arith) (self at) (more at _ h)
  judged_between (Listed f) at (object ms) h = one at _ 4 at (omega arith) (self at) (more at _ h)
  judged_between (Object f) at (object ms) h =
      both at (at ⊕ members_size 1 ms) (whole_faults f at ms) (judged_members f (at ⊕ 1) ms) (whole_between f at ms h)
      (members_between f at at 1 (at ⊕ 1) ms refl (more at 1 h))
  judged_between (Object f) at null h = one at _ 4 at (omega arith) (self at) (more at _ h)
  judged_between (Object f) at (boolean b) h = one at _ 4 at (omega arith) (self at) (more at _ h)
  judged_between (Object f) at (json.number n) h = one at _ 4 at (omega arith) (self at) (more at _ h)
  judged_between (Object f) at (string s) h = one at _ 4 at (omega arith) (self at) (more at _ h)
  judged_between (Object f) at (array ds) h = one at _ 4 at (omega arith) (self at) (more at _ h)
  judged_between (Worded f) at (array ds) h = words_between f at ds h
  judged_between (Worded f) at null h = one at _ 4 at (omega arith) (self at) (more at _ h)
  judged_between (Worded f) at (boolean b) h = one at _ 4 at (omega arith) (self at) (more at _ h)
  judged_between (Worded f) at (json.number n) h = one at _ 4 at (omega arith) (self at) (more at _ h)
  judged_between (Worded f) at (string s) h = one at _ 4 at (omega arith) (self at) (more at _ h)
  judged_between (Worded f) at (object ms) h = one at _ 4 at (omega arith) (self at) (more at _ h)

  pub items_between : (form : Form) (low a count p : ℕ) (ds : Items) → p ≡ a ⊕ count → low ≤ p
      → IsBetween low (a ⊕ items_size count ds) (least (judged_items form p ds))
  items_between form low a count p no_items e l = tt
  items_between form low a count p (item d ds) e l =
      both low (a ⊕ items_size (count ⊕ size d) ds) (judged form p d) (judged_items form (p ⊕ size d) ds)
      (wider p (p ⊕ size d) low _ (least (judged form p d)) l (items_rest p a count d ds e) (judged_between form p d (placed p a count e)))
      (items_between form low a (count ⊕ size d) (p ⊕ size d) ds (next p a count (size d) e) (further low p a count (size d) e l))

  pub members_between : (f : object_form.Object) (low a count p : ℕ) (ms : Members) → p ≡ a ⊕ count → low ≤ p
      → IsBetween low (a ⊕ members_size count ms) (least (judged_members f p ms))
  members_between f low a count p no_members e l = tt
  members_between f low a count p (json.member k d ms) e l =
      both low (a ⊕ members_size (count ⊕ size d) ms) (or_default (fault 3 p) (λ form. judged form p d) (member_form f k)) (judged_members f (p ⊕ size d) ms)
      (wider p (p ⊕ size d) low _ (least (or_default (fault 3 p) (λ form. judged form p d) (member_form f k))) l (members_rest p a count d ms e)
      (member_by p (p ⊕ size d) p d (member_form f k) (self p) (more p (size d) (placed p a count e)) (λ form. judged_between form p d (placed p a count e))))
      (members_between f low a (count ⊕ size d) (p ⊕ size d) ms (next p a count (size d) e) (further low p a count (size d) e l))

  pub words_between : (f : worded_form.Worded) (at : ℕ) (ds : Items) → at ≤ 4294967295 → IsBetween at (at ⊕ items_size 1 ds) (least (judged_words f at ds))
  words_between f at no_items h = one at _ 4 at (omega arith) (self at) (more at _ h)
  words_between f at (item word ds) h =
      words_by at (at ⊕ items_size (1 ⊕ size word) ds) at (at ⊕ 1 ⊕ size word) ds (word_arguments f word) (self at) (more at _ h) (more at 1 h)
      (items_ends at 1 (item word ds))
      (λ forms. each_between forms at at (1 ⊕ size word) (at ⊕ 1 ⊕ size word) ds (next (at ⊕ 1) at 1 (size word) refl)
      (further at (at ⊕ 1) at 1 (size word) refl (more at 1 h)))

  pub each_between : (forms : List Form) (low a count p : ℕ) (ds : Items) → p ≡ a ⊕ count → low ≤ p
      → IsBetween low (a ⊕ items_size count ds) (least (judged_each forms p ds))
  each_between [] low a count p ds e l = tt
  each_between (form ∷ forms) low a count p no_items e l = tt
  each_between (form ∷ forms) low a count p (item d ds) e l =
      both low (a ⊕ items_size (count ⊕ size d) ds) (judged form p d) (judged_each forms (p ⊕ size d) ds)
      (wider p (p ⊕ size d) low _ (least (judged form p d)) l (items_rest p a count d ds e) (judged_between form p d (placed p a count e)))
      (each_between forms low a (count ⊕ size d) (p ⊕ size d) ds (next p a count (size d) e) (further low p a count (size d) e l))

pub member_between : (p : ℕ) (d : Data) (o : Option Form) → p ≤ 4294967295
    → IsBetween p (p ⊕ size d) (least (or_default (fault 3 p) (λ form. judged form p d) o))
member_between p d o h = member_by p _ p d o (self p) (more p _ h) (λ form. judged_between form p d h)

-- a fault of the least code comes before all that stand behind it

stays_by : (f g : Fault) → nat_le f.code 2 ≡ true → 2 ≤ g.code → f.at ≤ g.at → is_before g f ≡ false
stays_by f g e c h = grind (arith, nat_tests)

pub stays : (f g : Option Fault) (low here high : ℕ) → is_least f ≡ true → IsBetween low here f → IsBetween here high g → lesser f g ≡ f
stays None g low here high e h k = absurd cc
stays (Some f) None low here high e h k = refl
stays (Some f) (Some g) low here high e h k = rw (stays_by f g e k.0 (ends _ _ _ h.2 k.1)) refl

-- a fault of the least code among two, if the second is one

kept_by : (f g : Fault) → nat_le g.code 2 ≡ true → is_before g f ≡ false → nat_le f.code 2 ≡ true
kept_by f g e h = grind (arith, nat_tests)

kept_if : (f g : Fault) (b : Bool) → is_before g f ≡ b → nat_le g.code 2 ≡ true → is_least (if b then Some g else Some f) ≡ true
kept_if f g true h e = e
kept_if f g false h e = kept_by f g e h

pub keeps_least : (f g : Option Fault) → is_least g ≡ true → is_least (lesser f g) ≡ true
keeps_least None g e = e
keeps_least (Some f) None e = absurd cc
keeps_least (Some f) (Some g) e = kept_if f g (is_before g f) refl e

not_least_by : (b : Bool) (f g : Option Fault) → is_least g ≡ b → is_least (lesser f g) ≡ false → is_least g ≡ false
not_least_by true f g h e = let k = keeps_least f g h in absurd cc
not_least_by false f g h e = h

-- what is not of the least code was not before
pub not_least : (f g : Option Fault) → is_least (lesser f g) ≡ false → is_least g ≡ false
not_least f g e = not_least_by (is_least g) f g refl e

-- an object as a whole has a fault of the least code at its own place alone

first_not_by : (p : ℕ) (d : Data) (ms : Members) (b : Bool) → is_least (least (first_but_at (p ⊕ size d) ms)) ≡ false
    → is_least (least (if b then first_but_at (p ⊕ size d) ms else fault 3 p)) ≡ false
first_not_by p d ms true rest = rest
first_not_by p d ms false rest = refl

first_not : (p : ℕ) (ms : Members) → is_least (least (first_but_at p ms)) ≡ false
first_not p no_members = refl
first_not p (json.member k d ms) = first_not_by p d ms _ (first_not (p ⊕ size d) ms)

here_by : (at : ℕ) (ms : Members) (b c : Bool) → is_least (least (if b then fault 2 at else if c then first_but_at (at ⊕ 1) ms else [])) ≡ true
    → IsBetween at at (least (if b then fault 2 at else if c then first_but_at (at ⊕ 1) ms else []))
here_by at ms true c e = one at at 2 at (omega arith) (self at) (self at)
here_by at ms false true e = let h = first_not (at ⊕ 1) ms in absurd cc
here_by at ms false false e = tt

pub whole_here : (o : object_form.Object) (at : ℕ) (ms : Members) → is_least (least (whole_faults o at ms)) ≡ true
    → IsBetween at at (least (whole_faults o at ms))
whole_here objects.Document at ms e = unless_one at at 2 at _ (omega arith) (self at) (self at)
whole_here objects.Host at ms e = unless_one at at 2 at _ (omega arith) (self at) (self at)
whole_here objects.Proc at ms e = unless_one at at 2 at _ (omega arith) (self at) (self at)
whole_here objects.Box at ms e = unless_one at at 2 at _ (omega arith) (self at) (self at)
whole_here objects.Lane at ms e = unless_one at at 2 at _ (omega arith) (self at) (self at)
whole_here objects.Inlet at ms e = unless_one at at 2 at _ (omega arith) (self at) (self at)
whole_here objects.Cert at ms e = here_by at ms _ _ e

-- sizes counted from a place

pub items_moved : (a count : ℕ) (ds : Items) → items_size (a ⊕ count) ds ≡ a ⊕ items_size count ds
items_moved a count no_items = refl
items_moved a count (item d ds) = rw (next (a ⊕ count) a count (size d) refl) (items_moved a (count ⊕ size d) ds)

pub members_moved : (a count : ℕ) (ms : Members) → members_size (a ⊕ count) ms ≡ a ⊕ members_size count ms
members_moved a count no_members = refl
members_moved a count (json.member k d ms) = rw (next (a ⊕ count) a count (size d) refl) (members_moved a (count ⊕ size d) ms)
