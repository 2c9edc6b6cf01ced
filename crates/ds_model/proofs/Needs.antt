-- The entry that an object makes may stand.
use Rattle.std.proofs.Common.{◌≡◌, ℕ, suc, Bool, true, false, not, ◌&&◌, ◌||◌, List, ◌∷◌, Option, Some, None, refl, ap, subst, arith, length, eq-eqb}
use Rattle.std.specs.Prelude.{min, nat_lt, nat_le, if◌then◌else◌}
use Rattle.std.proofs.lemmas.Bool.Decides.{nat_tests}
use Rattle.ds_label.specs.declared.rule.Rule.{Rule}
use Rattle.ds_label.specs.declared.rule.Rule.TheVariants.{StoreFull, TableFull, KeySpent, BadCert}
use Rattle.ds_label.specs.declared.category.Category.{Category}
use Rattle.ds_label.specs.declared.category.PubKey.{PubKey}
use Rattle.ds_cert.specs.declared.cert.Cert.{Cert}
use Rattle.ds_cert.specs.declared.cert.Cert.TheVariants as certs
use Rattle.ds_model.specs.FirstRule.{unless, or_else}
use Rattle.ds_model.specs.Mapping.{is_known, row_limit}
use Rattle.ds_model.specs.Scheme.{Scheme}
use Rattle.ds_model.specs.Plan.{HostPlan}
use Rattle.ds_model.specs.Mailbox.{PutIn, FoundFull, put_entry, box_needs}
use Rattle.ds_model.specs.Lane.{Queued, QueueFull, Lifted, admit_entry, lane_needs, frame_limit}
use Rattle.ds_cert.proofs.Same.{delegation_itself}
use Rattle.ds_model.specs.Scheme.{delegation_by}
use Rattle.ds_model.specs.Inlet.{Inlet, Fresh, Stale, is_fresh, number_entry, inlet_needs}
use Rattle.ds_model.specs.Desk.{Desk, Delegated, Imported, Mapped, Act, Delegating, Importing, Mapping, act_entry, import_entry, import_rule, entry_unless, is_good, is_none, desk_needs, denied_needs, store_limit, address_limit}
use Rattle.ds_cert.specs.NoDoubles.{is_kept, is_kept_address}

-- what isn't below is at least
pub not_below : (n m : ℕ) → nat_lt n m ≡ false → nat_le m n ≡ true
not_below n m e = grind (arith, nat_tests)

pub put_may : {M : Type 0} (room : ℕ) (m : M) (waiting : List M) → box_needs room (put_entry room m waiting) waiting ≡ true
put_may {M} room m waiting = go (nat_lt (length waiting) room) refl
  where
    go : (b : Bool) → nat_lt (length waiting) room ≡ b → box_needs room (if b then PutIn m else FoundFull m) waiting ≡ true
    go true e = e
    go false e = not_below (length waiting) room e

pub admit_may : {M : Type 0} (room : ℕ) (m : M) (waiting : List M) → lane_needs room (admit_entry room m waiting) waiting ≡ true
admit_may {M} room m waiting = go (nat_lt (length waiting) room) refl
  where
    go : (b : Bool) → nat_lt (length waiting) room ≡ b → lane_needs room (if b then Queued m else QueueFull m) waiting ≡ true
    go true e = e
    go false e = not_below (length waiting) room e

both : (a b : Bool) → a ≡ true → b ≡ true → (a && b) ≡ true
both a b p q = grind arith

pub some_more : (n : ℕ) → nat_lt 0 (suc n) ≡ true
some_more n = grind (arith, nat_tests)

some_lift : (n : ℕ) → nat_lt 0 (min 16 (suc n)) ≡ true
some_lift n = grind (arith, nat_tests)

pub lift_may : {M : Type 0} (room : ℕ) (m : M) (waiting : List M) → lane_needs room (Lifted (min frame_limit (length (m ∷ waiting)))) (m ∷ waiting) ≡ true
lift_may {M} room m waiting = both _ _ (some_lift (length waiting)) (eq-eqb _ _ refl)

pub number_may : (number : ℕ) (last : Inlet) → inlet_needs (number_entry number last) last ≡ true
number_may number last = go (is_fresh number last) refl
  where
    go : (b : Bool) → is_fresh number last ≡ b → inlet_needs (if b then Fresh number else Stale number) last ≡ true
    go true e = e
    go false e = ap not e

or_right : (a b : Bool) → b ≡ true → (a || b) ≡ true
or_right true b h = refl
or_right false b h = h

or_left : (a b : Bool) → a ≡ true → (a || b) ≡ true
or_left a b h = grind arith

-- a test that fails has neither part
second_false : (a b : Bool) → (a || b) ≡ false → b ≡ false
second_false true b h = absurd (grind arith)
second_false false b h = h

module _ (s : Scheme) (plan : HostPlan) (d : Desk) where
  delegate_may : (c : Category) (to : PubKey) (from until : ℕ) → desk_needs s plan (act_entry s plan d (Delegating c to from until)) d ≡ true
  delegate_may c to from until = go (nat_lt (length d.store) store_limit) (s.has_leaf plan.signing d.leaf) refl refl
    where
      go : (a b : Bool) → nat_lt (length d.store) store_limit ≡ a → s.has_leaf plan.signing d.leaf ≡ b →
          desk_needs s plan (entry_unless (or_else (unless a StoreFull) (or_else (unless b KeySpent) None)) (Delegated (delegation_by s plan.signing d.leaf plan.key c to from until))) d ≡ true
      go true true p q = both _ _ (both _ _ p q) (delegation_itself (delegation_by s plan.signing d.leaf plan.key c to from until))
      go true false p q = ap not q
      go false b p q = or_left _ _ (not_below (length d.store) store_limit p)

  kept_may : (new : Cert) (r : Option Rule) → is_good s new ≡ true → import_rule d new ≡ r → desk_needs s plan (entry_unless (or_else None (or_else r None)) (Imported new)) d ≡ true
  kept_may new None good e = both _ _ good (ap is_none e)
  kept_may (certs.Delegation new) (Some rule) good e = go (is_kept new d.store || nat_lt (length d.store) store_limit) refl e
    where
      go : (b : Bool) → (is_kept new d.store || nat_lt (length d.store) store_limit) ≡ b → unless b StoreFull ≡ Some rule → denied_needs s plan rule d ≡ true
      go true p q = absurd (grind arith)
      go false p q = let same : StoreFull ≡ rule = cc in subst (λ r. denied_needs s plan r d ≡ true) same (or_left _ _ (not_below (length d.store) store_limit (second_false _ _ p)))
  kept_may (certs.Address new) (Some rule) good e = go (is_kept_address new d.addresses || nat_lt (length d.addresses) address_limit) refl e
    where
      go : (b : Bool) → (is_kept_address new d.addresses || nat_lt (length d.addresses) address_limit) ≡ b → unless b StoreFull ≡ Some rule → denied_needs s plan rule d ≡ true
      go true p q = absurd (grind arith)
      go false p q = let same : StoreFull ≡ rule = cc in subst (λ r. denied_needs s plan r d ≡ true) same (or_right _ _ (not_below (length d.addresses) address_limit (second_false _ _ p)))

  import_may : (o : Option Cert) → desk_needs s plan (import_entry s d o) d ≡ true
  import_may None = refl
  import_may (Some new) = go (is_good s new) refl
    where
      go : (b : Bool) → is_good s new ≡ b → desk_needs s plan (entry_unless (or_else (unless b BadCert) (or_else (import_rule d new) None)) (Imported new)) d ≡ true
      go true good = kept_may new (import_rule d new) good refl
      go false bad = refl

  map_may : (c : Category) → desk_needs s plan (act_entry s plan d (Mapping c)) d ≡ true
  map_may c = go (is_known plan.key d.rows c || nat_lt (length d.rows) row_limit) refl
    where
      go : (b : Bool) → (is_known plan.key d.rows c || nat_lt (length d.rows) row_limit) ≡ b → desk_needs s plan (entry_unless (unless b TableFull) (Mapped c)) d ≡ true
      go true p = p
      go false p = not_below (length d.rows) row_limit (second_false _ _ p)

  pub act_may : (act : Act) → desk_needs s plan (act_entry s plan d act) d ≡ true
  act_may (Delegating c to from until) = delegate_may c to from until
  act_may (Importing bytes) = import_may (s.read_cert bytes)
  act_may (Mapping c) = map_may c
