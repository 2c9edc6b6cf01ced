-- What flow does to one secrecy category.
use Rattle.std.proofs.Common.{◌≡◌, ℕ, Bool, true, false, List, ◌&&◌, ◌||◌, refl, ◌∙◌, ap, ◌⊎◌, inl, inr, arith}
use Rattle.std.specs.Str.{bytes_eq}
use Rattle.std.proofs.lemmas.Slice.Eq.{bytes_eq-Decides}
use Rattle.ds_label.specs.declared.category.PubKey.{PubKey}
use Rattle.ds_label.specs.declared.category.Category.{Category}
use Rattle.ds_label.specs.Flow.{has, flows, same_label, union, with_member}
use Rattle.ds_label.specs.Names.{is_secrecy, same_category, by_name}
use Rattle.ds_model.specs.Keys.{same_key}
use Rattle.ds_label.proofs.Namings.{names}
use Rattle.ds_label.proofs.Members.{same-is, has-with_member}
use Rattle.ds_label.proofs.Flows as labels

pub and_left : (a b : Bool) → (a && b) ≡ true → a ≡ true
and_left true b h = refl
and_left false b h = h

pub and_right : (a b : Bool) → (a && b) ≡ true → b ≡ true
and_right true b h = h
and_right false b h = absurd (grind arith)

pub and_both : (a b : Bool) → a ≡ true → b ≡ true → (a && b) ≡ true
and_both a b p q = grind arith

pub or_cases : (a b : Bool) → (a || b) ≡ true → (a ≡ true) ⊎ (b ≡ true)
or_cases true b h = inl refl
or_cases false b h = inr h

pub or_left : (a b : Bool) → a ≡ true → (a || b) ≡ true
or_left a b h = grind arith

pub or_right : (a b : Bool) → b ≡ true → (a || b) ≡ true
or_right true b h = refl
or_right false b h = h

pub or_none : (a b : Bool) → (a || b) ≡ false → (a ≡ false) × (b ≡ false)
or_none true b h = absurd (grind arith)
or_none false b h = (refl, h)

pub not_both : (a : Bool) → a ≡ true → a ≡ false → ⊥
not_both a p q = grind arith

same_bytes_is : (xs ys : List ℕ) → bytes_eq xs ys ≡ true → xs ≡ ys
same_bytes_is xs ys h = (bytes_eq-Decides xs ys).0 h

pub same_key_is : (a b : PubKey) → same_key a b ≡ true → a ≡ b
same_key_is a b h = let k : a.0 ≡ b.0 = same_bytes_is a.0 b.0 h in λ i. record { 0 = k i }

pub key_same : (a b : PubKey) → a ≡ b → same_key a b ≡ true
key_same a b e = (bytes_eq-Decides a.0 b.0).1 (ap (λ k. k.0) e)

pub same_category_is : (a b : Category) → same_category a b ≡ true → a ≡ b
same_category_is a b h = (same-is by_name names a b).0 h

-- a secrecy category goes with the flow, and with equal labels both ways
pub flows_carries : (c : Category) (first second owned : List Category) → is_secrecy c.kind ≡ true → flows by_name first second owned ≡ true → has by_name c first ≡ true → (has by_name c second || has by_name c owned) ≡ true
flows_carries = labels.flows_carries by_name names

pub same_label_carries : (c : Category) (first second : List Category) → same_label by_name first second ≡ true → has by_name c first ≡ true → has by_name c second ≡ true
same_label_carries = labels.same_label_carries by_name names

pub same_label_carries_back : (c : Category) (first second : List Category) → same_label by_name first second ≡ true → has by_name c second ≡ true → has by_name c first ≡ true
same_label_carries_back = labels.same_label_carries_back by_name names

-- what was a member is one of a longer label
pub union_keeps : (c : Category) (first second : List Category) → has by_name c first ≡ true → has by_name c (union by_name first second) ≡ true
union_keeps c first second h = labels.has-union by_name names c first second ∙ or_left _ _ h

pub member_keeps : (c d : Category) (members : List Category) → has by_name c members ≡ true → has by_name c (with_member by_name d members) ≡ true
member_keeps c d members h = has-with_member by_name names c d members ∙ or_right _ _ h
