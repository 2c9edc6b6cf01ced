-- What the test for a spelling says: the message fits, and its certificates are bytes.
use Rattle.std.proofs.Common.{◌≡◌, ℕ, zero, suc, ◌<◌, ◌≤◌, ◌^◌, Bool, true, false, List, [], ◌∷◌, length, refl, sym, ap, ◌∙◌, arith}
use Rattle.std.specs.Prelude.{Result, Ok, Err, ◌&&◌, not, nat_lt, nat_le, get_or, bytes_eq}
use Rattle.std.specs.Bool.{Decides}
use Rattle.std.specs.List.{list_all, AllByRecursion, IsDistinct}
use Rattle.std.specs.List.Sorted.{IsStrictlySortedBy}
use Rattle.std.specs.Ordering.{is_lt}
use Rattle.std.specs.declared.cmp.Ordering.{Ordering}
use Rattle.std.specs.declared.cmp.Ordering.TheVariants.{Less}
use Rattle.std.proofs.lemmas.Bool.{leb-true, le-leb}
use Rattle.std.proofs.lemmas.Bool.Decides.{Decides-and, Decides-like, Decides-eqb, Decides-ltb}
use Rattle.ds_wire.specs.Fields.{IsBytes}
use Rattle.ds_label.specs.declared.category.PubKey.{PubKey}
use Rattle.ds_label.specs.declared.category.Category.{Category}
use Rattle.ds_label.specs.Flow.{IsRising}
use Rattle.ds_label.specs.Names.{by_name}
use Rattle.ds_label.proofs.Members.{lt_is}
use Rattle.ds_cert.specs.declared.delegation.Delegation.{Delegation}
use Rattle.ds_cert.specs.Fields.{placed}
use Rattle.ds_cert.specs.Ranges.{KeyFits, CategoryFits, LabelFits, DelegationFits}
use Rattle.ds_cert.specs.Reading.{delegation_at, read_delegation}
use Rattle.ds_cert.specs.Spelling.{spelling_of_delegation}
use Rattle.ds_cert.proofs.RecordLaws.{is_delegation}
use Rattle.ds_cert.proofs.Wholes.{found_whole, alone_again}
use Rattle.ds_msg.specs.declared.message.Message.{Message}
use Rattle.ds_msg.specs.Ranges.{SpellsDelegation, CertsFit, MessageFits}
use Rattle.ds_msg.specs.Reading.{is_read}
use Rattle.ds_scheme.specs.Spelled.{is_key, is_category, are_rising, is_label, spells_delegation, are_distinct, are_certs, has_spelling}

each_is : {X : Type 0} (p : X → Bool) (P : X → Type 0) → ((x : X) → Decides (p x) (P x)) → (xs : List X) → Decides (list_all p xs) (AllByRecursion P xs)
each_is p P is [] = (λ e. tt, λ each. refl)
each_is p P is (x ∷ xs) = Decides-and (p x) (list_all p xs) (is x) (each_is p P is xs)

most_is : (a b : ℕ) → Decides (nat_le a b) (a ≤ b)
most_is a b = (leb-true a b, le-leb a b)

not_is : (b : Bool) → Decides (not b) (b ≡ false)
not_is true = (λ e. sym e, λ e. sym e)
not_is false = (λ e. refl, λ e. refl)

less_is : (o : Ordering) → Decides (is_lt o) (o ≡ Less)
less_is o = (lt_is o, λ e. ap is_lt e)

key_is : (key : PubKey) → Decides (is_key key) (KeyFits key)
key_is key = Decides-eqb (length key.0) 56

category_is : (c : Category) → Decides (is_category c) (CategoryFits c)
category_is c = Decides-like (is_category c) (λ known. record { creator = known.0; number = known.1 }) (λ fits. (fits.creator, fits.number)) (Decides-and (is_key c.creator) (nat_lt c.number (2 ^ 64)) (key_is c.creator) (Decides-ltb c.number (2 ^ 64)))

rising_is : (members : List Category) → Decides (are_rising members) (IsRising by_name members)
unfolding IsStrictlySortedBy
rising_is [] = (λ e. tt, λ rising. refl)
rising_is (c ∷ members) = Decides-and (list_all (λ d. is_lt (by_name.compare c d)) members) (are_rising members) (each_is (λ d. is_lt (by_name.compare c d)) (λ d. by_name.compare c d ≡ Less) (λ d. less_is (by_name.compare c d)) members) (rising_is members)

label_is : (members : List Category) → Decides (is_label members) (LabelFits members)
label_is members =
    Decides-like (is_label members) (λ known. record { count = known.0; each = known.1.0; rising = known.1.1 }) (λ fits. (fits.count, (fits.each, fits.rising)))
    (Decides-and (nat_le (length members) 64) (list_all is_category members && are_rising members) (most_is (length members) 64)
    (Decides-and (list_all is_category members) (are_rising members) (each_is is_category CategoryFits category_is members) (rising_is members)))

bytes_is : (bytes : List ℕ) → Decides (list_all (λ b. nat_lt b 256) bytes) (IsBytes bytes)
bytes_is [] = (λ e i. omega arith, λ fits. refl)
bytes_is (b ∷ bytes) = Decides-like (list_all (λ b. nat_lt b 256) (b ∷ bytes)) (λ known. all known.0 known.1) (λ fits. (fits 0, λ i. fits (suc i))) (Decides-and (nat_lt b 256) (list_all (λ b. nat_lt b 256) bytes) (Decides-ltb b 256) (bytes_is bytes))
  where
    all : b < 256 → IsBytes bytes → (i : ℕ) → get_or (b ∷ bytes) i 0 < 256
    all first later zero = first
    all first later (suc i) = later i

-- ---- certificates

read_spells : (bytes : List ℕ) → IsBytes bytes → is_read (read_delegation bytes) ≡ true → SpellsDelegation bytes
unfolding read_delegation
read_spells bytes fits e = cases (read_delegation bytes) refl e
  where
    cases : (r : Result Delegation ℕ) → read_delegation bytes ≡ r → is_read r ≡ true → SpellsDelegation bytes
    cases (Ok d) f g = let spelt = found_whole DelegationFits spelling_of_delegation delegation_at is_delegation DelegationFits (λ x fit. fit) bytes (Ok d) fits f in record { delegation = d; fits = spelt.0; spelled = spelt.1 }
    cases (Err place) f g = absurd cc

spells_read : (bytes : List ℕ) → SpellsDelegation bytes → is_read (read_delegation bytes) ≡ true
unfolding read_delegation
spells_read bytes s =
    let d = s.delegation in
    let again : read_delegation (spelling_of_delegation d) ≡ Ok d = ap (placed (spelling_of_delegation d)) (alone_again DelegationFits spelling_of_delegation delegation_at is_delegation d s.fits) in
    ap (λ (b : List ℕ). is_read (read_delegation b)) s.spelled ∙ ap is_read again

-- bytes that spell a delegation
pub record SpelledBytes (bytes : List ℕ) : Type 0 where
  pub bytes_fit : IsBytes bytes
  pub spells : SpellsDelegation bytes

delegation_is : (bytes : List ℕ) → Decides (spells_delegation bytes) (SpelledBytes bytes)
delegation_is bytes = (from (list_all (λ b. nat_lt b 256) bytes) (bytes_is bytes), to)
  where
    from : (b : Bool) → Decides b (IsBytes bytes) → (b && is_read (read_delegation bytes)) ≡ true → SpelledBytes bytes
    from true d e = record { bytes_fit = d.0 refl; spells = read_spells bytes (d.0 refl) e }
    from false d e = absurd cc

    to : SpelledBytes bytes → spells_delegation bytes ≡ true
    to s = rw ((bytes_is bytes).1 s.bytes_fit) (spells_read bytes s.spells)

distinct_is : (certs : List (List ℕ)) → Decides (are_distinct certs) (IsDistinct bytes_eq certs)
unfolding IsDistinct
distinct_is [] = (λ e. tt, λ distinct. refl)
distinct_is (bytes ∷ later) = Decides-and (list_all (λ other. not (bytes_eq bytes other)) later) (are_distinct later) (each_is (λ other. not (bytes_eq bytes other)) (λ other. bytes_eq bytes other ≡ false) (λ other. not_is (bytes_eq bytes other)) later) (distinct_is later)

both_each : (certs : List (List ℕ)) → AllByRecursion SpelledBytes certs → AllByRecursion SpellsDelegation certs × AllByRecursion IsBytes certs
both_each [] each = (tt, tt)
both_each (bytes ∷ later) each = let b = both_each later each.1 in ((each.0.spells, b.0), (each.0.bytes_fit, b.1))

each_both : (certs : List (List ℕ)) → AllByRecursion SpellsDelegation certs → AllByRecursion IsBytes certs → AllByRecursion SpelledBytes certs
each_both [] each fit = tt
each_both (bytes ∷ later) each fit = (record { bytes_fit = fit.0; spells = each.0 }, each_both later each.1 fit.1)

certs_is : (certs : List (List ℕ)) → Decides (are_certs certs) (CertsFit certs × AllByRecursion IsBytes certs)
certs_is certs =
    Decides-like (are_certs certs) (λ known. let b = both_each certs known.1.0 in (record { count = known.0; each = b.0; once = known.1.1 }, b.1)) (λ fits. (fits.0.count, (each_both certs fits.0.each fits.1, fits.0.once)))
    (Decides-and (nat_le (length certs) 16) (list_all spells_delegation certs && are_distinct certs) (most_is (length certs) 16)
    (Decides-and (list_all spells_delegation certs) (are_distinct certs) (each_is spells_delegation SpelledBytes delegation_is certs) (distinct_is certs)))

-- ---- messages

pub spelling_is : (m : Message) → Decides (has_spelling m) (MessageFits m × AllByRecursion IsBytes m.certs)
spelling_is m =
    Decides-like (has_spelling m)
    (λ known. (record { to = known.0; slot = known.1.0; label = known.1.1.0; own = known.1.1.1.0; clear = known.1.1.1.1.0; range = record { certs = known.1.1.1.1.1.0.0; payload = known.1.1.1.1.1.1 } }, known.1.1.1.1.1.0.1))
    (λ fits. (fits.0.to, (fits.0.slot, (fits.0.label, (fits.0.own, (fits.0.clear, ((fits.0.range.certs, fits.1), fits.0.range.payload)))))))
    (Decides-and _ _ (key_is m.to)
    (Decides-and _ _ (Decides-ltb m.slot (2 ^ 32))
    (Decides-and _ _ (label_is m.label)
    (Decides-and _ _ (label_is m.own)
    (Decides-and _ _ (label_is m.clear)
    (Decides-and _ _ (certs_is m.certs) (most_is (length m.payload) 16384)))))))
