-- A label or a certificate that is read is the one that was written, and what was written is read again.
use Rattle.std.proofs.Common.{◌≡◌, ℕ, zero, suc, ◌^◌, ◌<◌, true, cond, List, [], ◌∷◌, ◌++◌, length, Option, Some, None, refl, sym, ap, subst, ◌∙◌, append_assoc, arith}
use Rattle.std.specs.Prelude.{Result, Ok, Err}
use Rattle.std.specs.Int.{w8, w32, w64, to_be_bytes}
use Rattle.std.specs.List.{flat_map, AllByRecursion}
use Rattle.std.specs.List.Sorted.{IsStrictlySortedBy}
use Rattle.std.specs.declared.cmp.Ordering.TheVariants.{Less}
use Rattle.std.specs.Ordering.{is_lt}
use Rattle.std.proofs.lemmas.List.Concat.{flat_map-cons}
use Rattle.ds_wire.specs.Fields.{IsBytes}
use Rattle.ds_wire.proofs.FieldLaws.{wide8, wide32}
use Rattle.ds_label.specs.declared.category.Category.{Category}
use Rattle.ds_label.specs.Flow.{is_above, IsRising}
use Rattle.ds_label.specs.Names.{by_name, category_cmp}
use Rattle.ds_label.proofs.Namings.{names}
use Rattle.ds_label.proofs.Members.{lt_is}
use Rattle.ds_cert.specs.declared.delegation.Delegation.{Delegation}
use Rattle.ds_cert.specs.declared.address.Address.{Address}
use Rattle.ds_cert.specs.declared.lane.LaneCert.{LaneCert}
use Rattle.ds_cert.specs.Categories.{category_in}
use Rattle.ds_cert.specs.Fields.{◌>>=◌, number_within}
use Rattle.ds_cert.specs.Ranges.{CategoryFits, LabelFits, DelegationFits, AddressFits, LaneCertFits}
use Rattle.ds_cert.specs.Spelling.{spelling_of_category, spelling_of_label, spelling_of_address_text, spelling_of_signature, signed_part_of_delegation, spelling_of_delegation, signed_part_of_address, spelling_of_address, signed_part_of_lane_cert, spelling_of_lane_cert}
use Rattle.ds_cert.specs.Reading.{moment_at, key_at, category_at, category_above, members_at, label_at, address_text_at, signature_at, delegation_at, address_at, lane_cert_at}
use Rattle.ds_cert.specs.Laws.{Takes, IsSpelling}
use Rattle.ds_cert.proofs.Steps.{bind_ok, bind_is, guard_ok, ok_is, whole_ok, whole_is, Takes-then, reads}
use Rattle.ds_cert.proofs.FieldLaws.{is_moment, IsWithin, is_within, is_key, is_address_text, is_signature}
use Rattle.ds_cert.proofs.CategoryLaws.{category_spelt, category_again}
use Rattle.ds_cert.proofs.Joins.{takes6, takes7, takes9, regrouped6, regrouped7, regrouped9}

pub is_category : IsSpelling CategoryFits spelling_of_category category_at
is_category = record {
  spelled_so = λ bytes c rest fits e. category_spelt bytes c rest fits (whole_ok bytes (category_in bytes) (c, rest) e);
  read_again = λ c rest fits. whole_is (spelling_of_category c ++ rest) (category_in (spelling_of_category c ++ rest)) (c, rest) (category_again c rest fits);
}

-- ---- members

-- all members are above that one, if there is one
abbrev IsAllAbove : Option Category → List Category → Type 0
IsAllAbove None members = Unit {0}
IsAllAbove (Some last) members = AllByRecursion (λ c. category_cmp last c ≡ Less) members

above-cons : (last : Option Category) (c : Category) (members : List Category) → is_above by_name c last ≡ true → AllByRecursion (λ d. category_cmp c d ≡ Less) members → IsAllAbove last (c ∷ members)
above-cons None c members here later = tt
above-cons (Some last) c members here later = (lt_is (category_cmp last c) here, walk members later)
  where
    walk : (ds : List Category) → AllByRecursion (λ d. category_cmp c d ≡ Less) ds → AllByRecursion (λ d. category_cmp last d ≡ Less) ds
    walk [] a = tt
    walk (d ∷ ds) a = (names.total.trans last c d (lt_is (category_cmp last c) here) a.0, walk ds a.1)

above-head : (last : Option Category) (c : Category) (members : List Category) → IsAllAbove last (c ∷ members) → is_above by_name c last ≡ true
above-head None c members all = refl
above-head (Some last) c members all = ap is_lt all.0

pub record Members (n : ℕ) (last : Option Category) (bytes : List ℕ) (members : List Category) (rest : List ℕ) : Type 0 where
  pub takes : Takes bytes (flat_map spelling_of_category members) rest
  pub count : length members ≡ n
  pub each : AllByRecursion CategoryFits members
  pub rising : IsRising by_name members
  pub above : IsAllAbove last members

members_spelt : (n : ℕ) (last : Option Category) (bytes : List ℕ) (x : List Category × List ℕ) → IsBytes bytes → members_at n last bytes ≡ Ok x → Members n last bytes x.0 x.1
unfolding members_at category_above IsStrictlySortedBy
members_spelt zero last bytes x fits e =
    subst (λ (y : List Category × List ℕ). Members zero last bytes y.0 y.1) (ok_is ([], bytes) x e) (record { takes = record { parts = refl; rest_fits = fits }; count = refl; each = tt; rising = tt; above = elim last as (λ o. IsAllAbove o []) [ None ↦ tt | Some d ↦ tt ] })
members_spelt (suc n) last bytes x fits e =
    let a = bind_ok (category_above last bytes) (λ (c : Category × List ℕ). members_at n (Some c.0) c.1 >>= λ (others : List Category × List ℕ). Ok (c.0 ∷ others.0, others.1)) x e in
    reads CategoryFits spelling_of_category category_at is_category bytes (λ (c : Category × List ℕ). cond (is_above by_name c.0 last) (Ok c) (Err (length bytes))) a.0 fits a.1 (λ c behind t f later.
    let g = guard_ok (is_above by_name c last) (length bytes) (Ok (c, behind)) a.0 later in
    let first-is : (c, behind) ≡ a.0 = ok_is (c, behind) a.0 g.1 in
    members_then n last bytes x c behind t f g.0 (members_spelt n (Some c) behind) (subst (λ (d : Category × List ℕ). (members_at n (Some d.0) d.1 >>= λ (others : List Category × List ℕ). Ok (d.0 ∷ others.0, others.1)) ≡ Ok x) (sym first-is) a.2))
  where
    members_then : (n : ℕ) (last : Option Category) (bytes : List ℕ) (x : List Category × List ℕ) (c : Category) (behind : List ℕ) → Takes bytes (spelling_of_category c) behind → CategoryFits c → is_above by_name c last ≡ true
        → ((y : List Category × List ℕ) → IsBytes behind → members_at n (Some c) behind ≡ Ok y → Members n (Some c) behind y.0 y.1)
        → (members_at n (Some c) behind >>= λ (others : List Category × List ℕ). Ok (c ∷ others.0, others.1)) ≡ Ok x → Members (suc n) last bytes x.0 x.1
    members_then n last bytes x c behind t f here spelt e =
        let b = bind_ok (members_at n (Some c) behind) (λ (others : List Category × List ℕ). Ok (c ∷ others.0, others.1)) x e in
        let others = spelt b.0 t.rest_fits b.1 in
        let both = Takes-then bytes (spelling_of_category c) behind (flat_map spelling_of_category b.0.0) b.0.1 t others.takes in
        let made : List Category × List ℕ = (c ∷ b.0.0, b.0.1) in
        subst (λ (y : List Category × List ℕ). Members (suc n) last bytes y.0 y.1) (ok_is made x b.2) (record {
          takes = rw flat_map-cons both;
          count = ap suc others.count;
          each = (f, others.each);
          rising = (others.above, others.rising);
          above = above-cons last c b.0.0 here others.above;
        })

members_again : (members : List Category) (last : Option Category) (rest : List ℕ) → AllByRecursion CategoryFits members → IsRising by_name members → IsAllAbove last members → members_at (length members) last (flat_map spelling_of_category members ++ rest) ≡ Ok (members, rest)
unfolding members_at category_above IsStrictlySortedBy
members_again [] last rest each rising above = refl
members_again (c ∷ members) last rest each rising above =
    let behind = flat_map spelling_of_category members ++ rest in
    let bytes = spelling_of_category c ++ behind in
    let regrouped : flat_map spelling_of_category (c ∷ members) ++ rest ≡ bytes = ap (λ (x : List ℕ). x ++ rest) (flat_map-cons spelling_of_category c members) ∙ append_assoc (spelling_of_category c) (flat_map spelling_of_category members) rest in
    let here : is_above by_name c last ≡ true = above-head last c members above in
    let first : category_above last bytes ≡ Ok (c, behind) = bind_is (category_at bytes) (λ (d : Category × List ℕ). cond (is_above by_name d.0 last) (Ok d) (Err (length bytes))) (c, behind) (Ok (c, behind)) (is_category.read_again c behind each.0) (rw here refl) in
    ap (members_at (suc (length members)) last) regrouped
    ∙ bind_is (category_above last bytes) (λ (d : Category × List ℕ). members_at (length members) (Some d.0) d.1 >>= λ (others : List Category × List ℕ). Ok (d.0 ∷ others.0, others.1)) (c, behind) (Ok (c ∷ members, rest)) first
    (bind_is (members_at (length members) (Some c) behind) (λ (others : List Category × List ℕ). Ok (c ∷ others.0, others.1)) (members, rest) (Ok (c ∷ members, rest)) (members_again members (Some c) rest each.1 rising.1 rising.0) refl)

label_spelt : (bytes : List ℕ) (members : List Category) (rest : List ℕ) → IsBytes bytes → label_at bytes ≡ Ok (members, rest) → Takes bytes (spelling_of_label members) rest × LabelFits members
unfolding label_at spelling_of_label
label_spelt bytes members rest fits e =
    reads (IsWithin 0 64) (to_be_bytes w8) (number_within w8 0 64) (is_within w8 (2 ^ 8) wide8 0 64 (omega arith)) bytes (λ (count : ℕ × List ℕ). members_at count.0 None count.1) (members, rest) fits e (λ count behind t f later.
    let m = members_spelt count None behind (members, rest) t.rest_fits later in (
      subst (λ (n : ℕ). Takes bytes (to_be_bytes w8 n ++ flat_map spelling_of_category members) rest) (sym m.count) (Takes-then bytes (to_be_bytes w8 count) behind (flat_map spelling_of_category members) rest t m.takes),
      record { count = omega (arith, m.count, f.most); each = m.each; rising = m.rising },
    ))

label_again : (members : List Category) (rest : List ℕ) → LabelFits members → label_at (spelling_of_label members ++ rest) ≡ Ok (members, rest)
unfolding label_at spelling_of_label
label_again members rest fits =
    let behind = flat_map spelling_of_category members ++ rest in
    let count = is_within w8 (2 ^ 8) wide8 0 64 (omega arith) in
    ap label_at (append_assoc (to_be_bytes w8 (length members)) (flat_map spelling_of_category members) rest)
    ∙ bind_is (number_within w8 0 64 (to_be_bytes w8 (length members) ++ behind)) (λ (n : ℕ × List ℕ). members_at n.0 None n.1) (length members, behind) (Ok (members, rest))
    (count.read_again (length members) behind (record { least = omega arith; most = fits.count })) (members_again members None rest fits.each fits.rising tt)

pub is_label : IsSpelling LabelFits spelling_of_label label_at
is_label = record { spelled_so = label_spelt; read_again = label_again }

-- ---- the records

-- a tag is a number of one value
tag_is : (tag n : ℕ) → IsWithin tag tag n → n ≡ tag
tag_is tag n w = omega (arith, w.least, w.most)

pub is_tag : (tag : ℕ) → tag < 2 ^ 8 → IsSpelling (IsWithin tag tag) (to_be_bytes w8) (number_within w8 tag tag)
is_tag tag lt = is_within w8 (2 ^ 8) wide8 tag tag lt

pub tag_fits : (tag : ℕ) → IsWithin tag tag tag
tag_fits tag = record { least = omega arith; most = omega arith }

pub tag_takes : (tag : ℕ) (bytes : List ℕ) (n : ℕ) (rest : List ℕ) → IsWithin tag tag n → Takes bytes (to_be_bytes w8 n) rest → Takes bytes (to_be_bytes w8 tag) rest
tag_takes tag bytes n rest w t = subst (λ (k : ℕ). Takes bytes (to_be_bytes w8 k) rest) (tag_is tag n w) t

is_lane : IsSpelling (IsWithin 1 32) (to_be_bytes w32) (number_within w32 1 32)
is_lane = is_within w32 (2 ^ 32) wide32 1 32 (omega arith)

delegation_spelt : (bytes : List ℕ) (x : Delegation) (rest : List ℕ) → IsBytes bytes → delegation_at bytes ≡ Ok (x, rest) → Takes bytes (spelling_of_delegation x) rest × DelegationFits x
unfolding delegation_at spelling_of_delegation signed_part_of_delegation
delegation_spelt bytes x rest fits e =
    reads _ _ _ (is_tag 1 (omega arith)) bytes _ (x, rest) fits e (λ v0 r0 t0 f0 e0.
    reads _ _ _ is_category r0 _ (x, rest) t0.rest_fits e0 (λ v1 r1 t1 f1 e1.
    reads _ _ _ is_key r1 _ (x, rest) t1.rest_fits e1 (λ v2 r2 t2 f2 e2.
    reads _ _ _ is_moment r2 _ (x, rest) t2.rest_fits e2 (λ v3 r3 t3 f3 e3.
    reads _ _ _ is_moment r3 _ (x, rest) t3.rest_fits e3 (λ v4 r4 t4 f4 e4.
    reads _ _ _ is_key r4 _ (x, rest) t4.rest_fits e4 (λ v5 r5 t5 f5 e5.
    reads _ _ _ is_signature r5 _ (x, rest) t5.rest_fits e5 (λ v6 r6 t6 f6 e6.
    let made : Delegation = record { category = v1; to = v2; from = v3; until = v4; by = v5; signature = v6 } in
    let taken : Takes bytes (spelling_of_delegation made) r6 = takes7 bytes (to_be_bytes w8 1) r0 (spelling_of_category v1) r1 (v2.0) r2 (to_be_bytes w64 v3) r3 (to_be_bytes w64 v4) r4 (v5.0) r5 (spelling_of_signature v6) r6 (tag_takes 1 bytes v0 r0 f0 t0) t1 t2 t3 t4 t5 t6 in
    let fit : DelegationFits made = record { category = f1; to = f2; from = f3; until = f4; by = f5; range = record { signature = f6 } } in
    subst (λ (y : Delegation × List ℕ). Takes bytes (spelling_of_delegation y.0) y.1 × DelegationFits y.0) (ok_is (made, r6) (x, rest) e6) (taken, fit))))))))

delegation_again : (x : Delegation) (rest : List ℕ) → DelegationFits x → delegation_at (spelling_of_delegation x ++ rest) ≡ Ok (x, rest)
unfolding delegation_at spelling_of_delegation signed_part_of_delegation
delegation_again x rest fits =
    let result : Result (Delegation × List ℕ) ℕ = Ok (x, rest) in
    let r6 : List ℕ = (spelling_of_signature x.signature) ++ rest in
    let r5 : List ℕ = (x.by.0) ++ r6 in
    let r4 : List ℕ = (to_be_bytes w64 x.until) ++ r5 in
    let r3 : List ℕ = (to_be_bytes w64 x.from) ++ r4 in
    let r2 : List ℕ = (x.to.0) ++ r3 in
    let r1 : List ℕ = (spelling_of_category x.category) ++ r2 in
    let tag = is_tag 1 (omega arith) in
    ap delegation_at (regrouped7 (to_be_bytes w8 1) (spelling_of_category x.category) (x.to.0) (to_be_bytes w64 x.from) (to_be_bytes w64 x.until) (x.by.0) (spelling_of_signature x.signature) rest)
    ∙ bind_is (number_within w8 1 1 (to_be_bytes w8 1 ++ r1)) _ (1, r1) result (tag.read_again 1 r1 (tag_fits 1))
    (bind_is (category_at r1) _ (x.category, r2) result (is_category.read_again x.category r2 fits.category)
    (bind_is (key_at r2) _ (x.to, r3) result (is_key.read_again x.to r3 fits.to)
    (bind_is (moment_at r3) _ (x.from, r4) result (is_moment.read_again x.from r4 fits.from)
    (bind_is (moment_at r4) _ (x.until, r5) result (is_moment.read_again x.until r5 fits.until)
    (bind_is (key_at r5) _ (x.by, r6) result (is_key.read_again x.by r6 fits.by)
    (bind_is (signature_at r6) _ (x.signature, rest) result (is_signature.read_again x.signature rest fits.range.signature) refl))))))

pub is_delegation : IsSpelling DelegationFits spelling_of_delegation delegation_at
is_delegation = record { spelled_so = delegation_spelt; read_again = delegation_again }

address_spelt : (bytes : List ℕ) (x : Address) (rest : List ℕ) → IsBytes bytes → address_at bytes ≡ Ok (x, rest) → Takes bytes (spelling_of_address x) rest × AddressFits x
unfolding address_at spelling_of_address signed_part_of_address
address_spelt bytes x rest fits e =
    reads _ _ _ (is_tag 2 (omega arith)) bytes _ (x, rest) fits e (λ v0 r0 t0 f0 e0.
    reads _ _ _ is_key r0 _ (x, rest) t0.rest_fits e0 (λ v1 r1 t1 f1 e1.
    reads _ _ _ is_address_text r1 _ (x, rest) t1.rest_fits e1 (λ v2 r2 t2 f2 e2.
    reads _ _ _ is_moment r2 _ (x, rest) t2.rest_fits e2 (λ v3 r3 t3 f3 e3.
    reads _ _ _ is_moment r3 _ (x, rest) t3.rest_fits e3 (λ v4 r4 t4 f4 e4.
    reads _ _ _ is_signature r4 _ (x, rest) t4.rest_fits e4 (λ v5 r5 t5 f5 e5.
    let made : Address = record { exporter = v1; address = v2; from = v3; until = v4; signature = v5 } in
    let taken : Takes bytes (spelling_of_address made) r5 = takes6 bytes (to_be_bytes w8 2) r0 (v1.0) r1 (spelling_of_address_text v2) r2 (to_be_bytes w64 v3) r3 (to_be_bytes w64 v4) r4 (spelling_of_signature v5) r5 (tag_takes 2 bytes v0 r0 f0 t0) t1 t2 t3 t4 t5 in
    let fit : AddressFits made = record { exporter = f1; from = f3; until = f4; range = record { address = f2; signature = f5 } } in
    subst (λ (y : Address × List ℕ). Takes bytes (spelling_of_address y.0) y.1 × AddressFits y.0) (ok_is (made, r5) (x, rest) e5) (taken, fit)))))))

address_again : (x : Address) (rest : List ℕ) → AddressFits x → address_at (spelling_of_address x ++ rest) ≡ Ok (x, rest)
unfolding address_at spelling_of_address signed_part_of_address
address_again x rest fits =
    let result : Result (Address × List ℕ) ℕ = Ok (x, rest) in
    let r5 : List ℕ = (spelling_of_signature x.signature) ++ rest in
    let r4 : List ℕ = (to_be_bytes w64 x.until) ++ r5 in
    let r3 : List ℕ = (to_be_bytes w64 x.from) ++ r4 in
    let r2 : List ℕ = (spelling_of_address_text x.address) ++ r3 in
    let r1 : List ℕ = (x.exporter.0) ++ r2 in
    let tag = is_tag 2 (omega arith) in
    ap address_at (regrouped6 (to_be_bytes w8 2) (x.exporter.0) (spelling_of_address_text x.address) (to_be_bytes w64 x.from) (to_be_bytes w64 x.until) (spelling_of_signature x.signature) rest)
    ∙ bind_is (number_within w8 2 2 (to_be_bytes w8 2 ++ r1)) _ (2, r1) result (tag.read_again 2 r1 (tag_fits 2))
    (bind_is (key_at r1) _ (x.exporter, r2) result (is_key.read_again x.exporter r2 fits.exporter)
    (bind_is (address_text_at r2) _ (x.address, r3) result (is_address_text.read_again x.address r3 fits.range.address)
    (bind_is (moment_at r3) _ (x.from, r4) result (is_moment.read_again x.from r4 fits.from)
    (bind_is (moment_at r4) _ (x.until, r5) result (is_moment.read_again x.until r5 fits.until)
    (bind_is (signature_at r5) _ (x.signature, rest) result (is_signature.read_again x.signature rest fits.range.signature) refl)))))

pub is_address : IsSpelling AddressFits spelling_of_address address_at
is_address = record { spelled_so = address_spelt; read_again = address_again }

lane_cert_spelt : (bytes : List ℕ) (x : LaneCert) (rest : List ℕ) → IsBytes bytes → lane_cert_at bytes ≡ Ok (x, rest) → Takes bytes (spelling_of_lane_cert x) rest × LaneCertFits x
unfolding lane_cert_at spelling_of_lane_cert signed_part_of_lane_cert
lane_cert_spelt bytes x rest fits e =
    reads _ _ _ (is_tag 3 (omega arith)) bytes _ (x, rest) fits e (λ v0 r0 t0 f0 e0.
    reads _ _ _ is_key r0 _ (x, rest) t0.rest_fits e0 (λ v1 r1 t1 f1 e1.
    reads _ _ _ is_lane r1 _ (x, rest) t1.rest_fits e1 (λ v2 r2 t2 f2 e2.
    reads _ _ _ is_key r2 _ (x, rest) t2.rest_fits e2 (λ v3 r3 t3 f3 e3.
    reads _ _ _ is_label r3 _ (x, rest) t3.rest_fits e3 (λ v4 r4 t4 f4 e4.
    reads _ _ _ is_key r4 _ (x, rest) t4.rest_fits e4 (λ v5 r5 t5 f5 e5.
    reads _ _ _ is_moment r5 _ (x, rest) t5.rest_fits e5 (λ v6 r6 t6 f6 e6.
    reads _ _ _ is_moment r6 _ (x, rest) t6.rest_fits e6 (λ v7 r7 t7 f7 e7.
    reads _ _ _ is_signature r7 _ (x, rest) t7.rest_fits e7 (λ v8 r8 t8 f8 e8.
    let made : LaneCert = record { exporter = v1; lane = v2; receiver = v3; label = v4; key = v5; from = v6; until = v7; signature = v8 } in
    let taken : Takes bytes (spelling_of_lane_cert made) r8 = takes9 bytes (to_be_bytes w8 3) r0 (v1.0) r1 (to_be_bytes w32 v2) r2 (v3.0) r3 (spelling_of_label v4) r4 (v5.0) r5 (to_be_bytes w64 v6) r6 (to_be_bytes w64 v7) r7 (spelling_of_signature v8) r8 (tag_takes 3 bytes v0 r0 f0 t0) t1 t2 t3 t4 t5 t6 t7 t8 in
    let fit : LaneCertFits made = record { exporter = f1; receiver = f3; label = f4; key = f5; from = f6; until = f7; range = record { first = f2.least; last = f2.most; signature = f8 } } in
    subst (λ (y : LaneCert × List ℕ). Takes bytes (spelling_of_lane_cert y.0) y.1 × LaneCertFits y.0) (ok_is (made, r8) (x, rest) e8) (taken, fit))))))))))

lane_cert_again : (x : LaneCert) (rest : List ℕ) → LaneCertFits x → lane_cert_at (spelling_of_lane_cert x ++ rest) ≡ Ok (x, rest)
unfolding lane_cert_at spelling_of_lane_cert signed_part_of_lane_cert
lane_cert_again x rest fits =
    let result : Result (LaneCert × List ℕ) ℕ = Ok (x, rest) in
    let r8 : List ℕ = (spelling_of_signature x.signature) ++ rest in
    let r7 : List ℕ = (to_be_bytes w64 x.until) ++ r8 in
    let r6 : List ℕ = (to_be_bytes w64 x.from) ++ r7 in
    let r5 : List ℕ = (x.key.0) ++ r6 in
    let r4 : List ℕ = (spelling_of_label x.label) ++ r5 in
    let r3 : List ℕ = (x.receiver.0) ++ r4 in
    let r2 : List ℕ = (to_be_bytes w32 x.lane) ++ r3 in
    let r1 : List ℕ = (x.exporter.0) ++ r2 in
    let tag = is_tag 3 (omega arith) in
    ap lane_cert_at (regrouped9 (to_be_bytes w8 3) (x.exporter.0) (to_be_bytes w32 x.lane) (x.receiver.0) (spelling_of_label x.label) (x.key.0) (to_be_bytes w64 x.from) (to_be_bytes w64 x.until) (spelling_of_signature x.signature) rest)
    ∙ bind_is (number_within w8 3 3 (to_be_bytes w8 3 ++ r1)) _ (3, r1) result (tag.read_again 3 r1 (tag_fits 3))
    (bind_is (key_at r1) _ (x.exporter, r2) result (is_key.read_again x.exporter r2 fits.exporter)
    (bind_is (number_within w32 1 32 r2) _ (x.lane, r3) result (is_lane.read_again x.lane r3 (record { least = fits.range.first; most = fits.range.last }))
    (bind_is (key_at r3) _ (x.receiver, r4) result (is_key.read_again x.receiver r4 fits.receiver)
    (bind_is (label_at r4) _ (x.label, r5) result (is_label.read_again x.label r5 fits.label)
    (bind_is (key_at r5) _ (x.key, r6) result (is_key.read_again x.key r6 fits.key)
    (bind_is (moment_at r6) _ (x.from, r7) result (is_moment.read_again x.from r7 fits.from)
    (bind_is (moment_at r7) _ (x.until, r8) result (is_moment.read_again x.until r8 fits.until)
    (bind_is (signature_at r8) _ (x.signature, rest) result (is_signature.read_again x.signature rest fits.range.signature) refl))))))))

pub is_lane_cert : IsSpelling LaneCertFits spelling_of_lane_cert lane_cert_at
is_lane_cert = record { spelled_so = lane_cert_spelt; read_again = lane_cert_again }
