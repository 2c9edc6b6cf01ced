-- A certificate in a message that is read is the one that was written, and what was written is read again.
use Rattle.std.proofs.Common.{◌≡◌, ℕ, zero, suc, ◌^◌, ◌≤◌, Bool, true, false, cond, List, [], ◌∷◌, ◌++◌, length, refl, sym, ap, subst, ◌∙◌, append_assoc, arith}
use Rattle.std.specs.Prelude.{Result, Ok, Err}
use Rattle.std.specs.Int.{w8, w16, to_be_bytes}
use Rattle.std.specs.List.{flat_map, AllByRecursion}
use Rattle.std.proofs.lemmas.List.{append-nil}
use Rattle.std.proofs.lemmas.List.Concat.{flat_map-cons}
use Rattle.ds_wire.specs.Fields.{IsBytes, bytes_at}
use Rattle.ds_wire.proofs.FieldLaws.{wide8, wide16}
use Rattle.ds_cert.specs.declared.delegation.Delegation.{Delegation}
use Rattle.ds_cert.specs.Fields.{◌>>=◌, whole, number_within, placed}
use Rattle.ds_cert.specs.Laws.{Takes, IsSpelling}
use Rattle.ds_cert.specs.Ranges.{DelegationFits}
use Rattle.ds_cert.specs.Reading.{delegation_at, read_delegation}
use Rattle.ds_cert.specs.Spelling.{spelling_of_delegation, signed_part_of_delegation}
use Rattle.ds_cert.proofs.Steps.{IsBytes-front, bind_ok, bind_is, guard_ok, ok_is, Takes-then, reads}
use Rattle.ds_cert.proofs.FieldLaws.{IsWithin, is_within, run_spelt, run_again}
use Rattle.ds_cert.proofs.RecordLaws.{is_delegation}
use Rattle.ds_cert.proofs.Places.{Uses, left_of, uses_delegation}
use Rattle.ds_cert.proofs.Wholes.{found_whole, alone_again}
use Rattle.std.proofs.lemmas.List.Elements.{All-nil, All-cons}
use Rattle.ds_msg.specs.Ranges.{SpellsDelegation, CertsFit, AreShort, is_among}
use Rattle.ds_msg.specs.Reading.{is_read, is_new_delegation, cert_at, more_certs_at, certs_at}
use Rattle.ds_msg.specs.Spelling.{spelling_of_cert_bytes, spelling_of_certs}
use Rattle.ds_msg.proofs.Distinct.{AreNew, distinct_from_new, all_new}

-- ---- one certificate

spells_read : (bytes : List ℕ) (r : Result Delegation ℕ) → IsBytes bytes → read_delegation bytes ≡ r → is_read r ≡ true → SpellsDelegation bytes
unfolding read_delegation
spells_read bytes (Ok d) fits e told =
    let found = found_whole DelegationFits spelling_of_delegation delegation_at is_delegation DelegationFits (λ x f. f) bytes (Ok d) fits e in
    record { delegation = d; fits = found.0; spelled = found.1 }
spells_read bytes (Err place) fits e told = absurd cc

spells_again : (bytes : List ℕ) → SpellsDelegation bytes → is_read (read_delegation bytes) ≡ true
unfolding read_delegation
spells_again bytes s =
    let again : read_delegation (spelling_of_delegation s.delegation) ≡ Ok s.delegation = ap (placed (spelling_of_delegation s.delegation)) (alone_again DelegationFits spelling_of_delegation delegation_at is_delegation s.delegation s.fits) in
    ap (λ (b : List ℕ). is_read (read_delegation b)) s.spelled ∙ ap is_read again

-- from the first byte to the last there are 1 to 2,704
pub record IsShort (n : ℕ) : Type 0 where
  pub some : 1 ≤ n
  pub most : n ≤ 2704

begins : (d : Delegation) → 1 ≤ length (spelling_of_delegation d)
unfolding spelling_of_delegation signed_part_of_delegation
begins d = omega arith

delegation_is_short : (d : Delegation) → DelegationFits d → IsShort (length (spelling_of_delegation d))
delegation_is_short d fits =
    let bytes = spelling_of_delegation d in
    let read : delegation_at bytes ≡ Ok (d, []) = ap delegation_at (sym (append-nil bytes)) ∙ is_delegation.read_again d [] fits in
    let used = subst (λ (r : Result (Delegation × List ℕ) ℕ). Uses 2704 bytes (left_of r)) read (uses_delegation bytes) in
    record { some = begins d; most = omega (arith, used.near) }

pub is_short : (bytes : List ℕ) → SpellsDelegation bytes → IsShort (length bytes)
is_short bytes s = subst (λ (b : List ℕ). IsShort (length b)) (sym s.spelled) (delegation_is_short s.delegation s.fits)

pub are_short : (certs : List (List ℕ)) → AllByRecursion SpellsDelegation certs → AreShort certs
are_short [] each = All-nil (λ (cert : List ℕ). length cert ≤ 2704)
are_short (cert ∷ certs) each = All-cons (λ (c : List ℕ). length c ≤ 2704) cert certs (is_short cert each.0).most (are_short certs each.1)

-- what was read is a delegation that isn't among those before
pub record IsNew (before : List (List ℕ)) (cert : List ℕ) : Type 0 where
  pub spells : SpellsDelegation cert
  pub other : is_among cert before ≡ false

new_spelt : (before : List (List ℕ)) (cert : List ℕ) → IsBytes cert → is_new_delegation before cert ≡ true → IsNew before cert
new_spelt before cert fits e = cases (is_among cert before) refl e
  where
    cases : (b : Bool) → is_among cert before ≡ b → cond b false (is_read (read_delegation cert)) ≡ true → IsNew before cert
    cases true f g = absurd cc
    cases false f g = record { spells = spells_read cert (read_delegation cert) fits refl g; other = f }

new_again : (before : List (List ℕ)) (cert : List ℕ) → IsNew before cert → is_new_delegation before cert ≡ true
new_again before cert new = rw new.other (spells_again cert new.spells)

abbrev counted : (before : List (List ℕ)) → ℕ × List ℕ → Result (List ℕ × List ℕ) ℕ
counted before count = whole count.1 (bytes_at count.0 count.1) >>= λ (cert : List ℕ × List ℕ). cond (is_new_delegation before cert.0) (Ok cert) (Err (length count.1))

cert_spelt : (before : List (List ℕ)) (bytes cert rest : List ℕ) → IsBytes bytes → cert_at before bytes ≡ Ok (cert, rest) → Takes bytes (spelling_of_cert_bytes cert) rest × IsNew before cert
unfolding cert_at spelling_of_cert_bytes
cert_spelt before bytes cert rest fits e =
    reads (IsWithin 1 2704) (to_be_bytes w16) (number_within w16 1 2704) (is_within w16 (2 ^ 16) wide16 1 2704 (omega arith)) bytes (counted before) (cert, rest) fits e (λ count behind t f later.
    let b = bind_ok (whole behind (bytes_at count behind)) (λ (x : List ℕ × List ℕ). cond (is_new_delegation before x.0) (Ok x) (Err (length behind))) (cert, rest) later in
    let g = guard_ok (is_new_delegation before b.0.0) (length behind) (Ok b.0) (cert, rest) b.2 in
    let u = run_spelt behind count b.0.0 b.0.1 t.rest_fits b.1 in
    let new = new_spelt before b.0.0 (IsBytes-front b.0.0 b.0.1 (subst IsBytes u.0.parts t.rest_fits)) g.0 in
    subst (λ (x : List ℕ × List ℕ). Takes bytes (to_be_bytes w16 (length x.0) ++ x.0) x.1 × IsNew before x.0) (ok_is b.0 (cert, rest) g.1)
    (subst (λ (n : ℕ). Takes bytes (to_be_bytes w16 n ++ b.0.0) b.0.1) (sym u.1) (Takes-then bytes (to_be_bytes w16 count) behind b.0.0 b.0.1 t u.0), new))

cert_again : (before : List (List ℕ)) (cert rest : List ℕ) → IsNew before cert → cert_at before (spelling_of_cert_bytes cert ++ rest) ≡ Ok (cert, rest)
unfolding cert_at spelling_of_cert_bytes
cert_again before cert rest new =
    let behind = cert ++ rest in
    let short = is_short cert new.spells in
    let count = is_within w16 (2 ^ 16) wide16 1 2704 (omega arith) in
    ap (cert_at before) (append_assoc (to_be_bytes w16 (length cert)) cert rest)
    ∙ bind_is (number_within w16 1 2704 (to_be_bytes w16 (length cert) ++ behind)) (counted before) (length cert, behind) (Ok (cert, rest))
    (count.read_again (length cert) behind (record { least = short.some; most = short.most }))
    (bind_is (whole behind (bytes_at (length cert) behind)) (λ (x : List ℕ × List ℕ). cond (is_new_delegation before x.0) (Ok x) (Err (length behind))) (cert, rest) (Ok (cert, rest)) (run_again cert rest) (rw (new_again before cert new) refl))

-- ---- one after the other

pub record More (n : ℕ) (before : List (List ℕ)) (bytes : List ℕ) (all : List (List ℕ)) (rest : List ℕ) : Type 0 where
  pub more : List (List ℕ)
  pub joined : all ≡ before ++ more
  pub takes : Takes bytes (flat_map spelling_of_cert_bytes more) rest
  pub count : length more ≡ n
  pub each : AllByRecursion SpellsDelegation more
  pub new : AreNew before more

more_spelt : (n : ℕ) (before : List (List ℕ)) (bytes : List ℕ) (x : List (List ℕ) × List ℕ) → IsBytes bytes → more_certs_at n before bytes ≡ Ok x → More n before bytes x.0 x.1
unfolding more_certs_at
more_spelt zero before bytes x fits e =
    subst (λ (y : List (List ℕ) × List ℕ). More zero before bytes y.0 y.1) (ok_is (before, bytes) x e) (record { more = []; joined = sym (append-nil before); takes = record { parts = refl; rest_fits = fits }; count = refl; each = tt; new = tt })
more_spelt (suc n) before bytes x fits e =
    let b = bind_ok (cert_at before bytes) (λ (cert : List ℕ × List ℕ). more_certs_at n (before ++ cert.0 ∷ []) cert.1) x e in
    let c = cert_spelt before bytes b.0.0 b.0.1 fits b.1 in
    let m = more_spelt n (before ++ b.0.0 ∷ []) b.0.1 x c.0.rest_fits b.2 in
    let both = Takes-then bytes (spelling_of_cert_bytes b.0.0) b.0.1 (flat_map spelling_of_cert_bytes m.more) x.1 c.0 m.takes in
    record {
      more = b.0.0 ∷ m.more;
      joined = m.joined ∙ append_assoc before (b.0.0 ∷ []) m.more;
      takes = rw flat_map-cons both;
      count = ap suc m.count;
      each = (c.1.spells, m.each);
      new = (c.1.other, m.new);
    }

more_again : (more before : List (List ℕ)) (rest : List ℕ) → AllByRecursion SpellsDelegation more → AreNew before more → more_certs_at (length more) before (flat_map spelling_of_cert_bytes more ++ rest) ≡ Ok (before ++ more, rest)
unfolding more_certs_at
more_again [] before rest each new = ap (λ (certs : List (List ℕ)). Ok (certs, rest)) (sym (append-nil before))
more_again (cert ∷ more) before rest each new =
    let behind = flat_map spelling_of_cert_bytes more ++ rest in
    let bytes = spelling_of_cert_bytes cert ++ behind in
    let regrouped : flat_map spelling_of_cert_bytes (cert ∷ more) ++ rest ≡ bytes = ap (λ (x : List ℕ). x ++ rest) (flat_map-cons spelling_of_cert_bytes cert more) ∙ append_assoc (spelling_of_cert_bytes cert) (flat_map spelling_of_cert_bytes more) rest in
    ap (more_certs_at (suc (length more)) before) regrouped
    ∙ bind_is (cert_at before bytes) (λ (x : List ℕ × List ℕ). more_certs_at (length more) (before ++ x.0 ∷ []) x.1) (cert, behind) (Ok (before ++ cert ∷ more, rest))
    (cert_again before cert behind (record { spells = each.0; other = new.0 }))
    (more_again more (before ++ cert ∷ []) rest each.1 new.1 ∙ ap (λ (certs : List (List ℕ)). Ok (certs, rest)) (append_assoc before (cert ∷ []) more))

certs_spelt : (bytes : List ℕ) (certs : List (List ℕ)) (rest : List ℕ) → IsBytes bytes → certs_at bytes ≡ Ok (certs, rest) → Takes bytes (spelling_of_certs certs) rest × CertsFit certs
unfolding certs_at spelling_of_certs
certs_spelt bytes certs rest fits e =
    reads (IsWithin 0 16) (to_be_bytes w8) (number_within w8 0 16) (is_within w8 (2 ^ 8) wide8 0 16 (omega arith)) bytes (λ (count : ℕ × List ℕ). more_certs_at count.0 [] count.1) (certs, rest) fits e (λ count behind t f later.
    let m = more_spelt count [] behind (certs, rest) t.rest_fits later in
    let both : Takes bytes (to_be_bytes w8 (length m.more) ++ flat_map spelling_of_cert_bytes m.more) rest = subst (λ (n : ℕ). Takes bytes (to_be_bytes w8 n ++ flat_map spelling_of_cert_bytes m.more) rest) (sym m.count) (Takes-then bytes (to_be_bytes w8 count) behind (flat_map spelling_of_cert_bytes m.more) rest t m.takes) in
    subst (λ (x : List (List ℕ)). Takes bytes (to_be_bytes w8 (length x) ++ flat_map spelling_of_cert_bytes x) rest × CertsFit x) (sym m.joined)
    (both, record { count = omega (arith, m.count, f.most); each = m.each; once = (distinct_from_new [] m.more m.new).1 }))

certs_again : (certs : List (List ℕ)) (rest : List ℕ) → CertsFit certs → certs_at (spelling_of_certs certs ++ rest) ≡ Ok (certs, rest)
unfolding certs_at spelling_of_certs
certs_again certs rest fits =
    let behind = flat_map spelling_of_cert_bytes certs ++ rest in
    let count = is_within w8 (2 ^ 8) wide8 0 16 (omega arith) in
    ap certs_at (append_assoc (to_be_bytes w8 (length certs)) (flat_map spelling_of_cert_bytes certs) rest)
    ∙ bind_is (number_within w8 0 16 (to_be_bytes w8 (length certs) ++ behind)) (λ (n : ℕ × List ℕ). more_certs_at n.0 [] n.1) (length certs, behind) (Ok (certs, rest))
    (count.read_again (length certs) behind (record { least = omega arith; most = fits.count })) (more_again certs [] rest fits.each (all_new certs fits.once))

pub is_certs : IsSpelling CertsFit spelling_of_certs certs_at
is_certs = record { spelled_so = certs_spelt; read_again = certs_again }
