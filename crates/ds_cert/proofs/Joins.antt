-- Pieces appended one after the other, and the same pieces nested from the end.
use Rattle.std.proofs.Common.{◌≡◌, ℕ, ◌+◌, List, [], ◌++◌, length, take, sym, ◌∙◌, append_assoc}
use Rattle.lms_sig.proofs.Pieces.{front_more}
use Rattle.ds_cert.specs.Laws.{Takes}
use Rattle.ds_cert.proofs.Steps.{Takes-then}

pub joined5 : (a b c d e : List ℕ) → (((([] ++ a) ++ b) ++ c) ++ d) ++ e ≡ a ++ (b ++ (c ++ (d ++ e)))
joined5 a b c d e = simp append_assoc

pub joined6 : (a b c d e f : List ℕ) → ((((([] ++ a) ++ b) ++ c) ++ d) ++ e) ++ f ≡ a ++ (b ++ (c ++ (d ++ (e ++ f))))
joined6 a b c d e f = simp append_assoc

pub joined8 : (a b c d e f g h : List ℕ) → ((((((([] ++ a) ++ b) ++ c) ++ d) ++ e) ++ f) ++ g) ++ h ≡ a ++ (b ++ (c ++ (d ++ (e ++ (f ++ (g ++ h))))))
joined8 a b c d e f g h = simp append_assoc

-- 6 parts, the last of which is the signature
pub regrouped6 : (a b c d e f rest : List ℕ) → ((a ++ (b ++ (c ++ (d ++ e)))) ++ f) ++ rest ≡ a ++ (b ++ (c ++ (d ++ (e ++ (f ++ rest)))))
regrouped6 a b c d e f rest = simp append_assoc

spread6 : (a b c d e f rest : List ℕ) → (a ++ (b ++ (c ++ (d ++ (e ++ f))))) ++ rest ≡ a ++ (b ++ (c ++ (d ++ (e ++ (f ++ rest)))))
spread6 a b c d e f rest = simp append_assoc

pub takes6 : (bytes a r0 b r1 c r2 d r3 e r4 f r5 : List ℕ) → Takes bytes a r0 → Takes r0 b r1 → Takes r1 c r2 → Takes r2 d r3 → Takes r3 e r4 → Takes r4 f r5 → Takes bytes ((a ++ (b ++ (c ++ (d ++ e)))) ++ f) r5
takes6 bytes a r0 b r1 c r2 d r3 e r4 f r5 t0 t1 t2 t3 t4 t5 =
    let u4 = Takes-then r3 e r4 (f) r5 t4 t5 in
    let u3 = Takes-then r2 d r3 (e ++ f) r5 t3 u4 in
    let u2 = Takes-then r1 c r2 (d ++ (e ++ f)) r5 t2 u3 in
    let u1 = Takes-then r0 b r1 (c ++ (d ++ (e ++ f))) r5 t1 u2 in
    let u0 = Takes-then bytes a r0 (b ++ (c ++ (d ++ (e ++ f)))) r5 t0 u1 in
    record { parts = u0.parts ∙ (spread6 a b c d e f r5 ∙ sym (regrouped6 a b c d e f r5)); rest_fits = u0.rest_fits }

-- 7 parts, the last of which is the signature
pub regrouped7 : (a b c d e f g rest : List ℕ) → ((a ++ (b ++ (c ++ (d ++ (e ++ f))))) ++ g) ++ rest ≡ a ++ (b ++ (c ++ (d ++ (e ++ (f ++ (g ++ rest))))))
regrouped7 a b c d e f g rest = simp append_assoc

spread7 : (a b c d e f g rest : List ℕ) → (a ++ (b ++ (c ++ (d ++ (e ++ (f ++ g)))))) ++ rest ≡ a ++ (b ++ (c ++ (d ++ (e ++ (f ++ (g ++ rest))))))
spread7 a b c d e f g rest = simp append_assoc

pub takes7 : (bytes a r0 b r1 c r2 d r3 e r4 f r5 g r6 : List ℕ) → Takes bytes a r0 → Takes r0 b r1 → Takes r1 c r2 → Takes r2 d r3 → Takes r3 e r4 → Takes r4 f r5 → Takes r5 g r6 → Takes bytes ((a ++ (b ++ (c ++ (d ++ (e ++ f))))) ++ g) r6
takes7 bytes a r0 b r1 c r2 d r3 e r4 f r5 g r6 t0 t1 t2 t3 t4 t5 t6 =
    let u5 = Takes-then r4 f r5 (g) r6 t5 t6 in
    let u4 = Takes-then r3 e r4 (f ++ g) r6 t4 u5 in
    let u3 = Takes-then r2 d r3 (e ++ (f ++ g)) r6 t3 u4 in
    let u2 = Takes-then r1 c r2 (d ++ (e ++ (f ++ g))) r6 t2 u3 in
    let u1 = Takes-then r0 b r1 (c ++ (d ++ (e ++ (f ++ g)))) r6 t1 u2 in
    let u0 = Takes-then bytes a r0 (b ++ (c ++ (d ++ (e ++ (f ++ g))))) r6 t0 u1 in
    record { parts = u0.parts ∙ (spread7 a b c d e f g r6 ∙ sym (regrouped7 a b c d e f g r6)); rest_fits = u0.rest_fits }

-- 9 parts, the last of which is the signature
pub regrouped9 : (a b c d e f g h i rest : List ℕ) → ((a ++ (b ++ (c ++ (d ++ (e ++ (f ++ (g ++ h))))))) ++ i) ++ rest ≡ a ++ (b ++ (c ++ (d ++ (e ++ (f ++ (g ++ (h ++ (i ++ rest))))))))
regrouped9 a b c d e f g h i rest = simp append_assoc

spread9 : (a b c d e f g h i rest : List ℕ) → (a ++ (b ++ (c ++ (d ++ (e ++ (f ++ (g ++ (h ++ i)))))))) ++ rest ≡ a ++ (b ++ (c ++ (d ++ (e ++ (f ++ (g ++ (h ++ (i ++ rest))))))))
spread9 a b c d e f g h i rest = simp append_assoc

pub takes9 : (bytes a r0 b r1 c r2 d r3 e r4 f r5 g r6 h r7 i r8 : List ℕ) → Takes bytes a r0 → Takes r0 b r1 → Takes r1 c r2 → Takes r2 d r3 → Takes r3 e r4 → Takes r4 f r5 → Takes r5 g r6 → Takes r6 h r7 → Takes r7 i r8 → Takes bytes ((a ++ (b ++ (c ++ (d ++ (e ++ (f ++ (g ++ h))))))) ++ i) r8
takes9 bytes a r0 b r1 c r2 d r3 e r4 f r5 g r6 h r7 i r8 t0 t1 t2 t3 t4 t5 t6 t7 t8 =
    let u7 = Takes-then r6 h r7 (i) r8 t7 t8 in
    let u6 = Takes-then r5 g r6 (h ++ i) r8 t6 u7 in
    let u5 = Takes-then r4 f r5 (g ++ (h ++ i)) r8 t5 u6 in
    let u4 = Takes-then r3 e r4 (f ++ (g ++ (h ++ i))) r8 t4 u5 in
    let u3 = Takes-then r2 d r3 (e ++ (f ++ (g ++ (h ++ i)))) r8 t3 u4 in
    let u2 = Takes-then r1 c r2 (d ++ (e ++ (f ++ (g ++ (h ++ i))))) r8 t2 u3 in
    let u1 = Takes-then r0 b r1 (c ++ (d ++ (e ++ (f ++ (g ++ (h ++ i)))))) r8 t1 u2 in
    let u0 = Takes-then bytes a r0 (b ++ (c ++ (d ++ (e ++ (f ++ (g ++ (h ++ i))))))) r8 t0 u1 in
    record { parts = u0.parts ∙ (spread9 a b c d e f g h i r8 ∙ sym (regrouped9 a b c d e f g h i r8)); rest_fits = u0.rest_fits }

-- the parts of an address's signed part, as an array is filled
pub filled_address : (a b c d e f : List ℕ) → ((((([] ++ a) ++ b) ++ c) ++ d) ++ e) ++ f ≡ a ++ (b ++ ((c ++ d) ++ (e ++ f)))
filled_address a b c d e f = simp append_assoc

-- the front of an array after one more piece, where the code writes the place and the piece otherwise
pub front_step : (old new front piece put : List ℕ) (at i j : ℕ) → at ≡ i → put ≡ piece → take i old ≡ front → i + length piece ≡ j →
    take (at + length put) new ≡ take at old ++ put → take j new ≡ front ++ piece
front_step old new front piece put at i j place same before more step =
    let here : take (i + length piece) new ≡ take i old ++ piece = rw (place, same) at step in
    front_more old new front piece i j before more here
