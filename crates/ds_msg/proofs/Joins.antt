-- Eight pieces, one after the other.
use Rattle.std.proofs.Common.{◌≡◌, ℕ, List, ◌++◌, append_assoc}
use Rattle.ds_cert.specs.Laws.{Takes}
use Rattle.ds_cert.proofs.Steps.{Takes-then}

pub regrouped8 : (a b c d e f g h rest : List ℕ) → (a ++ (b ++ (c ++ (d ++ (e ++ (f ++ (g ++ h))))))) ++ rest ≡ a ++ (b ++ (c ++ (d ++ (e ++ (f ++ (g ++ (h ++ rest)))))))
regrouped8 a b c d e f g h rest = simp append_assoc

pub takes8 : (bytes a r0 b r1 c r2 d r3 e r4 f r5 g r6 h r7 : List ℕ) → Takes bytes a r0 → Takes r0 b r1 → Takes r1 c r2 → Takes r2 d r3 → Takes r3 e r4 → Takes r4 f r5 → Takes r5 g r6 → Takes r6 h r7 → Takes bytes (a ++ (b ++ (c ++ (d ++ (e ++ (f ++ (g ++ h))))))) r7
takes8 bytes a r0 b r1 c r2 d r3 e r4 f r5 g r6 h r7 t0 t1 t2 t3 t4 t5 t6 t7 =
    let u6 = Takes-then r5 g r6 h r7 t6 t7 in
    let u5 = Takes-then r4 f r5 (g ++ h) r7 t5 u6 in
    let u4 = Takes-then r3 e r4 (f ++ (g ++ h)) r7 t4 u5 in
    let u3 = Takes-then r2 d r3 (e ++ (f ++ (g ++ h))) r7 t3 u4 in
    let u2 = Takes-then r1 c r2 (d ++ (e ++ (f ++ (g ++ h)))) r7 t2 u3 in
    let u1 = Takes-then r0 b r1 (c ++ (d ++ (e ++ (f ++ (g ++ h))))) r7 t1 u2 in
    Takes-then bytes a r0 (b ++ (c ++ (d ++ (e ++ (f ++ (g ++ h)))))) r7 t0 u1
