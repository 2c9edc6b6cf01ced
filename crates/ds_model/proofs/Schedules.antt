-- Two tests that find what is still are one, and so are the schedules that they make.
use Rattle.std.proofs.Common.{◌≡◌, Bool, true, false, refl, sym, ◌∙◌, ap}
use Rattle.ds_model.specs.Scheme.{Scheme}
use Rattle.ds_model.specs.Plan.{Plan}
use Rattle.ds_model.specs.Schedule.{Test, Decides, canonical, OneSchedule}

same_bool : (a b : Bool) → (a ≡ false → b ≡ false) → (b ≡ false → a ≡ false) → a ≡ b
same_bool true true f g = refl
same_bool false false f g = refl
same_bool true false f g = g refl
same_bool false true f g = sym (f refl)

same_test : (s : Scheme) (plan : Plan) (one two : Test) → Decides s plan one → Decides s plan two → one ≡ two
same_test s plan one two d e = λ i w event. same_bool (one w event) (two w event) (λ q. (e w event).1 ((d w event).0 q)) (λ q. (d w event).1 ((e w event).0 q)) i

pub one_schedule : OneSchedule
one_schedule s plan budget w one two c d = c.made ∙ (ap (λ test. canonical test s plan budget w) (same_test s plan c.changes d.changes c.decides d.decides) ∙ sym d.made)
