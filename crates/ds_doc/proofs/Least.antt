-- The least fault of two lists.
use Rattle.std.proofs.Common.{◌≡◌, List, [], ◌∷◌, ◌++◌, Option, Some, None, arith, refl, sym}
use Rattle.std.proofs.lemmas.Bool.Decides.{nat_tests}
use Rattle.ds_doc.specs.declared.fault.Fault.{Fault}
use Rattle.ds_doc.specs.Shapes.{lesser, least}

lesser_assoc : (f g h : Fault) → lesser (lesser (Some f) (Some g)) (Some h) ≡ lesser (Some f) (lesser (Some g) (Some h))
lesser_assoc f g h = grind (arith, nat_tests)

lesser_joins : (f : Fault) (g h : Option Fault) → lesser (lesser (Some f) g) h ≡ lesser (Some f) (lesser g h)
lesser_joins f None h = refl
lesser_joins f (Some g) None = grind (arith, nat_tests)
lesser_joins f (Some g) (Some h) = lesser_assoc f g h

pub least_append : (fs gs : List Fault) → least (fs ++ gs) ≡ lesser (least fs) (least gs)
least_append [] gs = refl
least_append (f ∷ fs) gs = rw (least_append fs gs) (sym (lesser_joins f (least fs) (least gs)))

pub lesser_all : (f g h : Option Fault) → lesser (lesser f g) h ≡ lesser f (lesser g h)
lesser_all None g h = refl
lesser_all (Some f) g h = lesser_joins f g h

-- a fault that was found, those of one part, and those of the others
pub least_more : (found : Option Fault) (fs gs : List Fault) → lesser (lesser found (least fs)) (least gs) ≡ lesser found (least (fs ++ gs))
least_more found fs gs = rw (least_append fs gs) (lesser_all found (least fs) (least gs))

pub lesser_none : (f : Option Fault) → lesser f None ≡ f
lesser_none None = refl
lesser_none (Some f) = refl
