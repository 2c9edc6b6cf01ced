-- An inlet's line, by its part of the plan.
use Rattle.std.specs.Prelude.{ℕ, List, [], ◌∷◌, ◌++◌, codes, decimal}
use Rattle.ds_label.specs.declared.category.PubKey.{PubKey}
use Rattle.ds_model.specs.Scheme.{InletName}
use Rattle.ds_model.specs.Plan.{Plan}
use Rattle.ds_model.specs.Inlet.{Inlet}
use Rattle.ds_model.specs.Print.{Printing, line, dotted, host_name, key_name, last_text}

abbrev pub inlet_text : Printing → Plan → (h : ℕ) → InletName → Inlet → List ℕ
inlet_text p plan h name x = line (codes "inlet" ∷ host_name p plan h ∷ codes "from" ∷ dotted (key_name p plan name.exporter ∷ decimal name.lane ∷ []) ∷ codes "last" ∷ last_text p plan x ∷ [])

-- the front of its line
abbrev pub inlet_head : Printing → Plan → (h : ℕ) → (exporter : PubKey) → (lane : ℕ) → List ℕ
inlet_head p plan h exporter lane =
    codes "inlet " ++ (host_name p plan h ++ (codes " from " ++ (key_name p plan exporter ++ 46 ∷ (decimal lane ++ codes " last "))))
