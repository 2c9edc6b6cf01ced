-- A host's inlets.
use Rattle.std.proofs.Common.{◌≡◌, ℕ, true, false, List, [], ◌++◌, map, sym, ◌∙◌, ap}
use Rattle.std.specs.List.{flat_map}
use Rattle.std.proofs.lemmas.Bool.{cond-true, cond-false}
use Rattle.ds_model.specs.Scheme.{InletName}
use Rattle.ds_plan.specs.declared.host.HostSpec.{HostSpec}
use Rattle.ds_plan.specs.Documents.{is_silent}
use Rattle.ds_setup.specs.Lists.{joined}
use Rattle.ds_setup.specs.Plans.{declared_inlet, inlets_from, inlets_of}
use Rattle.ds_boot.proofs.Lists.{flat_is_joined}

pub inlets_running : (hosts : List HostSpec) (here : ℕ) (h : HostSpec) (names : List InletName) → is_silent h.secret ≡ false → names ≡ flat_map (inlets_from here) hosts ++ map (declared_inlet hosts) h.inlets → names ≡ inlets_of hosts here h
inlets_running hosts here h names runs is =
    is ∙ (ap (λ (xs : List InletName). xs ++ map (declared_inlet hosts) h.inlets) (flat_is_joined (inlets_from here) hosts)
    ∙ sym (cond-false (is_silent h.secret) [] (joined (map (inlets_from here) hosts) ++ map (declared_inlet hosts) h.inlets) runs))

pub inlets_silent : (hosts : List HostSpec) (here : ℕ) (h : HostSpec) (names : List InletName) → is_silent h.secret ≡ true → names ≡ [] → names ≡ inlets_of hosts here h
inlets_silent hosts here h names silent is = is ∙ sym (cond-true (is_silent h.secret) [] (joined (map (inlets_from here) hosts) ++ map (declared_inlet hosts) h.inlets) silent)
