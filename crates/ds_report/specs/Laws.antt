-- What is printed is the model's text.
use Rattle.std.specs.Prelude.{◌≡◌, ℕ}
use Rattle.ds_model.specs.Plan.{Plan, host_plan}
use Rattle.ds_model.specs.Text.{joined, host_sections, nothing_hidden}
use Rattle.ds_model.specs.Print.{Printing, printed}
use Rattle.ds_exporter.specs.HostStates.{HostState}
use Rattle.ds_exporter.specs.PlainHosts.{host_of, site_of}
use Rattle.ds_report.specs.Hosts.{host_text}

-- a host's text is the model's, joined, where the plan is what setup fixed of it
abbrev pub EachHostIsPrinted : Type 0
EachHostIsPrinted = (p : Printing) (plan : Plan) (h : ℕ) (e : HostState) → site_of e ≡ host_plan plan h
    → joined (host_sections (printed p plan) nothing_hidden (host_plan plan h) h (host_of e)) ≡ host_text p plan h e
