-- Two documents that agree print alike, and so the law over two runs speaks of both texts.
use Rattle.std.proofs.Common.{◌≡◌, ℕ, List, [], ◌∷◌, refl, sym, ap, ap₂, ◌∙◌, map}
use Rattle.ds_label.specs.declared.category.Category.{Category}
use Rattle.ds_plan.specs.declared.doc.Doc.{Doc}
use Rattle.ds_plan.specs.declared.host.HostSpec.{HostSpec}
use Rattle.ds_model.specs.Plan.{Plan}
use Rattle.ds_model.specs.Text.{Format}
use Rattle.ds_model.specs.Print.{Printing, printed}
use Rattle.ds_noninterference.specs.Outside.{outside_sections}
use Rattle.ds_setup.specs.Plans.{plan_of}
use Rattle.ds_law.specs.TwoDocuments.{AgreeDocs, without_procs, end_of}
use Rattle.ds_law.proofs.Agreeing.{agreeing}
use Rattle.ds_law.proofs.Documents.{same_sections}
use Rattle.ds_report.specs.Printings.{printing_of, name_of}
use Rattle.ds_sim.specs.Outside.{RunsLookTheSame}

names_rest : (hosts : List HostSpec) → map name_of (map without_procs hosts) ≡ map name_of hosts
names_rest [] = refl
names_rest (h ∷ hosts) = ap (λ (names : List (List ℕ)). h.name ∷ names) (names_rest hosts)

-- one printing
printing_same : (c : Category) (trusted : List ℕ) (d e : Doc) → AgreeDocs c trusted d e → printing_of d ≡ printing_of e
unfolding printing_of
printing_same c trusted d e agree =
    let names : map name_of d.hosts ≡ map name_of e.hosts = sym (names_rest d.hosts) ∙ ap (λ (x : Doc). map name_of x.hosts) agree.rest ∙ names_rest e.hosts in
    λ i. record (printing_of d) { names = names i }

pub looks_the_same : RunsLookTheSame
looks_the_same c trusted d one e two is_d is_e both =
    let plan : plan_of d ≡ plan_of e = (agreeing c trusted d e both.documents).0 in
    let format : printed (printing_of d) (plan_of d) ≡ printed (printing_of e) (plan_of e) =
    ap₂ (λ (p : Printing) (q : Plan). printed p q) (printing_same c trusted d e both.documents) plan in
    same_sections c trusted d one e two is_d is_e both (printed (printing_of d) (plan_of d))
    ∙ ap (λ (f : Format). outside_sections f c trusted (plan_of e) (end_of e two)) format
