use Rattle.std.proofs.Common.{◌≡◌, ◌∷◌, ◌++◌, OnOk, sym, ap, subst, ◌∙◌, List, ℕ}
use Rattle.ds_model.specs.Print.{label_text}
use Rattle.ds_report.specs.Printings.{printing_of, planned}
use Rattle.ds_report.specs.Words.{label_with}
use Rattle.ds_report.proofs.Places.{label_pieces}
use Rattle.ds_report.proofs.names.push_label.Goals as goal

pub returns-in-Some : goal.returns-in-Some
returns-in-Some c =
    let p = printing_of c.args.doc.now in
    let plan = planned c.args.doc.now in
    let e : c.args.label.now ≡ c.in-Some.first.now ∷ c.in-Some.others.now = c.in-Some.ensures.cases.0 in
    let whole : label_with p plan c.in-Some.first.now c.in-Some.others.now ≡ label_text p plan c.args.label.now =
    sym (label_pieces p plan c.in-Some.first.now c.in-Some.others.now) ∙ ap (label_text p plan) (sym e) in
    subst (λ (text : List ℕ). OnOk c.push_some.result (c.push_some.new.out.items ≡ c.args.out.now.items ++ text)) whole c.push_some.ensures
