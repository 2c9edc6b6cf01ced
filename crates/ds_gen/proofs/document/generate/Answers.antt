use Rattle.std.proofs.Common.{◌≡◌, sym, subst, None}
use Rattle.ds_plan.specs.declared.doc.Doc.{Doc}
use Rattle.ds_plan.specs.Documents.{IsDocument}
use Rattle.ds_gen.specs.Generated.{generated}
use Rattle.ds_gen.proofs.Whole.{documented}
use Rattle.ds_gen.proofs.document.generate.Goals as goal

pub returns-clause-document : goal.returns-clause-document
returns-clause-document c =
    let made : Doc = record { hosts = c.in_ok-hosts.field-0; moment = 0; budget = 20000; certs = c.in_ok-certs.field-0; links = c.new.result; events = None } in
    let same : made ≡ generated c.args.count = λ i. record { hosts = c.in_ok-hosts.ensures i; moment = 0; budget = 20000; certs = c.in_ok-certs.ensures i; links = c.new.ensures i; events = None } in
    subst IsDocument (sym same) (documented c.args.count c.requires)
