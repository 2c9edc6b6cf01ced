use Rattle.std.proofs.Common.{◌≡◌, subst, sym}
use Rattle.std.proofs.lemmas.Result.{IfOk-weaker}
use Rattle.ds_plan.specs.declared.doc.Doc.{Doc}
use Rattle.ds_plan.specs.Documents.{IsDocument}
use Rattle.ds_boot.specs.AllKeys.{AreKeysOf}
use Rattle.ds_sim.specs.Sims.{IsTextOf, text_now}
use Rattle.ds_sim.proofs.Begun.{without_is}
use Rattle.ds_sim.proofs.Texts.{is_text}
use Rattle.ds_sim.proofs.simulate.run_text_with.Goals as goal

pub setup_with-requires-clause-document : goal.setup_with-requires-clause-document
setup_with-requires-clause-document c = subst IsDocument (sym c.apart-begins.ensures.doc) (without_is c.args.doc c.requires.document)

pub setup_with-requires-clause-keys : goal.setup_with-requires-clause-keys
setup_with-requires-clause-keys c = subst (λ (d : Doc). AreKeysOf d c.args.keys) (sym c.apart-begins.ensures.doc) c.requires.keys

pub returns : goal.returns
returns c =
    IfOk-weaker c.text_of.result (λ text. text.items ≡ text_now c.happen.new.world) (λ text. IsTextOf c.args.doc text.items)
    (λ text same. is_text c.args.doc c.apart-begins.result.0 c.apart-begins.result.1 c.in_ok-world.world c.happen.new.world text.items
    (subst IsDocument (sym c.apart-begins.ensures.doc) (without_is c.args.doc c.requires.document)) c.apart-begins.ensures.doc c.apart-begins.ensures.events c.in_ok-world.ensures.doc c.in_ok-world.ensures.start c.in_ok-happen.ensures same)
    c.text_of.ensures
