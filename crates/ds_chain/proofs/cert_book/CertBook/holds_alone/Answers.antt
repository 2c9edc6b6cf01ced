use Rattle.ds_chain.specs.Answers.{category_of, key_of}
use Rattle.ds_chain.proofs.Holders.{held_holds}
use Rattle.ds_chain.proofs.cert_book.CertBook.holds_alone.Goals as goal

pub returns-in-Some-clause-holds : goal.returns-in-Some-clause-holds
returns-in-Some-clause-holds c =
    held_holds c.args.self.now.items c.args.extra.now.items c.args.now c.args.category.now (category_of c.new-question.result) c.args.key.now (key_of c.new-question.result) c.in-Some.held
    c.requires c.new-question.ensures.category c.new-question.ensures.key c.in-Some.ensures.held
