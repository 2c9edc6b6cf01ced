use Rattle.std.proofs.Common.{◌++◌}
use Rattle.ds_chain.specs.Delegated.{hops_of_list}
use Rattle.ds_chain.proofs.Numbered.{answer_holds, answer_shortest}
use Rattle.ds_chain.proofs.cert_book.CertBook.search.Goals as goal

pub returns-then-alone-clause-holds : goal.returns-then-alone-clause-holds
returns-then-alone-clause-holds c =
    answer_holds (hops_of_list c.args.now c.args.category.now (c.args.self.now.items ++ c.args.extra.now.items)) c.args.category.now.creator c.args.key.now c.search_alone.result c.search_alone.ensures.answer

pub returns-then-alone-clause-shortest : goal.returns-then-alone-clause-shortest
returns-then-alone-clause-shortest c =
    answer_shortest (hops_of_list c.args.now c.args.category.now (c.args.self.now.items ++ c.args.extra.now.items)) c.args.category.now.creator c.args.key.now c.search_alone.result c.search_alone.ensures.answer

pub returns-clause-holds : goal.returns-clause-holds
returns-clause-holds c =
    answer_holds (hops_of_list c.args.now c.args.category.now (c.args.self.now.items ++ c.args.extra.now.items)) c.args.category.now.creator c.args.key.now c.find.result c.find.ensures

pub returns-clause-shortest : goal.returns-clause-shortest
returns-clause-shortest c =
    answer_shortest (hops_of_list c.args.now c.args.category.now (c.args.self.now.items ++ c.args.extra.now.items)) c.args.category.now.creator c.args.key.now c.find.result c.find.ensures
