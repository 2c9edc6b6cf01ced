use Rattle.std.proofs.Common.{◌≡◌, rules}
use Rattle.std.specs.Prelude.{IfOk}
use Rattle.ds_chain.specs.Keys.{same_key}
use Rattle.ds_chain.specs.Shortest.{shortest_chain}
use Rattle.ds_chain.proofs.Numbered.{answer_holds, answer_shortest}
use Rattle.ds_chain.proofs.edge_list.EdgeList.search.Goals as goal

pub returns-clause-holds : goal.returns-clause-holds
returns-clause-holds c =
    let given : IfOk c.search_keys.result (λ answer. answer ≡ shortest_chain same_key c.args.self.now c.args.creator.now c.args.key.now) = search rules in
    answer_holds c.args.self.now c.args.creator.now c.args.key.now c.search_keys.result given

pub returns-clause-shortest : goal.returns-clause-shortest
returns-clause-shortest c =
    let given : IfOk c.search_keys.result (λ answer. answer ≡ shortest_chain same_key c.args.self.now c.args.creator.now c.args.key.now) = search rules in
    answer_shortest c.args.self.now c.args.creator.now c.args.key.now c.search_keys.result given
