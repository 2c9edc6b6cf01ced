use Rattle.std.proofs.Common.{ap, ◌∙◌}
use Rattle.std.specs.Prelude.{unwrap_or}
use Rattle.std.specs.BTreeMap.{get}
use Rattle.ds_merge.proofs.Derived.{actors_cmp}
use Rattle.ds_merge.proofs.tables.Tables.actor_last.Goals as goal

pub returns : goal.returns
returns c =
    c.unwrap_or.ensures ∙ ap (λ o. unwrap_or o 0) (c.copied.ensures ∙ c.get.ensures.value)
    ∙ (λ i. unwrap_or (get (λ a b. actors_cmp a b i) c.args.self.now.actors c.args.who) 0)
