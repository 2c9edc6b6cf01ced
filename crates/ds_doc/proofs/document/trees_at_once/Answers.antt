use Rattle.ds_doc.specs.Reading.{identity}
use Rattle.ds_doc.proofs.Checked.{made_all}
use Rattle.ds_doc.proofs.document.trees_at_once.Goals as goal

pub returns : goal.returns
returns g c =
    made_all identity c.args.hosts.now c.in_ok-trees.trees.items c.in_ok-made.made.items c.in_ok-trees.ensures c.in_ok-made.ensures.count (λ i d h within. c.in_ok-made.ensures.each i d h within)
