use Rattle.std.proofs.Common.{◌∙◌, sym, refl}
use Rattle.ds_doc.specs.Seen.{seen}
use Rattle.ds_doc.proofs.Once.{known}
use Rattle.ds_doc.proofs.Counted.{more, skip}
use Rattle.ds_doc.proofs.reading.basics.add_text.Goals as goal

pub returns-in_ok-add_category-clause-known : goal.returns-in_ok-add_category-clause-known
returns-in_ok-add_category-clause-known c =
    rw (c.in_ok-add_category.ensures, c.in_ok-placed_category.ensures, sym c.text.ensures)
    (more c.args.most c.args.names.now c.args.set.now c.args.known.now.keys c.insert.new.self.keys c.text.result c.args.spot.now.at c.in_ok-insert.ensures.keys c.requires)

pub returns-else-branch-clause-set : goal.returns-else-branch-clause-set
returns-else-branch-clause-set c =
    let ks = c.args.known.now.keys in
    let k = c.text.result in
    rw (sym c.text.ensures)
    (skip c.args.most c.args.set.now _ (c.requires.each k.now c.args.spot.now.at (known ks ks k (λ s. refl) (sym c.if-branch.false ∙ c.in_ok-insert.ensures.added))))
