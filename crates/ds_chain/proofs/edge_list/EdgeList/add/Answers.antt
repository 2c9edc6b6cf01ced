use Rattle.std.proofs.Common.{◌∙◌, ◌++◌, ◌∷◌, [], List, Some, ap}
use Rattle.std.specs.Prelude.{Option}
use Rattle.ds_chain.specs.declared.edge.Edge.{Edge}
use Rattle.ds_label.specs.declared.category.PubKey.{PubKey}
use Rattle.ds_chain.specs.Naming.{hops_of}
use Rattle.ds_chain.proofs.Numbered.{on_error, hops_kept, kept_over, hops_push}
use Rattle.ds_chain.proofs.edge_list.EdgeList.add.Goals as goal

pub returns-in_err-to-clause-err : goal.returns-in_err-to-clause-err
returns-in_err-to-clause-err c =
    on_error c.from_residual-in_err-to.result _
    (ap (λ keys. hops_of keys c.self.inside.edges.items) c.in_err-to.ensures.err
    ∙ hops_kept c.self.inside.keys.items c.number_of.new.keys.items c.self.inside.edges.items c.self.invariant.below c.in_ok-by.ensures.ok.kept
    ∙ c.self.view_is)

pub returns-in_err-push-clause-err : goal.returns-in_err-push-clause-err
returns-in_err-push-clause-err c =
    on_error c.from_residual-in_err-push.result _
    (ap (λ edges. hops_of c.number_of-2.new.keys.items edges) c.in_err-push.ensures.items
    ∙ kept_over c.self.inside.keys.items c.number_of.new.keys.items c.number_of-2.new.keys.items c.self.inside.edges.items c.args.by.now c.args.to.now c.in_ok-by.by c.in_ok-to.to
    c.self.invariant.below c.in_ok-by.ensures.ok c.in_ok-to.ensures.ok
    ∙ c.self.view_is)

pub returns-clause-ok : goal.returns-clause-ok
returns-clause-ok c =
    ap (λ edges. hops_of c.number_of-2.new.keys.items edges) c.in_ok-push.ensures.items
    ∙ hops_push c.self.inside.keys.items c.number_of.new.keys.items c.number_of-2.new.keys.items c.self.inside.edges.items c.args.by.now c.args.to.now c.in_ok-by.by c.in_ok-to.to
    c.self.invariant.below c.in_ok-by.ensures.ok c.in_ok-to.ensures.ok
    ∙ ap (λ (before : List (Option (Edge PubKey))). before ++ Some (record { by = c.args.by.now; to = c.args.to.now }) ∷ []) c.self.view_is
