use Rattle.std.proofs.Common.{◌≡◌, sym, ◌∙◌, [], ◌∷◌, map, ap, option_to_list}
use Rattle.std.specs.List.{list_any}
use Rattle.serde_json.specs.View.{view}
use Rattle.ds_doc.specs.Places.{same_text}
use Rattle.ds_doc.specs.Shapes.{text_of}
use Rattle.ds_doc.proofs.Different.{unchanged}
use Rattle.ds_doc.proofs.Once.{one_more, known, unknown, added}
use Rattle.ds_doc.proofs.judge.add_text.Goals as goal

pub returns-in_ok-push-clause-texts : goal.returns-in_ok-push-clause-texts
returns-in_ok-push-clause-texts c =
    let k = c.in-Some.text in
    let ts = c.args.texts.now.items in
    let e : text_of (view c.args.item.now) ≡ k.now ∷ [] = ap option_to_list (sym c.in-Some.ensures) in
    rw e (ap (λ xs. map (λ t. t.now) xs) c.in_ok-push.ensures.items
    ∙ added ts k (unknown c.args.known.now.keys ts k c.requires (sym c.if-branch.true ∙ c.in_ok-insert.ensures.added)))

pub returns-in_ok-push-clause-known : goal.returns-in_ok-push-clause-known
returns-in_ok-push-clause-known c =
    λ s. one_more c.args.known.now.keys c.insert.new.self.keys c.args.texts.now.items c.in-Some.text c.in_ok-insert.ensures.keys c.requires s
    ∙ ap (λ xs. list_any (λ t. same_text t s) (map (λ t. t.now) xs)) (sym c.in_ok-push.ensures.items)

pub returns-else-branch-clause-texts : goal.returns-else-branch-clause-texts
returns-else-branch-clause-texts c =
    let k = c.in-Some.text in
    let ts = c.args.texts.now.items in
    let e : text_of (view c.args.item.now) ≡ k.now ∷ [] = ap option_to_list (sym c.in-Some.ensures) in
    rw e (unchanged (map (λ t. t.now) ts) k.now (known c.args.known.now.keys ts k c.requires (sym c.if-branch.false ∙ c.in_ok-insert.ensures.added)))
