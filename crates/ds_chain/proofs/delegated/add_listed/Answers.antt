use Rattle.std.proofs.Common.{◌≡◌, ◌++◌, ◌∷◌, [], ℕ, List, map, drop, get_or, sym, ap, ◌∙◌}
use Rattle.std.specs.Prelude.{Option}
use Rattle.std.proofs.lemmas.Bool.{false≢true}
use Rattle.ds_label.specs.declared.category.PubKey.{PubKey}
use Rattle.ds_chain.specs.declared.edge.Edge.{Edge}
use Rattle.ds_chain.specs.declared.place_index.Posting.{Posting}
use Rattle.ds_chain.proofs.Listings.{hop_of-other, hops_more, listed_here, listed_later}
use Rattle.ds_chain.proofs.delegated.add_listed.Goals as goal
use Rattle.ds_chain.proofs.delegated.add_listed.Goals.{then-is_next+in_ok-add_hop, else-is_next+in_ok-skip}

pub loop-place-preserved : goal.loop-place-preserved
loop-place-preserved c =
    let certs = c.args.certs.now in
    let cert = c.index-certs-place.result in
    let places : List ℕ = map (λ (p : Posting). p.place) c.args.postings.now in
    let is : get_or certs c.loop-place.place cert ≡ cert = sym c.index-certs-place.is in
    elim c.if-is_next.branch [
      | then-is_next+in_ok-add_hop w ↦
          record {
            edges = w.edges-is ∙ w.in_ok-add_hop.ensures
                ∙ hops_more c.args.now c.args.category.now certs c.loop-place.place cert c.loop-place-test.true is c.args.edges.now c.loop-place.edges c.loop-place.invariant.edges;
            left = ap (λ (n : ℕ). drop n places) w.next-is
                ∙ listed_here c.args.category.now places c.loop-place.next c.loop-place.place certs cert c.loop-place-test.true is c.loop-place.invariant.left (c.is_next.ensures.0 w.if-is_next.true);
          }
      | else-is_next+in_ok-skip w ↦
          (let later = listed_later c.args.category.now places c.loop-place.next c.loop-place.place certs cert c.loop-place-test.true is c.loop-place.invariant.left
          (λ e. false≢true (sym w.if-is_next.false ∙ c.is_next.ensures.1 e)) in
          record {
            edges = w.edges-is ∙ w.in_ok-skip.ensures.ok
                ∙ ap (λ (o : Option (Edge PubKey)). c.loop-place.edges ++ o ∷ []) (sym (hop_of-other c.args.now c.args.category.now cert later.1))
                ∙ hops_more c.args.now c.args.category.now certs c.loop-place.place cert c.loop-place-test.true is c.args.edges.now c.loop-place.edges c.loop-place.invariant.edges;
            left = ap (λ (n : ℕ). drop n places) w.next-is ∙ later.0;
          })
    ]
