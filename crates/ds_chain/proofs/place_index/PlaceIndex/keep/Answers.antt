use Rattle.std.proofs.Common.{◌≡◌, ◌++◌, ◌≤◌, [], List, true, false, length, sym, ap, ◌∙◌, subst}
use Rattle.std.specs.List.Sorted.{IsPartitionPoint}
use Rattle.ds_label.specs.Names.{same_category}
use Rattle.ds_chain.specs.declared.place_index.Posting.{Posting}
use Rattle.ds_chain.specs.Postings.{AreSorted, is_upto, listed, places_in}
use Rattle.ds_chain.specs.Stored.{Stored}
use Rattle.ds_chain.proofs.Listings.{AreSorted-insert, places_in-insert}
use Rattle.ds_chain.proofs.place_index.PlaceIndex.keep.Goals as goal

pub count_upto-end-requires : goal.count_upto-end-requires
count_upto-end-requires c = subst AreSorted (sym c.as_slice.ensures.value) c.self.invariant

pub invariant_of-self : goal.invariant_of-self
invariant_of-self c =
    let ps = c.self.inside.postings.items in
    let new : Posting = record { category = c.args.category; place = c.args.place } in
    let within : c.count_upto-end.result ≤ length ps = subst (λ (l : List Posting). c.count_upto-end.result ≤ length l) c.as_slice.ensures.value c.count_upto-end.ensures.within in
    let point : IsPartitionPoint (λ p. is_upto c.args.category p ≡ true) (λ p. is_upto c.args.category p ≡ false) ps c.count_upto-end.result =
    subst (λ (l : List Posting). IsPartitionPoint (λ p. is_upto c.args.category p ≡ true) (λ p. is_upto c.args.category p ≡ false) l c.count_upto-end.result) c.as_slice.ensures.value c.count_upto-end.ensures.split in
    subst AreSorted (sym c.in-Ok.ensures.items) (AreSorted-insert ps c.count_upto-end.result new c.self.invariant within point)

pub returns : goal.returns
returns c =
    let ps = c.self.inside.postings.items in
    let new : Posting = record { category = c.args.category; place = c.args.place } in
    let point : IsPartitionPoint (λ p. is_upto c.args.category p ≡ true) (λ p. is_upto c.args.category p ≡ false) ps c.count_upto-end.result =
    subst (λ (l : List Posting). IsPartitionPoint (λ p. is_upto c.args.category p ≡ true) (λ p. is_upto c.args.category p ≡ false) l c.count_upto-end.result) c.as_slice.ensures.value c.count_upto-end.ensures.split in
    λ category. ap (places_in category) c.in-Ok.ensures.items
    ∙ places_in-insert ps c.count_upto-end.result new point category
    ∙ ap (λ (s : Stored Posting). places_in category s.items ++ listed (same_category c.args.category category) c.args.place []) c.self.view_is
