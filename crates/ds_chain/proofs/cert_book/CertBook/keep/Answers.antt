use Rattle.std.proofs.Common.{ℕ, List, [], ◌++◌, sym, ap, ◌∙◌, subst}
use Rattle.ds_label.specs.Names.{same_category}
use Rattle.ds_cert.specs.declared.delegation.Delegation.{Delegation}
use Rattle.ds_chain.specs.Postings.{AreIndexed, listed, places_in}
use Rattle.ds_chain.proofs.Kept.{no_answers}
use Rattle.ds_chain.proofs.Listings.{AreIndexed-push}
use Rattle.ds_chain.proofs.cert_book.CertBook.keep.Goals as goal

pub invariant_of-self : goal.invariant_of-self
invariant_of-self c = (
  subst (λ (certs : List Delegation). AreIndexed certs c.keep.new.self.items) (sym c.keep-2.ensures)
      (AreIndexed-push c.self.inside.list.items c.args.cert c.self.inside.index.items c.keep.new.self.items c.self.invariant.0
      (λ category. c.keep.ensures category ∙ ap (λ (n : ℕ). places_in category c.self.inside.index.items ++ listed (same_category c.args.cert.category category) n []) c.len-count.ensures.count)),
  no_answers c.keep-2.new.self.items c.self.inside.moment c.empty_unless.new.answers.entries c.empty_unless.ensures,
)
