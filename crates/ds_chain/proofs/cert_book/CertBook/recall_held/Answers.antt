use Rattle.ds_chain.proofs.Kept.{fewer_answers}
use Rattle.ds_chain.proofs.cert_book.CertBook.recall_held.Goals as goal

pub invariant_of-self : goal.invariant_of-self
invariant_of-self c = (
  c.self.invariant.0,
  fewer_answers c.self.inside.list.items c.self.inside.moment c.self.inside.answers.entries c.held_in.new.answers.entries (λ entry there. c.held_in.ensures.fewer entry there) c.self.invariant.1,
)
