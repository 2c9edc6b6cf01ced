use Rattle.std.proofs.Common.{nat_eq, eqb-true}
use Rattle.ds_chain.proofs.Kept.{answers_turned, one_answer_more}
use Rattle.ds_chain.proofs.cert_book.CertBook.remember.Goals as goal

pub invariant_of-self : goal.invariant_of-self
invariant_of-self c =
    let certs = c.self.inside.list.items in
    let is = rw (← c.self.view_is) at c.requires in
    let stays = answers_turned certs c.self.inside.moment c.args.now (nat_eq c.self.inside.moment c.args.now) c.self.inside.answers.entries c.empty_unless.new.answers.entries
    c.empty_unless.ensures (λ e. eqb-true _ _ e) c.self.invariant.1 in (
      c.self.invariant.0,
      one_answer_more certs c.args.now c.empty_unless.new.answers.entries c.put_answer.new.answers.entries c.args.question c.args.answer.now is (λ entry there. c.put_answer.ensures entry there) stays,
    )
