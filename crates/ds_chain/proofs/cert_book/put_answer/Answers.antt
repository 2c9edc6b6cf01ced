use Rattle.std.proofs.Common.{◌≡◌, ℕ, ◌⊎◌, List, Contains, subst}
use Rattle.std.specs.Prelude.{Option}
use Rattle.ds_chain.proofs.Cached.{put_more}
use Rattle.ds_chain.proofs.cert_book.put_answer.Goals as goal

pub returns-in-Ok : goal.returns-in-Ok
returns-in-Ok c = λ entry there.
    subst (λ (a : Option (List ℕ)). Contains c.args.answers.now.entries entry ⊎ (entry ≡ (c.args.question, a))) c.in-Ok.ensures
    (put_more c.args.answers.now c.put.new.self c.args.question c.in-Ok.copy c.put.result c.put.ensures.entries c.put.ensures.err entry there)
