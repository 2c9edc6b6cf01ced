use Rattle.std.proofs.Common.{ℕ, List, Contains, sym, ap, ◌∙◌, subst}
use Rattle.std.specs.Prelude.{Option, option_copied}
use Rattle.lru.specs.LruCache.{LruCache}
use Rattle.lru.proofs.CallerLemmas.{Contains-promoted}
use Rattle.ds_chain.specs.declared.question.Question.{Question}
use Rattle.ds_chain.specs.contracts.question.QuestionPartialEq.TheImpl as equal
use Rattle.ds_chain.proofs.Cached.{found_entry}
use Rattle.ds_chain.proofs.cert_book.held_in.Goals as goal

pub returns-in-Some-clause-held : goal.returns-in-Some-clause-held
returns-in-Some-clause-held c = record {
  answer = c.in-Some.answer.now;
  there = found_entry c.args.answers.now.entries c.args.question c.in-Some.answer.now (sym c.get.ensures.value ∙ ap option_copied c.in-Some.is);
  told = c.is_some.ensures;
}

pub returns-in-Some-clause-fewer : goal.returns-in-Some-clause-fewer
returns-in-Some-clause-fewer c = λ entry there.
    Contains-promoted ((equal.ghosts).eq c.args.question) c.args.answers.now.entries entry
    (subst (λ (k : LruCache Question (Option (List ℕ))). Contains k.entries entry) c.get.follows.holds-at-none there)

pub returns-in-None-clause-fewer : goal.returns-in-None-clause-fewer
returns-in-None-clause-fewer c = λ entry there.
    Contains-promoted ((equal.ghosts).eq c.args.question) c.args.answers.now.entries entry
    (subst (λ (k : LruCache Question (Option (List ℕ))). Contains k.entries entry) c.get.follows.holds-at-none there)
