use Rattle.std.proofs.Common.{sym, ◌∙◌}
use Rattle.std.proofs.lemmas.Bool.{false≢true}
use Rattle.ds_chain.specs.Naming.{hops_of}
use Rattle.ds_chain.proofs.Numbered.{same_key_is, own_chain, no_signer, no_end, answers}
use Rattle.ds_chain.proofs.key_search.search_keys.Goals as goal

pub returns-then-eq : goal.returns-then-eq
returns-then-eq c =
    own_chain (hops_of c.args.keys.now c.args.edges.now) c.args.creator.now c.args.key.now _ ((same_key_is c.args.creator.now c.args.key.now).0 (sym c.eq.ensures ∙ c.if-eq.true)) (c.new-then-eq.ensures ∙ c.new.ensures.items)

pub returns-in_default : goal.returns-in_default
returns-in_default c =
    no_signer c.args.keys.now c.args.edges.now c.requires.numbered c.args.creator.now c.args.key.now
    (λ q. false≢true (sym c.if-eq.false ∙ c.eq.ensures ∙ (same_key_is c.args.creator.now c.args.key.now).1 q)) c.in_default.ensures.none

pub returns-in_default-find_number : goal.returns-in_default-find_number
returns-in_default-find_number c =
    no_end c.args.keys.now c.args.edges.now c.requires.numbered c.args.creator.now c.args.key.now
    (λ q. false≢true (sym c.if-eq.false ∙ c.eq.ensures ∙ (same_key_is c.args.creator.now c.args.key.now).1 q)) c.in_default-find_number.ensures.none

pub returns : goal.returns
returns c =
    answers c.args.keys.now c.args.edges.now c.requires.numbered c.args.creator.now c.args.key.now c.in-Some.creator_number c.in-Some-find_number.key_number
    c.in-Some.ensures.within c.in-Some-find_number.ensures.within c.in-Some.ensures.named c.in-Some-find_number.ensures.named
    c.search_numbers.result c.search_numbers.ensures.shortest c.search_numbers.ensures.none
