use Rattle.std.proofs.Common.{◌≡◌, ◌+◌, ◌*◌, ◌-◌, ◌<◌, sym, subst, ◌∙◌, drop, length, get_or, arith, rules, None, nat_le}
use Rattle.std.proofs.lemmas.List.{at_drop_more}
use Rattle.ds_doc.specs.Texts.{value_of, value_from, only_if}
use Rattle.ds_doc.proofs.Cuts.{beyond}
use Rattle.ds_doc.proofs.text.value_within.Goals as goal

pub returns-then-value-most : goal.returns-then-value-most
returns-then-value-most c =
    let l = c.loop-digit in
    let xs = c.args.digits.now in
    let within : l.digit-index < length xs = search rules in
    let digit : c.from.result ≡ get_or xs l.digit-index 0 - 48 = search rules in
    let step = at_drop_more (value_from l.value) xs l.digit-index 0 within in
    let all : value_from (l.value * 10 + c.from.result) (drop (l.digit-index + 1) xs) ≡ value_of xs = rw digit (sym step ∙ l.invariant.read) in
    subst (λ n. None ≡ only_if (nat_le n c.args.most) n) all (beyond (drop (l.digit-index + 1) xs) (l.value * 10 + c.from.result) c.args.most (omega (arith, c.if-value-most.true)))
