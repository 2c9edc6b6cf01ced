use Rattle.std.proofs.Common.{rules, arith, ◌∙◌, ◌≡◌, ap, sym, decimal}
use Rattle.std.proofs.lemmas.Fmt.{parse-decimal}
use Rattle.std.proofs.lemmas.Slice.Eq.{bytes_eq-Decides}
use Rattle.std.proofs.lemmas.Grind.{common_steps}
use Rattle.ds_base.proofs.Spelling.{digits_are_utf8}
use Rattle.ds_base.proofs.mark_text.number_read.Goals as goal

pub returns-in_err-digits-clause-none : goal.returns-in_err-digits-clause-none
returns-in_err-digits-clause-none c = λ none number small is. grind (arith, common_steps, digits_are_utf8 c.args.text.now number small is)

pub returns-in_err-number-clause-none : goal.returns-in_err-number-clause-none
returns-in_err-number-clause-none c = λ none number small is.
    let same : c.in_ok-digits.digits.now ≡ c.args.text.now = search rules in
    let read = parse-decimal 64 number c.in_ok-digits.digits.now c.parse.result small small (same ∙ is) c.parse.ensures.value.0 in
    grind (arith, common_steps, read)

pub returns-else-is_printed-clause-none : goal.returns-else-is_printed-clause-none
returns-else-is_printed-clause-none c = λ none number small is.
    let same : c.in_ok-digits.digits.now ≡ c.args.text.now = search rules in
    let read = parse-decimal 64 number c.in_ok-digits.digits.now c.parse.result small small (same ∙ is) c.parse.ensures.value.0 in
    let got : c.in_ok-number.number ≡ number = grind (arith, common_steps, read) in
    let printed = (bytes_eq-Decides c.args.text.now (decimal c.in_ok-number.number)).1 (is ∙ ap decimal (sym got)) in
    cc (printed, c.is_printed.ensures, c.if-is_printed.false)
