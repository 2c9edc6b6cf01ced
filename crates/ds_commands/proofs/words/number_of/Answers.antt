use Rattle.std.proofs.Common.{◌≡◌, ◌∙◌, sym, true}
use Rattle.ds_commands.specs.Words.{is_decimal}
use Rattle.ds_commands.proofs.Numbers.{too_great}
use Rattle.ds_commands.proofs.words.number_of.Goals as goal

pub returns-in-Err : goal.returns-in-Err
returns-in-Err c =
    let same : c.as_bytes.result.now ≡ c.args.text.now = c.as_bytes.ensures.value in
    let decimal : is_decimal c.args.text.now ≡ true = rw (sym same) (sym c.is_decimal.ensures ∙ c.if-not-is_decimal.false) in
    too_great c.args.most c.args.text.now c.ranges.most.fits decimal c.in-Err.ensures.value.0
