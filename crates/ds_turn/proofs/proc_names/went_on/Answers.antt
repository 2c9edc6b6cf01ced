use Rattle.std.proofs.Common.{◌≡◌, ◌++◌, sym, length, ◌∙◌}
use Rattle.ds_turn.proofs.ProcTables.{front_and_back, table_went_on, usables_are}
use Rattle.ds_turn.proofs.proc_names.went_on.Goals as goal

pub returns-then-eq : goal.returns-then-eq
returns-then-eq c = λ test table.
    let before = c.args.before.now in let after = c.args.after.now in
    let front = sym c.split_at.ensures.front ∙ usables_are c.split_at.result.0.now before (sym c.eq.ensures ∙ c.if-eq.true) in
    let whole : after ≡ before ++ c.split_at.result.1.now = front_and_back (length before) after ∙ (λ i. front i ++ sym c.split_at.ensures.back i) in
    table_went_on c.args.here.now before c.split_at.result.1.now after whole (sym c.have_home_numbers.ensures ∙ test) table
