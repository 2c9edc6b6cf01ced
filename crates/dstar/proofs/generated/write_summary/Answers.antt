use Rattle.std.proofs.Common.{ℕ, List, subst}
use Rattle.ds_base.specs.Counts.{Appended}
use Rattle.dstar.specs.Outside.{WroteFront}
use Rattle.dstar.proofs.generated.write_summary.Goals as goal

pub returns-in-Ok-write_all-clause-caused : goal.returns-in-Ok-write_all-clause-caused
returns-in-Ok-write_all-clause-caused g c = record {
  summary = c.in-Ok.text.items;
  is = c.in-Ok.ensures;
  wrote = subst (λ (xs : List ℕ). Appended (g.W.Sink.tells c.args.out.now) xs (g.W.Sink.tells c.write_all.new.out)) c.as_slice.ensures.value c.in-Ok-write_all.ensures.ok;
}

pub returns-clause-caused : goal.returns-clause-caused
returns-clause-caused g c = record {
  summary = c.in-Ok.text.items;
  is = c.in-Ok.ensures;
  failed = c.in-Err.ensures.rose;
  wrote = subst (λ (xs : List ℕ). WroteFront (g.W.Sink.tells c.args.out.now) xs (g.W.Sink.tells c.write_all.new.out)) c.as_slice.ensures.value c.in-Err.ensures.front;
}
