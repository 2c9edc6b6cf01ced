-- What a process asks, of what its operation's own function says.
use Rattle.std.proofs.Common.{◌≡◌, ◌<◌, List, [], slice_get, sym, ◌∙◌, subst}
use Rattle.ds_script.specs.declared.usable.Usable.{Usable}
use Rattle.ds_script.specs.Process.{Process as Numbered}
use Rattle.ds_actor.specs.declared.ask.ProcessAsk.{ProcessAsk}
use Rattle.ds_actor.specs.declared.ask.ProcessAsk.TheVariants as asks
use Rattle.ds_actor.specs.Sites.{SitePlan}
use Rattle.ds_actor.specs.Seen.{UnderTables}
use Rattle.ds_actor.specs.Asks.{HasMailNames}
use Rattle.ds_actor.specs.Asking.{CanEnd, HasTable, IsAnswer}
use Rattle.ds_turn.specs.ProcRecords.{ProcRecord, RoomyProc, view_of}
use Rattle.ds_turn.specs.ProcAsks.{Answers, AsksSo, IsAsking, IsChecked}

module _ (site : SitePlan) (r new : RoomyProc) (same : new.proc ≡ record r.proc { process = new.proc.process }) (script : new.proc.process.script ≡ r.proc.process.script) (room : 0 < new.spare) where
  abbrev IsTold : ProcessAsk → Type 0
  IsTold a = IsAnswer site r.proc.who.index (slice_get r.proc.process.script r.proc.process.course.place) (view_of r) (view_of new) a

  -- where the process is the same, so is its record
  kept : new.proc.process ≡ r.proc.process → new.proc ≡ r.proc
  kept still = same ∙ (λ i. record r.proc { process = still i })

  asking : (a : ProcessAsk) → new.proc.process ≡ r.proc.process → CanEnd (view_of new) → IsTold a → (new.proc ≡ r.proc) × IsAsking site new a
  asking a still can told = (
    kept still,
    record {
      memory = record { room = can.room; grant = can.spare; spare = room };
      going = can.going;
      copied = told.copied;
      range = told.range;
      mail = subst (λ (p : Numbered). UnderTables site.here [] p (λ rows. HasMailNames site.here rows a)) (sym still) told.mail;
      asked = subst (λ (q : ProcRecord). AsksSo site q.who.index q.process new.proc.process a) (sym (kept still)) (λ rows table agreed named plan hand. told.asked rows table agreed named plan hand);
    },
  )

  pub answers : (a : ProcessAsk) (before : List Usable) → IsTold a → HasTable site.here r.proc.process.names → (HasTable site.here r.proc.process.names → HasTable site.here before)
      → IsChecked site.here before new.proc.process.names a → Answers site r.proc new a
  answers asks.Waits before told table kept_table checked = checked
  answers asks.Internal before told table kept_table checked = (
    record {
      asked = λ rows t agreed named plan hand. told.asked rows t agreed named plan hand;
      script = script;
      place = told.moved;
      names = λ rows t agreed named. told.names rows t agreed named;
      labels = λ rows t agreed named. told.labels rows t agreed named;
      agreed = checked (kept_table table);
    },
    same,
    room,
  )
  answers (asks.Refused rule) before told table kept_table checked = asking (asks.Refused rule) told.still.0 told.ready told
  answers (asks.Put place message copy) before told table kept_table checked = asking (asks.Put place message copy) told.still.0 told.ready told
  answers (asks.Admit place message copy) before told table kept_table checked = told.operation
  answers (asks.TakeFrom place reg slot) before told table kept_table checked = asking (asks.TakeFrom place reg slot) told.still.0 told.ready told
  answers (asks.PublicAct request reg host) before told table kept_table checked = asking (asks.PublicAct request reg host) told.still.0 told.ready told
  answers (asks.AsksJudgement message) before told table kept_table checked = asking (asks.AsksJudgement message) told.still.0 told.ready told
