-- What holds of each run whose text is written holds where `sim` ends well.
use Rattle.std.proofs.Common.{◌≡◌, ℕ, List, subst}
use Rattle.ds_commands.specs.declared.reply.Reply.TheVariants.{Prints}
use Rattle.ds_model.specs.Step.{Event}
use Rattle.ds_plan.specs.declared.doc.Doc.{Doc}
use Rattle.dstar.specs.declared.call.Call.TheVariants.{Sim}
use Rattle.dstar.specs.declared.status.Status.{Status}
use Rattle.dstar.specs.declared.status.Status.TheVariants as ends
use Rattle.dstar.specs.Causes.{Caused, Observed, Wrote}
use Rattle.dstar.specs.Headline.{Ran}
use Rattle.dstar.specs.Sims.{IsRunOf, SimGives}

is_run : (bytes text : List ℕ) → SimGives bytes (Prints text) → IsRunOf bytes text
unfolding SimGives
is_run bytes text gives = gives

module _ (Holds : Doc → List Event → Type 0) (each : (bytes text : List ℕ) (r : IsRunOf bytes text) → Holds r.document r.runs.events) where
  written : (now : ℕ) (m : Observed) → Wrote Sim now m Prints → Ran m.told m.left m.written m.written_after Holds
  written now m w =
      let run : IsRunOf w.bytes w.text = is_run w.bytes w.text w.answered.gives in
      record { bytes = w.bytes; taken = w.whole.taken; none_left = w.whole.none_left; text = w.text; wrote = w.wrote; run = run; holds = each w.bytes w.text run }

  pub ran : (now : ℕ) (m : Observed) (status : Status) → Caused Sim now m status → status ≡ ends.Ok → Ran m.told m.left m.written m.written_after Holds
  ran now m status caused ok = written now m (subst (Caused Sim now m) ok caused)
