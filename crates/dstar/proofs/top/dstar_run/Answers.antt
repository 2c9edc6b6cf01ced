use Rattle.std.proofs.Common.{◌≡◌, ◌∙◌, sym, ap, subst, Some, None}
use Rattle.dstar.specs.Words.{texts, call_in, gen_in}
use Rattle.dstar.specs.Causes.{Observed, Caused, Answers, asks_keeper}
use Rattle.dstar.specs.declared.call.Call.{Call}
use Rattle.dstar.specs.declared.call.Call.TheVariants.{Sim}
use Rattle.dstar.specs.Sims.{IsDeliveredLawfully, LooksTheSame}
use Rattle.dstar.proofs.Answering.{answers, never_usage, same_call, no_call}
use Rattle.dstar.proofs.Asked.{not_both}
use Rattle.dstar.proofs.Headlines.{ran}
use Rattle.dstar.proofs.top.dstar_run.Goals as goal

pub returns-in-Some-clause-usage : goal.returns-in-Some-clause-usage
returns-in-Some-clause-usage g c =
    let m : Observed = record {
      told = g.R.Source.tells c.args.input.now;
      left = g.R.Source.tells c.respond.new.input;
      read_faults = g.R.Source.faults c.args.input.now;
      read_faults_after = g.R.Source.faults c.respond.new.input;
      ends = g.R.Source.ends c.args.input.now;
      ends_after = g.R.Source.ends c.respond.new.input;
      written = g.W.Sink.tells c.args.out.now;
      written_after = g.W.Sink.tells c.respond.new.out;
      write_faults = g.W.Sink.faults c.args.out.now;
      write_faults_after = g.W.Sink.faults c.respond.new.out;
      marks = g.K.Keeper.tells c.args.keeper.now;
      marks_after = g.K.Keeper.tells c.respond.new.keeper;
      keeper_faults = g.K.Keeper.faults c.args.keeper.now;
      keeper_faults_after = g.K.Keeper.faults c.respond.new.keeper;
    } in
    let is : call_in (texts c.args.words.now.items) ≡ Some c.in-Some.call = ap (λ ws. call_in (texts ws)) (sym c.as_slice.ensures.value) ∙ sym c.call_of.ensures ∙ c.in-Some.is in
    (λ e. absurd (never_usage c.in-Some.call c.args.now m c.respond.result c.respond.ensures.caused e), λ none. absurd (no_call c.in-Some.call _ none.0 is))

pub returns-in-Some-clause-unused : goal.returns-in-Some-clause-unused
returns-in-Some-clause-unused g c =
    let m : Observed = record {
      told = g.R.Source.tells c.args.input.now;
      left = g.R.Source.tells c.respond.new.input;
      read_faults = g.R.Source.faults c.args.input.now;
      read_faults_after = g.R.Source.faults c.respond.new.input;
      ends = g.R.Source.ends c.args.input.now;
      ends_after = g.R.Source.ends c.respond.new.input;
      written = g.W.Sink.tells c.args.out.now;
      written_after = g.W.Sink.tells c.respond.new.out;
      write_faults = g.W.Sink.faults c.args.out.now;
      write_faults_after = g.W.Sink.faults c.respond.new.out;
      marks = g.K.Keeper.tells c.args.keeper.now;
      marks_after = g.K.Keeper.tells c.respond.new.keeper;
      keeper_faults = g.K.Keeper.faults c.args.keeper.now;
      keeper_faults_after = g.K.Keeper.faults c.respond.new.keeper;
    } in
    λ e. absurd (never_usage c.in-Some.call c.args.now m c.respond.result c.respond.ensures.caused e)

pub returns-in-Some-clause-kept : goal.returns-in-Some-clause-kept
returns-in-Some-clause-kept g c = λ call is' asks.
    let is : call_in (texts c.args.words.now.items) ≡ Some c.in-Some.call = ap (λ ws. call_in (texts ws)) (sym c.as_slice.ensures.value) ∙ sym c.call_of.ensures ∙ c.in-Some.is in
    c.respond.ensures.kept (ap asks_keeper (same_call c.in-Some.call call _ is is') ∙ asks)

pub returns-in-Some-clause-caused : goal.returns-in-Some-clause-caused
returns-in-Some-clause-caused g c = λ call is'.
    let m : Observed = record {
      told = g.R.Source.tells c.args.input.now;
      left = g.R.Source.tells c.respond.new.input;
      read_faults = g.R.Source.faults c.args.input.now;
      read_faults_after = g.R.Source.faults c.respond.new.input;
      ends = g.R.Source.ends c.args.input.now;
      ends_after = g.R.Source.ends c.respond.new.input;
      written = g.W.Sink.tells c.args.out.now;
      written_after = g.W.Sink.tells c.respond.new.out;
      write_faults = g.W.Sink.faults c.args.out.now;
      write_faults_after = g.W.Sink.faults c.respond.new.out;
      marks = g.K.Keeper.tells c.args.keeper.now;
      marks_after = g.K.Keeper.tells c.respond.new.keeper;
      keeper_faults = g.K.Keeper.faults c.args.keeper.now;
      keeper_faults_after = g.K.Keeper.faults c.respond.new.keeper;
    } in
    let is : call_in (texts c.args.words.now.items) ≡ Some c.in-Some.call = ap (λ ws. call_in (texts ws)) (sym c.as_slice.ensures.value) ∙ sym c.call_of.ensures ∙ c.in-Some.is in
    subst (λ (x : Call). Caused x c.args.now m c.respond.result) (same_call c.in-Some.call call _ is is') c.respond.ensures.caused

pub returns-in-Some-clause-answers : goal.returns-in-Some-clause-answers
returns-in-Some-clause-answers g c = λ call is' bytes told r w k.
    let m : Observed = record {
      told = g.R.Source.tells c.args.input.now;
      left = g.R.Source.tells c.respond.new.input;
      read_faults = g.R.Source.faults c.args.input.now;
      read_faults_after = g.R.Source.faults c.respond.new.input;
      ends = g.R.Source.ends c.args.input.now;
      ends_after = g.R.Source.ends c.respond.new.input;
      written = g.W.Sink.tells c.args.out.now;
      written_after = g.W.Sink.tells c.respond.new.out;
      write_faults = g.W.Sink.faults c.args.out.now;
      write_faults_after = g.W.Sink.faults c.respond.new.out;
      marks = g.K.Keeper.tells c.args.keeper.now;
      marks_after = g.K.Keeper.tells c.respond.new.keeper;
      keeper_faults = g.K.Keeper.faults c.args.keeper.now;
      keeper_faults_after = g.K.Keeper.faults c.respond.new.keeper;
    } in
    let is : call_in (texts c.args.words.now.items) ≡ Some c.in-Some.call = ap (λ ws. call_in (texts ws)) (sym c.as_slice.ensures.value) ∙ sym c.call_of.ensures ∙ c.in-Some.is in
    subst (λ (x : Call). Answers x c.args.now (g.K.Keeper.tells c.args.keeper.now) bytes c.respond.result) (same_call c.in-Some.call call _ is is')
    (answers c.in-Some.call c.args.now m bytes c.respond.result c.respond.ensures.caused told r w k)

pub returns-in-None-clause-usage : goal.returns-in-None-clause-usage
returns-in-None-clause-usage g c =
    let same : texts c.as_slice.result.now ≡ texts c.args.words.now.items = ap texts c.as_slice.ensures.value in
    let again : texts c.as_slice-in-None.result.now ≡ texts c.args.words.now.items = ap texts c.as_slice-in-None.ensures.value in
    let none : call_in (texts c.args.words.now.items) ≡ None = ap call_in (sym same) ∙ sym c.call_of.ensures ∙ c.in-None.is in
    (λ e. (none, ap gen_in (sym again) ∙ c.answer_unread.ensures.usage.0 e), λ both. c.answer_unread.ensures.usage.1 (ap gen_in again ∙ both.1))

pub returns-in-Some-clause-summary : goal.returns-in-Some-clause-summary
returns-in-Some-clause-summary g c = λ number asked.
    let is : call_in (texts c.args.words.now.items) ≡ Some c.in-Some.call = ap (λ ws. call_in (texts ws)) (sym c.as_slice.ensures.value) ∙ sym c.call_of.ensures ∙ c.in-Some.is in
    absurd (not_both (texts c.args.words.now.items) number c.in-Some.call asked is)

pub returns-in-Some-clause-unread : goal.returns-in-Some-clause-unread
returns-in-Some-clause-unread g c = λ number asked.
    let is : call_in (texts c.args.words.now.items) ≡ Some c.in-Some.call = ap (λ ws. call_in (texts ws)) (sym c.as_slice.ensures.value) ∙ sym c.call_of.ensures ∙ c.in-Some.is in
    absurd (not_both (texts c.args.words.now.items) number c.in-Some.call asked is)

pub returns-in-None-clause-summary : goal.returns-in-None-clause-summary
returns-in-None-clause-summary g c = λ number asked.
    c.answer_unread.ensures.caused number (ap (λ ws. gen_in (texts ws)) c.as_slice-in-None.ensures.value ∙ asked)

pub returns-in-None-clause-caused : goal.returns-in-None-clause-caused
returns-in-None-clause-caused g c = λ call is'.
    absurd (no_call call _ (ap (λ ws. call_in (texts ws)) (sym c.as_slice.ensures.value) ∙ sym c.call_of.ensures ∙ c.in-None.is) is')

pub returns-in-None-clause-answers : goal.returns-in-None-clause-answers
returns-in-None-clause-answers g c = λ call is' bytes told r w k.
    absurd (no_call call _ (ap (λ ws. call_in (texts ws)) (sym c.as_slice.ensures.value) ∙ sym c.call_of.ensures ∙ c.in-None.is) is')

pub returns-in-Some-clause-lawful : goal.returns-in-Some-clause-lawful
returns-in-Some-clause-lawful g c = λ is' ok.
    let m : Observed = record {
      told = g.R.Source.tells c.args.input.now;
      left = g.R.Source.tells c.respond.new.input;
      read_faults = g.R.Source.faults c.args.input.now;
      read_faults_after = g.R.Source.faults c.respond.new.input;
      ends = g.R.Source.ends c.args.input.now;
      ends_after = g.R.Source.ends c.respond.new.input;
      written = g.W.Sink.tells c.args.out.now;
      written_after = g.W.Sink.tells c.respond.new.out;
      write_faults = g.W.Sink.faults c.args.out.now;
      write_faults_after = g.W.Sink.faults c.respond.new.out;
      marks = g.K.Keeper.tells c.args.keeper.now;
      marks_after = g.K.Keeper.tells c.respond.new.keeper;
      keeper_faults = g.K.Keeper.faults c.args.keeper.now;
      keeper_faults_after = g.K.Keeper.faults c.respond.new.keeper;
    } in
    let is : call_in (texts c.args.words.now.items) ≡ Some c.in-Some.call = ap (λ ws. call_in (texts ws)) (sym c.as_slice.ensures.value) ∙ sym c.call_of.ensures ∙ c.in-Some.is in
    ran IsDeliveredLawfully (λ bytes text r. r.lawful) c.args.now m c.respond.result (subst (λ (x : Call). Caused x c.args.now m c.respond.result) (same_call c.in-Some.call Sim _ is is') c.respond.ensures.caused) ok

pub returns-in-None-clause-lawful : goal.returns-in-None-clause-lawful
returns-in-None-clause-lawful g c = λ is' ok. absurd (no_call Sim _ (ap (λ ws. call_in (texts ws)) (sym c.as_slice.ensures.value) ∙ sym c.call_of.ensures ∙ c.in-None.is) is')

pub returns-in-Some-clause-outside : goal.returns-in-Some-clause-outside
returns-in-Some-clause-outside g c = λ is' ok.
    let m : Observed = record {
      told = g.R.Source.tells c.args.input.now;
      left = g.R.Source.tells c.respond.new.input;
      read_faults = g.R.Source.faults c.args.input.now;
      read_faults_after = g.R.Source.faults c.respond.new.input;
      ends = g.R.Source.ends c.args.input.now;
      ends_after = g.R.Source.ends c.respond.new.input;
      written = g.W.Sink.tells c.args.out.now;
      written_after = g.W.Sink.tells c.respond.new.out;
      write_faults = g.W.Sink.faults c.args.out.now;
      write_faults_after = g.W.Sink.faults c.respond.new.out;
      marks = g.K.Keeper.tells c.args.keeper.now;
      marks_after = g.K.Keeper.tells c.respond.new.keeper;
      keeper_faults = g.K.Keeper.faults c.args.keeper.now;
      keeper_faults_after = g.K.Keeper.faults c.respond.new.keeper;
    } in
    let is : call_in (texts c.args.words.now.items) ≡ Some c.in-Some.call = ap (λ ws. call_in (texts ws)) (sym c.as_slice.ensures.value) ∙ sym c.call_of.ensures ∙ c.in-Some.is in
    ran LooksTheSame (λ bytes text r. r.outside) c.args.now m c.respond.result (subst (λ (x : Call). Caused x c.args.now m c.respond.result) (same_call c.in-Some.call Sim _ is is') c.respond.ensures.caused) ok

pub returns-in-None-clause-outside : goal.returns-in-None-clause-outside
returns-in-None-clause-outside g c = λ is' ok. absurd (no_call Sim _ (ap (λ ws. call_in (texts ws)) (sym c.as_slice.ensures.value) ∙ sym c.call_of.ensures ∙ c.in-None.is) is')
