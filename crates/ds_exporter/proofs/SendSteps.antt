-- A process of which the desk judges a message to another host.
use Rattle.std.proofs.Common.{◌≡◌, ℕ, ◌<◌, ◌≤◌, List, Option, Some, None, length, slice_get, option_map, refl, sym, ap, ◌∙◌, subst}
use Rattle.std.specs.Prelude.{Result, Ok, Err}
use Rattle.std.proofs.lemmas.Option.{slice_get-map}
use Rattle.ds_label.specs.declared.rule.Rule.{Rule}
use Rattle.ds_script.specs.declared.actor.Actor.{Actor}
use Rattle.ds_script.specs.Fits.{IsShort}
use Rattle.ds_msg.specs.declared.message.Message.{Message}
use Rattle.ds_model.specs.Desk.{Looked}
use Rattle.ds_model.specs.ExporterRules.{judge_send}
use Rattle.ds_model.specs.World.{Process, Host}
use Rattle.ds_model.specs.ProcessStep.{AsksJudgement, judged_after_reply}
use Rattle.ds_model.specs.Lists.{at}
use Rattle.ds_model.specs.Step.{attached, judged}
use Rattle.ds_model.specs.Access.{InDesk}
use Rattle.ds_desk.specs.Desks.{IsReplay, entered}
use Rattle.ds_scheme.specs.TheScheme.{scheme}
use Rattle.ds_scheme.proofs.Spelt.{spelling_is}
use Rattle.ds_exporter.specs.HostStates.{HostProcess, HostState}
use Rattle.ds_exporter.specs.PlainHosts.{host_of, site_of, plain_process}
use Rattle.ds_exporter.specs.Conditions.{IsFit}
use Rattle.ds_exporter.specs.Sending.{IsSendVerdict, judged_proc, send_rule}
use Rattle.ds_exporter.specs.Stamping.{IsBefore, IsUpTo, last_of_desk}
use Rattle.ds_exporter.specs.Entering.{Enters, step_access}
use Rattle.ds_exporter.specs.Stepping.{Asks, IsFree, IsStepped, always, proc_actor, refused_proc}
use Rattle.ds_exporter.proofs.Entering.{enters_beside, enters_by, enters_desk}
use Rattle.ds_exporter.proofs.Places.{there_is}
use Rattle.ds_exporter.proofs.OneProc.{Keeps, with_proc, fits_proc}
use Rattle.ds_exporter.proofs.OneStep.{becomes, host_by, moved_on, no_hand_more, performs, site_proc, touches}
use Rattle.ds_exporter.proofs.QueueSteps.{lane_found}
use Rattle.ds_exporter.proofs.Stays.{with_entry, fits_entry, below_entry}

abbrev hand_or : Option Process → Option Message
hand_or None = None
hand_or (Some y) = y.hand

-- a process with something in an empty hand is another one by names
pub hand_filled : (e new : HostState) (p : ℕ) (x y : HostProcess) (m : Message) → slice_get e.procs p ≡ Some x → slice_get new.procs p ≡ Some y → x.hand ≡ None → y.hand ≡ Some m → host_of new ≡ host_of e → ⊥
hand_filled e new p x y m was is none some same =
    let before : slice_get (host_of e).procs p ≡ Some (plain_process e.desk.here e.desk.desk.rows x)
    = slice_get-map (plain_process e.desk.here e.desk.desk.rows) e.procs p ∙ ap (option_map (plain_process e.desk.here e.desk.desk.rows)) was in
    let after : slice_get (host_of new).procs p ≡ Some (plain_process new.desk.here new.desk.desk.rows y)
    = slice_get-map (plain_process new.desk.here new.desk.desk.rows) new.procs p ∙ ap (option_map (plain_process new.desk.here new.desk.desk.rows)) is in
    some_none m (sym some ∙ (ap hand_or (sym after) ∙ (ap (λ (h : Host). hand_or (slice_get h.procs p)) same ∙ (ap hand_or before ∙ none))))
  where
    some_none : (n : Message) → Some n ≡ None → ⊥
    some_none n q = cc

module _ (e : HostState) (p stamp : ℕ) (who : Actor) (m : Message) (verdict : Result (List (List ℕ)) Rule) (says : IsSendVerdict e.desk e.lanes m verdict) (short : IsShort m.payload) (within : p < length e.procs) (free : IsFree p e) where
  abbrev with_look : HostState
  with_look = with_entry e stamp who Looked

  abbrev pub sent_judged : HostState
  sent_judged = with_proc p (judged_proc m verdict) with_look

  keeps_by : (v : Result (List (List ℕ)) Rule) → IsSendVerdict e.desk e.lanes m v → (x : HostProcess) → slice_get e.procs p ≡ Some x → Keeps with_look x (judged_proc m v x)
  keeps_by (Ok certs) may x h = record {
    script = refl;
    named = λ n. n;
    numbered = λ n. n;
    hand = λ l. (
      (may.lane.0, may.lane.1, may.lane.2, may.lane.3, record { to = may.lane.4.to; label = may.lane.4.label; range = record { certs = may.fits; payload = short } }),
      (spelling_is (record m { certs = certs })).1 (record { to = may.parts.to; slot = may.parts.slot; label = may.parts.label; own = may.parts.own; clear = may.parts.clear; range = record { certs = may.fits; payload = short } }, may.bytes),
    );
    going = λ g. (free x h).1;
  }
  keeps_by (Err rule) fails x h = record {
    script = refl;
    named = λ n. n;
    numbered = λ n. n;
    hand = λ l. l;
    going = λ g. no_hand_more x.hand (refused_proc rule x).process.course.place (length x.process.script) (free x h).0;
  }

  pub fits_judged : IsFit e → IsReplay (entered stamp who Looked e.desk) → IsFit sent_judged
  fits_judged fit replay = fits_proc with_look p (judged_proc m verdict) (fits_entry e stamp who Looked fit replay) (λ x h. keeps_by verdict says x h)

  judged_is : judged scheme (site_of e) e.desk.desk m ≡ send_rule e.desk e.lanes m
  judged_is = ap (λ (lane : Option ℕ). judge_send scheme lane e.desk.desk.addresses e.desk.desk.store e.desk.desk.moment m.to m.label) (lane_found e m.to m.label)

  replies : (v : Result (List (List ℕ)) Rule) → IsSendVerdict e.desk e.lanes m v → (x : HostProcess)
      → plain_process e.desk.here e.desk.desk.rows (judged_proc m v x) ≡ judged_after_reply m (attached scheme (site_of e) e.desk.desk m) (judged scheme (site_of e) e.desk.desk m) (plain_process e.desk.here e.desk.desk.rows x)
  replies (Ok certs) may x =
      ap (λ (cs : List (List ℕ)). judged_after_reply m cs None (plain_process e.desk.here e.desk.desk.rows x)) may.attached
      ∙ ap (λ (r : Option Rule). judged_after_reply m (attached scheme (site_of e) e.desk.desk m) r (plain_process e.desk.here e.desk.desk.rows x)) (sym (judged_is ∙ may.rule))
  replies (Err rule) fails x = ap (λ (r : Option Rule). judged_after_reply m (attached scheme (site_of e) e.desk.desk m) r (plain_process e.desk.here e.desk.desk.rows x)) (sym (judged_is ∙ fails))

  changes : (v : Result (List (List ℕ)) Rule) → (x : HostProcess) → slice_get e.procs p ≡ Some x → host_of (with_proc p (judged_proc m v) with_look) ≡ host_of e → ⊥
  changes (Ok certs) x h = hand_filled e (with_proc p (judged_proc m (Ok certs)) with_look) p x (judged_proc m (Ok certs) x) (record m { certs = certs }) h (becomes e p x h (judged_proc m (Ok certs))) (free x h).0 refl
  changes (Err rule) x h = moved_on e (with_proc p (judged_proc m (Err rule)) with_look) p x (refused_proc rule x) h (becomes e p x h (judged_proc m (Err rule))) refl

  below_judged : IsBefore stamp e → last_of_desk (entered stamp who Looked e.desk) ≤ stamp → IsUpTo stamp sent_judged
  below_judged b last =
      let more = below_entry e stamp who Looked b last in
      record { desk = more.desk; boxes = more.boxes; lanes = more.lanes; inlets = more.inlets }

  entered_judged : who ≡ proc_actor e.host p → Asks p e (always (AsksJudgement m)) → (x : HostProcess) → slice_get e.procs p ≡ Some x → Enters stamp (proc_actor e.host p) (step_access p e) e sent_judged
  entered_judged is asks x h =
      subst (λ (a : Actor). Enters stamp a (step_access p e) e sent_judged) is
      (enters_by stamp who (step_access p e) (InDesk Looked) e sent_judged (touches e p x h (always (AsksJudgement m)) asks)
      (enters_beside stamp who (InDesk Looked) e with_look (at p (judged_proc m verdict) e.procs) e.conns (enters_desk stamp who e Looked)))

  pub stepped_judged : who ≡ proc_actor e.host p → Asks p e (always (AsksJudgement m)) → IsBefore stamp e → last_of_desk (entered stamp who Looked e.desk) ≤ stamp → IsStepped stamp p e sent_judged
  stepped_judged acts asks below last = there_is (IsStepped stamp p e sent_judged) e.procs p within (λ x h. record {
    host = host_by with_look p (judged_proc m verdict) (judged_after_reply m (attached scheme (site_of e) e.desk.desk m) (judged scheme (site_of e) e.desk.desk m)) (λ y there. replies verdict says y)
        ∙ sym (performs e p x h (always (AsksJudgement m)) asks);
    changed = changes verdict x h;
    site = site_proc with_look p (judged_proc m verdict);
    conns = refl;
    named = λ link place. refl;
    stamps = below_judged below last;
    entered = entered_judged acts asks x h;
  })
