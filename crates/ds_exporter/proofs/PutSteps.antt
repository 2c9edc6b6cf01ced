-- A process that puts a message into a mailbox of its host.
use Rattle.std.proofs.Common.{◌≡◌, ℕ, ◌<◌, Some, length, slice_get, refl, sym, ap, ◌∙◌, subst}
use Rattle.ds_script.specs.declared.actor.Actor.{Actor}
use Rattle.ds_script.specs.declared.note.Note.TheVariants as notes
use Rattle.ds_msg.specs.declared.local.LocalMessage.{LocalMessage}
use Rattle.ds_model.specs.Lists.{at}
use Rattle.ds_model.specs.Access.{put_access}
use Rattle.ds_model.specs.Plan.{box_plan}
use Rattle.ds_model.specs.World.{Host}
use Rattle.ds_model.specs.ProcessStep.{noted}
use Rattle.ds_exporter.specs.HostStates.{HostProcess, HostState}
use Rattle.ds_exporter.specs.PlainHosts.{host_of, plain_mail, plain_process, site_of}
use Rattle.ds_exporter.specs.Conditions.{IsFit, IsMailNamed}
use Rattle.ds_exporter.specs.Stamping.{IsBefore, IsUpTo}
use Rattle.ds_exporter.specs.Entering.{Enters, step_access}
use Rattle.ds_exporter.specs.Stepping.{Asks, IsFree, IsStepped, proc_actor, put_ask, sent_proc}
use Rattle.ds_exporter.proofs.Places.{there_is}
use Rattle.ds_exporter.proofs.Entering.{enters_beside, enters_by, enters_put}
use Rattle.ds_exporter.proofs.BoxPuts.{below_put, fits_put, host_put, plan_put, with_put}
use Rattle.ds_exporter.proofs.OneProc.{with_proc, fits_proc}
use Rattle.ds_exporter.proofs.OneStep.{becomes, host_by, moved_on, no_hand_more, only, performs, seen, site_proc, touches}

module _ (e : HostState) (p i stamp : ℕ) (who : Actor) (m : LocalMessage) (within : p < length e.procs) (free : IsFree p e) where
  -- the message is in the mailbox, and the process notes that it sent
  abbrev pub put_and_sent : HostState
  put_and_sent = with_proc p sent_proc (with_put e i stamp who m)

  pub fits_sent : IsMailNamed e.desk.here e.desk.desk.rows m → IsFit e → IsFit put_and_sent
  fits_sent mail fit = fits_proc (with_put e i stamp who m) p sent_proc (fits_put e i stamp who m mail fit)
      (λ x h. record { script = refl; named = λ n. n; numbered = λ n. n; hand = λ l. l; going = λ g. no_hand_more x.hand (sent_proc x).process.course.place (length x.process.script) (free x h).0 })

  below_sent : IsBefore stamp e → IsUpTo stamp put_and_sent
  below_sent b =
      let more = below_put e i stamp who m b in
      record { desk = more.desk; boxes = more.boxes; lanes = more.lanes; inlets = more.inlets }

  entered_sent : who ≡ proc_actor e.host p → Asks p e (put_ask i (plain_mail e.desk.here e.desk.desk.rows m)) → (x : HostProcess) → slice_get e.procs p ≡ Some x → Enters stamp (proc_actor e.host p) (step_access p e) e put_and_sent
  entered_sent is asks x h =
      let touch = put_access i (box_plan (site_of e) i).room (plain_mail e.desk.here e.desk.desk.rows m) (slice_get (host_of e).boxes i) in
      subst (λ (a : Actor). Enters stamp a (step_access p e) e put_and_sent) is
      (enters_by stamp who (step_access p e) touch e put_and_sent (touches e p x h (put_ask i (plain_mail e.desk.here e.desk.desk.rows m)) asks)
      (enters_beside stamp who touch e (with_put e i stamp who m) (at p sent_proc e.procs) e.conns (enters_put stamp who e i m)))

  pub stepped_put : who ≡ proc_actor e.host p → Asks p e (put_ask i (plain_mail e.desk.here e.desk.desk.rows m)) → IsBefore stamp e → IsStepped stamp p e put_and_sent
  stepped_put acts asks below = there_is (IsStepped stamp p e put_and_sent) e.procs p within (λ x h. record {
    host = host_by (with_put e i stamp who m) p sent_proc (λ _. noted notes.Sent (seen e p x h))
        (λ y there. ap (λ (z : HostProcess). noted notes.Sent (plain_process e.desk.here e.desk.desk.rows z)) (only e p x h y there))
        ∙ (ap (λ (a : Host). record a { procs = at p (λ _. noted notes.Sent (seen e p x h)) (host_of e).procs }) (host_put e i stamp who m)
        ∙ sym (performs e p x h (put_ask i (plain_mail e.desk.here e.desk.desk.rows m)) asks));
    changed = moved_on e put_and_sent p x (sent_proc x) h (becomes e p x h sent_proc) refl;
    site = site_proc (with_put e i stamp who m) p sent_proc ∙ plan_put e i stamp who m;
    conns = refl;
    named = λ link place. refl;
    stamps = below_sent below;
    entered = entered_sent acts asks x h;
  })
