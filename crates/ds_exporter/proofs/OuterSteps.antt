-- A process that asks by its operation.
use Rattle.std.proofs.Common.{◌≡◌, ℕ, zero, suc, ◌+◌, ◌<◌, true, ◌&&◌, List, [], ◌∷◌, Some, None, length, map, slice_get, refl, sym, ap, ◌∙◌, subst, arith}
use Rattle.std.specs.Prelude.{All, IsTrue}
use Rattle.std.specs.List.{list_all}
use Rattle.std.proofs.lemmas.List.{length-map}
use Rattle.std.proofs.lemmas.List.Elements.{All-from_recursion, recursion_from_All}
use Rattle.ds_label.specs.declared.category.PubKey.{PubKey}
use Rattle.ds_label.specs.declared.category.Category.{Category}
use Rattle.ds_script.specs.Process.{Process as Numbered}
use Rattle.ds_model.specs.Lists.{at}
use Rattle.ds_model.specs.Plan.{HostPlan}
use Rattle.ds_model.specs.World.{Process}
use Rattle.ds_model.specs.ProcessStep.{Ask, Waits, Internal, TakeFrom, PublicAct, AsksJudgement, ask, ask_hand, ask_inner, ask_outer, refused}
use Rattle.ds_model.specs.Step.{perform}
use Rattle.ds_model.specs.Access.{NoAccess}
use Rattle.ds_model.proofs.Places.{at_still}
use Rattle.ds_map.specs.Labels.{have_names, has_name}
use Rattle.ds_map.specs.Table.{IsTable}
use Rattle.ds_map.proofs.Sets.{and_first}
use Rattle.ds_scheme.specs.TheScheme.{scheme}
use Rattle.ds_actor.specs.declared.ask.DeskRequest.TheVariants as requests
use Rattle.ds_actor.specs.declared.ask.ProcessAsk.{ProcessAsk}
use Rattle.ds_actor.specs.declared.ask.ProcessAsk.TheVariants as asks
use Rattle.ds_actor.specs.Usable.{IsAgreed}
use Rattle.ds_actor.specs.Sites.{labels_of, with_site}
use Rattle.ds_actor.specs.Seen.{process_of as by_names}
use Rattle.ds_actor.specs.Asks.{HasMailNames, IsAsked, IsAskInRange, StaysUnless, act_of}
use Rattle.ds_actor.specs.Asking.{CanEnd, IsOfOperation, IsReady, MovesInside}
use Rattle.ds_actor.proofs.Sites.{first_named, second_named, third_named}
use Rattle.ds_exporter.specs.HostStates.{HostBox, HostProcess, HostState}
use Rattle.ds_exporter.specs.PlainHosts.{host_of, site_of, plain_mail, plain_process}
use Rattle.ds_exporter.specs.Conditions.{AreNumbered, HasLane, IsBoxNamed, IsFit, IsNumbered, IsProcNamed}
use Rattle.ds_exporter.specs.Asking.{AsksSo, IsFreeFor, IsInRange, IsSameUnless, OuterAsks}
use Rattle.ds_exporter.specs.Running.{inside_of}
use Rattle.ds_exporter.specs.Sites.{box_site, fixed_in}
use Rattle.ds_exporter.specs.Stamping.{IsBefore}
use Rattle.ds_exporter.specs.Entering.{step_access}
use Rattle.ds_exporter.specs.Stepping.{Asks, IsFree, IsStepped, always, next_host, proc_actor, put_ask}
use Rattle.ds_exporter.proofs.Entering.{enters_beside, enters_by, enters_nothing}
use Rattle.ds_exporter.proofs.Places.{all_get}
use Rattle.ds_exporter.proofs.OneProc.{with_proc, fits_proc}
use Rattle.ds_exporter.proofs.OneStep.{becomes, below_proc, host_by, moved_on, no_hand_more, only, performs, site_proc, touches}
use Rattle.ds_exporter.proofs.Rooms.{is_site, same_outer}

-- the labels of mailboxes have names
boxes_named : (here : PubKey) (rows : List Category) (boxes : List HostBox) → All (IsBoxNamed here rows) boxes → have_names here rows (labels_of (map box_site boxes)) ≡ true
boxes_named here rows [] all = refl
boxes_named here rows (b ∷ boxes) all = λ i. and_first (list_all (has_name here rows) b.mailbox.label) true (all zero b (omega arith)).label i && boxes_named here rows boxes (λ k d w. all (suc k) d (omega (arith, w))) i

module _ (e : HostState) (p : ℕ) (x : HostProcess) (procs : List HostProcess) (a : ProcessAsk) (stands : slice_get e.procs p ≡ Some x) (asked : OuterAsks (fixed_in e) p p x e.procs procs a)
    (free : x.hand ≡ None) (outer : inside_of x ≡ None) (table : IsTable e.desk.here e.desk.desk.rows) (fit : IsFit e) where
  abbrev here : PubKey
  here = e.desk.here

  abbrev rows : List Category
  rows = e.desk.desk.rows

  -- the exporter after it
  abbrev pub asked_host : HostState
  asked_host = record e { procs = procs }

  abbrev now : HostProcess
  now = record x { process = asked.new.process }

  as_at : with_proc p (λ _. now) e ≡ asked_host
  as_at = ap (λ (xs : List HostProcess). record e { procs = xs }) (sym asked.becomes)

  -- what the process's names and labels need of the table
  agreed : IsAgreed here rows asked.old.process.names
  agreed = subst (λ (q : Numbered). IsAgreed here rows q.names) (sym asked.was)
      (recursion_from_All (IsNumbered here rows) x.process.names (all_get (AreNumbered here rows) e.procs p x fit.usable stands))

  own_named : IsTrue (have_names here rows (asked.old.process.label ∷ asked.old.process.own ∷ asked.old.process.clear ∷ []))
  own_named = subst (λ (q : Numbered). IsTrue (have_names here rows (q.label ∷ q.own ∷ q.clear ∷ []))) (sym asked.was) (all_get (IsProcNamed here rows) e.procs p x fit.named_procs stands)

  all_named : IsTrue (have_names here rows (asked.old.process.label ∷ asked.old.process.own ∷ asked.old.process.clear ∷ labels_of (fixed_in e).boxes))
  all_named =
      let q = asked.old.process in
      λ i. first_named here rows q.label q.own q.clear [] own_named i && (second_named here rows q.label q.own q.clear [] own_named i
      && (third_named here rows q.label q.own q.clear [] own_named i && boxes_named here rows e.boxes fit.named_boxes i))

  -- WHAT IT ASKS BY NAMES

  abbrev y : Process
  y = plain_process here rows x

  asks_outer : ask (site_of e) p y ≡ ask_outer (with_site (fixed_in e) rows (site_of e)) p y (slice_get x.process.script x.process.course.place)
  asks_outer =
      ap (ask_hand (site_of e) p y) free
      ∙ (ap (ask_inner (site_of e) p y) outer
      ∙ (sym (same_outer (site_of e) p y (slice_get x.process.script x.process.course.place))
      ∙ ap (λ (plan : HostPlan). ask_outer plan p y (slice_get x.process.script x.process.course.place)) (is_site e)))

  is_asked : IsAsked here rows y (plain_process here rows now) a (ask (site_of e) p y)
  is_asked = subst (λ (k : Ask). IsAsked here rows y (plain_process here rows now) a k) (sym asks_outer)
      (subst (λ (q : Numbered). IsAsked here rows (by_names here rows x.hand q) (plain_process here rows now) a (ask_outer (with_site (fixed_in e) rows (site_of e)) p (by_names here rows x.hand q) (slice_get q.script q.course.place)))
      asked.was (asked.answer.asked rows table agreed all_named (site_of e) x.hand))

  for_all : (f : Process → Ask) → ask (site_of e) p y ≡ f y → Asks p e f
  for_all f is z h = subst (λ (w : HostProcess). ask (site_of e) p (plain_process here rows w) ≡ f (plain_process here rows w)) (sym (only e p x stands z h)) is

  performs_at : (next : Process) → ask (site_of e) p y ≡ Internal next → next_host p e ≡ perform scheme (site_of e) (host_of e) p (Internal next)
  performs_at next is = performs e p x stands (always (Internal next)) (for_all (always (Internal next)) is)

  -- WHERE NOTHING CHANGED

  stays : asked.new.process ≡ asked.old.process → asked_host ≡ e
  stays same = ap (λ (xs : List HostProcess). record e { procs = xs })
      (asked.becomes ∙ at_still p (λ _. now) e.procs (λ z h. ap (λ (q : Numbered). record x { process = q }) (same ∙ asked.was) ∙ sym (only e p x stands z h)))

  -- THE RESULTS

  pub fits_asked : IsFit asked_host
  fits_asked = subst IsFit as_at (fits_proc e p (λ _. now) fit (λ z h. record {
    script = asked.script ∙ ap (λ (w : HostProcess). w.process.script) (sym (only e p x stands z h));
    named = λ n. asked.answer.labels rows table agreed own_named;
    numbered = λ n. All-from_recursion (IsNumbered here rows) asked.new.process.names (asked.answer.names rows table agreed own_named);
    hand = λ l. subst (HasLane e.lanes) (sym free) tt;
    going = λ g. no_hand_more x.hand asked.new.process.course.place (length asked.new.process.script) free;
  }))

  moved_inside : a ≡ asks.Internal → asked.new.process.course.place ≡ x.process.course.place + 1
  moved_inside is = subst (λ (b : ProcessAsk). MovesInside b asked.old.process asked.new.process) is asked.answer.moved ∙ ap (λ (q : Numbered). q.course.place + 1) asked.was

  stepped_inside : a ≡ asks.Internal → (stamp : ℕ) → IsBefore stamp e → IsStepped stamp p e asked_host
  stepped_inside is stamp below = subst (IsStepped stamp p e) as_at (record {
    host = host_by e p (λ _. now) (λ _. plain_process here rows now) (λ z h. refl)
        ∙ sym (performs_at (plain_process here rows now) (subst (λ (b : ProcessAsk). IsAsked here rows y (plain_process here rows now) b (ask (site_of e) p y)) is is_asked));
    changed = moved_on e (with_proc p (λ _. now) e) p x now stands (becomes e p x stands (λ _. now)) (moved_inside is);
    site = site_proc e p (λ _. now);
    conns = refl;
    named = λ link place. refl;
    stamps = below_proc stamp e (at p (λ _. now) e.procs) below;
    entered =
        let next = plain_process here rows now in
        let asks = for_all (always (Internal next)) (subst (λ (b : ProcessAsk). IsAsked here rows y next b (ask (site_of e) p y)) is is_asked) in
        enters_by stamp (proc_actor e.host p) (step_access p e) NoAccess e (with_proc p (λ _. now) e) (touches e p x stands (always (Internal next)) asks)
        (enters_beside stamp (proc_actor e.host p) NoAccess e e (at p (λ _. now) e.procs) e.conns (enters_nothing stamp (proc_actor e.host p) e));
  })

  pub same_unless : IsSameUnless p e asked_host a
  same_unless = go a refl asked.answer.still
    where
      go : (b : ProcessAsk) → a ≡ b → StaysUnless b asked.old asked.new → IsSameUnless p e asked_host b
      go asks.Internal is still = stepped_inside is
      go asks.Waits is still = stays still.0
      go (asks.Refused rule) is still = stays still.0
      go (asks.Put place m kept) is still = stays still.0
      go (asks.Admit place m kept) is still = stays still.0
      go (asks.TakeFrom place reg slot) is still = stays still.0
      go (asks.PublicAct request reg host) is still = stays still.0
      go (asks.AsksJudgement m) is still = stays still.0

  -- it goes on there
  goes_on : asked.new.process ≡ asked.old.process → CanEnd asked.new → IsFree p asked_host
  goes_on same can = subst (IsFree p) (sym (stays same)) (λ z h. subst (λ (w : HostProcess). (w.hand ≡ None) × (w.process.course.place < length w.process.script)) (sym (only e p x stands z h))
      (free, subst (λ (q : Numbered). q.course.place < length q.script) (same ∙ asked.was) can.going))

  pub free_for : IsFreeFor p asked_host a
  free_for = go a asked.answer.still asked.answer.ready
    where
      go : (b : ProcessAsk) → StaysUnless b asked.old asked.new → IsReady b asked.new → IsFreeFor p asked_host b
      go asks.Internal still ready = tt
      go asks.Waits still ready = tt
      go (asks.Refused rule) still ready = goes_on still.0 ready
      go (asks.Put place m kept) still ready = goes_on still.0 ready
      go (asks.Admit place m kept) still ready = goes_on still.0 ready
      go (asks.TakeFrom place reg slot) still ready = goes_on still.0 ready
      go (asks.PublicAct request reg host) still ready = goes_on still.0 ready
      go (asks.AsksJudgement m) still ready = goes_on still.0 ready

  pub asks_so : AsksSo p asked_host a
  asks_so = go a asked.answer.still asked.answer.operation is_asked
    where
      -- of the host as it was
      back : (b : ProcessAsk) → asked.new.process ≡ asked.old.process → AsksSo p e b → AsksSo p asked_host b
      back b same so = subst (λ (s : HostState). AsksSo p s b) (sym (stays same)) so

      go : (b : ProcessAsk) → StaysUnless b asked.old asked.new → IsOfOperation b → IsAsked here rows y (plain_process here rows now) b (ask (site_of e) p y) → AsksSo p asked_host b
      go asks.Internal still of is = tt
      go asks.Waits still of is = back asks.Waits still.0 (for_all (always Waits) is)
      go (asks.Refused rule) still of is = back (asks.Refused rule) still.0 (for_all (refused rule) is)
      go (asks.Put place m kept) still of is = back (asks.Put place m kept) still.0 (for_all (put_ask place (plain_mail here rows m)) is)
      go (asks.Admit place m kept) still of is = absurd of
      go (asks.TakeFrom place reg slot) still of is = back (asks.TakeFrom place reg slot) still.0 (for_all (always (TakeFrom place reg slot)) is)
      go (asks.PublicAct request reg host) still of is = back (asks.PublicAct request reg host) still.0 (for_all (always (PublicAct (act_of request) reg host)) is)
      go (asks.AsksJudgement m) still of is = back (asks.AsksJudgement m) still.0 (for_all (always (AsksJudgement m)) is)

  boxes_as_many : (place : ℕ) → place < length (fixed_in e).boxes → place < length e.boxes
  boxes_as_many place within = subst (λ (n : ℕ). place < n) (length-map e.boxes box_site) within

  pub in_range : IsInRange asked_host a
  in_range = go a asked.answer.range (asked.answer.mail rows table agreed own_named)
    where
      go : (b : ProcessAsk) → IsAskInRange (fixed_in e) b → HasMailNames here rows b → IsInRange asked_host b
      go asks.Internal range mail = tt
      go asks.Waits range mail = tt
      go (asks.Refused rule) range mail = tt
      go (asks.Put place m kept) range mail = (boxes_as_many place range.0, mail, range.1)
      go (asks.Admit place m kept) range mail = tt
      go (asks.TakeFrom place reg slot) range mail = (boxes_as_many place range.0, range.1)
      go (asks.PublicAct (requests.Delegating c to from until) reg host) range mail = range
      go (asks.PublicAct (requests.Importing bytes) reg host) range mail = tt
      go (asks.PublicAct (requests.Mapping c) reg host) range mail = range
      go (asks.AsksJudgement m) range mail = range
