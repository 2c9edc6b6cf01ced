-- What a lane's worker records is what the machine says.
use Rattle.std.proofs.Common.{◌≡◌, ℕ, true, List, [], ◌∷◌, length, map, Option, Some, None, slice_get, option_map, refl, ◌∙◌, ap, ap₂, arith, length-take}
use Rattle.std.specs.Prelude.{min, if◌then◌else◌}
use Rattle.std.specs.List.{flat_map}
use Rattle.std.specs.Int.{w32, to_be_bytes}
use Rattle.std.proofs.lemmas.List.{length-map}
use Rattle.std.proofs.lemmas.List.Elements.{All-head, All-tail}
use Rattle.ds_label.specs.declared.rule.Rule.{Rule}
use Rattle.ds_model.specs.Scheme.{Scheme}
use Rattle.ds_model.specs.Plan.{LanePlan, Plan, host_plan, lane_plan}
use Rattle.ds_model.specs.Lane.{front, frame_limit}
use Rattle.ds_model.specs.Desk.{Desk}
use Rattle.ds_model.specs.ExporterRules.{sender_rule}
use Rattle.ds_model.specs.World.{Waiting, Worker, Host, World}
use Rattle.ds_model.specs.WorkerStep.{LaneAsk, WorkerWaits, Lifts, AsksRecheck, lane_ask_hand, lane_ask, frame_rule}
use Rattle.ds_model.specs.Step.{Frame, front_of}
use Rattle.ds_model.specs.Access.{lift_access_in, access_of_lane_ask, access_of_lane, access_in}
use Rattle.ds_share.specs.declared.desk_act.DeskReply.TheVariants.{Found}
use Rattle.ds_share.specs.Desks.{judged, given_by_judge}
use Rattle.ds_share.specs.Spelling.{spelling_of_waiting}
use Rattle.ds_turn.specs.Records.{entry_on, lane_name}
use Rattle.ds_replay.specs.Touches.{touch_of}
use Rattle.ds_replay.proofs.Still.{when_here}
use Rattle.ds_machine.specs.Spelled.{on_lane, kept_of, given_to_lane_ask}
use Rattle.ds_machine.specs.Machine.{given_to_worker, given_in}
use Rattle.ds_machine.specs.Turns.{worker_of, LiftsAreRecorded, ChecksAreRecorded, IsFellow, JudgedAsOne}

lifts_when : (s : Scheme) (plan : LanePlan) (e : Worker) → e.hand ≡ [] → s.has_lane_leaf plan.signing e.leaf ≡ true → lane_ask s plan e ≡ Lifts
lifts_when s plan e none leaf = ap (lane_ask_hand s plan e) none ∙ ap (λ b. if b then Lifts else WorkerWaits) leaf

front_length : (m : Waiting) (waiting : List Waiting) → min frame_limit (length (m ∷ waiting)) ≡ length (map on_lane (front (m ∷ waiting)))
front_length m waiting =
    let mapped : length (map on_lane (front (m ∷ waiting))) ≡ length (front (m ∷ waiting)) = length-map (front (m ∷ waiting)) on_lane in
    let taken : length (front (m ∷ waiting)) ≡ min (min frame_limit (length (m ∷ waiting))) (length (m ∷ waiting)) = length-take (min frame_limit (length (m ∷ waiting))) (m ∷ waiting) in
    omega (arith, mapped, taken)

module _ (s : Scheme) (plan : Plan) (w : World) (h l : ℕ) (x : Host) (e : Worker) (here : slice_get w.hosts h ≡ Some x) (works : slice_get x.workers l ≡ Some e) where
  -- what the worker's ask touches, and what it is given
  access_is : (a : LaneAsk) → lane_ask s (lane_plan (host_plan plan h) l) e ≡ a → access_in s plan w (Frame h l) h (slice_get w.hosts h) ≡ access_of_lane_ask x l a
  access_is a asks = ap (access_in s plan w (Frame h l) h) here ∙ (when_here h (access_of_lane s (host_plan plan h) x l (slice_get x.workers l)) ∙ (ap (access_of_lane s (host_plan plan h) x l) works ∙ ap (access_of_lane_ask x l) asks))

  given_is : (a : LaneAsk) → lane_ask s (lane_plan (host_plan plan h) l) e ≡ a → given_in s plan w (Frame h l) (slice_get w.hosts h) ≡ given_to_lane_ask s x l a
  given_is a asks = ap (given_in s plan w (Frame h l)) here ∙ (ap (given_to_worker s (host_plan plan h) x l) works ∙ ap (given_to_lane_ask s x l) asks)

pub lifts_are_recorded : LiftsAreRecorded
lifts_are_recorded s plan w h l stamp x e m waiting here works queue none leaf =
    let asks : lane_ask s (lane_plan (host_plan plan h) l) e ≡ Lifts = lifts_when s (lane_plan (host_plan plan h) l) e none leaf in
    record {
      entry = ap (λ a. option_map (kept_of plan w (worker_of h l) stamp) (touch_of h a)) (access_is s plan w h l x e here works Lifts asks ∙ ap (lift_access_in l) queue)
          ∙ ap (λ n. Some (entry_on (lane_name (worker_of h l).host (worker_of h l).index) (worker_of h l) stamp 3 (to_be_bytes w32 n))) (front_length m waiting);
      answer = given_is s plan w h l x e here works Lifts asks ∙ ap (λ q. flat_map spelling_of_waiting (map on_lane (front_of q))) queue;
    }

found_is : (o : Option Rule) (address : List ℕ) → given_by_judge (judged o (Found [])) ≡ given_by_judge (judged o (Found address))
found_is None address = refl
found_is (Some rule) address = refl

pub checks_are_recorded : ChecksAreRecorded
checks_are_recorded s plan w h l stamp x e m hand address here works held =
    let asks : lane_ask s (lane_plan (host_plan plan h) l) e ≡ AsksRecheck (m ∷ hand) = ap (lane_ask_hand s (lane_plan (host_plan plan h) l) e) held in
    record {
      entry = ap (λ a. option_map (kept_of plan w (worker_of h l) stamp) (touch_of h a)) (access_is s plan w h l x e here works (AsksRecheck (m ∷ hand)) asks);
      answer = given_is s plan w h l x e here works (AsksRecheck (m ∷ hand)) asks ∙ found_is (frame_rule s x.desk m) address;
    }

fellow_rule : (s : Scheme) (d : Desk) (m n : Waiting) → IsFellow m n → frame_rule s d n ≡ frame_rule s d m
fellow_rule s d m n is = λ i. sender_rule s d.addresses d.store d.moment (is.to i) (is.label i)

pub judged_as_one : JudgedAsOne
judged_as_one s d m [] all = refl
judged_as_one s d m (n ∷ hand) all = ap₂ (λ r rs. r ∷ rs) (fellow_rule s d m n (All-head (IsFellow m) n hand all)) (judged_as_one s d m hand (All-tail (IsFellow m) n hand all))
