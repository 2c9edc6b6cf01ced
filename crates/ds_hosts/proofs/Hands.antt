-- What processes have in hand has spellings.
use Rattle.std.proofs.Common.{◌≡◌, true, List, Option, Some, None, slice_get, ap, ◌∙◌, subst}
use Rattle.std.proofs.lemmas.Option.{none-some, same_Some}
use Rattle.ds_msg.specs.declared.message.Message.{Message}
use Rattle.ds_model.specs.World.{Process}
use Rattle.ds_scheme.specs.Spelled.{has_spelling}
use Rattle.ds_setup.proofs.Places.{all_at, from_map}
use Rattle.ds_exporter.specs.HostStates.{HostLane, HostProcess, HostState}
use Rattle.ds_exporter.specs.PlainHosts.{host_of, plain_process}
use Rattle.ds_exporter.specs.Conditions.{HandHasLane, HasLane, IsFit}
use Rattle.ds_hosts.specs.Nodes.{SpellsHands}

hand_spelled : (lanes : List HostLane) (hand : Option Message) (m : Message) → hand ≡ Some m → HasLane lanes hand → has_spelling m ≡ true
hand_spelled lanes None m e h = absurd (none-some m e)
hand_spelled lanes (Some n) m e h = subst (λ k. has_spelling k ≡ true) (same_Some n m e) h.1

pub fit_hands : (e : HostState) → IsFit e → SpellsHands (host_of e)
fit_hands e fit p y m there held =
    let k : (x : HostProcess) × (slice_get e.procs p ≡ Some x) × (plain_process e.desk.here e.desk.desk.rows x ≡ y) = from_map (plain_process e.desk.here e.desk.desk.rows) e.procs p y there in
    hand_spelled e.lanes k.0.hand m (ap (λ (q : Process). q.hand) k.2 ∙ held) (all_at (HandHasLane e.lanes) e.procs p k.0 fit.hands k.1)
