-- What a host sees is for it: the lane of a hello has an inlet, and a frame comes after a hello.
use Rattle.std.proofs.Common.{◌≡◌, ℕ, true, List, Option, Some, None, refl, subst}
use Rattle.std.specs.Prelude.{Result, Ok, is_some}
use Rattle.ds_label.specs.declared.category.PubKey.{PubKey}
use Rattle.ds_cert.specs.declared.lane.LaneCert.{LaneCert}
use Rattle.ds_cert.proofs.Steps.{bind_ok, guard_ok, ok_is}
use Rattle.ds_msg.specs.declared.message.Message.{Message}
use Rattle.ds_frame.specs.declared.cause.Cause.TheVariants as causes
use Rattle.ds_frame.specs.declared.item.Item.{Item}
use Rattle.ds_frame.specs.declared.item.Item.TheVariants as items
use Rattle.ds_frame.specs.Fields.{ReadFault, Broken}
use Rattle.ds_frame.specs.Checks.{read_hello, read_item}
use Rattle.ds_model.specs.Keys.{same_key}
use Rattle.ds_model.specs.Scheme.{InletName, Item as Seen, Hello, Framed}
use Rattle.ds_inlet.specs.Hosts.{inlet_at, declared_lane, admitted, messages_from, host_item}
use Rattle.ds_inlet.specs.Connections.{IsForHost}

-- a frame comes only after a hello
abbrev IsInOrder : Option LaneCert → Item → Type 0
IsInOrder before (items.Hello lane) = Unit {0}
IsInOrder before (items.Frame frame) = is_some before ≡ true

abbrev item_ok : Item × List ℕ → Result (Item × List ℕ) ReadFault
item_ok x = Ok x

abbrev seen_ok : Seen → Result Seen ReadFault
seen_ok seen = Ok seen

in_order_after : (lane : LaneCert) (item : Item) → IsInOrder (Some lane) item
in_order_after lane (items.Hello other) = tt
in_order_after lane (items.Frame frame) = refl

in_order : (before : Option LaneCert) (bytes : List ℕ) (x : Item × List ℕ) → read_item before bytes ≡ Ok x → IsInOrder before x.0
unfolding read_item
in_order (Some lane) bytes x e = in_order_after lane x.0
in_order None bytes x e =
    let b = bind_ok (read_hello bytes) (λ (hello : LaneCert × List ℕ). item_ok (items.Hello hello.0, hello.1)) x e in
    subst (λ (y : Item × List ℕ). IsInOrder None y.0) (ok_is (items.Hello b.0.0, b.0.1) x b.2) tt

has_inlet : (lane other : LaneCert) (o : Option ℕ) → declared_lane lane o ≡ Ok other → (is_some o ≡ true) × (lane ≡ other)
has_inlet lane other (Some i) e = (refl, ok_is lane other e)
has_inlet lane other None e = absurd cc

seen_for_host : (here : PubKey) (inlets : List InletName) (before : Option LaneCert) (item : Item) (seen : Seen) → IsInOrder before item → host_item here inlets item ≡ Ok seen → IsForHost inlets before seen
unfolding host_item
seen_for_host here inlets before (items.Hello lane) seen order e =
    let b = bind_ok (admitted here inlets lane) (λ (l : LaneCert). seen_ok (Hello l)) seen e in
    let g = guard_ok (same_key lane.receiver here) (Broken causes.HelloReceiver 6) (declared_lane lane (inlet_at inlets lane)) b.0 b.1 in
    let h = has_inlet lane b.0 (inlet_at inlets lane) g.1 in
    let there : is_some (inlet_at inlets b.0) ≡ true = subst (λ (l : LaneCert). is_some (inlet_at inlets l) ≡ true) h.1 h.0 in
    subst (IsForHost inlets before) (ok_is (Hello b.0) seen b.2) there
seen_for_host here inlets before (items.Frame frame) seen order e =
    let b = bind_ok (messages_from 11 frame.bodies) (λ (ms : List Message). seen_ok (Framed frame.number ms)) seen e in
    subst (IsForHost inlets before) (ok_is (Framed frame.number b.0) seen b.2) order

pub for_host : (here : PubKey) (inlets : List InletName) (before : Option LaneCert) (bytes : List ℕ) (x : Item × List ℕ) (seen : Seen) → read_item before bytes ≡ Ok x → host_item here inlets x.0 ≡ Ok seen → IsForHost inlets before seen
for_host here inlets before bytes x seen read is = seen_for_host here inlets before x.0 seen (in_order before bytes x read) is
