-- What is at fault for a host stands among the bytes at hand.
use Rattle.std.proofs.Common.{◌≡◌, ℕ, ◌+◌, ◌<◌, ◌≤◌, Bool, true, false, cond, List, [], ◌∷◌, ◌++◌, length, get_or, drop, Option, Some, None, ap, ◌∙◌, inl, inr, ◌⊎◌, length-append, arith}
use Rattle.std.specs.Prelude.{Result, Ok, Err}
use Rattle.std.proofs.lemmas.List.{drop_more}
use Rattle.ds_label.specs.declared.category.PubKey.{PubKey}
use Rattle.ds_cert.specs.declared.lane.LaneCert.{LaneCert}
use Rattle.ds_cert.specs.Fields.{◌>>=◌}
use Rattle.ds_cert.specs.Spelling.{spelling_of_signature}
use Rattle.ds_msg.specs.declared.message.Message.{Message}
use Rattle.ds_msg.specs.Reading.{read_message}
use Rattle.ds_frame.specs.declared.cause.Cause.{Cause}
use Rattle.ds_frame.specs.declared.cause.Cause.TheVariants as causes
use Rattle.ds_frame.specs.declared.item.Item.{Item}
use Rattle.ds_frame.specs.declared.item.Item.TheVariants as items
use Rattle.ds_frame.specs.declared.item.ReadFaultOrMemory.{ReadFaultOrMemory}
use Rattle.ds_frame.specs.declared.item.ReadFaultOrMemory.TheVariants as halts
use Rattle.ds_frame.specs.Fields.{ReadFault, Broken, Halts, IsAmong}
use Rattle.ds_frame.specs.Laws.{StartsWith}
use Rattle.ds_frame.specs.Spelling.{spelling_of_bodies, spelling_of_hello, spelling_of_frame, part_of_frame, outer_spelling_of_hello, signed_fields}
use Rattle.ds_frame.proofs.BodyLaws.{bodies_length}
use Rattle.ds_frame.proofs.Steady.{bind_err}
use Rattle.ds_model.specs.Keys.{same_key}
use Rattle.ds_model.specs.Scheme.{InletName, Item as Seen, Hello, Framed}
use Rattle.ds_inlet.specs.Hosts.{inlet_at, declared_lane, admitted, message_or, messages_from, host_item, IsItemInRange}

abbrev broken : {A : Type 0} → Cause → ℕ → Result A ReadFault
broken cause offset = Err (Broken cause offset)

same_offset : {A : Type 0} (c cause : Cause) (n offset : ℕ) → broken {A = A} c n ≡ broken cause offset → n ≡ offset
same_offset c cause n offset e = cc

-- a hello's certificate stands six bytes behind its first
admitted_offset : (here : PubKey) (inlets : List InletName) (lane : LaneCert) (cause : Cause) (offset : ℕ) → admitted here inlets lane ≡ Err (Broken cause offset) → 6 ≡ offset
admitted_offset here inlets lane cause offset e = cases (same_key lane.receiver here) (inlet_at inlets lane) e
  where
    cases : (b : Bool) (o : Option ℕ) → cond b (declared_lane lane o) (Err (Broken causes.HelloReceiver 6)) ≡ Err (Broken cause offset) → 6 ≡ offset
    cases true (Some inlet) f = absurd cc
    cases true None f = same_offset {A = LaneCert} causes.NoInlet cause 6 offset f
    cases false o f = same_offset {A = LaneCert} causes.HelloReceiver cause 6 offset f

message_offset : (place : ℕ) (r : Result Message ℕ) (cause : Cause) (offset : ℕ) → message_or place r ≡ Err (Broken cause offset) → place ≡ offset
message_offset place (Ok m) cause offset e = absurd cc
message_offset place (Err at) cause offset e = same_offset {A = Message} causes.Body cause place offset e

-- a message that is none stands among the bodies
messages_offset : (place : ℕ) (bodies : List (List ℕ)) (cause : Cause) (offset : ℕ) → messages_from place bodies ≡ Err (Broken cause offset) → offset ≤ place + length (spelling_of_bodies bodies)
messages_offset place [] cause offset e = absurd cc
messages_offset place (bytes ∷ later) cause offset e = cases (messages_offset (place + 4 + length bytes) later cause offset) (bind_err (message_or (place + 4) (read_message bytes)) _ (Broken cause offset) e)
  where
    later_cases : (m : Message) → (messages_from (place + 4 + length bytes) later ≡ Err (Broken cause offset) → offset ≤ place + 4 + length bytes + length (spelling_of_bodies later)) → (messages_from (place + 4 + length bytes) later ≡ Err (Broken cause offset)) ⊎ ((ms : List Message) × (messages_from (place + 4 + length bytes) later ≡ Ok ms) × (Ok (m ∷ ms) ≡ broken {A = List Message} cause offset))
        → offset ≤ place + length (spelling_of_bodies (bytes ∷ later))
    later_cases m deeper (inl f) = omega (arith, deeper f, bodies_length bytes later)
    later_cases m deeper (inr f) = let g = f.2 in absurd cc

    cases : (messages_from (place + 4 + length bytes) later ≡ Err (Broken cause offset) → offset ≤ place + 4 + length bytes + length (spelling_of_bodies later)) → (message_or (place + 4) (read_message bytes) ≡ Err (Broken cause offset)) ⊎ ((m : Message) × (message_or (place + 4) (read_message bytes) ≡ Ok m) × ((messages_from (place + 4 + length bytes) later >>= λ (ms : List Message). Ok (m ∷ ms)) ≡ broken {A = List Message} cause offset)) → offset ≤ place + length (spelling_of_bodies (bytes ∷ later))
    cases deeper (inl f) = omega (arith, message_offset (place + 4) (read_message bytes) cause offset f, bodies_length bytes later)
    cases deeper (inr f) = later_cases f.0 deeper (bind_err (messages_from (place + 4 + length bytes) later) _ (Broken cause offset) f.2)

hello_length : (lane : LaneCert) (rest : List ℕ) → 6 ≤ length (spelling_of_hello lane ++ rest)
unfolding outer_spelling_of_hello
hello_length lane rest = omega arith

part_length : (number : ℕ) (bodies : List (List ℕ)) → length (part_of_frame number bodies) ≡ 11 + length (spelling_of_bodies bodies)
unfolding signed_fields
part_length number bodies = omega arith

frame_length : (number : ℕ) (bodies : List (List ℕ)) (signature rest : List ℕ) → 11 + length (spelling_of_bodies bodies) ≤ length (spelling_of_frame number bodies signature ++ rest)
frame_length number bodies signature rest = omega (arith, part_length number bodies, length-append (part_of_frame number bodies) (spelling_of_signature signature), length-append (spelling_of_frame number bodies signature) rest)

-- what an item that stands in front is, for a host
pub item_in_range : (lane : Option LaneCert) (item : Item) (bytes rest : List ℕ) → StartsWith lane item bytes rest → IsItemInRange item
item_in_range None (items.Hello hello) bytes rest starts = tt
item_in_range None (items.Frame frame) bytes rest starts = absurd starts
item_in_range (Some lane) (items.Hello hello) bytes rest starts = tt
item_in_range (Some lane) (items.Frame frame) bytes rest starts = starts.signed.bodies

pub host_inside : (here : PubKey) (inlets : List InletName) (lane : Option LaneCert) (item : Item) (bytes rest : List ℕ) (cause : Cause) (offset : ℕ) → StartsWith lane item bytes rest
    → host_item here inlets item ≡ Err (Broken cause offset) → offset ≤ length bytes
unfolding host_item
host_inside here inlets None (items.Hello hello) bytes rest cause offset starts e = cases (bind_err (admitted here inlets hello) _ (Broken cause offset) e)
  where
    cases : (admitted here inlets hello ≡ Err (Broken cause offset)) ⊎ ((l : LaneCert) × (admitted here inlets hello ≡ Ok l) × (Ok (Hello l) ≡ broken {A = Seen} cause offset)) → offset ≤ length bytes
    cases (inl f) = omega (arith, admitted_offset here inlets hello cause offset f, hello_length hello rest, ap length starts.parts)
    cases (inr f) = let g = f.2 in absurd cc
host_inside here inlets None (items.Frame frame) bytes rest cause offset starts e = absurd starts
host_inside here inlets (Some lane) (items.Hello hello) bytes rest cause offset starts e = absurd starts
host_inside here inlets (Some lane) (items.Frame frame) bytes rest cause offset starts e = cases (bind_err (messages_from 11 frame.bodies) _ (Broken cause offset) e)
  where
    cases : (messages_from 11 frame.bodies ≡ Err (Broken cause offset)) ⊎ ((ms : List Message) × (messages_from 11 frame.bodies ≡ Ok ms) × (Ok (Framed frame.number ms) ≡ broken {A = Seen} cause offset)) → offset ≤ length bytes
    cases (inl f) = omega (arith, messages_offset 11 frame.bodies cause offset f, frame_length frame.number frame.bodies starts.signature rest, ap length starts.parts)
    cases (inr f) = let g = f.2 in absurd cc

-- so it is of a reading that stopped
pub host_among : (X : Type 0) (here : PubKey) (inlets : List InletName) (lane : Option LaneCert) (item : Item) (bytes rest : List ℕ) (halt : ReadFaultOrMemory) → StartsWith lane item bytes rest
    → Halts halt (host_item here inlets item) → IsAmong {X = X} (length bytes) (Err halt)
host_among X here inlets lane item bytes rest halts.NoMemory starts h = tt
host_among X here inlets lane item bytes rest halts.Open starts h = tt
host_among X here inlets lane item bytes rest (halts.Broken cause offset) starts h = host_inside here inlets lane item bytes rest cause offset starts h

-- the bodies from a place on, one at a time
pub bodies_more : (bodies : List (List ℕ)) (i : ℕ) (d : List ℕ) → i < length bodies
    → length (spelling_of_bodies (drop i bodies)) ≡ 4 + length (get_or bodies i d) + length (spelling_of_bodies (drop (i + 1) bodies))
bodies_more bodies i d below = ap (λ (bs : List (List ℕ)). length (spelling_of_bodies bs)) (drop_more bodies i d below) ∙ bodies_length (get_or bodies i d) (drop (i + 1) bodies)
