-- Bytes that arrive at one connection of a host.
use Rattle.std.proofs.Common.{◌≡◌, ℕ, ◌+◌, ◌<◌, List, [], ◌++◌, Option, Some, None, length, map, get_or, slice_get, option_map, refl, sym, ap, ◌∙◌, subst, arith}
use Rattle.std.specs.Prelude.{◌≢◌, Result, Ok, Err, IfOk, OnOk, OnErr, min}
use Rattle.std.specs.declared.alloc.AllocError.{AllocError}
use Rattle.std.proofs.lemmas.List.{length-append}
use Rattle.std.proofs.lemmas.Option.{slice_get-map, get_or_from_slice_get}
use Rattle.ds_msg.specs.declared.local.LocalMessage.{LocalMessage}
use Rattle.ds_model.specs.Lists.{at}
use Rattle.ds_model.specs.World.{Conn, Passed}
use Rattle.ds_model.specs.ConnectionStep.{arrive}
use Rattle.ds_model.proofs.Places.{at_here, at_other}
use Rattle.ds_inlet.specs.Connections.{Connection, arrived_more}
use Rattle.ds_inlet.specs.PlainConnections.{plain_conn}
use Rattle.ds_exporter.specs.declared.moved.Moved.{Moved}
use Rattle.ds_exporter.specs.declared.moved.Moved.TheVariants.{Changed, Still}
use Rattle.ds_exporter.specs.Moving.{Moves}
use Rattle.ds_exporter.specs.PlainHosts.{arrived_of, no_conn, plain_passed}
use Rattle.ds_exporter.proofs.Places.{length_at, there_is}
use Rattle.ds_hosts.specs.Nodes.{NodeState, Running, Silent, arrived_in, conn_in, conns_of, plain_host, with_conns}
use Rattle.ds_hosts.proofs.Keeps.{get_alike}

-- IN A LIST OF CONNECTIONS, by a view of them that reads what passed alone

stands : {Y : Type 0} (f : Connection → Y) (ks : List Connection) (i : ℕ) (k : Connection) (d : Y) → slice_get ks i ≡ Some k → get_or (map f ks) i d ≡ f k
stands f ks i k d h = get_or_from_slice_get (map f ks) i (f k) d (slice_get-map f ks i ∙ ap (option_map f) h)

stands_after : {Y : Type 0} (f : Connection → Y) (piece : List ℕ) (ks : List Connection) (i : ℕ) (k : Connection) (d : Y) → slice_get ks i ≡ Some k → get_or (map f (at i (arrived_more piece) ks)) i d ≡ f (arrived_more piece k)
stands_after f piece ks i k d h = stands f (at i (arrived_more piece) ks) i (arrived_more piece k) d (at_here i (arrived_more piece) ks ∙ ap (option_map (arrived_more piece)) h)

other_stands : {Y : Type 0} (f : Connection → Y) (piece : List ℕ) (ks : List Connection) (i place : ℕ) (d : Y) → place ≢ i → get_or (map f (at i (arrived_more piece) ks)) place d ≡ get_or (map f ks) place d
other_stands f piece ks i place d apart = get_alike (map f (at i (arrived_more piece) ks)) (map f ks) place d
    (slice_get-map f (at i (arrived_more piece) ks) place ∙ (ap (option_map f) (at_other i place (arrived_more piece) ks apart) ∙ sym (slice_get-map f ks place)))

abbrev seen : (link : List ℕ) → (Option (ℕ × LocalMessage) → Option Passed) → Connection → Conn
seen link by k = plain_conn link (by k.passed) k

longer : (stream bytes piece later : List ℕ) → stream ≡ (bytes ++ piece) ++ later → length (bytes ++ piece) ≡ min (length stream) (length bytes + length piece)
longer stream bytes piece later e =
    let whole : length stream ≡ length (bytes ++ piece) + length later = ap length e ∙ length-append (bytes ++ piece) later in
    let count : length (bytes ++ piece) ≡ length bytes + length piece = length-append bytes piece in
    omega (arith, whole, count)

module _ (link : List ℕ) (by : Option (ℕ × LocalMessage) → Option Passed) (ks : List Connection) (i : ℕ) (piece : List ℕ) (within : i < length ks) where
  becomes : (stream later : List ℕ) → stream ≡ (get_or (map arrived_of ks) i [] ++ piece) ++ later
      → get_or (map (seen link by) (at i (arrived_more piece) ks)) i no_conn ≡ arrive stream (length piece) (get_or (map (seen link by) ks) i no_conn)
  becomes stream later whole = there_is (get_or (map (seen link by) (at i (arrived_more piece) ks)) i no_conn ≡ arrive stream (length piece) (get_or (map (seen link by) ks) i no_conn)) ks i within
      (λ k h.
      let mine : stream ≡ (k.arrived ++ piece) ++ later = whole ∙ ap (λ (bytes : List ℕ). (bytes ++ piece) ++ later) (stands arrived_of ks i k [] h) in
      stands_after (seen link by) piece ks i k no_conn h
      ∙ (ap (λ (n : ℕ). record (plain_conn link (by k.passed) k) { count = n }) (longer stream k.arrived piece later mine)
      ∙ ap (arrive stream (length piece)) (sym (stands (seen link by) ks i k no_conn h))))

  -- with a byte the connection is another
  differs : 0 < length piece → get_or (map (seen link by) (at i (arrived_more piece) ks)) i no_conn ≡ get_or (map (seen link by) ks) i no_conn → ⊥
  differs some same = there_is ⊥ ks i within
      (λ k h.
      let count : length (k.arrived ++ piece) ≡ length k.arrived =
      ap (λ (c : Conn). c.count) (sym (stands_after (seen link by) piece ks i k no_conn h) ∙ (same ∙ stands (seen link by) ks i k no_conn h)) in
      absurd (omega (arith, some, count, length-append k.arrived piece)))

  bytes : get_or (map arrived_of (at i (arrived_more piece) ks)) i [] ≡ get_or (map arrived_of ks) i [] ++ piece
  bytes = there_is (get_or (map arrived_of (at i (arrived_more piece) ks)) i [] ≡ get_or (map arrived_of ks) i [] ++ piece) ks i within
      (λ k h. stands_after arrived_of piece ks i k [] h ∙ ap (λ (b : List ℕ). b ++ piece) (sym (stands arrived_of ks i k [] h)))

-- OF A NODE

abbrev pub after : (conn : ℕ) → (piece : List ℕ) → NodeState → NodeState
after conn piece x = with_conns (at conn (arrived_more piece) (conns_of x)) x

by_of : NodeState → Option (ℕ × LocalMessage) → Option Passed
by_of (Running e) = plain_passed e.desk.here e.desk.desk.rows
by_of (Silent conns) = λ passed. None

conn_after : (x : NodeState) (conn : ℕ) (piece link : List ℕ) (stream later : List ℕ) → stream ≡ (arrived_in conn x ++ piece) ++ later → conn < length (conns_of x)
    → conn_in link conn (after conn piece x) ≡ arrive stream (length piece) (conn_in link conn x)
conn_after (Running e) conn piece link stream later whole within = becomes link (plain_passed e.desk.here e.desk.desk.rows) e.conns conn piece within stream later whole
conn_after (Silent conns) conn piece link stream later whole within = becomes link (λ passed. None) conns conn piece within stream later whole

conn_differs : (x : NodeState) (conn : ℕ) (piece link : List ℕ) → conn < length (conns_of x) → 0 < length piece → conn_in link conn (after conn piece x) ≡ conn_in link conn x → ⊥
conn_differs (Running e) conn piece link within some same = differs link (plain_passed e.desk.here e.desk.desk.rows) e.conns conn piece within some same
conn_differs (Silent conns) conn piece link within some same = differs link (λ passed. None) conns conn piece within some same

bytes_after : (x : NodeState) (conn : ℕ) (piece : List ℕ) → conn < length (conns_of x) → arrived_in conn (after conn piece x) ≡ arrived_in conn x ++ piece
bytes_after (Running e) conn piece within = bytes [] (λ passed. None) e.conns conn piece within
bytes_after (Silent conns) conn piece within = bytes [] (λ passed. None) conns conn piece within

host_after : (x : NodeState) (conn : ℕ) (piece : List ℕ) → plain_host (after conn piece x) ≡ plain_host x
host_after (Running e) conn piece = refl
host_after (Silent conns) conn piece = refl

other_after : (x : NodeState) (conn : ℕ) (piece link : List ℕ) (place : ℕ) → place ≢ conn → conn_in link place (after conn piece x) ≡ conn_in link place x
other_after (Running e) conn piece link place apart = other_stands (seen link (plain_passed e.desk.here e.desk.desk.rows)) piece e.conns conn place no_conn apart
other_after (Silent conns) conn piece link place apart = other_stands (seen link (λ passed. None)) piece conns conn place no_conn apart

other_bytes : (x : NodeState) (conn : ℕ) (piece : List ℕ) (place : ℕ) → place ≢ conn → arrived_in place (after conn piece x) ≡ arrived_in place x
other_bytes (Running e) conn piece place apart = other_stands arrived_of piece e.conns conn place [] apart
other_bytes (Silent conns) conn piece place apart = other_stands arrived_of piece conns conn place [] apart

count_after : (x : NodeState) (conn : ℕ) (piece : List ℕ) → length (conns_of (after conn piece x)) ≡ length (conns_of x)
count_after (Running e) conn piece = length_at conn (arrived_more piece) e.conns
count_after (Silent conns) conn piece = length_at conn (arrived_more piece) conns

-- AS THE CODE'S CALL SAYS: after a call with this result

module _ (x y : NodeState) (conn : ℕ) (piece : List ℕ) (r : Result Moved AllocError) (becomes : OnOk r (y ≡ after conn piece x)) (err : OnErr r (y ≡ x)) where
  -- in both cases
  either : (P : NodeState → Type 0) → P (after conn piece x) → P x → P y
  either P one two = go r becomes err
    where
      go : (r : Result Moved AllocError) → OnOk r (y ≡ after conn piece x) → OnErr r (y ≡ x) → P y
      go (Ok moved) ok bad = subst P (sym ok) one
      go (Err e) ok bad = subst P (sym bad) two

  pub host_is : plain_host y ≡ plain_host x
  host_is = either (λ z. plain_host z ≡ plain_host x) (host_after x conn piece) refl

  pub others_are : (link : List ℕ) (place : ℕ) → place ≢ conn → conn_in link place y ≡ conn_in link place x
  others_are link place apart = either (λ z. conn_in link place z ≡ conn_in link place x) (other_after x conn piece link place apart) refl

  pub bytes_are : (place : ℕ) → place ≢ conn → arrived_in place y ≡ arrived_in place x
  bytes_are place apart = either (λ z. arrived_in place z ≡ arrived_in place x) (other_bytes x conn piece place apart) refl

  pub count_is : length (conns_of y) ≡ length (conns_of x)
  count_is = either (λ z. length (conns_of z) ≡ length (conns_of x)) (count_after x conn piece) refl

  pub arrived_is : OnOk r (conn < length (conns_of x) → arrived_in conn y ≡ arrived_in conn x ++ piece)
  arrived_is = go r becomes
    where
      go : (r : Result Moved AllocError) → OnOk r (y ≡ after conn piece x) → OnOk r (conn < length (conns_of x) → arrived_in conn y ≡ arrived_in conn x ++ piece)
      go (Ok moved) ok = λ within. ap (arrived_in conn) ok ∙ bytes_after x conn piece within
      go (Err e) ok = tt

  pub moves_is : (still : r ≡ Ok Still → y ≡ x) (moved : IfOk r (λ moved. moved ≡ Changed → (conn < length (conns_of x)) × (0 < length piece))) (link stream later : List ℕ) → stream ≡ (arrived_in conn x ++ piece) ++ later → conn < length (conns_of x)
      → IfOk r (λ moved. Moves moved (conn_in link conn x) (conn_in link conn y) (arrive stream (length piece) (conn_in link conn x)))
  moves_is still moved link stream later whole within = go r becomes still moved
    where
      go : (r : Result Moved AllocError) → OnOk r (y ≡ after conn piece x) → (r ≡ Ok Still → y ≡ x) → IfOk r (λ moved. moved ≡ Changed → (conn < length (conns_of x)) × (0 < length piece))
          → IfOk r (λ moved. Moves moved (conn_in link conn x) (conn_in link conn y) (arrive stream (length piece) (conn_in link conn x)))
      go (Ok Still) ok still moved = (ap (conn_in link conn) ok ∙ conn_after x conn piece link stream later whole within, (λ s. ap (conn_in link conn) (still refl), λ same. refl))
      go (Ok Changed) ok still moved = (
        ap (conn_in link conn) ok ∙ conn_after x conn piece link stream later whole within,
        (λ s. absurd cc, λ same. absurd (conn_differs x conn piece link within (moved refl).1 (ap (conn_in link conn) (sym ok) ∙ same))),
      )
      go (Err e) ok still moved = tt
