-- What a list read at a place has there.
use Rattle.std.proofs.Common.{◌≡◌, ℕ, ◌<◌, ◌≤◌, List, [], Option, Some, None, length, map, get_or, slice_get, option_map, refl, sym, ap, ◌∙◌, arith}
use Rattle.std.specs.Prelude.{true, false, nat_lt}
use Rattle.std.proofs.lemmas.Bool.Decides.{nat_tests}
use Rattle.std.proofs.lemmas.Option.{get_or_from_slice_get, slice_get-map, slice_get_past, slice_get_read}
use Rattle.ds_inlet.specs.Connections.{ConnectionWithCapacity}
use Rattle.ds_exporter.specs.declared.parts.LanePart.{LanePart}
use Rattle.ds_exporter.specs.HostStates.{connection_of, lane_of}
use Rattle.ds_exporter.specs.PlainHosts.{arrived_of, plain_worker}

below : (i n : ℕ) → true ≡ nat_lt i n → i < n
below i n e = grind (arith, nat_tests)

above : (i n : ℕ) → false ≡ nat_lt i n → n ≤ i
above i n e = grind (arith, nat_tests)

pub read_at : {X : Type 0} (xs ys : List X) (i : ℕ) (x : X) → ys ≡ xs → true ≡ nat_lt i (length ys) → x ≡ get_or ys i x → slice_get xs i ≡ Some x
read_at xs ys i x same lt is = ap (λ zs. slice_get zs i) (sym same) ∙ slice_get_read ys (length ys) i x refl (below i (length ys) lt) is

pub past_at : {X : Type 0} (xs ys : List X) (i : ℕ) → ys ≡ xs → false ≡ nat_lt i (length ys) → slice_get xs i ≡ None
past_at xs ys i same ge = ap (λ zs. slice_get zs i) (sym same) ∙ slice_get_past ys i (above i (length ys) ge)

pub count_there : (ks : List ConnectionWithCapacity) (i : ℕ) (k : ConnectionWithCapacity) → slice_get ks i ≡ Some k → get_or (map arrived_of (map connection_of ks)) i [] ≡ k.conn.arrived
count_there ks i k h = get_or_from_slice_get (map arrived_of (map connection_of ks)) i k.conn.arrived []
    (slice_get-map arrived_of (map connection_of ks) i ∙ ap (option_map arrived_of) (slice_get-map connection_of ks i ∙ ap (option_map connection_of) h))

pub stream_there : (ls : List LanePart) (i : ℕ) (o : Option LanePart) → slice_get ls i ≡ o → slice_get (map plain_worker (map lane_of ls)) i ≡ option_map plain_worker (option_map lane_of o)
stream_there ls i o h = slice_get-map plain_worker (map lane_of ls) i ∙ ap (option_map plain_worker) (slice_get-map lane_of ls i ∙ ap (option_map lane_of) h)
