-- A stream that comes in pieces gives the items of the whole stream, in their order.
use Rattle.std.proofs.Common.{◌≡◌, ℕ, zero, suc, ◌+◌, ◌-◌, ◌<◌, List, [], ◌∷◌, ◌++◌, length, Option, Some, None, refl, sym, ap, subst, ◌∙◌, append_assoc, length-append, arith}
use Rattle.std.specs.Prelude.{Result, Ok, Err}
use Rattle.std.proofs.lemmas.List.{append-nil}
use Rattle.ds_cert.specs.declared.lane.LaneCert.{LaneCert}
use Rattle.ds_frame.specs.declared.item.Failure.{Failure}
use Rattle.ds_frame.specs.declared.item.Item.{Item}
use Rattle.ds_frame.specs.Fields.{ReadFault, Open, Broken}
use Rattle.ds_frame.specs.Reader.{Reader, Reading, new_reader, fed, lane_after, answer_of, next_by}
use Rattle.ds_frame.specs.Streams.{Stream, with_item, joined, read_on, stream_by}
use Rattle.ds_frame.specs.Laws.{Call, Feed, Next, Session, new_session, handed_by, called, after, fed_by, Continues, IsReadByPieces}
use Rattle.ds_frame.specs.SoFar.{with_front, ahead, IsSoFar}
use Rattle.ds_frame.proofs.Steady.{IsSteady}

module _ (reading : Reading) (steady : (lane : Option LaneCert) → IsSteady 1 (reading lane)) where
  -- more steps than bytes make no difference
  enough : (n m : ℕ) (lane : Option LaneCert) (passed : ℕ) (bytes : List ℕ) → length bytes < n → length bytes < m → read_on reading n lane passed bytes ≡ read_on reading m lane passed bytes
  unfolding read_on
  enough zero m lane passed bytes p q = absurd (omega (arith, p))
  enough (suc n) zero lane passed bytes p q = absurd (omega (arith, q))
  enough (suc n) (suc m) lane passed bytes p q =
      enough_next n m lane passed bytes p q (λ item rest short longer. enough n m (lane_after item lane) (passed + (length bytes - length rest)) rest short longer) (reading lane bytes) refl
    where
      enough_next : (n m : ℕ) (lane : Option LaneCert) (passed : ℕ) (bytes : List ℕ) → length bytes < suc n → length bytes < suc m
          → ((item : Item) (rest : List ℕ) → length rest < n → length rest < m → read_on reading n (lane_after item lane) (passed + (length bytes - length rest)) rest ≡ read_on reading m (lane_after item lane) (passed + (length bytes - length rest)) rest)
          → (r : Result (Item × List ℕ) ReadFault) → reading lane bytes ≡ r
          → joined passed (λ item rest. read_on reading n (lane_after item lane) (passed + (length bytes - length rest)) rest) r ≡ joined passed (λ item rest. read_on reading m (lane_after item lane) (passed + (length bytes - length rest)) rest) r
      enough_next n m lane passed bytes p q same (Ok x) e = ap (with_item x.0) (same x.0 x.1 (omega (arith, p, (steady lane).shorter bytes x e)) (omega (arith, q, (steady lane).shorter bytes x e)))
      enough_next n m lane passed bytes p q same (Err Open) e = refl
      enough_next n m lane passed bytes p q same (Err (Broken cause offset)) e = refl

  -- one step
  pub step_ok : (lane : Option LaneCert) (passed : ℕ) (bytes : List ℕ) (x : Item × List ℕ) → reading lane bytes ≡ Ok x → read_on reading (suc (length bytes)) lane passed bytes ≡ with_item x.0 (read_on reading (suc (length x.1)) (lane_after x.0 lane) (passed + (length bytes - length x.1)) x.1)
  unfolding read_on
  step_ok lane passed bytes x e =
      ap (joined passed (λ item rest. read_on reading (length bytes) (lane_after item lane) (passed + (length bytes - length rest)) rest)) e
      ∙ ap (with_item x.0) (enough (length bytes) (suc (length x.1)) (lane_after x.0 lane) (passed + (length bytes - length x.1)) x.1 (omega (arith, (steady lane).shorter bytes x e)) (omega arith))

  pub step_err : (lane : Option LaneCert) (passed : ℕ) (bytes : List ℕ) (stop : ReadFault) → reading lane bytes ≡ Err stop → read_on reading (suc (length bytes)) lane passed bytes ≡ joined passed (λ item rest. record { items = []; ending = None }) (Err stop)
  unfolding read_on
  step_err lane passed bytes Open e = ap (joined passed (λ item rest. read_on reading (length bytes) (lane_after item lane) (passed + (length bytes - length rest)) rest)) e
  step_err lane passed bytes (Broken cause offset) e = ap (joined passed (λ item rest. read_on reading (length bytes) (lane_after item lane) (passed + (length bytes - length rest)) rest)) e

  -- whatever comes next, the stream is what was handed out and what the reader is still to hand out
  abbrev IsAt : List ℕ → Session → Type 0
  IsAt stream s = IsSoFar reading stream s.handed s.reader

  at_start : IsAt [] new_session
  at_start more = refl

  after_feed : (stream piece : List ℕ) (s : Session) → IsAt stream s → IsAt (stream ++ piece) (called reading (Feed piece) s)
  after_feed stream piece s so_far more =
      ap (stream_by reading) (append_assoc stream piece more) ∙ so_far (piece ++ more)
      ∙ ap (λ (rest : List ℕ). with_front s.handed (ahead reading (record s.reader { rest = rest }))) (sym (append_assoc s.reader.rest piece more))

  one_more : (handed : List Item) (item : Item) (s : Stream) → with_front handed (with_item item s) ≡ with_front (handed ++ item ∷ []) s
  one_more handed item s = ap (λ (items : List Item). record s { items = items }) (sym (append_assoc handed (item ∷ []) s.items))

  none_more : (handed : List Item) (s : Stream) → with_front handed s ≡ with_front (handed ++ []) s
  none_more handed s = ap (λ (front : List Item). with_front front s) (sym (append-nil handed))

  abbrev reader_at : List ℕ → ℕ → Option LaneCert → Option Failure → Reader
  reader_at rest passed lane failure = record { rest = rest; passed = passed; lane = lane; failure = failure }

  -- what one call of next does to what is ahead
  moved_by : (rest : List ℕ) (passed : ℕ) (lane : Option LaneCert) (handed : List Item) (more : List ℕ) (read : Result (Item × List ℕ) ReadFault) → reading lane rest ≡ read
      → with_front handed (ahead reading (fed more (reader_at rest passed lane None))) ≡ with_front (handed ++ handed_by (answer_of (reader_at rest passed lane None) read).answer) (ahead reading (fed more (answer_of (reader_at rest passed lane None) read).reader))
  moved_by rest passed lane handed more (Ok x) e =
      let longer = step_ok lane passed (rest ++ more) (x.0, x.1 ++ more) ((steady lane).goes_on rest more x e) in
      let count : passed + (length (rest ++ more) - length (x.1 ++ more)) ≡ passed + (length rest - length x.1) = omega (arith, length-append rest more, length-append x.1 more) in
      let following = ap (λ (n : ℕ). with_item x.0 (read_on reading (suc (length (x.1 ++ more))) (lane_after x.0 lane) n (x.1 ++ more))) count in
      ap (with_front handed) (longer ∙ following) ∙ one_more handed x.0 (read_on reading (suc (length (x.1 ++ more))) (lane_after x.0 lane) (passed + (length rest - length x.1)) (x.1 ++ more))
  moved_by rest passed lane handed more (Err Open) e = none_more handed (ahead reading (fed more (reader_at rest passed lane None)))
  moved_by rest passed lane handed more (Err (Broken cause offset)) e =
      let ended = step_err lane passed (rest ++ more) (Broken cause offset) ((steady lane).breaks rest more cause offset e) in
      ap (with_front handed) ended ∙ none_more handed (record { items = []; ending = Some (record { cause = cause; place = passed + offset }) })

  moved_for : (rest : List ℕ) (passed : ℕ) (lane : Option LaneCert) (failure : Option Failure) (handed : List Item) (more : List ℕ)
      → with_front handed (ahead reading (fed more (reader_at rest passed lane failure))) ≡ with_front (handed ++ handed_by (next_by reading (reader_at rest passed lane failure)).answer) (ahead reading (fed more (next_by reading (reader_at rest passed lane failure)).reader))
  moved_for rest passed lane None handed more = moved_by rest passed lane handed more (reading lane rest) refl
  moved_for rest passed lane (Some failure) handed more = none_more handed (record { items = []; ending = Some failure })

  moved : (r : Reader) (handed : List Item) (more : List ℕ) → with_front handed (ahead reading (fed more r)) ≡ with_front (handed ++ handed_by (next_by reading r).answer) (ahead reading (fed more (next_by reading r).reader))
  moved r handed more = moved_for r.rest r.passed r.lane r.failure handed more

  after_next : (stream : List ℕ) (s : Session) → IsAt stream s → IsAt stream (called reading Next s)
  after_next stream s so_far more = so_far more ∙ moved s.reader s.handed more

  nothing_more : (r : Reader) → fed [] r ≡ r
  nothing_more r = ap (λ (rest : List ℕ). record r { rest = rest }) (append-nil r.rest)

  -- the three, of any reader
  pub so_far_new : IsSoFar reading [] [] new_reader
  so_far_new = at_start

  pub so_far_fed : (bytes piece : List ℕ) (handed : List Item) (r : Reader) → IsSoFar reading bytes handed r → IsSoFar reading (bytes ++ piece) handed (fed piece r)
  so_far_fed bytes piece handed r is = after_feed bytes piece (record { handed = handed; reader = r }) is

  pub so_far_next : (bytes : List ℕ) (handed : List Item) (r : Reader) → IsSoFar reading bytes handed r → IsSoFar reading bytes (handed ++ handed_by (next_by reading r).answer) (next_by reading r).reader
  so_far_next bytes handed r is more = is more ∙ moved r handed more

  pub so_far_now : (bytes : List ℕ) (handed : List Item) (r : Reader) → IsSoFar reading bytes handed r → stream_by reading bytes ≡ with_front handed (ahead reading r)
  so_far_now bytes handed r is = ap (stream_by reading) (sym (append-nil bytes)) ∙ is [] ∙ ap (λ (x : Reader). with_front handed (ahead reading x)) (nothing_more r)

  after_all : (calls : List Call) (stream : List ℕ) (s : Session) → IsAt stream s → IsAt (stream ++ fed_by calls) (after reading calls s)
  after_all [] stream s so_far = subst (λ (bytes : List ℕ). IsAt bytes s) (sym (append-nil stream)) so_far
  after_all (Feed piece ∷ calls) stream s so_far = subst (λ (bytes : List ℕ). IsAt bytes (after reading calls (called reading (Feed piece) s))) (append_assoc stream piece (fed_by calls)) (after_all calls (stream ++ piece) (called reading (Feed piece) s) (after_feed stream piece s so_far))
  after_all (Next ∷ calls) stream s so_far = after_all calls stream (called reading Next s) (after_next stream s so_far)

  continues_by : (stream : Stream) (rest : List ℕ) (passed : ℕ) (lane : Option LaneCert) (handed : List Item) (read : Result (Item × List ℕ) ReadFault) → reading lane rest ≡ read
      → stream ≡ with_front handed (read_on reading (suc (length rest)) lane passed rest) → Continues stream handed (answer_of (reader_at rest passed lane None) read).answer
  continues_by stream rest passed lane handed (Ok x) e is =
      let following = read_on reading (suc (length x.1)) (lane_after x.0 lane) (passed + (length rest - length x.1)) x.1 in
      let whole = is ∙ ap (with_front handed) (step_ok lane passed rest x e) in
      (following.items, ap (λ (s : Stream). s.items) whole)
  continues_by stream rest passed lane handed (Err Open) e is =
      let whole = is ∙ ap (with_front handed) (step_err lane passed rest Open e) in
      (ap (λ (s : Stream). s.items) whole ∙ append-nil handed, ap (λ (s : Stream). s.ending) whole)
  continues_by stream rest passed lane handed (Err (Broken cause offset)) e is =
      let whole = is ∙ ap (with_front handed) (step_err lane passed rest (Broken cause offset) e) in
      (ap (λ (s : Stream). s.items) whole ∙ append-nil handed, ap (λ (s : Stream). s.ending) whole)

  continues_for : (stream : Stream) (rest : List ℕ) (passed : ℕ) (lane : Option LaneCert) (failure : Option Failure) (handed : List Item)
      → stream ≡ with_front handed (ahead reading (reader_at rest passed lane failure)) → Continues stream handed (next_by reading (reader_at rest passed lane failure)).answer
  continues_for stream rest passed lane None handed is = continues_by stream rest passed lane handed (reading lane rest) refl is
  continues_for stream rest passed lane (Some failure) handed is = (ap (λ (s : Stream). s.items) is ∙ append-nil handed, ap (λ (s : Stream). s.ending) is)

  pub read_by_pieces : IsReadByPieces reading
  read_by_pieces calls =
      let s = after reading calls new_session in
      let whole : stream_by reading (fed_by calls) ≡ with_front s.handed (ahead reading s.reader) =
      ap (stream_by reading) (sym (append-nil (fed_by calls))) ∙ after_all calls [] new_session at_start [] ∙ ap (λ (r : Reader). with_front s.handed (ahead reading r)) (nothing_more s.reader) in
      continues_for (stream_by reading (fed_by calls)) s.reader.rest s.reader.passed s.reader.lane s.reader.failure s.handed whole
