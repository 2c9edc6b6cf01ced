-- The calls of a connection act as the plain world's pieces do.
use Rattle.std.proofs.Common.{◌≡◌, ℕ, suc, ◌+◌, ◌≤◌, true, false, List, [], ◌∷◌, ◌++◌, length, map, min, Option, Some, None, refl, sym, ap, subst, ◌∙◌, length-append, arith}
use Rattle.ds_cert.specs.declared.lane.LaneCert.{LaneCert}
use Rattle.ds_msg.specs.declared.message.Message.{Message}
use Rattle.ds_model.specs.World.{Conn, ConnLine}
use Rattle.ds_model.specs.ConnectionStep.{fresh_frame, stale_frame, delivery_after_reply, passed_of}
use Rattle.ds_inlet.specs.declared.offer.ConnEntry.{ConnEntry}
use Rattle.ds_inlet.specs.declared.offer.ConnEntry.TheVariants as entries
use Rattle.ds_inlet.specs.OfferedFrames.{OfferedFrame}
use Rattle.ds_inlet.specs.Connections.{settled_as, passed_from, refused_from}
use Rattle.ds_inlet.specs.PlainConnections.{line_of, taken_by, frames_of, hellos_of, plain_conn, IsPlainArrival, IsPlainFresh, IsPlainStale, IsPlainPass, IsPlainDrop, IsPlainHand, IsPlainReturn}

-- with one entry more
lines_push : (es : List ConnEntry) (e : ConnEntry) → map line_of (es ++ e ∷ []) ≡ map line_of es ++ line_of e ∷ []
lines_push [] e = refl
lines_push (x ∷ es) e = ap (λ (ls : List ConnLine). line_of x ∷ ls) (lines_push es e)

pub frames_push : (es : List ConnEntry) (e : ConnEntry) → frames_of (es ++ e ∷ []) ≡ frames_of es + taken_by e
frames_push [] e = omega arith
frames_push (x ∷ es) e = omega (arith, frames_push es e)

-- one item more is taken, or none
one_taken : (lane : Option LaneCert) (es : List ConnEntry) (e : ConnEntry) → taken_by e ≡ 1 → hellos_of lane + frames_of (es ++ e ∷ []) ≡ suc (hellos_of lane + frames_of es)
one_taken lane es e one = omega (arith, frames_push es e, one)

none_taken : (lane : Option LaneCert) (es : List ConnEntry) (e : ConnEntry) → taken_by e ≡ 0 → hellos_of lane + frames_of (es ++ e ∷ []) ≡ hellos_of lane + frames_of es
none_taken lane es e none = omega (arith, frames_push es e, none)

-- with that many items taken and those lines
abbrev with_both : Conn → ℕ → List ConnLine → Conn
with_both k taken lines = record k { taken = taken; lines = lines }

both : (k : Conn) (n m : ℕ) (ls ks : List ConnLine) → n ≡ m → ls ≡ ks → with_both k n ls ≡ with_both k m ks
both k n m ls ks p q = ap (λ (t : ℕ). with_both k t ls) p ∙ ap (λ (l : List ConnLine). with_both k m l) q

pub plain_fresh : IsPlainFresh
plain_fresh link passed k o e =
    subst (λ (x : Option OfferedFrame). plain_conn link passed (settled_as true x k) ≡ fresh_frame (plain_conn link passed k) o.number o.messages) (sym e)
    (both (record (plain_conn link passed k) { hand = o.messages }) _ _ _ _ (one_taken k.reader.lane k.entries (entries.Frame o.number (length o.messages)) refl) (lines_push k.entries (entries.Frame o.number (length o.messages))))

pub plain_stale : IsPlainStale
plain_stale link passed k o e =
    subst (λ (x : Option OfferedFrame). plain_conn link passed (settled_as false x k) ≡ stale_frame (plain_conn link passed k) o.number) (sym e)
    (both (plain_conn link passed k) _ _ _ _ (one_taken k.reader.lane k.entries (entries.Stale o.number) refl) (lines_push k.entries (entries.Stale o.number)))

pub plain_pass : IsPlainPass
plain_pass link before k lane first rest message e =
    subst (λ (ms : List Message). plain_conn link (Some (passed_of lane first)) (passed_from message ms k) ≡ delivery_after_reply lane first rest None (plain_conn link before k)) (sym e)
    (both (record (plain_conn link before k) { hand = rest; passed = Some (passed_of lane first) }) _ _ _ _ (none_taken k.reader.lane k.entries (entries.Pass first.slot) refl) (lines_push k.entries (entries.Pass first.slot)))

pub plain_drop : IsPlainDrop
plain_drop link passed k lane first rest rule e =
    subst (λ (ms : List Message). plain_conn link passed (refused_from rule ms k) ≡ delivery_after_reply lane first rest (Some rule) (plain_conn link passed k)) (sym e)
    (both (record (plain_conn link passed k) { hand = rest }) _ _ _ _ (none_taken k.reader.lane k.entries (entries.Drop rule first.slot) refl) (lines_push k.entries (entries.Drop rule first.slot)))

pub plain_hand : IsPlainHand
plain_hand link passed k = refl

pub plain_return : IsPlainReturn
plain_return link passed k slot message = refl

no_more : (n m : ℕ) → n ≤ m → n ≡ min m n
no_more n m le = omega (arith, le)

pub plain_arrival : IsPlainArrival
plain_arrival link piece later passed k e =
    let whole : length link ≡ length (k.arrived ++ piece) + length later = ap length e ∙ length-append (k.arrived ++ piece) later in
    let count : length (k.arrived ++ piece) ≡ length k.arrived + length piece = length-append k.arrived piece in
    let within : length k.arrived + length piece ≤ length link = omega (arith, whole, count) in
    ap (λ (n : ℕ). record (plain_conn link passed k) { count = n }) (count ∙ no_more (length k.arrived + length piece) (length link) within)
