-- Worlds that are equal but for what is high have equal sections outside.
use Rattle.std.proofs.Common.{◌≡◌, ℕ, Bool, true, false, List, [], ◌∷◌, ◌++◌, Option, Some, None, slice_get, take, length, refl, sym, ◌∙◌, ap, ap₂, ◌⊎◌, inl, inr, arith}
use Rattle.std.specs.Prelude.{if◌then◌else◌}
use Rattle.ds_label.specs.declared.category.Category.{Category}
use Rattle.ds_label.specs.Names.{is_secrecy}
use Rattle.ds_model.specs.Scheme.{Scheme}
use Rattle.ds_model.specs.Plan.{Plan, host_plan, conn_plan}
use Rattle.ds_model.specs.World.{Queue, Worker, LaneLine, Conn, Host, World}
use Rattle.ds_model.specs.Step.{arrived, run}
use Rattle.ds_model.specs.Views.{proc_in}
use Rattle.ds_noninterference.specs.High.{is_in, high_at, high_lane, high_conn, high_inlet}
use Rattle.ds_noninterference.specs.Alike.{Alike, Hidden, AlikeHosts, AlikeAt, AlikeWorlds}
use Rattle.ds_noninterference.specs.Premises.{IsScheme}
use Rattle.ds_model.specs.Text.{Format, section, lane_section, sections, host_sections, sections_at, conn_section, conn_sections}
use Rattle.ds_noninterference.specs.Outside.{high_box_in, high_hidden, outside_sections}
use Rattle.ds_noninterference.specs.Law.{AtEnd, SameSections}
use Rattle.ds_noninterference.proofs.Views.{gathered_same, laws}
use Rattle.ds_noninterference.proofs.Flow.{not_both}
use Rattle.ds_noninterference.proofs.Events.{same_conns, same_stream}
use Rattle.ds_noninterference.proofs.Relation.{high_same, box_same}
use Rattle.ds_noninterference.proofs.Setting.{Setting, setting}

-- sections that are hidden alike, and equal where they aren't hidden
sections_same : (hidden hidden' : ℕ → Bool) (text text' : ℕ → List (List ℕ)) (n : ℕ) → ((i : ℕ) → hidden i ≡ hidden' i) → ((i : ℕ) → hidden i ≡ false → text i ≡ text' i) → sections hidden text n ≡ sections hidden' text' n
sections_same hidden hidden' text text' n p q = gathered_same _ _ n (λ i. go i (hidden i) (hidden' i) refl (p i))
  where
    go : (i : ℕ) (a b : Bool) → hidden i ≡ a → a ≡ b → (if a then [] else text i) ≡ (if b then [] else text' i)
    go i true true e r = refl
    go i false false e r = q i e
    go i true false e r = absurd (grind arith)
    go i false true e r = absurd (grind arith)

seen : {X : Type 0} {a b : Bool} {x y : X} → Alike a b x y → a ≡ false → x ≡ y
seen (inl e) low = e
seen (inr h) low = absurd (not_both _ h.0 low)

module _ (s : Scheme) (c : Category) (secret : is_secrecy c.kind ≡ true) (trusted : List ℕ) (plan : Plan) (is : IsScheme s plan) (fits : Setting c trusted plan) (f : Format) where
  shown : (h l : ℕ) {X : Type 0} {x y : X} → high_lane c trusted plan h l ≡ false → (x ≡ y) ⊎ Hidden c trusted plan h l → x ≡ y
  shown h l low (inl e) = e
  shown h l low (inr hidden) = absurd (not_both _ hidden.high low)

  shown_inlet : (h i : ℕ) {X : Type 0} {x y : X} → high_inlet c trusted plan h i ≡ false → (x ≡ y) ⊎ (high_inlet c trusted plan h i ≡ true) → x ≡ y
  shown_inlet h i low (inl e) = e
  shown_inlet h i low (inr hi) = absurd (not_both _ hi low)

  same_lane_text : (h l : ℕ) {q q' : Option Queue} {e e' : Option Worker} {g g' : Option (List LaneLine)} → q ≡ q' → e ≡ e' → g ≡ g' → lane_section (f.lane h l) q e g ≡ lane_section (f.lane h l) q' e' g'
  same_lane_text h l u v w = λ i. lane_section (f.lane h l) (u i) (v i) (w i)

  module _ (v w : World) (alike : AlikeWorlds c trusted plan v w) where
    -- which processes are hidden, where a host's worlds are alike
    proc_high : (h p : ℕ) (o q : Option Host) → AlikeAt c trusted plan h o q → high_at c (is_in trusted h) (proc_in o p) ≡ high_at c (is_in trusted h) (proc_in q p)
    proc_high h p None None r = refl
    proc_high h p None (Some y) r = absurd r
    proc_high h p (Some x) None r = absurd r
    proc_high h p (Some x) (Some y) r = high_same c (is_in trusted h) _ _ (r.procs p)

    box_high : (h b : ℕ) (o q : Option Host) → AlikeAt c trusted plan h o q → high_box_in c trusted plan h o b ≡ high_box_in c trusted plan h q b
    box_high h b None None r = refl
    box_high h b None (Some y) r = absurd r
    box_high h b (Some x) None r = absurd r
    box_high h b (Some x) (Some y) r = box_same c (is_in trusted h) (host_plan plan h) x.procs y.procs r.procs b

    same_host_sections : (h : ℕ) (x y : Host) → slice_get v.hosts h ≡ Some x → slice_get w.hosts h ≡ Some y → AlikeHosts c trusted plan h x y →
        host_sections f (high_hidden c trusted plan v) (host_plan plan h) h x ≡ host_sections f (high_hidden c trusted plan w) (host_plan plan h) h y
    same_host_sections h x y there there' r =
        ap₂ (λ a b. a ∷ b) (ap (f.host h) r.desk)
        (ap₂ (λ a b. a ++ b) (sections_same _ _ _ _ (host_plan plan h).procs (λ p. proc_high h p _ _ (alike.hosts h)) (λ p low. ap (section (f.proc h p)) (seen (r.procs p) (sym (ap (λ o. high_at c (is_in trusted h) (proc_in o p)) there) ∙ low))))
        (ap₂ (λ a b. a ++ b) (sections_same _ _ _ _ (length (host_plan plan h).boxes) (λ b. box_high h b _ _ (alike.hosts h)) (λ b low. ap (section (f.box h b)) (seen (r.boxes b) (sym (ap (λ o. high_box_in c trusted plan h o b) there) ∙ low))))
        (ap₂ (λ a b. a ++ b) (sections_same _ _ _ _ (length (host_plan plan h).lanes) (λ l. refl) (λ l low. same_lane_text h l (shown h l low (r.queues l)) (shown h l low (r.workers l)) (shown h l low (r.logs l))))
        (sections_same _ _ _ _ (length (host_plan plan h).inlets) (λ i. refl) (λ i low. ap (section (f.inlet h i)) (shown_inlet h i low (r.inlets i)))))))

    same_sections_at : (h : ℕ) (o q : Option Host) → slice_get v.hosts h ≡ o → slice_get w.hosts h ≡ q → AlikeAt c trusted plan h o q →
        sections_at f (high_hidden c trusted plan v) (host_plan plan h) h o ≡ sections_at f (high_hidden c trusted plan w) (host_plan plan h) h q
    same_sections_at h None None there there' r = refl
    same_sections_at h None (Some y) there there' r = absurd r
    same_sections_at h (Some x) None there there' r = absurd r
    same_sections_at h (Some x) (Some y) there there' r = ap (λ z. if (host_plan plan h).silent then [] else z) (same_host_sections h x y there there' r)

    same_conn_section : (k : ℕ) (o q : Option Conn) → o ≡ q → ((y : Conn) → arrived v (conn_plan plan k).source y ≡ arrived w (conn_plan plan k).source y) → conn_section f plan v k o ≡ conn_section f plan w k q
    same_conn_section k None q e g = ap (conn_section f plan w k) e
    same_conn_section k (Some y) q e g = ap (λ bytes. f.conn k y bytes ∷ []) (g y) ∙ ap (conn_section f plan w k) e

    same_conn_sections : (k : ℕ) → high_conn c trusted plan k ≡ false → conn_sections f plan v k ≡ conn_sections f plan w k
    same_conn_sections k low = ap (λ z. if (host_plan plan (conn_plan plan k).host).silent then [] else z)
        (same_conn_section k (slice_get v.conns k) (slice_get w.conns k) (same_conns s c trusted plan is secret fits v w alike k low)
        (λ y. ap (take y.count) (same_stream s c trusted plan is secret fits v w alike k (conn_plan plan k).source y refl low)))

    pub same_outside : outside_sections f c trusted plan v ≡ outside_sections f c trusted plan w
    same_outside = ap (λ z. f.first ∷ z) (ap₂ (λ a b. a ++ b)
        (gathered_same _ _ (length plan.hosts) (λ h. same_sections_at h _ _ refl refl (alike.hosts h)))
        (sections_same _ _ _ _ (length plan.conn_plans) (λ k. refl) same_conn_sections))

pub outside : AtEnd SameSections
outside s c trusted plan v w one two is p f = same_outside s c p.secret trusted plan is (setting s c trusted plan v one p.fits p.obeys_one) f (run s plan v one) (run s plan w two) (laws s c trusted plan v w one two is p)
