-- Tables after one number more, and the index of the histories.
use Rattle.std.proofs.Common.{◌≡◌, ℕ, ◌<◌, ◌+◌, ◌-◌, List, ◌∷◌, length, drop, Bool, true, false, cond, Option, Some, refl, sym, ap, ◌∙◌, arith, slice_index_or}
use Rattle.std.specs.Prelude.{slice_get, find, unwrap_or}
use Rattle.std.specs.Ordering.{is_eq}
use Rattle.std.specs.BTreeMap.{BTreeMap, get}
use Rattle.std.proofs.lemmas.List.{drop_more}
use Rattle.std.proofs.lemmas.Option.{slice_get_read}
use Rattle.ds_script.specs.Replay.{onward}
use Rattle.ds_script.specs.declared.actor.Actor.{Actor}
use Rattle.ds_script.specs.contracts.actor.ActorOrd.TheImpl as order_actor
use Rattle.ds_merge.specs.declared.kept.ObjectName.{ObjectName}
use Rattle.ds_merge.specs.declared.records.History.{History}
use Rattle.ds_merge.specs.Order.{actor_cmp}
use Rattle.ds_merge.specs.Standing.{same_actor, same_name}
use Rattle.ds_merge.specs.Tables.{name_cmp, at_actor, at_object, Finds}
use Rattle.ds_merge.proofs.Derived.{actors_cmp, actor_ties, name_ties, same_name_is}

out_of : (b : Bool) (v : ℕ) (o : Option ℕ) → unwrap_or (cond b (Some v) o) 0 ≡ cond b v (unwrap_or o 0)
out_of true v o = refl
out_of false v o = refl

pub raised_actor : (m n : BTreeMap Actor ℕ) (k : Actor) (v : ℕ)
    → ((q : Actor) → get (order_actor.ghosts).cmp n q ≡ cond (is_eq ((order_actor.ghosts).cmp k q)) (Some v) (get (order_actor.ghosts).cmp m q))
    → (who : Actor) → at_actor n who ≡ cond (same_actor k who) v (at_actor m who)
raised_actor m n k v updates who =
    (λ i. unwrap_or (get (λ a b. sym (actors_cmp a b) i) n who) 0)
    ∙ ap (λ o. unwrap_or o 0) (updates who)
    ∙ (λ i. unwrap_or (cond (is_eq (actors_cmp k who i)) (Some v) (get (λ a b. actors_cmp a b i) m who)) 0)
    ∙ (λ i. unwrap_or (cond (actor_ties k who i) (Some v) (get actor_cmp m who)) 0)
    ∙ out_of (same_actor k who) v (get actor_cmp m who)

pub raised_object : (m n : BTreeMap ObjectName ℕ) (k : ObjectName) (v : ℕ)
    → ((q : ObjectName) → get name_cmp n q ≡ cond (is_eq (name_cmp k q)) (Some v) (get name_cmp m q))
    → (name : ObjectName) → at_object n name ≡ cond (same_name k name) v (at_object m name)
raised_object m n k v updates name =
    ap (λ o. unwrap_or o 0) (updates name)
    ∙ (λ i. unwrap_or (cond (name_ties k name i) (Some v) (get name_cmp m name)) 0)
    ∙ out_of (same_name k name) v (get name_cmp m name)

pub counted_object : (m n : BTreeMap ObjectName ℕ) (k : ObjectName) (v : ℕ) → v ≡ at_object m k + 1
    → ((q : ObjectName) → get name_cmp n q ≡ cond (is_eq (name_cmp k q)) (Some v) (get name_cmp m q))
    → (name : ObjectName) → at_object n name ≡ cond (same_name k name) (at_object m name + 1) (at_object m name)
counted_object m n k v is updates name = raised_object m n k v updates name ∙ by (same_name k name) refl
  where
    by : (b : Bool) → same_name k name ≡ b → cond b v (at_object m name) ≡ cond b (at_object m name + 1) (at_object m name)
    by true same = is ∙ ap (λ x. at_object m x + 1) (same_name_is k name same)
    by false same = refl

-- ---- the index

finds_more : (old new : BTreeMap ObjectName ℕ) (hs rest more : List History) (n : ℕ) (h : History) → slice_get hs n ≡ Some h → more ≡ h ∷ rest
    → ((q : ObjectName) → get name_cmp new q ≡ cond (is_eq (name_cmp h.object q)) (Some n) (get name_cmp old q))
    → Finds old hs rest → Finds new hs more
finds_more old new hs rest more n h here is updates f =
    record {
      each = λ name.
          ap (λ o. onward o (slice_get hs)) (updates name)
          ∙ (λ i. onward (cond (name_ties h.object name i) (Some n) (get name_cmp old name)) (slice_get hs))
          ∙ by name (same_name h.object name)
          ∙ sym (ap (find (λ x. same_name x.object name)) is);
    }
  where
    by : (name : ObjectName) (b : Bool) → onward (cond b (Some n) (get name_cmp old name)) (slice_get hs) ≡ cond b (Some h) (find (λ x. same_name x.object name) rest)
    by name true = here
    by name false = f.each name

pub finds_step : (old new : BTreeMap ObjectName ℕ) (hs : List History) (b : ℕ) (h : History) → b < length hs → h ≡ slice_index_or hs (length hs - 1 - b) h
    → ((q : ObjectName) → get name_cmp new q ≡ cond (is_eq (name_cmp h.object q)) (Some (length hs - 1 - b)) (get name_cmp old q))
    → Finds old hs (drop (length hs - b) hs) → Finds new hs (drop (length hs - (b + 1)) hs)
finds_step old new hs b h under is updates f =
    let below : length hs - 1 - b < length hs = omega (arith, under) in
    let last : length hs - (b + 1) ≡ length hs - 1 - b = omega (arith, under) in
    let next : length hs - 1 - b + 1 ≡ length hs - b = omega (arith, under) in
    finds_more old new hs (drop (length hs - b) hs) (drop (length hs - (b + 1)) hs) (length hs - 1 - b) h (slice_get_read hs (length hs) (length hs - 1 - b) h refl below is)
    (ap (λ n. drop n hs) last ∙ drop_more hs (length hs - 1 - b) h below ∙ (λ i. sym is i ∷ drop (next i) hs))
    updates f
