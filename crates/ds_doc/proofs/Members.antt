-- Whether an object has a member of a name.
use Rattle.std.proofs.Common.{◌≡◌, List, [], ◌∷◌, ℕ, ◌||◌, ◌&&◌, map, refl, ap, Bor, String, Global, string_bytes, Bool, true, false, Some, None, if◌then◌else◌, sym, unwrap_or}
use Rattle.std.specs.List.{list_all, list_any}
use Rattle.serde_json.specs.declared.value.Value.{Value}
use Rattle.serde_json.specs.Data.{Data, null, boolean, string, array, object, Members, no_members}
use Rattle.serde_json.specs.Find.{as_object}
use Rattle.serde_json.specs.Data as json
use Rattle.serde_json.specs.View.{members_view}
use Rattle.ds_doc.specs.Places.{◌⊕◌, size, same_text, member_from, member_at}
use Rattle.ds_doc.specs.Shapes.{has, has_all, has_some}

pub has_key : (ms : List (String Global × Value)) (name : List ℕ) → has (members_view ms) name ≡ list_any (λ k. same_text (string_bytes k) name) (map (λ e. e.0) ms)
has_key [] name = refl
has_key (m ∷ ms) name = ap (λ b. same_text (string_bytes m.0) name || b) (has_key ms name)

pub all_names : (ms : Members) (names : List (Bor (List ℕ))) → has_all ms (map (λ n. n.now) names) ≡ list_all (λ n. has ms n.now) names
all_names ms [] = refl
all_names ms (n ∷ ns) = ap (λ b. has ms n.now && b) (all_names ms ns)

pub some_names : (ms : Members) (names : List (Bor (List ℕ))) → has_some ms (map (λ n. n.now) names) ≡ list_any (λ n. has ms n.now) names
some_names ms [] = refl
some_names ms (n ∷ ns) = ap (λ b. has ms n.now || b) (some_names ms ns)

unlisted_by : (b : Bool) (name : List ℕ) (at : ℕ) (k : List ℕ) (d : Data) (ms : Members) → same_text k name ≡ b → (b || has ms name) ≡ false → (has ms name ≡ false → member_from name (at ⊕ size d) ms ≡ None)
    → (if b then Some (record { at = at; value = d }) else member_from name (at ⊕ size d) ms) ≡ None
unlisted_by true name at k d ms e h rest = absurd cc
unlisted_by false name at k d ms e h rest = rest h

-- an object without a member of that name
pub unlisted : (name : List ℕ) (at : ℕ) (ms : Members) → has ms name ≡ false → member_from name at ms ≡ None
unlisted name at no_members h = refl
unlisted name at (json.member k d ms) h = unlisted_by (same_text k name) name at k d ms refl h (unlisted name (at ⊕ size d) ms)

-- a value that is an object without a member of that name
pub unlisted_in : (name : List ℕ) (at : ℕ) (d : Data) (ms : Members) → Some ms ≡ as_object d → has ms name ≡ false → None ≡ member_at name at d
unlisted_in name at null ms e h = refl
unlisted_in name at (boolean b) ms e h = refl
unlisted_in name at (json.number n) ms e h = refl
unlisted_in name at (string s) ms e h = refl
unlisted_in name at (array ds) ms e h = refl
unlisted_in name at (object ns) ms e h =
    let same : ms ≡ ns = ap (λ o. unwrap_or o ms) e in
    sym (unlisted name (at ⊕ 1) ns (rw same at h))
