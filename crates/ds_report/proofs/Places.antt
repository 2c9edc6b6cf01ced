-- Names by places.
use Rattle.std.proofs.Common.{◌≡◌, ℕ, zero, suc, List, [], ◌∷◌, ◌++◌, Option, Some, None, Bool, true, false, refl, sym, ap, ◌∙◌, map, flat_map, get_or, slice_get, position, append_assoc}
use Rattle.ds_label.specs.declared.category.PubKey.{PubKey}
use Rattle.ds_label.specs.declared.category.Category.{Category}
use Rattle.ds_model.specs.Keys.{same_key}
use Rattle.ds_model.specs.Plan.{Plan, HostSetup, HostPlan, host_plan}
use Rattle.ds_exporter.specs.HostStates.{HostState}
use Rattle.ds_exporter.specs.PlainHosts.{site_of}
use Rattle.ds_model.specs.Print.{Printing, host_name, category_text, with_commas}
use Rattle.ds_plan.specs.declared.doc.Doc.{Doc}
use Rattle.ds_plan.specs.declared.host.HostSpec.{HostSpec}
use Rattle.ds_plan.specs.Keys.{host_key, host_keys}
use Rattle.ds_setup.specs.Lists.{each}
use Rattle.ds_setup.specs.Plans.{plan_of, host_setup_of}
use Rattle.ds_report.specs.Printings.{printing_of, planned, name_of}
use Rattle.std.proofs.lemmas.List.{append-nil}
use Rattle.ds_exporter.proofs.Queues.{position_seen}
use Rattle.ds_model.specs.Print.{label_text}
use Rattle.ds_report.specs.Words.{behind_comma, members_behind, label_with}

-- the name at a place
name_in : (hosts : List HostSpec) (n : ℕ) (h : HostSpec) → slice_get hosts n ≡ Some h → get_or (map name_of hosts) n [] ≡ h.name
name_in [] n h e = absurd cc
name_in (x ∷ xs) zero h e = let same : Some x ≡ Some h = e in cc
name_in (x ∷ xs) (suc n) h e = name_in xs n h e

pub name_here : (d : Doc) (n : ℕ) (h : HostSpec) → slice_get d.hosts n ≡ Some h → host_name (printing_of d) (planned d) n ≡ h.name
unfolding printing_of
name_here d n h e = name_in d.hosts n h e

none_in : (hosts : List HostSpec) (n : ℕ) → slice_get hosts n ≡ None → get_or (map name_of hosts) n [] ≡ []
none_in [] n e = refl
none_in (x ∷ xs) zero e = let same : Some x ≡ None = e in absurd cc
none_in (x ∷ xs) (suc n) e = none_in xs n e

pub no_name : (d : Doc) (n : ℕ) → slice_get d.hosts n ≡ None → host_name (printing_of d) (planned d) n ≡ []
unfolding printing_of
no_name d n e = none_in d.hosts n e

abbrev key_of_setup : HostSetup → PubKey
key_of_setup x = x.key

-- the keys of a plan's hosts
keys_by : (hosts : List HostSpec) (f : ℕ → HostSpec → HostSetup) → ((i : ℕ) (h : HostSpec) → (f i h).key ≡ host_key h) → (xs : List HostSpec) → map key_of_setup (each f xs) ≡ map host_key xs
keys_by hosts f same [] = refl
keys_by hosts f same (x ∷ xs) = λ i. same 0 x i ∷ keys_by hosts (λ j. f (suc j)) (λ j h. same (suc j) h) xs i

-- the place of a key among a document's hosts

pub key_place : (d : Doc) (keys : List PubKey) (key : PubKey) → keys ≡ host_keys d.hosts
    → position (λ (k : PubKey). same_key k key) keys ≡ position (λ (x : HostSetup). same_key x.key key) (planned d).hosts
unfolding planned
key_place d keys key e =
    ap (position (λ (k : PubKey). same_key k key)) (e ∙ sym (keys_by d.hosts (host_setup_of d.hosts) (λ i h. refl) d.hosts))
    ∙ sym (position_seen key_of_setup (λ (k : PubKey). same_key k key) (each (host_setup_of d.hosts) d.hosts))

-- categories with commas between: the first, and each other one behind a comma
pub commas : (p : Printing) (plan : Plan) (c : Category) (members : List Category)
    → with_commas (map (category_text p plan) (c ∷ members)) ≡ category_text p plan c ++ members_behind p plan members
unfolding behind_comma
commas p plan c [] = sym (append-nil (category_text p plan c))
commas p plan c (x ∷ xs) = ap (λ more. category_text p plan c ++ 44 ∷ more) (commas p plan x xs)

pub label_pieces : (p : Printing) (plan : Plan) (c : Category) (members : List Category) → label_text p plan (c ∷ members) ≡ label_with p plan c members
label_pieces p plan c members = ap (λ text. 123 ∷ (text ++ 125 ∷ [])) (commas p plan c members) ∙ ap (λ text. 123 ∷ text) (append_assoc (category_text p plan c) (members_behind p plan members) (125 ∷ []))

-- the keys that a host's plan has
pub keys_of_plan : (d : Doc) (h : ℕ) (e : HostState) → site_of e ≡ host_plan (plan_of d) h → e.keys ≡ host_keys d.hosts
keys_of_plan d h e site = ap (λ (q : HostPlan). q.keys) site ∙ keys_by d.hosts (host_setup_of d.hosts) (λ i x. refl) d.hosts
