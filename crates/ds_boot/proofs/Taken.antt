-- Signers and lanes that are taken one after the other, and the hosts that begin with them.
use Rattle.std.proofs.Common.{◌≡◌, ℕ, zero, suc, ◌+◌, List, [], ◌∷◌, ◌++◌, length, map, get_or, Some, slice_get, option_map, sym, ◌∙◌, ap, subst, arith, ◌⊎◌, inl, inr}
use Rattle.std.specs.declared.alloc.Global.{Global}
use Rattle.std.specs.Prelude.{Vec}
use Rattle.std.proofs.lemmas.List.{length-map, map-append}
use Rattle.std.proofs.lemmas.Option.{none-some, same_Some, slice_get-map, get_or_from_slice_get}
use Rattle.ds_exporter.specs.declared.parts.LanePart.{LanePart}
use Rattle.ds_exporter.specs.HostStates.{HostLane}
use Rattle.ds_plan.specs.declared.doc.Doc.{Doc}
use Rattle.ds_plan.specs.declared.host.HostSpec.{HostSpec}
use Rattle.ds_setup.specs.Lists.{each}
use Rattle.ds_setup.proofs.Places.{each_at}
use Rattle.ds_setup.proofs.Numbers.{in_either}
use Rattle.ds_hosts.specs.declared.node.Node.{Node}
use Rattle.ds_hosts.specs.Nodes.{NodeState, node_of}
use Rattle.ds_boot.specs.Lanes.{lanes_of}
use Rattle.ds_boot.specs.Beginnings.{IsNodeBegun}

module _ {X Y : Type 0} (f : ℕ → X → Y) (xs : List X) where
  -- the one that is taken
  pub taken_is : (left : List Y) (i : ℕ) (d : Y) (x : X) → slice_get xs i ≡ Some x → slice_get left i ≡ slice_get (each f xs) i → get_or left i d ≡ f i x
  taken_is left i d x e same = get_or_from_slice_get left i (f i x) d (same ∙ (each_at f xs i ∙ ap (option_map (f i)) e))

pub lanes_are : (f : ℕ → HostSpec → List HostLane) (hosts : List HostSpec) (left : List (Vec LanePart Global)) (i : ℕ) (own : Vec LanePart Global) (h : HostSpec) → slice_get hosts i ≡ Some h → slice_get left i ≡ Some own →
    slice_get (map lanes_of left) i ≡ slice_get (each f hosts) i → lanes_of own ≡ f i h
lanes_are f hosts left i own h e at same =
    same_Some (lanes_of own) (f i h) (sym (slice_get-map lanes_of left i ∙ ap (option_map lanes_of) at) ∙ (same ∙ (each_at f hosts i ∙ ap (option_map (f i)) e)))

pub lanes_left : (old new : List (Vec LanePart Global)) (j : ℕ) → slice_get new j ≡ slice_get old j → slice_get (map lanes_of new) j ≡ slice_get (map lanes_of old) j
lanes_left old new j same = slice_get-map lanes_of new j ∙ (ap (option_map lanes_of) same ∙ sym (slice_get-map lanes_of old j))

module _ {X V Y : Type 0} (view : V → Y) (f : X → Y) where
  -- the part that is taken, of those that are seen as a list is
  pub part_is : (xs : List X) (left : List V) (i : ℕ) (own : V) (x : X) → slice_get xs i ≡ Some x → slice_get left i ≡ Some own → slice_get (map view left) i ≡ slice_get (map f xs) i → view own ≡ f x
  part_is xs left i own x e at same =
      same_Some (view own) (f x) (sym (slice_get-map view left i ∙ ap (option_map view) at) ∙ (same ∙ (slice_get-map f xs i ∙ ap (option_map f) e)))

  pub parts_left : (old new : List V) (j : ℕ) → slice_get new j ≡ slice_get old j → slice_get (map view new) j ≡ slice_get (map view old) j
  parts_left old new j same = slice_get-map view new j ∙ (ap (option_map view) same ∙ sym (slice_get-map view old j))

  -- there are as many
  pub part_count : (xs : List X) (parts : List V) → map view parts ≡ map f xs → length parts ≡ length xs
  part_count xs parts same = sym (length-map {B = Y} parts view) ∙ (ap (λ (ys : List Y). length ys) same ∙ length-map {B = Y} xs f)

-- one host more has begun
pub one_more_begun : (d : Doc) (at : ℕ) (nodes new : List Node) (host : HostSpec) (made : Node) → length nodes ≡ at → new ≡ nodes ++ made ∷ [] → slice_get d.hosts at ≡ Some host → IsNodeBegun d at host (node_of made) →
    ((place : ℕ) (h : HostSpec) (x : NodeState) → slice_get d.hosts place ≡ Some h → slice_get (map node_of nodes) place ≡ Some x → IsNodeBegun d place h x) →
    (place : ℕ) (h : HostSpec) (x : NodeState) → slice_get d.hosts place ≡ Some h → slice_get (map node_of new) place ≡ Some x → IsNodeBegun d place h x
one_more_begun d at nodes new host made count is there begun before place h x e q =
    go (in_either (map node_of nodes) (node_of made ∷ []) place x (subst (λ (xs : List NodeState). slice_get xs place ≡ Some x) (ap (λ (xs : List Node). map node_of xs) is ∙ map-append node_of nodes (made ∷ [])) q))
  where
    last : (i : ℕ) → place ≡ length (map node_of nodes) + i → slice_get (node_of made ∷ []) i ≡ Some x → IsNodeBegun d place h x
    last zero same here =
        let place_is : at ≡ place = omega (arith, same, count, length-map {B = NodeState} nodes node_of) in
        let host_is : host ≡ h = same_Some host h (sym there ∙ (ap (λ k. slice_get d.hosts k) place_is ∙ e)) in
        subst (λ k. IsNodeBegun d k h x) place_is (subst (λ (y : HostSpec). IsNodeBegun d at y x) host_is (subst (λ (y : NodeState). IsNodeBegun d at host y) (same_Some (node_of made) x here) begun))
    last (suc i) same here = absurd (none-some x here)

    go : (slice_get (map node_of nodes) place ≡ Some x) ⊎ ((i : ℕ) × (place ≡ length (map node_of nodes) + i) × (slice_get (node_of made ∷ []) i ≡ Some x)) → IsNodeBegun d place h x
    go (inl in_front) = before place h x e in_front
    go (inr (i, same, here)) = last i same here
