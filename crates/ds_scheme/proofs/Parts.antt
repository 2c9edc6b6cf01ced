-- The scheme's functions are those of the parts of a host.
use Rattle.std.proofs.Common.{◌≡◌, ℕ, List, [], ◌∷◌, map, Option, Some, None, refl, sym, ap, ◌∙◌, false}
use Rattle.std.specs.Prelude.{Result, Ok, Err, filter_map, slice_get, option_map, nat_lt, is_some}
use Rattle.std.proofs.lemmas.Option.{slice_get-map}
use Rattle.lms_sig.specs.Keys.{Key}
use Rattle.lms_state.specs.Signers.{Signing, leaves_of, next_signature}
use Rattle.ds_label.specs.declared.category.PubKey.{PubKey}
use Rattle.ds_label.specs.declared.category.Category.{Category}
use Rattle.ds_cert.specs.declared.delegation.Delegation.{Delegation}
use Rattle.ds_msg.specs.declared.message.Message.{Message}
use Rattle.ds_frame.specs.Spelling.{part_of_frame, spelling_of_frame}
use Rattle.ds_chain.specs.declared.edge.Edge.{Edge}
use Rattle.ds_chain.specs.Chain.{LeadsTo}
use Rattle.ds_chain.specs.Delegated.{hop_of, hops_of_list, chain_to}
use Rattle.ds_chain.specs.Keys.{same_key}
use Rattle.ds_chain.proofs.Numbered.{same_key_is}
use Rattle.ds_chain.proofs.Shortest.{shortest_given, holds_given}
use Rattle.ds_cert.specs.declared.cert.Cert.{Cert}
use Rattle.ds_cert.specs.Reading.{read_cert}
use Rattle.ds_desk.specs.Signing.{signing_of, if_read}
use Rattle.ds_desk.proofs.Grows.{key_again}
use Rattle.ds_lane.specs.declared.batch.Waiting.{Waiting}
use Rattle.ds_lane.specs.Workers.{spelled, bodies_of as hand_bodies, frame_of as hand_frame}
use Rattle.ds_scheme.specs.StandingFrames.{bodies_of}
use Rattle.ds_flow.specs.Chains.{delegations_at, flow_scheme, if_read as flow_read}
use Rattle.ds_scheme.specs.TheScheme.{frame_of, scheme}

abbrev messages_in : List Waiting → List Message
messages_in hand = map (λ w. w.message) hand

same_bytes : (hand : List Waiting) → bodies_of (messages_in hand) ≡ hand_bodies hand
same_bytes [] = refl
same_bytes (w ∷ hand) = ap (λ (bodies : List (List ℕ)). spelled w ∷ bodies) (same_bytes hand)

pub same_frame : (s : Signing) (hand : List Waiting) → scheme.frame (signing_of s.key) s.next (messages_in hand) ≡ hand_frame s hand
same_frame s hand =
    ap (λ (key : Key). frame_of (record { key = key; next = s.next }) (messages_in hand)) (key_again s.key)
    ∙ ap (λ (bodies : List (List ℕ)). spelling_of_frame s.next bodies (next_signature s (part_of_frame s.next bodies))) (same_bytes hand)

pub same_leaf : (key : Key) (leaf : ℕ) → scheme.has_leaf (signing_of key) leaf ≡ nat_lt leaf (leaves_of key)
same_leaf key leaf = ap (λ (k : Key). nat_lt leaf (leaves_of k)) (key_again key)

pub same_lane_leaf : (key : Key) (leaf : ℕ) → scheme.has_lane_leaf (signing_of key) leaf ≡ nat_lt leaf (leaves_of key)
same_lane_leaf key leaf = ap (λ (k : Key). nat_lt leaf (leaves_of k)) (key_again key)

-- what was read, in the words of judgements and of the desk
same_read : (r : Result Cert ℕ) → flow_read r ≡ if_read r
same_read (Ok cert) = refl
same_read (Err place) = refl

pub same_flow : flow_scheme scheme ≡ scheme
same_flow i = record scheme { read_cert = λ bytes. same_read (read_cert bytes) i }

-- ---- chains

some_there : (certs : List Delegation) (moment : ℕ) (category : Category) (place : ℕ) (edge : Edge PubKey) → slice_get (hops_of_list moment category certs) place ≡ Some (Some edge) → (d : Delegation) × (slice_get certs place ≡ Some d)
some_there certs moment category place edge e = go (slice_get certs place) refl (sym (slice_get-map (hop_of moment category) certs place) ∙ e)
  where
    go : (o : Option Delegation) → slice_get certs place ≡ o → option_map (hop_of moment category) o ≡ Some (Some edge) → (d : Delegation) × (slice_get certs place ≡ Some d)
    go (Some d) f g = (d, f)
    go None f g = absurd cc

at_places : (certs : List Delegation) (moment : ℕ) (category : Category) (from : PubKey) (places : List ℕ) (key : PubKey) → LeadsTo (hops_of_list moment category certs) from places key → map Some (filter_map (slice_get certs) places) ≡ map (slice_get certs) places
at_places certs moment category from [] key leads = refl
at_places certs moment category from (place ∷ places) key (next, edge, leads) =
    let s = some_there certs moment category place (record { by = from; to = next }) edge in
    let later = at_places certs moment category next places key leads in
    rw s.1 (ap (λ (l : List (Option Delegation)). Some s.0 ∷ l) later)

pub chain_places : (certs : List Delegation) (moment : ℕ) (category : Category) (key : PubKey) (places : List ℕ) → chain_to certs moment category key ≡ Some places → map Some (scheme.chain certs moment category key) ≡ map (slice_get certs) places
chain_places certs moment category key places e =
    ap (λ (o : Option (List ℕ)). map Some (delegations_at certs o)) e
    ∙ at_places certs moment category category.creator places key (shortest_given same_key same_key_is (hops_of_list moment category certs) key category.creator places e).leads

pub held_by_chain : (certs : List Delegation) (moment : ℕ) (category : Category) (key : PubKey) → scheme.holds certs moment category key ≡ is_some (chain_to certs moment category key)
held_by_chain certs moment category key = holds_given same_key same_key_is (hops_of_list moment category certs) key category.creator

pub no_chain : (certs : List Delegation) (moment : ℕ) (category : Category) (key : PubKey) → scheme.holds certs moment category key ≡ false → scheme.chain certs moment category key ≡ []
no_chain certs moment category key e = go (chain_to certs moment category key) (sym (held_by_chain certs moment category key) ∙ e)
  where
    go : (o : Option (List ℕ)) → is_some o ≡ false → delegations_at certs o ≡ []
    go None f = refl
    go (Some places) f = absurd cc
