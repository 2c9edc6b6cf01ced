-- Which messages, and which lanes of a plan, have a spelling.
use Rattle.std.specs.Prelude.{◌^◌, ℕ, Bool, true, ◌&&◌, ◌==◌, not, nat_lt, nat_le, List, [], ◌∷◌, length, Some, bytes_eq}
use Rattle.std.specs.List.{list_all}
use Rattle.ds_label.specs.declared.category.PubKey.{PubKey}
use Rattle.ds_label.specs.declared.category.Category.{Category}
use Rattle.ds_label.specs.Flow.{is_above}
use Rattle.ds_label.specs.Names.{by_name}
use Rattle.ds_cert.specs.Ranges.{LaneCertFits}
use Rattle.ds_cert.specs.Reading.{read_delegation}
use Rattle.ds_msg.specs.declared.message.Message.{Message}
use Rattle.ds_msg.specs.Reading.{is_read}
use Rattle.ds_model.specs.Plan.{Plan, IsLane, host_plan, lane_plan}

abbrev pub is_key : PubKey → Bool
is_key key = length key.0 == 56

abbrev pub is_category : Category → Bool
is_category c = is_key c.creator && nat_lt c.number (2 ^ 64)

-- each category is below those after it
abbrev pub are_rising : List Category → Bool
are_rising [] = true
are_rising (c ∷ members) = list_all (λ d. is_above by_name d (Some c)) members && are_rising members

abbrev pub is_label : List Category → Bool
is_label members = nat_le (length members) 64 && (list_all is_category members && are_rising members)

-- bytes, which are read as a delegation
abbrev pub spells_delegation : List ℕ → Bool
spells_delegation bytes = list_all (λ b. nat_lt b 256) bytes && is_read (read_delegation bytes)

-- none stands twice
abbrev pub are_distinct : List (List ℕ) → Bool
are_distinct [] = true
are_distinct (bytes ∷ later) = list_all (λ other. not (bytes_eq bytes other)) later && are_distinct later

abbrev pub are_certs : List (List ℕ) → Bool
are_certs certs = nat_le (length certs) 16 && (list_all spells_delegation certs && are_distinct certs)

-- whether the message has a spelling
abbrev pub has_spelling : Message → Bool
has_spelling m =
    is_key m.to
    && (nat_lt m.slot (2 ^ 32)
    && (is_label m.label
    && (is_label m.own
    && (is_label m.clear
    && (are_certs m.certs
    && nat_le (length m.payload) 16384)))))

-- the certificate of each lane of the plan has a spelling
abbrev pub HasSpelledLanes : Plan → Type 0
HasSpelledLanes plan = (h l : ℕ) → IsLane plan h l → LaneCertFits (lane_plan (host_plan plan h) l).cert
