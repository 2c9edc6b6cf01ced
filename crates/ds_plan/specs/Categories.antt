-- Which categories there are when a document's hosts start.
use Rattle.std.specs.Prelude.{ℕ, suc, ◌/◌, ◌%◌, ◌^◌, List, [], ◌∷◌, length, map, slice_get, Bool, true, false, ◌&&◌, nat_le, nat_lt, if◌then◌else◌, Option, Some, None}
use Rattle.ds_label.specs.declared.category.PubKey.{PubKey}
use Rattle.ds_label.specs.declared.category.Category.{Category}
use Rattle.ds_plan.specs.declared.host.HostSpec.{HostSpec}
use Rattle.ds_plan.specs.declared.host.Secret.{Secret}
use Rattle.ds_plan.specs.declared.host.Secret.TheVariants.{Seed, Key}
use Rattle.ds_plan.specs.declared.maker.Maker.{Maker}
use Rattle.ds_plan.specs.declared.maker.Maker.TheVariants.{Anything, Processes}
use Rattle.ds_plan.specs.Keys.{same_key}

-- where a category comes from: its creator's place among the hosts, which of the creator's processes made it, and as which of
-- that process's categories
pub record Origin : Type 0 where
  pub host : ℕ
  pub process : ℕ
  pub number : ℕ

-- the place of the first host with that key; where there is none, the number of hosts
abbrev pub place_of_key : List PubKey → PubKey → ℕ
place_of_key [] key = 0
place_of_key (k ∷ keys) key = if same_key k key then 0 else suc (place_of_key keys key)

-- a category of process P with number N there has the number P * 2^32 + N
abbrev pub origin : List PubKey → Category → Origin
origin keys c = record { host = place_of_key keys c.creator; process = c.number / 2 ^ 32; number = c.number % 2 ^ 32 }

-- a silent host may have made any category, a running one so many with each of its processes
abbrev pub maker : Secret → List ℕ → Maker
maker (Seed secret) made = Processes made
maker (Key key) made = Anything

-- whether the host runs
abbrev pub runs : Option Maker → Bool
runs None = false
runs (Some Anything) = false
runs (Some (Processes made)) = true

abbrev pub host_maker : HostSpec → Maker
host_maker h = maker h.secret (map (λ p. p.made) h.procs)

abbrev pub is_place : {A : Type 0} → ℕ → List A → Bool
is_place place items = nat_lt place (length items)

-- what a category's name keeps
abbrev pub is_in_range : Origin → Bool
is_in_range o = nat_le o.process 1000000 && nat_le o.number 2147483647

-- the category is of a host of the document, and of one of its processes where it runs
abbrev pub has_maker : Origin → Option Maker → Bool
has_maker o None = false
has_maker o (Some Anything) = true
has_maker o (Some (Processes made)) = is_place o.process made

abbrev pub is_known : List Maker → Origin → Bool
is_known makers o = is_in_range o && has_maker o (slice_get makers o.host)

abbrev pub is_below : ℕ → Option ℕ → Bool
is_below number None = true
is_below number (Some made) = nat_lt number made

-- the process that made it has made so many
abbrev pub made_by : Origin → Option Maker → Bool
made_by o None = true
made_by o (Some Anything) = true
made_by o (Some (Processes made)) = is_below o.number (slice_get made o.process)

-- the category isn't one that a running host's process is still to make
abbrev pub is_made : List Maker → Origin → Bool
is_made makers o = made_by o (slice_get makers o.host)
