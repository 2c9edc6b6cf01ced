-- What is high for a secrecy category and a list of trusted hosts: all that may know what the category protects, on
-- hosts that may know it. What is high stays high: ownership isn't lost, and a category leaves a label only where it
-- is owned.
use Rattle.std.specs.Prelude.{◌≡◌, ℕ, zero, suc, Bool, true, false, ◌&&◌, ◌||◌, ◌==◌, List, Option, Some, None, length, slice_get}
use Rattle.ds_label.specs.declared.category.PubKey.{PubKey}
use Rattle.ds_label.specs.declared.category.Category.{Category}
use Rattle.std.specs.List.{list_any}
use Rattle.ds_label.specs.Flow.{has}
use Rattle.ds_label.specs.Names.{by_name}
use Rattle.ds_model.specs.Keys.{same_key}
use Rattle.ds_model.specs.Plan.{HostPlan, Plan, Source, Link, OfLane, host_plan, conn_plan, box_plan, lane_plan, inlet_name}
use Rattle.ds_model.specs.World.{Process}

-- whether a host is among the trusted ones
abbrev pub is_in : List ℕ → ℕ → Bool
is_in trusted h = list_any (λ g. g == h) trusted

-- a process, on a trusted host (t), with the category in its label or ownership
abbrev pub high_proc : Category → (t : Bool) → Process → Bool
high_proc c t x = t && (has by_name c x.label || has by_name c x.own)

-- a process that may not be there
abbrev pub high_at : Category → (t : Bool) → Option Process → Bool
high_at c t None = false
high_at c t (Some x) = high_proc c t x

-- a mailbox, on a trusted host (t), with the category in its label, or whose process is high
abbrev pub high_box : Category → (t : Bool) → HostPlan → List Process → (box : ℕ) → Bool
high_box c t plan procs b = t && (has by_name c (box_plan plan b).label || high_at c t (slice_get procs (box_plan plan b).owner))

-- a lane from a trusted host with the category in its label
abbrev pub high_lane : Category → List ℕ → Plan → (host lane : ℕ) → Bool
high_lane c trusted plan h l = is_in trusted h && has by_name c (lane_plan (host_plan plan h) l).cert.label

-- the connection of a high lane, where it leads to a trusted host
abbrev pub high_source : Category → List ℕ → Plan → (receiver : ℕ) → Source → Bool
high_source c trusted plan r Link = false
high_source c trusted plan r (OfLane h l) = high_lane c trusted plan h l && is_in trusted r

-- connection k
abbrev pub high_conn : Category → List ℕ → Plan → (conn : ℕ) → Bool
high_conn c trusted plan k = high_source c trusted plan (conn_plan plan k).host (conn_plan plan k).source

-- one of the first so many places passes
abbrev pub some_place : (ℕ → Bool) → ℕ → Bool
some_place test zero = false
some_place test (suc n) = test n || some_place test n

-- inlet i of host r counts the frames of lane l of host h, which leads to r
abbrev pub counts_lane : Plan → (r i h l : ℕ) → Bool
counts_lane plan r i h l =
    same_key (lane_plan (host_plan plan h) l).cert.receiver (host_plan plan r).key
    && (same_key (lane_plan (host_plan plan h) l).cert.exporter (inlet_name (host_plan plan r) i).exporter
    && ((lane_plan (host_plan plan h) l).cert.lane == (inlet_name (host_plan plan r) i).lane))

-- an inlet of a trusted host that counts the frames of a high lane to it
abbrev pub high_inlet : Category → List ℕ → Plan → (host inlet : ℕ) → Bool
high_inlet c trusted plan r i =
    is_in trusted r
    && some_place (λ h. some_place (λ l. high_lane c trusted plan h l && counts_lane plan r i h l) (length (host_plan plan h).lanes)) (length plan.hosts)

-- whether a key is that of a trusted host
abbrev pub trusted_key : List ℕ → Plan → PubKey → Bool
trusted_key trusted plan key = list_any (λ h. same_key (host_plan plan h).key key) trusted

-- the key is that of a trusted host
abbrev pub IsTrusted : List ℕ → Plan → PubKey → Type 0
IsTrusted trusted plan key = trusted_key trusted plan key ≡ true
