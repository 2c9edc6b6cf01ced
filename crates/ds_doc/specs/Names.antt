-- Hosts and categories as a document names them.
use Rattle.std.specs.Prelude.{ℕ, ◌-◌, ◌^◌, List, [], Bool, false, ◌&&◌, ◌==◌, bytes_eq, Option, Some, None}
use Rattle.ds_label.specs.Names.{same_kind}
use Rattle.ds_plan.specs.Categories.{Origin}
use Rattle.ds_doc.specs.declared.draft.Placed.{Placed}
use Rattle.ds_doc.specs.declared.draft.HostName.{HostName}
use Rattle.ds_doc.specs.declared.draft.HostName.TheVariants.{Known, Unknown}
use Rattle.ds_doc.specs.declared.draft.CategoryName.{CategoryName}

-- the host's place; no host has the place of an unknown one
abbrev pub number_of : HostName → ℕ
number_of (Known place) = place
number_of (Unknown name) = 2 ^ 32 - 1

abbrev pub same_host : HostName → HostName → Bool
same_host (Known a) (Known b) = a == b
same_host (Unknown a) (Unknown b) = bytes_eq a b
same_host (Known a) (Unknown b) = false
same_host (Unknown a) (Known b) = false

abbrev pub origin_of : CategoryName → Origin
origin_of c = record { host = number_of c.host; process = c.process; number = c.number }

abbrev pub same_named : CategoryName → CategoryName → Bool
same_named a b =
    same_host a.host b.host && (a.process == b.process) && (a.number == b.number) && same_kind a.kind b.kind

-- the items of a list that is written; none where it isn't
abbrev pub or_empty : {A : Type 0} → Option (Placed (List A)) → List A
or_empty None = []
or_empty (Some list) = list.value
