-- The sections of a world's text without those of things that are high in that world. The first line and the hosts'
-- lines are never high.
use Rattle.std.specs.Prelude.{ℕ, Bool, false, List, Option, Some, None, slice_get}
use Rattle.ds_label.specs.declared.category.Category.{Category}
use Rattle.ds_model.specs.Plan.{Plan, host_plan}
use Rattle.ds_model.specs.World.{Host, World}
use Rattle.ds_model.specs.Views.{proc_at}
use Rattle.ds_model.specs.Text.{Format, Hiding, sections_of}
use Rattle.ds_noninterference.specs.High.{is_in, high_at, high_box, high_lane, high_inlet, high_conn}

-- a mailbox of a host that may not be there
abbrev pub high_box_in : Category → List ℕ → Plan → (host : ℕ) → Option Host → (box : ℕ) → Bool
high_box_in c trusted plan h None b = false
high_box_in c trusted plan h (Some x) b = high_box c (is_in trusted h) (host_plan plan h) x.procs b

-- what is high is left out
abbrev pub high_hidden : Category → List ℕ → Plan → World → Hiding
high_hidden c trusted plan w = record {
  proc = λ h p. high_at c (is_in trusted h) (proc_at w h p);
  box = λ h b. high_box_in c trusted plan h (slice_get w.hosts h) b;
  lane = high_lane c trusted plan;
  inlet = high_inlet c trusted plan;
  conn = high_conn c trusted plan;
}

-- the sections that are left
abbrev pub outside_sections : Format → Category → List ℕ → Plan → World → List (List ℕ)
outside_sections f c trusted plan w = sections_of f (high_hidden c trusted plan w) plan w
