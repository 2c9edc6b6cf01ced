-- What a process shows of its fields, and what these keep.
use Rattle.std.specs.Prelude.{◌≤◌, ◌-◌, ◌/◌, min, length, vec_len, vec_capacity}
use Rattle.ds_script.specs.declared.process.Proc.TheInside.{Inside}
use Rattle.ds_script.specs.Fits.{IsScript}
use Rattle.ds_script.specs.Names.{AreApart}
use Rattle.ds_script.specs.Process.{ProcView}

abbrev pub view_of : Inside → ProcView
view_of p = record {
  process = record { script = p.script; course = p.course.course; label = p.label; own = p.own; clear = p.clear; names = p.names.items; made = p.made };
  room = min 1 (min p.course.room (vec_capacity p.names - vec_len p.names));
  spare = min 1 (min (vec_capacity p.own_room / 64) (vec_capacity p.clear_room / 64));
}

pub record IsSound (p : Inside) : Type 0 where
  pub fits : IsScript p.script
  pub within : p.course.course.place ≤ length p.script
  pub apart : AreApart p.names.items
