-- What the fields of a locked desk keep.
use Rattle.std.specs.Prelude.{◌≡◌}
use Rattle.ds_desk.specs.Desks.{IsKept, last_stamp}
use Rattle.ds_share.specs.declared.desk.LockedDesk.TheInside.{Inside}

pub record IsSound (l : Inside) : Type 0 where
  pub kept : IsKept l.state
  pub last : l.last ≡ last_stamp l.state
