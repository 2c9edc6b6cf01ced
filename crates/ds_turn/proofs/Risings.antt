-- Records whose stamps rise.
use Rattle.std.proofs.Common.{◌≡◌, ◌<◌, true, List, [], ◌∷◌, ◌++◌, sym}
use Rattle.ds_script.specs.Replay.{last_of, rises}
use Rattle.ds_script.proofs.Replays.{last_of-push, rises-push}
use Rattle.ds_merge.specs.declared.recorded.Recorded.{Recorded}
use Rattle.ds_turn.specs.Records.{stamp_of}

pub risen : (es fs : List Recorded) (e : Recorded) → fs ≡ es ++ e ∷ [] → rises stamp_of 0 es ≡ true → last_of stamp_of 0 es < e.stamp
    → rises stamp_of 0 fs ≡ true
risen es fs e grew up later = rw grew (rises-push stamp_of 0 es e up later)

pub last_risen : (es fs : List Recorded) (e : Recorded) → fs ≡ es ++ e ∷ [] → e.stamp ≡ last_of stamp_of 0 fs
last_risen es fs e grew = rw grew (sym (last_of-push stamp_of 0 es e))
