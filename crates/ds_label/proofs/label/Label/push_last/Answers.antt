use Rattle.std.proofs.Common.{◌≡◌, ◌<◌, true, None, length, arith, ap}
use Rattle.ds_label.specs.Flow.{is_above, last_of}
use Rattle.ds_label.specs.Names.{by_name}
use Rattle.ds_label.proofs.Namings.{names}
use Rattle.ds_label.proofs.Members.{ended}
use Rattle.ds_label.proofs.label.Label.push_last.Goals as goal

pub invariant_of-self-2 : goal.invariant_of-self-2
invariant_of-self-2 c =
    let old = c.self.inside.members.items in
    let above : is_above by_name c.args.member (last_of None old) ≡ true = rw c.self.view_is c.requires.order in
    let few : length old < 64 = omega (arith, ap length c.self.view_is, c.requires.room) in
    ended by_name names old c.push.new.self.items c.args.member c.self.invariant.0 few above c.in_ok-push.ensures.items
