use Rattle.std.proofs.Common.{◌≡◌, ◌<◌, length, ap, arith}
use Rattle.std.proofs.lemmas.Grind.{common_steps}
use Rattle.std.specs.List.{insert}
use Rattle.ds_label.specs.Names.{by_name}
use Rattle.ds_label.proofs.Namings.{names}
use Rattle.ds_label.proofs.Members.{grown}
use Rattle.ds_label.proofs.label.Label.insert.Goals as goal

pub invariant_of-self-else-is_err : goal.invariant_of-self-else-is_err
invariant_of-self-else-is_err c =
    let old = c.self.inside.members.items in
    let items : c.insert.new.self.items ≡ insert old c.in-Some.place c.args.member = grind (arith, common_steps) in
    let few : length old < 64 = omega (arith, ap length c.as_slice.ensures.value, c.self.invariant.1) in
    grown by_name names old c.insert.new.self.items c.as_slice.result.now c.args.member c.in-Some.place c.self.invariant.0 few c.as_slice.ensures.value c.in-Some.ensures items
