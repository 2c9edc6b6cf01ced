use Rattle.std.proofs.Common.{refl}
use Rattle.std.specs.Prelude.{not}
use Rattle.ds_label.specs.Flow.{has, minus}
use Rattle.ds_label.specs.Numbers.{by_number}
use Rattle.ds_label.proofs.Namings.{numbers}
use Rattle.ds_label.proofs.Members.{kept}
use Rattle.ds_label.proofs.local_label.LocalLabel.minus.Goals as goal

pub invariant_of-result : goal.invariant_of-result
invariant_of-result c =
    let both = kept by_number numbers (λ m. not (has by_number m c.args.other.now)) c.self.inside.members.items c.self.invariant.0 c.self.invariant.1 in
    rw (c.in_ok-outside.ensures, c.as_slice.ensures.value) both

pub returns : goal.returns
unfolding minus
returns c = rw (c.in_ok-outside.ensures, c.as_slice.ensures.value, c.self.view_is) refl
