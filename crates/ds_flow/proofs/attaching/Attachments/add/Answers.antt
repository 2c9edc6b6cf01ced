use Rattle.std.proofs.Common.{◌≡◌, false, sym, subst, ◌∙◌, arith}
use Rattle.ds_wire.specs.Fields.{IsBytes}
use Rattle.ds_msg.specs.Ranges.{is_among}
use Rattle.ds_flow.specs.Carried.{MayCarry}
use Rattle.ds_flow.proofs.Carries.{carries_push}
use Rattle.ds_flow.proofs.attaching.Attachments.add.Goals as goal

pub invariant_of-self : goal.invariant_of-self
invariant_of-self c = subst MayCarry (sym c.in_err-push.ensures.err) c.self.invariant

pub invariant_of-self-2 : goal.invariant_of-self-2
invariant_of-self-2 c =
    let spelled : c.as_slice-2.result.now ≡ c.in_ok-spelled.spelled = c.as_slice-2.ensures in
    let bytes : IsBytes c.in_ok-spelled.spelled = subst IsBytes c.as_slice.ensures c.show_bytes.ensures in
    let other : is_among c.in_ok-spelled.spelled c.self.inside.certs ≡ false = rw spelled at (sym c.has.ensures ∙ c.if-has.false) in
    rw c.in_ok-push.ensures.ok (carries_push c.self.inside.certs c.args.cert.now c.in_ok-spelled.spelled c.self.invariant c.show_fits.ensures c.in_ok-spelled.ensures bytes other (omega (arith, c.len.ensures.count, c.if-len-ge-ATTACH_LIMIT.false)))
