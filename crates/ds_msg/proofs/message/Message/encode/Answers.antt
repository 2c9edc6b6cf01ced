use Rattle.std.proofs.Common.{◌≡◌, ◌≤◌, ℕ, List, length, sym, subst}
use Rattle.std.specs.Int.{w8, w32, to_be_bytes}
use Rattle.ds_cert.specs.Spelling.{spelling_of_label}
use Rattle.ds_cert.proofs.Joins.{joined8}
use Rattle.ds_msg.specs.Spelling.{spelling_of_certs, spelling_of_payload, spelling_of_message}
use Rattle.ds_msg.proofs.CertLaws.{are_short}
use Rattle.ds_msg.proofs.Places.{message_length}
use Rattle.ds_msg.proofs.message.Message.encode.Goals as goal

pub append_certs-requires : goal.append_certs-requires
append_certs-requires c = are_short c.args.self.now.certs c.requires.certs.each

pub returns : goal.returns
unfolding spelling_of_message
returns c =
    let self = c.args.self.now in
    let spelled : c.append_payload.new.out ≡ spelling_of_message self =
    rw (c.in_ok-append_payload.ensures, c.in_ok-append_certs.ensures, c.in_ok-append_label-3.ensures, c.in_ok-append_label-2.ensures, c.in_ok-append_label.ensures, c.in_ok-put_u32.ensures.ok, c.in_ok-append.ensures.ok, c.in_ok-put_u8.ensures.ok, c.in_ok-out.ensures)
    (joined8 (to_be_bytes w8 6) self.to.0 (to_be_bytes w32 self.slot) (spelling_of_label self.label) (spelling_of_label self.own) (spelling_of_label self.clear) (spelling_of_certs self.certs) (spelling_of_payload self.payload)) in
    record { spelled = spelled; short = subst (λ (b : List ℕ). length b ≤ 72229) (sym spelled) (message_length self c.show_fits.ensures) }
