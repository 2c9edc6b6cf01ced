use Rattle.std.proofs.Common.{◌≡◌, ◌+◌, ◌%◌, ◌++◌, [], ◌∷◌, ◌∙◌, length, take, arith, refl}
use Rattle.std.specs.Int.{w8, w64, to_be_bytes}
use Rattle.lms_sig.proofs.Pieces.{front_more}
use Rattle.ds_cert.specs.Spelling.{spelling_of_address_text, signed_part_of_address}
use Rattle.ds_cert.proofs.Joins.{filled_address, front_step}
use Rattle.ds_cert.proofs.address.Address.signed_array.Goals as goal

pub returns : goal.returns
unfolding signed_part_of_address spelling_of_address_text
returns c =
    let self = c.args.self.now in
    let size = length self.address in
    let low : size % 256 ≡ size = omega arith in
    let tag : take 1 c.put.new.out ≡ [] ++ 2 ∷ [] = c.put.ensures in
    let exporter = front_more _ c.put-2.new.out _ self.exporter.0 1 57 tag (omega arith) c.put-2.ensures in
    let count = front_step _ c.put-3.new.out _ (size ∷ []) (c.len.result ∷ []) 57 57 58 refl (cc) exporter (omega arith) c.put-3.ensures in
    let text = front_step _ c.put-4.new.out _ self.address c.as_slice.result.now 58 58 (58 + size) refl (cc) count (omega arith) c.put-4.ensures in
    let from = front_step _ c.put-5.new.out _ (to_be_bytes w64 self.from) c.to_be_bytes.result _ (58 + size) (66 + size) (omega arith) (cc) text (omega arith) c.put-5.ensures in
    let until = front_step _ c.put-6.new.out _ (to_be_bytes w64 self.until) c.to_be_bytes-2.result _ (66 + size) (74 + size) (omega arith) (cc) from (omega arith) c.put-6.ensures in
    until ∙ rw low (filled_address (to_be_bytes w8 2) self.exporter.0 (size ∷ []) self.address (to_be_bytes w64 self.from) (to_be_bytes w64 self.until))
