use Rattle.std.proofs.Common.{◌≡◌, ◌++◌, [], ◌∷◌, ◌∙◌, take, arith}
use Rattle.std.specs.Int.{w8, w64, to_be_bytes}
use Rattle.lms_sig.proofs.Pieces.{front_all, front_more}
use Rattle.ds_cert.specs.Spelling.{spelling_of_category, signed_part_of_delegation}
use Rattle.ds_cert.proofs.Joins.{joined6}
use Rattle.ds_cert.proofs.delegation.Delegation.signed_array.Goals as goal

pub returns : goal.returns
unfolding signed_part_of_delegation
returns c =
    let self = c.args.self.now in
    let tag : take 1 c.put.new.out ≡ [] ++ 1 ∷ [] = c.put.ensures in
    let category = front_more _ c.put-2.new.out _ c.category_bytes.result 1 66 tag (omega arith) c.put-2.ensures in
    let to = front_more _ c.put-3.new.out _ self.to.0 66 122 category (omega arith) c.put-3.ensures in
    let from = front_more _ c.put-4.new.out _ c.to_be_bytes.result 122 130 to (omega arith) c.put-4.ensures in
    let until = front_more _ c.put-5.new.out _ c.to_be_bytes-2.result 130 138 from (omega arith) c.put-5.ensures in
    let by = front_more _ c.put-6.new.out _ self.by.0 138 194 until (omega arith) c.put-6.ensures in
    front_all _ _ 194 (omega arith) by
    ∙ rw (c.category_bytes.ensures, c.to_be_bytes.ensures, c.to_be_bytes-2.ensures)
    (joined6 (to_be_bytes w8 1) (spelling_of_category self.category) self.to.0 (to_be_bytes w64 self.from) (to_be_bytes w64 self.until) self.by.0)
