use Rattle.std.proofs.Common.{◌+◌, ℕ, List, length, sym, arith}
use Rattle.std.proofs.lemmas.List.{length-take-le}
use Rattle.ds_frame.specs.Spelling.{OuterFrame}
use Rattle.ds_frame.proofs.OuterLaws.{IsPart, signed_part}
use Rattle.ds_frame.proofs.reading.frame_of.Goals as goal

abbrev outer : List ℕ → ℕ → ℕ → List ℕ → OuterFrame
outer signature number messages body = record { number = number; messages = messages; body = body; signature = signature }

pub overflow_add-part : goal.overflow_add-part
overflow_add-part c =
    let f = c.in_ok-fields.fields in
    let p : IsPart c.args.bytes.now (outer f.3.now f.0 f.1 f.2.now) = signed_part c.args.bytes.now (outer f.3.now f.0 f.1 f.2.now) c.in_ok-fields.rest.now (λ i. omega (arith, c.type_inv.bytes i)) c.in_ok-fields.ensures.gives in
    omega (arith, p.most)

pub slice_bounds-part-end : goal.slice_bounds-part-end
slice_bounds-part-end c =
    let f = c.in_ok-fields.fields in
    let p : IsPart c.args.bytes.now (outer f.3.now f.0 f.1 f.2.now) = signed_part c.args.bytes.now (outer f.3.now f.0 f.1 f.2.now) c.in_ok-fields.rest.now (λ i. omega (arith, c.type_inv.bytes i)) c.in_ok-fields.ensures.gives in
    sym (length-take-le (11 + length f.2.now) c.args.bytes.now p.inside)

pub checked_frame-requires-clause-part : goal.checked_frame-requires-clause-part
checked_frame-requires-clause-part c =
    let f = c.in_ok-fields.fields in
    (signed_part c.args.bytes.now (outer f.3.now f.0 f.1 f.2.now) c.in_ok-fields.rest.now (λ i. omega (arith, c.type_inv.bytes i)) c.in_ok-fields.ensures.gives).front
