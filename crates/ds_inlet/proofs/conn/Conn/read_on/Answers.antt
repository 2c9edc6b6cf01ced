use Rattle.std.proofs.Common.{ℕ, ◌≤◌, ◌-◌, List, length, take, drop, subst}
use Rattle.std.proofs.lemmas.List.{take_rest}
use Rattle.ds_inlet.specs.ConnInside.{connection_of}
use Rattle.ds_inlet.specs.ItemInside.{seen_of}
use Rattle.ds_inlet.proofs.Accepting.{reads_ok, reads_broken}
use Rattle.ds_inlet.proofs.conn.Conn.read_on.Goals as goal

pub take_seen-requires-clause-so_far : goal.take_seen-requires-clause-so_far
take_seen-requires-clause-so_far c =
    let gives = rw (take_rest c.self.inside.bytes.items c.self.inside.at) at (rw c.deref.ensures.value at c.in-Ok.ensures.gives) in
    rw (← c.self.view_is) (reads_ok (connection_of c.self.inside) (seen_of c.in-Ok.seen, drop c.in-Ok.size (drop c.self.inside.at c.self.inside.bytes.items)) c.self.invariant.so_far c.in_default.is c.in_default-failure.is gives)

pub fail-requires-clause-among : goal.fail-requires-clause-among
fail-requires-clause-among c =
    let start = c.self.inside.at in
    let bytes = c.deref.result.now in
    let among : c.in-Err-Broken.offset ≤ length (take (length bytes - start) (drop start bytes)) = rw c.in-Err-Broken.field-0-is at c.in-Err-Broken.ensures.among in
    let left : c.in-Err-Broken.offset ≤ length (drop start bytes) = subst (λ (rest : List ℕ). c.in-Err-Broken.offset ≤ length rest) (take_rest bytes start) among in
    rw (← c.self.view_is) (subst (λ (all : List ℕ). c.in-Err-Broken.offset ≤ length (drop start all)) c.deref.ensures.value left)

pub fail-requires-clause-so_far : goal.fail-requires-clause-so_far
fail-requires-clause-so_far c =
    let gives = rw c.in-Err-Broken.field-0-is at (rw (take_rest c.self.inside.bytes.items c.self.inside.at) at (rw c.deref.ensures.value at c.in-Err-Broken.ensures.gives)) in
    rw (← c.self.view_is) (reads_broken (connection_of c.self.inside) c.in-Err-Broken.cause c.in-Err-Broken.offset c.self.invariant.so_far c.in_default.is c.in_default-failure.is gives)
