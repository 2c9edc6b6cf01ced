use Rattle.std.proofs.Common.{◌≡◌, ◌+◌, ◌≤◌, ℕ, true, false, List, length, drop, get_or, sym, ap, ◌∙◌, arith}
use Rattle.std.proofs.Math.ListN.{drop_of_length-le}
use Rattle.std.specs.Prelude.{nat_le}
use Rattle.std.proofs.lemmas.Bool.Decides.{nat_tests}
use Rattle.ds_label.specs.Flow.{union, with_member}
use Rattle.ds_label.specs.Numbers.{by_number}
use Rattle.ds_label.proofs.Namings.{numbers}
use Rattle.ds_label.proofs.Members.{union-step, union-none, length-union, IsRising-with_member}
use Rattle.ds_label.proofs.local_label.united.Goals as goal

few : (n : ℕ) → true ≡ nat_le n 64 → n ≤ 64
few n e = grind (arith, nat_tests)

many : (n m : ℕ) → false ≡ nat_le n 64 → n ≤ m → false ≡ nat_le m 64
many n m e le = grind (arith, nat_tests)

is_few : (n : ℕ) → n ≤ 64 → true ≡ nat_le n 64
is_few n le = grind (arith, nat_tests)

-- nothing is left of the second
whole : (first second all : List ℕ) (i : ℕ) → length second ≤ i → union by_number first (drop i second) ≡ all → first ≡ all
whole first second all i past rest =
    sym (union-none by_number numbers first) ∙ ap (union by_number first) (sym (drop_of_length-le second past)) ∙ rest

pub returns-then-not-add-clause-fits : goal.returns-then-not-add-clause-fits
returns-then-not-add-clause-fits c =
    let i = c.loop-member.member-index in
    let room = c.loop-member.room.items in
    let second = c.args.second.now in
    let next = union-step by_number numbers room second _ i 0 c.loop-member-test.true c.loop-member.invariant.rest in
    let more : length (with_member by_number (get_or second i 0) room) ≤ length (union by_number c.args.first.now second) = rw (← next) (length-union by_number numbers (with_member by_number (get_or second i 0) room) (drop (i + 1) second)) in
    many _ _ c.if-not-add.ensures.fits more

pub loop-member-preserved : goal.loop-member-preserved
loop-member-preserved c =
    let i = c.loop-member.member-index in
    let room = c.loop-member.room.items in
    let second = c.args.second.now in
    let next = union-step by_number numbers room second _ i 0 c.loop-member-test.true c.loop-member.invariant.rest in
    rw c.if-not-add.ensures.members (record {
      rest = next;
      rising = IsRising-with_member by_number numbers (get_or second i 0) room c.loop-member.invariant.rising;
      limit = few _ c.if-not-add.ensures.fits;
      capacity = c.if-not-add.ensures.room;
    })

pub returns-clause-union : goal.returns-clause-union
returns-clause-union c = whole c.loop-member.room.items c.args.second.now _ c.loop-member.member-index c.loop-member-test.false c.loop-member.invariant.rest

pub returns-clause-fits : goal.returns-clause-fits
returns-clause-fits c = rw (← returns-clause-union c) (is_few _ c.loop-member.invariant.limit)
