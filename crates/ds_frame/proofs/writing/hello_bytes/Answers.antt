use Rattle.std.proofs.Common.{refl, subst, sym, arith}
use Rattle.ds_frame.specs.Ranges.{HelloFits}
use Rattle.ds_frame.specs.Spelling.{outer_spelling_of_hello}
use Rattle.ds_frame.proofs.Lengths.{hello_fits}
use Rattle.ds_frame.proofs.writing.hello_bytes.Goals as goal

pub overflow_cast-len : goal.overflow_cast-len
overflow_cast-len c =
    let fits : HelloFits c.in_ok-spelled.spelled = subst HelloFits (sym c.in_ok-spelled.ensures) (hello_fits c.args.cert.now c.show_fits.ensures) in
    omega (arith, c.len-2.ensures, fits.most)

pub returns : goal.returns
unfolding outer_spelling_of_hello
returns c = rw (c.in_ok-append-2.ensures.ok, c.as_slice.ensures, c.in_ok-put_u16.ensures.ok, c.len-2.ensures, c.in_ok-append.ensures.ok, c.in_ok-out.ensures, c.in_ok-spelled.ensures) refl
