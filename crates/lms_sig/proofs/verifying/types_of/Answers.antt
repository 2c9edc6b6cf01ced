use Rattle.lms_sig.specs.Good.{key_types}
use Rattle.lms_sig.proofs.verifying.types_of.Goals as goal

pub returns : goal.returns
unfolding key_types
returns c = rw (c.of_code.ensures, c.of_code-2.ensures, c.read_u32.ensures, c.read_u32-2.ensures) at c.both.ensures
