use Rattle.lms_sig.proofs.Goods.{signature-good}
use Rattle.lms_sig.proofs.law.signatures_are_good.Goals as goal

pub returns : goal.returns
returns c = λ params seed id message q size below. signature-good params seed id message q size below
