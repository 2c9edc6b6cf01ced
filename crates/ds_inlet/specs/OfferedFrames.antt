-- A frame that was read and isn't settled yet: the place of its inlet, its number and its messages.
use Rattle.std.specs.Prelude.{ℕ, List}
use Rattle.ds_msg.specs.declared.message.Message.{Message}

pub record OfferedFrame : Type 0 where
  pub inlet : ℕ
  pub number : ℕ
  pub messages : List Message
