-- Messages that were read before the others.
use Rattle.std.proofs.Common.{◌≡◌, List, [], ◌∷◌, ◌++◌, refl, sym, ap, append_assoc}
use Rattle.std.specs.Prelude.{Result, Ok, Err}
use Rattle.std.specs.List.{All}
use Rattle.std.proofs.lemmas.List.Elements.{All-push}
use Rattle.ds_cert.specs.Fields.{◌>>=◌}
use Rattle.ds_msg.specs.declared.message.Message.{Message}
use Rattle.ds_msg.specs.Ranges.{MessageRange}
use Rattle.ds_frame.specs.Fields.{ReadFault}

abbrev pub with_front : List Message → Result (List Message) ReadFault → Result (List Message) ReadFault
with_front front (Ok messages) = Ok (front ++ messages)
with_front front (Err stop) = Err stop

abbrev all_read : List Message → Result (List Message) ReadFault
all_read messages = Ok messages

-- one more message before them
pub one_more : (front : List Message) (m : Message) (later : Result (List Message) ReadFault) → with_front front (later >>= λ (ms : List Message). Ok (m ∷ ms)) ≡ with_front (front ++ m ∷ []) later
one_more front m (Ok ms) = ap all_read (sym (append_assoc front (m ∷ []) ms))
one_more front m (Err stop) = refl

pub in_range_more : (messages : List Message) (m : Message) → All MessageRange messages → MessageRange m → All MessageRange (messages ++ m ∷ [])
in_range_more messages m all this = All-push MessageRange messages m all this
