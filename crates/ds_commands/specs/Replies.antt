-- What the commands answer.
use Rattle.std.specs.Prelude.{ℕ, List, ◌++◌, codes, decimal, min, nat_lt, if◌then◌else◌, Option, Some, None, Result, Ok, Err}
use Rattle.hex.specs.Hex.{encode_lower}
use Rattle.lms_sig.specs.declared.params.Params.{Params}
use Rattle.lms_sig.specs.declared.verifying.Bad.{Bad}
use Rattle.lms_sig.specs.declared.verifying.Bad.TheVariants.{OtherKey, Length, OtherParameters, LeafRange, Root}
use Rattle.lms_sig.specs.Good.{first_bad}
use Rattle.lms_sig.specs.Keys.{derived_seed, derived_id}
use Rattle.lms_sig.specs.Merkle.{public_key, signature}
use Rattle.lms_sig.specs.Parameters.{leaf_count}
use Rattle.ds_commands.specs.declared.command.Command.{Command}
use Rattle.ds_commands.specs.declared.command.Command.TheVariants.{Keygen, Sign, Verify, Chain}
use Rattle.ds_commands.specs.declared.reply.Reply.{Reply}
use Rattle.ds_commands.specs.declared.reply.Reply.TheVariants.{Prints, Denies, Breaks, Spends}
use Rattle.ds_commands.specs.Lines.{secret_alone, secret_and_message, signed_message}
use Rattle.ds_commands.specs.Chains.{chain_reply}

-- the code of a faulty line
abbrev pub line_code : ℕ
line_code = 12

-- the public key, and the next leaf: the lesser of the mark and the number of leaves
abbrev pub key_text : Params → ℕ → (mark : ℕ) → (secret : List ℕ) → List ℕ
key_text params index mark secret =
    codes "key " ++ encode_lower (public_key params (derived_seed secret index) (derived_id secret index))
    ++ codes "\nnext " ++ decimal (min mark (leaf_count params.lms)) ++ codes "\n"

-- a leaf, and a signature
abbrev pub text_of_signature : (leaf : ℕ) → (signature : List ℕ) → List ℕ
text_of_signature leaf made = codes "q " ++ decimal leaf ++ codes "\n" ++ encode_lower made ++ codes "\n"

-- the leaf, and the signature of the message at that leaf
abbrev pub signature_text : Params → ℕ → (leaf : ℕ) → (secret message : List ℕ) → List ℕ
signature_text params index leaf secret message =
    text_of_signature leaf (signature params (derived_seed secret index) (derived_id secret index) leaf message)

-- the names of what is wrong with a signature
abbrev pub bad_name : Bad → List ℕ
bad_name OtherKey = codes "OtherKey"
bad_name Length = codes "Length"
bad_name OtherParameters = codes "OtherParameters"
bad_name LeafRange = codes "LeafRange"
bad_name Root = codes "Root"

abbrev pub keygen_reply : Params → ℕ → (mark : ℕ) → Result (List ℕ) ℕ → Reply
keygen_reply params index mark (Err line) = Breaks line_code line
keygen_reply params index mark (Ok secret) = Prints (key_text params index mark secret)

-- the leaf is the mark; a key whose mark is its number of leaves or more is spent
abbrev pub sign_reply : Params → ℕ → (mark : ℕ) → Result (List ℕ × List ℕ) ℕ → Reply
sign_reply params index mark (Err line) = Breaks line_code line
sign_reply params index mark (Ok (secret, message)) =
    if nat_lt mark (leaf_count params.lms) then Prints (signature_text params index mark secret message) else Spends

abbrev pub judged : Option Bad → Reply
judged None = Prints (codes "good\n")
judged (Some bad) = Denies (codes "bad " ++ bad_name bad ++ codes "\n")

abbrev pub verify_reply : Result (List ℕ × List ℕ × List ℕ) ℕ → Reply
verify_reply (Err line) = Breaks line_code line
verify_reply (Ok (key, signature, message)) = judged (first_bad key message signature)

-- the moment of a search: the one that is given, or else the present one
abbrev pub moment_of : (now : ℕ) → Option ℕ → ℕ
moment_of now None = now
moment_of now (Some moment) = moment

-- WHAT A COMMAND ANSWERS, by the present moment, the mark of its key, and the input
abbrev pub reply_of : Command → (now mark : ℕ) → List ℕ → Reply
reply_of (Keygen params index) now mark input = keygen_reply params index mark (secret_alone input)
reply_of (Sign params index) now mark input = sign_reply params index mark (secret_and_message input)
reply_of Verify now mark input = verify_reply (signed_message input)
reply_of (Chain moment) now mark input = chain_reply (moment_of now moment) input
