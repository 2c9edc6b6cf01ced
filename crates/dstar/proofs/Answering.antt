-- From the causes of a call to its answer by the bytes alone.
use Rattle.std.proofs.Common.{◌≡◌, ℕ, ◌<◌, ◌≤◌, List, length, Option, Some, None, refl, sym, ap, subst, ◌∙◌, inl, inr, arith, length-append, Result, Ok, Err}
use Rattle.ds_base.specs.Counts.{Rose, Told}
use Rattle.ds_base.proofs.Counting.{told_all}
use Rattle.dstar.specs.declared.status.Status.{Status}
use Rattle.dstar.specs.declared.status.Status.TheVariants as ends
use Rattle.ds_commands.specs.declared.command.Command.TheVariants.{Keygen, Sign, Verify, Chain}
use Rattle.ds_commands.specs.declared.reply.Reply.{Reply}
use Rattle.ds_commands.specs.declared.reply.Reply.TheVariants.{Prints, Denies, Breaks, Spends}
use Rattle.ds_commands.specs.Outcome.{Marked, name_in}
use Rattle.ds_commands.specs.Lines.{secret_alone, secret_and_message}
use Rattle.ds_commands.specs.Replies.{keygen_reply, sign_reply}
use Rattle.lms_sig.specs.declared.params.Params.{Params}
use Rattle.dstar.specs.declared.call.Call.{Call}
use Rattle.dstar.specs.declared.call.Call.TheVariants.{Sim, Small}
use Rattle.dstar.specs.Outside.{input_limit}
use Rattle.dstar.proofs.Sims.{sim_alike}
use Rattle.dstar.specs.Causes.{Observed, ReadWhole, Caused, Answers, Answered, Gives, IsDecided, name_of, status_of}

-- the bytes that were read to the end are the ones that the input told
whole_is : (m : Observed) (bytes read : List ℕ) → m.told ≡ Some bytes → ReadWhole m read → read ≡ bytes
whole_is m bytes read e w = told_all bytes read m.left (subst (λ (o : Option (List ℕ)). Told o read m.left) e w.taken) w.none_left

-- bytes that were taken are no more than the input told
taken_le : (bytes taken : List ℕ) (left : Option (List ℕ)) → Told (Some bytes) taken left → length taken ≤ length bytes
taken_le bytes taken None t = absurd t
taken_le bytes taken (Some rest) t = omega (arith, ap length t, length-append taken rest)

-- the status of `keygen` doesn't depend on the mark
keygen_alike : (params : Params) (index mark other : ℕ) (lines : Result (List ℕ) ℕ) → status_of (keygen_reply params index mark lines) ≡ status_of (keygen_reply params index other lines)
keygen_alike params index mark other (Ok secret) = refl
keygen_alike params index mark other (Err line) = refl

-- the mark of `sign` is the one that is told
sign_alike : (params : Params) (index mark other : ℕ) (told : Option (List ℕ → ℕ)) (lines : Result (List ℕ × List ℕ) ℕ) → IsDecided (Small (Sign params index)) told
    → Marked told (name_in (λ both. both.0) index lines) mark → Marked told (name_in (λ both. both.0) index lines) other
    → status_of (sign_reply params index mark lines) ≡ status_of (sign_reply params index other lines)
sign_alike params index mark other None lines decided m o = absurd decided
sign_alike params index mark other (Some marks) (Err line) decided m o = refl
sign_alike params index mark other (Some marks) (Ok (secret, message)) decided m o = ap (λ n. status_of (sign_reply params index n (Ok (secret, message)))) (m ∙ sym o)

-- two answers of a call over the same bytes end alike
alike : (call : Call) (now mark other : ℕ) (told : Option (List ℕ → ℕ)) (bytes : List ℕ) (r s : Reply) → IsDecided call told
    → Marked told (name_of call bytes) mark → Marked told (name_of call bytes) other → Gives call now mark bytes r → Gives call now other bytes s → status_of r ≡ status_of s
alike Sim now mark other told bytes r s d m o g h = sim_alike bytes r s g h
alike (Small (Keygen params index)) now mark other told bytes r s d m o g h =
    ap status_of g ∙ keygen_alike params index mark other (secret_alone bytes) ∙ sym (ap status_of h)
alike (Small (Sign params index)) now mark other told bytes r s d m o g h =
    ap status_of g ∙ sign_alike params index mark other told (secret_and_message bytes) d m o ∙ sym (ap status_of h)
alike (Small Verify) now mark other told bytes r s d m o g h = ap status_of (g ∙ sym h)
alike (Small (Chain moment)) now mark other told bytes r s d m o g h = ap status_of (g ∙ sym h)

no_memory : (call : Call) (now : ℕ) (told : Option (List ℕ → ℕ)) (bytes : List ℕ) → Answers call now told bytes ends.NoMemory
no_memory call now told bytes = record { too_long = λ h. inr refl; answered = λ h d mark m reply g. inr refl }

-- an answer was given
given : (call : Call) (now : ℕ) (m : Observed) (bytes read : List ℕ) (reply : Reply) → m.told ≡ Some bytes → ReadWhole m read → Answered call now read m.marks m.marks_after reply
    → Answers call now m.marks bytes (status_of reply)
given call now m bytes read reply e whole a =
    let same : read ≡ bytes = whole_is m bytes read e whole in
    let short : length bytes ≤ input_limit = subst (λ (l : List ℕ). length l ≤ input_limit) same whole.short in
    let here : Answered call now bytes m.marks m.marks_after reply = subst (λ (l : List ℕ). Answered call now l m.marks m.marks_after reply) same a in
    record {
      too_long = λ h. absurd (omega arith);
      answered = λ h d mark marked other gives. inl (alike call now here.mark mark m.marks bytes reply other d here.marked marked here.gives gives);
    }

overran : (call : Call) (now : ℕ) (told : Option (List ℕ → ℕ)) (bytes : List ℕ) → input_limit < length bytes → Answers call now told bytes ends.TooLong
overran call now told bytes long = record {
  too_long = λ h. inl refl;
  answered = λ h d mark m reply g. absurd (omega arith);
}

pub answers : (call : Call) (now : ℕ) (m : Observed) (bytes : List ℕ) (status : Status) → Caused call now m status → m.told ≡ Some bytes → (Rose m.read_faults m.read_faults_after → ⊥)
    → (Rose m.write_faults m.write_faults_after → ⊥) → (Rose m.keeper_faults m.keeper_faults_after → ⊥) → Answers call now m.marks bytes status
answers call now m bytes ends.Ok c e r w k = given call now m bytes c.bytes (Prints c.text) e c.whole c.answered
answers call now m bytes ends.Usage c e r w k = absurd c
answers call now m bytes ends.ReadFault c e r w k = absurd (r c.0)
answers call now m bytes ends.WriteFault c e r w k = absurd (w c.failed)
answers call now m bytes ends.TooLong c e r w k =
    let most : length c.bytes ≤ length bytes = taken_le bytes c.bytes m.left (subst (λ (o : Option (List ℕ)). Told o c.bytes m.left) e c.taken) in
    let long : input_limit < length c.bytes = c.long in
    overran call now m.marks bytes (omega arith)
answers call now m bytes (ends.Document code place) c e r w k = given call now m bytes c.bytes (Breaks code place) e c.whole c.answered
answers call now m bytes ends.NoMemory c e r w k = no_memory call now m.marks bytes
answers Sim now m bytes ends.KeeperFault c e r w k = absurd c.failed
answers (Small command) now m bytes ends.KeeperFault c e r w k = absurd (k c.failed.1)
answers call now m bytes ends.Spent c e r w k = given call now m bytes c.bytes Spends e c.whole c.answered
answers call now m bytes ends.WireFault c e r w k = absurd c
answers call now m bytes ends.No c e r w k = given call now m bytes c.bytes (Denies c.text) e c.whole c.answered

-- a call never ends as Usage
pub never_usage : (call : Call) (now : ℕ) (m : Observed) (status : Status) → Caused call now m status → status ≡ ends.Usage → ⊥
never_usage call now m status c e = subst (Caused call now m) e c

abbrev or_else : Option Call → Call → Call
or_else None d = d
or_else (Some v) d = v

pub same_call : (x y : Call) (o : Option Call) → o ≡ Some x → o ≡ Some y → x ≡ y
same_call x y o e f = ap (λ (p : Option Call). or_else p x) (sym e ∙ f)

pub no_call : (x : Call) (o : Option Call) → o ≡ None → o ≡ Some x → ⊥
no_call x o e f = let h : None ≡ Some x = sym e ∙ f in absurd cc
