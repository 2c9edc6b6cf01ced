-- The leaf of a signer that was resumed, and the mark of its key.
use Rattle.std.proofs.Common.{◌≡◌, ◌⊎◌, inl, inr, ℕ, suc, ◌+◌, ◌<◌, min, List, Option, Some, None, Result, Ok, Err, nat_lt, refl, subst, sym, ap, ◌∙◌, arith}
use Rattle.std.proofs.lemmas.Bool.Decides.{nat_tests}
use Rattle.ds_base.specs.Counts.{Rose}
use Rattle.ds_base.specs.Marks.{IsMark, Raised, MayBeRaised}
use Rattle.lms_sig.specs.declared.params.Params.{Params}
use Rattle.lms_sig.specs.Keys.{Key, derived_seed, derived_id}
use Rattle.lms_state.specs.Signers.{Signing, IsLeafOf, leaves_of, next_signature}
use Rattle.ds_commands.specs.declared.command.Command.TheVariants.{Sign}
use Rattle.ds_commands.specs.declared.reply.Reply.{Reply}
use Rattle.ds_commands.specs.declared.reply.Reply.TheVariants.{Prints, Spends}
use Rattle.ds_commands.specs.declared.reply.CommandFault.{CommandFault}
use Rattle.ds_commands.specs.declared.reply.CommandFault.TheVariants.{KeeperFault, NoMemory}
use Rattle.ds_commands.specs.Lines.{secret_and_message}
use Rattle.ds_commands.specs.Replies.{sign_reply, text_of_signature}
use Rattle.ds_commands.specs.Outcome.{Signed, Unsigned, Stopped, Failed, Replied, Marked, MarksAfter, name_in, uses_leaf}

-- the mark, where the keeper tells it; else the leaf
abbrev mark_by : Option (List ℕ → ℕ) → List ℕ → ℕ → ℕ
mark_by None name next = next
mark_by (Some marks) name next = marks name

is_mark : (tells : Option (List ℕ → ℕ)) (name : List ℕ) (next : ℕ) → IsMark tells name (mark_by tells name next)
is_mark None name next = tt
is_mark (Some marks) name next = refl

is_leaf : (tells : Option (List ℕ → ℕ)) (key : Key) (next : ℕ) → IsLeafOf tells key next → next ≡ min (mark_by tells key.id next) (leaves_of key)
is_leaf None key next le = omega (arith, le)
is_leaf (Some marks) key next is = is

-- the key of a secret
abbrev pub key_for : Params → ℕ → List ℕ → Key
key_for params index secret = record { params = params; seed = derived_seed secret index; id = derived_id secret index }

module _ (params : Params) (index : ℕ) (secret message : List ℕ) (before : Option (List ℕ → ℕ)) (next : ℕ) (is : IsLeafOf before (key_for params index secret) next) where
  abbrev mark : ℕ
  mark = mark_by before (derived_id secret index) next

  pub spent : next ≡ leaves_of (key_for params index secret) → Signed params index secret message before before Spends
  spent all = record {
    mark = mark;
    marked = is_mark before (derived_id secret index) next;
    answers = grind (arith, nat_tests, all, is_leaf before (key_for params index secret) next is);
    marks = refl;
  }

  same_mark : next < leaves_of (key_for params index secret) → mark ≡ next
  same_mark left = omega (arith, left, is_leaf before (key_for params index secret) next is)

  pub signs : (after : Option (List ℕ → ℕ)) → next < leaves_of (key_for params index secret) → Raised before (derived_id secret index) (next + 1) after
      → (text : List ℕ) → text ≡ text_of_signature next (next_signature (record { key = key_for params index secret; next = next }) message) → Signed params index secret message before after (Prints text)
  signs after left raised text says = record {
    mark = next;
    marked = subst (λ m. IsMark before (derived_id secret index) m) (same_mark left) (is_mark before (derived_id secret index) next);
    answers = grind (arith, nat_tests, left, says);
    marks = subst (λ n. Raised before (derived_id secret index) n after) (omega arith) raised;
  }

  pub unsigned : (e : CommandFault) (faults faults' : ℕ) (after : Option (List ℕ → ℕ)) → next < leaves_of (key_for params index secret)
      → Stopped e faults faults' (derived_id secret index) next before after → Unsigned e (derived_id secret index) faults faults' before after
  unsigned KeeperFault faults faults' after left stopped = (
    stopped.0,
    inr (next, subst (λ m. IsMark before (derived_id secret index) m) (same_mark left) (is_mark before (derived_id secret index) next), stopped.1),
  )
  unsigned NoMemory faults faults' after left stopped = stopped

-- the same of a signer whose key is that key, by what the keeper tells afterwards
module _ (params : Params) (index : ℕ) (secret message : List ℕ) (before tells : Option (List ℕ → ℕ)) (same : tells ≡ before) (s : Signing) (key : s.key ≡ key_for params index secret) (leaf : IsLeafOf before s.key s.next) where
  is : IsLeafOf before (key_for params index secret) s.next
  is = subst (λ k. IsLeafOf before k s.next) key leaf

  pub spent_of : s.next ≡ leaves_of s.key → Signed params index secret message before tells Spends
  spent_of all = subst (λ a. Signed params index secret message before a Spends) (sym same) (spent params index secret message before s.next is (all ∙ ap leaves_of key))

  pub signs_of : (after : Option (List ℕ → ℕ)) (text : List ℕ) → s.next < leaves_of s.key → Raised tells s.key.id (s.next + 1) after
      → text ≡ text_of_signature s.next (next_signature s message) → Signed params index secret message before after (Prints text)
  signs_of after text left raised says = signs params index secret message before s.next is after
      (subst (λ k. s.next < leaves_of k) key left)
      (subst (λ t. Raised t (derived_id secret index) (s.next + 1) after) same (subst (λ k. Raised tells k.id (s.next + 1) after) key raised))
      text
      (says ∙ ap (λ k. text_of_signature s.next (next_signature (record { key = k; next = s.next }) message)) key)

-- by the input's lines
module _ (params : Params) (index : ℕ) (input secret message : List ℕ) (lines : secret_and_message input ≡ Ok (secret, message)) where
  pub replied : (now : ℕ) (before after : Option (List ℕ → ℕ)) (reply : Reply) → Signed params index secret message before after reply → Replied (Sign params index) now input before after reply
  replied now before after reply s = record {
    mark = s.mark;
    marked = subst (λ r. Marked before (name_in (λ both. both.0) index r) s.mark) (sym lines) s.marked;
    answers = subst (λ r. reply ≡ sign_reply params index s.mark r) (sym lines) s.answers;
    marks = subst (λ r. MarksAfter (uses_leaf (Sign params index) reply) (name_in (λ both. both.0) index r) s.mark before after) (sym lines) s.marks;
  }

  name : name_in (λ both. both.0) index (secret_and_message input) ≡ Some (derived_id secret index)
  name = subst (λ r. name_in (λ both. both.0) index r ≡ Some (derived_id secret index)) (sym lines) refl

  pub failed : (e : CommandFault) (faults faults' : ℕ) (before after : Option (List ℕ → ℕ)) → Unsigned e (derived_id secret index) faults faults' before after
      → Failed e (Sign params index) input faults faults' before after
  failed KeeperFault faults faults' before after (rose, inl same) = (refl, rose, inl same)
  failed KeeperFault faults faults' before after (rose, inr (m, marked, raised)) = (refl, rose, inr (record { name = derived_id secret index; mark = m; is_name = name; is_mark = marked; raised = raised }))
  failed NoMemory faults faults' before after same = same
