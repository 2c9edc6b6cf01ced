-- What the bytes say they say once, and so `sim` has one answer.
use Rattle.std.proofs.Common.{◌≡◌, ℕ, List, Option, Some, None, refl, sym, ap, ◌∙◌, inl, inr, Result, Ok, Err}
use Rattle.serde_json.specs.Data.{Data}
use Rattle.ds_commands.specs.declared.reply.Reply.{Reply}
use Rattle.ds_commands.specs.declared.reply.Reply.TheVariants.{Prints, Denies, Breaks, Spends}
use Rattle.ds_plan.specs.declared.doc.Doc.{Doc}
use Rattle.ds_doc.specs.Reading.{Document, answer_of}
use Rattle.dstar.specs.declared.status.Status.{Status}
use Rattle.dstar.specs.declared.status.Status.TheVariants as ends
use Rattle.ds_model.specs.Step.{Event}
use Rattle.ds_plan.specs.Documents.{IsDocument}
use Rattle.ds_doc.proofs.Answered.{documented}
use Rattle.ds_sim.proofs.TwoTexts.{looks_the_same}
use Rattle.dstar.specs.Sims.{SimGives, LooksTheSame}
use Rattle.dstar.specs.Causes.{status_of}

abbrev or_this : Data → Option Data → Data
or_this d None = d
or_this d (Some e) = e

-- one value
one_value : (d e : Data) (o : Option Data) → o ≡ Some d → o ≡ Some e → d ≡ e
one_value d e o x y = ap (or_this d) (sym x ∙ y)

-- a value and none
no_value : (d : Data) (o : Option Data) → o ≡ None → o ≡ Some d → ⊥
no_value d o x y = let h : None ≡ Some d = sym x ∙ y in absurd cc

said_once : (bytes : List ℕ) (r s : Result Doc (ℕ × ℕ)) → Document bytes r → Document bytes s → r ≡ s
said_once bytes r s (inl a) (inl b) = a.1 ∙ sym b.1
said_once bytes r s (inl a) (inr b) = absurd (no_value b.0 _ (a.0 b.1.0) b.1.1)
said_once bytes r s (inr a) (inl b) = absurd (no_value a.0 _ (b.0 a.1.0) a.1.1)
said_once bytes r s (inr a) (inr b) = a.2 ∙ ap answer_of (one_value a.0 b.0 _ a.1.1 b.1.1) ∙ sym b.2

abbrev status_in : Result Doc (ℕ × ℕ) → Status
status_in (Ok d) = ends.Ok
status_in (Err e) = ends.Document e.0 e.1

-- a text and a refusal
never_both : (bytes text : List ℕ) (code place : ℕ) → SimGives bytes (Prints text) → SimGives bytes (Breaks code place) → ⊥
unfolding SimGives
never_both bytes text code place g h =
    let clash : ◌≡◌ {A = Result Doc (ℕ × ℕ)} (Err (code, place)) (Ok g.document) = said_once bytes (Err (code, place)) (Ok g.document) h g.reads in absurd cc

-- two answers to the same bytes end alike
pub sim_alike : (bytes : List ℕ) (r s : Reply) → SimGives bytes r → SimGives bytes s → status_of r ≡ status_of s
unfolding SimGives
sim_alike bytes (Prints text) (Prints other) g h = refl
sim_alike bytes (Prints text) (Denies other) g h = absurd h
sim_alike bytes (Prints text) (Breaks code place) g h = absurd (never_both bytes text code place g h)
sim_alike bytes (Prints text) Spends g h = absurd h
sim_alike bytes (Denies text) s g h = absurd g
sim_alike bytes (Breaks code place) (Prints text) g h = absurd (never_both bytes text code place h g)
sim_alike bytes (Breaks code place) (Denies text) g h = absurd h
sim_alike bytes (Breaks code place) (Breaks code' place') g h = ap status_in (said_once bytes (Err (code, place)) (Err (code', place')) g h)
sim_alike bytes (Breaks code place) Spends g h = absurd h
sim_alike bytes Spends s g h = absurd g

-- what bytes say is a document
pub is_document_of : (bytes : List ℕ) (d : Doc) → Document bytes (Ok d) → IsDocument d
is_document_of bytes d (inl a) = let clash : ◌≡◌ {A = Result Doc (ℕ × ℕ)} (Ok d) (Err (1, 0)) = a.1 in absurd cc
is_document_of bytes d (inr a) = documented {B = ℕ} a.0 (Ok (d, 0)) (sym a.2)

-- so the law over two runs holds of it
pub outside_is : (bytes : List ℕ) (d : Doc) (one : List Event) → Document bytes (Ok d) → LooksTheSame d one
outside_is bytes d one reads other e two also scheduled c trusted both =
    looks_the_same c trusted d one e two (is_document_of bytes d reads) (is_document_of other e also) both
