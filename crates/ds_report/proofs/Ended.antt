-- Inlets' lines and connections' sections, piece by piece.
use Rattle.std.proofs.Common.{◌≡◌, ℕ, suc, ◌+◌, ◌-◌, arith, List, [], ◌∷◌, ◌++◌, Option, Some, None, refl, sym, ap, ◌∙◌, map, flat_map, get_or, length, append_assoc}
use Rattle.std.specs.Prelude.{codes, decimal}
use Rattle.ds_label.specs.declared.rule.Rule.{Rule}
use Rattle.ds_label.specs.Rules.{rule_name}
use Rattle.ds_frame.specs.declared.cause.Cause.{Cause}
use Rattle.ds_frame.specs.declared.cause.Cause.TheVariants as causes
use Rattle.ds_frame.specs.Causes.{cause_number, cause_name}
use Rattle.ds_inlet.specs.declared.offer.ConnEntry.{ConnEntry}
use Rattle.ds_inlet.specs.Connections.{Connection}
use Rattle.ds_inlet.specs.Hosts.{seen_failure}
use Rattle.ds_inlet.specs.PlainConnections.{line_of, plain_conn}
use Rattle.ds_model.specs.Scheme.{InletName, Failure}
use Rattle.ds_model.specs.Plan.{Plan, Source}
use Rattle.ds_model.specs.Inlet.{Inlet}
use Rattle.ds_model.specs.World.{Passed, DropLine}
use Rattle.ds_model.specs.Print.{Printing, entry, spaced, rule_category, conn_words, host_name, key_name, last_text, source_name, state_words, cause_names}
use Rattle.ds_report.specs.Words.{rule_words}
use Rattle.ds_report.specs.Inlets.{inlet_text, inlet_head}
use Rattle.ds_report.specs.Conns.{conn_text, conn_head, conn_pieces, conn_entry, conn_entries, drop_line, state_text}
use Rattle.ds_report.proofs.Spaced.{spaced_last}

inlet_pieces : (A h B key dot lane C last nl : List ℕ) → (A ++ (h ++ (B ++ ((key ++ (dot ++ lane)) ++ (C ++ last))))) ++ nl ≡ (A ++ (h ++ (B ++ (key ++ (dot ++ (lane ++ C)))))) ++ (last ++ nl)
inlet_pieces A h B key dot lane C last nl = simp append_assoc

pub section_of_inlet : (p : Printing) (plan : Plan) (h : ℕ) (name : InletName) (x : Inlet) → inlet_text p plan h name x ≡ inlet_head p plan h name.exporter name.lane ++ (last_text p plan x ++ 10 ∷ [])
section_of_inlet p plan h name x =
    inlet_pieces (codes "inlet ") (host_name p plan h) (codes " from ") (key_name p plan name.exporter) (46 ∷ []) (decimal name.lane) (codes " last ") (last_text p plan x) (10 ∷ [])

drop_pieces : (A rule sp slot nl : List ℕ) → (A ++ (rule ++ (sp ++ slot))) ++ nl ≡ A ++ (rule ++ (sp ++ (slot ++ nl)))
drop_pieces A rule sp slot nl = simp append_assoc

-- what is dropped by a rule
pub drop_words : (p : Printing) (plan : Plan) (rule : Rule) (slot : ℕ) → entry (conn_words p plan (DropLine rule slot)) ≡ drop_line p plan rule slot
drop_words p plan rule slot =
    ap (λ more. codes "  drop " ++ (more ++ 10 ∷ [])) (spaced_last (rule_name rule) (rule_category p plan rule) (decimal slot))
    ∙ drop_pieces (codes "  drop ") (rule_words p plan rule) (32 ∷ []) (decimal slot) (10 ∷ [])

-- the name of a cause
pub cause_at : (p : Printing) (plan : Plan) (c : Cause) → get_or (cause_names p plan) (cause_number c - 1) [] ≡ cause_name c
cause_at p plan causes.Magic = refl
cause_at p plan causes.HelloCount = refl
cause_at p plan causes.HelloCert = refl
cause_at p plan causes.HelloSignature = refl
cause_at p plan causes.HelloReceiver = refl
cause_at p plan causes.NoInlet = refl
cause_at p plan causes.Tag = refl
cause_at p plan causes.Count = refl
cause_at p plan causes.Length = refl
cause_at p plan causes.SignatureCount = refl
cause_at p plan causes.Split = refl
cause_at p plan causes.Leaf = refl
cause_at p plan causes.Signature = refl
cause_at p plan causes.Body = refl

-- entries as the plain world has them
entries_are : (p : Printing) (plan : Plan) (entries : List ConnEntry) → flat_map (λ e. entry (conn_words p plan e)) (map line_of entries) ≡ conn_entries p plan entries
entries_are p plan [] = refl
entries_are p plan (e ∷ entries) = ap (λ more. conn_entry p plan e ++ more) (entries_are p plan entries)

all_pieces : (A k B src C host D ar E dg state nl more : List ℕ) →
    ((A ++ (k ++ (B ++ (src ++ (C ++ (host ++ (D ++ (ar ++ (E ++ (dg ++ state)))))))))) ++ nl) ++ more
    ≡ (A ++ (k ++ (B ++ (src ++ (C ++ (host ++ (D ++ (ar ++ E)))))))) ++ (dg ++ (state ++ (nl ++ more)))
all_pieces A k B src C host D ar E dg state nl more = simp append_assoc

-- a connection's section, in five pieces
module _ (p : Printing) (plan : Plan) (k : ℕ) (source : Source) (host : ℕ) where
  by_state : (failed : Option Failure) (arrived more : List ℕ) →
      ((codes "conn " ++ (decimal k ++ (codes " from " ++ (source_name p plan source ++ (codes " to " ++ (host_name p plan host ++ (codes " arrived " ++ (decimal (length arrived)
      ++ (codes " stream " ++ (p.digest arrived ++ 32 ∷ spaced (codes "state" ∷ state_words p plan failed))))))))))) ++ 10 ∷ []) ++ more
      ≡ conn_head p plan k source host (length arrived) ++ (p.digest arrived ++ (state_text p plan failed ++ (10 ∷ more)))
  by_state None arrived more = all_pieces (codes "conn ") (decimal k) (codes " from ") (source_name p plan source) (codes " to ") (host_name p plan host) (codes " arrived ")
      (decimal (length arrived)) (codes " stream ") (p.digest arrived) (state_text p plan None) (10 ∷ []) more
  by_state (Some f) arrived more = all_pieces (codes "conn ") (decimal k) (codes " from ") (source_name p plan source) (codes " to ") (host_name p plan host) (codes " arrived ")
      (decimal (length arrived)) (codes " stream ") (p.digest arrived) (state_text p plan (Some f)) (10 ∷ []) more

  pub section_of_conn : (link : List ℕ) (passed : Option Passed) (c : Connection) → conn_text p plan k source host (plain_conn link passed c) c.arrived ≡ conn_pieces p plan k source host c
  section_of_conn link passed c =
      by_state (seen_failure c.reader.failure) c.arrived (flat_map (λ e. entry (conn_words p plan e)) (map line_of c.entries))
      ∙ ap (λ more. conn_head p plan k source host (length c.arrived) ++ (p.digest c.arrived ++ (state_text p plan (seen_failure c.reader.failure) ++ (10 ∷ more)))) (entries_are p plan c.entries)
