-- A message whose arrival passes has known categories alone.
use Rattle.std.proofs.Common.{◌≡◌, ℕ, Bool, true, false, ◌&&◌, List, [], ◌∷◌, ◌++◌, Option, Some, None, refl, sym, ap, ◌∙◌}
use Rattle.std.specs.Prelude.{◌||◌, IsTrue, nat_le, nat_lt}
use Rattle.std.specs.List.{list_all}
use Rattle.ds_label.specs.declared.category.PubKey.{PubKey}
use Rattle.ds_label.specs.declared.category.Category.{Category}
use Rattle.ds_label.specs.declared.rule.Rule.{Rule}
use Rattle.ds_label.specs.declared.rule.Rule.TheVariants.{LaneLapsed, WrongHost, WrongLabel, SenderNotTrusted, NotKnown}
use Rattle.ds_label.specs.Flow.{same_label}
use Rattle.ds_label.specs.Names.{by_name, is_secrecy}
use Rattle.ds_cert.specs.declared.delegation.Delegation.{Delegation}
use Rattle.ds_cert.specs.declared.lane.LaneCert.{LaneCert}
use Rattle.ds_msg.specs.declared.message.Message.{Message}
use Rattle.ds_model.specs.FirstRule.{unless, or_else, each_member}
use Rattle.ds_model.specs.Keys.{same_key}
use Rattle.ds_model.specs.Mapping.{is_known}
use Rattle.ds_model.specs.Scheme.{Scheme}
use Rattle.ds_model.specs.ExporterRules.{carried, known_rule, receiver_rule}
use Rattle.ds_map.specs.Labels.{are_known}

none_or : (a b : Option Rule) → or_else a b ≡ None → (a ≡ None) × (b ≡ None)
none_or None b e = (refl, e)
none_or (Some rule) b e = absurd cc

-- each member passes where no rule comes
all_pass : {C : Type 0} (test : C → Bool) (rule : C → Rule) (cs : List C) → each_member test rule cs ≡ None → list_all test cs ≡ true
all_pass test rule [] e = refl
all_pass test rule (c ∷ cs) e = go (test c) (none_or (unless (test c) (rule c)) (each_member test rule cs) e) (all_pass test rule cs)
  where
    go : (b : Bool) → (unless b (rule c) ≡ None) × (each_member test rule cs ≡ None) → (each_member test rule cs ≡ None → list_all test cs ≡ true) → (b && list_all test cs) ≡ true
    go true f later = later f.1
    go false f later = absurd cc

each_append : {C : Type 0} (test : C → Bool) (rule : C → Rule) (xs ys : List C) → each_member test rule (xs ++ ys) ≡ or_else (each_member test rule xs) (each_member test rule ys)
each_append test rule [] ys = refl
each_append test rule (x ∷ xs) ys = go (unless (test x) (rule x)) (each_append test rule xs ys)
  where
    go : (o : Option Rule) → each_member test rule (xs ++ ys) ≡ or_else (each_member test rule xs) (each_member test rule ys) → or_else o (each_member test rule (xs ++ ys)) ≡ or_else (or_else o (each_member test rule xs)) (each_member test rule ys)
    go None e = e
    go (Some r) e = refl

-- where no category of three labels is unknown
all_known : (here : PubKey) (names : List Category) (label own clear : List Category) → known_rule here names label own clear ≡ None
    → (list_all (is_known here names) label ≡ true) × (list_all (is_known here names) own ≡ true) × (list_all (is_known here names) clear ≡ true)
all_known here names label own clear e =
    let first = none_or (each_member (is_known here names) NotKnown label) (each_member (is_known here names) NotKnown (own ++ clear)) (sym (each_append (is_known here names) NotKnown label (own ++ clear)) ∙ e) in
    let rest = none_or (each_member (is_known here names) NotKnown own) (each_member (is_known here names) NotKnown clear) (sym (each_append (is_known here names) NotKnown own clear) ∙ first.1) in
    (all_pass (is_known here names) NotKnown label first.0, all_pass (is_known here names) NotKnown own rest.0, all_pass (is_known here names) NotKnown clear rest.1)

-- where all rules pass, so does the last
known_by : (a b c d e f : Option Rule) → or_else a (or_else b (or_else c (or_else d (or_else e (or_else f None))))) ≡ None → f ≡ None
known_by a b c d e f q =
    let in_b = (none_or a (or_else b (or_else c (or_else d (or_else e (or_else f None))))) q).1 in
    let in_c = (none_or b (or_else c (or_else d (or_else e (or_else f None)))) in_b).1 in
    let in_d = (none_or c (or_else d (or_else e (or_else f None))) in_c).1 in
    let in_e = (none_or d (or_else e (or_else f None)) in_d).1 in
    (none_or f None (none_or e (or_else f None) in_e).1).0

and_true : (b : Bool) → b ≡ true → (b && true) ≡ true
and_true b e = ap (λ (c : Bool). c && true) e

module _ (s : Scheme) (store : List Delegation) (rows : List Category) (now : ℕ) (here : PubKey) (lane : LaneCert) (m : Message) (passes : receiver_rule s store rows now here lane m ≡ None) where
  known : (list_all (is_known here rows) m.label ≡ true) × (list_all (is_known here rows) m.own ≡ true) × (list_all (is_known here rows) m.clear ≡ true)
  known =
      let held = store ++ carried s m.certs in
      all_known here rows m.label m.own m.clear
      (known_by (unless (nat_le lane.from now && nat_lt now lane.until) LaneLapsed) (unless (same_key m.to here) WrongHost) (unless (same_label by_name lane.label m.label) WrongLabel)
      (each_member (λ (c : Category). is_secrecy c.kind || s.holds held now c lane.exporter) SenderNotTrusted m.label) (each_member (λ (c : Category). s.holds held now c lane.exporter) SenderNotTrusted (m.own ++ m.clear))
      (known_rule here rows m.label m.own m.clear) passes)

  pub label_known : IsTrue (are_known here rows (m.label ∷ []))
  label_known = and_true (list_all (is_known here rows) m.label) known.0

  pub own_known : IsTrue (are_known here rows (m.own ∷ []))
  own_known = and_true (list_all (is_known here rows) m.own) known.1

  pub clear_known : IsTrue (are_known here rows (m.clear ∷ []))
  clear_known = and_true (list_all (is_known here rows) m.clear) known.2
