-- What the desk's answer to a recheck does, by each message's own rule.
use Rattle.std.proofs.Common.{◌≡◌, Bool, true, false, cond, List, [], ◌∷◌, ◌++◌, Option, Some, None, filter, flat_map, refl, ap}
use Rattle.ds_label.specs.declared.rule.Rule.{Rule}
use Rattle.ds_model.specs.Scheme.{Scheme}
use Rattle.ds_model.specs.Desk.{Desk}
use Rattle.ds_model.specs.World.{Waiting}
use Rattle.ds_model.specs.WorkerStep.{frame_rule, rechecked, unless_fails, still_good, dropped_line, dropped_lines}

-- no rule fails
abbrev pub passes : Option Rule → Bool
passes None = true
passes (Some rule) = false

pub good_is : (s : Scheme) (d : Desk) (hand : List Waiting) → still_good (rechecked s d hand) hand ≡ filter (λ w. passes (frame_rule s d w)) hand
good_is s d [] = refl
good_is s d (w ∷ hand) = go (frame_rule s d w) (good_is s d hand)
  where
    go : (r : Option Rule) → still_good (rechecked s d hand) hand ≡ filter (λ v. passes (frame_rule s d v)) hand →
        unless_fails r w (still_good (rechecked s d hand) hand) ≡ cond (passes r) (w ∷ filter (λ v. passes (frame_rule s d v)) hand) (filter (λ v. passes (frame_rule s d v)) hand)
    go None e = ap (λ ws. w ∷ ws) e
    go (Some rule) e = e

pub lines_are : (s : Scheme) (d : Desk) (hand : List Waiting) → dropped_lines (rechecked s d hand) hand ≡ flat_map (λ w. dropped_line w (frame_rule s d w)) hand
lines_are s d [] = refl
lines_are s d (w ∷ hand) = ap (λ ls. dropped_line w (frame_rule s d w) ++ ls) (lines_are s d hand)
