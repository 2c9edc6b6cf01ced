-- Words behind others, as code prints them.
use Rattle.std.specs.Prelude.{ℕ, Bool, List, [], ◌∷◌, ◌++◌, flat_map, codes, decimal, if◌then◌else◌}
use Rattle.ds_label.specs.declared.category.Category.{Category}
use Rattle.ds_label.specs.declared.rule.Rule.{Rule}
use Rattle.ds_label.specs.Rules.{rule_name}
use Rattle.ds_model.specs.Plan.{Plan}
use Rattle.ds_script.specs.declared.note.Note.{Note}
use Rattle.ds_model.specs.World.{Process}
use Rattle.ds_model.specs.Print.{Printing, category_text, rule_category, entry, note_words, host_name, label_text}

-- each category behind a comma
unfoldable pub behind_comma : Printing → Plan → Category → List ℕ
behind_comma p plan c = 44 ∷ category_text p plan c

abbrev pub members_behind : Printing → Plan → List Category → List ℕ
members_behind p plan members = flat_map (behind_comma p plan) members

-- a label of a category and others
abbrev pub label_with : Printing → Plan → Category → List Category → List ℕ
label_with p plan c members = codes "{" ++ (category_text p plan c ++ (members_behind p plan members ++ codes "}"))

-- a word behind a space
abbrev pub behind_space : List ℕ → List ℕ
behind_space word = 32 ∷ word

-- a rule's name, and behind a space the category that it carries
abbrev pub rule_words : Printing → Plan → Rule → List ℕ
rule_words p plan rule = rule_name rule ++ flat_map behind_space (rule_category p plan rule)

-- PROCESSES

-- what a take notes
abbrev pub took_words : (slot size : ℕ) → Bool → List ℕ
took_words slot size granted =
    codes "  took " ++ (decimal slot ++ 32 ∷ (decimal size ++ (if granted then codes "\n" else codes " nogrant\n")))

-- a note's line under its process
abbrev pub note_line : Printing → Plan → Note → List ℕ
note_line p plan note = entry (note_words p plan note)

abbrev pub notes_text : Printing → Plan → List Note → List ℕ
notes_text p plan notes = flat_map (note_line p plan) notes

-- the front of a process's line, and its labels
abbrev pub proc_head : Printing → Plan → (host index place : ℕ) → List ℕ
proc_head p plan host index place =
    codes "proc " ++ (host_name p plan host ++ 46 ∷ (decimal index ++ (codes " at " ++ decimal place)))

abbrev pub proc_labels_text : Printing → Plan → Process → List ℕ
proc_labels_text p plan x =
    codes " label " ++ (label_text p plan x.label ++ (codes " own " ++ (label_text p plan x.own ++ (codes " clear " ++ label_text p plan x.clear))))

-- that an operation was refused
abbrev pub refused_line : Printing → Plan → Rule → List ℕ
refused_line p plan rule = codes "  refused " ++ (rule_words p plan rule ++ 10 ∷ [])
