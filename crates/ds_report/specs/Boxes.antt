-- A mailbox's section, by its part of the plan; and its entries, by the sizes of what waits.
use Rattle.std.specs.Prelude.{ℕ, List, [], ◌∷◌, ◌++◌, length, drop, codes, decimal}
use Rattle.ds_label.specs.declared.category.PubKey.{PubKey}
use Rattle.ds_label.specs.declared.category.Category.{Category}
use Rattle.ds_msg.specs.declared.local.LocalMessage.{LocalMessage}
use Rattle.ds_map.specs.Labels.{named}
use Rattle.ds_exporter.specs.HostStates.{HostBox}
use Rattle.ds_model.specs.Plan.{Plan, BoxPlan}
use Rattle.ds_model.specs.World.{Mailbox}
use Rattle.ds_model.specs.Print.{Printing, line, entry, dotted, host_name, key_name, label_text, shown, box_lines}
use Rattle.ds_box.specs.declared.entry.BoxAct.{BoxAct}
use Rattle.ds_box.specs.declared.entry.BoxAct.TheVariants.{Put, Full, Took}
use Rattle.ds_box.specs.declared.entry.BoxEntry.{BoxEntry}

-- a mailbox, with its entries
abbrev pub box_text : Printing → Plan → (h : ℕ) → BoxPlan → Mailbox → List ℕ
box_text p plan h q x =
    line (codes "box" ∷ dotted (host_name p plan h ∷ decimal q.slot ∷ []) ∷ codes "label" ∷ label_text p plan q.label ∷ codes "room" ∷ decimal q.room ∷ codes "waits" ∷ decimal (length x.waiting) ∷ [])
    ++ box_lines p plan x.entries []

-- the front of its line
abbrev pub box_head : Printing → Plan → (h slot : ℕ) → List ℕ
box_head p plan h slot = codes "box " ++ (host_name p plan h ++ 46 ∷ (decimal slot ++ codes " label "))

-- a message behind a word
abbrev pub mail_line : Printing → Plan → (word : List ℕ) → LocalMessage → List ℕ
mail_line p plan word m = word ++ (key_name p plan m.from ++ 32 ∷ (shown m.payload ++ 10 ∷ []))

-- what was taken
abbrev pub took_line : (sizes : List ℕ) → List ℕ
took_line [] = []
took_line (size ∷ sizes) = codes "  took " ++ (decimal size ++ 10 ∷ [])

-- an entry, by the sizes of what waited before it
abbrev pub act_line : Printing → Plan → BoxAct → (sizes : List ℕ) → List ℕ
act_line p plan (Put m) sizes = mail_line p plan (codes "  put ") m
act_line p plan (Full m) sizes = mail_line p plan (codes "  full ") m
act_line p plan Took sizes = took_line sizes

-- and the sizes behind it
abbrev pub sizes_after : BoxAct → List ℕ → List ℕ
sizes_after (Put m) sizes = sizes ++ length m.payload ∷ []
sizes_after (Full m) sizes = sizes
sizes_after Took sizes = drop 1 sizes

-- entries, one after another
abbrev pub acts_text : Printing → Plan → List BoxEntry → (sizes : List ℕ) → List ℕ
acts_text p plan [] sizes = []
acts_text p plan (e ∷ entries) sizes = act_line p plan e.act sizes ++ acts_text p plan entries (sizes_after e.act sizes)

-- a mailbox's line, and with its entries, piece by piece
abbrev pub box_line : Printing → Plan → PubKey → List Category → (h : ℕ) → HostBox → List ℕ
box_line p plan here rows h b =
    box_head p plan h b.slot ++ (label_text p plan (named here rows b.mailbox.label) ++ (codes " room " ++ (decimal b.mailbox.room ++ (codes " waits " ++ decimal (length b.mailbox.waiting)))))

abbrev pub box_pieces : Printing → Plan → PubKey → List Category → (h : ℕ) → HostBox → List ℕ
box_pieces p plan here rows h b = box_line p plan here rows h b ++ (10 ∷ acts_text p plan b.mailbox.history [])
