-- Entries by their stamps: those before the next one, and the others.
use Rattle.std.proofs.Common.{◌≡◌, ℕ, Bool, true, false, List, [], ◌∷◌, ◌++◌, refl, sym, ap, ◌∙◌, cond, append_assoc, flat_map}
use Rattle.std.specs.Prelude.{nat_lt, if◌then◌else◌}
use Rattle.std.proofs.lemmas.Grind.{flat_map-append}
use Rattle.ds_lane.specs.declared.batch.Waiting.{Waiting as SentMessage}
use Rattle.ds_lane.specs.declared.entry.LaneAct.TheVariants.{Queued, Full}
use Rattle.ds_lane.specs.declared.entry.LaneEntry.{LaneEntry}
use Rattle.ds_model.specs.World.{QueuedLine, FullLine}
use Rattle.ds_model.specs.Plan.{Plan}
use Rattle.ds_model.specs.Print.{Printing}
use Rattle.ds_exporter.specs.Merging.{Stamped, woven, merged, entry_lines, act_lines, plain_waiting}
use Rattle.ds_report.specs.Lanes.{before, behind, lines_text, stamped_text}

-- the entries before the next one's stamp come before it
woven_by : (x y : Stamped) (rest : List Stamped → List Stamped) (ys tail : List Stamped) (b : Bool) → tail ≡ before x.stamp ys ++ x ∷ rest (behind x.stamp ys)
    → (if b then y ∷ tail else x ∷ rest (y ∷ ys)) ≡ (if b then y ∷ before x.stamp ys else []) ++ x ∷ rest (if b then behind x.stamp ys else y ∷ ys)
woven_by x y rest ys tail true e = ap (λ more. y ∷ more) e
woven_by x y rest ys tail false e = refl

woven_is : (x : Stamped) (rest : List Stamped → List Stamped) (ys : List Stamped) → woven x rest ys ≡ before x.stamp ys ++ x ∷ rest (behind x.stamp ys)
woven_is x rest [] = refl
woven_is x rest (y ∷ ys) = woven_by x y rest ys (woven x rest ys) (nat_lt y.stamp x.stamp) (woven_is x rest ys)

-- the text of one more entry
one_more : (p : Printing) (plan : Plan) (out : List ℕ) (x : Stamped) (more ys : List Stamped) →
    out ++ lines_text p plan (merged (x ∷ more) ys)
    ≡ ((out ++ lines_text p plan (before x.stamp ys)) ++ stamped_text p plan x) ++ lines_text p plan (merged more (behind x.stamp ys))
one_more p plan out x more ys =
    ap (λ lines. out ++ lines_text p plan lines) (woven_is x (merged more) ys)
    ∙ ap (λ text. out ++ text) (flat_map-append (stamped_text p plan) (before x.stamp ys) (x ∷ merged more (behind x.stamp ys)))
    ∙ sym (append_assoc out (lines_text p plan (before x.stamp ys)) (stamped_text p plan x ++ lines_text p plan (merged more (behind x.stamp ys))))
    ∙ sym (append_assoc (out ++ lines_text p plan (before x.stamp ys)) (stamped_text p plan x) (lines_text p plan (merged more (behind x.stamp ys))))

-- the same, of texts that are known by equations
pub one_entry : (p : Printing) (plan : Plan) (out first second text : List ℕ) (x : Stamped) (more ys zs : List Stamped) →
    first ≡ out ++ lines_text p plan (before x.stamp ys) → second ≡ first ++ text → stamped_text p plan x ≡ text → zs ≡ behind x.stamp ys
    → out ++ lines_text p plan (merged (x ∷ more) ys) ≡ second ++ lines_text p plan (merged more zs)
one_entry p plan out first second text x more ys zs e f g h =
    one_more p plan out x more ys
    ∙ (λ i. (sym e i ++ g i) ++ lines_text p plan (merged more (sym h i)))
    ∙ ap (λ front. front ++ lines_text p plan (merged more zs)) (sym f)

-- the lines of an entry by its act
pub lines_of_queued : (e : LaneEntry) (w : SentMessage) → e.act ≡ Queued w → entry_lines e ≡ record { stamp = e.stamp; line = QueuedLine (plain_waiting w) } ∷ []
lines_of_queued e w a = ap (act_lines e.stamp) a

pub lines_of_full : (e : LaneEntry) (w : SentMessage) → e.act ≡ Full w → entry_lines e ≡ record { stamp = e.stamp; line = FullLine (plain_waiting w) } ∷ []
lines_of_full e w a = ap (act_lines e.stamp) a

pub begun : (p : Printing) (plan : Plan) (out : List ℕ) (x : Stamped) (more ys : List Stamped) {xs : List Stamped} → xs ≡ x ∷ []
    → out ++ lines_text p plan (merged (xs ++ more) ys) ≡ out ++ lines_text p plan (merged (x ∷ more) ys)
begun p plan out x more ys e = ap (λ (zs : List Stamped). out ++ lines_text p plan (merged (zs ++ more) ys)) e
