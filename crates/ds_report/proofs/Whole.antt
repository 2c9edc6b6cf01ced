-- A host's line and its sections.
use Rattle.std.proofs.Common.{◌≡◌, ℕ, suc, Bool, true, false, List, [], ◌∷◌, ◌++◌, refl, sym, ap, ◌∙◌, map, flat_map, length, append_assoc}
use Rattle.std.specs.Prelude.{codes, decimal, ◌==◌, ◌&&◌, if◌then◌else◌}
use Rattle.ds_model.specs.Desk.{Desk}
use Rattle.ds_model.specs.Plan.{Plan}
use Rattle.ds_model.specs.Print.{Printing, desk_text, desk_bytes, host_line, host_name}
use Rattle.ds_plan.specs.declared.doc.Doc.{Doc}
use Rattle.ds_report.specs.Printings.{printing_of, planned}
use Rattle.ds_report.specs.Hosts.{desk_spelled, host_front}

abbrev keeps_none : Desk → Bool
keeps_none d = (length d.store == 0) && ((length d.addresses == 0) && (length d.rows == 0))

-- a desk's bytes as this text spells them
pub desk_is : (doc : Doc) (plan : Plan) (d : Desk) → desk_bytes (printing_of doc) plan d ≡ desk_spelled d
unfolding printing_of
desk_is doc plan d = refl

line_pieces : (A h B m C l D s E a F r G desk nl : List ℕ) →
    (A ++ (h ++ (B ++ (m ++ (C ++ (l ++ (D ++ (s ++ (E ++ (a ++ (F ++ (r ++ (G ++ desk))))))))))))) ++ nl
    ≡ (A ++ (h ++ ((B ++ (m ++ (C ++ l))) ++ ((D ++ (s ++ (E ++ (a ++ (F ++ r))))) ++ G)))) ++ (desk ++ nl)
line_pieces A h B m C l D s E a F r G desk nl = simp append_assoc

-- a host's line, in its pieces
pub line_of_host : (p : Printing) (plan : Plan) (h : ℕ) (d : Desk) → host_line p plan h d ≡ host_front p plan h d ++ (desk_text p plan d ++ 10 ∷ [])
line_of_host p plan h d =
    line_pieces (codes "host ") (host_name p plan h) (codes " moment ") (decimal d.moment) (codes " leaf ") (decimal d.leaf) (codes " store ") (decimal (length d.store))
    (codes " addresses ") (decimal (length d.addresses)) (codes " maps ") (decimal (length d.rows)) (codes " desk ") (desk_text p plan d) (10 ∷ [])

-- the desk's text where it keeps nothing, and where it does
pub no_desk : (p : Printing) (plan : Plan) (d : Desk) → keeps_none d ≡ true → desk_text p plan d ≡ codes "-"
no_desk p plan d e = ap (λ (b : Bool). if b then codes "-" else p.digest (desk_bytes p plan d)) e

pub some_desk : (doc : Doc) (plan : Plan) (d : Desk) → keeps_none d ≡ false → desk_text (printing_of doc) plan d ≡ (printing_of doc).digest (desk_spelled d)
some_desk doc plan d e =
    ap (λ (b : Bool). if b then codes "-" else (printing_of doc).digest (desk_bytes (printing_of doc) plan d)) e ∙ ap (printing_of doc).digest (desk_is doc plan d)
