-- A connection's section, by its part of the plan.
use Rattle.std.specs.Prelude.{ℕ, List, [], ◌∷◌, ◌++◌, length, flat_map, codes, decimal, Option, Some, None}
use Rattle.ds_label.specs.declared.rule.Rule.{Rule}
use Rattle.ds_inlet.specs.declared.offer.ConnEntry.{ConnEntry}
use Rattle.ds_inlet.specs.Connections.{Connection}
use Rattle.ds_inlet.specs.Hosts.{seen_failure}
use Rattle.ds_inlet.specs.PlainConnections.{line_of}
use Rattle.ds_model.specs.Scheme.{Failure}
use Rattle.ds_world.specs.declared.route.Feed.{Feed}
use Rattle.ds_world.specs.declared.route.Feed.TheVariants as feeds
use Rattle.ds_model.specs.Plan.{Plan, Source, Link, OfLane}
use Rattle.ds_model.specs.World.{Conn}
use Rattle.ds_model.specs.Print.{Printing, line, entry, spaced, host_name, source_name, state_words, conn_words}
use Rattle.ds_report.specs.Words.{rule_words}

-- the source of the model
abbrev pub source_of : Feed → Source
source_of feeds.Link = Link
source_of (feeds.Lane host lane) = OfLane host lane

-- a connection, with its entries
abbrev pub conn_text : Printing → Plan → (k : ℕ) → Source → (host : ℕ) → Conn → (arrived : List ℕ) → List ℕ
conn_text p plan k source host x arrived =
    line (codes "conn" ∷ decimal k ∷ codes "from" ∷ source_name p plan source ∷ codes "to" ∷ host_name p plan host ∷ codes "arrived" ∷ decimal (length arrived) ∷ codes "stream" ∷ p.digest arrived ∷ codes "state" ∷ state_words p plan x.failed)
    ++ flat_map (λ e. entry (conn_words p plan e)) x.lines

-- the front of its line
abbrev pub conn_head : Printing → Plan → (k : ℕ) → Source → (host arrived : ℕ) → List ℕ
conn_head p plan k source host arrived =
    codes "conn " ++ (decimal k ++ (codes " from " ++ (source_name p plan source ++ (codes " to " ++ (host_name p plan host
    ++ (codes " arrived " ++ (decimal arrived ++ codes " stream ")))))))

-- its state
abbrev pub state_text : Printing → Plan → Option Failure → List ℕ
state_text p plan failed = codes " state " ++ spaced (state_words p plan failed)

-- a message that was dropped
abbrev pub drop_line : Printing → Plan → Rule → (slot : ℕ) → List ℕ
drop_line p plan rule slot = codes "  drop " ++ (rule_words p plan rule ++ 32 ∷ (decimal slot ++ 10 ∷ []))

-- an entry's line, and those of entries
abbrev pub conn_entry : Printing → Plan → ConnEntry → List ℕ
conn_entry p plan e = entry (conn_words p plan (line_of e))

abbrev pub conn_entries : Printing → Plan → List ConnEntry → List ℕ
conn_entries p plan entries = flat_map (conn_entry p plan) entries

-- a connection's section, piece by piece
abbrev pub conn_pieces : Printing → Plan → (k : ℕ) → Source → (host : ℕ) → Connection → List ℕ
conn_pieces p plan k source host c =
    conn_head p plan k source host (length c.arrived) ++ (p.digest c.arrived ++ (state_text p plan (seen_failure c.reader.failure) ++ (10 ∷ conn_entries p plan c.entries)))
