-- An event as a line: as documents list events, but without brackets, commas and quotes.
use Rattle.std.specs.Prelude.{ℕ, List, [], ◌∷◌, ◌++◌, codes, decimal, flat_map}
use Rattle.ds_model.specs.Print.{hex_byte, host_name}
use Rattle.ds_plan.specs.declared.doc.Doc.{Doc}
use Rattle.ds_plan.specs.declared.event.Event.{Event}
use Rattle.ds_plan.specs.declared.event.Event.TheVariants as written
use Rattle.ds_report.specs.Printings.{printing_of, planned}

-- a word, a host's name, and a number
abbrev pub line_of_host : (word : List ℕ) → Doc → (host number : ℕ) → List ℕ
line_of_host word d host number = word ++ (host_name (printing_of d) (planned d) host ++ (codes " " ++ (decimal number ++ codes "\n")))

-- a word and a number
abbrev pub line_of_conn : (word : List ℕ) → (conn : ℕ) → List ℕ
line_of_conn word conn = word ++ (decimal conn ++ codes "\n")

-- a word, a number, and another word
abbrev pub line_with : (word : List ℕ) → (conn : ℕ) → (rest : List ℕ) → List ℕ
line_with word conn rest = word ++ (decimal conn ++ (codes " " ++ (rest ++ codes "\n")))

-- three numbers
abbrev pub three_numbers : (source from until : ℕ) → List ℕ
three_numbers source from until = decimal source ++ (codes " " ++ (decimal from ++ (codes " " ++ decimal until)))

abbrev pub event_line : Doc → Event → List ℕ
event_line d (written.Step host index) = line_of_host (codes "step ") d host index
event_line d (written.Frame host lane) = line_of_host (codes "frame ") d host lane
event_line d (written.Arrive conn count) = line_with (codes "arrive ") conn (decimal count)
event_line d (written.Accept conn) = line_of_conn (codes "accept ") conn
event_line d (written.Deliver conn) = line_of_conn (codes "deliver ") conn
event_line d (written.Tick host to) = line_of_host (codes "tick ") d host to
event_line d (written.Inject conn bytes) = line_with (codes "inject ") conn (flat_map hex_byte bytes)
event_line d (written.CopyBytes conn source from until) = line_with (codes "copy ") conn (three_numbers source from until)
