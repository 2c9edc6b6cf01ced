-- The table of a document's values: which members an object has, what a list is of, what follows a word.
use Rattle.std.specs.Prelude.{ℕ, List, [], ◌∷◌, codes, Bool, true, false, if◌then◌else◌, Option, Some, None}
use Rattle.ds_doc.specs.declared.form.Form.{Form}
use Rattle.ds_doc.specs.declared.form.Form.TheVariants.{Single, Listed, Object, Worded}
use Rattle.ds_doc.specs.declared.form.Single.TheVariants as single
use Rattle.ds_doc.specs.declared.form.Listed.TheVariants as listed
use Rattle.ds_doc.specs.declared.form.Object.TheVariants as objects
use Rattle.ds_doc.specs.declared.form.Worded.TheVariants as worded
use Rattle.ds_doc.specs.declared.form.Listed as listed_form
use Rattle.ds_doc.specs.declared.form.Object as object_form
use Rattle.ds_doc.specs.declared.form.Worded as worded_form
use Rattle.ds_doc.specs.declared.form.Most.{Most}
use Rattle.ds_doc.specs.declared.form.Most.TheVariants.{Any, Items, Different}
use Rattle.ds_doc.specs.Places.{same_text}

-- a member of objects of a form
pub record Member : Type 0 where
  pub name : List ℕ
  pub needed : Bool
  pub form : Form

abbrev pub need : List ℕ → Form → Member
need name form = record { name = name; needed = true; form = form }

abbrev pub may : List ℕ → Form → Member
may name form = record { name = name; needed = false; form = form }

-- the members of an object. Of a host's seed and key there is exactly one, and a certificate has all of the members of
-- one of its two forms
abbrev pub members : object_form.Object → List Member
members objects.Document =
    need (codes "version") (Single (single.Ranged 1 1))
    ∷ need (codes "hosts") (Listed listed.Hosts)
    ∷ may (codes "moment") (Single single.Number)
    ∷ may (codes "budget") (Single (single.Ranged 1 20000))
    ∷ may (codes "certs") (Listed listed.Certs)
    ∷ may (codes "links") (Listed listed.Links)
    ∷ may (codes "events") (Listed listed.Events)
    ∷ []
members objects.Host =
    need (codes "name") (Single single.Name)
    ∷ may (codes "seed") (Single single.Seed)
    ∷ may (codes "key") (Single single.Key)
    ∷ may (codes "identity") (Single single.Types)
    ∷ may (codes "lanekey") (Single single.Types)
    ∷ may (codes "address") (Single single.Address)
    ∷ may (codes "map") (Listed listed.Map)
    ∷ may (codes "procs") (Listed listed.Procs)
    ∷ may (codes "boxes") (Listed listed.Boxes)
    ∷ may (codes "lanes") (Listed listed.Lanes)
    ∷ may (codes "inlets") (Listed listed.Inlets)
    ∷ []
members objects.Proc =
    may (codes "made") (Single (single.Ranged 0 2147483647))
    ∷ may (codes "label") (Listed listed.Label)
    ∷ may (codes "own") (Listed listed.Label)
    ∷ may (codes "clear") (Listed listed.Label)
    ∷ need (codes "script") (Listed listed.Script)
    ∷ []
members objects.Box =
    need (codes "slot") (Single (single.Ranged 0 4294967295))
    ∷ need (codes "proc") (Single single.Number)
    ∷ may (codes "label") (Listed listed.Label)
    ∷ need (codes "room") (Single (single.Ranged 1 256))
    ∷ []
members objects.Lane =
    need (codes "to") (Single single.Name)
    ∷ may (codes "label") (Listed listed.Label)
    ∷ need (codes "room") (Single (single.Ranged 1 256))
    ∷ may (codes "until") (Single single.Number)
    ∷ []
members objects.Inlet =
    need (codes "from") (Single single.Name)
    ∷ need (codes "lane") (Single (single.Ranged 1 32))
    ∷ []
members objects.Cert =
    may (codes "by") (Single single.Name)
    ∷ may (codes "cat") (Single single.Category)
    ∷ may (codes "to") (Single single.Name)
    ∷ may (codes "from") (Single single.Number)
    ∷ may (codes "until") (Single single.Number)
    ∷ may (codes "at") (Listed listed.Keepers)
    ∷ may (codes "hex") (Single single.Cert)
    ∷ []

-- the form of the member of that name
abbrev pub form_in : List Member → List ℕ → Option Form
form_in [] name = None
form_in (m ∷ ms) name = if same_text name m.name then Some m.form else form_in ms name

unfoldable pub member_form : object_form.Object → List ℕ → Option Form
member_form object name = form_in (members object) name

-- the names of the members that each such object has
abbrev pub needed_in : List Member → List (List ℕ)
needed_in [] = []
needed_in (m ∷ ms) = if m.needed then m.name ∷ needed_in ms else needed_in ms

unfoldable pub needed : object_form.Object → List (List ℕ)
needed object = needed_in (members object)

-- what a list is of
abbrev pub item_form : listed_form.Listed → Form
item_form listed.Hosts = Object objects.Host
item_form listed.Procs = Object objects.Proc
item_form listed.Boxes = Object objects.Box
item_form listed.Lanes = Object objects.Lane
item_form listed.Inlets = Object objects.Inlet
item_form listed.Certs = Object objects.Cert
item_form listed.Links = Single single.Name
item_form listed.Events = Worded worded.Event
item_form listed.Script = Worded worded.Operation
item_form listed.Keepers = Single single.Name
item_form listed.Map = Single single.Category
item_form listed.Label = Single single.Category

-- how long a list may be
abbrev pub most : listed_form.Listed → Most
most listed.Hosts = Items 16
most listed.Procs = Items 32
most listed.Boxes = Items 64
most listed.Lanes = Items 32
most listed.Inlets = Items 64
most listed.Certs = Items 256
most listed.Links = Items 16
most listed.Events = Items 20000
most listed.Script = Items 4096
most listed.Keepers = Any
most listed.Map = Different 1024
most listed.Label = Different 64

-- a word, and the forms of what stands behind it
pub record Call : Type 0 where
  pub word : List ℕ
  pub arguments : List Form

abbrev pub register : Form
register = Single single.Register

abbrev pub any_number : Form
any_number = Single single.Number

abbrev pub host_name : Form
host_name = Single single.Name

abbrev pub label : Form
label = Listed listed.Label

abbrev pub slot : Form
slot = Single (single.Ranged 0 4294967295)

abbrev pub category : Form
category = Single single.Category

abbrev pub calls : worded_form.Worded → List Call
calls worded.Operation =
    record { word = codes "set"; arguments = register ∷ Single single.Text ∷ [] }
    ∷ record { word = codes "join"; arguments = register ∷ register ∷ register ∷ [] }
    ∷ record { word = codes "ifeq"; arguments = register ∷ register ∷ any_number ∷ [] }
    ∷ record { word = codes "jump"; arguments = any_number ∷ [] }
    ∷ record { word = codes "print"; arguments = register ∷ [] }
    ∷ record { word = codes "send"; arguments = host_name ∷ slot ∷ register ∷ label ∷ label ∷ label ∷ [] }
    ∷ record { word = codes "take"; arguments = register ∷ slot ∷ [] }
    ∷ record { word = codes "label"; arguments = label ∷ [] }
    ∷ record { word = codes "newcat"; arguments = Single single.Kind ∷ [] }
    ∷ record { word = codes "delegate"; arguments = register ∷ category ∷ host_name ∷ any_number ∷ any_number ∷ [] }
    ∷ record { word = codes "map"; arguments = category ∷ [] }
    ∷ record { word = codes "import"; arguments = register ∷ [] }
    ∷ []
calls worded.Event =
    record { word = codes "step"; arguments = host_name ∷ any_number ∷ [] }
    ∷ record { word = codes "frame"; arguments = host_name ∷ any_number ∷ [] }
    ∷ record { word = codes "arrive"; arguments = any_number ∷ any_number ∷ [] }
    ∷ record { word = codes "accept"; arguments = any_number ∷ [] }
    ∷ record { word = codes "deliver"; arguments = any_number ∷ [] }
    ∷ record { word = codes "tick"; arguments = host_name ∷ any_number ∷ [] }
    ∷ record { word = codes "inject"; arguments = any_number ∷ Single single.Hex ∷ [] }
    ∷ record { word = codes "copy"; arguments = any_number ∷ any_number ∷ any_number ∷ any_number ∷ [] }
    ∷ []

-- what stands behind the word
abbrev pub arguments_in : List Call → List ℕ → Option (List Form)
arguments_in [] word = None
arguments_in (c ∷ cs) word = if same_text word c.word then Some c.arguments else arguments_in cs word

unfoldable pub arguments : worded_form.Worded → List ℕ → Option (List Form)
arguments worded word = arguments_in (calls worded) word
