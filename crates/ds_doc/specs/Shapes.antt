-- Codes 2 to 5: whether each value has the form that the table says, and stays in its limits.
use Rattle.std.specs.Prelude.{◌≡◌, ℕ, ◌%◌, List, [], ◌∷◌, ◌++◌, length, codes, Bool, true, false, ◌&&◌, ◌||◌, not, nat_le, nat_lt, ◌==◌, if◌then◌else◌, Option, Some, None, is_some, option_and_then, option_to_list, Result, Ok, Err, flat_map}
use Rattle.std.specs.List.{list_all, list_any}
use Rattle.serde_json.specs.Data.{Data, array, object, Items, no_items, item, Members, no_members}
use Rattle.serde_json.specs.Data as json
use Rattle.serde_json.specs.Find.{as_number, as_u64, as_str}
use Rattle.hex.specs.Hex as hex
use Rattle.ds_cert.specs.declared.cert.Cert.{Cert}
use Rattle.ds_cert.specs.Reading.{read_cert}
use Rattle.ds_doc.specs.declared.fault.Fault.{Fault}
use Rattle.ds_doc.specs.declared.judge.Judged.{Judged}
use Rattle.ds_doc.specs.declared.form.Form.{Form}
use Rattle.ds_doc.specs.declared.form.Form.TheVariants.{Single, Listed, Object, Worded}
use Rattle.ds_doc.specs.declared.form.Single as single_form
use Rattle.ds_doc.specs.declared.form.Object as object_form
use Rattle.ds_doc.specs.declared.form.Worded as worded_form
use Rattle.ds_doc.specs.declared.form.Single.TheVariants as single
use Rattle.ds_doc.specs.declared.form.Object.TheVariants as objects
use Rattle.ds_doc.specs.declared.form.Most.{Most}
use Rattle.ds_doc.specs.declared.form.Most.TheVariants as mosts
use Rattle.ds_doc.specs.Places.{◌⊕◌, size, same_text, or_default}
use Rattle.ds_plan.specs.Documents.{is_name, is_address}
use Rattle.ds_doc.specs.Texts.{register_of, kind_of, category_of}
use Rattle.ds_doc.specs.Forms.{member_form, needed, item_form, most, arguments}

-- the first comes before the second, by code and then by place
abbrev pub is_before : Fault → Fault → Bool
is_before f g = nat_lt f.code g.code || ((f.code == g.code) && nat_lt f.at g.at)

abbrev pub lesser : Option Fault → Option Fault → Option Fault
lesser None g = g
lesser (Some f) None = Some f
lesser (Some f) (Some g) = if is_before g f then Some g else Some f

-- of the least code that a form's fault may have: none that stands behind it comes before it
abbrev pub is_least : Option Fault → Bool
is_least None = false
is_least (Some f) = nat_le f.code 2

-- the least fault
abbrev pub least : List Fault → Option Fault
least [] = None
least (f ∷ fs) = lesser (Some f) (least fs)

abbrev pub fault : ℕ → ℕ → List Fault
fault code at = record { code = code; at = at } ∷ []

-- a fault, unless the test holds
abbrev pub unless : Bool → ℕ → ℕ → List Fault
unless test code at = if test then [] else fault code at

-- the least of these faults, and the place behind, unless the fault is of the least code
pub record Tells (j : Judged) (faults : List Fault) (next : ℕ) : Type 0 where
  pub found : j.fault ≡ least faults
  pub behind : is_least j.fault ≡ false → j.next ≡ next

abbrev pub listed : Items → List Data
listed no_items = []
listed (item d ds) = d ∷ listed ds

-- texts, each once, behind those before them
abbrev pub different_from : List (List ℕ) → List (List ℕ) → List (List ℕ)
different_from before [] = before
different_from before (s ∷ ss) =
    if list_any (λ t. same_text t s) before then different_from before ss else different_from (before ++ s ∷ []) ss

abbrev pub different : List (List ℕ) → List (List ℕ)
different texts = different_from [] texts

abbrev pub text_of : Data → List (List ℕ)
text_of d = option_to_list (as_str d)

-- whether a list is as short as it has to be
abbrev pub is_within : Most → List Data → Bool
is_within mosts.Any ds = true
is_within (mosts.Items n) ds = nat_le (length ds) n
is_within (mosts.Different n) ds = nat_le (length (different (flat_map text_of ds))) n

-- whether there is a member of that name
abbrev pub has : Members → List ℕ → Bool
has no_members name = false
has (json.member k d ms) name = same_text k name || has ms name

abbrev pub has_all : Members → List (List ℕ) → Bool
has_all ms names = list_all (has ms) names

abbrev pub has_some : Members → List (List ℕ) → Bool
has_some ms names = list_any (has ms) names

-- the members beside `at` of a certificate that a host of the document signs
abbrev pub signed : List (List ℕ)
signed = codes "by" ∷ codes "cat" ∷ codes "to" ∷ codes "from" ∷ codes "until" ∷ []

-- the first member but `at`, from a place on
abbrev pub first_but_at : ℕ → Members → List Fault
first_but_at at no_members = []
first_but_at at (json.member k d ms) = if same_text k (codes "at") then first_but_at (at ⊕ size d) ms else fault 3 at

-- a certificate has all members of one of its forms, and none of the other's
abbrev pub cert_faults : ℕ → Members → List Fault
cert_faults at ms =
    if not (has ms (codes "at")) || (not (has ms (codes "hex")) && not (has_all ms signed)) then fault 2 at
    else if has ms (codes "hex") && has_some ms signed then first_but_at (at ⊕ 1) ms
    else []

-- an object as a whole has the members that it needs
abbrev pub whole_faults : object_form.Object → ℕ → Members → List Fault
whole_faults objects.Host at ms =
    unless (has ms (codes "name") && (has ms (codes "seed") || has ms (codes "key")) && not (has ms (codes "seed")
    && has ms (codes "key"))) 2 at
whole_faults objects.Cert at ms = cert_faults at ms
whole_faults o at ms = unless (has_all ms (needed o)) 2 at

-- an integer that is written without sign, fraction or exponent
abbrev pub number_of : Data → Option ℕ
number_of d = option_and_then as_u64 (as_number d)

abbrev pub ranged : ℕ → ℕ → ℕ → Option ℕ → List Fault
ranged low high at None = fault 4 at
ranged low high at (Some n) = unless (nat_le low n && nat_le n high) 5 at

abbrev pub is_hex : List ℕ → Bool
is_hex s = list_all hex.is_hex_digit s

-- `5.3`, `5.4`, `6.3` or `6.4`
abbrev pub is_types : List ℕ → Bool
is_types s =
    same_text s (codes "5.3") || same_text s (codes "5.4") || same_text s (codes "6.3") || same_text s (codes "6.4")

-- bytes that spell a delegation or an address certificate
abbrev pub is_cert : Result Cert ℕ → Bool
is_cert (Ok c) = true
is_cert (Err place) = false

abbrev pub cert_text_faults : {E : Type 0} → ℕ → Result (List ℕ) E → List Fault
cert_text_faults at (Ok bytes) = unless (is_cert (read_cert bytes)) 5 at
cert_text_faults at (Err e) = fault 4 at

abbrev pub text_faults : single_form.Single → ℕ → Option (List ℕ) → List Fault
text_faults f at None = fault 4 at
text_faults single.Name at (Some s) = unless (is_name s) 4 at
text_faults single.Seed at (Some s) = unless (is_hex s && (length s == 64)) 4 at
text_faults single.Key at (Some s) = unless (is_hex s && (length s == 112)) 4 at
text_faults single.Types at (Some s) = unless (is_types s) 4 at
text_faults single.Address at (Some s) = unless (is_address s) 4 at
text_faults single.Category at (Some s) = unless (is_some (category_of s)) 4 at
text_faults single.Register at (Some s) = unless (is_some (register_of s)) 4 at
text_faults single.Text at (Some s) = unless (nat_le (length s) 16384) 5 at
text_faults single.Kind at (Some s) = unless (is_some (kind_of s)) 4 at
text_faults single.Hex at (Some s) = unless (is_hex s && (length s % 2 == 0)) 4 at
text_faults single.Cert at (Some s) = cert_text_faults at (hex.decode_of s)
text_faults f at (Some s) = fault 4 at

abbrev pub single_faults : single_form.Single → ℕ → Data → List Fault
single_faults single.Number at d = unless (is_some (number_of d)) 4 at
single_faults (single.Ranged low high) at d = ranged low high at (number_of d)
single_faults f at d = text_faults f at (as_str d)

abbrev pub word_arguments : worded_form.Worded → Data → Option (List Form)
word_arguments w d = option_and_then (arguments w) (as_str d)

-- The faults of a value of that form at that place, and of those in it. Nothing is asked below a value of another type,
-- an unknown member, an unknown word or a wrong count of arguments.
abbrev mutual
  pub judged : Form → ℕ → Data → List Fault
  judged (Single f) at d = single_faults f at d
  judged (Listed f) at (array ds) =
      unless (is_within (most f) (listed ds)) 5 at ++ judged_items (item_form f) (at ⊕ 1) ds
  judged (Listed f) at _ = fault 4 at
  judged (Object f) at (object ms) = whole_faults f at ms ++ judged_members f (at ⊕ 1) ms
  judged (Object f) at _ = fault 4 at
  judged (Worded f) at (array ds) = judged_words f at ds
  judged (Worded f) at _ = fault 4 at

  pub judged_items : Form → ℕ → Items → List Fault
  judged_items form at no_items = []
  judged_items form at (item d ds) = judged form at d ++ judged_items form (at ⊕ size d) ds

  pub judged_members : object_form.Object → ℕ → Members → List Fault
  judged_members f at no_members = []
  judged_members f at (json.member k d ms) =
      or_default (fault 3 at) (λ form. judged form at d) (member_form f k) ++ judged_members f (at ⊕ size d) ms

  pub judged_words : worded_form.Worded → ℕ → Items → List Fault
  judged_words f at no_items = fault 4 at
  judged_words f at (item word ds) =
      or_default (fault 4 (at ⊕ 1))
      (λ forms. if length (listed ds) == length forms then judged_each forms (at ⊕ 1 ⊕ size word) ds else fault 4 at)
      (word_arguments f word)

  pub judged_each : List Form → ℕ → Items → List Fault
  judged_each (form ∷ forms) at (item d ds) = judged form at d ++ judged_each forms (at ⊕ size d) ds
  judged_each _ at _ = []
