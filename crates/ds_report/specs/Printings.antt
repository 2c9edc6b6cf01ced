-- How the text of a document's run is printed: its hosts' names, the spellings of certificates and categories, and SHA-256 in
-- lower-case hex. A world's text is then the model's.
use Rattle.std.specs.Prelude.{ℕ, List, map, flat_map}
use Rattle.sha2.specs.Sha256.{sha256}
use Rattle.ds_cert.specs.Spelling.{spelling_of_delegation, spelling_of_address, spelling_of_category}
use Rattle.ds_model.specs.Plan.{Plan}
use Rattle.ds_model.specs.Print.{Printing, hex_byte}
use Rattle.ds_plan.specs.declared.doc.Doc.{Doc}
use Rattle.ds_plan.specs.declared.host.HostSpec.{HostSpec}
use Rattle.ds_setup.specs.Plans.{plan_of}

-- the digest of bytes as text
unfoldable pub digest_text : List ℕ → List ℕ
digest_text bytes = flat_map hex_byte (sha256 bytes)

abbrev pub name_of : HostSpec → List ℕ
name_of h = h.name

unfoldable pub printing_of : Doc → Printing
printing_of d = record {
  names = map name_of d.hosts;
  delegation = spelling_of_delegation;
  address = spelling_of_address;
  category = spelling_of_category;
  digest = digest_text;
}

-- the plan of a document, which code doesn't open
unfoldable pub planned : Doc → Plan
planned d = plan_of d
