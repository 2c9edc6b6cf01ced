-- Reading labels and certificates.
use Rattle.std.specs.Prelude.{ℕ, zero, suc, List, [], ◌∷◌, length, Option, Some, None, Result, Ok, Err, ◌==◌, if◌then◌else◌}
use Rattle.std.specs.List.{list_all}
use Rattle.std.specs.Int.{w8, w16, w32, w64}
use Rattle.ds_wire.specs.Fields.{number_at, bytes_at}
use Rattle.ds_label.specs.declared.category.PubKey.{PubKey}
use Rattle.ds_label.specs.declared.category.Category.{Category}
use Rattle.ds_label.specs.Flow.{is_above}
use Rattle.ds_label.specs.Names.{by_name}
use Rattle.ds_cert.specs.declared.delegation.Delegation.{Delegation}
use Rattle.ds_cert.specs.declared.address.Address.{Address}
use Rattle.ds_cert.specs.declared.lane.LaneCert.{LaneCert}
use Rattle.ds_cert.specs.declared.cert.Cert.{Cert}
use Rattle.ds_cert.specs.declared.cert.Cert.TheVariants as certs
use Rattle.ds_cert.specs.Ranges.{is_letter}
use Rattle.ds_cert.specs.Categories.{category_in}
use Rattle.ds_cert.specs.Fields.{◌>>=◌, whole, number_within, counted_at, alone, placed}

-- a moment in seconds
abbrev pub moment_at : List ℕ → Result (ℕ × List ℕ) ℕ
moment_at bytes = whole bytes (number_at w64 bytes)

unfoldable pub key_at : List ℕ → Result (PubKey × List ℕ) ℕ
key_at bytes = do
  key ← whole bytes (bytes_at 56 bytes)
  Ok (record { 0 = key.0 }, key.1)

-- a category is one field
abbrev pub category_at : List ℕ → Result (Category × List ℕ) ℕ
category_at bytes = whole bytes (category_in bytes)

-- a category that is above the last one, if there is one
unfoldable pub category_above : Option Category → List ℕ → Result (Category × List ℕ) ℕ
category_above last bytes = do
  c ← category_at bytes
  if is_above by_name c.0 last then Ok c else Err (length bytes)

-- that many categories, each above the one before it
unfoldable pub members_at : ℕ → Option Category → List ℕ → Result (List Category × List ℕ) ℕ
members_at zero last bytes = Ok ([], bytes)
members_at (suc n) last bytes = do
  first ← category_above last bytes
  others ← members_at n (Some first.0) first.1
  Ok (first.0 ∷ others.0, others.1)

unfoldable pub label_at : List ℕ → Result (List Category × List ℕ) ℕ
label_at bytes = do
  count ← number_within w8 0 64 bytes
  members_at count.0 None count.1

unfoldable pub address_text_at : List ℕ → Result (List ℕ × List ℕ) ℕ
address_text_at bytes = do
  count ← number_within w8 1 64 bytes
  text ← whole count.1 (bytes_at count.0 count.1)
  if list_all is_letter text.0 then Ok text else Err (length count.1)

abbrev pub signature_at : List ℕ → Result (List ℕ × List ℕ) ℕ
signature_at bytes = counted_at w16 0 2508 bytes

unfoldable pub delegation_at : List ℕ → Result (Delegation × List ℕ) ℕ
delegation_at bytes = do
  tag ← number_within w8 1 1 bytes
  category ← category_at tag.1
  to ← key_at category.1
  from ← moment_at to.1
  until ← moment_at from.1
  by ← key_at until.1
  signature ← signature_at by.1
  Ok (record { category = category.0; to = to.0; from = from.0; until = until.0; by = by.0; signature = signature.0 }, signature.1)

unfoldable pub address_at : List ℕ → Result (Address × List ℕ) ℕ
address_at bytes = do
  tag ← number_within w8 2 2 bytes
  exporter ← key_at tag.1
  text ← address_text_at exporter.1
  from ← moment_at text.1
  until ← moment_at from.1
  signature ← signature_at until.1
  Ok (record { exporter = exporter.0; address = text.0; from = from.0; until = until.0; signature = signature.0 }, signature.1)

unfoldable pub lane_cert_at : List ℕ → Result (LaneCert × List ℕ) ℕ
lane_cert_at bytes = do
  tag ← number_within w8 3 3 bytes
  exporter ← key_at tag.1
  lane ← number_within w32 1 32 exporter.1
  receiver ← key_at lane.1
  label ← label_at receiver.1
  key ← key_at label.1
  from ← moment_at key.1
  until ← moment_at from.1
  signature ← signature_at until.1
  Ok (record { exporter = exporter.0; lane = lane.0; receiver = receiver.0; label = label.0; key = key.0; from = from.0; until = until.0; signature = signature.0 }, signature.1)

-- What a whole input is, or the place of the first fault.
unfoldable pub read_label : List ℕ → Result (List Category × List ℕ) ℕ
read_label input = placed input (label_at input)

unfoldable pub read_delegation : List ℕ → Result Delegation ℕ
read_delegation input = placed input (alone (delegation_at input))

unfoldable pub read_address : List ℕ → Result Address ℕ
read_address input = placed input (alone (address_at input))

unfoldable pub read_lane_cert : List ℕ → Result LaneCert ℕ
read_lane_cert input = placed input (alone (lane_cert_at input))

abbrev pub as_delegation : Result Delegation ℕ → Result Cert ℕ
as_delegation (Ok d) = Ok (certs.Delegation d)
as_delegation (Err place) = Err place

abbrev pub as_address : Result Address ℕ → Result Cert ℕ
as_address (Ok a) = Ok (certs.Address a)
as_address (Err place) = Err place

-- the first byte tells the kind; another one, or none, is at fault
abbrev pub read_by_tag : List ℕ → List ℕ → Result Cert ℕ
read_by_tag input [] = Err 0
read_by_tag input (tag ∷ rest) =
    if tag == 1 then as_delegation (read_delegation input)
    else if tag == 2 then as_address (read_address input)
    else Err 0

unfoldable pub read_cert : List ℕ → Result Cert ℕ
read_cert input = read_by_tag input input
