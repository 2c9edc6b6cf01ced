-- What setup signs with a host's identity key, leaf by leaf: the host's address certificate, then its lanes'
-- certificates by their numbers, then the document's certificates by that host, in order.
use Rattle.std.specs.Prelude.{ℕ, ◌+◌, ◌-◌, ◌==◌, List, [], ◌∷◌, ◌++◌, length, filter, slice_get, Option, Some, None, is_some}
use Rattle.ds_cert.specs.declared.lane.LaneCert.{LaneCert}
use Rattle.ds_cert.specs.declared.cert.Cert.{Cert}
use Rattle.ds_cert.specs.declared.cert.Cert.TheVariants.{Delegation}
use Rattle.ds_cert.specs.Spelling.{signed_part_of_lane_cert}
use Rattle.ds_model.specs.Scheme.{SigningKey, delegation_by}
use Rattle.ds_model.specs.Plan.{no_signing}
use Rattle.ds_scheme.specs.TheScheme.{scheme}
use Rattle.ds_plan.specs.declared.host.HostSpec.{HostSpec}
use Rattle.ds_plan.specs.declared.host.LaneSpec.{LaneSpec}
use Rattle.ds_plan.specs.declared.cert.CertSpec.{CertSpec}
use Rattle.ds_plan.specs.declared.cert.CertSpec.TheVariants.{Made, Given}
use Rattle.ds_plan.specs.Keys.{host_key}
use Rattle.ds_plan.specs.Signed.{signature_by}
use Rattle.ds_plan.specs.Documents.{count_of, signers_of}
use Rattle.ds_setup.specs.Keys.{key_at, signing_key, lane_public_key}

-- how many leaves the address certificate takes
abbrev pub address_leaves : HostSpec → ℕ
address_leaves h = count_of (is_some h.address)

-- LANES

-- the certificate of a host's lane, unsigned: valid from 0 until the lane's end
abbrev pub unsigned_lane : List HostSpec → HostSpec → (number : ℕ) → LaneSpec → LaneCert
unsigned_lane hosts h number lane = record {
  exporter = host_key h;
  lane = number;
  receiver = key_at hosts lane.to;
  label = lane.label;
  key = lane_public_key h number;
  from = 0;
  until = lane.until;
  signature = [];
}

-- lanes are numbered from 1
abbrev pub lane_leaf : HostSpec → (number : ℕ) → ℕ
lane_leaf h number = address_leaves h + (number - 1)

abbrev pub lane_signature : HostSpec → (number : ℕ) → LaneCert → List ℕ
lane_signature h number lane = signature_by h.identity h.secret (lane_leaf h number) (signed_part_of_lane_cert lane)

abbrev pub signed_lane : List HostSpec → HostSpec → (number : ℕ) → LaneSpec → LaneCert
signed_lane hosts h number lane =
    record (unsigned_lane hosts h number lane) {
      signature = lane_signature h number (unsigned_lane hosts h number lane);
    }

-- THE DOCUMENT'S CERTIFICATES

-- how many of these certificates a host signs
abbrev pub signed_among : (host : ℕ) → List CertSpec → ℕ
signed_among host specs = length (filter (λ by. by == host) (signers_of specs))

-- the leaf behind a host's address, its lanes and these certificates
abbrev pub leaf_behind : HostSpec → (host : ℕ) → List CertSpec → ℕ
leaf_behind h host before = address_leaves h + length h.lanes + signed_among host before

-- where a document has no such host, nothing signs
abbrev pub leaf_in : Option HostSpec → (host : ℕ) → List CertSpec → ℕ
leaf_in None host before = 0
leaf_in (Some h) host before = leaf_behind h host before

abbrev pub signing_in : Option HostSpec → SigningKey
signing_in None = no_signing
signing_in (Some h) = signing_key h

-- a certificate, the hosts that keep it, and the host that signs it at setup, if one does
pub record DocCert : Type 0 where
  pub cert : Cert
  pub at : List ℕ
  pub by : Option ℕ

-- the certificate behind these
abbrev pub doc_cert : List HostSpec → (before : List CertSpec) → CertSpec → DocCert
doc_cert hosts before (Made by category to from until at) = record {
  cert = Delegation (delegation_by scheme (signing_in (slice_get hosts by)) (leaf_in (slice_get hosts by) by before)
      (key_at hosts by) category (key_at hosts to) from until);
  at = at;
  by = Some by;
}
doc_cert hosts before (Given cert at) = record { cert = cert; at = at; by = None }

abbrev pub doc_certs_behind : List HostSpec → (before : List CertSpec) → List CertSpec → List DocCert
doc_certs_behind hosts before [] = []
doc_certs_behind hosts before (c ∷ later) = doc_cert hosts before c ∷ doc_certs_behind hosts (before ++ c ∷ []) later

-- all of them, in order
abbrev pub doc_certs : List HostSpec → List CertSpec → List DocCert
doc_certs hosts specs = doc_certs_behind hosts [] specs
