-- The scheme meets what the law over two runs and lawful delivery ask of a scheme.
use Rattle.std.proofs.Common.{◌≡◌, ℕ, Bool, true, List, ◌++◌, take, Some, None, ap, subst, ◌⊎◌, inl, inr}
use Rattle.std.specs.Prelude.{Result, Ok, Err, Contains}
use Rattle.ds_label.specs.declared.category.PubKey.{PubKey}
use Rattle.ds_label.specs.declared.category.Category.{Category}
use Rattle.ds_cert.specs.declared.delegation.Delegation.{Delegation}
use Rattle.ds_cert.specs.declared.lane.LaneCert.{LaneCert}
use Rattle.ds_cert.specs.Good.{is_good_delegation}
use Rattle.ds_cert.specs.Ranges.{LaneCertFits}
use Rattle.ds_cert.specs.Reading.{read_lane_cert}
use Rattle.ds_cert.proofs.Steps.{bind_ok, guard_ok, ok_is}
use Rattle.ds_frame.specs.declared.cause.Cause.TheVariants as causes
use Rattle.ds_frame.specs.declared.item.Item.TheVariants as items
use Rattle.ds_frame.specs.Checks.{is_good_lane_cert, checked_cert, read_hello}
use Rattle.ds_frame.specs.Fields.{ReadFault, Broken}
use Rattle.ds_frame.specs.Outer.{read_outer_hello}
use Rattle.ds_frame.specs.Spelling.{spelling_of_hello}
use Rattle.ds_chain.specs.Delegated.{hop_of, key_holds}
use Rattle.ds_chain.specs.Keys.{same_key}
use Rattle.ds_chain.proofs.Delegations.{hop_is}
use Rattle.ds_chain.proofs.Holdings.{closed_list_has_holders}
use Rattle.ds_chain.proofs.Numbered.{same_key_is}
use Rattle.ds_model.specs.Plan.{HostPlan, Plan, host_plan, lane_plan}
use Rattle.ds_model.specs.ConnectionStep.{peer}
use Rattle.ds_model.specs.World.{World}
use Rattle.ds_noninterference.specs.Law.{AtEnd}
use Rattle.ds_delivery.proofs.Delivered.{delivered_lawfully}
use Rattle.ds_scheme.specs.Premises.{IsDeliveredLawfully, AfterBoth}
use Rattle.ds_inlet.proofs.Steady.{steady_host}
use Rattle.ds_noninterference.specs.Premises.{IsScheme}
use Rattle.ds_delivery.specs.Premises.{IsReadable}
use Rattle.ds_scheme.specs.Spelled.{has_spelling, HasSpelledLanes}
use Rattle.ds_scheme.specs.TheScheme.{scheme}
use Rattle.ds_scheme.proofs.Firsts.{lane_none, lane_is, begins_with}
use Rattle.ds_scheme.proofs.Cuts.{ReadOrNot, WasRead, NotRead, hello_cut}
use Rattle.ds_scheme.proofs.Owns.{nothing_else}
use Rattle.ds_scheme.proofs.Standing.{signed_stands}

-- ---- who holds

closed : (certs : List Delegation) (moment : ℕ) (category : Category) (inside : PubKey → Bool) → inside category.creator ≡ true →
    ((d : Delegation) → Contains certs d → d.category ≡ category → is_good_delegation d ≡ true → inside d.by ≡ true → inside d.to ≡ true) →
    (key : PubKey) → key_holds certs moment category key ≡ true → inside key ≡ true
closed certs moment category inside start step key held =
    closed_list_has_holders same_key same_key_is (hop_of moment category) certs category.creator (λ k. inside k ≡ true) start
    (λ cert there edge is within.
    let known = hop_is moment category cert edge is in
    let signer : inside cert.by ≡ true = rw known.signer within in
    rw (← known.named) (step cert there known.counts.subject known.counts.good signer))
    key held

-- ---- hellos

-- the hello of a lane, cut anywhere, is read first, or nothing is
hello_first : (here : HostPlan) (lane : LaneCert) (rest : List ℕ) (n : ℕ) → LaneCertFits lane → (peer scheme here (take n (spelling_of_hello lane ++ rest)) ≡ None) ⊎ (peer scheme here (take n (spelling_of_hello lane ++ rest)) ≡ Some lane)
hello_first here lane rest n fits = go (hello_cut here.key here.inlets lane rest n fits)
  where
    go : ReadOrNot here.key here.inlets None (take n (spelling_of_hello lane ++ rest)) (items.Hello lane) rest → (peer scheme here (take n (spelling_of_hello lane ++ rest)) ≡ None) ⊎ (peer scheme here (take n (spelling_of_hello lane ++ rest)) ≡ Some lane)
    go (NotRead stop told) = inl (lane_none here.key here.inlets (take n (spelling_of_hello lane ++ rest)) stop told)
    go (WasRead k told) = inr (lane_is here.key here.inlets (take n (spelling_of_hello lane ++ rest)) lane (take k rest) told)

-- a hello that was read stays read
stays : (here : HostPlan) (lane : LaneCert) (bytes more : List ℕ) → peer scheme here bytes ≡ Some lane → peer scheme here (bytes ++ more) ≡ Some lane
stays here lane bytes more told =
    let b = begins_with here.key here.inlets bytes lane told in
    lane_is here.key here.inlets (bytes ++ more) lane (b.rest ++ more) ((steady_host here.key here.inlets None).goes_on bytes more (items.Hello lane, b.rest) b.reads)

-- the certificate of a hello that was read is good
cert_good : (r : Result LaneCert ℕ) (lane : LaneCert) → checked_cert r ≡ Ok lane → is_good_lane_cert lane ≡ true
cert_good (Err place) lane e = absurd cc
cert_good (Ok found) lane e =
    let g = guard_ok (is_good_lane_cert found) (Broken causes.HelloSignature 6) (Ok found) lane e in
    subst (λ (l : LaneCert). is_good_lane_cert l ≡ true) (ok_is {E = ReadFault} found lane g.1) g.0

hello_good : (bytes rest : List ℕ) (lane : LaneCert) → read_hello bytes ≡ Ok (lane, rest) → is_good_lane_cert lane ≡ true
unfolding read_hello
hello_good bytes rest lane e =
    let b = bind_ok (read_outer_hello bytes) _ (lane, rest) e in
    let c = bind_ok (checked_cert (read_lane_cert b.0.0)) (λ (l : LaneCert). Ok (l, b.0.1)) (lane, rest) b.2 in
    let same : c.0 ≡ lane = let whole : (c.0, b.0.1) ≡ (lane, rest) = ok_is {E = ReadFault} (c.0, b.0.1) (lane, rest) c.2 in ap (λ (x : LaneCert × List ℕ). x.0) whole in
    subst (λ (l : LaneCert). is_good_lane_cert l ≡ true) same (cert_good (read_lane_cert b.0.0) c.0 c.1)

-- ---- both

pub is_scheme : (plan : Plan) → HasSpelledLanes plan → IsScheme scheme plan
is_scheme plan lanes = record {
  closed = closed;
  hello_first = λ h l is here rest n. hello_first here (lane_plan (host_plan plan h) l).cert rest n (lanes h l is);
}

pub is_readable : (plan : Plan) → HasSpelledLanes plan → IsReadable scheme has_spelling plan
is_readable plan lanes = record {
  stays = stays;
  good = λ here lane bytes told. let b = begins_with here.key here.inlets bytes lane told in hello_good bytes b.rest lane b.hello;
  signed = λ here lane bytes j number messages told there. signed_stands here.key here.inlets lane bytes j number messages told there;
  own = λ h l is frames can here n j item there. nothing_else here.key here.inlets (lane_plan (host_plan plan h) l) frames (lanes h l is) can n j item there;
}

-- ---- the theorems about every scheme, of this one

pub delivered : IsDeliveredLawfully
delivered plan start events lanes setup spells = delivered_lawfully scheme has_spelling plan start events (record { scheme = is_readable plan lanes; setup = setup; spells = spells })

pub after_both : (Claim : Category → List ℕ → Plan → World → World → Type 0) → AtEnd Claim → AfterBoth Claim
after_both Claim law c trusted plan v w one two lanes runs = law scheme c trusted plan v w one two (is_scheme plan lanes) runs
