-- Where there is no connection nothing is accepted or delivered, and no byte arrives.
use Rattle.std.proofs.Common.{◌≡◌, ℕ, ◌≤◌, List, [], ◌∷◌, length, map, get_or, refl, sym, ap, ◌∙◌, subst, arith}
use Rattle.std.specs.Prelude.{◌==◌, Bool, true}
use Rattle.std.proofs.lemmas.Bool.Decides.{nat_tests}
use Rattle.std.proofs.lemmas.List.{append-nil, length-map}
use Rattle.std.proofs.lemmas.Option.{none-some, slice_get_past}
use Rattle.ds_frame.specs.Fields.{number_from}
use Rattle.ds_frame.specs.Outer.{read_outer_hello}
use Rattle.ds_frame.specs.Checks.{read_hello, read_item}
use Rattle.ds_frame.specs.Streams.{read_on}
use Rattle.ds_inlet.specs.Hosts.{host_reading}
use Rattle.ds_model.specs.Lists.{at}
use Rattle.ds_model.specs.ConnectionStep.{ConnWaits, accept, deliver}
use Rattle.ds_model.specs.Step.{perform_conn}
use Rattle.ds_model.proofs.Places.{at_still}
use Rattle.ds_setup.proofs.Places.{past}
use Rattle.ds_inlet.specs.Connections.{Connection, arrived_more}
use Rattle.ds_scheme.specs.TheScheme.{scheme}
use Rattle.ds_exporter.specs.HostStates.{HostState}
use Rattle.ds_exporter.specs.PlainHosts.{arrived_at, arrived_of, conn_at, conn_of, ends_of, host_of, no_conn, site_of}

nothing_read : (e : HostState) → accept scheme (site_of e) no_conn [] ≡ ConnWaits
unfolding read_on host_reading read_item read_hello read_outer_hello number_from
nothing_read e = refl

nothing_peered : (e : HostState) → deliver scheme (site_of e) no_conn [] ≡ ConnWaits
unfolding read_on host_reading read_item read_hello read_outer_hello number_from
nothing_peered e = refl

none_there : {X Y : Type 0} (f : X → Y) (xs : List X) (i : ℕ) (d : Y) → length xs ≤ i → get_or (map f xs) i d ≡ d
none_there f xs i d le = past (map f xs) i d (slice_get_past (map f xs) i (subst (λ (n : ℕ). n ≤ i) (sym (length-map xs f)) le))

module _ (e : HostState) (conn : ℕ) (link : List ℕ) (le : length e.conns ≤ conn) where
  no_conn_at : conn_at link conn e ≡ no_conn
  no_conn_at = none_there (conn_of e.desk.here e.desk.desk.rows link) e.conns conn no_conn le

  no_byte_at : arrived_at conn e ≡ []
  no_byte_at = none_there arrived_of e.conns conn [] le

  accepts : accept scheme (site_of e) (conn_at link conn e) (arrived_at conn e) ≡ ConnWaits
  accepts = (λ i. accept scheme (site_of e) (no_conn_at i) (no_byte_at i)) ∙ nothing_read e

  delivers : deliver scheme (site_of e) (conn_at link conn e) (arrived_at conn e) ≡ ConnWaits
  delivers = (λ i. deliver scheme (site_of e) (no_conn_at i) (no_byte_at i)) ∙ nothing_peered e

  pub nothing_accepted : ends_of link conn e ≡ perform_conn scheme (site_of e) (host_of e) (conn_at link conn e) (accept scheme (site_of e) (conn_at link conn e) (arrived_at conn e))
  nothing_accepted = sym (ap (perform_conn scheme (site_of e) (host_of e) (conn_at link conn e)) accepts)

  pub nothing_delivered : ends_of link conn e ≡ perform_conn scheme (site_of e) (host_of e) (conn_at link conn e) (deliver scheme (site_of e) (conn_at link conn e) (arrived_at conn e))
  nothing_delivered = sym (ap (perform_conn scheme (site_of e) (host_of e) (conn_at link conn e)) delivers)

-- no byte changes nothing, and none arrives where there is no connection
none_more : (k : Connection) → arrived_more [] k ≡ k
none_more k = λ j. record k { arrived = append-nil k.arrived j; reader = record k.reader { rest = append-nil k.reader.rest j } }

no_bytes : (piece : List ℕ) (b : Bool) → b ≡ (length piece == 0) → b ≡ true → (k : Connection) → arrived_more piece k ≡ k
no_bytes [] b e t k = none_more k
no_bytes (x ∷ piece) b e t k = absurd (grind (arith, nat_tests))

pub none_arrive : (ks : List Connection) (i : ℕ) (piece : List ℕ) (b : Bool) → b ≡ (length piece == 0) → b ≡ true → ks ≡ at i (arrived_more piece) ks
none_arrive ks i piece b e t = sym (at_still i (arrived_more piece) ks (λ k h. no_bytes piece b e t k))

pub nowhere : (ks : List Connection) (i : ℕ) (piece : List ℕ) → length ks ≤ i → ks ≡ at i (arrived_more piece) ks
nowhere ks i piece le = sym (at_still i (arrived_more piece) ks (λ k h. absurd (none-some k (sym (slice_get_past ks i le) ∙ h))))
