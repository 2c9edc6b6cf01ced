-- What the derived `cmp` and `==` of actors, names and keys compute.
use Rattle.std.proofs.Common.{◌≡◌, ℕ, Bool, true, false, ◌&&◌, ◌==◌, refl, ap, ◌∙◌, arith}
use Rattle.std.specs.declared.cmp.Ordering.{Ordering}
use Rattle.std.specs.declared.cmp.Ordering.TheVariants.{Less, Equal, Greater}
use Rattle.std.specs.Ordering.{ordering_then, nat_cmp, is_eq}
use Rattle.std.specs.Cmp.{IsTotalOrder}
use Rattle.std.proofs.lemmas.Cmp.{nat_cmp_total, on_total, then_total}
use Rattle.std.proofs.lemmas.Bool.{eqb-true}
use Rattle.std.proofs.lemmas.Bool.Decides.{nat_tests}
use Rattle.ds_script.specs.declared.actor.ActorKind.{ActorKind}
use Rattle.ds_script.specs.declared.actor.ActorKind.TheVariants.{Clock, Proc, Lane, Conn}
use Rattle.ds_script.specs.declared.actor.Actor.{Actor}
use Rattle.ds_script.specs.contracts.actor.ActorKindOrd.TheImpl as order_kind
use Rattle.ds_script.specs.contracts.actor.ActorOrd.TheImpl as order_actor
use Rattle.ds_merge.specs.declared.kept.ObjectName.{ObjectName}
use Rattle.ds_merge.specs.contracts.kept.ObjectNameOrd.TheImpl as order_name
use Rattle.ds_merge.specs.declared.order.EventKey.{EventKey}
use Rattle.ds_merge.specs.contracts.order.EventKeyOrd.TheImpl as order_key
use Rattle.ds_merge.specs.Order.{kind_place, actor_cmp, key_cmp}
use Rattle.ds_merge.specs.Standing.{same_actor, same_name}
use Rattle.ds_merge.specs.Tables.{name_cmp}

kinds_cmp : (k l : ActorKind) → (order_kind.ghosts).cmp k l ≡ nat_cmp (kind_place k) (kind_place l)
kinds_cmp Clock Clock = refl
kinds_cmp Clock Proc = refl
kinds_cmp Clock Lane = refl
kinds_cmp Clock Conn = refl
kinds_cmp Proc Clock = refl
kinds_cmp Proc Proc = refl
kinds_cmp Proc Lane = refl
kinds_cmp Proc Conn = refl
kinds_cmp Lane Clock = refl
kinds_cmp Lane Proc = refl
kinds_cmp Lane Lane = refl
kinds_cmp Lane Conn = refl
kinds_cmp Conn Clock = refl
kinds_cmp Conn Proc = refl
kinds_cmp Conn Lane = refl
kinds_cmp Conn Conn = refl

pub actors_cmp : (a b : Actor) → (order_actor.ghosts).cmp a b ≡ actor_cmp a b
actors_cmp a b = ap (λ (o : Ordering). ordering_then o (ordering_then (nat_cmp a.host b.host) (nat_cmp a.index b.index))) (kinds_cmp a.kind b.kind)

pub names_cmp : (a b : ObjectName) → (order_name.ghosts).cmp a b ≡ name_cmp a b
names_cmp a b = refl

pub keys_cmp : (a b : EventKey) → (order_key.ghosts).cmp a b ≡ key_cmp a b
keys_cmp a b = ap (ordering_then (nat_cmp a.stamp b.stamp)) (actors_cmp a.who b.who)

pub actor_total : IsTotalOrder actor_cmp
actor_total = then_total (on_total (λ (a : Actor). kind_place a.kind) nat_cmp_total) (then_total (on_total (λ (a : Actor). a.host) nat_cmp_total) (on_total (λ (a : Actor). a.index) nat_cmp_total))

pub key_total : IsTotalOrder key_cmp
key_total = then_total (on_total (λ (k : EventKey). k.stamp) nat_cmp_total) (on_total (λ (k : EventKey). k.who) actor_total)

-- ---- which names and actors tie

is_eq_then : (o p : Ordering) → is_eq (ordering_then o p) ≡ (is_eq o && is_eq p)
is_eq_then Less p = refl
is_eq_then Equal p = refl
is_eq_then Greater p = refl

is_eq_number : (a b : ℕ) → is_eq (nat_cmp a b) ≡ (a == b)
is_eq_number a b = grind (arith, nat_tests)

three : (o p q : Ordering) (a b c : Bool) → is_eq o ≡ a → is_eq p ≡ b → is_eq q ≡ c → is_eq (ordering_then o (ordering_then p q)) ≡ (a && (b && c))
three o p q a b c e f g = is_eq_then o (ordering_then p q) ∙ (λ i. e i && is_eq_then p q i) ∙ (λ i. a && (f i && g i))

pub name_ties : (a b : ObjectName) → is_eq (name_cmp a b) ≡ same_name a b
name_ties a b = three (nat_cmp a.host b.host) (nat_cmp a.kind b.kind) (nat_cmp a.id b.id) _ _ _ (is_eq_number a.host b.host) (is_eq_number a.kind b.kind) (is_eq_number a.id b.id)

pub actor_ties : (a b : Actor) → is_eq (actor_cmp a b) ≡ same_actor a b
actor_ties a b = three (nat_cmp (kind_place a.kind) (kind_place b.kind)) (nat_cmp a.host b.host) (nat_cmp a.index b.index) _ _ _ (is_eq_number (kind_place a.kind) (kind_place b.kind)) (is_eq_number a.host b.host) (is_eq_number a.index b.index)

and_true : (a b : Bool) → (a && b) ≡ true → (a ≡ true) × (b ≡ true)
and_true true b e = (refl, e)
and_true false b e = cc

pub same_name_is : (a b : ObjectName) → same_name a b ≡ true → a ≡ b
same_name_is a b h =
    let x = and_true (a.host == b.host) ((a.kind == b.kind) && (a.id == b.id)) h in
    let y = and_true (a.kind == b.kind) (a.id == b.id) x.1 in
    let p = eqb-true a.host b.host x.0 in
    let q = eqb-true a.kind b.kind y.0 in
    let r = eqb-true a.id b.id y.1 in
    (λ i. record { host = p i; kind = q i; id = r i })
