-- Lists of certificates whose keys go by numbers: what stays as keys are added, and what a search over the numbers finds.
use Rattle.std.proofs.Common.{◌≡◌, ℕ, ◌<◌, ◌≤◌, List, [], ◌∷◌, ◌++◌, length, refl, sym, ◌∙◌, ap, subst, arith}
use Rattle.std.specs.Prelude.{Option, Some, None, IfSome, IfNone, IfOk, IsSome, is_some, IsTrue, OnErr, ◌↔◌, Result, Ok, Err}
use Rattle.std.specs.Cmp.Lexicographic.{bytes_decides}
use Rattle.std.proofs.lemmas.List.{map_push}
use Rattle.std.proofs.lemmas.List.Elements.{All-head, All-tail}
use Rattle.std.specs.declared.alloc.AllocError.{AllocError}
use Rattle.ds_chain.specs.declared.edge.Edge.{Edge}
use Rattle.ds_label.specs.declared.category.PubKey.{PubKey}
use Rattle.ds_chain.specs.Chain.{LeadsTo, IsShortestChain}
use Rattle.ds_chain.specs.Keys.{IsSameness}
use Rattle.ds_chain.specs.Holding.{holds}
use Rattle.ds_chain.specs.Shortest.{shortest_chain}
use Rattle.ds_chain.specs.Distance.{AreBelow}
use Rattle.ds_chain.specs.Keys.{same_key}
use Rattle.ds_chain.specs.Naming.{named_hop, key_of, hops_of, AreNumbered, HasNumber}
use Rattle.ds_chain.proofs.Chains.{shortest_here}
use Rattle.ds_chain.proofs.Shortest.{shortest_given, given_shortest, none_given, holds_given}
use Rattle.ds_chain.proofs.Names.{named_shortest, named_none, signer_named, end_named}

pub same_key_is : IsSameness same_key
same_key_is a b = (λ e. ap (λ (bytes : List ℕ). record { 0 = bytes }) ((bytes_decides a.0 b.0).0 e), λ e. (bytes_decides a.0 b.0).1 (ap (λ (k : PubKey). k.0) e))

-- what holds either way holds where the result is an error
pub on_error : {X E : Type 0} (r : Result X E) (P : Type 0) → P → OnErr r P
on_error (Ok x) P p = tt
on_error (Err e) P p = p

-- as keys are added the certificates stay
pub hops_kept : (old new : List PubKey) (edges : List (Option (Edge ℕ))) → AreBelow (length old) edges → ((k : ℕ) → k < length old → key_of new k ≡ key_of old k) → hops_of new edges ≡ hops_of old edges
hops_kept old new [] below kept = refl
hops_kept old new (entry ∷ edges) below kept =
    let rest : hops_of new edges ≡ hops_of old edges = hops_kept old new edges (All-tail (λ (x : Option (Edge ℕ)). IfSome x (λ edge. (edge.by < length old) × (edge.to < length old))) entry edges below) kept in
    let first : named_hop (key_of new) entry ≡ named_hop (key_of old) entry = same entry (All-head (λ (x : Option (Edge ℕ)). IfSome x (λ edge. (edge.by < length old) × (edge.to < length old))) entry edges below) in
    cc
  where
    same : (x : Option (Edge ℕ)) → IfSome x (λ edge. (edge.by < length old) × (edge.to < length old)) → named_hop (key_of new) x ≡ named_hop (key_of old) x
    same None l = refl
    same (Some edge) l =
        let b : key_of new edge.by ≡ key_of old edge.by = kept edge.by l.0 in
        let t : key_of new edge.to ≡ key_of old edge.to = kept edge.to l.1 in
        cc

-- the same over two keys
pub kept_over : (old middle new : List PubKey) (edges : List (Option (Edge ℕ))) (by to : PubKey) (n m : ℕ) → AreBelow (length old) edges → HasNumber old middle by n → HasNumber middle new to m → hops_of new edges ≡ hops_of old edges
kept_over old middle new edges by to n m below h k = hops_kept old new edges below (λ i l. let g : length old ≤ length middle = h.longer in k.kept i (omega arith) ∙ h.kept i l)

-- one certificate more, whose keys have numbers
pub hops_push : (old middle new : List PubKey) (edges : List (Option (Edge ℕ))) (by to : PubKey) (n m : ℕ) → AreBelow (length old) edges → HasNumber old middle by n → HasNumber middle new to m
    → hops_of new (edges ++ Some (record { by = n; to = m }) ∷ []) ≡ hops_of old edges ++ Some (record { by = by; to = to }) ∷ []
hops_push old middle new edges by to n m below h k =
    let pushed : hops_of new (edges ++ Some (record { by = n; to = m }) ∷ []) ≡ hops_of new edges ++ Some (record { by = key_of new n; to = key_of new m }) ∷ [] = map_push (named_hop (key_of new)) edges (Some (record { by = n; to = m })) in
    let kept : hops_of new edges ≡ hops_of old edges = kept_over old middle new edges by to n m below h k in
    let b : key_of new n ≡ by = k.kept n h.within ∙ h.named in
    let t : key_of new m ≡ to = k.named in
    cc

module _ (keys : List PubKey) (edges : List (Option (Edge ℕ))) (numbered : AreNumbered keys edges) (creator key : PubKey) where
  -- a search over the numbers answers for the keys
  pub answers : (n m : ℕ) → n < length keys → m < length keys → key_of keys n ≡ creator → key_of keys m ≡ key → (result : Result (Option (List ℕ)) AllocError)
      → IfOk result (λ answer. IfSome answer (λ chain. IsShortestChain edges n chain m)) → IfOk result (λ answer. IfNone answer ((places : List ℕ) → LeadsTo edges n places m → ⊥))
      → IfOk result (λ answer. answer ≡ shortest_chain same_key (hops_of keys edges) creator key)
  answers n m ln lm en em (Err e) p q = tt
  answers n m ln lm en em (Ok None) p q =
      sym (none_given same_key same_key_is (hops_of keys edges) key creator (λ places l.
      named_none (key_of keys) (length keys) numbered.naming edges numbered.below n m ln lm q places
      (subst (λ (k : PubKey). LeadsTo (hops_of keys edges) (key_of keys n) places k) (sym em) (subst (λ (k : PubKey). LeadsTo (hops_of keys edges) k places key) (sym en) l))))
  answers n m ln lm en em (Ok (Some chain)) p q =
      sym (given_shortest same_key same_key_is (hops_of keys edges) key creator chain
      (subst (λ (k : PubKey). IsShortestChain (hops_of keys edges) creator chain k) em (subst (λ (k : PubKey). IsShortestChain (hops_of keys edges) k chain (key_of keys m)) en
      (named_shortest (key_of keys) (length keys) numbered.naming edges numbered.below n m chain ln lm p))))

  pub no_signer : (creator ≡ key → ⊥) → ((n : ℕ) → n < length keys → key_of keys n ≡ creator → ⊥) → None ≡ shortest_chain same_key (hops_of keys edges) creator key
  no_signer apart none = sym (none_given same_key same_key_is (hops_of keys edges) key creator (λ places l.
      let (n, w, q) = signer_named (key_of keys) (length keys) numbered.naming edges numbered.below creator key places apart l in none n w q))

  pub no_end : (creator ≡ key → ⊥) → ((n : ℕ) → n < length keys → key_of keys n ≡ key → ⊥) → None ≡ shortest_chain same_key (hops_of keys edges) creator key
  no_end apart none = sym (none_given same_key same_key_is (hops_of keys edges) key creator (λ places l.
      let (n, w, q) = end_named (key_of keys) (length keys) numbered.naming edges numbered.below creator key places apart l in none n w q))

module _ (edges : List (Option (Edge PubKey))) (creator key : PubKey) where
  pub own_chain : (places : List ℕ) → creator ≡ key → places ≡ [] → Some places ≡ shortest_chain same_key edges creator key
  own_chain places e f = sym (given_shortest same_key same_key_is edges key creator places
      (subst (λ (l : List ℕ). IsShortestChain edges creator l key) (sym f) (subst (λ (k : PubKey). IsShortestChain edges creator [] k) e (shortest_here edges creator))))

  -- what the function's answer says
  pub answer_holds : (result : Result (Option (List ℕ)) AllocError) → IfOk result (λ answer. answer ≡ shortest_chain same_key edges creator key)
      → IfOk result (λ answer. IsSome answer ↔ IsTrue (holds same_key edges creator key))
  answer_holds (Err e) p = tt
  answer_holds (Ok answer) p =
      let e : holds same_key edges creator key ≡ is_some answer = holds_given same_key same_key_is edges key creator ∙ ap is_some (sym p) in
      (λ h. e ∙ h, λ h. sym e ∙ h)

  pub answer_shortest : (result : Result (Option (List ℕ)) AllocError) → IfOk result (λ answer. answer ≡ shortest_chain same_key edges creator key)
      → IfOk result (λ answer. IfSome answer (λ chain. IsShortestChain edges creator chain key))
  answer_shortest (Err e) p = tt
  answer_shortest (Ok None) p = tt
  answer_shortest (Ok (Some chain)) p = shortest_given same_key same_key_is edges key creator chain (sym p)
