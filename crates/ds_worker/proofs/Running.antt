-- Runs of turns: one turn more, one run behind another, and what a loop of turns did.
use Rattle.std.proofs.Common.{◌≡◌, ℕ, zero, suc, ◌+◌, ◌<◌, Bool, true, false, sym, subst, arith}
use Rattle.std.specs.Prelude.{Result, Ok, Err, OnErr}
use Rattle.std.specs.Bool.{MatchBool}
use Rattle.ds_worker.specs.declared.limit.TheConstants.{TURN_LIMIT}
use Rattle.ds_worker.specs.Runs.{Ran, Stopped, Worked}

pub ran_none : {X : Type 0} (Turn : X → X → Type 0) (a b : X) → b ≡ a → Ran Turn 0 a b
unfolding Ran
ran_none Turn a b same = same

pub ran_suc : {X : Type 0} (Turn : X → X → Type 0) (n : ℕ) (a b c : X) → Ran Turn n a b → Turn b c → Ran Turn (suc n) a c
unfolding Ran
ran_suc Turn n a b c ran turn = record { mid = b; before = ran; turn = turn }

pub ran_more : {X : Type 0} (Turn : X → X → Type 0) (n m : ℕ) (a b c : X) → Ran Turn n a b → Turn b c → m ≡ n + 1 → Ran Turn m a c
ran_more Turn n m a b c ran turn e =
    let same : suc n ≡ m = omega arith in
    subst (λ (k : ℕ). Ran Turn k a c) same (ran_suc Turn n a b c ran turn)

-- A LOOP OF TURNS

pub worked_less : {X : Type 0} (Turn : X → X → Type 0) (Rest : X → Type 0) (n : ℕ) (a b c : X) → n < TURN_LIMIT → Ran Turn n a b → c ≡ b → Rest b → Worked Turn Rest n a c
worked_less Turn Rest n a b c less ran same rest = record {
  few = omega arith;
  ran = subst (λ (x : _). Ran Turn n a x) (sym same) ran;
  rests = λ _. subst Rest (sym same) rest;
}

pub worked_all : {X : Type 0} (Turn : X → X → Type 0) (Rest : X → Type 0) (n : ℕ) (a b : X) → Ran Turn n a b → n ≡ TURN_LIMIT → Worked Turn Rest TURN_LIMIT a b
worked_all Turn Rest n a b ran all = record {
  few = omega arith;
  ran = subst (λ (k : ℕ). Ran Turn k a b) all ran;
  rests = λ less. absurd (omega arith);
}

pub stopped_so : {X : Type 0} (Turn Left : X → X → Type 0) (n : ℕ) (a b c : X) → n < TURN_LIMIT → Ran Turn n a b → Left b c → Stopped Turn Left n a c
stopped_so Turn Left n a b c less ran left = record { few = less; mid = b; ran = ran; left = left }

-- TWO RUNS

pub ran_join : {X : Type 0} (Turn : X → X → Type 0) (n m : ℕ) (a b c : X) → Ran Turn n a b → Ran Turn m b c → Ran Turn (n + m) a c
unfolding Ran
ran_join Turn n zero a b c first second =
    let same : n ≡ n + 0 = omega arith in
    subst (λ (k : ℕ). Ran Turn k a c) same (subst (λ (x : _). Ran Turn n a x) (sym second) first)
ran_join Turn n (suc m) a b c first second =
    let same : suc (n + m) ≡ n + suc m = omega arith in
    let before : Ran Turn (n + m) a second.mid = ran_join Turn n m a b second.mid first second.before in
    subst (λ (k : ℕ). Ran Turn k a c) same (ran_suc Turn (n + m) a second.mid c before second.turn)

-- turns that are turns of another kind
pub ran_as : {X : Type 0} (Turn Other : X → X → Type 0) → ((a b : X) → Turn a b → Other a b) → (n : ℕ) (a b : X) → Ran Turn n a b → Ran Other n a b
unfolding Ran
ran_as Turn Other as_other zero a b ran = ran
ran_as Turn Other as_other (suc n) a b ran =
    ran_suc Other n a ran.mid b (ran_as Turn Other as_other n a ran.mid ran.before) (as_other ran.mid b ran.turn)

-- what each turn keeps
pub ran_keeps : {X : Type 0} (Turn : X → X → Type 0) (P : X → Type 0) → ((a b : X) → Turn a b → P a → P b) → (n : ℕ) (a b : X) → Ran Turn n a b → P a → P b
unfolding Ran
ran_keeps Turn P keeps zero a b ran p = subst P (sym ran) p
ran_keeps Turn P keeps (suc n) a b ran p = keeps ran.mid b ran.turn (ran_keeps Turn P keeps n a ran.mid ran.before p)

-- A FAULT

pub on_error : {T E : Type 0} (r : Result T E) (P : Type 0) → P → OnErr r P
on_error (Ok x) P p = tt
on_error (Err e) P p = p

-- ONE TURN, BY WHETHER IT MADE AN EVENT

pub made_one : (P Q : Type 0) (made : Bool) → MatchBool made P Q → made ≡ true → P
made_one P Q true holds e = holds
made_one P Q false holds e = absurd cc

pub made_none : (P Q : Type 0) (made : Bool) → MatchBool made P Q → made ≡ false → Q
made_none P Q true holds e = absurd cc
made_none P Q false holds e = holds

-- for a loop of turns that counts them
pub ruleset turns_in_a_loop = (ran_none, ran_more, worked_less, worked_all)
