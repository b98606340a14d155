-- A loop is a turn and its body, and then the same loop.
use Rattle.std.proofs.Common.{◌≡◌, ℕ, zero, suc, ◌≤◌, ℤ, pos, ◌+ℤ◌, ◌-ℤ◌, Bool, true, false, refl, sym, ap, arith}
use Rattle.std.proofs.lemmas.Int.{ints}
use Rattle.std.specs.Prelude.{if◌then◌else◌, int_lt, unsigned_abs}
use Rattle.cal_ast.specs.Tree as tree
use Rattle.cal_ast.specs.Tree.{Tree}
use Rattle.cal_model.specs.Value.{Value, Num, Truth, Items}
use Rattle.cal_model.specs.Outcome.{Out, Gives, Traps, Lacks, Clashes, and_then, turn}
use Rattle.cal_model.specs.Env.{Env}
use Rattle.cal_model.specs.Expression.{Calls, eval, chosen, span}
use Rattle.cal_model.specs.Statement.{Runs, while_loop, for_loop, exec, exec_all}
use Rattle.cal_model.specs.Keeping.{LeavesNoMore, CallsTakeTurns, RunsTakeTurns}
use Rattle.cal_model.proofs.TurnsTaken.{eval-takes, exec-all-takes}

then-same : {A B : Type 0} (o : Out A) (f g : A → ℕ → Out B) (left : ℕ) → LeavesNoMore left o → ((a : A) (m : ℕ) → m ≤ left → f a m ≡ g a m) → and_then o f ≡ and_then o g
then-same (Gives a m) f g left h i = i a m h
then-same (Traps c) f g left h i = refl
then-same Lacks f g left h i = refl
then-same Clashes f g left h i = refl

chosen-same : {A : Type 0} (v : Value) (f g h : ℕ → Out A) (left : ℕ) → f left ≡ g left → chosen v f h left ≡ chosen v g h left
chosen-same (Truth true) f g h left e = e
chosen-same (Truth false) f g h left e = refl
chosen-same (Num z) f g h left e = refl
chosen-same (Items vs) f g h left e = refl

turn-same : {A : Type 0} (left : ℕ) (f g : ℕ → Out A) → ((k : ℕ) → suc k ≤ left → f k ≡ g k) → turn left f ≡ turn left g
turn-same zero f g h = refl
turn-same (suc left) f g h = h left (omega arith)

module _ (test : Env → ℕ → Out Value) (body : Env → ℕ → Out Env)
    (tests : (now : Env) (k : ℕ) → LeavesNoMore k (test now k)) (bodies : (now : Env) (k : ℕ) → LeavesNoMore k (body now k)) where
  -- once the condition was tested: a turn, the body, and the rest
  abbrev going : (Env → ℕ → Out Env) → Env → Value → ℕ → Out Env
  going rest env v m = chosen v (λ k. turn k (λ j. and_then (body env j) rest)) (λ k. Gives env k) m

  -- rests that are the same if fewer turns are left
  going-same : (f g : Env → ℕ → Out Env) (env : Env) (left : ℕ) → ((next : Env) (i : ℕ) → suc i ≤ left → f next i ≡ g next i)
      → and_then (test env left) (λ v m. going f env v m) ≡ and_then (test env left) (λ v m. going g env v m)
  going-same f g env left h =
      then-same (test env left) _ _ left (tests env left) (λ v m less.
      chosen-same v _ _ _ m (turn-same m _ _ (λ j one.
      then-same (body env j) f g j (bodies env j) (λ next i few. h next i (omega arith)))))

  -- any bound above the turns that are left gives the same
  while-same : (p q : ℕ) (env : Env) (left : ℕ) → suc left ≤ p → suc left ≤ q → while_loop p test body env left ≡ while_loop q test body env left
  while-same zero q env left h i = absurd (omega arith)
  while-same (suc p) zero env left h i = absurd (omega arith)
  while-same (suc p) (suc q) env left h i =
      going-same (λ next k. while_loop p test body next k) (λ next k. while_loop q test body next k) env left (λ next k few.
      while-same p q next k (omega arith) (omega arith))

  pub loop-unfolds : (env : Env) (left : ℕ) → while_loop (suc left) test body env left
      ≡ and_then (test env left) (λ v m. chosen v (λ k. turn k (λ j. and_then (body env j) (λ next i. while_loop (suc i) test body next i))) (λ k. Gives env k) m)
  loop-unfolds env left =
      going-same (λ next k. while_loop left test body next k) (λ next k. while_loop (suc k) test body next k) env left (λ next k few.
      while-same left (suc k) next k few (omega arith))

pub while-unfolds : (test body : Tree) (at : ℕ) (calls : Calls) (runs : Runs) (env : Env) (left : ℕ) → CallsTakeTurns calls → RunsTakeTurns runs
    → exec (tree.while_stmt test body at) calls runs env left
    ≡ and_then (eval test calls env left) (λ v m.
    chosen v (λ k. turn k (λ j. and_then (exec_all body calls runs env j) (λ next i. exec (tree.while_stmt test body at) calls runs next i))) (λ k. Gives env k) m)
while-unfolds test body at calls runs env left c r =
    loop-unfolds (λ now k. eval test calls now k) (λ now k. exec_all body calls runs now k) (λ now k. eval-takes calls c test now k) (λ now k. exec-all-takes calls c runs r body now k) env left

-- ---- numbers in turn

next-span : (low high : ℤ) → int_lt high low ≡ false → span (low +ℤ pos 1) high ≡ unsigned_abs (high -ℤ low)
next-span low high h = go (int_lt high (low +ℤ pos 1)) refl
  where
    go : (b : Bool) → int_lt high (low +ℤ pos 1) ≡ b → (if b then 0 else suc (unsigned_abs (high -ℤ (low +ℤ pos 1)))) ≡ unsigned_abs (high -ℤ low)
    go true e = grind (arith, ints)
    go false e = grind (arith, ints)

-- a turn and the body at a number, and then so many more numbers
abbrev with_next : ℤ → (ℤ → Env → ℕ → Out Env) → Env → ℕ → ℕ → Out Env
with_next low body env left n = turn left (λ m. and_then (body low env m) (λ next k. for_loop n (low +ℤ pos 1) body next k))

pub numbers-unfold : (low high : ℤ) (body : ℤ → Env → ℕ → Out Env) (env : Env) (left : ℕ) → for_loop (span low high) low body env left
    ≡ (if int_lt high low then Gives env left else turn left (λ m. and_then (body low env m) (λ next k. for_loop (span (low +ℤ pos 1) high) (low +ℤ pos 1) body next k)))
numbers-unfold low high body env left = go (int_lt high low) refl
  where
    go : (b : Bool) → int_lt high low ≡ b
        → for_loop (if b then 0 else suc (unsigned_abs (high -ℤ low))) low body env left ≡ (if b then Gives env left else with_next low body env left (span (low +ℤ pos 1) high))
    go true e = refl
    go false e = ap (with_next low body env left) (sym (next-span low high e))
