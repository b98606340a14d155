-- Execution: what a statement makes of an environment (ISO/IEC 23001-4, RVC-CAL: statements; CAL Language Report,
-- statements).
-- Trusted: part of what a promise means.
use Rattle.std.specs.Prelude.{ℕ, zero, suc, false, List, [], ◌∷◌, length, if◌then◌else◌, ℤ, pos, ◌+ℤ◌, Option, None, Some}
use Rattle.std.specs.Str.{bytes_eq}
use Rattle.cal_ast.specs.Tree as tree
use Rattle.cal_ast.specs.Tree.{Tree}
use Rattle.cal_model.specs.Value.{Shape, Value, Num, Values, stored, zero_of}
use Rattle.cal_model.specs.Outcome.{Out, Gives, Lacks, Clashes, and_then, turn}
use Rattle.cal_model.specs.Env.{Var, Env, variable, with_local, back_to, assign}
use Rattle.cal_model.specs.Expression.{Calls, eval, eval_all, chosen, span, range_of, type_meant}
use Rattle.cal_model.specs.Actor.{Proc}
use Rattle.cal_model.specs.Call.{declared, on_call}

-- what a procedure makes of the globals: by its name, for these arguments, if so many turns are left
abbrev pub Runs : Type 0
Runs = List Var → List ℕ → Values → ℕ → Out (List Var)

-- ---- loops

-- A `while`: as long as its condition is true, a turn and then its body. No more turns are made than are left, so
-- `most` is one more than these.
abbrev pub while_loop : (most : ℕ) → (Env → ℕ → Out Value) → (Env → ℕ → Out Env) → Env → ℕ → Out Env
while_loop zero test body env left = turn zero (λ m. Gives env m)
while_loop (suc most) test body env left =
    and_then (test env left) (λ v m.
    chosen v (λ k. turn k (λ j. and_then (body env j) (λ next i. while_loop most test body next i)))
    (λ k. Gives env k) m)

-- a `foreach` over so many numbers from i on: a turn, and then the body at the number
abbrev pub for_loop : ℕ → ℤ → (ℤ → Env → ℕ → Out Env) → Env → ℕ → Out Env
for_loop zero i body env left = Gives env left
for_loop (suc n) i body env left =
    turn left (λ m. and_then (body i env m) (λ next k. for_loop n (i +ℤ pos 1) body next k))

-- a part inside which there are more locals
abbrev pub inside : Env → Env → (Env → ℕ → Out Env) → ℕ → Out Env
inside env inner body left = and_then (body inner left) (λ next k. Gives (back_to env next) k)

-- ---- variables of a block

-- the start of a variable, which may be absent
abbrev pub first_of : Shape → Tree → Calls → Env → ℕ → Out Value
first_of t tree.absent calls env left = Gives (zero_of t) left
first_of t (tree.present e) calls env left = and_then (eval e calls env left)
    (λ v k. Gives (stored t v) k)
first_of t other calls env left = Clashes

-- the environment with these variables, in order: each sees those before it
abbrev pub with_vars : Tree → Calls → Env → ℕ → Out Env
with_vars tree.nil calls env left = Gives env left
with_vars (tree.cons (tree.var shape (tree.ident name place) start changes at) vars) calls env
    left =
    and_then (type_meant shape calls env left) (λ t m.
    and_then (first_of t start calls env m)
    (λ v k. with_vars vars calls (with_local (variable name t changes v) env) k))
with_vars other calls env left = Clashes

-- ---- execution

abbrev mutual
  pub exec : Tree → Calls → Runs → Env → ℕ → Out Env
  -- the indices, then the value; then the indices are tested
  exec (tree.assign (tree.ident name place) places value at) calls runs env left =
      and_then (eval_all places calls env left)
      (λ is m. and_then (eval value calls env m) (λ v k. assign env name is v k))
  exec (tree.call_stmt (tree.ident name place) args at) calls runs env left =
      and_then (eval_all args calls env left) (λ vs m. turn m (λ k.
      and_then (runs env.globals name vs k)
      (λ globals j. Gives (record env { globals = globals }) j)))
  exec (tree.if_stmt test first other at) calls runs env left =
      and_then (eval test calls env left)
      (λ v m. chosen v (λ k. exec_all first calls runs env k)
      (λ k. exec_all other calls runs env k) m)
  exec (tree.while_stmt test body at) calls runs env left =
      while_loop (suc left) (λ now k. eval test calls now k)
      (λ now k. exec_all body calls runs now k) env left
  -- both bounds once, and the variable is a constant of each turn
  exec (tree.foreach_stmt shape (tree.ident name place) from to body at) calls runs env left =
      and_then (type_meant shape calls env left) (λ t h.
      and_then (eval from calls env h) (λ a j.
      and_then (eval to calls env j) (λ b k.
      range_of a b (λ low high.
      for_loop (span low high) low (λ i now m. inside now
      (with_local (variable name t false (stored t (Num i))) now)
      (λ inner n. exec_all body calls runs inner n) m) env k))))
  exec (tree.block vars body at) calls runs env left =
      and_then (with_vars vars calls env left)
      (λ inner m. inside env inner (λ now k. exec_all body calls runs now k) m)
  -- what is no statement
  exec other calls runs env left = Clashes

  -- statements in order; those of an `else` may be absent
  pub exec_all : Tree → Calls → Runs → Env → ℕ → Out Env
  exec_all tree.nil calls runs env left = Gives env left
  exec_all (tree.cons s rest) calls runs env left = and_then (exec s calls runs env left)
      (λ next m. exec_all rest calls runs next m)
  exec_all tree.absent calls runs env left = Gives env left
  exec_all (tree.present body) calls runs env left = exec_all body calls runs env left
  exec_all other calls runs env left = Clashes

-- ---- procedures

-- the locals in order, and then the body
abbrev pub performed : Proc → Calls → Runs → List Var → Values → ℕ → Out (List Var)
performed p calls runs globals args left =
    and_then (on_call globals p.formals args left) (λ entry h.
    and_then (declared p.locals calls entry h) (λ env m.
    and_then (exec_all p.body calls runs env m) (λ last k. Gives last.globals k)))

abbrev pub proc_named : List ℕ → List Proc → Option Proc
proc_named name [] = None
proc_named name (p ∷ ps) = if bytes_eq p.name name then Some p else proc_named name ps

-- what procedures do, if at most so many of their calls are open at once
abbrev pub runs_within : ℕ → List Proc → Calls → Runs
runs_within zero procs calls globals name args left = Lacks
runs_within (suc n) procs calls globals name args left =
    elim (proc_named name procs) [
      | None ↦ Lacks
      | Some p ↦ performed p calls
          (runs_within n procs calls) globals args left
    ]

-- What procedures do. None calls itself, directly or indirectly, so never more of their calls are open than
-- there are procedures.
abbrev pub runs_of : List Proc → Calls → Runs
runs_of procs calls = runs_within (length procs) procs calls
