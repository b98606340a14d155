-- Expressions in statements: their code does what evaluating them does, whatever they call.
use Rattle.std.proofs.Common.{◌≡◌, ℕ, ◌+◌, ◌<◌, ◌≤◌, ℤ, List, [], ◌∷◌, ◌++◌, length, sym, ap, subst, arith}
use Rattle.cal_ast.specs.Tree.{Tree}
use Rattle.cal_model.specs.Env.{Env}
use Rattle.cal_model.specs.Expression.{eval, eval_all}
use Rattle.code_ir.specs.declared.instr.Instr.{Instr}
use Rattle.lower_base.specs.Callees.{Function}
use Rattle.lower_base.specs.Calling.{Serves, outside}
use Rattle.lower_base.specs.Coding.{AreArgs, IsCode, IsTest}
use Rattle.lower_base.specs.Following.{Chooses, CutsOff, Follows, MayUse, Pushes}
use Rattle.lower_base.specs.Names.{Name}
use Rattle.lower_base.specs.Parted.{number_of}
use Rattle.lower_base.specs.Placed.{StandsAt, World, state}
use Rattle.lower_stmt.specs.Changing.{HoldsVars}
use Rattle.lower_stmt.specs.Procedures.{Routines}
use Rattle.lower_base.proofs.Called.{Piles}
use Rattle.lower_base.proofs.Coded.{does, does_args, does_in, singles, tests, tests_in}
use Rattle.lower_base.proofs.GivenKinds.{kinds_in}
use Rattle.lower_base.proofs.Singles.{OnlySingles, singles_in}
use Rattle.lower_base.proofs.Keeping.{apart_first, apart_last}
use Rattle.lower_base.specs.Held.{AreApart}
use Rattle.lower_stmt.proofs.Scoping.{AreLaid, HoldsInside, laid_apart, laid_below, names_held, outer_apart, outer_below}

-- what a part of some code may use of the cells that the whole may use
pub may : (w : World) (n m k h : ℕ) (cells now : List ℤ) → n ≤ k → h ≤ m → AreApart n m w.low w.high → m ≤ length cells → length now ≡ length cells → MayUse w k h now
may w n m k h cells now le ge apart room same less = (apart_last n k h w.low w.high le (apart_first n h m w.low w.high ge apart), omega (arith, ge, room, same))

-- what is known of the globals, if something may be called
pub record GlobalsHeld (outer : List Name) (tokens : ℕ → List ℤ) (high : ℕ) (cells : List ℤ) (env : Env) : Type 0 where
  pub vars : HoldsVars outer tokens cells (outside env.globals)
  pub room : high ≤ length cells

module _ (rs : Routines) (outer : List Name) (tokens : ℕ → List ℤ) (low high : ℕ) where
  pub globals_held : (inner : List Name) (cells : List ℤ) (env : Env) → HoldsInside rs outer tokens low high inner cells env → 0 < length rs.functions + length rs.procedures → GlobalsHeld outer tokens high cells env
  globals_held [] cells env (vars, can) some =
      let c = can some in
      let same : env ≡ outside env.globals = ap (λ ls. record env { locals = ls }) c.0 in
      record { vars = subst (λ (e : Env). HoldsVars outer tokens cells e) same vars; room = c.1 }
  globals_held (x ∷ inner) cells env (v, rest, is, var, below) some =
      let h : GlobalsHeld outer tokens high cells rest = globals_held inner cells rest below some in
      let same : rest.globals ≡ env.globals = ap (λ (e : Env). e.globals) (sym is) in
      record { vars = subst (λ gs. HoldsVars outer tokens cells (outside gs)) same h.vars; room = h.room }

module _ (rs : Routines) (outer : List Name) (w : World) (serves : Serves w outer rs.functions) (frames : List ℕ) (inner : List Name) where
  abbrev names : List Name
  names = inner ++ outer

  pub does_there : {e : Tree} {base n m : ℕ} {code : List Instr} → IsCode rs.functions names e base n code m → (stack cells : List ℤ) (env : Env) (left : ℕ) → StandsAt w.code.instrs base code
      → AreLaid rs outer w.tokens w.low w.high n inner → HoldsInside rs outer w.tokens w.low w.high inner cells env → MayUse w n m cells
      → Follows (eval e w.calls env left) (Pushes w n m (state base stack frames cells left) (base + length code)) (CutsOff w n m (state base stack frames cells left))
  does_there {e = e} {base = base} {n = n} {m = m} {code = code} coded stack cells env left stands laid holds usable =
      by rs.functions serves coded (λ some. globals_held rs outer w.tokens w.low w.high inner cells env holds (omega (arith, some)))
    where
      by : (fs : List Function) → Serves w outer fs → IsCode fs names e base n code m → (0 < length fs → GlobalsHeld outer w.tokens w.high cells env)
          → Follows (eval e w.calls env left) (Pushes w n m (state base stack frames cells left) (base + length code)) (CutsOff w n m (state base stack frames cells left))
      by [] serve coded can =
          does names w env frames coded stack cells left stands (laid_below rs outer w.tokens w.low w.high n inner laid) (laid_apart rs outer w.tokens w.low w.high n inner laid) (names_held rs outer w.tokens w.low w.high inner cells env holds) usable
      by (f ∷ fs) serve coded can =
          let g = can (omega arith) in
          does_in (f ∷ fs) outer names w serve env frames n m coded (omega arith) stack cells left stands (laid_below rs outer w.tokens w.low w.high n inner laid, outer_below rs outer w.tokens w.low w.high n inner laid, omega arith)
          (laid_apart rs outer w.tokens w.low w.high n inner laid, outer_apart rs outer w.tokens w.low w.high n inner laid, λ less. (usable less).0) (names_held rs outer w.tokens w.low w.high inner cells env holds, g.vars.0, λ some. g.room, λ less. (usable less).1)

  pub singles_there : {e : Tree} {base n m : ℕ} {code : List Instr} → IsCode rs.functions names e base n code m → (cells : List ℤ) (env : Env) (left : ℕ) → StandsAt w.code.instrs base code
      → AreLaid rs outer w.tokens w.low w.high n inner → HoldsInside rs outer w.tokens w.low w.high inner cells env → MayUse w n m cells → OnlySingles (eval e w.calls env left)
  singles_there {e = e} {base = base} {n = n} {m = m} {code = code} coded cells env left stands laid holds usable =
      by rs.functions serves coded (λ some. globals_held rs outer w.tokens w.low w.high inner cells env holds (omega (arith, some)))
    where
      by : (fs : List Function) → Serves w outer fs → IsCode fs names e base n code m → (0 < length fs → GlobalsHeld outer w.tokens w.high cells env) → OnlySingles (eval e w.calls env left)
      by [] serve coded can =
          singles names w env coded cells left stands (laid_below rs outer w.tokens w.low w.high n inner laid) (laid_apart rs outer w.tokens w.low w.high n inner laid) (names_held rs outer w.tokens w.low w.high inner cells env holds) usable
      by (f ∷ fs) serve coded can =
          let g = can (omega arith) in
          singles_in (f ∷ fs) outer names w serve env n m cells
          (kinds_in (f ∷ fs) outer w serve env.globals n cells (outer_below rs outer w.tokens w.low w.high n inner laid) (outer_apart rs outer w.tokens w.low w.high n inner laid) g.vars.0 (λ some. g.room))
          (laid_apart rs outer w.tokens w.low w.high n inner laid, outer_apart rs outer w.tokens w.low w.high n inner laid, λ less. (usable less).0) (names_held rs outer w.tokens w.low w.high inner cells env holds, g.vars.0, λ some. g.room, λ less. (usable less).1)
          coded (omega arith) left stands (laid_below rs outer w.tokens w.low w.high n inner laid, outer_below rs outer w.tokens w.low w.high n inner laid, omega arith)

  pub tests_there : {e : Tree} {base n far m : ℕ} {code : List Instr} → IsTest rs.functions names e base n far code m → (stack cells : List ℤ) (env : Env) (left : ℕ) → StandsAt w.code.instrs base code
      → AreLaid rs outer w.tokens w.low w.high n inner → HoldsInside rs outer w.tokens w.low w.high inner cells env → MayUse w n m cells
      → Follows (eval e w.calls env left) (Chooses w n m (state base stack frames cells left) (base + length code) far) (CutsOff w n m (state base stack frames cells left))
  tests_there {e = e} {base = base} {n = n} {far = far} {m = m} {code = code} coded stack cells env left stands laid holds usable =
      by rs.functions serves coded (λ some. globals_held rs outer w.tokens w.low w.high inner cells env holds (omega (arith, some)))
    where
      by : (fs : List Function) → Serves w outer fs → IsTest fs names e base n far code m → (0 < length fs → GlobalsHeld outer w.tokens w.high cells env)
          → Follows (eval e w.calls env left) (Chooses w n m (state base stack frames cells left) (base + length code) far) (CutsOff w n m (state base stack frames cells left))
      by [] serve coded can =
          tests names w env frames coded stack cells left stands (laid_below rs outer w.tokens w.low w.high n inner laid) (laid_apart rs outer w.tokens w.low w.high n inner laid) (names_held rs outer w.tokens w.low w.high inner cells env holds) usable
      by (f ∷ fs) serve coded can =
          let g = can (omega arith) in
          tests_in (f ∷ fs) outer names w serve env frames n m coded (omega arith) stack cells left stands (laid_below rs outer w.tokens w.low w.high n inner laid, outer_below rs outer w.tokens w.low w.high n inner laid, omega arith)
          (laid_apart rs outer w.tokens w.low w.high n inner laid, outer_apart rs outer w.tokens w.low w.high n inner laid, λ less. (usable less).0) (names_held rs outer w.tokens w.low w.high inner cells env holds, g.vars.0, λ some. g.room, λ less. (usable less).1)

  -- arguments, where something may be called
  pub args_there : {es : Tree} {base n m : ℕ} {code : List Instr} → AreArgs rs.functions names es base n code m → (stack cells : List ℤ) (env : Env) (left : ℕ) → StandsAt w.code.instrs base code
      → AreLaid rs outer w.tokens w.low w.high n inner → HoldsInside rs outer w.tokens w.low w.high inner cells env → MayUse w n m cells → 0 < length rs.functions + length rs.procedures
      → Follows (eval_all es w.calls env left) (Piles w n m (number_of es) (state base stack frames cells left) (base + length code)) (CutsOff w n m (state base stack frames cells left))
  args_there {n = n} {m = m} coded stack cells env left stands laid holds usable some =
      let g = globals_held rs outer w.tokens w.low w.high inner cells env holds some in
      does_args rs.functions outer names w serves env frames n m coded (omega arith) stack cells left stands (laid_below rs outer w.tokens w.low w.high n inner laid, outer_below rs outer w.tokens w.low w.high n inner laid, omega arith)
      (laid_apart rs outer w.tokens w.low w.high n inner laid, outer_apart rs outer w.tokens w.low w.high n inner laid, λ less. (usable less).0) (names_held rs outer w.tokens w.low w.high inner cells env holds, g.vars.0, λ more. g.room, λ less. (usable less).1)
