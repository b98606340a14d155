-- Code of guards, and what it answers.
-- Trusted: part of what a promise means.
use Rattle.std.specs.Prelude.{◌≡◌, ℕ, ◌+◌, ◌≤◌, ℤ, true, List, [], ◌∷◌, ◌++◌, length, take, if◌then◌else◌, Option, None, Some}
use Rattle.rvc_base.specs.Turns.{max_turns}
use Rattle.cal_ast.specs.Tree.{Tree}
use Rattle.cal_model.specs.Value.{Value, Num, Truth, Items}
use Rattle.cal_model.specs.Outcome.{Out, Gives, Traps, Lacks, Clashes}
use Rattle.cal_model.specs.Expression.{eval}
use Rattle.cal_model.specs.Call.{calls_of}
use Rattle.cal_model.specs.Actor.{Action, Actor}
use Rattle.cal_model.specs.ActorState.{IsActorState, AreTokensOf}
use Rattle.cal_model.specs.Selection.{State, has_its_tokens, seen_by}
use Rattle.code_ir.specs.declared.instr.Instr.{Instr}
use Rattle.code_ir.specs.declared.instr.Instr.TheVariants as op
use Rattle.code_ir.specs.declared.outcome.Outcome.{Outcome}
use Rattle.code_ir.specs.declared.outcome.Outcome.TheVariants as outcome
use Rattle.code_ir.specs.Code.{Code}
use Rattle.code_ir.specs.Running.{runs}
use Rattle.lower_base.specs.Callees.{Function}
use Rattle.lower_base.specs.Calling.{HasRoom, IsLoweredWith, Serves}
use Rattle.lower_base.specs.Names.{Name}
use Rattle.action_lower.specs.FiringCode.{globals_of, round}
use Rattle.action_lower.specs.Seats.{HoldVars, state_cells, taken}

-- ---- code

-- What code begins with that may clear cells first: nothing, or an instruction that clears all cells from a number of
-- state cells on, up to one that there is.
pub data IsHead : Option ℕ → ℕ → List Instr → Type 0 where
  no_head : (m : ℕ) → IsHead None m []
  clearing : (kept n m : ℕ) → kept + n ≡ m → IsHead (Some kept) m (op.Zero kept n ∷ [])

-- code of a guard: that of its expression, which may call functions, and an answer; cells may be cleared before it
pub record IsGuardCode (clears : Option ℕ) (fs : List Function) (names : List Name) (g : Tree)
    (base n : ℕ) (code : List Instr) (m : ℕ) : Type 0 where
  pub head : List Instr
  pub body : List Instr
  pub is : code ≡ head ++ (body ++ op.Answer ∷ [])
  pub begins : IsHead clears m head
  pub lowered : IsLoweredWith fs names g (base + length head) n body m

-- code of guards, one after the other, and the entries of each, where its code begins
pub data AreGuards (clears : Option ℕ) (fs : List Function) (names : List Name) :
    List Tree → List ℕ → ℕ → ℕ → List Instr → ℕ → Type 0 where
  no_guard : (base n : ℕ) → AreGuards clears fs names [] [] base n [] n
  guard_more : (g : Tree) (guards : List Tree) (entries : List ℕ) (base n k m : ℕ)
      (a b : List Instr) → IsGuardCode clears fs names g base n a k
      → AreGuards clears fs names guards entries (base + length a) k b m
      → AreGuards clears fs names (g ∷ guards) (base ∷ entries) base n (a ++ b) m

-- ---- answers

-- how a run of a guard's code ends if this is what the guard comes to: a guard is a truth value, or traps
abbrev pub guard_outcome : Out Value → Option Outcome
guard_outcome (Gives (Truth b) left) = Some (if b then outcome.True else outcome.False)
guard_outcome (Gives (Num z) left) = None
guard_outcome (Gives (Items vs) left) = None
guard_outcome (Traps cause) = Some (outcome.Trap cause)
guard_outcome Lacks = None
guard_outcome Clashes = None

-- The code that begins at an entry, run on these cells and tokens, ends as the guard says, and in no other way. The
-- state cells stay as they were.
pub record AnswersAs (code : Code) (entry kept : ℕ) (cells : List ℤ) (tokens : ℕ → List ℤ)
    (says : Out Value) : Type 0 where
  pub outcome : Outcome
  pub said : guard_outcome says ≡ Some outcome
  pub left : List ℤ
  pub ends : runs code entry cells tokens outcome left
  pub size : length left ≡ length cells
  pub keeps : take kept left ≡ take kept cells
  pub only : (o : Outcome) (last : List ℤ) → runs code entry cells tokens o last
      → (o ≡ outcome) × (last ≡ left)

-- The code that begins at an entry answers as a guard of an action in a state, over the tokens that the action takes of
-- those before it. What the guard calls is evaluated with the turns that are left; so it may trap or run out of turns
-- there.
abbrev pub IsGuardOf : Actor → ℕ → Action → Code → State → List (List ℤ) → List ℤ → Tree → ℕ → Type 0
IsGuardOf actor a act code x u cells g entry =
    AnswersAs code entry (state_cells actor) cells (taken actor u a)
    (eval g (calls_of actor.funs) (seen_by actor x u act) max_turns)

-- guard by guard
abbrev pub AreGuardsOf : Actor → ℕ → Action → Code → State → List (List ℤ) → List ℤ → List Tree → List ℕ → Type 0
AreGuardsOf actor a act code x u cells [] [] = Unit {0}
AreGuardsOf actor a act code x u cells (g ∷ guards) (entry ∷ entries) =
    IsGuardOf actor a act code x u cells g entry
    × AreGuardsOf actor a act code x u cells guards entries
AreGuardsOf actor a act code x u cells guards entries = ⊥

-- Code has routines of functions that do what those of the actor do. Their cells lie behind the state cells and before
-- those of the guards, which are the ones from n to m; and all are there.
pub record HasFunctionsOf (actor : Actor) (a : ℕ) (fs : List Function) (code : Code) (n m : ℕ)
    (u : List (List ℤ)) (cells : List ℤ) : Type 0 where
  pub low : ℕ
  pub high : ℕ
  pub serve : Serves (round actor a u code low high) (globals_of actor) fs
  pub behind : state_cells actor ≤ low
  pub before : high ≤ n
  pub room : HasRoom fs high cells
  pub own : m ≤ length cells

-- The code at these entries answers as the guards of an action, if it has the routines that they call: in each state of
-- the actor, whose variables the state cells hold, over tokens of its ports.
abbrev pub AnswerAs : Actor → ℕ → Action → List Function → Code → ℕ → ℕ → List ℕ → Type 0
AnswerAs actor a act fs code n m entries =
    (x : State) (u : List (List ℤ)) (cells : List ℤ) → HasFunctionsOf actor a fs code n m u cells
    → IsActorState actor x → AreTokensOf actor u → has_its_tokens actor u a ≡ true
    → HoldVars actor x cells → AreGuardsOf actor a act code x u cells act.guards entries
