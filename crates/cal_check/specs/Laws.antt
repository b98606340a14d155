-- What holds of the parts of an actor that break no rule, as statements: written out, they are sound.
-- Trusted: part of what a promise means.
use Rattle.std.specs.Prelude.{◌≡◌, ◌≤◌, ℤ, ℕ, Bool, true, false, ◌++◌, List, [], map, length, slice_get, Option, None, Some}
use Rattle.rvc_base.specs.Storing.{IsSize}
use Rattle.rvc_base.specs.Width.{IsNum}
use Rattle.cal_ast.specs.Tree.{Tree}
use Rattle.cal_model.specs.Value.{Kind, BoolKind, Shape, Num}
use Rattle.cal_model.specs.Outcome.{Gives}
use Rattle.cal_model.specs.Env.{Env}
use Rattle.cal_model.specs.Expression.{eval, eval_all, type_meant}
use Rattle.cal_model.specs.Keeping.{HasAllOf, IsEnvOf}
use Rattle.cal_model.specs.Actor.{Action, Actor, Fun, Held, Local, Move, Port, Proc}
use Rattle.cal_model.specs.Call.{calls_of, fun_named}
use Rattle.cal_model.specs.Kinding.{Fine, Known, Names, arguments_fit, constant, kind, kinds, meant_by, type_judged}
use Rattle.cal_model.specs.Sound.{Each, AreDistinct, AreLocals, AreStatements, AreTagged, IsAction, IsFun, IsMove, IsPlain, IsProc, LeadToOne, max_ports, max_rate, names_in_patterns, names_of, scalars_of_vars, with_locals}
use Rattle.cal_check.specs.Uses.{OnlyUses}
use Rattle.cal_check.specs.Violations.{all_broken, all_fine}
use Rattle.cal_check.specs.Written.{written, statement_written}
use Rattle.cal_check.specs.Statements.{names_behind, starts_broken, statement_broken}
use Rattle.cal_check.specs.Routines.{fun_broken, fun_judged, locals_of, proc_broken, proc_judged}
use Rattle.cal_check.specs.Actions.{Around, action_broken, action_of, each_guard, guards_written}
use Rattle.cal_check.specs.Ports.{each_port, header_broken}
use Rattle.cal_model.specs.Rates.{given_on, taken_on}
use Rattle.cal_check.specs.Actors.{actions_of, initialized_twice, scalars_of}
use Rattle.cal_check.specs.Schedules.{moves_in, pairs_in, schedule_broken, states_of}
use Rattle.cal_check.specs.Formed.{AreDeclared, AreFormed, IsActionFormed, IsFunFormed, IsProcFormed, IsScheduleFormed}

-- none of these names is a constant with a value, as those that are declared inside
abbrev pub AreBare : List Known → Type 0
AreBare locals = Each (λ x. x.value ≡ None) locals

-- no name inside is a constant, and what a constant expression gives is a number of the language, whatever is declared
-- inside
abbrev pub ConstantsFit : Names → Type 0
ConstantsFit names = AreBare names.locals
    × ((locals : List Known) (e : Tree) (z : ℤ) (left : ℕ) → AreBare locals
    → constant e (record names { locals = locals }) ≡ Gives (Num z) left → IsNum z)

-- both names are of one kind and may both be assigned or not, or both are unknown
abbrev pub IsKnownLike : Option Known → Option Known → Type 0
IsKnownLike None None = Unit {0}
IsKnownLike (Some x) (Some y) = (x.kind ≡ y.kind) × (x.changes ≡ y.changes)
IsKnownLike None (Some y) = ⊥
IsKnownLike (Some x) None = ⊥

-- both functions have one head, or both are unknown
abbrev pub IsFunLike : Option Fun → Option Fun → Type 0
IsFunLike None None = Unit {0}
IsFunLike (Some f) (Some g) = (f.formals ≡ g.formals) × (f.result ≡ g.result)
IsFunLike None (Some g) = ⊥
IsFunLike (Some f) None = ⊥

-- names that pass a test
abbrev pub AreSuch : (List ℕ → Bool) → List ℕ → Type 0
AreSuch such name = such name ≡ true

-- names and functions by kinds alone, whatever constants there are: all that P speaks of
pub record AreAlike (P : List ℕ → Type 0) (n m : Names) : Type 0 where
  pub known : (name : List ℕ) → P name → IsKnownLike (meant_by name n) (meant_by name m)
  pub funs : (name : List ℕ) → P name → IsFunLike (fun_named name n.funs) (fun_named name m.funs)

-- an expression that has a kind has it once its sizes and bounds are written out, and these are numbers then
pub record WrittenKeepsKinds : Type 0 where
  pub of_expressions : (e : Tree) (names : Names) (k : Kind) → ConstantsFit names → kind e names ≡ Fine k
      → kind (written e names) names ≡ Fine k
  pub of_types : (shape : Tree) (names : Names) (t : Shape) → ConstantsFit names
      → type_judged shape names ≡ Fine t → type_judged (written shape names) names ≡ Fine t
  pub is_plain : (e : Tree) (names : Names) (k : Kind) → kind e names ≡ Fine k
      → IsPlain (written e names)

-- An expression that has a kind gives the same once it is written out, in each environment that has all names: sizes and
-- bounds are evaluated to the same numbers, and count their turns for themselves. So do expressions in order, arguments
-- and types.
pub record WrittenKeepsValues : Type 0 where
  pub of_expressions : (e : Tree) (names : Names) (k : Kind) (env : Env) (left : ℕ)
      → ConstantsFit names → IsEnvOf names env → HasAllOf names env → kind e names ≡ Fine k
      → eval (written e names) (calls_of names.funs) env left ≡ eval e (calls_of names.funs) env left
  pub of_lists : (es : Tree) (names : Names) (ks : List Kind) (env : Env) (left : ℕ)
      → ConstantsFit names → IsEnvOf names env → HasAllOf names env → kinds es names ≡ Fine ks
      → eval_all (written es names) (calls_of names.funs) env left
      ≡ eval_all es (calls_of names.funs) env left
  pub of_arguments :
      (args : Tree) (formals : List Local) (names : Names) (b : Bool) (env : Env) (left : ℕ)
      → ConstantsFit names → IsEnvOf names env → HasAllOf names env
      → arguments_fit args formals names ≡ Fine b
      → eval_all (written args names) (calls_of names.funs) env left
      ≡ eval_all args (calls_of names.funs) env left
  pub of_types : (shape : Tree) (names : Names) (t : Shape) (env : Env) (left : ℕ)
      → ConstantsFit names → IsEnvOf names env → HasAllOf names env
      → type_judged shape names ≡ Fine t
      → type_meant (written shape names) (calls_of names.funs) env left
      ≡ type_meant shape (calls_of names.funs) env left

-- a test that is written out
abbrev pub IsGuard : Names → Tree → Type 0
IsGuard names g = (kind g names ≡ Fine BoolKind) × IsPlain g

abbrev pub GuardsAreSound : Type 0
GuardsAreSound = (guards : Tree) (names : Names) → ConstantsFit names
    → all_broken (each_guard guards names) ≡ [] → Each (IsGuard names) (guards_written guards names)

-- locals, and the names behind them
abbrev pub LocalsAreSound : Type 0
LocalsAreSound = (vars : Tree) (names inner : Names) → ConstantsFit names → AreDeclared vars
    → names_behind vars names ≡ Fine inner → starts_broken vars names ≡ []
    → AreLocals (locals_of vars names) names
    × (with_locals (locals_of vars names) names ≡ inner)

abbrev pub StatementsAreSound : Type 0
StatementsAreSound = (ss : Tree) (procs : List Proc) (names : Names) → ConstantsFit names
    → AreFormed ss → statement_broken ss procs names ≡ []
    → AreStatements (statement_written ss names) procs names
    × IsPlain (statement_written ss names)

-- the pattern variables and the locals of an action have different names
abbrev pub HasDistinctNames : Action → Type 0
HasDistinctNames act =
    AreDistinct (names_in_patterns act.patterns ++ map (λ x. x.name) act.locals)

-- what the actions of an actor see, over these names
abbrev pub around_in : Actor → Names → Around
around_in actor names =
    record { ins = actor.ins; outs = actor.outs; procs = actor.procs; names = names }

-- an action that is judged over names of the same kinds as those of its actor, as far as it uses them
abbrev pub ActionsAreSound : Type 0
ActionsAreSound = (such : List ℕ → Bool) (a : Tree) (actor : Actor) (names : Names)
    → IsActionFormed a → OnlyUses (AreSuch such) a → ConstantsFit names
    → AreAlike (AreSuch such) names (names_of actor)
    → action_broken a (around_in actor names) ≡ []
    → HasDistinctNames (action_of a (around_in actor names))
    → IsAction actor (action_of a (around_in actor names))

-- ports of both directions: their names differ, their sizes are allowed, and they are few
pub record IsHeader (ins outs : List Port) : Type 0 where
  pub distinct : AreDistinct (map (λ p. p.name) (ins ++ outs))
  pub sizes : Each (λ p. IsSize p.kind) (ins ++ outs)
  pub few_ins : length ins ≤ max_ports
  pub few_outs : length outs ≤ max_ports

abbrev pub HeadersAreSound : Type 0
HeadersAreSound = (ins outs : Tree) (at : ℕ) (names : Names) → header_broken ins outs at names ≡ []
    → (xs : List Port) × (ys : List Port) × (all_fine (each_port ins names) ≡ Some xs)
    × (all_fine (each_port outs names) ≡ Some ys) × IsHeader xs ys

-- a procedure, over all names of the same kinds, as far as it uses them
abbrev pub ProceduresAreSound : Type 0
ProceduresAreSound =
    (such : List ℕ → Bool) (p : Tree) (procs : List Proc) (names others : Names) (found : Proc)
    → IsProcFormed p → OnlyUses (AreSuch such) p → ConstantsFit names
    → AreAlike (AreSuch such) names others
    → proc_judged p names ≡ Fine found → proc_broken p procs names ≡ []
    → AreDistinct (map (λ x. x.name) (found.formals ++ found.locals)) → IsProc procs others found

-- a function, by the text that stands for it where it is used
abbrev pub FunctionsAreSound : Type 0
FunctionsAreSound =
    (such : List ℕ → Bool) (name : List ℕ) (decl : Tree) (names others : Names) (found : Fun)
    → IsFunFormed decl → OnlyUses (AreSuch such) decl → ConstantsFit names
    → AreAlike (AreSuch such) names others
    → fun_judged name decl names ≡ Fine found → fun_broken decl names ≡ []
    → AreDistinct (map (λ x. x.name) (found.formals ++ found.locals)) → IsFun others found

-- a schedule with these moves: its states differ, each move is of the actor, and from one state an action leads to one
-- state
pub record IsSchedule (actor : Actor) (moves : List Move) : Type 0 where
  pub states : AreDistinct actor.states
  pub each : Each (IsMove actor) moves
  pub one_target : LeadToOne moves

abbrev pub SchedulesAreSound : Type 0
SchedulesAreSound = (schedule : Option Tree) (actor : Actor) → IsScheduleFormed schedule
    → actor.states ≡ states_of schedule → schedule_broken schedule actor ≡ []
    → IsSchedule actor (moves_in schedule actor)

-- priorities speak of tagged actions alone
abbrev pub PrioritiesAreSound : Type 0
PrioritiesAreSound = (members : Tree) (actor : Actor) → Each (AreTagged actor) (pairs_in members actor)

-- an action takes and gives few tokens on each port
abbrev pub RatesAreSound : Type 0
RatesAreSound = (a : Tree) (around : Around) (port : ℕ) → IsActionFormed a → ConstantsFit around.names
    → action_broken a around ≡ []
    → (taken_on port (action_of a around).patterns ≤ max_rate)
    × (given_on port (action_of a around).outputs ≤ max_rate)

-- two actions that are an `initialize` are one
abbrev pub InitializesAreSound : Type 0
InitializesAreSound = (acts : List Tree) (around : Around) (i j : ℕ) (act other : Action)
    → initialized_twice false acts ≡ [] → slice_get (actions_of acts around) i ≡ Some act
    → slice_get (actions_of acts around) j ≡ Some other
    → act.initialize ≡ true → other.initialize ≡ true → i ≡ j

-- what the limits count are the parts of the actor
pub record LimitsAreSound : Type 0 where
  pub actions : (acts : List Tree) (around : Around) → length (actions_of acts around) ≡ length acts
  pub scalars : (vars : List Held) → scalars_of vars ≡ scalars_of_vars vars
