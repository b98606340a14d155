-- What it means that values keep to the kinds of their names: environments that are of names, functions that are of
-- their kinds, and outcomes that give such values alone.
-- Trusted: part of what a promise means.
use Rattle.std.specs.Prelude.{◌≡◌, ℕ, ◌≤◌, List, [], ◌∷◌, ◌++◌, Option, None, Some}
use Rattle.rvc_base.specs.Storing.{IsSize}
use Rattle.cal_ast.specs.Tree.{Tree}
use Rattle.cal_model.specs.Value.{Kind, Value, Num, Values, Nil, Cons, count, kind_of_scalar, kind_of_type, HasKind, HaveKind, IsType}
use Rattle.cal_model.specs.Outcome.{Out, Gives, Traps, Lacks, Clashes}
use Rattle.cal_model.specs.Env.{Var, Env, find}
use Rattle.cal_model.specs.Expression.{Calls, Given, nothing_given, size_of_value}
use Rattle.cal_model.specs.Actor.{Local, Fun, Proc}
use Rattle.cal_model.specs.Call.{answered, calls_of}
use Rattle.cal_model.specs.Statement.{Runs, performed, runs_of}
use Rattle.cal_model.specs.Kinding.{Fine, Known, Names, Argument, OfShape, OfSize, known_as, kind, with_known}
use Rattle.cal_model.specs.Sound.{Each, known_local, with_locals}

-- ---- outcomes

-- What it gives is such, with no more turns left than these. It may trap, and it may lack a name; it never clashes.
abbrev pub GivesOnly : {A : Type 0} → (A → Type 0) → ℕ → Out A → Type 0
GivesOnly P left (Gives a m) = P a × (m ≤ left)
GivesOnly P left (Traps c) = Unit {0}
GivesOnly P left Lacks = Unit {0}
GivesOnly P left Clashes = ⊥

-- .. and it lacks none
abbrev pub LacksNothing : {A : Type 0} → Out A → Type 0
LacksNothing (Gives a m) = Unit {0}
LacksNothing (Traps c) = Unit {0}
LacksNothing Lacks = ⊥
LacksNothing Clashes = Unit {0}

-- what it gives is such, or it traps
abbrev pub GivesOrTraps : {A : Type 0} → (A → Type 0) → Out A → Type 0
GivesOrTraps P (Gives a m) = P a
GivesOrTraps P (Traps c) = Unit {0}
GivesOrTraps P Lacks = ⊥
GivesOrTraps P Clashes = ⊥

-- it leaves no more turns than these
abbrev pub LeavesNoMore : {A : Type 0} → ℕ → Out A → Type 0
LeavesNoMore left (Gives a m) = m ≤ left
LeavesNoMore left (Traps c) = Unit {0}
LeavesNoMore left Lacks = Unit {0}
LeavesNoMore left Clashes = Unit {0}

-- functions that leave no more turns than they get, ..
abbrev pub CallsTakeTurns : Calls → Type 0
CallsTakeTurns calls = (globals : List Var) (name : List ℕ) (args : Values) (left : ℕ)
    → LeavesNoMore left (calls globals name args left)

-- .. and procedures
abbrev pub RunsTakeTurns : Runs → Type 0
RunsTakeTurns runs = (globals : List Var) (name : List ℕ) (args : Values) (left : ℕ)
    → LeavesNoMore left (runs globals name args left)

-- ---- values

-- each value has the kind that stands beside it
abbrev pub AreOfKinds : List Kind → Values → Type 0
AreOfKinds [] Nil = Unit {0}
AreOfKinds (k ∷ ks) (Cons v vs) = HasKind k v × AreOfKinds ks vs
AreOfKinds ks vs = ⊥

-- so many values of a kind
abbrev pub AreMany : ℕ → Kind → Values → Type 0
AreMany n k vs = (count vs ≡ n) × HaveKind k vs

-- as many arguments as formals, each of the kind of its formal's type
abbrev pub AreArguments : List Local → Values → Type 0
AreArguments [] Nil = Unit {0}
AreArguments (x ∷ xs) (Cons v vs) = HasKind (kind_of_type x.shape) v × AreArguments xs vs
AreArguments xs vs = ⊥

-- what a type is given by arguments that were judged
abbrev pub given_by : List Argument → Given
given_by [] = nothing_given
given_by (OfShape name t ∷ args) = record (given_by args) { items = Some t }
given_by (OfSize name z ∷ args) = record (given_by args) { size = size_of_value (Num z) }

-- ---- environments

-- a value that may stand under a name: of its kind, and the constant if the name is one
pub record StandsFor (x : Known) (v : Value) : Type 0 where
  pub kind : HasKind x.kind v
  pub constant : (w : Value) → x.value ≡ Some w → v ≡ w

-- variables that stand for names: what is found under a name may stand there. Some names may be missing.
abbrev pub StandFor : List Known → List Var → Type 0
StandFor names vars = (name : List ℕ) (x : Known) (v : Value) → known_as name names ≡ Some x
    → find name vars ≡ Some v → StandsFor x v

-- .. if none is missing
abbrev pub HasEach : List Known → List Var → Type 0
HasEach names vars = (name : List ℕ) (x : Known) → known_as name names ≡ Some x → (v : Value)
    × (find name vars ≡ Some v)

-- an environment of these names, which may lack some
pub record IsEnvOf (names : Names) (env : Env) : Type 0 where
  pub globals : StandFor names.globals env.globals
  pub all : StandFor (names.locals ++ names.globals) (env.locals ++ env.globals)

-- an environment that has all of them
pub record HasAllOf (names : Names) (env : Env) : Type 0 where
  pub globals : HasEach names.globals env.globals
  pub all : HasEach (names.locals ++ names.globals) (env.locals ++ env.globals)

-- ---- functions

-- what functions see of names
abbrev pub outside : Names → Names
outside names = record names { locals = [] }

abbrev pub StartIsOf : Kind → Option Tree → Names → Type 0
StartIsOf k None names = Unit {0}
StartIsOf k (Some e) names = kind e names ≡ Fine k

-- the start of each local has the kind of its type; it sees the locals before it
abbrev pub StartsAreOf : List Local → Names → Type 0
StartsAreOf [] names = Unit {0}
StartsAreOf (x ∷ xs) names = IsType x.shape × StartIsOf (kind_of_type x.shape) x.start names
    × StartsAreOf xs (with_known (known_local x) names)

-- a function whose body and starts have the kinds that it declares for them
pub record IsOfItsKinds (names : Names) (f : Fun) : Type 0 where
  pub formals : Each (λ x. IsType x.shape) f.formals
  pub locals : StartsAreOf f.locals (with_locals f.formals (outside names))
  pub result : IsSize f.result
  pub body : kind f.body (with_locals f.locals (with_locals f.formals (outside names)))
      ≡ Fine (kind_of_scalar f.result)

-- what the function that is named gives over all functions, or nothing if there is none
abbrev pub answer : List Fun → List Var → Values → ℕ → Option Fun → Out Value
answer funs globals args left None = Lacks
answer funs globals args left (Some f) = answered f (calls_of funs) globals args left

-- what the procedure that is named makes of the globals over all procedures, or nothing if there is none
abbrev pub made : List Proc → Calls → List Var → Values → ℕ → Option Proc → Out (List Var)
made procs calls globals args left None = Lacks
made procs calls globals args left (Some p) =
    performed p calls (runs_of procs calls) globals args left
