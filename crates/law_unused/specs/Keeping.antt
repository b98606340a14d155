-- Variables of which only some are kept, by their names.
-- Trusted: part of what a promise means.
use Rattle.std.specs.Prelude.{◌≡◌, ℕ, Bool, true, List, [], ◌∷◌, if◌then◌else◌}
use Rattle.cal_model.specs.Value.{Values}
use Rattle.cal_model.specs.Outcome.{Out, Gives, Traps, Lacks, Clashes}
use Rattle.cal_model.specs.Env.{Env, Var}
use Rattle.cal_model.specs.Expression.{Calls}
use Rattle.cal_model.specs.Statement.{Runs}
use Rattle.cal_model.specs.Actor.{Actor, Fun, Held}
use Rattle.cal_model.specs.Selection.{State}

-- which names are kept
abbrev pub Keep : Type 0
Keep = List ℕ → Bool

abbrev pub IsKept : Keep → List ℕ → Type 0
IsKept keep name = keep name ≡ true

-- those variables that are kept
abbrev pub only : Keep → List Var → List Var
only keep [] = []
only keep (x ∷ xs) = if keep x.name then x ∷ only keep xs else only keep xs

-- the environment with these of its globals; locals all stay
abbrev pub narrowed : Keep → Env → Env
narrowed keep env = record { globals = only keep env.globals; locals = env.locals }

-- what is made of what is given, with as many turns left
abbrev pub mapped : {A B : Type 0} → (A → B) → Out A → Out B
mapped f (Gives a left) = Gives (f a) left
mapped f (Traps c) = Traps c
mapped f Lacks = Lacks
mapped f Clashes = Clashes

-- functions that are kept give over the kept globals (`few`) what they give over all (`all`)
abbrev pub GiveTheSame : Keep → (few all : Calls) → Type 0
GiveTheSame keep few all = (name : List ℕ) (globals : List Var) (args : Values) (left : ℕ)
    → IsKept keep name
    → few (only keep globals) name args left ≡ all globals name args left

-- Procedures make of the kept globals what is kept of what they make of all.
abbrev pub DoTheSame : Keep → (few all : Runs) → Type 0
DoTheSame keep few all = (name : List ℕ) (globals : List Var) (args : Values) (left : ℕ)
    → few (only keep globals) name args left ≡ mapped (only keep) (all globals name args left)

-- ---- actors

-- those functions that are kept
abbrev pub only_funs : Keep → List Fun → List Fun
only_funs keep [] = []
only_funs keep (f ∷ fs) = if keep f.name then f ∷ only_funs keep fs else only_funs keep fs

-- those variables that are kept, as an actor declares them
abbrev pub only_held : Keep → List Held → List Held
only_held keep [] = []
only_held keep (x ∷ xs) = if keep x.name then x ∷ only_held keep xs else only_held keep xs

-- the actor with only those of its variables and functions that are kept
abbrev pub narrowed_actor : Keep → Actor → Actor
narrowed_actor keep actor =
    record actor { vars = only_held keep actor.vars; funs = only_funs keep actor.funs }

-- a state of which only the variables are left that are kept
abbrev pub narrowed_state : Keep → State → State
narrowed_state keep x = record { at = x.at; vars = only keep x.vars }
