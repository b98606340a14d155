-- Actors as the grammar and the scopes leave them, with what their imports lead to, and the law of the whole: one that
-- breaks no rule is sound.
-- Trusted: part of what a promise means.
use Rattle.std.specs.Prelude.{◌<◌, ℕ, List, [], ◌∷◌, ◌++◌, map, length}
use Rattle.cal_ast.specs.Tree as tree
use Rattle.cal_ast.specs.Tree.{Tree}
use Rattle.cal_model.specs.Actor.{Actor}
use Rattle.cal_model.specs.Kinding.{Names, counter, with_known}
use Rattle.cal_model.specs.Sound.{AreDistinct, Each, EachCall, HidesNoCall, IsSound, VarsHideNoCall, names_of_vars}
use Rattle.cal_check.specs.Actions.{names_listed}
use Rattle.cal_check.specs.Actors.{IsSource, Source, actions_in, all_funs, declared_vars, members_of, procs_in}
use Rattle.cal_check.specs.Formed.{DeclCallsBelow, IsActionFormed, IsFunFormed, IsProcFormed, IsScheduleFormed}
use Rattle.cal_check.specs.Routines.{FunDecl}
use Rattle.cal_check.specs.Schedules.{schedule_in}
use Rattle.cal_check.specs.Variables.{Given, Spot}

-- ---- names

abbrev pub names_of_formals : Tree → List (List ℕ)
names_of_formals (tree.cons (tree.port shape (tree.ident name place) at) fs) =
    name ∷ names_of_formals fs
names_of_formals other = []

abbrev pub names_of_patterns : Tree → List (List ℕ)
names_of_patterns (tree.cons (tree.pattern asked variables repeat at) ps) =
    names_listed variables ++ names_of_patterns ps
names_of_patterns other = []

abbrev pub proc_name : Tree → List ℕ
proc_name (tree.procedure (tree.ident name place) formals vars body at) = name
proc_name other = []

-- ---- scopes: the names of one differ, and none hides a function or a procedure that is called there

abbrev pub nothing_inside : Names
nothing_inside = record { globals = []; locals = []; funs = [] }

-- these names inside, the last one innermost
abbrev pub with_names : List (List ℕ) → Names → Names
with_names [] names = names
with_names (name ∷ more) names = with_names more (with_known (counter name) names)

-- names, and inside them those of variables
abbrev pub with_vars_named : List (List ℕ) → Tree → Names
with_vars_named outside vars = with_names (names_of_vars vars) (with_names outside nothing_inside)

-- a function or a procedure with these formals
abbrev pub IsRoutineScoped : (formals vars body : Tree) → Type 0
IsRoutineScoped formals vars body = AreDistinct (names_of_formals formals ++ names_of_vars vars)
    × VarsHideNoCall vars (with_names (names_of_formals formals) nothing_inside)
    × HidesNoCall body (with_vars_named (names_of_formals formals) vars)

abbrev pub IsFunScoped : Tree → Type 0
IsFunScoped (tree.function name formals result vars body at) = IsRoutineScoped formals vars body
IsFunScoped other = ⊥

abbrev pub IsProcScoped : Tree → Type 0
IsProcScoped (tree.procedure name formals vars body at) = IsRoutineScoped formals vars body
IsProcScoped other = ⊥

-- the values of outputs
abbrev pub OutputHidesNoCall : Tree → Names → Type 0
OutputHidesNoCall (tree.output asked values repeat at) names = HidesNoCall values names
OutputHidesNoCall other names = Unit {0}

abbrev pub OutputsHideNoCall : Tree → Names → Type 0
OutputsHideNoCall (tree.cons o os) names = OutputHidesNoCall o names × OutputsHideNoCall os names
OutputsHideNoCall other names = Unit {0}

-- guards see the pattern variables, and the rest the locals too
abbrev pub IsActionScoped : Tree → Type 0
IsActionScoped (tree.action tagged initialize patterns outputs guards vars body at) =
    AreDistinct (names_of_patterns patterns ++ names_of_vars vars)
    × HidesNoCall guards (with_names (names_of_patterns patterns) nothing_inside)
    × VarsHideNoCall vars (with_names (names_of_patterns patterns) nothing_inside)
    × HidesNoCall body (with_vars_named (names_of_patterns patterns) vars)
    × OutputsHideNoCall outputs (with_vars_named (names_of_patterns patterns) vars)
IsActionScoped other = ⊥

-- ---- none calls itself, directly or indirectly: there are ranks, and each calls only those of lower ranks

pub record FunDeclsEnd (funs : List FunDecl) : Type 0 where
  pub rank : List ℕ → ℕ
  pub in_range : Each (λ f. rank f.name < length funs) funs
  pub calls : Each (λ f. DeclCallsBelow rank f.name f.decl) funs

-- which functions a procedure calls doesn't matter
abbrev pub ProcDeclCallsBelow : (rank : List ℕ → ℕ) → Tree → Type 0
ProcDeclCallsBelow rank (tree.procedure (tree.ident name place) formals vars body at) =
    EachCall (λ other. Unit {0}) (λ other. rank other < rank name) body
ProcDeclCallsBelow rank other = ⊥

pub record ProcDeclsEnd (procs : List Tree) : Type 0 where
  pub rank : List ℕ → ℕ
  pub in_range : Each (λ p. rank (proc_name p) < length procs) procs
  pub calls : Each (ProcDeclCallsBelow rank) procs

-- ---- the whole

abbrev pub procs_of_source : Source → List Tree
procs_of_source s = procs_in (members_of s.actor)

abbrev pub actions_of_source : Source → List Tree
actions_of_source s = actions_in (members_of s.actor)

-- the texts that stand for all variables, functions and procedures
abbrev pub names_of_source : Source → List (List ℕ)
names_of_source s = map (λ x. x.name) (declared_vars s) ++ map (λ f. f.name) (all_funs s)
    ++ map proc_name (procs_of_source s)

pub record IsSourceFormed (s : Source) : Type 0 where
  -- what the grammar gives
  pub funs : Each (λ f. IsFunFormed f.decl) (all_funs s)
  pub procs : Each IsProcFormed (procs_of_source s)
  pub actions : Each IsActionFormed (actions_of_source s)
  pub schedule : IsScheduleFormed (schedule_in (members_of s.actor))
  -- what the scopes give
  pub distinct : AreDistinct (names_of_source s)
  pub fun_scopes : Each (λ f. IsFunScoped f.decl) (all_funs s)
  pub proc_scopes : Each IsProcScoped (procs_of_source s)
  pub action_scopes : Each IsActionScoped (actions_of_source s)
  pub funs_end : FunDeclsEnd (all_funs s)
  pub procs_end : ProcDeclsEnd (procs_of_source s)

-- the actor that a source is, if it breaks no rule, is sound
abbrev pub SourcesAreSound : Type 0
SourcesAreSound = (s : Source) (gs : List Given) (owner : Spot) (actor : Actor)
    → IsSourceFormed s → IsSource s gs owner actor → IsSound actor
