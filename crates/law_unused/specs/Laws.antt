-- What uses only names that are kept does the same over what is kept as over all.
-- Trusted: part of what a promise means.
use Rattle.std.specs.Prelude.{◌≡◌, ℕ, List}
use Rattle.cal_ast.specs.Tree.{Tree}
use Rattle.cal_model.specs.Env.{Env}
use Rattle.cal_model.specs.Expression.{Calls, eval, eval_all}
use Rattle.cal_model.specs.Actor.{Fun, Proc}
use Rattle.cal_model.specs.Call.{calls_of}
use Rattle.cal_model.specs.Sound.{Each, FunsNeverReturn}
use Rattle.cal_model.specs.Statement.{Runs, exec_all, runs_of}
use Rattle.cal_check.specs.Uses.{OnlyUses}
use Rattle.law_unused.specs.Closed.{FunsWithin, ProcWithin}
use Rattle.law_unused.specs.Keeping.{DoTheSame, GiveTheSame, IsKept, Keep, mapped, narrowed, only_funs}

-- an expression gives the same, and leaves as many turns, ..
abbrev pub ExpressionsGiveTheSame : Type 0
ExpressionsGiveTheSame = (keep : Keep) (few all : Calls) (e : Tree) (env : Env) (left : ℕ)
    → OnlyUses (IsKept keep) e → GiveTheSame keep few all
    → eval e few (narrowed keep env) left ≡ eval e all env left

-- .. and so do several in order
abbrev pub EachGivesTheSame : Type 0
EachGivesTheSame = (keep : Keep) (few all : Calls) (es : Tree) (env : Env) (left : ℕ)
    → OnlyUses (IsKept keep) es → GiveTheSame keep few all
    → eval_all es few (narrowed keep env) left ≡ eval_all es all env left

-- statements make of what is kept what is kept of what they make of all
abbrev pub StatementsDoTheSame : Type 0
StatementsDoTheSame =
    (keep : Keep) (few all : Calls) (some every : Runs) (ss : Tree) (env : Env) (left : ℕ)
    → OnlyUses (IsKept keep) ss → GiveTheSame keep few all → DoTheSame keep some every
    → exec_all ss few some (narrowed keep env) left
    ≡ mapped (narrowed keep) (exec_all ss all every env left)

-- functions that are kept give the same, if they use only what is kept and none calls itself
abbrev pub KeptFunctionsGiveTheSame : Type 0
KeptFunctionsGiveTheSame = (keep : Keep) (funs : List Fun)
    → FunsWithin keep funs → FunsNeverReturn (only_funs keep funs)
    → GiveTheSame keep (calls_of (only_funs keep funs)) (calls_of funs)

-- procedures that use only what is kept do the same
abbrev pub ProceduresOverKeptDoTheSame : Type 0
ProceduresOverKeptDoTheSame = (keep : Keep) (few all : Calls) (procs : List Proc)
    → Each (ProcWithin keep) procs → GiveTheSame keep few all
    → DoTheSame keep (runs_of procs few) (runs_of procs all)
