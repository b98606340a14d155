-- Environments in which the constants of a source have their values, and what written-out statements mean there.
-- Trusted: part of what a promise means.
use Rattle.std.specs.Prelude.{◌≡◌, ℕ, true, List, [], map, None, Some}
use Rattle.cal_ast.specs.Tree.{Tree}
use Rattle.cal_model.specs.Value.{Value, Values}
use Rattle.cal_model.specs.Outcome.{Gives}
use Rattle.cal_model.specs.Env.{Env, Var, find}
use Rattle.cal_model.specs.Actor.{Proc}
use Rattle.cal_model.specs.Call.{calls_of}
use Rattle.cal_model.specs.Statement.{Runs, exec_all}
use Rattle.cal_model.specs.Kinding.{Known, Names, constants}
use Rattle.cal_model.specs.Sound.{Each}
use Rattle.cal_check.specs.Formed.{AreFormed}
use Rattle.cal_check.specs.Laws.{AreBare, ConstantsFit}
use Rattle.cal_check.specs.Statements.{statement_broken}
use Rattle.cal_check.specs.Written.{statement_written}

-- what changes is no constant
abbrev pub AreAtRest : List Known → Type 0
AreAtRest known = Each (λ x. x.changes ≡ true → x.value ≡ None) known

-- under the name of each constant its value is found
abbrev pub HasConstants : List Known → List Var → Type 0
HasConstants known vars = (name : List ℕ) (v : Value) → find name (constants known) ≡ Some v
    → find name vars ≡ Some v

-- the globals have the constants, and inside there are the variables that the names name, of which none is a constant
pub record HoldsConstants (names : Names) (env : Env) : Type 0 where
  pub bare : AreBare names.locals
  pub named : map (λ x. x.name) names.locals ≡ map (λ x. x.name) env.locals
  pub constants : HasConstants names.globals env.globals

-- procedures leave the constants as they are
abbrev pub KeepsConstants : List Known → Runs → Type 0
KeepsConstants known runs =
    (vars next : List Var) (name : List ℕ) (args : Values) (left rest : ℕ)
    → HasConstants known vars → runs vars name args left ≡ Gives next rest → HasConstants known next

-- statements that break no rule do the same once they are written out, and count as many turns, ..
abbrev pub WrittenStatementsDoTheSame : Type 0
WrittenStatementsDoTheSame =
    (ss : Tree) (procs : List Proc) (names : Names) (runs : Runs) (env : Env) (left : ℕ)
    → AreFormed ss → ConstantsFit names → AreAtRest names.globals
    → statement_broken ss procs names ≡ [] → HoldsConstants names env
    → KeepsConstants names.globals runs
    → exec_all (statement_written ss names) (calls_of names.funs) runs env left
    ≡ exec_all ss (calls_of names.funs) runs env left

-- .. and leave the constants as they are
abbrev pub StatementsKeepConstants : Type 0
StatementsKeepConstants =
    (ss : Tree) (procs : List Proc) (names : Names) (runs : Runs) (env next : Env) (left rest : ℕ)
    → AreFormed ss → ConstantsFit names → AreAtRest names.globals
    → statement_broken ss procs names ≡ [] → HoldsConstants names env
    → KeepsConstants names.globals runs
    → exec_all ss (calls_of names.funs) runs env left ≡ Gives next rest → HoldsConstants names next
