-- What statements mean is kept, as the law says it.
use Rattle.std.proofs.Common.{◌≡◌, ℕ, List, [], refl, subst, Option, None, Some}
use Rattle.cal_ast.specs.Tree.{Tree}
use Rattle.cal_model.specs.Value.{Value, Values}
use Rattle.cal_model.specs.Outcome.{Out, Gives, Traps, Lacks, Clashes}
use Rattle.cal_model.specs.Env.{Env, Var, find}
use Rattle.cal_model.specs.Actor.{Proc}
use Rattle.cal_model.specs.Call.{calls_of}
use Rattle.cal_model.specs.Statement.{Runs, exec_all}
use Rattle.cal_model.specs.Kinding.{Known, Names, constants}
use Rattle.cal_check.specs.Formed.{AreFormed}
use Rattle.cal_check.specs.Laws.{ConstantsFit}
use Rattle.cal_check.specs.Meaning.{AreAtRest, HoldsConstants, KeepsConstants}
use Rattle.cal_check.specs.Meaning as meaning
use Rattle.cal_check.specs.Statements.{statement_broken}
use Rattle.cal_check.specs.Written.{statement_written}
use Rattle.cal_check.proofs.FittingValues.{GivesSuch}
use Rattle.cal_check.proofs.StatementsKept.{HasConstants, Holds, Same, statements-same}
use Rattle.cal_check.proofs.ValuesKept.{MeansNoLess, calls-below}

pub to-less : (known : List Known) (vars : List Var) → meaning.HasConstants known vars → HasConstants known vars
to-less known vars h name = go (find name (constants known)) refl
  where
    go : (o : Option Value) → find name (constants known) ≡ o → MeansNoLess o (find name vars)
    go None e = tt
    go (Some v) e = h name v e

pub from-less : (known : List Known) (vars : List Var) → HasConstants known vars → meaning.HasConstants known vars
from-less known vars h name v e = subst (λ o. MeansNoLess o (find name vars)) e (h name)

runs-keep : (known : List Known) (runs : Runs) → KeepsConstants known runs → (vars : List Var) → HasConstants known vars → (name : List ℕ) (args : Values) (left : ℕ)
    → Same (HasConstants known) (runs vars name args left) (runs vars name args left)
runs-keep known runs k vars h name args left = (refl, go (runs vars name args left) refl)
  where
    go : (o : Out (List Var)) → runs vars name args left ≡ o → GivesSuch (HasConstants known) o
    go (Gives next rest) e = to-less known next (k vars next name args left rest (from-less known vars h) e)
    go (Traps c) e = tt
    go Lacks e = tt
    go Clashes e = tt

pub both-same : (ss : Tree) (procs : List Proc) (names : Names) (runs : Runs) (env : Env) (left : ℕ) → AreFormed ss → ConstantsFit names → AreAtRest names.globals → statement_broken ss procs names ≡ []
    → HoldsConstants names env → KeepsConstants names.globals runs
    → Same (Holds names) (exec_all (statement_written ss names) (calls_of names.funs) runs env left) (exec_all ss (calls_of names.funs) runs env left)
both-same ss procs names runs env left formed fit rest b h k =
    statements-same (calls_of names.funs) (calls_of names.funs) runs runs ss procs names env left formed fit
    (record {
      rest = rest;
      means = λ vars has name args m. calls-below _ names.funs (constants names.globals) vars has name args m;
      calls = λ vars has name args m. refl;
      performs = runs-keep names.globals runs k;
    })
    (record { bare = h.bare; named = h.named; constants = to-less names.globals env.globals h.constants }) b

such-given : {A : Type 0} (P : A → Type 0) (o : Out A) (a : A) (k : ℕ) → GivesSuch P o → o ≡ Gives a k → P a
such-given P o a k h e = subst (λ p. GivesSuch P p) e h

pub constants-kept : (ss : Tree) (procs : List Proc) (names : Names) (runs : Runs) (env next : Env) (left rest : ℕ) → AreFormed ss → ConstantsFit names → AreAtRest names.globals → statement_broken ss procs names ≡ []
    → HoldsConstants names env → KeepsConstants names.globals runs → exec_all ss (calls_of names.funs) runs env left ≡ Gives next rest → HoldsConstants names next
constants-kept ss procs names runs env next left rest formed fit r b h k e =
    let i = such-given (Holds names) (exec_all ss (calls_of names.funs) runs env left) next rest (both-same ss procs names runs env left formed fit r b h k).1 e in
    record { bare = i.bare; named = i.named; constants = from-less names.globals next.globals i.constants }
