-- What calls that check an actor answer.
-- Trusted but for what stands under steps: part of what a promise means.
use Rattle.std.specs.Prelude.{◌≡◌, List, [], ◌∷◌, ◌++◌, map, Some, Vec}
use Rattle.std.specs.declared.alloc.Global.{Global}
use Rattle.std.specs.declared.result.Result.{Result}
use Rattle.std.specs.declared.result.Result.TheVariants.{Ok, Err}
use Rattle.rvc_base.specs.declared.refusal.Front.{Front}
use Rattle.rvc_base.specs.declared.refusal.Front.TheVariants as front
use Rattle.cal_ast.specs.Tree.{Tree}
use Rattle.cal_model.specs.Actor.{Fun, Proc}
use Rattle.cal_model.specs.Kinding.{Fine, Names}
use Rattle.cal_model.specs.View.{fun_view, proc_view}
use Rattle.cal_model.specs.declared.bound.BoundFun.{BoundFun}
use Rattle.cal_model.specs.declared.bound.BoundProc.{BoundProc}
use Rattle.const_env.specs.declared.fault.KindFault.{KindFault}
use Rattle.cal_check.specs.Actors.{formals_broken, funs_of, heads_broken, procs_of}
use Rattle.cal_check.specs.Routines.{FunDecl, fun_judged, head_judged, proc_judged}
use Rattle.cal_check.specs.Variables.{VarDecl, Valued, found_in}
use Rattle.cal_check.specs.Violations.{all_fine, broken}
use Rattle.check_stmt.specs.Judging.{Refuses}
use Rattle.check_given.specs.Causes.{IsCause, SaysRule}
use Rattle.check_variable.specs.Valuing.{IsValued}
use Rattle.check_variable.specs.declared.valued.Valued.{Valued as Kept}

-- ---- values

-- what these variables come to, or a rule that they break and that is said whatever else is broken
abbrev pub Comes : Result Kept Front → List VarDecl → Valued → Type 0
Comes (Ok v) xs vs = IsValued xs v vs
Comes (Err f) xs vs = IsCause f vs.breaks × SaysRule f

-- ---- functions and procedures

-- what functions are whose heads break no rule, or a rule that a head breaks
abbrev pub BuildsFuns : Result (Vec BoundFun Global) Front → List FunDecl → Names → Type 0
BuildsFuns (Ok found) fs names =
    (heads_broken fs names ≡ []) × (all_fine (funs_of fs names) ≡ Some (map fun_view found.items))
BuildsFuns (Err f) fs names = IsCause f (heads_broken fs names)

-- what procedures are whose formals break no rule, or a rule that a formal breaks
abbrev pub BuildsProcs : Result (List BoundProc) KindFault → List Tree → Names → Type 0
BuildsProcs (Ok found) ps names =
    (formals_broken ps names ≡ []) × (all_fine (procs_of ps names) ≡ Some (map proc_view found))
BuildsProcs (Err f) ps names = Refuses f (formals_broken ps names)

-- ---- steps

abbrev pub KeepsFun : Result (Unit {0}) Front → Fun → (old new : List Fun) → Type 0
KeepsFun (Ok u) b old new = new ≡ old ++ b ∷ []
KeepsFun (Err f) b old new = f ≡ front.Memory

-- one function more, whose head breaks no rule
pub record IsFunAdded (f : FunDecl) (names : Names) (old new : List Fun) : Type 0 where
  pub head : broken (head_judged f.decl names) ≡ []
  pub fun : Fun
  pub judged : fun_judged f.name f.decl names ≡ Fine fun
  pub added : new ≡ old ++ fun ∷ []

abbrev pub AddsFun : Result (Unit {0}) Front → FunDecl → Names → (old new : List Fun) → Type 0
AddsFun (Ok u) f names old new = IsFunAdded f names old new
AddsFun (Err e) f names old new = IsCause e (found_in f.file (broken (head_judged f.decl names)))

-- one procedure more, whose formals break no rule
pub record IsProcAdded (p : Tree) (names : Names) (old new : List Proc) : Type 0 where
  pub formals : formals_broken (p ∷ []) names ≡ []
  pub proc : Proc
  pub judged : proc_judged p names ≡ Fine proc
  pub added : new ≡ old ++ proc ∷ []

abbrev pub AddsProc : Result (Unit {0}) KindFault → Tree → Names → (old new : List Proc) → Type 0
AddsProc (Ok u) p names old new = IsProcAdded p names old new
AddsProc (Err f) p names old new = Refuses f (formals_broken (p ∷ []) names)
