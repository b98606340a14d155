-- Names are kept of which none uses another, directly or through what it calls.
-- Trusted: part of what a promise means.
use Rattle.std.specs.Prelude.{List, None, Some}
use Rattle.cal_ast.specs.Tree.{Tree}
use Rattle.cal_model.specs.Actor.{Action, Actor, Fun, Local, Proc}
use Rattle.cal_model.specs.Sound.{Each, FunsNeverReturn}
use Rattle.cal_check.specs.Uses.{OnlyUses}
use Rattle.law_unused.specs.Keeping.{IsKept, Keep, only_funs}

-- only names that are kept are used
abbrev pub Within : Keep → Tree → Type 0
Within keep t = OnlyUses (IsKept keep) t

abbrev pub StartWithin : Keep → Local → Type 0
StartWithin keep x = elim x.start [ None ↦ Unit {0} | Some e ↦ Within keep e ]

pub record FunWithin (keep : Keep) (f : Fun) : Type 0 where
  pub locals : Each (StartWithin keep) f.locals
  pub body : Within keep f.body

pub record ProcWithin (keep : Keep) (p : Proc) : Type 0 where
  pub locals : Each (StartWithin keep) p.locals
  pub body : Within keep p.body

pub record ActionWithin (keep : Keep) (act : Action) : Type 0 where
  pub guards : Each (Within keep) act.guards
  pub locals : Each (StartWithin keep) act.locals
  pub body : Within keep act.body
  pub outputs : Each (λ o. Within keep o.values) act.outputs

-- functions that are kept use only what is kept
abbrev pub FunsWithin : Keep → List Fun → Type 0
FunsWithin keep funs = Each (λ f. IsKept keep f.name → FunWithin keep f) funs

-- An actor uses only what is kept, and so do its functions that are kept; none of these calls
-- itself.
pub record IsClosed (keep : Keep) (actor : Actor) : Type 0 where
  pub funs : FunsWithin keep actor.funs
  pub funs_end : FunsNeverReturn (only_funs keep actor.funs)
  pub procs : Each (ProcWithin keep) actor.procs
  pub actions : Each (ActionWithin keep) actor.actions
