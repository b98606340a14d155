-- Faults of members as those of kinds.
use Rattle.std.proofs.Common.{List, ◌⊎◌, inl}
use Rattle.cal_ast.specs.Tree.{Tree}
use Rattle.cal_model.specs.Actor.{Actor}
use Rattle.cal_check.specs.Violations.{Violation}
use Rattle.cal_check.specs.Schedules.{first_priority, pairs_in}
use Rattle.check_member.specs.Judging.{BreaksPriorities, Refuses as MemberRefuses}
use Rattle.check_member.specs.declared.fault.MemberFault.{MemberFault}
use Rattle.check_member.specs.declared.fault.MemberFault.TheVariants as member
use Rattle.check_stmt.specs.Judging.{Refuses}
use Rattle.check_action.specs.Faults.{as_kind_fault}
use Rattle.check_build_actor.specs.Building.{IsCycle}

pub refuses_as : (f : MemberFault) (vs : List Violation) → MemberRefuses f vs → Refuses (as_kind_fault f) vs
refuses_as (member.Broken rule at) vs h = h
refuses_as member.Memory vs h = tt

pub breaks_as : (f : MemberFault) (members : Tree) (actor : Actor) (vs : List Violation) → BreaksPriorities vs (pairs_in members actor) (first_priority members) f
    → Refuses (as_kind_fault f) vs ⊎ IsCycle (as_kind_fault f) members actor
breaks_as (member.Broken rule at) members actor vs h = h
breaks_as member.Memory members actor vs h = inl tt
