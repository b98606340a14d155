-- Why an actor isn't lowered.
-- Trusted but for `OnlyMemory`, `IsWhyAction` and `IsWhyActions`: part of what a promise means.
use Rattle.std.specs.Prelude.{◌≡◌, ℕ, ◌<◌, length, Option, None, Some}
use Rattle.cal_model.specs.declared.bound.Bound.{Bound}
use Rattle.cal_model.specs.View.{actor_of}
use Rattle.lower_base.specs.declared.fault.LowerFault.{LowerFault}
use Rattle.lower_base.specs.declared.fault.LowerFault.TheVariants as lowering
use Rattle.lower_base.specs.Growing.{◌or_else◌}
use Rattle.lower_stmt.specs.Procedures.{Routines}
use Rattle.action_lower.specs.GuardWords.{left_out_action}
use Rattle.action_lower.specs.FiringWords.{left_out_of}
use Rattle.lower_actor.specs.Settled.{AreSettled}
use Rattle.lower_actor.specs.declared.fault.ActorFault.{ActorFault}
use Rattle.lower_actor.specs.declared.fault.ActorFault.TheVariants.{Memory, NotLowered}

-- what a fault of a part is of the whole: more instructions or cells than 32 bits count are out of memory
abbrev pub actor_fault : LowerFault → ActorFault
actor_fault lowering.Memory = Memory
actor_fault lowering.TooLong = Memory
actor_fault lowering.TooManyCells = Memory
actor_fault (lowering.NotLowered at) = NotLowered at

-- ---- what is left out

-- the place of the first part of an action, its guards before the rest, for which no code is made, if its guards and its
-- firing may call these
abbrev pub left_out_at : Routines → Bound → ℕ → Option ℕ
left_out_at rs b a =
    left_out_action rs.functions (actor_of b) a or_else left_out_of rs b a

-- nothing is left out of the first n actions
abbrev pub AreWhole : Routines → Bound → ℕ → Type 0
AreWhole rs b n = (a : ℕ) → a < n → left_out_at rs b a ≡ None

-- it is the place of the first part that is left out, in the first action that has one
pub record IsLeftOut (rs : Routines) (b : Bound) (at : ℕ) : Type 0 where
  pub action : ℕ
  pub there : action < length b.actions.items
  pub before : AreWhole rs b action
  pub part : left_out_at rs b action ≡ Some at

-- .. and actions may call each function and each procedure of which no part is left out
pub record IsPartLeftOut (b : Bound) (at : ℕ) : Type 0 where
  pub routines : Routines
  pub settled : AreSettled (actor_of b) routines
  pub part : IsLeftOut routines b at

-- nothing is left out of the actions, if they may call each function and each procedure of which nothing is
pub record IsWhole (b : Bound) : Type 0 where
  pub routines : Routines
  pub settled : AreSettled (actor_of b) routines
  pub actions : AreWhole routines b (length b.actions.items)

-- ---- causes

-- a part is left out only if it is the first one
abbrev pub IsActorFault : Bound → ActorFault → Type 0
IsActorFault b Memory = Unit {0}
IsActorFault b (NotLowered at) = IsPartLeftOut b at

-- .. of all actions, if they may call these
abbrev pub IsWhyActions : Routines → Bound → ActorFault → Type 0
IsWhyActions rs b Memory = Unit {0}
IsWhyActions rs b (NotLowered at) = IsLeftOut rs b at

-- .. where nothing is left out
abbrev pub OnlyMemory : ActorFault → Type 0
OnlyMemory Memory = Unit {0}
OnlyMemory (NotLowered at) = ⊥

-- .. of one action
abbrev pub IsWhyAction : Routines → Bound → ℕ → LowerFault → Type 0
IsWhyAction rs b a lowering.Memory = Unit {0}
IsWhyAction rs b a lowering.TooLong = Unit {0}
IsWhyAction rs b a lowering.TooManyCells = Unit {0}
IsWhyAction rs b a (lowering.NotLowered at) = left_out_at rs b a ≡ Some at
