use Rattle.std.proofs.Common.{ℕ, subst, sym}
use Rattle.trace_text.specs.declared.place.Place.TheVariants.{Start, AfterR, Letter, Ending}
use Rattle.trace_text.specs.declared.place.Field.TheVariants.{Instance, FiringInst, TrappingInst, StalledInst, GrownLink}
use Rattle.trace_text.specs.declared.line.Line.TheVariants.{Quiet, Budget}
use Rattle.trace_text.specs.Waiting.{Leads}
use Rattle.trace_text.proofs.Starting.{leads_r, leads_inst, leads_fire, leads_grow, leads_quiet, leads_trap, leads_stall, leads_budget}
use Rattle.trace_text.proofs.advance.first_byte.Goals as goal

pub returns-in-114 : goal.returns-in-114
returns-in-114 c = subst (λ (b : ℕ). Leads Start b AfterR) (sym c.in-114.is) leads_r

pub returns-in-105 : goal.returns-in-105
returns-in-105 c = subst (λ (b : ℕ). Leads Start b (Letter Instance)) (sym c.in-105.is) leads_inst

pub returns-in-102 : goal.returns-in-102
returns-in-102 c = subst (λ (b : ℕ). Leads Start b (Letter FiringInst)) (sym c.in-102.is) leads_fire

pub returns-in-103 : goal.returns-in-103
returns-in-103 c = subst (λ (b : ℕ). Leads Start b (Letter GrownLink)) (sym c.in-103.is) leads_grow

pub returns-in-113 : goal.returns-in-113
returns-in-113 c = subst (λ (b : ℕ). Leads Start b (Ending Quiet)) (sym c.in-113.is) leads_quiet

pub returns-in-116 : goal.returns-in-116
returns-in-116 c = subst (λ (b : ℕ). Leads Start b (Letter TrappingInst)) (sym c.in-116.is) leads_trap

pub returns-in-115 : goal.returns-in-115
returns-in-115 c = subst (λ (b : ℕ). Leads Start b (Letter StalledInst)) (sym c.in-115.is) leads_stall

pub returns-in-98 : goal.returns-in-98
returns-in-98 c = subst (λ (b : ℕ). Leads Start b (Ending Budget)) (sym c.in-98.is) leads_budget
