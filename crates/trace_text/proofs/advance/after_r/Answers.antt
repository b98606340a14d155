use Rattle.std.proofs.Common.{ℕ, subst, sym}
use Rattle.trace_text.specs.declared.place.Place.TheVariants.{AfterR, Front}
use Rattle.trace_text.specs.Waiting.{Leads}
use Rattle.trace_text.proofs.Advancing.{first_front}
use Rattle.trace_text.proofs.advance.after_r.Goals as goal

pub returns-in-118 : goal.returns-in-118
returns-in-118 c = subst (λ (b : ℕ). Leads AfterR b (Front 2)) (sym c.in-118.is) first_front
