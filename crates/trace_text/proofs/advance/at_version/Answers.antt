use Rattle.std.proofs.Common.{ℕ, subst, sym}
use Rattle.trace_text.specs.declared.place.Place.TheVariants.{Letter}
use Rattle.trace_text.specs.declared.place.Field.TheVariants.{Instances, GrowingInstances}
use Rattle.trace_text.specs.Waiting.{LeadsVersion}
use Rattle.trace_text.proofs.Advancing.{first_version, second_version}
use Rattle.trace_text.proofs.advance.at_version.Goals as goal

pub returns-in-49 : goal.returns-in-49
returns-in-49 c = subst (λ (b : ℕ). LeadsVersion b (Letter Instances)) (sym c.in-49.is) first_version

pub returns-in-50 : goal.returns-in-50
returns-in-50 c = subst (λ (b : ℕ). LeadsVersion b (Letter GrowingInstances)) (sym c.in-50.is) second_version
