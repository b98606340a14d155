use Rattle.std.proofs.Common.{ℕ, None, subst, sym}
use Rattle.trace_text.specs.declared.place.Place.TheVariants.{Letter, Number}
use Rattle.trace_text.specs.Waiting.{Leads}
use Rattle.trace_text.proofs.Advancing.{blank}
use Rattle.trace_text.proofs.advance.after_letter.Goals as goal

pub returns-then-byte-eq32 : goal.returns-then-byte-eq32
returns-then-byte-eq32 c =
    subst (λ (b : ℕ). Leads (Letter c.args.field) b (Number c.args.field None)) (sym c.if-byte-eq32.true) (blank c.args.field)
