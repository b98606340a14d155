-- What an offset that was looked at leads to.
-- Not trusted: no promise is read with it.
use Rattle.std.specs.Prelude.{ℕ, Option, None, Some}
use Rattle.rvc_base.specs.declared.trap.Trap.TheVariants.{IndexRange}
use Rattle.code_ir.specs.Effect.{Effect, Fails}

abbrev pub at_offset : Option ℕ → (ℕ → Effect) → Effect
at_offset None next = Fails IndexRange
at_offset (Some k) next = next k
