-- What a call that computes answers, as what the operation gives.
-- Trusted: part of what a promise means.
use Rattle.std.specs.Prelude.{ℤ}
use Rattle.std.specs.declared.result.Result.{Result}
use Rattle.std.specs.declared.result.Result.TheVariants.{Ok, Err}
use Rattle.rvc_base.specs.declared.trap.Trap.{Trap}
use Rattle.rvc_base.specs.Arithmetic.{Computed, Gives, Traps}

abbrev pub computed_of : Result ℤ Trap → Computed
computed_of (Ok v) = Gives v
computed_of (Err trap) = Traps trap
