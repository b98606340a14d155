-- Single values.
-- Trusted: part of what a promise means.
use Rattle.rvc_base.specs.Width.{IsNum}
use Rattle.cal_model.specs.Value.{Value, Num, Truth, Items}
use Rattle.cal_model.specs.Outcome.{Out}
use Rattle.lower_base.specs.Following.{Follows}

-- a truth value, or a number of the language
abbrev pub IsSingleValue : Value → Type 0
IsSingleValue (Num z) = IsNum z
IsSingleValue (Truth b) = Unit {0}
IsSingleValue (Items vs) = ⊥

-- what the outcome gives, if anything, is a single value
abbrev pub OnlySingles : Out Value → Type 0
OnlySingles o = Follows o (λ v m. IsSingleValue v) (λ c. Unit {0})
