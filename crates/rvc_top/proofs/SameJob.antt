-- Words are one job.
use Rattle.std.proofs.Common.{◌≡◌, sym, ap, ◌∙◌}
use Rattle.std.specs.Prelude.{Result, Ok}
use Rattle.std.specs.Result.{result_unwrap_or}
use Rattle.rvc_words.specs.Words.{JobText}
use Rattle.rvc_words.specs.declared.fault.UsageCause.{UsageCause}

pub same_job : (a b : JobText) (r : Result JobText UsageCause) → r ≡ Ok a → r ≡ Ok b → a ≡ b
same_job a b r e f = ap (λ x. result_unwrap_or x a) (sym e ∙ f)
