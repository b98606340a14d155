-- What is known of a policy.
-- Trusted: part of what a promise means.
use Rattle.std.specs.Prelude.{ℕ}
use Rattle.rvc_base.specs.declared.round_kind.RoundKind.{RoundKind}

-- its kind, the number of rounds that it was asked, and for how many instances in each of them
pub record Asked : Type 0 where
  pub kind : RoundKind
  pub rounds : ℕ
  pub instances : ℕ
