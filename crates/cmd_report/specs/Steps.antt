-- A text of which a prefix was put.
-- Not trusted: no promise is read with it.
use Rattle.std.specs.Prelude.{◌≡◌, List, ℕ, ◌++◌}
use Rattle.rvc_io.specs.Channels.{Channels}
use Rattle.cmd_report.specs.Puts.{GetsText}

-- what was put, with this remainder, is the whole text
pub record PutsSoFar (whole left : List ℕ) (old now : Channels) : Type 0 where
  pub text : List ℕ
  pub is_front : whole ≡ text ++ left
  pub put : GetsText text old now
