-- Which instances a round picks.
-- Trusted: part of what a promise means.
use Rattle.std.specs.Prelude.{ℕ, Bool, true, ◌||◌, List, replicate, if◌then◌else◌}
use Rattle.rvc_base.specs.declared.round_kind.RoundKind.{RoundKind}
use Rattle.rvc_base.specs.Picks.{picks}
use Rattle.net_model.specs.Paced.{none_of}

-- those of n instances that the policy picks; all if it picks none, or if the round before fired nothing
abbrev pub marked : RoundKind → ℕ → ℕ → Bool → List Bool
marked kind n round idle = if idle || none_of (picks kind n round) then replicate n true
    else picks kind n round
