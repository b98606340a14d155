-- What ends a run whose budget is spent.
-- Trusted: part of what a promise means.
use Rattle.std.specs.Prelude.{◌≡◌, ℕ, false}
use Rattle.rvc_base.specs.declared.round_kind.RoundKind.{RoundKind}
use Rattle.net_model.specs.Network.{Network}
use Rattle.net_model.specs.State.{State}
use Rattle.net_model.specs.Cell.{Cell}
use Rattle.net_model.specs.Laws.{AreLawful}
use Rattle.net_model.specs.Trace.{after_delivery}
use Rattle.net_model.specs.Wired.{IsWired}
use Rattle.net_state.specs.Held.{Held}
use Rattle.net_state.specs.Standing.{StandsSince}
use Rattle.net_state.specs.Working.{AreFed}
use Rattle.round_runner.specs.declared.outcome.RoundEnd.TheVariants as round
use Rattle.round_runner.specs.declared.outcome.RunEnd.{RunEnd}
use Rattle.network_runner.specs.declared.firing.Turn.{Turn}
use Rattle.network_runner.specs.Rounding.{IsRoundMade, moment_by, pace_by}

-- A last round is made without a firing, from each moment of a wired network of lawful actors at which no firing is
-- left and whose round's delivery was made.
abbrev pub EndsSpent : {X : Type 0} → ℕ → RunEnd → Held (Cell X) → Held (Cell X) → Type 0
EndsSpent {X} grow how old new = (net : Network X) (s : State X) (kind : RoundKind) (budget : ℕ)
    (turn : Turn) → StandsSince net old (after_delivery net s) (after_delivery net s)
    → s.trapped ≡ false → IsWired net → AreLawful net → AreFed net (after_delivery net s)
    → turn.left ≡ 0 → turn.grow ≡ grow
    → IsRoundMade net (pace_by kind budget turn) (moment_by turn s) (round.End how) 0 new
