-- What a run of cells leaves, from its start to its end.
-- Not trusted: no promise is read with it.
use Rattle.std.specs.Prelude.{◌≡◌, ℕ, List, [], ◌∷◌}
use Rattle.rvc_base.specs.declared.round_kind.RoundKind.{RoundKind}
use Rattle.rvc_io.specs.Channels.{Channels}
use Rattle.rvc_io.specs.Feeds.{Inputs}
use Rattle.net_model.specs.declared.wiring.Wiring.{Wiring}
use Rattle.net_model.specs.Network.{Network}
use Rattle.net_model.specs.Cell.{Cell}
use Rattle.net_model.specs.Ready.{IsNetworkOf, IsReady, given_state}
use Rattle.round_runner.specs.declared.outcome.Plan.{Plan}
use Rattle.round_runner.specs.Running.{Running}
use Rattle.network_runner.specs.Asking.{Begins, HaveInputs}
use Rattle.network_runner.specs.FromStart.{RunsFromStart}
use Rattle.kit_runs.specs.declared.running.Ran.{Ran}

-- the first of these numbers, and 0 if there is none
abbrev pub first_or_0 : List ℕ → ℕ
first_or_0 [] = 0
first_or_0 (first ∷ others) = first

-- A runner was made of these cells, and its run ended so: in each network that they make, and over the bytes of the
-- feeds, the lines are paced, or begun if a feed or a channel failed; they are on the trace, what they sent is on the
-- outputs, and the numbers count them.
pub record RanFrom {X : Type 0} (cells : List (Cell X)) (wiring : Wiring) (plan : Plan)
    (kind : RoundKind) (budget : ℕ) (feeds feeds_new : Inputs) (old now : Channels)
    (ran : Ran) : Type 0 where
  pub run : Running (Cell X)
  pub new : Running (Cell X)
  pub begins : Begins cells wiring plan kind run
  pub leaves : (net : Network X) (inputs : List (List ℕ)) → IsNetworkOf net cells wiring
      → IsReady net plan.grow plan.burst cells
      → HaveInputs inputs wiring.links.items wiring.open_ins.items feeds
      → RunsFromStart net inputs budget (given_state net cells inputs) ran.end run new feeds_new old
      now
  pub firings : ran.firings ≡ new.counts.firings
  pub rounds : ran.rounds ≡ new.counts.rounds
  pub arrived : ran.arrived ≡ first_or_0 new.counts.arrived.items
  pub sent : ran.sent ≡ first_or_0 new.counts.sent.items
