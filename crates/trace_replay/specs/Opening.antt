-- A network at the start of its trace.
-- Not trusted: no promise is read with it.
use Rattle.std.specs.Prelude.{◌≡◌, ℕ, false, List, length, map}
use Rattle.net_model.specs.declared.wiring.Wiring.{Wiring}
use Rattle.net_model.specs.Cell.{Cell}
use Rattle.net_state.specs.Beginning.{AreLawfulIn}
use Rattle.net_state.specs.Held.{AreCounted, HoldFew, capacity_of, seen}
use Rattle.net_state.specs.Standing.{StandAtStart}
use Rattle.network_runner.specs.Making.{AreReadersOf, CountNothing}
use Rattle.trace_replay.specs.Holding.{AreFresh}
use Rattle.trace_replay.specs.declared.between.Replay.{Replay}

-- it has these cells and this wiring, and the cells hold the state in which a run from them begins
pub record IsOpenedOn {C X : Type 0} (cell : C → Cell X) (cells : List C) (wiring : Wiring)
    (grow : ℕ) (replay : Replay C) : Type 0 where
  pub cells_are : replay.state.cells ≡ cells
  pub links_held : replay.state.links ≡ wiring.links.items
  pub links_are : replay.links.items ≡ wiring.links.items
  pub capacities : replay.state.capacities ≡ map capacity_of wiring.links.items
  pub waited : AreCounted (map cell replay.state.cells) replay.state.links replay.state.waited
  pub states : StandAtStart (seen cell replay.state)
  pub lawful : AreLawfulIn (seen cell replay.state)
  pub few : HoldFew replay.state.capacities
  pub readers : AreReadersOf wiring.ins.items wiring.open_ins.items wiring.links.items replay.readers.items
  pub came : length replay.came.items ≡ length wiring.links.items
  pub numbers : CountNothing (length wiring.links.items) (length wiring.outs.items) replay.numbers
  pub count : replay.count ≡ length cells
  pub grow_is : replay.grow ≡ grow
  pub noted : length replay.noted.items ≡ length wiring.links.items
  pub taken : AreFresh wiring.links.items replay.taken
  pub none_taken : replay.taken.any ≡ false
