-- How many tokens the queues before and behind the leaves of a network are made for.
-- Not trusted: no promise is read with it.
use Rattle.std.specs.Prelude.{◌≡◌, ℕ, ◌<◌, max, Bool, true, false, List, [], ◌∷◌, length, if◌then◌else◌}
use Rattle.net_model.specs.declared.wiring.End.{End}
use Rattle.net_model.specs.declared.wiring.Link.{Link}
use Rattle.net_model.specs.Network.{is_leaf_port}
use Rattle.net_model.specs.Cell.{number_on}

-- the reading end of a link, or its writing end
abbrev pub end_at : Bool → Link → End
end_at true link = link.to
end_at false link = link.from

-- how many tokens the queues of a link are made for: as many as it holds or may grow to, and one at least
abbrev pub wanted : ℕ → Link → ℕ
wanted grow link = max (max link.capacity grow) 1

abbrev pub widened : Bool → ℕ → ℕ → ℕ
widened here room more = if here then max room more else room

-- the greatest of a room and of what the links want that end at this port
abbrev pub room_at : Bool → ℕ → ℕ → ℕ → ℕ → List Link → ℕ
room_at inward grow i p room [] = room
room_at inward grow i p room (link ∷ links) = room_at inward grow i p
    (widened (is_leaf_port i p (end_at inward link)) room (wanted grow link)) links

-- the rooms of all ports of a leaf, each `least` at least
pub record AreRoomsOf (inward : Bool) (grow i least : ℕ) (links : List Link) (ports : ℕ) (rooms : List ℕ) : Type 0 where
  pub count : length rooms ≡ ports
  pub each : (p : ℕ) → p < ports → number_on rooms p ≡ room_at inward grow i p least links
