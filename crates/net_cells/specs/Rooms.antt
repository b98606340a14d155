-- How many tokens the queues before and behind the leaves of a network are made for.
-- Trusted: part of what a promise means.
use Rattle.std.specs.Prelude.{ℕ, Bool, true, false, not, ◌&&◌, max, List, [], ◌∷◌, map, if◌then◌else◌}
use Rattle.std.specs.List.{range_with_len}
use Rattle.lowered_actor.specs.Actor.{Actor}
use Rattle.net_model.specs.declared.wiring.End.{End}
use Rattle.net_model.specs.declared.wiring.Link.{Link}
use Rattle.net_model.specs.Network.{is_input, is_leaf_port, is_output}

-- a link joins two leaves
abbrev pub is_inner : Link → Bool
is_inner link = not (is_input link) && not (is_output link)

-- A link's queues are for as many tokens as it can hold, those of an inner link for as many as it may grow to if these
-- are more, and for one at least.
abbrev pub queue_of : ℕ → Link → ℕ
queue_of grow link = max (if is_inner link then max link.capacity grow else link.capacity) 1

-- the reading end of a link, or its writing end
abbrev pub end_at : Bool → Link → End
end_at true link = link.to
end_at false link = link.from

-- the most that the links ask for which end at a port, or which begin there; 0 if there is none
abbrev pub asked_at : Bool → ℕ → ℕ → ℕ → List Link → ℕ
asked_at inward grow i p [] = 0
asked_at inward grow i p (link ∷ links) = if is_leaf_port i p (end_at inward link)
    then max (queue_of grow link) (asked_at inward grow i p links)
    else asked_at inward grow i p links

-- the rooms before the inputs of leaf i, where a port without link has room for one token, ..
abbrev pub in_rooms : Actor → List Link → ℕ → ℕ → List ℕ
in_rooms code links grow i =
    map (λ p. max 1 (asked_at true grow i p links)) (range_with_len 0 code.ins)

-- .. and those behind its outputs, where one without reader has none
abbrev pub out_rooms : Actor → List Link → ℕ → ℕ → List ℕ
out_rooms code links grow i =
    map (λ p. asked_at false grow i p links) (range_with_len 0 code.outs)
