use Rattle.std.proofs.Common.{◌≡◌, ◌++◌, drop, map}
use Rattle.check_used.specs.Using.{outer_view, round_left, round_names}
use Rattle.check_used.proofs.used.round.Given as goal

abbrev pub invariant-loop-d : goal.invariant-loop-d
invariant-loop-d l =
    (round_names (map outer_view (drop l.d-index l.decls)) l.names ≡ round_names (map outer_view l.decls) l.initial.names)
    × (map outer_view l.left.items ++ round_left (map outer_view (drop l.d-index l.decls)) l.names ≡ round_left (map outer_view l.decls) l.initial.names)
