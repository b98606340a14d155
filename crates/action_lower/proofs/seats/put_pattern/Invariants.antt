use Rattle.std.proofs.Common.{◌≡◌, ◌≤◌, ◌++◌, drop, length}
use Rattle.cal_model.specs.View.{pattern_view}
use Rattle.lower_base.specs.Names.{names_view}
use Rattle.action_lower.specs.Seats.{pattern_seats_from}
use Rattle.action_lower.proofs.seats.put_pattern.Given as goal

abbrev pub invariant-places : goal.invariant-places
invariant-places l = (l.place ≤ length (pattern_view l.pattern).names)
    × (names_view l.names.items ≡ names_view l.initial.names.items
    ++ pattern_seats_from l.kind (pattern_view l.pattern) l.place (drop l.place (pattern_view l.pattern).names))

abbrev pub decreases-places : goal.decreases-places
decreases-places l = l.place
