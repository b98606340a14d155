use Rattle.std.proofs.Common.{◌≡◌, map, length}
use Rattle.cal_model.specs.View.{kind_view}
use Rattle.cal_check.specs.Statements.{kind_at_places}
use Rattle.check_stmt.proofs.assign.kind_at_places.Given as goal

abbrev pub invariant-places : goal.invariant-places
invariant-places l = kind_at_places (kind_view l.k) (map kind_view l.rest) l.at ≡ kind_at_places (kind_view l.initial.k) (map kind_view l.initial.rest) l.at

abbrev pub decreases-places : goal.decreases-places
decreases-places l = length l.rest
