use Rattle.std.proofs.Common.{◌≡◌, length, map}
use Rattle.cal_model.specs.Certified.{ranged, ranged_vars}
use Rattle.cal_model.specs.View.{var_view}
use Rattle.determinacy_cert.proofs.found.variable.Given as goal

abbrev pub invariant-names : goal.invariant-names
invariant-names l = ranged l.name (ranged_vars (map var_view l.rest)) ≡ ranged l.name (ranged_vars (map var_view l.initial.rest))

abbrev pub decreases-names : goal.decreases-names
decreases-names l = length l.rest
