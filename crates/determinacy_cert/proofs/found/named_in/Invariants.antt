use Rattle.std.proofs.Common.{◌≡◌, ◌≤◌, length, map, drop, None}
use Rattle.cal_model.specs.View.{pattern_view}
use Rattle.determinacy_cert.specs.Deciding.{named_in}
use Rattle.determinacy_cert.proofs.found.named_in.Given as goal

abbrev pub invariant-backwards : goal.invariant-backwards
invariant-backwards l = (l.index ≤ length l.patterns) × (named_in l.name (map pattern_view (drop l.index l.patterns)) ≡ None)

abbrev pub decreases-backwards : goal.decreases-backwards
decreases-backwards l = l.index
