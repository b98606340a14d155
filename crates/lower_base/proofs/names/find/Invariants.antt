use Rattle.std.proofs.Common.{◌≡◌, length}
use Rattle.lower_base.specs.Names.{named, names_view}
use Rattle.lower_base.proofs.names.find.Given as goal

abbrev pub invariant-names : goal.invariant-names
invariant-names l = named l.text (names_view l.rest) ≡ named l.text (names_view l.initial.rest)

abbrev pub decreases-names : goal.decreases-names
decreases-names l = length l.rest
