use Rattle.std.specs.Prelude.{map}
use Rattle.std.specs.Arc.{arc_value}
use Rattle.kit_runs.specs.Fits.{IsLinkFine, OfFirst}
use Rattle.kit_runs.proofs.fits.are_links_fine.Given as goal

abbrev pub invariant-loop-l : goal.invariant-loop-l
invariant-loop-l l = OfFirst l.l l.wiring.links.items (IsLinkFine (map arc_value l.actors) l.wiring)
