use Rattle.std.proofs.Common.{◌∙◌}
use Rattle.check_stmt.proofs.FirstPlaces.{found_place}
use Rattle.check_stmt.proofs.procs.place_in.Goals as goal

pub returns : goal.returns
returns c = c.copied.ensures ∙ c.get.ensures.value ∙ found_place c.args.name.now c.args.places.now.entries
