use Rattle.std.proofs.Common.{ap, ◌∙◌}
use Rattle.check_functions.specs.Said.{places_in}
use Rattle.check_functions.proofs.Telling.{no_places, some_places}
use Rattle.check_functions.proofs.said.Said.places.Goals as goal

pub returns-in-Some : goal.returns-in-Some
returns-in-Some c =
    c.as_slice.ensures.value
    ∙ some_places c.args.name.now c.self.inside.places.entries c.in-Some.places.now c.in-Some.ensures.value
    ∙ ap (places_in c.args.name.now) c.self.view_is

pub returns-in-None : goal.returns-in-None
returns-in-None c =
    no_places c.args.name.now c.self.inside.places.entries c.in-None.ensures.value ∙ ap (places_in c.args.name.now) c.self.view_is
