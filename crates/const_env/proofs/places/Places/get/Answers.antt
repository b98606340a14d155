use Rattle.std.proofs.Common.{ap, ◌∙◌}
use Rattle.const_env.specs.Standing.{place_named}
use Rattle.const_env.proofs.Leading.{found_place}
use Rattle.const_env.proofs.places.Places.get.Goals as goal

pub returns : goal.returns
returns c =
    c.copied.ensures ∙ c.get.ensures.value
    ∙ found_place c.args.name.now c.self.inside.places.entries
    ∙ ap (place_named c.args.name.now) c.self.view_is
