use Rattle.std.proofs.Common.{ap, ◌∙◌}
use Rattle.fnl_flatten.specs.Arrows.{writer_of}
use Rattle.fnl_flatten.proofs.Lookups.{found_writer}
use Rattle.fnl_flatten.proofs.writers.Writers.get.Goals as goal

pub returns : goal.returns
returns c =
    c.copied.ensures ∙ c.get.ensures.value
    ∙ found_writer c.args.to c.self.inside.writers.entries
    ∙ ap (writer_of c.args.to) c.self.view_is
