use Rattle.std.proofs.Common.{[], ◌∷◌, ◌++◌, ap, ◌∙◌}
use Rattle.fnl_flatten.specs.Arrows.{writer_of}
use Rattle.fnl_flatten.proofs.Lookups.{added_writer}
use Rattle.fnl_flatten.proofs.writers.Writers.add.Goals as goal

pub returns : goal.returns
returns c =
    c.in_ok-insert.ensures.entries
    ∙ added_writer c.self.inside.writers c.args.to c.args.writer (ap (writer_of c.args.to) c.self.view_is ∙ c.requires)
    ∙ ap (λ es. es ++ (c.args.to, c.args.writer) ∷ []) c.self.view_is
