use Rattle.std.proofs.Common.{ap, ◌∙◌}
use Rattle.check_leaves.specs.Finding.{number_of}
use Rattle.check_leaves.proofs.Numbers.{found_number}
use Rattle.check_leaves.proofs.newest.Newest.get.Goals as goal

pub returns : goal.returns
returns c =
    c.copied.ensures ∙ c.get.ensures.value
    ∙ found_number c.args.class.now c.self.inside.numbers.entries
    ∙ ap (number_of c.args.class.now) c.self.view_is
