use Rattle.std.proofs.Common.{ap, ◌∙◌, option_map}
use Rattle.fnl_tree.specs.View.{inner_of}
use Rattle.fnl_flatten.specs.Joints.{part_named}
use Rattle.fnl_flatten.proofs.Lookups.{found_part}
use Rattle.fnl_flatten.proofs.part_names.PartNames.get.Goals as goal

pub returns : goal.returns
returns c =
    ap (option_map inner_of) (c.copied.ensures ∙ c.get.ensures.value)
    ∙ found_part c.args.name.now c.self.inside.inners.entries
    ∙ ap (part_named c.args.name.now) c.self.view_is
