use Rattle.std.proofs.Common.{ap, ◌∙◌}
use Rattle.cal_scope.specs.Names.{is_among}
use Rattle.cal_scope.proofs.Found.{among_keys}
use Rattle.cal_scope.proofs.name_set.NameSet.has.Goals as goal

pub returns : goal.returns
returns c = c.contains.ensures ∙ among_keys c.args.name.now c.self.inside.names.keys ∙ ap (is_among c.args.name.now) c.self.view_is
