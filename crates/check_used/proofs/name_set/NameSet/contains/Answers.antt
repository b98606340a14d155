use Rattle.std.proofs.Common.{ap, ◌∙◌}
use Rattle.cal_model.specs.Tags.{is_seen}
use Rattle.check_used.proofs.Keys.{seen_keys}
use Rattle.check_used.proofs.name_set.NameSet.contains.Goals as goal

pub returns : goal.returns
returns c = c.contains.ensures ∙ seen_keys c.args.name.now c.self.inside.names.keys ∙ ap (is_seen c.args.name.now) c.self.view_is
