use Rattle.std.proofs.Common.{ap, ◌∙◌}
use Rattle.fnl_bind.specs.Library.{is_among}
use Rattle.fnl_scopes.proofs.Keys.{among_keys}
use Rattle.fnl_scopes.proofs.name_set.NameSet.has.Goals as goal

pub returns : goal.returns
returns c = c.contains.ensures ∙ among_keys c.args.name.now c.self.inside.names.keys ∙ ap (is_among c.args.name.now) c.self.view_is
