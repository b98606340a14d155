use Rattle.std.proofs.Common.{ap, ◌∙◌}
use Rattle.std.specs.Prelude.{if◌then◌else◌, None, Some}
use Rattle.cal_model.specs.Tags.{is_seen, number_of_name}
use Rattle.check_used.proofs.Keys.{number_of_key}
use Rattle.check_used.proofs.name_set.NameSet.number.Goals as goal

pub returns : goal.returns
returns c =
    number_of_key c.args.name.now c.self.inside.names.keys c.get_index_of.result c.get_index_of.ensures.index c.get_index_of.ensures.found
    ∙ ap (λ names. if is_seen c.args.name.now names then Some (number_of_name c.args.name.now names) else None) c.self.view_is
