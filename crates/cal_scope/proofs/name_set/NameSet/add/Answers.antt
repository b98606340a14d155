use Rattle.std.proofs.Common.{◌≡◌, map, ap, ◌∙◌, rules}
use Rattle.std.specs.Prelude.{string_bytes}
use Rattle.cal_scope.specs.Names.{with_name}
use Rattle.cal_scope.proofs.Found.{added_key}
use Rattle.cal_scope.proofs.name_set.NameSet.add.Goals as goal

pub returns-clause-added : goal.returns-clause-added
returns-clause-added c =
    let same : string_bytes c.in_ok-name.name ≡ c.args.name.now = search rules in
    ap (map string_bytes) c.in_ok-insert.ensures.keys
    ∙ added_key c.self.inside.names.keys c.in_ok-name.name
    ∙ ap (λ n. with_name n (map string_bytes c.self.inside.names.keys)) same
    ∙ ap (with_name c.args.name.now) c.self.view_is
