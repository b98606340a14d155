use Rattle.std.proofs.Common.{◌≡◌, map, ap, ◌∙◌, rules}
use Rattle.std.specs.Prelude.{string_bytes}
use Rattle.cal_model.specs.Tags.{with_seen}
use Rattle.check_used.proofs.Keys.{added_key}
use Rattle.check_used.proofs.name_set.NameSet.add.Goals as goal

pub returns : goal.returns
returns c =
    let same : string_bytes c.in_ok-name.name ≡ c.args.name.now = search rules in
    ap (map string_bytes) c.in_ok-_number.ensures.keys
    ∙ added_key c.self.inside.names.keys c.in_ok-name.name
    ∙ ap (λ n. with_seen (map string_bytes c.self.inside.names.keys) n) same
    ∙ ap (λ names. with_seen names c.args.name.now) c.self.view_is
