use Rattle.std.proofs.Common.{◌≡◌, map, not, ap, ◌∙◌, rules}
use Rattle.std.specs.Prelude.{string_bytes}
use Rattle.cal_model.specs.Tags.{is_seen, with_seen}
use Rattle.check_member.proofs.Seen.{added-key, seen-keys}
use Rattle.check_member.proofs.name_index.NameIndex.add.Goals as goal

pub returns-clause-is_new : goal.returns-clause-is_new
returns-clause-is_new c =
    let same : string_bytes c.in_ok-name.name ≡ c.args.name.now = search rules in
    c.in_ok-_number.ensures.added
    ∙ ap not (seen-keys (string_bytes c.in_ok-name.name) c.self.inside.names.keys
    ∙ ap (λ n. is_seen n (map string_bytes c.self.inside.names.keys)) same
    ∙ ap (is_seen c.args.name.now) c.self.view_is)

pub returns-clause-added : goal.returns-clause-added
returns-clause-added c =
    let same : string_bytes c.in_ok-name.name ≡ c.args.name.now = search rules in
    ap (map string_bytes) c.in_ok-_number.ensures.keys
    ∙ added-key c.self.inside.names.keys c.in_ok-name.name
    ∙ ap (λ n. with_seen (map string_bytes c.self.inside.names.keys) n) same
    ∙ ap (λ names. with_seen names c.args.name.now) c.self.view_is
