use Rattle.std.proofs.Common.{◌≡◌, true, sym, ap, ◌∙◌, rules, Option, Some, None}
use Rattle.std.specs.Prelude.{ℕ, IsSome, is_some, string_bytes}
use Rattle.std.specs.Str.{bytes_eq}
use Rattle.cal_model.specs.Tags.{is_seen, number_of_name}
use Rattle.check_member.proofs.Seen.{found-at, number-of-key, seen-keys}
use Rattle.check_member.proofs.name_index.NameIndex.number.Goals as goal

is-there : (o : Option ℕ) → is_some o ≡ true → IsSome o
is-there (Some n) h = search rules
is-there None h = absurd (cc)

pub unwrap-requires : goal.unwrap-requires
unwrap-requires c =
    is-there c.get_index_of.result (c.get_index_of.ensures.found ∙ seen-keys c.args.name.now c.self.inside.names.keys
    ∙ ap (is_seen c.args.name.now) c.self.view_is ∙ c.requires)

pub returns : goal.returns
returns c =
    sym (found-at (λ k. bytes_eq c.args.name.now (string_bytes k)) c.self.inside.names.keys c.unwrap.result (sym c.get_index_of.ensures.index ∙ c.unwrap.ensures))
    ∙ number-of-key c.args.name.now c.self.inside.names.keys
    ∙ ap (number_of_name c.args.name.now) c.self.view_is
