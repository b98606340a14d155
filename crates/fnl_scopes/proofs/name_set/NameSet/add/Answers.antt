use Rattle.std.proofs.Common.{◌≡◌, false, ◌++◌, ◌∷◌, [], map, ap, ◌∙◌, rules}
use Rattle.std.specs.Prelude.{string_bytes}
use Rattle.fnl_bind.specs.Library.{is_among}
use Rattle.fnl_scopes.proofs.Keys.{added_key}
use Rattle.fnl_scopes.proofs.name_set.NameSet.add.Goals as goal

pub returns : goal.returns
returns c =
    let same : string_bytes c.in_ok-name.name ≡ c.args.name.now = search rules in
    let new : is_among (string_bytes c.in_ok-name.name) (map string_bytes c.self.inside.names.keys) ≡ false =
    ap (λ n. is_among n (map string_bytes c.self.inside.names.keys)) same ∙ ap (is_among c.args.name.now) c.self.view_is ∙ c.requires in
    ap (map string_bytes) c.in_ok-insert.ensures.keys
    ∙ added_key c.self.inside.names.keys c.in_ok-name.name new
    ∙ ap (λ n. map string_bytes c.self.inside.names.keys ++ n ∷ []) same
    ∙ ap (λ ns. ns ++ c.args.name.now ∷ []) c.self.view_is
