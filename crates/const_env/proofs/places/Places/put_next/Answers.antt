use Rattle.std.proofs.Common.{◌≡◌, map, length, ap, ◌∙◌, rules}
use Rattle.std.specs.Prelude.{string_bytes}
use Rattle.const_env.specs.Standing.{placed_of, with_place}
use Rattle.const_env.proofs.Leading.{put_place}
use Rattle.const_env.proofs.places.Places.put_next.Goals as goal

pub returns-clause-put : goal.returns-clause-put
returns-clause-put g c =
    let same : string_bytes c.in_ok-name.name ≡ c.args.name.now = search rules in
    let behind : c.len.result ≡ length c.args.items.now.items = search rules in
    ap (map placed_of) c.in_ok-insert.ensures.entries
    ∙ put_place c.in_ok-name.name c.len.result c.args.name.now c.self.inside.places.entries same
    ∙ ap (λ n. with_place c.args.name.now n (map placed_of c.self.inside.places.entries)) behind
    ∙ ap (with_place c.args.name.now (length c.args.items.now.items)) c.self.view_is
