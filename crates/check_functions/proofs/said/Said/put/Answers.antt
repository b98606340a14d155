use Rattle.std.proofs.Common.{◌≡◌, map, ap, ◌∙◌, rules}
use Rattle.std.specs.Prelude.{string_bytes}
use Rattle.check_functions.specs.Said.{items_or_none, places_in, saying_of, with_places}
use Rattle.check_functions.proofs.Telling.{found_places, put_places}
use Rattle.check_functions.proofs.said.Said.put.Goals as goal

pub returns-clause-put : goal.returns-clause-put
returns-clause-put c =
    let same : string_bytes c.in_ok-name.name ≡ c.args.name.now = search rules in
    ap (map saying_of) c.in_ok-before.ensures.entries
    ∙ put_places c.in_ok-name.name c.args.places c.args.name.now c.self.inside.places.entries same
    ∙ ap (with_places c.args.name.now c.args.places.items) c.self.view_is

pub returns-clause-before : goal.returns-clause-before
returns-clause-before c =
    let same : string_bytes c.in_ok-name.name ≡ c.args.name.now = search rules in
    let es = c.self.inside.places.entries in
    c.places_or_none.ensures
    ∙ ap items_or_none c.in_ok-before.ensures.old
    ∙ found_places (string_bytes c.in_ok-name.name) es
    ∙ ap (λ n. places_in n (map saying_of es)) same
    ∙ ap (places_in c.args.name.now) c.self.view_is
