use Rattle.std.proofs.Common.{◌≡◌, map, false, true, ap, ◌∙◌, rules}
use Rattle.std.specs.Prelude.{is_some, string_bytes}
use Rattle.const_env.specs.Standing.{place_named, placed_of}
use Rattle.check_stmt.proofs.FirstPlaces.{placed_before, placed_last}
use Rattle.check_stmt.proofs.procs.place_first.Goals as goal

pub returns-then-is_some-clause-placed : goal.returns-then-is_some-clause-placed
returns-then-is_some-clause-placed c =
    let stands : is_some (place_named c.args.name.now (map placed_of c.args.places.now.entries)) ≡ true = search rules in
    placed_before c.args.name.now c.args.place (map placed_of c.args.places.now.entries) stands

pub returns-clause-placed : goal.returns-clause-placed
returns-clause-placed c =
    let stands : is_some (place_named c.args.name.now (map placed_of c.args.places.now.entries)) ≡ false = search rules in
    let same : string_bytes c.in_ok-own.own ≡ c.args.name.now = search rules in
    ap (map placed_of) c.in_ok-insert.ensures.entries
    ∙ placed_last c.args.places.now c.in_ok-own.own c.args.place c.args.name.now same stands
