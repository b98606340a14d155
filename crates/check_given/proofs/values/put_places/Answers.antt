use Rattle.std.proofs.Common.{◌≡◌, [], ◌∷◌, ◌++◌, length, refl, rules}
use Rattle.std.specs.Prelude.{string_bytes}
use Rattle.check_given.specs.Placing.{IsPut}
use Rattle.check_given.proofs.Places.{behind_more}
use Rattle.check_given.proofs.values.put_places.Goals as goal

pub backwards-preserved : goal.backwards-preserved
backwards-preserved c =
    let split : c.backwards.rest.now ≡ c.in-Some.before.now ++ c.in-Some.last.now ∷ [] = search rules in
    let name : c.as_str.result.now ≡ string_bytes c.in-Some.last.now.name = search rules in
    let put : IsPut c.as_str.result.now (length c.in-Some.before.now) c.backwards.places.entries c.put_place.new.places.entries = search rules in
    behind_more c.backwards.places.entries c.put_place.new.places.entries c.backwards.rest.now c.in-Some.before.now c.args.values.now c.in-Some.last.now c.as_str.result.now (length c.in-Some.before.now)
    c.backwards.invariant split name refl put
