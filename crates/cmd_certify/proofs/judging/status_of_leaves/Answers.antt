use Rattle.std.proofs.Common.{rules, ◌≡◌, ◌∷◌}
use Rattle.std.specs.Prelude.{None, slice_index_or}
use Rattle.cmd_certify.proofs.Leaves.{next_sought}
use Rattle.cmd_certify.proofs.judging.status_of_leaves.Goals as goal

pub places-preserved : goal.places-preserved
places-preserved c =
    let opened : c.places.rest.now ≡ c.in-Some.place.now ∷ c.in-Some.others.now = search rules in
    let none : slice_index_or c.args.all.now c.in-Some.place.now None ≡ None = search rules in
    next_sought c.args.all.now c.args.places.now c.places.rest.now c.in-Some.others.now c.in-Some.place.now c.places.leaf opened none c.places.invariant
