use Rattle.std.proofs.Common.{rules, ◌≡◌, ◌∷◌, true, false}
use Rattle.std.specs.Prelude.{None, is_some, slice_index_or}
use Rattle.cmd_certify.proofs.Leaves.{none_counted, one_counted}
use Rattle.cmd_certify.proofs.judging.count_certified.Goals as goal

pub places-preserved-then-is_none : goal.places-preserved-then-is_none
places-preserved-then-is_none c =
    let opened : c.places.rest.now ≡ c.in-Some.place.now ∷ c.in-Some.others.now = search rules in
    let nothing : is_some (slice_index_or c.args.all.now c.in-Some.place.now None) ≡ false = search rules in
    one_counted c.args.all.now c.args.places.now c.places.rest.now c.in-Some.others.now c.in-Some.place.now c.places.count opened nothing c.places.invariant

pub places-preserved : goal.places-preserved
places-preserved c =
    let opened : c.places.rest.now ≡ c.in-Some.place.now ∷ c.in-Some.others.now = search rules in
    let something : is_some (slice_index_or c.args.all.now c.in-Some.place.now None) ≡ true = search rules in
    none_counted c.args.all.now c.args.places.now c.places.rest.now c.in-Some.others.now c.in-Some.place.now c.places.count opened something c.places.invariant
