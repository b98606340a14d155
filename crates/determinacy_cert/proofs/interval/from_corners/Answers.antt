use Rattle.std.proofs.Common.{◌≡◌, sym, ◌∙◌, rules}
use Rattle.cal_model.specs.Certified.{just}
use Rattle.determinacy_cert.specs.Viewing.{interval_view}
use Rattle.determinacy_cert.proofs.Corners.{corners_hold}
use Rattle.determinacy_cert.proofs.interval.from_corners.Goals as goal

pub returns : goal.returns
returns c = λ w x y z given.
    let i : interval_view c.just.result ≡ just c.in-Some.a = search rules in
    let j : interval_view c.just-2.result ≡ just c.in-Some-b.b = search rules in
    let k : interval_view c.just-3.result ≡ just c.in-Some-c.c = search rules in
    let l : interval_view c.just-4.result ≡ just c.in-Some-d.d = search rules in
    corners_hold c.in-Some.a c.in-Some-b.b c.in-Some-c.c c.in-Some-d.d w x y z
    (interval_view c.just.result) (interval_view c.just-2.result) (interval_view c.just-3.result) (interval_view c.just-4.result)
    (interval_view c.hull.result) (interval_view c.hull-2.result) (interval_view c.hull-3.result)
    (sym c.in-Some.is ∙ given.0) (sym c.in-Some-b.is ∙ given.1) (sym c.in-Some-c.is ∙ given.2) (sym c.in-Some-d.is ∙ given.3)
    i j k l c.hull.ensures c.hull-2.ensures c.hull-3.ensures
