use Rattle.std.proofs.Common.{◌≡◌, ◌∷◌, sym, subst, rules}
use Rattle.check_functions.specs.Left.{Leaves}
use Rattle.check_functions.proofs.Telling.{leaves_first}
use Rattle.check_functions.proofs.renewing.leave.Goals as goal

pub places-preserved : goal.places-preserved
places-preserved c = λ last h.
    let opened : c.places.rest.now ≡ c.in-Some.first.now ∷ c.in-Some.others.now = search rules in
    c.places.invariant last
    (subst (λ ps. Leaves ps c.places.left.keys last) (sym opened)
    (leaves_first c.in-Some.first.now c.in-Some.others.now c.places.left.keys c.insert_full.new.self.keys last c.in_ok-_number.ensures.keys h))
