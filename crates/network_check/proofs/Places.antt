-- The actors at leaves.
use Rattle.std.proofs.Common.{◌≡◌, ℕ, zero, suc, ◌<◌, List, [], ◌∷◌, map, length, Some, sym, ap, subst, ◌∙◌, arith}
use Rattle.std.specs.Prelude.{All, slice_get, slice_index_or}
use Rattle.std.proofs.lemmas.List.Elements.{All-head}
use Rattle.cal_model.specs.Actor.{Actor}
use Rattle.cal_model.specs.View.{actor_of}
use Rattle.cal_model.specs.declared.bound.Bound.{Bound}
use Rattle.check_leaves.specs.Leaves.{at_places, with_first}

-- ---- the one actor

bound_at : (bounds : List Bound) (p : ℕ) (b : Bound) → p < length bounds → b ≡ slice_index_or bounds p b → slice_get (map actor_of bounds) p ≡ Some (actor_of b)
bound_at [] p b low h = absurd (omega (arith, low))
bound_at (x ∷ bounds) zero b low h = ap (λ y. Some (actor_of y)) (sym h)
bound_at (x ∷ bounds) (suc p) b low h = bound_at bounds p b (omega (arith, low)) h

rest_none : {A : Type 0} (x y : A) (xs : List A) → x ∷ xs ≡ y ∷ [] → xs ≡ []
rest_none x y xs h = cc

pub one_of : (bounds : List Bound) (ps : List ℕ) (actor : Actor) (p : ℕ) (b : Bound) → at_places (map actor_of bounds) ps ≡ actor ∷ []
    → All (λ q. q < length bounds) ps → p ≡ slice_index_or ps 0 p → b ≡ slice_index_or bounds p b → at_places (map actor_of bounds) ps ≡ actor_of b ∷ []
one_of bounds [] actor p b is within first there = let none : [] ≡ actor ∷ [] = is in absurd cc
one_of bounds (q ∷ ps) actor p b is within first there =
    let low : q < length bounds = All-head (λ k. k < length bounds) q ps within in
    let at : slice_get (map actor_of bounds) q ≡ Some (actor_of b) = bound_at bounds q b low (subst (λ k. b ≡ slice_index_or bounds k b) first there) in
    let opened : at_places (map actor_of bounds) (q ∷ ps) ≡ actor_of b ∷ at_places (map actor_of bounds) ps = ap (λ o. with_first o (at_places (map actor_of bounds) ps)) at in
    opened ∙ ap (λ r. actor_of b ∷ r) (rest_none (actor_of b) actor (at_places (map actor_of bounds) ps) (sym opened ∙ is))
