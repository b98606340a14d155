-- What was checked is at most one network.
use Rattle.std.proofs.Common.{◌≡◌, ℕ, List, [], ◌∷◌, map, refl, sym, ap, ◌∙◌}
use Rattle.lower_actor.specs.Leaves.{AreLeavesOf}
use Rattle.cal_model.specs.Actor.{Actor}
use Rattle.cal_model.specs.Laws.{BehaviourIsOne}
use Rattle.cal_model.specs.Selection.{State}
use Rattle.net_model.specs.Network.{Leaf as NetLeaf, Network}
use Rattle.check_leaves.specs.Leaves.{actors_at_leaves}
use Rattle.network_check.specs.Checked.{CheckedAreOne}

leaf_same : (x y : NetLeaf State) → x.path ≡ y.path → x.class ≡ y.class → x.behaviour ≡ y.behaviour → x ≡ y
leaf_same x y p q r = λ i. record { path = p i; class = q i; behaviour = r i }

head_same : (x y : List ℕ) (xs ys : List (List ℕ)) → x ∷ xs ≡ y ∷ ys → x ≡ y
head_same x y xs ys h = cc

tail_same : (x y : List ℕ) (xs ys : List (List ℕ)) → x ∷ xs ≡ y ∷ ys → xs ≡ ys
tail_same x y xs ys h = cc

leaves_are_one : BehaviourIsOne → (actors : List Actor) (xs ys : List (NetLeaf State)) → AreLeavesOf actors xs → AreLeavesOf actors ys
    → map (λ x. x.path) xs ≡ map (λ y. y.path) ys → map (λ x. x.class) xs ≡ map (λ y. y.class) ys → xs ≡ ys
leaves_are_one one [] [] [] h i p q = refl
leaves_are_one one [] [] (y ∷ ys) h i p q = absurd i
leaves_are_one one [] (x ∷ xs) ys h i p q = absurd h
leaves_are_one one (a ∷ actors) [] ys h i p q = absurd h
leaves_are_one one (a ∷ actors) (x ∷ xs) [] h i p q = absurd i
leaves_are_one one (a ∷ actors) (x ∷ xs) (y ∷ ys) h i p q =
    ap (λ z. z ∷ xs) (leaf_same x y (head_same x.path y.path _ _ p) (head_same x.class y.class _ _ q) (h.0.behaviour ∙ one a h.0.priorities i.0.priorities ∙ sym i.0.behaviour))
    ∙ ap (λ zs. y ∷ zs) (leaves_are_one one actors xs ys h.1 i.1 (tail_same x.path y.path _ _ p) (tail_same x.class y.class _ _ q))

network_same : (x y : Network State) → x.leaves ≡ y.leaves → x.links ≡ y.links → x.ins ≡ y.ins → x.outs ≡ y.outs → x ≡ y
network_same x y p q r s = λ i. record { leaves = p i; links = q i; ins = r i; outs = s i }

pub checked_are_one : BehaviourIsOne → CheckedAreOne
checked_are_one one c net other h i =
    network_same net other
    (leaves_are_one one (actors_at_leaves c.actors) net.leaves other.leaves h.is_net.leaves i.is_net.leaves
    (h.is_net.paths_are ∙ sym i.is_net.paths_are) (h.is_net.classes_are ∙ sym i.is_net.classes_are))
    (h.is_net.wiring.links ∙ sym i.is_net.wiring.links)
    (h.is_net.wiring.ins ∙ sym i.is_net.wiring.ins)
    (h.is_net.wiring.outs ∙ sym i.is_net.wiring.outs)
