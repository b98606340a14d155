-- The network that was checked is the source network of the files.
use Rattle.std.proofs.Common.{◌≡◌, ℕ, List, [], ◌∷◌, map, refl, sym, ap, subst, ◌∙◌}
use Rattle.lower_actor.specs.Leaves.{AreLeavesOf}
use Rattle.cal_model.specs.Actor.{Actor}
use Rattle.cal_model.specs.Selection.{State}
use Rattle.cal_model.specs.Sound.{Each, IsSound}
use Rattle.net_model.specs.Network.{Leaf as NetLeaf, Network}
use Rattle.net_model.specs.Ready.{port_of as own_port}
use Rattle.fnl_flatten.specs.Flattened.{IsFlattened}
use Rattle.fnl_flatten.specs.Whole.{IsWhole}
use Rattle.fnl_flatten.specs.declared.flat.Flat.{Flat}
use Rattle.fnl_tree.specs.Tree.{Leaf, Tree}
use Rattle.check_leaves.specs.Laws.{ActorsAreLeaves, HasLeaves}
use Rattle.check_leaves.specs.Leaves.{actors_at_leaves}
use Rattle.check_leaves.specs.declared.found.LeafActors.{LeafActors}
use Rattle.fnl_source.specs.Actors.{head_of}
use Rattle.fnl_source.specs.Answers.{ActorsMakeWhole, AnswersAreSource, HasWiring}
use Rattle.fnl_source.specs.Laws.{ActorsAreOne}
use Rattle.fnl_source.specs.Source.{AreActors, Files, IsSourceNetwork}
use Rattle.network_check.specs.Checked.{HasSource, IsNetworkOf}
use Rattle.network_check.specs.Steps.{IsJoined, IsPeopled}
use Rattle.network_check.specs.declared.checked.Checked.{Checked}
use Rattle.network_check.proofs.Kept.{source_actors}

-- the leaves of a network behave as their actors, and stand at the paths of a tree, with its classes
record StandAt (leaves : List Leaf) (actors : List Actor) (xs : List (NetLeaf State)) : Type 0 where
  are : AreLeavesOf actors xs
  paths_are : map (λ x. x.path) xs ≡ map (λ leaf. leaf.path) leaves
  classes_are : map (λ x. x.class) xs ≡ map (λ leaf. leaf.class) leaves

are_leaves : (files : Files) (leaves : List Leaf) (actors : List Actor) (xs : List (NetLeaf State)) → AreActors files leaves actors xs
    → StandAt leaves actors xs
are_leaves files [] [] [] h = record { are = tt; paths_are = refl; classes_are = refl }
are_leaves files [] [] (x ∷ xs) h = absurd h
are_leaves files [] (a ∷ actors) xs h = absurd h
are_leaves files (leaf ∷ leaves) [] xs h = absurd h
are_leaves files (leaf ∷ leaves) (a ∷ actors) [] h = absurd h
are_leaves files (leaf ∷ leaves) (a ∷ actors) (x ∷ xs) h =
    let rest = are_leaves files leaves actors xs h.1.1 in
    record {
      are = (record { priorities = h.1.0.priorities; behaviour = h.1.0.behaviour }, rest.are);
      paths_are = ap (λ p. p ∷ map (λ y. y.path) xs) h.1.0.path ∙ ap (λ ps. leaf.path ∷ ps) rest.paths_are;
      classes_are = ap (λ c. c ∷ map (λ y. y.class) xs) h.1.0.class ∙ ap (λ cs. leaf.class ∷ cs) rest.classes_are;
    }

-- the network of leaves with the links and the ports of a flat network
abbrev net_of : Flat → List (NetLeaf State) → Network State
net_of flat xs = record {
  leaves = xs;
  links = flat.links.items;
  ins = map own_port flat.ins.items;
  outs = map own_port flat.outs.items;
}

wired : (flat : Flat) (xs : List (NetLeaf State)) → HasWiring flat (net_of flat xs)
wired flat xs = record { links = refl; ins = refl; outs = refl }

is_network : (files : Files) (tree : Tree) (actors : List Actor) (flat : Flat) (xs : List (NetLeaf State)) → AreActors files tree.leaves actors xs
    → IsFlattened tree (map head_of actors) flat → IsNetworkOf actors flat (net_of flat xs)
is_network files tree actors flat xs are is =
    let stand = are_leaves files tree.leaves actors xs are in
    record {
      leaves = stand.are;
      paths_are = stand.paths_are ∙ sym is.paths;
      classes_are = stand.classes_are ∙ sym is.classes;
      wiring = wired flat xs;
    }

-- the actors of a tree, joined by a flat network
joined : (files : Files) (class : List ℕ) (tree : Tree) (flat : Flat) (found : LeafActors) → ActorsAreOne → ActorsAreLeaves → AnswersAreSource
    → IsPeopled files class tree found → IsFlattened tree (map head_of (actors_at_leaves found)) flat
    → HasSource files class (record { flat = flat; actors = found })
joined files class tree flat found one leaves answers is flattened =
    let fine : Each IsSound (actors_at_leaves found) = is.stand.sound.at_leaves in
    let has : HasLeaves files tree.leaves (actors_at_leaves found) = leaves files tree.leaves (actors_at_leaves found) fine is.are_actors in
    let means : IsSourceNetwork files class (net_of flat has.xs) =
    answers files class tree (actors_at_leaves found) flat (net_of flat has.xs) is.is_tree is.sound_tree fine has.are flattened (wired flat has.xs) in
    record {
      net = net_of flat has.xs;
      has_net = record { sound = fine; is_net = is_network files tree (actors_at_leaves found) flat has.xs has.are flattened };
      means = means;
      same_actors = sym (source_actors one files class tree (actors_at_leaves found) (net_of flat has.xs) is.is_tree is.are_actors means);
      stand = is.stand;
    }

pub joined_source : (files : Files) (class : List ℕ) (tree : Tree) (found : LeafActors) (c : Checked) → ActorsAreOne → ActorsAreLeaves → AnswersAreSource
    → IsPeopled files class tree found → IsJoined tree found c → HasSource files class c
joined_source files class tree found c one leaves answers is j =
    subst (λ fs. HasSource files class (record { flat = c.flat; actors = fs })) (sym j.same) (joined files class tree c.flat found one leaves answers is j.flat)

-- it can be joined
pub peopled_whole : (files : Files) (class : List ℕ) (tree : Tree) (found : LeafActors) → ActorsAreLeaves → ActorsMakeWhole → IsPeopled files class tree found
    → IsWhole tree (map head_of (actors_at_leaves found))
peopled_whole files class tree found leaves whole is =
    whole tree (actors_at_leaves found) is.sound_tree (leaves files tree.leaves (actors_at_leaves found) is.stand.sound.at_leaves is.are_actors).many is.stand.sound.at_leaves
