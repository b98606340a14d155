-- The tree of an actor alone, with its actor.
use Rattle.std.proofs.Common.{◌≡◌, ℕ, List, [], ◌∷◌, None, refl, sym, subst}
use Rattle.cal_imports.specs.Sources.{Source}
use Rattle.cal_model.specs.Actor.{Actor}
use Rattle.cal_model.specs.Sound.{Each, IsSound}
use Rattle.fnl_bind.specs.Library.{network_of}
use Rattle.fnl_tree.specs.Tree.{Leaf, Tree}
use Rattle.check_leaves.specs.Leaves.{AreActorsOf, IsWithin, actors_at_leaves}
use Rattle.check_leaves.specs.declared.found.LeafActors.{LeafActors}
use Rattle.fnl_source.specs.Answers.{LoneTreesAreSound}
use Rattle.fnl_source.specs.Lone.{lone_leaf, lone_tree}
use Rattle.fnl_source.specs.Source.{Files, IsNamed, IsTree}
use Rattle.network_check.specs.Checked.{StandAtLeaves}
use Rattle.network_check.specs.Steps.{HasOne, IsPeopled}

-- one leaf has one actor
record IsOne (actors : List Actor) : Type 0 where
  actor : Actor
  is : actors ≡ actor ∷ []

one_actor : (files : List Source) (leaf : Leaf) (actors : List Actor) → AreActorsOf files (leaf ∷ []) actors → IsOne actors
one_actor files leaf [] h = absurd h
one_actor files leaf (a ∷ []) h = record { actor = a; is = refl }
one_actor files leaf (a ∷ b ∷ actors) h = absurd h.1

pub has_one : (files : List Source) (leaf : Leaf) (found : LeafActors) → AreActorsOf files (leaf ∷ []) (actors_at_leaves found) → IsWithin found
    → HasOne found
has_one files leaf found are within =
    let one : IsOne (actors_at_leaves found) = one_actor files leaf (actors_at_leaves found) are in
    record { actor = one.actor; is = one.is; within = within }

-- .. which makes its tree
peopled : (files : Files) (class name : List ℕ) (found : LeafActors) (actor : Actor) → LoneTreesAreSound
    → network_of class files.networks ≡ None → IsNamed files class name → actors_at_leaves found ≡ actor ∷ []
    → AreActorsOf files.sources (lone_leaf name class ∷ []) (actors_at_leaves found) → StandAtLeaves found
    → IsPeopled files class (lone_tree name class actor) found
peopled files class name found actor sound none named one are stand =
    let is = subst (AreActorsOf files.sources (lone_leaf name class ∷ [])) one are in
    let actor_fine = subst (Each IsSound) one stand.sound.at_leaves in
    record {
      is_tree = IsTree.of_actor {name = name} {actor = actor} none named is.0;
      sound_tree = sound name class actor actor_fine.0;
      are_actors = are;
      stand = stand;
    }

pub peopled_lone : (files : Files) (class name : List ℕ) (found : LeafActors) (actor : Actor) (tree : Tree) → LoneTreesAreSound
    → network_of class files.networks ≡ None → IsNamed files class name → tree ≡ lone_tree name class actor → actors_at_leaves found ≡ actor ∷ []
    → AreActorsOf files.sources (lone_leaf name class ∷ []) (actors_at_leaves found) → StandAtLeaves found
    → IsPeopled files class tree found
peopled_lone files class name found actor tree sound none named same one are stand =
    subst (λ t. IsPeopled files class t found) (sym same) (peopled files class name found actor sound none named one are stand)
