-- Files mean one list of actors from a class down.
use Rattle.std.proofs.Common.{◌≡◌, ℕ, List, [], ◌∷◌, Some, None, refl, sym, ap, subst, ◌∙◌}
use Rattle.cal_model.specs.Actor.{Actor}
use Rattle.cal_model.specs.Selection.{State}
use Rattle.cal_imports.specs.Answer.{Gives}
use Rattle.cal_imports.specs.Sources.{Source, name_of}
use Rattle.fnl_tree.specs.Tree.{Leaf, Tree}
use Rattle.check_leaves.specs.Leaves.{AreActorsOf}
use Rattle.net_model.specs.Network.{Leaf as NetLeaf, Network}
use Rattle.fnl_source.specs.Actors.{IsActorOf}
use Rattle.fnl_source.specs.Laws.{ActorsAreOne}
use Rattle.fnl_source.specs.Lone.{lone_leaf, lone_tree}
use Rattle.fnl_source.specs.Source.{AreActors, Files, IsSourceNetwork, IsTree}

trees_one : (files : Files) (class : List ℕ) (tree other : Tree) → ActorsAreOne → IsTree files class tree → IsTree files class other → tree ≡ other
trees_one files class tree other one (IsTree.of_network {top = top} is_top conforms) (IsTree.of_network {top = that} is_that conforms') = refl
trees_one files class tree other one (IsTree.of_network {top = top} is_top conforms) (IsTree.of_actor {name = name} {actor = actor} no_net named is) =
    let clash : Some top ≡ None = sym is_top ∙ no_net in absurd (cc)
trees_one files class tree other one (IsTree.of_actor {name = name} {actor = actor} no_net named is) (IsTree.of_network {top = top} is_top conforms) =
    let clash : Some top ≡ None = sym is_top ∙ no_net in absurd (cc)
trees_one files class tree other one (IsTree.of_actor {name = name} {actor = actor} no_net named is) (IsTree.of_actor {name = name'} {actor = actor'} no_net' named' is') =
    let scopes : Gives named.scope ≡ Gives named'.scope = sym named.is_scope ∙ named'.is_scope in
    let scope : named.scope ≡ named'.scope = cc in
    let same_name : name ≡ name' = named.is_name ∙ (ap (λ s. name_of s.actor) scope ∙ sym named'.is_name) in
    let there : IsActorOf files.sources (lone_leaf name' class) actor = subst (λ n. IsActorOf files.sources (lone_leaf n class) actor) same_name is in
    let same_actor : actor ≡ actor' = one files.sources (lone_leaf name' class) actor actor' there is' in
    ap (λ n. lone_tree n class actor) same_name ∙ ap (lone_tree name' class) same_actor

only_actors : (files : Files) (leaves : List Leaf) (actors : List Actor) (xs : List (NetLeaf State)) → AreActors files leaves actors xs → AreActorsOf files.sources leaves actors
only_actors files [] [] [] are = tt
only_actors files (leaf ∷ leaves) (actor ∷ actors) (x ∷ xs) are = (are.0, only_actors files leaves actors xs are.1.1)
only_actors files [] [] (x ∷ xs) are = absurd are
only_actors files [] (actor ∷ actors) xs are = absurd are
only_actors files (leaf ∷ leaves) [] xs are = absurd are
only_actors files (leaf ∷ leaves) (actor ∷ actors) [] are = absurd are

actors_one : ActorsAreOne → (sources : List Source) (leaves : List Leaf) (actors others : List Actor) → AreActorsOf sources leaves actors → AreActorsOf sources leaves others → actors ≡ others
actors_one one sources [] [] [] are those = refl
actors_one one sources (leaf ∷ leaves) (a ∷ actors) (b ∷ others) are those =
    ap (λ x. x ∷ actors) (one sources leaf a b are.0 those.0) ∙ ap (λ xs. b ∷ xs) (actors_one one sources leaves actors others are.1 those.1)
actors_one one sources [] (a ∷ actors) others are those = absurd are
actors_one one sources [] [] (b ∷ others) are those = absurd those
actors_one one sources (leaf ∷ leaves) [] others are those = absurd are
actors_one one sources (leaf ∷ leaves) (a ∷ actors) [] are those = absurd those

pub same_actors : ActorsAreOne → (files : Files) (class : List ℕ) (net other : Network State) (a : IsSourceNetwork files class net) (b : IsSourceNetwork files class other) → a.actors ≡ b.actors
same_actors one files class net other a b =
    let tree : a.tree ≡ b.tree = trees_one files class a.tree b.tree one a.is_tree b.is_tree in
    actors_one one files.sources b.tree.leaves a.actors b.actors
    (subst (λ t. AreActorsOf files.sources t.leaves a.actors) tree (only_actors files a.tree.leaves a.actors net.leaves a.are_actors))
    (only_actors files b.tree.leaves b.actors other.leaves b.are_actors)
