-- What binding and flattening answer is the network of the actors at the leaves.
use Rattle.std.proofs.Common.{◌≡◌, ℕ, zero, suc, List, [], ◌∷◌, map, length, refl, sym, ap, subst, ◌∙◌}
use Rattle.std.specs.Prelude.{None, Some, slice_get}
use Rattle.cal_model.specs.Actor.{Actor}
use Rattle.cal_model.specs.Laws.{JudgedIsType}
use Rattle.cal_model.specs.Selection.{State}
use Rattle.cal_model.specs.Sound.{Each, IsSound}
use Rattle.net_model.specs.Network.{Leaf as NetLeaf}
use Rattle.net_state.proofs.Gaining.{some_is}
use Rattle.cal_imports.specs.Answer.{Gives}
use Rattle.cal_imports.specs.Sources.{name_of}
use Rattle.fnl_tree.specs.Sound.{IsSound as IsSoundTree}
use Rattle.fnl_tree.specs.Tree.{Leaf, Net, Tree}
use Rattle.fnl_bind.specs.Sound.{BoundAreSound}
use Rattle.fnl_flatten.specs.Flat.{HasHead, IsFlat}
use Rattle.fnl_flatten.specs.Head.{Head}
use Rattle.fnl_flatten.proofs.FlatAnswers.{answer_is_flat}
use Rattle.fnl_source.specs.Actors.{IsActorOf, head_of}
use Rattle.fnl_source.specs.Answers.{ActorsHaveHeads, ActorsMakeWhole, LoneTreesAreSound}
use Rattle.fnl_source.specs.Laws.{ActorsAreOne}
use Rattle.fnl_source.specs.Lone.{lone_leaf, lone_tree}
use Rattle.fnl_source.specs.Source.{AreActors, Files, IsLeaf, IsTree}
use Rattle.lower_actor.specs.Leaves.{AreLeavesOf}
use Rattle.net_cells.specs.Sources.{HaveTypes}
use Rattle.net_cells.specs.SourceRuns.{AnswersAreActorNetworks, SourcesAreActorNetworks}
use Rattle.net_cells.proofs.PortTypes.{IsTyped, bound_typed, lone_typed, types_of}

-- leaves of a tree, their actors and the leaves of the network, one by one
data Acted (files : Files) : List Leaf → List Actor → List (NetLeaf State) → Type 0 where
  acted_none : Acted files [] [] []
  acted_more : {leaf : Leaf} {actor : Actor} {x : NetLeaf State} {leaves : List Leaf} {actors : List Actor} {xs : List (NetLeaf State)} → IsActorOf files.sources leaf actor → IsLeaf actor leaf x
      → Acted files leaves actors xs → Acted files (leaf ∷ leaves) (actor ∷ actors) (x ∷ xs)

acted : (files : Files) (leaves : List Leaf) (actors : List Actor) (xs : List (NetLeaf State)) → AreActors files leaves actors xs → Acted files leaves actors xs
acted files [] [] [] h = acted_none
acted files [] [] (x ∷ xs) h = absurd h
acted files [] (a ∷ actors) xs h = absurd h
acted files (leaf ∷ leaves) [] xs h = absurd h
acted files (leaf ∷ leaves) (a ∷ actors) [] h = absurd h
acted files (leaf ∷ leaves) (a ∷ actors) (x ∷ xs) h = acted_more h.0 h.1.0 (acted files leaves actors xs h.1.1)

as_many : {files : Files} {leaves : List Leaf} {actors : List Actor} {xs : List (NetLeaf State)} → Acted files leaves actors xs → length actors ≡ length leaves
as_many acted_none = refl
as_many (acted_more is_actor is rest) = ap suc (as_many rest)

same_paths : {files : Files} {leaves : List Leaf} {actors : List Actor} {xs : List (NetLeaf State)} → Acted files leaves actors xs → map (λ x. x.path) xs ≡ map (λ leaf. leaf.path) leaves
same_paths acted_none = refl
same_paths (acted_more {leaf = leaf} {xs = xs} is_actor is rest) = ap (λ p. p ∷ map (λ y. y.path) xs) is.path ∙ ap (λ ps. leaf.path ∷ ps) (same_paths rest)

same_classes : {files : Files} {leaves : List Leaf} {actors : List Actor} {xs : List (NetLeaf State)} → Acted files leaves actors xs → map (λ x. x.class) xs ≡ map (λ leaf. leaf.class) leaves
same_classes acted_none = refl
same_classes (acted_more {leaf = leaf} {xs = xs} is_actor is rest) = ap (λ p. p ∷ map (λ y. y.class) xs) is.class ∙ ap (λ ps. leaf.class ∷ ps) (same_classes rest)

are_leaves : {files : Files} {leaves : List Leaf} {actors : List Actor} {xs : List (NetLeaf State)} → Acted files leaves actors xs → AreLeavesOf actors xs
are_leaves acted_none = tt
are_leaves (acted_more is_actor is rest) = (record { priorities = is.priorities; behaviour = is.behaviour }, are_leaves rest)

heads_of : {files : Files} {leaves : List Leaf} {actors : List Actor} {xs : List (NetLeaf State)} → ActorsHaveHeads → Each IsSound actors → Acted files leaves actors xs
    → (l : ℕ) (x : NetLeaf State) (head : Head) → slice_get xs l ≡ Some x → slice_get (map head_of actors) l ≡ Some head → HasHead head x.behaviour
heads_of law sound acted_none l x head at there = cc
heads_of law sound (acted_more {actor = actor} {x = first} is_actor is rest) zero x head at there =
    subst (λ h. HasHead h x.behaviour) (some_is (head_of actor) head there)
    (subst (λ y. HasHead (head_of actor) y.behaviour) (some_is first x at)
    (subst (HasHead (head_of actor)) (sym is.behaviour) (law actor is.priorities sound.0)))
heads_of law sound (acted_more is_actor is rest) (suc l) x head at there = heads_of law sound.1 rest l x head at there

-- the one actor of a tree that is an actor alone
lone_sound : (files : Files) (leaf : Leaf) (actor : Actor) (actors : List Actor) (xs : List (NetLeaf State)) → ActorsAreOne → IsActorOf files.sources leaf actor → Each IsSound actors
    → Acted files (leaf ∷ []) actors xs → IsSound actor
lone_sound files leaf actor actors xs one is sound (acted_more {actor = other} is_actor is_leaf rest) = subst IsSound (one files.sources leaf other actor is_actor is) sound.0

top_typed : JudgedIsType → ActorsAreOne → (files : Files) (class : List ℕ) (tree : Tree) (actors : List Actor) (xs : List (NetLeaf State)) (top : Net) → IsTree files class tree → Each IsSound actors
    → Acted files tree.leaves actors xs → slice_get tree.nets 0 ≡ Some top → IsTyped top
top_typed judged one files class tree actors xs top (IsTree.of_network {top = entry} is_top conforms) sound all at = bound_typed judged files.networks class entry top is_top at
top_typed judged one files class tree actors xs top (IsTree.of_actor {name = name} {actor = actor} no_net named is) sound all at =
    lone_typed name class actor top (lone_sound files _ actor actors xs one is sound all) at

pub answers_are_networks : JudgedIsType → ActorsAreOne → ActorsHaveHeads → ActorsMakeWhole → AnswersAreActorNetworks
answers_are_networks judged one heads whole files class tree actors flat net is_tree sound_tree sound are is wired =
    let all = acted files tree.leaves actors net.leaves are in
    let is_flat : IsFlat tree (map head_of actors) net =
    answer_is_flat tree (map head_of actors) flat net (whole tree actors sound_tree (as_many all) sound) is (record {
      paths = same_paths all ∙ sym is.paths;
      classes = same_classes all ∙ sym is.classes;
      behaviours = heads_of heads sound all;
      links = wired.links;
      ins = wired.ins;
      outs = wired.outs;
    }) in
    let typed = top_typed judged one files class tree actors net.leaves is_flat.top is_tree sound all is_flat.is_top in
    record {
      sound = sound;
      leaves = are_leaves all;
      tree = tree;
      sound_tree = sound_tree;
      flat = is_flat;
      in_types = subst HaveTypes (sym is_flat.ins) (types_of is_flat.top.ins typed.ins);
      out_types = subst HaveTypes (sym is_flat.outs) (types_of is_flat.top.outs typed.outs);
    }

-- ---- source networks

-- the tree of a class is one
trees_one : (files : Files) (class : List ℕ) (tree other : Tree) → ActorsAreOne → IsTree files class tree → IsTree files class other → tree ≡ other
trees_one files class tree other one (IsTree.of_network {top = top} is_top conforms) (IsTree.of_network {top = that} is_that conforms') = refl
trees_one files class tree other one (IsTree.of_network {top = top} is_top conforms) (IsTree.of_actor {name = name} {actor = actor} no_net named is) =
    let clash : Some top ≡ None = sym is_top ∙ no_net in absurd (cc)
trees_one files class tree other one (IsTree.of_actor {name = name} {actor = actor} no_net named is) (IsTree.of_network {top = top} is_top conforms) =
    let clash : Some top ≡ None = sym is_top ∙ no_net in absurd (cc)
trees_one files class tree other one (IsTree.of_actor {name = name} {actor = actor} no_net named is) (IsTree.of_actor {name = name'} {actor = actor'} no_net' named' is') =
    let scopes : Gives named.scope ≡ Gives named'.scope = sym named.is_scope ∙ named'.is_scope in
    let scope : named.scope ≡ named'.scope = cc in
    let same_name : name ≡ name' = named.is_name ∙ (ap (λ s. name_of s.actor) scope ∙ sym named'.is_name) in
    let there : IsActorOf files.sources (lone_leaf name' class) actor = subst (λ n. IsActorOf files.sources (lone_leaf n class) actor) same_name is in
    let same_actor : actor ≡ actor' = one files.sources (lone_leaf name' class) actor actor' there is' in
    ap (λ n. lone_tree n class actor) same_name ∙ ap (lone_tree name' class) same_actor

tree_sound : LoneTreesAreSound → BoundAreSound → (files : Files) (class : List ℕ) (tree : Tree) (actors : List Actor) (xs : List (NetLeaf State)) → ActorsAreOne → IsTree files class tree
    → Each IsSound actors → Acted files tree.leaves actors xs → IsSoundTree tree
tree_sound lone bound files class tree actors xs one (IsTree.of_network {top = top} is_top conforms) sound all = bound files.networks class top is_top conforms
tree_sound lone bound files class tree actors xs one (IsTree.of_actor {name = name} {actor = actor} no_net named is) sound all =
    lone name class actor (lone_sound files _ actor actors xs one is sound all)

-- leaves are one list of actors
actors_one : {files : Files} {leaves : List Leaf} {actors others : List Actor} {xs : List (NetLeaf State)} → ActorsAreOne → Acted files leaves actors xs → Acted files leaves others xs → actors ≡ others
actors_one one acted_none acted_none = refl
actors_one {files} one (acted_more {leaf = leaf} {actor = actor} {actors = actors} is_actor is rest) (acted_more {actor = other} is_other is' rest') =
    ap (λ a. a ∷ actors) (one files.sources leaf actor other is_actor is_other) ∙ ap (λ those. other ∷ those) (actors_one one rest rest')

pub sources_are_networks : JudgedIsType → ActorsAreOne → LoneTreesAreSound → BoundAreSound → SourcesAreActorNetworks
sources_are_networks judged one lone bound files class net tree actors source is_tree are sound =
    let all = acted files tree.leaves actors net.leaves are in
    let same_tree : source.tree ≡ tree = trees_one files class source.tree tree one source.is_tree is_tree in
    let theirs = acted files tree.leaves source.actors net.leaves (subst (λ t. AreActors files t.leaves source.actors net.leaves) same_tree source.are_actors) in
    let same_actors : source.actors ≡ actors = actors_one one theirs all in
    let is_flat : IsFlat tree (map head_of actors) net =
    subst (λ those. IsFlat tree (map head_of those) net) same_actors (subst (λ t. IsFlat t (map head_of source.actors) net) same_tree source.flat) in
    let typed = top_typed judged one files class tree actors net.leaves is_flat.top is_tree sound all is_flat.is_top in
    record {
      sound = sound;
      leaves = are_leaves all;
      tree = tree;
      sound_tree = tree_sound lone bound files class tree actors net.leaves one is_tree sound all;
      flat = is_flat;
      in_types = subst HaveTypes (sym is_flat.ins) (types_of is_flat.top.ins typed.ins);
      out_types = subst HaveTypes (sym is_flat.outs) (types_of is_flat.top.outs typed.outs);
    }
