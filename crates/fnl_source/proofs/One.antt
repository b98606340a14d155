-- Files mean at most one network.
use Rattle.std.proofs.Common.{◌≡◌, List, [], ◌∷◌, map, Option, None, Some, refl, sym, ap, subst, ◌∙◌}
use Rattle.cal_model.specs.Actor.{Actor}
use Rattle.cal_model.specs.Laws.{BehaviourIsOne}
use Rattle.cal_model.specs.Selection.{State}
use Rattle.net_model.specs.Network.{Network, Leaf as NetLeaf}
use Rattle.cal_imports.specs.Answer.{Gives}
use Rattle.cal_imports.specs.Sources.{name_of}
use Rattle.cal_check.specs.Actors.{actor_given}
use Rattle.fnl_tree.specs.Tree.{Leaf, Tree}
use Rattle.fnl_bind.specs.Library.{network_of}
use Rattle.fnl_flatten.specs.Flat.{IsFlat, port_of}
use Rattle.fnl_flatten.proofs.OneList.{links_are_one}
use Rattle.fnl_source.specs.Actors.{IsActorOf, source_of, given_of, owner_of, head_of}
use Rattle.fnl_source.specs.Lone.{lone_leaf, lone_tree}
use Rattle.fnl_source.specs.Source.{Files, IsNamed, IsTree, IsLeaf, AreActors}
use Rattle.fnl_source.specs.Laws.{ActorsAreOne, NetworksAreOne}

given_same : {A : Type 0} (x y : A) → Gives x ≡ Gives y → x ≡ y
given_same x y h = cc

some_same : {A : Type 0} (x y : A) → Some x ≡ Some y → x ≡ y
some_same x y h = cc

never_both : {A B : Type 0} (o : Option A) (x : A) → o ≡ None → o ≡ Some x → B
never_both o x h i = let e : None ≡ Some x = sym h ∙ i in absurd (cc)

pub actors_are_one : ActorsAreOne
actors_are_one files leaf actor other h i =
    let same : h.scope ≡ i.scope = given_same h.scope i.scope (sym h.is_scope ∙ i.is_scope) in
    h.is_source.is
    ∙ ap (λ s. actor_given (source_of s) (map given_of leaf.bindings) (owner_of leaf)) same
    ∙ sym i.is_source.is

name_is_one : (files : Files) (class name other : List _) → IsNamed files class name → IsNamed files class other → name ≡ other
name_is_one files class name other h i =
    let same : h.scope ≡ i.scope = given_same h.scope i.scope (sym h.is_scope ∙ i.is_scope) in
    h.is_name ∙ ap (λ s. name_of s.actor) same ∙ sym i.is_name

tree_is_one : (files : Files) (class : List _) (tree other : Tree) → IsTree files class tree → IsTree files class other → tree ≡ other
tree_is_one files class _ _ (IsTree.of_network h none) (IsTree.of_network i nothing) = refl
tree_is_one files class _ _ (IsTree.of_network {top = top} h none) (IsTree.of_actor i name actor) = never_both (network_of class files.networks) top i h
tree_is_one files class _ _ (IsTree.of_actor h name actor) (IsTree.of_network {top = top} i none) = never_both (network_of class files.networks) top h i
tree_is_one files class _ _ (IsTree.of_actor {name = n} {actor = a} h named is) (IsTree.of_actor {name = m} {actor = b} i other_named other_is) =
    let same : n ≡ m = name_is_one files class n m named other_named in
    let one : a ≡ b = actors_are_one files.sources (lone_leaf m class) a b (subst (λ x. IsActorOf files.sources (lone_leaf x class) a) same is) other_is in
    ap (λ x. lone_tree x class a) same ∙ ap (lone_tree m class) one

-- ---- leaves

leaf_is_one : BehaviourIsOne → (actor : Actor) (leaf : Leaf) (x y : NetLeaf State) → IsLeaf actor leaf x → IsLeaf actor leaf y → x ≡ y
leaf_is_one one actor leaf x y h i =
    leaf_same x y (h.path ∙ sym i.path) (h.class ∙ sym i.class) (h.behaviour ∙ one actor h.priorities i.priorities ∙ sym i.behaviour)
  where
    leaf_same : (x y : NetLeaf State) → x.path ≡ y.path → x.class ≡ y.class → x.behaviour ≡ y.behaviour → x ≡ y
    leaf_same x y p q r =
        ap (λ a. record { path = a; class = x.class; behaviour = x.behaviour }) p
        ∙ ap (λ a. record { path = y.path; class = a; behaviour = x.behaviour }) q
        ∙ ap (λ a. record { path = y.path; class = y.class; behaviour = a }) r

record AreSame (actors others : List Actor) (xs ys : List (NetLeaf State)) : Type 0 where
  one_list : actors ≡ others
  one_leaves : xs ≡ ys

all_one : BehaviourIsOne → (files : Files) (leaves : List Leaf) (actors others : List Actor) (xs ys : List (NetLeaf State))
    → AreActors files leaves actors xs → AreActors files leaves others ys → AreSame actors others xs ys
all_one one files [] [] [] [] [] h i = record { one_list = refl; one_leaves = refl }
all_one one files (leaf ∷ leaves) (a ∷ actors) (b ∷ others) (x ∷ xs) (y ∷ ys) h i =
    let same : a ≡ b = actors_are_one files.sources leaf a b h.0 i.0 in
    let rest = all_one one files leaves actors others xs ys h.1.1 i.1.1 in
    let leaf_same : x ≡ y = leaf_is_one one b leaf x y (subst (λ c. IsLeaf c leaf x) same h.1.0) i.1.0 in
    record {
      one_list = ap (λ c. c ∷ actors) same ∙ ap (λ cs. b ∷ cs) rest.one_list;
      one_leaves = ap (λ z. z ∷ xs) leaf_same ∙ ap (λ zs. y ∷ zs) rest.one_leaves;
    }
all_one one files [] (a ∷ actors) others xs ys h i = absurd h
all_one one files [] [] others (x ∷ xs) ys h i = absurd h
all_one one files [] [] (b ∷ others) [] ys h i = absurd i
all_one one files [] [] [] [] (y ∷ ys) h i = absurd i
all_one one files (leaf ∷ leaves) [] others xs ys h i = absurd h
all_one one files (leaf ∷ leaves) (a ∷ actors) others [] ys h i = absurd h
all_one one files (leaf ∷ leaves) (a ∷ actors) [] (x ∷ xs) ys h i = absurd i
all_one one files (leaf ∷ leaves) (a ∷ actors) (b ∷ others) (x ∷ xs) [] h i = absurd i

-- ---- the whole network

network_same : (x y : Network State) → x.leaves ≡ y.leaves → x.links ≡ y.links → x.ins ≡ y.ins → x.outs ≡ y.outs → x ≡ y
network_same x y p q r s =
    ap (λ a. record { leaves = a; links = x.links; ins = x.ins; outs = x.outs }) p
    ∙ ap (λ a. record { leaves = y.leaves; links = a; ins = x.ins; outs = x.outs }) q
    ∙ ap (λ a. record { leaves = y.leaves; links = y.links; ins = a; outs = x.outs }) r
    ∙ ap (λ a. record { leaves = y.leaves; links = y.links; ins = y.ins; outs = a }) s

over_tree : BehaviourIsOne → (files : Files) (tree : Tree) (actors others : List Actor) (net other : Network State)
    → AreActors files tree.leaves actors net.leaves → AreActors files tree.leaves others other.leaves
    → IsFlat tree (map head_of actors) net → IsFlat tree (map head_of others) other → net ≡ other
over_tree one files tree actors others net other h i f g =
    let same = all_one one files tree.leaves actors others net.leaves other.leaves h i in
    let top : f.top ≡ g.top = some_same f.top g.top (sym f.is_top ∙ g.is_top) in
    let flat : IsFlat tree (map head_of others) net = subst (λ list. IsFlat tree (map head_of list) net) same.one_list f in
    network_same net other same.one_leaves
    (links_are_one tree (map head_of others) net.links other.links flat.links g.links)
    (f.ins ∙ ap (λ t. map port_of t.ins) top ∙ sym g.ins)
    (f.outs ∙ ap (λ t. map port_of t.outs) top ∙ sym g.outs)

pub networks_are_one : BehaviourIsOne → NetworksAreOne
networks_are_one one files class net other h i =
    let same : h.tree ≡ i.tree = tree_is_one files class h.tree i.tree h.is_tree i.is_tree in
    over_tree one files i.tree h.actors i.actors net other
    (subst (λ t. AreActors files t.leaves h.actors net.leaves) same h.are_actors) i.are_actors
    (subst (λ t. IsFlat t (map head_of h.actors) net) same h.flat) i.flat
