-- What binding and flattening answer is the source network.
use Rattle.std.proofs.Common.{◌≡◌, ℕ, zero, suc, List, [], ◌∷◌, map, length, refl, sym, ap, subst, ◌∙◌, Some}
use Rattle.std.specs.Prelude.{All, slice_get}
use Rattle.std.proofs.lemmas.List.{length-map}
use Rattle.std.proofs.lemmas.List.Elements.{All-nil, All-cons}
use Rattle.cal_model.specs.Actor.{Actor}
use Rattle.cal_model.specs.Selection.{State}
use Rattle.cal_model.specs.Sound.{Each, IsSound}
use Rattle.net_model.specs.Network.{Leaf as NetLeaf, Network}
use Rattle.fnl_tree.specs.Tree.{Leaf, Tree}
use Rattle.fnl_flatten.specs.Flat.{HasHead}
use Rattle.fnl_flatten.specs.Flattened.{IsFlattened, StandsFor}
use Rattle.fnl_flatten.specs.Head.{Head, IsHeadSound}
use Rattle.fnl_flatten.specs.declared.flat.Flat.{Flat}
use Rattle.fnl_flatten.proofs.FlatAnswers.{answer_is_flat}
use Rattle.fnl_source.specs.Actors.{head_of}
use Rattle.fnl_source.specs.Answers.{ActorsMakeWhole, AnswersAreSource, BoundAreTrees, HasWiring}
use Rattle.fnl_source.specs.Source.{AreActors, Files, IsTree}
use Rattle.fnl_source.proofs.Heads.{actors_have_heads, heads_are_sound}

pub bound_are_trees : BoundAreTrees
bound_are_trees files class top tree is_top is =
    subst (IsTree files class) (sym is.is) (IsTree.of_network {top = top} is_top is.conforms)

-- ---- trees that can be flattened

each_head : (actors : List Actor) → Each IsSound actors → All IsHeadSound (map head_of actors)
each_head [] h = All-nil IsHeadSound
each_head (a ∷ actors) h = All-cons IsHeadSound (head_of a) (map head_of actors) (heads_are_sound a h.0) (each_head actors h.1)

pub actors_make_whole : ActorsMakeWhole
actors_make_whole tree actors sound many fine = record {
  sound = sound;
  one_a_leaf = length-map actors head_of ∙ many;
  each_head = each_head actors fine;
}

-- ---- the actors at the leaves

as_many : (files : Files) (leaves : List Leaf) (actors : List Actor) (xs : List (NetLeaf State)) → AreActors files leaves actors xs
    → length actors ≡ length leaves
as_many files [] [] [] h = refl
as_many files [] [] (x ∷ xs) h = absurd h
as_many files [] (a ∷ actors) xs h = absurd h
as_many files (leaf ∷ leaves) [] xs h = absurd h
as_many files (leaf ∷ leaves) (a ∷ actors) [] h = absurd h
as_many files (leaf ∷ leaves) (a ∷ actors) (x ∷ xs) h = ap suc (as_many files leaves actors xs h.1.1)

paths : (files : Files) (leaves : List Leaf) (actors : List Actor) (xs : List (NetLeaf State)) → AreActors files leaves actors xs
    → map (λ x. x.path) xs ≡ map (λ leaf. leaf.path) leaves
paths files [] [] [] h = refl
paths files [] [] (x ∷ xs) h = absurd h
paths files [] (a ∷ actors) xs h = absurd h
paths files (leaf ∷ leaves) [] xs h = absurd h
paths files (leaf ∷ leaves) (a ∷ actors) [] h = absurd h
paths files (leaf ∷ leaves) (a ∷ actors) (x ∷ xs) h =
    ap (λ p. p ∷ map (λ y. y.path) xs) h.1.0.path ∙ ap (λ ps. leaf.path ∷ ps) (paths files leaves actors xs h.1.1)

classes : (files : Files) (leaves : List Leaf) (actors : List Actor) (xs : List (NetLeaf State)) → AreActors files leaves actors xs
    → map (λ x. x.class) xs ≡ map (λ leaf. leaf.class) leaves
classes files [] [] [] h = refl
classes files [] [] (x ∷ xs) h = absurd h
classes files [] (a ∷ actors) xs h = absurd h
classes files (leaf ∷ leaves) [] xs h = absurd h
classes files (leaf ∷ leaves) (a ∷ actors) [] h = absurd h
classes files (leaf ∷ leaves) (a ∷ actors) (x ∷ xs) h =
    ap (λ p. p ∷ map (λ y. y.class) xs) h.1.0.class ∙ ap (λ ps. leaf.class ∷ ps) (classes files leaves actors xs h.1.1)

abbrev Kept : List Actor → List (NetLeaf State) → Type 0
Kept actors xs = (l : ℕ) (x : NetLeaf State) (head : Head) → slice_get xs l ≡ Some x
    → slice_get (map head_of actors) l ≡ Some head → HasHead head x.behaviour

kept_first : (a : Actor) (actors : List Actor) (x : NetLeaf State) (xs : List (NetLeaf State)) → HasHead (head_of a) x.behaviour
    → Kept actors xs → Kept (a ∷ actors) (x ∷ xs)
kept_first a actors x xs first others zero y head e f =
    let same : x ≡ y = cc in
    let alike : head_of a ≡ head = cc in
    subst (λ h. HasHead h y.behaviour) alike (subst (λ z. HasHead (head_of a) z.behaviour) same first)
kept_first a actors x xs first others (suc l) y head e f = others l y head e f

kept : (files : Files) (leaves : List Leaf) (actors : List Actor) (xs : List (NetLeaf State)) → Each IsSound actors
    → AreActors files leaves actors xs → Kept actors xs
kept files [] [] [] fine h = λ l x head e f. absurd cc
kept files [] [] (x ∷ xs) fine h = absurd h
kept files [] (a ∷ actors) xs fine h = absurd h
kept files (leaf ∷ leaves) [] xs fine h = absurd h
kept files (leaf ∷ leaves) (a ∷ actors) [] fine h = absurd h
kept files (leaf ∷ leaves) (a ∷ actors) (x ∷ xs) fine h =
    kept_first a actors x xs
    (subst (HasHead (head_of a)) (sym h.1.0.behaviour) (actors_have_heads a h.1.0.priorities fine.0))
    (kept files leaves actors xs fine.1 h.1.1)

-- ---- the network

stands_for : (files : Files) (tree : Tree) (actors : List Actor) (flat : Flat) (net : Network State) → Each IsSound actors
    → AreActors files tree.leaves actors net.leaves → IsFlattened tree (map head_of actors) flat → HasWiring flat net
    → StandsFor (map head_of actors) flat net
stands_for files tree actors flat net fine are is wired = record {
  paths = paths files tree.leaves actors net.leaves are ∙ sym is.paths;
  classes = classes files tree.leaves actors net.leaves are ∙ sym is.classes;
  behaviours = kept files tree.leaves actors net.leaves fine are;
  links = wired.links;
  ins = wired.ins;
  outs = wired.outs;
}

pub answers_are_source : AnswersAreSource
answers_are_source files class tree actors flat net is_tree sound fine are is wired =
    let whole = actors_make_whole tree actors sound (as_many files tree.leaves actors net.leaves are) fine in
    record {
      tree = tree;
      is_tree = is_tree;
      actors = actors;
      are_actors = are;
      flat = answer_is_flat tree (map head_of actors) flat net whole is (stands_for files tree actors flat net fine are is wired);
    }
