-- Files that mean a network break no rule, and a library that has one isn't refused.
use Rattle.std.proofs.Common.{◌≡◌, inl, inr, ℕ, List, [], ◌∷◌, ◌++◌, map, Option, None, Some, refl, sym, ap, subst, ◌∙◌, arith}
use Rattle.std.specs.Prelude.{Contains}
use Rattle.rvc_base.specs.declared.refusal.Front.TheVariants as front
use Rattle.rvc_base.specs.declared.refusal.Refusal.{Refusal}
use Rattle.cal_imports.specs.Answer.{Answer, Gives, Refuses}
use Rattle.cal_imports.specs.Resolved.{resolved}
use Rattle.cal_imports.specs.Sources.{name_of}
use Rattle.cal_model.specs.Actor.{Actor}
use Rattle.cal_model.specs.Selection.{State}
use Rattle.net_model.specs.Network.{Leaf as NetLeaf, Network}
use Rattle.net_model.specs.declared.wiring.Link.{Link}
use Rattle.fnl_bind.specs.Library.{Entry, network_of}
use Rattle.fnl_bind.specs.Trees as binding
use Rattle.fnl_flatten.specs.Flat.{IsFlat}
use Rattle.fnl_flatten.specs.Flattened.{IsRefusal, PassesLimit}
use Rattle.fnl_flatten.specs.Head.{Head}
use Rattle.fnl_flatten.specs.Links.{AreLinks}
use Rattle.fnl_tree.specs.Tree.{Leaf, Tree}
use Rattle.check_leaves.specs.Leaves.{AreActorsOf, HasActor}
use Rattle.fnl_files.specs.Laws.{LoadedIsNotRefused}
use Rattle.fnl_source.specs.Actors.{IsActorOf, head_of}
use Rattle.fnl_source.specs.Files.{class_asked, files_of}
use Rattle.fnl_source.specs.Laws.{ActorsAreOne}
use Rattle.fnl_source.specs.Library.{FilesAreOne}
use Rattle.fnl_source.specs.Lone.{lone_leaf, lone_tree}
use Rattle.fnl_source.specs.Source.{AreActors, Files, IsNamed, IsSourceNetwork, IsTree}
use Rattle.network_check.specs.Laws.{NetworksAreNotRefused, NetworksBreakNothing}
use Rattle.network_check.specs.Refused.{AreLeavesIn, Breaks, in_files, in_leaves, in_links, in_network, in_networks, in_scope}
use Rattle.network_check.proofs.OneOrder.{joined_are_links}

never_both : {A B : Type 0} (o : Option A) (x : A) → o ≡ None → o ≡ Some x → B
never_both None x h i = absurd cc
never_both (Some y) x h i = absurd cc

nothing_in : {A : Type 0} (xs : List A) (x : A) → xs ≡ [] → Contains xs x → ⊥
nothing_in [] x none h = omega (arith, h.1)
nothing_in (y ∷ xs) x none h = cc

gives_or_refuses : {A : Type 0} (a : Answer A) (x : A) (r : Refusal) → a ≡ Gives x → a ≡ Refuses r.rule r.place.file r.place.offset → ⊥
gives_or_refuses (Gives y) x r h i = cc
gives_or_refuses (Refuses rule file at) x r h i = cc

given_same : {A : Type 0} (a : Answer A) (x y : A) → a ≡ Gives x → a ≡ Gives y → x ≡ y
given_same (Gives z) x y h i = cc
given_same (Refuses rule file at) x y h i = cc

-- ---- networks and scopes

bound_conforms : (files : Files) (class : List ℕ) (tree : Tree) (top : Entry) → IsTree files class tree
    → network_of class files.networks ≡ Some top → binding.violations files.networks class ≡ []
bound_conforms files class _ top (IsTree.of_network i none) h = none
bound_conforms files class _ top (IsTree.of_actor i named is) h = never_both (network_of class files.networks) top i h

scope_is_given : (files : Files) (class : List ℕ) (tree : Tree) (r : Refusal) → IsTree files class tree
    → network_of class files.networks ≡ None → resolved files.sources class ≡ Refuses r.rule r.place.file r.place.offset → ⊥
scope_is_given files class _ r (IsTree.of_network {top = top} i none) h is =
    never_both (network_of class files.networks) top h i
scope_is_given files class _ r (IsTree.of_actor i named actor) h is =
    gives_or_refuses (resolved files.sources class) named.scope r named.is_scope is

-- ---- leaves

name_is_one : (files : Files) (class name other : List ℕ) → IsNamed files class name → IsNamed files class other → name ≡ other
name_is_one files class name other h i =
    h.is_name ∙ ap (λ s. name_of s.actor) (given_same (resolved files.sources class) h.scope i.scope h.is_scope i.is_scope) ∙ sym i.is_name

leaves_are_one : (files : Files) (class : List ℕ) (all : List Leaf) (tree : Tree) → AreLeavesIn files class all → IsTree files class tree → all ≡ tree.leaves
leaves_are_one files class _ _ (AreLeavesIn.of_network h none) (IsTree.of_network i nothing) = refl
leaves_are_one files class _ _ (AreLeavesIn.of_network {top = top} h none) (IsTree.of_actor i named is) =
    never_both (network_of class files.networks) top i h
leaves_are_one files class _ _ (AreLeavesIn.of_actor h named) (IsTree.of_network {top = top} i none) =
    never_both (network_of class files.networks) top h i
leaves_are_one files class _ _ (AreLeavesIn.of_actor {name = n} h named) (IsTree.of_actor {name = m} i other is) =
    ap (λ x. lone_leaf x class ∷ []) (name_is_one files class n m named other)

has_actor : (files : Files) (before : List Leaf) (leaf : Leaf) (others : List Leaf) (actors : List Actor) (xs : List (NetLeaf State))
    → AreActors files (before ++ leaf ∷ others) actors xs → HasActor files.sources leaf
has_actor files [] leaf others [] xs h = absurd h
has_actor files [] leaf others (a ∷ actors) [] h = absurd h
has_actor files [] leaf others (a ∷ actors) (x ∷ xs) h = record { actor = a; is = h.0 }
has_actor files (b ∷ before) leaf others [] xs h = absurd h
has_actor files (b ∷ before) leaf others (a ∷ actors) [] h = absurd h
has_actor files (b ∷ before) leaf others (a ∷ actors) (x ∷ xs) h = has_actor files before leaf others actors xs h.1.1

-- ---- links

tree_is_one : ActorsAreOne → (files : Files) (class : List ℕ) (tree other : Tree) → IsTree files class tree → IsTree files class other → tree ≡ other
tree_is_one one files class _ _ (IsTree.of_network h none) (IsTree.of_network i nothing) = refl
tree_is_one one files class _ _ (IsTree.of_network {top = top} h none) (IsTree.of_actor i name actor) =
    never_both (network_of class files.networks) top i h
tree_is_one one files class _ _ (IsTree.of_actor h name actor) (IsTree.of_network {top = top} i none) =
    never_both (network_of class files.networks) top h i
tree_is_one one files class _ _ (IsTree.of_actor {name = n} {actor = a} h named is) (IsTree.of_actor {name = m} {actor = b} i other_named other_is) =
    let same : n ≡ m = name_is_one files class n m named other_named in
    let actor : a ≡ b = one files.sources (lone_leaf m class) a b (subst (λ x. IsActorOf files.sources (lone_leaf x class) a) same is) other_is in
    ap (λ x. lone_tree x class a) same ∙ ap (lone_tree m class) actor

actors_are_one : ActorsAreOne → (files : Files) (leaves : List Leaf) (actors others : List Actor) (xs : List (NetLeaf State))
    → AreActorsOf files.sources leaves actors → AreActors files leaves others xs → actors ≡ others
actors_are_one one files [] [] [] xs h i = refl
actors_are_one one files [] [] (b ∷ others) xs h i = absurd i
actors_are_one one files [] (a ∷ actors) others xs h i = absurd h
actors_are_one one files (leaf ∷ leaves) [] others xs h i = absurd h
actors_are_one one files (leaf ∷ leaves) (a ∷ actors) [] xs h i = absurd i
actors_are_one one files (leaf ∷ leaves) (a ∷ actors) (b ∷ others) [] h i = absurd i
actors_are_one one files (leaf ∷ leaves) (a ∷ actors) (b ∷ others) (x ∷ xs) h i =
    ap (λ c. c ∷ actors) (one files.sources leaf a b h.0 i.0) ∙ ap (λ cs. b ∷ cs) (actors_are_one one files leaves actors others xs h.1 i.1.1)

-- the actors of a tree are those of the source network
pub source_actors : ActorsAreOne → (files : Files) (class : List ℕ) (tree : Tree) (actors : List Actor) (net : Network State) → IsTree files class tree
    → AreActorsOf files.sources tree.leaves actors → (s : IsSourceNetwork files class net) → actors ≡ s.actors
source_actors one files class tree actors net is are s =
    actors_are_one one files s.tree.leaves actors s.actors net.leaves
    (subst (λ t. AreActorsOf files.sources t.leaves actors) (tree_is_one one files class tree s.tree is s.is_tree) are) s.are_actors

passes_none : (tree : Tree) (heads : List Head) (links : List Link) (file : ℕ) (r : Refusal) → AreLinks tree heads links → PassesLimit links file r → ⊥
passes_none tree heads links file r are (inl many) = omega (arith, many.1, are.few)
passes_none tree heads links file r are (inr much) = omega (arith, much.1, are.little)

not_refused : (tree : Tree) (heads : List Head) (net : Network State) (r : Refusal) → IsFlat tree heads net → IsRefusal tree heads (front.Refused r) → ⊥
not_refused tree heads net r flat (inl broken) = nothing_in _ _ flat.conforms broken
not_refused tree heads net r flat (inr passes) =
    passes_none tree heads net.links passes.top.file r flat.links
    (subst (λ links. PassesLimit links passes.top.file r) (joined_are_links tree heads passes.links net.links passes.joined flat.links) passes.passes)

-- ---- the whole

pub networks_break_nothing : ActorsAreOne → NetworksBreakNothing
networks_break_nothing one files class net r s (in_networks {top = top} h k) =
    nothing_in _ _ (bound_conforms files class s.tree top s.is_tree h) k
networks_break_nothing one files class net r s (in_scope h k) = scope_is_given files class s.tree r s.is_tree h k
networks_break_nothing one files class net r s (in_leaves {all = all} are k) =
    let same : s.tree.leaves ≡ k.before ++ k.leaf ∷ k.behind = sym (leaves_are_one files class all s.tree are s.is_tree) ∙ k.parts in
    k.no_actor (has_actor files k.before k.leaf k.behind s.actors net.leaves (subst (λ ls. AreActors files ls s.actors net.leaves) same s.are_actors))
networks_break_nothing one files class net r s (in_links {tree = tree} actors is are k) =
    let same : tree ≡ s.tree = tree_is_one one files class tree s.tree is s.is_tree in
    let list : actors ≡ s.actors = source_actors one files class tree actors net is are s in
    not_refused s.tree (map head_of s.actors) net r s.flat
    (subst (λ those. IsRefusal s.tree (map head_of those) (front.Refused r)) list (subst (λ t. IsRefusal t (map head_of actors) (front.Refused r)) same k))

pub networks_are_not_refused : ActorsAreOne → FilesAreOne → LoadedIsNotRefused → NetworksAreNotRefused
networks_are_not_refused one files loaded library top net misses names r tells is (in_files h) =
    loaded library top is.reads misses r names tells is.are_loaded h
networks_are_not_refused one files loaded library top net misses names r tells is (in_network b) =
    networks_break_nothing one (files_of is.reads) (class_asked top) net r is.means
    (subst (λ reads. Breaks (files_of reads) (class_asked top) r) (files library top b.reads is.reads tells b.are_loaded is.are_loaded) b.breaks)
