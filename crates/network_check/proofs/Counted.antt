-- The misses that were counted before a network was given.
use Rattle.std.proofs.Common.{◌≡◌, ℕ, suc, ◌<◌, true, List, [], ◌∷◌, length, refl, sym, ap, subst, ◌∙◌, arith}
use Rattle.std.proofs.lemmas.List.{length-map}
use Rattle.std.proofs.lemmas.List.Elements.{All-head}
use Rattle.std.specs.List.{All}
use Rattle.std.specs.Prelude.{Option, None, Some, is_some, string_bytes}
use Rattle.rvc_io.specs.Count.{HasRisen}
use Rattle.cal_files.specs.Loading.{Counts}
use Rattle.cal_model.specs.Actor.{Actor}
use Rattle.cal_model.specs.Selection.{State}
use Rattle.net_model.specs.Network.{Leaf as NetLeaf, Network}
use Rattle.fnl_bind.specs.Library.{network_of}
use Rattle.fnl_bind.specs.Trees.{bound}
use Rattle.fnl_flatten.specs.declared.flat.Flat.{Flat}
use Rattle.fnl_tree.specs.Tree.{Leaf, Tree}
use Rattle.fnl_files.specs.Laws.{LeavesAreTried}
use Rattle.fnl_files.specs.Requests.{AreTried}
use Rattle.fnl_files.specs.Views.{HasFile}
use Rattle.fnl_source.specs.Files.{Asked, a_class, a_network, an_actor, Read, asked_by_all, class_asked, files_of}
use Rattle.fnl_source.specs.Source.{AreActors, Files, IsSourceNetwork, IsTree}
use Rattle.network_check.specs.Checked.{CountsMisses, IsNetworkOf}

-- ---- how many leaves there are

many_paths : (actors : List Actor) (flat : Flat) (net : Network State) → IsNetworkOf actors flat net → length flat.paths.items ≡ length net.leaves
many_paths actors flat net is =
    sym (length-map flat.paths.items string_bytes) ∙ ap length (sym is.paths_are) ∙ length-map net.leaves (λ leaf. leaf.path)

many_leaves : (files : Files) (leaves : List Leaf) (actors : List Actor) (xs : List (NetLeaf State)) → AreActors files leaves actors xs → length xs ≡ length leaves
many_leaves files [] [] [] h = refl
many_leaves files [] [] (x ∷ xs) h = absurd h
many_leaves files [] (a ∷ actors) xs h = absurd h
many_leaves files (leaf ∷ leaves) [] xs h = absurd h
many_leaves files (leaf ∷ leaves) (a ∷ actors) [] h = absurd h
many_leaves files (leaf ∷ leaves) (a ∷ actors) (x ∷ xs) h = ap suc (many_leaves files leaves actors xs h.1.1)

-- ---- what holds for each leaf

of_first : {A : Type 0} (P : Type 0) (xs : List A) → All (λ x. P) xs → 0 < length xs → P
of_first P [] all some = absurd (omega (arith, some))
of_first P (x ∷ xs) all some = All-head (λ y. P) x xs all

none_or_some : {A : Type 0} (o : Option A) → o ≡ None → is_some o ≡ true → ⊥
none_or_some None h k = cc
none_or_some (Some x) h k = cc

of_tree : (files : Files) (class : List ℕ) (tree : Tree) (P : Type 0) → IsTree files class tree → is_some (network_of class files.networks) ≡ true
    → All (λ leaf. P) (bound files.networks class).leaves → All (λ leaf. P) tree.leaves
of_tree files class _ P (IsTree.of_network i none) has all = all
of_tree files class _ P (IsTree.of_actor i named is) has all = absurd (none_or_some (network_of class files.networks) i has)

-- ---- the whole

pub counts : LeavesAreTried → (reads : List Read) (top : Asked) (misses : Counts) (actors : List Actor) (flat : Flat) (net : Network State)
    → AreTried reads misses (top ∷ asked_by_all reads) → HasFile top (files_of reads)
    → IsSourceNetwork (files_of reads) (class_asked top) net → IsNetworkOf actors flat net → CountsMisses top misses flat
counts law reads (a_network class) misses actors flat net tried has s is = λ some.
    let many : length flat.paths.items ≡ length s.tree.leaves =
    many_paths actors flat net is ∙ many_leaves (files_of reads) s.tree.leaves s.actors net.leaves s.are_actors in
    of_first (HasRisen misses.old misses.new) s.tree.leaves
    (of_tree (files_of reads) class s.tree (HasRisen misses.old misses.new) s.is_tree has (law reads misses (a_network class) class tried))
    (subst (λ n. 0 < n) many some)
counts law reads (an_actor class) misses actors flat net tried has s is = tt
counts law reads (a_class class) misses actors flat net tried has s is = tt
