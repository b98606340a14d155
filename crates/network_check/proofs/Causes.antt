-- Why files mean no network, from what a step of their check answers.
use Rattle.std.proofs.Common.{◌≡◌, ℕ, suc, ◌+◌, ◌≤◌, true, false, List, [], ◌∷◌, length, map, Option, None, Some, refl, sym, subst, arith}
use Rattle.std.specs.Prelude.{is_some, slice_get}
use Rattle.rvc_base.specs.declared.refusal.Front.{Front}
use Rattle.rvc_base.specs.declared.refusal.Front.TheVariants as front
use Rattle.cal_imports.specs.Resolved.{resolved}
use Rattle.cal_imports.specs.ScopeView as scopes
use Rattle.fnl_bind.specs.Answers as binding
use Rattle.fnl_bind.specs.Answers.{IsBound}
use Rattle.fnl_bind.specs.Library.{network_of}
use Rattle.fnl_flatten.specs.Flattened.{IsRefusal}
use Rattle.fnl_tree.specs.Sound.{IsSound}
use Rattle.fnl_tree.specs.Tree.{Leaf, Net, Tree}
use Rattle.net_model.specs.Limits.{max_instances}
use Rattle.fnl_tree.specs.View.{tree_of}
use Rattle.fnl_tree.specs.declared.tree.Tree.{Tree as DeclaredTree}
use Rattle.check_leaves.specs.Leaves as leaves
use Rattle.check_leaves.specs.Leaves.{actors_at_leaves}
use Rattle.check_leaves.specs.declared.found.LeafActors.{LeafActors}
use Rattle.fnl_source.specs.Actors.{head_of}
use Rattle.fnl_source.specs.Answers.{BoundAreTrees}
use Rattle.fnl_source.specs.Source.{Files}
use Rattle.network_check.specs.Refused.{AreLeavesIn, in_leaves, in_links, in_networks, in_scope}
use Rattle.network_check.specs.Steps.{AreReady, IsBare, IsPeopled, IsWhy}

-- ---- what is there

pub record IsThere {A : Type 0} (o : Option A) : Type 0 where
  pub value : A
  pub is : o ≡ Some value

pub there : {A : Type 0} (o : Option A) → is_some o ≡ true → IsThere o
there None h = absurd cc
there (Some x) h = record { value = x; is = refl }

pub not_there : {A : Type 0} (o : Option A) → is_some o ≡ false → o ≡ None
not_there None h = refl
not_there (Some x) h = absurd cc

-- ---- causes

pub why_networks : (files : Files) (class : List ℕ) (f : Front) → is_some (network_of class files.networks) ≡ true
    → binding.IsRefused files.networks class f → IsWhy files class f
why_networks files class (front.Refused r) is h =
    let top : IsThere (network_of class files.networks) = there (network_of class files.networks) is in
    in_networks {top = top.value} top.is h
why_networks files class front.Memory is h = tt

pub why_scope : (files : Files) (class : List ℕ) (f : Front) → network_of class files.networks ≡ None
    → scopes.IsRefused f (resolved files.sources class) → IsWhy files class f
why_scope files class (front.Refused r) none h = in_scope none h
why_scope files class front.Memory none h = tt

pub why_leaves : (files : Files) (class : List ℕ) (all : List Leaf) (f : Front) → AreLeavesIn files class all
    → leaves.IsFault files.sources all f → IsWhy files class f
why_leaves files class all (front.Refused r) are h = in_leaves {all = all} are h
why_leaves files class all front.Memory are h = tt

pub why_links : (files : Files) (class : List ℕ) (tree : Tree) (found : LeafActors) (f : Front) → IsPeopled files class tree found
    → IsRefusal tree (map head_of (actors_at_leaves found)) f → IsWhy files class f
why_links files class tree found (front.Refused r) is h =
    in_links {tree = tree} (actors_at_leaves found) is.is_tree is.are_actors h
why_links files class tree found front.Memory is h = tt

-- ---- the tree of a network

pub bare_net : (files : Files) (class : List ℕ) (tree : DeclaredTree) → BoundAreTrees → AreReady files class
    → is_some (network_of class files.networks) ≡ true → IsBound files.networks class tree → IsSound (tree_of tree)
    → IsBare files class (tree_of tree)
bare_net files class tree trees ready is bound_is sound =
    let top : IsThere (network_of class files.networks) = there (network_of class files.networks) is in
    record {
      is_tree = trees files class top.value tree top.is bound_is;
      sound_tree = sound;
      leaves = subst (λ t. AreLeavesIn files class t.leaves) (sym bound_is.is) (AreLeavesIn.of_network {top = top.value} top.is bound_is.conforms);
      spelled = ready.spelled;
    }

-- it has few leaves
pub few_leaves : (tree : Tree) → IsSound tree → length tree.leaves ≤ max_instances
few_leaves tree h = go tree.nets h.is_top h.few
  where
    go : (nets : List Net) → slice_get nets 0 ≡ Some h.top → length nets + length tree.leaves ≤ suc max_instances → length tree.leaves ≤ max_instances
    go [] none few = absurd cc
    go (n ∷ nets) is few = omega (arith, few)
