-- A tree that passes the tests may be flattened.
use Rattle.std.proofs.Common.{◌≡◌, ℕ, suc, ◌+◌, ◌≤◌, true, List, [], ◌∷◌, ◌++◌, ◌-◌, length, sym, ap, subst, ◌∙◌, arith}
use Rattle.net_model.specs.Limits.{max_instances}
use Rattle.fnl_tree.specs.Tree.{Tree, Net, Leaf}
use Rattle.fnl_tree.specs.Sound.{IsSound}
use Rattle.fnl_bind.proofs.Counted as counted
use Rattle.test_fnl_flatten.specs.Tested.{are_heads_fine, are_nets_fine}
use Rattle.test_fnl_flatten.specs.Walks.{Goes, IsNumbered}
use Rattle.test_fnl_flatten.proofs.Walking.{numbered_once, numbered_order, numbered_top}
use Rattle.test_fnl_flatten.proofs.Fine.{heads_sound, nets_sound}
use Rattle.test_fnl_flatten.proofs.Weights.{as_many}
use Rattle.fnl_tree.specs.View.{leaf_of, net_of, tree_of}
use Rattle.fnl_tree.specs.declared.tree.Tree.{Tree as Declared}
use Rattle.fnl_flatten.specs.Head.{Head}
use Rattle.fnl_flatten.specs.Whole.{IsWhole}

pub is_sound : (t : Tree) → IsNumbered t → are_nets_fine t.nets ≡ true → length t.nets + length t.leaves ≤ suc max_instances → IsSound t
is_sound t h fine few =
    let once = numbered_once t h in
    record {
      top = h.top;
      is_top = numbered_top t h;
      in_order = numbered_order t h;
      behind = counted.behind t once;
      once = counted.once t once;
      nets_stand = counted.nets_stand t once;
      leaves_stand = counted.leaves_stand t once;
      nets = nets_sound t.nets fine;
      few = few;
    }

-- a walk behind which nothing is left
pub numbered : (t : Tree) (top : Net) (nets : List Net) (net leaf : ℕ) (rest_nets : List Net) (rest_leaves : List Leaf) → t.nets ≡ top ∷ nets → net ≡ 1 → leaf ≡ 0
    → Goes top.parts net leaf nets t.leaves rest_nets rest_leaves → rest_nets ≡ [] → rest_leaves ≡ [] → IsNumbered t
numbered t top nets net leaf rest_nets rest_leaves is n l g none nothing =
    record {
      top = top;
      ns = g.ns;
      nets_are = is ∙ ap (λ ns. top ∷ ns) (g.nets_are ∙ ap (λ r. g.ns ++ r) none ∙ Rattle.std.proofs.lemmas.List.append-nil g.ns);
      walks =
          subst (λ ls. Rattle.test_fnl_flatten.specs.Walks.Walks top.parts 1 0 g.ns ls) (sym (g.leaves_are ∙ ap (λ r. g.ls ++ r) nothing ∙ Rattle.std.proofs.lemmas.List.append-nil g.ls))
          (subst (λ k. Rattle.test_fnl_flatten.specs.Walks.Walks top.parts 1 k g.ns g.ls) l
          (subst (λ k. Rattle.test_fnl_flatten.specs.Walks.Walks top.parts k leaf g.ns g.ls) n g.walks));
    }

-- the limit, over the parts as they lie in memory
pub few : (t : Declared) → length t.nets.items ≤ 1025 → length t.leaves.items ≤ 1025 - length t.nets.items
    → length (tree_of t).nets + length (tree_of t).leaves ≤ suc max_instances
few t h i = let a = as_many net_of t.nets.items in let b = as_many leaf_of t.leaves.items in omega (arith, a, b, h, i)

pub whole : (t : Tree) (heads : List Head) → IsSound t → length heads ≡ length t.leaves → are_heads_fine heads ≡ true → IsWhole t heads
whole t heads sound many fine = record { sound = sound; one_a_leaf = many; each_head = heads_sound heads fine }
