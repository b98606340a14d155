-- One step of the walk, over the parts, networks and leaves as they lie in memory.
use Rattle.std.proofs.Common.{◌≡◌, ℕ, suc, ◌-◌, ◌≤◌, List, [], ◌∷◌, length, map, sym, ap, subst, ◌∙◌, arith}
use Rattle.std.specs.Prelude.{Option, None, Some, IfSome}
use Rattle.rvc_base.specs.declared.ids.InstId.{InstId}
use Rattle.fnl_tree.specs.Tree.{InnerNet, InnerLeaf}
use Rattle.fnl_tree.specs.View.{leaf_of, net_of, part_of}
use Rattle.fnl_tree.specs.declared.tree.Net.{Net}
use Rattle.fnl_tree.specs.declared.tree.Leaf.{Leaf}
use Rattle.fnl_tree.specs.declared.tree.Part.{Part}
use Rattle.fnl_tree.specs.declared.tree.Inner.TheVariants as inner
use Rattle.test_fnl_flatten.specs.Walks.{Goes}
use Rattle.test_fnl_flatten.proofs.Walking.{goes_leaf, goes_net}
use Rattle.test_fnl_flatten.proofs.Weights.{as_many, fewer}

pub empty : {A : Type 0} (xs : List A) → length xs ≡ 0 → xs ≡ []
empty [] h = Rattle.std.proofs.Common.refl
empty (x ∷ xs) h = absurd (omega (arith, h))

pub if_some : {A : Type 0} (o : Option A) (P Q : A → Type 0) → ((x : A) → P x → Q x) → IfSome o P → IfSome o Q
if_some None P Q f h = tt
if_some (Some x) P Q f h = f x h

pub step_leaf : (all_nets all_leaves : ℕ) (parts others : List Part) (first : Part) (nets : List Net) (leaves behind : List Leaf) (l : Leaf) (k : InstId)
    (rest_nets : List _) (rest_leaves : List _)
    → parts ≡ first ∷ others → first.inner ≡ inner.Leaf k → leaves ≡ l ∷ behind → length leaves ≤ all_leaves → k.0 ≡ all_leaves - length leaves
    → Goes (map part_of others) (all_nets - length nets) (all_leaves - length behind) (map net_of nets) (map leaf_of behind) rest_nets rest_leaves
    → Goes (map part_of parts) (all_nets - length nets) (all_leaves - length leaves) (map net_of nets) (map leaf_of leaves) rest_nets rest_leaves
step_leaf all_nets all_leaves parts others first nets leaves behind l k rest_nets rest_leaves p i q few is g =
    let size = ap length q in
    let next : all_leaves - length behind ≡ suc (all_leaves - length leaves) = omega (arith, size, few) in
    subst (λ ps. Goes (map part_of ps) (all_nets - length nets) (all_leaves - length leaves) (map net_of nets) (map leaf_of leaves) rest_nets rest_leaves) (sym p)
    (subst (λ ls. Goes (map part_of (first ∷ others)) (all_nets - length nets) (all_leaves - length leaves) (map net_of nets) (map leaf_of ls) rest_nets rest_leaves) (sym q)
    (goes_leaf (part_of first) (map part_of others) (all_nets - length nets) (all_leaves - length leaves) (map net_of nets) (leaf_of l) (map leaf_of behind) rest_nets rest_leaves
    (ap Rattle.fnl_tree.specs.View.inner_of i ∙ ap InnerLeaf is)
    (subst (λ n. Goes (map part_of others) (all_nets - length nets) n (map net_of nets) (map leaf_of behind) rest_nets rest_leaves) next g)))

pub step_net : (all_nets all_leaves : ℕ) (parts others : List Part) (first : Part) (nets behind mid_nets : List Net) (leaves mid_leaves : List Leaf) (x : Net) (k : ℕ)
    (rest_nets : List _) (rest_leaves : List _)
    → parts ≡ first ∷ others → first.inner ≡ inner.Net k → nets ≡ x ∷ behind → length nets ≤ all_nets → length leaves ≤ all_leaves → k ≡ all_nets - length nets
    → Goes (map part_of x.parts.items) (all_nets - length behind) (all_leaves - length leaves) (map net_of behind) (map leaf_of leaves) (map net_of mid_nets) (map leaf_of mid_leaves)
    → Goes (map part_of others) (all_nets - length mid_nets) (all_leaves - length mid_leaves) (map net_of mid_nets) (map leaf_of mid_leaves) rest_nets rest_leaves
    → Goes (map part_of parts) (all_nets - length nets) (all_leaves - length leaves) (map net_of nets) (map leaf_of leaves) rest_nets rest_leaves
step_net all_nets all_leaves parts others first nets behind mid_nets leaves mid_leaves x k rest_nets rest_leaves p i q few few_leaves is g h =
    let size = ap length q in
    let next : all_nets - length behind ≡ suc (all_nets - length nets) = omega (arith, size, few) in
    let a = as_many net_of behind in
    let b = as_many net_of mid_nets in
    let c = as_many leaf_of leaves in
    let d = as_many leaf_of mid_leaves in
    let e = fewer (map net_of behind) g.ns (map net_of mid_nets) g.nets_are in
    let f = fewer (map leaf_of leaves) g.ls (map leaf_of mid_leaves) g.leaves_are in
    subst (λ ps. Goes (map part_of ps) (all_nets - length nets) (all_leaves - length leaves) (map net_of nets) (map leaf_of leaves) rest_nets rest_leaves) (sym p)
    (subst (λ ns. Goes (map part_of (first ∷ others)) (all_nets - length nets) (all_leaves - length leaves) (map net_of ns) (map leaf_of leaves) rest_nets rest_leaves) (sym q)
    (goes_net (part_of first) (map part_of others) (net_of x) (all_nets - length nets) (all_leaves - length leaves) (map net_of behind) (map net_of mid_nets) rest_nets
    (map leaf_of leaves) (map leaf_of mid_leaves) rest_leaves (all_nets - length mid_nets) (all_leaves - length mid_leaves)
    (ap Rattle.fnl_tree.specs.View.inner_of i ∙ ap InnerNet is)
    (subst (λ n. Goes (map part_of x.parts.items) n (all_leaves - length leaves) (map net_of behind) (map leaf_of leaves) (map net_of mid_nets) (map leaf_of mid_leaves)) next g)
    (omega (arith, size, few, a, b, e)) (omega (arith, few_leaves, c, d, f)) h))
