use Rattle.std.proofs.Common.{◌≡◌, ◌-◌, [], ◌∷◌, length, map, sym, ap, subst, ◌∙◌, arith, rules}
use Rattle.std.proofs.lemmas.Bool.Decides.{Decides-eqb}
use Rattle.fnl_tree.specs.View.{leaf_of, net_of, part_of}
use Rattle.fnl_tree.specs.declared.tree.Inner.TheVariants as inner
use Rattle.test_fnl_flatten.specs.Walks.{Goes}
use Rattle.test_fnl_flatten.proofs.Walking.{goes_none}
use Rattle.test_fnl_flatten.proofs.WalkSteps.{empty, if_some, step_leaf, step_net}
use Rattle.test_fnl_flatten.proofs.Weights.{as_many, fewer, lighter, weights}
use Rattle.test_fnl_flatten.proofs.walk.+walk.Goals as goal

pub returns-then-is_empty : goal.returns-then-is_empty
returns-then-is_empty t c =
    let none : c.args.parts.now ≡ [] = empty c.args.parts.now ((Decides-eqb (length c.args.parts.now) 0).0 (sym c.is_empty.ensures ∙ c.if-is_empty.true)) in
    subst (λ ps. Goes (map part_of ps) (c.args.all.nets - length c.args.nets.now) (c.args.all.leaves - length c.args.leaves.now)
    (map net_of c.args.nets.now) (map leaf_of c.args.leaves.now) (map net_of c.args.nets.now) (map leaf_of c.args.leaves.now)) (sym none)
    (goes_none (c.args.all.nets - length c.args.nets.now) (c.args.all.leaves - length c.args.leaves.now) (map net_of c.args.nets.now) (map leaf_of c.args.leaves.now))

pub walk-requires-in-Net-2 : goal.walk-requires-in-Net-2
walk-requires-in-Net-2 t c =
    let parts : c.args.parts.now ≡ c.in_ok-first.first.now ∷ c.in_ok-first.others.now = search rules in
    let nets : c.args.nets.now ≡ c.in_ok-inside-in-Net.inside.now ∷ c.in_ok-inside-in-Net.behind.now = search rules in
    let goes = c.in_ok-nets-in-Net.ensures in
    let light = lighter (map net_of c.in_ok-inside-in-Net.behind.now) goes.ns (map net_of c.in_ok-nets-in-Net.nets.now) goes.nets_are in
    let few = fewer (map net_of c.in_ok-inside-in-Net.behind.now) goes.ns (map net_of c.in_ok-nets-in-Net.nets.now) goes.nets_are in
    let few_leaves = fewer (map leaf_of c.args.leaves.now) goes.ls (map leaf_of c.in_ok-nets-in-Net.leaves.now) goes.leaves_are in
    let a = ap length parts in
    let b = ap (λ ns. weights (map net_of ns)) nets in
    let d = ap length nets in
    let e = as_many net_of c.in_ok-inside-in-Net.behind.now in
    let f = as_many net_of c.in_ok-nets-in-Net.nets.now in
    let g = as_many leaf_of c.args.leaves.now in
    let h = as_many leaf_of c.in_ok-nets-in-Net.leaves.now in
    let i = c.requires.nets in
    let j = c.requires.leaves in
    (omega (arith, light, a, b), (omega (arith, few, d, e, f, i), omega (arith, few_leaves, g, h, j)))

pub returns-else-l-all : goal.returns-else-l-all
returns-else-l-all t c =
    let parts : c.args.parts.now ≡ c.in_ok-first.first.now ∷ c.in_ok-first.others.now = search rules in
    let leaves : c.args.leaves.now ≡ c.in_ok-behind-in-Leaf.field-0-0.now ∷ c.in_ok-behind-in-Leaf.behind.now = search rules in
    let inner : c.in_ok-first.first.now.inner ≡ inner.Leaf c.in-Leaf.l = search rules in
    let number : c.in-Leaf.l.0 ≡ c.args.all.leaves - length c.args.leaves.now = search rules in
    if_some c.walk.result _ _
    (λ rest goes. step_leaf c.args.all.nets c.args.all.leaves c.args.parts.now c.in_ok-first.others.now c.in_ok-first.first.now c.args.nets.now c.args.leaves.now
    c.in_ok-behind-in-Leaf.behind.now c.in_ok-behind-in-Leaf.field-0-0.now c.in-Leaf.l (map net_of rest.0.now) (map leaf_of rest.1.now)
    parts inner leaves c.requires.leaves number goes)
    c.walk.ensures

pub returns-in_ok-nets-in-Net : goal.returns-in_ok-nets-in-Net
returns-in_ok-nets-in-Net t c =
    let parts : c.args.parts.now ≡ c.in_ok-first.first.now ∷ c.in_ok-first.others.now = search rules in
    let nets : c.args.nets.now ≡ c.in_ok-inside-in-Net.inside.now ∷ c.in_ok-inside-in-Net.behind.now = search rules in
    let inner : c.in_ok-first.first.now.inner ≡ inner.Net c.in-Net.n = search rules in
    let number : c.in-Net.n ≡ c.args.all.nets - length c.args.nets.now = search rules in
    let inside : c.deref.result.now ≡ c.in_ok-inside-in-Net.inside.now.parts.items = search rules in
    let goes = subst (λ ps. Goes (map part_of ps) (c.args.all.nets - length c.in_ok-inside-in-Net.behind.now) (c.args.all.leaves - length c.args.leaves.now)
    (map net_of c.in_ok-inside-in-Net.behind.now) (map leaf_of c.args.leaves.now) (map net_of c.in_ok-nets-in-Net.nets.now) (map leaf_of c.in_ok-nets-in-Net.leaves.now))
    inside c.in_ok-nets-in-Net.ensures in
    if_some c.walk-in-Net-2.result _ _
    (λ rest more. step_net c.args.all.nets c.args.all.leaves c.args.parts.now c.in_ok-first.others.now c.in_ok-first.first.now c.args.nets.now c.in_ok-inside-in-Net.behind.now
    c.in_ok-nets-in-Net.nets.now c.args.leaves.now c.in_ok-nets-in-Net.leaves.now c.in_ok-inside-in-Net.inside.now c.in-Net.n (map net_of rest.0.now) (map leaf_of rest.1.now)
    parts inner nets c.requires.nets c.requires.leaves number goes more)
    c.walk-in-Net-2.ensures
