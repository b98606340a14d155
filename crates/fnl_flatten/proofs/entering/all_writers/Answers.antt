use Rattle.std.proofs.Common.{◌≡◌, ◌≤◌, ◌<◌, Err, None, map, length, sym, subst, slice_get, arith, rules}
use Rattle.std.proofs.lemmas.List.{length-map}
use Rattle.std.specs.Prelude.{IfErr}
use Rattle.net_model.specs.Limits.{max_instances}
use Rattle.fnl_tree.specs.View.{net_of, tree_of}
use Rattle.fnl_flatten.specs.Named.{IsCause}
use Rattle.fnl_flatten.specs.Rules.{violations}
use Rattle.fnl_flatten.specs.View.{heads_of}
use Rattle.fnl_flatten.proofs.EnteredUpTo.{nets_more, nets_broken_here, nets_entered, nets_fine, number_below, number_within}
use Rattle.fnl_flatten.proofs.entering.all_writers.Goals as goal

pub returns-in_err-enter_net-clause-broken : goal.returns-in_err-enter_net-clause-broken
returns-in_err-enter_net-clause-broken c =
    let same : c.from_residual.result ≡ Err c.in_err-enter_net.field-0.0 = search rules in
    subst (λ r. IfErr r (IsCause (violations (tree_of c.args.tree.now) (heads_of c.args.heads.now)))) (sym same)
    (nets_broken_here (tree_of c.args.tree.now) (heads_of c.args.heads.now) c.requires.sound c.nets.number (net_of c.in-Some.net.now) c.nets.writers
    c.in_err-enter_net.field-0.0 (sym c.in-Some.ensures.is) c.nets.invariant c.in_err-enter_net.ensures.broken)

pub overflow_add-number : goal.overflow_add-number
overflow_add-number c =
    let few : c.nets.number ≤ max_instances = number_below (tree_of c.args.tree.now) c.requires.sound c.nets.number (net_of c.in-Some.net.now) (sym c.in-Some.ensures.is) in
    omega (arith, few)

pub nets-smaller : goal.nets-smaller
nets-smaller c =
    let within : c.nets.number < length (map net_of c.args.tree.now.nets.items) = number_within (tree_of c.args.tree.now) c.nets.number (net_of c.in-Some.net.now) (sym c.in-Some.ensures.is) in
    let same : length (map net_of c.args.tree.now.nets.items) ≡ length c.args.tree.now.nets.items = length-map c.args.tree.now.nets.items net_of in
    omega (arith, within, same)

pub nets-preserved : goal.nets-preserved
nets-preserved c =
    nets_more (tree_of c.args.tree.now) (heads_of c.args.heads.now) c.requires.sound c.nets.number (net_of c.in-Some.net.now) c.nets.writers c.enter_net.new.writers
    (sym c.in-Some.ensures.is) c.in_ok-enter_net.ensures.entered c.in_ok-enter_net.ensures.fine c.in_ok-enter_net.ensures.once c.nets.invariant

pub returns-clause-entered : goal.returns-clause-entered
returns-clause-entered c =
    let none : slice_get (map net_of c.args.tree.now.nets.items) c.nets.number ≡ None = search rules in
    nets_entered (tree_of c.args.tree.now) (heads_of c.args.heads.now) c.nets.number c.nets.writers none c.nets.invariant

pub returns-clause-fine : goal.returns-clause-fine
returns-clause-fine c =
    let none : slice_get (map net_of c.args.tree.now.nets.items) c.nets.number ≡ None = search rules in
    nets_fine (tree_of c.args.tree.now) (heads_of c.args.heads.now) c.nets.number c.nets.writers none c.nets.invariant
