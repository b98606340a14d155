use Rattle.std.proofs.Common.{◌≡◌, Err, ◌∷◌, ◌++◌, map, sym, subst, rules}
use Rattle.std.specs.Prelude.{IfErr}
use Rattle.fnl_tree.specs.View.{net_of, tree_of, wire_of}
use Rattle.fnl_flatten.specs.Arrows.{again_broken, written}
use Rattle.fnl_flatten.specs.Named.{IsCause}
use Rattle.fnl_flatten.specs.Rules.{wires_broken}
use Rattle.fnl_flatten.specs.View.{heads_of}
use Rattle.fnl_flatten.proofs.EnteredUpTo.{WiresUpTo, wires_more, wires_broken_here}
use Rattle.fnl_flatten.proofs.entering.enter_wires.Goals as goal

pub returns-in_err-enter_wire-clause-broken : goal.returns-in_err-enter_wire-clause-broken
returns-in_err-enter_wire-clause-broken c =
    let same : c.from_residual.result ≡ Err c.in_err-enter_wire.field-0.0 = search rules in
    let opened : map wire_of c.wires.rest.now ≡ wire_of c.in-Some.wire.now ∷ map wire_of c.in-Some.others.now = search rules in
    let so_far : WiresUpTo (tree_of c.args.tree.now) (heads_of c.args.heads.now) c.args.number (net_of c.args.net.now)
    (wire_of c.in-Some.wire.now ∷ map wire_of c.in-Some.others.now) (map wire_of c.args.net.now.wires.items) c.wires.writers c.args.writers.now =
    subst (λ ws. WiresUpTo (tree_of c.args.tree.now) (heads_of c.args.heads.now) c.args.number (net_of c.args.net.now) ws (map wire_of c.args.net.now.wires.items) c.wires.writers c.args.writers.now) opened c.wires.invariant in
    subst (λ r. IfErr r (IsCause (wires_broken (tree_of c.args.tree.now) (heads_of c.args.heads.now) c.args.number (net_of c.args.net.now) (map wire_of c.args.net.now.wires.items)
    ++ again_broken (tree_of c.args.tree.now) (heads_of c.args.heads.now) c.args.number (net_of c.args.net.now) (map wire_of c.args.net.now.wires.items) (written c.args.writers.now)))) (sym same)
    (wires_broken_here (tree_of c.args.tree.now) (heads_of c.args.heads.now) c.args.number (net_of c.args.net.now) (wire_of c.in-Some.wire.now)
    (map wire_of c.in-Some.others.now) (map wire_of c.args.net.now.wires.items) c.wires.writers c.args.writers.now c.in_err-enter_wire.field-0.0 so_far
    c.in_err-enter_wire.ensures.broken)

pub wires-preserved : goal.wires-preserved
wires-preserved c =
    let opened : map wire_of c.wires.rest.now ≡ wire_of c.in-Some.wire.now ∷ map wire_of c.in-Some.others.now = search rules in
    let so_far : WiresUpTo (tree_of c.args.tree.now) (heads_of c.args.heads.now) c.args.number (net_of c.args.net.now)
    (wire_of c.in-Some.wire.now ∷ map wire_of c.in-Some.others.now) (map wire_of c.args.net.now.wires.items) c.wires.writers c.args.writers.now =
    subst (λ ws. WiresUpTo (tree_of c.args.tree.now) (heads_of c.args.heads.now) c.args.number (net_of c.args.net.now) ws (map wire_of c.args.net.now.wires.items) c.wires.writers c.args.writers.now) opened c.wires.invariant in
    wires_more (tree_of c.args.tree.now) (heads_of c.args.heads.now) c.args.number (net_of c.args.net.now) (wire_of c.in-Some.wire.now)
    (map wire_of c.in-Some.others.now) (map wire_of c.args.net.now.wires.items) c.wires.writers c.enter_wire.new.writers c.args.writers.now
    c.in_ok-enter_wire.ensures.entered c.in_ok-enter_wire.ensures.fine c.in_ok-enter_wire.ensures.once so_far
