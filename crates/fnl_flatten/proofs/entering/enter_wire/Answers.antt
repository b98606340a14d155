use Rattle.std.proofs.Common.{◌≡◌, true, false, ap, ◌∙◌, sym, is_some, rules}
use Rattle.rvc_base.specs.Rules.{second_writer}
use Rattle.fnl_tree.specs.View.{net_of, tree_of, wire_of}
use Rattle.fnl_flatten.specs.declared.fault.Fault.TheVariants.{Broken}
use Rattle.fnl_flatten.specs.Joints.{target}
use Rattle.fnl_flatten.specs.Rules.{wire_broken}
use Rattle.fnl_flatten.specs.View.{heads_of}
use Rattle.fnl_flatten.proofs.EnteredUpTo.{second_cause, second_none}
use Rattle.fnl_flatten.proofs.entering.enter_wire.Goals as goal

pub returns-then-is_some-clause-broken : goal.returns-then-is_some-clause-broken
returns-then-is_some-clause-broken c =
    let has : is_some c.get.result ≡ true = search rules in
    let same : c.broken-then-is_some.result ≡ Broken second_writer c.args.net.now.file c.args.wire.now.at = search rules in
    second_cause (net_of c.args.net.now) (wire_of c.args.wire.now)
    (target (tree_of c.args.tree.now) (heads_of c.args.heads.now) c.args.number (net_of c.args.net.now) (wire_of c.args.wire.now))
    c.in-Ok.arrow.to c.args.writers.now c.broken-then-is_some.result
    (wire_broken (tree_of c.args.tree.now) (heads_of c.args.heads.now) c.args.number (net_of c.args.net.now) (wire_of c.args.wire.now))
    c.in-Ok.ensures.to (ap is_some (sym c.get.ensures) ∙ has) same

pub returns-clause-once : goal.returns-clause-once
returns-clause-once c =
    let lacks : is_some c.get.result ≡ false = search rules in
    second_none (net_of c.args.net.now) (wire_of c.args.wire.now)
    (target (tree_of c.args.tree.now) (heads_of c.args.heads.now) c.args.number (net_of c.args.net.now) (wire_of c.args.wire.now))
    c.in-Ok.arrow.to c.args.writers.now
    c.in-Ok.ensures.to (ap is_some (sym c.get.ensures) ∙ lacks)
