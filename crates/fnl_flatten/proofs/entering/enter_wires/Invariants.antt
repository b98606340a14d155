use Rattle.std.proofs.Common.{map, length}
use Rattle.fnl_tree.specs.View.{net_of, tree_of, wire_of}
use Rattle.fnl_flatten.specs.View.{heads_of}
use Rattle.fnl_flatten.proofs.EnteredUpTo.{WiresUpTo}
use Rattle.fnl_flatten.proofs.entering.enter_wires.Given as goal

abbrev pub invariant-wires : goal.invariant-wires
invariant-wires l = WiresUpTo (tree_of l.tree) (heads_of l.heads) l.number (net_of l.net) (map wire_of l.rest) (map wire_of l.net.wires.items) l.writers l.initial.writers

abbrev pub decreases-wires : goal.decreases-wires
decreases-wires l = length l.rest
