-- What is said of a connection and of a network as they lie in memory.
-- Not trusted: no promise is read with it.
use Rattle.std.specs.Prelude.{◌≡◌, ℕ, List, [], ◌++◌, Option}
use Rattle.rvc_base.specs.declared.refusal.Rule.{Rule}
use Rattle.fnl_tree.specs.declared.tree.Net.{Net}
use Rattle.fnl_tree.specs.declared.tree.Tree.{Tree}
use Rattle.fnl_tree.specs.declared.tree.Wire.{Wire}
use Rattle.fnl_tree.specs.Tree.{Net as NetSpec, Wire as WireSpec}
use Rattle.fnl_tree.specs.View.{net_of, tree_of, wire_of}
use Rattle.fnl_flatten.specs.declared.head.Head.{Head}
use Rattle.fnl_flatten.specs.Arrows.{Entry, again_broken, wire_entry, wires_entries, written}
use Rattle.fnl_flatten.specs.Joints.{Joint, source, target}
use Rattle.fnl_flatten.specs.Rules.{Found, ends_broken, found, second_broken, wire_broken, wires_broken}
use Rattle.fnl_flatten.specs.View.{heads_of}

-- ---- ends of any connection

-- they break no rule
abbrev pub MeetsAll : Tree → List Head → Option Joint → Option Joint → Type 0
MeetsAll tree heads from to = (net : NetSpec) (w : WireSpec)
    → ends_broken (tree_of tree) (heads_of heads) net w from to ≡ []

-- they break this rule
abbrev pub BreaksAt : Tree → List Head → Option Joint → Option Joint → Rule → Type 0
BreaksAt tree heads from to rule = (net : NetSpec) (w : WireSpec)
    → ends_broken (tree_of tree) (heads_of heads) net w from to ≡ found rule net w

-- ---- a connection of network n

abbrev pub begins_at : Tree → List Head → ℕ → Net → Wire → Option Joint
begins_at tree heads n net wire = source (tree_of tree) (heads_of heads) n (net_of net) (wire_of wire)

abbrev pub ends_at : Tree → List Head → ℕ → Net → Wire → Option Joint
ends_at tree heads n net wire = target (tree_of tree) (heads_of heads) n (net_of net) (wire_of wire)

-- what it writes to, and what it takes from
abbrev pub joins : Tree → List Head → ℕ → Net → Wire → List Entry
joins tree heads n net wire = wire_entry (tree_of tree) (heads_of heads) n (net_of net) (wire_of wire)

-- the rules that its ends break
abbrev pub ends_break : Tree → List Head → ℕ → Net → Wire → List Found
ends_break tree heads n net wire =
    wire_broken (tree_of tree) (heads_of heads) n (net_of net) (wire_of wire)

-- that it is a second writer, after these
abbrev pub writes_again : Tree → List Head → ℕ → Net → Wire → List Entry → List Found
writes_again tree heads n net wire before =
    second_broken (net_of net) (wire_of wire) (ends_at tree heads n net wire) (written before)

-- all rules that it breaks, after these
abbrev pub breaks : Tree → List Head → ℕ → Net → Wire → List Entry → List Found
breaks tree heads n net wire before =
    ends_break tree heads n net wire ++ writes_again tree heads n net wire before

-- ---- all connections of network n

abbrev pub all_join : Tree → List Head → ℕ → Net → List Entry
all_join tree heads n net =
    wires_entries (tree_of tree) (heads_of heads) n (net_of net) (net_of net).wires

abbrev pub all_ends_break : Tree → List Head → ℕ → Net → List Found
all_ends_break tree heads n net =
    wires_broken (tree_of tree) (heads_of heads) n (net_of net) (net_of net).wires

abbrev pub all_write_again : Tree → List Head → ℕ → Net → List Entry → List Found
all_write_again tree heads n net before =
    again_broken (tree_of tree) (heads_of heads) n (net_of net) (net_of net).wires (written before)

abbrev pub all_break : Tree → List Head → ℕ → Net → List Entry → List Found
all_break tree heads n net before =
    all_ends_break tree heads n net ++ all_write_again tree heads n net before
