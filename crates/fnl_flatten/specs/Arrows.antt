-- The connections of a tree by where they lead, in the order in which they are met.
-- Not trusted: no promise is read with it.
use Rattle.std.specs.Prelude.{ℕ, suc, List, [], ◌∷◌, ◌++◌, Option, None, Some, map, if◌then◌else◌}
use Rattle.fnl_tree.specs.Tree.{Wire, Net, Tree}
use Rattle.fnl_flatten.specs.declared.writers.Writer.{Writer}
use Rattle.fnl_flatten.specs.Head.{Head}
use Rattle.fnl_flatten.specs.Joints.{Joint, source, target}
use Rattle.fnl_flatten.specs.Rules.{Found, is_same, second_broken}

-- a joint, and what writes to it
abbrev pub Entry : Type 0
Entry = Joint × Writer

abbrev pub entry_of : Option Joint → Option Joint → ℕ → List Entry
entry_of (Some j) (Some k) size = (k, record { joint = j; size = size }) ∷ []
entry_of (Some j) None size = []
entry_of None k size = []

-- what a connection writes to, and what it takes from
abbrev pub wire_entry : Tree → List Head → ℕ → Net → Wire → List Entry
wire_entry tree heads n net w = entry_of (source tree heads n net w) (target tree heads n net w) w.size

abbrev pub wires_entries : Tree → List Head → ℕ → Net → List Wire → List Entry
wires_entries tree heads n net [] = []
wires_entries tree heads n net (w ∷ ws) =
    wire_entry tree heads n net w ++ wires_entries tree heads n net ws

abbrev pub nets_entries : Tree → List Head → ℕ → List Net → List Entry
nets_entries tree heads n [] = []
nets_entries tree heads n (net ∷ nets) =
    wires_entries tree heads n net net.wires ++ nets_entries tree heads (suc n) nets

-- what all connections write to
abbrev pub entries_of : Tree → List Head → List Entry
entries_of tree heads = nets_entries tree heads 0 tree.nets

-- what writes to a joint
abbrev pub writer_of : Joint → List Entry → Option Writer
writer_of j [] = None
writer_of j (e ∷ es) = if is_same j e.0 then Some e.1 else writer_of j es

abbrev pub written : List Entry → List Joint
written entries = map (λ e. e.0) entries

-- ---- second writers, if those before stand in their order

abbrev pub with_next : Option Joint → List Joint → List Joint
with_next None before = before
with_next (Some j) before = before ++ j ∷ []

abbrev pub again_broken : Tree → List Head → ℕ → Net → List Wire → List Joint → List Found
again_broken tree heads n net [] before = []
again_broken tree heads n net (w ∷ ws) before =
    second_broken net w (target tree heads n net w) before
    ++ again_broken tree heads n net ws (with_next (target tree heads n net w) before)
