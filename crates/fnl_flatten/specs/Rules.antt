-- The rules that connections break (ISO/IEC 23001-4, FNL: connections).
-- Trusted: part of what a promise means.
use Rattle.std.specs.Prelude.{ℕ, suc, Bool, true, false, ◌&&◌, ◌==◌, not, List, [], ◌∷◌, ◌++◌, Option, None, Some, if◌then◌else◌}
use Rattle.rvc_base.specs.declared.refusal.Rule.{Rule}
use Rattle.rvc_base.specs.declared.scalar.Scalar.{Scalar}
use Rattle.rvc_base.specs.declared.scalar.Scalar.TheVariants as scalar
use Rattle.rvc_base.specs.Rules.{no_ends, unknown_end, bool_meets_number, second_writer}
use Rattle.fnl_tree.specs.Tree.{Wire, Net, Tree}
use Rattle.fnl_flatten.specs.Head.{Head}
use Rattle.fnl_flatten.specs.Joints.{Joint, LeafPort, OwnPort, is_nameless, source, target, kind_of}

-- a rule that is broken, with the file and the offset at which it is
pub record Found : Type 0 where
  pub rule : Rule
  pub file : ℕ
  pub at : ℕ

abbrev pub found : Rule → Net → Wire → List Found
found rule net w = record { rule = rule; file = net.file; at = w.at } ∷ []

-- ---- each connection

abbrev pub is_bool : Scalar → Bool
is_bool scalar.Bool = true
is_bool (scalar.Int n) = false
is_bool (scalar.Uint n) = false

-- both are truth values, or both are numbers
abbrev pub meet : Option Scalar → Option Scalar → Bool
meet (Some s) (Some t) = if is_bool s then is_bool t else not (is_bool t)
meet (Some s) None = false
meet None t = false

-- the ports are there, and of kinds that meet
abbrev pub ends_broken : Tree → List Head → Net → Wire → Option Joint → Option Joint → List Found
ends_broken tree heads net w (Some j) (Some k) =
    if meet (kind_of tree heads j) (kind_of tree heads k) then [] else found bool_meets_number net w
ends_broken tree heads net w (Some j) None = found unknown_end net w
ends_broken tree heads net w None k = found unknown_end net w

-- a connection names an instance
abbrev pub is_direct : Wire → Bool
is_direct w = is_nameless w.src && is_nameless w.dst

abbrev pub wire_broken : Tree → List Head → ℕ → Net → Wire → List Found
wire_broken tree heads n net w =
    if is_direct w then found no_ends net w
    else ends_broken tree heads net w (source tree heads n net w) (target tree heads n net w)

abbrev pub wires_broken : Tree → List Head → ℕ → Net → List Wire → List Found
wires_broken tree heads n net [] = []
wires_broken tree heads n net (w ∷ ws) =
    wire_broken tree heads n net w ++ wires_broken tree heads n net ws

-- ---- second writers

abbrev pub same_side : Bool → Bool → Bool
same_side true input = input
same_side false input = not input

abbrev pub is_same : Joint → Joint → Bool
is_same (LeafPort l input p) (LeafPort m other q) = (l == m) && (same_side input other && (p == q))
is_same (OwnPort l input p) (OwnPort m other q) = (l == m) && (same_side input other && (p == q))
is_same (LeafPort l input p) (OwnPort m other q) = false
is_same (OwnPort l input p) (LeafPort m other q) = false

abbrev pub is_written : Joint → List Joint → Bool
is_written j [] = false
is_written j (k ∷ ks) = if is_same j k then true else is_written j ks

-- a connection that ends where one before it does
abbrev pub second_broken : Net → Wire → Option Joint → List Joint → List Found
second_broken net w None before = []
second_broken net w (Some j) before = if is_written j before then found second_writer net w else []

abbrev pub with_target : Option Joint → List Joint → List Joint
with_target None before = before
with_target (Some j) before = j ∷ before

abbrev pub seconds_broken : Tree → List Head → ℕ → Net → List Wire → List Joint → List Found
seconds_broken tree heads n net [] before = []
seconds_broken tree heads n net (w ∷ ws) before =
    second_broken net w (target tree heads n net w) before
    ++ seconds_broken tree heads n net ws (with_target (target tree heads n net w) before)

-- ---- all networks

abbrev pub net_broken : Tree → List Head → ℕ → Net → List Found
net_broken tree heads n net =
    wires_broken tree heads n net net.wires ++ seconds_broken tree heads n net net.wires []

abbrev pub nets_broken : Tree → List Head → ℕ → List Net → List Found
nets_broken tree heads n [] = []
nets_broken tree heads n (net ∷ nets) =
    net_broken tree heads n net ++ nets_broken tree heads (suc n) nets

-- the rules that the connections of all networks break
abbrev pub violations : Tree → List Head → List Found
violations tree heads = nets_broken tree heads 0 tree.nets
