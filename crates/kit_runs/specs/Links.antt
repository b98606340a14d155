-- Types and the order of links, as tests.
-- Not trusted: no promise is read with it.
use Rattle.std.specs.Prelude.{◌≡◌, Bool, true, false, ◌&&◌, ◌==◌, nat_le, nat_lt, List, [], ◌∷◌, slice_get, Option, None, Some, if◌then◌else◌}
use Rattle.rvc_base.specs.declared.scalar.Scalar.{Scalar}
use Rattle.rvc_base.specs.declared.scalar.Scalar.TheVariants.{Bool as Truth, Int, Uint}
use Rattle.rvc_base.specs.Width.{max_size}
use Rattle.net_model.specs.declared.wiring.End.{End}
use Rattle.net_model.specs.declared.wiring.End.TheVariants.{Leaf as AtLeaf, Net as AtNet}
use Rattle.net_model.specs.declared.wiring.Link.{Link}
use Rattle.net_model.specs.declared.wiring.Port.{Port}

-- Types.

abbrev pub is_size : Scalar → Bool
is_size Truth = true
is_size (Int n) = nat_le 1 n && nat_le n max_size
is_size (Uint n) = nat_le 1 n && nat_le n max_size

abbrev pub are_ports_sized : List Port → Bool
are_ports_sized [] = true
are_ports_sized (port ∷ ports) = if is_size port.kind then are_ports_sized ports else false

-- Order.

abbrev pub is_before : End → End → Bool
is_before (AtLeaf inst port) (AtLeaf other next) =
    if nat_lt inst.0 other.0 then true else (inst.0 == other.0) && nat_lt port next
is_before (AtLeaf inst port) (AtNet next) = true
is_before (AtNet port) (AtLeaf other next) = false
is_before (AtNet port) (AtNet next) = nat_lt port next

-- each of these links leads to a place behind this one
abbrev pub are_behind : End → List Link → Bool
are_behind end [] = true
are_behind end (link ∷ links) = if is_before end link.to then are_behind end links else false

abbrev pub are_in_order : List Link → Bool
are_in_order [] = true
are_in_order (link ∷ links) = if are_behind link.to links then are_in_order links else false

-- Outputs.

abbrev pub OnPort : Option Port → (Port → Type 0) → Type 0
OnPort None P = ⊥
OnPort (Some port) P = P port

-- a link to an output has the output's type
abbrev pub HasOutKind : List Port → Scalar → End → Type 0
HasOutKind outs kind (AtLeaf inst port) = Unit {0}
HasOutKind outs kind (AtNet port) = OnPort (slice_get outs port) (λ out. kind ≡ out.kind)
