-- Which elements may stand in which.
-- Trusted: part of what a promise means.
use Rattle.std.specs.Prelude.{ℕ, List, Bool, true, false, if◌then◌else◌, Option, None, Some, codes}
use Rattle.std.specs.Str.{bytes_eq}
use Rattle.fnl_frames.specs.Frames.{Frame, outside, in_network, in_port, in_decl, in_instance, in_parameter, in_connection, in_size, in_type, in_value, in_shape, in_list, in_unary, in_sequence, in_empty, in_passed}
use Rattle.fnl_frames.specs.declared.element.Element.{Element}
use Rattle.fnl_frames.specs.declared.element.Element.TheVariants as elements

-- the element of a name
abbrev pub element_named : List ℕ → Option Element
element_named name =
    if bytes_eq name (codes "XDF") then Some elements.Xdf
    else (if bytes_eq name (codes "Port") then Some elements.Port
    else (if bytes_eq name (codes "Decl") then Some elements.Decl
    else (if bytes_eq name (codes "Instance") then Some elements.Instance
    else (if bytes_eq name (codes "Class") then Some elements.Class
    else (if bytes_eq name (codes "Parameter") then Some elements.Parameter
    else (if bytes_eq name (codes "Connection") then Some elements.Connection
    else (if bytes_eq name (codes "Attribute") then Some elements.Attribute
    else (if bytes_eq name (codes "Type") then Some elements.Type
    else (if bytes_eq name (codes "Entry") then Some elements.Entry
    else (if bytes_eq name (codes "Expr") then Some elements.Expr
    else (if bytes_eq name (codes "Op") then Some elements.Op
    else None)))))))))))

abbrev pub in_a_network : Element → Bool
in_a_network elements.Port = true
in_a_network elements.Decl = true
in_a_network elements.Instance = true
in_a_network elements.Connection = true
in_a_network elements.Attribute = true
in_a_network _ = false

abbrev pub is_xdf : Element → Bool
is_xdf elements.Xdf = true
is_xdf _ = false

abbrev pub is_type : Element → Bool
is_type elements.Type = true
is_type _ = false

abbrev pub is_expr : Element → Bool
is_expr elements.Expr = true
is_expr _ = false

abbrev pub is_class : Element → Bool
is_class elements.Class = true
is_class _ = false

abbrev pub is_op : Element → Bool
is_op elements.Op = true
is_op _ = false

abbrev pub is_attribute : Element → Bool
is_attribute elements.Attribute = true
is_attribute _ = false

abbrev pub is_entry : Element → Bool
is_entry elements.Entry = true
is_entry _ = false

abbrev pub in_an_instance : Element → Bool
in_an_instance elements.Parameter = true
in_an_instance elements.Attribute = true
in_an_instance _ = false

-- whether an element may stand where nothing of its kind has stood yet
abbrev pub where_none : {A : Type 0} → Option A → Bool → Bool
where_none None allowed = allowed
where_none (Some x) allowed = false

-- whether an element may stand next in what is open
abbrev pub allows : Frame → Element → Bool
allows (outside net) e = where_none net (is_xdf e)
allows (in_network net) e = in_a_network e
allows (in_port input name shape at) e = where_none shape (is_type e)
allows (in_decl param name shape value at) e =
    if is_type e then where_none shape true else where_none value (is_expr e)
allows (in_instance id class parameters at) e =
    if is_class e then where_none class true else in_an_instance e
allows (in_parameter name value at) e = where_none value (is_expr e)
allows (in_connection src src_port dst dst_port sizes at) e = is_attribute e
allows (in_size value at) e = where_none value (is_expr e)
allows (in_type name args at) e = is_entry e
allows (in_value name value) e = where_none value (is_expr e)
allows (in_shape name shape) e = where_none shape (is_type e)
allows (in_list items at) e = is_expr e
allows (in_unary None operand at) e = is_op e
allows (in_unary (Some op) operand at) e = where_none operand (is_expr e)
allows (in_sequence waiting None at) e = is_expr e
allows (in_sequence waiting (Some operand) at) e = is_op e
allows in_empty e = false
allows in_passed e = true
