-- What becomes of an element that is open where one inside it ends, or has nothing inside.
-- Trusted: part of what a promise means.
use Rattle.std.specs.Prelude.{[], ◌∷◌, ◌++◌, Some}
use Rattle.cal_ast.specs.Tree.{Tree}
use Rattle.fnl_frames.specs.Net.{Net, Port, Decl, Parameter, Instance, Size, Connection}
use Rattle.fnl_frames.specs.Frames.{Frame, outside, in_network, in_port, in_decl, in_instance, in_parameter, in_connection, in_size, in_type, in_value, in_shape, in_list, in_unary, in_sequence, Class}

abbrev pub with_class : Class → Frame → Frame
with_class class (in_instance id other parameters at) = in_instance id (Some class) parameters at
with_class class frame = frame

-- the element round an expression, with it
abbrev pub with_expr : Tree → Frame → Frame
with_expr t (in_decl param name shape value at) = in_decl param name shape (Some t) at
with_expr t (in_parameter name value at) = in_parameter name (Some t) at
with_expr t (in_size value at) = in_size (Some t) at
with_expr t (in_value name value) = in_value name (Some t)
with_expr t (in_list items at) = in_list (items ++ t ∷ []) at
with_expr t (in_unary op operand at) = in_unary op (Some t) at
with_expr t (in_sequence waiting operand at) = in_sequence waiting (Some t) at
with_expr t frame = frame

abbrev pub with_net : Net → Frame → Frame
with_net net (outside other) = outside (Some net)
with_net net frame = frame

abbrev pub with_port : Port → Frame → Frame
with_port p (in_network net) = in_network (record net { ports = net.ports ++ p ∷ [] })
with_port p frame = frame

abbrev pub with_decl : Decl → Frame → Frame
with_decl d (in_network net) = in_network (record net { decls = net.decls ++ d ∷ [] })
with_decl d frame = frame

abbrev pub with_instance : Instance → Frame → Frame
with_instance i (in_network net) = in_network (record net { instances = net.instances ++ i ∷ [] })
with_instance i frame = frame

abbrev pub with_connection : Connection → Frame → Frame
with_connection c (in_network net) =
    in_network (record net { connections = net.connections ++ c ∷ [] })
with_connection c frame = frame

abbrev pub with_parameter : Parameter → Frame → Frame
with_parameter p (in_instance id class parameters at) =
    in_instance id class (parameters ++ p ∷ []) at
with_parameter p frame = frame

abbrev pub with_size : Size → Frame → Frame
with_size z (in_connection src src_port dst dst_port sizes at) =
    in_connection src src_port dst dst_port (sizes ++ z ∷ []) at
with_size z frame = frame

abbrev pub with_type : Tree → Frame → Frame
with_type t (in_port input name shape at) = in_port input name (Some t) at
with_type t (in_decl param name shape value at) = in_decl param name (Some t) value at
with_type t (in_shape name shape) = in_shape name (Some t)
with_type t frame = frame

abbrev pub with_arg : Tree → Frame → Frame
with_arg t (in_type name args at) = in_type name (args ++ t ∷ []) at
with_arg t frame = frame
