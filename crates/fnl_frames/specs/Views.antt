-- What networks and elements of the code stand for.
-- Trusted: part of what a promise means.
use Rattle.std.specs.Prelude.{map, option_map, string_bytes}
use Rattle.cal_ast.specs.View.{expr_tree, type_tree, type_arg_tree, ident_tree, optional_expr}
use Rattle.fnl_expr.specs.Stack.{stack}
use Rattle.fnl_expr.specs.Views.{tall_tree, pending_of}
use Rattle.fnl_frames.specs.Net.{Net, Port, a_port, Decl, a_decl, Parameter, a_parameter, Instance, an_instance, Size, a_size, Connection, a_connection}
use Rattle.fnl_frames.specs.Frames.{Frame, outside, in_network, in_port, in_decl, in_instance, in_parameter, in_connection, in_size, in_type, in_value, in_shape, in_list, in_unary, in_sequence, in_empty, in_passed, Class, a_class}
use Rattle.fnl_frames.specs.declared.net.NetFile.{NetFile}
use Rattle.fnl_frames.specs.declared.net.NetPort.{NetPort}
use Rattle.fnl_frames.specs.declared.net.NetDecl.{NetDecl}
use Rattle.fnl_frames.specs.declared.net.NetInstance.{NetInstance}
use Rattle.fnl_frames.specs.declared.net.NetParameter.{NetParameter}
use Rattle.fnl_frames.specs.declared.net.NetConnection.{NetConnection}
use Rattle.fnl_frames.specs.declared.net.NetSize.{NetSize}
use Rattle.fnl_frames.specs.declared.frame.Class.{Class as TheClass}
use Rattle.fnl_frames.specs.declared.frame.Frame.{Frame as TheFrame}
use Rattle.fnl_frames.specs.declared.frame.Frame.TheVariants as frames

abbrev pub port_of : NetPort → Port
port_of p = a_port p.input (type_tree p.shape) (string_bytes p.name) p.at

abbrev pub decl_of : NetDecl → Decl
decl_of d = a_decl d.param (type_tree d.shape) (string_bytes d.name) (optional_expr d.value) d.at

abbrev pub parameter_of : NetParameter → Parameter
parameter_of p = a_parameter (string_bytes p.name) (expr_tree p.value) p.at

abbrev pub instance_of : NetInstance → Instance
instance_of i =
    an_instance (string_bytes i.id) (string_bytes i.class) i.class_at
    (map parameter_of i.parameters.items) i.at

abbrev pub size_of : NetSize → Size
size_of z = a_size (expr_tree z.value) z.at

abbrev pub connection_of : NetConnection → Connection
connection_of c =
    a_connection (string_bytes c.src) (string_bytes c.src_port) (string_bytes c.dst)
    (string_bytes c.dst_port) (map size_of c.sizes.items) c.at

abbrev pub net_of : NetFile → Net
net_of n = record {
  name = string_bytes n.name;
  ports = map port_of n.ports.items;
  decls = map decl_of n.decls.items;
  instances = map instance_of n.instances.items;
  connections = map connection_of n.connections.items;
  at = n.at;
}

abbrev pub class_of : TheClass → Class
class_of c = a_class (string_bytes c.name) c.at

abbrev pub frame_of : TheFrame → Frame
frame_of (frames.Outside net) = outside (option_map net_of net)
frame_of (frames.Network net) = in_network (net_of net)
frame_of (frames.Port input name shape at) =
    in_port input (string_bytes name) (option_map type_tree shape) at
frame_of (frames.Decl param name shape value at) =
    in_decl param (string_bytes name) (option_map type_tree shape) (option_map tall_tree value) at
frame_of (frames.Instance id class parameters at) =
    in_instance (string_bytes id) (option_map class_of class)
    (map parameter_of parameters.items) at
frame_of (frames.Parameter name value at) =
    in_parameter (string_bytes name) (option_map tall_tree value) at
frame_of (frames.Connection c) =
    in_connection (string_bytes c.src) (string_bytes c.src_port) (string_bytes c.dst)
    (string_bytes c.dst_port) (map size_of c.sizes.items) c.at
frame_of (frames.Size value at) = in_size (option_map tall_tree value) at
frame_of (frames.Type name args at) = in_type (ident_tree name) (map type_arg_tree args.items) at
frame_of (frames.Value name value) = in_value (ident_tree name) (option_map tall_tree value)
frame_of (frames.Shape name shape) = in_shape (ident_tree name) (option_map type_tree shape)
frame_of (frames.List items at) = in_list (map expr_tree items.exprs.items) at
frame_of (frames.Unary op operand at) = in_unary op (option_map tall_tree operand) at
frame_of (frames.Sequence waiting operand at) =
    in_sequence (stack pending_of waiting.items) (option_map tall_tree operand) at
frame_of frames.Empty = in_empty
frame_of frames.Passed = in_passed
