-- What the tag that begins an element brings.
-- Trusted: part of what a promise means.
use Rattle.std.specs.Prelude.{ℕ, List, [], ◌∷◌, length, Bool, true, false, if◌then◌else◌, nat_le, Option, None, Some, codes}
use Rattle.std.specs.Str.{bytes_eq}
use Rattle.rvc_base.specs.Rules.{unknown_element, wrong_attribute, nests_too_deep, name_too_long}
use Rattle.cal_ast.specs.Tree.{Tree, ident, variable}
use Rattle.cal_ast.specs.declared.expr.PrefixOp.{PrefixOp}
use Rattle.cal_ast.specs.declared.expr.BinOp.{BinOp}
use Rattle.fnl_markup.specs.Tags.{Attribute, attribute}
use Rattle.fnl_frames.specs.Net.{empty_net}
use Rattle.fnl_frames.specs.Frames.{Frame, in_network, in_port, in_decl, in_instance, in_parameter, in_connection, in_size, in_type, in_value, in_shape, in_list, in_unary, in_sequence, in_empty, in_passed, a_class}
use Rattle.fnl_expr.specs.Operations.{Pending}
use Rattle.fnl_read.specs.States.{State, Next, Going, Fault}
use Rattle.fnl_expr.specs.Given.{given, either_given, Text, text_at, name_given, tag_given, end_given, entry_given, type_given, long, earlier, Literal, literal_given, literal_tree, kind_given}
use Rattle.fnl_expr.specs.Operators.{binary_given, prefix_given}
use Rattle.fnl_expr.specs.Operations.{before_operator}
use Rattle.fnl_frames.specs.Allowed.{element_named, allows}
use Rattle.fnl_frames.specs.Attaching.{with_class, with_expr}
use Rattle.fnl_frames.specs.declared.element.Element.{Element}
use Rattle.fnl_frames.specs.declared.element.Element.TheVariants as elements
use Rattle.fnl_expr.specs.declared.kind.ExprKind.{ExprKind}
use Rattle.fnl_expr.specs.declared.kind.ExprKind.TheVariants as kinds

-- an attribute is missing, given twice or not one of its values
abbrev pub wrong : ℕ → Next
wrong at = Fault wrong_attribute at

-- the most elements that are open at a place
abbrev pub max_depth : ℕ
max_depth = 64

abbrev pub entered : Frame → Option ℕ → State → Next
entered frame None s = Going (record { top = frame; below = s.top ∷ s.below })
entered frame (Some place) s = Fault name_too_long place

-- one element more is open, in which a name may be too long, at a place
abbrev pub enter : Frame → Option ℕ → ℕ → State → Next
enter frame too_long at s =
    if nat_le max_depth (length s.below) then Fault nests_too_deep at else entered frame too_long s

-- an element that has nothing inside, with what becomes of the element round it
abbrev pub enter_empty : Frame → Option ℕ → ℕ → State → Next
enter_empty round too_long at s = enter in_empty too_long at (record s { top = round })

-- the network

abbrev pub network_with : Option Text → ℕ → State → Next
network_with None at s = wrong at
network_with (Some (text_at name place)) at s =
    enter (in_network (empty_net name at)) (long (text_at name place)) at s

abbrev pub open_network : List Attribute → ℕ → State → Next
open_network attributes at s = network_with (name_given (codes "name") attributes) at s

-- ports

abbrev pub port_with : Option Bool → Option Text → ℕ → State → Next
port_with None name at s = wrong at
port_with (Some input) None at s = wrong at
port_with (Some input) (Some (text_at name place)) at s =
    enter (in_port input name None at) (long (text_at name place)) at s

abbrev pub open_port : List Attribute → ℕ → State → Next
open_port attributes at s =
    port_with (either_given (codes "kind") (codes "Input") (codes "Output") attributes)
    (name_given (codes "name") attributes) at s

-- declarations

abbrev pub decl_with : Option Bool → Option Text → ℕ → State → Next
decl_with None name at s = wrong at
decl_with (Some param) None at s = wrong at
decl_with (Some param) (Some (text_at name place)) at s =
    enter (in_decl param name None None at) (long (text_at name place)) at s

abbrev pub open_decl : List Attribute → ℕ → State → Next
open_decl attributes at s =
    decl_with (either_given (codes "kind") (codes "Param") (codes "Variable") attributes)
    (name_given (codes "name") attributes) at s

-- instances, their classes and parameters

abbrev pub instance_with : Option Text → ℕ → State → Next
instance_with None at s = wrong at
instance_with (Some (text_at id place)) at s =
    enter (in_instance id None [] at) (long (text_at id place)) at s

abbrev pub open_instance : List Attribute → ℕ → State → Next
open_instance attributes at s = instance_with (name_given (codes "id") attributes) at s

abbrev pub class_with : Option Text → ℕ → State → Next
class_with None at s = wrong at
class_with (Some (text_at name place)) at s =
    enter_empty (with_class (a_class name at) s.top) (long (text_at name place)) at s

abbrev pub open_class : List Attribute → ℕ → State → Next
open_class attributes at s = class_with (tag_given (codes "name") attributes) at s

abbrev pub parameter_with : Option Text → ℕ → State → Next
parameter_with None at s = wrong at
parameter_with (Some (text_at name place)) at s =
    enter (in_parameter name None at) (long (text_at name place)) at s

abbrev pub open_parameter : List Attribute → ℕ → State → Next
open_parameter attributes at s = parameter_with (name_given (codes "name") attributes) at s

-- connections; of several names that are too long the earliest is named

abbrev pub connection_with :
    Option Text → Option Text → Option Text → Option Text → ℕ → State → Next
connection_with (Some (text_at src a)) (Some (text_at src_port b)) (Some (text_at dst c))
    (Some (text_at dst_port d)) at s =
    enter (in_connection src src_port dst dst_port [] at)
    (earlier
    (earlier (long (text_at src a)) (long (text_at src_port b)))
    (earlier (long (text_at dst c)) (long (text_at dst_port d))))
    at s
connection_with _ _ _ _ at s = wrong at

abbrev pub open_connection : List Attribute → ℕ → State → Next
open_connection attributes at s =
    connection_with (end_given (codes "src") attributes) (name_given (codes "src-port") attributes)
    (end_given (codes "dst") attributes) (name_given (codes "dst-port") attributes) at s

-- attributes: the sizes of a connection, and what is passed over

abbrev pub attribute_in : Frame → List ℕ → ℕ → Frame
attribute_in (in_connection src src_port dst dst_port sizes there) name at =
    if bytes_eq name (codes "bufferSize") then in_size None at else in_passed
attribute_in frame name at = in_passed

abbrev pub attribute_with : Option Attribute → ℕ → State → Next
attribute_with None at s = wrong at
attribute_with (Some (attribute key name place)) at s = enter (attribute_in s.top name at) None at s

abbrev pub open_attribute : List Attribute → ℕ → State → Next
open_attribute attributes at s = attribute_with (given (codes "name") attributes) at s

-- types and their entries

abbrev pub type_with : Option Text → ℕ → State → Next
type_with None at s = wrong at
type_with (Some (text_at name place)) at s = enter (in_type (ident name place) [] at) None at s

abbrev pub open_type : List Attribute → ℕ → State → Next
open_type attributes at s = type_with (type_given attributes) at s

abbrev pub entry_frame : Bool → Tree → Frame
entry_frame true name = in_value name None
entry_frame false name = in_shape name None

abbrev pub entry_with : Option Bool → Option Text → ℕ → State → Next
entry_with None name at s = wrong at
entry_with (Some by_value) None at s = wrong at
entry_with (Some by_value) (Some (text_at name place)) at s =
    enter (entry_frame by_value (ident name place)) None at s

abbrev pub open_entry : List Attribute → ℕ → State → Next
open_entry attributes at s =
    entry_with (either_given (codes "kind") (codes "Expr") (codes "Type") attributes)
    (entry_given attributes) at s

-- expressions

abbrev pub literal_with : Option Literal → ℕ → State → Next
literal_with None at s = wrong at
literal_with (Some literal) at s = enter_empty (with_expr (literal_tree literal at) s.top) None at s

abbrev pub open_literal : List Attribute → ℕ → State → Next
open_literal attributes at s = literal_with (literal_given attributes) at s

abbrev pub variable_with : Option Text → ℕ → State → Next
variable_with None at s = wrong at
variable_with (Some (text_at name place)) at s =
    enter_empty (with_expr (variable name at) s.top) (long (text_at name place)) at s

abbrev pub open_variable : List Attribute → ℕ → State → Next
open_variable attributes at s = variable_with (name_given (codes "name") attributes) at s

abbrev pub expr_with : Option ExprKind → List Attribute → ℕ → State → Next
expr_with None attributes at s = wrong at
expr_with (Some kinds.Literal) attributes at s = open_literal attributes at s
expr_with (Some kinds.Var) attributes at s = open_variable attributes at s
expr_with (Some kinds.List) attributes at s = enter (in_list [] at) None at s
expr_with (Some kinds.Unary) attributes at s = enter (in_unary None None at) None at s
expr_with (Some kinds.Sequence) attributes at s = enter (in_sequence [] None at) None at s

abbrev pub open_expr : List Attribute → ℕ → State → Next
open_expr attributes at s = expr_with (kind_given attributes) attributes at s

-- operators

abbrev pub operator_with : Option (List Pending) → ℕ → ℕ → State → Next
operator_with None there at s = Fault nests_too_deep there
operator_with (Some waiting) there at s = enter_empty (in_sequence waiting None there) None at s

abbrev pub prefix_with : Option PrefixOp → Option Tree → ℕ → ℕ → State → Next
prefix_with None operand there at s = wrong at
prefix_with (Some op) operand there at s = enter_empty (in_unary (Some op) operand there) None at s

abbrev pub binary_with : Option BinOp → List Pending → Tree → ℕ → ℕ → State → Next
binary_with None waiting operand there at s = wrong at
binary_with (Some op) waiting operand there at s =
    operator_with (before_operator op waiting operand) there at s

abbrev pub open_prefix : List Attribute → Option Tree → ℕ → ℕ → State → Next
open_prefix attributes operand there at s = prefix_with (prefix_given attributes) operand there at s

abbrev pub open_binary : List Attribute → List Pending → Tree → ℕ → ℕ → State → Next
open_binary attributes waiting operand there at s =
    binary_with (binary_given attributes) waiting operand there at s

abbrev pub operator_in : Frame → List Attribute → ℕ → State → Next
operator_in (in_unary op operand there) attributes at s = open_prefix attributes operand there at s
operator_in (in_sequence waiting (Some operand) there) attributes at s =
    open_binary attributes waiting operand there at s
operator_in frame attributes at s = Fault unknown_element at

abbrev pub open_op : List Attribute → ℕ → State → Next
open_op attributes at s = operator_in s.top attributes at s

-- an element that is allowed

abbrev pub open_element : Element → List Attribute → ℕ → State → Next
open_element elements.Xdf attributes at s = open_network attributes at s
open_element elements.Port attributes at s = open_port attributes at s
open_element elements.Decl attributes at s = open_decl attributes at s
open_element elements.Instance attributes at s = open_instance attributes at s
open_element elements.Class attributes at s = open_class attributes at s
open_element elements.Parameter attributes at s = open_parameter attributes at s
open_element elements.Connection attributes at s = open_connection attributes at s
open_element elements.Attribute attributes at s = open_attribute attributes at s
open_element elements.Type attributes at s = open_type attributes at s
open_element elements.Entry attributes at s = open_entry attributes at s
open_element elements.Expr attributes at s = open_expr attributes at s
open_element elements.Op attributes at s = open_op attributes at s

abbrev pub open_known : Option Element → List Attribute → ℕ → State → Next
open_known None attributes at s = Fault unknown_element at
open_known (Some e) attributes at s =
    if allows s.top e then open_element e attributes at s else Fault unknown_element at

abbrev pub is_passed : Frame → Bool
is_passed in_passed = true
is_passed _ = false

-- an element begins
abbrev pub opened : List ℕ → List Attribute → ℕ → State → Next
opened name attributes at s =
    if is_passed s.top then enter in_passed None at s
    else open_known (element_named name) attributes at s
