-- Only an end tag breaks F1, at its own offset.
use Rattle.std.proofs.Common.{◌≡◌, ℕ, length, Bool, true, false, List, [], ◌∷◌, Option, Some, None, ap, arith}
use Rattle.std.specs.Prelude.{if◌then◌else◌, nat_le, codes}
use Rattle.rvc_base.specs.declared.refusal.Rule.{Rule}
use Rattle.rvc_base.specs.Rules.{spells_no_network, unknown_element, wrong_attribute, nests_too_deep, name_too_long}
use Rattle.cal_ast.specs.Tree.{Tree, ident, prefix, list, listed}
use Rattle.cal_ast.specs.declared.expr.PrefixOp.{PrefixOp}
use Rattle.cal_ast.specs.declared.expr.BinOp.{BinOp}
use Rattle.fnl_markup.specs.Tags.{Attribute, attribute}
use Rattle.fnl_frames.specs.Net.{Parameter}
use Rattle.fnl_frames.specs.Frames.{Frame, outside, in_network, in_port, in_decl, in_instance, in_parameter, in_connection, in_size, in_type, in_value, in_shape, in_list, in_unary, in_sequence, in_empty, in_passed, Class, a_class}
use Rattle.fnl_expr.specs.Operations.{Pending}
use Rattle.fnl_read.specs.States.{State, Next, Going, Fault}
use Rattle.fnl_expr.specs.Given.{Text, text_at, Literal, given, name_given, literal_given}
use Rattle.fnl_expr.specs.Operators.{binary_in, prefix_in}
use Rattle.fnl_expr.specs.Operations.{before_operator, grouped, made}
use Rattle.fnl_frames.specs.Allowed.{element_named, allows}
use Rattle.fnl_read.specs.Opening as opening
use Rattle.fnl_read.specs.Closing as closing
use Rattle.fnl_expr.specs.Given.{literal_tree}
use Rattle.fnl_frames.specs.Attaching.{with_expr}
use Rattle.fnl_frames.specs.declared.element.Element.{Element}
use Rattle.fnl_frames.specs.declared.element.Element.TheVariants as elements
use Rattle.fnl_expr.specs.declared.kind.ExprKind.{ExprKind}
use Rattle.fnl_expr.specs.declared.kind.ExprKind.TheVariants as kinds

abbrev number_of : Rule → ℕ
number_of rule = rule.0

not_unknown : unknown_element ≡ spells_no_network → ⊥
not_unknown e = let same : number_of unknown_element ≡ number_of spells_no_network = ap number_of e in absurd (omega arith)

not_wrong : wrong_attribute ≡ spells_no_network → ⊥
not_wrong e = let same : number_of wrong_attribute ≡ number_of spells_no_network = ap number_of e in absurd (omega arith)

not_deep : nests_too_deep ≡ spells_no_network → ⊥
not_deep e = let same : number_of nests_too_deep ≡ number_of spells_no_network = ap number_of e in absurd (omega arith)

not_long : name_too_long ≡ spells_no_network → ⊥
not_long e = let same : number_of name_too_long ≡ number_of spells_no_network = ap number_of e in absurd (omega arith)

-- a step that never breaks F1
abbrev pub IsNever : Next → Type 0
IsNever next = (place : ℕ) → next ≡ Fault spells_no_network place → ⊥

-- a step that breaks F1 at this offset alone
abbrev pub IsHere : ℕ → Next → Type 0
IsHere at next = (place : ℕ) → next ≡ Fault spells_no_network place → place ≡ at

going : (s : State) → IsNever (Going s)
going s = λ place e. cc

unknown : (at : ℕ) → IsNever (Fault unknown_element at)
unknown at = λ place e. let same : unknown_element ≡ spells_no_network = cc in not_unknown same

wrong : (at : ℕ) → IsNever (Fault wrong_attribute at)
wrong at = λ place e. let same : wrong_attribute ≡ spells_no_network = cc in not_wrong same

deep : (at : ℕ) → IsNever (Fault nests_too_deep at)
deep at = λ place e. let same : nests_too_deep ≡ spells_no_network = cc in not_deep same

long : (at : ℕ) → IsNever (Fault name_too_long at)
long at = λ place e. let same : name_too_long ≡ spells_no_network = cc in not_long same

either : (test : Bool) (one other : Next) → IsNever one → IsNever other → IsNever (if test then one else other)
either true one other h k = h
either false one other h k = k

-- Elements that begin.

entered : (frame : Frame) (too_long : Option ℕ) (s : State) → IsNever (opening.entered frame too_long s)
entered frame None s = going _
entered frame (Some place) s = long place

enter : (frame : Frame) (too_long : Option ℕ) (at : ℕ) (s : State) → IsNever (opening.enter frame too_long at s)
enter frame too_long at s = either (nat_le opening.max_depth (length s.below)) _ _ (deep at) (entered frame too_long s)

enter_empty : (round : Frame) (too_long : Option ℕ) (at : ℕ) (s : State) → IsNever (opening.enter_empty round too_long at s)
enter_empty round too_long at s = enter in_empty too_long at (record s { top = round })

network_with : (name : Option Text) (at : ℕ) (s : State) → IsNever (opening.network_with name at s)
network_with None at s = wrong at
network_with (Some (text_at name place)) at s = enter _ _ at s

port_with : (input : Option Bool) (name : Option Text) (at : ℕ) (s : State) → IsNever (opening.port_with input name at s)
port_with None name at s = wrong at
port_with (Some input) None at s = wrong at
port_with (Some input) (Some (text_at name place)) at s = enter _ _ at s

decl_with : (param : Option Bool) (name : Option Text) (at : ℕ) (s : State) → IsNever (opening.decl_with param name at s)
decl_with None name at s = wrong at
decl_with (Some param) None at s = wrong at
decl_with (Some param) (Some (text_at name place)) at s = enter _ _ at s

instance_with : (id : Option Text) (at : ℕ) (s : State) → IsNever (opening.instance_with id at s)
instance_with None at s = wrong at
instance_with (Some (text_at id place)) at s = enter _ _ at s

class_with : (name : Option Text) (at : ℕ) (s : State) → IsNever (opening.class_with name at s)
class_with None at s = wrong at
class_with (Some (text_at name place)) at s = enter_empty _ _ at s

parameter_with : (name : Option Text) (at : ℕ) (s : State) → IsNever (opening.parameter_with name at s)
parameter_with None at s = wrong at
parameter_with (Some (text_at name place)) at s = enter _ _ at s

connection_with : (src src_port dst dst_port : Option Text) (at : ℕ) (s : State) → IsNever (opening.connection_with src src_port dst dst_port at s)
connection_with None src_port dst dst_port at s = wrong at
connection_with (Some (text_at src a)) None dst dst_port at s = wrong at
connection_with (Some (text_at src a)) (Some (text_at src_port b)) None dst_port at s = wrong at
connection_with (Some (text_at src a)) (Some (text_at src_port b)) (Some (text_at dst c)) None at s = wrong at
connection_with (Some (text_at src a)) (Some (text_at src_port b)) (Some (text_at dst c)) (Some (text_at dst_port d)) at s = enter _ _ at s

attribute_with : (name : Option Attribute) (at : ℕ) (s : State) → IsNever (opening.attribute_with name at s)
attribute_with None at s = wrong at
attribute_with (Some (attribute key name place)) at s = enter (opening.attribute_in s.top name at) None at s

type_with : (name : Option Text) (at : ℕ) (s : State) → IsNever (opening.type_with name at s)
type_with None at s = wrong at
type_with (Some (text_at name place)) at s = enter (in_type (ident name place) [] at) None at s

entry_with : (by_value : Option Bool) (name : Option Text) (at : ℕ) (s : State) → IsNever (opening.entry_with by_value name at s)
entry_with None name at s = wrong at
entry_with (Some by_value) None at s = wrong at
entry_with (Some by_value) (Some (text_at name place)) at s = enter (opening.entry_frame by_value (ident name place)) None at s

literal_with : (literal : Option Literal) (at : ℕ) (s : State) → IsNever (opening.literal_with literal at s)
literal_with None at s = wrong at
literal_with (Some literal) at s = enter_empty (with_expr (literal_tree literal at) s.top) None at s

variable_with : (name : Option Text) (at : ℕ) (s : State) → IsNever (opening.variable_with name at s)
variable_with None at s = wrong at
variable_with (Some (text_at name place)) at s = enter_empty _ _ at s

expr_with : (kind : Option ExprKind) (attributes : List Attribute) (at : ℕ) (s : State) → IsNever (opening.expr_with kind attributes at s)
expr_with None attributes at s = wrong at
expr_with (Some kinds.Literal) attributes at s = literal_with (literal_given attributes) at s
expr_with (Some kinds.Var) attributes at s = variable_with (name_given (codes "name") attributes) at s
expr_with (Some kinds.List) attributes at s = enter (in_list [] at) None at s
expr_with (Some kinds.Unary) attributes at s = enter (in_unary None None at) None at s
expr_with (Some kinds.Sequence) attributes at s = enter (in_sequence [] None at) None at s

operator_with : (waiting : Option (List Pending)) (there at : ℕ) (s : State) → IsNever (opening.operator_with waiting there at s)
operator_with None there at s = deep there
operator_with (Some waiting) there at s = enter_empty (in_sequence waiting None there) None at s

prefix_with : (op : Option PrefixOp) (operand : Option Tree) (there at : ℕ) (s : State) → IsNever (opening.prefix_with op operand there at s)
prefix_with None operand there at s = wrong at
prefix_with (Some op) operand there at s = enter_empty (in_unary (Some op) operand there) None at s

binary_with : (op : Option BinOp) (waiting : List Pending) (operand : Tree) (there at : ℕ) (s : State) → IsNever (opening.binary_with op waiting operand there at s)
binary_with None waiting operand there at s = wrong at
binary_with (Some op) waiting operand there at s = operator_with (before_operator op waiting operand) there at s

operator_in : (frame : Frame) (attributes : List Attribute) (at : ℕ) (s : State) → IsNever (opening.operator_in frame attributes at s)
operator_in (in_unary op operand there) attributes at s = prefix_with (prefix_in (given (codes "name") attributes)) operand there at s
operator_in (in_sequence waiting (Some operand) there) attributes at s = binary_with (binary_in (given (codes "name") attributes)) waiting operand there at s
operator_in (in_sequence waiting None there) attributes at s = unknown at
operator_in (outside net) attributes at s = unknown at
operator_in (in_network net) attributes at s = unknown at
operator_in (in_port input name shape there) attributes at s = unknown at
operator_in (in_decl param name shape value there) attributes at s = unknown at
operator_in (in_instance id class parameters there) attributes at s = unknown at
operator_in (in_parameter name value there) attributes at s = unknown at
operator_in (in_connection src src_port dst dst_port sizes there) attributes at s = unknown at
operator_in (in_size value there) attributes at s = unknown at
operator_in (in_type name args there) attributes at s = unknown at
operator_in (in_value name value) attributes at s = unknown at
operator_in (in_shape name shape) attributes at s = unknown at
operator_in (in_list items there) attributes at s = unknown at
operator_in in_empty attributes at s = unknown at
operator_in in_passed attributes at s = unknown at

open_element : (e : Element) (attributes : List Attribute) (at : ℕ) (s : State) → IsNever (opening.open_element e attributes at s)
open_element elements.Xdf attributes at s = network_with _ at s
open_element elements.Port attributes at s = port_with _ _ at s
open_element elements.Decl attributes at s = decl_with _ _ at s
open_element elements.Instance attributes at s = instance_with _ at s
open_element elements.Class attributes at s = class_with _ at s
open_element elements.Parameter attributes at s = parameter_with _ at s
open_element elements.Connection attributes at s = connection_with _ _ _ _ at s
open_element elements.Attribute attributes at s = attribute_with _ at s
open_element elements.Type attributes at s = type_with _ at s
open_element elements.Entry attributes at s = entry_with _ _ at s
open_element elements.Expr attributes at s = expr_with _ attributes at s
open_element elements.Op attributes at s = operator_in s.top attributes at s

open_known : (found : Option Element) (attributes : List Attribute) (at : ℕ) (s : State) → IsNever (opening.open_known found attributes at s)
open_known None attributes at s = unknown at
open_known (Some e) attributes at s = either (allows s.top e) _ _ (open_element e attributes at s) (unknown at)

pub opened_never : (name : List ℕ) (attributes : List Attribute) (at : ℕ) (s : State) → IsNever (opening.opened name attributes at s)
opened_never name attributes at s = either (opening.is_passed s.top) _ _ (enter in_passed None at s) (open_known (element_named name) attributes at s)

-- Elements that end.

never_here : (at : ℕ) (next : Next) → IsNever next → IsHere at next
never_here at next never = λ place e. absurd (never place e)

stuck : (at : ℕ) → IsHere at (closing.stuck at)
stuck at = λ place e. cc

out_to : (change : Frame → Frame) (below : List Frame) (at : ℕ) → IsHere at (closing.out_to change below at)
out_to change [] at = stuck at
out_to change (round ∷ below) at = never_here at _ (going _)

leave : (change : Frame → Frame) (at : ℕ) (s : State) → IsHere at (closing.leave change at s)
leave change at s = out_to change s.below at

end_expr : (value : Option Tree) (there at : ℕ) (s : State) → IsHere at (closing.end_expr value there at s)
end_expr None there at s = never_here at _ (deep there)
end_expr (Some value) there at s = leave _ at s

end_port : (input : Bool) (name : List ℕ) (shape : Option Tree) (there at : ℕ) (s : State) → IsHere at (closing.end_port input name shape there at s)
end_port input name None there at s = stuck at
end_port input name (Some shape) there at s = leave _ at s

end_decl : (param : Bool) (name : List ℕ) (shape value : Option Tree) (there at : ℕ) (s : State) → IsHere at (closing.end_decl param name shape value there at s)
end_decl param name None value there at s = stuck at
end_decl true name (Some shape) value there at s = leave _ at s
end_decl false name (Some shape) None there at s = stuck at
end_decl false name (Some shape) (Some value) there at s = leave _ at s

end_instance : (id : List ℕ) (class : Option Class) (parameters : List Parameter) (there at : ℕ) (s : State) → IsHere at (closing.end_instance id class parameters there at s)
end_instance id None parameters there at s = stuck at
end_instance id (Some (a_class name class_at)) parameters there at s = leave _ at s

end_parameter : (name : List ℕ) (value : Option Tree) (there at : ℕ) (s : State) → IsHere at (closing.end_parameter name value there at s)
end_parameter name None there at s = stuck at
end_parameter name (Some value) there at s = leave _ at s

end_size : (value : Option Tree) (there at : ℕ) (s : State) → IsHere at (closing.end_size value there at s)
end_size None there at s = stuck at
end_size (Some value) there at s = leave _ at s

end_value : (name : Tree) (value : Option Tree) (at : ℕ) (s : State) → IsHere at (closing.end_value name value at s)
end_value name None at s = stuck at
end_value name (Some value) at s = leave _ at s

end_shape : (name : Tree) (shape : Option Tree) (at : ℕ) (s : State) → IsHere at (closing.end_shape name shape at s)
end_shape name None at s = stuck at
end_shape name (Some shape) at s = leave _ at s

end_list : (items : List Tree) (there at : ℕ) (s : State) → IsHere at (closing.end_list items there at s)
end_list [] there at s = stuck at
end_list (item ∷ items) there at s = end_expr (made (Rattle.cal_ast.specs.Tree.list (Rattle.cal_ast.specs.Tree.listed (item ∷ items)) there)) there at s

end_unary : (op : Option PrefixOp) (operand : Option Tree) (there at : ℕ) (s : State) → IsHere at (closing.end_unary op operand there at s)
end_unary None operand there at s = stuck at
end_unary (Some op) None there at s = stuck at
end_unary (Some op) (Some operand) there at s = end_expr (made (Rattle.cal_ast.specs.Tree.prefix op operand there)) there at s

end_sequence : (waiting : List Pending) (operand : Option Tree) (there at : ℕ) (s : State) → IsHere at (closing.end_sequence waiting operand there at s)
end_sequence waiting None there at s = stuck at
end_sequence [] (Some operand) there at s = stuck at
end_sequence (left ∷ waiting) (Some operand) there at s = end_expr (grouped there (left ∷ waiting) operand) there at s

ended_in : (frame : Frame) (at : ℕ) (s : State) → IsHere at (closing.ended_in frame at s)
ended_in (outside net) at s = stuck at
ended_in (in_network net) at s = leave _ at s
ended_in (in_port input name shape there) at s = end_port input name shape there at s
ended_in (in_decl param name shape value there) at s = end_decl param name shape value there at s
ended_in (in_instance id class parameters there) at s = end_instance id class parameters there at s
ended_in (in_parameter name value there) at s = end_parameter name value there at s
ended_in (in_connection src src_port dst dst_port sizes there) at s = leave _ at s
ended_in (in_size value there) at s = end_size value there at s
ended_in (in_type name args there) at s = leave _ at s
ended_in (in_value name value) at s = end_value name value at s
ended_in (in_shape name shape) at s = end_shape name shape at s
ended_in (in_list items there) at s = end_list items there at s
ended_in (in_unary op operand there) at s = end_unary op operand there at s
ended_in (in_sequence waiting operand there) at s = end_sequence waiting operand there at s
ended_in in_empty at s = leave _ at s
ended_in in_passed at s = leave _ at s

pub closed_here : (at : ℕ) (s : State) → IsHere at (closing.closed at s)
closed_here at s = ended_in s.top at s
