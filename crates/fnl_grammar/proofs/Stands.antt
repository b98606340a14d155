-- What was read stands in the elements that are open: each step of the reader keeps it.
use Rattle.std.proofs.Common.{◌≡◌, ℕ, suc, ◌+◌, Bool, true, false, List, [], ◌∷◌, ◌++◌, length, Option, None, Some, refl, sym, ap, subst, ◌∙◌, arith}
use Rattle.std.specs.Prelude.{codes}
use Rattle.std.proofs.lemmas.List.{append_assoc}
use Rattle.cal_ast.specs.Tree.{Tree, ident}
use Rattle.cal_ast.specs.declared.expr.PrefixOp.{PrefixOp}
use Rattle.cal_ast.specs.declared.expr.BinOp.{BinOp}
use Rattle.fnl_markup.specs.Tags.{Attribute, Tag, opens, closes}
use Rattle.fnl_expr.specs.Given.{either_given, text_at, name_given, end_given, entry_given, type_given, kind_given}
use Rattle.fnl_expr.specs.Operations.{Pending, before_operator}
use Rattle.fnl_frames.specs.Allowed.{allows}
use Rattle.fnl_frames.specs.Attaching.{with_expr, with_class, with_type, with_arg, with_port, with_decl, with_instance, with_connection, with_parameter, with_size}
use Rattle.fnl_frames.specs.Frames.{Frame, outside, in_network, in_port, in_decl, in_instance, in_parameter, in_connection, in_size, in_type, in_value, in_shape, in_list, in_unary, in_sequence, in_empty, in_passed, Class, a_class}
use Rattle.fnl_frames.specs.Net.{Net, Port, Decl, Parameter, Instance, Size, Connection}
use Rattle.fnl_read.specs.Opening.{is_passed}
use Rattle.fnl_frames.specs.declared.element.Element.{Element}
use Rattle.fnl_frames.specs.declared.element.Element.TheVariants as elements
use Rattle.fnl_expr.specs.declared.kind.ExprKind.TheVariants as kinds
use Rattle.fnl_grammar.specs.Rows.{Item, operand, operator}
use Rattle.fnl_grammar.specs.Productions.{around, IsCalled, IsGiven, is_buffer_size, ArePassed, passed_more, IsPassed, IsPrefixOp, IsBinaryOp, IsExpr, AreItems, one_item_more, IsRow, the_first, the_next, IsType, AreEntries, one_entry_more, IsEntry, IsPort, HasDeclared, type_declared, value_declared, IsDecl, IsClass, IsParameter, InInstance, and_class, and_parameter, and_attribute, IsInstance, IsSize, IsOther, InConnection, and_size, and_other, IsConnection, InNetwork, with_a_port, with_a_decl, with_an_instance, with_a_connection, with_an_attribute, IsNetwork}
use Rattle.fnl_grammar.proofs.Reading.{read, reads, reads_on, then_reads, reads_append}

-- ---- an element that is open, with what stands in it so far

-- what an element in another is
pub data Kid : Type 0 where
  an_element : Element → Kid
  a_size_of : Kid
  passed_over : Bool → Kid

pub data Partial : ℕ → Kid → Frame → List Tag → Type 0 where
  p_net : {room : ℕ} {name : List ℕ} {attributes : List Attribute} {inside : List Tag} {net : Net}
      → IsCalled name elements.Xdf → IsGiven (name_given (codes "name") attributes) net.name → InNetwork room inside net.ports net.decls net.instances net.connections
      → Partial room (an_element elements.Xdf) (in_network net) (opens name attributes net.at ∷ inside)
  p_port0 : {room at : ℕ} {name text : List ℕ} {attributes : List Attribute} {input : Bool}
      → IsCalled name elements.Port → either_given (codes "kind") (codes "Input") (codes "Output") attributes ≡ Some input → IsGiven (name_given (codes "name") attributes) text
      → Partial room (an_element elements.Port) (in_port input text None at) (opens name attributes at ∷ [])
  p_port1 : {room at : ℕ} {name text : List ℕ} {attributes : List Attribute} {inside : List Tag} {input : Bool} {shape : Tree}
      → IsCalled name elements.Port → either_given (codes "kind") (codes "Input") (codes "Output") attributes ≡ Some input → IsGiven (name_given (codes "name") attributes) text → IsType room inside shape
      → Partial room (an_element elements.Port) (in_port input text (Some shape) at) (opens name attributes at ∷ inside)
  p_decl : {room at : ℕ} {name text : List ℕ} {attributes : List Attribute} {inside : List Tag} {param : Bool} {shape value : Option Tree}
      → IsCalled name elements.Decl → either_given (codes "kind") (codes "Param") (codes "Variable") attributes ≡ Some param → IsGiven (name_given (codes "name") attributes) text → HasDeclared room inside shape value
      → Partial room (an_element elements.Decl) (in_decl param text shape value at) (opens name attributes at ∷ inside)
  p_inst : {room at : ℕ} {name text : List ℕ} {attributes : List Attribute} {inside : List Tag} {class : Option Class} {parameters : List Parameter}
      → IsCalled name elements.Instance → IsGiven (name_given (codes "id") attributes) text → InInstance room inside class parameters
      → Partial room (an_element elements.Instance) (in_instance text class parameters at) (opens name attributes at ∷ inside)
  p_param0 : {room at : ℕ} {name text : List ℕ} {attributes : List Attribute}
      → IsCalled name elements.Parameter → IsGiven (name_given (codes "name") attributes) text
      → Partial room (an_element elements.Parameter) (in_parameter text None at) (opens name attributes at ∷ [])
  p_param1 : {room at : ℕ} {name text : List ℕ} {attributes : List Attribute} {inside : List Tag} {t : Tree}
      → IsCalled name elements.Parameter → IsGiven (name_given (codes "name") attributes) text → IsExpr room inside t
      → Partial room (an_element elements.Parameter) (in_parameter text (Some t) at) (opens name attributes at ∷ inside)
  p_conn : {room at : ℕ} {name src src_port dst dst_port : List ℕ} {attributes : List Attribute} {inside : List Tag} {sizes : List Size}
      → IsCalled name elements.Connection → IsGiven (end_given (codes "src") attributes) src → IsGiven (name_given (codes "src-port") attributes) src_port → IsGiven (end_given (codes "dst") attributes) dst → IsGiven (name_given (codes "dst-port") attributes) dst_port → InConnection room inside sizes
      → Partial room (an_element elements.Connection) (in_connection src src_port dst dst_port sizes at) (opens name attributes at ∷ inside)
  p_size0 : {room at : ℕ} {name : List ℕ} {attributes : List Attribute}
      → IsCalled name elements.Attribute → is_buffer_size attributes ≡ Some true
      → Partial room a_size_of (in_size None at) (opens name attributes at ∷ [])
  p_size1 : {room at : ℕ} {name : List ℕ} {attributes : List Attribute} {inside : List Tag} {t : Tree}
      → IsCalled name elements.Attribute → is_buffer_size attributes ≡ Some true → IsExpr room inside t
      → Partial room a_size_of (in_size (Some t) at) (opens name attributes at ∷ inside)
  p_passed : {room at : ℕ} {name : List ℕ} {attributes : List Attribute} {inside : List Tag} {is : Bool}
      → IsCalled name elements.Attribute → is_buffer_size attributes ≡ Some is → ArePassed room inside
      → Partial room (passed_over is) in_passed (opens name attributes at ∷ inside)
  p_type : {room at place : ℕ} {name text : List ℕ} {attributes : List Attribute} {inside : List Tag} {args : List Tree}
      → IsCalled name elements.Type → type_given attributes ≡ Some (text_at text place) → AreEntries room inside args
      → Partial room (an_element elements.Type) (in_type (ident text place) args at) (opens name attributes at ∷ inside)
  p_value0 : {room at place : ℕ} {name text : List ℕ} {attributes : List Attribute}
      → IsCalled name elements.Entry → either_given (codes "kind") (codes "Expr") (codes "Type") attributes ≡ Some true → entry_given attributes ≡ Some (text_at text place)
      → Partial room (an_element elements.Entry) (in_value (ident text place) None) (opens name attributes at ∷ [])
  p_value1 : {room at place : ℕ} {name text : List ℕ} {attributes : List Attribute} {inside : List Tag} {t : Tree}
      → IsCalled name elements.Entry → either_given (codes "kind") (codes "Expr") (codes "Type") attributes ≡ Some true → entry_given attributes ≡ Some (text_at text place) → IsExpr room inside t
      → Partial room (an_element elements.Entry) (in_value (ident text place) (Some t)) (opens name attributes at ∷ inside)
  p_shape0 : {room at place : ℕ} {name text : List ℕ} {attributes : List Attribute}
      → IsCalled name elements.Entry → either_given (codes "kind") (codes "Expr") (codes "Type") attributes ≡ Some false → entry_given attributes ≡ Some (text_at text place)
      → Partial room (an_element elements.Entry) (in_shape (ident text place) None) (opens name attributes at ∷ [])
  p_shape1 : {room at place : ℕ} {name text : List ℕ} {attributes : List Attribute} {inside : List Tag} {t : Tree}
      → IsCalled name elements.Entry → either_given (codes "kind") (codes "Expr") (codes "Type") attributes ≡ Some false → entry_given attributes ≡ Some (text_at text place) → IsType room inside t
      → Partial room (an_element elements.Entry) (in_shape (ident text place) (Some t)) (opens name attributes at ∷ inside)
  p_list : {room at : ℕ} {name : List ℕ} {attributes : List Attribute} {inside : List Tag} {items : List Tree}
      → IsCalled name elements.Expr → kind_given attributes ≡ Some kinds.List → AreItems room inside items
      → Partial room (an_element elements.Expr) (in_list items at) (opens name attributes at ∷ inside)
  p_unary0 : {room at : ℕ} {name : List ℕ} {attributes : List Attribute}
      → IsCalled name elements.Expr → kind_given attributes ≡ Some kinds.Unary
      → Partial room (an_element elements.Expr) (in_unary None None at) (opens name attributes at ∷ [])
  p_unary1 : {room at : ℕ} {name : List ℕ} {attributes : List Attribute} {inside : List Tag} {op : PrefixOp}
      → IsCalled name elements.Expr → kind_given attributes ≡ Some kinds.Unary → IsPrefixOp room inside op
      → Partial room (an_element elements.Expr) (in_unary (Some op) None at) (opens name attributes at ∷ inside)
  p_unary2 : {room at : ℕ} {name : List ℕ} {attributes : List Attribute} {before inside : List Tag} {op : PrefixOp} {t : Tree}
      → IsCalled name elements.Expr → kind_given attributes ≡ Some kinds.Unary → IsPrefixOp room before op → IsExpr room inside t
      → Partial room (an_element elements.Expr) (in_unary (Some op) (Some t) at) (opens name attributes at ∷ before ++ inside)
  p_row0 : {room at : ℕ} {name : List ℕ} {attributes : List Attribute}
      → IsCalled name elements.Expr → kind_given attributes ≡ Some kinds.Sequence
      → Partial room (an_element elements.Expr) (in_sequence [] None at) (opens name attributes at ∷ [])
  p_row1 : {room at : ℕ} {name : List ℕ} {attributes : List Attribute} {inside : List Tag} {row : List Item} {ws : List Pending} {r : Tree}
      → IsCalled name elements.Expr → kind_given attributes ≡ Some kinds.Sequence → IsRow room inside row → reads row [] None ≡ Some (read ws (Some r))
      → Partial room (an_element elements.Expr) (in_sequence ws (Some r) at) (opens name attributes at ∷ inside)
  p_row2 : {room at : ℕ} {name : List ℕ} {attributes : List Attribute} {before between : List Tag} {row : List Item} {op : BinOp} {ws : List Pending}
      → IsCalled name elements.Expr → kind_given attributes ≡ Some kinds.Sequence → IsRow room before row → IsBinaryOp room between op → reads (row ++ operator op ∷ []) [] None ≡ Some (read ws None)
      → Partial room (an_element elements.Expr) (in_sequence ws None at) (opens name attributes at ∷ before ++ between)

-- an attribute of a connection is a size, or passed over if it isn't; elsewhere each is passed over
abbrev pub Takes : Frame → Kid → Type 0
Takes f (an_element e) = (allows f e ≡ true) × (is_passed f ≡ false)
Takes (in_connection src src_port dst dst_port sizes at) a_size_of = Unit {0}
Takes (in_connection src src_port dst dst_port sizes at) (passed_over false) = Unit {0}
Takes (in_network net) (passed_over is) = Unit {0}
Takes (in_instance id class parameters at) (passed_over is) = Unit {0}
Takes f kid = ⊥

-- the elements that are open, the innermost on top, and the tags of them all
pub data Stands : ℕ → Frame → List Frame → List Tag → Type 0 where
  at_bottom : Stands 64 (outside None) [] []
  at_end : {tags : List Tag} {net : Net} → IsNetwork 64 tags net → Stands 64 (outside (Some net)) [] tags
  on_top : {room : ℕ} {f g : Frame} {bs : List Frame} {kid : Kid} {before inside : List Tag}
      → Stands (suc room) f bs before → Takes f kid → Partial room kid g inside
      → Stands room g (f ∷ bs) (before ++ inside)
  -- what stands in what is passed over
  within_passed : {room : ℕ} {bs : List Frame} {before inside : List Tag} (name : List ℕ) (attributes : List Attribute) (at : ℕ)
      → Stands (suc room) in_passed bs before → ArePassed room inside
      → Stands room in_passed (in_passed ∷ bs) (before ++ opens name attributes at ∷ inside)
  -- an element that has nothing inside and was counted already
  around_nothing : {room : ℕ} {f : Frame} {bs : List Frame} {before : List Tag}
      → ((end : ℕ) → Stands (suc room) f bs (before ++ closes end ∷ [])) → Stands room in_empty (f ∷ bs) before

pub depth : {room : ℕ} {f : Frame} {bs : List Frame} {tags : List Tag} → Stands room f bs tags → length bs + room ≡ 64
depth (at_bottom) = refl
depth (at_end h) = refl
depth (on_top {bs = bs} s u k) = let h = depth s in omega (arith, h)
depth (within_passed {bs = bs} name attributes at s k) = let h = depth s in omega (arith, h)
depth (around_nothing {bs = bs} k) = let h = depth (k 0) in omega (arith, h)

-- more stands in the innermost element
grows : {room : ℕ} {f g : Frame} {bs : List Frame} {kid : Kid} (before inside more : List Tag)
    → Stands (suc room) f bs before → Takes f kid → Partial room kid g (inside ++ more)
    → Stands room g (f ∷ bs) ((before ++ inside) ++ more)
grows {room} {f} {g} {bs} {kid} before inside more s u k = subst (λ x. Stands room g (f ∷ bs) x) (sym (append_assoc before inside more)) (on_top s u k)

-- ---- an element more in what is open

-- an operand behind an operator
p_row2_next : {room at : ℕ} {name : List ℕ} {attributes : List Attribute} {row : List Item} {op : BinOp} {ws : List Pending} {t : Tree} (before between inside : List Tag)
    → IsCalled name elements.Expr → kind_given attributes ≡ Some kinds.Sequence → IsRow room before row → IsBinaryOp room between op → reads (row ++ operator op ∷ []) [] None ≡ Some (read ws None) → IsExpr room inside t
    → Partial room (an_element elements.Expr) (in_sequence ws (Some t) at) ((opens name attributes at ∷ before ++ between) ++ inside)
p_row2_next {room} {at} {name} {attributes} {row} {op} {ws} {t} before between inside c k h o e i =
    let two : (row ++ (operator op ∷ [])) ++ (operand t ∷ []) ≡ row ++ operator op ∷ operand t ∷ [] = append_assoc row (operator op ∷ []) (operand t ∷ []) in
    let is : reads (row ++ operator op ∷ operand t ∷ []) [] None ≡ Some (read ws (Some t)) =
    ap (λ x. reads x [] None) (sym two) ∙ reads_append (row ++ (operator op ∷ [])) (operand t ∷ []) [] None ∙ ap (λ x. then_reads x (operand t ∷ [])) e in
    subst (λ x. Partial room (an_element elements.Expr) (in_sequence ws (Some t) at) (opens name attributes at ∷ x)) (sym (append_assoc before between inside)) (p_row1 c k (the_next h o i) is)

partial_expr : {room : ℕ} {kid : Kid} {g : Frame} {inside more : List Tag} {t : Tree} → Partial room kid g inside → allows g elements.Expr ≡ true → is_passed g ≡ false → IsExpr room more t → Partial room kid (with_expr t g) (inside ++ more)
partial_expr (p_net {room = room} {name = name} {attributes = attributes} {inside = inside} {net = net} h1 h2 h3) a p k = absurd cc
partial_expr (p_port0 {room = room} {at = at} {name = name} {text = text} {attributes = attributes} {input = input} h1 h2 h3) a p k = absurd cc
partial_expr (p_port1 {room = room} {at = at} {name = name} {text = text} {attributes = attributes} {inside = inside} {input = input} {shape = shape} h1 h2 h3 h4) a p k = absurd cc
partial_expr (p_decl {room = room} {at = at} {name = name} {text = text} {attributes = attributes} {inside = inside} {param = param} {shape = shape} {value = None} h1 h2 h3 h4) a p k = p_decl h1 h2 h3 (value_declared h4 k)
partial_expr (p_decl {room = room} {at = at} {name = name} {text = text} {attributes = attributes} {inside = inside} {param = param} {shape = None} {value = (Some v)} h1 h2 h3 h4) a p k = absurd cc
partial_expr (p_decl {room = room} {at = at} {name = name} {text = text} {attributes = attributes} {inside = inside} {param = param} {shape = (Some s)} {value = (Some v)} h1 h2 h3 h4) a p k = absurd cc
partial_expr (p_inst {room = room} {at = at} {name = name} {text = text} {attributes = attributes} {inside = inside} {class = None} {parameters = parameters} h1 h2 h3) a p k = absurd cc
partial_expr (p_inst {room = room} {at = at} {name = name} {text = text} {attributes = attributes} {inside = inside} {class = (Some x)} {parameters = parameters} h1 h2 h3) a p k = absurd cc
partial_expr (p_param0 {room = room} {at = at} {name = name} {text = text} {attributes = attributes} h1 h2) a p k = p_param1 h1 h2 k
partial_expr (p_param1 {room = room} {at = at} {name = name} {text = text} {attributes = attributes} {inside = inside} {t = t} h1 h2 h3) a p k = absurd cc
partial_expr (p_conn {room = room} {at = at} {name = name} {src = src} {src_port = src_port} {dst = dst} {dst_port = dst_port} {attributes = attributes} {inside = inside} {sizes = sizes} h1 h2 h3 h4 h5 h6) a p k = absurd cc
partial_expr (p_size0 {room = room} {at = at} {name = name} {attributes = attributes} h1 h2) a p k = p_size1 h1 h2 k
partial_expr (p_size1 {room = room} {at = at} {name = name} {attributes = attributes} {inside = inside} {t = t} h1 h2 h3) a p k = absurd cc
partial_expr (p_passed {room = room} {at = at} {name = name} {attributes = attributes} {inside = inside} {is = is} h1 h2 h3) a p k = absurd cc
partial_expr (p_type {room = room} {at = at} {place = place} {name = name} {text = text} {attributes = attributes} {inside = inside} {args = args} h1 h2 h3) a p k = absurd cc
partial_expr (p_value0 {room = room} {at = at} {place = place} {name = name} {text = text} {attributes = attributes} h1 h2 h3) a p k = p_value1 h1 h2 h3 k
partial_expr (p_value1 {room = room} {at = at} {place = place} {name = name} {text = text} {attributes = attributes} {inside = inside} {t = t} h1 h2 h3 h4) a p k = absurd cc
partial_expr (p_shape0 {room = room} {at = at} {place = place} {name = name} {text = text} {attributes = attributes} h1 h2 h3) a p k = absurd cc
partial_expr (p_shape1 {room = room} {at = at} {place = place} {name = name} {text = text} {attributes = attributes} {inside = inside} {t = t} h1 h2 h3 h4) a p k = absurd cc
partial_expr (p_list {room = room} {at = at} {name = name} {attributes = attributes} {inside = inside} {items = items} h1 h2 h3) a p k = p_list h1 h2 (one_item_more h3 k)
partial_expr (p_unary0 {room = room} {at = at} {name = name} {attributes = attributes} h1 h2) a p k = absurd cc
partial_expr (p_unary1 {room = room} {at = at} {name = name} {attributes = attributes} {inside = inside} {op = op} h1 h2 h3) a p k = p_unary2 h1 h2 h3 k
partial_expr (p_unary2 {room = room} {at = at} {name = name} {attributes = attributes} {before = before} {inside = inside} {op = op} {t = t} h1 h2 h3 h4) a p k = absurd cc
partial_expr (p_row0 {room = room} {at = at} {name = name} {attributes = attributes} h1 h2) a p k = p_row1 h1 h2 (the_first k) refl
partial_expr (p_row1 {room = room} {at = at} {name = name} {attributes = attributes} {inside = inside} {row = row} {ws = ws} {r = r} h1 h2 h3 h4) a p k = absurd cc
partial_expr (p_row2 {room = room} {at = at} {name = name} {attributes = attributes} {before = before} {between = between} {row = row} {op = op} {ws = ws} h1 h2 h3 h4 h5) a p k = p_row2_next before between _ h1 h2 h3 h4 h5 k

pub absorb_expr : {room : ℕ} {f : Frame} {bs : List Frame} {tags more : List Tag} {t : Tree} → Stands room f bs tags → allows f elements.Expr ≡ true → is_passed f ≡ false → IsExpr room more t → Stands room (with_expr t f) bs (tags ++ more)
absorb_expr (at_bottom) a p k = absurd cc
absorb_expr (at_end h) a p k = absurd cc
absorb_expr (within_passed name attributes at s h) a p k = absurd cc
absorb_expr (around_nothing h) a p k = absurd cc
absorb_expr (on_top {before = before} {inside = inside} s u h) a p k = grows before inside _ s u (partial_expr h a p k)

partial_type : {room : ℕ} {kid : Kid} {g : Frame} {inside more : List Tag} {t : Tree} → Partial room kid g inside → allows g elements.Type ≡ true → is_passed g ≡ false → IsType room more t → Partial room kid (with_type t g) (inside ++ more)
partial_type (p_net {room = room} {name = name} {attributes = attributes} {inside = inside} {net = net} h1 h2 h3) a p k = absurd cc
partial_type (p_port0 {room = room} {at = at} {name = name} {text = text} {attributes = attributes} {input = input} h1 h2 h3) a p k = p_port1 h1 h2 h3 k
partial_type (p_port1 {room = room} {at = at} {name = name} {text = text} {attributes = attributes} {inside = inside} {input = input} {shape = shape} h1 h2 h3 h4) a p k = absurd cc
partial_type (p_decl {room = room} {at = at} {name = name} {text = text} {attributes = attributes} {inside = inside} {param = param} {shape = None} {value = value} h1 h2 h3 h4) a p k = p_decl h1 h2 h3 (type_declared h4 k)
partial_type (p_decl {room = room} {at = at} {name = name} {text = text} {attributes = attributes} {inside = inside} {param = param} {shape = (Some s)} {value = value} h1 h2 h3 h4) a p k = absurd cc
partial_type (p_inst {room = room} {at = at} {name = name} {text = text} {attributes = attributes} {inside = inside} {class = None} {parameters = parameters} h1 h2 h3) a p k = absurd cc
partial_type (p_inst {room = room} {at = at} {name = name} {text = text} {attributes = attributes} {inside = inside} {class = (Some x)} {parameters = parameters} h1 h2 h3) a p k = absurd cc
partial_type (p_param0 {room = room} {at = at} {name = name} {text = text} {attributes = attributes} h1 h2) a p k = absurd cc
partial_type (p_param1 {room = room} {at = at} {name = name} {text = text} {attributes = attributes} {inside = inside} {t = t} h1 h2 h3) a p k = absurd cc
partial_type (p_conn {room = room} {at = at} {name = name} {src = src} {src_port = src_port} {dst = dst} {dst_port = dst_port} {attributes = attributes} {inside = inside} {sizes = sizes} h1 h2 h3 h4 h5 h6) a p k = absurd cc
partial_type (p_size0 {room = room} {at = at} {name = name} {attributes = attributes} h1 h2) a p k = absurd cc
partial_type (p_size1 {room = room} {at = at} {name = name} {attributes = attributes} {inside = inside} {t = t} h1 h2 h3) a p k = absurd cc
partial_type (p_passed {room = room} {at = at} {name = name} {attributes = attributes} {inside = inside} {is = is} h1 h2 h3) a p k = absurd cc
partial_type (p_type {room = room} {at = at} {place = place} {name = name} {text = text} {attributes = attributes} {inside = inside} {args = args} h1 h2 h3) a p k = absurd cc
partial_type (p_value0 {room = room} {at = at} {place = place} {name = name} {text = text} {attributes = attributes} h1 h2 h3) a p k = absurd cc
partial_type (p_value1 {room = room} {at = at} {place = place} {name = name} {text = text} {attributes = attributes} {inside = inside} {t = t} h1 h2 h3 h4) a p k = absurd cc
partial_type (p_shape0 {room = room} {at = at} {place = place} {name = name} {text = text} {attributes = attributes} h1 h2 h3) a p k = p_shape1 h1 h2 h3 k
partial_type (p_shape1 {room = room} {at = at} {place = place} {name = name} {text = text} {attributes = attributes} {inside = inside} {t = t} h1 h2 h3 h4) a p k = absurd cc
partial_type (p_list {room = room} {at = at} {name = name} {attributes = attributes} {inside = inside} {items = items} h1 h2 h3) a p k = absurd cc
partial_type (p_unary0 {room = room} {at = at} {name = name} {attributes = attributes} h1 h2) a p k = absurd cc
partial_type (p_unary1 {room = room} {at = at} {name = name} {attributes = attributes} {inside = inside} {op = op} h1 h2 h3) a p k = absurd cc
partial_type (p_unary2 {room = room} {at = at} {name = name} {attributes = attributes} {before = before} {inside = inside} {op = op} {t = t} h1 h2 h3 h4) a p k = absurd cc
partial_type (p_row0 {room = room} {at = at} {name = name} {attributes = attributes} h1 h2) a p k = absurd cc
partial_type (p_row1 {room = room} {at = at} {name = name} {attributes = attributes} {inside = inside} {row = row} {ws = ws} {r = r} h1 h2 h3 h4) a p k = absurd cc
partial_type (p_row2 {room = room} {at = at} {name = name} {attributes = attributes} {before = before} {between = between} {row = row} {op = op} {ws = ws} h1 h2 h3 h4 h5) a p k = absurd cc

pub absorb_type : {room : ℕ} {f : Frame} {bs : List Frame} {tags more : List Tag} {t : Tree} → Stands room f bs tags → allows f elements.Type ≡ true → is_passed f ≡ false → IsType room more t → Stands room (with_type t f) bs (tags ++ more)
absorb_type (at_bottom) a p k = absurd cc
absorb_type (at_end h) a p k = absurd cc
absorb_type (within_passed name attributes at s h) a p k = absurd cc
absorb_type (around_nothing h) a p k = absurd cc
absorb_type (on_top {before = before} {inside = inside} s u h) a p k = grows before inside _ s u (partial_type h a p k)

partial_entry : {room : ℕ} {kid : Kid} {g : Frame} {inside more : List Tag} {t : Tree} → Partial room kid g inside → allows g elements.Entry ≡ true → is_passed g ≡ false → IsEntry room more t → Partial room kid (with_arg t g) (inside ++ more)
partial_entry (p_net {room = room} {name = name} {attributes = attributes} {inside = inside} {net = net} h1 h2 h3) a p k = absurd cc
partial_entry (p_port0 {room = room} {at = at} {name = name} {text = text} {attributes = attributes} {input = input} h1 h2 h3) a p k = absurd cc
partial_entry (p_port1 {room = room} {at = at} {name = name} {text = text} {attributes = attributes} {inside = inside} {input = input} {shape = shape} h1 h2 h3 h4) a p k = absurd cc
partial_entry (p_decl {room = room} {at = at} {name = name} {text = text} {attributes = attributes} {inside = inside} {param = param} {shape = None} {value = None} h1 h2 h3 h4) a p k = absurd cc
partial_entry (p_decl {room = room} {at = at} {name = name} {text = text} {attributes = attributes} {inside = inside} {param = param} {shape = None} {value = (Some v)} h1 h2 h3 h4) a p k = absurd cc
partial_entry (p_decl {room = room} {at = at} {name = name} {text = text} {attributes = attributes} {inside = inside} {param = param} {shape = (Some s)} {value = None} h1 h2 h3 h4) a p k = absurd cc
partial_entry (p_decl {room = room} {at = at} {name = name} {text = text} {attributes = attributes} {inside = inside} {param = param} {shape = (Some s)} {value = (Some v)} h1 h2 h3 h4) a p k = absurd cc
partial_entry (p_inst {room = room} {at = at} {name = name} {text = text} {attributes = attributes} {inside = inside} {class = None} {parameters = parameters} h1 h2 h3) a p k = absurd cc
partial_entry (p_inst {room = room} {at = at} {name = name} {text = text} {attributes = attributes} {inside = inside} {class = (Some x)} {parameters = parameters} h1 h2 h3) a p k = absurd cc
partial_entry (p_param0 {room = room} {at = at} {name = name} {text = text} {attributes = attributes} h1 h2) a p k = absurd cc
partial_entry (p_param1 {room = room} {at = at} {name = name} {text = text} {attributes = attributes} {inside = inside} {t = t} h1 h2 h3) a p k = absurd cc
partial_entry (p_conn {room = room} {at = at} {name = name} {src = src} {src_port = src_port} {dst = dst} {dst_port = dst_port} {attributes = attributes} {inside = inside} {sizes = sizes} h1 h2 h3 h4 h5 h6) a p k = absurd cc
partial_entry (p_size0 {room = room} {at = at} {name = name} {attributes = attributes} h1 h2) a p k = absurd cc
partial_entry (p_size1 {room = room} {at = at} {name = name} {attributes = attributes} {inside = inside} {t = t} h1 h2 h3) a p k = absurd cc
partial_entry (p_passed {room = room} {at = at} {name = name} {attributes = attributes} {inside = inside} {is = is} h1 h2 h3) a p k = absurd cc
partial_entry (p_type {room = room} {at = at} {place = place} {name = name} {text = text} {attributes = attributes} {inside = inside} {args = args} h1 h2 h3) a p k = p_type h1 h2 (one_entry_more h3 k)
partial_entry (p_value0 {room = room} {at = at} {place = place} {name = name} {text = text} {attributes = attributes} h1 h2 h3) a p k = absurd cc
partial_entry (p_value1 {room = room} {at = at} {place = place} {name = name} {text = text} {attributes = attributes} {inside = inside} {t = t} h1 h2 h3 h4) a p k = absurd cc
partial_entry (p_shape0 {room = room} {at = at} {place = place} {name = name} {text = text} {attributes = attributes} h1 h2 h3) a p k = absurd cc
partial_entry (p_shape1 {room = room} {at = at} {place = place} {name = name} {text = text} {attributes = attributes} {inside = inside} {t = t} h1 h2 h3 h4) a p k = absurd cc
partial_entry (p_list {room = room} {at = at} {name = name} {attributes = attributes} {inside = inside} {items = items} h1 h2 h3) a p k = absurd cc
partial_entry (p_unary0 {room = room} {at = at} {name = name} {attributes = attributes} h1 h2) a p k = absurd cc
partial_entry (p_unary1 {room = room} {at = at} {name = name} {attributes = attributes} {inside = inside} {op = op} h1 h2 h3) a p k = absurd cc
partial_entry (p_unary2 {room = room} {at = at} {name = name} {attributes = attributes} {before = before} {inside = inside} {op = op} {t = t} h1 h2 h3 h4) a p k = absurd cc
partial_entry (p_row0 {room = room} {at = at} {name = name} {attributes = attributes} h1 h2) a p k = absurd cc
partial_entry (p_row1 {room = room} {at = at} {name = name} {attributes = attributes} {inside = inside} {row = row} {ws = ws} {r = r} h1 h2 h3 h4) a p k = absurd cc
partial_entry (p_row2 {room = room} {at = at} {name = name} {attributes = attributes} {before = before} {between = between} {row = row} {op = op} {ws = ws} h1 h2 h3 h4 h5) a p k = absurd cc

pub absorb_entry : {room : ℕ} {f : Frame} {bs : List Frame} {tags more : List Tag} {t : Tree} → Stands room f bs tags → allows f elements.Entry ≡ true → is_passed f ≡ false → IsEntry room more t → Stands room (with_arg t f) bs (tags ++ more)
absorb_entry (at_bottom) a p k = absurd cc
absorb_entry (at_end h) a p k = absurd cc
absorb_entry (within_passed name attributes at s h) a p k = absurd cc
absorb_entry (around_nothing h) a p k = absurd cc
absorb_entry (on_top {before = before} {inside = inside} s u h) a p k = grows before inside _ s u (partial_entry h a p k)

partial_class : {room : ℕ} {kid : Kid} {g : Frame} {inside more : List Tag} {text : List ℕ} {at : ℕ} → Partial room kid g inside → allows g elements.Class ≡ true → is_passed g ≡ false → IsClass room more text at → Partial room kid (with_class (a_class text at) g) (inside ++ more)
partial_class (p_net {room = room} {name = name} {attributes = attributes} {inside = inside} {net = net} h1 h2 h3) a p k = absurd cc
partial_class (p_port0 {room = room} {at = at} {name = name} {text = text} {attributes = attributes} {input = input} h1 h2 h3) a p k = absurd cc
partial_class (p_port1 {room = room} {at = at} {name = name} {text = text} {attributes = attributes} {inside = inside} {input = input} {shape = shape} h1 h2 h3 h4) a p k = absurd cc
partial_class (p_decl {room = room} {at = at} {name = name} {text = text} {attributes = attributes} {inside = inside} {param = param} {shape = None} {value = None} h1 h2 h3 h4) a p k = absurd cc
partial_class (p_decl {room = room} {at = at} {name = name} {text = text} {attributes = attributes} {inside = inside} {param = param} {shape = None} {value = (Some v)} h1 h2 h3 h4) a p k = absurd cc
partial_class (p_decl {room = room} {at = at} {name = name} {text = text} {attributes = attributes} {inside = inside} {param = param} {shape = (Some s)} {value = None} h1 h2 h3 h4) a p k = absurd cc
partial_class (p_decl {room = room} {at = at} {name = name} {text = text} {attributes = attributes} {inside = inside} {param = param} {shape = (Some s)} {value = (Some v)} h1 h2 h3 h4) a p k = absurd cc
partial_class (p_inst {room = room} {at = at} {name = name} {text = text} {attributes = attributes} {inside = inside} {class = None} {parameters = parameters} h1 h2 h3) a p k = p_inst h1 h2 (and_class h3 k)
partial_class (p_inst {room = room} {at = at} {name = name} {text = text} {attributes = attributes} {inside = inside} {class = (Some x)} {parameters = parameters} h1 h2 h3) a p k = absurd cc
partial_class (p_param0 {room = room} {at = at} {name = name} {text = text} {attributes = attributes} h1 h2) a p k = absurd cc
partial_class (p_param1 {room = room} {at = at} {name = name} {text = text} {attributes = attributes} {inside = inside} {t = t} h1 h2 h3) a p k = absurd cc
partial_class (p_conn {room = room} {at = at} {name = name} {src = src} {src_port = src_port} {dst = dst} {dst_port = dst_port} {attributes = attributes} {inside = inside} {sizes = sizes} h1 h2 h3 h4 h5 h6) a p k = absurd cc
partial_class (p_size0 {room = room} {at = at} {name = name} {attributes = attributes} h1 h2) a p k = absurd cc
partial_class (p_size1 {room = room} {at = at} {name = name} {attributes = attributes} {inside = inside} {t = t} h1 h2 h3) a p k = absurd cc
partial_class (p_passed {room = room} {at = at} {name = name} {attributes = attributes} {inside = inside} {is = is} h1 h2 h3) a p k = absurd cc
partial_class (p_type {room = room} {at = at} {place = place} {name = name} {text = text} {attributes = attributes} {inside = inside} {args = args} h1 h2 h3) a p k = absurd cc
partial_class (p_value0 {room = room} {at = at} {place = place} {name = name} {text = text} {attributes = attributes} h1 h2 h3) a p k = absurd cc
partial_class (p_value1 {room = room} {at = at} {place = place} {name = name} {text = text} {attributes = attributes} {inside = inside} {t = t} h1 h2 h3 h4) a p k = absurd cc
partial_class (p_shape0 {room = room} {at = at} {place = place} {name = name} {text = text} {attributes = attributes} h1 h2 h3) a p k = absurd cc
partial_class (p_shape1 {room = room} {at = at} {place = place} {name = name} {text = text} {attributes = attributes} {inside = inside} {t = t} h1 h2 h3 h4) a p k = absurd cc
partial_class (p_list {room = room} {at = at} {name = name} {attributes = attributes} {inside = inside} {items = items} h1 h2 h3) a p k = absurd cc
partial_class (p_unary0 {room = room} {at = at} {name = name} {attributes = attributes} h1 h2) a p k = absurd cc
partial_class (p_unary1 {room = room} {at = at} {name = name} {attributes = attributes} {inside = inside} {op = op} h1 h2 h3) a p k = absurd cc
partial_class (p_unary2 {room = room} {at = at} {name = name} {attributes = attributes} {before = before} {inside = inside} {op = op} {t = t} h1 h2 h3 h4) a p k = absurd cc
partial_class (p_row0 {room = room} {at = at} {name = name} {attributes = attributes} h1 h2) a p k = absurd cc
partial_class (p_row1 {room = room} {at = at} {name = name} {attributes = attributes} {inside = inside} {row = row} {ws = ws} {r = r} h1 h2 h3 h4) a p k = absurd cc
partial_class (p_row2 {room = room} {at = at} {name = name} {attributes = attributes} {before = before} {between = between} {row = row} {op = op} {ws = ws} h1 h2 h3 h4 h5) a p k = absurd cc

pub absorb_class : {room : ℕ} {f : Frame} {bs : List Frame} {tags more : List Tag} {text : List ℕ} {at : ℕ} → Stands room f bs tags → allows f elements.Class ≡ true → is_passed f ≡ false → IsClass room more text at → Stands room (with_class (a_class text at) f) bs (tags ++ more)
absorb_class (at_bottom) a p k = absurd cc
absorb_class (at_end h) a p k = absurd cc
absorb_class (within_passed name attributes at s h) a p k = absurd cc
absorb_class (around_nothing h) a p k = absurd cc
absorb_class (on_top {before = before} {inside = inside} s u h) a p k = grows before inside _ s u (partial_class h a p k)

partial_parameter : {room : ℕ} {kid : Kid} {g : Frame} {inside more : List Tag} {x : Parameter} → Partial room kid g inside → allows g elements.Parameter ≡ true → is_passed g ≡ false → IsParameter room more x → Partial room kid (with_parameter x g) (inside ++ more)
partial_parameter (p_net {room = room} {name = name} {attributes = attributes} {inside = inside} {net = net} h1 h2 h3) a p k = absurd cc
partial_parameter (p_port0 {room = room} {at = at} {name = name} {text = text} {attributes = attributes} {input = input} h1 h2 h3) a p k = absurd cc
partial_parameter (p_port1 {room = room} {at = at} {name = name} {text = text} {attributes = attributes} {inside = inside} {input = input} {shape = shape} h1 h2 h3 h4) a p k = absurd cc
partial_parameter (p_decl {room = room} {at = at} {name = name} {text = text} {attributes = attributes} {inside = inside} {param = param} {shape = None} {value = None} h1 h2 h3 h4) a p k = absurd cc
partial_parameter (p_decl {room = room} {at = at} {name = name} {text = text} {attributes = attributes} {inside = inside} {param = param} {shape = None} {value = (Some v)} h1 h2 h3 h4) a p k = absurd cc
partial_parameter (p_decl {room = room} {at = at} {name = name} {text = text} {attributes = attributes} {inside = inside} {param = param} {shape = (Some s)} {value = None} h1 h2 h3 h4) a p k = absurd cc
partial_parameter (p_decl {room = room} {at = at} {name = name} {text = text} {attributes = attributes} {inside = inside} {param = param} {shape = (Some s)} {value = (Some v)} h1 h2 h3 h4) a p k = absurd cc
partial_parameter (p_inst {room = room} {at = at} {name = name} {text = text} {attributes = attributes} {inside = inside} {class = class} {parameters = parameters} h1 h2 h3) a p k = p_inst h1 h2 (and_parameter h3 k)
partial_parameter (p_param0 {room = room} {at = at} {name = name} {text = text} {attributes = attributes} h1 h2) a p k = absurd cc
partial_parameter (p_param1 {room = room} {at = at} {name = name} {text = text} {attributes = attributes} {inside = inside} {t = t} h1 h2 h3) a p k = absurd cc
partial_parameter (p_conn {room = room} {at = at} {name = name} {src = src} {src_port = src_port} {dst = dst} {dst_port = dst_port} {attributes = attributes} {inside = inside} {sizes = sizes} h1 h2 h3 h4 h5 h6) a p k = absurd cc
partial_parameter (p_size0 {room = room} {at = at} {name = name} {attributes = attributes} h1 h2) a p k = absurd cc
partial_parameter (p_size1 {room = room} {at = at} {name = name} {attributes = attributes} {inside = inside} {t = t} h1 h2 h3) a p k = absurd cc
partial_parameter (p_passed {room = room} {at = at} {name = name} {attributes = attributes} {inside = inside} {is = is} h1 h2 h3) a p k = absurd cc
partial_parameter (p_type {room = room} {at = at} {place = place} {name = name} {text = text} {attributes = attributes} {inside = inside} {args = args} h1 h2 h3) a p k = absurd cc
partial_parameter (p_value0 {room = room} {at = at} {place = place} {name = name} {text = text} {attributes = attributes} h1 h2 h3) a p k = absurd cc
partial_parameter (p_value1 {room = room} {at = at} {place = place} {name = name} {text = text} {attributes = attributes} {inside = inside} {t = t} h1 h2 h3 h4) a p k = absurd cc
partial_parameter (p_shape0 {room = room} {at = at} {place = place} {name = name} {text = text} {attributes = attributes} h1 h2 h3) a p k = absurd cc
partial_parameter (p_shape1 {room = room} {at = at} {place = place} {name = name} {text = text} {attributes = attributes} {inside = inside} {t = t} h1 h2 h3 h4) a p k = absurd cc
partial_parameter (p_list {room = room} {at = at} {name = name} {attributes = attributes} {inside = inside} {items = items} h1 h2 h3) a p k = absurd cc
partial_parameter (p_unary0 {room = room} {at = at} {name = name} {attributes = attributes} h1 h2) a p k = absurd cc
partial_parameter (p_unary1 {room = room} {at = at} {name = name} {attributes = attributes} {inside = inside} {op = op} h1 h2 h3) a p k = absurd cc
partial_parameter (p_unary2 {room = room} {at = at} {name = name} {attributes = attributes} {before = before} {inside = inside} {op = op} {t = t} h1 h2 h3 h4) a p k = absurd cc
partial_parameter (p_row0 {room = room} {at = at} {name = name} {attributes = attributes} h1 h2) a p k = absurd cc
partial_parameter (p_row1 {room = room} {at = at} {name = name} {attributes = attributes} {inside = inside} {row = row} {ws = ws} {r = r} h1 h2 h3 h4) a p k = absurd cc
partial_parameter (p_row2 {room = room} {at = at} {name = name} {attributes = attributes} {before = before} {between = between} {row = row} {op = op} {ws = ws} h1 h2 h3 h4 h5) a p k = absurd cc

pub absorb_parameter : {room : ℕ} {f : Frame} {bs : List Frame} {tags more : List Tag} {x : Parameter} → Stands room f bs tags → allows f elements.Parameter ≡ true → is_passed f ≡ false → IsParameter room more x → Stands room (with_parameter x f) bs (tags ++ more)
absorb_parameter (at_bottom) a p k = absurd cc
absorb_parameter (at_end h) a p k = absurd cc
absorb_parameter (within_passed name attributes at s h) a p k = absurd cc
absorb_parameter (around_nothing h) a p k = absurd cc
absorb_parameter (on_top {before = before} {inside = inside} s u h) a p k = grows before inside _ s u (partial_parameter h a p k)

partial_port : {room : ℕ} {kid : Kid} {g : Frame} {inside more : List Tag} {x : Port} → Partial room kid g inside → allows g elements.Port ≡ true → is_passed g ≡ false → IsPort room more x → Partial room kid (with_port x g) (inside ++ more)
partial_port (p_net {room = room} {name = name} {attributes = attributes} {inside = inside} {net = net} h1 h2 h3) a p k = p_net h1 h2 (with_a_port h3 k)
partial_port (p_port0 {room = room} {at = at} {name = name} {text = text} {attributes = attributes} {input = input} h1 h2 h3) a p k = absurd cc
partial_port (p_port1 {room = room} {at = at} {name = name} {text = text} {attributes = attributes} {inside = inside} {input = input} {shape = shape} h1 h2 h3 h4) a p k = absurd cc
partial_port (p_decl {room = room} {at = at} {name = name} {text = text} {attributes = attributes} {inside = inside} {param = param} {shape = None} {value = None} h1 h2 h3 h4) a p k = absurd cc
partial_port (p_decl {room = room} {at = at} {name = name} {text = text} {attributes = attributes} {inside = inside} {param = param} {shape = None} {value = (Some v)} h1 h2 h3 h4) a p k = absurd cc
partial_port (p_decl {room = room} {at = at} {name = name} {text = text} {attributes = attributes} {inside = inside} {param = param} {shape = (Some s)} {value = None} h1 h2 h3 h4) a p k = absurd cc
partial_port (p_decl {room = room} {at = at} {name = name} {text = text} {attributes = attributes} {inside = inside} {param = param} {shape = (Some s)} {value = (Some v)} h1 h2 h3 h4) a p k = absurd cc
partial_port (p_inst {room = room} {at = at} {name = name} {text = text} {attributes = attributes} {inside = inside} {class = None} {parameters = parameters} h1 h2 h3) a p k = absurd cc
partial_port (p_inst {room = room} {at = at} {name = name} {text = text} {attributes = attributes} {inside = inside} {class = (Some x)} {parameters = parameters} h1 h2 h3) a p k = absurd cc
partial_port (p_param0 {room = room} {at = at} {name = name} {text = text} {attributes = attributes} h1 h2) a p k = absurd cc
partial_port (p_param1 {room = room} {at = at} {name = name} {text = text} {attributes = attributes} {inside = inside} {t = t} h1 h2 h3) a p k = absurd cc
partial_port (p_conn {room = room} {at = at} {name = name} {src = src} {src_port = src_port} {dst = dst} {dst_port = dst_port} {attributes = attributes} {inside = inside} {sizes = sizes} h1 h2 h3 h4 h5 h6) a p k = absurd cc
partial_port (p_size0 {room = room} {at = at} {name = name} {attributes = attributes} h1 h2) a p k = absurd cc
partial_port (p_size1 {room = room} {at = at} {name = name} {attributes = attributes} {inside = inside} {t = t} h1 h2 h3) a p k = absurd cc
partial_port (p_passed {room = room} {at = at} {name = name} {attributes = attributes} {inside = inside} {is = is} h1 h2 h3) a p k = absurd cc
partial_port (p_type {room = room} {at = at} {place = place} {name = name} {text = text} {attributes = attributes} {inside = inside} {args = args} h1 h2 h3) a p k = absurd cc
partial_port (p_value0 {room = room} {at = at} {place = place} {name = name} {text = text} {attributes = attributes} h1 h2 h3) a p k = absurd cc
partial_port (p_value1 {room = room} {at = at} {place = place} {name = name} {text = text} {attributes = attributes} {inside = inside} {t = t} h1 h2 h3 h4) a p k = absurd cc
partial_port (p_shape0 {room = room} {at = at} {place = place} {name = name} {text = text} {attributes = attributes} h1 h2 h3) a p k = absurd cc
partial_port (p_shape1 {room = room} {at = at} {place = place} {name = name} {text = text} {attributes = attributes} {inside = inside} {t = t} h1 h2 h3 h4) a p k = absurd cc
partial_port (p_list {room = room} {at = at} {name = name} {attributes = attributes} {inside = inside} {items = items} h1 h2 h3) a p k = absurd cc
partial_port (p_unary0 {room = room} {at = at} {name = name} {attributes = attributes} h1 h2) a p k = absurd cc
partial_port (p_unary1 {room = room} {at = at} {name = name} {attributes = attributes} {inside = inside} {op = op} h1 h2 h3) a p k = absurd cc
partial_port (p_unary2 {room = room} {at = at} {name = name} {attributes = attributes} {before = before} {inside = inside} {op = op} {t = t} h1 h2 h3 h4) a p k = absurd cc
partial_port (p_row0 {room = room} {at = at} {name = name} {attributes = attributes} h1 h2) a p k = absurd cc
partial_port (p_row1 {room = room} {at = at} {name = name} {attributes = attributes} {inside = inside} {row = row} {ws = ws} {r = r} h1 h2 h3 h4) a p k = absurd cc
partial_port (p_row2 {room = room} {at = at} {name = name} {attributes = attributes} {before = before} {between = between} {row = row} {op = op} {ws = ws} h1 h2 h3 h4 h5) a p k = absurd cc

pub absorb_port : {room : ℕ} {f : Frame} {bs : List Frame} {tags more : List Tag} {x : Port} → Stands room f bs tags → allows f elements.Port ≡ true → is_passed f ≡ false → IsPort room more x → Stands room (with_port x f) bs (tags ++ more)
absorb_port (at_bottom) a p k = absurd cc
absorb_port (at_end h) a p k = absurd cc
absorb_port (within_passed name attributes at s h) a p k = absurd cc
absorb_port (around_nothing h) a p k = absurd cc
absorb_port (on_top {before = before} {inside = inside} s u h) a p k = grows before inside _ s u (partial_port h a p k)

partial_decl : {room : ℕ} {kid : Kid} {g : Frame} {inside more : List Tag} {x : Decl} → Partial room kid g inside → allows g elements.Decl ≡ true → is_passed g ≡ false → IsDecl room more x → Partial room kid (with_decl x g) (inside ++ more)
partial_decl (p_net {room = room} {name = name} {attributes = attributes} {inside = inside} {net = net} h1 h2 h3) a p k = p_net h1 h2 (with_a_decl h3 k)
partial_decl (p_port0 {room = room} {at = at} {name = name} {text = text} {attributes = attributes} {input = input} h1 h2 h3) a p k = absurd cc
partial_decl (p_port1 {room = room} {at = at} {name = name} {text = text} {attributes = attributes} {inside = inside} {input = input} {shape = shape} h1 h2 h3 h4) a p k = absurd cc
partial_decl (p_decl {room = room} {at = at} {name = name} {text = text} {attributes = attributes} {inside = inside} {param = param} {shape = None} {value = None} h1 h2 h3 h4) a p k = absurd cc
partial_decl (p_decl {room = room} {at = at} {name = name} {text = text} {attributes = attributes} {inside = inside} {param = param} {shape = None} {value = (Some v)} h1 h2 h3 h4) a p k = absurd cc
partial_decl (p_decl {room = room} {at = at} {name = name} {text = text} {attributes = attributes} {inside = inside} {param = param} {shape = (Some s)} {value = None} h1 h2 h3 h4) a p k = absurd cc
partial_decl (p_decl {room = room} {at = at} {name = name} {text = text} {attributes = attributes} {inside = inside} {param = param} {shape = (Some s)} {value = (Some v)} h1 h2 h3 h4) a p k = absurd cc
partial_decl (p_inst {room = room} {at = at} {name = name} {text = text} {attributes = attributes} {inside = inside} {class = None} {parameters = parameters} h1 h2 h3) a p k = absurd cc
partial_decl (p_inst {room = room} {at = at} {name = name} {text = text} {attributes = attributes} {inside = inside} {class = (Some x)} {parameters = parameters} h1 h2 h3) a p k = absurd cc
partial_decl (p_param0 {room = room} {at = at} {name = name} {text = text} {attributes = attributes} h1 h2) a p k = absurd cc
partial_decl (p_param1 {room = room} {at = at} {name = name} {text = text} {attributes = attributes} {inside = inside} {t = t} h1 h2 h3) a p k = absurd cc
partial_decl (p_conn {room = room} {at = at} {name = name} {src = src} {src_port = src_port} {dst = dst} {dst_port = dst_port} {attributes = attributes} {inside = inside} {sizes = sizes} h1 h2 h3 h4 h5 h6) a p k = absurd cc
partial_decl (p_size0 {room = room} {at = at} {name = name} {attributes = attributes} h1 h2) a p k = absurd cc
partial_decl (p_size1 {room = room} {at = at} {name = name} {attributes = attributes} {inside = inside} {t = t} h1 h2 h3) a p k = absurd cc
partial_decl (p_passed {room = room} {at = at} {name = name} {attributes = attributes} {inside = inside} {is = is} h1 h2 h3) a p k = absurd cc
partial_decl (p_type {room = room} {at = at} {place = place} {name = name} {text = text} {attributes = attributes} {inside = inside} {args = args} h1 h2 h3) a p k = absurd cc
partial_decl (p_value0 {room = room} {at = at} {place = place} {name = name} {text = text} {attributes = attributes} h1 h2 h3) a p k = absurd cc
partial_decl (p_value1 {room = room} {at = at} {place = place} {name = name} {text = text} {attributes = attributes} {inside = inside} {t = t} h1 h2 h3 h4) a p k = absurd cc
partial_decl (p_shape0 {room = room} {at = at} {place = place} {name = name} {text = text} {attributes = attributes} h1 h2 h3) a p k = absurd cc
partial_decl (p_shape1 {room = room} {at = at} {place = place} {name = name} {text = text} {attributes = attributes} {inside = inside} {t = t} h1 h2 h3 h4) a p k = absurd cc
partial_decl (p_list {room = room} {at = at} {name = name} {attributes = attributes} {inside = inside} {items = items} h1 h2 h3) a p k = absurd cc
partial_decl (p_unary0 {room = room} {at = at} {name = name} {attributes = attributes} h1 h2) a p k = absurd cc
partial_decl (p_unary1 {room = room} {at = at} {name = name} {attributes = attributes} {inside = inside} {op = op} h1 h2 h3) a p k = absurd cc
partial_decl (p_unary2 {room = room} {at = at} {name = name} {attributes = attributes} {before = before} {inside = inside} {op = op} {t = t} h1 h2 h3 h4) a p k = absurd cc
partial_decl (p_row0 {room = room} {at = at} {name = name} {attributes = attributes} h1 h2) a p k = absurd cc
partial_decl (p_row1 {room = room} {at = at} {name = name} {attributes = attributes} {inside = inside} {row = row} {ws = ws} {r = r} h1 h2 h3 h4) a p k = absurd cc
partial_decl (p_row2 {room = room} {at = at} {name = name} {attributes = attributes} {before = before} {between = between} {row = row} {op = op} {ws = ws} h1 h2 h3 h4 h5) a p k = absurd cc

pub absorb_decl : {room : ℕ} {f : Frame} {bs : List Frame} {tags more : List Tag} {x : Decl} → Stands room f bs tags → allows f elements.Decl ≡ true → is_passed f ≡ false → IsDecl room more x → Stands room (with_decl x f) bs (tags ++ more)
absorb_decl (at_bottom) a p k = absurd cc
absorb_decl (at_end h) a p k = absurd cc
absorb_decl (within_passed name attributes at s h) a p k = absurd cc
absorb_decl (around_nothing h) a p k = absurd cc
absorb_decl (on_top {before = before} {inside = inside} s u h) a p k = grows before inside _ s u (partial_decl h a p k)

partial_instance : {room : ℕ} {kid : Kid} {g : Frame} {inside more : List Tag} {x : Instance} → Partial room kid g inside → allows g elements.Instance ≡ true → is_passed g ≡ false → IsInstance room more x → Partial room kid (with_instance x g) (inside ++ more)
partial_instance (p_net {room = room} {name = name} {attributes = attributes} {inside = inside} {net = net} h1 h2 h3) a p k = p_net h1 h2 (with_an_instance h3 k)
partial_instance (p_port0 {room = room} {at = at} {name = name} {text = text} {attributes = attributes} {input = input} h1 h2 h3) a p k = absurd cc
partial_instance (p_port1 {room = room} {at = at} {name = name} {text = text} {attributes = attributes} {inside = inside} {input = input} {shape = shape} h1 h2 h3 h4) a p k = absurd cc
partial_instance (p_decl {room = room} {at = at} {name = name} {text = text} {attributes = attributes} {inside = inside} {param = param} {shape = None} {value = None} h1 h2 h3 h4) a p k = absurd cc
partial_instance (p_decl {room = room} {at = at} {name = name} {text = text} {attributes = attributes} {inside = inside} {param = param} {shape = None} {value = (Some v)} h1 h2 h3 h4) a p k = absurd cc
partial_instance (p_decl {room = room} {at = at} {name = name} {text = text} {attributes = attributes} {inside = inside} {param = param} {shape = (Some s)} {value = None} h1 h2 h3 h4) a p k = absurd cc
partial_instance (p_decl {room = room} {at = at} {name = name} {text = text} {attributes = attributes} {inside = inside} {param = param} {shape = (Some s)} {value = (Some v)} h1 h2 h3 h4) a p k = absurd cc
partial_instance (p_inst {room = room} {at = at} {name = name} {text = text} {attributes = attributes} {inside = inside} {class = None} {parameters = parameters} h1 h2 h3) a p k = absurd cc
partial_instance (p_inst {room = room} {at = at} {name = name} {text = text} {attributes = attributes} {inside = inside} {class = (Some x)} {parameters = parameters} h1 h2 h3) a p k = absurd cc
partial_instance (p_param0 {room = room} {at = at} {name = name} {text = text} {attributes = attributes} h1 h2) a p k = absurd cc
partial_instance (p_param1 {room = room} {at = at} {name = name} {text = text} {attributes = attributes} {inside = inside} {t = t} h1 h2 h3) a p k = absurd cc
partial_instance (p_conn {room = room} {at = at} {name = name} {src = src} {src_port = src_port} {dst = dst} {dst_port = dst_port} {attributes = attributes} {inside = inside} {sizes = sizes} h1 h2 h3 h4 h5 h6) a p k = absurd cc
partial_instance (p_size0 {room = room} {at = at} {name = name} {attributes = attributes} h1 h2) a p k = absurd cc
partial_instance (p_size1 {room = room} {at = at} {name = name} {attributes = attributes} {inside = inside} {t = t} h1 h2 h3) a p k = absurd cc
partial_instance (p_passed {room = room} {at = at} {name = name} {attributes = attributes} {inside = inside} {is = is} h1 h2 h3) a p k = absurd cc
partial_instance (p_type {room = room} {at = at} {place = place} {name = name} {text = text} {attributes = attributes} {inside = inside} {args = args} h1 h2 h3) a p k = absurd cc
partial_instance (p_value0 {room = room} {at = at} {place = place} {name = name} {text = text} {attributes = attributes} h1 h2 h3) a p k = absurd cc
partial_instance (p_value1 {room = room} {at = at} {place = place} {name = name} {text = text} {attributes = attributes} {inside = inside} {t = t} h1 h2 h3 h4) a p k = absurd cc
partial_instance (p_shape0 {room = room} {at = at} {place = place} {name = name} {text = text} {attributes = attributes} h1 h2 h3) a p k = absurd cc
partial_instance (p_shape1 {room = room} {at = at} {place = place} {name = name} {text = text} {attributes = attributes} {inside = inside} {t = t} h1 h2 h3 h4) a p k = absurd cc
partial_instance (p_list {room = room} {at = at} {name = name} {attributes = attributes} {inside = inside} {items = items} h1 h2 h3) a p k = absurd cc
partial_instance (p_unary0 {room = room} {at = at} {name = name} {attributes = attributes} h1 h2) a p k = absurd cc
partial_instance (p_unary1 {room = room} {at = at} {name = name} {attributes = attributes} {inside = inside} {op = op} h1 h2 h3) a p k = absurd cc
partial_instance (p_unary2 {room = room} {at = at} {name = name} {attributes = attributes} {before = before} {inside = inside} {op = op} {t = t} h1 h2 h3 h4) a p k = absurd cc
partial_instance (p_row0 {room = room} {at = at} {name = name} {attributes = attributes} h1 h2) a p k = absurd cc
partial_instance (p_row1 {room = room} {at = at} {name = name} {attributes = attributes} {inside = inside} {row = row} {ws = ws} {r = r} h1 h2 h3 h4) a p k = absurd cc
partial_instance (p_row2 {room = room} {at = at} {name = name} {attributes = attributes} {before = before} {between = between} {row = row} {op = op} {ws = ws} h1 h2 h3 h4 h5) a p k = absurd cc

pub absorb_instance : {room : ℕ} {f : Frame} {bs : List Frame} {tags more : List Tag} {x : Instance} → Stands room f bs tags → allows f elements.Instance ≡ true → is_passed f ≡ false → IsInstance room more x → Stands room (with_instance x f) bs (tags ++ more)
absorb_instance (at_bottom) a p k = absurd cc
absorb_instance (at_end h) a p k = absurd cc
absorb_instance (within_passed name attributes at s h) a p k = absurd cc
absorb_instance (around_nothing h) a p k = absurd cc
absorb_instance (on_top {before = before} {inside = inside} s u h) a p k = grows before inside _ s u (partial_instance h a p k)

partial_connection : {room : ℕ} {kid : Kid} {g : Frame} {inside more : List Tag} {x : Connection} → Partial room kid g inside → allows g elements.Connection ≡ true → is_passed g ≡ false → IsConnection room more x → Partial room kid (with_connection x g) (inside ++ more)
partial_connection (p_net {room = room} {name = name} {attributes = attributes} {inside = inside} {net = net} h1 h2 h3) a p k = p_net h1 h2 (with_a_connection h3 k)
partial_connection (p_port0 {room = room} {at = at} {name = name} {text = text} {attributes = attributes} {input = input} h1 h2 h3) a p k = absurd cc
partial_connection (p_port1 {room = room} {at = at} {name = name} {text = text} {attributes = attributes} {inside = inside} {input = input} {shape = shape} h1 h2 h3 h4) a p k = absurd cc
partial_connection (p_decl {room = room} {at = at} {name = name} {text = text} {attributes = attributes} {inside = inside} {param = param} {shape = None} {value = None} h1 h2 h3 h4) a p k = absurd cc
partial_connection (p_decl {room = room} {at = at} {name = name} {text = text} {attributes = attributes} {inside = inside} {param = param} {shape = None} {value = (Some v)} h1 h2 h3 h4) a p k = absurd cc
partial_connection (p_decl {room = room} {at = at} {name = name} {text = text} {attributes = attributes} {inside = inside} {param = param} {shape = (Some s)} {value = None} h1 h2 h3 h4) a p k = absurd cc
partial_connection (p_decl {room = room} {at = at} {name = name} {text = text} {attributes = attributes} {inside = inside} {param = param} {shape = (Some s)} {value = (Some v)} h1 h2 h3 h4) a p k = absurd cc
partial_connection (p_inst {room = room} {at = at} {name = name} {text = text} {attributes = attributes} {inside = inside} {class = None} {parameters = parameters} h1 h2 h3) a p k = absurd cc
partial_connection (p_inst {room = room} {at = at} {name = name} {text = text} {attributes = attributes} {inside = inside} {class = (Some x)} {parameters = parameters} h1 h2 h3) a p k = absurd cc
partial_connection (p_param0 {room = room} {at = at} {name = name} {text = text} {attributes = attributes} h1 h2) a p k = absurd cc
partial_connection (p_param1 {room = room} {at = at} {name = name} {text = text} {attributes = attributes} {inside = inside} {t = t} h1 h2 h3) a p k = absurd cc
partial_connection (p_conn {room = room} {at = at} {name = name} {src = src} {src_port = src_port} {dst = dst} {dst_port = dst_port} {attributes = attributes} {inside = inside} {sizes = sizes} h1 h2 h3 h4 h5 h6) a p k = absurd cc
partial_connection (p_size0 {room = room} {at = at} {name = name} {attributes = attributes} h1 h2) a p k = absurd cc
partial_connection (p_size1 {room = room} {at = at} {name = name} {attributes = attributes} {inside = inside} {t = t} h1 h2 h3) a p k = absurd cc
partial_connection (p_passed {room = room} {at = at} {name = name} {attributes = attributes} {inside = inside} {is = is} h1 h2 h3) a p k = absurd cc
partial_connection (p_type {room = room} {at = at} {place = place} {name = name} {text = text} {attributes = attributes} {inside = inside} {args = args} h1 h2 h3) a p k = absurd cc
partial_connection (p_value0 {room = room} {at = at} {place = place} {name = name} {text = text} {attributes = attributes} h1 h2 h3) a p k = absurd cc
partial_connection (p_value1 {room = room} {at = at} {place = place} {name = name} {text = text} {attributes = attributes} {inside = inside} {t = t} h1 h2 h3 h4) a p k = absurd cc
partial_connection (p_shape0 {room = room} {at = at} {place = place} {name = name} {text = text} {attributes = attributes} h1 h2 h3) a p k = absurd cc
partial_connection (p_shape1 {room = room} {at = at} {place = place} {name = name} {text = text} {attributes = attributes} {inside = inside} {t = t} h1 h2 h3 h4) a p k = absurd cc
partial_connection (p_list {room = room} {at = at} {name = name} {attributes = attributes} {inside = inside} {items = items} h1 h2 h3) a p k = absurd cc
partial_connection (p_unary0 {room = room} {at = at} {name = name} {attributes = attributes} h1 h2) a p k = absurd cc
partial_connection (p_unary1 {room = room} {at = at} {name = name} {attributes = attributes} {inside = inside} {op = op} h1 h2 h3) a p k = absurd cc
partial_connection (p_unary2 {room = room} {at = at} {name = name} {attributes = attributes} {before = before} {inside = inside} {op = op} {t = t} h1 h2 h3 h4) a p k = absurd cc
partial_connection (p_row0 {room = room} {at = at} {name = name} {attributes = attributes} h1 h2) a p k = absurd cc
partial_connection (p_row1 {room = room} {at = at} {name = name} {attributes = attributes} {inside = inside} {row = row} {ws = ws} {r = r} h1 h2 h3 h4) a p k = absurd cc
partial_connection (p_row2 {room = room} {at = at} {name = name} {attributes = attributes} {before = before} {between = between} {row = row} {op = op} {ws = ws} h1 h2 h3 h4 h5) a p k = absurd cc

pub absorb_connection : {room : ℕ} {f : Frame} {bs : List Frame} {tags more : List Tag} {x : Connection} → Stands room f bs tags → allows f elements.Connection ≡ true → is_passed f ≡ false → IsConnection room more x → Stands room (with_connection x f) bs (tags ++ more)
absorb_connection (at_bottom) a p k = absurd cc
absorb_connection (at_end h) a p k = absurd cc
absorb_connection (within_passed name attributes at s h) a p k = absurd cc
absorb_connection (around_nothing h) a p k = absurd cc
absorb_connection (on_top {before = before} {inside = inside} s u h) a p k = grows before inside _ s u (partial_connection h a p k)

partial_size : {room : ℕ} {kid : Kid} {g : Frame} {inside more : List Tag} {x : Size} → Partial room kid g inside → Takes g a_size_of → IsSize room more x → Partial room kid (with_size x g) (inside ++ more)
partial_size (p_net {room = room} {name = name} {attributes = attributes} {inside = inside} {net = net} h1 h2 h3) u k = absurd u
partial_size (p_port0 {room = room} {at = at} {name = name} {text = text} {attributes = attributes} {input = input} h1 h2 h3) u k = absurd u
partial_size (p_port1 {room = room} {at = at} {name = name} {text = text} {attributes = attributes} {inside = inside} {input = input} {shape = shape} h1 h2 h3 h4) u k = absurd u
partial_size (p_decl {room = room} {at = at} {name = name} {text = text} {attributes = attributes} {inside = inside} {param = param} {shape = shape} {value = value} h1 h2 h3 h4) u k = absurd u
partial_size (p_inst {room = room} {at = at} {name = name} {text = text} {attributes = attributes} {inside = inside} {class = class} {parameters = parameters} h1 h2 h3) u k = absurd u
partial_size (p_param0 {room = room} {at = at} {name = name} {text = text} {attributes = attributes} h1 h2) u k = absurd u
partial_size (p_param1 {room = room} {at = at} {name = name} {text = text} {attributes = attributes} {inside = inside} {t = t} h1 h2 h3) u k = absurd u
partial_size (p_conn {room = room} {at = at} {name = name} {src = src} {src_port = src_port} {dst = dst} {dst_port = dst_port} {attributes = attributes} {inside = inside} {sizes = sizes} h1 h2 h3 h4 h5 h6) u k = p_conn h1 h2 h3 h4 h5 (and_size h6 k)
partial_size (p_size0 {room = room} {at = at} {name = name} {attributes = attributes} h1 h2) u k = absurd u
partial_size (p_size1 {room = room} {at = at} {name = name} {attributes = attributes} {inside = inside} {t = t} h1 h2 h3) u k = absurd u
partial_size (p_passed {room = room} {at = at} {name = name} {attributes = attributes} {inside = inside} {is = is} h1 h2 h3) u k = absurd u
partial_size (p_type {room = room} {at = at} {place = place} {name = name} {text = text} {attributes = attributes} {inside = inside} {args = args} h1 h2 h3) u k = absurd u
partial_size (p_value0 {room = room} {at = at} {place = place} {name = name} {text = text} {attributes = attributes} h1 h2 h3) u k = absurd u
partial_size (p_value1 {room = room} {at = at} {place = place} {name = name} {text = text} {attributes = attributes} {inside = inside} {t = t} h1 h2 h3 h4) u k = absurd u
partial_size (p_shape0 {room = room} {at = at} {place = place} {name = name} {text = text} {attributes = attributes} h1 h2 h3) u k = absurd u
partial_size (p_shape1 {room = room} {at = at} {place = place} {name = name} {text = text} {attributes = attributes} {inside = inside} {t = t} h1 h2 h3 h4) u k = absurd u
partial_size (p_list {room = room} {at = at} {name = name} {attributes = attributes} {inside = inside} {items = items} h1 h2 h3) u k = absurd u
partial_size (p_unary0 {room = room} {at = at} {name = name} {attributes = attributes} h1 h2) u k = absurd u
partial_size (p_unary1 {room = room} {at = at} {name = name} {attributes = attributes} {inside = inside} {op = op} h1 h2 h3) u k = absurd u
partial_size (p_unary2 {room = room} {at = at} {name = name} {attributes = attributes} {before = before} {inside = inside} {op = op} {t = t} h1 h2 h3 h4) u k = absurd u
partial_size (p_row0 {room = room} {at = at} {name = name} {attributes = attributes} h1 h2) u k = absurd u
partial_size (p_row1 {room = room} {at = at} {name = name} {attributes = attributes} {inside = inside} {row = row} {ws = ws} {r = r} h1 h2 h3 h4) u k = absurd u
partial_size (p_row2 {room = room} {at = at} {name = name} {attributes = attributes} {before = before} {between = between} {row = row} {op = op} {ws = ws} h1 h2 h3 h4 h5) u k = absurd u

partial_passed : {room : ℕ} {kid : Kid} {g : Frame} {inside more : List Tag} (is : Bool) → Partial room kid g inside → Takes g (passed_over is) → IsPassed room more → (is ≡ false → IsOther room more) → Partial room kid g (inside ++ more)
partial_passed size_is (p_net {room = room} {name = name} {attributes = attributes} {inside = inside} {net = net} h1 h2 h3) u k o = p_net h1 h2 (with_an_attribute h3 k)
partial_passed size_is (p_port0 {room = room} {at = at} {name = name} {text = text} {attributes = attributes} {input = input} h1 h2 h3) u k o = absurd u
partial_passed size_is (p_port1 {room = room} {at = at} {name = name} {text = text} {attributes = attributes} {inside = inside} {input = input} {shape = shape} h1 h2 h3 h4) u k o = absurd u
partial_passed size_is (p_decl {room = room} {at = at} {name = name} {text = text} {attributes = attributes} {inside = inside} {param = param} {shape = shape} {value = value} h1 h2 h3 h4) u k o = absurd u
partial_passed size_is (p_inst {room = room} {at = at} {name = name} {text = text} {attributes = attributes} {inside = inside} {class = class} {parameters = parameters} h1 h2 h3) u k o = p_inst h1 h2 (and_attribute h3 k)
partial_passed size_is (p_param0 {room = room} {at = at} {name = name} {text = text} {attributes = attributes} h1 h2) u k o = absurd u
partial_passed size_is (p_param1 {room = room} {at = at} {name = name} {text = text} {attributes = attributes} {inside = inside} {t = t} h1 h2 h3) u k o = absurd u
partial_passed false (p_conn {room = room} {at = at} {name = name} {src = src} {src_port = src_port} {dst = dst} {dst_port = dst_port} {attributes = attributes} {inside = inside} {sizes = sizes} h1 h2 h3 h4 h5 h6) u k o = p_conn h1 h2 h3 h4 h5 (and_other h6 (o refl))
partial_passed true (p_conn {room = room} {at = at} {name = name} {src = src} {src_port = src_port} {dst = dst} {dst_port = dst_port} {attributes = attributes} {inside = inside} {sizes = sizes} h1 h2 h3 h4 h5 h6) u k o = absurd u
partial_passed size_is (p_size0 {room = room} {at = at} {name = name} {attributes = attributes} h1 h2) u k o = absurd u
partial_passed size_is (p_size1 {room = room} {at = at} {name = name} {attributes = attributes} {inside = inside} {t = t} h1 h2 h3) u k o = absurd u
partial_passed size_is (p_passed {room = room} {at = at} {name = name} {attributes = attributes} {inside = inside} {is = is} h1 h2 h3) u k o = absurd u
partial_passed size_is (p_type {room = room} {at = at} {place = place} {name = name} {text = text} {attributes = attributes} {inside = inside} {args = args} h1 h2 h3) u k o = absurd u
partial_passed size_is (p_value0 {room = room} {at = at} {place = place} {name = name} {text = text} {attributes = attributes} h1 h2 h3) u k o = absurd u
partial_passed size_is (p_value1 {room = room} {at = at} {place = place} {name = name} {text = text} {attributes = attributes} {inside = inside} {t = t} h1 h2 h3 h4) u k o = absurd u
partial_passed size_is (p_shape0 {room = room} {at = at} {place = place} {name = name} {text = text} {attributes = attributes} h1 h2 h3) u k o = absurd u
partial_passed size_is (p_shape1 {room = room} {at = at} {place = place} {name = name} {text = text} {attributes = attributes} {inside = inside} {t = t} h1 h2 h3 h4) u k o = absurd u
partial_passed size_is (p_list {room = room} {at = at} {name = name} {attributes = attributes} {inside = inside} {items = items} h1 h2 h3) u k o = absurd u
partial_passed size_is (p_unary0 {room = room} {at = at} {name = name} {attributes = attributes} h1 h2) u k o = absurd u
partial_passed size_is (p_unary1 {room = room} {at = at} {name = name} {attributes = attributes} {inside = inside} {op = op} h1 h2 h3) u k o = absurd u
partial_passed size_is (p_unary2 {room = room} {at = at} {name = name} {attributes = attributes} {before = before} {inside = inside} {op = op} {t = t} h1 h2 h3 h4) u k o = absurd u
partial_passed size_is (p_row0 {room = room} {at = at} {name = name} {attributes = attributes} h1 h2) u k o = absurd u
partial_passed size_is (p_row1 {room = room} {at = at} {name = name} {attributes = attributes} {inside = inside} {row = row} {ws = ws} {r = r} h1 h2 h3 h4) u k o = absurd u
partial_passed size_is (p_row2 {room = room} {at = at} {name = name} {attributes = attributes} {before = before} {between = between} {row = row} {op = op} {ws = ws} h1 h2 h3 h4 h5) u k o = absurd u

pub absorb_size : {room : ℕ} {f : Frame} {bs : List Frame} {tags more : List Tag} {x : Size} → Stands room f bs tags → Takes f a_size_of → IsSize room more x → Stands room (with_size x f) bs (tags ++ more)
absorb_size (at_bottom) u k = absurd u
absorb_size (at_end h) u k = absurd u
absorb_size (within_passed name attributes at s h) u k = absurd u
absorb_size (around_nothing h) u k = absurd u
absorb_size (on_top {before = before} {inside = inside} s t h) u k = grows before inside _ s t (partial_size h u k)

pub absorb_passed : {room : ℕ} {f : Frame} {bs : List Frame} {tags more : List Tag} (is : Bool) → Stands room f bs tags → Takes f (passed_over is) → IsPassed room more → (is ≡ false → IsOther room more) → Stands room f bs (tags ++ more)
absorb_passed is (at_bottom) u k o = absurd u
absorb_passed is (at_end h) u k o = absurd u
absorb_passed is (within_passed name attributes at s h) u k o = absurd u
absorb_passed is (around_nothing h) u k o = absurd u
absorb_passed is (on_top {before = before} {inside = inside} s t h) u k o = grows before inside _ s t (partial_passed is h u k o)

-- what stands in what is passed over
pub absorb_within : {room : ℕ} {bs : List Frame} {tags inside : List Tag} (name : List ℕ) (attributes : List Attribute) (at end : ℕ)
    → Stands (suc room) in_passed bs tags → ArePassed room inside → Stands (suc room) in_passed bs (tags ++ around name attributes at inside end)
absorb_within name attributes at end (on_top {before = before} {inside = inside} s u (p_passed h1 h2 h3)) k = grows before inside _ s u (p_passed h1 h2 (passed_more name attributes at end h3 k))
absorb_within {room} {inside = more} name attributes at end (within_passed {bs = bs} {before = before} {inside = inside} text attributes_ there s h) k =
    subst (λ x. Stands (suc room) in_passed (in_passed ∷ bs) x) (sym (append_assoc before (opens text attributes_ there ∷ inside) (around name attributes at more end))) (within_passed text attributes_ there s (passed_more name attributes at end h k))

-- an operator of a prefix, and one between two operands
pub absorb_prefix : {room there : ℕ} {bs : List Frame} {tags more : List Tag} {op : PrefixOp} → Stands room (in_unary None None there) bs tags → IsPrefixOp room more op → Stands room (in_unary (Some op) None there) bs (tags ++ more)
absorb_prefix (on_top {before = before} {inside = inside} s u (p_unary0 h1 h2)) k = grows before inside _ s u (p_unary1 h1 h2 k)

pub absorb_binary : {room there : ℕ} {ws new : List Pending} {r : Tree} {bs : List Frame} {tags more : List Tag} {op : BinOp} → Stands room (in_sequence ws (Some r) there) bs tags → IsBinaryOp room more op → before_operator op ws r ≡ Some new → Stands room (in_sequence new None there) bs (tags ++ more)
absorb_binary {new = new} {op = op} (on_top {before = before} {inside = inside} s u (p_row1 {row = row} {ws = ws} {r = r} h1 h2 h3 h4)) k e =
    let is : reads (row ++ operator op ∷ []) [] None ≡ Some (read new None) = reads_append row (operator op ∷ []) [] None ∙ ap (λ x. then_reads x (operator op ∷ [])) h4 ∙ ap (reads_on []) e in
    grows before inside _ s u (p_row2 h1 h2 h3 k is)
