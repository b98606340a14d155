-- Each tag that is read leaves what stands in the elements that are open; so what is read is spelled.
use Rattle.std.proofs.Common.{◌≡◌, ◌⊎◌, inl, inr, ℕ, zero, suc, ◌≤◌, ◌<◌, Bool, true, false, List, [], ◌∷◌, ◌++◌, length, Option, None, Some, refl, sym, ap, subst, ◌∙◌, arith}
use Rattle.std.specs.Prelude.{nat_le, if◌then◌else◌, codes}
use Rattle.std.specs.Str.{bytes_eq}
use Rattle.std.proofs.lemmas.Bool.Decides.{leb_tells}
use Rattle.std.proofs.lemmas.List.{append_assoc, append-nil}
use Rattle.cal_ast.specs.Tree.{Tree, absent, present, ident, listed, variable, prefix, list, type_of, shape_arg, value_arg}
use Rattle.cal_ast.specs.declared.expr.PrefixOp.{PrefixOp}
use Rattle.cal_ast.specs.declared.expr.BinOp.{BinOp}
use Rattle.fnl_markup.specs.Tags.{Attribute, attribute, Tag, opens, closes}
use Rattle.fnl_expr.specs.Given.{given, either_given, Text, text_at, long, has_short_names, earlier, name_given, tag_given, end_given, entry_given, type_given, Literal, literal_given, kind_given, literal_tree}
use Rattle.fnl_expr.specs.Operations.{Pending, made, grouped, before_operator}
use Rattle.fnl_expr.specs.Operators.{binary_given, prefix_given}
use Rattle.fnl_frames.specs.Allowed.{element_named, allows}
use Rattle.fnl_frames.specs.Attaching.{with_net, with_expr, with_class, with_type, with_arg, with_port, with_decl, with_instance, with_connection, with_parameter, with_size}
use Rattle.fnl_frames.specs.Frames.{Frame, outside, in_network, in_port, in_decl, in_instance, in_parameter, in_connection, in_size, in_type, in_value, in_shape, in_list, in_unary, in_sequence, in_empty, in_passed, a_class}
use Rattle.fnl_frames.specs.Net.{Net, a_port, a_decl, a_parameter, an_instance, a_size, a_connection, empty_net}
use Rattle.fnl_read.specs.Closing.{closed}
use Rattle.fnl_read.specs.Elements.{step, run}
use Rattle.fnl_read.specs.Opening.{is_passed}
use Rattle.fnl_read.specs.States.{State, Next, Going, Fault}
use Rattle.fnl_read.specs.Opening as opening
use Rattle.fnl_read.specs.Closing as closing
use Rattle.rvc_base.specs.declared.refusal.Rule.{Rule}
use Rattle.rvc_base.specs.Rules.{nests_too_deep, unknown_element}
use Rattle.fnl_frames.specs.declared.element.Element.{Element}
use Rattle.fnl_frames.specs.declared.element.Element.TheVariants as elements
use Rattle.fnl_expr.specs.declared.kind.ExprKind.{ExprKind}
use Rattle.fnl_expr.specs.declared.kind.ExprKind.TheVariants as kinds
use Rattle.fnl_grammar.specs.Rows.{Item, operand, operator, AreSeveral}
use Rattle.fnl_grammar.specs.Productions.{around, IsCalled, IsGiven, is_size_in, is_buffer_size, passed_none, the_passed, IsPrefixOp, the_prefix_op, IsBinaryOp, the_binary_op, IsExpr, the_literal, the_variable, the_list, the_operation, the_sequence, no_items, IsRow, the_type, no_entries, the_value, the_shape, the_port, nothing_declared, the_param, the_decl, IsClass, the_class, the_parameter, instance_empty, the_instance, the_size, the_other, connection_empty, the_connection, network_empty, IsNetwork, the_network}
use Rattle.fnl_grammar.proofs.Reading.{read, reads}
use Rattle.fnl_grammar.proofs.Grouped.{is_made, IsGrouped, is_grouped, read_is_grouped}
use Rattle.fnl_grammar.proofs.Runs.{st}
use Rattle.fnl_grammar.proofs.Stands.{Kid, an_element, a_size_of, passed_over, Partial, p_net, p_port0, p_port1, p_decl, p_inst, p_param0, p_param1, p_conn, p_size0, p_size1, p_passed, p_type, p_value0, p_value1, p_shape0, p_shape1, p_list, p_unary0, p_unary1, p_unary2, p_row0, p_row1, p_row2, Takes, Stands, at_bottom, at_end, on_top, within_passed, around_nothing, depth, absorb_expr, absorb_type, absorb_entry, absorb_class, absorb_parameter, absorb_port, absorb_decl, absorb_instance, absorb_connection, absorb_size, absorb_passed, absorb_within, absorb_prefix, absorb_binary}

-- what stands after a step
pub record After (tags : List Tag) (s : State) : Type 0 where
  pub room : ℕ
  pub stands : Stands room s.top s.below tags

record AfterTag (tags : List Tag) (tag : Tag) (s : State) : Type 0 where
  room : ℕ
  stands : Stands room s.top s.below (tags ++ (tag ∷ []))

-- ---- an element ends

left : {room end : ℕ} {f : Frame} {bs : List Frame} (before inside : List Tag) (next : State) → Stands room f bs (before ++ (inside ++ (closes end ∷ []))) → st f bs ≡ next
    → AfterTag (before ++ inside) (closes end) next
left {room} {end} {f} {bs} before inside next s e =
    let here : Stands room f bs ((before ++ inside) ++ (closes end ∷ [])) = subst (λ x. Stands room f bs x) (sym (append_assoc before inside (closes end ∷ []))) s in
    subst (λ x. AfterTag (before ++ inside) (closes end) x) e (record { room = room; stands = here })

-- an expression that ends isn't too high
expr_left : (there end : ℕ) (g f : Frame) (bs : List Frame) (next : State) (found : Option Tree) → closing.end_expr found there end (st g (f ∷ bs)) ≡ Going next
    → (t : Tree) × (found ≡ Some t) × (st (with_expr t f) bs ≡ next)
expr_left there end g f bs next None e = absurd cc
expr_left there end g f bs next (Some t) e = (t, refl, cc)

several : (row : List Item) (p : Pending) (ws : List Pending) (r : Tree) → reads row [] None ≡ Some (read (p ∷ ws) (Some r)) → AreSeveral row
several [] p ws r e = absurd cc
several (operand t ∷ []) p ws r e = absurd cc
several (operator op ∷ []) p ws r e = absurd cc
several (x ∷ y ∷ row) p ws r e = tt

partial_xdf : {room : ℕ} {kid : Kid} {g : Frame} {inside : List Tag} → Partial room kid g inside → allows g elements.Xdf ≡ true → is_passed g ≡ false → ⊥
partial_xdf (p_net {room = room} {name = name} {attributes = attributes} {inside = inside} {net = net} h1 h2 h3) a p = absurd cc
partial_xdf (p_port0 {room = room} {at = at} {name = name} {text = text} {attributes = attributes} {input = input} h1 h2 h3) a p = absurd cc
partial_xdf (p_port1 {room = room} {at = at} {name = name} {text = text} {attributes = attributes} {inside = inside} {input = input} {shape = shape} h1 h2 h3 h4) a p = absurd cc
partial_xdf (p_decl {room = room} {at = at} {name = name} {text = text} {attributes = attributes} {inside = inside} {param = param} {shape = None} {value = None} h1 h2 h3 h4) a p = absurd cc
partial_xdf (p_decl {room = room} {at = at} {name = name} {text = text} {attributes = attributes} {inside = inside} {param = param} {shape = None} {value = (Some v)} h1 h2 h3 h4) a p = absurd cc
partial_xdf (p_decl {room = room} {at = at} {name = name} {text = text} {attributes = attributes} {inside = inside} {param = param} {shape = (Some s)} {value = None} h1 h2 h3 h4) a p = absurd cc
partial_xdf (p_decl {room = room} {at = at} {name = name} {text = text} {attributes = attributes} {inside = inside} {param = param} {shape = (Some s)} {value = (Some v)} h1 h2 h3 h4) a p = absurd cc
partial_xdf (p_inst {room = room} {at = at} {name = name} {text = text} {attributes = attributes} {inside = inside} {class = class} {parameters = parameters} h1 h2 h3) a p = absurd cc
partial_xdf (p_param0 {room = room} {at = at} {name = name} {text = text} {attributes = attributes} h1 h2) a p = absurd cc
partial_xdf (p_param1 {room = room} {at = at} {name = name} {text = text} {attributes = attributes} {inside = inside} {t = t} h1 h2 h3) a p = absurd cc
partial_xdf (p_conn {room = room} {at = at} {name = name} {src = src} {src_port = src_port} {dst = dst} {dst_port = dst_port} {attributes = attributes} {inside = inside} {sizes = sizes} h1 h2 h3 h4 h5 h6) a p = absurd cc
partial_xdf (p_size0 {room = room} {at = at} {name = name} {attributes = attributes} h1 h2) a p = absurd cc
partial_xdf (p_size1 {room = room} {at = at} {name = name} {attributes = attributes} {inside = inside} {t = t} h1 h2 h3) a p = absurd cc
partial_xdf (p_passed {room = room} {at = at} {name = name} {attributes = attributes} {inside = inside} {is = is} h1 h2 h3) a p = absurd cc
partial_xdf (p_type {room = room} {at = at} {place = place} {name = name} {text = text} {attributes = attributes} {inside = inside} {args = args} h1 h2 h3) a p = absurd cc
partial_xdf (p_value0 {room = room} {at = at} {place = place} {name = name} {text = text} {attributes = attributes} h1 h2 h3) a p = absurd cc
partial_xdf (p_value1 {room = room} {at = at} {place = place} {name = name} {text = text} {attributes = attributes} {inside = inside} {t = t} h1 h2 h3 h4) a p = absurd cc
partial_xdf (p_shape0 {room = room} {at = at} {place = place} {name = name} {text = text} {attributes = attributes} h1 h2 h3) a p = absurd cc
partial_xdf (p_shape1 {room = room} {at = at} {place = place} {name = name} {text = text} {attributes = attributes} {inside = inside} {t = t} h1 h2 h3 h4) a p = absurd cc
partial_xdf (p_list {room = room} {at = at} {name = name} {attributes = attributes} {inside = inside} {items = items} h1 h2 h3) a p = absurd cc
partial_xdf (p_unary0 {room = room} {at = at} {name = name} {attributes = attributes} h1 h2) a p = absurd cc
partial_xdf (p_unary1 {room = room} {at = at} {name = name} {attributes = attributes} {inside = inside} {op = op} h1 h2 h3) a p = absurd cc
partial_xdf (p_unary2 {room = room} {at = at} {name = name} {attributes = attributes} {before = before} {inside = inside} {op = op} {t = t} h1 h2 h3 h4) a p = absurd cc
partial_xdf (p_row0 {room = room} {at = at} {name = name} {attributes = attributes} h1 h2) a p = absurd cc
partial_xdf (p_row1 {room = room} {at = at} {name = name} {attributes = attributes} {inside = inside} {row = row} {ws = ws} {r = r} h1 h2 h3 h4) a p = absurd cc
partial_xdf (p_row2 {room = room} {at = at} {name = name} {attributes = attributes} {before = before} {between = between} {row = row} {op = op} {ws = ws} h1 h2 h3 h4 h5) a p = absurd cc

absorb_net : {room : ℕ} {f : Frame} {bs : List Frame} {tags more : List Tag} {net : Net} → Stands room f bs tags → allows f elements.Xdf ≡ true → is_passed f ≡ false → IsNetwork room more net → Stands room (with_net net f) bs (tags ++ more)
absorb_net (at_bottom) a p k = at_end k
absorb_net (at_end h) a p k = absurd cc
absorb_net (within_passed name attributes at s h) a p k = absurd cc
absorb_net (around_nothing h) a p k = absurd cc
absorb_net (on_top s u h) a p k = absurd (partial_xdf h a p)

-- a row that ends
row_ends : {room end at : ℕ} {f : Frame} {bs : List Frame} {within : List Tag} {row : List Item} {t : Tree} (name : List ℕ) (attributes : List Attribute) (before : List Tag) (next : State)
    → Stands (suc room) f bs before → Takes f (an_element elements.Expr) → IsCalled name elements.Expr → kind_given attributes ≡ Some kinds.Sequence → IsRow room within row → AreSeveral row → IsGrouped at row t
    → st (with_expr t f) bs ≡ next → AfterTag (before ++ (opens name attributes at ∷ within)) (closes end) next
row_ends {end = end} {at = at} {within = within} name attributes before next s u c k h n (is_grouped g fit) same =
    left before (opens name attributes at ∷ within) next (absorb_expr s u.0 u.1 (the_sequence end c k h n g fit)) same

partial_ends : {room end : ℕ} {f g : Frame} {bs : List Frame} {kid : Kid} {before inside : List Tag} (next : State) → Stands (suc room) f bs before → Takes f kid → Partial room kid g inside
    → closed end (st g (f ∷ bs)) ≡ Going next → AfterTag (before ++ inside) (closes end) next
partial_ends {end = end} {f = f} {bs = bs} {before = before} next s u (p_net {name = name} {attributes = attributes} {inside = within} {net = net} h1 h2 h3) e = let same : st (with_net net f) bs ≡ next = cc in left before (opens name attributes net.at ∷ within) next (absorb_net s u.0 u.1 (the_network end h1 h2 h3)) same
partial_ends {end = end} {f = f} {bs = bs} {before = before} next s u (p_port0 {at = at} {name = name} {text = text} {attributes = attributes} {input = input} h1 h2 h3) e = absurd cc
partial_ends {end = end} {f = f} {bs = bs} {before = before} next s u (p_port1 {at = at} {name = name} {text = text} {attributes = attributes} {inside = within} {input = input} {shape = shape} h1 h2 h3 h4) e = let same : st (with_port (a_port input shape text at) f) bs ≡ next = cc in left before (opens name attributes at ∷ within) next (absorb_port s u.0 u.1 (the_port end h1 h2 h3 h4)) same
partial_ends {end = end} {f = f} {bs = bs} {before = before} next s u (p_decl {at = at} {name = name} {text = text} {attributes = attributes} {inside = within} {param = param} {shape = None} {value = value} h1 h2 h3 h4) e = absurd cc
partial_ends {end = end} {f = f} {bs = bs} {before = before} next s u (p_decl {at = at} {name = name} {text = text} {attributes = attributes} {inside = within} {param = true} {shape = (Some s1)} {value = None} h1 h2 h3 h4) e = let same : st (with_decl (a_decl true s1 text absent at) f) bs ≡ next = cc in left before (opens name attributes at ∷ within) next (absorb_decl s u.0 u.1 (the_param end h1 h2 h3 h4)) same
partial_ends {end = end} {f = f} {bs = bs} {before = before} next s u (p_decl {at = at} {name = name} {text = text} {attributes = attributes} {inside = within} {param = false} {shape = (Some s1)} {value = None} h1 h2 h3 h4) e = absurd cc
partial_ends {end = end} {f = f} {bs = bs} {before = before} next s u (p_decl {at = at} {name = name} {text = text} {attributes = attributes} {inside = within} {param = true} {shape = (Some s1)} {value = (Some v)} h1 h2 h3 h4) e = let same : st (with_decl (a_decl true s1 text (present v) at) f) bs ≡ next = cc in left before (opens name attributes at ∷ within) next (absorb_decl s u.0 u.1 (the_decl end h1 h2 h3 h4)) same
partial_ends {end = end} {f = f} {bs = bs} {before = before} next s u (p_decl {at = at} {name = name} {text = text} {attributes = attributes} {inside = within} {param = false} {shape = (Some s1)} {value = (Some v)} h1 h2 h3 h4) e = let same : st (with_decl (a_decl false s1 text (present v) at) f) bs ≡ next = cc in left before (opens name attributes at ∷ within) next (absorb_decl s u.0 u.1 (the_decl end h1 h2 h3 h4)) same
partial_ends {end = end} {f = f} {bs = bs} {before = before} next s u (p_inst {at = at} {name = name} {text = text} {attributes = attributes} {inside = within} {class = None} {parameters = parameters} h1 h2 h3) e = absurd cc
partial_ends {end = end} {f = f} {bs = bs} {before = before} next s u (p_inst {at = at} {name = name} {text = text} {attributes = attributes} {inside = within} {class = (Some (a_class class class_at))} {parameters = parameters} h1 h2 h3) e = let same : st (with_instance (an_instance text class class_at parameters at) f) bs ≡ next = cc in left before (opens name attributes at ∷ within) next (absorb_instance s u.0 u.1 (the_instance end h1 h2 h3)) same
partial_ends {end = end} {f = f} {bs = bs} {before = before} next s u (p_param0 {at = at} {name = name} {text = text} {attributes = attributes} h1 h2) e = absurd cc
partial_ends {end = end} {f = f} {bs = bs} {before = before} next s u (p_param1 {at = at} {name = name} {text = text} {attributes = attributes} {inside = within} {t = t} h1 h2 h3) e = let same : st (with_parameter (a_parameter text t at) f) bs ≡ next = cc in left before (opens name attributes at ∷ within) next (absorb_parameter s u.0 u.1 (the_parameter end h1 h2 h3)) same
partial_ends {end = end} {f = f} {bs = bs} {before = before} next s u (p_conn {at = at} {name = name} {src = src} {src_port = src_port} {dst = dst} {dst_port = dst_port} {attributes = attributes} {inside = within} {sizes = sizes} h1 h2 h3 h4 h5 h6) e = let same : st (with_connection (a_connection src src_port dst dst_port sizes at) f) bs ≡ next = cc in left before (opens name attributes at ∷ within) next (absorb_connection s u.0 u.1 (the_connection end h1 h2 h3 h4 h5 h6)) same
partial_ends {end = end} {f = f} {bs = bs} {before = before} next s u (p_size0 {at = at} {name = name} {attributes = attributes} h1 h2) e = absurd cc
partial_ends {end = end} {f = f} {bs = bs} {before = before} next s u (p_size1 {at = at} {name = name} {attributes = attributes} {inside = within} {t = t} h1 h2 h3) e = let same : st (with_size (a_size t at) f) bs ≡ next = cc in left before (opens name attributes at ∷ within) next (absorb_size s u (the_size end h1 h2 h3)) same
partial_ends {end = end} {f = f} {bs = bs} {before = before} next s u (p_passed {at = at} {name = name} {attributes = attributes} {inside = within} {is = is} h1 h2 h3) e = let same : st (f) bs ≡ next = cc in left before (opens name attributes at ∷ within) next (absorb_passed is s u (the_passed end h1 h2 h3) (λ q. the_other end h1 (h2 ∙ ap Some q) h3)) same
partial_ends {end = end} {f = f} {bs = bs} {before = before} next s u (p_type {at = at} {place = place} {name = name} {text = text} {attributes = attributes} {inside = within} {args = args} h1 h2 h3) e = let same : st (with_type (type_of (ident text place) (listed args) at) f) bs ≡ next = cc in left before (opens name attributes at ∷ within) next (absorb_type s u.0 u.1 (the_type end h1 h2 h3)) same
partial_ends {end = end} {f = f} {bs = bs} {before = before} next s u (p_value0 {at = at} {place = place} {name = name} {text = text} {attributes = attributes} h1 h2 h3) e = absurd cc
partial_ends {end = end} {f = f} {bs = bs} {before = before} next s u (p_value1 {at = at} {place = place} {name = name} {text = text} {attributes = attributes} {inside = within} {t = t} h1 h2 h3 h4) e = let same : st (with_arg (value_arg (ident text place) t) f) bs ≡ next = cc in left before (opens name attributes at ∷ within) next (absorb_entry s u.0 u.1 (the_value end h1 h2 h3 h4)) same
partial_ends {end = end} {f = f} {bs = bs} {before = before} next s u (p_shape0 {at = at} {place = place} {name = name} {text = text} {attributes = attributes} h1 h2 h3) e = absurd cc
partial_ends {end = end} {f = f} {bs = bs} {before = before} next s u (p_shape1 {at = at} {place = place} {name = name} {text = text} {attributes = attributes} {inside = within} {t = t} h1 h2 h3 h4) e = let same : st (with_arg (shape_arg (ident text place) t) f) bs ≡ next = cc in left before (opens name attributes at ∷ within) next (absorb_entry s u.0 u.1 (the_shape end h1 h2 h3 h4)) same
partial_ends {end = end} {f = f} {bs = bs} {before = before} next s u (p_list {at = at} {name = name} {attributes = attributes} {inside = within} {items = []} h1 h2 h3) e = absurd cc
partial_ends {end = end} {f = f} {bs = bs} {before = before} next s u (p_list {at = at} {name = name} {attributes = attributes} {inside = within} {items = (item ∷ items)} h1 h2 h3) e =
    let it = expr_left at end (in_list (item ∷ items) at) f bs next (made (list (listed (item ∷ items)) at)) e in
    let m = is_made (list (listed (item ∷ items)) at) it.0 it.1 in
    let same : st (with_expr (list (listed (item ∷ items)) at) f) bs ≡ next = ap (λ x. st (with_expr x f) bs) m.0 ∙ it.2 in
    left before (opens name attributes at ∷ within) next (absorb_expr s u.0 u.1 (the_list end h1 h2 h3 m.1)) same
partial_ends {end = end} {f = f} {bs = bs} {before = before} next s u (p_unary0 {at = at} {name = name} {attributes = attributes} h1 h2) e = absurd cc
partial_ends {end = end} {f = f} {bs = bs} {before = before} next s u (p_unary1 {at = at} {name = name} {attributes = attributes} {inside = within} {op = op} h1 h2 h3) e = absurd cc
partial_ends {end = end} {f = f} {bs = bs} {before = before} next s u (p_unary2 {at = at} {name = name} {attributes = attributes} {before = first} {inside = within} {op = op} {t = t} h1 h2 h3 h4) e =
    let it = expr_left at end (in_unary (Some op) (Some t) at) f bs next (made (prefix op t at)) e in
    let m = is_made (prefix op t at) it.0 it.1 in
    let same : st (with_expr (prefix op t at) f) bs ≡ next = ap (λ x. st (with_expr x f) bs) m.0 ∙ it.2 in
    left before (opens name attributes at ∷ first ++ within) next (absorb_expr s u.0 u.1 (the_operation end h1 h2 h3 h4 m.1)) same
partial_ends {end = end} {f = f} {bs = bs} {before = before} next s u (p_row0 {at = at} {name = name} {attributes = attributes} h1 h2) e = absurd cc
partial_ends {end = end} {f = f} {bs = bs} {before = before} next s u (p_row1 {at = at} {name = name} {attributes = attributes} {inside = within} {row = row} {ws = []} {r = r} h1 h2 h3 h4) e = absurd cc
partial_ends {end = end} {f = f} {bs = bs} {before = before} next s u (p_row1 {at = at} {name = name} {attributes = attributes} {inside = within} {row = row} {ws = (p ∷ ws)} {r = r} h1 h2 h3 h4) e =
    let it = expr_left at end (in_sequence (p ∷ ws) (Some r) at) f bs next (grouped at (p ∷ ws) r) e in
    row_ends name attributes before next s u h1 h2 h3 (several row p ws r h4) (read_is_grouped at row (p ∷ ws) r it.0 h4 it.1) it.2
partial_ends {end = end} {f = f} {bs = bs} {before = before} next s u (p_row2 {at = at} {name = name} {attributes = attributes} {before = first} {between = between} {row = row} {op = op} {ws = ws} h1 h2 h3 h4 h5) e = absurd cc

closed_after : {room end : ℕ} {g : Frame} {bs : List Frame} {tags : List Tag} (next : State) → Stands room g bs tags → closed end (st g bs) ≡ Going next → AfterTag tags (closes end) next
closed_after next (at_bottom) e = absurd cc
closed_after next (at_end h) e = absurd cc
closed_after next (on_top s u h) e = partial_ends next s u h e
closed_after {end = end} next (within_passed {room = room} {bs = bs} {before = before} {inside = inside} name attributes at s h) e =
    let same : st in_passed bs ≡ next = cc in
    left before (opens name attributes at ∷ inside) next (absorb_within name attributes at end s h) same
closed_after {end = end} next (around_nothing {room = room} {f = f} {bs = bs} {before = before} k) e =
    let same : st f bs ≡ next = cc in
    subst (λ x. AfterTag before (closes end) x) same (record { room = suc room; stands = k end })

-- ---- an element begins

less_of : {a n : ℕ} → nat_le a n ≡ false → n < a
less_of {a} {n} e = either (leb_tells a n)
  where
    either : ((nat_le a n ≡ true) × (a ≤ n)) ⊎ ((nat_le a n ≡ false) × (n < a)) → n < a
    either (inl both) = absurd cc
    either (inr both) = both.1

record Entered (tl : Option ℕ) (g f : Frame) (bs : List Frame) (next : State) : Type 0 where
  fits : tl ≡ None
  some : length bs < 64
  same : st g (f ∷ bs) ≡ next

entered : (g : Frame) (tl : Option ℕ) (at : ℕ) (f : Frame) (bs : List Frame) (next : State) → opening.enter g tl at (st f bs) ≡ Going next → Entered tl g f bs next
entered g tl at f bs next e = by_test (nat_le 64 (length bs)) refl
  where
    by_long : length bs < 64 → (tl_ : Option ℕ) → tl ≡ tl_ → opening.entered g tl_ (st f bs) ≡ Going next → Entered tl g f bs next
    by_long less None is h = record { fits = is; some = less; same = cc }
    by_long less (Some place) is h = absurd cc

    by_test : (b : Bool) → nat_le 64 (length bs) ≡ b → Entered tl g f bs next
    by_test true is = let no : Fault nests_too_deep at ≡ Going next = sym (rw is refl) ∙ e in absurd cc
    by_test false is = let h : opening.entered g tl (st f bs) ≡ Going next = sym (rw is refl) ∙ e in by_long (less_of is) tl refl h

begun : {room at : ℕ} {f g : Frame} {bs : List Frame} {kid : Kid} {tags : List Tag} {name : List ℕ} {attributes : List Attribute} (next : State)
    → Stands room f bs tags → Takes f kid → length bs < 64 → ((r : ℕ) → Partial r kid g (opens name attributes at ∷ [])) → st g (f ∷ bs) ≡ next
    → AfterTag tags (opens name attributes at) next
begun {room = zero} next s u less k e = let h = depth s in absurd (omega (arith, h, less))
begun {room = suc r} {at = at} {tags = tags} {name = name} {attributes = attributes} next s u less k e =
    subst (λ x. AfterTag tags (opens name attributes at) x) e (record { room = r; stands = on_top s u (k r) })

begun_empty : {room at : ℕ} {f f' : Frame} {bs : List Frame} {tags : List Tag} {name : List ℕ} {attributes : List Attribute} (next : State)
    → Stands room f bs tags → length bs < 64 → ((r : ℕ) (end : ℕ) → room ≡ suc r → Stands room f' bs (tags ++ around name attributes at [] end)) → st in_empty (f' ∷ bs) ≡ next
    → AfterTag tags (opens name attributes at) next
begun_empty {room = zero} next s less k e = let h = depth s in absurd (omega (arith, h, less))
begun_empty {room = suc r} {at = at} {f' = f'} {bs = bs} {tags = tags} {name = name} {attributes = attributes} next s less k e =
    let inner = around_nothing (λ end. subst (λ x. Stands (suc r) f' bs x) (sym (append_assoc tags (opens name attributes at ∷ []) (closes end ∷ []))) (k r end refl)) in
    subst (λ x. AfterTag tags (opens name attributes at) x) e (record { room = r; stands = inner })

given_so : {found : Option Text} {text : List ℕ} (place : ℕ) → found ≡ Some (text_at text place) → has_short_names text ≡ true → IsGiven found text
given_so place e h = record { place = place; is = e; short = h }

-- a name isn't too long
short_of : (text : List ℕ) (place : ℕ) → long (text_at text place) ≡ None → has_short_names text ≡ true
short_of text place e = by_short (has_short_names text) refl
  where
    by_short : (b : Bool) → has_short_names text ≡ b → has_short_names text ≡ true
    by_short true is = is
    by_short false is = let no : Some place ≡ None = sym (rw is refl) ∙ e in absurd cc

network_begins : {room at : ℕ} {f : Frame} {bs : List Frame} {tags : List Tag} {name : List ℕ} {attributes : List Attribute} (next : State) (found : Option Text)
    → Stands room f bs tags → Takes f (an_element elements.Xdf) → IsCalled name elements.Xdf → name_given (codes "name") attributes ≡ found → opening.network_with found at (st f bs) ≡ Going next
    → AfterTag tags (opens name attributes at) next
network_begins next None s u c g e = absurd cc
network_begins {at = at} {f = f} {bs = bs} next (Some (text_at text place)) s u c g e =
    let it = entered (in_network (empty_net text at)) (long (text_at text place)) at f bs next e in
    begun next s u it.some (λ r. p_net c (given_so place g (short_of text place it.fits)) network_empty) it.same

port_begins : {room at : ℕ} {f : Frame} {bs : List Frame} {tags : List Tag} {name : List ℕ} {attributes : List Attribute} (next : State) (input : Option Bool) (found : Option Text)
    → Stands room f bs tags → Takes f (an_element elements.Port) → IsCalled name elements.Port → either_given (codes "kind") (codes "Input") (codes "Output") attributes ≡ input → name_given (codes "name") attributes ≡ found
    → opening.port_with input found at (st f bs) ≡ Going next → AfterTag tags (opens name attributes at) next
port_begins next None found s u c k g e = absurd cc
port_begins next (Some input) None s u c k g e = absurd cc
port_begins {at = at} {f = f} {bs = bs} next (Some input) (Some (text_at text place)) s u c k g e =
    let it = entered (in_port input text None at) (long (text_at text place)) at f bs next e in
    begun next s u it.some (λ r. p_port0 c k (given_so place g (short_of text place it.fits))) it.same

decl_begins : {room at : ℕ} {f : Frame} {bs : List Frame} {tags : List Tag} {name : List ℕ} {attributes : List Attribute} (next : State) (param : Option Bool) (found : Option Text)
    → Stands room f bs tags → Takes f (an_element elements.Decl) → IsCalled name elements.Decl → either_given (codes "kind") (codes "Param") (codes "Variable") attributes ≡ param → name_given (codes "name") attributes ≡ found
    → opening.decl_with param found at (st f bs) ≡ Going next → AfterTag tags (opens name attributes at) next
decl_begins next None found s u c k g e = absurd cc
decl_begins next (Some param) None s u c k g e = absurd cc
decl_begins {at = at} {f = f} {bs = bs} next (Some param) (Some (text_at text place)) s u c k g e =
    let it = entered (in_decl param text None None at) (long (text_at text place)) at f bs next e in
    begun next s u it.some (λ r. p_decl c k (given_so place g (short_of text place it.fits)) nothing_declared) it.same

instance_begins : {room at : ℕ} {f : Frame} {bs : List Frame} {tags : List Tag} {name : List ℕ} {attributes : List Attribute} (next : State) (found : Option Text)
    → Stands room f bs tags → Takes f (an_element elements.Instance) → IsCalled name elements.Instance → name_given (codes "id") attributes ≡ found → opening.instance_with found at (st f bs) ≡ Going next
    → AfterTag tags (opens name attributes at) next
instance_begins next None s u c g e = absurd cc
instance_begins {at = at} {f = f} {bs = bs} next (Some (text_at text place)) s u c g e =
    let it = entered (in_instance text None [] at) (long (text_at text place)) at f bs next e in
    begun next s u it.some (λ r. p_inst c (given_so place g (short_of text place it.fits)) instance_empty) it.same

class_begins : {room at : ℕ} {f : Frame} {bs : List Frame} {tags : List Tag} {name : List ℕ} {attributes : List Attribute} (next : State) (found : Option Text)
    → Stands room f bs tags → Takes f (an_element elements.Class) → IsCalled name elements.Class → tag_given (codes "name") attributes ≡ found → opening.class_with found at (st f bs) ≡ Going next
    → AfterTag tags (opens name attributes at) next
class_begins next None s u c g e = absurd cc
class_begins {at = at} {f = f} {bs = bs} {name = name} {attributes = attributes} next (Some (text_at text place)) s u c g e =
    let it = entered in_empty (long (text_at text place)) at (with_class (a_class text at) f) bs next e in
    begun_empty next s it.some (λ r end is. absorb_class s u.0 u.1 (subst (λ x. IsClass x (around name attributes at [] end) text at) (sym is) (the_class end c (given_so place g (short_of text place it.fits))))) it.same

parameter_begins : {room at : ℕ} {f : Frame} {bs : List Frame} {tags : List Tag} {name : List ℕ} {attributes : List Attribute} (next : State) (found : Option Text)
    → Stands room f bs tags → Takes f (an_element elements.Parameter) → IsCalled name elements.Parameter → name_given (codes "name") attributes ≡ found → opening.parameter_with found at (st f bs) ≡ Going next
    → AfterTag tags (opens name attributes at) next
parameter_begins next None s u c g e = absurd cc
parameter_begins {at = at} {f = f} {bs = bs} next (Some (text_at text place)) s u c g e =
    let it = entered (in_parameter text None at) (long (text_at text place)) at f bs next e in
    begun next s u it.some (λ r. p_param0 c (given_so place g (short_of text place it.fits))) it.same

-- of the earlier of two places none is left
neither : (a b : Option ℕ) → earlier a b ≡ None → (a ≡ None) × (b ≡ None)
neither None b e = (refl, e)
neither (Some p) None e = absurd cc
neither (Some p) (Some q) e = by_test (nat_le p q) refl
  where
    by_test : (t : Bool) → nat_le p q ≡ t → (Some p ≡ None) × (Some q ≡ None)
    by_test true is = let no : Some p ≡ None = sym (rw is refl) ∙ e in absurd cc
    by_test false is = let no : Some q ≡ None = sym (rw is refl) ∙ e in absurd cc

connection_begins : {room at : ℕ} {f : Frame} {bs : List Frame} {tags : List Tag} {name : List ℕ} {attributes : List Attribute} (next : State) (w x y z : Option Text)
    → Stands room f bs tags → Takes f (an_element elements.Connection) → IsCalled name elements.Connection
    → end_given (codes "src") attributes ≡ w → name_given (codes "src-port") attributes ≡ x → end_given (codes "dst") attributes ≡ y → name_given (codes "dst-port") attributes ≡ z
    → opening.connection_with w x y z at (st f bs) ≡ Going next → AfterTag tags (opens name attributes at) next
connection_begins next None x y z s u c g1 g2 g3 g4 e = absurd cc
connection_begins next (Some (text_at a i)) None y z s u c g1 g2 g3 g4 e = absurd cc
connection_begins next (Some (text_at a i)) (Some (text_at b j)) None z s u c g1 g2 g3 g4 e = absurd cc
connection_begins next (Some (text_at a i)) (Some (text_at b j)) (Some (text_at d k)) None s u c g1 g2 g3 g4 e = absurd cc
connection_begins {at = at} {f = f} {bs = bs} next (Some (text_at a i)) (Some (text_at b j)) (Some (text_at d k)) (Some (text_at h l)) s u c g1 g2 g3 g4 e =
    let it = entered (in_connection a b d h [] at) (earlier (earlier (long (text_at a i)) (long (text_at b j))) (earlier (long (text_at d k)) (long (text_at h l)))) at f bs next e in
    let both = neither (earlier (long (text_at a i)) (long (text_at b j))) (earlier (long (text_at d k)) (long (text_at h l))) it.fits in
    let one = neither (long (text_at a i)) (long (text_at b j)) both.0 in
    let two = neither (long (text_at d k)) (long (text_at h l)) both.1 in
    begun next s u it.some (λ r. p_conn c (given_so i g1 (short_of a i one.0)) (given_so j g2 (short_of b j one.1)) (given_so k g3 (short_of d k two.0)) (given_so l g4 (short_of h l two.1)) connection_empty) it.same

-- what an attribute is in the element round it
record Passes (f : Frame) (text : List ℕ) (at : ℕ) (is : Bool) : Type 0 where
  takes : Takes f (passed_over is)
  same : opening.attribute_in f text at ≡ in_passed

record Sizes (f : Frame) (text : List ℕ) (at : ℕ) (is : Bool) : Type 0 where
  size : is ≡ true
  takes : Takes f a_size_of
  same : opening.attribute_in f text at ≡ in_size None at

attribute_is : (f : Frame) (text : List ℕ) (here : ℕ) (is : Bool) → allows f elements.Attribute ≡ true → is_passed f ≡ false → bytes_eq text (codes "bufferSize") ≡ is → Passes f text here is ⊎ Sizes f text here is
attribute_is (outside None) text here is a p e = absurd cc
attribute_is (outside (Some x)) text here is a p e = absurd cc
attribute_is (in_network net) text here is a p e = inl (record { takes = tt; same = refl })
attribute_is (in_port input name None at) text here is a p e = absurd cc
attribute_is (in_port input name (Some x) at) text here is a p e = absurd cc
attribute_is (in_decl param name shape None at) text here is a p e = absurd cc
attribute_is (in_decl param name shape (Some v) at) text here is a p e = absurd cc
attribute_is (in_instance id class parameters at) text here is a p e = inl (record { takes = tt; same = refl })
attribute_is (in_parameter name None at) text here is a p e = absurd cc
attribute_is (in_parameter name (Some x) at) text here is a p e = absurd cc
attribute_is (in_connection src src_port dst dst_port sizes there) text here true a p e = inr (record { size = refl; takes = tt; same = rw e refl })
attribute_is (in_connection src src_port dst dst_port sizes there) text here false a p e = inl (record { takes = tt; same = rw e refl })
attribute_is (in_size None at) text here is a p e = absurd cc
attribute_is (in_size (Some x) at) text here is a p e = absurd cc
attribute_is (in_type name args at) text here is a p e = absurd cc
attribute_is (in_value name None) text here is a p e = absurd cc
attribute_is (in_value name (Some x)) text here is a p e = absurd cc
attribute_is (in_shape name None) text here is a p e = absurd cc
attribute_is (in_shape name (Some x)) text here is a p e = absurd cc
attribute_is (in_list items at) text here is a p e = absurd cc
attribute_is (in_unary None o at) text here is a p e = absurd cc
attribute_is (in_unary (Some op) None at) text here is a p e = absurd cc
attribute_is (in_unary (Some op) (Some t) at) text here is a p e = absurd cc
attribute_is (in_sequence waiting None at) text here is a p e = absurd cc
attribute_is (in_sequence waiting (Some t) at) text here is a p e = absurd cc
attribute_is in_empty text here is a p e = absurd cc
attribute_is in_passed text here is a p e = absurd cc

attribute_begins : {room at : ℕ} {f : Frame} {bs : List Frame} {tags : List Tag} {name : List ℕ} {attributes : List Attribute} (next : State) (found : Option Attribute)
    → Stands room f bs tags → Takes f (an_element elements.Attribute) → IsCalled name elements.Attribute → given (codes "name") attributes ≡ found → opening.attribute_with found at (st f bs) ≡ Going next
    → AfterTag tags (opens name attributes at) next
attribute_begins next None s u c g e = absurd cc
attribute_begins {at = at} {f = f} {bs = bs} {tags = tags} {name = name} {attributes = attributes} next (Some (attribute key text place)) s u c g e =
    by_kind (attribute_is f text at (bytes_eq text (codes "bufferSize")) u.0 u.1 refl)
  where
    size_is : is_buffer_size attributes ≡ Some (bytes_eq text (codes "bufferSize"))
    size_is = ap is_size_in g

    by_kind : Passes f text at (bytes_eq text (codes "bufferSize")) ⊎ Sizes f text at (bytes_eq text (codes "bufferSize")) → AfterTag tags (opens name attributes at) next
    by_kind (inl it) =
        let h = entered in_passed None at f bs next (ap (λ x. opening.enter x None at (st f bs)) (sym it.same) ∙ e) in
        begun next s it.takes h.some (λ r. p_passed c size_is passed_none) h.same
    by_kind (inr it) =
        let h = entered (in_size None at) None at f bs next (ap (λ x. opening.enter x None at (st f bs)) (sym it.same) ∙ e) in
        begun next s it.takes h.some (λ r. p_size0 c (size_is ∙ ap Some it.size)) h.same

type_begins : {room at : ℕ} {f : Frame} {bs : List Frame} {tags : List Tag} {name : List ℕ} {attributes : List Attribute} (next : State) (found : Option Text)
    → Stands room f bs tags → Takes f (an_element elements.Type) → IsCalled name elements.Type → type_given attributes ≡ found → opening.type_with found at (st f bs) ≡ Going next
    → AfterTag tags (opens name attributes at) next
type_begins next None s u c g e = absurd cc
type_begins {at = at} {f = f} {bs = bs} next (Some (text_at text place)) s u c g e =
    let it = entered (in_type (ident text place) [] at) None at f bs next e in
    begun next s u it.some (λ r. p_type c g no_entries) it.same

entry_begins : {room at : ℕ} {f : Frame} {bs : List Frame} {tags : List Tag} {name : List ℕ} {attributes : List Attribute} (next : State) (by_value : Option Bool) (found : Option Text)
    → Stands room f bs tags → Takes f (an_element elements.Entry) → IsCalled name elements.Entry → either_given (codes "kind") (codes "Expr") (codes "Type") attributes ≡ by_value → entry_given attributes ≡ found
    → opening.entry_with by_value found at (st f bs) ≡ Going next → AfterTag tags (opens name attributes at) next
entry_begins next None found s u c k g e = absurd cc
entry_begins next (Some b) None s u c k g e = absurd cc
entry_begins {at = at} {f = f} {bs = bs} next (Some true) (Some (text_at text place)) s u c k g e =
    let it = entered (in_value (ident text place) None) None at f bs next e in
    begun next s u it.some (λ r. p_value0 c k g) it.same
entry_begins {at = at} {f = f} {bs = bs} next (Some false) (Some (text_at text place)) s u c k g e =
    let it = entered (in_shape (ident text place) None) None at f bs next e in
    begun next s u it.some (λ r. p_shape0 c k g) it.same

literal_begins : {room at : ℕ} {f : Frame} {bs : List Frame} {tags : List Tag} {name : List ℕ} {attributes : List Attribute} (next : State) (found : Option Literal)
    → Stands room f bs tags → Takes f (an_element elements.Expr) → IsCalled name elements.Expr → kind_given attributes ≡ Some kinds.Literal → literal_given attributes ≡ found → opening.literal_with found at (st f bs) ≡ Going next
    → AfterTag tags (opens name attributes at) next
literal_begins next None s u c k g e = absurd cc
literal_begins {at = at} {f = f} {bs = bs} {name = name} {attributes = attributes} next (Some l) s u c k g e =
    let it = entered in_empty None at (with_expr (literal_tree l at) f) bs next e in
    begun_empty next s it.some (λ r end is. absorb_expr s u.0 u.1 (subst (λ x. IsExpr x (around name attributes at [] end) (literal_tree l at)) (sym is) (the_literal end c k g))) it.same

variable_begins : {room at : ℕ} {f : Frame} {bs : List Frame} {tags : List Tag} {name : List ℕ} {attributes : List Attribute} (next : State) (found : Option Text)
    → Stands room f bs tags → Takes f (an_element elements.Expr) → IsCalled name elements.Expr → kind_given attributes ≡ Some kinds.Var → name_given (codes "name") attributes ≡ found → opening.variable_with found at (st f bs) ≡ Going next
    → AfterTag tags (opens name attributes at) next
variable_begins next None s u c k g e = absurd cc
variable_begins {at = at} {f = f} {bs = bs} {name = name} {attributes = attributes} next (Some (text_at text place)) s u c k g e =
    let it = entered in_empty (long (text_at text place)) at (with_expr (variable text at) f) bs next e in
    begun_empty next s it.some (λ r end is. absorb_expr s u.0 u.1 (subst (λ x. IsExpr x (around name attributes at [] end) (variable text at)) (sym is) (the_variable end c k (given_so place g (short_of text place it.fits))))) it.same

expr_begins : {room at : ℕ} {f : Frame} {bs : List Frame} {tags : List Tag} {name : List ℕ} {attributes : List Attribute} (next : State) (found : Option ExprKind)
    → Stands room f bs tags → Takes f (an_element elements.Expr) → IsCalled name elements.Expr → kind_given attributes ≡ found → opening.expr_with found attributes at (st f bs) ≡ Going next
    → AfterTag tags (opens name attributes at) next
expr_begins next None s u c k e = absurd cc
expr_begins {attributes = attributes} next (Some kinds.Literal) s u c k e = literal_begins next (literal_given attributes) s u c k refl e
expr_begins {attributes = attributes} next (Some kinds.Var) s u c k e = variable_begins next (name_given (codes "name") attributes) s u c k refl e
expr_begins {at = at} {f = f} {bs = bs} next (Some kinds.List) s u c k e =
    let it = entered (in_list [] at) None at f bs next e in
    begun next s u it.some (λ r. p_list c k no_items) it.same
expr_begins {at = at} {f = f} {bs = bs} next (Some kinds.Unary) s u c k e =
    let it = entered (in_unary None None at) None at f bs next e in
    begun next s u it.some (λ r. p_unary0 c k) it.same
expr_begins {at = at} {f = f} {bs = bs} next (Some kinds.Sequence) s u c k e =
    let it = entered (in_sequence [] None at) None at f bs next e in
    begun next s u it.some (λ r. p_row0 c k) it.same

prefix_begins : {room at there : ℕ} {bs : List Frame} {tags : List Tag} {name : List ℕ} {attributes : List Attribute} (next : State) (found : Option PrefixOp)
    → Stands room (in_unary None None there) bs tags → IsCalled name elements.Op → prefix_given attributes ≡ found → opening.prefix_with found None there at (st (in_unary None None there) bs) ≡ Going next
    → AfterTag tags (opens name attributes at) next
prefix_begins next None s c g e = absurd cc
prefix_begins {at = at} {there = there} {bs = bs} {name = name} {attributes = attributes} next (Some op) s c g e =
    let it = entered in_empty None at (in_unary (Some op) None there) bs next e in
    begun_empty next s it.some (λ r end is. absorb_prefix s (subst (λ x. IsPrefixOp x (around name attributes at [] end) op) (sym is) (the_prefix_op end c g))) it.same

binary_begins : {room at there : ℕ} {bs : List Frame} {tags : List Tag} {name : List ℕ} {attributes : List Attribute} {ws : List Pending} {r : Tree} (next : State) (found : Option BinOp)
    → Stands room (in_sequence ws (Some r) there) bs tags → IsCalled name elements.Op → binary_given attributes ≡ found → opening.binary_with found ws r there at (st (in_sequence ws (Some r) there) bs) ≡ Going next
    → AfterTag tags (opens name attributes at) next
binary_begins next None s c g e = absurd cc
binary_begins {room} {at} {there} {bs} {tags} {name} {attributes} {ws} {r} next (Some op) s c g e = by_row (before_operator op ws r) refl
  where
    by_row : (found : Option (List Pending)) → before_operator op ws r ≡ found → AfterTag tags (opens name attributes at) next
    by_row None is = let no : Fault nests_too_deep there ≡ Going next = ap (λ x. opening.operator_with x there at (st (in_sequence ws (Some r) there) bs)) (sym is) ∙ e in absurd cc
    by_row (Some new) is =
        let h : opening.operator_with (Some new) there at (st (in_sequence ws (Some r) there) bs) ≡ Going next = ap (λ x. opening.operator_with x there at (st (in_sequence ws (Some r) there) bs)) (sym is) ∙ e in
        let it = entered in_empty None at (in_sequence new None there) bs next h in
        begun_empty next s it.some (λ k end same. absorb_binary s (subst (λ x. IsBinaryOp x (around name attributes at [] end) op) (sym same) (the_binary_op end c g)) is) it.same

op_begins : {room at : ℕ} {f : Frame} {bs : List Frame} {tags : List Tag} {name : List ℕ} {attributes : List Attribute} (next : State)
    → Stands room f bs tags → allows f elements.Op ≡ true → is_passed f ≡ false → IsCalled name elements.Op → opening.operator_in f attributes at (st f bs) ≡ Going next
    → AfterTag tags (opens name attributes at) next
op_begins next (at_bottom) a p c e = absurd cc
op_begins next (at_end h) a p c e = absurd cc
op_begins next (within_passed name attributes at s h) a p c e = absurd cc
op_begins next (around_nothing h) a p c e = absurd cc
op_begins next (on_top s u (p_net h1 h2 h3)) a p c e = absurd cc
op_begins next (on_top s u (p_port0 h1 h2 h3)) a p c e = absurd cc
op_begins next (on_top s u (p_port1 h1 h2 h3 h4)) a p c e = absurd cc
op_begins next (on_top s u (p_decl {value = None} h1 h2 h3 h4)) a p c e = absurd cc
op_begins next (on_top s u (p_decl {value = (Some v)} h1 h2 h3 h4)) a p c e = absurd cc
op_begins next (on_top s u (p_inst h1 h2 h3)) a p c e = absurd cc
op_begins next (on_top s u (p_param0 h1 h2)) a p c e = absurd cc
op_begins next (on_top s u (p_param1 h1 h2 h3)) a p c e = absurd cc
op_begins next (on_top s u (p_conn h1 h2 h3 h4 h5 h6)) a p c e = absurd cc
op_begins next (on_top s u (p_size0 h1 h2)) a p c e = absurd cc
op_begins next (on_top s u (p_size1 h1 h2 h3)) a p c e = absurd cc
op_begins next (on_top s u (p_passed h1 h2 h3)) a p c e = absurd cc
op_begins next (on_top s u (p_type h1 h2 h3)) a p c e = absurd cc
op_begins next (on_top s u (p_value0 h1 h2 h3)) a p c e = absurd cc
op_begins next (on_top s u (p_value1 h1 h2 h3 h4)) a p c e = absurd cc
op_begins next (on_top s u (p_shape0 h1 h2 h3)) a p c e = absurd cc
op_begins next (on_top s u (p_shape1 h1 h2 h3 h4)) a p c e = absurd cc
op_begins next (on_top s u (p_list h1 h2 h3)) a p c e = absurd cc
op_begins {attributes = attributes} next (on_top s u (p_unary0 h1 h2)) a p c e = prefix_begins next (prefix_given attributes) (on_top s u (p_unary0 h1 h2)) c refl e
op_begins next (on_top s u (p_unary1 h1 h2 h3)) a p c e = absurd cc
op_begins next (on_top s u (p_unary2 h1 h2 h3 h4)) a p c e = absurd cc
op_begins next (on_top s u (p_row0 h1 h2)) a p c e = absurd cc
op_begins {attributes = attributes} next (on_top s u (p_row1 h1 h2 h3 h4)) a p c e = binary_begins next (binary_given attributes) (on_top s u (p_row1 h1 h2 h3 h4)) c refl e
op_begins next (on_top s u (p_row2 h1 h2 h3 h4 h5)) a p c e = absurd cc

element_begins : {room at : ℕ} {f : Frame} {bs : List Frame} {tags : List Tag} {name : List ℕ} {attributes : List Attribute} (next : State) (element : Element)
    → Stands room f bs tags → allows f element ≡ true → is_passed f ≡ false → IsCalled name element → opening.open_element element attributes at (st f bs) ≡ Going next
    → AfterTag tags (opens name attributes at) next
element_begins {attributes = attributes} next elements.Xdf s a p c e = network_begins next (name_given (codes "name") attributes) s (a, p) c refl e
element_begins {attributes = attributes} next elements.Port s a p c e = port_begins next (either_given (codes "kind") (codes "Input") (codes "Output") attributes) (name_given (codes "name") attributes) s (a, p) c refl refl e
element_begins {attributes = attributes} next elements.Decl s a p c e = decl_begins next (either_given (codes "kind") (codes "Param") (codes "Variable") attributes) (name_given (codes "name") attributes) s (a, p) c refl refl e
element_begins {attributes = attributes} next elements.Instance s a p c e = instance_begins next (name_given (codes "id") attributes) s (a, p) c refl e
element_begins {attributes = attributes} next elements.Class s a p c e = class_begins next (tag_given (codes "name") attributes) s (a, p) c refl e
element_begins {attributes = attributes} next elements.Parameter s a p c e = parameter_begins next (name_given (codes "name") attributes) s (a, p) c refl e
element_begins {attributes = attributes} next elements.Connection s a p c e = connection_begins next (end_given (codes "src") attributes) (name_given (codes "src-port") attributes) (end_given (codes "dst") attributes) (name_given (codes "dst-port") attributes) s (a, p) c refl refl refl refl e
element_begins {attributes = attributes} next elements.Attribute s a p c e = attribute_begins next (given (codes "name") attributes) s (a, p) c refl e
element_begins {attributes = attributes} next elements.Type s a p c e = type_begins next (type_given attributes) s (a, p) c refl e
element_begins {attributes = attributes} next elements.Entry s a p c e = entry_begins next (either_given (codes "kind") (codes "Expr") (codes "Type") attributes) (entry_given attributes) s (a, p) c refl refl e
element_begins {attributes = attributes} next elements.Expr s a p c e = expr_begins next (kind_given attributes) s (a, p) c refl e
element_begins next elements.Op s a p c e = op_begins next s a p c e

-- any element begins in what is passed over
passed_begins : {room at : ℕ} {f : Frame} {bs : List Frame} {tags : List Tag} {name : List ℕ} {attributes : List Attribute} (next : State)
    → Stands room f bs tags → is_passed f ≡ true → opening.enter in_passed None at (st f bs) ≡ Going next → AfterTag tags (opens name attributes at) next
passed_begins {room = zero} {at} {f} {bs} next s p e =
    let it = entered in_passed None at f bs next e in
    let h = depth s in absurd (omega (arith, h, it.some))
passed_begins {room = suc r} {at} {f} {bs} {tags} {name} {attributes} next s p e = by_frame f refl
  where
    by_frame : (g : Frame) → f ≡ g → AfterTag tags (opens name attributes at) next
    by_frame (outside None) is = let no : false ≡ true = ap is_passed (sym is) ∙ p in absurd cc
    by_frame (outside (Some x)) is = let no : false ≡ true = ap is_passed (sym is) ∙ p in absurd cc
    by_frame (in_network net) is = let no : false ≡ true = ap is_passed (sym is) ∙ p in absurd cc
    by_frame (in_port input name None there) is = let no : false ≡ true = ap is_passed (sym is) ∙ p in absurd cc
    by_frame (in_port input name (Some x) there) is = let no : false ≡ true = ap is_passed (sym is) ∙ p in absurd cc
    by_frame (in_decl param name shape None there) is = let no : false ≡ true = ap is_passed (sym is) ∙ p in absurd cc
    by_frame (in_decl param name shape (Some v) there) is = let no : false ≡ true = ap is_passed (sym is) ∙ p in absurd cc
    by_frame (in_instance id class parameters there) is = let no : false ≡ true = ap is_passed (sym is) ∙ p in absurd cc
    by_frame (in_parameter name None there) is = let no : false ≡ true = ap is_passed (sym is) ∙ p in absurd cc
    by_frame (in_parameter name (Some x) there) is = let no : false ≡ true = ap is_passed (sym is) ∙ p in absurd cc
    by_frame (in_connection src src_port dst dst_port sizes there) is = let no : false ≡ true = ap is_passed (sym is) ∙ p in absurd cc
    by_frame (in_size None there) is = let no : false ≡ true = ap is_passed (sym is) ∙ p in absurd cc
    by_frame (in_size (Some x) there) is = let no : false ≡ true = ap is_passed (sym is) ∙ p in absurd cc
    by_frame (in_type name args there) is = let no : false ≡ true = ap is_passed (sym is) ∙ p in absurd cc
    by_frame (in_value name None) is = let no : false ≡ true = ap is_passed (sym is) ∙ p in absurd cc
    by_frame (in_value name (Some x)) is = let no : false ≡ true = ap is_passed (sym is) ∙ p in absurd cc
    by_frame (in_shape name None) is = let no : false ≡ true = ap is_passed (sym is) ∙ p in absurd cc
    by_frame (in_shape name (Some x)) is = let no : false ≡ true = ap is_passed (sym is) ∙ p in absurd cc
    by_frame (in_list items there) is = let no : false ≡ true = ap is_passed (sym is) ∙ p in absurd cc
    by_frame (in_unary None o there) is = let no : false ≡ true = ap is_passed (sym is) ∙ p in absurd cc
    by_frame (in_unary (Some op) None there) is = let no : false ≡ true = ap is_passed (sym is) ∙ p in absurd cc
    by_frame (in_unary (Some op) (Some t) there) is = let no : false ≡ true = ap is_passed (sym is) ∙ p in absurd cc
    by_frame (in_sequence waiting None there) is = let no : false ≡ true = ap is_passed (sym is) ∙ p in absurd cc
    by_frame (in_sequence waiting (Some t) there) is = let no : false ≡ true = ap is_passed (sym is) ∙ p in absurd cc
    by_frame in_empty is = let no : false ≡ true = ap is_passed (sym is) ∙ p in absurd cc
    by_frame in_passed is =
        let it = entered in_passed None at f bs next e in
        let here : Stands (suc r) in_passed bs tags = subst (λ x. Stands (suc r) x bs tags) is s in
        let same : st in_passed (in_passed ∷ bs) ≡ next = ap (λ x. st in_passed (x ∷ bs)) (sym is) ∙ it.same in
        subst (λ x. AfterTag tags (opens name attributes at) x) same (record { room = r; stands = within_passed name attributes at here passed_none })

opened_after : {room at : ℕ} {f : Frame} {bs : List Frame} {tags : List Tag} {name : List ℕ} {attributes : List Attribute} (next : State)
    → Stands room f bs tags → opening.opened name attributes at (st f bs) ≡ Going next → AfterTag tags (opens name attributes at) next
opened_after {room} {at} {f} {bs} {tags} {name} {attributes} next s e = by_passed (is_passed f) refl
  where
    by_allowed : (x : Element) → IsCalled name x → is_passed f ≡ false → (b : Bool) → allows f x ≡ b → (if b then opening.open_element x attributes at (st f bs) else Fault unknown_element at) ≡ Going next
        → AfterTag tags (opens name attributes at) next
    by_allowed x c p true is h = element_begins next x s is p c h
    by_allowed x c p false is h = absurd cc

    by_name : is_passed f ≡ false → (found : Option Element) → element_named name ≡ found → opening.open_known found attributes at (st f bs) ≡ Going next → AfterTag tags (opens name attributes at) next
    by_name p None is h = absurd cc
    by_name p (Some x) is h = by_allowed x is p (allows f x) refl h

    by_passed : (b : Bool) → is_passed f ≡ b → AfterTag tags (opens name attributes at) next
    by_passed true is =
        let h : opening.enter in_passed None at (st f bs) ≡ Going next = sym (rw is refl) ∙ e in
        passed_begins next s is h
    by_passed false is =
        let h : opening.open_known (element_named name) attributes at (st f bs) ≡ Going next = sym (rw is refl) ∙ e in
        by_name is (element_named name) refl h

-- ---- all tags

step_after : {room : ℕ} {f : Frame} {bs : List Frame} {tags : List Tag} (tag : Tag) (next : State) → Stands room f bs tags → step tag (st f bs) ≡ Going next → AfterTag tags tag next
step_after (opens name attributes at) next s e = opened_after next s e
step_after (closes at) next s e = closed_after next s e

fault_stays : (rule : Rule) (at : ℕ) (tags : List Tag) → run (Fault rule at) tags ≡ Fault rule at
fault_stays rule at [] = refl
fault_stays rule at (tag ∷ tags) = refl

run_more : (tag : Tag) (more tags : List Tag) (s end : State) (room : ℕ) → Stands room s.top s.below tags
    → ((next : State) (r : ℕ) → Stands r next.top next.below (tags ++ (tag ∷ [])) → run (Going next) more ≡ Going end → After ((tags ++ (tag ∷ [])) ++ more) end)
    → (next : Next) → step tag s ≡ next → run (Going s) (tag ∷ more) ≡ Going end → After (tags ++ (tag ∷ more)) end
run_more tag more tags s end room h go (Fault rule at) is e = let no : Fault rule at ≡ Going end = sym (fault_stays rule at more) ∙ ap (λ x. run x more) (sym is) ∙ e in absurd cc
run_more tag more tags s end room h go (Going next) is e =
    let one = step_after tag next h is in
    let rest : run (Going next) more ≡ Going end = ap (λ x. run x more) (sym is) ∙ e in
    subst (λ x. After x end) (append_assoc tags (tag ∷ []) more) (go next one.room one.stands rest)

pub run_after : (more tags : List Tag) (s end : State) (room : ℕ) → Stands room s.top s.below tags → run (Going s) more ≡ Going end → After (tags ++ more) end
run_after [] tags s end room h e =
    let same : s ≡ end = cc in
    subst (λ x. After (tags ++ []) x) same (subst (λ x. After x s) (sym (append-nil tags)) (record { room = room; stands = h }))
run_after (tag ∷ more) tags s end room h e =
    run_more tag more tags s end room h (λ next r k rest. run_after more (tags ++ (tag ∷ [])) next end r k rest) (step tag s) refl e

-- tags that are read as a network spell it
pub ended : {room : ℕ} {bs : List Frame} {tags : List Tag} {net : Net} → Stands room (outside (Some net)) bs tags → IsNetwork 64 tags net
ended (at_end h) = h
ended (on_top s u h) = elim h [ ]
