-- What a production spells is read so.
use Rattle.std.proofs.Common.{◌≡◌, ◌⊎◌, inl, inr, ℕ, suc, ◌+◌, ◌≤◌, Bool, true, false, List, [], ◌∷◌, ◌++◌, length, Option, None, Some, refl, sym, ap, subst, ◌∙◌, arith}
use Rattle.std.specs.Prelude.{nat_le, codes}
use Rattle.std.specs.Str.{bytes_eq}
use Rattle.std.proofs.lemmas.Bool.{leb-true}
use Rattle.std.proofs.lemmas.List.{append_assoc, append-nil}
use Rattle.cal_ast.specs.Tree.{Tree, absent, present, ident, listed, variable, prefix, binary, list, type_of, shape_arg, value_arg}
use Rattle.cal_ast.specs.declared.expr.PrefixOp.{PrefixOp}
use Rattle.cal_ast.specs.declared.expr.BinOp.{BinOp}
use Rattle.cal_ast.specs.declared.expr.BinOp.TheVariants as binaries
use Rattle.fnl_markup.specs.Tags.{Attribute, attribute, Tag, closes}
use Rattle.fnl_expr.specs.Given.{given, text_at, long, has_short_names, earlier, literal_tree}
use Rattle.fnl_expr.specs.Operations.{Pending, fits, made, grouped, before_operator}
use Rattle.fnl_frames.specs.Allowed.{allows}
use Rattle.fnl_frames.specs.Attaching.{with_expr, with_type, with_port, with_decl, with_instance, with_connection}
use Rattle.fnl_frames.specs.Frames.{Frame, outside, in_network, in_port, in_decl, in_instance, in_parameter, in_connection, in_size, in_type, in_value, in_shape, in_list, in_unary, in_sequence, in_empty, in_passed, Class, a_class}
use Rattle.fnl_frames.specs.Net.{Net, Port, a_port, Decl, a_decl, Parameter, a_parameter, Instance, an_instance, Size, a_size, Connection, a_connection, empty_net}
use Rattle.fnl_read.specs.Closing.{closed, end_expr}
use Rattle.fnl_read.specs.Elements.{run}
use Rattle.fnl_read.specs.Opening.{is_passed, open_element, opened, enter, attribute_in, attribute_with}
use Rattle.fnl_read.specs.States.{State, Next, Going, fresh}
use Rattle.fnl_frames.specs.declared.element.Element.{Element}
use Rattle.fnl_frames.specs.declared.element.Element.TheVariants as elements
use Rattle.fnl_grammar.specs.Rows.{Item, operand, operator, loosest, Groups, AreSeveral}
use Rattle.fnl_grammar.specs.Productions.{around, IsCalled, is_size_in, is_buffer_size, ArePassed, passed_none, passed_more, IsPassed, the_passed, IsPrefixOp, the_prefix_op, IsBinaryOp, the_binary_op, IsExpr, the_literal, the_variable, the_list, the_operation, the_sequence, AreItems, no_items, one_item_more, IsRow, the_first, the_next, IsType, the_type, AreEntries, no_entries, one_entry_more, IsEntry, the_value, the_shape, IsPort, the_port, HasDeclared, nothing_declared, type_declared, value_declared, IsDecl, the_param, the_decl, IsClass, the_class, IsParameter, the_parameter, InInstance, instance_empty, and_class, and_parameter, and_attribute, IsInstance, the_instance, the_size, the_other, InConnection, connection_empty, and_size, and_other, IsConnection, the_connection, InNetwork, network_empty, with_a_port, with_a_decl, with_an_instance, with_a_connection, with_an_attribute, IsNetwork, the_network}
use Rattle.fnl_grammar.proofs.Reading.{Read, read, reads, reads_on, then_reads, reads_append}
use Rattle.fnl_grammar.proofs.Grouped.{is_read, IsRead, IsWhole}

abbrev pub st : Frame → List Frame → State
st top below = record { top = top; below = below }

-- ---- elements that begin and end

opened_is : (name : List ℕ) (attributes : List Attribute) (at : ℕ) (f : Frame) (bs : List Frame) (e : Element) (next : Next)
    → is_passed f ≡ false → IsCalled name e → allows f e ≡ true → open_element e attributes at (st f bs) ≡ next → opened name attributes at (st f bs) ≡ next
opened_is name attributes at f bs e next p c a h = rw (p, c, a) h

entering : (g f : Frame) (bs : List Frame) (at room : ℕ) → length bs + suc room ≤ 64 → enter g None at (st f bs) ≡ Going (st g (f ∷ bs))
entering g f bs at room less = by_test (nat_le 64 (length bs)) refl
  where
    by_test : (b : Bool) → nat_le 64 (length bs) ≡ b → enter g None at (st f bs) ≡ Going (st g (f ∷ bs))
    by_test true e = let most : 64 ≤ length bs = leb-true 64 (length bs) e in absurd (omega (arith, most, less))
    by_test false e = rw e refl

-- an element with what stands in it
element_runs : (name : List ℕ) (attributes : List Attribute) (at : ℕ) (inside : List Tag) (end : ℕ) (rest : List Tag) (f g g' f' : Frame) (bs : List Frame)
    → opened name attributes at (st f bs) ≡ Going (st g (f ∷ bs))
    → ((more : List Tag) → run (Going (st g (f ∷ bs))) (inside ++ more) ≡ run (Going (st g' (f ∷ bs))) more)
    → closed end (st g' (f ∷ bs)) ≡ Going (st f' bs)
    → run (Going (st f bs)) (around name attributes at inside end ++ rest) ≡ run (Going (st f' bs)) rest
element_runs name attributes at inside end rest f g g' f' bs o i c =
    ap (λ n. run n ((inside ++ (closes end ∷ [])) ++ rest)) o
    ∙ ap (run (Going (st g (f ∷ bs)))) (append_assoc inside (closes end ∷ []) rest)
    ∙ i (closes end ∷ rest) ∙ ap (λ n. run n rest) c

-- an element that has nothing inside
empty_runs : (name : List ℕ) (attributes : List Attribute) (at end : ℕ) (rest : List Tag) (f f' : Frame) (bs : List Frame)
    → opened name attributes at (st f bs) ≡ Going (st in_empty (f' ∷ bs))
    → run (Going (st f bs)) (around name attributes at [] end ++ rest) ≡ run (Going (st f' bs)) rest
empty_runs name attributes at end rest f f' bs o = ap (λ n. run n (closes end ∷ rest)) o

-- one part behind others
parts_run : (before inside rest : List Tag) (f g h : Frame) (bs : List Frame)
    → ((more : List Tag) → run (Going (st f bs)) (before ++ more) ≡ run (Going (st g bs)) more)
    → run (Going (st g bs)) (inside ++ rest) ≡ run (Going (st h bs)) rest
    → run (Going (st f bs)) ((before ++ inside) ++ rest) ≡ run (Going (st h bs)) rest
parts_run before inside rest f g h bs i j = ap (run (Going (st f bs))) (append_assoc before inside rest) ∙ i (inside ++ rest) ∙ j

made_is : (t : Tree) → fits t ≡ true → made t ≡ Some t
made_is t h = rw h refl

short : (text : List ℕ) (place : ℕ) → has_short_names text ≡ true → long (text_at text place) ≡ None
short text place h = rw h refl

-- ---- what is passed over

pub passed_run : {room : ℕ} {tags : List Tag} → ArePassed room tags → (bs : List Frame) (rest : List Tag) → length bs + room ≤ 64
    → run (Going (st in_passed bs)) (tags ++ rest) ≡ run (Going (st in_passed bs)) rest
passed_run (passed_none) bs rest less = refl
passed_run (passed_more {room = room} {before = before} {inside = inside} name attributes at end h k) bs rest less =
    parts_run before (around name attributes at inside end) rest in_passed in_passed in_passed bs (λ more. passed_run h bs more less)
    (element_runs name attributes at inside end rest in_passed in_passed in_passed in_passed bs (entering in_passed in_passed bs at room less) (λ more. passed_run k (in_passed ∷ bs) more (omega (arith, less))) refl)

-- ---- expressions

-- what is read of a row and one operator and operand more
record Turn (row : List Item) (op : BinOp) (t : Tree) (ws : List Pending) (r : Tree) : Type 0 where
  waiting : List Pending
  last : Tree
  is : reads row [] None ≡ Some (read waiting (Some last))
  turns : before_operator op waiting last ≡ Some ws
  same : t ≡ r

turn : (row : List Item) (op : BinOp) (t : Tree) (ws : List Pending) (r : Tree) → reads (row ++ operator op ∷ operand t ∷ []) [] None ≡ Some (read ws (Some r)) → Turn row op t ws r
turn row op t ws r e = by_row (reads row [] None) refl
  where
    two : List Item
    two = operator op ∷ operand t ∷ []

    of_turn : (w : List Pending) (x : Tree) → reads row [] None ≡ Some (read w (Some x)) → (found : Option (List Pending)) → before_operator op w x ≡ found
        → reads_on (operand t ∷ []) found ≡ Some (read ws (Some r)) → Turn row op t ws r
    of_turn w x is None f h = absurd cc
    of_turn w x is (Some v) f h =
        let so : v ≡ ws = cc in
        let last : t ≡ r = cc in
        record { waiting = w; last = x; is = is; turns = f ∙ ap Some so; same = last }

    by_row : (found : Option Read) → reads row [] None ≡ found → Turn row op t ws r
    by_row None is = let no : None ≡ Some (read ws (Some r)) = ap (λ x. then_reads x two) (sym is) ∙ sym (reads_append row two [] None) ∙ e in absurd cc
    by_row (Some (read w None)) is = let no : None ≡ Some (read ws (Some r)) = ap (λ x. then_reads x two) (sym is) ∙ sym (reads_append row two [] None) ∙ e in absurd cc
    by_row (Some (read w (Some x))) is =
        let here : reads_on (operand t ∷ []) (before_operator op w x) ≡ Some (read ws (Some r)) = ap (λ y. then_reads y two) (sym is) ∙ sym (reads_append row two [] None) ∙ e in
        of_turn w x is (before_operator op w x) refl here

-- a row of several items has what waits at its end
sequence_closes : (end there : ℕ) (ws : List Pending) (r t : Tree) (f : Frame) (bs : List Frame) → grouped there ws r ≡ Some t
    → closed end (st (in_sequence ws (Some r) there) (f ∷ bs)) ≡ Going (st (with_expr t f) bs)
sequence_closes end there [] r t f bs e = absurd cc
sequence_closes end there (p ∷ ws) r t f bs e = ap (λ g. end_expr g there end (st (in_sequence (p ∷ ws) (Some r) there) (f ∷ bs))) e

-- the parts of an operation
abbrev op_in : Tree → BinOp
op_in (binary op l r p) = op
op_in t = binaries.Or

abbrev left_in : Tree → Tree
left_in (binary op l r p) = l
left_in t = t

abbrev right_in : Tree → Tree
right_in (binary op l r p) = r
right_in t = t

-- what a row that is grouped is read as
record Ready (at : ℕ) (row : List Item) (t : Tree) : Type 0 where
  ws : List Pending
  last : Tree
  is : reads row [] None ≡ Some (read ws (Some last))
  whole : grouped at ws last ≡ Some t

ready : (at place : ℕ) (row : List Item) (op : BinOp) (l r : Tree) → AreSeveral row → Groups loosest row (binary op l r place) → fits (binary op l r at) ≡ true → Ready at row (binary op l r at)
ready at place row op l r several g fit = of_read (is_read loosest row (binary op l r place) g fit [] tt)
  where
    of_whole : (h : IsRead loosest row [] (binary op l r place)) → (row ≡ operand (binary op l r place) ∷ []) ⊎ IsWhole at (h.ws ++ []) h.last (binary op l r place) → Ready at row (binary op l r at)
    of_whole h (inl one) = absurd (subst AreSeveral one several)
    of_whole h (inr w) =
        let same : binary op l r place ≡ binary w.op w.left w.right w.place = w.is in
        let tree : binary w.op w.left w.right at ≡ binary op l r at = ap (λ x. binary (op_in x) (left_in x) (right_in x) at) (sym same) in
        record {
          ws = h.ws;
          last = h.last;
          is = h.is ∙ ap (λ w. Some (read w (Some h.last))) (append-nil h.ws);
          whole = ap (λ w. grouped at w h.last) (sym (append-nil h.ws)) ∙ w.so ∙ ap made tree ∙ made_is (binary op l r at) fit;
        }

    of_read : IsRead loosest row [] (binary op l r place) → Ready at row (binary op l r at)
    of_read h = of_whole h (h.so.whole at refl)

prefix_op_runs : {room : ℕ} {tags : List Tag} {op : PrefixOp} → IsPrefixOp room tags op → (there : ℕ) (bs : List Frame) (rest : List Tag) → length bs + room ≤ 64
    → run (Going (st (in_unary None None there) bs)) (tags ++ rest) ≡ run (Going (st (in_unary (Some op) None there) bs)) rest
prefix_op_runs (the_prefix_op {room = room} {at = at} {name = name} {attributes = attributes} {op = op} end c g) there bs rest less =
    empty_runs name attributes at end rest (in_unary None None there) (in_unary (Some op) None there) bs
    (opened_is name attributes at (in_unary None None there) bs elements.Op _ refl c refl (rw g (entering in_empty (in_unary (Some op) None there) bs at room less)))

binary_op_runs : {room : ℕ} {tags : List Tag} {op : BinOp} → IsBinaryOp room tags op → (there : ℕ) (ws new : List Pending) (r : Tree) (bs : List Frame) (rest : List Tag) → before_operator op ws r ≡ Some new → length bs + room ≤ 64
    → run (Going (st (in_sequence ws (Some r) there) bs)) (tags ++ rest) ≡ run (Going (st (in_sequence new None there) bs)) rest
binary_op_runs (the_binary_op {room = room} {at = at} {name = name} {attributes = attributes} {op = op} end c g) there ws new r bs rest turns less =
    empty_runs name attributes at end rest (in_sequence ws (Some r) there) (in_sequence new None there) bs
    (opened_is name attributes at (in_sequence ws (Some r) there) bs elements.Op _ refl c refl (rw (g, turns) (entering in_empty (in_sequence new None there) bs at room less)))

mutual
  pub expr_runs : {room : ℕ} {tags : List Tag} {t : Tree} → IsExpr room tags t → (f : Frame) (bs : List Frame) (rest : List Tag)
      → is_passed f ≡ false → allows f elements.Expr ≡ true → length bs + room ≤ 64
      → run (Going (st f bs)) (tags ++ rest) ≡ run (Going (st (with_expr t f) bs)) rest
  expr_runs (the_literal {room = room} {at = at} {name = name} {attributes = attributes} {l = l} end c k g) f bs rest p a less =
      empty_runs name attributes at end rest f (with_expr (literal_tree l at) f) bs
      (opened_is name attributes at f bs elements.Expr _ p c a (rw (k, g) (entering in_empty (with_expr (literal_tree l at) f) bs at room less)))
  expr_runs (the_variable {room = room} {at = at} {name = name} {text = text} {attributes = attributes} end c k g) f bs rest p a less =
      empty_runs name attributes at end rest f (with_expr (variable text at) f) bs
      (opened_is name attributes at f bs elements.Expr _ p c a (rw (k, g.is, g.short) (entering in_empty (with_expr (variable text at) f) bs at room less)))
  expr_runs (the_list {room = room} {at = at} {name = name} {attributes = attributes} {inside = inside} {item = item} {items = items} end c k h fit) f bs rest p a less =
      element_runs name attributes at inside end rest f (in_list [] at) (in_list (item ∷ items) at) (with_expr (list (listed (item ∷ items)) at) f) bs
      (opened_is name attributes at f bs elements.Expr _ p c a (rw k (entering (in_list [] at) f bs at room less)))
      (λ more. items_run h [] at (f ∷ bs) more (omega (arith, less)))
      (rw (made_is (list (listed (item ∷ items)) at) fit) refl)
  expr_runs (the_operation {room = room} {at = at} {name = name} {attributes = attributes} {before = before} {inside = inside} {op = op} {t = t} end c k o h fit) f bs rest p a less =
      element_runs name attributes at (before ++ inside) end rest f (in_unary None None at) (in_unary (Some op) (Some t) at) (with_expr (prefix op t at) f) bs
      (opened_is name attributes at f bs elements.Expr _ p c a (rw k (entering (in_unary None None at) f bs at room less)))
      (λ more. parts_run before inside more (in_unary None None at) (in_unary (Some op) None at) (in_unary (Some op) (Some t) at) (f ∷ bs)
      (λ rest_. prefix_op_runs o at (f ∷ bs) rest_ (omega (arith, less)))
      (expr_runs h (in_unary (Some op) None at) (f ∷ bs) more refl refl (omega (arith, less))))
      (rw (made_is (prefix op t at) fit) refl)
  expr_runs (the_sequence {room = room} {at = at} {place = place} {name = name} {attributes = attributes} {inside = inside} {row = row} {op = op} {left = left} {right = right} end c k h several g fit) f bs rest p a less =
      let it = ready at place row op left right several g fit in
      element_runs name attributes at inside end rest f (in_sequence [] None at) (in_sequence it.ws (Some it.last) at) (with_expr (binary op left right at) f) bs
      (opened_is name attributes at f bs elements.Expr _ p c a (rw k (entering (in_sequence [] None at) f bs at room less)))
      (λ more. row_runs h at it.ws it.last (f ∷ bs) more it.is (omega (arith, less)))
      (sequence_closes end at it.ws it.last (binary op left right at) f bs it.whole)

  items_run : {room : ℕ} {tags : List Tag} {ts : List Tree} → AreItems room tags ts → (items : List Tree) (there : ℕ) (bs : List Frame) (rest : List Tag) → length bs + room ≤ 64
      → run (Going (st (in_list items there) bs)) (tags ++ rest) ≡ run (Going (st (in_list (items ++ ts) there) bs)) rest
  items_run (no_items) items there bs rest less = ap (λ x. run (Going (st (in_list x there) bs)) rest) (sym (append-nil items))
  items_run (one_item_more {room = room} {before = before} {inside = inside} {items = ts} {item = t} h k) items there bs rest less =
      parts_run before inside rest (in_list items there) (in_list (items ++ ts) there) (in_list (items ++ (ts ++ t ∷ [])) there) bs
      (λ more. items_run h items there bs more less)
      (expr_runs k (in_list (items ++ ts) there) bs rest refl refl less ∙ ap (λ x. run (Going (st (in_list x there) bs)) rest) (append_assoc items ts (t ∷ [])))

  row_runs : {room : ℕ} {tags : List Tag} {row : List Item} → IsRow room tags row → (there : ℕ) (ws : List Pending) (r : Tree) (bs : List Frame) (rest : List Tag)
      → reads row [] None ≡ Some (read ws (Some r)) → length bs + room ≤ 64
      → run (Going (st (in_sequence [] None there) bs)) (tags ++ rest) ≡ run (Going (st (in_sequence ws (Some r) there) bs)) rest
  row_runs (the_first {room = room} {inside = inside} {t = t} h) there ws r bs rest e less =
      let none : [] ≡ ws = cc in
      let same : t ≡ r = cc in
      expr_runs h (in_sequence [] None there) bs rest refl refl less ∙ ap (λ w. run (Going (st (in_sequence w (Some t) there) bs)) rest) none ∙ ap (λ x. run (Going (st (in_sequence ws (Some x) there) bs)) rest) same
  row_runs (the_next {room = room} {before = before} {between = between} {inside = inside} {row = row} {op = op} {t = t} h o k) there ws r bs rest e less =
      let it = turn row op t ws r e in
      parts_run before (between ++ inside) rest (in_sequence [] None there) (in_sequence it.waiting (Some it.last) there) (in_sequence ws (Some r) there) bs
      (λ more. row_runs h there it.waiting it.last bs more it.is less)
      (parts_run between inside rest (in_sequence it.waiting (Some it.last) there) (in_sequence ws None there) (in_sequence ws (Some r) there) bs
      (λ more. binary_op_runs o there it.waiting ws it.last bs more it.turns less)
      (expr_runs k (in_sequence ws None there) bs rest refl refl less ∙ ap (λ x. run (Going (st (in_sequence ws (Some x) there) bs)) rest) it.same))

-- ---- types

mutual
  pub type_runs : {room : ℕ} {tags : List Tag} {t : Tree} → IsType room tags t → (f : Frame) (bs : List Frame) (rest : List Tag)
      → is_passed f ≡ false → allows f elements.Type ≡ true → length bs + room ≤ 64
      → run (Going (st f bs)) (tags ++ rest) ≡ run (Going (st (with_type t f) bs)) rest
  type_runs (the_type {room = room} {at = at} {place = place} {name = name} {text = text} {attributes = attributes} {inside = inside} {args = args} end c g h) f bs rest p a less =
      element_runs name attributes at inside end rest f (in_type (ident text place) [] at) (in_type (ident text place) args at) (with_type (type_of (ident text place) (listed args) at) f) bs
      (opened_is name attributes at f bs elements.Type _ p c a (rw g (entering (in_type (ident text place) [] at) f bs at room less)))
      (λ more. entries_run h (ident text place) [] at (f ∷ bs) more (omega (arith, less)))
      refl

  entries_run : {room : ℕ} {tags : List Tag} {args : List Tree} → AreEntries room tags args → (name : Tree) (old : List Tree) (there : ℕ) (bs : List Frame) (rest : List Tag) → length bs + room ≤ 64
      → run (Going (st (in_type name old there) bs)) (tags ++ rest) ≡ run (Going (st (in_type name (old ++ args) there) bs)) rest
  entries_run (no_entries) name old there bs rest less = ap (λ x. run (Going (st (in_type name x there) bs)) rest) (sym (append-nil old))
  entries_run (one_entry_more {room = room} {before = before} {inside = inside} {args = args} {arg = arg} h k) name old there bs rest less =
      parts_run before inside rest (in_type name old there) (in_type name (old ++ args) there) (in_type name (old ++ (args ++ arg ∷ [])) there) bs
      (λ more. entries_run h name old there bs more less)
      (entry_runs k name (old ++ args) there bs rest less ∙ ap (λ x. run (Going (st (in_type name x there) bs)) rest) (append_assoc old args (arg ∷ [])))

  entry_runs : {room : ℕ} {tags : List Tag} {arg : Tree} → IsEntry room tags arg → (name : Tree) (old : List Tree) (there : ℕ) (bs : List Frame) (rest : List Tag) → length bs + room ≤ 64
      → run (Going (st (in_type name old there) bs)) (tags ++ rest) ≡ run (Going (st (in_type name (old ++ arg ∷ []) there) bs)) rest
  entry_runs (the_value {room = room} {at = at} {place = place} {name = tag} {text = text} {attributes = attributes} {inside = inside} {t = t} end c k g h) name old there bs rest less =
      element_runs tag attributes at inside end rest (in_type name old there) (in_value (ident text place) None) (in_value (ident text place) (Some t)) (in_type name (old ++ value_arg (ident text place) t ∷ []) there) bs
      (opened_is tag attributes at (in_type name old there) bs elements.Entry _ refl c refl (rw (k, g) (entering (in_value (ident text place) None) (in_type name old there) bs at room less)))
      (λ more. expr_runs h (in_value (ident text place) None) (in_type name old there ∷ bs) more refl refl (omega (arith, less)))
      refl
  entry_runs (the_shape {room = room} {at = at} {place = place} {name = tag} {text = text} {attributes = attributes} {inside = inside} {t = t} end c k g h) name old there bs rest less =
      element_runs tag attributes at inside end rest (in_type name old there) (in_shape (ident text place) None) (in_shape (ident text place) (Some t)) (in_type name (old ++ shape_arg (ident text place) t ∷ []) there) bs
      (opened_is tag attributes at (in_type name old there) bs elements.Entry _ refl c refl (rw (k, g) (entering (in_shape (ident text place) None) (in_type name old there) bs at room less)))
      (λ more. type_runs h (in_shape (ident text place) None) (in_type name old there ∷ bs) more refl refl (omega (arith, less)))
      refl

-- ---- ports and declarations

port_runs : {room : ℕ} {tags : List Tag} {p : Port} → IsPort room tags p → (net : Net) (bs : List Frame) (rest : List Tag) → length bs + room ≤ 64
    → run (Going (st (in_network net) bs)) (tags ++ rest) ≡ run (Going (st (with_port p (in_network net)) bs)) rest
port_runs (the_port {room = room} {at = at} {name = name} {text = text} {attributes = attributes} {inside = inside} {input = input} {shape = shape} end c k g h) net bs rest less =
    element_runs name attributes at inside end rest (in_network net) (in_port input text None at) (in_port input text (Some shape) at) (with_port (a_port input shape text at) (in_network net)) bs
    (opened_is name attributes at (in_network net) bs elements.Port _ refl c refl (rw (k, g.is, g.short) (entering (in_port input text None at) (in_network net) bs at room less)))
    (λ more. type_runs h (in_port input text None at) (in_network net ∷ bs) more refl refl (omega (arith, less)))
    refl

declared_run : {room : ℕ} {tags : List Tag} {shape value : Option Tree} → HasDeclared room tags shape value → (param : Bool) (text : List ℕ) (at : ℕ) (bs : List Frame) (rest : List Tag) → length bs + room ≤ 64
    → run (Going (st (in_decl param text None None at) bs)) (tags ++ rest) ≡ run (Going (st (in_decl param text shape value at) bs)) rest
declared_run (nothing_declared) param text at bs rest less = refl
declared_run (type_declared {before = before} {inside = inside} {shape = shape} {value = value} h k) param text at bs rest less =
    parts_run before inside rest (in_decl param text None None at) (in_decl param text None value at) (in_decl param text (Some shape) value at) bs
    (λ more. declared_run h param text at bs more less)
    (type_runs k (in_decl param text None value at) bs rest refl refl less)
declared_run (value_declared {before = before} {inside = inside} {shape = shape} {value = value} h k) param text at bs rest less =
    parts_run before inside rest (in_decl param text None None at) (in_decl param text shape None at) (in_decl param text shape (Some value) at) bs
    (λ more. declared_run h param text at bs more less)
    (expr_runs k (in_decl param text shape None at) bs rest refl refl less)

decl_runs : {room : ℕ} {tags : List Tag} {d : Decl} → IsDecl room tags d → (net : Net) (bs : List Frame) (rest : List Tag) → length bs + room ≤ 64
    → run (Going (st (in_network net) bs)) (tags ++ rest) ≡ run (Going (st (with_decl d (in_network net)) bs)) rest
decl_runs (the_param {room = room} {at = at} {name = name} {text = text} {attributes = attributes} {inside = inside} {shape = shape} end c k g h) net bs rest less =
    element_runs name attributes at inside end rest (in_network net) (in_decl true text None None at) (in_decl true text (Some shape) None at) (with_decl (a_decl true shape text absent at) (in_network net)) bs
    (opened_is name attributes at (in_network net) bs elements.Decl _ refl c refl (rw (k, g.is, g.short) (entering (in_decl true text None None at) (in_network net) bs at room less)))
    (λ more. declared_run h true text at (in_network net ∷ bs) more (omega (arith, less)))
    refl
decl_runs (the_decl {room = room} {at = at} {name = name} {text = text} {attributes = attributes} {inside = inside} {param = param} {shape = shape} {value = value} end c k g h) net bs rest less =
    element_runs name attributes at inside end rest (in_network net) (in_decl param text None None at) (in_decl param text (Some shape) (Some value) at) (with_decl (a_decl param shape text (present value) at) (in_network net)) bs
    (opened_is name attributes at (in_network net) bs elements.Decl _ refl c refl (rw (k, g.is, g.short) (entering (in_decl param text None None at) (in_network net) bs at room less)))
    (λ more. declared_run h param text at (in_network net ∷ bs) more (omega (arith, less)))
    (closes_decl param)
  where
    closes_decl : (b : Bool) → closed end (st (in_decl b text (Some shape) (Some value) at) (in_network net ∷ bs)) ≡ Going (st (with_decl (a_decl b shape text (present value) at) (in_network net)) bs)
    closes_decl true = refl
    closes_decl false = refl

-- ---- instances

-- an attribute begins that is passed over
attribute_opens : (attributes : List Attribute) (at room : ℕ) (f : Frame) (bs : List Frame) (is : Bool) → is_buffer_size attributes ≡ Some is
    → ((name : List ℕ) → bytes_eq name (codes "bufferSize") ≡ is → attribute_in f name at ≡ in_passed) → length bs + suc room ≤ 64
    → attribute_with (given (codes "name") attributes) at (st f bs) ≡ Going (st in_passed (f ∷ bs))
attribute_opens attributes at room f bs is e passes less = by_found (given (codes "name") attributes) e
  where
    by_found : (found : Option Attribute) → is_size_in found ≡ Some is → attribute_with found at (st f bs) ≡ Going (st in_passed (f ∷ bs))
    by_found None h = absurd cc
    by_found (Some (attribute key name place)) h =
        let same : bytes_eq name (codes "bufferSize") ≡ is = cc in
        ap (λ g. enter g None at (st f bs)) (passes name same) ∙ entering in_passed f bs at room less

attribute_runs : {room : ℕ} {tags : List Tag} → IsPassed room tags → (f : Frame) (bs : List Frame) (rest : List Tag)
    → is_passed f ≡ false → allows f elements.Attribute ≡ true → ((name : List ℕ) (at : ℕ) → attribute_in f name at ≡ in_passed) → length bs + room ≤ 64
    → run (Going (st f bs)) (tags ++ rest) ≡ run (Going (st f bs)) rest
attribute_runs (the_passed {room = room} {at = at} {inside = inside} {name = name} {attributes = attributes} {is = is} end c e h) f bs rest p a passes less =
    element_runs name attributes at inside end rest f in_passed in_passed f bs
    (opened_is name attributes at f bs elements.Attribute _ p c a (attribute_opens attributes at room f bs is e (λ text same. passes text at) less))
    (λ more. passed_run h (f ∷ bs) more (omega (arith, less)))
    refl

class_runs : {room at : ℕ} {tags : List Tag} {text : List ℕ} → IsClass room tags text at → (id : List ℕ) (parameters : List Parameter) (there : ℕ) (bs : List Frame) (rest : List Tag) → length bs + room ≤ 64
    → run (Going (st (in_instance id None parameters there) bs)) (tags ++ rest) ≡ run (Going (st (in_instance id (Some (a_class text at)) parameters there) bs)) rest
class_runs (the_class {room = room} {at = at} {name = name} {text = text} {attributes = attributes} end c g) id parameters there bs rest less =
    empty_runs name attributes at end rest (in_instance id None parameters there) (in_instance id (Some (a_class text at)) parameters there) bs
    (opened_is name attributes at (in_instance id None parameters there) bs elements.Class _ refl c refl
    (rw (g.is, g.short) (entering in_empty (in_instance id (Some (a_class text at)) parameters there) bs at room less)))

parameter_runs : {room : ℕ} {tags : List Tag} {p : Parameter} → IsParameter room tags p → (id : List ℕ) (class : Option Class) (parameters : List Parameter) (there : ℕ) (bs : List Frame) (rest : List Tag) → length bs + room ≤ 64
    → run (Going (st (in_instance id class parameters there) bs)) (tags ++ rest) ≡ run (Going (st (in_instance id class (parameters ++ p ∷ []) there) bs)) rest
parameter_runs (the_parameter {room = room} {at = at} {name = name} {text = text} {attributes = attributes} {inside = inside} {t = t} end c g h) id class parameters there bs rest less =
    element_runs name attributes at inside end rest (in_instance id class parameters there) (in_parameter text None at) (in_parameter text (Some t) at) (in_instance id class (parameters ++ a_parameter text t at ∷ []) there) bs
    (opened_is name attributes at (in_instance id class parameters there) bs elements.Parameter _ refl c refl
    (rw (g.is, g.short) (entering (in_parameter text None at) (in_instance id class parameters there) bs at room less)))
    (λ more. expr_runs h (in_parameter text None at) (in_instance id class parameters there ∷ bs) more refl refl (omega (arith, less)))
    refl

in_instance_runs : {room : ℕ} {tags : List Tag} {class : Option Class} {parameters : List Parameter} → InInstance room tags class parameters → (id : List ℕ) (there : ℕ) (bs : List Frame) (rest : List Tag) → length bs + room ≤ 64
    → run (Going (st (in_instance id None [] there) bs)) (tags ++ rest) ≡ run (Going (st (in_instance id class parameters there) bs)) rest
in_instance_runs (instance_empty) id there bs rest less = refl
in_instance_runs (and_class {at = at} {before = before} {inside = inside} {text = text} {parameters = parameters} h k) id there bs rest less =
    parts_run before inside rest (in_instance id None [] there) (in_instance id None parameters there) (in_instance id (Some (a_class text at)) parameters there) bs
    (λ more. in_instance_runs h id there bs more less)
    (class_runs k id parameters there bs rest less)
in_instance_runs (and_parameter {before = before} {inside = inside} {class = class} {parameters = parameters} {p = p} h k) id there bs rest less =
    parts_run before inside rest (in_instance id None [] there) (in_instance id class parameters there) (in_instance id class (parameters ++ p ∷ []) there) bs
    (λ more. in_instance_runs h id there bs more less)
    (parameter_runs k id class parameters there bs rest less)
in_instance_runs (and_attribute {before = before} {inside = inside} {class = class} {parameters = parameters} h k) id there bs rest less =
    parts_run before inside rest (in_instance id None [] there) (in_instance id class parameters there) (in_instance id class parameters there) bs
    (λ more. in_instance_runs h id there bs more less)
    (attribute_runs k (in_instance id class parameters there) bs rest refl refl (λ name at. refl) less)

instance_runs : {room : ℕ} {tags : List Tag} {i : Instance} → IsInstance room tags i → (net : Net) (bs : List Frame) (rest : List Tag) → length bs + room ≤ 64
    → run (Going (st (in_network net) bs)) (tags ++ rest) ≡ run (Going (st (with_instance i (in_network net)) bs)) rest
instance_runs (the_instance {room = room} {at = at} {class_at = class_at} {name = name} {text = text} {class = class} {attributes = attributes} {inside = inside} {parameters = parameters} end c g h) net bs rest less =
    element_runs name attributes at inside end rest (in_network net) (in_instance text None [] at) (in_instance text (Some (a_class class class_at)) parameters at) (with_instance (an_instance text class class_at parameters at) (in_network net)) bs
    (opened_is name attributes at (in_network net) bs elements.Instance _ refl c refl (rw (g.is, g.short) (entering (in_instance text None [] at) (in_network net) bs at room less)))
    (λ more. in_instance_runs h text at (in_network net ∷ bs) more (omega (arith, less)))
    refl

-- ---- connections

size_opens : (attributes : List Attribute) (at room : ℕ) (src src_port dst dst_port : List ℕ) (sizes : List Size) (there : ℕ) (bs : List Frame) → is_buffer_size attributes ≡ Some true → length bs + suc room ≤ 64
    → attribute_with (given (codes "name") attributes) at (st (in_connection src src_port dst dst_port sizes there) bs) ≡ Going (st (in_size None at) (in_connection src src_port dst dst_port sizes there ∷ bs))
size_opens attributes at room src src_port dst dst_port sizes there bs e less = by_found (given (codes "name") attributes) e
  where
    by_found : (found : Option Attribute) → is_size_in found ≡ Some true → attribute_with found at (st (in_connection src src_port dst dst_port sizes there) bs) ≡ Going (st (in_size None at) (in_connection src src_port dst dst_port sizes there ∷ bs))
    by_found None h = absurd cc
    by_found (Some (attribute key name place)) h =
        let same : bytes_eq name (codes "bufferSize") ≡ true = cc in
        rw same (entering (in_size None at) (in_connection src src_port dst dst_port sizes there) bs at room less)

in_connection_runs : {room : ℕ} {tags : List Tag} {sizes : List Size} → InConnection room tags sizes → (src src_port dst dst_port : List ℕ) (there : ℕ) (bs : List Frame) (rest : List Tag) → length bs + room ≤ 64
    → run (Going (st (in_connection src src_port dst dst_port [] there) bs)) (tags ++ rest) ≡ run (Going (st (in_connection src src_port dst dst_port sizes there) bs)) rest
in_connection_runs (connection_empty) src src_port dst dst_port there bs rest less = refl
in_connection_runs (and_size {before = before} {sizes = sizes} h (the_size {room = room} {at = at} {name = name} {attributes = attributes} {inside = inside} {t = t} end c e k)) src src_port dst dst_port there bs rest less =
    parts_run before (around name attributes at inside end) rest (in_connection src src_port dst dst_port [] there) (in_connection src src_port dst dst_port sizes there) (in_connection src src_port dst dst_port (sizes ++ a_size t at ∷ []) there) bs
    (λ more. in_connection_runs h src src_port dst dst_port there bs more less)
    (element_runs name attributes at inside end rest (in_connection src src_port dst dst_port sizes there) (in_size None at) (in_size (Some t) at) (in_connection src src_port dst dst_port (sizes ++ a_size t at ∷ []) there) bs
    (opened_is name attributes at (in_connection src src_port dst dst_port sizes there) bs elements.Attribute _ refl c refl (size_opens attributes at room src src_port dst dst_port sizes there bs e less))
    (λ more. expr_runs k (in_size None at) (in_connection src src_port dst dst_port sizes there ∷ bs) more refl refl (omega (arith, less)))
    refl)
in_connection_runs (and_other {before = before} {sizes = sizes} h (the_other {room = room} {at = at} {inside = inside} {name = name} {attributes = attributes} end c e k)) src src_port dst dst_port there bs rest less =
    parts_run before (around name attributes at inside end) rest (in_connection src src_port dst dst_port [] there) (in_connection src src_port dst dst_port sizes there) (in_connection src src_port dst dst_port sizes there) bs
    (λ more. in_connection_runs h src src_port dst dst_port there bs more less)
    (element_runs name attributes at inside end rest (in_connection src src_port dst dst_port sizes there) in_passed in_passed (in_connection src src_port dst dst_port sizes there) bs
    (opened_is name attributes at (in_connection src src_port dst dst_port sizes there) bs elements.Attribute _ refl c refl
    (attribute_opens attributes at room (in_connection src src_port dst dst_port sizes there) bs false e (λ text same. rw same refl) less))
    (λ more. passed_run k (in_connection src src_port dst dst_port sizes there ∷ bs) more (omega (arith, less)))
    refl)

none_earlier : (a b c d : Option ℕ) → a ≡ None → b ≡ None → c ≡ None → d ≡ None → earlier (earlier a b) (earlier c d) ≡ None
none_earlier a b c d ea eb ec ed = rw (ea, eb, ec, ed) refl

connection_runs : {room : ℕ} {tags : List Tag} {k : Connection} → IsConnection room tags k → (net : Net) (bs : List Frame) (rest : List Tag) → length bs + room ≤ 64
    → run (Going (st (in_network net) bs)) (tags ++ rest) ≡ run (Going (st (with_connection k (in_network net)) bs)) rest
connection_runs (the_connection {room = room} {at = at} {name = name} {src = src} {src_port = src_port} {dst = dst} {dst_port = dst_port} {attributes = attributes} {inside = inside} {sizes = sizes} end c g1 g2 g3 g4 h) net bs rest less =
    element_runs name attributes at inside end rest (in_network net) (in_connection src src_port dst dst_port [] at) (in_connection src src_port dst dst_port sizes at) (with_connection (a_connection src src_port dst dst_port sizes at) (in_network net)) bs
    (opened_is name attributes at (in_network net) bs elements.Connection _ refl c refl
    (rw (g1.is, g2.is, g3.is, g4.is, none_earlier _ _ _ _ (short src g1.place g1.short) (short src_port g2.place g2.short) (short dst g3.place g3.short) (short dst_port g4.place g4.short))
    (entering (in_connection src src_port dst dst_port [] at) (in_network net) bs at room less)))
    (λ more. in_connection_runs h src src_port dst dst_port at (in_network net ∷ bs) more (omega (arith, less)))
    refl

-- ---- networks

abbrev net_of : List ℕ → ℕ → List Port → List Decl → List Instance → List Connection → Net
net_of name at ps ds is cs = record { name = name; ports = ps; decls = ds; instances = is; connections = cs; at = at }

in_network_runs : {room : ℕ} {tags : List Tag} {ps : List Port} {ds : List Decl} {is : List Instance} {cs : List Connection} → InNetwork room tags ps ds is cs → (text : List ℕ) (at : ℕ) (bs : List Frame) (rest : List Tag) → length bs + room ≤ 64
    → run (Going (st (in_network (empty_net text at)) bs)) (tags ++ rest) ≡ run (Going (st (in_network (net_of text at ps ds is cs)) bs)) rest
in_network_runs (network_empty) text at bs rest less = refl
in_network_runs (with_a_port {before = before} {inside = inside} {ps = ps} {ds = ds} {is = is} {cs = cs} {p = p} h k) text at bs rest less =
    parts_run before inside rest (in_network (empty_net text at)) (in_network (net_of text at ps ds is cs)) (in_network (net_of text at (ps ++ p ∷ []) ds is cs)) bs
    (λ more. in_network_runs h text at bs more less) (port_runs k (net_of text at ps ds is cs) bs rest less)
in_network_runs (with_a_decl {before = before} {inside = inside} {ps = ps} {ds = ds} {is = is} {cs = cs} {d = d} h k) text at bs rest less =
    parts_run before inside rest (in_network (empty_net text at)) (in_network (net_of text at ps ds is cs)) (in_network (net_of text at ps (ds ++ d ∷ []) is cs)) bs
    (λ more. in_network_runs h text at bs more less) (decl_runs k (net_of text at ps ds is cs) bs rest less)
in_network_runs (with_an_instance {before = before} {inside = inside} {ps = ps} {ds = ds} {is = is} {cs = cs} {i = i} h k) text at bs rest less =
    parts_run before inside rest (in_network (empty_net text at)) (in_network (net_of text at ps ds is cs)) (in_network (net_of text at ps ds (is ++ i ∷ []) cs)) bs
    (λ more. in_network_runs h text at bs more less) (instance_runs k (net_of text at ps ds is cs) bs rest less)
in_network_runs (with_a_connection {before = before} {inside = inside} {ps = ps} {ds = ds} {is = is} {cs = cs} {c = c} h k) text at bs rest less =
    parts_run before inside rest (in_network (empty_net text at)) (in_network (net_of text at ps ds is cs)) (in_network (net_of text at ps ds is (cs ++ c ∷ []))) bs
    (λ more. in_network_runs h text at bs more less) (connection_runs k (net_of text at ps ds is cs) bs rest less)
in_network_runs (with_an_attribute {before = before} {inside = inside} {ps = ps} {ds = ds} {is = is} {cs = cs} h k) text at bs rest less =
    parts_run before inside rest (in_network (empty_net text at)) (in_network (net_of text at ps ds is cs)) (in_network (net_of text at ps ds is cs)) bs
    (λ more. in_network_runs h text at bs more less) (attribute_runs k (in_network (net_of text at ps ds is cs)) bs rest refl refl (λ name there. refl) less)

-- the tags of a network are read as that network
pub network_runs : {tags : List Tag} {net : Net} → IsNetwork 64 tags net → run (Going fresh) tags ≡ Going (st (outside (Some net)) [])
network_runs (the_network {at = at} {name = name} {text = text} {attributes = attributes} {inside = inside} {ps = ps} {ds = ds} {is = is} {cs = cs} end c g h) =
    ap (run (Going fresh)) (sym (append-nil (around name attributes at inside end)))
    ∙ element_runs name attributes at inside end [] (outside None) (in_network (empty_net text at)) (in_network (net_of text at ps ds is cs)) (outside (Some (net_of text at ps ds is cs))) []
    (opened_is name attributes at (outside None) [] elements.Xdf _ refl c refl (rw (g.is, g.short) (entering (in_network (empty_net text at)) (outside None) [] at 63 (omega arith))))
    (λ more. in_network_runs h text at (outside None ∷ []) more (omega arith))
    refl
