-- Which cells names have doesn't matter to what is left out of statements.
use Rattle.std.proofs.Common.{◌≡◌, ℕ, List, ◌∷◌, map, refl, sym, ap, ◌∙◌, Option, None, Some}
use Rattle.std.specs.Prelude.{if◌then◌else◌, nat_eq}
use Rattle.rvc_base.specs.declared.scalar.Scalar.{Scalar}
use Rattle.cal_ast.specs.Tree as tree
use Rattle.cal_ast.specs.Tree.{Tree}
use Rattle.cal_model.specs.Value.{Shape, Single, Many}
use Rattle.lower_base.specs.declared.names.ItemList.{ItemList}
use Rattle.lower_stmt.specs.declared.targets.ListCells.{ListCells}
use Rattle.lower_base.specs.declared.names.OneCell.{OneCell}
use Rattle.lower_base.specs.declared.names.Seat.{Seat}
use Rattle.lower_base.specs.declared.names.Seat.TheVariants.{Cell, Tokens}
use Rattle.lower_base.specs.Growing.{left_out_in, ◌or_else◌}
use Rattle.lower_base.specs.Listed.{list_named}
use Rattle.lower_base.specs.Names.{local, Name, named}
use Rattle.expr_lower.specs.LeftOut.{left_out_fill}
use Rattle.expr_lower.proofs.Erased.{fill_erased}
use Rattle.lower_base.specs.Meant.{single_meant}
use Rattle.expr_lower.specs.ShapeMeant.{shape_meant}
use Rattle.lower_stmt.specs.ListStarting.{left_out_list_start, local_of}
use Rattle.lower_base.specs.Parted.{Part, number_of, part_named}
use Rattle.lower_stmt.specs.Targets.{cell_of, cell_named, cells_at, cells_of, cells_named, leaf_of, part_in}
use Rattle.lower_stmt.specs.StmtGrowing.{left_out_all, left_out_chosen, left_out_copy, left_out_deep, left_out_each, left_out_filled, left_out_items, left_out_list, left_out_part, left_out_put, left_out_whole, left_out_set, left_out_stmt, left_out_vars}
use Rattle.lower_base.specs.Starting.{left_out_start}
use Rattle.lower_base.specs.Callees.{Function}
use Rattle.lower_base.proofs.Erased.{erase, erase_seat, erased, erased_list, erased_part, list_erased, named_erased, part_erased, args_erased, both_same, out_erased, start_erased}
use Rattle.lower_stmt.specs.Procedures.{Procedure, Routines, procedure_for}

abbrev cell_in_name : Option Name → Option OneCell
cell_in_name o = elim o [ None ↦ None | Some x ↦ cell_of x.seat x.shape ]

abbrev cells_in_list : Option ItemList → Option ListCells
cells_in_list o = elim o [ None ↦ None | Some l ↦ cells_of l ]

-- what comes of it, if there is something, and else something else
abbrev left_else : {A : Type 0} → Option A → Option ℕ → Option ℕ → Option ℕ
left_else o y x = elim o [ None ↦ y | Some a ↦ x ]

-- what is left out of a call: of the arguments, if there are as many as formals
abbrev left_call : Option Procedure → ℕ → Option ℕ → Option ℕ
left_call o at x = elim o [ None ↦ Some at | Some p ↦ x ]

abbrev left_each : Option Scalar → ℕ → (Scalar → Option ℕ) → Option ℕ
left_each o at f = elim o [ None ↦ Some at | Some t ↦ f t ]

-- ---- assignments

cell_left : (seat : Seat) (shape : Shape) (y x : Option ℕ) → left_else (cell_of (erase_seat seat) shape) y x ≡ left_else (cell_of seat shape) y x
cell_left (Cell c) (Single t) y x = refl
cell_left (Cell c) (Many n items) y x = refl
cell_left (Tokens port first step) shape y x = refl

cells_left : (l : ItemList) (seat : Seat) (y x : Option ℕ) → left_else (cells_of (record { seat = erase_seat seat; size = l.size; kind = l.kind })) y x ≡ left_else (cells_of (record { seat = seat; size = l.size; kind = l.kind })) y x
cells_left l (Cell c) y x = refl
cells_left l (Tokens port first step) y x = refl

named_cell : (names : List Name) (text : List ℕ) (y x : Option ℕ) → left_else (cell_named (map erase names) text) y x ≡ left_else (cell_named names text) y x
named_cell names text y x = ap (λ (o : Option Name). left_else (cell_in_name o) y x) (named_erased text names) ∙ go (named text names)
  where
    go : (o : Option Name) → left_else (cell_in_name (erased o)) y x ≡ left_else (cell_in_name o) y x
    go None = refl
    go (Some z) = cell_left z.seat z.shape y x

named_cells : (names : List Name) (text : List ℕ) (y x : Option ℕ) → left_else (cells_named (map erase names) text) y x ≡ left_else (cells_named names text) y x
named_cells names text y x = ap (λ (o : Option ItemList). left_else (cells_in_list o) y x) (list_erased names (tree.variable text 0)) ∙ go (list_named names (tree.variable text 0))
  where
    go : (o : Option ItemList) → left_else (cells_in_list (erased_list o)) y x ≡ left_else (cells_in_list o) y x
    go None = refl
    go (Some l) = cells_left l l.seat y x

-- the places of a part of a list
each_place_erased : (fs : List Function) (names : List Name) (places : Tree) → left_out_each fs (map erase names) places ≡ left_out_each fs names places
each_place_erased fs names (tree.cons place places) = both_same (out_erased fs names place) (each_place_erased fs names places)
each_place_erased fs names other = refl

-- what is left out of a list that is stored whole
abbrev for_cells : Option ListCells → (ListCells → Option ℕ) → ℕ → Option ℕ
for_cells cells f at = elim cells [ None ↦ Some at | Some c ↦ f c ]

items_same : (fs : List Function) (names : List Name) (c : ListCells) (items : Tree) (at : ℕ) → left_out_items fs (map erase names) c items at ≡ left_out_items fs names c items at
items_same fs names c items at = ap (λ o. if nat_eq (number_of items) c.size then o else Some at) (each_place_erased fs names items)

copy_same : (c : ListCells) (list : Option ItemList) (at : ℕ) → left_out_copy c (erased_list list) at ≡ left_out_copy c list at
copy_same c None at = refl
copy_same c (Some l) at = refl

part_same : (fs : List Function) (names : List Name) (o : Option Part) (value : Tree) (at : ℕ) → left_out_part fs (map erase names) (erased_part o) value at ≡ left_out_part fs names o value at
part_same fs names None value at = refl
part_same fs names (Some p) value at = at_seat p.seat
  where
    at_seat : (seat : Seat) → for_cells (cells_at (erase_seat seat) p.size (leaf_of p.shape)) (λ c. left_out_fill fs (map erase names) p.shape value) at ≡ for_cells (cells_at seat p.size (leaf_of p.shape)) (λ c. left_out_fill fs names p.shape value) at
    at_seat (Cell c) = fill_erased fs names p.shape value
    at_seat (Tokens port first step) = refl

filled_same : (fs : List Function) (names : List Name) (text : List ℕ) (value : Tree) (at : ℕ) → left_out_filled fs (map erase names) text value at ≡ left_out_filled fs names text value at
filled_same fs names text value at =
    ap (λ o. left_out_part fs (map erase names) o value at) (part_erased names (tree.variable text 0)) ∙ part_same fs names (part_named names (tree.variable text 0)) value at

whole_same : (fs : List Function) (names : List Name) (c : ListCells) (text : List ℕ) (value : Tree) (at : ℕ) → left_out_whole fs (map erase names) c text value at ≡ left_out_whole fs names c text value at
whole_same fs names c text (tree.list items list) at = items_same fs names c items at
whole_same fs names c text (tree.variable from place) at = ap (λ o. left_out_copy c o at) (list_erased names (tree.variable from place)) ∙ copy_same c (list_named names (tree.variable from place)) at
whole_same fs names c text value at = filled_same fs names text value at

-- which cell it is doesn't matter
whole_moved : (fs : List Function) (names : List Name) (d e size : ℕ) (kind : Scalar) (text : List ℕ) (value : Tree) (at : ℕ) → left_out_whole fs names (record { cell = d; size = size; kind = kind }) text value at ≡ left_out_whole fs names (record { cell = e; size = size; kind = kind }) text value at
whole_moved fs names d e size kind text (tree.list items list) at = refl
whole_moved fs names d e size kind text (tree.variable from place) at = copy_moved (list_named names (tree.variable from place))
  where
    copy_moved : (o : Option ItemList) → left_out_copy (record { cell = d; size = size; kind = kind }) o at ≡ left_out_copy (record { cell = e; size = size; kind = kind }) o at
    copy_moved None = refl
    copy_moved (Some l) = refl
whole_moved fs names d e size kind text value at = refl

abbrev for_whole : Option ListCells → (ListCells → Option ℕ) → Option ℕ → Option ℕ
for_whole cells f other = elim cells [ None ↦ other | Some c ↦ f c ]

whole_list : (fs : List Function) (names : List Name) (text : List ℕ) (value : Tree) (at : ℕ) → left_out_list fs (map erase names) text value at ≡ left_out_list fs names text value at
whole_list fs names text value at =
    ap (λ (o : Option ItemList). for_whole (cells_in_list o) (λ c. left_out_whole fs (map erase names) c text value at) (left_out_filled fs (map erase names) text value at)) (list_erased names (tree.variable text 0))
    ∙ go (list_named names (tree.variable text 0))
  where
    at_seat : (l : ItemList) (seat : Seat) → for_whole (cells_of (record { seat = erase_seat seat; size = l.size; kind = l.kind })) (λ c. left_out_whole fs (map erase names) c text value at) (left_out_filled fs (map erase names) text value at)
        ≡ for_whole (cells_of (record { seat = seat; size = l.size; kind = l.kind })) (λ c. left_out_whole fs names c text value at) (left_out_filled fs names text value at)
    at_seat l (Cell c) = whole_same fs names (record { cell = 0; size = l.size; kind = l.kind }) text value at ∙ whole_moved fs names 0 c l.size l.kind text value at
    at_seat l (Tokens port first step) = filled_same fs names text value at

    go : (o : Option ItemList) → for_whole (cells_in_list (erased_list o)) (λ c. left_out_whole fs (map erase names) c text value at) (left_out_filled fs (map erase names) text value at) ≡ for_whole (cells_in_list o) (λ c. left_out_whole fs names c text value at) (left_out_filled fs names text value at)
    go None = filled_same fs names text value at
    go (Some l) = at_seat l l.seat

-- parts of lists
put_same : (fs : List Function) (names : List Name) (o : Option Shape) (places value : Tree) (at : ℕ) → left_out_put fs (map erase names) o places value at ≡ left_out_put fs names o places value at
put_same fs names None places value at = refl
put_same fs names (Some t) places value at = both_same (each_place_erased fs names places) (fill_erased fs names t value)

chosen_same : (fs : List Function) (names : List Name) (o : Option Part) (places value : Tree) (at : ℕ) → left_out_chosen fs (map erase names) (erased_part o) places value at ≡ left_out_chosen fs names o places value at
chosen_same fs names None places value at = refl
chosen_same fs names (Some p) places value at = at_seat p.seat
  where
    at_seat : (seat : Seat) → for_cells (cells_at (erase_seat seat) p.size (leaf_of p.shape)) (λ c. left_out_put fs (map erase names) (part_in p.shape places) places value at) at ≡ for_cells (cells_at seat p.size (leaf_of p.shape)) (λ c. left_out_put fs names (part_in p.shape places) places value at) at
    at_seat (Cell c) = put_same fs names (part_in p.shape places) places value at
    at_seat (Tokens port first step) = refl

deep_same : (fs : List Function) (names : List Name) (text : List ℕ) (places value : Tree) (at : ℕ) → left_out_deep fs (map erase names) text places value at ≡ left_out_deep fs names text places value at
deep_same fs names text places value at =
    ap (λ o. left_out_chosen fs (map erase names) o places value at) (part_erased names (tree.variable text 0)) ∙ chosen_same fs names (part_named names (tree.variable text 0)) places value at

set_erased : (fs : List Function) (names : List Name) (text : List ℕ) (places value : Tree) (at : ℕ) → left_out_set fs (map erase names) text places value at ≡ left_out_set fs names text places value at
set_erased fs names text tree.nil value at =
    ap (λ y. left_else (cell_named (map erase names) text) y (left_out_in fs (map erase names) value)) (whole_list fs names text value at)
    ∙ named_cell names text (left_out_list fs names text value at) (left_out_in fs (map erase names) value) ∙ ap (λ x. left_else (cell_named names text) (left_out_list fs names text value at) x) (out_erased fs names value)
set_erased fs names text (tree.cons spot tree.nil) value at =
    ap (λ y. left_else (cells_named (map erase names) text) y (left_out_in fs (map erase names) spot or_else left_out_in fs (map erase names) value)) (deep_same fs names text (tree.cons spot tree.nil) value at)
    ∙ named_cells names text (left_out_deep fs names text (tree.cons spot tree.nil) value at) (left_out_in fs (map erase names) spot or_else left_out_in fs (map erase names) value)
    ∙ ap (λ x. left_else (cells_named names text) (left_out_deep fs names text (tree.cons spot tree.nil) value at) x) (both_same (out_erased fs names spot) (out_erased fs names value))
set_erased fs names text places value at = deep_same fs names text places value at

-- ---- statements

each_erased : (rs : Routines) (names : List Name) (text : List ℕ) (from to body : Tree) (at : ℕ) (o : Option Scalar)
    → ((t : Scalar) → left_out_all rs (local text t 0 ∷ map erase names) body ≡ left_out_all rs (local text t 0 ∷ names) body)
    → left_each o at (λ t. left_out_in rs.functions (map erase names) from or_else (left_out_in rs.functions (map erase names) to or_else left_out_all rs (local text t 0 ∷ map erase names) body))
    ≡ left_each o at (λ t. left_out_in rs.functions names from or_else (left_out_in rs.functions names to or_else left_out_all rs (local text t 0 ∷ names) body))
each_erased rs names text from to body at None h = refl
each_erased rs names text from to body at (Some t) h = both_same (out_erased rs.functions names from) (both_same (out_erased rs.functions names to) (h t))

pub list_start_erased : (fs : List Function) (names : List Name) (t : Shape) (start : Tree) → left_out_list_start fs (map erase names) t start ≡ left_out_list_start fs names t start
list_start_erased fs names t tree.absent = refl
list_start_erased fs names t (tree.present e) = fill_erased fs names t e
list_start_erased fs names t other = refl

abbrev in_either : Option Scalar → Option Shape → ℕ → (Scalar → Option ℕ) → (Shape → Option ℕ) → Option ℕ
in_either o p at f g = elim o [ None ↦ elim p [ None ↦ Some at | Some t ↦ g t ] | Some t ↦ f t ]

vars_erased : (rs : Routines) (names : List Name) (vars : Tree) (body : List Name → Option ℕ) → ((inner : List Name) → body (map erase inner) ≡ body inner) → left_out_vars rs (map erase names) vars body ≡ left_out_vars rs names vars body
vars_erased rs names tree.nil body h = h names
vars_erased rs names (tree.cons (tree.var shape (tree.ident text place) start changes at) vars) body h = go (single_meant shape) (shape_meant shape) (λ t. vars_erased rs (local_of text t 0 ∷ names) vars body h)
  where
    go : (o : Option Scalar) (p : Option Shape) → ((t : Shape) → left_out_vars rs (local_of text t 0 ∷ map erase names) vars body ≡ left_out_vars rs (local_of text t 0 ∷ names) vars body)
        → in_either o p at (λ t. left_out_start rs.functions (map erase names) start or_else left_out_vars rs (local text t 0 ∷ map erase names) vars body) (λ t. left_out_list_start rs.functions (map erase names) t start or_else left_out_vars rs (local_of text t 0 ∷ map erase names) vars body)
        ≡ in_either o p at (λ t. left_out_start rs.functions names start or_else left_out_vars rs (local text t 0 ∷ names) vars body) (λ t. left_out_list_start rs.functions names t start or_else left_out_vars rs (local_of text t 0 ∷ names) vars body)
    go None None later = refl
    go None (Some t) later = both_same (list_start_erased rs.functions names t start) (later t)
    go (Some t) p later = both_same (start_erased rs.functions names start) (later (Single t))
vars_erased rs names other body h = refl

mutual
  stmt_erased : (rs : Routines) (names : List Name) (s : Tree) → left_out_stmt rs (map erase names) s ≡ left_out_stmt rs names s
  stmt_erased rs names (tree.assign (tree.ident text place) places value at) = set_erased rs.functions names text places value at
  stmt_erased rs names (tree.call_stmt (tree.ident text place) args at) = ap (λ x. left_call (procedure_for text (number_of args) rs.procedures) at x) (args_erased rs.functions names args)
  stmt_erased rs names (tree.if_stmt test first other at) = both_same (out_erased rs.functions names test) (both_same (all_erased rs names first) (all_erased rs names other))
  stmt_erased rs names (tree.while_stmt test body at) = both_same (all_erased rs names body) (out_erased rs.functions names test)
  stmt_erased rs names (tree.foreach_stmt shape (tree.ident text place) from to body at) =
      each_erased rs names text from to body at (single_meant shape) (λ t. all_erased rs (local text t 0 ∷ names) body)
  stmt_erased rs names (tree.block vars body at) =
      vars_erased rs names vars (λ inner. left_out_all rs inner body) (λ inner. all_erased rs inner body)
  stmt_erased rs names other = refl

  pub all_erased : (rs : Routines) (names : List Name) (ss : Tree) → left_out_all rs (map erase names) ss ≡ left_out_all rs names ss
  all_erased rs names tree.nil = refl
  all_erased rs names (tree.cons s rest) = both_same (stmt_erased rs names s) (all_erased rs names rest)
  all_erased rs names tree.absent = refl
  all_erased rs names (tree.present body) = all_erased rs names body
  all_erased rs names other = refl

-- in any cell a local leaves out the same of statements
pub any_cell : (rs : Routines) (names : List Name) (text : List ℕ) (t : Scalar) (c : ℕ) (body : Tree) → left_out_all rs (local text t c ∷ names) body ≡ left_out_all rs (local text t 0 ∷ names) body
any_cell rs names text t c body = sym (all_erased rs (local text t c ∷ names) body) ∙ all_erased rs (local text t 0 ∷ names) body

-- .. and so do the variables of a block behind it
pub any_cell_vars : (rs : Routines) (names : List Name) (text : List ℕ) (t : Shape) (c : ℕ) (vars body : Tree)
    → left_out_vars rs (local_of text t c ∷ names) vars (λ inner. left_out_all rs inner body) ≡ left_out_vars rs (local_of text t 0 ∷ names) vars (λ inner. left_out_all rs inner body)
any_cell_vars rs names text t c vars body =
    sym (vars_erased rs (local_of text t c ∷ names) vars (λ inner. left_out_all rs inner body) (λ inner. all_erased rs inner body))
    ∙ vars_erased rs (local_of text t 0 ∷ names) vars (λ inner. left_out_all rs inner body) (λ inner. all_erased rs inner body)
