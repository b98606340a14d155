-- The words of the contracts of the parts that lower statements, over what they see.
-- Not trusted: no promise is read with it.
use Rattle.std.specs.Prelude.{◌≡◌, ℕ, pos, true, List, [], ◌∷◌, ◌++◌, map, Option, None, Some, string_bytes}
use Rattle.rvc_base.specs.declared.scalar.Scalar.{Scalar}
use Rattle.cal_model.specs.Value.{Shape}
use Rattle.cal_model.specs.View.{shape_view}
use Rattle.code_ir.specs.declared.instr.Instr.{Instr}
use Rattle.code_ir.specs.declared.instr.Instr.TheVariants as op
use Rattle.cal_ast.specs.Tree as tree
use Rattle.cal_ast.specs.Tree.{Tree, listed}
use Rattle.cal_ast.specs.View.{expr_tree, var_tree}
use Rattle.cal_ast.specs.declared.member.VarDecl.{VarDecl}
use Rattle.cal_ast.specs.declared.stmt.Stmt.{Stmt}
use Rattle.cal_ast.specs.declared.expr.Expr.{Expr}
use Rattle.cal_ast.specs.declared.ident.Ident.{Ident}
use Rattle.lower_base.specs.declared.draft.Draft.{Draft}
use Rattle.lower_base.specs.declared.fault.LowerFault.{LowerFault}
use Rattle.lower_stmt.specs.declared.scope.StmtScope.{StmtScope}
use Rattle.lower_stmt.specs.Procedures.{Routines}
use Rattle.lower_base.specs.Growing.{IsFault}
use Rattle.lower_base.specs.Lowered.{Adds}
use Rattle.lower_base.specs.Names.{Name, local}
use Rattle.lower_base.specs.Bounds.{bound_of}
use Rattle.lower_base.specs.Callees.{Function}
use Rattle.lower_base.specs.Meant.{single_meant}
use Rattle.lower_base.specs.Parted.{Part, part_named, sized}
use Rattle.lower_base.specs.PartView.{places_of}
use Rattle.lower_stmt.specs.ListStarting.{local_of}
use Rattle.lower_stmt.specs.StmtSeen.{called, seen}
use Rattle.lower_stmt.specs.declared.counter.Span.{Span}
use Rattle.lower_stmt.specs.declared.targets.Target.{Target}
use Rattle.lower_stmt.specs.Stating.{AreStmts, IsBlock, IsKept, IsStmt, counts_in_place, step_code}
use Rattle.lower_stmt.specs.StmtGrowing.{left_out_all, left_out_deep, left_out_each, left_out_stmt, left_out_vars}
use Rattle.lower_stmt.specs.StmtWords.{body_of, set_items_of}
use Rattle.lower_stmt.specs.Targets.{part_in, whole_cells_in}

-- the code of a statement was added to a draft
abbrev pub AddsStmt : StmtScope → Tree → Draft → Draft → Type 0
AddsStmt scope s old new = Adds (IsStmt (called scope) (seen scope) s) old new

-- the code of statements was added
abbrev pub AddsStmts : StmtScope → Tree → Draft → Draft → Type 0
AddsStmts scope body old new = Adds (AreStmts (called scope) (seen scope) body) old new

-- the code of places was added, each of which is kept
abbrev pub AddsKept : StmtScope → ℕ → List Expr → Draft → Draft → Type 0
AddsKept scope c places old new = Adds (IsKept (called scope).functions (seen scope) c (places_of places)) old new

-- the code of an assignment of items that are written out was added
abbrev pub AddsItems : StmtScope → Ident → List Expr → Draft → Draft → Type 0
AddsItems scope name items old new = (list at : ℕ)
    → Adds (IsStmt (called scope) (seen scope) (set_items_of name items list at)) old new

-- the first part of places that is left out, and of an assignment to a part of a list
abbrev pub left_out_kept : StmtScope → List Expr → Option ℕ
left_out_kept scope places = left_out_each (called scope).functions (seen scope) (places_of places)

abbrev pub left_out_item : StmtScope → Ident → List Expr → Expr → ℕ → Option ℕ
left_out_item scope name places value at =
    left_out_deep (called scope).functions (seen scope) (string_bytes name.text) (places_of places) (expr_tree value) at

-- where a part of a list is stored
pub record IsTarget (names : List Name) (text : List ℕ) (places : Tree) (t : Target) : Type 0 where
  pub whole : Part
  pub is : part_named names (tree.variable text 0) ≡ Some whole
  pub list : whole.shape ≡ shape_view t.list.now
  pub cells : whole_cells_in whole ≡ Some t.to
  pub chosen : part_in whole.shape places ≡ Some (shape_view t.part.now)
  pub size : sized (shape_view t.part.now) ≡ Some t.size

-- .. and that there is no such part
abbrev pub HasNoTarget : List Name → List ℕ → Tree → Type 0
HasNoTarget names text places = (fs : List Function) (value : Tree) (at : ℕ)
    → left_out_deep fs names text places value at ≡ Some at

-- the tests of its places, and the instruction that stores what stands in the cells from one on
abbrev pub put_code : Target → Tree → ℕ → ℕ → List Instr
put_code t places cell from =
    op.Const (pos 0) ∷ (step_code cell (shape_view t.list.now) places
    ++ op.CopyTo t.to.cell t.to.size from t.size (Some t.to.kind) ∷ [])

-- no part of a statement is left out, and none of statements
abbrev pub IsAllOf : StmtScope → Tree → Type 0
IsAllOf scope s = left_out_stmt (called scope) (seen scope) s ≡ None

abbrev pub AreAllOf : StmtScope → Tree → Type 0
AreAllOf scope body = left_out_all (called scope) (seen scope) body ≡ None

-- why a statement isn't lowered, and why statements aren't
abbrev pub IsWhyNot : StmtScope → Tree → Draft → LowerFault → Type 0
IsWhyNot scope s draft fault = IsFault (left_out_stmt (called scope) (seen scope) s) draft fault

abbrev pub AreWhyNot : StmtScope → Tree → Draft → LowerFault → Type 0
AreWhyNot scope body draft fault = IsFault (left_out_all (called scope) (seen scope) body) draft fault

-- ---- the body of a `foreach`

-- the names that it sees, with its variable in a cell
abbrev pub in_each : Ident → ℕ → Scalar → StmtScope → List Name
in_each name cell kind scope = local (string_bytes name.text) kind cell ∷ seen scope

-- its code was added
abbrev pub AddsBody : Ident → ℕ → Scalar → StmtScope → Tree → Draft → Draft → Type 0
AddsBody name cell kind scope body old new =
    Adds (AreStmts (called scope) (in_each name cell kind scope) body) old new

-- no part of it is left out
abbrev pub IsAllOfBody : Ident → ℕ → Scalar → StmtScope → Tree → Type 0
IsAllOfBody name cell kind scope body =
    left_out_all (called scope) (in_each name cell kind scope) body ≡ None

-- why it isn't lowered
abbrev pub IsWhyNoBody : Ident → ℕ → Scalar → StmtScope → Tree → Draft → LowerFault → Type 0
IsWhyNoBody name cell kind scope body draft fault =
    IsFault (left_out_all (called scope) (in_each name cell kind scope) body) draft fault

-- a `foreach` of a type and with bounds that counts in the cell of its variable
pub record CountsSpan (shape from to : Tree) (span : Span) : Type 0 where
  pub kind : single_meant shape ≡ Some span.kind
  pub low : bound_of from ≡ Some span.low
  pub high : bound_of to ≡ Some span.high
  pub held : counts_in_place span.kind span.low span.high ≡ true

-- ---- blocks

-- the variables of a block, and its statements
abbrev pub AddsBlock : Routines → List Name → List VarDecl → List Stmt → Draft → Draft → Type 0
AddsBlock rs names vars body old new =
    Adds (IsBlock rs names (listed (map var_tree vars)) (body_of body)) old new

abbrev pub left_out_block : Routines → List Name → List VarDecl → List Stmt → Option ℕ
left_out_block rs names vars body =
    left_out_vars rs names (listed (map var_tree vars)) (λ inner. left_out_all rs inner (body_of body))

-- the names that are seen behind a variable
abbrev pub behind : VarDecl → Shape → ℕ → StmtScope → List Name
behind v t c scope = local_of (string_bytes v.name.text) t c ∷ seen scope
