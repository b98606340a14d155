-- The words of the contracts of calls that fill cells.
-- Trusted: part of what a promise means.
use Rattle.std.specs.Prelude.{◌≡◌, ℕ, ◌+◌, ◌*◌, ◌≤◌, Bool, false, nat_eq, List, ◌∷◌, ◌++◌, length, Option, None, Some}
use Rattle.cal_ast.specs.Tree as tree
use Rattle.cal_ast.specs.Tree.{Tree}
use Rattle.cal_ast.specs.View.{expr_tree}
use Rattle.cal_ast.specs.declared.expr.Expr.{Expr}
use Rattle.cal_ast.specs.declared.expr.Gen.{Gen}
use Rattle.cal_model.specs.Value.{Shape, Single, Many}
use Rattle.code_ir.specs.Code.{Code}
use Rattle.code_ir.specs.declared.instr.Instr.{Instr}
use Rattle.lower_base.specs.declared.callees.Callee.{Callee}
use Rattle.lower_base.specs.declared.draft.Draft.{Draft}
use Rattle.lower_base.specs.declared.fault.LowerFault.{LowerFault}
use Rattle.lower_base.specs.declared.names.Named.{Named}
use Rattle.lower_base.specs.declared.scope.Scope.{Scope}
use Rattle.lower_base.specs.Callees.{Function, functions_view}
use Rattle.lower_base.specs.Calling.{HasRoutines}
use Rattle.lower_base.specs.Fitting.{Fits}
use Rattle.lower_base.specs.Growing.{IsFault, left_out_in}
use Rattle.lower_base.specs.Lowered.{Adds}
use Rattle.lower_base.specs.Names.{Name, local, names_view}
use Rattle.lower_base.specs.Parted.{sized}
use Rattle.lower_base.specs.PartView.{places_of}
use Rattle.lower_base.specs.Placed.{StandsAt}
use Rattle.lower_base.specs.Seen.{called, seen}
use Rattle.expr_lower.specs.declared.lists.Target.{Target}
use Rattle.expr_lower.specs.CounterView.{gens_of}
use Rattle.expr_lower.specs.Filled.{FillsWith}
use Rattle.expr_lower.specs.Filling.{AreElements, AreFills, IsFill}
use Rattle.lower_base.specs.Generators.{Counted, how_many}
use Rattle.expr_lower.specs.LeftOut.{left_out_element, left_out_fill, left_out_fills, left_out_gens, left_out_many}

-- 32 bits hold how many numbers a type has, and cells from c on are there for them
abbrev pub HasCells : Shape → ℕ → Draft → Type 0
HasCells t c draft = (size : ℕ) × (sized t ≡ Some size) × (c + size ≤ draft.cells)

-- code was added that fills the cells from c on with an expression
abbrev pub Lays : Scope → Tree → Shape → ℕ → Draft → Draft → Type 0
Lays scope e t c old new = Adds (IsFill (called scope) (seen scope) e t c) old new

abbrev pub LaysAll : Scope → Tree → Shape → ℕ → Draft → Draft → Type 0
LaysAll scope es t c old new = Adds (AreFills (called scope) (seen scope) es t c) old new

-- no part is left out
abbrev pub IsAllLaid : Scope → Shape → Tree → Type 0
IsAllLaid scope t e = left_out_fill (called scope) (seen scope) t e ≡ None

abbrev pub AreAllLaid : Scope → Shape → Tree → Type 0
AreAllLaid scope t es = left_out_fills (called scope) (seen scope) t es ≡ None

-- why no code is made
abbrev pub IsWhyNotLaid : Scope → Shape → Tree → Draft → LowerFault → Type 0
IsWhyNotLaid scope t e draft fault =
    IsFault (left_out_fill (called scope) (seen scope) t e) draft fault

abbrev pub AreWhyNotLaid : Scope → Shape → Tree → Draft → LowerFault → Type 0
AreWhyNotLaid scope t es draft fault =
    IsFault (left_out_fills (called scope) (seen scope) t es) draft fault

abbrev pub list_of : List Expr → ℕ → Tree
list_of es at = tree.list (places_of es) at

-- ---- comprehensions

-- code of elements was added behind the turn before them
pub record AddsIn (names : List Name) (fs : List Function) (gens item : Tree) (t : Shape)
    (to : Target) (k : ℕ) (old new : Draft) : Type 0 where
  pub code : List Instr
  pub is : new.instrs.items ≡ old.instrs.items ++ code
  pub routines : new.routines.items ≡ old.routines.items
  pub has : AreElements fs gens item t to.cell to.all to.filled to.turn names k code new.cells

abbrev pub AddsElements : Scope → Tree → Tree → Shape → Target → ℕ → Draft → Draft → Type 0
AddsElements scope gens item t to k old new =
    AddsIn (seen scope) (called scope) gens item t to k old new

-- .. which see the variable of a generator more
abbrev pub AddsInside : Scope → Counted → Tree → Tree → Shape → Target → ℕ → Draft → Draft → Type 0
AddsInside scope x gens item t to k old new =
    AddsIn (local x.text x.kind (k + 1) ∷ seen scope) (called scope) gens item t to (k + 2) old new

-- the code of elements begins here, and the cells of their generators are those from k on
pub record BeginsAt (to : Target) (gens : List Gen) (k : ℕ) (draft : Draft) : Type 0 where
  pub turn : to.turn ≡ length draft.instrs.items
  pub cells : draft.cells ≡ k + 2 * length gens

-- 32 bits hold how many numbers a type has
abbrev pub IsSized : Shape → Type 0
IsSized t = (each : ℕ) × (sized t ≡ Some each)

-- what is left out of an element
abbrev pub left_out_item : Scope → List Name → Shape → Expr → Option ℕ
left_out_item scope names t item = left_out_element t (left_out_in (called scope) names (expr_tree item))
    (left_out_fill (called scope) names t (expr_tree item))

-- .. and of those of generators
abbrev pub left_out_elements : Scope → List Gen → Shape → Expr → Option ℕ
left_out_elements scope gens t item =
    left_out_gens (seen scope) (gens_of gens) (λ inner. left_out_item scope inner t item)

abbrev pub left_out_inside : Scope → Counted → ℕ → List Gen → Shape → Expr → Option ℕ
left_out_inside scope x c gens t item = left_out_gens (local x.text x.kind c ∷ seen scope) (gens_of gens)
    (λ inner. left_out_item scope inner t item)

-- .. and of a comprehension that makes some
abbrev pub left_out_some : Scope → Shape → List Gen → Expr → ℕ → Option ℕ
left_out_some scope t gens item at =
    left_out_many t at (how_many (gens_of gens)) (λ items. left_out_elements scope gens items item)

-- a list without items is meant
abbrev pub has_no_items : Shape → Bool
has_no_items (Single t) = false
has_no_items (Many n items) = nat_eq n 0

abbrev pub comp_of : Expr → List Gen → ℕ → Tree
comp_of item gens at = tree.comp (expr_tree item) (gens_of gens) at

-- ---- what the public call gives

-- The instructions fill the cells from c on with the expression. In any code that has the routines they fit.
pub record IsFilled (fs : List Function) (names : List Name) (e : Tree) (t : Shape) (c base n : ℕ)
    (code : List Instr) (m : ℕ) : Type 0 where
  pub cells : n ≤ m
  pub fills : FillsWith fs names e t c base m code
  pub fits : (whole : Code) (callable h : ℕ) → HasRoutines whole callable m fs
      → StandsAt whole.instrs base code
      → Fits whole callable m base h code h (base + length code) h

abbrev pub AddsFilled : List Callee → List Named → Tree → Shape → ℕ → Draft → Draft → Type 0
AddsFilled callees names e t c old new =
    Adds (IsFilled (functions_view callees) (names_view names) e t c) old new

abbrev pub IsWholeList : List Callee → List Named → Shape → Tree → Type 0
IsWholeList callees names t e =
    left_out_fill (functions_view callees) (names_view names) t e ≡ None

abbrev pub IsFaultOfList : List Callee → List Named → Shape → Tree → Draft → LowerFault → Type 0
IsFaultOfList callees names t e draft fault =
    IsFault (left_out_fill (functions_view callees) (names_view names) t e) draft fault
