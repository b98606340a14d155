-- What was added to a draft for a list does all that is promised.
use Rattle.std.proofs.Common.{ℕ, ◌+◌, ◌≤◌, List, length, arith}
use Rattle.cal_ast.specs.Tree.{Tree}
use Rattle.cal_model.specs.Value.{Shape, scalars_of_type}
use Rattle.lower_base.specs.declared.draft.Draft.{Draft}
use Rattle.lower_base.specs.Callees.{Function}
use Rattle.lower_base.specs.Held.{AreBelow}
use Rattle.lower_base.specs.Lowered.{Adds}
use Rattle.lower_base.specs.Names.{Name}
use Rattle.lower_base.proofs.PartValues.{sized_is}
use Rattle.expr_lower.specs.FillWords.{HasCells, IsFilled}
use Rattle.expr_lower.specs.Filling.{IsFill}
use Rattle.expr_lower.proofs.Filled.{fills_with, grows_fill}
use Rattle.expr_lower.proofs.Fitted.{fits_fill}

pub filled : (fs : List Function) (names : List Name) (e : Tree) (t : Shape) (c : ℕ) (old new : Draft) → AreBelow c names → HasCells t c old → Adds (IsFill fs names e t c) old new → Adds (IsFilled fs names e t c) old new
filled fs names e t c old new below cells a =
    let same = sized_is t cells.0 cells.1 in
    let enough = cells.2 in
    let room : c + scalars_of_type t ≤ old.cells = omega (arith, same, enough) in
    record {
      code = a.code;
      is = a.is;
      routines = a.routines;
      has = record {
        cells = grows_fill a.has;
        fills = fills_with names e t c (length old.instrs.items) old.cells new.cells a.code below room a.has;
        fits = λ whole callable h has stands. fits_fill whole callable new.cells fs has h below room (omega arith) stands a.has;
      };
    }
