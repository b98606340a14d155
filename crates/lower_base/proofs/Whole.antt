-- What was added to a draft for an expression does all that is promised.
use Rattle.std.proofs.Common.{List, [], length, arith}
use Rattle.cal_ast.specs.Tree.{Tree}
use Rattle.lower_base.specs.declared.draft.Draft.{Draft}
use Rattle.lower_base.specs.Names.{Name}
use Rattle.lower_base.specs.Held.{AreBelow}
use Rattle.lower_base.specs.Coding.{IsCode}
use Rattle.lower_base.specs.Callees.{Function}
use Rattle.lower_base.specs.Calling.{IsLoweredWith}
use Rattle.lower_base.specs.Lowered.{Adds, IsLowered}
use Rattle.lower_base.proofs.AllowedCode.{code_allowed}
use Rattle.lower_base.proofs.Coded.{evaluates, evaluates_with, grows}
use Rattle.lower_base.proofs.Fitted.{fits, fits_in}

pub lowered : (names : List Name) (e : Tree) (old new : Draft) → AreBelow old.cells names → Adds (IsCode [] names e) old new → Adds (IsLowered names e) old new
lowered names e old new below a = record {
  code = a.code;
  is = a.is;
  routines = a.routines;
  has = record {
    cells = grows a.has;
    evaluates = evaluates names e (length old.instrs.items) old.cells new.cells a.code below a.has;
    fits = λ whole callable h at. fits whole callable new.cells names h below (omega arith) at a.has;
  };
}

pub lowered_with : (fs : List Function) (names : List Name) (e : Tree) (old new : Draft) → AreBelow old.cells names → Adds (IsCode fs names e) old new → Adds (IsLoweredWith fs names e) old new
lowered_with fs names e old new below a = record {
  code = a.code;
  is = a.is;
  routines = a.routines;
  has = record {
    cells = grows a.has;
    evaluates = evaluates_with names e (length old.instrs.items) old.cells new.cells a.code below a.has;
    fits = λ whole callable h has at. fits_in whole callable new.cells fs has names h below (omega arith) at a.has;
    allowed = λ bounds h. code_allowed bounds fs names h a.has;
  };
}
