-- Names that are alike: whatever is asked of both has one answer, though their functions stand in other orders.
-- Trusted: part of what a promise means.
use Rattle.std.specs.Prelude.{◌≡◌, ℕ, List, length}
use Rattle.cal_ast.specs.Tree.{Tree}
use Rattle.cal_model.specs.Call.{fun_named}
use Rattle.cal_model.specs.Kinding.{Names}
use Rattle.cal_model.specs.Value.{Shape}
use Rattle.cal_check.specs.Constants.{early_type}
use Rattle.cal_check.specs.Variables.{come}

-- the same names, as many functions, and the same one of each name
pub record SeeAlike (n m : Names) : Type 0 where
  pub globals : n.globals ≡ m.globals
  pub locals : n.locals ≡ m.locals
  pub funs : (name : List ℕ) → fun_named name n.funs ≡ fun_named name m.funs
  pub count : length n.funs ≡ length m.funs

abbrev pub AlikeTypes : Type 0
AlikeTypes = (n m : Names) (shape : Tree) → SeeAlike n m → early_type shape n ≡ early_type shape m

abbrev pub AlikeStarts : Type 0
AlikeStarts = (n m : Names) (t : Shape) (start : Tree) → SeeAlike n m
    → come t start n ≡ come t start m
