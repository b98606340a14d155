-- What code of statements writes and reads: cells that may be written, and tokens that may be read.
-- Trusted: part of what a promise means.
use Rattle.std.specs.Prelude.{◌≡◌, ℕ, true, List, Some}
use Rattle.cal_ast.specs.Tree.{Tree}
use Rattle.cal_model.specs.Actor.{Proc}
use Rattle.cal_model.specs.Kinding.{Known, Names, meant_by}
use Rattle.cal_model.specs.Sound.{AreStatements}
use Rattle.cal_model.specs.Value.{scalars_of_type}
use Rattle.code_ir.specs.declared.instr.Instr.{Instr}
use Rattle.lower_base.specs.declared.names.Seat.{Seat}
use Rattle.lower_base.specs.declared.names.Seat.TheVariants.{Cell, Tokens}
use Rattle.lower_base.specs.Allowing.{Allowed, Allows, AreAllowed, AreWritten, MayWrite}
use Rattle.lower_base.specs.Names.{Name, named}
use Rattle.lower_stmt.specs.Procedures.{Procedure, Routines, procedure_named}

-- What code of statements needs: what that of expressions does, and that the cells of the formals of procedures may be
-- written.
pub record AllowsRuns (a : Allowed) (rs : Routines) (names : List Name) (n : ℕ) : Type 0 where
  pub inside : Allows a rs.functions names n
  pub procedures : (text : List ℕ) (p : Procedure) → procedure_named text rs.procedures ≡ Some p
      → AreWritten a p.formals

-- the cells of a seat may be written
abbrev pub SeatIsWritten : Allowed → ℕ → Seat → Type 0
SeatIsWritten a size (Cell c) = MayWrite a c size
SeatIsWritten a size (Tokens port first step) = Unit {0}

-- .. those of each name that is known to change
abbrev pub ChangesAreWritten : Allowed → List Name → Names → Type 0
ChangesAreWritten a names known = (text : List ℕ) (x : Name) (u : Known)
    → named text names ≡ Some x → meant_by text known ≡ Some u → u.changes ≡ true
    → SeatIsWritten a (scalars_of_type x.shape) x.seat

-- code of statements that break no rule is allowed wherever that is so
abbrev pub RunsKeepAllowed : Routines → List Name → Tree → ℕ → List Instr → Type 0
RunsKeepAllowed rs names body n code = (a : Allowed) (procs : List Proc) (known : Names)
    → AllowsRuns a rs names n → ChangesAreWritten a names known → AreStatements body procs known
    → AreAllowed a code
