-- Code that has the routines of what statements call.
-- Trusted: part of what a promise means.
use Rattle.std.specs.Prelude.{◌≡◌, ℕ, ◌<◌, List, Some}
use Rattle.code_ir.specs.Code.{Code, results_of}
use Rattle.lower_base.specs.Calling.{HasRoutines}
use Rattle.lower_stmt.specs.Acting.{HasCells}
use Rattle.lower_stmt.specs.Procedures.{Procedure, Routines, procedure_named}

-- code has the routines of these functions and procedures, which may be called there and leave one number each or none,
-- and cells for their arguments
pub record HasRunRoutines (whole : Code) (callable limit : ℕ) (rs : Routines) : Type 0 where
  pub functions : HasRoutines whole callable limit rs.functions
  pub procedures : (text : List ℕ) (p : Procedure) → procedure_named text rs.procedures ≡ Some p
      → (p.routine < callable) × (results_of whole p.routine ≡ 0) × HasCells 0 limit p.formals
