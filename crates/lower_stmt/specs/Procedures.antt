-- Functions and procedures that statements may call, with their routines.
-- Trusted: part of what a promise means.
use Rattle.std.specs.Prelude.{ℕ, nat_eq, length, List, [], ◌∷◌, map, if◌then◌else◌, Option, None, Some, string_bytes}
use Rattle.std.specs.Str.{bytes_eq}
use Rattle.lower_base.specs.declared.callees.Formal.{Formal}
use Rattle.lower_base.specs.declared.callees.Callee.{Callee}
use Rattle.lower_base.specs.Callees.{Function, functions_view}
use Rattle.lower_stmt.specs.declared.callees.ProcCallee.{ProcCallee}

pub record Procedure : Type 0 where
  pub text : List ℕ
  -- the number of the routine
  pub routine : ℕ
  -- where the arguments go, and in which types they are stored
  pub formals : List Formal

abbrev pub procedure_view : ProcCallee → Procedure
procedure_view p =
    record { text = string_bytes p.name; routine = p.routine; formals = p.formals.items }

abbrev pub procedures_view : List ProcCallee → List Procedure
procedures_view ps = map procedure_view ps

-- the procedure that a text means among these, of which the first hides the others
abbrev pub procedure_named : List ℕ → List Procedure → Option Procedure
procedure_named text [] = None
procedure_named text (p ∷ ps) = if bytes_eq p.text text then Some p else procedure_named text ps

-- .. if it has so many formals
abbrev pub procedure_for : List ℕ → ℕ → List Procedure → Option Procedure
procedure_for text n ps = elim (procedure_named text ps)
    [ None ↦ None | Some p ↦ if nat_eq (length p.formals) n then Some p else None ]

-- what statements may call
pub record Routines : Type 0 where
  pub functions : List Function
  pub procedures : List Procedure

abbrev pub routines_of : List Callee → List ProcCallee → Routines
routines_of callees procedures =
    record { functions = functions_view callees; procedures = procedures_view procedures }

-- .. if there is nothing
abbrev pub no_routines : Routines
no_routines = record { functions = []; procedures = [] }
