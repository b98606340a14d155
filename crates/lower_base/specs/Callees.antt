-- Functions that may be called, with their routines.
-- Trusted: part of what a promise means.
use Rattle.std.specs.Prelude.{ℕ, nat_eq, length, List, [], ◌∷◌, map, if◌then◌else◌, Option, None, Some, string_bytes}
use Rattle.std.specs.Str.{bytes_eq}
use Rattle.rvc_base.specs.declared.scalar.Scalar.{Scalar}
use Rattle.lower_base.specs.declared.callees.Callee.{Callee}
use Rattle.lower_base.specs.declared.callees.Formal.{Formal}

pub record Function : Type 0 where
  pub text : List ℕ
  -- the number of the routine
  pub routine : ℕ
  -- where the arguments go, and in which types they are stored
  pub formals : List Formal
  pub result : Scalar

abbrev pub function_view : Callee → Function
function_view f =
    record {
      text = string_bytes f.name;
      routine = f.routine;
      formals = f.formals.items;
      result = f.result;
    }

abbrev pub functions_view : List Callee → List Function
functions_view fs = map function_view fs

-- the function that a text means among these, of which the first hides the others
abbrev pub function_named : List ℕ → List Function → Option Function
function_named text [] = None
function_named text (f ∷ fs) = if bytes_eq f.text text then Some f else function_named text fs

-- .. if it has so many formals
abbrev pub function_for : List ℕ → ℕ → List Function → Option Function
function_for text n fs = elim (function_named text fs)
    [ None ↦ None | Some f ↦ if nat_eq (length f.formals) n then Some f else None ]
