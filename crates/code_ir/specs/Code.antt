-- Code, as contracts see it.
-- Trusted: part of what a promise means.
use Rattle.std.specs.Prelude.{ℕ, ◌==◌, zero, suc, Bool, false, ◌||◌, if◌then◌else◌, List, [], ◌∷◌, ◌++◌, map, None, Some, slice_get}
use Rattle.code_ir.specs.declared.instr.Instr.{Instr}
use Rattle.code_ir.specs.declared.instr.Routine.{Routine}
use Rattle.code_ir.specs.declared.instr.ActorCode.{ActorCode}

pub record Code : Type 0 where
  pub instrs : List Instr
  pub routines : List Routine
  pub entries : List ℕ
  -- how many cells it has
  pub cells : ℕ

-- code as it is written
abbrev pub code_of : ActorCode → Code
code_of code =
    record {
      instrs = code.instrs.items;
      routines = code.routines.items;
      entries = code.entries.items;
      cells = code.cells;
    }

-- the places that begin bodies
abbrev pub begins : Code → List ℕ
begins code = map (λ r. r.start) code.routines ++ code.entries

-- a place is among these
abbrev pub is_among : ℕ → List ℕ → Bool
is_among p [] = false
is_among p (q ∷ places) = (q == p) || is_among p places

-- Where the body of a place begins: at the place itself if a body begins there, else where the body of the
-- place before does.
abbrev pub body_of : Code → ℕ → ℕ
body_of code zero = 0
body_of code (suc p) = if is_among (suc p) (begins code) then suc p else body_of code p

-- The number of the routine whose body begins at a place. If none does, as at the bodies of entries, it is
-- the number of routines.
abbrev pub routine_at : List Routine → ℕ → ℕ
routine_at [] place = 0
routine_at (r ∷ routines) place = if r.start == place then 0 else suc (routine_at routines place)

-- the routine in whose body a place is
abbrev pub routine_of : Code → ℕ → ℕ
routine_of code p = routine_at code.routines (body_of code p)

-- how many numbers a routine leaves on the stack
abbrev pub results_of : Code → ℕ → ℕ
results_of code r = elim (slice_get code.routines r) [ None ↦ 0 | Some routine ↦ routine.results ]
