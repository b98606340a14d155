-- Heights found so far: a mark for each place that some way was seen to lead to.
-- Not trusted: no promise is read with it.
use Rattle.std.specs.Prelude.{◌≡◌, ◌≢◌, ℕ, suc, ◌+◌, ◌-◌, ◌*◌, ◌≤◌, ◌⊎◌, true, List, [], ◌∷◌, length, Option, None, Some, slice_get}
use Rattle.code_ir.specs.declared.instr.Instr.{Instr}
use Rattle.code_ir.specs.Code.{Code, begins, is_among}
use Rattle.code_ir.specs.Typing.{Way, HasOneHeight, LeavesResults, pops, pushes, goes_on, target}

-- the place is marked with this height
abbrev pub IsMarked : List (Option ℕ) → ℕ → ℕ → Type 0
IsMarked heights p h = slice_get heights p ≡ Some (Some h)

-- how many places have no mark
abbrev pub unmarked : List (Option ℕ) → ℕ
unmarked [] = 0
unmarked (None ∷ heights) = suc (unmarked heights)
unmarked (Some h ∷ heights) = unmarked heights

-- The marks grow, and the places whose marks are new are to be worked on. Each new mark is one that P permits.
pub record Grows (P : ℕ → ℕ → Type 0) (before after : List (Option ℕ)) (work later : List ℕ) :
    Type 0 where
  pub keeps : (q k : ℕ) → IsMarked before q k → IsMarked after q k
  pub adds : (q k : ℕ) → IsMarked after q k → IsMarked before q k
      ⊎ (P q k × (is_among q later ≡ true))
  pub holds : (q : ℕ) → is_among q work ≡ true → is_among q later ≡ true
  pub takes : (q : ℕ) → is_among q later ≡ true → (is_among q work ≡ true)
      ⊎ ((k : ℕ) × IsMarked after q k)
  pub size : length after ≡ length before
  pub fewer : 2 * unmarked after + length later ≤ 2 * unmarked before + length work

-- the place has another height
abbrev pub Differs : List (Option ℕ) → ℕ → ℕ → Type 0
Differs heights p h = (k : ℕ) × IsMarked heights p k × k ≢ h

-- the height is enough for the instruction
pub record IsEnough (code : Code) (p h : ℕ) (i : Instr) : Type 0 where
  pub enough : pops i ≤ h
  pub results : LeavesResults code p h i

-- the mark was passed on to the places that may come next
pub record IsPassedOn (code : Code) (heights : List (Option ℕ)) (p h : ℕ) : Type 0 where
  pub enough : (i : Instr) → slice_get code.instrs p ≡ Some i → IsEnough code p h i
  pub next : (i : Instr) → slice_get code.instrs p ≡ Some i → goes_on i ≡ true
      → IsMarked heights (p + 1) (h - pops i + pushes code i)
  pub jump : (i : Instr) (t : ℕ) → slice_get code.instrs p ≡ Some i → target i ≡ Some t
      → IsMarked heights t (h - pops i + pushes code i)

-- the marks are heights of ways; those of the starts of bodies are there, and those that aren't to be worked on
-- were passed on
pub record Marking (code : Code) (heights : List (Option ℕ)) (work : List ℕ) : Type 0 where
  pub size : length heights ≡ length code.instrs
  pub sound : (p h : ℕ) → IsMarked heights p h → Way code p h
  pub begun : (p : ℕ) → is_among p (begins code) ≡ true → IsMarked heights p 0
  pub pending : (p : ℕ) → is_among p work ≡ true → (h : ℕ) × IsMarked heights p h
  pub passed : (p h : ℕ) → IsMarked heights p h → (is_among p work ≡ true)
      ⊎ IsPassedOn code heights p h

-- the instruction there breaks the line of heights
abbrev pub IsBadHeight : Code → ℕ → Type 0
IsBadHeight code at = (i : Instr) × (slice_get code.instrs at ≡ Some i) × ¬ HasOneHeight code at i

abbrev pub HaveOneHeight : Code → Type 0
HaveOneHeight code = (p : ℕ) (i : Instr) → slice_get code.instrs p ≡ Some i → HasOneHeight code p i
