-- What marking a place comes to.
-- Not trusted: no promise is read with it.
use Rattle.code_ir.specs.declared.heights.Marked.{Marked}
use Rattle.code_ir.specs.declared.heights.Marked.TheVariants.{Done, Conflict, Memory}
use Rattle.code_ir.specs.declared.heights.Passed.{Passed}
use Rattle.code_ir.specs.declared.heights.Passed.TheVariants as passed
use Rattle.std.specs.Prelude.{ℕ, List}
use Rattle.code_ir.specs.Typing.{IsWrongAmong}
use Rattle.code_ir.specs.declared.admitted.CodeFault.{CodeFault}
use Rattle.code_ir.specs.declared.admitted.CodeFault.TheVariants as fault
use Rattle.code_ir.specs.Code.{Code}
use Rattle.code_ir.specs.Heights.{IsBadHeight}

abbrev pub MatchMarked : Marked → Type 0 → Type 0 → Type 0
MatchMarked Done P Q = P
MatchMarked Conflict P Q = Q
MatchMarked Memory P Q = Unit {0}

abbrev pub MatchPassed : Passed → Type 0 → (ℕ → Type 0) → Type 0
MatchPassed passed.Done P Q = P
MatchPassed (passed.Bad at) P Q = Q at
MatchPassed passed.Memory P Q = Unit {0}

-- the fault names an instruction that breaks the line of heights
abbrev pub IsHeightFault : Code → CodeFault → Type 0
IsHeightFault code (fault.Bad at) = IsBadHeight code at
IsHeightFault code fault.Memory = Unit {0}

-- the fault names a place that may not begin a body
abbrev pub IsPlaceFault : ℕ → List ℕ → CodeFault → Type 0
IsPlaceFault size places (fault.Bad at) = IsWrongAmong size places at
IsPlaceFault size places fault.Memory = ⊥
