-- The printed names of traps.
-- Trusted: part of what a promise means.
use Rattle.std.specs.Prelude.{ℕ, List, codes}
use Rattle.rvc_base.specs.declared.trap.Trap.{Trap}
use Rattle.rvc_base.specs.declared.trap.Trap.TheVariants.{Overflow, DivideByZero, IndexRange, ShiftRange, TurnLimit}

abbrev pub trap_name : Trap → List ℕ
trap_name Overflow = codes "Overflow"
trap_name DivideByZero = codes "DivideByZero"
trap_name IndexRange = codes "IndexRange"
trap_name ShiftRange = codes "ShiftRange"
trap_name TurnLimit = codes "TurnLimit"
