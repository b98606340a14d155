use Rattle.std.proofs.Common.{◌≡◌, true, All, take}
use Rattle.code_ir.specs.Code.{is_among}
use Rattle.lowered_actor.proofs.fitting.are_entries.Given as goal

abbrev pub invariant-loop-entry : goal.invariant-loop-entry
invariant-loop-entry l = All (λ entry. is_among entry l.code.entries ≡ true) (take l.entry-index l.entries)
