-- The answer if a file isn't read.
-- Not trusted: no promise is read with it.
use Rattle.std.specs.Prelude.{ℕ}
use Rattle.rvc_base.specs.Rules.{spells_no_file, too_high}
use Rattle.rvc_base.specs.declared.refusal.Front.{Front as Answer}
use Rattle.rvc_base.specs.declared.refusal.Front.TheVariants.{Refused, Memory}
use Rattle.cal_parse_base.specs.declared.fault.Fault.{Fault}
use Rattle.cal_parse_base.specs.declared.fault.Fault.TheVariants as faults

-- the answer if a file isn't read, for this reason at this offset
abbrev pub answer_of : Fault → ℕ → ℕ → Answer
answer_of faults.Refused number at =
    Refused (record { rule = spells_no_file; place = record { file = number; offset = at } })
answer_of faults.TooHigh number at =
    Refused (record { rule = too_high; place = record { file = number; offset = at } })
answer_of faults.Memory number at = Memory
