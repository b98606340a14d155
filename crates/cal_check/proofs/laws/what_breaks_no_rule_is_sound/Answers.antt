use Rattle.cal_check.specs.Laws.{AreSuch}
use Rattle.cal_check.proofs.SoundActions.{action-sound}
use Rattle.cal_check.proofs.SoundGuards.{are-guards}
use Rattle.cal_check.proofs.SoundHeader.{header-sound}
use Rattle.cal_check.proofs.SoundLocals.{are-sound}
use Rattle.cal_check.proofs.SoundRoutines.{fun-sound, proc-sound}
use Rattle.cal_check.proofs.SoundStatements.{are-right}
use Rattle.cal_check.proofs.SoundCounts.{count-actions, count-scalars, one-initialize}
use Rattle.cal_check.proofs.SoundRates.{rates-sound}
use Rattle.cal_check.proofs.SoundSchedules.{pairs-tagged, schedule-sound}
use Rattle.cal_check.proofs.laws.what_breaks_no_rule_is_sound.Goals as goal

pub returns-clause-guards : goal.returns-clause-guards
returns-clause-guards c = are-guards

pub returns-clause-locals : goal.returns-clause-locals
returns-clause-locals c = λ vars names inner fit d h i. let s = are-sound vars names inner d fit h i in (s.are_locals, s.is_with)

pub returns-clause-statements : goal.returns-clause-statements
returns-clause-statements c = λ ss procs names fit f h. let r = are-right ss procs names f fit h in (r.are, r.bare)

pub returns-clause-actions : goal.returns-clause-actions
returns-clause-actions c = λ such. action-sound (AreSuch such)

pub returns-clause-header : goal.returns-clause-header
returns-clause-header c = header-sound

pub returns-clause-procedures : goal.returns-clause-procedures
returns-clause-procedures c = λ such. proc-sound (AreSuch such)

pub returns-clause-functions : goal.returns-clause-functions
returns-clause-functions c = λ such. fun-sound (AreSuch such)

pub returns-clause-schedules : goal.returns-clause-schedules
returns-clause-schedules c = schedule-sound

pub returns-clause-priorities : goal.returns-clause-priorities
returns-clause-priorities c = pairs-tagged

pub returns-clause-rates : goal.returns-clause-rates
returns-clause-rates c = rates-sound

pub returns-clause-initialize : goal.returns-clause-initialize
returns-clause-initialize c = one-initialize

pub returns-clause-limits : goal.returns-clause-limits
returns-clause-limits c = record { actions = count-actions; scalars = count-scalars }
