-- What any verb's answer says of the outside.
-- Not trusted: no promise is read with it.
use Rattle.std.specs.Prelude.{◌≡◌, ℕ}
use Rattle.rvc_io.specs.Channels.{Channels, WritesOnlyAt}
use Rattle.rvc_words.specs.declared.fault.UsageCause.{UsageCause}
use Rattle.cmd_report.specs.declared.status.Status.{Status}
use Rattle.cmd_report.specs.declared.status.Status.TheVariants as status
use Rattle.rvc_top.specs.Status.{IsReportAlone, IsCaused, PlainReportIs}

pub record IsSaid (lo ln ffo ff : ℕ) (old new : Channels) (answer : Status) : Type 0 where
  pub caused : IsCaused lo ln ffo ff old.faults new.faults answer
  pub alone : IsReportAlone answer → WritesOnlyAt 0 old new
  pub plain : PlainReportIs answer old new

-- the answer of a job isn't how the program is used
abbrev pub IsNoUsage : Status → Type 0
IsNoUsage answer = (cause : UsageCause) → answer ≡ status.Usage cause → ⊥
