-- What channel 0 got if there was no memory to read the words of a printing.
use Rattle.std.proofs.Common.{◌≡◌, inl, inr, sym, ◌∙◌}
use Rattle.rvc_io.specs.Channels.{Channels}
use Rattle.rvc_words.specs.Words.{JobText}
use Rattle.cmd_fmt.specs.Formatting.{LibraryMet}
use Rattle.cmd_fmt.specs.Reports.{IsCutShort, Reports, in_report}
use Rattle.cmd_report.specs.Report.{last_line}
use Rattle.cmd_report.specs.declared.status.Status.{Status}
use Rattle.cmd_report.specs.declared.status.Status.TheVariants.{OutOfMemory, WriteFault}
use Rattle.rvc_top.specs.Jobs.{about_words}

pub memory_cut : (met : LibraryMet) (j : JobText) (old new : Channels) (answer : Status) → Reports OutOfMemory (last_line about_words OutOfMemory) old new answer → answer ≡ WriteFault 0 → IsCutShort met j old new
memory_cut met j old new answer (inl done) faulted = absurd (no (sym done.0 ∙ faulted))
  where
    no : OutOfMemory ≡ WriteFault 0 → ⊥
    no h = cc
memory_cut met j old new answer (inr failed) faulted = in_report OutOfMemory tt failed.1.front
