-- What a report of one line leaves on channel 0, and what is left there of a text that couldn't be put.
-- Trusted: part of what a promise means.
use Rattle.std.specs.Prelude.{◌≡◌, ◌≢◌, ◌⊎◌, ℕ, true, List, [], ◌∷◌, ◌++◌}
use Rattle.rvc_io.specs.Channels.{Channels}
use Rattle.channel_writer.specs.Held.{AppendsFront}
use Rattle.rvc_words.specs.Words.{JobText}
use Rattle.cmd_fmt.specs.Formatting.{IsCanonical, LibraryMet, PrintsNothing}
use Rattle.cmd_report.specs.About.{About}
use Rattle.cmd_report.specs.Puts.{GetsLess, GetsText}
use Rattle.cmd_report.specs.Report.{last_line}
use Rattle.cmd_report.specs.declared.status.Status.{Status}
use Rattle.cmd_report.specs.declared.status.Status.TheVariants as status

-- Channel 0 got this text, and the answer says so; or a put of it failed, which was counted, and the answer says that.
abbrev pub Reports : (said : Status) → (text : List ℕ) → (old new : Channels) → Status → Type 0
Reports said text old new answer = ((answer ≡ said) × GetsText text old new)
    ⊎ ((answer ≡ status.WriteFault 0) × GetsLess text old new)

-- a report that speaks of a file alone, which has this name
abbrev pub about_file : List ℕ → About
about_file top = record {
  files = top ∷ [];
  trace = [];
  words = [];
  instances = 0;
  links = [];
  ins = [];
  outs = [];
}

-- Channel 0 got the last line alone. Nothing is said if a verb came to its end, for what it writes then stands with it, nor
-- if the report itself couldn't be written, which is a write fault on channel 0: then `IsCutShort` says what that got.
abbrev pub IsReported : About → Status → (held_old held : List ℕ) → Type 0
IsReported a status.Quiet held_old held = Unit {0}
IsReported a status.Done held_old held = Unit {0}
IsReported a (status.Usage cause) held_old held = held ≡ held_old ++ last_line a (status.Usage cause)
IsReported a (status.ReadFault at) held_old held = held ≡ held_old ++ last_line a (status.ReadFault at)
IsReported a (status.WriteFault channel) held_old held = channel ≢ 0
    → held ≡ held_old ++ last_line a (status.WriteFault channel)
IsReported a (status.Refused refusal) held_old held =
    held ≡ held_old ++ last_line a (status.Refused refusal)
IsReported a (status.Trapped inst action trap) held_old held = Unit {0}
IsReported a (status.Stalled inst action link) held_old held = Unit {0}
IsReported a (status.Budget firings) held_old held = Unit {0}
IsReported a status.OutOfMemory held_old held = held ≡ held_old ++ last_line a status.OutOfMemory
IsReported a (status.NotRun number why) held_old held =
    held ≡ held_old ++ last_line a (status.NotRun number why)
IsReported a (status.Uncertified inst state first second reason) held_old held = Unit {0}

-- the same by what is known of the channels
abbrev pub ReportIs : About → Status → (old new : Channels) → Type 0
ReportIs a status old new = old.tells ≡ true → IsReported a status (old.held 0) (new.held 0)

-- Channel 0 got a prefix of what a job of `fmt` puts there: of the canonical text of its file, or of the last line that says
-- why there is none.
pub data IsCutShort (met : LibraryMet) (j : JobText) (old new : Channels) : Type 0 where
  in_text : (printed : List ℕ) → IsCanonical (met.library j.top) j.ports printed
      → AppendsFront 0 old new printed → IsCutShort met j old new
  in_report : (said : Status) → PrintsNothing met j said
      → AppendsFront 0 old new (last_line (about_file j.top) said) → IsCutShort met j old new
