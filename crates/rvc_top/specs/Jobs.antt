-- What is done for the job that words are, and what is reported of words that aren't a job.
-- Trusted: part of what a promise means.
use Rattle.std.specs.Prelude.{◌≡◌, ◌⊎◌, ℕ, List, []}
use Rattle.rvc_words.specs.Words.{JobText, job_text}
use Rattle.rvc_words.specs.declared.job.Job.{Job}
use Rattle.cmd_fmt.specs.Reports.{Reports}
use Rattle.cmd_network.specs.Answers.{IsAnswered}
use Rattle.cmd_network.specs.Commands.{Command, Met, command}
use Rattle.cmd_report.specs.About.{About}
use Rattle.cmd_report.specs.Report.{last_line}
use Rattle.cmd_report.specs.declared.status.Status.{Status}
use Rattle.cmd_report.specs.declared.status.Status.TheVariants as status

-- ---- words that aren't a job

-- their report speaks of the command line alone
abbrev pub about_words : About
about_words = record {
  files = [];
  trace = [];
  words = [];
  instances = 0;
  links = [];
  ins = [];
  outs = [];
}

-- The status was reported, or the report couldn't be put; nothing else was done.
pub record IsToldAlone (met : Met) (said answer : Status) : Type 0 where
  pub reported : Reports said (last_line about_words said) met.channels met.channels_after answer
  pub same_feeds : met.feeds_after ≡ met.feeds

-- memory ran out before the words were read
abbrev pub LacksMemory : Met → Status → Type 0
LacksMemory met answer = IsToldAlone met status.OutOfMemory answer

-- this was told, if there was memory to read the words
abbrev pub IsAnsweredAlone : Met → (said answer : Status) → Type 0
IsAnsweredAlone met said answer = IsToldAlone met said answer ⊎ LacksMemory met answer

-- ---- words that are a job

-- a job that says this was read, and this holds of it
pub record OfJob (j : JobText) (P : Job → Type 0) : Type 0 where
  pub read : Job
  pub says : job_text read ≡ j
  pub holds : P read

-- the job was answered by a verb that comes to this with each status, if there was memory to read the words
abbrev pub IsDoneBy : (Comes : Command → Status → List ℕ → About → Type 0) → JobText → Met → Status → Type 0
IsDoneBy Comes j met answer =
    OfJob j (λ read. IsAnswered Comes (command met read) answer) ⊎ LacksMemory met answer

-- this holds of the command that the job is, and of its answer, if there was memory to read the words
abbrev pub IsSettled : (P : Command → Status → Type 0) → JobText → Met → Status → Type 0
IsSettled P j met answer = OfJob j (λ read. P (command met read) answer) ⊎ LacksMemory met answer
