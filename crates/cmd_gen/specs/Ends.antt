-- To what a command of the verb `gen` comes, and what it leaves: a case for each status.
-- Trusted: part of what a promise means.
use Rattle.std.specs.Prelude.{◌≡◌, ℕ, List, Some, string_bytes}
use Rattle.rvc_base.specs.declared.refusal.Refusal.{Refusal}
use Rattle.rvc_words.specs.Words.{job_text}
use Rattle.cal_model.specs.Selection.{State}
use Rattle.net_model.specs.Network.{Network}
use Rattle.cmd_network.specs.Conforming.{output_names}
use Rattle.cmd_ports.specs.Matching.{AreMatched, IsWrongWord}
use Rattle.cmd_report.specs.About.{About}
use Rattle.cmd_report.specs.declared.status.Status.{Status}
use Rattle.cmd_report.specs.declared.status.Status.TheVariants as status
use Rattle.cmd_network.specs.Commands.{Command, HasFiles, OpenedNothing, about_files, words_of}
use Rattle.cmd_run.specs.Ends as run
use Rattle.cmd_gen_network.specs.Feed.{bytes_of}
use Rattle.cmd_gen_network.specs.Objects.{library_of}
use Rattle.cmd_gen.specs.Jobs.{generated_job, instances_of}

-- ---- what is run

-- This command is run for that of the verb: its library is that of the generated files, all names of its feeds have the
-- generated input, and it puts out on the same channels.
pub record IsGenerated (cmd gen : Command) : Type 0 where
  pub instances : ℕ
  pub is_number : instances_of (string_bytes cmd.job.top) ≡ Some instances
  pub job : job_text gen.job ≡ generated_job (job_text cmd.job)
  pub library : gen.library ≡ library_of instances
  pub feeds : (name : List ℕ) → gen.feeds.under name ≡ Some (bytes_of instances)
  pub channels : gen.channels ≡ cmd.channels
  pub channels_after : gen.channels_after ≡ cmd.channels_after

-- Each port word names an output of its own of this network, and the command that is run for this one came to that.
pub record Runs (cmd : Command) (net : Network State) (said : Status) (lines : List ℕ) (about : About) : Type 0 where
  pub gen : Command
  pub is_generated : IsGenerated cmd gen
  pub matched : AreMatched (output_names net) (words_of cmd)
  pub comes : run.ComesFor net gen said lines about

-- ---- what isn't

-- the first port word that names no output of the network, or one that a word before it names
pub record HasNoOutput (cmd gen : Command) (names : List (List ℕ)) (net : Network State) (r : Refusal) : Type 0 where
  pub files : HasFiles gen net
  pub names_are : names ≡ files.names
  pub wrong : IsWrongWord (output_names net) (words_of cmd) r

-- Why the job is refused. Nothing but the word for an output and the growth of links refuses it, if the generated files
-- conform.
pub data IsRefused (cmd : Command) (r : Refusal) : About → Type 0 where
  by_words : (gen : Command) (names : List (List ℕ)) (net : Network State) → IsGenerated cmd gen
      → HasNoOutput cmd gen names net r → IsRefused cmd r (about_files gen names)
  by_run : (gen : Command) (about : About) → IsGenerated cmd gen → run.IsRefused gen r about
      → IsRefused cmd r about

-- ---- each status

-- What a command has come to, but for its report: with these lines of the verb, and speaking of this. Nothing that is read
-- can fail, so it never ends by a read fault.
abbrev pub Comes : Command → Status → (lines : List ℕ) → About → Type 0
Comes cmd status.Quiet lines about =
    (net : Network State) × Runs cmd net status.Quiet lines about
Comes cmd (status.Trapped inst action trap) lines about =
    (net : Network State) × Runs cmd net (status.Trapped inst action trap) lines about
Comes cmd (status.Stalled inst action link) lines about =
    (net : Network State) × Runs cmd net (status.Stalled inst action link) lines about
Comes cmd (status.Budget firings) lines about =
    (net : Network State) × Runs cmd net (status.Budget firings) lines about
Comes cmd (status.WriteFault channel) lines about =
    (net : Network State) × Runs cmd net (status.WriteFault channel) lines about
Comes cmd (status.Refused r) lines about = IsRefused cmd r about × OpenedNothing cmd
Comes cmd status.OutOfMemory lines about = OpenedNothing cmd
Comes cmd (status.ReadFault at) lines about = ⊥
Comes cmd status.Done lines about = ⊥
Comes cmd (status.Usage cause) lines about = ⊥
Comes cmd (status.NotRun number why) lines about = ⊥
Comes cmd (status.Uncertified inst state first second reason) lines about = ⊥

-- ---- completeness

-- Why a job is refused if the generated files conform to this network together with its words.
pub data IsStillRefused (cmd : Command) (net : Network State) (r : Refusal) : Type 0 where
  of_run : (gen : Command) → IsGenerated cmd gen → run.IsStillRefused gen net r
      → IsStillRefused cmd net r

-- To what a command comes if the generated files conform to this network together with its words: it is run. If it isn't,
-- then the job is refused for one of these reasons, or memory ran out.
abbrev pub ComesFor : Network State → Command → Status → (lines : List ℕ) → About → Type 0
ComesFor net cmd status.Quiet lines about = Runs cmd net status.Quiet lines about
ComesFor net cmd (status.Trapped inst action trap) lines about =
    Runs cmd net (status.Trapped inst action trap) lines about
ComesFor net cmd (status.Stalled inst action link) lines about =
    Runs cmd net (status.Stalled inst action link) lines about
ComesFor net cmd (status.Budget firings) lines about =
    Runs cmd net (status.Budget firings) lines about
ComesFor net cmd (status.WriteFault channel) lines about =
    Runs cmd net (status.WriteFault channel) lines about
ComesFor net cmd (status.Refused r) lines about = IsStillRefused cmd net r × OpenedNothing cmd
ComesFor net cmd status.OutOfMemory lines about = OpenedNothing cmd
ComesFor net cmd (status.ReadFault at) lines about = ⊥
ComesFor net cmd status.Done lines about = ⊥
ComesFor net cmd (status.Usage cause) lines about = ⊥
ComesFor net cmd (status.NotRun number why) lines about = ⊥
ComesFor net cmd (status.Uncertified inst state first second reason) lines about = ⊥
