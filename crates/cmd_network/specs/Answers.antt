-- How a command is answered, whatever its verb comes to; and what refuses its files and its words.
-- Trusted: part of what a promise means.
use Rattle.std.specs.Prelude.{◌≡◌, ℕ, List}
use Rattle.rvc_base.specs.declared.refusal.Refusal.{Refusal}
use Rattle.rvc_io.specs.Channels.{Appends}
use Rattle.rvc_io.specs.Count.{HasRisen}
use Rattle.channel_writer.specs.Held.{AppendsFront}
use Rattle.cal_model.specs.Selection.{State}
use Rattle.net_model.specs.Network.{Network}
use Rattle.fnl_files.specs.Loading.{IsFaulted}
use Rattle.cmd_ports.specs.Matching.{IsWrongWord}
use Rattle.cmd_network.specs.Conforming.{Opened}
use Rattle.network_check.specs.Refused.{RefusesTop}
use Rattle.cmd_report.specs.About.{About}
use Rattle.cmd_report.specs.Report.{report}
use Rattle.cmd_report.specs.declared.status.Status.{Status}
use Rattle.cmd_report.specs.declared.status.Status.TheVariants as status
use Rattle.cmd_network.specs.Commands.{Command, HasFiles, about_files, top_of, words_of}

-- ---- files and words

-- the files that the top needs break a rule; the file of the refusal is one of these names
pub record BreaksFiles (cmd : Command) (names : List (List ℕ)) (r : Refusal) : Type 0 where
  pub why : RefusesTop cmd.library (top_of cmd) cmd.misses names r

-- the first port word that names no port of the network that is opened, or one that a word before it names
pub record HasWrongWord (opened : Opened) (cmd : Command) (names : List (List ℕ))
    (net : Network State) (r : Refusal) : Type 0 where
  pub files : HasFiles cmd net
  pub names_are : names ≡ files.names
  pub wrong : IsWrongWord (opened net) (words_of cmd) r

-- Why a job is refused that needs no code: its files break a rule, or they mean a network, and a port word is wrong.
pub data BreaksJob (opened : Opened) (cmd : Command) (r : Refusal) : About → Type 0 where
  by_files : (names : List (List ℕ)) → BreaksFiles cmd names r
      → BreaksJob opened cmd r (about_files cmd names)
  by_words : (names : List (List ℕ)) (net : Network State) → HasWrongWord opened cmd names net r
      → BreaksJob opened cmd r (about_files cmd names)

-- the reading of a file failed, which was counted; the file is one of these names
pub record FileUnread (cmd : Command) (file : ℕ) (about : About) : Type 0 where
  pub counted : HasRisen cmd.faults.old cmd.faults.new
  pub names : List (List ℕ)
  pub told : IsFaulted cmd.library (top_of cmd) cmd.misses file names
  pub about_is : about ≡ about_files cmd names

-- ---- the answer

-- How a command is answered, by what its verb comes to with each status, with these lines of the verb in its report and
-- speaking of this. Its report was put behind what channel 0 held, which is what the status says; or a put of it failed,
-- which was counted, and channel 0 got a prefix of it: then the status is that of channel 0, whatever the command had come
-- to.
pub data IsAnswered (Comes : Command → Status → List ℕ → About → Type 0) (cmd : Command) : Status → Type 0 where
  is_reported : {said : Status} (lines : List ℕ) (about : About) → Comes cmd said lines about
      → Appends 0 cmd.channels cmd.channels_after (report lines about said)
      → IsAnswered Comes cmd said
  is_unreported : (said : Status) (lines : List ℕ) (about : About) → Comes cmd said lines about
      → AppendsFront 0 cmd.channels cmd.channels_after (report lines about said)
      → HasRisen cmd.channels.faults cmd.channels_after.faults
      → IsAnswered Comes cmd (status.WriteFault 0)

-- this holds of the refusal, if the command is refused
abbrev pub OnRefusal : Status → (Refusal → Type 0) → Type 0
OnRefusal (status.Refused r) P = P r
OnRefusal status.Quiet P = Unit {0}
OnRefusal status.Done P = Unit {0}
OnRefusal (status.Usage cause) P = Unit {0}
OnRefusal (status.ReadFault at) P = Unit {0}
OnRefusal (status.WriteFault channel) P = Unit {0}
OnRefusal (status.Trapped inst action trap) P = Unit {0}
OnRefusal (status.Stalled inst action link) P = Unit {0}
OnRefusal (status.Budget firings) P = Unit {0}
OnRefusal status.OutOfMemory P = Unit {0}
OnRefusal (status.NotRun number why) P = Unit {0}
OnRefusal (status.Uncertified inst state first second reason) P = Unit {0}
