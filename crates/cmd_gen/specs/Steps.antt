-- The steps of a command of the verb `gen`.
-- Trusted for `command_over` alone: part of what a promise means.
use Rattle.std.specs.Prelude.{◌≡◌, ℕ, List, Some, string_bytes}
use Rattle.rvc_base.specs.declared.refusal.Refusal.{Refusal}
use Rattle.rvc_io.specs.Channels.{Channels}
use Rattle.rvc_io.specs.Feeds.{Inputs}
use Rattle.rvc_words.specs.Words.{PortText}
use Rattle.rvc_words.specs.declared.job.Job.{Job}
use Rattle.cal_files.specs.Loading.{Counts, Library}
use Rattle.cal_files.specs.Views.{file_names}
use Rattle.cal_files.specs.declared.names.Names.{Names}
use Rattle.cmd_ports.specs.Matching.{AreMatched, IsWrongWord}
use Rattle.cmd_ports.specs.Opening.{Opening}
use Rattle.rvc_engine.specs.Built.{IsBuilt}
use Rattle.network_check.specs.Top.{top_asked}
use Rattle.rvc_engine.specs.declared.image.Image.{Image}
use Rattle.cmd_report.specs.Report.{last_line}
use Rattle.cmd_report.specs.declared.status.Status.{Status}
use Rattle.cmd_report.specs.declared.status.Status.TheVariants as status
use Rattle.cmd_network.specs.Answers.{IsAnswered}
use Rattle.cmd_network.specs.Commands.{Command}
use Rattle.cmd_network.specs.Steps.{IsPut, about_words}
use Rattle.cmd_run_network.specs.Network.{out_names}
use Rattle.cmd_run.specs.Asked as run
use Rattle.cmd_gen_network.specs.Feed.{bytes_of}
use Rattle.cmd_gen.specs.Asked.{AnyFeeds}

-- a command over a library and feeds
abbrev pub command_over : Job → Library → (misses faults : Counts) → (feeds feeds_after : Inputs)
    → (old new : Channels) → Command
command_over job library misses faults feeds feeds_after old new = record {
  job = job;
  library = library;
  misses = misses;
  faults = faults;
  feeds = feeds;
  feeds_after = feeds_after;
  channels = old;
  channels_after = new;
}

-- the last line of a status was put, or couldn't be
abbrev pub IsLine : (said : Status) → Names → Job → (old new : Channels) → Status → Type 0
IsLine said names job old new answer =
    IsPut said (last_line (about_words names job) said) old new answer

-- An image was run over feeds of the generated input, of which no call failed.
pub record ImageRan (image : Image) (names : Names) (job : Job) (instances : ℕ) (old new : Channels)
    (ChannelsAre : List Opening → Type 0) (Arrived : ℕ → ℕ → Type 0) (answer : Status) :
    Type 0 where
  pub feeds : Inputs
  pub feeds_after : Inputs
  pub given : (name : List ℕ) → feeds.under name ≡ Some (bytes_of instances)
  pub no_fault : feeds_after.faults ≡ 0
  pub answered : (library : Library) (misses faults : Counts)
      → IsBuilt library (top_asked (string_bytes job.top)) (file_names names) image
      → IsAnswered (run.ComesAsAsked AnyFeeds ChannelsAre Arrived)
      (command_over job library misses faults feeds feeds_after old new) answer

-- What came of an image: memory ran out, one of these words is wrong, or it was run.
pub data CameOf (image : Image) (names : Names) (words : List PortText) (job : Job) (instances : ℕ)
    (old new : Channels) (ChannelsAre : List Opening → Type 0) (Arrived : ℕ → ℕ → Type 0)
    (answer : Status) : Type 0 where
  of_memory : IsLine status.OutOfMemory names job old new answer
      → CameOf image names words job instances old new ChannelsAre Arrived answer
  of_word : (r : Refusal) → IsWrongWord (out_names image.flat) words r
      → IsLine (status.Refused r) names job old new answer
      → CameOf image names words job instances old new ChannelsAre Arrived answer
  of_run : AreMatched (out_names image.flat) words
      → ImageRan image names job instances old new ChannelsAre Arrived answer
      → CameOf image names words job instances old new ChannelsAre Arrived answer
