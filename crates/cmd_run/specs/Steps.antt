-- The steps from an image to an answer.
-- Not trusted but for images: no other promise is read with it.
use Rattle.std.specs.Prelude.{◌≡◌, ℕ, ◌≤◌, List, [], length, map, string_bytes, Some, IfOk}
use Rattle.std.specs.declared.result.Result.{Result}
use Rattle.std.specs.declared.result.Result.TheVariants.{Ok, Err}
use Rattle.rvc_io.specs.Channels.{Channels}
use Rattle.rvc_io.specs.Feeds.{Inputs}
use Rattle.rvc_words.specs.Words.{port_text}
use Rattle.rvc_words.specs.declared.job.Job.{Job}
use Rattle.cal_model.specs.Actor.{Actor}
use Rattle.cal_model.specs.Selection.{State}
use Rattle.net_model.specs.Network.{Network}
use Rattle.net_model.specs.State.{start_of}
use Rattle.cal_files.specs.Loading.{Library}
use Rattle.cal_files.specs.Views.{file_names}
use Rattle.cal_files.specs.declared.names.Names.{Names}
use Rattle.fnl_source.specs.Files.{Asked}
use Rattle.cmd_ports.specs.Matching.{names_of}
use Rattle.cmd_ports.specs.Opening.{Opening}
use Rattle.round_runner.specs.declared.outcome.RunEnd.{RunEnd}
use Rattle.round_runner.specs.declared.outcome.RunEnd.TheVariants as end
use Rattle.net_cells.specs.Sources.{IsActorNetwork}
use Rattle.rvc_engine.specs.Built.{HasImage, IsBuilt}
use Rattle.rvc_engine.specs.declared.image.Image.{Image}
use Rattle.cmd_run_network.specs.Answering.{AreAllOpen, EndIsCaused, IfStarted, IfUnstarted, IsPermitted, IsRefused, IsUnread, IsUnwritten, LeavesJob, OnRefused, OnUnread, OnUnwritten}
use Rattle.cmd_run_network.specs.Arriving.{ArriveInEach}
use Rattle.cmd_run_network.specs.Files.{AreInputs, Keeps, OpensOnly, WritesOnly}
use Rattle.cmd_run_network.specs.Leaving.{setting_of}
use Rattle.cmd_run_network.specs.Names.{OpensByName}
use Rattle.cmd_run_network.specs.Network as asks
use Rattle.cmd_run_network.specs.declared.outcome.JobFault.{JobFault}
use Rattle.cmd_run_network.specs.declared.outcome.JobFault.TheVariants as fault
use Rattle.cmd_run_network.specs.declared.outcome.Outcome.{Outcome}
use Rattle.cmd_report.specs.About.{About}
use Rattle.cmd_report.specs.Report.{report, run_lines}
use Rattle.cmd_report.specs.declared.status.ReadAt.TheVariants.{Feed}
use Rattle.cmd_report.specs.declared.status.Status.{Status}
use Rattle.cmd_report.specs.declared.status.Status.TheVariants as status
use Rattle.cmd_network.specs.Commands.{count_none, port_names}
use Rattle.cmd_network.specs.Steps.{IsPut}

-- ---- images

-- the image of a network of sound actors
pub record IsSourceImage (image : Image) : Type 0 where
  pub actors : List Actor
  pub net : Network State
  pub has : HasImage image actors net
  pub is : IsActorNetwork actors net

-- what is built of a library is one
abbrev pub BuiltAreSourceImages : Type 0
BuiltAreSourceImages = (library : Library) (top : Asked) (names : List (List ℕ)) (image : Image)
    → IsBuilt library top names image → IsSourceImage image

-- ---- statuses

-- that of a run's end, after so many firings
abbrev pub status_at : RunEnd → (firings : ℕ) → Status
status_at end.Quiet firings = status.Quiet
status_at (end.Trapped inst action trap) firings = status.Trapped inst action trap
status_at (end.Stalled inst action link) firings = status.Stalled inst action link
status_at end.Budget firings = status.Budget firings
status_at (end.ReadFault feed) firings = status.ReadFault (Feed feed)
status_at (end.WriteFault channel) firings = status.WriteFault channel

-- .. and of what kept the rounds from going
abbrev pub status_of_fault : JobFault → Status
status_of_fault (fault.Refused refusal) = status.Refused refusal
status_of_fault fault.Memory = status.OutOfMemory
status_of_fault (fault.ReadFault feed) = status.ReadFault (Feed feed)
status_of_fault (fault.WriteFault channel) = status.WriteFault channel

abbrev pub status_of : Result Outcome JobFault → Status
status_of (Ok outcome) = status_at outcome.end outcome.counts.firings
status_of (Err fault) = status_of_fault fault

-- ---- reports

-- what the report speaks of, with an image
abbrev pub about_image : Image → Names → Job → About
about_image image names job = record {
  files = file_names names;
  trace = string_bytes job.trace;
  words = map port_text job.ports.items;
  instances = length image.codes.items;
  links = image.flat.links.items;
  ins = names_of image.flat.ins.items;
  outs = names_of image.flat.outs.items;
}

-- the lines of the verb
abbrev pub lines_at : Image → Names → Job → Result Outcome JobFault → List ℕ
lines_at image names job (Ok outcome) =
    run_lines (about_image image names job) (Some (count_none image.uncertified.items)) outcome.counts
lines_at image names job (Err fault) = []

-- ---- runs

-- a run of cells leaves what one of the sources would, and comes to this
pub record CellsRan (image : Image) (job : Job) (feeds feeds_new : Inputs) (old new : Channels)
    (came : Result Outcome JobFault) : Type 0 where
  pub leaves : (actors : List Actor) (net : Network State) (inputs : List (List ℕ))
      → HasImage image actors net → IsActorNetwork actors net
      → AreInputs inputs net.links (port_names net.ins) (asks.words_of job) feeds
      → LeavesJob (setting_of net inputs (start_of net inputs) job) came feeds_new new
  pub within : IfOk came (λ outcome. outcome.counts.firings ≤ job.budget)
  pub permitted : IfStarted came (IsPermitted image.flat job)
  pub opened : IfOk came (λ outcome. AreAllOpen image.flat.links.items (asks.in_names image.flat)
      (asks.out_names image.flat) (asks.words_of job) (string_bytes job.trace) feeds_new new)
  pub refused : OnRefused came (IsRefused image.flat job)
  pub unstarted : IfUnstarted came ((feeds_new ≡ feeds) × (new ≡ old))
  pub unread : OnUnread came (λ feed. IsUnread image.flat.links.items (asks.in_names image.flat)
      (asks.words_of job) feeds feeds_new feed × (new ≡ old))
  pub unwritten : OnUnwritten came
      (IsUnwritten image.flat.links.items (asks.in_names image.flat) (asks.out_names image.flat)
      (asks.words_of job) (string_bytes job.trace)
      (asks.head_of image.flat (length image.codes.items) job.grow) feeds feeds_new old new)
  pub faults : IfOk came (λ outcome. EndIsCaused image.flat.links.items (asks.in_names image.flat)
      (asks.out_names image.flat) (asks.words_of job) feeds feeds_new old new outcome.end)
  pub report : Keeps 0 old new
  pub only_feeds : OpensOnly image.flat.links.items (asks.in_names image.flat) (asks.words_of job) feeds feeds_new
  pub others : WritesOnly (asks.out_names image.flat) (asks.words_of job) old new

-- .. it opened feeds and channels, and had workers, as its job asks, by what these tell
pub record CellsAsked (image : Image) (job : Job) (FeedsAre ChannelsAre : List Opening → Type 0)
    (Arrived : ℕ → ℕ → Type 0) (came : Result Outcome JobFault) : Type 0 where
  pub by_name : OpensByName image.flat.links.items (asks.in_names image.flat) (asks.out_names image.flat)
      (asks.words_of job) (string_bytes job.trace) FeedsAre ChannelsAre came
  pub arrive : IfOk came (λ outcome. ArriveInEach Arrived job (length image.codes.items) outcome.counts)

-- .. and then the report was put, or wasn't
pub record ImageRan (image : Image) (names : Names) (job : Job) (feeds feeds_new : Inputs)
    (old new : Channels) (FeedsAre ChannelsAre : List Opening → Type 0) (Arrived : ℕ → ℕ → Type 0)
    (answer : Status) : Type 0 where
  pub came : Result Outcome JobFault
  pub between : Channels
  pub ran : CellsRan image job feeds feeds_new old between came
  pub asked : CellsAsked image job FeedsAre ChannelsAre Arrived came
  pub put : IsPut (status_of came)
      (report (lines_at image names job came) (about_image image names job) (status_of came))
      between new answer
