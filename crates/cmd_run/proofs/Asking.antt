-- What was opened stays so while the report is put.
use Rattle.std.proofs.Common.{◌≡◌, inl, inr, ℕ, List, string_bytes}
use Rattle.std.specs.declared.result.Result.{Result}
use Rattle.rvc_io.specs.Channels.{Channels, WritesOnlyAt}
use Rattle.rvc_io.specs.Past.{Done}
use Rattle.rvc_words.specs.declared.job.Job.{Job}
use Rattle.cmd_ports.specs.Opening.{Opening}
use Rattle.rvc_engine.specs.declared.image.Image.{Image}
use Rattle.cmd_run_network.specs.Names.{ChannelsOpened}
use Rattle.cmd_run_network.specs.Network as asks
use Rattle.cmd_run_network.specs.declared.outcome.JobFault.{JobFault}
use Rattle.cmd_run_network.specs.declared.outcome.Outcome.{Outcome}
use Rattle.cmd_run_network.proofs.Opened.{named_still}
use Rattle.cmd_report.specs.declared.status.Status.{Status}
use Rattle.cmd_network.specs.Steps.{IsPut}
use Rattle.cmd_run.specs.Steps.{CellsAsked}

pub put_alone : (said : Status) (text : List ℕ) (old new : Channels) (answer : Status) → IsPut said text old new answer → WritesOnlyAt 0 old new
put_alone said text old new answer (inl whole) = whole.1.alone
put_alone said text old new answer (inr less) = less.1.alone

pub still_asked : {T : Type 0} (image : Image) (job : Job) (FeedsAre : List Opening → Type 0) (channels : T → Channels) (past : T → List Done) (old mid new : T) (Arrived : ℕ → ℕ → Type 0)
    (came : Result Outcome JobFault) → ((n : ℕ) → (channels new).is_open n ≡ (channels mid).is_open n) → CellsAsked image job FeedsAre (ChannelsOpened channels past old mid) Arrived came
    → CellsAsked image job FeedsAre (ChannelsOpened channels past old new) Arrived came
still_asked image job FeedsAre channels past old mid new Arrived came same asked = record {
  by_name = named_still image.flat.links.items (asks.in_names image.flat) (asks.out_names image.flat) (asks.words_of job) (string_bytes job.trace) FeedsAre channels past old mid new came same asked.by_name;
  arrive = asked.arrive;
}
