-- What is judged over the cells of an image is judged over its source network.
use Rattle.std.proofs.Common.{◌≡◌, ℕ, List, map, subst}
use Rattle.std.specs.Prelude.{Some, string_bytes}
use Rattle.std.specs.Arc.{arc_value}
use Rattle.std.specs.declared.result.Result.{Result}
use Rattle.std.specs.declared.result.Result.TheVariants.{Ok, Err}
use Rattle.rvc_io.specs.Feeds.{Inputs}
use Rattle.rvc_words.specs.Words.{IsWithin, job_text}
use Rattle.rvc_words.specs.declared.job.Job.{Job}
use Rattle.cal_model.specs.Actor.{Actor}
use Rattle.cal_model.specs.Selection.{State as ActorState}
use Rattle.lowered_actor.specs.Actor as coded
use Rattle.lowered_actor.specs.Meaning as lowered
use Rattle.net_model.specs.Cell.{Cell}
use Rattle.net_model.specs.Network.{Network}
use Rattle.net_model.specs.Ready.{given_state}
use Rattle.net_model.specs.State.{State, start_of}
use Rattle.net_model.specs.Alike.{AreAlike, StatesAlike}
use Rattle.net_cells.specs.Cells.{AreCellsOf}
use Rattle.net_cells.specs.SourceRuns.{ActorNetworksAreLawful}
use Rattle.net_cells.specs.Sources.{IsActorNetwork, lowered_network, may_come_at, stands_at}
use Rattle.net_cells.proofs.Lawlike.{counted_alike}
use Rattle.net_cells.proofs.LikeSources.{lowered_alike}
use Rattle.cmd_run_network.specs.Files.{AreInputs}
use Rattle.cmd_run_network.specs.Network as asks
use Rattle.trace_replay.specs.Laws.{NoTraceIsNotRun}
use Rattle.trace_replay.specs.Replaying.{IsRefused, IsReplayed}
use Rattle.trace_replay.specs.declared.replayed.Replayed.{Replayed}
use Rattle.trace_replay.specs.declared.why.ReplayFault.{ReplayFault}
use Rattle.trace_replay.specs.declared.why.ReplayFault.TheVariants.{NotRun, ReadFault, Memory}
use Rattle.rvc_engine.specs.Built.{HasImage}
use Rattle.rvc_engine.specs.declared.image.Image.{Image}
use Rattle.cmd_run.proofs.Cells.{is_network, stand, starts}
use Rattle.cmd_run.proofs.Leaving.{same_names}
use Rattle.cmd_network.specs.Commands.{port_names}
use Rattle.cmd_replay.specs.Steps.{Judges, source_trial, trial_of}
use Rattle.cmd_replay.specs.declared.outcome.NotReplayed.{NotReplayed}
use Rattle.cmd_replay.specs.declared.outcome.NotReplayed.TheVariants as stop
use Rattle.law_alike.proofs.LikeTraces.{not_run_alike, trace_alike}

module _ (actors : List Actor) (codes : List coded.Actor) (net : Network ActorState) (alike : AreAlike (stands_at actors) (may_come_at actors) (lowered_network codes net) net)
    (is : IsActorNetwork actors net) (lawful : ActorNetworksAreLawful) (none : NoTraceIsNotRun ActorState)
    (cells : List (Cell lowered.ActorState)) (inputs : List (List ℕ)) (grow : ℕ)
    (states : StatesAlike (stands_at actors) (may_come_at actors) (lowered_network codes net) (given_state (lowered_network codes net) cells inputs) (start_of net inputs)) where
  abbrev begin : State lowered.ActorState
  begin = given_state (lowered_network codes net) cells inputs

  replayed_too : (text : List ℕ) (replayed : Replayed) → IsReplayed (trial_of (lowered_network codes net) cells inputs grow) text inputs replayed → IsReplayed (source_trial net inputs grow) text inputs replayed
  replayed_too text replayed is_replayed =
      let too = trace_alike (stands_at actors) (may_come_at actors) (lowered_network codes net) net alike grow begin (start_of net inputs) states text is_replayed.lines replayed.end is_replayed.last is_replayed.is_trace in
      record {
        lines = is_replayed.lines;
        last = too.0;
        is_trace = too.1;
        within = is_replayed.within;
        counted = counted_alike (stands_at actors) (may_come_at actors) (lowered_network codes net) net alike inputs grow begin is_replayed.last (start_of net inputs) too.0 is_replayed.lines replayed.counts
            states too.2 is_replayed.is_trace.plays is_replayed.counted;
      }

  refused_too : (text : List ℕ) (fault : ReplayFault) → IsRefused (trial_of (lowered_network codes net) cells inputs grow) text fault → IsRefused (source_trial net inputs grow) text fault
  refused_too text (NotRun line why) refused =
      let not_run = not_run_alike (stands_at actors) (may_come_at actors) (lowered_network codes net) net alike grow begin (start_of net inputs) states text line why refused.0 in
      let laws = lawful actors net is in
      (not_run, λ lines end last short is_trace. none (source_trial net inputs grow) text lines end last line why laws.0 laws.1 short is_trace not_run)
  refused_too text (ReadFault feed) refused = tt
  refused_too text Memory refused = tt

  pub judges_too : (text : List ℕ) (came : Result Replayed NotReplayed) → Judges (trial_of (lowered_network codes net) cells inputs grow) text inputs came → Judges (source_trial net inputs grow) text inputs came
  judges_too text (Ok replayed) judges = replayed_too text replayed judges
  judges_too text (Err (stop.Fault fault)) judges = refused_too text fault judges
  judges_too text (Err (stop.Refused r)) judges = tt

-- what cells judge, over all networks of them
abbrev pub JudgesCells : List (Cell lowered.ActorState) → Image → Job → Inputs → Result Replayed NotReplayed → Type 0
JudgesCells cells image job feeds came = (net : Network lowered.ActorState) (inputs : List (List ℕ)) (text : List ℕ) → asks.IsNetworkOf net cells image.flat
    → AreInputs inputs image.flat.links.items (asks.in_names image.flat) (asks.words_of job) feeds
    → feeds.under (string_bytes job.trace) ≡ Some text
    → Judges (trial_of net cells inputs job.grow) text inputs came

module _ (image : Image) (actors : List Actor) (net : Network ActorState) (has : HasImage image actors net) (is : IsActorNetwork actors net) (lawful : ActorNetworksAreLawful) (none : NoTraceIsNotRun ActorState)
    (job : Job) (within : IsWithin (job_text job)) (cells : List (Cell lowered.ActorState)) (are : AreCellsOf (map arc_value image.codes.items) image.flat.links.items job.burst job.grow cells) where
  pub source_judges : (feeds : Inputs) (came : Result Replayed NotReplayed) (inputs : List (List ℕ)) (text : List ℕ) → JudgesCells cells image job feeds came
      → AreInputs inputs net.links (port_names net.ins) (asks.words_of job) feeds
      → feeds.under (string_bytes job.trace) ≡ Some text
      → Judges (source_trial net inputs job.grow) text inputs came
  source_judges feeds came inputs text judges given told =
      judges_too actors (map arc_value image.codes.items) net (lowered_alike actors (map arc_value image.codes.items) net is (stand image actors net has is)) is lawful none cells inputs job.grow
      (starts image actors net has is job within cells are inputs) text came
      (judges (lowered_network (map arc_value image.codes.items) net) inputs text (is_network image actors net has is job within cells are)
      (subst (λ links. AreInputs inputs links (asks.in_names image.flat) (asks.words_of job) feeds) (has.is_net).wiring.links
      (subst (λ ins. AreInputs inputs net.links ins (asks.words_of job) feeds) (same_names image.flat.ins.items net.ins (has.is_net).wiring.ins) given)) told)
