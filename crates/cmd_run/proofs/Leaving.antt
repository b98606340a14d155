-- What a run of an image's cells leaves, said of its source network.
use Rattle.std.proofs.Common.{◌≡◌, ℕ, List, map, ap, subst, ◌∙◌}
use Rattle.std.specs.Arc.{arc_value}
use Rattle.std.proofs.lemmas.Simd.{map-map}
use Rattle.std.specs.declared.result.Result.{Result}
use Rattle.std.specs.declared.result.Result.TheVariants.{Ok, Err}
use Rattle.rvc_io.specs.Channels.{Channels}
use Rattle.rvc_io.specs.Feeds.{Inputs}
use Rattle.rvc_words.specs.Words.{IsWithin, job_text}
use Rattle.rvc_words.specs.declared.job.Job.{Job}
use Rattle.cal_model.specs.Actor.{Actor}
use Rattle.cal_model.specs.Selection.{State as ActorState}
use Rattle.lowered_actor.specs.Meaning as lowered
use Rattle.net_model.specs.declared.wiring.Port.{Port}
use Rattle.net_model.specs.Cell.{Cell}
use Rattle.net_model.specs.Network.{NetPort, Network}
use Rattle.net_model.specs.Ready.{given_state, port_of}
use Rattle.net_model.specs.State.{start_of}
use Rattle.cmd_ports.specs.Matching.{names_of}
use Rattle.net_cells.specs.Cells.{AreCellsOf}
use Rattle.net_cells.specs.Sources.{IsActorNetwork, lowered_network}
use Rattle.rvc_engine.specs.Built.{HasImage}
use Rattle.rvc_engine.specs.declared.image.Image.{Image}
use Rattle.cmd_run_network.specs.Answering.{IfUnstarted, LeavesJob, OnUnread}
use Rattle.cmd_run_network.specs.Files.{AreInputs}
use Rattle.cmd_run_network.specs.Leaving.{setting_of}
use Rattle.cmd_run_network.specs.Network as asks
use Rattle.cmd_run_network.specs.declared.outcome.JobFault.{JobFault}
use Rattle.cmd_run_network.specs.declared.outcome.JobFault.TheVariants as fault
use Rattle.cmd_run_network.specs.declared.outcome.Outcome.{Outcome}
use Rattle.cmd_network.specs.Commands.{port_names}
use Rattle.cmd_run.proofs.Cells.{is_network, stand, starts}
use Rattle.cmd_run.proofs.Sourced.{job_too}

-- the names of ports
pub same_names : (ports : List Port) (own : List NetPort) → own ≡ map port_of ports → port_names own ≡ names_of ports
same_names ports own is = ap port_names is ∙ map-map (λ port. port.name) port_of ports

-- what runs of cells leave, over all networks of them
abbrev pub LeavesCells : List (Cell lowered.ActorState) → Image → Job → Inputs → Inputs → Channels → Result Outcome JobFault → Type 0
LeavesCells cells image job feeds feeds_new channels came = (net : Network lowered.ActorState) (inputs : List (List ℕ)) → asks.IsNetworkOf net cells image.flat
    → AreInputs inputs image.flat.links.items (asks.in_names image.flat) (asks.words_of job) feeds
    → LeavesJob (setting_of net inputs (given_state net cells inputs) job) came feeds_new channels

module _ (image : Image) (actors : List Actor) (net : Network ActorState) (has : HasImage image actors net) (is : IsActorNetwork actors net)
    (job : Job) (within : IsWithin (job_text job)) (cells : List (Cell lowered.ActorState)) (are : AreCellsOf (map arc_value image.codes.items) image.flat.links.items job.burst job.grow cells) where
  pub source_leaves : (feeds feeds_new : Inputs) (channels : Channels) (came : Result Outcome JobFault) (inputs : List (List ℕ)) → LeavesCells cells image job feeds feeds_new channels came
      → AreInputs inputs net.links (port_names net.ins) (asks.words_of job) feeds
      → LeavesJob (setting_of net inputs (start_of net inputs) job) came feeds_new channels
  source_leaves feeds feeds_new channels came inputs leaves given =
      job_too actors (map arc_value image.codes.items) net is (stand image actors net has is) inputs
      (given_state (lowered_network (map arc_value image.codes.items) net) cells inputs) (start_of net inputs)
      (starts image actors net has is job within cells are inputs) job channels came feeds_new
      (leaves (lowered_network (map arc_value image.codes.items) net) inputs (is_network image actors net has is job within cells are)
      (subst (λ links. AreInputs inputs links (asks.in_names image.flat) (asks.words_of job) feeds) (has.is_net).wiring.links
      (subst (λ ins. AreInputs inputs net.links ins (asks.words_of job) feeds) (same_names image.flat.ins.items net.ins (has.is_net).wiring.ins) given)))

-- ---- what is known of feeds and channels, from what is known of their objects

pub when_unstarted : {S T : Type 0} (feeds : S → Inputs) (channels : T → Channels) (one two : S) (old new : T) (came : Result Outcome JobFault)
    → IfUnstarted came ((two ≡ one) × (new ≡ old)) → IfUnstarted came ((feeds two ≡ feeds one) × (channels new ≡ channels old))
when_unstarted feeds channels one two old new (Ok outcome) h = tt
when_unstarted feeds channels one two old new (Err (fault.Refused refusal)) h = (ap feeds h.0, ap channels h.1)
when_unstarted feeds channels one two old new (Err fault.Memory) h = (ap feeds h.0, ap channels h.1)
when_unstarted feeds channels one two old new (Err (fault.ReadFault feed)) h = tt
when_unstarted feeds channels one two old new (Err (fault.WriteFault channel)) h = tt

pub when_unread : {T : Type 0} (channels : T → Channels) (old new : T) (came : Result Outcome JobFault) (P : ℕ → Type 0)
    → OnUnread came (λ feed. P feed × (new ≡ old)) → OnUnread came (λ feed. P feed × (channels new ≡ channels old))
when_unread channels old new (Ok outcome) P h = tt
when_unread channels old new (Err (fault.Refused refusal)) P h = tt
when_unread channels old new (Err fault.Memory) P h = tt
when_unread channels old new (Err (fault.ReadFault feed)) P h = (h.0, ap channels h.1)
when_unread channels old new (Err (fault.WriteFault channel)) P h = tt
