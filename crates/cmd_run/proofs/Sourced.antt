-- What a run of lowered actors leaves, a run of the actors leaves for which they stand.
use Rattle.std.proofs.Common.{◌≡◌, inl, inr, ⊎_elim, ℕ, ◌+◌, List, [], ◌∷◌, ◌++◌, refl, subst}
use Rattle.std.specs.declared.result.Result.{Result}
use Rattle.std.specs.declared.result.Result.TheVariants.{Ok, Err}
use Rattle.rvc_io.specs.Channels.{Channels}
use Rattle.rvc_io.specs.Feeds.{Inputs}
use Rattle.rvc_words.specs.declared.job.Job.{Job}
use Rattle.trace_text.specs.declared.line.Line.{Line}
use Rattle.cal_model.specs.Actor.{Actor}
use Rattle.cal_model.specs.Selection.{State as ActorState}
use Rattle.lowered_actor.specs.Actor as coded
use Rattle.lowered_actor.specs.Meaning as lowered
use Rattle.net_model.specs.declared.wiring.Counts.{Counts}
use Rattle.net_model.specs.Network.{Network}
use Rattle.net_model.specs.State.{State}
use Rattle.net_model.specs.Alike.{AreAlike, StatesAlike}
use Rattle.net_model.specs.Paced.{IsBegun, IsPaced, Moment}
use Rattle.net_model.specs.Trace.{KeepsFrom, PlaysFrom, bytes_out, text}
use Rattle.net_model.specs.Counted.{IsCounted}
use Rattle.net_model.proofs.Rounds.{begun_play, paced_play}
use Rattle.lower_actor.specs.Leaves.{StandForActors}
use Rattle.net_cells.specs.Sources.{IsActorNetwork, lowered_network, may_come_at, stands_at}
use Rattle.net_cells.proofs.Lawlike.{begun_alike, bytes_alike, counted_alike, keep_alike, paced_alike, texts_alike}
use Rattle.net_cells.proofs.LikeSources.{lowered_alike}
use Rattle.net_cells.proofs.RunsToo.{needs_alike}
use Rattle.cmd_run_network.specs.Answering.{LeavesJob}
use Rattle.cmd_run_network.specs.Leaving.{Came, Ending, HasEnded, Holds, HoldsPrefix, LeavesRun, Setting, Unread, Unwritten, WasBroken, WasCut, Wrote, WrotePrefixes, ending_of, pace_of, setting_of}
use Rattle.cmd_run_network.specs.declared.outcome.JobFault.{JobFault}
use Rattle.cmd_run_network.specs.declared.outcome.JobFault.TheVariants as fault
use Rattle.cmd_run_network.specs.declared.outcome.Outcome.{Outcome}

module _ (actors : List Actor) (codes : List coded.Actor) (net : Network ActorState) (is : IsActorNetwork actors net) (stand : StandForActors actors codes)
    (inputs : List (List ℕ)) (s : State lowered.ActorState) (that : State ActorState) (states : StatesAlike (stands_at actors) (may_come_at actors) (lowered_network codes net) s that)
    (job : Job) (channels : Channels) where
  below : Network lowered.ActorState
  below = lowered_network codes net

  abbrev Alike : State lowered.ActorState → State ActorState → Type 0
  Alike last there = StatesAlike (stands_at actors) (may_come_at actors) (lowered_network codes net) last there

  alike : AreAlike (stands_at actors) (may_come_at actors) (lowered_network codes net) net
  alike = lowered_alike actors codes net is stand

  abbrev of_cells : Setting lowered.ActorState
  of_cells = setting_of (lowered_network codes net) inputs s job

  abbrev of_sources : Setting ActorState
  of_sources = setting_of net inputs that job

  same_text : (lines : List Line) → text (lowered_network codes net) job.grow lines ≡ text net job.grow lines
  same_text lines = texts_alike (stands_at actors) (may_come_at actors) (lowered_network codes net) net alike job.grow lines

  same_bytes : (last : State lowered.ActorState) (there : State ActorState) → Alike last there → (p : ℕ) → bytes_out (lowered_network codes net) last p ≡ bytes_out net there p
  same_bytes last there ends p = bytes_alike (stands_at actors) (may_come_at actors) (lowered_network codes net) net alike last there p ends

  wrote_too : (lines : List Line) (last : State lowered.ActorState) (there : State ActorState) → Alike last there → Wrote of_cells lines last channels → Wrote of_sources lines there channels
  wrote_too lines last there ends wrote = record {
    trace = subst (Holds channels 1) (same_text lines) wrote.trace;
    outputs = λ p file named. subst (Holds channels (2 + p)) (same_bytes last there ends p) (wrote.outputs p file named);
    unnamed = wrote.unnamed;
  }

  prefixes_too : (lines : List Line) (last : State lowered.ActorState) (there : State ActorState) → Alike last there → WrotePrefixes of_cells lines last channels → WrotePrefixes of_sources lines there channels
  prefixes_too lines last there ends wrote = record {
    trace = subst (HoldsPrefix channels 1) (same_text lines) wrote.trace;
    outputs = λ p file named. subst (HoldsPrefix channels (2 + p)) (same_bytes last there ends p) (wrote.outputs p file named);
    unnamed = wrote.unnamed;
  }

  keeps_too : (lines : List Line) → KeepsFrom (lowered_network codes net) s lines → KeepsFrom net that lines
  keeps_too lines keeps = keep_alike (stands_at actors) (may_come_at actors) (lowered_network codes net) net alike s that lines states keeps

  counted_too : (lines : List Line) (last : State lowered.ActorState) (there : State ActorState) (counts : Counts) → Alike last there → PlaysFrom (lowered_network codes net) job.grow s lines last
      → IsCounted (lowered_network codes net) inputs s lines last counts → IsCounted net inputs that lines there counts
  counted_too lines last there counts ends plays counted =
      counted_alike (stands_at actors) (may_come_at actors) (lowered_network codes net) net alike inputs job.grow s last that there lines counts states ends plays counted

  -- paced lines, and begun ones
  record PacedToo (lines : List Line) (last : State lowered.ActorState) : Type 0 where
    there : State ActorState
    paced : IsPaced net (pace_of job) that lines there
    ends : Alike last there

  paced_too : (lines : List Line) (last : State lowered.ActorState) → IsPaced (lowered_network codes net) (pace_of job) s lines last → PacedToo lines last
  paced_too lines last paced =
      let too = paced_alike (stands_at actors) (may_come_at actors) (lowered_network codes net) net alike (pace_of job) s last that lines states paced in
      record { there = too.0; paced = too.1; ends = too.2 }

  record BegunToo (lines : List Line) (reached : Moment lowered.ActorState) : Type 0 where
    there : Moment ActorState
    begun : IsBegun net (pace_of job) that lines there
    ends : Alike reached.state there.state

  begun_too : (lines : List Line) (reached : Moment lowered.ActorState) → IsBegun (lowered_network codes net) (pace_of job) s lines reached → BegunToo lines reached
  begun_too lines reached begun =
      let too = begun_alike (stands_at actors) (may_come_at actors) (lowered_network codes net) net alike (pace_of job) s that lines reached states begun in
      record {
        there = record { state = too.0; round = reached.round; idle = reached.idle; left = reached.left };
        begun = too.1;
        ends = too.2;
      }

  -- ends
  ended_too : (line : Line) (counts : Counts) → HasEnded of_cells line counts channels → HasEnded of_sources line counts channels
  ended_too line counts ended =
      let too = paced_too (ended.before ++ line ∷ []) ended.last ended.paced in
      record {
        before = ended.before;
        last = too.there;
        paced = too.paced;
        permitted = record {
          plays = paced_play net (pace_of job) that (ended.before ++ line ∷ []) too.there too.paced;
          keeps = keeps_too (ended.before ++ line ∷ []) ended.permitted.keeps;
        };
        wrote = wrote_too (ended.before ++ line ∷ []) ended.last too.there too.ends ended.wrote;
        counted = counted_too (ended.before ++ line ∷ []) ended.last too.there counts too.ends ended.permitted.plays ended.counted;
        spent = ended.spent;
      }

  cut_too : (counts : Counts) (feed : ℕ) (feeds : Inputs) → WasCut of_cells counts feed feeds channels → WasCut of_sources counts feed feeds channels
  cut_too counts feed feeds cut =
      let too = begun_too cut.lines cut.reached cut.begun in
      record {
        lines = cut.lines;
        reached = too.there;
        begun = too.begun;
        needs = needs_alike (stands_at actors) (may_come_at actors) (lowered_network codes net) net alike inputs cut.reached.state too.there.state feed feeds too.ends cut.needs;
        permitted = record {
          plays = begun_play net (pace_of job) that cut.lines too.there too.begun;
          keeps = keeps_too cut.lines cut.permitted.keeps;
        };
        wrote = wrote_too cut.lines cut.reached.state too.there.state too.ends cut.wrote;
        counted = counted_too cut.lines cut.reached.state too.there.state counts too.ends cut.permitted.plays cut.counted;
      }

  broken_too : WasBroken of_cells channels → WasBroken of_sources channels
  broken_too broken = ⊎_elim
      (λ begun.
      let too = begun_too broken.lines begun.0 begun.1 in
      record {
        lines = broken.lines;
        last = too.there.state;
        begun_or_paced = inl (too.there, too.begun, refl);
        permitted = record {
          plays = begun_play net (pace_of job) that broken.lines too.there too.begun;
          keeps = keeps_too broken.lines broken.permitted.keeps;
        };
        wrote = prefixes_too broken.lines broken.last too.there.state (subst (λ u. Alike u too.there.state) begun.2 too.ends) broken.wrote;
      })
      (λ paced.
      let too = paced_too broken.lines broken.last paced in
      record {
        lines = broken.lines;
        last = too.there;
        begun_or_paced = inr too.paced;
        permitted = record {
          plays = paced_play net (pace_of job) that broken.lines too.there too.paced;
          keeps = keeps_too broken.lines broken.permitted.keeps;
        };
        wrote = prefixes_too broken.lines broken.last too.there too.ends broken.wrote;
      })
      broken.begun_or_paced

  run_too : (ending : Ending) (counts : Counts) (feeds : Inputs) → LeavesRun of_cells ending counts feeds channels → LeavesRun of_sources ending counts feeds channels
  run_too (Came line) counts feeds leaves = ended_too line counts leaves
  run_too (Unread feed) counts feeds leaves = cut_too counts feed feeds leaves
  run_too (Unwritten channel) counts feeds leaves = broken_too leaves

  pub job_too : (came : Result Outcome JobFault) (feeds : Inputs) → LeavesJob of_cells came feeds channels → LeavesJob of_sources came feeds channels
  job_too (Ok outcome) feeds leaves = run_too (ending_of outcome.end) outcome.counts feeds leaves
  job_too (Err (fault.Refused refusal)) feeds leaves = tt
  job_too (Err fault.Memory) feeds leaves = tt
  job_too (Err (fault.ReadFault feed)) feeds leaves = tt
  job_too (Err (fault.WriteFault channel)) feeds leaves = broken_too leaves
