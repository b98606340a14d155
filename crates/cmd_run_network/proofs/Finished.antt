-- A job that was prepared and started: what its run leaves, or what it leaves if it can't be started.
use Rattle.std.proofs.Common.{◌≡◌, ◌≢◌, ◌⊎◌, inl, inr, ⊎_elim, ℕ, suc, ◌+◌, ◌-◌, false, List, length, map, refl, sym, ap, subst, ◌∙◌, arith}
use Rattle.std.specs.Prelude.{Err, string_bytes}
use Rattle.std.proofs.lemmas.List.{length-map}
use Rattle.rvc_base.specs.declared.round_kind.RoundKind.{RoundKind}
use Rattle.rvc_io.specs.Channels.{Channels}
use Rattle.rvc_io.specs.Feeds.{Inputs}
use Rattle.rvc_words.specs.Words.{PortText, port_text}
use Rattle.rvc_words.specs.declared.job.Job.{Job}
use Rattle.net_model.specs.declared.wiring.Counts.{Counts}
use Rattle.net_model.specs.Cell.{Cell}
use Rattle.net_model.specs.Network.{Leaf, Network}
use Rattle.net_model.specs.Paced.{Pace}
use Rattle.net_model.specs.PacingLaws.{BegunWithinBudget, PacedWithinBudget}
use Rattle.net_model.specs.Ready.{IsReady, given_state}
use Rattle.net_model.specs.Ready as ready
use Rattle.net_model.specs.State.{State}
use Rattle.net_model.specs.Trace.{head_text}
use Rattle.fnl_flatten.specs.declared.flat.Flat.{Flat}
use Rattle.round_runner.specs.declared.outcome.RunEnd.{RunEnd}
use Rattle.round_runner.specs.Running.{Running}
use Rattle.round_runner.specs.Running as running
use Rattle.network_runner.specs.Arriving.{Arrivals, RunArrives, Stage, stage_of}
use Rattle.network_runner.specs.Asking.{CanRun, EndLeaves, HaveInputs, IsAtStart, WritesWithin, seen_run}
use Rattle.network_runner.specs.FromStart.{RunsArePaced, RunsFromStart}
use Rattle.network_runner.specs.Making.{CountNothing}
use Rattle.network_runner.proofs.Arrived.{stage_is}
use Rattle.cmd_ports.specs.Matching.{names_of}
use Rattle.cmd_ports.specs.Opening.{ChannelFails, FeedsAreOpened, channels_of, feeds_of}
use Rattle.cmd_run_network.specs.declared.outcome.JobFault.{JobFault}
use Rattle.cmd_run_network.specs.declared.outcome.JobFault.TheVariants.{Memory, ReadFault, Refused, WriteFault}
use Rattle.cmd_run_network.specs.declared.outcome.Outcome.{Outcome}
use Rattle.cmd_run_network.specs.Answering.{HeadFails, IsUnwritten, LeavesJob, OnUnwritten}
use Rattle.cmd_run_network.specs.Arriving.{ArriveInEach}
use Rattle.cmd_run_network.specs.Files.{AreInputs, OpensOnly, WritesOnly}
use Rattle.cmd_run_network.specs.Leaving.{LeavesRun, Setting, WasBroken, ending_of, pace_of, setting_of}
use Rattle.cmd_run_network.specs.Network.{CanRunAll, IsNetworkOf, plan_of}
use Rattle.cmd_run_network.specs.Preparing.{BreaksHead, IsPrepared, Starts, TakesOver, WritesHead}
use Rattle.cmd_run_network.proofs.Begun.{have_inputs, links_are, reads_are, writes_are}
use Rattle.cmd_run_network.proofs.Kept.{opens_all, opens_before, writes_before, writes_opened, writes_then, writes_trace}
use Rattle.cmd_run_network.proofs.Named.{head_is}
use Rattle.cmd_run_network.proofs.Told.{at_head, broken_before, leaves_so}
use Rattle.cmd_run_network.proofs.Wired.{is_wirings, ready_alike}

pace_parts : (kind round : RoundKind) (burst most budget grow limit : ℕ) → kind ≡ round → burst ≡ most → grow ≡ limit
    → ◌≡◌ {A = Pace} (record { kind = kind; burst = burst; budget = budget; grow = grow }) (record { kind = round; burst = most; budget = budget; grow = limit })
pace_parts kind round burst most budget grow limit k b l = rw (k, b, l) refl

module _ {C X : Type 0} (cell : C → Cell X) (cells : List (Cell X)) (flat : Flat) (job : Job) (can_run : CanRunAll cells flat (plan_of job)) (kind : RoundKind) (kind_is : kind ≡ job.round) (run : Running C) (head : List ℕ) (places : Counts)
    (prepared : IsPrepared cells flat (map port_text job.ports.items) (plan_of job) kind (seen_run cell run) head places) (net : Network X) (inputs : List (List ℕ)) (is_of : IsNetworkOf net cells flat) where
  abbrev words : List PortText
  words = map port_text job.ports.items

  abbrev ins : List (List ℕ)
  ins = names_of flat.ins.items

  abbrev outs : List (List ℕ)
  outs = names_of flat.outs.items

  abbrev start : State X
  start = given_state net cells inputs

  abbrev setting : Setting X
  setting = setting_of net inputs start job

  can : CanRun cells prepared.wiring (plan_of job)
  can = can_run.can_run prepared.wiring prepared.is_wiring.is_of

  net_of : ready.IsNetworkOf net cells prepared.wiring
  net_of = is_wirings net cells flat prepared.wiring is_of prepared.is_wiring.is_of

  is_ready : IsReady net job.grow job.burst cells
  is_ready = ready_alike can.net net cells prepared.wiring job.grow job.burst can.is_of net_of can.ready

  head_of_net : head ≡ head_text net job.grow
  head_of_net =
      prepared.head_is
      ∙ head_is net (length cells) (length flat.links.items) job.grow (map string_bytes flat.paths.items) (map string_bytes flat.classes.items)
      (sym (length-map net.leaves (λ (leaf : Leaf X). leaf.behaviour)) ∙ ap length is_of.actors ∙ length-map cells (λ (c : Cell X). c.actor))
      (ap length is_of.links) is_of.paths is_of.classes

  at_start : (feeds_old feeds_mid : Inputs) → FeedsAreOpened (feeds_of flat.links.items ins words) feeds_old feeds_mid → AreInputs inputs flat.links.items ins words feeds_old → IsAtStart net inputs (seen_run cell run) feeds_mid start
  at_start feeds_old feeds_mid opened told =
      let links = links_are cell cells flat words (plan_of job) kind run head places prepared in
      let reads = reads_are cell cells flat words (plan_of job) kind run head places prepared in
      let have : HaveInputs inputs run.held.links run.reads feeds_mid =
      subst (λ ls. HaveInputs inputs ls run.reads feeds_mid) (sym links)
      (subst (λ rs. HaveInputs inputs flat.links.items rs feeds_mid) (sym reads) (have_inputs inputs flat.links.items ins words feeds_old feeds_mid opened told)) in
      prepared.begins.states net inputs feeds_mid net_of is_ready have

  pace_is : running.pace_of (seen_run cell run) job.budget ≡ pace_of job
  pace_is = pace_parts run.kind job.round run.burst job.burst job.budget run.grow job.grow (prepared.begins.kind_is ∙ kind_is) prepared.begins.burst prepared.begins.grow

  places_are : CountNothing (length net.links) (length net.outs) places
  places_are =
      subst (λ n. CountNothing (length net.links) n places) (sym (ap length is_of.outs ∙ length-map flat.outs.items ready.port_of))
      (subst (λ n. CountNothing n (length flat.outs.items) places) (sym (ap length is_of.links)) prepared.places)

  -- it was run

  pub leaves_run : {S T : Type 0} (feeds : S → Inputs) (channels : T → Channels) (trace : List ℕ) (feeds_old feeds_mid feeds_new : S) (old mid now : T) (new : Running C) (how : RunEnd) (counts : Counts)
      → ((n : ℕ) → n ≢ 0 → (channels old).is_open n ≡ false) → FeedsAreOpened (feeds_of flat.links.items ins words) (feeds feeds_old) (feeds feeds_mid) → WritesHead trace outs words head (channels old) (channels mid)
      → WritesWithin run (channels mid) (channels now) → EndLeaves cell feeds channels run new feeds_mid feeds_new mid now job.budget how → TakesOver new.counts places counts
      → RunsArePaced X → BegunWithinBudget X → PacedWithinBudget X
      → AreInputs inputs flat.links.items ins words (feeds feeds_old) → LeavesRun setting (ending_of how) counts (feeds feeds_new) (channels now)
  leaves_run feeds channels trace feeds_old feeds_mid feeds_new old mid now new how counts closed opened wrote within leaves taken runs_are_paced begun_law paced_law told =
      let begun : IsAtStart net inputs (seen_run cell run) (feeds feeds_mid) start = at_start (feeds feeds_old) (feeds feeds_mid) opened told in
      let runs : RunsFromStart net inputs job.budget start how (seen_run cell run) (seen_run cell new) (feeds feeds_new) (channels mid) (channels now) =
      runs_are_paced net inputs job.budget start how (seen_run cell run) (seen_run cell new) (feeds feeds_new) (channels mid) (channels now)
      (record {
        wired = begun.stands.is_run_of.wired;
        lawful = begun.stands.is_run_of.lawful;
        may_begin = begun.may_begin;
        counted = begun.counted;
        rounds = prepared.begins.rounds;
        idle = prepared.begins.idle;
      })
      (leaves prepared.begins.going net inputs start begun.stands) in
      leaves_so net cells inputs is_ready.wired job flat.outs.items is_of.outs (seen_run cell run) head (channels mid) (channels now)
      (at_head trace outs words head (channels old) closed (channels mid) wrote) head_of_net prepared.begins.no_lines prepared.begins.no_output
      (writes_are cell cells flat words (plan_of job) kind run head places prepared) within.same_telling within.same_open
      job.budget (seen_run cell new) pace_is counts places places_are taken begun_law paced_law how (feeds feeds_new) runs

  -- it couldn't be started

  pub broken_start : (trace : List ℕ) (feeds_old feeds_mid : Inputs) (old now : Channels) (channel : ℕ) → ((n : ℕ) → n ≢ 0 → old.is_open n ≡ false) → FeedsAreOpened (feeds_of flat.links.items ins words) feeds_old feeds_mid
      → ChannelFails (channels_of trace outs words) channel old now ⊎ BreaksHead trace outs words head old now channel → AreInputs inputs flat.links.items ins words feeds_old → WasBroken setting now
  broken_start trace feeds_old feeds_mid old now channel closed opened fails told =
      broken_before net cells inputs is_ready.wired job flat.outs.items is_of.outs old closed trace (at_start feeds_old feeds_mid opened told).may_begin head channel now head_of_net fails

  pub leaves_unstarted : {S T : Type 0} (feeds : S → Inputs) (channels : T → Channels) (trace : List ℕ) (feeds_old feeds_new : S) (old now : T) (fault : JobFault) → ((n : ℕ) → n ≢ 0 → (channels old).is_open n ≡ false)
      → Starts feeds channels flat words trace feeds_old feeds_new old now head (Err fault) → AreInputs inputs flat.links.items ins words (feeds feeds_old) → LeavesJob setting (Err fault) (feeds feeds_new) (channels now)
  leaves_unstarted feeds channels trace feeds_old feeds_new old now (Refused refusal) closed starts told = tt
  leaves_unstarted feeds channels trace feeds_old feeds_new old now Memory closed starts told = tt
  leaves_unstarted feeds channels trace feeds_old feeds_new old now (ReadFault feed) closed starts told = tt
  leaves_unstarted feeds channels trace feeds_old feeds_new old now (WriteFault channel) closed starts told =
      broken_start trace (feeds feeds_old) (feeds feeds_new) (channels old) (channels now) channel closed starts.0 starts.1 told

-- ---- what stays if a job isn't started

module _ {S T : Type 0} (feeds : S → Inputs) (channels : T → Channels) (flat : Flat) (words : List PortText) (trace : List ℕ) (head : List ℕ) (feeds_old feeds_new : S) (old now : T) where
  abbrev all_ins : List (List ℕ)
  all_ins = names_of flat.ins.items

  abbrev all_outs : List (List ℕ)
  all_outs = names_of flat.outs.items

  pub unstarted_feeds : (fault : JobFault) → Starts feeds channels flat words trace feeds_old feeds_new old now head (Err fault) → OpensOnly flat.links.items all_ins words (feeds feeds_old) (feeds feeds_new)
  unstarted_feeds (Refused refusal) starts = absurd starts
  unstarted_feeds Memory starts = absurd starts
  unstarted_feeds (ReadFault feed) starts = opens_before flat.links.items all_ins words feed (feeds feeds_old) (feeds feeds_new) starts.0
  unstarted_feeds (WriteFault channel) starts = opens_all flat.links.items all_ins words (feeds feeds_old) (feeds feeds_new) starts.0

  same_channels : old ≡ now → WritesOnly all_outs words (channels old) (channels now)
  same_channels same = subst (λ (t : T). WritesOnly all_outs words (channels old) (channels t)) same (record {
    same_telling = refl;
    same_open = λ channel not. refl;
    same_held = λ tells channel not. refl;
    faults_stay = omega arith;
  })

  head_channels : (channel : ℕ) → BreaksHead trace all_outs words head (channels old) (channels now) channel → WritesOnly all_outs words (channels old) (channels now)
  head_channels channel breaks = writes_then all_outs words (channels old) breaks.between (channels now)
      (writes_opened all_outs words trace (channels old) breaks.between breaks.are_opened) (writes_trace all_outs words breaks.between (channels now) breaks.only)

  pub unstarted_channels : (fault : JobFault) → Starts feeds channels flat words trace feeds_old feeds_new old now head (Err fault) → WritesOnly all_outs words (channels old) (channels now)
  unstarted_channels (Refused refusal) starts = absurd starts
  unstarted_channels Memory starts = absurd starts
  unstarted_channels (ReadFault feed) starts = same_channels (sym starts.1)
  unstarted_channels (WriteFault channel) starts = ⊎_elim (writes_before all_outs words trace channel (channels old) (channels now)) (head_channels channel) starts.1

  head_fails : (channel : ℕ) → BreaksHead trace all_outs words head (channels old) (channels now) channel → HeadFails (channels_of trace all_outs words) head channel (channels old) (channels now)
  head_fails channel breaks = record {
    channel_is = breaks.channel_is;
    between = breaks.between;
    are_opened = breaks.are_opened;
    front = breaks.front;
    only = breaks.only;
    counted = breaks.counted;
  }

  pub unstarted_unwritten : (fault : JobFault) → Starts feeds channels flat words trace feeds_old feeds_new old now head (Err fault)
      → OnUnwritten {A = Outcome} (Err fault) (IsUnwritten flat.links.items all_ins all_outs words trace head (feeds feeds_old) (feeds feeds_new) (channels old) (channels now))
  unstarted_unwritten (Refused refusal) starts = tt
  unstarted_unwritten Memory starts = tt
  unstarted_unwritten (ReadFault feed) starts = tt
  unstarted_unwritten (WriteFault channel) starts = record { feeds = starts.0; fails = ⊎_elim (λ fails. inl fails) (λ breaks. inr (head_fails channel breaks)) starts.1 }

-- ---- who works

module _ {C X : Type 0} (cell : C → Cell X) (cells : List (Cell X)) (flat : Flat) (job : Job) (kind : RoundKind) (kind_is : kind ≡ job.round) (run : Running C) (head : List ℕ) (places : Counts)
    (prepared : IsPrepared cells flat (map port_text job.ports.items) (plan_of job) kind (seen_run cell run) head places) where
  -- its workers arrived in each round
  pub arrives_run : (arrived : ℕ → ℕ → Type 0) (new : Running C) (counts : Counts) → RunArrives arrived run new job.budget → TakesOver new.counts places counts → ArriveInEach arrived job (length cells) counts
  arrives_run arrived new counts arrive taken =
      let cells_are : length run.held.cells ≡ length cells = sym (length-map run.held.cells cell) ∙ ap length prepared.begins.cells_are in
      let first : Stage = record { round = 1; idle = false; left = job.budget } in
      let first_is : stage_of run job.budget ≡ first = stage_is (suc run.counts.rounds) 1 run.idle false job.budget job.budget (ap suc prepared.begins.no_rounds) prepared.begins.idle refl in
      let left_is : run.counts.firings + job.budget - new.counts.firings ≡ job.budget - counts.firings = omega (arith, prepared.begins.no_firings, taken.firings) in
      let last_is : stage_of new (run.counts.firings + job.budget - new.counts.firings) ≡ record { round = suc counts.rounds; idle = new.idle; left = job.budget - counts.firings } =
      stage_is (suc new.counts.rounds) (suc counts.rounds) new.idle new.idle (run.counts.firings + job.budget - new.counts.firings) (job.budget - counts.firings) (ap suc (sym taken.rounds)) refl left_is in (
        new.idle,
        subst (λ at. Arrivals arrived job.round job.workers (length cells) first at) last_is
            (subst (λ at. Arrivals arrived job.round job.workers (length cells) at (stage_of new (run.counts.firings + job.budget - new.counts.firings))) first_is
            (subst (λ k. Arrivals arrived k job.workers (length cells) (stage_of run job.budget) (stage_of new (run.counts.firings + job.budget - new.counts.firings))) (prepared.begins.kind_is ∙ kind_is)
            (subst (λ n. Arrivals arrived run.kind n (length cells) (stage_of run job.budget) (stage_of new (run.counts.firings + job.budget - new.counts.firings))) prepared.begins.workers
            (subst (λ n. Arrivals arrived run.kind run.workers n (stage_of run job.budget) (stage_of new (run.counts.firings + job.budget - new.counts.firings))) cells_are arrive)))),
      )
