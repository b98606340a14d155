-- A replay over cells that are joined as a flat network says: what is asked of it, and what it judges.
use Rattle.std.proofs.Common.{◌≡◌, ◌⊎◌, inr, ℕ, ◌≤◌, true, List, length, map, refl, sym, ap, subst, ◌∙◌, arith}
use Rattle.std.specs.Prelude.{Some, slice_get, string_bytes}
use Rattle.std.specs.declared.result.Result.TheVariants.{Ok, Err}
use Rattle.std.proofs.lemmas.List.{length-map}
use Rattle.rvc_io.specs.Count.{HasRisen}
use Rattle.rvc_io.specs.Feeds.{Inputs}
use Rattle.rvc_words.specs.declared.job.Job.{Job}
use Rattle.fnl_flatten.specs.declared.flat.Flat.{Flat}
use Rattle.net_model.specs.declared.wiring.Wiring.{Wiring}
use Rattle.net_model.specs.Cell.{Cell}
use Rattle.net_model.specs.Network.{Network}
use Rattle.net_model.specs.Ready.{IsReady}
use Rattle.network_runner.specs.Asking.{CanRun}
use Rattle.cmd_ports.specs.Opening.{FeedsAreOpened, has_files, replay_feeds}
use Rattle.cmd_run_network.specs.Files.{AreInputs}
use Rattle.cmd_run_network.specs.Network.{CanRunAll, IsNetworkOf, in_names, plan_of, words_of}
use Rattle.cmd_run_network.proofs.Wired.{is_wirings}
use Rattle.cmd_run.proofs.Reported.{risen_from}
use Rattle.trace_replay.specs.declared.bytes.TheConstants.{TRACE_FEED}
use Rattle.trace_replay.specs.Feeding.{IsFeedOf, OnlyPulls, feed_of, has_feed}
use Rattle.trace_replay.specs.Reading.{NamesFeed, OnReadFault}
use Rattle.trace_replay.specs.Replaying.{CanReplay, IsEndTold, IsReplayOf}
use Rattle.trace_replay.specs.declared.replayed.Replayed.{Replayed}
use Rattle.trace_replay.specs.declared.why.ReplayFault.{ReplayFault}
use Rattle.trace_replay.specs.declared.why.ReplayFault.TheVariants as judged
use Rattle.cmd_replay.specs.Steps.{IsPermitted, IsPrepared, LeavesFeeds, Opens, trial_of}
use Rattle.cmd_replay.specs.declared.outcome.NotReplayed.TheVariants as stop
use Rattle.cmd_replay.proofs.Named.{many_names, named_so}
use Rattle.cmd_replay.proofs.Opened.{input_open, inputs_told, is_read, opens_all, opens_then, trace_left, trace_open}

-- cells that are ready for bursts of some length are ready for none
unburst : {X : Type 0} (net : Network X) (grow burst : ℕ) (cells : List (Cell X)) → IsReady net grow burst cells → IsReady net grow 0 cells
unburst net grow burst cells is = record {
  wired = is.wired;
  few_grown = is.few_grown;
  fresh = λ i cell at. (let one = is.fresh i cell at in record { untrapped = one.untrapped; nothing_out = one.nothing_out; journal = omega arith });
  queues = is.queues;
  read = is.read;
}

module _ {X : Type 0} (cells : List (Cell X)) (flat : Flat) (job : Job) (can_run : CanRunAll cells flat (plan_of job)) (wiring : Wiring) (names : List (List ℕ)) (prepared : IsPrepared flat job wiring names) where
  can : CanRun cells wiring (plan_of job)
  can = can_run.can_run wiring prepared.wiring_is.is_of

  pub few_links : length flat.links.items ≤ 4096
  few_links = subst (λ n. n ≤ 4096) (ap length (can.is_of.links ∙ prepared.wiring_is.is_of.links)) can.ready.wired.few_links

  named : length names ≡ length cells
  named =
      ap length prepared.names_are
      ∙ (many_names (map string_bytes flat.paths.items) (map string_bytes flat.classes.items)
      (length-map flat.paths.items string_bytes ∙ (can_run.paths ∙ (sym can_run.classes ∙ sym (length-map flat.classes.items string_bytes))))
      ∙ (length-map flat.paths.items string_bytes ∙ can_run.paths))

  module _ (old new : Inputs) (opened : FeedsAreOpened (replay_feeds (string_bytes job.trace) flat.links.items (in_names flat) (words_of job)) old new) where
    pub can_replay : CanReplay cells wiring job.grow names new
    can_replay = record {
      ready = (can.net, record { is_of = can.is_of; ready = unburst can.net job.grow job.burst cells can.ready });
      sizes = can.sizes;
      input_sizes = can.in_sizes;
      unlinked = can.unlinked;
      named = named;
      trace_open = trace_open (string_bytes job.trace) flat.links.items (in_names flat) (words_of job) old new opened;
      inputs_open = λ l link at fed. subst (λ links. new.is_open (feed_of links l) ≡ true) (sym prepared.wiring_is.is_of.links)
          (input_open (string_bytes job.trace) flat.links.items (in_names flat) (words_of job) old new opened l link
          (subst (λ links. slice_get links l ≡ Some link) prepared.wiring_is.is_of.links at)
          (subst (λ marks. has_feed marks link.from ≡ true) prepared.wiring_is.reads fed));
    }

    pub is_replay_of : (net : Network X) (inputs : List (List ℕ)) (text : List ℕ) → IsNetworkOf net cells flat → AreInputs inputs flat.links.items (in_names flat) (words_of job) old
        → old.under (string_bytes job.trace) ≡ Some text → IsReplayOf (trial_of net cells inputs job.grow) text inputs cells wiring job.grow names new
    is_replay_of net inputs text is_of given told = record {
      is_of = is_wirings net cells flat wiring is_of prepared.wiring_is.is_of;
      grow_is = refl;
      start = refl;
      names_are = named_so net.leaves (map string_bytes flat.paths.items) (map string_bytes flat.classes.items) is_of.paths is_of.classes ∙ sym prepared.names_are;
      trace = trace_left (string_bytes job.trace) flat.links.items (in_names flat) (words_of job) old new opened ∙ told;
      told = λ l link at.
          subst (λ marks. IsEndTold marks inputs (feed_of wiring.links.items l) new link.from) (sym prepared.wiring_is.reads)
          (subst (λ links. IsEndTold (has_files (in_names flat) (words_of job)) inputs (feed_of links l) new link.from) (sym prepared.wiring_is.is_of.links)
          (inputs_told (string_bytes job.trace) flat.links.items (in_names flat) (words_of job) old new opened inputs given l link
          (subst (λ links. slice_get links l ≡ Some link) prepared.wiring_is.is_of.links at)));
    }

    opens : (now : Inputs) → OnlyPulls new now → Opens flat job old now
    opens now pulls =
        opens_then (string_bytes job.trace) flat.links.items (in_names flat) (words_of job) old new now
        (opens_all (string_bytes job.trace) flat.links.items (in_names flat) (words_of job) old new opened) pulls

    pub run_leaves : (now : Inputs) (replayed : Replayed) → IsPermitted flat job → OnlyPulls new now → LeavesFeeds flat job old now (Ok replayed)
    run_leaves now replayed permitted pulls = (permitted, opens now pulls)

    pub fault_leaves : (now : Inputs) (fault : ReplayFault) → IsPermitted flat job → OnlyPulls new now → OnReadFault {T = Replayed} (Err fault) (HasRisen new.faults now.faults) → NamesFeed wiring.links.items wiring.open_ins.items fault
        → LeavesFeeds flat job old now (Err (stop.Fault fault))
    fault_leaves now (judged.NotRun line why) permitted pulls failed feed = (permitted, opens now pulls)
    fault_leaves now (judged.ReadFault feed) permitted pulls failed named = (
      permitted,
      inr (
        risen_from old.faults new.faults now.faults opened.faults_stay failed,
        is_read flat.links.items (in_names flat) (words_of job) feed
            (subst (λ links. (feed ≡ TRACE_FEED) ⊎ IsFeedOf links (has_files (in_names flat) (words_of job)) feed) prepared.wiring_is.is_of.links
            (subst (λ marks. (feed ≡ TRACE_FEED) ⊎ IsFeedOf wiring.links.items marks feed) prepared.wiring_is.reads named)),
        opens now pulls,
      ),
    )
    fault_leaves now judged.Memory permitted pulls failed feed = tt
