-- A runner that was just made, over feeds and channels that are open.
use Rattle.std.proofs.Common.{◌≡◌, ℕ, true, false, List, sym, subst, ◌∙◌}
use Rattle.std.specs.Prelude.{Some, slice_get, slice_index_or}
use Rattle.rvc_base.specs.declared.round_kind.RoundKind.{RoundKind}
use Rattle.rvc_io.specs.Channels.{Channels}
use Rattle.rvc_io.specs.Feeds.{Inputs}
use Rattle.net_model.specs.declared.wiring.Wiring.{Wiring}
use Rattle.net_model.specs.Network.{Network}
use Rattle.net_model.specs.Cell.{Cell}
use Rattle.net_model.specs.Ready.{IsNetworkOf, IsReady, given_state}
use Rattle.round_runner.specs.declared.outcome.Plan.{Plan}
use Rattle.round_runner.specs.declared.outcome.RunEnd.{RunEnd}
use Rattle.round_runner.specs.Running.{FeedsFit, Running, feed_of, has_feed}
use Rattle.network_runner.specs.Asking.{Begins, ChannelsFit, EndLeaves, HaveInputs, IsAtStart, seen_run}
use Rattle.network_runner.specs.FromStart.{RunsArePaced, RunsFromStart}
use Rattle.kit_runs.specs.declared.running.Ran.{Ran}
use Rattle.kit_runs.specs.Outside.{AreChannelsOpen, AreFeedsOpen}
use Rattle.kit_runs.specs.Runs.{RanFrom, first_or_0}

module _ {C X : Type 0} (cell : C → Cell X) (cells : List (Cell X)) (wiring : Wiring) (plan : Plan) (kind : RoundKind) (run : Running C) (begins : Begins cells wiring plan kind (seen_run cell run)) where
  pub feeds_fit : (feeds : Inputs) → AreFeedsOpen wiring feeds → FeedsFit run feeds
  feeds_fit feeds are_open = record {
    open_feeds = λ l link at fed. subst (λ links. feeds.is_open (feed_of links l) ≡ true) (sym begins.links_are)
        (are_open l link (subst (λ links. slice_get links l ≡ Some link) begins.links_are at) (subst (λ reads. has_feed reads link.from ≡ true) begins.reads fed));
    same_feeds = λ l reading at ended. let clash : true ≡ false = sym ended ∙ (begins.unread l reading at).1 in absurd (cc);
  }

  pub channels_fit : (channels : Channels) → AreChannelsOpen wiring channels → ChannelsFit run channels
  channels_fit channels are_open = record {
    trace = are_open.0;
    outputs = λ p named. are_open.1 p (subst (λ writes. slice_index_or writes p false ≡ true) begins.writes named);
  }

  pub none_fired : run.counts.firings ≡ 0
  none_fired = begins.no_firings

  -- a run of it leaves paced lines
  pub leaves_from : {S T : Type 0} (feeds : S → Inputs) (channels : T → Channels) (new : Running C) (feeds_old feeds_new : S) (drains_old drains_new : T) (budget : ℕ) (how : RunEnd)
      → RunsArePaced X → EndLeaves cell feeds channels run new feeds_old feeds_new drains_old drains_new budget how
      → (net : Network X) (inputs : List (List ℕ)) → IsNetworkOf net cells wiring → IsReady net plan.grow plan.burst cells → HaveInputs inputs wiring.links.items wiring.open_ins.items (feeds feeds_old)
      → RunsFromStart net inputs budget (given_state net cells inputs) how (seen_run cell run) (seen_run cell new) (feeds feeds_new) (channels drains_old) (channels drains_new)
  leaves_from feeds channels new feeds_old feeds_new drains_old drains_new budget how law leaves net inputs is_of ready told =
      let told_there : HaveInputs inputs run.held.links run.reads (feeds feeds_old) =
      subst (λ links. HaveInputs inputs links run.reads (feeds feeds_old)) (sym begins.links_are) (subst (λ reads. HaveInputs inputs wiring.links.items reads (feeds feeds_old)) (sym begins.reads) told) in
      let start : IsAtStart net inputs (seen_run cell run) (feeds feeds_old) (given_state net cells inputs) = begins.states net inputs (feeds feeds_old) is_of ready told_there in
      law net inputs budget (given_state net cells inputs) how (seen_run cell run) (seen_run cell new) (feeds feeds_new) (channels drains_old) (channels drains_new)
      (record {
        wired = start.stands.is_run_of.wired;
        lawful = start.stands.is_run_of.lawful;
        may_begin = start.may_begin;
        counted = start.counted;
        rounds = begins.rounds;
        idle = begins.idle;
      })
      (leaves begins.going net inputs (given_state net cells inputs) start.stands)

  -- .. and so does what is told of it
  pub ran_from : {S T : Type 0} (feeds : S → Inputs) (channels : T → Channels) (new : Running C) (feeds_old feeds_new : S) (drains_old drains_new : T) (budget : ℕ) (ran : Ran)
      → RunsArePaced X → EndLeaves cell feeds channels run new feeds_old feeds_new drains_old drains_new budget ran.end
      → ran.firings ≡ new.counts.firings → ran.rounds ≡ new.counts.rounds → ran.arrived ≡ first_or_0 new.counts.arrived.items → ran.sent ≡ first_or_0 new.counts.sent.items
      → RanFrom cells wiring plan kind budget (feeds feeds_old) (feeds feeds_new) (channels drains_old) (channels drains_new) ran
  ran_from feeds channels new feeds_old feeds_new drains_old drains_new budget ran law leaves firings rounds arrived sent = record {
    run = seen_run cell run;
    new = seen_run cell new;
    begins = begins;
    leaves = leaves_from feeds channels new feeds_old feeds_new drains_old drains_new budget ran.end law leaves;
    firings = firings;
    rounds = rounds;
    arrived = arrived;
    sent = sent;
  }
