-- To what a command of the verb comes, by what the command comes to that is run for it.
use Rattle.std.proofs.Common.{◌≡◌, ◌⊎◌, inl, inr, ℕ, List, subst, arith}
use Rattle.rvc_io.specs.Channels.{Appends, Channels, WritesOnlyAt}
use Rattle.rvc_io.specs.Count.{HasRisen}
use Rattle.channel_writer.specs.Held.{AppendsFront}
use Rattle.cal_files.specs.Loading.{TellsAll}
use Rattle.cal_model.specs.Selection.{State}
use Rattle.net_model.specs.declared.wiring.Counts.{Counts}
use Rattle.net_model.specs.Network.{Network}
use Rattle.cmd_network.specs.Conforming.{output_names}
use Rattle.cmd_ports.specs.Matching.{AreMatched}
use Rattle.cmd_report.specs.About.{About}
use Rattle.cmd_report.specs.declared.status.ReadAt.TheVariants.{File, Feed}
use Rattle.cmd_report.specs.declared.status.Status.{Status}
use Rattle.cmd_report.specs.declared.status.Status.TheVariants as status
use Rattle.fnl_source.specs.Library.{IsLibraryNetwork, LibraryNetworksAreOne}
use Rattle.cmd_network.specs.Answers.{IsAnswered, is_reported, is_unreported}
use Rattle.cmd_network.specs.Commands.{Command, IsToRun, OpenedNothing, top_of, words_of}
use Rattle.cmd_ports.specs.Opening.{Opening}
use Rattle.cmd_run.specs.Asked as asked
use Rattle.cmd_run.specs.Ends as run
use Rattle.cmd_gen.specs.Asked.{AnyFeeds, ComesAsAsked}
use Rattle.cmd_gen.specs.Ends.{Comes, IsGenerated, Runs, by_run}

-- ---- one command for another

module _ (cmd gen : Command) (is : IsGenerated cmd gen) (untouched : cmd.feeds_after ≡ cmd.feeds) where
  pub no_rise : (old new : ℕ) → new ≡ 0 → HasRisen old new → ⊥
  no_rise old new none (inl less) = omega (arith, none, less)
  no_rise old new none (inr last) = omega (arith, none, last)

  nothing_too : OpenedNothing gen → OpenedNothing cmd
  nothing_too nothing = record {
    same_feeds = untouched;
    only_report = subst (λ new. WritesOnlyAt 0 cmd.channels new) is.channels_after (subst (λ old. WritesOnlyAt 0 old gen.channels_after) is.channels nothing.only_report);
  }

  appends_too : (text : List ℕ) → Appends 0 gen.channels gen.channels_after text → Appends 0 cmd.channels cmd.channels_after text
  appends_too text put = subst (λ new. Appends 0 cmd.channels new text) is.channels_after (subst (λ old. Appends 0 old gen.channels_after text) is.channels put)

  front_too : (text : List ℕ) → AppendsFront 0 gen.channels gen.channels_after text → AppendsFront 0 cmd.channels cmd.channels_after text
  front_too text put = subst (λ new. AppendsFront 0 cmd.channels new text) is.channels_after (subst (λ old. AppendsFront 0 old gen.channels_after text) is.channels put)

  rise_too : HasRisen gen.channels.faults gen.channels_after.faults → HasRisen cmd.channels.faults cmd.channels_after.faults
  rise_too rise = subst (λ (new : Channels). HasRisen cmd.channels.faults new.faults) is.channels_after (subst (λ (old : Channels). HasRisen old.faults gen.channels_after.faults) is.channels rise)

  -- ---- a run

  module _ (no_file : gen.faults.new ≡ 0) (no_feed : gen.feeds_after.faults ≡ 0) (tells : TellsAll gen.library) (one : LibraryNetworksAreOne)
      (ChannelsAre : List Opening → Type 0) (Arrived : ℕ → ℕ → Type 0) (net : Network State) (means : IsLibraryNetwork gen.library (top_of gen) net) (matched : AreMatched (output_names net) (words_of cmd)) where
    here : (other : Network State) → IsToRun gen other → AreMatched (output_names other) (words_of cmd)
    here other to_run = subst (λ n. AreMatched (output_names n) (words_of cmd)) (one gen.library (top_of gen) net other tells means to_run.conforms.means) matched

    abbrev run_here : (other : Network State) (said : Status) (lines : List ℕ) (about : About) → IsToRun gen other → run.ComesFor other gen said lines about → Runs cmd other said lines about
    run_here other said lines about to_run comes = record { gen = gen; is_generated = is; matched = here other to_run; comes = comes }

    unread : (feed : ℕ) (lines : List ℕ) (about : About) → run.Comes gen (status.ReadFault (Feed feed)) lines about → ⊥
    unread feed lines about c = elim c.1.how [
      | inl unopened ↦ no_rise gen.feeds.faults gen.feeds_after.faults no_feed unopened.fails.counted
      | inr broke ↦ no_rise gen.feeds.faults gen.feeds_after.faults no_feed broke.counted
    ]

    abbrev Ran : Command → Status → List ℕ → About → Type 0
    Ran = asked.ComesAsAsked AnyFeeds ChannelsAre Arrived

    abbrev Gives : Command → Status → List ℕ → About → Type 0
    Gives = ComesAsAsked ChannelsAre Arrived

    pub comes_too : (said : Status) (lines : List ℕ) (about : About) → Ran gen said lines about → Gives cmd said lines about
    comes_too status.Quiet lines about (c, did) = ((c.0, run_here c.0 status.Quiet lines about c.1.ran.is_to_run c.1), did)
    comes_too (status.Trapped inst action trap) lines about (c, did) = ((c.0, run_here c.0 (status.Trapped inst action trap) lines about c.1.ran.is_to_run c.1), did)
    comes_too (status.Stalled inst action link) lines about (c, did) = ((c.0, run_here c.0 (status.Stalled inst action link) lines about c.1.ran.is_to_run c.1), did)
    comes_too (status.Budget firings) lines about (c, did) = ((c.0, run_here c.0 (status.Budget firings) lines about c.1.ran.is_to_run c.1), did)
    comes_too (status.WriteFault channel) lines about (c, did) = ((c.0, run_here c.0 (status.WriteFault channel) lines about c.1.is_to_run c.1), did)
    comes_too (status.ReadFault (Feed feed)) lines about (c, did) = absurd (unread feed lines about c)
    comes_too (status.ReadFault (File file)) lines about (c, did) = absurd (no_rise gen.faults.old gen.faults.new no_file c.0.counted)
    comes_too (status.Refused r) lines about (c, did) = ((by_run gen about is c.0, nothing_too c.1), tt)
    comes_too status.OutOfMemory lines about (c, did) = (nothing_too c, tt)
    comes_too status.Done lines about (c, did) = absurd c
    comes_too (status.Usage cause) lines about (c, did) = absurd c
    comes_too (status.NotRun number why) lines about (c, did) = absurd c
    comes_too (status.Uncertified inst state first second reason) lines about (c, did) = absurd c

    pub answered_too : (answer : Status) → IsAnswered Ran gen answer → IsAnswered Gives cmd answer
    answered_too answer (is_reported {said = said} lines about c put) = is_reported lines about (comes_too said lines about c) (appends_too _ put)
    answered_too answer (is_unreported said lines about c put counted) = is_unreported said lines about (comes_too said lines about c) (front_too _ put) (rise_too counted)

-- ---- what it comes to alone

pub answered_plainly : (ChannelsAre : List Opening → Type 0) (Arrived : ℕ → ℕ → Type 0) (cmd : Command) (answer : Status)
    → IsAnswered (ComesAsAsked ChannelsAre Arrived) cmd answer → IsAnswered Comes cmd answer
answered_plainly ChannelsAre Arrived cmd answer (is_reported lines about c put) = is_reported lines about c.0 put
answered_plainly ChannelsAre Arrived cmd answer (is_unreported said lines about c put counted) = is_unreported said lines about c.0 put counted

-- ---- whatever its feeds are

module _ (FeedsAre ChannelsAre : List Opening → Type 0) (Arrived : ℕ → ℕ → Type 0) (cmd : Command) where
  ran_any : (net : Network State) (counts : Counts) → asked.RanAsAsked FeedsAre ChannelsAre Arrived cmd net counts → asked.RanAsAsked AnyFeeds ChannelsAre Arrived cmd net counts
  ran_any net counts did = record { feeds = tt; channels = did.channels; workers = did.workers }

  unread_any : (net : Network State) (feed : ℕ) (how : run.FeedUnopened cmd net feed ⊎ run.FeedBroke cmd net feed) → asked.UnreadAsAsked FeedsAre ChannelsAre Arrived cmd net feed how
      → asked.UnreadAsAsked AnyFeeds ChannelsAre Arrived cmd net feed how
  unread_any net feed (inl unopened) did = record { before = did.before; failed = did.failed; after = did.after; in_order = did.in_order; number_is = did.number_is; holds = tt }
  unread_any net feed (inr broke) did = ran_any net broke.counts did

  unwritten_any : (net : Network State) (channel : ℕ) (how : run.ChannelUnopened cmd net channel ⊎ run.AllAreOpen cmd net) → asked.UnwrittenAsAsked FeedsAre ChannelsAre Arrived cmd net channel how
      → asked.UnwrittenAsAsked AnyFeeds ChannelsAre Arrived cmd net channel how
  unwritten_any net channel (inl unopened) did = (tt, did.1)
  unwritten_any net channel (inr are_open) did = (tt, did.1)

  comes_any : (said : Status) (lines : List ℕ) (about : About) → asked.ComesAsAsked FeedsAre ChannelsAre Arrived cmd said lines about → asked.ComesAsAsked AnyFeeds ChannelsAre Arrived cmd said lines about
  comes_any status.Quiet lines about (c, did) = (c, ran_any c.0 c.1.counts did)
  comes_any (status.Trapped inst action trap) lines about (c, did) = (c, ran_any c.0 c.1.counts did)
  comes_any (status.Stalled inst action link) lines about (c, did) = (c, ran_any c.0 c.1.counts did)
  comes_any (status.Budget firings) lines about (c, did) = (c, ran_any c.0 c.1.counts did)
  comes_any (status.WriteFault channel) lines about (c, did) = (c, unwritten_any c.0 channel c.1.how did)
  comes_any (status.ReadFault (Feed feed)) lines about (c, did) = (c, unread_any c.0 feed c.1.how did)
  comes_any (status.ReadFault (File file)) lines about (c, did) = (c, tt)
  comes_any (status.Refused r) lines about (c, did) = (c, tt)
  comes_any status.OutOfMemory lines about (c, did) = (c, tt)
  comes_any status.Done lines about (c, did) = (c, tt)
  comes_any (status.Usage cause) lines about (c, did) = (c, tt)
  comes_any (status.NotRun number why) lines about (c, did) = (c, tt)
  comes_any (status.Uncertified inst state first second reason) lines about (c, did) = (c, tt)

  pub answered_any : (answer : Status) → IsAnswered (asked.ComesAsAsked FeedsAre ChannelsAre Arrived) cmd answer → IsAnswered (asked.ComesAsAsked AnyFeeds ChannelsAre Arrived) cmd answer
  answered_any answer (is_reported {said = said} lines about c put) = is_reported lines about (comes_any said lines about c) put
  answered_any answer (is_unreported said lines about c put counted) = is_unreported said lines about (comes_any said lines about c) put counted
