-- To what a command comes, by what a run of its image comes to.
use Rattle.std.proofs.Common.{◌≡◌, ◌⊎◌, inl, inr, ℕ, ◌≤◌, List, ◌∷◌, ◌++◌, length, map, refl, sym, ap, subst, ◌∙◌, arith, Contains}
use Rattle.std.specs.Prelude.{string_bytes}
use Rattle.std.specs.Arc.{arc_value}
use Rattle.std.specs.declared.result.Result.{Result}
use Rattle.std.specs.declared.result.Result.TheVariants.{Ok, Err}
use Rattle.std.proofs.lemmas.List.{length-map}
use Rattle.std.proofs.lemmas.List.Elements.{Contains-append_right}
use Rattle.rvc_base.specs.declared.refusal.Refusal.{Refusal}
use Rattle.rvc_io.specs.Channels.{Channels, WritesOnlyAt}
use Rattle.rvc_io.specs.Count.{HasRisen}
use Rattle.rvc_io.specs.Feeds.{Inputs}
use Rattle.rvc_words.specs.Words.{PortText}
use Rattle.rvc_words.specs.declared.job.Job.{Job}
use Rattle.trace_text.specs.declared.line.Line.{Line}
use Rattle.trace_text.specs.declared.line.Line.TheVariants.{Budget as BudgetLine}
use Rattle.cal_model.specs.Actor.{Actor}
use Rattle.cal_model.specs.Selection.{State as ActorState}
use Rattle.net_model.specs.declared.wiring.Counts.{Counts}
use Rattle.net_model.specs.declared.wiring.Link.{Link}
use Rattle.net_model.specs.Network.{Network}
use Rattle.net_model.specs.Trace.{head_text}
use Rattle.cal_files.specs.Loading as loading
use Rattle.cal_files.specs.Views.{file_names}
use Rattle.cal_files.specs.declared.names.Names.{Names}
use Rattle.fnl_source.specs.Files.{class_asked, files_of}
use Rattle.cmd_ports.specs.Matching.{AreMatched, IsWrongWord}
use Rattle.cmd_ports.specs.Opening.{ChannelFails, HoldsBefore, Opening, channels_of, feeds_of}
use Rattle.cmd_network.specs.Conforming.{names_of_ports}
use Rattle.round_runner.specs.declared.outcome.RunEnd.{RunEnd}
use Rattle.round_runner.specs.declared.outcome.RunEnd.TheVariants as end
use Rattle.net_cells.specs.SourceRuns.{SourcesAreActorNetworks}
use Rattle.net_cells.specs.Sources.{IsActorNetwork}
use Rattle.rvc_engine.specs.Built.{HasImage, IsBuilt}
use Rattle.network_check.specs.Top.{top_asked}
use Rattle.rvc_engine.specs.declared.image.Image.{Image}
use Rattle.cmd_run_network.specs.Growth.{GrowTooFar}
use Rattle.cmd_run_network.specs.Answering.{AreAllOpen, EndIsCaused, HeadFails, IsPermitted, IsUnread, IsUnwritten, LeavesJob}
use Rattle.cmd_run_network.specs.Answering as answering
use Rattle.cmd_run_network.specs.Arriving.{ArriveInEach}
use Rattle.cmd_run_network.specs.Files.{IsChannelOf, IsFeedOf, OpensOnly, WritesOnly}
use Rattle.cmd_run_network.specs.Leaving.{Came, LeavesRun, ending_of}
use Rattle.cmd_run_network.specs.Names.{OpensByName}
use Rattle.cmd_run_network.specs.Network as asks
use Rattle.cmd_run_network.specs.declared.outcome.JobFault.{JobFault}
use Rattle.cmd_run_network.specs.declared.outcome.JobFault.TheVariants as fault
use Rattle.cmd_run_network.specs.declared.outcome.Outcome.{Outcome}
use Rattle.cmd_run_network.proofs.Named.{head_is}
use Rattle.cmd_run_network.proofs.Numbered.{is_channel}
use Rattle.cmd_report.specs.About.{About}
use Rattle.cmd_network.specs.Commands.{AreCertified, AreGiven, Command, HasFiles, IsToRun, OpenedNothing, TouchesOnly, about_net, count_none, port_names, run_over}
use Rattle.cmd_run.specs.Asked.{ComesAsAsked, RanAsAsked, channels_asked, feeds_asked}
use Rattle.cmd_run.specs.Ends.{AllAreOpen, ChannelUnopened, Comes, IsRefused, Ran, WouldGrowTooFar, by_growth, by_words}
use Rattle.cmd_run.specs.Steps.{CellsAsked, CellsRan, about_image, lines_at, status_at, status_of}
use Rattle.cmd_run.proofs.Cells.{many_leaves}
use Rattle.cmd_run.proofs.Leaving.{same_names}
use Rattle.cmd_run.proofs.Reported.{broken, cut, ended, risen_from, risen_to}

-- ---- channels that fail

is_one_of : (trace : List ℕ) (outs : List (List ℕ)) (words : List PortText) (head : List ℕ) (channel : ℕ) (old new : Channels)
    → ChannelFails (channels_of trace outs words) channel old new ⊎ HeadFails (channels_of trace outs words) head channel old new → IsChannelOf outs words channel
is_one_of trace outs words head channel old new (inl fails) =
    subst (IsChannelOf outs words) fails.number_is
    (is_channel trace outs words fails.failed (subst (λ os. Contains os fails.failed) (sym fails.in_order) (Contains-append_right fails.before (fails.failed ∷ fails.after) fails.failed (0, omega arith, refl))))
is_one_of trace outs words head channel old new (inr broke) = inl broke.channel_is

is_counted : (trace : List ℕ) (outs : List (List ℕ)) (words : List PortText) (head : List ℕ) (channel : ℕ) (old new : Channels)
    → ChannelFails (channels_of trace outs words) channel old new ⊎ HeadFails (channels_of trace outs words) head channel old new → HasRisen old.faults new.faults
is_counted trace outs words head channel old new (inl fails) = fails.counted
is_counted trace outs words head channel old new (inr broke) = risen_from old.faults broke.between.faults new.faults broke.are_opened.faults_stay broke.counted

-- ---- an image and its command

-- a network has the ports of its image
pub ports_are : (image : Image) (actors : List Actor) (net : Network ActorState) → HasImage image actors net → names_of_ports net ≡ asks.in_names image.flat ++ asks.out_names image.flat
ports_are image actors net has =
    ap (λ ns. ns ++ port_names net.outs) (same_names image.flat.ins.items net.ins (has.is_net).wiring.ins)
    ∙ ap (λ ns. asks.in_names image.flat ++ ns) (same_names image.flat.outs.items net.outs (has.is_net).wiring.outs)

module _ (job : Job) (library : loading.Library) (misses faults : loading.Counts) (feeds feeds_new : Inputs) (old between new : Channels)
    (image : Image) (names : Names) (law : SourcesAreActorNetworks) (built : IsBuilt library (top_asked (string_bytes job.top)) (file_names names) image)
    (only : WritesOnlyAt 0 between new) where
  abbrev cmd : Command
  cmd = record {
    job = job;
    library = library;
    misses = misses;
    faults = faults;
    feeds = feeds;
    feeds_after = feeds_new;
    channels = old;
    channels_after = new;
  }

  abbrev net : Network ActorState
  net = built.is_image.net

  abbrev actors : List Actor
  actors = built.is_image.means.actors

  has : HasImage image built.is_image.means.actors built.is_image.net
  has = built.is_image.has

  is : IsActorNetwork built.is_image.means.actors built.is_image.net
  is = law (files_of built.reads) (class_asked (top_asked (string_bytes job.top))) built.is_image.net built.is_image.means.tree built.is_image.means.actors
      built.is_image.means built.is_image.means.is_tree built.is_image.means.are_actors built.is_image.has.sound

  files : HasFiles cmd net
  files = record { names = file_names names; reads = built.reads; are_read = built.are_read; means = built.is_image.means }

  ins_are : port_names net.ins ≡ asks.in_names image.flat
  ins_are = same_names image.flat.ins.items net.ins (has.is_net).wiring.ins

  outs_are : port_names net.outs ≡ asks.out_names image.flat
  outs_are = same_names image.flat.outs.items net.outs (has.is_net).wiring.outs

  links_are : net.links ≡ image.flat.links.items
  links_are = (has.is_net).wiring.links

  fitting : AreMatched (asks.in_names image.flat ++ asks.out_names image.flat) (asks.words_of job) → AreMatched (names_of_ports net) (asks.words_of job)
  fitting matched = subst (λ ps. AreMatched ps (asks.words_of job)) (sym (ports_are image actors net has)) matched

  to_run : AreMatched (asks.in_names image.flat ++ asks.out_names image.flat) (asks.words_of job) → IsToRun cmd net
  to_run matched = record {
    files = files;
    matched = fitting matched;
    conforms = record {
      means = record { reads = built.reads; are_loaded = built.are_read.are_loaded; means = built.is_image.means };
      matched = fitting matched;
    };
  }

  within_growth : (GrowTooFar image.flat.links.items job.grow → ⊥) → WouldGrowTooFar cmd net → ⊥
  within_growth fits far = fits (subst (λ links. GrowTooFar links job.grow) links_are far)

  about_is : about_image image names job ≡ about_net cmd (file_names names) net
  about_is =
      ap (λ n. about_by n image.flat.links.items (asks.in_names image.flat) (asks.out_names image.flat)) (sym (length-map image.codes.items arc_value) ∙ many_leaves image actors net has is)
      ∙ (ap (λ ls. about_by (length net.leaves) ls (asks.in_names image.flat) (asks.out_names image.flat)) (sym links_are)
      ∙ (ap (λ ps. about_by (length net.leaves) net.links ps (asks.out_names image.flat)) (sym ins_are)
      ∙ ap (λ ps. about_by (length net.leaves) net.links (port_names net.ins) ps) (sym outs_are)))
    where
      about_by : ℕ → List Link → List (List ℕ) → List (List ℕ) → About
      about_by n links ins outs = record { files = file_names names; trace = string_bytes job.trace; words = asks.words_of job; instances = n; links = links; ins = ins; outs = outs }

  certified : AreCertified built.is_image.means.actors (count_none image.uncertified.items)
  certified = record { said = image.uncertified.items; judged = has.judged; counted = refl }

  abbrev Leaves : Result Outcome JobFault → Type 0
  Leaves came = (inputs : List (List ℕ)) → AreGiven cmd net inputs → LeavesJob (run_over cmd net inputs) came feeds_new between

  leaves_of : (came : Result Outcome JobFault) → CellsRan image job feeds feeds_new old between came → Leaves came
  leaves_of came ran inputs given = ran.leaves actors net inputs has is given

  touched : OpensOnly image.flat.links.items (asks.in_names image.flat) (asks.words_of job) feeds feeds_new → WritesOnly (asks.out_names image.flat) (asks.words_of job) old between → TouchesOnly cmd net
  touched opens writes =
      let here : WritesOnly (port_names net.outs) (asks.words_of job) old between = subst (λ ps. WritesOnly ps (asks.words_of job) old between) (sym outs_are) writes in
      record {
        feeds = subst (λ ls. OpensOnly ls (port_names net.ins) (asks.words_of job) feeds feeds_new) (sym links_are)
            (subst (λ ps. OpensOnly image.flat.links.items ps (asks.words_of job) feeds feeds_new) (sym ins_are) opens);
        same_telling = only.same_telling ∙ here.same_telling;
        same_open = λ channel other not_of. only.same_open channel ∙ here.same_open channel not_of;
        same_held = λ tells channel other not_of. only.same_held (here.same_telling ∙ tells) channel other ∙ here.same_held tells channel not_of;
      }

  -- what was opened
  abbrev Opened : Type 0
  Opened = AreAllOpen image.flat.links.items (asks.in_names image.flat) (asks.out_names image.flat) (asks.words_of job) (string_bytes job.trace) feeds_new between

  all_open : Opened → AllAreOpen cmd net
  all_open are =
      let here : AreAllOpen net.links (port_names net.ins) (port_names net.outs) (asks.words_of job) (string_bytes job.trace) feeds_new between =
      subst (λ ls. AreAllOpen ls (port_names net.ins) (port_names net.outs) (asks.words_of job) (string_bytes job.trace) feeds_new between) (sym links_are)
      (subst (λ ps. AreAllOpen image.flat.links.items ps (port_names net.outs) (asks.words_of job) (string_bytes job.trace) feeds_new between) (sym ins_are)
      (subst (λ ps. AreAllOpen image.flat.links.items (asks.in_names image.flat) ps (asks.words_of job) (string_bytes job.trace) feeds_new between) (sym outs_are) are)) in
      record { feeds_are = here.feeds_are; channels_are = λ o h. only.same_open o.number ∙ here.channels_are o h }

  -- what stands before the first event of its trace
  abbrev head : List ℕ
  head = asks.head_of image.flat (length image.codes.items) job.grow

  head_same : head ≡ head_text net job.grow
  head_same = head_is net (length image.codes.items) (length image.flat.links.items) job.grow (map string_bytes image.flat.paths.items) (map string_bytes image.flat.classes.items)
      (sym (sym (length-map image.codes.items arc_value) ∙ many_leaves image actors net has is)) (ap length links_are) (has.is_net).paths_are (has.is_net).classes_are

  unopened : (channel : ℕ)
      → IsUnwritten image.flat.links.items (asks.in_names image.flat) (asks.out_names image.flat) (asks.words_of job) (string_bytes job.trace) head feeds feeds_new old between channel
      → ChannelUnopened cmd net channel
  unopened channel is = record {
    between = between;
    unwritten = subst (λ ls. IsUnwritten ls (port_names net.ins) (port_names net.outs) (asks.words_of job) (string_bytes job.trace) (head_text net job.grow) feeds feeds_new old between channel) (sym links_are)
        (subst (λ ps. IsUnwritten image.flat.links.items ps (port_names net.outs) (asks.words_of job) (string_bytes job.trace) (head_text net job.grow) feeds feeds_new old between channel) (sym ins_are)
        (subst (λ ps. IsUnwritten image.flat.links.items (asks.in_names image.flat) ps (asks.words_of job) (string_bytes job.trace) (head_text net job.grow) feeds feeds_new old between channel) (sym outs_are)
        (subst (λ h. IsUnwritten image.flat.links.items (asks.in_names image.flat) (asks.out_names image.flat) (asks.words_of job) (string_bytes job.trace) h feeds feeds_new old between channel) head_same is)));
    only_report = only;
  }

  -- a run that came to its end
  some_ran : (line : Line) (counts : Counts) → IsPermitted image.flat job → counts.firings ≤ job.budget → TouchesOnly cmd net → Opened
      → ((inputs : List (List ℕ)) → AreGiven cmd net inputs → LeavesRun (run_over cmd net inputs) (Came line) counts feeds_new between)
      → Ran cmd net line counts (lines_at image names job (Ok (record { end = end.Quiet; counts = counts }))) (about_image image names job)
  unfolding to_run files
  some_ran line counts permitted within touches are_open leaves = record {
    is_to_run = to_run permitted.matched;
    fits = within_growth permitted.fits;
    leaves = λ inputs given. ended (run_over cmd net inputs) between new only line counts (leaves inputs given);
    within = within;
    touches = touches;
    opened = all_open are_open;
    sound = has.sound;
    certified = count_none image.uncertified.items;
    are_certified = certified;
    about_is = about_is;
    lines_are = refl;
  }

  -- nothing was opened
  nothing : (feeds_new ≡ feeds) × (between ≡ old) → OpenedNothing cmd
  nothing same = record { same_feeds = same.0; only_report = subst (λ cs. WritesOnlyAt 0 cs new) same.1 only }

  refused : (r : Refusal) → answering.IsRefused image.flat job r → IsRefused cmd r (about_image image names job)
  unfolding to_run files
  refused r (answering.by_word wrong) = subst (IsRefused cmd r) (sym about_is) (by_words (file_names names) net (record {
    files = files;
    names_are = refl;
    wrong = subst (λ ps. IsWrongWord ps (asks.words_of job) r) (sym (ports_are image actors net has)) wrong;
  }))
  refused r (answering.by_growth matched too_far is) = subst (IsRefused cmd r) (sym about_is) (by_growth (file_names names) net (record {
    files = files;
    names_are = refl;
    matched = fitting matched;
    too_far = subst (λ links. GrowTooFar links job.grow) (sym links_are) too_far;
    refusal = is;
  }))

  -- what was opened, and who worked, by what these tell
  module _ (FeedsAre ChannelsAre : List Opening → Type 0) (Arrived : ℕ → ℕ → Type 0) where
    feeds_so : (Q : List Opening → Type 0) → Q (feeds_of image.flat.links.items (asks.in_names image.flat) (asks.words_of job)) → Q (feeds_asked cmd net)
    feeds_so Q h = subst (λ ls. Q (feeds_of ls (port_names net.ins) (asks.words_of job))) (sym links_are)
        (subst (λ ps. Q (feeds_of image.flat.links.items ps (asks.words_of job))) (sym ins_are) h)

    channels_so : (Q : List Opening → Type 0) → Q (channels_of (string_bytes job.trace) (asks.out_names image.flat) (asks.words_of job)) → Q (channels_asked cmd net)
    channels_so Q h = subst (λ ps. Q (channels_of (string_bytes job.trace) ps (asks.words_of job))) (sym outs_are) h

    ran_asked : (counts : Counts) → FeedsAre (feeds_of image.flat.links.items (asks.in_names image.flat) (asks.words_of job))
        → ChannelsAre (channels_of (string_bytes job.trace) (asks.out_names image.flat) (asks.words_of job))
        → ArriveInEach Arrived job (length image.codes.items) counts → RanAsAsked FeedsAre ChannelsAre Arrived cmd net counts
    ran_asked counts feeds_are channels_are arrive = record {
      feeds = feeds_so FeedsAre feeds_are;
      channels = channels_so ChannelsAre channels_are;
      workers = subst (λ n. ArriveInEach Arrived job n counts) (sym (length-map image.codes.items arc_value) ∙ many_leaves image actors net has is) arrive;
    }

    how_ended : (how : RunEnd) (counts : Counts) → IsPermitted image.flat job → counts.firings ≤ job.budget → TouchesOnly cmd net → Opened
        → EndIsCaused image.flat.links.items (asks.in_names image.flat) (asks.out_names image.flat) (asks.words_of job) feeds feeds_new old between how
        → ((inputs : List (List ℕ)) → AreGiven cmd net inputs → LeavesRun (run_over cmd net inputs) (ending_of how) counts feeds_new between)
        → RanAsAsked FeedsAre ChannelsAre Arrived cmd net counts → ComesAsAsked FeedsAre ChannelsAre Arrived cmd (status_at how counts.firings) (lines_at image names job (Ok (record { end = end.Quiet; counts = counts }))) (about_image image names job)
    unfolding to_run files
    how_ended end.Quiet counts permitted within touches are_open caused leaves asked = ((net, record { counts = counts; ran = some_ran _ counts permitted within touches are_open leaves }), asked)
    how_ended (end.Trapped inst action trap) counts permitted within touches are_open caused leaves asked = ((net, record { counts = counts; ran = some_ran _ counts permitted within touches are_open leaves }), asked)
    how_ended (end.Stalled inst action link) counts permitted within touches are_open caused leaves asked = ((net, record { counts = counts; ran = some_ran _ counts permitted within touches are_open leaves }), asked)
    how_ended end.Budget counts permitted within touches are_open caused leaves asked = ((net, record { counts = counts; ran = some_ran BudgetLine counts permitted within touches are_open leaves; firings_are = refl }), asked)
    how_ended (end.ReadFault feed) counts permitted within touches are_open caused leaves asked = (
      (
        net,
        record {
          is_to_run = to_run permitted.matched;
          fits = within_growth permitted.fits;
          how = inr (record {
            counted = caused.0;
            is_feed = subst (λ ls. IsFeedOf ls (port_names net.ins) (asks.words_of job) feed) (sym links_are)
                (subst (λ ps. IsFeedOf image.flat.links.items ps (asks.words_of job) feed) (sym ins_are) caused.1);
            counts = counts;
            leaves = λ inputs given. cut (run_over cmd net inputs) between new only counts feed feeds_new (leaves inputs given);
            within = within;
            touches = touches;
            opened = all_open are_open;
          });
          about_is = about_is;
        },
      ),
      asked,
    )
    how_ended (end.WriteFault channel) counts permitted within touches are_open caused leaves asked = (
      (
        net,
        record {
          is_to_run = to_run permitted.matched;
          fits = within_growth permitted.fits;
          counted = risen_to old.faults between.faults new.faults caused.0 only.faults_stay;
          is_channel = subst (λ ps. IsChannelOf ps (asks.words_of job) channel) (sym outs_are) caused.1;
          how = inr (all_open are_open);
          leaves = λ inputs given. broken (run_over cmd net inputs) between new only (leaves inputs given);
          touches = touches;
        },
      ),
      (asked.feeds, asked.channels),
    )

    pub comes : (came : Result Outcome JobFault) → CellsRan image job feeds feeds_new old between came → CellsAsked image job FeedsAre ChannelsAre Arrived came
        → ComesAsAsked FeedsAre ChannelsAre Arrived cmd (status_of came) (lines_at image names job came) (about_image image names job)
    unfolding to_run files
    comes (Ok outcome) ran asked = how_ended outcome.end outcome.counts ran.permitted ran.within (touched ran.only_feeds ran.others) ran.opened ran.faults (leaves_of (Ok outcome) ran) (ran_asked outcome.counts asked.by_name.0 asked.by_name.1 asked.arrive)
    comes (Err (fault.Refused r)) ran asked = ((refused r ran.refused, nothing ran.unstarted), tt)
    comes (Err fault.Memory) ran asked = (nothing ran.unstarted, tt)
    comes (Err (fault.ReadFault feed)) ran asked = (
      (
        net,
        record {
          is_to_run = to_run ran.permitted.matched;
          fits = within_growth ran.permitted.fits;
          how = inl (record {
            fails = subst (λ ls. IsUnread ls (port_names net.ins) (asks.words_of job) feeds feeds_new feed) (sym links_are)
                (subst (λ ps. IsUnread image.flat.links.items ps (asks.words_of job) feeds feeds_new feed) (sym ins_are) ran.unread.0);
            only_report = subst (λ cs. WritesOnlyAt 0 cs new) ran.unread.1 only;
          });
          about_is = about_is;
        },
      ),
      feeds_so (λ all. HoldsBefore all feed FeedsAre) asked.by_name,
    )
    comes (Err (fault.WriteFault channel)) ran asked = (
      (
        net,
        record {
          is_to_run = to_run ran.permitted.matched;
          fits = within_growth ran.permitted.fits;
          counted = risen_to old.faults between.faults new.faults
              (is_counted (string_bytes job.trace) (asks.out_names image.flat) (asks.words_of job) head channel old between ran.unwritten.fails) only.faults_stay;
          is_channel = subst (λ ps. IsChannelOf ps (asks.words_of job) channel) (sym outs_are)
              (is_one_of (string_bytes job.trace) (asks.out_names image.flat) (asks.words_of job) head channel old between ran.unwritten.fails);
          how = inl (unopened channel ran.unwritten);
          leaves = λ inputs given. broken (run_over cmd net inputs) between new only (leaves_of (Err (fault.WriteFault channel)) ran inputs given);
          touches = touched ran.only_feeds ran.others;
        },
      ),
      (feeds_so FeedsAre asked.by_name.0, channels_so (λ all. HoldsBefore all channel ChannelsAre ⊎ ChannelsAre all) asked.by_name.1),
    )
