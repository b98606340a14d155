-- To what a command comes, by what the replay over its image comes to.
use Rattle.std.proofs.Common.{◌≡◌, ◌⊎◌, inl, inr, ⊎_elim, ℕ, List, [], length, refl, sym, ap, subst, ◌∙◌}
use Rattle.std.specs.Prelude.{string_bytes}
use Rattle.std.specs.Arc.{arc_value}
use Rattle.std.specs.declared.result.Result.{Result}
use Rattle.std.specs.declared.result.Result.TheVariants.{Ok, Err}
use Rattle.std.proofs.lemmas.List.{length-map}
use Rattle.rvc_base.specs.declared.refusal.Refusal.{Refusal}
use Rattle.rvc_io.specs.Channels.{WritesOnlyAt}
use Rattle.cal_model.specs.Actor.{Actor}
use Rattle.cal_model.specs.Selection.{State as ActorState}
use Rattle.net_model.specs.declared.wiring.Link.{Link}
use Rattle.net_model.specs.Network.{Network}
use Rattle.cal_files.specs.Loading.{Counts, TellsAll}
use Rattle.cal_files.specs.Views.{file_names}
use Rattle.cal_files.specs.declared.names.Names.{Names}
use Rattle.fnl_source.specs.Files.{class_asked, files_of}
use Rattle.fnl_source.specs.Library.{IsLibraryNetwork, LibraryNetworksAreOne}
use Rattle.cmd_ports.specs.Matching.{AreMatched, IsWrongWord}
use Rattle.cmd_ports.specs.Opening.{FeedFails, HoldsBefore, Opening, replay_feeds}
use Rattle.cmd_network.specs.Conforming.{input_names}
use Rattle.cmd_run_network.specs.Growth.{GrowTooFar}
use Rattle.net_cells.specs.SourceRuns.{SourcesAreActorNetworks}
use Rattle.net_cells.specs.Sources.{IsActorNetwork}
use Rattle.cmd_run_network.specs.Network as asks
use Rattle.trace_replay.specs.declared.replayed.Replayed.{Replayed}
use Rattle.trace_replay.specs.declared.why.ReplayFault.{ReplayFault}
use Rattle.trace_replay.specs.declared.why.ReplayFault.TheVariants as judged
use Rattle.rvc_engine.specs.Built.{HasImage, IsBuilt}
use Rattle.network_check.specs.Refused.{IsFault, IsOutside}
use Rattle.network_check.specs.declared.fault.BuildFault.{BuildFault}
use Rattle.network_check.specs.declared.fault.BuildFault.TheVariants as build
use Rattle.rvc_engine.specs.declared.image.Image.{Image}
use Rattle.cmd_report.specs.About.{About}
use Rattle.cmd_report.specs.Report.{last_line}
use Rattle.cmd_report.specs.declared.status.Status.{Status}
use Rattle.cmd_report.specs.declared.status.Status.TheVariants as status
use Rattle.cmd_run.proofs.Cells.{many_leaves}
use Rattle.cmd_run.proofs.Leaving.{same_names}
use Rattle.cmd_network.specs.Answers.{IsAnswered, is_reported, is_unreported}
use Rattle.cmd_network.specs.Commands.{AreCertified, Command, ConformingAreNotRefused, HasFiles, IsOfCommand, about_net, count_none, port_names, top_of, words_of}
use Rattle.cmd_network.specs.Steps.{IsPut, about_words, status_of_build}
use Rattle.cmd_network.proofs.Putting.{last_alone, line_answered, put_answered}
use Rattle.cmd_network.proofs.Words.{none_wrong}
use Rattle.cmd_replay.specs.Asked.{ComesAsAsked, feeds_asked}
use Rattle.cmd_replay.specs.Ends.{Comes, IsJudgedOrOutside, IsNoVerdict, IsRefusedFor, by_files, by_growth, by_words}
use Rattle.cmd_replay.specs.Replays.{ConformsToReplay, IsReplayFeed, IsToReplay, OpensFeeds, OpensForReplay, RefusesReplay, in_growth, in_job}
use Rattle.cmd_replay.specs.Steps.{ImageJudged, ImageReplayed, IsForbidden, IsPermitted, about_image, lines_of, openings_of, status_of, status_of_fault}
use Rattle.cmd_replay.specs.declared.outcome.NotReplayed.{NotReplayed}
use Rattle.cmd_replay.specs.declared.outcome.NotReplayed.TheVariants as stop

module _ (cmd : Command) (FeedsAre : List Opening → Type 0) (image : Image) (names : Names) (law : SourcesAreActorNetworks) (built : IsBuilt cmd.library (top_of cmd) (file_names names) image) where
  -- to what it comes
  abbrev Asked : Command → Status → List ℕ → About → Type 0
  Asked = ComesAsAsked FeedsAre

  abbrev net : Network ActorState
  net = built.is_image.net

  abbrev actors : List Actor
  actors = built.is_image.means.actors

  has : HasImage image built.is_image.means.actors built.is_image.net
  has = built.is_image.has

  is : IsActorNetwork built.is_image.means.actors built.is_image.net
  is = law (files_of built.reads) (class_asked (top_of cmd)) built.is_image.net built.is_image.means.tree built.is_image.means.actors
      built.is_image.means built.is_image.means.is_tree built.is_image.means.are_actors built.is_image.has.sound

  files : HasFiles cmd net
  files = record { names = file_names names; reads = built.reads; are_read = built.are_read; means = built.is_image.means }

  ins_are : input_names net ≡ asks.in_names image.flat
  ins_are = same_names image.flat.ins.items net.ins (has.is_net).wiring.ins

  outs_are : port_names net.outs ≡ asks.out_names image.flat
  outs_are = same_names image.flat.outs.items net.outs (has.is_net).wiring.outs

  links_are : net.links ≡ image.flat.links.items
  links_are = (has.is_net).wiring.links

  of_command : AreMatched (asks.in_names image.flat) (asks.words_of cmd.job) → IsOfCommand input_names cmd net
  of_command matched =
      let fits : AreMatched (input_names net) (words_of cmd) = subst (λ ps. AreMatched ps (words_of cmd)) (sym ins_are) matched in
      record {
        files = files;
        matched = fits;
        conforms = record {
          means = record { reads = built.reads; are_loaded = built.are_read.are_loaded; means = built.is_image.means };
          matched = fits;
        };
      }

  to_replay : IsPermitted image.flat cmd.job → IsToReplay cmd net
  to_replay permitted = record {
    is_of = of_command permitted.matched;
    little = λ far. permitted.little (subst (λ ls. GrowTooFar ls cmd.job.grow) links_are far);
  }

  about_is : about_image image names cmd.job ≡ about_net cmd (file_names names) net
  about_is =
      ap (λ n. about_by n image.flat.links.items (asks.in_names image.flat) (asks.out_names image.flat)) (sym (length-map image.codes.items arc_value) ∙ many_leaves image actors net has is)
      ∙ (ap (λ ls. about_by (length net.leaves) ls (asks.in_names image.flat) (asks.out_names image.flat)) (sym links_are)
      ∙ (ap (λ ps. about_by (length net.leaves) net.links ps (asks.out_names image.flat)) (sym ins_are)
      ∙ ap (λ ps. about_by (length net.leaves) net.links (port_names net.ins) ps) (sym outs_are)))
    where
      about_by : ℕ → List Link → List (List ℕ) → List (List ℕ) → About
      about_by n links ins outs = record { files = file_names names; trace = string_bytes cmd.job.trace; words = words_of cmd; instances = n; links = links; ins = ins; outs = outs }

  certified : AreCertified built.is_image.means.actors (count_none image.uncertified.items)
  certified = record { said = image.uncertified.items; judged = has.judged; counted = refl }

  opens : OpensForReplay image.flat.links.items (asks.in_names image.flat) (asks.words_of cmd.job) cmd.feeds cmd.feeds_after → OpensFeeds cmd net
  opens only =
      subst (λ ls. OpensForReplay ls (port_names net.ins) (words_of cmd) cmd.feeds cmd.feeds_after) (sym links_are)
      (subst (λ ps. OpensForReplay image.flat.links.items ps (words_of cmd) cmd.feeds cmd.feeds_after) (sym ins_are) only)

  unopened : (feed : ℕ) → FeedFails (replay_feeds (string_bytes cmd.job.trace) image.flat.links.items (asks.in_names image.flat) (asks.words_of cmd.job)) feed cmd.feeds cmd.feeds_after
      → FeedFails (replay_feeds (string_bytes cmd.job.trace) net.links (port_names net.ins) (words_of cmd)) feed cmd.feeds cmd.feeds_after
  unopened feed fails =
      subst (λ ls. FeedFails (replay_feeds (string_bytes cmd.job.trace) ls (port_names net.ins) (words_of cmd)) feed cmd.feeds cmd.feeds_after) (sym links_are)
      (subst (λ ps. FeedFails (replay_feeds (string_bytes cmd.job.trace) image.flat.links.items ps (words_of cmd)) feed cmd.feeds cmd.feeds_after) (sym ins_are) fails)

  read_feed : (feed : ℕ) → IsReplayFeed image.flat.links.items (asks.in_names image.flat) (asks.words_of cmd.job) feed → IsReplayFeed net.links (port_names net.ins) (words_of cmd) feed
  read_feed feed is =
      subst (λ ls. IsReplayFeed ls (port_names net.ins) (words_of cmd) feed) (sym links_are)
      (subst (λ ps. IsReplayFeed image.flat.links.items ps (words_of cmd) feed) (sym ins_are) is)

  feeds_so : (Q : List Opening → Type 0) → Q (openings_of image.flat cmd.job) → Q (feeds_asked cmd net)
  feeds_so Q h =
      subst (λ ls. Q (replay_feeds (string_bytes cmd.job.trace) ls (port_names net.ins) (words_of cmd))) (sym links_are)
      (subst (λ ps. Q (replay_feeds (string_bytes cmd.job.trace) image.flat.links.items ps (words_of cmd))) (sym ins_are) h)

  -- ---- each answer

  forbidden : (r : Refusal) → IsForbidden image.flat cmd.job r → IsRefusedFor cmd r (about_image image names cmd.job)
  unfolding of_command files
  forbidden r (inl wrong) =
      subst (IsRefusedFor cmd r) (sym about_is) (by_words (file_names names) net (record {
        files = files;
        names_are = refl;
        wrong = subst (λ ps. IsWrongWord ps (words_of cmd) r) (sym ins_are) wrong;
      }))
  forbidden r (inr far) =
      subst (IsRefusedFor cmd r) (sym about_is) (by_growth (file_names names) net (record {
        is_of = of_command far.0;
        names_are = refl;
        rule = far.1;
        too_far = subst (λ ls. GrowTooFar ls cmd.job.grow) (sym links_are) far.2;
      }))

  comes_fault : (fault : ReplayFault) → ImageJudged image cmd.job cmd.feeds cmd.feeds_after FeedsAre (Err (stop.Fault fault)) → WritesOnlyAt 0 cmd.channels cmd.channels_after
      → Asked cmd (status_of_fault fault) [] (about_image image names cmd.job)
  unfolding to_replay of_command files
  comes_fault (judged.NotRun line why) was only = (
    record {
      net = net;
      is_to_replay = to_replay was.leaves.0;
      refused = λ inputs text given told. was.judges actors net inputs text has is given told;
      feeds = opens was.leaves.1;
      only_report = only;
      about_is = about_is;
    },
    feeds_so FeedsAre was.by_name,
  )
  comes_fault (judged.ReadFault feed) was only = (
    record {
      net = net;
      is_to_replay = to_replay was.leaves.0;
      how = ⊎_elim (λ fails. inl (unopened feed fails)) (λ broke. inr (record { counted = broke.0; is_feed = read_feed feed broke.1; feeds = opens broke.2 })) was.leaves.1;
      only_report = only;
      about_is = about_is;
    },
    feeds_so (λ all. HoldsBefore all feed FeedsAre ⊎ FeedsAre all) was.by_name,
  )
  comes_fault judged.Memory was only = (only, tt)

  comes : (came : Result Replayed NotReplayed) → ImageJudged image cmd.job cmd.feeds cmd.feeds_after FeedsAre came → WritesOnlyAt 0 cmd.channels cmd.channels_after
      → Asked cmd (status_of came) (lines_of image names cmd.job came) (about_image image names cmd.job)
  unfolding to_replay of_command files
  comes (Ok replayed) was only = (
    record {
      end = replayed.end;
      counts = replayed.counts;
      replayed = record {
        net = net;
        is_to_replay = to_replay was.leaves.0;
        replayed = λ inputs text given told. was.judges actors net inputs text has is given told;
        feeds = opens was.leaves.1;
        only_report = only;
        sound = has.sound;
        certified = count_none image.uncertified.items;
        are_certified = certified;
        about_is = about_is;
        lines_are = refl;
      };
    },
    feeds_so FeedsAre was.by_name,
  )
  comes (Err (stop.Refused r)) was only = ((forbidden r was.leaves.0, record { same_feeds = was.leaves.1; only_report = only }), tt)
  comes (Err (stop.Fault fault)) was only = comes_fault fault was only

  pub image_answered : (answer : Status) → ImageReplayed image names cmd.job cmd.feeds cmd.feeds_after cmd.channels cmd.channels_after FeedsAre answer → IsAnswered Asked cmd answer
  image_answered answer ran =
      put_answered Asked cmd (status_of ran.came) answer (lines_of image names cmd.job ran.came) (about_image image names cmd.job) (λ only. comes ran.came ran.judged only) ran.put

  -- ---- completeness

  judged_fault : (fault : ReplayFault) → ImageJudged image cmd.job cmd.feeds cmd.feeds_after FeedsAre (Err (stop.Fault fault)) → IsJudgedOrOutside cmd net (status_of_fault fault)
  judged_fault (judged.NotRun line why) was = λ inputs text given told. was.judges actors net inputs text has is given told
  judged_fault (judged.ReadFault feed) was = tt
  judged_fault judged.Memory was = tt

  not_forbidden : (r : Refusal) → ConformsToReplay cmd.library (top_of cmd) (words_of cmd) cmd.job.grow net → IsForbidden image.flat cmd.job r → ⊥
  not_forbidden r conforms (inl wrong) =
      none_wrong (input_names net) (words_of cmd) r conforms.conforms.matched (subst (λ ps. IsWrongWord ps (words_of cmd) r) (sym ins_are) wrong)
  not_forbidden r conforms (inr far) = conforms.little (subst (λ ls. GrowTooFar ls cmd.job.grow) (sym links_are) far.2)

  judged_so : (came : Result Replayed NotReplayed) → ImageJudged image cmd.job cmd.feeds cmd.feeds_after FeedsAre came → ConformsToReplay cmd.library (top_of cmd) (words_of cmd) cmd.job.grow net
      → IsJudgedOrOutside cmd net (status_of came)
  judged_so (Ok replayed) was conforms = (replayed.end, replayed.counts, (λ inputs text given told. was.judges actors net inputs text has is given told))
  judged_so (Err (stop.Refused r)) was conforms = absurd (not_forbidden r conforms was.leaves.0)
  judged_so (Err (stop.Fault fault)) was conforms = judged_fault fault was

  put_so : (said answer : Status) (text : List ℕ) → IsJudgedOrOutside cmd net said → IsPut said text cmd.channels cmd.channels_after answer → IsJudgedOrOutside cmd net answer
  put_so said answer text on put = ⊎_elim (λ put. subst (IsJudgedOrOutside cmd net) (sym put.0) on) (λ put. subst (IsJudgedOrOutside cmd net) (sym put.0) tt) put

  pub image_complete : (answer : Status) (other : Network ActorState) → LibraryNetworksAreOne → TellsAll cmd.library → ConformsToReplay cmd.library (top_of cmd) (words_of cmd) cmd.job.grow other
      → ImageReplayed image names cmd.job cmd.feeds cmd.feeds_after cmd.channels cmd.channels_after FeedsAre answer → IsJudgedOrOutside cmd other answer
  image_complete answer other one tells conforms ran =
      let here : IsLibraryNetwork cmd.library (top_of cmd) net = record { reads = built.reads; are_loaded = built.are_read.are_loaded; means = built.is_image.means } in
      let same : other ≡ net = one cmd.library (top_of cmd) other net tells conforms.conforms.means here in
      subst (λ n. IsJudgedOrOutside cmd n answer) (sym same)
      (put_so (status_of ran.came) answer _
      (judged_so ran.came ran.judged (subst (λ n. ConformsToReplay cmd.library (top_of cmd) (words_of cmd) cmd.job.grow n) same conforms)) ran.put)

-- ---- without an image

module _ (cmd : Command) (FeedsAre : List Opening → Type 0) (names : Names) (same : cmd.feeds_after ≡ cmd.feeds) where
  comes_unbuilt : (why : BuildFault) → IsFault cmd.library (top_of cmd) cmd.misses cmd.faults (file_names names) why → WritesOnlyAt 0 cmd.channels cmd.channels_after
      → ComesAsAsked FeedsAre cmd (status_of_build why) [] (about_words names cmd.job)
  comes_unbuilt (build.Refused r) no_image only = ((by_files (file_names names) (record { why = no_image }), record { same_feeds = same; only_report = only }), tt)
  comes_unbuilt (build.ReadFault file) no_image only =
      ((record { counted = no_image.0; names = file_names names; told = no_image.1; about_is = refl }, record { same_feeds = same; only_report = only }), tt)
  comes_unbuilt build.Memory no_image only = (only, tt)

  pub unbuilt_answered : (why : BuildFault) (answer : Status) → IsFault cmd.library (top_of cmd) cmd.misses cmd.faults (file_names names) why
      → IsPut (status_of_build why) (last_line (about_words names cmd.job) (status_of_build why)) cmd.channels cmd.channels_after answer → IsAnswered (ComesAsAsked FeedsAre) cmd answer
  unbuilt_answered why answer no_image put =
      line_answered (ComesAsAsked FeedsAre) cmd (status_of_build why) answer [] (about_words names cmd.job) (last_alone [] (about_words names cmd.job) why) (λ only. comes_unbuilt why no_image only) put

  on_unbuilt : (this : Network ActorState) (why : BuildFault) → IsOutside why → IsJudgedOrOutside cmd this (status_of_build why)
  on_unbuilt this (build.Refused r) un = un
  on_unbuilt this (build.ReadFault file) un = tt
  on_unbuilt this build.Memory un = tt

  pub unbuilt_complete : (net : Network ActorState) (why : BuildFault) (answer : Status) → IsOutside why
      → IsPut (status_of_build why) (last_line (about_words names cmd.job) (status_of_build why)) cmd.channels cmd.channels_after answer → IsJudgedOrOutside cmd net answer
  unbuilt_complete net why answer un put =
      ⊎_elim (λ put. subst (IsJudgedOrOutside cmd net) (sym put.0) (on_unbuilt net why un)) (λ put. subst (IsJudgedOrOutside cmd net) (sym put.0) tt) put

-- ---- what is refused

module _ (cmd : Command) (law : ConformingAreNotRefused) (one : LibraryNetworksAreOne) (misses : Counts) (found : List (List ℕ)) (r : Refusal) (tells : TellsAll cmd.library) where
  not_refused : (net : Network ActorState) → IsToReplay cmd net → RefusesReplay cmd.library (top_of cmd) (words_of cmd) cmd.job.grow misses found r → ⊥
  not_refused net is (in_job refuses) = law input_names cmd.library (top_of cmd) (words_of cmd) net misses found r tells is.is_of.conforms refuses
  not_refused net is (in_growth other means far rule) =
      is.little (subst (λ (n : Network ActorState). GrowTooFar n.links cmd.job.grow) (one cmd.library (top_of cmd) other net tells means is.is_of.conforms.means) far)

  by_status : (said : Status) (lines : List ℕ) (about : About) → RefusesReplay cmd.library (top_of cmd) (words_of cmd) cmd.job.grow misses found r → Comes cmd said lines about → IsNoVerdict said
  by_status status.Done lines about refuses came = not_refused came.replayed.net came.replayed.is_to_replay refuses
  by_status (status.NotRun line why) lines about refuses came = not_refused came.net came.is_to_replay refuses
  by_status (status.Refused rule) lines about refuses came = tt
  by_status (status.ReadFault at) lines about refuses came = tt
  by_status (status.WriteFault channel) lines about refuses came = tt
  by_status status.OutOfMemory lines about refuses came = tt
  by_status status.Quiet lines about refuses came = tt
  by_status (status.Trapped inst action trap) lines about refuses came = tt
  by_status (status.Stalled inst action link) lines about refuses came = tt
  by_status (status.Budget firings) lines about refuses came = tt
  by_status (status.Usage cause) lines about refuses came = tt
  by_status (status.Uncertified inst state first second reason) lines about refuses came = tt

  pub no_verdict : (answer : Status) → IsAnswered Comes cmd answer → RefusesReplay cmd.library (top_of cmd) (words_of cmd) cmd.job.grow misses found r → IsNoVerdict answer
  no_verdict answer (is_reported {said = said} lines about came put) refuses = by_status said lines about refuses came
  no_verdict answer (is_unreported said lines about came put counted) refuses = tt

-- ---- what it comes to alone

pub answered_plainly : (FeedsAre : List Opening → Type 0) (cmd : Command) (answer : Status) → IsAnswered (ComesAsAsked FeedsAre) cmd answer → IsAnswered Comes cmd answer
answered_plainly FeedsAre cmd answer (is_reported lines about c put) = is_reported lines about c.0 put
answered_plainly FeedsAre cmd answer (is_unreported said lines about c put counted) = is_unreported said lines about c.0 put counted
