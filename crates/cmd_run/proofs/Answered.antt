-- How a command is answered, by whether its report was put.
use Rattle.std.proofs.Common.{◌≡◌, ⊎_elim, ℕ, List, [], ◌++◌, refl, sym, ap, subst, ◌∙◌}
use Rattle.std.specs.Prelude.{string_bytes}
use Rattle.rvc_io.specs.Channels.{Channels, WritesOnlyAt}
use Rattle.rvc_io.specs.Feeds.{Inputs}
use Rattle.rvc_words.specs.declared.job.Job.{Job}
use Rattle.channel_writer.specs.Held.{HoldsFront}
use Rattle.cal_files.specs.Loading as loading
use Rattle.cal_files.specs.Views.{file_names}
use Rattle.cal_files.specs.declared.names.Names.{Names}
use Rattle.net_cells.specs.SourceRuns.{SourcesAreActorNetworks}
use Rattle.rvc_engine.specs.Built.{IsBuilt}
use Rattle.network_check.specs.Refused.{IsFault}
use Rattle.network_check.specs.Top.{top_asked}
use Rattle.network_check.specs.declared.fault.BuildFault.{BuildFault}
use Rattle.network_check.specs.declared.fault.BuildFault.TheVariants as build
use Rattle.rvc_engine.specs.declared.image.Image.{Image}
use Rattle.cmd_ports.specs.Opening.{Opening}
use Rattle.cmd_report.specs.About.{About}
use Rattle.cmd_report.specs.Report.{last_line, report}
use Rattle.cmd_report.specs.declared.status.Status.{Status}
use Rattle.cmd_network.specs.Answers.{IsAnswered, is_reported, is_unreported}
use Rattle.cmd_network.specs.Commands.{Command, OpenedNothing}
use Rattle.cmd_network.specs.Steps.{IsPut, about_words, status_of_build}
use Rattle.cmd_network.proofs.Putting.{last_alone, line_answered}
use Rattle.cmd_run.specs.Asked.{ComesAsAsked}
use Rattle.cmd_run.specs.Ends.{Comes, by_files}
use Rattle.cmd_run.specs.Steps.{ImageRan, about_image, lines_at, status_of}
use Rattle.cmd_run.proofs.Answering.{comes}
use Rattle.cmd_run.proofs.Reported.{risen_from}

module _ (job : Job) (library : loading.Library) (misses faults : loading.Counts) (feeds feeds_new : Inputs) (old new : Channels)
    (FeedsAre ChannelsAre : List Opening → Type 0) (Arrived : ℕ → ℕ → Type 0) where
  abbrev cmd : Command
  cmd = record {
    job = job;
    library = library;
    misses = misses;
    faults = faults;
    feeds = feeds;
    feeds_after = feeds_new;
    channels = old;
    channels_after = new;
  }

  -- to what it comes
  abbrev Asked : Command → Status → List ℕ → About → Type 0
  Asked = ComesAsAsked FeedsAre ChannelsAre Arrived

  -- ---- with an image

  pub image_answered : (image : Image) (names : Names) (answer : Status) → SourcesAreActorNetworks → IsBuilt library (top_asked (string_bytes job.top)) (file_names names) image
      → ImageRan image names job feeds feeds_new old new FeedsAre ChannelsAre Arrived answer → IsAnswered Asked cmd answer
  image_answered image names answer law built ran = ⊎_elim
      (λ put. subst (IsAnswered Asked cmd) (sym put.0) (is_reported (lines_at image names job ran.came) (about_image image names job) (come put.1.alone)
      (λ tells. put.1.whole (ran.ran.others.same_telling ∙ tells) ∙ ap (λ h. h ++ text) (ran.ran.report.same_held tells))))
      (λ put. subst (IsAnswered Asked cmd) (sym put.0) (is_unreported (status_of ran.came) (lines_at image names job ran.came) (about_image image names job) (come put.1.alone)
      (λ tells. subst (λ h. HoldsFront h (new.held 0) text) (ran.ran.report.same_held tells) (put.1.front (ran.ran.others.same_telling ∙ tells)))
      (risen_from old.faults ran.between.faults new.faults ran.ran.others.faults_stay put.1.counted)))
      ran.put
    where
      text : List ℕ
      text = report (lines_at image names job ran.came) (about_image image names job) (status_of ran.came)

      come : WritesOnlyAt 0 ran.between new → Asked cmd (status_of ran.came) (lines_at image names job ran.came) (about_image image names job)
      come only = comes job library misses faults feeds feeds_new old ran.between new image names law built only FeedsAre ChannelsAre Arrived ran.came ran.ran ran.asked

  -- ---- without one

  opened_nothing : feeds_new ≡ feeds → WritesOnlyAt 0 old new → OpenedNothing cmd
  opened_nothing same only = record { same_feeds = same; only_report = only }

  comes_unbuilt : (why : BuildFault) (names : Names) → IsFault library (top_asked (string_bytes job.top)) misses faults (file_names names) why
      → OpenedNothing cmd → Asked cmd (status_of_build why) [] (about_words names job)
  comes_unbuilt (build.Refused r) names none nothing = ((by_files (file_names names) (record { why = none }), nothing), tt)
  comes_unbuilt (build.ReadFault file) names none nothing = ((record { counted = none.0; names = file_names names; told = none.1; about_is = refl }, nothing), tt)
  comes_unbuilt build.Memory names none nothing = (nothing, tt)

  pub unbuilt_answered : (why : BuildFault) (names : Names) (answer : Status) → IsFault library (top_asked (string_bytes job.top)) misses faults (file_names names) why → feeds_new ≡ feeds
      → IsPut (status_of_build why) (last_line (about_words names job) (status_of_build why)) old new answer → IsAnswered Asked cmd answer
  unbuilt_answered why names answer none same put =
      line_answered Asked cmd (status_of_build why) answer [] (about_words names job) (last_alone [] (about_words names job) why)
      (λ only. comes_unbuilt why names none (opened_nothing same only)) put

-- ---- what it comes to alone

pub answered_plainly : (FeedsAre ChannelsAre : List Opening → Type 0) (Arrived : ℕ → ℕ → Type 0) (met : Command) (answer : Status)
    → IsAnswered (ComesAsAsked FeedsAre ChannelsAre Arrived) met answer → IsAnswered Comes met answer
answered_plainly FeedsAre ChannelsAre Arrived met answer (is_reported lines about c put) = is_reported lines about c.0 put
answered_plainly FeedsAre ChannelsAre Arrived met answer (is_unreported said lines about c put counted) = is_unreported said lines about c.0 put counted
