-- How a job is answered, by what came of the generated files.
use Rattle.std.proofs.Common.{◌≡◌, ℕ, List, [], Some, false, None, map, refl, sym, ap, subst}
use Rattle.std.specs.Prelude.{string_bytes}
use Rattle.rvc_io.specs.Channels.{Channels, WritesOnlyAt}
use Rattle.rvc_io.specs.Feeds.{Inputs}
use Rattle.rvc_io.specs.Files.{File, under}
use Rattle.rvc_io.specs.MemLibrary.{LibraryState, told}
use Rattle.rvc_words.specs.Words.{port_text}
use Rattle.rvc_words.specs.declared.job.Job.{Job}
use Rattle.cal_files.specs.Loading.{Counts, Library}
use Rattle.cal_files.specs.Views.{file_names}
use Rattle.cal_files.specs.declared.names.Names.{Names}
use Rattle.cmd_network.specs.Conforming.{output_names}
use Rattle.cmd_ports.specs.Matching.{AreMatched, IsWrongWord}
use Rattle.cmd_ports.specs.Opening.{Opening}
use Rattle.rvc_engine.specs.Built.{IsBuilt}
use Rattle.network_check.specs.Refused.{IsFault}
use Rattle.network_check.specs.Top.{top_asked}
use Rattle.network_check.specs.declared.fault.BuildFault.{BuildFault}
use Rattle.network_check.specs.declared.fault.BuildFault.TheVariants as build
use Rattle.rvc_engine.specs.declared.image.Image.{Image}
use Rattle.cmd_report.specs.About.{About}
use Rattle.cmd_report.specs.declared.status.Status.{Status}
use Rattle.cmd_report.specs.declared.status.Status.TheVariants as status
use Rattle.fnl_source.specs.Library.{LibraryNetworksAreOne}
use Rattle.cmd_network.specs.Answers.{IsAnswered}
use Rattle.cmd_network.specs.Commands.{Command, OpenedNothing}
use Rattle.cmd_network.specs.Steps.{about_words, status_of_build}
use Rattle.cmd_network.proofs.Putting.{last_alone, line_answered}
use Rattle.cmd_run_network.specs.Network.{out_names}
use Rattle.cmd_run.specs.Ends as run
use Rattle.cmd_run.proofs.Leaving.{same_names}
use Rattle.cmd_gen_network.specs.Feed.{bytes_of}
use Rattle.cmd_gen_network.specs.Objects.{file_told}
use Rattle.cmd_gen.specs.Asked.{ComesAsAsked}
use Rattle.cmd_gen.specs.Ends.{IsGenerated, by_run, by_words}
use Rattle.cmd_gen.specs.Making.{IsMadeFor}
use Rattle.cmd_gen.specs.Steps.{CameOf, IsLine, command_over, of_memory, of_run, of_word}
use Rattle.cmd_gen.proofs.Answering.{answered_too, no_rise}
use Rattle.cmd_gen.proofs.Deciding.{tells_of}

-- feeds of the input, none of which was opened
abbrev unopened : ℕ → Inputs
unopened instances = record { under = λ name. Some (bytes_of instances); left = λ feed. None; is_open = λ feed. false; faults = 0 }

module _ (job made : Job) (state : LibraryState) (instances : ℕ) (is_made : IsMadeFor job made state instances) (misses : Counts)
    (library : Library) (misses_there faults_there : Counts) (feeds_there : Inputs) (old new : Channels)
    (ChannelsAre : List Opening → Type 0) (Arrived : ℕ → ℕ → Type 0) where
  -- the command, and the one that is run for it over feeds of the input
  abbrev cmd : Command
  cmd = command_over job library misses_there faults_there feeds_there feeds_there old new

  -- to what it comes
  abbrev Gives : Command → Status → List ℕ → About → Type 0
  Gives = ComesAsAsked ChannelsAre Arrived

  abbrev no_faults : Counts
  no_faults = record { old = 0; new = 0 }

  abbrev gen : Inputs → Inputs → Command
  gen feeds feeds_after = command_over made (file_told state) misses no_faults feeds feeds_after old new

  generated : (feeds feeds_after : Inputs) → ((name : List ℕ) → feeds.under name ≡ Some (bytes_of instances)) → IsGenerated cmd (gen feeds feeds_after)
  generated feeds feeds_after given = record {
    instances = instances;
    is_number = is_made.number;
    job = is_made.job_is;
    library = ap (λ (files : List File). λ name. told (under files name)) is_made.files;
    feeds = given;
    channels = refl;
    channels_after = refl;
  }

  here : IsGenerated cmd (gen (unopened instances) (unopened instances))
  here = generated (unopened instances) (unopened instances) (λ name. refl)

  opened_nothing : WritesOnlyAt 0 old new → OpenedNothing cmd
  opened_nothing only = record { same_feeds = refl; only_report = only }

  -- ---- without an image

  comes_unbuilt : (why : BuildFault) (names : Names) → IsFault (file_told state) (top_asked (string_bytes made.top)) misses no_faults (file_names names) why
      → OpenedNothing cmd → Gives cmd (status_of_build why) [] (about_words names made)
  comes_unbuilt (build.Refused r) names none nothing =
      ((by_run (gen (unopened instances) (unopened instances)) (about_words names made) here (run.by_files (file_names names) (record { why = none })), nothing), tt)
  comes_unbuilt (build.ReadFault file) names none nothing = absurd (no_rise cmd (gen (unopened instances) (unopened instances)) here refl 0 0 refl none.0)
  comes_unbuilt build.Memory names none nothing = (nothing, tt)

  pub unbuilt_answered : (why : BuildFault) (names : Names) (answer : Status) → IsFault (file_told state) (top_asked (string_bytes made.top)) misses no_faults (file_names names) why
      → IsLine (status_of_build why) names made old new answer → IsAnswered Gives cmd answer
  unbuilt_answered why names answer none put =
      line_answered Gives cmd (status_of_build why) answer [] (about_words names made) (last_alone [] (about_words names made) why)
      (λ only. comes_unbuilt why names none (opened_nothing only)) put

  -- ---- with one

  module _ (image : Image) (names : Names) (built : IsBuilt (file_told state) (top_asked (string_bytes made.top)) (file_names names) image) (one : LibraryNetworksAreOne) where
    outs_are : output_names built.is_image.net ≡ out_names image.flat
    outs_are = same_names image.flat.outs.items built.is_image.net.outs (built.is_image.has.is_net).wiring.outs

    pub came_answered : (answer : Status) → CameOf image names (map port_text job.ports.items) made instances old new ChannelsAre Arrived answer → IsAnswered Gives cmd answer
    came_answered answer (of_memory put) =
        line_answered Gives cmd status.OutOfMemory answer [] (about_words names made) refl (λ only. (opened_nothing only, tt)) put
    came_answered answer (of_word r wrong put) =
        line_answered Gives cmd (status.Refused r) answer [] (about_words names made) refl
        (λ only. (
          (
            by_words (gen (unopened instances) (unopened instances)) (file_names names) built.is_image.net here (record {
              files = record { names = file_names names; reads = built.reads; are_read = built.are_read; means = built.is_image.means };
              names_are = refl;
              wrong = subst (λ ports. IsWrongWord ports (map port_text job.ports.items) r) (sym outs_are) wrong;
            }),
            opened_nothing only,
          ),
          tt,
        )) put
    came_answered answer (of_run matched ran) =
        let is : IsGenerated cmd (gen ran.feeds ran.feeds_after) = generated ran.feeds ran.feeds_after ran.given in
        answered_too cmd (gen ran.feeds ran.feeds_after) is refl refl ran.no_fault (tells_of cmd (gen ran.feeds ran.feeds_after) is) one ChannelsAre Arrived built.is_image.net
        (record { reads = built.reads; are_loaded = built.are_read.are_loaded; means = built.is_image.means })
        (subst (λ ports. AreMatched ports (map port_text job.ports.items)) (sym outs_are) matched)
        answer (ran.answered (file_told state) misses no_faults built)

-- ---- before anything is made

module _ (job : Job) (library : Library) (misses faults : Counts) (feeds : Inputs) (old new : Channels)
    (ChannelsAre : List Opening → Type 0) (Arrived : ℕ → ℕ → Type 0) where
  abbrev asked : Command
  asked = command_over job library misses faults feeds feeds old new

  nothing_opened : WritesOnlyAt 0 old new → OpenedNothing asked
  nothing_opened only = record { same_feeds = refl; only_report = only }

  pub memory_answered : (names : Names) (answer : Status) → IsLine status.OutOfMemory names job old new answer → IsAnswered (ComesAsAsked ChannelsAre Arrived) asked answer
  memory_answered names answer put =
      line_answered (ComesAsAsked ChannelsAre Arrived) asked status.OutOfMemory answer [] (about_words names job) refl (λ only. (nothing_opened only, tt)) put
