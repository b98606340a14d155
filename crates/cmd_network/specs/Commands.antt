-- A command about the network of a library: what it met, and which network that is.
-- Trusted: part of what a promise means.
use Rattle.std.specs.Prelude.{◌≡◌, ◌≢◌, ℕ, ◌+◌, true, List, [], ◌∷◌, Option, None, Some, map, length, string_bytes}
use Rattle.rvc_base.specs.declared.refusal.Refusal.{Refusal}
use Rattle.rvc_io.specs.Channels.{Channels, WritesOnlyAt}
use Rattle.rvc_io.specs.Feeds.{Inputs}
use Rattle.rvc_words.specs.Words.{PortText, port_text}
use Rattle.rvc_words.specs.declared.job.Job.{Job}
use Rattle.cal_model.specs.Actor.{Actor}
use Rattle.cal_model.specs.Selection.{State}
use Rattle.net_model.specs.Network.{NetPort, Network}
use Rattle.net_model.specs.State.{start_of}
use Rattle.cal_files.specs.Loading.{Counts, Library, TellsAll}
use Rattle.fnl_source.specs.Files.{Asked, Read, class_asked, files_of}
use Rattle.fnl_source.specs.Library.{IsLibraryNetwork}
use Rattle.fnl_source.specs.Source.{IsSourceNetwork}
use Rattle.cmd_ports.specs.Matching.{AreMatched, IsWrongWord}
use Rattle.cmd_network.specs.Conforming.{ConformsWith, Opened, names_of_ports}
use Rattle.determinacy_cert.specs.declared.fault.CertFault.{CertFault}
use Rattle.rvc_engine.specs.Built.{AreJudged}
use Rattle.network_check.specs.Checked.{AreRead}
use Rattle.network_check.specs.Refused.{RefusesTop}
use Rattle.network_check.specs.Top.{top_asked}
use Rattle.cmd_run_network.specs.Files.{AreInputs, IsChannelOf, OpensOnly}
use Rattle.cmd_run_network.specs.Leaving.{Setting, setting_of}
use Rattle.cmd_report.specs.About.{About}

-- ---- the command

-- What a call met: the library, how often that missed a file or failed before the call and after it, and the feeds and the
-- channels before and after.
pub record Met : Type 0 where
  pub library : Library
  pub misses : Counts
  pub faults : Counts
  pub feeds : Inputs
  pub feeds_after : Inputs
  pub channels : Channels
  pub channels_after : Channels

-- .. by what is known of its objects before and after
abbrev pub met_by : {L F D : Type 0} → (file : L → Library) → (misses faults : L → ℕ)
    → (feeds : F → Inputs) → (channels : D → Channels)
    → (library library_after : L) → (feeds_old feeds_new : F) → (drains drains_after : D) → Met
met_by file misses faults feeds channels library library_after feeds_old feeds_new drains drains_after =
    record {
      library = file library;
      misses = record { old = misses library; new = misses library_after };
      faults = record { old = faults library; new = faults library_after };
      feeds = feeds feeds_old;
      feeds_after = feeds feeds_new;
      channels = channels drains;
      channels_after = channels drains_after;
    }

-- A command: its job, and what it met.
pub record Command : Type 0 where
  pub job : Job
  pub library : Library
  pub misses : Counts
  pub faults : Counts
  pub feeds : Inputs
  pub feeds_after : Inputs
  pub channels : Channels
  pub channels_after : Channels

abbrev pub command : Met → Job → Command
command met job = record {
  job = job;
  library = met.library;
  misses = met.misses;
  faults = met.faults;
  feeds = met.feeds;
  feeds_after = met.feeds_after;
  channels = met.channels;
  channels_after = met.channels_after;
}

-- the top of its job, as what is asked of the library, and its port words
abbrev pub top_of : Command → Asked
top_of cmd = top_asked (string_bytes cmd.job.top)

abbrev pub words_of : Command → List PortText
words_of cmd = map port_text cmd.job.ports.items

-- nothing was opened, and no channel was written but that of the report
pub record OpenedNothing (cmd : Command) : Type 0 where
  pub same_feeds : cmd.feeds_after ≡ cmd.feeds
  pub only_report : WritesOnlyAt 0 cmd.channels cmd.channels_after

-- ---- its network

-- the names of ports of a network
abbrev pub port_names : List NetPort → List (List ℕ)
port_names ports = map (λ port. port.name) ports

-- Files were read, which are all that the top needs, these are their names, and they mean this network from the top down.
pub record HasFiles (cmd : Command) (net : Network State) : Type 0 where
  pub names : List (List ℕ)
  pub reads : List Read
  pub are_read : AreRead cmd.library (top_of cmd) names reads
  pub means : IsSourceNetwork (files_of reads) (class_asked (top_of cmd)) net

-- .. and each port word names a port of its own, of those that are opened: the library and the words conform to this
-- network
pub record IsOfCommand (opened : Opened) (cmd : Command) (net : Network State) : Type 0 where
  pub files : HasFiles cmd net
  pub matched : AreMatched (opened net) (words_of cmd)
  pub conforms : ConformsWith opened cmd.library (top_of cmd) (words_of cmd) net

-- .. if the inputs and the outputs are opened: this is the network to be run
abbrev pub IsToRun : Command → Network State → Type 0
IsToRun cmd net = IsOfCommand names_of_ports cmd net

-- What refuses a job of this top and these words, if the library tells of each name: the top is refused, after the files of
-- these names were read; or the files mean a network, and a port word names no port of it that is opened, or one that a
-- word before it names.
pub data RefusesJob (opened : Opened) (library : Library) (top : Asked) (words : List PortText)
    (misses : Counts) (names : List (List ℕ)) (r : Refusal) : Type 0 where
  in_files : RefusesTop library top misses names r
      → RefusesJob opened library top words misses names r
  in_words : (net : Network State) → IsLibraryNetwork library top net
      → IsWrongWord (opened net) words r → RefusesJob opened library top words misses names r

-- if a library tells of each name, a job that conforms isn't refused
abbrev pub ConformingAreNotRefused : Type 0
ConformingAreNotRefused = (opened : Opened) (library : Library) (top : Asked)
    (words : List PortText) (net : Network State)
    (misses : Counts) (names : List (List ℕ)) (r : Refusal) → TellsAll library
    → ConformsWith opened library top words net
    → RefusesJob opened library top words misses names r → ⊥

-- ---- its run

-- its inputs have these bytes: those that feeds tell under the files that words name, and none if no word names one
abbrev pub AreGiven : Command → Network State → List (List ℕ) → Type 0
AreGiven cmd net inputs =
    AreInputs inputs net.links (port_names net.ins) (words_of cmd) cmd.feeds

-- the run that is to be made over these bytes, by the round, the burst, the budget and the growth that the job asks for
abbrev pub run_over : Command → Network State → List (List ℕ) → Setting State
run_over cmd net inputs = setting_of net inputs (start_of net inputs) cmd.job

-- No feed was opened but those of its inputs that have a file; and no channel was opened or written but that of the
-- report, the trace's, and those of its outputs that have a file. What channels hold is told after it if it was before.
pub record TouchesOnly (cmd : Command) (net : Network State) : Type 0 where
  pub feeds : OpensOnly net.links (port_names net.ins) (words_of cmd) cmd.feeds cmd.feeds_after
  pub same_telling : cmd.channels_after.tells ≡ cmd.channels.tells
  pub same_open : (channel : ℕ) → channel ≢ 0
      → (IsChannelOf (port_names net.outs) (words_of cmd) channel → ⊥)
      → cmd.channels_after.is_open channel ≡ cmd.channels.is_open channel
  pub same_held : cmd.channels.tells ≡ true → (channel : ℕ) → channel ≢ 0
      → (IsChannelOf (port_names net.outs) (words_of cmd) channel → ⊥)
      → cmd.channels_after.held channel ≡ cmd.channels.held channel

-- ---- its report

-- how many of these are nothing
abbrev pub count_none : List (Option CertFault) → ℕ
count_none [] = 0
count_none (None ∷ said) = count_none said + 1
count_none (Some fault ∷ said) = count_none said

-- so many of these actors are certified; of each other one there is a first failure of the rule of certification
pub record AreCertified (actors : List Actor) (count : ℕ) : Type 0 where
  pub said : List (Option CertFault)
  pub judged : AreJudged actors said
  pub counted : count ≡ count_none said

-- what a report speaks of, if no network is known: the files, the trace and the words
abbrev pub about_files : Command → (names : List (List ℕ)) → About
about_files cmd names = record {
  files = names;
  trace = string_bytes cmd.job.trace;
  words = words_of cmd;
  instances = 0;
  links = [];
  ins = [];
  outs = [];
}

-- .. and if it is
abbrev pub about_net : Command → (names : List (List ℕ)) → Network State → About
about_net cmd names net = record {
  files = names;
  trace = string_bytes cmd.job.trace;
  words = words_of cmd;
  instances = length net.leaves;
  links = net.links;
  ins = port_names net.ins;
  outs = port_names net.outs;
}
