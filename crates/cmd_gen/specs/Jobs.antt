-- The job that is run for one of the verb `gen`.
-- Trusted: part of what a promise means.
use Rattle.std.specs.Prelude.{◌≡◌, ℕ, List, [], ◌∷◌, ◌++◌, Option, IsSome, Ok, codes}
use Rattle.rvc_words.specs.Forms.{number}
use Rattle.rvc_words.specs.Limits.{max_generated}
use Rattle.rvc_words.specs.Words.{JobText, PortText, job}
use Rattle.rvc_words.specs.declared.job.Verb.TheVariants as verb
use Rattle.cal_model.specs.Selection.{State}
use Rattle.net_model.specs.Network.{Network}
use Rattle.cmd_network.specs.Conforming.{Conforms, output_names}
use Rattle.cmd_ports.specs.Matching.{AreMatched}
use Rattle.network_check.specs.Top.{top_asked}
use Rattle.fnl_source.specs.Library.{IsLibraryNetwork}
use Rattle.cmd_gen_network.specs.Objects.{library_of}
use Rattle.cmd_gen_network.specs.Texts.{top_name}

-- how many instances the network has that a top asks for
abbrev pub instances_of : (top : List ℕ) → Option ℕ
instances_of top = number 1 max_generated top

-- the top of each job of the verb `gen` is such a number
abbrev pub TopsAreNumbers : Type 0
TopsAreNumbers = (words : List (List ℕ)) (j : JobText) → job words ≡ Ok j → j.verb ≡ verb.Gen
    → IsSome (instances_of j.top)

-- the word that names the generated input
abbrev pub input_word : PortText
input_word = record { name = codes "In"; file = codes "In" }

-- the words of a job, and behind them that of the input
abbrev pub with_input : List PortText → List PortText
with_input words = words ++ input_word ∷ []

-- The job that is run: its top is the generated network, and its input is named. All else is as the job asks.
abbrev pub generated_job : JobText → JobText
generated_job j = record {
  verb = j.verb;
  top = top_name;
  ports = with_input j.ports;
  trace = j.trace;
  workers = j.workers;
  round = j.round;
  burst = j.burst;
  budget = j.budget;
  grow = j.grow;
}

-- the generated files of so many instances mean this network
abbrev pub IsGeneratedNetwork : (instances : ℕ) → Network State → Type 0
IsGeneratedNetwork instances net =
    IsLibraryNetwork (library_of instances) (top_asked top_name) net

-- They conform to it together with the words of a job: each word names an output of its own, and there is the input.
pub record GeneratedConform (instances : ℕ) (words : List PortText) (net : Network State) : Type 0 where
  pub matched : AreMatched (output_names net) words
  pub conforms : Conforms (library_of instances) (top_asked top_name) (with_input words) net
