-- What is run if the generated files conform to a network together with the port words.
use Rattle.std.proofs.Common.{◌≡◌, ℕ, List, Option, None, Some, sym, ap, subst, ◌∙◌}
use Rattle.std.specs.Prelude.{string_bytes}
use Rattle.rvc_base.specs.declared.refusal.Refusal.{Refusal}
use Rattle.rvc_io.specs.Files.{under}
use Rattle.rvc_io.specs.MemLibrary.{told}
use Rattle.rvc_io.specs.Told.{Untold}
use Rattle.rvc_words.specs.Words.{JobText}
use Rattle.cal_files.specs.Loading.{TellsAll}
use Rattle.cal_model.specs.Selection.{State}
use Rattle.net_model.specs.Network.{Network}
use Rattle.cmd_network.specs.Conforming.{Conforms, OneConforms, output_names}
use Rattle.cmd_ports.specs.Matching.{IsWrongWord}
use Rattle.cmd_report.specs.About.{About}
use Rattle.cmd_report.specs.declared.status.Status.{Status}
use Rattle.cmd_report.specs.declared.status.Status.TheVariants as status
use Rattle.network_check.specs.Top.{top_asked}
use Rattle.fnl_source.specs.Library.{LibraryNetworksAreOne}
use Rattle.cmd_network.specs.Answers.{IsAnswered, is_reported, is_unreported}
use Rattle.cmd_network.specs.Commands.{Command, ConformingAreNotRefused, HasFiles, IsToRun, top_of, words_of}
use Rattle.cmd_network.proofs.Words.{none_wrong}
use Rattle.cmd_run.proofs.Deciding.{still_refused}
use Rattle.cmd_gen_network.specs.Objects.{library_of}
use Rattle.cmd_gen_network.specs.Texts.{files_of, top_name}
use Rattle.cmd_gen.specs.Ends.{Comes, ComesFor, IsGenerated, IsRefused, IsStillRefused, Runs, by_run, by_words, of_run}
use Rattle.cmd_gen.specs.Jobs.{GeneratedConform, instances_of}

-- a library in memory tells of each name
all_told : (bytes : Option (List ℕ)) → told bytes ≡ Untold → ⊥
all_told None e = cc
all_told (Some bytes) e = cc

pub generated_tell : (instances : ℕ) → TellsAll (library_of instances)
generated_tell instances name e = all_told (under (files_of instances) name) e

some_same : {A : Type 0} (o : Option A) (one other : A) → o ≡ Some one → o ≡ Some other → one ≡ other
some_same o one other a b = cc

pub tells_of : (cmd gen : Command) → IsGenerated cmd gen → TellsAll gen.library
tells_of cmd gen is = subst TellsAll (sym is.library) (generated_tell is.instances)

module _ (cmd : Command) (one : OneConforms) (one_net : LibraryNetworksAreOne) (law : ConformingAreNotRefused) (instances : ℕ) (net : Network State)
    (number : instances_of (string_bytes cmd.job.top) ≡ Some instances) (conform : GeneratedConform instances (words_of cmd) net) where
  conforms_too : (gen : Command) → IsGenerated cmd gen → Conforms gen.library (top_of gen) (words_of gen) net
  conforms_too gen is =
      subst (λ library. Conforms library (top_of gen) (words_of gen) net)
      (ap library_of (some_same (instances_of (string_bytes cmd.job.top)) instances is.instances number is.is_number) ∙ sym is.library)
      (subst (λ top. Conforms (library_of instances) (top_asked top) (words_of gen) net) (sym (ap (λ (j : JobText). j.top) is.job))
      (subst (λ words. Conforms (library_of instances) (top_asked top_name) words net) (sym (ap (λ (j : JobText). j.ports) is.job)) conform.conforms))

  is_net : (gen : Command) → IsGenerated cmd gen → (other : Network State) → IsToRun gen other → other ≡ net
  is_net gen is other to_run = one_net gen.library (top_of gen) other net (tells_of cmd gen is) to_run.conforms.means (conforms_too gen is).means

  has_net : (gen : Command) → IsGenerated cmd gen → (other : Network State) → HasFiles gen other → other ≡ net
  has_net gen is other files = one_net gen.library (top_of gen) other net (tells_of cmd gen is)
      (record { reads = files.reads; are_loaded = files.are_read.are_loaded; means = files.means }) (conforms_too gen is).means

  refused_still : (r : Refusal) (about : About) → IsRefused cmd r about → IsStillRefused cmd net r
  refused_still r about (by_words gen names other is has) = absurd (none_wrong (output_names net) (words_of cmd) r conform.matched
      (subst (λ n. IsWrongWord (output_names n) (words_of cmd) r) (has_net gen is other has.files) has.wrong))
  refused_still r about (by_run gen other is refused) =
      of_run gen is (still_refused gen one one_net law (tells_of cmd gen is) net (conforms_too gen is) r about refused)

  abbrev runs_it : (other : Network State) (said : Status) (lines : List ℕ) (about : About) (runs : Runs cmd other said lines about) → IsToRun runs.gen other → Runs cmd net said lines about
  runs_it other said lines about runs to_run = subst (λ n. Runs cmd n said lines about) (is_net runs.gen runs.is_generated other to_run) runs

  comes_for : (said : Status) (lines : List ℕ) (about : About) → Comes cmd said lines about → ComesFor net cmd said lines about
  comes_for status.Quiet lines about c = runs_it c.0 status.Quiet lines about c.1 c.1.comes.ran.is_to_run
  comes_for (status.Trapped inst action trap) lines about c = runs_it c.0 (status.Trapped inst action trap) lines about c.1 c.1.comes.ran.is_to_run
  comes_for (status.Stalled inst action link) lines about c = runs_it c.0 (status.Stalled inst action link) lines about c.1 c.1.comes.ran.is_to_run
  comes_for (status.Budget firings) lines about c = runs_it c.0 (status.Budget firings) lines about c.1 c.1.comes.ran.is_to_run
  comes_for (status.WriteFault channel) lines about c = runs_it c.0 (status.WriteFault channel) lines about c.1 c.1.comes.is_to_run
  comes_for (status.Refused r) lines about c = (refused_still r about c.0, c.1)
  comes_for status.OutOfMemory lines about c = c
  comes_for (status.ReadFault at) lines about c = c
  comes_for status.Done lines about c = c
  comes_for (status.Usage cause) lines about c = c
  comes_for (status.NotRun number why) lines about c = c
  comes_for (status.Uncertified inst state first second reason) lines about c = c

  pub answered_for : (answer : Status) → IsAnswered Comes cmd answer → IsAnswered (ComesFor net) cmd answer
  answered_for answer (is_reported {said = said} lines about c put) = is_reported lines about (comes_for said lines about c) put
  answered_for answer (is_unreported said lines about c put counted) = is_unreported said lines about (comes_for said lines about c) put counted
