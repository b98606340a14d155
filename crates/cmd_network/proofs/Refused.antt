-- A job that conforms isn't refused.
use Rattle.std.proofs.Common.{ℕ, List, subst}
use Rattle.rvc_base.specs.declared.refusal.Refusal.{Refusal}
use Rattle.cal_files.specs.Loading.{TellsAll}
use Rattle.cmd_network.specs.Conforming.{Opened}
use Rattle.cmd_ports.specs.Matching.{IsWrongWord}
use Rattle.network_check.specs.Laws.{NetworksAreNotRefused}
use Rattle.fnl_source.specs.Library.{LibraryNetworksAreOne}
use Rattle.cmd_report.specs.About.{About}
use Rattle.cmd_network.specs.Answers.{BreaksJob, by_files, by_words}
use Rattle.cmd_network.specs.Commands.{Command, ConformingAreNotRefused, RefusesJob, in_files, in_words, top_of, words_of}
use Rattle.cmd_network.proofs.Words.{none_wrong}

pub conforming : NetworksAreNotRefused → LibraryNetworksAreOne → ConformingAreNotRefused
conforming law one opened library top words net misses names r tells conforms (in_files h) = law library top net misses names r tells conforms.means h
conforming law one opened library top words net misses names r tells conforms (in_words other is wrong) =
    none_wrong (opened net) words r conforms.matched
    (subst (λ n. IsWrongWord (opened n) words r) (one library top other net tells is conforms.means) wrong)

-- what a command names as the cause refuses its job
pub broken_is_refused : (opened : Opened) (cmd : Command) (r : Refusal) (about : About) → TellsAll cmd.library → BreaksJob opened cmd r about
    → (names : List (List ℕ)) × RefusesJob opened cmd.library (top_of cmd) (words_of cmd) cmd.misses names r
broken_is_refused opened cmd r _ tells (by_files names h) = (names, in_files h.why)
broken_is_refused opened cmd r _ tells (by_words names net h) =
    (names, in_words net (record { reads = h.files.reads; are_loaded = h.files.are_read.are_loaded; means = h.files.means }) h.wrong)
