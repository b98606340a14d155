-- What a command's answer says, by what it came to.
use Rattle.std.proofs.Common.{◌≡◌, ℕ, false, List, None, subst}
use Rattle.rvc_base.specs.declared.refusal.Refusal.{Refusal}
use Rattle.rvc_io.specs.Feeds.{Inputs}
use Rattle.rvc_io.specs.Channels.{WritesOnlyAt}
use Rattle.cal_files.specs.Loading.{Counts, TellsAll}
use Rattle.cal_model.specs.Certified.{IsCertified}
use Rattle.cal_model.specs.Selection.{State}
use Rattle.cal_model.specs.Sound.{Each}
use Rattle.cmd_network.specs.Conforming.{ConformsWith, no_ports}
use Rattle.net_model.specs.Network.{Network}
use Rattle.cmd_report.specs.About.{About}
use Rattle.cmd_report.specs.declared.status.ReadAt.TheVariants.{File, Feed}
use Rattle.cmd_report.specs.declared.status.Status.{Status}
use Rattle.cmd_report.specs.declared.status.Status.TheVariants as status
use Rattle.fnl_source.specs.Files.{Read, class_asked, files_of}
use Rattle.fnl_source.specs.Laws.{ActorsAreOne}
use Rattle.fnl_source.specs.Library.{FilesAreOne}
use Rattle.fnl_source.specs.Source.{IsSourceNetwork}
use Rattle.cmd_network.specs.Answers.{IsAnswered, is_reported, is_unreported}
use Rattle.cmd_network.specs.Commands.{Command, ConformingAreNotRefused, IsOfCommand, OpenedNothing, RefusesJob, top_of, words_of}
use Rattle.cmd_network.proofs.Refused.{broken_is_refused}
use Rattle.cmd_certify.specs.Ends.{Comes, FailsFirst, IsDecided, IsUndecided, Judged}
use Rattle.cmd_certify.proofs.OneActors.{same_actors}

-- feeds of which nothing is told
abbrev pub no_feeds : Inputs
no_feeds = record { under = λ name. None; left = λ feed. None; is_open = λ feed. false; faults = 0 }

-- ---- what stays

nothing_opened : (cmd : Command) (lines : List ℕ) (about : About) (said : Status) → Comes cmd said lines about → OpenedNothing cmd
nothing_opened cmd lines about status.Done h = h.1
nothing_opened cmd lines about (status.Uncertified inst state first second reason) h = h.1
nothing_opened cmd lines about (status.Refused r) h = h.1
nothing_opened cmd lines about (status.ReadFault (File file)) h = h.1
nothing_opened cmd lines about (status.ReadFault (Feed feed)) h = absurd h
nothing_opened cmd lines about status.OutOfMemory h = h
nothing_opened cmd lines about (status.WriteFault channel) h = absurd h
nothing_opened cmd lines about status.Quiet h = absurd h
nothing_opened cmd lines about (status.Trapped inst action trap) h = absurd h
nothing_opened cmd lines about (status.Stalled inst action link) h = absurd h
nothing_opened cmd lines about (status.Budget firings) h = absurd h
nothing_opened cmd lines about (status.Usage cause) h = absurd h
nothing_opened cmd lines about (status.NotRun number why) h = absurd h

pub only_report : (cmd : Command) (answer : Status) → IsAnswered Comes cmd answer → WritesOnlyAt 0 cmd.channels cmd.channels_after
only_report cmd _ (is_reported {said = said} lines about comes put) = (nothing_opened cmd lines about said comes).only_report
only_report cmd _ (is_unreported said lines about comes put risen) = (nothing_opened cmd lines about said comes).only_report

-- ---- what a library that tells of each name decides

-- the command judged the actors of what conforms
same_judged : (cmd : Command) (net : Network State) → FilesAreOne → ActorsAreOne → TellsAll cmd.library
    → (conforms : ConformsWith no_ports cmd.library (top_of cmd) (words_of cmd) net)
    → (other : Network State) (is : IsOfCommand no_ports cmd other) → is.files.means.actors ≡ conforms.means.means.actors
same_judged cmd net files one tells conforms other is =
    go is.files.reads conforms.means.reads (files cmd.library (top_of cmd) is.files.reads conforms.means.reads tells is.files.are_read.are_loaded conforms.means.are_loaded)
    is.files.means conforms.means.means
  where
    go : (reads others : List Read) → reads ≡ others → (a : IsSourceNetwork (files_of reads) (class_asked (top_of cmd)) other)
        → (b : IsSourceNetwork (files_of others) (class_asked (top_of cmd)) net) → a.actors ≡ b.actors
    go reads others same =
        subst (λ rs. (a : IsSourceNetwork (files_of reads) (class_asked (top_of cmd)) other) → (b : IsSourceNetwork (files_of rs) (class_asked (top_of cmd)) net) → a.actors ≡ b.actors) same
        (same_actors one (files_of reads) (class_asked (top_of cmd)) other net)

decided_end : (cmd : Command) (lines : List ℕ) (about : About) (net : Network State)
    → ConformingAreNotRefused → FilesAreOne → ActorsAreOne → TellsAll cmd.library → (conforms : ConformsWith no_ports cmd.library (top_of cmd) (words_of cmd) net)
    → (said : Status) → Comes cmd said lines about → IsDecided conforms.means.means.actors said
decided_end cmd lines about net law files actors tells conforms status.Done h =
    subst (Each IsCertified) (same_judged cmd net files actors tells conforms h.0.judged.net h.0.judged.is_of_command) h.0.each
decided_end cmd lines about net law files actors tells conforms (status.Uncertified inst state a b reason) h =
    subst (λ those. FailsFirst those inst.0 state a.0 b.0 reason) (same_judged cmd net files actors tells conforms h.0.judged.net h.0.judged.is_of_command) h.0.fails
decided_end cmd lines about net law files actors tells conforms (status.Refused r) h =
    let why = broken_is_refused no_ports cmd r about tells h.0 in
    law no_ports cmd.library (top_of cmd) (words_of cmd) net cmd.misses why.0 r tells conforms why.1
decided_end cmd lines about net law files actors tells conforms (status.ReadFault at) h = tt
decided_end cmd lines about net law files actors tells conforms status.OutOfMemory h = tt
decided_end cmd lines about net law files actors tells conforms (status.WriteFault channel) h = tt
decided_end cmd lines about net law files actors tells conforms status.Quiet h = h
decided_end cmd lines about net law files actors tells conforms (status.Trapped inst action trap) h = h
decided_end cmd lines about net law files actors tells conforms (status.Stalled inst action link) h = h
decided_end cmd lines about net law files actors tells conforms (status.Budget firings) h = h
decided_end cmd lines about net law files actors tells conforms (status.Usage cause) h = h
decided_end cmd lines about net law files actors tells conforms (status.NotRun number why) h = h

pub complete : (cmd : Command) (answer : Status) → IsAnswered Comes cmd answer → ConformingAreNotRefused → FilesAreOne → ActorsAreOne
    → (net : Network State) → TellsAll cmd.library → (conforms : ConformsWith no_ports cmd.library (top_of cmd) (words_of cmd) net) → IsDecided conforms.means.means.actors answer
complete cmd _ (is_reported {said = said} lines about comes put) law files actors net tells conforms = decided_end cmd lines about net law files actors tells conforms said comes
complete cmd _ (is_unreported said lines about comes put risen) law files actors net tells conforms = tt

not_judged : (cmd : Command) (lines : List ℕ) → ConformingAreNotRefused
    → (misses : Counts) (names : List (List ℕ)) (r : Refusal) → TellsAll cmd.library → RefusesJob no_ports cmd.library (top_of cmd) (words_of cmd) misses names r
    → Judged cmd lines → ⊥
not_judged cmd lines law misses names r tells refuses judged =
    law no_ports cmd.library (top_of cmd) (words_of cmd) judged.net misses names r tells judged.is_of_command.conforms refuses

undecided_end : (cmd : Command) (lines : List ℕ) (about : About) → ConformingAreNotRefused
    → (misses : Counts) (names : List (List ℕ)) (r : Refusal) → TellsAll cmd.library → RefusesJob no_ports cmd.library (top_of cmd) (words_of cmd) misses names r
    → (said : Status) → Comes cmd said lines about → IsUndecided said
undecided_end cmd lines about law misses names r tells refuses status.Done h = not_judged cmd lines law misses names r tells refuses h.0.judged
undecided_end cmd lines about law misses names r tells refuses (status.Uncertified inst state a b reason) h = not_judged cmd lines law misses names r tells refuses h.0.judged
undecided_end cmd lines about law misses names r tells refuses (status.Refused why) h = tt
undecided_end cmd lines about law misses names r tells refuses (status.ReadFault at) h = tt
undecided_end cmd lines about law misses names r tells refuses status.OutOfMemory h = tt
undecided_end cmd lines about law misses names r tells refuses (status.WriteFault channel) h = tt
undecided_end cmd lines about law misses names r tells refuses status.Quiet h = tt
undecided_end cmd lines about law misses names r tells refuses (status.Trapped inst action trap) h = tt
undecided_end cmd lines about law misses names r tells refuses (status.Stalled inst action link) h = tt
undecided_end cmd lines about law misses names r tells refuses (status.Budget firings) h = tt
undecided_end cmd lines about law misses names r tells refuses (status.Usage cause) h = tt
undecided_end cmd lines about law misses names r tells refuses (status.NotRun number why) h = tt

pub incomplete : (cmd : Command) (answer : Status) → IsAnswered Comes cmd answer → ConformingAreNotRefused
    → (misses : Counts) (names : List (List ℕ)) (r : Refusal) → TellsAll cmd.library → RefusesJob no_ports cmd.library (top_of cmd) (words_of cmd) misses names r → IsUndecided answer
incomplete cmd _ (is_reported {said = said} lines about comes put) law misses names r tells refuses = undecided_end cmd lines about law misses names r tells refuses said comes
incomplete cmd _ (is_unreported said lines about comes put risen) law misses names r tells refuses = tt
