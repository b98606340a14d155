-- What a command's answer says, by what it came to.
use Rattle.std.proofs.Common.{◌≡◌, ℕ, false, List, None, ap, subst, ◌∙◌}
use Rattle.rvc_base.specs.declared.refusal.Refusal.{Refusal}
use Rattle.rvc_io.specs.Feeds.{Inputs}
use Rattle.rvc_io.specs.Channels.{Appends, WritesOnlyAt}
use Rattle.cal_files.specs.Loading.{Counts, TellsAll}
use Rattle.cal_model.specs.Selection.{State}
use Rattle.cmd_network.specs.Conforming.{ConformsWith, OneConforms, no_ports}
use Rattle.net_model.specs.Network.{Network}
use Rattle.cmd_report.specs.About.{About}
use Rattle.cmd_report.specs.Report.{report, size_lines}
use Rattle.cmd_report.specs.declared.status.ReadAt.TheVariants.{File, Feed}
use Rattle.cmd_report.specs.declared.status.Status.{Status}
use Rattle.cmd_report.specs.declared.status.Status.TheVariants as status
use Rattle.cmd_network.specs.Answers.{IsAnswered, is_reported, is_unreported}
use Rattle.cmd_network.specs.Commands.{Command, ConformingAreNotRefused, OpenedNothing, RefusesJob, top_of, words_of}
use Rattle.cmd_network.proofs.Refused.{broken_is_refused}
use Rattle.cmd_check.specs.Ends.{Comes, Conformed, IsDoneOrOutside, network_report}

-- feeds of which nothing is told
abbrev pub no_feeds : Inputs
no_feeds = record { under = λ name. None; left = λ feed. None; is_open = λ feed. false; faults = 0 }

-- ---- what stays

nothing_opened : (cmd : Command) (lines : List ℕ) (about : About) (said : Status) → Comes cmd said lines about → OpenedNothing cmd
nothing_opened cmd lines about status.Done h = h.1
nothing_opened cmd lines about (status.Refused r) h = h.1
nothing_opened cmd lines about (status.ReadFault (File file)) h = h.1
nothing_opened cmd lines about (status.ReadFault (Feed feed)) h = absurd h
nothing_opened cmd lines about status.OutOfMemory h = h
nothing_opened cmd lines about (status.WriteFault channel) h = absurd h
nothing_opened cmd lines about status.Quiet h = absurd h
nothing_opened cmd lines about (status.Trapped inst action trap) h = absurd h
nothing_opened cmd lines about (status.Stalled inst action link) h = absurd h
nothing_opened cmd lines about (status.Budget firings) h = absurd h
nothing_opened cmd lines about (status.Usage cause) h = absurd h
nothing_opened cmd lines about (status.NotRun number why) h = absurd h
nothing_opened cmd lines about (status.Uncertified inst state first second reason) h = absurd h

pub only_report : (cmd : Command) (answer : Status) → IsAnswered Comes cmd answer → WritesOnlyAt 0 cmd.channels cmd.channels_after
only_report cmd _ (is_reported {said = said} lines about comes put) = (nothing_opened cmd lines about said comes).only_report
only_report cmd _ (is_unreported said lines about comes put risen) = (nothing_opened cmd lines about said comes).only_report

-- ---- what a library that tells of each name decides

not_done : (cmd : Command) (lines : List ℕ) (about : About) → ConformingAreNotRefused
    → (misses : Counts) (names : List (List ℕ)) (r : Refusal) → TellsAll cmd.library → RefusesJob no_ports cmd.library (top_of cmd) (words_of cmd) misses names r
    → Conformed cmd lines about → ⊥
not_done cmd lines about law misses names r tells refuses d =
    law no_ports cmd.library (top_of cmd) (words_of cmd) d.net misses names r tells d.is_of_command.conforms refuses

pub incomplete : (cmd : Command) (answer : Status) → IsAnswered Comes cmd answer → ConformingAreNotRefused
    → (misses : Counts) (names : List (List ℕ)) (r : Refusal) → TellsAll cmd.library → RefusesJob no_ports cmd.library (top_of cmd) (words_of cmd) misses names r
    → answer ≡ status.Done → ⊥
incomplete cmd answer (is_reported lines about comes put) law misses names r tells refuses e =
    not_done cmd lines about law misses names r tells refuses (subst (λ s. Comes cmd s lines about) e comes).0
incomplete cmd answer (is_unreported said lines about comes put risen) law misses names r tells refuses e = cc

done_text : (cmd : Command) (net : Network State) (lines : List ℕ) (about : About) → (d : Conformed cmd lines about) → d.net ≡ net → report lines about status.Done ≡ network_report net
done_text cmd net lines about d same =
    ap (λ ls. report ls about status.Done) d.lines_are
    ∙ ap (λ a. report (size_lines a) a status.Done) d.about_is
    ∙ ap network_report same

complete_end : (cmd : Command) (lines : List ℕ) (about : About) (net : Network State)
    → ConformingAreNotRefused → OneConforms → TellsAll cmd.library → ConformsWith no_ports cmd.library (top_of cmd) (words_of cmd) net
    → (said : Status) → Comes cmd said lines about → Appends 0 cmd.channels cmd.channels_after (report lines about said)
    → IsDoneOrOutside cmd.channels cmd.channels_after net said
complete_end cmd lines about net law same tells conforms status.Done h put =
    subst (Appends 0 cmd.channels cmd.channels_after)
    (done_text cmd net lines about h.0 (same no_ports cmd.library (top_of cmd) (words_of cmd) h.0.net net tells h.0.is_of_command.conforms conforms)) put
complete_end cmd lines about net law same tells conforms (status.Refused r) h put =
    let why = broken_is_refused no_ports cmd r about tells h.0 in
    law no_ports cmd.library (top_of cmd) (words_of cmd) net cmd.misses why.0 r tells conforms why.1
complete_end cmd lines about net law same tells conforms (status.ReadFault at) h put = tt
complete_end cmd lines about net law same tells conforms status.OutOfMemory h put = tt
complete_end cmd lines about net law same tells conforms (status.WriteFault channel) h put = tt
complete_end cmd lines about net law same tells conforms status.Quiet h put = h
complete_end cmd lines about net law same tells conforms (status.Trapped inst action trap) h put = h
complete_end cmd lines about net law same tells conforms (status.Stalled inst action link) h put = h
complete_end cmd lines about net law same tells conforms (status.Budget firings) h put = h
complete_end cmd lines about net law same tells conforms (status.Usage cause) h put = h
complete_end cmd lines about net law same tells conforms (status.NotRun number why) h put = h
complete_end cmd lines about net law same tells conforms (status.Uncertified inst state first second reason) h put = h

pub complete : (cmd : Command) (answer : Status) → IsAnswered Comes cmd answer → ConformingAreNotRefused → OneConforms
    → (net : Network State) → TellsAll cmd.library → ConformsWith no_ports cmd.library (top_of cmd) (words_of cmd) net → IsDoneOrOutside cmd.channels cmd.channels_after net answer
complete cmd _ (is_reported {said = said} lines about comes put) law same net tells conforms = complete_end cmd lines about net law same tells conforms said comes put
complete cmd _ (is_unreported said lines about comes put risen) law same net tells conforms = tt
