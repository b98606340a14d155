-- To what a command comes that checks a job, and what it reports: a case for each status.
-- Trusted: part of what a promise means.
use Rattle.std.specs.Prelude.{◌≡◌, ℕ, List, [], ◌∷◌, ◌++◌, codes, decimal, length}
use Rattle.rvc_io.specs.Channels.{Appends, Channels}
use Rattle.cal_model.specs.Selection.{State}
use Rattle.net_model.specs.Network.{Network}
use Rattle.cmd_network.specs.Conforming.{no_ports}
use Rattle.cmd_report.specs.About.{About}
use Rattle.cmd_report.specs.Line.{line}
use Rattle.cmd_report.specs.Report.{size_lines}
use Rattle.cmd_report.specs.declared.status.ReadAt.TheVariants.{File, Feed}
use Rattle.cmd_report.specs.declared.status.Status.{Status}
use Rattle.cmd_report.specs.declared.status.Status.TheVariants as status
use Rattle.cmd_network.specs.Answers.{BreaksJob, FileUnread}
use Rattle.cmd_network.specs.Commands.{Command, IsOfCommand, OpenedNothing, about_net}

-- ---- what it comes to

-- The files conform, and there is no port word, since no port is opened. The report has the numbers of their network.
pub record Conformed (cmd : Command) (lines : List ℕ) (about : About) : Type 0 where
  pub net : Network State
  pub is_of_command : IsOfCommand no_ports cmd net
  pub about_is : about ≡ about_net cmd is_of_command.files.names net
  pub lines_are : lines ≡ size_lines about

-- What a command has come to, but for its report: with these lines of the verb, and speaking of this. It opened nothing,
-- and never ends by another status.
abbrev pub Comes : Command → Status → (lines : List ℕ) → About → Type 0
Comes cmd status.Done lines about = Conformed cmd lines about × OpenedNothing cmd
Comes cmd (status.Refused r) lines about = BreaksJob no_ports cmd r about × OpenedNothing cmd
Comes cmd (status.ReadFault (File file)) lines about =
    FileUnread cmd file about × OpenedNothing cmd
Comes cmd (status.ReadFault (Feed feed)) lines about = ⊥
Comes cmd status.OutOfMemory lines about = OpenedNothing cmd
Comes cmd (status.WriteFault channel) lines about = ⊥
Comes cmd status.Quiet lines about = ⊥
Comes cmd (status.Trapped inst action trap) lines about = ⊥
Comes cmd (status.Stalled inst action link) lines about = ⊥
Comes cmd (status.Budget firings) lines about = ⊥
Comes cmd (status.Usage cause) lines about = ⊥
Comes cmd (status.NotRun number why) lines about = ⊥
Comes cmd (status.Uncertified inst state first second reason) lines about = ⊥

-- ---- completeness

-- the report of a network that was checked: its numbers of instances and of links, and that it conforms
abbrev pub network_report : Network State → List ℕ
network_report net =
    line (codes "instances") (decimal (length net.leaves) ∷ [])
    ++ line (codes "links") (decimal (length net.links) ∷ [])
    ++ line (codes "done") []

-- The files conform to this network, and there is no port word: the answer is that they do, with the report of this
-- network; but memory may run out, or reading or writing fail.
abbrev pub IsDoneOrOutside : (old new : Channels) → Network State → Status → Type 0
IsDoneOrOutside old new net status.Done =
    Appends 0 old new (network_report net)
IsDoneOrOutside old new net status.OutOfMemory = Unit {0}
IsDoneOrOutside old new net (status.ReadFault at) = Unit {0}
IsDoneOrOutside old new net (status.WriteFault channel) = Unit {0}
IsDoneOrOutside old new net (status.Refused r) = ⊥
IsDoneOrOutside old new net status.Quiet = ⊥
IsDoneOrOutside old new net (status.Trapped inst action trap) = ⊥
IsDoneOrOutside old new net (status.Stalled inst action link) = ⊥
IsDoneOrOutside old new net (status.Budget firings) = ⊥
IsDoneOrOutside old new net (status.Usage cause) = ⊥
IsDoneOrOutside old new net (status.NotRun number why) = ⊥
IsDoneOrOutside old new net (status.Uncertified inst state first second reason) = ⊥
