-- To what a command comes that certifies the actors of a job, and what it reports: a case for each status.
-- Trusted: part of what a promise means.
use Rattle.std.specs.Prelude.{◌≡◌, ◌+◌, ℕ, List, [], ◌∷◌, take, slice_get, Some}
use Rattle.cal_model.specs.Actor.{Actor}
use Rattle.cal_model.specs.Certified.{IsCertified}
use Rattle.cal_model.specs.Selection.{Priorities, State}
use Rattle.cal_model.specs.Sound.{Each}
use Rattle.cmd_network.specs.Conforming.{no_ports}
use Rattle.determinacy_cert.specs.Failing.{failures, first}
use Rattle.determinacy_cert.specs.declared.fault.Reason.{Reason}
use Rattle.net_model.specs.Network.{Network}
use Rattle.cmd_report.specs.About.{About}
use Rattle.cmd_report.specs.Report.{certified_line}
use Rattle.cmd_report.specs.declared.status.ReadAt.TheVariants.{File, Feed}
use Rattle.cmd_report.specs.declared.status.Status.{Status}
use Rattle.cmd_report.specs.declared.status.Status.TheVariants as status
use Rattle.cmd_network.specs.Answers.{BreaksJob, FileUnread}
use Rattle.cmd_network.specs.Commands.{Command, IsOfCommand, OpenedNothing}

-- ---- which actors are certified

-- so many of these actors are certified, and the others aren't
pub data SoManyCertified : List Actor → ℕ → Type 0 where
  no_actor : SoManyCertified [] 0
  one_more : (actor : Actor) (actors : List Actor) (count : ℕ) → IsCertified actor
      → SoManyCertified actors count → SoManyCertified (actor ∷ actors) (count + 1)
  not_one : (actor : Actor) (actors : List Actor) (count : ℕ) → (IsCertified actor → ⊥)
      → SoManyCertified actors count → SoManyCertified (actor ∷ actors) count

-- The actors before this place are certified, and the one there isn't. The certification rule fails for it first in this
-- state, for these actions and for this reason.
pub record FailsFirst (actors : List Actor) (place state a b : ℕ) (reason : Reason) : Type 0 where
  pub before : Each IsCertified (take place actors)
  pub actor : Actor
  pub is_there : slice_get actors place ≡ Some actor
  pub uncertified : IsCertified actor → ⊥
  pub failure : (p : Priorities actor) → first (failures actor p.above)
      ≡ Some (record { state = state; a = a; b = b; reason = reason })

-- ---- what a command comes to

-- The files conform, and there is no port word, since no port is opened. The report has how many of the actors at the
-- leaves are certified.
pub record Judged (cmd : Command) (lines : List ℕ) : Type 0 where
  pub net : Network State
  pub is_of_command : IsOfCommand no_ports cmd net
  pub count : ℕ
  pub counted : SoManyCertified is_of_command.files.means.actors count
  pub lines_are : lines ≡ certified_line count

-- the actors at the leaves of the network of a command
abbrev pub actors_of : {cmd : Command} {lines : List ℕ} → Judged cmd lines → List Actor
actors_of judged = judged.is_of_command.files.means.actors

-- .. and each is certified
pub record AllCertified (cmd : Command) (lines : List ℕ) : Type 0 where
  pub judged : Judged cmd lines
  pub each : Each IsCertified (actors_of judged)

-- .. or one isn't, the lowest of which stands at this leaf
pub record OneUncertified (cmd : Command) (lines : List ℕ) (inst state a b : ℕ) (reason : Reason) : Type 0 where
  pub judged : Judged cmd lines
  pub fails : FailsFirst (actors_of judged) inst state a b reason

-- ---- each status

-- What a command has come to, but for its report: with these lines of the verb, and speaking of this. It opened nothing,
-- and never ends by another status.
abbrev pub Comes : Command → Status → (lines : List ℕ) → About → Type 0
Comes cmd status.Done lines about = AllCertified cmd lines × OpenedNothing cmd
Comes cmd (status.Uncertified inst state a b reason) lines about =
    OneUncertified cmd lines inst.0 state a.0 b.0 reason × OpenedNothing cmd
Comes cmd (status.Refused r) lines about = BreaksJob no_ports cmd r about × OpenedNothing cmd
Comes cmd (status.ReadFault (File file)) lines about =
    FileUnread cmd file about × OpenedNothing cmd
Comes cmd (status.ReadFault (Feed feed)) lines about = ⊥
Comes cmd status.OutOfMemory lines about = OpenedNothing cmd
Comes cmd (status.WriteFault channel) lines about = ⊥
Comes cmd status.Quiet lines about = ⊥
Comes cmd (status.Trapped inst action trap) lines about = ⊥
Comes cmd (status.Stalled inst action link) lines about = ⊥
Comes cmd (status.Budget firings) lines about = ⊥
Comes cmd (status.Usage cause) lines about = ⊥
Comes cmd (status.NotRun number why) lines about = ⊥

-- ---- completeness

-- The files conform to a network of these actors, and there is no port word: the answer is that each is certified, or the
-- lowest that isn't; but memory may run out, or reading or writing fail.
abbrev pub IsDecided : List Actor → Status → Type 0
IsDecided actors status.Done = Each IsCertified actors
IsDecided actors (status.Uncertified inst state a b reason) =
    FailsFirst actors inst.0 state a.0 b.0 reason
IsDecided actors status.OutOfMemory = Unit {0}
IsDecided actors (status.ReadFault at) = Unit {0}
IsDecided actors (status.WriteFault channel) = Unit {0}
IsDecided actors (status.Refused r) = ⊥
IsDecided actors status.Quiet = ⊥
IsDecided actors (status.Trapped inst action trap) = ⊥
IsDecided actors (status.Stalled inst action link) = ⊥
IsDecided actors (status.Budget firings) = ⊥
IsDecided actors (status.Usage cause) = ⊥
IsDecided actors (status.NotRun number why) = ⊥

-- this isn't the answer of a job that conforms
abbrev pub IsUndecided : Status → Type 0
IsUndecided status.Done = ⊥
IsUndecided (status.Uncertified inst state a b reason) = ⊥
IsUndecided status.OutOfMemory = Unit {0}
IsUndecided (status.ReadFault at) = Unit {0}
IsUndecided (status.WriteFault channel) = Unit {0}
IsUndecided (status.Refused r) = Unit {0}
IsUndecided status.Quiet = Unit {0}
IsUndecided (status.Trapped inst action trap) = Unit {0}
IsUndecided (status.Stalled inst action link) = Unit {0}
IsUndecided (status.Budget firings) = Unit {0}
IsUndecided (status.Usage cause) = Unit {0}
IsUndecided (status.NotRun number why) = Unit {0}
