-- What the verb `fmt` prints, and what refuses it.
-- Trusted but for `IsPreparing` and `IsTextFault`: part of what a promise means.
use Rattle.std.specs.Prelude.{◌≡◌, ◌≤◌, ◌⊎◌, ℕ, Bool, true, List, [], ◌++◌, length}
use Rattle.rvc_base.specs.declared.refusal.Refusal.{Refusal}
use Rattle.rvc_base.specs.declared.refusal.Rule.{Rule}
use Rattle.rvc_base.specs.Rules.{file_too_long, no_file}
use Rattle.rvc_io.specs.Channels.{Channels}
use Rattle.rvc_io.specs.Count.{HasRisen}
use Rattle.rvc_io.specs.Library.{max_file_bytes, IsTooLong}
use Rattle.rvc_io.specs.Told.{Told, Holding, IsLacking}
use Rattle.rvc_words.specs.Words.{JobText, PortText}
use Rattle.cal_ast.specs.Tree.{Tree}
use Rattle.cal_print.specs.Canon.{canon}
use Rattle.cal_files.specs.FileText.{BreaksRules, IsFile, IsText}
use Rattle.cal_files.specs.Loading.{Counts, Library}
use Rattle.cmd_ports.specs.Matching.{IsWrongWord}
use Rattle.cmd_report.specs.declared.status.ReadAt.TheVariants.{File, Feed}
use Rattle.cmd_report.specs.declared.status.Status.{Status}
use Rattle.cmd_report.specs.declared.status.Status.TheVariants as status

-- the canonical text of the tree that the file spells; no words name ports
pub record IsCanonical (source : Told) (ports : List PortText) (printed : List ℕ) : Type 0 where
  pub text : List ℕ
  pub is_text : IsText source text
  pub tree : Tree
  pub is_file : IsFile text tree
  pub no_ports : ports ≡ []
  pub printed_is : printed ≡ canon tree

-- channel 0 got the canonical text and nothing else
pub record IsPrinted (source : Told) (ports : List PortText) (tells : Bool) (held_old held : List ℕ) : Type 0 where
  pub printed : List ℕ
  pub is_canonical : IsCanonical source ports printed
  pub put : tells ≡ true → held ≡ held_old ++ printed

-- the same by what is known of the channels
abbrev pub PrintsFile : Told → List PortText → Channels → Channels → Type 0
PrintsFile source ports old new = IsPrinted source ports old.tells (old.held 0) (new.held 0)

-- the file is told to hold a text that is printed
pub record HasFile (source : Told) (ports : List PortText) (tree : Tree) : Type 0 where
  pub text : List ℕ
  pub told : source ≡ Holding text
  pub short : length text ≤ max_file_bytes
  pub is_file : IsFile text tree
  pub no_ports : ports ≡ []

-- the top can't be read: there is no such file, or it passes the limit
pub data IsUnread (source : Told) (misses_old misses_new : ℕ) : Refusal → Type 0 where
  lacks : HasRisen misses_old misses_new → IsLacking source
      → IsUnread source misses_old misses_new
      (record { rule = no_file; place = record { file = 0; offset = 0 } })
  passes : IsTooLong source → IsUnread source misses_old misses_new
      (record { rule = file_too_long; place = record { file = 1; offset = max_file_bytes } })

-- the refusals of a printing: the top can't be read, its text breaks a rule, or a word names a port, of which there is none
pub data IsUnprinted (ports : List PortText) (source : Told) (misses_old misses_new : ℕ) : Refusal
    → Type 0 where
  unread : (refusal : Refusal) → IsUnread source misses_old misses_new refusal
      → IsUnprinted ports source misses_old misses_new refusal
  breaks_rules : (text : List ℕ) (rule : Rule) (at : ℕ) → IsText source text
      → BreaksRules text rule at → IsUnprinted ports source misses_old misses_new
      (record { rule = rule; place = record { file = 1; offset = at } })
  names_port : (text : List ℕ) (tree : Tree) (refusal : Refusal) → IsText source text
      → IsFile text tree → IsWrongWord [] ports refusal
      → IsUnprinted ports source misses_old misses_new refusal

-- What a call met of its library: what that tells, and how often it missed a file or failed, before the call and after.
pub record LibraryMet : Type 0 where
  pub library : Library
  pub misses : Counts
  pub faults : Counts

-- .. by what is known of it before and after
abbrev pub library_met : {L : Type 0} → (file : L → Library) → (misses faults : L → ℕ)
    → (old new : L) → LibraryMet
library_met file misses faults old new = record {
  library = file old;
  misses = record { old = misses old; new = misses new };
  faults = record { old = faults old; new = faults new };
}

-- Why a job prints nothing: its file couldn't be read, which was counted; it is refused; or memory was lacking.
abbrev pub PrintsNothing : LibraryMet → JobText → Status → Type 0
PrintsNothing met j status.Quiet = ⊥
PrintsNothing met j status.Done = ⊥
PrintsNothing met j (status.Usage cause) = ⊥
PrintsNothing met j (status.ReadFault (File file)) =
    (file ≡ 1) × HasRisen met.faults.old met.faults.new
PrintsNothing met j (status.ReadFault (Feed feed)) = ⊥
PrintsNothing met j (status.WriteFault channel) = ⊥
PrintsNothing met j (status.Refused refusal) =
    IsUnprinted j.ports (met.library j.top) met.misses.old met.misses.new refusal
PrintsNothing met j (status.Trapped inst action trap) = ⊥
PrintsNothing met j (status.Stalled inst action link) = ⊥
PrintsNothing met j (status.Budget firings) = ⊥
PrintsNothing met j status.OutOfMemory = Unit {0}
PrintsNothing met j (status.NotRun number why) = ⊥
PrintsNothing met j (status.Uncertified inst state first second reason) = ⊥

-- the answers of a printing, each fault with the count that rose
abbrev pub IsPrinting : (file_faults_old file_faults faults_old faults : ℕ) → Status → Type 0
IsPrinting lo ln fo fn status.Quiet = ⊥
IsPrinting lo ln fo fn status.Done = Unit {0}
IsPrinting lo ln fo fn (status.Usage cause) = ⊥
IsPrinting lo ln fo fn (status.ReadFault (File file)) = (file ≡ 1) × HasRisen lo ln
IsPrinting lo ln fo fn (status.ReadFault (Feed feed)) = ⊥
IsPrinting lo ln fo fn (status.WriteFault channel) = (channel ≡ 0) × HasRisen fo fn
IsPrinting lo ln fo fn (status.Refused refusal) = Unit {0}
IsPrinting lo ln fo fn (status.Trapped inst action trap) = ⊥
IsPrinting lo ln fo fn (status.Stalled inst action link) = ⊥
IsPrinting lo ln fo fn (status.Budget firings) = ⊥
IsPrinting lo ln fo fn status.OutOfMemory = Unit {0}
IsPrinting lo ln fo fn (status.NotRun number why) = ⊥
IsPrinting lo ln fo fn (status.Uncertified inst state first second reason) = ⊥

-- it did its work, or memory was lacking
abbrev pub IsDoneOrMemory : Status → Type 0
IsDoneOrMemory answer = (answer ≡ status.Done) ⊎ (answer ≡ status.OutOfMemory)

-- an answer before anything is written
abbrev pub IsPreparing : Status → Type 0
IsPreparing status.Quiet = ⊥
IsPreparing status.Done = ⊥
IsPreparing (status.Usage cause) = ⊥
IsPreparing (status.ReadFault (File file)) = file ≡ 1
IsPreparing (status.ReadFault (Feed feed)) = ⊥
IsPreparing (status.WriteFault channel) = ⊥
IsPreparing (status.Refused refusal) = Unit {0}
IsPreparing (status.Trapped inst action trap) = ⊥
IsPreparing (status.Stalled inst action link) = ⊥
IsPreparing (status.Budget firings) = ⊥
IsPreparing status.OutOfMemory = Unit {0}
IsPreparing (status.NotRun number why) = ⊥
IsPreparing (status.Uncertified inst state first second reason) = ⊥

-- .. of a text that was read
abbrev pub IsTextFault : Status → Type 0
IsTextFault status.Quiet = ⊥
IsTextFault status.Done = ⊥
IsTextFault (status.Usage cause) = ⊥
IsTextFault (status.ReadFault at) = ⊥
IsTextFault (status.WriteFault channel) = ⊥
IsTextFault (status.Refused refusal) = Unit {0}
IsTextFault (status.Trapped inst action trap) = ⊥
IsTextFault (status.Stalled inst action link) = ⊥
IsTextFault (status.Budget firings) = ⊥
IsTextFault status.OutOfMemory = Unit {0}
IsTextFault (status.NotRun number why) = ⊥
IsTextFault (status.Uncertified inst state first second reason) = ⊥
