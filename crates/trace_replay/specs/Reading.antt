-- How far a trace was read, and why it wasn't read on.
-- Not trusted but for `OnReadFault`, `NamesTrace` and `NamesFeed`: part of what a promise means.
use Rattle.std.specs.Prelude.{◌≡◌, ◌≢◌, ◌⊎◌, ℕ, ◌+◌, ◌≤◌, Bool, true, false, List, [], ◌++◌, length, Option, None, Some, Result, Ok, Err}
use Rattle.std.specs.List.{concat}
use Rattle.rvc_io.specs.Feeds.{Inputs}
use Rattle.port_files.specs.Coming.{coming_on}
use Rattle.trace_text.specs.Text.{line_feed}
use Rattle.trace_text.specs.declared.line.Line.{Line}
use Rattle.net_model.specs.State.{State}
use Rattle.net_model.specs.declared.wiring.Link.{Link}
use Rattle.trace_replay.specs.Feeding.{IsFeedOf, IsFeedRead}
use Rattle.trace_replay.specs.Judging.{Trial, Reached, AtEnd, AtFirst, Lead, IsNotRun, is_of_table, max_trace_bytes}
use Rattle.trace_replay.specs.Scanning.{IsWithin, Scans}
use Rattle.trace_replay.specs.declared.bytes.TheConstants.{TRACE_FEED}
use Rattle.trace_replay.specs.declared.reading.Read.{Read}
use Rattle.trace_replay.specs.declared.reading.Trace.{Trace}
use Rattle.trace_replay.specs.declared.scan.Scanned.{Scanned}
use Rattle.trace_replay.specs.declared.scan.Scanned.TheVariants.{Line as Whole, Bad, Cut, TooLong}
use Rattle.trace_replay.specs.declared.why.Why.{Why}
use Rattle.trace_replay.specs.declared.why.Why.TheVariants.{Form, Cut as CutOff, TooLong as PastLength}
use Rattle.trace_replay.specs.declared.why.ReplayFault.{ReplayFault}
use Rattle.trace_replay.specs.declared.why.ReplayFault.TheVariants.{NotRun, ReadFault, Memory}

-- Of the text n lines were read, which have led to what was reached; `passed` bytes were read, and these are to come.
pub record HasReached {X : Type 0} (t : Trial X) (text : List ℕ) (n passed : ℕ)
    (reached : Reached X) (coming : Option (List ℕ)) : Type 0 where
  pub texts : List (List ℕ)
  pub rest : List ℕ
  pub lead : Lead t AtFirst texts reached
  pub number : n ≡ length texts
  pub count : passed ≡ length (concat texts)
  pub told : coming ≡ Some rest
  pub is_text : text ≡ concat texts ++ rest

-- no more lines than bytes were read, and no more bytes than a trace may have
pub record IsCounted (n passed : ℕ) : Type 0 where
  pub lines : n ≤ passed
  pub within : passed ≤ max_trace_bytes

-- a line was read that a trace of this version may have
pub record IsRead (expected : List ℕ) (grow passed passed_new : ℕ) (before after : Option (List ℕ))
    (line : Line) (same : Bool) : Type 0 where
  pub scans : Scans expected passed passed_new before after (Whole line same)
  pub of_table : is_of_table grow line ≡ true
  pub within : passed_new ≤ max_trace_bytes

-- why what was scanned is no line that a trace of this version may have
abbrev pub IsStopBy : ℕ → Scanned → Why → Type 0
IsStopBy grow (Whole line same) why = (why ≡ Form) × (is_of_table grow line ≡ false)
IsStopBy grow Bad why = why ≡ Form
IsStopBy grow Cut why = why ≡ CutOff
IsStopBy grow TooLong why = why ≡ PastLength

abbrev pub IsStop : ℕ → ℕ → Scanned → ReplayFault → Type 0
IsStop grow number scanned (NotRun line why) = (line ≡ number) × IsStopBy grow scanned why
IsStop grow number scanned (ReadFault feed) = ⊥
IsStop grow number scanned Memory = ⊥

-- the line with this number isn't one that a trace of this version may have, or the trace couldn't be read
abbrev pub Stops : List ℕ → ℕ → ℕ → ℕ → Option (List ℕ) → Option (List ℕ) → ReplayFault → Type 0
Stops expected grow number passed before after (NotRun line why) =
    (line ≡ number) × (scanned : Scanned) × (passed_new : ℕ)
    × Scans expected passed passed_new before after scanned × IsWithin passed_new scanned × IsStopBy grow scanned why
Stops expected grow number passed before after (ReadFault feed) = feed ≡ TRACE_FEED
Stops expected grow number passed before after Memory = ⊥

-- this is so if bytes couldn't be read
abbrev pub OnReadFault : {T : Type 0} → Result T ReplayFault → Type 0 → Type 0
OnReadFault (Ok value) P = Unit {0}
OnReadFault (Err (NotRun line why)) P = Unit {0}
OnReadFault (Err (ReadFault feed)) P = P
OnReadFault (Err Memory) P = Unit {0}

-- a feed that couldn't be read is the trace's
abbrev pub NamesTrace : ReplayFault → Type 0
NamesTrace (NotRun line why) = Unit {0}
NamesTrace (ReadFault feed) = feed ≡ TRACE_FEED
NamesTrace Memory = Unit {0}

-- .. or that of a link from an input that has one
abbrev pub NamesFeed : List Link → List Bool → ReplayFault → Type 0
NamesFeed links opened (NotRun line why) = Unit {0}
NamesFeed links opened (ReadFault feed) = (feed ≡ TRACE_FEED) ⊎ IsFeedOf links opened feed
NamesFeed links opened Memory = Unit {0}

-- .. by which of the links a feed is read for
abbrev pub NamesRead : List Link → List Bool → ReplayFault → Type 0
NamesRead links read (NotRun line why) = Unit {0}
NamesRead links read (ReadFault feed) = (feed ≡ TRACE_FEED) ⊎ IsFeedRead links read feed
NamesRead links read Memory = Unit {0}

-- an answer that the text is no trace of a run is true
abbrev pub IsJudged : {X : Type 0} → Trial X → List ℕ → ReplayFault → Type 0
IsJudged t text (NotRun line why) = IsNotRun t text line why
IsJudged t text (ReadFault feed) = Unit {0}
IsJudged t text Memory = Unit {0}

-- The trace was read to its end: whole lines lead to its end line, and it is not too long.
pub record IsWhole {X : Type 0} (t : Trial X) (text : List ℕ) (end : Line) (last : State X) :
    Type 0 where
  pub texts : List (List ℕ)
  pub is_text : text ≡ concat texts
  pub lead : Lead t AtFirst texts (AtEnd end last)
  pub within : length text ≤ max_trace_bytes

-- a byte is to come, or none, if that is told
abbrev pub TellsRest : Bool → Option (List ℕ) → Type 0
TellsRest so None = Unit {0}
TellsRest true (Some rest) = rest ≢ []
TellsRest false (Some rest) = rest ≡ []

-- The same of the trace's feed.

module _ {S : Type 0} (feeds : S → Inputs) where
  -- a line was read, which is told to be `front`, `name` and a line feed or not
  abbrev pub ReadsLine : (front name : List ℕ) → Trace → S → Trace → S → Read → Type 0
  ReadsLine front name old before new after read =
      IsRead (front ++ name ++ line_feed) old.grow old.lines.passed new.lines.passed
      (coming_on old.lines.bytes (feeds before) TRACE_FEED)
      (coming_on new.lines.bytes (feeds after) TRACE_FEED) read.line read.same

  -- .. or none that a trace may have
  abbrev pub StopsAtLine : (front name : List ℕ) → Trace → S → Trace → S → ReplayFault → Type 0
  StopsAtLine front name old before new after fault =
      Stops (front ++ name ++ line_feed) old.grow (old.count + 1) old.lines.passed
      (coming_on old.lines.bytes (feeds before) TRACE_FEED)
      (coming_on new.lines.bytes (feeds after) TRACE_FEED) fault
