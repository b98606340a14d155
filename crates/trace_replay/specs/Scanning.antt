-- What is read of a trace: one line, or why none.
-- Not trusted: no promise is read with it.
use Rattle.std.specs.Prelude.{◌≡◌, ℕ, ◌+◌, ◌≤◌, Bool, true, false, List, [], ◌∷◌, ◌++◌, length, Option, None, Some}
use Rattle.rvc_io.specs.Feeds.{Inputs}
use Rattle.trace_text.specs.Text.{line_feed}
use Rattle.trace_text.specs.Spelling.{Spells, Begins, IsFront}
use Rattle.port_files.specs.Coming.{NothingLeft, coming_on}
use Rattle.trace_replay.specs.Coming.{Passes, GivesByte}
use Rattle.trace_replay.specs.Judging.{max_trace_bytes}
use Rattle.trace_replay.specs.declared.bytes.TheConstants.{TRACE_FEED}
use Rattle.trace_replay.specs.declared.scan.Scanned.{Scanned}
use Rattle.trace_replay.specs.declared.scan.TraceLines.{TraceLines}
use Rattle.trace_replay.specs.declared.scan.Scanned.TheVariants.{Line as Whole, Bad, Cut, TooLong}

-- the text is this one
abbrev pub Tells : Bool → Type 0 → Type 0
Tells true P = P
Tells false P = P → ⊥

-- the text begins the one that is expected
abbrev pub IsFrontOf : List ℕ → List ℕ → Type 0
IsFrontOf expected text = (rest : List ℕ) × (expected ≡ text ++ rest)

-- This text was read, and it is a line, whose text was expected or not; it begins no line with its last byte; it begins one, is none,
-- and the trace ends; or the same, and the trace goes on past its greatest length.
abbrev pub IsScanned : List ℕ → List ℕ → ℕ → Option (List ℕ) → Scanned → Type 0
IsScanned expected text passed after (Whole line same) = Spells line text × Tells same (text ≡ expected)
IsScanned expected text passed after Bad = (front : List ℕ) × (byte : ℕ)
    × (text ≡ front ++ byte ∷ []) × IsFront front
    × (Begins (front ++ byte ∷ []) → ⊥)
IsScanned expected text passed after Cut = IsFront text × NothingLeft after
IsScanned expected text passed after TooLong = (front : List ℕ) × (byte : ℕ)
    × (text ≡ front ++ byte ∷ []) × IsFront front
    × (passed + length front ≡ max_trace_bytes)

-- `passed` and `passed_new` count the bytes of the trace that were read before and after
pub record Scans (expected : List ℕ) (passed passed_new : ℕ) (before after : Option (List ℕ))
    (scanned : Scanned) : Type 0 where
  pub text : List ℕ
  pub passes : Passes text before after
  pub is_scanned : IsScanned expected text passed after scanned
  pub count : passed_new ≡ passed + length text

-- unless the trace is too long, no more was read than a trace may have
abbrev pub IsWithin : ℕ → Scanned → Type 0
IsWithin passed TooLong = Unit {0}
IsWithin passed scanned = passed ≤ max_trace_bytes

-- at the greatest length of a trace: it ends there, or goes on by a byte at least
abbrev pub IsPast : ℕ → ℕ → Option (List ℕ) → Option (List ℕ) → Scanned → Type 0
IsPast passed passed_new before after Cut = GivesByte None before after × (passed_new ≡ passed)
IsPast passed passed_new before after TooLong = (byte : ℕ) × GivesByte (Some byte) before after
    × (passed_new ≡ passed + 1)
IsPast passed passed_new before after scanned = ⊥

-- The same of the trace's feed, and of a text that is expected to be `front`, `name` and a line feed.

module _ {S : Type 0} (feeds : S → Inputs) where
  abbrev pub ScansLine : (front name : List ℕ) → TraceLines → S → TraceLines → S → Scanned → Type 0
  ScansLine front name old before new after scanned =
      Scans (front ++ name ++ line_feed) old.passed new.passed
      (coming_on old.bytes (feeds before) TRACE_FEED) (coming_on new.bytes (feeds after) TRACE_FEED)
      scanned

  abbrev pub ScansPast : TraceLines → S → TraceLines → S → Scanned → Type 0
  ScansPast old before new after scanned =
      IsPast old.passed new.passed (coming_on old.bytes (feeds before) TRACE_FEED)
      (coming_on new.bytes (feeds after) TRACE_FEED) scanned

-- whether a text of so many bytes is expected so far is told, and whether it is with a byte more
abbrev pub TellsFront : (front name : List ℕ) → Bool → ℕ → ℕ → Bool → Type 0
TellsFront front name same at byte still = (text : List ℕ) → length text ≡ at
    → Tells same (IsFrontOf (front ++ name ++ line_feed) text)
    → Tells still (IsFrontOf (front ++ name ++ line_feed) (text ++ byte ∷ []))

-- .. and whether it is all that is expected
abbrev pub TellsWhole : (front name : List ℕ) → Bool → ℕ → Bool → Type 0
TellsWhole front name same count whole = (text : List ℕ) → length text ≡ count
    → Tells same (IsFrontOf (front ++ name ++ line_feed) text)
    → Tells whole (text ≡ front ++ name ++ line_feed)
