-- The first lines of a trace.
-- Trusted for `name_of` alone: part of what a promise means.
use Rattle.std.specs.Prelude.{◌≡◌, ℕ, ◌+◌, List, ◌++◌, map, codes, String, string_bytes}
use Rattle.std.specs.declared.alloc.Global.{Global as Heap}
use Rattle.std.specs.List.{concat}
use Rattle.rvc_io.specs.Feeds.{Inputs}
use Rattle.port_files.specs.Coming.{coming_on}
use Rattle.net_model.specs.Network.{Leaf}
use Rattle.net_model.specs.State.{State}
use Rattle.trace_text.specs.declared.line.Line.{Line}
use Rattle.trace_replay.specs.Judging.{Trial, Reached, AtEnd, AtEvents, AtFirst, AtInstance, due, first_line}
use Rattle.trace_replay.specs.Reading.{HasReached, IsJudged, IsWhole}
use Rattle.trace_replay.specs.declared.bytes.TheConstants.{TRACE_FEED}
use Rattle.trace_replay.specs.declared.reading.Trace.{Trace}
use Rattle.trace_replay.specs.declared.why.ReplayFault.{ReplayFault}

-- the text of an instance's line behind its number
abbrev pub name_of : {X : Type 0} → Leaf X → List ℕ
name_of leaf = leaf.path ++ codes " " ++ leaf.class

-- a trial begins with this first line and instances of these names
pub record IsHeadOf {X : Type 0} (t : Trial X) (grow : ℕ) (first : Line) (names : List (List ℕ)) :
    Type 0 where
  pub grow_is : t.grow ≡ grow
  pub first_is : first ≡ first_line t
  pub names_are : map name_of t.net.leaves ≡ names

-- what was read of the text has led to what was reached
abbrev pub StandsAt : {X : Type 0} → Trial X → List ℕ → Trace → Inputs → Reached X → Type 0
StandsAt t text trace feeds reached =
    HasReached t text trace.count trace.lines.passed reached
    (coming_on trace.lines.bytes feeds TRACE_FEED)

-- The first line was read, which is this one.

abbrev pub PassesFirst : (X : Type 0) → Line → Trace → Inputs → Trace → Inputs → Type 0
PassesFirst X first old before new after = (t : Trial X) (text : List ℕ) → t.grow ≡ old.grow
    → first ≡ first_line t → StandsAt t text old before AtFirst
    → StandsAt t text new after (due 0 t.net.leaves t.start)

abbrev pub JudgesFirst : (X : Type 0) → Line → Trace → Inputs → ReplayFault → Type 0
JudgesFirst X first old before fault = (t : Trial X) (text : List ℕ) → t.grow ≡ old.grow
    → first ≡ first_line t → StandsAt t text old before AtFirst → IsJudged t text fault

-- The line of instance k was read, which has this name.

abbrev pub PassesInstance : (X : Type 0) → ℕ → List ℕ → Trace → Inputs → Trace → Inputs → Type 0
PassesInstance X k name old before new after = (t : Trial X) (text : List ℕ) (leaf : Leaf X)
    (leaves : List (Leaf X)) → t.grow ≡ old.grow → name_of leaf ≡ name
    → StandsAt t text old before (AtInstance k leaf leaves)
    → StandsAt t text new after (due (k + 1) leaves t.start)

abbrev pub JudgesInstance : (X : Type 0) → ℕ → List ℕ → Trace → Inputs → ReplayFault → Type 0
JudgesInstance X k name old before fault = (t : Trial X) (text : List ℕ) (leaf : Leaf X)
    (leaves : List (Leaf X)) → t.grow ≡ old.grow → name_of leaf ≡ name
    → StandsAt t text old before (AtInstance k leaf leaves) → IsJudged t text fault

-- The lines of all instances were read, which have these names.

abbrev pub PassesNames : (X : Type 0) → List (List ℕ) → Trace → Inputs → Trace → Inputs → Type 0
PassesNames X names old before new after = (t : Trial X) (text : List ℕ) → t.grow ≡ old.grow
    → map name_of t.net.leaves ≡ names → StandsAt t text old before (due 0 t.net.leaves t.start)
    → StandsAt t text new after (AtEvents t.start t.start)

abbrev pub JudgesNames : (X : Type 0) → List (List ℕ) → Trace → Inputs → ReplayFault → Type 0
JudgesNames X names old before fault = (t : Trial X) (text : List ℕ) → t.grow ≡ old.grow
    → map name_of t.net.leaves ≡ names → StandsAt t text old before (due 0 t.net.leaves t.start)
    → IsJudged t text fault

-- All that stands before the first event was read.

abbrev pub PassesHead : (X : Type 0) → Line → List (List ℕ) → Trace → Inputs → Trace → Inputs → Type 0
PassesHead X first names old before new after = (t : Trial X) (text : List ℕ)
    → IsHeadOf t old.grow first names → StandsAt t text old before AtFirst
    → StandsAt t text new after (AtEvents t.start t.start)

abbrev pub JudgesHead : (X : Type 0) → Line → List (List ℕ) → Trace → Inputs → ReplayFault → Type 0
JudgesHead X first names old before fault = (t : Trial X) (text : List ℕ)
    → IsHeadOf t old.grow first names → StandsAt t text old before AtFirst → IsJudged t text fault

-- The trace ends behind its end line, or goes on.

abbrev pub PassesEnd : (X : Type 0) → Trace → Inputs → Type 0
PassesEnd X old before = (t : Trial X) (text : List ℕ) (end : Line) (last : State X)
    → (has : StandsAt t text old before (AtEnd end last)) → IsWhole t text end last
    × (text ≡ concat has.texts)

abbrev pub JudgesEnd : (X : Type 0) → Trace → Inputs → ReplayFault → Type 0
JudgesEnd X old before fault = (t : Trial X) (text : List ℕ) (end : Line) (last : State X)
    → StandsAt t text old before (AtEnd end last) → IsJudged t text fault

-- The same of what the code holds.

module _ (X : Type 0) {S : Type 0} (feeds : S → Inputs) where
  abbrev pub ReadsInstance : ℕ → String Heap → Trace → S → Trace → S → Type 0
  ReadsInstance k name old before new after =
      PassesInstance X k (string_bytes name) old (feeds before) new (feeds after)

  abbrev pub ReadsNames : List (String Heap) → Trace → S → Trace → S → Type 0
  ReadsNames names old before new after =
      PassesNames X (map string_bytes names) old (feeds before) new (feeds after)

  abbrev pub ReadsHead : Line → List (String Heap) → Trace → S → Trace → S → Type 0
  ReadsHead first names old before new after =
      PassesHead X first (map string_bytes names) old (feeds before) new (feeds after)

  abbrev pub RefusesHead : Line → List (String Heap) → Trace → S → ReplayFault → Type 0
  RefusesHead first names old before fault =
      JudgesHead X first (map string_bytes names) old (feeds before) fault
