-- What a trace comes to line by line: whether the next line may come, and if not, why.
-- Trusted: part of what a promise means.
use Rattle.std.specs.Prelude.{◌≡◌, ◌≢◌, ℕ, zero, ◌+◌, ◌<◌, ◌≤◌, ◌⊎◌, Bool, true, false, List, [], ◌∷◌, ◌++◌, length, take, slice_get, Option, None, Some, if◌then◌else◌, codes}
use Rattle.std.specs.List.{concat}
use Rattle.rvc_base.specs.declared.trap.Trap.{Trap as TrapName}
use Rattle.rvc_base.specs.Behaviour.{Effect, Fires, TrapsInGuard, TrapsInBody}
use Rattle.trace_text.specs.declared.line.Line.{Line}
use Rattle.trace_text.specs.declared.line.Line.TheVariants.{Header as FirstLine, Inst, Fire, Deliver, Grow, Quiet, Trap as TrapLine, Stall, Budget}
use Rattle.trace_text.specs.Text.{line_text, line_feed}
use Rattle.trace_text.specs.Table.{IsWritten, AreWritten}
use Rattle.trace_text.specs.Spelling.{Spells, Begins, IsFront}
use Rattle.net_model.specs.Network.{Leaf, Network}
use Rattle.net_model.specs.State.{State, effect_at}
use Rattle.net_model.specs.Ends.{IsQuiet, IsStuck, Grows, IsBetween}
use Rattle.net_model.specs.Trace as trace
use Rattle.net_model.specs.Trace.{goes, LineIsTrue, PlaysFrom, FitFlows, TrapFits, opened_by, KeepsFrom}
use Rattle.net_model.specs.Paced.{PassesLink, HasRoomIn}
use Rattle.trace_replay.specs.declared.why.Why.{Why}
use Rattle.trace_replay.specs.declared.why.Why.TheVariants.{Form, Header, NotExposed, NoRoom, Trap, End, After, Cut, TooLong}

-- What a trace is judged by: the network, the greatest capacity that a link may grow to at a stall (0 if none may),
-- and the state in which the run begins.
pub record Trial (X : Type 0) : Type 0 where
  pub net : Network X
  pub grow : ℕ
  pub start : State X

-- what the lines so far come to
pub data Reached (X : Type 0) : Type 0 where
  -- the first line is due
  AtFirst : Reached X
  -- the line of instance k is due, which is this leaf, and then those of the others
  AtInstance : (k : ℕ) → Leaf X → List (Leaf X) → Reached X
  -- the lines have led to the state `s`; `opened` is the state after the last delivery
  AtEvents : (opened s : State X) → Reached X
  -- this end line was read, in this state
  AtEnd : Line → State X → Reached X

-- The lines that are due.

abbrev pub first_line : {X : Type 0} → Trial X → Line
first_line t = FirstLine (length t.net.leaves) (length t.net.links) t.grow

abbrev pub instance_text : {X : Type 0} → ℕ → Leaf X → List ℕ
instance_text k leaf = line_text (Inst k) ++ leaf.path ++ codes " " ++ leaf.class ++ line_feed

-- what is due if these leaves still lack their lines
abbrev pub due : {X : Type 0} → ℕ → List (Leaf X) → State X → Reached X
due k [] start = AtEvents start start
due k (leaf ∷ leaves) start = AtInstance k leaf leaves

abbrev pub is_end : Line → Bool
is_end Quiet = true
is_end (TrapLine i a c) = true
is_end (Stall i a l) = true
is_end Budget = true
is_end line = false

abbrev pub after_line : {X : Type 0} → Line → State X → State X → Reached X
after_line line opened next = if is_end line then AtEnd line next
    else AtEvents (opened_by line opened next) next

-- A line may come in the state s: it is true there, it is permitted, and the links hold at most their capacities.
pub record MayCome {X : Type 0} (t : Trial X) (opened s : State X) (line : Line) (next : State X) :
    Type 0 where
  pub true_there : LineIsTrue t.net t.grow s line []
  pub goes_so : goes t.net s line ≡ Some next
  pub trap_fits : TrapFits t.net opened s line
  pub fits : FitFlows t.net.links (opened_by line opened next).flows next.flows

-- the line of instance k, which is this leaf
abbrev pub IsInstance : {X : Type 0} → ℕ → Leaf X → List ℕ → Line → Type 0
IsInstance k leaf text line = (line ≡ Inst k) × (text ≡ instance_text k leaf)

-- a line with this text leads from what was reached to what is reached next
abbrev pub LeadsOn : {X : Type 0} → Trial X → Reached X → List ℕ → Line → Reached X → Type 0
LeadsOn t AtFirst text line next = (line ≡ first_line t) × (next ≡ due 0 t.net.leaves t.start)
LeadsOn t (AtInstance k leaf leaves) text line next =
    IsInstance k leaf text line × (next ≡ due (k + 1) leaves t.start)
LeadsOn {X} t (AtEvents opened s) text line next = (last : State X) × MayCome t opened s line last
    × (next ≡ after_line line opened last)
LeadsOn t (AtEnd end last) text line next = ⊥

-- whole lines lead from what was reached to what is reached at last
abbrev pub Lead : {X : Type 0} → Trial X → Reached X → List (List ℕ) → Reached X → Type 0
Lead t reached [] last = reached ≡ last
Lead {X} t reached (text ∷ texts) last = (line : Line) × (next : Reached X) × Spells line text
    × LeadsOn t reached text line next × Lead t next texts last

-- Why a line of the table may not come.

-- action a of leaf i lacks room on some link
abbrev pub LacksRoomIn : {X : Type 0} → Network X → State X → State X → ℕ → ℕ → Type 0
LacksRoomIn net opened s i a = (l : ℕ) × PassesLink net opened s i a l

-- of a firing, by the action's effect: it is tested whether the action is exposed, whether its guards trap, its
-- room, and then whether the rest traps
abbrev pub FiringFails : {X : Type 0} → Network X → State X → State X → ℕ → ℕ → Option (Effect X)
    → Why → Type 0
FiringFails net opened s i a None why = why ≡ NotExposed
FiringFails net opened s i a (Some (TrapsInGuard c)) why = why ≡ Trap
FiringFails net opened s i a (Some (TrapsInBody c)) why =
    ((why ≡ NoRoom) × LacksRoomIn net opened s i a)
    ⊎ ((why ≡ Trap) × HasRoomIn net opened s i a)
FiringFails net opened s i a (Some (Fires next sent)) why = (why ≡ NoRoom)
    × LacksRoomIn net opened s i a

-- the trap c comes: of the guards, or of an action that has room
abbrev pub TrapComes : {X : Type 0} → Network X → State X → State X → ℕ → ℕ → Option (Effect X)
    → TrapName → Type 0
TrapComes net opened s i a None c = ⊥
TrapComes net opened s i a (Some (TrapsInGuard d)) c = d ≡ c
TrapComes net opened s i a (Some (TrapsInBody d)) c = (d ≡ c) × HasRoomIn net opened s i a
TrapComes net opened s i a (Some (Fires next sent)) c = ⊥

-- of a line of the run
abbrev pub EventFails : {X : Type 0} → Trial X → State X → State X → Line → Why → Type 0
EventFails t opened s (Fire i a) why =
    FiringFails t.net opened s i a (effect_at t.net s i a) why
EventFails t opened s (TrapLine i a c) why = (why ≡ Trap)
    × (TrapComes t.net opened s i a (effect_at t.net s i a) c → ⊥)
EventFails t opened s (Grow l capacity) why = (why ≡ End)
    × (Grows t.net t.grow s l capacity → ⊥)
EventFails t opened s Quiet why = (why ≡ End) × (IsQuiet t.net s → ⊥)
EventFails t opened s (Stall i a l) why = (why ≡ End) × (IsStuck t.net t.grow s i a l → ⊥)
EventFails t opened s Budget why = (why ≡ End) × (IsBetween t.net t.grow s → ⊥)
EventFails t opened s Deliver why = ⊥
EventFails t opened s (FirstLine n l g) why = why ≡ Header
EventFails t opened s (Inst k) why = why ≡ Header

-- a line of the table for what was reached
abbrev pub LineFails : {X : Type 0} → Trial X → Reached X → List ℕ → Line → Why → Type 0
LineFails t AtFirst text line why = (why ≡ Header) × (line ≢ first_line t)
LineFails t (AtInstance k leaf leaves) text line why = (why ≡ Header)
    × (IsInstance k leaf text line → ⊥)
LineFails t (AtEvents opened s) text line why = EventFails t opened s line why
LineFails t (AtEnd end last) text line why = ⊥

-- the growth of a link, where none may grow, isn't of the table
abbrev pub is_of_table : ℕ → Line → Bool
is_of_table zero (Grow l capacity) = false
is_of_table grow line = true

-- a trace is at most so long: 64 TiB
unfoldable pub max_trace_bytes : ℕ
max_trace_bytes = 70368744177664

-- an end line was read
abbrev pub IsOver : {X : Type 0} → Reached X → Type 0
IsOver (AtEnd end last) = Unit {0}
IsOver reached = ⊥

-- Why what stands behind the lines that lead on doesn't, within the greatest length of a trace. `longer` is whether
-- the text goes on past that.
pub data RestFails {X : Type 0} (t : Trial X) (reached : Reached X) (rest : List ℕ) (longer : Bool) : Why → Type 0 where
  -- its first bytes begin a line and are none, and with the next byte they begin none ..
  BeginsNone : (IsOver reached → ⊥) → (front : List ℕ) → (byte : ℕ) → (more : List ℕ) → rest ≡ front ++ byte ∷ more
      → IsFront front → (Begins (front ++ byte ∷ []) → ⊥) → RestFails t reached rest longer Form
  -- .. or are a line that a trace of this version hasn't
  IsOfNoTable : (IsOver reached → ⊥) → (line : Line) → (text more : List ℕ) → rest ≡ text ++ more → Spells line text
      → is_of_table t.grow line ≡ false → RestFails t reached rest longer Form
  -- its first line may not come
  MayNotCome : (line : Line) (why : Why) → (text more : List ℕ) → rest ≡ text ++ more → Spells line text
      → is_of_table t.grow line ≡ true → LineFails t reached text line why → RestFails t reached rest longer why
  -- it stands behind an end line
  IsBehindEnd : IsOver reached → rest ≢ [] → RestFails t reached rest longer After
  -- it is at most part of a line, and the text ends
  IsCutOff : (IsOver reached → ⊥) → IsFront rest → longer ≡ false → RestFails t reached rest longer Cut
  -- it is at most part of a line, and the text goes on past the greatest length
  GoesPast : (IsOver reached → ⊥) → IsFront rest → longer ≡ true → RestFails t reached rest longer TooLong
  EndsPast : IsOver reached → rest ≡ [] → longer ≡ true → RestFails t reached rest longer TooLong

-- The text is no trace of a run: the lines before line n lead on, and with it they don't, for this cause.
pub record IsNotRun {X : Type 0} (t : Trial X) (text : List ℕ) (n : ℕ) (why : Why) : Type 0 where
  pub texts : List (List ℕ)
  pub rest : List ℕ
  pub reached : Reached X
  pub is_text : take max_trace_bytes text ≡ concat texts ++ rest
  pub lead : Lead t AtFirst texts reached
  pub number : n ≡ length texts + 1
  pub longer : Bool
  pub is_longer : longer ≡ true → max_trace_bytes < length text
  pub is_whole : longer ≡ false → length text ≤ max_trace_bytes
  pub fails : RestFails t reached rest longer why

-- Each line is of the table: its numbers are within their bounds, and what names an instance is names.
pub record AreOfTable {X : Type 0} (t : Trial X) (lines : List Line) : Type 0 where
  pub first : IsWritten (first_line t)
  pub instances : (k : ℕ) (leaf : Leaf X) → slice_get t.net.leaves k ≡ Some leaf
      → Spells (Inst k) (instance_text k leaf)
  pub events : AreWritten lines

-- The text is a trace of a run with this end line, over the network and from the start of the trial.
pub record IsTrace {X : Type 0} (t : Trial X) (text : List ℕ) (lines : List Line) (end : Line)
    (last : State X) : Type 0 where
  pub is_text : text ≡ trace.text t.net t.grow lines
  pub of_table : AreOfTable t lines
  pub plays : PlaysFrom t.net t.grow t.start lines last
  pub keeps : KeepsFrom t.net t.start lines
  pub ends : (before : List Line) × (lines ≡ before ++ end ∷ []) × (is_end end ≡ true)
