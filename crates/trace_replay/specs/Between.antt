-- A network between two lines of its trace, and what the next line does.
-- Not trusted: no promise is read with it.
use Rattle.std.specs.Prelude.{◌≡◌, ℕ, ◌≤◌, Bool, true, false, List, [], length, Option, Some}
use Rattle.rvc_io.specs.Feeds.{Inputs}
use Rattle.port_files.specs.Coming.{Reading}
use Rattle.trace_text.specs.declared.line.Line.{Line}
use Rattle.trace_text.specs.declared.line.Line.TheVariants.{Header as FirstLine, Inst, Fire, Deliver, Grow, Quiet, Trap as TrapLine, Stall, Budget}
use Rattle.net_model.specs.declared.wiring.Counts.{Counts}
use Rattle.net_model.specs.declared.wiring.Link.{Link}
use Rattle.net_model.specs.Limits.{max_links}
use Rattle.net_model.specs.Network.{Network}
use Rattle.net_model.specs.State.{State, effect_at}
use Rattle.net_model.specs.Laws.{AreLawful}
use Rattle.net_model.specs.Paced.{HasRoomIn}
use Rattle.net_model.specs.Trace.{LineIsTrue, goes, opened_by}
use Rattle.net_model.specs.Wired.{IsWired}
use Rattle.net_model.specs.Cell.{Cell}
use Rattle.net_state.specs.Held.{Held, HoldFew, seen}
use Rattle.network_runner.specs.Filling.{ReadersFit}
use Rattle.trace_replay.specs.Counting.{CountsAll, CountsOn, FitLinks}
use Rattle.trace_replay.specs.Ending.{CanGrow, FitInputs, HoldEnough}
use Rattle.trace_replay.specs.Holding.{FitTaken, StandsHeld, stacked}
use Rattle.trace_replay.specs.Judging.{EventFails, TrapComes, Trial}
use Rattle.trace_replay.specs.Trying.{AllWork}
use Rattle.trace_replay.specs.declared.between.Replay.{Replay}
use Rattle.trace_replay.specs.declared.came.Came.{Came}
use Rattle.trace_replay.specs.declared.came.Came.TheVariants.{Goes, Ends, Fails, FeedFails}
use Rattle.trace_replay.specs.declared.holding.TakenBack.{TakenBack}
use Rattle.trace_replay.specs.declared.why.Why.{Why}

-- what is held, what was taken back, the readers of links, the numbers of the lines so far, and what is known of feeds
pub record Between (X : Type 0) : Type 0 where
  pub held : Held (Cell X)
  pub taken : TakenBack
  pub readings : List (Option Reading)
  pub numbers : Counts
  pub feeds : Inputs

abbrev pub between : {C X : Type 0} → (C → Cell X) → Held C → TakenBack → List (Option Reading)
    → Counts → Inputs → Between X
between cell held taken readings numbers feeds = record {
  held = seen cell held;
  taken = taken;
  readings = readings;
  numbers = numbers;
  feeds = feeds;
}

-- The network stands in the state s, which the last delivery `opened`. `inputs` are the bytes of its inputs from which
-- the run began.
pub record IsAt {X : Type 0} (net : Network X) (inputs : List (List ℕ)) (now : Between X)
    (opened s : State X) : Type 0 where
  pub stands : StandsHeld net inputs now.held (stacked now.taken) now.readings now.feeds opened s
  pub fits : FitInputs net s

-- what the code knows of it, whatever its state is
pub record CanGoOn {X : Type 0} (now : Between X) (links : List Link) (came grow : ℕ) : Type 0 where
  pub links_are : now.held.links ≡ links
  pub few : length links ≤ max_links
  pub few_held : HoldFew now.held.capacities
  pub work : AllWork now.held.cells
  pub taken_fits : FitTaken now.held now.taken
  pub readers : ReadersFit links now.readings now.feeds
  pub came_for_each : came ≡ length links
  pub numbers : FitLinks links now.numbers
  pub queues : CanGrow grow now.held.cells links
  pub enough : HoldEnough links now.held.capacities

-- a firing has room, and a trap comes
abbrev pub IsDue : {X : Type 0} → Network X → State X → State X → Line → Type 0
IsDue net opened s (Fire i a) = HasRoomIn net opened s i a
IsDue net opened s (TrapLine i a c) = TrapComes net opened s i a (effect_at net s i a) c
IsDue net opened s Deliver = Unit {0}
IsDue net opened s (Grow l capacity) = Unit {0}
IsDue net opened s Quiet = Unit {0}
IsDue net opened s (Stall i a l) = Unit {0}
IsDue net opened s Budget = Unit {0}
IsDue net opened s (FirstLine n l g) = Unit {0}
IsDue net opened s (Inst k) = Unit {0}

-- a line is true of a state, and leads on to the next one
pub record Steps {X : Type 0} (t : Trial X) (opened s : State X) (line : Line) (next : State X) :
    Type 0 where
  pub is_true : LineIsTrue t.net t.grow s line []
  pub goes_so : goes t.net s line ≡ Some next
  pub is_due : IsDue t.net opened s line

-- this is so in each state at which the network stands
abbrev pub InEach : {X : Type 0} → ℕ → Between X
    → (Trial X → List (List ℕ) → State X → State X → Type 0) → Type 0
InEach {X} grow now P = (t : Trial X) (inputs : List (List ℕ)) (opened s : State X) → t.grow ≡ grow
    → IsWired t.net → AreLawful t.net → IsAt t.net inputs now opened s → P t inputs opened s

-- the line leads on, and the network stands at the next state
abbrev pub GoesBy : {X : Type 0} → ℕ → Line → Between X → Between X → Type 0
GoesBy {X} grow line old new = InEach grow old (λ t inputs opened s. (next : State X)
    × Steps t opened s line next × IsAt t.net inputs new (opened_by line opened next) next)

-- .. and the numbers count it
abbrev pub CountsBy : {X : Type 0} → ℕ → Line → Between X → Counts → Type 0
CountsBy {X} grow line old numbers = InEach grow old (λ t inputs opened s. (next : State X)
    → goes t.net s line ≡ Some next → CountsOn t.net inputs s line next old.numbers numbers)

-- the line ends the run
abbrev pub EndsBy : {X : Type 0} → ℕ → Line → Between X → Type 0
EndsBy {X} grow line old = InEach grow old (λ t inputs opened s. (next : State X)
    × Steps t opened s line next)

-- .. and the numbers count it, and all that was sent
abbrev pub CountsEnd : {X : Type 0} → ℕ → Line → Between X → Counts → Type 0
CountsEnd {X} grow line old numbers = InEach grow old (λ t inputs opened s. (next : State X)
    → goes t.net s line ≡ Some next → CountsAll t.net inputs s line next old.numbers numbers)

-- an end line but that of a trap
abbrev pub is_still_end : Line → Bool
is_still_end Quiet = true
is_still_end (Stall i a l) = true
is_still_end Budget = true
is_still_end (FirstLine n l g) = false
is_still_end (Inst k) = false
is_still_end (Fire i a) = false
is_still_end Deliver = false
is_still_end (TrapLine i a c) = false
is_still_end (Grow l capacity) = false

-- the line may not come for this cause
abbrev pub FailsBy : {X : Type 0} → ℕ → Line → Between X → Why → Type 0
FailsBy grow line old why = InEach grow old (λ t inputs opened s. EventFails t opened s line why)

-- Answers.

abbrev pub OnGoes : Came → Type 0 → Type 0
OnGoes Goes P = P
OnGoes Ends P = Unit {0}
OnGoes (Fails why) P = Unit {0}
OnGoes (FeedFails feed) P = Unit {0}

abbrev pub OnEnds : Came → Type 0 → Type 0
OnEnds Goes P = Unit {0}
OnEnds Ends P = P
OnEnds (Fails why) P = Unit {0}
OnEnds (FeedFails feed) P = Unit {0}

abbrev pub IfFails : Came → (Why → Type 0) → Type 0
IfFails Goes P = Unit {0}
IfFails Ends P = Unit {0}
IfFails (Fails why) P = P why
IfFails (FeedFails feed) P = Unit {0}

abbrev pub IfFeedFails : Came → (ℕ → Type 0) → Type 0
IfFeedFails Goes P = Unit {0}
IfFeedFails Ends P = Unit {0}
IfFeedFails (Fails why) P = Unit {0}
IfFeedFails (FeedFails feed) P = P feed

abbrev pub OnFeedFails : Came → Type 0 → Type 0
OnFeedFails Goes P = Unit {0}
OnFeedFails Ends P = Unit {0}
OnFeedFails (Fails why) P = Unit {0}
OnFeedFails (FeedFails feed) P = P

-- The same of what the code holds.

module _ {A X S : Type 0} (cell : A → Cell X) (feeds : S → Inputs) where
  -- where it stands
  abbrev pub stand : Replay A → S → Between X
  stand replay now =
      between cell replay.state replay.taken replay.readers.items replay.numbers (feeds now)

  abbrev pub IsReadyToGo : Replay A → S → Type 0
  IsReadyToGo replay now =
      CanGoOn (stand replay now) replay.links.items (length replay.came.items) replay.grow

  abbrev pub LineGoes : Came → Line → Replay A → S → Replay A → S → Type 0
  LineGoes came line old before new after =
      OnGoes came (GoesBy old.grow line (stand old before) (stand new after))

  abbrev pub LineEnds : Came → Line → Replay A → S → Type 0
  LineEnds came line old before = OnEnds came (EndsBy old.grow line (stand old before))

  abbrev pub LineFails : Came → Line → Replay A → S → Type 0
  LineFails came line old before = IfFails came (FailsBy old.grow line (stand old before))

  abbrev pub LineCounts : Came → Line → Replay A → S → Replay A → Type 0
  LineCounts came line old before new =
      OnGoes came (CountsBy old.grow line (stand old before) new.numbers)

  abbrev pub EndCounts : Came → Line → Replay A → S → Replay A → Type 0
  EndCounts came line old before new =
      OnEnds came (CountsEnd old.grow line (stand old before) new.numbers)
