-- A run has few rounds: of two in a row one fires, or a link grows, or the run ends.
use Rattle.std.proofs.Common.{◌≡◌, ℕ, zero, suc, ◌+◌, ◌*◌, ◌≤◌, Bool, true, false, List, [], ◌∷◌, ◌++◌, length, map, refl, sym, ap, ◌∙◌, subst, arith, append_assoc, append-nil}
use Rattle.std.specs.Prelude.{◌==◌, ◌&&◌, ◌||◌, if◌then◌else◌, flat_map, MatchBool, Option, None, Some}
use Rattle.std.proofs.lemmas.Bool.{eq-eqb}
use Rattle.trace_text.specs.declared.line.Line.{Line}
use Rattle.trace_text.specs.declared.line.Line.TheVariants.{Fire as FireLine, Quiet, Stall, Budget}
use Rattle.net_model.specs.Network.{Network}
use Rattle.net_model.specs.State.{State}
use Rattle.net_model.specs.Laws.{firings_shown}
use Rattle.net_model.specs.Paced.{Pace, Moment, first_moment, Close, GoesOn, Widens, Ends, Block, fire_lines, close_lines, lines_of, count_of, picked, count_picked, Halt, first_trap, ClosesSpent, ClosesIdle, ClosesBy, Closes, IsRound, next_moment, EndsRun, AreRounds, IsBegun, IsPaced}
use Rattle.net_model.specs.Counted.{deliveries_in}
use Rattle.net_model.proofs.Rounds.{either, IsTrapLine, trap_first}
use Rattle.law_rounds.specs.Bounds.{growths_in}

abbrev shown_of : List Line → ℕ
shown_of lines = length (firings_shown lines)

-- before whatever lines, these add so many deliveries, firings and growths
record Adds (lines : List Line) (deliveries firings growths : ℕ) : Type 0 where
  deliver : (after : List Line) → deliveries_in (lines ++ after) ≡ deliveries + deliveries_in after
  fire : (after : List Line) → shown_of (lines ++ after) ≡ firings + shown_of after
  grow : (after : List Line) → growths_in (lines ++ after) ≡ growths + growths_in after

adds_none : Adds [] 0 0 0
adds_none = record { deliver = λ after. omega arith; fire = λ after. omega arith; grow = λ after. omega arith }

adds_then : (one two : List Line) (d f g e h k : ℕ) → Adds one d f g → Adds two e h k → Adds (one ++ two) (d + e) (f + h) (g + k)
adds_then one two d f g e h k p q = record {
  deliver = λ after.
      let joined : deliveries_in ((one ++ two) ++ after) ≡ deliveries_in (one ++ (two ++ after)) = ap deliveries_in (append_assoc one two after) in
      omega (arith, joined, p.deliver (two ++ after), q.deliver after);
  fire = λ after.
      let joined : shown_of ((one ++ two) ++ after) ≡ shown_of (one ++ (two ++ after)) = ap shown_of (append_assoc one two after) in
      omega (arith, joined, p.fire (two ++ after), q.fire after);
  grow = λ after.
      let joined : growths_in ((one ++ two) ++ after) ≡ growths_in (one ++ (two ++ after)) = ap growths_in (append_assoc one two after) in
      omega (arith, joined, p.grow (two ++ after), q.grow after);
}

burst_adds : (i : ℕ) (actions : List ℕ) → Adds (map (FireLine i) actions) 0 (length actions) 0
burst_adds i [] = adds_none
burst_adds i (a ∷ actions) =
    let rest = burst_adds i actions in
    record {
      deliver = λ after. rest.deliver after;
      fire = λ after.
          let step : shown_of (map (FireLine i) (a ∷ actions) ++ after) ≡ suc (shown_of (map (FireLine i) actions ++ after)) = refl in
          omega (arith, step, rest.fire after);
      grow = λ after. rest.grow after;
    }

bursts_add : (i : ℕ) (bursts : List (List ℕ)) → Adds (fire_lines i bursts) 0 (count_of bursts) 0
bursts_add i [] = adds_none
bursts_add i (actions ∷ bursts) =
    adds_then (map (FireLine i) actions) (fire_lines (suc i) bursts) 0 (length actions) 0 0 (count_of bursts) 0
    (burst_adds i actions) (bursts_add (suc i) bursts)

-- how many links grow at the end of a round
abbrev grown_by : Close → ℕ
grown_by GoesOn = 0
grown_by (Widens l capacity) = 1
grown_by (Ends line) = 0

-- what closes a round is no delivery, and fires nothing

quiet_adds : Adds (Quiet ∷ []) 0 0 0
quiet_adds = record { deliver = λ after. omega arith; fire = λ after. omega arith; grow = λ after. omega arith }

stall_adds : (i a l : ℕ) → Adds (Stall i a l ∷ []) 0 0 0
stall_adds i a l = record { deliver = λ after. omega arith; fire = λ after. omega arith; grow = λ after. omega arith }

budget_adds : Adds (Budget ∷ []) 0 0 0
budget_adds = record { deliver = λ after. omega arith; fire = λ after. omega arith; grow = λ after. omega arith }

abbrev CloseAdds : Close → Type 0
CloseAdds close = Adds (close_lines close) 0 0 (grown_by close)

spent_adds : {X : Type 0} (net : Network X) (grow : ℕ) (s : State X) (close : Close) → ClosesSpent net grow s close → CloseAdds close
spent_adds net grow s (Ends Quiet) h = quiet_adds
spent_adds net grow s (Ends (Stall i a l)) h = stall_adds i a l
spent_adds net grow s (Ends Budget) h = budget_adds
spent_adds net grow s close h = absurd h

idle_adds : {X : Type 0} (net : Network X) (grow : ℕ) (s : State X) (close : Close) → ClosesIdle net grow s close → CloseAdds close
idle_adds net grow s (Ends Quiet) h = quiet_adds
idle_adds net grow s (Ends (Stall i a l)) h = stall_adds i a l
idle_adds net grow s (Widens l capacity) h =
    record { deliver = λ after. omega arith; fire = λ after. omega arith; grow = λ after. omega arith }
idle_adds net grow s close h = absurd h

trap_adds : (line : Line) → IsTrapLine line → CloseAdds (Ends line)
trap_adds line trap = subst (λ k. CloseAdds (Ends k)) (sym trap.is)
    (record { deliver = λ after. omega arith; fire = λ after. omega arith; grow = λ after. omega arith })

by_adds : {X : Type 0} (net : Network X) (grow : ℕ) (marks : List Bool) (bursts : List (List ℕ)) (halts : List Halt) (trap : Option Line) (s : State X) (close : Close)
    → first_trap 0 halts ≡ trap → ClosesBy net grow marks bursts trap s close → CloseAdds close
by_adds net grow marks bursts halts (Some line) s close is h = subst CloseAdds (sym h) (trap_adds line (trap_first 0 halts line is))
by_adds net grow marks bursts halts None s close is h =
    either ((count_picked marks == length marks) && (count_of bursts == 0)) _ _ _ (idle_adds net grow s close) (λ on. subst CloseAdds (sym on) adds_none) h

close_adds : {X : Type 0} (net : Network X) (pace : Pace) (at : Moment X) (block : Block) (halts : List Halt) (s : State X)
    → Closes net pace at block halts s → CloseAdds block.close
close_adds net pace at block halts s h =
    either (at.left == 0) _ _ _ (spent_adds net pace.grow s block.close)
    (by_adds net pace.grow (picked net pace at) block.bursts halts (first_trap 0 halts) s block.close refl) h

-- a round has one delivery
round_adds : {X : Type 0} (net : Network X) (pace : Pace) (at : Moment X) (block : Block) (last : State X) → IsRound net pace at block last
    → Adds (lines_of block) 1 (count_of block.bursts) (grown_by block.close)
round_adds net pace at block last round =
    let rest = adds_then (fire_lines 0 block.bursts) (close_lines block.close) 0 (count_of block.bursts) 0 0 0 (grown_by block.close)
    (bursts_add 0 block.bursts) (close_adds net pace at block round.halts round.fired round.closes) in
    record {
      deliver = λ after.
          let step : deliveries_in (lines_of block ++ after) ≡ suc (deliveries_in ((fire_lines 0 block.bursts ++ close_lines block.close) ++ after)) = refl in
          omega (arith, step, rest.deliver after);
      fire = λ after. omega (arith, rest.fire after);
      grow = λ after. omega (arith, rest.grow after);
    }

-- Of two rounds in a row one fires, or a link grows.

-- 1 if nothing fired in the round before
abbrev one_if : Bool → ℕ
one_if true = 1
one_if false = 0

all_picked : {A : Type 0} (xs : List A) → count_picked (map (λ x. true) xs) ≡ length (map (λ x. true) xs)
all_picked [] = refl
all_picked (x ∷ xs) = ap suc (all_picked xs)

picks_all : (idle none : Bool) (all some : List Bool) → idle ≡ true → (if idle || none then all else some) ≡ all
picks_all true none all some is = refl
picks_all false none all some is = cc

-- after a round that fired nothing all are picked
idle_picks : {X : Type 0} (net : Network X) (pace : Pace) (at : Moment X) → at.idle ≡ true → count_picked (picked net pace at) ≡ length (picked net pace at)
idle_picks net pace at idle =
    let all : picked net pace at ≡ map (λ leaf. true) net.leaves = picks_all at.idle _ (map (λ leaf. true) net.leaves) _ idle in
    subst (λ marks. count_picked marks ≡ length marks) (sym all) (all_picked net.leaves)

idle_grows : {X : Type 0} (net : Network X) (grow : ℕ) (s : State X) (close : Close) → (EndsRun close → ⊥) → ClosesIdle net grow s close → 1 ≤ grown_by close
idle_grows net grow s (Ends line) goes_on h = absurd (goes_on tt)
idle_grows net grow s (Widens l capacity) goes_on h = omega arith
idle_grows net grow s GoesOn goes_on h = absurd h

spent_ends : {X : Type 0} (net : Network X) (grow : ℕ) (s : State X) (close : Close) → (EndsRun close → ⊥) → ClosesSpent net grow s close → ⊥
spent_ends net grow s (Ends line) goes_on h = goes_on tt
spent_ends net grow s GoesOn goes_on h = h
spent_ends net grow s (Widens l capacity) goes_on h = h

both_true : (a b : Bool) → a ≡ true → b ≡ true → (a && b) ≡ true
both_true a b p q = rw (p, q) refl

by_true : (b : Bool) (P Q R : Type 0) → b ≡ true → (P → R) → MatchBool b P Q → R
by_true true P Q R is f h = f h
by_true false P Q R is f h = cc

by_grows : {X : Type 0} (net : Network X) (grow : ℕ) (marks : List Bool) (bursts : List (List ℕ)) (trap : Option Line) (s : State X) (close : Close)
    → (EndsRun close → ⊥) → count_picked marks ≡ length marks → count_of bursts ≡ 0 → ClosesBy net grow marks bursts trap s close → 1 ≤ grown_by close
by_grows net grow marks bursts (Some line) s close goes_on all none h = absurd (goes_on (subst EndsRun (sym h) tt))
by_grows net grow marks bursts None s close goes_on all none h =
    by_true ((count_picked marks == length marks) && (count_of bursts == 0)) _ _ _
    (both_true _ _ (eq-eqb (count_picked marks) (length marks) all) (eq-eqb (count_of bursts) 0 none))
    (idle_grows net grow s close goes_on) h

-- after a round that fired nothing, one that fires nothing either and doesn't end the run widens a link
grows_if_idle : {X : Type 0} (net : Network X) (pace : Pace) (at : Moment X) (block : Block) (last : State X) → IsRound net pace at block last
    → (EndsRun block.close → ⊥) → at.idle ≡ true → count_of block.bursts ≡ 0 → 1 ≤ grown_by block.close
grows_if_idle net pace at block last round goes_on idle none =
    either (at.left == 0) _ _ _
    (λ h. absurd (spent_ends net pace.grow round.fired block.close goes_on h))
    (by_grows net pace.grow (picked net pace at) block.bursts (first_trap 0 round.halts) round.fired block.close goes_on (idle_picks net pace at idle) none)
    round.closes

round_few : (idle : Bool) (fired grown : ℕ) → (idle ≡ true → fired ≡ 0 → 1 ≤ grown) → 1 + one_if idle ≤ 2 * fired + grown + one_if (fired == 0)
round_few true zero grown some = let more : 1 ≤ grown = some refl refl in omega (arith, more)
round_few true (suc n) grown some = omega arith
round_few false zero grown some = omega arith
round_few false (suc n) grown some = omega arith

-- rounds that don't end the run, with what they add
record FewRounds {X : Type 0} (at : Moment X) (blocks : List Block) (reached : Moment X) : Type 0 where
  deliveries : ℕ
  firings : ℕ
  growths : ℕ
  adds : Adds (flat_map lines_of blocks) deliveries firings growths
  few : deliveries + one_if at.idle ≤ 2 * firings + growths + one_if reached.idle

rounds_few : {X : Type 0} (net : Network X) (pace : Pace) (at : Moment X) (blocks : List Block) (reached : Moment X) → AreRounds net pace at blocks reached
    → FewRounds at blocks reached
rounds_few net pace at [] reached same = record {
  deliveries = 0;
  firings = 0;
  growths = 0;
  adds = adds_none;
  few = (let idle : one_if at.idle ≡ one_if reached.idle = ap (λ m. one_if m.idle) same in omega (arith, idle));
}
rounds_few net pace at (block ∷ blocks) reached are =
    let rest = rounds_few net pace (next_moment at block are.0) blocks reached are.3 in
    let one : 1 + one_if at.idle ≤ 2 * count_of block.bursts + grown_by block.close + one_if (count_of block.bursts == 0) =
    round_few at.idle (count_of block.bursts) (grown_by block.close) (grows_if_idle net pace at block are.0 are.1 are.2) in
    let more : rest.deliveries + one_if (count_of block.bursts == 0) ≤ 2 * rest.firings + rest.growths + one_if reached.idle = rest.few in
    record {
      deliveries = 1 + rest.deliveries;
      firings = count_of block.bursts + rest.firings;
      growths = grown_by block.close + rest.growths;
      adds = adds_then (lines_of block) (flat_map lines_of blocks) 1 (count_of block.bursts) (grown_by block.close) rest.deliveries rest.firings rest.growths
          (round_adds net pace at block are.0 are.1) rest.adds;
      few = omega (arith, one, more);
    }

-- what lines have that add so much
record Has (lines : List Line) (deliveries firings growths : ℕ) : Type 0 where
  deliver : deliveries_in lines ≡ deliveries
  fire : shown_of lines ≡ firings
  grow : growths_in lines ≡ growths

all_has : (lines : List Line) (d f g : ℕ) → Adds lines d f g → Has lines d f g
all_has lines d f g adds =
    let whole : lines ++ [] ≡ lines = append-nil lines in
    let d_all : deliveries_in lines ≡ d + deliveries_in [] = ap deliveries_in (sym whole) ∙ adds.deliver [] in
    let f_all : shown_of lines ≡ f + shown_of [] = ap shown_of (sym whole) ∙ adds.fire [] in
    let g_all : growths_in lines ≡ g + growths_in [] = ap growths_in (sym whole) ∙ adds.grow [] in
    record { deliver = omega (arith, d_all); fire = omega (arith, f_all); grow = omega (arith, g_all) }

one_at_most : (b : Bool) → one_if b ≤ 1
one_at_most true = omega arith
one_at_most false = omega arith

abbrev IsWithin : ℕ → List Line → Type 0
IsWithin more lines = deliveries_in lines ≤ 2 * shown_of lines + growths_in lines + more

pub begun_rounds_few : {X : Type 0} (net : Network X) (pace : Pace) (s : State X) (lines : List Line) (reached : Moment X) → IsBegun net pace s lines reached
    → deliveries_in lines ≤ 2 * length (firings_shown lines) + growths_in lines + 1
begun_rounds_few net pace s lines reached begun =
    let rounds = rounds_few net pace (first_moment pace s) begun.blocks reached begun.rounds in
    let has = all_has (flat_map lines_of begun.blocks) rounds.deliveries rounds.firings rounds.growths rounds.adds in
    let last = one_at_most reached.idle in
    subst (IsWithin 1) (sym begun.lines_are) (omega (arith, has.deliver, has.fire, has.grow, rounds.few, last))

pub paced_rounds_few : {X : Type 0} (net : Network X) (pace : Pace) (s : State X) (lines : List Line) (last : State X) → IsPaced net pace s lines last
    → deliveries_in lines ≤ 2 * length (firings_shown lines) + growths_in lines + 2
paced_rounds_few net pace s lines last paced =
    let rounds = rounds_few net pace (first_moment pace s) paced.blocks paced.reached paced.rounds in
    let all = adds_then (flat_map lines_of paced.blocks) (lines_of paced.final) rounds.deliveries rounds.firings rounds.growths
    1 (count_of paced.final.bursts) (grown_by paced.final.close) rounds.adds (round_adds net pace paced.reached paced.final last paced.ending) in
    let has = all_has (flat_map lines_of paced.blocks ++ lines_of paced.final) (rounds.deliveries + 1) (rounds.firings + count_of paced.final.bursts)
    (rounds.growths + grown_by paced.final.close) all in
    let before = one_at_most paced.reached.idle in
    subst (IsWithin 2) (sym paced.lines_are) (omega (arith, has.deliver, has.fire, has.grow, rounds.few, before))
