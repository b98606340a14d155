-- The firings of a round and what closes it make a round.
use Rattle.std.proofs.Common.{◌≡◌, ℕ, suc, ◌<◌, Bool, true, false, List, [], ◌∷◌, length, map, replicate, refl, sym, ap, subst, ◌∙◌, ⊎_elim, arith}
use Rattle.std.specs.Prelude.{Option, None, Some, MatchBool, slice_get, slice_index_or, ◌&&◌, ◌||◌, ◌==◌, if◌then◌else◌}
use Rattle.std.proofs.lemmas.Bool.{cases_lt, eq-eqb, eqb-true}
use Rattle.std.proofs.lemmas.List.{length-map}
use Rattle.rvc_base.specs.declared.round_kind.RoundKind.{RoundKind}
use Rattle.rvc_base.specs.Picks.{picks}
use Rattle.trace_text.specs.declared.line.Line.{Line}
use Rattle.trace_text.specs.declared.line.Line.TheVariants.{Trap as TrapLine}
use Rattle.net_model.specs.Network.{Network}
use Rattle.net_model.specs.State.{State}
use Rattle.net_model.specs.Event.{and_then}
use Rattle.net_model.specs.Cell.{Cell}
use Rattle.net_model.specs.Laws.{AreLawful}
use Rattle.net_model.specs.Trace.{after_delivery, played}
use Rattle.net_model.specs.Paced.{AreBursts, Close, ClosesBy, ClosesIdle, ClosesUntrapped, Ends, GoesOn, Moment, Pace, close_lines, count_of, count_picked, first_trap, none_of, picked, share_of}
use Rattle.net_model.specs.Wired.{IsWired}
use Rattle.net_state.specs.Held.{Held}
use Rattle.net_state.specs.Standing.{StandsSince}
use Rattle.net_state.specs.Working.{AreFed, journal_of}
use Rattle.net_state.proofs.Coming.{by_bool}
use Rattle.net_state.proofs.Gaining.{there_too}
use Rattle.net_state.specs.declared.made.Lacking.{Lacking}
use Rattle.net_state.specs.declared.made.Trapped.{Trapped}
use Rattle.round_runner.specs.declared.outcome.RoundEnd.{RoundEnd}
use Rattle.round_runner.specs.declared.outcome.RoundEnd.TheVariants as round
use Rattle.round_runner.specs.declared.outcome.RunEnd.TheVariants as end
use Rattle.round_runner.specs.Bursting.{Bursted, Fires, Idle, Sees, shares, trap_line}
use Rattle.round_runner.specs.Choosing.{marked}
use Rattle.round_runner.specs.Firings.{journals}
use Rattle.round_runner.specs.Rounds.{Answers}
use Rattle.network_runner.specs.declared.firing.Turn.{Turn}
use Rattle.network_runner.specs.Closing.{AnswersTo, IsClosedIdle}
use Rattle.network_runner.specs.Rounding.{ClosedBy, IsRoundMade, is_trap, moment_by, pace_by}
use Rattle.network_runner.proofs.Trapped.{IsAlive, no_firings, trap_happens}

-- Tests.

pub matches_false : (b : Bool) (P Q : Type 0) → b ≡ false → Q → MatchBool b P Q
matches_false true P Q is q = cc
matches_false false P Q is q = q

matches_true : (b : Bool) (P Q : Type 0) → b ≡ true → P → MatchBool b P Q
matches_true true P Q is p = p
matches_true false P Q is p = cc

and_second : (a b : Bool) → b ≡ false → (a && b) ≡ false
and_second true b is = is
and_second false b is = refl

and_first : (a b : Bool) → a ≡ false → (a && b) ≡ false
and_first true b is = cc
and_first false b is = refl

and_both : (a b : Bool) → a ≡ true → b ≡ true → (a && b) ≡ true
and_both true b is too = too
and_both false b is too = cc

pub not_zero : (n : ℕ) → 0 < n → (n == 0) ≡ false
not_zero n some = by_bool (n == 0) (λ yes. let is : n ≡ 0 = eqb-true n 0 yes in absurd (omega (arith, is, some))) (λ no. no)

-- Which are picked.

all_true : {A : Type 0} (xs : List A) → replicate (length xs) true ≡ map (λ x. true) xs
all_true [] = refl
all_true (x ∷ xs) = ap (λ bs. true ∷ bs) (all_true xs)

pub picked_is : {X : Type 0} (net : Network X) (kind : RoundKind) (budget : ℕ) (turn : Turn) (s : State X) → marked kind (length net.leaves) turn.round turn.idle ≡ picked net (pace_by kind budget turn) (moment_by turn s)
picked_is net kind budget turn s = ap (λ all. if turn.idle || none_of (picks kind (length net.leaves) turn.round) then all else picks kind (length net.leaves) turn.round) (all_true net.leaves)

-- the journals of cells, by place
journals_are : {X : Type 0} (cells : List (Cell X)) (bursts : List (List ℕ)) → length cells ≡ length bursts → ((i : ℕ) → journal_of (slice_get cells i) ≡ slice_index_or bursts i []) → journals cells ≡ bursts
journals_are [] [] same each = refl
journals_are [] (actions ∷ bursts) same each = absurd (omega (arith, same))
journals_are (cell ∷ cells) [] same each = absurd (omega (arith, same))
journals_are (cell ∷ cells) (actions ∷ bursts) same each =
    ap (λ a. a ∷ journals cells) (each 0) ∙ ap (λ bs. actions ∷ bs) (journals_are cells bursts (omega (arith, same)) (λ i. each (suc i)))

-- what is answered for a close
pub goes_on_so : {X : Type 0} (net : Network X) (grow : ℕ) (s : State X) (answer : RoundEnd) (bursts : List (List ℕ)) (close : Close) → ClosesIdle net grow s close → AnswersTo answer close
    → Answers answer (record { bursts = bursts; close = close })
goes_on_so net grow s (round.Fired n) bursts close closes is = absurd (subst (ClosesIdle net grow s) is closes)
goes_on_so net grow s round.Idle bursts close closes is = absurd (subst (ClosesIdle net grow s) is closes)
goes_on_so net grow s (round.Grew link capacity) bursts close closes is = is
goes_on_so net grow s (round.End how) bursts close closes is = is

module _ {X : Type 0} (net : Network X) (s : State X) (kind : RoundKind) (budget : ℕ) (turn : Turn) (marks : List Bool) (old mid new : Held (Cell X)) (answer : RoundEnd)
    (fired : ℕ) (trap : Option Trapped) (lacks : Option Lacking) (all : Bool) (since : StandsSince net old (after_delivery net s) (after_delivery net s)) (untrapped : s.trapped ≡ false)
    (wired : IsWired net) (lawful : AreLawful net) (fed : AreFed net (after_delivery net s)) (left : 0 < turn.left)
    (marks_are : marks ≡ marked kind (length old.cells) turn.round turn.idle) (as_many : length marks ≡ length old.cells) (all_is : all ≡ (count_picked marks == length marks))
    (bursted : Bursted (shares turn.burst turn.left marks) marks fired trap old mid)
    (idle : fired ≡ 0 → trap ≡ None → count_picked marks ≡ length marks → Idle (length marks) lacks old mid)
    (closed : ClosedBy trap fired lacks all turn.grow answer mid new) where
  abbrev opened : State X
  opened = after_delivery net s

  abbrev pace : Pace
  pace = pace_by kind budget turn

  abbrev at : Moment X
  at = moment_by turn s

  abbrev bursts : List (List ℕ)
  bursts = bursted.bursts

  leaves_are : length old.cells ≡ length net.leaves
  leaves_are = sym (sym (length-map net.leaves (λ leaf. leaf.behaviour)) ∙ (ap (λ bs. length bs) since.now.is_of.actors ∙ length-map old.cells (λ cell. cell.actor)))

  marks_is : marks ≡ picked net pace at
  marks_is = marks_are ∙ (ap (λ n. marked kind n turn.round turn.idle) leaves_are ∙ picked_is net kind budget turn s)

  fires : Fires net (shares turn.burst turn.left marks) marks opened bursted.bursts bursted.halts mid
  fires = bursted.states net opened since

  alive : IsAlive net wired lawful opened
  alive = record {
    untrapped = untrapped;
    ordered = λ l flow there.
        let link = there_too opened.flows net.links l flow since.now.stands.flows.count there in
        let held = since.now.stands.flows.each l link.0 flow link.1 there in
        (held.taken, held.arrived);
  }

  goes : AreBursts net opened (share_of net pace at) (picked net pace at) 0 0 0 opened bursted.bursts bursted.halts fires.last
  goes = subst (λ ms. AreBursts net opened (shares turn.burst turn.left ms) ms 0 0 0 opened bursted.bursts bursted.halts fires.last) marks_is fires.goes

  left_some : (turn.left == 0) ≡ false
  left_some = not_zero turn.left left

  build : (close : Close) (last kept : State X) → ClosesBy net turn.grow (picked net pace at) bursted.bursts (first_trap 0 bursted.halts) fires.last close → played net fires.last (close_lines close) ≡ Some last
      → Answers answer (record { bursts = bursted.bursts; close = close }) → StandsSince net new opened kept → last.flows ≡ kept.flows → (is_trap answer ≡ false → last ≡ kept)
      → IsRoundMade net pace at answer fired new
  build close last kept closes leads answers stands flows_are same = record {
    block = record { bursts = bursted.bursts; close = close };
    last = last;
    is_round = record {
      untrapped = untrapped;
      halts = bursted.halts;
      fired = fires.last;
      bursts = goes;
      closes = matches_false (turn.left == 0) _ _ left_some closes;
      leads = leads;
    };
    answers = answers;
    fired_are = sym bursted.fired_is;
    kept = kept;
    stands = stands;
    flows_are = flows_are;
    untrapped = same;
    noted = ap journals closed.same_cells ∙ journals_are mid.cells bursted.bursts (bursted.same_actors.count ∙ (sym as_many ∙ sym bursted.count)) bursted.noted;
  }

  none_trapped : trap ≡ None → first_trap 0 bursted.halts ≡ None
  none_trapped none = sym bursted.trap_is ∙ ap trap_line none

  untrapped_so : trap ≡ None → (close : Close) → ClosesUntrapped net turn.grow (picked net pace at) bursted.bursts fires.last close
      → ClosesBy net turn.grow (picked net pace at) bursted.bursts (first_trap 0 bursted.halts) fires.last close
  untrapped_so none close closes = subst (λ o. ClosesBy net turn.grow (picked net pace at) bursted.bursts o fires.last close) (sym (none_trapped none)) closes

  stands_mid : new ≡ mid → StandsSince net new opened fires.last
  stands_mid same = subst (λ h. StandsSince net h opened fires.last) (sym same) fires.stands

  by_trapped : (trapped : Trapped) → trap ≡ Some trapped → IsRoundMade net pace at answer fired new
  by_trapped trapped is =
      let said = closed.by_trap trapped is in
      let line : Line = TrapLine trapped.inst.0 trapped.action.0 trapped.trap in
      let first : first_trap 0 bursted.halts ≡ Some line = sym bursted.trap_is ∙ ap trap_line is in
      let happens_so = trap_happens net wired lawful opened (share_of net pace at) trapped.inst.0 trapped.action.0 trapped.trap (picked net pace at) opened bursted.bursts bursted.halts fires.last goes alive first in
      let answers : Answers (round.End (end.Trapped trapped.inst trapped.action trapped.trap)) (record { bursts = bursted.bursts; close = Ends line }) = (line, refl, refl) in
      build (Ends line) (record fires.last { trapped = true }) fires.last
      (subst (λ o. ClosesBy net turn.grow (picked net pace at) bursted.bursts o fires.last (Ends line)) (sym first) refl)
      (ap (λ o. and_then o (λ t. Some t)) happens_so)
      (subst (λ a. Answers a (record { bursts = bursted.bursts; close = Ends line })) (sym said.0) answers)
      (stands_mid said.1) refl (λ no. let yes : is_trap answer ≡ true = ap is_trap said.0 in let both : true ≡ false = sym yes ∙ no in cc)

  by_fired : trap ≡ None → 0 < fired → IsRoundMade net pace at answer fired new
  by_fired none some =
      let said = closed.by_firing none some in
      let count : count_of bursted.bursts ≡ fired = sym bursted.fired_is in
      let test : (count_of bursted.bursts == 0) ≡ false = not_zero (count_of bursted.bursts) (omega (arith, count, some)) in
      let answers : Answers (round.Fired fired) (record { bursts = bursted.bursts; close = GoesOn }) = (refl, count, some) in
      build GoesOn fires.last fires.last
      (untrapped_so none GoesOn (matches_false ((count_picked (picked net pace at) == length (picked net pace at)) && (count_of bursted.bursts == 0)) _ _
      (and_second (count_picked (picked net pace at) == length (picked net pace at)) (count_of bursted.bursts == 0) test) refl))
      refl (subst (λ a. Answers a (record { bursts = bursted.bursts; close = GoesOn })) (sym said.0) answers) (stands_mid said.1) refl (λ _. refl)

  test_is : (b : Bool) → all ≡ b → (count_picked (picked net pace at) == length (picked net pace at)) ≡ b
  test_is b is = ap (λ ms. count_picked ms == length ms) (sym marks_is) ∙ (sym all_is ∙ is)

  by_others : trap ≡ None → fired ≡ 0 → all ≡ false → IsRoundMade net pace at answer fired new
  by_others none zero_fired some =
      let said = closed.by_others none zero_fired some in
      let answers : Answers round.Idle (record { bursts = bursted.bursts; close = GoesOn }) = (refl, sym bursted.fired_is ∙ zero_fired) in
      build GoesOn fires.last fires.last
      (untrapped_so none GoesOn (matches_false ((count_picked (picked net pace at) == length (picked net pace at)) && (count_of bursted.bursts == 0)) _ _
      (and_first (count_picked (picked net pace at) == length (picked net pace at)) (count_of bursted.bursts == 0) (test_is false some)) refl))
      refl (subst (λ a. Answers a (record { bursts = bursted.bursts; close = GoesOn })) (sym said.0) answers) (stands_mid said.1) refl (λ _. refl)

  by_none : trap ≡ None → fired ≡ 0 → all ≡ true → IsRoundMade net pace at answer fired new
  by_none none zero_fired every =
      let counted : count_picked marks ≡ length marks = eqb-true (count_picked marks) (length marks) (sym all_is ∙ every) in
      let still : Idle (length marks) lacks old mid = idle zero_fired none counted in
      let stands : StandsSince net mid opened opened = still.still net opened since in
      let sees : Sees (length mid.cells) net opened lacks =
      subst (λ n. Sees n net opened lacks) (as_many ∙ sym bursted.same_actors.count) (still.tells net opened since wired fed) in
      let that : IsClosedIdle net turn.grow opened answer new = closed.by_none none zero_fired every net opened stands sees in
      let no_count : count_of bursted.bursts ≡ 0 = sym bursted.fired_is ∙ zero_fired in
      let last_is : opened ≡ fires.last = no_firings net opened (share_of net pace at) (picked net pace at) 0 0 0 opened bursted.bursts bursted.halts fires.last goes no_count in
      let test : (count_of bursted.bursts == 0) ≡ true = eq-eqb (count_of bursted.bursts) 0 no_count in
      build that.close that.last that.last
      (untrapped_so none that.close (matches_true ((count_picked (picked net pace at) == length (picked net pace at)) && (count_of bursted.bursts == 0)) _ _
      (and_both (count_picked (picked net pace at) == length (picked net pace at)) (count_of bursted.bursts == 0) (test_is true every) test)
      (subst (λ t. ClosesIdle net turn.grow t that.close) last_is that.closes)))
      (subst (λ t. played net t (close_lines that.close) ≡ Some that.last) last_is that.leads)
      (goes_on_so net turn.grow opened answer bursted.bursts that.close that.closes that.answers)
      that.stands refl (λ _. refl)

  pub round_made : IsRoundMade net pace at answer fired new
  round_made = by_option trap refl
    where
      by_count : trap ≡ None → IsRoundMade net pace at answer fired new
      by_count none = ⊎_elim (λ some. by_fired none some)
          (λ few. by_bool all (λ every. by_none none (omega (arith, few)) every) (λ some. by_others none (omega (arith, few)) some))
          (cases_lt 0 fired)

      by_option : (o : Option Trapped) → trap ≡ o → IsRoundMade net pace at answer fired new
      by_option None is = by_count is
      by_option (Some trapped) is = by_trapped trapped is
