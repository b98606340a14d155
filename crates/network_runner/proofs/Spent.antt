-- A round in which no firing is left.
use Rattle.std.proofs.Common.{◌≡◌, ℕ, suc, ◌-◌, ◌<◌, ◌≤◌, min, Bool, true, false, List, [], ◌∷◌, length, map, refl, sym, ap, subst, ◌∙◌, ⊎_elim, arith}
use Rattle.std.specs.Prelude.{Option, None, Some, MatchBool, nat_le, slice_get, slice_index_or, if◌then◌else◌, ◌==◌, ◌||◌}
use Rattle.std.specs.List.{range_with_len}
use Rattle.std.proofs.lemmas.Bool.{cases_eq, cases_lt, eq-eqb, leb-true}
use Rattle.std.proofs.lemmas.List.{length-map}
use Rattle.std.proofs.lemmas.List.FromFn.{length-range_with_len}
use Rattle.rvc_base.specs.Behaviour.{Effect, Waits, Picks}
use Rattle.rvc_base.specs.Lawful.{IsLawful}
use Rattle.rvc_base.specs.Picks.{is_picked, picks}
use Rattle.rvc_base.specs.Shares.{allowed}
use Rattle.rvc_base.specs.declared.round_kind.RoundKind.{RoundKind}
use Rattle.trace_text.specs.declared.line.Line.{Line}
use Rattle.net_model.specs.declared.wiring.Link.{Link}
use Rattle.net_model.specs.Network.{Leaf, Network}
use Rattle.net_model.specs.State.{State, capacity_at, capacity_of, choice_at, choice_of, effect_of, give_of}
use Rattle.net_model.specs.Cell.{Cell}
use Rattle.net_model.specs.Laws.{AreLawful}
use Rattle.net_model.specs.Ends.{IsBetween, IsQuiet, IsSettled, IsStalled, IsStuck, LacksOn, LacksRoom, all_fed}
use Rattle.net_model.specs.Trace.{after_delivery, played}
use Rattle.net_model.specs.Paced.{AreBursts, ClosesSpent, Ends, Halt, Moment, Pace, Spent, Unpicked, count_picked, limit_of, none_of, picked, count_of}
use Rattle.net_state.specs.Held.{Held}
use Rattle.net_state.specs.Moving.{SameActors}
use Rattle.net_state.specs.Standing.{StandsIn, StandsSince}
use Rattle.net_state.specs.Surveyed.{StillStand}
use Rattle.net_state.specs.Working.{IsAtRest}
use Rattle.net_state.proofs.Coming.{by_bool, if_false}
use Rattle.net_state.proofs.Gaining.{there_too}
use Rattle.round_runner.specs.declared.outcome.RoundEnd.TheVariants as round
use Rattle.round_runner.specs.declared.outcome.RunEnd.{RunEnd}
use Rattle.round_runner.specs.Firings.{journals}
use Rattle.round_runner.specs.Rounds.{end_line}
use Rattle.network_runner.specs.declared.firing.Turn.{Turn}
use Rattle.network_runner.specs.Rounding.{IsRoundMade, moment_by, pace_by}

-- No firing is left.

abbrev no_actions : List Bool → List (List ℕ)
no_actions marks = map (λ mark. []) marks

abbrev halt_at : Bool → Halt
halt_at true = Spent
halt_at false = Unpicked

none_left : (burst picks k : ℕ) → 0 < picks → limit_of burst 0 picks k 0 ≡ 0
none_left burst picks k some =
    let no : nat_le picks 0 ≡ false = by_bool (nat_le picks 0) (λ yes. let few : picks ≤ 0 = leb-true picks 0 yes in absurd (omega (arith, few, some))) (λ not_so. not_so) in
    if_false (nat_le picks 0) (allowed 0 picks burst k) (min burst (0 - 0)) no ∙ (let e : min burst (0 - 0) ≡ 0 = omega arith in e)

no_bursts : {X : Type 0} (net : Network X) (opened : State X) (burst picks : ℕ) (marks : List Bool) (i k : ℕ) (s : State X) → count_picked marks ≤ picks
    → AreBursts net opened (record { burst = burst; left = 0; picks = picks }) marks i k 0 s (no_actions marks) (map halt_at marks) s
no_bursts net opened burst picks [] i k s few = refl
no_bursts net opened burst picks (true ∷ marks) i k s few =
    (s, (none_left burst picks k (omega (arith, few)), refl), no_bursts net opened burst picks marks (suc i) (suc k) s (omega (arith, few)))
no_bursts net opened burst picks (false ∷ marks) i k s few = (refl, refl, no_bursts net opened burst picks marks (suc i) k s few)

no_journals : {X : Type 0} (cells : List (Cell X)) (marks : List Bool) → length cells ≡ length marks → ((i : ℕ) (cell : Cell X) → slice_get cells i ≡ Some cell → cell.journal ≡ []) → journals cells ≡ no_actions marks
no_journals [] [] same each = refl
no_journals [] (mark ∷ marks) same each = absurd (omega (arith, same))
no_journals (cell ∷ cells) [] same each = absurd (omega (arith, same))
no_journals (cell ∷ cells) (mark ∷ marks) same each =
    ap (λ a. a ∷ journals cells) (each 0 cell refl) ∙ ap (λ bs. [] ∷ bs) (no_journals cells marks (omega (arith, same)) (λ i that at. each (suc i) that at))

pub picked_long : {X : Type 0} (net : Network X) (pace : Pace) (at : Moment X) → length (picked net pace at) ≡ length net.leaves
picked_long net pace at = by_test (at.idle || none_of (picks pace.kind (length net.leaves) at.round))
  where
    by_test : (b : Bool) → length (if b then map (λ leaf. true) net.leaves else picks pace.kind (length net.leaves) at.round) ≡ length net.leaves
    by_test true = length-map net.leaves (λ leaf. true)
    by_test false = length-map (range_with_len 0 (length net.leaves)) (is_picked pace.kind (length net.leaves) at.round) ∙ length-range_with_len 0 (length net.leaves)

-- Stalls.

waits_picks : (a : ℕ) → Waits ≡ Picks a → ⊥
waits_picks a h = cc

picks_same : (a b : ℕ) → Picks a ≡ Picks b → a ≡ b
picks_same a b h = cc

module _ {X : Type 0} (net : Network X) (s : State X) where
  one_leaf : (i a l j b m : ℕ) → IsStalled net s i a l → IsStalled net s j b m → i ≡ j
  one_leaf i a l j b m first second = ⊎_elim
      (λ low. absurd (waits_picks a (sym (second.lowest_leaf i low) ∙ first.chosen)))
      (λ high. ⊎_elim
      (λ same. sym same)
      (λ differ. absurd (waits_picks b (sym (first.lowest_leaf j (omega (arith, high, differ))) ∙ second.chosen)))
      (cases_eq j i))
      (cases_lt i j)

  one_link : (i a l j b m : ℕ) → IsStalled net s i a l → IsStalled net s j b m → l ≡ m
  one_link i a l j b m first second =
      let leaf : i ≡ j = one_leaf i a l j b m first second in
      let action : a ≡ b = picks_same a b (sym first.chosen ∙ (ap (choice_at net (all_fed net s)) leaf ∙ second.chosen)) in
      let first_there : LacksRoom net (all_fed net s) j b l = subst (λ n. LacksRoom net (all_fed net s) j n l) action (subst (λ n. LacksRoom net (all_fed net s) n a l) leaf first.lacks) in
      let second_here : LacksRoom net (all_fed net s) i a m = subst (λ n. LacksRoom net (all_fed net s) i n m) (sym action) (subst (λ n. LacksRoom net (all_fed net s) n b m) (sym leaf) second.lacks) in
      ⊎_elim
      (λ low. absurd (second.lowest_link l low first_there))
      (λ high. ⊎_elim
      (λ same. sym same)
      (λ differ. absurd (first.lowest_link m (omega (arith, high, differ)) second_here))
      (cases_eq m l))
      (cases_lt l m)

  not_quiet : AreLawful net → (i a l : ℕ) → IsStalled net s i a l → IsQuiet net s → ⊥
  not_quiet lawful i a l stalled quiet =
      by_options (slice_get net.leaves i) (slice_get (all_fed net s).actors i) (λ leaf is. lawful i leaf is) stalled.chosen (quiet.nothing i a)
    where
      by_options : (o : Option (Leaf X)) (x : Option X) → ((leaf : Leaf X) → o ≡ Some leaf → IsLawful leaf.behaviour) → choice_of net.links (all_fed net s).flows i o x ≡ Picks a
          → effect_of net.links (all_fed net s).flows i a o x ≡ None → ⊥
      by_options None x law e none = cc
      by_options (Some leaf) None law e none = cc
      by_options (Some leaf) (Some x) law e none = ⊎_elim
          (λ fires. some_none (sym fires.2 ∙ none))
          (λ traps. some_none (sym traps.1 ∙ none))
          ((law leaf refl).picks x _ a e)
        where
          some_none : {e2 : Effect X} → Some e2 ≡ None → ⊥
          some_none h = cc

  link_of : (i a l : ℕ) (o : Option Link) → LacksOn (give_of (slice_get net.leaves i) a) i o (slice_get (all_fed net s).flows l) → (link : Link) × (o ≡ Some link)
  link_of i a l None lacks = absurd lacks
  link_of i a l (Some link) lacks = (link, refl)

  module _ (held : Held (Cell X)) (stands : StandsIn net held s) where
    holds : (i a l : ℕ) → IsStalled net s i a l → capacity_at s l ≡ slice_index_or held.capacities l 0
    holds i a l stalled =
        let on = link_of i a l (slice_get net.links l) stalled.lacks in
        let flow = there_too net.links s.flows l on.0 (sym stands.stands.flows.count) on.1 in
        ap capacity_of flow.1 ∙ (stands.stands.flows.each l on.0 flow.0 on.1 flow.1).capacity_is

    pub stuck_at : (grow i a l : ℕ) → IsStalled net s i a l → grow ≤ slice_index_or held.capacities l 0 → IsStuck net grow s i a l
    stuck_at grow i a l stalled full = (let is : capacity_at s l ≡ slice_index_or held.capacities l 0 = holds i a l stalled in record { stalled = stalled; grown = omega (arith, is, full) })

    pub between_stalled : AreLawful net → IsSettled net s → (grow i a l : ℕ) → IsStalled net s i a l → slice_index_or held.capacities l 0 < grow → IsBetween net grow s
    between_stalled lawful settled grow i a l stalled below = record {
      settled = settled;
      not_quiet = not_quiet lawful i a l stalled;
      not_stuck = λ j b m is_stuck.
          let same : l ≡ m = one_link i a l j b m stalled is_stuck.stalled in
          let is : capacity_at s l ≡ slice_index_or held.capacities l 0 = holds i a l stalled in
          let less : slice_index_or held.capacities l 0 < grow = below in
          let grown : grow ≤ capacity_at s l = subst (λ n. grow ≤ capacity_at s n) (sym same) is_stuck.grown in
          omega (arith, is, less, grown);
    }

  pub between_going : IsSettled net s → (grow : ℕ) → (IsQuiet net s → ⊥) → ((i a l : ℕ) → IsStalled net s i a l → ⊥) → IsBetween net grow s
  between_going settled grow no_quiet no_stall = record {
    settled = settled;
    not_quiet = no_quiet;
    not_stuck = λ i a l is_stuck. no_stall i a l is_stuck.stalled;
  }

-- The round.

pub spent_made : {X : Type 0} (net : Network X) (s : State X) (kind : RoundKind) (budget : ℕ) (turn : Turn) (how : RunEnd) (line : Line) (old new : Held (Cell X))
    → StandsSince net old (after_delivery net s) (after_delivery net s) → s.trapped ≡ false → turn.left ≡ 0
    → StillStand old new → IsAtRest new → SameActors old.cells new.cells
    → end_line how ≡ Some line → ClosesSpent net turn.grow (after_delivery net s) (Ends line) → played net (after_delivery net s) (line ∷ []) ≡ Some (after_delivery net s)
    → IsRoundMade net (pace_by kind budget turn) (moment_by turn s) (round.End how) 0 new
spent_made net s kind budget turn how line old new since untrapped left still rest same told closes leads =
    let opened = after_delivery net s in
    let marks : List Bool = picked net (pace_by kind budget turn) (moment_by turn s) in
    let leaves : length net.leaves ≡ length old.cells =
    sym (length-map net.leaves (λ leaf. leaf.behaviour)) ∙ (ap (λ bs. length bs) since.now.is_of.actors ∙ length-map old.cells (λ cell. cell.actor)) in
    let as_many : length new.cells ≡ length marks = same.count ∙ (sym leaves ∙ sym (picked_long net (pace_by kind budget turn) (moment_by turn s))) in
    record {
      block = record { bursts = no_actions marks; close = Ends line };
      last = opened;
      is_round = record {
        untrapped = untrapped;
        halts = map halt_at marks;
        fired = opened;
        bursts = subst (λ n. AreBursts net opened (record { burst = turn.burst; left = n; picks = count_picked marks }) marks 0 0 0 opened (no_actions marks) (map halt_at marks) opened) (sym left)
            (no_bursts net opened turn.burst (count_picked marks) marks 0 0 opened (omega arith));
        closes = spent_closes _ _ (turn.left == 0) (eq-eqb turn.left 0 left) closes;
        leads = leads;
      };
      answers = (line, told, refl);
      fired_are = none_count marks;
      kept = opened;
      stands = still.since net opened opened since;
      flows_are = refl;
      untrapped = λ _. refl;
      noted = no_journals new.cells marks as_many (λ i cell at. (rest.all_out i cell at).1);
    }
  where
    none_count : (marks : List Bool) → count_of (no_actions marks) ≡ 0
    none_count [] = refl
    none_count (mark ∷ marks) = (let rest : count_of (no_actions marks) ≡ 0 = none_count marks in omega (arith, rest))

    spent_closes : (P Q : Type 0) (b : Bool) → b ≡ true → P → MatchBool b P Q
    spent_closes P Q true is p = p
    spent_closes P Q false is p = cc
