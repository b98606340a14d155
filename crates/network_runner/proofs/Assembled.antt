-- A round of a runner, put together from its steps.
use Rattle.std.proofs.Common.{◌≡◌, inr, ℕ, suc, ◌+◌, ◌≤◌, Bool, true, false, List, [], ◌∷◌, ◌++◌, length, map, refl, sym, ap, subst, ◌∙◌, arith}
use Rattle.std.specs.Prelude.{None, Some, slice_get, slice_index_or, ◌==◌}
use Rattle.trace_text.specs.declared.line.Line.{Line}
use Rattle.trace_text.specs.declared.line.Line.TheVariants.{Fire as FireLine, Trap as TrapLine, Quiet, Stall, Budget}
use Rattle.rvc_io.specs.Channels.{Channels}
use Rattle.rvc_io.specs.Feeds.{Inputs}
use Rattle.channel_writer.specs.Held.{AppendsFront, WritesOn}
use Rattle.net_model.specs.Network.{Network}
use Rattle.net_model.specs.State.{Flow, State, sent_to}
use Rattle.net_model.specs.Cell.{Cell}
use Rattle.net_model.specs.Counted.{deliveries_in}
use Rattle.net_model.specs.Laws.{AreOrdered, firings_shown}
use Rattle.net_model.specs.Paced.{Block, Close, IsRound, close_lines, count_of, fire_lines, lines_of}
use Rattle.net_model.specs.Trace.{after_delivery}
use Rattle.net_state.specs.Standing.{StandsIn}
use Rattle.net_state.proofs.Gaining.{there_too}
use Rattle.round_runner.specs.declared.outcome.RoundEnd.{RoundEnd}
use Rattle.round_runner.specs.declared.outcome.RoundEnd.TheVariants as round
use Rattle.round_runner.specs.declared.outcome.RunEnd.{RunEnd}
use Rattle.round_runner.specs.declared.outcome.RunEnd.TheVariants as end
use Rattle.round_runner.specs.Rounds.{Answers, BrokenOff, CountsOn, EachOut, Made, OutGetsSome, TraceGetsSome, end_line, out_bytes, text_of}
use Rattle.round_runner.specs.Running.{IsRunOf, Running, StandsWith, buffer, moment_of, pace_of}
use Rattle.network_runner.specs.Asking.{IsSameRun}
use Rattle.network_runner.specs.Delivering.{IsDelivered}
use Rattle.network_runner.specs.Rounding.{IsRoundMade, is_trap, moment_by, pace_by}
use Rattle.rvc_base.specs.declared.round_kind.RoundKind.{RoundKind}
use Rattle.net_model.specs.Network.{kind_at}
use Rattle.net_model.specs.PortFile.{all_encoded}
use Rattle.net_state.specs.Standing.{IsNetOf}
use Rattle.round_runner.specs.Running.{AreFedBy}
use Rattle.network_runner.specs.Counting.{sent_with}
use Rattle.network_runner.specs.Stepping.{ClosedSoFar, DeliversRun, FiresRun, KeepsOthers, LeavesSoFar, WritesFront, WritesRound, left_bytes, left_to, turn_of}
use Rattle.network_runner.proofs.Counted.{counted_more}
use Rattle.network_runner.proofs.Flowing.{AllGoneOn, round_gone}
use Rattle.network_runner.proofs.Leaving.{fed_still, out_left, outgoing_is, whole_after}
use Rattle.network_runner.proofs.Numbers.{deliveries_then, shown_then}

-- The lines of firings and of a close.

no_deliveries : (i : ℕ) (actions : List ℕ) → deliveries_in (map (FireLine i) actions) ≡ 0
no_deliveries i [] = refl
no_deliveries i (a ∷ actions) = no_deliveries i actions

shows_all : (i : ℕ) (actions : List ℕ) → length (firings_shown (map (FireLine i) actions)) ≡ length actions
shows_all i [] = refl
shows_all i (a ∷ actions) = ap suc (shows_all i actions)

fire_no_deliveries : (i : ℕ) (bursts : List (List ℕ)) → deliveries_in (fire_lines i bursts) ≡ 0
fire_no_deliveries i [] = refl
fire_no_deliveries i (actions ∷ bursts) =
    let sum : deliveries_in (map (FireLine i) actions ++ fire_lines (suc i) bursts) ≡ deliveries_in (map (FireLine i) actions) + deliveries_in (fire_lines (suc i) bursts) = deliveries_then (map (FireLine i) actions) (fire_lines (suc i) bursts) in
    let one : deliveries_in (map (FireLine i) actions) ≡ 0 = no_deliveries i actions in
    let rest : deliveries_in (fire_lines (suc i) bursts) ≡ 0 = fire_no_deliveries (suc i) bursts in
    omega (arith, sum, one, rest)

fire_shows : (i : ℕ) (bursts : List (List ℕ)) → length (firings_shown (fire_lines i bursts)) ≡ count_of bursts
fire_shows i [] = refl
fire_shows i (actions ∷ bursts) =
    let sum : length (firings_shown (map (FireLine i) actions ++ fire_lines (suc i) bursts)) ≡ length (firings_shown (map (FireLine i) actions)) + length (firings_shown (fire_lines (suc i) bursts)) = shown_then (map (FireLine i) actions) (fire_lines (suc i) bursts) in
    let one : length (firings_shown (map (FireLine i) actions)) ≡ length actions = shows_all i actions in
    let rest : length (firings_shown (fire_lines (suc i) bursts)) ≡ count_of bursts = fire_shows (suc i) bursts in
    omega (arith, sum, one, rest)

some_line : (a b : Line) → Some a ≡ Some b → a ≡ b
some_line a b e = cc

end_shows : (how : RunEnd) (line : Line) → end_line how ≡ Some line → (deliveries_in (line ∷ []) ≡ 0) × (length (firings_shown (line ∷ [])) ≡ 0)
end_shows end.Quiet line is = subst (λ k. (deliveries_in (k ∷ []) ≡ 0) × (length (firings_shown (k ∷ [])) ≡ 0)) (some_line Quiet line is) (refl, refl)
end_shows (end.Trapped inst action cause) line is = subst (λ k. (deliveries_in (k ∷ []) ≡ 0) × (length (firings_shown (k ∷ [])) ≡ 0)) (some_line (TrapLine inst.0 action.0 cause) line is) (refl, refl)
end_shows (end.Stalled inst action link) line is = subst (λ k. (deliveries_in (k ∷ []) ≡ 0) × (length (firings_shown (k ∷ [])) ≡ 0)) (some_line (Stall inst.0 action.0 link.0) line is) (refl, refl)
end_shows end.Budget line is = subst (λ k. (deliveries_in (k ∷ []) ≡ 0) × (length (firings_shown (k ∷ [])) ≡ 0)) (some_line Budget line is) (refl, refl)
end_shows (end.ReadFault feed) line is = cc
end_shows (end.WriteFault channel) line is = cc

abbrev ShowsNone : Close → Type 0
ShowsNone close = (deliveries_in (close_lines close) ≡ 0) × (length (firings_shown (close_lines close)) ≡ 0)

close_shows : (answer : RoundEnd) (block : Block) → Answers answer block → ShowsNone block.close
close_shows (round.Fired n) block is = subst ShowsNone (sym is.0) (refl, refl)
close_shows round.Idle block is = subst ShowsNone (sym is.0) (refl, refl)
close_shows (round.Grew link capacity) block is = subst ShowsNone (sym is) (refl, refl)
close_shows (round.End how) block is = subst ShowsNone (sym is.2) (end_shows how is.0 is.1)

tail_quiet : (answer : RoundEnd) (block : Block) → Answers answer block
    → (deliveries_in (fire_lines 0 block.bursts ++ close_lines block.close) ≡ 0) × (length (firings_shown (fire_lines 0 block.bursts ++ close_lines block.close)) ≡ count_of block.bursts)
tail_quiet answer block is =
    let closes = close_shows answer block is in
    let no : deliveries_in (close_lines block.close) ≡ 0 = closes.0 in
    let none : length (firings_shown (close_lines block.close)) ≡ 0 = closes.1 in
    let sum : deliveries_in (fire_lines 0 block.bursts ++ close_lines block.close) ≡ deliveries_in (fire_lines 0 block.bursts) + deliveries_in (close_lines block.close) = deliveries_then (fire_lines 0 block.bursts) (close_lines block.close) in
    let all : length (firings_shown (fire_lines 0 block.bursts ++ close_lines block.close)) ≡ length (firings_shown (fire_lines 0 block.bursts)) + length (firings_shown (close_lines block.close)) = shown_then (fire_lines 0 block.bursts) (close_lines block.close) in
    let one : deliveries_in (fire_lines 0 block.bursts) ≡ 0 = fire_no_deliveries 0 block.bursts in
    let count : length (firings_shown (fire_lines 0 block.bursts)) ≡ count_of block.bursts = fire_shows 0 block.bursts in
    (omega (arith, no, sum, one), omega (arith, none, all, count))

module _ {X : Type 0} (net : Network X) (inputs : List (List ℕ)) (budget left : ℕ) (s : State X) (run delivered fired new : Running (Cell X)) (feeds feeds_new : Inputs) (old last : Channels) (answer : RoundEnd)
    (stands : StandsWith net inputs run feeds s)
    (deliver : DeliversRun run delivered feeds feeds_new) (same : IsSameRun run delivered) (others : KeepsOthers run delivered)
    (fires : FiresRun left answer delivered fired) (same_fired : IsSameRun delivered fired) (trace_fired : fired.trace ≡ delivered.trace) (buffers_fired : fired.buffers ≡ delivered.buffers) (readings_fired : fired.readings ≡ delivered.readings)
    (within : run.counts.firings + left ≤ 1000000000000) where
  made : IsDelivered net inputs s delivered.held delivered.readings feeds_new deliver.came
  made = deliver.states net inputs s stands

  untrapped : s.trapped ≡ false
  untrapped = stands.stands.stands.untrapped

  pace_is : pace_by delivered.kind budget (turn_of delivered left) ≡ pace_of run budget
  pace_is = by_parts delivered.kind delivered.burst delivered.grow same.same_kind same.same_burst same.same_grow
    where
      by_parts : (kind : RoundKind) (burst grow : ℕ) → kind ≡ run.kind → burst ≡ run.burst → grow ≡ run.grow
          → record { kind = kind; burst = burst; budget = budget; grow = grow } ≡ pace_of run budget
      by_parts kind burst grow k b g = rw (k, b, g) refl

  moment_is : moment_by (turn_of delivered left) s ≡ moment_of run s left
  moment_is = by_parts delivered.rounds delivered.idle others.rounds others.idle
    where
      by_parts : (rounds : ℕ) (idle : Bool) → rounds ≡ run.rounds → idle ≡ run.idle
          → record { state = s; round = suc rounds; idle = idle; left = left } ≡ moment_of run s left
      by_parts rounds idle r i = rw (r, i) refl

  pub round_made : IsRoundMade net (pace_by delivered.kind budget (turn_of delivered left)) (moment_by (turn_of delivered left) s) answer fires.fired fired.held
  round_made = fires.makes net s budget made.stands untrapped stands.is_run_of.wired stands.is_run_of.lawful made.all

  abbrev block : Block
  block = round_made.block

  abbrev end_state : State X
  end_state = round_made.last

  is_round : IsRound net (pace_of run budget) (moment_of run s left) block end_state
  is_round = subst (λ p. IsRound net p (moment_of run s left) block end_state) pace_is (subst (λ m. IsRound net (pace_by delivered.kind budget (turn_of delivered left)) m block end_state) moment_is round_made.is_round)

  gone : (length end_state.flows ≡ length net.links) × AllGoneOn (count_of block.bursts) net (after_delivery net s) end_state
  gone = round_gone net (pace_by delivered.kind budget (turn_of delivered left)) (moment_by (turn_of delivered left) s) block end_state answer stands.is_run_of.wired stands.is_run_of.lawful round_made.is_round round_made.answers
      (whole_after net run.held s stands.stands stands.is_run_of.wired)

  -- the network at which the fired cells stand
  is_run_of : IsRunOf net fired
  is_run_of = record {
    is_of = round_made.stands.now.is_of;
    ins = stands.is_run_of.ins ∙ (sym same.same_ins ∙ sym same_fired.same_ins);
    outs = stands.is_run_of.outs ∙ (sym same.same_outs ∙ sym same_fired.same_outs);
    wired = stands.is_run_of.wired;
    lawful = stands.is_run_of.lawful;
  }

  ordered : AreOrdered s
  ordered l flow there =
      let link = there_too s.flows net.links l flow stands.stands.stands.flows.count there in
      let held = stands.stands.stands.flows.each l link.0 flow link.1 there in
      (held.taken, held.arrived)

  few_capacity : (l : ℕ) (flow : Flow) → slice_get s.flows l ≡ Some flow → flow.capacity ≤ 4294967295
  few_capacity l flow there =
      let link = there_too s.flows net.links l flow stands.stands.stands.flows.count there in
      let is : flow.capacity ≡ slice_index_or run.held.capacities l 0 = (stands.stands.stands.flows.each l link.0 flow link.1 there).capacity_is in
      let few : slice_index_or run.held.capacities l 0 ≤ 4294967295 = deliver.few_held l in
      omega (arith, is, few)

  -- The numbers.
  pub counts_on : CountsOn net inputs s (lines_of block) end_state run.counts fired.counts
  counts_on first before begin leads was =
      let quiet = tail_quiet answer block round_made.answers in
      let links : fired.held.links ≡ net.links = sym round_made.stands.now.is_of.links_are in
      counted_more net stands.is_run_of.wired stands.is_run_of.lawful inputs first s end_state before (fire_lines 0 block.bursts ++ close_lines block.close) run.counts fired.counts begin leads was
      quiet.0 (count_of block.bursts) quiet.1 untrapped stands.stands.stands.flows.count gone.0 gone.1 few_capacity ordered deliver.came made.told
      (fires.arrived ∙ deliver.arrived) (fires.rests ∙ deliver.rests_are) fired.held.cells
      (fires.sent ∙ (ap (λ ls. sent_with fired.held.cells ls delivered.counts.sent.items) links ∙ ap (sent_with fired.held.cells net.links) deliver.sent))
      (λ p. outgoing_is net fired.held round_made.kept round_made.stands.now stands.is_run_of.wired p ∙ ap (left_to p net.links) (sym round_made.flows_are))
      (fires.firings ∙ (ap (λ n. n + fires.fired) deliver.firings ∙ ap (λ n. run.counts.firings + n) (sym round_made.fired_are)))
      (fires.count ∙ ap suc deliver.rounds)
      (let total : fired.counts.firings ≡ delivered.counts.firings + fires.fired = fires.firings in let had : delivered.counts.firings ≡ run.counts.firings = deliver.firings in let few : fires.fired ≤ left = fires.within in omega (arith, total, had, few, within))

  -- what goes out to an output is what is left to go out where the fired cells stand
  out_text : (p : ℕ) → out_bytes net p s (sent_to p net.links end_state.flows) ≡ left_bytes net round_made.kept p
  out_text p = out_left net run.held s stands.stands stands.is_run_of.wired end_state (count_of block.bursts) gone.0 gone.1 p ∙ ap (λ fs. all_encoded (kind_at net.outs p) (left_to p net.links fs)) round_made.flows_are

  written_too : (p : ℕ) → slice_index_or run.writes p false ≡ true → slice_index_or fired.writes p false ≡ true
  written_too p is = ap (λ ws. slice_index_or ws p false) (same_fired.same_writes ∙ same.same_writes) ∙ is

  buffer_still : (p : ℕ) → buffer fired p ≡ buffer run p
  buffer_still p = ap (λ bs. slice_index_or bs p []) (buffers_fired ∙ others.buffers)

  pub breaks_writing : WritesFront answer fired old last → BrokenOff net budget left s run old last
  breaks_writing fronts = inr (record {
    block = block;
    last = end_state;
    is_round = is_round;
    breaks = record {
      trace = subst (λ t. AppendsFront 1 old last (t ++ text_of (lines_of block))) (trace_fired ∙ others.trace) (fronts.lines block round_made.answers round_made.noted);
      outputs = λ p is.
          subst (λ b. AppendsFront (2 + p) old last (b ++ out_bytes net p s (sent_to p net.links end_state.flows))) (buffer_still p)
          (subst (λ t. AppendsFront (2 + p) old last (buffer fired p ++ t)) (sym (out_text p))
          (fronts.outputs net round_made.kept is_run_of round_made.stands.now p (written_too p is)));
    };
  })

  module _ (wrote : WritesRound answer fired new old last)
      (held_new : new.held ≡ fired.held) (counts_new : new.counts ≡ fired.counts) (readings_new : new.readings ≡ fired.readings) (ins_new : new.ins ≡ fired.ins) (outs_new : new.outs ≡ fired.outs)
      (rounds_new : new.rounds ≡ fired.rounds) (idle_new : new.idle ≡ fired.idle) where
    trace : TraceGetsSome run new old last (text_of (lines_of block))
    trace = subst (λ t. WritesOn 1 old last t new.trace (text_of (lines_of block))) (trace_fired ∙ others.trace) (wrote.lines block round_made.answers round_made.noted)

    outputs : EachOut net run (OutGetsSome run new old last) s (λ p. sent_to p net.links end_state.flows)
    outputs p is =
        subst (λ b. WritesOn (2 + p) old last b (buffer new p) (out_bytes net p s (sent_to p net.links end_state.flows))) (buffer_still p)
        (subst (λ t. WritesOn (2 + p) old last (buffer fired p) (buffer new p) t) (sym (out_text p))
        (wrote.outputs net round_made.kept is_run_of round_made.stands.now p (written_too p is)))

    counts : CountsOn net inputs s (lines_of block) end_state run.counts new.counts
    counts = subst (CountsOn net inputs s (lines_of block) end_state run.counts) (sym counts_new) counts_on

    stands_new : is_trap answer ≡ false → StandsWith net inputs new feeds_new end_state
    stands_new going =
        let same_state : end_state ≡ round_made.kept = round_made.untrapped going in
        record {
          is_run_of = record {
            is_of = subst (λ h. IsNetOf net h.cells h.links) (sym held_new) round_made.stands.now.is_of;
            ins = is_run_of.ins ∙ sym ins_new;
            outs = is_run_of.outs ∙ sym outs_new;
            wired = stands.is_run_of.wired;
            lawful = stands.is_run_of.lawful;
          };
          stands = subst (λ h. StandsIn net h end_state) (sym held_new) (subst (StandsIn net fired.held) (sym same_state) round_made.stands.now);
          fed = subst (λ rs. AreFedBy net inputs end_state rs feeds_new) (sym (readings_new ∙ readings_fired))
              (fed_still net inputs (after_delivery net s) end_state (count_of block.bursts) delivered.readings feeds_new (whole_after net run.held s stands.stands stands.is_run_of.wired) gone.0 gone.1 made.fed);
        }

    going_on : is_trap answer ≡ false → Made net inputs budget left s answer run new feeds_new old last
    going_on going = record {
      block = block;
      last = end_state;
      is_round = is_round;
      answers = round_made.answers;
      stands = stands_new going;
      rounds = rounds_new ∙ (fires.rounds ∙ ap suc others.rounds);
      idle = idle_new ∙ (fires.idle ∙ ap (λ n. n == 0) (sym round_made.fired_are));
      trace = trace;
      outputs = outputs;
      counts = counts;
    }

    closed : (how : RunEnd) → answer ≡ round.End how → ClosedSoFar net inputs budget left s how run new old last
    closed how is = record {
      block = block;
      last = end_state;
      is_round = is_round;
      answers = subst (λ a. Answers a block) is round_made.answers;
      trace = trace;
      outputs = outputs;
      counts = counts;
    }

    pub leaves_so_far : LeavesSoFar net inputs budget left s answer run new feeds_new old last
    leaves_so_far = by_answer answer refl round_made.answers
      where
        by_answer : (a : RoundEnd) → answer ≡ a → Answers a block → LeavesSoFar net inputs budget left s a run new feeds_new old last
        by_answer (round.Fired n) is answers = subst (λ a. Made net inputs budget left s a run new feeds_new old last) is (going_on (ap is_trap is))
        by_answer round.Idle is answers = subst (λ a. Made net inputs budget left s a run new feeds_new old last) is (going_on (ap is_trap is))
        by_answer (round.Grew link capacity) is answers = subst (λ a. Made net inputs budget left s a run new feeds_new old last) is (going_on (ap is_trap is))
        by_answer (round.End end.Quiet) is answers = closed end.Quiet is
        by_answer (round.End (end.Trapped inst action cause)) is answers = closed (end.Trapped inst action cause) is
        by_answer (round.End (end.Stalled inst action link)) is answers = closed (end.Stalled inst action link) is
        by_answer (round.End end.Budget) is answers = closed end.Budget is
        by_answer (round.End (end.ReadFault feed)) is answers = (let no : None ≡ Some answers.0 = answers.1 in cc)
        by_answer (round.End (end.WriteFault channel)) is answers = (let no : None ≡ Some answers.0 = answers.1 in cc)
