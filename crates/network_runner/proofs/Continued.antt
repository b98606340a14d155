-- Rounds one after another, and the round that ends a run.
use Rattle.std.proofs.Common.{◌≡◌, ⊎_elim, ℕ, zero, suc, ◌+◌, ◌-◌, ◌<◌, Bool, true, false, List, [], ◌∷◌, ◌++◌, ℤ, length, drop, refl, sym, ap, subst, ◌∙◌, arith, append_assoc, append-nil}
use Rattle.std.specs.Prelude.{Option, None, Some, slice_get, slice_index_or, if◌then◌else◌, MatchBool, ◌==◌, ◌&&◌}
use Rattle.std.proofs.lemmas.Grind.{flat_map-append}
use Rattle.std.proofs.Math.Seq.{drop-append_seam}
use Rattle.rvc_base.specs.declared.round_kind.RoundKind.{RoundKind}
use Rattle.rvc_base.specs.declared.scalar.Scalar.{Scalar}
use Rattle.rvc_io.specs.Channels.{Appends, Channels}
use Rattle.rvc_io.specs.Feeds.{Inputs}
use Rattle.channel_writer.specs.Held.{AppendsFront, Writes, WritesOn}
use Rattle.channel_writer.proofs.Chains.{breaks-then, writes-nothing, writes-then}
use Rattle.trace_text.specs.declared.line.Line.{Line}
use Rattle.trace_text.specs.Text.{line_text}
use Rattle.net_model.specs.declared.wiring.Counts.{Counts}
use Rattle.net_model.specs.declared.wiring.Link.{Link}
use Rattle.net_model.specs.Counted.{IsCounted}
use Rattle.net_model.specs.Event.{and_then}
use Rattle.net_model.specs.Laws.{sent_of}
use Rattle.net_model.specs.Network.{Network, is_net_port, kind_at}
use Rattle.net_model.specs.Paced.{AreRounds, Block, Close, ClosesBy, ClosesIdle, ClosesSpent, Ends, EndsRun, GoesOn, IsRound, Moment, Pace, Widens, count_of, count_picked, first_trap, lines_of, next_moment, picked}
use Rattle.net_model.specs.PortFile.{all_encoded, encoded}
use Rattle.net_model.specs.Stable.{IsPrefix}
use Rattle.net_model.specs.State.{Flow, State, sent_to}
use Rattle.net_model.specs.Trace.{PlaysFrom, goes, played}
use Rattle.net_model.specs.Cell.{Cell}
use Rattle.net_model.proofs.Growth.{played_grows}
use Rattle.net_model.proofs.Lines.{played_flows, plays_played}
use Rattle.net_model.proofs.Rounds.{either, round_plays}
use Rattle.round_runner.specs.declared.outcome.RoundEnd.{RoundEnd}
use Rattle.round_runner.specs.declared.outcome.RoundEnd.TheVariants as round
use Rattle.round_runner.specs.declared.outcome.RunEnd.{RunEnd}
use Rattle.round_runner.specs.declared.outcome.RunEnd.TheVariants as end
use Rattle.round_runner.specs.Rounds.{Answers, Breaks, BreaksRound, Closed, CountsOn, CutOff, EachOut, Ended, EndedBroken, EndedEarly, Leaves, Made, OutGetsAll, OutGetsFront, OutGetsSome, RunLeaves, TraceGetsAll, TraceGetsFront, TraceGetsSome, all_lines, out_bytes, text_of}
use Rattle.round_runner.specs.Running.{Running, StandsWith, buffer, moment_of, pace_of}
use Rattle.network_runner.specs.Asking.{IsSameRun, end_of}
use Rattle.network_runner.proofs.Rounded.{not_zero}
use Rattle.network_runner.proofs.Whole.{drop_all}

-- Rounds and their lines.

-- the lines of rounds play
rounds_play : {X : Type 0} (net : Network X) (pace : Pace) (at : Moment X) (blocks : List Block) (reached : Moment X) → AreRounds net pace at blocks reached
    → PlaysFrom net pace.grow at.state (all_lines blocks) reached.state
rounds_play net pace at [] reached same = ap (λ m. m.state) same
rounds_play net pace at (block ∷ blocks) reached are =
    round_plays net pace at block are.0 are.1 (all_lines blocks) reached.state (λ ends. absurd (are.2 ends))
    (rounds_play net pace (next_moment at block are.0) blocks reached are.3)

-- one round more
pub rounds_more : {X : Type 0} (net : Network X) (pace : Pace) (at : Moment X) (blocks : List Block) (reached : Moment X) (block : Block) (last : State X)
    → AreRounds net pace at blocks reached → IsRound net pace reached block last → (EndsRun block.close → ⊥)
    → AreRounds net pace at (blocks ++ block ∷ []) (next_moment reached block last)
rounds_more {X} net pace at [] reached block last same is unended = (
  last,
  subst (λ (m : Moment X). IsRound net pace m block last) (sym same) is,
  unended,
  ap (λ (m : Moment X). next_moment m block last) same,
)
rounds_more net pace at (first ∷ blocks) reached block last are is unended =
    (are.0, are.1, are.2, rounds_more net pace (next_moment at first are.0) blocks reached block last are.3 is unended)

pub lines_more : (blocks : List Block) (block : Block) → all_lines (blocks ++ block ∷ []) ≡ all_lines blocks ++ lines_of block
lines_more blocks block = flat_map-append lines_of blocks (block ∷ []) ∙ ap (λ ls. all_lines blocks ++ ls) (append-nil (lines_of block))

text_more : (lines more : List Line) → text_of (lines ++ more) ≡ text_of lines ++ text_of more
text_more lines more = flat_map-append line_text lines more

-- lines that lead on
step_on : {X : Type 0} (o : Option (State X)) (f g : State X → Option (State X)) (t u : State X) → and_then o f ≡ Some t → ((w : State X) → f w ≡ Some t → g w ≡ Some u) → and_then o g ≡ Some u
step_on None f g t u leads on = cc
step_on (Some w) f g t u leads on = on w leads

played_on : {X : Type 0} (net : Network X) (s t u : State X) (lines more : List Line) → played net s lines ≡ Some t → played net t more ≡ Some u → played net s (lines ++ more) ≡ Some u
played_on {X} net s t u [] more leads on = subst (λ (w : State X). played net w more ≡ Some u) (some_is t s (sym leads)) on
  where
    some_is : (a b : State X) → Some a ≡ Some b → a ≡ b
    some_is a b e = cc
played_on net s t u (line ∷ lines) more leads on =
    step_on (goes net s line) (λ w. played net w lines) (λ w. played net w (lines ++ more)) t u leads (λ w there. played_on net w t u lines more there on)

-- How a round that doesn't end the run is closed.

pub stays_open : (answer : RoundEnd) (block : Block) → Answers answer block → end_of answer ≡ None → EndsRun block.close → ⊥
stays_open (round.Fired n) block is going ends = subst EndsRun is.0 ends
stays_open round.Idle block is going ends = subst EndsRun is.0 ends
stays_open (round.Grew link capacity) block is going ends = subst EndsRun is ends
stays_open (round.End how) block is going ends = cc

is_zero : (n : ℕ) → (n == 0) ≡ true → n ≡ 0
is_zero zero is = refl
is_zero (suc n) is = (let no : true ≡ false = sym is ∙ not_zero (suc n) (omega arith) in cc)

second_true : (a b : Bool) → (a && b) ≡ true → b ≡ true
second_true true b is = is
second_true false b is = cc

both_cases : (b : Bool) (P Q R : Type 0) → (b ≡ true → P → R) → (Q → R) → MatchBool b P Q → R
both_cases true P Q R p q is = p refl is
both_cases false P Q R p q is = q is

-- a link grows only if nothing fired
grown_by : {X : Type 0} (net : Network X) (grow : ℕ) (marks : List Bool) (bursts : List (List ℕ)) (trap : Option Line) (s : State X) (close : Close) (l capacity : ℕ)
    → close ≡ Widens l capacity → ClosesBy net grow marks bursts trap s close → count_of bursts ≡ 0
grown_by net grow marks bursts (Some line) s close l capacity is closes = (let not_both : Widens l capacity ≡ Ends line = sym is ∙ closes in cc)
grown_by net grow marks bursts None s close l capacity is closes =
    both_cases ((count_picked marks == length marks) && (count_of bursts == 0)) (ClosesIdle net grow s close) (close ≡ GoesOn) (count_of bursts ≡ 0)
    (λ both idle. is_zero (count_of bursts) (second_true (count_picked marks == length marks) (count_of bursts == 0) both))
    (λ goes_on. (let not_both : Widens l capacity ≡ GoesOn = sym is ∙ goes_on in cc))
    closes

grown_idle : {X : Type 0} (net : Network X) (pace : Pace) (at : Moment X) (block : Block) (last : State X) (l capacity : ℕ) → IsRound net pace at block last → block.close ≡ Widens l capacity → count_of block.bursts ≡ 0
grown_idle net pace at block last l capacity is close =
    either (at.left == 0) (ClosesSpent net pace.grow is.fired block.close)
    (ClosesBy net pace.grow (picked net pace at) block.bursts (first_trap 0 is.halts) is.fired block.close) (count_of block.bursts ≡ 0)
    (λ spent. absurd (subst (ClosesSpent net pace.grow is.fired) close spent))
    (grown_by net pace.grow (picked net pace at) block.bursts (first_trap 0 is.halts) is.fired block.close l capacity close)
    is.closes

-- how many firings are left behind a round
abbrev pub left_after : RoundEnd → ℕ → ℕ
left_after (round.Fired n) left = left - n
left_after round.Idle left = left
left_after (round.Grew link capacity) left = left
left_after (round.End how) left = left

left_is : {X : Type 0} (net : Network X) (pace : Pace) (at : Moment X) (answer : RoundEnd) (block : Block) (last : State X) (left : ℕ)
    → IsRound net pace at block last → Answers answer block → end_of answer ≡ None → left - count_of block.bursts ≡ left_after answer left
left_is net pace at (round.Fired n) block last left is answers going = ap (λ k. left - k) answers.1
left_is net pace at round.Idle block last left is answers going = (let none : count_of block.bursts ≡ 0 = answers.1 in omega (arith, none))
left_is net pace at (round.Grew link capacity) block last left is answers going =
    (let none : count_of block.bursts ≡ 0 = grown_idle net pace at block last link.0 capacity is answers in omega (arith, none))
left_is net pace at (round.End how) block last left is answers going = cc

-- What goes out.

by_test : (b : Bool) (xs ys us vs : List ℤ) → IsPrefix xs us → IsPrefix ys vs → IsPrefix (if b then xs else ys) (if b then us else vs)
by_test true xs ys us vs one other = one
by_test false xs ys us vs one other = other

to_grows : (p : ℕ) (links : List Link) (flows lasts : List Flow) → length flows ≡ length links → length lasts ≡ length links
    → ((l : ℕ) → l < length links → IsPrefix (sent_of (slice_get flows l)) (sent_of (slice_get lasts l))) → IsPrefix (sent_to p links flows) (sent_to p links lasts)
to_grows p [] flows lasts count counts each = ([], refl)
to_grows p (link ∷ links) [] lasts count counts each = absurd (omega (arith, count))
to_grows p (link ∷ links) (flow ∷ flows) [] count counts each = absurd (omega (arith, counts))
to_grows p (link ∷ links) (flow ∷ flows) (last ∷ lasts) count counts each =
    by_test (is_net_port p link.to) flow.sent (sent_to p links flows) last.sent (sent_to p links lasts) (each 0 (omega arith))
    (to_grows p links flows lasts (omega (arith, count)) (omega (arith, counts)) (λ l low. each (suc l) (omega (arith, low))))

bytes_by_parts : (kind : Scalar) (xs ys zs : List ℤ) → IsPrefix xs ys → IsPrefix ys zs
    → all_encoded kind (drop (length xs) zs) ≡ all_encoded kind (drop (length xs) ys) ++ all_encoded kind (drop (length ys) zs)
bytes_by_parts kind xs ys zs one two =
    let first : drop (length xs) ys ≡ one.0 = ap (drop (length xs)) one.1 ∙ drop-append_seam xs one.0 in
    let second : drop (length ys) zs ≡ two.0 = ap (drop (length ys)) two.1 ∙ drop-append_seam ys two.0 in
    let whole : zs ≡ xs ++ (one.0 ++ two.0) = two.1 ∙ (ap (λ ts. ts ++ two.0) one.1 ∙ append_assoc xs one.0 two.0) in
    let both : drop (length xs) zs ≡ one.0 ++ two.0 = ap (drop (length xs)) whole ∙ drop-append_seam xs (one.0 ++ two.0) in
    ap (all_encoded kind) both
    ∙ (flat_map-append (encoded kind) one.0 two.0
    ∙ (ap (λ ts. all_encoded kind ts ++ all_encoded kind two.0) (sym first)
    ∙ ap (λ ts. all_encoded kind (drop (length xs) ys) ++ all_encoded kind ts) (sym second)))

-- Channels, to which one text was written and then another.

module _ (channel : ℕ) (old mid new : Channels) (pending pending_mid first : List ℕ) (tells : mid.tells ≡ old.tells) (wrote : WritesOn channel old mid pending pending_mid first) where
  then_some : (second pending_new : List ℕ) → WritesOn channel mid new pending_mid pending_new second → WritesOn channel old new pending pending_new (first ++ second)
  then_some second pending_new more told =
      writes-then (old.held channel) pending (mid.held channel) pending_mid (new.held channel) first (wrote told) pending_new second (more (tells ∙ told))

  then_front : (second : List ℕ) → AppendsFront channel mid new (pending_mid ++ second) → AppendsFront channel old new (pending ++ (first ++ second))
  then_front second more told =
      breaks-then (old.held channel) pending (mid.held channel) pending_mid (new.held channel) first (wrote told) second (more (tells ∙ told))

  then_all : (second : List ℕ) → Appends channel mid new (pending_mid ++ second) → Appends channel old new (pending ++ (first ++ second))
  then_all second more told =
      let all : Writes (mid.held channel) pending_mid (new.held channel) [] second =
      record { put = pending_mid ++ second; new_is = more (tells ∙ told); text_is = sym (append-nil (pending_mid ++ second)) } in
      let both : Writes (old.held channel) pending (new.held channel) [] (first ++ second) =
      writes-then (old.held channel) pending (mid.held channel) pending_mid (new.held channel) first (wrote told) [] second all in
      both.new_is ∙ ap (λ t. old.held channel ++ t) (sym (both.text_is ∙ append-nil both.put))

-- Numbers.

counts_then : {X : Type 0} (net : Network X) (inputs : List (List ℕ)) (s mid last : State X) (lines more : List Line) (c0 c1 c2 : Counts) → played net s lines ≡ Some mid
    → CountsOn net inputs s lines mid c0 c1 → CountsOn net inputs mid more last c1 c2 → CountsOn net inputs s (lines ++ more) last c0 c2
counts_then net inputs s mid last lines more c0 c1 c2 leads one two first before begin there was =
    subst (λ ls. IsCounted net inputs first ls last c2) (append_assoc before lines more)
    (two first (before ++ lines) begin (played_on net first s mid before lines there leads) (one first before begin there was))

-- A run so far: rounds were made, and none has ended it.
pub record RunSoFar {X : Type 0} (net : Network X) (inputs : List (List ℕ)) (budget left : ℕ) (s : State X) (run now : Running (Cell X)) (feeds : Inputs) (old mid : Channels) : Type 0 where
  pub blocks : List Block
  pub reached : State X
  pub rounds : AreRounds net (pace_of run budget) (moment_of run s budget) blocks (moment_of now reached left)
  pub stands : StandsWith net inputs now feeds reached
  pub trace : TraceGetsSome run now old mid (text_of (all_lines blocks))
  pub outputs : EachOut net run (OutGetsSome run now old mid) s (λ p. sent_to p net.links reached.flows)
  pub counts : CountsOn net inputs s (all_lines blocks) reached run.counts now.counts

-- nothing was made yet
pub run_starts : {X : Type 0} (net : Network X) (inputs : List (List ℕ)) (budget : ℕ) (s : State X) (run : Running (Cell X)) (feeds : Inputs) (channels : Channels)
    → StandsWith net inputs run feeds s → RunSoFar net inputs budget budget s run run feeds channels channels
run_starts net inputs budget s run feeds channels stands = record {
  blocks = [];
  reached = s;
  rounds = refl;
  stands = stands;
  trace = λ told. writes-nothing (channels.held 1) run.trace;
  outputs = λ p is told.
      subst (λ t. Writes (channels.held (2 + p)) (buffer run p) (channels.held (2 + p)) (buffer run p) t)
      (sym (ap (all_encoded (kind_at net.outs p)) (drop_all (sent_to p net.links s.flows))))
      (writes-nothing (channels.held (2 + p)) (buffer run p));
  counts = λ first before begin there was. subst (λ ls. IsCounted net inputs first ls s run.counts) (sym (append-nil before)) was;
}

module _ {X : Type 0} (net : Network X) (inputs : List (List ℕ)) (budget left : ℕ) (s : State X) (run now : Running (Cell X)) (feeds : Inputs) (old mid : Channels)
    (so_far : RunSoFar net inputs budget left s run now feeds old mid)
    (flows : length s.flows ≡ length net.links) (same : IsSameRun run now) (tells : mid.tells ≡ old.tells) where
  pace_is : pace_of now budget ≡ pace_of run budget
  pace_is = by_parts now.kind now.burst now.grow same.same_kind same.same_burst same.same_grow
    where
      by_parts : (kind : RoundKind) (burst grow : ℕ) → kind ≡ run.kind → burst ≡ run.burst → grow ≡ run.grow
          → record { kind = kind; burst = burst; budget = budget; grow = grow } ≡ pace_of run budget
      by_parts kind burst grow k b g = rw (k, b, g) refl

  -- the state that was reached
  leads : played net s (all_lines so_far.blocks) ≡ Some so_far.reached
  leads = plays_played net run.grow s (all_lines so_far.blocks) so_far.reached
      (rounds_play net (pace_of run budget) (moment_of run s budget) so_far.blocks (moment_of now so_far.reached left) so_far.rounds)

  flows_reached : length so_far.reached.flows ≡ length net.links
  flows_reached = so_far.stands.stands.stands.flows.count

  grows_so_far : (p : ℕ) → IsPrefix (sent_to p net.links s.flows) (sent_to p net.links so_far.reached.flows)
  grows_so_far p = to_grows p net.links s.flows so_far.reached.flows flows flows_reached (played_grows net s so_far.reached (all_lines so_far.blocks) leads)

  written_too : (p : ℕ) → slice_index_or run.writes p false ≡ true → slice_index_or now.writes p false ≡ true
  written_too p is = ap (λ ws. slice_index_or ws p false) same.same_writes ∙ is

  -- One round more.
  module _ (block : Block) (last : State X) (is : IsRound net (pace_of now budget) (moment_of now so_far.reached left) block last) where
    is_round : IsRound net (pace_of run budget) (moment_of now so_far.reached left) block last
    is_round = subst (λ p. IsRound net p (moment_of now so_far.reached left) block last) pace_is is

    leads_on : played net so_far.reached (lines_of block) ≡ Some last
    leads_on = subst (λ ls. played net so_far.reached ls ≡ Some last) (append-nil (lines_of block))
        (plays_played net now.grow so_far.reached (lines_of block ++ []) last
        (round_plays net (pace_of now budget) (moment_of now so_far.reached left) block last is [] last (λ ends. refl) refl))

    bytes_more : (p : ℕ) → out_bytes net p s (sent_to p net.links so_far.reached.flows) ++ out_bytes net p so_far.reached (sent_to p net.links last.flows) ≡ out_bytes net p s (sent_to p net.links last.flows)
    bytes_more p = sym (bytes_by_parts (kind_at net.outs p) (sent_to p net.links s.flows) (sent_to p net.links so_far.reached.flows) (sent_to p net.links last.flows) (grows_so_far p)
        (to_grows p net.links so_far.reached.flows last.flows flows_reached (played_flows net so_far.reached last (lines_of block) flows_reached leads_on) (played_grows net so_far.reached last (lines_of block) leads_on)))

    text_then : text_of (all_lines so_far.blocks) ++ text_of (lines_of block) ≡ text_of (all_lines so_far.blocks ++ lines_of block)
    text_then = sym (text_more (all_lines so_far.blocks) (lines_of block))

    counts_more : (counts : Counts) → CountsOn net inputs so_far.reached (lines_of block) last now.counts counts → CountsOn net inputs s (all_lines so_far.blocks ++ lines_of block) last run.counts counts
    counts_more counts more = counts_then net inputs s so_far.reached last (all_lines so_far.blocks) (lines_of block) run.counts now.counts counts leads so_far.counts more

    module _ (new : Channels) where
      trace_all : TraceGetsAll now mid new (text_of (lines_of block)) → TraceGetsAll run old new (text_of (all_lines so_far.blocks ++ lines_of block))
      trace_all more = subst (λ t. Appends 1 old new (run.trace ++ t)) text_then
          (then_all 1 old mid new run.trace now.trace (text_of (all_lines so_far.blocks)) tells so_far.trace (text_of (lines_of block)) more)

      trace_front : TraceGetsFront now mid new (text_of (lines_of block)) → TraceGetsFront run old new (text_of (all_lines so_far.blocks ++ lines_of block))
      trace_front more = subst (λ t. AppendsFront 1 old new (run.trace ++ t)) text_then
          (then_front 1 old mid new run.trace now.trace (text_of (all_lines so_far.blocks)) tells so_far.trace (text_of (lines_of block)) more)

      outs_all : EachOut net now (OutGetsAll now mid new) so_far.reached (λ p. sent_to p net.links last.flows) → EachOut net run (OutGetsAll run old new) s (λ p. sent_to p net.links last.flows)
      outs_all more p is_written = subst (λ t. Appends (2 + p) old new (buffer run p ++ t)) (bytes_more p)
          (then_all (2 + p) old mid new (buffer run p) (buffer now p) (out_bytes net p s (sent_to p net.links so_far.reached.flows)) tells (so_far.outputs p is_written)
          (out_bytes net p so_far.reached (sent_to p net.links last.flows)) (more p (written_too p is_written)))

      outs_front : EachOut net now (OutGetsFront now mid new) so_far.reached (λ p. sent_to p net.links last.flows) → EachOut net run (OutGetsFront run old new) s (λ p. sent_to p net.links last.flows)
      outs_front more p is_written = subst (λ t. AppendsFront (2 + p) old new (buffer run p ++ t)) (bytes_more p)
          (then_front (2 + p) old mid new (buffer run p) (buffer now p) (out_bytes net p s (sent_to p net.links so_far.reached.flows)) tells (so_far.outputs p is_written)
          (out_bytes net p so_far.reached (sent_to p net.links last.flows)) (more p (written_too p is_written)))

  -- a round that doesn't end the run
  pub run_goes_on : (answer : RoundEnd) (left_new : ℕ) (next : Running (Cell X)) (feeds_new : Inputs) (new : Channels) → Made net inputs budget left so_far.reached answer now next feeds_new mid new
      → end_of answer ≡ None → left_new ≡ left_after answer left → RunSoFar net inputs budget left_new s run next feeds_new old new
  run_goes_on answer left_new next feeds_new new made going left_new_is = record {
    blocks = so_far.blocks ++ made.block ∷ [];
    reached = made.last;
    rounds = subst (AreRounds net (pace_of run budget) (moment_of run s budget) (so_far.blocks ++ made.block ∷ []))
        (by_parts (suc now.rounds) (count_of made.block.bursts == 0) (left - count_of made.block.bursts) (sym made.rounds) (sym made.idle)
        (left_is net (pace_of now budget) (moment_of now so_far.reached left) answer made.block made.last left made.is_round made.answers going ∙ sym left_new_is))
        (rounds_more net (pace_of run budget) (moment_of run s budget) so_far.blocks (moment_of now so_far.reached left) made.block made.last so_far.rounds
        (is_round made.block made.last made.is_round) (stays_open answer made.block made.answers going));
    stands = made.stands;
    trace = subst (λ t. WritesOn 1 old new run.trace next.trace t)
        (text_then made.block made.last made.is_round ∙ ap text_of (sym (lines_more so_far.blocks made.block)))
        (then_some 1 old mid new run.trace now.trace (text_of (all_lines so_far.blocks)) tells so_far.trace (text_of (lines_of made.block)) next.trace made.trace);
    outputs = λ p is_written. subst (λ t. WritesOn (2 + p) old new (buffer run p) (buffer next p) t) (bytes_more made.block made.last made.is_round p)
        (then_some (2 + p) old mid new (buffer run p) (buffer now p) (out_bytes net p s (sent_to p net.links so_far.reached.flows)) tells (so_far.outputs p is_written)
        (out_bytes net p so_far.reached (sent_to p net.links made.last.flows)) (buffer next p) (made.outputs p (written_too p is_written)));
    counts = subst (λ ls. CountsOn net inputs s ls made.last run.counts next.counts) (sym (lines_more so_far.blocks made.block))
        (counts_more made.block made.last made.is_round next.counts made.counts);
  }
    where
      by_parts : (rounds : ℕ) (idle : Bool) (k : ℕ) → rounds ≡ next.rounds → idle ≡ next.idle → k ≡ left_new
          → record { state = made.last; round = suc rounds; idle = idle; left = k } ≡ moment_of next made.last left_new
      by_parts rounds idle k r i l = rw (r, i, l) refl

  module _ (next : Running (Cell X)) (new : Channels) where
    run_closes : (how : RunEnd) → Closed net inputs budget left so_far.reached how now next mid new → Ended net inputs budget s how run next old new
    run_closes how closed = record {
      blocks = so_far.blocks;
      final = closed.block;
      last = closed.last;
      paced = (moment_of now so_far.reached left, so_far.rounds, is_round closed.block closed.last closed.is_round);
      answers = closed.answers;
      wrote = record {
        trace = trace_all closed.block closed.last closed.is_round new closed.trace;
        outputs = outs_all closed.block closed.last closed.is_round new closed.outputs;
        counts = counts_more closed.block closed.last closed.is_round next.counts closed.counts;
      };
    }

    -- no round more was made
    no_bytes : (p : ℕ) → out_bytes net p s (sent_to p net.links so_far.reached.flows) ++ out_bytes net p so_far.reached (sent_to p net.links so_far.reached.flows) ≡ out_bytes net p s (sent_to p net.links so_far.reached.flows)
    no_bytes p = ap (λ ts. out_bytes net p s (sent_to p net.links so_far.reached.flows) ++ all_encoded (kind_at net.outs p) ts) (drop_all (sent_to p net.links so_far.reached.flows))
        ∙ append-nil (out_bytes net p s (sent_to p net.links so_far.reached.flows))

    run_cut : (feed : ℕ) (feeds_new : Inputs) → CutOff net inputs so_far.reached feed now next feeds_new mid new → EndedEarly net inputs budget s feed run next feeds_new old new
    run_cut feed feeds_new cut = record {
      blocks = so_far.blocks;
      last = so_far.reached;
      begun = (moment_of now so_far.reached left, so_far.rounds, refl);
      needs = cut.needs;
      wrote = record {
        trace = subst (λ t. Appends 1 old new (run.trace ++ t)) (append-nil (text_of (all_lines so_far.blocks)))
            (then_all 1 old mid new run.trace now.trace (text_of (all_lines so_far.blocks)) tells so_far.trace [] cut.trace);
        outputs = λ p is_written. subst (λ t. Appends (2 + p) old new (buffer run p ++ t)) (no_bytes p)
            (then_all (2 + p) old mid new (buffer run p) (buffer now p) (out_bytes net p s (sent_to p net.links so_far.reached.flows)) tells (so_far.outputs p is_written)
            (out_bytes net p so_far.reached (sent_to p net.links so_far.reached.flows)) (cut.outputs p (written_too p is_written)));
        counts = subst (λ (c : Counts). CountsOn net inputs s (all_lines so_far.blocks) so_far.reached run.counts c) (sym cut.counts) so_far.counts;
      };
    }

    run_breaks : Breaks net so_far.reached so_far.reached [] now mid new → EndedBroken net budget s run old new
    run_breaks breaks = record {
      blocks = so_far.blocks;
      final = None;
      last = so_far.reached;
      begun = (moment_of now so_far.reached left, so_far.rounds, refl);
      breaks = record {
        trace = subst (λ bs. AppendsFront 1 old new (run.trace ++ text_of (all_lines bs))) (sym (append-nil so_far.blocks))
            (subst (λ t. AppendsFront 1 old new (run.trace ++ t)) (append-nil (text_of (all_lines so_far.blocks)))
            (then_front 1 old mid new run.trace now.trace (text_of (all_lines so_far.blocks)) tells so_far.trace [] breaks.trace));
        outputs = λ p is_written. subst (λ t. AppendsFront (2 + p) old new (buffer run p ++ t)) (no_bytes p)
            (then_front (2 + p) old mid new (buffer run p) (buffer now p) (out_bytes net p s (sent_to p net.links so_far.reached.flows)) tells (so_far.outputs p is_written)
            (out_bytes net p so_far.reached (sent_to p net.links so_far.reached.flows)) (breaks.outputs p (written_too p is_written)));
      };
    }

    run_breaks_round : BreaksRound net budget left so_far.reached now mid new → EndedBroken net budget s run old new
    run_breaks_round broken = record {
      blocks = so_far.blocks;
      final = Some broken.block;
      last = broken.last;
      begun = (moment_of now so_far.reached left, so_far.rounds, is_round broken.block broken.last broken.is_round);
      breaks = record {
        trace = subst (λ ls. AppendsFront 1 old new (run.trace ++ text_of ls)) (sym (lines_more so_far.blocks broken.block))
            (trace_front broken.block broken.last broken.is_round new broken.breaks.trace);
        outputs = outs_front broken.block broken.last broken.is_round new broken.breaks.outputs;
      };
    }

    -- what the last round leaves is what the run leaves
    pub run_ends : (how : RunEnd) (feeds_new : Inputs) → Leaves net inputs budget left so_far.reached (round.End how) now next feeds_new mid new → RunLeaves net inputs budget s how run next feeds_new old new
    run_ends end.Quiet feeds_new leaves = run_closes end.Quiet leaves
    run_ends (end.Trapped inst action trap) feeds_new leaves = run_closes (end.Trapped inst action trap) leaves
    run_ends (end.Stalled inst action link) feeds_new leaves = run_closes (end.Stalled inst action link) leaves
    run_ends end.Budget feeds_new leaves = run_closes end.Budget leaves
    run_ends (end.ReadFault feed) feeds_new leaves = run_cut feed feeds_new leaves
    run_ends (end.WriteFault channel) feeds_new leaves = ⊎_elim run_breaks run_breaks_round leaves
