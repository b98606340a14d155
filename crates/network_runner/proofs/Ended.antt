-- What a round leaves once what is buffered was put.
use Rattle.std.proofs.Common.{◌≡◌, ◌⊎◌, ⊎_elim, inl, inr, ℕ, ◌+◌, true, false, List, [], ◌++◌, ℤ, sym, ap, subst, ◌∙◌, append-nil, append_assoc}
use Rattle.std.specs.Prelude.{IfNone, slice_index_or}
use Rattle.rvc_io.specs.Channels.{Appends, Channels}
use Rattle.rvc_io.specs.Feeds.{Inputs}
use Rattle.channel_writer.specs.Held.{AppendsFront, HoldsFront, WritesOn}
use Rattle.channel_writer.proofs.Chains.{breaks-then}
use Rattle.net_model.specs.Network.{Network}
use Rattle.net_model.specs.State.{State, sent_to}
use Rattle.net_model.specs.Cell.{Cell}
use Rattle.net_model.specs.Paced.{lines_of}
use Rattle.round_runner.specs.declared.outcome.RoundEnd.{RoundEnd}
use Rattle.round_runner.specs.declared.outcome.RoundEnd.TheVariants as round
use Rattle.round_runner.specs.declared.outcome.RunEnd.{RunEnd}
use Rattle.round_runner.specs.declared.outcome.RunEnd.TheVariants as end
use Rattle.round_runner.specs.Rounds.{BrokenOff, Closed, CountsOn, CutOff, EachOut, Leaves, OutGetsAll, OutGetsFront, OutGetsSome, out_bytes, text_of}
use Rattle.round_runner.specs.Running.{Running, buffer}
use Rattle.network_runner.specs.Asking.{end_of}
use Rattle.network_runner.specs.Stepping.{ClosedSoFar, CutSoFar, LeavesSoFar, PutsAll, PutsBy, PutsFronts}

-- what was written and then put is there whole, or in front
pub all_put : (channel : ℕ) (old mid now : Channels) (p p' t : List ℕ) → mid.tells ≡ old.tells → WritesOn channel old mid p p' t → Appends channel mid now p' → Appends channel old now (p ++ t)
all_put channel old mid now p p' t tells wrote appended told =
    let w = wrote told in
    appended (tells ∙ told) ∙ (ap (λ h. h ++ p') w.new_is ∙ (append_assoc (old.held channel) w.put p' ∙ ap (λ u. old.held channel ++ u) (sym w.text_is)))

pub front_put : (channel : ℕ) (old mid now : Channels) (p p' t : List ℕ) → mid.tells ≡ old.tells → WritesOn channel old mid p p' t → AppendsFront channel mid now p' → AppendsFront channel old now (p ++ t)
front_put channel old mid now p p' t tells wrote front told =
    subst (λ u. HoldsFront (old.held channel) (now.held channel) (p ++ u)) (append-nil t)
    (breaks-then (old.held channel) p (mid.held channel) p' (now.held channel) t (wrote told) []
    (subst (HoldsFront (mid.held channel) (now.held channel)) (sym (append-nil p')) (front (tells ∙ told))))

module _ {X : Type 0} (net : Network X) (inputs : List (List ℕ)) (budget left : ℕ) (s : State X) (run mid new : Running (Cell X)) (old now last : Channels)
    (writes : mid.writes ≡ run.writes) (tells : now.tells ≡ old.tells) (counts : new.counts ≡ mid.counts) where
  is_written : (p : ℕ) → slice_index_or run.writes p false ≡ true → slice_index_or mid.writes p false ≡ true
  is_written p is = ap (λ ws. slice_index_or ws p false) writes ∙ is

  outs_all : (tokens : ℕ → List ℤ) → EachOut net run (OutGetsSome run mid old now) s tokens → PutsAll mid now last → EachOut net run (OutGetsAll run old last) s tokens
  outs_all tokens outs puts p is = all_put (2 + p) old now last (buffer run p) (buffer mid p) (out_bytes net p s (tokens p)) tells (outs p is) (puts.outputs p (is_written p is))

  outs_front : (tokens : ℕ → List ℤ) → EachOut net run (OutGetsSome run mid old now) s tokens → PutsFronts mid now last → EachOut net run (OutGetsFront run old last) s tokens
  outs_front tokens outs puts p is = front_put (2 + p) old now last (buffer run p) (buffer mid p) (out_bytes net p s (tokens p)) tells (outs p is) (puts.outputs p (is_written p is))

  closed_put : (how : RunEnd) → ClosedSoFar net inputs budget left s how run mid old now → PutsAll mid now last → Closed net inputs budget left s how run new old last
  closed_put how closed puts = record {
    block = closed.block;
    last = closed.last;
    is_round = closed.is_round;
    answers = closed.answers;
    trace = all_put 1 old now last run.trace mid.trace (text_of (lines_of closed.block)) tells closed.trace puts.trace;
    outputs = outs_all (λ p. sent_to p net.links closed.last.flows) closed.outputs puts;
    counts = subst (CountsOn net inputs s (lines_of closed.block) closed.last run.counts) (sym counts) closed.counts;
  }

  closed_broken : (how : RunEnd) → ClosedSoFar net inputs budget left s how run mid old now → PutsFronts mid now last → BrokenOff net budget left s run old last
  closed_broken how closed puts = inr (record {
    block = closed.block;
    last = closed.last;
    is_round = closed.is_round;
    breaks = record {
      trace = front_put 1 old now last run.trace mid.trace (text_of (lines_of closed.block)) tells closed.trace puts.trace;
      outputs = outs_front (λ p. sent_to p net.links closed.last.flows) closed.outputs puts;
    };
  })

  cut_put : (feed : ℕ) (feeds : Inputs) → CutSoFar net inputs s feed run mid feeds old now → PutsAll mid now last → CutOff net inputs s feed run new feeds old last
  cut_put feed feeds cut puts = record {
    needs = cut.needs;
    trace = all_put 1 old now last run.trace mid.trace [] tells cut.trace puts.trace;
    outputs = outs_all (λ p. sent_to p net.links s.flows) cut.outputs puts;
    counts = counts ∙ cut.counts;
  }

  cut_broken : (feed : ℕ) (feeds : Inputs) → CutSoFar net inputs s feed run mid feeds old now → PutsFronts mid now last → BrokenOff net budget left s run old last
  cut_broken feed feeds cut puts = inl (record {
    trace = front_put 1 old now last run.trace mid.trace [] tells cut.trace puts.trace;
    outputs = outs_front (λ p. sent_to p net.links s.flows) cut.outputs puts;
  })

  by_end : (how : RunEnd) (result : RoundEnd) (feeds : Inputs) → (PutsAll mid now last → Leaves net inputs budget left s (round.End how) run new feeds old last) → (PutsFronts mid now last → BrokenOff net budget left s run old last)
      → ((result ≡ round.End how) × PutsAll mid now last) ⊎ ((channel : ℕ) × (result ≡ round.End (end.WriteFault channel)) × PutsFronts mid now last)
      → Leaves net inputs budget left s result run new feeds old last
  by_end how result feeds whole broken puts = ⊎_elim
      (λ all. subst (λ a. Leaves net inputs budget left s a run new feeds old last) (sym all.0) (whole all.1))
      (λ front. subst (λ a. Leaves net inputs budget left s a run new feeds old last) (sym front.1) (broken front.2))
      puts

  still : (answer result : RoundEnd) (feeds : Inputs) → Leaves net inputs budget left s answer run mid feeds old now → (result ≡ answer) × (last ≡ now) → new ≡ mid → Leaves net inputs budget left s result run new feeds old last
  still answer result feeds leaves puts same =
      subst (λ a. Leaves net inputs budget left s a run new feeds old last) (sym puts.0)
      (subst (λ r. Leaves net inputs budget left s answer run r feeds old last) (sym same) (subst (λ c. Leaves net inputs budget left s answer run mid feeds old c) (sym puts.1) leaves))

  pub leaves_put : (answer result : RoundEnd) (feeds : Inputs) → LeavesSoFar net inputs budget left s answer run mid feeds old now → PutsBy answer result mid now last → IfNone (end_of answer) (new ≡ mid)
      → Leaves net inputs budget left s result run new feeds old last
  leaves_put (round.Fired n) result feeds so_far puts same = still (round.Fired n) result feeds so_far puts same
  leaves_put round.Idle result feeds so_far puts same = still round.Idle result feeds so_far puts same
  leaves_put (round.Grew link capacity) result feeds so_far puts same = still (round.Grew link capacity) result feeds so_far puts same
  leaves_put (round.End end.Quiet) result feeds so_far puts same = by_end end.Quiet result feeds (closed_put end.Quiet so_far) (closed_broken end.Quiet so_far) puts
  leaves_put (round.End (end.Trapped inst action trap)) result feeds so_far puts same =
      by_end (end.Trapped inst action trap) result feeds (closed_put (end.Trapped inst action trap) so_far) (closed_broken (end.Trapped inst action trap) so_far) puts
  leaves_put (round.End (end.Stalled inst action link)) result feeds so_far puts same =
      by_end (end.Stalled inst action link) result feeds (closed_put (end.Stalled inst action link) so_far) (closed_broken (end.Stalled inst action link) so_far) puts
  leaves_put (round.End end.Budget) result feeds so_far puts same = by_end end.Budget result feeds (closed_put end.Budget so_far) (closed_broken end.Budget so_far) puts
  leaves_put (round.End (end.ReadFault feed)) result feeds so_far puts same = by_end (end.ReadFault feed) result feeds (cut_put feed feeds so_far) (cut_broken feed feeds so_far) puts
  leaves_put (round.End (end.WriteFault channel)) result feeds so_far puts same =
      subst (λ a. Leaves net inputs budget left s a run new feeds old last) (sym puts.0) (subst (λ c. BrokenOff net budget left s run old c) (sym puts.1) so_far)
