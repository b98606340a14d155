-- A round once what is buffered was put, if it ended the run.
use Rattle.std.proofs.Common.{◌≡◌, ◌⊎◌, ⊎_elim, inl, inr, ℕ, ◌∙◌, arith}
use Rattle.std.specs.Prelude.{Option, None, Some, IfNone}
use Rattle.rvc_io.specs.Channels.{Channels}
use Rattle.net_model.specs.Cell.{Cell}
use Rattle.round_runner.specs.declared.outcome.RoundEnd.{RoundEnd}
use Rattle.round_runner.specs.declared.outcome.RoundEnd.TheVariants as round
use Rattle.round_runner.specs.declared.outcome.RunEnd.{RunEnd}
use Rattle.round_runner.specs.declared.outcome.RunEnd.TheVariants as end
use Rattle.round_runner.specs.Running.{Running}
use Rattle.network_runner.specs.Asking.{WritesWithin, seen_run}
use Rattle.network_runner.specs.Stepping.{PutsAll, PutsBy, PutsFronts}

-- What was put, and of whom.

all_seen : {C X : Type 0} (cell : C → Cell X) (run : Running C) (old now : Channels) → PutsAll run old now → PutsAll (seen_run cell run) old now
all_seen cell run old now puts = record { trace = puts.trace; outputs = puts.outputs }

fronts_seen : {C X : Type 0} (cell : C → Cell X) (run : Running C) (old now : Channels) → PutsFronts run old now → PutsFronts (seen_run cell run) old now
fronts_seen cell run old now puts = record { trace = puts.trace; outputs = puts.outputs }

-- all was put, or a prefix and the answer is a fault
abbrev EitherPut : {C : Type 0} → RunEnd → RoundEnd → Running C → Channels → Channels → Type 0
EitherPut how result run old now = ((result ≡ round.End how) × PutsAll run old now) ⊎ ((channel : ℕ) × (result ≡ round.End (end.WriteFault channel)) × PutsFronts run old now)

either_seen : {C X : Type 0} (cell : C → Cell X) (how : RunEnd) (result : RoundEnd) (run : Running C) (old now : Channels) → EitherPut how result run old now → EitherPut how result (seen_run cell run) old now
either_seen cell how result run old now puts = ⊎_elim (λ all. inl (all.0, all_seen cell run old now all.1)) (λ front. inr (front.0, front.1, fronts_seen cell run old now front.2)) puts

pub puts_seen : {C X : Type 0} (cell : C → Cell X) (answer result : RoundEnd) (run : Running C) (old now : Channels) → PutsBy answer result run old now → PutsBy answer result (seen_run cell run) old now
puts_seen cell (round.Fired n) result run old now puts = puts
puts_seen cell round.Idle result run old now puts = puts
puts_seen cell (round.Grew link capacity) result run old now puts = puts
puts_seen cell (round.End end.Quiet) result run old now puts = either_seen cell end.Quiet result run old now puts
puts_seen cell (round.End (end.Trapped inst action trap)) result run old now puts = either_seen cell (end.Trapped inst action trap) result run old now puts
puts_seen cell (round.End (end.Stalled inst action link)) result run old now puts = either_seen cell (end.Stalled inst action link) result run old now puts
puts_seen cell (round.End end.Budget) result run old now puts = either_seen cell end.Budget result run old now puts
puts_seen cell (round.End (end.ReadFault feed)) result run old now puts = either_seen cell (end.ReadFault feed) result run old now puts
puts_seen cell (round.End (end.WriteFault channel)) result run old now puts = puts

pub if_none_so : {A : Type 0} (o : Option A) (P Q : Type 0) → (P → Q) → IfNone o P → IfNone o Q
if_none_so None P Q f p = f p
if_none_so (Some x) P Q f p = tt

-- What stays.

pub within_then : {C : Type 0} (run : Running C) (a b c : Channels) → WritesWithin run a b → WritesWithin run b c → WritesWithin run a c
within_then run a b c first second = record {
  same_telling = second.same_telling ∙ first.same_telling;
  same_open = λ channel. second.same_open channel ∙ first.same_open channel;
  same_others = λ told channel other. second.same_others (first.same_telling ∙ told) channel other ∙ first.same_others told channel other;
  faults_stay = (let one = first.faults_stay in let two = second.faults_stay in omega (arith, one, two));
}
