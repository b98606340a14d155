-- Workers that arrive at the gate, round by round.
use Rattle.std.proofs.Common.{◌≡◌, ◌⊎◌, ⊎_elim, inl, inr, ℕ, suc, ◌+◌, ◌-◌, Bool, length, refl, sym, ap, subst, ◌∙◌, arith}
use Rattle.std.specs.Prelude.{None, ◌==◌}
use Rattle.rvc_io.specs.Channels.{Channels}
use Rattle.net_model.specs.Cell.{Cell}
use Rattle.round_runner.specs.declared.outcome.RoundEnd.{RoundEnd}
use Rattle.round_runner.specs.declared.outcome.RoundEnd.TheVariants as round
use Rattle.round_runner.specs.declared.outcome.RunEnd.{RunEnd}
use Rattle.round_runner.specs.declared.outcome.RunEnd.TheVariants as end
use Rattle.round_runner.specs.Running.{Running}
use Rattle.network_runner.specs.Arriving.{Arrivals, ArriveBy, MakesNone, MakesOne, RoundArrives, RunArrives, Stage, WorkersArrive, more, none, stage_of}
use Rattle.network_runner.specs.Asking.{IsSameRun, end_of, seen_run}
use Rattle.network_runner.specs.Rounding.{IsNoFault}
use Rattle.network_runner.specs.Stepping.{PutsBy, SameButEnd}
use Rattle.network_runner.proofs.Fitting.{as_many_cells}

-- One round.

-- it is told of the same kind of round
pub arrive_as : {C : Type 0} (arrived : ℕ → ℕ → Type 0) (left : ℕ) (run now : Running C) → now.kind ≡ run.kind → now.workers ≡ run.workers → length now.held.cells ≡ length run.held.cells
    → now.counts.rounds ≡ run.counts.rounds → now.idle ≡ run.idle → RoundArrives arrived now left → RoundArrives arrived run left
arrive_as arrived left run now kind workers cells rounds idle arrive =
    subst (λ k. WorkersArrive arrived k run.workers (length run.held.cells) (stage_of run left)) kind
    (subst (λ n. WorkersArrive arrived now.kind n (length run.held.cells) (stage_of run left)) workers
    (subst (λ n. WorkersArrive arrived now.kind now.workers n (stage_of run left)) cells
    (subst (λ n. WorkersArrive arrived now.kind now.workers (length now.held.cells) (record { round = suc n; idle = run.idle; left = left })) rounds
    (subst (λ b. WorkersArrive arrived now.kind now.workers (length now.held.cells) (record { round = suc now.counts.rounds; idle = b; left = left })) idle arrive))))

-- .. of a run that stays the same
pub arrive_in : {C X : Type 0} (cell : C → Cell X) (arrived : ℕ → ℕ → Type 0) (left : ℕ) (run now : Running C) → IsSameRun (seen_run cell run) (seen_run cell now)
    → now.counts.rounds ≡ run.counts.rounds → now.idle ≡ run.idle → RoundArrives arrived now left → RoundArrives arrived run left
arrive_in cell arrived left run now same rounds idle arrive =
    arrive_as arrived left run now same.same_kind same.same_workers (as_many_cells cell now.held.cells run.held.cells same.same_actors.count) rounds idle arrive

-- by the answer
pub arrive_by : {C : Type 0} (arrived : ℕ → ℕ → Type 0) (answer : RoundEnd) (left : ℕ) (run new : Running C) → IsNoFault answer → MakesOne arrived left run new → ArriveBy arrived answer left run new
arrive_by arrived (round.Fired n) left run new sound one = one
arrive_by arrived round.Idle left run new sound one = one
arrive_by arrived (round.Grew link capacity) left run new sound one = one
arrive_by arrived (round.End end.Quiet) left run new sound one = one
arrive_by arrived (round.End (end.Trapped inst action trap)) left run new sound one = one
arrive_by arrived (round.End (end.Stalled inst action link)) left run new sound one = one
arrive_by arrived (round.End end.Budget) left run new sound one = one
arrive_by arrived (round.End (end.ReadFault feed)) left run new sound one = absurd sound
arrive_by arrived (round.End (end.WriteFault channel)) left run new sound one = absurd sound

none_too : {C : Type 0} (run new last : Running C) → last.counts.rounds ≡ new.counts.rounds → last.idle ≡ new.idle → last.counts.firings ≡ new.counts.firings → MakesNone run new → MakesNone run last
none_too run new last rounds idle firings makes = record { rounds = rounds ∙ makes.rounds; idle = idle ∙ makes.idle; firings = firings ∙ makes.firings }

one_too : {C : Type 0} (arrived : ℕ → ℕ → Type 0) (left : ℕ) (run new last : Running C) → last.counts.rounds ≡ new.counts.rounds → last.idle ≡ new.idle → last.counts.firings ≡ new.counts.firings → MakesOne arrived left run new
    → MakesOne arrived left run last
one_too arrived left run new last rounds idle firings makes = record {
  fired = makes.fired;
  within = makes.within;
  rounds = rounds ∙ makes.rounds;
  idle = idle ∙ makes.idle;
  firings = firings ∙ makes.firings;
  arrive = makes.arrive;
}

-- if a write fails behind it
pub arrive_broken : {C : Type 0} (arrived : ℕ → ℕ → Type 0) (answer : RoundEnd) (channel left : ℕ) (run new : Running C) → ArriveBy arrived answer left run new
    → ArriveBy arrived (round.End (end.WriteFault channel)) left run new
arrive_broken arrived (round.Fired n) channel left run new by = inr by
arrive_broken arrived round.Idle channel left run new by = inr by
arrive_broken arrived (round.Grew link capacity) channel left run new by = inr by
arrive_broken arrived (round.End end.Quiet) channel left run new by = inr by
arrive_broken arrived (round.End (end.Trapped inst action trap)) channel left run new by = inr by
arrive_broken arrived (round.End (end.Stalled inst action link)) channel left run new by = inr by
arrive_broken arrived (round.End end.Budget) channel left run new by = inr by
arrive_broken arrived (round.End (end.ReadFault feed)) channel left run new by = inl by
arrive_broken arrived (round.End (end.WriteFault other)) channel left run new by = by

pub arrive_too : {C : Type 0} (arrived : ℕ → ℕ → Type 0) (answer : RoundEnd) (left : ℕ) (run new last : Running C) → last.counts.rounds ≡ new.counts.rounds → last.idle ≡ new.idle → last.counts.firings ≡ new.counts.firings
    → ArriveBy arrived answer left run new → ArriveBy arrived answer left run last
arrive_too arrived (round.Fired n) left run new last rounds idle firings by = one_too arrived left run new last rounds idle firings by
arrive_too arrived round.Idle left run new last rounds idle firings by = one_too arrived left run new last rounds idle firings by
arrive_too arrived (round.Grew link capacity) left run new last rounds idle firings by = one_too arrived left run new last rounds idle firings by
arrive_too arrived (round.End end.Quiet) left run new last rounds idle firings by = one_too arrived left run new last rounds idle firings by
arrive_too arrived (round.End (end.Trapped inst action trap)) left run new last rounds idle firings by = one_too arrived left run new last rounds idle firings by
arrive_too arrived (round.End (end.Stalled inst action link)) left run new last rounds idle firings by = one_too arrived left run new last rounds idle firings by
arrive_too arrived (round.End end.Budget) left run new last rounds idle firings by = one_too arrived left run new last rounds idle firings by
arrive_too arrived (round.End (end.ReadFault feed)) left run new last rounds idle firings by = none_too run new last rounds idle firings by
arrive_too arrived (round.End (end.WriteFault channel)) left run new last rounds idle firings by =
    ⊎_elim (λ makes. inl (none_too run new last rounds idle firings makes)) (λ makes. inr (one_too arrived left run new last rounds idle firings makes)) by

-- what is put behind a round changes its answer only to that of a write that failed
puts_answer : {C : Type 0} (answer result : RoundEnd) (run : Running C) (old now : Channels) → PutsBy answer result run old now
    → (result ≡ answer) ⊎ ((channel : ℕ) × (result ≡ round.End (end.WriteFault channel)))
puts_answer (round.Fired n) result run old now puts = inl puts.0
puts_answer round.Idle result run old now puts = inl puts.0
puts_answer (round.Grew link capacity) result run old now puts = inl puts.0
puts_answer (round.End end.Quiet) result run old now puts = ⊎_elim (λ all. inl all.0) (λ front. inr (front.0, front.1)) puts
puts_answer (round.End (end.Trapped inst action trap)) result run old now puts = ⊎_elim (λ all. inl all.0) (λ front. inr (front.0, front.1)) puts
puts_answer (round.End (end.Stalled inst action link)) result run old now puts = ⊎_elim (λ all. inl all.0) (λ front. inr (front.0, front.1)) puts
puts_answer (round.End end.Budget) result run old now puts = ⊎_elim (λ all. inl all.0) (λ front. inr (front.0, front.1)) puts
puts_answer (round.End (end.ReadFault feed)) result run old now puts = ⊎_elim (λ all. inl all.0) (λ front. inr (front.0, front.1)) puts
puts_answer (round.End (end.WriteFault channel)) result run old now puts = inl puts.0

pub arrive_put : {C : Type 0} (arrived : ℕ → ℕ → Type 0) (answer result : RoundEnd) (left : ℕ) (run mid new : Running C) (old now : Channels) → PutsBy answer result mid old now → SameButEnd mid new
    → ArriveBy arrived answer left run mid → ArriveBy arrived result left run new
arrive_put arrived answer result left run mid new old now puts same by =
    let too : ArriveBy arrived answer left run new = arrive_too arrived answer left run mid new (ap (λ r. r.counts.rounds) same) (ap (λ r. r.idle) same) (ap (λ r. r.counts.firings) same) by in
    ⊎_elim
    (λ is. subst (λ a. ArriveBy arrived a left run new) (sym is) too)
    (λ broken. subst (λ a. ArriveBy arrived a left run new) (sym broken.1) (arrive_broken arrived answer broken.0 left run new too))
    (puts_answer answer result mid old now puts)

-- A run.

pub stage_is : (rounds now : ℕ) (idle still : Bool) (left remaining : ℕ) → rounds ≡ now → idle ≡ still → left ≡ remaining
    → ◌≡◌ {A = Stage} (record { round = rounds; idle = idle; left = left }) (record { round = now; idle = still; left = remaining })
stage_is rounds now idle still left remaining r i l = rw (r, i, l) refl

-- the rounds that a runner made until now
abbrev pub ArriveSoFar : {C : Type 0} → (ℕ → ℕ → Type 0) → Running C → Running C → ℕ → ℕ → Type 0
ArriveSoFar arrived run now budget left = Arrivals arrived run.kind run.workers (length run.held.cells) (stage_of run budget) (stage_of now left)

pub arrive_none : {C : Type 0} (arrived : ℕ → ℕ → Type 0) (run : Running C) (budget : ℕ) → ArriveSoFar arrived run run budget budget
arrive_none arrived run budget = none (stage_of run budget)

module _ {C X : Type 0} (cell : C → Cell X) (arrived : ℕ → ℕ → Type 0) (run now : Running C) (budget left : ℕ) (so_far : ArriveSoFar arrived run now budget left) (same : IsSameRun (seen_run cell run) (seen_run cell now)) where
  one_more : (new : Running C) (left_new : ℕ) → (makes : MakesOne arrived left now new) → left_new ≡ left - makes.fired → ArriveSoFar arrived run new budget left_new
  one_more new left_new makes left_is =
      let here : WorkersArrive arrived run.kind run.workers (length run.held.cells) (stage_of now left) =
      subst (λ k. WorkersArrive arrived k run.workers (length run.held.cells) (stage_of now left)) same.same_kind
      (subst (λ n. WorkersArrive arrived now.kind n (length run.held.cells) (stage_of now left)) same.same_workers
      (subst (λ n. WorkersArrive arrived now.kind now.workers n (stage_of now left)) (as_many_cells cell now.held.cells run.held.cells same.same_actors.count) makes.arrive)) in
      subst (λ at. Arrivals arrived run.kind run.workers (length run.held.cells) (stage_of run budget) at)
      (sym (stage_is (suc new.counts.rounds) (suc (suc now.counts.rounds)) new.idle (makes.fired == 0) left_new (left - makes.fired) (ap suc makes.rounds) makes.idle left_is))
      (more (stage_of run budget) (stage_of now left) makes.fired so_far here makes.within)

  no_more : (new : Running C) (left_new : ℕ) → MakesNone now new → left_new ≡ left → ArriveSoFar arrived run new budget left_new
  no_more new left_new makes left_is =
      subst (λ at. Arrivals arrived run.kind run.workers (length run.held.cells) (stage_of run budget) at)
      (sym (stage_is (suc new.counts.rounds) (suc now.counts.rounds) new.idle now.idle left_new left (ap suc makes.rounds) makes.idle left_is)) so_far

  -- the run goes on
  pub arrive_more : (new : Running C) (answer : RoundEnd) (left_new : ℕ) → end_of answer ≡ None → ArriveBy arrived answer left now new → new.counts.firings + left_new ≡ now.counts.firings + left
      → ArriveSoFar arrived run new budget left_new
  arrive_more new (round.Fired n) left_new going by spent = one_more new left_new by (let fired : new.counts.firings ≡ now.counts.firings + by.fired = by.firings in omega (arith, fired, spent))
  arrive_more new round.Idle left_new going by spent = one_more new left_new by (let fired : new.counts.firings ≡ now.counts.firings + by.fired = by.firings in omega (arith, fired, spent))
  arrive_more new (round.Grew link capacity) left_new going by spent = one_more new left_new by (let fired : new.counts.firings ≡ now.counts.firings + by.fired = by.firings in omega (arith, fired, spent))
  arrive_more new (round.End how) left_new going by spent = cc

  -- the run ends
  module _ (new : Running C) (spent : now.counts.firings + left ≡ run.counts.firings + budget) where
    ends_one : MakesOne arrived left now new → RunArrives arrived run new budget
    ends_one makes = one_more new (run.counts.firings + budget - new.counts.firings) makes (let fired : new.counts.firings ≡ now.counts.firings + makes.fired = makes.firings in omega (arith, fired, spent))

    ends_none : MakesNone now new → RunArrives arrived run new budget
    ends_none makes = no_more new (run.counts.firings + budget - new.counts.firings) makes (let fired : new.counts.firings ≡ now.counts.firings = makes.firings in omega (arith, fired, spent))

    pub arrive_all : (how : RunEnd) → ArriveBy arrived (round.End how) left now new → RunArrives arrived run new budget
    arrive_all end.Quiet by = ends_one by
    arrive_all (end.Trapped inst action trap) by = ends_one by
    arrive_all (end.Stalled inst action link) by = ends_one by
    arrive_all end.Budget by = ends_one by
    arrive_all (end.ReadFault feed) by = ends_none by
    arrive_all (end.WriteFault channel) by = ⊎_elim ends_none ends_one by
