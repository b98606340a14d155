-- A run from its start, as paced lines.
use Rattle.std.proofs.Common.{◌≡◌, ◌⊎◌, ⊎_elim, inl, inr, ℕ, Bool, false, List, [], ◌∷◌, ◌++◌, refl, sym, ap, subst, ◌∙◌, append_assoc, append-nil}
use Rattle.std.specs.Prelude.{Option, None, Some, option_to_list}
use Rattle.rvc_io.specs.Channels.{Channels}
use Rattle.rvc_io.specs.Feeds.{Inputs}
use Rattle.trace_text.specs.declared.line.Line.{Line}
use Rattle.trace_text.specs.declared.line.Line.TheVariants.{Deliver as DeliverLine}
use Rattle.net_model.specs.Network.{Network}
use Rattle.net_model.specs.State.{State}
use Rattle.net_model.specs.Cell.{Cell}
use Rattle.net_model.specs.Paced.{AreRounds, Block, Close, Ends, EndsRun, GoesOn, IsBegun, IsPaced, IsRound, Moment, Widens, close_lines, fire_lines, first_moment, lines_of, next_moment}
use Rattle.net_model.proofs.KeepingRuns.{begun_keep, paced_keep}
use Rattle.net_model.proofs.Rounds.{begun_play, paced_play}
use Rattle.round_runner.specs.declared.outcome.RoundEnd.TheVariants as round
use Rattle.round_runner.specs.declared.outcome.RunEnd.{RunEnd}
use Rattle.round_runner.specs.declared.outcome.RunEnd.TheVariants as end
use Rattle.round_runner.specs.Rounds.{AreBegunBy, Answers, Breaks, Ended, EndedEarly, RunLeaves, RunWrote, all_lines}
use Rattle.round_runner.specs.Pulling.{NeedsPull}
use Rattle.round_runner.specs.Running.{Running, moment_of, pace_of}
use Rattle.network_runner.specs.FromStart.{EndsBy, HasMadeNone, PlaysAndKeeps, RunsArePaced, RunsBroken, RunsFromStart, RunsShort, RunsWhole, WritesWhole}
use Rattle.network_runner.proofs.Continued.{lines_more, rounds_more}

module _ {X : Type 0} (net : Network X) (inputs : List (List ℕ)) (budget : ℕ) (s : State X) (run new : Running (Cell X)) (feeds : Inputs) (old now : Channels) (none : HasMadeNone net inputs run s) where
  first_is : moment_of run s budget ≡ first_moment (pace_of run budget) s
  first_is = by_parts run.rounds run.idle none.rounds none.idle
    where
      by_parts : (rounds : ℕ) (idle : Bool) → rounds ≡ 0 → idle ≡ false → record { state = s; round = Rattle.std.proofs.Common.suc rounds; idle = idle; left = budget } ≡ first_moment (pace_of run budget) s
      by_parts rounds idle r i = rw (r, i) refl

  from_first : (blocks : List Block) (reached : Moment X) → AreRounds net (pace_of run budget) (moment_of run s budget) blocks reached → AreRounds net (pace_of run budget) (first_moment (pace_of run budget) s) blocks reached
  from_first blocks reached are = subst (λ m. AreRounds net (pace_of run budget) m blocks reached) first_is are

  -- rounds that didn't end the run
  begins : (blocks : List Block) (reached : Moment X) → AreRounds net (pace_of run budget) (moment_of run s budget) blocks reached → IsBegun net (pace_of run budget) s (all_lines blocks) reached
  begins blocks reached are = record { blocks = blocks; rounds = from_first blocks reached are; lines_are = refl }

  paces : (blocks : List Block) (reached : Moment X) (final : Block) (last : State X) → AreRounds net (pace_of run budget) (moment_of run s budget) blocks reached → IsRound net (pace_of run budget) reached final last → EndsRun final.close
      → IsPaced net (pace_of run budget) s (all_lines blocks ++ lines_of final) last
  paces blocks reached final last are is ends = record { blocks = blocks; reached = reached; rounds = from_first blocks reached are; final = final; ending = is; ends = ends; lines_are = refl }

  begun_permitted : (lines : List Line) (reached : Moment X) → IsBegun net (pace_of run budget) s lines reached → PlaysAndKeeps net run.grow s reached.state lines
  begun_permitted lines reached begun = record {
    plays = begun_play net (pace_of run budget) s lines reached begun;
    keeps = begun_keep net (pace_of run budget) s lines reached none.wired none.lawful none.may_begin begun;
  }

  paced_permitted : (lines : List Line) (last : State X) → IsPaced net (pace_of run budget) s lines last → PlaysAndKeeps net run.grow s last lines
  paced_permitted lines last paced = record {
    plays = paced_play net (pace_of run budget) s lines last paced;
    keeps = paced_keep net (pace_of run budget) s lines last none.wired none.lawful none.may_begin paced;
  }

  writes_whole : (last : State X) (lines : List Line) → RunWrote net inputs s last lines run new old now → WritesWhole net inputs s last lines run new old now
  writes_whole last lines wrote = record {
    trace = wrote.trace;
    outputs = wrote.outputs;
    counted = wrote.counts s [] none.may_begin refl none.counted;
  }

  ends_by : (how : RunEnd) (blocks : List Block) (final : Block) → Answers (round.End how) final → EndsBy how (all_lines blocks ++ lines_of final)
  ends_by how blocks final is = record {
    before = all_lines blocks ++ (DeliverLine ∷ fire_lines 0 final.bursts);
    line = is.0;
    line_is = is.1;
    lines_are = ap (λ (close : Close). all_lines blocks ++ (DeliverLine ∷ fire_lines 0 final.bursts ++ close_lines close)) is.2
        ∙ sym (append_assoc (all_lines blocks) (DeliverLine ∷ fire_lines 0 final.bursts) (is.0 ∷ []));
  }

  runs_whole : (how : RunEnd) → Ended net inputs budget s how run new old now → RunsWhole net inputs budget s how run new old now
  runs_whole how ended =
      let ends : EndsRun ended.final.close = subst EndsRun (sym ended.answers.2) tt in
      let paced : IsPaced net (pace_of run budget) s (all_lines ended.blocks ++ lines_of ended.final) ended.last =
      paces ended.blocks ended.paced.0 ended.final ended.last ended.paced.1 ended.paced.2 ends in
      record {
        lines = all_lines ended.blocks ++ lines_of ended.final;
        last = ended.last;
        paced = paced;
        ends_by = ends_by how ended.blocks ended.final ended.answers;
        permitted = paced_permitted (all_lines ended.blocks ++ lines_of ended.final) ended.last paced;
        wrote = writes_whole ended.last (all_lines ended.blocks ++ lines_of ended.final) ended.wrote;
      }

  runs_short : (feed : ℕ) → EndedEarly net inputs budget s feed run new feeds old now → RunsShort net inputs budget s feed run new feeds old now
  runs_short feed early =
      let begun : IsBegun net (pace_of run budget) s (all_lines early.blocks) early.begun.0 = begins early.blocks early.begun.0 early.begun.1 in
      record {
        lines = all_lines early.blocks;
        reached = early.begun.0;
        begun = begun;
        needs = subst (λ u. NeedsPull net inputs u feed feeds) (sym early.begun.2) early.needs;
        permitted = begun_permitted (all_lines early.blocks) early.begun.0 begun;
        wrote = subst (λ u. WritesWhole net inputs s u (all_lines early.blocks) run new old now) (sym early.begun.2) (writes_whole early.last (all_lines early.blocks) early.wrote);
      }

  -- a round that was broken off ended the run or not
  abbrev IsOver : Close → Type 0
  IsOver close = (EndsRun close → ⊥) ⊎ EndsRun close

  is_over : (close : Close) → IsOver close
  is_over GoesOn = inl (λ ends. ends)
  is_over (Widens l capacity) = inl (λ ends. ends)
  is_over (Ends line) = inr tt

  runs_broken : (blocks : List Block) (final : Option Block) (last : State X) → AreBegunBy net (pace_of run budget) (moment_of run s budget) blocks final last
      → Breaks net s last (all_lines (blocks ++ option_to_list final)) run old now → RunsBroken net budget s run old now
  runs_broken blocks None last are breaks =
      let same : all_lines (blocks ++ []) ≡ all_lines blocks = ap all_lines (append-nil blocks) in
      let begun : IsBegun net (pace_of run budget) s (all_lines blocks) are.0 = begins blocks are.0 are.1 in
      record {
        lines = all_lines blocks;
        last = last;
        begun_or_paced = inl (are.0, begun, are.2);
        permitted = subst (λ u. PlaysAndKeeps net run.grow s u (all_lines blocks)) are.2 (begun_permitted (all_lines blocks) are.0 begun);
        breaks = subst (λ ls. Breaks net s last ls run old now) same breaks;
      }
  runs_broken blocks (Some final) last are breaks = ⊎_elim
      (λ unended.
      let begun : IsBegun net (pace_of run budget) s (all_lines (blocks ++ final ∷ [])) (next_moment are.0 final last) =
      begins (blocks ++ final ∷ []) (next_moment are.0 final last) (rounds_more net (pace_of run budget) (moment_of run s budget) blocks are.0 final last are.1 are.2 unended) in
      record {
        lines = all_lines (blocks ++ final ∷ []);
        last = last;
        begun_or_paced = inl (next_moment are.0 final last, begun, refl);
        permitted = begun_permitted (all_lines (blocks ++ final ∷ [])) (next_moment are.0 final last) begun;
        breaks = breaks;
      })
      (λ ends.
      let paced : IsPaced net (pace_of run budget) s (all_lines blocks ++ lines_of final) last = paces blocks are.0 final last are.1 are.2 ends in
      record {
        lines = all_lines blocks ++ lines_of final;
        last = last;
        begun_or_paced = inr paced;
        permitted = paced_permitted (all_lines blocks ++ lines_of final) last paced;
        breaks = subst (λ ls. Breaks net s last ls run old now) (lines_more blocks final) breaks;
      })
      (is_over final.close)

  from_start : (how : RunEnd) → RunLeaves net inputs budget s how run new feeds old now → RunsFromStart net inputs budget s how run new feeds old now
  from_start end.Quiet leaves = runs_whole end.Quiet leaves
  from_start (end.Trapped inst action trap) leaves = runs_whole (end.Trapped inst action trap) leaves
  from_start (end.Stalled inst action link) leaves = runs_whole (end.Stalled inst action link) leaves
  from_start end.Budget leaves = runs_whole end.Budget leaves
  from_start (end.ReadFault feed) leaves = runs_short feed leaves
  from_start (end.WriteFault channel) leaves = runs_broken leaves.blocks leaves.final leaves.last leaves.begun leaves.breaks

pub runs_are_paced : (X : Type 0) → RunsArePaced X
runs_are_paced X net inputs budget s how run new feeds old now none leaves = from_start net inputs budget s run new feeds old now none how leaves
