-- A run that ends by its budget has spent it.
use Rattle.std.proofs.Common.{◌≡◌, ℕ, suc, ◌+◌, ◌≤◌, Bool, true, false, List, [], ◌∷◌, ◌++◌, length, refl, sym, ap, subst, ◌∙◌, arith, append_assoc}
use Rattle.std.specs.Prelude.{Option, None, Some, MatchBool, flat_map, ◌==◌}
use Rattle.std.proofs.lemmas.Bool.{eqb-true}
use Rattle.trace_text.specs.declared.line.Line.{Line}
use Rattle.trace_text.specs.declared.line.Line.TheVariants.{Header, Inst, Fire as FireLine, Deliver as DeliverLine, Grow as GrowLine, Quiet, Trap as TrapLine, Stall, Budget}
use Rattle.net_model.specs.Laws.{firings_shown}
use Rattle.net_model.specs.Network.{Network}
use Rattle.net_model.specs.Paced.{Block, Close, ClosesBy, ClosesIdle, ClosesSpent, Ends, EndsRun, GoesOn, Halt, IsPaced, IsRound, Moment, NoRoom, Pace, Spent, Trapping, Unpicked, Waiting, Widens, close_lines, fire_lines, first_trap, lines_of, picked}
use Rattle.net_model.specs.PacingLaws.{BegunWithinBudget, PacedWithinBudget}
use Rattle.net_model.specs.State.{State}

shown_then : (before after : List Line) → length (firings_shown (before ++ after)) ≡ length (firings_shown before) + length (firings_shown after)
shown_then [] after = omega arith
shown_then (FireLine i a ∷ before) after = ap suc (shown_then before after) ∙ (let e : suc (length (firings_shown before) + length (firings_shown after)) ≡ suc (length (firings_shown before)) + length (firings_shown after) = omega arith in e)
shown_then (DeliverLine ∷ before) after = shown_then before after
shown_then (GrowLine l c ∷ before) after = shown_then before after
shown_then (Quiet ∷ before) after = shown_then before after
shown_then (TrapLine i a c ∷ before) after = shown_then before after
shown_then (Stall i a l ∷ before) after = shown_then before after
shown_then (Budget ∷ before) after = shown_then before after
shown_then (Header n l g ∷ before) after = shown_then before after
shown_then (Inst k ∷ before) after = shown_then before after

-- ---- the last line

last_same : (xs ys : List Line) (a b : Line) → xs ++ a ∷ [] ≡ ys ++ b ∷ [] → a ≡ b
last_same [] [] a b e = cc
last_same [] (y ∷ []) a b e = cc
last_same [] (y ∷ (z ∷ ys)) a b e = cc
last_same (x ∷ []) [] a b e = cc
last_same (x ∷ (z ∷ xs)) [] a b e = cc
last_same (x ∷ xs) (y ∷ ys) a b e = last_same xs ys a b (let rest : xs ++ a ∷ [] ≡ ys ++ b ∷ [] = cc in rest)

ends_so : (close : Close) → EndsRun close → (line : Line) × (close ≡ Ends line)
ends_so GoesOn ends = absurd ends
ends_so (Widens l capacity) ends = absurd ends
ends_so (Ends line) ends = (line, refl)

ends_of : (blocks : List Block) (final : Block) (before : List Line) (end line : Line) → final.close ≡ Ends line → before ++ end ∷ [] ≡ flat_map lines_of blocks ++ lines_of final → line ≡ end
ends_of blocks final before end line closed same =
    let lines : List Line = DeliverLine ∷ fire_lines 0 final.bursts in
    let parted : flat_map lines_of blocks ++ lines_of final ≡ (flat_map lines_of blocks ++ (DeliverLine ∷ fire_lines 0 final.bursts)) ++ (line ∷ []) =
    ap (λ (close : Close). flat_map lines_of blocks ++ (DeliverLine ∷ fire_lines 0 final.bursts ++ close_lines close)) closed
    ∙ sym (append_assoc (flat_map lines_of blocks) (DeliverLine ∷ fire_lines 0 final.bursts) (line ∷ [])) in
    last_same (flat_map lines_of blocks ++ (DeliverLine ∷ fire_lines 0 final.bursts)) before line end (sym (same ∙ parted))

-- ---- what closes a round by the budget

no_trap : (i : ℕ) (halts : List Halt) → first_trap i halts ≡ Some Budget → ⊥
no_trap i [] e = cc
no_trap i (Trapping a cause ∷ halts) e = cc
no_trap i (Unpicked ∷ halts) e = no_trap (suc i) halts e
no_trap i (Spent ∷ halts) e = no_trap (suc i) halts e
no_trap i (Waiting ∷ halts) e = no_trap (suc i) halts e
no_trap i (NoRoom ∷ halts) e = no_trap (suc i) halts e

ends_same : (a b : Line) → Ends a ≡ Ends b → a ≡ b
ends_same a b e = ap line_of e
  where
    line_of : Close → Line
    line_of GoesOn = a
    line_of (Widens l capacity) = a
    line_of (Ends line) = line

module _ {X : Type 0} (net : Network X) (pace : Pace) (s : State X) where
  untrapped : (marks : List Bool) (bursts : List (List ℕ)) (t : State X) (close : Close) (b : Bool) → close ≡ Ends Budget → MatchBool b (ClosesIdle net pace.grow t close) (close ≡ GoesOn) → ⊥
  untrapped marks bursts t close true is closes = subst (λ k. ClosesIdle net pace.grow t k) is closes
  untrapped marks bursts t close false is closes = (let clash : Ends Budget ≡ GoesOn = sym is ∙ closes in cc)

  by_trap : (marks : List Bool) (bursts : List (List ℕ)) (halts : List Halt) (found : Option Line) (t : State X) (close : Close) → first_trap 0 halts ≡ found → close ≡ Ends Budget → ClosesBy net pace.grow marks bursts found t close → ⊥
  by_trap marks bursts halts None t close traps is closes = untrapped marks bursts t close _ is closes
  by_trap marks bursts halts (Some line) t close traps is closes = no_trap 0 halts (traps ∙ ap Some (ends_same line Budget (sym closes ∙ is)))

  none_left : (at : Moment X) (block : Block) (last : State X) → IsRound net pace at block last → block.close ≡ Ends Budget → at.left ≡ 0
  none_left at block last round is = by (at.left == 0) refl round.closes
    where
      by : (b : Bool) → (at.left == 0) ≡ b → MatchBool b (ClosesSpent net pace.grow round.fired block.close) (ClosesBy net pace.grow (picked net pace at) block.bursts (first_trap 0 round.halts) round.fired block.close) → at.left ≡ 0
      by true e closes = eqb-true at.left 0 e
      by false e closes = absurd (by_trap (picked net pace at) block.bursts round.halts (first_trap 0 round.halts) round.fired block.close refl is closes)

  pub budget_spent : BegunWithinBudget X → PacedWithinBudget X → (before : List Line) (end : Line) (last : State X) → IsPaced net pace s (before ++ end ∷ []) last → end ≡ Budget → length (firings_shown (before ++ end ∷ [])) ≡ pace.budget
  budget_spent begun_law paced_law before end last paced is =
      let closed = ends_so paced.final.close paced.ends in
      let line_is : closed.0 ≡ Budget = ends_of paced.blocks paced.final before end closed.0 closed.1 paced.lines_are ∙ is in
      let left : paced.reached.left ≡ 0 = none_left paced.reached paced.final last paced.ending (closed.1 ∙ ap Ends line_is) in
      let begun : length (firings_shown (flat_map lines_of paced.blocks)) + paced.reached.left ≡ pace.budget =
      begun_law net pace s (flat_map lines_of paced.blocks) paced.reached (record { blocks = paced.blocks; rounds = paced.rounds; lines_are = refl }) in
      let most : length (firings_shown (before ++ end ∷ [])) ≤ pace.budget = paced_law net pace s (before ++ end ∷ []) last paced in
      let parted : length (firings_shown (before ++ end ∷ [])) ≡ length (firings_shown (flat_map lines_of paced.blocks)) + length (firings_shown (lines_of paced.final)) =
      ap (λ ls. length (firings_shown ls)) paced.lines_are ∙ shown_then (flat_map lines_of paced.blocks) (lines_of paced.final) in
      omega (arith, left, begun, most, parted)
