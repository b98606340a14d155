-- Firings whose cells are cleared before them.
use Rattle.std.proofs.Common.{◌≡◌, ℕ, ◌+◌, ◌-◌, ◌≤◌, List, [], ◌∷◌, ◌++◌, length, refl, sym, ap, subst, ◌∙◌, Some, arith, append_assoc, length-append}
use Rattle.std.specs.Prelude.{slice_get}
use Rattle.cal_model.specs.Actor.{Action, Actor}
use Rattle.cal_model.specs.Sound.{IsAction, IsSound, names_of, with_patterns}
use Rattle.cal_model.proofs.KeptByFirings.{action-at}
use Rattle.code_ir.specs.declared.instr.Instr.{Instr}
use Rattle.code_ir.specs.declared.instr.Instr.TheVariants as op
use Rattle.code_ir.specs.Effect.{zeroed}
use Rattle.lower_base.specs.declared.draft.Draft.{Draft}
use Rattle.lower_base.specs.Placed.{StandsAt}
use Rattle.lower_base.specs.Routining.{LocalsSized}
use Rattle.lower_base.proofs.Fitted.{Plain, fits_one, plain_then}
use Rattle.lower_base.proofs.Runs.{stands_left, stands_right}
use Rattle.lower_stmt.specs.Calls.{HasRunRoutines}
use Rattle.lower_stmt.specs.Procedures.{Routines}
use Rattle.action_lower.specs.FiringCode.{Fires}
use Rattle.action_lower.specs.FiringWords.{AddsFired, AddsFiring}
use Rattle.action_lower.specs.Seats.{HoldVars, state_cells, taken}
use Rattle.action_lower.proofs.BelowState.{seen-below}
use Rattle.action_lower.proofs.ClearedCells.{runs-on, runs-so, take-zeroed, zeroed-size}
use Rattle.action_lower.proofs.FiringRuns.{locals-sized}
use Rattle.action_lower.proofs.Holding.{size-at}
use Rattle.lower_actor.specs.Coded.{AddsBodies, FiresFrom, IsMore}
use Rattle.lower_actor.specs.Drafted.{GoesOn, IsServed}
use Rattle.lower_actor.specs.Fitting.{AreBodies, FitsAsFiring, body_more}
use Rattle.lower_actor.proofs.Extending.{firing-added, fires-at}
use Rattle.lower_actor.proofs.FiringFits.{firing-fits, has-more}
use Rattle.lower_actor.proofs.Rowed.{second-sized, stood-in}

-- ---- firings

module _ (actor : Actor) (a : ℕ) (rs : Routines) (entry : ℕ) (firsts : List ℕ) (old mid fin new : Draft) (sound : IsSound actor) (served : IsServed actor rs old) (at : entry ≡ length old.instrs.items)
    (put : mid.instrs.items ≡ old.instrs.items ++ op.Zero 0 0 ∷ []) (routines : mid.routines.items ≡ old.routines.items) (cells : mid.cells ≡ old.cells) (adds : AddsFiring rs actor a (length mid.instrs.items) firsts mid fin)
    (fired : AddsFired rs actor a firsts mid fin)
    (zero-at : (before rest : List Instr) (i : Instr) → fin.instrs.items ≡ before ++ i ∷ rest → entry ≡ length before → new.instrs.items ≡ before ++ op.Zero (state_cells actor) (fin.cells - state_cells actor) ∷ rest)
    (same-routines : new.routines.items ≡ fin.routines.items) (same-cells : new.cells ≡ fin.cells) where
  abbrev low : ℕ
  low = state_cells actor

  abbrev zero-instr : Instr
  zero-instr = op.Zero low (fin.cells - low)

  longer : length mid.instrs.items ≡ length old.instrs.items + 1
  longer = ap length put ∙ length-append old.instrs.items (op.Zero 0 0 ∷ [])

  -- what stands in the end
  new-is : (code : List Instr) → fin.instrs.items ≡ mid.instrs.items ++ code → new.instrs.items ≡ old.instrs.items ++ zero-instr ∷ code
  new-is code is = zero-at old.instrs.items code (op.Zero 0 0) (is ∙ ap (λ xs. xs ++ code) put ∙ append_assoc old.instrs.items (op.Zero 0 0 ∷ []) code) at

  pub cleared-more : (act : Action) → slice_get actor.actions a ≡ Some act → IsMore old new
  cleared-more act e =
      let one = adds.1 act e in
      let grown = firing-added rs actor a act (length mid.instrs.items) firsts mid fin e adds in
      record {
        code = zero-instr ∷ one.code;
        is = new-is one.code one.is;
        routines = same-routines ∙ one.routines ∙ routines;
        cells = let le = grown.cells in omega (arith, le, cells, same-cells);
      }

  pub cleared-fires : FiresFrom actor a entry firsts new
  cleared-fires act whole more x u numbers is goes room in_state of_ports may has hold =
      let one = fired act is in
      let all : whole.instrs ≡ old.instrs.items ++ ((zero-instr ∷ one.code) ++ more) = goes.0 ∙ ap (λ xs. xs ++ more) (new-is one.code one.is) ∙ append_assoc old.instrs.items (zero-instr ∷ one.code) more in
      let stands : StandsAt whole.instrs (length old.instrs.items) (zero-instr ∷ one.code) = stood-in whole old.instrs.items new.instrs.items (zero-instr ∷ one.code) more (new-is one.code one.is) goes.0 in
      let below : low ≤ old.cells = let p = served.state in let q = served.below in omega (arith, p, q) in
      let grown = firing-added rs actor a act (length mid.instrs.items) firsts mid fin is adds in
      let wide : low + (fin.cells - low) ≤ length numbers = let le = grown.cells in omega (arith, le, below, cells, same-cells, room) in
      let cleared = zeroed low (fin.cells - low) numbers in
      let size : length cleared ≡ length numbers = zeroed-size (fin.cells - low) low numbers in
      let holds : HoldVars actor x cleared = take-zeroed (fin.cells - low) low low numbers (omega arith) ∙ hold in
      let there : slice_get whole.instrs entry ≡ Some zero-instr = ap (slice_get whole.instrs) at ∙ stands.0 in
      let next : length mid.instrs.items ≡ entry + 1 = omega (arith, longer, at) in
      let behind : StandsAt whole.instrs (length mid.instrs.items) one.code = subst (λ p. StandsAt whole.instrs p one.code) (sym longer) stands.1 in
      let fires : Fires actor a act firsts whole (length mid.instrs.items) x u cleared =
      fires-at actor a act rs firsts (length mid.instrs.items) mid.cells fin.cells served.high one.code sound one.has whole
      (served.stand whole ((zero-instr ∷ one.code) ++ more) (all, goes.1 ∙ same-routines ∙ one.routines ∙ routines)) served.state (let q = served.below in omega (arith, q, cells)) behind x u cleared
      (omega (arith, room, size, same-cells)) in_state of_ports may has holds in
      let after : Fires actor a act firsts whole (entry + 1) x u cleared = subst (λ p. Fires actor a act firsts whole p x u cleared) next fires in
      record {
        outcome = after.outcome;
        last = after.last;
        ends = runs-on whole (taken actor u a) entry low (fin.cells - low) numbers there wide after.outcome after.last after.ends;
        as_body = after.as_body;
        only = λ o left run. after.only o left (runs-so whole (taken actor u a) entry low (fin.cells - low) numbers there wide o left refl run);
      }

  pub cleared-bodies : (act : Action) → slice_get actor.actions a ≡ Some act → AddsBodies (entry ∷ []) old new
  cleared-bodies act e whole more number rest goes room behind rows =
      let one = adds.1 act e in
      let code = zero-instr ∷ one.code in
      let below : low ≤ old.cells = let p = served.state in let q = served.below in omega (arith, p, q) in
      let grown = firing-added rs actor a act (length mid.instrs.items) firsts mid fin e adds in
      let before : GoesOn old whole (code ++ more) = (goes.0 ∙ ap (λ xs. xs ++ more) (new-is one.code one.is) ∙ append_assoc old.instrs.items code more, goes.1 ∙ same-routines ∙ one.routines ∙ routines) in
      let has : HasRunRoutines whole (length whole.routines) mid.cells rs =
      subst (λ k. HasRunRoutines whole k mid.cells rs) (sym (ap length before.1))
      (has-more whole (length old.routines.items) served.high mid.cells rs (let q = served.below in omega (arith, q, cells)) (served.called whole (code ++ more) before)) in
      let stands : StandsAt whole.instrs (length old.instrs.items) code = stood-in whole old.instrs.items new.instrs.items code more (new-is one.code one.is) goes.0 in
      let base = length old.instrs.items in
      let inner : StandsAt whole.instrs (length mid.instrs.items) one.code = subst (λ p. StandsAt whole.instrs p one.code) (sym longer) stands.1 in
      let is_action : IsAction actor act = action-at actor actor.actions a act sound.actions e in
      let sized : LocalsSized act.locals = locals-sized act.locals (with_patterns actor act.patterns (names_of actor)) is_action.locals in
      let fit : FitsAsFiring whole (length whole.routines) whole.cells (length mid.instrs.items) one.code =
      firing-fits whole (length whole.routines) whole.cells rs _ actor.outs act firsts (length mid.instrs.items) mid.cells fin.cells one.code has (seen-below mid.cells actor act (omega (arith, below, cells))) sized
      (λ port. size-at actor.outs port (second-sized actor.ins actor.outs sound.port_sizes)) (omega (arith, room, same-cells)) inner one.has in
      let clear : Plain whole (length whole.routines) whole.cells base 0 (zero-instr ∷ []) 0 =
      fits_one whole (length whole.routines) whole.cells base 0 0 zero-instr (omega arith) (omega arith) refl (let le = grown.cells in omega (arith, le, below, cells, same-cells, room)) tt tt tt in
      let body = zero-instr ∷ fit.body in
      let both : Plain whole (length whole.routines) whole.cells base 0 body 0 =
      plain_then whole (length whole.routines) whole.cells base 0 0 0 (zero-instr ∷ []) fit.body clear (subst (λ p. Plain whole (length whole.routines) whole.cells p 0 fit.body 0) longer fit.fits) in
      let code-is : code ≡ body ++ op.Done ∷ [] = ap (λ xs. zero-instr ∷ xs) fit.is in
      let here : StandsAt whole.instrs base (body ++ op.Done ∷ []) = subst (StandsAt whole.instrs base) code-is stands in
      let size : length new.instrs.items ≡ base + length body + 1 =
      let p = ap length (new-is one.code one.is) ∙ length-append old.instrs.items code in let q = ap length code-is ∙ length-append body (op.Done ∷ []) in omega (arith, p, q) in
      subst (λ k. AreBodies whole base number (k ∷ rest)) (sym at)
      (body_more base (base + length body) number rest (record {
        callable = length whole.routines;
        before = behind;
        routines = omega arith;
        instrs = body;
        left = 0;
        last = op.Done;
        at_end = refl;
        stands = stands_left whole.instrs base body (op.Done ∷ []) here;
        fits = both;
        ends = (stands_right whole.instrs base body (op.Done ∷ []) here).0;
        is_end = (behind, refl);
      }) (subst (λ p. AreBodies whole p (number + 1) rest) size rows))
