-- The code of actions is a row of bodies.
use Rattle.std.proofs.Common.{◌≡◌, ℕ, zero, suc, ◌+◌, ◌<◌, ◌≤◌, ⊎_elim, Bool, true, false, List, [], ◌∷◌, ◌++◌, length, map, take, refl, sym, ap, subst, ◌∙◌, Option, Some, arith, append_assoc, length-append}
use Rattle.std.specs.Prelude.{slice_get, ◌==◌, ◌||◌}
use Rattle.std.proofs.lemmas.Bool.{eq-eqb, eqb-true}
use Rattle.std.proofs.lemmas.List.{append-nil}
use Rattle.rvc_base.specs.Storing.{IsSize}
use Rattle.cal_ast.specs.Tree.{Tree}
use Rattle.cal_model.specs.Actor.{Action, Actor, Port}
use Rattle.cal_model.specs.Selection.{kind_of_port}
use Rattle.cal_model.specs.Sound.{Each, IsAction, IsSound, names_of, with_patterns}
use Rattle.cal_model.proofs.KeptByFirings.{action-at}
use Rattle.code_ir.specs.declared.instr.Instr.{Instr}
use Rattle.code_ir.specs.declared.instr.Instr.TheVariants as op
use Rattle.code_ir.specs.declared.admitted.CodeFault.TheVariants.{Bad}
use Rattle.code_ir.specs.Code.{Code, begins, is_among}
use Rattle.code_ir.specs.Typing.{AreDistinct, IsAdmitted, IsCause, IsFirstWrong}
use Rattle.lower_base.specs.declared.draft.Draft.{Draft}
use Rattle.lower_base.specs.Held.{AreBelow}
use Rattle.lower_base.specs.Names.{Name}
use Rattle.lower_base.specs.Placed.{StandsAt}
use Rattle.lower_base.specs.Routining.{LocalsSized}
use Rattle.lower_base.proofs.Fitted.{Plain, fits_one, plain_then}
use Rattle.lower_base.proofs.Runs.{stands_left, stands_right}
use Rattle.lower_stmt.specs.Calls.{HasRunRoutines}
use Rattle.lower_stmt.specs.Procedures.{Routines}
use Rattle.lowered_actor.specs.declared.parts.ActionCode.{ActionCode}
use Rattle.action_lower.specs.FiringCode.{IsFiringCode}
use Rattle.action_lower.specs.FiringWords.{AddsFiring}
use Rattle.action_lower.specs.Guarding.{AreGuards, IsHead, clearing, guard_more, no_guard, no_head}
use Rattle.action_lower.specs.GuardWords.{AddsGuards}
use Rattle.action_lower.specs.Seats.{state_cells}
use Rattle.action_lower.proofs.Answering.{stands-in}
use Rattle.action_lower.proofs.BelowState.{seen-below}
use Rattle.action_lower.proofs.FiringRuns.{locals-sized}
use Rattle.action_lower.proofs.Holding.{size-at}
use Rattle.lower_actor.specs.Coded.{AddsBodies, AreBodiesOf, IsMore, all_entries, entries_of}
use Rattle.lower_actor.specs.Fitting.{AreBodies, FitsAsFiring, body_more, no_body}
use Rattle.lower_actor.proofs.Extending.{guards-grow}
use Rattle.lower_actor.specs.Drafted.{GoesOn, HoldsRoutines, IsServed, starts}
use Rattle.lower_actor.proofs.FiringFits.{firing-fits, fits-more, has-more}

-- ---- guards and firings

guards-rows : {clears : Option ℕ} {rs : Routines} {names : List Name} {gs : List Tree} {es : List ℕ} {base n m : ℕ} {part : List Instr} → AreGuards clears rs.functions names gs es base n part m → (whole : Code)
    → HasRunRoutines whole (length whole.routines) n rs → StandsAt whole.instrs base part → m ≤ whole.cells
    → (number : ℕ) → length whole.routines ≤ number → (rest : List ℕ) → AreBodies whole (base + length part) (number + length es) rest → AreBodies whole base number (es ++ rest)
guards-rows (no_guard base n) whole called stands le number behind rest rows =
    let none : base + 0 ≡ base = omega arith in
    let still : number + 0 ≡ number = omega arith in
    subst (λ p. AreBodies whole p number rest) none (subst (λ k. AreBodies whole (base + 0) k rest) still rows)
guards-rows {rs = rs} (guard_more g gs es base n k m a b first others) whole called stands le number behind rest rows =
    let wide : HasRunRoutines whole (length whole.routines) k rs = has-more whole (length whole.routines) n k rs first.lowered.cells called in
    let more = guards-grow others in
    let body = first.head ++ first.body in
    let here : StandsAt whole.instrs base (first.head ++ (first.body ++ op.Answer ∷ [])) = subst (StandsAt whole.instrs base) first.is (stands_left whole.instrs base a b stands) in
    let all : StandsAt whole.instrs base (body ++ op.Answer ∷ []) = subst (StandsAt whole.instrs base) (sym (append_assoc first.head first.body (op.Answer ∷ []))) here in
    let inner : StandsAt whole.instrs (base + length first.head) first.body =
    stands_left whole.instrs (base + length first.head) first.body (op.Answer ∷ []) (stands_right whole.instrs base first.head (first.body ++ op.Answer ∷ []) here) in
    let size : length a ≡ length body + 1 = ap length first.is ∙ ap length (sym (append_assoc first.head first.body (op.Answer ∷ []))) ∙ length-append body (op.Answer ∷ []) in
    let split : base + length (a ++ b) ≡ base + length a + length b = let s = length-append a b in omega (arith, s) in
    let count : number + suc (length es) ≡ number + 1 + length es = omega arith in
    let later : AreBodies whole (base + length a) (number + 1) (es ++ rest) =
    guards-rows {rs = rs} others whole wide (stands_right whole.instrs base a b stands) le (number + 1) (omega (arith, behind)) rest
    (subst (λ k. AreBodies whole (base + length a + length b) k rest) count (subst (λ p. AreBodies whole p (number + suc (length es)) rest) split rows)) in
    let next : base + length a ≡ base + length body + 1 = omega (arith, size) in
    let fits : Plain whole (length whole.routines) whole.cells (base + length first.head) 0 first.body 1 =
    fits-more whole (length whole.routines) k whole.cells (base + length first.head) 0 first.body 1 (base + length first.head + length first.body) 1 (omega (arith, more, le)) (first.lowered.fits whole (length whole.routines) 0 wide.functions inner) in
    body_more base (base + length body) number (es ++ rest) (record {
      callable = length whole.routines;
      before = behind;
      routines = omega arith;
      instrs = body;
      left = 1;
      last = op.Answer;
      at_end = refl;
      stands = stands_left whole.instrs base body (op.Answer ∷ []) all;
      fits = headed whole base first.body first.begins (omega (arith, more, le)) fits;
      ends = (stands_right whole.instrs base body (op.Answer ∷ []) all).0;
      is_end = (behind, refl);
    }) (subst (λ p. AreBodies whole p (number + 1) (es ++ rest)) next later)
  where
    -- a head fits in front of what fits
    headed : {clears : Option ℕ} {k : ℕ} {head : List Instr} (whole : Code) (base : ℕ) (body : List Instr) → IsHead clears k head → k ≤ whole.cells → Plain whole (length whole.routines) whole.cells (base + length head) 0 body 1
        → Plain whole (length whole.routines) whole.cells base 0 (head ++ body) 1
    headed whole base body (no_head k) le fits = let here : base + 0 ≡ base = omega arith in subst (λ p. Plain whole (length whole.routines) whole.cells p 0 body 1) here fits
    headed whole base body (clearing kept n k is) le fits =
        plain_then whole (length whole.routines) whole.cells base 0 0 1 (op.Zero kept n ∷ []) body
        (fits_one whole (length whole.routines) whole.cells base 0 0 (op.Zero kept n) (omega arith) (omega arith) refl (omega (arith, is, le)) tt tt tt) fits

firing-rows : {rs : Routines} {names : List Name} {ports : List Port} {act : Action} {firsts : List ℕ} {base n m : ℕ} {code : List Instr} → IsFiringCode rs names ports act firsts base n code m → AreBelow n names → LocalsSized act.locals
    → ((port : ℕ) → IsSize (kind_of_port ports port)) → (whole : Code) → HasRunRoutines whole (length whole.routines) n rs → StandsAt whole.instrs base code → m ≤ whole.cells
    → (number : ℕ) → length whole.routines ≤ number → (rest : List ℕ) → AreBodies whole (base + length code) (number + 1) rest → AreBodies whole base number (base ∷ rest)
firing-rows {rs} {names} {ports} {act} {firsts} {base} {n} {m} {code} is below sized kinds whole has stands le number behind rest rows =
    let fit : FitsAsFiring whole (length whole.routines) whole.cells base code = firing-fits whole (length whole.routines) whole.cells rs names ports act firsts base n m code has below sized kinds le stands is in
    let here : StandsAt whole.instrs base (fit.body ++ op.Done ∷ []) = subst (StandsAt whole.instrs base) fit.is stands in
    let size : length code ≡ length fit.body + 1 = ap length fit.is ∙ length-append fit.body (op.Done ∷ []) in
    let next : base + length code ≡ base + length fit.body + 1 = omega (arith, size) in
    body_more base (base + length fit.body) number rest (record {
      callable = length whole.routines;
      before = behind;
      routines = omega arith;
      instrs = fit.body;
      left = 0;
      last = op.Done;
      at_end = refl;
      stands = stands_left whole.instrs base fit.body (op.Done ∷ []) here;
      fits = fit.fits;
      ends = (stands_right whole.instrs base fit.body (op.Done ∷ []) here).0;
      is_end = (behind, refl);
    }) (subst (λ p. AreBodies whole p (number + 1) rest) next rows)

-- ---- in a draft

pub stood-in : (whole : Code) (old new code more : List Instr) → new ≡ old ++ code → whole.instrs ≡ new ++ more → StandsAt whole.instrs (length old) code
stood-in whole old new code more is all =
    let placed : whole.instrs ≡ old ++ (code ++ more) = all ∙ ap (λ xs. xs ++ more) is ∙ append_assoc old code more in
    subst (λ xs. StandsAt xs (length old) code) (sym placed) (stands-in old code more)

-- code that goes on behind what was added to a draft has the routines of the draft
pub has-behind : (actor : Actor) (rs : Routines) (old new : Draft) (whole : Code) (more code : List Instr) → IsServed actor rs old → new.instrs.items ≡ old.instrs.items ++ code → new.routines.items ≡ old.routines.items → GoesOn new whole more
    → HasRunRoutines whole (length whole.routines) old.cells rs
has-behind actor rs old new whole more code served is routines goes =
    let before : GoesOn old whole (code ++ more) = (goes.0 ∙ ap (λ xs. xs ++ more) is ∙ append_assoc old.instrs.items code more, goes.1 ∙ routines) in
    subst (λ k. HasRunRoutines whole k old.cells rs) (sym (ap length before.1)) (has-more whole (length old.routines.items) served.high old.cells rs served.below (served.called whole (code ++ more) before))

pub guards-bodies : (clears : Option ℕ) (actor : Actor) (a : ℕ) (act : Action) (rs : Routines) (es : List ℕ) (old new : Draft) → IsServed actor rs old → slice_get actor.actions a ≡ Some act → AddsGuards clears rs.functions actor a es old new → AddsBodies es old new
guards-bodies clears actor a act rs es old new served e added whole more number rest goes room behind rows =
    let one = added act e in
    let is = goes.0 in
    let has = has-behind actor rs old new whole more one.code served one.is one.routines goes in
    let size : length new.instrs.items ≡ length old.instrs.items + length one.code = ap length one.is ∙ length-append old.instrs.items one.code in
    guards-rows {rs = rs} one.has whole has (stood-in whole old.instrs.items new.instrs.items one.code more one.is is) room number behind rest (subst (λ k. AreBodies whole k (number + length es) rest) size rows)

pub second-sized : (ps qs : List Port) → Each (λ p. IsSize p.kind) (ps ++ qs) → Each (λ p. IsSize p.kind) qs
second-sized [] qs h = h
second-sized (p ∷ ps) qs h = second-sized ps qs h.1

pub firing-bodies : (actor : Actor) (a : ℕ) (act : Action) (rs : Routines) (entry : ℕ) (firsts : List ℕ) (old new : Draft) → IsSound actor → IsServed actor rs old → slice_get actor.actions a ≡ Some act
    → AddsFiring rs actor a entry firsts old new → AddsBodies (entry ∷ []) old new
firing-bodies actor a act rs entry firsts old new sound served e added whole more number rest goes room behind rows =
    let one = added.1 act e in
    let is = goes.0 in
    let le : state_cells actor ≤ old.cells = let x = served.state in let y = served.below in omega (arith, x, y) in
    let has = has-behind actor rs old new whole more one.code served one.is one.routines goes in
    let size : length new.instrs.items ≡ length old.instrs.items + length one.code = ap length one.is ∙ length-append old.instrs.items one.code in
    let is_action : IsAction actor act = action-at actor actor.actions a act sound.actions e in
    let sized : LocalsSized act.locals = locals-sized act.locals (with_patterns actor act.patterns (names_of actor)) is_action.locals in
    let made : AreBodies whole (length old.instrs.items) number (length old.instrs.items ∷ rest) =
    firing-rows one.has (seen-below old.cells actor act le) sized (λ port. size-at actor.outs port (second-sized actor.ins actor.outs sound.port_sizes)) whole has
    (stood-in whole old.instrs.items new.instrs.items one.code more one.is is) room number behind rest (subst (λ k. AreBodies whole k (number + 1) rest) size rows) in
    subst (λ k. AreBodies whole (length old.instrs.items) number (k ∷ rest)) (sym added.0) made

pub bodies-join : (es fs : List ℕ) (one two three : Draft) → IsMore two three → AddsBodies es one two → AddsBodies fs two three → AddsBodies (es ++ fs) one three
bodies-join es fs one two three grown f g whole more number rest goes room behind rows =
    let count : number + length (es ++ fs) ≡ number + length es + length fs = let s = length-append es fs in omega (arith, s) in
    subst (AreBodies whole (length one.instrs.items) number) (sym (append_assoc es fs rest))
    (f whole (grown.code ++ more) number (fs ++ rest) (goes.0 ∙ ap (λ xs. xs ++ more) grown.is ∙ append_assoc two.instrs.items grown.code more, goes.1 ∙ grown.routines)
    (let le = grown.cells in omega (arith, le, room)) behind
    (g whole more (number + length es) rest goes room (omega (arith, behind)) (subst (λ k. AreBodies whole (length three.instrs.items) k rest) count rows)))

-- ---- all actions

pub all-more : (xs : List ActionCode) (x : ActionCode) → all_entries (xs ++ x ∷ []) ≡ all_entries xs ++ entries_of x
all-more [] x = append-nil (entries_of x)
all-more (y ∷ xs) x = ap (λ es. entries_of y ++ es) (all-more xs x) ∙ sym (append_assoc (entries_of y) (all_entries xs) (entries_of x))

pub actions-bodies : (xs now : List ActionCode) (x : ActionCode) (one two three : Draft) → now ≡ xs ++ x ∷ [] → IsMore two three → AddsBodies (all_entries xs) one two → AddsBodies (entries_of x) two three → AddsBodies (all_entries now) one three
actions-bodies xs now x one two three is grown f g =
    subst (λ es. AddsBodies es one three) (sym (ap all_entries is ∙ all-more xs x)) (bodies-join (all_entries xs) (entries_of x) one two three grown f g)

pub no-bodies : (draft : Draft) → AddsBodies [] draft draft
no-bodies draft whole more number rest goes room behind rows =
    let still : number + 0 ≡ number = omega arith in
    subst (λ k. AreBodies whole (length draft.instrs.items) k rest) still rows

pub bodies-of : (xs : List ActionCode) (old new : Draft) → HoldsRoutines old → IsMore old new → AddsBodies (all_entries xs) old new → AreBodiesOf xs new
bodies-of xs old new holds grown added whole is routines cells =
    let all : whole.instrs ≡ new.instrs.items ++ [] = is ∙ sym (append-nil new.instrs.items) in
    let same : whole.routines ≡ old.routines.items = routines ∙ grown.routines in
    let count : length whole.routines ≡ length old.routines.items = ap length same in
    let rows : AreBodies whole (length old.instrs.items) (length old.routines.items) (all_entries xs ++ []) =
    added whole [] (length old.routines.items) [] (all, routines) (omega (arith, cells)) (omega (arith, count))
    (no_body (length new.instrs.items) (length old.routines.items + length (all_entries xs)) (sym (ap length is))) in
    let made : AreBodies whole 0 0 (starts old ++ (all_entries xs ++ [])) =
    holds whole (all_entries xs ++ []) (record { more = grown.code; instrs = is ∙ grown.is; others = []; routines = same ∙ sym (append-nil old.routines.items) }) (let le = grown.cells in omega (arith, cells, le)) rows in
    let begin : starts old ≡ starts new = ap (λ rs. map (λ r. r.start) rs) (sym grown.routines) in
    subst (λ es. AreBodies whole 0 0 (starts new ++ es)) (append-nil (all_entries xs)) (subst (λ es. AreBodies whole 0 0 (es ++ (all_entries xs ++ []))) begin made)

-- ---- admitted code isn't bad

distinct-at : (size : ℕ) (places : List ℕ) (k at : ℕ) → AreDistinct size places → slice_get places k ≡ Some at → (at < size) × (is_among at (take k places) ≡ false)
distinct-at size [] k at h e = absurd (cc)
distinct-at size (place ∷ places) zero at h e = let same : place ≡ at = cc in (subst (λ p. p < size) same h.0, refl)
distinct-at size (place ∷ places) (suc k) at h e =
    let one = distinct-at size places k at h.2 e in
    (one.0, by (place == at) refl one.1)
  where
    among : (ps : List ℕ) (j p : ℕ) → slice_get ps j ≡ Some p → is_among p ps ≡ false → ⊥
    among [] j p f g = absurd (cc)
    among (q ∷ ps) zero p f g =
        let same : q ≡ p = cc in
        let yes : is_among p (q ∷ ps) ≡ true = ap (λ b. b || is_among p ps) (eq-eqb q p same) in
        let no : true ≡ false = sym yes ∙ g in
        absurd (cc)
    among (q ∷ ps) (suc j) p f g = among ps j p f (later (q == p) (is_among p ps) g)
      where
        later : (a b : Bool) → (a || b) ≡ false → b ≡ false
        later true b h = absurd (cc)
        later false b h = h

    by : (b : Bool) → (place == at) ≡ b → is_among at (take k places) ≡ false → (b || is_among at (take k places)) ≡ false
    by true f more = absurd (among places k at e (subst (λ p. is_among p places ≡ false) (eqb-true place at f) h.1))
    by false f more = more

pub never-bad : (code : Code) (at : ℕ) → IsAdmitted code → IsCause code (Bad at) → ⊥
never-bad code at admitted cause =
    ⊎_elim
    (λ place. ⊎_elim
    (λ (wrong : IsFirstWrong (length code.instrs) (begins code) at).
    let one = distinct-at (length code.instrs) (begins code) wrong.index at admitted.places.distinct wrong.is in
    ⊎_elim (λ (far : length code.instrs ≤ at). let low = one.0 in omega (arith, far, low)) (λ (twice : is_among at (take wrong.index (begins code)) ≡ true). let no : true ≡ false = sym twice ∙ one.1 in absurd (cc)) wrong.wrong)
    (λ (none : AreDistinct (length code.instrs) (begins code) × (0 < length code.instrs) × (is_among 0 (begins code) ≡ false) × (at ≡ 0)).
    let no : true ≡ false = sym (admitted.places.first none.1) ∙ none.2 in absurd (cc)) place)
    (λ instr. instr.1.2 (admitted.typed at instr.1.0 instr.1.1))
    cause
