-- Bodies of routines, and guards and firings that clear their cells first, in a draft.
use Rattle.std.proofs.Common.{◌≡◌, ℕ, zero, suc, ◌+◌, ◌-◌, ◌<◌, ◌≤◌, ⊎_elim, Bool, true, false, List, [], ◌∷◌, ◌++◌, length, map, refl, sym, ap, subst, ◌∙◌, arith, Option, Some, append-nil, append_assoc, length-append}
use Rattle.std.specs.Prelude.{slice_get}
use Rattle.cal_ast.specs.Tree.{Tree}
use Rattle.cal_model.specs.declared.bound.Bound.{Bound}
use Rattle.cal_model.specs.Actor.{Action, Actor}
use Rattle.cal_model.specs.Sound.{IsAction, IsSound, names_of, with_patterns}
use Rattle.cal_model.specs.View.{actor_of}
use Rattle.cal_model.proofs.KeptByFirings.{action-at}
use Rattle.code_ir.specs.declared.instr.Instr.{Instr}
use Rattle.code_ir.specs.declared.instr.Instr.TheVariants as op
use Rattle.code_ir.specs.declared.instr.Routine.{Routine}
use Rattle.code_ir.specs.Code.{Code}
use Rattle.lower_base.specs.declared.draft.Draft.{Draft}
use Rattle.lower_base.specs.Allowing.{Allowed, Allows, AreAllowed}
use Rattle.lower_base.specs.Callees.{Function}
use Rattle.lower_base.specs.Calling.{HasRoutines}
use Rattle.lower_base.specs.Names.{Name}
use Rattle.lower_base.specs.Placed.{StandsAt}
use Rattle.lower_base.specs.Routining.{LocalsSized}
use Rattle.lower_base.proofs.AllowedCode.{allows_more}
use Rattle.lower_base.proofs.Runs.{stands_left, stands_right}
use Rattle.lower_stmt.specs.Calls.{HasRunRoutines}
use Rattle.lower_stmt.specs.Procedures.{Routines}
use Rattle.lowered_actor.specs.declared.parts.ActionCode.{ActionCode}
use Rattle.action_lower.specs.FiringWords.{AddsFiring}
use Rattle.action_lower.specs.Guarding.{AreGuards, IsHead, clearing, guard_more, no_guard, no_head}
use Rattle.action_lower.specs.GuardWords.{AddsGuards}
use Rattle.action_lower.specs.Seats.{seen_seats, state_cells}
use Rattle.action_lower.proofs.AllowedFirings.{firing_allowed}
use Rattle.action_lower.proofs.BelowState.{seen-below}
use Rattle.action_lower.proofs.FiringRuns.{locals-sized}
use Rattle.action_lower.proofs.Holding.{size-at}
use Rattle.lower_actor.specs.ClearedBodies.{AreRoutineBodies, ClearedAction, ClearedFiring, ClearedFrom, ClearedGuards, ClearsAction, ClearsActions, IsClearedBody, StayIn, bounds_of}
use Rattle.lower_actor.specs.Coded.{IsMore, SendsInside}
use Rattle.lower_actor.specs.Drafted.{GoesOn, HoldsRoutines, IsServed, starts}
use Rattle.lower_actor.specs.Fitting.{AreBodies, EndsBody, FitsAsFiring, IsBody, body_more, no_body}
use Rattle.lower_actor.proofs.AllowedEntries.{firing-allows, firing-changes, first-ones, functions-wider, guards-allow}
use Rattle.lower_actor.proofs.AllowedRoutines.{allowed-left}
use Rattle.lower_actor.proofs.ClearedStand.{stay-behind, stay-more, stay-of}
use Rattle.lower_actor.proofs.Extending.{firing-added, goes-more}
use Rattle.lower_actor.proofs.FiringFits.{firing-fits, has-more}
use Rattle.lower_actor.proofs.Placed.{action-there, last-or-before}
use Rattle.lower_actor.proofs.Rowed.{second-sized, stood-in}

-- ---- routines

body-of : (whole : Code) (begin number : ℕ) (places : List ℕ) → AreBodies whole begin number places → (k p : ℕ) → slice_get places k ≡ Some p → (end : ℕ) × IsBody whole (number + k) p end
body-of whole _ _ _ (no_body n number e) k p at = absurd (cc)
body-of whole _ _ _ (body_more begin end number places one rest) zero p at =
    let same : begin ≡ p = cc in
    let still : number ≡ number + 0 = omega arith in
    (end, subst (λ m. IsBody whole m p end) still (subst (λ x. IsBody whole number x end) same one))
body-of whole _ _ _ (body_more begin end number places one rest) (suc k) p at =
    let more = body-of whole (end + 1) (number + 1) places rest k p at in
    let count : number + 1 + k ≡ number + suc k = omega arith in
    (more.0, subst (λ m. IsBody whole m p more.0) count more.1)

returns : (whole : Code) (number left : ℕ) (i : Instr) → number < length whole.routines → EndsBody whole number left i → i ≡ op.Return
returns whole number left op.Return low h = refl
returns whole number left op.Answer low h = absurd (let high = h.0 in omega (arith, low, high))
returns whole number left op.Done low h = absurd (let high = h.0 in omega (arith, low, high))
returns whole number left i low h = absurd h

-- what stands in the beginning of code stands in all of it
get-more : (xs more : List Instr) (k : ℕ) (x : Instr) → slice_get xs k ≡ Some x → slice_get (xs ++ more) k ≡ Some x
get-more [] more k x e = absurd (cc)
get-more (y ∷ xs) more zero x e = e
get-more (y ∷ xs) more (suc k) x e = get-more xs more k x e

stands-more : (xs more : List Instr) (base : ℕ) (code : List Instr) → StandsAt xs base code → StandsAt (xs ++ more) base code
stands-more xs more base [] h = tt
stands-more xs more base (i ∷ code) h = (get-more xs more base i h.0, stands-more xs more (base + 1) code h.1)

-- .. and one instruction more
stands-last : (xs : List Instr) (base : ℕ) (code : List Instr) (end : Instr) → StandsAt xs base code → slice_get xs (base + length code) ≡ Some end → StandsAt xs base (code ++ end ∷ [])
stands-last xs base [] end h e = let still : base + 0 ≡ base = omega arith in (subst (λ k. slice_get xs k ≡ Some end) still e, tt)
stands-last xs base (i ∷ code) end h e =
    let next : base + suc (length code) ≡ base + 1 + length code = omega arith in
    (h.0, stands-last xs (base + 1) code end h.1 (subst (λ k. slice_get xs k ≡ Some end) next e))

get-map : (xs : List Routine) (k : ℕ) (r : Routine) → slice_get xs k ≡ Some r → slice_get (map (λ x. x.start) xs) k ≡ Some r.start
get-map [] k r e = absurd (cc)
get-map (x ∷ xs) zero r e = let same : x ≡ r = cc in ap (λ y. Some y.start) same
get-map (x ∷ xs) (suc k) r e = get-map xs k r e

at-number : (xs : List Routine) (k : ℕ) → k < length xs → (r : Routine) × (slice_get xs k ≡ Some r)
at-number [] k low = absurd (omega (arith, low))
at-number (x ∷ xs) zero low = (x, refl)
at-number (x ∷ xs) (suc k) low = at-number xs k (omega (arith, low))

pub routine-bodies : (draft : Draft) → HoldsRoutines draft → AreRoutineBodies draft draft.cells
routine-bodies draft holds whole more goes r low =
    let alone : Code = record { instrs = draft.instrs.items; routines = draft.routines.items; entries = []; cells = draft.cells } in
    let rows : AreBodies alone 0 0 (starts draft ++ []) =
    holds alone [] (record { more = []; instrs = sym (append-nil draft.instrs.items); others = []; routines = sym (append-nil draft.routines.items) }) (omega arith)
    (no_body (length draft.instrs.items) (length draft.routines.items) refl) in
    let count : length whole.routines ≡ length draft.routines.items = ap length goes.1 in
    let found = at-number draft.routines.items r (omega (arith, low, count)) in
    let at : slice_get (starts draft ++ []) r ≡ Some found.0.start = ap (λ xs. slice_get xs r) (append-nil (starts draft)) ∙ get-map draft.routines.items r found.0 found.1 in
    let one = body-of alone 0 0 (starts draft ++ []) rows r found.0.start at in
    let body = one.1 in
    let ends : body.last ≡ op.Return = returns alone (0 + r) body.left body.last (omega (arith, low, count)) body.is_end in
    let placed : slice_get draft.instrs.items (found.0.start + length body.instrs) ≡ Some op.Return =
    ap (slice_get draft.instrs.items) (sym body.at_end) ∙ (body.ends ∙ ap (λ i. Some i) ends) in
    let stands : StandsAt draft.instrs.items found.0.start (body.instrs ++ op.Return ∷ []) = stands-last draft.instrs.items found.0.start body.instrs op.Return body.stands placed in
    record {
      routine = found.0;
      there = ap (λ xs. slice_get xs r) goes.1 ∙ found.1;
      rest = body.instrs;
      stands = subst (λ xs. StandsAt xs found.0.start (body.instrs ++ op.Return ∷ [])) (sym goes.0) (stands-more draft.instrs.items more found.0.start (body.instrs ++ op.Return ∷ []) stands);
      stay = stay-more draft.cells draft.cells body.callable r found.0.start body.instrs (omega arith) (let le = body.before in omega (arith, le))
          (stay-of alone body.callable draft.cells found.0.start 0 body.left body.instrs body.fits);
    }

-- ---- later drafts

pub routines-later : (old new : Draft) (limit : ℕ) → IsMore old new → AreRoutineBodies old limit → AreRoutineBodies new limit
routines-later old new limit grown h whole more goes = h whole (grown.code ++ more) (goes-more old new whole more grown goes)

pub from-more : (actor : Actor) (a : ℕ) (fs : List Function) (firing : Bool) (low entry limit : ℕ) (end : Instr) (old new : Draft) → IsMore old new → ClearedFrom actor a fs firing low entry limit end old → ClearedFrom actor a fs firing low entry limit end new
from-more actor a fs firing low entry limit end old new grown h = record {
  below = h.below;
  body = λ whole more goes. h.body whole (grown.code ++ more) (goes-more old new whole more grown goes);
}

from-lower : (actor : Actor) (a : ℕ) (fs : List Function) (firing : Bool) (low down entry limit : ℕ) (end : Instr) (draft : Draft) → down ≤ low → ClearedFrom actor a fs firing low entry limit end draft → ClearedFrom actor a fs firing down entry limit end draft
from-lower actor a fs firing low down entry limit end draft le h = record { below = (let ge = h.below in omega (arith, le, ge)); body = h.body }

pub guards-later : (actor : Actor) (a : ℕ) (fs : List Function) (low : ℕ) (entries : List ℕ) (old new : Draft) → IsMore old new → ClearedGuards actor a fs low entries old → ClearedGuards actor a fs low entries new
guards-later actor a fs low entries old new grown h k entry e = let one = h k entry e in (one.0, from-more actor a fs false low entry one.0 op.Answer old new grown one.1)

pub firing-lower : (actor : Actor) (a : ℕ) (fs : List Function) (low down entry : ℕ) (firsts : List ℕ) (draft : Draft) → down ≤ low → ClearedFiring actor a fs low entry firsts draft → ClearedFiring actor a fs down entry firsts draft
firing-lower actor a fs low down entry firsts draft le h = record { limit = h.limit; from = from-lower actor a fs true low down entry h.limit op.Done draft le h.from; sends = h.sends }

action-later : (actor : Actor) (a : ℕ) (fs : List Function) (low down : ℕ) (coded : ActionCode) (old new : Draft) → down ≤ low → IsMore old new → ClearedAction actor a fs low coded old → ClearedAction actor a fs down coded new
action-later actor a fs low down coded old new le grown h = record {
  guards = λ k entry e. let one = h.guards k entry e in (one.0, from-lower actor a fs false low down entry one.0 op.Answer new le (from-more actor a fs false low entry one.0 op.Answer old new grown one.1));
  firsts = h.firsts;
  firing = record {
    limit = h.firing.limit;
    from = from-lower actor a fs true low down coded.fire h.firing.limit op.Done new le (from-more actor a fs true low coded.fire h.firing.limit op.Done old new grown h.firing.from);
    sends = h.firing.sends;
  };
  sends = h.sends;
}

same-draft : (draft : Draft) → IsMore draft draft
same-draft draft = record { code = []; is = sym (append-nil draft.instrs.items); routines = refl; cells = omega arith }

pub none-cleared : (clear : Bool) (actor : Actor) (fs : List Function) (low : ℕ) (draft : Draft) → ClearsActions clear actor fs low [] draft
none-cleared clear actor fs low draft a coded e = absurd (cc)

pub clears-more : (clear : Bool) (actor : Actor) (fs : List Function) (low n : ℕ) (actions now : List ActionCode) (coded : ActionCode) (old new : Draft) → length actions ≡ n → low ≤ old.cells → IsMore old new
    → ClearsActions clear actor fs low actions old → ClearsAction clear actor n fs old.cells coded new → now ≡ actions ++ coded ∷ [] → ClearsActions clear actor fs low now new
clears-more clear actor fs low n actions now coded old new count le grown before one is a x e wanted =
    ⊎_elim (λ (h : slice_get actions a ≡ Some x). action-later actor a fs low low x old new (omega arith) grown (before a x h wanted))
    (λ (h : (a ≡ length actions) × (coded ≡ x)).
    let place : n ≡ a = let p = h.0 in omega (arith, p, count) in
    subst (λ y. ClearedAction actor a fs low y new) h.1
    (subst (λ k. ClearedAction actor k fs low coded new) place (action-later actor n fs old.cells low coded new new le (same-draft new) (one wanted))))
    (last-or-before actions coded a x (ap (λ xs. slice_get xs a) (sym is) ∙ e))

-- ---- guards

-- what stands behind the head of a guard
guard-cleared : {kept m : ℕ} {clears : Option ℕ} {head : List Instr} (bounds : Allowed) (callable base : ℕ) (body : List Instr) (whole : Code) → clears ≡ Some kept → IsHead clears m head
    → StayIn m callable (base + length head) body → AreAllowed bounds body → StandsAt whole.instrs base (head ++ (body ++ op.Answer ∷ [])) → IsClearedBody whole bounds callable kept base m op.Answer
guard-cleared bounds callable base body whole is (no_head m) stay allowed stands = absurd (cc)
guard-cleared {kept} bounds callable base body whole is (clearing k count m up) stay allowed stands =
    let same : k ≡ kept = cc in
    subst (λ j. IsClearedBody whole bounds callable j base m op.Answer) same (record {
      count = count;
      rest = body;
      limit_is = sym up;
      stands = stands;
      stay = stay-behind k count callable m base body (sym up) stay;
      allowed = allowed;
    })

guards-cleared : {kept low : ℕ} {fs : List Function} {names : List Name} {gs : List Tree} {es : List ℕ} {base n m : ℕ} {part : List Instr} → AreGuards (Some kept) fs names gs es base n part m → low ≤ n
    → (k entry : ℕ) → slice_get es k ≡ Some entry
    → (limit : ℕ) × (low ≤ limit) × ((whole : Code) (bounds : Allowed) (callable : ℕ) → HasRoutines whole callable n fs → Allows bounds fs names n → StandsAt whole.instrs base part → IsClearedBody whole bounds callable kept entry limit op.Answer)
guards-cleared (no_guard base n) le k entry e = absurd (cc)
guards-cleared {kept} {low} {fs} {names} (guard_more g gs es base n j m a b first others) le zero entry e =
    let same : base ≡ entry = cc in
    let up = first.lowered.cells in (
      j,
      omega (arith, le, up),
      λ whole bounds callable has allows stands.
          let here : StandsAt whole.instrs base (first.head ++ (first.body ++ op.Answer ∷ [])) = subst (StandsAt whole.instrs base) first.is (stands_left whole.instrs base a b stands) in
          let inner : StandsAt whole.instrs (base + length first.head) first.body =
          stands_left whole.instrs (base + length first.head) first.body (op.Answer ∷ []) (stands_right whole.instrs base first.head (first.body ++ op.Answer ∷ []) here) in
          let fits = first.lowered.fits whole callable 0 (functions-wider whole callable n j fs up has) inner in
          subst (λ p. IsClearedBody whole bounds callable kept p j op.Answer) same
          (guard-cleared bounds callable base first.body whole refl first.begins (stay-of whole callable j (base + length first.head) 0 1 first.body fits) (first.lowered.allowed bounds allows) here),
    )
guards-cleared {kept} {low} {fs} {names} (guard_more g gs es base n j m a b first others) le (suc k) entry e =
    let up = first.lowered.cells in
    let one = guards-cleared others (omega (arith, le, up)) k entry e in
    (one.0, one.1, λ whole bounds callable has allows stands. one.2 whole bounds callable (functions-wider whole callable n j fs up has) (allows_more j up allows) (stands_right whole.instrs base a b stands))

module _ (b : Bound) (a : ℕ) (low : a < length b.actions.items) where
  pub guards-from : (rs : Routines) (clears : Option ℕ) (es : List ℕ) (old new : Draft) → IsSound (actor_of b) → clears ≡ Some (state_cells (actor_of b)) → IsServed (actor_of b) rs old → AddsGuards clears rs.functions (actor_of b) a es old new
      → ClearedGuards (actor_of b) a rs.functions old.cells es new
  guards-from rs clears es old new sound is served added k entry e =
      let there = action-there b a low in
      let one = (subst (λ c. AddsGuards c rs.functions (actor_of b) a es old new) is added) there.0 there.1 in
      let found = guards-cleared {low = old.cells} one.has (omega arith) k entry e in (
        found.0,
        record {
          below = found.1;
          body = λ whole more goes.
              let before : GoesOn old whole (one.code ++ more) = (goes.0 ∙ ap (λ xs. xs ++ more) one.is ∙ append_assoc old.instrs.items one.code more, goes.1 ∙ one.routines) in
              let has = first-ones whole (length old.routines.items) old.cells rs.functions served.first
              (functions-wider whole (length old.routines.items) served.high old.cells rs.functions served.below (served.called whole (one.code ++ more) before).functions) in
              let allows = guards-allow (actor_of b) sound rs whole served.high (served.stand whole (one.code ++ more) before) a there.0 there.1 old.cells
              (let state = served.state in let below = served.below in omega (arith, state, below)) in
              found.2 whole (bounds_of (actor_of b) a false) (length rs.functions) has allows (stood-in whole old.instrs.items new.instrs.items one.code more one.is goes.0);
        },
      )

-- ---- firings

module _ (actor : Actor) (a : ℕ) (rs : Routines) (entry : ℕ) (firsts : List ℕ) (old mid fin new : Draft) (sound : IsSound actor) (served : IsServed actor rs old) (at : entry ≡ length old.instrs.items)
    (put : mid.instrs.items ≡ old.instrs.items ++ op.Zero 0 0 ∷ []) (routines : mid.routines.items ≡ old.routines.items) (cells : mid.cells ≡ old.cells) (adds : AddsFiring rs actor a (length mid.instrs.items) firsts mid fin)
    (zero-at : (before rest : List Instr) (i : Instr) → fin.instrs.items ≡ before ++ i ∷ rest → entry ≡ length before → new.instrs.items ≡ before ++ op.Zero (state_cells actor) (fin.cells - state_cells actor) ∷ rest)
    (same-routines : new.routines.items ≡ fin.routines.items) (same-cells : new.cells ≡ fin.cells) (sends : SendsInside actor a firsts new) where
  pub firing-from : (act : Action) → slice_get actor.actions a ≡ Some act → ClearedFiring actor a rs.functions old.cells entry firsts new
  firing-from act e =
      let one = adds.1 act e in
      let low = state_cells actor in
      let count = fin.cells - low in
      let zero-instr : Instr = op.Zero low count in
      let code = zero-instr ∷ one.code in
      let longer : length mid.instrs.items ≡ length old.instrs.items + 1 = ap length put ∙ length-append old.instrs.items (op.Zero 0 0 ∷ []) in
      let is : new.instrs.items ≡ old.instrs.items ++ code =
      zero-at old.instrs.items one.code (op.Zero 0 0) (one.is ∙ ap (λ xs. xs ++ one.code) put ∙ append_assoc old.instrs.items (op.Zero 0 0 ∷ []) one.code) at in
      let below : low ≤ old.cells = let p = served.state in let q = served.below in omega (arith, p, q) in
      let grown = firing-added rs actor a act (length mid.instrs.items) firsts mid fin e adds in
      let wide : old.cells ≤ new.cells = let le = grown.cells in omega (arith, le, cells, same-cells) in
      let limit : new.cells ≡ low + count = omega (arith, wide, below, same-cells) in
      record {
        limit = new.cells;
        from = record {
          below = wide;
          body = λ whole more goes.
              let before : GoesOn old whole (code ++ more) = (goes.0 ∙ ap (λ xs. xs ++ more) is ∙ append_assoc old.instrs.items code more, goes.1 ∙ same-routines ∙ one.routines ∙ routines) in
              let has : HasRunRoutines whole (length whole.routines) mid.cells rs =
              subst (λ k. HasRunRoutines whole k mid.cells rs) (sym (ap length before.1))
              (has-more whole (length old.routines.items) served.high mid.cells rs (let q = served.below in omega (arith, q, cells)) (served.called whole (code ++ more) before)) in
              let stands : StandsAt whole.instrs (length old.instrs.items) code = stood-in whole old.instrs.items new.instrs.items code more is goes.0 in
              let inner : StandsAt whole.instrs (length mid.instrs.items) one.code = subst (λ p. StandsAt whole.instrs p one.code) (sym longer) stands.1 in
              let is_action : IsAction actor act = action-at actor actor.actions a act sound.actions e in
              let sized : LocalsSized act.locals = locals-sized act.locals (with_patterns actor act.patterns (names_of actor)) is_action.locals in
              let fit : FitsAsFiring whole (length whole.routines) new.cells (length mid.instrs.items) one.code =
              firing-fits whole (length whole.routines) new.cells rs _ actor.outs act firsts (length mid.instrs.items) mid.cells fin.cells one.code has (seen-below mid.cells actor act (omega (arith, below, cells))) sized
              (λ port. size-at actor.outs port (second-sized actor.ins actor.outs sound.port_sizes)) (omega (arith, same-cells)) inner one.has in
              let stay : StayIn new.cells (length whole.routines) (length mid.instrs.items) fit.body =
              stay-of whole (length whole.routines) new.cells (length mid.instrs.items) 0 0 fit.body fit.fits in
              let all : StandsAt whole.instrs (length old.instrs.items) ((zero-instr ∷ fit.body) ++ op.Done ∷ []) =
              subst (StandsAt whole.instrs (length old.instrs.items)) (ap (λ xs. zero-instr ∷ xs) fit.is) stands in
              let known = with_patterns actor act.patterns (names_of actor) in
              let are = served.stand whole (code ++ more) before in
              let runs = firing-allows actor sound rs whole served.high are a act e mid.cells (omega (arith, below, cells)) in
              let changes = firing-changes actor sound rs whole served.high are a act e in
              let ok : AreAllowed (bounds_of actor a true) one.code =
              firing_allowed (bounds_of actor a true) rs (seen_seats actor act) actor.outs act firsts (length mid.instrs.items) mid.cells fin.cells one.code actor.procs known runs changes is_action.body one.has in
              subst (λ p. IsClearedBody whole (bounds_of actor a true) (length whole.routines) low p new.cells op.Done) (sym at) (record {
                count = count;
                rest = fit.body;
                limit_is = limit;
                stands = all;
                stay = stay-behind low count (length whole.routines) new.cells (length old.instrs.items) fit.body limit
                    (subst (λ p. StayIn new.cells (length whole.routines) p fit.body) longer stay);
                allowed = allowed-left (bounds_of actor a true) fit.body (op.Done ∷ []) (subst (AreAllowed (bounds_of actor a true)) fit.is ok);
              });
        };
        sends = λ other port f. sends other port f;
      }
