-- What guards say, one after another.
use Rattle.std.proofs.Common.{◌≡◌, ℕ, suc, ◌+◌, ◌<◌, ◌≤◌, ℤ, Bool, true, false, ◌&&◌, List, ◌∷◌, length, take, drop, refl, sym, ap, subst, ◌∙◌, arith, Option, None, Some}
use Rattle.std.specs.Prelude.{Contains, if◌then◌else◌, ◌==◌, slice_get, slice_index_or}
use Rattle.std.proofs.lemmas.Bool.{le-leb, eq-eqb}
use Rattle.std.proofs.lemmas.List.{drop_more, drop_all, length-take-le, get_or_default}
use Rattle.std.proofs.lemmas.Option.{get_or_from_slice_get, slice_get_within}
use Rattle.rvc_base.specs.declared.trap.Trap.{Trap}
use Rattle.code_ir.specs.declared.outcome.Outcome.{Outcome}
use Rattle.code_ir.specs.declared.outcome.Outcome.TheVariants as outcome
use Rattle.code_ir.specs.Code.{Code, is_among}
use Rattle.code_ir.specs.Running.{runs, HasItsTokens}
use Rattle.lowered_actor.specs.Actor.{Action, Actor}
use Rattle.lowered_actor.specs.Facts.{IsAsked, Fits, IsLowered, IsGuard, IsAnswer}
use Rattle.lowered_actor.specs.Meaning.{ActorState, Guards, AreTrue, AreFalse, AreTrapping, outcome_then, guard_then, guards_say, cells_of, is_eligible, is_state, has_its_tokens, taken, readiness}
use Rattle.lowered_actor.specs.Laws.{AreCellsOf, IsReady, GuardEnds, GuardsEnd, TokensAreAsked}
use Rattle.guard_select.specs.Selecting.{state_of, first_of}
use Rattle.guard_select.proofs.Takes.{taken-is}

-- the state that cells make is one
pub is-state : (actor : Actor) (s : ℕ) (cells : List ℤ) → s < actor.fsm.states → actor.kept ≤ length cells → is_state actor (state_of actor s cells) ≡ true
is-state actor s cells low many =
    let size : length (take actor.kept cells) ≡ actor.kept = length-take-le actor.kept cells many in
    ap (λ b. b && (length (take actor.kept cells) == actor.kept)) (le-leb (suc s) actor.fsm.states (omega (arith, low)))
    ∙ eq-eqb (length (take actor.kept cells)) actor.kept size

pub cells-of : (actor : Actor) (s : ℕ) (first cells : List ℤ) → IsLowered actor → s < actor.fsm.states → length first ≡ actor.code.cells → length cells ≡ actor.code.cells
    → take actor.kept cells ≡ take actor.kept first → AreCellsOf actor (state_of actor s first) cells
cells-of actor s first cells lowered low size size' same = record {
  state = is-state actor s first low (let k = lowered.fits.kept in omega (arith, k, size));
  size = size';
  kept = same;
}

-- ---- what is known while the guards of an action are asked

pub among-at : (xs : List ℕ) (k x : ℕ) → k < length xs → x ≡ slice_index_or xs k x → Contains xs x
among-at xs k x low is = (k, low, sym is)

module _ (actor : Actor) (x : ActorState) (tokens : ℕ → List ℤ) (a : ℕ) (action : Action) (lowered : IsLowered actor)
    (ready : IsReady actor tokens a action) (cells : List ℤ) (are : AreCellsOf actor x cells) (asked : TokensAreAsked) where
  asked-now : IsAsked actor action cells (first_of action.needs tokens)
  asked-now = subst (IsAsked actor action cells) (sym (taken-is actor tokens a action ready.there)) (asked actor x tokens a action cells lowered are ready)

  guard-is : (entry : ℕ) → Contains action.guards entry → IsGuard actor action entry
  guard-is entry among = lowered.right.guards a action entry ready.there among

  pub has-tokens : (entry : ℕ) → Contains action.guards entry → HasItsTokens actor.code entry cells (first_of action.needs tokens)
  has-tokens entry among = (guard-is entry among).reads cells (first_of action.needs tokens) asked-now

  pub keeps-state : (entry : ℕ) (o : Outcome) (left : List ℤ) → Contains action.guards entry → runs actor.code entry cells (first_of action.needs tokens) o left
      → take actor.kept left ≡ take actor.kept cells
  keeps-state entry o left among run = (guard-is entry among).keeps cells (first_of action.needs tokens) o left asked-now run

  pub answers : (entry : ℕ) (o : Outcome) (left : List ℤ) → Contains action.guards entry → runs actor.code entry cells (first_of action.needs tokens) o left → IsAnswer o
  answers entry o left among run = (guard-is entry among).answers cells (first_of action.needs tokens) o left asked-now run

  guard-ends : GuardsEnd → (entry : ℕ) (o : Outcome) (left : List ℤ) → Contains action.guards entry → runs actor.code entry cells (first_of action.needs tokens) o left
      → GuardEnds actor x (taken actor tokens a) entry o
  guard-ends law entry o left among run =
      law actor x tokens a action entry cells left o lowered are ready among
      (subst (λ us. runs actor.code entry cells us o left) (taken-is actor tokens a action ready.there) run)

  -- the guards from place k on
  pub says-from : GuardsEnd → (k entry : ℕ) (o : Outcome) (left : List ℤ) → k < length action.guards → entry ≡ slice_index_or action.guards k entry
      → runs actor.code entry cells (first_of action.needs tokens) o left
      → guards_say actor.code (cells_of actor x) (taken actor tokens a) (drop k action.guards)
      ≡ outcome_then o (guards_say actor.code (cells_of actor x) (taken actor tokens a) (drop (k + 1) action.guards))
  says-from law k entry o left low is run =
      let ends = guard-ends law entry o left (among-at action.guards k entry low is) run in
      let rest : Guards = guards_say actor.code (cells_of actor x) (taken actor tokens a) (drop (k + 1) action.guards) in
      let here : drop k action.guards ≡ entry ∷ drop (k + 1) action.guards =
      drop_more action.guards k entry low ∙ ap (λ e. e ∷ drop (k + 1) action.guards) (sym is) in
      ap (guards_say actor.code (cells_of actor x) (taken actor tokens a)) here
      ∙ (ap (λ end. guard_then end rest) ends.is ∙ ap (λ p. outcome_then p rest) ends.same)

-- if an action is eligible and has its tokens, its readiness is what its guards say
pub readiness-is : (actor : Actor) (x : ActorState) (tokens : ℕ → List ℤ) (a : ℕ) (action : Action) → is_eligible actor x.at a ≡ true → IsReady actor tokens a action
    → readiness actor x tokens a ≡ guards_say actor.code (cells_of actor x) (taken actor tokens a) action.guards
readiness-is actor x tokens a action eligible ready =
    ap (λ o. elim o [
      | None ↦ AreFalse
      | Some act ↦ if is_eligible actor x.at a && has_its_tokens actor tokens a then guards_say actor.code (cells_of actor x) (taken actor tokens a) act.guards else AreFalse
    ]) ready.there
    ∙ (ap (λ b. if b && has_its_tokens actor tokens a then guards_say actor.code (cells_of actor x) (taken actor tokens a) action.guards else AreFalse) eligible
    ∙ ap (λ b. if b then guards_say actor.code (cells_of actor x) (taken actor tokens a) action.guards else AreFalse) ready.has)

readiness-by : Option Action → Bool → (Action → Guards) → Guards
readiness-by o b g = elim o [ None ↦ AreFalse | Some act ↦ if b then g act else AreFalse ]

false-by : (o : Option Action) (g : Action → Guards) → (elim o [ None ↦ AreFalse | Some act ↦ if false then g act else AreFalse ]) ≡ AreFalse
false-by None g = refl
false-by (Some act) g = refl

and-no : (b : Bool) → (b && false) ≡ false
and-no true = refl
and-no false = refl

-- if it lacks tokens, or isn't eligible, its guards count as false
pub lacking-is-false : (actor : Actor) (x : ActorState) (tokens : ℕ → List ℤ) (a : ℕ) → has_its_tokens actor tokens a ≡ false → readiness actor x tokens a ≡ AreFalse
lacking-is-false actor x tokens a lacks =
    ap (λ b. elim (slice_get actor.actions a) [
      | None ↦ AreFalse
      | Some act ↦ if b then guards_say actor.code (cells_of actor x) (taken actor tokens a) act.guards else AreFalse
    ]) (ap (λ b. is_eligible actor x.at a && b) lacks ∙ and-no (is_eligible actor x.at a))
    ∙ false-by (slice_get actor.actions a) (λ act. guards_say actor.code (cells_of actor x) (taken actor tokens a) act.guards)

pub idle-is-false : (actor : Actor) (x : ActorState) (tokens : ℕ → List ℤ) (a : ℕ) → is_eligible actor x.at a ≡ false → readiness actor x tokens a ≡ AreFalse
idle-is-false actor x tokens a idle =
    ap (λ b. elim (slice_get actor.actions a) [
      | None ↦ AreFalse
      | Some act ↦ if b && has_its_tokens actor tokens a then guards_say actor.code (cells_of actor x) (taken actor tokens a) act.guards else AreFalse
    ]) idle
    ∙ false-by (slice_get actor.actions a) (λ act. guards_say actor.code (cells_of actor x) (taken actor tokens a) act.guards)

-- ---- one guard of the loop

module _ (actor : Actor) (lowered : IsLowered actor) (s : ℕ) (low : s < actor.fsm.states) (tokens : ℕ → List ℤ) (a : ℕ) (action : Action)
    (ready : IsReady actor tokens a action) (eligible : is_eligible actor s a ≡ true) (asked : TokensAreAsked) (law : GuardsEnd)
    (first : List ℤ) (size : length first ≡ actor.code.cells) (cells : List ℤ) (size' : length cells ≡ actor.code.cells)
    (same : take actor.kept cells ≡ take actor.kept first) (items : List ℕ) (listed : items ≡ action.guards) (k : ℕ) (inside : k < length items)
    (code : Code) (coded : code ≡ actor.code) (needs : List ℕ) (needed : needs ≡ action.needs) where
  abbrev x : ActorState
  x = state_of actor s first

  abbrev said : List ℕ → Guards
  said entries = guards_say actor.code (cells_of actor x) (taken actor tokens a) entries

  abbrev entry : ℕ
  entry = slice_index_or items k 0

  -- the guard's run, as the machine says it
  abbrev Runs : Outcome → List ℤ → Type 0
  Runs o left = runs code entry cells (first_of needs tokens) o left

  are : AreCellsOf actor x cells
  are = cells-of actor s first cells lowered low size size' same

  within : k < length action.guards
  within = subst (λ l. k < length l) listed inside

  at-place : entry ≡ slice_index_or action.guards k entry
  at-place = ap (λ l. slice_index_or l k 0) listed ∙ get_or_default action.guards k 0 entry within

  among : Contains action.guards entry
  among = among-at action.guards k entry within at-place

  run-so : (o : Outcome) (left : List ℤ) → Runs o left → runs actor.code entry cells (first_of action.needs tokens) o left
  run-so o left run = subst (λ n. runs actor.code entry cells (first_of n tokens) o left) needed (subst (λ d. runs d entry cells (first_of needs tokens) o left) coded run)

  so-far : said (drop k items) ≡ said items → said (drop k action.guards) ≡ said action.guards
  so-far h = subst (λ l. said (drop k l) ≡ said l) listed h

  pub turn-entry : is_among entry code.entries ≡ true
  turn-entry =
      let fits : Fits actor action = subst (Fits actor) (get_or_from_slice_get actor.actions a action action ready.there) (lowered.fits.each a action (slice_get_within actor.actions a action ready.there)) in
      subst (λ (d : Code). is_among entry d.entries ≡ true) (sym coded)
      (subst (λ e. is_among e actor.code.entries ≡ true) (ap (λ l. slice_index_or l k 0) (sym listed)) (fits.guards k 0 within))

  pub turn-tokens : HasItsTokens code entry cells (first_of needs tokens)
  turn-tokens =
      subst (λ (d : Code). HasItsTokens d entry cells (first_of needs tokens)) (sym coded)
      (subst (λ n. HasItsTokens actor.code entry cells (first_of n tokens)) (sym needed) (has-tokens actor x tokens a action lowered ready cells are asked entry among))

  pub turn-keeps : (o : Outcome) (left : List ℤ) → Runs o left → take actor.kept left ≡ take actor.kept first
  turn-keeps o left run = keeps-state actor x tokens a action lowered ready cells are asked entry o left among (run-so o left run) ∙ same

  turn-says : (o : Outcome) (left : List ℤ) → Runs o left → said (drop k action.guards) ≡ outcome_then o (said (drop (k + 1) action.guards))
  turn-says o left run = says-from actor x tokens a action lowered ready cells are asked law k entry o left within at-place (run-so o left run)

  pub turn-true : (left : List ℤ) → Runs outcome.True left → said (drop k items) ≡ said items → said (drop (k + 1) items) ≡ said items
  turn-true left run h =
      subst (λ l. said (drop (k + 1) l) ≡ said l) (sym listed) (sym (turn-says outcome.True left run) ∙ so-far h)

  pub turn-trap : (cause : Trap) (left : List ℤ) → Runs (outcome.Trap cause) left → said (drop k items) ≡ said items → AreTrapping cause ≡ readiness actor x tokens a
  turn-trap cause left run h =
      sym (readiness-is actor x tokens a action eligible ready ∙ (sym (so-far h) ∙ turn-says (outcome.Trap cause) left run))

  pub turn-false : (o : Outcome) (left : List ℤ) → Runs o left → (o ≡ outcome.True → ⊥) → ((cause : Trap) → o ≡ outcome.Trap cause → ⊥)
      → said (drop k items) ≡ said items → AreFalse ≡ readiness actor x tokens a
  turn-false o left run not-true not-trap h =
      sym (readiness-is actor x tokens a action eligible ready ∙ (sym (so-far h) ∙ (turn-says o left run ∙ by o not-true not-trap)))
    where
      by : (p : Outcome) → (p ≡ outcome.True → ⊥) → ((cause : Trap) → p ≡ outcome.Trap cause → ⊥) → outcome_then p (said (drop (k + 1) action.guards)) ≡ AreFalse
      by outcome.True t f = absurd (t refl)
      by outcome.False t f = refl
      by outcome.Done t f = refl
      by (outcome.Trap cause) t f = absurd (f cause refl)

-- all are true
pub all-true : (actor : Actor) (x : ActorState) (tokens : ℕ → List ℤ) (a : ℕ) (action : Action) (items : List ℕ) (k : ℕ) → items ≡ action.guards
    → IsReady actor tokens a action → is_eligible actor x.at a ≡ true → length items ≤ k
    → guards_say actor.code (cells_of actor x) (taken actor tokens a) (drop k items) ≡ guards_say actor.code (cells_of actor x) (taken actor tokens a) items
    → AreTrue ≡ readiness actor x tokens a
all-true actor x tokens a action items k listed ready eligible high h =
    ap (guards_say actor.code (cells_of actor x) (taken actor tokens a)) (sym (drop_all k items high))
    ∙ (h ∙ (ap (guards_say actor.code (cells_of actor x) (taken actor tokens a)) listed ∙ sym (readiness-is actor x tokens a action eligible ready)))
