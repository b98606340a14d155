-- What the run of a firing comes to.
use Rattle.std.proofs.Common.{◌≡◌, ℕ, zero, suc, ◌+◌, ◌<◌, ◌≤◌, ℤ, true, List, [], ◌∷◌, length, refl, sym, ap, subst, ◌∙◌, arith, None, Some}
use Rattle.std.specs.Prelude.{slice_get}
use Rattle.std.proofs.lemmas.Option.{get_or_from_slice_get, slice_get_within}
use Rattle.rvc_base.specs.declared.trap.Trap.{Trap}
use Rattle.rvc_base.specs.Behaviour.{Fires}
use Rattle.code_ir.specs.declared.outcome.Outcome.{Outcome}
use Rattle.code_ir.specs.declared.outcome.Outcome.TheVariants as outcome
use Rattle.code_ir.specs.Code.{Code, is_among}
use Rattle.code_ir.specs.Running.{runs, HasItsTokens}
use Rattle.lowered_actor.specs.Actor.{Action, Actor, number_on}
use Rattle.lowered_actor.specs.Facts.{Fits, IsAsked, IsEffect, IsFiring, IsLowered, SameSent, cells_from}
use Rattle.lowered_actor.specs.Meaning.{ActorState, cells_of, end_of, effect_of_body, effect_of_end, effect_of_outcome, next, sent_from, taken}
use Rattle.lowered_actor.specs.Laws.{AreCellsOf, IsReady, FiringEnds, FiringsEnd, TokensAreAsked}
use Rattle.guard_select.specs.Selecting.{state_of, first_of}
use Rattle.guard_select.proofs.Takes.{taken-is}
use Rattle.guard_select.proofs.Says.{cells-of}
use Rattle.actor_cell.specs.Acting.{IsCutOff, IsDone, sent_of}

pub fits-of : (actor : Actor) (a : ℕ) (action : Action) → IsLowered actor → slice_get actor.actions a ≡ Some action → Fits actor action
fits-of actor a action lowered there =
    subst (Fits actor) (get_or_from_slice_get actor.actions a action action there) (lowered.fits.each a action (slice_get_within actor.actions a action there))

sent-from-same : (actor : Actor) (action : Action) (cells others : List ℤ) → SameSent actor action cells others → (p n : ℕ) → p + n ≤ actor.outs
    → sent_from action cells p n ≡ sent_from action others p n
sent-from-same actor action cells others same p zero low = refl
sent-from-same actor action cells others same p (suc n) low =
    ap (λ first. first ∷ sent_from action cells (suc p) n) (same p (omega (arith, low)))
    ∙ ap (λ rest. cells_from others (number_on action.sends p) (number_on action.gives p) ∷ rest)
    (sent-from-same actor action cells others same (suc p) n (omega (arith, low)))

pub sent-of-is : (actor : Actor) (a : ℕ) (action : Action) (cells : List ℤ) → slice_get actor.actions a ≡ Some action
    → sent_of actor a cells ≡ sent_from action cells 0 actor.outs
sent-of-is actor a action cells there = ap (λ o. elim o [ None ↦ [] | Some act ↦ sent_from act cells 0 actor.outs ]) there

module _ (actor : Actor) (lowered : IsLowered actor) (at : ℕ) (low : at < actor.fsm.states) (tokens : ℕ → List ℤ) (a : ℕ)
    (action : Action) (ready : IsReady actor tokens a action) (asked : TokensAreAsked) (law : FiringsEnd)
    (cells : List ℤ) (size : length cells ≡ actor.code.cells) where
  abbrev x : ActorState
  x = state_of actor at cells

  are : AreCellsOf actor x cells
  are = cells-of actor at cells cells lowered low size size refl

  asked-now : IsAsked actor action cells (taken actor tokens a)
  asked-now = asked actor x tokens a action cells lowered are ready

  firing : IsFiring actor action action.fire
  firing = lowered.right.firings a action ready.there

  pub entry-is : is_among action.fire actor.code.entries ≡ true
  entry-is = (fits-of actor a action lowered ready.there).fire

  pub has-taken : HasItsTokens actor.code action.fire cells (taken actor tokens a)
  has-taken = firing.reads cells (taken actor tokens a) asked-now

  pub ends-so : (o : Outcome) (left : List ℤ) → runs actor.code action.fire cells (taken actor tokens a) o left → IsEffect o
  ends-so o left run = firing.ends cells (taken actor tokens a) o left asked-now run

  pub ends : (o : Outcome) (left : List ℤ) → runs actor.code action.fire cells (taken actor tokens a) o left → FiringEnds actor x (taken actor tokens a) action o left
  ends o left run = law actor x tokens a action cells left o lowered are ready run

  pub body-is : (o : Outcome) (left : List ℤ) (run : runs actor.code action.fire cells (taken actor tokens a) o left)
      → effect_of_body actor x tokens a ≡ effect_of_outcome actor x a action o (ends o left run).end.cells
  body-is o left run =
      let found = ends o left run in
      ap (λ one. elim one [ None ↦ None | Some act ↦ effect_of_end actor x a act (end_of actor.code act.fire (cells_of actor x) (taken actor tokens a)) ]) ready.there
      ∙ (ap (effect_of_end actor x a action) found.is ∙ ap (λ p. effect_of_outcome actor x a action p found.end.cells) found.same)

  pub is-cut-off : (cause : Trap) (left : List ℤ) → runs actor.code action.fire cells (taken actor tokens a) (outcome.Trap cause) left
      → IsCutOff actor at a tokens cells cause
  is-cut-off cause left run = body-is (outcome.Trap cause) left run

  done-by : (left : List ℤ) → runs actor.code action.fire cells (taken actor tokens a) outcome.Done left → IsDone actor at a tokens cells left
  done-by left run =
      let found = ends outcome.Done left run in
      body-is outcome.Done left run
      ∙ (ap (λ kept. Some (Fires (record { at = next actor at a; cells = kept }) (sent_from action found.end.cells 0 actor.outs))) (found.state refl)
      ∙ ap (λ sent. Some (Fires (state_of actor (next actor at a) left) sent))
      (sent-from-same actor action found.end.cells left (found.sent refl) 0 actor.outs (omega arith) ∙ sym (sent-of-is actor a action left ready.there)))

  pub is-done : (o : Outcome) (left : List ℤ) → runs actor.code action.fire cells (taken actor tokens a) o left
      → ((cause : Trap) → o ≡ outcome.Trap cause → ⊥) → IsDone actor at a tokens cells left
  is-done o left run not-trap = by o run (ends-so o left run) not-trap
    where
      by : (p : Outcome) → runs actor.code action.fire cells (taken actor tokens a) p left → IsEffect p
          → ((cause : Trap) → p ≡ outcome.Trap cause → ⊥) → IsDone actor at a tokens cells left
      by outcome.Done r e n = done-by left r
      by outcome.True r e n = absurd e
      by outcome.False r e n = absurd e
      by (outcome.Trap cause) r e n = absurd (n cause refl)

-- the same of a run as the machine says it
module _ (actor : Actor) (lowered : IsLowered actor) (at : ℕ) (low : at < actor.fsm.states) (tokens : ℕ → List ℤ) (a : ℕ)
    (action : Action) (ready : IsReady actor tokens a action) (asked : TokensAreAsked) (law : FiringsEnd)
    (cells : List ℤ) (size : length cells ≡ actor.code.cells)
    (code : Code) (coded : code ≡ actor.code) (needs : List ℕ) (needed : needs ≡ action.needs) where
  abbrev Runs : Outcome → List ℤ → Type 0
  Runs o left = runs code action.fire cells (first_of needs tokens) o left

  taken-now : first_of needs tokens ≡ taken actor tokens a
  taken-now = ap (λ n. first_of n tokens) needed ∙ taken-is actor tokens a action ready.there

  run-so : (o : Outcome) (left : List ℤ) → Runs o left → runs actor.code action.fire cells (taken actor tokens a) o left
  run-so o left run = subst (λ us. runs actor.code action.fire cells us o left) taken-now (subst (λ d. runs d action.fire cells (first_of needs tokens) o left) coded run)

  pub run-entry : is_among action.fire code.entries ≡ true
  run-entry = subst (λ (d : Code). is_among action.fire d.entries ≡ true) (sym coded)
      (entry-is actor lowered at low tokens a action ready asked law cells size)

  pub run-tokens : HasItsTokens code action.fire cells (first_of needs tokens)
  run-tokens = subst (λ (d : Code). HasItsTokens d action.fire cells (first_of needs tokens)) (sym coded)
      (subst (λ us. HasItsTokens actor.code action.fire cells us) (sym taken-now) (has-taken actor lowered at low tokens a action ready asked law cells size))

  pub run-cut-off : (cause : Trap) (left : List ℤ) → Runs (outcome.Trap cause) left → IsCutOff actor at a tokens cells cause
  run-cut-off cause left run = is-cut-off actor lowered at low tokens a action ready asked law cells size cause left (run-so (outcome.Trap cause) left run)

  pub run-done : (o : Outcome) (left : List ℤ) → Runs o left → ((cause : Trap) → o ≡ outcome.Trap cause → ⊥) → IsDone actor at a tokens cells left
  run-done o left run not-trap = is-done actor lowered at low tokens a action ready asked law cells size o left (run-so o left run) not-trap
