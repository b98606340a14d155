-- What selection and the guards of a named action tell of its effect.
use Rattle.std.proofs.Common.{◌≡◌, ◌≢◌, ℕ, ◌<◌, ◌≤◌, ◌⊎◌, inl, inr, ℤ, Bool, true, false, ◌&&◌, List, length, take, refl, sym, ap, subst, ◌∙◌, arith, None, Some}
use Rattle.std.specs.Prelude.{if◌then◌else◌}
use Rattle.std.proofs.lemmas.Bool.{cases_lt}
use Rattle.rvc_base.specs.declared.trap.Trap.{Trap}
use Rattle.rvc_base.specs.Behaviour.{Picks, Fires, TrapsInBody}
use Rattle.rvc_base.specs.Lawful.{IsLawful}
use Rattle.code_ir.specs.declared.outcome.Outcome.{Outcome}
use Rattle.code_ir.specs.declared.outcome.Outcome.TheVariants as outcome
use Rattle.code_ir.specs.Code.{Code, is_among}
use Rattle.code_ir.specs.Running.{runs, HasItsTokens}
use Rattle.code_ir.specs.Typing.{IsAdmitted}
use Rattle.action_machine.specs.Kept.{Kept}
use Rattle.token_ring.specs.Queue.{Queue}
use Rattle.lowered_actor.specs.Actor.{Action, Actor}
use Rattle.lowered_actor.specs.Facts.{IsEffect, IsLowered}
use Rattle.lowered_actor.specs.Meaning.{ActorState, Guards, AreTrue, AreFalse, AreTrapping, behaviour, effect_of_body, effect_of_exposed, effect_of_outcome, is_exposed, is_state, need, readiness}
use Rattle.lowered_actor.specs.Laws.{FiringsEnd, IsReady, TokensAreAsked}
use Rattle.lowered_actor.proofs.Choosing.{ready-parts}
use Rattle.guard_select.specs.Selecting.{state_of, guards_of, KeepsState}
use Rattle.guard_select.specs.declared.guards.Ready.{Ready}
use Rattle.guard_select.specs.declared.guards.Ready.TheVariants as ready
use Rattle.guard_select.proofs.Says.{is-state}
use Rattle.net_model.specs.Cell.{choice_of, effect_of, IsEnabled}
use Rattle.actor_cell.specs.Queues.{tokens_before}
use Rattle.actor_cell.specs.Core.{Core, seen, state_in}
use Rattle.actor_cell.specs.Acting.{IsAble, IsAsked, IsToFire}
use Rattle.actor_cell.proofs.Bodies.{body-is, ends-so, entry-is, has-taken}

-- a run of admitted code whose tokens are there has an end
abbrev pub HasEnd : Type 0
HasEnd = (code : Code) (e : ℕ) (cells : List ℤ) (tokens : ℕ → List ℤ) → IsAdmitted code → is_among e code.entries ≡ true → length cells ≡ code.cells
    → HasItsTokens code e cells tokens → (o : Outcome) × (c : List ℤ) × runs code e cells tokens o c

not-false : AreTrue ≢ AreFalse
not-false e = grind arith

module _ (core : Core) where
  abbrev x : ActorState
  x = state_in core

  abbrev before : ℕ → List ℤ
  before = tokens_before core.inboxes

  -- ---- an enabled action

  enabled-parts : (a : ℕ) (b : Bool) (g : Guards) → IsEnabled (if b then effect_of_exposed core.actor x before a g else None) → (b ≡ true) × (g ≡ AreTrue)
  enabled-parts a true AreTrue h = (refl, refl)
  enabled-parts a true AreFalse h = absurd h
  enabled-parts a true (AreTrapping cause) h = absurd h
  enabled-parts a false g h = absurd h

  able-of : (a : ℕ) → readiness core.actor x before a ≡ AreTrue → IsAble core.actor core.at before a
  able-of a enabled =
      let parts = ready-parts core.actor x before a (λ e. not-false (sym enabled ∙ e)) in
      record { action = parts.action; there = parts.there; eligible = parts.eligible; has = parts.has }

  effect-is : (a : ℕ) (g : Guards) → (is_state core.actor x && is_exposed core.actor x before a) ≡ true → readiness core.actor x before a ≡ g
      → effect_of (seen core) a ≡ effect_of_exposed core.actor x before a g
  effect-is a g exposed says =
      ap (λ b. if b then effect_of_exposed core.actor x before a (readiness core.actor x before a) else None) exposed
      ∙ ap (effect_of_exposed core.actor x before a) says

  to-fire : (a : ℕ) → IsEnabled (effect_of (seen core) a) → IsToFire core a
  to-fire a enabled =
      let parts = enabled-parts a (is_state core.actor x && is_exposed core.actor x before a) (readiness core.actor x before a) enabled in
      record { able = able-of a parts.1; effect = effect-is a AreTrue parts.0 parts.1; acts = enabled }

  -- the action that selection picks is to fire
  pub picked-to-fire : IsLawful (behaviour core.actor) → (a : ℕ) → choice_of (seen core) ≡ Picks a → IsToFire core a
  picked-to-fire lawful a picks = to-fire a (by (lawful.picks x (seen core).inboxes a picks))
    where
      by : ((next : ActorState) × (sent : List (List ℤ)) × (effect_of (seen core) a ≡ Some (Fires next sent)))
          ⊎ ((cause : Trap) × (effect_of (seen core) a ≡ Some (TrapsInBody cause))) → IsEnabled (effect_of (seen core) a)
      by (inl fires) = subst IsEnabled (sym fires.2) tt
      by (inr traps) = subst IsEnabled (sym traps.1) tt

  pub picked-there : IsLawful (behaviour core.actor) → (a : ℕ) → choice_of (seen core) ≡ Picks a → a < length core.actor.actions
  picked-there lawful a picks = by (cases_lt a (length core.actor.actions))
    where
      by : (a < length core.actor.actions) ⊎ (length core.actor.actions ≤ a) → a < length core.actor.actions
      by (inl low) = low
      by (inr high) =
          absurd (subst IsEnabled (lawful.no_effect_beyond x (seen core).inboxes a high) (picked-to-fire lawful a picks).acts)

  -- ---- an action that is named

  pub beyond-is-none : IsLawful (behaviour core.actor) → (a : ℕ) → length core.actor.actions ≤ a → effect_of (seen core) a ≡ None
  beyond-is-none lawful a high = lawful.no_effect_beyond x (seen core).inboxes a high

  and-false : (b : Bool) → (b && false) ≡ false
  and-false true = refl
  and-false false = refl

  pub unexposed-is-none : (a : ℕ) → is_exposed core.actor x before a ≡ false → effect_of (seen core) a ≡ None
  unexposed-is-none a unexposed =
      ap (λ b. if b then effect_of_exposed core.actor x before a (readiness core.actor x before a) else None)
      (ap (λ b. is_state core.actor x && b) unexposed ∙ and-false (is_state core.actor x))

  module _ (lowered : IsLowered core.actor) (low : core.at < core.actor.fsm.states) (size : length core.cells.numbers ≡ core.actor.code.cells)
      (asked : TokensAreAsked) (law : FiringsEnd) (end : HasEnd) where
    state-is : is_state core.actor x ≡ true
    state-is = is-state core.actor core.at core.cells.numbers low (let kept = lowered.fits.kept in omega (arith, kept, size))

    body-acts : (a : ℕ) → IsAble core.actor core.at before a → IsEnabled (effect_of_body core.actor x before a)
    body-acts a able =
        let is_ready : IsReady core.actor before a able.action = record { there = able.there; has = able.has } in
        let found = end core.actor.code able.action.fire core.cells.numbers (taken-of a) lowered.admitted
        (entry-is core.actor lowered core.at low before a able.action is_ready asked law core.cells.numbers size) size
        (has-taken core.actor lowered core.at low before a able.action is_ready asked law core.cells.numbers size) in
        subst IsEnabled (sym (body-is core.actor lowered core.at low before a able.action is_ready asked law core.cells.numbers size found.0 found.1 found.2))
        (by able.action found.0 _ (ends-so core.actor lowered core.at low before a able.action is_ready asked law core.cells.numbers size found.0 found.1 found.2))
      where
        taken-of : ℕ → ℕ → List ℤ
        taken-of b p = take (need core.actor b p) (before p)

        by : (action : Action) (o : Outcome) (cells : List ℤ) → IsEffect o → IsEnabled (effect_of_outcome core.actor x a action o cells)
        by action outcome.Done cells h = tt
        by action outcome.True cells h = absurd h
        by action outcome.False cells h = absurd h
        by action (outcome.Trap cause) cells h = tt

    pub asked-so : (a : ℕ) → is_exposed core.actor x before a ≡ true → (answer : Ready) → guards_of answer ≡ readiness core.actor x before a
        → IsAsked core a answer
    asked-so a exposed answer says = by answer says
      where
        is : (g : Guards) → g ≡ readiness core.actor x before a → effect_of (seen core) a ≡ effect_of_exposed core.actor x before a g
        is g same = effect-is a g (ap (λ b. b && is_exposed core.actor x before a) state-is ∙ exposed) (sym same)

        by : (one : Ready) → guards_of one ≡ readiness core.actor x before a → IsAsked core a one
        by ready.True same =
            let able = able-of a (sym same) in
            record { able = able; effect = is AreTrue same; acts = subst IsEnabled (sym (is AreTrue same)) (body-acts a able) }
        by ready.False same = is AreFalse same
        by (ready.Trap cause) same = is (AreTrapping cause) same

-- ---- after a selection

-- what is found in the state that cells make is found in the one that a selection leaves
pub still : {A : Type 0} (f : Actor → ActorState → (ℕ → List ℤ) → A) (one actor : Actor) → one ≡ actor → (rings queues : List Queue) → rings ≡ queues
    → (at : ℕ) (old new : Kept) (found : A) → found ≡ f one (state_of one at old.numbers) (tokens_before rings) → KeepsState one old new
    → found ≡ f actor (state_of actor at new.numbers) (tokens_before queues)
still f one actor is rings queues same at old new found says keeps =
    let here : found ≡ f one (state_of one at new.numbers) (tokens_before rings) =
    says ∙ sym (ap (λ kept. f one (record { at = at; cells = kept }) (tokens_before rings)) keeps.state) in
    subst (λ a. found ≡ f a (state_of a at new.numbers) (tokens_before queues)) is
    (subst (λ qs. found ≡ f one (state_of one at new.numbers) (tokens_before qs)) same here)

pub unexposed-still : (core : Core) (one : Actor) → one ≡ core.actor → (rings : List Queue) → rings ≡ core.inboxes → (old : Kept) (a : ℕ) (found : Bool)
    → found ≡ is_exposed one (state_of one core.at old.numbers) (tokens_before rings) a → found ≡ false → KeepsState one old core.cells
    → effect_of (seen core) a ≡ None
unexposed-still core one is rings same old a found says none keeps =
    unexposed-is-none core a
    (sym (still (λ actor y tokens. is_exposed actor y tokens a) one core.actor is rings core.inboxes same core.at old core.cells found says keeps) ∙ none)

pub asked-still : (core : Core) (one two : Actor) → one ≡ core.actor → two ≡ core.actor → (rings : List Queue) → rings ≡ core.inboxes → (old mid : Kept)
    → IsLowered core.actor → core.at < core.actor.fsm.states → TokensAreAsked → FiringsEnd → HasEnd → (a : ℕ) (found : Bool)
    → found ≡ is_exposed one (state_of one core.at old.numbers) (tokens_before rings) a → found ≡ true → KeepsState one old mid → (answer : Ready)
    → guards_of answer ≡ readiness two (state_of two core.at mid.numbers) (tokens_before rings) a → KeepsState two mid core.cells → IsAsked core a answer
asked-still core one two is is' rings same old mid lowered low asked law end a found exposed shown keeps answer says keeps' =
    let kept : KeepsState core.actor mid core.cells = subst (λ actor. KeepsState actor mid core.cells) is' keeps' in
    let first = still (λ actor y tokens. is_exposed actor y tokens a) one core.actor is rings core.inboxes same core.at old mid found exposed keeps in
    let here = still (λ actor y tokens. is_exposed actor y tokens a) core.actor core.actor refl core.inboxes core.inboxes refl core.at mid core.cells found first kept in
    asked-so core lowered low kept.made.size asked law end a (sym here ∙ shown) answer
    (still (λ actor y tokens. readiness actor y tokens a) two core.actor is' rings core.inboxes same core.at mid core.cells (guards_of answer) says keeps')
