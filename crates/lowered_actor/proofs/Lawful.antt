-- What a lowered actor does is lawful.
use Rattle.std.proofs.Common.{◌≡◌, ◌≢◌, ℕ, zero, suc, ◌+◌, ◌<◌, ◌≤◌, ◌⊎◌, inl, inr, ℤ, Bool, true, false, not, ◌&&◌, List, [], length, take, refl, sym, ap, subst, ◌∙◌, arith, Option, None, Some}
use Rattle.std.specs.Prelude.{if◌then◌else◌, nat_le, min, slice_get, slice_index_or}
use Rattle.std.proofs.lemmas.Bool.{leb-true, le-leb, cases_lt}
use Rattle.std.proofs.lemmas.List.{length-take, take-take}
use Rattle.std.proofs.lemmas.Option.{slice_get_past}
use Rattle.rvc_base.specs.declared.trap.Trap.{Trap}
use Rattle.rvc_base.specs.Behaviour.{Effect, Waits, Picks, Faults, Fires, TrapsInGuard, TrapsInBody}
use Rattle.rvc_base.specs.Lawful.{IsLawful, AgreeOn, tokens_on}
use Rattle.code_ir.specs.declared.outcome.Outcome.{Outcome}
use Rattle.code_ir.specs.declared.outcome.Outcome.TheVariants as outcome
use Rattle.lowered_actor.specs.Actor.{Action, Actor, number_on}
use Rattle.lowered_actor.specs.Facts.{Fits, IsEffect, IsLowered, cells_from}
use Rattle.lowered_actor.specs.Meaning.{ActorState, End, Guards, AreTrue, AreFalse, AreTrapping, end_of, is_state, is_eligible, has_on_first, has_its_tokens, need, give, taken, cells_of, guards_say, readiness, choice_among, choice, is_outranked, is_exposed, sent_from, effect_of_outcome, effect_of_end, effect_of_body, effect_of_exposed, effect, behaviour}
use Rattle.lowered_actor.specs.Laws.{IsReady}
use Rattle.lowered_actor.proofs.Running.{StepsAreFine, StartStands, all-at, has-on, past-zero, firing-end, asked-at-first}
use Rattle.lowered_actor.proofs.Choosing.{ready-past, ready-parts, picked, faulted, idle}

-- ---- tokens

pointwise : {A B : Type 0} (f g : A → B) → ((x : A) → f x ≡ g x) → f ≡ g
pointwise f g h = λ i x. h x i

has-alike : (needed seen : ℕ → ℕ) (tokens others : ℕ → List ℤ) (ins n : ℕ) → n ≤ ins → ((p : ℕ) → needed p ≤ seen p)
    → ((p : ℕ) → p < ins → take (seen p) (tokens p) ≡ take (seen p) (others p))
    → has_on_first needed tokens n ≡ has_on_first needed others n
has-alike needed seen tokens others ins zero low enough agree = refl
has-alike needed seen tokens others ins (suc p) low enough agree =
    ap (λ b. b && nat_le (needed p) (length (tokens p))) (has-alike needed seen tokens others ins p (omega (arith, low)) enough agree)
    ∙ ap (λ b. has_on_first needed others p && b) (same-test (cases_lt (length (tokens p)) (needed p)) (cases_lt (length (others p)) (needed p)))
  where
    same : min (seen p) (length (tokens p)) ≡ min (seen p) (length (others p))
    same = sym (length-take (seen p) (tokens p)) ∙ (ap length (agree p (omega (arith, low))) ∙ length-take (seen p) (others p))

    no : (n m : ℕ) → m < n → nat_le n m ≡ false
    no n m low = by (nat_le n m) refl
      where
        by : (b : Bool) → nat_le n m ≡ b → b ≡ false
        by true e = absurd (let h = leb-true n m e in omega (arith, h, low))
        by false e = refl

    same-test : (length (tokens p) < needed p) ⊎ (needed p ≤ length (tokens p)) → (length (others p) < needed p) ⊎ (needed p ≤ length (others p))
        → nat_le (needed p) (length (tokens p)) ≡ nat_le (needed p) (length (others p))
    same-test (inl a) (inl b) = no _ _ a ∙ sym (no _ _ b)
    same-test (inl a) (inr b) = absurd (let e = enough p in omega (arith, a, b, e, same))
    same-test (inr a) (inl b) = absurd (let e = enough p in omega (arith, a, b, e, same))
    same-test (inr a) (inr b) = le-leb _ _ a ∙ sym (le-leb _ _ b)

-- ---- what is sent

sent-at : (action : Action) (cells : List ℤ) (p n q : ℕ) → q < n
    → slice_index_or (sent_from action cells p n) q [] ≡ cells_from cells (number_on action.sends (p + q)) (number_on action.gives (p + q))
sent-at action cells p zero q low = absurd (omega (arith, low))
sent-at action cells p (suc n) zero low =
    let same : p ≡ p + 0 = omega arith in ap (λ k. cells_from cells (number_on action.sends k) (number_on action.gives k)) same
sent-at action cells p (suc n) (suc q) low =
    let same : suc p + q ≡ p + suc q = omega arith in
    sent-at action cells (suc p) n q (omega (arith, low)) ∙ ap (λ k. cells_from cells (number_on action.sends k) (number_on action.gives k)) same

so-many : (cells : List ℤ) (c n : ℕ) → length (cells_from cells c n) ≡ n
so-many cells c zero = refl
so-many cells c (suc n) = ap suc (so-many cells (c + 1) n)

-- ---- the laws

abbrev need_of : Option Action → ℕ → ℕ
need_of o p = elim o [ None ↦ 0 | Some action ↦ number_on action.needs p ]

module _ (actor : Actor) (lowered : IsLowered actor) (fine : StepsAreFine) (first : StartStands) where
  -- if there is an effect, the guards of the action say something else than that they are false
  effect-ready : (x : ActorState) (tokens : ℕ → List ℤ) (a : ℕ) → effect actor x tokens a ≢ None → readiness actor x tokens a ≢ AreFalse
  effect-ready x tokens a h e = h (by (is_state actor x && is_exposed actor x tokens a))
    where
      by : (b : Bool) → (if b then effect_of_exposed actor x tokens a (readiness actor x tokens a) else None) ≡ None
      by true = ap (effect_of_exposed actor x tokens a) e
      by false = refl

  has_tokens : (x : ActorState) (tokens : List (List ℤ)) (a : ℕ) → effect actor x (tokens_on tokens) a ≢ None
      → (p : ℕ) → p < actor.ins → need actor a p ≤ length (tokens_on tokens p)
  has_tokens x tokens a h p low =
      let able = ready-parts actor x (tokens_on tokens) a (effect-ready x (tokens_on tokens) a h) in
      has-on (need actor a) (tokens_on tokens) actor.ins p able.has low

  some-not : {A : Type 0} (a : A) → Some a ≡ None → ⊥
  some-not a e = grind arith

  -- what fires is an end of the firing's run
  gives-by : (x next : ActorState) (tokens sent : List (List ℤ)) (a : ℕ) (action : Action) → slice_get actor.actions a ≡ Some action
      → (end : Option End) → effect_of_end actor x a action end ≡ Some (Fires next sent)
      → (p : ℕ) → p < actor.outs → length (tokens_on sent p) ≡ give actor a p
  gives-by x next tokens sent a action there None h p low = absurd (some-not (Fires next sent) (sym h))
  gives-by x next tokens sent a action there (Some end) h p low = by end.outcome h
    where
      by : (o : Outcome) → effect_of_outcome actor x a action o end.cells ≡ Some (Fires next sent) → length (tokens_on sent p) ≡ give actor a p
      by outcome.Done e =
          let same : sent_from action end.cells 0 actor.outs ≡ sent = cc in
          subst (λ s. length (tokens_on s p) ≡ give actor a p) same
          (ap length (sent-at action end.cells 0 actor.outs p low)
          ∙ (so-many end.cells (number_on action.sends (0 + p)) (number_on action.gives (0 + p))
          ∙ (ap (number_on action.gives) (let none : 0 + p ≡ p = omega arith in none)
          ∙ sym (ap (λ o. elim o [ None ↦ 0 | Some act ↦ number_on act.gives p ]) there))))
      by outcome.True e = absurd (some-not (Fires next sent) (sym e))
      by outcome.False e = absurd (some-not (Fires next sent) (sym e))
      by (outcome.Trap cause) e = absurd (grind arith)

  gives : (x next : ActorState) (tokens sent : List (List ℤ)) (a : ℕ) → effect actor x (tokens_on tokens) a ≡ Some (Fires next sent)
      → (p : ℕ) → p < actor.outs → length (tokens_on sent p) ≡ give actor a p
  gives x next tokens sent a h p low =
      by-exposed (is_state actor x && is_exposed actor x (tokens_on tokens) a) h
    where
      by-body : (o : Option Action) → slice_get actor.actions a ≡ o
          → (elim o [
            | None ↦ None
            | Some action ↦ effect_of_end actor x a action (end_of actor.code action.fire (cells_of actor x) (taken actor (tokens_on tokens) a))
          ]) ≡ Some (Fires next sent) → length (tokens_on sent p) ≡ give actor a p
      by-body None there e = absurd (some-not (Fires next sent) (sym e))
      by-body (Some action) there e = gives-by x next tokens sent a action there (end_of actor.code action.fire (cells_of actor x) (taken actor (tokens_on tokens) a)) e p low

      by-guards : (g : Guards) → effect_of_exposed actor x (tokens_on tokens) a g ≡ Some (Fires next sent) → length (tokens_on sent p) ≡ give actor a p
      by-guards AreTrue e = by-body (slice_get actor.actions a) refl e
      by-guards AreFalse e = absurd (some-not (Fires next sent) (sym e))
      by-guards (AreTrapping cause) e = absurd (grind arith)

      by-exposed : (b : Bool) → (if b then effect_of_exposed actor x (tokens_on tokens) a (readiness actor x (tokens_on tokens) a) else None) ≡ Some (Fires next sent)
          → length (tokens_on sent p) ≡ give actor a p
      by-exposed true e = by-guards (readiness actor x (tokens_on tokens) a) e
      by-exposed false e = absurd (some-not (Fires next sent) (sym e))

  -- what is exposed has the effect that its guards and its body say
  exposed-effect : (x : ActorState) (tokens : ℕ → List ℤ) (a : ℕ) → is_state actor x ≡ true → is_exposed actor x tokens a ≡ true
      → effect actor x tokens a ≡ effect_of_exposed actor x tokens a (readiness actor x tokens a)
  exposed-effect x tokens a state exposed =
      ap (λ b. if b && is_exposed actor x tokens a then effect_of_exposed actor x tokens a (readiness actor x tokens a) else None) state
      ∙ ap (λ b. if b then effect_of_exposed actor x tokens a (readiness actor x tokens a) else None) exposed

  abbrev Acts : Option (Effect ActorState) → Type 0
  Acts e = ((next : ActorState) × (sent : List (List ℤ)) × (e ≡ Some (Fires next sent))) ⊎ ((cause : Trap) × (e ≡ Some (TrapsInBody cause)))

  body-acts : (x : ActorState) (tokens : ℕ → List ℤ) (a : ℕ) → is_state actor x ≡ true → readiness actor x tokens a ≡ AreTrue
      → Acts (effect_of_body actor x tokens a)
  body-acts x tokens a state enabled =
      let able = ready-parts actor x tokens a (λ e. let no : AreTrue ≡ AreFalse = sym enabled ∙ e in grind arith) in
      let ready : IsReady actor tokens a able.action = record { there = able.there; has = able.has } in
      let found = firing-end actor lowered x tokens a able.action ready fine first state in
      let ends : IsEffect found.0.outcome = (lowered.right.firings a able.action able.there).ends (cells_of actor x) (taken actor tokens a)
      found.0.outcome found.0.cells (asked-at-first actor lowered x tokens a able.action ready state) found.2 in
      let is : effect_of_body actor x tokens a ≡ effect_of_end actor x a able.action (Some found.0) =
      ap (λ o. elim o [ None ↦ None | Some action ↦ effect_of_end actor x a action (end_of actor.code action.fire (cells_of actor x) (taken actor tokens a)) ]) able.there
      ∙ ap (effect_of_end actor x a able.action) found.1 in
      subst Acts (sym is) (by able.action found.0.outcome found.0.cells ends)
    where
      by : (action : Action) (o : Outcome) (cells : List ℤ) → IsEffect o → Acts (effect_of_outcome actor x a action o cells)
      by action outcome.Done cells h = inl (_, _, refl)
      by action outcome.True cells h = absurd h
      by action outcome.False cells h = absurd h
      by action (outcome.Trap cause) cells h = inr (cause, refl)

  picks : (x : ActorState) (tokens : List (List ℤ)) (a : ℕ) → choice actor x (tokens_on tokens) ≡ Picks a → Acts (effect actor x (tokens_on tokens) a)
  picks x tokens a h = by (is_state actor x) refl h
    where
      by : (b : Bool) → is_state actor x ≡ b → (if b then choice_among (readiness actor x (tokens_on tokens)) actor.order.line else Waits) ≡ Picks a
          → Acts (effect actor x (tokens_on tokens) a)
      by true state e =
          let chosen = picked actor lowered x (tokens_on tokens) a e in
          subst Acts (sym (exposed-effect x (tokens_on tokens) a state chosen.0 ∙ ap (effect_of_exposed actor x (tokens_on tokens) a) chosen.1))
          (body-acts x (tokens_on tokens) a state chosen.1)
      by false state e = absurd (grind arith)

  faults : (x : ActorState) (tokens : List (List ℤ)) (a : ℕ) (cause : Trap) → choice actor x (tokens_on tokens) ≡ Faults a cause
      → effect actor x (tokens_on tokens) a ≡ Some (TrapsInGuard cause)
  faults x tokens a cause h = by (is_state actor x) refl h
    where
      by : (b : Bool) → is_state actor x ≡ b → (if b then choice_among (readiness actor x (tokens_on tokens)) actor.order.line else Waits) ≡ Faults a cause
          → effect actor x (tokens_on tokens) a ≡ Some (TrapsInGuard cause)
      by true state e =
          let chosen = faulted actor lowered x (tokens_on tokens) a cause e in
          exposed-effect x (tokens_on tokens) a state chosen.0 ∙ ap (effect_of_exposed actor x (tokens_on tokens) a) chosen.1
      by false state e = absurd (grind arith)

  no-effect : (x : ActorState) (tokens : ℕ → List ℤ) (a : ℕ) → readiness actor x tokens a ≡ AreFalse → effect actor x tokens a ≡ None
  no-effect x tokens a e = by (is_state actor x && is_exposed actor x tokens a)
    where
      by : (b : Bool) → (if b then effect_of_exposed actor x tokens a (readiness actor x tokens a) else None) ≡ None
      by true = ap (effect_of_exposed actor x tokens a) e
      by false = refl

  waits : (x : ActorState) (tokens : List (List ℤ)) → choice actor x (tokens_on tokens) ≡ Waits → (a : ℕ) → effect actor x (tokens_on tokens) a ≡ None
  waits x tokens h a = by (is_state actor x) refl h
    where
      by : (b : Bool) → is_state actor x ≡ b → (if b then choice_among (readiness actor x (tokens_on tokens)) actor.order.line else Waits) ≡ Waits
          → effect actor x (tokens_on tokens) a ≡ None
      by true state e = no-effect x (tokens_on tokens) a (idle actor lowered x (tokens_on tokens) e a)
      by false state e = ap (λ b. if b && is_exposed actor x (tokens_on tokens) a then effect_of_exposed actor x (tokens_on tokens) a (readiness actor x (tokens_on tokens) a) else None) state

  -- ---- tokens behind those that any action takes

  module _ (seen : ℕ → ℕ) (enough : (a p : ℕ) → need actor a p ≤ seen p) (x : ActorState) (tokens others : List (List ℤ))
      (agree : (p : ℕ) → p < actor.ins → take (seen p) (tokens_on tokens p) ≡ take (seen p) (tokens_on others p)) where
    has-same : (a : ℕ) → has_its_tokens actor (tokens_on tokens) a ≡ has_its_tokens actor (tokens_on others) a
    has-same a = has-alike (need actor a) seen (tokens_on tokens) (tokens_on others) actor.ins actor.ins (omega arith) (enough a) agree

    -- beyond the ports nothing is taken
    none-taken : (a p : ℕ) → actor.ins ≤ p → need actor a p ≡ 0
    none-taken a p high = by (slice_get actor.actions a) refl
      where
        by : (o : Option Action) → slice_get actor.actions a ≡ o → need_of o p ≡ 0
        by None there = refl
        by (Some action) there =
            let size : length action.needs ≡ actor.ins = (all-at (Fits actor) actor.actions a action lowered.fits.each there).needs in
            past-zero action.needs p (omega (arith, size, high))

    taken-same : (a : ℕ) → taken actor (tokens_on tokens) a ≡ taken actor (tokens_on others) a
    taken-same a = pointwise (taken actor (tokens_on tokens) a) (taken actor (tokens_on others) a) (λ p. by p (cases_lt p actor.ins))
      where
        by : (p : ℕ) → (p < actor.ins) ⊎ (actor.ins ≤ p) → take (need actor a p) (tokens_on tokens p) ≡ take (need actor a p) (tokens_on others p)
        by p (inl low) =
            sym (take-take (need actor a p) (seen p) (tokens_on tokens p) (enough a p))
            ∙ (ap (take (need actor a p)) (agree p low) ∙ take-take (need actor a p) (seen p) (tokens_on others p) (enough a p))
        by p (inr high) =
            ap (λ n. take n (tokens_on tokens p)) (none-taken a p high) ∙ sym (ap (λ n. take n (tokens_on others p)) (none-taken a p high))

    ready-same : (a : ℕ) → readiness actor x (tokens_on tokens) a ≡ readiness actor x (tokens_on others) a
    ready-same a =
        ap (λ b. elim (slice_get actor.actions a) [
          | None ↦ AreFalse
          | Some action ↦ if is_eligible actor x.at a && b then guards_say actor.code (cells_of actor x) (taken actor (tokens_on tokens) a) action.guards else AreFalse
        ]) (has-same a)
        ∙ ap (λ us. elim (slice_get actor.actions a) [
          | None ↦ AreFalse
          | Some action ↦ if is_eligible actor x.at a && has_its_tokens actor (tokens_on others) a then guards_say actor.code (cells_of actor x) us action.guards else AreFalse
        ]) (taken-same a)

    all-ready : readiness actor x (tokens_on tokens) ≡ readiness actor x (tokens_on others)
    all-ready = pointwise (readiness actor x (tokens_on tokens)) (readiness actor x (tokens_on others)) ready-same

    choice-same : choice actor x (tokens_on tokens) ≡ choice actor x (tokens_on others)
    choice-same = ap (λ r. if is_state actor x then choice_among r actor.order.line else Waits) all-ready

    body-same : (a : ℕ) → effect_of_body actor x (tokens_on tokens) a ≡ effect_of_body actor x (tokens_on others) a
    body-same a = ap (λ us. elim (slice_get actor.actions a) [
      | None ↦ None
      | Some action ↦ effect_of_end actor x a action (end_of actor.code action.fire (cells_of actor x) us)
    ]) (taken-same a)

    exposed-same : (a : ℕ) (g : Guards) → effect_of_exposed actor x (tokens_on tokens) a g ≡ effect_of_exposed actor x (tokens_on others) a g
    exposed-same a AreTrue = body-same a
    exposed-same a AreFalse = refl
    exposed-same a (AreTrapping cause) = refl

    is-exposed-same : (a : ℕ) → is_exposed actor x (tokens_on tokens) a ≡ is_exposed actor x (tokens_on others) a
    is-exposed-same a =
        ap (λ b. (is_eligible actor x.at a && b) && not (is_outranked actor (readiness actor x (tokens_on tokens)) a actor.order.line)) (has-same a)
        ∙ ap (λ r. (is_eligible actor x.at a && has_its_tokens actor (tokens_on others) a) && not (is_outranked actor r a actor.order.line)) all-ready

    effect-same : (a : ℕ) → effect actor x (tokens_on tokens) a ≡ effect actor x (tokens_on others) a
    effect-same a =
        ap (λ b. if is_state actor x && b then effect_of_exposed actor x (tokens_on tokens) a (readiness actor x (tokens_on tokens) a) else None) (is-exposed-same a)
        ∙ (ap (λ e. if is_state actor x && is_exposed actor x (tokens_on others) a then e else None) (exposed-same a (readiness actor x (tokens_on tokens) a))
        ∙ ap (λ g. if is_state actor x && is_exposed actor x (tokens_on others) a then effect_of_exposed actor x (tokens_on others) a g else None) (ready-same a))

  front : (seen : ℕ → ℕ) → ((a p : ℕ) → need actor a p ≤ seen p) → (x : ActorState) (tokens others : List (List ℤ))
      → AgreeOn (behaviour actor) seen tokens others
      → ((a : ℕ) → effect actor x (tokens_on tokens) a ≡ effect actor x (tokens_on others) a)
      × (choice actor x (tokens_on tokens) ≡ choice actor x (tokens_on others))
  front seen enough x tokens others agree =
      (effect-same seen enough x tokens others agree, choice-same seen enough x tokens others agree)

  no-effect-beyond : (x : ActorState) (tokens : List (List ℤ)) (a : ℕ) → length actor.actions ≤ a → effect actor x (tokens_on tokens) a ≡ None
  no-effect-beyond x tokens a h = no-effect x (tokens_on tokens) a (ready-past actor x (tokens_on tokens) a h)

  no-need : (a p : ℕ) → length actor.actions ≤ a → need actor a p ≡ 0
  no-need a p h = ap (λ o. elim o [ None ↦ 0 | Some action ↦ number_on action.needs p ]) (slice_get_past actor.actions a h)

  no-give : (a p : ℕ) → length actor.actions ≤ a → give actor a p ≡ 0
  no-give a p h = ap (λ o. elim o [ None ↦ 0 | Some action ↦ number_on action.gives p ]) (slice_get_past actor.actions a h)

  pub is-lawful : IsLawful (behaviour actor)
  is-lawful = record {
    has_tokens = has_tokens;
    gives = gives;
    front = front;
    picks = picks;
    faults = faults;
    waits = waits;
    no_effect_beyond = no-effect-beyond;
    no_need_beyond = no-need;
    no_give_beyond = no-give;
  }
