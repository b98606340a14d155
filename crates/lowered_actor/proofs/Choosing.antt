-- What is chosen is exposed.
use Rattle.std.proofs.Common.{◌≡◌, ◌≢◌, ℕ, zero, suc, ◌<◌, ◌≤◌, ◌⊎◌, inl, inr, ℤ, Bool, true, false, not, ◌&&◌, ◌||◌, List, [], ◌∷◌, length, take, refl, sym, ap, subst, ◌∙◌, arith, Option, None, Some}
use Rattle.std.specs.Prelude.{Contains, IsTrue, slice_get, slice_index, if◌then◌else◌}
use Rattle.std.proofs.lemmas.Bool.{cases_lt}
use Rattle.std.proofs.lemmas.Option.{slice_get_past}
use Rattle.rvc_base.specs.declared.trap.Trap.{Trap}
use Rattle.rvc_base.specs.Behaviour.{Choice, Waits, Picks, Faults}
use Rattle.priority_order.specs.Ranking.{is_above}
use Rattle.lowered_actor.specs.Actor.{Action, Actor}
use Rattle.lowered_actor.specs.Facts.{IsLowered}
use Rattle.lowered_actor.specs.Meaning.{ActorState, Guards, AreTrue, AreFalse, AreTrapping, is_eligible, has_its_tokens, guards_say, cells_of, taken, readiness, choice_among, are_true, is_outranked, is_exposed}

pub both-true : (a b : Bool) → (a && b) ≡ true → (a ≡ true) × (b ≡ true)
both-true true true h = (refl, refl)
both-true true false h = absurd (grind arith)
both-true false b h = absurd (grind arith)

-- ---- what readiness says

abbrev ready_by : Option Action → Bool → (Action → Guards) → Guards
ready_by o b g = elim o [ None ↦ AreFalse | Some action ↦ if b then g action else AreFalse ]

ready-by-true : (o : Option Action) (b : Bool) (g : Action → Guards) → ready_by o b g ≢ AreFalse
    → (b ≡ true) × ((action : Action) × (o ≡ Some action))
ready-by-true None b g h = absurd (h refl)
ready-by-true (Some action) true g h = (refl, (action, refl))
ready-by-true (Some action) false g h = absurd (h refl)

-- an action whose guards say something else than that they are false is there, is eligible and has its tokens
pub record IsAble (actor : Actor) (x : ActorState) (tokens : ℕ → List ℤ) (a : ℕ) : Type 0 where
  pub action : Action
  pub there : slice_get actor.actions a ≡ Some action
  pub eligible : is_eligible actor x.at a ≡ true
  pub has : has_its_tokens actor tokens a ≡ true

pub ready-parts : (actor : Actor) (x : ActorState) (tokens : ℕ → List ℤ) (a : ℕ) → readiness actor x tokens a ≢ AreFalse
    → IsAble actor x tokens a
ready-parts actor x tokens a h =
    let parts = ready-by-true (slice_get actor.actions a) (is_eligible actor x.at a && has_its_tokens actor tokens a)
    (λ action. guards_say actor.code (cells_of actor x) (taken actor tokens a) action.guards) h in
    let both = both-true (is_eligible actor x.at a) (has_its_tokens actor tokens a) parts.0 in
    record { action = parts.1.0; there = parts.1.1; eligible = both.0; has = both.1 }

-- there is no other action
pub ready-past : (actor : Actor) (x : ActorState) (tokens : ℕ → List ℤ) (a : ℕ) → length actor.actions ≤ a → readiness actor x tokens a ≡ AreFalse
ready-past actor x tokens a h =
    ap (λ o. ready_by o (is_eligible actor x.at a && has_its_tokens actor tokens a) (λ action. guards_say actor.code (cells_of actor x) (taken actor tokens a) action.guards)) (slice_get_past actor.actions a h)

-- ---- the choice in a line

-- a choice is made at a place of the line, and those before it have false guards
record IsMadeAt (ready : ℕ → Guards) (line : List ℕ) (a : ℕ) (g : Guards) : Type 0 where
  at : ℕ
  within : at < length line
  is : slice_index line at ≡ a
  says : ready a ≡ g
  before : (b : ℕ) → Contains (take at line) b → ready b ≡ AreFalse

in-rest : (b c : ℕ) (xs : List ℕ) → Contains (c ∷ xs) b → (b ≡ c) ⊎ Contains xs b
in-rest b c xs (zero, h, e) = inl (sym e)
in-rest b c xs (suc k, h, e) = inr (k, omega arith, e)

in-none : (b : ℕ) → Contains [] b → ⊥
in-none b h = omega arith

here : (ready : ℕ → Guards) (c : ℕ) (cs : List ℕ) (g : Guards) → ready c ≡ g → IsMadeAt ready (c ∷ cs) c g
here ready c cs g e = record { at = 0; within = omega arith; is = refl; says = e; before = λ b h. absurd (in-none b h) }

later : (ready : ℕ → Guards) (c a : ℕ) (cs : List ℕ) (g : Guards) → ready c ≡ AreFalse → IsMadeAt ready cs a g → IsMadeAt ready (c ∷ cs) a g
later ready c a cs g e made = record {
  at = suc made.at;
  within = let h : made.at < length cs = made.within in omega arith;
  is = made.is;
  says = made.says;
  before = λ b h. by b (in-rest b c (take made.at cs) h);
}
  where
    by : (b : ℕ) → (b ≡ c) ⊎ Contains (take made.at cs) b → ready b ≡ AreFalse
    by b (inl f) = rw f e
    by b (inr f) = made.before b f

abbrev choice_by : Guards → ℕ → Choice → Choice
choice_by g c rest = elim g [ AreTrue ↦ Picks c | AreFalse ↦ rest | AreTrapping t ↦ Faults c t ]

picks-at : (ready : ℕ → Guards) (a : ℕ) (line : List ℕ) → choice_among ready line ≡ Picks a → IsMadeAt ready line a AreTrue
picks-at ready a [] h = absurd (grind arith)
picks-at ready a (c ∷ cs) h = by (ready c) refl h (picks-at ready a cs)
  where
    by : (g : Guards) → ready c ≡ g → choice_by g c (choice_among ready cs) ≡ Picks a
        → (choice_among ready cs ≡ Picks a → IsMadeAt ready cs a AreTrue) → IsMadeAt ready (c ∷ cs) a AreTrue
    by AreTrue e f ih = let same : c ≡ a = cc in subst (λ k. IsMadeAt ready (c ∷ cs) k AreTrue) same (here ready c cs AreTrue e)
    by AreFalse e f ih = later ready c a cs AreTrue e (ih f)
    by (AreTrapping t) e f ih = absurd (grind arith)

faults-at : (ready : ℕ → Guards) (a : ℕ) (t : Trap) (line : List ℕ) → choice_among ready line ≡ Faults a t → IsMadeAt ready line a (AreTrapping t)
faults-at ready a t [] h = absurd (grind arith)
faults-at ready a t (c ∷ cs) h = by (ready c) refl h (faults-at ready a t cs)
  where
    by : (g : Guards) → ready c ≡ g → choice_by g c (choice_among ready cs) ≡ Faults a t
        → (choice_among ready cs ≡ Faults a t → IsMadeAt ready cs a (AreTrapping t)) → IsMadeAt ready (c ∷ cs) a (AreTrapping t)
    by AreTrue e f ih = absurd (grind arith)
    by AreFalse e f ih = later ready c a cs (AreTrapping t) e (ih f)
    by (AreTrapping s) e f ih =
        let same : c ≡ a = cc in
        let trap : s ≡ t = cc in
        subst (λ k. IsMadeAt ready (c ∷ cs) k (AreTrapping t)) same (here ready c cs (AreTrapping t) (e ∙ ap AreTrapping trap))

waits-all : (ready : ℕ → Guards) (line : List ℕ) → choice_among ready line ≡ Waits → (b : ℕ) → Contains line b → ready b ≡ AreFalse
waits-all ready [] h b m = absurd (in-none b m)
waits-all ready (c ∷ cs) h b m = by (ready c) refl h (waits-all ready cs) (in-rest b c cs m)
  where
    by : (g : Guards) → ready c ≡ g → choice_by g c (choice_among ready cs) ≡ Waits
        → (choice_among ready cs ≡ Waits → (b : ℕ) → Contains cs b → ready b ≡ AreFalse) → (b ≡ c) ⊎ Contains cs b → ready b ≡ AreFalse
    by AreTrue e f ih k = absurd (grind arith)
    by AreFalse e f ih (inl k) = rw k e
    by AreFalse e f ih (inr k) = ih f b k
    by (AreTrapping s) e f ih k = absurd (grind arith)

-- ---- what is chosen is exposed

-- if none that is above a is enabled, none of a list outranks it
outranks-not : (actor : Actor) (ready : ℕ → Guards) (a : ℕ) (bs : List ℕ)
    → ((b : ℕ) → is_above actor.order b a ≡ true → ready b ≢ AreTrue) → is_outranked actor ready a bs ≡ false
outranks-not actor ready a [] h = refl
outranks-not actor ready a (c ∷ cs) h = by (is_above actor.order c a) (ready c) (h c) (outranks-not actor ready a cs h)
  where
    by : (v : Bool) (g : Guards) → (v ≡ true → g ≢ AreTrue) → is_outranked actor ready a cs ≡ false → ((v && are_true g) || is_outranked actor ready a cs) ≡ false
    by false g k e = e
    by true AreTrue k e = absurd (k refl refl)
    by true AreFalse k e = e
    by true (AreTrapping t) k e = e

module _ (actor : Actor) (lowered : IsLowered actor) (x : ActorState) (tokens : ℕ → List ℤ) where
  abbrev ready : ℕ → Guards
  ready = readiness actor x tokens

  made-exposed : (a : ℕ) (g : Guards) → g ≢ AreFalse → IsMadeAt ready actor.order.line a g → is_exposed actor x tokens a ≡ true
  made-exposed a g other made =
      let able = ready-parts actor x tokens a (λ e. other (sym made.says ∙ e)) in
      ap (λ b. (b && has_its_tokens actor tokens a) && not (is_outranked actor ready a actor.order.line)) able.eligible
      ∙ (ap (λ b. b && not (is_outranked actor ready a actor.order.line)) able.has
      ∙ ap not (outranks-not actor ready a actor.order.line none))
    where
      above : (b : ℕ) → is_above actor.order b a ≡ true → (b < actor.order.count) ⊎ (actor.order.count ≤ b) → ready b ≡ AreFalse
      above b up (inl h) =
          let step = lowered.lined.next made.at made.within in
          made.before b (step.may.after b h (subst (λ k. IsTrue (is_above actor.order b k)) (sym made.is) up))
      above b up (inr h) =
          let count : actor.order.count ≡ length actor.actions = lowered.fits.order in
          ready-past actor x tokens b (omega (arith, h, count))

      none : (b : ℕ) → is_above actor.order b a ≡ true → ready b ≢ AreTrue
      none b up enabled =
          let e : AreTrue ≡ AreFalse = sym enabled ∙ above b up (cases_lt b actor.order.count) in
          absurd (grind arith)

  pub picked : (a : ℕ) → choice_among ready actor.order.line ≡ Picks a → (is_exposed actor x tokens a ≡ true) × (ready a ≡ AreTrue)
  picked a h =
      let made = picks-at ready a actor.order.line h in
      (made-exposed a AreTrue (λ e. grind arith) made, made.says)

  pub faulted : (a : ℕ) (t : Trap) → choice_among ready actor.order.line ≡ Faults a t → (is_exposed actor x tokens a ≡ true) × (ready a ≡ AreTrapping t)
  faulted a t h =
      let made = faults-at ready a t actor.order.line h in
      (made-exposed a (AreTrapping t) (λ e. grind arith) made, made.says)

  pub idle : choice_among ready actor.order.line ≡ Waits → (a : ℕ) → ready a ≡ AreFalse
  idle h a = by (cases_lt a actor.order.count)
    where
      by : (a < actor.order.count) ⊎ (actor.order.count ≤ a) → ready a ≡ AreFalse
      by (inl k) = waits-all ready actor.order.line h a (lowered.lined.each a k)
      by (inr k) = let count : actor.order.count ≡ length actor.actions = lowered.fits.order in ready-past actor x tokens a (omega (arith, k, count))
