-- What holds of every actor.
-- Trusted: part of what a promise means.
use Rattle.std.specs.Prelude.{◌≡◌, ◌≢◌, ℕ, ◌≤◌, ◌<◌, ◌⊎◌, List, [], ℤ, length, take, slice_index_or, None, Some}
use Rattle.rvc_base.specs.declared.trap.Trap.{Trap}
use Rattle.rvc_base.specs.Behaviour.{Behaviour, Fires, TrapsInGuard, TrapsInBody, Waits, Picks, Faults}

-- the tokens on port p
abbrev pub tokens_on : List (List ℤ) → ℕ → List ℤ
tokens_on tokens p = slice_index_or tokens p []

-- on each port the same first tokens, as many as `seen` says of it
abbrev pub AgreeOn : {X : Type 0} → Behaviour X → (ℕ → ℕ) → List (List ℤ) → List (List ℤ) → Type 0
AgreeOn actor seen tokens others =
    (p : ℕ) → p < actor.ins → take (seen p) (tokens_on tokens p)
    ≡ take (seen p) (tokens_on others p)

-- An actor's effects and its choice are over the tokens before it, by port.
pub record IsLawful {X : Type 0} (actor : Behaviour X) : Type 0 where
  -- an action with an effect has its tokens
  pub has_tokens : (state : X) (tokens : List (List ℤ)) (a : ℕ) → actor.effect state tokens a ≢ None
      → (p : ℕ) → p < actor.ins → actor.need a p ≤ length (tokens_on tokens p)
  -- a firing sends exactly what its action gives
  pub gives : (state next : X) (tokens sent : List (List ℤ)) (a : ℕ)
      → actor.effect state tokens a ≡ Some (Fires next sent)
      → (p : ℕ) → p < actor.outs → length (tokens_on sent p) ≡ actor.give a p
  -- nothing depends on the tokens of a port behind the most that any action needs on that port
  pub front : (seen : ℕ → ℕ) → ((a p : ℕ) → actor.need a p ≤ seen p)
      → (state : X) (tokens others : List (List ℤ)) → AgreeOn actor seen tokens others
      → ((a : ℕ) → actor.effect state tokens a ≡ actor.effect state others a)
      × (actor.choice state tokens ≡ actor.choice state others)
  -- the choice is an enabled action ..
  pub picks : (state : X) (tokens : List (List ℤ)) (a : ℕ) → actor.choice state tokens ≡ Picks a
      → ((next : X) × (sent : List (List ℤ))
      × (actor.effect state tokens a ≡ Some (Fires next sent)))
      ⊎ ((cause : Trap) × (actor.effect state tokens a ≡ Some (TrapsInBody cause)))
  -- .. or an exposed one whose guards trap ..
  pub faults : (state : X) (tokens : List (List ℤ)) (a : ℕ) (cause : Trap)
      → actor.choice state tokens ≡ Faults a cause
      → actor.effect state tokens a ≡ Some (TrapsInGuard cause)
  -- .. and it is to wait only if no action has an effect
  pub waits : (state : X) (tokens : List (List ℤ)) → actor.choice state tokens ≡ Waits
      → (a : ℕ) → actor.effect state tokens a ≡ None
  -- beyond its actions nothing is done, needed or given
  pub no_effect_beyond : (state : X) (tokens : List (List ℤ)) (a : ℕ) → actor.actions ≤ a
      → actor.effect state tokens a ≡ None
  pub no_need_beyond : (a p : ℕ) → actor.actions ≤ a → actor.need a p ≡ 0
  pub no_give_beyond : (a p : ℕ) → actor.actions ≤ a → actor.give a p ≡ 0
