-- The behaviour of a sound actor is lawful.
use Rattle.std.proofs.Common.{◌≡◌, ◌≢◌, ℕ, zero, suc, ◌+◌, ◌<◌, ◌≤◌, ◌⊎◌, inl, inr, ℤ, Bool, true, false, ◌&&◌, List, [], ◌∷◌, length, take, refl, ap, subst, ◌∙◌, arith, Option, None, Some}
use Rattle.std.specs.Prelude.{if◌then◌else◌, nat_le, slice_get, slice_index_or}
use Rattle.std.specs.List.{range_with_len}
use Rattle.std.proofs.lemmas.Option.{slice_get_past}
use Rattle.rvc_base.specs.declared.trap.Trap.{Trap}
use Rattle.rvc_base.specs.Behaviour.{Waits, Picks, Faults, Effect, Fires, TrapsInGuard, TrapsInBody}
use Rattle.rvc_base.specs.Lawful.{IsLawful}
use Rattle.cal_ast.specs.Tree.{Tree}
use Rattle.cal_model.specs.Value.{BoolKind, HasKind}
use Rattle.cal_model.specs.Outcome.{Out, Gives, Traps, Lacks, Clashes}
use Rattle.cal_model.specs.Expression.{eval}
use Rattle.cal_model.specs.Actor.{Action, Actor}
use Rattle.cal_model.specs.Call.{calls_of}
use Rattle.cal_model.specs.Rates.{need, give, taken_on, given_on}
use Rattle.cal_model.specs.Selection.{State, Priorities, tokens_on, has_its_tokens_on, seen_by, Guards, AreFalse, readiness, IsEnabled, IsExposed, is_exposed, choice}
use Rattle.cal_model.specs.ActorState.{IsActorState, is_actor_state, AreTokensOf, kept_tokens}
use Rattle.cal_model.specs.Firing.{Fired, body, IsFiring, IsTrapping, effect_of_body, effect_of_exposed, effect, behaviour}
use Rattle.cal_model.specs.Keeping.{GivesOrTraps}
use Rattle.cal_model.specs.Kinding.{Fine, kind}
use Rattle.cal_model.specs.Sound.{Each, IsPlain, names_of, with_patterns, IsSound}
use Rattle.cal_model.proofs.ActorStates.{states-decide, kept-are-tokens, as-many-are-kept}
use Rattle.cal_model.proofs.Choosing.{is-exposed, exposed-is, ready-past, chosen-is-enabled, chosen-traps, waiting-is-idle, effects-are-firings}
use Rattle.cal_model.proofs.KeptByFirings.{IsMade, action-at, guard-says, eligible-makes}
use Rattle.cal_model.proofs.PrefixSeen.{kept-agree, effect-same, choice-same}

-- ---- guards and bodies

guard-at : (P : Tree → Type 0) (gs : List Tree) (k : ℕ) (g : Tree) → Each P gs → slice_get gs k ≡ Some g → P g
guard-at P [] k g h e = let no : None ≡ Some g = e in absurd (grind arith)
guard-at P (x ∷ gs) zero g h e = let same : x ≡ g = cc in subst P same h.0
guard-at P (x ∷ gs) (suc k) g h e = guard-at P gs k g h.1 e

pub guards-are-truths : (actor : Actor) (x : State) (u : List (List ℤ)) (a k left : ℕ) (act : Action) (g : Tree) → IsSound actor → IsActorState actor x → AreTokensOf actor u
    → slice_get actor.actions a ≡ Some act → slice_get act.guards k ≡ Some g → GivesOrTraps (HasKind BoolKind) (eval g (calls_of actor.funs) (seen_by actor x u act) left)
guards-are-truths actor x u a k left act g sound is tokens e f =
    let good = action-at actor actor.actions a act sound.actions e in
    let here = guard-at (λ t. (kind t (with_patterns actor act.patterns (names_of actor)) ≡ Fine BoolKind) × IsPlain t) act.guards k g good.guards f in
    guard-says actor x u sound is tokens act g left here.0

-- an action that is exposed and enabled has the effect of its body
enabled-effect : (actor : Actor) (p : Priorities actor) (x : State) (u : List (List ℤ)) (a : ℕ) → IsExposed actor x u a → IsEnabled actor x u a → effect actor p x u a ≡ effect_of_body (body actor x u a)
enabled-effect actor p x u a exposed enabled =
    ap (λ b. if b then effect_of_exposed actor x u a (readiness actor x u a) else None) (exposed-is actor p x u a exposed)
    ∙ ap (effect_of_exposed actor x u a) enabled

pub enabled-fires-or-traps : (actor : Actor) (x : State) (u : List (List ℤ)) (a : ℕ) → IsSound actor → IsActorState actor x → AreTokensOf actor u → IsExposed actor x u a → IsEnabled actor x u a
    → ((y : State) × (sent : List (List ℤ)) × IsFiring actor x u a y (need actor a) sent) ⊎ ((c : Trap) × IsTrapping actor x u a c)
enabled-fires-or-traps actor x u a sound is tokens exposed enabled = go (body actor x u a) refl (eligible-makes actor x u a sound is tokens exposed.is_eligible)
  where
    go : (o : Out Fired) → body actor x u a ≡ o → GivesOrTraps (IsMade actor a) o → ((y : State) × (sent : List (List ℤ)) × IsFiring actor x u a y (need actor a) sent) ⊎ ((c : Trap) × IsTrapping actor x u a c)
    go (Gives f left) e h = inl (f.state, f.sent, record { exposed = exposed; enabled = enabled; takes = λ port. refl; left = left; gives = e })
    go (Traps c) e h = inr (c, record { exposed = exposed; where_ = inr (enabled, e) })
    go Lacks e h = absurd h
    go Clashes e h = absurd h

-- ---- tokens

both-true : (a b : Bool) → (a && b) ≡ true → (a ≡ true) × (b ≡ true)
both-true true true h = (refl, refl)
both-true true false h = absurd (grind arith)
both-true false b h = absurd (grind arith)

le-is : (n m : ℕ) → nat_le n m ≡ true → n ≤ m
le-is n m h = grind arith

has-at : (actor : Actor) (u : List (List ℤ)) (a k s p : ℕ) → has_its_tokens_on actor u a (range_with_len s k) ≡ true → s ≤ p → p < s + k → need actor a p ≤ length (tokens_on u p)
has-at actor u a zero s p h i j = absurd (omega arith)
has-at actor u a (suc k) s p h i j = go (both-true (nat_le (need actor a s) (length (tokens_on u s))) (has_its_tokens_on actor u a (range_with_len (s + 1) k)) h) (has-at actor u a k (s + 1) p) (at-or-after s p i)
  where
    at-or-after : (s p : ℕ) → s ≤ p → (s ≡ p) ⊎ (s + 1 ≤ p)
    at-or-after s p h = grind arith

    go : (nat_le (need actor a s) (length (tokens_on u s)) ≡ true) × (has_its_tokens_on actor u a (range_with_len (s + 1) k) ≡ true)
        → (has_its_tokens_on actor u a (range_with_len (s + 1) k) ≡ true → s + 1 ≤ p → p < s + 1 + k → need actor a p ≤ length (tokens_on u p))
        → (s ≡ p) ⊎ (s + 1 ≤ p) → need actor a p ≤ length (tokens_on u p)
    go both ih (inl same) = subst (λ n. need actor a n ≤ length (tokens_on u n)) same (le-is (need actor a s) (length (tokens_on u s)) both.0)
    go both ih (inr after) = ih both.1 after (omega arith)

none-effect : (b : Bool) (actor : Actor) (x : State) (u : List (List ℤ)) (a : ℕ) → (if b then effect_of_exposed actor x u a (readiness actor x u a) else None) ≢ None → b ≡ true
none-effect true actor x u a h = refl
none-effect false actor x u a h = absurd (h refl)

effect-has-tokens : (actor : Actor) (p : Priorities actor) (x : State) (u : List (List ℤ)) (a port : ℕ) → effect actor p x u a ≢ None → port < length actor.ins → need actor a port ≤ length (tokens_on u port)
effect-has-tokens actor p x u a port h i =
    let exposed = is-exposed actor p x u a (none-effect (is_exposed actor p x u a) actor x u a h) in
    has-at actor u a (length actor.ins) 0 port exposed.has_tokens (omega arith) (let j : port < 0 + length actor.ins = omega arith in j)

-- ---- the laws, over a test of states

module _ (actor : Actor) (p : Priorities actor) (sound : IsSound actor) where
  abbrev kept : List (List ℤ) → List (List ℤ)
  kept u = kept_tokens actor u

  has_tokens : (x : State) (u : List (List ℤ)) (a : ℕ) → (behaviour actor p).effect x u a ≢ None → (port : ℕ) → port < length actor.ins → need actor a port ≤ length (slice_index_or u port [])
  has_tokens x u a h port i = go (is_actor_state actor x) h
    where
      go : (b : Bool) → (if b then effect actor p x (kept_tokens actor u) a else None) ≢ None → need actor a port ≤ length (slice_index_or u port [])
      go true g = subst (λ n. need actor a port ≤ n) (as-many-are-kept actor u port i) (effect-has-tokens actor p x (kept_tokens actor u) a port g i)
      go false g = absurd (g refl)

  gives : (x y : State) (u sent : List (List ℤ)) (a : ℕ) → (behaviour actor p).effect x u a ≡ Some (Fires y sent) → (port : ℕ) → port < length actor.outs → length (slice_index_or sent port []) ≡ give actor a port
  gives x y u sent a h port i = go (is_actor_state actor x) refl h
    where
      go : (b : Bool) → is_actor_state actor x ≡ b → (if b then effect actor p x (kept_tokens actor u) a else None) ≡ Some (Fires y sent) → length (slice_index_or sent port []) ≡ give actor a port
      go true is g =
          let f = (effects-are-firings actor p x y (kept_tokens actor u) sent a).0 g in
          let made = subst (λ o. GivesOrTraps (IsMade actor a) o) f.gives (eligible-makes actor x (kept_tokens actor u) a sound ((states-decide actor x).0 is) (kept-are-tokens actor u sound) f.exposed.is_eligible) in
          made.given port i
      go false is g = let no : ◌≡◌ {A = Option (Effect State)} None (Some (Fires y sent)) = g in absurd (grind arith)

  prefix : (n : ℕ → ℕ) → ((a port : ℕ) → need actor a port ≤ n port) → (x : State) (u v : List (List ℤ))
      → ((port : ℕ) → port < length actor.ins → take (n port) (slice_index_or u port []) ≡ take (n port) (slice_index_or v port []))
      → ((a : ℕ) → (behaviour actor p).effect x u a ≡ (behaviour actor p).effect x v a) × ((behaviour actor p).choice x u ≡ (behaviour actor p).choice x v)
  prefix n needed x u v agree =
      let same = kept-agree actor n u v agree in (
        λ a. ap (λ e. if is_actor_state actor x then e else None) (effect-same actor n (kept u) (kept v) same sound needed p x a),
        ap (λ c. if is_actor_state actor x then c else Waits) (choice-same actor n (kept u) (kept v) same sound needed p x),
      )

  picks : (x : State) (u : List (List ℤ)) (a : ℕ) → (behaviour actor p).choice x u ≡ Picks a
      → ((y : State) × (sent : List (List ℤ)) × ((behaviour actor p).effect x u a ≡ Some (Fires y sent))) ⊎ ((c : Trap) × ((behaviour actor p).effect x u a ≡ Some (TrapsInBody c)))
  picks x u a h = go (is_actor_state actor x) refl h
    where
      made : (e : Option (Effect State)) (o : Out Fired) → e ≡ effect_of_body o → GivesOrTraps (IsMade actor a) o
          → ((y : State) × (sent : List (List ℤ)) × (e ≡ Some (Fires y sent))) ⊎ ((c : Trap) × (e ≡ Some (TrapsInBody c)))
      made e (Gives f left) same g = inl (f.state, f.sent, same)
      made e (Traps c) same g = inr (c, same)
      made e Lacks same g = absurd g
      made e Clashes same g = absurd g

      go : (b : Bool) → is_actor_state actor x ≡ b → (if b then choice actor p x (kept_tokens actor u) else Waits) ≡ Picks a
          → ((y : State) × (sent : List (List ℤ)) × ((if b then effect actor p x (kept_tokens actor u) a else None) ≡ Some (Fires y sent)))
          ⊎ ((c : Trap) × ((if b then effect actor p x (kept_tokens actor u) a else None) ≡ Some (TrapsInBody c)))
      go true is g =
          let chosen = chosen-is-enabled actor p x (kept_tokens actor u) a g in
          made (effect actor p x (kept_tokens actor u) a) (body actor x (kept_tokens actor u) a) (enabled-effect actor p x (kept_tokens actor u) a chosen.0 chosen.1)
          (eligible-makes actor x (kept_tokens actor u) a sound ((states-decide actor x).0 is) (kept-are-tokens actor u sound) chosen.0.is_eligible)
      go false is g = let no : Waits ≡ Picks a = g in absurd (grind arith)

  faults : (x : State) (u : List (List ℤ)) (a : ℕ) (c : Trap) → (behaviour actor p).choice x u ≡ Faults a c → (behaviour actor p).effect x u a ≡ Some (TrapsInGuard c)
  faults x u a c h = go (is_actor_state actor x) h
    where
      go : (b : Bool) → (if b then choice actor p x (kept_tokens actor u) else Waits) ≡ Faults a c → (if b then effect actor p x (kept_tokens actor u) a else None) ≡ Some (TrapsInGuard c)
      go true g =
          let chosen = chosen-traps actor p x (kept_tokens actor u) a c g in
          ap (λ b. if b then effect_of_exposed actor x (kept_tokens actor u) a (readiness actor x (kept_tokens actor u) a) else None) (exposed-is actor p x (kept_tokens actor u) a chosen.0)
          ∙ ap (effect_of_exposed actor x (kept_tokens actor u) a) chosen.1
      go false g = let no : Waits ≡ Faults a c = g in absurd (grind arith)

  waits : (x : State) (u : List (List ℤ)) → (behaviour actor p).choice x u ≡ Waits → (a : ℕ) → (behaviour actor p).effect x u a ≡ None
  waits x u h a = go (is_actor_state actor x) h
    where
      idle : (b : Bool) (g : Guards) → g ≡ AreFalse → (if b then effect_of_exposed actor x (kept_tokens actor u) a g else None) ≡ None
      idle true g e = ap (effect_of_exposed actor x (kept_tokens actor u) a) e
      idle false g e = refl

      go : (b : Bool) → (if b then choice actor p x (kept_tokens actor u) else Waits) ≡ Waits → (if b then effect actor p x (kept_tokens actor u) a else None) ≡ None
      go true g = idle (is_exposed actor p x (kept_tokens actor u) a) (readiness actor x (kept_tokens actor u) a) (waiting-is-idle actor p x (kept_tokens actor u) g a)
      go false g = refl

  past-effect : (x : State) (u : List (List ℤ)) (a : ℕ) → length actor.actions ≤ a → (behaviour actor p).effect x u a ≡ None
  past-effect x u a h = go (is_actor_state actor x)
    where
      idle : (b : Bool) (g : Guards) → g ≡ AreFalse → (if b then effect_of_exposed actor x (kept_tokens actor u) a g else None) ≡ None
      idle true g e = ap (effect_of_exposed actor x (kept_tokens actor u) a) e
      idle false g e = refl

      go : (b : Bool) → (if b then effect actor p x (kept_tokens actor u) a else None) ≡ None
      go true = idle (is_exposed actor p x (kept_tokens actor u) a) (readiness actor x (kept_tokens actor u) a) (ready-past actor x (kept_tokens actor u) a h)
      go false = refl

  no-need : (a port : ℕ) → length actor.actions ≤ a → need actor a port ≡ 0
  no-need a port h = ap (λ o. elim o [ None ↦ 0 | Some act ↦ taken_on port act.patterns ]) (slice_get_past actor.actions a h)

  no-give : (a port : ℕ) → length actor.actions ≤ a → give actor a port ≡ 0
  no-give a port h = ap (λ o. elim o [ None ↦ 0 | Some act ↦ given_on port act.outputs ]) (slice_get_past actor.actions a h)

pub behaviour-is-lawful : (actor : Actor) (p : Priorities actor) → IsSound actor → IsLawful (behaviour actor p)
behaviour-is-lawful actor p sound = record {
  has_tokens = has_tokens actor p sound;
  gives = gives actor p sound;
  front = prefix actor p sound;
  picks = picks actor p sound;
  faults = faults actor p sound;
  waits = waits actor p sound;
  no_effect_beyond = past-effect actor p sound;
  no_need_beyond = no-need actor p sound;
  no_give_beyond = no-give actor p sound;
}
