-- A sound and certified actor is stable: what it does it does with more tokens too, and nothing else.
use Rattle.std.proofs.Common.{◌≡◌, ◌≢◌, ℕ, zero, suc, ◌+◌, ◌≤◌, ◌<◌, ◌⊎◌, inl, inr, ℤ, Bool, true, false, ◌&&◌, List, [], ◌∷◌, ◌++◌, length, take, refl, sym, ap, subst, ◌∙◌, arith, Option, None, Some}
use Rattle.std.specs.Prelude.{if◌then◌else◌, nat_le, slice_get}
use Rattle.std.specs.List.{range_with_len}
use Rattle.std.proofs.lemmas.List.{take-append-le}
use Rattle.rvc_base.specs.Behaviour.{Effect}
use Rattle.rvc_base.specs.Chain.{ChainLeads}
use Rattle.cal_ast.specs.Tree.{Tree}
use Rattle.cal_model.specs.Actor.{Action, Actor}
use Rattle.cal_model.specs.Call.{calls_of}
use Rattle.cal_model.specs.Eligible.{eligible}
use Rattle.cal_model.specs.Rates.{need}
use Rattle.cal_model.specs.Selection.{State, Above, Priorities, tokens_on, has_its_tokens_on, has_its_tokens, seen_by, Guards, AreTrue, AreFalse, AreTrapping, guards_say, readiness, IsExposed, is_exposed}
use Rattle.cal_model.specs.ActorState.{IsActorState, is_actor_state, kept_tokens}
use Rattle.cal_model.specs.Firing.{effect_of_body, effect_of_exposed, effect, body, behaviour}
use Rattle.cal_model.specs.Sound.{Each, IsSound}
use Rattle.cal_model.specs.Certified.{IsBare, IsModest, GuardsExclude, IsCertified}
use Rattle.cal_model.proofs.ActorStates.{states-decide, kept-are-tokens, as-many-are-kept}
use Rattle.cal_model.proofs.Choosing.{is-exposed, exposed-is}
use Rattle.cal_model.proofs.PrefixSeen.{Agree, kept-agree, has-same, ready-same, body-same}
use Rattle.net_model.specs.Stable.{IsPrefix, BeginWith}
use Rattle.determinacy_cert.specs.Certifying.{CertifiedAreStable}
use Rattle.determinacy_cert.proofs.Seen.{NeverTraps, tame_guards_never_trap}
use Rattle.determinacy_cert.proofs.Conjuncts.{guards_exclude}

-- ---- chains

chains_join : (pairs : List (ℕ × ℕ)) (a b c : ℕ) (through more : List ℕ) → ChainLeads pairs a through b → ChainLeads pairs b more c → ChainLeads pairs a (through ++ b ∷ more) c
chains_join pairs a b c [] more h k = (h, k)
chains_join pairs a b c (x ∷ through) more h k = (h.0, chains_join pairs x b c through more h.1 k)

above_both : (actor : Actor) (a b : ℕ) → Above actor a b → Above actor b a → Above actor a a
above_both actor a b h k = (h.0 ++ b ∷ k.0, chains_join actor.pairs a b a h.0 k.0 h.1 k.1)

-- ---- what guards say

both_true : (a b : Bool) → (a && b) ≡ true → (a ≡ true) × (b ≡ true)
both_true true true h = (refl, refl)
both_true true false h = cc
both_true false b h = cc

-- if an action has its tokens, each port has as many as it needs
needed_at : (actor : Actor) (u : List (List ℤ)) (a k s port : ℕ) → has_its_tokens_on actor u a (range_with_len s k) ≡ true → s ≤ port → port < s + k
    → need actor a port ≤ length (tokens_on u port)
needed_at actor u a zero s port h i j = absurd (let e : port < s = omega arith in let f : s ≤ port = i in omega arith)
needed_at actor u a (suc k) s port h i j =
    go (both_true (nat_le (need actor a s) (length (tokens_on u s))) (has_its_tokens_on actor u a (range_with_len (s + 1) k)) h) (needed_at actor u a k (s + 1) port) (at_or_after s port i)
  where
    at_or_after : (s port : ℕ) → s ≤ port → (s ≡ port) ⊎ (s + 1 ≤ port)
    at_or_after s port h = grind arith

    few : (n m : ℕ) → nat_le n m ≡ true → n ≤ m
    few n m h = grind arith

    go : (nat_le (need actor a s) (length (tokens_on u s)) ≡ true) × (has_its_tokens_on actor u a (range_with_len (s + 1) k) ≡ true)
        → (has_its_tokens_on actor u a (range_with_len (s + 1) k) ≡ true → s + 1 ≤ port → port < s + 1 + k → need actor a port ≤ length (tokens_on u port))
        → (s ≡ port) ⊎ (s + 1 ≤ port) → need actor a port ≤ length (tokens_on u port)
    go both others (inl same) = subst (λ n. need actor a n ≤ length (tokens_on u n)) same (few (need actor a s) (length (tokens_on u s)) both.0)
    go both others (inr after) = others both.1 after (omega arith)

-- an enabled action is one of the actor's, is eligible, and its guards are true
pub record Ready (actor : Actor) (x : State) (u : List (List ℤ)) (a : ℕ) : Type 0 where
  pub act : Action
  pub is : slice_get actor.actions a ≡ Some act
  pub eligible : eligible actor x.at a ≡ true
  pub says : guards_say act.guards (calls_of actor.funs) (seen_by actor x u act) ≡ AreTrue

ready : (actor : Actor) (x : State) (u : List (List ℤ)) (a : ℕ) → readiness actor x u a ≡ AreTrue → Ready actor x u a
ready actor x u a h = go (slice_get actor.actions a) refl h
  where
    fits : (act : Action) → slice_get actor.actions a ≡ Some act → (b : Bool) → (eligible actor x.at a && has_its_tokens actor u a) ≡ b
        → (if b then guards_say act.guards (calls_of actor.funs) (seen_by actor x u act) else AreFalse) ≡ AreTrue → Ready actor x u a
    fits act is true both h = record { act = act; is = is; eligible = (both_true (eligible actor x.at a) (has_its_tokens actor u a) both).0; says = h }
    fits act is false both h = cc

    go : (o : Option Action) → slice_get actor.actions a ≡ o
        → ◌≡◌ {A = Guards} (elim o [ None ↦ AreFalse | Some act ↦ if eligible actor x.at a && has_its_tokens actor u a then guards_say act.guards (calls_of actor.funs) (seen_by actor x u act) else AreFalse ]) AreTrue
        → Ready actor x u a
    go None is h = cc
    go (Some act) is h = fits act is (eligible actor x.at a && has_its_tokens actor u a) refl h

bare_guards : (P : Tree → Type 0) (gs : List Tree) → Each (λ g. IsBare g × P g) gs → Each IsBare gs
bare_guards P [] h = tt
bare_guards P (g ∷ gs) h = (h.0.0, bare_guards P gs h.1)

-- what never traps and isn't false is true
never_false : (g : Guards) → NeverTraps g → g ≢ AreFalse → g ≡ AreTrue
never_false AreTrue h k = refl
never_false AreFalse h k = absurd (k refl)
never_false (AreTrapping c) h k = absurd h

never_true : (g : Guards) → NeverTraps g → g ≢ AreTrue → g ≡ AreFalse
never_true AreTrue h k = absurd (k refl)
never_true AreFalse h k = refl
never_true (AreTrapping c) h k = absurd h

-- ---- in one state

module _ (actor : Actor) (p : Priorities actor) (sound : IsSound actor) (certified : IsCertified actor) (x : State) (state : IsActorState actor x) where
  -- no guard of a certified actor traps
  ready_safe : (u : List (List ℤ)) (a : ℕ) → NeverTraps (readiness actor x (kept_tokens actor u) a)
  ready_safe u a = go (slice_get actor.actions a) refl
    where
      w : List (List ℤ)
      w = kept_tokens actor u

      fits : (act : Action) → slice_get actor.actions a ≡ Some act → (b c : Bool) → eligible actor x.at a ≡ b
          → NeverTraps (if b && c then guards_say act.guards (calls_of actor.funs) (seen_by actor x w act) else AreFalse)
      fits act is true true e = tame_guards_never_trap actor x w act sound state (kept-are-tokens actor u sound) (certified.guards x.at a act state.at is e)
      fits act is true false e = tt
      fits act is false c e = tt

      go : (o : Option Action) → slice_get actor.actions a ≡ o
          → NeverTraps (elim o [ None ↦ AreFalse | Some act ↦ if eligible actor x.at a && has_its_tokens actor w a then guards_say act.guards (calls_of actor.funs) (seen_by actor x w act) else AreFalse ])
      go None is = tt
      go (Some act) is = fits act is (eligible actor x.at a) (has_its_tokens actor w a) refl

  -- actions whose guards exclude each other aren't both enabled
  not_both : (u : List (List ℤ)) (a c : ℕ) (one : Ready actor x u a) (two : Ready actor x u c) → GuardsExclude one.act two.act → ⊥
  not_both u a c one two exclude =
      guards_exclude actor x u one.act two.act (calls_of actor.funs)
      (bare_guards _ one.act.guards (certified.guards x.at a one.act state.at one.is one.eligible))
      (bare_guards _ two.act.guards (certified.guards x.at c two.act state.at two.is two.eligible))
      one.says two.says exclude

  -- ---- .. with an exposed action, whose tokens stay when more come
  module _ (u v : List (List ℤ)) (more : BeginWith (length actor.ins) u v) (a : ℕ)
      (exposed : IsExposed actor x (kept_tokens actor u) a) (other : readiness actor x (kept_tokens actor u) a ≢ AreFalse)
      (enough : (port : ℕ) → port < length actor.ins → need actor a port ≤ length (tokens_on u port)) where
    -- so many tokens as the action needs, or fewer, are the same
    agree : (n : ℕ → ℕ) → ((port : ℕ) → n port ≤ need actor a port) → Agree actor n (kept_tokens actor u) (kept_tokens actor v)
    agree n few = kept-agree actor n u v (λ port i. begun port (enough port i) (more port i))
      where
        begun : (port : ℕ) → need actor a port ≤ length (tokens_on u port) → IsPrefix (tokens_on u port) (tokens_on v port) → take (n port) (tokens_on u port) ≡ take (n port) (tokens_on v port)
        begun port h prefix =
            let less : n port ≤ need actor a port = few port in
            sym (ap (take (n port)) prefix.1 ∙ take-append-le (n port) (tokens_on u port) prefix.0 (omega arith))

    itself : (port : ℕ) → need actor a port ≤ need actor a port
    itself port = omega arith

    enabled_before : readiness actor x (kept_tokens actor u) a ≡ AreTrue
    enabled_before = never_false (readiness actor x (kept_tokens actor u) a) (ready_safe u a) other

    pub enabled_after : readiness actor x (kept_tokens actor v) a ≡ AreTrue
    enabled_after =
        sym (ready-same actor (need actor a) (kept_tokens actor u) (kept_tokens actor v) (agree (need actor a) itself) sound a itself x) ∙ enabled_before

    pub tokens_after : has_its_tokens actor (kept_tokens actor v) a ≡ true
    tokens_after =
        sym (has-same actor (need actor a) (kept_tokens actor u) (kept_tokens actor v) (agree (need actor a) itself) sound a itself) ∙ exposed.has_tokens

    -- no other eligible action is enabled, unless the one is above it
    rival : (c : ℕ) → a ≢ c → eligible actor x.at c ≡ true → ¬ Above actor a c → readiness actor x (kept_tokens actor v) c ≢ AreTrue
    rival c differ can below h =
        let one : Ready actor x (kept_tokens actor v) a = ready actor x (kept_tokens actor v) a enabled_after in
        let two : Ready actor x (kept_tokens actor v) c = ready actor x (kept_tokens actor v) c h in
        go one two (certified.pairs x.at a c one.act two.act state.at one.is two.is differ one.eligible two.eligible)
      where
        go : (one : Ready actor x (kept_tokens actor v) a) (two : Ready actor x (kept_tokens actor v) c)
            → (IsModest actor a c ⊎ IsModest actor c a) ⊎ GuardsExclude one.act two.act → ⊥
        go one two (inl (inl modest)) = below modest.above
        go one two (inl (inr modest)) =
            let before : readiness actor x (kept_tokens actor u) c ≡ AreTrue =
            ready-same actor (need actor c) (kept_tokens actor u) (kept_tokens actor v) (agree (need actor c) modest.no_more) sound c (λ port. omega arith) x ∙ h in
            exposed.none_above c modest.above before
        go one two (inr exclude) = not_both (kept_tokens actor v) a c one two exclude

    pub exposed_after : IsExposed actor x (kept_tokens actor v) a
    exposed_after = record {
      is_eligible = exposed.is_eligible;
      has_tokens = tokens_after;
      none_above = λ b above enabled.
          rival b (λ same. sound.no_cycle a (subst (λ k. Above actor k a) (sym same) above)) (ready actor x (kept_tokens actor v) b enabled).eligible
          (λ back. sound.no_cycle a (above_both actor a b back above)) enabled;
    }

    pub effect_after : effect actor p x (kept_tokens actor u) a ≡ effect actor p x (kept_tokens actor v) a
    effect_after =
        now (kept_tokens actor u) exposed enabled_before
        ∙ ap effect_of_body (body-same actor (need actor a) (kept_tokens actor u) (kept_tokens actor v) (agree (need actor a) itself) sound a itself x)
        ∙ sym (now (kept_tokens actor v) exposed_after enabled_after)
      where
        now : (w : List (List ℤ)) → IsExposed actor x w a → readiness actor x w a ≡ AreTrue → effect actor p x w a ≡ effect_of_body (body actor x w a)
        now w is enabled =
            ap (λ b. if b then effect_of_exposed actor x w a (readiness actor x w a) else None) (exposed-is actor p x w a is) ∙ ap (effect_of_exposed actor x w a) enabled

    pub no_effect_besides : (c : ℕ) → a ≢ c → effect actor p x (kept_tokens actor v) c ≡ None
    no_effect_besides c differ = go (is_exposed actor p x (kept_tokens actor v) c) refl
      where
        idle : (g : Guards) → g ≡ AreFalse → effect_of_exposed actor x (kept_tokens actor v) c g ≡ None
        idle g e = ap (effect_of_exposed actor x (kept_tokens actor v) c) e

        go : (b : Bool) → is_exposed actor p x (kept_tokens actor v) c ≡ b
            → (if b then effect_of_exposed actor x (kept_tokens actor v) c (readiness actor x (kept_tokens actor v) c) else None) ≡ None
        go true is =
            let there : IsExposed actor x (kept_tokens actor v) c = is-exposed actor p x (kept_tokens actor v) c is in
            idle (readiness actor x (kept_tokens actor v) c)
            (never_true (readiness actor x (kept_tokens actor v) c) (ready_safe v c)
            (rival c differ there.is_eligible (λ above. there.none_above a above enabled_after)))
        go false is = refl

-- ---- as a behaviour

-- what has an effect is exposed, and its guards aren't false
has_effect : (b : Bool) (actor : Actor) (x : State) (u : List (List ℤ)) (a : ℕ) (g : Guards) (e : Effect State)
    → (if b then effect_of_exposed actor x u a g else None) ≡ Some e → (b ≡ true) × (g ≢ AreFalse)
has_effect true actor x u a AreTrue e h = (refl, (λ k. cc))
has_effect true actor x u a (AreTrapping c) e h = (refl, (λ k. cc))
has_effect true actor x u a AreFalse e h = cc
has_effect false actor x u a g e h = cc

pub certified_are_stable : CertifiedAreStable
certified_are_stable actor p sound certified = record { same = same; alone = alone }
  where
    -- the effect of an actor in one of its states stays with more tokens, and no other action has one
    kept : (x : State) (u v : List (List ℤ)) (a : ℕ) (e : Effect State) → BeginWith (length actor.ins) u v → IsActorState actor x
        → effect actor p x (kept_tokens actor u) a ≡ Some e
        → (effect actor p x (kept_tokens actor v) a ≡ Some e) × ((c : ℕ) → c ≢ a → effect actor p x (kept_tokens actor v) c ≡ None)
    kept x u v a e more state h =
        let is = has_effect (is_exposed actor p x (kept_tokens actor u) a) actor x (kept_tokens actor u) a (readiness actor x (kept_tokens actor u) a) e h in
        let exposed : IsExposed actor x (kept_tokens actor u) a = is-exposed actor p x (kept_tokens actor u) a is.0 in
        let enough : (port : ℕ) → port < length actor.ins → need actor a port ≤ length (tokens_on u port) =
        λ port i. subst (λ n. need actor a port ≤ n) (as-many-are-kept actor u port i)
        (needed_at actor (kept_tokens actor u) a (length actor.ins) 0 port exposed.has_tokens (omega arith) (let j : port < 0 + length actor.ins = omega arith in j)) in (
          sym (effect_after actor p sound certified x state u v more a exposed is.1 enough) ∙ h,
          λ c differ. no_effect_besides actor p sound certified x state u v more a exposed is.1 enough c (λ k. differ (sym k)),
        )

    same : (x : State) (u v : List (List ℤ)) (a : ℕ) (e : Effect State) → BeginWith (length actor.ins) u v
        → (behaviour actor p).effect x u a ≡ Some e → (behaviour actor p).effect x v a ≡ Some e
    same x u v a e more h = go (is_actor_state actor x) refl h
      where
        go : (b : Bool) → is_actor_state actor x ≡ b → (if b then effect actor p x (kept_tokens actor u) a else None) ≡ Some e
            → (if b then effect actor p x (kept_tokens actor v) a else None) ≡ Some e
        go true is k = (kept x u v a e more ((states-decide actor x).0 is) k).0
        go false is k = cc

    alone : (x : State) (u v : List (List ℤ)) (a : ℕ) (e : Effect State) → BeginWith (length actor.ins) u v
        → (behaviour actor p).effect x u a ≡ Some e → (c : ℕ) → c ≢ a → (behaviour actor p).effect x v c ≡ None
    alone x u v a e more h c differ = go (is_actor_state actor x) refl h
      where
        go : (b : Bool) → is_actor_state actor x ≡ b → (if b then effect actor p x (kept_tokens actor u) a else None) ≡ Some e
            → (if b then effect actor p x (kept_tokens actor v) c else None) ≡ None
        go true is k = (kept x u v a e more ((states-decide actor x).0 is) k).1 c differ
        go false is k = refl
