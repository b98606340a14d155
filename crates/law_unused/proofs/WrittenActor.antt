-- Two actors whose actions have the same patterns, tags and rates, and do the same in each state, behave the same.
use Rattle.std.proofs.Common.{◌≡◌, ℕ, zero, suc, ℤ, Bool, true, false, List, [], ◌∷◌, ◌++◌, length, refl, sym, ap, ◌∙◌, Option, None, Some}
use Rattle.std.specs.Prelude.{if◌then◌else◌, ◌&&◌, ◌||◌, ◌==◌, not, nat_le, nat_lt, is_some, slice_get}
use Rattle.std.specs.List.{range_with_len}
use Rattle.rvc_base.specs.Behaviour.{Choice, Waits, Picks, Faults}
use Rattle.rvc_base.specs.Turns.{max_turns}
use Rattle.cal_model.specs.Actor.{Action, Actor, Fun, Pattern, Proc}
use Rattle.cal_model.specs.ActorState.{are_vars_of, is_actor_state, kept_tokens}
use Rattle.cal_model.specs.Call.{calls_of, declared}
use Rattle.cal_model.specs.Eligible.{eligible, fresh, has_initialize, is_empty, leads, next, states_of, target}
use Rattle.cal_model.specs.Env.{Var}
use Rattle.cal_model.specs.Expression.{Calls}
use Rattle.cal_model.specs.Firing.{Fired, behaviour, body, body_of, effect, effect_of_body, effect_of_exposed, outputs, sent_by_port}
use Rattle.cal_model.specs.Outcome.{Out, Gives, Traps, Lacks, Clashes, and_then}
use Rattle.cal_model.specs.Rates.{give, given_on, need, taken_on}
use Rattle.cal_model.specs.Selection.{AreFalse, AreTrapping, AreTrue, Guards, Priorities, State, are_true, choice, choice_among, guards_say, has_its_tokens, has_its_tokens_on, is_exposed, kind_of_port, outranked, pattern_vars, pattern_vars_from, readiness, seen_by, tokens_on}
use Rattle.cal_model.specs.Statement.{exec_all, runs_of}
use Rattle.cal_check.specs.AsWritten.{done_by}
use Rattle.law_unused.specs.AsWritten.{IsSameBehaviour}

-- what is done in two steps, as one
then-then : {A B C : Type 0} (o : Out A) (f : A → ℕ → Out B) (g : B → ℕ → Out C) (h : A → ℕ → Out C) → ((a : A) (m : ℕ) → and_then (f a m) g ≡ h a m) → and_then (and_then o f) g ≡ and_then o h
then-then (Gives a m) f g h e = e a m
then-then (Traps c) f g h e = refl
then-then Lacks f g h e = refl
then-then Clashes f g h e = refl

-- what a firing leaves, and what it sent
abbrev fired : Actor → ℕ → List Var × List (ℕ × List ℤ) → ℕ → Out Fired
fired actor to r j = Gives (record { state = record { at = to; vars = r.0 }; sent = sent_by_port actor.outs r.1 }) j

done-fired : (actor : Actor) (x : State) (u : List (List ℤ)) (to : ℕ) (act : Action)
    → and_then (done_by actor.outs act (calls_of actor.funs) (runs_of actor.procs (calls_of actor.funs)) (seen_by actor x u act) max_turns) (fired actor to) ≡ body_of actor x u to act
done-fired actor x u to act =
    then-then (declared act.locals (calls_of actor.funs) (seen_by actor x u act) max_turns) _ (fired actor to) _ (λ env m.
    then-then (exec_all act.body (calls_of actor.funs) (runs_of actor.procs (calls_of actor.funs)) env m) _ (fired actor to) _ (λ last k.
    then-then (outputs actor.outs act.outputs (calls_of actor.funs) last k) _ (fired actor to) _ (λ sent j. refl)))

module _ (base : Actor) (funs : List Fun) (procs : List Proc) (acts : List Action) where
  abbrev there : Actor
  there = record base { funs = funs; procs = procs; actions = acts }

  abbrev calls : Calls
  calls = calls_of base.funs

  abbrev others : Calls
  others = calls_of funs

  -- an action does in each state what another does
  pub record Alike (one other : Action) : Type 0 where
    pub tag : one.tag ≡ other.tag
    pub patterns : one.patterns ≡ other.patterns
    pub initialize : one.initialize ≡ other.initialize
    pub gives : (port : ℕ) → given_on port one.outputs ≡ given_on port other.outputs
    pub guards : (x : State) (u : List (List ℤ)) → is_actor_state base x ≡ true
        → guards_say one.guards calls (seen_by base x u one) ≡ guards_say other.guards others (seen_by base x u one)
    pub does : (x : State) (u : List (List ℤ)) → is_actor_state base x ≡ true
        → done_by base.outs one calls (runs_of base.procs calls) (seen_by base x u one) max_turns ≡ done_by base.outs other others (runs_of procs others) (seen_by base x u one) max_turns

  abbrev pub AreAlike : List Action → List Action → Type 0
  AreAlike [] [] = Unit {0}
  AreAlike (a ∷ xs) (b ∷ ys) = Alike a b × AreAlike xs ys
  AreAlike xs ys = ⊥

  abbrev BothAlike : Option Action → Option Action → Type 0
  BothAlike None None = Unit {0}
  BothAlike (Some a) (Some b) = Alike a b
  BothAlike o p = ⊥

  at-both : (xs ys : List Action) (k : ℕ) → AreAlike xs ys → BothAlike (slice_get xs k) (slice_get ys k)
  at-both [] [] k h = tt
  at-both [] (b ∷ ys) k h = absurd h
  at-both (a ∷ xs) [] k h = absurd h
  at-both (a ∷ xs) (b ∷ ys) zero h = h.0
  at-both (a ∷ xs) (b ∷ ys) (suc k) h = at-both xs ys k h.1

  pub as-many : (xs ys : List Action) → AreAlike xs ys → length xs ≡ length ys
  as-many [] [] h = refl
  as-many [] (b ∷ ys) h = absurd h
  as-many (a ∷ xs) [] h = absurd h
  as-many (a ∷ xs) (b ∷ ys) h = ap suc (as-many xs ys h.1)

  initialize-same : (xs ys : List Action) → AreAlike xs ys → has_initialize xs ≡ has_initialize ys
  initialize-same [] [] h = refl
  initialize-same [] (b ∷ ys) h = absurd h
  initialize-same (a ∷ xs) [] h = absurd h
  initialize-same (a ∷ xs) (b ∷ ys) h = ap (λ i. i || has_initialize xs) h.0.initialize ∙ ap (λ i. b.initialize || i) (initialize-same xs ys h.1)

  patterns-same : (u : List (List ℤ)) (qs : List Pattern) → pattern_vars base u qs ≡ pattern_vars there u qs
  patterns-same u [] = refl
  patterns-same u (q ∷ qs) = ap (λ xs. xs ++ pattern_vars_from (kind_of_port base.ins q.port) (tokens_on u q.port) q 0 q.names) (patterns-same u qs)

  seen-same : (x : State) (u : List (List ℤ)) (a b : Action) → a.patterns ≡ b.patterns → seen_by base x u a ≡ seen_by there x u b
  seen-same x u a b e =
      ap (λ qs. record { globals = x.vars; locals = pattern_vars base u qs }) e
      ∙ ap (λ xs. record { globals = x.vars; locals = xs }) (patterns-same u b.patterns)

  -- where an action of this kind and tag leads
  abbrev leads_by : ℕ → ℕ → Bool → List (List ℕ) → Option ℕ
  leads_by s a initialize tag =
      if s == fresh base then (if initialize then Some 0 else None)
      else if initialize then None
      else if is_empty tag then Some s
      else if is_empty base.states then Some s
      else target base.moves s a

  leads-same : (s k : ℕ) (a b : Action) → Alike a b → leads base s k a ≡ leads there s k b
  leads-same s k a b h = ap (λ i. leads_by s k i a.tag) h.initialize ∙ ap (λ t. leads_by s k b.initialize t) h.tag

  -- of an action, if there is one, what it takes from a port, gives on one, and where it leads
  abbrev taken_by : ℕ → Option Action → ℕ
  taken_by port o = elim o [ None ↦ 0 | Some act ↦ taken_on port act.patterns ]

  abbrev given_by : ℕ → Option Action → ℕ
  given_by port o = elim o [ None ↦ 0 | Some act ↦ given_on port act.outputs ]

  abbrev led_by : Actor → ℕ → ℕ → Option Action → Option ℕ
  led_by of s k o = elim o [ None ↦ None | Some act ↦ leads of s k act ]

  module _ (alike : AreAlike base.actions acts) where
    both : (k : ℕ) → BothAlike (slice_get base.actions k) (slice_get acts k)
    both k = at-both base.actions acts k alike

    need-same : (k port : ℕ) → need base k port ≡ need there k port
    need-same k port = go (slice_get base.actions k) (slice_get acts k) (both k)
      where
        go : (o p : Option Action) → BothAlike o p → taken_by port o ≡ taken_by port p
        go None None h = refl
        go None (Some b) h = absurd h
        go (Some a) None h = absurd h
        go (Some a) (Some b) h = ap (taken_on port) h.patterns

    give-same : (k port : ℕ) → give base k port ≡ give there k port
    give-same k port = go (slice_get base.actions k) (slice_get acts k) (both k)
      where
        go : (o p : Option Action) → BothAlike o p → given_by port o ≡ given_by port p
        go None None h = refl
        go None (Some b) h = absurd h
        go (Some a) None h = absurd h
        go (Some a) (Some b) h = h.gives port

    next-same : (s k : ℕ) → next base s k ≡ next there s k
    next-same s k = go (slice_get base.actions k) (slice_get acts k) (both k)
      where
        go : (o p : Option Action) → BothAlike o p → led_by base s k o ≡ led_by there s k p
        go None None h = refl
        go None (Some b) h = absurd h
        go (Some a) None h = absurd h
        go (Some a) (Some b) h = leads-same s k a b h

    tokens-on-same : (u : List (List ℤ)) (k : ℕ) (ports : List ℕ) → has_its_tokens_on base u k ports ≡ has_its_tokens_on there u k ports
    tokens-on-same u k [] = refl
    tokens-on-same u k (p ∷ ports) =
        ap (λ n. nat_le n (length (tokens_on u p)) && has_its_tokens_on base u k ports) (need-same k p)
        ∙ ap (λ b. nat_le (need there k p) (length (tokens_on u p)) && b) (tokens-on-same u k ports)

    tokens-same : (u : List (List ℤ)) (k : ℕ) → has_its_tokens base u k ≡ has_its_tokens there u k
    tokens-same u k = tokens-on-same u k (range_with_len 0 (length base.ins))

    -- eligible, and with its tokens
    abbrev may : Actor → State → List (List ℤ) → ℕ → Bool
    may of x u k = eligible of x.at k && has_its_tokens of u k

    may-same : (x : State) (u : List (List ℤ)) (k : ℕ) → may base x u k ≡ may there x u k
    may-same x u k =
        ap (λ o. is_some o && has_its_tokens base u k) (next-same x.at k) ∙ ap (λ b. eligible there x.at k && b) (tokens-same u k)

    abbrev ready_of : Actor → State → List (List ℤ) → Bool → Option Action → Guards
    ready_of of x u m o = elim o [ None ↦ AreFalse | Some act ↦ if m then guards_say act.guards (calls_of of.funs) (seen_by of x u act) else AreFalse ]

    pub state-same : (x : State) → is_actor_state base x ≡ is_actor_state there x
    state-same x = ap (λ i. (nat_lt x.at (states_of base) || (i && x.at == fresh base)) && are_vars_of base.vars x.vars) (initialize-same base.actions acts alike)

    module _ (x : State) (state : is_actor_state base x ≡ true) (u : List (List ℤ)) where
      ready-same : (k : ℕ) → readiness base x u k ≡ readiness there x u k
      ready-same k = ap (λ m. ready_of base x u m (slice_get base.actions k)) (may-same x u k) ∙ go (slice_get base.actions k) (slice_get acts k) (both k)
        where
          go : (o p : Option Action) → BothAlike o p → ready_of base x u (may there x u k) o ≡ ready_of there x u (may there x u k) p
          go None None h = refl
          go None (Some b) h = absurd h
          go (Some a) None h = absurd h
          go (Some a) (Some b) h =
              ap (λ g. if may there x u k then g else AreFalse) (h.guards x u state ∙ ap (guards_say b.guards others) (seen-same x u a b h.patterns))

      body-same : (k : ℕ) → body base x u k ≡ body there x u k
      body-same k = go (slice_get base.actions k) (slice_get acts k) (both k)
        where
          led : Option ℕ → Action → Actor → Out Fired
          led o act of = elim o [ None ↦ Clashes | Some to ↦ body_of of x u to act ]

          left_by : Actor → Option Action → Out Fired
          left_by of o = elim o [ None ↦ Clashes | Some act ↦ led (next of x.at k) act of ]

          step : (o : Option ℕ) (a b : Action) → Alike a b → led o a base ≡ led o b there
          step None a b h = refl
          step (Some to) a b h =
              sym (done-fired base x u to a)
              ∙ ap (λ o. and_then o (fired base to))
              (h.does x u state ∙ ap (λ env. done_by base.outs b others (runs_of procs others) env max_turns) (seen-same x u a b h.patterns))
              ∙ done-fired there x u to b

          go : (o p : Option Action) → BothAlike o p → left_by base o ≡ left_by there p
          go None None h = refl
          go None (Some b) h = absurd h
          go (Some a) None h = absurd h
          go (Some a) (Some b) h = ap (λ o. led o a base) (next-same x.at k) ∙ step (next there x.at k) a b h

      outranked-same : (above over : ℕ → ℕ → Bool) (k : ℕ) (line : List ℕ) → ((a b : ℕ) → above a b ≡ over a b) → outranked base above x u k line ≡ outranked there over x u k line
      outranked-same above over k [] e = refl
      outranked-same above over k (b ∷ ys) e =
          ap (λ g. (above b k && are_true g) || outranked base above x u k ys) (ready-same b)
          ∙ ap (λ i. (i && are_true (readiness there x u b)) || outranked base above x u k ys) (e b k)
          ∙ ap (λ c. (over b k && are_true (readiness there x u b)) || c) (outranked-same above over k ys e)

      abbrev chosen_by : Guards → ℕ → Choice → Choice
      chosen_by g a rest = elim g [ AreTrue ↦ Picks a | AreFalse ↦ rest | AreTrapping c ↦ Faults a c ]

      choice-same : (line : List ℕ) → choice_among base x u line ≡ choice_among there x u line
      choice-same [] = refl
      choice-same (a ∷ line) = ap (λ g. chosen_by g a (choice_among base x u line)) (ready-same a) ∙ ap (chosen_by (readiness there x u a) a) (choice-same line)

      exposed-same : (k : ℕ) (g : Guards) → effect_of_exposed base x u k g ≡ effect_of_exposed there x u k g
      exposed-same k AreTrue = ap effect_of_body (body-same k)
      exposed-same k AreFalse = refl
      exposed-same k (AreTrapping c) = refl

      module _ (p : Priorities base) (q : Priorities there) (above : (a b : ℕ) → p.above a b ≡ q.above a b) (line : p.line ≡ q.line) where
        is-exposed-same : (k : ℕ) → is_exposed base p x u k ≡ is_exposed there q x u k
        is-exposed-same k =
            ap (λ o. is_some o && has_its_tokens base u k && not (outranked base p.above x u k p.line)) (next-same x.at k)
            ∙ ap (λ b. eligible there x.at k && b && not (outranked base p.above x u k p.line)) (tokens-same u k)
            ∙ ap (λ b. eligible there x.at k && has_its_tokens there u k && not b)
            (outranked-same p.above q.above k p.line above ∙ ap (outranked there q.above x u k) line)

        effect-same : (k : ℕ) → effect base p x u k ≡ effect there q x u k
        effect-same k =
            ap (λ b. if b then effect_of_exposed base x u k (readiness base x u k) else None) (is-exposed-same k)
            ∙ ap (λ g. if is_exposed there q x u k then effect_of_exposed base x u k g else None) (ready-same k)
            ∙ ap (λ e. if is_exposed there q x u k then e else None) (exposed-same k (readiness there x u k))

        chooses-same : choice base p x u ≡ choice there q x u
        chooses-same = choice-same p.line ∙ ap (choice_among there x u) line

    -- only in states of the actor something is done
    idle : {A : Type 0} (b : Bool) (f g none : A) → (b ≡ true → f ≡ g) → (if b then f else none) ≡ (if b then g else none)
    idle true f g none h = h refl
    idle false f g none h = refl

    pub behave-the-same : (p : Priorities base) (q : Priorities there) → ((a b : ℕ) → p.above a b ≡ q.above a b) → p.line ≡ q.line → IsSameBehaviour (behaviour there q) (behaviour base p)
    behave-the-same p q above line = record {
      start = ap (λ i. record { at = if i then fresh base else 0; vars = (behaviour base p).start.vars }) (initialize-same base.actions acts alike);
      ins = refl;
      outs = refl;
      actions = as-many base.actions acts alike;
      need = need-same;
      give = give-same;
      effect = λ x u a.
          idle (is_actor_state base x) (effect base p x (kept_tokens base u) a) (effect there q x (kept_tokens base u) a) None (λ h. effect-same x h (kept_tokens base u) p q above line a)
          ∙ ap (λ b. if b then effect there q x (kept_tokens base u) a else None) (state-same x);
      choice = λ x u.
          idle (is_actor_state base x) (choice base p x (kept_tokens base u)) (choice there q x (kept_tokens base u)) Waits (λ h. chooses-same x h (kept_tokens base u) p q above line)
          ∙ ap (λ b. if b then choice there q x (kept_tokens base u) else Waits) (state-same x);
    }
