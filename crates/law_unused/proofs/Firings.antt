-- An actor of which only what it uses is kept behaves as with all that is declared.
use Rattle.std.proofs.Common.{◌≡◌, ℕ, ℤ, Bool, true, false, List, [], ◌∷◌, ◌++◌, map, length, refl, sym, ap, ◌∙◌, Option, None, Some}
use Rattle.std.specs.Prelude.{if◌then◌else◌, ◌&&◌, ◌||◌, not, nat_le, option_map, slice_get}
use Rattle.std.specs.List.{range_with_len}
use Rattle.std.specs.Str.{bytes_eq}
use Rattle.rvc_base.specs.Behaviour.{Choice, Waits, Picks, Faults}
use Rattle.rvc_base.specs.Storing.{conv}
use Rattle.rvc_base.specs.Turns.{max_turns}
use Rattle.cal_ast.specs.Tree.{Tree}
use Rattle.cal_model.specs.Actor.{Action, Actor, Held, Output, Pattern, Port}
use Rattle.cal_model.specs.ActorState.{are_vars_of, is_of, is_same_kept, is_same_value, is_state_of, is_var_of, kept_in, kept_tokens}
use Rattle.cal_model.specs.Call.{calls_of, declared}
use Rattle.cal_model.specs.Eligible.{eligible, next}
use Rattle.cal_model.specs.Env.{Env, Var, variable}
use Rattle.cal_model.specs.Expression.{Calls, eval, eval_all}
use Rattle.cal_model.specs.Firing.{Fired, behaviour, body, body_of, effect, effect_of_body, effect_of_exposed, outputs, sent_numbers}
use Rattle.cal_model.specs.Outcome.{Out, Gives, Traps, Lacks, Clashes, and_then}
use Rattle.cal_model.specs.Rates.{need}
use Rattle.cal_model.specs.Selection.{AreFalse, AreTrapping, AreTrue, Guards, Priorities, State, are_true, choice, choice_among, first_vars, guard_then, guards_say, has_its_tokens, has_its_tokens_on, is_exposed, kind_of_port, outranked, pattern_vars, pattern_vars_from, readiness, seen_by, tokens_on}
use Rattle.cal_model.specs.Sound.{Each}
use Rattle.cal_model.specs.Statement.{exec_all, runs_of}
use Rattle.cal_model.proofs.KindNames.{same-text}
use Rattle.cal_check.proofs.Lists.{each-at}
use Rattle.cal_check.proofs.SameCalls.{then-same}
use Rattle.law_unused.specs.Behaving.{ShowsTheSame, IsStateOf, narrowed_behaviour, narrowed_effect, same_order}
use Rattle.law_unused.specs.Closed.{ActionWithin, IsClosed, Within}
use Rattle.law_unused.specs.Keeping.{DoTheSame, GiveTheSame, Keep, mapped, narrowed, narrowed_actor, narrowed_state, only, only_held}
use Rattle.law_unused.proofs.Narrowed.{only-in, only-out, then-kept, then-mapped}
use Rattle.law_unused.proofs.Routines.{calls-kept, declared-kept, runs-kept}
use Rattle.law_unused.proofs.Statements.{all-kept, eval-kept, statements-kept}

-- ---- guards and outputs

module _ (keep : Keep) (few all : Calls) (give : GiveTheSame keep few all) where
  guards-kept : (gs : List Tree) (env : Env) → Each (Within keep) gs → guards_say gs few (narrowed keep env) ≡ guards_say gs all env
  guards-kept [] env u = refl
  guards-kept (g ∷ gs) env u =
      ap (λ o. guard_then o (guards_say gs few (narrowed keep env))) (eval-kept keep few all give g env max_turns u.0)
      ∙ ap (guard_then (eval g all env max_turns)) (guards-kept gs env u.1)

  outputs-kept : (ports : List Port) (os : List Output) (env : Env) (left : ℕ) → Each (λ o. Within keep o.values) os
      → outputs ports os few (narrowed keep env) left ≡ outputs ports os all env left
  outputs-kept ports [] env left u = refl
  outputs-kept ports (o ∷ os) env left u =
      then-same (eval_all o.values few (narrowed keep env) left) (eval_all o.values all env left) _ _ (all-kept keep few all give o.values env left u.0) (λ vs m.
      ap (λ p. and_then p (λ rest k. Gives ((
        o.port,
        map (conv (kind_of_port ports o.port)) (sent_numbers o.repeat vs),
      ) ∷ rest) k)) (outputs-kept ports os env m u.1))

-- ---- an actor

module _ (keep : Keep) (actor : Actor) where
  abbrev part : Actor
  part = narrowed_actor keep actor

  patterns-same : (u : List (List ℤ)) (qs : List Pattern) → pattern_vars part u qs ≡ pattern_vars actor u qs
  patterns-same u [] = refl
  patterns-same u (q ∷ qs) =
      ap (λ xs. xs ++ pattern_vars_from (kind_of_port actor.ins q.port) (tokens_on u q.port) q 0 q.names) (patterns-same u qs)

  seen-same : (x : State) (u : List (List ℤ)) (act : Action) → seen_by part (narrowed_state keep x) u act ≡ narrowed keep (seen_by actor x u act)
  seen-same x u act = ap (λ xs. record { globals = only keep x.vars; locals = xs }) (patterns-same u act.patterns)

  tokens-on-same : (u : List (List ℤ)) (a : ℕ) (ports : List ℕ) → has_its_tokens_on part u a ports ≡ has_its_tokens_on actor u a ports
  tokens-on-same u a [] = refl
  tokens-on-same u a (p ∷ ports) = ap (λ b. nat_le (need actor a p) (length (tokens_on u p)) && b) (tokens-on-same u a ports)

  tokens-same : (u : List (List ℤ)) (a : ℕ) → has_its_tokens part u a ≡ has_its_tokens actor u a
  tokens-same u a = tokens-on-same u a (range_with_len 0 (length actor.ins))

  -- ---- states

  starts-kept : (hs : List Held) → first_vars (only_held keep hs) ≡ only keep (first_vars hs)
  starts-kept [] = refl
  starts-kept (h ∷ hs) = go (keep h.name) refl (starts-kept hs)
    where
      go : (b : Bool) → keep h.name ≡ b → first_vars (only_held keep hs) ≡ only keep (first_vars hs)
          → first_vars (only_held keep (h ∷ hs)) ≡ only keep (first_vars (h ∷ hs))
      go true e rest =
          ap (λ b. first_vars (if b then h ∷ only_held keep hs else only_held keep hs)) e
          ∙ ap (λ xs. variable h.name h.shape h.changes h.value ∷ xs) rest
          ∙ sym (only-in keep (variable h.name h.shape h.changes h.value) (first_vars hs) e)
      go false e rest =
          ap (λ b. first_vars (if b then h ∷ only_held keep hs else only_held keep hs)) e
          ∙ rest
          ∙ sym (only-out keep (variable h.name h.shape h.changes h.value) (first_vars hs) e)

  both-true : (a b : Bool) → (a && b) ≡ true → (a ≡ true) × (b ≡ true)
  both-true true b h = (refl, h)
  both-true false b h = absurd (cc)

  and-true : (a b : Bool) → a ≡ true → b ≡ true → (a && b) ≡ true
  and-true true b h i = i
  and-true false b h i = h

  vars-kept : (hs : List Held) (xs : List Var) → are_vars_of hs xs ≡ true → are_vars_of (only_held keep hs) (only keep xs) ≡ true
  vars-kept [] [] h = refl
  vars-kept [] (x ∷ xs) h = absurd (cc)
  vars-kept (h ∷ hs) [] e = absurd (cc)
  vars-kept (h ∷ hs) (x ∷ xs) e =
      let two = both-true (is_var_of h x) (are_vars_of hs xs) e in
      go (keep h.name) refl two.0 (vars-kept hs xs two.1)
    where
      name-same : is_var_of h x ≡ true → x.name ≡ h.name
      name-same i = same-text x.name h.name (first (bytes_eq x.name h.name) (is_same_kept x.kept (kept_in h)) (is_of h.shape x.value) (h.changes || is_same_value x.value h.value) i)
        where
          first : (a b c d : Bool) → (a && b && c && d) ≡ true → a ≡ true
          first true b c d i = refl
          first false b c d i = absurd (cc)

      go : (b : Bool) → keep h.name ≡ b → is_var_of h x ≡ true → are_vars_of (only_held keep hs) (only keep xs) ≡ true
          → are_vars_of (only_held keep (h ∷ hs)) (only keep (x ∷ xs)) ≡ true
      go true i is rest =
          ap (λ b. are_vars_of (if b then h ∷ only_held keep hs else only_held keep hs) (only keep (x ∷ xs))) i
          ∙ ap (are_vars_of (h ∷ only_held keep hs)) (only-in keep x xs (ap keep (name-same is) ∙ i))
          ∙ and-true (is_var_of h x) (are_vars_of (only_held keep hs) (only keep xs)) is rest
      go false i is rest =
          ap (λ b. are_vars_of (if b then h ∷ only_held keep hs else only_held keep hs) (only keep (x ∷ xs))) i
          ∙ ap (are_vars_of (only_held keep hs)) (only-out keep x xs (ap keep (name-same is) ∙ i))
          ∙ rest

  pub states-kept : (x : State) → IsStateOf actor x → IsStateOf part (narrowed_state keep x)
  states-kept x h =
      let two = both-true (is_state_of actor x.at) (are_vars_of actor.vars x.vars) h in
      and-true (is_state_of actor x.at) (are_vars_of (only_held keep actor.vars) (only keep x.vars)) two.0 (vars-kept actor.vars x.vars two.1)

  -- ---- firings

  module _ (closed : IsClosed keep actor) where
    abbrev few : Calls
    few = calls_of part.funs

    abbrev all : Calls
    all = calls_of actor.funs

    give : GiveTheSame keep few all
    give = calls-kept keep actor.funs closed.funs closed.funs_end

    do_ : DoTheSame keep (runs_of actor.procs few) (runs_of actor.procs all)
    do_ = runs-kept keep few all give actor.procs closed.procs

    within : (a : ℕ) (act : Action) → slice_get actor.actions a ≡ Some act → ActionWithin keep act
    within a act e = each-at (ActionWithin keep) actor.actions a act closed.actions e

    -- what an action's guards say, if there is one
    abbrev ready_of : Actor → State → List (List ℤ) → ℕ → Option Action → Guards
    ready_of of x u a o = elim o [
      | None ↦ AreFalse
      | Some act ↦ if eligible of x.at a && has_its_tokens of u a
          then guards_say act.guards (calls_of of.funs) (seen_by of x u act) else AreFalse
    ]

    ready-kept : (x : State) (u : List (List ℤ)) (a : ℕ) → readiness part (narrowed_state keep x) u a ≡ readiness actor x u a
    ready-kept x u a = go (slice_get actor.actions a) (λ act e. within a act e)
      where
        go : (o : Option Action) → ((act : Action) → o ≡ Some act → ActionWithin keep act) → ready_of part (narrowed_state keep x) u a o ≡ ready_of actor x u a o
        go None h = refl
        go (Some act) h =
            ap (λ b. if eligible actor x.at a && b then guards_say act.guards few (seen_by part (narrowed_state keep x) u act) else AreFalse) (tokens-same u a)
            ∙ ap (λ g. if eligible actor x.at a && has_its_tokens actor u a then g else AreFalse)
            (ap (guards_say act.guards few) (seen-same x u act) ∙ guards-kept keep few all give act.guards (seen_by actor x u act) (h act refl).guards)

    outranked-kept : (above : ℕ → ℕ → Bool) (x : State) (u : List (List ℤ)) (a : ℕ) (bs : List ℕ)
        → outranked part above (narrowed_state keep x) u a bs ≡ outranked actor above x u a bs
    outranked-kept above x u a [] = refl
    outranked-kept above x u a (b ∷ bs) =
        ap (λ g. (above b a && are_true g) || outranked part above (narrowed_state keep x) u a bs) (ready-kept x u b)
        ∙ ap (λ c. (above b a && are_true (readiness actor x u b)) || c) (outranked-kept above x u a bs)

    abbrev chosen_by : Guards → ℕ → Choice → Choice
    chosen_by g a rest = elim g [ AreTrue ↦ Picks a | AreFalse ↦ rest | AreTrapping c ↦ Faults a c ]

    choice-kept : (x : State) (u : List (List ℤ)) (line : List ℕ) → choice_among part (narrowed_state keep x) u line ≡ choice_among actor x u line
    choice-kept x u [] = refl
    choice-kept x u (a ∷ line) =
        ap (λ g. chosen_by g a (choice_among part (narrowed_state keep x) u line)) (ready-kept x u a) ∙ ap (chosen_by (readiness actor x u a) a) (choice-kept x u line)

    abbrev left_of : Fired → Fired
    left_of f = record { state = narrowed_state keep f.state; sent = f.sent }

    fired-kept : (x : State) (u : List (List ℤ)) (to : ℕ) (act : Action) → ActionWithin keep act → body_of part (narrowed_state keep x) u to act ≡ mapped left_of (body_of actor x u to act)
    fired-kept x u to act h =
        then-mapped (narrowed keep) left_of (declared act.locals all (seen_by actor x u act) max_turns) (declared act.locals few (seen_by part (narrowed_state keep x) u act) max_turns) _ _
        (ap (λ env. declared act.locals few env max_turns) (seen-same x u act) ∙ declared-kept keep few all give act.locals (seen_by actor x u act) max_turns h.locals) (λ env m.
        then-mapped (narrowed keep) left_of (exec_all act.body all (runs_of actor.procs all) env m) (exec_all act.body few (runs_of actor.procs few) (narrowed keep env) m) _ _
        (statements-kept keep few all give (runs_of actor.procs few) (runs_of actor.procs all) do_ act.body env m h.body) (λ last k.
        then-kept left_of (outputs actor.outs act.outputs all last k) (outputs actor.outs act.outputs few (narrowed keep last) k) _ _
        (outputs-kept keep few all give actor.outs act.outputs last k h.outputs) (λ sent j. refl)))

    abbrev body_by : Actor → State → List (List ℤ) → ℕ → Option Action → Out Fired
    body_by of x u a o = elim o [
      | None ↦ Clashes
      | Some act ↦ elim (next of x.at a) [ None ↦ Clashes | Some to ↦ body_of of x u to act ]
    ]

    body-kept : (x : State) (u : List (List ℤ)) (a : ℕ) → body part (narrowed_state keep x) u a ≡ mapped left_of (body actor x u a)
    body-kept x u a = go (slice_get actor.actions a) (λ act e. within a act e)
      where
        led : Option ℕ → Action → Actor → State → Out Fired
        led o act of y = elim o [ None ↦ Clashes | Some to ↦ body_of of y u to act ]

        to-next : (o : Option ℕ) (act : Action) → ActionWithin keep act → led o act part (narrowed_state keep x) ≡ mapped left_of (led o act actor x)
        to-next None act h = refl
        to-next (Some to) act h = fired-kept x u to act h

        go : (o : Option Action) → ((act : Action) → o ≡ Some act → ActionWithin keep act) → body_by part (narrowed_state keep x) u a o ≡ mapped left_of (body_by actor x u a o)
        go None h = refl
        go (Some act) h = to-next (next actor x.at a) act (h act refl)

    effect-of-body : (o : Out Fired) → effect_of_body (mapped left_of o) ≡ option_map (narrowed_effect keep) (effect_of_body o)
    effect-of-body (Gives f left) = refl
    effect-of-body (Traps c) = refl
    effect-of-body Lacks = refl
    effect-of-body Clashes = refl

    effect-exposed : (x : State) (u : List (List ℤ)) (a : ℕ) (g : Guards)
        → effect_of_exposed part (narrowed_state keep x) u a g ≡ option_map (narrowed_effect keep) (effect_of_exposed actor x u a g)
    effect-exposed x u a AreTrue = ap effect_of_body (body-kept x u a) ∙ effect-of-body (body actor x u a)
    effect-exposed x u a AreFalse = refl
    effect-exposed x u a (AreTrapping c) = refl

    module _ (p : Priorities actor) where
      exposed-kept : (x : State) (u : List (List ℤ)) (a : ℕ) → is_exposed part (same_order keep actor p) (narrowed_state keep x) u a ≡ is_exposed actor p x u a
      exposed-kept x u a =
          ap (λ b. eligible actor x.at a && b && not (outranked part p.above (narrowed_state keep x) u a p.line)) (tokens-same u a)
          ∙ ap (λ b. eligible actor x.at a && has_its_tokens actor u a && not b) (outranked-kept p.above x u a p.line)

      effect-kept : (x : State) (u : List (List ℤ)) (a : ℕ)
          → effect part (same_order keep actor p) (narrowed_state keep x) u a ≡ option_map (narrowed_effect keep) (effect actor p x u a)
      effect-kept x u a =
          ap (λ b. if b then effect_of_exposed part (narrowed_state keep x) u a (readiness part (narrowed_state keep x) u a) else None) (exposed-kept x u a)
          ∙ ap (λ g. if is_exposed actor p x u a then effect_of_exposed part (narrowed_state keep x) u a g else None) (ready-kept x u a)
          ∙ go (is_exposed actor p x u a)
        where
          go : (b : Bool) → (if b then effect_of_exposed part (narrowed_state keep x) u a (readiness actor x u a) else None)
              ≡ option_map (narrowed_effect keep) (if b then effect_of_exposed actor x u a (readiness actor x u a) else None)
          go true = effect-exposed x u a (readiness actor x u a)
          go false = refl

      pub shows-the-same : ShowsTheSame keep (IsStateOf actor) (narrowed_behaviour keep actor p) (behaviour actor p)
      shows-the-same = record {
        start = ap (λ xs. record { at = (behaviour actor p).start.at; vars = xs }) (starts-kept actor.vars);
        ins = refl;
        outs = refl;
        actions = refl;
        need = λ a port. refl;
        give = λ a port. refl;
        effect = λ x u a h.
            ap (λ b. if b then effect part (same_order keep actor p) (narrowed_state keep x) (kept_tokens actor u) a else None) (states-kept x h)
            ∙ effect-kept x (kept_tokens actor u) a
            ∙ sym (ap (λ b. option_map (narrowed_effect keep) (if b then effect actor p x (kept_tokens actor u) a else None)) h);
        choice = λ x u h.
            ap (λ b. if b then choice part (same_order keep actor p) (narrowed_state keep x) (kept_tokens actor u) else Waits) (states-kept x h)
            ∙ choice-kept x (kept_tokens actor u) p.line
            ∙ sym (ap (λ b. if b then choice actor p x (kept_tokens actor u) else Waits) h);
      }
