-- What an actor does depends only on as many tokens of each port as some action needs there.
use Rattle.std.proofs.Common.{◌≡◌, ℕ, zero, suc, ◌+◌, ◌*◌, ◌<◌, ◌≤◌, ℤ, pos, Bool, true, false, ◌&&◌, ◌||◌, not, List, [], ◌∷◌, ◌++◌, map, length, take, min, refl, sym, ap, subst, ◌∙◌, arith, Contains, Option, None, Some}
use Rattle.std.specs.Prelude.{if◌then◌else◌, ◌==◌, nat_le, slice_get, slice_index_or}
use Rattle.std.specs.List.{range_with_len}
use Rattle.std.proofs.lemmas.List.{get_or-take, length-take}
use Rattle.rvc_base.specs.declared.scalar.Scalar.{Scalar}
use Rattle.rvc_base.specs.Storing.{conv}
use Rattle.rvc_base.specs.Behaviour.{Picks, Faults}
use Rattle.cal_model.specs.Value.{Items, Cons, of_number}
use Rattle.cal_model.specs.Env.{Env}
use Rattle.cal_model.specs.Outcome.{Out, Gives, Clashes, and_then}
use Rattle.cal_model.specs.Actor.{Port, Pattern, Action, Actor}
use Rattle.cal_model.specs.Call.{calls_of, declared}
use Rattle.cal_model.specs.Statement.{exec_all, runs_of}
use Rattle.rvc_base.specs.Turns.{max_turns}
use Rattle.cal_model.specs.Eligible.{eligible, next}
use Rattle.cal_model.specs.Rates.{parts_times, taken_on, need}
use Rattle.cal_model.specs.Selection.{State, Priorities, kind_of_port, tokens_on, has_its_tokens_on, has_its_tokens, token, tokens_from, pattern_value, pattern_vars_from, pattern_vars, seen_by, Guards, AreTrue, AreFalse, AreTrapping, guards_say, readiness, are_true, outranked, is_exposed, choice_among, choice}
use Rattle.cal_model.specs.ActorState.{kept_on, kept_tokens}
use Rattle.cal_model.specs.Firing.{Fired, outputs, sent_by_port, body_of, body, effect_of_body, effect_of_exposed, effect}
use Rattle.cal_model.specs.Sound.{Each, AreDistinct, IsPattern, IsSound}
use Rattle.cal_model.proofs.KeptByFirings.{action-at}

-- ---- tokens as they are stored

take-map : (f : ℤ → ℤ) (n : ℕ) (us : List ℤ) → take n (map f us) ≡ map f (take n us)
take-map f zero us = refl
take-map f (suc n) [] = refl
take-map f (suc n) (z ∷ us) = ap (λ ys. f z ∷ ys) (take-map f n us)

kept-at : (ps : List Port) (u : List (List ℤ)) (k : ℕ) → k < length ps → tokens_on (kept_on ps u) k ≡ map (conv (kind_of_port ps k)) (tokens_on u k)
kept-at [] u k h = absurd (omega arith)
kept-at (p ∷ ps) [] zero h = refl
kept-at (p ∷ ps) [] (suc k) h = kept-at ps [] k (omega arith)
kept-at (p ∷ ps) (us ∷ u) zero h = refl
kept-at (p ∷ ps) (us ∷ u) (suc k) h = kept-at ps u k (omega arith)

-- on each port as many tokens are the same, or missing on both sides
abbrev pub Agree : Actor → (ℕ → ℕ) → List (List ℤ) → List (List ℤ) → Type 0
Agree actor n u v = (p : ℕ) → p < length actor.ins → take (n p) (tokens_on u p) ≡ take (n p) (tokens_on v p)

pub kept-agree : (actor : Actor) (n : ℕ → ℕ) (u v : List (List ℤ)) → Agree actor n u v → Agree actor n (kept_tokens actor u) (kept_tokens actor v)
kept-agree actor n u v h p i =
    let t : Scalar = kind_of_port actor.ins p in
    ap (take (n p)) (kept-at actor.ins u p i) ∙ take-map (conv t) (n p) (tokens_on u p) ∙ ap (map (conv t)) (h p i)
    ∙ sym (take-map (conv t) (n p) (tokens_on v p)) ∙ sym (ap (take (n p)) (kept-at actor.ins v p i))

token-same : (n : ℕ) (us vs : List ℤ) (k : ℕ) → take n us ≡ take n vs → k < n → slice_index_or us k (pos 0) ≡ slice_index_or vs k (pos 0)
token-same n us vs k e h = sym (get_or-take n us k (pos 0) h) ∙ ap (λ xs. slice_index_or xs k (pos 0)) e ∙ get_or-take n vs k (pos 0) h

le-min : (k n m : ℕ) → k ≤ n → nat_le k (min n m) ≡ nat_le k m
le-min k n m h = grind arith

enough-same : (n k : ℕ) (us vs : List ℤ) → take n us ≡ take n vs → k ≤ n → nat_le k (length us) ≡ nat_le k (length vs)
enough-same n k us vs e h =
    let l : min n (length us) ≡ min n (length vs) = sym (length-take n us) ∙ ap length e ∙ length-take n vs in
    sym (le-min k n (length us) h) ∙ ap (nat_le k) l ∙ le-min k n (length vs) h

-- ---- what an action needs

same-itself : (n : ℕ) → (n == n) ≡ true
same-itself n = grind arith

is-same : (n m : ℕ) → (n == m) ≡ true → n ≡ m
is-same n m h = grind arith

out-of-rest : {A : Type 0} (x y : A) (xs : List A) → ¬ Contains (y ∷ xs) x → ¬ Contains xs x
out-of-rest x y xs h (k, i, e) = h (suc k, (let j : suc k < suc (length xs) = omega arith in j), e)

none-taken : (qs : List Pattern) (port : ℕ) → ¬ Contains (map (λ q. q.port) qs) port → taken_on port qs ≡ 0
none-taken [] port h = refl
none-taken (q ∷ qs) port h = go (q.port == port) refl (none-taken qs port (out-of-rest port q.port (map (λ o. o.port) qs) h))
  where
    go : (b : Bool) → (q.port == port) ≡ b → taken_on port qs ≡ 0 → (if b then parts_times (length q.names) q.repeat else taken_on port qs) ≡ 0
    go true e ih = absurd (h (0, (let j : 0 < suc (length (map (λ o. o.port) qs)) = omega arith in j), is-same q.port port e))
    go false e ih = ih

-- a pattern takes no more than its action needs on its port
each-taken : (n : ℕ → ℕ) (qs : List Pattern) → AreDistinct (map (λ q. q.port) qs) → ((port : ℕ) → taken_on port qs ≤ n port) → Each (λ q. parts_times (length q.names) q.repeat ≤ n q.port) qs
each-taken n [] d h = tt
each-taken n (q ∷ qs) d h = (first (h q.port), each-taken n qs d.1 (λ port. rest port (q.port == port) refl (h port)))
  where
    first : taken_on q.port (q ∷ qs) ≤ n q.port → parts_times (length q.names) q.repeat ≤ n q.port
    first i = subst (λ m. m ≤ n q.port) (ap (λ b. if b then parts_times (length q.names) q.repeat else taken_on q.port qs) (same-itself q.port)) i

    rest : (port : ℕ) (b : Bool) → (q.port == port) ≡ b → (if b then parts_times (length q.names) q.repeat else taken_on port qs) ≤ n port → taken_on port qs ≤ n port
    rest port true e i =
        let none : taken_on port qs ≡ 0 = none-taken qs port (subst (λ k. ¬ Contains (map (λ o. o.port) qs) k) (is-same q.port port e) d.0) in
        omega arith
    rest port false e i = i

-- ---- pattern variables

abbrev SameBelow : ℕ → List ℤ → List ℤ → Type 0
SameBelow m us vs = (k : ℕ) → k < m → slice_index_or us k (pos 0) ≡ slice_index_or vs k (pos 0)

tokens-same : (t : Scalar) (us vs : List ℤ) (m : ℕ) → SameBelow m us vs → (n k far : ℕ) → k + n * far < m + far → tokens_from t us n k far ≡ tokens_from t vs n k far
tokens-same t us vs m h zero k far i = refl
tokens-same t us vs m h (suc n) k far i =
    let one : suc n * far ≡ far + n * far = omega arith in
    let here : k + n * far < m = omega arith in
    ap (λ z. Cons (of_number t z) (tokens_from t us n (k + far) far)) (h k (omega arith))
    ∙ ap (λ ws. Cons (token t vs k) ws) (tokens-same t us vs m h n (k + far) far (omega arith))

value-same : (t : Scalar) (us vs : List ℤ) (repeat : Option ℕ) (names k : ℕ) → SameBelow (parts_times names repeat) us vs → k < names → pattern_value t us repeat names k ≡ pattern_value t vs repeat names k
value-same t us vs None names k h i = ap (of_number t) (h k (let l : k < names * 1 = omega arith in l))
value-same t us vs (Some n) names k h i =
    let turned : names * n ≡ n * names = omega arith in
    ap Items (tokens-same t us vs (names * n) h n k names (omega arith))

vars-same : (t : Scalar) (us vs : List ℤ) (q : Pattern) (k : ℕ) (names : List (List ℕ)) → SameBelow (parts_times (length q.names) q.repeat) us vs → k + length names ≡ length q.names
    → pattern_vars_from t us q k names ≡ pattern_vars_from t vs q k names
vars-same t us vs q k [] h e = refl
vars-same t us vs q k (name ∷ names) h e =
    let here : k < length q.names = omega arith in
    ap (λ xs. xs ++ record { name = name; value = pattern_value t us q.repeat (length q.names) k; kept = None } ∷ []) (vars-same t us vs q (suc k) names h (omega arith))
    ∙ ap (λ w. pattern_vars_from t vs q (suc k) names ++ record { name = name; value = w; kept = None } ∷ []) (value-same t us vs q.repeat (length q.names) k h here)

-- the body of an action over what it sees
abbrev body_from : Actor → State → ℕ → Action → Env → Out Fired
body_from actor x to act entry =
    let calls = calls_of actor.funs in
    and_then (declared act.locals calls entry max_turns) (λ env m.
    and_then (exec_all act.body calls (runs_of actor.procs calls) env m) (λ last k.
    and_then (outputs actor.outs act.outputs calls last k) (λ sent j.
    Gives (record { state = record { at = to; vars = last.globals }; sent = sent_by_port actor.outs sent }) j)))

module _ (actor : Actor) (n : ℕ → ℕ) (u v : List (List ℤ)) (agree : Agree actor n u v) where
  patterns-same : (qs : List Pattern) → Each (IsPattern actor) qs → Each (λ q. parts_times (length q.names) q.repeat ≤ n q.port) qs → pattern_vars actor u qs ≡ pattern_vars actor v qs
  patterns-same [] h few = refl
  patterns-same (q ∷ qs) h few =
      let t : Scalar = kind_of_port actor.ins q.port in
      let less : parts_times (length q.names) q.repeat ≤ n q.port = few.0 in
      let here : SameBelow (parts_times (length q.names) q.repeat) (tokens_on u q.port) (tokens_on v q.port) = λ k i. token-same (n q.port) (tokens_on u q.port) (tokens_on v q.port) k (agree q.port h.0.port) (omega arith) in
      ap (λ xs. xs ++ pattern_vars_from t (tokens_on u q.port) q 0 q.names) (patterns-same qs h.1 few.1)
      ∙ ap (λ xs. pattern_vars actor v qs ++ xs) (vars-same t (tokens_on u q.port) (tokens_on v q.port) q 0 q.names here (let e : 0 + length q.names ≡ length q.names = omega arith in e))

  -- what one action sees, if as many tokens agree as it needs
  module _ (sound : IsSound actor) (a : ℕ) (few : (p : ℕ) → need actor a p ≤ n p) where
    tokens-on-same : (k s : ℕ) → s + k ≤ length actor.ins → has_its_tokens_on actor u a (range_with_len s k) ≡ has_its_tokens_on actor v a (range_with_len s k)
    tokens-on-same zero s h = refl
    tokens-on-same (suc k) s h =
        let here : s < length actor.ins = omega arith in
        ap (λ b. b && has_its_tokens_on actor u a (range_with_len (s + 1) k)) (enough-same (n s) (need actor a s) (tokens_on u s) (tokens_on v s) (agree s here) (few s))
        ∙ ap (λ b. nat_le (need actor a s) (length (tokens_on v s)) && b) (tokens-on-same k (s + 1) (omega arith))

    pub has-same : has_its_tokens actor u a ≡ has_its_tokens actor v a
    has-same = tokens-on-same (length actor.ins) 0 (omega arith)

    pub seen-same : (x : State) (act : Action) → slice_get actor.actions a ≡ Some act → seen_by actor x u act ≡ seen_by actor x v act
    seen-same x act e =
        let good = action-at actor actor.actions a act sound.actions e in
        let each = each-taken n act.patterns good.ports_in (λ port. subst (λ o. elim o [ None ↦ 0 | Some one ↦ taken_on port one.patterns ] ≤ n port) e (few port)) in
        ap (λ xs. record { globals = x.vars; locals = xs }) (patterns-same act.patterns good.patterns each)

    pub ready-same : (x : State) → readiness actor x u a ≡ readiness actor x v a
    ready-same x = go (slice_get actor.actions a) refl
      where
        go : (o : Option Action) → slice_get actor.actions a ≡ o
            → ◌≡◌ {A = Guards}
            (elim o [ None ↦ AreFalse | Some act ↦ if eligible actor x.at a && has_its_tokens actor u a then guards_say act.guards (calls_of actor.funs) (seen_by actor x u act) else AreFalse ])
            (elim o [ None ↦ AreFalse | Some act ↦ if eligible actor x.at a && has_its_tokens actor v a then guards_say act.guards (calls_of actor.funs) (seen_by actor x v act) else AreFalse ])
        go None e = refl
        go (Some act) e =
            ap (λ b. if eligible actor x.at a && b then guards_say act.guards (calls_of actor.funs) (seen_by actor x u act) else AreFalse) has-same
            ∙ ap (λ env. if eligible actor x.at a && has_its_tokens actor v a then guards_say act.guards (calls_of actor.funs) env else AreFalse) (seen-same x act e)

    pub body-same : (x : State) → body actor x u a ≡ body actor x v a
    body-same x = go (slice_get actor.actions a) refl (next actor x.at a)
      where
        go : (o : Option Action) → slice_get actor.actions a ≡ o → (to : Option ℕ)
            → ◌≡◌ {A = Out Fired}
            (elim o [ None ↦ Clashes | Some act ↦ elim to [ None ↦ Clashes | Some s ↦ body_of actor x u s act ] ])
            (elim o [ None ↦ Clashes | Some act ↦ elim to [ None ↦ Clashes | Some s ↦ body_of actor x v s act ] ])
        go None e to = refl
        go (Some act) e None = refl
        go (Some act) e (Some s) = ap (λ env. body_from actor x s act env) (seen-same x act e)

  -- .. and what all see
  module _ (sound : IsSound actor) (needed : (a p : ℕ) → need actor a p ≤ n p) where
    outranked-same : (above : ℕ → ℕ → Bool) (x : State) (a : ℕ) (line : List ℕ) → outranked actor above x u a line ≡ outranked actor above x v a line
    outranked-same above x a [] = refl
    outranked-same above x a (b ∷ line) =
        ap (λ g. (above b a && are_true g) || outranked actor above x u a line) (ready-same sound b (needed b) x)
        ∙ ap (λ rest. (above b a && are_true (readiness actor x v b)) || rest) (outranked-same above x a line)

    exposed-same : (p : Priorities actor) (x : State) (a : ℕ) → is_exposed actor p x u a ≡ is_exposed actor p x v a
    exposed-same p x a =
        ap (λ b. eligible actor x.at a && b && not (outranked actor p.above x u a p.line)) (has-same sound a (needed a))
        ∙ ap (λ b. eligible actor x.at a && has_its_tokens actor v a && not b) (outranked-same p.above x a p.line)

    pub effect-same : (p : Priorities actor) (x : State) (a : ℕ) → effect actor p x u a ≡ effect actor p x v a
    effect-same p x a =
        ap (λ b. if b then effect_of_exposed actor x u a (readiness actor x u a) else None) (exposed-same p x a)
        ∙ ap (λ g. if is_exposed actor p x v a then effect_of_exposed actor x u a g else None) (ready-same sound a (needed a) x)
        ∙ ap (λ e. if is_exposed actor p x v a then e else None) (exposed-effect-same (readiness actor x v a))
      where
        exposed-effect-same : (g : Guards) → effect_of_exposed actor x u a g ≡ effect_of_exposed actor x v a g
        exposed-effect-same AreTrue = ap effect_of_body (body-same sound a (needed a) x)
        exposed-effect-same AreFalse = refl
        exposed-effect-same (AreTrapping c) = refl

    among-same : (x : State) (line : List ℕ) → choice_among actor x u line ≡ choice_among actor x v line
    among-same x [] = refl
    among-same x (a ∷ line) =
        ap (λ g. elim g [ AreTrue ↦ Picks a | AreFalse ↦ choice_among actor x u line | AreTrapping c ↦ Faults a c ]) (ready-same sound a (needed a) x)
        ∙ ap (λ rest. elim (readiness actor x v a) [ AreTrue ↦ Picks a | AreFalse ↦ rest | AreTrapping c ↦ Faults a c ]) (among-same x line)

    pub choice-same : (p : Priorities actor) (x : State) → choice actor p x u ≡ choice actor p x v
    choice-same p x = among-same x p.line
