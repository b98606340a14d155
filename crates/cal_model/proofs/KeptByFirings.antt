-- A firing leaves an actor in one of its states.
use Rattle.std.proofs.Common.{◌≡◌, ℕ, zero, suc, ◌+◌, ◌*◌, ◌<◌, ℤ, Bool, true, false, ◌&&◌, List, [], ◌∷◌, ◌++◌, map, length, refl, sym, ap, subst, ◌∙◌, arith, inl, Option, None, Some, length-append}
use Rattle.std.proofs.lemmas.Bool.{true≢false}
use Rattle.std.proofs.lemmas.List.{append-nil, append_assoc, length-map}
use Rattle.std.proofs.lemmas.List.FromFn.{get_or-map-range_with_len}
use Rattle.std.specs.Prelude.{if◌then◌else◌, ◌==◌, is_some, slice_get, slice_index_or}
use Rattle.rvc_base.specs.declared.scalar.Scalar.{Scalar}
use Rattle.rvc_base.specs.declared.scalar.Scalar.TheVariants as scalar
use Rattle.rvc_base.specs.Rules.{wrong_kind}
use Rattle.rvc_base.specs.Storing.{conv, IsSize, InRange}
use Rattle.cal_ast.specs.Tree as tree
use Rattle.cal_ast.specs.Tree.{Tree}
use Rattle.rvc_base.specs.Behaviour.{Effect, Fires}
use Rattle.rvc_base.specs.Turns.{max_turns}
use Rattle.cal_model.specs.Value.{Kind, BoolKind, Shape, Single, Value, Values, Nil, Cons, count, of_number, kind_of_scalar, HasKind, HaveKind, IsOf, IsType}
use Rattle.cal_model.specs.Outcome.{Clashes}
use Rattle.cal_model.specs.Env.{Var, Env}
use Rattle.cal_model.specs.Actor.{Port, Held, Pattern, Output, Action, Move, Actor}
use Rattle.cal_model.specs.Call.{calls_of, declared}
use Rattle.cal_model.specs.Statement.{exec_all, runs_of}
use Rattle.cal_model.specs.Eligible.{fresh, is_empty, target, leads, eligible, IsStateOf}
use Rattle.cal_model.specs.Selection.{State, Priorities, kind_of_port, tokens_on, token, tokens_from, pattern_value, pattern_var, pattern_vars_from, pattern_vars, seen_by}
use Rattle.cal_model.specs.ActorState.{AreVarsOf, IsActorState, is_actor_state, kept_tokens, AreTokensOn, AreTokensOf}
use Rattle.cal_model.specs.Rates.{parts, parts_times, given_on, need, give}
use Rattle.cal_model.specs.Firing.{Fired, IsFiring, effect, behaviour, body, body_of, outputs, numbers_of, one_of_each, interleaved, sent_numbers, sent_to_port, sent_by_port}
use Rattle.cal_model.specs.Expression.{eval, eval_all}
use Rattle.cal_model.specs.Keeping.{GivesOrTraps, AreOfKinds}
use Rattle.cal_model.specs.Kinding.{Fine, Known, Names, with_known, kind, kinds}
use Rattle.cal_model.specs.Sound.{Each, known_local, names_of, with_locals, kind_of_tokens, with_pattern, with_patterns, IsOutput, IsAction, IsMove, IsSound}
use Rattle.cal_model.proofs.KindValues.{not-fine, fine-is, split, single-is-num, zero-has-kind}
use Rattle.cal_model.proofs.KindLaws.{sound-funs, starts-are-of}
use Rattle.cal_model.proofs.ActorStates.{Sized, first-sized, states-decide, kept-are-tokens}
use Rattle.cal_model.proofs.Choosing.{effects-are-firings}
use Rattle.cal_model.proofs.KindOrder.{onto, one-behind}
use Rattle.cal_model.proofs.Agreement.{any_name, any-call}
use Rattle.cal_model.proofs.KeptTypes.{gives-as, then-if, Stays, AllStay, Typed, Good, Fixed, fixed-more}
use Rattle.cal_model.proofs.KeptByStatements.{plain_known, RunsKeep, eval-if, all-if, locals-fixed, locals-funs, declared-good, all-good, procedures-keep}

-- ---- tokens

token-kind : (t : Scalar) (z : ℤ) → IsSize t → InRange t z → HasKind (kind_of_scalar t) (of_number t z)
token-kind scalar.Bool z s h = tt
token-kind (scalar.Int n) z s h = single-is-num (scalar.Int n) z s h
token-kind (scalar.Uint n) z s h = single-is-num (scalar.Uint n) z s h

token-has-kind : (t : Scalar) (us : List ℤ) (k : ℕ) → IsSize t → Each (InRange t) us → HasKind (kind_of_scalar t) (token t us k)
token-has-kind t [] k s h = zero-has-kind (Single t) s
token-has-kind t (z ∷ us) zero s h = token-kind t z s h.0
token-has-kind t (z ∷ us) (suc k) s h = token-has-kind t us k s h.1

tokens-have-kind : (t : Scalar) (us : List ℤ) (n k far : ℕ) → IsSize t → Each (InRange t) us → (count (tokens_from t us n k far) ≡ n) × HaveKind (kind_of_scalar t) (tokens_from t us n k far)
tokens-have-kind t us zero k far s h = (refl, tt)
tokens-have-kind t us (suc n) k far s h =
    let rest = tokens-have-kind t us n (k + far) far s h in
    (ap suc rest.0, (token-has-kind t us k s h, rest.1))

pattern-has-kind : (t : Scalar) (us : List ℤ) (repeat : Option ℕ) (names k : ℕ) → IsSize t → Each (InRange t) us → HasKind (kind_of_tokens t repeat) (pattern_value t us repeat names k)
pattern-has-kind t us None names k s h = token-has-kind t us k s h
pattern-has-kind t us (Some n) names k s h = tokens-have-kind t us n k names s h

tokens-at : (ps : List Port) (u : List (List ℤ)) (port : ℕ) → AreTokensOn ps u → Each (InRange (kind_of_port ps port)) (tokens_on u port)
tokens-at [] [] port h = tt
tokens-at [] (us ∷ u) port h = absurd h
tokens-at (p ∷ ps) [] port h = absurd h
tokens-at (p ∷ ps) (us ∷ u) zero h = h.0
tokens-at (p ∷ ps) (us ∷ u) (suc port) h = tokens-at ps u port h.1

size-at : (ps : List Port) (port : ℕ) → Sized ps → IsSize (kind_of_port ps port)
size-at [] port h = tt
size-at (p ∷ ps) zero h = h.0
size-at (p ∷ ps) (suc port) h = size-at ps port h.1

-- ---- pattern variables as names

abbrev names_known : Kind → List (List ℕ) → List Known
names_known k [] = []
names_known k (name ∷ names) = plain_known name k false ∷ names_known k names

-- the names of patterns in front of others
abbrev patterns_onto : Actor → List Pattern → List Known → List Known
patterns_onto actor [] ns = ns
patterns_onto actor (q ∷ qs) ns = patterns_onto actor qs (onto (names_known (kind_of_tokens (kind_of_port actor.ins q.port) q.repeat) q.names) ns)

pattern-fixed : (hs : List Held) (k : Kind) (ts : List (List ℕ)) (names : Names) (ns : List Known) → Fixed hs ns names → Fixed hs (onto (names_known k ts) ns) (with_pattern k ts names)
pattern-fixed hs k [] names ns f = f
pattern-fixed hs k (name ∷ ts) names ns f =
    let x : Known = plain_known name k false in
    pattern-fixed hs k ts (with_known x names) (x ∷ ns) (fixed-more hs ns names x f)

patterns-fixed : (hs : List Held) (actor : Actor) (qs : List Pattern) (names : Names) (ns : List Known) → Fixed hs ns names → Fixed hs (patterns_onto actor qs ns) (with_patterns actor qs names)
patterns-fixed hs actor [] names ns f = f
patterns-fixed hs actor (q ∷ qs) names ns f =
    let k : Kind = kind_of_tokens (kind_of_port actor.ins q.port) q.repeat in
    patterns-fixed hs actor qs (with_pattern k q.names names) (onto (names_known k q.names) ns) (pattern-fixed hs k q.names names ns f)

pattern-funs : (k : Kind) (ts : List (List ℕ)) (names : Names) → (with_pattern k ts names).funs ≡ names.funs
pattern-funs k [] names = refl
pattern-funs k (name ∷ ts) names = pattern-funs k ts (with_known (plain_known name k false) names)

patterns-funs : (actor : Actor) (qs : List Pattern) (names : Names) → (with_patterns actor qs names).funs ≡ names.funs
patterns-funs actor [] names = refl
patterns-funs actor (q ∷ qs) names =
    let k : Kind = kind_of_tokens (kind_of_port actor.ins q.port) q.repeat in
    patterns-funs actor qs (with_pattern k q.names names) ∙ pattern-funs k q.names names

-- ---- pattern variables stand for their names

no-constant : (w : Value) → None ≡ Some w → ⊥
no-constant w h = cc

no-shape : (t : Shape) → None ≡ Some t → ⊥
no-shape t e = grind arith

names-stay : (t : Scalar) (us : List ℤ) (q : Pattern) (k : ℕ) (ts : List (List ℕ)) (ns : List Known) (xs : List Var) → IsSize t → Each (InRange t) us → AllStay ns xs
    → AllStay (onto (names_known (kind_of_tokens t q.repeat) ts) ns) (pattern_vars_from t us q k ts ++ xs)
names-stay t us q k [] ns xs s h rest = rest
names-stay t us q k (name ∷ ts) ns xs s h rest =
    let n : Known = plain_known name (kind_of_tokens t q.repeat) false in
    let x : Var = pattern_var t us q k name in
    let stays : Stays n x = record {
      name = refl;
      stands = record { kind = pattern-has-kind t us q.repeat (length q.names) k s h; constant = λ w e. absurd (no-constant w e) };
      kept = λ u e. absurd (no-shape u e);
      may = λ c. absurd (true≢false (sym c));
    } in
    subst (λ vars. AllStay (onto (names_known (kind_of_tokens t q.repeat) ts) (n ∷ ns)) vars) (sym (one-behind x (pattern_vars_from t us q (suc k) ts) xs))
    (names-stay t us q (suc k) ts (n ∷ ns) (x ∷ xs) s h (stays, rest))

patterns-stay : (actor : Actor) (u : List (List ℤ)) (qs : List Pattern) (ns : List Known) (xs : List Var) → Sized actor.ins → AreTokensOf actor u → AllStay ns xs
    → AllStay (patterns_onto actor qs ns) (pattern_vars actor u qs ++ xs)
patterns-stay actor u [] ns xs s h rest = rest
patterns-stay actor u (q ∷ qs) ns xs s h rest =
    let t : Scalar = kind_of_port actor.ins q.port in
    let ks : List Known = names_known (kind_of_tokens t q.repeat) q.names in
    let ys : List Var = pattern_vars_from t (tokens_on u q.port) q 0 q.names in
    subst (λ vars. AllStay (patterns_onto actor qs (onto ks ns)) vars) (sym (append_assoc (pattern_vars actor u qs) ys xs))
    (patterns-stay actor u qs (onto ks ns) (ys ++ xs) s h (names-stay t (tokens_on u q.port) q 0 q.names ns xs (size-at actor.ins q.port s) (tokens-at actor.ins u q.port h) rest))

-- ---- where an action leads

target-there : (actor : Actor) (ms : List Move) (s a to : ℕ) → Each (IsMove actor) ms → target ms s a ≡ Some to → to < length actor.states
target-there actor [] s a to h e = let no : None ≡ Some to = e in absurd (grind arith)
target-there actor (m ∷ ms) s a to h e = go (m.from == s && m.action == a) e (target-there actor ms s a to h.1)
  where
    go : (b : Bool) → (if b then Some m.to else target ms s a) ≡ Some to → (target ms s a ≡ Some to → to < length actor.states) → to < length actor.states
    go true f ih = let same : m.to ≡ to = cc in subst (λ n. n < length actor.states) same h.0.to
    go false f ih = ih f

number-is : (s to : ℕ) → Some s ≡ Some to → s ≡ to
number-is s to e = cc

no-number : (to : ℕ) → None ≡ Some to → ⊥
no-number to e = grind arith

leads-to-state : (actor : Actor) (s a to : ℕ) (act : Action) → Each (IsMove actor) actor.moves → IsStateOf actor s → leads actor s a act ≡ Some to → IsStateOf actor to
leads-to-state actor s a to act moves is e = go (s == fresh actor) act.initialize (is_empty act.tag) (is_empty actor.states) e
  where
    zero-there : Some 0 ≡ Some to → IsStateOf actor to
    zero-there f = let same : 0 ≡ to = number-is 0 to f in subst (λ n. IsStateOf actor n) same (inl (grind arith))

    same-there : Some s ≡ Some to → IsStateOf actor to
    same-there f = subst (λ n. IsStateOf actor n) (number-is s to f) is

    go : (b c d h : Bool) → (if b then (if c then Some 0 else None) else if c then None else if d then Some s else if h then Some s else target actor.moves s a) ≡ Some to → IsStateOf actor to
    go true true d h f = zero-there f
    go true false d h f = absurd (no-number to f)
    go false true d h f = absurd (no-number to f)
    go false false true h f = same-there f
    go false false false true f = same-there f
    go false false false false f = let less : to < length actor.states = target-there actor actor.moves s a to moves f in inl (grind arith)

-- ---- outputs

count-kinds : (ks : List Kind) (vs : Values) → AreOfKinds ks vs → count vs ≡ length ks
count-kinds [] Nil h = refl
count-kinds [] (Cons v vs) h = absurd h
count-kinds (k ∷ ks) Nil h = absurd h
count-kinds (k ∷ ks) (Cons v vs) h = ap suc (count-kinds ks vs h.1)

kinds-parts : (es : Tree) (names : Names) (ks : List Kind) → kinds es names ≡ Fine ks → length ks ≡ parts es
kinds-parts tree.nil names ks h = ap length (sym (fine-is [] ks h))
kinds-parts (tree.cons e es) names ks h =
    let x = split (kind e names) _ ks h in
    let y = split (kinds es names) _ ks x.2 in
    ap length (sym (fine-is (x.0 ∷ y.0) ks y.2)) ∙ ap suc (kinds-parts es names y.0 y.1)
kinds-parts other names ks h = absurd (not-fine wrong_kind 0 ks h)

many-numbers : (vs : Values) → length (numbers_of vs) ≡ count vs
many-numbers Nil = refl
many-numbers (Cons v vs) = ap suc (many-numbers vs)

many-of-each : (vs : Values) (k : ℕ) → length (one_of_each vs k) ≡ count vs
many-of-each Nil k = refl
many-of-each (Cons v vs) k = ap suc (many-of-each vs k)

many-interleaved : (n k : ℕ) (vs : Values) → length (interleaved n k vs) ≡ n * count vs
many-interleaved zero k vs = omega arith
many-interleaved (suc n) k vs =
    length-append (one_of_each vs k) (interleaved n (suc k) vs)
    ∙ ap (λ m. m + length (interleaved n (suc k) vs)) (many-of-each vs k) ∙ ap (λ m. count vs + m) (many-interleaved n (suc k) vs)
    ∙ (let e : count vs + n * count vs ≡ suc n * count vs = omega arith in e)

mul-comm : (n m : ℕ) → n * m ≡ m * n
mul-comm n m = omega arith

many-sent : (repeat : Option ℕ) (vs : Values) → length (sent_numbers repeat vs) ≡ parts_times (count vs) repeat
many-sent None vs = many-numbers vs ∙ (let e : count vs ≡ count vs * 1 = omega arith in e)
many-sent (Some n) vs = many-interleaved n 0 vs ∙ mul-comm n (count vs)

-- on each port as many tokens are sent as the outputs give there
abbrev AreGiven : List Output → List (ℕ × List ℤ) → Type 0
AreGiven os sent = (port : ℕ) → length (sent_to_port sent port) ≡ given_on port os

module _ (hs : List Held) (ts : Typed hs) where
  outputs-give : (actor : Actor) (names : Names) (ns : List Known) (env : Env) (os : List Output) (left : ℕ) → Fixed hs ns names → Good hs ns env → Each (IsOutput actor names) os
      → GivesOrTraps (AreGiven os) (outputs actor.outs os (calls_of names.funs) env left)
  outputs-give actor names ns env [] left f g h = λ port. refl
  outputs-give actor names ns env (o ∷ os) left f g h =
      then-if (AreOfKinds h.0.found) (AreGiven (o ∷ os)) (eval_all o.values (calls_of names.funs) env left) _ (all-if hs ts names ns env o.values h.0.found left f g h.0.kinds) (λ vs m are.
      then-if (AreGiven os) (AreGiven (o ∷ os)) (outputs actor.outs os (calls_of names.funs) env m) _ (outputs-give actor names ns env os m f g h.1) (λ rest k given port.
      one-more vs rest port (count-kinds h.0.found vs are ∙ kinds-parts o.values names h.0.found h.0.kinds) (given port)))
    where
      one-more : (vs : Values) (rest : List (ℕ × List ℤ)) (port : ℕ) → count vs ≡ parts o.values → length (sent_to_port rest port) ≡ given_on port os
          → length (sent_to_port ((o.port, map (conv (kind_of_port actor.outs o.port)) (sent_numbers o.repeat vs)) ∷ rest) port) ≡ given_on port (o ∷ os)
      one-more vs rest port e i = go (o.port == port)
        where
          go : (b : Bool) → length (if b then map (conv (kind_of_port actor.outs o.port)) (sent_numbers o.repeat vs) else sent_to_port rest port)
              ≡ (if b then parts_times (parts o.values) o.repeat else given_on port os)
          go true = length-map (sent_numbers o.repeat vs) (conv (kind_of_port actor.outs o.port)) ∙ many-sent o.repeat vs ∙ ap (λ n. parts_times n o.repeat) e
          go false = i

-- ---- firings

-- the state that a firing of an action leaves, and how much it sends on each port
record IsLeft (actor : Actor) (to : ℕ) (act : Action) (f : Fired) : Type 0 where
  at : f.state.at ≡ to
  vars : AreVarsOf actor.vars f.state.vars
  given : (port : ℕ) → port < length actor.outs → length (slice_index_or f.sent port []) ≡ given_on port act.outputs

types-of : (hs : List Held) → Each (λ h. IsType h.shape × IsOf h.shape h.value) hs → Typed hs
types-of [] h = tt
types-of (x ∷ xs) h = (h.0.0, types-of xs h.1)

names-fixed : (actor : Actor) → IsSound actor → Fixed actor.vars [] (names_of actor)
names-fixed actor sound = record { funs = sound-funs actor sound; ends = sound.funs_end; globals = refl; locals = refl }

sent-at : (ports : List Port) (sent : List (ℕ × List ℤ)) (port : ℕ) → port < length ports → slice_index_or (sent_by_port ports sent) port [] ≡ sent_to_port sent port
sent-at ports sent port h = get_or-map-range_with_len (sent_to_port sent) 0 (length ports) port port [] h (omega arith)

module _ (actor : Actor) (x : State) (u : List (List ℤ)) (sound : IsSound actor) (is : IsActorState actor x) (tokens : AreTokensOf actor u) where
  types : Typed actor.vars
  types = types-of actor.vars sound.vars

  seen : Action → Names
  seen act = with_patterns actor act.patterns (names_of actor)

  known : Action → List Known
  known act = patterns_onto actor act.patterns []

  fixed : (act : Action) → Fixed actor.vars (patterns_onto actor act.patterns []) (with_patterns actor act.patterns (names_of actor))
  fixed act = patterns-fixed actor.vars actor act.patterns (names_of actor) [] (names-fixed actor sound)

  entry : (act : Action) → Good actor.vars (patterns_onto actor act.patterns []) (seen_by actor x u act)
  entry act = record {
    globals = is.vars;
    locals = subst (λ vars. AllStay (patterns_onto actor act.patterns []) vars) (append-nil (pattern_vars actor u act.patterns))
        (patterns-stay actor u act.patterns [] [] (first-sized actor.ins actor.outs sound.port_sizes) tokens tt);
  }

  -- a guard is a truth value, or traps
  pub guard-says : (act : Action) (g : Tree) (left : ℕ) → kind g (with_patterns actor act.patterns (names_of actor)) ≡ Fine BoolKind
      → GivesOrTraps (HasKind BoolKind) (eval g (calls_of actor.funs) (seen_by actor x u act) left)
  guard-says act g left h =
      subst (λ fs. GivesOrTraps (HasKind BoolKind) (eval g (calls_of fs) (seen_by actor x u act) left)) (patterns-funs actor act.patterns (names_of actor))
      (eval-if actor.vars types (with_patterns actor act.patterns (names_of actor)) (patterns_onto actor act.patterns []) (seen_by actor x u act) g BoolKind left (fixed act) (entry act) h)

  body-leaves : (to : ℕ) (act : Action) → IsAction actor act → GivesOrTraps (IsLeft actor to act) (body_of actor x u to act)
  body-leaves to act good =
      then-if (Good actor.vars inner) (IsLeft actor to act) (declared act.locals (calls_of actor.funs) (seen_by actor x u act) max_turns) _
      (subst (λ fs. GivesOrTraps (Good actor.vars inner) (declared act.locals (calls_of fs) (seen_by actor x u act) max_turns)) funs
      (declared-good actor.vars types act.locals outer before (seen_by actor x u act) max_turns (fixed act) (entry act) (starts-are-of act.locals outer good.locals))) (λ env m now.
      then-if (Good actor.vars inner) (IsLeft actor to act) (exec_all act.body (calls_of actor.funs) (runs_of actor.procs (calls_of actor.funs)) env m) _
      (subst (λ fs. GivesOrTraps (Good actor.vars inner) (exec_all act.body (calls_of fs) (runs_of actor.procs (calls_of actor.funs)) env m)) more
      (all-good actor.vars types actor.procs (runs_of actor.procs (calls_of actor.funs)) any_name runs act.body (with_locals act.locals outer) inner env m within now (any-call act.body) good.body)) (λ last k done.
      then-if (AreGiven act.outputs) (IsLeft actor to act) (outputs actor.outs act.outputs (calls_of actor.funs) last k) _
      (subst (λ fs. GivesOrTraps (AreGiven act.outputs) (outputs actor.outs act.outputs (calls_of fs) last k)) more
      (outputs-give actor.vars types actor (with_locals act.locals outer) inner last act.outputs k within done good.outputs)) (λ sent j given.
      record { at = refl; vars = done.globals; given = λ port h. ap length (sent-at actor.outs sent port h) ∙ given port })))
    where
      outer : Names
      outer = with_patterns actor act.patterns (names_of actor)

      before : List Known
      before = patterns_onto actor act.patterns []

      inner : List Known
      inner = onto (map known_local act.locals) before

      funs : outer.funs ≡ actor.funs
      funs = patterns-funs actor act.patterns (names_of actor)

      more : (with_locals act.locals outer).funs ≡ actor.funs
      more = locals-funs act.locals outer ∙ funs

      within : Fixed actor.vars inner (with_locals act.locals outer)
      within = locals-fixed actor.vars act.locals outer before (fixed act)

      runs : RunsKeep actor.vars actor.procs any_name (runs_of actor.procs (calls_of actor.funs))
      runs = procedures-keep actor.vars types actor.procs (names_of actor) (names-fixed actor sound) sound.procs sound.procs_end

pub action-at : (actor : Actor) (acts : List Action) (a : ℕ) (act : Action) → Each (IsAction actor) acts → slice_get acts a ≡ Some act → IsAction actor act
action-at actor [] a act h e = let no : None ≡ Some act = e in absurd (grind arith)
action-at actor (b ∷ acts) zero act h e = let same : b ≡ act = cc in subst (λ c. IsAction actor c) same h.0
action-at actor (b ∷ acts) (suc a) act h e = action-at actor acts a act h.1 e

-- what a firing leaves: a state of the actor, and as many tokens sent as the action gives
pub record IsMade (actor : Actor) (a : ℕ) (f : Fired) : Type 0 where
  pub state : IsActorState actor f.state
  pub given : (port : ℕ) → port < length actor.outs → length (slice_index_or f.sent port []) ≡ give actor a port

-- the body of an action that is eligible gives such a firing, or traps
pub eligible-makes : (actor : Actor) (x : State) (u : List (List ℤ)) (a : ℕ) → IsSound actor → IsActorState actor x → AreTokensOf actor u → eligible actor x.at a ≡ true
    → GivesOrTraps (IsMade actor a) (body actor x u a)
eligible-makes actor x u a sound is tokens el = go (slice_get actor.actions a) refl
  where
    of-action : Option Action → Option ℕ
    of-action o = elim o [ None ↦ None | Some act ↦ leads actor x.at a act ]

    there : (act : Action) → slice_get actor.actions a ≡ Some act → (o : Option ℕ) → leads actor x.at a act ≡ o
        → GivesOrTraps (IsMade actor a) (elim o [ None ↦ Clashes | Some to ↦ body_of actor x u to act ])
    there act e None h =
        let no : eligible actor x.at a ≡ false = ap (λ o. is_some (elim o [ None ↦ None | Some act ↦ leads actor x.at a act ])) e ∙ ap is_some h in
        absurd (true≢false (sym el ∙ no))
    there act e (Some to) h =
        gives-as (IsLeft actor to act) (IsMade actor a) (body_of actor x u to act) (λ f left. record {
          state = record { at = subst (λ n. IsStateOf actor n) (sym left.at) (leads-to-state actor x.at a to act sound.moves is.at h); vars = left.vars };
          given = λ port p. left.given port p ∙ ap (λ o. elim o [ None ↦ 0 | Some act ↦ given_on port act.outputs ]) (sym e);
        }) (body-leaves actor x u sound is tokens to act (action-at actor actor.actions a act sound.actions e))

    go : (o : Option Action) → slice_get actor.actions a ≡ o
        → GivesOrTraps (IsMade actor a) (elim o [ None ↦ Clashes | Some act ↦ elim (of-action (slice_get actor.actions a)) [ None ↦ Clashes | Some to ↦ body_of actor x u to act ] ])
    go None e =
        let no : eligible actor x.at a ≡ false = ap (λ o. is_some (elim o [ None ↦ None | Some act ↦ leads actor x.at a act ])) e in
        absurd (true≢false (sym el ∙ no))
    go (Some act) e = there act e (of-action (slice_get actor.actions a)) (ap of-action (sym e))

pub bodies-make : (actor : Actor) (x : State) (u : List (List ℤ)) (a : ℕ) → IsSound actor → IsActorState actor x → AreTokensOf actor u → eligible actor x.at a ≡ true
    → GivesOrTraps (λ f. IsActorState actor f.state) (body actor x u a)
bodies-make actor x u a sound is tokens el =
    gives-as (IsMade actor a) (λ f. IsActorState actor f.state) (body actor x u a) (λ f m. m.state) (eligible-makes actor x u a sound is tokens el)

pub firings-keep-states : (actor : Actor) (x y : State) (u sent : List (List ℤ)) (a : ℕ) (taken : ℕ → ℕ) → IsSound actor → IsActorState actor x → AreTokensOf actor u → IsFiring actor x u a y taken sent → IsActorState actor y
firings-keep-states actor x y u sent a taken sound is tokens f =
    subst (λ o. GivesOrTraps (λ g. IsActorState actor g.state) o) f.gives (bodies-make actor x u a sound is tokens f.exposed.is_eligible)

-- ---- the behaviour

no-effect : (y : State) (sent : List (List ℤ)) → ◌≡◌ {A = Option (Effect State)} None (Some (Fires y sent)) → ⊥
no-effect y sent e = grind arith

pub behaviour-keeps-states : (actor : Actor) (p : Priorities actor) (x y : State) (u sent : List (List ℤ)) (a : ℕ) → IsSound actor → (behaviour actor p).effect x u a ≡ Some (Fires y sent) → IsActorState actor y
behaviour-keeps-states actor p x y u sent a sound e = go (is_actor_state actor x) refl e
  where
    go : (b : Bool) → is_actor_state actor x ≡ b → (if b then effect actor p x (kept_tokens actor u) a else None) ≡ Some (Fires y sent) → IsActorState actor y
    go true is f =
        firings-keep-states actor x y (kept_tokens actor u) sent a (need actor a) sound ((states-decide actor x).0 is) (kept-are-tokens actor u sound)
        ((effects-are-firings actor p x y (kept_tokens actor u) sent a).0 f)
    go false is f = absurd (no-effect y sent f)
