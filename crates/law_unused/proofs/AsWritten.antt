-- The actor of a source behaves as it is written.
use Rattle.std.proofs.Common.{◌≡◌, ℕ, suc, ◌<◌, ℤ, true, false, List, [], ◌∷◌, ◌++◌, map, length, refl, sym, ap, subst, ◌∙◌, Contains, Option, None, Some, append_assoc}
use Rattle.std.specs.Prelude.{if◌then◌else◌, ◌==◌, option_map}
use Rattle.std.proofs.lemmas.List.{append-nil}
use Rattle.rvc_base.specs.Behaviour.{Behaviour}
use Rattle.rvc_base.specs.Line.{IsLine}
use Rattle.rvc_base.specs.Turns.{max_turns}
use Rattle.rvc_base.specs.declared.scalar.Scalar.{Scalar}
use Rattle.cal_ast.specs.Tree as tree
use Rattle.cal_ast.specs.Tree.{Tree}
use Rattle.cal_model.specs.Actor.{Action, Actor, Fun, Output, Pattern, Port, Proc}
use Rattle.cal_model.specs.ActorState.{IsActorState, is_actor_state}
use Rattle.cal_model.specs.Call.{calls_of}
use Rattle.cal_model.specs.Env.{Env, Var}
use Rattle.cal_model.specs.Firing.{behaviour}
use Rattle.cal_model.specs.Kinding.{Broken, Fine, Judged, Known, Names, with_known}
use Rattle.cal_model.specs.Rates.{given_on, parts, parts_times}
use Rattle.cal_model.specs.Selection.{Above, Priorities, State, guards_say, kind_of_port, pattern_var, pattern_vars, pattern_vars_from, seen_by, tokens_on}
use Rattle.cal_model.specs.Sound.{AreDistinct, kind_of_tokens, with_pattern}
use Rattle.cal_model.specs.Statement.{runs_of}
use Rattle.cal_model.specs.Value.{Kind}
use Rattle.cal_model.proofs.ActorStates.{states-are-tested}
use Rattle.cal_check.specs.Actions.{Around, action_of, or_none, output_judged, outputs_if, outputs_on, patterns_of, with_all_patterns}
use Rattle.cal_check.specs.Actors.{Conforms, IsSource, Source, actions_of, actor_given, all_funs, all_valued, around_of}
use Rattle.cal_check.specs.AsWritten.{ActionsDoTheSame, act_as_is, act_written, action_as_is, done_by, funs_as_are, output_as_is, outputs_as_are, procs_as_are, seen_in_action}
use Rattle.cal_check.specs.Laws.{AreBare}
use Rattle.cal_check.specs.Meaning.{HasConstants, HoldsConstants}
use Rattle.cal_check.specs.Ports.{each_asked, ports_asked}
use Rattle.cal_check.specs.Sources.{IsSourceFormed, SourcesAreSound, actions_of_source, procs_of_source}
use Rattle.cal_check.specs.Variables.{Given, Spot}
use Rattle.cal_check.specs.Violations.{all_fine, fine}
use Rattle.cal_check.specs.Written.{behind_vars, written}
use Rattle.cal_check.proofs.ActionsKept.{patterns-outside}
use Rattle.cal_check.proofs.Lists.{at-head, in-rest}
use Rattle.cal_check.proofs.SourceNames.{vars-distinct}
use Rattle.cal_check.proofs.WrittenUses.{fine-some, output-has, some-parts}
use Rattle.law_unused.specs.AsWritten.{IsSameBehaviour, IsSameOrder, actions_as_are, actor_as_is}
use Rattle.law_unused.specs.Behaving.{IsStateOf, ShowsTheSame, narrowed_effect}
use Rattle.law_unused.specs.Keeping.{Keep, narrowed_state}
use Rattle.law_unused.specs.WholeActor.{kept_by, whole_actor, whole_order}
use Rattle.law_unused.proofs.Conforming.{all-are-held, functions-are}
use Rattle.law_unused.proofs.HeldConstants.{vars-have-constants}
use Rattle.law_unused.proofs.Sources.{source-behaves}
use Rattle.law_unused.proofs.WrittenActor.{AreAlike, behave-the-same, state-same}

-- ---- what an action keeps as it stands

tag-kept : (a : Tree) (around : Around) (act : Action) → act.tag ≡ (action_as_is a around act).tag
tag-kept (tree.action tagged initialize patterns outputs guards vars body at) around act = refl
tag-kept other around act = refl

patterns-kept : (a : Tree) (around : Around) (act : Action) → act.patterns ≡ (action_as_is a around act).patterns
patterns-kept (tree.action tagged initialize patterns outputs guards vars body at) around act = refl
patterns-kept other around act = refl

initialize-kept : (a : Tree) (around : Around) (act : Action) → act.initialize ≡ (action_as_is a around act).initialize
initialize-kept (tree.action tagged initialize patterns outputs guards vars body at) around act = refl
initialize-kept other around act = refl

-- ---- how many tokens it gives

parts-written : (t : Tree) (names : Names) → parts (written t names) ≡ parts t
parts-written (tree.cons t ts) names = ap suc (parts-written ts names)
parts-written (tree.present t) names = refl
parts-written (tree.call name args at) names = refl
parts-written (tree.paren e at) names = refl
parts-written (tree.if_expr test first other at) names = refl
parts-written (tree.list items at) names = refl
parts-written (tree.comp item gens at) names = refl
parts-written (tree.index base place at) names = refl
parts-written (tree.prefix op e at) names = refl
parts-written (tree.binary op l r at) names = refl
parts-written (tree.type_of name args at) names = refl
parts-written (tree.shape_arg name shape) names = refl
parts-written (tree.value_arg name value) names = refl
parts-written other names = refl

output-parts : (o : Tree) (number : ℕ) (t : Scalar) (names : Names) (x : Output) → output_judged o number t names ≡ Fine x → parts x.values ≡ parts (output_as_is o x).values
output-parts (tree.output asked values repeat at) number t names x e =
    output-has (λ s. s ≡ values) (λ s. parts s ≡ parts values) names (λ s i. parts-written s names ∙ ap parts i) (tree.output asked values repeat at) number t x refl e
output-parts other number t names x e = refl

-- what one output gives on a port, and else those behind it
abbrev given_first : ℕ → ℕ → ℕ → Option ℕ → ℕ → ℕ
given_first port own n repeat rest = if own == port then parts_times n repeat else rest

outputs-given : (port : ℕ) (os : Tree) (numbers : List ℕ) (ports : List Port) (names : Names) (xs : List Output) → all_fine (outputs_on os numbers ports names) ≡ Some xs
    → given_on port xs ≡ given_on port (outputs_as_are os xs)
outputs-given port (tree.cons o os) (number ∷ numbers) ports names xs e =
    let p = some-parts (fine (output_judged o number (kind_of_port ports number) names)) (all_fine (outputs_on os numbers ports names)) xs e in
    let j = fine-some (output_judged o number (kind_of_port ports number) names) p.0 p.2 in
    subst (λ ys. given_on port ys ≡ given_on port (outputs_as_are (tree.cons o os) ys)) p.4
    (ap (λ n. given_first port p.0.port n p.0.repeat (given_on port p.1)) (output-parts o number (kind_of_port ports number) names p.0 j)
    ∙ ap (λ n. given_first port p.0.port (parts (output_as_is o p.0).values) p.0.repeat n) (outputs-given port os numbers ports names p.1 p.3)
    ∙ as-it-stands o p.0 (given_on port (outputs_as_are os p.1)))
  where
    as-it-stands : (o : Tree) (x : Output) (rest : ℕ) → given_first port x.port (parts (output_as_is o x).values) x.repeat rest
        ≡ given_first port (output_as_is o x).port (parts (output_as_is o x).values) (output_as_is o x).repeat rest
    as-it-stands (tree.output asked values repeat at) x rest = refl
    as-it-stands other x rest = refl
outputs-given port (tree.cons o os) [] ports names xs e = subst (λ ys. given_on port ys ≡ given_on port (outputs_as_are (tree.cons o os) ys)) (let i : [] ≡ xs = cc in i) refl
outputs-given port other numbers ports names xs e = subst (λ ys. given_on port ys ≡ given_on port (outputs_as_are other ys)) (let i : [] ≡ xs = cc in i) refl

none-given : (port : ℕ) (os : Tree) → given_on port [] ≡ given_on port (outputs_as_are os [])
none-given port (tree.cons o os) = refl
none-given port other = refl

action-gives : (a : Tree) (around : Around) (port : ℕ) → given_on port (action_of a around).outputs ≡ given_on port (action_as_is a around (action_of a around)).outputs
action-gives (tree.action tagged initialize patterns outputs guards vars body at) around port =
    go (ports_asked (each_asked outputs) around.outs)
  where
    inner : Names
    inner = behind_vars vars (with_all_patterns around.ins (patterns_of (tree.action tagged initialize patterns outputs guards vars body at) around) around.names)

    found : (o : Option (List Output)) → ((xs : List Output) → o ≡ Some xs → given_on port xs ≡ given_on port (outputs_as_are outputs xs)) → given_on port (or_none o) ≡ given_on port (outputs_as_are outputs (or_none o))
    found None h = none-given port outputs
    found (Some xs) h = h xs refl

    go : (j : Judged (List ℕ)) → given_on port (or_none (outputs_if j outputs around.outs inner)) ≡ given_on port (outputs_as_are outputs (or_none (outputs_if j outputs around.outs inner)))
    go (Fine numbers) = found (all_fine (outputs_on outputs numbers around.outs inner)) (λ xs e. outputs-given port outputs numbers around.outs inner xs e)
    go (Broken rule at) = none-given port outputs
action-gives other around port = refl

-- ---- what an action sees

abbrev names_in : List Known → List (List ℕ)
names_in ks = map (λ x. x.name) ks

abbrev names_by : List Var → List (List ℕ)
names_by zs = map (λ x. x.name) zs

pattern-named : (k : Kind) (t : Scalar) (us : List ℤ) (q : Pattern) (i : ℕ) (ns : List (List ℕ)) (n : Names) (zs : List Var) → names_in n.locals ≡ names_by zs
    → names_in (with_pattern k ns n).locals ≡ names_by (pattern_vars_from t us q i ns ++ zs)
pattern-named k t us q i [] n zs h = h
pattern-named k t us q i (name ∷ ns) n zs h =
    pattern-named k t us q (suc i) ns (with_known (record { name = name; kind = k; value = None; changes = false }) n) (pattern_var t us q i name ∷ zs) (ap (λ ms. name ∷ ms) h)
    ∙ ap names_by (sym (append_assoc (pattern_vars_from t us q (suc i) ns) (pattern_var t us q i name ∷ []) zs))

pattern-bare : (k : Kind) (ns : List (List ℕ)) (n : Names) → AreBare n.locals → AreBare (with_pattern k ns n).locals
pattern-bare k [] n h = h
pattern-bare k (name ∷ ns) n h = pattern-bare k ns (with_known (record { name = name; kind = k; value = None; changes = false }) n) (refl, h)

abbrev kind_by : List Port → Pattern → Kind
kind_by ports q = kind_of_tokens (kind_of_port ports q.port) q.repeat

patterns-named : (actor : Actor) (u : List (List ℤ)) (ports : List Port) (qs : List Pattern) (n : Names) (zs : List Var) → names_in n.locals ≡ names_by zs
    → names_in (with_all_patterns ports qs n).locals ≡ names_by (pattern_vars actor u qs ++ zs)
patterns-named actor u ports [] n zs h = h
patterns-named actor u ports (q ∷ qs) n zs h =
    let mine : List Var = pattern_vars_from (kind_of_port actor.ins q.port) (tokens_on u q.port) q 0 q.names in
    patterns-named actor u ports qs (with_pattern (kind_by ports q) q.names n) (mine ++ zs)
    (pattern-named (kind_by ports q) (kind_of_port actor.ins q.port) (tokens_on u q.port) q 0 q.names n zs h)
    ∙ ap names_by (sym (append_assoc (pattern_vars actor u qs) mine zs))

patterns-bare : (ports : List Port) (qs : List Pattern) (n : Names) → AreBare n.locals → AreBare (with_all_patterns ports qs n).locals
patterns-bare ports [] n h = h
patterns-bare ports (q ∷ qs) n h = patterns-bare ports qs (with_pattern (kind_by ports q) q.names n) (pattern-bare (kind_by ports q) q.names n h)

-- ---- a source

module _ (same : ActionsDoTheSame) (s : Source) (gs : List Given) (owner : Spot) (formed : IsSourceFormed s) (c : Conforms s gs owner) where
  abbrev around : Around
  around = around_of s gs owner

  abbrev given : Actor
  given = actor_given s gs owner

  abbrev whole : Actor
  whole = whole_actor s gs owner given

  abbrev funs : List Fun
  funs = funs_as_are (all_funs s) around.names

  abbrev procs : List Proc
  procs = procs_as_are (procs_of_source s) around.names

  -- the names of all variables differ
  held-distinct : AreDistinct (map (λ x. x.name) (all_valued s gs owner).held)
  held-distinct = vars-distinct s (all_valued s gs owner).held (all-are-held s gs owner c).named formed.distinct

  -- in each state the constants have their values
  state-has : (x : State) → is_actor_state whole x ≡ true → HasConstants around.names.globals x.vars
  state-has x h =
      let is : IsActorState whole x = (states-are-tested whole x).0 h in
      subst (λ ks. HasConstants ks x.vars) (sym (all-are-held s gs owner c).known) (vars-have-constants (all_valued s gs owner).held x.vars is.vars held-distinct)

  seen-holds : (a : Tree) (x : State) (u : List (List ℤ)) → is_actor_state whole x ≡ true → HoldsConstants (seen_in_action s gs owner a) (seen_by whole x u (act_written s gs owner a))
  seen-holds a x u h =
      let qs : List Pattern = (act_written s gs owner a).patterns in
      record {
        bare = patterns-bare around.ins qs around.names tt;
        named = patterns-named whole u around.ins qs around.names [] refl ∙ ap names_by (append-nil (pattern_vars whole u qs));
        constants = subst (λ ks. HasConstants ks x.vars) (sym (patterns-outside around.ins qs around.names).0) (state-has x h);
      }

  -- an action does what it does as it stands, over these functions
  abbrev DoesOver : Tree → Env → List Fun → Type 0
  DoesOver a env fs =
      (guards_say (act_written s gs owner a).guards (calls_of fs) env ≡ guards_say (act_as_is s gs owner a).guards (calls_of funs) env)
      × (done_by around.outs (act_written s gs owner a) (calls_of fs) (runs_of around.procs (calls_of fs)) env max_turns
      ≡ done_by around.outs (act_as_is s gs owner a) (calls_of funs) (runs_of procs (calls_of funs)) env max_turns)

  does-as-written : (a : Tree) (x : State) (u : List (List ℤ)) → Contains (actions_of_source s) a → is_actor_state whole x ≡ true → DoesOver a (seen_by whole x u (act_written s gs owner a)) whole.funs
  does-as-written a x u inside h =
      let env : Env = seen_by whole x u (act_written s gs owner a) in
      subst (DoesOver a env) (sym (functions-are s gs owner formed c)) (same s gs owner a env max_turns formed c inside (seen-holds a x u h))

  all-alike : (acts : List Tree) → ((a : Tree) → Contains acts a → Contains (actions_of_source s) a) → AreAlike whole funs procs (actions_as_are (actions_of_source s) around) (actions_of acts around) (actions_as_are acts around)
  all-alike [] inside = tt
  all-alike (a ∷ acts) inside = (
    record {
      tag = tag-kept a around (action_of a around);
      patterns = patterns-kept a around (action_of a around);
      initialize = initialize-kept a around (action_of a around);
      gives = action-gives a around;
      guards = λ x u h. (does-as-written a x u (inside a (at-head a a acts refl)) h).0;
      does = λ x u h. (does-as-written a x u (inside a (at-head a a acts refl)) h).1;
    },
    all-alike acts (λ b d. inside b (in-rest b a acts d)),
  )

  abbrev as_is : Actor
  as_is = actor_as_is s gs owner given

  alike : AreAlike whole funs procs as_is.actions whole.actions as_is.actions
  alike = all-alike (actions_of_source s) (λ a d. d)

  whole-as-written : (p : Priorities given) (q : Priorities as_is) → IsSameOrder p q → IsSameBehaviour (behaviour as_is q) (behaviour whole (whole_order s gs owner given p))
  whole-as-written p q order = behave-the-same whole funs procs as_is.actions alike (whole_order s gs owner given p) q (λ a b. sym (order.above a b)) (sym order.line)

  state-whole : (x : State) → IsStateOf as_is x → IsStateOf whole x
  state-whole x h = state-same whole funs procs as_is.actions alike x ∙ h

-- ---- both laws

abbrev WholeAsWritten : Source → List Given → Spot → Actor → Type 0
WholeAsWritten s gs owner actor = (p : Priorities actor) (q : Priorities (actor_as_is s gs owner actor)) → IsSameOrder p q
    → IsSameBehaviour (behaviour (actor_as_is s gs owner actor) q) (behaviour (whole_actor s gs owner actor) (whole_order s gs owner actor p))

pub whole-behaves : ActionsDoTheSame → (s : Source) (gs : List Given) (owner : Spot) (actor : Actor) (p : Priorities actor) (q : Priorities (actor_as_is s gs owner actor)) → IsSourceFormed s → IsSource s gs owner actor → IsSameOrder p q
    → IsSameBehaviour (behaviour (actor_as_is s gs owner actor) q) (behaviour (whole_actor s gs owner actor) (whole_order s gs owner actor p))
whole-behaves same s gs owner actor p q formed is order =
    let all : WholeAsWritten s gs owner actor = subst (WholeAsWritten s gs owner) (sym is.is) (whole-as-written same s gs owner formed is.conforms) in
    all p q order

abbrev StateAsWritten : Source → List Given → Spot → Actor → Type 0
StateAsWritten s gs owner actor = (x : State) → IsStateOf (actor_as_is s gs owner actor) x → IsStateOf (whole_actor s gs owner actor) x

-- what one behaviour shows of another it shows of one that is the same
shows-as : (keep : Keep) (Here There : State → Type 0) (few all other : Behaviour State) → ShowsTheSame keep Here few all → IsSameBehaviour other all → ((x : State) → There x → Here x) → ShowsTheSame keep There few other
shows-as keep Here There few all other shows is here = record {
  start = shows.start ∙ ap (narrowed_state keep) is.start;
  ins = shows.ins ∙ is.ins;
  outs = shows.outs ∙ is.outs;
  actions = shows.actions ∙ is.actions;
  need = λ a port. shows.need a port ∙ is.need a port;
  give = λ a port. shows.give a port ∙ is.give a port;
  effect = λ x u a h. shows.effect x u a (here x h) ∙ ap (option_map (narrowed_effect keep)) (is.effect x u a);
  choice = λ x u h. shows.choice x u (here x h) ∙ is.choice x u;
}

pub source-as-written : SourcesAreSound → ActionsDoTheSame → (s : Source) (gs : List Given) (owner : Spot) (actor : Actor) (p : Priorities actor) (q : Priorities (actor_as_is s gs owner actor))
    → IsSourceFormed s → IsSource s gs owner actor → IsSameOrder p q
    → ShowsTheSame (kept_by s) (IsStateOf (actor_as_is s gs owner actor)) (behaviour actor p) (behaviour (actor_as_is s gs owner actor) q)
source-as-written sound same s gs owner actor p q formed is order =
    let states : StateAsWritten s gs owner actor = subst (StateAsWritten s gs owner) (sym is.is) (state-whole same s gs owner formed is.conforms) in
    shows-as (kept_by s) (IsStateOf (whole_actor s gs owner actor)) (IsStateOf (actor_as_is s gs owner actor)) (behaviour actor p)
    (behaviour (whole_actor s gs owner actor) (whole_order s gs owner actor p)) (behaviour (actor_as_is s gs owner actor) q)
    (source-behaves sound s gs owner actor p formed is) (whole-behaves same s gs owner actor p q formed is order) states

-- ---- its order

as-many-actions : (acts : List Tree) (scope : Around) → length (actions_of acts scope) ≡ length (actions_as_are acts scope)
as-many-actions [] scope = refl
as-many-actions (a ∷ acts) scope = ap suc (as-many-actions acts scope)

abbrev OrderAsWritten : Source → List Given → Spot → Actor → Type 0
OrderAsWritten s gs owner actor = (p : Priorities actor) → (q : Priorities (actor_as_is s gs owner actor)) × IsSameOrder p q

given-ordered : (s : Source) (gs : List Given) (owner : Spot) → OrderAsWritten s gs owner (actor_given s gs owner)
given-ordered s gs owner p =
    let e = as-many-actions (actions_of_source s) (around_of s gs owner) in (
      record {
        above = p.above;
        line = p.line;
        is_above = λ a b l m. p.is_above a b (subst (λ n. a < n) (sym e) l) (subst (λ n. b < n) (sym e) m);
        is_line = subst (λ n. IsLine n (Above (actor_given s gs owner)) p.line) e p.is_line;
      },
      record { above = λ a b. refl; line = refl },
    )

pub source-ordered : (s : Source) (gs : List Given) (owner : Spot) (actor : Actor) (p : Priorities actor) → IsSource s gs owner actor → (q : Priorities (actor_as_is s gs owner actor)) × IsSameOrder p q
source-ordered s gs owner actor p is =
    let all : OrderAsWritten s gs owner actor = subst (OrderAsWritten s gs owner) (sym is.is) (given-ordered s gs owner) in
    all p
