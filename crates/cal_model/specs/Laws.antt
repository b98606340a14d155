-- What holds of all values, expressions and actors, as statements.
-- Trusted: part of what a promise means.
use Rattle.std.specs.Prelude.{◌≡◌, ℕ, ◌+◌, ◌<◌, ◌↔◌, ◌⊎◌, Contains, slice_get, true, false, List, [], length, ℤ, pos, ◌+ℤ◌, int_lt, if◌then◌else◌, None, Some}
use Rattle.rvc_base.specs.declared.trap.Trap.{Trap}
use Rattle.rvc_base.specs.declared.trap.Trap.TheVariants.{TurnLimit}
use Rattle.rvc_base.specs.Lawful.{IsLawful}
use Rattle.rvc_base.specs.Turns.{max_turns}
use Rattle.rvc_base.specs.Width.{IsNum}
use Rattle.rvc_base.specs.Behaviour.{Fires, TrapsInGuard, TrapsInBody, Waits, Picks, Faults}
use Rattle.cal_ast.specs.Tree as tree
use Rattle.cal_ast.specs.Tree.{Tree}
use Rattle.cal_model.specs.Value.{Kind, BoolKind, Shape, Value, Num, Values, HasKind, IsOf, IsType, kind_of_scalar, kind_of_type, stored, zero_of}
use Rattle.cal_model.specs.Outcome.{Out, Gives, Traps, and_then, turn}
use Rattle.cal_model.specs.Expression.{Calls, eval, eval_all, elements, chosen, span, type_meant, args_given}
use Rattle.cal_model.specs.Env.{Var, Env, variable, with_local}
use Rattle.cal_model.specs.Statement.{Runs, for_loop, exec, exec_all, runs_of, proc_named}
use Rattle.cal_model.specs.Actor.{Local, Fun, Proc, Action, Move, Actor}
use Rattle.cal_model.specs.Call.{calls_of, fun_named, on_call, declared}
use Rattle.cal_model.specs.Kinding.{Fine, Known, Names, Argument, counter, constants, constant, with_known, counts, with_counters, kind, kinds, arguments_fit, elements_in, type_judged, type_arguments}
use Rattle.cal_model.specs.Sound.{Each, IsWrittenOut, FunsNeverReturn, with_locals, names_of, IsSound, ProcsNeverReturn}
use Rattle.cal_model.specs.Keeping.{GivesOnly, GivesOrTraps, LacksNothing, CallsTakeTurns, RunsTakeTurns, AreOfKinds, AreMany, AreArguments, given_by, StandFor, IsEnvOf, HasAllOf, outside, StartsAreOf, IsOfItsKinds, answer, made}
use Rattle.cal_model.specs.Tags.{stands_for, IsMeant, Transition, moves_of, IsMoveOf, pairs_of, IsPairOf}
use Rattle.cal_model.specs.Eligible.{eligible}
use Rattle.cal_model.specs.Rates.{need}
use Rattle.cal_model.specs.Selection.{State, start_of, Priorities, tokens_on, seen_by, AreFalse, AreTrapping, readiness, IsEnabled, IsExposed, choice}
use Rattle.cal_model.specs.ActorState.{IsActorState, is_actor_state, AreTokensOf, kept_tokens}
use Rattle.cal_model.specs.Firing.{IsFiring, IsTrapping, body, effect, behaviour}

-- a value of a type's kind, once stored, is in the type
abbrev pub StoredIsOfType : Type 0
StoredIsOfType = (t : Shape) (v : Value) → IsType t → HasKind (kind_of_type t) v
    → IsOf t (stored t v)

-- storing it again changes nothing
abbrev pub StoringStays : Type 0
StoringStays = (t : Shape) (v : Value) → IsType t → IsOf t v → stored t v ≡ v

-- a tree of numbers and `-` alone whose value is this number, wherever it is evaluated
pub record IsWrittenAs (z : ℤ) : Type 0 where
  pub written : Tree
  pub plain : IsWrittenOut written
  pub value : (calls : Calls) (env : Env) (left : ℕ)
      → eval written calls env left ≡ Gives (Num z) left

-- each number of the language can be written so
abbrev pub NumbersAreWritten : Type 0
NumbersAreWritten = (z : ℤ) → IsNum z → IsWrittenAs z

-- what a variable without value holds is in its type
abbrev pub ZeroIsOfType : Type 0
ZeroIsOfType = (t : Shape) → IsType t → IsOf t (zero_of t)

-- one action has one firing in a state, over given tokens
abbrev pub OneFiring : Type 0
OneFiring =
    (actor : Actor) (x y z : State) (u sent other : List (List ℤ)) (a : ℕ) (taken more : ℕ → ℕ)
    → IsFiring actor x u a y taken sent → IsFiring actor x u a z more other
    → (y ≡ z) × ((port : ℕ) → taken port ≡ more port) × (sent ≡ other)

-- .. or one trap
abbrev pub OneTrap : Type 0
OneTrap = (actor : Actor) (x : State) (u : List (List ℤ)) (a : ℕ) (c d : Trap)
    → IsTrapping actor x u a c → IsTrapping actor x u a d → c ≡ d

-- .. and never both
abbrev pub NeverBoth : Type 0
NeverBoth =
    (actor : Actor) (x y : State) (u sent : List (List ℤ)) (a : ℕ) (taken : ℕ → ℕ) (c : Trap)
    → IsFiring actor x u a y taken sent → ¬ IsTrapping actor x u a c

-- an action that is chosen to fire is exposed and enabled
abbrev pub ChosenIsEnabled : Type 0
ChosenIsEnabled = (actor : Actor) (p : Priorities actor) (x : State) (u : List (List ℤ)) (a : ℕ)
    → choice actor p x u ≡ Picks a → IsExposed actor x u a × IsEnabled actor x u a

-- one that is chosen to trap is exposed, and its guards trap
abbrev pub ChosenTraps : Type 0
ChosenTraps =
    (actor : Actor) (p : Priorities actor) (x : State) (u : List (List ℤ)) (a : ℕ) (c : Trap)
    → choice actor p x u ≡ Faults a c → IsExposed actor x u a
    × (readiness actor x u a ≡ AreTrapping c)

-- there is none to choose if no action is enabled or has guards that trap
abbrev pub WaitingIsIdle : Type 0
WaitingIsIdle = (actor : Actor) (p : Priorities actor) (x : State) (u : List (List ℤ))
    → choice actor p x u ≡ Waits → (a : ℕ) → readiness actor x u a ≡ AreFalse

-- the effects are the firings ..
abbrev pub EffectsAreFirings : Type 0
EffectsAreFirings =
    (actor : Actor) (p : Priorities actor) (x y : State) (u sent : List (List ℤ)) (a : ℕ)
    → (effect actor p x u a ≡ Some (Fires y sent)) ↔ IsFiring actor x u a y (need actor a) sent

-- .. and the traps
abbrev pub EffectsAreTraps : Type 0
EffectsAreTraps =
    (actor : Actor) (p : Priorities actor) (x : State) (u : List (List ℤ)) (a : ℕ) (c : Trap)
    → ((effect actor p x u a ≡ Some (TrapsInGuard c))
    ⊎ (effect actor p x u a ≡ Some (TrapsInBody c))) ↔ IsTrapping actor x u a c

-- in the actor's states and over tokens of its ports the behaviour has these effects, and makes this choice ..
abbrev pub BehaviourIsEffect : Type 0
BehaviourIsEffect = (actor : Actor) (p : Priorities actor) (x : State) (u : List (List ℤ))
    → IsSound actor → IsActorState actor x → AreTokensOf actor u
    → ((a : ℕ) → (behaviour actor p).effect x u a ≡ effect actor p x u a)
    × ((behaviour actor p).choice x u ≡ choice actor p x u)

-- .. over others it has those that it has over the tokens as they are stored ..
abbrev pub BehaviourStoresTokens : Type 0
BehaviourStoresTokens = (actor : Actor) (p : Priorities actor) (x : State) (u : List (List ℤ))
    → IsActorState actor x
    → ((a : ℕ) → (behaviour actor p).effect x u a ≡ effect actor p x (kept_tokens actor u) a)
    × ((behaviour actor p).choice x u ≡ choice actor p x (kept_tokens actor u))

-- .. and in other states it does nothing
abbrev pub BehaviourIsIdle : Type 0
BehaviourIsIdle = (actor : Actor) (p : Priorities actor) (x : State) (u : List (List ℤ))
    → ¬ IsActorState actor x
    → ((a : ℕ) → (behaviour actor p).effect x u a ≡ None) × ((behaviour actor p).choice x u ≡ Waits)

-- a sound actor has priorities, ..
abbrev pub SoundHavePriorities : Type 0
SoundHavePriorities = (actor : Actor) → IsSound actor → Priorities actor

-- .. which action is above which is determined by the actor, ..
abbrev pub AboveIsOne : Type 0
AboveIsOne = (actor : Actor) (p q : Priorities actor) (a b : ℕ) → a < length actor.actions
    → b < length actor.actions
    → p.above a b ≡ q.above a b

-- .. and so are the line of the actions, ..
abbrev pub LineIsOne : Type 0
LineIsOne = (actor : Actor) (p q : Priorities actor) → p.line ≡ q.line

-- .. what is chosen, ..
abbrev pub ChoiceIsOne : Type 0
ChoiceIsOne = (actor : Actor) (p q : Priorities actor) (x : State) (u : List (List ℤ))
    → choice actor p x u ≡ choice actor q x u

-- .. the effect of each action ..
abbrev pub EffectIsOne : Type 0
EffectIsOne = (actor : Actor) (p q : Priorities actor) (x : State) (u : List (List ℤ)) (a : ℕ)
    → effect actor p x u a ≡ effect actor q x u a

-- .. and the whole behaviour
abbrev pub BehaviourIsOne : Type 0
BehaviourIsOne = (actor : Actor) (p q : Priorities actor) → behaviour actor p ≡ behaviour actor q

-- ---- tags

-- a tag stands for the actions whose tags begin with its components, an `initialize` excepted
abbrev pub TagsStandFor : Type 0
TagsStandFor = (actor : Actor) (tag : List (List ℕ)) (a : ℕ) → Contains (stands_for tag actor) a
    ↔ IsMeant tag (slice_get actor.actions a)

-- a transition leads from its one state to the other, by each action that one of its tags stands for
abbrev pub TransitionsLead : Type 0
TransitionsLead = (actor : Actor) (t : Transition) (m : Move) → Contains (moves_of actor t) m
    ↔ IsMoveOf actor t m

-- a chain puts an action above another if a tag stands for the one and the next tag for the other
abbrev pub ChainsPutAbove : Type 0
ChainsPutAbove = (actor : Actor) (tags : List (List (List ℕ))) (a b : ℕ)
    → Contains (pairs_of actor tags) (a, b) ↔ IsPairOf actor tags a b

-- ---- states and tokens

-- the test of states says what `IsActorState` does
abbrev pub StatesAreTested : Type 0
StatesAreTested = (actor : Actor) (x : State) → (is_actor_state actor x ≡ true)
    ↔ IsActorState actor x

-- a sound actor begins in one of its states
abbrev pub StartIsState : Type 0
StartIsState = (actor : Actor) → IsSound actor → IsActorState actor (start_of actor)

-- a firing leaves a sound actor in one of its states ..
abbrev pub FiringsKeepStates : Type 0
FiringsKeepStates = (actor : Actor) (x y : State) (u sent : List (List ℤ)) (a : ℕ) (taken : ℕ → ℕ)
    → IsSound actor → IsActorState actor x → AreTokensOf actor u → IsFiring actor x u a y taken sent
    → IsActorState actor y

-- .. and so does its behaviour, in any state and over any tokens
abbrev pub BehaviourKeepsStates : Type 0
BehaviourKeepsStates =
    (actor : Actor) (p : Priorities actor) (x y : State) (u sent : List (List ℤ)) (a : ℕ)
    → IsSound actor → (behaviour actor p).effect x u a ≡ Some (Fires y sent) → IsActorState actor y

-- In a sound actor's state and over tokens of its ports, each guard of an action is a truth value or traps, ..
abbrev pub GuardsAreTruths : Type 0
GuardsAreTruths =
    (actor : Actor) (x : State) (u : List (List ℤ)) (a k left : ℕ) (act : Action) (g : Tree)
    → IsSound actor → IsActorState actor x → AreTokensOf actor u
    → slice_get actor.actions a ≡ Some act → slice_get act.guards k ≡ Some g
    → GivesOrTraps (HasKind BoolKind) (eval g (calls_of actor.funs) (seen_by actor x u act) left)

-- .. the body of an action that is eligible leaves one of the actor's states or traps, ..
abbrev pub BodiesGiveOrTrap : Type 0
BodiesGiveOrTrap = (actor : Actor) (x : State) (u : List (List ℤ)) (a : ℕ)
    → IsSound actor → IsActorState actor x → AreTokensOf actor u → eligible actor x.at a ≡ true
    → GivesOrTraps (λ f. IsActorState actor f.state) (body actor x u a)

-- .. and so an action that is exposed and enabled fires or traps
abbrev pub EnabledFiresOrTraps : Type 0
EnabledFiresOrTraps = (actor : Actor) (x : State) (u : List (List ℤ)) (a : ℕ)
    → IsSound actor → IsActorState actor x → AreTokensOf actor u → IsExposed actor x u a
    → IsEnabled actor x u a
    → ((y : State) × (sent : List (List ℤ)) × IsFiring actor x u a y (need actor a) sent)
    ⊎ ((c : Trap) × IsTrapping actor x u a c)

-- the behaviour of a sound actor is lawful, whatever the states and the tokens
abbrev pub BehaviourIsLawful : Type 0
BehaviourIsLawful = (actor : Actor) (p : Priorities actor) → IsSound actor
    → IsLawful (behaviour actor p)

-- tokens as they are stored are tokens of the ports ..
abbrev pub KeptAreTokens : Type 0
KeptAreTokens = (actor : Actor) (u : List (List ℤ)) → IsSound actor
    → AreTokensOf actor (kept_tokens actor u)

-- .. which stay as they are, ..
abbrev pub TokensStay : Type 0
TokensStay = (actor : Actor) (u : List (List ℤ)) → IsSound actor → AreTokensOf actor u
    → kept_tokens actor u ≡ u

-- .. and there are as many on each port
abbrev pub AsManyAreKept : Type 0
AsManyAreKept = (actor : Actor) (u : List (List ℤ)) (port : ℕ) → port < length actor.ins
    → length (tokens_on (kept_tokens actor u) port) ≡ length (tokens_on u port)

-- ---- loops

-- a loop over n numbers makes n turns if its body makes none ..
abbrev pub LoopsCountTurns : Type 0
LoopsCountTurns = (n left : ℕ) (i : ℤ) (env : Env)
    → for_loop n i (λ at now k. Gives now k) env (n + left) ≡ Gives env left

-- .. and is one turn too many if fewer are left
abbrev pub LoopsEndByTurns : Type 0
LoopsEndByTurns = (n left : ℕ) (i : ℤ) (env : Env) → left < n
    → for_loop n i (λ at now k. Gives now k) env left ≡ Traps TurnLimit

-- A `while` evaluates its condition; if it is true, a turn and the body follow, and then the same `while`. The bound
-- that its definition is started with never shows.
abbrev pub WhileUnfolds : Type 0
WhileUnfolds = (test body : Tree) (at : ℕ) (calls : Calls) (runs : Runs) (env : Env) (left : ℕ)
    → CallsTakeTurns calls → RunsTakeTurns runs
    → exec (tree.while_stmt test body at) calls runs env left
    ≡ and_then (eval test calls env left) (λ v m.
    chosen v (λ k. turn k (λ j. and_then (exec_all body calls runs env j)
    (λ next i. exec (tree.while_stmt test body at) calls runs next i))) (λ k. Gives env k) m)

-- a loop over the numbers from low to high does nothing if there are none; else a turn and the body at the first
-- follow, and then the loop from the next one
abbrev pub NumbersUnfold : Type 0
NumbersUnfold = (low high : ℤ) (body : ℤ → Env → ℕ → Out Env) (env : Env) (left : ℕ)
    → for_loop (span low high) low body env left
    ≡ (if int_lt high low then Gives env left
    else turn left (λ m. and_then (body low env m)
    (λ next k. for_loop (span (low +ℤ pos 1) high) (low +ℤ pos 1) body next k)))

-- functions leave no more turns than they get ..
abbrev pub FunctionsTakeTurns : Type 0
FunctionsTakeTurns = (funs : List Fun) → CallsTakeTurns (calls_of funs)

-- .. and neither do procedures
abbrev pub ProceduresTakeTurns : Type 0
ProceduresTakeTurns = (procs : List Proc) (calls : Calls) → CallsTakeTurns calls
    → RunsTakeTurns (runs_of procs calls)

-- ---- kinds

-- an expression with a kind gives a value of that kind, or traps; if the environment lacks names, it may lack one ..
abbrev pub KindIsKept : Type 0
KindIsKept = (names : Names) (env : Env) (e : Tree) (k : Kind) (left : ℕ)
    → Each (IsOfItsKinds names) names.funs → IsEnvOf names env → kind e names ≡ Fine k
    → GivesOnly (HasKind k) left (eval e (calls_of names.funs) env left)

-- .. and lacks none if the environment has all, and no function calls itself, directly or indirectly
abbrev pub NothingIsLacking : Type 0
NothingIsLacking = (names : Names) (env : Env) (e : Tree) (k : Kind) (left : ℕ)
    → Each (IsOfItsKinds names) names.funs → FunsNeverReturn names.funs → IsEnvOf names env
    → HasAllOf names env → kind e names ≡ Fine k
    → LacksNothing (eval e (calls_of names.funs) env left)

-- if no name is declared inside, what an expression gives as a constant is what it gives over the constants
abbrev pub ConstantIsValue : Type 0
ConstantIsValue = (globals : List Known) (funs : List Fun) (e : Tree)
    → constant e (record { globals = globals; locals = []; funs = funs })
    ≡ eval e (calls_of funs) (record { globals = constants globals; locals = [] }) max_turns

-- the same for expressions in order, ..
abbrev pub KindsAreKept : Type 0
KindsAreKept = (names : Names) (env : Env) (es : Tree) (ks : List Kind) (left : ℕ)
    → Each (IsOfItsKinds names) names.funs → IsEnvOf names env → kinds es names ≡ Fine ks
    → GivesOnly (AreOfKinds ks) left (eval_all es (calls_of names.funs) env left)

-- .. for arguments, ..
abbrev pub ArgumentsAreKept : Type 0
ArgumentsAreKept = (names : Names) (env : Env) (args : Tree) (formals : List Local) (left : ℕ)
    → Each (IsOfItsKinds names) names.funs → IsEnvOf names env
    → arguments_fit args formals names ≡ Fine true
    → GivesOnly (AreArguments formals) left (eval_all args (calls_of names.funs) env left)

-- .. for the elements that generators make, ..
abbrev pub ElementsAreKept : Type 0
ElementsAreKept = (names : Names) (env : Env) (gens : Tree) (n : ℕ) (k : Kind)
    (item : Env → ℕ → Out Value) (left : ℕ)
    → Each (IsOfItsKinds names) names.funs → IsEnvOf names env → elements_in gens names ≡ Fine n
    → ((inner : Env) (m : ℕ) → IsEnvOf (with_counters gens names) inner
    → GivesOnly (HasKind k) m (item inner m))
    → GivesOnly (AreMany n k) left (elements gens item (calls_of names.funs) env left)

-- .. and for a call
abbrev pub CallIsKept : Type 0
CallIsKept =
    (names : Names) (globals : List Var) (name : List ℕ) (f : Fun) (args : Values) (left : ℕ)
    → Each (IsOfItsKinds names) names.funs → StandFor names.globals globals
    → fun_named name names.funs ≡ Some f → AreArguments f.formals args
    → GivesOnly (HasKind (kind_of_scalar f.result)) left
    (calls_of names.funs globals name args left)

-- If no function calls itself, directly or indirectly, what one gives is what its body gives over all functions: the
-- bound on open calls never shows.
abbrev pub CallIsAnswered : Type 0
CallIsAnswered = (funs : List Fun) (globals : List Var) (name : List ℕ) (args : Values) (left : ℕ)
    → FunsNeverReturn funs → calls_of funs globals name args left
    ≡ answer funs globals args left (fun_named name funs)

-- The same of procedures: what one makes of the globals is what its arguments, its locals and its body make of them over
-- all procedures.
abbrev pub RunIsPerformed : Type 0
RunIsPerformed = (procs : List Proc) (calls : Calls) (globals : List Var) (name : List ℕ)
    (args : Values) (left : ℕ)
    → ProcsNeverReturn procs → runs_of procs calls globals name args left
    ≡ made procs calls globals args left (proc_named name procs)

-- the functions of a sound actor are of their kinds
abbrev pub SoundFunsAreOfKinds : Type 0
SoundFunsAreOfKinds = (actor : Actor) → IsSound actor
    → Each (IsOfItsKinds (names_of actor)) actor.funs

-- a type that is judged over the constants is the one that is meant, with as many turns left, ..
abbrev pub TypeIsKept : Type 0
TypeIsKept = (names : Names) (env : Env) (shape : Tree) (t : Shape) (left : ℕ)
    → Each (IsOfItsKinds names) names.funs → IsEnvOf names env → type_judged shape names ≡ Fine t
    → GivesOnly (λ meant. meant ≡ t) left (type_meant shape (calls_of names.funs) env left)

-- .. and so are its arguments
abbrev pub TypeArgumentsAreKept : Type 0
TypeArgumentsAreKept = (names : Names) (env : Env) (args : Tree) (judged : List Argument) (left : ℕ)
    → Each (IsOfItsKinds names) names.funs → IsEnvOf names env
    → type_arguments args names ≡ Fine judged
    → GivesOnly (λ given. given ≡ given_by judged) left
    (args_given args (calls_of names.funs) env left)

-- its sizes are allowed
abbrev pub JudgedIsType : Type 0
JudgedIsType = (names : Names) (shape : Tree) (t : Shape) → type_judged shape names ≡ Fine t
    → IsType t

-- ---- environments of names

-- the variable of a generator or a loop keeps an environment to its names, ..
abbrev pub CounterIsKept : Type 0
CounterIsKept = (names : Names) (env : Env) (name : List ℕ) (t : Shape) (at : ℕ) (i : ℤ)
    → IsEnvOf names env → IsType t → counts t at ≡ Fine t
    → IsEnvOf (with_known (counter name) names)
    (with_local (variable name t false (stored t (Num i))) env)

-- .. and so do the arguments of a function ..
abbrev pub EntryIsKept : Type 0
EntryIsKept = (names : Names) (globals : List Var) (f : Fun) (args : Values) (left : ℕ)
    → IsOfItsKinds names f → StandFor names.globals globals → AreArguments f.formals args
    → GivesOnly (IsEnvOf (with_locals f.formals (outside names))) left
    (on_call globals f.formals args left)

-- .. and its locals
abbrev pub LocalsAreKept : Type 0
LocalsAreKept = (names : Names) (env : Env) (locals : List Local) (left : ℕ)
    → Each (IsOfItsKinds names) names.funs → IsEnvOf names env → StartsAreOf locals names
    → GivesOnly (IsEnvOf (with_locals locals names)) left
    (declared locals (calls_of names.funs) env left)
