-- The firing rule: what an action makes of a state and its tokens (CAL Language Report, the execution of an actor).
-- Trusted: part of what a promise means.
use Rattle.std.specs.Prelude.{◌≡◌, ℕ, zero, suc, ◌⊎◌, List, [], ◌∷◌, ◌++◌, map, length, ◌==◌, ℤ, pos, if◌then◌else◌, Option, None, Some, slice_get}
use Rattle.std.specs.List.{range_with_len}
use Rattle.rvc_base.specs.declared.trap.Trap.{Trap}
use Rattle.rvc_base.specs.Storing.{conv}
use Rattle.rvc_base.specs.Arithmetic.{truth}
use Rattle.rvc_base.specs.Behaviour.{Behaviour, Effect, Fires, TrapsInGuard, TrapsInBody, Waits}
use Rattle.rvc_base.specs.Turns.{max_turns}
use Rattle.cal_model.specs.Value.{Value, Num, Truth, Items, Values, Nil, Cons, value_at}
use Rattle.cal_model.specs.Outcome.{Out, Gives, Traps, Lacks, Clashes, and_then}
use Rattle.cal_model.specs.Env.{Env}
use Rattle.cal_model.specs.Expression.{Calls, eval_all}
use Rattle.cal_model.specs.Actor.{Port, Output, Action, Actor}
use Rattle.cal_model.specs.Call.{calls_of, declared}
use Rattle.cal_model.specs.Statement.{runs_of, exec_all}
use Rattle.cal_model.specs.Rates.{need, give}
use Rattle.cal_model.specs.Eligible.{next}
use Rattle.cal_model.specs.Selection.{State, start_of, Priorities, kind_of_port, seen_by, Guards, AreTrue, AreFalse, AreTrapping, readiness, IsEnabled, IsExposed, is_exposed, choice}
use Rattle.cal_model.specs.ActorState.{is_actor_state, kept_tokens}

-- ---- outputs

-- a scalar as a number: a truth value is 0 or 1
abbrev pub number_of : Value → ℤ
number_of (Num z) = z
number_of (Truth b) = truth b
number_of (Items vs) = pos 0

-- the item of a list at a place, as a number
abbrev pub number_at : Value → ℕ → ℤ
number_at (Items vs) k = elim (value_at vs k) [ None ↦ pos 0 | Some v ↦ number_of v ]
number_at v k = pos 0

abbrev pub one_of_each : Values → ℕ → List ℤ
one_of_each Nil k = []
one_of_each (Cons v vs) k = number_at v k ∷ one_of_each vs k

-- the items of lists in turn: the first of each, then the second of each, n times from place k on
abbrev pub interleaved : ℕ → ℕ → Values → List ℤ
interleaved zero k vs = []
interleaved (suc n) k vs = one_of_each vs k ++ interleaved n (suc k) vs

abbrev pub numbers_of : Values → List ℤ
numbers_of Nil = []
numbers_of (Cons v vs) = number_of v ∷ numbers_of vs

-- the numbers that values send, which are lists if the output is repeated
abbrev pub sent_numbers : Option ℕ → Values → List ℤ
sent_numbers None vs = numbers_of vs
sent_numbers (Some n) vs = interleaved n 0 vs

-- the tokens of outputs, by their ports, in text order; each is stored in the type of its port
abbrev pub outputs : List Port → List Output → Calls → Env → ℕ → Out (List (ℕ × List ℤ))
outputs ports [] calls env left = Gives [] left
outputs ports (o ∷ os) calls env left =
    and_then (eval_all o.values calls env left) (λ vs m.
    and_then (outputs ports os calls env m)
    (λ rest k. Gives ((
      o.port,
      map (conv (kind_of_port ports o.port))
          (sent_numbers o.repeat vs),
    ) ∷ rest) k))

abbrev pub sent_to_port : List (ℕ × List ℤ) → ℕ → List ℤ
sent_to_port [] port = []
sent_to_port (s ∷ sent) port = if s.0 == port then s.1 else sent_to_port sent port

-- port by port
abbrev pub sent_by_port : List Port → List (ℕ × List ℤ) → List (List ℤ)
sent_by_port ports sent = map (sent_to_port sent) (range_with_len 0 (length ports))

-- ---- a firing

-- the state after a firing, and what it sent on each output port
pub record Fired : Type 0 where
  pub state : State
  pub sent : List (List ℤ)

-- The locals, the body, and then the outputs in the state that the body left, with one count of turns.
abbrev pub body_of : Actor → State → List (List ℤ) → ℕ → Action → Out Fired
body_of actor x u to act =
    let calls = calls_of actor.funs in
    and_then (declared act.locals calls (seen_by actor x u act) max_turns) (λ env m.
    and_then (exec_all act.body calls (runs_of actor.procs calls) env m) (λ last k.
    and_then (outputs actor.outs act.outputs calls last k) (λ sent j.
    Gives (record {
      state = record { at = to; vars = last.globals };
      sent = sent_by_port actor.outs sent;
    }) j)))

-- what the locals, the body and the outputs of an action come to
abbrev pub body : Actor → State → List (List ℤ) → ℕ → Out Fired
body actor x u a = elim (slice_get actor.actions a) [
  | None ↦ Clashes
  | Some act ↦ elim (next actor x.at a) [ None ↦ Clashes | Some to ↦ body_of actor x u to act ]
]

-- The action fires: it takes so many tokens from each input port, sends these on each output port, and leaves this
-- state.
pub record IsFiring (actor : Actor) (x : State) (u : List (List ℤ)) (a : ℕ) (y : State)
    (taken : ℕ → ℕ) (sent : List (List ℤ)) : Type 0 where
  pub exposed : IsExposed actor x u a
  pub enabled : IsEnabled actor x u a
  pub takes : (port : ℕ) → taken port ≡ need actor a port
  pub left : ℕ
  pub gives : body actor x u a ≡ Gives (record { state = y; sent = sent }) left

-- it is exposed, and traps in its guards, or enabled, and traps in the rest
pub record IsTrapping (actor : Actor) (x : State) (u : List (List ℤ)) (a : ℕ) (c : Trap) :
    Type 0 where
  pub exposed : IsExposed actor x u a
  pub where_ : (readiness actor x u a ≡ AreTrapping c)
      ⊎ (IsEnabled actor x u a × (body actor x u a ≡ Traps c))

-- ---- as a behaviour

abbrev pub effect_of_body : Out Fired → Option (Effect State)
effect_of_body (Gives f left) = Some (Fires f.state f.sent)
effect_of_body (Traps c) = Some (TrapsInBody c)
effect_of_body Lacks = None
effect_of_body Clashes = None

abbrev pub effect_of_exposed : Actor → State → List (List ℤ) → ℕ → Guards → Option (Effect State)
effect_of_exposed actor x u a AreTrue = effect_of_body (body actor x u a)
effect_of_exposed actor x u a AreFalse = None
effect_of_exposed actor x u a (AreTrapping c) = Some (TrapsInGuard c)

abbrev pub effect : (actor : Actor) → Priorities actor → State → List (List ℤ) → ℕ
    → Option (Effect State)
effect actor p x u a = if is_exposed actor p x u a
    then effect_of_exposed actor x u a (readiness actor x u a) else None

-- What the actor does, as networks see it: nothing but in its own states, and on tokens as its ports store them.
abbrev pub behaviour : (actor : Actor) → Priorities actor → Behaviour State
behaviour actor p = record {
  start = start_of actor;
  ins = length actor.ins;
  outs = length actor.outs;
  actions = length actor.actions;
  need = need actor;
  give = give actor;
  effect = λ x u a. if is_actor_state actor x then effect actor p x (kept_tokens actor u) a
      else None;
  choice = λ x u. if is_actor_state actor x then choice actor p x (kept_tokens actor u) else Waits;
}
