-- What the certifier is judged by stands for the actor's schedule and priorities.
-- Trusted: part of what a promise means.
use Rattle.std.specs.Prelude.{◌≡◌, ◌↔◌, ℕ, ◌+◌, ◌*◌, ◌<◌, IsTrue, IsSome, Bool, true, false, not, ◌&&◌, ◌||◌, List, [], length, slice_index_or, Option, None, Some, option_map, Result, Ok, Err}
use Rattle.rvc_base.specs.Line.{IsLine}
use Rattle.schedule_fsm.specs.Automaton.{Automaton, target}
use Rattle.schedule_fsm.specs.declared.fsm.Step.{Step}
use Rattle.priority_order.specs.Ranking.{Ranking, is_above}
use Rattle.cal_model.specs.declared.bound.BoundMove.{BoundMove}
use Rattle.cal_model.specs.Actor.{Pattern, Action, Actor}
use Rattle.cal_model.specs.Eligible.{eligible, is_empty, states_of}
use Rattle.cal_model.specs.Selection.{Above}
use Rattle.cal_model.specs.Sound.{Each, IsSound}
use Rattle.cal_model.specs.View.{actor_of}
use Rattle.cal_model.specs.Certified.{IsCertified}
use Rattle.determinacy_cert.specs.declared.table.Table.{Table}
use Rattle.determinacy_cert.specs.declared.certifier.Known.{Known}
use Rattle.determinacy_cert.specs.declared.certifier.Failure.{Failure as DeclaredFailure}
use Rattle.determinacy_cert.specs.declared.fault.CertFault.{CertFault}
use Rattle.determinacy_cert.specs.declared.fault.CertFault.TheVariants.{Uncertified, Memory}
use Rattle.determinacy_cert.specs.Failing.{Failure, action_judged, pair_judged, first}

-- the actor of a table, and which of its actions is above which
abbrev pub actor_in : Table → Actor
actor_in t = actor_of t.actor.now

abbrev pub above_in : Table → ℕ → ℕ → Bool
above_in t = is_above t.order

abbrev pub step_of : BoundMove → Step
step_of m = record { from = m.from; action = m.action; to = m.to }

-- eligible in each state of the schedule, which it doesn't change
abbrev pub is_free : Bool → Action → Bool
is_free stateless act = not act.initialize && (is_empty act.tag || stateless)

-- the automaton of the actor's schedule, without the fresh state
pub record IsAutomaton (actor : Actor) (fsm : Automaton) : Type 0 where
  pub states : fsm.states ≡ states_of actor
  pub actions : fsm.actions ≡ length actor.actions
  pub leads : (s a : ℕ) → s < states_of actor → a < length actor.actions → IsSome (target fsm s a)
      ↔ (eligible actor s a ≡ true)

-- the order of the actor's priorities
pub record IsPriority (actor : Actor) (order : Ranking) : Type 0 where
  pub count : order.count ≡ length actor.actions
  pub above : (a b : ℕ) → a < length actor.actions → b < length actor.actions
      → IsTrue (is_above order a b) ↔ Above actor a b
  pub line : IsLine (length actor.actions) (Above actor) order.line

-- the table of a sound actor
pub record IsTable (t : Table) : Type 0 where
  pub sound : IsSound (actor_of t.actor.now)
  pub actions : t.actions ≡ length t.actor.now.actions.items
  pub states : t.states ≡ states_of (actor_of t.actor.now)
  pub automaton : IsAutomaton (actor_of t.actor.now) t.fsm
  pub priority : IsPriority (actor_of t.actor.now) t.order

-- each of these patterns names an input port
abbrev pub HavePorts : Actor → List Pattern → Type 0
HavePorts actor qs = Each (λ q. q.port < length actor.ins) qs

-- ---- what was found fine already

-- each entry that is set says so of an action or a pair, and there is one for each
pub record IsKnown (actor : Actor) (above : ℕ → ℕ → Bool) (known : Known) : Type 0 where
  pub tame_count : length known.tame.items ≡ length actor.actions
  pub fine_count : length known.fine.items ≡ length actor.actions * length actor.actions
  pub tame : (a : ℕ) → a < length actor.actions → slice_index_or known.tame.items a false ≡ true
      → action_judged actor a ≡ None
  pub fine : (a b : ℕ) → a < length actor.actions → b < length actor.actions
      → slice_index_or known.fine.items (a * length actor.actions + b) false ≡ true
      → pair_judged actor above a b ≡ None

-- ---- answers

abbrev pub failure_view : DeclaredFailure → Failure
failure_view f = record { state = f.state; a = f.a; b = f.b; reason = f.reason }

abbrev pub failure_if : Option DeclaredFailure → Option Failure
failure_if f = option_map failure_view f

-- .. of what is known of the actor of a table
abbrev pub Knows : Table → Known → Type 0
Knows t known = IsKnown (actor_in t) (above_in t) known

-- Ok where there is no failure, else the first; out of memory says nothing
abbrev pub Answers : Result (Unit {0}) CertFault → List Failure → Type 0
Answers (Ok u) listed = listed ≡ []
Answers (Err (Uncertified state a b reason)) listed = first listed
    ≡ Some (record { state = state; a = a.0; b = b.0; reason = reason })
Answers (Err Memory) listed = Unit {0}

-- the actor isn't certified; out of memory says nothing
abbrev pub IsCause : Actor → CertFault → Type 0
IsCause actor (Uncertified state a b reason) = ¬ IsCertified actor
IsCause actor Memory = Unit {0}
