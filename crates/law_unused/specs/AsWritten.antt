-- The actor of a source as it is written there: sizes and bounds in expressions aren't written out, and nothing is left out.
-- Trusted: part of what a promise means.
use Rattle.std.specs.Prelude.{◌≡◌, ℕ, ℤ, List, [], ◌∷◌}
use Rattle.rvc_base.specs.Behaviour.{Behaviour}
use Rattle.cal_ast.specs.Tree.{Tree}
use Rattle.cal_model.specs.Actor.{Action, Actor}
use Rattle.cal_model.specs.Firing.{behaviour}
use Rattle.cal_model.specs.Selection.{Priorities, State}
use Rattle.cal_check.specs.Actions.{Around, action_of}
use Rattle.cal_check.specs.Actors.{IsSource, Source, all_funs, around_of}
use Rattle.cal_check.specs.AsWritten.{action_as_is, funs_as_are, procs_as_are}
use Rattle.cal_check.specs.Sources.{IsSourceFormed, actions_of_source, procs_of_source}
use Rattle.cal_check.specs.Variables.{Given, Spot}
use Rattle.law_unused.specs.Behaving.{IsStateOf, ShowsTheSame}
use Rattle.law_unused.specs.WholeActor.{kept_by, whole_actor, whole_order}

-- actions, with their expressions and statements as they stand
abbrev pub actions_as_are : List Tree → Around → List Action
actions_as_are [] around = []
actions_as_are (a ∷ acts) around =
    action_as_is a around (action_of a around) ∷ actions_as_are acts around

-- The actor with all that is declared, whose functions, procedures and actions are as they stand.
abbrev pub actor_as_is : Source → List Given → Spot → Actor → Actor
actor_as_is s gs owner actor = record (whole_actor s gs owner actor) {
  funs = funs_as_are (all_funs s) (around_of s gs owner).names;
  procs = procs_as_are (procs_of_source s) (around_of s gs owner).names;
  actions = actions_as_are (actions_of_source s) (around_of s gs owner);
}

-- both orders put the same actions above others, and have one line
pub record IsSameOrder {actor other : Actor} (p : Priorities actor) (q : Priorities other) :
    Type 0 where
  pub above : (a b : ℕ) → q.above a b ≡ p.above a b
  pub line : q.line ≡ p.line

-- two behaviours are the same in each state, and on all tokens
pub record IsSameBehaviour (one other : Behaviour State) : Type 0 where
  pub start : other.start ≡ one.start
  pub ins : other.ins ≡ one.ins
  pub outs : other.outs ≡ one.outs
  pub actions : other.actions ≡ one.actions
  pub need : (a port : ℕ) → other.need a port ≡ one.need a port
  pub give : (a port : ℕ) → other.give a port ≡ one.give a port
  pub effect : (x : State) (u : List (List ℤ)) (a : ℕ) → other.effect x u a ≡ one.effect x u a
  pub choice : (x : State) (u : List (List ℤ)) → other.choice x u ≡ one.choice x u

-- The order of the actor of a source is one of the actor as it is written, ..
abbrev pub SourcesAreOrderedAsWritten : Type 0
SourcesAreOrderedAsWritten = (s : Source) (gs : List Given) (owner : Spot) (actor : Actor)
    (p : Priorities actor)
    → IsSource s gs owner actor
    → (q : Priorities (actor_as_is s gs owner actor)) × IsSameOrder p q

-- .. the actor with all that is declared behaves as it is written, ..
abbrev pub WholesBehaveAsWritten : Type 0
WholesBehaveAsWritten = (s : Source) (gs : List Given) (owner : Spot) (actor : Actor)
    (p : Priorities actor) (q : Priorities (actor_as_is s gs owner actor))
    → IsSourceFormed s → IsSource s gs owner actor → IsSameOrder p q
    → IsSameBehaviour (behaviour (actor_as_is s gs owner actor) q)
    (behaviour (whole_actor s gs owner actor) (whole_order s gs owner actor p))

-- .. and so does the actor of the source, but for what isn't kept of a state.
abbrev pub SourcesBehaveAsWritten : Type 0
SourcesBehaveAsWritten = (s : Source) (gs : List Given) (owner : Spot) (actor : Actor)
    (p : Priorities actor) (q : Priorities (actor_as_is s gs owner actor))
    → IsSourceFormed s → IsSource s gs owner actor → IsSameOrder p q
    → ShowsTheSame (kept_by s) (IsStateOf (actor_as_is s gs owner actor)) (behaviour actor p)
    (behaviour (actor_as_is s gs owner actor) q)
