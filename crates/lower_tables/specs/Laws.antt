-- What holds of lowered actors with the tables of an actor, as statements.
-- Trusted: part of what a promise means.
use Rattle.std.specs.Prelude.{◌≡◌, ℕ, ◌<◌, ℤ, List, length, Some}
use Rattle.rvc_base.specs.Lawful.{tokens_on}
use Rattle.net_model.specs.Alike.{BehaveAlike}
use Rattle.priority_order.specs.Ranking.{is_above}
use Rattle.cal_model.specs.Env.{Var}
use Rattle.cal_model.specs.Actor.{Actor}
use Rattle.cal_model.specs.Eligible.{IsStateOf, eligible, next}
use Rattle.cal_model.specs.Rates.{need, give}
use Rattle.cal_model.specs.Selection.{Priorities, has_its_tokens}
use Rattle.cal_model.specs.Firing.{behaviour}
use Rattle.cal_model.specs.Sound.{IsSound}
use Rattle.lowered_actor.specs.Actor as coded
use Rattle.lowered_actor.specs.Facts.{IsLowered}
use Rattle.lowered_actor.specs.Meaning as lowered
use Rattle.lower_tables.specs.Carrying.{HasTables, StandsFor, HoldsNumbers, MayCome, GuardsAreAlike, GuardsRunAlike, BodiesAreAlike, BodiesRunAlike}

-- each action takes and sends as many tokens as that of the actor, on each port ..
abbrev pub RatesAreMeant : Type 0
RatesAreMeant = (actor : Actor) (l : coded.Actor) (a p : ℕ) → IsSound actor → HasTables actor l
    → (lowered.need l a p ≡ need actor a p) × (lowered.give l a p ≡ give actor a p)

-- .. and has its tokens where that does
abbrev pub TokensAreMeant : Type 0
TokensAreMeant = (actor : Actor) (l : coded.Actor) (u : List (List ℤ)) (a : ℕ) → IsSound actor
    → HasTables actor l
    → lowered.has_its_tokens l (tokens_on u) a ≡ has_its_tokens actor u a

-- in each state of the actor the same actions are eligible ..
abbrev pub EligibleIsMeant : Type 0
EligibleIsMeant = (actor : Actor) (l : coded.Actor) (s a : ℕ) → HasTables actor l
    → IsStateOf actor s → a < length actor.actions
    → lowered.is_eligible l s a ≡ eligible actor s a

-- .. and lead to the same states
abbrev pub NextIsMeant : Type 0
NextIsMeant = (actor : Actor) (l : coded.Actor) (s a to : ℕ) → HasTables actor l
    → IsStateOf actor s → a < length actor.actions → next actor s a ≡ Some to
    → lowered.next l s a ≡ to

-- the same actions are above others ..
abbrev pub AboveIsMeant : Type 0
AboveIsMeant = (actor : Actor) (p : Priorities actor) (l : coded.Actor) (a b : ℕ)
    → HasTables actor l → a < length actor.actions → b < length actor.actions
    → is_above l.order a b ≡ p.above a b

-- .. and they are tried in the same line
abbrev pub LineIsMeant : Type 0
LineIsMeant = (actor : Actor) (p : Priorities actor) (l : coded.Actor) → HasTables actor l
    → l.order.line ≡ p.line

-- If besides its guards and its firings do what those of the actor do, it behaves as the actor does.
abbrev pub BehavesAsMeant : Type 0
BehavesAsMeant = (actor : Actor) (p : Priorities actor) (l : coded.Actor)
    (numbers : List Var → List ℤ) → IsSound actor → HasTables actor l
    → HoldsNumbers actor numbers l → GuardsAreAlike actor numbers l
    → BodiesAreAlike actor numbers l
    → BehaveAlike (StandsFor actor numbers) (MayCome actor) (lowered.behaviour l)
    (behaviour actor p)

-- Whether guards say the same is seen from one run of each in each state, whatever the cells behind the state cells
-- hold at first ..
abbrev pub GuardRunsSuffice : Type 0
GuardRunsSuffice = (actor : Actor) (l : coded.Actor) (numbers : List Var → List ℤ) → IsSound actor
    → HasTables actor l → IsLowered l → GuardsRunAlike actor numbers l
    → GuardsAreAlike actor numbers l

-- .. and so it is with firings
abbrev pub FiringRunsSuffice : Type 0
FiringRunsSuffice = (actor : Actor) (l : coded.Actor) (numbers : List Var → List ℤ)
    → IsSound actor → HasTables actor l → IsLowered l → BodiesRunAlike actor numbers l
    → BodiesAreAlike actor numbers l
