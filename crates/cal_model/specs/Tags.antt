-- What tags stand for in schedules and priorities (CAL Language Report, action tags, action schedules, priorities).
-- Trusted: part of what a promise means.
use Rattle.std.specs.Prelude.{◌≡◌, ◌≢◌, ℕ, suc, Bool, true, false, not, ◌&&◌, ◌||◌, List, [], ◌∷◌, ◌++◌, map, Contains, if◌then◌else◌, Option, None, Some, slice_get}
use Rattle.std.specs.Str.{bytes_eq}
use Rattle.cal_model.specs.Actor.{Action, Move, Actor}
use Rattle.cal_model.specs.Eligible.{is_empty}

-- ---- tags

-- A tag is its components in order. It is a prefix of another by whole components: `a` of `a.b`, and not of `ab`.
abbrev pub is_prefix_tag : List (List ℕ) → List (List ℕ) → Bool
is_prefix_tag [] ys = true
is_prefix_tag (x ∷ xs) [] = false
is_prefix_tag (x ∷ xs) (y ∷ ys) = bytes_eq x y && is_prefix_tag xs ys

-- an action that has a tag, and isn't an `initialize`
abbrev pub may_be_meant : Action → Bool
may_be_meant act = not act.initialize && not (is_empty act.tag)

-- the numbers of the actions that a tag stands for, if the first is number k
abbrev pub stands_from : ℕ → List (List ℕ) → List Action → List ℕ
stands_from k tag [] = []
stands_from k tag (act ∷ acts) = if may_be_meant act && is_prefix_tag tag act.tag then k
    ∷ stands_from (suc k) tag acts else stands_from (suc k) tag acts

-- A tag stands for each action whose tag it is a prefix of, in text order: never for an `initialize`, and never for an
-- untagged one.
abbrev pub stands_for : List (List ℕ) → Actor → List ℕ
stands_for tag actor = stands_from 0 tag actor.actions

-- the same in words: the tag begins with these components
pub record IsMeantBy (tag : List (List ℕ)) (act : Action) : Type 0 where
  pub later : act.initialize ≡ false
  pub tagged : act.tag ≢ []
  pub rest : List (List ℕ)
  pub begins : act.tag ≡ tag ++ rest

abbrev pub IsMeant : List (List ℕ) → Option Action → Type 0
IsMeant tag None = ⊥
IsMeant tag (Some act) = IsMeantBy tag act

-- ---- schedules

-- a transition as it is written: from a state, by tags, to a state
pub record Transition : Type 0 where
  pub from : List ℕ
  pub tags : List (List (List ℕ))
  pub to : List ℕ

abbrev pub is_seen : List ℕ → List (List ℕ) → Bool
is_seen name [] = false
is_seen name (x ∷ xs) = bytes_eq x name || is_seen name xs

-- a name behind those that were seen, unless it is one of them
abbrev pub with_seen : List (List ℕ) → List ℕ → List (List ℕ)
with_seen seen name = if is_seen name seen then seen else seen ++ (name ∷ [])

abbrev pub seen_in : List (List ℕ) → List Transition → List (List ℕ)
seen_in seen [] = seen
seen_in seen (t ∷ ts) = seen_in (with_seen (with_seen seen t.from) t.to) ts

-- the states of a schedule in order of first appearance, the initial one first
abbrev pub states_seen : List ℕ → List Transition → List (List ℕ)
states_seen initial transitions = seen_in (initial ∷ []) transitions

-- the number of a name: how many stand before it
abbrev pub number_of_name : List ℕ → List (List ℕ) → ℕ
number_of_name name [] = 0
number_of_name name (x ∷ xs) = if bytes_eq x name then 0 else suc (number_of_name name xs)

-- by each of these actions from one state to another
abbrev pub moves_by : ℕ → List ℕ → ℕ → List Move
moves_by from actions to = map (λ a. record { from = from; action = a; to = to }) actions

abbrev pub moves_by_tags : Actor → ℕ → List (List (List ℕ)) → ℕ → List Move
moves_by_tags actor from [] to = []
moves_by_tags actor from (tag ∷ tags) to = moves_by from (stands_for tag actor) to
    ++ moves_by_tags actor from tags to

-- what a transition means: it leads from the one state to the other by each action that one of its tags stands for
abbrev pub moves_of : Actor → Transition → List Move
moves_of actor t = moves_by_tags actor (number_of_name t.from actor.states) t.tags
    (number_of_name t.to actor.states)

-- the same in words
pub record IsMoveOf (actor : Actor) (t : Transition) (m : Move) : Type 0 where
  pub from : m.from ≡ number_of_name t.from actor.states
  pub to : m.to ≡ number_of_name t.to actor.states
  pub tag : List (List ℕ)
  pub named : Contains t.tags tag
  pub by : Contains (stands_for tag actor) m.action

-- ---- priorities

-- each of the ones above each of the others
abbrev pub each_above : List ℕ → List ℕ → List (ℕ × ℕ)
each_above [] lower = []
each_above (a ∷ higher) lower = map (λ b. (a, b)) lower ++ each_above higher lower

-- what a chain of tags means: each action that a tag stands for is above each that the next tag stands for
abbrev pub pairs_of : Actor → List (List (List ℕ)) → List (ℕ × ℕ)
pairs_of actor [] = []
pairs_of actor (tag ∷ []) = []
pairs_of actor (tag ∷ next ∷ tags) = each_above (stands_for tag actor) (stands_for next actor)
    ++ pairs_of actor (next ∷ tags)

-- the same in words: this tag of the chain stands for the one, and the tag behind it for the other
pub record IsPairOf (actor : Actor) (tags : List (List (List ℕ))) (a b : ℕ) : Type 0 where
  pub at : ℕ
  pub upper : List (List ℕ)
  pub lower : List (List ℕ)
  pub is_upper : slice_get tags at ≡ Some upper
  pub is_lower : slice_get tags (suc at) ≡ Some lower
  pub above : Contains (stands_for upper actor) a
  pub below : Contains (stands_for lower actor) b
