-- Schedules and priorities: what they mean, and the rules that they break (CAL Language Report, action schedules and
-- priorities).
-- Trusted: part of what a promise means.
use Rattle.std.specs.Prelude.{ℕ, Bool, false, ◌&&◌, ◌||◌, not, ◌==◌, List, [], ◌∷◌, ◌++◌, Option, None, Some}
use Rattle.rvc_base.specs.Rules.{unknown_tag, ambiguous_transition}
use Rattle.cal_ast.specs.Tree as tree
use Rattle.cal_ast.specs.Tree.{Tree}
use Rattle.cal_model.specs.Actor.{Action, Move, Actor}
use Rattle.cal_model.specs.Tags.{Transition, is_prefix_tag, states_seen, moves_of, pairs_of}
use Rattle.cal_check.specs.Violations.{Violation, unless}
use Rattle.cal_check.specs.Actions.{tag_parts}

-- ---- tags

-- a tag is the prefix of some action's tag
abbrev pub stands_somewhere : List (List ℕ) → List Action → Bool
stands_somewhere tag [] = false
stands_somewhere tag (act ∷ acts) = is_prefix_tag tag act.tag || stands_somewhere tag acts

-- tags that stand for no action
abbrev pub tags_broken : Tree → List Action → List Violation
tags_broken (tree.cons (tree.tag parts at) tags) acts =
    unless (stands_somewhere (tag_parts (tree.tag parts at)) acts) unknown_tag at
    ++ tags_broken tags acts
tags_broken other acts = []

abbrev pub tags_listed : Tree → List (List (List ℕ))
tags_listed (tree.cons t ts) = tag_parts t ∷ tags_listed ts
tags_listed other = []

-- ---- the schedule

abbrev pub text_of : Tree → List ℕ
text_of (tree.ident name at) = name
text_of other = []

abbrev pub transition_of : Tree → Transition
transition_of (tree.move from tags to at) =
    record { from = text_of from; tags = tags_listed tags; to = text_of to }
transition_of other = record { from = []; tags = []; to = [] }

abbrev pub transitions_of : Tree → List Transition
transitions_of (tree.cons m ms) = transition_of m ∷ transitions_of ms
transitions_of other = []

-- the schedule among members: its initial state and its transitions
abbrev pub schedule_in : Tree → Option Tree
schedule_in (tree.cons (tree.schedule start moves at) ms) = Some (tree.schedule start moves at)
schedule_in (tree.cons m ms) = schedule_in ms
schedule_in other = None

abbrev pub states_of : Option Tree → List (List ℕ)
states_of (Some (tree.schedule start moves at)) = states_seen (text_of start) (transitions_of moves)
states_of other = []

abbrev pub moves_listed : Actor → List Transition → List Move
moves_listed actor [] = []
moves_listed actor (t ∷ ts) = moves_of actor t ++ moves_listed actor ts

abbrev pub moves_in : Option Tree → Actor → List Move
moves_in (Some (tree.schedule start moves at)) actor = moves_listed actor (transitions_of moves)
moves_in other actor = []

-- one of two moves sends an action from a state elsewhere than the other
abbrev pub conflicts_with : Move → Move → Bool
conflicts_with m n = (m.from == n.from) && ((m.action == n.action) && not (m.to == n.to))

abbrev pub conflicts_with_one : Move → List Move → Bool
conflicts_with_one m [] = false
conflicts_with_one m (n ∷ ns) = conflicts_with m n || conflicts_with_one m ns

abbrev pub some_conflict : List Move → List Move → Bool
some_conflict [] before = false
some_conflict (m ∷ ms) before = conflicts_with_one m before || some_conflict ms before

-- transitions, each of which leads as those before it do, and whose tags stand for actions
abbrev pub moves_broken : Tree → List Move → Actor → List Violation
moves_broken (tree.cons (tree.move from tags to at) ms) before actor =
    tags_broken tags actor.actions
    ++ (unless (not (some_conflict
    (moves_of actor (transition_of (tree.move from tags to at))) before)) ambiguous_transition at
    ++ moves_broken ms
    (before ++ moves_of actor (transition_of (tree.move from tags to at))) actor)
moves_broken other before actor = []

abbrev pub schedule_broken : Option Tree → Actor → List Violation
schedule_broken (Some (tree.schedule start moves at)) actor = moves_broken moves [] actor
schedule_broken other actor = []

-- ---- priorities

abbrev pub chains_broken : Tree → List Action → List Violation
chains_broken (tree.cons chain chains) acts = tags_broken chain acts ++ chains_broken chains acts
chains_broken other acts = []

abbrev pub chains_pairs : Tree → Actor → List (ℕ × ℕ)
chains_pairs (tree.cons chain chains) actor =
    pairs_of actor (tags_listed chain) ++ chains_pairs chains actor
chains_pairs other actor = []

abbrev pub priorities_broken : Tree → List Action → List Violation
priorities_broken (tree.cons (tree.priority chains at) ms) acts =
    chains_broken chains acts ++ priorities_broken ms acts
priorities_broken (tree.cons m ms) acts = priorities_broken ms acts
priorities_broken other acts = []

abbrev pub pairs_in : Tree → Actor → List (ℕ × ℕ)
pairs_in (tree.cons (tree.priority chains at) ms) actor = chains_pairs chains actor
    ++ pairs_in ms actor
pairs_in (tree.cons m ms) actor = pairs_in ms actor
pairs_in other actor = []

-- the first word `priority`
abbrev pub first_priority : Tree → Option ℕ
first_priority (tree.cons (tree.priority chains at) ms) = Some at
first_priority (tree.cons m ms) = first_priority ms
first_priority other = None
