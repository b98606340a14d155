-- Schedules and priorities ask for an actor's actions and states alone.
use Rattle.std.proofs.Common.{◌≡◌, ℕ, List, [], ◌∷◌, ◌++◌, refl, sym, ap, ◌∙◌, Option, Some, not}
use Rattle.rvc_base.specs.Rules.{ambiguous_transition}
use Rattle.cal_ast.specs.Tree as tree
use Rattle.cal_ast.specs.Tree.{Tree}
use Rattle.cal_model.specs.Actor.{Action, Actor, Move}
use Rattle.cal_model.specs.Tags.{Transition, each_above, moves_by, moves_by_tags, moves_of, number_of_name, pairs_of, stands_for}
use Rattle.cal_check.specs.Violations.{unless}
use Rattle.cal_check.specs.Schedules.{chains_pairs, moves_broken, moves_in, moves_listed, pairs_in, schedule_broken, some_conflict, tags_broken, tags_listed, transition_of, transitions_of}
use Rattle.check_member.specs.Parts.{actor_with}

abbrev bare : Actor → Actor
bare actor = actor_with actor.actions actor.states

by-tags : (actor : Actor) (from : ℕ) (tags : List (List (List ℕ))) (to : ℕ) → moves_by_tags actor from tags to ≡ moves_by_tags (bare actor) from tags to
by-tags actor from [] to = refl
by-tags actor from (tag ∷ tags) to = ap (λ ms. moves_by from (stands_for tag actor) to ++ ms) (by-tags actor from tags to)

of-transition : (actor : Actor) (t : Transition) → moves_of actor t ≡ moves_of (bare actor) t
of-transition actor t = by-tags actor (number_of_name t.from actor.states) t.tags (number_of_name t.to actor.states)

listed-same : (actor : Actor) (ts : List Transition) → moves_listed actor ts ≡ moves_listed (bare actor) ts
listed-same actor [] = refl
listed-same actor (t ∷ ts) = ap (λ ms. ms ++ moves_listed actor ts) (of-transition actor t) ∙ ap (λ ms. moves_of (bare actor) t ++ ms) (listed-same actor ts)

broken-same : (ms : Tree) (before : List Move) (actor : Actor) → moves_broken ms before actor ≡ moves_broken ms before (bare actor)
broken-same (tree.cons (tree.move from tags to at) ms) before actor =
    let t : Transition = transition_of (tree.move from tags to at) in
    ap (λ own. tags_broken tags actor.actions ++ (unless (not (some_conflict own before)) ambiguous_transition at ++ moves_broken ms (before ++ own) actor)) (of-transition actor t)
    ∙ ap (λ vs. tags_broken tags actor.actions ++ (unless (not (some_conflict (moves_of (bare actor) t) before)) ambiguous_transition at ++ vs)) (broken-same ms (before ++ moves_of (bare actor) t) actor)
broken-same other before actor = refl

of-chain : (actor : Actor) (tags : List (List (List ℕ))) → pairs_of actor tags ≡ pairs_of (actor_with actor.actions []) tags
of-chain actor [] = refl
of-chain actor (tag ∷ []) = refl
of-chain actor (tag ∷ next ∷ tags) = ap (λ ps. each_above (stands_for tag actor) (stands_for next actor) ++ ps) (of-chain actor (next ∷ tags))

of-chains : (chains : Tree) (actor : Actor) → chains_pairs chains actor ≡ chains_pairs chains (actor_with actor.actions [])
of-chains (tree.cons chain chains) actor =
    ap (λ ps. ps ++ chains_pairs chains actor) (of-chain actor (tags_listed chain))
    ∙ ap (λ ps. pairs_of (actor_with actor.actions []) (tags_listed chain) ++ ps) (of-chains chains actor)
of-chains other actor = refl

pairs-bare : (members : Tree) (actor : Actor) → pairs_in members actor ≡ pairs_in members (actor_with actor.actions [])
pairs-bare (tree.cons (tree.priority chains at) ms) actor =
    ap (λ ps. ps ++ pairs_in ms actor) (of-chains chains actor)
    ∙ ap (λ ps. chains_pairs chains (actor_with actor.actions []) ++ ps) (pairs-bare ms actor)
pairs-bare (tree.cons m ms) actor = pairs-bare ms actor
pairs-bare other actor = refl

moves-bare : (schedule : Option Tree) (actor : Actor) → moves_in schedule actor ≡ moves_in schedule (bare actor)
moves-bare (Some (tree.schedule start moves at)) actor = listed-same actor (transitions_of moves)
moves-bare other actor = refl

schedule-bare : (schedule : Option Tree) (actor : Actor) → schedule_broken schedule actor ≡ schedule_broken schedule (bare actor)
schedule-bare (Some (tree.schedule start moves at)) actor = broken-same moves [] actor
schedule-bare other actor = refl

-- ---- an actor with these actions and states

pub pairs-same : (members : Tree) (actor : Actor) (acts : List Action) → actor.actions ≡ acts → pairs_in members (actor_with acts []) ≡ pairs_in members actor
pairs-same members actor acts e = ap (λ xs. pairs_in members (actor_with xs [])) (sym e) ∙ sym (pairs-bare members actor)

pub moves-same : (schedule : Option Tree) (actor : Actor) (acts : List Action) (states : List (List ℕ)) → actor.actions ≡ acts → actor.states ≡ states → moves_in schedule (actor_with acts states) ≡ moves_in schedule actor
moves-same schedule actor acts states e f =
    ap (λ xs. moves_in schedule (actor_with xs states)) (sym e) ∙ ap (λ ys. moves_in schedule (actor_with actor.actions ys)) (sym f) ∙ sym (moves-bare schedule actor)

pub schedule-same : (schedule : Option Tree) (actor : Actor) (acts : List Action) (states : List (List ℕ)) → actor.actions ≡ acts → actor.states ≡ states → schedule_broken schedule (actor_with acts states) ≡ schedule_broken schedule actor
schedule-same schedule actor acts states e f =
    ap (λ xs. schedule_broken schedule (actor_with xs states)) (sym e) ∙ ap (λ ys. schedule_broken schedule (actor_with actor.actions ys)) (sym f) ∙ sym (schedule-bare schedule actor)
