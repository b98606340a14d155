-- What schedules and priorities break depends on the tags of actions, and on which are an `initialize`, alone.
use Rattle.std.proofs.Common.{◌≡◌, ℕ, suc, Bool, List, [], ◌∷◌, ◌++◌, length, refl, ap, ◌∙◌}
use Rattle.std.specs.Prelude.{◌&&◌, ◌||◌, not, nat_le, if◌then◌else◌, Option, Some}
use Rattle.rvc_base.specs.Rules.{ambiguous_transition, too_many_actions, unknown_tag}
use Rattle.cal_ast.specs.Tree as tree
use Rattle.cal_ast.specs.Tree.{Tree}
use Rattle.cal_model.specs.Actor.{Action, Actor, Move}
use Rattle.cal_model.specs.Sound.{max_states}
use Rattle.cal_model.specs.Tags.{Transition, each_above, is_prefix_tag, may_be_meant, moves_by, moves_by_tags, moves_of, number_of_name, pairs_of, stands_for, stands_from}
use Rattle.cal_check.specs.Violations.{unless}
use Rattle.cal_check.specs.Actions.{tag_parts}
use Rattle.cal_check.specs.Schedules.{chains_broken, chains_pairs, moves_broken, pairs_in, priorities_broken, schedule_broken, schedule_in, some_conflict, stands_somewhere, tags_broken, tags_listed, transition_of}
use Rattle.check_build_actor.specs.Building.{heads_of, order_broken}

-- ---- lists of actions with the same heads

same_head : (x y : Action) (xs ys : List Action) → heads_of (x ∷ xs) ≡ heads_of (y ∷ ys)
    → ◌≡◌ {A = List (List ℕ) × Bool} (x.tag, x.initialize) (y.tag, y.initialize)
same_head x y xs ys h = cc

same_tag : (x y : Action) (xs ys : List Action) → heads_of (x ∷ xs) ≡ heads_of (y ∷ ys) → x.tag ≡ y.tag
same_tag x y xs ys h = ap (λ p. p.0) (same_head x y xs ys h)

same_start : (x y : Action) (xs ys : List Action) → heads_of (x ∷ xs) ≡ heads_of (y ∷ ys) → x.initialize ≡ y.initialize
same_start x y xs ys h = ap (λ p. p.1) (same_head x y xs ys h)

same_rest : (x y : Action) (xs ys : List Action) → heads_of (x ∷ xs) ≡ heads_of (y ∷ ys) → heads_of xs ≡ heads_of ys
same_rest x y xs ys h = cc

somewhere_same : (tag : List (List ℕ)) (xs ys : List Action) → heads_of xs ≡ heads_of ys → stands_somewhere tag xs ≡ stands_somewhere tag ys
somewhere_same tag [] [] h = refl
somewhere_same tag [] (y ∷ ys) h = cc
somewhere_same tag (x ∷ xs) [] h = cc
somewhere_same tag (x ∷ xs) (y ∷ ys) h =
    ap (λ t. is_prefix_tag tag t || stands_somewhere tag xs) (same_tag x y xs ys h)
    ∙ ap (λ b. is_prefix_tag tag y.tag || b) (somewhere_same tag xs ys (same_rest x y xs ys h))

meant_same : (x y : Action) → x.tag ≡ y.tag → x.initialize ≡ y.initialize → may_be_meant x ≡ may_be_meant y
meant_same x y t i = cc

stands_same : (k : ℕ) (tag : List (List ℕ)) (xs ys : List Action) → heads_of xs ≡ heads_of ys → stands_from k tag xs ≡ stands_from k tag ys
stands_same k tag [] [] h = refl
stands_same k tag [] (y ∷ ys) h = cc
stands_same k tag (x ∷ xs) [] h = cc
stands_same k tag (x ∷ xs) (y ∷ ys) h =
    ap (λ b. if b && is_prefix_tag tag x.tag then k ∷ stands_from (suc k) tag xs else stands_from (suc k) tag xs)
    (meant_same x y (same_tag x y xs ys h) (same_start x y xs ys h))
    ∙ ap (λ t. if may_be_meant y && is_prefix_tag tag t then k ∷ stands_from (suc k) tag xs else stands_from (suc k) tag xs) (same_tag x y xs ys h)
    ∙ ap (λ ns. if may_be_meant y && is_prefix_tag tag y.tag then k ∷ ns else ns) (stands_same (suc k) tag xs ys (same_rest x y xs ys h))

-- ---- two actors

module _ (a b : Actor) (acts : heads_of a.actions ≡ heads_of b.actions) (states : a.states ≡ b.states) where
  meant : (tag : List (List ℕ)) → stands_for tag a ≡ stands_for tag b
  meant tag = stands_same 0 tag a.actions b.actions acts

  moves_by_same : (from to : ℕ) (tags : List (List (List ℕ))) → moves_by_tags a from tags to ≡ moves_by_tags b from tags to
  moves_by_same from to [] = refl
  moves_by_same from to (tag ∷ tags) =
      ap (λ ns. moves_by from ns to ++ moves_by_tags a from tags to) (meant tag) ∙ ap (λ ms. moves_by from (stands_for tag b) to ++ ms) (moves_by_same from to tags)

  moves_same : (t : Transition) → moves_of a t ≡ moves_of b t
  moves_same t =
      ap (λ ss. moves_by_tags a (number_of_name t.from ss) t.tags (number_of_name t.to ss)) states
      ∙ moves_by_same (number_of_name t.from b.states) (number_of_name t.to b.states) t.tags

  tags_same : (tags : Tree) → tags_broken tags a.actions ≡ tags_broken tags b.actions
  tags_same (tree.cons (tree.tag parts at) tags) =
      ap (λ s. unless s unknown_tag at ++ tags_broken tags a.actions) (somewhere_same (tag_parts (tree.tag parts at)) a.actions b.actions acts)
      ∙ ap (λ vs. unless (stands_somewhere (tag_parts (tree.tag parts at)) b.actions) unknown_tag at ++ vs) (tags_same tags)
  tags_same other = refl

  transitions_same : (ms : Tree) (before : List Move) → moves_broken ms before a ≡ moves_broken ms before b
  transitions_same (tree.cons (tree.move from tags to at) ms) before =
      let t = transition_of (tree.move from tags to at) in
      ap (λ vs. vs ++ (unless (not (some_conflict (moves_of a t) before)) ambiguous_transition at ++ moves_broken ms (before ++ moves_of a t) a)) (tags_same tags)
      ∙ ap (λ mv. tags_broken tags b.actions ++ (unless (not (some_conflict mv before)) ambiguous_transition at ++ moves_broken ms (before ++ mv) a)) (moves_same t)
      ∙ ap (λ vs. tags_broken tags b.actions ++ (unless (not (some_conflict (moves_of b t) before)) ambiguous_transition at ++ vs)) (transitions_same ms (before ++ moves_of b t))
  transitions_same other before = refl

  schedule_same : (members : Tree) → schedule_broken (schedule_in members) a ≡ schedule_broken (schedule_in members) b
  schedule_same members = go (schedule_in members)
    where
      go : (o : Option Tree) → schedule_broken o a ≡ schedule_broken o b
      go (Some (tree.schedule start moves at)) = transitions_same moves []
      go other = refl

  chains_same : (chains : Tree) → chains_broken chains a.actions ≡ chains_broken chains b.actions
  chains_same (tree.cons chain chains) =
      ap (λ vs. vs ++ chains_broken chains a.actions) (tags_same chain) ∙ ap (λ vs. tags_broken chain b.actions ++ vs) (chains_same chains)
  chains_same other = refl

  priorities_same : (members : Tree) → priorities_broken members a.actions ≡ priorities_broken members b.actions
  priorities_same (tree.cons (tree.priority chains at) ms) =
      ap (λ vs. vs ++ priorities_broken ms a.actions) (chains_same chains) ∙ ap (λ vs. chains_broken chains b.actions ++ vs) (priorities_same ms)
  priorities_same (tree.cons m ms) = priorities_same ms
  priorities_same other = refl

  pub order_same : (members : Tree) (at : ℕ) → order_broken members a at ≡ order_broken members b at
  order_same members at =
      ap (λ vs. vs ++ (priorities_broken members a.actions ++ unless (nat_le (length a.states) max_states) too_many_actions at)) (schedule_same members)
      ∙ ap (λ vs. schedule_broken (schedule_in members) b ++ (vs ++ unless (nat_le (length a.states) max_states) too_many_actions at)) (priorities_same members)
      ∙ ap (λ ss. schedule_broken (schedule_in members) b ++ (priorities_broken members b.actions ++ unless (nat_le (length ss) max_states) too_many_actions at)) states

  above_same : (tags : List (List (List ℕ))) → pairs_of a tags ≡ pairs_of b tags
  above_same [] = refl
  above_same (tag ∷ []) = refl
  above_same (tag ∷ next ∷ tags) =
      ap (λ ns. each_above ns (stands_for next a) ++ pairs_of a (next ∷ tags)) (meant tag)
      ∙ ap (λ ns. each_above (stands_for tag b) ns ++ pairs_of a (next ∷ tags)) (meant next)
      ∙ ap (λ ps. each_above (stands_for tag b) (stands_for next b) ++ ps) (above_same (next ∷ tags))

  chain_pairs_same : (chains : Tree) → chains_pairs chains a ≡ chains_pairs chains b
  chain_pairs_same (tree.cons chain chains) =
      ap (λ xs. xs ++ chains_pairs chains a) (above_same (tags_listed chain)) ∙ ap (λ xs. pairs_of b (tags_listed chain) ++ xs) (chain_pairs_same chains)
  chain_pairs_same other = refl

  pub pairs_same : (members : Tree) → pairs_in members a ≡ pairs_in members b
  pairs_same (tree.cons (tree.priority chains at) rest) =
      ap (λ xs. xs ++ pairs_in rest a) (chain_pairs_same chains) ∙ ap (λ xs. chains_pairs chains b ++ xs) (pairs_same rest)
  pairs_same (tree.cons m rest) = pairs_same rest
  pairs_same other = refl
