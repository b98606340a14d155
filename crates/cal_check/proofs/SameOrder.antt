-- Which moves and pairs an actor has doesn't matter to those that its schedule and its priorities give.
use Rattle.std.proofs.Common.{◌≡◌, ℕ, List, [], ◌∷◌, ◌++◌, refl, ap, ◌∙◌, Option, Some}
use Rattle.cal_ast.specs.Tree as tree
use Rattle.cal_ast.specs.Tree.{Tree}
use Rattle.cal_model.specs.Actor.{Actor, Move}
use Rattle.cal_model.specs.Tags.{Transition, each_above, moves_by, moves_by_tags, moves_of, number_of_name, pairs_of, stands_for}
use Rattle.cal_check.specs.Schedules.{chains_pairs, moves_in, moves_listed, pairs_in, tags_listed, transitions_of}

module _ (bare : Actor) (ms : List Move) (ps : List (ℕ × ℕ)) where
  abbrev ordered : Actor
  ordered = record bare { moves = ms; pairs = ps }

  by-tags-same : (from : ℕ) (tags : List (List (List ℕ))) (to : ℕ) → moves_by_tags ordered from tags to ≡ moves_by_tags bare from tags to
  by-tags-same from [] to = refl
  by-tags-same from (tag ∷ tags) to = ap (λ xs. moves_by from (stands_for tag bare) to ++ xs) (by-tags-same from tags to)

  listed-same : (ts : List Transition) → moves_listed ordered ts ≡ moves_listed bare ts
  listed-same [] = refl
  listed-same (t ∷ ts) =
      ap (λ xs. xs ++ moves_listed ordered ts) (by-tags-same (number_of_name t.from bare.states) t.tags (number_of_name t.to bare.states))
      ∙ ap (λ xs. moves_of bare t ++ xs) (listed-same ts)

  pub moves-same : (schedule : Option Tree) → moves_in schedule ordered ≡ moves_in schedule bare
  moves-same (Some (tree.schedule start moves at)) = listed-same (transitions_of moves)
  moves-same other = refl

  chain-same : (tags : List (List (List ℕ))) → pairs_of ordered tags ≡ pairs_of bare tags
  chain-same [] = refl
  chain-same (tag ∷ []) = refl
  chain-same (tag ∷ next ∷ tags) = ap (λ xs. each_above (stands_for tag bare) (stands_for next bare) ++ xs) (chain-same (next ∷ tags))

  chains-same : (chains : Tree) → chains_pairs chains ordered ≡ chains_pairs chains bare
  chains-same (tree.cons chain chains) =
      ap (λ xs. xs ++ chains_pairs chains ordered) (chain-same (tags_listed chain)) ∙ ap (λ xs. pairs_of bare (tags_listed chain) ++ xs) (chains-same chains)
  chains-same other = refl

  pub pairs-same : (members : Tree) → pairs_in members ordered ≡ pairs_in members bare
  pairs-same (tree.cons (tree.priority chains at) rest) =
      ap (λ xs. xs ++ pairs_in rest ordered) (chains-same chains) ∙ ap (λ xs. chains_pairs chains bare ++ xs) (pairs-same rest)
  pairs-same (tree.cons m rest) = pairs-same rest
  pairs-same other = refl
