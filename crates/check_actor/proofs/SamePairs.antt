-- Which moves and pairs an actor has doesn't matter to the pairs that its priorities give.
use Rattle.std.proofs.Common.{◌≡◌, ℕ, List, [], ◌∷◌, ◌++◌, refl, ap, ◌∙◌}
use Rattle.cal_ast.specs.Tree as tree
use Rattle.cal_ast.specs.Tree.{Tree}
use Rattle.cal_model.specs.Actor.{Actor, Move}
use Rattle.cal_model.specs.Tags.{each_above, pairs_of, stands_for}
use Rattle.cal_check.specs.Schedules.{chains_pairs, pairs_in, tags_listed}

module _ (bare : Actor) (ms : List Move) (ps : List (ℕ × ℕ)) where
  abbrev ordered : Actor
  ordered = record bare { moves = ms; pairs = ps }

  chain_same : (tags : List (List (List ℕ))) → pairs_of ordered tags ≡ pairs_of bare tags
  chain_same [] = refl
  chain_same (tag ∷ []) = refl
  chain_same (tag ∷ next ∷ tags) = ap (λ xs. each_above (stands_for tag bare) (stands_for next bare) ++ xs) (chain_same (next ∷ tags))

  chains_same : (chains : Tree) → chains_pairs chains ordered ≡ chains_pairs chains bare
  chains_same (tree.cons chain chains) =
      ap (λ xs. xs ++ chains_pairs chains ordered) (chain_same (tags_listed chain)) ∙ ap (λ xs. pairs_of bare (tags_listed chain) ++ xs) (chains_same chains)
  chains_same other = refl

  pub pairs_same : (members : Tree) → pairs_in members ordered ≡ pairs_in members bare
  pairs_same (tree.cons (tree.priority chains at) rest) =
      ap (λ xs. xs ++ pairs_in rest ordered) (chains_same chains) ∙ ap (λ xs. chains_pairs chains bare ++ xs) (pairs_same rest)
  pairs_same (tree.cons m rest) = pairs_same rest
  pairs_same other = refl
