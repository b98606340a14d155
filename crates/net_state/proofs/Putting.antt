-- The loop that puts the cells of a round back.
use Rattle.std.proofs.Common.{◌≡◌, ◌+◌, ◌≤◌, Bool, true, false, List, [], ◌∷◌, ◌++◌, length, length-append, sym, ap, ap₂, ◌∙◌, arith, append_assoc}
use Rattle.net_model.specs.Paced.{count_picked}
use Rattle.claimed_bursts.specs.Tasks.{Task}
use Rattle.net_state.proofs.Alone.{few_marks}
use Rattle.net_state.specs.Claiming.{IsTaken, Nexts, back, merged}
use Rattle.net_state.proofs.Backs.{back_last}

pub nexts : {C : Type 0} (marked : Bool) (others : List Bool) (tasks : List (Task C)) (rest : List C) → length tasks ≡ count_picked (marked ∷ others)
    → length rest + count_picked (marked ∷ others) ≡ length (marked ∷ others) → Nexts marked tasks rest
nexts true others tasks rest many some = omega (arith, many)
nexts false others tasks rest many some = let few : count_picked others ≤ length others = few_marks others in omega (arith, few, some)

pub put_next : {C : Type 0} (all : List C) (marked : Bool) (others : List Bool) (cells : List C) (tasks tasks_left : List (Task C)) (rest rest_left : List C) (cell : C)
    → IsTaken marked tasks rest cell tasks_left rest_left → length tasks ≡ count_picked (marked ∷ others) → length rest + count_picked (marked ∷ others) ≡ length (marked ∷ others)
    → cells ++ merged (marked ∷ others) (back tasks) (back rest) ≡ all
    → ((cells ++ cell ∷ []) ++ merged others (back tasks_left) (back rest_left) ≡ all) × (length tasks_left ≡ count_picked others) × (length rest_left + count_picked others ≡ length others)
put_next {C} all true others cells tasks tasks_left rest rest_left cell taken many some is =
    let task = taken.0.0 in
    let tasks_are : back tasks ≡ task ∷ back tasks_left = ap back taken.0.1 ∙ back_last tasks_left task in
    let one : length tasks ≡ length tasks_left + 1 = ap length taken.0.1 ∙ length-append tasks_left (task ∷ []) in
    let same : length rest_left ≡ length rest = ap length taken.1 in (
      append_assoc cells (cell ∷ []) (merged others (back tasks_left) (back rest_left))
          ∙ (ap₂ (λ (c : C) (r : List C). cells ++ c ∷ merged others (back tasks_left) (back r)) taken.0.2 taken.1
          ∙ (ap (λ ts. cells ++ merged (true ∷ others) ts (back rest)) (sym tasks_are) ∙ is)),
      omega (arith, many, one),
      omega (arith, some, same),
    )
put_next {C} all false others cells tasks tasks_left rest rest_left cell taken many some is =
    let rest_are : back rest ≡ cell ∷ back rest_left = ap back taken.0 ∙ back_last rest_left cell in
    let one : length rest ≡ length rest_left + 1 = ap length taken.0 ∙ length-append rest_left (cell ∷ []) in
    let same : length tasks_left ≡ length tasks = ap length taken.1 in (
      append_assoc cells (cell ∷ []) (merged others (back tasks_left) (back rest_left))
          ∙ (ap (λ ts. cells ++ cell ∷ merged others (back ts) (back rest_left)) taken.1
          ∙ (ap (λ cs. cells ++ merged (false ∷ others) (back tasks) cs) (sym rest_are) ∙ is)),
      omega (arith, many, same),
      omega (arith, some, one),
    )
