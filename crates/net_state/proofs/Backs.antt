-- Lists from their ends, and the cells of a round as tasks.
use Rattle.std.proofs.Common.{◌≡◌, ℕ, zero, suc, ◌+◌, Bool, true, false, List, [], ◌∷◌, ◌++◌, length, length-append, refl, ap, ap₂, ◌∙◌, arith}
use Rattle.std.specs.Prelude.{None, Some, slice_get}
use Rattle.net_model.specs.Paced.{count_picked}
use Rattle.claimed_bursts.specs.Tasks.{Task}
use Rattle.net_state.specs.Claiming.{back, rest_of, tasks_of}

pub back_last : {A : Type 0} (xs : List A) (x : A) → back (xs ++ x ∷ []) ≡ x ∷ back xs
back_last [] x = refl
back_last (y ∷ xs) x = ap (λ zs. zs ++ y ∷ []) (back_last xs x)

pub back_back : {A : Type 0} (xs : List A) → back (back xs) ≡ xs
back_back [] = refl
back_back (x ∷ xs) = back_last (back xs) x ∙ ap (λ zs. x ∷ zs) (back_back xs)

pub get_behind : {A : Type 0} (xs ys : List A) (x : A) (k : ℕ) → k ≡ length xs → slice_get (xs ++ x ∷ ys) k ≡ Some x
get_behind [] ys x zero at = refl
get_behind [] ys x (suc k) at = absurd (omega (arith, at))
get_behind (z ∷ xs) ys x zero at = absurd (omega (arith, at))
get_behind (z ∷ xs) ys x (suc k) at = get_behind xs ys x k (omega (arith, at))

module _ {C : Type 0} (limit : ℕ → ℕ) where
  -- one cell more
  pub tasks_next : (i k : ℕ) (marks : List Bool) (rows : List (List ℕ)) (cells : List C) (mark : Bool) (row : List ℕ) (cell : C) (j l : ℕ) → length rows ≡ length marks → length cells ≡ length marks
      → j ≡ i + length marks → l ≡ k + count_picked marks
      → tasks_of limit i k (marks ++ mark ∷ []) (rows ++ row ∷ []) (cells ++ cell ∷ []) ≡ tasks_of limit i k marks rows cells ++ tasks_of limit j l (mark ∷ []) (row ∷ []) (cell ∷ [])
  tasks_next i k [] [] [] mark row cell j l roomy many at picked =
      let e : i ≡ j = omega (arith, at) in let f : k ≡ l = omega (arith, picked) in ap₂ (λ a b. tasks_of limit a b (mark ∷ []) (row ∷ []) (cell ∷ [])) e f
  tasks_next i k [] [] (c ∷ cells) mark row cell j l roomy many at picked = absurd (omega (arith, many))
  tasks_next i k [] (r ∷ rows) cells mark row cell j l roomy many at picked = absurd (omega (arith, roomy))
  tasks_next i k (m ∷ marks) [] cells mark row cell j l roomy many at picked = absurd (omega (arith, roomy))
  tasks_next i k (m ∷ marks) (r ∷ rows) [] mark row cell j l roomy many at picked = absurd (omega (arith, many))
  tasks_next i k (true ∷ marks) (r ∷ rows) (c ∷ cells) mark row cell j l roomy many at picked =
      ap (λ (ts : List (Task C)). record { cell = c; inst = record { 0 = i }; limit = limit k; rooms = r; end = None } ∷ ts)
      (tasks_next (suc i) (suc k) marks rows cells mark row cell j l (omega (arith, roomy)) (omega (arith, many)) (omega (arith, at)) (omega (arith, picked)))
  tasks_next i k (false ∷ marks) (r ∷ rows) (c ∷ cells) mark row cell j l roomy many at picked =
      tasks_next (suc i) k marks rows cells mark row cell j l (omega (arith, roomy)) (omega (arith, many)) (omega (arith, at)) (omega (arith, picked))

  pub tasks_many : (i k : ℕ) (marks : List Bool) (rows : List (List ℕ)) (cells : List C) → length rows ≡ length marks → length cells ≡ length marks → length (tasks_of limit i k marks rows cells) ≡ count_picked marks
  tasks_many i k [] rows cells roomy many = refl
  tasks_many i k (m ∷ marks) [] cells roomy many = absurd (omega (arith, roomy))
  tasks_many i k (m ∷ marks) (r ∷ rows) [] roomy many = absurd (omega (arith, many))
  tasks_many i k (true ∷ marks) (r ∷ rows) (c ∷ cells) roomy many = ap suc (tasks_many (suc i) (suc k) marks rows cells (omega (arith, roomy)) (omega (arith, many)))
  tasks_many i k (false ∷ marks) (r ∷ rows) (c ∷ cells) roomy many = tasks_many (suc i) k marks rows cells (omega (arith, roomy)) (omega (arith, many))

pub rest_next : {C : Type 0} (marks : List Bool) (cells : List C) (mark : Bool) (cell : C) → length cells ≡ length marks
    → rest_of (marks ++ mark ∷ []) (cells ++ cell ∷ []) ≡ rest_of marks cells ++ rest_of (mark ∷ []) (cell ∷ [])
rest_next [] [] mark cell many = refl
rest_next [] (c ∷ cells) mark cell many = absurd (omega (arith, many))
rest_next (m ∷ marks) [] mark cell many = absurd (omega (arith, many))
rest_next (true ∷ marks) (c ∷ cells) mark cell many = rest_next marks cells mark cell (omega (arith, many))
rest_next {C} (false ∷ marks) (c ∷ cells) mark cell many = ap (λ (cs : List C). c ∷ cs) (rest_next marks cells mark cell (omega (arith, many)))

pub rest_many : {C : Type 0} (marks : List Bool) (cells : List C) → length cells ≡ length marks → length (rest_of marks cells) + count_picked marks ≡ length marks
rest_many [] cells many = refl
rest_many (m ∷ marks) [] many = absurd (omega (arith, many))
rest_many (true ∷ marks) (c ∷ cells) many = let e : length (rest_of marks cells) + count_picked marks ≡ length marks = rest_many marks cells (omega (arith, many)) in omega (arith, e)
rest_many (false ∷ marks) (c ∷ cells) many = let e : length (rest_of marks cells) + count_picked marks ≡ length marks = rest_many marks cells (omega (arith, many)) in omega (arith, e)

pub back_many : {A : Type 0} (xs : List A) → length (back xs) ≡ length xs
back_many [] = refl
back_many (x ∷ xs) = length-append (back xs) (x ∷ []) ∙ (let e : length (back xs) ≡ length xs = back_many xs in omega (arith, e))
