-- The loop that takes the cells of a round out.
use Rattle.std.proofs.Common.{◌≡◌, ℕ, zero, suc, ◌+◌, ◌<◌, ◌≤◌, Bool, true, false, List, [], ◌∷◌, ◌++◌, length, length-append, take, refl, sym, ap, ap₂, ◌∙◌, arith, append_assoc, append-nil}
use Rattle.std.specs.Prelude.{None, Option, Some, slice_get}
use Rattle.rvc_base.specs.declared.ids.InstId.{InstId}
use Rattle.net_model.specs.Paced.{count_picked}
use Rattle.net_model.specs.declared.firing.BurstEnd.{BurstEnd}
use Rattle.claimed_bursts.specs.Tasks.{Task}
use Rattle.net_state.proofs.Alone.{marks_more, marks_same}
use Rattle.net_state.proofs.Gaining.{some_is}
use Rattle.net_state.proofs.Shared.{take_length}
use Rattle.net_state.specs.Claiming.{back, rest_of, tasks_of}
use Rattle.net_state.proofs.Backs.{back_last, get_behind, rest_next, tasks_next}

take_none : {A : Type 0} (xs : List A) → take 0 xs ≡ []
take_none [] = refl
take_none (x ∷ xs) = refl

take_suc : {A : Type 0} (xs : List A) (k : ℕ) (x : A) → slice_get xs k ≡ Some x → take (suc k) xs ≡ take k xs ++ x ∷ []
take_suc [] k x at = cc
take_suc (y ∷ xs) zero x at = ap (λ z. z ∷ []) (some_is y x at)
take_suc (y ∷ xs) (suc k) x at = ap (λ zs. y ∷ zs) (take_suc xs k x at)

pub take_next : {A : Type 0} (xs : List A) (k : ℕ) (x : A) → slice_get xs k ≡ Some x → take (k + 1) xs ≡ take k xs ++ x ∷ []
take_next xs k x at = ap (λ n. take n xs) (let e : k + 1 ≡ suc k = omega arith in e) ∙ take_suc xs k x at

take_whole : {A : Type 0} (xs : List A) (k : ℕ) → length xs ≤ k → take k xs ≡ xs
take_whole [] zero few = refl
take_whole [] (suc k) few = refl
take_whole (x ∷ xs) zero few = absurd (omega (arith, few))
take_whole (x ∷ xs) (suc k) few = ap (λ ys. x ∷ ys) (take_whole xs k (omega (arith, few)))

pub task_is : {C : Type 0} (t : Task C) (cell : C) (inst : InstId) (limit : ℕ) (rooms : List ℕ) → t.cell ≡ cell → t.inst ≡ inst → t.limit ≡ limit → t.rooms ≡ rooms → t.end ≡ None
    → t ≡ (let w : Task C = record { cell = cell; inst = inst; limit = limit; rooms = rooms; end = None } in w)
task_is {C} t cell inst limit rooms c i l r e =
    ap (λ x. of x t.inst t.limit t.rooms t.end) c ∙ (ap (λ x. of cell x t.limit t.rooms t.end) i ∙ (ap (λ x. of cell inst x t.rooms t.end) l ∙ (ap (λ x. of cell inst limit x t.end) r ∙ ap (λ x. of cell inst limit rooms x) e)))
  where
    of : C → InstId → ℕ → List ℕ → Option BurstEnd → Task C
    of cell inst limit rooms end = record { cell = cell; inst = inst; limit = limit; rooms = rooms; end = end }

module _ {C : Type 0} (limit : ℕ → ℕ) (marks : List Bool) (rows : List (List ℕ)) (all : List C) where
  pub record IsOut (cells : List C) (tasks : List (Task C)) (rest : List C) (k : ℕ) : Type 0 where
    pub done : List C
    pub split : all ≡ cells ++ done
    pub k_is : k ≡ count_picked (take (length cells) marks)
    pub tasks_are : tasks ++ back (tasks_of limit 0 0 (take (length cells) marks) (take (length cells) rows) cells) ≡ back (tasks_of limit 0 0 marks rows all)
    pub rest_are : rest ++ back (rest_of (take (length cells) marks) cells) ≡ back (rest_of marks all)

  module _ (marked : length marks ≡ length all) (roomy : length rows ≡ length all) where
    pub out_none : IsOut all [] [] (count_picked marks)
    out_none =
        let ms : take (length all) marks ≡ marks = take_whole marks (length all) (omega (arith, marked)) in
        let rs : take (length all) rows ≡ rows = take_whole rows (length all) (omega (arith, roomy)) in
        record {
          done = [];
          split = sym (append-nil all);
          k_is = ap count_picked (sym ms);
          tasks_are = ap₂ (λ m r. back (tasks_of limit 0 0 m r all)) ms rs;
          rest_are = ap (λ m. back (rest_of m all)) ms;
        }

    pub out_all : (tasks : List (Task C)) (rest : List C) (k : ℕ) → IsOut [] tasks rest k → (tasks ≡ back (tasks_of limit 0 0 marks rows all)) × (rest ≡ back (rest_of marks all))
    out_all tasks rest k out = (
      sym (append-nil tasks) ∙ (ap (λ m. tasks ++ back (tasks_of limit 0 0 m (take 0 rows) [])) (sym (take_none marks)) ∙ out.tasks_are),
      sym (append-nil rest) ∙ (ap (λ m. rest ++ back (rest_of m [])) (sym (take_none marks)) ∙ out.rest_are),
    )

    module _ (cells : List C) (cell : C) (tasks : List (Task C)) (rest : List C) (k : ℕ) (out : IsOut (cells ++ cell ∷ []) tasks rest k) where
      long : length (cells ++ cell ∷ []) ≡ length cells + 1
      long = length-append cells (cell ∷ [])

      pub out_low : length cells < length all
      out_low = let e : length all ≡ length (cells ++ cell ∷ []) + length out.done = ap length out.split ∙ length-append (cells ++ cell ∷ []) out.done in omega (arith, e, long)

      lows : (length (take (length cells) marks) ≡ length cells) × (length (take (length cells) rows) ≡ length cells)
      lows = (take_length marks (length cells) (omega (arith, out_low, marked)), take_length rows (length cells) (omega (arith, out_low, roomy)))

      split_next : all ≡ cells ++ cell ∷ out.done
      split_next = out.split ∙ append_assoc cells (cell ∷ []) out.done

      module _ (mark : Bool) (mark_at : slice_get marks (length cells) ≡ Some mark) where
        marks_next : take (length (cells ++ cell ∷ [])) marks ≡ take (length cells) marks ++ mark ∷ []
        marks_next = ap (λ n. take n marks) long ∙ take_next marks (length cells) mark mark_at

        rest_after : rest_of (take (length (cells ++ cell ∷ [])) marks) (cells ++ cell ∷ []) ≡ rest_of (take (length cells) marks) cells ++ rest_of (mark ∷ []) (cell ∷ [])
        rest_after = ap (λ m. rest_of m (cells ++ cell ∷ [])) marks_next ∙ rest_next (take (length cells) marks) cells mark cell (sym lows.0)

        tasks_after : (row : List ℕ) → slice_get rows (length cells) ≡ Some row → (l : ℕ) → l ≡ count_picked (take (length cells) marks)
            → tasks_of limit 0 0 (take (length (cells ++ cell ∷ [])) marks) (take (length (cells ++ cell ∷ [])) rows) (cells ++ cell ∷ [])
            ≡ tasks_of limit 0 0 (take (length cells) marks) (take (length cells) rows) cells ++ tasks_of limit (length cells) l (mark ∷ []) (row ∷ []) (cell ∷ [])
        tasks_after row row_at l l_is =
            let rows_next : take (length (cells ++ cell ∷ [])) rows ≡ take (length cells) rows ++ row ∷ [] = ap (λ n. take n rows) long ∙ take_next rows (length cells) row row_at in
            ap₂ (λ m r. tasks_of limit 0 0 m r (cells ++ cell ∷ [])) marks_next rows_next
            ∙ tasks_next limit 0 0 (take (length cells) marks) (take (length cells) rows) cells mark row cell (length cells) l (lows.1 ∙ sym lows.0) (sym lows.0) (omega (arith, lows.0)) (omega (arith, l_is))

      pub out_count : slice_get marks (length cells) ≡ Some true → k ≡ count_picked (take (length cells) marks) + 1
      out_count at = out.k_is ∙ (ap (λ n. count_picked (take n marks)) long ∙ marks_more marks (length cells) at)

      pub out_cell : slice_get all (length cells) ≡ Some cell
      out_cell = ap (λ l. slice_get l (length cells)) split_next ∙ get_behind cells out.done cell (length cells) refl

      module _ (row : List ℕ) (row_at : slice_get rows (length cells) ≡ Some row) where
        pub out_marked : slice_get marks (length cells) ≡ Some true → (l : ℕ) → k ≡ l + 1
            → IsOut cells (tasks ++ record { cell = cell; inst = record { 0 = length cells }; limit = limit l; rooms = row; end = None } ∷ []) rest l
        out_marked at l l_is =
            let task : Task C = record { cell = cell; inst = record { 0 = length cells }; limit = limit l; rooms = row; end = None } in
            let before : List (Task C) = tasks_of limit 0 0 (take (length cells) marks) (take (length cells) rows) cells in
            let count : l ≡ count_picked (take (length cells) marks) = omega (arith, l_is, out_count at) in
            let more : rest_of (take (length (cells ++ cell ∷ [])) marks) (cells ++ cell ∷ []) ≡ rest_of (take (length cells) marks) cells = rest_after true at ∙ append-nil (rest_of (take (length cells) marks) cells) in
            record {
              done = cell ∷ out.done;
              split = split_next;
              k_is = count;
              tasks_are = append_assoc tasks (task ∷ []) (back before) ∙ (ap (λ z. tasks ++ z) (sym (ap back (tasks_after true at row row_at l count) ∙ back_last before task)) ∙ out.tasks_are);
              rest_are = ap (λ z. rest ++ back z) (sym more) ∙ out.rest_are;
            }

        pub out_stays : slice_get marks (length cells) ≡ Some false → IsOut cells tasks (rest ++ cell ∷ []) k
        out_stays at =
            let before : List (Task C) = tasks_of limit 0 0 (take (length cells) marks) (take (length cells) rows) cells in
            let others : List C = rest_of (take (length cells) marks) cells in
            let count : k ≡ count_picked (take (length cells) marks) = out.k_is ∙ (ap (λ n. count_picked (take n marks)) long ∙ marks_same marks (length cells) at) in
            let same : tasks_of limit 0 0 (take (length (cells ++ cell ∷ [])) marks) (take (length (cells ++ cell ∷ [])) rows) (cells ++ cell ∷ []) ≡ before = tasks_after false at row row_at k count ∙ append-nil before in
            record {
              done = cell ∷ out.done;
              split = split_next;
              k_is = count;
              tasks_are = ap (λ z. tasks ++ back z) (sym same) ∙ out.tasks_are;
              rest_are = append_assoc rest (cell ∷ []) (back others) ∙ (ap (λ z. rest ++ z) (sym (ap back (rest_after false at) ∙ back_last others cell)) ∙ out.rest_are);
            }
