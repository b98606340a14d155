-- The numbers of cells, one after another.
use Rattle.std.proofs.Common.{◌≡◌, ℕ, zero, suc, ◌+◌, ◌<◌, ◌≤◌, ℤ, pos, List, [], ◌∷◌, ◌++◌, length, sym, ap, subst, ◌∙◌, arith, append_assoc, Some}
use Rattle.std.specs.Prelude.{slice_get, slice_index_or}
use Rattle.std.proofs.lemmas.List.{length-append}
use Rattle.std.proofs.lemmas.Option.{get_or_from_slice_get}
use Rattle.token_ring.specs.Queue.{Queue}
use Rattle.lowered_actor.specs.Facts.{cells_from}
use Rattle.actor_cell.proofs.Seen.{so-many}

one-more : (cells : List ℤ) (c n : ℕ) (v : ℤ) → slice_get cells (c + n) ≡ Some v → cells_from cells c n ++ v ∷ [] ≡ cells_from cells c (suc n)
one-more cells c zero v there =
    let none : c + 0 ≡ c = omega arith in
    ap (λ x. x ∷ []) (sym (get_or_from_slice_get cells c v _ (subst (λ k. slice_get cells k ≡ Some v) none there)))
one-more cells c (suc n) v there =
    let same : c + suc n ≡ (c + 1) + n = omega arith in
    ap (λ xs. slice_index_or cells c (pos 0) ∷ xs) (one-more cells (c + 1) n v (subst (λ k. slice_get cells k ≡ Some v) same there))

-- a queue that holds the numbers of k cells more than before
abbrev pub with_cells : Queue → List ℤ → ℕ → ℕ → Queue
with_cells queue cells c k = record { tokens = queue.tokens ++ cells_from cells c k; capacity = queue.capacity }

pub has-room-for-one : (old now : Queue) (cells : List ℤ) (c k count : ℕ) → now ≡ with_cells old cells c k → k < count → length old.tokens + count ≤ old.capacity
    → length now.tokens < now.capacity
has-room-for-one old now cells c k count is low room =
    subst (λ q. length q.tokens < q.capacity) (sym is)
    (let size = length-append old.tokens (cells_from cells c k) in let many = so-many cells c k in omega (arith, size, many, low, room))

pub pushed-one : (old now new : Queue) (cells : List ℤ) (c k : ℕ) (v : ℤ) → now ≡ with_cells old cells c k → slice_get cells (c + k) ≡ Some v
    → new ≡ record { tokens = now.tokens ++ v ∷ []; capacity = now.capacity } → new ≡ with_cells old cells c (k + 1)
pushed-one old now new cells c k v is there pushed =
    let more : suc k ≡ k + 1 = omega arith in
    pushed ∙ (ap (λ q. record { tokens = q.tokens ++ v ∷ []; capacity = q.capacity }) is
    ∙ (ap (λ ts. record { tokens = ts; capacity = old.capacity }) (append_assoc old.tokens (cells_from cells c k) (v ∷ [])
    ∙ ap (λ ts. old.tokens ++ ts) (one-more cells c k v there ∙ ap (cells_from cells c) more))))
