-- Queues that are made one after another.
use Rattle.std.proofs.Common.{◌≡◌, ℕ, ◌+◌, ◌<◌, ◌≤◌, ◌⊎◌, inl, inr, List, [], ◌∷◌, ◌++◌, length, refl, sym, ap, subst, ◌∙◌, arith}
use Rattle.std.proofs.lemmas.Bool.{cases_lt}
use Rattle.std.proofs.lemmas.List.{length-append}
use Rattle.std.proofs.Math.ListN.{get_or-append}
use Rattle.std.proofs.Math.Seq.{get_or-append_seam}
use Rattle.token_ring.specs.Queue.{Queue}
use Rattle.lowered_actor.specs.Actor.{number_on}
use Rattle.actor_cell.specs.Queues.{no_queue, queue_on, AreFresh, AreWithin}

abbrev pub empty_of : List ℕ → ℕ → Queue
empty_of capacities p = record { tokens = []; capacity = number_on capacities p }

-- there are queues for the first n of these capacities
pub record AreFreshUpTo (n : ℕ) (capacities : List ℕ) (queues : List Queue) : Type 0 where
  pub size : length queues ≡ n
  pub each : (p : ℕ) → p < n → queue_on queues p ≡ empty_of capacities p

pub fresh-none : (capacities : List ℕ) → AreFreshUpTo 0 capacities []
fresh-none capacities = record { size = refl; each = λ p low. absurd (omega (arith, low)) }

pub fresh-more : (n : ℕ) (capacities : List ℕ) (queues : List Queue) (queue : Queue) → AreFreshUpTo n capacities queues → queue ≡ empty_of capacities n
    → AreFreshUpTo (n + 1) capacities (queues ++ queue ∷ [])
fresh-more n capacities queues queue so_far is = record {
  size = length-append queues (queue ∷ []) ∙ ap (λ k. k + 1) so_far.size;
  each = λ p low. by p (cases_lt p n) low;
}
  where
    by : (p : ℕ) → (p < n) ⊎ (n ≤ p) → p < n + 1 → queue_on (queues ++ queue ∷ []) p ≡ empty_of capacities p
    by p (inl less) low = let size = so_far.size in get_or-append queues (queue ∷ []) no_queue p (omega (arith, less, size)) ∙ so_far.each p less
    by p (inr more) low =
        let size = so_far.size in
        let same : length queues ≡ p = omega (arith, size, more, low) in
        let same' : n ≡ p = omega (arith, more, low) in
        subst (λ k. queue_on (queues ++ queue ∷ []) k ≡ queue) same (get_or-append_seam queues queue [] no_queue) ∙ (is ∙ ap (empty_of capacities) same')

pub fresh-all : (n : ℕ) (capacities : List ℕ) (queues : List Queue) → AreFreshUpTo n capacities queues → n ≡ length capacities → AreFresh capacities queues
fresh-all n capacities queues so_far all = record {
  size = so_far.size ∙ all;
  each = λ p low. so_far.each p (omega (arith, low, all));
}

pub empty-is : (queue : Queue) (n : ℕ) → queue.tokens ≡ [] → queue.capacity ≡ n → queue ≡ record { tokens = []; capacity = n }
empty-is queue n none room = ap (λ ts. record { tokens = ts; capacity = queue.capacity }) none ∙ ap (λ c. record { tokens = []; capacity = c }) room

pub fresh-within : (capacities : List ℕ) (queues : List Queue) → AreFresh capacities queues → AreWithin queues
fresh-within capacities queues fresh p low =
    let size = fresh.size in
    subst (λ q. length q.tokens ≤ q.capacity) (sym (fresh.each p (omega (arith, low, size)))) (omega arith)
