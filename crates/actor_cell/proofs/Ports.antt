-- Queues port by port.
use Rattle.std.proofs.Common.{◌≡◌, ℕ, ◌+◌, ◌<◌, ◌≤◌, ◌⊎◌, inl, inr, List, length, refl, ap, subst, ◌∙◌, arith}
use Rattle.std.specs.Prelude.{slice_index_or, slice_set}
use Rattle.std.proofs.lemmas.Bool.{cases_lt}
use Rattle.std.proofs.lemmas.List.{get_or-set_same, get_or-set_other, length-set}
use Rattle.std.proofs.Math.ListN.{get_or-map}
use Rattle.rvc_base.specs.Lawful.{tokens_on}
use Rattle.token_ring.specs.Queue.{Queue}
use Rattle.actor_cell.specs.Queues.{no_queue, queue_on, tokens_of, capacities_of}

pub tokens-at : (queues : List Queue) (p : ℕ) → tokens_on (tokens_of queues) p ≡ (queue_on queues p).tokens
tokens-at queues p = get_or-map (λ q. q.tokens) queues p no_queue

pub capacity-at : (queues : List Queue) (p : ℕ) → slice_index_or (capacities_of queues) p 0 ≡ (queue_on queues p).capacity
capacity-at queues p = get_or-map (λ q. q.capacity) queues p no_queue

-- the first n queues were changed, each by its place, and the others weren't
pub record IsChangedUpTo (n : ℕ) (change : ℕ → Queue → Queue) (old now : List Queue) : Type 0 where
  pub size : length now ≡ length old
  pub done : (p : ℕ) → p < n → p < length old → queue_on now p ≡ change p (queue_on old p)
  pub left : (p : ℕ) → n ≤ p → queue_on now p ≡ queue_on old p

pub changed-none : (change : ℕ → Queue → Queue) (old : List Queue) → IsChangedUpTo 0 change old old
changed-none change old = record {
  size = refl;
  done = λ p low inside. absurd (omega (arith, low));
  left = λ p high. refl;
}

pub changed-more : (n : ℕ) (change : ℕ → Queue → Queue) (old now : List Queue) → IsChangedUpTo n change old now → n < length old
    → (q : Queue) → q ≡ change n (queue_on now n) → IsChangedUpTo (n + 1) change old (slice_set now n q)
changed-more n change old now so_far inside q is = record {
  size = length-set now n q ∙ so_far.size;
  done = λ p low there. by p there (cases_lt p n) low;
  left = λ p high. get_or-set_other now n p q no_queue (λ e. absurd (omega (arith, high, e))) ∙ so_far.left p (omega (arith, high));
}
  where
    by : (p : ℕ) → p < length old → (p < n) ⊎ (n ≤ p) → p < n + 1 → queue_on (slice_set now n q) p ≡ change p (queue_on old p)
    by p there (inl less) low = get_or-set_other now n p q no_queue (λ e. absurd (omega (arith, less, e))) ∙ so_far.done p less there
    by p there (inr more) low =
        let same : n ≡ p = omega (arith, more, low) in
        let size = so_far.size in
        subst (λ k. queue_on (slice_set now n q) k ≡ change k (queue_on old k)) same
        (get_or-set_same now n q no_queue (omega (arith, inside, size)) ∙ (is ∙ ap (change n) (so_far.left n (omega arith))))

pub changed-all : (n : ℕ) (change : ℕ → Queue → Queue) (old now : List Queue) → IsChangedUpTo n change old now → length old ≤ n
    → (p : ℕ) → p < length old → queue_on now p ≡ change p (queue_on old p)
changed-all n change old now so_far high p low = so_far.done p (omega (arith, high, low)) low
