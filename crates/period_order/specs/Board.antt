-- What is kept while turns are taken.
-- Trusted is `link_at` alone, as part of what a promise means: the rest is of the steps.
use Rattle.std.specs.Prelude.{◌≡◌, ◌⊎◌, ℕ, ◌+◌, ◌-◌, ◌<◌, List, length, All, AllPairs, Contains, ◌≢◌, [], slice_index_or, if◌then◌else◌, nat_eq, nat_lt}
use Rattle.balanced_rates.specs.declared.link.RatedLink.{RatedLink}
use Rattle.balanced_rates.specs.Balance.{total}
use Rattle.period_order.specs.Turns.{turns, given, taken, IsLeastFirst, IsPeak}

-- a link by its number
abbrev pub link_at : List RatedLink → ℕ → RatedLink
link_at links l = slice_index_or links l (record { writer = 0; reader = 0; give = 0; need = 0 })

-- 1 if a link leads to the leaf and has fewer tokens than it needs, else 0
abbrev pub lacks : RatedLink → ℕ → ℕ → ℕ
lacks link tokens leaf =
    if nat_eq link.reader leaf then (if nat_lt tokens link.need then 1 else 0) else 0

-- on how many links a leaf lacks tokens
abbrev pub lacking : List RatedLink → (ℕ → ℕ) → ℕ → ℕ
lacking links tokens leaf = total (λ l. lacks (link_at links l) (tokens l) leaf) (length links)

-- how many tokens one firing of a leaf gives on a link, and takes from it
abbrev pub gives : RatedLink → ℕ → ℕ
gives link leaf = if nat_eq link.writer leaf then link.give else 0

abbrev pub takes : RatedLink → ℕ → ℕ
takes link leaf = if nat_eq link.reader leaf then link.need else 0

-- the tokens on a link behind a firing of a leaf
abbrev pub moved : RatedLink → ℕ → ℕ → ℕ
moved link leaf tokens = tokens + gives link leaf - takes link leaf

-- a list of different links, with all that begin or end at a leaf
pub record IsTouching (links : List RatedLink) (leaf : ℕ) (row : List ℕ) : Type 0 where
  pub within : All (λ l. l < length links) row
  pub distinct : AllPairs (λ l k. l ≢ k) row
  pub complete : (l : ℕ) → l < length links
      → ((link_at links l).writer ≡ leaf) ⊎ ((link_at links l).reader ≡ leaf) → Contains row l

-- such a list for each leaf
abbrev pub AreTouching : ℕ → List RatedLink → List (List ℕ) → Type 0
AreTouching n links rows = (leaf : ℕ) → leaf < n → IsTouching links leaf (slice_index_or rows leaf [])

-- what is known behind the turns of an order
pub record IsPlayed (n : ℕ) (links : List RatedLink) (firings : ℕ → ℕ) (order : List ℕ)
    (left unmet tokens peaks : ℕ → ℕ) : Type 0 where
  pub left_is : (leaf : ℕ) → leaf < n → left leaf + turns leaf order ≡ firings leaf
  pub unmet_is : (leaf : ℕ) → leaf < n → unmet leaf ≡ lacking links tokens leaf
  pub tokens_are : (l : ℕ) → l < length links
      → tokens l + taken (link_at links l) order ≡ given (link_at links l) order
  pub peaks_are : (l : ℕ) → l < length links → IsPeak (link_at links l) order (peaks l)
  pub least_first : IsLeastFirst n links firings order
