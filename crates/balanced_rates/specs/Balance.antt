-- Vectors of firings that balance links (Lee and Messerschmitt, Synchronous Data Flow, 1987).
-- Trusted: part of what a promise means.
use Rattle.std.specs.Prelude.{◌≡◌, ℕ, zero, suc, ◌+◌, ◌*◌, ◌<◌, ◌≤◌, ◌⊎◌, List, length, take, All, Contains}
use Rattle.balanced_rates.specs.declared.link.RatedLink.{RatedLink}

-- the ends of a link are among the first n leaves
abbrev pub IsAmong : ℕ → RatedLink → Type 0
IsAmong n link = (link.writer < n) × (link.reader < n)

-- over all firings as many tokens are given on the link as are needed
abbrev pub IsBalanced : (ℕ → ℕ) → RatedLink → Type 0
IsBalanced firings link = link.give * firings link.writer ≡ link.need * firings link.reader

-- each of the first n leaves fires, and each link is balanced
pub record Balances (n : ℕ) (links : List RatedLink) (firings : ℕ → ℕ) : Type 0 where
  pub positive : (k : ℕ) → k < n → 1 ≤ firings k
  pub balanced : All (IsBalanced firings) links

-- the least vector that balances the links, in each leaf: their repetition vector
pub record IsLeast (n : ℕ) (links : List RatedLink) (firings : ℕ → ℕ) : Type 0 where
  pub balances : Balances n links firings
  pub least : (others : ℕ → ℕ) → Balances n links others → (k : ℕ) → k < n → firings k ≤ others k

-- how often the first n leaves fire in all
abbrev pub total : (ℕ → ℕ) → ℕ → ℕ
total firings zero = 0
total firings (suc n) = total firings n + firings n

-- no vector balances the links
abbrev pub IsContrary : ℕ → List RatedLink → Type 0
IsContrary n links = (firings : ℕ → ℕ) → ¬ Balances n links firings

-- the least vector that balances the links has more firings than a period may have
abbrev pub IsLong : ℕ → ℕ → List RatedLink → Type 0
IsLong n longest links = (firings : ℕ → ℕ) × IsLeast n links firings × (longest < total firings n)

-- the links up to the one at l are contrary or long, and those up to an earlier one are neither
pub record IsFirstFault (n longest : ℕ) (links : List RatedLink) (l : ℕ) : Type 0 where
  pub inside : l < length links
  pub fault : IsContrary n (take (l + 1) links) ⊎ IsLong n longest (take (l + 1) links)
  pub first : (k : ℕ) → k < l
      → ¬ IsContrary n (take (k + 1) links) × ¬ IsLong n longest (take (k + 1) links)

-- a way leads from a leaf to another along links that give tokens, in either direction
pub data Joined (links : List RatedLink) : ℕ → ℕ → Type 0 where
  here : (leaf : ℕ) → Joined links leaf leaf
  along : (link : RatedLink) (leaf : ℕ) → Contains links link → 0 < link.give
      → Joined links leaf link.writer → Joined links leaf link.reader
  back : (link : RatedLink) (leaf : ℕ) → Contains links link → 0 < link.give
      → Joined links leaf link.reader → Joined links leaf link.writer

-- one factor takes a vector to the other one in all leaves to which ways lead from this one
abbrev pub IsMultipleFrom : List RatedLink → (ℕ → ℕ) → (ℕ → ℕ) → ℕ → Type 0
IsMultipleFrom links firings others leaf =
    (factor : ℕ) × ((k : ℕ) → Joined links leaf k → others k ≡ factor * firings k)
