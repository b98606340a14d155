-- Turns of leaves, and the tokens that they leave on links (Lee and Messerschmitt, Synchronous Data Flow, 1987).
-- Trusted: part of what a promise means.
use Rattle.std.specs.Prelude.{◌≡◌, ℕ, ◌+◌, ◌-◌, ◌*◌, ◌<◌, ◌≤◌, List, length, take, All, count_by, nat_eq, slice_index}
use Rattle.balanced_rates.specs.declared.link.RatedLink.{RatedLink}

-- how often a leaf stands in a list of turns
abbrev pub turns : ℕ → List ℕ → ℕ
turns leaf order = count_by (nat_eq leaf) order

-- how many tokens were given on a link, and taken from it, in these turns
abbrev pub given : RatedLink → List ℕ → ℕ
given link order = link.give * turns link.writer order

abbrev pub taken : RatedLink → List ℕ → ℕ
taken link order = link.need * turns link.reader order

-- how many lie on it then
abbrev pub waiting : RatedLink → List ℕ → ℕ
waiting link order = given link order - taken link order

-- a leaf finds as many tokens as it needs on each link to it
abbrev pub Finds : List RatedLink → List ℕ → ℕ → Type 0
Finds links order leaf =
    All (λ link. link.reader ≡ leaf → taken link order + link.need ≤ given link order) links

-- each leaf has its turns, and finds its tokens at each of them
pub record IsPeriod (n : ℕ) (links : List RatedLink) (firings : ℕ → ℕ) (order : List ℕ) : Type 0 where
  pub among : All (λ leaf. leaf < n) order
  pub finds : (p : ℕ) → p < length order → Finds links (take p order) (slice_index order p)
  pub counts : (leaf : ℕ) → leaf < n → turns leaf order ≡ firings leaf

-- a leaf has turns left and finds its tokens
pub record MayFire (n : ℕ) (links : List RatedLink) (firings : ℕ → ℕ) (order : List ℕ) (leaf : ℕ) : Type 0 where
  pub among : leaf < n
  pub left : turns leaf order < firings leaf
  pub finds : Finds links order leaf

-- the least leaf that may fire
pub record IsNext (n : ℕ) (links : List RatedLink) (firings : ℕ → ℕ) (order : List ℕ) (leaf : ℕ) : Type 0 where
  pub may : MayFire n links firings order leaf
  pub least : (other : ℕ) → other < leaf → ¬ MayFire n links firings order other

-- each turn is that of the least leaf that may fire then
abbrev pub IsLeastFirst : ℕ → List RatedLink → (ℕ → ℕ) → List ℕ → Type 0
IsLeastFirst n links firings order =
    (p : ℕ) → p < length order → IsNext n links firings (take p order) (slice_index order p)

-- the least leaf with turns left where none may fire any more
pub record IsBlocked (n : ℕ) (links : List RatedLink) (firings : ℕ → ℕ) (leaf : ℕ) : Type 0 where
  pub order : List ℕ
  pub least_first : IsLeastFirst n links firings order
  pub none : (other : ℕ) → ¬ MayFire n links firings order other
  pub among : leaf < n
  pub left : turns leaf order < firings leaf
  pub first : (other : ℕ) → other < leaf → firings other ≤ turns other order

-- the most tokens that lie on a link behind any of the turns
pub record IsPeak (link : RatedLink) (order : List ℕ) (peak : ℕ) : Type 0 where
  pub most : (p : ℕ) → p ≤ length order → waiting link (take p order) ≤ peak
  pub reached : (p : ℕ) × (p ≤ length order) × (waiting link (take p order) ≡ peak)
