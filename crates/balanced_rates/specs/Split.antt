-- Leaves split into parts that links join.
-- Trusted is `at` alone, as part of what a promise means: the rest is of the steps.
use Rattle.std.specs.Prelude.{◌≡◌, ◌≢◌, ℕ, ◌*◌, ◌<◌, ◌≤◌, List, All, slice_index, if◌then◌else◌, nat_eq}
use Rattle.balanced_rates.specs.declared.link.RatedLink.{RatedLink}
use Rattle.balanced_rates.specs.declared.split.Outcome.{Outcome}
use Rattle.balanced_rates.specs.declared.split.Outcome.TheVariants.{Balanced, Contrary, Long}
use Rattle.balanced_rates.specs.Balance.{IsAmong, Balances, IsContrary, IsLong, total}

-- a list of numbers as a function of their places
abbrev pub at : List ℕ → ℕ → ℕ
at numbers k = slice_index numbers k

-- a link that gives tokens has both its ends in one part
abbrev pub IsInside : (ℕ → ℕ) → RatedLink → Type 0
IsInside parts link = 0 < link.give → parts link.writer ≡ parts link.reader

-- each leaf has the number of its part, and each vector that balances the links is in each part a
-- multiple of this one
pub record IsSplit (n : ℕ) (links : List RatedLink) (parts firings : ℕ → ℕ) : Type 0 where
  pub among : All (IsAmong n) links
  pub balances : Balances n links firings
  pub inside : All (IsInside parts) links
  pub multiples : (others : ℕ → ℕ) → Balances n links others
      → (factors : ℕ → ℕ) × ((k : ℕ) → k < n → others k ≡ factors (parts k) * firings k)

-- by how much the firings of a part grow if two parts are joined
abbrev pub growth : ℕ → ℕ → ℕ → ℕ → ℕ → ℕ
growth first second first_by second_by part =
    if nat_eq part first then first_by else (if nat_eq part second then second_by else 1)

-- the vector behind that growth
abbrev pub grown : ℕ → ℕ → ℕ → ℕ → (ℕ → ℕ) → (ℕ → ℕ) → ℕ → ℕ
grown first second first_by second_by parts firings k =
    growth first second first_by second_by (parts k) * firings k

-- what is known once a link more was looked at
abbrev pub After : ℕ → ℕ → List RatedLink → (ℕ → ℕ) → (ℕ → ℕ) → Outcome → Type 0
After n longest links parts firings Balanced =
    IsSplit n links parts firings × (total firings n ≤ longest)
After n longest links parts firings Contrary = IsContrary n links
After n longest links parts firings Long = IsLong n longest links

-- the outcome of a link that joins no parts, by what is given and needed on it
abbrev pub MatchOutcome : Outcome → ℕ → ℕ → ℕ → ℕ → Type 0
MatchOutcome Balanced given needed firings longest = (given ≡ needed) × (firings ≤ longest)
MatchOutcome Contrary given needed firings longest = given ≢ needed
MatchOutcome Long given needed firings longest = (given ≡ needed) × (longest < firings)
