-- How often a number stands in lists, and sums over what several passes know.
-- Trusted but for `past`: part of what a promise means.
use Rattle.std.specs.Prelude.{ℕ, ◌+◌, List, [], ◌∷◌, ◌==◌, if◌then◌else◌, nat_lt}

abbrev pub total : {A : Type 0} → (A → ℕ) → List A → ℕ
total f [] = 0
total f (x ∷ xs) = f x + total f xs

-- how often n stands in the list
abbrev pub times : ℕ → List ℕ → ℕ
times n xs = total (λ m. if m == n then 1 else 0) xs

-- how many of the numbers are none of the places, of which there are so many
abbrev pub past : ℕ → List ℕ → ℕ
past places xs = total (λ m. if nat_lt m places then 0 else 1) xs

-- once for each number below the count, and never for another
abbrev pub once_below : ℕ → ℕ → ℕ
once_below count n = if nat_lt n count then 1 else 0
