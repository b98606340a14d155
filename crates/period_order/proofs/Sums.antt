-- Sums over leaves or links of which one changes.
use Rattle.std.proofs.Common.{◌≡◌, ◌≢◌, ℕ, zero, suc, ◌+◌, ◌-◌, ◌<◌, ◌≤◌, List, length, set, refl, sym, ⊎_elim, arith, length-set, get_or-set_same, get_or-set_other}
use Rattle.std.proofs.lemmas.Bool.{cases_eq}
use Rattle.balanced_rates.specs.Balance.{total}
use Rattle.balanced_rates.specs.Split.{at}

pub sum_same : (f g : ℕ → ℕ) (n : ℕ) → ((k : ℕ) → k < n → f k ≡ g k) → total f n ≡ total g n
sum_same f g zero same = refl
sum_same f g (suc n) same =
    let before : total f n ≡ total g n = sum_same f g n (λ k inside. same k (omega (arith, inside))) in
    let last : f n ≡ g n = same n (omega arith) in
    omega arith

pub sum_changed : (f g : ℕ → ℕ) (n l : ℕ) → l < n → ((k : ℕ) → k < n → k ≢ l → g k ≡ f k) → total g n + f l ≡ total f n + g l
sum_changed f g zero l inside same = absurd (omega (arith, inside))
sum_changed f g (suc n) l inside same =
    ⊎_elim (λ (last : l ≡ n).
    let before : total g n ≡ total f n = sum_same g f n (λ k below. same k (omega (arith, below)) (omega (arith, below, last))) in
    rw last (omega arith))
    (λ (other : l ≢ n).
    let before : total g n + f l ≡ total f n + g l = sum_changed f g n l (omega (arith, inside, other)) (λ k below apart. same k (omega (arith, below)) apart) in
    let last : g n ≡ f n = same n (omega arith) (λ e. other (sym e)) in
    omega arith) (cases_eq l n)

pub term_within_sum : (f : ℕ → ℕ) (n l : ℕ) → l < n → f l ≤ total f n
term_within_sum f zero l inside = absurd (omega (arith, inside))
term_within_sum f (suc n) l inside =
    ⊎_elim (λ (last : l ≡ n). rw last (omega arith))
    (λ (other : l ≢ n). let before : f l ≤ total f n = term_within_sum f n l (omega (arith, inside, other)) in omega arith) (cases_eq l n)

pub sum_is_zero : (f : ℕ → ℕ) (n : ℕ) → ((l : ℕ) → l < n → f l ≡ 0) → total f n ≡ 0
sum_is_zero f zero none = refl
sum_is_zero f (suc n) none =
    let before : total f n ≡ 0 = sum_is_zero f n (λ l inside. none l (omega (arith, inside))) in
    let last : f n ≡ 0 = none n (omega arith) in
    omega arith

pub sum_within : (f : ℕ → ℕ) (n : ℕ) → ((l : ℕ) → f l ≤ 1) → total f n ≤ n
sum_within f zero small = omega arith
sum_within f (suc n) small =
    let before : total f n ≤ n = sum_within f n small in
    let last : f n ≤ 1 = small n in
    omega arith

pub sum_falls : (numbers : List ℕ) (k : ℕ) → k < length numbers → 0 < at numbers k → total (at (set numbers k (at numbers k - 1))) (length (set numbers k (at numbers k - 1))) < total (at numbers) (length numbers)
sum_falls numbers k inside some =
    let here : at (set numbers k (at numbers k - 1)) k ≡ at numbers k - 1 = get_or-set_same numbers k (at numbers k - 1) 0 inside in
    let sums : total (at (set numbers k (at numbers k - 1))) (length numbers) + at numbers k ≡ total (at numbers) (length numbers) + at (set numbers k (at numbers k - 1)) k =
    sum_changed (at numbers) (at (set numbers k (at numbers k - 1))) (length numbers) k inside (λ j j_in apart. get_or-set_other numbers k j (at numbers k - 1) 0 apart) in
    rw (length-set numbers k (at numbers k - 1)) (omega arith)
