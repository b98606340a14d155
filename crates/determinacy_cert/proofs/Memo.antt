-- What was found fine once is known from then on.
use Rattle.std.proofs.Common.{◌≡◌, ◌≢◌, ℕ, ◌+◌, ◌*◌, ◌<◌, Bool, true, false, List, length, get_or, set, replicate, sym, ap, subst, ◌∙◌, arith, ⊎_elim}
use Rattle.std.proofs.lemmas.Bool.{cases_eq, false≢true}
use Rattle.std.proofs.lemmas.List.{get_or-set_same, get_or-set_other, get_or-replicate}
use Rattle.std.proofs.lemmas.Nat.{mul-add-lt, same_from_place}

-- what an entry that is set says, still holds once another is set for which it holds
pub set_says : (cells : List Bool) (k : ℕ) (v : Bool) (P : ℕ → Type 0) → k < length cells → (v ≡ true → P k)
    → ((i : ℕ) → i < length cells → get_or cells i false ≡ true → P i) → (i : ℕ) → i < length cells → get_or (set cells k v) i false ≡ true → P i
set_says cells k v P inside says before i within h =
    ⊎_elim
    (λ (same : i ≡ k).
    let here : get_or (set cells k v) k false ≡ v = get_or-set_same cells k v false inside in
    subst P (sym same) (says (sym here ∙ ap (λ j. get_or (set cells k v) j false) (sym same) ∙ h)))
    (λ (other : i ≢ k).
    let there : get_or (set cells k v) i false ≡ get_or cells i false = get_or-set_other cells k i v false other in
    before i within (sym there ∙ h))
    (cases_eq i k)

-- .. by rows and columns
pub set_in_rows : (cells : List Bool) (n a b : ℕ) (v : Bool) (R : ℕ → ℕ → Type 0) → length cells ≡ n * n → a < n → b < n → (v ≡ true → R a b)
    → ((c d : ℕ) → c < n → d < n → get_or cells (c * n + d) false ≡ true → R c d)
    → (c d : ℕ) → c < n → d < n → get_or (set cells (a * n + b) v) (c * n + d) false ≡ true → R c d
set_in_rows cells n a b v R size in_a in_b says before c d in_c in_d h =
    ⊎_elim
    (λ (same : c * n + d ≡ a * n + b).
    let both : (c ≡ a) × (d ≡ b) = same_from_place c d a b n in_d in_b same in
    let below = mul-add-lt a n b n in_a in_b in
    let inside : a * n + b < length cells = omega (arith, below, size) in
    let here : get_or (set cells (a * n + b) v) (a * n + b) false ≡ v = get_or-set_same cells (a * n + b) v false inside in
    subst (λ x. R x d) (sym both.0) (subst (λ y. R a y) (sym both.1)
    (says (sym here ∙ ap (λ j. get_or (set cells (a * n + b) v) j false) (sym same) ∙ h))))
    (λ (other : c * n + d ≢ a * n + b).
    let there : get_or (set cells (a * n + b) v) (c * n + d) false ≡ get_or cells (c * n + d) false = get_or-set_other cells (a * n + b) (c * n + d) v false other in
    before c d in_c in_d (sym there ∙ h))
    (cases_eq (c * n + d) (a * n + b))

pub none_set : (m i : ℕ) → i < m → get_or (replicate m false) i false ≡ true → ⊥
none_set m i h e = false≢true (sym (get_or-replicate m i false false h) ∙ e)

pub none_set_in_rows : (n a b : ℕ) → a < n → b < n → get_or (replicate (n * n) false) (a * n + b) false ≡ true → ⊥
none_set_in_rows n a b p q e = none_set (n * n) (a * n + b) (mul-add-lt a n b n p q) e
