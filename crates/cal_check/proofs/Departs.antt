-- Moves that send an action elsewhere than others do.
use Rattle.std.proofs.Common.{◌≡◌, ◌≢◌, ℕ, Bool, true, false, not, ◌&&◌, ◌||◌, ◌⊎◌, inl, inr, List, [], ◌∷◌, ◌++◌, refl, sym, ap, subst, ◌∙◌, arith, Contains}
use Rattle.std.specs.Prelude.{◌==◌}
use Rattle.cal_model.specs.Actor.{Move}
use Rattle.cal_check.specs.Schedules.{conflicts_with, conflicts_with_one, some_conflict}
use Rattle.cal_check.proofs.Lists.{head-or-rest, in-none}

-- from the same state, by the same action, to another state
abbrev pub Elsewhere : Move → Move → Type 0
Elsewhere m n = (m.from ≡ n.from) × (m.action ≡ n.action) × (m.to ≢ n.to)

same-number : (n m : ℕ) → (n == m) ≡ true → n ≡ m
same-number n m h = grind arith

number-same : (n m : ℕ) → n ≡ m → (n == m) ≡ true
number-same n m h = grind arith

number-other : (n m : ℕ) → n ≢ m → not (n == m) ≡ true
number-other n m h = grind arith

other-number : (n m : ℕ) → not (n == m) ≡ true → n ≢ m
other-number n m h = grind arith

both-true : (b c : Bool) → (b && c) ≡ true → (b ≡ true) × (c ≡ true)
both-true true c h = (refl, h)
both-true false c h = absurd (cc)

pub conflicts_with-is : (m n : Move) → conflicts_with m n ≡ true → Elsewhere m n
conflicts_with-is m n h =
    let a = both-true (m.from == n.from) ((m.action == n.action) && not (m.to == n.to)) h in
    let b = both-true (m.action == n.action) (not (m.to == n.to)) a.1 in
    (same-number m.from n.from a.0, same-number m.action n.action b.0, other-number m.to n.to b.1)

is-conflicts_with : (m n : Move) → Elsewhere m n → conflicts_with m n ≡ true
is-conflicts_with m n h =
    ap (λ x. x && ((m.action == n.action) && not (m.to == n.to))) (number-same m.from n.from h.0)
    ∙ ap (λ x. x && not (m.to == n.to)) (number-same m.action n.action h.1)
    ∙ number-other m.to n.to h.2

or-right : (b c : Bool) → c ≡ true → (b || c) ≡ true
or-right true c h = refl
or-right false c h = h

or-neither : (b c : Bool) → b ≡ false → c ≡ false → (b || c) ≡ false
or-neither b c h i = ap (λ x. x || c) h ∙ i

-- a move conflicts_with from one that is among these
pub among-conflicts_with : (m n : Move) (ms : List Move) → Contains ms n → Elsewhere m n → conflicts_with_one m ms ≡ true
among-conflicts_with m n [] h e = absurd (in-none n h)
among-conflicts_with m n (x ∷ ms) h e = go (head-or-rest n x ms h) (among-conflicts_with m n ms)
  where
    go : (x ≡ n) ⊎ Contains ms n → (Contains ms n → Elsewhere m n → conflicts_with_one m ms ≡ true) → conflicts_with_one m (x ∷ ms) ≡ true
    go (inl s) ih = ap (λ b. b || conflicts_with_one m ms) (is-conflicts_with m x (subst (λ y. Elsewhere m y) (sym s) e))
    go (inr c) ih = or-right (conflicts_with m x) (conflicts_with_one m ms) (ih c e)

-- one of these conflicts_with
pub some-conflicts_with : (m : Move) (ms before : List Move) → Contains ms m → conflicts_with_one m before ≡ true → some_conflict ms before ≡ true
some-conflicts_with m [] before h d = absurd (in-none m h)
some-conflicts_with m (x ∷ ms) before h d = go (head-or-rest m x ms h) (some-conflicts_with m ms before)
  where
    go : (x ≡ m) ⊎ Contains ms m → (Contains ms m → conflicts_with_one m before ≡ true → some_conflict ms before ≡ true) → some_conflict (x ∷ ms) before ≡ true
    go (inl s) ih = ap (λ b. b || some_conflict ms before) (ap (λ y. conflicts_with_one y before) s ∙ d)
    go (inr c) ih = or-right (conflicts_with_one x before) (some_conflict ms before) (ih c d)

pub none-conflicts_with : (ms : List Move) (m : Move) (before : List Move) → some_conflict ms before ≡ false → conflicts_with_one m before ≡ false → some_conflict (ms ++ m ∷ []) before ≡ false
none-conflicts_with [] m before h d = or-neither (conflicts_with_one m before) false d refl
none-conflicts_with (x ∷ ms) m before h d = go (conflicts_with_one x before) h (none-conflicts_with ms m before)
  where
    go : (b : Bool) → (b || some_conflict ms before) ≡ false → (some_conflict ms before ≡ false → conflicts_with_one m before ≡ false → some_conflict (ms ++ m ∷ []) before ≡ false)
        → (b || some_conflict (ms ++ m ∷ []) before) ≡ false
    go true e ih = absurd (cc)
    go false e ih = ih e d

-- none of these leads elsewhere than one of those
pub none-elsewhere : (ms before : List Move) (m n : Move) → some_conflict ms before ≡ false → Contains ms m → Contains before n → Elsewhere m n → ⊥
none-elsewhere ms before m n h c d e =
    let yes : some_conflict ms before ≡ true = some-conflicts_with m ms before c (among-conflicts_with m n before d e) in
    let never : true ≡ false = sym yes ∙ h in absurd (cc)
