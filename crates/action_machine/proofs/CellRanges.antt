-- Ranges of cells and lists of tokens, an element at a time.
use Rattle.std.proofs.Common.{◌≡◌, ◌≢◌, ℕ, zero, suc, ◌+◌, ◌-◌, ◌*◌, ◌<◌, ◌≤◌, refl, sym, ℤ, pos, List, length, set, arith}
use Rattle.std.specs.Prelude.{Option, None, Some, slice_get}
use Rattle.std.proofs.lemmas.Option.{slice_get_within}
use Rattle.rvc_base.specs.declared.scalar.Scalar.{Scalar}
use Rattle.code_ir.specs.Effect.{LacksToken, cell, copied, push_token, stored, taken, zeroed}

pub zeroed-more : (c k n : ℕ) (cells : List ℤ) → k < n → zeroed (c + (k + 1)) (n - (k + 1)) (set cells (c + k) (pos 0)) ≡ zeroed (c + k) (n - k) cells
zeroed-more c k n cells h =
    let e : n - k ≡ suc (n - (k + 1)) = omega arith in
    let f : c + (k + 1) ≡ (c + k) + 1 = omega arith in
    rw (e, f) refl

pub zeroed-all : (c k n : ℕ) (cells all : List ℤ) → n ≤ k → zeroed (c + k) (n - k) cells ≡ all → cells ≡ all
zeroed-all c k n cells all h e =
    let none : n - k ≡ 0 = omega arith in rw none at e

pub copied-more : (t : Option Scalar) (d s k n : ℕ) (cells : List ℤ) → k < n → copied t (d + (k + 1)) (s + (k + 1)) (n - (k + 1)) (set cells (d + k) (stored t (cell cells (s + k)))) ≡ copied t (d + k) (s + k) (n - k) cells
copied-more t d s k n cells h =
    let e : n - k ≡ suc (n - (k + 1)) = omega arith in
    let f : d + (k + 1) ≡ (d + k) + 1 = omega arith in
    let g : s + (k + 1) ≡ (s + k) + 1 = omega arith in
    rw (e, f, g) refl

pub copied-all : (t : Option Scalar) (d s k n : ℕ) (cells all : List ℤ) → n ≤ k → copied t (d + k) (s + k) (n - k) cells ≡ all → cells ≡ all
copied-all t d s k n cells all h e =
    let none : n - k ≡ 0 = omega arith in rw none at e

-- ---- tokens that are there

there : (tokens : List ℤ) (k : ℕ) (o : Option ℤ) → slice_get tokens k ≡ o → o ≢ None → k < length tokens
there tokens k None e not = absurd (not refl)
there tokens k (Some v) e not = slice_get_within tokens k v e

pub token-inside : (tokens : List ℤ) (k : ℕ) (stack cells : List ℤ) → push_token (slice_get tokens k) stack cells ≢ LacksToken → k < length tokens
token-inside tokens k stack cells not = there tokens k (slice_get tokens k) refl (λ e. not (rw e refl))

pub taken-inside : (tokens : List ℤ) (d k m n : ℕ) (cells : List ℤ) → 0 < n → taken tokens d k m n cells ≢ None → k < length tokens
taken-inside tokens d k m zero cells h not = absurd (omega (arith, h))
taken-inside tokens d k m (suc n) cells h not = there tokens k (slice_get tokens k) refl (λ e. not (rw (e, taken) refl))

taken-one : (tokens : List ℤ) (d k m n : ℕ) (v : ℤ) (cells : List ℤ) → slice_get tokens k ≡ Some v → taken tokens d k m (suc n) cells ≡ taken tokens (d + 1) (k + m) m n (set cells d v)
taken-one tokens d k m n v cells e = rw (e, taken) refl

pub taken-more : (tokens : List ℤ) (d k m i n : ℕ) (v : ℤ) (cells : List ℤ) → i < n → slice_get tokens (k + i * m) ≡ Some v → taken tokens (d + (i + 1)) (k + (i + 1) * m) m (n - (i + 1)) (set cells (d + i) v) ≡ taken tokens (d + i) (k + i * m) m (n - i) cells
taken-more tokens d k m i n v cells h at =
    let e : n - i ≡ suc (n - (i + 1)) = omega arith in
    let f : d + (i + 1) ≡ (d + i) + 1 = omega arith in
    let g : k + (i + 1) * m ≡ (k + i * m) + m = grind arith in
    rw (e, f, g) (sym (taken-one tokens (d + i) (k + i * m) m (n - (i + 1)) v cells at))

pub taken-all : (tokens : List ℤ) (d k m i n : ℕ) (cells : List ℤ) (all : Option (List ℤ)) → n ≤ i → taken tokens (d + i) (k + i * m) m (n - i) cells ≡ all → all ≡ Some cells
taken-all tokens d k m i n cells all h e =
    let none : n - i ≡ 0 = omega arith in
    let f : Some cells ≡ all = rw none at e in sym f
