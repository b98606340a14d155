-- The sequence of a seed.
use Rattle.std.proofs.Common.{◌≡◌, ℕ, zero, suc, ◌+◌, ◌-◌, ◌*◌, ◌<◌, Bool, map, refl, sym, ap, ◌∙◌, arith, add-one}
use Rattle.std.proofs.Math.Nat.{zero-mul, suc-mul}
use Rattle.std.specs.List.{range_with_len}
use Rattle.rvc_base.specs.Picks.{number_after, number_at, has_highest_bit}

pub number_at-zero : (seed : ℕ) → number_at seed 0 ≡ seed
unfolding number_at
number_at-zero seed = refl

pub number_at-more : (seed n : ℕ) → number_at seed (n + 1) ≡ number_after (number_at seed n)
unfolding number_at
number_at-more seed n = rw add-one refl

-- the sequence that starts at a number of a sequence goes on as that one
pub number_at-number_at : (seed a b : ℕ) → number_at (number_at seed a) b ≡ number_at seed (a + b)
number_at-number_at seed a zero = number_at-zero (number_at seed a) ∙ ap (number_at seed) (let e : a ≡ a + 0 = omega arith in e)
number_at-number_at seed a (suc b) =
    ap (number_at (number_at seed a)) (let e : suc b ≡ b + 1 = omega arith in e)
    ∙ number_at-more (number_at seed a) b
    ∙ ap number_after (number_at-number_at seed a b)
    ∙ sym (number_at-more seed (a + b))
    ∙ ap (number_at seed) (let e : a + b + 1 ≡ a + suc b = omega arith in e)

-- the marks of a round, from the number with which the round before ended
pub marks-from : (seed last start n : ℕ) → last ≡ number_at seed start → map (λ k. has_highest_bit (number_at last (k + 1))) (range_with_len 0 n) ≡ map (λ k. has_highest_bit (number_at seed (start + k + 1))) (range_with_len 0 n)
marks-from seed last start n e =
    let each : (k : ℕ) → has_highest_bit (number_at last (k + 1)) ≡ has_highest_bit (number_at seed (start + k + 1)) =
    λ k. ap has_highest_bit (ap (λ x. number_at x (k + 1)) e ∙ number_at-number_at seed start (k + 1) ∙ ap (number_at seed) (let same : start + (k + 1) ≡ start + k + 1 = omega arith in same)) in
    ap (λ (f : ℕ → Bool). map f (range_with_len 0 n)) (λ i k. each k i)

-- where the numbers of a round start in the sequence
pub start_of : (round rounds instances n : ℕ) → round ≡ rounds + 1 → (0 < rounds → n ≡ instances) → rounds * instances ≡ (round - 1) * n
start_of round zero instances n next same =
    let first : 0 ≡ round - 1 = omega arith in
    zero-mul instances ∙ sym (zero-mul n) ∙ ap (λ k. k * n) first
start_of round (suc before) instances n next same =
    let begun : suc before ≡ round - 1 = omega arith in
    ap (λ k. suc before * k) (sym (same (omega arith))) ∙ ap (λ k. k * n) begun

-- a round takes so many numbers
pub end_of : (round n m : ℕ) → 0 < round → m ≡ n → (round - 1) * n + n ≡ round * m
end_of zero n m some same = absurd (omega arith)
end_of (suc before) n m some same =
    let begun : suc before - 1 ≡ before = omega arith in
    ap (λ k. k * n + n) begun ∙ sym (suc-mul before n) ∙ ap (λ k. suc before * k) (sym same)
