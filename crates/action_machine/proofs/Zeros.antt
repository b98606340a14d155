-- Lists of zeros that grow, and what they are room for.
use Rattle.std.proofs.Common.{◌≡◌, ℕ, zero, suc, ◌+◌, ◌*◌, ◌<◌, ◌≤◌, refl, sym, subst, ℤ, pos, List, [], ◌∷◌, ◌++◌, length, arith, length-append}
use Rattle.std.specs.Prelude.{Some, slice_get}
use Rattle.std.proofs.Math.Nat.{mul-le-mul_right}
use Rattle.code_ir.specs.Code.{Code}
use Rattle.code_ir.specs.Typing.{Way}
use Rattle.action_machine.specs.Kept.{AreZeros, IsMadeFor, Kept}

zero-at : (xs : List ℤ) (p : ℕ) → ((k : ℕ) → k < length xs → slice_get xs k ≡ Some (pos 0)) → p < length xs + 1 → slice_get (xs ++ pos 0 ∷ []) p ≡ Some (pos 0)
zero-at [] zero h less = refl
zero-at [] (suc p) h less = absurd (omega (arith, less))
zero-at (x ∷ xs) zero h less = h 0 (omega arith)
zero-at (x ∷ xs) (suc p) h less = zero-at xs p (λ k l. h (suc k) (omega (arith, l))) (omega (arith, less))

pub zeros-more : (n : ℕ) (xs : List ℤ) → AreZeros n xs → AreZeros (n + 1) (xs ++ pos 0 ∷ [])
zeros-more n xs are = record {
  size = omega (arith, length-append xs (pos 0 ∷ []), are.size);
  zero = λ k h. zero-at xs k (λ j l. are.zero j (omega (arith, l, are.size))) (omega (arith, h, are.size));
}

-- so much room is enough if no way through the code has more operands than are said
pub made-for : (code : Code) (kept : Kept) (most n : ℕ) → n ≡ length code.routines → ((p h : ℕ) → Way code p h → h ≤ most) → length kept.numbers ≡ code.cells → kept.operands ≡ most * (n + 1) → kept.calls ≡ n → IsMadeFor code kept
made-for code kept most n same bound cells operands calls = record {
  size = cells;
  operands = λ p h way.
      subst (λ k. h * (k + 1) ≤ kept.operands) same (subst (λ k. h * (n + 1) ≤ k) (sym operands) (mul-le-mul_right (n + 1) (bound p h way)));
  calls = omega (arith, same, calls);
}
