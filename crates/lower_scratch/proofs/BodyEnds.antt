-- Where a body ends.
use Rattle.std.proofs.Common.{◌≡◌, ℕ, zero, suc, ◌+◌, true, false, List, [], ◌∷◌, drop, ap, ◌∙◌, arith, Option, Some}
use Rattle.std.specs.Prelude.{if◌then◌else◌, slice_get}
use Rattle.code_ir.specs.declared.instr.Instr.{Instr}
use Rattle.lower_scratch.specs.Clearing.{body_size, ends_body, stop_of}

some-same : {A : Type 0} {x y : A} → ◌≡◌ {A = Option A} (Some x) (Some y) → x ≡ y
some-same e = cc

drop-at : (xs : List Instr) (k : ℕ) (x : Instr) → slice_get xs k ≡ Some x → drop k xs ≡ x ∷ drop (suc k) xs
drop-at [] k x e = absurd (cc)
drop-at (y ∷ xs) zero x e = let same : y ≡ x = some-same e in ap (λ z. z ∷ xs) same
drop-at (y ∷ xs) (suc k) x e = drop-at xs k x e

pub stop-next : (xs : List Instr) (p : ℕ) (x : Instr) → slice_get xs p ≡ Some x → ends_body x ≡ false → stop_of xs p ≡ stop_of xs (p + 1)
stop-next xs p x there inner =
    let next : suc p ≡ p + 1 = omega arith in
    let size : body_size (drop p xs) ≡ suc (body_size (drop (suc p) xs)) =
    ap body_size (drop-at xs p x there) ∙ ap (λ b. if b then 1 else suc (body_size (drop (suc p) xs))) inner in
    let same : body_size (drop (suc p) xs) ≡ body_size (drop (p + 1) xs) = ap (λ k. body_size (drop k xs)) next in
    omega (arith, size, same)

pub stop-here : (xs : List Instr) (p : ℕ) (x : Instr) → slice_get xs p ≡ Some x → ends_body x ≡ true → stop_of xs p ≡ p + 1
stop-here xs p x there last =
    let size : body_size (drop p xs) ≡ 1 = ap body_size (drop-at xs p x there) ∙ ap (λ b. if b then 1 else suc (body_size (drop (suc p) xs))) last in
    omega (arith, size)
