-- The bytes of a number.
use Rattle.std.proofs.Common.{◌≡◌, ℕ, suc, ◌+◌, ◌-◌, ◌*◌, ◌/◌, ◌%◌, ◌^◌, ◌<◌, ◌≤◌, List, [], ◌∷◌, ◌++◌, length, get_or, take, drop, set, refl, sym, ap, ◌∙◌, append_assoc, subst, arith}
use Rattle.std.proofs.lemmas.List.{at_drop_more, length-set}
use Rattle.std.proofs.lemmas.Grind.{pow_more, take-set_at}
use Rattle.std.proofs.Math.Nat.{pow-le-pow_right}
use Rattle.net_model.specs.PortFile.{little_endian, to_little_endian}

-- one more byte, from the end
pub value_more : (bytes : List ℕ) (k j byte n : ℕ) → k < length bytes → j ≡ k + 1 → byte ≡ get_or bytes k 0 → n ≡ little_endian (drop j bytes) → byte + 256 * n ≡ little_endian (drop k bytes)
value_more bytes k j byte n within next read e =
    let later : n ≡ little_endian (drop (k + 1) bytes) = e ∙ ap (λ i. little_endian (drop i bytes)) next in
    rw (read, later) (sym (at_drop_more little_endian bytes k 0 within))

pub fits_more : (byte n i : ℕ) → byte < 256 → n < 256 ^ i → byte + 256 * n < 256 ^ (i + 1)
fits_more byte n i small fits = let more : 256 ^ (i + 1) ≡ 256 ^ i * 256 = pow_more 256 i in omega arith

pub fits_below : (n i j : ℕ) → n < 256 ^ i → i ≤ j → n < 256 ^ j
fits_below n i j fits small = let grows : 256 ^ i ≤ 256 ^ j = pow-le-pow_right (omega arith) small in omega arith

-- one more byte was written
pub written_more : (out all : List ℕ) (k len rest byte : ℕ) → k < length out → length out ≡ len → byte ≡ rest % 256 → take k out ++ to_little_endian (len - k) rest ≡ all → take (k + 1) (set out k byte) ++ to_little_endian (len - (k + 1)) (rest / 256) ≡ all
written_more out all k len rest byte within same low e =
    let more : len - k ≡ suc (len - (k + 1)) = omega arith in
    let bytes : to_little_endian (len - k) rest ≡ rest % 256 ∷ to_little_endian (len - (k + 1)) (rest / 256) = ap (λ c. to_little_endian c rest) more in
    let front : take (k + 1) (set out k byte) ≡ take k out ++ byte ∷ [] = take-set_at out k (k + 1) byte refl within in
    let joined : (take k out ++ byte ∷ []) ++ to_little_endian (len - (k + 1)) (rest / 256) ≡ take k out ++ (byte ∷ to_little_endian (len - (k + 1)) (rest / 256)) = append_assoc (take k out) (byte ∷ []) (to_little_endian (len - (k + 1)) (rest / 256)) in
    rw (front, joined, low) (ap (λ xs. take k out ++ xs) (sym bytes) ∙ e)

pub written_again : (out : List ℕ) (k rest number : ℕ) → k < length out → take k out ++ to_little_endian (length out - k) rest ≡ to_little_endian (length out) number → take (k + 1) (set out k (rest % 256)) ++ to_little_endian (length (set out k (rest % 256)) - (k + 1)) (rest / 256) ≡ to_little_endian (length (set out k (rest % 256))) number
written_again out k rest number within e =
    let P : ℕ → Type 0 = λ len. take (k + 1) (set out k (rest % 256)) ++ to_little_endian (len - (k + 1)) (rest / 256) ≡ to_little_endian len number in
    subst P (sym (length-set out k (rest % 256))) (written_more out (to_little_endian (length out) number) k (length out) rest (rest % 256) within refl refl e)
