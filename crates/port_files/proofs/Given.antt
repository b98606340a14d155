-- Tokens and ends that are given of what is to come.
use Rattle.std.proofs.Common.{◌≡◌, ℕ, suc, ◌+◌, ◌/◌, ◌%◌, ◌<◌, ◌≤◌, Bool, true, false, nat_le, if◌then◌else◌, subst, List, [], ◌∷◌, ◌++◌, ℤ, Option, None, Some, length, map, take, drop, refl, sym, ap, ◌∙◌, arith, length-append, length-drop}
use Rattle.std.proofs.lemmas.List.{take-append-le, drop-append-le}
use Rattle.std.proofs.Math.Nat.{add-div_left, add-mod_left, div-eq_of_lt, mod-eq_of_lt}
use Rattle.rvc_base.specs.declared.scalar.Scalar.{Scalar}
use Rattle.rvc_base.specs.declared.scalar.Scalar.TheVariants.{Bool as Truth, Int, Uint}
use Rattle.port_files.specs.declared.feed.Next.{Next}
use Rattle.port_files.specs.declared.feed.Next.TheVariants.{Token, End, Failed}
use Rattle.port_files.specs.Answer.{IfToken}
use Rattle.rvc_base.specs.Width.{max_token_bytes}
use Rattle.net_model.specs.PortFile.{pieces, token_bytes, token_of}
use Rattle.port_files.specs.Coming.{coming, GivesToken, EndsWith, NothingLeft}

-- the first of the tokens
first_token : (kind : Scalar) (size : ℕ) (bytes : List ℕ) → 0 < size → size ≤ length bytes → map (token_of kind) (pieces (length bytes / size) size bytes) ≡ token_of kind (take size bytes) ∷ map (token_of kind) (pieces (length (drop size bytes) / size) size (drop size bytes))
first_token kind size bytes some within =
    let count : length bytes ≡ size + length (drop size bytes) = omega (arith, length-drop size bytes) in
    let one_more : length bytes / size ≡ suc (length (drop size bytes) / size) =
    ap (λ n. n / size) count ∙ add-div_left (length (drop size bytes)) some ∙ (let e : length (drop size bytes) / size + 1 ≡ suc (length (drop size bytes) / size) = omega arith in e) in
    ap (λ n. map (token_of kind) (pieces n size bytes)) one_more

same_rest : (size : ℕ) (bytes : List ℕ) → size ≤ length bytes → length (drop size bytes) % size ≡ length bytes % size
same_rest size bytes within =
    let count : length bytes ≡ size + length (drop size bytes) = omega (arith, length-drop size bytes) in
    sym (ap (λ n. n % size) count ∙ add-mod_left size (length (drop size bytes)))

pub gives : (kind : Scalar) (pulled : List ℕ) (left : Option (List ℕ)) (v : ℤ) (kept : List ℕ) → 0 < token_bytes kind → token_bytes kind ≤ length pulled → v ≡ token_of kind (take (token_bytes kind) pulled) → kept ≡ drop (token_bytes kind) pulled → GivesToken kind v (coming pulled left) (coming kept left)
gives kind pulled None v kept some within value e = refl
gives kind pulled (Some left) v kept some within value e =
    let size = token_bytes kind in
    let taken : take size (pulled ++ left) ≡ take size pulled = take-append-le size pulled left within in
    let dropped : drop size (pulled ++ left) ≡ kept ++ left = drop-append-le size pulled left within ∙ ap (λ xs. xs ++ left) (sym e) in
    let long : size ≤ length (pulled ++ left) = omega (arith, length-append pulled left) in (
      first_token kind size (pulled ++ left) some long
          ∙ ap (λ xs. token_of kind xs ∷ map (token_of kind) (pieces (length (drop size (pulled ++ left)) / size) size (drop size (pulled ++ left)))) taken
          ∙ ap (λ xs. token_of kind (take size pulled) ∷ map (token_of kind) (pieces (length xs / size) size xs)) dropped
          ∙ ap (λ t. t ∷ map (token_of kind) (pieces (length (kept ++ left) / size) size (kept ++ left))) (sym value),
      ap (λ xs. length xs % size) (sym dropped) ∙ same_rest size (pulled ++ left) long,
    )

ends_told : (kind : Scalar) (size : ℕ) (bytes : List ℕ) → length bytes < size → map (token_of kind) (pieces (length bytes / size) size bytes) ≡ []
ends_told kind size bytes short =
    let none : length bytes / size ≡ 0 = div-eq_of_lt short in
    ap (λ n. map (token_of kind) (pieces n size bytes)) none

pub ends : (kind : Scalar) (pulled : List ℕ) (left : Option (List ℕ)) (rest : ℕ) → NothingLeft left → rest ≡ length pulled → rest < token_bytes kind → EndsWith kind rest (coming pulled left)
ends kind pulled None rest nothing count short = short
ends kind pulled (Some left) rest nothing count short =
    let all : length (pulled ++ left) ≡ length pulled = omega (arith, length-append pulled left, ap length nothing) in
    let few : length (pulled ++ left) < token_bytes kind = omega arith in
    (ends_told kind (token_bytes kind) (pulled ++ left) few, omega arith, omega arith ∙ sym (mod-eq_of_lt few))

some_of : (a b c : Bool) → 0 < (if a then 1 else if b then 2 else if c then 4 else max_token_bytes)
some_of true b c = omega arith
some_of false true c = omega arith
some_of false false true = omega arith
some_of false false false = omega arith

some_bytes : (kind : Scalar) → 0 < token_bytes kind
some_bytes Truth = omega arith
some_bytes (Int n) = some_of (nat_le n 8) (nat_le n 16) (nat_le n 32)
some_bytes (Uint n) = some_of (nat_le n 8) (nat_le n 16) (nat_le n 32)

-- the token that was given of what was pulled is the first of what was to come
pub given : (next : Next) (kind kind' : Scalar) (before pulled kept : List ℕ) (left_before left : Option (List ℕ)) (ended : Bool) → kind' ≡ kind → coming pulled left ≡ coming before left_before → IfToken next (λ v. (ended ≡ false) × (token_bytes kind' ≤ length pulled) × (v ≡ token_of kind' (take (token_bytes kind') pulled)) × (kept ≡ drop (token_bytes kind') pulled)) → IfToken next (λ v. GivesToken kind v (coming before left_before) (coming kept left))
given (Token v) kind kind' before pulled kept left_before left ended same stays token =
    let P : Scalar → Type 0 = λ k. GivesToken k v (coming before left_before) (coming kept left) in
    let Q : Option (List ℕ) → Type 0 = λ bytes. GivesToken kind' v bytes (coming kept left) in
    subst P same (subst Q stays (gives kind' pulled left v kept (some_bytes kind') token.1 token.2 token.3))
given (End rest) kind kind' before pulled kept left_before left ended same stays token = tt
given Failed kind kind' before pulled kept left_before left ended same stays token = tt
