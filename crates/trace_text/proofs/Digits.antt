-- Numbers of which some digits have been read.
use Rattle.std.proofs.Common.{◌≡◌, ◌⊎◌, ℕ, zero, suc, ◌+◌, ◌*◌, ◌/◌, ◌%◌, ◌^◌, ◌<◌, ◌≤◌, List, [], ◌∷◌, ◌++◌, Option, None, Some, refl, sym, ap, ◌∙◌, inl, inr, subst, ⊎_elim, arith, append_assoc}
use Rattle.std.specs.Prelude.{decimal, length, slice_index_or as get_or}
use Rattle.std.proofs.lemmas.Bool.{cases_lt}
use Rattle.std.proofs.lemmas.List.{append-nil}
use Rattle.std.proofs.lemmas.Fmt.{decimal_by_steps, decimal_injective, decimal_step, decimal_digit, decimal_nonempty, first_decimal}
use Rattle.trace_text.specs.Waiting.{IsDigit, IsNumber, Numbers, digits_so_far}
use Rattle.trace_text.proofs.Decoding.{consed, AreDigits, decimal_digits, heads, tails}

-- what begins with no digit
abbrev pub Stops : List ℕ → Type 0
Stops [] = ⊥
Stops (c ∷ cs) = IsDigit c → ⊥

record Split (xs ys r s : List ℕ) : Type 0 where
  same : xs ≡ ys
  rest : r ≡ s

-- digits up to what is no digit
split : (xs ys r s : List ℕ) → AreDigits xs → AreDigits ys → Stops r → Stops s → xs ++ r ≡ ys ++ s → Split xs ys r s
split [] [] r s all those here there h = record { same = refl; rest = h }
split [] (y ∷ ys) [] s all those here there h = absurd here
split [] (y ∷ ys) (c ∷ r) s all those here there h =
    absurd (here (let e : c ≡ y = heads c y r (ys ++ s) h in let one = those.0.0 in let two = those.0.1 in (omega arith, omega arith)))
split (x ∷ xs) [] r [] all those here there h = absurd there
split (x ∷ xs) [] r (d ∷ s) all those here there h =
    absurd (there (let e : x ≡ d = heads x d (xs ++ r) s h in let one = all.0.0 in let two = all.0.1 in (omega arith, omega arith)))
split (x ∷ xs) (y ∷ ys) r s all those here there h =
    let first : x ≡ y = heads x y (xs ++ r) (ys ++ s) h in
    let others : Split xs ys r s = split xs ys r s all.1 those.1 here there (tails x y _ _ h) in
    record { same = consed x y xs ys first others.same; rest = others.rest }

-- digits that begin digits
begun : (xs ys r s : List ℕ) → AreDigits xs → Stops s → xs ++ r ≡ ys ++ s → (ds : List ℕ) × (xs ++ ds ≡ ys)
begun [] ys r s all there h = (ys, refl)
begun (x ∷ xs) [] r [] all there h = absurd there
begun (x ∷ xs) [] r (d ∷ s) all there h =
    absurd (there (let e : x ≡ d = heads x d (xs ++ r) s h in let one = all.0.0 in let two = all.0.1 in (omega arith, omega arith)))
begun (x ∷ xs) (y ∷ ys) r s all there h =
    let first : x ≡ y = heads x y (xs ++ r) (ys ++ s) h in
    let others = begun xs ys r s all.1 there (tails x y _ _ h) in
    (others.0, consed x y (xs ++ others.0) ys first others.1)

-- a prefix of a list with one more is all of it, or a prefix of the list
shorter : (us bs xs : List ℕ) (l : ℕ) → us ++ bs ≡ xs ++ (l ∷ [])
    → (us ≡ xs ++ (l ∷ [])) ⊎ ((ds : List ℕ) × (us ++ ds ≡ xs))
shorter [] bs xs l h = inr (xs, refl)
shorter (a ∷ []) [] [] l h = inl h
shorter (a ∷ []) (b ∷ bs) [] l h = absurd (let e : b ∷ bs ≡ [] = tails a l (b ∷ bs) [] h in cc)
shorter (a ∷ b ∷ us) bs [] l h = absurd (let e : b ∷ (us ++ bs) ≡ [] = tails a l (b ∷ (us ++ bs)) [] h in cc)
shorter (a ∷ us) bs (x ∷ xs) l h =
    let first : a ≡ x = heads a x (us ++ bs) (xs ++ (l ∷ [])) h in
    elim (shorter us bs xs l (tails a x _ _ h)) [
      | inl e ↦ inl (consed a x us (xs ++ (l ∷ [])) first e)
      | inr e ↦ inr (e.0, consed a x (us ++ e.0) xs first e.1)
    ]

abbrev NoneGreater : ℕ → List ℕ → Type 0
NoneGreater n xs = n < 2 ^ 64 → (xs ≡ decimal n) × ((m : ℕ) (ds : List ℕ) → m < 2 ^ 64 → decimal m ++ ds ≡ xs → m ≤ n)

whole : (xs ds : List ℕ) (c : ℕ) → 0 < length xs → xs ++ ds ≡ c ∷ [] → xs ≡ c ∷ []
whole [] ds c long h = absurd (omega arith)
whole (x ∷ []) [] c long h = h
whole (x ∷ []) (d ∷ ds) c long h = absurd (let e : d ∷ ds ≡ [] = tails x c (d ∷ ds) [] h in cc)
whole (x ∷ y ∷ xs) ds c long h = absurd (let e : y ∷ (xs ++ ds) ≡ [] = tails x c (y ∷ (xs ++ ds)) [] h in cc)

none_greater_one : (n : ℕ) → n < 10 → NoneGreater n ((48 + n) ∷ [])
none_greater_one n low fits = (
  sym (decimal_digit n low),
  λ m ds small h.
      let e : m ≡ n = decimal_injective m n small fits (whole (decimal m) ds (48 + n) (decimal_nonempty m small) h ∙ sym (decimal_digit n low))
      in omega arith,
)

none_greater_more : (n : ℕ) (xs : List ℕ) → 10 ≤ n → NoneGreater (n / 10) xs → NoneGreater n (xs ++ ((48 + n % 10) ∷ []))
none_greater_more n xs high below fits =
    let there = below (omega arith) in
    let same : xs ++ ((48 + n % 10) ∷ []) ≡ decimal n =
    ap (λ u. u ++ ((48 + n % 10) ∷ [])) there.0 ∙ sym (decimal_step n high fits) in (
      same,
      λ m ds small h. elim (shorter (decimal m) ds xs (48 + n % 10) h) [
        | inl e ↦ (let e' : m ≡ n = decimal_injective m n small fits (e ∙ same) in omega arith)
        | inr e ↦ (let e' : m ≤ n / 10 = there.1 m e.0 small e.1 in omega arith)
      ],
    )

-- a number whose digits begin those of another is no greater
no_greater : (m n : ℕ) (r tail : List ℕ) → m < 2 ^ 64 → n < 2 ^ 64 → Stops tail → decimal m ++ r ≡ decimal n ++ tail → m ≤ n
no_greater m n r tail small fits there h =
    let front = begun (decimal m) (decimal n) r tail (decimal_digits m small) there h in
    (decimal_by_steps NoneGreater none_greater_one none_greater_more n fits fits).1 m front.0 small front.1

-- one digit more
pub longer : (v d : ℕ) → 0 < v → v < 2 ^ 32 → d < 10 → decimal (v * 10 + d) ≡ decimal v ++ ((48 + d) ∷ [])
longer v d some low digit =
    let quotient : (v * 10 + d) / 10 ≡ v = omega arith in
    let last : (v * 10 + d) % 10 ≡ d = omega arith in
    decimal_step (v * 10 + d) (omega arith) (omega arith) ∙ rw (quotient, last) refl

first_is_digit : (xs r tail : List ℕ) (byte : ℕ) → AreDigits xs → 0 < length xs → byte ∷ r ≡ xs ++ tail → IsDigit byte
first_is_digit [] r tail byte all long h = absurd (omega arith)
first_is_digit (x ∷ xs) r tail byte all long h =
    let e : byte ≡ x = heads byte x r (xs ++ tail) h in let one = all.0.0 in let two = all.0.1 in (omega arith, omega arith)

first_of_all : (xs r tail : List ℕ) (c : ℕ) → 0 < length xs → c ∷ r ≡ xs ++ tail → get_or xs 0 0 ≡ c
first_of_all [] r tail c long h = absurd (omega arith)
first_of_all (x ∷ xs) r tail c long h = sym (heads c x r (xs ++ tail) h)

-- what stands behind a number begins with no digit
abbrev pub AllStop : (ℕ → List ℕ → Type 0) → Type 0
AllStop after = (n : ℕ) (tail : List ℕ) → after n tail → Stops tail

-- no number begins with what is no digit
pub no_first : (bound byte : ℕ) (after : ℕ → List ℕ → Type 0) (bytes : List ℕ) → bound ≤ 2 ^ 32 → (IsDigit byte → ⊥)
    → Numbers bound None after (byte ∷ bytes) → ⊥
no_first bound byte after bytes low plain w =
    let fits : w.number < 2 ^ 64 = omega arith in
    plain (first_is_digit (decimal w.number) bytes w.tail byte (decimal_digits w.number fits) (decimal_nonempty w.number fits) w.text)

pub record Stopped (v bound : ℕ) (after : ℕ → List ℕ → Type 0) (bytes : List ℕ) : Type 0 where
  pub is_bounded : v < bound
  pub follows : after v bytes

-- a number ends where no digit stands
pub stopped : (bound v byte : ℕ) (after : ℕ → List ℕ → Type 0) (bytes : List ℕ) → bound ≤ 2 ^ 32 → AllStop after
    → (IsDigit byte → ⊥) → Numbers bound (Some v) after (byte ∷ bytes) → Stopped v bound after (byte ∷ bytes)
stopped bound v byte after bytes low stops plain w =
    let small : v < 2 ^ 32 = w.fits in
    let fits : w.number < 2 ^ 64 = omega arith in
    let parts = split (decimal v) (decimal w.number) (byte ∷ bytes) w.tail
    (decimal_digits v (omega arith)) (decimal_digits w.number fits) plain (stops w.number w.tail w.follows) w.text in
    let same : v ≡ w.number = decimal_injective v w.number (omega arith) fits parts.same in
    record {
      is_bounded = omega arith;
      follows = subst (λ n. after n (byte ∷ bytes)) (sym same) (subst (λ u. after w.number u) (sym parts.rest) w.follows);
    }

pub unstopped : (bound v : ℕ) (after : ℕ → List ℕ → Type 0) (bytes : List ℕ) → bound ≤ 2 ^ 32 → v < bound → after v bytes → Numbers bound (Some v) after bytes
unstopped bound v after bytes high low there = record { fits = omega arith; number = v; tail = bytes; is_bounded = low; text = refl; follows = there }

-- no digit follows a 0
zero_last : (n byte : ℕ) (bytes tail : List ℕ) → n < 2 ^ 64 → Stops tail → IsDigit byte → 48 ∷ byte ∷ bytes ≡ decimal n ++ tail → ⊥
zero_last zero byte bytes [] fits there digit h = there
zero_last zero byte bytes (c ∷ tail) fits there digit h =
    let e : 48 ∷ byte ∷ bytes ≡ 48 ∷ c ∷ tail = h ∙ ap (λ u. u ++ (c ∷ tail)) (decimal_digit 0 (omega arith)) in
    let same : byte ≡ c = heads byte c bytes tail (tails 48 48 _ _ e) in
    there (subst IsDigit same digit)
zero_last (suc n) byte bytes tail fits there digit h =
    let e : get_or (decimal (suc n)) 0 0 ≡ 48 = first_of_all (decimal (suc n)) (byte ∷ bytes) tail 48 (decimal_nonempty (suc n) fits) h in
    let high : 48 < get_or (decimal (suc n)) 0 0 = first_decimal (suc n) (omega arith) fits in
    omega arith

pub after_zero : (bound byte : ℕ) (after : ℕ → List ℕ → Type 0) (bytes : List ℕ) → bound ≤ 2 ^ 32 → AllStop after → IsDigit byte
    → Numbers bound (Some 0) after (byte ∷ bytes) → ⊥
after_zero bound byte after bytes low stops digit w =
    zero_last w.number byte bytes w.tail (omega arith) (stops w.number w.tail w.follows) digit
    (sym (ap (λ u. u ++ (byte ∷ bytes)) (decimal_digit 0 (omega arith))) ∙ w.text)

-- one digit more, and none is too great
pub too_great : (bound v d : ℕ) (after : ℕ → List ℕ → Type 0) (bytes : List ℕ) → bound ≤ 2 ^ 32 → AllStop after → 0 < v
    → d < 10 → bound ≤ v * 10 + d → Numbers bound (Some v) after ((48 + d) ∷ bytes) → ⊥
too_great bound v d after bytes low stops some digit great w =
    let small : v < 2 ^ 32 = w.fits in
    let text : decimal (v * 10 + d) ++ bytes ≡ decimal w.number ++ w.tail =
    ap (λ u. u ++ bytes) (longer v d some small digit) ∙ append_assoc (decimal v) ((48 + d) ∷ []) bytes ∙ w.text in
    let most : v * 10 + d ≤ w.number = no_greater (v * 10 + d) w.number bytes w.tail (omega arith) (omega arith)
    (stops w.number w.tail w.follows) text in
    omega arith

pub more_digits : (bound v d : ℕ) (after : ℕ → List ℕ → Type 0) (bytes : List ℕ) → 0 < v → v * 10 + d < 2 ^ 32 → d < 10
    → Numbers bound (Some v) after ((48 + d) ∷ bytes) → Numbers bound (Some (v * 10 + d)) after bytes
more_digits bound v d after bytes some small digit w = record {
  fits = small;
  number = w.number;
  tail = w.tail;
  is_bounded = w.is_bounded;
  text = ap (λ u. u ++ bytes) (longer v d some (omega arith) digit) ∙ append_assoc (decimal v) ((48 + d) ∷ []) bytes ∙ w.text;
  follows = w.follows;
}

pub less_digits : (bound v d : ℕ) (after : ℕ → List ℕ → Type 0) (bytes : List ℕ) → 0 < v → v * 10 + d < 2 ^ 32 → d < 10
    → Numbers bound (Some (v * 10 + d)) after bytes → Numbers bound (Some v) after ((48 + d) ∷ bytes)
less_digits bound v d after bytes some small digit w = record {
  fits = omega arith;
  number = w.number;
  tail = w.tail;
  is_bounded = w.is_bounded;
  text = sym (append_assoc (decimal v) ((48 + d) ∷ []) bytes) ∙ ap (λ u. u ++ bytes) (sym (longer v d some (omega arith) digit)) ∙ w.text;
  follows = w.follows;
}

pub one_digit : (bound d : ℕ) (after : ℕ → List ℕ → Type 0) (bytes : List ℕ) → d < 10
    → Numbers bound None after ((48 + d) ∷ bytes) → Numbers bound (Some d) after bytes
one_digit bound d after bytes digit w = record {
  fits = omega arith;
  number = w.number;
  tail = w.tail;
  is_bounded = w.is_bounded;
  text = ap (λ u. u ++ bytes) (decimal_digit d digit) ∙ w.text;
  follows = w.follows;
}

pub no_digit : (bound d : ℕ) (after : ℕ → List ℕ → Type 0) (bytes : List ℕ) → d < 10
    → Numbers bound (Some d) after bytes → Numbers bound None after ((48 + d) ∷ bytes)
no_digit bound d after bytes digit w = record {
  fits = tt;
  number = w.number;
  tail = w.tail;
  is_bounded = w.is_bounded;
  text = ap (λ u. u ++ bytes) (sym (decimal_digit d digit)) ∙ w.text;
  follows = w.follows;
}

-- a number that waits has more to come
digits_end : (xs : List ℕ) (c : ℕ) (tail : List ℕ) → AreDigits (xs ++ (c ∷ tail)) → IsDigit c
digits_end [] c tail all = all.0
digits_end (x ∷ xs) c tail all = digits_end xs c tail all.1

so_far_digits : (so_far : Option ℕ) → IsNumber so_far → AreDigits (digits_so_far so_far ++ [])
so_far_digits None low = tt
so_far_digits (Some v) low = subst AreDigits (sym (append-nil (decimal v))) (decimal_digits v (omega arith))

not_whole : (xs tail : List ℕ) → Stops tail → AreDigits (xs ++ tail) → ⊥
not_whole xs [] there all = there
not_whole xs (c ∷ tail) there all = there (digits_end xs c tail all)

pub no_end : (bound : ℕ) (so_far : Option ℕ) (after : ℕ → List ℕ → Type 0) → AllStop after → Numbers bound so_far after [] → ⊥
no_end bound so_far after stops w =
    not_whole (decimal w.number) w.tail (stops w.number w.tail w.follows) (subst AreDigits w.text (so_far_digits so_far w.fits))

-- a byte is a digit, or it is none
pub a_digit_or_not : {P : Type 0} (byte : ℕ) → (IsDigit byte → P) → ((IsDigit byte → ⊥) → P) → P
a_digit_or_not byte p q = ⊎_elim
    (λ low. q (λ digit. omega (arith, digit.0)))
    (λ high. ⊎_elim (λ low. p (omega arith, low)) (λ great. q (λ digit. omega (arith, digit.1))) (cases_lt byte 58))
    (cases_lt byte 48)
