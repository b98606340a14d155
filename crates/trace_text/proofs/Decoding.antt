-- A text is the text of one list of lines.
use Rattle.std.proofs.Common.{◌≡◌, ℕ, zero, suc, ◌+◌, ◌%◌, ◌^◌, ◌<◌, ◌≤◌, List, [], ◌∷◌, ◌++◌, refl, sym, ap, ◌∙◌, arith, append_assoc}
use Rattle.std.specs.Prelude.{decimal, codes, flat_map, drop}
use Rattle.std.proofs.lemmas.Fmt.{decimal_by_steps, decimal_injective}
use Rattle.rvc_base.specs.declared.trap.Trap.{Trap as TrapName}
use Rattle.rvc_base.specs.declared.trap.Trap.TheVariants.{Overflow, DivideByZero, IndexRange, ShiftRange, TurnLimit}
use Rattle.rvc_base.specs.Trap.{trap_name}
use Rattle.trace_text.specs.declared.line.Line.{Line}
use Rattle.trace_text.specs.declared.line.Line.TheVariants.{Header, Inst, Fire, Deliver, Grow, Quiet, Trap, Stall, Budget}
use Rattle.trace_text.specs.Text.{line_text, then_number}
use Rattle.trace_text.specs.Waiting.{IsDigit}
use Rattle.trace_text.specs.Table.{IsWritten, AreWritten, number_bound}

abbrev pub AreDigits : List ℕ → Type 0
AreDigits [] = Unit {0}
AreDigits (c ∷ cs) = IsDigit c × AreDigits cs

pub digits_then : (xs : List ℕ) (c : ℕ) → AreDigits xs → IsDigit c → AreDigits (xs ++ (c ∷ []))
digits_then [] c all one = (one, tt)
digits_then (x ∷ xs) c all one = (all.0, digits_then xs c all.1 one)

pub decimal_digits : (n : ℕ) → n < 2 ^ 64 → AreDigits (decimal n)
decimal_digits = decimal_by_steps (λ n ds. AreDigits ds) (λ n low. ((omega arith, omega arith), tt))
    (λ n ds high all. digits_then ds (48 + n % 10) all (omega arith, omega arith))

pub tails : {A : Type 0} (x y : A) (xs ys : List A) → x ∷ xs ≡ y ∷ ys → xs ≡ ys
tails x y xs ys h = cc

pub heads : {A : Type 0} (x y : A) (xs ys : List A) → x ∷ xs ≡ y ∷ ys → x ≡ y
heads x y xs ys h = cc

pub consed : {A : Type 0} (x y : A) (xs ys : List A) → x ≡ y → xs ≡ ys → x ∷ xs ≡ y ∷ ys
consed x y xs ys e d = cc

record Parted (xs ys : List ℕ) (c d : ℕ) (r s : List ℕ) : Type 0 where
  same : xs ≡ ys
  next : c ≡ d
  rest : r ≡ s

-- digits up to what is no digit
parted : (xs ys : List ℕ) (c d : ℕ) (r s : List ℕ) → AreDigits xs → AreDigits ys → c < 48 → d < 48
    → xs ++ (c ∷ r) ≡ ys ++ (d ∷ s) → Parted xs ys c d r s
parted [] [] c d r s all those low low' h = record { same = refl; next = heads c d r s h; rest = tails c d r s h }
parted [] (y ∷ ys) c d r s all those low low' h =
    absurd (let e : c ≡ y = heads c y r (ys ++ (d ∷ s)) h in let digit : 48 ≤ y = those.0.0 in omega arith)
parted (x ∷ xs) [] c d r s all those low low' h =
    absurd (let e : x ≡ d = heads x d (xs ++ (c ∷ r)) s h in let digit : 48 ≤ x = all.0.0 in omega arith)
parted (x ∷ xs) (y ∷ ys) c d r s all those low low' h =
    let first : x ≡ y = heads x y (xs ++ (c ∷ r)) (ys ++ (d ∷ s)) h in
    let others : Parted xs ys c d r s = parted xs ys c d r s all.1 those.1 low low' (tails x y _ _ h) in
    record { same = rw (first, others.same); next = others.next; rest = others.rest }

pub record SameNumber (i j c d : ℕ) (r s : List ℕ) : Type 0 where
  pub same : i ≡ j
  pub next : c ≡ d
  pub rest : r ≡ s

-- a number up to what is no digit
pub number_tells : (i j c d : ℕ) (r s : List ℕ) → i < number_bound → j < number_bound → c < 48 → d < 48
    → decimal i ++ (c ∷ r) ≡ decimal j ++ (d ∷ s) → SameNumber i j c d r s
number_tells i j c d r s low low' nc nd h =
    let parts : Parted (decimal i) (decimal j) c d r s =
    parted (decimal i) (decimal j) c d r s (decimal_digits i (omega arith)) (decimal_digits j (omega arith)) nc nd h in
    record { same = decimal_injective i j (omega arith) (omega arith) parts.same; next = parts.next; rest = parts.rest }

-- the text of a line and what follows it
abbrev pub spread : Line → List ℕ → List ℕ
spread (Header n l zero) xs = codes "rvc-trace 1 " ++ (decimal n ++ (32 ∷ (decimal l ++ (10 ∷ xs))))
spread (Header n l (suc g)) xs =
    codes "rvc-trace 2 " ++ (decimal n ++ (32 ∷ (decimal l ++ (32 ∷ (decimal (suc g) ++ (10 ∷ xs))))))
spread (Inst k) xs = 105 ∷ 32 ∷ (decimal k ++ (32 ∷ xs))
spread (Fire i a) xs = 102 ∷ 32 ∷ (decimal i ++ (32 ∷ (decimal a ++ (10 ∷ xs))))
spread Deliver xs = 114 ∷ 10 ∷ xs
spread (Grow l c) xs = 103 ∷ 32 ∷ (decimal l ++ (32 ∷ (decimal c ++ (10 ∷ xs))))
spread Quiet xs = 113 ∷ 10 ∷ xs
spread (Trap i a c) xs = 116 ∷ 32 ∷ (decimal i ++ (32 ∷ (decimal a ++ (32 ∷ (trap_name c ++ (10 ∷ xs))))))
spread (Stall i a l) xs = 115 ∷ 32 ∷ (decimal i ++ (32 ∷ (decimal a ++ (32 ∷ (decimal l ++ (10 ∷ xs))))))
spread Budget xs = 98 ∷ 10 ∷ xs

pub spread_is : (line : Line) (xs : List ℕ) → line_text line ++ xs ≡ spread line xs
spread_is (Header n l zero) xs = simp append_assoc
spread_is (Header n l (suc g)) xs =
    simp append_assoc
    (ap (λ w. codes "rvc-trace 2 " ++ w) (append_assoc (decimal n) (then_number l) (32 ∷ (decimal (suc g) ++ (10 ∷ xs)))))
spread_is (Inst k) xs = simp append_assoc
spread_is (Fire i a) xs = simp append_assoc
spread_is Deliver xs = refl
spread_is (Grow l c) xs = simp append_assoc
spread_is Quiet xs = refl
spread_is (Trap i a c) xs = simp append_assoc
spread_is (Stall i a l) xs =
    simp append_assoc
    (ap (λ w. 115 ∷ 32 ∷ w) (append_assoc (decimal i) (then_number a) (32 ∷ (decimal l ++ (10 ∷ xs)))))
spread_is Budget xs = refl

-- the first byte of a line's text
abbrev pub letter_of : Line → ℕ
letter_of (Header n l g) = 114
letter_of (Inst k) = 105
letter_of (Fire i a) = 102
letter_of Deliver = 114
letter_of (Grow l c) = 103
letter_of Quiet = 113
letter_of (Trap i a c) = 116
letter_of (Stall i a l) = 115
letter_of Budget = 98

abbrev first : List ℕ → ℕ
first [] = 0
first (x ∷ xs) = x

first_is : (line : Line) (xs : List ℕ) → first (spread line xs) ≡ letter_of line
first_is (Header n l zero) xs = refl
first_is (Header n l (suc g)) xs = refl
first_is (Inst k) xs = refl
first_is (Fire i a) xs = refl
first_is Deliver xs = refl
first_is (Grow l c) xs = refl
first_is Quiet xs = refl
first_is (Trap i a c) xs = refl
first_is (Stall i a l) xs = refl
first_is Budget xs = refl

pub record SameLine (this that : Line) (xs ys : List ℕ) : Type 0 where
  pub line : this ≡ that
  pub rest : xs ≡ ys

record SameName (c d : TrapName) (xs ys : List ℕ) : Type 0 where
  name : c ≡ d
  rest : xs ≡ ys

name_tells : (c d : TrapName) (xs ys : List ℕ) → trap_name c ++ (10 ∷ xs) ≡ trap_name d ++ (10 ∷ ys) → SameName c d xs ys
name_tells Overflow Overflow xs ys h = record { name = refl; rest = ap (λ w. drop 9 w) h }
name_tells DivideByZero DivideByZero xs ys h = record { name = refl; rest = ap (λ w. drop 13 w) h }
name_tells IndexRange IndexRange xs ys h = record { name = refl; rest = ap (λ w. drop 11 w) h }
name_tells ShiftRange ShiftRange xs ys h = record { name = refl; rest = ap (λ w. drop 11 w) h }
name_tells TurnLimit TurnLimit xs ys h = record { name = refl; rest = ap (λ w. drop 10 w) h }
name_tells c d xs ys h =
    let e : first (trap_name c ++ (10 ∷ xs)) ≡ first (trap_name d ++ (10 ∷ ys)) = ap first h in absurd (omega arith)

header_tells : (n l m k : ℕ) (xs ys : List ℕ) → IsWritten (Header n l 0) → IsWritten (Header m k 0)
    → spread (Header n l 0) xs ≡ spread (Header m k 0) ys → SameLine (Header n l 0) (Header m k 0) xs ys
header_tells n l m k xs ys w v h =
    let one = number_tells n m 32 32 (decimal l ++ (10 ∷ xs)) (decimal k ++ (10 ∷ ys)) w.0 v.0 (omega arith) (omega arith)
    (ap (λ u. drop 12 u) h) in
    let two = number_tells l k 10 10 xs ys w.1 v.1 (omega arith) (omega arith) one.rest in
    record { line = rw (one.same, two.same); rest = two.rest }

growing_tells : (n l g m k j : ℕ) (xs ys : List ℕ) → IsWritten (Header n l (suc g)) → IsWritten (Header m k (suc j))
    → spread (Header n l (suc g)) xs ≡ spread (Header m k (suc j)) ys → SameLine (Header n l (suc g)) (Header m k (suc j)) xs ys
growing_tells n l g m k j xs ys w v h =
    let one = number_tells n m 32 32 (decimal l ++ (32 ∷ (decimal (suc g) ++ (10 ∷ xs)))) (decimal k ++ (32 ∷ (decimal (suc j) ++ (10 ∷ ys))))
    w.0 v.0 (omega arith) (omega arith) (ap (λ u. drop 12 u) h) in
    let two = number_tells l k 32 32 (decimal (suc g) ++ (10 ∷ xs)) (decimal (suc j) ++ (10 ∷ ys)) w.1 v.1 (omega arith) (omega arith) one.rest in
    let three = number_tells (suc g) (suc j) 10 10 xs ys w.2 v.2 (omega arith) (omega arith) two.rest in
    let same : g ≡ j = omega (arith, three.same) in
    record { line = rw (one.same, two.same, same); rest = three.rest }

grow_tells : (l c m d : ℕ) (xs ys : List ℕ) → IsWritten (Grow l c) → IsWritten (Grow m d)
    → spread (Grow l c) xs ≡ spread (Grow m d) ys → SameLine (Grow l c) (Grow m d) xs ys
grow_tells l c m d xs ys w v h =
    let one = number_tells l m 32 32 (decimal c ++ (10 ∷ xs)) (decimal d ++ (10 ∷ ys)) w.0 v.0 (omega arith) (omega arith)
    (ap (λ u. drop 2 u) h) in
    let two = number_tells c d 10 10 xs ys w.1 v.1 (omega arith) (omega arith) one.rest in
    record { line = rw (one.same, two.same); rest = two.rest }

fire_tells : (i a j b : ℕ) (xs ys : List ℕ) → IsWritten (Fire i a) → IsWritten (Fire j b)
    → spread (Fire i a) xs ≡ spread (Fire j b) ys → SameLine (Fire i a) (Fire j b) xs ys
fire_tells i a j b xs ys w v h =
    let one = number_tells i j 32 32 (decimal a ++ (10 ∷ xs)) (decimal b ++ (10 ∷ ys)) w.0 v.0 (omega arith) (omega arith)
    (ap (λ u. drop 2 u) h) in
    let two = number_tells a b 10 10 xs ys (omega (arith, w.1)) (omega (arith, v.1)) (omega arith) (omega arith) one.rest in
    record { line = rw (one.same, two.same); rest = two.rest }

trap_tells : (i a j b : ℕ) (c d : TrapName) (xs ys : List ℕ) → IsWritten (Trap i a c) → IsWritten (Trap j b d)
    → spread (Trap i a c) xs ≡ spread (Trap j b d) ys → SameLine (Trap i a c) (Trap j b d) xs ys
trap_tells i a j b c d xs ys w v h =
    let one = number_tells i j 32 32 (decimal a ++ (32 ∷ (trap_name c ++ (10 ∷ xs)))) (decimal b ++ (32 ∷ (trap_name d ++ (10 ∷ ys))))
    w.0 v.0 (omega arith) (omega arith) (ap (λ u. drop 2 u) h) in
    let two = number_tells a b 32 32 (trap_name c ++ (10 ∷ xs)) (trap_name d ++ (10 ∷ ys))
    (omega (arith, w.1)) (omega (arith, v.1)) (omega arith) (omega arith) one.rest in
    let three = name_tells c d xs ys two.rest in
    record { line = rw (one.same, two.same, three.name); rest = three.rest }

stall_tells : (i a l j b m : ℕ) (xs ys : List ℕ) → IsWritten (Stall i a l) → IsWritten (Stall j b m)
    → spread (Stall i a l) xs ≡ spread (Stall j b m) ys → SameLine (Stall i a l) (Stall j b m) xs ys
stall_tells i a l j b m xs ys w v h =
    let one = number_tells i j 32 32 (decimal a ++ (32 ∷ (decimal l ++ (10 ∷ xs)))) (decimal b ++ (32 ∷ (decimal m ++ (10 ∷ ys))))
    w.0 v.0 (omega arith) (omega arith) (ap (λ u. drop 2 u) h) in
    let two = number_tells a b 32 32 (decimal l ++ (10 ∷ xs)) (decimal m ++ (10 ∷ ys))
    (omega (arith, w.1)) (omega (arith, v.1)) (omega arith) (omega arith) one.rest in
    let three = number_tells l m 10 10 xs ys w.2 v.2 (omega arith) (omega arith) two.rest in
    record { line = rw (one.same, two.same, three.same); rest = three.rest }

pub line_tells : (this that : Line) (xs ys : List ℕ) → IsWritten this → IsWritten that
    → spread this xs ≡ spread that ys → SameLine this that xs ys
line_tells (Header n l zero) (Header m k zero) xs ys w v h = header_tells n l m k xs ys w v h
line_tells (Header n l (suc g)) (Header m k (suc j)) xs ys w v h = growing_tells n l g m k j xs ys w v h
line_tells (Header n l zero) (Header m k (suc j)) xs ys w v h = let e : ◌≡◌ {A = ℕ} 49 50 = ap (λ u. first (drop 10 u)) h in absurd (omega arith)
line_tells (Header n l (suc g)) (Header m k zero) xs ys w v h = let e : ◌≡◌ {A = ℕ} 50 49 = ap (λ u. first (drop 10 u)) h in absurd (omega arith)
line_tells (Header n l zero) Deliver xs ys w v h = let e : ◌≡◌ {A = ℕ} 118 10 = ap (λ u. first (drop 1 u)) h in absurd (omega arith)
line_tells (Header n l (suc g)) Deliver xs ys w v h = let e : ◌≡◌ {A = ℕ} 118 10 = ap (λ u. first (drop 1 u)) h in absurd (omega arith)
line_tells Deliver (Header m k zero) xs ys w v h = let e : ◌≡◌ {A = ℕ} 10 118 = ap (λ u. first (drop 1 u)) h in absurd (omega arith)
line_tells Deliver (Header m k (suc j)) xs ys w v h = let e : ◌≡◌ {A = ℕ} 10 118 = ap (λ u. first (drop 1 u)) h in absurd (omega arith)
line_tells (Grow l c) (Grow m d) xs ys w v h = grow_tells l c m d xs ys w v h
line_tells (Fire i a) (Fire j b) xs ys w v h = fire_tells i a j b xs ys w v h
line_tells Deliver Deliver xs ys w v h = record { line = refl; rest = ap (λ u. drop 2 u) h }
line_tells Quiet Quiet xs ys w v h = record { line = refl; rest = ap (λ u. drop 2 u) h }
line_tells (Trap i a c) (Trap j b d) xs ys w v h = trap_tells i a j b c d xs ys w v h
line_tells (Stall i a l) (Stall j b m) xs ys w v h = stall_tells i a l j b m xs ys w v h
line_tells Budget Budget xs ys w v h = record { line = refl; rest = ap (λ u. drop 2 u) h }
line_tells (Inst k) that xs ys w v h = absurd w
line_tells this (Inst k) xs ys w v h = absurd v
line_tells this that xs ys w v h =
    let e : letter_of this ≡ letter_of that = sym (first_is this xs) ∙ (ap first h ∙ first_is that ys) in absurd (omega arith)

pub starts : (line : Line) (xs : List ℕ) → [] ≡ spread line xs → ⊥
starts (Header n l zero) xs h = let e : ◌≡◌ {A = ℕ} 0 114 = ap first h in omega arith
starts (Header n l (suc g)) xs h = let e : ◌≡◌ {A = ℕ} 0 114 = ap first h in omega arith
starts (Grow l c) xs h = let e : ◌≡◌ {A = ℕ} 0 103 = ap first h in omega arith
starts (Inst k) xs h = let e : ◌≡◌ {A = ℕ} 0 105 = ap first h in omega arith
starts (Fire i a) xs h = let e : ◌≡◌ {A = ℕ} 0 102 = ap first h in omega arith
starts Deliver xs h = let e : ◌≡◌ {A = ℕ} 0 114 = ap first h in omega arith
starts Quiet xs h = let e : ◌≡◌ {A = ℕ} 0 113 = ap first h in omega arith
starts (Trap i a c) xs h = let e : ◌≡◌ {A = ℕ} 0 116 = ap first h in omega arith
starts (Stall i a l) xs h = let e : ◌≡◌ {A = ℕ} 0 115 = ap first h in omega arith
starts Budget xs h = let e : ◌≡◌ {A = ℕ} 0 98 = ap first h in omega arith

begins : (line : Line) (xs : List ℕ) → [] ≡ line_text line ++ xs → ⊥
begins line xs h = starts line xs (h ∙ spread_is line xs)

pub lines_tell : (these those : List Line) → AreWritten these → AreWritten those
    → flat_map line_text these ≡ flat_map line_text those → these ≡ those
lines_tell [] [] w v h = refl
lines_tell [] (line ∷ lines) w v h = absurd (begins line _ h)
lines_tell (line ∷ lines) [] w v h = absurd (begins line _ (sym h))
lines_tell (line ∷ lines) (that ∷ those) w v h =
    let both = line_tells line that (flat_map line_text lines) (flat_map line_text those) w.0 v.0
    ((sym (spread_is line _) ∙ h) ∙ spread_is that _) in
    let others : lines ≡ those = lines_tell lines those w.1 v.1 both.rest in
    rw (both.line, others)
