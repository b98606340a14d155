-- A line's text ends at its first line feed, and is no other line's.
use Rattle.std.proofs.Common.{◌≡◌, ◌≢◌, ℕ, zero, suc, ◌<◌, ◌≤◌, Bool, true, false, List, [], ◌∷◌, ◌++◌, refl, sym, ap, ◌∙◌, subst, arith, append_assoc}
use Rattle.std.specs.Prelude.{decimal, codes, drop, ◌==◌, if◌then◌else◌}
use Rattle.std.proofs.lemmas.List.{append-nil}
use Rattle.rvc_base.specs.declared.trap.Trap.{Trap as TrapName}
use Rattle.rvc_base.specs.declared.trap.Trap.TheVariants.{Overflow, DivideByZero, IndexRange, ShiftRange, TurnLimit}
use Rattle.rvc_base.specs.Trap.{trap_name}
use Rattle.trace_text.specs.declared.line.Line.{Line}
use Rattle.trace_text.specs.declared.line.Line.TheVariants.{Header, Inst, Fire, Deliver, Grow, Quiet, Trap, Stall, Budget}
use Rattle.trace_text.specs.Text.{line_text}
use Rattle.trace_text.specs.Table.{number_bound}
use Rattle.trace_text.specs.Names.{is_name_byte, is_letter, AreNameBytes, IsName, AreNames, each_behind, IsJoined}
use Rattle.trace_text.specs.Spelling.{Spells, IsFront}
use Rattle.trace_text.specs.ReadBack.{HasNoLineFeed}
use Rattle.trace_text.proofs.Decoding.{consed, AreDigits, decimal_digits, heads, tails, spread, line_tells, number_tells}
use Rattle.trace_text.proofs.Decoding.{letter_of}
use Rattle.trace_text.proofs.Starting.{text_spread, inst_spread, first_letter}
use Rattle.trace_text.proofs.Reading.{has_line}

-- bytes without a line feed
pub none_append : (xs ys : List ℕ) → HasNoLineFeed xs → HasNoLineFeed ys → HasNoLineFeed (xs ++ ys)
none_append [] ys w v = v
none_append (x ∷ xs) ys w v = (w.0, none_append xs ys w.1 v)

digits_none : (xs : List ℕ) → AreDigits xs → HasNoLineFeed xs
digits_none [] all = tt
digits_none (x ∷ xs) all = ((λ e. let low : 48 ≤ x = all.0.0 in omega arith), digits_none xs all.1)

number_none : (n : ℕ) → n < number_bound → HasNoLineFeed (decimal n)
number_none n low = digits_none (decimal n) (decimal_digits n (omega arith))

abbrev is_free : List ℕ → Bool
is_free [] = true
is_free (x ∷ xs) = if x == 10 then false else is_free xs

untrue : false ≡ true → ⊥
untrue e = absurd (cc)

others_free : (b rest : Bool) → (if b then false else rest) ≡ true → rest ≡ true
others_free true rest e = absurd (untrue e)
others_free false rest e = e

free_none : (xs : List ℕ) → is_free xs ≡ true → HasNoLineFeed xs
free_none [] e = tt
free_none (x ∷ xs) e = (
  λ h. untrue (subst (λ (c : ℕ). (if c == 10 then false else is_free xs) ≡ true) h e),
  free_none xs (others_free (x == 10) (is_free xs) e),
)

trap_none : (trap : TrapName) → HasNoLineFeed (trap_name trap)
trap_none Overflow = free_none (trap_name Overflow) refl
trap_none DivideByZero = free_none (trap_name DivideByZero) refl
trap_none IndexRange = free_none (trap_name IndexRange) refl
trap_none ShiftRange = free_none (trap_name ShiftRange) refl
trap_none TurnLimit = free_none (trap_name TurnLimit) refl

name_byte_is_none : (b : ℕ) → is_name_byte b ≡ true → b ≢ 10
name_byte_is_none b w = λ e. untrue (subst (λ (c : ℕ). is_name_byte c ≡ true) e w)

letter_is_none : (b : ℕ) → is_letter b ≡ true → b ≢ 10
letter_is_none b w = λ e. untrue (subst (λ (c : ℕ). is_letter c ≡ true) e w)

name_bytes_none : (xs : List ℕ) → AreNameBytes xs → HasNoLineFeed xs
name_bytes_none [] all = tt
name_bytes_none (x ∷ xs) all = (name_byte_is_none x all.0, name_bytes_none xs all.1)

name_none : (xs : List ℕ) → IsName xs → HasNoLineFeed xs
name_none [] name = absurd name
name_none (x ∷ xs) name = (letter_is_none x name.0, name_bytes_none xs name.1)

names_none : (separator : ℕ) (names : List (List ℕ)) → separator ≢ 10 → AreNames names → HasNoLineFeed (each_behind separator names)
names_none separator [] plain all = tt
names_none separator (name ∷ names) plain all =
    (plain, none_append name (each_behind separator names) (name_none name all.0) (names_none separator names plain all.1))

joined_none : (separator : ℕ) (text : List ℕ) → separator ≢ 10 → IsJoined separator text → HasNoLineFeed text
joined_none separator text plain joined =
    subst HasNoLineFeed (sym joined.4)
    (none_append joined.0 (each_behind separator joined.1) (name_none joined.0 joined.2) (names_none separator joined.1 plain joined.3))

-- a text that ends at its first line feed
pub record EndsAlone (text : List ℕ) : Type 0 where
  pub before : List ℕ
  pub none : HasNoLineFeed before
  pub ends : text ≡ before ++ (10 ∷ [])

bare : EndsAlone (10 ∷ [])
bare = record { before = []; none = tt; ends = refl }

behind : (xs ys : List ℕ) → HasNoLineFeed xs → EndsAlone ys → EndsAlone (xs ++ ys)
behind xs ys none end = record {
  before = xs ++ end.before;
  none = none_append xs end.before none end.none;
  ends = ap (λ (u : List ℕ). xs ++ u) end.ends ∙ sym (append_assoc xs end.before (10 ∷ []));
}

blank : (ys : List ℕ) → EndsAlone ys → EndsAlone (32 ∷ ys)
blank ys end = behind (32 ∷ []) ys (free_none (32 ∷ []) refl) end

number : (n : ℕ) (ys : List ℕ) → n < number_bound → EndsAlone ys → EndsAlone (decimal n ++ ys)
number n ys low end = behind (decimal n) ys (number_none n low) end

at : (text that : List ℕ) → text ≡ that → EndsAlone that → EndsAlone text
at text that e end = subst EndsAlone (sym e) end

pub line_ends : (line : Line) (text : List ℕ) → Spells line text → EndsAlone text
line_ends (Header n l zero) text w = at text (spread (Header n l zero) []) (w.1 ∙ text_spread (Header n l zero))
    (behind (codes "rvc-trace 1 ") _ (free_none (codes "rvc-trace 1 ") refl)
    (number n _ w.0.0 (blank _ (number l (10 ∷ []) w.0.1 bare))))
line_ends (Header n l (suc g)) text w = at text (spread (Header n l (suc g)) []) (w.1 ∙ text_spread (Header n l (suc g)))
    (behind (codes "rvc-trace 2 ") _ (free_none (codes "rvc-trace 2 ") refl)
    (number n _ w.0.0 (blank _ (number l _ w.0.1 (blank _ (number (suc g) (10 ∷ []) w.0.2 bare))))))
line_ends (Grow l c) text w = at text (spread (Grow l c) []) (w.1 ∙ text_spread (Grow l c))
    (behind (103 ∷ 32 ∷ []) _ (free_none (103 ∷ 32 ∷ []) refl)
    (number l _ w.0.0 (blank _ (number c (10 ∷ []) w.0.1 bare))))
line_ends (Inst k) text w =
    let path = w.1.0 in
    let class = w.1.1 in
    at text (spread (Inst k) (path ++ (32 ∷ (class ++ (10 ∷ []))))) (w.1.4 ∙ inst_spread k path class)
    (behind (105 ∷ 32 ∷ []) _ (free_none (105 ∷ 32 ∷ []) refl) (number k _ w.0
    (blank _ (behind path _ (joined_none 47 path (λ e. omega arith) w.1.2)
    (blank _ (behind class _ (joined_none 46 class (λ e. omega arith) w.1.3) bare))))))
line_ends (Fire i a) text w = at text (spread (Fire i a) []) (w.1 ∙ text_spread (Fire i a))
    (behind (102 ∷ 32 ∷ []) _ (free_none (102 ∷ 32 ∷ []) refl)
    (number i _ w.0.0 (blank _ (number a (10 ∷ []) (omega (arith, w.0.1)) bare))))
line_ends Deliver text w = at text (114 ∷ 10 ∷ []) w.1 (behind (114 ∷ []) (10 ∷ []) (free_none (114 ∷ []) refl) bare)
line_ends Quiet text w = at text (113 ∷ 10 ∷ []) w.1 (behind (113 ∷ []) (10 ∷ []) (free_none (113 ∷ []) refl) bare)
line_ends (Trap i a c) text w = at text (spread (Trap i a c) []) (w.1 ∙ text_spread (Trap i a c))
    (behind (116 ∷ 32 ∷ []) _ (free_none (116 ∷ 32 ∷ []) refl)
    (number i _ w.0.0 (blank _ (number a _ (omega (arith, w.0.1)) (blank _ (behind (trap_name c) (10 ∷ []) (trap_none c) bare))))))
line_ends (Stall i a l) text w = at text (spread (Stall i a l) []) (w.1 ∙ text_spread (Stall i a l))
    (behind (115 ∷ 32 ∷ []) _ (free_none (115 ∷ 32 ∷ []) refl)
    (number i _ w.0.0 (blank _ (number a _ (omega (arith, w.0.1)) (blank _ (number l (10 ∷ []) w.0.2 bare))))))
line_ends Budget text w = at text (98 ∷ 10 ∷ []) w.1 (behind (98 ∷ []) (10 ∷ []) (free_none (98 ∷ []) refl) bare)

-- two lines with one text begin with one letter
same_letter : (this that : Line) (text : List ℕ) → Spells this text → Spells that text → letter_of this ≡ letter_of that
same_letter this that [] w v = absurd (has_line this w)
same_letter this that (byte ∷ bytes) w v = sym (first_letter this byte bytes w) ∙ first_letter that byte bytes v

inst_tells : (k m : ℕ) (text : List ℕ) → Spells (Inst k) text → Spells (Inst m) text → k ≡ m
inst_tells k m text w v =
    let e = (sym (inst_spread k w.1.0 w.1.1) ∙ sym w.1.4) ∙ (v.1.4 ∙ inst_spread m v.1.0 v.1.1) in
    (number_tells k m 32 32 _ _ w.0 v.0 (omega arith) (omega arith) (ap (λ (u : List ℕ). drop 2 u) e)).same

whole_tells : (this that : Line) (text : List ℕ) → text ≡ line_text this → text ≡ line_text that → spread this [] ≡ spread that []
whole_tells this that text e d = (sym (text_spread this) ∙ sym e) ∙ (d ∙ text_spread that)

pub one_line : (this that : Line) (text : List ℕ) → Spells this text → Spells that text → this ≡ that
one_line (Inst k) (Inst m) text w v = ap Inst (inst_tells k m text w v)
one_line (Inst k) that text w v = absurd (let e : letter_of (Inst k) ≡ letter_of that = same_letter (Inst k) that text w v in omega arith)
one_line this (Inst m) text w v = absurd (let e : letter_of this ≡ letter_of (Inst m) = same_letter this (Inst m) text w v in omega arith)
one_line this that text w v = (line_tells this that [] [] w.0 v.0 (whole_tells this that text w.1 v.1)).line

-- bytes up to the first line feed
pub record SameUpTo (xs ys r s : List ℕ) : Type 0 where
  pub same : xs ≡ ys
  pub rest : r ≡ s

pub same_up_to : (xs ys r s : List ℕ) → HasNoLineFeed xs → HasNoLineFeed ys → xs ++ (10 ∷ r) ≡ ys ++ (10 ∷ s) → SameUpTo xs ys r s
same_up_to [] [] r s w v h = record { same = refl; rest = tails 10 10 r s h }
same_up_to [] (y ∷ ys) r s w v h = absurd (v.0 (sym (heads 10 y r (ys ++ (10 ∷ s)) h)))
same_up_to (x ∷ xs) [] r s w v h = absurd (w.0 (heads x 10 (xs ++ (10 ∷ r)) s h))
same_up_to (x ∷ xs) (y ∷ ys) r s w v h =
    let first : x ≡ y = heads x y (xs ++ (10 ∷ r)) (ys ++ (10 ∷ s)) h in
    let others = same_up_to xs ys r s w.1 v.1 (tails x y _ _ h) in
    record { same = consed x y xs ys first others.same; rest = others.rest }

pub no_empty : (x : ℕ) (xs : List ℕ) → x ∷ xs ≡ [] → ⊥
no_empty x xs e = absurd (cc)

-- nothing follows a line's text in another's
pub nothing_behind : (line that : Line) (front rest : List ℕ) → Spells that front → Spells line (front ++ rest) → rest ≡ []
nothing_behind line that front rest w v =
    let here = line_ends that front w in
    let there = line_ends line (front ++ rest) v in
    let e : here.before ++ (10 ∷ rest) ≡ there.before ++ (10 ∷ []) =
    sym (append_assoc here.before (10 ∷ []) rest) ∙ (ap (λ (u : List ℕ). u ++ rest) (sym here.ends) ∙ there.ends) in
    (same_up_to here.before there.before rest [] here.none there.none e).rest

pub front_is_no_line : (line : Line) (front rest : List ℕ) → Spells line (front ++ rest) → rest ≢ [] → IsFront front
front_is_no_line line front rest w more = ((line, rest, w), λ that v. more (nothing_behind line that front rest v w))

-- bytes before the last one of a text that ends at its first line feed
begins_none : (xs more before : List ℕ) → xs ++ more ≡ before ++ (10 ∷ []) → HasNoLineFeed before → more ≢ [] → HasNoLineFeed xs
begins_none [] more before h none some = tt
begins_none (x ∷ xs) more (y ∷ before) h none some = (
  λ e. none.0 (sym (heads x y (xs ++ more) (before ++ (10 ∷ [])) h) ∙ e),
  begins_none xs more before (tails x y _ _ h) none.1 some,
)
begins_none (x ∷ []) more [] h none some = absurd (some (tails x 10 more [] h))
begins_none (x ∷ y ∷ xs) more [] h none some = absurd (no_empty y (xs ++ more) (tails x 10 (y ∷ (xs ++ more)) [] h))

pub front_none : (front : List ℕ) → IsFront front → HasNoLineFeed front
front_none front w =
    let end = line_ends w.0.0 (front ++ w.0.1) w.0.2 in
    begins_none front w.0.1 end.before end.ends end.none
    (λ e. w.1 w.0.0 (subst (λ (u : List ℕ). Spells w.0.0 u) (append-nil front) (subst (λ (more : List ℕ). Spells w.0.0 (front ++ more)) e w.0.2)))
