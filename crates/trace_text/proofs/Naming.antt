-- The names of a path or a class, a byte at a time.
use Rattle.std.proofs.Common.{◌≡◌, ℕ, Bool, true, false, List, [], ◌∷◌, ◌++◌, refl, sym, ap, ◌∙◌, subst, append_assoc, rules}
use Rattle.std.specs.Prelude.{◌==◌, MatchBool}
use Rattle.trace_text.specs.Names.{is_letter, is_name_byte, AreNameBytes, IsName, AreNames, each_behind, IsJoined}
use Rattle.trace_text.specs.Waiting.{Named}

-- the rest of a name, other names, and what follows them
pub record Cut (separator : ℕ) (after : List ℕ → Type 0) (bytes : List ℕ) : Type 0 where
  pub rest : List ℕ
  pub others : List (List ℕ)
  pub tail : List ℕ
  pub are_bytes : AreNameBytes rest
  pub are_names : AreNames others
  pub text : bytes ≡ rest ++ (each_behind separator others ++ tail)
  pub follows : after tail

-- what follows names begins with no byte of them
abbrev pub IsApart : ℕ → (List ℕ → Type 0) → Type 0
IsApart separator after = (b : ℕ) (bytes : List ℕ) → after (b ∷ bytes) → (is_name_byte b ≡ false) × ((b == separator) ≡ false)

within : (separator : ℕ) (after : List ℕ → Type 0) (b : ℕ) (bytes : List ℕ)
    → Cut separator after bytes → is_name_byte b ≡ true → Cut separator after (b ∷ bytes)
within separator after b bytes cut e = record {
  rest = b ∷ cut.rest;
  others = cut.others;
  tail = cut.tail;
  are_bytes = (e, cut.are_bytes);
  are_names = cut.are_names;
  text = ap (λ u. b ∷ u) cut.text;
  follows = cut.follows;
}

next_name : (separator : ℕ) (after : List ℕ → Type 0) (c : ℕ) (bytes : List ℕ)
    → Cut separator after bytes → is_letter c ≡ true → Cut separator after (separator ∷ c ∷ bytes)
next_name separator after c bytes cut e = record {
  rest = [];
  others = (c ∷ cut.rest) ∷ cut.others;
  tail = cut.tail;
  are_bytes = tt;
  are_names = ((e, cut.are_bytes), cut.are_names);
  text = ap (λ u. separator ∷ c ∷ u) (cut.text ∙ sym (append_assoc cut.rest (each_behind separator cut.others) cut.tail));
  follows = cut.follows;
}

done : (separator : ℕ) (after : List ℕ → Type 0) (bytes : List ℕ) → after bytes → Cut separator after bytes
done separator after bytes there =
    record { rest = []; others = []; tail = bytes; are_bytes = tt; are_names = tt; text = refl; follows = there }

-- a choice of facts, when it is known
abbrev ByTest : Bool → Bool → Type 0 → Type 0 → Type 0 → Type 0
ByTest p q A B C = MatchBool p A (MatchBool q B C)

cut_by : (separator : ℕ) (after : List ℕ → Type 0) (b : ℕ) (bytes : List ℕ) (p q : Bool)
    → is_name_byte b ≡ p → (b == separator) ≡ q
    → (Named true separator after bytes → Cut separator after bytes)
    → (Named false separator after bytes → Cut separator after (separator ∷ bytes))
    → ByTest p q (Named true separator after bytes) (Named false separator after bytes) (after (b ∷ bytes))
    → Cut separator after (b ∷ bytes)
cut_by separator after b bytes true q e d inside start w = within separator after b bytes (inside w) e
cut_by separator after b bytes false true e d inside start w =
    subst (λ (c : ℕ). Cut separator after (c ∷ bytes)) (sym (same b separator d)) (start w) where
      same : (m n : ℕ) → (m == n) ≡ true → m ≡ n
      same m n h = search rules
cut_by separator after b bytes false false e d inside start w = done separator after (b ∷ bytes) w

-- what waits within a name is the rest of it, other names, and what follows them ..
pub named_cut : (separator : ℕ) (after : List ℕ → Type 0) (bytes : List ℕ) → Named true separator after bytes → Cut separator after bytes
named_cut separator after [] w = absurd w
named_cut separator after (b ∷ []) w =
    cut_by separator after b [] (is_name_byte b) (b == separator) refl refl (λ v. absurd v) (λ v. absurd v) w
named_cut separator after (b ∷ c ∷ bytes) w =
    cut_by separator after b (c ∷ bytes) (is_name_byte b) (b == separator) refl refl
    (λ v. named_cut separator after (c ∷ bytes) v)
    (λ v. next_name separator after c bytes (named_cut separator after bytes v.1) v.0) w

-- .. and the other way round
behind_name : (separator : ℕ) (after : List ℕ → Type 0) (rest bytes : List ℕ) → AreNameBytes rest
    → Named true separator after bytes → Named true separator after (rest ++ bytes)
behind_name separator after [] bytes all w = w
behind_name separator after (b ∷ rest) bytes all w = rw all.0 (behind_name separator after rest bytes all.1 w)

-- a separator is no part of a name
abbrev pub IsNoPart : ℕ → Type 0
IsNoPart separator = (is_name_byte separator ≡ false) × ((separator == separator) ≡ true)

behind_names : (separator : ℕ) (after : List ℕ → Type 0) → IsNoPart separator → (names : List (List ℕ)) (tail : List ℕ)
    → AreNames names → Named true separator after tail → Named true separator after (each_behind separator names ++ tail)
behind_names separator after apart [] tail all w = w
behind_names separator after apart ([] ∷ names) tail all w = absurd all.0
behind_names separator after apart ((b ∷ name) ∷ names) tail all w =
    let others : Named true separator after (each_behind separator names ++ tail) =
    behind_names separator after apart names tail all.1 w in
    let here : Named true separator after ((name ++ each_behind separator names) ++ tail) =
    subst (λ (u : List ℕ). Named true separator after u) (sym (append_assoc name (each_behind separator names) tail))
    (behind_name separator after name (each_behind separator names ++ tail) all.0.1 others) in
    rw (apart.0, apart.1) (all.0.0, here)

-- names joined by the separator, and what follows them
pub record Parted (separator : ℕ) (after : List ℕ → Type 0) (bytes : List ℕ) : Type 0 where
  pub names : List ℕ
  pub tail : List ℕ
  pub are_joined : IsJoined separator names
  pub text : bytes ≡ names ++ tail
  pub follows : after tail

pub named_parted : (separator : ℕ) (after : List ℕ → Type 0) (bytes : List ℕ) → Named false separator after bytes → Parted separator after bytes
named_parted separator after [] w = absurd w
named_parted separator after (b ∷ bytes) w =
    let cut = named_cut separator after bytes w.1 in
    record {
      names = (b ∷ cut.rest) ++ each_behind separator cut.others;
      tail = cut.tail;
      are_joined = (b ∷ cut.rest, cut.others, (w.0, cut.are_bytes), cut.are_names, refl);
      text = ap (λ u. b ∷ u) (cut.text ∙ sym (append_assoc cut.rest (each_behind separator cut.others) cut.tail));
      follows = cut.follows;
    }

joined_first : (separator : ℕ) (after : List ℕ → Type 0) → IsNoPart separator → (first : List ℕ) (others : List (List ℕ)) (tail : List ℕ)
    → IsName first → AreNames others → Named true separator after tail
    → Named false separator after (first ++ (each_behind separator others ++ tail))
joined_first separator after apart [] others tail name names w = absurd name
joined_first separator after apart (b ∷ first) others tail name names w = (
  name.0,
  behind_name separator after first (each_behind separator others ++ tail) name.1
      (behind_names separator after apart others tail names w),
)

pub joined_named : (separator : ℕ) (after : List ℕ → Type 0) → IsNoPart separator → (names tail : List ℕ)
    → IsJoined separator names → Named true separator after tail → Named false separator after (names ++ tail)
joined_named separator after apart names tail joined w =
    subst (λ (u : List ℕ). Named false separator after u)
    (sym (append_assoc joined.0 (each_behind separator joined.1) tail) ∙ ap (λ (u : List ℕ). u ++ tail) (sym joined.4))
    (joined_first separator after apart joined.0 joined.1 tail joined.2 joined.3 w)
