-- Cells that stay, and environments that are still held.
use Rattle.std.proofs.Common.{◌≡◌, ℕ, suc, ◌+◌, ◌*◌, ◌<◌, ◌≤◌, inl, inr, ⊎_elim, ℤ, List, length, refl, sym, ap, ◌∙◌, subst, arith, length-append}
use Rattle.std.proofs.lemmas.Option.{slice_get_within}
use Rattle.rvc_base.specs.declared.scalar.Scalar.TheVariants as scalar
use Rattle.cal_model.specs.Value.{Kind, NumKind, BoolKind, ListKind, Shape, Single, Many, Value, Num, Truth, Items, Values, Nil, Cons, count, HasKind, HaveKind, kind_of_type, scalars_of_kind, scalars_of_type}
use Rattle.cal_model.specs.Env.{Env}
use Rattle.lower_base.specs.declared.names.Seat.{Seat}
use Rattle.lower_base.specs.declared.names.Seat.TheVariants.{Cell, Tokens}
use Rattle.lower_base.specs.Names.{Name}
use Rattle.lower_base.specs.Flat.{flat, flat_all}
use Rattle.lower_base.specs.Held.{StandAt, HoldsName, Holds, SeatIsBelow, AreBelow, SeatIsApart, AllApart, AreApart, Keeps}

pub keeps_all : (n m low high : ℕ) (cells : List ℤ) → Keeps n m low high cells cells
keeps_all n m low high cells = record { size = refl; cell = λ c free apart. refl }

-- the cells from n to m lie among those from k to h
pub keeps_wider : {n m low high : ℕ} {before after : List ℤ} (k h : ℕ) → k ≤ n → m ≤ h → Keeps n m low high before after → Keeps k h low high before after
keeps_wider {n = n} {m = m} k h le ge keeps = record {
  size = keeps.size;
  cell = λ c free apart. keeps.cell c (⊎_elim (λ (a : c < k). inl (omega arith)) (λ (a : h ≤ c). inr (omega arith)) free) apart;
}

pub keeps_join : {n m low high : ℕ} {a b c : List ℤ} → Keeps n m low high a b → Keeps n m low high b c → Keeps n m low high a c
keeps_join first second = record {
  size = second.size ∙ first.size;
  cell = λ c free apart. second.cell c free apart ∙ first.cell c free apart;
}

-- ---- how many numbers a value is

mutual
  pub flat_length : (k : Kind) (v : Value) → HasKind k v → length (flat v) ≡ scalars_of_kind k
  flat_length NumKind (Num z) h = refl
  flat_length NumKind (Truth b) h = absurd h
  flat_length NumKind (Items vs) h = absurd h
  flat_length BoolKind (Num z) h = absurd h
  flat_length BoolKind (Truth b) h = refl
  flat_length BoolKind (Items vs) h = absurd h
  flat_length (ListKind n items) (Num z) h = absurd h
  flat_length (ListKind n items) (Truth b) h = absurd h
  flat_length (ListKind n items) (Items vs) h = flat_all_length items vs h.1 ∙ ap (λ m. m * scalars_of_kind items) h.0

  pub flat_all_length : (k : Kind) (vs : Values) → HaveKind k vs → length (flat_all vs) ≡ count vs * scalars_of_kind k
  flat_all_length k Nil h = let e : 0 ≡ 0 * scalars_of_kind k = omega arith in e
  flat_all_length k (Cons v vs) h =
      let first = flat_length k v h.0 in
      let rest = flat_all_length k vs h.1 in
      let e : suc (count vs) * scalars_of_kind k ≡ scalars_of_kind k + count vs * scalars_of_kind k = omega arith in
      omega (arith, length-append (flat v) (flat_all vs), first, rest, e)

pub scalars_same : (t : Shape) → scalars_of_kind (kind_of_type t) ≡ scalars_of_type t
scalars_same (Single scalar.Bool) = refl
scalars_same (Single (scalar.Int n)) = refl
scalars_same (Single (scalar.Uint n)) = refl
scalars_same (Many n items) = ap (λ m. n * m) (scalars_same items)

-- ---- what is held

pub seat_stands : (seat : Seat) (n m low high : ℕ) (tokens : ℕ → List ℤ) (before after zs : List ℤ) → Keeps n m low high before after → SeatIsBelow n (length zs) seat → SeatIsApart low high (length zs) seat → StandAt seat tokens before zs → StandAt seat tokens after zs
seat_stands (Cell c) n m low high tokens before after zs keeps below apart stands k z e =
    let within = slice_get_within zs k z e in
    keeps.cell (c + k) (inl (omega (arith, within, below))) (⊎_elim (λ (a : c + length zs ≤ low). inl (omega (arith, within))) (λ (a : high ≤ c). inr (omega arith)) apart) ∙ stands k z e
seat_stands (Tokens port first step) n m low high tokens before after zs keeps below apart stands k z e = stands k z e

pub holds_still : {n m low high : ℕ} {before after : List ℤ} (names : List Name) (tokens : ℕ → List ℤ) (env : Env) → Keeps n m low high before after → AreBelow n names → AllApart low high names → Holds names tokens before env → Holds names tokens after env
holds_still {n = n} {m = m} {low = low} {high = high} {before = before} {after = after} names tokens env keeps below apart holds text x e =
    let h : HoldsName tokens before env text x = holds text x e in
    let size : scalars_of_type x.shape ≡ length (flat h.value) = sym (flat_length (kind_of_type x.shape) h.value h.of_type ∙ scalars_same x.shape) in
    record {
      value = h.value;
      meant = h.meant;
      of_type = h.of_type;
      stands = seat_stands x.seat n m low high tokens before after (flat h.value) keeps
          (subst (λ k. SeatIsBelow n k x.seat) size (below text x e)) (subst (λ k. SeatIsApart low high k x.seat) size (apart text x e)) h.stands;
    }

pub below_more : (n m : ℕ) (names : List Name) → n ≤ m → AreBelow n names → AreBelow m names
below_more n m names le below text x e = seat_more x.seat (below text x e)
  where
    seat_more : (seat : Seat) → SeatIsBelow n (scalars_of_type x.shape) seat → SeatIsBelow m (scalars_of_type x.shape) seat
    seat_more (Cell c) h = omega (arith, h)
    seat_more (Tokens port first step) h = tt

-- ---- ranges of cells that are apart

pub apart_first : (n k m low high : ℕ) → k ≤ m → AreApart n m low high → AreApart n k low high
apart_first n k m low high le apart = ⊎_elim (λ (a : m ≤ low). inl (omega (arith, a, le))) (λ (a : high ≤ n). inr a) apart

pub apart_last : (n k m low high : ℕ) → n ≤ k → AreApart n m low high → AreApart k m low high
apart_last n k m low high le apart = ⊎_elim (λ (a : m ≤ low). inl a) (λ (a : high ≤ n). inr (omega (arith, a, le))) apart
