-- Numbers of an actor, as its code counts them.
use Rattle.std.proofs.Common.{◌≡◌, ℕ, zero, suc, ◌+◌, ◌<◌, ◌≤◌, inl, inr, Bool, true, false, List, [], ◌∷◌, ◌++◌, map, length, All, refl, sym, ap, subst, ◌∙◌, arith, None, Some}
use Rattle.std.specs.Prelude.{max, slice_get, string_bytes, if◌then◌else◌}
use Rattle.std.specs.List.{range_with_len}
use Rattle.std.proofs.lemmas.List.{append_assoc, length-map}
use Rattle.std.proofs.lemmas.List.FromFn.{map-range_with_len_more}
use Rattle.rvc_base.specs.declared.scalar.Scalar.{Scalar}
use Rattle.rvc_base.specs.Storing.{IsSize}
use Rattle.cal_model.specs.declared.bound.Bound.{Bound}
use Rattle.cal_model.specs.Actor.{Actor, Held}
use Rattle.cal_model.specs.Eligible.{IsStateOf, fresh, has_initialize, start_state}
use Rattle.cal_model.specs.Sound.{Each, scalars_of_vars}
use Rattle.cal_model.specs.Value.{IsOf, IsType, Shape, Single, Many, scalars_of_type}
use Rattle.cal_model.specs.View.{actor_of}
use Rattle.lowered_actor.specs.declared.parts.StateCell.{StateCell}
use Rattle.lowered_actor.specs.Facts.{AreApart}
use Rattle.lower_tables.specs.Tables.{cells_of_var, saved_from, scalar_of, typed_cell}

pub first-states : (b : Bound) (n : ℕ) → n ≡ length b.states.items → max 1 n ≡ fresh (actor_of b)
first-states b n e = ap (max 1) (e ∙ sym (length-map b.states.items string_bytes))

pub start-is : (actor : Actor) → IsStateOf actor (start_state actor)
start-is actor = by (has_initialize actor.actions) refl
  where
    by : (b : Bool) → has_initialize actor.actions ≡ b → IsStateOf actor (if b then fresh actor else 0)
    by true e = inr (e, refl)
    by false e = inl (omega arith)

-- ---- saved cells are state cells

pub cells-more : (t : Scalar) (c k : ℕ) (old now : List StateCell) → now ≡ old ++ map (typed_cell t) (range_with_len c k) → now ++ typed_cell t (c + k) ∷ [] ≡ old ++ map (typed_cell t) (range_with_len c (k + 1))
cells-more t c k old now e =
    ap (λ xs. xs ++ typed_cell t (c + k) ∷ []) e
    ∙ append_assoc old (map (typed_cell t) (range_with_len c k)) (typed_cell t (c + k) ∷ [])
    ∙ sym (ap (λ xs. old ++ xs) (map-range_with_len_more (typed_cell t) c k (c + k) refl))

all_none : {A : Type 0} (P : A → Type 0) → All P []
all_none P k d h = absurd (omega arith)

all_more : {A : Type 0} (P : A → Type 0) (x : A) (xs : List A) → P x → All P xs → All P (x ∷ xs)
all_more P x xs p h zero d i = p
all_more P x xs p h (suc k) d i = h k d (omega arith)

all_append : {A : Type 0} (P : A → Type 0) (xs ys : List A) → All P xs → All P ys → All P (xs ++ ys)
all_append P [] ys h i = i
all_append P (x ∷ xs) ys h i =
    let first : P x = h 0 x (omega arith) in
    all_more P x (xs ++ ys) first (all_append P xs ys (λ k d low. h (suc k) d (omega arith)) i)

cells_below : (t : Scalar) (c n m : ℕ) → c + n ≤ m → All (λ saved. saved.cell < m) (map (typed_cell t) (range_with_len c n))
cells_below t c zero m h = all_none (λ saved. saved.cell < m)
cells_below t c (suc n) m h = all_more (λ saved. saved.cell < m) (typed_cell t c) (map (typed_cell t) (range_with_len (c + 1) n)) (omega arith) (cells_below t (c + 1) n m (omega arith))

var_below : (b : Bool) (x : Held) (c m : ℕ) → c + scalars_of_type x.shape ≤ m → All (λ saved. saved.cell < m) (if b then cells_of_var c x else [])
var_below true x c m h = cells_below (scalar_of x.shape) c (scalars_of_type x.shape) m h
var_below false x c m h = all_none (λ saved. saved.cell < m)

pub saved-below : (xs : List Held) (c m : ℕ) → c + scalars_of_vars xs ≤ m → All (λ saved. saved.cell < m) (saved_from c xs)
saved-below [] c m h = all_none (λ saved. saved.cell < m)
saved-below (x ∷ xs) c m h =
    all_append (λ saved. saved.cell < m) (if x.changes then cells_of_var c x else []) (saved_from (c + scalars_of_type x.shape) xs)
    (var_below x.changes x c m (omega arith)) (saved-below xs (c + scalars_of_type x.shape) m (omega arith))

-- ---- no two saved cells are one

-- each cell is above the one before it, and the first isn't below c
abbrev Rises : ℕ → List StateCell → Type 0
Rises c [] = Unit {0}
Rises c (x ∷ xs) = (c ≤ x.cell) × Rises (x.cell + 1) xs

rises_lower : (c d : ℕ) (xs : List StateCell) → c ≤ d → Rises d xs → Rises c xs
rises_lower c d [] low h = tt
rises_lower c d (x ∷ xs) low h = (let first = h.0 in omega (arith, low, first), h.1)

rises_at : (c : ℕ) (xs : List StateCell) (k : ℕ) (one : StateCell) → Rises c xs → slice_get xs k ≡ Some one → c ≤ one.cell
rises_at c [] k one h there = cc
rises_at c (x ∷ xs) zero one h there = let same : x ≡ one = cc in subst (λ y. c ≤ y.cell) same h.0
rises_at c (x ∷ xs) (suc k) one h there = let first = h.0 in let later = rises_at (x.cell + 1) xs k one h.1 there in omega (arith, first, later)

apart_of : (c : ℕ) (xs : List StateCell) → Rises c xs → AreApart xs
apart_of c [] h = λ j k one other here there same. cc
apart_of c (x ∷ xs) h = by (apart_of (x.cell + 1) xs h.1)
  where
    above : (k : ℕ) (one other : StateCell) → Some x ≡ Some one → slice_get xs k ≡ Some other → one.cell < other.cell
    above k one other here there =
        let first : x.cell ≡ one.cell = ap (λ o. elim o [ None ↦ 0 | Some y ↦ y.cell ]) here in
        let later = rises_at (x.cell + 1) xs k other h.1 there in
        omega (arith, first, later)

    by : AreApart xs → AreApart (x ∷ xs)
    by later zero zero one other here there same = refl
    by later zero (suc k) one other here there same = absurd (let less = above k one other here there in omega (arith, less, same))
    by later (suc j) zero one other here there same = absurd (let less = above j other one there here in omega (arith, less, same))
    by later (suc j) (suc k) one other here there same = ap suc (later j k one other here there same)

cells_rise : (t : Scalar) (c n : ℕ) (xs : List StateCell) → Rises (c + n) xs → Rises c (map (typed_cell t) (range_with_len c n) ++ xs)
cells_rise t c zero xs h = rises_lower c (c + 0) xs (omega arith) h
cells_rise t c (suc n) xs h = (omega arith, cells_rise t (c + 1) n xs (rises_lower ((c + 1) + n) (c + suc n) xs (omega arith) h))

var_rises : (b : Bool) (x : Held) (c : ℕ) (xs : List StateCell) → Rises (c + scalars_of_type x.shape) xs → Rises c ((if b then cells_of_var c x else []) ++ xs)
var_rises true x c xs h = cells_rise (scalar_of x.shape) c (scalars_of_type x.shape) xs h
var_rises false x c xs h = rises_lower c (c + scalars_of_type x.shape) xs (omega arith) h

saved_rises : (xs : List Held) (c : ℕ) → Rises c (saved_from c xs)
saved_rises [] c = tt
saved_rises (x ∷ xs) c = var_rises x.changes x c (saved_from (c + scalars_of_type x.shape) xs) (saved_rises xs (c + scalars_of_type x.shape))

pub saved-apart : (xs : List Held) → AreApart (saved_from 0 xs)
saved-apart xs = apart_of 0 (saved_from 0 xs) (saved_rises xs 0)

-- ---- the types of saved cells have sizes

scalar_size : (t : Shape) → IsType t → IsSize (scalar_of t)
scalar_size (Single t) h = h
scalar_size (Many n items) h = scalar_size items h.2

cells_sized : (t : Scalar) (c n : ℕ) → IsSize t → All (λ saved. IsSize saved.kind) (map (typed_cell t) (range_with_len c n))
cells_sized t c zero h = all_none (λ saved. IsSize saved.kind)
cells_sized t c (suc n) h = all_more (λ saved. IsSize saved.kind) (typed_cell t c) (map (typed_cell t) (range_with_len (c + 1) n)) h (cells_sized t (c + 1) n h)

var_sized : (b : Bool) (x : Held) (c : ℕ) → IsType x.shape → All (λ saved. IsSize saved.kind) (if b then cells_of_var c x else [])
var_sized true x c h = cells_sized (scalar_of x.shape) c (scalars_of_type x.shape) (scalar_size x.shape h)
var_sized false x c h = all_none (λ saved. IsSize saved.kind)

pub saved-sized : (xs : List Held) (c : ℕ) → Each (λ x. IsType x.shape × IsOf x.shape x.value) xs → All (λ saved. IsSize saved.kind) (saved_from c xs)
saved-sized [] c h = all_none (λ saved. IsSize saved.kind)
saved-sized (x ∷ xs) c h =
    all_append (λ saved. IsSize saved.kind) (if x.changes then cells_of_var c x else []) (saved_from (c + scalars_of_type x.shape) xs)
    (var_sized x.changes x c h.0.0) (saved-sized xs (c + scalars_of_type x.shape) h.1)
