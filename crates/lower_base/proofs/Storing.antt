-- What is stored in cells of names.
use Rattle.std.proofs.Common.{◌≡◌, ◌≢◌, ℕ, zero, suc, ◌+◌, ◌<◌, ◌≤◌, ◌⊎◌, inl, inr, ⊎_elim, ℤ, pos, List, [], ◌∷◌, ◌++◌, length, Bool, true, false, refl, sym, ap, ◌∙◌, subst, Option, Some, arith}
use Rattle.std.specs.Prelude.{if◌then◌else◌, slice_get, slice_set, nat_le, unsigned_abs, ◌==◌}
use Rattle.std.proofs.lemmas.List.{length-set}
use Rattle.std.proofs.lemmas.Option.{slice_get_within}
use Rattle.std.proofs.lemmas.Bool.Decides.{nat_tests}
use Rattle.rvc_base.specs.declared.scalar.Scalar.{Scalar}
use Rattle.rvc_base.specs.declared.scalar.Scalar.TheVariants as scalar
use Rattle.rvc_base.specs.declared.trap.Trap.TheVariants.{IndexRange}
use Rattle.rvc_base.specs.Arithmetic as arithmetic
use Rattle.rvc_base.specs.Arithmetic.{is_true}
use Rattle.rvc_base.specs.Storing.{conv, IsSize}
use Rattle.cal_model.specs.Value.{Single, Value, Num, Truth, Items, Values, Nil, Cons, count, with_value, stored, HasKind, HaveKind, kind_of_scalar}
use Rattle.cal_model.proofs.Stored.{conv-in-range}
use Rattle.cal_model.proofs.KindValues.{single-is-num}
use Rattle.code_ir.specs.declared.instr.Instr.TheVariants as op
use Rattle.code_ir.specs.Effect.{Leaves, Fails, Breaks, effect, stored as in_cell}
use Rattle.code_ir.proofs.Marks.{get-set, get-other}
use Rattle.lower_base.specs.Flat.{flat, flat_all}
use Rattle.lower_base.proofs.Effects.{same_number}
use Rattle.lower_base.proofs.Listing.{single_flat}
use Rattle.lower_base.proofs.Written.{Written}
use Rattle.lower_base.proofs.Singles.{IsSingleValue}

-- ---- one number

truth_stored : (b : Bool) → arithmetic.truth (is_true (if b then pos 0 else pos 1)) ≡ (if b then pos 0 else pos 1)
truth_stored true = refl
truth_stored false = refl

-- the numbers of what is stored are the number that is stored
pub number_stored : (t : Scalar) (z : ℤ) → IsSize t → HasKind (kind_of_scalar t) (stored (Single t) (Num z)) × (flat (stored (Single t) (Num z)) ≡ conv t z ∷ [])
number_stored scalar.Bool z h = (tt, ap (λ x. x ∷ []) (truth_stored (unsigned_abs z == 0)))
number_stored (scalar.Int n) z h = (single-is-num (scalar.Int n) (conv (scalar.Int n) z) h (conv-in-range (scalar.Int n) z h), refl)
number_stored (scalar.Uint n) z h = (single-is-num (scalar.Uint n) (conv (scalar.Uint n) z) h (conv-in-range (scalar.Uint n) z h), refl)

pub single_stored : (t : Scalar) (v : Value) (z : ℤ) → IsSize t → IsSingleValue v → flat v ≡ z ∷ [] → HasKind (kind_of_scalar t) (stored (Single t) v) × (flat (stored (Single t) v) ≡ conv t z ∷ [])
single_stored t (Num x) z h s e =
    let same : x ≡ z = same_number x z e in
    subst (λ y. HasKind (kind_of_scalar t) (stored (Single t) (Num x)) × (flat (stored (Single t) (Num x)) ≡ conv t y ∷ [])) same (number_stored t x h)
single_stored t (Truth b) z h s e =
    let same : arithmetic.truth b ≡ z = same_number (arithmetic.truth b) z e in
    subst (λ y. HasKind (kind_of_scalar t) (stored (Single t) (Truth b)) × (flat (stored (Single t) (Truth b)) ≡ conv t y ∷ [])) same (number_stored t (arithmetic.truth b) h)
single_stored t (Items vs) z h s e = absurd s

-- ---- cells

pub set_written : (cells : List ℤ) (c size k : ℕ) (z : ℤ) → k < size → Written c size cells (slice_set cells (c + k) z)
set_written cells c size k z less = record {
  length_same = length-set cells (c + k) z;
  cell = λ d away. get-other cells (c + k) d z (λ e. ⊎_elim (λ (a : d < c). absurd (omega (arith, a, e))) (λ (a : c + size ≤ d). absurd (omega (arith, a, e, less))) away);
}

pub set_there : (cells : List ℤ) (c : ℕ) (y z : ℤ) → slice_get cells c ≡ Some y → slice_get (slice_set cells c z) c ≡ Some z
set_there cells c y z e = get-set cells c z (slice_get_within cells c y e)

pub store_leaves : (c : ℕ) (t : Option Scalar) (tokens : ℕ → List ℤ) (stack cells : List ℤ) (z y : ℤ) → slice_get cells c ≡ Some y
    → effect tokens (op.Store c t) (z ∷ stack) cells ≡ Leaves stack (slice_set cells c (in_cell t z))
store_leaves c t tokens stack cells z y e =
    let inside : nat_le (c + 1) (length cells) ≡ true = let w = slice_get_within cells c y e in grind (arith, nat_tests, w) in
    ap (λ b. if b then Leaves stack (slice_set cells c (in_cell t z)) else Breaks) inside

-- ---- items

pub store_item_leaves : (c size k : ℕ) (t : Option Scalar) (tokens : ℕ → List ℤ) (stack cells : List ℤ) (z y : ℤ) → k < size → slice_get cells (c + k) ≡ Some y
    → effect tokens (op.StoreAt c size t) (z ∷ pos k ∷ stack) cells ≡ Leaves stack (slice_set cells (c + k) (in_cell t z))
store_item_leaves c size k t tokens stack cells z y less e =
    let near : nat_le (k + 1) size ≡ true = grind (arith, nat_tests, less) in
    let inside : nat_le (c + k + 1) (length cells) ≡ true = let w = slice_get_within cells (c + k) y e in grind (arith, nat_tests, w) in
    ap (λ b. if b then (if nat_le (c + k + 1) (length cells) then Leaves stack (slice_set cells (c + k) (in_cell t z)) else Breaks) else Fails IndexRange) near
    ∙ ap (λ b. if b then Leaves stack (slice_set cells (c + k) (in_cell t z)) else Breaks) inside

pub store_item_past : (c size k : ℕ) (t : Option Scalar) (tokens : ℕ → List ℤ) (stack cells : List ℤ) (z : ℤ) → size ≤ k
    → effect tokens (op.StoreAt c size t) (z ∷ pos k ∷ stack) cells ≡ Fails IndexRange
store_item_past c size k t tokens stack cells z le =
    let outside : nat_le (k + 1) size ≡ false = grind (arith, nat_tests, le) in
    ap (λ b. if b then (if nat_le (c + k + 1) (length cells) then Leaves stack (slice_set cells (c + k) (in_cell t z)) else Breaks) else Fails IndexRange) outside

-- the numbers of a list with another item
pub item_changed : (t : Scalar) (vs : Values) (k : ℕ) (w : Value) (y : ℤ) → HaveKind (kind_of_scalar t) vs → flat w ≡ y ∷ [] → (j : ℕ) (z : ℤ) → slice_get (flat_all (with_value vs k w)) j ≡ Some z
    → ((j ≡ k) × (y ≡ z)) ⊎ ((j ≢ k) × (slice_get (flat_all vs) j ≡ Some z))
item_changed t Nil k w y h e j z g = cc
item_changed t (Cons v vs) zero w y h e zero z g =
    let first : slice_get (flat w ++ flat_all vs) 0 ≡ Some y = ap (λ xs. slice_get (xs ++ flat_all vs) 0) e in
    let same : Some y ≡ Some z = sym first ∙ g in
    inl (refl, cc)
item_changed t (Cons v vs) zero w y h e (suc j) z g =
    let one = single_flat (Single t) v tt h.0 in
    let later : slice_get (flat w ++ flat_all vs) (suc j) ≡ slice_get (flat_all vs) j = ap (λ xs. slice_get (xs ++ flat_all vs) (suc j)) e in
    let before : slice_get (flat v ++ flat_all vs) (suc j) ≡ slice_get (flat_all vs) j = ap (λ xs. slice_get (xs ++ flat_all vs) (suc j)) one.1 in
    inr ((λ f. absurd (omega (arith, f))), before ∙ sym later ∙ g)
item_changed t (Cons v vs) (suc k) w y h e zero z g =
    let one = single_flat (Single t) v tt h.0 in
    let now : slice_get (flat v ++ flat_all (with_value vs k w)) 0 ≡ Some one.0 = ap (λ xs. slice_get (xs ++ flat_all (with_value vs k w)) 0) one.1 in
    let before : slice_get (flat v ++ flat_all vs) 0 ≡ Some one.0 = ap (λ xs. slice_get (xs ++ flat_all vs) 0) one.1 in
    inr ((λ f. absurd (omega (arith, f))), before ∙ sym now ∙ g)
item_changed t (Cons v vs) (suc k) w y h e (suc j) z g =
    let one = single_flat (Single t) v tt h.0 in
    let now : slice_get (flat v ++ flat_all (with_value vs k w)) (suc j) ≡ slice_get (flat_all (with_value vs k w)) j = ap (λ xs. slice_get (xs ++ flat_all (with_value vs k w)) (suc j)) one.1 in
    let before : slice_get (flat v ++ flat_all vs) (suc j) ≡ slice_get (flat_all vs) j = ap (λ xs. slice_get (xs ++ flat_all vs) (suc j)) one.1 in
    ⊎_elim (λ (a : (j ≡ k) × (y ≡ z)). inl (ap suc a.0, a.1))
    (λ (a : (j ≢ k) × (slice_get (flat_all vs) j ≡ Some z)). inr ((λ f. a.0 (omega (arith, f))), before ∙ a.1))
    (item_changed t vs k w y h.1 e j z (sym now ∙ g))

pub item_count : (vs : Values) (k : ℕ) (w : Value) → count (with_value vs k w) ≡ count vs
item_count Nil k w = refl
item_count (Cons v vs) zero w = refl
item_count (Cons v vs) (suc k) w = ap suc (item_count vs k w)

pub item_kinds : (t : Scalar) (vs : Values) (k : ℕ) (w : Value) → HaveKind (kind_of_scalar t) vs → HasKind (kind_of_scalar t) w → HaveKind (kind_of_scalar t) (with_value vs k w)
item_kinds t Nil k w h e = h
item_kinds t (Cons v vs) zero w h e = (e, h.1)
item_kinds t (Cons v vs) (suc k) w h e = (h.0, item_kinds t vs k w h.1 e)
