-- Lists of which some numbers side by side are others.
use Rattle.std.proofs.Common.{◌≡◌, ℕ, zero, suc, ◌+◌, ◌*◌, ◌<◌, ◌≤◌, ◌⊎◌, inl, inr, ⊎_elim, ℤ, List, [], ◌∷◌, ◌++◌, length, refl, sym, ap, ◌∙◌, subst, Some, arith}
use Rattle.std.specs.Prelude.{get_or, slice_get}
use Rattle.std.proofs.lemmas.Option.{slice_get_within, slice_get-get_or}
use Rattle.std.proofs.lemmas.Bool.{cases_lt}
use Rattle.cal_model.specs.Value.{Kind, Value, Values, Nil, Cons, value_at, with_value, HasKind, HaveKind, scalars_of_kind}
use Rattle.lower_base.specs.Flat.{flat, flat_all, of_flat}
use Rattle.lower_base.specs.Held.{StandAt}
use Rattle.lower_base.specs.declared.names.Seat.TheVariants.{Cell}
use Rattle.lower_base.proofs.Back.{comes_back}
use Rattle.lower_base.proofs.Keeping.{flat_length}

-- but for the numbers ys from a place o on, each number stood there before
abbrev pub IsChanged : List ℤ → List ℤ → ℕ → List ℤ → Type 0
IsChanged old new o ys = (j : ℕ) (z : ℤ) → slice_get new j ≡ Some z
    → ((i : ℕ) × (j ≡ o + i) × (slice_get ys i ≡ Some z)) ⊎ (((j < o) ⊎ (o + length ys ≤ j)) × (slice_get old j ≡ Some z))

front : (xs ys : List ℤ) (j : ℕ) → j < length xs → slice_get (xs ++ ys) j ≡ slice_get xs j
front [] ys j less = absurd (omega (arith, less))
front (x ∷ xs) ys zero less = refl
front (x ∷ xs) ys (suc j) less = front xs ys j (omega (arith, less))

behind : (xs ys : List ℤ) (j : ℕ) → slice_get (xs ++ ys) (length xs + j) ≡ slice_get ys j
behind [] ys j = let e : 0 + j ≡ j = omega arith in ap (λ i. slice_get ys i) e
behind (x ∷ xs) ys j = let e : suc (length xs) + j ≡ suc (length xs + j) = omega arith in ap (λ i. slice_get (x ∷ (xs ++ ys)) i) e ∙ behind xs ys j

-- a place of two lists side by side
past : (m i : ℕ) → m ≤ i → (j : ℕ) × (i ≡ m + j)
past zero i le = (i, omega arith)
past (suc m) zero le = absurd (omega (arith, le))
past (suc m) (suc i) le = let r = past m i (omega (arith, le)) in let e = r.1 in (r.0, omega (arith, e))

-- the first of two lists is changed
changed_left : (old new rest ys : List ℤ) (o : ℕ) → length new ≡ length old → o + length ys ≤ length old → IsChanged old new o ys → IsChanged (old ++ rest) (new ++ rest) o ys
changed_left old new rest ys o size fit h i z e =
    ⊎_elim (λ (a : i < length old).
    ⊎_elim (λ (p : (k : ℕ) × (i ≡ o + k) × (slice_get ys k ≡ Some z)). inl p)
    (λ (p : ((i < o) ⊎ (o + length ys ≤ i)) × (slice_get old i ≡ Some z)). inr (p.0, front old rest i a ∙ p.1))
    (h i z (sym (front new rest i (omega (arith, a, size))) ∙ e)))
    (λ (a : length old ≤ i).
    let r = past (length old) i a in
    let at = r.1 in
    let in_new : i ≡ length new + r.0 = omega (arith, at, size) in
    let there : slice_get rest r.0 ≡ Some z = sym (behind new rest r.0) ∙ subst (λ k. slice_get (new ++ rest) k ≡ Some z) in_new e in
    inr (inr (omega (arith, a, fit)), ap (λ k. slice_get (old ++ rest) k) at ∙ behind old rest r.0 ∙ there))
    (cases_lt i (length old))

-- the second of two lists is changed
changed_right : (first old new ys : List ℤ) (m o : ℕ) → length first ≡ m → IsChanged old new o ys → IsChanged (first ++ old) (first ++ new) (m + o) ys
changed_right first old new ys m o size h i z e =
    ⊎_elim (λ (a : i < length first). inr (inl (omega (arith, a, size)), front first old i a ∙ sym (front first new i a) ∙ e))
    (λ (a : length first ≤ i).
    let r = past (length first) i a in
    let at = r.1 in
    let there : slice_get new r.0 ≡ Some z = sym (behind first new r.0) ∙ subst (λ k. slice_get (first ++ new) k ≡ Some z) at e in
    ⊎_elim (λ (p : (k : ℕ) × (r.0 ≡ o + k) × (slice_get ys k ≡ Some z)). let q = p.1 in inl (p.0, omega (arith, at, size, q), p.2))
    (λ (p : ((r.0 < o) ⊎ (o + length ys ≤ r.0)) × (slice_get old r.0 ≡ Some z)).
    inr (⊎_elim (λ (q : r.0 < o). inl (omega (arith, at, size, q))) (λ (q : o + length ys ≤ r.0). inr (omega (arith, at, size, q))) p.0, ap (λ k. slice_get (first ++ old) k) at ∙ behind first old r.0 ∙ p.1))
    (h r.0 z there))
    (cases_lt i (length first))

-- an item of a list is changed
pub list_changed : (k : Kind) (vs : Values) (j : ℕ) (old w : Value) (o : ℕ) (ys : List ℤ) → HaveKind k vs → value_at vs j ≡ Some old → HasKind k w → o + length ys ≤ scalars_of_kind k → IsChanged (flat old) (flat w) o ys
    → IsChanged (flat_all vs) (flat_all (with_value vs j w)) (j * scalars_of_kind k + o) ys
list_changed k Nil j old w o ys h e g fit c = cc
list_changed k (Cons v vs) zero old w o ys h e g fit c =
    let same : v ≡ old = cc in
    let before : length (flat v) ≡ scalars_of_kind k = flat_length k v h.0 in
    let now : length (flat w) ≡ scalars_of_kind k = flat_length k w g in
    let at : o ≡ 0 * scalars_of_kind k + o = omega arith in
    subst (λ i. IsChanged (flat v ++ flat_all vs) (flat w ++ flat_all vs) i ys) at
    (changed_left (flat v) (flat w) (flat_all vs) ys o (now ∙ sym before) (omega (arith, before, fit)) (subst (λ u. IsChanged (flat u) (flat w) o ys) (sym same) c))
list_changed k (Cons v vs) (suc j) old w o ys h e g fit c =
    let m : ℕ = scalars_of_kind k in
    let more : suc j * m ≡ m + j * m = omega arith in
    let at : m + (j * m + o) ≡ suc j * m + o = omega (arith, more) in
    subst (λ i. IsChanged (flat v ++ flat_all vs) (flat v ++ flat_all (with_value vs j w)) i ys) at
    (changed_right (flat v) (flat_all vs) (flat_all (with_value vs j w)) ys m (j * m + o) (flat_length k v h.0) (list_changed k vs j old w o ys h.1 e g fit c))

pub kinds_with : (k : Kind) (vs : Values) (j : ℕ) (w : Value) → HaveKind k vs → HasKind k w → HaveKind k (with_value vs j w)
kinds_with k Nil j w h g = h
kinds_with k (Cons v vs) zero w h g = (g, h.1)
kinds_with k (Cons v vs) (suc j) w h g = (h.0, kinds_with k vs j w h.1 g)

-- ---- one value in the same cells

same_numbers : (zs ys : List ℤ) → length zs ≡ length ys → ((j : ℕ) (z : ℤ) → slice_get zs j ≡ Some z → slice_get ys j ≡ Some z) → zs ≡ ys
same_numbers [] [] e h = refl
same_numbers [] (y ∷ ys) e h = absurd (omega (arith, e))
same_numbers (z ∷ zs) [] e h = absurd (omega (arith, e))
same_numbers (z ∷ zs) (y ∷ ys) e h =
    let first : Some y ≡ Some z = h 0 z refl in
    let one : z ≡ y = cc in
    ap (λ x. x ∷ zs) one ∙ ap (λ xs. y ∷ xs) (same_numbers zs ys (omega (arith, e)) (λ j x f. h (suc j) x f))

-- values of one kind that stand in the same cells are the same
pub same_standing : (k : Kind) (u v : Value) (c : ℕ) (tokens : ℕ → List ℤ) (cells : List ℤ) → HasKind k u → HasKind k v → StandAt (Cell c) tokens cells (flat u) → StandAt (Cell c) tokens cells (flat v) → u ≡ v
same_standing k u v c tokens cells g h a b =
    let size : length (flat u) ≡ length (flat v) = flat_length k u g ∙ sym (flat_length k v h) in
    let same : flat u ≡ flat v = same_numbers (flat u) (flat v) size (λ j z e. there j z (flat v) (omega (arith, size, within j z e)) b (a j z e)) in
    sym (comes_back k u [] g) ∙ ap (λ zs. of_flat k (zs ++ [])) same ∙ comes_back k v [] h
  where
    within : (j : ℕ) (z : ℤ) → slice_get (flat u) j ≡ Some z → j < length (flat u)
    within j z e = slice_get_within (flat u) j z e

    there : (j : ℕ) (z : ℤ) (ys : List ℤ) → j < length ys → StandAt (Cell c) tokens cells ys → slice_get cells (c + j) ≡ Some z → slice_get ys j ≡ Some z
    there j z ys less stands e =
        let x : ℤ = get_or ys j z in
        let at : slice_get ys j ≡ Some x = slice_get-get_or ys j z less in
        let both : Some x ≡ Some z = sym (stands j x at) ∙ e in
        at ∙ both
