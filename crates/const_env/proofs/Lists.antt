-- Lists of values, one value after another.
use Rattle.std.proofs.Common.{◌≡◌, ℕ, zero, suc, ◌+◌, List, [], ◌∷◌, ◌++◌, map, length, get_or, ◌<◌, ◌≤◌, refl, sym, ap, ◌∙◌, add-one, arith}
use Rattle.std.proofs.Common.{ℤ, pos, negsuc, true, false, subst, take, to_z, of_z, SFits}
use Rattle.std.specs.Prelude.{None, Some, ◌&&◌, int_le, int_lt, nat_le, slice_get, unsigned_abs}
use Rattle.std.proofs.lemmas.Int.{ints, to_z-of_z}
use Rattle.rvc_base.specs.declared.trap.Trap.TheVariants.{IndexRange}
use Rattle.rvc_base.specs.Width.{num_width}
use Rattle.cal_model.specs.Outcome.{Gives, Traps}
use Rattle.cal_model.specs.Env.{item_at}
use Rattle.std.proofs.lemmas.List.{map-append, take_all}
use Rattle.cal_model.specs.Value.{ListKind, Shape, Value, Items, Values, Nil, Cons, count, one, joined, repeated, stored, stored_each, value_at}
use Rattle.cal_model.specs.View.{in_order, value_view}
use Rattle.const_env.specs.Constants.{kind_of_value}
use Rattle.const_env.specs.Lengths.{is_counted, most_items}
use Rattle.std.proofs.lemmas.Bool.Decides.{nat_tests}
use Rattle.const_env.proofs.Tested.{and_left, and_right, le_holds}
use Rattle.cal_model.specs.declared.value.Value.{Value as Declared}

pub one_more : (vs : List Value) (v : Value) → in_order (vs ++ v ∷ []) ≡ joined (in_order vs) (one v)
one_more [] v = refl
one_more (w ∷ vs) v = ap (Cons w) (one_more vs v)

pub in_order_joined : (vs ws : List Value) → in_order (vs ++ ws) ≡ joined (in_order vs) (in_order ws)
in_order_joined [] ws = refl
in_order_joined (v ∷ vs) ws = ap (Cons v) (in_order_joined vs ws)

pub joined_nil : (vs : Values) → joined vs Nil ≡ vs
joined_nil Nil = refl
joined_nil (Cons v vs) = ap (Cons v) (joined_nil vs)

pub joined_joined : (us vs ws : Values) → joined (joined us vs) ws ≡ joined us (joined vs ws)
joined_joined Nil vs ws = refl
joined_joined (Cons u us) vs ws = ap (Cons u) (joined_joined us vs ws)

pub repeated_more : (n : ℕ) (v : Value) → joined (repeated n v) (one v) ≡ repeated (suc n) v
repeated_more zero v = refl
repeated_more (suc n) v = ap (Cons v) (repeated_more n v)

pub each_stored : (t : Shape) (vs : List Declared) → in_order (map (λ v. stored t (value_view v)) vs) ≡ stored_each t (in_order (map value_view vs))
each_stored t [] = refl
each_stored t (v ∷ vs) = ap (Cons (stored t (value_view v))) (each_stored t vs)

pub zeros_more : (xs : List Declared) (x : Declared) (n : ℕ) (v : Value) → in_order (map value_view xs) ≡ repeated n v → value_view x ≡ v → in_order (map value_view (xs ++ x ∷ [])) ≡ repeated (n + 1) v
zeros_more xs x n v e f =
    ap in_order (map-append value_view xs (x ∷ [])) ∙ one_more (map value_view xs) (value_view x)
    ∙ ap (λ w. joined (in_order (map value_view xs)) (one w)) f ∙ ap (λ ws. joined ws (one v)) e ∙ repeated_more n v ∙ ap (λ k. repeated k v) (sym (add-one n))

pub value_in : (vs : List Declared) (n : ℕ) (d : Declared) → n < length vs → value_at (in_order (map value_view vs)) n ≡ Some (value_view (get_or vs n d))
value_in [] n d h = absurd (omega arith)
value_in (v ∷ vs) zero d h = refl
value_in (v ∷ vs) (suc n) d h = value_in vs n d (omega arith)

pub value_out : (vs : List Declared) (n : ℕ) → length vs ≤ n → value_at (in_order (map value_view vs)) n ≡ None
value_out [] n h = refl
value_out (v ∷ vs) zero h = absurd (omega arith)
value_out (v ∷ vs) (suc n) h = value_out vs n (omega arith)

pub stored_list : (t : Shape) (vs ks : List Declared) (n : ℕ) → length vs ≤ n → map value_view ks ≡ map (λ v. stored t (value_view v)) (take n vs) → in_order (map value_view ks) ≡ stored_each t (in_order (map value_view vs))
stored_list t vs ks n h e = ap in_order e ∙ ap (λ ws. in_order (map (λ v. stored t (value_view v)) ws)) (take_all n vs h) ∙ each_stored t vs

-- the item at a number that isn't below 0 and is a place of the list
pub item_found : (z : ℤ) (vs : List Declared) (d : Declared) (left : ℕ) → SFits num_width z → int_lt (to_z num_width (of_z num_width z)) (pos 0) ≡ false → unsigned_abs (to_z num_width (of_z num_width z)) < length vs
    → item_at (in_order (map value_view vs)) z left ≡ Gives (value_view (get_or vs (unsigned_abs (to_z num_width (of_z num_width z))) d)) left
item_found (pos n) vs d left f e h =
    let is : to_z num_width (of_z num_width (pos n)) ≡ pos n = to_z-of_z num_width (pos n) f in
    let l : n < length vs = subst (λ x. unsigned_abs x < length vs) is h in
    ap (λ o. elim o [ None ↦ Traps IndexRange | Some v ↦ Gives v left ]) (value_in vs n d l) ∙ ap (λ x. Gives (value_view (get_or vs (unsigned_abs x) d)) left) (sym is)
item_found (negsuc n) vs d left f e h =
    let is : to_z num_width (of_z num_width (negsuc n)) ≡ negsuc n = to_z-of_z num_width (negsuc n) f in
    let g : int_lt (negsuc n) (pos 0) ≡ false = subst (λ x. int_lt x (pos 0) ≡ false) is e in
    cc

pub item_missing : (z : ℤ) (vs : List Declared) (left : ℕ) → SFits num_width z → int_lt (to_z num_width (of_z num_width z)) (pos 0) ≡ false → length vs ≤ unsigned_abs (to_z num_width (of_z num_width z))
    → item_at (in_order (map value_view vs)) z left ≡ Traps IndexRange
item_missing (pos n) vs left f e h =
    let is : to_z num_width (of_z num_width (pos n)) ≡ pos n = to_z-of_z num_width (pos n) f in
    let l : length vs ≤ n = subst (λ x. length vs ≤ unsigned_abs x) is h in
    ap (λ o. elim o [ None ↦ Traps IndexRange | Some v ↦ Gives v left ]) (value_out vs n l)
item_missing (negsuc n) vs left f e h =
    let is : to_z num_width (of_z num_width (negsuc n)) ≡ negsuc n = to_z-of_z num_width (negsuc n) f in
    let g : int_lt (negsuc n) (pos 0) ≡ false = subst (λ x. int_lt x (pos 0) ≡ false) is e in
    cc

-- .. and the same with the length of the list as a number
to_pos : (n : ℕ) → n < 18446744073709551616 → to_z num_width n ≡ pos n
to_pos n h = omega (arith, ints)

inside_by : (z : ℤ) (len n : ℕ) → int_lt z (pos 0) ≡ false → int_le (pos len) z ≡ false → len ≡ n → unsigned_abs z < n
inside_by (pos k) len n p q e = omega (arith, ints)
inside_by (negsuc k) len n p q e = omega (arith, ints)

outside_by : (z : ℤ) (len n : ℕ) → int_lt z (pos 0) ≡ false → int_le (pos len) z ≡ true → len ≡ n → n ≤ unsigned_abs z
outside_by (pos k) len n p q e = omega (arith, ints)
outside_by (negsuc k) len n p q e = omega (arith, ints)

pub item_here : (z : ℤ) (vs : List Declared) (d : Declared) (left len : ℕ) → SFits num_width z → len ≡ length vs → len < 18446744073709551616
    → int_lt (to_z num_width (of_z num_width z)) (pos 0) ≡ false → int_le (to_z num_width len) (to_z num_width (of_z num_width z)) ≡ false
    → item_at (in_order (map value_view vs)) z left ≡ Gives (value_view (get_or vs (unsigned_abs (to_z num_width (of_z num_width z))) d)) left
item_here z vs d left len f e s p q =
    let l : int_le (pos len) (to_z num_width (of_z num_width z)) ≡ false = subst (λ x. int_le x (to_z num_width (of_z num_width z)) ≡ false) (to_pos len s) q in
    item_found z vs d left f p (inside_by (to_z num_width (of_z num_width z)) len (length vs) p l e)

pub item_gone : (z : ℤ) (vs : List Declared) (left len : ℕ) → SFits num_width z → len ≡ length vs → len < 18446744073709551616
    → int_lt (to_z num_width (of_z num_width z)) (pos 0) ≡ false → int_le (to_z num_width len) (to_z num_width (of_z num_width z)) ≡ true
    → item_at (in_order (map value_view vs)) z left ≡ Traps IndexRange
item_gone z vs left len f e s p q =
    let l : int_le (pos len) (to_z num_width (of_z num_width z)) ≡ true = subst (λ x. int_le x (to_z num_width (of_z num_width z)) ≡ true) (to_pos len s) q in
    item_missing z vs left f p (outside_by (to_z num_width (of_z num_width z)) len (length vs) p l e)

counted : (xs : List Declared) → count (in_order (map value_view xs)) ≡ length xs
counted [] = refl
counted (x ∷ xs) = ap suc (counted xs)

-- the kind of a list is told by its first value
pub first_kind : (vs : List Declared) (v : Declared) → slice_get vs 0 ≡ Some v → kind_of_value (Items (in_order (map value_view vs))) ≡ ListKind (length vs) (kind_of_value (value_view v))
first_kind [] v e = cc
first_kind (w ∷ vs) v e =
    let same : w ≡ v = cc in
    ap (λ n. ListKind (suc n) (kind_of_value (value_view w))) (counted vs) ∙ ap (λ x. ListKind (suc (length vs)) (kind_of_value (value_view x))) same

-- .. and so is whether 32 bits count its items
pub first_counted : (vs : List Declared) (v : Declared) → slice_get vs 0 ≡ Some v → is_counted (Items (in_order (map value_view vs))) ≡ (nat_le (length vs) most_items && is_counted (value_view v))
first_counted [] v e = cc
first_counted (w ∷ vs) v e =
    let same : w ≡ v = cc in
    ap (λ n. nat_le (suc n) most_items && is_counted (value_view w)) (counted vs) ∙ ap (λ x. nat_le (suc (length vs)) most_items && is_counted (value_view x)) same

-- a list that is counted, and its first value
pub counted_length : (vs : List Declared) (v : Declared) → slice_get vs 0 ≡ Some v → is_counted (Items (in_order (map value_view vs))) ≡ true → length vs < 4294967296
counted_length vs v e h =
    let le : length vs ≤ most_items = le_holds (length vs) most_items (and_left (nat_le (length vs) most_items) (is_counted (value_view v)) (sym (first_counted vs v e) ∙ h)) in
    omega arith

pub counted_first : (vs : List Declared) (v : Declared) → slice_get vs 0 ≡ Some v → is_counted (Items (in_order (map value_view vs))) ≡ true → is_counted (value_view v) ≡ true
counted_first vs v e h = and_right (nat_le (length vs) most_items) (is_counted (value_view v)) (sym (first_counted vs v e) ∙ h)

-- so 32 bits count them if they are few and the first value is counted
pub counted_within : (vs : List Declared) (v : Declared) (n : ℕ) → slice_get vs 0 ≡ Some v → n ≡ length vs → n ≤ 4294967295 → is_counted (value_view v) ≡ is_counted (Items (in_order (map value_view vs)))
counted_within vs v n e is le =
    let few : nat_le (length vs) most_items ≡ true = within (length vs) most_items (omega arith) in
    ap (λ b. b && is_counted (value_view v)) (sym few) ∙ sym (first_counted vs v e)
  where
    within : (a b : ℕ) → a ≤ b → nat_le a b ≡ true
    within a b h = grind (arith, nat_tests)

-- .. and if they are too many they don't
pub counted_beyond : (vs : List Declared) (v : Declared) (n : ℕ) → slice_get vs 0 ≡ Some v → n ≡ length vs → 4294967295 < n → nat_le n 4294967295 ≡ is_counted (Items (in_order (map value_view vs)))
counted_beyond vs v n e is more =
    let many : nat_le (length vs) most_items ≡ false = beyond (length vs) most_items (omega arith) in
    beyond n 4294967295 more ∙ ap (λ b. b && is_counted (value_view v)) (sym many) ∙ sym (first_counted vs v e)
  where
    beyond : (a b : ℕ) → b < a → nat_le a b ≡ false
    beyond a b h = grind (arith, nat_tests)
