-- Lists of values, one value after another.
use Rattle.std.specs.Prelude.{◌==◌, if◌then◌else◌}
use Rattle.cal_check.specs.Constants.{has_kind, have_kind}
use Rattle.std.proofs.Common.{Bool, true, false, ◌≡◌, ℕ, zero, suc, ◌+◌, ◌≤◌, List, [], ◌∷◌, ◌++◌, map, length, take, refl, ap, sym, ◌∙◌, add-one, arith}
use Rattle.std.proofs.lemmas.Bool.Decides.{nat_tests}
use Rattle.std.proofs.lemmas.List.{map-append, take_all}
use Rattle.cal_model.specs.Value.{Kind, ListKind, Shape, Value, Items, Cons, count, one, joined, repeated, stored, stored_each}
use Rattle.cal_model.specs.View.{in_order, value_view}
use Rattle.cal_model.specs.declared.value.Value.{Value as Declared}

one_more : (vs : List Value) (v : Value) → in_order (vs ++ v ∷ []) ≡ joined (in_order vs) (one v)
one_more [] v = refl
one_more (w ∷ vs) v = ap (Cons w) (one_more vs v)

repeated_more : (n : ℕ) (v : Value) → joined (repeated n v) (one v) ≡ repeated (suc n) v
repeated_more zero v = refl
repeated_more (suc n) v = ap (Cons v) (repeated_more n v)

pub zeros_more : (xs : List Declared) (x : Declared) (n : ℕ) (v : Value) → in_order (map value_view xs) ≡ repeated n v → value_view x ≡ v → in_order (map value_view (xs ++ x ∷ [])) ≡ repeated (n + 1) v
zeros_more xs x n v e f =
    ap in_order (map-append value_view xs (x ∷ [])) ∙ one_more (map value_view xs) (value_view x)
    ∙ ap (λ w. joined (in_order (map value_view xs)) (one w)) f ∙ ap (λ ws. joined ws (one v)) e ∙ repeated_more n v ∙ ap (λ k. repeated k v) (sym (add-one n))

each_stored : (t : Shape) (vs : List Declared) → in_order (map (λ v. stored t (value_view v)) vs) ≡ stored_each t (in_order (map value_view vs))
each_stored t [] = refl
each_stored t (v ∷ vs) = ap (Cons (stored t (value_view v))) (each_stored t vs)

pub stored_list : (t : Shape) (vs ks : List Declared) (n : ℕ) → length vs ≤ n → map value_view ks ≡ map (λ v. stored t (value_view v)) (take n vs) → in_order (map value_view ks) ≡ stored_each t (in_order (map value_view vs))
stored_list t vs ks n h e = ap in_order e ∙ ap (λ ws. in_order (map (λ v. stored t (value_view v)) ws)) (take_all n vs h) ∙ each_stored t vs

counted : (vs : List Declared) → count (in_order (map value_view vs)) ≡ length vs
counted [] = refl
counted (v ∷ vs) = ap suc (counted vs)

-- a list that is as long as its kind says, or isn't
tested : (n size : ℕ) (k : Kind) (vs : List Declared) (b : Bool) → size ≡ length vs → (size == n) ≡ b
    → (if b then have_kind k (in_order (map value_view vs)) else false) ≡ has_kind (ListKind n k) (Items (in_order (map value_view vs)))
tested n size k vs b e f =
    ap (λ c. if c then have_kind k (in_order (map value_view vs)) else false) (sym (ap (λ m. m == n) (counted vs ∙ sym e) ∙ f))

pub as_long : (n size : ℕ) (k : Kind) (vs : List Declared) (all : Bool) → size ≡ length vs → size ≡ n → all ≡ have_kind k (in_order (map value_view vs))
    → all ≡ has_kind (ListKind n k) (Items (in_order (map value_view vs)))
as_long n size k vs all e f g =
    let t : (size == n) ≡ true = grind (arith, nat_tests) in
    g ∙ tested n size k vs true e t

pub not_as_long : (n size : ℕ) (k : Kind) (vs : List Declared) → size ≡ length vs → (size ≡ n → ⊥) → (size == n) ≡ has_kind (ListKind n k) (Items (in_order (map value_view vs)))
not_as_long n size k vs e f =
    let t : (size == n) ≡ false = grind (arith, nat_tests) in
    t ∙ tested n size k vs false e t
