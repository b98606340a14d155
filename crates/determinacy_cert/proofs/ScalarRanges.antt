-- The range of the scalars of a list, item by item.
use Rattle.std.proofs.Common.{◌≡◌, ℕ, suc, ◌+◌, ◌<◌, ◌≤◌, ℤ, ◌≤ℤ◌, List, ◌∷◌, map, length, drop, get_or, refl, sym, ap, ◌∙◌, arith}
use Rattle.std.specs.Prelude.{Option, None, Some}
use Rattle.std.specs.Int.{int_min, int_max}
use Rattle.std.proofs.Math.Seq.{drop-cons}
use Rattle.std.proofs.lemmas.Int.{ints, int_min_is, int_max_is}
use Rattle.std.proofs.lemmas.List.{drop_all}
use Rattle.cal_model.specs.View.{in_order, value_view}
use Rattle.cal_model.specs.declared.value.Value.{Value}
use Rattle.cal_model.specs.Certified.{Interval, between, hull, scalars_range, all_scalars_range}
use Rattle.determinacy_cert.specs.Deciding.{joined}

least : (x y z : ℤ) → (x ≤ℤ z → int_min x y ≤ℤ z) × (y ≤ℤ z → int_min x y ≤ℤ z)
least x y z = let e = int_min_is x y in ((λ h. omega (arith, ints)), (λ h. omega (arith, ints)))

least_both : (x y z : ℤ) → z ≤ℤ x → z ≤ℤ y → z ≤ℤ int_min x y
least_both x y z p q = let e = int_min_is x y in omega (arith, ints)

greatest : (x y z : ℤ) → (z ≤ℤ x → z ≤ℤ int_max x y) × (z ≤ℤ y → z ≤ℤ int_max x y)
greatest x y z = let e = int_max_is x y in ((λ h. omega (arith, ints)), (λ h. omega (arith, ints)))

greatest_both : (x y z : ℤ) → x ≤ℤ z → y ≤ℤ z → int_max x y ≤ℤ z
greatest_both x y z p q = let e = int_max_is x y in omega (arith, ints)

itself : (x : ℤ) → x ≤ℤ x
itself x = omega (arith, ints)

alike : (x y : ℤ) → x ≤ℤ y → y ≤ℤ x → x ≡ y
alike x y p q = omega (arith, ints)

min_assoc : (x y z : ℤ) → int_min (int_min x y) z ≡ int_min x (int_min y z)
min_assoc x y z =
    let l = int_min (int_min x y) z in
    let r = int_min x (int_min y z) in
    alike l r
    (least_both x (int_min y z) l ((least (int_min x y) z x).0 ((least x y x).0 (itself x)))
    (least_both y z l ((least (int_min x y) z y).0 ((least x y y).1 (itself y))) ((least (int_min x y) z z).1 (itself z))))
    (least_both (int_min x y) z r
    (least_both x y r ((least x (int_min y z) x).0 (itself x)) ((least x (int_min y z) y).1 ((least y z y).0 (itself y))))
    ((least x (int_min y z) z).1 ((least y z z).1 (itself z))))

max_assoc : (x y z : ℤ) → int_max (int_max x y) z ≡ int_max x (int_max y z)
max_assoc x y z =
    let l = int_max (int_max x y) z in
    let r = int_max x (int_max y z) in
    alike l r
    (greatest_both (int_max x y) z r
    (greatest_both x y r ((greatest x (int_max y z) x).0 (itself x)) ((greatest x (int_max y z) y).1 ((greatest y z y).0 (itself y))))
    ((greatest x (int_max y z) z).1 ((greatest y z z).1 (itself z))))
    (greatest_both x (int_max y z) l ((greatest (int_max x y) z x).0 ((greatest x y x).0 (itself x)))
    (greatest_both y z l ((greatest (int_max x y) z y).0 ((greatest x y y).1 (itself y))) ((greatest (int_max x y) z z).1 (itself z))))

hull_assoc : (i j k : Interval) → hull (hull i j) k ≡ hull i (hull j k)
hull_assoc i j k =
    ap (λ l. between l (int_max (int_max i.high j.high) k.high)) (min_assoc i.low j.low k.low)
    ∙ ap (between (int_min i.low (int_min j.low k.low))) (max_assoc i.high j.high k.high)

joined_assoc : (o p q : Option Interval) → joined (joined o p) q ≡ joined o (joined p q)
joined_assoc None p q = refl
joined_assoc (Some i) None q = refl
joined_assoc (Some i) (Some j) None = refl
joined_assoc (Some i) (Some j) (Some k) = ap (λ h. Some h) (hull_assoc i j k)

joined_none : (o : Option Interval) → joined o None ≡ o
joined_none None = refl
joined_none (Some i) = refl

joined_as : (o p : Option Interval) → elim o [ None ↦ p | Some i ↦ elim p [ None ↦ Some i | Some j ↦ Some (hull i j) ] ] ≡ joined o p
joined_as None p = refl
joined_as (Some i) None = refl
joined_as (Some i) (Some j) = refl

-- the scalars of these values
abbrev pub scalars_of : List Value → Option Interval
scalars_of vs = all_scalars_range (in_order (map value_view vs))

pub scalars_next : (vs : List Value) (k : ℕ) (v : Value) (found x next whole : Option Interval) → k < length vs → v ≡ get_or vs k v → x ≡ scalars_range (value_view v)
    → next ≡ joined found x → joined found (scalars_of (drop k vs)) ≡ whole → joined next (scalars_of (drop (k + 1) vs)) ≡ whole
scalars_next vs k v found x next whole inside is x_is next_is h =
    let one_on : suc k ≡ k + 1 = omega arith in
    let front : drop k vs ≡ v ∷ drop (k + 1) vs = drop-cons vs k v inside ∙ ap (λ w. w ∷ drop (suc k) vs) (sym is) ∙ ap (λ j. v ∷ drop j vs) one_on in
    let scalars : scalars_of (drop k vs) ≡ joined x (scalars_of (drop (k + 1) vs)) =
    ap scalars_of front ∙ joined_as (scalars_range (value_view v)) (scalars_of (drop (k + 1) vs)) ∙ ap (λ o. joined o (scalars_of (drop (k + 1) vs))) (sym x_is) in
    ap (λ o. joined o (scalars_of (drop (k + 1) vs))) next_is ∙ joined_assoc found x (scalars_of (drop (k + 1) vs)) ∙ ap (joined found) (sym scalars) ∙ h

pub scalars_end : (vs : List Value) (k : ℕ) (found whole : Option Interval) → length vs ≤ k → joined found (scalars_of (drop k vs)) ≡ whole → found ≡ whole
scalars_end vs k found whole past h =
    let none : scalars_of (drop k vs) ≡ None = ap scalars_of (drop_all k vs past) in
    sym (joined_none found) ∙ ap (joined found) (sym none) ∙ h
