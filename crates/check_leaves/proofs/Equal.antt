-- The tests say whether values are equal, and whether leaves give equal ones.
use Rattle.std.proofs.Common.{◌≡◌, ℤ, Bool, true, false, List, [], ◌∷◌, map, refl, ap, subst, ◌∙◌}
use Rattle.std.specs.Prelude.{◌&&◌}
use Rattle.std.specs.Str.{bytes_eq}
use Rattle.std.proofs.lemmas.Bool.Decides.{Decides-int_eq}
use Rattle.std.proofs.lemmas.Slice.Eq.{bytes_eq-Decides}
use Rattle.cal_model.specs.Value.{Value, Num, Truth, Items, Values, Nil, Cons}
use Rattle.fnl_tree.specs.Tree.{Binding}
use Rattle.check_leaves.specs.Alike.{named_value}
use Rattle.check_leaves.specs.Equal.{are_equal, give_same, gives_same, is_equal, is_number, is_truth, same_truth}

both : (a b : Bool) → (a && b) ≡ true → (a ≡ true) × (b ≡ true)
both true b h = (refl, h)
both false b h = absurd (cc)

both_true : (a b : Bool) → a ≡ true → b ≡ true → (a && b) ≡ true
both_true a b h i = ap (λ c. c && b) h ∙ i

-- ---- equal values

number_is : (z : ℤ) (w : Value) → is_number z w ≡ true → Num z ≡ w
number_is z (Num w) h = ap Num ((Decides-int_eq z w).0 h)
number_is z (Truth b) h = absurd (cc)
number_is z (Items ws) h = absurd (cc)

truth_is : (a : Bool) (w : Value) → is_truth a w ≡ true → Truth a ≡ w
truth_is true (Truth true) h = refl
truth_is false (Truth false) h = refl
truth_is true (Truth false) h = absurd (cc)
truth_is false (Truth true) h = absurd (cc)
truth_is a (Num w) h = absurd (cc)
truth_is a (Items ws) h = absurd (cc)

mutual
  pub equal_is : (v w : Value) → is_equal v w ≡ true → v ≡ w
  equal_is (Num z) w h = number_is z w h
  equal_is (Truth a) w h = truth_is a w h
  equal_is (Items vs) (Items ws) h = ap Items (equal_are vs ws h)
  equal_is (Items vs) (Num w) h = absurd (cc)
  equal_is (Items vs) (Truth b) h = absurd (cc)

  equal_are : (vs ws : Values) → are_equal vs ws ≡ true → vs ≡ ws
  equal_are Nil Nil h = refl
  equal_are (Cons v vs) (Cons w ws) h =
      let p = both (is_equal v w) (are_equal vs ws) h in
      ap (λ u. Cons u vs) (equal_is v w p.0) ∙ ap (Cons w) (equal_are vs ws p.1)
  equal_are Nil (Cons w ws) h = absurd (cc)
  equal_are (Cons v vs) Nil h = absurd (cc)

same_truth_itself : (a : Bool) → same_truth a a ≡ true
same_truth_itself true = refl
same_truth_itself false = refl

mutual
  pub equal_itself : (v : Value) → is_equal v v ≡ true
  equal_itself (Num z) = (Decides-int_eq z z).1 refl
  equal_itself (Truth a) = same_truth_itself a
  equal_itself (Items vs) = all_equal_itself vs

  all_equal_itself : (vs : Values) → are_equal vs vs ≡ true
  all_equal_itself Nil = refl
  all_equal_itself (Cons v vs) = both_true (is_equal v v) (are_equal vs vs) (equal_itself v) (all_equal_itself vs)

-- ---- equal values, given to the same parameters

gives_same_is : (b c : Binding) → gives_same b c ≡ true → named_value b ≡ named_value c
gives_same_is b c h =
    let p = both (bytes_eq b.name c.name) (is_equal b.value c.value) h in
    ap (λ n. (n, b.value)) ((bytes_eq-Decides b.name c.name).0 p.0) ∙ ap (λ v. (c.name, v)) (equal_is b.value c.value p.1)

pub give_same_is : (bs cs : List Binding) → give_same bs cs ≡ true → map named_value bs ≡ map named_value cs
give_same_is [] [] h = refl
give_same_is (b ∷ bs) (c ∷ cs) h =
    let p = both (gives_same b c) (give_same bs cs) h in
    ap (λ x. x ∷ map named_value bs) (gives_same_is b c p.0) ∙ ap (λ xs. named_value c ∷ xs) (give_same_is bs cs p.1)
give_same_is [] (c ∷ cs) h = absurd (cc)
give_same_is (b ∷ bs) [] h = absurd (cc)

gives_same_if : (b c : Binding) → named_value b ≡ named_value c → gives_same b c ≡ true
gives_same_if b c e =
    let names : b.name ≡ c.name = ap (λ p. p.0) e in
    let values : b.value ≡ c.value = ap (λ p. p.1) e in
    both_true (bytes_eq b.name c.name) (is_equal b.value c.value) ((bytes_eq-Decides b.name c.name).1 names)
    (subst (λ v. is_equal b.value v ≡ true) values (equal_itself b.value))

first_of : {A : Type 0} (x y : A) (xs ys : List A) → x ∷ xs ≡ y ∷ ys → x ≡ y
first_of x y xs ys h = cc

rest_of : {A : Type 0} (x y : A) (xs ys : List A) → x ∷ xs ≡ y ∷ ys → xs ≡ ys
rest_of x y xs ys h = cc

pub give_same_if : (bs cs : List Binding) → map named_value bs ≡ map named_value cs → give_same bs cs ≡ true
give_same_if [] [] h = refl
give_same_if (b ∷ bs) (c ∷ cs) h =
    both_true (gives_same b c) (give_same bs cs)
    (gives_same_if b c (first_of (named_value b) (named_value c) (map named_value bs) (map named_value cs) h))
    (give_same_if bs cs (rest_of (named_value b) (named_value c) (map named_value bs) (map named_value cs) h))
give_same_if [] (c ∷ cs) h = absurd (cc)
give_same_if (b ∷ bs) [] h = absurd (cc)
