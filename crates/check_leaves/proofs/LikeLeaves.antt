-- Leaves that are alike.
use Rattle.std.proofs.Common.{◌≡◌, List, [], ◌∷◌, map, refl, sym, ap, subst, ◌∙◌}
use Rattle.cal_imports.specs.Answer.{Gives}
use Rattle.cal_imports.specs.Resolved.{resolved}
use Rattle.fnl_tree.specs.Tree.{Binding, Leaf}
use Rattle.fnl_source.specs.Actors.{given_of, owner_of, source_of}
use Rattle.check_leaves.specs.Alike.{AreAlike, named_value}
use Rattle.check_leaves.specs.Laws.{AlikeAreOne}
use Rattle.check_leaves.proofs.Moved.{SameGiven, moved}

pub alike_itself : (leaf : Leaf) → AreAlike leaf leaf
alike_itself leaf = record { class = refl; values = refl }

pub alike_back : (leaf other : Leaf) → AreAlike leaf other → AreAlike other leaf
alike_back leaf other h = record { class = sym h.class; values = sym h.values }

pub alike_on : (a b c : Leaf) → AreAlike a b → AreAlike b c → AreAlike a c
alike_on a b c h i = record { class = h.class ∙ i.class; values = h.values ∙ i.values }

first_of : {A : Type 0} (x y : A) (xs ys : List A) → x ∷ xs ≡ y ∷ ys → x ≡ y
first_of x y xs ys h = cc

rest_of : {A : Type 0} (x y : A) (xs ys : List A) → x ∷ xs ≡ y ∷ ys → xs ≡ ys
rest_of x y xs ys h = cc

same_given : (bs cs : List Binding) → map named_value bs ≡ map named_value cs → SameGiven (map given_of bs) (map given_of cs)
same_given [] [] h = tt
same_given (b ∷ bs) (c ∷ cs) h =
    let first = first_of (named_value b) (named_value c) (map named_value bs) (map named_value cs) h in (
      ap (λ p. p.0) first,
      ap (λ p. p.1) first,
      same_given bs cs (rest_of (named_value b) (named_value c) (map named_value bs) (map named_value cs) h),
    )
same_given [] (c ∷ cs) h = absurd (cc)
same_given (b ∷ bs) [] h = absurd (cc)

pub alike_are_one : AlikeAreOne
alike_are_one files leaf other actor alike is = record {
  scope = is.scope;
  is_scope = subst (λ class. resolved files class ≡ Gives is.scope) alike.class is.is_scope;
  is_source = moved (source_of is.scope) (map given_of leaf.bindings) (map given_of other.bindings) (owner_of leaf) (owner_of other) actor
      (same_given leaf.bindings other.bindings alike.values) is.is_source;
}
