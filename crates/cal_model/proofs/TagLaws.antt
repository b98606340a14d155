-- A tag stands for the actions whose tags begin with it, and so transitions and chains of tags speak of actions.
use Rattle.std.proofs.Common.{◌≡◌, ◌≢◌, ℕ, zero, suc, ◌+◌, ◌<◌, ◌⊎◌, inl, inr, Bool, true, false, not, ◌&&◌, List, [], ◌∷◌, ◌++◌, refl, sym, ap, subst, ◌∙◌, arith, None, Some, Contains, Decides}
use Rattle.std.specs.Prelude.{◌↔◌, slice_get, map, if◌then◌else◌}
use Rattle.std.specs.Str.{bytes_eq}
use Rattle.std.proofs.lemmas.Bool.{true≢false}
use Rattle.std.proofs.lemmas.Bool.Decides.{Decides-and, Decides-like}
use Rattle.std.proofs.lemmas.Slice.Eq.{bytes_eq-Decides}
use Rattle.cal_model.specs.Actor.{Action, Move, Actor}
use Rattle.cal_model.specs.Eligible.{is_empty}
use Rattle.cal_model.specs.Tags.{is_prefix_tag, may_be_meant, stands_from, stands_for, IsMeantBy, IsMeant, Transition, number_of_name, moves_by, moves_by_tags, moves_of, IsMoveOf, each_above, pairs_of, IsPairOf}

-- ---- lists

in-none : {A : Type 0} (x : A) → Contains [] x → ⊥
in-none x h = let e : h.0 < 0 = h.1 in absurd (omega arith)

head-or-rest : {A : Type 0} (x y : A) (xs : List A) → Contains (y ∷ xs) x → (y ≡ x) ⊎ Contains xs x
head-or-rest x y xs (zero, h, e) = inl e
head-or-rest x y xs (suc k, h, e) = inr (k, omega arith, e)

at-head : {A : Type 0} (x y : A) (xs : List A) → y ≡ x → Contains (y ∷ xs) x
at-head x y xs e = (0, omega arith, e)

behind : {A : Type 0} (x y : A) (xs : List A) → Contains xs x → Contains (y ∷ xs) x
behind x y xs (k, h, e) = (suc k, omega arith, e)

-- an element of two lists in a row is one of either
in-either : {A : Type 0} (x : A) (xs ys : List A) → Contains (xs ++ ys) x → Contains xs x ⊎ Contains ys x
in-either x [] ys h = inr h
in-either x (z ∷ xs) ys h = go (head-or-rest x z (xs ++ ys) h) (in-either x xs ys)
  where
    later : Contains xs x ⊎ Contains ys x → Contains (z ∷ xs) x ⊎ Contains ys x
    later (inl c) = inl (behind x z xs c)
    later (inr c) = inr c

    go : (z ≡ x) ⊎ Contains (xs ++ ys) x → (Contains (xs ++ ys) x → Contains xs x ⊎ Contains ys x) → Contains (z ∷ xs) x ⊎ Contains ys x
    go (inl e) ih = inl (at-head x z xs e)
    go (inr c) ih = later (ih c)

in-front : {A : Type 0} (x : A) (xs ys : List A) → Contains xs x → Contains (xs ++ ys) x
in-front x [] ys h = absurd (in-none x h)
in-front x (z ∷ xs) ys h = go (head-or-rest x z xs h) (in-front x xs ys)
  where
    go : (z ≡ x) ⊎ Contains xs x → (Contains xs x → Contains (xs ++ ys) x) → Contains (z ∷ xs ++ ys) x
    go (inl e) ih = at-head x z (xs ++ ys) e
    go (inr c) ih = behind x z (xs ++ ys) (ih c)

in-back : {A : Type 0} (x : A) (xs ys : List A) → Contains ys x → Contains (xs ++ ys) x
in-back x [] ys h = h
in-back x (z ∷ xs) ys h = behind x z (xs ++ ys) (in-back x xs ys h)

-- an element of a mapped list is that of an element
from-mapped : {A B : Type 0} (f : A → B) (y : B) (xs : List A) → Contains (map f xs) y → (x : A) × Contains xs x × (f x ≡ y)
from-mapped f y [] h = absurd (in-none y h)
from-mapped f y (z ∷ xs) h = go (head-or-rest y (f z) (map f xs) h) (from-mapped f y xs)
  where
    go : (f z ≡ y) ⊎ Contains (map f xs) y → (Contains (map f xs) y → (x : _) × Contains xs x × (f x ≡ y)) → (x : _) × Contains (z ∷ xs) x × (f x ≡ y)
    go (inl e) ih = (z, at-head z z xs refl, e)
    go (inr c) ih = let i = ih c in (i.0, behind i.0 z xs i.1, i.2)

to-mapped : {A B : Type 0} (f : A → B) (x : A) (xs : List A) → Contains xs x → Contains (map f xs) (f x)
to-mapped f x [] h = absurd (in-none x h)
to-mapped f x (z ∷ xs) h = go (head-or-rest x z xs h) (to-mapped f x xs)
  where
    go : (z ≡ x) ⊎ Contains xs x → (Contains xs x → Contains (map f xs) (f x)) → Contains (f z ∷ map f xs) (f x)
    go (inl e) ih = at-head (f x) (f z) (map f xs) (ap f e)
    go (inr c) ih = behind (f x) (f z) (map f xs) (ih c)

-- ---- prefixes

abbrev Begins : List (List ℕ) → List (List ℕ) → Type 0
Begins xs ys = (rest : List (List ℕ)) × (ys ≡ xs ++ rest)

prefix-decides : (xs ys : List (List ℕ)) → Decides (is_prefix_tag xs ys) (Begins xs ys)
prefix-decides [] ys = (λ e. (ys, refl), λ h. refl)
prefix-decides (x ∷ xs) [] = (λ e. absurd (true≢false (sym e)), λ h. absurd (nothing-is x (xs ++ h.0) h.1))
  where
    nothing-is : (z : List ℕ) (zs : List (List ℕ)) → ◌≡◌ {A = List (List ℕ)} [] (z ∷ zs) → ⊥
    nothing-is z zs e = grind arith
prefix-decides (x ∷ xs) (y ∷ ys) =
    Decides-like (bytes_eq x y && is_prefix_tag xs ys) there back (Decides-and (bytes_eq x y) (is_prefix_tag xs ys) (bytes_eq-Decides x y) (prefix-decides xs ys))
  where
    there : (x ≡ y) × Begins xs ys → Begins (x ∷ xs) (y ∷ ys)
    there h = (h.1.0, ap (λ z. z ∷ ys) (sym h.0) ∙ ap (λ zs. x ∷ zs) h.1.1)

    heads : (zs : List (List ℕ)) → y ∷ ys ≡ x ∷ zs → x ≡ y
    heads zs e = cc

    tails : (zs : List (List ℕ)) → y ∷ ys ≡ x ∷ zs → ys ≡ zs
    tails zs e = cc

    back : Begins (x ∷ xs) (y ∷ ys) → (x ≡ y) × Begins xs ys
    back h = (heads (xs ++ h.0) h.1, (h.0, tails (xs ++ h.0) h.1))

-- ---- one action

not-decides : (b : Bool) → Decides (not b) (b ≡ false)
not-decides true = (λ e. absurd (true≢false (sym e)), λ e. absurd (true≢false e))
not-decides false = (λ e. refl, λ e. refl)

tagged-decides : (tag : List (List ℕ)) → Decides (not (is_empty tag)) (tag ≢ [])
tagged-decides [] = (λ e. absurd (true≢false (sym e)), λ h. absurd (h refl))
tagged-decides (x ∷ xs) = (λ e f. grind arith, λ h. refl)

meant-decides : (tag : List (List ℕ)) (act : Action) → Decides (may_be_meant act && is_prefix_tag tag act.tag) (IsMeantBy tag act)
meant-decides tag act =
    Decides-like (may_be_meant act && is_prefix_tag tag act.tag)
    (λ h. record { later = h.0.0; tagged = h.0.1; rest = h.1.0; begins = h.1.1 })
    (λ m. ((m.later, m.tagged), (m.rest, m.begins)))
    (Decides-and (may_be_meant act) (is_prefix_tag tag act.tag)
    (Decides-and (not act.initialize) (not (is_empty act.tag)) (not-decides act.initialize) (tagged-decides act.tag))
    (prefix-decides tag act.tag))

-- ---- all actions

abbrev MeantAt : ℕ → List (List ℕ) → List Action → ℕ → Type 0
MeantAt k tag acts a = (j : ℕ) × (a ≡ k + j) × IsMeant tag (slice_get acts j)

one-further : (k a : ℕ) (tag : List (List ℕ)) (act : Action) (acts : List Action) → MeantAt (suc k) tag acts a → MeantAt k tag (act ∷ acts) a
one-further k a tag act acts (j, e, m) = (suc j, omega arith, m)

abbrev placed : ℕ → Bool → List ℕ → List ℕ
placed k b ks = if b then k ∷ ks else ks

from-meant : (k a : ℕ) (tag : List (List ℕ)) (acts : List Action) → Contains (stands_from k tag acts) a → MeantAt k tag acts a
from-meant k a tag [] h = absurd (in-none a h)
from-meant k a tag (act ∷ acts) h =
    go (may_be_meant act && is_prefix_tag tag act.tag) (meant-decides tag act) h (from-meant (suc k) a tag acts)
  where
    here : IsMeantBy tag act → (k ≡ a) ⊎ Contains (stands_from (suc k) tag acts) a → (Contains (stands_from (suc k) tag acts) a → MeantAt (suc k) tag acts a) → MeantAt k tag (act ∷ acts) a
    here m (inl e) ih = (0, omega arith, m)
    here m (inr c) ih = one-further k a tag act acts (ih c)

    go : (b : Bool) → Decides b (IsMeantBy tag act) → Contains (placed k b (stands_from (suc k) tag acts)) a
        → (Contains (stands_from (suc k) tag acts) a → MeantAt (suc k) tag acts a) → MeantAt k tag (act ∷ acts) a
    go true d c ih = here (d.0 refl) (head-or-rest a k (stands_from (suc k) tag acts) c) ih
    go false d c ih = one-further k a tag act acts (ih c)

meant-from : (k j : ℕ) (tag : List (List ℕ)) (acts : List Action) → IsMeant tag (slice_get acts j) → Contains (stands_from k tag acts) (k + j)
meant-from k j tag [] m = absurd m
meant-from k zero tag (act ∷ acts) m = go (may_be_meant act && is_prefix_tag tag act.tag) ((meant-decides tag act).1 m)
  where
    go : (b : Bool) → b ≡ true → Contains (placed k b (stands_from (suc k) tag acts)) (k + 0)
    go true e = let same : k ≡ k + 0 = omega arith in at-head (k + 0) k (stands_from (suc k) tag acts) same
    go false e = absurd (true≢false (sym e))
meant-from k (suc j) tag (act ∷ acts) m = go (may_be_meant act && is_prefix_tag tag act.tag) (meant-from (suc k) j tag acts m)
  where
    same : suc k + j ≡ k + suc j
    same = omega arith

    go : (b : Bool) → Contains (stands_from (suc k) tag acts) (suc k + j) → Contains (placed k b (stands_from (suc k) tag acts)) (k + suc j)
    go true c = behind (k + suc j) k (stands_from (suc k) tag acts) (subst (λ n. Contains (stands_from (suc k) tag acts) n) same c)
    go false c = subst (λ n. Contains (stands_from (suc k) tag acts) n) same c

pub tags-stand-for : (actor : Actor) (tag : List (List ℕ)) (a : ℕ) → Contains (stands_for tag actor) a ↔ IsMeant tag (slice_get actor.actions a)
tags-stand-for actor tag a = (λ h. there (from-meant 0 a tag actor.actions h), λ m. back (meant-from 0 a tag actor.actions m))
  where
    back : Contains (stands_from 0 tag actor.actions) (0 + a) → Contains (stands_from 0 tag actor.actions) a
    back c = let same : 0 + a ≡ a = omega arith in subst (λ n. Contains (stands_from 0 tag actor.actions) n) same c

    there : MeantAt 0 tag actor.actions a → IsMeant tag (slice_get actor.actions a)
    there (j, e, m) = let same : j ≡ a = omega arith in subst (λ n. IsMeant tag (slice_get actor.actions n)) same m

-- ---- transitions

abbrev MovesBy : Actor → ℕ → ℕ → Move → List (List (List ℕ)) → Type 0
MovesBy actor from to m tags = (m.from ≡ from) × (m.to ≡ to) × ((tag : List (List ℕ)) × Contains tags tag × Contains (stands_for tag actor) m.action)

abbrev moved : ℕ → ℕ → ℕ → Move
moved from to a = record { from = from; action = a; to = to }

by-first : (actor : Actor) (from to : ℕ) (tag : List (List ℕ)) (tags : List (List (List ℕ))) (m : Move) (a : ℕ) → Contains (stands_for tag actor) a → moved from to a ≡ m → MovesBy actor from to m (tag ∷ tags)
by-first actor from to tag tags m a c e =
    (sym (ap (λ x. x.from) e), sym (ap (λ x. x.to) e), (tag, at-head tag tag tags refl, subst (λ n. Contains (stands_for tag actor) n) (ap (λ x. x.action) e) c))

by-later : (actor : Actor) (from to : ℕ) (tag : List (List ℕ)) (tags : List (List (List ℕ))) (m : Move) → MovesBy actor from to m tags → MovesBy actor from to m (tag ∷ tags)
by-later actor from to tag tags m (f, g, (t, c, d)) = (f, g, (t, behind t tag tags c, d))

moves-meant : (actor : Actor) (from to : ℕ) (tags : List (List (List ℕ))) (m : Move) → Contains (moves_by_tags actor from tags to) m → MovesBy actor from to m tags
moves-meant actor from to [] m h = absurd (in-none m h)
moves-meant actor from to (tag ∷ tags) m h =
    go (in-either m (moves_by from (stands_for tag actor) to) (moves_by_tags actor from tags to) h) (moves-meant actor from to tags m)
  where
    go : Contains (moves_by from (stands_for tag actor) to) m ⊎ Contains (moves_by_tags actor from tags to) m
        → (Contains (moves_by_tags actor from tags to) m → MovesBy actor from to m tags) → MovesBy actor from to m (tag ∷ tags)
    go (inl c) ih = let f = from-mapped (moved from to) m (stands_for tag actor) c in by-first actor from to tag tags m f.0 f.1 f.2
    go (inr c) ih = by-later actor from to tag tags m (ih c)

-- the move by an action that a tag among these stands for
among-moves : (actor : Actor) (from to : ℕ) (tags : List (List (List ℕ))) (tag : List (List ℕ)) (a : ℕ)
    → Contains tags tag → Contains (stands_for tag actor) a → Contains (moves_by_tags actor from tags to) (moved from to a)
among-moves actor from to [] tag a h c = absurd (in-none tag h)
among-moves actor from to (first ∷ tags) tag a h c = go (head-or-rest tag first tags h) (λ k. among-moves actor from to tags tag a k c)
  where
    go : (first ≡ tag) ⊎ Contains tags tag → (Contains tags tag → Contains (moves_by_tags actor from tags to) (moved from to a))
        → Contains (moves_by from (stands_for first actor) to ++ moves_by_tags actor from tags to) (moved from to a)
    go (inl e) ih =
        in-front (moved from to a) (moves_by from (stands_for first actor) to) (moves_by_tags actor from tags to)
        (to-mapped (moved from to) a (stands_for first actor) (subst (λ t. Contains (stands_for t actor) a) (sym e) c))
    go (inr k) ih = in-back (moved from to a) (moves_by from (stands_for first actor) to) (moves_by_tags actor from tags to) (ih k)

moved-is : (m : Move) (from to : ℕ) → m.from ≡ from → m.to ≡ to → moved from to m.action ≡ m
moved-is m from to e f = ap (λ n. moved n to m.action) (sym e) ∙ ap (λ n. moved m.from n m.action) (sym f)

pub transitions-lead : (actor : Actor) (t : Transition) (m : Move) → Contains (moves_of actor t) m ↔ IsMoveOf actor t m
transitions-lead actor t m = (λ h. there (moves-meant actor from to t.tags m h), back)
  where
    from : ℕ
    from = number_of_name t.from actor.states

    to : ℕ
    to = number_of_name t.to actor.states

    there : MovesBy actor from to m t.tags → IsMoveOf actor t m
    there (f, g, (tag, c, d)) = record { from = f; to = g; tag = tag; named = c; by = d }

    back : IsMoveOf actor t m → Contains (moves_of actor t) m
    back i = subst (λ n. Contains (moves_of actor t) n) (moved-is m from to i.from i.to) (among-moves actor from to t.tags i.tag m.action i.named i.by)

-- ---- chains

abbrev paired : ℕ → ℕ → ℕ × ℕ
paired a b = (a, b)

above-each : (higher lower : List ℕ) (a b : ℕ) → Contains (each_above higher lower) (paired a b) → Contains higher a × Contains lower b
above-each [] lower a b h = absurd (in-none (paired a b) h)
above-each (x ∷ higher) lower a b h = go (in-either (paired a b) (map (paired x) lower) (each_above higher lower) h) (above-each higher lower a b)
  where
    first : (y : ℕ) → Contains lower y → paired x y ≡ paired a b → Contains (x ∷ higher) a × Contains lower b
    first y c e = (at-head a x higher (ap (λ p. p.0) e), subst (λ n. Contains lower n) (ap (λ p. p.1) e) c)

    later : Contains higher a × Contains lower b → Contains (x ∷ higher) a × Contains lower b
    later h = (behind a x higher h.0, h.1)

    go : Contains (map (paired x) lower) (paired a b) ⊎ Contains (each_above higher lower) (paired a b)
        → (Contains (each_above higher lower) (paired a b) → Contains higher a × Contains lower b) → Contains (x ∷ higher) a × Contains lower b
    go (inl c) ih = let f = from-mapped (paired x) (paired a b) lower c in first f.0 f.1 f.2
    go (inr c) ih = later (ih c)

each-above : (higher lower : List ℕ) (a b : ℕ) → Contains higher a → Contains lower b → Contains (each_above higher lower) (paired a b)
each-above [] lower a b h c = absurd (in-none a h)
each-above (x ∷ higher) lower a b h c = go (head-or-rest a x higher h) (λ k. each-above higher lower a b k c)
  where
    go : (x ≡ a) ⊎ Contains higher a → (Contains higher a → Contains (each_above higher lower) (paired a b)) → Contains (map (paired x) lower ++ each_above higher lower) (paired a b)
    go (inl e) ih = in-front (paired a b) (map (paired x) lower) (each_above higher lower)
        (subst (λ n. Contains (map (paired x) lower) (paired n b)) e (to-mapped (paired x) b lower c))
    go (inr k) ih = in-back (paired a b) (map (paired x) lower) (each_above higher lower) (ih k)

some-is : (x y : List (List ℕ)) → Some x ≡ Some y → x ≡ y
some-is x y e = cc

none-is : (x : List (List ℕ)) → None ≡ Some x → ⊥
none-is x e = grind arith

pairs-meant : (actor : Actor) (tags : List (List (List ℕ))) (a b : ℕ) → Contains (pairs_of actor tags) (a, b) → IsPairOf actor tags a b
pairs-meant actor [] a b h = absurd (in-none (a, b) h)
pairs-meant actor (tag ∷ []) a b h = absurd (in-none (a, b) h)
pairs-meant actor (tag ∷ next ∷ tags) a b h =
    go (in-either (a, b) (each_above (stands_for tag actor) (stands_for next actor)) (pairs_of actor (next ∷ tags)) h) (pairs-meant actor (next ∷ tags) a b)
  where
    first : Contains (stands_for tag actor) a × Contains (stands_for next actor) b → IsPairOf actor (tag ∷ next ∷ tags) a b
    first c = record { at = 0; upper = tag; lower = next; is_upper = refl; is_lower = refl; above = c.0; below = c.1 }

    later : IsPairOf actor (next ∷ tags) a b → IsPairOf actor (tag ∷ next ∷ tags) a b
    later i = record { at = suc i.at; upper = i.upper; lower = i.lower; is_upper = i.is_upper; is_lower = i.is_lower; above = i.above; below = i.below }

    go : Contains (each_above (stands_for tag actor) (stands_for next actor)) (a, b) ⊎ Contains (pairs_of actor (next ∷ tags)) (a, b)
        → (Contains (pairs_of actor (next ∷ tags)) (a, b) → IsPairOf actor (next ∷ tags) a b) → IsPairOf actor (tag ∷ next ∷ tags) a b
    go (inl c) ih = first (above-each (stands_for tag actor) (stands_for next actor) a b c)
    go (inr c) ih = later (ih c)

-- what two tags in a row stand for, at a place of a chain
among-pairs : (actor : Actor) (tags : List (List (List ℕ))) (a b at : ℕ) (upper lower : List (List ℕ)) → slice_get tags at ≡ Some upper → slice_get tags (suc at) ≡ Some lower
    → Contains (stands_for upper actor) a → Contains (stands_for lower actor) b → Contains (pairs_of actor tags) (a, b)
among-pairs actor [] a b at upper lower e f c d = absurd (none-is upper e)
among-pairs actor (tag ∷ []) a b zero upper lower e f c d = absurd (none-is lower f)
among-pairs actor (tag ∷ []) a b (suc at) upper lower e f c d = absurd (none-is upper e)
among-pairs actor (tag ∷ next ∷ tags) a b zero upper lower e f c d =
    in-front (a, b) (each_above (stands_for tag actor) (stands_for next actor)) (pairs_of actor (next ∷ tags))
    (each-above (stands_for tag actor) (stands_for next actor) a b
    (subst (λ t. Contains (stands_for t actor) a) (sym (some-is tag upper e)) c)
    (subst (λ t. Contains (stands_for t actor) b) (sym (some-is next lower f)) d))
among-pairs actor (tag ∷ next ∷ tags) a b (suc at) upper lower e f c d =
    in-back (a, b) (each_above (stands_for tag actor) (stands_for next actor)) (pairs_of actor (next ∷ tags)) (among-pairs actor (next ∷ tags) a b at upper lower e f c d)

pub chains-put-above : (actor : Actor) (tags : List (List (List ℕ))) (a b : ℕ) → Contains (pairs_of actor tags) (a, b) ↔ IsPairOf actor tags a b
chains-put-above actor tags a b = (pairs-meant actor tags a b, λ i. among-pairs actor tags a b i.at i.upper i.lower i.is_upper i.is_lower i.above i.below)
