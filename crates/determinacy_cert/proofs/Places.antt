-- Names by the patterns in which they stand last.
use Rattle.std.proofs.Common.{◌≡◌, ℕ, zero, suc, ◌+◌, ◌<◌, Bool, true, false, List, [], ◌∷◌, ◌++◌, map, length, drop, get_or, refl, sym, ap, ◌∙◌, append_assoc, arith}
use Rattle.std.specs.Prelude.{Option, None, Some, option_map, if◌then◌else◌, pos, ◌-ℤ◌}
use Rattle.std.specs.Str.{bytes_eq}
use Rattle.cal_model.specs.Value.{Shape, Single, Many, Value}
use Rattle.cal_model.specs.Actor.{Pattern, Actor}
use Rattle.cal_model.specs.Selection.{kind_of_port}
use Rattle.cal_model.specs.Certified.{Interval, Ranged, item_ranged, lies_within, on_interval, on_ranged, range_of_name, ranged, ranged_names, ranged_patterns, shape_of_tokens, key_among, key_in, token_key}
use Rattle.determinacy_cert.specs.Deciding.{Named, last_place, named_in}
use Rattle.determinacy_cert.specs.Viewing.{unnamed}

-- a name is at the next place behind, or at the first one
abbrev last_by : Option ℕ → Bool → Option ℕ
last_by o b = elim o [ Some k ↦ Some (suc k) | None ↦ if b then Some 0 else None ]

-- it is in a later pattern, or in this one
abbrev named_by : Option Named → Pattern → Option ℕ → Option Named
named_by o q p = elim o [ Some found ↦ Some found | None ↦ elim p [ None ↦ None | Some k ↦ Some (record { pattern = q; place = k }) ] ]

-- ---- what is known of a name

abbrev pub token_of : Shape → Ranged
token_of t = record { name = []; shape = t; value = None }

-- a name is a token if it stands among these, else what it is otherwise
abbrev token_or : {A : Type 0} → Shape → Option A → Option Ranged → Option Ranged
token_or t None rest = rest
token_or t (Some k) rest = Some (token_of t)

names_settle : (t : Shape) (x : Ranged) (rest : Option Ranged) (o : Option ℕ) (b : Bool) → unnamed x ≡ token_of t
    → token_or t o (option_map unnamed (if b then Some x else rest))
    ≡ token_or t (last_by o b) (option_map unnamed rest)
names_settle t x rest None true h = ap (λ y. Some y) h
names_settle t x rest None false h = refl
names_settle t x rest (Some k) b h = refl

names_found : (name : List ℕ) (t : Shape) (names : List (List ℕ)) (xs : List Ranged)
    → option_map unnamed (ranged name (ranged_names t names ++ xs)) ≡ token_or t (last_place name names) (option_map unnamed (ranged name xs))
names_found name t [] xs = refl
names_found name t (other ∷ names) xs =
    let x : Ranged = record { name = other; shape = t; value = None } in
    ap (λ l. option_map unnamed (ranged name l)) (append_assoc (ranged_names t names) (x ∷ []) xs)
    ∙ names_found name t names (x ∷ xs)
    ∙ names_settle t x (ranged name xs) (last_place name names) (bytes_eq other name) refl

-- the type of a name of a pattern
abbrev pub shape_in : Actor → Pattern → Shape
shape_in actor q = shape_of_tokens (kind_of_port actor.ins q.port) q.repeat

abbrev pub named_or : Actor → Option Named → Option Ranged → Option Ranged
named_or actor None rest = rest
named_or actor (Some found) rest = Some (token_of (shape_in actor found.pattern))

patterns_settle : (actor : Actor) (q : Pattern) (o : Option Named) (p : Option ℕ) (rest : Option Ranged)
    → named_or actor o (token_or (shape_in actor q) p rest)
    ≡ named_or actor (named_by o q p) rest
patterns_settle actor q None None rest = refl
patterns_settle actor q None (Some k) rest = refl
patterns_settle actor q (Some found) p rest = refl

pub patterns_found : (actor : Actor) (name : List ℕ) (qs : List Pattern) (xs : List Ranged)
    → option_map unnamed (ranged name (ranged_patterns actor qs ++ xs)) ≡ named_or actor (named_in name qs) (option_map unnamed (ranged name xs))
patterns_found actor name [] xs = refl
patterns_found actor name (q ∷ qs) xs =
    let names = ranged_names (shape_in actor q) q.names in
    ap (λ l. option_map unnamed (ranged name l)) (append_assoc (ranged_patterns actor qs) names xs)
    ∙ patterns_found actor name qs (names ++ xs)
    ∙ ap (named_or actor (named_in name qs)) (names_found name (shape_in actor q) q.names xs)
    ∙ patterns_settle actor q (named_in name qs) (last_place name q.names) (option_map unnamed (ranged name xs))

-- ---- as code finds them

pub found_token : (actor : Actor) (name : List ℕ) (qs : List Pattern) (xs : List Ranged) (x : Named) (r : Ranged) → Some x ≡ named_in name qs → r ≡ token_of (shape_in actor x.pattern)
    → Some r ≡ option_map unnamed (ranged name (ranged_patterns actor qs ++ xs))
found_token actor name qs xs x r h e =
    ap (λ w. Some w) e ∙ ap (λ o. named_or actor o (option_map unnamed (ranged name xs))) h ∙ sym (patterns_found actor name qs xs)

pub found_else : (actor : Actor) (name : List ℕ) (qs : List Pattern) (xs : List Ranged) (o : Option Ranged) → None ≡ named_in name qs → o ≡ option_map unnamed (ranged name xs)
    → o ≡ option_map unnamed (ranged name (ranged_patterns actor qs ++ xs))
found_else actor name qs xs o h e =
    e ∙ ap (λ p. named_or actor p (option_map unnamed (ranged name xs))) h ∙ sym (patterns_found actor name qs xs)

pub token_is : (t : Shape) (shape : Shape) (v : Option Value) → shape ≡ t → v ≡ None → record { name = []; shape = shape; value = v } ≡ token_of t
token_is t shape v e f = rw (e, f) refl

-- ---- the tokens that a name stands for

abbrev pub key_at : Named → List ℕ
key_at x = token_key x.pattern.port x.pattern.repeat (length x.pattern.names) x.place

abbrev key_from : Pattern → ℕ → Option ℕ → Option (List ℕ)
key_from q k None = None
key_from q k (Some j) = Some (token_key q.port q.repeat (length q.names) (k + j))

abbrev key_by : Option (List ℕ) → Option (List ℕ) → Option (List ℕ)
key_by o w = elim o [ Some key ↦ Some key | None ↦ w ]

among_settle : (q : Pattern) (k : ℕ) (o : Option ℕ) (b : Bool)
    → key_by (key_from q (suc k) o) (if b then Some (token_key q.port q.repeat (length q.names) k) else None)
    ≡ key_from q k (last_by o b)
among_settle q k None true = let e : k ≡ k + 0 = omega arith in ap (λ j. Some (token_key q.port q.repeat (length q.names) j)) e
among_settle q k None false = refl
among_settle q k (Some j) b = let e : suc k + j ≡ k + suc j = omega arith in ap (λ i. Some (token_key q.port q.repeat (length q.names) i)) e

among_found : (name : List ℕ) (q : Pattern) (k : ℕ) (names : List (List ℕ)) → key_among name q k names ≡ key_from q k (last_place name names)
among_found name q k [] = refl
among_found name q k (other ∷ names) =
    ap (λ o. key_by o (if bytes_eq other name then Some (token_key q.port q.repeat (length q.names) k) else None)) (among_found name q (suc k) names)
    ∙ among_settle q k (last_place name names) (bytes_eq other name)

key_settle : (q : Pattern) (o : Option Named) (p : Option ℕ)
    → key_by (option_map key_at o) (key_from q 0 p)
    ≡ option_map key_at (named_by o q p)
key_settle q None None = refl
key_settle q None (Some k) = let same : 0 + k ≡ k = omega arith in ap (λ j. Some (token_key q.port q.repeat (length q.names) j)) same
key_settle q (Some found) p = refl

pub key_found : (name : List ℕ) (qs : List Pattern) → key_in name qs ≡ option_map key_at (named_in name qs)
key_found name [] = refl
key_found name (q ∷ qs) =
    ap (λ o. key_by o (key_among name q 0 q.names)) (key_found name qs)
    ∙ ap (key_by (option_map key_at (named_in name qs))) (among_found name q 0 q.names)
    ∙ key_settle q (named_in name qs) (last_place name q.names)

-- ---- loops from the last on

last_with : (o : Option ℕ) (b : Bool) → o ≡ None → b ≡ true → last_by o b ≡ Some 0
last_with None true p q = refl
last_with None false p q = cc
last_with (Some k) b p q = cc

last_after : (o : Option ℕ) (b : Bool) (i : ℕ) → o ≡ Some i → last_by o b ≡ Some (suc i)
last_after None b i p = cc
last_after (Some k) b i p = let e : k ≡ i = cc in ap (λ j. Some (suc j)) e

last_without : (o : Option ℕ) (b : Bool) → o ≡ None → b ≡ false → last_by o b ≡ None
last_without None true p q = cc
last_without None false p q = refl
last_without (Some k) b p q = cc

module _ {A : Type 0} (view : A → List ℕ) (name : List ℕ) where
  -- it stands at this place, and behind it no more
  pub last_here : (xs : List A) (i : ℕ) (x : A) → i < length xs → bytes_eq (view (get_or xs i x)) name ≡ true → last_place name (map view (drop (suc i) xs)) ≡ None → last_place name (map view xs) ≡ Some i
  last_here [] i x h b e = absurd (omega arith)
  last_here (y ∷ xs) zero x h b e = last_with (last_place name (map view xs)) (bytes_eq (view y) name) e b
  last_here (y ∷ xs) (suc i) x h b e = last_after (last_place name (map view xs)) (bytes_eq (view y) name) i (last_here xs i x (omega arith) b e)

  -- it doesn't stand at this place, and behind it no more
  pub not_here : (xs : List A) (i : ℕ) (x : A) → i < length xs → bytes_eq (view (get_or xs i x)) name ≡ false → last_place name (map view (drop (suc i) xs)) ≡ None → last_place name (map view (drop i xs)) ≡ None
  not_here [] i x h b e = absurd (omega arith)
  not_here (y ∷ xs) zero x h b e = last_without (last_place name (map view xs)) (bytes_eq (view y) name) e b
  not_here (y ∷ xs) (suc i) x h b e = not_here xs i x (omega arith) b e

abbrev pub named_at : Pattern → ℕ → Option Named
named_at q k = Some (record { pattern = q; place = k })

named_with : (o : Option Named) (q : Pattern) (p : Option ℕ) (k : ℕ) → o ≡ None → p ≡ Some k
    → named_by o q p ≡ Some (record { pattern = q; place = k })
named_with None q None k e h = cc
named_with None q (Some j) k e h = let s : j ≡ k = cc in ap (λ i. Some (record { pattern = q; place = i })) s
named_with (Some found) q p k e h = cc

abbrev later_or : Option Named → Option Named → Option Named
later_or o r = elim o [ Some found ↦ Some found | None ↦ r ]

named_after : (o : Option Named) (x : Named) (r : Option Named) → o ≡ Some x → later_or o r ≡ Some x
named_after None x r e = cc
named_after (Some found) x r e = e

named_without : (o : Option Named) (q : Pattern) (p : Option ℕ) → o ≡ None → p ≡ None
    → named_by o q p ≡ None
named_without None q None e h = refl
named_without None q (Some j) e h = cc
named_without (Some found) q p e h = cc

module _ {A : Type 0} (view : A → Pattern) (name : List ℕ) where
  pub named_here : (xs : List A) (i : ℕ) (x : A) (k : ℕ) → i < length xs → last_place name (view (get_or xs i x)).names ≡ Some k → named_in name (map view (drop (suc i) xs)) ≡ None
      → named_in name (map view xs) ≡ Some (record { pattern = view (get_or xs i x); place = k })
  named_here [] i x k h b e = absurd (omega arith)
  named_here (y ∷ xs) zero x k h b e = named_with (named_in name (map view xs)) (view y) (last_place name (view y).names) k e b
  named_here (y ∷ xs) (suc i) x k h b e = named_after (named_in name (map view xs)) _ _ (named_here xs i x k (omega arith) b e)

  pub not_in : (xs : List A) (i : ℕ) (x : A) → i < length xs → last_place name (view (get_or xs i x)).names ≡ None → named_in name (map view (drop (suc i) xs)) ≡ None
      → named_in name (map view (drop i xs)) ≡ None
  not_in [] i x h b e = absurd (omega arith)
  not_in (y ∷ xs) zero x h b e = named_without (named_in name (map view xs)) (view y) (last_place name (view y).names) e b
  not_in (y ∷ xs) (suc i) x h b e = not_in xs i x (omega arith) b e

-- ---- what stands in a list, whatever its name

abbrev some_item : Bool → Ranged → Option Ranged
some_item b x = if b then Some x else None

abbrev item_by : Interval → Ranged → Shape → Option Ranged
item_by i x (Single u) = None
item_by i x (Many n items) = some_item (lies_within i (pos 0) (pos n -ℤ pos 1)) (record x { shape = items })

item_settle : (i : Interval) (x : Ranged) (t : Shape) → item_by i (unnamed x) t ≡ option_map unnamed (item_by i x t)
item_settle i x (Single u) = refl
item_settle i x (Many n items) = go (lies_within i (pos 0) (pos n -ℤ pos 1))
  where
    go : (b : Bool) → some_item b (record (unnamed x) { shape = items }) ≡ option_map unnamed (some_item b (record x { shape = items }))
    go true = refl
    go false = refl

item_named : (i : Interval) (x : Ranged) → item_ranged i (unnamed x) ≡ option_map unnamed (item_ranged i x)
item_named i x = item_settle i x x.shape

pub item_found : (o : Option Ranged) (p : Option Interval)
    → on_ranged (option_map unnamed o) (λ x. on_interval p (λ i. item_ranged i x)) ≡ option_map unnamed (on_ranged o (λ x. on_interval p (λ i. item_ranged i x)))
item_found None p = refl
item_found (Some x) None = refl
item_found (Some x) (Some i) = item_named i x

numbers_named : (o : Option Ranged) → on_ranged (option_map unnamed o) (λ y. range_of_name y) ≡ on_ranged o (λ y. range_of_name y)
numbers_named None = refl
numbers_named (Some y) = refl

pub numbers_found : (o : Option Ranged) (p : Option Interval)
    → on_ranged (option_map unnamed o) (λ x. on_interval p (λ i. on_ranged (item_ranged i x) (λ y. range_of_name y)))
    ≡ on_ranged o (λ x. on_interval p (λ i. on_ranged (item_ranged i x) (λ y. range_of_name y)))
numbers_found None p = refl
numbers_found (Some x) None = refl
numbers_found (Some x) (Some i) = ap (λ o. on_ranged o (λ y. range_of_name y)) (item_named i x) ∙ numbers_named (item_ranged i x)
