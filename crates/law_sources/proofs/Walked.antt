-- A walk leaves each node once.
use Rattle.std.proofs.Common.{◌≡◌, ℕ, zero, suc, ◌+◌, ◌≤◌, Bool, true, false, ◌||◌, List, [], ◌∷◌, ◌++◌, refl, ap, subst, ◌∙◌, arith}
use Rattle.std.proofs.lemmas.Slice.Eq.{bytes_eq-Decides}
use Rattle.std.specs.Prelude.{Option, None, Some, if◌then◌else◌}
use Rattle.std.specs.Str.{bytes_eq}
use Rattle.cal_scope.specs.Names.{is_among, with_name}
use Rattle.cal_imports.specs.Answer.{Answer, Gives, Refuses}
use Rattle.cal_imports.specs.Walk.{Edge, Graph, Node, Open, Step, Goes, Ends, Stops, Walk, begun, entered_from, followed, left_inside, node_named, order_from, past, step, step_at, step_in, steps_left, walk, walk_on, with_open}
use Rattle.law_sources.proofs.Counts.{AreSingle, count, count-append, one}

-- ---- names with one more

not_among : (x : List ℕ) (xs : List (List ℕ)) → is_among x xs ≡ false → count x xs ≡ 0
not_among x [] h = refl
not_among x (y ∷ ys) h = go (bytes_eq x y) h (not_among x ys)
  where
    go : (b : Bool) → (b || is_among x ys) ≡ false → (is_among x ys ≡ false → count x ys ≡ 0) → one b + count x ys ≡ 0
    go true i rest = absurd cc
    go false i rest = let r = rest i in omega arith

one_more : (x : List ℕ) (xs : List (List ℕ)) → count x xs ≡ 0 → AreSingle xs → AreSingle (xs ++ x ∷ [])
one_more x xs none h y =
    let parts = count-append y xs (x ∷ []) in
    go (bytes_eq y x) (bytes_eq-Decides y x).0 parts (h y)
  where
    go : (b : Bool) → (b ≡ true → y ≡ x) → count y (xs ++ x ∷ []) ≡ count y xs + (one b + 0) → count y xs ≤ 1 → count y (xs ++ x ∷ []) ≤ 1
    go true same parts few = let gone : count y xs ≡ 0 = ap (λ z. count z xs) (same refl) ∙ none in omega arith
    go false same parts few = omega arith

pub single_with : (x : List ℕ) (xs : List (List ℕ)) → AreSingle xs → AreSingle (with_name x xs)
single_with x xs h = go (is_among x xs) refl
  where
    go : (b : Bool) → is_among x xs ≡ b → AreSingle (if b then xs else xs ++ x ∷ [])
    go true e = h
    go false e = one_more x xs (not_among x xs e) h

-- ---- steps

abbrev IsSingleStep : Step → Type 0
IsSingleStep (Goes w) = AreSingle w.left
IsSingleStep (Ends left) = AreSingle left
IsSingleStep (Stops rule file at) = Unit {0}

entered_single : (g : Graph) (o : Open) (e : Edge) (es : List Edge) (w : Walk) (n : Option Node) → AreSingle w.left → IsSingleStep (entered_from n g o e es w)
entered_single g o e es w None h = tt
entered_single g o e es w (Some n) h = h

followed_single : (g : Graph) (o : Open) (e : Edge) (es : List Edge) (w : Walk) → AreSingle w.left → IsSingleStep (followed g o e es w)
followed_single g o e es w h = go (is_among e.to w.left) (is_among e.to w.entered)
  where
    go : (a b : Bool) → IsSingleStep (if a then Goes (with_open (past o es ∷ w.open_nodes) w) else if b then Stops g.circle o.file e.at else entered_from (node_named e.to g.nodes) g o e es w)
    go true b = h
    go false true = tt
    go false false = entered_single g o e es w (node_named e.to g.nodes) h

left_single : (os : List Open) (name : List ℕ) (w : Walk) → AreSingle w.left → IsSingleStep (left_inside os name w)
left_single [] name w h = h
left_single (o ∷ os) name w h = single_with name w.left h

at_single : (g : Graph) (o : Open) (rest : List Edge) (w : Walk) → AreSingle w.left → IsSingleStep (step_at g o rest w)
at_single g o [] w h = left_single w.open_nodes o.name w h
at_single g o (e ∷ es) w h = followed_single g o e es w h

in_single : (g : Graph) (os : List Open) (w : Walk) → AreSingle w.left → IsSingleStep (step_in os g w)
in_single g [] w h = h
in_single g (o ∷ os) w h = at_single g o o.rest (with_open os w) h

-- ---- walks

abbrev IsSingleAnswer : Answer (List (List ℕ)) → Type 0
IsSingleAnswer (Gives order) = AreSingle order
IsSingleAnswer (Refuses rule file at) = Unit {0}

walk_single : (n : ℕ) (g : Graph) (w : Walk) → AreSingle w.left → IsSingleAnswer (walk n g w)
walk_single zero g w h = tt
walk_single (suc n) g w h = on (step g w) (in_single g w.open_nodes w h) (λ t f. walk_single n g t f)
  where
    on : (s : Step) → IsSingleStep s → ((t : Walk) → AreSingle t.left → IsSingleAnswer (walk n g t)) → IsSingleAnswer (walk_on (walk n g) s)
    on (Goes t) f again = again t f
    on (Ends left) f again = f
    on (Stops rule file at) f again = tt

pub order_is_single : (g : Graph) (o : Open) (order : List (List ℕ)) → order_from g o ≡ Gives order → AreSingle order
order_is_single g o order h = subst IsSingleAnswer h (walk_single (suc (steps_left g (begun o))) g (begun o) (λ x. omega arith))
