-- A walk has an end: each step leaves fewer. So a walk is what its next step comes to.
use Rattle.std.proofs.Common.{◌≡◌, ℕ, zero, suc, ◌+◌, ◌≤◌, ◌<◌, Bool, true, false, ◌||◌, List, [], ◌∷◌, ◌++◌, length, refl, sym, ap, subst, ◌∙◌, arith}
use Rattle.std.proofs.lemmas.Slice.Eq.{bytes_eq-Decides}
use Rattle.std.specs.Prelude.{Option, None, Some, if◌then◌else◌}
use Rattle.std.specs.Str.{bytes_eq}
use Rattle.rvc_base.specs.declared.refusal.Rule.{Rule}
use Rattle.cal_scope.specs.Names.{is_among, with_name}
use Rattle.cal_imports.specs.Answer.{Gives, Refuses}
use Rattle.cal_imports.specs.Walk.{Edge, Graph, Node, Open, Step, Goes, Ends, Stops, Walk, entered_from, node_named, past, step, step_at, step_in, steps_left, steps_of_nodes, steps_of_open, walk, walk_on, walked, with_open}

-- ---- names that were entered

pub among_before : (x : List ℕ) (xs ys : List (List ℕ)) → is_among x xs ≡ true → is_among x (xs ++ ys) ≡ true
among_before x [] ys h = cc
among_before x (y ∷ xs) ys h = go (bytes_eq x y) h (among_before x xs ys)
  where
    go : (b : Bool) → (b || is_among x xs) ≡ true → (is_among x xs ≡ true → is_among x (xs ++ ys) ≡ true) → (b || is_among x (xs ++ ys)) ≡ true
    go true h rest = refl
    go false h rest = rest h

pub among_last : (x : List ℕ) (xs : List (List ℕ)) → is_among x (xs ++ x ∷ []) ≡ true
among_last x [] = ap (λ b. b || false) ((bytes_eq-Decides x x).1 refl)
among_last x (y ∷ xs) = go (bytes_eq x y) (among_last x xs)
  where
    go : (b : Bool) → is_among x (xs ++ x ∷ []) ≡ true → (b || is_among x (xs ++ x ∷ [])) ≡ true
    go true rest = refl
    go false rest = rest

new_name : (x : List ℕ) (xs : List (List ℕ)) → is_among x xs ≡ false → with_name x xs ≡ xs ++ x ∷ []
new_name x xs h = ap (λ b. if b then xs else xs ++ x ∷ []) h

-- ---- steps of nodes that weren't entered

abbrev cost : Bool → ℕ → ℕ
cost b n = if b then 0 else n

cost_falls : (a b : Bool) (n : ℕ) → (a ≡ true → b ≡ true) → cost b n ≤ cost a n
cost_falls true true n h = omega arith
cost_falls true false n h = absurd (let e = h refl in cc)
cost_falls false true n h = omega arith
cost_falls false false n h = omega arith

fewer : (ns : List Node) (xs ys : List (List ℕ)) → steps_of_nodes ns (xs ++ ys) ≤ steps_of_nodes ns xs
fewer [] xs ys = omega arith
fewer (n ∷ ns) xs ys =
    let here : cost (is_among n.name (xs ++ ys)) (1 + length n.edges) ≤ cost (is_among n.name xs) (1 + length n.edges) = cost_falls (is_among n.name xs) (is_among n.name (xs ++ ys)) (1 + length n.edges) (among_before n.name xs ys) in
    let rest = fewer ns xs ys in
    omega arith

abbrev pub or_node : Node → Option Node → Node
or_node n None = n
or_node n (Some m) = m

-- a node that is entered takes its steps from those that are left
pub entered_fewer : (name : List ℕ) (ns : List Node) (xs : List (List ℕ)) (n : Node) → node_named name ns ≡ Some n → is_among name xs ≡ false
    → steps_of_nodes ns (xs ++ name ∷ []) + (1 + length n.edges) ≤ steps_of_nodes ns xs
entered_fewer name [] xs n h away = cc
entered_fewer name (x ∷ ns) xs n h away = go (bytes_eq name x.name) (λ e. (bytes_eq-Decides name x.name).0 e) (λ k. entered_fewer name ns xs n k away) h
  where
    go : (b : Bool) → (b ≡ true → name ≡ x.name)
        → (node_named name ns ≡ Some n → steps_of_nodes ns (xs ++ name ∷ []) + (1 + length n.edges) ≤ steps_of_nodes ns xs)
        → (if b then Some x else node_named name ns) ≡ Some n
        → steps_of_nodes (x ∷ ns) (xs ++ name ∷ []) + (1 + length n.edges) ≤ steps_of_nodes (x ∷ ns) xs
    go true same behind h =
        let node : length x.edges ≡ length n.edges = ap (λ o. length (or_node x o).edges) h in
        let now : cost (is_among x.name (xs ++ name ∷ [])) (1 + length x.edges) ≡ 0 = ap (λ b. cost b (1 + length x.edges)) (ap (λ m. is_among m (xs ++ name ∷ [])) (sym (same refl)) ∙ among_last name xs) in
        let before : cost (is_among x.name xs) (1 + length x.edges) ≡ 1 + length x.edges = ap (λ b. cost b (1 + length x.edges)) (ap (λ m. is_among m xs) (sym (same refl)) ∙ away) in
        let rest = fewer ns xs (name ∷ []) in
        omega arith
    go false same behind h =
        let here : cost (is_among x.name (xs ++ name ∷ [])) (1 + length x.edges) ≤ cost (is_among x.name xs) (1 + length x.edges) = cost_falls (is_among x.name xs) (is_among x.name (xs ++ name ∷ [])) (1 + length x.edges) (among_before x.name xs (name ∷ [])) in
        let rest = behind h in
        omega arith

-- ---- steps

-- after a step fewer than so many are left
abbrev pub Fits : Graph → ℕ → Step → Type 0
Fits g n (Goes t) = steps_left g t < n
Fits g n other = Unit {0}

followed_fits : (g : Graph) (o : Open) (e : Edge) (es : List Edge) (os : List Open) (w : Walk) (a b : Bool) (n : Option Node)
    → is_among e.to w.entered ≡ b → node_named e.to g.nodes ≡ n
    → Fits g (((1 + suc (length es)) + steps_of_open os) + steps_of_nodes g.nodes w.entered)
    (if a then Goes (with_open (past o es ∷ os) w) else if b then Stops g.circle o.file e.at else entered_from n g o e es (with_open os w))
followed_fits g o e es os w true b n away found = omega arith
followed_fits g o e es os w false true n away found = tt
followed_fits g o e es os w false false None away found = tt
followed_fits g o e es os w false false (Some n) away found =
    let fall : steps_of_nodes g.nodes (with_name e.to w.entered) + (1 + length n.edges) ≤ steps_of_nodes g.nodes w.entered =
    subst (λ xs. steps_of_nodes g.nodes xs + (1 + length n.edges) ≤ steps_of_nodes g.nodes w.entered) (sym (new_name e.to w.entered away)) (entered_fewer e.to g.nodes w.entered n found away) in
    omega arith

at_fits : (g : Graph) (o : Open) (rest : List Edge) (os : List Open) (w : Walk)
    → Fits g (((1 + length rest) + steps_of_open os) + steps_of_nodes g.nodes w.entered) (step_at g o rest (with_open os w))
at_fits g o [] [] w = tt
at_fits g o [] (p ∷ os) w = omega arith
at_fits g o (e ∷ es) os w = followed_fits g o e es os w (is_among e.to w.left) (is_among e.to w.entered) (node_named e.to g.nodes) refl refl

in_fits : (os : List Open) (g : Graph) (w : Walk) → Fits g (steps_of_open os + steps_of_nodes g.nodes w.entered) (step_in os g w)
in_fits [] g w = tt
in_fits (o ∷ os) g w = at_fits g o o.rest os w

pub step_fits : (g : Graph) (w : Walk) → Fits g (steps_left g w) (step g w)
step_fits g w = in_fits w.open_nodes g w

pub step_falls : (g : Graph) (w t : Walk) → step g w ≡ Goes t → steps_left g t < steps_left g w
step_falls g w t h = subst (λ s. Fits g (steps_left g w) s) h (step_fits g w)

-- ---- walks

-- more steps than are left make no difference
enough : (g : Graph) (n m : ℕ) (w : Walk) → steps_left g w < n → steps_left g w < m → walk n g w ≡ walk m g w
enough g zero m w h k = absurd (omega arith)
enough g (suc n) zero w h k = absurd (omega arith)
enough g (suc n) (suc m) w h k = on (λ t a b. enough g n m t a b) (step g w) (step_fits g w)
  where
    on : ((t : Walk) → steps_left g t < n → steps_left g t < m → walk n g t ≡ walk m g t)
        → (s : Step) → Fits g (steps_left g w) s → walk_on (walk n g) s ≡ walk_on (walk m g) s
    on again (Goes t) f = again t (omega arith) (omega arith)
    on again (Ends xs) f = refl
    on again (Stops rule file at) f = refl

pub walked_goes : (g : Graph) (w t : Walk) → step g w ≡ Goes t → walked g w ≡ walked g t
walked_goes g w t h =
    let falls = step_falls g w t h in
    ap (walk_on (walk (steps_left g w) g)) h ∙ enough g (steps_left g w) (suc (steps_left g t)) t (omega arith) (omega arith)

pub walked_ends : (g : Graph) (w : Walk) (xs : List (List ℕ)) → step g w ≡ Ends xs → walked g w ≡ Gives xs
walked_ends g w xs h = ap (walk_on (walk (steps_left g w) g)) h

pub walked_stops : (g : Graph) (w : Walk) (rule : Rule) (file at : ℕ) → step g w ≡ Stops rule file at → walked g w ≡ Refuses rule file at
walked_stops g w rule file at h = ap (walk_on (walk (steps_left g w) g)) h
