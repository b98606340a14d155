-- Which texts no name that is declared inside has.
use Rattle.std.proofs.Common.{◌≡◌, ℕ, ◌+◌, ◌≤◌, Bool, true, false, List, [], ◌∷◌, ◌++◌, refl, ap, subst, arith}
use Rattle.std.proofs.lemmas.Slice.Eq.{bytes_eq-Decides}
use Rattle.std.specs.Prelude.{◌||◌, None, Some, if◌then◌else◌}
use Rattle.std.specs.Str.{bytes_eq}
use Rattle.cal_ast.specs.Tree as tree
use Rattle.cal_ast.specs.Tree.{Tree}
use Rattle.cal_model.specs.Kinding.{Known, Names, counter, known_as, type_judged, with_counters, with_known}
use Rattle.cal_model.specs.Sound.{Each, kind_of_judged, names_of_vars, with_vars_known}
use Rattle.cal_check.specs.Sources.{with_names}
use Rattle.cal_scope.specs.Expressions.{declared_by, declared_name}
use Rattle.cal_scope.specs.Names.{is_among, with_name}
use Rattle.law_sources.proofs.Counts.{AreSingle, count, count-append, itself, one}
use Rattle.law_sources.proofs.Walked.{single_with}
use Rattle.law_sources.proofs.WordTokens.{IsWord}

-- ---- names of one scope

pub not_among : (x : List ℕ) (xs : List (List ℕ)) → is_among x xs ≡ false → count x xs ≡ 0
not_among x [] h = refl
not_among x (y ∷ ys) h = go (bytes_eq x y) h (not_among x ys)
  where
    go : (b : Bool) → (b || is_among x ys) ≡ false → (is_among x ys ≡ false → count x ys ≡ 0) → one b + count x ys ≡ 0
    go true i more = absurd cc
    go false i more = let r = more i in omega arith

among : (x : List ℕ) (xs : List (List ℕ)) → is_among x xs ≡ true → 1 ≤ count x xs
among x [] h = absurd cc
among x (y ∷ ys) h = go (bytes_eq x y) h (among x ys)
  where
    go : (b : Bool) → (b || is_among x ys) ≡ true → (is_among x ys ≡ true → 1 ≤ count x ys) → 1 ≤ one b + count x ys
    go true i more = omega arith
    go false i more = let r = more i in omega arith

-- a name that is new stands behind the others
pub new_name : (x name : List ℕ) (here : List (List ℕ)) → is_among name here ≡ false → count x (with_name name here) ≡ count x here + one (bytes_eq x name)
new_name x name here e =
    let behind : with_name name here ≡ here ++ name ∷ [] = ap (λ b. if b then here else here ++ name ∷ []) e in
    let f = ap (λ ns. count x ns) behind in
    let g = count-append x here (name ∷ []) in
    omega arith

-- a text that isn't among names with one more isn't among these, and isn't that one
pub no_name : (x name : List ℕ) (here : List (List ℕ)) → count x (with_name name here) ≡ 0 → count x here + one (bytes_eq x name) ≡ 0
no_name x name here h = go (is_among name here) refl h
  where
    twice : (b : Bool) → (b ≡ true → x ≡ name) → is_among name here ≡ true → count x here ≡ 0 → count x here + one b ≡ 0
    twice true same e none =
        let some = among name here e in
        let f : count x here ≡ count name here = ap (λ z. count z here) (same refl) in
        absurd (omega arith)
    twice false same e none = omega arith

    go : (b : Bool) → is_among name here ≡ b → count x (if b then here else here ++ name ∷ []) ≡ 0 → count x here + one (bytes_eq x name) ≡ 0
    go true e none = twice (bytes_eq x name) (bytes_eq-Decides x name).0 e none
    go false e none = let g = count-append x here (name ∷ []) in omega arith

pub declared_single : (ts : Tree) (here : List (List ℕ)) → AreSingle here → AreSingle (declared_by ts here)
declared_single (tree.cons t ts) here h = declared_single ts (with_name (declared_name t) here) (single_with (declared_name t) here h)
declared_single _ here h = h

-- ---- texts that no name inside has

-- a text that isn't among these names, or is no word, as all of them are
pub data IsFree (here : List (List ℕ)) (x : List ℕ) : Type 0 where
  apart : count x here ≡ 0 → IsFree here x
  unword : (IsWord x → ⊥) → IsFree here x

-- none that is free has a meaning inside
abbrev pub Covers : List (List ℕ) → List Known → Type 0
Covers here ks = (x : List ℕ) → IsFree here x → known_as x ks ≡ None

pub covers_nothing : Covers [] []
covers_nothing x f = refl

-- with one name more
pub covers_one : (here there : List (List ℕ)) (y : Known) (ks : List Known) → Covers here ks → IsWord y.name
    → ((x : List ℕ) → count x there ≡ 0 → count x here + one (bytes_eq x y.name) ≡ 0) → Covers there (y ∷ ks)
covers_one here there y ks c w shows x f = go (bytes_eq y.name x) (bytes_eq-Decides y.name x).0 f
  where
    go : (b : Bool) → (b ≡ true → y.name ≡ x) → IsFree there x → (if b then Some y else known_as x ks) ≡ None
    go true same (apart h) =
        let e = shows x h in
        let f : one (bytes_eq x y.name) ≡ 1 = subst (λ z. one (bytes_eq z y.name) ≡ 1) (same refl) (itself y.name) in
        absurd (omega arith)
    go true same (unword u) = absurd (u (subst IsWord (same refl) w))
    go false same (apart h) = c x (apart (let e = shows x h in omega arith))
    go false same (unword u) = c x (unword u)

pub covers_more : (here there : List (List ℕ)) (ks : List Known) → Covers here ks → ((x : List ℕ) → count x there ≡ 0 → count x here ≡ 0) → Covers there ks
covers_more here there ks c shows x (apart h) = c x (apart (shows x h))
covers_more here there ks c shows x (unword u) = c x (unword u)

-- .. and with several

pub covers_names : (ns : List (List ℕ)) (here there : List (List ℕ)) (k : Names) → Covers here k.locals → Each IsWord ns
    → ((x : List ℕ) → count x there ≡ 0 → count x here + count x ns ≡ 0) → Covers there (with_names ns k).locals
covers_names [] here there k c w shows = covers_more here there k.locals c (λ x h. let e = shows x h in omega arith)
covers_names (n ∷ ns) here there k c w shows =
    covers_names ns (n ∷ here) there (with_known (counter n) k) (covers_one here (n ∷ here) (counter n) k.locals c w.0 (λ x h. omega arith)) w.1
    (λ x h. let e = shows x h in omega arith)

-- a variable, as the names inside have it
abbrev pub known_var : (shape : Tree) (name : List ℕ) (changes : Bool) → Names → Known
known_var shape name changes k = record { name = name; kind = kind_of_judged (type_judged shape k); value = None; changes = changes }

pub covers_vars : (vs : Tree) (here there : List (List ℕ)) (k : Names) → Covers here k.locals → Each IsWord (names_of_vars vs)
    → ((x : List ℕ) → count x there ≡ 0 → count x here + count x (names_of_vars vs) ≡ 0) → Covers there (with_vars_known vs k).locals
covers_vars (tree.cons (tree.var shape (tree.ident name place) start changes at) vs) here there k c w shows =
    covers_vars vs (name ∷ here) there (with_known (known_var shape name changes k) k)
    (covers_one here (name ∷ here) (known_var shape name changes k) k.locals c w.0 (λ x h. omega arith)) w.1
    (λ x h. let e = shows x h in omega arith)
covers_vars _ here there k c w shows = covers_more here there k.locals c (λ x h. let e = shows x h in omega arith)

-- the names of generators
abbrev pub names_of_gens : Tree → List (List ℕ)
names_of_gens (tree.cons (tree.gen shape (tree.ident name place) from to at) gens) = name ∷ names_of_gens gens
names_of_gens other = []

pub covers_gens : (gs : Tree) (here there : List (List ℕ)) (k : Names) → Covers here k.locals → Each IsWord (names_of_gens gs)
    → ((x : List ℕ) → count x there ≡ 0 → count x here + count x (names_of_gens gs) ≡ 0) → Covers there (with_counters gs k).locals
covers_gens (tree.cons (tree.gen shape (tree.ident name place) from to at) gs) here there k c w shows =
    covers_gens gs (name ∷ here) there (with_known (counter name) k) (covers_one here (name ∷ here) (counter name) k.locals c w.0 (λ x h. omega arith)) w.1
    (λ x h. let e = shows x h in omega arith)
covers_gens _ here there k c w shows = covers_more here there k.locals c (λ x h. let e = shows x h in omega arith)
