-- Functions and procedures of a scope as nodes: each is found by its name.
use Rattle.std.proofs.Common.{◌≡◌, ℕ, zero, suc, ◌+◌, ◌≤◌, Bool, true, false, List, [], ◌∷◌, ◌++◌, map, refl, sym, ap, subst, ◌∙◌, arith}
use Rattle.std.proofs.lemmas.List.{map-append}
use Rattle.std.proofs.lemmas.Slice.Eq.{bytes_eq-Decides}
use Rattle.std.specs.Prelude.{None, Some, Contains, is_some, if◌then◌else◌}
use Rattle.std.specs.Str.{bytes_eq}
use Rattle.cal_ast.specs.Tree as tree
use Rattle.cal_ast.specs.Tree.{Tree}
use Rattle.cal_model.specs.Sound.{AreDistinct, Each}
use Rattle.cal_check.specs.Actors.{funs_in, procs_in}
use Rattle.cal_check.specs.Sources.{proc_name}
use Rattle.cal_scope.specs.Names.{is_among}
use Rattle.cal_imports.specs.Behind.{LeadAmong}
use Rattle.cal_imports.specs.Recursion.{edge_to, routine_node, routines, with_outer_routines, with_routines}
use Rattle.cal_imports.specs.Walk.{Node, node_named}
use Rattle.cal_imports.specs.Whole.{Outer, Scope, members_of}
use Rattle.check_actor.specs.Sources.{fun_of}
use Rattle.law_sources.proofs.Counts.{AreSingle, count, count-append, itself, one}
use Rattle.law_sources.proofs.FormMembers.{AreFormedMembers, functions, procedures}
use Rattle.law_sources.proofs.Nodes.{added, find_added, find_append, first}

-- ---- names that are counted

pub counted : (x : List ℕ) (xs : List (List ℕ)) → 1 ≤ count x xs → Contains xs x
counted x [] h = absurd (omega arith)
counted x (y ∷ xs) h = go (bytes_eq x y) (bytes_eq-Decides x y).0 h (counted x xs)
  where
    go : (b : Bool) → (b ≡ true → x ≡ y) → 1 ≤ one b + count x xs → (1 ≤ count x xs → Contains xs x) → Contains (y ∷ xs) x
    go true same i rest = (0, omega arith, sym (same refl))
    go false same i rest = let (k, inside, e) = rest (omega arith) in (suc k, omega arith, e)

-- no text stands twice in a list without equals
pub single_of : (xs : List (List ℕ)) → AreDistinct xs → AreSingle xs
single_of [] h x = omega arith
single_of (y ∷ xs) h x = go (bytes_eq x y) (bytes_eq-Decides x y).0 (single_of xs h.1 x)
  where
    no_more : (n : ℕ) → count y xs ≡ n → n ≡ 0
    no_more zero e = refl
    no_more (suc n) e = absurd (h.0 (counted y xs (omega arith)))

    go : (b : Bool) → (b ≡ true → x ≡ y) → count x xs ≤ 1 → one b + count x xs ≤ 1
    go true same few = let e : count x xs ≡ 0 = subst (λ z. count z xs ≡ 0) (sym (same refl)) (no_more (count y xs) refl) in omega arith
    go false same few = omega arith

pub each_on : {A : Type 0} (P R : A → Type 0) (xs : List A) → ((x : A) → P x → R x) → Each P xs → Each R xs
each_on P R [] f h = tt
each_on P R (x ∷ xs) f h = (f x h.0, each_on P R xs f h.1)

-- each of some is counted among their names
pub each_counted : {A : Type 0} (name : A → List ℕ) (xs : List A) → Each (λ a. 1 ≤ count (name a) (map name xs)) xs
each_counted name [] = tt
each_counted name (a ∷ xs) = (
  let e = itself (name a) in omega arith,
  each_on (λ b. 1 ≤ count (name b) (map name xs)) (λ b. 1 ≤ count (name b) (name a ∷ map name xs)) xs (λ b h. omega arith) (each_counted name xs),
)

-- ---- nodes

abbrev pub own_nodes : ℕ → Tree → List Node
own_nodes file (tree.cons (tree.function (tree.ident name place) formals result vars body at) ms) =
    routine_node name file (tree.function (tree.ident name place) formals result vars body at) ∷ own_nodes file ms
own_nodes file (tree.cons (tree.procedure (tree.ident name place) formals vars body at) ms) =
    routine_node name file (tree.procedure (tree.ident name place) formals vars body at) ∷ own_nodes file ms
own_nodes file (tree.cons m ms) = own_nodes file ms
own_nodes file other = []

abbrev pub outer_node : Outer → Node
outer_node o = routine_node o.name o.file o.decl

abbrev pub all_nodes : Scope → List Node
all_nodes s = own_nodes s.file (members_of s.actor) ++ map outer_node s.funs

own_added : (file : ℕ) (ms : Tree) (ns : List Node) → with_routines file ms ns ≡ added (own_nodes file ms) ns
own_added file (tree.cons (tree.function (tree.ident name place) formals result vars body at) ms) ns = own_added file ms _
own_added file (tree.cons (tree.procedure (tree.ident name place) formals vars body at) ms) ns = own_added file ms _
own_added file (tree.cons _ ms) ns = own_added file ms ns
own_added file _ ns = refl

outer_added : (fs : List Outer) (ns : List Node) → with_outer_routines fs ns ≡ added (map outer_node fs) ns
outer_added [] ns = refl
outer_added (f ∷ fs) ns = outer_added fs _

pub find_routine : (x : List ℕ) (s : Scope) → node_named x (routines s) ≡ node_named x (all_nodes s)
find_routine x s =
    let own = own_nodes s.file (members_of s.actor) in
    let others = map outer_node s.funs in
    let here = with_routines s.file (members_of s.actor) [] in
    ap (node_named x) (outer_added s.funs here) ∙ find_added x others here ∙ find_append x here others
    ∙ ap (λ o. first o (node_named x others)) (ap (node_named x) (own_added s.file (members_of s.actor) []) ∙ find_added x own [])
    ∙ sym (find_append x own others)

abbrev pub node_names : List Node → List (List ℕ)
node_names ns = map (λ n. n.name) ns

not_there : (x : List ℕ) (ns : List Node) → count x (node_names ns) ≡ 0 → node_named x ns ≡ None
not_there x [] h = refl
not_there x (n ∷ ns) h = go (bytes_eq x n.name) h (not_there x ns)
  where
    go : (b : Bool) → one b + count x (node_names ns) ≡ 0 → (count x (node_names ns) ≡ 0 → node_named x ns ≡ None) → (if b then Some n else node_named x ns) ≡ None
    go true i rest = absurd (omega arith)
    go false i rest = rest (omega arith)

pub there_counted : (x : List ℕ) (ns : List Node) → is_some (node_named x ns) ≡ true → 1 ≤ count x (node_names ns)
there_counted x [] h = absurd cc
there_counted x (n ∷ ns) h = go (bytes_eq x n.name) h (there_counted x ns)
  where
    go : (b : Bool) → is_some (if b then Some n else node_named x ns) ≡ true → (is_some (node_named x ns) ≡ true → 1 ≤ count x (node_names ns)) → 1 ≤ one b + count x (node_names ns)
    go true i rest = omega arith
    go false i rest = let r = rest i in omega arith

found_itself : (n : Node) (ns : List Node) → node_named n.name (n ∷ ns) ≡ Some n
found_itself n ns = go (bytes_eq n.name n.name) ((bytes_eq-Decides n.name n.name).1 refl)
  where
    go : (b : Bool) → b ≡ true → (if b then Some n else node_named n.name ns) ≡ Some n
    go true e = refl
    go false e = absurd cc

found_behind : (before rest : List Node) → AreSingle (node_names (before ++ rest)) → Each (λ n. node_named n.name (before ++ rest) ≡ Some n) rest
found_behind before [] h = tt
found_behind before (n ∷ rest) h =
    let a = h n.name in
    let b = ap (λ xs. count n.name xs) (map-append (λ m. m.name) before (n ∷ rest)) in
    let c = count-append n.name (node_names before) (n.name ∷ node_names rest) in
    let d = itself n.name in
    let none : node_named n.name before ≡ None = not_there n.name before (omega arith) in
    let it : node_named n.name (before ++ n ∷ rest) ≡ Some n =
    find_append n.name before (n ∷ rest) ∙ ap (λ o. first o (node_named n.name (n ∷ rest))) none ∙ found_itself n rest in (
      it,
      subst (λ ns. Each (λ m. node_named m.name ns ≡ Some m) rest) (moved before)
          (found_behind (before ++ n ∷ []) rest (subst (λ ns. AreSingle (node_names ns)) (sym (moved before)) h)),
    )
  where
    moved : (xs : List Node) → (xs ++ n ∷ []) ++ rest ≡ xs ++ n ∷ rest
    moved [] = refl
    moved (y ∷ xs) = ap (λ ys. y ∷ ys) (moved xs)

-- nodes whose names differ are found by them
pub each_found : (ns : List Node) → AreSingle (node_names ns) → Each (λ n. node_named n.name ns ≡ Some n) ns
each_found ns h = found_behind [] ns h

-- a node that is found is among the names to which its edge leads
pub found_among_order : (x : List ℕ) (ns : List Node) (order : List (List ℕ)) → is_some (node_named x ns) ≡ true → LeadAmong (map edge_to ns) order → is_among x order ≡ true
found_among_order x [] order h led = absurd cc
found_among_order x (n ∷ ns) order h led = go (bytes_eq x n.name) (bytes_eq-Decides x n.name).0 h (λ i. found_among_order x ns order i led.1)
  where
    go : (b : Bool) → (b ≡ true → x ≡ n.name) → is_some (if b then Some n else node_named x ns) ≡ true → (is_some (node_named x ns) ≡ true → is_among x order ≡ true) → is_among x order ≡ true
    go true same i rest = subst (λ z. is_among z order ≡ true) (sym (same refl)) led.0
    go false same i rest = rest i

-- ---- how often a text is a name

pub own_counted : (x : List ℕ) (file : ℕ) (ms : Tree) → count x (node_names (own_nodes file ms)) ≤ count x (map (λ f. f.name) (funs_in file ms)) + count x (map proc_name (procs_in ms))
own_counted x file (tree.cons (tree.function (tree.ident name place) formals result vars body at) ms) = let rest = own_counted x file ms in omega arith
own_counted x file (tree.cons (tree.procedure (tree.ident name place) formals vars body at) ms) = let rest = own_counted x file ms in omega arith
own_counted x file (tree.cons (tree.procedure _ formals vars body at) ms) = let rest = own_counted x file ms in omega arith
own_counted x file (tree.cons _ ms) = own_counted x file ms
own_counted x file _ = omega arith

pub outer_counted : (x : List ℕ) (fs : List Outer) → count x (node_names (map outer_node fs)) ≡ count x (map (λ f. f.name) (map fun_of fs))
outer_counted x [] = refl
outer_counted x (f ∷ fs) = let rest = outer_counted x fs in omega arith

pub functions_counted : (x : List ℕ) (file : ℕ) (ms : Tree) → functions x ms ≡ count x (map (λ f. f.name) (funs_in file ms))
functions_counted x file (tree.cons (tree.param shape (tree.ident name place) start at) ms) = let rest = functions_counted x file ms in omega arith
functions_counted x file (tree.cons (tree.param shape _ start at) ms) = let rest = functions_counted x file ms in omega arith
functions_counted x file (tree.cons (tree.var shape (tree.ident name place) start changes at) ms) = let rest = functions_counted x file ms in omega arith
functions_counted x file (tree.cons (tree.var shape _ start changes at) ms) = let rest = functions_counted x file ms in omega arith
functions_counted x file (tree.cons (tree.function (tree.ident name place) formals result vars body at) ms) = let rest = functions_counted x file ms in omega arith
functions_counted x file (tree.cons (tree.function _ formals result vars body at) ms) = let rest = functions_counted x file ms in omega arith
functions_counted x file (tree.cons (tree.procedure (tree.ident name place) formals vars body at) ms) = let rest = functions_counted x file ms in omega arith
functions_counted x file (tree.cons (tree.procedure _ formals vars body at) ms) = let rest = functions_counted x file ms in omega arith
functions_counted x file (tree.cons _ ms) = let rest = functions_counted x file ms in omega arith
functions_counted x file _ = refl

pub procedures_counted : (x : List ℕ) (ms : Tree) → procedures x ms ≤ count x (map proc_name (procs_in ms))
procedures_counted x (tree.cons (tree.param shape (tree.ident name place) start at) ms) = let rest = procedures_counted x ms in omega arith
procedures_counted x (tree.cons (tree.param shape _ start at) ms) = let rest = procedures_counted x ms in omega arith
procedures_counted x (tree.cons (tree.var shape (tree.ident name place) start changes at) ms) = let rest = procedures_counted x ms in omega arith
procedures_counted x (tree.cons (tree.var shape _ start changes at) ms) = let rest = procedures_counted x ms in omega arith
procedures_counted x (tree.cons (tree.function (tree.ident name place) formals result vars body at) ms) = let rest = procedures_counted x ms in omega arith
procedures_counted x (tree.cons (tree.function _ formals result vars body at) ms) = let rest = procedures_counted x ms in omega arith
procedures_counted x (tree.cons (tree.procedure (tree.ident name place) formals vars body at) ms) = let rest = procedures_counted x ms in omega arith
procedures_counted x (tree.cons (tree.procedure _ formals vars body at) ms) = let rest = procedures_counted x ms in omega arith
procedures_counted x (tree.cons _ ms) = let rest = procedures_counted x ms in omega arith
procedures_counted x _ = omega arith

-- ---- each routine of a body is its node

pub own_functions : (P : Node → Type 0) (file : ℕ) (ms : Tree) → Each P (own_nodes file ms) → Each (λ f. P (routine_node f.name f.file f.decl)) (funs_in file ms)
own_functions P file (tree.cons (tree.function (tree.ident name place) formals result vars body at) ms) h = (h.0, own_functions P file ms h.1)
own_functions P file (tree.cons (tree.procedure (tree.ident name place) formals vars body at) ms) h = own_functions P file ms h.1
own_functions P file (tree.cons _ ms) h = own_functions P file ms h
own_functions P file _ h = tt

pub own_procedures : (P : Node → Type 0) (file : ℕ) (ms : Tree) → AreFormedMembers ms → Each P (own_nodes file ms) → Each (λ p. P (routine_node (proc_name p) file p)) (procs_in ms)
own_procedures P file (tree.cons (tree.function (tree.ident name place) formals result vars body at) ms) f h = own_procedures P file ms f.1 h.1
own_procedures P file (tree.cons (tree.procedure (tree.ident name place) formals vars body at) ms) f h = (h.0, own_procedures P file ms f.1 h.1)
own_procedures P file (tree.cons (tree.procedure _ formals vars body at) ms) f h = absurd f.0
own_procedures P file (tree.cons _ ms) f h = own_procedures P file ms f.1 h
own_procedures P file _ f h = tt

pub outer_functions : (P : Node → Type 0) (fs : List Outer) → Each P (map outer_node fs) → Each (λ f. P (routine_node f.name f.file f.decl)) (map fun_of fs)
outer_functions P [] h = tt
outer_functions P (f ∷ fs) h = (h.0, outer_functions P fs h.1)

pub each_left : {A : Type 0} (P : A → Type 0) (xs ys : List A) → Each P (xs ++ ys) → Each P xs × Each P ys
each_left P [] ys h = (tt, h)
each_left P (x ∷ xs) ys h = let rest = each_left P xs ys h.1 in ((h.0, rest.0), rest.1)
