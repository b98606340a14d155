-- What is written out hides no call, if its source hides none.
use Rattle.std.proofs.Common.{◌≡◌, ℕ, suc, Bool, true, false, List, [], ◌∷◌, ◌++◌, map, ℤ, pos, negsuc, refl, sym, ap, subst, ◌∙◌, Option, None, Some}
use Rattle.std.specs.Prelude.{if◌then◌else◌}
use Rattle.std.specs.Str.{bytes_eq}
use Rattle.rvc_base.specs.Width.{is_num}
use Rattle.cal_ast.specs.declared.expr.PrefixOp.TheVariants.{Neg}
use Rattle.cal_ast.specs.declared.expr.BinOp.TheVariants.{Sub}
use Rattle.cal_ast.specs.Places.{begins}
use Rattle.cal_ast.specs.Tree as tree
use Rattle.cal_ast.specs.Tree.{Tree}
use Rattle.cal_model.specs.Value.{Kind, Shape}
use Rattle.cal_model.specs.Actor.{Actor, Local, Output, Pattern, Port}
use Rattle.cal_model.specs.Selection.{kind_of_port}
use Rattle.cal_model.specs.Kinding.{Judged, Fine, Broken, Known, Names, constant_number, counter, kind, known_as, type_judged, with_counters, with_known}
use Rattle.cal_model.specs.Sound.{Each, GensHideNoCall, HidesNoCall, IsNotInside, LocalsHideNoCall, VarsHideNoCall, kind_of_judged, kind_of_tokens, known_local, names_in_patterns, names_of_vars, with_locals, with_pattern, with_patterns, with_vars_known}
use Rattle.cal_check.specs.Actions.{body_of, guards_written, outputs_fine}
use Rattle.cal_check.specs.Formed.{AreDeclared}
use Rattle.cal_check.specs.Routines.{local_of, locals_of, start_of}
use Rattle.cal_check.specs.Sources.{OutputHidesNoCall, OutputsHideNoCall, with_names}
use Rattle.cal_check.specs.Written.{behind_vars, by_number, constant_written, gens_written, number_tree, statement_written, vars_written, with_inner, written}
use Rattle.cal_check.proofs.KeptKinds.{counters-same}
use Rattle.cal_check.proofs.WrittenUses.{EachValues, OfValues, outputs-have}

-- ---- names inside

-- the same texts are declared inside
abbrev pub SameInside : Names → Names → Type 0
SameInside n m = map (λ x. x.name) n.locals ≡ map (λ x. x.name) m.locals

pub more-inside : (x y : Known) (n m : Names) → x.name ≡ y.name → SameInside n m → SameInside (with_known x n) (with_known y m)
more-inside x y n m e h = ap (λ t. t ∷ map (λ z. z.name) n.locals) e ∙ ap (λ ts. y.name ∷ ts) h

heads-are : (a b : List ℕ) (xs ys : List (List ℕ)) → a ∷ xs ≡ b ∷ ys → (a ≡ b) × (xs ≡ ys)
heads-are a b xs ys h = (let e : a ≡ b = cc in e, let f : xs ≡ ys = cc in f)

not-known : (name : List ℕ) (xs ys : List Known) → map (λ x. x.name) xs ≡ map (λ x. x.name) ys → known_as name xs ≡ None → known_as name ys ≡ None
not-known name [] [] e h = refl
not-known name [] (y ∷ ys) e h = absurd (cc)
not-known name (x ∷ xs) [] e h = absurd (cc)
not-known name (x ∷ xs) (y ∷ ys) e h =
    let p = heads-are x.name y.name (map (λ z. z.name) xs) (map (λ z. z.name) ys) e in
    go (bytes_eq x.name name) refl (bytes_eq y.name name) (ap (λ t. bytes_eq t name) p.0) h (not-known name xs ys p.1)
  where
    go : (b : Bool) → bytes_eq x.name name ≡ b → (c : Bool) → bytes_eq x.name name ≡ c → (if b then Some x else known_as name xs) ≡ None
        → (known_as name xs ≡ None → known_as name ys ≡ None) → (if c then Some y else known_as name ys) ≡ None
    go true e c f i rest = absurd (cc)
    go false e true f i rest = absurd (let w : false ≡ true = sym e ∙ f in cc)
    go false e false f i rest = rest i

not-inside : (name : List ℕ) (n m : Names) → SameInside n m → IsNotInside name n → IsNotInside name m
not-inside name n m s h = not-known name n.locals m.locals s h

counters-inside : (gens : Tree) (n m : Names) → SameInside n m → SameInside (with_counters gens n) (with_counters gens m)
counters-inside (tree.cons (tree.gen shape (tree.ident name place) from to at) gens) n m s =
    counters-inside gens (with_known (counter name) n) (with_known (counter name) m) (more-inside (counter name) (counter name) n m refl s)
counters-inside other n m s = s

abbrev var_known : List ℕ → Bool → Judged Shape → Known
var_known name changes j = record { name = name; kind = kind_of_judged j; value = None; changes = changes }

vars-inside : (vars : Tree) (n m : Names) → SameInside n m → SameInside (with_vars_known vars n) (with_vars_known vars m)
vars-inside (tree.cons (tree.var shape (tree.ident name place) start changes at) vars) n m s =
    vars-inside vars (with_known (var_known name changes (type_judged shape n)) n) (with_known (var_known name changes (type_judged shape m)) m)
    (more-inside (var_known name changes (type_judged shape n)) (var_known name changes (type_judged shape m)) n m refl s)
vars-inside other n m s = s

-- ---- the same tree over names of the same texts

mutual
  hides-same : (t : Tree) (n m : Names) → SameInside n m → HidesNoCall t n → HidesNoCall t m
  hides-same (tree.cons t ts) n m s h = (hides-same t n m s h.0, hides-same ts n m s h.1)
  hides-same (tree.present t) n m s h = hides-same t n m s h
  hides-same (tree.call name args at) n m s h = (not-inside name n m s h.0, hides-same args n m s h.1)
  hides-same (tree.paren e at) n m s h = hides-same e n m s h
  hides-same (tree.if_expr test first other at) n m s h = (hides-same test n m s h.0, hides-same first n m s h.1, hides-same other n m s h.2)
  hides-same (tree.list items at) n m s h = hides-same items n m s h
  hides-same (tree.comp item gens at) n m s h = (hides-same item (with_counters gens n) (with_counters gens m) (counters-inside gens n m s) h.0, gens-hide-same gens n m s h.1)
  hides-same (tree.index base place at) n m s h = (hides-same base n m s h.0, hides-same place n m s h.1)
  hides-same (tree.prefix op e at) n m s h = hides-same e n m s h
  hides-same (tree.binary op l r at) n m s h = (hides-same l n m s h.0, hides-same r n m s h.1)
  hides-same (tree.type_of name args at) n m s h = hides-same args n m s h
  hides-same (tree.shape_arg name shape) n m s h = hides-same shape n m s h
  hides-same (tree.value_arg name value) n m s h = hides-same value n m s h
  hides-same (tree.assign name places value at) n m s h = (hides-same places n m s h.0, hides-same value n m s h.1)
  hides-same (tree.call_stmt (tree.ident name place) args at) n m s h = (not-inside name n m s h.0, hides-same args n m s h.1)
  hides-same (tree.if_stmt test first other at) n m s h = (hides-same test n m s h.0, hides-same first n m s h.1, hides-same other n m s h.2)
  hides-same (tree.while_stmt test body at) n m s h = (hides-same test n m s h.0, hides-same body n m s h.1)
  hides-same (tree.foreach_stmt shape (tree.ident name place) from to body at) n m s h = (
    hides-same shape n m s h.0,
    hides-same from n m s h.1,
    hides-same to n m s h.2,
    hides-same body (with_known (counter name) n) (with_known (counter name) m) (more-inside (counter name) (counter name) n m refl s) h.3,
  )
  hides-same (tree.block vars body at) n m s h = (vars-hide-same vars n m s h.0, hides-same body (with_vars_known vars n) (with_vars_known vars m) (vars-inside vars n m s) h.1)
  hides-same other n m s h = tt

  gens-hide-same : (gens : Tree) (n m : Names) → SameInside n m → GensHideNoCall gens n → GensHideNoCall gens m
  gens-hide-same (tree.cons (tree.gen shape (tree.ident name place) from to at) gens) n m s h = (
    hides-same shape n m s h.0,
    hides-same from n m s h.1,
    hides-same to n m s h.2,
    gens-hide-same gens (with_known (counter name) n) (with_known (counter name) m) (more-inside (counter name) (counter name) n m refl s) h.3,
  )
  gens-hide-same other n m s h = tt

  vars-hide-same : (vars : Tree) (n m : Names) → SameInside n m → VarsHideNoCall vars n → VarsHideNoCall vars m
  vars-hide-same (tree.cons (tree.var shape (tree.ident name place) start changes at) vars) n m s h = (
    hides-same shape n m s h.0,
    hides-same start n m s h.1,
    vars-hide-same vars (with_known (var_known name changes (type_judged shape n)) n) (with_known (var_known name changes (type_judged shape m)) m)
        (more-inside (var_known name changes (type_judged shape n)) (var_known name changes (type_judged shape m)) n m refl s) h.2,
  )
  vars-hide-same other n m s h = tt

-- ---- what is written out

if-hides : (b : Bool) (t u : Tree) (n : Names) → HidesNoCall t n → HidesNoCall u n → HidesNoCall (if b then t else u) n
if-hides true t u n h i = h
if-hides false t u n h i = i

number-hides : (z : ℤ) (at : ℕ) (n : Names) → HidesNoCall (number_tree z at) n
number-hides (pos k) at n = tt
number-hides (negsuc k) at n =
    if-hides (is_num (pos (suc k))) (tree.prefix Neg (tree.number (suc k) at) at) (tree.binary Sub (tree.prefix Neg (tree.number k at) at) (tree.number 1 at) at) n tt (tt, tt)

by-number-hides : (j : Judged ℤ) (e : Tree) (n m : Names) → SameInside n m → HidesNoCall e n → HidesNoCall (by_number j e) m
by-number-hides (Fine z) e n m s h = number-hides z (begins e) m
by-number-hides (Broken rule at) e n m s h = hides-same e n m s h

constant-hides : (e : Tree) (k n m : Names) → SameInside n m → HidesNoCall e n → HidesNoCall (constant_written e k) m
constant-hides e k n m s h = by-number-hides (constant_number (kind e k) e k) e n m s h

item-inside : (gens : Tree) (k n m : Names) → SameInside n m → SameInside (with_counters gens n) (with_counters (gens_written gens k) m)
item-inside gens k n m s = subst (λ x. SameInside (with_counters gens n) x) (sym (counters-same gens k m)) (counters-inside gens n m s)

mutual
  pub written-hides : (t : Tree) (k n m : Names) → SameInside n m → HidesNoCall t n → HidesNoCall (written t k) m
  written-hides (tree.cons t ts) k n m s h = (written-hides t k n m s h.0, written-hides ts k n m s h.1)
  written-hides (tree.present t) k n m s h = written-hides t k n m s h
  written-hides (tree.call name args at) k n m s h = (not-inside name n m s h.0, written-hides args k n m s h.1)
  written-hides (tree.paren e at) k n m s h = written-hides e k n m s h
  written-hides (tree.if_expr test first other at) k n m s h = (written-hides test k n m s h.0, written-hides first k n m s h.1, written-hides other k n m s h.2)
  written-hides (tree.list items at) k n m s h = written-hides items k n m s h
  written-hides (tree.comp item gens at) k n m s h =
      (written-hides item (with_counters gens k) (with_counters gens n) (with_counters (gens_written gens k) m) (item-inside gens k n m s) h.0, gens-written-hide gens k n m s h.1)
  written-hides (tree.index base place at) k n m s h = (written-hides base k n m s h.0, written-hides place k n m s h.1)
  written-hides (tree.prefix op e at) k n m s h = written-hides e k n m s h
  written-hides (tree.binary op l r at) k n m s h = (written-hides l k n m s h.0, written-hides r k n m s h.1)
  written-hides (tree.type_of name args at) k n m s h = written-hides args k n m s h
  written-hides (tree.shape_arg name shape) k n m s h = written-hides shape k n m s h
  written-hides (tree.value_arg name value) k n m s h = constant-hides value k n m s h
  written-hides other k n m s h = hides-same other n m s h

  gens-written-hide : (gens : Tree) (k n m : Names) → SameInside n m → GensHideNoCall gens n → GensHideNoCall (gens_written gens k) m
  gens-written-hide (tree.cons (tree.gen shape (tree.ident name place) from to at) gens) k n m s h = (
    written-hides shape k n m s h.0,
    constant-hides from k n m s h.1,
    constant-hides to k n m s h.2,
    gens-written-hide gens (with_known (counter name) k) (with_known (counter name) n) (with_known (counter name) m) (more-inside (counter name) (counter name) n m refl s) h.3,
  )
  gens-written-hide other k n m s h = gens-hide-same other n m s h

vars-written-inside : (vars : Tree) (k n m : Names) → SameInside n m → SameInside (with_vars_known vars n) (with_vars_known (vars_written vars k) m)
vars-written-inside (tree.cons (tree.var shape (tree.ident name place) start changes at) vars) k n m s =
    vars-written-inside vars (with_inner (tree.var shape (tree.ident name place) start changes at) k) (with_known (var_known name changes (type_judged shape n)) n)
    (with_known (var_known name changes (type_judged (written shape k) m)) m)
    (more-inside (var_known name changes (type_judged shape n)) (var_known name changes (type_judged (written shape k) m)) n m refl s)
vars-written-inside other k n m s = vars-inside other n m s

vars-written-hide : (vars : Tree) (k n m : Names) → SameInside n m → VarsHideNoCall vars n → VarsHideNoCall (vars_written vars k) m
vars-written-hide (tree.cons (tree.var shape (tree.ident name place) start changes at) vars) k n m s h = (
  written-hides shape k n m s h.0,
  written-hides start k n m s h.1,
  vars-written-hide vars (with_inner (tree.var shape (tree.ident name place) start changes at) k) (with_known (var_known name changes (type_judged shape n)) n)
      (with_known (var_known name changes (type_judged (written shape k) m)) m)
      (more-inside (var_known name changes (type_judged shape n)) (var_known name changes (type_judged (written shape k) m)) n m refl s) h.2,
)
vars-written-hide other k n m s h = vars-hide-same other n m s h

pub statement-hides : (t : Tree) (k n m : Names) → SameInside n m → HidesNoCall t n → HidesNoCall (statement_written t k) m
statement-hides (tree.cons t ts) k n m s h = (statement-hides t k n m s h.0, statement-hides ts k n m s h.1)
statement-hides (tree.present t) k n m s h = statement-hides t k n m s h
statement-hides (tree.assign name places value at) k n m s h = (written-hides places k n m s h.0, written-hides value k n m s h.1)
statement-hides (tree.call_stmt (tree.ident name place) args at) k n m s h = (not-inside name n m s h.0, written-hides args k n m s h.1)
statement-hides (tree.if_stmt test first other at) k n m s h = (written-hides test k n m s h.0, statement-hides first k n m s h.1, statement-hides other k n m s h.2)
statement-hides (tree.while_stmt test body at) k n m s h = (written-hides test k n m s h.0, statement-hides body k n m s h.1)
statement-hides (tree.foreach_stmt shape (tree.ident name place) from to body at) k n m s h = (
  written-hides shape k n m s h.0,
  written-hides from k n m s h.1,
  written-hides to k n m s h.2,
  statement-hides body (with_known (counter name) k) (with_known (counter name) n) (with_known (counter name) m) (more-inside (counter name) (counter name) n m refl s) h.3,
)
statement-hides (tree.block vars body at) k n m s h =
    (vars-written-hide vars k n m s h.0, statement-hides body (behind_vars vars k) (with_vars_known vars n) (with_vars_known (vars_written vars k) m) (vars-written-inside vars k n m s) h.1)
statement-hides other k n m s h = hides-same other n m s h

pub body-hides : (body : Tree) (k n m : Names) → SameInside n m → HidesNoCall body n → HidesNoCall (statement_written (body_of body) k) m
body-hides (tree.present ss) k n m s h = statement-hides ss k n m s h
body-hides other k n m s h = tt

-- ---- locals

abbrev StartHides : Option Tree → Names → Type 0
StartHides o m = elim o [ None ↦ Unit {0} | Some e ↦ HidesNoCall e m ]

start-hides : (start : Tree) (k n m : Names) → SameInside n m → HidesNoCall start n → StartHides (start_of start k) m
start-hides (tree.present e) k n m s h = written-hides e k n m s h
start-hides other k n m s h = tt

pub locals-hide : (vars : Tree) (k n m : Names) → AreDeclared vars → SameInside n m → VarsHideNoCall vars n → LocalsHideNoCall (locals_of vars k) m
locals-hide tree.nil k n m d s h = tt
locals-hide (tree.cons (tree.var shape (tree.ident name place) start changes at) vars) k n m d s h =
    let v : Tree = tree.var shape (tree.ident name place) start changes at in (
      start-hides start k n m s h.1,
      locals-hide vars (with_inner v k) (with_known (var_known name changes (type_judged shape n)) n) (with_known (known_local (local_of v k)) m) d.1
          (more-inside (var_known name changes (type_judged shape n)) (known_local (local_of v k)) n m refl s) h.2,
    )
locals-hide other k n m d s h = absurd d

pub locals-named : (vars : Tree) (k : Names) → AreDeclared vars → map (λ x. x.name) (locals_of vars k) ≡ names_of_vars vars
locals-named tree.nil k d = refl
locals-named (tree.cons (tree.var shape (tree.ident name place) start changes at) vars) k d =
    ap (λ ns. name ∷ ns) (locals-named vars (with_inner (tree.var shape (tree.ident name place) start changes at) k) d.1)
locals-named other k d = absurd d

-- names with these locals inside
pub locals-inside : (ns : List (List ℕ)) (xs : List Local) (n m : Names) → map (λ x. x.name) xs ≡ ns → SameInside n m → SameInside (with_names ns n) (with_locals xs m)
locals-inside [] [] n m e s = s
locals-inside [] (x ∷ xs) n m e s = absurd (cc)
locals-inside (name ∷ ns) [] n m e s = absurd (cc)
locals-inside (name ∷ ns) (x ∷ xs) n m e s =
    let p = heads-are x.name name (map (λ z. z.name) xs) ns e in
    locals-inside ns xs (with_known (counter name) n) (with_known (known_local x) m) p.1 (more-inside (counter name) (known_local x) n m (sym p.0) s)

-- ---- patterns

names-behind : (ns ms : List (List ℕ)) (n : Names) → with_names (ns ++ ms) n ≡ with_names ms (with_names ns n)
names-behind [] ms n = refl
names-behind (name ∷ ns) ms n = names-behind ns ms (with_known (counter name) n)

pattern-inside : (k : Kind) (ns : List (List ℕ)) (n m : Names) → SameInside n m → SameInside (with_names ns n) (with_pattern k ns m)
pattern-inside k [] n m s = s
pattern-inside k (name ∷ ns) n m s =
    let x : Known = record { name = name; kind = k; value = None; changes = false } in
    pattern-inside k ns (with_known (counter name) n) (with_known x m) (more-inside (counter name) x n m refl s)

pub patterns-inside : (actor : Actor) (qs : List Pattern) (n m : Names) → SameInside n m → SameInside (with_names (names_in_patterns qs) n) (with_patterns actor qs m)
patterns-inside actor [] n m s = s
patterns-inside actor (q ∷ qs) n m s =
    let k : Kind = kind_of_tokens (kind_of_port actor.ins q.port) q.repeat in
    subst (λ x. SameInside x (with_patterns actor qs (with_pattern k q.names m))) (sym (names-behind q.names (names_in_patterns qs) n))
    (patterns-inside actor qs (with_names q.names n) (with_pattern k q.names m) (pattern-inside k q.names n m s))

-- ---- guards and outputs

pub guards-hide : (guards : Tree) (k n m : Names) → SameInside n m → HidesNoCall guards n → Each (λ g. HidesNoCall g m) (guards_written guards k)
guards-hide (tree.cons g gs) k n m s h = (written-hides g k n m s h.0, guards-hide gs k n m s h.1)
guards-hide other k n m s h = tt

value-hides : (o : Tree) (n : Names) → OutputHidesNoCall o n → OfValues (λ t. HidesNoCall t n) o
value-hides (tree.output asked values repeat at) n h = h
value-hides other n h = tt

values-hide : (os : Tree) (n : Names) → OutputsHideNoCall os n → EachValues (λ t. HidesNoCall t n) os
values-hide (tree.cons o os) n h = (value-hides o n h.0, values-hide os n h.1)
values-hide other n h = tt

pub outputs-hide : (os : Tree) (ports : List Port) (k n m : Names) (outs : List Output) → SameInside n m → OutputsHideNoCall os n → outputs_fine os ports k ≡ Some outs → Each (λ o. HidesNoCall o.values m) outs
outputs-hide os ports k n m outs s h e = outputs-have (λ t. HidesNoCall t n) (λ t. HidesNoCall t m) k (λ t i. written-hides t k n m s i) os ports outs (values-hide os n h) e
