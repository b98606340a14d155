-- What declarations declare, and how often a text is among their names.
use Rattle.std.proofs.Common.{◌≡◌, ℕ, ◌+◌, ◌≤◌, Bool, true, false, List, [], ◌∷◌, ◌++◌, map, refl, sym, ap, subst, ◌∙◌, arith}
use Rattle.std.proofs.lemmas.List.{map-append}
use Rattle.std.proofs.lemmas.Slice.Eq.{bytes_eq-Decides}
use Rattle.std.specs.Prelude.{Some, is_some, if◌then◌else◌}
use Rattle.std.specs.Str.{bytes_eq}
use Rattle.rvc_base.specs.Rules.{declared_twice}
use Rattle.cal_ast.specs.Tree as tree
use Rattle.cal_ast.specs.Tree.{Tree}
use Rattle.cal_model.specs.Kinding.{Judged, Fine, Broken, and_so}
use Rattle.cal_scope.specs.Globals.{with_all_declared, with_declared, with_global}
use Rattle.cal_scope.specs.Names.{Global, global_named}
use Rattle.cal_check.specs.Actors.{params_of}
use Rattle.cal_imports.specs.Brought.{names_declared}
use Rattle.cal_imports.specs.Sources.{dot}
use Rattle.cal_imports.specs.Whole.{members_of}
use Rattle.law_sources.proofs.Counts.{AreSingle, count, count-append, one}
use Rattle.law_sources.proofs.NamedMembers.{AreNamed, IsNamed}
use Rattle.law_sources.proofs.WordTokens.{IsWord}

-- ---- a part that is judged in two steps

pub so_gave : {A B : Type 0} (j : Judged A) (f : A → Judged B) (b : B) → and_so j f ≡ Fine b → (a : A) × (j ≡ Fine a) × (f a ≡ Fine b)
so_gave (Fine a) f b h = (a, refl, h)
so_gave (Broken rule at) f b h = absurd cc

pub fine_same : {A : Type 0} (x y : A) → Fine x ≡ Fine y → x ≡ y
fine_same x y h = cc

-- ---- what a declaration declares

pub data Declared : Type 0 where
  a_param : (name : List ℕ) → Declared
  a_variable : (name : List ℕ) → Declared
  a_routine : (name : List ℕ) → Declared
  a_procedure : (name : List ℕ) → Declared
  nothing : Declared

abbrev pub declared : Tree → Declared
declared (tree.param shape (tree.ident name place) start at) = a_param name
declared (tree.var shape (tree.ident name place) start changes at) = a_variable name
declared (tree.function (tree.ident name place) formals result vars body at) = a_routine name
declared (tree.procedure (tree.ident name place) formals vars body at) = a_procedure name
declared other = nothing

-- how often a text is its name
abbrev pub times : List ℕ → Declared → ℕ
times x (a_param name) = one (bytes_eq x name)
times x (a_variable name) = one (bytes_eq x name)
times x (a_routine name) = one (bytes_eq x name)
times x (a_procedure name) = one (bytes_eq x name)
times x nothing = 0

-- .. or that of one of these
abbrev pub total : List ℕ → Tree → ℕ
total x (tree.cons m ms) = times x (declared m) + total x ms
total x other = 0

-- ---- names that a file declares

abbrev pub names_of : List Global → List (List ℕ)
names_of here = map (λ g. g.name) here

abbrev IsAdded : (x : List ℕ) → (n : ℕ) → (here out : List Global) → Type 0
IsAdded x n here out = count x (names_of out) ≡ count x (names_of here) + n

not_named : (name : List ℕ) (here : List Global) → is_some (global_named name here) ≡ false → count name (names_of here) ≡ 0
not_named name [] h = refl
not_named name (g ∷ gs) h = go (bytes_eq name g.name) h (not_named name gs)
  where
    go : (b : Bool) → is_some (if b then Some g else global_named name gs) ≡ false → (is_some (global_named name gs) ≡ false → count name (names_of gs) ≡ 0)
        → one b + count name (names_of gs) ≡ 0
    go true i rest = absurd cc
    go false i rest = let r = rest i in omega arith

-- a name is new, and stands behind the others then
record IsNewBehind (g : Global) (here out : List Global) : Type 0 where
  new : count g.name (names_of here) ≡ 0
  behind : names_of out ≡ names_of here ++ g.name ∷ []

new_behind : (g : Global) (at : ℕ) (here out : List Global) → with_global g at here ≡ Fine out → IsNewBehind g here out
new_behind g at here out h = go (is_some (global_named g.name here)) refl h
  where
    go : (b : Bool) → is_some (global_named g.name here) ≡ b → (if b then Broken declared_twice at else Fine (here ++ g ∷ [])) ≡ Fine out → IsNewBehind g here out
    go true e i = absurd cc
    go false e i = record {
      new = not_named g.name here e;
      behind = ap names_of (sym (fine_same (here ++ g ∷ []) out i)) ∙ map-append (λ y. y.name) here (g ∷ []);
    }

-- what one declaration adds, and no name stands twice
record Adds (n : List ℕ → ℕ) (here out : List Global) : Type 0 where
  counts : (x : List ℕ) → IsAdded x (n x) here out
  single : AreSingle (names_of here) → AreSingle (names_of out)

adds_one : (g : Global) (here out : List Global) → IsNewBehind g here out → Adds (λ x. one (bytes_eq x g.name)) here out
adds_one g here out h = record { counts = counts; single = single }
  where
    counts : (x : List ℕ) → IsAdded x (one (bytes_eq x g.name)) here out
    counts x = let e = ap (λ ns. count x ns) h.behind in let f = count-append x (names_of here) (g.name ∷ []) in omega arith

    once : (x : List ℕ) (b : Bool) → (b ≡ true → x ≡ g.name) → count x (names_of out) ≡ count x (names_of here) + one b → count x (names_of here) ≤ 1 → count x (names_of out) ≤ 1
    once x true same e few = let none : count x (names_of here) ≡ 0 = ap (λ z. count z (names_of here)) (same refl) ∙ h.new in omega arith
    once x false same e few = omega arith

    single : AreSingle (names_of here) → AreSingle (names_of out)
    single few x = once x (bytes_eq x g.name) (bytes_eq-Decides x g.name).0 (counts x) (few x)

adds_none : (here out : List Global) → Fine here ≡ Fine out → Adds (λ x. 0) here out
adds_none here out h =
    let same = fine_same here out h in
    record {
      counts = λ x. let e = ap (λ g. count x (names_of g)) same in omega arith;
      single = λ few. subst (λ g. AreSingle (names_of g)) same few;
    }

declaration_adds : (before : List ℕ) (m : Tree) (here out : List Global) → with_declared before m here ≡ Fine out → Adds (λ x. times x (declared m)) here out
declaration_adds before (tree.param shape (tree.ident name place) start at) here out h = adds_one _ here out (new_behind _ at here out h)
declaration_adds before (tree.var shape (tree.ident name place) start changes at) here out h = adds_one _ here out (new_behind _ at here out h)
declaration_adds before (tree.function (tree.ident name place) formals result vars body at) here out h = adds_one _ here out (new_behind _ at here out h)
declaration_adds before (tree.procedure (tree.ident name place) formals vars body at) here out h = adds_one _ here out (new_behind _ at here out h)
declaration_adds before _ here out h = adds_none here out h

all_add : (before : List ℕ) (ms : Tree) (here out : List Global) → with_all_declared before ms here ≡ Fine out → Adds (λ x. total x ms) here out
all_add before (tree.cons m ms) here out h =
    let (next, first, rest) = so_gave (with_declared before m here) (λ g. with_all_declared before ms g) out h in
    let one_more = declaration_adds before m here next first in
    let others = all_add before ms next out rest in
    record {
      counts = λ x. let e = one_more.counts x in let f = others.counts x in omega arith;
      single = λ few. others.single (one_more.single few);
    }
all_add before _ here out h = adds_none here out h

-- The parameters and members of a body declare each name once.
pub declared_once : (class : List ℕ) (body : Tree) (own : List Global) → names_declared class body ≡ Fine own → (x : List ℕ) → total x (params_of body) + total x (members_of body) ≤ 1
declared_once class (tree.unit name members at) own h x =
    let a = all_add (class ++ dot ∷ []) members [] own h in
    let e = a.counts x in
    let f = a.single (λ y. omega arith) x in
    omega arith
declared_once class (tree.actor name params ins outs members at) own h x =
    let (here, first, rest) = so_gave (with_all_declared [] params []) (λ g. with_all_declared [] members g) own h in
    let a = all_add [] params [] here first in
    let b = all_add [] members here own rest in
    let e = a.counts x in
    let f = b.counts x in
    let g = b.single (a.single (λ y. omega arith)) x in
    omega arith
declared_once class _ own h x = omega arith

-- ---- names without dots

-- a text is never the name, or it has no dot
pub data IsWordOr (x : List ℕ) (n : ℕ) : Type 0 where
  never : n ≡ 0 → IsWordOr x n
  is_word : IsWord x → IsWordOr x n

named_word : (x name : List ℕ) → IsWord name → IsWordOr x (one (bytes_eq x name))
named_word x name w = go (bytes_eq x name) (bytes_eq-Decides x name).0
  where
    go : (b : Bool) → (b ≡ true → x ≡ name) → IsWordOr x (one b)
    go true same = is_word (subst IsWord (sym (same refl)) w)
    go false same = never refl

times_word : (x : List ℕ) (m : Tree) → IsNamed m → IsWordOr x (times x (declared m))
times_word x (tree.param shape (tree.ident name place) start at) n = named_word x name n
times_word x (tree.var shape (tree.ident name place) start changes at) n = named_word x name n
times_word x (tree.function (tree.ident name place) formals result vars body at) n = named_word x name n
times_word x (tree.procedure (tree.ident name place) formals vars body at) n = named_word x name n
times_word x _ n = never refl

pub either_word : (x : List ℕ) (a b : ℕ) → IsWordOr x a → IsWordOr x b → IsWordOr x (a + b)
either_word x a b (is_word w) k = is_word w
either_word x a b (never h) (is_word w) = is_word w
either_word x a b (never h) (never k) = never (omega arith)

pub total_word : (x : List ℕ) (ms : Tree) → AreNamed ms → IsWordOr x (total x ms)
total_word x (tree.cons m ms) n = either_word x (times x (declared m)) (total x ms) (times_word x m n.0) (total_word x ms n.1)
total_word x _ n = never refl
