-- What units declare is gathered once under each text.
use Rattle.std.proofs.Common.{◌≡◌, ℕ, ◌+◌, ◌≤◌, Bool, true, false, List, [], ◌∷◌, ◌++◌, map, refl, sym, ap, subst, ◌∙◌, arith}
use Rattle.std.proofs.lemmas.List.{map-append}
use Rattle.std.proofs.lemmas.Slice.Eq.{bytes_eq-Decides}
use Rattle.std.specs.Prelude.{Option, None, Some, if◌then◌else◌}
use Rattle.std.specs.Str.{bytes_eq}
use Rattle.cal_ast.specs.Tree as tree
use Rattle.cal_ast.specs.Tree.{Tree}
use Rattle.cal_model.specs.Kinding.{Judged, Fine, Broken}
use Rattle.cal_model.specs.Sound.{Each}
use Rattle.cal_check.specs.Actors.{params_of}
use Rattle.cal_imports.specs.Answer.{Answer, Gives, Refuses, and_then, in_file}
use Rattle.cal_imports.specs.Brought.{imports_brought, names_declared, names_seen, with_seen}
use Rattle.cal_imports.specs.OneFile.{body_resolved, source_resolved}
use Rattle.cal_imports.specs.Sources.{Source, as_asked, body_of, dot, imports_of, source_named}
use Rattle.cal_imports.specs.Whole.{Gathered, Outer, members_of, outer, source_gathered, unit_gathered, units_gathered, with_declaration, with_declarations}
use Rattle.law_sources.proofs.Counts.{AreSingle, count, count-append, itself, one}
use Rattle.law_sources.proofs.Declarations.{Declared, a_param, a_procedure, a_routine, a_variable, nothing, declared, declared_once, times, total}
use Rattle.law_sources.proofs.Kept.{body_kept}
use Rattle.law_sources.proofs.NamedMembers.{AreNamed, IsNamed, IsNamedBody}
use Rattle.law_sources.proofs.WordTokens.{IsWord, split}

-- ---- answers in several steps

pub then_gave : {A B : Type 0} (a : Answer A) (f : A → Answer B) (b : B) → and_then a f ≡ Gives b → (x : A) × (a ≡ Gives x) × (f x ≡ Gives b)
then_gave (Gives x) f b h = (x, refl, h)
then_gave (Refuses rule file at) f b h = absurd cc

pub gives_same : {A : Type 0} (x y : A) → Gives x ≡ Gives y → x ≡ y
gives_same x y h = cc

in_file_gave : {A : Type 0} (file : ℕ) (j : Judged A) (a : A) → in_file file j ≡ Gives a → j ≡ Fine a
in_file_gave file (Fine b) a h = ap Fine (gives_same b a h)
in_file_gave file (Broken rule at) a h = absurd cc

-- ---- bodies that break no rule of scope

-- each declaration has a name without a dot, and no two have the same
pub record IsFineBody (body : Tree) : Type 0 where
  pub named : IsNamedBody body
  pub once : (x : List ℕ) → total x (params_of body) + total x (members_of body) ≤ 1

pub fine_body : (files : List Source) (s : Source) (body : Tree) → IsNamedBody (body_of s.tree) → source_resolved files s ≡ Gives body → IsFineBody body
fine_body files s body named h =
    let (seen, a, i) = then_gave (names_seen files s) (λ seen. in_file s.file (body_resolved (body_of s.tree) seen)) body h in
    let (own, b, j) = then_gave (in_file s.file (names_declared s.name (body_of s.tree)))
    (λ own. and_then (imports_brought files s.file (imports_of s.tree) []) (λ brought. Gives (with_seen brought own))) seen a in
    let like = body_kept (body_of s.tree) body seen (in_file_gave s.file (body_resolved (body_of s.tree) seen) body i) in
    let declares = in_file_gave s.file (names_declared s.name (body_of s.tree)) own b in
    record {
      named = record { params = like.params.named named.params; members = like.members.named named.members };
      once = λ x.
          let e = declared_once s.name (body_of s.tree) own declares x in
          let f = like.params.same x in
          let g = like.members.same x in
          omega arith;
    }

-- ---- the texts that stand for what a unit declares

abbrev full : List ℕ → (class : List ℕ) → Declared → ℕ
full x class (a_param name) = 0
full x class (a_variable name) = one (bytes_eq x (class ++ dot ∷ name))
full x class (a_routine name) = one (bytes_eq x (class ++ dot ∷ name))
full x class (a_procedure name) = 0
full x class nothing = 0

abbrev full_total : List ℕ → (class : List ℕ) → Tree → ℕ
full_total x class (tree.cons m ms) = full x class (declared m) + full_total x class ms
full_total x class other = 0

abbrev names_in : List Outer → List (List ℕ)
names_in os = map (λ o. o.name) os

-- how often a text stands for what was gathered
abbrev pub outside : List ℕ → Gathered → ℕ
outside x g = count x (map (λ o. o.name) g.vars) + count x (map (λ o. o.name) g.funs)

one_outside : (x : List ℕ) (os : List Outer) (o : Outer) → count x (names_in (os ++ o ∷ [])) ≡ count x (names_in os) + one (bytes_eq x o.name)
one_outside x os o = let e = ap (λ ns. count x ns) (map-append (λ y. y.name) os (o ∷ [])) in let f = count-append x (names_in os) (o.name ∷ []) in omega arith

declaration_outside : (x class : List ℕ) (file : ℕ) (m : Tree) (g : Gathered) → outside x (with_declaration class file m g) ≡ outside x g + full x class (declared m)
declaration_outside x class file (tree.param shape (tree.ident name place) start at) g = omega arith
declaration_outside x class file (tree.var shape (tree.ident name place) start changes at) g =
    let e = one_outside x g.vars (outer class file name (tree.var shape (tree.ident name place) start changes at)) in omega arith
declaration_outside x class file (tree.function (tree.ident name place) formals result vars body at) g =
    let e = one_outside x g.funs (outer class file name (tree.function (tree.ident name place) formals result vars body at)) in omega arith
declaration_outside x class file (tree.procedure (tree.ident name place) formals vars body at) g = omega arith
declaration_outside x class file _ g = omega arith

all_outside : (x class : List ℕ) (file : ℕ) (ms : Tree) (g : Gathered) → outside x (with_declarations class file ms g) ≡ outside x g + full_total x class ms
all_outside x class file (tree.cons m ms) g =
    let e = declaration_outside x class file m g in
    let f = all_outside x class file ms (with_declaration class file m g) in
    omega arith
all_outside x class file _ g = omega arith

-- a text that stands for a declaration of a unit of this class
pub record IsFull (x class : List ℕ) : Type 0 where
  pub name : List ℕ
  pub word : IsWord name
  pub is : x ≡ class ++ dot ∷ name

data IsFullOr (x class : List ℕ) (n : ℕ) : Type 0 where
  never : n ≡ 0 → IsFullOr x class n
  is_full : IsFull x class → IsFullOr x class n

full_one : (x class name : List ℕ) → IsWord name → IsFullOr x class (one (bytes_eq x (class ++ dot ∷ name)))
full_one x class name w = go (bytes_eq x (class ++ dot ∷ name)) (bytes_eq-Decides x (class ++ dot ∷ name)).0
  where
    go : (b : Bool) → (b ≡ true → x ≡ class ++ dot ∷ name) → IsFullOr x class (one b)
    go true same = is_full (record { name = name; word = w; is = same refl })
    go false same = never refl

full_or : (x class : List ℕ) (m : Tree) → IsNamed m → IsFullOr x class (full x class (declared m))
full_or x class (tree.param shape (tree.ident name place) start at) n = never refl
full_or x class (tree.var shape (tree.ident name place) start changes at) n = full_one x class name n
full_or x class (tree.function (tree.ident name place) formals result vars body at) n = full_one x class name n
full_or x class (tree.procedure (tree.ident name place) formals vars body at) n = never refl
full_or x class _ n = never refl

either_full : (x class : List ℕ) (a b : ℕ) → IsFullOr x class a → IsFullOr x class b → IsFullOr x class (a + b)
either_full x class a b (is_full f) k = is_full f
either_full x class a b (never h) (is_full f) = is_full f
either_full x class a b (never h) (never k) = never (omega arith)

total_full : (x class : List ℕ) (ms : Tree) → AreNamed ms → IsFullOr x class (full_total x class ms)
total_full x class (tree.cons m ms) n =
    either_full x class (full x class (declared m)) (full_total x class ms) (full_or x class m n.0) (total_full x class ms n.1)
total_full x class _ n = never refl

-- .. as often as its name is declared
one_fewer : (class n name : List ℕ) → IsWord n → IsWord name → one (bytes_eq (class ++ dot ∷ n) (class ++ dot ∷ name)) ≤ one (bytes_eq n name)
one_fewer class n name v w = go (bytes_eq (class ++ dot ∷ n) (class ++ dot ∷ name)) (bytes_eq-Decides (class ++ dot ∷ n) (class ++ dot ∷ name)).0
  where
    go : (b : Bool) → (b ≡ true → class ++ dot ∷ n ≡ class ++ dot ∷ name) → one b ≤ one (bytes_eq n name)
    go true same =
        let e = (split class class n name v w (same refl)).behind in
        let f : one (bytes_eq n name) ≡ 1 = subst (λ z. one (bytes_eq n z) ≡ 1) e (itself n) in
        omega arith
    go false same = omega arith

full_fewer : (class n : List ℕ) (m : Tree) → IsWord n → IsNamed m → full (class ++ dot ∷ n) class (declared m) ≤ times n (declared m)
full_fewer class n (tree.param shape (tree.ident name place) start at) v w = omega arith
full_fewer class n (tree.var shape (tree.ident name place) start changes at) v w = one_fewer class n name v w
full_fewer class n (tree.function (tree.ident name place) formals result vars body at) v w = one_fewer class n name v w
full_fewer class n (tree.procedure (tree.ident name place) formals vars body at) v w = omega arith
full_fewer class n _ v w = omega arith

total_fewer : (class n : List ℕ) (ms : Tree) → IsWord n → AreNamed ms → full_total (class ++ dot ∷ n) class ms ≤ total n ms
total_fewer class n (tree.cons m ms) v w =
    let e = full_fewer class n m v w.0 in
    let f = total_fewer class n ms v w.1 in
    omega arith
total_fewer class n _ v w = omega arith

-- ---- all that is gathered

-- a text stands for nothing that was gathered, or for a declaration of a unit that isn't gathered again
pub data IsPlaced (x : List ℕ) (classes : List (List ℕ)) (n : ℕ) : Type 0 where
  stands_for_none : n ≡ 0 → IsPlaced x classes n
  stands_for_one : (class : List ℕ) → IsFull x class → count class classes ≡ 0 → IsPlaced x classes n

-- what was gathered before the units of these classes
pub record IsSound (classes : List (List ℕ)) (g : Gathered) : Type 0 where
  pub single : (x : List ℕ) → outside x g ≤ 1
  pub places : (x : List ℕ) → IsPlaced x classes (outside x g)

fewer_to_come : (x class : List ℕ) (classes : List (List ℕ)) (n : ℕ) → IsPlaced x (class ∷ classes) n → IsPlaced x classes n
fewer_to_come x class classes n (stands_for_none e) = stands_for_none e
fewer_to_come x class classes n (stands_for_one c f e) = stands_for_one c f (omega arith)

passed_over : (class : List ℕ) (classes : List (List ℕ)) (g : Gathered) → IsSound (class ∷ classes) g → IsSound classes g
passed_over class classes g h = record { single = h.single; places = λ x. fewer_to_come x class classes (outside x g) (h.places x) }

not_again : (x class : List ℕ) (classes : List (List ℕ)) (n : ℕ) → IsFull x class → IsPlaced x (class ∷ classes) n → n ≡ 0
not_again x class classes n f (stands_for_none e) = e
not_again x class classes n f (stands_for_one c k e) =
    let same : c ≡ class = (split c class k.name f.name k.word f.word (sym k.is ∙ f.is)).before in
    let one_is : one (bytes_eq c class) ≡ 1 = subst (λ z. one (bytes_eq c z) ≡ 1) same (itself c) in
    absurd (omega arith)

unit_sound : (class : List ℕ) (classes : List (List ℕ)) (file : ℕ) (body : Tree) (g : Gathered) → IsFineBody body → count class classes ≡ 0
    → IsSound (class ∷ classes) g → IsSound classes (with_declarations class file (members_of body) g)
unit_sound class classes file body g fine new h = record {
  single = λ x. single x (total_full x class (members_of body) fine.named.members) (all_outside x class file (members_of body) g);
  places = λ x. places x (total_full x class (members_of body) fine.named.members) (all_outside x class file (members_of body) g);
}
  where
    out : Gathered
    out = with_declarations class file (members_of body) g

    single : (x : List ℕ) → IsFullOr x class (full_total x class (members_of body)) → outside x out ≡ outside x g + full_total x class (members_of body) → outside x out ≤ 1
    single x (never e) all = let few = h.single x in omega arith
    single x (is_full f) all =
        let none = not_again x class classes (outside x g) f (h.places x) in
        let few = total_fewer class f.name (members_of body) f.word fine.named.members in
        let here : full_total x class (members_of body) ≤ total f.name (members_of body) = subst (λ z. full_total z class (members_of body) ≤ total f.name (members_of body)) (sym f.is) few in
        let once = fine.once f.name in
        omega arith

    moved : (x : List ℕ) (n m : ℕ) → m ≡ n → IsPlaced x classes n → IsPlaced x classes m
    moved x n m e p = subst (IsPlaced x classes) (sym e) p

    places : (x : List ℕ) → IsFullOr x class (full_total x class (members_of body)) → outside x out ≡ outside x g + full_total x class (members_of body) → IsPlaced x classes (outside x out)
    places x (never e) all = moved x (outside x g) (outside x out) (omega arith) (fewer_to_come x class classes (outside x g) (h.places x))
    places x (is_full f) all = stands_for_one class f new

-- ---- files by their classes

abbrev pub AllNamed : List Source → Type 0
AllNamed files = Each (λ s. IsNamedBody (body_of s.tree)) files

pub record IsFound (name : List ℕ) (s : Source) : Type 0 where
  pub same : name ≡ s.name
  pub named : IsNamedBody (body_of s.tree)

pub found : (name : List ℕ) (files : List Source) (s : Source) → AllNamed files → source_named name files ≡ Some s → IsFound name s
found name [] s all h = absurd cc
found name (f ∷ fs) s all h = go (bytes_eq name f.name) (bytes_eq-Decides name f.name).0 (λ i. found name fs s all.1 i) h
  where
    some_same : Some f ≡ Some s → f ≡ s
    some_same e = cc

    go : (b : Bool) → (b ≡ true → name ≡ f.name) → (source_named name fs ≡ Some s → IsFound name s) → (if b then Some f else source_named name fs) ≡ Some s → IsFound name s
    go true same behind i = subst (λ t. IsFound name t) (some_same i) (record { same = same refl; named = all.0 })
    go false same behind i = behind i

gathered_sound : (files : List Source) (s : Source) (classes : List (List ℕ)) (g out : Gathered) → IsNamedBody (body_of s.tree) → count s.name classes ≡ 0
    → IsSound (s.name ∷ classes) g → source_gathered files s g ≡ Gives out → IsSound classes out
gathered_sound files s classes g out named new sound h =
    let (u, a, i) = then_gave (as_asked true s) (λ _. and_then (source_resolved files s) (λ body. Gives (with_declarations s.name s.file (members_of body) g))) out h in
    let (body, b, j) = then_gave (source_resolved files s) (λ body. Gives (with_declarations s.name s.file (members_of body) g)) out i in
    subst (IsSound classes) (gives_same (with_declarations s.name s.file (members_of body) g) out j)
    (unit_sound s.name classes s.file body g (fine_body files s body named b) new sound)

named_sound : (files : List Source) (name : List ℕ) (o : Option Source) (classes : List (List ℕ)) (g out : Gathered) → ((s : Source) → o ≡ Some s → IsFound name s)
    → count name classes ≡ 0 → IsSound (name ∷ classes) g → unit_gathered files o g ≡ Gives out → IsSound classes out
named_sound files name None classes g out is new sound h = subst (IsSound classes) (gives_same g out h) (passed_over name classes g sound)
named_sound files name (Some s) classes g out is new sound h =
    let it = is s refl in
    gathered_sound files s classes g out it.named (subst (λ c. count c classes ≡ 0) it.same new) (subst (λ c. IsSound (c ∷ classes) g) it.same sound) h

pub all_sound : (files : List Source) (classes : List (List ℕ)) (g out : Gathered) → AllNamed files → AreSingle classes → IsSound classes g → units_gathered files classes g ≡ Gives out
    → IsSound [] out
all_sound files [] g out all single sound h = subst (IsSound []) (gives_same g out h) sound
all_sound files (name ∷ classes) g out all single sound h =
    let (next, a, i) = then_gave (unit_gathered files (source_named name files) g) (λ next. units_gathered files classes next) out h in
    let new : count name classes ≡ 0 = (let e = single name in let f = itself name in omega arith) in
    all_sound files classes next out all (λ x. let e = single x in omega arith)
    (named_sound files name (source_named name files) classes g next (λ s. found name files s all) new sound a) i

pub nothing_gathered : (classes : List (List ℕ)) → IsSound classes (record { vars = []; funs = [] })
nothing_gathered classes = record { single = λ x. omega arith; places = λ x. stands_for_none refl }
