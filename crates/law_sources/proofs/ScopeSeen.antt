-- The texts that stand for the names that a file sees are those names, or have a dot.
use Rattle.std.proofs.Common.{◌≡◌, ℕ, Bool, true, false, List, [], ◌∷◌, ◌++◌, refl, ap, subst}
use Rattle.std.specs.Prelude.{Option, None, Some, is_some, if◌then◌else◌}
use Rattle.rvc_base.specs.Rules.{declared_twice}
use Rattle.cal_ast.specs.Tree as tree
use Rattle.cal_ast.specs.Tree.{Tree}
use Rattle.cal_model.specs.Kinding.{Fine, Broken}
use Rattle.cal_scope.specs.declared.role.Role.{Role}
use Rattle.cal_scope.specs.declared.role.Role.TheVariants.{Variable, Function, Procedure}
use Rattle.cal_scope.specs.Globals.{global, with_all_declared, with_declared, with_global}
use Rattle.cal_scope.specs.Names.{Global, global_named}
use Rattle.cal_imports.specs.Answer.{Gives, and_then, in_file}
use Rattle.cal_imports.specs.Brought.{asked_brought, brought_beside, import_brought, imports_brought, names_declared, names_seen, same_brought, unit_brought, with_all_brought, with_brought, with_last_brought, with_seen}
use Rattle.cal_imports.specs.Sources.{Source, body_of, dot, dotted, imports_of, source_named}
use Rattle.law_sources.proofs.WordTokens.{IsWord, word_has_no_dot}
use Rattle.law_sources.proofs.Called.{AreTold, IsTold, IsToldAs, OnSome, dotted as has_dot, named_told, plain}
use Rattle.law_sources.proofs.ScopeJudgements.{OnFine, OnGives, in_file_on, so_then, then_on}
use Rattle.law_sources.proofs.ScopeMembers.{each_append}

-- ---- what declarations declare

-- what stands before a name tells
abbrev IsToldBehind : List ℕ → Type 0
IsToldBehind before = (name : List ℕ) (role : Role) → IsTold (global before name role)

own_told : IsToldBehind []
own_told name role = plain refl

after_dot : (class name : List ℕ) → (class ++ dot ∷ []) ++ name ≡ class ++ dot ∷ name
after_dot [] name = refl
after_dot (c ∷ class) name = ap (λ text. c ∷ text) (after_dot class name)

unit_told : (class : List ℕ) → IsToldBehind (class ++ dot ∷ [])
unit_told class name role = has_dot (λ w. word_has_no_dot class name (subst IsWord (after_dot class name) w))

one_declared : (g : Global) (at : ℕ) (here : List Global) → IsTold g → AreTold here → OnFine AreTold (with_global g at here)
one_declared g at here h all = go (is_some (global_named g.name here))
  where
    go : (b : Bool) → OnFine AreTold (if b then Broken declared_twice at else Fine (here ++ g ∷ []))
    go true = tt
    go false = each_append IsTold here (g ∷ []) all (h, tt)

declaration_told : (before : List ℕ) (m : Tree) (here : List Global) → IsToldBehind before → AreTold here → OnFine AreTold (with_declared before m here)
declaration_told before (tree.param shape (tree.ident name place) start at) here b h = one_declared (global before name Variable) at here (b name Variable) h
declaration_told before (tree.var shape (tree.ident name place) start changes at) here b h = one_declared (global before name Variable) at here (b name Variable) h
declaration_told before (tree.function (tree.ident name place) formals result vars body at) here b h =
    one_declared (global before name Function) at here (b name Function) h
declaration_told before (tree.procedure (tree.ident name place) formals vars body at) here b h =
    one_declared (global before name Procedure) at here (b name Procedure) h
declaration_told before _ here b h = h

all_told : (before : List ℕ) (ms : Tree) (here : List Global) → IsToldBehind before → AreTold here → OnFine AreTold (with_all_declared before ms here)
all_told before (tree.cons m ms) here b h =
    so_then AreTold AreTold (with_declared before m here) (λ next. with_all_declared before ms next) (declaration_told before m here b h)
    (λ next k. all_told before ms next b k)
all_told before _ here b h = h

declared_told : (class : List ℕ) (body : Tree) → OnFine AreTold (names_declared class body)
declared_told class (tree.unit name members at) = all_told (class ++ dot ∷ []) members [] (unit_told class) tt
declared_told class (tree.actor name params ins outs members at) =
    so_then AreTold AreTold (with_all_declared [] params []) (λ here. with_all_declared [] members here) (all_told [] params [] own_told tt)
    (λ here k. all_told [] members here own_told k)
declared_told class _ = tt

-- ---- what imports bring

beside_told : (o : Option Bool) (g : Global) (at : ℕ) (here : List Global) → IsTold g → AreTold here → OnFine AreTold (brought_beside o g at here)
beside_told None g at here h all = each_append IsTold here (g ∷ []) all (h, tt)
beside_told (Some true) g at here h all = all
beside_told (Some false) g at here h all = tt

one_told : (g : Global) (at : ℕ) (here : List Global) → IsTold g → AreTold here → OnFine AreTold (with_brought g at here)
one_told g at here h all = beside_told (same_brought g here) g at here h all

all_brought_told : (unit : List Global) (at : ℕ) (here : List Global) → AreTold unit → AreTold here → OnFine AreTold (with_all_brought unit at here)
all_brought_told [] at here u h = h
all_brought_told (g ∷ gs) at here u h =
    so_then AreTold AreTold (with_brought g at here) (λ next. with_all_brought gs at next) (one_told g at here u.0 h) (λ next k. all_brought_told gs at next u.1 k)

asked_told : (o : Option Global) (place at : ℕ) (here : List Global) → OnSome IsTold o → AreTold here → OnFine AreTold (asked_brought o place at here)
asked_told None place at here o h = tt
asked_told (Some g) place at here o h = one_told g at here o h

some_told : (name : List ℕ) (unit : List Global) → AreTold unit → OnSome IsTold (global_named name unit)
some_told name unit u = go (global_named name unit) (named_told name unit u)
  where
    go : (o : Option Global) → OnSome (λ g. IsToldAs name g) o → OnSome IsTold o
    go None h = tt
    go (Some g) h = h.told

last_told : (last : Tree) (unit : List Global) (at : ℕ) (here : List Global) → AreTold unit → AreTold here → OnFine AreTold (with_last_brought last unit at here)
last_told (tree.present (tree.ident name place)) unit at here u h = asked_told (global_named name unit) place at here (some_told name unit u) h
last_told _ unit at here u h = all_brought_told unit at here u h

unit_brings : (o : Option Source) (file : ℕ) (last : Tree) (at : ℕ) (here : List Global) → AreTold here → OnGives AreTold (unit_brought o file last at here)
unit_brings None file last at here h = tt
unit_brings (Some s) file last at here h =
    then_on AreTold AreTold (in_file s.file (names_declared s.name (body_of s.tree))) (λ unit. in_file file (with_last_brought last unit at here))
    (in_file_on AreTold s.file (names_declared s.name (body_of s.tree)) (declared_told s.name (body_of s.tree)))
    (λ unit u. in_file_on AreTold file (with_last_brought last unit at here) (last_told last unit at here u h))

import_brings : (files : List Source) (file : ℕ) (i : Tree) (here : List Global) → AreTold here → OnGives AreTold (import_brought files file i here)
import_brings files file (tree.import_part path last at) here h = unit_brings (source_named (dotted path) files) file last at here h
import_brings files file _ here h = h

imports_bring : (files : List Source) (file : ℕ) (is : Tree) (here : List Global) → AreTold here → OnGives AreTold (imports_brought files file is here)
imports_bring files file (tree.cons i is) here h =
    then_on AreTold AreTold (import_brought files file i here) (λ next. imports_brought files file is next) (import_brings files file i here h)
    (λ next k. imports_bring files file is next k)
imports_bring files file _ here h = h

-- ---- what a file sees

added_told : (g : Global) (own : List Global) (b : Bool) → IsTold g → AreTold own → AreTold (if b then own else own ++ g ∷ [])
added_told g own true h k = k
added_told g own false h k = each_append IsTold own (g ∷ []) k (h, tt)

with_told : (brought own : List Global) → AreTold brought → AreTold own → AreTold (with_seen brought own)
with_told [] own h k = k
with_told (g ∷ gs) own h k =
    with_told gs (if is_some (global_named g.name own) then own else own ++ g ∷ []) h.1 (added_told g own (is_some (global_named g.name own)) h.0 k)

pub seen_told : (files : List Source) (s : Source) → OnGives AreTold (names_seen files s)
seen_told files s =
    then_on AreTold AreTold (in_file s.file (names_declared s.name (body_of s.tree)))
    (λ own. and_then (imports_brought files s.file (imports_of s.tree) []) (λ brought. Gives (with_seen brought own)))
    (in_file_on AreTold s.file (names_declared s.name (body_of s.tree)) (declared_told s.name (body_of s.tree)))
    (λ own k. then_on AreTold AreTold (imports_brought files s.file (imports_of s.tree) []) (λ brought. Gives (with_seen brought own))
    (imports_bring files s.file (imports_of s.tree) [] tt) (λ brought h. with_told brought own h k))
