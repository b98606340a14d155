-- What the names stand for that a file sees: its own, and those that its imports bring.
use Rattle.std.proofs.Common.{◌≡◌, ℕ, Bool, true, false, List, [], ◌∷◌, ◌++◌, refl}
use Rattle.std.specs.Prelude.{Option, None, Some, is_some, if◌then◌else◌}
use Rattle.rvc_base.specs.Rules.{declared_twice}
use Rattle.cal_ast.specs.Tree as tree
use Rattle.cal_ast.specs.Tree.{Tree}
use Rattle.cal_model.specs.Kinding.{Fine, Broken}
use Rattle.cal_model.specs.Sound.{Each}
use Rattle.cal_scope.specs.declared.role.Role.TheVariants.{Variable, Function, Procedure}
use Rattle.cal_scope.specs.Globals.{global, with_all_declared, with_declared, with_global}
use Rattle.cal_scope.specs.Names.{Global, global_named}
use Rattle.cal_imports.specs.Answer.{Gives, and_then, in_file}
use Rattle.cal_imports.specs.Behind.{LeadAmong}
use Rattle.cal_imports.specs.Brought.{asked_brought, brought_beside, imports_brought, names_declared, names_seen, same_brought, unit_brought, with_all_brought, with_brought, with_last_brought, with_seen}
use Rattle.cal_imports.specs.Sources.{Source, body_of, dotted, imports_of, source_named}
use Rattle.cal_imports.specs.Whole.{import_edges}
use Rattle.cal_scope.specs.Names.{is_among}
use Rattle.law_sources.proofs.FormJudgements.{OnFine, OnGives, in_file_on, so_then, then_on}
use Rattle.law_sources.proofs.Meant.{OnSome, named_meant}
use Rattle.law_sources.proofs.Shaped.{AreImports}

each_last : (Q : Global → Type 0) (gs : List Global) (g : Global) → Each Q gs → Q g → Each Q (gs ++ g ∷ [])
each_last Q [] g h q = (q, tt)
each_last Q (f ∷ fs) g h q = (h.0, each_last Q fs g h.1 q)

-- ---- what declarations declare

-- what a declaration declares, with this before its name, is such
abbrev pub Declares : (Q : Global → Type 0) → (before : List ℕ) → Tree → Type 0
Declares Q before (tree.param shape (tree.ident name place) start at) = Q (global before name Variable)
Declares Q before (tree.var shape (tree.ident name place) start changes at) = Q (global before name Variable)
Declares Q before (tree.function (tree.ident name place) formals result vars body at) = Q (global before name Function)
Declares Q before (tree.procedure (tree.ident name place) formals vars body at) = Q (global before name Procedure)
Declares Q before other = Unit {0}

abbrev pub AllDeclare : (Q : Global → Type 0) → (before : List ℕ) → Tree → Type 0
AllDeclare Q before (tree.cons m ms) = Declares Q before m × AllDeclare Q before ms
AllDeclare Q before other = Unit {0}

one_declared : (Q : Global → Type 0) (g : Global) (at : ℕ) (here : List Global) → Q g → Each Q here → OnFine (Each Q) (with_global g at here)
one_declared Q g at here q h = go (is_some (global_named g.name here))
  where
    go : (b : Bool) → OnFine (Each Q) (if b then Broken declared_twice at else Fine (here ++ g ∷ []))
    go true = tt
    go false = each_last Q here g h q

declared_on : (Q : Global → Type 0) (before : List ℕ) (m : Tree) (here : List Global) → Declares Q before m → Each Q here → OnFine (Each Q) (with_declared before m here)
declared_on Q before (tree.param shape (tree.ident name place) start at) here d h = one_declared Q (global before name Variable) at here d h
declared_on Q before (tree.var shape (tree.ident name place) start changes at) here d h = one_declared Q (global before name Variable) at here d h
declared_on Q before (tree.function (tree.ident name place) formals result vars body at) here d h = one_declared Q (global before name Function) at here d h
declared_on Q before (tree.procedure (tree.ident name place) formals vars body at) here d h = one_declared Q (global before name Procedure) at here d h
declared_on Q before _ here d h = h

pub all_declared_on : (Q : Global → Type 0) (before : List ℕ) (ms : Tree) (here : List Global) → AllDeclare Q before ms → Each Q here → OnFine (Each Q) (with_all_declared before ms here)
all_declared_on Q before (tree.cons m ms) here d h =
    so_then (Each Q) (Each Q) (with_declared before m here) (λ next. with_all_declared before ms next) (declared_on Q before m here d.0 h)
    (λ next i. all_declared_on Q before ms next d.1 i)
all_declared_on Q before _ here d h = h

-- ---- what imports bring

brought_on : (Q : Global → Type 0) (g : Global) (at : ℕ) (here : List Global) → Q g → Each Q here → OnFine (Each Q) (with_brought g at here)
brought_on Q g at here q h = go (same_brought g here)
  where
    go : (o : Option Bool) → OnFine (Each Q) (brought_beside o g at here)
    go None = each_last Q here g h q
    go (Some true) = h
    go (Some false) = tt

all_brought_on : (Q : Global → Type 0) (gs : List Global) (at : ℕ) (here : List Global) → Each Q gs → Each Q here → OnFine (Each Q) (with_all_brought gs at here)
all_brought_on Q [] at here q h = h
all_brought_on Q (g ∷ gs) at here q h =
    so_then (Each Q) (Each Q) (with_brought g at here) (λ next. with_all_brought gs at next) (brought_on Q g at here q.0 h) (λ next i. all_brought_on Q gs at next q.1 i)

asked_on : (Q : Global → Type 0) (o : Option Global) (place at : ℕ) (here : List Global) → OnSome Q o → Each Q here → OnFine (Each Q) (asked_brought o place at here)
asked_on Q None place at here q h = tt
asked_on Q (Some g) place at here q h = brought_on Q g at here q h

last_brought_on : (Q : Global → Type 0) (last : Tree) (gs : List Global) (at : ℕ) (here : List Global) → Each Q gs → Each Q here → OnFine (Each Q) (with_last_brought last gs at here)
last_brought_on Q (tree.present (tree.ident name place)) gs at here q h = asked_on Q (global_named name gs) place at here (named_meant Q name gs q) h
last_brought_on Q _ gs at here q h = all_brought_on Q gs at here q h

-- what a file declares is such
abbrev pub FileDeclares : (Q : Global → Type 0) → Source → Type 0
FileDeclares Q s = OnFine (Each Q) (names_declared s.name (body_of s.tree))

-- .. and what the files of these classes declare
abbrev pub FilesDeclare : (Q : Global → Type 0) → (files : List Source) → (classes : List (List ℕ)) → Type 0
FilesDeclare Q files classes = (x : List ℕ) (u : Source) → is_among x classes ≡ true → source_named x files ≡ Some u → FileDeclares Q u

unit_brought_on : (Q : Global → Type 0) (o : Option Source) (file : ℕ) (last : Tree) (at : ℕ) (here : List Global) → ((u : Source) → o ≡ Some u → FileDeclares Q u) → Each Q here
    → OnGives (Each Q) (unit_brought o file last at here)
unit_brought_on Q None file last at here q h = tt
unit_brought_on Q (Some u) file last at here q h =
    then_on (Each Q) (Each Q) (in_file u.file (names_declared u.name (body_of u.tree))) (λ gs. in_file file (with_last_brought last gs at here))
    (in_file_on (Each Q) u.file (names_declared u.name (body_of u.tree)) (q u refl))
    (λ gs i. in_file_on (Each Q) file (with_last_brought last gs at here) (last_brought_on Q last gs at here i h))

imports_on : (Q : Global → Type 0) (files : List Source) (classes : List (List ℕ)) (file : ℕ) (is : Tree) (here : List Global) → AreImports is → LeadAmong (import_edges is) classes
    → FilesDeclare Q files classes → Each Q here → OnGives (Each Q) (imports_brought files file is here)
imports_on Q files classes file (tree.cons (tree.import_part path last at) is) here s led q h =
    then_on (Each Q) (Each Q) (unit_brought (source_named (dotted path) files) file last at here) (λ next. imports_brought files file is next)
    (unit_brought_on Q (source_named (dotted path) files) file last at here (λ u e. q (dotted path) u led.0 e) h)
    (λ next i. imports_on Q files classes file is next s.1 led.1 q i)
imports_on Q files classes file (tree.cons _ is) here s led q h = absurd s.0
imports_on Q files classes file _ here s led q h = h

-- ---- what a file sees

seen_on : (Q : Global → Type 0) (brought own : List Global) → Each Q brought → Each Q own → Each Q (with_seen brought own)
seen_on Q [] own b h = h
seen_on Q (g ∷ gs) own b h = go (is_some (global_named g.name own)) (λ next i. seen_on Q gs next b.1 i)
  where
    go : (c : Bool) → ((next : List Global) → Each Q next → Each Q (with_seen gs next)) → Each Q (with_seen gs (if c then own else own ++ g ∷ []))
    go true rest = rest own h
    go false rest = rest (own ++ g ∷ []) (each_last Q own g h b.0)

pub names_seen_on : (Q : Global → Type 0) (files : List Source) (classes : List (List ℕ)) (s : Source) → AreImports (imports_of s.tree)
    → LeadAmong (import_edges (imports_of s.tree)) classes → FilesDeclare Q files classes → FileDeclares Q s → OnGives (Each Q) (names_seen files s)
names_seen_on Q files classes s shaped led q own =
    then_on (Each Q) (Each Q) (in_file s.file (names_declared s.name (body_of s.tree)))
    (λ own. and_then (imports_brought files s.file (imports_of s.tree) []) (λ brought. Gives (with_seen brought own)))
    (in_file_on (Each Q) s.file (names_declared s.name (body_of s.tree)) own)
    (λ gs i. then_on (Each Q) (Each Q) (imports_brought files s.file (imports_of s.tree) []) (λ brought. Gives (with_seen brought gs))
    (imports_on Q files classes s.file (imports_of s.tree) [] shaped led q tt) (λ brought j. seen_on Q brought gs j i))
