-- The scope of an actor among files that texts spell.
use Rattle.std.proofs.Common.{◌≡◌, ℕ, Bool, true, false, ◌&&◌, List, [], ◌∷◌, ◌++◌, map, refl, ap, subst, ◌∙◌}
use Rattle.std.specs.Prelude.{Option, None, Some, if◌then◌else◌}
use Rattle.std.specs.Str.{bytes_eq}
use Rattle.rvc_base.specs.Rules.{not_as_asked}
use Rattle.cal_ast.specs.Tree as tree
use Rattle.cal_ast.specs.Tree.{Tree}
use Rattle.cal_model.specs.Sound.{Each}
use Rattle.cal_check.specs.Actors as check
use Rattle.cal_check.specs.Formed.{IsFunFormed}
use Rattle.cal_imports.specs.Answer.{Answer, Gives, Refuses, and_then}
use Rattle.cal_imports.specs.Behind.{LeadAmong, edges_of}
use Rattle.cal_imports.specs.OneFile.{source_resolved}
use Rattle.cal_imports.specs.Recursion.{call_graph, call_order, above_all, edge_to, routines, without_recursion}
use Rattle.cal_imports.specs.Resolved.{resolved_source, source_linked}
use Rattle.cal_imports.specs.Sources.{Source, as_asked, body_of, class_of, imports_of, is_as_asked, is_unit, same_truth, source_named}
use Rattle.cal_imports.specs.Walk.{Node, entering, node_named}
use Rattle.cal_imports.specs.Whole.{Gathered, Outer, Scope, actor_gathered, file_graph, file_node, import_edges, import_order, members_of, outer, scope_of, source_gathered, unit_gathered, units_gathered, with_declaration, with_declarations, with_file_nodes}
use Rattle.law_sources.specs.Names.{AreSpelled, IsSpelled}
use Rattle.law_sources.proofs.Gathered.{fine_body, gives_same, then_gave}
use Rattle.law_sources.proofs.NamedMembers.{AreNamed, IsNamedBody, file_named}
use Rattle.law_sources.proofs.WordTokens.{lexed_words}
use Rattle.law_sources.proofs.Bodies.{HasDot, IsCalled, IsProcedure, actor_formed, unit_declares, unit_formed}
use Rattle.law_sources.proofs.FormJudgements.{OnGives, on_answer, then_on}
use Rattle.law_sources.proofs.Meant.{IsMeant}
use Rattle.law_sources.proofs.FormMembers.{AllDeclCalls, AreFormedMembers, AreMembers, DeclCalls, IsFormedMember, Never}
use Rattle.law_sources.proofs.Nodes.{added, each_among, each_both, find_added, order_leads}
use Rattle.law_sources.proofs.FormSeen.{FilesDeclare}
use Rattle.law_sources.proofs.Shaped.{IsShapedFile, file_shaped}
use Rattle.law_sources.proofs.Walks.{IsEnd, order_ends}

-- ---- files by their classes

abbrev AreShapedFiles : List Source → Type 0
AreShapedFiles files = Each (λ s. IsShapedFile s.tree) files

spelled_shaped : (files : List Source) → AreSpelled files → AreShapedFiles files
spelled_shaped [] h = tt
spelled_shaped (s ∷ ss) h = (file_shaped h.0.is_file.spelled, spelled_shaped ss h.1)

named_source : (Q : Source → Type 0) (x : List ℕ) (files : List Source) (u : Source) → Each Q files → source_named x files ≡ Some u → Q u
named_source Q x [] u h e = absurd cc
named_source Q x (f ∷ fs) u h e = go (bytes_eq x f.name) e (named_source Q x fs u h.1)
  where
    some_same : Some f ≡ Some u → f ≡ u
    some_same i = cc

    go : (b : Bool) → (if b then Some f else source_named x fs) ≡ Some u → (source_named x fs ≡ Some u → Q u) → Q u
    go true i rest = subst Q (some_same i) h.0
    go false i rest = rest i

nodes_added : (files : List Source) (ns : List Node) → with_file_nodes files ns ≡ added (map file_node files) ns
nodes_added [] ns = refl
nodes_added (s ∷ ss) ns = nodes_added ss _

named_node : (x : List ℕ) (files : List Source) (u : Source) → source_named x files ≡ Some u → node_named x (map file_node files) ≡ Some (file_node u)
named_node x [] u e = absurd cc
named_node x (f ∷ fs) u e = go (bytes_eq x f.name) e (named_node x fs u)
  where
    some_same : Some f ≡ Some u → f ≡ u
    some_same i = cc

    go : (b : Bool) → (if b then Some f else source_named x fs) ≡ Some u → (source_named x fs ≡ Some u → node_named x (map file_node fs) ≡ Some (file_node u))
        → (if b then Some (file_node f) else node_named x (map file_node fs)) ≡ Some (file_node u)
    go true i rest = ap (λ s. Some (file_node s)) (some_same i)
    go false i rest = rest i

node_of_file : (x : List ℕ) (files : List Source) (u : Source) → source_named x files ≡ Some u → node_named x (file_graph files).nodes ≡ Some (file_node u)
node_of_file x files u e = ap (node_named x) (nodes_added files []) ∙ find_added x (map file_node files) [] ∙ named_node x files u e

-- ---- imports lead to units

both : (a b : Bool) → (a && b) ≡ true → a ≡ true
both true b h = refl
both false b h = absurd cc

asked_for : (unit : Bool) (s : Source) (t : Unit {0}) → as_asked unit s ≡ Gives t → same_truth unit (is_unit (body_of s.tree)) ≡ true
asked_for unit s t h = go (is_as_asked unit s) refl h
  where
    go : (b : Bool) → is_as_asked unit s ≡ b → (if b then Gives tt else Refuses not_as_asked s.file 0) ≡ Gives t → same_truth unit (is_unit (body_of s.tree)) ≡ true
    go true e i = both (same_truth unit (is_unit (body_of s.tree))) (bytes_eq s.name (class_of s.tree)) e
    go false e i = absurd cc

is_actor : (b : Bool) → same_truth false b ≡ true → b ≡ false
is_actor true h = absurd cc
is_actor false h = refl

-- the file of a class, if there is one, is a unit whose imports lead to files of these classes
abbrev IsUnitAmong : (files : List Source) → (classes : List (List ℕ)) → (x : List ℕ) → Type 0
IsUnitAmong files classes x = (u : Source) → source_named x files ≡ Some u
    → (is_unit (body_of u.tree) ≡ true) × LeadAmong (import_edges (imports_of u.tree)) classes

abbrev IsUnitFile : (files : List Source) → (x : List ℕ) → Type 0
IsUnitFile files x = (u : Source) → source_named x files ≡ Some u → is_unit (body_of u.tree) ≡ true

unit_asked : (files : List Source) (o : Option Source) (g out : Gathered) → unit_gathered files o g ≡ Gives out → (u : Source) → o ≡ Some u → is_unit (body_of u.tree) ≡ true
unit_asked files None g out h u e = absurd cc
unit_asked files (Some s) g out h u e =
    let (t, a, i) = then_gave (as_asked true s) (λ _. and_then (source_resolved files s) (λ body. Gives (with_declarations s.name s.file (members_of body) g))) out h in
    let same : s ≡ u = some_same s u e in
    subst (λ v. is_unit (body_of v.tree) ≡ true) same (asked_for true s t a)
  where
    some_same : (v w : Source) → Some v ≡ Some w → v ≡ w
    some_same v w i = cc

units_asked : (files : List Source) (classes : List (List ℕ)) (g out : Gathered) → units_gathered files classes g ≡ Gives out → Each (IsUnitFile files) classes
units_asked files [] g out h = tt
units_asked files (x ∷ classes) g out h =
    let (next, a, i) = then_gave (unit_gathered files (source_named x files) g) (λ next. units_gathered files classes next) out h in
    (λ u e. unit_asked files (source_named x files) g next a u e, units_asked files classes next out i)

units_among : (files : List Source) (classes : List (List ℕ)) → Each (λ x. LeadAmong (edges_of (node_named x (file_graph files).nodes)) classes) classes
    → Each (IsUnitFile files) classes → Each (IsUnitAmong files classes) classes
units_among files classes h k =
    each_both (λ x. LeadAmong (edges_of (node_named x (file_graph files).nodes)) classes) (IsUnitFile files) (IsUnitAmong files classes) classes
    (λ x led asked u e. (asked u e, subst (λ o. LeadAmong (edges_of o) classes) (node_of_file x files u e) led)) h k

files_declare : (files : List Source) (classes : List (List ℕ)) → AreShapedFiles files → Each (IsUnitAmong files classes) classes → FilesDeclare (IsMeant HasDot Never) files classes
files_declare files classes shaped units x u among e =
    unit_declares u (named_source (λ s. IsShapedFile s.tree) x files u shaped e) (each_among (IsUnitAmong files classes) classes x units among u e).0

-- ---- what is gathered of units

-- a function of another file, which calls others only
pub record IsOuterFun (o : Outer) : Type 0 where
  pub formed : IsFunFormed o.decl
  pub calls : DeclCalls HasDot o.decl

abbrev HasOuterFuns : Gathered → Type 0
HasOuterFuns g = Each IsOuterFun g.funs

each_last : (os : List Outer) (o : Outer) → Each IsOuterFun os → IsOuterFun o → Each IsOuterFun (os ++ o ∷ [])
each_last [] o h k = (k, tt)
each_last (p ∷ os) o h k = (h.0, each_last os o h.1 k)

declaration_gathered : (class : List ℕ) (file : ℕ) (m : Tree) (g : Gathered) → IsFormedMember m → DeclCalls HasDot m → HasOuterFuns g
    → HasOuterFuns (with_declaration class file m g)
declaration_gathered class file (tree.function (tree.ident name place) formals result vars body at) g f c h =
    each_last g.funs (outer class file name (tree.function (tree.ident name place) formals result vars body at)) h (record { formed = f; calls = c })
declaration_gathered class file (tree.var shape (tree.ident name place) start changes at) g f c h = h
declaration_gathered class file _ g f c h = h

declarations_gathered : (class : List ℕ) (file : ℕ) (ms : Tree) (g : Gathered) → AreFormedMembers ms → AllDeclCalls HasDot ms → HasOuterFuns g
    → HasOuterFuns (with_declarations class file ms g)
declarations_gathered class file (tree.cons m ms) g f c h =
    declarations_gathered class file ms (with_declaration class file m g) f.1 c.1 (declaration_gathered class file m g f.0 c.0 h)
declarations_gathered class file _ g f c h = h

source_is_gathered : (files : List Source) (classes : List (List ℕ)) (s : Source) (g : Gathered) → IsShapedFile s.tree → FilesDeclare (IsMeant HasDot Never) files classes
    → (is_unit (body_of s.tree) ≡ true) × LeadAmong (import_edges (imports_of s.tree)) classes → HasOuterFuns g → OnGives HasOuterFuns (source_gathered files s g)
source_is_gathered files classes s g shaped others unit h =
    then_on HasOuterFuns (λ x. Unit {0}) (as_asked true s) (λ _. and_then (source_resolved files s) (λ body. Gives (with_declarations s.name s.file (members_of body) g)))
    (any_answer (as_asked true s))
    (λ t i. then_on HasOuterFuns (λ r. AreMembers HasDot Never (members_of (body_of s.tree)) (members_of r)) (source_resolved files s)
    (λ body. Gives (with_declarations s.name s.file (members_of body) g)) (unit_formed files classes s shaped unit.1 others unit.0)
    (λ body m. declarations_gathered s.name s.file (members_of body) g m.formed m.fun_calls h))
  where
    any_answer : {A : Type 0} (a : Answer A) → OnGives (λ x. Unit {0}) a
    any_answer (Gives x) = tt
    any_answer (Refuses rule file at) = tt

unit_is_gathered : (files : List Source) (classes : List (List ℕ)) (o : Option Source) (g : Gathered)
    → ((u : Source) → o ≡ Some u → IsShapedFile u.tree × (is_unit (body_of u.tree) ≡ true) × LeadAmong (import_edges (imports_of u.tree)) classes)
    → FilesDeclare (IsMeant HasDot Never) files classes → HasOuterFuns g → OnGives HasOuterFuns (unit_gathered files o g)
unit_is_gathered files classes None g is others h = h
unit_is_gathered files classes (Some s) g is others h = let it = is s refl in source_is_gathered files classes s g it.0 others (it.1, it.2) h

units_are_gathered : (files : List Source) (classes some : List (List ℕ)) (g : Gathered) → AreShapedFiles files → Each (IsUnitAmong files classes) some
    → FilesDeclare (IsMeant HasDot Never) files classes → HasOuterFuns g → OnGives HasOuterFuns (units_gathered files some g)
units_are_gathered files classes [] g shaped units others h = h
units_are_gathered files classes (x ∷ some) g shaped units others h =
    then_on HasOuterFuns HasOuterFuns (unit_gathered files (source_named x files) g) (λ next. units_gathered files some next)
    (unit_is_gathered files classes (source_named x files) g
    (λ u e. let it = units.0 u e in (named_source (λ s. IsShapedFile s.tree) x files u shaped e, it.0, it.1)) others h)
    (λ next i. units_are_gathered files classes some next shaped units.1 others i)

-- ---- an actor with what is gathered

pub record IsFormedScope (scope : Scope) : Type 0 where
  pub written : Tree
  pub outer_funs : Each IsOuterFun scope.funs
  pub is_actor : members_of scope.actor ≡ check.members_of scope.actor
  pub named : AreNamed (check.members_of scope.actor)
  pub members : AreMembers (IsCalled written) (IsProcedure written) written (check.members_of scope.actor)

formed_scope : (class : List ℕ) (file : ℕ) (g : Gathered) (written body : Tree) (scope : Scope) → HasOuterFuns g → AreNamed (members_of body)
    → AreMembers (IsCalled written) (IsProcedure written) written (members_of body) → scope_of class file g body ≡ Gives scope → IsFormedScope scope
formed_scope class file g written (tree.actor nm params ins outs inside at) scope h named m e =
    let same = gives_same (record { class = class; file = file; actor = tree.actor nm params ins outs inside at; vars = g.vars; funs = g.funs }) scope e in
    subst IsFormedScope same (record { written = written; outer_funs = h; is_actor = refl; named = named; members = m })
formed_scope class file g written _ scope h named m e = absurd cc

gathered_formed : (files : List Source) (s : Source) (scope : Scope) → AreShapedFiles files → IsSpelled s → actor_gathered files s ≡ Gives scope → IsFormedScope scope
gathered_formed files s scope shaped spelled h =
    let own : IsShapedFile s.tree = file_shaped spelled.is_file.spelled in
    let named : IsNamedBody (body_of s.tree) = file_named spelled.is_file.spelled (lexed_words spelled.is_file.lexed) in
    let empty : Gathered = record { vars = []; funs = [] } in
    let (u, a, i) = then_gave (as_asked false s)
    (λ _. and_then (import_order files s) (λ names. and_then (units_gathered files names empty)
    (λ g. and_then (source_resolved files s) (λ body. scope_of s.name s.file g body)))) scope h in
    let (names, b, j) = then_gave (import_order files s)
    (λ names. and_then (units_gathered files names empty) (λ g. and_then (source_resolved files s) (λ body. scope_of s.name s.file g body))) scope i in
    let (g, c, k) = then_gave (units_gathered files names empty) (λ g. and_then (source_resolved files s) (λ body. scope_of s.name s.file g body)) scope j in
    let (body, d, l) = then_gave (source_resolved files s) (λ body. scope_of s.name s.file g body) scope k in
    let ends : IsEnd (file_graph files).nodes (import_edges (imports_of s.tree)) names = order_ends (file_graph files) (entering (file_node s)) names b in
    let units = units_among files names (order_leads (file_graph files).nodes [] names ends.is_order) (units_asked files names empty g c) in
    let others = files_declare files names shaped units in
    let funs = on_answer HasOuterFuns (units_gathered files names empty) g (units_are_gathered files names names empty shaped units others tt) c in
    let written = members_of (body_of s.tree) in
    let members = on_answer (λ r. AreMembers (IsCalled written) (IsProcedure written) written (members_of r)) (source_resolved files s) body
    (actor_formed files names s own ends.whole others (is_actor (is_unit (body_of s.tree)) (asked_for false s u a))) d in
    formed_scope s.name s.file g written body scope funs (fine_body files s body named d).named.members members l

-- .. whose calls have an order
pub record IsLinkedScope (scope : Scope) : Type 0 where
  pub formed : IsFormedScope scope
  pub order : List (List ℕ)
  pub ends : IsEnd (routines scope) (map edge_to (routines scope)) order

linked_scope : (files : List Source) (s : Source) (scope : Scope) → AreShapedFiles files → IsSpelled s → source_linked files s ≡ Gives scope → IsLinkedScope scope
linked_scope files s scope shaped spelled h =
    let (t, a, i) = then_gave (actor_gathered files s) (λ t. without_recursion t) scope h in
    let (order, b, j) = then_gave (call_order t.file (routines t)) (λ _. Gives t) scope i in
    subst IsLinkedScope (gives_same t scope j) (record {
      formed = gathered_formed files s t shaped spelled a;
      order = order;
      ends = order_ends (call_graph (routines t)) (above_all t.file (routines t)) order b;
    })

named_scope : (files : List Source) (o : Option Source) (scope : Scope) → AreShapedFiles files → ((s : Source) → o ≡ Some s → IsSpelled s)
    → resolved_source files o ≡ Gives scope → IsLinkedScope scope
named_scope files None scope shaped is h = absurd cc
named_scope files (Some s) scope shaped is h = linked_scope files s scope shaped (is s refl) h

pub spelled_scope : (files : List Source) (class : List ℕ) (scope : Scope) → AreSpelled files → resolved_source files (source_named class files) ≡ Gives scope → IsLinkedScope scope
spelled_scope files class scope spelled h =
    let shaped = spelled_shaped files spelled in
    named_scope files (source_named class files) scope shaped (λ s e. named_source IsSpelled class files s spelled e) h
