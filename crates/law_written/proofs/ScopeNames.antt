-- The actor of a class has a name, and its class is names with dots between them, if its files are what texts spell.
use Rattle.std.proofs.Common.{◌≡◌, ℕ, Bool, true, false, List, [], ◌∷◌, refl, sym, subst, ◌∙◌}
use Rattle.std.specs.Prelude.{Option, None, Some, if◌then◌else◌}
use Rattle.std.specs.Str.{bytes_eq}
use Rattle.std.proofs.lemmas.Slice.Eq.{bytes_eq-Decides}
use Rattle.rvc_base.specs.Rules.{not_as_asked}
use Rattle.trace_text.specs.Names.{IsClass, IsName}
use Rattle.cal_ast.specs.Tree as tree
use Rattle.cal_ast.specs.Tree.{Tree, listed}
use Rattle.cal_model.specs.Sound.{Each}
use Rattle.cal_scope.specs.Asked.{outermost}
use Rattle.cal_scope.specs.Members.{members_resolved, ports_of}
use Rattle.cal_scope.specs.Names.{Global}
use Rattle.cal_imports.specs.Answer.{Answer, Gives, Refuses, and_then, in_file}
use Rattle.cal_imports.specs.Brought.{names_seen}
use Rattle.cal_imports.specs.OneFile.{body_resolved, header_resolved, params_resolved, source_resolved}
use Rattle.cal_imports.specs.Recursion.{call_order, routines, without_recursion}
use Rattle.cal_imports.specs.Resolved.{resolved, resolved_source, source_linked}
use Rattle.cal_imports.specs.Sources.{Source, as_asked, body_of, class_of, is_as_asked, is_unit, name_of, same_truth, source_named}
use Rattle.cal_imports.specs.Whole.{Gathered, Scope, actor_gathered, import_order, scope_of, units_gathered}
use Rattle.law_sources.specs.Names.{AreSpelled}
use Rattle.law_sources.proofs.Gathered.{gives_same, then_gave}
use Rattle.law_sources.proofs.FormJudgements.{Any, OnFine, OnGives, any_fine, in_file_on, on_answer, so_four, so_one, then_on}
use Rattle.law_written.proofs.NameBytes.{both}
use Rattle.law_written.proofs.FileNames.{IsNamedFile, file_is_named}

-- ---- a file among others

abbrev AreNamedFiles : List Source → Type 0
AreNamedFiles files = Each (λ s. IsNamedFile s.tree) files

spelled_named : (files : List Source) → AreSpelled files → AreNamedFiles files
spelled_named [] h = tt
spelled_named (s ∷ ss) h = (file_is_named h.0.text s.tree h.0.is_file, spelled_named ss h.1)

-- the file of a class
record IsFound (class : List ℕ) (s : Source) : Type 0 where
  same : class ≡ s.name
  named : IsNamedFile s.tree

found : (class : List ℕ) (files : List Source) (s : Source) → AreNamedFiles files → source_named class files ≡ Some s → IsFound class s
found class [] s all h = absurd cc
found class (f ∷ fs) s all h = go (bytes_eq class f.name) (bytes_eq-Decides class f.name).0 (λ i. found class fs s all.1 i) h
  where
    some_same : Some f ≡ Some s → f ≡ s
    some_same e = cc

    go : (b : Bool) → (b ≡ true → class ≡ f.name) → (source_named class fs ≡ Some s → IsFound class s) → (if b then Some f else source_named class fs) ≡ Some s → IsFound class s
    go true same behind i = subst (λ t. IsFound class t) (some_same i) (record { same = same refl; named = all.0 })
    go false same behind i = behind i

-- a file that is as it is asked for declares the class by which it stands
asked_class : (unit : Bool) (s : Source) (u : Unit {0}) → as_asked unit s ≡ Gives u → s.name ≡ class_of s.tree
asked_class unit s u h = go (is_as_asked unit s) refl h
  where
    go : (b : Bool) → is_as_asked unit s ≡ b → (if b then Gives tt else Refuses not_as_asked s.file 0) ≡ Gives u → s.name ≡ class_of s.tree
    go true is e =
        (bytes_eq-Decides s.name (class_of s.tree)).0
        (both (same_truth unit (is_unit (body_of s.tree))) (bytes_eq s.name (class_of s.tree)) is).1
    go false is e = absurd cc

-- ---- names that are written in full leave an actor its own

abbrev KeepsName : Tree → Tree → Type 0
KeepsName body out = name_of out ≡ name_of body

body_keeps : (body : Tree) (seen : List Global) → OnFine (KeepsName body) (body_resolved body seen)
body_keeps (tree.actor name params ins outs members at) seen =
    so_four (KeepsName (tree.actor name params ins outs members at)) Any Any Any Any
    (params_resolved params (outermost seen)) (header_resolved ins (outermost seen)) (header_resolved outs (outermost seen))
    (members_resolved members (ports_of ins outs) (outermost seen))
    (λ ps is os ms. tree.actor name (listed ps) (listed is) (listed os) (listed ms) at)
    (any_fine _) (any_fine _) (any_fine _) (any_fine _) (λ ps is os ms a b c d. actor_keeps name ps is os ms)
  where
    actor_keeps : (nm : Tree) (ps is os ms : List Tree) → name_of (tree.actor nm (listed ps) (listed is) (listed os) (listed ms) at) ≡ name_of (tree.actor nm params ins outs members at)
    actor_keeps (tree.ident text place) ps is os ms = refl
    actor_keeps _ ps is os ms = refl
body_keeps (tree.unit name members at) seen =
    so_one (KeepsName (tree.unit name members at)) Any (members_resolved members (ports_of tree.nil tree.nil) (outermost seen))
    (λ ms. tree.unit name (listed ms) at) (any_fine _) (λ ms a. unit_keeps name ms)
  where
    unit_keeps : (nm : Tree) (ms : List Tree) → name_of (tree.unit nm (listed ms) at) ≡ name_of (tree.unit nm members at)
    unit_keeps (tree.ident text place) ms = refl
    unit_keeps _ ms = refl
body_keeps _ seen = tt

source_keeps : (files : List Source) (s : Source) (body : Tree) → source_resolved files s ≡ Gives body → KeepsName (body_of s.tree) body
source_keeps files s body h =
    on_answer (KeepsName (body_of s.tree)) (source_resolved files s) body
    (then_on (KeepsName (body_of s.tree)) Any (names_seen files s) (λ seen. in_file s.file (body_resolved (body_of s.tree) seen)) (any_given (names_seen files s))
    (λ seen a. in_file_on (KeepsName (body_of s.tree)) s.file (body_resolved (body_of s.tree) seen) (body_keeps (body_of s.tree) seen))) h
  where
    any_given : {A : Type 0} (a : Answer A) → OnGives (λ x. Any x) a
    any_given (Gives x) = tt
    any_given (Refuses rule file at) = tt

-- ---- the scope of an actor

-- the actor has this name
scope_actor : (class : List ℕ) (file : ℕ) (g : Gathered) (body : Tree) (scope : Scope) → scope_of class file g body ≡ Gives scope → name_of scope.actor ≡ name_of body
scope_actor class file g (tree.actor name params ins outs members at) scope h =
    let same = gives_same (record { class = class; file = file; actor = tree.actor name params ins outs members at; vars = g.vars; funs = g.funs }) scope h in
    subst (λ s. name_of s.actor ≡ name_of (tree.actor name params ins outs members at)) same refl
scope_actor class file g _ scope h = absurd cc

-- the class and the name of an actor in its scope
pub record IsNamedScope (class : List ℕ) (scope : Scope) : Type 0 where
  pub class_is : IsClass class
  pub name_is : IsName (name_of scope.actor)

gathered_named : (files : List Source) (s : Source) (scope : Scope) → IsNamedFile s.tree → actor_gathered files s ≡ Gives scope → IsNamedScope s.name scope
gathered_named files s scope named h =
    let empty : Gathered = record { vars = []; funs = [] } in
    let (u, a, i) = then_gave (as_asked false s)
    (λ _. and_then (import_order files s) (λ names. and_then (units_gathered files names empty)
    (λ g. and_then (source_resolved files s) (λ body. scope_of s.name s.file g body)))) scope h in
    let (names, b, j) = then_gave (import_order files s)
    (λ names. and_then (units_gathered files names empty) (λ g. and_then (source_resolved files s) (λ body. scope_of s.name s.file g body))) scope i in
    let (g, c, k) = then_gave (units_gathered files names empty) (λ g. and_then (source_resolved files s) (λ body. scope_of s.name s.file g body)) scope j in
    let (body, d, l) = then_gave (source_resolved files s) (λ body. scope_of s.name s.file g body) scope k in
    record {
      class_is = subst IsClass (sym (asked_class false s u a)) named.class;
      name_is = subst IsName (sym (scope_actor s.name s.file g body scope l ∙ source_keeps files s body d)) named.name;
    }

linked_named : (files : List Source) (s : Source) (scope : Scope) → IsNamedFile s.tree → source_linked files s ≡ Gives scope → IsNamedScope s.name scope
linked_named files s scope named h =
    let (t, a, i) = then_gave (actor_gathered files s) (λ t. without_recursion t) scope h in
    let (order, b, j) = then_gave (call_order t.file (routines t)) (λ _. Gives t) scope i in
    subst (λ x. IsNamedScope s.name x) (gives_same t scope j) (gathered_named files s t named a)

resolved_named : (files : List Source) (class : List ℕ) (o : Option Source) (scope : Scope) → ((s : Source) → o ≡ Some s → IsFound class s)
    → resolved_source files o ≡ Gives scope → IsNamedScope class scope
resolved_named files class None scope is h = absurd cc
resolved_named files class (Some s) scope is h =
    let it = is s refl in
    subst (λ c. IsNamedScope c scope) (sym it.same) (linked_named files s scope it.named h)

pub scope_is_named : (files : List Source) (class : List ℕ) (scope : Scope) → AreSpelled files → resolved files class ≡ Gives scope → IsNamedScope class scope
scope_is_named files class scope spelled h =
    resolved_named files class (source_named class files) scope (λ s e. found class files s (spelled_named files spelled) e) h
