-- The scopes of the parts of an actor in its scope, and of the functions of other files.
use Rattle.std.proofs.Common.{◌≡◌, ℕ, Bool, true, false, List, [], ◌∷◌, map}
use Rattle.std.specs.Prelude.{Option, None, Some, if◌then◌else◌}
use Rattle.std.specs.Str.{bytes_eq}
use Rattle.cal_ast.specs.Tree as tree
use Rattle.cal_ast.specs.Tree.{Tree, listed}
use Rattle.cal_model.specs.Sound.{Each}
use Rattle.cal_scope.specs.Asked.{outermost}
use Rattle.cal_scope.specs.Members.{members_resolved, ports_of}
use Rattle.cal_scope.specs.Names.{Global}
use Rattle.cal_check.specs.Actors as check
use Rattle.cal_check.specs.Actors.{actions_in, funs_in, procs_in}
use Rattle.cal_check.specs.Sources.{IsActionScoped, IsFunScoped, IsProcScoped}
use Rattle.cal_imports.specs.Answer.{Gives, and_then, in_file}
use Rattle.cal_imports.specs.Brought.{names_seen}
use Rattle.cal_imports.specs.OneFile.{body_resolved, header_resolved, params_resolved, source_resolved}
use Rattle.cal_imports.specs.Recursion.{call_order, routines, without_recursion}
use Rattle.cal_imports.specs.Resolved.{resolved, resolved_source, source_linked}
use Rattle.cal_imports.specs.Sources.{Source, as_asked, body_of, source_named}
use Rattle.cal_imports.specs.Whole.{Gathered, Outer, Scope, actor_gathered, import_order, members_of, scope_of, source_gathered, unit_gathered, units_gathered, with_declaration, with_declarations}
use Rattle.check_actor.specs.Sources.{fun_of}
use Rattle.law_sources.specs.Names.{AreSpelled, IsSpelled}
use Rattle.law_sources.proofs.WordTokens.{lexed_words}
use Rattle.law_sources.specs.Scoped.{ActionsAreScoped, ActionsAreScopedIn, FunsAreScoped, FunsAreScopedIn, ProcsAreScoped, ProcsAreScopedIn}
use Rattle.law_sources.proofs.Called.{AreTold, OnSome}
use Rattle.law_sources.proofs.Inside.{HasWords, file_words}
use Rattle.law_sources.proofs.ScopeJudgements.{Any, OnFine, OnGives, any_fine, any_gives, in_file_on, on_answer, so_one, so_four, then_on}
use Rattle.law_sources.proofs.ScopeMembers.{AreMembersScoped, each_append, members_scoped}
use Rattle.law_sources.proofs.ScopeSeen.{seen_told}

-- ---- one file

abbrev IsBodyScoped : Tree → Type 0
IsBodyScoped body = AreMembersScoped (members_of body)

body_scoped : (body : Tree) (seen : List Global) → HasWords body → AreTold seen → OnFine IsBodyScoped (body_resolved body seen)
body_scoped (tree.actor nm params ins outs members at) seen w h =
    so_four IsBodyScoped (λ x. Any x) (λ x. Any x) (λ x. Any x) (λ rs. AreMembersScoped (listed rs)) (params_resolved params (outermost seen)) (header_resolved ins (outermost seen))
    (header_resolved outs (outermost seen)) (members_resolved members (ports_of ins outs) (outermost seen))
    (λ ps is os ms. tree.actor nm (listed ps) (listed is) (listed os) (listed ms) at) (any_fine (params_resolved params (outermost seen)))
    (any_fine (header_resolved ins (outermost seen))) (any_fine (header_resolved outs (outermost seen))) (members_scoped members (ports_of ins outs) seen w h)
    (λ ps is os ms i j k l. l)
body_scoped (tree.unit nm members at) seen w h =
    so_one IsBodyScoped (λ rs. AreMembersScoped (listed rs)) (members_resolved members (ports_of tree.nil tree.nil) (outermost seen)) (λ ms. tree.unit nm (listed ms) at)
    (members_scoped members (ports_of tree.nil tree.nil) seen w h) (λ ms i. i)
body_scoped _ seen w h = tt

source_scoped : (files : List Source) (s : Source) → HasWords (body_of s.tree) → OnGives IsBodyScoped (source_resolved files s)
source_scoped files s w =
    then_on IsBodyScoped AreTold (names_seen files s) (λ seen. in_file s.file (body_resolved (body_of s.tree) seen)) (seen_told files s)
    (λ seen h. in_file_on IsBodyScoped s.file (body_resolved (body_of s.tree) seen) (body_scoped (body_of s.tree) seen w h))

-- ---- what is gathered of other files

abbrev AreFunsScoped : List Outer → Type 0
AreFunsScoped os = Each (λ o. IsFunScoped o.decl) os

abbrev IsGatheredScoped : Gathered → Type 0
IsGatheredScoped g = AreFunsScoped g.funs

declaration_scoped : (class : List ℕ) (file : ℕ) (m : Tree) (g : Gathered) → AreMembersScoped (tree.cons m tree.nil) → IsGatheredScoped g
    → IsGatheredScoped (with_declaration class file m g)
declaration_scoped class file (tree.var shape (tree.ident name place) start changes at) g h k = k
declaration_scoped class file (tree.function (tree.ident name place) formals result vars body at) g h k = each_append (λ o. IsFunScoped o.decl) g.funs _ k (h.0, tt)
declaration_scoped class file _ g h k = k

declarations_scoped : (class : List ℕ) (file : ℕ) (ms : Tree) (g : Gathered) → AreMembersScoped ms → IsGatheredScoped g → IsGatheredScoped (with_declarations class file ms g)
declarations_scoped class file (tree.cons m ms) g h k =
    declarations_scoped class file ms (with_declaration class file m g) h.1 (declaration_scoped class file m g (h.0, tt) k)
declarations_scoped class file _ g h k = k

gathered_scoped : (files : List Source) (s : Source) (g : Gathered) → HasWords (body_of s.tree) → IsGatheredScoped g → OnGives IsGatheredScoped (source_gathered files s g)
gathered_scoped files s g w k =
    then_on IsGatheredScoped (λ x. Any x) (as_asked true s) (λ u. and_then (source_resolved files s) (λ body. Gives (with_declarations s.name s.file (members_of body) g)))
    (any_gives (as_asked true s))
    (λ u a. then_on IsGatheredScoped IsBodyScoped (source_resolved files s) (λ body. Gives (with_declarations s.name s.file (members_of body) g)) (source_scoped files s w)
    (λ body h. declarations_scoped s.name s.file (members_of body) g h k))

-- ---- files by their classes

abbrev pub HaveWords : List Source → Type 0
HaveWords files = Each (λ s. HasWords (body_of s.tree)) files

named_words : (name : List ℕ) (files : List Source) → HaveWords files → OnSome (λ s. HasWords (body_of s.tree)) (source_named name files)
named_words name [] w = tt
named_words name (f ∷ fs) w = go (bytes_eq name f.name) (named_words name fs w.1)
  where
    go : (b : Bool) → OnSome (λ s. HasWords (body_of s.tree)) (source_named name fs) → OnSome (λ s. HasWords (body_of s.tree)) (if b then Some f else source_named name fs)
    go true more = w.0
    go false more = more

unit_scoped : (files : List Source) (o : Option Source) (g : Gathered) → OnSome (λ s. HasWords (body_of s.tree)) o → IsGatheredScoped g → OnGives IsGatheredScoped (unit_gathered files o g)
unit_scoped files None g w k = k
unit_scoped files (Some s) g w k = gathered_scoped files s g w k

units_scoped : (files : List Source) (names : List (List ℕ)) (g : Gathered) → HaveWords files → IsGatheredScoped g → OnGives IsGatheredScoped (units_gathered files names g)
units_scoped files [] g w k = k
units_scoped files (name ∷ names) g w k =
    then_on IsGatheredScoped IsGatheredScoped (unit_gathered files (source_named name files) g) (λ next. units_gathered files names next)
    (unit_scoped files (source_named name files) g (named_words name files w) k) (λ next l. units_scoped files names next w l)

-- ---- an actor with what was gathered

record IsScoped (scope : Scope) : Type 0 where
  funs : AreFunsScoped scope.funs
  members : AreMembersScoped (check.members_of scope.actor)

scope_scoped : (class : List ℕ) (file : ℕ) (g : Gathered) (body : Tree) → IsGatheredScoped g → IsBodyScoped body → OnGives IsScoped (scope_of class file g body)
scope_scoped class file g (tree.actor name params ins outs members at) k h = record { funs = k; members = h }
scope_scoped class file g _ k h = tt

actor_scoped : (files : List Source) (s : Source) → HaveWords files → HasWords (body_of s.tree) → OnGives IsScoped (actor_gathered files s)
actor_scoped files s all w =
    then_on IsScoped (λ x. Any x) (as_asked false s)
    (λ u. and_then (import_order files s) (λ names. and_then (units_gathered files names (record { vars = []; funs = [] }))
    (λ g. and_then (source_resolved files s) (λ body. scope_of s.name s.file g body)))) (any_gives (as_asked false s))
    (λ u a. then_on IsScoped (λ x. Any x) (import_order files s)
    (λ names. and_then (units_gathered files names (record { vars = []; funs = [] })) (λ g. and_then (source_resolved files s) (λ body. scope_of s.name s.file g body)))
    (any_gives (import_order files s))
    (λ names b. then_on IsScoped IsGatheredScoped (units_gathered files names (record { vars = []; funs = [] })) (λ g. and_then (source_resolved files s) (λ body. scope_of s.name s.file g body))
    (units_scoped files names (record { vars = []; funs = [] }) all tt)
    (λ g k. then_on IsScoped IsBodyScoped (source_resolved files s) (λ body. scope_of s.name s.file g body) (source_scoped files s w)
    (λ body h. scope_scoped s.name s.file g body k h))))

linked_scoped : (files : List Source) (s : Source) → HaveWords files → HasWords (body_of s.tree) → OnGives IsScoped (source_linked files s)
linked_scoped files s all w =
    then_on IsScoped IsScoped (actor_gathered files s) (λ t. without_recursion t) (actor_scoped files s all w)
    (λ t h. then_on IsScoped (λ x. Any x) (call_order t.file (routines t)) (λ u. Gives t) (any_gives (call_order t.file (routines t))) (λ u a. h))

resolved_scoped : (files : List Source) (o : Option Source) → HaveWords files → OnSome (λ s. HasWords (body_of s.tree)) o → OnGives IsScoped (resolved_source files o)
resolved_scoped files None all w = tt
resolved_scoped files (Some s) all w = linked_scoped files s all w

scoped : (files : List Source) (class : List ℕ) (scope : Scope) → HaveWords files → resolved files class ≡ Gives scope → IsScoped scope
scoped files class scope all e = on_answer IsScoped (resolved files class) scope (resolved_scoped files (source_named class files) all (named_words class files all)) e

-- ---- by kinds of parts

funs_scoped : (file : ℕ) (ms : Tree) → AreMembersScoped ms → Each (λ f. IsFunScoped f.decl) (funs_in file ms)
funs_scoped file (tree.cons (tree.function (tree.ident name place) formals result vars body at) ms) h = (h.0, funs_scoped file ms h.1)
funs_scoped file (tree.cons _ ms) h = funs_scoped file ms h.1
funs_scoped file _ h = tt

procs_scoped : (ms : Tree) → AreMembersScoped ms → Each IsProcScoped (procs_in ms)
procs_scoped (tree.cons (tree.procedure name formals vars body at) ms) h = (h.0, procs_scoped ms h.1)
procs_scoped (tree.cons _ ms) h = procs_scoped ms h.1
procs_scoped _ h = tt

actions_scoped : (ms : Tree) → AreMembersScoped ms → Each IsActionScoped (actions_in ms)
actions_scoped (tree.cons (tree.action tagged initialize patterns outputs guards vars body at) ms) h = (h.0, actions_scoped ms h.1)
actions_scoped (tree.cons _ ms) h = actions_scoped ms h.1
actions_scoped _ h = tt

outer_scoped : (os : List Outer) → AreFunsScoped os → Each (λ f. IsFunScoped f.decl) (map fun_of os)
outer_scoped [] h = tt
outer_scoped (o ∷ os) h = (h.0, outer_scoped os h.1)

pub funs_of_words : (files : List Source) (class : List ℕ) (scope : Scope) → HaveWords files → resolved files class ≡ Gives scope → FunsAreScopedIn scope
funs_of_words files class scope all e =
    let h = scoped files class scope all e in
    each_append (λ f. IsFunScoped f.decl) (map fun_of scope.funs) (funs_in scope.file (check.members_of scope.actor)) (outer_scoped scope.funs h.funs)
    (funs_scoped scope.file (check.members_of scope.actor) h.members)

pub procs_of_words : (files : List Source) (class : List ℕ) (scope : Scope) → HaveWords files → resolved files class ≡ Gives scope → ProcsAreScopedIn scope
procs_of_words files class scope all e = procs_scoped (check.members_of scope.actor) (scoped files class scope all e).members

pub actions_of_words : (files : List Source) (class : List ℕ) (scope : Scope) → HaveWords files → resolved files class ≡ Gives scope → ActionsAreScopedIn scope
actions_of_words files class scope all e = actions_scoped (check.members_of scope.actor) (scoped files class scope all e).members

-- ---- files that texts spell

spelled_words : (s : Source) → IsSpelled s → HasWords (body_of s.tree)
spelled_words s h = file_words h.is_file.spelled (lexed_words h.is_file.lexed)

all_words : (files : List Source) → AreSpelled files → HaveWords files
all_words [] h = tt
all_words (s ∷ ss) h = (spelled_words s h.0, all_words ss h.1)

pub funs_are_scoped : FunsAreScoped
funs_are_scoped files class scope spelled e = funs_of_words files class scope (all_words files spelled) e

pub procs_are_scoped : ProcsAreScoped
procs_are_scoped files class scope spelled e = procs_of_words files class scope (all_words files spelled) e

pub actions_are_scoped : ActionsAreScoped
actions_are_scoped files class scope spelled e = actions_of_words files class scope (all_words files spelled) e
