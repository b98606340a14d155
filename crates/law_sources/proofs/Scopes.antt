-- The texts that stand for the declarations of an actor in its scope differ.
use Rattle.std.proofs.Common.{◌≡◌, ℕ, ◌+◌, ◌≤◌, false, List, [], ◌∷◌, map, refl, ap, subst, arith}
use Rattle.std.specs.Prelude.{Option, None, Some}
use Rattle.cal_ast.specs.Tree as tree
use Rattle.cal_ast.specs.Tree.{Tree}
use Rattle.cal_check.specs.Sources.{names_of_source}
use Rattle.cal_imports.specs.Answer.{Gives, and_then}
use Rattle.cal_imports.specs.OneFile.{source_resolved}
use Rattle.cal_imports.specs.Recursion.{call_order, routines, without_recursion}
use Rattle.cal_imports.specs.Resolved.{resolved_source, source_linked}
use Rattle.cal_imports.specs.Sources.{Source, as_asked, body_of, source_named}
use Rattle.cal_imports.specs.Walk.{entering}
use Rattle.cal_imports.specs.Whole.{Gathered, Outer, Scope, actor_gathered, file_graph, file_node, import_order, scope_of, units_gathered}
use Rattle.check_actor.specs.Sources.{fun_of, source_of, var_of}
use Rattle.law_sources.specs.Names.{AreSpelled, IsSpelled, NamesDiffer, NamesDifferIn}
use Rattle.law_sources.proofs.Counts.{count, distinct}
use Rattle.law_sources.proofs.Declarations.{IsWordOr, never, is_word}
use Rattle.law_sources.proofs.Gathered.{AllNamed, IsFineBody, IsPlaced, IsSound, stands_for_none, stands_for_one, all_sound, fine_body, found, gives_same, nothing_gathered, outside, then_gave}
use Rattle.law_sources.proofs.NamedMembers.{IsNamedBody, file_named}
use Rattle.law_sources.proofs.OwnNames.{all_times, outer_times, own_once, own_times, own_word}
use Rattle.law_sources.proofs.Walked.{order_is_single}
use Rattle.law_sources.proofs.WordTokens.{IsWord, lexed_words, word_has_no_dot}

-- ---- an actor with what was gathered

-- nothing stands twice among what other files declare, nor among what the actor does
record IsFineScope (scope : Scope) : Type 0 where
  sound : IsSound [] (record { vars = scope.vars; funs = scope.funs })
  body : IsFineBody scope.actor

same_vars : (os : List Outer) → map (λ v. v.name) (map var_of os) ≡ map (λ o. o.name) os
same_vars [] = refl
same_vars (o ∷ os) = ap (λ ns. o.name ∷ ns) (same_vars os)

same_funs : (os : List Outer) → map (λ f. f.name) (map fun_of os) ≡ map (λ o. o.name) os
same_funs [] = refl
same_funs (o ∷ os) = ap (λ ns. o.name ∷ ns) (same_funs os)

-- a text of the actor's own stands for nothing else
not_both : (x : List ℕ) (n m : ℕ) → n ≤ 1 → m ≤ 1 → IsPlaced x [] n → IsWordOr x m → n + m ≤ 1
not_both x n m a b (stands_for_none e) k = omega arith
not_both x n m a b (stands_for_one class f e) (never z) = omega arith
not_both x n m a b (stands_for_one class f e) (is_word w) = absurd (word_has_no_dot class f.name (subst IsWord f.is w))

fine_differs : (scope : Scope) → IsFineScope scope → NamesDifferIn scope
fine_differs scope h = distinct (names_of_source (source_of scope)) (λ x. single x)
  where
    gathered : Gathered
    gathered = record { vars = scope.vars; funs = scope.funs }

    single : (x : List ℕ) → count x (names_of_source (source_of scope)) ≤ 1
    single x =
        let all = all_times x (source_of scope) in
        let a = ap (λ ns. count x ns) (same_vars scope.vars) in
        let b = ap (λ ns. count x ns) (same_funs scope.funs) in
        let outer : outer_times x (source_of scope) ≡ outside x gathered = omega arith in
        let once = not_both x (outside x gathered) (own_times x (source_of scope)) (h.sound.single x) (own_once x (source_of scope) h.body) (h.sound.places x) (own_word x (source_of scope) h.body) in
        omega arith

-- ---- the scope of an actor among files

scope_fine : (class : List ℕ) (file : ℕ) (g : Gathered) (body : Tree) (scope : Scope) → IsSound [] g → IsFineBody body → scope_of class file g body ≡ Gives scope → IsFineScope scope
scope_fine class file g (tree.actor name params ins outs members at) scope sound fine h =
    let same = gives_same (record { class = class; file = file; actor = tree.actor name params ins outs members at; vars = g.vars; funs = g.funs }) scope h in
    subst IsFineScope same (record { sound = sound; body = fine })
scope_fine class file g _ scope sound fine h = absurd cc

gathered_fine : (files : List Source) (s : Source) (scope : Scope) → AllNamed files → IsNamedBody (body_of s.tree) → actor_gathered files s ≡ Gives scope → IsFineScope scope
gathered_fine files s scope all named h =
    let empty : Gathered = record { vars = []; funs = [] } in
    let (u, a, i) = then_gave (as_asked false s)
    (λ _. and_then (import_order files s) (λ names. and_then (units_gathered files names empty)
    (λ g. and_then (source_resolved files s) (λ body. scope_of s.name s.file g body)))) scope h in
    let (names, b, j) = then_gave (import_order files s)
    (λ names. and_then (units_gathered files names empty) (λ g. and_then (source_resolved files s) (λ body. scope_of s.name s.file g body))) scope i in
    let (g, c, k) = then_gave (units_gathered files names empty) (λ g. and_then (source_resolved files s) (λ body. scope_of s.name s.file g body)) scope j in
    let (body, d, l) = then_gave (source_resolved files s) (λ body. scope_of s.name s.file g body) scope k in
    scope_fine s.name s.file g body scope
    (all_sound files names empty g all (order_is_single (file_graph files) (entering (file_node s)) names b) (nothing_gathered names) c)
    (fine_body files s body named d) l

linked_fine : (files : List Source) (s : Source) (scope : Scope) → AllNamed files → IsNamedBody (body_of s.tree) → source_linked files s ≡ Gives scope → IsFineScope scope
linked_fine files s scope all named h =
    let (t, a, i) = then_gave (actor_gathered files s) (λ t. without_recursion t) scope h in
    let (order, b, j) = then_gave (call_order t.file (routines t)) (λ _. Gives t) scope i in
    subst IsFineScope (gives_same t scope j) (gathered_fine files s t all named a)

named_fine : (files : List Source) (o : Option Source) (scope : Scope) → AllNamed files → ((s : Source) → o ≡ Some s → IsNamedBody (body_of s.tree)) → resolved_source files o ≡ Gives scope
    → IsFineScope scope
named_fine files None scope all is h = absurd cc
named_fine files (Some s) scope all is h = linked_fine files s scope all (is s refl) h

-- ---- files that texts spell

spelled_named : (s : Source) → IsSpelled s → IsNamedBody (body_of s.tree)
spelled_named s h = file_named h.is_file.spelled (lexed_words h.is_file.lexed)

all_named : (files : List Source) → AreSpelled files → AllNamed files
all_named [] h = tt
all_named (s ∷ ss) h = (spelled_named s h.0, all_named ss h.1)

pub names_differ : NamesDiffer
names_differ sources class scope spelled h =
    let all = all_named sources spelled in
    fine_differs scope (named_fine sources (source_named class sources) scope all (λ s e. (found class sources s all e).named) h)
