-- The texts that stand for an actor's declarations, by those of other files and its own.
use Rattle.std.proofs.Common.{◌≡◌, ℕ, ◌+◌, ◌≤◌, List, ◌++◌, map, ap, ◌∙◌, arith}
use Rattle.std.proofs.lemmas.List.{map-append}
use Rattle.cal_ast.specs.Tree as tree
use Rattle.cal_ast.specs.Tree.{Tree}
use Rattle.cal_check.specs.Actors.{Source, all_funs, declared_vars, funs_in, members_of, params_in, params_of, procs_in, vars_in}
use Rattle.cal_check.specs.Sources.{names_of_source, proc_name, procs_of_source}
use Rattle.cal_imports.specs.Whole as whole
use Rattle.law_sources.proofs.Counts.{count, count-append}
use Rattle.law_sources.proofs.Declarations.{IsWordOr, never, is_word, either_word, total, total_word}
use Rattle.law_sources.proofs.Gathered.{IsFineBody}
use Rattle.law_sources.proofs.NamedMembers.{AreNamed}

-- ---- what an actor declares itself

abbrev var_times : List ℕ → ℕ → Tree → ℕ
var_times x file ms = count x (map (λ v. v.name) (vars_in file ms))

abbrev fun_times : List ℕ → ℕ → Tree → ℕ
fun_times x file ms = count x (map (λ f. f.name) (funs_in file ms))

abbrev proc_times : List ℕ → Tree → ℕ
proc_times x ms = count x (map proc_name (procs_in ms))

members_fewer : (x : List ℕ) (file : ℕ) (ms : Tree) → AreNamed ms → var_times x file ms + fun_times x file ms + proc_times x ms ≤ total x ms
members_fewer x file (tree.cons (tree.param shape (tree.ident name place) start at) ms) n = let rest = members_fewer x file ms n.1 in omega arith
members_fewer x file (tree.cons (tree.var shape (tree.ident name place) start changes at) ms) n = let rest = members_fewer x file ms n.1 in omega arith
members_fewer x file (tree.cons (tree.function (tree.ident name place) formals result vars body at) ms) n = let rest = members_fewer x file ms n.1 in omega arith
members_fewer x file (tree.cons (tree.procedure (tree.ident name place) formals vars body at) ms) n = let rest = members_fewer x file ms n.1 in omega arith
members_fewer x file (tree.cons (tree.procedure _ formals vars body at) ms) n = absurd n.0
members_fewer x file (tree.cons _ ms) n = let rest = members_fewer x file ms n.1 in omega arith
members_fewer x file _ n = omega arith

param_times : List ℕ → ℕ → Tree → ℕ
param_times x file ps = count x (map (λ v. v.name) (params_in file ps))

params_fewer : (x : List ℕ) (file : ℕ) (ps : Tree) → count x (map (λ v. v.name) (params_in file ps)) ≤ total x ps
params_fewer x file (tree.cons (tree.param shape (tree.ident name place) start at) ps) = let rest = params_fewer x file ps in omega arith
params_fewer x file _ = omega arith

-- ---- all texts

count-map : {A : Type 0} (x : List ℕ) (f : A → List ℕ) (xs ys : List A) → count x (map f (xs ++ ys)) ≡ count x (map f xs) + count x (map f ys)
count-map x f xs ys = ap (λ ns. count x ns) (map-append f xs ys) ∙ count-append x (map f xs) (map f ys)

-- those of other files
abbrev pub outer_times : List ℕ → Source → ℕ
outer_times x s = count x (map (λ v. v.name) s.vars) + count x (map (λ f. f.name) s.funs)

-- .. and the actor's own
abbrev pub own_times : List ℕ → Source → ℕ
own_times x s = count x (map (λ v. v.name) (params_in s.file (params_of s.actor)))
    + (var_times x s.file (members_of s.actor) + fun_times x s.file (members_of s.actor) + proc_times x (members_of s.actor))

pub all_times : (x : List ℕ) (s : Source) → count x (names_of_source s) ≡ outer_times x s + own_times x s
all_times x s =
    let ps = params_in s.file (params_of s.actor) in
    let vs = vars_in s.file (members_of s.actor) in
    let fs = funs_in s.file (members_of s.actor) in
    let a = count-append x (map (λ v. v.name) (declared_vars s) ++ map (λ f. f.name) (all_funs s)) (map proc_name (procs_of_source s)) in
    let b = count-append x (map (λ v. v.name) (declared_vars s)) (map (λ f. f.name) (all_funs s)) in
    let c = count-map x (λ v. v.name) s.vars (ps ++ vs) in
    let d = count-map x (λ v. v.name) ps vs in
    let e = count-map x (λ f. f.name) s.funs fs in
    omega arith

-- ---- an actor that breaks no rule of scope

total_of_members : (x : List ℕ) (actor : Tree) → total x (members_of actor) ≤ total x (whole.members_of actor)
total_of_members x (tree.actor name params ins outs members at) = omega arith
total_of_members x _ = omega arith

members_named : (actor : Tree) → AreNamed (whole.members_of actor) → AreNamed (members_of actor)
members_named (tree.actor name params ins outs members at) n = n
members_named _ n = tt

own_fewer : (x : List ℕ) (s : Source) → IsFineBody s.actor → own_times x s ≤ total x (params_of s.actor) + total x (members_of s.actor)
own_fewer x s fine =
    let a = params_fewer x s.file (params_of s.actor) in
    let b = members_fewer x s.file (members_of s.actor) (members_named s.actor fine.named.members) in
    omega arith

pub own_once : (x : List ℕ) (s : Source) → IsFineBody s.actor → own_times x s ≤ 1
own_once x s fine =
    let a = own_fewer x s fine in
    let b = total_of_members x s.actor in
    let c = fine.once x in
    omega arith

none_of : (x : List ℕ) (n m : ℕ) → n ≤ m → IsWordOr x m → IsWordOr x n
none_of x n m h (never e) = never (omega arith)
none_of x n m h (is_word w) = is_word w

pub own_word : (x : List ℕ) (s : Source) → IsFineBody s.actor → IsWordOr x (own_times x s)
own_word x s fine =
    none_of x (own_times x s) (total x (params_of s.actor) + total x (members_of s.actor)) (own_fewer x s fine)
    (either_word x (total x (params_of s.actor)) (total x (members_of s.actor)) (total_word x (params_of s.actor) fine.named.params)
    (total_word x (members_of s.actor) (members_named s.actor fine.named.members)))
