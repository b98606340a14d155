-- No function and no procedure of an actor in its scope calls itself.
use Rattle.std.proofs.Common.{◌≡◌, ℕ, ◌+◌, ◌<◌, ◌≤◌, Bool, true, false, List, [], ◌∷◌, ◌++◌, map, length, refl, sym, ap, subst, ◌∙◌, arith}
use Rattle.std.proofs.lemmas.List.{map-append}
use Rattle.std.proofs.lemmas.Slice.Eq.{bytes_eq-Decides}
use Rattle.std.specs.Prelude.{Some, is_some}
use Rattle.std.specs.Str.{bytes_eq}
use Rattle.cal_ast.specs.Tree as tree
use Rattle.cal_ast.specs.Tree.{Tree}
use Rattle.cal_model.specs.Sound.{Each}
use Rattle.cal_check.specs.Actors as check
use Rattle.cal_check.specs.Actors.{all_funs, declared_vars, funs_in, procs_in}
use Rattle.cal_check.specs.Formed.{DeclCallsBelow, IsFunFormed, IsProcFormed}
use Rattle.cal_check.specs.Routines.{FunDecl}
use Rattle.cal_check.specs.Sources.{ProcDeclCallsBelow, names_of_source, proc_name}
use Rattle.cal_scope.specs.Names.{is_among}
use Rattle.cal_imports.specs.Behind.{LeadAmong, edges_of}
use Rattle.cal_imports.specs.Calls.{with_calls}
use Rattle.cal_imports.specs.Recursion.{routine_node, routines}
use Rattle.cal_imports.specs.Walk.{Edge, node_named}
use Rattle.cal_imports.specs.Whole.{Outer, Scope, members_of}
use Rattle.check_actor.specs.Sources.{fun_of, source_of}
use Rattle.law_sources.specs.Names.{NamesDifferIn}
use Rattle.law_sources.proofs.Counts.{count, count-append, one}
use Rattle.law_sources.proofs.NamedMembers.{AreNamed}
use Rattle.law_sources.proofs.Scopes.{names_differ}
use Rattle.law_sources.proofs.WordTokens.{IsWord, word_has_no_dot}
use Rattle.law_sources.specs.Formed.{CallsEnd, HasCallsThatEnd, HasFormedParts}
use Rattle.law_sources.proofs.Bodies.{HasDot, IsCalled, IsProcedure, elsewhere, here}
use Rattle.law_sources.proofs.Calls.{calls_among, formals_among, found_among}
use Rattle.law_sources.proofs.FormMembers.{AllBodyCalls, AllDeclCalls, BodyCalls, DeclCalls, Ever, Never}
use Rattle.law_sources.proofs.Nodes.{each_among}
use Rattle.law_sources.proofs.Parts.{each_append, parts_of}
use Rattle.law_sources.proofs.Ranks.{among_whole, leads_up_to, rank, rank_in_range, rank_less, up_to}
use Rattle.law_sources.proofs.Routines.{all_nodes, each_counted, each_found, each_left, each_on, find_routine, found_among_order, functions_counted, node_names, outer_counted, outer_functions, outer_node, own_counted, own_functions, own_nodes, own_procedures, procedures_counted, single_of, there_counted}
use Rattle.law_sources.proofs.FormScopes.{IsLinkedScope, IsOuterFun, spelled_scope}

-- ---- names of functions and procedures

abbrev fun_names : Scope → List (List ℕ)
fun_names s = map (λ f. f.name) (all_funs (source_of s))

abbrev proc_names : Scope → List (List ℕ)
proc_names s = map proc_name (procs_in (check.members_of s.actor))

-- no text is that of two
once_named : (s : Scope) → NamesDifferIn s → (x : List ℕ) → count x (fun_names s) + count x (proc_names s) ≤ 1
once_named s h x =
    let all = single_of (names_of_source (source_of s)) h x in
    let vs = map (λ v. v.name) (declared_vars (source_of s)) in
    let a = count-append x (vs ++ fun_names s) (proc_names s) in
    let b = count-append x vs (fun_names s) in
    omega arith

all_fun_names : (s : Scope) (x : List ℕ) → count x (fun_names s)
    ≡ count x (map (λ f. f.name) (map fun_of s.funs)) + count x (map (λ f. f.name) (funs_in s.file (check.members_of s.actor)))
all_fun_names s x =
    ap (λ ns. count x ns) (map-append (λ f. f.name) (map fun_of s.funs) (funs_in s.file (check.members_of s.actor)))
    ∙ count-append x (map (λ f. f.name) (map fun_of s.funs)) (map (λ f. f.name) (funs_in s.file (check.members_of s.actor)))

nodes_counted : (s : Scope) → members_of s.actor ≡ check.members_of s.actor → (x : List ℕ) → count x (node_names (all_nodes s)) ≤ count x (fun_names s) + count x (proc_names s)
nodes_counted s same x =
    let own = own_nodes s.file (members_of s.actor) in
    let others = map outer_node s.funs in
    let a = ap (λ ns. count x ns) (map-append (λ n. n.name) own others) in
    let b = count-append x (node_names own) (node_names others) in
    let c = outer_counted x s.funs in
    let d : count x (node_names own) ≤ count x (map (λ f. f.name) (funs_in s.file (check.members_of s.actor))) + count x (proc_names s) =
    subst (λ ms. count x (node_names own) ≤ count x (map (λ f. f.name) (funs_in s.file ms)) + count x (map proc_name (procs_in ms))) same (own_counted x s.file (members_of s.actor)) in
    let e = all_fun_names s x in
    omega arith

-- no procedure's text has a dot
no_procedure : (x : List ℕ) (ms : Tree) → AreNamed ms → HasDot x → count x (map proc_name (procs_in ms)) ≡ 0
no_procedure x (tree.cons (tree.procedure (tree.ident name place) formals vars body at) ms) n d = go (bytes_eq x name) (bytes_eq-Decides x name).0 (no_procedure x ms n.1 d)
  where
    go : (b : Bool) → (b ≡ true → x ≡ name) → count x (map proc_name (procs_in ms)) ≡ 0 → one b + count x (map proc_name (procs_in ms)) ≡ 0
    go true same rest = absurd (word_has_no_dot d.class d.name (subst IsWord (sym (same refl) ∙ d.is) n.0))
    go false same rest = omega arith
no_procedure x (tree.cons (tree.procedure _ formals vars body at) ms) n d = absurd n.0
no_procedure x (tree.cons _ ms) n d = no_procedure x ms n.1 d
no_procedure x _ n d = refl

-- ---- calls

-- a routine that is found calls only those before it in the order
record CallsBefore (order : List (List ℕ)) (x : List ℕ) (decl : Tree) : Type 0 where
  led : LeadAmong (with_calls decl []) (up_to x order)

abbrev IsRoutine : Scope → List ℕ → Type 0
IsRoutine s x = is_some (node_named x (routines s)) ≡ true

calls_before : (s : Scope) (l : IsLinkedScope s) (x : List ℕ) (file : ℕ) (decl : Tree) → node_named x (routines s) ≡ Some (routine_node x file decl) → CallsBefore l.order x decl
calls_before s l x file decl h =
    let is : is_some (node_named x (routines s)) ≡ true = subst (λ o. is_some o ≡ true) (sym h) refl in
    let among = found_among_order x (routines s) l.order is l.ends.whole in
    record { led = subst (λ o. LeadAmong (edges_of o) (up_to x l.order)) h (leads_up_to (routines s) l.order x l.ends.is_order among) }

routine_before : (s : Scope) (l : IsLinkedScope s) (x y : List ℕ) → is_among y (up_to x l.order) ≡ true → IsRoutine s y
routine_before s l x y h = each_among (λ z. is_some (node_named z (routines s)) ≡ true) l.order y l.ends.are_nodes (among_whole x y l.order h)

-- ---- functions

-- a text that is called as a function is that of one
abbrev AreFunctions : (s : Scope) → (F : List ℕ → Type 0) → Type 0
AreFunctions s F = (y : List ℕ) → F y → IsRoutine s y → 1 ≤ count y (fun_names s)

decl_below : (s : Scope) (l : IsLinkedScope s) (F : List ℕ → Type 0) → AreFunctions s F → (x : List ℕ) (decl : Tree) → IsFunFormed decl → DeclCalls F decl → CallsBefore l.order x decl
    → DeclCallsBelow (rank (fun_names s) l.order) x decl
decl_below s l F are x (tree.function nm formals result vars body at) f c h = (
  formals_among F Never Lower Never before lower never formals [] c.0 led_formals,
  calls_among F Never Lower Never before lower never result after_formals c.1 led_result,
  calls_among F Never Lower Never before lower never vars after_result c.2 led_vars,
  calls_among F Never Lower Never before lower never body after_vars c.3 h.led,
)
  where
    before : List (List ℕ)
    before = up_to x l.order

    Lower : List ℕ → Type 0
    Lower y = rank (fun_names s) l.order y < rank (fun_names s) l.order x

    after_formals : List Edge
    after_formals = with_calls formals []

    after_result : List Edge
    after_result = with_calls result after_formals

    after_vars : List Edge
    after_vars = with_calls vars after_result

    lower : (y : List ℕ) → F y → is_among y before ≡ true → Lower y
    lower y i among = rank_less (fun_names s) l.order x y (are y i (routine_before s l x y among)) among

    never : (y : List ℕ) → Never y → is_among y before ≡ true → Never y
    never y i among = i

    led_vars : LeadAmong after_vars before
    led_vars = found_among before body after_vars h.led

    led_result : LeadAmong after_result before
    led_result = found_among before vars after_result led_vars

    led_formals : LeadAmong after_formals before
    led_formals = found_among before result after_formals led_result
decl_below s l F are x _ f c h = absurd f

-- what is found of each function
record IsFoundFun (s : Scope) (F : List ℕ → Type 0) (f : FunDecl) : Type 0 where
  formed : IsFunFormed f.decl
  calls : DeclCalls F f.decl
  found : node_named f.name (routines s) ≡ Some (routine_node f.name f.file f.decl)

found_below : (s : Scope) (l : IsLinkedScope s) (F : List ℕ → Type 0) → AreFunctions s F → (fs : List FunDecl) → Each (IsFoundFun s F) fs
    → Each (λ f. DeclCallsBelow (rank (fun_names s) l.order) f.name f.decl) fs
found_below s l F are fs h =
    each_on (IsFoundFun s F) (λ f. DeclCallsBelow (rank (fun_names s) l.order) f.name f.decl) fs
    (λ f i. decl_below s l F are f.name f.decl i.formed i.calls (calls_before s l f.name f.file f.decl i.found)) h

outer_calls : (os : List Outer) → Each IsOuterFun os → Each (λ f. DeclCalls HasDot f.decl) (map fun_of os)
outer_calls [] h = tt
outer_calls (o ∷ os) h = (h.0.calls, outer_calls os h.1)

funs_call : (F : List ℕ → Type 0) (file : ℕ) (ms : Tree) → AllDeclCalls F ms → Each (λ f. DeclCalls F f.decl) (funs_in file ms)
funs_call F file (tree.cons (tree.function (tree.ident name place) formals result vars body at) ms) h = (h.0, funs_call F file ms h.1)
funs_call F file (tree.cons _ ms) h = funs_call F file ms h.1
funs_call F file _ h = tt

procs_call : (P : List ℕ → Type 0) (ms : Tree) → AllBodyCalls P ms → Each (BodyCalls P) (procs_in ms)
procs_call P (tree.cons (tree.procedure nm formals vars body at) ms) h = (h.0, procs_call P ms h.1)
procs_call P (tree.cons _ ms) h = procs_call P ms h.1
procs_call P _ h = tt

all_found : (s : Scope) (F : List ℕ → Type 0) (fs : List FunDecl) → Each (λ f. IsFunFormed f.decl) fs → Each (λ f. DeclCalls F f.decl) fs
    → Each (λ f. node_named f.name (routines s) ≡ Some (routine_node f.name f.file f.decl)) fs → Each (IsFoundFun s F) fs
all_found s F [] h i j = tt
all_found s F (f ∷ fs) h i j = (record { formed = h.0; calls = i.0; found = j.0 }, all_found s F fs h.1 i.1 j.1)

-- ---- procedures

abbrev AreProcedures : (s : Scope) → (P : List ℕ → Type 0) → Type 0
AreProcedures s P = (y : List ℕ) → P y → 1 ≤ count y (proc_names s)

proc_below : (s : Scope) (l : IsLinkedScope s) (P : List ℕ → Type 0) → AreProcedures s P → (p : Tree) → IsProcFormed p → BodyCalls P p → CallsBefore l.order (proc_name p) p
    → ProcDeclCallsBelow (rank (proc_names s) l.order) p
proc_below s l P are (tree.procedure (tree.ident name place) formals vars body at) f c h =
    calls_among Ever P Ever Lower (up_to name l.order) (λ y i among. tt) lower body (with_calls vars (with_calls formals [])) c h.led
  where
    Lower : List ℕ → Type 0
    Lower y = rank (proc_names s) l.order y < rank (proc_names s) l.order name

    lower : (y : List ℕ) → P y → is_among y (up_to name l.order) ≡ true → Lower y
    lower y i among = rank_less (proc_names s) l.order name y (are y i) among
proc_below s l P are _ f c h = absurd f

record IsFoundProc (s : Scope) (P : List ℕ → Type 0) (p : Tree) : Type 0 where
  formed : IsProcFormed p
  calls : BodyCalls P p
  found : node_named (proc_name p) (routines s) ≡ Some (routine_node (proc_name p) s.file p)

all_procs_found : (s : Scope) (P : List ℕ → Type 0) (ps : List Tree) → Each IsProcFormed ps → Each (BodyCalls P) ps
    → Each (λ p. node_named (proc_name p) (routines s) ≡ Some (routine_node (proc_name p) s.file p)) ps → Each (IsFoundProc s P) ps
all_procs_found s P [] h i j = tt
all_procs_found s P (p ∷ ps) h i j = (record { formed = h.0; calls = i.0; found = j.0 }, all_procs_found s P ps h.1 i.1 j.1)

-- ---- the whole

-- each of some has a rank in range
length_map : {A B : Type 0} (f : A → B) (xs : List A) → length (map f xs) ≡ length xs
length_map f [] = refl
length_map f (x ∷ xs) = let e = length_map f xs in omega arith

ranks_in_range : {A : Type 0} (name : A → List ℕ) (order : List (List ℕ)) (xs : List A) → Each (λ a. rank (map name xs) order (name a) < length xs) xs
ranks_in_range name order xs =
    each_on (λ a. 1 ≤ count (name a) (map name xs)) (λ a. rank (map name xs) order (name a) < length xs) xs
    (λ a c. let r = rank_in_range (map name xs) order (name a) c in let e = length_map name xs in omega arith) (each_counted name xs)

calls_of : (s : Scope) (l : IsLinkedScope s) → NamesDifferIn s → HasCallsThatEnd (source_of s)
calls_of s l differ = record {
  funs = record {
    rank = rank (fun_names s) l.order;
    in_range = ranks_in_range (λ f. f.name) l.order (all_funs (source_of s));
    calls = each_append (λ f. DeclCallsBelow (rank (fun_names s) l.order) f.name f.decl) (map fun_of s.funs) (funs_in s.file ms)
        (found_below s l HasDot dotted_are (map fun_of s.funs) (all_found s HasDot (map fun_of s.funs) formed.0 (outer_calls s.funs l.formed.outer_funs) outer_found))
        (found_below s l (IsCalled w) called_are (funs_in s.file ms) (all_found s (IsCalled w) (funs_in s.file ms) formed.1 (funs_call (IsCalled w) s.file ms l.formed.members.fun_calls) own_found));
  };
  procs = record {
    rank = rank (proc_names s) l.order;
    in_range = ranks_in_range proc_name l.order (procs_in ms);
    calls =
        each_on (IsFoundProc s (IsProcedure w)) (ProcDeclCallsBelow (rank (proc_names s) l.order)) (procs_in ms)
        (λ p i. proc_below s l (IsProcedure w) procedures_are p i.formed i.calls (calls_before s l (proc_name p) s.file p i.found))
        (all_procs_found s (IsProcedure w) (procs_in ms) parts.procs (procs_call (IsProcedure w) ms l.formed.members.proc_calls) procs_found);
  };
}
  where
    ms : Tree
    ms = check.members_of s.actor

    w : Tree
    w = l.formed.written

    parts : HasFormedParts (source_of s)
    parts = parts_of s l.formed

    formed : Each (λ f. IsFunFormed f.decl) (map fun_of s.funs) × Each (λ f. IsFunFormed f.decl) (funs_in s.file ms)
    formed = each_left (λ f. IsFunFormed f.decl) (map fun_of s.funs) (funs_in s.file ms) parts.funs

    counts : (x : List ℕ) → count x (node_names (all_nodes s)) ≤ count x (fun_names s) + count x (proc_names s)
    counts x = nodes_counted s l.formed.is_actor x

    nodes_found : Each (λ n. node_named n.name (routines s) ≡ Some n) (all_nodes s)
    nodes_found =
        each_on (λ n. node_named n.name (all_nodes s) ≡ Some n) (λ n. node_named n.name (routines s) ≡ Some n) (all_nodes s)
        (λ n e. find_routine n.name s ∙ e) (each_found (all_nodes s) (λ x. let a = counts x in let b = once_named s differ x in omega arith))

    halves : Each (λ n. node_named n.name (routines s) ≡ Some n) (own_nodes s.file (members_of s.actor)) × Each (λ n. node_named n.name (routines s) ≡ Some n) (map outer_node s.funs)
    halves = each_left (λ n. node_named n.name (routines s) ≡ Some n) (own_nodes s.file (members_of s.actor)) (map outer_node s.funs) nodes_found

    own : Each (λ n. node_named n.name (routines s) ≡ Some n) (own_nodes s.file ms)
    own = subst (λ t. Each (λ n. node_named n.name (routines s) ≡ Some n) (own_nodes s.file t)) l.formed.is_actor halves.0

    outer_found : Each (λ f. node_named f.name (routines s) ≡ Some (routine_node f.name f.file f.decl)) (map fun_of s.funs)
    outer_found = outer_functions (λ n. node_named n.name (routines s) ≡ Some n) s.funs halves.1

    own_found : Each (λ f. node_named f.name (routines s) ≡ Some (routine_node f.name f.file f.decl)) (funs_in s.file ms)
    own_found = own_functions (λ n. node_named n.name (routines s) ≡ Some n) s.file ms own

    procs_found : Each (λ p. node_named (proc_name p) (routines s) ≡ Some (routine_node (proc_name p) s.file p)) (procs_in ms)
    procs_found = own_procedures (λ n. node_named n.name (routines s) ≡ Some n) s.file ms l.formed.members.formed own

    dotted_are : AreFunctions s HasDot
    dotted_are y d is =
        let a = there_counted y (all_nodes s) (subst (λ o. is_some o ≡ true) (find_routine y s) is) in
        let b = counts y in
        let c = no_procedure y ms l.formed.named d in
        omega arith

    called_are : AreFunctions s (IsCalled w)
    called_are y (elsewhere d) is = dotted_are y d is
    called_are y (here c) is =
        let a = l.formed.members.same_functions y in
        let b = functions_counted y s.file ms in
        let e = all_fun_names s y in
        omega arith

    procedures_are : AreProcedures s (IsProcedure w)
    procedures_are y c =
        let a = l.formed.members.same_procedures y in
        let b = procedures_counted y ms in
        omega arith

pub calls_end : CallsEnd
calls_end files class scope spelled h = calls_of scope (spelled_scope files class scope spelled h) (names_differ files class scope spelled h)
