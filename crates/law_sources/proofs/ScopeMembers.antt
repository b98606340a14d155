-- The scopes of functions, procedures and actions.
use Rattle.std.proofs.Common.{◌≡◌, ℕ, ◌+◌, Bool, true, false, List, [], ◌∷◌, ◌++◌, refl, arith}
use Rattle.std.specs.Prelude.{if◌then◌else◌}
use Rattle.rvc_base.specs.Rules.{declared_twice}
use Rattle.cal_ast.specs.Tree as tree
use Rattle.cal_ast.specs.Tree.{Tree, listed}
use Rattle.cal_model.specs.Kinding.{Fine, Broken, and_so}
use Rattle.cal_model.specs.Sound.{AreDistinct, Each, names_of_vars}
use Rattle.cal_check.specs.Actions.{names_listed}
use Rattle.cal_check.specs.Sources.{IsActionScoped, IsFunScoped, IsProcScoped, IsRoutineScoped, OutputsHideNoCall, names_of_formals, names_of_patterns, nothing_inside, with_names, with_vars_named}
use Rattle.cal_model.specs.Kinding as kinding
use Rattle.cal_scope.specs.Asked.{outermost}
use Rattle.cal_scope.specs.Expressions.{declared_by, declared_name, expr_resolved, exprs_resolved, optional_resolved, type_resolved}
use Rattle.cal_scope.specs.Members.{Ports, action_resolved, declared_by_patterns, formal_resolved, formals_resolved, function_resolved, member_resolved, members_resolved, names_judged, output_resolved, outputs_resolved, pattern_names, pattern_resolved, patterns_resolved, port_judged, procedure_resolved}
use Rattle.cal_scope.specs.Names.{Global, Names, is_among, with_name, within}
use Rattle.cal_scope.specs.Statements.{else_resolved, stmts_resolved, var_resolved, vars_resolved}
use Rattle.law_sources.proofs.Counts.{AreSingle, count, count-append, distinct}
use Rattle.law_sources.proofs.WordTokens.{IsWord}
use Rattle.law_sources.proofs.Called.{AreTold}
use Rattle.law_sources.proofs.ScopeExpressions.{AllHide, Hides, expr_hides, exprs_hide}
use Rattle.law_sources.proofs.Hiding.{Covers, covers_names, covers_nothing, declared_single, new_name}
use Rattle.law_sources.proofs.Inside.{AreNames, HasWords}
use Rattle.law_sources.proofs.ScopeJudgements.{OnFine, Any, any_fine, on_all, so_one, so_two, so_three, so_four, so_five}
use Rattle.law_sources.proofs.ScopeStatements.{AreVars, IsVar, counted_one, else_hides, stmts_hide, var_hides, vars_hide}

-- ---- a scope with its variables

-- names that stand before the variables of a scope, as they were declared
record IsScope (names declared : List (List ℕ)) : Type 0 where
  words : Each IsWord names
  counts : (x : List ℕ) → count x declared ≡ count x names
  single : AreSingle declared

covers_outer : (names declared : List (List ℕ)) → IsScope names declared → Covers (declared ++ []) (with_names names nothing_inside).locals
covers_outer names declared h =
    covers_names names [] (declared ++ []) nothing_inside covers_nothing h.words
    (λ x e. let a = count-append x declared [] in let b = h.counts x in omega arith)

covers_all : (names declared : List (List ℕ)) (vars : Tree) (vs : List Tree) → IsScope names declared → AreVars vars declared [] vs
    → Covers (declared_by vars declared ++ []) (with_names (names_of_vars (listed vs)) (with_names names nothing_inside)).locals
covers_all names declared vars vs h i =
    covers_names (names_of_vars (listed vs)) (declared ++ []) (declared_by vars declared ++ []) (with_names names nothing_inside) (covers_outer names declared h) i.words
    (λ x e. let a = count-append x (declared_by vars declared) [] in let b = i.counts x in let c = count-append x declared [] in omega arith)

all_distinct : (names declared : List (List ℕ)) (vars : Tree) (vs : List Tree) → IsScope names declared → AreVars vars declared [] vs
    → AreDistinct (names ++ names_of_vars (listed vs))
all_distinct names declared vars vs h i =
    distinct (names ++ names_of_vars (listed vs)) (λ x.
    let a = count-append x names (names_of_vars (listed vs)) in
    let b = i.counts x in
    let c = h.counts x in
    let d = declared_single vars declared h.single x in
    omega arith)

-- ---- formals

abbrev IsFormal : Tree → List (List ℕ) → Tree → Type 0
IsFormal f here (tree.port shape (tree.ident name place) at) = (declared_name f ≡ name) × (is_among name here ≡ false) × IsWord name
IsFormal f here other = ⊥

record AreFormals (formals : Tree) (here : List (List ℕ)) (rs : List Tree) : Type 0 where
  words : Each IsWord (names_of_formals (listed rs))
  counts : (x : List ℕ) → count x (declared_by formals here) ≡ count x here + count x (names_of_formals (listed rs))

no_formals : (here : List (List ℕ)) → AreFormals tree.nil here []
no_formals here = record { words = tt; counts = λ x. omega arith }

formal_before : (f fs : Tree) (here : List (List ℕ)) (r : Tree) (rs : List Tree) → IsFormal f here r → AreFormals fs (with_name (declared_name f) here) rs
    → AreFormals (tree.cons f fs) here (r ∷ rs)
formal_before f fs here (tree.port shape (tree.ident name place) at) rs h more = record {
  words = (h.2, more.words);
  counts = λ x. let e = more.counts x in let f = counted_one x name (declared_name f) here h.0 h.1 in omega arith;
}
formal_before f fs here _ rs h more = absurd h

formal_fine : (f : Tree) (here : List (List ℕ)) (names : Names) → HasWords f → OnFine (IsFormal f here) (formal_resolved f here names)
formal_fine (tree.port shape (tree.ident name place) at) here names w = go (is_among name here) refl
  where
    go : (b : Bool) → is_among name here ≡ b
        → OnFine (IsFormal (tree.port shape (tree.ident name place) at) here)
        (if b then Broken declared_twice at else and_so (type_resolved shape names) (λ t. Fine (tree.port t (tree.ident name place) at)))
    go true e = tt
    go false e =
        so_one (IsFormal (tree.port shape (tree.ident name place) at) here) (λ x. Any x) (type_resolved shape names) (λ t. tree.port t (tree.ident name place) at)
        (any_fine (type_resolved shape names)) (λ t i. (refl, e, w.0))
formal_fine _ here names w = tt

formals_fine : (fs : Tree) (here : List (List ℕ)) (names : Names) → HasWords fs → OnFine (AreFormals fs here) (formals_resolved fs here names)
formals_fine tree.nil here names w = no_formals here
formals_fine (tree.cons f fs) here names w =
    so_two (AreFormals (tree.cons f fs) here) (IsFormal f here) (AreFormals fs (with_name (declared_name f) here)) (formal_resolved f here (within here names))
    (formals_resolved fs (with_name (declared_name f) here) names) (λ r rs. r ∷ rs)
    (formal_fine f here (within here names) w.0) (formals_fine fs (with_name (declared_name f) here) names w.1)
    (λ r rs i j. formal_before f fs here r rs i j)
formals_fine _ here names w = tt

formals_scope : (formals : Tree) (fs : List Tree) → AreFormals formals [] fs → IsScope (names_of_formals (listed fs)) (declared_by formals [])
formals_scope formals fs h = record { words = h.words; counts = λ x. let e = h.counts x in omega arith; single = declared_single formals [] (λ x. omega arith) }

-- ---- functions and procedures

routine_scoped : (formals vars body : Tree) (fs vs : List Tree) → AreFormals formals [] fs → AreVars vars (declared_by formals []) [] vs
    → Hides (declared_by vars (declared_by formals []) ++ []) body → IsRoutineScoped (listed fs) (listed vs) body
routine_scoped formals vars body fs vs h i j =
    let scope = formals_scope formals fs h in (
      all_distinct (names_of_formals (listed fs)) (declared_by formals []) vars vs scope i,
      i.calls (with_names (names_of_formals (listed fs)) nothing_inside) (covers_outer (names_of_formals (listed fs)) (declared_by formals []) scope),
      j (with_vars_named (names_of_formals (listed fs)) (listed vs)) (covers_all (names_of_formals (listed fs)) (declared_by formals []) vars vs scope i),
    )

function_scoped : (nm formals result vars body : Tree) (at : ℕ) (seen : List Global) → HasWords (tree.function nm formals result vars body at) → AreTold seen
    → OnFine IsFunScoped (function_resolved (tree.function nm formals result vars body at) (outermost seen))
function_scoped nm formals result vars body at seen w h =
    let names = outermost seen in
    let declared = declared_by formals [] in
    so_four IsFunScoped (AreFormals formals []) (λ x. Any x) (AreVars vars declared []) (Hides (declared_by vars declared ++ []))
    (formals_resolved formals [] names) (type_resolved result (within declared names)) (vars_resolved vars declared names)
    (expr_resolved body (within (declared_by vars declared) names)) (λ fs t vs e. tree.function nm (listed fs) t (listed vs) e at)
    (formals_fine formals [] names w.0) (any_fine (type_resolved result (within declared names))) (vars_hide vars declared names w.2 h)
    (expr_hides body (within (declared_by vars declared) names) w.3 h)
    (λ fs t vs e i j k l. routine_scoped formals vars e fs vs i k l)

procedure_scoped : (nm formals vars body : Tree) (at : ℕ) (seen : List Global) → HasWords (tree.procedure nm formals vars body at) → AreTold seen
    → OnFine IsProcScoped (procedure_resolved (tree.procedure nm formals vars body at) (outermost seen))
procedure_scoped nm formals vars body at seen w h =
    let names = outermost seen in
    let declared = declared_by formals [] in
    so_three IsProcScoped (AreFormals formals []) (AreVars vars declared []) (AllHide (declared_by vars declared ++ []))
    (formals_resolved formals [] names) (vars_resolved vars declared names)
    (stmts_resolved body (within (declared_by vars declared) names)) (λ fs vs ss. tree.procedure nm (listed fs) (listed vs) (listed ss) at)
    (formals_fine formals [] names w.0) (vars_hide vars declared names w.1 h)
    (stmts_hide body (within (declared_by vars declared) names) w.2 h)
    (λ fs vs ss i j k. routine_scoped formals vars (listed ss) fs vs i j k)

-- ---- patterns

names_words : (ns : Tree) → AreNames ns → Each IsWord (names_listed ns)
names_words (tree.cons (tree.ident name place) ns) h = (h.0, names_words ns h.1)
names_words (tree.cons _ ns) h = absurd h.0
names_words _ h = tt

abbrev AreNew : Tree → List (List ℕ) → Type 0
AreNew ns here = (x : List ℕ) → count x (declared_by ns here) ≡ count x here + count x (names_listed ns)

names_new : (ns : Tree) (here : List (List ℕ)) → AreNames ns → OnFine (λ u. AreNew ns here) (names_judged ns here)
names_new (tree.cons (tree.ident name place) ns) here h = go (is_among name here) refl (names_new ns (with_name name here) h.1)
  where
    go : (b : Bool) → is_among name here ≡ b → OnFine (λ u. AreNew ns (with_name name here)) (names_judged ns (with_name name here))
        → OnFine (λ u. AreNew (tree.cons (tree.ident name place) ns) here) (if b then Broken declared_twice place else names_judged ns (with_name name here))
    go true e more = tt
    go false e more =
        on_all (λ u. AreNew ns (with_name name here)) (λ u. AreNew (tree.cons (tree.ident name place) ns) here)
        (λ u k x. let f = k x in let g = new_name x name here e in omega arith) (names_judged ns (with_name name here)) more
names_new (tree.cons _ ns) here h = absurd h.0
names_new _ here h = λ x. omega arith

abbrev IsPattern : Tree → List (List ℕ) → Tree → Type 0
IsPattern p here (tree.pattern asked variables repeat at) =
    Each IsWord (names_listed variables) × ((x : List ℕ) → count x (pattern_names p here) ≡ count x here + count x (names_listed variables))
IsPattern p here other = ⊥

record ArePatterns (patterns : Tree) (here : List (List ℕ)) (rs : List Tree) : Type 0 where
  words : Each IsWord (names_of_patterns (listed rs))
  counts : (x : List ℕ) → count x (declared_by_patterns patterns here) ≡ count x here + count x (names_of_patterns (listed rs))

no_patterns : (here : List (List ℕ)) → ArePatterns tree.nil here []
no_patterns here = record { words = tt; counts = λ x. omega arith }

pub each_append : {A : Type 0} (Q : A → Type 0) (xs ys : List A) → Each Q xs → Each Q ys → Each Q (xs ++ ys)
each_append Q [] ys h k = k
each_append Q (x ∷ xs) ys h k = (h.0, each_append Q xs ys h.1 k)

pattern_before : (p ps : Tree) (here : List (List ℕ)) (r : Tree) (rs : List Tree) → IsPattern p here r → ArePatterns ps (pattern_names p here) rs
    → ArePatterns (tree.cons p ps) here (r ∷ rs)
pattern_before p ps here (tree.pattern asked variables repeat at) rs h more = record {
  words = each_append IsWord (names_listed variables) (names_of_patterns (listed rs)) h.0 more.words;
  counts = λ x.
      let e = more.counts x in
      let f = h.1 x in
      let g = count-append x (names_listed variables) (names_of_patterns (listed rs)) in
      omega arith;
}
pattern_before p ps here _ rs h more = absurd h

pattern_fine : (p : Tree) (ports : Ports) (here : List (List ℕ)) (names : Names) → HasWords p → OnFine (IsPattern p here) (pattern_resolved p ports here names)
pattern_fine (tree.pattern asked variables repeat at) ports here names w =
    so_three (IsPattern (tree.pattern asked variables repeat at) here) (λ x. Any x) (λ u. AreNew variables here) (λ x. Any x)
    (port_judged asked ports.ins ports.outs) (names_judged variables here) (optional_resolved repeat names) (λ u v n. tree.pattern asked variables n at)
    (any_fine (port_judged asked ports.ins ports.outs)) (names_new variables here w) (any_fine (optional_resolved repeat names))
    (λ u v n i j k. (names_words variables w, j))
pattern_fine _ ports here names w = tt

patterns_fine : (ps : Tree) (ports : Ports) (here : List (List ℕ)) (names : Names) → HasWords ps → OnFine (ArePatterns ps here) (patterns_resolved ps ports here names)
patterns_fine tree.nil ports here names w = no_patterns here
patterns_fine (tree.cons p ps) ports here names w =
    so_two (ArePatterns (tree.cons p ps) here) (IsPattern p here) (ArePatterns ps (pattern_names p here)) (pattern_resolved p ports here names)
    (patterns_resolved ps ports (pattern_names p here) names) (λ r rs. r ∷ rs)
    (pattern_fine p ports here names w.0) (patterns_fine ps ports (pattern_names p here) names w.1)
    (λ r rs i j. pattern_before p ps here r rs i j)
patterns_fine _ ports here names w = tt

pattern_single : (p : Tree) (here : List (List ℕ)) → AreSingle here → AreSingle (pattern_names p here)
pattern_single (tree.pattern asked variables repeat at) here h = declared_single variables here h
pattern_single _ here h = h

patterns_single : (ps : Tree) (here : List (List ℕ)) → AreSingle here → AreSingle (declared_by_patterns ps here)
patterns_single (tree.cons p ps) here h = patterns_single ps (pattern_names p here) (pattern_single p here h)
patterns_single _ here h = h

patterns_scope : (patterns : Tree) (ps : List Tree) → ArePatterns patterns [] ps → IsScope (names_of_patterns (listed ps)) (declared_by_patterns patterns [])
patterns_scope patterns ps h =
    record { words = h.words; counts = λ x. let e = h.counts x in omega arith; single = patterns_single patterns [] (λ x. omega arith) }

-- ---- outputs

abbrev IsOutput : List (List ℕ) → Tree → Type 0
IsOutput locals (tree.output asked values repeat at) = Hides locals values
IsOutput locals other = ⊥

abbrev AreOutputs : List (List ℕ) → List Tree → Type 0
AreOutputs locals rs = (k : kinding.Names) → Covers locals k.locals → OutputsHideNoCall (listed rs) k

output_before : (locals : List (List ℕ)) (r : Tree) (rs : List Tree) → IsOutput locals r → AreOutputs locals rs → AreOutputs locals (r ∷ rs)
output_before locals (tree.output asked values repeat at) rs h more = λ k c. (h k c, more k c)
output_before locals _ rs h more = absurd h

output_hides : (o : Tree) (ports : Ports) (names : Names) → HasWords o → AreTold names.globals → OnFine (IsOutput names.locals) (output_resolved o ports names)
output_hides (tree.output asked values repeat at) ports names w h =
    so_three (IsOutput names.locals) (λ x. Any x) (AllHide names.locals) (λ x. Any x)
    (port_judged asked ports.outs ports.ins) (exprs_resolved values names) (optional_resolved repeat names) (λ u vs n. tree.output asked (listed vs) n at)
    (any_fine (port_judged asked ports.outs ports.ins)) (exprs_hide values names w h) (any_fine (optional_resolved repeat names))
    (λ u vs n i j k. j)
output_hides _ ports names w h = tt

outputs_hide : (os : Tree) (ports : Ports) (names : Names) → HasWords os → AreTold names.globals → OnFine (AreOutputs names.locals) (outputs_resolved os ports names)
outputs_hide tree.nil ports names w h = λ k c. tt
outputs_hide (tree.cons o os) ports names w h =
    so_two (AreOutputs names.locals) (IsOutput names.locals) (AreOutputs names.locals) (output_resolved o ports names) (outputs_resolved os ports names) (λ r rs. r ∷ rs)
    (output_hides o ports names w.0 h) (outputs_hide os ports names w.1 h) (λ r rs i j. output_before names.locals r rs i j)
outputs_hide _ ports names w h = tt

-- ---- actions

action_parts : (t : Tree) (initialize : Bool) (patterns vars body : Tree) (at : ℕ) (ps gs vs os : List Tree) → ArePatterns patterns [] ps
    → AllHide (declared_by_patterns patterns [] ++ []) gs → AreVars vars (declared_by_patterns patterns []) [] vs
    → Hides (declared_by vars (declared_by_patterns patterns []) ++ []) body → AreOutputs (declared_by vars (declared_by_patterns patterns []) ++ []) os
    → IsActionScoped (tree.action t initialize (listed ps) (listed os) (listed gs) (listed vs) body at)
action_parts t initialize patterns vars body at ps gs vs os h g i j o =
    let declared = declared_by_patterns patterns [] in
    let names = names_of_patterns (listed ps) in
    let scope = patterns_scope patterns ps h in
    let outer = covers_outer names declared scope in
    let all = covers_all names declared vars vs scope i in (
      all_distinct names declared vars vs scope i,
      g (with_names names nothing_inside) outer,
      i.calls (with_names names nothing_inside) outer,
      j (with_vars_named names (listed vs)) all,
      o (with_vars_named names (listed vs)) all,
    )

action_scoped : (t : Tree) (initialize : Bool) (patterns outputs guards vars body : Tree) (at : ℕ) (ports : Ports) (seen : List Global)
    → HasWords (tree.action t initialize patterns outputs guards vars body at) → AreTold seen
    → OnFine IsActionScoped (action_resolved (tree.action t initialize patterns outputs guards vars body at) ports (outermost seen))
action_scoped t initialize patterns outputs guards vars body at ports seen w h =
    let names = outermost seen in
    let declared = declared_by_patterns patterns [] in
    let all = declared_by vars declared in
    so_five IsActionScoped (ArePatterns patterns []) (AllHide (declared ++ [])) (AreVars vars declared []) (Hides (all ++ [])) (AreOutputs (all ++ []))
    (patterns_resolved patterns ports [] names) (exprs_resolved guards (within declared names)) (vars_resolved vars declared names)
    (else_resolved body (within all names)) (outputs_resolved outputs ports (within all names))
    (λ ps gs vs b os. tree.action t initialize (listed ps) (listed os) (listed gs) (listed vs) b at)
    (patterns_fine patterns ports [] names w.0) (exprs_hide guards (within declared names) w.2 h) (vars_hide vars declared names w.3 h)
    (else_hides body (within all names) w.4 w.5 h) (outputs_hide outputs ports (within all names) w.1 h)
    (λ ps gs vs b os i j k l m. action_parts t initialize patterns vars b at ps gs vs os i j k l m)

-- ---- members

abbrev pub IsMemberScoped : Tree → Type 0
IsMemberScoped (tree.function nm formals result vars body at) = IsFunScoped (tree.function nm formals result vars body at)
IsMemberScoped (tree.procedure nm formals vars body at) = IsProcScoped (tree.procedure nm formals vars body at)
IsMemberScoped (tree.action t initialize patterns outputs guards vars body at) = IsActionScoped (tree.action t initialize patterns outputs guards vars body at)
IsMemberScoped other = Unit {0}

abbrev pub AreMembersScoped : Tree → Type 0
AreMembersScoped (tree.cons m ms) = IsMemberScoped m × AreMembersScoped ms
AreMembersScoped other = Unit {0}

of_variable : (v r : Tree) → IsVar v [] [] r → IsMemberScoped r
of_variable v (tree.var shape (tree.ident name place) start changes at) h = tt
of_variable v _ h = absurd h

of_function : (r : Tree) → IsFunScoped r → IsMemberScoped r
of_function (tree.function nm formals result vars body at) h = h
of_function _ h = absurd h

of_procedure : (r : Tree) → IsProcScoped r → IsMemberScoped r
of_procedure (tree.procedure nm formals vars body at) h = h
of_procedure _ h = absurd h

of_action : (r : Tree) → IsActionScoped r → IsMemberScoped r
of_action (tree.action t initialize patterns outputs guards vars body at) h = h
of_action _ h = absurd h

member_scoped : (m : Tree) (ports : Ports) (seen : List Global) → HasWords m → AreTold seen → OnFine IsMemberScoped (member_resolved m ports (outermost seen))
member_scoped (tree.var shape name start changes at) ports seen w h =
    on_all (IsVar (tree.var shape name start changes at) [] []) IsMemberScoped (of_variable (tree.var shape name start changes at))
    (var_resolved (tree.var shape name start changes at) [] (outermost seen)) (var_hides (tree.var shape name start changes at) [] (outermost seen) w h)
member_scoped (tree.function nm formals result vars body at) ports seen w h =
    on_all IsFunScoped IsMemberScoped of_function (function_resolved (tree.function nm formals result vars body at) (outermost seen))
    (function_scoped nm formals result vars body at seen w h)
member_scoped (tree.procedure nm formals vars body at) ports seen w h =
    on_all IsProcScoped IsMemberScoped of_procedure (procedure_resolved (tree.procedure nm formals vars body at) (outermost seen))
    (procedure_scoped nm formals vars body at seen w h)
member_scoped (tree.action t initialize patterns outputs guards vars body at) ports seen w h =
    on_all IsActionScoped IsMemberScoped of_action (action_resolved (tree.action t initialize patterns outputs guards vars body at) ports (outermost seen))
    (action_scoped t initialize patterns outputs guards vars body at ports seen w h)
member_scoped _ ports seen w h = tt

pub members_scoped : (ms : Tree) (ports : Ports) (seen : List Global) → HasWords ms → AreTold seen
    → OnFine (λ rs. AreMembersScoped (listed rs)) (members_resolved ms ports (outermost seen))
members_scoped tree.nil ports seen w h = tt
members_scoped (tree.cons m ms) ports seen w h =
    so_two (λ rs. AreMembersScoped (listed rs)) IsMemberScoped (λ rs. AreMembersScoped (listed rs)) (member_resolved m ports (outermost seen)) (members_resolved ms ports (outermost seen))
    (λ r rs. r ∷ rs) (member_scoped m ports seen w.0 h) (members_scoped ms ports seen w.1 h) (λ r rs i j. (i, j))
members_scoped _ ports seen w h = tt
