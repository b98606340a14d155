-- Members whose names are written out in full: their form, their calls, and what they declare.
use Rattle.std.proofs.Common.{◌≡◌, ℕ, ◌+◌, Bool, true, false, List, [], ◌∷◌, refl, ap, arith}
use Rattle.std.specs.Prelude.{if◌then◌else◌}
use Rattle.std.specs.Str.{bytes_eq}
use Rattle.rvc_base.specs.Rules.{declared_twice}
use Rattle.cal_ast.specs.Tree as tree
use Rattle.cal_ast.specs.Tree.{Tree, listed}
use Rattle.cal_model.specs.Kinding.{Fine, Broken, and_so}
use Rattle.cal_model.specs.Sound.{EachCall}
use Rattle.cal_check.specs.Formed.{AreDeclared, AreFormed, AreMoves, FormalCalls, FormalsCall}
use Rattle.cal_scope.specs.Expressions.{declared_by, declared_name, expr_resolved, exprs_resolved, optional_resolved, type_resolved}
use Rattle.cal_scope.specs.Members.{Ports, action_resolved, declared_by_patterns, formal_resolved, formals_resolved, function_resolved, member_resolved, members_resolved, outputs_resolved, pattern_names, pattern_resolved, patterns_resolved, procedure_resolved}
use Rattle.cal_scope.specs.declared.role.Role.{Role}
use Rattle.cal_scope.specs.declared.role.Role.TheVariants.{Variable, Function, Procedure}
use Rattle.cal_scope.specs.Names.{Global, Names, is_among, with_name, within}
use Rattle.cal_scope.specs.Statements.{else_resolved, stmts_resolved, var_resolved, vars_resolved}
use Rattle.law_sources.proofs.Counts.{one}
use Rattle.law_sources.proofs.Declarations.{Declared, a_routine, a_procedure, declared}
use Rattle.law_sources.proofs.FormExpressions.{Call, expr_calls, type_calls}
use Rattle.law_sources.proofs.FormJudgements.{OnFine, Any, any_fine, so_one, so_two, so_three, so_four, so_five}
use Rattle.law_sources.proofs.Meant.{AreMeant, InRole}
use Rattle.law_sources.proofs.Shaped.{AreShapedMembers, IsShapedMember}
use Rattle.law_sources.proofs.FormStatements.{AreStmts, IsElse, else_formed, stmts_formed}
use Rattle.law_sources.proofs.Variables.{AreVars, vars_some}

-- ---- forms and calls

abbrev pub Never : List ℕ → Type 0
Never name = ⊥

abbrev pub Ever : List ℕ → Type 0
Ever name = Unit {0}

-- the declaration of a function calls only such functions, in its types too
abbrev pub DeclCalls : (F : List ℕ → Type 0) → Tree → Type 0
DeclCalls F (tree.function name formals result vars body at) =
    FormalsCall F Never formals × EachCall F Never result × EachCall F Never vars × EachCall F Never body
DeclCalls F other = Unit {0}

-- .. and that of a procedure only such procedures
abbrev pub BodyCalls : (P : List ℕ → Type 0) → Tree → Type 0
BodyCalls P (tree.procedure name formals vars body at) = EachCall Ever P body
BodyCalls P other = Unit {0}

abbrev pub IsFormedMember : Tree → Type 0
IsFormedMember (tree.function name formals result vars body at) = AreDeclared vars
IsFormedMember (tree.procedure (tree.ident name place) formals vars body at) = AreDeclared vars × AreFormed body
IsFormedMember (tree.procedure other formals vars body at) = ⊥
IsFormedMember (tree.action tagged initialize patterns outputs guards vars body at) =
    AreDeclared vars × AreFormed body × (initialize ≡ true → patterns ≡ tree.nil)
IsFormedMember (tree.schedule start moves at) = AreMoves moves
IsFormedMember other = Unit {0}

-- a member that was written `m`
pub record IsMember (F P : List ℕ → Type 0) (m r : Tree) : Type 0 where
  pub formed : IsFormedMember r
  pub fun_calls : DeclCalls F r
  pub proc_calls : BodyCalls P r
  pub declares : declared r ≡ declared m

-- ---- formals

formal_calls : (F P Q : List ℕ → Type 0) (f : Tree) (here : List (List ℕ)) (names : Names) → AreMeant F P names.globals
    → OnFine (λ r. FormalCalls F Q r) (formal_resolved f here names)
formal_calls F P Q (tree.port shape (tree.ident name place) at) here names h = go (is_among name here)
  where
    go : (b : Bool) → OnFine (λ r. FormalCalls F Q r) (if b then Broken declared_twice at else and_so (type_resolved shape names) (λ t. Fine (tree.port t (tree.ident name place) at)))
    go true = tt
    go false =
        so_one (λ r. FormalCalls F Q r) (Call F Q) (type_resolved shape names) (λ t. tree.port t (tree.ident name place) at) (type_calls F P Q shape names h) (λ t i. i)
formal_calls F P Q _ here names h = tt

formals_call : (F P Q : List ℕ → Type 0) (fs : Tree) (here : List (List ℕ)) (names : Names) → AreMeant F P names.globals
    → OnFine (λ rs. FormalsCall F Q (listed rs)) (formals_resolved fs here names)
formals_call F P Q tree.nil here names h = tt
formals_call F P Q (tree.cons f fs) here names h =
    so_two (λ rs. FormalsCall F Q (listed rs)) (λ r. FormalCalls F Q r) (λ rs. FormalsCall F Q (listed rs)) (formal_resolved f here (within here names))
    (formals_resolved fs (with_name (declared_name f) here) names) (λ r rs. r ∷ rs) (formal_calls F P Q f here (within here names) h)
    (formals_call F P Q fs (with_name (declared_name f) here) names h) (λ r rs i j. (i, j))
formals_call F P Q _ here names h = tt

-- ---- members

var_member : (F P : List ℕ → Type 0) (shape nm start : Tree) (changes : Bool) (at : ℕ) (names : Names)
    → OnFine (IsMember F P (tree.var shape nm start changes at)) (var_resolved (tree.var shape nm start changes at) [] names)
var_member F P shape (tree.ident name place) start changes at names =
    so_two (IsMember F P (tree.var shape (tree.ident name place) start changes at)) (λ x. Any x) (λ x. Any x) (type_resolved shape names) (optional_resolved start names)
    (λ t e. tree.var t (tree.ident name place) e changes at) (any_fine (type_resolved shape names)) (any_fine (optional_resolved start names))
    (λ t e i j. record { formed = tt; fun_calls = tt; proc_calls = tt; declares = refl })
var_member F P shape _ start changes at names = tt

same_function : (nm f s v b g t w c : Tree) (at : ℕ) → declared (tree.function nm g t w c at) ≡ declared (tree.function nm f s v b at)
same_function (tree.ident name place) f s v b g t w c at = refl
same_function _ f s v b g t w c at = refl

function_member : (F P : List ℕ → Type 0) (nm formals result vars body : Tree) (at : ℕ) (names : Names) → IsShapedMember (tree.function nm formals result vars body at)
    → AreMeant F P names.globals
    → OnFine (IsMember F P (tree.function nm formals result vars body at)) (function_resolved (tree.function nm formals result vars body at) names)
function_member F P nm formals result vars body at names s h =
    so_four (IsMember F P (tree.function nm formals result vars body at)) (λ rs. FormalsCall F Never (listed rs)) (Call F Never) (AreVars F Never) (Call F Never)
    (formals_resolved formals [] names) (type_resolved result (within (declared_by formals []) names)) (vars_resolved vars (declared_by formals []) names)
    (expr_resolved body (within (declared_by vars (declared_by formals [])) names)) (λ fs t vs e. tree.function nm (listed fs) t (listed vs) e at)
    (formals_call F P Never formals [] names h) (type_calls F P Never result (within (declared_by formals []) names) h)
    (vars_some F P Never vars (declared_by formals []) names s h) (expr_calls F P Never body (within (declared_by vars (declared_by formals [])) names) h)
    (λ fs t vs e i j k l. record {
      formed = k.declared;
      fun_calls = (i, j, k.calls, l);
      proc_calls = tt;
      declares = same_function nm formals result vars body (listed fs) t (listed vs) e at;
    })

-- which functions a procedure calls doesn't matter
any_function : (F P : List ℕ → Type 0) (gs : List Global) → AreMeant F P gs → AreMeant Ever P gs
any_function F P [] h = tt
any_function F P (g ∷ gs) h = (in_role g.role g.full h.0, any_function F P gs h.1)
  where
    in_role : (r : Role) (full : List ℕ) → InRole F P r full → InRole Ever P r full
    in_role Variable full i = tt
    in_role Function full i = tt
    in_role Procedure full i = i

procedure_member : (F P : List ℕ → Type 0) (nm formals vars body : Tree) (at : ℕ) (names : Names) → IsShapedMember (tree.procedure nm formals vars body at)
    → AreMeant F P names.globals
    → OnFine (IsMember F P (tree.procedure nm formals vars body at)) (procedure_resolved (tree.procedure nm formals vars body at) names)
procedure_member F P (tree.ident name place) formals vars body at names s h =
    so_three (IsMember F P (tree.procedure (tree.ident name place) formals vars body at)) (λ x. Any x) (AreVars F P) (AreStmts Ever P)
    (formals_resolved formals [] names) (vars_resolved vars (declared_by formals []) names)
    (stmts_resolved body (within (declared_by vars (declared_by formals [])) names))
    (λ fs vs ss. tree.procedure (tree.ident name place) (listed fs) (listed vs) (listed ss) at)
    (any_fine (formals_resolved formals [] names)) (vars_some F P P vars (declared_by formals []) names s.1 h)
    (stmts_formed Ever P body (within (declared_by vars (declared_by formals [])) names) s.2 (any_function F P names.globals h))
    (λ fs vs ss i j k. record {
      formed = (j.declared, k.0);
      fun_calls = tt;
      proc_calls = k.1;
      declares = refl;
    })
procedure_member F P _ formals vars body at names s h = absurd s.0

no_pattern : (p ps r : Tree) (rs : List Tree) → tree.cons p ps ≡ tree.nil → listed (r ∷ rs) ≡ tree.nil
no_pattern p ps r rs e = absurd cc

-- patterns that are none stay none
patterns_kept : (ps : Tree) (ports : Ports) (names : Names) → OnFine (λ rs. ps ≡ tree.nil → listed rs ≡ tree.nil) (patterns_resolved ps ports [] names)
patterns_kept tree.nil ports names = λ e. refl
patterns_kept (tree.cons p ps) ports names =
    so_two (λ rs. tree.cons p ps ≡ tree.nil → listed rs ≡ tree.nil) (λ x. Any x) (λ x. Any x) (pattern_resolved p ports [] names)
    (patterns_resolved ps ports (pattern_names p []) names) (λ r rs. r ∷ rs) (any_fine (pattern_resolved p ports [] names))
    (any_fine (patterns_resolved ps ports (pattern_names p []) names)) (λ r rs i j e. no_pattern p ps r rs e)
patterns_kept _ ports names = tt

action_member : (F P : List ℕ → Type 0) (t : Tree) (initialize : Bool) (patterns outputs guards vars body : Tree) (at : ℕ) (ports : Ports) (names : Names)
    → IsShapedMember (tree.action t initialize patterns outputs guards vars body at) → AreMeant F P names.globals
    → OnFine (IsMember F P (tree.action t initialize patterns outputs guards vars body at)) (action_resolved (tree.action t initialize patterns outputs guards vars body at) ports names)
action_member F P t initialize patterns outputs guards vars body at ports names s h =
    so_five (IsMember F P (tree.action t initialize patterns outputs guards vars body at)) (λ rs. patterns ≡ tree.nil → listed rs ≡ tree.nil) (λ x. Any x) (AreVars F P) (IsElse F P)
    (λ x. Any x) (patterns_resolved patterns ports [] names) (exprs_resolved guards (within (declared_by_patterns patterns []) names))
    (vars_resolved vars (declared_by_patterns patterns []) names) (else_resolved body (within (declared_by vars (declared_by_patterns patterns [])) names))
    (outputs_resolved outputs ports (within (declared_by vars (declared_by_patterns patterns [])) names))
    (λ ps gs vs b os. tree.action t initialize (listed ps) (listed os) (listed gs) (listed vs) b at)
    (patterns_kept patterns ports names) (any_fine (exprs_resolved guards (within (declared_by_patterns patterns []) names)))
    (vars_some F P P vars (declared_by_patterns patterns []) names s.0 h)
    (else_formed F P body (within (declared_by vars (declared_by_patterns patterns [])) names) s.1 h)
    (any_fine (outputs_resolved outputs ports (within (declared_by vars (declared_by_patterns patterns [])) names)))
    (λ ps gs vs b os i j k l m. record {
      formed = (k.declared, l.0, λ e. i (s.2 e));
      fun_calls = tt;
      proc_calls = tt;
      declares = refl;
    })

member_formed : (F P : List ℕ → Type 0) (m : Tree) (ports : Ports) (names : Names) → IsShapedMember m → AreMeant F P names.globals
    → OnFine (IsMember F P m) (member_resolved m ports names)
member_formed F P (tree.var shape nm start changes at) ports names s h = var_member F P shape nm start changes at names
member_formed F P (tree.function nm formals result vars body at) ports names s h = function_member F P nm formals result vars body at names s h
member_formed F P (tree.procedure nm formals vars body at) ports names s h = procedure_member F P nm formals vars body at names s h
member_formed F P (tree.action t initialize patterns outputs guards vars body at) ports names s h =
    action_member F P t initialize patterns outputs guards vars body at ports names s h
member_formed F P (tree.schedule start moves at) ports names s h = record { formed = s; fun_calls = tt; proc_calls = tt; declares = refl }
member_formed F P _ ports names s h = record { formed = tt; fun_calls = tt; proc_calls = tt; declares = refl }

-- ---- all members

abbrev pub AreFormedMembers : Tree → Type 0
AreFormedMembers (tree.cons m ms) = IsFormedMember m × AreFormedMembers ms
AreFormedMembers other = Unit {0}

abbrev pub AllDeclCalls : (F : List ℕ → Type 0) → Tree → Type 0
AllDeclCalls F (tree.cons m ms) = DeclCalls F m × AllDeclCalls F ms
AllDeclCalls F other = Unit {0}

abbrev pub AllBodyCalls : (P : List ℕ → Type 0) → Tree → Type 0
AllBodyCalls P (tree.cons m ms) = BodyCalls P m × AllBodyCalls P ms
AllBodyCalls P other = Unit {0}

-- how often a text is the name of a function, and that of a procedure
abbrev pub as_function : List ℕ → Declared → ℕ
as_function x (a_routine name) = one (bytes_eq x name)
as_function x other = 0

abbrev pub as_procedure : List ℕ → Declared → ℕ
as_procedure x (a_procedure name) = one (bytes_eq x name)
as_procedure x other = 0

-- .. among members
abbrev pub functions : List ℕ → Tree → ℕ
functions x (tree.cons m ms) = as_function x (declared m) + functions x ms
functions x other = 0

abbrev pub procedures : List ℕ → Tree → ℕ
procedures x (tree.cons m ms) = as_procedure x (declared m) + procedures x ms
procedures x other = 0

-- members that were written `ms`
pub record AreMembers (F P : List ℕ → Type 0) (ms rs : Tree) : Type 0 where
  pub formed : AreFormedMembers rs
  pub fun_calls : AllDeclCalls F rs
  pub proc_calls : AllBodyCalls P rs
  pub same_functions : (x : List ℕ) → functions x rs ≡ functions x ms
  pub same_procedures : (x : List ℕ) → procedures x rs ≡ procedures x ms

with_member : (F P : List ℕ → Type 0) (m ms r rs : Tree) → IsMember F P m r → AreMembers F P ms rs → AreMembers F P (tree.cons m ms) (tree.cons r rs)
with_member F P m ms r rs h k = record {
  formed = (h.formed, k.formed);
  fun_calls = (h.fun_calls, k.fun_calls);
  proc_calls = (h.proc_calls, k.proc_calls);
  same_functions = λ x. let e = ap (as_function x) h.declares in let f = k.same_functions x in omega arith;
  same_procedures = λ x. let e = ap (as_procedure x) h.declares in let f = k.same_procedures x in omega arith;
}

pub members_formed : (F P : List ℕ → Type 0) (ms : Tree) (ports : Ports) (names : Names) → AreShapedMembers ms → AreMeant F P names.globals
    → OnFine (λ rs. AreMembers F P ms (listed rs)) (members_resolved ms ports names)
members_formed F P tree.nil ports names s h =
    record { formed = tt; fun_calls = tt; proc_calls = tt; same_functions = λ x. refl; same_procedures = λ x. refl }
members_formed F P (tree.cons m ms) ports names s h =
    so_two (λ rs. AreMembers F P (tree.cons m ms) (listed rs)) (IsMember F P m) (λ rs. AreMembers F P ms (listed rs)) (member_resolved m ports names)
    (members_resolved ms ports names) (λ r rs. r ∷ rs) (member_formed F P m ports names s.0 h) (members_formed F P ms ports names s.1 h)
    (λ r rs i j. with_member F P m ms r (listed rs) i j)
members_formed F P _ ports names s h = tt
