-- Parts in order: one part more, and where a loop has come to.
use Rattle.std.proofs.Common.{◌≡◌, ℕ, Bool, Ok, Err, Some, None, List, [], ◌∷◌, ◌++◌, map, refl, sym, ap, subst, ◌∙◌, append-nil}
use Rattle.cal_ast.specs.Tree.{listed}
use Rattle.cal_ast.specs.View.{expr_tree, var_tree}
use Rattle.cal_ast.specs.declared.expr.Expr.{Expr}
use Rattle.cal_ast.specs.declared.member.VarDecl.{VarDecl}
use Rattle.cal_model.specs.Value.{Kind}
use Rattle.cal_model.specs.Kinding.{Judged, Fine, Broken, and_so, Names, kinds, with_known}
use Rattle.rvc_base.specs.Rules.{not_constant}
use Rattle.const_env.specs.declared.fault.KindFault.{KindFault}
use Rattle.const_env.specs.Counting.{inner_variables, known_variable, names_inside, variable_view}
use Rattle.const_env.specs.Held.{last_first}
use Rattle.const_env.specs.declared.inside.Variable.{Variable}
use Rattle.const_env.specs.declared.names.Names.{Names as DeclaredNames}
use Rattle.cal_check.specs.Violations.{Violation, broken, said, violation, while_fine}
use Rattle.cal_check.specs.Statements.{behind, names_behind, starts_broken, type_of_var, var_broken}
use Rattle.check_stmt.specs.Declaring.{DeclaresAllSaid, DeclaresSaid, seen_behind}
use Rattle.check_stmt.specs.Judging.{Refuses}
use Rattle.check_stmt.proofs.Said.{said_append, said_next, said_none, said_on}

-- ---- kinds of expressions

-- the kinds of what is left, behind those that were found
abbrev pub kinds_left : List Kind → List Expr → Names → Judged (List Kind)
kinds_left found rest names = and_so (kinds (listed (map expr_tree rest)) names) (λ ks. Fine (found ++ ks))

-- ---- variables

last_more : {X Y : Type 0} (view : X → Y) (xs : List X) (x : X) (later : List Y) → last_first view (xs ++ x ∷ []) later ≡ view x ∷ last_first view xs later
last_more view [] x later = refl
last_more view (y ∷ xs) x later = last_more view xs x (view y ∷ later)

pub seen_next : (xs news : List Variable) (x : Variable) (names : DeclaredNames) → news ≡ xs ++ x ∷ [] → seen_behind news names ≡ with_known (known_variable (variable_view x)) (seen_behind xs names)
seen_next xs news x names e = ap (λ ys. seen_behind ys names) e ∙ ap (λ vs. names_inside vs names.env.now) (last_more variable_view xs x (inner_variables names.inner))

-- what is left breaks what all break, and of what stands before it nothing is said
abbrev pub AreBehind : Bool → List VarDecl → Names → List VarDecl → Names → Type 0
AreBehind passes rest here all outer =
    (said passes (starts_broken (listed (map var_tree rest)) here) ≡ said passes (starts_broken (listed (map var_tree all)) outer))
    × (names_behind (listed (map var_tree rest)) here ≡ names_behind (listed (map var_tree all)) outer)

goes : (passes : Bool) (vb : List Violation) (b : Judged Names) (inner : Names) (F : Names → List Violation) → said passes vb ≡ [] → b ≡ Fine inner
    → said passes (vb ++ while_fine b F) ≡ said passes (F inner)
goes passes vb b inner F e h = said_next passes vb (while_fine b F) e ∙ ap (λ o. said passes (while_fine o F)) h

pub vars_next : (passes : Bool) (rest others all : List VarDecl) (v : VarDecl) (x : Variable) (xs news : List Variable) (names : DeclaredNames) (outer : Names) → rest ≡ v ∷ others → news ≡ xs ++ x ∷ []
    → DeclaresSaid passes (Ok (Some x)) (var_tree v) (seen_behind xs names) → AreBehind passes rest (seen_behind xs names) all outer → AreBehind passes others (seen_behind news names) all outer
vars_next passes rest others all v x xs news names outer is new fine before =
    let here = seen_behind xs names in
    let next : seen_behind news names ≡ with_known (known_variable (variable_view x)) here = seen_next xs news x names new in (
      ap (λ ns. said passes (starts_broken (listed (map var_tree others)) ns)) next
          ∙ sym (goes passes (var_broken (var_tree v) here) (behind (type_of_var (var_tree v) here) (var_tree v) here) (with_known (known_variable (variable_view x)) here) (λ inner. starts_broken (listed (map var_tree others)) inner) fine.0 fine.1)
          ∙ sym (ap (λ vs. said passes (starts_broken (listed (map var_tree vs)) here)) is) ∙ before.0,
      ap (λ ns. names_behind (listed (map var_tree others)) ns) next
          ∙ sym (ap (λ o. and_so o (λ inner. names_behind (listed (map var_tree others)) inner)) fine.1)
          ∙ sym (ap (λ vs. names_behind (listed (map var_tree vs)) here) is) ∙ before.1,
    )

-- none is left
pub vars_all : (passes : Bool) (xs : List Variable) (rest all : List VarDecl) (names : DeclaredNames) (outer : Names) → rest ≡ []
    → AreBehind passes rest (seen_behind xs names) all outer → DeclaresAllSaid passes (Ok (Some xs)) all names outer
vars_all passes xs rest all names outer e before =
    let here = seen_behind xs names in (
      sym before.0 ∙ ap (λ vs. said passes (starts_broken (listed (map var_tree vs)) here)) e ∙ said_none passes,
      sym before.1 ∙ ap (λ vs. names_behind (listed (map var_tree vs)) here) e,
    )

-- the type of the next isn't constant
stops : (passes : Bool) (vb : List Violation) (b : Judged Names) (F : Names → List Violation) (at : ℕ) → vb ≡ [] → b ≡ Broken not_constant at
    → said passes (vb ++ while_fine b F) ≡ []
stops passes vb b F at e h = ap (λ us. said passes (us ++ while_fine b F)) e ∙ ap (λ o. said passes (while_fine o F)) h ∙ said_none passes

pub vars_passed : (passes : Bool) (rest others all : List VarDecl) (v : VarDecl) (here : Names) (names : DeclaredNames) (outer : Names) → rest ≡ v ∷ others
    → DeclaresSaid passes (Ok None) (var_tree v) here → AreBehind passes rest here all outer → DeclaresAllSaid passes (Ok None) all names outer
vars_passed passes rest others all v here names outer is (none, (p, (at, h))) before = (
  sym before.0 ∙ ap (λ vs. said passes (starts_broken (listed (map var_tree vs)) here)) is
      ∙ stops passes (var_broken (var_tree v) here) (behind (type_of_var (var_tree v) here) (var_tree v) here) (λ inner. starts_broken (listed (map var_tree others)) inner) at none h,
  (
    p,
    (
      at,
      sym before.1 ∙ ap (λ vs. names_behind (listed (map var_tree vs)) here) is
          ∙ ap (λ o. and_so o (λ inner. names_behind (listed (map var_tree others)) inner)) h,
    ),
  ),
)

-- the next breaks a rule
first_refused : (f : KindFault) (passes : Bool) (vb : List Violation) (b : Judged Names) (F : Names → List Violation) (G : Names → Judged Names) → Refuses f (said passes (vb ++ broken b))
    → Refuses f (said passes ((vb ++ while_fine b F) ++ broken (and_so b G)))
first_refused f passes vb (Fine a) F G h =
    said_on f passes (vb ++ F a) (broken (G a)) (said_on f passes vb (F a) (subst (λ us. Refuses f (said passes us)) (append-nil vb) h))
first_refused f passes vb (Broken rule at) F G h =
    subst (λ us. Refuses f (said passes (us ++ violation rule at))) (sym (append-nil vb)) h

same_said : (passes : Bool) (xs ys : List Violation) (i j : Judged Names) → said passes xs ≡ said passes ys → i ≡ j → said passes (xs ++ broken i) ≡ said passes (ys ++ broken j)
same_said passes xs ys i j e h =
    said_append passes xs (broken i) ∙ ap (λ us. us ++ said passes (broken i)) e ∙ ap (λ o. said passes ys ++ said passes (broken o)) h ∙ sym (said_append passes ys (broken j))

pub vars_refused : (f : KindFault) (passes : Bool) (rest others all : List VarDecl) (v : VarDecl) (here : Names) (names : DeclaredNames) (outer : Names) → rest ≡ v ∷ others
    → DeclaresSaid passes (Err f) (var_tree v) here → AreBehind passes rest here all outer → DeclaresAllSaid passes (Err f) all names outer
vars_refused f passes rest others all v here names outer is h before =
    let left : Refuses f (said passes (starts_broken (listed (map var_tree rest)) here ++ broken (names_behind (listed (map var_tree rest)) here))) =
    subst (λ vs. Refuses f (said passes (starts_broken (listed (map var_tree vs)) here ++ broken (names_behind (listed (map var_tree vs)) here)))) (sym is)
    (first_refused f passes (var_broken (var_tree v) here) (behind (type_of_var (var_tree v) here) (var_tree v) here) (λ inner. starts_broken (listed (map var_tree others)) inner)
    (λ inner. names_behind (listed (map var_tree others)) inner) h) in
    subst (Refuses f) (same_said passes (starts_broken (listed (map var_tree rest)) here) (starts_broken (listed (map var_tree all)) outer)
    (names_behind (listed (map var_tree rest)) here) (names_behind (listed (map var_tree all)) outer) before.0 before.1) left
