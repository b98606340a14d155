-- Worked rows: names inside that a called function or procedure has too, and why files are asked to be spelled.
use Rattle.std.proofs.Common.{◌≡◌, ℕ, List, [], ◌∷◌, false, refl}
use Rattle.std.specs.Prelude.{codes}
use Rattle.rvc_base.specs.Rules.{not_as_asked}
use Rattle.cal_ast.specs.Tree as tree
use Rattle.cal_ast.specs.Tree.{Tree, listed}
use Rattle.cal_imports.specs.Answer.{Gives, Refuses}
use Rattle.cal_imports.specs.Resolved.{resolved}
use Rattle.cal_imports.specs.Sources.{Source}
use Rattle.cal_imports.specs.Whole.{Scope}
use Rattle.law_sources.specs.Scoped.{ActionsAreScopedIn, FunsAreScopedIn}
use Rattle.law_sources.proofs.ScopeScopes.{HaveWords, actions_of_words, funs_of_words}

abbrev int : Tree
int = tree.type_of (tree.ident (codes "int") 30) tree.nil 30

abbrev formal : (name : List ℕ) → Tree
formal name = tree.port int (tree.ident name 34) 30

-- `function f(int y) --> int : y end` of the unit `U`
abbrev of_unit : Tree
of_unit = tree.function (tree.ident (codes "f") 20) (listed (formal (codes "y") ∷ [])) int tree.nil (tree.variable (codes "y") 40) 18

abbrev unit : Source
unit = record { name = codes "U"; file = 2; tree = tree.file tree.absent tree.nil (tree.unit (tree.ident (codes "U") 20) (listed (of_unit ∷ [])) 14) 0 }

-- `function g(int FORMAL) --> int var int LOCAL = CALLED(FORMAL) : LOCAL end`
abbrev function : (formal_name local called : List ℕ) → Tree
function name local called =
    tree.function (tree.ident (codes "g") 50) (listed (formal name ∷ [])) int
    (listed (tree.var int (tree.ident local 60) (tree.present (tree.call called (listed (tree.variable name 66 ∷ [])) 64)) false 58 ∷ []))
    (tree.variable local 70) 48

-- `procedure p(int y) begin end`
abbrev procedure : Tree
procedure = tree.procedure (tree.ident (codes "p") 50) (listed (formal (codes "y") ∷ [])) tree.nil tree.nil 48

-- `action [NAME] ==> do p(NAME); end`
abbrev action : (name : List ℕ) → Tree
action name =
    tree.action tree.absent false (listed (tree.pattern tree.absent (listed (tree.ident name 80 ∷ [])) tree.absent 79 ∷ [])) tree.nil tree.nil tree.nil
    (tree.present (listed (tree.call_stmt (tree.ident (codes "p") 90) (listed (tree.variable name 92 ∷ [])) 90 ∷ []))) 78

abbrev body : List Tree → Tree
body ms = tree.actor (tree.ident (codes "A") 20) tree.nil tree.nil tree.nil (listed ms) 14

-- the actor `A` with `import U.*;` and these members, and the unit `U`
abbrev sources : List Tree → List Source
sources ms = record {
  name = codes "A";
  file = 1;
  tree = tree.file tree.absent (listed (tree.import_part (listed (tree.ident (codes "U") 7 ∷ [])) tree.absent 0 ∷ [])) (body ms) 0;
} ∷ unit ∷ []

abbrev scope : List Tree → Scope
scope ms = record { class = codes "A"; file = 1; actor = body ms; vars = []; funs = record { name = codes "U.f"; file = 2; decl = of_unit } ∷ [] }

-- ---- a function of another file

abbrev one : (formal_name local called : List ℕ) → List Tree
one name local called = function name local called ∷ []

-- In `int f = f(x)` the start doesn't see the local, and calls the function of the unit, whose text is another one.
its_start : resolved (sources (one (codes "x") (codes "f") (codes "f"))) (codes "A") ≡ Gives (scope (one (codes "x") (codes "f") (codes "U.f")))
its_start = refl

function_words : HaveWords (sources (one (codes "x") (codes "f") (codes "f")))
function_words = (((((refl, tt), tt), tt, ((refl, tt, tt, (tt, tt)), tt), tt), tt), (((((refl, tt), tt), tt, tt, tt), tt), tt))

not_hidden : FunsAreScopedIn (scope (one (codes "x") (codes "f") (codes "U.f")))
not_hidden =
    funs_of_words (sources (one (codes "x") (codes "f") (codes "f"))) (codes "A") (scope (one (codes "x") (codes "f") (codes "U.f"))) function_words its_start

-- The formal `f` hides the function, so the call `f(f)` breaks a rule.
hidden : resolved (sources (one (codes "f") (codes "k") (codes "f"))) (codes "A") ≡ Refuses not_as_asked 1 64
hidden = refl

-- If a name could have a dot, the formal `U.f` would not hide the name `f`, but it would hide the text that stands for it.
is_given : resolved (sources (one (codes "U.f") (codes "k") (codes "f"))) (codes "A") ≡ Gives (scope (one (codes "U.f") (codes "k") (codes "U.f")))
is_given = refl

is_hidden : FunsAreScopedIn (scope (one (codes "U.f") (codes "k") (codes "U.f"))) → ⊥
is_hidden h = let e = h.1.0.1.1.0 in absurd cc

-- ---- a procedure that an action calls

abbrev two : (name : List ℕ) → List Tree
two name = procedure ∷ action name ∷ []

calls_it : resolved (sources (two (codes "x"))) (codes "A") ≡ Gives (scope (two (codes "x")))
calls_it = refl

action_words : HaveWords (sources (two (codes "x")))
action_words =
    (((((refl, tt), tt), tt, tt), ((((refl, tt), tt), tt, tt, tt, tt, ((tt, tt), tt)), tt)), (((((refl, tt), tt), tt, tt, tt), tt), tt))

is_called : ActionsAreScopedIn (scope (two (codes "x")))
is_called = actions_of_words (sources (two (codes "x"))) (codes "A") (scope (two (codes "x"))) action_words calls_it

-- The pattern variable `p` hides the procedure.
is_variable : resolved (sources (two (codes "p"))) (codes "A") ≡ Refuses not_as_asked 1 90
is_variable = refl
