-- Worked rows: an actor that imports a unit, one whose function calls itself, and why files are asked to be spelled.
use Rattle.std.proofs.Common.{◌≡◌, ℕ, List, [], ◌∷◌, true, refl, arith}
use Rattle.std.specs.Prelude.{codes, if◌then◌else◌}
use Rattle.std.specs.Str.{bytes_eq}
use Rattle.rvc_base.specs.Rules.{recursion}
use Rattle.cal_ast.specs.Tree as tree
use Rattle.cal_ast.specs.Tree.{Tree, listed}
use Rattle.cal_imports.specs.Answer.{Gives, Refuses}
use Rattle.cal_imports.specs.Resolved.{resolved}
use Rattle.cal_imports.specs.Sources.{Source}
use Rattle.cal_imports.specs.Whole.{Scope}
use Rattle.check_actor.specs.Sources.{source_of}
use Rattle.law_sources.specs.Formed.{HasCallsThatEnd, HasFormedParts}

abbrev int : Tree
int = tree.type_of (tree.ident (codes "int") 30) tree.nil 30

-- `function NAME() --> int: BODY end`
abbrev function : (name : List ℕ) → (body : Tree) → Tree
function name body = tree.function (tree.ident name 40) tree.nil int tree.nil body 31

-- `procedure NAME() begin STATEMENT end`
abbrev procedure : (name : List ℕ) → (stmt : Tree) → Tree
procedure name stmt = tree.procedure (tree.ident name 40) tree.nil tree.nil (listed (stmt ∷ [])) 31

-- `NAME()` and `NAME();`
abbrev call : (name : List ℕ) → Tree
call name = tree.call name tree.nil 50

abbrev call_it : (name : List ℕ) → Tree
call_it name = tree.call_stmt (tree.ident name 50) tree.nil 50

-- `if true then` .. `end`, with what stands where the other statements are
abbrev choice : (other : Tree) → Tree
choice other = tree.if_stmt (tree.truth true 60) tree.nil other 57

-- the actor `A`, which imports all of the unit `U`
abbrev body : (members : List Tree) → Tree
body members = tree.actor (tree.ident (codes "A") 20) tree.nil tree.nil tree.nil (listed members) 14

abbrev actor : (members : List Tree) → Source
actor members = record {
  name = codes "A";
  file = 1;
  tree = tree.file tree.absent (listed (tree.import_part (listed (tree.ident (codes "U") 7 ∷ [])) tree.absent 0 ∷ [])) (body members) 0;
}

-- the unit `U` with `function h() --> int: 1 end`
abbrev one : Tree
one = function (codes "h") (tree.number 1 50)

abbrev unit : Source
unit = record { name = codes "U"; file = 2; tree = tree.file tree.absent tree.nil (tree.unit (tree.ident (codes "U") 20) (listed (one ∷ [])) 14) 0 }

abbrev scope : (members : List Tree) → Scope
scope members = record {
  class = codes "A";
  file = 1;
  actor = body members;
  vars = [];
  funs = record { name = codes "U.h"; file = 2; decl = one } ∷ [];
}

-- ---- `f` calls `h` of the unit, and `p` calls `q`

-- `initialize ==> end`
abbrev initialize : Tree
initialize = tree.action tree.absent true tree.nil tree.nil tree.nil tree.nil tree.absent 80

-- `schedule fsm s: s(t) --> s; end`
abbrev schedule : Tree
schedule = tree.schedule (tree.ident (codes "s") 92)
    (listed (tree.move (tree.ident (codes "s") 95) (listed (tree.tag (listed (tree.ident (codes "t") 97 ∷ [])) 97 ∷ [])) (tree.ident (codes "s") 103) 95 ∷ [])) 90

abbrev members : (name : List ℕ) → List Tree
members name =
    function (codes "f") (call name) ∷ procedure (codes "p") (call_it (codes "q")) ∷ procedure (codes "q") (choice tree.absent) ∷ initialize ∷ schedule ∷ []

is_given : resolved (actor (members (codes "h")) ∷ unit ∷ []) (codes "A") ≡ Gives (scope (members (codes "U.h")))
is_given = refl

its_parts : HasFormedParts (source_of (scope (members (codes "U.h"))))
its_parts = record { funs = (tt, (tt, tt)); procs = ((tt, (tt, tt)), ((tt, ((tt, tt), tt)), tt)); actions = ((tt, tt, λ e. refl), tt); schedule = tt }

-- those that call another are 1, and those that call none are 0
abbrev caller : (name : List ℕ) → List ℕ → ℕ
caller name x = if bytes_eq x name then 1 else 0

its_calls : HasCallsThatEnd (source_of (scope (members (codes "U.h"))))
its_calls = record {
  funs = record {
    rank = caller (codes "f");
    in_range = (omega arith, (omega arith, tt));
    calls = ((tt, tt, tt, tt), ((tt, tt, tt, (omega arith, tt)), tt));
  };
  procs = record {
    rank = caller (codes "p");
    in_range = (omega arith, (omega arith, tt));
    calls = (((omega arith, tt), tt), (((tt, tt, tt), tt), tt));
  };
}

-- ---- a function that calls itself has no rank, and the rules of scope refuse it

abbrev itself : List Tree
itself = function (codes "f") (call (codes "f")) ∷ []

is_refused : resolved (actor itself ∷ unit ∷ []) (codes "A") ≡ Refuses recursion 1 50
is_refused = refl

has_no_end : HasCallsThatEnd (source_of (scope itself)) → ⊥
has_no_end h = let below = h.funs.calls.1.0.3.0 in omega arith

-- ---- A number that stands where the other statements of a choice are breaks no rule of scope, but no text spells it.

abbrev unspelled : List Tree
unspelled = procedure (codes "q") (choice (tree.number 1 70)) ∷ []

passes_scope : resolved (actor unspelled ∷ unit ∷ []) (codes "A") ≡ Gives (scope unspelled)
passes_scope = refl

has_no_form : HasFormedParts (source_of (scope unspelled)) → ⊥
has_no_form h = h.procs.0.1.0.1
