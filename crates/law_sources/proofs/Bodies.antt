-- The body of a file whose names are written out in full.
use Rattle.std.proofs.Common.{◌≡◌, ℕ, ◌≤◌, true, false, List, [], ◌∷◌, ◌++◌, refl, ap, arith}
use Rattle.cal_ast.specs.Tree as tree
use Rattle.cal_ast.specs.Tree.{Tree, listed}
use Rattle.cal_model.specs.Kinding.{Judged, Fine, Broken}
use Rattle.cal_model.specs.Sound.{Each}
use Rattle.cal_scope.specs.Asked.{outermost}
use Rattle.cal_scope.specs.Globals.{with_all_declared}
use Rattle.cal_scope.specs.Members.{members_resolved, ports_of}
use Rattle.cal_scope.specs.Names.{Global}
use Rattle.cal_scope.specs.declared.role.Role.{Role}
use Rattle.cal_scope.specs.declared.role.Role.TheVariants.{Variable, Function, Procedure}
use Rattle.cal_imports.specs.Answer.{in_file}
use Rattle.cal_imports.specs.Behind.{LeadAmong}
use Rattle.cal_imports.specs.Brought.{names_declared, names_seen}
use Rattle.cal_imports.specs.OneFile.{body_resolved, header_resolved, params_resolved, source_resolved}
use Rattle.cal_imports.specs.Sources.{Source, body_of, dot, imports_of, is_unit}
use Rattle.cal_imports.specs.Whole.{import_edges, members_of}
use Rattle.law_sources.proofs.Counts.{itself}
use Rattle.law_sources.proofs.FormJudgements.{OnFine, OnGives, Any, any_fine, in_file_on, so_one, so_four, so_then, then_on}
use Rattle.law_sources.proofs.Meant.{AreMeant, InRole, IsMeant}
use Rattle.law_sources.proofs.FormMembers.{AreMembers, Never, functions, members_formed, procedures}
use Rattle.law_sources.proofs.FormSeen.{AllDeclare, Declares, FileDeclares, FilesDeclare, all_declared_on, names_seen_on}
use Rattle.law_sources.proofs.Shaped.{AreOfUnit, AreParams, AreShapedMembers, IsOfUnit, IsShapedBody, IsShapedFile}

-- ---- members of a body

members_listed : (F P : List ℕ → Type 0) (nm params ins outs inside : Tree) (at : ℕ) (seen : List Global) → AreShapedMembers inside → AreMeant F P seen
    → OnFine (λ r. AreMembers F P inside (members_of r)) (body_resolved (tree.actor nm params ins outs inside at) seen)
members_listed F P nm params ins outs inside at seen s h =
    so_four (λ r. AreMembers F P inside (members_of r)) (λ x. Any x) (λ x. Any x) (λ x. Any x) (λ rs. AreMembers F P inside (listed rs))
    (params_resolved params (outermost seen)) (header_resolved ins (outermost seen)) (header_resolved outs (outermost seen))
    (members_resolved inside (ports_of ins outs) (outermost seen)) (λ ps is os ms. tree.actor nm (listed ps) (listed is) (listed os) (listed ms) at)
    (any_fine (params_resolved params (outermost seen))) (any_fine (header_resolved ins (outermost seen))) (any_fine (header_resolved outs (outermost seen)))
    (members_formed F P inside (ports_of ins outs) (outermost seen) s h) (λ ps is os ms i j k l. l)

body_formed : (F P : List ℕ → Type 0) (body : Tree) (seen : List Global) → IsShapedBody body → AreMeant F P seen
    → OnFine (λ r. AreMembers F P (members_of body) (members_of r)) (body_resolved body seen)
body_formed F P (tree.actor nm params ins outs inside at) seen s h = members_listed F P nm params ins outs inside at seen s.1 h
body_formed F P (tree.unit nm inside at) seen s h =
    so_one (λ r. AreMembers F P inside (members_of r)) (λ rs. AreMembers F P inside (listed rs)) (members_resolved inside (ports_of tree.nil tree.nil) (outermost seen))
    (λ ms. tree.unit nm (listed ms) at) (members_formed F P inside (ports_of tree.nil tree.nil) (outermost seen) s.0 h) (λ ms i. i)
body_formed F P _ seen s h = tt

-- a file among others, whose imports lead to files of these classes
source_formed : (F P : List ℕ → Type 0) (files : List Source) (classes : List (List ℕ)) (s : Source) → IsShapedFile s.tree → LeadAmong (import_edges (imports_of s.tree)) classes
    → FilesDeclare (IsMeant F P) files classes → FileDeclares (IsMeant F P) s
    → OnGives (λ r. AreMembers F P (members_of (body_of s.tree)) (members_of r)) (source_resolved files s)
source_formed F P files classes s shaped led others own =
    then_on (λ r. AreMembers F P (members_of (body_of s.tree)) (members_of r)) (AreMeant F P) (names_seen files s)
    (λ seen. in_file s.file (body_resolved (body_of s.tree) seen)) (names_seen_on (IsMeant F P) files classes s shaped.imports led others own)
    (λ seen h. in_file_on (λ r. AreMembers F P (members_of (body_of s.tree)) (members_of r)) s.file (body_resolved (body_of s.tree) seen)
    (body_formed F P (body_of s.tree) seen shaped.body h))

-- ---- units

-- a text with a class and a dot in front
pub record HasDot (x : List ℕ) : Type 0 where
  pub class : List ℕ
  pub name : List ℕ
  pub is : x ≡ class ++ dot ∷ name

with_dot : (class name : List ℕ) → (class ++ dot ∷ []) ++ name ≡ class ++ dot ∷ name
with_dot [] name = refl
with_dot (c ∷ class) name = ap (λ xs. c ∷ xs) (with_dot class name)

member_of_unit : (class : List ℕ) (m : Tree) → IsOfUnit m → Declares (IsMeant HasDot Never) (class ++ dot ∷ []) m
member_of_unit class (tree.var shape (tree.ident name place) start changes at) h = tt
member_of_unit class (tree.var shape _ start changes at) h = tt
member_of_unit class (tree.function (tree.ident name place) formals result vars body at) h = record { class = class; name = name; is = with_dot class name }
member_of_unit class (tree.function _ formals result vars body at) h = tt
member_of_unit class _ h = absurd h

members_of_unit : (class : List ℕ) (ms : Tree) → AreOfUnit ms → AllDeclare (IsMeant HasDot Never) (class ++ dot ∷ []) ms
members_of_unit class (tree.cons m ms) h = (member_of_unit class m h.0, members_of_unit class ms h.1)
members_of_unit class _ h = tt

unit_declares_in : (class : List ℕ) (body : Tree) → IsShapedBody body → is_unit body ≡ true → OnFine (Each (IsMeant HasDot Never)) (names_declared class body)
unit_declares_in class (tree.unit nm inside at) s h = all_declared_on (IsMeant HasDot Never) (class ++ dot ∷ []) inside [] (members_of_unit class inside s.1) tt
unit_declares_in class _ s h = absurd cc

-- what a unit declares has a dot in its text, and is no procedure
pub unit_declares : (u : Source) → IsShapedFile u.tree → is_unit (body_of u.tree) ≡ true → FileDeclares (IsMeant HasDot Never) u
unit_declares u s h = unit_declares_in u.name (body_of u.tree) s.body h

pub unit_formed : (files : List Source) (classes : List (List ℕ)) (s : Source) → IsShapedFile s.tree → LeadAmong (import_edges (imports_of s.tree)) classes
    → FilesDeclare (IsMeant HasDot Never) files classes → is_unit (body_of s.tree) ≡ true
    → OnGives (λ r. AreMembers HasDot Never (members_of (body_of s.tree)) (members_of r)) (source_resolved files s)
unit_formed files classes s shaped led others h = source_formed HasDot Never files classes s shaped led others (unit_declares s shaped h)

-- ---- actors

-- a text that is called as a function: of another file, or a function among these members
pub data IsCalled (ms : Tree) (x : List ℕ) : Type 0 where
  elsewhere : HasDot x → IsCalled ms x
  here : 1 ≤ functions x ms → IsCalled ms x

abbrev pub IsProcedure : (ms : Tree) → (x : List ℕ) → Type 0
IsProcedure ms x = 1 ≤ procedures x ms

in_any_role : (ms : Tree) (r : Role) (full : List ℕ) → InRole HasDot Never r full → InRole (IsCalled ms) (IsProcedure ms) r full
in_any_role ms Variable full h = tt
in_any_role ms Function full h = elsewhere h
in_any_role ms Procedure full h = absurd h

from_units : (ms : Tree) (gs : List Global) → AreMeant HasDot Never gs → AreMeant (IsCalled ms) (IsProcedure ms) gs
from_units ms [] h = tt
from_units ms (g ∷ gs) h = (in_any_role ms g.role g.full h.0, from_units ms gs h.1)

fine_from_units : (ms : Tree) (j : Judged (List Global)) → OnFine (AreMeant HasDot Never) j → OnFine (AreMeant (IsCalled ms) (IsProcedure ms)) j
fine_from_units ms (Fine gs) h = from_units ms gs h
fine_from_units ms (Broken rule at) h = tt

-- what is counted of some of the members is counted of all
record ArePart (ms whole : Tree) : Type 0 where
  fewer_functions : (x : List ℕ) → functions x ms ≤ functions x whole
  fewer_procedures : (x : List ℕ) → procedures x ms ≤ procedures x whole

others_part : (m ms whole : Tree) → ArePart (tree.cons m ms) whole → ArePart ms whole
others_part m ms whole h = record {
  fewer_functions = λ x. let a = h.fewer_functions x in omega arith;
  fewer_procedures = λ x. let a = h.fewer_procedures x in omega arith;
}

own_declares : (whole m ms : Tree) → ArePart (tree.cons m ms) whole → Declares (IsMeant (IsCalled whole) (IsProcedure whole)) [] m
own_declares whole (tree.param shape (tree.ident name place) start at) ms h = tt
own_declares whole (tree.param shape _ start at) ms h = tt
own_declares whole (tree.var shape (tree.ident name place) start changes at) ms h = tt
own_declares whole (tree.var shape _ start changes at) ms h = tt
own_declares whole (tree.function (tree.ident name place) formals result vars body at) ms h = here (let a = h.fewer_functions name in let b = itself name in omega arith)
own_declares whole (tree.function _ formals result vars body at) ms h = tt
own_declares whole (tree.procedure (tree.ident name place) formals vars body at) ms h = let a = h.fewer_procedures name in let b = itself name in omega arith
own_declares whole (tree.procedure _ formals vars body at) ms h = tt
own_declares whole _ ms h = tt

all_own_declare : (whole ms : Tree) → ArePart ms whole → AllDeclare (IsMeant (IsCalled whole) (IsProcedure whole)) [] ms
all_own_declare whole (tree.cons m ms) h = (own_declares whole m ms h, all_own_declare whole ms (others_part m ms whole h))
all_own_declare whole _ h = tt

params_declare : (whole ps : Tree) → AreParams ps → AllDeclare (IsMeant (IsCalled whole) (IsProcedure whole)) [] ps
params_declare whole (tree.cons (tree.param shape (tree.ident name place) start at) ps) s = (tt, params_declare whole ps s.1)
params_declare whole (tree.cons (tree.param shape _ start at) ps) s = (tt, params_declare whole ps s.1)
params_declare whole (tree.cons _ ps) s = absurd s.0
params_declare whole _ s = tt

actor_declares_in : (class : List ℕ) (body : Tree) → IsShapedBody body → is_unit body ≡ false
    → OnFine (AreMeant (IsCalled (members_of body)) (IsProcedure (members_of body))) (names_declared class body)
actor_declares_in class (tree.actor nm params ins outs inside at) s h =
    let Q : Global → Type 0 = IsMeant (IsCalled inside) (IsProcedure inside) in
    so_then (Each Q) (Each Q) (with_all_declared [] params []) (λ here. with_all_declared [] inside here)
    (all_declared_on Q [] params [] (params_declare inside params s.0) tt)
    (λ gs i. all_declared_on Q [] inside gs (all_own_declare inside inside (record { fewer_functions = λ x. omega arith; fewer_procedures = λ x. omega arith })) i)
actor_declares_in class (tree.unit nm inside at) s h = absurd cc
actor_declares_in class _ s h = tt

pub actor_formed : (files : List Source) (classes : List (List ℕ)) (s : Source) → IsShapedFile s.tree → LeadAmong (import_edges (imports_of s.tree)) classes
    → FilesDeclare (IsMeant HasDot Never) files classes → is_unit (body_of s.tree) ≡ false
    → OnGives (λ r. AreMembers (IsCalled (members_of (body_of s.tree))) (IsProcedure (members_of (body_of s.tree))) (members_of (body_of s.tree)) (members_of r)) (source_resolved files s)
actor_formed files classes s shaped led others h =
    source_formed (IsCalled (members_of (body_of s.tree))) (IsProcedure (members_of (body_of s.tree))) files classes s shaped led
    (λ x u among e. fine_from_units (members_of (body_of s.tree)) (names_declared u.name (body_of u.tree)) (others x u among e))
    (actor_declares_in s.name (body_of s.tree) shaped.body h)
