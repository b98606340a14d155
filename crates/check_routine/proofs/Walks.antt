-- Formals in order: one formal more.
use Rattle.std.proofs.Common.{◌≡◌, List, [], ◌∷◌, ◌++◌, map, refl, sym, ap, ◌∙◌}
use Rattle.std.proofs.lemmas.List.{map-append, append_assoc}
use Rattle.cal_ast.specs.Tree.{listed}
use Rattle.cal_ast.specs.View.{port_tree}
use Rattle.cal_ast.specs.declared.member.PortDecl.{PortDecl}
use Rattle.cal_model.specs.Actor.{Local}
use Rattle.cal_model.specs.Kinding.{Judged, Fine, Broken, and_so, Names, with_known}
use Rattle.cal_model.specs.Sound.{known_local, with_locals}
use Rattle.cal_model.specs.View.{local_view}
use Rattle.cal_model.specs.declared.bound.BoundLocal.{BoundLocal}
use Rattle.const_env.specs.Counting.{known_variable, names_view, variable_view}
use Rattle.const_env.specs.declared.inside.Variable.{Variable}
use Rattle.const_env.specs.declared.names.Names.{Names as DeclaredNames}
use Rattle.cal_check.specs.Routines.{formal_judged, formals_judged}
use Rattle.check_stmt.specs.Declaring.{seen_behind}
use Rattle.check_stmt.proofs.Walks.{seen_next}

-- the judgement of what is left, behind the formals that were found
abbrev pub formals_left : List Local → List PortDecl → Names → Judged (List Local)
formals_left found rest names = and_so (formals_judged (listed (map port_tree rest)) names) (λ xs. Fine (found ++ xs))

-- what is left is judged as all are, and what was found is seen
abbrev pub AreBehind : List BoundLocal → List Variable → List PortDecl → List PortDecl → DeclaredNames → Type 0
AreBehind locals seen rest all names =
    (formals_left (map local_view locals) rest (seen_behind seen names) ≡ formals_judged (listed (map port_tree all)) (names_view names))
    × (seen_behind seen names ≡ with_locals (map local_view locals) (names_view names))

with-more : (xs : List Local) (x : Local) (names : Names) → with_locals (xs ++ x ∷ []) names ≡ with_known (known_local x) (with_locals xs names)
with-more [] x names = refl
with-more (y ∷ xs) x names = with-more xs x (with_known (known_local y) names)

one-more : (found : List Local) (x : Local) (j : Judged (List Local)) → and_so (and_so j (λ xs. Fine (x ∷ xs))) (λ xs. Fine (found ++ xs)) ≡ and_so j (λ xs. Fine ((found ++ x ∷ []) ++ xs))
one-more found x (Fine xs) = ap Fine (sym (append_assoc found (x ∷ []) xs))
one-more found x (Broken rule at) = refl

pub formals_next : (locals news : List BoundLocal) (seen mores : List Variable) (local : BoundLocal) (x : Variable) (rest others all : List PortDecl) (f : PortDecl) (names : DeclaredNames)
    → rest ≡ f ∷ others → news ≡ locals ++ local ∷ [] → mores ≡ seen ++ x ∷ []
    → formal_judged (port_tree f) (seen_behind seen names) ≡ Fine (local_view local) → known_variable (variable_view x) ≡ known_local (local_view local)
    → AreBehind locals seen rest all names → AreBehind news mores others all names
formals_next locals news seen mores local x rest others all f names is new more judged same before =
    let here = seen_behind seen names in
    let l = local_view local in
    let next : seen_behind mores names ≡ with_known (known_local l) here = seen_next seen mores x names more ∙ ap (λ k. with_known k here) same in
    let found : map local_view news ≡ map local_view locals ++ l ∷ [] = ap (map local_view) new ∙ map-append local_view locals (local ∷ []) in (
      ap (λ n. formals_left (map local_view news) others n) next
          ∙ ap (λ xs. formals_left xs others (with_known (known_local l) here)) found
          ∙ sym (one-more (map local_view locals) l (formals_judged (listed (map port_tree others)) (with_known (known_local l) here)))
          ∙ ap (λ j. and_so (and_so j (λ y. and_so (formals_judged (listed (map port_tree others)) (with_known (known_local y) here)) (λ xs. Fine (y ∷ xs)))) (λ xs. Fine (map local_view locals ++ xs))) (sym judged)
          ∙ ap (λ fs. formals_left (map local_view locals) fs here) (sym is) ∙ before.0,
      next ∙ ap (λ n. with_known (known_local l) n) before.1
          ∙ sym (with-more (map local_view locals) l (names_view names)) ∙ ap (λ xs. with_locals xs (names_view names)) (sym found),
    )
