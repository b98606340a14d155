-- Formals, one of which stands behind others.
use Rattle.std.proofs.Common.{◌≡◌, List, [], ◌∷◌, ◌++◌, map, refl, sym, ap, subst, ◌∙◌}
use Rattle.std.proofs.lemmas.List.{append-nil, append_assoc, map-append}
use Rattle.cal_ast.specs.Tree.{listed}
use Rattle.cal_ast.specs.View.{port_tree}
use Rattle.cal_ast.specs.declared.member.PortDecl.{PortDecl}
use Rattle.cal_model.specs.Actor.{Local}
use Rattle.cal_model.specs.Kinding.{Fine, Names, and_so, with_known}
use Rattle.cal_model.specs.Sound.{known_local, with_locals}
use Rattle.cal_model.specs.View.{local_view}
use Rattle.cal_model.specs.declared.bound.BoundLocal.{BoundLocal}
use Rattle.const_env.specs.Counting.{known_variable, variable_view}
use Rattle.const_env.specs.Judging.{Breaks}
use Rattle.const_env.specs.declared.fault.KindFault.{KindFault}
use Rattle.const_env.specs.declared.inside.Variable.{Variable}
use Rattle.const_env.specs.declared.names.Names.{Names as DeclaredNames}
use Rattle.cal_check.specs.Routines.{formal_judged, formals_judged}
use Rattle.check_fold.specs.Seeing.{seen_behind}
use Rattle.check_fold.proofs.VarSteps.{seen_next}
use Rattle.check_build_routine.proofs.Judged.{breaks_on, so_ext, so_fine, so_same, so_so}

-- what was found and what the rest is judged to be are what all are judged to be, and the rest sees what was found
abbrev pub AreFormalsUpTo : List BoundLocal → List PortDecl → Names → List PortDecl → Names → Type 0
AreFormalsUpTo found rest here all outer =
    (and_so (formals_judged (listed (map port_tree rest)) here) (λ fs. Fine (map local_view found ++ fs)) ≡ formals_judged (listed (map port_tree all)) outer)
    × (here ≡ with_locals (map local_view found) outer)

pub formals_start : (found : List BoundLocal) (all : List PortDecl) (outer : Names) → found ≡ [] → AreFormalsUpTo found all outer all outer
formals_start found all outer e = (
  ap (λ xs. and_so (formals_judged (listed (map port_tree all)) outer) (λ fs. Fine (map local_view xs ++ fs))) e ∙ so_same (formals_judged (listed (map port_tree all)) outer),
  sym (ap (λ xs. with_locals (map local_view xs) outer) e),
)

locals_more : (xs : List Local) (x : Local) (names : Names) → with_locals (xs ++ x ∷ []) names ≡ with_known (known_local x) (with_locals xs names)
locals_more [] x names = refl
locals_more (y ∷ xs) x names = locals_more xs x (with_known (known_local y) names)

pub formals_next : (rest others all : List PortDecl) (found more : List BoundLocal) (f : PortDecl) (x : BoundLocal) (v : Variable) (xs new : List Variable) (names : DeclaredNames) (outer : Names)
    → rest ≡ f ∷ others → more ≡ found ++ x ∷ [] → new ≡ xs ++ v ∷ []
    → formal_judged (port_tree f) (seen_behind xs names) ≡ Fine (local_view x)
    → known_variable (variable_view v) ≡ known_local (local_view x)
    → AreFormalsUpTo found rest (seen_behind xs names) all outer → AreFormalsUpTo more others (seen_behind new names) all outer
formals_next rest others all found more f x v xs new names outer is grown newer fine same inv =
    let here = seen_behind xs names in
    let next : seen_behind new names ≡ with_known (known_local (local_view x)) here = seen_next xs new v names newer ∙ ap (λ k. with_known k here) same in
    let longer : map local_view more ≡ map local_view found ++ (local_view x ∷ []) = ap (map local_view) grown ∙ map-append local_view found (x ∷ []) in
    let behind = formals_judged (listed (map port_tree others)) (with_known (known_local (local_view x)) here) in (
      ap (λ ns. and_so (formals_judged (listed (map port_tree others)) ns) (λ fs. Fine (map local_view more ++ fs))) next
          ∙ so_ext behind (λ fs. Fine (map local_view more ++ fs)) (λ fs. Fine (map local_view found ++ (local_view x ∷ fs)))
          (λ fs. ap (λ ls. Fine (ls ++ fs)) longer ∙ ap Fine (append_assoc (map local_view found) (local_view x ∷ []) fs))
          ∙ sym (so_so behind (λ fs. Fine (local_view x ∷ fs)) (λ fs. Fine (map local_view found ++ fs)))
          ∙ sym (ap (λ o. and_so o (λ fs. Fine (map local_view found ++ fs)))
          (so_fine (formal_judged (port_tree f) here) (local_view x) (λ y. and_so (formals_judged (listed (map port_tree others)) (with_known (known_local y) here)) (λ fs. Fine (y ∷ fs))) fine))
          ∙ sym (ap (λ ps. and_so (formals_judged (listed (map port_tree ps)) here) (λ fs. Fine (map local_view found ++ fs))) is)
          ∙ inv.0,
      next ∙ ap (λ ns. with_known (known_local (local_view x)) ns) inv.1 ∙ sym (locals_more (map local_view found) (local_view x) outer) ∙ sym (ap (λ ls. with_locals ls outer) longer),
    )

pub formals_break : (rest others all : List PortDecl) (found : List BoundLocal) (f : PortDecl) (fault : KindFault) (here outer : Names)
    → rest ≡ f ∷ others → Breaks fault (formal_judged (port_tree f) here)
    → AreFormalsUpTo found rest here all outer → Breaks fault (formals_judged (listed (map port_tree all)) outer)
formals_break rest others all found f fault here outer is b inv =
    subst (Breaks fault) inv.0
    (breaks_on fault (formals_judged (listed (map port_tree rest)) here) (λ fs. Fine (map local_view found ++ fs))
    (subst (λ ps. Breaks fault (formals_judged (listed (map port_tree ps)) here)) (sym is)
    (breaks_on fault (formal_judged (port_tree f) here) (λ y. and_so (formals_judged (listed (map port_tree others)) (with_known (known_local y) here)) (λ fs. Fine (y ∷ fs))) b)))

pub formals_done : (rest all : List PortDecl) (found : List BoundLocal) (here outer : Names) → rest ≡ []
    → AreFormalsUpTo found rest here all outer → formals_judged (listed (map port_tree all)) outer ≡ Fine (map local_view found)
formals_done rest all found here outer is inv =
    sym inv.0 ∙ ap (λ ps. and_so (formals_judged (listed (map port_tree ps)) here) (λ fs. Fine (map local_view found ++ fs))) is ∙ ap Fine (append-nil (map local_view found))
