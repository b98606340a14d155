-- Locals, one of which stands behind others.
use Rattle.std.proofs.Common.{◌≡◌, Bool, true, false, List, [], ◌∷◌, ◌++◌, map, refl, sym, ap, ◌∙◌}
use Rattle.std.specs.Prelude.{◌&&◌}
use Rattle.std.proofs.lemmas.List.{append-nil, append_assoc, map-append}
use Rattle.cal_ast.specs.Tree.{listed}
use Rattle.cal_ast.specs.View.{var_tree}
use Rattle.cal_ast.specs.declared.member.VarDecl.{VarDecl}
use Rattle.cal_model.specs.Kinding.{Judged, Fine, Broken, Names, and_so}
use Rattle.cal_model.specs.Value.{Shape}
use Rattle.cal_model.specs.View.{local_view}
use Rattle.cal_model.specs.declared.bound.BoundLocal.{BoundLocal}
use Rattle.const_env.specs.declared.inside.Variable.{Variable}
use Rattle.const_env.specs.declared.names.Names.{Names as DeclaredNames}
use Rattle.cal_check.specs.Routines.{locals_of}
use Rattle.cal_check.specs.Statements.{behind, names_behind, type_of_var}
use Rattle.cal_check.specs.Written.{behind_vars, with_inner}
use Rattle.check_fold.specs.Seeing.{seen_behind}
use Rattle.check_fold.proofs.VarSteps.{seen_next}
use Rattle.check_build_routine.specs.Declaring.{IsLocal, is_fine}
use Rattle.check_build_routine.specs.declared.local.DeclaredLocal.{DeclaredLocal}

-- what was found and the rest are all, what is seen behind the rest is what is seen behind all, and whether all have types
pub record AreLocalsUpTo (found : List BoundLocal) (typed : Bool) (rest : List VarDecl) (here : Names) (all : List VarDecl) (outer : Names) : Type 0 where
  pub locals : map local_view found ++ locals_of (listed (map var_tree rest)) here ≡ locals_of (listed (map var_tree all)) outer
  pub behind : behind_vars (listed (map var_tree rest)) here ≡ behind_vars (listed (map var_tree all)) outer
  pub types : (typed && is_fine (names_behind (listed (map var_tree rest)) here)) ≡ is_fine (names_behind (listed (map var_tree all)) outer)

pub locals_start : (found : List BoundLocal) (all : List VarDecl) (outer : Names) → found ≡ [] → AreLocalsUpTo found true all outer all outer
locals_start found all outer e = record {
  locals = ap (λ xs. map local_view xs ++ locals_of (listed (map var_tree all)) outer) e;
  behind = refl;
  types = refl;
}

pub locals_next : (rest others all : List VarDecl) (found more : List BoundLocal) (v : VarDecl) (x : DeclaredLocal) (xs new : List Variable) (t u : Bool) (names : DeclaredNames) (outer : Names)
    → rest ≡ v ∷ others → more ≡ found ++ x.local ∷ [] → new ≡ xs ++ x.variable ∷ [] → u ≡ (t && x.typed)
    → IsLocal x (var_tree v) (seen_behind xs names)
    → AreLocalsUpTo found t rest (seen_behind xs names) all outer → AreLocalsUpTo more u others (seen_behind new names) all outer
locals_next rest others all found more v x xs new t u names outer is grown newer both one inv =
    let here = seen_behind xs names in
    let next : seen_behind new names ≡ with_inner (var_tree v) here = seen_next xs new x.variable names newer ∙ one.variable in record {
      locals =
          ap (λ ls. map local_view ls ++ locals_of (listed (map var_tree others)) (seen_behind new names)) grown
          ∙ ap (λ ls. ls ++ locals_of (listed (map var_tree others)) (seen_behind new names)) (map-append local_view found (x.local ∷ []))
          ∙ append_assoc (map local_view found) (local_view x.local ∷ []) (locals_of (listed (map var_tree others)) (seen_behind new names))
          ∙ ap (λ l. map local_view found ++ (l ∷ locals_of (listed (map var_tree others)) (seen_behind new names))) one.local
          ∙ ap (λ ns. map local_view found ++ (locals_of (listed (map var_tree (v ∷ []))) here ++ locals_of (listed (map var_tree others)) ns)) next
          ∙ sym (ap (λ vs. map local_view found ++ locals_of (listed (map var_tree vs)) here) is)
          ∙ inv.locals;
      behind = ap (λ ns. behind_vars (listed (map var_tree others)) ns) next ∙ sym (ap (λ vs. behind_vars (listed (map var_tree vs)) here) is) ∙ inv.behind;
      types =
          ap (λ b. b && is_fine (names_behind (listed (map var_tree others)) (seen_behind new names))) (both ∙ ap (λ b. t && b) one.typed)
          ∙ ap (λ ns. (t && is_fine (type_of_var (var_tree v) here)) && is_fine (names_behind (listed (map var_tree others)) ns)) next
          ∙ go (type_of_var (var_tree v) here) t
          ∙ sym (ap (λ vs. t && is_fine (names_behind (listed (map var_tree vs)) here)) is)
          ∙ inv.types;
    }
  where
    go : (o : Judged Shape) (b : Bool) → ((b && is_fine o) && is_fine (names_behind (listed (map var_tree others)) (with_inner (var_tree v) (seen_behind xs names))))
        ≡ (b && is_fine (and_so (behind o (var_tree v) (seen_behind xs names)) (λ inner. names_behind (listed (map var_tree others)) inner)))
    go (Fine s) true = refl
    go (Fine s) false = refl
    go (Broken rule at) true = refl
    go (Broken rule at) false = refl

and_true : (b : Bool) → (b && true) ≡ b
and_true true = refl
and_true false = refl

pub locals_done : (found : List BoundLocal) (typed : Bool) (rest all : List VarDecl) (here outer : Names) → rest ≡ [] → AreLocalsUpTo found typed rest here all outer
    → (map local_view found ≡ locals_of (listed (map var_tree all)) outer) × (here ≡ behind_vars (listed (map var_tree all)) outer)
    × (typed ≡ is_fine (names_behind (listed (map var_tree all)) outer))
locals_done found typed rest all here outer is inv = (
  sym (append-nil (map local_view found)) ∙ sym (ap (λ vs. map local_view found ++ locals_of (listed (map var_tree vs)) here) is) ∙ inv.locals,
  sym (ap (λ vs. behind_vars (listed (map var_tree vs)) here) is) ∙ inv.behind,
  sym (and_true typed) ∙ sym (ap (λ vs. typed && is_fine (names_behind (listed (map var_tree vs)) here)) is) ∙ inv.types,
)
