-- Locals before one whose type breaks a rule.
use Rattle.std.proofs.Common.{◌≡◌, true, false, List, [], ◌∷◌, ◌++◌, map, refl, sym, ap, ◌∙◌}
use Rattle.std.proofs.lemmas.List.{append-nil, append_assoc, map-append}
use Rattle.cal_ast.specs.Tree.{Tree, listed}
use Rattle.cal_ast.specs.View.{var_tree}
use Rattle.cal_ast.specs.declared.member.VarDecl.{VarDecl}
use Rattle.cal_model.specs.Actor.{Local}
use Rattle.cal_model.specs.Kinding.{Judged, Fine, Broken, Names}
use Rattle.cal_model.specs.Value.{Shape}
use Rattle.cal_model.specs.View.{local_view}
use Rattle.cal_model.specs.declared.bound.BoundLocal.{BoundLocal}
use Rattle.const_env.specs.declared.inside.Variable.{Variable}
use Rattle.const_env.specs.declared.names.Names.{Names as DeclaredNames}
use Rattle.cal_check.specs.Routines.{first_met, is_awaited, local_if, local_of, locals_before, met_if, type_in, type_met}
use Rattle.cal_check.specs.Statements.{type_of_var}
use Rattle.cal_check.specs.Written.{with_inner}
use Rattle.check_fold.specs.Seeing.{seen_behind}
use Rattle.check_fold.proofs.VarSteps.{seen_next}
use Rattle.check_build_routine.specs.Declaring.{IsLocal, is_fine}
use Rattle.check_build_routine.specs.declared.local.DeclaredLocal.{DeclaredLocal}

-- what was found and what the rest brings are what all bring
pub record AreBeforeUpTo (found : List BoundLocal) (rest : List VarDecl) (here : Names) (all : List VarDecl) (outer : Names) : Type 0 where
  pub locals : map local_view found ++ locals_before (listed (map var_tree rest)) here ≡ locals_before (listed (map var_tree all)) outer
  pub types : first_met (listed (map var_tree rest)) here ≡ first_met (listed (map var_tree all)) outer

fine-local : (j : Judged Shape) (x : Local) (xs : List Local) → is_fine j ≡ true → local_if j x xs ≡ x ∷ xs
fine-local (Fine t) x xs e = refl
fine-local (Broken rule at) x xs e = absurd (cc)

fine-met : (j : Judged Shape) (v others : Tree) → is_fine j ≡ true → met_if j v others ≡ others
fine-met (Fine t) v others e = refl
fine-met (Broken rule at) v others e = absurd (cc)

broken-local : (j : Judged Shape) (x : Local) (xs : List Local) → is_fine j ≡ false → local_if j x xs ≡ []
broken-local (Fine t) x xs e = absurd (cc)
broken-local (Broken rule at) x xs e = refl

broken-met : (j : Judged Shape) (v others : Tree) → is_fine j ≡ false → met_if j v others ≡ type_met (is_awaited j) (type_in v)
broken-met (Fine t) v others e = absurd (cc)
broken-met (Broken rule at) v others e = refl

pub before_next : (rest others all : List VarDecl) (found more : List BoundLocal) (v : VarDecl) (x : DeclaredLocal) (xs new : List Variable) (names : DeclaredNames) (outer : Names)
    → rest ≡ v ∷ others → more ≡ found ++ x.local ∷ [] → new ≡ xs ++ x.variable ∷ [] → x.typed ≡ true
    → IsLocal x (var_tree v) (seen_behind xs names)
    → AreBeforeUpTo found rest (seen_behind xs names) all outer → AreBeforeUpTo more others (seen_behind new names) all outer
before_next rest others all found more v x xs new names outer is grown newer typed one inv =
    let here = seen_behind xs names in
    let fine : is_fine (type_of_var (var_tree v) here) ≡ true = sym one.typed ∙ typed in
    let next : seen_behind new names ≡ with_inner (var_tree v) here = seen_next xs new x.variable names newer ∙ one.variable in
    let later = locals_before (listed (map var_tree others)) (with_inner (var_tree v) here) in record {
      locals =
          ap (λ ls. map local_view ls ++ locals_before (listed (map var_tree others)) (seen_behind new names)) grown
          ∙ ap (λ ls. ls ++ locals_before (listed (map var_tree others)) (seen_behind new names)) (map-append local_view found (x.local ∷ []))
          ∙ append_assoc (map local_view found) (local_view x.local ∷ []) (locals_before (listed (map var_tree others)) (seen_behind new names))
          ∙ ap (λ l. map local_view found ++ (l ∷ locals_before (listed (map var_tree others)) (seen_behind new names))) one.local
          ∙ ap (λ ns. map local_view found ++ (local_of (var_tree v) here ∷ locals_before (listed (map var_tree others)) ns)) next
          ∙ sym (ap (λ ls. map local_view found ++ ls) (fine-local (type_of_var (var_tree v) here) (local_of (var_tree v) here) later fine))
          ∙ sym (ap (λ vs. map local_view found ++ locals_before (listed (map var_tree vs)) here) is)
          ∙ inv.locals;
      types =
          ap (λ ns. first_met (listed (map var_tree others)) ns) next
          ∙ sym (fine-met (type_of_var (var_tree v) here) (var_tree v) (first_met (listed (map var_tree others)) (with_inner (var_tree v) here)) fine)
          ∙ sym (ap (λ vs. first_met (listed (map var_tree vs)) here) is)
          ∙ inv.types;
    }

-- the rest begins with one whose type breaks a rule
pub before_stop : (rest others all : List VarDecl) (found : List BoundLocal) (v : VarDecl) (x : DeclaredLocal) (here outer : Names)
    → rest ≡ v ∷ others → x.typed ≡ false → IsLocal x (var_tree v) here → AreBeforeUpTo found rest here all outer
    → (map local_view found ≡ locals_before (listed (map var_tree all)) outer)
    × (type_met (is_awaited (type_of_var (var_tree v) here)) (type_in (var_tree v)) ≡ first_met (listed (map var_tree all)) outer)
before_stop rest others all found v x here outer is untyped one inv =
    let broken : is_fine (type_of_var (var_tree v) here) ≡ false = sym one.typed ∙ untyped in (
      sym (append-nil (map local_view found))
          ∙ sym (ap (λ ls. map local_view found ++ ls) (broken-local (type_of_var (var_tree v) here) (local_of (var_tree v) here) (locals_before (listed (map var_tree others)) (with_inner (var_tree v) here)) broken))
          ∙ sym (ap (λ vs. map local_view found ++ locals_before (listed (map var_tree vs)) here) is)
          ∙ inv.locals,
      sym (broken-met (type_of_var (var_tree v) here) (var_tree v) (first_met (listed (map var_tree others)) (with_inner (var_tree v) here)) broken)
          ∙ sym (ap (λ vs. first_met (listed (map var_tree vs)) here) is)
          ∙ inv.types,
    )
