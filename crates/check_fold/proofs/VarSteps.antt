-- Variables, one of which stands behind others.
use Rattle.std.proofs.Common.{◌≡◌, List, [], ◌∷◌, ◌++◌, map, refl, sym, ap, ◌∙◌}
use Rattle.cal_ast.specs.Tree.{listed, cons}
use Rattle.cal_ast.specs.View.{var_tree}
use Rattle.cal_ast.specs.declared.member.VarDecl.{VarDecl}
use Rattle.cal_model.specs.Kinding.{Names, with_known}
use Rattle.const_env.specs.Counting.{inner_variables, known_variable, names_inside, variable_view}
use Rattle.const_env.specs.Held.{last_first}
use Rattle.const_env.specs.declared.inside.Variable.{Variable}
use Rattle.const_env.specs.declared.names.Names.{Names as DeclaredNames}
use Rattle.cal_check.specs.Written.{behind_vars, var_written, vars_written, with_inner}
use Rattle.check_fold.specs.Seeing.{seen_behind}
use Rattle.check_fold.proofs.Onto.{onto, onto_all, onto_next}

-- what was written out, in front of the rest, is all, and what is seen behind the rest is what is seen behind all
abbrev pub AreWrittenUpTo : List VarDecl → List VarDecl → Names → List VarDecl → Names → Type 0
AreWrittenUpTo found rest here all outer =
    (onto (map var_tree found) (vars_written (listed (map var_tree rest)) here) ≡ vars_written (listed (map var_tree all)) outer)
    × (behind_vars (listed (map var_tree rest)) here ≡ behind_vars (listed (map var_tree all)) outer)

last_more : {X Y : Type 0} (view : X → Y) (xs : List X) (x : X) (later : List Y) → last_first view (xs ++ x ∷ []) later ≡ view x ∷ last_first view xs later
last_more view [] x later = refl
last_more view (y ∷ xs) x later = last_more view xs x (view y ∷ later)

pub seen_next : (xs new : List Variable) (x : Variable) (names : DeclaredNames) → new ≡ xs ++ x ∷ [] → seen_behind new names ≡ with_known (known_variable (variable_view x)) (seen_behind xs names)
seen_next xs new x names e = ap (λ ys. seen_behind ys names) e ∙ ap (λ vs. names_inside vs names.env.now) (last_more variable_view xs x (inner_variables names.inner))

pub vars_next : (rest others all found more : List VarDecl) (v w : VarDecl) (x : Variable) (xs new : List Variable) (names : DeclaredNames) (outer : Names)
    → rest ≡ v ∷ others → more ≡ found ++ w ∷ [] → new ≡ xs ++ x ∷ []
    → var_tree w ≡ var_written (var_tree v) (seen_behind xs names)
    → with_known (known_variable (variable_view x)) (seen_behind xs names) ≡ with_inner (var_tree v) (seen_behind xs names)
    → AreWrittenUpTo found rest (seen_behind xs names) all outer → AreWrittenUpTo more others (seen_behind new names) all outer
vars_next rest others all found more v w x xs new names outer is grown newer same inner inv =
    let here = seen_behind xs names in
    let next : seen_behind new names ≡ with_inner (var_tree v) here = seen_next xs new x names newer ∙ inner in (
      onto_next var_tree found more w (vars_written (listed (map var_tree others)) (seen_behind new names)) (vars_written (listed (map var_tree all)) outer) grown
          (ap (λ t. onto (map var_tree found) (cons t (vars_written (listed (map var_tree others)) (seen_behind new names)))) same
          ∙ ap (λ ns. onto (map var_tree found) (cons (var_written (var_tree v) here) (vars_written (listed (map var_tree others)) ns))) next
          ∙ sym (ap (λ vs. onto (map var_tree found) (vars_written (listed (map var_tree vs)) here)) is)
          ∙ inv.0),
      ap (λ ns. behind_vars (listed (map var_tree others)) ns) next ∙ sym (ap (λ vs. behind_vars (listed (map var_tree vs)) here) is) ∙ inv.1,
    )

pub vars_done : (rest all found : List VarDecl) (here outer : Names) → rest ≡ [] → AreWrittenUpTo found rest here all outer
    → (listed (map var_tree found) ≡ vars_written (listed (map var_tree all)) outer) × (here ≡ behind_vars (listed (map var_tree all)) outer)
vars_done rest all found here outer is inv = (
  sym (ap (λ vs. onto (map var_tree found) (vars_written (listed (map var_tree vs)) here)) is ∙ onto_all (map var_tree found)) ∙ inv.0,
  sym (ap (λ vs. behind_vars (listed (map var_tree vs)) here) is) ∙ inv.1,
)
