-- Variables of one scope have names that differ, and no name that is declared inside hides a function or a procedure that
-- is called in a variable's start or in a statement.
use Rattle.std.proofs.Common.{◌≡◌, ℕ, ◌+◌, Bool, true, false, List, [], ◌∷◌, ◌++◌, refl, sym, subst, arith}
use Rattle.std.specs.Prelude.{if◌then◌else◌}
use Rattle.std.specs.Str.{bytes_eq}
use Rattle.rvc_base.specs.Rules.{declared_twice}
use Rattle.cal_ast.specs.Tree as tree
use Rattle.cal_ast.specs.Tree.{Tree, listed}
use Rattle.cal_model.specs.Kinding as kinding
use Rattle.cal_model.specs.Kinding.{Fine, Broken, and_so, counter, with_known}
use Rattle.cal_model.specs.Sound.{Each, HidesNoCall, VarsHideNoCall, names_of_vars, with_vars_known}
use Rattle.cal_check.specs.Formed.{IsOptional}
use Rattle.cal_scope.specs.declared.role.Role.TheVariants.{Variable, Procedure}
use Rattle.cal_scope.specs.Expressions.{declared_by, declared_name, expr_resolved, exprs_resolved, optional_resolved, type_resolved}
use Rattle.cal_scope.specs.Names.{Names, is_among, used_as, with_name, within}
use Rattle.cal_scope.specs.Statements.{else_resolved, stmt_resolved, stmts_resolved, var_resolved, vars_resolved}
use Rattle.law_sources.proofs.Counts.{count, count-append, one}
use Rattle.law_sources.proofs.WordTokens.{IsWord}
use Rattle.law_sources.proofs.Called.{AreTold, called_free}
use Rattle.law_sources.proofs.ScopeExpressions.{AllHide, Hides, expr_hides, exprs_hide, inside_one, optional_hides, type_hides}
use Rattle.law_sources.proofs.Hiding.{Covers, IsFree, covers_one, covers_vars, known_var, new_name}
use Rattle.law_sources.proofs.Inside.{HasWords}
use Rattle.law_sources.proofs.ScopeJudgements.{OnFine, Any, any_fine, so_one, so_two, so_three, so_four}

-- ---- variables

-- a variable that was written out, of a scope that has declared the names `here`
abbrev pub IsVar : Tree → (here outside : List (List ℕ)) → Tree → Type 0
IsVar v here outside (tree.var shape (tree.ident name place) start changes at) =
    (declared_name v ≡ name) × (is_among name here ≡ false) × IsWord name × Hides (here ++ outside) shape × Hides (here ++ outside) start
IsVar v here outside other = ⊥

pub record AreVars (vars : Tree) (here outside : List (List ℕ)) (rs : List Tree) : Type 0 where
  pub words : Each IsWord (names_of_vars (listed rs))
  pub counts : (x : List ℕ) → count x (declared_by vars here) ≡ count x here + count x (names_of_vars (listed rs))
  pub calls : (k : kinding.Names) → Covers (here ++ outside) k.locals → VarsHideNoCall (listed rs) k

no_vars : (here outside : List (List ℕ)) → AreVars tree.nil here outside []
no_vars here outside = record { words = tt; counts = λ x. omega arith; calls = λ k c. tt }

-- a name that is new is counted once more
pub counted_one : (x name : List ℕ) (declared : List ℕ) (here : List (List ℕ)) → declared ≡ name → is_among name here ≡ false
    → count x (with_name declared here) ≡ count x here + one (bytes_eq x name)
counted_one x name declared here same new =
    subst (λ z. count x (with_name z here) ≡ count x here + one (bytes_eq x name)) (sym same) (new_name x name here new)

var_before : (v vs : Tree) (here outside : List (List ℕ)) (r : Tree) (rs : List Tree) → IsVar v here outside r → AreVars vs (with_name (declared_name v) here) outside rs
    → AreVars (tree.cons v vs) here outside (r ∷ rs)
var_before v vs here outside (tree.var shape (tree.ident name place) start changes at) rs h more = record {
  words = (h.2, more.words);
  counts = λ x. let e = more.counts x in let f = counted_one x name (declared_name v) here h.0 h.1 in omega arith;
  calls = λ k c.
      (h.3 k c, h.4 k c, more.calls (with_known (known_var shape name changes k) k) (inside_one (declared_name v) here outside k (known_var shape name changes k) (sym h.0) h.2 c));
}
var_before v vs here outside _ rs h more = absurd h

pub var_hides : (v : Tree) (here : List (List ℕ)) (names : Names) → HasWords v → AreTold names.globals
    → OnFine (IsVar v here names.locals) (var_resolved v here (within here names))
var_hides (tree.var shape (tree.ident name place) start changes at) here names w h = go (is_among name here) refl
  where
    go : (b : Bool) → is_among name here ≡ b
        → OnFine (IsVar (tree.var shape (tree.ident name place) start changes at) here names.locals)
        (if b then Broken declared_twice at
        else and_so (type_resolved shape (within here names)) (λ t. and_so (optional_resolved start (within here names)) (λ e. Fine (tree.var t (tree.ident name place) e changes at))))
    go true e = tt
    go false e =
        so_two (IsVar (tree.var shape (tree.ident name place) start changes at) here names.locals) (Hides (here ++ names.locals)) (Hides (here ++ names.locals))
        (type_resolved shape (within here names)) (optional_resolved start (within here names)) (λ t r. tree.var t (tree.ident name place) r changes at)
        (type_hides shape (within here names) w.1 h) (optional_hides start (within here names) w.2 w.3 h)
        (λ t r i j. (refl, e, w.0, i, j))
var_hides _ here names w h = tt

pub vars_hide : (vs : Tree) (here : List (List ℕ)) (names : Names) → HasWords vs → AreTold names.globals → OnFine (AreVars vs here names.locals) (vars_resolved vs here names)
vars_hide tree.nil here names w h = no_vars here names.locals
vars_hide (tree.cons v vs) here names w h =
    so_two (AreVars (tree.cons v vs) here names.locals) (IsVar v here names.locals) (AreVars vs (with_name (declared_name v) here) names.locals)
    (var_resolved v here (within here names)) (vars_resolved vs (with_name (declared_name v) here) names) (λ r rs. r ∷ rs)
    (var_hides v here names w.0 h) (vars_hide vs (with_name (declared_name v) here) names w.1 h)
    (λ r rs i j. var_before v vs here names.locals r rs i j)
vars_hide _ here names w h = tt

-- ---- statements

-- what is behind variables sees them all
behind_vars : (vars : Tree) (outside : List (List ℕ)) (vs : List Tree) (r : Tree) → AreVars vars [] outside vs → Hides (declared_by vars [] ++ outside) r
    → (k : kinding.Names) → Covers outside k.locals → HidesNoCall r (with_vars_known (listed vs) k)
behind_vars vars outside vs r h i k c =
    i (with_vars_known (listed vs) k) (covers_vars (listed vs) outside (declared_by vars [] ++ outside) k c h.words (λ x e.
    let a = count-append x (declared_by vars []) outside in
    let b = h.counts x in
    omega arith))

-- a loop's body sees its variable
in_loop : (name : List ℕ) (outside : List (List ℕ)) (r : Tree) → IsWord name → Hides (name ∷ outside) r → (k : kinding.Names) → Covers outside k.locals
    → HidesNoCall r (with_known (counter name) k)
in_loop name outside r w h k c = h (with_known (counter name) k) (covers_one outside (name ∷ outside) (counter name) k.locals c w (λ x e. omega arith))

mutual
  pub stmt_hides : (s : Tree) (names : Names) → HasWords s → AreTold names.globals → OnFine (Hides names.locals) (stmt_resolved s names)
  stmt_hides (tree.assign (tree.ident name place) places value at) names w h =
      so_three (Hides names.locals) (λ x. Any x) (AllHide names.locals) (Hides names.locals) (used_as Variable name place names) (exprs_resolved places names) (expr_resolved value names)
      (λ full ps v. tree.assign (tree.ident full place) (listed ps) v at) (any_fine (used_as Variable name place names)) (exprs_hide places names w.0 h) (expr_hides value names w.1 h)
      (λ full ps v u i j k c. (i k c, j k c))
  stmt_hides (tree.call_stmt (tree.ident name place) args at) names w h =
      so_two (Hides names.locals) (IsFree names.locals) (AllHide names.locals) (used_as Procedure name place names) (exprs_resolved args names)
      (λ full es. tree.call_stmt (tree.ident full place) (listed es) at) (called_free Procedure name place names tt h) (exprs_hide args names w h)
      (λ full es i j k c. (c full i, j k c))
  stmt_hides (tree.if_stmt test first other at) names w h =
      so_three (Hides names.locals) (Hides names.locals) (AllHide names.locals) (Hides names.locals) (expr_resolved test names) (stmts_resolved first names) (else_resolved other names)
      (λ t a b. tree.if_stmt t (listed a) b at) (expr_hides test names w.0 h) (stmts_hide first names w.1 h) (else_hides other names w.2 w.3 h)
      (λ t a b i j l k c. (i k c, j k c, l k c))
  stmt_hides (tree.while_stmt test body at) names w h =
      so_two (Hides names.locals) (Hides names.locals) (AllHide names.locals) (expr_resolved test names) (stmts_resolved body names) (λ t b. tree.while_stmt t (listed b) at)
      (expr_hides test names w.0 h) (stmts_hide body names w.1 h) (λ t b i j k c. (i k c, j k c))
  stmt_hides (tree.foreach_stmt shape (tree.ident name place) from to body at) names w h =
      so_four (Hides names.locals) (Hides names.locals) (Hides names.locals) (Hides names.locals) (AllHide (name ∷ names.locals))
      (type_resolved shape names) (expr_resolved from names) (expr_resolved to names) (stmts_resolved body (within (name ∷ []) names))
      (λ t a b s. tree.foreach_stmt t (tree.ident name place) a b (listed s) at)
      (type_hides shape names w.1 h) (expr_hides from names w.2 h) (expr_hides to names w.3 h) (stmts_hide body (within (name ∷ []) names) w.4 h)
      (λ t a b s i j l m k c. (i k c, j k c, l k c, in_loop name names.locals (listed s) w.0 m k c))
  stmt_hides (tree.block vars body at) names w h =
      so_two (Hides names.locals) (AreVars vars [] names.locals) (AllHide (declared_by vars [] ++ names.locals)) (vars_resolved vars [] names) (stmts_resolved body (within (declared_by vars []) names))
      (λ vs s. tree.block (listed vs) (listed s) at) (vars_hide vars [] names w.0 h) (stmts_hide body (within (declared_by vars []) names) w.1 h)
      (λ vs s i j k c. (i.calls k c, behind_vars vars names.locals vs (listed s) i j k c))
  stmt_hides _ names w h = tt

  pub stmts_hide : (ss : Tree) (names : Names) → HasWords ss → AreTold names.globals → OnFine (AllHide names.locals) (stmts_resolved ss names)
  stmts_hide tree.nil names w h = λ k c. tt
  stmts_hide (tree.cons s ss) names w h =
      so_two (AllHide names.locals) (Hides names.locals) (AllHide names.locals) (stmt_resolved s names) (stmts_resolved ss names) (λ r rs. r ∷ rs)
      (stmt_hides s names w.0 h) (stmts_hide ss names w.1 h) (λ r rs i j k c. (i k c, j k c))
  stmts_hide _ names w h = tt

  -- statements that may be missing
  pub else_hides : (other : Tree) (names : Names) → IsOptional other → HasWords other → AreTold names.globals → OnFine (Hides names.locals) (else_resolved other names)
  else_hides (tree.present ss) names o w h =
      so_one (Hides names.locals) (AllHide names.locals) (stmts_resolved ss names) (λ rs. tree.present (listed rs)) (stmts_hide ss names w h) (λ rs i k c. i k c)
  else_hides tree.absent names o w h = λ k c. tt
  else_hides _ names o w h = absurd o
