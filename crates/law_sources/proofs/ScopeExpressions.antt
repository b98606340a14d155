-- No name that is declared inside hides a function that is called in an expression or a type.
use Rattle.std.proofs.Common.{◌≡◌, ℕ, ◌+◌, Bool, true, false, List, [], ◌∷◌, ◌++◌, refl, sym, ap, arith}
use Rattle.std.specs.Prelude.{if◌then◌else◌}
use Rattle.std.specs.Str.{bytes_eq}
use Rattle.rvc_base.specs.Rules.{unknown_name}
use Rattle.cal_ast.specs.Tree as tree
use Rattle.cal_ast.specs.Tree.{Tree, listed}
use Rattle.cal_model.specs.Kinding as kinding
use Rattle.cal_model.specs.Kinding.{Fine, Broken, and_so, counter, is_word, with_counters, with_known}
use Rattle.cal_model.specs.Sound.{Each, GensHideNoCall, HidesNoCall}
use Rattle.cal_check.specs.Formed.{IsOptional}
use Rattle.cal_scope.specs.declared.role.Role.TheVariants.{Variable, Function}
use Rattle.cal_scope.specs.Expressions.{declared_by, declared_name, expr_resolved, exprs_resolved, gen_resolved, gens_resolved, optional_resolved, type_arg_resolved, type_args_resolved, type_resolved}
use Rattle.cal_scope.specs.Names.{Names, used_as, with_name, within}
use Rattle.law_sources.proofs.Counts.{count, count-append, one}
use Rattle.law_sources.proofs.WordTokens.{IsWord}
use Rattle.law_sources.proofs.Called.{AreTold, called_free}
use Rattle.law_sources.proofs.Hiding.{Covers, IsFree, covers_gens, covers_one, names_of_gens, no_name}
use Rattle.law_sources.proofs.Inside.{HasWords}
use Rattle.law_sources.proofs.ScopeJudgements.{OnFine, Any, any_fine, so_one, so_two, so_three}

-- in a part that was written out no call is hidden, wherever all that has a meaning inside is among these names
abbrev pub Hides : List (List ℕ) → Tree → Type 0
Hides locals r = (k : kinding.Names) → Covers locals k.locals → HidesNoCall r k

abbrev pub AllHide : List (List ℕ) → List Tree → Type 0
AllHide locals rs = Hides locals (listed rs)

-- a generator that was written out, which stands inside these names
abbrev pub IsGen : Tree → List (List ℕ) → Tree → Type 0
IsGen g locals (tree.gen shape (tree.ident name place) from to at) =
    (declared_name g ≡ name) × IsWord name × Hides locals shape × Hides locals from × Hides locals to
IsGen g locals other = ⊥

-- generators that stand inside those of the names `here`
pub record AreGens (gens : Tree) (here outside : List (List ℕ)) (rs : List Tree) : Type 0 where
  pub words : Each IsWord (names_of_gens (listed rs))
  pub shows : (x : List ℕ) → count x (declared_by gens here) ≡ 0 → count x here + count x (names_of_gens (listed rs)) ≡ 0
  pub calls : (k : kinding.Names) → Covers (here ++ outside) k.locals → GensHideNoCall (listed rs) k

no_gens : (here outside : List (List ℕ)) → AreGens tree.nil here outside []
no_gens here outside = record { words = tt; shows = λ x h. omega arith; calls = λ k c. tt }

-- what is inside one name more
pub inside_one : (name : List ℕ) (here outside : List (List ℕ)) (k : kinding.Names) (y : kinding.Known) → y.name ≡ name → IsWord y.name → Covers (here ++ outside) k.locals
    → Covers (with_name name here ++ outside) (y ∷ k.locals)
inside_one name here outside k y same w c =
    covers_one (here ++ outside) (with_name name here ++ outside) y k.locals c w (λ x h.
    let a = count-append x (with_name name here) outside in
    let b = count-append x here outside in
    let none : count x (with_name name here) ≡ 0 = omega arith in
    let d = no_name x name here none in
    let e = ap (λ z. one (bytes_eq x z)) same in
    omega arith)

gen_before : (g gs : Tree) (here outside : List (List ℕ)) (r : Tree) (rs : List Tree) → IsGen g (here ++ outside) r → AreGens gs (with_name (declared_name g) here) outside rs
    → AreGens (tree.cons g gs) here outside (r ∷ rs)
gen_before g gs here outside (tree.gen shape (tree.ident name place) from to at) rs h more = record {
  words = (h.1, more.words);
  shows = λ x e.
      let f = more.shows x e in
      let none : count x (with_name (declared_name g) here) ≡ 0 = omega arith in
      let d = no_name x (declared_name g) here none in
      let same = ap (λ z. one (bytes_eq x z)) h.0 in
      omega arith;
  calls = λ k c.
      (h.2 k c, h.3 k c, h.4 k c, more.calls (with_known (counter name) k) (inside_one (declared_name g) here outside k (counter name) (sym h.0) h.1 c));
}
gen_before g gs here outside _ rs h more = absurd h

-- what is behind generators sees them all
behind_gens : (gens : Tree) (outside : List (List ℕ)) (gs : List Tree) (r : Tree) → AreGens gens [] outside gs → Hides (declared_by gens [] ++ outside) r
    → (k : kinding.Names) → Covers outside k.locals → HidesNoCall r (with_counters (listed gs) k)
behind_gens gens outside gs r h i k c =
    i (with_counters (listed gs) k) (covers_gens (listed gs) outside (declared_by gens [] ++ outside) k c h.words (λ x e.
    let a = count-append x (declared_by gens []) outside in
    let none : count x (declared_by gens []) ≡ 0 = omega arith in
    let b = h.shows x none in
    omega arith))

if_word : (locals : List (List ℕ)) (b : Bool) (name : List ℕ) (place at : ℕ) (args : Tree) (names : Names)
    → OnFine (Hides locals) (and_so (type_args_resolved args names) (λ given. Fine (tree.type_of (tree.ident name place) (listed given) at)))
    → OnFine (Hides locals) (if b then and_so (type_args_resolved args names) (λ given. Fine (tree.type_of (tree.ident name place) (listed given) at)) else Broken unknown_name place)
if_word locals true name place at args names h = h
if_word locals false name place at args names h = tt

mutual
  pub expr_hides : (e : Tree) (names : Names) → HasWords e → AreTold names.globals → OnFine (Hides names.locals) (expr_resolved e names)
  expr_hides (tree.number n at) names w h = λ k c. tt
  expr_hides (tree.truth b at) names w h = λ k c. tt
  expr_hides (tree.variable name at) names w h =
      so_one (Hides names.locals) (λ x. Any x) (used_as Variable name at names) (λ full. tree.variable full at) (any_fine (used_as Variable name at names)) (λ full i k c. tt)
  expr_hides (tree.call name args at) names w h =
      so_two (Hides names.locals) (IsFree names.locals) (AllHide names.locals) (used_as Function name at names) (exprs_resolved args names) (λ full es. tree.call full (listed es) at)
      (called_free Function name at names tt h) (exprs_hide args names w h) (λ full es i j k c. (c full i, j k c))
  expr_hides (tree.paren e at) names w h =
      so_one (Hides names.locals) (Hides names.locals) (expr_resolved e names) (λ r. tree.paren r at) (expr_hides e names w h) (λ r i k c. i k c)
  expr_hides (tree.if_expr test first other at) names w h =
      so_three (Hides names.locals) (Hides names.locals) (Hides names.locals) (Hides names.locals) (expr_resolved test names) (expr_resolved first names) (expr_resolved other names)
      (λ c a b. tree.if_expr c a b at) (expr_hides test names w.0 h) (expr_hides first names w.1 h) (expr_hides other names w.2 h)
      (λ t a b i j l k c. (i k c, j k c, l k c))
  expr_hides (tree.list items at) names w h =
      so_one (Hides names.locals) (AllHide names.locals) (exprs_resolved items names) (λ es. tree.list (listed es) at) (exprs_hide items names w h) (λ es i k c. i k c)
  expr_hides (tree.comp item gens at) names w h =
      so_two (Hides names.locals) (AreGens gens [] names.locals) (Hides (declared_by gens [] ++ names.locals)) (gens_resolved gens [] names) (expr_resolved item (within (declared_by gens []) names))
      (λ gs e. tree.comp e (listed gs) at) (gens_hide gens [] names w.1 h) (expr_hides item (within (declared_by gens []) names) w.0 h)
      (λ gs e i j k c. (behind_gens gens names.locals gs e i j k c, i.calls k c))
  expr_hides (tree.index base place at) names w h =
      so_two (Hides names.locals) (Hides names.locals) (Hides names.locals) (expr_resolved base names) (expr_resolved place names) (λ b p. tree.index b p at)
      (expr_hides base names w.0 h) (expr_hides place names w.1 h) (λ b p i j k c. (i k c, j k c))
  expr_hides (tree.prefix op e at) names w h =
      so_one (Hides names.locals) (Hides names.locals) (expr_resolved e names) (λ r. tree.prefix op r at) (expr_hides e names w h) (λ r i k c. i k c)
  expr_hides (tree.binary op l r at) names w h =
      so_two (Hides names.locals) (Hides names.locals) (Hides names.locals) (expr_resolved l names) (expr_resolved r names) (λ a b. tree.binary op a b at)
      (expr_hides l names w.0 h) (expr_hides r names w.1 h) (λ a b i j k c. (i k c, j k c))
  expr_hides _ names w h = tt

  pub exprs_hide : (es : Tree) (names : Names) → HasWords es → AreTold names.globals → OnFine (AllHide names.locals) (exprs_resolved es names)
  exprs_hide tree.nil names w h = λ k c. tt
  exprs_hide (tree.cons e es) names w h =
      so_two (AllHide names.locals) (Hides names.locals) (AllHide names.locals) (expr_resolved e names) (exprs_resolved es names) (λ r rs. r ∷ rs)
      (expr_hides e names w.0 h) (exprs_hide es names w.1 h) (λ r rs i j k c. (i k c, j k c))
  exprs_hide _ names w h = tt

  gens_hide : (gs : Tree) (here : List (List ℕ)) (names : Names) → HasWords gs → AreTold names.globals → OnFine (AreGens gs here names.locals) (gens_resolved gs here names)
  gens_hide tree.nil here names w h = no_gens here names.locals
  gens_hide (tree.cons g gs) here names w h =
      so_two (AreGens (tree.cons g gs) here names.locals) (IsGen g (here ++ names.locals)) (AreGens gs (with_name (declared_name g) here) names.locals)
      (gen_resolved g (within here names)) (gens_resolved gs (with_name (declared_name g) here) names) (λ r rs. r ∷ rs)
      (gen_hides g (within here names) w.0 h) (gens_hide gs (with_name (declared_name g) here) names w.1 h)
      (λ r rs i j. gen_before g gs here names.locals r rs i j)
  gens_hide _ here names w h = tt

  gen_hides : (g : Tree) (names : Names) → HasWords g → AreTold names.globals → OnFine (IsGen g names.locals) (gen_resolved g names)
  gen_hides (tree.gen shape (tree.ident name place) from to at) names w h =
      so_three (IsGen (tree.gen shape (tree.ident name place) from to at) names.locals) (Hides names.locals) (Hides names.locals) (Hides names.locals)
      (type_resolved shape names) (expr_resolved from names) (expr_resolved to names) (λ t a b. tree.gen t (tree.ident name place) a b at)
      (type_hides shape names w.1 h) (expr_hides from names w.2 h) (expr_hides to names w.3 h) (λ t a b i j l. (refl, w.0, i, j, l))
  gen_hides (tree.gen shape _ from to at) names w h = absurd w.0
  gen_hides _ names w h = tt

  pub type_hides : (t : Tree) (names : Names) → HasWords t → AreTold names.globals → OnFine (Hides names.locals) (type_resolved t names)
  type_hides (tree.type_of (tree.ident name place) args at) names w h =
      if_word names.locals (is_word name) name place at args names
      (so_one (Hides names.locals) (AllHide names.locals) (type_args_resolved args names) (λ given. tree.type_of (tree.ident name place) (listed given) at)
      (type_args_hide args names w h) (λ es i k c. i k c))
  type_hides _ names w h = tt

  type_args_hide : (args : Tree) (names : Names) → HasWords args → AreTold names.globals → OnFine (AllHide names.locals) (type_args_resolved args names)
  type_args_hide tree.nil names w h = λ k c. tt
  type_args_hide (tree.cons arg args) names w h =
      so_two (AllHide names.locals) (Hides names.locals) (AllHide names.locals) (type_arg_resolved arg names) (type_args_resolved args names) (λ r rs. r ∷ rs)
      (type_arg_hides arg names w.0 h) (type_args_hide args names w.1 h) (λ r rs i j k c. (i k c, j k c))
  type_args_hide _ names w h = tt

  type_arg_hides : (arg : Tree) (names : Names) → HasWords arg → AreTold names.globals → OnFine (Hides names.locals) (type_arg_resolved arg names)
  type_arg_hides (tree.shape_arg name shape) names w h =
      so_one (Hides names.locals) (Hides names.locals) (type_resolved shape names) (λ t. tree.shape_arg name t) (type_hides shape names w h) (λ r i k c. i k c)
  type_arg_hides (tree.value_arg name value) names w h =
      so_one (Hides names.locals) (Hides names.locals) (expr_resolved value names) (λ t. tree.value_arg name t) (expr_hides value names w h) (λ r i k c. i k c)
  type_arg_hides _ names w h = tt

-- an expression that may be missing
pub optional_hides : (start : Tree) (names : Names) → IsOptional start → HasWords start → AreTold names.globals → OnFine (Hides names.locals) (optional_resolved start names)
optional_hides (tree.present e) names o w h =
    so_one (Hides names.locals) (Hides names.locals) (expr_resolved e names) (λ r. tree.present r) (expr_hides e names w h) (λ r i k c. i k c)
optional_hides tree.absent names o w h = λ k c. tt
optional_hides _ names o w h = absurd o
