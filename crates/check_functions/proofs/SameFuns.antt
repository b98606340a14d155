-- Functions over names of which those that they say in what must be constant mean the same; if they call none there, or
-- if those that were found before are the same and give the same.
use Rattle.std.proofs.Common.{◌≡◌, ℕ, Bool, true, false, List, [], ◌∷◌, refl, ap, subst, ◌∙◌, None, Some}
use Rattle.cal_ast.specs.Places.{begins}
use Rattle.cal_ast.specs.declared.expr.PrefixOp.TheVariants.{Not}
use Rattle.cal_ast.specs.Tree as tree
use Rattle.cal_ast.specs.Tree.{Tree}
use Rattle.cal_model.specs.Actor.{Fun, Local}
use Rattle.cal_model.specs.Kinding.{Judged, Fine, Broken, Names, and_so, counter, kind, meant_by, type_judged, with_counters, with_known}
use Rattle.cal_model.specs.Sound.{kind_of_judged, known_local, with_locals}
use Rattle.cal_model.specs.Value.{Shape}
use Rattle.cal_check.specs.Routines.{FunDecl, Head, formal_judged, formal_of, first_met, formals_judged, fun_if, fun_judged, fun_of, funs_over, head_judged, local_if, local_of, locals_before, locals_of, met_if, result_judged, shape_of, single, single_type, start_of, useless_fun, with_fun}
use Rattle.cal_check.specs.Statements.{behind, names_behind}
use Rattle.cal_check.specs.Written.{behind_vars, by_number, constant_written, gens_written, with_inner, written}
use Rattle.check_functions.proofs.Bare.{AllSay, No, SaysOnly}
use Rattle.check_functions.proofs.SameKinds.{MeanSame, and-same, counters-same, kind-same, more-same, number-same, type-same}

abbrev is_fine : {A : Type 0} → Judged A → Bool
is_fine (Fine x) = true
is_fine (Broken rule at) = false

abbrev made : List ℕ → Head → List Local → Tree → Fun
made name head locals body = record { name = name; formals = head.formals; locals = locals; result = head.result; body = body }

module _ (P : List ℕ → Type 0) (C : List ℕ → Type 0) where
  -- ---- what is written out

  constant-written-same : (e : Tree) (n m : Names) → MeanSame P C n m → SaysOnly P C true e → constant_written e n ≡ constant_written e m
  constant-written-same e n m s r = ap (λ j. by_number j e) (number-same P C e n m s r (kind-same P C e n m s r))

  mutual
    written-same : (constant : Bool) (t : Tree) (n m : Names) → MeanSame P C n m → SaysOnly P C constant t → written t n ≡ written t m
    written-same constant (tree.cons t ts) n m s r =
        ap (λ x. tree.cons x (written ts n)) (written-same constant t n m s r.0) ∙ ap (tree.cons (written t m)) (written-same constant ts n m s r.1)
    written-same constant (tree.present t) n m s r = ap tree.present (written-same constant t n m s r)
    written-same constant (tree.call name args at) n m s r = ap (λ x. tree.call name x at) (written-same constant args n m s r.1)
    written-same constant (tree.paren e at) n m s r = ap (λ x. tree.paren x at) (written-same constant e n m s r)
    written-same constant (tree.if_expr test first other at) n m s r =
        ap (λ x. tree.if_expr x (written first n) (written other n) at) (written-same constant test n m s r.0)
        ∙ ap (λ x. tree.if_expr (written test m) x (written other n) at) (written-same constant first n m s r.1)
        ∙ ap (λ x. tree.if_expr (written test m) (written first m) x at) (written-same constant other n m s r.2)
    written-same constant (tree.list items at) n m s r = ap (λ x. tree.list x at) (written-same constant items n m s r)
    written-same constant (tree.comp item gens at) n m s r =
        ap (λ x. tree.comp x (gens_written gens n) at) (written-same constant item (with_counters gens n) (with_counters gens m) (counters-same P C gens n m s) r.0)
        ∙ ap (λ x. tree.comp (written item (with_counters gens m)) x at) (gens-same gens n m s r.1)
    written-same constant (tree.index base place at) n m s r =
        ap (λ x. tree.index x (written place n) at) (written-same constant base n m s r.0) ∙ ap (λ x. tree.index (written base m) x at) (written-same constant place n m s r.1)
    written-same constant (tree.prefix op e at) n m s r = ap (λ x. tree.prefix op x at) (written-same constant e n m s r)
    written-same constant (tree.binary op l o at) n m s r =
        ap (λ x. tree.binary op x (written o n) at) (written-same constant l n m s r.0) ∙ ap (λ x. tree.binary op (written l m) x at) (written-same constant o n m s r.1)
    written-same constant (tree.type_of name args at) n m s r = ap (λ x. tree.type_of name x at) (written-same true args n m s r)
    written-same constant (tree.shape_arg name shape) n m s r = ap (tree.shape_arg name) (written-same true shape n m s r)
    written-same constant (tree.value_arg name value) n m s r = ap (tree.value_arg name) (constant-written-same value n m s r)
    written-same constant other n m s r = refl

    gens-same : (gens : Tree) (n m : Names) → MeanSame P C n m → SaysOnly P C true gens → gens_written gens n ≡ gens_written gens m
    gens-same (tree.cons (tree.gen shape (tree.ident name place) from to at) gens) n m s r =
        let more = gens_written gens (with_known (counter name) n) in
        ap (λ x. tree.cons (tree.gen x (tree.ident name place) (constant_written from n) (constant_written to n) at) more) (written-same true shape n m s r.0.0)
        ∙ ap (λ x. tree.cons (tree.gen (written shape m) (tree.ident name place) x (constant_written to n) at) more) (constant-written-same from n m s r.0.1)
        ∙ ap (λ x. tree.cons (tree.gen (written shape m) (tree.ident name place) (constant_written from m) x at) more) (constant-written-same to n m s r.0.2)
        ∙ ap (tree.cons (tree.gen (written shape m) (tree.ident name place) (constant_written from m) (constant_written to m) at))
        (gens-same gens (with_known (counter name) n) (with_known (counter name) m) (more-same P C (counter name) n m s) r.1)
    gens-same other n m s r = refl

  -- ---- heads

  single-same : (shape : Tree) (n m : Names) → MeanSame P C n m → SaysOnly P C true shape → single_type shape n ≡ single_type shape m
  single-same shape n m s r = ap (λ j. single j (begins shape)) (type-same P C shape n m s r)

  formals-same : (fs : Tree) (n m : Names) → MeanSame P C n m → SaysOnly P C false fs → formals_judged fs n ≡ formals_judged fs m
  formals-same (tree.cons (tree.port shape (tree.ident name place) at) fs) n m s r =
      and-same (formal_judged (tree.port shape (tree.ident name place) at) n) (formal_judged (tree.port shape (tree.ident name place) at) m) _ _
      (ap (λ j. and_so j (λ t. Fine (formal_of name t))) (single-same shape n m s r.0))
      (λ x. ap (λ j. and_so j (λ xs. Fine (x ∷ xs))) (formals-same fs (with_known (known_local x) n) (with_known (known_local x) m) (more-same P C (known_local x) n m s) r.1))
  formals-same other n m s r = refl

  locals-mean : (xs : List Local) (n m : Names) → MeanSame P C n m → MeanSame P C (with_locals xs n) (with_locals xs m)
  locals-mean [] n m s = s
  locals-mean (x ∷ xs) n m s = locals-mean xs (with_known (known_local x) n) (with_known (known_local x) m) (more-same P C (known_local x) n m s)

  result-same : (result : Tree) (fs : List Local) (n m : Names) → MeanSame P C n m → SaysOnly P C true result → result_judged result fs n ≡ result_judged result fs m
  result-same result fs n m s r =
      ap (λ j. and_so j (λ t. Fine (record { formals = fs; result = t }))) (single-same result (with_locals fs n) (with_locals fs m) (locals-mean fs n m s) r)

  -- ---- locals

  inner-mean : (shape name start : Tree) (changes : Bool) (at : ℕ) (n m : Names) → MeanSame P C n m → SaysOnly P C true shape
      → MeanSame P C (with_inner (tree.var shape name start changes at) n) (with_inner (tree.var shape name start changes at) m)
  inner-mean shape (tree.ident x place) start changes at n m s r =
      subst (λ j. MeanSame P C (with_inner (tree.var shape (tree.ident x place) start changes at) n) (with_known (record { name = x; kind = kind_of_judged j; value = None; changes = changes }) m))
      (type-same P C shape n m s r)
      (more-same P C (record { name = x; kind = kind_of_judged (type_judged shape n); value = None; changes = changes }) n m s)
  inner-mean shape other start changes at n m s r = s

  fine-same : (vs : Tree) (n m : Names) → MeanSame P C n m → SaysOnly P C false vs → is_fine (names_behind vs n) ≡ is_fine (names_behind vs m)
  fine-same (tree.cons (tree.var shape name start changes at) vs) n m s r =
      let v = tree.var shape name start changes at in
      ap (λ j. is_fine (and_so (behind j v n) (λ inner. names_behind vs inner))) (type-same P C shape n m s r.0.0)
      ∙ go v (type_judged shape m) (fine-same vs (with_inner v n) (with_inner v m) (inner-mean shape name start changes at n m s r.0.0) r.1)
    where
      go : (v : Tree) (j : Judged Shape) → is_fine (names_behind vs (with_inner v n)) ≡ is_fine (names_behind vs (with_inner v m))
          → is_fine (and_so (behind j v n) (λ inner. names_behind vs inner)) ≡ is_fine (and_so (behind j v m) (λ inner. names_behind vs inner))
      go v (Fine t) h = h
      go v (Broken rule p) h = refl
  fine-same other n m s r = refl

  start-same : (start : Tree) (n m : Names) → MeanSame P C n m → SaysOnly P C false start → start_of start n ≡ start_of start m
  start-same (tree.present e) n m s r = ap Some (written-same false e n m s r)
  start-same other n m s r = refl

  local-same : (shape name start : Tree) (changes : Bool) (at : ℕ) (n m : Names) → MeanSame P C n m → SaysOnly P C true shape → SaysOnly P C false start
      → local_of (tree.var shape name start changes at) n ≡ local_of (tree.var shape name start changes at) m
  local-same shape (tree.ident x place) start changes at n m s r q =
      ap (λ j. record { name = x; shape = shape_of j; start = start_of start n; changes = changes }) (type-same P C shape n m s r)
      ∙ ap (λ o. record { name = x; shape = shape_of (type_judged shape m); start = o; changes = changes }) (start-same start n m s q)
  local-same shape other start changes at n m s r q = refl

  locals-same : (vs : Tree) (n m : Names) → MeanSame P C n m → SaysOnly P C false vs → locals_of vs n ≡ locals_of vs m
  locals-same (tree.cons (tree.var shape name start changes at) vs) n m s r =
      let v = tree.var shape name start changes at in
      ap (λ x. x ∷ locals_of vs (with_inner v n)) (local-same shape name start changes at n m s r.0.0 r.0.1)
      ∙ ap (λ xs. local_of v m ∷ xs) (locals-same vs (with_inner v n) (with_inner v m) (inner-mean shape name start changes at n m s r.0.0) r.1)
  locals-same (tree.cons v vs) n m s r = ap (λ xs. local_of v n ∷ xs) (locals-same vs n m s r.1)
  locals-same other n m s r = refl

  before-same : (vs : Tree) (n m : Names) → MeanSame P C n m → SaysOnly P C false vs → locals_before vs n ≡ locals_before vs m
  before-same (tree.cons (tree.var shape name start changes at) vs) n m s r =
      let v = tree.var shape name start changes at in
      ap (λ j. local_if j (local_of v n) (locals_before vs (with_inner v n))) (type-same P C shape n m s r.0.0)
      ∙ ap (λ x. local_if (type_judged shape m) x (locals_before vs (with_inner v n))) (local-same shape name start changes at n m s r.0.0 r.0.1)
      ∙ ap (λ xs. local_if (type_judged shape m) (local_of v m) xs) (before-same vs (with_inner v n) (with_inner v m) (inner-mean shape name start changes at n m s r.0.0) r.1)
  before-same other n m s r = refl

  met-same : (vs : Tree) (n m : Names) → MeanSame P C n m → SaysOnly P C false vs → first_met vs n ≡ first_met vs m
  met-same (tree.cons (tree.var shape name start changes at) vs) n m s r =
      let v = tree.var shape name start changes at in
      ap (λ j. met_if j v (first_met vs (with_inner v n))) (type-same P C shape n m s r.0.0)
      ∙ ap (λ t. met_if (type_judged shape m) v t) (met-same vs (with_inner v n) (with_inner v m) (inner-mean shape name start changes at n m s r.0.0) r.1)
  met-same other n m s r = refl

  behind-mean : (vs : Tree) (n m : Names) → MeanSame P C n m → SaysOnly P C false vs → MeanSame P C (behind_vars vs n) (behind_vars vs m)
  behind-mean (tree.cons (tree.var shape name start changes at) vs) n m s r =
      behind-mean vs (with_inner (tree.var shape name start changes at) n) (with_inner (tree.var shape name start changes at) m) (inner-mean shape name start changes at n m s r.0.0) r.1
  behind-mean (tree.cons v vs) n m s r = behind-mean vs n m s r.1
  behind-mean other n m s r = s

  -- ---- functions

  fun-same : (name : List ℕ) (head : Head) (vs body : Tree) (n m : Names) → MeanSame P C n m → SaysOnly P C false vs → SaysOnly P C false body
      → fun_of name head vs body n ≡ fun_of name head vs body m
  fun-same name head vs body n m s r q =
      let i = with_locals head.formals n in
      let j = with_locals head.formals m in
      let inside = locals-mean head.formals n m s in
      ap (λ xs. made name head xs (written body (behind_vars vs i))) (locals-same vs i j inside r)
      ∙ ap (made name head (locals_of vs j)) (written-same false body (behind_vars vs i) (behind_vars vs j) (behind-mean vs i j inside r) q)

  useless-same : (name : List ℕ) (head : Head) (vs : Tree) (n m : Names) → MeanSame P C n m → SaysOnly P C false vs → useless_fun name head vs n ≡ useless_fun name head vs m
  useless-same name head vs n m s r =
      let i = with_locals head.formals n in
      let j = with_locals head.formals m in
      let inside = locals-mean head.formals n m s in
      ap (λ xs. made name head xs (tree.prefix Not (tree.list (first_met vs i) 0) 0)) (before-same vs i j inside r)
      ∙ ap (λ t. made name head (locals_before vs j) (tree.prefix Not (tree.list t 0) 0)) (met-same vs i j inside r)

  if-same : (i j : Judged Names) (name : List ℕ) (head : Head) (vs body : Tree) (n m : Names) → is_fine i ≡ is_fine j → fun_of name head vs body n ≡ fun_of name head vs body m
      → useless_fun name head vs n ≡ useless_fun name head vs m → fun_if i name head vs body n ≡ fun_if j name head vs body m
  if-same (Fine x) (Fine y) name head vs body n m e h u = h
  if-same (Broken r p) (Broken q o) name head vs body n m e h u = u
  if-same (Fine x) (Broken q o) name head vs body n m e h u = cc
  if-same (Broken r p) (Fine y) name head vs body n m e h u = cc

  pub judged-same : (full : List ℕ) (decl : Tree) (n m : Names) → MeanSame P C n m → SaysOnly P C false decl → fun_judged full decl n ≡ fun_judged full decl m
  judged-same full (tree.function name formals result vars body at) n m s r =
      and-same (head_judged (tree.function name formals result vars body at) n) (head_judged (tree.function name formals result vars body at) m) _ _
      (and-same (formals_judged formals n) (formals_judged formals m) _ _ (formals-same formals n m s r.0) (λ fs. result-same result fs n m s r.1))
      (λ head. ap Fine
      (if-same (names_behind vars (with_locals head.formals n)) (names_behind vars (with_locals head.formals m)) full head vars body n m
      (fine-same vars (with_locals head.formals n) (with_locals head.formals m) (locals-mean head.formals n m s) r.2)
      (fun-same full head vars body n m s r.2 r.3)
      (useless-same full head vars n m s r.2)))
  judged-same full other n m s r = refl

  pub over-same : (fs : List FunDecl) (n m : Names) → MeanSame P C n m → AllSay P C fs → funs_over fs n ≡ funs_over fs m
  over-same [] n m s r = refl
  over-same (f ∷ fs) n m s r =
      ap (λ j. with_fun j (funs_over fs n)) (judged-same f.name f.decl n m s r.0) ∙ ap (with_fun (fun_judged f.name f.decl m)) (over-same fs n m s r.1)

-- the names of which P holds mean the same
abbrev pub NamesSame : (List ℕ → Type 0) → Names → Names → Type 0
NamesSame P n m = (name : List ℕ) → P name → meant_by name n ≡ meant_by name m

-- whatever functions there are, if none may be called
pub mean_names : (P : List ℕ → Type 0) (n m : Names) → NamesSame P n m → MeanSame P No n m
mean_names P n m s = record { names = s; funs = λ name c. absurd c; given = λ name c. absurd c }
