-- One part more: expressions, arguments and formals, and the arguments of types.
use Rattle.std.proofs.Common.{◌≡◌, ℕ, zero, suc, ◌+◌, ◌<◌, ◌≤◌, Bool, true, false, ◌&&◌, List, [], ◌∷◌, ◌++◌, map, length, drop, get_or, refl, sym, ap, subst, ◌∙◌, add-one, arith}
use Rattle.std.specs.Prelude.{Option, None, Some, if◌then◌else◌, not, option_copied, option_map, slice_get, ◌==◌}
use Rattle.std.proofs.Math.Seq.{drop-cons}
use Rattle.std.proofs.lemmas.List.{drop_all, append_assoc, append-nil}
use Rattle.std.proofs.lemmas.Bool.Decides.{nat_tests}
use Rattle.cal_ast.specs.Tree as tree
use Rattle.cal_ast.specs.Tree.{Tree, listed}
use Rattle.cal_ast.specs.Places.{begins}
use Rattle.cal_ast.specs.View.{expr_tree, type_arg_tree}
use Rattle.cal_ast.specs.declared.expr.Expr.{Expr}
use Rattle.cal_ast.specs.declared.expr.TypeArg.{TypeArg}
use Rattle.std.specs.Borrow.{Bor}
use Rattle.cal_model.specs.Actor.{Local}
use Rattle.cal_model.specs.View.{local_view}
use Rattle.cal_model.specs.declared.bound.BoundLocal.{BoundLocal}
use Rattle.cal_model.specs.Value.{Kind, kind_of_type}
use Rattle.cal_model.specs.Kinding.{Judged, Fine, Broken, and_so, Names, Argument, OfShape, OfSize, all_like, all_same, arguments_fit, constant_number, is_like, is_same_kind, kind, kinds, list_kind, list_of_kind, one_kind, type_arguments, type_judged}
use Rattle.rvc_base.specs.Rules.{wrong_kind, wrong_length}
use Rattle.const_env.specs.Fitting.{both_fit, fit_of, formal_fits}
use Rattle.const_env.specs.Judging.{Breaks}
use Rattle.const_expr.specs.Shaping.{argument_judged}
use Rattle.const_env.specs.declared.fault.KindFault.{KindFault}
use Rattle.const_env.specs.declared.kinds.Fit.{Fit}
use Rattle.const_expr.proofs.Judged.{breaks_on, so_ext, so_fine, so_so}
use Rattle.const_expr.proofs.Weights.{size}

-- ---- expressions in order

-- the kinds from a place on
abbrev pub kinds_from : ℕ → List Expr → Names → Judged (List Kind)
kinds_from n es names = kinds (listed (map expr_tree (drop n es))) names

kinds-open : (es : List Expr) (n : ℕ) (d : Expr) (names : Names) → n < length es
    → kinds_from n es names ≡ and_so (kind (expr_tree (get_or es n d)) names) (λ k. and_so (kinds_from (n + 1) es names) (λ ks. Fine (k ∷ ks)))
kinds-open es n d names h =
    ap (λ xs. kinds (listed (map expr_tree xs)) names) (drop-cons es n d h)
    ∙ ap (λ m. and_so (kind (expr_tree (get_or es n d)) names) (λ k. and_so (kinds_from m es names) (λ ks. Fine (k ∷ ks)))) (sym (add-one n))

grouped : (a b c : Bool) → ((a && (b && true)) && c) ≡ (a && (b && c))
grouped true true c = refl
grouped true false c = refl
grouped false b c = refl

and-true : (a : Bool) → (a && true) ≡ a
and-true true = refl
and-true false = refl

one-more : (fit new : Fit) (k l : Kind) (ks : List Kind) → new ≡ both_fit fit (fit_of k (l ∷ [])) → both_fit fit (fit_of k (l ∷ ks)) ≡ both_fit new (fit_of k ks)
one-more fit new k l ks e =
    sym (ap (λ f. both_fit f (fit_of k ks)) e
    ∙ ap (λ b. record { like = b; same = (fit.same && (is_same_kind k l && true)) && all_same k ks }) (grouped fit.like (is_like k l) (all_like k ks))
    ∙ ap (λ b. record { like = fit.like && (is_like k l && all_like k ks); same = b }) (grouped fit.same (is_same_kind k l) (all_same k ks)))

pub fit_start : (es : List Expr) (names : Names) (k : Kind) (fit : Fit) → fit.like ≡ true → fit.same ≡ true
    → and_so (kinds_from 0 es names) (λ ks. Fine (both_fit fit (fit_of k ks))) ≡ and_so (kinds (listed (map expr_tree es)) names) (λ ks. Fine (fit_of k ks))
fit_start es names k fit e f = so_ext (kinds (listed (map expr_tree es)) names) _ _ (λ ks.
    ap (λ b. Fine (record { like = b && all_like k ks; same = fit.same && all_same k ks })) e
    ∙ ap (λ b. Fine (record { like = all_like k ks; same = b && all_same k ks })) f)

pub fit_next : (es : List Expr) (n : ℕ) (d : Expr) (names : Names) (k l : Kind) (fit new : Fit) (whole : Judged Fit) → n < length es → kind (expr_tree (get_or es n d)) names ≡ Fine l → new ≡ both_fit fit (fit_of k (l ∷ []))
    → and_so (kinds_from n es names) (λ ks. Fine (both_fit fit (fit_of k ks))) ≡ whole
    → and_so (kinds_from (n + 1) es names) (λ ks. Fine (both_fit new (fit_of k ks))) ≡ whole
fit_next es n d names k l fit new whole h e f g =
    sym (ap (λ o. and_so o (λ ks. Fine (both_fit fit (fit_of k ks)))) (kinds-open es n d names h ∙ so_fine (kind (expr_tree (get_or es n d)) names) l _ e)
    ∙ so_so (kinds_from (n + 1) es names) (λ ks. Fine (l ∷ ks)) (λ ks. Fine (both_fit fit (fit_of k ks)))
    ∙ so_ext (kinds_from (n + 1) es names) _ _ (λ ks. ap Fine (one-more fit new k l ks f)))
    ∙ g

pub fit_breaks : (es : List Expr) (n : ℕ) (d : Expr) (names : Names) (k : Kind) (fit : Fit) (whole : Judged Fit) (f : KindFault) → n < length es → Breaks f (kind (expr_tree (get_or es n d)) names)
    → and_so (kinds_from n es names) (λ ks. Fine (both_fit fit (fit_of k ks))) ≡ whole → Breaks f whole
fit_breaks es n d names k fit whole f h b g =
    subst (λ o. Breaks f o) g
    (breaks_on f (kinds_from n es names) _ (subst (λ o. Breaks f o) (sym (kinds-open es n d names h)) (breaks_on f (kind (expr_tree (get_or es n d)) names) _ b)))

pub fit_done : (es : List Expr) (n : ℕ) (names : Names) (k : Kind) (fit : Fit) (whole : Judged Fit) → length es ≤ n
    → and_so (kinds_from n es names) (λ ks. Fine (both_fit fit (fit_of k ks))) ≡ whole → whole ≡ Fine fit
fit_done es n names k fit whole h g =
    sym g ∙ ap (λ xs. and_so (kinds (listed (map expr_tree xs)) names) (λ ks. Fine (both_fit fit (fit_of k ks)))) (drop_all n es h)
    ∙ ap (λ b. Fine (record { like = b; same = fit.same && true })) (and-true fit.like)
    ∙ ap (λ b. Fine (record { like = fit.like; same = b })) (and-true fit.same)

-- ---- lists

kinds-counted : (es : List Expr) (names : Names) (ks : List Kind) → kinds (listed (map expr_tree es)) names ≡ Fine ks → length ks ≡ length es
kinds-counted [] names ks e = let same : [] ≡ ks = cc in ap length (sym same)
kinds-counted (x ∷ es) names ks e = go (kind (expr_tree x) names) (kinds (listed (map expr_tree es)) names) (λ ls h. kinds-counted es names ls h) e
  where
    go : (o : Judged Kind) (p : Judged (List Kind)) → ((ls : List Kind) → p ≡ Fine ls → length ls ≡ length es) → and_so o (λ k. and_so p (λ ls. Fine (k ∷ ls))) ≡ Fine ks → length ks ≡ suc (length es)
    go (Fine k) (Fine ls) ih f = let same : k ∷ ls ≡ ks = cc in ap length (sym same) ∙ ap suc (ih ls refl)
    go (Fine k) (Broken rule at) ih f = cc
    go (Broken rule at) p ih f = cc

-- a list of like and same kinds
pub list_goes : (items others : List Expr) (first : Expr) (names : Names) (k : Kind) (fit : Fit) (at : ℕ) → items ≡ first ∷ others → kind (expr_tree first) names ≡ Fine k
    → and_so (kinds (listed (map expr_tree others)) names) (λ ks. Fine (fit_of k ks)) ≡ Fine fit → fit.like ≡ true → fit.same ≡ true
    → and_so (kinds (listed (map expr_tree items)) names) (λ ks. list_kind ks at) ≡ list_of_kind (length items) k at
list_goes items others first names k fit at e f g like same =
    ap (λ xs. and_so (kinds (listed (map expr_tree xs)) names) (λ ks. list_kind ks at)) e
    ∙ ap (λ o. and_so (and_so o (λ l. and_so (kinds (listed (map expr_tree others)) names) (λ ks. Fine (l ∷ ks)))) (λ ks. list_kind ks at)) f
    ∙ go (kinds (listed (map expr_tree others)) names) (λ ks h. kinds-counted others names ks h) g
    ∙ ap (λ xs. list_of_kind (length xs) k at) (sym e)
  where
    go : (o : Judged (List Kind)) → ((ks : List Kind) → o ≡ Fine ks → length ks ≡ length others) → and_so o (λ ks. Fine (fit_of k ks)) ≡ Fine fit
        → and_so (and_so o (λ ks. Fine (k ∷ ks))) (λ ks. list_kind ks at) ≡ list_of_kind (suc (length others)) k at
    go (Fine ks) counted h =
        let is : fit_of k ks ≡ fit = cc in
        let alike : all_like k ks ≡ true = ap (λ f. f.like) is ∙ like in
        let alone : all_same k ks ≡ true = ap (λ f. f.same) is ∙ same in
        ap (λ b. if not b then Broken wrong_kind at else if not (all_same k ks) then Broken wrong_length at else list_of_kind (suc (length ks)) k at) alike
        ∙ ap (λ b. if not b then Broken wrong_length at else list_of_kind (suc (length ks)) k at) alone
        ∙ ap (λ n. list_of_kind (suc n) k at) (counted ks refl)
    go (Broken rule at) counted h = cc

-- ---- arguments and formals

-- the arguments from a place on, and the formals from there on
abbrev pub fit_from : ℕ → List Expr → List Local → Names → Judged Bool
fit_from n es fs names = arguments_fit (listed (map expr_tree (drop n es))) (drop n fs) names

drop-at : (fs : List Local) (n : ℕ) (f : Local) → slice_get fs n ≡ Some f → drop n fs ≡ f ∷ drop (suc n) fs
drop-at [] n f e = cc
drop-at (x ∷ fs) zero f e = let same : x ≡ f = cc in ap (λ y. y ∷ fs) same
drop-at (x ∷ fs) (suc n) f e = drop-at fs n f e

drop-past : (fs : List Local) (n : ℕ) → slice_get fs n ≡ None → (drop n fs ≡ []) × (drop (suc n) fs ≡ [])
drop-past [] zero e = (refl, refl)
drop-past [] (suc n) e = (refl, refl)
drop-past (x ∷ fs) zero e = cc
drop-past (x ∷ fs) (suc n) e = drop-past fs n e

-- one argument, with its formal if there is one
abbrev first_fits : Tree → Option Local → Names → (Unit {0} → Judged Bool) → Judged Bool
first_fits e o names rest = and_so (kind e names) (λ k. and_so (formal_fits o k (begins e)) rest)

with-formal : (e : Tree) (es : Tree) (o : Option Local) (here rest : List Local) (names : Names) (w : Bool) → ((f : Local) → o ≡ Some f → here ≡ f ∷ rest) → (o ≡ None → (here ≡ []) × (rest ≡ []))
    → and_so (arguments_fit (tree.cons e es) here names) (λ b. Fine w) ≡ first_fits e o names (λ u. and_so (arguments_fit es rest names) (λ b. Fine w))
with-formal e es (Some f) here rest names w some none =
    ap (λ fs. and_so (arguments_fit (tree.cons e es) fs names) (λ b. Fine w)) (some f refl)
    ∙ so_so (kind e names) (λ k. and_so (one_kind (kind_of_type f.shape) k (begins e)) (λ l. arguments_fit es rest names)) (λ b. Fine w)
    ∙ so_ext (kind e names) _ _ (λ k.
    so_so (one_kind (kind_of_type f.shape) k (begins e)) (λ l. arguments_fit es rest names) (λ b. Fine w)
    ∙ sym (so_so (one_kind (kind_of_type f.shape) k (begins e)) (λ l. Fine tt) (λ u. and_so (arguments_fit es rest names) (λ b. Fine w))))
with-formal e es None here rest names w some none =
    let past = none refl in
    ap (λ fs. and_so (arguments_fit (tree.cons e es) fs names) (λ b. Fine w)) past.0
    ∙ so_so (kind e names) (λ k. and_so (arguments_fit es [] names) (λ as_many. Fine false)) (λ b. Fine w)
    ∙ so_ext (kind e names) _ _ (λ k. so_so (arguments_fit es [] names) (λ as_many. Fine false) (λ b. Fine w) ∙ ap (λ fs. and_so (arguments_fit es fs names) (λ b. Fine w)) (sym past.1))

fit-open : (es : List Expr) (n : ℕ) (d : Expr) (fs : List Local) (names : Names) (w : Bool) → n < length es
    → and_so (fit_from n es fs names) (λ b. Fine w) ≡ first_fits (expr_tree (get_or es n d)) (slice_get fs n) names (λ u. and_so (fit_from (n + 1) es fs names) (λ b. Fine w))
fit-open es n d fs names w h =
    ap (λ xs. and_so (arguments_fit (listed (map expr_tree xs)) (drop n fs) names) (λ b. Fine w)) (drop-cons es n d h)
    ∙ with-formal (expr_tree (get_or es n d)) (listed (map expr_tree (drop (suc n) es))) (slice_get fs n) (drop n fs) (drop (suc n) fs) names w (λ f e. drop-at fs n f e) (λ e. drop-past fs n e)
    ∙ ap (λ m. first_fits (expr_tree (get_or es n d)) (slice_get fs n) names (λ u. and_so (fit_from m es fs names) (λ b. Fine w))) (sym (add-one n))

pub args_next : (es : List Expr) (n : ℕ) (d : Expr) (fs : List Local) (names : Names) (w : Bool) (k : Kind) (whole : Judged Bool) → n < length es → kind (expr_tree (get_or es n d)) names ≡ Fine k
    → formal_fits (slice_get fs n) k (begins (expr_tree (get_or es n d))) ≡ Fine tt
    → and_so (fit_from n es fs names) (λ b. Fine w) ≡ whole → and_so (fit_from (n + 1) es fs names) (λ b. Fine w) ≡ whole
args_next es n d fs names w k whole h e f g =
    sym (fit-open es n d fs names w h
    ∙ so_fine (kind (expr_tree (get_or es n d)) names) k _ e
    ∙ so_fine (formal_fits (slice_get fs n) k (begins (expr_tree (get_or es n d)))) tt _ f)
    ∙ g

pub args_break : (es : List Expr) (n : ℕ) (d : Expr) (fs : List Local) (names : Names) (w : Bool) (whole : Judged Bool) (f : KindFault) → n < length es → Breaks f (kind (expr_tree (get_or es n d)) names)
    → and_so (fit_from n es fs names) (λ b. Fine w) ≡ whole → Breaks f whole
args_break es n d fs names w whole f h b g =
    subst (λ o. Breaks f o) (sym (fit-open es n d fs names w h) ∙ g) (breaks_on f (kind (expr_tree (get_or es n d)) names) _ b)

pub formals_break : (es : List Expr) (n : ℕ) (d : Expr) (fs : List Local) (names : Names) (w : Bool) (k : Kind) (whole : Judged Bool) (f : KindFault) → n < length es → kind (expr_tree (get_or es n d)) names ≡ Fine k
    → Breaks f (formal_fits (slice_get fs n) k (begins (expr_tree (get_or es n d))))
    → and_so (fit_from n es fs names) (λ b. Fine w) ≡ whole → Breaks f whole
formals_break es n d fs names w k whole f h e b g =
    subst (λ o. Breaks f o) (sym (fit-open es n d fs names w h ∙ so_fine (kind (expr_tree (get_or es n d)) names) k _ e) ∙ g)
    (breaks_on f (formal_fits (slice_get fs n) k (begins (expr_tree (get_or es n d)))) _ b)

-- whether there are as many depends on nothing else
abbrev as_many : List Expr → List Local → Bool
as_many [] [] = true
as_many [] (f ∷ fs) = false
as_many (e ∷ es) [] = false
as_many (e ∷ es) (f ∷ fs) = as_many es fs

then-same : {A : Type 0} (o : Judged A) (g : A → Judged Bool) (w : Bool) → ((a : A) → g a ≡ and_so (g a) (λ b. Fine w)) → and_so o g ≡ and_so (and_so o g) (λ b. Fine w)
then-same (Fine a) g w h = h a
then-same (Broken rule at) g w h = refl

fit-whole : (es : List Expr) (fs : List Local) (names : Names) → arguments_fit (listed (map expr_tree es)) fs names ≡ and_so (arguments_fit (listed (map expr_tree es)) fs names) (λ b. Fine (as_many es fs))
fit-whole [] [] names = refl
fit-whole [] (f ∷ fs) names = refl
fit-whole (e ∷ es) [] names = then-same (kind (expr_tree e) names) _ false (λ k. then-same (arguments_fit (listed (map expr_tree es)) [] names) (λ b. Fine false) false (λ b. refl))
fit-whole (e ∷ es) (f ∷ fs) names =
    then-same (kind (expr_tree e) names) _ (as_many es fs) (λ k. then-same (one_kind (kind_of_type f.shape) k (begins (expr_tree e))) _ (as_many es fs) (λ l. fit-whole es fs names))

suc-equal : (a b : ℕ) → (a == b) ≡ (suc a == suc b)
suc-equal a b = go (a == b) refl
  where
    go : (c : Bool) → (a == b) ≡ c → c ≡ (suc a == suc b)
    go true e = let same : a ≡ b = grind (arith, nat_tests) in let also : suc a ≡ suc b = ap suc same in grind (arith, nat_tests)
    go false e = grind (arith, nat_tests)

counted : (es : List Expr) (fs : List Local) → as_many es fs ≡ (length es == length fs)
counted [] [] = refl
counted [] (f ∷ fs) = grind (arith, nat_tests)
counted (e ∷ es) [] = grind (arith, nat_tests)
counted (e ∷ es) (f ∷ fs) = counted es fs ∙ suc-equal (length es) (length fs)

pub args_start : (es : List Expr) (fs : List Local) (names : Names) → and_so (fit_from 0 es fs names) (λ b. Fine (length es == length fs)) ≡ arguments_fit (listed (map expr_tree es)) fs names
args_start es fs names = sym (fit-whole es fs names ∙ ap (λ w. and_so (arguments_fit (listed (map expr_tree es)) fs names) (λ b. Fine w)) (counted es fs))

none-more : (fs : List Local) (names : Names) (w : Bool) → and_so (arguments_fit tree.nil fs names) (λ b. Fine w) ≡ Fine w
none-more [] names w = refl
none-more (f ∷ fs) names w = refl

pub args_done : (es : List Expr) (n : ℕ) (fs : List Local) (names : Names) (w : Bool) (whole : Judged Bool) → length es ≤ n → and_so (fit_from n es fs names) (λ b. Fine w) ≡ whole → whole ≡ Fine w
args_done es n fs names w whole h g =
    sym g ∙ ap (λ xs. and_so (arguments_fit (listed (map expr_tree xs)) (drop n fs) names) (λ b. Fine w)) (drop_all n es h) ∙ none-more (drop n fs) names w

-- ---- the arguments of types

abbrev pub given_from : ℕ → List TypeArg → Names → Judged (List Argument)
given_from n ts names = type_arguments (listed (map type_arg_tree (drop n ts))) names

argument-first : (a rest : Tree) (names : Names)
    → type_arguments (tree.cons a rest) names ≡ and_so (argument_judged a names) (λ x. and_so (type_arguments rest names) (λ xs. Fine (x ∷ xs)))
argument-first (tree.shape_arg (tree.ident name place) shape) rest names =
    sym (so_so (type_judged shape names) (λ t. Fine (OfShape name t)) (λ x. and_so (type_arguments rest names) (λ xs. Fine (x ∷ xs))))
argument-first (tree.value_arg (tree.ident name place) value) rest names =
    sym (so_so (constant_number (kind value names) value names) (λ z. Fine (OfSize name z)) (λ x. and_so (type_arguments rest names) (λ xs. Fine (x ∷ xs))))
argument-first other rest names = refl

given-open : (ts : List TypeArg) (n : ℕ) (d : TypeArg) (names : Names) → n < length ts
    → given_from n ts names ≡ and_so (argument_judged (type_arg_tree (get_or ts n d)) names) (λ x. and_so (given_from (n + 1) ts names) (λ xs. Fine (x ∷ xs)))
given-open ts n d names h =
    ap (λ xs. type_arguments (listed (map type_arg_tree xs)) names) (drop-cons ts n d h)
    ∙ argument-first (type_arg_tree (get_or ts n d)) (listed (map type_arg_tree (drop (suc n) ts))) names
    ∙ ap (λ m. and_so (argument_judged (type_arg_tree (get_or ts n d)) names) (λ x. and_so (given_from m ts names) (λ xs. Fine (x ∷ xs)))) (sym (add-one n))

pub given_start : (ts : List TypeArg) (names : Names) (items : List Argument) → items ≡ [] → and_so (given_from 0 ts names) (λ xs. Fine (items ++ xs)) ≡ type_arguments (listed (map type_arg_tree ts)) names
given_start ts names items e = ap (λ ys. and_so (given_from 0 ts names) (λ xs. Fine (ys ++ xs))) e ∙ go (given_from 0 ts names)
  where
    go : (o : Judged (List Argument)) → and_so o (λ xs. Fine xs) ≡ o
    go (Fine xs) = refl
    go (Broken rule at) = refl

pub given_next : (ts : List TypeArg) (n : ℕ) (d : TypeArg) (names : Names) (items news : List Argument) (x : Argument) (whole : Judged (List Argument)) → n < length ts
    → argument_judged (type_arg_tree (get_or ts n d)) names ≡ Fine x → news ≡ items ++ x ∷ []
    → and_so (given_from n ts names) (λ xs. Fine (items ++ xs)) ≡ whole → and_so (given_from (n + 1) ts names) (λ xs. Fine (news ++ xs)) ≡ whole
given_next ts n d names items news x whole h e f g =
    sym (ap (λ o. and_so o (λ xs. Fine (items ++ xs))) (given-open ts n d names h ∙ so_fine (argument_judged (type_arg_tree (get_or ts n d)) names) x _ e)
    ∙ so_so (given_from (n + 1) ts names) (λ xs. Fine (x ∷ xs)) (λ xs. Fine (items ++ xs))
    ∙ so_ext (given_from (n + 1) ts names) _ _ (λ xs. ap Fine (sym (ap (λ ys. ys ++ xs) f ∙ simp append_assoc refl))))
    ∙ g

pub given_breaks : (ts : List TypeArg) (n : ℕ) (d : TypeArg) (names : Names) (items : List Argument) (whole : Judged (List Argument)) (f : KindFault) → n < length ts → Breaks f (argument_judged (type_arg_tree (get_or ts n d)) names)
    → and_so (given_from n ts names) (λ xs. Fine (items ++ xs)) ≡ whole → Breaks f whole
given_breaks ts n d names items whole f h b g =
    subst (λ o. Breaks f o) g (breaks_on f (given_from n ts names) _ (subst (λ o. Breaks f o) (sym (given-open ts n d names h)) (breaks_on f (argument_judged (type_arg_tree (get_or ts n d)) names) _ b)))

pub given_done : (ts : List TypeArg) (n : ℕ) (names : Names) (items : List Argument) (whole : Judged (List Argument)) → length ts ≤ n
    → and_so (given_from n ts names) (λ xs. Fine (items ++ xs)) ≡ whole → whole ≡ Fine items
given_done ts n names items whole h g =
    sym g ∙ ap (λ xs. and_so (type_arguments (listed (map type_arg_tree xs)) names) (λ ys. Fine (items ++ ys))) (drop_all n ts h) ∙ ap Fine (append-nil items)

-- ---- sizes

pub arg_size : (ts : List TypeArg) (n : ℕ) (d : TypeArg) → n < length ts → size (type_arg_tree (get_or ts n d)) < size (listed (map type_arg_tree ts))
arg_size [] n d h = absurd (omega arith)
arg_size (a ∷ ts) zero d h = omega arith
arg_size (a ∷ ts) (suc n) d h = let l = arg_size ts n d (omega arith) in omega arith

-- a formal at a place
pub formal_at : (o : Option (Bor BoundLocal)) (fs : List BoundLocal) (n : ℕ) → option_copied o ≡ slice_get fs n → option_map (λ f. local_view f.now) o ≡ slice_get (map local_view fs) n
formal_at o [] n e = none o e
  where
    none : (p : Option (Bor BoundLocal)) → option_copied p ≡ None → option_map (λ f. local_view f.now) p ≡ None
    none None f = refl
    none (Some b) f = cc
formal_at o (x ∷ fs) zero e = one o e
  where
    one : (p : Option (Bor BoundLocal)) → option_copied p ≡ Some x → option_map (λ f. local_view f.now) p ≡ Some (local_view x)
    one None f = cc
    one (Some b) f = let same : b.now ≡ x = cc in ap (λ y. Some (local_view y)) same
formal_at o (x ∷ fs) (suc n) e = formal_at o fs n e
