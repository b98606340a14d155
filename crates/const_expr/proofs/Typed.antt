-- Types as what a number is stored in, and ranges over them.
use Rattle.std.proofs.Common.{◌≡◌, ℕ, ℤ, Bool, true, false, List, ◌∷◌, map, refl, sym, ap, ◌∙◌, subst, rules}
use Rattle.std.specs.Prelude.{Option, None, Some, if◌then◌else◌, ◌&&◌, nat_le, codes, string_bytes}
use Rattle.std.specs.Str.{bytes_eq}
use Rattle.rvc_base.specs.Turns.{max_turns}
use Rattle.rvc_base.specs.Width.{max_size}
use Rattle.rvc_base.specs.declared.scalar.Scalar.{Scalar}
use Rattle.rvc_base.specs.declared.scalar.Scalar.TheVariants as scalar
use Rattle.cal_model.specs.Value.{Shape, Single, Value, Num, Values}
use Rattle.cal_model.specs.Outcome.{Out, Gives, Traps, Lacks, Clashes, and_then, needed, alone}
use Rattle.cal_ast.specs.Tree as tree
use Rattle.cal_ast.specs.Tree.{Tree, listed}
use Rattle.cal_ast.specs.View.{expr_tree, ident_tree, type_arg_tree, type_tree}
use Rattle.cal_ast.specs.declared.ident.Ident.{Ident}
use Rattle.cal_ast.specs.declared.expr.Expr.{Expr}
use Rattle.cal_ast.specs.declared.expr.TypeArg.{TypeArg}
use Rattle.cal_ast.specs.declared.expr.TypeArg as forms
use Rattle.cal_ast.specs.declared.expr.ExprForm as exprs
use Rattle.cal_ast.specs.declared.expr.TypeExpr.{TypeExpr, out-TypeExpr}
use Rattle.cal_model.specs.Env.{Env}
use Rattle.cal_model.specs.Expression.{Calls, Given, args_given, bits, eval, list_of, range_of, size_of_value, type_meant, type_named}
use Rattle.const_env.specs.Meant.{Erased, erased, kept_in, kept_bits, kept_list, kept_named}
use Rattle.const_env.specs.Outcome.{Stops}
use Rattle.const_env.specs.declared.stop.EvalError.{EvalError}
use Rattle.const_expr.proofs.Going.{stops_in, stops_on}

-- the single type of what is meant
abbrev pub kept : Out Shape → Out (Option Scalar)
kept o = and_then o (λ shape k. Gives (kept_in shape) k)

one_bits : (b : Bool) (s : Scalar) (h : ℕ) → kept (needed (if b then Some (Single s) else None) h) ≡ needed (if b then Some (Some s) else None) h
one_bits true s h = refl
one_bits false s h = refl

bits_kept : (o : Option ℕ) (f : ℕ → Scalar) (h : ℕ) → kept (needed (bits o (λ n. Single (f n))) h) ≡ needed (kept_bits o f) h
bits_kept None f h = refl
bits_kept (Some n) f h = one_bits (nat_le 1 n && nat_le n max_size) (f n) h

lists_kept : (items : Option Shape) (size : Option ℕ) (h : ℕ) → kept (needed (list_of (record { items = items; size = size })) h) ≡ needed (kept_list (erased (record { items = items; size = size }))) h
lists_kept None size h = refl
lists_kept (Some t) None h = refl
lists_kept (Some t) (Some n) h = refl

by_name : (a b c d : Bool) (given : Given) (h : ℕ)
    → kept (needed (if a then Some (Single scalar.Bool) else if b then bits given.size (λ n. Single (scalar.Int n)) else if c then bits given.size (λ n. Single (scalar.Uint n)) else if d then list_of given else None) h)
    ≡ needed (if a then Some (Some scalar.Bool) else if b then kept_bits given.size (λ n. scalar.Int n) else if c then kept_bits given.size (λ n. scalar.Uint n) else if d then kept_list (erased given) else None) h
by_name true b c d given h = refl
by_name false true c d given h = bits_kept given.size (λ n. scalar.Int n) h
by_name false false true d given h = bits_kept given.size (λ n. scalar.Uint n) h
by_name false false false true given h = lists_kept given.items given.size h
by_name false false false false given h = refl

pub named_kept : (name : List ℕ) (given : Given) (h : ℕ) → kept (needed (type_named name given) h) ≡ needed (kept_named name (erased given)) h
named_kept name given h = by_name (bytes_eq name (codes "bool")) (bytes_eq name (codes "int")) (bytes_eq name (codes "uint")) (bytes_eq name (codes "List")) given h

-- the type of a name, once its arguments are given
pub type_on : (o : Out Given) (g : Erased) (m : ℕ) (name : List ℕ) → and_then o (λ given k. Gives (erased given) k) ≡ Gives g m
    → kept (and_then o (λ given k. needed (type_named name given) k)) ≡ needed (kept_named name g) m
type_on (Gives given h) g m name e =
    let is : erased given ≡ g = cc in
    let at : h ≡ m = cc in
    named_kept name given h ∙ ap (λ x. needed (kept_named name x) h) is ∙ ap (λ k. needed (kept_named name g) k) at
type_on (Traps c) g m name e = cc
type_on Lacks g m name e = cc
type_on Clashes g m name e = cc

-- ---- the arguments of a type

-- what is given, without the type of items
abbrev pub erase : Out Given → Out Erased
erase o = and_then o (λ given k. Gives (erased given) k)

-- a type among them
abbrev with_items : (ℕ → Out Given) → Shape → ℕ → Out Given
with_items rest t m = and_then (rest m) (λ given k. Gives (record given { items = Some t }) k)

-- .. or a size
abbrev with_size : (ℕ → Out Given) → Value → ℕ → Out Given
with_size rest v m = and_then (rest m) (λ given k. Gives (record given { size = size_of_value v }) k)

items_more : (o : Out Given) (g : Erased) (t : Shape) (left : ℕ) → erase o ≡ Gives g left → erase (and_then o (λ given k. Gives (record given { items = Some t }) k)) ≡ Gives (record { has_items = true; size = g.size }) left
items_more (Gives given h) g t left e =
    let is : erased given ≡ g = cc in
    let at : h ≡ left = cc in
    ap (λ x. Gives (record { has_items = true; size = x.size }) h) is ∙ ap (λ k. Gives (record { has_items = true; size = g.size }) k) at
items_more (Traps c) g t left e = cc
items_more Lacks g t left e = cc
items_more Clashes g t left e = cc

size_more : (o : Out Given) (g : Erased) (v : Value) (left : ℕ) → erase o ≡ Gives g left → erase (and_then o (λ given k. Gives (record given { size = size_of_value v }) k)) ≡ Gives (record { has_items = g.has_items; size = size_of_value v }) left
size_more (Gives given h) g v left e =
    let is : erased given ≡ g = cc in
    let at : h ≡ left = cc in
    ap (λ x. Gives (record { has_items = x.has_items; size = size_of_value v }) h) is ∙ ap (λ k. Gives (record { has_items = g.has_items; size = size_of_value v }) k) at
size_more (Traps c) g v left e = cc
size_more Lacks g v left e = cc
size_more Clashes g v left e = cc

-- a type that is meant, with as many turns left
pub with_type : {B : Type 0} (o : Out Shape) (t : Option Scalar) (left : ℕ) (f : Shape → ℕ → Out B) (P : Out B → Type 0) → kept o ≡ Gives t left → ((s : Shape) → P (f s left)) → P (and_then o f)
with_type (Gives s h) t left f P e each =
    let at : h ≡ left = cc in
    subst (λ n. P (f s n)) (sym at) (each s)
with_type (Traps c) t left f P e each = cc
with_type Lacks t left f P e each = cc
with_type Clashes t left f P e each = cc

args_open : (args : List TypeArg) (first : TypeArg) (others : List TypeArg) (part : Tree) (calls : Calls) (env : Env) (left : ℕ) → args ≡ first ∷ others → type_arg_tree first ≡ part
    → args_given (listed (map type_arg_tree args)) calls env left ≡ args_given (tree.cons part (listed (map type_arg_tree others))) calls env left
args_open args first others part calls env left e f =
    ap (λ xs. args_given (listed (map type_arg_tree xs)) calls env left) e ∙ ap (λ p. args_given (tree.cons p (listed (map type_arg_tree others))) calls env left) f

shape_is : (name : Ident) (shape : TypeExpr) → type_arg_tree (forms.Shape name shape) ≡ tree.shape_arg (ident_tree name) (type_tree shape)
shape_is name shape = search (rules, exprs.the_lemmas)

value_is : (name : Ident) (value : Expr) → type_arg_tree (forms.Value name value) ≡ tree.value_arg (ident_tree name) (expr_tree value)
value_is name value = search (rules, exprs.the_lemmas)

-- the first argument is a type
shape_first : (args : List TypeArg) (first : TypeArg) (others : List TypeArg) (name : Ident) (shape : TypeExpr) (calls : Calls) (env : Env) (left : ℕ) → args ≡ first ∷ others → first ≡ forms.Shape name shape
    → args_given (listed (map type_arg_tree args)) calls env left ≡ and_then (type_meant (type_tree shape) calls env left) (with_items (λ m. args_given (listed (map type_arg_tree others)) calls env m))
shape_first args first others name shape calls env left e f = args_open args first others (tree.shape_arg (ident_tree name) (type_tree shape)) calls env left e (ap type_arg_tree f ∙ shape_is name shape)

-- .. or a size
value_first : (args : List TypeArg) (first : TypeArg) (others : List TypeArg) (name : Ident) (value : Expr) (calls : Calls) (env : Env) (left : ℕ) → args ≡ first ∷ others → first ≡ forms.Value name value
    → args_given (listed (map type_arg_tree args)) calls env left ≡ and_then (alone (eval (expr_tree value) calls env max_turns) left) (with_size (λ m. args_given (listed (map type_arg_tree others)) calls env m))
value_first args first others name value calls env left e f = args_open args first others (tree.value_arg (ident_tree name) (expr_tree value)) calls env left e (ap type_arg_tree f ∙ value_is name value)

pub shape_stops : (args : List TypeArg) (first : TypeArg) (others : List TypeArg) (name : Ident) (shape : TypeExpr) (calls : Calls) (env : Env) (left : ℕ) (s : EvalError) → args ≡ first ∷ others → first ≡ forms.Shape name shape
    → Stops s (kept (type_meant (type_tree shape) calls env left)) → Stops s (erase (args_given (listed (map type_arg_tree args)) calls env left))
shape_stops args first others name shape calls env left s e f h =
    subst (λ o. Stops s (erase o)) (sym (shape_first args first others name shape calls env left e f))
    (stops_on s (and_then (type_meant (type_tree shape) calls env left) (with_items (λ m. args_given (listed (map type_arg_tree others)) calls env m))) (λ given k. Gives (erased given) k)
    (stops_on s (type_meant (type_tree shape) calls env left) (with_items (λ m. args_given (listed (map type_arg_tree others)) calls env m)) (stops_in s (type_meant (type_tree shape) calls env left) kept_in h)))

pub after_shape_stops : (args : List TypeArg) (first : TypeArg) (others : List TypeArg) (name : Ident) (shape : TypeExpr) (calls : Calls) (env : Env) (t : Option Scalar) (left : ℕ) (s : EvalError) → args ≡ first ∷ others → first ≡ forms.Shape name shape
    → kept (type_meant (type_tree shape) calls env left) ≡ Gives t left → Stops s (erase (args_given (listed (map type_arg_tree others)) calls env left)) → Stops s (erase (args_given (listed (map type_arg_tree args)) calls env left))
after_shape_stops args first others name shape calls env t left s e f g h =
    subst (λ o. Stops s (erase o)) (sym (shape_first args first others name shape calls env left e f))
    (with_type (type_meant (type_tree shape) calls env left) t left (with_items (λ m. args_given (listed (map type_arg_tree others)) calls env m)) (λ o. Stops s (erase o)) g
    (λ u. stops_on s (with_items (λ m. args_given (listed (map type_arg_tree others)) calls env m) u left) (λ given k. Gives (erased given) k)
    (stops_on s (args_given (listed (map type_arg_tree others)) calls env left) (λ given k. Gives (record given { items = Some u }) k) (stops_in s (args_given (listed (map type_arg_tree others)) calls env left) erased h))))

pub shape_given : (args : List TypeArg) (first : TypeArg) (others : List TypeArg) (name : Ident) (shape : TypeExpr) (calls : Calls) (env : Env) (t : Option Scalar) (g : Erased) (left : ℕ) → args ≡ first ∷ others → first ≡ forms.Shape name shape
    → kept (type_meant (type_tree shape) calls env left) ≡ Gives t left → erase (args_given (listed (map type_arg_tree others)) calls env left) ≡ Gives g left
    → erase (args_given (listed (map type_arg_tree args)) calls env left) ≡ Gives (record { has_items = true; size = g.size }) left
shape_given args first others name shape calls env t g left e f h rest =
    ap erase (shape_first args first others name shape calls env left e f)
    ∙ with_type (type_meant (type_tree shape) calls env left) t left (with_items (λ m. args_given (listed (map type_arg_tree others)) calls env m)) (λ o. erase o ≡ Gives (record { has_items = true; size = g.size }) left) h
    (λ u. items_more (args_given (listed (map type_arg_tree others)) calls env left) g u left rest)

pub value_stops : (args : List TypeArg) (first : TypeArg) (others : List TypeArg) (name : Ident) (value : Expr) (calls : Calls) (env : Env) (left : ℕ) (s : EvalError) → args ≡ first ∷ others → first ≡ forms.Value name value
    → Stops s (alone (eval (expr_tree value) calls env max_turns) left) → Stops s (erase (args_given (listed (map type_arg_tree args)) calls env left))
value_stops args first others name value calls env left s e f h =
    subst (λ o. Stops s (erase o)) (sym (value_first args first others name value calls env left e f))
    (stops_on s (and_then (alone (eval (expr_tree value) calls env max_turns) left) (with_size (λ m. args_given (listed (map type_arg_tree others)) calls env m))) (λ given k. Gives (erased given) k)
    (stops_on s (alone (eval (expr_tree value) calls env max_turns) left) (with_size (λ m. args_given (listed (map type_arg_tree others)) calls env m)) h))

pub after_value_stops : (args : List TypeArg) (first : TypeArg) (others : List TypeArg) (name : Ident) (value : Expr) (calls : Calls) (env : Env) (v : Value) (left : ℕ) (s : EvalError) → args ≡ first ∷ others → first ≡ forms.Value name value
    → alone (eval (expr_tree value) calls env max_turns) left ≡ Gives v left → Stops s (erase (args_given (listed (map type_arg_tree others)) calls env left)) → Stops s (erase (args_given (listed (map type_arg_tree args)) calls env left))
after_value_stops args first others name value calls env v left s e f g h =
    subst (λ o. Stops s (erase o)) (sym (value_first args first others name value calls env left e f ∙ ap (λ x. and_then x (with_size (λ m. args_given (listed (map type_arg_tree others)) calls env m))) g))
    (stops_on s (with_size (λ m. args_given (listed (map type_arg_tree others)) calls env m) v left) (λ given k. Gives (erased given) k)
    (stops_on s (args_given (listed (map type_arg_tree others)) calls env left) (λ given k. Gives (record given { size = size_of_value v }) k) (stops_in s (args_given (listed (map type_arg_tree others)) calls env left) erased h)))

pub value_given : (args : List TypeArg) (first : TypeArg) (others : List TypeArg) (name : Ident) (value : Expr) (calls : Calls) (env : Env) (v : Value) (g : Erased) (left : ℕ) → args ≡ first ∷ others → first ≡ forms.Value name value
    → alone (eval (expr_tree value) calls env max_turns) left ≡ Gives v left → erase (args_given (listed (map type_arg_tree others)) calls env left) ≡ Gives g left
    → erase (args_given (listed (map type_arg_tree args)) calls env left) ≡ Gives (record { has_items = g.has_items; size = size_of_value v }) left
value_given args first others name value calls env v g left e f h rest =
    ap erase (value_first args first others name value calls env left e f ∙ ap (λ x. and_then x (with_size (λ m. args_given (listed (map type_arg_tree others)) calls env m))) h)
    ∙ size_more (args_given (listed (map type_arg_tree others)) calls env left) g v left rest

-- ---- the type that is meant

type_is : (t : TypeExpr) → type_tree t ≡ tree.type_of (ident_tree (out-TypeExpr t).name) (listed (map type_arg_tree (out-TypeExpr t).args.items)) (out-TypeExpr t).at
type_is t = search (rules, exprs.the_lemmas)

type_open : (t : TypeExpr) (calls : Calls) (env : Env) (left : ℕ)
    → type_meant (type_tree t) calls env left ≡ and_then (args_given (listed (map type_arg_tree (out-TypeExpr t).args.items)) calls env left) (λ given m. needed (type_named (string_bytes (out-TypeExpr t).name.text) given) m)
type_open t calls env left = ap (λ x. type_meant x calls env left) (type_is t)

pub meant_stops : (t : TypeExpr) (args : List TypeArg) (calls : Calls) (env : Env) (left : ℕ) (s : EvalError) → args ≡ (out-TypeExpr t).args.items
    → Stops s (erase (args_given (listed (map type_arg_tree args)) calls env left)) → Stops s (kept (type_meant (type_tree t) calls env left))
meant_stops t args calls env left s e h =
    subst (λ o. Stops s (kept o)) (sym (type_open t calls env left))
    (stops_on s (and_then (args_given (listed (map type_arg_tree (out-TypeExpr t).args.items)) calls env left) (λ given m. needed (type_named (string_bytes (out-TypeExpr t).name.text) given) m)) (λ shape k. Gives (kept_in shape) k)
    (stops_on s (args_given (listed (map type_arg_tree (out-TypeExpr t).args.items)) calls env left) (λ given m. needed (type_named (string_bytes (out-TypeExpr t).name.text) given) m)
    (stops_in s (args_given (listed (map type_arg_tree (out-TypeExpr t).args.items)) calls env left) erased (subst (λ xs. Stops s (erase (args_given (listed (map type_arg_tree xs)) calls env left))) e h))))

pub meant_gives : (t : TypeExpr) (args : List TypeArg) (name : List ℕ) (g : Erased) (calls : Calls) (env : Env) (left : ℕ) → args ≡ (out-TypeExpr t).args.items → name ≡ string_bytes (out-TypeExpr t).name.text
    → erase (args_given (listed (map type_arg_tree args)) calls env left) ≡ Gives g left
    → kept (type_meant (type_tree t) calls env left) ≡ needed (kept_named name g) left
meant_gives t args name g calls env left e f h =
    ap kept (type_open t calls env left)
    ∙ type_on (args_given (listed (map type_arg_tree (out-TypeExpr t).args.items)) calls env left) g left (string_bytes (out-TypeExpr t).name.text) (ap (λ xs. erase (args_given (listed (map type_arg_tree xs)) calls env left)) (sym e) ∙ h)
    ∙ ap (λ n. needed (kept_named n g) left) (sym f)

-- ---- ranges

pub ranged : (o : Out Shape) (p q : Out Value) (F : Shape → ℤ → ℤ → ℕ → Out Values) (G : Option Scalar → ℤ → ℤ → ℕ → Out Values) (t : Option Scalar) (low high : ℤ) (left : ℕ)
    → ((s : Shape) → F s low high left ≡ G (kept_in s) low high left)
    → kept o ≡ Gives t left → alone p left ≡ Gives (Num low) left → alone q left ≡ Gives (Num high) left
    → and_then o (λ s h. and_then (alone p h) (λ a j. and_then (alone q j) (λ b k. range_of a b (λ x y. F s x y k)))) ≡ G t low high left
ranged (Gives s h) p q F G t low high left same e f g =
    let is : kept_in s ≡ t = cc in
    let at : h ≡ left = cc in
    ap (λ n. and_then (alone p n) (λ a j. and_then (alone q j) (λ b k. range_of a b (λ x y. F s x y k)))) at
    ∙ ap (λ x. and_then x (λ a j. and_then (alone q j) (λ b k. range_of a b (λ x y. F s x y k)))) f
    ∙ ap (λ x. and_then x (λ b k. range_of (Num low) b (λ x y. F s x y k))) g
    ∙ same s ∙ ap (λ u. G u low high left) is
ranged (Traps c) p q F G t low high left same e f g = cc
ranged Lacks p q F G t low high left same e f g = cc
ranged Clashes p q F G t low high left same e f g = cc
