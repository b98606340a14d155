-- What the generators of a comprehension give, one generator off.
use Rattle.std.proofs.Common.{◌≡◌, ℕ, ℤ, List, ◌∷◌, false, map, refl, sym, ap, ◌∙◌, subst, rules}
use Rattle.std.specs.Prelude.{Option, None, Some}
use Rattle.rvc_base.specs.Turns.{max_turns}
use Rattle.rvc_base.specs.declared.scalar.Scalar.{Scalar}
use Rattle.cal_ast.specs.Tree as tree
use Rattle.cal_ast.specs.Tree.{Tree, listed}
use Rattle.cal_ast.specs.View.{expr_tree, gen_tree, ident_tree, type_tree}
use Rattle.cal_ast.specs.declared.expr.Gen.{Gen, out-Gen}
use Rattle.cal_ast.specs.declared.expr.ExprForm as forms
use Rattle.cal_model.specs.Value.{Shape, Single, Many, Value, Num, Truth, Items, Values, joined, stored}
use Rattle.cal_model.specs.Outcome.{Out, Gives, Clashes, and_then, alone}
use Rattle.cal_model.specs.Env.{Env, variable, with_local}
use Rattle.cal_model.specs.Expression.{Calls, each_from, elements, eval, range_of, span, type_meant}
use Rattle.const_env.specs.Meant.{counted, counter_var, kept_in, name_of, number_in}
use Rattle.const_env.specs.Outcome.{Stops}
use Rattle.const_env.specs.declared.stop.EvalError.{EvalError}
use Rattle.const_expr.proofs.Going.{stops_in, stops_on}
use Rattle.const_expr.proofs.Typed.{kept, ranged, with_type}

pub gen_is : (g : Gen) → gen_tree g ≡ tree.gen (type_tree (out-Gen g).shape) (ident_tree (out-Gen g).name) (expr_tree (out-Gen g).from) (expr_tree (out-Gen g).to) (out-Gen g).at
gen_is g = search (rules, forms.the_lemmas)

-- ---- by the range's type, and its ends

-- the elements of the generators inside, for each number
abbrev pub each_of : Tree → (Env → ℕ → Out Value) → Calls → Env → List ℕ → Option Scalar → ℤ → ℤ → ℕ → Out Values
each_of gens item calls env name t low high left = each_from (span low high) low (λ i m. elements gens item calls (with_local (counter_var name (counted t i)) env) m) left

-- the same of what is meant
abbrev each_in : Tree → (Env → ℕ → Out Value) → Calls → Env → List ℕ → Shape → ℤ → ℤ → ℕ → Out Values
each_in gens item calls env name t low high left = each_from (span low high) low (λ i m. elements gens item calls (with_local (variable name t false (stored t (Num i))) env) m) left

same_each : (s : Shape) (gens : Tree) (item : Env → ℕ → Out Value) (calls : Calls) (env : Env) (name : List ℕ) (low high : ℤ) (left : ℕ) → each_in gens item calls env name s low high left ≡ each_of gens item calls env name (kept_in s) low high left
same_each (Single t) gens item calls env name low high left = refl
same_each (Many n items) gens item calls env name low high left = refl

-- what the first generator gives
abbrev first_gives : Out Shape → Out Value → Out Value → (Shape → ℤ → ℤ → ℕ → Out Values) → Out Values
first_gives o p q F = and_then o (λ s h. and_then (alone p h) (λ a j. and_then (alone q j) (λ b k. range_of a b (λ x y. F s x y k))))

opened : (gens : List Gen) (first : Gen) (others : List Gen) (item : Env → ℕ → Out Value) (calls : Calls) (env : Env) (left : ℕ) → gens ≡ first ∷ others
    → elements (listed (map gen_tree gens)) item calls env left
    ≡ first_gives (type_meant (type_tree (out-Gen first).shape) calls env left) (eval (expr_tree (out-Gen first).from) calls env max_turns) (eval (expr_tree (out-Gen first).to) calls env max_turns) (each_in (listed (map gen_tree others)) item calls env (name_of first))
opened gens first others item calls env left e =
    ap (λ gs. elements (listed (map gen_tree gs)) item calls env left) e
    ∙ ap (λ g. elements (tree.cons g (listed (map gen_tree others))) item calls env left) (gen_is first)

pub gens_give : (gens : List Gen) (first : Gen) (others : List Gen) (item : Env → ℕ → Out Value) (calls : Calls) (env : Env) (t : Option Scalar) (low high : ℤ) (left : ℕ) → gens ≡ first ∷ others
    → kept (type_meant (type_tree (out-Gen first).shape) calls env left) ≡ Gives t left
    → alone (eval (expr_tree (out-Gen first).from) calls env max_turns) left ≡ Gives (Num low) left
    → alone (eval (expr_tree (out-Gen first).to) calls env max_turns) left ≡ Gives (Num high) left
    → elements (listed (map gen_tree gens)) item calls env left ≡ each_of (listed (map gen_tree others)) item calls env (name_of first) t low high left
gens_give gens first others item calls env t low high left e f g h =
    opened gens first others item calls env left e
    ∙ ranged (type_meant (type_tree (out-Gen first).shape) calls env left) (eval (expr_tree (out-Gen first).from) calls env max_turns) (eval (expr_tree (out-Gen first).to) calls env max_turns) (each_in (listed (map gen_tree others)) item calls env (name_of first)) (each_of (listed (map gen_tree others)) item calls env (name_of first)) t low high left
    (λ s. same_each s (listed (map gen_tree others)) item calls env (name_of first) low high left) f g h

-- .. over a range of that type, low and high
pub gens_range : (gens : List Gen) (first : Gen) (others : List Gen) (item : Env → ℕ → Out Value) (calls : Calls) (env : Env) (t was : Option Scalar) (low from high to : ℤ) (left : ℕ) → gens ≡ first ∷ others
    → kept (type_meant (type_tree (out-Gen first).shape) calls env left) ≡ Gives was left
    → alone (eval (expr_tree (out-Gen first).from) calls env max_turns) left ≡ Gives (Num from) left
    → alone (eval (expr_tree (out-Gen first).to) calls env max_turns) left ≡ Gives (Num to) left
    → t ≡ was → low ≡ from → high ≡ to
    → each_of (listed (map gen_tree others)) item calls env (name_of first) t low high left ≡ elements (listed (map gen_tree gens)) item calls env left
gens_range gens first others item calls env t was low from high to left e f g h is_t is_low is_high =
    ap (λ u. each_of (listed (map gen_tree others)) item calls env (name_of first) u low high left) is_t
    ∙ ap (λ a. each_of (listed (map gen_tree others)) item calls env (name_of first) was a high left) is_low
    ∙ ap (λ b. each_of (listed (map gen_tree others)) item calls env (name_of first) was from b left) is_high
    ∙ sym (gens_give gens first others item calls env was from to left e f g h)

-- ---- how they end

-- the type ends it
pub gens_stop_type : (gens : List Gen) (first : Gen) (others : List Gen) (item : Env → ℕ → Out Value) (calls : Calls) (env : Env) (left : ℕ) (done : Values) (s : EvalError) → gens ≡ first ∷ others
    → Stops s (kept (type_meant (type_tree (out-Gen first).shape) calls env left))
    → Stops s (and_then (elements (listed (map gen_tree gens)) item calls env left) (λ vs k. Gives (joined done vs) k))
gens_stop_type gens first others item calls env left done s e h =
    subst (λ o. Stops s (and_then o (λ vs k. Gives (joined done vs) k))) (sym (opened gens first others item calls env left e))
    (stops_on s (first_gives (type_meant (type_tree (out-Gen first).shape) calls env left) (eval (expr_tree (out-Gen first).from) calls env max_turns) (eval (expr_tree (out-Gen first).to) calls env max_turns) (each_in (listed (map gen_tree others)) item calls env (name_of first))) (λ vs k. Gives (joined done vs) k)
    (stops_on s (type_meant (type_tree (out-Gen first).shape) calls env left) (λ u h. and_then (alone (eval (expr_tree (out-Gen first).from) calls env max_turns) h) (λ a j. and_then (alone (eval (expr_tree (out-Gen first).to) calls env max_turns) j) (λ b k. range_of a b (λ x y. each_in (listed (map gen_tree others)) item calls env (name_of first) u x y k))))
    (stops_in s (type_meant (type_tree (out-Gen first).shape) calls env left) kept_in h)))

low_stops : (o : Out Shape) (p q : Out Value) (F : Shape → ℤ → ℤ → ℕ → Out Values) (t : Option Scalar) (left : ℕ) (s : EvalError) → kept o ≡ Gives t left → Stops s (alone p left) → Stops s (first_gives o p q F)
low_stops o p q F t left s e h =
    with_type o t left (λ u h. and_then (alone p h) (λ a j. and_then (alone q j) (λ b k. range_of a b (λ x y. F u x y k)))) (Stops s) e
    (λ u. stops_on s (alone p left) (λ a j. and_then (alone q j) (λ b k. range_of a b (λ x y. F u x y k))) h)

-- .. or the lower end
pub gens_stop_low : (gens : List Gen) (first : Gen) (others : List Gen) (item : Env → ℕ → Out Value) (calls : Calls) (env : Env) (t : Option Scalar) (left : ℕ) (done : Values) (s : EvalError) → gens ≡ first ∷ others
    → kept (type_meant (type_tree (out-Gen first).shape) calls env left) ≡ Gives t left
    → Stops s (alone (eval (expr_tree (out-Gen first).from) calls env max_turns) left)
    → Stops s (and_then (elements (listed (map gen_tree gens)) item calls env left) (λ vs k. Gives (joined done vs) k))
gens_stop_low gens first others item calls env t left done s e f h =
    subst (λ o. Stops s (and_then o (λ vs k. Gives (joined done vs) k))) (sym (opened gens first others item calls env left e))
    (stops_on s (first_gives (type_meant (type_tree (out-Gen first).shape) calls env left) (eval (expr_tree (out-Gen first).from) calls env max_turns) (eval (expr_tree (out-Gen first).to) calls env max_turns) (each_in (listed (map gen_tree others)) item calls env (name_of first))) (λ vs k. Gives (joined done vs) k)
    (low_stops (type_meant (type_tree (out-Gen first).shape) calls env left) (eval (expr_tree (out-Gen first).from) calls env max_turns) (eval (expr_tree (out-Gen first).to) calls env max_turns) (each_in (listed (map gen_tree others)) item calls env (name_of first)) t left s f h))

high_stops : (o : Out Shape) (p q : Out Value) (F : Shape → ℤ → ℤ → ℕ → Out Values) (t : Option Scalar) (v : Value) (left : ℕ) (s : EvalError) → kept o ≡ Gives t left → alone p left ≡ Gives v left → Stops s (alone q left) → Stops s (first_gives o p q F)
high_stops o p q F t v left s e f h =
    with_type o t left (λ u h. and_then (alone p h) (λ a j. and_then (alone q j) (λ b k. range_of a b (λ x y. F u x y k)))) (Stops s) e
    (λ u. subst (λ x. Stops s (and_then x (λ a j. and_then (alone q j) (λ b k. range_of a b (λ x y. F u x y k))))) (sym f)
    (stops_on s (alone q left) (λ b k. range_of v b (λ x y. F u x y k)) h))

-- .. or the upper one
pub gens_stop_high : (gens : List Gen) (first : Gen) (others : List Gen) (item : Env → ℕ → Out Value) (calls : Calls) (env : Env) (t : Option Scalar) (v : Value) (left : ℕ) (done : Values) (s : EvalError) → gens ≡ first ∷ others
    → kept (type_meant (type_tree (out-Gen first).shape) calls env left) ≡ Gives t left
    → alone (eval (expr_tree (out-Gen first).from) calls env max_turns) left ≡ Gives v left
    → Stops s (alone (eval (expr_tree (out-Gen first).to) calls env max_turns) left)
    → Stops s (and_then (elements (listed (map gen_tree gens)) item calls env left) (λ vs k. Gives (joined done vs) k))
gens_stop_high gens first others item calls env t v left done s e f g h =
    subst (λ o. Stops s (and_then o (λ vs k. Gives (joined done vs) k))) (sym (opened gens first others item calls env left e))
    (stops_on s (first_gives (type_meant (type_tree (out-Gen first).shape) calls env left) (eval (expr_tree (out-Gen first).from) calls env max_turns) (eval (expr_tree (out-Gen first).to) calls env max_turns) (each_in (listed (map gen_tree others)) item calls env (name_of first))) (λ vs k. Gives (joined done vs) k)
    (high_stops (type_meant (type_tree (out-Gen first).shape) calls env left) (eval (expr_tree (out-Gen first).from) calls env max_turns) (eval (expr_tree (out-Gen first).to) calls env max_turns) (each_in (listed (map gen_tree others)) item calls env (name_of first)) t v left s f g h))

-- ---- ends that are no numbers

ends_clash : (o : Out Shape) (p q : Out Value) (F : Shape → ℤ → ℤ → ℕ → Out Values) (t : Option Scalar) (v w : Value) (left : ℕ) → kept o ≡ Gives t left → alone p left ≡ Gives v left → alone q left ≡ Gives w left → ((f : ℤ → ℤ → Out Values) → range_of v w f ≡ Clashes) → first_gives o p q F ≡ Clashes
ends_clash o p q F t v w left e f g h =
    with_type o t left (λ u h. and_then (alone p h) (λ a j. and_then (alone q j) (λ b k. range_of a b (λ x y. F u x y k)))) (λ r. r ≡ Clashes) e
    (λ u. ap (λ x. and_then x (λ a j. and_then (alone q j) (λ b k. range_of a b (λ x y. F u x y k)))) f ∙ ap (λ x. and_then x (λ b k. range_of v b (λ x y. F u x y k))) g ∙ h (λ x y. F u x y left))

pub gens_clash : (gens : List Gen) (first : Gen) (others : List Gen) (item : Env → ℕ → Out Value) (calls : Calls) (env : Env) (t : Option Scalar) (v w : Value) (left : ℕ) (done : Values) → gens ≡ first ∷ others
    → kept (type_meant (type_tree (out-Gen first).shape) calls env left) ≡ Gives t left
    → alone (eval (expr_tree (out-Gen first).from) calls env max_turns) left ≡ Gives v left
    → alone (eval (expr_tree (out-Gen first).to) calls env max_turns) left ≡ Gives w left
    → ((f : ℤ → ℤ → Out Values) → range_of v w f ≡ Clashes)
    → and_then (elements (listed (map gen_tree gens)) item calls env left) (λ vs k. Gives (joined done vs) k) ≡ Clashes
gens_clash gens first others item calls env t v w left done e f g h no_range =
    ap (λ o. and_then o (λ vs k. Gives (joined done vs) k))
    (opened gens first others item calls env left e
    ∙ ends_clash (type_meant (type_tree (out-Gen first).shape) calls env left) (eval (expr_tree (out-Gen first).from) calls env max_turns) (eval (expr_tree (out-Gen first).to) calls env max_turns) (each_in (listed (map gen_tree others)) item calls env (name_of first)) t v w left f g h no_range)

pub low_no_number : (v w : Value) → number_in v ≡ None → (f : ℤ → ℤ → Out Values) → range_of v w f ≡ Clashes
low_no_number (Num z) w h f = cc
low_no_number (Truth b) w h f = refl
low_no_number (Items vs) w h f = refl

pub high_no_number : (a : ℤ) (v w : Value) → number_in v ≡ Some a → number_in w ≡ None → (f : ℤ → ℤ → Out Values) → range_of v w f ≡ Clashes
high_no_number a (Num z) (Num y) e h f = cc
high_no_number a (Num z) (Truth b) e h f = refl
high_no_number a (Num z) (Items vs) e h f = refl
high_no_number a (Truth b) w e h f = cc
high_no_number a (Items vs) w e h f = cc

pub is_number : (v : Value) (a : ℤ) → number_in v ≡ Some a → v ≡ Num a
is_number (Num z) a h = let same : z ≡ a = cc in ap Num same
is_number (Truth b) a h = cc
is_number (Items vs) a h = cc

pub no_number : (o p : Option ℤ) → o ≡ p → ((x : ℤ) → o ≡ Some x → ⊥) → p ≡ None
no_number None p e h = sym e
no_number (Some x) p e h = absurd (h x refl)
