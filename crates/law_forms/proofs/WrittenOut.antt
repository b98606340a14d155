-- A number that is written out is seen to be what it gives.
use Rattle.std.proofs.Common.{◌≡◌, ℕ, ℤ, pos, [], ◌++◌, refl, ap, ◌∙◌, Option, Some}
use Rattle.rvc_base.specs.Arithmetic as arithmetic
use Rattle.rvc_base.specs.Arithmetic.{Computed}
use Rattle.rvc_base.specs.Rules.{constant_traps, not_constant, wrong_kind}
use Rattle.rvc_base.specs.Turns.{max_turns}
use Rattle.cal_ast.specs.declared.expr.PrefixOp.TheVariants.{Neg}
use Rattle.cal_ast.specs.declared.expr.BinOp.TheVariants.{Sub}
use Rattle.cal_ast.specs.Places.{begins}
use Rattle.cal_ast.specs.Tree as tree
use Rattle.cal_ast.specs.Tree.{Tree}
use Rattle.cal_model.specs.Value.{Kind, NumKind, BoolKind, ListKind, Value, Num, Truth, Items}
use Rattle.cal_model.specs.Outcome.{Out, Gives, Traps, Lacks, Clashes, and_then}
use Rattle.cal_model.specs.Env.{Env}
use Rattle.cal_model.specs.Expression.{Calls, applied, computed, eval, prefixed, with_right}
use Rattle.cal_model.specs.Kinding.{Judged, Fine, Broken, Names, constant, constant_calls, constant_number, constants, kind, number_given}
use Rattle.cal_model.specs.Sound.{IsWrittenOut}
use Rattle.cal_model.proofs.KindValues.{fine-is, not-fine}
use Rattle.lower_base.specs.Bounds as bounds
use Rattle.lower_base.specs.Bounds.{bound_of, difference_of, opposite_of}

-- ---- numbers

computed_given : (c : Computed) (z : ℤ) (left m : ℕ) → computed c left ≡ Gives (Num z) m → bounds.number_given c ≡ Some z
computed_given (arithmetic.Gives x) z left m h = let same : x ≡ z = cc in ap Some same
computed_given (arithmetic.Traps c) z left m h = cc

-- a minus sign before what gives a number
negated : (o : Out Value) (b : Option ℤ) (z : ℤ) (m : ℕ) → and_then o (λ v j. prefixed Neg v j) ≡ Gives (Num z) m → ((a : ℤ) (j : ℕ) → o ≡ Gives (Num a) j → b ≡ Some a) → opposite_of Neg b ≡ Some z
negated (Gives (Num a) j) b z m h f = ap (opposite_of Neg) (f a j refl) ∙ computed_given (arithmetic.neg a) z j m h
negated o b z m h f = cc

-- .. or between two of them
differed : (a c z : ℤ) (i m : ℕ) (b d : Option ℤ) → applied Sub (Num a) (Num c) i ≡ Gives (Num z) m → b ≡ Some a → d ≡ Some c → difference_of Sub b d ≡ Some z
differed a c z i m b d h e f = ap (λ x. difference_of Sub x d) e ∙ ap (difference_of Sub (Some a)) f ∙ computed_given (arithmetic.sub a c) z i m h

right_given : (v : Value) (p : Out Value) (b d : Option ℤ) (z : ℤ) (m : ℕ) → and_then p (λ w i. applied Sub v w i) ≡ Gives (Num z) m
    → ((a : ℤ) → v ≡ Num a → b ≡ Some a) → ((c : ℤ) (i : ℕ) → p ≡ Gives (Num c) i → d ≡ Some c) → difference_of Sub b d ≡ Some z
right_given (Num a) (Gives (Num c) i) b d z m h f g = differed a c z i m b d h (f a refl) (g c i refl)
right_given (Num a) (Gives (Truth t) i) b d z m h f g = cc
right_given (Num a) (Gives (Items vs) i) b d z m h f g = cc
right_given (Truth t) (Gives (Num c) i) b d z m h f g = cc
right_given (Truth t) (Gives (Truth u) i) b d z m h f g = cc
right_given (Truth t) (Gives (Items vs) i) b d z m h f g = cc
right_given (Items vs) (Gives w i) b d z m h f g = cc
right_given v (Traps c) b d z m h f g = cc
right_given v Lacks b d z m h f g = cc
right_given v Clashes b d z m h f g = cc

subtracted : (o : Out Value) (right : ℕ → Out Value) (b d : Option ℤ) (z : ℤ) (m : ℕ) → and_then o (λ v j. with_right Sub v right j) ≡ Gives (Num z) m
    → ((a : ℤ) (j : ℕ) → o ≡ Gives (Num a) j → b ≡ Some a) → ((j : ℕ) (c : ℤ) (i : ℕ) → right j ≡ Gives (Num c) i → d ≡ Some c) → difference_of Sub b d ≡ Some z
subtracted (Gives v j) right b d z m h f g = right_given v (right j) b d z m h (λ a e. f a j (ap (λ w. Gives w j) e)) (λ c i e. g j c i e)
subtracted (Traps c) right b d z m h f g = cc
subtracted Lacks right b d z m h f g = cc
subtracted Clashes right b d z m h f g = cc

pub written_bound : (e : Tree) (calls : Calls) (env : Env) (left m : ℕ) (z : ℤ) → IsWrittenOut e → eval e calls env left ≡ Gives (Num z) m → bound_of e ≡ Some z
written_bound (tree.number k at) calls env left m z w h = computed_given (arithmetic.whole (pos k)) z left m h
written_bound (tree.paren e at) calls env left m z w h = written_bound e calls env left m z w h
written_bound (tree.prefix Neg e at) calls env left m z w h =
    negated (eval e calls env left) (bound_of e) z m h (λ a j i. written_bound e calls env left j a w i)
written_bound (tree.binary Sub l r at) calls env left m z w h =
    subtracted (eval l calls env left) (λ k. eval r calls env k) (bound_of l) (bound_of r) z m h
    (λ a j i. written_bound l calls env left j a w.0 i) (λ j c k i. written_bound r calls env j k c w.1 i)
written_bound other calls env left m z w h = absurd w

-- ---- constants

number_parts : (o : Judged Kind) (e : Tree) (names : Names) (a : ℤ) → constant_number o e names ≡ Fine a → (o ≡ Fine NumKind) × (number_given (constant e names) (begins e) ≡ Fine a)
number_parts (Fine NumKind) e names a h = (refl, h)
number_parts (Fine BoolKind) e names a h = absurd (not-fine wrong_kind (begins e) a h)
number_parts (Fine (ListKind n k)) e names a h = absurd (not-fine wrong_kind (begins e) a h)
number_parts (Broken rule at) e names a h = absurd (not-fine rule at a h)

given_parts : (o : Out Value) (at : ℕ) (a : ℤ) → number_given o at ≡ Fine a → (m : ℕ) × (o ≡ Gives (Num a) m)
given_parts (Gives (Num z) m) at a h = (m, ap (λ b. Gives (Num b) m) (fine-is z a h))
given_parts (Gives (Truth b) m) at a h = absurd (not-fine not_constant at a h)
given_parts (Gives (Items vs) m) at a h = absurd (not-fine not_constant at a h)
given_parts (Traps c) at a h = absurd (not-fine constant_traps at a h)
given_parts Lacks at a h = absurd (not-fine not_constant at a h)
given_parts Clashes at a h = absurd (not-fine not_constant at a h)

-- a size or a bound that is constant is the number that is written
pub constant_bound : (e : Tree) (known : Names) (a : ℤ) → IsWrittenOut e → constant_number (kind e known) e known ≡ Fine a → bound_of e ≡ Some a
constant_bound e known a w h =
    let parts = number_parts (kind e known) e known a h in
    let given = given_parts (constant e known) (begins e) a parts.1 in
    written_bound e (constant_calls known) (record { globals = constants (known.locals ++ known.globals); locals = [] }) max_turns given.0 a w given.1
