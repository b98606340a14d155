-- What the tests of sizes say.
use Rattle.std.proofs.Common.{◌≡◌, ℕ, zero, suc, ◌<◌, ◌≤◌, Bool, true, false, List, [], ◌∷◌, ◌++◌, map, length, get_or, refl, sym, ap, ◌∙◌, arith}
use Rattle.std.specs.Prelude.{◌&&◌, nat_le, nat_lt, Option, None, Some, IfSome}
use Rattle.std.specs.Borrow.{Bor}
use Rattle.std.specs.Slice.{IsItemAt}
use Rattle.std.proofs.lemmas.Bool.Decides.{nat_tests}
use Rattle.rvc_base.specs.declared.scalar.Scalar.{Scalar}
use Rattle.rvc_base.specs.declared.scalar.Scalar.TheVariants as scalar
use Rattle.rvc_base.specs.Storing.{IsSize}
use Rattle.rvc_base.specs.Width.{max_size}
use Rattle.cal_model.specs.Actor.{Fun}
use Rattle.cal_model.specs.View.{fun_view, local_view, shape_view}
use Rattle.cal_model.specs.declared.bound.BoundLocal.{BoundLocal}
use Rattle.cal_model.specs.declared.bound.BoundFun.{BoundFun}
use Rattle.const_env.specs.Sizes.{is_size, is_sized, are_sized, is_sized_fun, are_sized_funs}

pub and_left : (a b : Bool) → (a && b) ≡ true → a ≡ true
and_left true b h = refl
and_left false b h = h

pub and_right : (a b : Bool) → (a && b) ≡ true → b ≡ true
and_right true b h = h
and_right false b h = cc

pub le_holds : (a b : ℕ) → nat_le a b ≡ true → a ≤ b
le_holds a b h = grind (arith, nat_tests)

lt_holds : (a b : ℕ) → nat_lt a b ≡ true → a < b
lt_holds a b h = grind (arith, nat_tests)

pub size_holds : (t : Scalar) → is_size t ≡ true → IsSize t
size_holds scalar.Bool h = tt
size_holds (scalar.Int n) h = (le_holds 1 n (and_left (nat_le 1 n) (nat_le n max_size) h), le_holds n max_size (and_right (nat_le 1 n) (nat_le n max_size) h))
size_holds (scalar.Uint n) h = (le_holds 1 n (and_left (nat_le 1 n) (nat_le n max_size) h), le_holds n max_size (and_right (nat_le 1 n) (nat_le n max_size) h))

pub sized_at : (xs : List BoundLocal) (n : ℕ) (d : BoundLocal) → are_sized (map local_view xs) ≡ true → n < length xs → is_sized (shape_view (get_or xs n d).shape) ≡ true
sized_at [] n d h l = absurd (omega arith)
sized_at (x ∷ xs) zero d h l = and_left (is_sized (shape_view x.shape)) (are_sized (map local_view xs)) h
sized_at (x ∷ xs) (suc n) d h l = sized_at xs n d (and_right (is_sized (shape_view x.shape)) (are_sized (map local_view xs)) h) (omega arith)

fun_sized_at : (fs : List BoundFun) (n : ℕ) (d : BoundFun) → are_sized_funs (map fun_view fs) ≡ true → n < length fs → is_sized_fun (fun_view (get_or fs n d)) ≡ true
fun_sized_at [] n d h l = absurd (omega arith)
fun_sized_at (f ∷ fs) zero d h l = and_left (is_sized_fun (fun_view f)) (are_sized_funs (map fun_view fs)) h
fun_sized_at (f ∷ fs) (suc n) d h l = fun_sized_at fs n d (and_right (is_sized_fun (fun_view f)) (are_sized_funs (map fun_view fs)) h) (omega arith)

-- a function that is lent of a list
pub lent_sized : (fs : List BoundFun) (n : ℕ) (found : Option (Bor BoundFun)) → are_sized_funs (map fun_view fs) ≡ true → IsItemAt fs n found → IfSome found (λ f. is_sized_fun (fun_view f.now) ≡ true)
lent_sized fs n None h e = tt
lent_sized fs n (Some f) h e =
    let there : nat_lt n (length fs) ≡ true = sym e.0 in
    ap (λ g. is_sized_fun (fun_view g)) e.1 ∙ fun_sized_at fs n f.now h (lt_holds n (length fs) there)

both : (a b : Bool) → a ≡ true → b ≡ true → (a && b) ≡ true
both true true h e = refl
both true false h e = e
both false b h e = h

-- one function more
pub pushed_sized : (fs : List BoundFun) (f : BoundFun) → are_sized_funs (map fun_view fs) ≡ true → is_sized_fun (fun_view f) ≡ true → are_sized_funs (map fun_view (fs ++ f ∷ [])) ≡ true
pushed_sized [] f h e = rw e refl
pushed_sized (g ∷ fs) f h e = both (is_sized_fun (fun_view g)) (are_sized_funs (map fun_view (fs ++ f ∷ []))) (and_left (is_sized_fun (fun_view g)) (are_sized_funs (map fun_view fs)) h) (pushed_sized fs f (and_right (is_sized_fun (fun_view g)) (are_sized_funs (map fun_view fs)) h) e)

three : (a b c : Bool) → (a && b && c) ≡ true → (a ≡ true) × (b ≡ true) × (c ≡ true)
three true true true h = (refl, refl, refl)
three true true false h = cc
three true false c h = cc
three false b c h = cc

-- the parts of a function whose sizes are allowed
pub sized_parts : (f : Fun) → is_sized_fun f ≡ true → (are_sized f.formals ≡ true) × (are_sized f.locals ≡ true) × (is_size f.result ≡ true)
sized_parts f h = three (are_sized f.formals) (are_sized f.locals) (is_size f.result) h
