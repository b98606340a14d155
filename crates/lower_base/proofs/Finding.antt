-- Functions that are found by their names.
use Rattle.std.proofs.Common.{◌≡◌, ℕ, ◌<◌, List, [], ◌∷◌, length, Bool, true, false, Option, None, Some, refl, sym, ap, ◌∙◌, ◌≢◌, subst, arith}
use Rattle.std.specs.Prelude.{if◌then◌else◌, nat_eq}
use Rattle.std.proofs.lemmas.Bool.Decides.{nat_tests}
use Rattle.lower_base.specs.Callees.{Function, function_for, function_named}

-- a function for so many arguments has this name and as many formals
pub is_found : (text : List ℕ) (n : ℕ) (fs : List Function) (f : Function) → function_for text n fs ≡ Some f → (function_named text fs ≡ Some f) × (length f.formals ≡ n)
is_found text n fs f e = go (function_named text fs) refl e
  where
    same : (g : Function) (b : Bool) → nat_eq (length g.formals) n ≡ b → function_named text fs ≡ Some g → (if b then Some g else None) ≡ Some f → (function_named text fs ≡ Some f) × (length f.formals ≡ n)
    same g true h is e =
        let one : g ≡ f = cc in
        let size : length g.formals ≡ n = grind (arith, nat_tests, h) in
        subst (λ (x : Function). (function_named text fs ≡ Some x) × (length x.formals ≡ n)) one (is, size)
    same g false h is e = cc

    go : (o : Option Function) → function_named text fs ≡ o → elim o [ None ↦ None | Some g ↦ if nat_eq (length g.formals) n then Some g else None ] ≡ Some f → (function_named text fs ≡ Some f) × (length f.formals ≡ n)
    go None is e = cc
    go (Some g) is e = same g (nat_eq (length g.formals) n) refl is e

pub some_there : (text : List ℕ) (fs : List Function) (f : Function) → function_named text fs ≡ Some f → 0 < length fs
some_there text [] f e = cc
some_there text (g ∷ fs) f e = omega arith

pub found_for : (text : List ℕ) (fs : List Function) (n k : ℕ) (f : Function) → function_named text fs ≡ Some f → length f.formals ≡ k → k ≡ n → function_for text n fs ≡ Some f
found_for text fs n k f is size number =
    let same : nat_eq (length f.formals) n ≡ true = grind (arith, nat_tests, size, number) in
    ap (λ (o : Option Function). elim o [ None ↦ None | Some g ↦ if nat_eq (length g.formals) n then Some g else None ]) is ∙ ap (λ b. if b then Some f else None) same

pub found_other : (text : List ℕ) (fs : List Function) (n k : ℕ) (f : Function) → function_named text fs ≡ Some f → length f.formals ≢ k → k ≡ n → function_for text n fs ≡ None
found_other text fs n k f is size number =
    let other : length f.formals ≢ n = λ e. size (e ∙ sym number) in
    ap (λ (o : Option Function). elim o [ None ↦ None | Some g ↦ if nat_eq (length g.formals) n then Some g else None ]) is ∙ go (nat_eq (length f.formals) n) refl other
  where
    go : (b : Bool) → nat_eq (length f.formals) n ≡ b → length f.formals ≢ n → (if b then Some f else None) ≡ None
    go true e g = absurd (g (grind (arith, nat_tests, e)))
    go false e g = refl

pub found_none : (text : List ℕ) (fs : List Function) (n : ℕ) → function_named text fs ≡ None → function_for text n fs ≡ None
found_none text fs n is = ap (λ (o : Option Function). elim o [ None ↦ None | Some g ↦ if nat_eq (length g.formals) n then Some g else None ]) is
