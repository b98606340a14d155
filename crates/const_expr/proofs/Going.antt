-- How evaluation goes on after a step, and how it ends.
use Rattle.std.proofs.Common.{◌≡◌, ℕ, zero, suc, ℤ, pos, ◌+ℤ◌, refl, sym, ap, ◌∙◌}
use Rattle.cal_model.specs.Value.{Value, Values, Nil, Cons, one, joined}
use Rattle.cal_model.specs.Outcome.{Out, Gives, Traps, Lacks, Clashes, and_then, alone}
use Rattle.cal_model.specs.Expression.{each_from}
use Rattle.const_env.specs.declared.stop.EvalError.{EvalError}
use Rattle.const_env.specs.declared.stop.EvalError.TheVariants as stop
use Rattle.const_env.specs.Outcome.{Stops}
use Rattle.const_env.proofs.Lists.{joined_joined, joined_nil}

-- a step that ends evaluation ends the whole
pub stops_on : {A B : Type 0} (s : EvalError) (o : Out A) (f : A → ℕ → Out B) → Stops s o → Stops s (and_then o f)
stops_on (stop.Trap c) o f h = ap (λ x. and_then x f) h
stops_on stop.Lacks o f h = ap (λ x. and_then x f) h
stops_on stop.Clashes o f h = ap (λ x. and_then x f) h
stops_on stop.Memory o f h = tt

-- .. and goes on after one that gives a value
pub goes_on : {A B : Type 0} (o : Out A) (a : A) (m : ℕ) (f : A → ℕ → Out B) → o ≡ Gives a m → and_then o f ≡ f a m
goes_on o a m f h = ap (λ x. and_then x f) h

-- what is made of the value of a step doesn't end it
pub stops_in : {A B : Type 0} (s : EvalError) (o : Out A) (g : A → B) → Stops s (and_then o (λ a k. Gives (g a) k)) → Stops s o
stops_in (stop.Trap c) (Gives a m) g h = cc
stops_in (stop.Trap c) (Traps d) g h = cc
stops_in (stop.Trap c) Lacks g h = cc
stops_in (stop.Trap c) Clashes g h = cc
stops_in stop.Lacks (Gives a m) g h = cc
stops_in stop.Lacks (Traps d) g h = cc
stops_in stop.Lacks Lacks g h = refl
stops_in stop.Lacks Clashes g h = cc
stops_in stop.Clashes (Gives a m) g h = cc
stops_in stop.Clashes (Traps d) g h = cc
stops_in stop.Clashes Lacks g h = cc
stops_in stop.Clashes Clashes g h = refl
stops_in stop.Memory o g h = tt

-- what counts for itself ends the same way
pub stops_alone : {A : Type 0} (s : EvalError) (o : Out A) (left : ℕ) → Stops s o → Stops s (alone o left)
stops_alone (stop.Trap c) o left h = ap (λ x. alone x left) h
stops_alone stop.Lacks o left h = ap (λ x. alone x left) h
stops_alone stop.Clashes o left h = ap (λ x. alone x left) h
stops_alone stop.Memory o left h = tt

pub gives_same : (o : Out Values) → and_then o (λ vs k. Gives (joined Nil vs) k) ≡ o
gives_same (Gives vs m) = refl
gives_same (Traps c) = refl
gives_same Lacks = refl
gives_same Clashes = refl

-- ---- lists of expressions

regrouped : (r : Out Values) (done vs : Values) → and_then (and_then r (λ ws k. Gives (joined vs ws) k)) (λ us k. Gives (joined done us) k) ≡ and_then r (λ us k. Gives (joined (joined done vs) us) k)
regrouped (Gives ws k) done vs = ap (λ us. Gives us k) (sym (joined_joined done vs ws))
regrouped (Traps c) done vs = refl
regrouped Lacks done vs = refl
regrouped Clashes done vs = refl

-- one expression more
pub all_more : (o : Out Value) (rest : ℕ → Out Values) (done : Values) (v : Value) (m : ℕ) → o ≡ Gives v m
    → and_then (and_then o (λ w h. and_then (rest h) (λ ws k. Gives (Cons w ws) k))) (λ us k. Gives (joined done us) k) ≡ and_then (rest m) (λ us k. Gives (joined (joined done (one v)) us) k)
all_more o rest done v m e =
    ap (λ x. and_then (and_then x (λ w h. and_then (rest h) (λ ws k. Gives (Cons w ws) k))) (λ us k. Gives (joined done us) k)) e
    ∙ regrouped (rest m) done (one v)

-- ---- ranges

each_after : (o : Out Values) (rest : ℕ → Out Values) (now next : Values) (m : ℕ) → and_then o (λ vs k. Gives (joined now vs) k) ≡ Gives next m
    → and_then (and_then o (λ vs h. and_then (rest h) (λ ws k. Gives (joined vs ws) k))) (λ vs k. Gives (joined now vs) k) ≡ and_then (rest m) (λ vs k. Gives (joined next vs) k)
each_after (Gives vs h) rest now next m e =
    let is : joined now vs ≡ next = cc in
    let at : h ≡ m = cc in
    regrouped (rest h) now vs ∙ ap (λ us. and_then (rest h) (λ ws k. Gives (joined us ws) k)) is ∙ ap (λ k. and_then (rest k) (λ ws k. Gives (joined next ws) k)) at
each_after (Traps c) rest now next m e = cc
each_after Lacks rest now next m e = cc
each_after Clashes rest now next m e = cc

-- one number more
pub each_more : (n : ℕ) (i : ℤ) (f : ℤ → ℕ → Out Values) (left m : ℕ) (now next : Values) → and_then (f i left) (λ vs k. Gives (joined now vs) k) ≡ Gives next m
    → and_then (each_from (suc n) i f left) (λ vs k. Gives (joined now vs) k) ≡ and_then (each_from n (i +ℤ pos 1) f m) (λ vs k. Gives (joined next vs) k)
each_more n i f left m now next e = each_after (f i left) (λ h. each_from n (i +ℤ pos 1) f h) now next m e

pub each_stops : (n : ℕ) (i : ℤ) (f : ℤ → ℕ → Out Values) (left : ℕ) (now : Values) (s : EvalError) → Stops s (and_then (f i left) (λ vs k. Gives (joined now vs) k))
    → Stops s (and_then (each_from (suc n) i f left) (λ vs k. Gives (joined now vs) k))
each_stops n i f left now s h =
    stops_on s (and_then (f i left) (λ vs m. and_then (each_from n (i +ℤ pos 1) f m) (λ ws k. Gives (joined vs ws) k))) (λ vs k. Gives (joined now vs) k)
    (stops_on s (f i left) (λ vs m. and_then (each_from n (i +ℤ pos 1) f m) (λ ws k. Gives (joined vs ws) k)) (stops_in s (f i left) (joined now) h))

-- no number is left
pub each_done : (i : ℤ) (f : ℤ → ℕ → Out Values) (left : ℕ) (now : Values) → and_then (each_from zero i f left) (λ vs k. Gives (joined now vs) k) ≡ Gives now left
each_done i f left now = ap (λ vs. Gives vs left) (joined_nil now)
