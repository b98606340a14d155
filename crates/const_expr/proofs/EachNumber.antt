-- The elements for each number of a range, one number after another.
use Rattle.std.proofs.Common.{◌≡◌, ◌≢◌, ℕ, zero, ℤ, pos, ◌+ℤ◌, ◌-ℤ◌, ◌≤ℤ◌, List, true, refl, sym, ap, ◌∙◌, subst, to_z, of_z, Fits, SFits, arith}
use Rattle.std.specs.Prelude.{Option, int_lt, unsigned_abs}
use Rattle.std.proofs.lemmas.Int.{ints, of_z-to_z, to_z-of_z}
use Rattle.rvc_base.specs.declared.scalar.Scalar.{Scalar}
use Rattle.cal_ast.specs.Tree.{Tree}
use Rattle.cal_model.specs.Value.{Value, Values, joined}
use Rattle.rvc_base.specs.Width.{num_width}
use Rattle.cal_model.specs.Outcome.{Out, Gives, and_then}
use Rattle.cal_model.specs.Env.{Env, with_local}
use Rattle.cal_model.specs.Expression.{Calls, each_from, elements, eval, span}
use Rattle.const_env.specs.Meant.{counted, counter_var}
use Rattle.const_env.specs.Outcome.{Stops}
use Rattle.const_env.specs.declared.stop.EvalError.{EvalError}
use Rattle.const_expr.proofs.Going.{each_done, each_more, each_stops}
use Rattle.const_expr.proofs.Ranging.{next_fits, span_last, span_next, span_none, span_some}

-- ---- over any elements

-- what the numbers from one on add to what is there
abbrev pub adds : ℕ → ℤ → (ℤ → ℕ → Out Values) → ℕ → Values → Out Values
adds n i f left now = and_then (each_from n i f left) (λ vs k. Gives (joined now vs) k)

-- the numbers up to this one are done
abbrev pub AreDone : ℤ → ℤ → ℤ → (ℤ → ℕ → Out Values) → ℕ → Values → Out Values → Type 0
AreDone low number high f left now whole = (low ≤ℤ number) × (number ≤ℤ high) × (adds (span number high) number f left now ≡ whole)

done_next : (low number high : ℤ) (f : ℤ → ℕ → Out Values) (left m : ℕ) (now news : Values) (whole : Out Values) → number ≢ high
    → and_then (f number left) (λ vs k. Gives (joined now vs) k) ≡ Gives news m → AreDone low number high f left now whole → AreDone low (number +ℤ pos 1) high f m news whole
done_next low number high f left m now news whole e h d =
    let l : low ≤ℤ number = d.0 in
    let more : (number +ℤ pos 1) ≤ℤ high = next_fits number high d.1 e in
    let above : low ≤ℤ (number +ℤ pos 1) = omega (arith, ints) in
    (above, more, sym (each_more (span (number +ℤ pos 1) high) number f left m now news h) ∙ ap (λ n. adds n number f left now) (sym (span_next number high more)) ∙ d.2)

done_last : (low number high : ℤ) (f : ℤ → ℕ → Out Values) (left m : ℕ) (now news : Values) (whole : Out Values) → number ≡ high
    → and_then (f number left) (λ vs k. Gives (joined now vs) k) ≡ Gives news m → AreDone low number high f left now whole → whole ≡ Gives news m
done_last low number high f left m now news whole e h d =
    sym d.2 ∙ ap (λ b. adds (span number b) number f left now) (sym e) ∙ ap (λ n. adds n number f left now) (span_last number)
    ∙ each_more zero number f left m now news h ∙ each_done (number +ℤ pos 1) f m news

done_stops : (low number high : ℤ) (f : ℤ → ℕ → Out Values) (left : ℕ) (now : Values) (whole : Out Values) (s : EvalError)
    → Stops s (and_then (f number left) (λ vs k. Gives (joined now vs) k)) → AreDone low number high f left now whole → Stops s whole
done_stops low number high f left now whole s h d =
    subst (Stops s) (ap (λ n. adds n number f left now) (sym (span_some number high d.1)) ∙ d.2) (each_stops (unsigned_abs (high -ℤ number)) number f left now s h)

-- a range without numbers
pub no_numbers : (low high : ℤ) (f : ℤ → ℕ → Out Values) (left : ℕ) (now : Values) → SFits num_width low → SFits num_width high → int_lt (to_z num_width (of_z num_width high)) (to_z num_width (of_z num_width low)) ≡ true → adds (span low high) low f left now ≡ Gives now left
no_numbers low high f left now l h e =
    let below : int_lt high low ≡ true = ap (λ x. int_lt x low) (sym (to_z-of_z num_width high h)) ∙ ap (int_lt (to_z num_width (of_z num_width high))) (sym (to_z-of_z num_width low l)) ∙ e in
    ap (λ n. adds n low f left now) (span_none low high below) ∙ each_done low f left now

-- ---- over the elements of generators inside

-- the elements for one number
abbrev pub element_of : Tree → Tree → Calls → Env → List ℕ → Option Scalar → ℤ → ℕ → Out Values
element_of gens item calls env name t i m = elements gens (λ e k. eval item calls e k) calls (with_local (counter_var name (counted t i)) env) m

-- what is seen inside is what the definition says
seen_inside : (P : Out Values → Type 0) (gens item : Tree) (calls inside : Calls) (env inner : Env) (name : List ℕ) (v w : Value) (left : ℕ) → inside ≡ calls → inner ≡ with_local (counter_var name v) env → v ≡ w
    → P (elements gens (λ e k. eval item inside e k) inside inner left) → P (elements gens (λ e k. eval item calls e k) calls (with_local (counter_var name w) env) left)
seen_inside P gens item calls inside env inner name v w left e f g h =
    subst (λ u. P (elements gens (λ e k. eval item calls e k) calls (with_local (counter_var name u) env) left)) g
    (subst (λ x. P (elements gens (λ e k. eval item calls e k) calls x left)) f
    (subst (λ c. P (elements gens (λ e k. eval item c e k) c inner left)) e h))

not_last : (n : ℕ) (high : ℤ) → Fits num_width n → (n ≡ of_z num_width high → ⊥) → to_z num_width n ≢ high
not_last n high f h e = h (sym (of_z-to_z num_width n f.fits) ∙ ap (of_z num_width) e)

is_last : (n : ℕ) (high : ℤ) → SFits num_width high → n ≡ of_z num_width high → to_z num_width n ≡ high
is_last n high f h = ap (to_z num_width) h ∙ to_z-of_z num_width high f

next_is : (i high : ℤ) → SFits num_width high → (n : ℕ) → i ≡ to_z num_width n → (i +ℤ pos 1) ≤ℤ high → to_z num_width (of_z num_width (i +ℤ pos 1)) ≡ i +ℤ pos 1
next_is i high f n e h =
    let least = read_below n in
    let fits : SFits num_width (i +ℤ pos 1) = fits_between i high f (subst (λ x. SFits num_width x) (sym e) least) h in
    to_z-of_z num_width (i +ℤ pos 1) fits
  where
    read_below : (n : ℕ) → SFits num_width (to_z num_width n)
    read_below n = omega (arith, ints)

    fits_between : (i high : ℤ) → SFits num_width high → SFits num_width i → (i +ℤ pos 1) ≤ℤ high → SFits num_width (i +ℤ pos 1)
    fits_between i high f g h = omega (arith, ints)

pub numbers_next : (gens item : Tree) (calls inside : Calls) (env inner : Env) (name : List ℕ) (t : Option Scalar) (v : Value) (n : ℕ) (low high : ℤ) (left m : ℕ) (now news : Values) (whole : Out Values)
    → Fits num_width n → SFits num_width high → (n ≡ of_z num_width high → ⊥) → inside ≡ calls → inner ≡ with_local (counter_var name v) env → v ≡ counted t (to_z num_width n)
    → and_then (elements gens (λ e k. eval item inside e k) inside inner left) (λ vs k. Gives (joined now vs) k) ≡ Gives news m
    → AreDone low (to_z num_width n) high (element_of gens item calls env name t) left now whole
    → AreDone low (to_z num_width (of_z num_width (to_z num_width n +ℤ pos 1))) high (element_of gens item calls env name t) m news whole
numbers_next gens item calls inside env inner name t v n low high left m now news whole fits most differs e f g h d =
    let apart : to_z num_width n ≢ high = not_last n high fits differs in
    let is = next_is (to_z num_width n) high most n refl (next_fits (to_z num_width n) high d.1 apart) in
    subst (λ i. AreDone low i high (element_of gens item calls env name t) m news whole) (sym is)
    (done_next low (to_z num_width n) high (element_of gens item calls env name t) left m now news whole apart
    (seen_inside (λ o. and_then o (λ vs k. Gives (joined now vs) k) ≡ Gives news m) gens item calls inside env inner name v (counted t (to_z num_width n)) left e f g h) d)

pub numbers_end : (gens item : Tree) (calls inside : Calls) (env inner : Env) (name : List ℕ) (t : Option Scalar) (v : Value) (n : ℕ) (low high : ℤ) (left m : ℕ) (now news : Values) (whole : Out Values)
    → SFits num_width high → n ≡ of_z num_width high → inside ≡ calls → inner ≡ with_local (counter_var name v) env → v ≡ counted t (to_z num_width n)
    → and_then (elements gens (λ e k. eval item inside e k) inside inner left) (λ vs k. Gives (joined now vs) k) ≡ Gives news m
    → AreDone low (to_z num_width n) high (element_of gens item calls env name t) left now whole → whole ≡ Gives news m
numbers_end gens item calls inside env inner name t v n low high left m now news whole most same e f g h d =
    done_last low (to_z num_width n) high (element_of gens item calls env name t) left m now news whole (is_last n high most same)
    (seen_inside (λ o. and_then o (λ vs k. Gives (joined now vs) k) ≡ Gives news m) gens item calls inside env inner name v (counted t (to_z num_width n)) left e f g h) d

pub numbers_stop : (gens item : Tree) (calls inside : Calls) (env inner : Env) (name : List ℕ) (t : Option Scalar) (v : Value) (n : ℕ) (low high : ℤ) (left : ℕ) (now : Values) (whole : Out Values) (s : EvalError)
    → inside ≡ calls → inner ≡ with_local (counter_var name v) env → v ≡ counted t (to_z num_width n)
    → Stops s (and_then (elements gens (λ e k. eval item inside e k) inside inner left) (λ vs k. Gives (joined now vs) k))
    → AreDone low (to_z num_width n) high (element_of gens item calls env name t) left now whole → Stops s whole
numbers_stop gens item calls inside env inner name t v n low high left now whole s e f g h d =
    done_stops low (to_z num_width n) high (element_of gens item calls env name t) left now whole s
    (seen_inside (λ o. Stops s (and_then o (λ vs k. Gives (joined now vs) k))) gens item calls inside env inner name v (counted t (to_z num_width n)) left e f g h) d
