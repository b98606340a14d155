-- How reading goes on behind what was read.
use Rattle.std.proofs.Common.{◌≡◌, ℕ, suc, ◌+◌, Bool, true, false, List, [], ◌∷◌, ◌++◌, length, None, Some, refl, sym, ap, subst, ◌∙◌, arith, ⊎_elim}
use Rattle.std.proofs.lemmas.Bool.{eqb-true, or_cases}
use Rattle.std.specs.Prelude.{◌==◌, ◌||◌}
use Rattle.rvc_base.specs.declared.refusal.Rule.{Rule}
use Rattle.fnl_markup.specs.Bytes.{is_blank}
use Rattle.fnl_markup.specs.State.{State, fresh, Next, Going, Fault}
use Rattle.fnl_markup.specs.Step.{step}
use Rattle.fnl_markup.specs.Markup.{Broken, fault, ended, run}

-- a text is read, and this is at hand behind it
abbrev pub Reads : List ℕ → State → Type 0
Reads front s = run 0 fresh front ≡ ended s None

pub goes_on : (at : ℕ) (s next : State) (b : ℕ) (bytes : List ℕ) → step at s b ≡ Going next → run at s (b ∷ bytes) ≡ run (at + 1) next bytes
goes_on at s next b bytes e = rw (e, run) refl

pub stops_here : (at place b : ℕ) (s : State) (rule : Rule) (bytes : List ℕ) → step at s b ≡ Fault rule place → run at s (b ∷ bytes) ≡ ended s (Some (fault rule place))
stops_here at place b s rule bytes e = rw (e, run) refl

pub same_state : (s next : State) → ended s None ≡ ended next None → s ≡ next
same_state s next e = cc

pub not_broken : (s next : State) (broken : Broken) → ended s (Some broken) ≡ ended next None → ⊥
not_broken s next broken e = cc

abbrev Appends : ℕ → State → State → List ℕ → List ℕ → Type 0
Appends at s next xs ys = run at s xs ≡ ended next None → run at s (xs ++ ys) ≡ run (at + length xs) next ys

step_append : (at b : ℕ) (s next : State) (xs ys : List ℕ) (found : Next) → step at s b ≡ found → ((other : State) → Appends (at + 1) other next xs ys) → Appends at s next (b ∷ xs) ys
step_append at b s next xs ys (Going found) here later = λ e.
    let rest : run (at + 1) found xs ≡ ended next None = sym (goes_on at s found b xs here) ∙ e in
    let more : at + 1 + length xs ≡ at + suc (length xs) = omega arith in
    goes_on at s found b (xs ++ ys) here ∙ later found rest ∙ ap (λ n. run n next ys) more
step_append at b s next xs ys (Fault rule place) here later = λ e.
    absurd (not_broken s next (fault rule place) (sym (stops_here at place b s rule xs here) ∙ e))

run_append : (at : ℕ) (s next : State) (xs ys : List ℕ) → Appends at s next xs ys
run_append at s next [] ys = λ e. let same : s ≡ next = same_state s next e in let none : at + 0 ≡ at = omega arith in ap (λ t. run at t ys) same ∙ ap (λ n. run n next ys) (sym none)
run_append at s next (b ∷ xs) ys = step_append at b s next xs ys (step at s b) refl (λ other. run_append (at + 1) other next xs ys)

-- bytes behind what was read
pub reads_more : (front : List ℕ) (s next : State) (bytes : List ℕ) → Reads front s → run (length front) s bytes ≡ ended next None → Reads (front ++ bytes) next
reads_more front s next bytes e here =
    let start : 0 + length front ≡ length front = omega arith in
    run_append 0 fresh s front bytes e ∙ ap (λ n. run n s bytes) start ∙ here

-- one byte more
pub reads_next : (front : List ℕ) (s next : State) (b : ℕ) → Reads front s → step (length front) s b ≡ Going next → Reads (front ++ b ∷ []) next
reads_next front s next b e here = reads_more front s next (b ∷ []) e (goes_on (length front) s next b [] here)

-- ---- bytes

pub blank_cases : (P : ℕ → Type 0) → P 32 → P 9 → P 13 → P 10 → (b : ℕ) → is_blank b ≡ true → P b
blank_cases P one two three four b h =
    ⊎_elim (λ e. subst P (sym (eqb-true b 32 e)) one)
    (λ h1. ⊎_elim (λ e. subst P (sym (eqb-true b 9 e)) two)
    (λ h2. ⊎_elim (λ e. subst P (sym (eqb-true b 13 e)) three)
    (λ e. subst P (sym (eqb-true b 10 e)) four)
    (or_cases (b == 13) (b == 10) h2))
    (or_cases (b == 9) ((b == 13) || (b == 10)) h1))
    (or_cases (b == 32) ((b == 9) || ((b == 13) || (b == 10))) h)

pub quote_cases : (P : ℕ → Type 0) → P 34 → P 39 → (q : ℕ) → ((q == 34) || (q == 39)) ≡ true → P q
quote_cases P one two q h =
    ⊎_elim (λ e. subst P (sym (eqb-true q 34 e)) one) (λ e. subst P (sym (eqb-true q 39 e)) two) (or_cases (q == 34) (q == 39) h)

-- neither of two tests holds
pub neither : (x y : Bool) → (x || y) ≡ false → (x ≡ false) × (y ≡ false)
neither true y e = absurd cc
neither false y e = (refl, e)

-- a byte isn't one for which a test gives another answer
pub other_byte : (test : ℕ → Bool) (b k : ℕ) → test b ≡ true → test k ≡ false → (b == k) ≡ false
other_byte test b k yes_ no_ = by (b == k) refl
  where
    by : (t : Bool) → (b == k) ≡ t → (b == k) ≡ false
    by true e = let same : true ≡ false = sym yes_ ∙ ap test (eqb-true b k e) ∙ no_ in absurd cc
    by false e = e
