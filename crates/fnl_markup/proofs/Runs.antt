-- How reading goes on behind what was read.
use Rattle.std.proofs.Common.{◌≡◌, ℕ, suc, ◌+◌, ◌<◌, ◌≤◌, List, [], ◌∷◌, ◌++◌, length, take, drop, get_or, Option, None, Some, Err, refl, sym, ◌∙◌, ap, arith}
use Rattle.std.proofs.Math.Seq.{take-suc, drop-cons}
use Rattle.std.proofs.lemmas.List.{length-take-le, take-append-drop}
use Rattle.rvc_base.specs.declared.refusal.Rule.{Rule}
use Rattle.fnl_markup.specs.State.{State, fresh, Next, Going, Fault}
use Rattle.fnl_markup.specs.Stepped.{Stepped, Ran}
use Rattle.fnl_markup.specs.declared.reader.Reader.{Reader}
use Rattle.fnl_markup.specs.declared.stop.Stop.{Stop}
use Rattle.fnl_markup.specs.declared.stop.Stop.TheVariants as stops
use Rattle.fnl_markup.specs.Step.{step}
use Rattle.fnl_markup.specs.Markup.{Broken, fault, ended, run}

pub goes_on : (at : ℕ) (s next : State) (b : ℕ) (bytes : List ℕ) → step at s b ≡ Going next → run at s (b ∷ bytes) ≡ run (at + 1) next bytes
goes_on at s next b bytes e = rw (e, run) refl

pub stops_here : (at place b : ℕ) (s : State) (rule : Rule) (bytes : List ℕ) → step at s b ≡ Fault rule place → run at s (b ∷ bytes) ≡ ended s (Some (fault rule place))
stops_here at place b s rule bytes e = rw (e, run) refl

same_state : (s next : State) (broken : Option Broken) → ended s broken ≡ ended next None → s ≡ next
same_state s next broken e = cc

not_broken : (s next : State) (broken : Broken) → ended s (Some broken) ≡ ended next None → ⊥
not_broken s next broken e = cc

-- what comes of bytes behind others
abbrev Appends : ℕ → State → State → List ℕ → List ℕ → Type 0
Appends at s next xs ys = run at s xs ≡ ended next None → run at s (xs ++ ys) ≡ run (at + length xs) next ys

step_append : (at b : ℕ) (s next : State) (xs ys : List ℕ) (found : Next) → step at s b ≡ found → ((other : State) → Appends (at + 1) other next xs ys) → Appends at s next (b ∷ xs) ys
step_append at b s next xs ys (Going found) here later = λ e.
    let rest : run (at + 1) found xs ≡ ended next None = sym (goes_on at s found b xs here) ∙ e in
    let more : at + 1 + length xs ≡ at + suc (length xs) = omega arith in
    goes_on at s found b (xs ++ ys) here ∙ later found rest ∙ ap (λ n. run n next ys) more
step_append at b s next xs ys (Fault rule place) here later = λ e.
    absurd (not_broken s next (fault rule place) (sym (stops_here at place b s rule xs here) ∙ e))

pub run_append : (at : ℕ) (s next : State) (xs ys : List ℕ) → Appends at s next xs ys
run_append at s next [] ys = λ e. let same : s ≡ next = same_state s next None e in let none : at + 0 ≡ at = omega arith in ap (λ t. run at t ys) same ∙ ap (λ n. run n next ys) (sym none)
run_append at s next (b ∷ xs) ys = step_append at b s next xs ys (step at s b) refl (λ other. run_append (at + 1) other next xs ys)

-- one byte more
pub run_next : (at : ℕ) (s next last : State) (xs : List ℕ) (b : ℕ) → run at s xs ≡ ended next None → step (at + length xs) next b ≡ Going last → run at s (xs ++ b ∷ []) ≡ ended last None
run_next at s next last xs b e here = run_append at s next xs (b ∷ []) e ∙ goes_on (at + length xs) next last b [] here

-- a rule is broken behind some bytes
pub run_stops : (at : ℕ) (s next : State) (xs ys : List ℕ) (b place : ℕ) (rule : Rule) → run at s xs ≡ ended next None → step (at + length xs) next b ≡ Fault rule place → run at s (xs ++ b ∷ ys) ≡ ended next (Some (fault rule place))
run_stops at s next xs ys b place rule e here = run_append at s next xs (b ∷ ys) e ∙ stops_here (at + length xs) place b next rule ys here

-- of a text, up to a place

length_before : (at : ℕ) (text : List ℕ) → at ≤ length text → 0 + length (take at text) ≡ at
length_before at text h = let same = length-take-le at text h in omega arith

pub read_on : (text : List ℕ) (at : ℕ) (s next : State) → at < length text → run 0 fresh (take at text) ≡ ended s None → step at s (get_or text at 0) ≡ Going next → run 0 fresh (take (at + 1) text) ≡ ended next None
read_on text at s next h e here =
    let one : at + 1 ≡ suc at = omega arith in
    let grown : take (at + 1) text ≡ take at text ++ get_or text at 0 ∷ [] = ap (λ n. take n text) one ∙ take-suc text at 0 h in
    let there : step (0 + length (take at text)) s (get_or text at 0) ≡ Going next = ap (λ n. step n s (get_or text at 0)) (length_before at text (omega arith)) ∙ here in
    ap (run 0 fresh) grown ∙ run_next 0 fresh s next (take at text) (get_or text at 0) e there

pub stops_at : (text : List ℕ) (at place : ℕ) (s : State) (rule : Rule) → at < length text → run 0 fresh (take at text) ≡ ended s None → step at s (get_or text at 0) ≡ Fault rule place → run 0 fresh text ≡ ended s (Some (fault rule place))
stops_at text at place s rule h e here =
    let split : text ≡ take at text ++ get_or text at 0 ∷ drop (suc at) text = sym (take-append-drop at text) ∙ ap (λ rest. take at text ++ rest) (drop-cons text at 0 h) in
    let there : step (0 + length (take at text)) s (get_or text at 0) ≡ Fault rule place = ap (λ n. step n s (get_or text at 0)) (length_before at text (omega arith)) ∙ here in
    ap (run 0 fresh) split ∙ run_stops 0 fresh s (take at text) (drop (suc at) text) (get_or text at 0) place rule e there

pub ran_into : (text : List ℕ) (at : ℕ) (s : State) (now : Reader) (stop : Stop) → at < length text → run 0 fresh (take at text) ≡ ended s None → Stepped {A = Unit {0}} (step at s (get_or text at 0)) s now (Err stop) → Ran (run 0 fresh text) now (Err stop)
ran_into text at s now (stops.Broken rule place) h e (here, same) = stops_at text at place s rule h e here ∙ ap (λ t. ended t (Some (fault rule place))) (sym same)
ran_into text at s now stops.Memory h e here = tt
