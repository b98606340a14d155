-- What a firing sends, port by port, in its cells.
use Rattle.std.proofs.Common.{◌≡◌, ℕ, zero, suc, ◌+◌, ◌<◌, ℤ, pos, List, [], ◌∷◌, ◌++◌, map, length, refl, sym, ap, subst, ◌∙◌, Option, None, Some, arith}
use Rattle.std.specs.Prelude.{slice_get, slice_index_or}
use Rattle.std.specs.List.{range_with_len}
use Rattle.std.proofs.lemmas.List.FromFn.{get_or-map-range_with_len, length-map-range_with_len, map-range_with_len_more}
use Rattle.rvc_base.specs.Turns.{max_turns}
use Rattle.cal_model.specs.Actor.{Action, Actor}
use Rattle.cal_model.specs.Call.{calls_of, declared}
use Rattle.cal_model.specs.Eligible.{next}
use Rattle.cal_model.specs.Firing.{Fired, body, body_of, outputs, sent_to_port}
use Rattle.cal_model.specs.Outcome.{Out, Gives, Traps, Lacks, Clashes, and_then}
use Rattle.cal_model.specs.Rates.{give}
use Rattle.cal_model.specs.Selection.{State, seen_by}
use Rattle.cal_model.specs.Statement.{exec_all, runs_of}
use Rattle.lowered_actor.specs.Actor as coded
use Rattle.lowered_actor.specs.Facts.{cells_from}
use Rattle.lowered_actor.specs.Meaning as lowered
use Rattle.action_lower.specs.FiringCode.{HoldSent, first_on}
use Rattle.action_lower.specs.Sending.{StandFrom}
use Rattle.lower_tables.specs.Tables.{gives_of}

-- ---- as many lists as there are ports

-- what is given, if anything, is such
abbrev pub GivesSuch : {A : Type 0} → (A → Type 0) → Out A → Type 0
GivesSuch P (Gives a m) = P a
GivesSuch P (Traps c) = Unit {0}
GivesSuch P Lacks = Unit {0}
GivesSuch P Clashes = Unit {0}

such_then : {A B : Type 0} (P : B → Type 0) (o : Out A) (f : A → ℕ → Out B) → ((a : A) (m : ℕ) → GivesSuch P (f a m)) → GivesSuch P (and_then o f)
such_then P (Gives a m) f h = h a m
such_then P (Traps c) f h = tt
such_then P Lacks f h = tt
such_then P Clashes f h = tt

abbrev pub SendsToAll : Actor → Fired → Type 0
SendsToAll actor fired = length fired.sent ≡ length actor.outs

all_by_body : (actor : Actor) (y : State) (v : List (List ℤ)) (to : ℕ) (act : Action) → GivesSuch (SendsToAll actor) (body_of actor y v to act)
all_by_body actor y v to act =
    such_then (SendsToAll actor) (declared act.locals (calls_of actor.funs) (seen_by actor y v act) max_turns) _ (λ env m.
    such_then (SendsToAll actor) (exec_all act.body (calls_of actor.funs) (runs_of actor.procs (calls_of actor.funs)) env m) _ (λ last k.
    such_then (SendsToAll actor) (outputs actor.outs act.outputs (calls_of actor.funs) last k) _
    (λ sent j. length-map-range_with_len (sent_to_port sent) 0 (length actor.outs))))

pub sends_to_all : (actor : Actor) (y : State) (v : List (List ℤ)) (a : ℕ) → GivesSuch (SendsToAll actor) (body actor y v a)
sends_to_all actor y v a = by (slice_get actor.actions a)
  where
    led : (act : Action) (o : Option ℕ) → GivesSuch (SendsToAll actor) (elim o [ None ↦ Clashes | Some to ↦ body_of actor y v to act ])
    led act None = tt
    led act (Some to) = all_by_body actor y v to act

    by : (o : Option Action) → GivesSuch (SendsToAll actor) (elim o [ None ↦ Clashes | Some act ↦ elim (next actor y.at a) [ None ↦ Clashes | Some to ↦ body_of actor y v to act ] ])
    by None = tt
    by (Some act) = led act (next actor y.at a)

-- ---- in cells

pub found : {A : Type 0} (xs : List A) (k : ℕ) (x d : A) → slice_get xs k ≡ Some x → slice_index_or xs k d ≡ x
found [] k x d e = absurd (cc)
found (y ∷ xs) zero x d e = cc
found (y ∷ xs) (suc k) x d e = found xs k x d e

pub below : {A : Type 0} (xs : List A) (k : ℕ) (x : A) → slice_get xs k ≡ Some x → k < length xs
below [] k x e = absurd (cc)
below (y ∷ xs) zero x e = omega arith
below (y ∷ xs) (suc k) x e = let h = below xs k x e in omega (arith, h)

from-stands : (us cells : List ℤ) (c : ℕ) → StandFrom c us cells → cells_from cells c (length us) ≡ us
from-stands [] cells c stand = refl
from-stands (z ∷ us) cells c stand =
    let none : c + 0 ≡ c = omega arith in
    let here : slice_index_or cells c (pos 0) ≡ z = found cells c z (pos 0) (ap (slice_get cells) (sym none) ∙ stand 0 z refl) in
    let later : StandFrom (c + 1) us cells = λ k y e. let next : c + 1 + k ≡ c + suc k = omega arith in ap (slice_get cells) next ∙ stand (suc k) y e in
    ap (λ y. y ∷ cells_from cells (c + 1) (length us)) here ∙ ap (λ ys. z ∷ ys) (from-stands us cells (c + 1) later)

sent-is : (action : coded.Action) (cells : List ℤ) (p : ℕ) (sent : List (List ℤ))
    → ((q : ℕ) (us : List ℤ) → slice_get sent q ≡ Some us → cells_from cells (coded.number_on action.sends (p + q)) (coded.number_on action.gives (p + q)) ≡ us)
    → lowered.sent_from action cells p (length sent) ≡ sent
sent-is action cells p [] each = refl
sent-is action cells p (us ∷ sent) each =
    let none : p + 0 ≡ p = omega arith in
    let here : cells_from cells (coded.number_on action.sends p) (coded.number_on action.gives p) ≡ us =
    subst (λ n. cells_from cells (coded.number_on action.sends n) (coded.number_on action.gives n) ≡ us) none (each 0 us refl) in
    ap (λ zs. zs ∷ lowered.sent_from action cells (suc p) (length sent)) here
    ∙ ap (λ zs. us ∷ zs) (sent-is action cells (suc p) sent (λ q vs e.
    let next : p + suc q ≡ suc p + q = omega arith in
    subst (λ n. cells_from cells (coded.number_on action.sends n) (coded.number_on action.gives n) ≡ vs) next (each (suc q) vs e)))

-- cells that hold what an action sends hold it port by port, if the cells of each port are named
pub sent-from : (actor : Actor) (a : ℕ) (act : Action) (action : coded.Action) (firsts : List ℕ) (sent : List (List ℤ)) (cells : List ℤ)
    → action.sends ≡ map (first_on act.outputs firsts) (range_with_len 0 (length actor.outs)) → action.gives ≡ gives_of actor a
    → length sent ≡ length actor.outs → ((port : ℕ) → port < length actor.outs → length (slice_index_or sent port []) ≡ give actor a port)
    → HoldSent act.outputs firsts sent cells → lowered.sent_from action cells 0 (length actor.outs) ≡ sent
sent-from actor a act action firsts sent cells sends gives all many hold =
    subst (λ n. lowered.sent_from action cells 0 n ≡ sent) all (sent-is action cells 0 sent (λ q us e.
    let low : q < length actor.outs = let h = below sent q us e in omega (arith, h, all) in
    let same : 0 + q ≡ q = omega arith in
    let first : coded.number_on action.sends q ≡ first_on act.outputs firsts q =
    ap (λ ns. slice_index_or ns q 0) sends ∙ get_or-map-range_with_len (first_on act.outputs firsts) 0 (length actor.outs) q q 0 low (omega arith) in
    let count : coded.number_on action.gives q ≡ length us =
    ap (λ ns. slice_index_or ns q 0) gives ∙ get_or-map-range_with_len (give actor a) 0 (length actor.outs) q q 0 low (omega arith)
    ∙ sym (many q low) ∙ ap length (found sent q us [] e) in
    subst (λ n. cells_from cells (coded.number_on action.sends n) (coded.number_on action.gives n) ≡ us) (sym same)
    (ap (λ c. cells_from cells c (coded.number_on action.gives q)) first ∙ ap (cells_from cells (first_on act.outputs firsts q)) count
    ∙ from-stands us cells (first_on act.outputs firsts q) (hold q us e))))

-- the cells of one port more
pub sends-more : (f : ℕ → ℕ) (old new : List ℕ) (n k : ℕ) → new ≡ old ++ k ∷ [] → old ≡ map f (range_with_len 0 n) → k ≡ f n → new ≡ map f (range_with_len 0 (n + 1))
sends-more f old new n k put are is =
    put ∙ ap (λ xs. xs ++ k ∷ []) are ∙ ap (λ m. map f (range_with_len 0 n) ++ m ∷ []) is ∙ sym (map-range_with_len_more f 0 n n (omega arith))
