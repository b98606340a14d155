-- What loops over rows show once they are through.
use Rattle.std.proofs.Common.{◌≡◌, ℕ, zero, suc, ◌+◌, ◌<◌, ◌-◌, ◌≤◌, ◌⊎◌, inl, inr, Bool, true, false, ◌||◌, List, [], ◌∷◌, ◌++◌, length, refl, sym, ap, ◌∙◌, arith, ⊎_elim, subst, Option, None, Some}
use Rattle.std.specs.Prelude.{◌==◌, if◌then◌else◌, nat_le, slice_get, slice_index_or}
use Rattle.std.proofs.lemmas.List.{length-append}
use Rattle.std.proofs.lemmas.Bool.{leb-true, le-leb, cases_lt}
use Rattle.code_ir.specs.declared.instr.Instr.{Instr}
use Rattle.code_ir.specs.declared.instr.Instr.TheVariants as op
use Rattle.lowered_actor.specs.declared.parts.StateCell.{StateCell}
use Rattle.lowered_actor.specs.Actor.{Action, Actor}
use Rattle.lowered_actor.specs.Straight.{is_saved}
use Rattle.lower_scratch.specs.declared.body.Body.{Body}
use Rattle.lower_scratch.specs.declared.body.Last.{Last}
use Rattle.lower_scratch.specs.Rows.{Enters, Flows, is_among, is_said, is_set, row_at, writes}
use Rattle.lower_scratch.specs.Fitting.{AreRoutines, AreSet, FitsAll, FitsAt, IsRoutine, MayCall, MayEnter, Sends}
use Rattle.lower_scratch.proofs.Alike.{both-true, either-true}

right-true : (a b : Bool) → b ≡ true → (a || b) ≡ true
right-true true b h = refl
right-true false b h = h

-- a row says so only of cells that it has
in-row : (row : List Bool) (k : ℕ) → slice_index_or row k false ≡ true → k < length row
in-row [] k h = absurd (cc)
in-row (b ∷ row) zero h = omega arith
in-row (b ∷ row) (suc k) h = let low = in-row row k h in omega (arith, low)

-- a cell that is set is a state cell, or the row says so
set-is : (kept : ℕ) (body : Body) (p c : ℕ) → is_set kept body p c ≡ true → (c < kept) ⊎ ((body.low ≤ c) × (slice_index_or (row_at body p) (c - body.low) false ≡ true))
set-is kept body p c h =
    ⊎_elim (λ (low : nat_le (suc c) kept ≡ true). let le = leb-true (suc c) kept low in inl (omega (arith, le)))
    (λ (said : is_said body p c ≡ true). inr (go (nat_le (suc c) body.low) refl said))
    (either-true (nat_le (suc c) kept) (is_said body p c) h)
  where
    go : (b : Bool) → nat_le (suc c) body.low ≡ b → (if b then false else slice_index_or (row_at body p) (c - body.low) false) ≡ true → (body.low ≤ c) × (slice_index_or (row_at body p) (c - body.low) false ≡ true)
    go true is said = absurd (cc)
    go false is said =
        ⊎_elim (λ (less : c < body.low). let yes : nat_le (suc c) body.low ≡ true = le-leb (suc c) body.low (omega (arith, less)) in absurd (cc)) (λ (past : body.low ≤ c). (past, said)) (cases_lt c body.low)

set-below : (kept : ℕ) (body : Body) (p c : ℕ) → c < kept → is_set kept body p c ≡ true
set-below kept body p c low = ap (λ b. b || is_said body p c) (le-leb (suc c) kept (omega (arith, low)))

-- what holds of each cell of the row of a place, and of all state cells, holds of all that are set there
each-set : (P : ℕ → Type 0) (kept : ℕ) (body : Body) (p : ℕ) → ((c : ℕ) → c < kept → P c)
    → ((k : ℕ) → k < length (row_at body p) → slice_index_or (row_at body p) k false ≡ true → P (body.low + k)) → (c : ℕ) → is_set kept body p c ≡ true → P c
each-set P kept body p state each c set =
    ⊎_elim (λ (low : c < kept). state c low)
    (λ (high : (body.low ≤ c) × (slice_index_or (row_at body p) (c - body.low) false ≡ true)).
    let past = high.0 in
    let same : body.low + (c - body.low) ≡ c = omega (arith, past) in
    subst P same (each (c - body.low) (in-row (row_at body p) (c - body.low) high.1) high.1)) (set-is kept body p c set)

pub flows-all : (kept : ℕ) (body : Body) (instr : Instr) (p q n : ℕ) → length (row_at body q) ≤ n
    → ((k : ℕ) → k < n → slice_index_or (row_at body q) k false ≡ true → (is_set kept body p (body.low + k) ≡ true) ⊎ (writes instr (body.low + k) ≡ true)) → Flows kept body instr p q
flows-all kept body instr p q n far each =
    each-set (λ c. (is_set kept body p c ≡ true) ⊎ (writes instr c ≡ true)) kept body q (λ c low. inl (set-below kept body p c low))
    (λ k low row. each k (omega (arith, far, low)) row)

pub enters-all : (kept : ℕ) (callee body : Body) (p n : ℕ) → length (row_at callee callee.begin) ≤ n
    → ((k : ℕ) → k < n → slice_index_or (row_at callee callee.begin) k false ≡ true → is_set kept body p (callee.low + k) ≡ true) → Enters kept callee body p
enters-all kept callee body p n far each =
    each-set (λ c. is_set kept body p c ≡ true) kept callee callee.begin (λ c low. set-below kept body p c low) (λ k low row. each k (omega (arith, far, low)) row)

pub none-all : (kept : ℕ) (body : Body) (p n : ℕ) → length (row_at body p) ≤ n → ((k : ℕ) → k < n → slice_index_or (row_at body p) k false ≡ false) → (c : ℕ) → is_set kept body p c ≡ true → c < kept
none-all kept body p n far each =
    each-set (λ c. c < kept) kept body p (λ c low. low)
    (λ k low row. absurd (let no : true ≡ false = sym row ∙ each k (omega (arith, far, low)) in grind arith))

-- ---- cells that may be written

-- what stands among saved cells is one
pub saved-at : (saved : List StateCell) (k c : ℕ) (one : StateCell) → slice_get saved k ≡ Some one → (one.cell == c) ≡ true → is_saved saved c ≡ true
saved-at [] k c one e same = absurd (cc)
saved-at (s ∷ saved) zero c one e same =
    let is : s ≡ one = cc in
    ap (λ b. b || is_saved saved c) (ap (λ (x : StateCell). x.cell == c) is ∙ same)
saved-at (s ∷ saved) (suc k) c one e same = right-true (s.cell == c) (is_saved saved c) (saved-at saved k c one e same)

-- cells from one on are those behind it
pub each-behind : (P : ℕ → Type 0) (c n : ℕ) → ((k : ℕ) → k < n → P (c + k)) → (d : ℕ) → is_among c n d ≡ true → P d
each-behind P c n each d h =
    let two = both-true (nat_le c d) (nat_le (suc d) (c + n)) h in
    let low = leb-true c d two.0 in
    let high = leb-true (suc d) (c + n) two.1 in
    let same : c + (d - c) ≡ d = omega (arith, low) in
    subst P same (each (d - c) (omega (arith, low, high)))

-- ---- places

-- what holds of each place up to one, and there, holds up to the next one
pub up-to : (P : ℕ → Type 0) (begin q : ℕ) → ((p : ℕ) → begin ≤ p → p < q → P p) → P q → (p : ℕ) → begin ≤ p → p < q + 1 → P p
up-to P begin q all here p from low =
    ⊎_elim
    (λ (less : p < q). all p from less)
    (λ (past : q ≤ p). let same : q ≡ p = omega (arith, low, past) in subst P same here)
    (cases_lt p q)

pub fits-more : (actor : Actor) (routines : List (Option Body)) (firing : Bool) (needs : List ℕ) (end : Last) (body : Body) (q : ℕ) → FitsAll actor routines firing needs end body q
    → FitsAt actor routines firing needs end body q → FitsAll actor routines firing needs end body (q + 1)
fits-more actor routines firing needs end body q = up-to (FitsAt actor routines firing needs end body) body.begin q

pub fits-whole : (actor : Actor) (routines : List (Option Body)) (firing : Bool) (needs : List ℕ) (end : Last) (body : Body) (q to : ℕ) → to ≤ q → FitsAll actor routines firing needs end body q
    → FitsAll actor routines firing needs end body to
fits-whole actor routines firing needs end body q to far all p from low = all p from (omega (arith, far, low))

pub sends-more : (actor : Actor) (action : Action) (body : Body) (q : ℕ) → Sends actor action body q → (slice_get actor.code.instrs q ≡ Some op.Done → AreSet actor action body q) → Sends actor action body (q + 1)
sends-more actor action body q = up-to (λ p. slice_get actor.code.instrs p ≡ Some op.Done → AreSet actor action body p) body.begin q

pub sends-whole : (actor : Actor) (action : Action) (body : Body) (q to : ℕ) → to ≤ q → Sends actor action body q → Sends actor action body to
sends-whole actor action body q to far all p from low = all p from (omega (arith, far, low))

-- ---- calls

pub may-call : (actor : Actor) (routines : List (Option Body)) (body : Body) (p r : ℕ) (o : Option Body) → slice_get routines r ≡ Some o → MayEnter actor.kept o body p → MayCall actor routines body p r
may-call actor routines body p r None there h = absurd h
may-call actor routines body p r (Some callee) there h = record { callee = callee; there = there; enters = h }

-- ---- routines

still-there : {A : Type 0} (xs more : List A) (r : ℕ) (x : A) → slice_get xs r ≡ Some x → slice_get (xs ++ more) r ≡ Some x
still-there [] more r x e = absurd (cc)
still-there (y ∷ xs) more zero x e = e
still-there (y ∷ xs) more (suc r) x e = still-there xs more r x e

last-or-before : {A : Type 0} (xs : List A) (y : A) (k : ℕ) (x : A) → slice_get (xs ++ y ∷ []) k ≡ Some x → (slice_get xs k ≡ Some x) ⊎ ((k ≡ length xs) × (y ≡ x))
last-or-before [] y zero x e = inr (refl, cc)
last-or-before [] y (suc k) x e = absurd (cc)
last-or-before (z ∷ xs) y zero x e = inl e
last-or-before (z ∷ xs) y (suc k) x e =
    ⊎_elim (λ h. inl h) (λ (h : (k ≡ length xs) × (y ≡ x)). inr ((let s = h.0 in omega (arith, s)), h.1)) (last-or-before xs y k x e)

-- with more routines known a routine keeps the facts still
routine-grows : (actor : Actor) (firing : Bool) (xs more : List (Option Body)) (r : ℕ) (body : Body) → IsRoutine actor xs firing r body → IsRoutine actor (xs ++ more) firing r body
routine-grows actor firing xs more r body h = record {
  starts = h.starts;
  fits = record {
    some = h.fits.some;
    each = λ p from low instr e.
        let one = h.fits.each p from low instr e in
        record {
          may = one.may;
          reads = one.reads;
          next = one.next;
          jump = one.jump;
          calls = λ k is. let c = one.calls k is in record { callee = c.callee; there = still-there xs more k (Some c.callee) c.there; enters = c.enters };
        };
  };
}

pub routines-more : (actor : Actor) (firing : Bool) (xs now : List (Option Body)) (o : Option Body) (n : ℕ) → now ≡ xs ++ o ∷ [] → AreRoutines actor firing xs → length xs ≡ n
    → ((body : Body) → o ≡ Some body → IsRoutine actor xs firing n body) → AreRoutines actor firing now × (length now ≡ n + 1)
routines-more actor firing xs now o n is are count one = (
  λ r body e.
      subst (λ rs. IsRoutine actor rs firing r body) (sym is)
      (routine-grows actor firing xs (o ∷ []) r body
      (⊎_elim (λ (h : slice_get xs r ≡ Some (Some body)). are r body h)
      (λ (h : (r ≡ length xs) × (o ≡ Some body)). subst (λ k. IsRoutine actor xs firing k body) (sym count ∙ sym h.0) (one body h.1))
      (last-or-before xs o r (Some body) (ap (λ rs. slice_get rs r) (sym is) ∙ e)))),
  (let e = ap length is in let f = length-append xs (o ∷ []) in omega (arith, e, f, count)),
)
