-- A body that is a straight line keeps the facts of guards and firings.
use Rattle.std.proofs.Common.{◌≡◌, ◌≢◌, ℕ, zero, suc, ◌+◌, ◌<◌, ◌≤◌, ◌⊎◌, inl, inr, min, ℤ, pos, Bool, true, false, ◌&&◌, ◌||◌, List, [], ◌∷◌, length, take, refl, sym, ap, subst, ◌∙◌, arith, Some}
use Rattle.std.specs.Prelude.{nat_le, ◌==◌, slice_get, Contains}
use Rattle.std.specs.List.{list_all}
use Rattle.std.proofs.lemmas.Bool.{leb-true, eqb-true, cases_lt}
use Rattle.std.proofs.lemmas.List.{length-take, get_or-take, ext_get_or}
use Rattle.std.proofs.lemmas.Option.{slice_get-get_or, slice_get_past}
use Rattle.code_ir.specs.declared.outcome.Outcome.{Outcome}
use Rattle.code_ir.specs.declared.instr.Instr.{Instr}
use Rattle.code_ir.specs.Code.{Code, is_among}
use Rattle.code_ir.specs.Effect.{cell}
use Rattle.code_ir.specs.Running.{State, step, Stuck, Reaches, start, runs}
use Rattle.code_ir.specs.Typing.{IsAdmitted}
use Rattle.lowered_actor.specs.declared.parts.StateCell.{StateCell}
use Rattle.lowered_actor.specs.Actor.{Action, Actor, number_on}
use Rattle.lowered_actor.specs.Facts.{IsAsked, IsSaved, Fits, FitTogether, RunRight, IsAnswer, IsEffect, IsGuard, IsFiring, SameState, cells_from}
use Rattle.lowered_actor.specs.Straight.{is_saved, may_store, is_line, stores, stores_each, stores_sent, body_at, is_straight_guard, are_straight_guards, is_straight_firing, is_straight, are_straight}
use Rattle.lowered_actor.proofs.Running.{all-at as all-fits, all-among as among-all}
use Rattle.lowered_actor.proofs.StraightRuns.{Ended, ended, at}

-- what is known of runs of admitted code
abbrev pub NeverStuck : Type 0
NeverStuck = (code : Code) (e : ℕ) (cells : List ℤ) (tokens : ℕ → List ℤ) (s : State) → IsAdmitted code → is_among e code.entries ≡ true
    → length cells ≡ code.cells → Reaches code tokens (start e cells) s → step code tokens s ≢ Stuck

abbrev pub OneEnd : Type 0
OneEnd = (code : Code) (e : ℕ) (cells : List ℤ) (tokens : ℕ → List ℤ) (o p : Outcome) (c d : List ℤ)
    → runs code e cells tokens o c → runs code e cells tokens p d → (o ≡ p) × (c ≡ d)

both-true : (a b : Bool) → (a && b) ≡ true → (a ≡ true) × (b ≡ true)
both-true true true h = (refl, refl)
both-true true false h = absurd (grind arith)
both-true false b h = absurd (grind arith)

no-le : (n m : ℕ) → m < n → nat_le n m ≡ false
no-le n m low = by (nat_le n m) refl
  where
    by : (b : Bool) → nat_le n m ≡ b → nat_le n m ≡ false
    by true e = absurd (let h = leb-true n m e in omega (arith, h, low))
    by false e = e

-- ---- cells

same-cell : (xs ys : List ℤ) (c : ℕ) → length xs ≡ length ys → cell xs c ≡ cell ys c → slice_get xs c ≡ slice_get ys c
same-cell xs ys c sizes same = by (cases_lt c (length xs))
  where
    by : (c < length xs) ⊎ (length xs ≤ c) → slice_get xs c ≡ slice_get ys c
    by (inl low) = slice_get-get_or xs c (pos 0) low ∙ (ap Some same ∙ sym (slice_get-get_or ys c (pos 0) (omega (arith, low, sizes))))
    by (inr high) = slice_get_past xs c high ∙ sym (slice_get_past ys c (omega (arith, high, sizes)))

same-take : (n : ℕ) (xs ys : List ℤ) → length xs ≡ length ys → ((c : ℕ) → c < n → cell xs c ≡ cell ys c) → take n xs ≡ take n ys
same-take n xs ys sizes same =
    let one : length (take n xs) ≡ min n (length xs) = length-take n xs in
    let other : length (take n ys) ≡ min n (length ys) = length-take n ys in
    ext_get_or (pos 0) (take n xs) (take n ys) (one ∙ (ap (min n) sizes ∙ sym other))
    (λ c low. let within : c < n = omega (arith, low, one) in get_or-take n xs c (pos 0) within ∙ (same c within ∙ sym (get_or-take n ys c (pos 0) within)))

saved-is : (saved : List StateCell) (c : ℕ) → is_saved saved c ≡ true → (k : ℕ) × (one : StateCell) × (slice_get saved k ≡ Some one) × (one.cell ≡ c)
saved-is [] c h = absurd (grind arith)
saved-is (x ∷ saved) c h = by (x.cell == c) refl h (saved-is saved c)
  where
    by : (b : Bool) → (x.cell == c) ≡ b → (b || is_saved saved c) ≡ true
        → (is_saved saved c ≡ true → (k : ℕ) × (one : StateCell) × (slice_get saved k ≡ Some one) × (one.cell ≡ c))
        → (k : ℕ) × (one : StateCell) × (slice_get (x ∷ saved) k ≡ Some one) × (one.cell ≡ c)
    by true e h more = (0, x, refl, eqb-true x.cell c e)
    by false e h more = let found = more h in (suc found.0, found.1, found.2, found.3)

-- a state cell that isn't saved is never written
kept-alone : (actor : Actor) (c : ℕ) → c < actor.kept → ¬ IsSaved actor c → may_store actor true c ≡ false
kept-alone actor c low none = ap (λ b. b || is_saved actor.saved c) (no-le actor.kept c low) ∙ by (is_saved actor.saved c) refl
  where
    by : (b : Bool) → is_saved actor.saved c ≡ b → is_saved actor.saved c ≡ false
    by true e = absurd (none (saved-is actor.saved c e))
    by false e = e

each-sent : (left last : List ℤ) (line : List Instr) (c n : ℕ) → stores_each c n line ≡ true
    → ((d : ℕ) → stores d line ≡ true → cell left d ≡ cell last d) → cells_from left c n ≡ cells_from last c n
each-sent left last line c zero all same = refl
each-sent left last line c (suc n) all same =
    let both = both-true (stores c line) (stores_each (c + 1) n line) all in
    ap (λ v. v ∷ cells_from left (c + 1) n) (same c both.0) ∙ ap (λ vs. cell last c ∷ vs) (each-sent left last line (c + 1) n both.1 same)

sent-on : (action : Action) (line : List Instr) (n p : ℕ) → stores_sent action n line ≡ true → p < n
    → stores_each (number_on action.sends p) (number_on action.gives p) line ≡ true
sent-on action line zero p all low = absurd (omega (arith, low))
sent-on action line (suc n) p all low =
    let both = both-true (stores_sent action n line) (stores_each (number_on action.sends n) (number_on action.gives n) line) all in
    by both.1 (sent-on action line n p both.0) (cases_lt p n)
  where
    by : stores_each (number_on action.sends n) (number_on action.gives n) line ≡ true
        → (p < n → stores_each (number_on action.sends p) (number_on action.gives p) line ≡ true)
        → (p < n) ⊎ (n ≤ p) → stores_each (number_on action.sends p) (number_on action.gives p) line ≡ true
    by here earlier (inl less) = earlier less
    by here earlier (inr more) =
        let same : n ≡ p = omega (arith, more, low) in
        subst (λ q. stores_each (number_on action.sends q) (number_on action.gives q) line ≡ true) same here

-- ---- bodies

module _ (actor : Actor) (admitted : IsAdmitted actor.code) (never : NeverStuck) (once : OneEnd) (action : Action) (entry : ℕ)
    (among : is_among entry actor.code.entries ≡ true) where
  safe : (cells : List ℤ) (tokens : ℕ → List ℤ) → length cells ≡ actor.code.cells → (u : State)
      → Reaches actor.code tokens (start entry cells) u → step actor.code tokens u ≢ Stuck
  safe cells tokens size u r = never actor.code entry cells tokens u admitted among size r

  ends : (firing : Bool) → is_line actor action firing (body_at actor entry) ≡ true → (cells others : List ℤ) (tokens : ℕ → List ℤ)
      → (asked : IsAsked actor action cells tokens) → IsAsked actor action others tokens → SameState actor cells others
      → Ended actor action firing tokens asked.tokens_there (body_at actor entry) (at entry [] cells) (at entry [] others)
  ends firing line cells others tokens asked also same =
      ended actor action firing tokens asked.tokens_there (body_at actor entry) entry [] cells others refl line same
      (asked.cells_there ∙ sym also.cells_there) (safe cells tokens asked.cells_there) (safe others tokens also.cells_there)

  pub guard-keeps : is_straight_guard actor action entry ≡ true → IsGuard actor action entry
  guard-keeps line = record {
    reads = λ cells tokens asked. (ends false line cells cells tokens asked asked refl).reads;
    answers = λ cells tokens o left asked run.
        let e = ends false line cells cells tokens asked asked refl in
        subst IsAnswer (once actor.code entry cells tokens e.o o e.left left e.one run).0 e.right;
    keeps = λ cells tokens o left asked run.
        let e = ends false line cells cells tokens asked asked refl in
        subst (λ l. SameState actor l cells) (once actor.code entry cells tokens e.o o e.left left e.one run).1
        (same-take actor.kept e.left cells e.size (λ c low. e.keeps c (ap (λ b. b || (false && is_saved actor.saved c)) (no-le actor.kept c low))));
    alike = λ cells others tokens o p left last asked also same run other.
        let e = ends false line cells others tokens asked also same in
        sym (once actor.code entry cells tokens e.o o e.left left e.one run).0 ∙ (once actor.code entry others tokens e.o p e.last last e.other other).0;
  }

  pub firing-keeps : is_line actor action true (body_at actor entry) ≡ true → stores_sent action actor.outs (body_at actor entry) ≡ true → IsFiring actor action entry
  firing-keeps line stored = record {
    reads = λ cells tokens asked. (ends true line cells cells tokens asked asked refl).reads;
    ends = λ cells tokens o left asked run.
        let e = ends true line cells cells tokens asked asked refl in
        subst IsEffect (once actor.code entry cells tokens e.o o e.left left e.one run).0 e.right;
    keeps = λ cells tokens o left asked run c low none.
        let e = ends true line cells cells tokens asked asked refl in
        subst (λ l. slice_get l c ≡ slice_get cells c) (once actor.code entry cells tokens e.o o e.left left e.one run).1
        (same-cell e.left cells c e.size (e.keeps c (kept-alone actor c low none)));
    alike = λ cells others tokens o p left last asked also same run other.
        let e = ends true line cells others tokens asked also same in
        let one = once actor.code entry cells tokens e.o o e.left left e.one run in
        let two = once actor.code entry others tokens e.o p e.last last e.other other in (
          sym one.0 ∙ two.0,
          λ done. (
            sym (ap (take actor.kept) one.1) ∙ (e.same ∙ ap (take actor.kept) two.1),
            λ q low.
                ap (λ l. cells_from l (number_on action.sends q) (number_on action.gives q)) (sym one.1)
                ∙ (each-sent e.left e.last (body_at actor entry) (number_on action.sends q) (number_on action.gives q)
                (sent-on action (body_at actor entry) actor.outs q stored low) (λ d h. e.sent (one.0 ∙ done) d (inr h))
                ∙ ap (λ l. cells_from l (number_on action.sends q) (number_on action.gives q)) two.1),
          ),
        );
  }

-- ---- all of them

all-at : {X : Type 0} (test : X → Bool) (xs : List X) (k : ℕ) (x : X) → list_all test xs ≡ true → slice_get xs k ≡ Some x → test x ≡ true
all-at test [] k x all is = absurd (grind arith)
all-at test (y ∷ xs) k x all is = by k is (both-true (test y) (list_all test xs) all) (all-at test xs)
  where
    by : (k : ℕ) → slice_get (y ∷ xs) k ≡ Some x → (test y ≡ true) × (list_all test xs ≡ true)
        → ((k : ℕ) (x : _) → list_all test xs ≡ true → slice_get xs k ≡ Some x → test x ≡ true) → test x ≡ true
    by zero is both more = let same : y ≡ x = cc in subst (λ v. test v ≡ true) same both.0
    by (suc k) is both more = more k x both.1 is

all-among : (test : ℕ → Bool) (xs : List ℕ) (x : ℕ) → list_all test xs ≡ true → Contains xs x → test x ≡ true
all-among test xs x all (k, low, is) = all-at test xs k x all (slice_get-get_or xs k x low ∙ ap Some is)

pub straight-right : (actor : Actor) → IsAdmitted actor.code → NeverStuck → OneEnd → FitTogether actor → are_straight actor ≡ true → RunRight actor
straight-right actor admitted never once fits all = record {
  guards = λ a action entry there among.
      let parts = both-true (are_straight_guards actor action) (is_straight_firing actor action) (all-at (is_straight actor) actor.actions a action all there) in
      guard-keeps actor admitted never once action entry (among-all (λ e. is_among e actor.code.entries ≡ true) action.guards entry (all-fits (Fits actor) actor.actions a action fits.each there).guards among)
      (all-among (is_straight_guard actor action) action.guards entry parts.0 among);
  firings = λ a action there.
      let parts = both-true (are_straight_guards actor action) (is_straight_firing actor action) (all-at (is_straight actor) actor.actions a action all there) in
      let both = both-true (is_line actor action true (body_at actor action.fire)) (stores_sent action actor.outs (body_at actor action.fire)) parts.1 in
      firing-keeps actor admitted never once action action.fire (all-fits (Fits actor) actor.actions a action fits.each there).fire both.0 both.1;
}
