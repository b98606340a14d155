-- A body that fits keeps the facts of guards and firings.
use Rattle.std.proofs.Common.{◌≡◌, ℕ, zero, suc, ◌+◌, ◌<◌, ◌≤◌, ◌⊎◌, inl, inr, min, ℤ, pos, Bool, true, false, ◌&&◌, ◌||◌, List, [], ◌∷◌, length, take, refl, sym, ap, subst, ◌∙◌, arith, Some}
use Rattle.std.specs.Prelude.{nat_le, ◌==◌, slice_get}
use Rattle.std.proofs.lemmas.Bool.{leb-true, eqb-true, cases_lt}
use Rattle.std.proofs.lemmas.List.{length-take, get_or-take, ext_get_or}
use Rattle.std.proofs.lemmas.Option.{slice_get-get_or, slice_get_past}
use Rattle.rvc_base.specs.Turns.{max_turns}
use Rattle.code_ir.specs.declared.outcome.Outcome.{Outcome}
use Rattle.code_ir.specs.Code.{Code}
use Rattle.code_ir.specs.Effect.{cell}
use Rattle.code_ir.specs.Running.{HasItsTokens, runs}
use Rattle.lowered_actor.specs.declared.parts.StateCell.{StateCell}
use Rattle.lowered_actor.specs.Actor.{Action, Actor, number_on}
use Rattle.lowered_actor.specs.Facts.{IsAsked, IsSaved, IsGuard, IsFiring, SameState, cells_from}
use Rattle.lowered_actor.specs.Straight.{is_saved, may_store}
use Rattle.lower_scratch.proofs.Spans.{HasSpan}
use Rattle.lower_scratch.proofs.Alike.{Inside, Runs, never-lacks, runs-alike}

-- what is known of runs
abbrev pub OneEnd : Type 0
OneEnd = (code : Code) (e : ℕ) (cells : List ℤ) (tokens : ℕ → List ℤ) (o p : Outcome) (c d : List ℤ)
    → runs code e cells tokens o c → runs code e cells tokens p d → (o ≡ p) × (c ≡ d)

no-le : (n m : ℕ) → m < n → nat_le n m ≡ false
no-le n m low = by (nat_le n m) refl
  where
    by : (b : Bool) → nat_le n m ≡ b → nat_le n m ≡ false
    by true e = absurd (let h = leb-true n m e in omega (arith, h, low))
    by false e = e

-- ---- cells

same-cell : (xs ys : List ℤ) (c : ℕ) → length xs ≡ length ys → cell xs c ≡ cell ys c → slice_get xs c ≡ slice_get ys c
same-cell xs ys c sizes same = by (cases_lt c (length xs))
  where
    by : (c < length xs) ⊎ (length xs ≤ c) → slice_get xs c ≡ slice_get ys c
    by (inl low) = slice_get-get_or xs c (pos 0) low ∙ (ap Some same ∙ sym (slice_get-get_or ys c (pos 0) (omega (arith, low, sizes))))
    by (inr high) = slice_get_past xs c high ∙ sym (slice_get_past ys c (omega (arith, high, sizes)))

same-take : (n : ℕ) (xs ys : List ℤ) → length xs ≡ length ys → ((c : ℕ) → c < n → cell xs c ≡ cell ys c) → take n xs ≡ take n ys
same-take n xs ys sizes same =
    let one : length (take n xs) ≡ min n (length xs) = length-take n xs in
    let other : length (take n ys) ≡ min n (length ys) = length-take n ys in
    ext_get_or (pos 0) (take n xs) (take n ys) (one ∙ (ap (min n) sizes ∙ sym other))
    (λ c low. let within : c < n = omega (arith, low, one) in get_or-take n xs c (pos 0) within ∙ (same c within ∙ sym (get_or-take n ys c (pos 0) within)))

below-take : (n : ℕ) (xs ys : List ℤ) (c : ℕ) → take n xs ≡ take n ys → c < n → cell xs c ≡ cell ys c
below-take n xs ys c same low = sym (get_or-take n xs c (pos 0) low) ∙ (ap (λ l. cell l c) same ∙ get_or-take n ys c (pos 0) low)

saved-is : (saved : List StateCell) (c : ℕ) → is_saved saved c ≡ true → (k : ℕ) × (one : StateCell) × (slice_get saved k ≡ Some one) × (one.cell ≡ c)
saved-is [] c h = absurd (cc)
saved-is (x ∷ saved) c h = by (x.cell == c) refl h (saved-is saved c)
  where
    by : (b : Bool) → (x.cell == c) ≡ b → (b || is_saved saved c) ≡ true
        → (is_saved saved c ≡ true → (k : ℕ) × (one : StateCell) × (slice_get saved k ≡ Some one) × (one.cell ≡ c))
        → (k : ℕ) × (one : StateCell) × (slice_get (x ∷ saved) k ≡ Some one) × (one.cell ≡ c)
    by true e h more = (0, x, refl, eqb-true x.cell c e)
    by false e h more = let found = more h in (suc found.0, found.1, found.2, found.3)

-- a state cell that isn't saved is never written
kept-alone : (actor : Actor) (c : ℕ) → c < actor.kept → ¬ IsSaved actor c → may_store actor true c ≡ false
kept-alone actor c low none = ap (λ b. b || is_saved actor.saved c) (no-le actor.kept c low) ∙ by (is_saved actor.saved c) refl
  where
    by : (b : Bool) → is_saved actor.saved c ≡ b → is_saved actor.saved c ≡ false
    by true e = absurd (none (saved-is actor.saved c e))
    by false e = e

each-sent : (left last : List ℤ) (c n : ℕ) → ((k : ℕ) → k < n → cell left (c + k) ≡ cell last (c + k)) → cells_from left c n ≡ cells_from last c n
each-sent left last c zero same = refl
each-sent left last c (suc n) same =
    let none : c + 0 ≡ c = omega arith in
    let here : cell left c ≡ cell last c = subst (λ d. cell left d ≡ cell last d) none (same 0 (omega arith)) in
    ap (λ v. v ∷ cells_from left (c + 1) n) here
    ∙ ap (λ vs. cell last c ∷ vs) (each-sent left last (c + 1) n (λ k low. let next : c + suc k ≡ c + 1 + k = omega arith in subst (λ d. cell left d ≡ cell last d) next (same (suc k) (omega (arith, low)))))

-- ---- bodies

module _ (actor : Actor) (once : OneEnd) (action : Action) (firing : Bool) (entry : ℕ) (has : HasSpan actor action firing entry) where
  module _ (cells others : List ℤ) (tokens : ℕ → List ℤ) (asked : IsAsked actor action cells tokens) (also : IsAsked actor action others tokens) (same : SameState actor cells others) where
    enough : (p : ℕ) → number_on action.needs p ≤ length (tokens p)
    enough p = let e = asked.tokens_there p in omega (arith, e)

    starts : Inside actor firing tokens has.routines has.are action enough has.body has.fits has.sends entry [] cells others
    starts = subst (λ p. Inside actor firing tokens has.routines has.are action enough has.body has.fits has.sends p [] cells others) has.begins (record {
      sizes = asked.cells_there ∙ sym also.cells_there;
      are = record {
        from = omega arith;
        to = has.fits.some;
        agree = λ c set. below-take actor.kept cells others c same (has.first c set);
      };
    })

    ends : (o : Outcome) (left : List ℤ) → runs actor.code entry cells tokens o left
        → Runs actor firing tokens has.routines has.are action enough has.body has.fits has.sends entry max_turns [] [] cells others o left
    ends o left run = runs-alike actor firing tokens has.routines has.are action enough has.body has.fits has.sends run entry max_turns [] [] cells others refl starts

  module _ (cells : List ℤ) (tokens : ℕ → List ℤ) (asked : IsAsked actor action cells tokens) where
    abbrev alone : (o : Outcome) (left : List ℤ) → runs actor.code entry cells tokens o left
        → Runs actor firing tokens has.routines has.are action (enough cells cells tokens asked asked refl) has.body has.fits has.sends entry max_turns [] [] cells cells o left
    alone o left run = ends cells cells tokens asked asked refl o left run

    lacks-none : HasItsTokens actor.code entry cells tokens
    lacks-none u r =
        never-lacks actor firing tokens has.routines has.are action (enough cells cells tokens asked asked refl) has.body has.fits has.sends r entry max_turns [] [] cells refl (starts cells cells tokens asked asked refl)

pub guard-keeps : (actor : Actor) → OneEnd → (action : Action) (entry : ℕ) → HasSpan actor action false entry → IsGuard actor action entry
guard-keeps actor once action entry has = record {
  reads = λ cells tokens asked. lacks-none actor once action false entry has cells tokens asked;
  answers = λ cells tokens o left asked run. (alone actor once action false entry has cells tokens asked o left run).ended.right;
  keeps = λ cells tokens o left asked run.
      let e = (alone actor once action false entry has cells tokens asked o left run).ended in
      same-take actor.kept left cells e.size (λ c low. e.keeps c (ap (λ b. b || (false && is_saved actor.saved c)) (no-le actor.kept c low)));
  alike = λ cells others tokens o p left last asked also same run other.
      let e = ends actor once action false entry has cells others tokens asked also same o left run in
      (once actor.code entry others tokens o p e.last last e.other other).0;
}

pub firing-keeps : (actor : Actor) → OneEnd → (action : Action) (entry : ℕ) → HasSpan actor action true entry → IsFiring actor action entry
firing-keeps actor once action entry has = record {
  reads = λ cells tokens asked. lacks-none actor once action true entry has cells tokens asked;
  ends = λ cells tokens o left asked run. (alone actor once action true entry has cells tokens asked o left run).ended.right;
  keeps = λ cells tokens o left asked run c low none.
      let e = (alone actor once action true entry has cells tokens asked o left run).ended in
      same-cell left cells c e.size (e.keeps c (kept-alone actor c low none));
  alike = λ cells others tokens o p left last asked also same run other.
      let e = ends actor once action true entry has cells others tokens asked also same o left run in
      let two = once actor.code entry others tokens o p e.last last e.other other in (
        two.0,
        λ done. (
          same-take actor.kept left e.last e.ended.sizes e.ended.same ∙ ap (take actor.kept) two.1,
          λ q low.
              each-sent left e.last (number_on action.sends q) (number_on action.gives q) (λ k less. e.ended.sent done q k low less)
              ∙ ap (λ l. cells_from l (number_on action.sends q) (number_on action.gives q)) two.1,
        ),
      );
}
