-- What the slots hold when one seat stands for all passes.
use Rattle.std.proofs.Common.{◌≡◌, ◌⊎◌, inl, inr, slice_index_or, false, ℕ, zero, suc, ◌+◌, ◌<◌, ◌≤◌, List, [], ◌∷◌, ◌++◌, length, slice_get, Some, Bool, true, Any, sym, refl, ap, ◌∙◌, subst, lt_of_not-le, arith}
use Rattle.std.proofs.lemmas.Option.{slice_get_within}
use mathlib.Core.Logic.{dite}
use native.Mathlib.Decide.{ℕ_discrete, dec_le}
use mathlib.Core.Option.{some, some-injective, some-ne-none}
use lib.ListN.{get_elem?}
use Rattle.atomic_table.specs.Table.{State, Final, Seen}
use Rattle.claim_board.specs.declared.slot.Slot.{Slot}
use Rattle.claim_board.specs.declared.slot.Slot.TheVariants.{Holds}
use Rattle.claim_board.specs.declared.view.View.{View}
use Rattle.claim_board.specs.Pieces.{IsAsPut, IsWorked}
use Rattle.claim_board.specs.Counts.{total, times, once_below}
use Rattle.claim_board.specs.Rule.{blank, IsRoom, Kept}
use Rattle.claim_board.specs.Steps.{Seated}
use Rattle.claim_board.specs.Seen.{PassSeen, times_drawn, EachDrawnOnce, AtEachPlace, Gathered}
use Rattle.claim_board.specs.Layout.{holding, IsLaidOut, pieces_of}
use Rattle.claim_board.proofs.Sums.{term_le, once-within, once-beyond, once-some}
use Rattle.claim_board.proofs.Keeps.{piece_at}
use Rattle.claim_board.proofs.Passes.{same-held, put-as-put}
use Rattle.claim_board.proofs.Slots.{pieces_of-holding, held-at}

module _ {P : Type 0} where
  abbrev passes-of : View P → ℕ
  passes-of v = v.passes

  -- a view that stands for no pass knows nothing
  abbrev Spent : List (View P) → Type 0
  Spent views = (j : ℕ) (u : View P) → get_elem? views j ≡ some u → u.passes ≡ 0 → u ≡ blank

  none-left : (f : View P → ℕ) → f blank ≡ 0 → (views : List (View P)) → total passes-of views ≡ 0 → Spent views → total f views ≡ 0
  none-left f zero-blank [] e spent = refl
  none-left f zero-blank (u ∷ us) e spent = omega (arith, ap f (spent 0 u refl (omega (arith, e))), zero-blank, none-left f zero-blank us (omega (arith, e)) (λ j w at none. spent (suc j) w at none))

  -- if one view stands for all passes, it knows all
  alone : (f : View P → ℕ) → f blank ≡ 0 → (views : List (View P)) (id : ℕ) (v : View P) → get_elem? views id ≡ some v → total passes-of views ≡ v.passes → Spent views → total f views ≡ f v
  alone f zero-blank [] id v at e spent = absurd (some-ne-none v (sym at))
  alone f zero-blank (u ∷ us) zero v at e spent =
      let is : u ≡ v = some-injective u v at in
      omega (arith, ap f is, none-left f zero-blank us (omega (arith, e, ap passes-of is)) (λ j w there none. spent (suc j) w there none))
  alone f zero-blank (u ∷ us) (suc id) v at e spent =
      let gone : u.passes ≡ 0 = omega (arith, e, term_le passes-of us id v at) in
      omega (arith, ap f (spent 0 u refl gone), zero-blank, alone f zero-blank us id v at (omega (arith, e, gone)) (λ j w there none. spent (suc j) w there none))

  -- slots that hold a piece each, but for the last one
  pub held-all : (xs : List (Slot P)) (n : ℕ) (room : Slot P) → length xs ≡ n + 1 → ((k : ℕ) → k < n → (p : P) × (get_elem? xs k ≡ some (Holds p))) → get_elem? xs n ≡ some room
      → (ps : List P) × (xs ≡ holding ps ++ room ∷ []) × (length ps ≡ n)
  held-all [] n room long held last = absurd (omega (arith, long))
  held-all (x ∷ []) zero room long held last = ([], ap (λ (s : Slot P). s ∷ []) (some-injective x room last), refl)
  held-all (x ∷ y ∷ ys) zero room long held last = absurd (omega (arith, long))
  held-all (x ∷ xs) (suc n) room long held last =
      let first = held 0 (omega arith) in
      let rest = held-all xs n room (omega (arith, long)) (λ k lt. held (suc k) (omega (arith, lt))) last in
      (first.0 ∷ rest.0, (λ i. some-injective x (Holds first.0) first.1 i ∷ rest.1 i), ap suc rest.2)

-- what close gives
pub record Closes {P X : Type 0} (state : P → X) (marked : P → Bool) (works : X → X → Type 0) (put : List P) (passes : List (PassSeen P)) (slots : List (Slot P)) : Type 0 where
  pub laid : IsLaidOut (pieces_of slots) slots
  pub long : length (pieces_of slots) ≡ length put
  pub drawn : AtEachPlace (λ place piece. 0 < times_drawn place passes → IsWorked state marked works put place piece) (pieces_of slots)
  pub left : AtEachPlace (λ place piece. times_drawn place passes ≡ 0 → slice_get put place ≡ Some piece) (pieces_of slots)
  pub once : EachDrawnOnce put passes
  pub ended : Any (λ pass. pass.ended ≡ true) passes → AtEachPlace (λ place piece. IsWorked state marked works put place piece) (pieces_of slots)

module _ {P X : Type 0} (state : P → X) (marked : P → Bool) (works : X → X → Type 0) (put : List P) (ps : List (PassSeen P)) (s : State (Slot P) (View P))
    (k : Kept state marked works put (length ps) s) (id : ℕ) (me : Seated P) (at : get_elem? s.views id ≡ some me.0) (all : Gathered put ps me) where
  drawn-is : (n : ℕ) → times n me.0.drawn ≡ once_below k.counter n
  drawn-is n = sym (alone (λ u. times n u.drawn) refl s.views id me.0 at (k.shared_out ∙ sym all.count) (λ j u e. (k.each_view j u e).spent)) ∙ k.drawn_once n

  -- a place is drawn if it lies below the counter
  below-drawn : (place : ℕ) → place < length put → place < k.counter → times_drawn place ps ≡ 1
  below-drawn place lt below = sym (all.drawn place lt) ∙ drawn-is place ∙ once-within k.counter place below

  above-drawn : (place : ℕ) → place < length put → k.counter ≤ place → times_drawn place ps ≡ 0
  above-drawn place lt above = sym (all.drawn place lt) ∙ drawn-is place ∙ once-beyond k.counter place above

  no-place : (place : ℕ) → length put ≤ place → times_drawn place ps ≡ 0
  no-place place le = dite (ℕ_discrete (times_drawn place ps) 0) (λ e. e) (λ ne. absurd (omega (arith, le, all.places place (omega (arith, ne, all.home place)))))

  At : ℕ → Type 0
  At place = (p : P) × (get_elem? s.homes place ≡ some (some (Holds p))) × (0 < times_drawn place ps → IsWorked state marked works put place p) × (times_drawn place ps ≡ 0 → slice_get put place ≡ Some p)

  at-place : (place : ℕ) → place < length put → At place
  unfolding At
  at-place place lt = dite (dec_le k.counter place)
      (λ above. let p = piece_at put place lt in let none = above-drawn place lt above in
      (p.0, k.waiting place p.0 above p.1, (λ yes. absurd (omega (arith, yes, none))), (λ _. p.1)))
      (λ no. let one = below-drawn place lt (lt_of_not-le no) in
      let b = (k.each_view id me.0 at).back place lt (omega (arith, one, all.home place)) in
      (b.0, b.1, (λ _. b.2), (λ none. absurd (omega (arith, none, one)))))

  drawn-once : EachDrawnOnce put ps
  drawn-once = dite (dec_le k.counter (length put))
      (λ le. (
        k.counter,
        le,
        (λ place. dite (dec_le (length put) place)
            (λ past. no-place place past ∙ sym (once-beyond k.counter place (omega (arith, past, le))))
            (λ no. sym (all.drawn place (lt_of_not-le no)) ∙ drawn-is place)),
      ))
      (λ more. (
        length put,
        omega arith,
        (λ place. dite (dec_le (length put) place)
            (λ past. no-place place past ∙ sym (once-beyond (length put) place past))
            (λ no. below-drawn place (lt_of_not-le no) (omega (arith, lt_of_not-le no, lt_of_not-le more)) ∙ sym (once-within (length put) place (lt_of_not-le no)))),
      ))

  pub closes : (xs : List (Slot P)) → length s.homes ≡ length xs → ((n : ℕ) (y : Slot P) → get_elem? s.homes n ≡ some (some y) → get_elem? xs n ≡ some y) → Closes state marked works put ps xs
  unfolding At
  closes xs long same =
      let room = k.room in let last = same (length put) room.0 room.1 in
      let held = held-all xs (length put) room.0 (sym long ∙ k.slots) (λ n lt. let h = at-place n lt in (h.0, same n (Holds h.0) h.1)) last in
      let is : pieces_of xs ≡ held.0 = ap (λ (l : List (Slot P)). pieces_of l) held.1 ∙ pieces_of-holding held.0 room.0 (subst (λ n. IsRoom n room.0) (sym held.2) room.2) in
      let count : length (pieces_of xs) ≡ length put = ap (λ (l : List P). length l) is ∙ held.2 in
      let found : (place : ℕ) (piece : P) → slice_get (pieces_of xs) place ≡ Some piece → get_elem? xs place ≡ some (Holds piece) =
      λ place piece e. ap (λ (l : List (Slot P)). get_elem? l place) held.1 ∙ held-at held.0 room.0 place piece (subst (λ (l : List P). slice_get l place ≡ Some piece) is e) in
      let within : (place : ℕ) (piece : P) → slice_get (pieces_of xs) place ≡ Some piece → place < length put =
      λ place piece e. omega (arith, slice_get_within (pieces_of xs) place piece e, count) in
      let one : (place : ℕ) (piece : P) → slice_get (pieces_of xs) place ≡ Some piece → At place × ((q : P) → get_elem? s.homes place ≡ some (some (Holds q)) → q ≡ piece) =
      λ place piece e. (at-place place (within place piece e), λ q home. same-held q piece (some-injective (Holds q) (Holds piece) (sym (same place (Holds q) home) ∙ found place piece e))) in
      let worked : (place : ℕ) (piece : P) → slice_get (pieces_of xs) place ≡ Some piece → 0 < times_drawn place ps → IsWorked state marked works put place piece =
      λ place piece e some-drawn. let o = one place piece e in subst (λ q. IsWorked state marked works put place q) (o.1 o.0.0 o.0.1) (o.0.2 some-drawn) in
      record {
        laid = (room.0, held.1 ∙ ap (λ (l : List P). holding l ++ room.0 ∷ []) (sym is), subst (λ n. IsRoom n room.0) (sym count) room.2);
        long = count;
        drawn = worked;
        left = λ place piece e none. let o = one place piece e in subst (λ q. slice_get put place ≡ Some q) (o.1 o.0.0 o.0.1) (o.0.3 none);
        once = drawn-once;
        ended = λ any place piece e. let h = all.ended any in let lt = within place piece e in
            worked place piece e (omega (arith, below-drawn place lt (omega (arith, lt, h.1, once-some k.counter h.0 (omega (arith, h.2, drawn-is h.0))))));
      }

module _ {P X : Type 0} (state : P → X) (marked : P → Bool) (works : X → X → Type 0) (put : List P) (ps : List (PassSeen P)) where
  pub closed : (passes : ℕ) → length ps ≡ passes → (id : ℕ) (me : Seated P) → Gathered put ps me → (ws : List ℕ) (xs : List (Slot P)) → Final (Seen (λ s. Kept state marked works put passes s) id me.0) ws xs → Closes state marked works put ps xs
  closed passes count id me all ws xs end =
      closes state marked works put ps end.0 (subst (λ n. Kept state marked works put n end.0) (sym count) end.1.0) id me end.1.1 all xs end.3 end.4

  pub each-place : (xs : List (Slot P)) → ((k : ℕ) (d : P) → k < length put → marked (slice_index_or put k d) ≡ false) → Closes state marked works put ps xs
      → AtEachPlace (λ place piece. IsWorked state marked works put place piece ⊎ IsAsPut state marked put place piece) (pieces_of xs)
  each-place xs unmarked c place piece e = dite (ℕ_discrete (times_drawn place ps) 0)
      (λ none. inr (put-as-put state marked put place piece unmarked (c.left place piece e none)))
      (λ some-drawn. inl (c.drawn place piece e (omega (arith, some-drawn))))
