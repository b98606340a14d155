-- What a pass drew, brought home and holds.
use Rattle.std.proofs.Common.{◌≡◌, ℕ, zero, suc, ◌+◌, ◌<◌, ◌≤◌, List, [], ◌∷◌, ◌++◌, length, get_or, slice_get, slice_index_or, Some, None, is_some, unwrap_or, Bool, true, false, true≢false, sym, refl, ap, ◌∙◌, subst, append-nil, option_map, arith}
use Rattle.std.proofs.lemmas.Option.{slice_get-map, slice_get_within, get_or_from_slice_get}
use mathlib.Core.Logic.{dite}
use native.Mathlib.Decide.{ℕ_discrete}
use Rattle.atomic_table.specs.Table.{Step, rest}
use Rattle.atomic_table.specs.Seated.{TableId}
use Rattle.claim_board.specs.declared.slot.Slot.{Slot}
use Rattle.claim_board.specs.declared.slot.Slot.TheVariants.{Empty, Holds, Room}
use Rattle.claim_board.specs.Pieces.{IsAsPut}
use Rattle.claim_board.specs.Counts.{times, past}
use Rattle.claim_board.specs.Steps.{Seated, places_of, with_number, drew}
use Rattle.claim_board.specs.Seen.{drew_place, held_in, pass_seen, Drew, IsPass}
use Rattle.claim_board.proofs.Sums.{times-append, times-same, times-other, past-none}
use Rattle.claim_board.proofs.Keeps.{piece_at}

-- an item stands in its list
pub times-at : (xs : List ℕ) (k d : ℕ) → k < length xs → 0 < times (get_or xs k d) xs
times-at [] k d h = absurd (omega arith)
times-at (x ∷ xs) zero d h = omega (arith, times-append x (x ∷ []) xs, times-same x x refl)
times-at (x ∷ xs) (suc k) d h = omega (arith, times-append (get_or xs k d) (x ∷ []) xs, times-at xs k d (omega arith))

-- every place that was drawn is below the number
pub all-below : (xs : List ℕ) (n : ℕ) → ((k : ℕ) → 0 < times k xs → k < n) → (k d : ℕ) → k < length xs → slice_index_or xs k d < n
all-below xs n h k d lt = h (get_or xs k d) (times-at xs k d lt)

module _ {P : Type 0} where
  abbrev slot_or : Slot P → List (ℕ × Slot P) → Slot P
  slot_or d [] = d
  slot_or d (x ∷ xs) = x.1

  abbrev piece_or : P → Slot P → P
  piece_or d (Holds p) = p
  piece_or d Empty = d
  piece_or d (Room list) = d

  -- one slot was taken last
  pub same-slot : (hand : List (ℕ × Slot P)) (m n : ℕ) (x y : Slot P) (xs ys : List (ℕ × Slot P)) → hand ≡ (m, x) ∷ xs → hand ≡ (n, y) ∷ ys → x ≡ y
  same-slot hand m n x y xs ys e d = ap (slot_or x) (sym e ∙ d)

  pub same-held : (p q : P) → Holds p ≡ Holds q → p ≡ q
  same-held p q e = ap (piece_or p) e

  pub first-of : (hand : List (ℕ × Slot P)) (x : ℕ × Slot P) (xs : List (ℕ × Slot P)) → hand ≡ x ∷ xs → hand ≡ x ∷ rest hand
  first-of hand x xs e = e ∙ ap (λ (l : List (ℕ × Slot P)). x ∷ rest l) (sym e)

  -- a pass that holds no place has no slot out
  pub no-hand : (hand : List (ℕ × Slot P)) → held_in hand ≡ None → hand ≡ []
  no-hand [] e = refl
  no-hand (x ∷ xs) e = absurd (true≢false (ap is_some e))

  -- and one that holds a place has its slot out, and no other
  pub one-hand : (hand : List (ℕ × Slot P)) (place : ℕ) → length hand ≤ 1 → held_in hand ≡ Some place → (x : Slot P) × (hand ≡ (place, x) ∷ [])
  one-hand [] place few e = absurd (true≢false (ap is_some (sym e)))
  one-hand (x ∷ []) place few e = (x.1, ap (λ (n : ℕ). (n, x.1) ∷ []) (ap (λ o. unwrap_or o 0) e))
  one-hand (x ∷ y ∷ ys) place few e = absurd (omega arith)

  -- what a pass drew, that has not ended
  pub drew-places : (me : Seated P) (ended : Bool) → IsPass me ended → ended ≡ false → me.0.drawn ≡ me.0.home ++ places_of me.1
  drew-places me ended pass e = subst (λ b. Drew me.0.drawn me.0.put me.0.home me.1 b) e pass.drew

  -- a pass that holds a place has not ended
  pub not-ended : (me : Seated P) (ended : Bool) (place : ℕ) (x : Slot P) → Drew me.0.drawn me.0.put me.0.home me.1 ended → me.1 ≡ (place, x) ∷ [] → ended ≡ false
  not-ended me false place x drew hand = refl
  not-ended me true place x drew hand = absurd (omega (arith, ap (λ (l : List (ℕ × Slot P)). length l) (sym drew.0 ∙ hand)))

  pub none-past : (me : Seated P) (ended : Bool) → IsPass me ended → ended ≡ false → past (length me.0.put) me.0.drawn ≡ 0
  none-past me ended pass e = past-none (length me.0.put) me.0.drawn (λ n some-drawn. pass.places n (subst (λ l. 0 < times n l) (drew-places me ended pass e) some-drawn))

  -- the seat after a place was drawn and its piece taken
  abbrev pub taken : Seated P → ℕ → Seated P
  taken me n = (with_number me.0 n, (n, Empty) ∷ [])

  -- the slot of the number that was drawn is out, and its piece was taken
  pub after-taken : (me drawn now : Seated P) (n : ℕ) (x : Slot P) → drawn.0 ≡ with_number me.0 n → drawn.1 ≡ (n, x) ∷ me.1 → me.1 ≡ [] → now ≡ (drawn.0, (n, Empty) ∷ rest drawn.1) → now ≡ taken me n
  after-taken me drawn now n x view hand none is = is ∙ (λ i. (view i, (n, Empty) ∷ rest ((hand ∙ ap (λ (l : List (ℕ × Slot P)). (n, x) ∷ l) none) i)))

  pub home-all : (me : Seated P) → me.1 ≡ [] → me.0.home ++ places_of me.1 ≡ me.0.home
  home-all me none = ap (λ (l : List (ℕ × Slot P)). me.0.home ++ places_of l) none ∙ append-nil me.0.home

  pub taken-pass : (me : Seated P) (n : ℕ) (ended : Bool) → IsPass me ended → ended ≡ false → me.1 ≡ [] → n < length me.0.put → IsPass (taken me n) ended
  taken-pass me n ended pass e none lt = record {
    one = pass.one;
    hand = omega arith;
    drew = subst (λ b. Drew (me.0.drawn ++ n ∷ []) me.0.put me.0.home ((n, Empty) ∷ []) b) (sym e)
        (ap (λ l. l ++ n ∷ []) (drew-places me ended pass e ∙ home-all me none));
    places = λ k some-drawn. dite (ℕ_discrete n k)
        (λ is. subst (λ m. m < length me.0.put) is lt)
        (λ ne. pass.places k (omega (arith, some-drawn, times-append k me.0.home (n ∷ []), times-other k n ne, ap (times k) (home-all me none))));
  }

  pub taken-seen : (id : TableId) (me : Seated P) (n : ℕ) (ended : Bool) → me.1 ≡ [] → pass_seen id (taken me n) ended ≡ drew_place (pass_seen id me ended) n
  taken-seen id me n ended none = ap (λ l. record { id = id; put = me.0.put; drawn = l ++ n ∷ []; held = Some n; ended = ended }) (sym (home-all me none))

  -- the seat after a number was drawn that is no place
  pub ended-is : (me : Seated P) (n : ℕ) → IsPass me false → me.1 ≡ [] → length me.0.put ≤ n → IsPass (with_number me.0 n, me.1) true
  ended-is me n pass none le = record {
    one = pass.one;
    hand = pass.hand;
    drew = (none, (n, le, ap (λ l. l ++ n ∷ []) (drew-places me false pass refl ∙ home-all me none)));
    places = pass.places;
  }

  -- a pass that holds a place drew it, and didn't bring it home yet
  pub held-drawn : (me : Seated P) (ended : Bool) (place : ℕ) (x : Slot P) → IsPass me ended → me.1 ≡ (place, x) ∷ [] → (place < length me.0.put) × (times place me.0.home < times place me.0.drawn)
  held-drawn me ended place x pass hand =
      let places : me.0.home ++ places_of me.1 ≡ me.0.home ++ place ∷ [] = ap (λ (l : List (ℕ × Slot P)). me.0.home ++ places_of l) hand in
      let counts : times place (me.0.home ++ places_of me.1) ≡ times place me.0.home + 1 = ap (times place) places ∙ times-append place me.0.home (place ∷ []) ∙ omega (arith, times-same place place refl) in (
        pass.places place (omega (arith, counts)),
        omega (arith, counts, ap (times place) (drew-places me ended pass (not-ended me ended place x pass.drew hand))),
      )

  -- the piece that was drawn is the one that was put there
  pub drawn-piece : (st : Step (Slot P)) (me after : Seated P) (n : ℕ) (x : Slot P) (piece : P) (l : List (ℕ × Slot P)) → drew st me n after → n < length me.0.put → after.1 ≡ (n, x) ∷ l → x ≡ Holds piece → slice_get me.0.put n ≡ Some piece
  drawn-piece st me after n x piece l told lt hand is =
      let p = piece_at me.0.put n lt in
      let same : p.0 ≡ piece = same-held p.0 piece (same-slot after.1 n n (Holds p.0) x me.1 l (told.2 p.0 p.1) hand ∙ is) in
      p.1 ∙ ap (λ (q : P). Some q) same

-- a piece that was put unmarked is as it was put
pub put-as-put : {P X : Type 0} (state : P → X) (marked : P → Bool) (put : List P) (n : ℕ) (piece : P) → ((k : ℕ) (d : P) → k < length put → marked (slice_index_or put k d) ≡ false) → slice_get put n ≡ Some piece → IsAsPut state marked put n piece
put-as-put state marked put n piece all is =
    (subst (λ q. marked q ≡ false) (get_or_from_slice_get put n piece piece is) (all n piece (slice_get_within put n piece is)), slice_get-map state put n ∙ ap (option_map state) is)
