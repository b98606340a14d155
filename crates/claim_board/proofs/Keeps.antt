-- Each kind of step keeps the rule.
use Rattle.std.proofs.Common.{◌≡◌, ◌≢◌, ℕ, zero, suc, ◌+◌, ◌%◌, ◌^◌, ◌<◌, ◌≤◌, List, [], ◌∷◌, length, slice_get, slice_index, Some, unwrap_or, Bool, set, sym, refl, ap, ◌∙◌, subst, ⊎_elim, lt_of_not-le, mod-eq_of_lt, length-set, arith}
use Rattle.std.proofs.lemmas.Option.{slice_get_within}
use mathlib.Core.Logic.{dite}
use native.Mathlib.Decide.{ℕ_discrete, dec_le}
use mathlib.Core.Option.{some, none}
use lib.ListN.{get_elem?}
use Rattle.atomic_table.specs.Table.{State, Step, Act, keeps, takes, gives as brings, Valid, carried_after, stepped, Allows, Splits, Joins}
use Rattle.atomic_table.proofs.Lists.{at_set, set_here, set_else, set_again, at_snoc}
use Rattle.claim_board.specs.declared.slot.Slot.{Slot}
use Rattle.claim_board.specs.declared.slot.Slot.TheVariants.{Holds}
use Rattle.claim_board.specs.declared.view.View.{View}
use Rattle.claim_board.specs.Pieces.{IsWorked}
use Rattle.claim_board.specs.Counts.{total, times, past}
use Rattle.claim_board.specs.Rule.{blank, Knows, Kept}
use Rattle.claim_board.specs.Steps.{Seated, with_number, with_home, drew, brought, looked, less_one, newcomer, joined}
use Rattle.claim_board.proofs.Sums.{total-append, total-set, term_le, terms_le, total-le, times-append, past-append, past-place, past-past, once-at_most, once-some, once-next}
use Rattle.claim_board.proofs.Views.{Homes, knows-same, knows-blank, knows-new, knows-drew, knows-brought, knows-joined}

-- the piece at a place
pub piece_at : {P : Type 0} (xs : List P) (k : ℕ) → k < length xs → (x : P) × (slice_get xs k ≡ Some x)
piece_at [] k h = absurd (omega arith)
piece_at (x ∷ xs) zero h = (x, refl)
piece_at (x ∷ xs) (suc k) h = piece_at xs k (omega arith)

pub same-piece : {P : Type 0} (xs : List P) (k : ℕ) (p q : P) → slice_get xs k ≡ Some p → slice_get xs k ≡ Some q → p ≡ q
same-piece xs k p q e d = ap (λ o. unwrap_or o p) (sym e ∙ d)

module _ {P X : Type 0} (state : P → X) (marked : P → Bool) (works : X → X → Type 0) (put : List P) (passes : ℕ) where
  abbrev St : Type 0
  St = State (Slot P) (View P)

  abbrev at_table : List ℕ → Homes P → List (View P) → St
  at_table words homes views = record { words = words; homes = homes; views = views }

  abbrev R : St → Type 0
  R s = Kept state marked works put passes s

  abbrev Ks : Homes P → View P → Type 0
  Ks homes v = Knows state marked works put homes v

  -- no more numbers were drawn past the last place than there are passes
  past-few : (s : St) → R s → total (λ v. past (length put) v.drawn) s.views ≤ passes
  past-few s k = omega (arith, total-le (λ (v : View P). past (length put) v.drawn) (λ (v : View P). v.passes) s.views (λ j v e. (k.each_view j v e).few_past), k.shared_out)

  -- what a view drew lies below the counter
  drawn-below : (s : St) (k : R s) (id : ℕ) (v : View P) → get_elem? s.views id ≡ some v → (n : ℕ) → 0 < times n v.drawn → n < k.counter
  drawn-below s k id v at n some-drawn = once-some k.counter n (omega (arith, term_le (λ (u : View P). times n u.drawn) s.views id v at, k.drawn_once n))

  -- after the next number was drawn by the seat id
  after-draw : (s : St) (k : R s) (id : ℕ) (v : View P) → get_elem? s.views id ≡ some v → v.passes ≡ 1 → past (length put) v.drawn ≡ 0
      → (now : Homes P) → length now ≡ length s.homes → ((place : ℕ) → place ≢ k.counter → get_elem? now place ≡ get_elem? s.homes place)
      → get_elem? now (length put) ≡ get_elem? s.homes (length put) → (k.counter < length put → get_elem? now k.counter ≡ some none)
      → R (at_table ((k.counter + 1) ∷ []) now (set s.views id (with_number v k.counter)))
  after-draw s k id v at one no-past now long same same-room here =
      let c : ℕ = k.counter in let w : View P = with_number v c in
      let new : times c v.drawn ≡ 0 = dite (ℕ_discrete (times c v.drawn) 0) (λ e. e) (λ ne. absurd (omega (arith, drawn-below s k id v at c (omega (arith, ne))))) in
      let past-c : past (length put) (c ∷ []) ≤ 1 = dite (dec_le (length put) c) (λ le. omega (arith, past-past (length put) c le)) (λ no. omega (arith, past-place (length put) c (lt_of_not-le no))) in
      let pasts : past (length put) w.drawn ≡ past (length put) v.drawn + past (length put) (c ∷ []) = past-append (length put) v.drawn (c ∷ []) in
      record {
        counter = c + 1;
        word = refl;
        slots = long ∙ k.slots;
        room = (k.room.0, same-room ∙ k.room.1, k.room.2);
        shared_out = omega (arith, total-set (λ (u : View P). u.passes) s.views id v w at, k.shared_out);
        each_view = λ j u e. ⊎_elim
            (λ (t : (j ≡ id) × (w ≡ u)). subst (λ y. Ks now y) t.1
            (knows-drew state marked works put s.homes now v c (omega arith) new (omega arith) (λ place ne lt. same place ne) here (k.each_view id v at)))
            (λ (t : (j ≢ id) × (get_elem? s.views j ≡ some u)). knows-same state marked works put s.homes now u
            (λ place lt drawn. same place (λ is. absurd (omega (arith, is, drawn-below s k j u t.1 place drawn)))) (k.each_view j u t.1))
            (at_set s.views id j w u e);
        drawn_once = λ n. omega (arith, total-set (λ (u : View P). times n u.drawn) s.views id v w at, k.drawn_once n, times-append n v.drawn (c ∷ []), once-next c n);
        waiting = λ place piece le is. same place (λ e. absurd (omega (arith, e))) ∙ k.waiting place piece (omega arith) is;
        bounded = let moved = total-set (λ (u : View P). past (length put) u.drawn) s.views id v w at in let before = k.bounded in
            dite (dec_le (length put) c) (λ le. omega (arith, past-past (length put) c le)) (λ no. omega (arith, lt_of_not-le no));
      }

  abbrev Goes : St → ℕ → Seated P → (ℕ → ℕ) → (ℕ → Seated P → Type 0) → Type 0
  Goes s id me f then = (w : View P) × (a : Act (Slot P)) × Valid s.homes me.1 a × R (stepped s 0 (f (slice_index s.words 0)) id me.1 w a) × then (slice_index s.words 0) (w, carried_after me.1 a)

  -- a step is shown for the counter that the rule names
  by-counter : (s : St) (k : R s) (id : ℕ) (me : Seated P) (f : ℕ → ℕ) (then : ℕ → Seated P → Type 0) → Goes (at_table (k.counter ∷ []) s.homes s.views) id me f then → Goes s id me f then
  by-counter s k id me f then g = subst (λ ws. Goes (at_table ws s.homes s.views) id me f then) (sym k.word) g

  draws-place : (s : St) (k : R s) (id : ℕ) (me : Seated P) (st : Step (Slot P)) → get_elem? s.views id ≡ some me.0 → me.0.passes ≡ 1 → me.0.put ≡ put → past (length put) me.0.drawn ≡ 0
      → (k.counter + 1) % 2 ^ 64 ≡ k.counter + 1 → k.counter < length put → Goes (at_table (k.counter ∷ []) s.homes s.views) id me (λ n. (n + 1) % 2 ^ 64) (drew st me)
  draws-place s k id me st at one starts no-past small lt =
      let c : ℕ = k.counter in let p = piece_at put c lt in let there = k.waiting c p.0 (omega arith) p.1 in let now : Homes P = set s.homes c none in (
        with_number me.0 c,
        takes c (Holds p.0),
        there,
        subst (λ m. R (at_table (m ∷ []) now (set s.views id (with_number me.0 c)))) (sym small)
            (after-draw s k id me.0 at one no-past now (length-set s.homes c none) (λ place ne. set_else s.homes c place none ne) (set_else s.homes c (length put) none (omega arith))
            (λ _. set_here s.homes c none (omega (arith, k.slots)))),
        (
          refl,
          (λ n drawn. drawn-below s k id me.0 at n drawn),
          (λ piece is. ap (λ (x : P). (c, Holds x) ∷ me.1) (same-piece put c p.0 piece p.1 (subst (λ xs. slice_get xs c ≡ Some piece) starts is))),
          (λ le. absurd (omega (arith, le, ap length starts))),
        ),
      )

  draws-past : (s : St) (k : R s) (id : ℕ) (me : Seated P) (st : Step (Slot P)) → get_elem? s.views id ≡ some me.0 → me.0.passes ≡ 1 → me.0.put ≡ put → past (length put) me.0.drawn ≡ 0
      → (k.counter + 1) % 2 ^ 64 ≡ k.counter + 1 → length put ≤ k.counter → Goes (at_table (k.counter ∷ []) s.homes s.views) id me (λ n. (n + 1) % 2 ^ 64) (drew st me)
  draws-past s k id me st at one starts no-past small le =
      let c : ℕ = k.counter in (
        with_number me.0 c,
        keeps,
        tt,
        subst (λ m. R (at_table (m ∷ []) s.homes (set s.views id (with_number me.0 c)))) (sym small)
            (after-draw s k id me.0 at one no-past s.homes refl (λ place ne. refl) refl (λ lt. absurd (omega arith))),
        (
          refl,
          (λ n drawn. drawn-below s k id me.0 at n drawn),
          (λ piece is. absurd (omega (arith, slice_get_within put c piece (subst (λ xs. slice_get xs c ≡ Some piece) starts is)))),
          (λ past-it. refl),
        ),
      )

  -- a pass that drew no number past the last place draws the next one
  pub draws : (slots id : ℕ) (me : Seated P) (st : Step (Slot P)) → length put < 2 ^ 32 → passes < 2 ^ 32 → me.0.passes ≡ 1 → me.0.put ≡ put → past (length put) me.0.drawn ≡ 0
      → Allows R slots id me 0 (λ n. (n + 1) % 2 ^ 64) (drew st me)
  draws slots id me st few few-passes one starts no-past s k long at lt =
      let small : (k.counter + 1) % 2 ^ 64 ≡ k.counter + 1 = mod-eq_of_lt (omega (arith, k.bounded, past-few s k)) in
      by-counter s k id me (λ n. (n + 1) % 2 ^ 64) (drew st me)
      (dite (dec_le (length put) k.counter) (λ le. draws-past s k id me st at one starts no-past small le) (λ no. draws-place s k id me st at one starts no-past small (lt_of_not-le no)))

  -- a pass that holds a slot brings it home with a worked piece
  pub brings-home : (slots id : ℕ) (me : Seated P) (st : Step (Slot P)) (p : ℕ) (piece : P) → me.1 ≡ (p, Holds piece) ∷ [] → p < length put → times p me.0.home < times p me.0.drawn
      → IsWorked state marked works put p piece → Allows R slots id me 0 (λ n. (n + 0) % 2 ^ 64) (brought st me)
  brings-home slots id me st p piece hand lt not-home worked s k long at few =
      let drawn : 0 < times p me.0.drawn = omega (arith, not-home) in
      let not-yet : times p me.0.home ≡ 0 = omega (arith, not-home, term_le (λ (u : View P). times p u.drawn) s.views id me.0 at, k.drawn_once p, once-at_most k.counter p) in
      let c : ℕ = k.counter in let now : Homes P = set s.homes p (some (Holds piece)) in let w : View P = with_home me.0 (p ∷ []) in
      let mine = drawn-below s k id me.0 at p drawn in
      let small : (c + 0) % 2 ^ 64 ≡ c = mod-eq_of_lt (omega (arith, subst (λ ws. slice_index ws 0 < 18446744073709551616) k.word few)) ∙ omega arith in
      let here : get_elem? now p ≡ some (some (Holds piece)) = set_here s.homes p (some (Holds piece)) (omega (arith, k.slots)) in
      let else-same : (place : ℕ) → place ≢ p → get_elem? now place ≡ get_elem? s.homes place = λ place ne. set_else s.homes p place (some (Holds piece)) ne in
      let kept : R (at_table (c ∷ []) now (set s.views id w)) = record {
        counter = c;
        word = refl;
        slots = length-set s.homes p (some (Holds piece)) ∙ k.slots;
        room = (k.room.0, else-same (length put) (λ e. absurd (omega (arith, e))) ∙ k.room.1, k.room.2);
        shared_out = omega (arith, total-set (λ (u : View P). u.passes) s.views id me.0 w at, k.shared_out);
        each_view = λ j u e. ⊎_elim
            (λ (t : (j ≡ id) × (w ≡ u)). subst (λ y. Ks now y) t.1
            (knows-brought state marked works put s.homes now me.0 p drawn not-yet (piece, here, worked) else-same (k.each_view id me.0 at)))
            (λ (t : (j ≢ id) × (get_elem? s.views j ≡ some u)). knows-same state marked works put s.homes now u
            (λ place l drew. else-same place (λ is. absurd (omega (arith, drawn, subst (λ m. 0 < times m u.drawn) is drew, terms_le (λ (y : View P). times p y.drawn) s.views id j me.0 u t.0 at t.1, k.drawn_once p, once-at_most c p)))) (k.each_view j u t.1))
            (at_set s.views id j w u e);
        drawn_once = λ n. omega (arith, total-set (λ (u : View P). times n u.drawn) s.views id me.0 w at, k.drawn_once n);
        waiting = λ place q le is. else-same place (λ e. absurd (omega (arith, e, mine))) ∙ k.waiting place q le is;
        bounded = omega (arith, total-set (λ (u : View P). past (length put) u.drawn) s.views id me.0 w at, k.bounded);
      } in
      by-counter s k id me (λ n. (n + 0) % 2 ^ 64) (brought st me)
      (subst (λ (h : List (ℕ × Slot P)). Goes (at_table (c ∷ []) s.homes s.views) id (me.0, h) (λ n. (n + 0) % 2 ^ 64) (brought st (me.0, h))) (sym hand)
      (w, brings, tt, subst (λ m. R (at_table (m ∷ []) now (set s.views id w))) (sym small) kept, refl))

  -- a load changes nothing
  pub loads : (slots id : ℕ) (me : Seated P) (st : Step (Slot P)) → Allows R slots id me 0 (λ n. n) (looked st me)
  loads slots id me st s k long at few =
      let kept : R (at_table (k.counter ∷ []) s.homes (set s.views id me.0)) =
      subst (λ vs. R (at_table (k.counter ∷ []) s.homes vs)) (sym (set_again s.views id me.0 at)) (subst (λ ws. R (at_table ws s.homes s.views)) k.word k) in
      by-counter s k id me (λ n. n) (looked st me) (me.0, keeps, tt, kept, refl)

  -- a seat that stands for several passes, and drew nothing, gives one of them to a new seat
  pub splits : (id : ℕ) (v : View P) → 1 < v.passes → v.drawn ≡ [] → Splits R id v (less_one v) (newcomer v)
  splits id v several nothing s k at =
      let mine = k.each_view id v at in let l : View P = less_one v in let r : View P = newcomer v in
      let less : Ks s.homes l = record {
        spent = λ h. absurd (omega arith);
        starts = λ _. mine.starts (omega arith);
        drew_first = mine.drew_first;
        out = mine.out;
        back = mine.back;
        few_past = omega (arith, ap (past (length put)) nothing);
      } in
      let new : Ks s.homes r = knows-new state marked works put s.homes 1 v (omega arith) (mine.starts (omega arith)) in
      record {
        counter = k.counter;
        word = k.word;
        slots = k.slots;
        room = k.room;
        shared_out = omega (arith, total-append (λ (u : View P). u.passes) (set s.views id l) (r ∷ []), total-set (λ (u : View P). u.passes) s.views id v l at, k.shared_out);
        each_view = λ j u e. ⊎_elim
            (λ (d : get_elem? (set s.views id l) j ≡ some u). ⊎_elim
            (λ (t : (j ≡ id) × (l ≡ u)). subst (λ y. Ks s.homes y) t.1 less)
            (λ (t : (j ≢ id) × (get_elem? s.views j ≡ some u)). k.each_view j u t.1)
            (at_set s.views id j l u d))
            (λ (is : r ≡ u). subst (λ y. Ks s.homes y) is new)
            (at_snoc (set s.views id l) r u j e);
        drawn_once = λ n. omega (arith, total-append (λ (u : View P). times n u.drawn) (set s.views id l) (r ∷ []), total-set (λ (u : View P). times n u.drawn) s.views id v l at, k.drawn_once n);
        waiting = k.waiting;
        bounded = omega (arith, total-append (λ (u : View P). past (length put) u.drawn) (set s.views id l) (r ∷ []), total-set (λ (u : View P). past (length put) u.drawn) s.views id v l at, k.bounded);
      }

  -- a seat takes in what another one knows
  pub joins : (id : ℕ) (v : View P) (other : ℕ) (w : View P) → 0 < v.passes → Joins R id v other w (joined v w) blank
  joins id v other w some-pass s k at apart at-other =
      let both : View P = joined v w in let mid : List (View P) = set s.views id both in
      let was : get_elem? s.views other ≡ some w = sym (set_else s.views id other both apart) ∙ at-other in
      let mine = k.each_view id v at in let theirs = k.each_view other w was in
      let moved : (f : View P → ℕ) → f both ≡ f v + f w → f blank ≡ 0 → total f (set mid other blank) ≡ total f s.views =
      λ f sum none. omega (arith, total-set f mid other w blank at-other, total-set f s.views id v both at, sum, none) in
      record {
        counter = k.counter;
        word = k.word;
        slots = k.slots;
        room = k.room;
        shared_out = moved (λ (u : View P). u.passes) refl refl ∙ k.shared_out;
        each_view = λ j u e. ⊎_elim
            (λ (t : (j ≡ other) × (blank ≡ u)). subst (λ y. Ks s.homes y) t.1 (knows-blank state marked works put s.homes))
            (λ (d : (j ≢ other) × (get_elem? mid j ≡ some u)). ⊎_elim
            (λ (t : (j ≡ id) × (both ≡ u)). subst (λ y. Ks s.homes y) t.1 (knows-joined state marked works put s.homes v w some-pass mine theirs))
            (λ (t : (j ≢ id) × (get_elem? s.views j ≡ some u)). k.each_view j u t.1)
            (at_set s.views id j both u d.1))
            (at_set mid other j blank u e);
        drawn_once = λ n. moved (λ (u : View P). times n u.drawn) (times-append n v.drawn w.drawn) refl ∙ k.drawn_once n;
        waiting = k.waiting;
        bounded = omega (arith, moved (λ (u : View P). past (length put) u.drawn) (past-append (length put) v.drawn w.drawn) refl, k.bounded);
      }
