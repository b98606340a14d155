-- The small actor for tests is lawful, and which of its actions does something.
use Rattle.std.proofs.Common.{◌≡◌, ◌≢◌, ℕ, zero, suc, ◌+◌, ◌<◌, ◌≤◌, ◌⊎◌, min, Bool, true, false, List, [], ◌∷◌, ◌++◌, ℤ, pos, length, take, drop, refl, sym, ap, ◌∙◌, subst, inl, inr, ⊎_elim, arith}
use Rattle.std.specs.Prelude.{Option, None, Some, slice_get, slice_index_or, map, if◌then◌else◌, nat_le}
use Rattle.std.proofs.lemmas.Bool.{leb-true, le-leb, cases_lt}
use Rattle.std.proofs.lemmas.List.{length-take}
use Rattle.rvc_base.specs.declared.trap.Trap.{Trap}
use Rattle.rvc_base.specs.Behaviour.{Fires, TrapsInGuard, TrapsInBody, Waits, Picks, Faults}
use Rattle.rvc_base.specs.Lawful.{IsLawful, AgreeOn, tokens_on}
use Rattle.net_model.specs.Cell.{number_on, held_after, LacksRoomOn, IsLeftByTrap, FiresTo, IsEnabled, FitsQueues}
use Rattle.net_model.specs.TableActor.{row_of, deed_of, table_cell, table_capacity, Deed, Sends, GuardTraps, BodyTraps, Row, takes_of, gives_of, on_first, effect_of, effect_in, choice_of, choice_in, table_actor, IsFirst, NoneHas}

-- a comparison of two numbers, and what it says
by_test : {P : Type 0} (n m : ℕ) (test : Bool) → nat_le n m ≡ test
    → (n ≤ m → nat_le n m ≡ true → P) → (m < n → nat_le n m ≡ false → P) → P
by_test n m true e p q = p (leb-true n m e) e
by_test n m false e p q =
    q (⊎_elim (λ low. low) (λ high. absurd (let t : nat_le n m ≡ true = le-leb n m (omega arith) in cc)) (cases_lt m n)) e

by_le : {P : Type 0} (n m : ℕ) → (n ≤ m → nat_le n m ≡ true → P) → (m < n → nat_le n m ≡ false → P) → P
by_le n m p q = by_test n m (nat_le n m) refl p q

-- what has an effect has its tokens
has_in : (rows : List Row) (waiting a : ℕ) → effect_in rows waiting a ≢ None → takes_of (slice_get rows a) ≤ waiting
has_in [] waiting a some = absurd (some refl)
has_in (row ∷ rows) waiting zero some = by_le row.takes waiting (λ low e. low) (λ high e. absurd (some (rw e)))
has_in (row ∷ rows) waiting (suc a) some =
    by_le row.takes waiting (λ low e. absurd (some (rw e)))
    (λ high e. has_in rows waiting a (λ none. some (rw (e, none))))

-- what fires sends the one token
fires_so : (deed : Deed) (next : Unit {0}) (sent : List (List ℤ)) → effect_of deed ≡ Fires next sent → length (tokens_on sent 0) ≡ 1
fires_so Sends next sent h = let was : ((pos 1 ∷ []) ∷ []) ≡ sent = cc in subst (λ w. length (tokens_on w 0) ≡ 1) was refl
fires_so (GuardTraps cause) next sent h = cc
fires_so (BodyTraps cause) next sent h = cc

sends_in : (rows : List Row) (waiting a : ℕ) (next : Unit {0}) (sent : List (List ℤ))
    → effect_in rows waiting a ≡ Some (Fires next sent) → length (tokens_on sent 0) ≡ gives_of (slice_get rows a)
sends_in [] waiting a next sent h = cc
sends_in (row ∷ rows) waiting zero next sent h =
    by_le row.takes waiting
    (λ low e. fires_so row.does next sent (let is : Some (effect_of row.does) ≡ Some (Fires next sent) = subst (λ b. (if b then Some (effect_of row.does) else None) ≡ Some (Fires next sent)) e h in cc))
    (λ high e. absurd (let is : None ≡ Some (Fires next sent) = subst (λ b. (if b then Some (effect_of row.does) else None) ≡ Some (Fires next sent)) e h in cc))
sends_in (row ∷ rows) waiting (suc a) next sent h =
    by_le row.takes waiting
    (λ low e. absurd (let is : None ≡ Some (Fires next sent) = subst (λ b. (if b then None else effect_in rows waiting a) ≡ Some (Fires next sent)) e h in cc))
    (λ high e. sends_in rows waiting a next sent (subst (λ b. (if b then None else effect_in rows waiting a) ≡ Some (Fires next sent)) e h))

-- two counts that are the same up to the most that any row takes
same_test : (takes seen n m : ℕ) → takes ≤ seen → min seen n ≡ min seen m → nat_le takes n ≡ nat_le takes m
same_test takes seen n m few same =
    by_le takes n
    (λ low e. by_le takes m (λ low' e'. e ∙ sym e') (λ high' e'. absurd (omega arith)))
    (λ high e. by_le takes m (λ low' e'. absurd (omega arith)) (λ high' e'. e ∙ sym e'))

same_effect : (rows : List Row) (seen n m : ℕ) → ((a : ℕ) → takes_of (slice_get rows a) ≤ seen) → min seen n ≡ min seen m
    → (a : ℕ) → effect_in rows n a ≡ effect_in rows m a
same_effect [] seen n m few same a = refl
same_effect (row ∷ rows) seen n m few same zero =
    ap (λ b. if b then Some (effect_of row.does) else None) (same_test row.takes seen n m (few 0) same)
same_effect (row ∷ rows) seen n m few same (suc a) =
    ap (λ b. if b then None else effect_in rows n a) (same_test row.takes seen n m (few 0) same)
    ∙ ap (λ w. if nat_le row.takes m then None else w) (same_effect rows seen n m (λ b. few (suc b)) same a)

same_choice : (rows : List Row) (k seen n m : ℕ) → ((a : ℕ) → takes_of (slice_get rows a) ≤ seen) → min seen n ≡ min seen m
    → choice_in k rows n ≡ choice_in k rows m
same_choice [] k seen n m few same = refl
same_choice (row ∷ rows) k seen n m few same =
    ap (λ b. if b then choice_of k row.does else choice_in (suc k) rows n) (same_test row.takes seen n m (few 0) same)
    ∙ ap (λ w. if nat_le row.takes m then choice_of k row.does else w) (same_choice rows (suc k) seen n m (λ b. few (suc b)) same)

-- what the first row that has its tokens does
abbrev DoesAt : List Row → ℕ → ℕ → Deed → Type 0
DoesAt rows waiting b deed = effect_in rows waiting b ≡ Some (effect_of deed)

-- the choice is of the first row that has its tokens, or none has them
pub data Found (rows : List Row) (k waiting : ℕ) : Type 0 where
  One : (b : ℕ) (deed : Deed) → choice_in k rows waiting ≡ choice_of (k + b) deed → DoesAt rows waiting b deed → Found rows k waiting
  Nothing : choice_in k rows waiting ≡ Waits → ((a : ℕ) → effect_in rows waiting a ≡ None) → Found rows k waiting

found_next : (row : Row) (rows : List Row) (k waiting : ℕ) → nat_le row.takes waiting ≡ false → Found rows (suc k) waiting
    → Found (row ∷ rows) k waiting
found_next row rows k waiting e (One b deed choice does) =
    let place : suc k + b ≡ k + suc b = omega arith in
    One (suc b) deed (rw e (choice ∙ ap (λ n. choice_of n deed) place)) (rw e does)
found_next row rows k waiting e (Nothing choice none) = Nothing (rw e choice) none_of
  where
    none_of : (a : ℕ) → effect_in (row ∷ rows) waiting a ≡ None
    none_of zero = rw e
    none_of (suc a) = rw e (none a)

pub find : (rows : List Row) (k waiting : ℕ) → Found rows k waiting
find [] k waiting = Nothing refl (λ a. refl)
find (row ∷ rows) k waiting =
    by_le row.takes waiting
    (λ low e. let place : k ≡ k + 0 = omega arith in One 0 row.does (rw e (ap (λ n. choice_of n row.does) place)) (rw e))
    (λ high e. found_next row rows k waiting e (find rows (suc k) waiting))

picked_so : (n a : ℕ) (deed : Deed) → choice_of n deed ≡ Picks a → (n ≡ a) × ((effect_of deed ≡ Fires tt ((pos 1 ∷ []) ∷ [])) ⊎ ((cause : Trap) × (effect_of deed ≡ TrapsInBody cause)))
picked_so n a Sends h = (cc, inl refl)
picked_so n a (GuardTraps cause) h = cc
picked_so n a (BodyTraps cause) h = (cc, inr (cause, refl))

faulted_so : (n a : ℕ) (cause : Trap) (deed : Deed) → choice_of n deed ≡ Faults a cause → (n ≡ a) × (effect_of deed ≡ TrapsInGuard cause)
faulted_so n a cause Sends h = cc
faulted_so n a cause (GuardTraps other) h = (cc, let same : other ≡ cause = cc in ap TrapsInGuard same)
faulted_so n a cause (BodyTraps other) h = cc

waits_not : (n : ℕ) (deed : Deed) → choice_of n deed ≡ Waits → ⊥
waits_not n Sends h = cc
waits_not n (GuardTraps cause) h = cc
waits_not n (BodyTraps cause) h = cc

picks_of : (rows : List Row) (waiting a : ℕ) → choice_in 0 rows waiting ≡ Picks a → Found rows 0 waiting
    → ((next : Unit {0}) × (sent : List (List ℤ)) × (effect_in rows waiting a ≡ Some (Fires next sent)))
    ⊎ ((cause : Trap) × (effect_in rows waiting a ≡ Some (TrapsInBody cause)))
picks_of rows waiting a h (Nothing choice none) = absurd (let no : Waits ≡ Picks a = sym choice ∙ h in cc)
picks_of rows waiting a h (One b deed choice does) =
    let so = picked_so (0 + b) a deed (sym choice ∙ h) in
    let place : b ≡ a = omega (arith, so.0) in
    let at : effect_in rows waiting a ≡ Some (effect_of deed) = subst (λ n. effect_in rows waiting n ≡ Some (effect_of deed)) place does in
    ⊎_elim (λ sends. inl (tt, ((pos 1 ∷ []) ∷ []), at ∙ ap (λ e. Some e) sends)) (λ traps. inr (traps.0, at ∙ ap (λ e. Some e) traps.1)) so.1

faults_of : (rows : List Row) (waiting a : ℕ) (cause : Trap) → choice_in 0 rows waiting ≡ Faults a cause → Found rows 0 waiting
    → effect_in rows waiting a ≡ Some (TrapsInGuard cause)
faults_of rows waiting a cause h (Nothing choice none) = absurd (let no : Waits ≡ Faults a cause = sym choice ∙ h in cc)
faults_of rows waiting a cause h (One b deed choice does) =
    let so = faulted_so (0 + b) a cause deed (sym choice ∙ h) in
    let place : b ≡ a = omega (arith, so.0) in
    subst (λ n. effect_in rows waiting n ≡ Some (effect_of deed)) place does ∙ ap (λ e. Some e) so.1

waits_of : (rows : List Row) (waiting : ℕ) → choice_in 0 rows waiting ≡ Waits → Found rows 0 waiting
    → (a : ℕ) → effect_in rows waiting a ≡ None
waits_of rows waiting h (Nothing choice none) = none
waits_of rows waiting h (One b deed choice does) = absurd (waits_not (0 + b) deed (sym choice ∙ h))

none_beyond : (rows : List Row) (waiting a : ℕ) → length rows ≤ a → effect_in rows waiting a ≡ None
none_beyond [] waiting a high = refl
none_beyond (row ∷ rows) waiting zero high = absurd (omega arith)
none_beyond (row ∷ rows) waiting (suc a) high =
    by_le row.takes waiting (λ low e. rw e) (λ up e. rw e (none_beyond rows waiting a (omega arith)))

no_row : (rows : List Row) (a : ℕ) → length rows ≤ a → slice_get rows a ≡ None
no_row [] a high = refl
no_row (row ∷ rows) zero high = absurd (omega arith)
no_row (row ∷ rows) (suc a) high = no_row rows a (omega arith)

first_none : (p : ℕ) → on_first p 0 ≡ 0
first_none zero = refl
first_none (suc p) = refl

pub table_is_lawful : (rows : List Row) → IsLawful (table_actor rows)
table_is_lawful rows = record {
  has_tokens = has_tokens;
  gives = gives;
  front = front;
  picks = λ state tokens a h. picks_of rows _ a h (find rows 0 _);
  faults = λ state tokens a cause h. faults_of rows _ a cause h (find rows 0 _);
  waits = λ state tokens h. waits_of rows _ h (find rows 0 _);
  no_effect_beyond = λ state tokens a high. none_beyond rows _ a high;
  no_need_beyond = λ a p high. ap (λ o. on_first p (takes_of o)) (no_row rows a high) ∙ first_none p;
  no_give_beyond = λ a p high. ap (λ o. on_first p (gives_of o)) (no_row rows a high) ∙ first_none p;
}
  where
    has_tokens : (state : Unit {0}) (tokens : List (List ℤ)) (a : ℕ) → effect_in rows (length (tokens_on tokens 0)) a ≢ None
        → (p : ℕ) → p < 1 → on_first p (takes_of (slice_get rows a)) ≤ length (tokens_on tokens p)
    has_tokens state tokens a some zero low = has_in rows (length (tokens_on tokens 0)) a some
    has_tokens state tokens a some (suc p) low = absurd (omega arith)

    gives : (state next : Unit {0}) (tokens sent : List (List ℤ)) (a : ℕ)
        → effect_in rows (length (tokens_on tokens 0)) a ≡ Some (Fires next sent)
        → (p : ℕ) → p < 1 → length (tokens_on sent p) ≡ on_first p (gives_of (slice_get rows a))
    gives state next tokens sent a h zero low = sends_in rows (length (tokens_on tokens 0)) a next sent h
    gives state next tokens sent a h (suc p) low = absurd (omega arith)

    front : (seen : ℕ → ℕ) → ((a p : ℕ) → on_first p (takes_of (slice_get rows a)) ≤ seen p)
        → (state : Unit {0}) (tokens others : List (List ℤ)) → AgreeOn (table_actor rows) seen tokens others
        → ((a : ℕ) → effect_in rows (length (tokens_on tokens 0)) a ≡ effect_in rows (length (tokens_on others 0)) a)
        × (choice_in 0 rows (length (tokens_on tokens 0)) ≡ choice_in 0 rows (length (tokens_on others 0)))
    front seen enough state tokens others agree =
        let one : length (take (seen 0) (tokens_on tokens 0)) ≡ min (seen 0) (length (tokens_on tokens 0)) = length-take (seen 0) (tokens_on tokens 0) in
        let other : length (take (seen 0) (tokens_on others 0)) ≡ min (seen 0) (length (tokens_on others 0)) = length-take (seen 0) (tokens_on others 0) in
        let same : min (seen 0) (length (tokens_on tokens 0)) ≡ min (seen 0) (length (tokens_on others 0)) =
        sym one ∙ (ap length (agree 0 (omega arith)) ∙ other) in (
          same_effect rows (seen 0) _ _ (λ a. enough a 0) same,
          same_choice rows 0 (seen 0) _ _ (λ a. enough a 0) same,
        )

-- the first row that has its tokens does something, and is the choice
pub first_does : (rows : List Row) (waiting a : ℕ) (row : Row) → IsFirst rows waiting a row
    → effect_in rows waiting a ≡ Some (effect_of row.does)
first_does [] waiting a row first = let no = first.there in cc
first_does (head ∷ rows) waiting zero row first =
    let same : head ≡ row = let at = first.there in cc in
    let test : nat_le head.takes waiting ≡ true = le-leb head.takes waiting (subst (λ r. r.takes ≤ waiting) (sym same) first.has) in
    rw test (ap (λ r. Some (effect_of r.does)) same)
first_does (head ∷ rows) waiting (suc a) row first =
    by_le head.takes waiting
    (λ low e. absurd (let high : waiting < head.takes = first.earlier 0 (omega arith) in omega arith))
    (λ high e. rw e (first_does rows waiting a row (record { there = first.there; has = first.has; earlier = λ b low. first.earlier (suc b) (omega arith) })))

pub first_chosen : (rows : List Row) (k waiting a : ℕ) (row : Row) → IsFirst rows waiting a row
    → choice_in k rows waiting ≡ choice_of (k + a) row.does
first_chosen [] k waiting a row first = let no = first.there in cc
first_chosen (head ∷ rows) k waiting zero row first =
    let same : head ≡ row = let at = first.there in cc in
    let test : nat_le head.takes waiting ≡ true = le-leb head.takes waiting (subst (λ r. r.takes ≤ waiting) (sym same) first.has) in
    let place : k ≡ k + 0 = omega arith in
    rw test (ap (λ r. choice_of k r.does) same ∙ ap (λ n. choice_of n row.does) place)
first_chosen (head ∷ rows) k waiting (suc a) row first =
    by_le head.takes waiting
    (λ low e. absurd (let high : waiting < head.takes = first.earlier 0 (omega arith) in omega arith))
    (λ high e. let place : suc k + a ≡ k + suc a = omega arith in
    rw e (first_chosen rows (suc k) waiting a row (record { there = first.there; has = first.has; earlier = λ b low. first.earlier (suc b) (omega arith) })
    ∙ ap (λ n. choice_of n row.does) place))

pub none_chosen : (rows : List Row) (k waiting : ℕ) → NoneHas rows waiting → choice_in k rows waiting ≡ Waits
none_chosen [] k waiting none = refl
none_chosen (row ∷ rows) k waiting none =
    by_le row.takes waiting
    (λ low e. absurd (let high : waiting < row.takes = none 0 (omega arith) in omega arith))
    (λ high e. rw e (none_chosen rows (suc k) waiting (λ b low. none (suc b) (omega arith))))

-- The rows of code.

abbrev CodeRow : Type 0
CodeRow = ℕ × Bool × Option Trap

pub row_at : (xs : List CodeRow) (a : ℕ) (d : CodeRow) → a < length xs → slice_get (map row_of xs) a ≡ Some (row_of (slice_index_or xs a d))
row_at [] a d low = absurd (omega arith)
row_at (x ∷ xs) zero d low = refl
row_at (x ∷ xs) (suc a) d low = row_at xs a d (omega arith)

pub one_more_earlier : (xs : List CodeRow) (waiting a : ℕ) (d : CodeRow) → a < length xs → waiting < (slice_index_or xs a d).0
    → ((b : ℕ) → b < a → waiting < takes_of (slice_get (map row_of xs) b))
    → (b : ℕ) → b < a + 1 → waiting < takes_of (slice_get (map row_of xs) b)
one_more_earlier xs waiting a d low here earlier b within = ⊎_elim
    (λ less. earlier b less)
    (λ most. let same : a ≡ b = omega arith in
    subst (λ n. waiting < takes_of (slice_get (map row_of xs) n)) same
    (subst (λ o. waiting < takes_of o) (sym (row_at xs a d low)) here))
    (cases_lt b a)

pub first_of : (xs : List CodeRow) (waiting a : ℕ) (d : CodeRow) → a < length xs
    → takes_of (slice_get (map row_of xs) a) ≤ waiting
    → ((b : ℕ) → b < a → waiting < takes_of (slice_get (map row_of xs) b))
    → IsFirst (map row_of xs) waiting a (row_of (slice_index_or xs a d))
first_of xs waiting a d low has earlier = record {
  there = row_at xs a d low;
  has = subst (λ o. takes_of o ≤ waiting) (row_at xs a d low) has;
  earlier = earlier;
}

deed_guard : (in_guard : Bool) (trap : Option Trap) (cause : Trap) → in_guard ≡ true → trap ≡ Some cause → deed_of in_guard trap ≡ GuardTraps cause
deed_guard true (Some other) cause g t = let same : other ≡ cause = cc in ap GuardTraps same
deed_guard true None cause g t = cc
deed_guard false trap cause g t = cc

deed_body : (in_guard : Bool) (trap : Option Trap) (cause : Trap) → in_guard ≡ false → trap ≡ Some cause → deed_of in_guard trap ≡ BodyTraps cause
deed_body false (Some other) cause g t = let same : other ≡ cause = cc in ap BodyTraps same
deed_body false None cause g t = cc
deed_body true trap cause g t = cc

deed_sends : (in_guard : Bool) (trap : Option Trap) → trap ≡ None → deed_of in_guard trap ≡ Sends
deed_sends in_guard None t = refl
deed_sends in_guard (Some cause) t = cc

-- the guards of an action don't trap
abbrev pub IsFree : Bool → Option Trap → Type 0
IsFree in_guard trap = (in_guard ≡ false) ⊎ (trap ≡ None)

picks_free : (a : ℕ) (in_guard : Bool) (trap : Option Trap) → IsFree in_guard trap → choice_of a (deed_of in_guard trap) ≡ Picks a
picks_free a in_guard None free = refl
picks_free a false (Some cause) free = refl
picks_free a true (Some cause) free = absurd (⊎_elim (λ g. let no : true ≡ false = g in cc) (λ t. let no : Some cause ≡ None = t in cc) free)

module _ (xs : List CodeRow) (inbox outbox : List ℤ) (journal : List ℕ) (trapped : Bool) (rooms : List ℕ) (a : ℕ) (d : CodeRow)
    (low : a < length xs) (has : takes_of (slice_get (map row_of xs) a) ≤ length inbox)
    (earlier : (b : ℕ) → b < a → length inbox < takes_of (slice_get (map row_of xs) b)) where
  is_first : IsFirst (map row_of xs) (length inbox) a (row_of (slice_index_or xs a d))
  is_first = first_of xs (length inbox) a d low has earlier

  pub faults_at : (cause : Trap) → (slice_index_or xs a d).1 ≡ true → (slice_index_or xs a d).2 ≡ Some cause
      → choice_in 0 (map row_of xs) (length inbox) ≡ Faults a cause
  faults_at cause g t =
      first_chosen (map row_of xs) 0 (length inbox) a (row_of (slice_index_or xs a d)) is_first
      ∙ (ap (choice_of (0 + a)) (deed_guard (slice_index_or xs a d).1 (slice_index_or xs a d).2 cause g t)
      ∙ (let same : 0 + a ≡ a = omega arith in ap (λ n. Faults n cause) same))

  pub picks_at : IsFree (slice_index_or xs a d).1 (slice_index_or xs a d).2
      → choice_in 0 (map row_of xs) (length inbox) ≡ Picks a
  picks_at free =
      first_chosen (map row_of xs) 0 (length inbox) a (row_of (slice_index_or xs a d)) is_first
      ∙ (let same : 0 + a ≡ a = omega arith in
      ap (λ n. choice_of n (deed_of (slice_index_or xs a d).1 (slice_index_or xs a d).2)) same
      ∙ picks_free a (slice_index_or xs a d).1 (slice_index_or xs a d).2 free)

  gives_one : gives_of (slice_get (map row_of xs) a) ≡ 1
  gives_one = ap gives_of (row_at xs a d low)

  pub room_at : length outbox < number_on rooms 0
      → (p : ℕ) → p < 1 → held_after (table_cell xs inbox outbox journal trapped) a p ≤ number_on rooms p
  room_at some zero within = omega (arith, gives_one)
  room_at some (suc p) within = absurd (omega arith)

  pub lacks_at : number_on rooms 0 ≤ length outbox → LacksRoomOn (table_cell xs inbox outbox journal trapped) rooms a 0
  lacks_at none = record { there = omega arith; lacks = omega (arith, gives_one); first = λ q below. absurd (omega arith) }

  pub effect_at_guard : (cause : Trap) → (slice_index_or xs a d).1 ≡ true → (slice_index_or xs a d).2 ≡ Some cause
      → effect_in (map row_of xs) (length inbox) a ≡ Some (TrapsInGuard cause)
  effect_at_guard cause g t =
      first_does (map row_of xs) (length inbox) a (row_of (slice_index_or xs a d)) is_first
      ∙ ap (λ w. Some (effect_of w)) (deed_guard (slice_index_or xs a d).1 (slice_index_or xs a d).2 cause g t)

  pub effect_at_body : (cause : Trap) → (slice_index_or xs a d).1 ≡ false → (slice_index_or xs a d).2 ≡ Some cause
      → effect_in (map row_of xs) (length inbox) a ≡ Some (TrapsInBody cause)
  effect_at_body cause g t =
      first_does (map row_of xs) (length inbox) a (row_of (slice_index_or xs a d)) is_first
      ∙ ap (λ w. Some (effect_of w)) (deed_body (slice_index_or xs a d).1 (slice_index_or xs a d).2 cause g t)

  pub effect_at_sends : (slice_index_or xs a d).2 ≡ None
      → effect_in (map row_of xs) (length inbox) a ≡ Some (Fires tt ((pos 1 ∷ []) ∷ []))
  effect_at_sends t =
      first_does (map row_of xs) (length inbox) a (row_of (slice_index_or xs a d)) is_first
      ∙ ap (λ w. Some (effect_of w)) (deed_sends (slice_index_or xs a d).1 (slice_index_or xs a d).2 t)

pub fits_queues : (xs : List CodeRow) (inbox outbox : List ℤ) (journal : List ℕ) (trapped : Bool) → length inbox ≤ 4 → length outbox ≤ 4
    → FitsQueues (table_cell xs inbox outbox journal trapped)
fits_queues xs inbox outbox journal trapped few few' = record { inboxes = ins; outboxes = outs }
  where
    ins : (p : ℕ) → p < 1 → length (tokens_on (inbox ∷ []) p) ≤ number_on (table_capacity ∷ []) p
    ins zero low = few
    ins (suc p) low = absurd (omega arith)

    outs : (p : ℕ) → p < 1 → length (tokens_on (outbox ∷ []) p) ≤ number_on (table_capacity ∷ []) p
    outs zero low = few'
    outs (suc p) low = absurd (omega arith)

-- no action but the first that has its tokens does anything
pub none_does : (rows : List Row) (waiting a : ℕ) → NoneHas rows waiting → effect_in rows waiting a ≡ None
none_does [] waiting a none = refl
none_does (row ∷ rows) waiting zero none =
    by_le row.takes waiting
    (λ low e. absurd (let high : waiting < row.takes = none 0 (omega arith) in omega arith)) (λ high e. rw e)
none_does (row ∷ rows) waiting (suc a) none =
    by_le row.takes waiting
    (λ low e. absurd (let high : waiting < row.takes = none 0 (omega arith) in omega arith))
    (λ high e. rw e (none_does rows waiting a (λ b low. none (suc b) (omega arith))))

pub other_none : (rows : List Row) (waiting a first : ℕ) (row : Row) → IsFirst rows waiting first row → a ≢ first
    → effect_in rows waiting a ≡ None
other_none [] waiting a first row is differ = refl
other_none (head ∷ rows) waiting zero zero row is differ = absurd (differ refl)
other_none (head ∷ rows) waiting zero (suc first) row is differ =
    by_le head.takes waiting
    (λ low e. absurd (let high : waiting < head.takes = is.earlier 0 (omega arith) in omega arith)) (λ high e. rw e)
other_none (head ∷ rows) waiting (suc a) zero row is differ =
    let same : head ≡ row = let at = is.there in cc in
    let test : nat_le head.takes waiting ≡ true = le-leb head.takes waiting (subst (λ r. r.takes ≤ waiting) (sym same) is.has) in
    rw test
other_none (head ∷ rows) waiting (suc a) (suc first) row is differ =
    by_le head.takes waiting
    (λ low e. absurd (let high : waiting < head.takes = is.earlier 0 (omega arith) in omega arith))
    (λ high e. rw e (other_none rows waiting a first row
    (record { there = is.there; has = is.has; earlier = λ b low. is.earlier (suc b) (omega arith) }) (λ same. differ (ap suc same))))

pub left_by_trap : (xs : List CodeRow) (inbox outbox : List ℤ) (journal : List ℕ) (trapped : Bool)
    → IsLeftByTrap (table_cell xs inbox outbox journal trapped) (table_cell xs inbox outbox journal true)
left_by_trap xs inbox outbox journal trapped = record {
  actor = record { same_actor = refl; same_inbox_capacities = λ p low. refl; same_outbox_capacities = λ p low. refl; same_journal_room = refl };
  inboxes = λ p low. refl;
  outboxes = λ p low. refl;
  journal = refl;
  trapped = refl;
}

pub fires_so_far : (xs xs' : List CodeRow) (inbox inbox' outbox outbox' : List ℤ) (journal journal' : List ℕ) (trapped trapped' : Bool)
    (a : ℕ) (d : CodeRow) → a < length xs → takes_of (slice_get (map row_of xs) a) ≤ length inbox
    → ((b : ℕ) → b < a → length inbox < takes_of (slice_get (map row_of xs) b))
    → (slice_index_or xs a d).2 ≡ None → xs' ≡ xs → inbox' ≡ drop (slice_index_or xs a d).0 inbox
    → outbox' ≡ outbox ++ pos 1 ∷ [] → journal' ≡ journal → trapped' ≡ trapped
    → FiresTo (table_cell xs inbox outbox journal trapped) a (table_cell xs' inbox' outbox' journal' trapped')
fires_so_far xs xs' inbox inbox' outbox outbox' journal journal' trapped trapped' a d low has earlier sends same took sent noted marked = record {
  next = tt;
  sent = (pos 1 ∷ []) ∷ [];
  effect = effect_at_sends xs inbox outbox journal trapped [] a d low has earlier sends;
  actor = record {
    same_actor = ap (λ ys. table_actor (map row_of ys)) same;
    same_inbox_capacities = λ p within. refl;
    same_outbox_capacities = λ p within. refl;
    same_journal_room = refl;
  };
  state = refl;
  taken = taken_of;
  read = read_of;
  unread = unread_of;
  trapped = marked;
}
  where
    taken_of : (p : ℕ) → p < 1 → tokens_on (inbox' ∷ []) p ≡ drop (on_first p (takes_of (slice_get (map row_of xs) a))) (tokens_on (inbox ∷ []) p)
    taken_of zero within = took ∙ ap (λ o. drop (takes_of o) inbox) (sym (row_at xs a d low))
    taken_of (suc p) within = absurd (omega arith)

    read_of : (p : ℕ) → p < 1 → 0 < number_on (table_capacity ∷ []) p
        → tokens_on (outbox' ∷ []) p ≡ tokens_on (outbox ∷ []) p ++ tokens_on ((pos 1 ∷ []) ∷ []) p
    read_of zero within some = sent
    read_of (suc p) within some = absurd (omega arith)

    unread_of : (p : ℕ) → p < 1 → number_on (table_capacity ∷ []) p ≡ 0 → tokens_on (outbox' ∷ []) p ≡ tokens_on (outbox ∷ []) p
    unread_of zero within none = absurd (omega arith)
    unread_of (suc p) within none = absurd (omega arith)

-- an action whose guards don't trap is enabled if it is the first that has its tokens
pub enabled_at : (xs : List CodeRow) (inbox : List ℤ) (a : ℕ) (d : CodeRow) → a < length xs
    → takes_of (slice_get (map row_of xs) a) ≤ length inbox
    → ((b : ℕ) → b < a → length inbox < takes_of (slice_get (map row_of xs) b))
    → IsFree (slice_index_or xs a d).1 (slice_index_or xs a d).2 → IsEnabled (effect_in (map row_of xs) (length inbox) a)
enabled_at xs inbox a d low has earlier free =
    subst IsEnabled (sym (first_does (map row_of xs) (length inbox) a (row_of (slice_index_or xs a d)) (first_of xs (length inbox) a d low has earlier)))
    (of_deed (slice_index_or xs a d).1 (slice_index_or xs a d).2 free)
  where
    of_deed : (in_guard : Bool) (trap : Option Trap) → IsFree in_guard trap → IsEnabled (Some (effect_of (deed_of in_guard trap)))
    of_deed in_guard None is = tt
    of_deed false (Some cause) is = tt
    of_deed true (Some cause) is = absurd (⊎_elim (λ g. let no : true ≡ false = g in cc) (λ t. let no : Some cause ≡ None = t in cc) is)
