-- Two runs of a body that differ in cells which it doesn't read before it wrote them.
use Rattle.std.proofs.Common.{◌≡◌, ◌≢◌, ℕ, zero, suc, ◌+◌, ◌*◌, ◌<◌, ◌≤◌, ◌⊎◌, inl, inr, ⊎_elim, ℤ, pos, negsuc, ◌+ℤ◌, Bool, true, false, not, ◌&&◌, ◌||◌, List, [], ◌∷◌, length, refl, sym, ap, subst, ◌∙◌, arith, Option, None, Some}
use Rattle.std.specs.Prelude.{if◌then◌else◌, nat_le, ◌==◌, slice_get, slice_index_or, slice_set}
use Rattle.std.proofs.lemmas.Bool.{leb-true, le-leb, eqb-true, eq-eqb, cases_lt}
use Rattle.std.proofs.lemmas.List.{length-set, get_or-set_same, get_or-set_other}
use Rattle.std.proofs.lemmas.Option.{slice_get-get_or}
use Rattle.rvc_base.specs.declared.trap.Trap.{Trap}
use Rattle.rvc_base.specs.declared.trap.Trap.TheVariants.{IndexRange, TurnLimit}
use Rattle.rvc_base.specs.declared.scalar.Scalar.{Scalar}
use Rattle.rvc_base.specs.Arithmetic.{Computed, Gives, Traps, whole, add, sub, mul, neg, div, rem, shl, shr, bit_and, bit_or, bit_xor, bit_not, truth, is_equal, is_below, is_true}
use Rattle.code_ir.specs.declared.instr.Instr.{Instr}
use Rattle.code_ir.specs.declared.instr.Instr.TheVariants as op
use Rattle.code_ir.specs.declared.instr.Routine.{Routine}
use Rattle.code_ir.specs.declared.outcome.Outcome.{Outcome}
use Rattle.code_ir.specs.declared.outcome.Outcome.TheVariants as outcome
use Rattle.code_ir.specs.Code.{Code}
use Rattle.code_ir.specs.Effect.{Effect, Leaves, Fails, Breaks, effect, cell, stored, push_computed, with_cells, with_offset, on_top, on_two, push_token, copied, zeroed, taken, leave_taken}
use Rattle.code_ir.specs.Running.{State, Next, Goes, Over, Lacks, Stuck, go_on, jump_if_not, turn, obey, answer, call, return, step, Ends, stop, go, Reaches, here, after}
use Rattle.code_ir.specs.Typing.{goes_on}
use Rattle.lowered_actor.specs.Actor.{Action, Actor, number_on}
use Rattle.lowered_actor.specs.Facts.{IsEffect, IsAnswer}
use Rattle.lowered_actor.specs.Straight.{may_store}
use Rattle.lower_scratch.specs.declared.body.Last.{Last}
use Rattle.lower_scratch.specs.declared.body.Last.TheVariants as last
use Rattle.lower_scratch.specs.Rows.{is_among, reads, writes}
use Rattle.lower_scratch.specs.Fitting.{AreNeeded, MayStoreEach, last_of}
use Rattle.lower_scratch.proofs.Spans.{AreSpanRoutines, Span, SpanFits, SpanFitsHere, SpanFlows, SpanSends, set_at}

pub either-true : (a b : Bool) → (a || b) ≡ true → (a ≡ true) ⊎ (b ≡ true)
either-true true b h = inl refl
either-true false b h = inr h

both : (a b : Bool) → a ≡ true → b ≡ true → (a && b) ≡ true
both true b h k = k
both false b h k = absurd (cc)

pub both-true : (a b : Bool) → (a && b) ≡ true → (a ≡ true) × (b ≡ true)
both-true true b h = (refl, h)
both-true false b h = absurd (cc)

pub among-is : (c n d : ℕ) → c ≤ d → d < c + n → is_among c n d ≡ true
among-is c n d from to = both (nat_le c d) (nat_le (suc d) (c + n)) (le-leb c d from) (le-leb (suc d) (c + n) (omega (arith, to)))

is-among : (c n d : ℕ) → is_among c n d ≡ true → (c ≤ d) × (d < c + n)
is-among c n d h =
    let two = both-true (nat_le c d) (nat_le (suc d) (c + n)) h in
    (leb-true c d two.0, let low = leb-true (suc d) (c + n) two.1 in omega (arith, low))

-- this outcome is one of a firing, or of a guard
abbrev pub IsRight : Bool → Outcome → Type 0
IsRight true o = IsEffect o
IsRight false o = IsAnswer o

abbrev pub at : ℕ → List ℤ → List ℕ → ℕ → List ℤ → State
at place stack frames left cells = record { place = place; stack = stack; frames = frames; cells = cells; left = left }

-- ---- cells that are written

same-or-not : (d c : ℕ) → (d ≡ c) ⊎ (d ≢ c)
same-or-not d c = by (d == c) refl
  where
    by : (b : Bool) → (d == c) ≡ b → (d ≡ c) ⊎ (d ≢ c)
    by true e = inl (eqb-true d c e)
    by false e = inr (λ h. let no : (d == c) ≡ true = eq-eqb d c h in absurd (cc))

-- one cell gets a number: there both agree then, and elsewhere as before
set-agree : (c : ℕ) (v : ℤ) (cs ds : List ℤ) → c < length cs → c < length ds → (d : ℕ) → (cell cs d ≡ cell ds d) ⊎ (d ≡ c) → cell (slice_set cs c v) d ≡ cell (slice_set ds c v) d
set-agree c v cs ds low low' d h = by (same-or-not d c) h
  where
    by : (d ≡ c) ⊎ (d ≢ c) → (cell cs d ≡ cell ds d) ⊎ (d ≡ c) → cell (slice_set cs c v) d ≡ cell (slice_set ds c v) d
    by (inl e) g =
        subst (λ k. cell (slice_set cs c v) k ≡ cell (slice_set ds c v) k) (sym e)
        (get_or-set_same cs c v (pos 0) low ∙ sym (get_or-set_same ds c v (pos 0) low'))
    by (inr differ) (inl e) = get_or-set_other cs c d v (pos 0) differ ∙ (e ∙ sym (get_or-set_other ds c d v (pos 0) differ))
    by (inr differ) (inr e) = absurd (differ e)

-- a cell among n others is the first of them, or among those behind it
first-or-later : (c n d : ℕ) → c ≤ d → d < c + suc n → (d ≡ c) ⊎ ((c + 1 ≤ d) × (d < c + 1 + n))
first-or-later c n d from to =
    ⊎_elim (λ (h : c < d). inr (omega (arith, h), omega (arith, to))) (λ (h : d ≤ c). inl (omega (arith, h, from))) (cases_lt c d)

later-may : (P : ℕ → Type 0) (c n : ℕ) → ((d : ℕ) → c ≤ d → d < c + suc n → P d) → (d : ℕ) → c + 1 ≤ d → d < c + 1 + n → P d
later-may P c n each d from to = each d (omega (arith, from)) (omega (arith, to))

module _ (actor : Actor) (firing : Bool) where
  -- a cell that may not be written isn't the one that is
  set-keeps : (c : ℕ) (v : ℤ) (cs : List ℤ) → may_store actor firing c ≡ true → (d : ℕ) → may_store actor firing d ≡ false → cell (slice_set cs c v) d ≡ cell cs d
  set-keeps c v cs may d h = by (same-or-not d c)
    where
      by : (d ≡ c) ⊎ (d ≢ c) → cell (slice_set cs c v) d ≡ cell cs d
      by (inl e) = absurd (let no : true ≡ false = sym may ∙ (ap (may_store actor firing) (sym e) ∙ h) in grind arith)
      by (inr differ) = get_or-set_other cs c d v (pos 0) differ

  -- the n cells from c on were written, with the same numbers
  record Written (c n : ℕ) (cs ds cs' ds' : List ℤ) : Type 0 where
    size : length cs' ≡ length cs
    other_size : length ds' ≡ length ds
    agree : (d : ℕ) → (cell cs d ≡ cell ds d) ⊎ ((c ≤ d) × (d < c + n)) → cell cs' d ≡ cell ds' d
    keeps : (d : ℕ) → may_store actor firing d ≡ false → cell cs' d ≡ cell cs d

  none-written : (c : ℕ) (cs ds : List ℤ) → Written c 0 cs ds cs ds
  none-written c cs ds = record {
    size = refl;
    other_size = refl;
    agree = λ d h. ⊎_elim (λ (e : cell cs d ≡ cell ds d). e) (λ (e : (c ≤ d) × (d < c + 0)). absurd (let low = e.0 in let high = e.1 in omega (arith, low, high))) h;
    keeps = λ d h. refl;
  }

  one-written : (c n : ℕ) (v : ℤ) (cs ds cs' ds' : List ℤ) → c < length cs → c < length ds → may_store actor firing c ≡ true
      → Written (c + 1) n (slice_set cs c v) (slice_set ds c v) cs' ds' → Written c (suc n) cs ds cs' ds'
  one-written c n v cs ds cs' ds' low low' may more = record {
    size = more.size ∙ length-set cs c v;
    other_size = more.other_size ∙ length-set ds c v;
    agree = λ d h. more.agree d (by d h);
    keeps = λ d h. more.keeps d h ∙ set-keeps c v cs may d h;
  }
    where
      by : (d : ℕ) → (cell cs d ≡ cell ds d) ⊎ ((c ≤ d) × (d < c + suc n)) → (cell (slice_set cs c v) d ≡ cell (slice_set ds c v) d) ⊎ ((c + 1 ≤ d) × (d < c + 1 + n))
      by d (inl e) = inl (set-agree c v cs ds low low' d (inl e))
      by d (inr h) =
          ⊎_elim (λ (e : d ≡ c). inl (set-agree c v cs ds low low' d (inr e))) (λ (e : (c + 1 ≤ d) × (d < c + 1 + n)). inr e) (first-or-later c n d h.0 h.1)

  copied-alike : (t : Option Scalar) (n to from : ℕ) (cs ds : List ℤ) → to + n ≤ length cs → length cs ≡ length ds → MayStoreEach actor firing to n
      → ((k : ℕ) → k < n → cell cs (from + k) ≡ cell ds (from + k)) → Written to n cs ds (copied t to from n cs) (copied t to from n ds)
  copied-alike t zero to from cs ds room sizes may same = none-written to cs ds
  copied-alike t (suc n) to from cs ds room sizes may same =
      let low : to < length cs = omega (arith, room) in
      let low' : to < length ds = omega (arith, room, sizes) in
      let v = stored t (cell cs from) in
      let here : cell cs from ≡ cell ds from = let none : from + 0 ≡ from = omega arith in subst (λ c. cell cs c ≡ cell ds c) none (same 0 (omega arith)) in
      subst (λ w. Written to (suc n) cs ds (copied t (to + 1) (from + 1) n (slice_set cs to v)) (copied t (to + 1) (from + 1) n (slice_set ds to (stored t w)))) here
      (one-written to n v cs ds (copied t (to + 1) (from + 1) n (slice_set cs to v)) (copied t (to + 1) (from + 1) n (slice_set ds to v)) low low' (may to (omega arith) (omega arith))
      (copied-alike t n (to + 1) (from + 1) (slice_set cs to v) (slice_set ds to v) (let e = length-set cs to v in omega (arith, room, e)) (length-set cs to v ∙ (sizes ∙ sym (length-set ds to v)))
      (later-may (λ d. may_store actor firing d ≡ true) to n may)
      (λ k less. let next : from + 1 + k ≡ from + suc k = omega arith in set-agree to v cs ds low low' (from + 1 + k) (inl (subst (λ c. cell cs c ≡ cell ds c) (sym next) (same (suc k) (omega (arith, less))))))))

  zeroed-alike : (n c : ℕ) (cs ds : List ℤ) → c + n ≤ length cs → length cs ≡ length ds → MayStoreEach actor firing c n → Written c n cs ds (zeroed c n cs) (zeroed c n ds)
  zeroed-alike zero c cs ds room sizes may = none-written c cs ds
  zeroed-alike (suc n) c cs ds room sizes may =
      let low : c < length cs = omega (arith, room) in
      let low' : c < length ds = omega (arith, room, sizes) in
      one-written c n (pos 0) cs ds (zeroed (c + 1) n (slice_set cs c (pos 0))) (zeroed (c + 1) n (slice_set ds c (pos 0))) low low' (may c (omega arith) (omega arith))
      (zeroed-alike n (c + 1) (slice_set cs c (pos 0)) (slice_set ds c (pos 0)) (let e = length-set cs c (pos 0) in omega (arith, room, e))
      (length-set cs c (pos 0) ∙ (sizes ∙ sym (length-set ds c (pos 0)))) (later-may (λ d. may_store actor firing d ≡ true) c n may))

  -- tokens that are there were taken into cells
  record Took (us : List ℤ) (to k m n : ℕ) (cs ds : List ℤ) : Type 0 where
    cells : List ℤ
    others : List ℤ
    is : taken us to k m n cs ≡ Some cells
    other : taken us to k m n ds ≡ Some others
    written : Written to n cs ds cells others

  taken-alike : (us : List ℤ) (m n to k : ℕ) (cs ds : List ℤ) → ((j : ℕ) → j < n → k + j * m < length us) → to + n ≤ length cs → length cs ≡ length ds → MayStoreEach actor firing to n
      → Took us to k m n cs ds
  taken-alike us m zero to k cs ds there room sizes may = record { cells = cs; others = ds; is = refl; other = refl; written = none-written to cs ds }
  taken-alike us m (suc n) to k cs ds there room sizes may =
      let low : to < length cs = omega (arith, room) in
      let low' : to < length ds = omega (arith, room, sizes) in
      let first : k < length us = let h = there 0 (omega arith) in let none : k + 0 * m ≡ k = omega arith in subst (λ c. c < length us) none h in
      let v = slice_index_or us k (pos 0) in
      let got : slice_get us k ≡ Some v = slice_get-get_or us k (pos 0) first in
      let more = taken-alike us m n (to + 1) (k + m) (slice_set cs to v) (slice_set ds to v)
      (λ j less. let next : k + suc j * m ≡ k + m + j * m = let more : suc j * m ≡ m + j * m = omega arith in omega (arith, more) in subst (λ c. c < length us) next (there (suc j) (omega (arith, less))))
      (let e = length-set cs to v in omega (arith, room, e)) (length-set cs to v ∙ (sizes ∙ sym (length-set ds to v))) (later-may (λ d. may_store actor firing d ≡ true) to n may) in
      record {
        cells = more.cells;
        others = more.others;
        is = ap (λ o. elim o [ None ↦ None | Some w ↦ taken us (to + 1) (k + m) m n (slice_set cs to w) ]) got ∙ more.is;
        other = ap (λ o. elim o [ None ↦ None | Some w ↦ taken us (to + 1) (k + m) m n (slice_set ds to w) ]) got ∙ more.other;
        written = one-written to n v cs ds more.cells more.others low low' (may to (omega arith) (omega arith)) more.written;
      }

-- ---- one instruction

module _ (actor : Actor) (firing : Bool) (needs : List ℕ) (tokens : ℕ → List ℤ) (enough : (p : ℕ) → number_on needs p ≤ length (tokens p)) where
  -- one instruction leaves these cells of those
  record Moved (instr : Instr) (cs ds cs' ds' : List ℤ) : Type 0 where
    size : length cs' ≡ length cs
    other_size : length ds' ≡ length ds
    agree : (c : ℕ) → (cell cs c ≡ cell ds c) ⊎ (writes instr c ≡ true) → cell cs' c ≡ cell ds' c
    keeps : (c : ℕ) → may_store actor firing c ≡ false → cell cs' c ≡ cell cs c

  data Alike (instr : Instr) (cs ds : List ℤ) : Effect → Effect → Type 0 where
    leaves : (stack cs' ds' : List ℤ) → Moved instr cs ds cs' ds' → Alike instr cs ds (Leaves stack cs') (Leaves stack ds')
    fails : (cause : Trap) → Alike instr cs ds (Fails cause) (Fails cause)
    breaks : Alike instr cs ds Breaks Breaks

  still : (instr : Instr) (cs ds : List ℤ) → ((c : ℕ) → writes instr c ≡ true → ⊥) → Moved instr cs ds cs ds
  still instr cs ds none = record {
    size = refl;
    other_size = refl;
    agree = λ c h. by c h;
    keeps = λ c h. refl;
  }
    where
      by : (c : ℕ) → (cell cs c ≡ cell ds c) ⊎ (writes instr c ≡ true) → cell cs c ≡ cell ds c
      by c (inl e) = e
      by c (inr s) = absurd (none c s)

  computed-alike : (instr : Instr) (cs ds stack : List ℤ) → Moved instr cs ds cs ds → (w : Computed)
      → Alike instr cs ds (push_computed w stack cs) (push_computed w stack ds)
  computed-alike instr cs ds stack moved (Gives v) = leaves (v ∷ stack) cs ds moved
  computed-alike instr cs ds stack moved (Traps cause) = fails cause

  top-alike : (instr : Instr) (f : ℤ → Computed) (cs ds stack : List ℤ) → Moved instr cs ds cs ds → Alike instr cs ds (on_top f stack cs) (on_top f stack ds)
  top-alike instr f cs ds [] moved = breaks
  top-alike instr f cs ds (a ∷ stack) moved = computed-alike instr cs ds stack moved (f a)

  two-alike : (instr : Instr) (f : ℤ → ℤ → Computed) (cs ds stack : List ℤ) → Moved instr cs ds cs ds → Alike instr cs ds (on_two f stack cs) (on_two f stack ds)
  two-alike instr f cs ds [] moved = breaks
  two-alike instr f cs ds (b ∷ []) moved = breaks
  two-alike instr f cs ds (b ∷ a ∷ stack) moved = computed-alike instr cs ds stack moved (f a b)

  -- a cell is pushed on which both agree
  read-alike : (instr : Instr) (c : ℕ) (cs ds stack : List ℤ) → Moved instr cs ds cs ds → length cs ≡ length ds → cell cs c ≡ cell ds c
      → Alike instr cs ds (with_cells cs c 1 (Leaves (cell cs c ∷ stack) cs)) (with_cells ds c 1 (Leaves (cell ds c ∷ stack) ds))
  read-alike instr c cs ds stack moved sizes same =
      subst (λ n. Alike instr cs ds (with_cells cs c 1 (Leaves (cell cs c ∷ stack) cs)) (if nat_le (c + 1) n then Leaves (cell ds c ∷ stack) ds else Breaks)) sizes
      (subst (λ v. Alike instr cs ds (with_cells cs c 1 (Leaves (cell cs c ∷ stack) cs)) (if nat_le (c + 1) (length cs) then Leaves (v ∷ stack) ds else Breaks)) same
      (by (nat_le (c + 1) (length cs))))
    where
      by : (b : Bool) → Alike instr cs ds (if b then Leaves (cell cs c ∷ stack) cs else Breaks) (if b then Leaves (cell cs c ∷ stack) ds else Breaks)
      by true = leaves (cell cs c ∷ stack) cs ds moved
      by false = breaks

  token-alike : (instr : Instr) (p k : ℕ) (cs ds stack : List ℤ) → Moved instr cs ds cs ds → k < length (tokens p)
      → Alike instr cs ds (push_token (slice_get (tokens p) k) stack cs) (push_token (slice_get (tokens p) k) stack ds)
  token-alike instr p k cs ds stack moved low =
      subst (λ o. Alike instr cs ds (push_token o stack cs) (push_token o stack ds)) (sym (slice_get-get_or (tokens p) k (pos 0) low))
      (leaves (cell (tokens p) k ∷ stack) cs ds moved)

  -- a number is written in a cell
  set-moved : (instr : Instr) (c : ℕ) (v : ℤ) (cs ds : List ℤ) → ((d : ℕ) → writes instr d ≡ true → d ≡ c) → may_store actor firing c ≡ true
      → c < length cs → c < length ds → Moved instr cs ds (slice_set cs c v) (slice_set ds c v)
  set-moved instr c v cs ds only may low low' = record {
    size = length-set cs c v;
    other_size = length-set ds c v;
    agree = λ d h. set-agree c v cs ds low low' d (by d h);
    keeps = λ d h. set-keeps actor firing c v cs may d h;
  }
    where
      by : (d : ℕ) → (cell cs d ≡ cell ds d) ⊎ (writes instr d ≡ true) → (cell cs d ≡ cell ds d) ⊎ (d ≡ c)
      by d (inl e) = inl e
      by d (inr w) = inr (only d w)

  -- numbers are written in cells
  many-moved : (instr : Instr) (c n : ℕ) (cs ds cs' ds' : List ℤ) → ((d : ℕ) → writes instr d ≡ true → is_among c n d ≡ true) → Written actor firing c n cs ds cs' ds' → Moved instr cs ds cs' ds'
  many-moved instr c n cs ds cs' ds' only w = record {
    size = w.size;
    other_size = w.other_size;
    agree = λ d h. w.agree d (by d h);
    keeps = w.keeps;
  }
    where
      by : (d : ℕ) → (cell cs d ≡ cell ds d) ⊎ (writes instr d ≡ true) → (cell cs d ≡ cell ds d) ⊎ ((c ≤ d) × (d < c + n))
      by d (inl e) = inl e
      by d (inr h) = inr (is-among c n d (only d h))

  write-alike : (instr : Instr) (c : ℕ) (v : ℤ) (cs ds stack : List ℤ) → ((d : ℕ) → writes instr d ≡ true → d ≡ c) → may_store actor firing c ≡ true → length cs ≡ length ds
      → Alike instr cs ds (with_cells cs c 1 (Leaves stack (slice_set cs c v))) (with_cells ds c 1 (Leaves stack (slice_set ds c v)))
  write-alike instr c v cs ds stack only may sizes =
      subst (λ n. Alike instr cs ds (with_cells cs c 1 (Leaves stack (slice_set cs c v))) (if nat_le (c + 1) n then Leaves stack (slice_set ds c v) else Breaks)) sizes
      (by (nat_le (c + 1) (length cs)) refl)
    where
      by : (b : Bool) → nat_le (c + 1) (length cs) ≡ b
          → Alike instr cs ds (if b then Leaves stack (slice_set cs c v) else Breaks) (if b then Leaves stack (slice_set ds c v) else Breaks)
      by true e =
          let low = leb-true (c + 1) (length cs) e in
          leaves stack (slice_set cs c v) (slice_set ds c v) (set-moved instr c v cs ds only may (omega (arith, low)) (omega (arith, low, sizes)))
      by false e = breaks

  -- an offset at which m of n stand
  offset-alike : (instr : Instr) (cs ds : List ℤ) (o : ℤ) (m n : ℕ) (f g : ℕ → Effect) → ((k : ℕ) → k + m ≤ n → Alike instr cs ds (f k) (g k))
      → Alike instr cs ds (with_offset o m n f) (with_offset o m n g)
  offset-alike instr cs ds (pos o) m n f g each = by (nat_le (o + m) n) refl
    where
      by : (b : Bool) → nat_le (o + m) n ≡ b → Alike instr cs ds (if b then f o else Fails IndexRange) (if b then g o else Fails IndexRange)
      by true e = each o (leb-true (o + m) n e)
      by false e = fails IndexRange
  offset-alike instr cs ds (negsuc o) m n f g each = fails IndexRange

  -- n cells from c on are there
  cells-alike : (instr : Instr) (cs ds : List ℤ) (c n : ℕ) (f g : Effect) → length cs ≡ length ds → (c + n ≤ length cs → Alike instr cs ds f g)
      → Alike instr cs ds (with_cells cs c n f) (with_cells ds c n g)
  cells-alike instr cs ds c n f g sizes each =
      subst (λ k. Alike instr cs ds (with_cells cs c n f) (if nat_le (c + n) k then g else Breaks)) sizes (by (nat_le (c + n) (length cs)) refl)
    where
      by : (b : Bool) → nat_le (c + n) (length cs) ≡ b → Alike instr cs ds (if b then f else Breaks) (if b then g else Breaks)
      by true e = each (leb-true (c + n) (length cs) e)
      by false e = breaks

  index-alike : (n m : ℕ) (cs ds stack : List ℤ) → Moved (op.Index n m) cs ds cs ds → Alike (op.Index n m) cs ds (effect tokens (op.Index n m) stack cs) (effect tokens (op.Index n m) stack ds)
  index-alike n m cs ds [] moved = breaks
  index-alike n m cs ds (i ∷ []) moved = breaks
  index-alike n m cs ds (i ∷ o ∷ stack) moved =
      offset-alike (op.Index n m) cs ds i 1 n (λ k. push_computed (whole (o +ℤ pos (k * m))) stack cs) (λ k. push_computed (whole (o +ℤ pos (k * m))) stack ds)
      (λ k low. computed-alike (op.Index n m) cs ds stack moved (whole (o +ℤ pos (k * m))))

  load_at-alike : (c n : ℕ) (cs ds stack : List ℤ) → Moved (op.LoadAt c n) cs ds cs ds → length cs ≡ length ds → ((d : ℕ) → reads (op.LoadAt c n) d ≡ true → cell cs d ≡ cell ds d)
      → Alike (op.LoadAt c n) cs ds (effect tokens (op.LoadAt c n) stack cs) (effect tokens (op.LoadAt c n) stack ds)
  load_at-alike c n cs ds [] moved sizes same = breaks
  load_at-alike c n cs ds (o ∷ stack) moved sizes same =
      offset-alike (op.LoadAt c n) cs ds o 1 n (λ k. with_cells cs (c + k) 1 (Leaves (cell cs (c + k) ∷ stack) cs)) (λ k. with_cells ds (c + k) 1 (Leaves (cell ds (c + k) ∷ stack) ds))
      (λ k low. read-alike (op.LoadAt c n) (c + k) cs ds stack moved sizes
      (same (c + k) (both (nat_le c (c + k)) (nat_le (suc (c + k)) (c + n)) (le-leb c (c + k) (omega arith)) (le-leb (suc (c + k)) (c + n) (omega (arith, low))))))

  store-alike : (c : ℕ) (t : Option Scalar) (cs ds stack : List ℤ) → may_store actor firing c ≡ true → length cs ≡ length ds
      → Alike (op.Store c t) cs ds (effect tokens (op.Store c t) stack cs) (effect tokens (op.Store c t) stack ds)
  store-alike c t cs ds [] may sizes = breaks
  store-alike c t cs ds (v ∷ stack) may sizes = write-alike (op.Store c t) c (stored t v) cs ds stack (λ d e. sym (eqb-true c d e)) may sizes

  store_at-alike : (c n : ℕ) (t : Option Scalar) (cs ds stack : List ℤ) → MayStoreEach actor firing c n → length cs ≡ length ds
      → Alike (op.StoreAt c n t) cs ds (effect tokens (op.StoreAt c n t) stack cs) (effect tokens (op.StoreAt c n t) stack ds)
  store_at-alike c n t cs ds [] may sizes = breaks
  store_at-alike c n t cs ds (v ∷ []) may sizes = breaks
  store_at-alike c n t cs ds (v ∷ o ∷ stack) may sizes =
      offset-alike (op.StoreAt c n t) cs ds o 1 n (λ k. with_cells cs (c + k) 1 (Leaves stack (slice_set cs (c + k) (stored t v)))) (λ k. with_cells ds (c + k) 1 (Leaves stack (slice_set ds (c + k) (stored t v))))
      (λ k low. write-alike (op.StoreAt c n t) (c + k) (stored t v) cs ds stack (λ d e. absurd (cc)) (may (c + k) (omega arith) (omega (arith, low))) sizes)

  token_at-alike : (p k m n : ℕ) (cs ds stack : List ℤ) → Moved (op.TokenAt p k m n) cs ds cs ds → AreNeeded needs p k m n
      → Alike (op.TokenAt p k m n) cs ds (effect tokens (op.TokenAt p k m n) stack cs) (effect tokens (op.TokenAt p k m n) stack ds)
  token_at-alike p k m n cs ds [] moved low = breaks
  token_at-alike p k m n cs ds (i ∷ stack) moved low =
      offset-alike (op.TokenAt p k m n) cs ds i 1 n (λ j. push_token (slice_get (tokens p) (k + j * m)) stack cs) (λ j. push_token (slice_get (tokens p) (k + j * m)) stack ds)
      (λ j less. token-alike (op.TokenAt p k m n) p (k + j * m) cs ds stack moved (let there = enough p in let one = low j (omega (arith, less)) in omega (arith, there, one)))

  copy-alike : (to from n : ℕ) (t : Option Scalar) (cs ds stack : List ℤ) → MayStoreEach actor firing to n → length cs ≡ length ds
      → ((d : ℕ) → reads (op.Copy to from n t) d ≡ true → cell cs d ≡ cell ds d)
      → Alike (op.Copy to from n t) cs ds (effect tokens (op.Copy to from n t) stack cs) (effect tokens (op.Copy to from n t) stack ds)
  copy-alike to from n t cs ds stack may sizes same =
      cells-alike (op.Copy to from n t) cs ds to n (with_cells cs from n (Leaves stack (copied t to from n cs))) (with_cells ds from n (Leaves stack (copied t to from n ds))) sizes
      (λ room. cells-alike (op.Copy to from n t) cs ds from n (Leaves stack (copied t to from n cs)) (Leaves stack (copied t to from n ds)) sizes
      (λ there. leaves stack (copied t to from n cs) (copied t to from n ds)
      (many-moved (op.Copy to from n t) to n cs ds (copied t to from n cs) (copied t to from n ds) (λ d h. h)
      (copied-alike actor firing t n to from cs ds room sizes may (λ k less. same (from + k) (among-is from n (from + k) (omega arith) (omega (arith, less))))))))

  copy_to-alike : (to n from m : ℕ) (t : Option Scalar) (cs ds stack : List ℤ) → MayStoreEach actor firing to n → length cs ≡ length ds
      → ((d : ℕ) → reads (op.CopyTo to n from m t) d ≡ true → cell cs d ≡ cell ds d)
      → Alike (op.CopyTo to n from m t) cs ds (effect tokens (op.CopyTo to n from m t) stack cs) (effect tokens (op.CopyTo to n from m t) stack ds)
  copy_to-alike to n from m t cs ds [] may sizes same = breaks
  copy_to-alike to n from m t cs ds (o ∷ stack) may sizes same =
      offset-alike (op.CopyTo to n from m t) cs ds o m n (λ k. with_cells cs (to + k) m (with_cells cs from m (Leaves stack (copied t (to + k) from m cs))))
      (λ k. with_cells ds (to + k) m (with_cells ds from m (Leaves stack (copied t (to + k) from m ds))))
      (λ k low. cells-alike (op.CopyTo to n from m t) cs ds (to + k) m (with_cells cs from m (Leaves stack (copied t (to + k) from m cs))) (with_cells ds from m (Leaves stack (copied t (to + k) from m ds))) sizes
      (λ room. cells-alike (op.CopyTo to n from m t) cs ds from m (Leaves stack (copied t (to + k) from m cs)) (Leaves stack (copied t (to + k) from m ds)) sizes
      (λ there. leaves stack (copied t (to + k) from m cs) (copied t (to + k) from m ds)
      (many-moved (op.CopyTo to n from m t) (to + k) m cs ds (copied t (to + k) from m cs) (copied t (to + k) from m ds) (λ d h. absurd (cc))
      (copied-alike actor firing t m (to + k) from cs ds room sizes (λ d above below. may d (omega (arith, above)) (omega (arith, below, low)))
      (λ j less. same (from + j) (among-is from m (from + j) (omega arith) (omega (arith, less)))))))))

  copy_from-alike : (to from n m : ℕ) (cs ds stack : List ℤ) → MayStoreEach actor firing to m → length cs ≡ length ds
      → ((d : ℕ) → reads (op.CopyFrom to from n m) d ≡ true → cell cs d ≡ cell ds d)
      → Alike (op.CopyFrom to from n m) cs ds (effect tokens (op.CopyFrom to from n m) stack cs) (effect tokens (op.CopyFrom to from n m) stack ds)
  copy_from-alike to from n m cs ds [] may sizes same = breaks
  copy_from-alike to from n m cs ds (o ∷ stack) may sizes same =
      offset-alike (op.CopyFrom to from n m) cs ds o m n (λ k. with_cells cs to m (with_cells cs (from + k) m (Leaves stack (copied None to (from + k) m cs))))
      (λ k. with_cells ds to m (with_cells ds (from + k) m (Leaves stack (copied None to (from + k) m ds))))
      (λ k low. cells-alike (op.CopyFrom to from n m) cs ds to m (with_cells cs (from + k) m (Leaves stack (copied None to (from + k) m cs))) (with_cells ds (from + k) m (Leaves stack (copied None to (from + k) m ds))) sizes
      (λ room. cells-alike (op.CopyFrom to from n m) cs ds (from + k) m (Leaves stack (copied None to (from + k) m cs)) (Leaves stack (copied None to (from + k) m ds)) sizes
      (λ there. leaves stack (copied None to (from + k) m cs) (copied None to (from + k) m ds)
      (many-moved (op.CopyFrom to from n m) to m cs ds (copied None to (from + k) m cs) (copied None to (from + k) m ds) (λ d h. h)
      (copied-alike actor firing None m to (from + k) cs ds room sizes may
      (λ j less. same (from + k + j) (among-is from n (from + k + j) (omega arith) (omega (arith, less, low)))))))))

  zero-alike : (c n : ℕ) (cs ds stack : List ℤ) → MayStoreEach actor firing c n → length cs ≡ length ds
      → Alike (op.Zero c n) cs ds (effect tokens (op.Zero c n) stack cs) (effect tokens (op.Zero c n) stack ds)
  zero-alike c n cs ds stack may sizes =
      cells-alike (op.Zero c n) cs ds c n (Leaves stack (zeroed c n cs)) (Leaves stack (zeroed c n ds)) sizes
      (λ room. leaves stack (zeroed c n cs) (zeroed c n ds)
      (many-moved (op.Zero c n) c n cs ds (zeroed c n cs) (zeroed c n ds) (λ d h. h) (zeroed-alike actor firing n c cs ds room sizes may)))

  token_list-alike : (to p k m n : ℕ) (cs ds stack : List ℤ) → MayStoreEach actor firing to n → AreNeeded needs p k m n → length cs ≡ length ds
      → Alike (op.TokenList to p k m n) cs ds (effect tokens (op.TokenList to p k m n) stack cs) (effect tokens (op.TokenList to p k m n) stack ds)
  token_list-alike to p k m n cs ds stack may low sizes =
      cells-alike (op.TokenList to p k m n) cs ds to n (leave_taken stack (taken (tokens p) to k m n cs)) (leave_taken stack (taken (tokens p) to k m n ds)) sizes
      (λ room.
      let took = taken-alike actor firing (tokens p) m n to k cs ds (λ j less. let there = enough p in let one = low j less in omega (arith, there, one)) room sizes may in
      subst (λ o. Alike (op.TokenList to p k m n) cs ds (leave_taken stack o) (leave_taken stack (taken (tokens p) to k m n ds))) (sym took.is)
      (subst (λ o. Alike (op.TokenList to p k m n) cs ds (leave_taken stack (Some took.cells)) (leave_taken stack o)) (sym took.other)
      (leaves stack took.cells took.others (many-moved (op.TokenList to p k m n) to n cs ds took.cells took.others (λ d h. h) took.written))))

  drop-alike : (cs ds stack : List ℤ) → Moved op.Drop cs ds cs ds → Alike op.Drop cs ds (effect tokens op.Drop stack cs) (effect tokens op.Drop stack ds)
  drop-alike cs ds [] moved = breaks
  drop-alike cs ds (v ∷ stack) moved = leaves stack cs ds moved

-- ---- where runs are

module _ (actor : Actor) (firing : Bool) (tokens : ℕ → List ℤ) (routines : ℕ → Option Span) (all-are : AreSpanRoutines actor firing routines) (action : Action)
    (enough : (p : ℕ) → number_on action.needs p ≤ length (tokens p)) (main : Span) (main-fits : SpanFits actor routines firing action.needs (last_of firing) main)
    (sends : firing ≡ true → SpanSends actor action main main.end) where
  abbrev code : Code
  code = actor.code

  -- the cells agree where they are set at a place of a body
  pub record InBody (body : Span) (p : ℕ) (cs ds : List ℤ) : Type 0 where
    pub from : body.begin ≤ p
    pub to : p < body.end
    pub agree : (c : ℕ) → set_at actor.kept body p c ≡ true → cell cs c ≡ cell ds c

  pub record InRoutine (p : ℕ) (cs ds : List ℤ) : Type 0 where
    pub r : ℕ
    pub body : Span
    pub there : routines r ≡ Some body
    pub inside : InBody body p cs ds

  -- a place, and those to which the open calls come back: the last of all is in the body itself
  abbrev pub AreInside : ℕ → List ℕ → List ℤ → List ℤ → Type 0
  AreInside p [] cs ds = InBody main p cs ds
  AreInside p (f ∷ frames) cs ds = InRoutine p cs ds × AreInside f frames cs ds

  pub record Inside (p : ℕ) (frames : List ℕ) (cs ds : List ℤ) : Type 0 where
    pub sizes : length cs ≡ length ds
    pub are : AreInside p frames cs ds

  -- where cells agree, they agree afterwards
  abbrev Kept : List ℤ → List ℤ → List ℤ → List ℤ → Type 0
  Kept cs ds cs' ds' = (c : ℕ) → cell cs c ≡ cell ds c → cell cs' c ≡ cell ds' c

  in-body : (body : Span) (p : ℕ) (cs ds cs' ds' : List ℤ) → Kept cs ds cs' ds' → InBody body p cs ds → InBody body p cs' ds'
  in-body body p cs ds cs' ds' kept i = record { from = i.from; to = i.to; agree = λ c set. kept c (i.agree c set) }

  inside-kept : (frames : List ℕ) (p : ℕ) (cs ds cs' ds' : List ℤ) → Kept cs ds cs' ds' → AreInside p frames cs ds → AreInside p frames cs' ds'
  inside-kept [] p cs ds cs' ds' kept i = in-body main p cs ds cs' ds' kept i
  inside-kept (f ∷ frames) p cs ds cs' ds' kept i =
      (record { r = i.0.r; body = i.0.body; there = i.0.there; inside = in-body i.0.body p cs ds cs' ds' kept i.0.inside }, inside-kept frames f cs ds cs' ds' kept i.1)

  state-set : (body : Span) (p c : ℕ) → c < actor.kept → set_at actor.kept body p c ≡ true
  state-set body p c low = ap (λ b. b || body.set p c) (le-leb (suc c) actor.kept (omega (arith, low)))

  state-agrees : (frames : List ℕ) (p : ℕ) (cs ds : List ℤ) → AreInside p frames cs ds → (c : ℕ) → c < actor.kept → cell cs c ≡ cell ds c
  state-agrees [] p cs ds i c low = i.agree c (state-set main p c low)
  state-agrees (f ∷ frames) p cs ds i c low = i.0.inside.agree c (state-set i.0.body p c low)

  -- the cells of the tokens to send agree
  abbrev SentAgree : List ℤ → List ℤ → Type 0
  SentAgree cs ds = (port k : ℕ) → port < actor.outs → k < number_on action.gives port → cell cs (number_on action.sends port + k) ≡ cell ds (number_on action.sends port + k)

  -- what two runs come to by a step
  data Steps (cs ds : List ℤ) : Next → Next → Type 0 where
    both_go : (q left : ℕ) (stack : List ℤ) (frames : List ℕ) (cs' ds' : List ℤ) → Inside q frames cs' ds' → length cs' ≡ length cs → ((c : ℕ) → may_store actor firing c ≡ false → cell cs' c ≡ cell cs c)
        → Steps cs ds (Goes (at q stack frames left cs')) (Goes (at q stack frames left ds'))
    both_over : (o : Outcome) → IsRight firing o → (o ≡ outcome.Done → SentAgree cs ds) → Steps cs ds (Over o cs) (Over o ds)
    both_stuck : Steps cs ds Stuck Stuck

  trap-right : (f : Bool) (cause : Trap) → IsRight f (outcome.Trap cause)
  trap-right true cause = tt
  trap-right false cause = tt

  answer-right : (f : Bool) → f ≡ false → (b : Bool) → IsRight f (if b then outcome.True else outcome.False)
  answer-right true e b = absurd (cc)
  answer-right false e true = tt
  answer-right false e false = tt

  done-right : (f : Bool) → f ≡ true → IsRight f outcome.Done
  done-right true e = tt
  done-right false e = absurd (cc)

  not-done : (b : Bool) → (if b then outcome.True else outcome.False) ≡ outcome.Done → ⊥
  not-done true e = absurd (cc)
  not-done false e = absurd (cc)

  -- ---- one step inside a body

  -- what is known of a place in a body, with the calls that are open there
  record Standing (needs : List ℕ) (end : Last) (body : Span) (p : ℕ) (frames : List ℕ) (cs ds : List ℤ) : Type 0 where
    have : (port : ℕ) → number_on needs port ≤ length (tokens port)
    inside : InBody body p cs ds
    sizes : length cs ≡ length ds
    again : (q : ℕ) (cs' ds' : List ℤ) → Kept cs ds cs' ds' → InBody body q cs' ds' → AreInside q frames cs' ds'
    answers : end ≡ last.Answer → firing ≡ false
    done : end ≡ last.Done → slice_get code.instrs p ≡ Some op.Done → (firing ≡ true) × SentAgree cs ds
    returns : end ≡ last.Return → (f : ℕ) × (rest : List ℕ) × (frames ≡ f ∷ rest) × AreInside f rest cs ds

  module _ (needs : List ℕ) (end : Last) (body : Span) (p left : ℕ) (stack : List ℤ) (frames : List ℕ) (cs ds : List ℤ) (here : Standing needs end body p frames cs ds) where
    -- what is set behind an instruction was set, or it is written there
    agree-next : (instr : Instr) (q : ℕ) (cs' ds' : List ℤ) → SpanFlows actor.kept body instr p q → ((c : ℕ) → (cell cs c ≡ cell ds c) ⊎ (writes instr c ≡ true) → cell cs' c ≡ cell ds' c)
        → (c : ℕ) → set_at actor.kept body q c ≡ true → cell cs' c ≡ cell ds' c
    agree-next instr q cs' ds' flows moved c set = moved c (by (flows c set))
      where
        by : (set_at actor.kept body p c ≡ true) ⊎ (writes instr c ≡ true) → (cell cs c ≡ cell ds c) ⊎ (writes instr c ≡ true)
        by (inl h) = inl (here.inside.agree c h)
        by (inr h) = inr h

    -- an instruction that goes to the next place
    goes : (instr : Instr) → goes_on instr ≡ true → SpanFitsHere actor routines firing needs end body p instr → (e f : Effect) → Alike actor firing needs tokens here.have instr cs ds e f
        → Steps cs ds (go_on (at p stack frames left cs) e) (go_on (at p stack frames left ds) f)
    goes instr on fit _ _ (leaves stack' cs' ds' moved) =
        let next = fit.next on in
        let from = here.inside.from in
        both_go (p + 1) left stack' frames cs' ds' (record {
          sizes = moved.size ∙ (here.sizes ∙ sym moved.other_size);
          are = here.again (p + 1) cs' ds' (λ c h. moved.agree c (inl h)) (record { from = omega (arith, from); to = next.0; agree = agree-next instr (p + 1) cs' ds' next.1 moved.agree });
        }) moved.size moved.keeps
    goes instr on fit _ _ (fails cause) = both_over (outcome.Trap cause) (trap-right firing cause) (λ done. absurd (cc))
    goes instr on fit _ _ breaks = both_stuck

    quiet : (instr : Instr) → ((c : ℕ) → writes instr c ≡ true → ⊥) → Moved actor firing needs tokens here.have instr cs ds cs ds
    quiet instr none = still actor firing needs tokens here.have instr cs ds none

    -- a place to which an instruction leads that changes nothing but the place and the operands
    moved-in : (instr : Instr) (q : ℕ) → ((c : ℕ) → writes instr c ≡ true → ⊥) → body.begin ≤ q → q < body.end → SpanFlows actor.kept body instr p q → AreInside q frames cs ds
    moved-in instr q none from to flows =
        here.again q cs ds (λ c h. h) (record { from = from; to = to; agree = agree-next instr q cs ds flows (quiet instr none).agree })

    moves : (instr : Instr) (q left' : ℕ) (stack' : List ℤ) → ((c : ℕ) → writes instr c ≡ true → ⊥) → body.begin ≤ q → q < body.end → SpanFlows actor.kept body instr p q
        → Steps cs ds (Goes (at q stack' frames left' cs)) (Goes (at q stack' frames left' ds))
    moves instr q left' stack' none from to flows =
        both_go q left' stack' frames cs ds (record { sizes = here.sizes; are = moved-in instr q none from to flows }) refl (λ c h. refl)

    agrees : (instr : Instr) → SpanFitsHere actor routines firing needs end body p instr → (c : ℕ) → reads instr c ≡ true → cell cs c ≡ cell ds c
    agrees instr fit c h = here.inside.agree c (fit.reads c h)

    by-jump : (t : ℕ) (st : List ℤ) → SpanFitsHere actor routines firing needs end body p (op.JumpIfNot t) → Steps cs ds (jump_if_not t (at p stack frames left cs) st) (jump_if_not t (at p stack frames left ds) st)
    by-jump t [] fit = both_stuck
    by-jump t (a ∷ st) fit = by (is_true a)
      where
        by : (b : Bool) → Steps cs ds (Goes (at (if b then p + 1 else t) st frames left cs)) (Goes (at (if b then p + 1 else t) st frames left ds))
        by true = let next = fit.next refl in let from = here.inside.from in moves (op.JumpIfNot t) (p + 1) left st (λ c h. absurd (cc)) (omega (arith, from)) next.0 next.1
        by false = let jump = fit.jump t refl in moves (op.JumpIfNot t) t left st (λ c h. absurd (cc)) jump.0 jump.1 jump.2

    by-turn : (n : ℕ) → SpanFitsHere actor routines firing needs end body p op.Turn → Steps cs ds (turn (at p stack frames left cs) n) (turn (at p stack frames left ds) n)
    by-turn zero fit = both_over (outcome.Trap TurnLimit) (trap-right firing TurnLimit) (λ done. absurd (cc))
    by-turn (suc n) fit = let next = fit.next refl in let from = here.inside.from in moves op.Turn (p + 1) n stack (λ c h. absurd (cc)) (omega (arith, from)) next.0 next.1

    by-answer : (st : List ℤ) → SpanFitsHere actor routines firing needs end body p op.Answer → Steps cs ds (answer (at p stack frames left cs) st) (answer (at p stack frames left ds) st)
    by-answer [] fit = both_stuck
    by-answer (a ∷ st) fit = both_over (if is_true a then outcome.True else outcome.False) (answer-right firing (here.answers fit.may) (is_true a)) (λ done. absurd (not-done (is_true a) done))

    by-call : (r : ℕ) → SpanFitsHere actor routines firing needs end body p (op.Call r) → Steps cs ds (call code r (at p stack frames left cs)) (call code r (at p stack frames left ds))
    by-call r fit = by (slice_get code.routines r) refl
      where
        by : (o : Option Routine) → slice_get code.routines r ≡ o
            → Steps cs ds (elim o [ None ↦ Stuck | Some routine ↦ Goes (at routine.start stack ((p + 1) ∷ frames) left cs) ]) (elim o [ None ↦ Stuck | Some routine ↦ Goes (at routine.start stack ((p + 1) ∷ frames) left ds) ])
        by None e = both_stuck
        by (Some routine) e =
            let may = fit.calls r refl in
            let one = all-are r may.callee may.there in
            let starts : routine.start ≡ may.callee.begin = one.starts routine e in
            let next = fit.next refl in
            let from = here.inside.from in
            both_go routine.start left stack ((p + 1) ∷ frames) cs ds (record {
              sizes = here.sizes;
              are = (
                record {
                  r = r;
                  body = may.callee;
                  there = may.there;
                  inside = subst (λ q. InBody may.callee q cs ds) (sym starts) (record { from = omega arith; to = one.fits.some; agree = λ c set. here.inside.agree c (may.enters c set) });
                },
                moved-in (op.Call r) (p + 1) (λ c h. absurd (cc)) (omega (arith, from)) next.0 next.1,
              );
            }) refl (λ c h. refl)

    by-return : SpanFitsHere actor routines firing needs end body p op.Return → Steps cs ds (return (at p stack frames left cs) frames) (return (at p stack frames left ds) frames)
    by-return fit =
        let back = here.returns fit.may in
        subst (λ fs. Steps cs ds (return (at p stack frames left cs) fs) (return (at p stack frames left ds) fs)) (sym back.2)
        (both_go back.0 left stack back.1 cs ds (record { sizes = here.sizes; are = back.3 }) refl (λ c h. refl))

    by-done : slice_get code.instrs p ≡ Some op.Done → SpanFitsHere actor routines firing needs end body p op.Done → Steps cs ds (Over outcome.Done cs) (Over outcome.Done ds)
    by-done is fit = let right = here.done fit.may is in both_over outcome.Done (done-right firing right.0) (λ done. right.1)

    obeyed : (instr : Instr) → slice_get code.instrs p ≡ Some instr → SpanFitsHere actor routines firing needs end body p instr
        → Steps cs ds (obey code tokens (at p stack frames left cs) instr) (obey code tokens (at p stack frames left ds) instr)
    obeyed (op.Const v) is fit = goes (op.Const v) refl fit _ _ (leaves (v ∷ stack) cs ds (quiet (op.Const v) (λ c h. absurd (cc))))
    obeyed (op.Load c) is fit =
        goes (op.Load c) refl fit _ _ (read-alike actor firing needs tokens here.have (op.Load c) c cs ds stack (quiet (op.Load c) (λ d h. absurd (cc))) here.sizes (agrees (op.Load c) fit c (eq-eqb c c refl)))
    obeyed (op.Store c t) is fit = goes (op.Store c t) refl fit _ _ (store-alike actor firing needs tokens here.have c t cs ds stack fit.may here.sizes)
    obeyed (op.Index n m) is fit = goes (op.Index n m) refl fit _ _ (index-alike actor firing needs tokens here.have n m cs ds stack (quiet (op.Index n m) (λ c h. absurd (cc))))
    obeyed (op.LoadAt c n) is fit =
        goes (op.LoadAt c n) refl fit _ _ (load_at-alike actor firing needs tokens here.have c n cs ds stack (quiet (op.LoadAt c n) (λ d h. absurd (cc))) here.sizes (agrees (op.LoadAt c n) fit))
    obeyed (op.StoreAt c n t) is fit = goes (op.StoreAt c n t) refl fit _ _ (store_at-alike actor firing needs tokens here.have c n t cs ds stack fit.may here.sizes)
    obeyed (op.Token q k) is fit =
        goes (op.Token q k) refl fit _ _ (token-alike actor firing needs tokens here.have (op.Token q k) q k cs ds stack (quiet (op.Token q k) (λ c h. absurd (cc))) (let there = here.have q in let low : k < number_on needs q = fit.may in omega (arith, there, low)))
    obeyed (op.TokenAt q k m n) is fit = goes (op.TokenAt q k m n) refl fit _ _ (token_at-alike actor firing needs tokens here.have q k m n cs ds stack (quiet (op.TokenAt q k m n) (λ c h. absurd (cc))) fit.may)
    obeyed op.Neg is fit = goes op.Neg refl fit _ _ (top-alike actor firing needs tokens here.have op.Neg neg cs ds stack (quiet op.Neg (λ c h. absurd (cc))))
    obeyed op.BitNot is fit = goes op.BitNot refl fit _ _ (top-alike actor firing needs tokens here.have op.BitNot (λ a. Gives (bit_not a)) cs ds stack (quiet op.BitNot (λ c h. absurd (cc))))
    obeyed op.Not is fit = goes op.Not refl fit _ _ (top-alike actor firing needs tokens here.have op.Not (λ a. Gives (truth (not (is_true a)))) cs ds stack (quiet op.Not (λ c h. absurd (cc))))
    obeyed op.Add is fit = goes op.Add refl fit _ _ (two-alike actor firing needs tokens here.have op.Add add cs ds stack (quiet op.Add (λ c h. absurd (cc))))
    obeyed op.Sub is fit = goes op.Sub refl fit _ _ (two-alike actor firing needs tokens here.have op.Sub sub cs ds stack (quiet op.Sub (λ c h. absurd (cc))))
    obeyed op.Mul is fit = goes op.Mul refl fit _ _ (two-alike actor firing needs tokens here.have op.Mul mul cs ds stack (quiet op.Mul (λ c h. absurd (cc))))
    obeyed op.Div is fit = goes op.Div refl fit _ _ (two-alike actor firing needs tokens here.have op.Div div cs ds stack (quiet op.Div (λ c h. absurd (cc))))
    obeyed op.Mod is fit = goes op.Mod refl fit _ _ (two-alike actor firing needs tokens here.have op.Mod rem cs ds stack (quiet op.Mod (λ c h. absurd (cc))))
    obeyed op.Shl is fit = goes op.Shl refl fit _ _ (two-alike actor firing needs tokens here.have op.Shl shl cs ds stack (quiet op.Shl (λ c h. absurd (cc))))
    obeyed op.Shr is fit = goes op.Shr refl fit _ _ (two-alike actor firing needs tokens here.have op.Shr shr cs ds stack (quiet op.Shr (λ c h. absurd (cc))))
    obeyed op.And is fit = goes op.And refl fit _ _ (two-alike actor firing needs tokens here.have op.And (λ a b. Gives (bit_and a b)) cs ds stack (quiet op.And (λ c h. absurd (cc))))
    obeyed op.Or is fit = goes op.Or refl fit _ _ (two-alike actor firing needs tokens here.have op.Or (λ a b. Gives (bit_or a b)) cs ds stack (quiet op.Or (λ c h. absurd (cc))))
    obeyed op.Xor is fit = goes op.Xor refl fit _ _ (two-alike actor firing needs tokens here.have op.Xor (λ a b. Gives (bit_xor a b)) cs ds stack (quiet op.Xor (λ c h. absurd (cc))))
    obeyed op.Eq is fit = goes op.Eq refl fit _ _ (two-alike actor firing needs tokens here.have op.Eq (λ a b. Gives (truth (is_equal a b))) cs ds stack (quiet op.Eq (λ c h. absurd (cc))))
    obeyed op.Ne is fit = goes op.Ne refl fit _ _ (two-alike actor firing needs tokens here.have op.Ne (λ a b. Gives (truth (not (is_equal a b)))) cs ds stack (quiet op.Ne (λ c h. absurd (cc))))
    obeyed op.Lt is fit = goes op.Lt refl fit _ _ (two-alike actor firing needs tokens here.have op.Lt (λ a b. Gives (truth (is_below a b))) cs ds stack (quiet op.Lt (λ c h. absurd (cc))))
    obeyed op.Le is fit = goes op.Le refl fit _ _ (two-alike actor firing needs tokens here.have op.Le (λ a b. Gives (truth (not (is_below b a)))) cs ds stack (quiet op.Le (λ c h. absurd (cc))))
    obeyed op.Gt is fit = goes op.Gt refl fit _ _ (two-alike actor firing needs tokens here.have op.Gt (λ a b. Gives (truth (is_below b a))) cs ds stack (quiet op.Gt (λ c h. absurd (cc))))
    obeyed op.Ge is fit = goes op.Ge refl fit _ _ (two-alike actor firing needs tokens here.have op.Ge (λ a b. Gives (truth (not (is_below a b)))) cs ds stack (quiet op.Ge (λ c h. absurd (cc))))
    obeyed op.Drop is fit = goes op.Drop refl fit _ _ (drop-alike actor firing needs tokens here.have cs ds stack (quiet op.Drop (λ c h. absurd (cc))))
    obeyed (op.Jump t) is fit = let jump = fit.jump t refl in moves (op.Jump t) t left stack (λ c h. absurd (cc)) jump.0 jump.1 jump.2
    obeyed (op.JumpIfNot t) is fit = by-jump t stack fit
    obeyed op.Turn is fit = by-turn left fit
    obeyed op.Answer is fit = by-answer stack fit
    obeyed op.Done is fit = by-done is fit
    obeyed (op.Copy d s n t) is fit = goes (op.Copy d s n t) refl fit _ _ (copy-alike actor firing needs tokens here.have d s n t cs ds stack fit.may here.sizes (agrees (op.Copy d s n t) fit))
    obeyed (op.CopyTo d n s m t) is fit = goes (op.CopyTo d n s m t) refl fit _ _ (copy_to-alike actor firing needs tokens here.have d n s m t cs ds stack fit.may here.sizes (agrees (op.CopyTo d n s m t) fit))
    obeyed (op.CopyFrom d s n m) is fit = goes (op.CopyFrom d s n m) refl fit _ _ (copy_from-alike actor firing needs tokens here.have d s n m cs ds stack fit.may here.sizes (agrees (op.CopyFrom d s n m) fit))
    obeyed (op.TokenList d q k m n) is fit = goes (op.TokenList d q k m n) refl fit _ _ (token_list-alike actor firing needs tokens here.have d q k m n cs ds stack fit.may.0 fit.may.1 here.sizes)
    obeyed (op.Zero c n) is fit = goes (op.Zero c n) refl fit _ _ (zero-alike actor firing needs tokens here.have c n cs ds stack fit.may here.sizes)
    obeyed (op.Call r) is fit = by-call r fit
    obeyed op.Return is fit = by-return fit

    stepped : SpanFits actor routines firing needs end body → Steps cs ds (step code tokens (at p stack frames left cs)) (step code tokens (at p stack frames left ds))
    stepped fits = by (slice_get code.instrs p) refl
      where
        by : (o : Option Instr) → slice_get code.instrs p ≡ o
            → Steps cs ds (elim o [ None ↦ Stuck | Some i ↦ obey code tokens (at p stack frames left cs) i ]) (elim o [ None ↦ Stuck | Some i ↦ obey code tokens (at p stack frames left ds) i ])
        by None e = both_stuck
        by (Some instr) e = obeyed instr e (fits.each p here.inside.from here.inside.to instr e)

  -- ---- one step anywhere

  end-answers : (f : Bool) → last_of f ≡ last.Answer → f ≡ false
  end-answers true e = absurd (cc)
  end-answers false e = refl

  end-done : (f : Bool) → last_of f ≡ last.Done → f ≡ true
  end-done true e = refl
  end-done false e = absurd (cc)

  end-returns : (f : Bool) → last_of f ≡ last.Return → ⊥
  end-returns true e = absurd (cc)
  end-returns false e = absurd (cc)

  steps : (frames : List ℕ) (p left : ℕ) (stack cs ds : List ℤ) → Inside p frames cs ds → Steps cs ds (step code tokens (at p stack frames left cs)) (step code tokens (at p stack frames left ds))
  steps [] p left stack cs ds i =
      stepped action.needs (last_of firing) main p left stack [] cs ds (record {
        have = enough;
        inside = i.are;
        sizes = i.sizes;
        again = λ q cs' ds' kept inside. inside;
        answers = end-answers firing;
        done = λ e is. (end-done firing e, λ port k low less. i.are.agree (number_on action.sends port + k) (sends (end-done firing e) p i.are.from i.are.to is port k low less));
        returns = λ e. absurd (end-returns firing e);
      }) main-fits
  steps (f ∷ frames) p left stack cs ds i =
      let routine = i.are.0 in
      stepped [] last.Return routine.body p left stack (f ∷ frames) cs ds (record {
        have = λ port. omega arith;
        inside = routine.inside;
        sizes = i.sizes;
        again = λ q cs' ds' kept inside. (record { r = routine.r; body = routine.body; there = routine.there; inside = inside }, inside-kept frames f cs ds cs' ds' kept i.are.1);
        answers = λ e. absurd (cc);
        done = λ e is. absurd (cc);
        returns = λ e. (f, frames, refl, i.are.1);
      }) (all-are routine.r routine.body routine.there).fits

  -- ---- whole runs

  -- two runs that ended
  pub record Ended (cs ds : List ℤ) (o : Outcome) (left last : List ℤ) : Type 0 where
    pub right : IsRight firing o
    pub sizes : length left ≡ length last
    pub size : length left ≡ length cs
    pub same : (c : ℕ) → c < actor.kept → cell left c ≡ cell last c
    pub sent : o ≡ outcome.Done → SentAgree left last
    pub keeps : (c : ℕ) → may_store actor firing c ≡ false → cell left c ≡ cell cs c

  pub record Runs (p left : ℕ) (stack : List ℤ) (frames : List ℕ) (cs ds : List ℤ) (o : Outcome) (end : List ℤ) : Type 0 where
    pub last : List ℤ
    pub other : Ends code tokens (at p stack frames left ds) o last
    pub ended : Ended cs ds o end last

  pub runs-alike : {s : State} {o : Outcome} {end : List ℤ} → Ends code tokens s o end → (p left : ℕ) (stack : List ℤ) (frames : List ℕ) (cs ds : List ℤ) → s ≡ at p stack frames left cs → Inside p frames cs ds
      → Runs p left stack frames cs ds o end
  runs-alike {s} {o} {end} (stop e) p left stack frames cs ds is inside =
      by (step code tokens (at p stack frames left cs)) (step code tokens (at p stack frames left ds)) (steps frames p left stack cs ds inside) (sym (ap (step code tokens) is) ∙ e) refl
    where
      by : (n m : Next) → Steps cs ds n m → n ≡ Over o end → step code tokens (at p stack frames left ds) ≡ m → Runs p left stack frames cs ds o end
      by _ _ (both_go q left' stack' frames' cs' ds' i s' k) f g = absurd (cc)
      by _ _ both_stuck f g = absurd (cc)
      by _ _ (both_over o' right set) f g =
          let same : o' ≡ o = cc in
          let cells : cs ≡ end = cc in
          subst (λ x. Runs p left stack frames cs ds x end) same
          (subst (λ zs. Runs p left stack frames cs ds o' zs) cells
          (record {
            last = ds;
            other = stop g;
            ended = record {
              right = right;
              sizes = inside.sizes;
              size = refl;
              same = λ c low. state-agrees frames p cs ds inside.are c low;
              sent = set;
              keeps = λ c h. refl;
            };
          }))
  runs-alike {s} {o} {end} (go {t = t} e rest) p left stack frames cs ds is inside =
      by (step code tokens (at p stack frames left cs)) (step code tokens (at p stack frames left ds)) (steps frames p left stack cs ds inside) (sym (ap (step code tokens) is) ∙ e) refl
      (λ q left' stack' frames' cs' ds' same i. runs-alike rest q left' stack' frames' cs' ds' same i)
    where
      by : (n m : Next) → Steps cs ds n m → n ≡ Goes t → step code tokens (at p stack frames left ds) ≡ m
          → ((q left' : ℕ) (stack' : List ℤ) (frames' : List ℕ) (cs' ds' : List ℤ) → t ≡ at q stack' frames' left' cs' → Inside q frames' cs' ds' → Runs q left' stack' frames' cs' ds' o end)
          → Runs p left stack frames cs ds o end
      by _ _ (both_over o' right set) f g more = absurd (cc)
      by _ _ both_stuck f g more = absurd (cc)
      by _ _ (both_go q left' stack' frames' cs' ds' i size keeps) f g more =
          let there : t ≡ at q stack' frames' left' cs' = cc in
          let then_ = more q left' stack' frames' cs' ds' there i in
          record {
            last = then_.last;
            other = go g then_.other;
            ended = record {
              right = then_.ended.right;
              sizes = then_.ended.sizes;
              size = then_.ended.size ∙ size;
              same = then_.ended.same;
              sent = then_.ended.sent;
              keeps = λ c h. then_.ended.keeps c h ∙ keeps c h;
            };
          }

  abbrev cells-of : Next → List ℤ
  cells-of (Goes s) = s.cells
  cells-of (Over o cells) = cells
  cells-of Lacks = []
  cells-of Stuck = []

  -- no run lacks a token
  pub never-lacks : {s u : State} → Reaches code tokens s u → (p left : ℕ) (stack : List ℤ) (frames : List ℕ) (cs : List ℤ) → s ≡ at p stack frames left cs → Inside p frames cs cs → step code tokens u ≢ Lacks
  never-lacks {s} here p left stack frames cs is inside l =
      by (step code tokens (at p stack frames left cs)) (step code tokens (at p stack frames left cs)) (steps frames p left stack cs cs inside) (sym (ap (step code tokens) is) ∙ l)
    where
      by : (n m : Next) → Steps cs cs n m → n ≡ Lacks → ⊥
      by _ _ (both_go q left' stack' frames' cs' ds' i s' k) f = absurd (cc)
      by _ _ (both_over o' right set) f = absurd (cc)
      by _ _ both_stuck f = absurd (cc)
  never-lacks {s} {u} (after {t = t} e rest) p left stack frames cs is inside l =
      by (step code tokens (at p stack frames left cs)) (step code tokens (at p stack frames left cs)) (steps frames p left stack cs cs inside) (sym (ap (step code tokens) is) ∙ e) refl
      (λ q left' stack' frames' cs' same i. never-lacks rest q left' stack' frames' cs' same i l)
    where
      by : (n m : Next) → Steps cs cs n m → n ≡ Goes t → n ≡ m
          → ((q left' : ℕ) (stack' : List ℤ) (frames' : List ℕ) (cs' : List ℤ) → t ≡ at q stack' frames' left' cs' → Inside q frames' cs' cs' → ⊥) → ⊥
      by _ _ (both_over o' right set) f g more = absurd (cc)
      by _ _ both_stuck f g more = absurd (cc)
      by _ _ (both_go q left' stack' frames' cs' ds' i size keeps) f g more =
          let there : t ≡ at q stack' frames' left' cs' = cc in
          let alone : cs' ≡ ds' = ap cells-of g in
          more q left' stack' frames' cs' there (subst (λ zs. Inside q frames' cs' zs) (sym alone) i)
