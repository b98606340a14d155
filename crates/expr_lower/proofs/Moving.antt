-- Cells and tokens that are copied to other cells.
use Rattle.std.proofs.Common.{◌≡◌, ℕ, zero, suc, ◌+◌, ◌*◌, ◌<◌, ◌≤◌, ◌⊎◌, inl, inr, ⊎_elim, ℤ, pos, List, [], ◌∷◌, length, true, refl, sym, ap, ◌∙◌, subst, Option, None, Some, arith}
use Rattle.std.specs.Prelude.{if◌then◌else◌, nat_le, slice_get, slice_set}
use Rattle.std.proofs.lemmas.Bool.Decides.{nat_tests}
use Rattle.std.proofs.lemmas.List.{length-set}
use Rattle.std.proofs.lemmas.Option.{slice_get_within, slice_get-get_or, get_or_from_slice_get}
use Rattle.rvc_base.specs.declared.scalar.Scalar.{Scalar}
use Rattle.code_ir.specs.declared.instr.Instr.TheVariants as op
use Rattle.code_ir.specs.Effect.{Leaves, Breaks, cell, copied, effect, leave_taken, taken, stored as in_cell}
use Rattle.code_ir.proofs.Marks.{get-set, get-other}
use Rattle.lower_base.specs.declared.names.Seat.TheVariants.{Cell}
use Rattle.lower_base.specs.Held.{StandAt}

-- ---- ranges of cells

-- n numbers that were read one after the other stand in the cells from d on, and no other cell has changed
pub record AreMoved (f : ℤ → ℤ) (read : ℕ → Option ℤ) (d n : ℕ) (before now : List ℤ) : Type 0 where
  pub same_size : length now ≡ length before
  pub there : (j : ℕ) (z : ℤ) → j < n → read j ≡ Some z → slice_get now (d + j) ≡ Some (f z)
  pub others : (c : ℕ) → (c < d) ⊎ (d + n ≤ c) → slice_get now c ≡ slice_get before c

pub moved_none : (f : ℤ → ℤ) (read : ℕ → Option ℤ) (d : ℕ) (cells : List ℤ) → AreMoved f read d 0 cells cells
moved_none f read d cells = record { same_size = refl; there = λ j z less e. absurd (omega (arith, less)); others = λ c away. refl }

pub moved_more : (f : ℤ → ℤ) (read later : ℕ → Option ℤ) (d n : ℕ) (v : ℤ) (before now : List ℤ) → d < length before → ((z : ℤ) → read 0 ≡ Some z → v ≡ f z) → ((j : ℕ) (z : ℤ) → j < n → read (suc j) ≡ Some z → later j ≡ Some z)
    → AreMoved f later (d + 1) n (slice_set before d v) now → AreMoved f read d (suc n) before now
moved_more f read later d n v before now less first rest m = record {
  same_size = m.same_size ∙ length-set before d v;
  there = λ j z small e. at_place j z small e;
  others = λ c away. m.others c (⊎_elim (λ (a : c < d). inl (omega (arith, a))) (λ (a : d + suc n ≤ c). inr (omega (arith, a))) away)
      ∙ get-other before d c v (λ e. ⊎_elim (λ (a : c < d). absurd (omega (arith, a, e))) (λ (a : d + suc n ≤ c). absurd (omega (arith, a, e))) away);
}
  where
    at_place : (j : ℕ) (z : ℤ) → j < suc n → read j ≡ Some z → slice_get now (d + j) ≡ Some (f z)
    at_place zero z small e =
        let same : d ≡ d + 0 = omega arith in
        subst (λ c. slice_get now c ≡ Some (f z)) same (m.others d (inl (omega arith)) ∙ get-set before d v less ∙ ap Some (first z e))
    at_place (suc j) z small e = let same : d + 1 + j ≡ d + suc j = omega arith in subst (λ c. slice_get now c ≡ Some (f z)) same (m.there j z (omega (arith, small)) (rest j z (omega (arith, small)) e))

pub copied_are : (t : Option Scalar) (d s n : ℕ) (cells : List ℤ) → (s + n ≤ d) ⊎ (d ≤ s) → d + n ≤ length cells → AreMoved (in_cell t) (λ j. slice_get cells (s + j)) d n cells (copied t d s n cells)
copied_are t d s zero cells far room = moved_none (in_cell t) (λ j. slice_get cells (s + j)) d cells
copied_are t d s (suc n) cells far room =
    let v : ℤ = in_cell t (cell cells s) in
    let next : List ℤ = slice_set cells d v in
    let size : length next ≡ length cells = length-set cells d v in
    let apart : (s + 1 + n ≤ d + 1) ⊎ (d + 1 ≤ s + 1) = ⊎_elim (λ (a : s + suc n ≤ d). inl (omega (arith, a))) (λ (a : d ≤ s). inr (omega (arith, a))) far in
    moved_more (in_cell t) (λ j. slice_get cells (s + j)) (λ j. slice_get next (s + 1 + j)) d n v cells (copied t (d + 1) (s + 1) n next) (omega (arith, room))
    (λ z e. let same : s + 0 ≡ s = omega arith in ap (in_cell t) (get_or_from_slice_get cells s z (pos 0) (subst (λ c. slice_get cells c ≡ Some z) same e)))
    (λ j z small e. let same : s + suc j ≡ s + 1 + j = omega arith in
    get-other cells d (s + 1 + j) v (λ g. ⊎_elim (λ (a : s + suc n ≤ d). absurd (omega (arith, a, g, small))) (λ (a : d ≤ s). absurd (omega (arith, a, g))) far)
    ∙ subst (λ c. slice_get cells c ≡ Some z) same e)
    (copied_are t (d + 1) (s + 1) n next apart (omega (arith, room, size)))

-- tokens that are there are taken
pub record AreTaken (ts : List ℤ) (d k m n : ℕ) (cells : List ℤ) : Type 0 where
  pub now : List ℤ
  pub are : taken ts d k m n cells ≡ Some now
  pub moved : AreMoved (λ z. z) (λ j. slice_get ts (k + j * m)) d n cells now

pub taken_are : (ts : List ℤ) (d k m n : ℕ) (cells : List ℤ) → ((j : ℕ) → j < n → (z : ℤ) × (slice_get ts (k + j * m) ≡ Some z)) → d + n ≤ length cells → AreTaken ts d k m n cells
taken_are ts d k m zero cells there room = record { now = cells; are = refl; moved = moved_none (λ z. z) (λ j. slice_get ts (k + j * m)) d cells }
taken_are ts d k m (suc n) cells there room =
    let first = there 0 (omega arith) in
    let at : k + 0 * m ≡ k = omega arith in
    let here : slice_get ts k ≡ Some first.0 = subst (λ c. slice_get ts c ≡ Some first.0) at first.1 in
    let next : List ℤ = slice_set cells d first.0 in
    let size : length next ≡ length cells = length-set cells d first.0 in
    let rest : AreTaken ts (d + 1) (k + m) m n next = taken_are ts (d + 1) (k + m) m n next
    (λ j small. let more = there (suc j) (omega (arith, small)) in (more.0, subst (λ c. slice_get ts c ≡ Some more.0) (behind k m j) more.1)) (omega (arith, room, size))
    in
    record {
      now = rest.now;
      are = ap (λ (o : Option ℤ). elim o [ None ↦ None | Some v ↦ taken ts (d + 1) (k + m) m n (slice_set cells d v) ]) here ∙ rest.are;
      moved = moved_more (λ z. z) (λ j. slice_get ts (k + j * m)) (λ j. slice_get ts (k + m + j * m)) d n first.0 cells rest.now (omega (arith, room))
          (λ z e. same (sym first.1 ∙ e))
          (λ j z small e. subst (λ c. slice_get ts c ≡ Some z) (behind k m j) e) rest.moved;
    }
  where
    behind : (k m j : ℕ) → k + suc j * m ≡ k + m + j * m
    behind k m j = let more : suc j * m ≡ m + j * m = omega arith in omega (arith, more)

    same : {a b : ℤ} → ◌≡◌ {A = Option ℤ} (Some a) (Some b) → a ≡ b
    same e = cc

-- ---- instructions

pub range_there : (c : ℕ) (tokens : ℕ → List ℤ) (cells zs : List ℤ) → 1 ≤ length zs → StandAt (Cell c) tokens cells zs → c + length zs ≤ length cells
range_there c tokens cells [] some stands = absurd (omega (arith, some))
range_there c tokens cells (z ∷ zs) some stands =
    let last = slice_get-get_or (z ∷ zs) (length zs) z (omega arith) in
    let within = slice_get_within cells (c + length zs) _ (stands (length zs) _ last) in
    omega (arith, within)

pub copy_leaves : (t : Option Scalar) (d s n : ℕ) (tokens : ℕ → List ℤ) (stack cells : List ℤ) → d + n ≤ length cells → s + n ≤ length cells → effect tokens (op.Copy d s n t) stack cells ≡ Leaves stack (copied t d s n cells)
copy_leaves t d s n tokens stack cells to from =
    let near : nat_le (d + n) (length cells) ≡ true = grind (arith, nat_tests, to) in
    let far : nat_le (s + n) (length cells) ≡ true = grind (arith, nat_tests, from) in
    ap (λ b. if b then (if nat_le (s + n) (length cells) then Leaves stack (copied t d s n cells) else Breaks) else Breaks) near
    ∙ ap (λ b. if b then Leaves stack (copied t d s n cells) else Breaks) far

pub take_leaves : (d port k m n : ℕ) (tokens : ℕ → List ℤ) (stack cells : List ℤ) → d + n ≤ length cells → (a : AreTaken (tokens port) d k m n cells) → effect tokens (op.TokenList d port k m n) stack cells ≡ Leaves stack a.now
take_leaves d port k m n tokens stack cells to a =
    let near : nat_le (d + n) (length cells) ≡ true = grind (arith, nat_tests, to) in
    ap (λ b. if b then leave_taken stack (taken (tokens port) d k m n cells) else Breaks) near ∙ ap (λ o. leave_taken stack o) a.are
