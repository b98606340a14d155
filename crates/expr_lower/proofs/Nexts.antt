-- What comes behind an element leads to the next number of a generator, or on.
use Rattle.std.proofs.Common.{◌≡◌, ℕ, suc, ◌+◌, ◌<◌, ◌≤◌, ◌⊎◌, inl, inr, ⊎_elim, ℤ, pos, ◌+ℤ◌, List, [], ◌∷◌, ◌++◌, length, Bool, true, false, refl, ◌∙◌, subst, Some, arith}
use Rattle.std.specs.Prelude.{if◌then◌else◌, int_lt, slice_get}
use Rattle.std.proofs.lemmas.Int.{ints}
use Rattle.rvc_base.specs.Arithmetic.{truth}
use Rattle.rvc_base.specs.Storing.{conv}
use Rattle.rvc_base.specs.Width.{IsNum}
use Rattle.cal_ast.specs.Tree.{Tree}
use Rattle.cal_model.proofs.Numbers.{num-is}
use Rattle.code_ir.specs.declared.instr.Instr.{Instr}
use Rattle.code_ir.specs.declared.instr.Instr.TheVariants as op
use Rattle.code_ir.specs.Running.{State, Reaches, here, after}
use Rattle.lower_base.specs.Placed.{StandsAt, World, state}
use Rattle.lower_base.proofs.Runs.{obeys, reaches_join, stands_left, stands_right}
use Rattle.expr_lower.specs.Filling.{at_first, next_number, set_number}
use Rattle.lower_base.specs.Generators.{AllCount, Counted}
use Rattle.expr_lower.proofs.Counters.{AtFirst, GoesToFirst, SetsNumber, add_on, goes_to_first, load_on, sets_number, test_on, width}
use Rattle.expr_lower.proofs.Steps.{straight_reaches}

-- ---- numbers

pub at_last : (i high : ℤ) → high ≡ i +ℤ pos 0 → int_lt i high ≡ false
at_last i high e = grind (arith, ints, e)

pub not_last : (i high : ℤ) (q : ℕ) → high ≡ i +ℤ pos (suc q) → int_lt i high ≡ true
not_last i high q e = grind (arith, ints, e)

pub next_high : (i high : ℤ) (q : ℕ) → high ≡ i +ℤ pos (suc q) → high ≡ (i +ℤ pos 1) +ℤ pos q
next_high i high q e = e ∙ omega (arith, ints)

pub next_num : (i high : ℤ) (q : ℕ) → high ≡ i +ℤ pos (suc q) → IsNum i → IsNum high → IsNum (i +ℤ pos 1)
next_num i high q e x y = omega (arith, ints, e, x, y)

module _ (w : World) (frames : List ℕ) (k p turn out : ℕ) (x : Counted) (gens : Tree) (stands : StandsAt w.code.instrs p (next_number k x gens turn out)) where
  -- whether the number isn't the last one
  pub compared : (i : ℤ) (b : Bool) (stack cells : List ℤ) (left : ℕ) → int_lt i x.high ≡ b → slice_get cells k ≡ Some i
      → Reaches w.code w.tokens (state p stack frames cells left) (state (if b then p + 1 + 1 + 1 + 1 else out) stack frames cells left)
  compared i b stack cells left e is =
      let lt : State = state (p + 1 + 1) (x.high ∷ i ∷ stack) frames cells left in
      let less : Reaches w.code w.tokens lt (state (p + 1 + 1 + 1) (truth b ∷ stack) frames cells left) =
      subst (λ a. Reaches w.code w.tokens lt (state (p + 1 + 1 + 1) (truth a ∷ stack) frames cells left)) e (after (obeys w.code w.tokens lt op.Lt stands.1.1.0) here) in
      reaches_join (load_on w frames p k stack cells left i stands.0 is)
      (reaches_join (straight_reaches w (p + 1) (op.Const x.high) (i ∷ stack) (x.high ∷ i ∷ stack) frames cells cells left (λ code tokens s. refl) stands.1.0 refl)
      (reaches_join less (test_on w frames (p + 1 + 1 + 1) out b stack cells left stands.1.1.1.0)))

  -- the next number, at which the generators inside are at their first ones
  pub record GoesOn (i : ℤ) (stack cells : List ℤ) (left : ℕ) : Type 0 where
    pub now : List ℤ
    pub reaches : Reaches w.code w.tokens (state p stack frames cells left) (state turn stack frames now left)
    pub same_size : length now ≡ length cells
    pub number : slice_get now k ≡ Some (i +ℤ pos 1)
    pub variable : slice_get now (k + 1) ≡ Some (conv x.kind (i +ℤ pos 1))
    pub first : AtFirst (k + 2) gens now
    pub others : (d : ℕ) → (d < k) ⊎ (k + 2 + width gens ≤ d) → slice_get now d ≡ slice_get cells d

  pub goes_on : (i : ℤ) (stack cells : List ℤ) (left : ℕ) → AllCount gens → k + 2 + width gens ≤ length cells → int_lt i x.high ≡ true → IsNum (i +ℤ pos 1) → slice_get cells k ≡ Some i → GoesOn i stack cells left
  goes_on i stack cells left count room less num is =
      let q : ℕ = p + 1 + 1 + 1 + 1 in
      let rest = stands.1.1.1.1 in
      let head : List Instr = set_number k x in
      let last : List Instr = op.Jump turn ∷ [] in
      let inner : List Instr = at_first (k + 2) gens in
      let r : ℕ = q + 1 + 1 + 1 in
      let one : SetsNumber w frames k r x (i +ℤ pos 1) stack cells left = sets_number w frames k r x (i +ℤ pos 1) stack cells left (omega (arith, room)) (stands_left w.code.instrs r head (inner ++ last) rest.1.1.1) in
      let size = one.is.same_size in
      let place : r + 3 ≡ r + 1 + 1 + 1 = omega arith in
      let behind : StandsAt w.code.instrs (r + 1 + 1 + 1) (inner ++ last) = subst (λ y. StandsAt w.code.instrs y (inner ++ last)) place (stands_right w.code.instrs r head (inner ++ last) rest.1.1.1) in
      let two : GoesToFirst w frames (k + 2) (r + 1 + 1 + 1) gens stack one.now left = goes_to_first w frames (k + 2) (r + 1 + 1 + 1) gens stack one.now left count (omega (arith, room, size)) (stands_left w.code.instrs (r + 1 + 1 + 1) inner last behind) in
      let at_jump : slice_get w.code.instrs (r + 1 + 1 + 1 + length inner) ≡ Some (op.Jump turn) = (stands_right w.code.instrs (r + 1 + 1 + 1) inner last behind).0 in
      let back : Reaches w.code w.tokens (state (r + 1 + 1 + 1 + length inner) stack frames two.now left) (state turn stack frames two.now left) =
      after (obeys w.code w.tokens (state (r + 1 + 1 + 1 + length inner) stack frames two.now left) (op.Jump turn) at_jump) here in
      record {
        now = two.now;
        reaches = reaches_join (compared i true stack cells left less is)
            (reaches_join (load_on w frames q k stack cells left i rest.0 is)
            (reaches_join (straight_reaches w (q + 1) (op.Const (pos 1)) (i ∷ stack) (pos 1 ∷ i ∷ stack) frames cells cells left (λ code tokens s. refl) rest.1.0 refl)
            (reaches_join (add_on w frames (q + 1 + 1) i (pos 1) stack cells left (num-is (i +ℤ pos 1) num) rest.1.1.0)
            (reaches_join one.reaches (reaches_join two.reaches back)))));
        same_size = two.same_size ∙ size;
        number = two.others k (inl (omega arith)) ∙ one.is.number;
        variable = two.others (k + 1) (inl (omega arith)) ∙ one.is.variable;
        first = two.first;
        others = λ d away. two.others d (⊎_elim (λ (a : d < k). inl (omega (arith, a))) (λ (a : k + 2 + width gens ≤ d). inr a) away)
            ∙ one.is.others d (⊎_elim (λ (a : d < k). inl a) (λ (a : k + 2 + width gens ≤ d). inr (omega (arith, a))) away);
      }
