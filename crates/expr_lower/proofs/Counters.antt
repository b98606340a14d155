-- The numbers at which generators are, in their cells.
use Rattle.std.proofs.Common.{◌≡◌, ℕ, ◌+◌, ◌<◌, ◌≤◌, ◌⊎◌, inl, inr, ⊎_elim, ℤ, pos, ◌+ℤ◌, List, [], ◌∷◌, ◌++◌, length, Bool, true, false, refl, sym, ap, ◌∙◌, subst, Option, None, Some, arith, length-append}
use Rattle.std.specs.Prelude.{if◌then◌else◌, slice_get, slice_set}
use Rattle.std.proofs.lemmas.List.{length-set}
use Rattle.rvc_base.specs.declared.trap.Trap.TheVariants.{Overflow}
use Rattle.rvc_base.specs.Arithmetic as arithmetic
use Rattle.rvc_base.specs.Arithmetic.{truth}
use Rattle.rvc_base.specs.Storing.{conv}
use Rattle.rvc_base.specs.Width.{is_num}
use Rattle.cal_ast.specs.Tree as tree
use Rattle.cal_ast.specs.Tree.{Tree}
use Rattle.code_ir.specs.declared.instr.Instr.{Instr}
use Rattle.code_ir.specs.declared.instr.Instr.TheVariants as op
use Rattle.code_ir.specs.Effect.{push_computed}
use Rattle.code_ir.specs.Running.{State, Reaches, here, after}
use Rattle.code_ir.proofs.Marks.{get-set, get-other}
use Rattle.lower_base.specs.Placed.{StandsAt, World, state}
use Rattle.lower_base.proofs.Coded.{load_leaves}
use Rattle.lower_base.proofs.Runs.{obeys, reaches_join, stands_left, stands_right}
use Rattle.expr_lower.specs.Filling.{at_first, filled_more, set_number}
use Rattle.lower_base.specs.Generators.{AllCount, Counted, counted_by}
use Rattle.expr_lower.proofs.Steps.{store_reaches, straight_reaches}

-- how many cells generators take
abbrev pub width : Tree → ℕ
width (tree.cons g gens) = 2 + width gens
width other = 0

-- generators are at their first numbers
abbrev pub AtFirst : ℕ → Tree → List ℤ → Type 0
AtFirst k (tree.cons g gens) cells = ((x : Counted) → counted_by g ≡ Some x → (slice_get cells k ≡ Some x.low) × (slice_get cells (k + 1) ≡ Some (conv x.kind x.low))) × AtFirst (k + 2) gens cells
AtFirst k other cells = Unit {0}

pub first_still : (k : ℕ) (gens : Tree) (before now : List ℤ) → ((d : ℕ) → k ≤ d → d < k + width gens → slice_get now d ≡ slice_get before d) → AtFirst k gens before → AtFirst k gens now
first_still k (tree.cons g gens) before now same h = (
  (λ x e. (same k (omega arith) (omega arith) ∙ (h.0 x e).0, same (k + 1) (omega arith) (omega arith) ∙ (h.0 x e).1)),
  first_still (k + 2) gens before now (λ d le less. same d (omega (arith, le)) (omega (arith, less))) h.1,
)
first_still k gens before now same h = h

module _ (w : World) (frames : List ℕ) where
  abbrev On : State → State → Type 0
  On s t = Reaches w.code w.tokens s t

  pub load_on : (p c : ℕ) (stack cells : List ℤ) (left : ℕ) (z : ℤ) → slice_get w.code.instrs p ≡ Some (op.Load c) → slice_get cells c ≡ Some z → On (state p stack frames cells left) (state (p + 1) (z ∷ stack) frames cells left)
  load_on p c stack cells left z at e = straight_reaches w p (op.Load c) stack (z ∷ stack) frames cells cells left (λ code tokens s. refl) at (load_leaves c w.tokens stack cells z e)

  pub test_on : (p out : ℕ) (b : Bool) (stack cells : List ℤ) (left : ℕ) → slice_get w.code.instrs p ≡ Some (op.JumpIfNot out) → On (state p (truth b ∷ stack) frames cells left) (state (if b then p + 1 else out) stack frames cells left)
  test_on p out true stack cells left at = after (obeys w.code w.tokens (state p (truth true ∷ stack) frames cells left) (op.JumpIfNot out) at) here
  test_on p out false stack cells left at = after (obeys w.code w.tokens (state p (truth false ∷ stack) frames cells left) (op.JumpIfNot out) at) here

  -- a sum of two numbers on the stack
  pub add_on : (p : ℕ) (a b : ℤ) (stack cells : List ℤ) (left : ℕ) → is_num (a +ℤ b) ≡ true → slice_get w.code.instrs p ≡ Some op.Add → On (state p (b ∷ a ∷ stack) frames cells left) (state (p + 1) ((a +ℤ b) ∷ stack) frames cells left)
  add_on p a b stack cells left num at =
      straight_reaches w p op.Add (b ∷ a ∷ stack) ((a +ℤ b) ∷ stack) frames cells cells left (λ code tokens s. refl) at
      (ap (λ c. push_computed (if c then arithmetic.Gives (a +ℤ b) else arithmetic.Traps Overflow) stack cells) num)

  -- so many cells more are filled
  pub more_on : (p filled i each : ℕ) (stack cells : List ℤ) (left : ℕ) → slice_get cells filled ≡ Some (pos i) → filled < length cells → is_num (pos (i + each)) ≡ true → StandsAt w.code.instrs p (filled_more filled each)
      → On (state p stack frames cells left) (state (p + 1 + 1 + 1 + 1) stack frames (slice_set cells filled (pos (i + each))) left)
  more_on p filled i each stack cells left is less num at =
      reaches_join (load_on p filled stack cells left (pos i) at.0 is)
      (reaches_join (straight_reaches w (p + 1) (op.Const (pos each)) (pos i ∷ stack) (pos each ∷ pos i ∷ stack) frames cells cells left (λ code tokens s. refl) at.1.0 refl)
      (reaches_join (add_on (p + 1 + 1) (pos i) (pos each) stack cells left num at.1.1.0)
      (store_reaches w (p + 1 + 1 + 1) filled None stack frames cells left (pos (i + each)) less at.1.1.1.0)))

  -- ---- numbers of generators

  -- a generator is at a number, and no cell but its two has changed
  pub record IsAt (k : ℕ) (x : Counted) (z : ℤ) (before now : List ℤ) : Type 0 where
    pub same_size : length now ≡ length before
    pub number : slice_get now k ≡ Some z
    pub variable : slice_get now (k + 1) ≡ Some (conv x.kind z)
    pub others : (d : ℕ) → (d < k) ⊎ (k + 2 ≤ d) → slice_get now d ≡ slice_get before d

  pub record SetsNumber (k p : ℕ) (x : Counted) (z : ℤ) (stack cells : List ℤ) (left : ℕ) : Type 0 where
    pub now : List ℤ
    pub reaches : On (state p (z ∷ stack) frames cells left) (state (p + 1 + 1 + 1) stack frames now left)
    pub is : IsAt k x z cells now

  pub sets_number : (k p : ℕ) (x : Counted) (z : ℤ) (stack cells : List ℤ) (left : ℕ) → k + 2 ≤ length cells → StandsAt w.code.instrs p (set_number k x) → SetsNumber k p x z stack cells left
  sets_number k p x z stack cells left room at =
      let one : List ℤ = slice_set cells k z in
      let two : List ℤ = slice_set one (k + 1) (conv x.kind z) in
      let size_one : length one ≡ length cells = length-set cells k z in
      let size_two : length two ≡ length one = length-set one (k + 1) (conv x.kind z) in
      let there : slice_get one k ≡ Some z = get-set cells k z (omega (arith, room)) in
      record {
        now = two;
        reaches = reaches_join (store_reaches w p k None stack frames cells left z (omega (arith, room)) at.0)
            (reaches_join (load_on (p + 1) k stack one left z at.1.0 there) (store_reaches w (p + 1 + 1) (k + 1) (Some x.kind) stack frames one left z (omega (arith, room, size_one)) at.1.1.0));
        is = record {
          same_size = size_two ∙ size_one;
          number = get-other one (k + 1) k (conv x.kind z) (λ e. absurd (omega (arith, e))) ∙ there;
          variable = get-set one (k + 1) (conv x.kind z) (omega (arith, room, size_one));
          others = λ d away.
              get-other one (k + 1) d (conv x.kind z) (λ e. ⊎_elim (λ (a : d < k). absurd (omega (arith, a, e))) (λ (a : k + 2 ≤ d). absurd (omega (arith, a, e))) away)
              ∙ get-other cells k d z (λ e. ⊎_elim (λ (a : d < k). absurd (omega (arith, a, e))) (λ (a : k + 2 ≤ d). absurd (omega (arith, a, e))) away);
        };
      }

  -- all of them are at their first numbers, and no cell but theirs has changed
  pub record GoesToFirst (k p : ℕ) (gens : Tree) (stack cells : List ℤ) (left : ℕ) : Type 0 where
    pub now : List ℤ
    pub reaches : On (state p stack frames cells left) (state (p + length (at_first k gens)) stack frames now left)
    pub same_size : length now ≡ length cells
    pub first : AtFirst k gens now
    pub others : (d : ℕ) → (d < k) ⊎ (k + width gens ≤ d) → slice_get now d ≡ slice_get cells d

  -- one generator, and those inside it
  goes_on_first : (k p : ℕ) (g gens : Tree) (x : Counted) (stack cells : List ℤ) (left : ℕ) → counted_by g ≡ Some x → k + 2 + width gens ≤ length cells
      → StandsAt w.code.instrs p (op.Const x.low ∷ (set_number k x ++ at_first (k + 2) gens))
      → ((now : List ℤ) → length now ≡ length cells → GoesToFirst (k + 2) (p + 1 + 1 + 1 + 1) gens stack now left)
      → GoesToFirst k p (tree.cons g gens) stack cells left
  goes_on_first k p g gens x stack cells left e room at rest =
      let head : List Instr = set_number k x in
      let one : SetsNumber k (p + 1) x x.low stack cells left = sets_number k (p + 1) x x.low stack cells left (omega (arith, room)) (stands_left w.code.instrs (p + 1) head (at_first (k + 2) gens) at.1) in
      let size = one.is.same_size in
      let more : GoesToFirst (k + 2) (p + 1 + 1 + 1 + 1) gens stack one.now left = rest one.now size in
      let on : On (state p stack frames cells left) (state (p + 1) (x.low ∷ stack) frames cells left) = straight_reaches w p (op.Const x.low) stack (x.low ∷ stack) frames cells cells left (λ code tokens s. refl) at.0 refl in
      let code : at_first k (tree.cons g gens) ≡ op.Const x.low ∷ (head ++ at_first (k + 2) gens) = ap (λ (o : Option Counted). elim o [ None ↦ [] | Some y ↦ op.Const y.low ∷ (set_number k y ++ at_first (k + 2) gens) ]) e in
      let long = ap length code in
      let end : p + 1 + 1 + 1 + 1 + length (at_first (k + 2) gens) ≡ p + length (at_first k (tree.cons g gens)) = omega (arith, long, length-append head (at_first (k + 2) gens)) in
      record {
        now = more.now;
        reaches = subst (λ q. On (state p stack frames cells left) (state q stack frames more.now left)) end (reaches_join on (reaches_join one.reaches more.reaches));
        same_size = more.same_size ∙ size;
        first = (
          (λ y f.
              let same : x ≡ y = one_counted (sym e ∙ f) in (
                more.others k (inl (omega arith)) ∙ one.is.number ∙ ap (λ (v : Counted). Some v.low) same,
                more.others (k + 1) (inl (omega arith)) ∙ one.is.variable ∙ ap (λ (v : Counted). Some (conv v.kind v.low)) same,
              )),
          more.first,
        );
        others = λ d away. more.others d (⊎_elim (λ (a : d < k). inl (omega (arith, a))) (λ (a : k + (2 + width gens) ≤ d). inr (omega (arith, a))) away)
            ∙ one.is.others d (⊎_elim (λ (a : d < k). inl a) (λ (a : k + (2 + width gens) ≤ d). inr (omega (arith, a))) away);
      }
    where
      one_counted : {x y : Counted} → ◌≡◌ {A = Option Counted} (Some x) (Some y) → x ≡ y
      one_counted e = cc

  pub goes_to_first : (k p : ℕ) (gens : Tree) (stack cells : List ℤ) (left : ℕ) → AllCount gens → k + width gens ≤ length cells → StandsAt w.code.instrs p (at_first k gens) → GoesToFirst k p gens stack cells left
  goes_to_first k p (tree.cons g gens) stack cells left count room at =
      let x : Counted = count.0.0 in
      let head : List Instr = set_number k x in
      let here_is : StandsAt w.code.instrs p (op.Const x.low ∷ (head ++ at_first (k + 2) gens)) =
      subst (λ code. StandsAt w.code.instrs p code) (ap (λ (o : Option Counted). elim o [ None ↦ [] | Some y ↦ op.Const y.low ∷ (set_number k y ++ at_first (k + 2) gens) ]) count.0.1) at in
      let place : p + 1 + 3 ≡ p + 1 + 1 + 1 + 1 = omega arith in
      let later : StandsAt w.code.instrs (p + 1 + 1 + 1 + 1) (at_first (k + 2) gens) = subst (λ q. StandsAt w.code.instrs q (at_first (k + 2) gens)) place (stands_right w.code.instrs (p + 1) head (at_first (k + 2) gens) here_is.1) in
      goes_on_first k p g gens x stack cells left count.0.1 (omega (arith, room)) here_is
      (λ now size. goes_to_first (k + 2) (p + 1 + 1 + 1 + 1) gens stack now left count.1 (omega (arith, room, size)) later)
  goes_to_first k p gens stack cells left count room at =
      let end : p ≡ p + 0 = omega arith in
      record {
        now = cells;
        reaches = subst (λ q. On (state p stack frames cells left) (state q stack frames cells left)) end here;
        same_size = refl;
        first = tt;
        others = λ d away. refl;
      }
