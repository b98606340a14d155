-- Code of an expression evaluates it.
use Rattle.std.proofs.Common.{◌≡◌, ℕ, ◌+◌, ◌*◌, ◌≤◌, ℤ, pos, List, [], ◌∷◌, length, true, false, refl, sym, ap, ◌∙◌, subst, Option, Some, arith}
use Rattle.std.specs.Prelude.{if◌then◌else◌, slice_get, neg_ℤ, nat_le}
use Rattle.std.proofs.lemmas.Option.{slice_get_within, get_or_from_slice_get}
use Rattle.std.proofs.lemmas.Bool.Decides.{nat_tests}
use Rattle.rvc_base.specs.declared.trap.Trap.TheVariants.{Overflow}
use Rattle.rvc_base.specs.Arithmetic as arithmetic
use Rattle.rvc_base.specs.Width.{is_num, greatest_num}
use Rattle.cal_ast.specs.declared.expr.PrefixOp.TheVariants as prefixes
use Rattle.cal_ast.specs.Tree as tree
use Rattle.cal_ast.specs.Tree.{Tree}
use Rattle.cal_model.specs.Value.{Value, Num, Truth}
use Rattle.cal_model.specs.Outcome.{Out, Gives, Traps, Lacks, Clashes, and_then, known}
use Rattle.cal_model.specs.Env.{Env}
use Rattle.cal_model.specs.Expression.{eval, computed, prefixed}
use Rattle.code_ir.specs.declared.instr.Instr.{Instr}
use Rattle.code_ir.specs.declared.instr.Instr.TheVariants as op
use Rattle.code_ir.specs.declared.outcome.Outcome.{Outcome}
use Rattle.code_ir.specs.declared.outcome.Outcome.TheVariants as outcome
use Rattle.code_ir.specs.Effect.{Leaves, Breaks, effect, cell, push_token}
use Rattle.code_ir.specs.Running.{State, Goes, step, Ends, stop, go, here}
use Rattle.code_ir.proofs.Ends.{one-end}
use Rattle.lower_base.specs.declared.names.Seat.{Seat}
use Rattle.lower_base.specs.declared.names.Seat.TheVariants.{Cell, Tokens}
use Rattle.lower_base.specs.Names.{Name, IsSingle, named}
use Rattle.lower_base.specs.Held.{AllApart, StandAt, Holds, HoldsName, AreBelow}
use Rattle.lower_base.specs.Parted.{number_of}
use Rattle.lower_base.specs.Placed.{StandsAt, World, state}
use Rattle.lower_base.specs.Following.{Chooses, Follows, MayUse, Pushes, CutsOff, EndsAs, Evaluates}
use Rattle.lower_base.specs.Calling.{EvaluatesWith, HasRoom, Serves, outside}
use Rattle.lower_base.specs.Callees.{Function}
use Rattle.lower_base.specs.Coding.{AreArgs, IsCode, IsOffset, IsTest, in_another_way, no_arg, arg_more, call, number, too_great, negative, truth, variable, paren, prefix, binary, both, either, if_code, tested, both_tested, seat_instr, item, deep_item, whole, row}
use Rattle.lower_base.proofs.Called.{DoesArgs, does_arg_more, does_call, does_no_arg}
use Rattle.lower_base.proofs.Finding.{is_found}
pub use Rattle.lower_base.proofs.Generated.{negative_num}
pub use Rattle.lower_base.proofs.Grown.{grows, grows_args, grows_offset, grows_test}
use Rattle.lower_base.proofs.GivenKinds.{kinds_in}
use Rattle.lower_base.proofs.Singles.{OnlySingles, singles_in}
use Rattle.lower_base.proofs.Items.{does_item}
use Rattle.lower_base.proofs.Rowed.{DoesOffset, does_deep, does_row, does_whole}
use Rattle.lower_base.proofs.Listing.{single_flat}
use Rattle.lower_base.proofs.Runs.{ends_back, obeys}
use Rattle.lower_base.proofs.Sorted.{gives, knows}
use Rattle.lower_base.proofs.Keeping.{keeps_all}
use Rattle.lower_base.specs.declared.sorts.Sort.TheVariants as sort
use Rattle.lower_base.specs.Truths.{is_truth}
use Rattle.lower_base.proofs.Doing.{IsStraight, Does, Tests, Truthy, acts_after, does_const, does_prefix, does_binary, does_both, does_either, does_if, may_use, prepared, tests_value, tests_both}

-- ---- literals

-- ---- variables

seat_straight : (seat : Seat) → IsStraight (seat_instr seat)
seat_straight (Cell c) code tokens s = refl
seat_straight (Tokens port first step) code tokens s = refl

pub load_leaves : (c : ℕ) (tokens : ℕ → List ℤ) (stack cells : List ℤ) (z : ℤ) → slice_get cells c ≡ Some z → effect tokens (op.Load c) stack cells ≡ Leaves (z ∷ stack) cells
load_leaves c tokens stack cells z e =
    let inside : nat_le (c + 1) (length cells) ≡ true = let w = slice_get_within cells c z e in grind (arith, nat_tests, w) in
    ap (λ b. if b then Leaves (cell cells c ∷ stack) cells else Breaks) inside ∙ ap (λ x. Leaves (x ∷ stack) cells) (get_or_from_slice_get cells c z (pos 0) e)

seat_leaves : (seat : Seat) (tokens : ℕ → List ℤ) (stack cells : List ℤ) (z : ℤ) → StandAt seat tokens cells (z ∷ []) → effect tokens (seat_instr seat) stack cells ≡ Leaves (z ∷ stack) cells
seat_leaves (Cell c) tokens stack cells z h =
    let e : c + 0 ≡ c = omega arith in load_leaves c tokens stack cells z (subst (λ x. slice_get cells x ≡ Some z) e (h 0 z refl))
seat_leaves (Tokens port first step) tokens stack cells z h =
    let e : first + 0 * step ≡ first = omega arith in
    ap (λ o. push_token o stack cells) (subst (λ x. slice_get (tokens port) x ≡ Some z) e (h 0 z refl))

-- ---- all forms

module _ (fs : List Function) (globals names : List Name) (w : World) (serves : Serves w globals fs) (env : Env) (frames : List ℕ) (floor ceiling : ℕ) where
  does_number : (k at base n : ℕ) → is_num (pos k) ≡ true → Does fs globals names w env frames floor ceiling (tree.number k at) base n (op.Const (pos k) ∷ []) n
  does_number k at base n h stack cells left stands below apart holds =
      let s : State = state base stack frames cells left in
      subst (λ b. Follows (computed (if b then arithmetic.Gives (pos k) else arithmetic.Traps Overflow) left) (Pushes w n n s (base + 1)) (CutsOff w n n s)) (sym h)
      (does_const fs globals names w env frames floor ceiling (pos k) (Num (pos k)) base n stack cells left refl stands)

  does_negative : (k place at base n : ℕ) → is_num (pos k) ≡ true → Does fs globals names w env frames floor ceiling (tree.prefix prefixes.Neg (tree.number k place) at) base n (op.Const (neg_ℤ (pos k)) ∷ []) n
  does_negative k place at base n h stack cells left stands below apart holds =
      let s : State = state base stack frames cells left in
      subst (λ b. Follows (and_then (computed (if b then arithmetic.Gives (pos k) else arithmetic.Traps Overflow) left) (λ v m. prefixed prefixes.Neg v m)) (Pushes w n n s (base + 1)) (CutsOff w n n s)) (sym h)
      (subst (λ b. Follows (computed (if b then arithmetic.Gives (neg_ℤ (pos k)) else arithmetic.Traps Overflow) left) (Pushes w n n s (base + 1)) (CutsOff w n n s)) (sym (negative_num k h))
      (does_const fs globals names w env frames floor ceiling (neg_ℤ (pos k)) (Num (neg_ℤ (pos k))) base n stack cells left refl stands))

  does_too_great : (k at base n : ℕ) → is_num (pos k) ≡ false → Does fs globals names w env frames floor ceiling (tree.number k at) base n (op.Const greatest_num ∷ op.Const (pos 1) ∷ op.Add ∷ []) n
  does_too_great k at base n h stack cells left stands below apart holds =
      let s : State = state base stack frames cells left in
      let s1 : State = state (base + 1) (greatest_num ∷ stack) frames cells left in
      let s2 : State = state (base + 1 + 1) (pos 1 ∷ greatest_num ∷ stack) frames cells left in
      let cut : CutsOff w n n s Overflow = record {
        cells = cells;
        ends = go_two s s1 s2 (obeys w.code w.tokens s (op.Const greatest_num) stands.0) (obeys w.code w.tokens s1 (op.Const (pos 1)) stands.1.0)
            (stop (obeys w.code w.tokens s2 op.Add stands.1.1.0));
        keeps = keeps_all n n w.low w.high cells;
      } in
      subst (λ b. Follows (computed (if b then arithmetic.Gives (pos k) else arithmetic.Traps Overflow) left) (Pushes w n n s (base + 3)) (CutsOff w n n s)) (sym h) cut
    where
      go_two : (s t u : State) → step w.code w.tokens s ≡ Goes t → step w.code w.tokens t ≡ Goes u → Ends w.code w.tokens u (outcome.Trap Overflow) cells → Ends w.code w.tokens s (outcome.Trap Overflow) cells
      go_two s t u e f r = go e (go f r)

  does_variable : (text : List ℕ) (at base n : ℕ) (x : Name) → named text names ≡ Some x → IsSingle x.shape → Does fs globals names w env frames floor ceiling (tree.variable text at) base n (seat_instr x.seat ∷ []) n
  does_variable text at base n x e single stack cells left stands below apart holds =
      let s : State = state base stack frames cells left in
      let h : HoldsName w.tokens cells env text x = holds.0 text x e in
      let one = single_flat x.shape h.value single h.of_type in
      let stand : StandAt x.seat w.tokens cells (one.0 ∷ []) = subst (λ zs. StandAt x.seat w.tokens cells zs) one.1 h.stands in
      subst (λ (o : Option Value). Follows (known o left) (Pushes w n n s (base + 1)) (CutsOff w n n s)) (sym h.meant)
      (acts_after w n n base base stack stack frames cells cells left left (seat_instr x.seat) (Gives h.value left) (seat_straight x.seat) stands.0 here (keeps_all n n w.low w.high cells)
      (record { same = refl; number = one.0; is = one.1; leaves = seat_leaves x.seat w.tokens stack cells one.0 stand }))

  truthy : (l : Tree) (n : ℕ) → is_truth fs names l ≡ true → Truthy fs globals names w env frames floor ceiling l n
  truthy l n seen cells left below apart holds =
      gives w.calls fs sort.Truths 0 l names env left seen (knows names w.tokens cells env holds.0) (kinds_in fs globals w serves env.globals n cells below.1 apart.1 holds.1 holds.2)

  mutual
    pub does_in : {e : Tree} {base n m : ℕ} {code : List Instr} → IsCode fs names e base n code m → m ≤ ceiling → Does fs globals names w env frames floor ceiling e base n code m
    does_in (in_another_way e base n m code h) up = λ stack cells left stands below apart holds.
        (h.evaluates below.0).goes w globals env stack frames cells left stands serves (prepared fs globals names w env frames floor ceiling n cells below apart holds) (may_use fs globals names w env frames floor ceiling n m cells up below apart holds)
    does_in (number k at base n h) up = does_number k at base n h
    does_in (too_great k at base n h) up = does_too_great k at base n h
    does_in (negative k at base n place h) up = does_negative k place at base n h
    does_in (truth b at base n) up = λ stack cells left stands below apart holds. does_const fs globals names w env frames floor ceiling (arithmetic.truth b) (Truth b) base n stack cells left refl stands
    does_in (variable text at base n x h s) up = does_variable text at base n x h s
    does_in (paren e at base n m code h) up = does_in h up
    does_in (prefix o e at base n m code h) up = does_prefix fs globals names w env frames floor ceiling o e at base n m code (does_in h up)
    does_in (binary o i l r at base n k m a b e h g) up =
        let y = grows g in
        does_binary fs globals names w env frames floor ceiling o i l r at base n k m a b e (grows h) y (does_in h (omega (arith, y, up))) (does_in g up)
    does_in (call text args at base n m code f e h) up =
        does_call fs globals names w serves env frames floor ceiling text args at base n m code f (is_found text (number_of args) fs f e).0 (sym (is_found text (number_of args) fs f e).1) (does_args h up) (grows_args h)
    does_in (item e place at base n m code l g h) up = does_item fs globals names w env frames floor ceiling e place at base n m code l g (does_in h up)
    does_in (deep_item e place at base n m code l g h) up = does_deep fs globals names w env frames floor ceiling (tree.index e place at) base n m code l g (offsets h up)
    does_in (both l r at base n k m far end a b t h g e f) up =
        let y = grows g in
        does_both fs globals names w env frames floor ceiling l r at base n k m far end a b (truthy l n t) (grows_test h) y e f (tests_in h (omega (arith, y, up))) (does_in g up)
    does_in (either l r at base n k m right end a b t h g e f) up =
        let y = grows g in
        does_either fs globals names w env frames floor ceiling l r at base n k m right end a b (truthy l n t) (grows_test h) y e f (tests_in h (omega (arith, y, up))) (does_in g up)
    does_in (if_code test first other at base n k j m else_at end a b c h g d e f) up =
        let y = grows g in let z = grows d in
        does_if fs globals names w env frames floor ceiling test first other at base n k j m else_at end a b c (grows_test h) y z e f (tests_in h (omega (arith, y, z, up))) (does_in g (omega (arith, z, up))) (does_in d up)

    pub does_args : {es : Tree} {base n m : ℕ} {code : List Instr} → AreArgs fs names es base n code m → m ≤ ceiling → DoesArgs fs globals names w env frames floor ceiling es base n code m
    does_args (no_arg base n) up = does_no_arg fs globals names w env frames floor ceiling base n
    does_args (arg_more e es base n k m a b h g) up =
        let y = grows_args g in
        does_arg_more fs globals names w env frames floor ceiling e es base n k m a b (grows h) y (does_in h (omega (arith, y, up)))
        (λ cells left stands below apart holds. singles_in fs globals names w serves env floor ceiling cells (kinds_in fs globals w serves env.globals n cells below.1 apart.1 holds.1 holds.2) apart holds h (omega (arith, y, up)) left stands below)
        (does_args g up)

    pub offsets : {e : Tree} {base n m : ℕ} {code : List Instr} → IsOffset fs names e base n code m → m ≤ ceiling → DoesOffset fs globals names w env frames floor ceiling e base n code m
    offsets (whole text at base n) up = does_whole fs globals names w env frames floor ceiling text at base n
    offsets (row e place at base n k m a b r g h d) up =
        let y = grows d in
        does_row fs globals names w env frames floor ceiling e place at base n k m a b r g (grows_offset h) y (offsets h (omega (arith, y, up))) (does_in d up)

    pub tests_in : {e : Tree} {base n far m : ℕ} {code : List Instr} → IsTest fs names e base n far code m → m ≤ ceiling → Tests fs globals names w env frames floor ceiling e base n far code m
    tests_in (tested e base n m far code h) up = tests_value fs globals names w env frames floor ceiling e base n m far code (does_in h up)
    tests_in (both_tested l r at base n k m far a b t h g) up =
        let y = grows_test g in
        tests_both fs globals names w env frames floor ceiling l r at base n k m far a b (truthy l n t) (grows_test h) y (tests_in h (omega (arith, y, up))) (tests_in g up)

-- ---- and no other end

pub ends_as : (w : World) (n m : ℕ) (s : State) (end : ℕ) (out : Out Value) (o : Outcome) (last : List ℤ) → Follows out (Pushes w n m s end) (CutsOff w n m s) → Ends w.code w.tokens s o last → EndsAs w s end out o last
ends_as w n m s end (Gives v left) o last p r = (p.number, p.cells, p.is, ends_back o last p.reaches r)
ends_as w n m s end (Traps c) o last t r = (one-end w.code w.tokens (outcome.Trap c) t.cells r t.ends).0
ends_as w n m s end Lacks o last t r = tt
ends_as w n m s end Clashes o last t r = tt

pub evaluates_with : {fs : List Function} (names : List Name) (e : Tree) (base n m : ℕ) (code : List Instr) → AreBelow n names → IsCode fs names e base n code m → EvaluatesWith fs names e base n m code
evaluates_with {fs = fs} names e base n m code below coded = record {
  goes = λ w globals env stack frames cells left stands serves p usable.
      does_in fs globals names w serves env frames n m coded (omega arith) stack cells left stands (below, p.globals_below, omega arith) (p.apart, p.globals_apart, λ less. (usable less).0) (p.holds, p.holds_globals, p.room, λ less. (usable less).1);
  only = λ w globals env stack frames cells left stands serves p usable o last r.
      ends_as w n m (state base stack frames cells left) (base + length code) (eval e w.calls env left) o last
      (does_in fs globals names w serves env frames n m coded (omega arith) stack cells left stands (below, p.globals_below, omega arith) (p.apart, p.globals_apart, λ less. (usable less).0) (p.holds, p.holds_globals, p.room, λ less. (usable less).1)) r;
}

-- ---- if there are no functions

pub no_serves : (w : World) → Serves w [] []
no_serves w text f e = cc

-- what there is to say of globals and routines, if there are none
no_below : (n : ℕ) → AreBelow n []
no_below n text x e = cc

no_apart : (low high : ℕ) → AllApart low high []
no_apart low high text x e = cc

no_held : (tokens : ℕ → List ℤ) (cells : List ℤ) (env : Env) → Holds [] tokens cells env
no_held tokens cells env text x e = cc

no_room : (high : ℕ) (cells : List ℤ) → HasRoom [] high cells
no_room high cells some = absurd (omega (arith, some))

-- evaluating and the code come to the same from any operands, cells and turns
abbrev pub DoesAlone : List Name → World → Env → List ℕ → Tree → ℕ → ℕ → List Instr → ℕ → Type 0
DoesAlone names w env frames e base n code m = (stack cells : List ℤ) (left : ℕ) → StandsAt w.code.instrs base code → AreBelow n names → AllApart w.low w.high names → Holds names w.tokens cells env → MayUse w n m cells
    → Follows (eval e w.calls env left) (Pushes w n m (state base stack frames cells left) (base + length code)) (CutsOff w n m (state base stack frames cells left))

pub does : (names : List Name) (w : World) (env : Env) (frames : List ℕ) {e : Tree} {base n m : ℕ} {code : List Instr} → IsCode [] names e base n code m → DoesAlone names w env frames e base n code m
does names w env frames {n = n} {m = m} coded stack cells left stands below apart holds usable =
    does_in [] [] names w (no_serves w) env frames n m coded (omega arith) stack cells left stands (below, no_below n, omega arith) (apart, no_apart w.low w.high, λ less. (usable less).0)
    (holds, no_held w.tokens cells (outside env.globals), no_room w.high cells, λ less. (usable less).1)

pub tests : (names : List Name) (w : World) (env : Env) (frames : List ℕ) {e : Tree} {base n far m : ℕ} {code : List Instr} → IsTest [] names e base n far code m
    → (stack cells : List ℤ) (left : ℕ) → StandsAt w.code.instrs base code → AreBelow n names → AllApart w.low w.high names → Holds names w.tokens cells env → MayUse w n m cells
    → Follows (eval e w.calls env left) (Chooses w n m (state base stack frames cells left) (base + length code) far) (CutsOff w n m (state base stack frames cells left))
tests names w env frames {n = n} {m = m} coded stack cells left stands below apart holds usable =
    tests_in [] [] names w (no_serves w) env frames n m coded (omega arith) stack cells left stands (below, no_below n, omega arith) (apart, no_apart w.low w.high, λ less. (usable less).0)
    (holds, no_held w.tokens cells (outside env.globals), no_room w.high cells, λ less. (usable less).1)

pub singles : (names : List Name) (w : World) (env : Env) {e : Tree} {base n m : ℕ} {code : List Instr} → IsCode [] names e base n code m → (cells : List ℤ) (left : ℕ) → StandsAt w.code.instrs base code → AreBelow n names → AllApart w.low w.high names → Holds names w.tokens cells env → MayUse w n m cells
    → OnlySingles (eval e w.calls env left)
singles names w env {n = n} {m = m} coded cells left stands below apart holds usable =
    singles_in [] [] names w (no_serves w) env n m cells (λ text f e. cc) (apart, no_apart w.low w.high, λ less. (usable less).0)
    (holds, no_held w.tokens cells (outside env.globals), no_room w.high cells, λ less. (usable less).1) coded (omega arith) left stands (below, no_below n, omega arith)

pub evaluates : (names : List Name) (e : Tree) (base n m : ℕ) (code : List Instr) → AreBelow n names → IsCode [] names e base n code m → Evaluates names e base n m code
evaluates names e base n m code below coded = record {
  goes = λ w env stack frames cells left stands apart holds usable. does names w env frames coded stack cells left stands below apart holds usable;
  only = λ w env stack frames cells left stands apart holds usable o last r.
      ends_as w n m (state base stack frames cells left) (base + length code) (eval e w.calls env left) o last (does names w env frames coded stack cells left stands below apart holds usable) r;
}
