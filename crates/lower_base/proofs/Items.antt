-- The code of an item of a list does what evaluating it does.
use Rattle.std.proofs.Common.{◌≡◌, ℕ, ◌+◌, ◌*◌, ◌<◌, ◌≤◌, ℤ, pos, negsuc, List, [], ◌∷◌, ◌++◌, length, true, false, refl, sym, ap, ◌∙◌, subst, Option, None, Some, arith, length-append}
use Rattle.std.specs.Prelude.{if◌then◌else◌, slice_get, nat_le}
use Rattle.std.proofs.lemmas.Option.{slice_get_within, get_or_from_slice_get}
use Rattle.std.proofs.lemmas.Bool.Decides.{nat_tests}
use Rattle.rvc_base.specs.declared.trap.Trap.TheVariants.{IndexRange}
use Rattle.cal_ast.specs.Tree as tree
use Rattle.cal_ast.specs.Tree.{Tree}
use Rattle.cal_model.specs.Value.{Value, Num, Truth, Items, Values, count, value_at}
use Rattle.cal_model.specs.Outcome.{Out, Gives, Traps, and_then}
use Rattle.cal_model.specs.Env.{Env}
use Rattle.cal_model.specs.Expression.{eval, indexed}
use Rattle.code_ir.specs.declared.instr.Instr.{Instr}
use Rattle.code_ir.specs.declared.instr.Instr.TheVariants as op
use Rattle.code_ir.specs.Effect.{Leaves, Fails, Breaks, effect, cell, push_token}
use Rattle.code_ir.specs.Running.{State}
use Rattle.lower_base.specs.declared.names.ItemList.{ItemList}
use Rattle.lower_base.specs.declared.names.Seat.{Seat}
use Rattle.lower_base.specs.declared.names.Seat.TheVariants.{Cell, Tokens}
use Rattle.lower_base.specs.Flat.{flat, flat_all}
use Rattle.lower_base.specs.Names.{Name}
use Rattle.lower_base.specs.Listed.{list_named}
use Rattle.lower_base.specs.Held.{StandAt}
use Rattle.lower_base.specs.Placed.{World, state}
use Rattle.lower_base.specs.Following.{Follows, Pushes, CutsOff}
use Rattle.lower_base.specs.Coding.{item_instr}
use Rattle.lower_base.specs.Callees.{Function}
use Rattle.lower_base.proofs.Runs.{follows_then, stands_left, stands_right}
use Rattle.lower_base.proofs.Keeping.{holds_still}
use Rattle.lower_base.proofs.Effects.{Acts, same_number}
use Rattle.lower_base.proofs.Doing.{IsStraight, Does, acts_after, at_end}
use Rattle.lower_base.proofs.Listing.{IsList, named_list, item_flat, item_within, item_past}

-- the instruction that reads an item
abbrev pub reads : Seat → ℕ → Instr
reads seat size = elim seat [ Cell c ↦ op.LoadAt c size | Tokens port first step ↦ op.TokenAt port first step size ]

pub reads_straight : (seat : Seat) (size : ℕ) → IsStraight (reads seat size)
reads_straight (Cell c) size code tokens s = refl
reads_straight (Tokens port first step) size code tokens s = refl

pub reads_inside : (seat : Seat) (size k : ℕ) (tokens : ℕ → List ℤ) (stack cells zs : List ℤ) (y : ℤ) → k < size → StandAt seat tokens cells zs → slice_get zs k ≡ Some y → effect tokens (reads seat size) (pos k ∷ stack) cells ≡ Leaves (y ∷ stack) cells
reads_inside (Cell c) size k tokens stack cells zs y less stands e =
    let at : slice_get cells (c + k) ≡ Some y = stands k y e in
    let inside : nat_le (k + 1) size ≡ true = grind (arith, nat_tests, less) in
    let there : nat_le (c + k + 1) (length cells) ≡ true = let w = slice_get_within cells (c + k) y at in grind (arith, nat_tests, w) in
    ap (λ b. if b then (if nat_le (c + k + 1) (length cells) then Leaves (cell cells (c + k) ∷ stack) cells else Breaks) else Fails IndexRange) inside
    ∙ ap (λ b. if b then Leaves (cell cells (c + k) ∷ stack) cells else Breaks) there
    ∙ ap (λ x. Leaves (x ∷ stack) cells) (get_or_from_slice_get cells (c + k) y (pos 0) at)
reads_inside (Tokens port first step) size k tokens stack cells zs y less stands e =
    let inside : nat_le (k + 1) size ≡ true = grind (arith, nat_tests, less) in
    ap (λ b. if b then push_token (slice_get (tokens port) (first + k * step)) stack cells else Fails IndexRange) inside
    ∙ ap (λ o. push_token o stack cells) (stands k y e)

reads_past : (seat : Seat) (size k : ℕ) (tokens : ℕ → List ℤ) (stack cells : List ℤ) → size ≤ k → effect tokens (reads seat size) (pos k ∷ stack) cells ≡ Fails IndexRange
reads_past (Cell c) size k tokens stack cells le =
    let outside : nat_le (k + 1) size ≡ false = grind (arith, nat_tests, le) in
    ap (λ b. if b then (if nat_le (c + k + 1) (length cells) then Leaves (cell cells (c + k) ∷ stack) cells else Breaks) else Fails IndexRange) outside
reads_past (Tokens port first step) size k tokens stack cells le =
    let outside : nat_le (k + 1) size ≡ false = grind (arith, nat_tests, le) in
    ap (λ b. if b then push_token (slice_get (tokens port) (first + k * step)) stack cells else Fails IndexRange) outside

reads_below : (seat : Seat) (size k : ℕ) (tokens : ℕ → List ℤ) (stack cells : List ℤ) → effect tokens (reads seat size) (negsuc k ∷ stack) cells ≡ Fails IndexRange
reads_below (Cell c) size k tokens stack cells = refl
reads_below (Tokens port first step) size k tokens stack cells = refl

-- each of these values is one number, which stands at its place among the numbers of them all
abbrev pub AreNumbers : Values → Type 0
AreNumbers vs = (k : ℕ) (u : Value) → value_at vs k ≡ Some u → (y : ℤ) × (flat u ≡ y ∷ []) × (slice_get (flat_all vs) k ≡ Some y)

module _ (l : ItemList) (vs : Values) (tokens : ℕ → List ℤ) (stack cells : List ℤ) (left : ℕ) (size : count vs ≡ l.size) (items : AreNumbers vs) (stands : StandAt l.seat tokens cells (flat_all vs)) where
  at_place : (k : ℕ) (o : Option Value) → value_at vs k ≡ o → Acts (effect tokens (reads l.seat l.size) (pos k ∷ stack) cells) stack cells left (elim o [ None ↦ Traps IndexRange | Some v ↦ Gives v left ])
  at_place k None e = reads_past l.seat l.size k tokens stack cells (let h = item_past vs k e in omega (arith, h, size))
  at_place k (Some u) e =
      let f = items k u e in
      let h = item_within vs k u e in
      record { same = refl; number = f.0; is = f.1; leaves = reads_inside l.seat l.size k tokens stack cells (flat_all vs) f.0 (omega (arith, h, size)) stands f.2 }

  at_number : (z : ℤ) → Acts (effect tokens (reads l.seat l.size) (z ∷ stack) cells) stack cells left (indexed (Items vs) (Num z) left)
  at_number (pos k) = at_place k (value_at vs k) refl
  at_number (negsuc k) = reads_below l.seat l.size k tokens stack cells

  pub item_acts : (i : Value) (z : ℤ) → flat i ≡ z ∷ [] → Acts (effect tokens (reads l.seat l.size) (z ∷ stack) cells) stack cells left (indexed (Items vs) i left)
  item_acts (Num x) z e =
      let same : x ≡ z = same_number x z e in
      subst (λ y. Acts (effect tokens (reads l.seat l.size) (y ∷ stack) cells) stack cells left (indexed (Items vs) (Num x) left)) same (at_number x)
  item_acts (Truth b) z e = tt
  item_acts (Items us) z e = tt

pub does_item : (fs : List Function) (globals names : List Name) (w : World) (env : Env) (frames : List ℕ) (floor ceiling : ℕ) (e place : Tree) (at base n m : ℕ) (code : List Instr) (l : ItemList) → list_named names e ≡ Some l
    → Does fs globals names w env frames floor ceiling place base n code m → Does fs globals names w env frames floor ceiling (tree.index e place at) base n (code ++ item_instr l ∷ []) m
does_item fs globals names w env frames floor ceiling e place at base n m code l g does stack cells left stands below apart holds =
    let i : Instr = item_instr l in
    let s : State = state base stack frames cells left in
    let there : slice_get w.code.instrs (base + length code) ≡ Some i = (stands_right w.code.instrs base code (i ∷ []) stands).0 in
    let end : base + length code + 1 ≡ base + length (code ++ i ∷ []) = omega (arith, length-append code (i ∷ [])) in
    let list : IsList w.tokens cells (eval e w.calls env left) left l = named_list names w.tokens cells env e l w.calls left g holds.0 in
    subst (λ (o : Out Value). Follows (and_then o (λ v h. and_then (eval place w.calls env h) (λ x k. indexed v x k))) (Pushes w n m s (base + length (code ++ i ∷ []))) (CutsOff w n m s)) (sym list.gives)
    (follows_then (eval place w.calls env left) (λ x k. indexed (Items list.values) x k) (Pushes w n m s (base + length code)) (CutsOff w n m s) (Pushes w n m s (base + length (code ++ i ∷ []))) (CutsOff w n m s)
    (does stack cells left (stands_left w.code.instrs base code (i ∷ []) stands) below apart holds)
    (λ x k p.
    let later : IsList w.tokens p.cells (eval e w.calls env left) left l = named_list names w.tokens p.cells env e l w.calls left g (holds_still names w.tokens env p.keeps below.0 apart.0 holds.0) in
    let same : later.values ≡ list.values = same_items later.values list.values left (sym later.gives ∙ list.gives) in
    at_end fs globals names w env frames floor ceiling (indexed (Items list.values) x k) n m _ _ s end
    (acts_after w n m base (base + length code) (p.number ∷ stack) stack frames cells p.cells left k i (indexed (Items list.values) x k) (reads_straight l.seat l.size) there p.reaches p.keeps
    (item_acts l list.values w.tokens stack p.cells k list.size (λ i u e. item_flat l.kind list.values i u list.kinds e) (subst (λ vs. StandAt l.seat w.tokens p.cells (flat_all vs)) same later.stands) x p.number p.is)))
    (λ c t. t))
  where
    same_items : (vs us : Values) (left : ℕ) → ◌≡◌ {A = Out Value} (Gives (Items vs) left) (Gives (Items us) left) → vs ≡ us
    same_items vs us left h = cc
