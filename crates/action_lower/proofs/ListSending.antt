-- The code of a list that is sent leaves its items in cells, each stored in the type of the port.
use Rattle.std.proofs.Common.{◌≡◌, ℕ, zero, suc, ◌+◌, ◌<◌, ◌≤◌, inr, ℤ, List, [], ◌∷◌, ◌++◌, length, map, refl, sym, ap, ◌∙◌, subst, Some, arith, length-append}
use Rattle.std.specs.Prelude.{slice_get}
use Rattle.rvc_base.specs.declared.scalar.Scalar.{Scalar}
use Rattle.rvc_base.specs.Storing.{conv}
use Rattle.cal_ast.specs.Tree.{Tree, listed}
use Rattle.cal_model.specs.Env.{Env}
use Rattle.cal_model.specs.Expression.{eval, eval_all}
use Rattle.cal_model.specs.Firing.{interleaved, number_at}
use Rattle.cal_model.specs.Outcome.{Gives}
use Rattle.cal_model.specs.Value.{Shape, Single, Value, Num, Truth, Items, Values, Nil, Cons, count, scalars_of_type}
use Rattle.code_ir.specs.declared.instr.Instr.{Instr}
use Rattle.code_ir.specs.declared.instr.Instr.TheVariants as op
use Rattle.code_ir.specs.Effect.{copied, stored as in_cell}
use Rattle.code_ir.specs.Running.{State, Reaches}
use Rattle.lower_base.specs.Callees.{Function}
use Rattle.lower_base.specs.Calling.{Serves}
use Rattle.lower_base.specs.Flat.{flat, flat_all}
use Rattle.lower_base.specs.Following.{CutsOff, Follows}
use Rattle.lower_base.specs.Held.{AreApart, Keeps}
use Rattle.lower_base.specs.Names.{Name}
use Rattle.lower_base.specs.Placed.{StandsAt, World, state}
use Rattle.lower_base.proofs.Keeping.{keeps_join}
use Rattle.lower_base.proofs.Runs.{follows_then, reaches_join, stands_left, stands_right}
use Rattle.lower_base.proofs.Written.{Written, written_keeps}
use Rattle.expr_lower.specs.Filled.{Fills}
use Rattle.expr_lower.specs.Shaped.{AreShaped, IsShaped}
use Rattle.expr_lower.proofs.Filled.{grows_fill}
use Rattle.expr_lower.proofs.Moving.{AreMoved, copied_are, copy_leaves}
use Rattle.expr_lower.proofs.Steps.{straight_reaches}
use Rattle.lower_stmt.specs.Procedures.{Routines}
use Rattle.lower_stmt.proofs.FillingRuns.{fills_there}
use Rattle.lower_stmt.proofs.Scoping.{AreLaid, HoldsInside}
use Rattle.action_lower.specs.Sending.{IsSentList, StandFrom, items_of_any}

pub list-grows : {fs : List Function} {names : List Name} {e : Tree} {t : Shape} {kind : Scalar} {base n m : ℕ} {part : List Instr} → IsSentList fs names e t kind base n part m → n ≤ m
list-grows sent = let x = grows_fill sent.filled in omega (arith, x)

-- ---- numbers of a list

-- the number at a place of a list of single values is that of the item there
item_number : (t : Scalar) (vs : Values) (k : ℕ) → AreShaped (Single t) vs → k < count vs → slice_get (flat_all vs) k ≡ Some (number_at (Items vs) k)
item_number t Nil k h low = absurd (omega arith)
item_number t (Cons (Num z) vs) zero h low = refl
item_number t (Cons (Truth b) vs) zero h low = refl
item_number t (Cons (Items us) vs) k h low = absurd h.0
item_number t (Cons (Num z) vs) (suc k) h low = item_number t vs k h.1 (omega (arith, low))
item_number t (Cons (Truth b) vs) (suc k) h low = item_number t vs k h.1 (omega (arith, low))

pub list_number : (n : ℕ) (v : Value) (k : ℕ) → IsShaped (items_of_any n) v → k < n → slice_get (flat v) k ≡ Some (number_at v k)
list_number n (Num z) k h low = absurd h
list_number n (Truth b) k h low = absurd h
list_number n (Items vs) k h low = let many = h.0 in item_number _ vs k h.1 (omega (arith, low, many))

-- the numbers of one list that is sent alone
record IsSentAt (f : ℤ → ℤ) (v : Value) (n k j : ℕ) (z : ℤ) : Type 0 where
  low : j < n
  is : z ≡ f (number_at v (k + j))

sent_at : (f : ℤ → ℤ) (v : Value) (n k j : ℕ) (z : ℤ) → slice_get (map f (interleaved n k (Cons v Nil))) j ≡ Some z → IsSentAt f v n k j z
sent_at f v zero k j z e = cc
sent_at f v (suc n) k zero z e =
    let first : f (number_at v k) ≡ z = cc in
    let place : k ≡ k + 0 = omega arith in
    record { low = omega arith; is = sym first ∙ ap (λ i. f (number_at v i)) place }
sent_at f v (suc n) k (suc j) z e =
    let r : IsSentAt f v n (suc k) j z = sent_at f v n (suc k) j z e in
    let low = r.low in
    let place : suc k + j ≡ k + suc j = omega arith in
    record { low = omega (arith, low); is = r.is ∙ ap (λ i. f (number_at v i)) place }

-- ---- a run

module _ (rs : Routines) (outer : List Name) (w : World) (serves : Serves w outer rs.functions) (frames : List ℕ) (inner : List Name) (t : Scalar) (env : Env) (stack : List ℤ) where
  -- the tokens of a repeated output stand in cells from n on, before k
  pub record SendsList (times n k : ℕ) (s : State) (end : ℕ) (vs : Values) (left : ℕ) : Type 0 where
    pub cells : List ℤ
    pub reaches : Reaches w.code w.tokens s (state end s.stack s.frames cells left)
    pub keeps : Keeps n k w.low w.high s.cells cells
    pub stand : StandFrom n (map (conv t) (interleaved times 0 vs)) cells
    pub within : (j : ℕ) (z : ℤ) → slice_get (map (conv t) (interleaved times 0 vs)) j ≡ Some z → n + j < k

  pub list_sent : (e : Tree) (times base n m : ℕ) (part : List Instr) (cells : List ℤ) (left : ℕ) → IsSentList rs.functions (inner ++ outer) e (items_of_any times) t base n part m → StandsAt w.code.instrs base part → m ≤ length cells
      → AreLaid rs outer w.tokens w.low w.high n inner → AreApart n m w.low w.high → HoldsInside rs outer w.tokens w.low w.high inner cells env
      → Follows (eval_all (listed (e ∷ [])) w.calls env left) (SendsList times n m (state base stack frames cells left) (base + length part)) (CutsOff w n m (state base stack frames cells left))
  list_sent e times base n m part cells left sent stands room laid apart holds =
      let size : ℕ = scalars_of_type (items_of_any times) in
      let i : Instr = op.Copy n n size (Some t) in
      let code : List Instr = sent.body in
      let s : State = state base stack frames cells left in
      let all : StandsAt w.code.instrs base (code ++ i ∷ []) = subst (StandsAt w.code.instrs base) sent.is stands in
      let end : base + length code + 1 ≡ base + length part = let same = ap length sent.is in omega (arith, length-append code (i ∷ []), same) in
      let wide : n + size ≤ m = grows_fill sent.filled in
      let many : times ≡ size = omega arith in
      follows_then (eval e w.calls env left) (λ v j. Gives (Cons v Nil) j) (Fills w n m n (items_of_any times) s (base + length code)) (CutsOff w n m s) (SendsList times n m s (base + length part)) (CutsOff w n m s)
      (fills_there rs outer w serves frames inner sent.filled (omega arith) stack cells env left (stands_left w.code.instrs base code (i ∷ []) all) laid apart room holds)
      (λ v j p.
      let same = p.keeps.size in
      let there : n + size ≤ length p.cells = omega (arith, wide, room, same) in
      let now : List ℤ = copied (Some t) n n size p.cells in
      let moved : AreMoved (in_cell (Some t)) (λ q. slice_get p.cells (n + q)) n size p.cells now = copied_are (Some t) n n size p.cells (inr (omega arith)) there in
      let wrote : Written n size p.cells now = record { length_same = moved.same_size; cell = moved.others } in
      record {
        cells = now;
        reaches = subst (λ q. Reaches w.code w.tokens s (state q stack frames now j)) end
            (reaches_join p.reaches (straight_reaches w (base + length code) i stack stack frames p.cells now j (λ code tokens y. refl) (stands_right w.code.instrs base code (i ∷ []) all).0
            (copy_leaves (Some t) n n size w.tokens stack p.cells there there)));
        keeps = keeps_join p.keeps (written_keeps n size n m w.low w.high p.cells now (omega arith) wide wrote);
        stand = λ q z g.
            let at : IsSentAt (conv t) v times 0 q z = sent_at (conv t) v times 0 q z g in
            let low = at.low in
            let place : 0 + q ≡ q = omega arith in
            let number : slice_get (flat v) q ≡ Some (number_at v q) = list_number times v q p.shaped low in
            moved.there q (number_at v q) (omega (arith, low, many)) (p.stands q (number_at v q) number) ∙ ap Some (sym (at.is ∙ ap (λ i. conv t (number_at v i)) place));
        within = λ q z g. let low = (sent_at (conv t) v times 0 q z g).low in omega (arith, low, many, wide);
      })
      (λ d q. q)
