-- The code of lists that are sent in turn leaves their items in cells, each stored in the type of the port.
use Rattle.std.proofs.Common.{◌≡◌, ℕ, zero, suc, ◌+◌, ◌*◌, ◌<◌, ◌≤◌, ◌⊎◌, inl, inr, ⊎_elim, ℤ, List, [], ◌∷◌, ◌++◌, length, map, refl, sym, ap, ◌∙◌, subst, Some, arith, length-append}
use Rattle.std.specs.Prelude.{slice_get}
use Rattle.std.proofs.lemmas.List.{length-map, map-append}
use Rattle.std.proofs.lemmas.Option.{slice_get_within}
use Rattle.rvc_base.specs.declared.scalar.Scalar.{Scalar}
use Rattle.rvc_base.specs.Storing.{conv}
use Rattle.cal_ast.specs.Tree.{Tree, listed}
use Rattle.cal_model.specs.Env.{Env}
use Rattle.cal_model.specs.Expression.{eval_all}
use Rattle.cal_model.specs.Firing.{interleaved, number_at, one_of_each}
use Rattle.cal_model.specs.Value.{Values, Nil, Cons, count, scalars_of_type}
use Rattle.code_ir.specs.declared.instr.Instr.{Instr}
use Rattle.code_ir.specs.declared.instr.Instr.TheVariants as op
use Rattle.code_ir.specs.Effect.{copied, stored as in_cell}
use Rattle.code_ir.specs.Running.{State, Reaches, here}
use Rattle.lower_base.specs.Callees.{Function}
use Rattle.lower_base.specs.Calling.{Serves}
use Rattle.lower_base.specs.Flat.{flat, flat_all}
use Rattle.lower_base.specs.Following.{CutsOff, Follows}
use Rattle.lower_base.specs.Held.{AreApart}
use Rattle.lower_base.specs.Names.{Name}
use Rattle.lower_base.specs.Parted.{number_of}
use Rattle.lower_base.specs.Placed.{StandsAt, World, state}
use Rattle.lower_base.proofs.Keeping.{apart_last, keeps_join, keeps_wider}
use Rattle.lower_base.proofs.Runs.{follows_more, reaches_join, stands_left, stands_right}
use Rattle.lower_base.proofs.Written.{Written, written_keeps}
use Rattle.expr_lower.specs.Shaped.{AreShaped}
use Rattle.expr_lower.proofs.Filled.{grows_fills}
use Rattle.expr_lower.proofs.Forms.{FillsAll}
use Rattle.expr_lower.proofs.Moving.{AreMoved, copied_are, copy_leaves}
use Rattle.expr_lower.proofs.Shapes.{flat_shaped}
use Rattle.expr_lower.proofs.Steps.{cut_on, straight_reaches}
use Rattle.lower_stmt.specs.Procedures.{Routines}
use Rattle.lower_stmt.proofs.FillingRuns.{all_there}
use Rattle.lower_stmt.proofs.Scoping.{AreLaid, HoldsInside, laid_more}
use Rattle.action_lower.specs.Sending.{IsRepeated, StandFrom, in_turns, item_stores, items_of_any, one_list, turn_stores}
use Rattle.action_lower.proofs.ListSending.{SendsList, list-grows, list_number, list_sent}

pub repeated-grows : {fs : List Function} {names : List Name} {kind : Scalar} {times : ℕ} {es : List Tree} {base n m : ℕ} {part : List Instr} → IsRepeated fs names kind times es base n part m → n ≤ m
repeated-grows (one_list e base n m code sent) = list-grows sent
repeated-grows (in_turns es base n m rows body is filled) = let x = grows_fills filled in omega (arith, x, is)

-- ---- two lists in a row

left_of : (xs ys : List ℤ) (j : ℕ) (z : ℤ) → slice_get xs j ≡ Some z → slice_get (xs ++ ys) j ≡ Some z
left_of [] ys j z e = cc
left_of (x ∷ xs) ys zero z e = e
left_of (x ∷ xs) ys (suc j) z e = left_of xs ys j z e

right_of : (xs ys : List ℤ) (j : ℕ) (z : ℤ) → slice_get ys j ≡ Some z → slice_get (xs ++ ys) (length xs + j) ≡ Some z
right_of [] ys j z e = let same : j ≡ 0 + j = omega arith in subst (λ i. slice_get ys i ≡ Some z) same e
right_of (x ∷ xs) ys j z e =
    let place : suc (length xs + j) ≡ suc (length xs) + j = omega arith in
    subst (λ i. slice_get (x ∷ (xs ++ ys)) i ≡ Some z) place (right_of xs ys j z e)

stand_both : (c : ℕ) (xs ys cells : List ℤ) → StandFrom c xs cells → StandFrom (c + length xs) ys cells → StandFrom c (xs ++ ys) cells
stand_both c [] ys cells first second k z e = let same : c + 0 + k ≡ c + k = omega arith in subst (λ i. slice_get cells i ≡ Some z) same (second k z e)
stand_both c (x ∷ xs) ys cells first second zero z e = first zero z e
stand_both c (x ∷ xs) ys cells first second (suc k) z e =
    let later : StandFrom (c + 1) xs cells = λ j y g. let place : c + suc j ≡ c + 1 + j = omega arith in subst (λ i. slice_get cells i ≡ Some y) place (first (suc j) y g) in
    let behind : StandFrom (c + 1 + length xs) ys cells = let place : c + suc (length xs) ≡ c + 1 + length xs = omega arith in subst (λ i. StandFrom i ys cells) place second in
    let place : c + 1 + k ≡ c + suc k = omega arith in
    subst (λ i. slice_get cells i ≡ Some z) place (stand_both (c + 1) xs ys cells later behind k z e)

-- ---- lists in rows

-- the cells hold the numbers of lists from place k on, one list behind the other
abbrev RowsHold : ℕ → ℕ → ℕ → Values → List ℤ → Type 0
RowsHold times from k Nil cells = Unit {0}
RowsHold times from k (Cons v vs) cells = ((j : ℕ) → k + j < times → slice_get cells (from + j) ≡ Some (number_at v (k + j))) × RowsHold times (from + times) k vs cells

rows_from : (times c : ℕ) (vs : Values) (cells : List ℤ) → AreShaped (items_of_any times) vs → ((j : ℕ) (z : ℤ) → slice_get (flat_all vs) j ≡ Some z → slice_get cells (c + j) ≡ Some z) → RowsHold times c 0 vs cells
rows_from times c Nil cells h stand = tt
rows_from times c (Cons v vs) cells h stand = (
  λ j low.
      let place : j ≡ 0 + j = omega arith in
      let number : slice_get (flat v) j ≡ Some (number_at v j) = list_number times v j h.0 (omega (arith, low)) in
      subst (λ i. slice_get cells (c + j) ≡ Some (number_at v i)) place (stand j (number_at v j) (left_of (flat v) (flat_all vs) j (number_at v j) number)),
  rows_from times (c + times) vs cells h.1 (λ j z e.
      let wide = flat_shaped (items_of_any times) v h.0 in
      let place : c + (length (flat v) + j) ≡ c + times + j = omega (arith, wide) in
      subst (λ i. slice_get cells i ≡ Some z) place (stand (length (flat v) + j) z (right_of (flat v) (flat_all vs) j z e))),
)

rows_next : (times from k : ℕ) (vs : Values) (cells : List ℤ) → RowsHold times from k vs cells → RowsHold times (from + 1) (suc k) vs cells
rows_next times from k Nil cells h = tt
rows_next times from k (Cons v vs) cells h = (
  λ j low.
      let place : from + suc j ≡ from + 1 + j = omega arith in
      let number : k + suc j ≡ suc k + j = omega arith in
      subst (λ i. slice_get cells (from + 1 + j) ≡ Some (number_at v i)) number (subst (λ i. slice_get cells i ≡ Some (number_at v (k + suc j))) place (h.0 (suc j) (omega (arith, low)))),
  (let place : from + times + 1 ≡ from + 1 + times = omega arith in subst (λ i. RowsHold times i (suc k) vs cells) place (rows_next times (from + times) k vs cells h.1)),
)

rows_still : (times from k limit : ℕ) (vs : Values) (before now : List ℤ) → limit ≤ from → ((d : ℕ) → limit ≤ d → slice_get now d ≡ slice_get before d) → RowsHold times from k vs before → RowsHold times from k vs now
rows_still times from k limit Nil before now le same h = tt
rows_still times from k limit (Cons v vs) before now le same h = (λ j low. same (from + j) (omega (arith, le)) ∙ h.0 j low, rows_still times (from + times) k limit vs before now (omega (arith, le)) same h.1)

-- ---- how many there are

each_length : (vs : Values) (k : ℕ) → length (one_of_each vs k) ≡ count vs
each_length Nil k = refl
each_length (Cons v vs) k = ap suc (each_length vs k)

turns_length : (c k : ℕ) (vs : Values) → length (interleaved c k vs) ≡ c * count vs
turns_length zero k vs = let e : 0 ≡ 0 * count vs = omega arith in e
turns_length (suc c) k vs =
    let first = each_length vs k in
    let rest = turns_length c (suc k) vs in
    let all = length-append (one_of_each vs k) (interleaved c (suc k) vs) in
    let sum : suc c * count vs ≡ count vs + c * count vs = omega arith in
    omega (arith, all, first, rest, sum)

stores_length : (t : Scalar) (each lists to from : ℕ) → length (item_stores t each lists to from) ≡ lists
stores_length t each zero to from = refl
stores_length t each (suc lists) to from = ap suc (stores_length t each lists (to + 1) (from + each))

pub listed_number : (es : List Tree) → number_of (listed es) ≡ length es
listed_number [] = refl
listed_number (e ∷ es) = ap suc (listed_number es)

-- ---- runs

module _ (w : World) (frames : List ℕ) (stack : List ℤ) (t : Scalar) (times : ℕ) where
  -- the run goes on from one place to another, with numbers in the cells from `to` on, and no other cell has changed
  record Puts (to many p end : ℕ) (zs before : List ℤ) (left : ℕ) : Type 0 where
    now : List ℤ
    reaches : Reaches w.code w.tokens (state p stack frames before left) (state end stack frames now left)
    same_size : length now ≡ length before
    others : (d : ℕ) → (d < to) ⊎ (to + many ≤ d) → slice_get now d ≡ slice_get before d
    stand : StandFrom to zs now

  items_put : (vs : Values) (to from k p : ℕ) (cells : List ℤ) (left : ℕ) → k < times → RowsHold times from k vs cells → to + count vs ≤ from → StandsAt w.code.instrs p (item_stores t times (count vs) to from)
      → Puts to (count vs) p (p + count vs) (map (conv t) (one_of_each vs k)) cells left
  items_put Nil to from k p cells left low rows fit stands =
      let end : p ≡ p + 0 = omega arith in
      record {
        now = cells;
        reaches = subst (λ q. Reaches w.code w.tokens (state p stack frames cells left) (state q stack frames cells left)) end here;
        same_size = refl;
        others = λ d a. refl;
        stand = λ j z e. cc;
      }
  items_put (Cons v vs) to from k p cells left low rows fit stands =
      let i : Instr = op.Copy to from 1 (Some t) in
      let at_from : from + 0 ≡ from = omega arith in
      let at_k : k + 0 ≡ k = omega arith in
      let number : slice_get cells from ≡ Some (number_at v k) = subst (λ q. slice_get cells q ≡ Some (number_at v k)) at_from (subst (λ q. slice_get cells (from + 0) ≡ Some (number_at v q)) at_k (rows.0 0 (omega (arith, low)))) in
      let inside = slice_get_within cells from (number_at v k) number in
      let next : List ℤ = copied (Some t) to from 1 cells in
      let moved : AreMoved (in_cell (Some t)) (λ q. slice_get cells (from + q)) to 1 cells next = copied_are (Some t) to from 1 cells (inr (omega (arith, fit))) (omega (arith, fit, inside)) in
      let one : Reaches w.code w.tokens (state p stack frames cells left) (state (p + 1) stack frames next left) =
      straight_reaches w p i stack stack frames cells next left (λ code tokens y. refl) stands.0 (copy_leaves (Some t) to from 1 w.tokens stack cells (omega (arith, fit, inside)) (omega (arith, inside))) in
      let later : RowsHold times (from + times) k vs next = rows_still times (from + times) k (to + 1) vs cells next (omega (arith, fit)) (λ d a. moved.others d (inr a)) rows.1 in
      let rest : Puts (to + 1) (count vs) (p + 1) (p + 1 + count vs) (map (conv t) (one_of_each vs k)) next left = items_put vs (to + 1) (from + times) k (p + 1) next left low later (omega (arith, fit)) stands.1 in
      let end : p + 1 + count vs ≡ p + suc (count vs) = omega arith in
      record {
        now = rest.now;
        reaches = subst (λ q. Reaches w.code w.tokens (state p stack frames cells left) (state q stack frames rest.now left)) end (reaches_join one rest.reaches);
        same_size = rest.same_size ∙ moved.same_size;
        others = λ d a. rest.others d (⊎_elim (λ (x : d < to). inl (omega (arith, x))) (λ (x : to + suc (count vs) ≤ d). inr (omega (arith, x))) a)
            ∙ moved.others d (⊎_elim (λ (x : d < to). inl x) (λ (x : to + suc (count vs) ≤ d). inr (omega (arith, x))) a);
        stand = stand rest moved number;
      }
    where
      stand : (rest : Puts (to + 1) (count vs) (p + 1) (p + 1 + count vs) (map (conv t) (one_of_each vs k)) (copied (Some t) to from 1 cells) left) → AreMoved (in_cell (Some t)) (λ q. slice_get cells (from + q)) to 1 cells (copied (Some t) to from 1 cells) → slice_get cells from ≡ Some (number_at v k)
          → StandFrom to (conv t (number_at v k) ∷ map (conv t) (one_of_each vs k)) rest.now
      stand rest moved number zero z e =
          let at_from : from ≡ from + 0 = omega arith in
          let at_to : to + 0 ≡ to = omega arith in
          let there : slice_get (copied (Some t) to from 1 cells) (to + 0) ≡ Some (conv t (number_at v k)) = moved.there 0 (number_at v k) (omega arith) (subst (λ q. slice_get cells q ≡ Some (number_at v k)) at_from number) in
          rest.others (to + 0) (inl (omega (arith, at_to))) ∙ there ∙ e
      stand rest moved number (suc j) z e = let place : to + 1 + j ≡ to + suc j = omega arith in subst (λ q. slice_get rest.now q ≡ Some z) place (rest.stand j z e)

  turns_put : (c : ℕ) (vs : Values) (to from k p limit : ℕ) (cells : List ℤ) (left : ℕ) → k + c ≤ times → RowsHold times from k vs cells → to + c * count vs ≤ limit → limit ≤ from → StandsAt w.code.instrs p (turn_stores t times (count vs) c to from)
      → Puts to (c * count vs) p (p + length (turn_stores t times (count vs) c to from)) (map (conv t) (interleaved c k vs)) cells left
  turns_put zero vs to from k p limit cells left low rows fit behind stands =
      let end : p ≡ p + 0 = omega arith in
      record {
        now = cells;
        reaches = subst (λ q. Reaches w.code w.tokens (state p stack frames cells left) (state q stack frames cells left)) end here;
        same_size = refl;
        others = λ d a. refl;
        stand = λ j z e. cc;
      }
  turns_put (suc c) vs to from k p limit cells left low rows fit behind stands =
      let lists : ℕ = count vs in
      let sum : suc c * lists ≡ lists + c * lists = omega arith in
      let a : List Instr = item_stores t times lists to from in
      let b : List Instr = turn_stores t times lists c (to + lists) (from + 1) in
      let many : length a ≡ lists = stores_length t times lists to from in
      let all : length (a ++ b) ≡ length a + length b = length-append a b in
      let first : Puts to lists p (p + lists) (map (conv t) (one_of_each vs k)) cells left = items_put vs to from k p cells left (omega (arith, low)) rows (omega (arith, fit, behind, sum)) (stands_left w.code.instrs p a b stands) in
      let kept : RowsHold times from k vs first.now = rows_still times from k limit vs cells first.now behind (λ d x. first.others d (inr (omega (arith, x, fit, sum)))) rows in
      let next : RowsHold times (from + 1) (suc k) vs first.now = rows_next times from k vs first.now kept in
      let place : p + length a ≡ p + lists = omega (arith, many) in
      let rest : Puts (to + lists) (c * lists) (p + lists) (p + lists + length b) (map (conv t) (interleaved c (suc k) vs)) first.now left =
      turns_put c vs (to + lists) (from + 1) (suc k) (p + lists) limit first.now left (omega (arith, low)) next (omega (arith, fit, sum)) (omega (arith, behind)) (subst (λ q. StandsAt w.code.instrs q b) place (stands_right w.code.instrs p a b stands)) in
      let end : p + lists + length b ≡ p + length (a ++ b) = omega (arith, many, all) in
      let width : length (map (conv t) (one_of_each vs k)) ≡ lists = length-map (one_of_each vs k) (conv t) ∙ each_length vs k in
      let split : map (conv t) (one_of_each vs k ++ interleaved c (suc k) vs) ≡ map (conv t) (one_of_each vs k) ++ map (conv t) (interleaved c (suc k) vs) = map-append (conv t) (one_of_each vs k) (interleaved c (suc k) vs) in
      let before : StandFrom to (map (conv t) (one_of_each vs k)) rest.now = λ j z e.
      let within = slice_get_within (map (conv t) (one_of_each vs k)) j z e in
      rest.others (to + j) (inl (omega (arith, within, width))) ∙ first.stand j z e
      in
      let after : StandFrom (to + length (map (conv t) (one_of_each vs k))) (map (conv t) (interleaved c (suc k) vs)) rest.now = subst (λ q. StandFrom (to + q) (map (conv t) (interleaved c (suc k) vs)) rest.now) (sym width) rest.stand in
      record {
        now = rest.now;
        reaches = subst (λ q. Reaches w.code w.tokens (state p stack frames cells left) (state q stack frames rest.now left)) end (reaches_join first.reaches rest.reaches);
        same_size = rest.same_size ∙ first.same_size;
        others = λ d x. rest.others d (⊎_elim (λ (y : d < to). inl (omega (arith, y))) (λ (y : to + suc c * lists ≤ d). inr (omega (arith, y, sum))) x)
            ∙ first.others d (⊎_elim (λ (y : d < to). inl y) (λ (y : to + suc c * lists ≤ d). inr (omega (arith, y, sum))) x);
        stand = subst (λ zs. StandFrom to zs rest.now) (sym split) (stand_both to (map (conv t) (one_of_each vs k)) (map (conv t) (interleaved c (suc k) vs)) rest.now before after);
      }

-- ---- the output

module _ (rs : Routines) (outer : List Name) (w : World) (serves : Serves w outer rs.functions) (frames : List ℕ) (inner : List Name) (t : Scalar) (env : Env) (stack : List ℤ) where
  pub repeated_sent : (times : ℕ) {es : List Tree} {base n m : ℕ} {part : List Instr} (cells : List ℤ) (left : ℕ) → IsRepeated rs.functions (inner ++ outer) t times es base n part m → StandsAt w.code.instrs base part → m ≤ length cells
      → AreLaid rs outer w.tokens w.low w.high n inner → AreApart n m w.low w.high → HoldsInside rs outer w.tokens w.low w.high inner cells env
      → Follows (eval_all (listed es) w.calls env left) (SendsList rs outer w serves frames inner t env stack times n m (state base stack frames cells left) (base + length part)) (CutsOff w n m (state base stack frames cells left))
  repeated_sent times cells left (one_list e base n m code sent) stands room laid apart holds = list_sent rs outer w serves frames inner t env stack e times base n m code cells left sent stands room laid apart holds
  repeated_sent times cells left (in_turns es base n m rows body is filled) stands room laid apart holds =
      let lists : ℕ = length es in
      let turns : List Instr = turn_stores t times lists times n rows in
      let s : State = state base stack frames cells left in
      let number : number_of (listed es) ≡ lists = listed_number es in
      let wide : rows + lists * times ≤ m = grows_fills filled in
      let one : scalars_of_type (items_of_any times) ≡ times = omega arith in
      let fit : rows + number_of (listed es) * scalars_of_type (items_of_any times) ≤ rows + lists * times =
      subst (λ q. rows + number_of (listed es) * q ≤ rows + lists * times) (sym one) (subst (λ q. rows + q * times ≤ rows + lists * times) (sym number) (omega arith)) in
      let up : n ≤ rows = omega (arith, is) in
      let end : base + length body + length turns ≡ base + length (body ++ turns) = omega (arith, length-append body turns) in
      let swap : times * lists ≡ lists * times = mul_comm times lists in
      follows_more (eval_all (listed es) w.calls env left) (FillsAll w rows m rows (items_of_any times) (number_of (listed es)) s (base + length body)) (CutsOff w rows m s)
      (SendsList rs outer w serves frames inner t env stack times n m s (base + length (body ++ turns))) (CutsOff w n m s)
      (all_there rs outer w serves frames inner filled fit stack cells env left (stands_left w.code.instrs base body turns stands) (laid_more rs outer w.tokens w.low w.high n rows inner up laid) (apart_last n rows m w.low w.high up apart) room holds)
      (λ vs j p.
      let many : count vs ≡ lists = p.as_many ∙ number in
      let rows_hold : RowsHold times rows 0 vs p.cells = rows_from times rows vs p.cells p.shaped (λ i z e. p.stands i z e) in
      let there : StandsAt w.code.instrs (base + length body) (turn_stores t times (count vs) times n rows) = subst (λ q. StandsAt w.code.instrs (base + length body) (turn_stores t times q times n rows)) (sym many) (stands_right w.code.instrs base body turns stands) in
      let area : times * count vs ≡ lists * times = ap (λ q. times * q) many ∙ swap in
      let q : Puts w frames stack t times n (times * count vs) (base + length body) (base + length body + length (turn_stores t times (count vs) times n rows)) (map (conv t) (interleaved times 0 vs)) p.cells j =
      turns_put w frames stack t times times vs n rows 0 (base + length body) rows p.cells j (omega arith) rows_hold (omega (arith, is, area)) (omega arith) there in
      let last : base + length body + length (turn_stores t times (count vs) times n rows) ≡ base + length (body ++ turns) = ap (λ k. base + length body + length (turn_stores t times k times n rows)) many ∙ end in
      let size : length (map (conv t) (interleaved times 0 vs)) ≡ times * count vs = length-map (interleaved times 0 vs) (conv t) ∙ turns_length times 0 vs in
      let wrote : Written n (times * count vs) p.cells q.now = record { length_same = q.same_size; cell = q.others } in
      record {
        cells = q.now;
        reaches = subst (λ k. Reaches w.code w.tokens s (state k stack frames q.now j)) last (reaches_join p.reaches q.reaches);
        keeps = keeps_join (keeps_wider n m up (omega arith) p.keeps) (written_keeps n (times * count vs) n m w.low w.high p.cells q.now (omega arith) (omega (arith, area, is, wide)) wrote);
        stand = q.stand;
        within = λ i z e. let low = slice_get_within (map (conv t) (interleaved times 0 vs)) i z e in omega (arith, low, size, area, is, wide);
      })
      (λ d q. cut_on w rows m n m s d up (omega arith) q)
    where
      mul_comm : (a b : ℕ) → a * b ≡ b * a
      mul_comm a b = omega arith
