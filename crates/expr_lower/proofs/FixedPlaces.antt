-- The code of an item at places that are written out is code of an expression.
use Rattle.std.proofs.Common.{◌≡◌, ℕ, ◌+◌, ◌*◌, ◌<◌, ◌≤◌, ℤ, pos, negsuc, List, [], ◌∷◌, Bool, true, false, refl, sym, ap, ◌∙◌, subst, Option, None, Some, arith}
use Rattle.std.specs.Prelude.{if◌then◌else◌, nat_lt, slice_get}
use Rattle.std.proofs.lemmas.Bool.Decides.{nat_tests}
use Rattle.std.proofs.lemmas.Nat.{mul-le}
use Rattle.cal_ast.specs.Tree as tree
use Rattle.cal_ast.specs.Tree.{Tree}
use Rattle.cal_model.specs.Value.{Shape, Single, Many, Value, Num, Truth, Items, count, value_at, HasKind, kind_of_type, scalars_of_type}
use Rattle.cal_model.specs.Outcome.{Out, Gives, Traps, and_then, known}
use Rattle.cal_model.specs.Env.{Env}
use Rattle.cal_model.specs.Expression.{Calls, eval, indexed}
use Rattle.rvc_base.specs.declared.trap.Trap.TheVariants.{IndexRange}
use Rattle.code_ir.specs.declared.instr.Instr.{Instr}
use Rattle.code_ir.specs.declared.instr.Instr.TheVariants as op
use Rattle.code_ir.specs.Effect.{Leaves, effect, push_token}
use Rattle.code_ir.specs.Running.{State, obey, go_on, here, after}
use Rattle.code_ir.specs.Code.{Code}
use Rattle.lower_base.specs.Allowing.{Allowed, IsAllowed, SeatIsRead}
use Rattle.lower_base.specs.declared.names.ItemList.{ItemList}
use Rattle.lower_base.specs.declared.names.Seat.{Seat}
use Rattle.lower_base.specs.declared.names.Seat.TheVariants.{Cell, Tokens}
use Rattle.lower_base.specs.declared.parts.Rows.{Rows}
use Rattle.lower_base.specs.Bounds.{bound_of}
use Rattle.lower_base.specs.Callees.{Function}
use Rattle.lower_base.specs.Coding.{IsCode, IsOtherCode, aimed, in_another_way}
use Rattle.lower_base.specs.Flat.{flat}
use Rattle.lower_base.specs.Following.{CutsOff, Follows, Pushes}
use Rattle.lower_base.specs.Growing.{left_out_apart, left_out_fill, left_out_in, left_out_places, one, ◌or_else◌}
use Rattle.lower_base.specs.ItemsSeen.{items_seen}
use Rattle.lower_base.specs.Held.{HoldsName, Holds, SeatIsBelow, StandAt}
use Rattle.lower_base.specs.Listed.{list_named}
use Rattle.lower_base.specs.Names.{Name}
use Rattle.lower_base.specs.Parted.{Part, deep_named, part_at, part_named, rows_named, sized}
use Rattle.lower_base.specs.Placed.{StandsAt, World, state}
use Rattle.lower_base.specs.Single.{OnlySingles}
use Rattle.lower_base.proofs.AllowedCode.{deep_read}
use Rattle.lower_base.proofs.Bounded.{bound_gives}
use Rattle.lower_base.proofs.BoundWhole.{bound_whole}
use Rattle.lower_base.proofs.Coded.{ends_as, load_leaves}
use Rattle.lower_base.proofs.Fitted.{Plain, deep_below, fits_one}
use Rattle.lower_base.proofs.Keeping.{keeps_all}
use Rattle.lower_base.proofs.Listing.{item_past, single_flat}
use Rattle.lower_base.proofs.PartValues.{HasRows, IsDeep, IsWhole, deep_found, rows_found, sized_is, whole_found}
use Rattle.lower_base.proofs.Rowed.{IsInside, item_inside, row_item}
use Rattle.lower_base.proofs.Runs.{obeys}
use Rattle.lower_base.proofs.Singles.{kind_single}
use Rattle.expr_lower.specs.FixedItems.{IsFixed, fixed_offset, number_instr, step_to}

-- ---- offsets

-- a chain of one index more has an offset if the place is one of the list
pub record IsStep (names : List Name) (base place : Tree) (k : ℕ) : Type 0 where
  pub rows : Rows
  pub rows_are : rows_named names base ≡ Some rows
  pub place_is : ℕ
  pub written : bound_of place ≡ Some (pos place_is)
  pub within : place_is < rows.count
  pub list : ℕ
  pub list_at : fixed_offset names base ≡ Some list
  pub is : k ≡ list + place_is * rows.each

step_found : (names : List Name) (base place : Tree) (at k : ℕ) → fixed_offset names (tree.index base place at) ≡ Some k → IsStep names base place k
step_found names base place at k e = go (rows_named names base) refl e
  where
    within : (r : Rows) (i j : ℕ) (b : Bool) → rows_named names base ≡ Some r → bound_of place ≡ Some (pos i) → fixed_offset names base ≡ Some j → nat_lt i r.count ≡ b
        → ◌≡◌ {A = Option ℕ} (if b then Some (j + i * r.each) else None) (Some k) → IsStep names base place k
    within r i j true p q f l h = record { rows = r; rows_are = p; place_is = i; written = q; within = grind (arith, nat_tests, l); list = j; list_at = f; is = cc }
    within r i j false p q f l h = cc

    step : (r : Rows) (z : Option ℤ) (o : Option ℕ) → rows_named names base ≡ Some r → bound_of place ≡ z → fixed_offset names base ≡ o → step_to z r o ≡ Some k → IsStep names base place k
    step r None o p q f h = cc
    step r (Some (negsuc i)) o p q f h = cc
    step r (Some (pos i)) None p q f h = cc
    step r (Some (pos i)) (Some j) p q f h = within r i j (nat_lt i r.count) p q f refl h

    go : (o : Option Rows) → rows_named names base ≡ o → ◌≡◌ {A = Option ℕ} (elim o [ None ↦ None | Some r ↦ step_to (bound_of place) r (fixed_offset names base) ]) (Some k) → IsStep names base place k
    go None p h = cc
    go (Some r) p h = step r (bound_of place) (fixed_offset names base) p refl refl h

-- the part lies within the whole list
fixed_within : (names : List Name) (e : Tree) (p : Part) (k : ℕ) → part_named names e ≡ Some p → fixed_offset names e ≡ Some k → k + scalars_of_type p.shape ≤ p.size
fixed_within names (tree.variable text at) p k g h =
    let f : IsWhole names text p = whole_found names text at p g in
    let size : scalars_of_type p.shape ≡ p.size = sized_is p.shape p.size (ap sized (sym f.shape) ∙ f.size) in
    let start : 0 ≡ k = cc in
    omega (arith, size, start)
fixed_within names (tree.index base place at) p k g h =
    let s : IsStep names base place k = step_found names base place at k h in
    let rows : HasRows names base s.rows = rows_found names base s.rows s.rows_are in
    let upto = fixed_within names base rows.part s.list rows.is s.list_at in
    let same : part_at rows.part.seat rows.items rows.part.size ≡ p = row_item names base place at s.rows p rows g in
    let each : scalars_of_type rows.items ≡ s.rows.each = sized_is rows.items s.rows.each rows.each in
    let all : scalars_of_type rows.part.shape ≡ s.rows.count * scalars_of_type rows.items = ap scalars_of_type rows.shape in
    let m : ℕ = scalars_of_type rows.items in
    let within = s.within in
    let step : (s.place_is + 1) * m ≤ s.rows.count * m = mul-le (s.place_is + 1) m s.rows.count m (omega (arith, within)) (omega arith) in
    let more : (s.place_is + 1) * m ≡ s.place_is * m + m = omega arith in
    let from : k ≡ s.list + s.place_is * m = subst (λ x. k ≡ s.list + s.place_is * x) (sym each) s.is in
    subst (λ (q : Part). k + scalars_of_type q.shape ≤ q.size) same (omega (arith, upto, all, step, more, from))
fixed_within names e p k g h = cc

-- ---- values

-- the value that is given stands at the offset
pub record GivesPart (names : List Name) (env : Env) (p : Part) (o : Out Value) (left k : ℕ) : Type 0 where
  pub value : Value
  pub is : o ≡ Gives value left
  pub inside : IsInside names env p value k

module _ (names : List Name) (tokens : ℕ → List ℤ) (cells : List ℤ) (env : Env) (calls : Calls) (holds : Holds names tokens cells env) where
  -- an item of a list that is there
  item_given : (q p : Part) (n i j left : ℕ) (items : Shape) (v : Value) → q.shape ≡ Many n items → part_at q.seat items q.size ≡ p → i < n → IsInside names env q v j
      → GivesPart names env p (indexed v (Num (pos i)) left) left (j + i * scalars_of_type items)
  item_given q p n i j left items (Num z) shape same less f = absurd (subst (λ t. HasKind (kind_of_type t) (Num z)) shape f.of_type)
  item_given q p n i j left items (Truth b) shape same less f = absurd (subst (λ t. HasKind (kind_of_type t) (Truth b)) shape f.of_type)
  item_given q p n i j left items (Items vs) shape same less f = go (value_at vs i) refl
    where
      size : count vs ≡ n
      size = (subst (λ t. HasKind (kind_of_type t) (Items vs)) shape f.of_type).0

      go : (o : Option Value) → value_at vs i ≡ o → GivesPart names env p (elim o [ None ↦ Traps IndexRange | Some v ↦ Gives v left ]) left (j + i * scalars_of_type items)
      go None e = let past = item_past vs i e in absurd (omega (arith, past, size, less))
      go (Some u) e = record { value = u; is = refl; inside = subst (λ x. IsInside names env x u (j + i * scalars_of_type items)) same (item_inside names env q n items vs j i u shape f e) }

  pub fixed_gives : (e : Tree) (p : Part) (k left : ℕ) → part_named names e ≡ Some p → fixed_offset names e ≡ Some k → GivesPart names env p (eval e calls env left) left k
  fixed_gives (tree.variable text at) p k left g h =
      let f : IsWhole names text p = whole_found names text at p g in
      let held : HoldsName tokens cells env text f.x = holds text f.x f.is in
      let size : scalars_of_type p.shape ≡ p.size = sized_is p.shape p.size (ap sized (sym f.shape) ∙ f.size) in
      let start : 0 ≡ k = cc in
      record {
        value = held.value;
        is = ap (λ (o : Option Value). known o left) held.meant;
        inside = subst (λ x. IsInside names env p held.value x) start (record {
          text = text;
          x = f.x;
          is = f.is;
          seat = f.seat;
          whole = held.value;
          meant = held.meant;
          of_type = subst (λ t. HasKind (kind_of_type t) held.value) f.shape held.of_type;
          within = omega (arith, size);
          less = f.less;
          at = λ j z x. let e : j ≡ 0 + j = omega arith in subst (λ i. slice_get (flat held.value) i ≡ Some z) e x;
        });
      }
  fixed_gives (tree.index base place at) p k left g h =
      let s : IsStep names base place k = step_found names base place at k h in
      let rows : HasRows names base s.rows = rows_found names base s.rows s.rows_are in
      let list : GivesPart names env rows.part (eval base calls env left) left s.list = fixed_gives base rows.part s.list left rows.is s.list_at in
      let same : part_at rows.part.seat rows.items rows.part.size ≡ p = row_item names base place at s.rows p rows g in
      let each : scalars_of_type rows.items ≡ s.rows.each = sized_is rows.items s.rows.each rows.each in
      let item : GivesPart names env p (indexed list.value (Num (pos s.place_is)) left) left (s.list + s.place_is * scalars_of_type rows.items) =
      item_given rows.part p s.rows.count s.place_is s.list left rows.items list.value rows.shape same s.within list.inside in
      let from : s.list + s.place_is * scalars_of_type rows.items ≡ k = ap (λ m. s.list + s.place_is * m) each ∙ sym s.is in
      record {
        value = item.value;
        is = ap (λ (o : Out Value). and_then o (λ v m. and_then (eval place calls env m) (λ i j. indexed v i j))) list.is
            ∙ ap (λ (o : Out Value). and_then o (λ i j. indexed list.value i j)) (bound_gives place (pos s.place_is) calls env left s.written) ∙ item.is;
        inside = subst (λ x. IsInside names env p item.value x) from item.inside;
      }
  fixed_gives e p k left g h = cc

-- ---- code

number_leaves : (seat : Seat) (k : ℕ) (tokens : ℕ → List ℤ) (stack cells zs : List ℤ) (z : ℤ) → StandAt seat tokens cells zs → slice_get zs k ≡ Some z → effect tokens (number_instr seat k) stack cells ≡ Leaves (z ∷ stack) cells
number_leaves (Cell c) k tokens stack cells zs z stands e = load_leaves (c + k) tokens stack cells z (stands k z e)
number_leaves (Tokens port first step) k tokens stack cells zs z stands e = ap (λ o. push_token o stack cells) (stands k z e)

number_goes : (seat : Seat) (k : ℕ) (code : Code) (tokens : ℕ → List ℤ) (s : State) → obey code tokens s (number_instr seat k) ≡ go_on s (effect tokens (number_instr seat k) s.stack s.cells)
number_goes (Cell c) k code tokens s = refl
number_goes (Tokens port first step) k code tokens s = refl

number_unaimed : (out : ℕ) (seat : Seat) (k : ℕ) → aimed out (number_instr seat k) ≡ number_instr seat k
number_unaimed out (Cell c) k = refl
number_unaimed out (Tokens port first step) k = refl

number_fits : (code : Code) (callable limit base h size : ℕ) (seat : Seat) (k : ℕ) → k < size → SeatIsBelow limit size seat → Plain code callable limit base h (number_instr seat k ∷ []) (h + 1)
number_fits code callable limit base h size (Cell c) k less below = fits_one code callable limit base h (h + 1) (op.Load (c + k)) (omega arith) (omega arith) refl (omega (arith, less, below)) tt tt tt
number_fits code callable limit base h size (Tokens port first step) k less below = fits_one code callable limit base h (h + 1) (op.Token port (first + k * step)) (omega arith) (omega arith) refl tt tt tt tt

number_allowed : (a : Allowed) (size : ℕ) (seat : Seat) (k : ℕ) → k < size → SeatIsRead a size seat → IsAllowed a (number_instr seat k)
number_allowed a size (Cell c) k less read = tt
number_allowed a size (Tokens port first step) k less read = read k less

module _ (fs : List Function) (names : List Name) (e : Tree) (base n : ℕ) (i : Instr) (fixed : IsFixed names e i) where
  d : IsDeep names e fixed.list
  d = deep_found names e fixed.list fixed.deep

  count_one : scalars_of_type d.part.shape ≡ 1
  count_one = ap scalars_of_type d.shape

  less : fixed.offset < fixed.list.size
  less = let w = fixed_within names e d.part fixed.offset d.is fixed.at in let size = d.size in omega (arith, w, count_one, size)

  module _ (w : World) (env : Env) (stack : List ℤ) (frames : List ℕ) (cells : List ℤ) (left : ℕ) (stands : StandsAt w.code.instrs base (i ∷ [])) (holds : Holds names w.tokens cells env) where
    abbrev s : State
    s = state base stack frames cells left

    given : GivesPart names env d.part (eval e w.calls env left) left fixed.offset
    given = fixed_gives names w.tokens cells env w.calls holds e d.part fixed.offset left d.is fixed.at

    same_value : (v u : Value) → ◌≡◌ {A = Option Value} (Some v) (Some u) → v ≡ u
    same_value v u h = cc

    pushed : Pushes w n n s (base + 1) given.value left
    pushed =
        let f : IsInside names env d.part given.value fixed.offset = given.inside in
        let h : HoldsName w.tokens cells env f.text f.x = holds f.text f.x f.is in
        let same : h.value ≡ f.whole = same_value h.value f.whole (sym h.meant ∙ f.meant) in
        let seat : Seat = fixed.list.seat in
        let stood : StandAt seat w.tokens cells (flat f.whole) = subst (λ x. StandAt x w.tokens cells (flat f.whole)) (f.seat ∙ d.seat) (subst (λ u. StandAt f.x.seat w.tokens cells (flat u)) same h.stands) in
        let number = single_flat (Single fixed.list.kind) given.value tt (subst (λ t. HasKind (kind_of_type t) given.value) d.shape f.of_type) in
        let first : slice_get (flat given.value) 0 ≡ Some number.0 = ap (λ zs. slice_get zs 0) number.1 in
        let there : slice_get (flat f.whole) fixed.offset ≡ Some number.0 = let z : fixed.offset + 0 ≡ fixed.offset = omega arith in subst (λ x. slice_get (flat f.whole) x ≡ Some number.0) z (f.at 0 number.0 first) in
        let instr : slice_get w.code.instrs base ≡ Some (number_instr seat fixed.offset) = stands.0 ∙ ap Some fixed.is in
        record {
          number = number.0;
          is = number.1;
          cells = cells;
          reaches = after (obeys w.code w.tokens s (number_instr seat fixed.offset) instr ∙ number_goes seat fixed.offset w.code w.tokens s ∙ ap (go_on s) (number_leaves seat fixed.offset w.tokens stack cells (flat f.whole) number.0 stood there)) here;
          keeps = keeps_all n n w.low w.high cells;
        }

    goes_like : Follows (eval e w.calls env left) (Pushes w n n s (base + 1)) (CutsOff w n n s)
    goes_like = subst (λ (o : Out Value). Follows o (Pushes w n n s (base + 1)) (CutsOff w n n s)) (sym given.is) pushed

    single : OnlySingles (eval e w.calls env left)
    single = subst OnlySingles (sym given.is) (kind_single fixed.list.kind given.value (subst (λ t. HasKind (kind_of_type t) given.value) d.shape given.inside.of_type))

  pub fixed_code : IsOtherCode fs names e base n (i ∷ []) n
  fixed_code = record {
    cells = omega arith;
    evaluates = λ below. record {
      goes = λ w globals env stack frames cells left stands serves p usable. goes_like w env stack frames cells left stands p.holds;
      only = λ w globals env stack frames cells left stands serves p usable o last r.
          ends_as w n n (state base stack frames cells left) (base + 1) (eval e w.calls env left) o last (goes_like w env stack frames cells left stands p.holds) r;
    };
    singles = λ below w globals env cells left stands serves p usable. single w env [] [] cells left stands p.holds;
    fits = λ whole callable limit h has below le stands.
        subst (λ x. Plain whole callable limit base h (x ∷ []) (h + 1)) (sym fixed.is)
        (number_fits whole callable limit base h fixed.list.size fixed.list.seat fixed.offset less (deep_below whole callable limit n names e fixed.list fixed.deep below le));
    aims = λ out. ap (λ x. x ∷ []) (subst (λ x. aimed out x ≡ x) (sym fixed.is) (number_unaimed out fixed.list.seat fixed.offset));
    allowed = λ bounds h. (subst (IsAllowed bounds) (sym fixed.is) (number_allowed bounds fixed.list.size fixed.list.seat fixed.offset less (deep_read bounds names e fixed.list h.read fixed.deep)), tt);
  }

  pub fixed_is_code : IsCode fs names e base n (i ∷ []) n
  fixed_is_code = in_another_way e base n n (i ∷ []) fixed_code

-- ---- nothing is left out

pub places_whole : (fs : List Function) (names : List Name) (e : Tree) (k : ℕ) → fixed_offset names e ≡ Some k → left_out_places fs names e ≡ None
places_whole fs names (tree.variable text at) k h = refl
places_whole fs names (tree.index base place at) k h =
    let s : IsStep names base place k = step_found names base place at k h in
    ap (λ o. o or_else left_out_in fs names place) (places_whole fs names base s.list s.list_at) ∙ bound_whole fs names place (pos s.place_is) s.written
places_whole fs names e k h = cc

-- what is left out of an item of a list that has a name, or is a part of one, or of neither
abbrev index_left : Option ItemList → Option ItemList → Option ℕ → Option ℕ → Option ℕ → Option ℕ
index_left o d place places apart = elim o [ Some l ↦ place | None ↦ elim d [ Some l ↦ places or_else place | None ↦ apart ] ]

pub fixed_whole : (fs : List Function) (names : List Name) (base place : Tree) (at : ℕ) (i : Instr) → IsFixed names (tree.index base place at) i → left_out_in fs names (tree.index base place at) ≡ None
fixed_whole fs names base place at i fixed = go (list_named names base) (deep_named names (tree.index base place at)) fixed.deep
  where
    s : IsStep names base place fixed.offset
    s = step_found names base place at fixed.offset fixed.at

    place_whole : left_out_in fs names place ≡ None
    place_whole = bound_whole fs names place (pos s.place_is) s.written

    go : (o d : Option ItemList) → d ≡ Some fixed.list
        → index_left o d (left_out_in fs names place) (left_out_places fs names base) (left_out_apart (items_seen names base 0) one at (λ list. left_out_fill fs names list base) (left_out_in fs names place)) ≡ None
    go (Some l) d e = place_whole
    go None (Some l) e = ap (λ o. o or_else left_out_in fs names place) (places_whole fs names base s.list s.list_at) ∙ place_whole
    go None None e = cc
