-- The code of a chain of indexes does what evaluating it does.
use Rattle.std.proofs.Common.{◌≡◌, ℕ, ◌+◌, ◌*◌, ◌<◌, ◌≤◌, ℤ, pos, negsuc, List, [], ◌∷◌, ◌++◌, length, true, false, refl, sym, ap, ◌∙◌, subst, Option, None, Some, arith, length-append}
use Rattle.std.specs.Prelude.{◌^◌, if◌then◌else◌, nat_le, slice_get}
use Rattle.std.proofs.lemmas.Bool.Decides.{nat_tests}
use Rattle.std.proofs.lemmas.Nat.{mul-le}
use Rattle.rvc_base.specs.declared.trap.Trap.TheVariants.{IndexRange}
use Rattle.rvc_base.specs.declared.trap.Trap.TheVariants as trap
use Rattle.rvc_base.specs.Arithmetic as arithmetic
use Rattle.rvc_base.specs.Width.{is_num, num_bound}
use Rattle.cal_ast.specs.Tree as tree
use Rattle.cal_ast.specs.Tree.{Tree}
use Rattle.cal_model.specs.Value.{Shape, Single, Many, Value, Num, Truth, Items, Values, count, value_at, HasKind, kind_of_type, scalars_of_type}
use Rattle.cal_model.specs.Outcome.{Out, Gives, Traps, and_then, known}
use Rattle.cal_model.specs.Env.{Env, look_up}
use Rattle.cal_model.specs.Expression.{eval, indexed}
use Rattle.code_ir.specs.declared.instr.Instr.{Instr}
use Rattle.code_ir.specs.declared.instr.Instr.TheVariants as op
use Rattle.code_ir.specs.Effect.{Effect, Leaves, Fails, effect, push_computed}
use Rattle.code_ir.specs.Running.{State, step, go_on, stop, Reaches, here, after}
use Rattle.lower_base.specs.declared.names.ItemList.{ItemList}
use Rattle.lower_base.specs.declared.parts.Rows.{Rows}
use Rattle.lower_base.specs.Coding.{item_instr, row_instr}
use Rattle.lower_base.specs.Flat.{flat, flat_all}
use Rattle.lower_base.specs.Following.{Follows, Pushes, CutsOff}
use Rattle.lower_base.specs.Held.{Holds, HoldsName, Keeps, StandAt}
use Rattle.lower_base.specs.Names.{Name, named}
use Rattle.lower_base.specs.Parted.{Part, deep_named, item_in, item_of, part_at, part_named, rows_named, sized}
use Rattle.lower_base.specs.Placed.{StandsAt, World, state}
use Rattle.lower_base.specs.Callees.{Function}
use Rattle.lower_base.proofs.Runs.{ends_join, follows_more, follows_then, obeys, reaches_join, stands_left, stands_right}
use Rattle.lower_base.proofs.Keeping.{holds_still, keeps_all, keeps_join, keeps_wider, scalars_same}
use Rattle.lower_base.proofs.Effects.{same_number}
use Rattle.lower_base.proofs.Items.{reads_inside, reads_straight}
use Rattle.lower_base.proofs.Listing.{item_kind, item_past, item_within, single_flat}
use Rattle.lower_base.proofs.PartValues.{HasRows, IsDeep, IsWhole, deep_found, item_numbers, rows_found, sized_is, whole_found}
use Rattle.lower_base.proofs.Doing.{Does, cut_after, cut_wider, Below, Apart, Held, below_on, still}

-- a value is that of a part, whose numbers stand from an offset on among those of the whole list
pub record IsInside (names : List Name) (env : Env) (p : Part) (v : Value) (k : ℕ) : Type 0 where
  pub text : List ℕ
  pub x : Name
  pub is : named text names ≡ Some x
  pub seat : x.seat ≡ p.seat
  pub whole : Value
  pub meant : look_up text env ≡ Some whole
  pub of_type : HasKind (kind_of_type p.shape) v
  pub within : k + scalars_of_type p.shape ≤ p.size
  pub less : p.size < 2 ^ 32
  pub at : (j : ℕ) (z : ℤ) → slice_get (flat v) j ≡ Some z → slice_get (flat whole) (k + j) ≡ Some z

-- the run goes on to a place with the offset of a part on the stack
pub record AtOffset (names : List Name) (w : World) (env : Env) (p : Part) (n m : ℕ) (s : State) (end : ℕ) (v : Value) (left : ℕ) : Type 0 where
  pub offset : ℕ
  pub cells : List ℤ
  pub reaches : Reaches w.code w.tokens s (state end (pos offset ∷ s.stack) s.frames cells left)
  pub keeps : Keeps n m w.low w.high s.cells cells
  pub inside : IsInside names env p v offset

-- ---- one index

-- the effect leaves the offset of a value above the rest of the stack
record RowLeft (names : List Name) (env : Env) (p : Part) (e : Effect) (stack cells : List ℤ) (left : ℕ) (v : Value) (h : ℕ) : Type 0 where
  pub same : h ≡ left
  pub offset : ℕ
  pub leaves : e ≡ Leaves (pos offset ∷ stack) cells
  pub inside : IsInside names env p v offset

pub small_num : (k : ℕ) → k < 2 ^ 32 → is_num (pos k) ≡ true
small_num k less =
    let wide : nat_le (2 ^ 32) num_bound ≡ true = refl in
    let more : 2 ^ 32 ≤ num_bound = grind (arith, nat_tests, wide) in
    grind (arith, nat_tests, less, more)

-- an item of a part is one of a list inside it
pub item_inside : (names : List Name) (env : Env) (q : Part) (n : ℕ) (items : Shape) (vs : Values) (k i : ℕ) (u : Value) → q.shape ≡ Many n items → IsInside names env q (Items vs) k → value_at vs i ≡ Some u
    → IsInside names env (part_at q.seat items q.size) u (k + i * scalars_of_type items)
item_inside names env q n items vs k i u shape f e =
    let kinds : HasKind (kind_of_type (Many n items)) (Items vs) = subst (λ t. HasKind (kind_of_type t) (Items vs)) shape f.of_type in
    let m : ℕ = scalars_of_type items in
    let below : i < count vs = item_within vs i u e in
    let size : count vs ≡ n = kinds.0 in
    let upto : (i + 1) * m ≤ n * m = mul-le (i + 1) m n m (omega (arith, below, size)) (omega arith) in
    let all : scalars_of_type q.shape ≡ n * m = ap scalars_of_type shape in
    let within = f.within in
    let more : (i + 1) * m ≡ i * m + m = omega arith in
    record {
      text = f.text;
      x = f.x;
      is = f.is;
      seat = f.seat;
      whole = f.whole;
      meant = f.meant;
      of_type = item_kind (kind_of_type items) vs i u kinds.1 e;
      within = omega (arith, within, all, upto, more);
      less = f.less;
      at = λ j z g.
          let there : k + (i * m + j) ≡ k + i * m + j = omega arith in
          let inner : slice_get (flat_all vs) (i * m + j) ≡ Some z = subst (λ x. slice_get (flat_all vs) (i * x + j) ≡ Some z) (scalars_same items) (item_numbers (kind_of_type items) vs i u j z kinds.1 e g) in
          subst (λ x. slice_get (flat f.whole) x ≡ Some z) there (f.at (i * m + j) z inner);
    }

module _ (names : List Name) (env : Env) (q p : Part) (r : Rows) (items : Shape) (tokens : ℕ → List ℤ) (stack cells : List ℤ) (left k : ℕ)
    (shape : q.shape ≡ Many r.count items) (each : sized items ≡ Some r.each) (item : part_at q.seat items q.size ≡ p) where
  abbrev RowActs : ℤ → Out Value → Type 0
  RowActs z o = Follows o (RowLeft names env p (effect tokens (row_instr r) (z ∷ pos k ∷ stack) cells) stack cells left) (λ c. effect tokens (row_instr r) (z ∷ pos k ∷ stack) cells ≡ Fails c)

  pushes : ℕ → Effect
  pushes i = push_computed (arithmetic.whole (pos (k + i * r.each))) stack cells

  row_at : (vs : Values) (i : ℕ) (o : Option Value) → IsInside names env q (Items vs) k → value_at vs i ≡ o → RowActs (pos i) (elim o [ None ↦ Traps IndexRange | Some v ↦ Gives v left ])
  row_at vs i None f e =
      let kinds : HasKind (kind_of_type (Many r.count items)) (Items vs) = subst (λ t. HasKind (kind_of_type t) (Items vs)) shape f.of_type in
      let size : count vs ≡ r.count = kinds.0 in
      let past = item_past vs i e in
      let outside : nat_le (i + 1) r.count ≡ false = grind (arith, nat_tests, size, past) in
      ap (λ b. if b then push_computed (arithmetic.whole (pos (k + i * r.each))) stack cells else Fails IndexRange) outside
  row_at vs i (Some u) f e =
      let kinds : HasKind (kind_of_type (Many r.count items)) (Items vs) = subst (λ t. HasKind (kind_of_type t) (Items vs)) shape f.of_type in
      let size : count vs ≡ r.count = kinds.0 in
      let below = item_within vs i u e in
      let within : nat_le (i + 1) r.count ≡ true = grind (arith, nat_tests, size, below) in
      let numbers : scalars_of_type items ≡ r.each = sized_is items r.each each in
      let there : IsInside names env (part_at q.seat items q.size) u (k + i * scalars_of_type items) = item_inside names env q r.count items vs k i u shape f e in
      let upto = there.within in
      let less = there.less in
      let small : k + i * scalars_of_type items < 2 ^ 32 = omega (arith, upto, less) in
      let num : is_num (pos (k + i * r.each)) ≡ true = small_num (k + i * r.each) (subst (λ x. k + i * x < 2 ^ 32) numbers small) in
      record {
        same = refl;
        offset = k + i * r.each;
        leaves = ap (λ b. if b then push_computed (arithmetic.whole (pos (k + i * r.each))) stack cells else Fails IndexRange) within
            ∙ ap (λ b. push_computed (if b then arithmetic.Gives (pos (k + i * r.each)) else arithmetic.Traps trap.Overflow) stack cells) num;
        inside = subst (λ x. IsInside names env p u (k + i * x)) numbers (subst (λ x. IsInside names env x u (k + i * scalars_of_type items)) item there);
      }

  row_number : (vs : Values) (z : ℤ) → IsInside names env q (Items vs) k → RowActs z (indexed (Items vs) (Num z) left)
  row_number vs (pos i) f = row_at vs i (value_at vs i) f refl
  row_number vs (negsuc i) f = refl

  row_acts : (v i : Value) (z : ℤ) → IsInside names env q v k → flat i ≡ z ∷ [] → RowActs z (indexed v i left)
  row_acts (Num y) i z f e = absurd (subst (λ t. HasKind (kind_of_type t) (Num y)) shape f.of_type)
  row_acts (Truth b) i z f e = absurd (subst (λ t. HasKind (kind_of_type t) (Truth b)) shape f.of_type)
  row_acts (Items vs) (Num y) z f e =
      let same : y ≡ z = same_number y z e in subst (λ x. RowActs x (indexed (Items vs) (Num y) left)) same (row_number vs y f)
  row_acts (Items vs) (Truth b) z f e = tt
  row_acts (Items vs) (Items us) z f e = tt

-- the item of the part on which an index is put
pub row_item : (names : List Name) (e place : Tree) (at : ℕ) (r : Rows) (p : Part) → (h : HasRows names e r) → part_named names (tree.index e place at) ≡ Some p → part_at h.part.seat h.items h.part.size ≡ p
row_item names e place at r p h g =
    let one : ◌≡◌ {A = Option Part} (Some (part_at h.part.seat h.items h.part.size)) (Some p) =
    sym (ap (λ (o : Option Part). elim o [ None ↦ None | Some q ↦ item_of q ]) h.is ∙ ap (λ t. item_in h.part.seat h.part.size t) h.shape) ∙ g
    in
    same one
  where
    same : ◌≡◌ {A = Option Part} (Some (part_at h.part.seat h.items h.part.size)) (Some p) → part_at h.part.seat h.items h.part.size ≡ p
    same one = cc

-- ---- chains

module _ (fs : List Function) (globals names : List Name) (w : World) (env : Env) (frames : List ℕ) (floor ceiling : ℕ) where
  -- evaluating and the code come to the same, from any operands, cells and turns
  abbrev pub DoesOffset : Tree → ℕ → ℕ → List Instr → ℕ → Type 0
  DoesOffset e base n code m = (p : Part) → part_named names e ≡ Some p
      → (stack cells : List ℤ) (left : ℕ) → StandsAt w.code.instrs base code → Below fs globals names w env frames floor ceiling n → Apart fs globals names w env frames floor ceiling → Held fs globals names w env frames floor ceiling cells
      → Follows (eval e w.calls env left) (AtOffset names w env p n m (state base stack frames cells left) (base + length code)) (CutsOff w n m (state base stack frames cells left))

  offset_end : (p : Part) (o : Out Value) (n m a b : ℕ) (s : State) → a ≡ b → Follows o (AtOffset names w env p n m s a) (CutsOff w n m s) → Follows o (AtOffset names w env p n m s b) (CutsOff w n m s)
  offset_end p o n m a b s e h = subst (λ x. Follows o (AtOffset names w env p n m s x) (CutsOff w n m s)) e h

  pub does_whole : (text : List ℕ) (at base n : ℕ) → DoesOffset (tree.variable text at) base n (op.Const (pos 0) ∷ []) n
  does_whole text at base n p g stack cells left stands below apart holds =
      let s : State = state base stack frames cells left in
      let f : IsWhole names text p = whole_found names text at p g in
      let h : HoldsName w.tokens cells env text f.x = holds.0 text f.x f.is in
      let size : scalars_of_type p.shape ≡ p.size = sized_is p.shape p.size (ap sized (sym f.shape) ∙ f.size) in
      subst (λ (o : Option Value). Follows (known o left) (AtOffset names w env p n n s (base + 1)) (CutsOff w n n s)) (sym h.meant) (record {
        offset = 0;
        cells = cells;
        reaches = after (obeys w.code w.tokens s (op.Const (pos 0)) stands.0) here;
        keeps = keeps_all n n w.low w.high cells;
        inside = record {
          text = text;
          x = f.x;
          is = f.is;
          seat = f.seat;
          whole = h.value;
          meant = h.meant;
          of_type = subst (λ t. HasKind (kind_of_type t) h.value) f.shape h.of_type;
          within = omega (arith, size);
          less = f.less;
          at = λ j z x. let e : j ≡ 0 + j = omega arith in subst (λ i. slice_get (flat h.value) i ≡ Some z) e x;
        };
      })

  row_after : (q p : Part) (r : Rows) (items : Shape) (n m base place : ℕ) (stack before cells : List ℤ) (left now k : ℕ) (v i : Value) (z : ℤ)
      → q.shape ≡ Many r.count items → sized items ≡ Some r.each → part_at q.seat items q.size ≡ p → IsInside names env q v k → flat i ≡ z ∷ []
      → slice_get w.code.instrs place ≡ Some (row_instr r)
      → Reaches w.code w.tokens (state base stack frames before left) (state place (z ∷ pos k ∷ stack) frames cells now) → Keeps n m w.low w.high before cells
      → Follows (indexed v i now) (AtOffset names w env p n m (state base stack frames before left) (place + 1)) (CutsOff w n m (state base stack frames before left))
  row_after q p r items n m base place stack before cells left now k v i z shape each item f e at reach keeps =
      let s : State = state place (z ∷ pos k ∷ stack) frames cells now in
      let steps : step w.code w.tokens s ≡ go_on s (effect w.tokens (row_instr r) (z ∷ pos k ∷ stack) cells) = obeys w.code w.tokens s (row_instr r) at in
      follows_more (indexed v i now) (RowLeft names env p (effect w.tokens (row_instr r) (z ∷ pos k ∷ stack) cells) stack cells now) (λ c. effect w.tokens (row_instr r) (z ∷ pos k ∷ stack) cells ≡ Fails c)
      (AtOffset names w env p n m (state base stack frames before left) (place + 1)) (CutsOff w n m (state base stack frames before left))
      (row_acts names env q p r items w.tokens stack cells now k shape each item v i z f e)
      (λ u h a. record {
        offset = a.offset;
        cells = cells;
        reaches = subst (λ x. Reaches w.code w.tokens (state base stack frames before left) (state (place + 1) (pos a.offset ∷ stack) frames cells x)) (sym a.same)
            (reaches_join reach (after (steps ∙ ap (go_on s) a.leaves) here));
        keeps = keeps;
        inside = a.inside;
      })
      (λ c g. record { cells = cells; ends = ends_join reach (stop (steps ∙ ap (go_on s) g)); keeps = keeps })

  pub does_row : (e place : Tree) (at base n k m : ℕ) (a b : List Instr) (r : Rows) → rows_named names e ≡ Some r → n ≤ k → k ≤ m
      → DoesOffset e base n a k → Does fs globals names w env frames floor ceiling place (base + length a) k b m → DoesOffset (tree.index e place at) base n (a ++ (b ++ row_instr r ∷ [])) m
  does_row e place at base n k m a b r g le ge first second p h stack cells left stands below apart holds =
      let i : Instr = row_instr r in
      let rest = stands_right w.code.instrs base a (b ++ i ∷ []) stands in
      let there : slice_get w.code.instrs (base + length a + length b) ≡ Some i = (stands_right w.code.instrs (base + length a) b (i ∷ []) rest).0 in
      let end : base + length a + length b + 1 ≡ base + length (a ++ (b ++ i ∷ [])) = omega (arith, length-append a (b ++ i ∷ []), length-append b (i ∷ [])) in
      let s : State = state base stack frames cells left in
      let rows : HasRows names e r = rows_found names e r g in
      follows_then (eval e w.calls env left) (λ v j. and_then (eval place w.calls env j) (λ u c. indexed v u c)) (AtOffset names w env rows.part n k s (base + length a)) (CutsOff w n k s) (AtOffset names w env p n m s (base + length (a ++ (b ++ i ∷ [])))) (CutsOff w n m s)
      (first rows.part rows.is stack cells left (stands_left w.code.instrs base a (b ++ i ∷ []) stands) below apart holds)
      (λ v j x. follows_then (eval place w.calls env j) (λ u c. indexed v u c) (Pushes w k m (state (base + length a) (pos x.offset ∷ stack) frames x.cells j) (base + length a + length b)) (CutsOff w k m (state (base + length a) (pos x.offset ∷ stack) frames x.cells j)) (AtOffset names w env p n m s (base + length (a ++ (b ++ i ∷ [])))) (CutsOff w n m s)
      (second (pos x.offset ∷ stack) x.cells j (stands_left w.code.instrs (base + length a) b (i ∷ []) rest) (below_on fs globals names w env frames floor ceiling n k le below) apart (still fs globals names w env frames floor ceiling x.keeps below apart holds))
      (λ u c y. offset_end p (indexed v u c) n m _ _ s end
      (row_after rows.part p r rows.items n m base (base + length a + length b) stack cells y.cells left c x.offset v u y.number rows.shape rows.each (row_item names e place at r p rows h) x.inside y.is there
      (reaches_join x.reaches y.reaches) (keeps_join (keeps_wider n m (omega arith) ge x.keeps) (keeps_wider n m le (omega arith) y.keeps))))
      (λ c t. cut_after w n k m s (state (base + length a) (pos x.offset ∷ stack) frames x.cells j) c le ge x.reaches x.keeps t))
      (λ c t. cut_wider w n k m s c ge t)

  -- the item at an offset
  deep_reads : (p : Part) (l : ItemList) (n m base place : ℕ) (stack before cells : List ℤ) (left now k : ℕ) (v : Value)
      → p.shape ≡ Single l.kind → p.seat ≡ l.seat → p.size ≡ l.size → IsInside names env p v k → Holds names w.tokens cells env
      → slice_get w.code.instrs place ≡ Some (item_instr l)
      → Reaches w.code w.tokens (state base stack frames before left) (state place (pos k ∷ stack) frames cells now) → Keeps n m w.low w.high before cells
      → Pushes w n m (state base stack frames before left) (place + 1) v now
  deep_reads p l n m base place stack before cells left now k v shape seat size f holds at reach keeps =
      let s : State = state place (pos k ∷ stack) frames cells now in
      let steps : step w.code w.tokens s ≡ go_on s (effect w.tokens (item_instr l) (pos k ∷ stack) cells) = obeys w.code w.tokens s (item_instr l) at ∙ reads_straight l.seat l.size w.code w.tokens s in
      let h : HoldsName w.tokens cells env f.text f.x = holds f.text f.x f.is in
      let same : h.value ≡ f.whole = same_value h.value f.whole (sym h.meant ∙ f.meant) in
      let stands : StandAt l.seat w.tokens cells (flat f.whole) = subst (λ x. StandAt x w.tokens cells (flat f.whole)) (f.seat ∙ seat) (subst (λ u. StandAt f.x.seat w.tokens cells (flat u)) same h.stands) in
      let one = single_flat (Single l.kind) v tt (subst (λ t. HasKind (kind_of_type t) v) shape f.of_type) in
      let first : slice_get (flat v) 0 ≡ Some one.0 = ap (λ zs. slice_get zs 0) one.1 in
      let there : slice_get (flat f.whole) k ≡ Some one.0 = let e : k + 0 ≡ k = omega arith in subst (λ x. slice_get (flat f.whole) x ≡ Some one.0) e (f.at 0 one.0 first) in
      let count : scalars_of_type p.shape ≡ 1 = ap scalars_of_type shape in
      let within = f.within in
      record {
        number = one.0;
        is = one.1;
        cells = cells;
        reaches = reaches_join reach (after (steps ∙ ap (go_on s) (reads_inside l.seat l.size k w.tokens stack cells (flat f.whole) one.0 (omega (arith, within, count, size)) stands there)) here);
        keeps = keeps;
      }
    where
      same_value : (v u : Value) → ◌≡◌ {A = Option Value} (Some v) (Some u) → v ≡ u
      same_value v u e = cc

  pub does_deep : (e : Tree) (base n m : ℕ) (code : List Instr) (l : ItemList) → deep_named names e ≡ Some l → DoesOffset e base n code m → Does fs globals names w env frames floor ceiling e base n (code ++ item_instr l ∷ []) m
  does_deep e base n m code l g does stack cells left stands below apart holds =
      let i : Instr = item_instr l in
      let s : State = state base stack frames cells left in
      let there : slice_get w.code.instrs (base + length code) ≡ Some i = (stands_right w.code.instrs base code (i ∷ []) stands).0 in
      let end : base + length code + 1 ≡ base + length (code ++ i ∷ []) = omega (arith, length-append code (i ∷ [])) in
      let d : IsDeep names e l = deep_found names e l g in
      follows_more (eval e w.calls env left) (AtOffset names w env d.part n m s (base + length code)) (CutsOff w n m s) (Pushes w n m s (base + length (code ++ i ∷ []))) (CutsOff w n m s)
      (does d.part d.is stack cells left (stands_left w.code.instrs base code (i ∷ []) stands) below apart holds)
      (λ v k x. subst (λ y. Pushes w n m s y v k) end
      (deep_reads d.part l n m base (base + length code) stack cells x.cells left k x.offset v d.shape d.seat d.size x.inside (holds_still names w.tokens env x.keeps below.0 apart.0 holds.0) there x.reaches x.keeps))
      (λ c t. t)
