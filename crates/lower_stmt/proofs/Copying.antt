-- The code that stores a list whole does what executing the assignment does.
use Rattle.std.proofs.Common.{◌≡◌, ℕ, zero, suc, ◌+◌, ◌*◌, ◌<◌, ◌≤◌, ◌⊎◌, inl, inr, ⊎_elim, ℤ, pos, List, [], ◌∷◌, ◌++◌, length, Bool, true, false, refl, sym, ap, ◌∙◌, subst, Option, Some, arith, length-append}
use Rattle.std.specs.Prelude.{get_or, slice_get}
use Rattle.std.specs.Str.{bytes_eq}
use Rattle.std.proofs.lemmas.Option.{slice_get_within, slice_get-get_or}
use Rattle.std.proofs.lemmas.Slice.Eq.{bytes_eq-Decides}
use Rattle.rvc_base.specs.declared.scalar.Scalar.{Scalar}
use Rattle.rvc_base.specs.Storing.{conv, IsSize}
use Rattle.cal_ast.specs.Tree as tree
use Rattle.cal_ast.specs.Tree.{Tree}
use Rattle.cal_model.specs.Value.{Single, Many, Value, Items, Values, Nil, Cons, count, stored, stored_each, HasKind, HaveKind, IsType, kind_of_scalar, kind_of_type, scalars_of_type}
use Rattle.cal_model.specs.Outcome.{Out, and_then}
use Rattle.cal_model.specs.Env.{Env, assign}
use Rattle.cal_model.specs.Expression.{eval}
use Rattle.cal_model.specs.Statement.{Runs, exec}
use Rattle.code_ir.specs.declared.instr.Instr.TheVariants as op
use Rattle.code_ir.specs.Effect.{copied}
use Rattle.code_ir.specs.Running.{State, Reaches, go_on, here, after}
use Rattle.lower_base.specs.declared.names.ItemList.{ItemList}
use Rattle.lower_base.specs.declared.names.Seat.{Seat}
use Rattle.lower_base.specs.declared.names.Seat.TheVariants.{Cell, Tokens}
use Rattle.lower_stmt.specs.Changing.{NamesApart, SeatsApart}
use Rattle.lower_base.specs.Flat.{flat, flat_all}
use Rattle.lower_base.specs.Following.{Follows}
use Rattle.lower_base.specs.Held.{HoldsName, SeatIsBelow, StandAt}
use Rattle.lower_base.specs.Listed.{list_named}
use Rattle.lower_base.specs.Names.{Name, named}
use Rattle.lower_base.specs.Placed.{StandsAt, World, state}
use Rattle.expr_lower.proofs.Leaves.{single_number}
use Rattle.expr_lower.proofs.Moving.{AreTaken, copied_are, copy_leaves, range_there, take_leaves, taken_are}
use Rattle.lower_stmt.specs.Stating.{copy_code}
use Rattle.lower_base.proofs.Keeping.{flat_length, scalars_same}
use Rattle.lower_base.proofs.Listing.{IsList, IsListName, first_of_two, found, named_list}
use Rattle.lower_stmt.proofs.Performing.{Moves, Performs, but_written}
use Rattle.lower_base.proofs.Runs.{follows_more, obeys}
use Rattle.lower_stmt.proofs.Scoping.{AreLaid, Assigned, HoldsInside, PutsAt, assigns, choose_name, laid_below, laid_typed, names_held}
use Rattle.lower_base.proofs.Written.{Written}
use Rattle.lower_base.proofs.Singles.{IsSingleValue, kind_single}
use Rattle.lower_base.proofs.Storing.{single_stored}
use Rattle.lower_stmt.specs.Procedures.{Routines}
use Rattle.lower_base.specs.Calling.{Serves}
use Rattle.lower_stmt.specs.Bodies.{CutShort, SeatLies}

-- ---- what is stored

-- each is a single value
abbrev pub AllSingle : Values → Type 0
AllSingle Nil = Unit {0}
AllSingle (Cons v vs) = IsSingleValue v × AllSingle vs

all_single : (k : Scalar) (vs : Values) → HaveKind (kind_of_scalar k) vs → AllSingle vs
all_single k Nil h = tt
all_single k (Cons v vs) h = (kind_single k v h.0, all_single k vs h.1)

-- the items that are stored, each in a type
record AreStoredIn (t : Scalar) (vs ws : Values) : Type 0 where
  as_many : count ws ≡ count vs
  kinds : HaveKind (kind_of_scalar t) ws
  numbers : (j : ℕ) (z : ℤ) → slice_get (flat_all ws) j ≡ Some z → (y : ℤ) × (slice_get (flat_all vs) j ≡ Some y) × (z ≡ conv t y)

each_stored : (t : Scalar) (vs : Values) → IsSize t → AllSingle vs → AreStoredIn t vs (stored_each (Single t) vs)
each_stored t Nil size h = record { as_many = refl; kinds = tt; numbers = λ j z e. cc }
each_stored t (Cons v vs) size h =
    let one = single_number v h.0 in
    let made = single_stored t v one.0 size h.0 one.1 in
    let rest : AreStoredIn t vs (stored_each (Single t) vs) = each_stored t vs size h.1 in
    record { as_many = ap suc rest.as_many; kinds = (made.0, rest.kinds); numbers = λ j z e. at_place one.0 one.1 made.1 rest j z e }
  where
    at_place : (y : ℤ) → flat v ≡ y ∷ [] → flat (stored (Single t) v) ≡ conv t y ∷ [] → AreStoredIn t vs (stored_each (Single t) vs) → (j : ℕ) (z : ℤ) → slice_get (flat (stored (Single t) v) ++ flat_all (stored_each (Single t) vs)) j ≡ Some z
        → (x : ℤ) × (slice_get (flat v ++ flat_all vs) j ≡ Some x) × (z ≡ conv t x)
    at_place y is made rest zero z e =
        let now = (first_of_two (flat (stored (Single t) v)) (flat_all (stored_each (Single t) vs)) (conv t y) 0 made).0 in
        let same : ◌≡◌ {A = Option ℤ} (Some z) (Some (conv t y)) = sym e ∙ now in
        (y, (first_of_two (flat v) (flat_all vs) y 0 is).0, cc)
    at_place y is made rest (suc j) z e =
        let later = rest.numbers j z (sym (first_of_two (flat (stored (Single t) v)) (flat_all (stored_each (Single t) vs)) (conv t y) j made).1 ∙ e) in
        (later.0, (first_of_two (flat v) (flat_all vs) y j is).1 ∙ later.1, later.2)

-- as many numbers as items
pub list_length : (vs : Values) → AllSingle vs → length (flat_all vs) ≡ count vs
list_length Nil h = refl
list_length (Cons v vs) h =
    let one = single_number v h.0 in
    let first : length (flat v) ≡ 1 = ap length one.1 in
    let rest = list_length vs h.1 in
    omega (arith, length-append (flat v) (flat_all vs), first, rest)

in_list : (vs : Values) (size j : ℕ) (y : ℤ) → AllSingle vs → count vs ≡ size → slice_get (flat_all vs) j ≡ Some y → j < size
in_list vs size j y singles many e =
    let within = slice_get_within (flat_all vs) j y e in
    let all = list_length vs singles in
    omega (arith, within, all, many)

-- a list is put whole where its numbers stand
list_stands : (t : Scalar) (c : ℕ) (vs : Values) (tokens : ℕ → List ℤ) (cells : List ℤ) → IsSize t → AllSingle vs → ((j : ℕ) (y : ℤ) → slice_get (flat_all vs) j ≡ Some y → slice_get cells (c + j) ≡ Some (conv t y))
    → HasKind (kind_of_type (Many (count vs) (Single t))) (stored (Many (count vs) (Single t)) (Items vs)) × StandAt (Cell c) tokens cells (flat (stored (Many (count vs) (Single t)) (Items vs)))
list_stands t c vs tokens cells size kinds laid =
    let all : AreStoredIn t vs (stored_each (Single t) vs) = each_stored t vs size kinds in (
      (all.as_many, all.kinds),
      λ j z e. let old = all.numbers j z e in laid j old.0 old.1 ∙ ap Some (sym old.2),
    )

-- ---- names that share no cell

-- what is laid side by side shares no cell
module _ (rs : Routines) (outer : List Name) (tokens : ℕ → List ℤ) (low high : ℕ) where
  -- what lies from a cell on shares no cell with what lies below it
  seats_apart : (s other : Seat) (c n size many : ℕ) → SeatLies c n size s → SeatIsBelow c many other → SeatsApart s size other many × SeatsApart other many s size
  seats_apart (Cell d) (Cell e) c n size many lies below = let from = lies.0 in (inl (omega (arith, below, from)), inr (omega (arith, below, from)))
  seats_apart (Cell d) (Tokens port first step) c n size many lies below = (tt, tt)
  seats_apart (Tokens port first step) (Cell e) c n size many lies below = (tt, tt)
  seats_apart (Tokens port first step) (Tokens p f q) c n size many lies below = (tt, tt)

  both_first : (x : Name) (text other : List ℕ) → bytes_eq text other ≡ false → bytes_eq x.text text ≡ true → bytes_eq x.text other ≡ true → ⊥
  both_first x text other differ e f =
      let one : x.text ≡ text = (bytes_eq-Decides x.text text).0 e in
      let two : bytes_eq text other ≡ true = ap (λ t. bytes_eq t other) (sym one) ∙ f in
      let both : true ≡ false = sym two ∙ differ in cc

  pub laid_distinct : (n : ℕ) (inner : List Name) → AreLaid rs outer tokens low high n inner → NamesApart (inner ++ outer)
  laid_distinct n [] h text other a b e f differ = h.1 text other a b e f differ
  laid_distinct n (x ∷ inner) (c, at, le, typed, apart, rest) text other a b e f differ =
      ⊎_elim (λ (p : (bytes_eq x.text text ≡ true) × (x ≡ a)).
      ⊎_elim (λ (q : (bytes_eq x.text other ≡ true) × (x ≡ b)). absurd (both_first x text other differ p.0 q.0))
      (λ (q : (bytes_eq x.text other ≡ false) × (named other (inner ++ outer) ≡ Some b)).
      subst (λ (z : Name). SeatsApart z.seat (scalars_of_type z.shape) b.seat (scalars_of_type b.shape)) p.1
      (seats_apart x.seat b.seat c n (scalars_of_type x.shape) (scalars_of_type b.shape) at (laid_below rs outer tokens low high c inner rest other b q.1)).0)
      (choose_name (bytes_eq x.text other) x (named other (inner ++ outer)) b f))
      (λ (p : (bytes_eq x.text text ≡ false) × (named text (inner ++ outer) ≡ Some a)).
      ⊎_elim (λ (q : (bytes_eq x.text other ≡ true) × (x ≡ b)).
      subst (λ (z : Name). SeatsApart a.seat (scalars_of_type a.shape) z.seat (scalars_of_type z.shape)) q.1
      (seats_apart x.seat a.seat c n (scalars_of_type x.shape) (scalars_of_type a.shape) at (laid_below rs outer tokens low high c inner rest text a p.1)).1)
      (λ (q : (bytes_eq x.text other ≡ false) × (named other (inner ++ outer) ≡ Some b)). laid_distinct c inner rest text other a b p.1 q.1 differ)
      (choose_name (bytes_eq x.text other) x (named other (inner ++ outer)) b f))
      (choose_name (bytes_eq x.text text) x (named text (inner ++ outer)) a e)

-- ---- the assignment

module _ (rs : Routines) (outer : List Name) (w : World) (serves : Serves w outer rs.functions) (frames : List ℕ) (runs : Runs) where
  abbrev Inside : List Name → List ℤ → Env → Type 0
  Inside inner cells env = HoldsInside rs outer w.tokens w.low w.high inner cells env

  -- a run that writes what is assigned in the cells of the name
  pub stores_run : (inner : List Name) (n base end c : ℕ) (text : List ℕ) (x : Name) (stack cells written : List ℤ) (v : Value) (env : Env) (left : ℕ)
      → Reaches w.code w.tokens (state base stack frames cells left) (state end stack frames written left)
      → AreLaid rs outer w.tokens w.low w.high n inner → named text (inner ++ outer) ≡ Some x → x.seat ≡ Cell c → Written c (scalars_of_type x.shape) cells written
      → PutsAt rs outer w.tokens w.low w.high (Unit {0}) x cells written Nil v left (λ t. ⊥) → Inside inner cells env
      → Follows (assign env text Nil v left) (Moves rs outer w serves frames inner n n (state base stack frames cells left) end (length env.locals)) (CutShort w (inner ++ outer) outer n n (state base stack frames cells left))
  stores_run inner n base end c text x stack cells written v env left r laid e seat wrote puts holds =
      let s : State = state base stack frames cells left in
      let names : List Name = inner ++ outer in
      follows_more (assign env text Nil v left) (Assigned rs outer w.tokens w.low w.high (Unit {0}) inner written env left) (λ t. ⊥) (Moves rs outer w serves frames inner n n s end (length env.locals)) (CutShort w names outer n n s)
      (assigns rs outer w.tokens w.low w.high (Unit {0}) n inner cells written env text x c Nil v left (λ t. ⊥) laid e seat wrote puts holds)
      (λ next j p. record {
        cells = written;
        reaches = subst (λ h. Reaches w.code w.tokens s (state end stack frames written h)) (sym p.0) r;
        keeps = but_written names text x c n n w.low w.high cells written e seat wrote;
        holds = p.1;
        as_many = p.2;
      })
      (λ t b. absurd b)

  -- the cells in which a list is stored, by the code that stores it
  pub record Stores (base c size : ℕ) (t : Scalar) (seat : Seat) (vs : Values) (stack cells : List ℤ) (left : ℕ) : Type 0 where
    pub written : List ℤ
    pub reaches : Reaches w.code w.tokens (state base stack frames cells left) (state (base + length (copy_code c size t seat)) stack frames written left)
    pub same_size : length written ≡ length cells
    pub others : (d : ℕ) → (d < c) ⊎ (c + size ≤ d) → slice_get written d ≡ slice_get cells d
    pub laid : (j : ℕ) (y : ℤ) → slice_get (flat_all vs) j ≡ Some y → slice_get written (c + j) ≡ Some (conv t y)

  pub copies : (base c size s : ℕ) (t : Scalar) (vs : Values) (stack cells : List ℤ) (left : ℕ) → 1 ≤ size → (s + size ≤ c) ⊎ ((c ≡ s) ⊎ (c + size ≤ s)) → c + size ≤ length cells → count vs ≡ size → AllSingle vs → StandAt (Cell s) w.tokens cells (flat_all vs)
      → StandsAt w.code.instrs base (copy_code c size t (Cell s)) → Stores base c size t (Cell s) vs stack cells left
  copies base c size s t vs stack cells left some far room many kinds stands code =
      let a : State = state base stack frames cells left in
      let all = list_length vs kinds in
      let from = range_there s w.tokens cells (flat_all vs) (omega (arith, all, many, some)) stands in
      let away : (s + size ≤ c) ⊎ (c ≤ s) = ⊎_elim (λ (p : s + size ≤ c). inl p) (λ (p : (c ≡ s) ⊎ (c + size ≤ s)). inr (⊎_elim (λ (q : c ≡ s). omega (arith, q)) (λ (q : c + size ≤ s). omega (arith, q)) p)) far in
      let moved = copied_are (Some t) c s size cells away room in
      record {
        written = copied (Some t) c s size cells;
        reaches = after (obeys w.code w.tokens a (op.Copy c s size (Some t)) code.0 ∙ ap (go_on a) (copy_leaves (Some t) c s size w.tokens stack cells room (omega (arith, from, all, many)))) here;
        same_size = moved.same_size;
        others = moved.others;
        laid = λ j y e. moved.there j y (in_list vs size j y kinds many e) (stands j y e);
      }

  takes : (base c size port first step : ℕ) (t : Scalar) (vs : Values) (stack cells : List ℤ) (left : ℕ) → c + size ≤ length cells → count vs ≡ size → AllSingle vs → StandAt (Tokens port first step) w.tokens cells (flat_all vs)
      → StandsAt w.code.instrs base (copy_code c size t (Tokens port first step)) → Stores base c size t (Tokens port first step) vs stack cells left
  takes base c size port first step t vs stack cells left room many kinds stands code =
      let a : State = state base stack frames cells left in
      let all = list_length vs kinds in
      let there : AreTaken (w.tokens port) c first step size cells = taken_are (w.tokens port) c first step size cells (λ j small. token j (omega (arith, small, all, many))) room in
      let b : State = state (base + 1) stack frames there.now left in
      let wide : c + size ≤ length there.now = let same = there.moved.same_size in omega (arith, same, room) in
      let moved = copied_are (Some t) c c size there.now (inr (omega arith)) wide in
      let end : base + 1 + 1 ≡ base + 2 = omega arith in
      record {
        written = copied (Some t) c c size there.now;
        reaches = subst (λ p. Reaches w.code w.tokens a (state p stack frames (copied (Some t) c c size there.now) left)) end
            (after (obeys w.code w.tokens a (op.TokenList c port first step size) code.0 ∙ ap (go_on a) (take_leaves c port first step size w.tokens stack cells room there))
            (after (obeys w.code w.tokens b (op.Copy c c size (Some t)) code.1.0 ∙ ap (go_on b) (copy_leaves (Some t) c c size w.tokens stack there.now wide wide)) here));
        same_size = moved.same_size ∙ there.moved.same_size;
        others = λ d away. moved.others d away ∙ there.moved.others d away;
        laid = λ j y e. let small = in_list vs size j y kinds many e in moved.there j y small (there.moved.there j y small (stands j y e));
      }
    where
      token : (j : ℕ) → j < length (flat_all vs) → (z : ℤ) × (slice_get (w.tokens port) (first + j * step) ≡ Some z)
      token j small = (get_or (flat_all vs) j (pos 0), stands j (get_or (flat_all vs) j (pos 0)) (slice_get-get_or (flat_all vs) j (pos 0) small))

  -- another list stands elsewhere, or it is the same one
  elsewhere : (inner : List Name) (n c s size : ℕ) (text : List ℕ) (value : Tree) (x : Name) (t : Scalar) (l : ItemList) → AreLaid rs outer w.tokens w.low w.high n inner → named text (inner ++ outer) ≡ Some x → x.seat ≡ Cell c → x.shape ≡ Many size (Single t)
      → list_named (inner ++ outer) value ≡ Some l → l.size ≡ size → l.seat ≡ Cell s → (s + size ≤ c) ⊎ ((c ≡ s) ⊎ (c + size ≤ s))
  elsewhere inner n c s size text value x t l laid e seat shape g many at = go (bytes_eq text f.text) refl
    where
      f : IsListName (inner ++ outer) value l
      f = found (inner ++ outer) value l g

      same_name : (a b : Name) → ◌≡◌ {A = Option Name} (Some a) (Some b) → a ≡ b
      same_name a b h = cc

      same_cell : (a b : ℕ) → Cell a ≡ Cell b → a ≡ b
      same_cell a b h = cc

      mine : scalars_of_type x.shape ≡ size * 1
      mine = ap scalars_of_type shape

      other : scalars_of_type f.x.shape ≡ size * 1
      other = ap scalars_of_type f.shape ∙ ap (λ k. k * 1) many

      go : (b : Bool) → bytes_eq text f.text ≡ b → (s + size ≤ c) ⊎ ((c ≡ s) ⊎ (c + size ≤ s))
      go true h =
          let text_same : text ≡ f.text = (bytes_eq-Decides text f.text).0 h in
          let one : x ≡ f.x = same_name x f.x (sym e ∙ ap (λ u. named u (inner ++ outer)) text_same ∙ f.is) in
          inr (inl (same_cell c s (sym seat ∙ ap (λ (y : Name). y.seat) one ∙ f.seat ∙ at)))
      go false h =
          let apart : SeatsApart x.seat (scalars_of_type x.shape) f.x.seat (scalars_of_type f.x.shape) = laid_distinct rs outer w.tokens w.low w.high n inner laid text f.text x f.x e f.is h in
          let cells : SeatsApart (Cell c) (scalars_of_type x.shape) (Cell s) (scalars_of_type f.x.shape) =
          subst (λ z. SeatsApart (Cell c) (scalars_of_type x.shape) z (scalars_of_type f.x.shape)) (f.seat ∙ at) (subst (λ z. SeatsApart z (scalars_of_type x.shape) f.x.seat (scalars_of_type f.x.shape)) seat apart)
          in
          ⊎_elim (λ (a : s + scalars_of_type f.x.shape ≤ c). inl (omega (arith, a, other))) (λ (a : c + scalars_of_type x.shape ≤ s). inr (inr (omega (arith, a, mine)))) cells

  stores_at : (inner : List Name) (base n c size : ℕ) (text : List ℕ) (value : Tree) (x : Name) (t : Scalar) (l : ItemList) (seat : Seat) (vs : Values) (stack cells : List ℤ) (left : ℕ) → l.seat ≡ seat → AreLaid rs outer w.tokens w.low w.high n inner
      → named text (inner ++ outer) ≡ Some x → x.seat ≡ Cell c → x.shape ≡ Many size (Single t) → list_named (inner ++ outer) value ≡ Some l → l.size ≡ size
      → 1 ≤ size → c + size ≤ length cells → count vs ≡ size → AllSingle vs → StandAt seat w.tokens cells (flat_all vs)
      → StandsAt w.code.instrs base (copy_code c size t seat) → Stores base c size t seat vs stack cells left
  stores_at inner base n c size text value x t l (Cell s) vs stack cells left at laid e seat shape g many some room as_many kinds stands code =
      copies base c size s t vs stack cells left some (elsewhere inner n c s size text value x t l laid e seat shape g many at) room as_many kinds stands code
  stores_at inner base n c size text value x t l (Tokens port first step) vs stack cells left at laid e seat shape g many some room as_many kinds stands code =
      takes base c size port first step t vs stack cells left room as_many kinds stands code

  -- what is put is the list whose numbers stand in the cells
  pub puts_list : (x : Name) (t : Scalar) (c size left : ℕ) (cells written : List ℤ) (vs : Values) → x.shape ≡ Many size (Single t) → x.seat ≡ Cell c → IsSize t → count vs ≡ size → AllSingle vs
      → ((j : ℕ) (y : ℤ) → slice_get (flat_all vs) j ≡ Some y → slice_get written (c + j) ≡ Some (conv t y))
      → PutsAt rs outer w.tokens w.low w.high (Unit {0}) x cells written Nil (Items vs) left (λ d. ⊥)
  puts_list x t c size left cells written vs shape seat sized as_many singles is_laid u kind stand =
      let one = list_stands t c vs w.tokens written sized singles is_laid in
      let shaped : Many (count vs) (Single t) ≡ x.shape = ap (λ k. Many k (Single t)) as_many ∙ sym shape in
      let kept = subst (λ r. HasKind (kind_of_type r) (stored r (Items vs)) × StandAt (Cell c) w.tokens written (flat (stored r (Items vs)))) shaped one in
      (refl, ((kept.0, subst (λ z. StandAt z w.tokens written (flat (stored x.shape (Items vs)))) (sym seat) kept.1), tt))

  pub set_list_performs : (inner : List Name) (text : List ℕ) (value : Tree) (place at base n c size : ℕ) (x : Name) (t : Scalar) (l : ItemList)
      → named text (inner ++ outer) ≡ Some x → x.seat ≡ Cell c → x.shape ≡ Many size (Single t) → list_named (inner ++ outer) value ≡ Some l → l.size ≡ size
      → Performs rs outer w serves frames inner (λ env left. exec (tree.assign (tree.ident text place) tree.nil value at) w.calls runs env left) base n (copy_code c size t l.seat) n
  set_list_performs inner text value place at base n c size x t l e seat shape g many stack cells env left stands laid apart room holds =
      let names : List Name = inner ++ outer in
      let s : State = state base stack frames cells left in
      let end : ℕ = base + length (copy_code c size t l.seat) in
      let held = names_held rs outer w.tokens w.low w.high inner cells env holds in
      let list : IsList w.tokens cells (eval value w.calls env left) left l = named_list names w.tokens cells env value l w.calls left g held in
      let mine : HoldsName w.tokens cells env text x = held text x e in
      let typed : IsType (Many size (Single t)) = subst IsType shape (laid_typed rs outer w.tokens w.low w.high n inner laid text x e) in
      let wide : length (flat mine.value) ≡ size * 1 = flat_length (kind_of_type x.shape) mine.value mine.of_type ∙ scalars_same x.shape ∙ ap scalars_of_type shape in
      let some : 1 ≤ size = typed.0 in
      let there = range_there c w.tokens cells (flat mine.value) (omega (arith, wide, some)) (subst (λ z. StandAt z w.tokens cells (flat mine.value)) seat mine.stands) in
      let as_many : count list.values ≡ size = list.size ∙ many in
      let singles : AllSingle list.values = all_single l.kind list.values list.kinds in
      let done : Stores base c size t l.seat list.values stack cells left =
      stores_at inner base n c size text value x t l l.seat list.values stack cells left refl laid e seat shape g many some (omega (arith, there, wide)) as_many singles list.stands stands
      in
      let all : scalars_of_type x.shape ≡ size = let one : scalars_of_type x.shape ≡ size * 1 = ap scalars_of_type shape in omega (arith, one) in
      let wrote : Written c (scalars_of_type x.shape) cells done.written = subst (λ k. Written c k cells done.written) (sym all) (record { length_same = done.same_size; cell = done.others }) in
      subst (λ (o : Out Value). Follows (and_then o (λ v k. assign env text Nil v k)) (Moves rs outer w serves frames inner n n s end (length env.locals)) (CutShort w names outer n n s)) (sym list.gives)
      (stores_run inner n base end c text x stack cells done.written (Items list.values) env left done.reaches laid e seat wrote
      (puts_list x t c size left cells done.written list.values shape seat typed.2 as_many singles done.laid) holds)
