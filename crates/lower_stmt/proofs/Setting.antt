-- The code of an assignment does what executing it does.
use Rattle.std.proofs.Common.{◌≡◌, ◌≢◌, ℕ, ◌+◌, ◌*◌, ◌<◌, ◌≤◌, ◌⊎◌, inl, inr, ⊎_elim, ℤ, pos, negsuc, List, [], ◌∷◌, ◌++◌, length, refl, sym, ap, ◌∙◌, subst, Option, None, Some, arith, length-append}
use Rattle.std.specs.Prelude.{slice_get, slice_set}
use Rattle.std.proofs.lemmas.Bool.{cases_lt}
use Rattle.rvc_base.specs.declared.scalar.Scalar.{Scalar}
use Rattle.rvc_base.specs.declared.trap.Trap.{Trap}
use Rattle.rvc_base.specs.declared.trap.Trap.TheVariants.{IndexRange}
use Rattle.rvc_base.specs.Storing.{conv, IsSize}
use Rattle.cal_ast.specs.Tree as tree
use Rattle.cal_ast.specs.Tree.{Tree}
use Rattle.cal_model.specs.Value.{Shape, Single, Many, Value, Num, Truth, Items, Values, Nil, Cons, count, value_at, stored, HasKind, HaveKind, IsType, kind_of_scalar, kind_of_type, scalars_of_type}
use Rattle.cal_model.specs.Outcome.{Gives, Traps, and_then}
use Rattle.cal_model.specs.Env.{Env, put, with_item, assign}
use Rattle.cal_model.specs.Expression.{eval, eval_all}
use Rattle.cal_model.specs.Statement.{Runs, exec}
use Rattle.code_ir.specs.declared.instr.Instr.{Instr}
use Rattle.code_ir.specs.declared.instr.Instr.TheVariants as op
use Rattle.code_ir.specs.Effect.{Leaves, Fails, effect}
use Rattle.code_ir.specs.Running.{State, Reaches, here, after, stop, step, go_on}
use Rattle.lower_base.specs.declared.names.Seat.TheVariants.{Cell}
use Rattle.lower_base.specs.Flat.{flat, flat_all}
use Rattle.lower_base.specs.Names.{Name, named}
use Rattle.lower_base.specs.Held.{StandAt, HoldsName, Keeps}
use Rattle.lower_base.specs.Coding.{IsCode}
use Rattle.lower_base.specs.Placed.{World, state}
use Rattle.lower_base.specs.Following.{Follows, Pushes, CutsOff}
use Rattle.lower_base.proofs.Effects.{same_number}
use Rattle.lower_base.proofs.Keeping.{keeps_wider, keeps_join}
use Rattle.lower_base.proofs.Listing.{single_flat, item_flat, item_within, item_past}
use Rattle.lower_base.proofs.Runs.{reaches_join, ends_join, obeys, follows_then, follows_more, follows_both, stands_left, stands_right}
use Rattle.lower_base.proofs.Singles.{IsSingleValue}
use Rattle.lower_base.proofs.Storing.{single_stored, set_written, set_there, store_leaves, store_item_leaves, store_item_past, item_changed, item_count, item_kinds}
use Rattle.lower_base.proofs.Written.{Written, stand_one}
use Rattle.lower_stmt.proofs.Scoping.{AreLaid, HoldsInside, NewAt, Assigned, PutsAt, laid_typed, laid_more, names_held, inside_still, assigns}
use Rattle.code_ir.proofs.Marks.{get-other}
use Rattle.lower_base.proofs.Coded.{grows}
use Rattle.lower_stmt.proofs.Evaluating.{does_there, may, singles_there}
use Rattle.lower_stmt.proofs.Performing.{Moves, Performs, cut_breaks, breaks_after, but_written, but_wider, but_join, keeps_but}
use Rattle.lower_stmt.specs.Procedures.{Routines}
use Rattle.lower_base.specs.Calling.{Serves}
use Rattle.lower_stmt.specs.Bodies.{CutShort}

at_first : (c : ℕ) (cells : List ℤ) (y : ℤ) (o : Option ℤ) → slice_get cells (c + 0) ≡ o → slice_get cells c ≡ o
at_first c cells y o e = let same : c + 0 ≡ c = omega arith in subst (λ d. slice_get cells d ≡ o) same e

shape_size : (s t : Shape) → s ≡ t → IsType s → IsType t
shape_size s t e h = subst IsType e h

module _ (rs : Routines) (outer : List Name) (w : World) (serves : Serves w outer rs.functions) (frames : List ℕ) (runs : Runs) where
  abbrev Inside : List Name → List ℤ → Env → Type 0
  Inside inner cells env = HoldsInside rs outer w.tokens w.low w.high inner cells env

  abbrev Laid : ℕ → List Name → Type 0
  Laid n inner = AreLaid rs outer w.tokens w.low w.high n inner

  -- the last instruction of an assignment stores what is on the stack in cells of the name
  pub stores : (inner : List Name) (n m base place end c : ℕ) (text : List ℕ) (x : Name) (top stack before cells written : List ℤ) (places : Values) (v : Value) (env : Env) (left k : ℕ) (i : Instr)
      → ((s : State) → step w.code w.tokens (state place top frames cells k) ≡ go_on (state place top frames cells k) (Leaves stack written))
      → end ≡ place + 1 → n ≤ m → Laid n inner → named text (inner ++ outer) ≡ Some x → x.seat ≡ Cell c → Written c (scalars_of_type x.shape) cells written
      → PutsAt rs outer w.tokens w.low w.high (Unit {0}) x cells written places v k (λ t. ⊥)
      → Reaches w.code w.tokens (state base stack frames before left) (state place top frames cells k) → Keeps n m w.low w.high before cells
      → Inside inner before env
      → Follows (assign env text places v k) (Moves rs outer w serves frames inner n m (state base stack frames before left) end (length env.locals)) (CutShort w (inner ++ outer) outer n m (state base stack frames before left))
  stores inner n m base place end c text x top stack before cells written places v env left k i steps end_is le laid e seat wrote puts r keeps holds =
      let s : State = state base stack frames before left in
      let names : List Name = inner ++ outer in
      follows_more (assign env text places v k) (Assigned rs outer w.tokens w.low w.high (Unit {0}) inner written env k) (λ t. ⊥) (Moves rs outer w serves frames inner n m s end (length env.locals)) (CutShort w names outer n m s)
      (assigns rs outer w.tokens w.low w.high (Unit {0}) n inner cells written env text x c places v k (λ t. ⊥) laid e seat wrote puts (inside_still rs outer w.tokens w.low w.high n m inner before cells env laid keeps holds))
      (λ next j p. record {
        cells = written;
        reaches = subst (λ q. Reaches w.code w.tokens s (state q stack frames written j)) (sym end_is)
            (subst (λ h. Reaches w.code w.tokens s (state (place + 1) stack frames written h)) (sym p.0) (reaches_join r (after (steps s) here)));
        keeps = but_join (keeps_but names keeps) (but_written names text x c n m w.low w.high cells written e seat wrote);
        holds = p.1;
        as_many = p.2;
      })
      (λ t b. absurd b)

  -- ---- single variables

  single_put : (x : Name) (t : Scalar) (c k : ℕ) (cells : List ℤ) (v : Value) (z y : ℤ) → x.shape ≡ Single t → x.seat ≡ Cell c → IsSize t → IsSingleValue v → flat v ≡ z ∷ [] → slice_get cells c ≡ Some y
      → PutsAt rs outer w.tokens w.low w.high (Unit {0}) x cells (slice_set cells c (conv t z)) Nil v k (λ d. ⊥)
  single_put x t c k cells v z y shape seat size one is there u kind stand =
      let made = single_stored t v z size one is in (
        refl,
        (
          (
            subst (λ s. HasKind (kind_of_type s) (stored s v)) (sym shape) made.0,
            subst (λ s. StandAt x.seat w.tokens (slice_set cells c (conv t z)) (flat (stored s v))) (sym shape)
                (subst (λ s. StandAt s w.tokens (slice_set cells c (conv t z)) (flat (stored (Single t) v))) (sym seat)
                (stand_one c w.tokens (slice_set cells c (conv t z)) (flat (stored (Single t) v)) (conv t z) made.1 (set_there cells c y (conv t z) there))),
          ),
          tt,
        ),
      )

  -- the cell of a single variable is there
  single_there : (inner : List Name) (cells : List ℤ) (env : Env) (text : List ℕ) (x : Name) (t : Scalar) (c : ℕ) → Inside inner cells env → named text (inner ++ outer) ≡ Some x → x.seat ≡ Cell c → x.shape ≡ Single t
      → (y : ℤ) × (slice_get cells c ≡ Some y)
  single_there inner cells env text x t c holds e seat shape =
      let h : HoldsName w.tokens cells env text x = names_held rs outer w.tokens w.low w.high inner cells env holds text x e in
      let one = single_flat (Single t) h.value tt (subst (λ s. HasKind (kind_of_type s) h.value) shape h.of_type) in
      let stand : StandAt (Cell c) w.tokens cells (one.0 ∷ []) = subst (λ zs. StandAt (Cell c) w.tokens cells zs) one.1 (subst (λ s. StandAt s w.tokens cells (flat h.value)) seat h.stands) in
      (one.0, at_first c cells one.0 (Some one.0) (stand 0 one.0 refl))

  pub set_performs : (inner : List Name) (text : List ℕ) (value : Tree) (place at base n m c : ℕ) (code : List Instr) (x : Name) (t : Scalar)
      → named text (inner ++ outer) ≡ Some x → x.seat ≡ Cell c → x.shape ≡ Single t → IsCode rs.functions (inner ++ outer) value base n code m
      → Performs rs outer w serves frames inner (λ env left. exec (tree.assign (tree.ident text place) tree.nil value at) w.calls runs env left) base n (code ++ op.Store c (Some t) ∷ []) m
  set_performs inner text value place at base n m c code x t e seat shape coded stack cells env left stands laid apart room holds =
      let names : List Name = inner ++ outer in
      let i : Instr = op.Store c (Some t) in
      let s : State = state base stack frames cells left in
      let there : slice_get w.code.instrs (base + length code) ≡ Some i = (stands_right w.code.instrs base code (i ∷ []) stands).0 in
      let end : base + length (code ++ i ∷ []) ≡ base + length code + 1 = omega (arith, length-append code (i ∷ [])) in
      let size : IsSize t = shape_size x.shape (Single t) shape (laid_typed rs outer w.tokens w.low w.high n inner laid text x e) in
      follows_then (eval value w.calls env left) (λ v k. assign env text Nil v k) (λ v k. Pushes w n m s (base + length code) v k × IsSingleValue v) (λ d. CutsOff w n m s d × Unit {0}) (Moves rs outer w serves frames inner n m s (base + length (code ++ i ∷ [])) (length env.locals)) (CutShort w names outer n m s)
      (follows_both (eval value w.calls env left) (Pushes w n m s (base + length code)) (CutsOff w n m s) (λ v k. IsSingleValue v) (λ d. Unit {0})
      (does_there rs outer w serves frames inner coded stack cells env left (stands_left w.code.instrs base code (i ∷ []) stands) laid holds (may w n m n m cells cells (omega arith) (omega arith) apart room refl))
      (singles_there rs outer w serves frames inner coded cells env left (stands_left w.code.instrs base code (i ∷ []) stands) laid holds (may w n m n m cells cells (omega arith) (omega arith) apart room refl)))
      (λ v k q.
      let p : Pushes w n m s (base + length code) v k = q.0 in
      let now : Inside inner p.cells env = inside_still rs outer w.tokens w.low w.high n m inner cells p.cells env laid p.keeps holds in
      let y = single_there inner p.cells env text x t c now e seat shape in
      let one : scalars_of_type x.shape ≡ 1 = ap scalars_of_type shape in
      let wrote : Written c (scalars_of_type x.shape) p.cells (slice_set p.cells c (conv t p.number)) =
      subst (λ h. Written c h p.cells (slice_set p.cells c (conv t p.number))) (sym one) (let same : c + 0 ≡ c = omega arith in subst (λ d. Written c 1 p.cells (slice_set p.cells d (conv t p.number))) same (set_written p.cells c 1 0 (conv t p.number) (omega arith))) in
      stores inner n m base (base + length code) (base + length (code ++ i ∷ [])) c text x (p.number ∷ stack) stack cells p.cells (slice_set p.cells c (conv t p.number)) Nil v env left k i
      (λ a. obeys w.code w.tokens (state (base + length code) (p.number ∷ stack) frames p.cells k) i there ∙ ap (go_on (state (base + length code) (p.number ∷ stack) frames p.cells k)) (store_leaves c (Some t) w.tokens stack p.cells p.number y.0 y.1))
      end (grows coded) laid e seat wrote (single_put x t c k p.cells v p.number y.0 shape seat size q.1 p.is y.1) p.reaches p.keeps holds)
      (λ d q. cut_breaks rs outer w serves frames names n n m m s d (omega arith) (omega arith) q.0)

  -- ---- items of lists

  -- what stands in the cells of a list
  pub record ListThere (cells : List ℤ) (x : Name) (t : Scalar) (c size : ℕ) (u : Value) : Type 0 where
    pub values : Values
    pub is : u ≡ Items values
    pub as_many : count values ≡ size
    pub kinds : HaveKind (kind_of_scalar t) values
    pub stands : StandAt (Cell c) w.tokens cells (flat_all values)

  list_there : (cells : List ℤ) (x : Name) (t : Scalar) (c size : ℕ) (u : Value) → x.seat ≡ Cell c → x.shape ≡ Many size (Single t) → HasKind (kind_of_type x.shape) u → StandAt x.seat w.tokens cells (flat u) → ListThere cells x t c size u
  list_there cells x t c size u seat shape kind stand = go u (subst (λ s. HasKind (kind_of_type s) u) shape kind) (subst (λ s. StandAt s w.tokens cells (flat u)) seat stand)
    where
      go : (u : Value) → HasKind (kind_of_type (Many size (Single t))) u → StandAt (Cell c) w.tokens cells (flat u) → ListThere cells x t c size u
      go (Num z) h s = absurd h
      go (Truth b) h s = absurd h
      go (Items vs) h s = record { values = vs; is = refl; as_many = h.0; kinds = h.1; stands = s }

  -- a list with a new item
  item_put : (x : Name) (t : Scalar) (c size k j : ℕ) (cells : List ℤ) (v : Value) (z y : ℤ) → x.shape ≡ Many size (Single t) → x.seat ≡ Cell c → IsSize t → IsSingleValue v → flat v ≡ z ∷ [] → j < size → slice_get cells (c + j) ≡ Some y
      → PutsAt rs outer w.tokens w.low w.high (Unit {0}) x cells (slice_set cells (c + j) (conv t z)) (Cons (Num (pos j)) Nil) v k (λ d. ⊥)
  item_put x t c size k j cells v z y shape seat sized one is less there u kind stand =
      let l : ListThere cells x t c size u = list_there cells x t c size u seat shape kind stand in
      let new : List ℤ = slice_set cells (c + j) (conv t z) in
      let put_there : Follows (put (Many size (Single t)) (Items l.values) (Cons (Num (pos j)) Nil) v k) (λ a b. (b ≡ k) × ((HasKind (kind_of_type (Many size (Single t))) a × StandAt (Cell c) w.tokens new (flat a)) × Unit {0})) (λ d. ⊥) = placed l (value_at l.values j) refl in
      subst (λ a. Follows (put x.shape a (Cons (Num (pos j)) Nil) v k) (λ a b. (b ≡ k) × NewAt rs outer w.tokens w.low w.high (Unit {0}) x new a) (λ d. ⊥)) (sym l.is)
      (subst (λ r. Follows (put r (Items l.values) (Cons (Num (pos j)) Nil) v k) (λ a b. (b ≡ k) × ((HasKind (kind_of_type r) a × StandAt x.seat w.tokens new (flat a)) × Unit {0})) (λ d. ⊥)) (sym shape)
      (subst (λ r. Follows (put (Many size (Single t)) (Items l.values) (Cons (Num (pos j)) Nil) v k) (λ a b. (b ≡ k) × ((HasKind (kind_of_type (Many size (Single t))) a × StandAt r w.tokens new (flat a)) × Unit {0})) (λ d. ⊥)) (sym seat) put_there))
    where
      placed : (l : ListThere cells x t c size u) (o : Option Value) → value_at l.values j ≡ o
          → Follows (and_then (elim o [ None ↦ Traps IndexRange | Some old ↦ Gives old k ]) (λ old m. and_then (put (Single t) old Nil v m) (λ a b. Gives (Items (with_item l.values (pos j) a)) b)))
          (λ a b. (b ≡ k) × ((HasKind (kind_of_type (Many size (Single t))) a × StandAt (Cell c) w.tokens (slice_set cells (c + j) (conv t z)) (flat a)) × Unit {0})) (λ d. ⊥)
      placed l None f = let past = item_past l.values j f in let many = l.as_many in absurd (omega (arith, past, many, less))
      placed l (Some old) f =
          let made = single_stored t v z sized one is in (
            refl,
            (
              (
                (item_count l.values j (stored (Single t) v) ∙ l.as_many, item_kinds t l.values j (stored (Single t) v) l.kinds made.0),
                (λ h b g.
                    ⊎_elim (λ (q : (h ≡ j) × (conv t z ≡ b)). subst (λ d. slice_get (slice_set cells (c + j) (conv t z)) (c + d) ≡ Some b) (sym q.0) (set_there cells (c + j) y (conv t z) there ∙ ap Some q.1))
                    (λ (q : (h ≢ j) × (slice_get (flat_all l.values) h ≡ Some b)). other_stays h b q.0 (l.stands h b q.1))
                    (item_changed t l.values j (stored (Single t) v) (conv t z) l.kinds made.1 h b g)),
              ),
              tt,
            ),
          )
        where
          other_stays : (h : ℕ) (b : ℤ) → h ≢ j → slice_get cells (c + h) ≡ Some b → slice_get (slice_set cells (c + j) (conv t z)) (c + h) ≡ Some b
          other_stays h b differ g = get-other cells (c + j) (c + h) (conv t z) (λ f. differ (omega (arith, f))) ∙ g

  -- a place that the list doesn't have
  past_put : (x : Name) (t : Scalar) (c size k : ℕ) (i : ℤ) (cells : List ℤ) (v : Value) → x.shape ≡ Many size (Single t) → x.seat ≡ Cell c → ((j : ℕ) → i ≡ pos j → size ≤ j)
      → PutsAt rs outer w.tokens w.low w.high ⊥ x cells cells (Cons (Num i) Nil) v k (λ d. d ≡ IndexRange)
  past_put x t c size k i cells v shape seat past u kind stand =
      let l : ListThere cells x t c size u = list_there cells x t c size u seat shape kind stand in
      subst (λ a. Follows (put x.shape a (Cons (Num i) Nil) v k) (λ a b. (b ≡ k) × NewAt rs outer w.tokens w.low w.high ⊥ x cells a) (λ d. d ≡ IndexRange)) (sym l.is)
      (subst (λ r. Follows (put r (Items l.values) (Cons (Num i) Nil) v k) (λ a b. (b ≡ k) × ((HasKind (kind_of_type r) a × StandAt x.seat w.tokens cells (flat a)) × ⊥)) (λ d. d ≡ IndexRange)) (sym shape) (traps l i past))
    where
      found : (l : ListThere cells x t c size u) (j : ℕ) (o : Option Value) → size ≤ j → value_at l.values j ≡ o
          → Follows (and_then (elim o [ None ↦ Traps IndexRange | Some old ↦ Gives old k ]) (λ old m. and_then (put (Single t) old Nil v m) (λ a b. Gives (Items (with_item l.values (pos j) a)) b)))
          (λ a b. (b ≡ k) × ((HasKind (kind_of_type (Many size (Single t))) a × StandAt x.seat w.tokens cells (flat a)) × ⊥)) (λ d. d ≡ IndexRange)
      found l j None le f = refl
      found l j (Some old) le f = let within = item_within l.values j old f in let many = l.as_many in absurd (omega (arith, within, many, le))

      traps : (l : ListThere cells x t c size u) (i : ℤ) → ((j : ℕ) → i ≡ pos j → size ≤ j) → Follows (put (Many size (Single t)) (Items l.values) (Cons (Num i) Nil) v k) (λ a b. (b ≡ k) × ((HasKind (kind_of_type (Many size (Single t))) a × StandAt x.seat w.tokens cells (flat a)) × ⊥)) (λ d. d ≡ IndexRange)
      traps l (pos j) past = found l j (value_at l.values j) (past j refl) refl
      traps l (negsuc j) past = refl

  -- a place that is no number
  odd_put : (x : Name) (t : Scalar) (c size k : ℕ) (i : Value) (cells : List ℤ) (v : Value) → x.shape ≡ Many size (Single t) → x.seat ≡ Cell c → ((z : ℤ) → i ≢ Num z)
      → PutsAt rs outer w.tokens w.low w.high ⊥ x cells cells (Cons i Nil) v k (λ d. ⊥)
  odd_put x t c size k i cells v shape seat odd u kind stand =
      let l : ListThere cells x t c size u = list_there cells x t c size u seat shape kind stand in
      subst (λ a. Follows (put x.shape a (Cons i Nil) v k) (λ a b. (b ≡ k) × NewAt rs outer w.tokens w.low w.high ⊥ x cells a) (λ d. ⊥)) (sym l.is)
      (subst (λ r. Follows (put r (Items l.values) (Cons i Nil) v k) (λ a b. (b ≡ k) × ((HasKind (kind_of_type r) a × StandAt x.seat w.tokens cells (flat a)) × ⊥)) (λ d. ⊥)) (sym shape) (clashes l i odd))
    where
      clashes : (l : ListThere cells x t c size u) (i : Value) → ((z : ℤ) → i ≢ Num z) → Follows (put (Many size (Single t)) (Items l.values) (Cons i Nil) v k) (λ a b. (b ≡ k) × ((HasKind (kind_of_type (Many size (Single t))) a × StandAt x.seat w.tokens cells (flat a)) × ⊥)) (λ d. ⊥)
      clashes l (Num z) odd = absurd (odd z refl)
      clashes l (Truth b) odd = tt
      clashes l (Items us) odd = tt

  -- the numbers of a list are there
  list_size : (inner : List Name) (cells : List ℤ) (env : Env) (text : List ℕ) (x : Name) (t : Scalar) (c size j : ℕ) → Inside inner cells env → named text (inner ++ outer) ≡ Some x → x.seat ≡ Cell c → x.shape ≡ Many size (Single t)
      → j < size → (y : ℤ) × (slice_get cells (c + j) ≡ Some y)
  list_size inner cells env text x t c size j holds e seat shape less =
      let h : HoldsName w.tokens cells env text x = names_held rs outer w.tokens w.low w.high inner cells env holds text x e in
      let l : ListThere cells x t c size h.value = list_there cells x t c size h.value seat shape h.of_type h.stands in
      go l (value_at l.values j) refl
    where
      go : {u : Value} (l : ListThere cells x t c size u) (o : Option Value) → value_at l.values j ≡ o → (y : ℤ) × (slice_get cells (c + j) ≡ Some y)
      go l None f = let past = item_past l.values j f in let many = l.as_many in absurd (omega (arith, past, many, less))
      go l (Some a) f = let found = item_flat t l.values j a l.kinds f in (found.0, l.stands j found.0 found.2)

  -- an assignment that never gives an environment, since it traps or clashes
  pub never : (inner : List Name) (n m base place end c : ℕ) (text : List ℕ) (x : Name) (top stack before cells : List ℤ) (places : Values) (v : Value) (env : Env) (left k : ℕ) (T : Trap → Type 0)
      → ((d : Trap) → T d → CutShort w (inner ++ outer) outer n m (state base stack frames before left) d)
      → Laid n inner → named text (inner ++ outer) ≡ Some x → x.seat ≡ Cell c → PutsAt rs outer w.tokens w.low w.high ⊥ x cells cells places v k T
      → Inside inner cells env
      → Follows (assign env text places v k) (Moves rs outer w serves frames inner n m (state base stack frames before left) end (length env.locals)) (CutShort w (inner ++ outer) outer n m (state base stack frames before left))
  never inner n m base place end c text x top stack before cells places v env left k T traps laid e seat puts holds =
      let s : State = state base stack frames before left in
      follows_more (assign env text places v k) (Assigned rs outer w.tokens w.low w.high ⊥ inner cells env k) T (Moves rs outer w serves frames inner n m s end (length env.locals)) (CutShort w (inner ++ outer) outer n m s)
      (assigns rs outer w.tokens w.low w.high ⊥ n inner cells cells env text x c places v k T laid e seat (record { length_same = refl; cell = λ d away. refl }) puts holds)
      (λ next j p. absurd p.3) traps

  -- the last instruction of an assignment to an item
  item_stores : (inner : List Name) (n m base place end c size : ℕ) (text : List ℕ) (x : Name) (t : Scalar) (stack before cells : List ℤ) (u v : Value) (y z : ℤ) (env : Env) (left k : ℕ)
      → slice_get w.code.instrs place ≡ Some (op.StoreAt c size (Some t)) → end ≡ place + 1 → n ≤ m → Laid n inner → named text (inner ++ outer) ≡ Some x → x.seat ≡ Cell c → x.shape ≡ Many size (Single t) → IsSize t
      → IsSingleValue v → flat v ≡ z ∷ [] → flat u ≡ y ∷ []
      → Reaches w.code w.tokens (state base stack frames before left) (state place (z ∷ y ∷ stack) frames cells k) → Keeps n m w.low w.high before cells → Inside inner before env
      → Follows (assign env text (Cons u Nil) v k) (Moves rs outer w serves frames inner n m (state base stack frames before left) end (length env.locals)) (CutShort w (inner ++ outer) outer n m (state base stack frames before left))
  item_stores inner n m base place end c size text x t stack before cells u v y z env left k there end_is le laid e seat shape sized one v_is u_is r keeps holds = go u u_is
    where
      now : Inside inner cells env
      now = inside_still rs outer w.tokens w.low w.high n m inner before cells env laid keeps holds

      traps : (i : ℤ) → y ≡ i → effect w.tokens (op.StoreAt c size (Some t)) (z ∷ i ∷ stack) cells ≡ Fails IndexRange → (d : Trap) → d ≡ IndexRange → CutShort w (inner ++ outer) outer n m (state base stack frames before left) d
      traps i same fails d is =
          let a : State = state place (z ∷ y ∷ stack) frames cells k in
          subst (λ f. CutShort w (inner ++ outer) outer n m (state base stack frames before left) f) (sym is) (record {
            cells = cells;
            ends = ends_join r (stop (obeys w.code w.tokens a (op.StoreAt c size (Some t)) there ∙ ap (go_on a) (ap (λ b. effect w.tokens (op.StoreAt c size (Some t)) (z ∷ b ∷ stack) cells) same ∙ fails)));
            keeps = keeps_but (inner ++ outer) keeps;
          })

      at_place : (j : ℕ) → y ≡ pos j → (j < size) ⊎ (size ≤ j) → Follows (assign env text (Cons (Num (pos j)) Nil) v k) (Moves rs outer w serves frames inner n m (state base stack frames before left) end (length env.locals)) (CutShort w (inner ++ outer) outer n m (state base stack frames before left))
      at_place j same (inl less) =
          let a : State = state place (z ∷ y ∷ stack) frames cells k in
          let old = list_size inner cells env text x t c size j now e seat shape less in
          let many : scalars_of_type x.shape ≡ size * 1 = ap scalars_of_type shape in
          let wrote : Written c (scalars_of_type x.shape) cells (slice_set cells (c + j) (conv t z)) = set_written cells c (scalars_of_type x.shape) j (conv t z) (omega (arith, many, less)) in
          stores inner n m base place end c text x (z ∷ y ∷ stack) stack before cells (slice_set cells (c + j) (conv t z)) (Cons (Num (pos j)) Nil) v env left k (op.StoreAt c size (Some t))
          (λ b. obeys w.code w.tokens a (op.StoreAt c size (Some t)) there ∙ ap (go_on a) (ap (λ b. effect w.tokens (op.StoreAt c size (Some t)) (z ∷ b ∷ stack) cells) same ∙ store_item_leaves c size j (Some t) w.tokens stack cells z old.0 less old.1))
          end_is le laid e seat wrote (item_put x t c size k j cells v z old.0 shape seat sized one v_is less old.1) r keeps holds
      at_place j same (inr past) =
          never inner n m base place end c text x (z ∷ y ∷ stack) stack before cells (Cons (Num (pos j)) Nil) v env left k (λ d. d ≡ IndexRange)
          (traps (pos j) same (store_item_past c size j (Some t) w.tokens stack cells z past))
          laid e seat (past_put x t c size k (pos j) cells v shape seat (λ h f. let g : j ≡ h = cc in omega (arith, past, g))) now

      at_number : (i : ℤ) → y ≡ i → Follows (assign env text (Cons (Num i) Nil) v k) (Moves rs outer w serves frames inner n m (state base stack frames before left) end (length env.locals)) (CutShort w (inner ++ outer) outer n m (state base stack frames before left))
      at_number (pos j) same = at_place j same (cases_lt j size)
      at_number (negsuc j) same =
          never inner n m base place end c text x (z ∷ y ∷ stack) stack before cells (Cons (Num (negsuc j)) Nil) v env left k (λ d. d ≡ IndexRange)
          (traps (negsuc j) same refl)
          laid e seat (past_put x t c size k (negsuc j) cells v shape seat (λ h f. cc)) now

      go : (u : Value) → flat u ≡ y ∷ [] → Follows (assign env text (Cons u Nil) v k) (Moves rs outer w serves frames inner n m (state base stack frames before left) end (length env.locals)) (CutShort w (inner ++ outer) outer n m (state base stack frames before left))
      go (Num i) f = at_number i (sym (same_number i y f))
      go (Truth b) f = never inner n m base place end c text x (z ∷ y ∷ stack) stack before cells (Cons (Truth b) Nil) v env left k (λ d. ⊥) (λ d q. absurd q) laid e seat (odd_put x t c size k (Truth b) cells v shape seat (λ i g. cc)) now
      go (Items us) f = never inner n m base place end c text x (z ∷ y ∷ stack) stack before cells (Cons (Items us) Nil) v env left k (λ d. ⊥) (λ d q. absurd q) laid e seat (odd_put x t c size k (Items us) cells v shape seat (λ i g. cc)) now

  pub set_item_performs : (inner : List Name) (text : List ℕ) (spot value : Tree) (place at base n k m c size : ℕ) (a b : List Instr) (x : Name) (t : Scalar)
      → named text (inner ++ outer) ≡ Some x → x.seat ≡ Cell c → x.shape ≡ Many size (Single t) → IsCode rs.functions (inner ++ outer) spot base n a k → IsCode rs.functions (inner ++ outer) value (base + length a) k b m
      → Performs rs outer w serves frames inner (λ env left. exec (tree.assign (tree.ident text place) (tree.cons spot tree.nil) value at) w.calls runs env left) base n (a ++ (b ++ op.StoreAt c size (Some t) ∷ [])) m
  set_item_performs inner text spot value place at base n k m c size a b x t e seat shape first second stack cells env left stands laid apart room holds =
      let names : List Name = inner ++ outer in
      let i : Instr = op.StoreAt c size (Some t) in
      let s : State = state base stack frames cells left in
      let le : n ≤ k = grows first in
      let ge : k ≤ m = grows second in
      let rest = stands_right w.code.instrs base a (b ++ i ∷ []) stands in
      let there : slice_get w.code.instrs (base + length a + length b) ≡ Some i = (stands_right w.code.instrs (base + length a) b (i ∷ []) rest).0 in
      let end : base + length (a ++ (b ++ i ∷ [])) ≡ base + length a + length b + 1 = omega (arith, length-append a (b ++ i ∷ []), length-append b (i ∷ [])) in
      let listed : IsType (Many size (Single t)) = shape_size x.shape (Many size (Single t)) shape (laid_typed rs outer w.tokens w.low w.high n inner laid text x e) in
      let sized : IsSize t = listed.2 in
      follows_then (eval_all (tree.cons spot tree.nil) w.calls env left) (λ is h. and_then (eval value w.calls env h) (λ v j. assign env text is v j))
      (λ is h. (u : Value) × (is ≡ Cons u Nil) × Pushes w n k s (base + length a) u h) (CutsOff w n k s) (Moves rs outer w serves frames inner n m s (base + length (a ++ (b ++ i ∷ []))) (length env.locals)) (CutShort w names outer n m s)
      (follows_then (eval spot w.calls env left) (λ u h. Gives (Cons u Nil) h) (Pushes w n k s (base + length a)) (CutsOff w n k s) (λ is h. (u : Value) × (is ≡ Cons u Nil) × Pushes w n k s (base + length a) u h) (CutsOff w n k s)
      (does_there rs outer w serves frames inner first stack cells env left (stands_left w.code.instrs base a (b ++ i ∷ []) stands) laid holds (may w n m n k cells cells (omega arith) ge apart room refl))
      (λ u h p. (u, refl, p)) (λ d q. q))
      (λ is h q.
      let u : Value = q.0 in
      let p : Pushes w n k s (base + length a) u h = q.2 in
      let r : State = state (base + length a) (p.number ∷ stack) frames p.cells h in
      let still : Inside inner p.cells env = inside_still rs outer w.tokens w.low w.high n k inner cells p.cells env laid p.keeps holds in
      let wider : Laid k inner = laid_more rs outer w.tokens w.low w.high n k inner le laid in
      subst (λ (us : Values). Follows (and_then (eval value w.calls env h) (λ v j. assign env text us v j)) (Moves rs outer w serves frames inner n m s (base + length (a ++ (b ++ i ∷ []))) (length env.locals)) (CutShort w names outer n m s)) (sym q.1)
      (follows_then (eval value w.calls env h) (λ v j. assign env text (Cons u Nil) v j) (λ v j. Pushes w k m r (base + length a + length b) v j × IsSingleValue v) (λ d. CutsOff w k m r d × Unit {0}) (Moves rs outer w serves frames inner n m s (base + length (a ++ (b ++ i ∷ []))) (length env.locals)) (CutShort w names outer n m s)
      (follows_both (eval value w.calls env h) (Pushes w k m r (base + length a + length b)) (CutsOff w k m r) (λ v j. IsSingleValue v) (λ d. Unit {0})
      (does_there rs outer w serves frames inner second (p.number ∷ stack) p.cells env h (stands_left w.code.instrs (base + length a) b (i ∷ []) rest) wider still (may w n m k m cells p.cells le (omega arith) apart room p.keeps.size))
      (singles_there rs outer w serves frames inner second p.cells env h (stands_left w.code.instrs (base + length a) b (i ∷ []) rest) wider still (may w n m k m cells p.cells le (omega arith) apart room p.keeps.size)))
      (λ v j both.
      let o : Pushes w k m r (base + length a + length b) v j = both.0 in
      item_stores inner n m base (base + length a + length b) (base + length (a ++ (b ++ i ∷ []))) c size text x t stack cells o.cells u v p.number o.number env left j there end (omega arith) laid e seat shape sized
      both.1 o.is p.is (reaches_join p.reaches o.reaches) (keeps_join (keeps_wider n m (omega arith) ge p.keeps) (keeps_wider n m le (omega arith) o.keeps)) holds)
      (λ d q. breaks_after rs outer w serves frames names n m s r d p.reaches (but_wider n m (omega arith) ge (keeps_but names p.keeps)) (cut_breaks rs outer w serves frames names n k m m r d le (omega arith) q.0))))
      (λ d q. cut_breaks rs outer w serves frames names n n k m s d (omega arith) ge q)
