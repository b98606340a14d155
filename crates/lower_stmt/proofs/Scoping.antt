-- Names inside others, and the cells that hold their variables.
use Rattle.std.proofs.Common.{◌≡◌, ℕ, suc, ◌+◌, ◌<◌, ◌≤◌, ◌⊎◌, inl, inr, ⊎_elim, ℤ, List, [], ◌∷◌, ◌++◌, length, Bool, true, false, refl, sym, ap, ◌∙◌, subst, Option, Some, arith}
use Rattle.std.specs.Prelude.{if◌then◌else◌}
use Rattle.std.proofs.lemmas.Option.{slice_get_within}
use Rattle.std.specs.Str.{bytes_eq}
use Rattle.std.proofs.lemmas.Slice.Eq.{bytes_eq-Decides}
use Rattle.rvc_base.specs.declared.trap.Trap.{Trap}
use Rattle.cal_model.specs.Value.{Value, Values, HasKind, IsType, kind_of_type, scalars_of_type}
use Rattle.cal_model.specs.Outcome.{Out, Gives}
use Rattle.cal_model.specs.Env.{Var, Env, look_up, with_local, put, assigned_to, assign}
use Rattle.lower_base.specs.declared.names.Seat.{Seat}
use Rattle.lower_base.specs.declared.names.Seat.TheVariants.{Cell, Tokens}
use Rattle.lower_base.specs.Flat.{flat}
use Rattle.lower_base.specs.Names.{Name, named}
use Rattle.lower_base.specs.Held.{StandAt, HoldsName, Holds, SeatIsBelow, AreBelow, SeatIsApart, AllApart, Keeps}
use Rattle.lower_stmt.specs.Changing.{var_named, AreStored, HoldsVars, AreTyped, SeatsApart, NamesApart}
use Rattle.lower_base.specs.Following.{Follows}
use Rattle.lower_stmt.proofs.Assigning.{EnvReplaced, assign_follows, assign_top, assign_under, assigned_to_follows, vars_of, found_value}
use Rattle.lower_base.proofs.Written.{Written, written_keeps}
use Rattle.lower_base.proofs.Keeping.{keeps_wider, holds_still, below_more, seat_stands, flat_length, scalars_same}
use Rattle.lower_base.proofs.Runs.{follows_then, follows_more}
use Rattle.lower_stmt.specs.Procedures.{Routines}
use Rattle.lower_stmt.specs.Bodies.{AreLaid as LaidOver, HoldsVar, SeatLies}

no_locals : (xs : List Var) → length xs ≡ 0 → xs ≡ []
no_locals [] e = refl
no_locals (x ∷ xs) e = cc

-- the first of the names that a text means
pub choose_name : (b : Bool) (x : Name) (o : Option Name) (y : Name) → (if b then Some x else o) ≡ Some y → ((b ≡ true) × (x ≡ y)) ⊎ ((b ≡ false) × (o ≡ Some y))
choose_name true x o y e = inl (refl, cc)
choose_name false x o y e = inr (refl, e)

-- What else holds where something may be called: no locals stand outside, and the cells of routines are there.
abbrev pub CanCall : Routines → ℕ → List ℤ → Env → Type 0
CanCall rs high cells env = 0 < length rs.functions + length rs.procedures → (env.locals ≡ []) × (high ≤ length cells)

-- what is written elsewhere leaves a seat
pub seat_unwritten : (seat : Seat) (c size : ℕ) (tokens : ℕ → List ℤ) (before after zs : List ℤ) → Written c size before after → SeatIsApart c (c + size) (length zs) seat → StandAt seat tokens before zs → StandAt seat tokens after zs
seat_unwritten (Cell d) c size tokens before after zs w apart stands k z e =
    let within = slice_get_within zs k z e in
    w.cell (d + k) (⊎_elim (λ (a : d + length zs ≤ c). inl (omega (arith, within, a))) (λ (a : c + size ≤ d). inr (omega (arith, a))) apart) ∙ stands k z e
seat_unwritten (Tokens port first step) c size tokens before after zs w apart stands k z e = stands k z e

-- ---- seats among others

lies_more : (seat : Seat) (c n m size : ℕ) → n ≤ m → SeatLies c n size seat → SeatLies c m size seat
lies_more (Cell d) c n m size le h = let to = h.1 in (h.0, omega (arith, to, le))
lies_more (Tokens port first step) c n m size le h = tt

lies_below : (seat : Seat) (c n size : ℕ) → SeatLies c n size seat → SeatIsBelow n size seat
lies_below (Cell d) c n size h = h.1
lies_below (Tokens port first step) c n size h = tt

-- what ends before the cells of a seat begin is none of them
lies_apart : (seat : Seat) (c n size many from to : ℕ) → to ≤ c → SeatLies c n size seat → SeatIsApart from to many seat
lies_apart (Cell d) c n size many from to le h = let at = h.0 in inr (omega (arith, le, at))
lies_apart (Tokens port first step) c n size many from to le h = tt

module _ (rs : Routines) (outer : List Name) (tokens : ℕ → List ℤ) (low high : ℕ) where
  -- the cells of each name lie behind those of the names outside it, and before n
  abbrev pub AreLaid : ℕ → List Name → Type 0
  AreLaid n inner = LaidOver outer low high n inner

  -- the cells hold the variables of all of these names, hidden or not
  abbrev pub HoldsInside : List Name → List ℤ → Env → Type 0
  HoldsInside [] cells env = HoldsVars outer tokens cells env × CanCall rs high cells env
  HoldsInside (x ∷ inner) cells env = (v : Var) × (rest : Env) × (env ≡ with_local v rest) × HoldsVar tokens cells v x × HoldsInside inner cells rest

  pub laid_more : (n m : ℕ) (inner : List Name) → n ≤ m → AreLaid n inner → AreLaid m inner
  laid_more n m [] le h = (below_more n m outer le h.0, h.1, h.2, h.3)
  laid_more n m (x ∷ inner) le h = let l = h.2 in (h.0, lies_more x.seat h.0 n m (scalars_of_type x.shape) le h.1, omega (arith, le, l), h.3, h.4, h.5)

  pub laid_below : (n : ℕ) (inner : List Name) → AreLaid n inner → AreBelow n (inner ++ outer)
  laid_below n [] h text y e = h.0 text y e
  laid_below n (x ∷ inner) (c, at, le, typed, apart, rest) text y e =
      ⊎_elim (λ (f : (bytes_eq x.text text ≡ true) × (x ≡ y)). subst (λ (z : Name). SeatIsBelow n (scalars_of_type z.shape) z.seat) f.1 (lies_below x.seat c n (scalars_of_type x.shape) at))
      (λ (f : (bytes_eq x.text text ≡ false) × (named text (inner ++ outer) ≡ Some y)). below_more c n (inner ++ outer) (omega (arith, le)) (laid_below c inner rest) text y f.1)
      (choose_name (bytes_eq x.text text) x (named text (inner ++ outer)) y e)

  pub laid_apart : (n : ℕ) (inner : List Name) → AreLaid n inner → AllApart low high (inner ++ outer)
  laid_apart n [] h text y e = h.3 text y e
  laid_apart n (x ∷ inner) (c, at, le, typed, apart, rest) text y e =
      ⊎_elim (λ (f : (bytes_eq x.text text ≡ true) × (x ≡ y)). subst (λ (z : Name). SeatIsApart low high (scalars_of_type z.shape) z.seat) f.1 apart)
      (λ (f : (bytes_eq x.text text ≡ false) × (named text (inner ++ outer) ≡ Some y)). laid_apart c inner rest text y f.1)
      (choose_name (bytes_eq x.text text) x (named text (inner ++ outer)) y e)

  pub laid_typed : (n : ℕ) (inner : List Name) → AreLaid n inner → AreTyped (inner ++ outer)
  laid_typed n [] h text y e = h.2 text y e
  laid_typed n (x ∷ inner) (c, at, le, typed, apart, rest) text y e =
      ⊎_elim (λ (f : (bytes_eq x.text text ≡ true) × (x ≡ y)). subst (λ (z : Name). IsType z.shape) f.1 typed)
      (λ (f : (bytes_eq x.text text ≡ false) × (named text (inner ++ outer) ≡ Some y)). laid_typed c inner rest text y f.1)
      (choose_name (bytes_eq x.text text) x (named text (inner ++ outer)) y e)

  pub outer_below : (n : ℕ) (inner : List Name) → AreLaid n inner → AreBelow n outer
  outer_below n [] h text y e = h.0 text y e
  outer_below n (x ∷ inner) (c, at, le, typed, apart, rest) text y e = below_more c n outer (omega (arith, le)) (outer_below c inner rest) text y e

  pub outer_apart : (n : ℕ) (inner : List Name) → AreLaid n inner → AllApart low high outer
  outer_apart n [] h text y e = h.3 text y e
  outer_apart n (x ∷ inner) (c, at, le, typed, apart, rest) text y e = outer_apart c inner rest text y e

  -- ---- what the names mean

  find_first : (b : Bool) (v : Var) (o : Option Value) → b ≡ true → (if b then Some v.value else o) ≡ Some v.value
  find_first true v o e = refl
  find_first false v o e = cc

  find_later : (b : Bool) (v : Var) (o : Option Value) → b ≡ false → (if b then Some v.value else o) ≡ o
  find_later true v o e = cc
  find_later false v o e = refl

  pub names_held : (inner : List Name) (cells : List ℤ) (env : Env) → HoldsInside inner cells env → Holds (inner ++ outer) tokens cells env
  names_held [] cells env h text y e = h.0.0 text y e
  names_held (x ∷ inner) cells env (v, rest, is, var, below) text y e =
      subst (λ (now : Env). HoldsName tokens cells now text y) (sym is)
      (⊎_elim (λ (f : (bytes_eq x.text text ≡ true) × (x ≡ y)). subst (λ (z : Name). HoldsName tokens cells (with_local v rest) text z) f.1 (record {
        value = v.value;
        meant = find_first (bytes_eq v.name text) v (look_up text rest) (ap (λ n. bytes_eq n text) var.called ∙ f.0);
        of_type = var.of_type;
        stands = var.stands;
      }))
      (λ (f : (bytes_eq x.text text ≡ false) × (named text (inner ++ outer) ≡ Some y)).
      let h : HoldsName tokens cells rest text y = names_held inner cells rest below text y f.1 in
      record {
        value = h.value;
        meant = find_later (bytes_eq v.name text) v (look_up text rest) (ap (λ n. bytes_eq n text) var.called ∙ f.0) ∙ h.meant;
        of_type = h.of_type;
        stands = h.stands;
      })
      (choose_name (bytes_eq x.text text) x (named text (inner ++ outer)) y e))

  value_at_name : (inner : List Name) (cells : List ℤ) (env : Env) (text : List ℕ) (x : Name) (u : Var) → Holds outer tokens cells env → named text outer ≡ Some x → var_named text (vars_of env) ≡ Some u
      → HasKind (kind_of_type x.shape) u.value × StandAt x.seat tokens cells (flat u.value)
  value_at_name inner cells env text x u holds e f =
      let h : HoldsName tokens cells env text x = holds text x e in
      let meant : Some u.value ≡ Some h.value = sym (found_value text (vars_of env) (Some u) f) ∙ h.meant in
      let same : h.value ≡ u.value = same_value h.value u.value meant in
      (subst (HasKind (kind_of_type x.shape)) same h.of_type, subst (λ w. StandAt x.seat tokens cells (flat w)) same h.stands)
    where
      same_value : (a b : Value) → Some b ≡ Some a → a ≡ b
      same_value a b e = cc

  -- ---- cells that change elsewhere

  size_of : (x : Name) (v : Value) → HasKind (kind_of_type x.shape) v → scalars_of_type x.shape ≡ length (flat v)
  size_of x v h = sym (flat_length (kind_of_type x.shape) v h ∙ scalars_same x.shape)

  pub inside_still : (n m : ℕ) (inner : List Name) (before after : List ℤ) (env : Env) → AreLaid n inner → Keeps n m low high before after → HoldsInside inner before env → HoldsInside inner after env
  inside_still n m [] before after env laid keeps ((holds, stored), can) =
      let same = keeps.size in ((holds_still outer tokens env keeps laid.0 laid.3 holds, stored), λ some. let c = can some in let room = c.1 in (c.0, omega (arith, room, same)))
  inside_still n m (x ∷ inner) before after env (c, at, le, typed, apart, rest) keeps (v, under, is, var, below) = (
    v,
    under,
    is,
    record {
      called = var.called;
      stored = var.stored;
      of_type = var.of_type;
      stands =
          let size = size_of x v.value var.of_type in
          seat_stands x.seat n m low high tokens before after (flat v.value) keeps
          (subst (λ k. SeatIsBelow n k x.seat) size (lies_below x.seat c n (scalars_of_type x.shape) at))
          (subst (λ k. SeatIsApart low high k x.seat) size apart) var.stands;
    },
    inside_still c m inner before after under rest (keeps_wider c m le (omega arith) keeps) below,
  )

  -- ---- assignments

  -- a value of the name's type that stands in its cells; and whatever else is known if there is one
  abbrev pub NewAt : Type 0 → Name → List ℤ → Value → Type 0
  NewAt P x cells w = (HasKind (kind_of_type x.shape) w × StandAt x.seat tokens cells (flat w)) × P

  -- the environment after an assignment, if so many turns are left
  abbrev pub Assigned : Type 0 → List Name → List ℤ → Env → ℕ → Env → ℕ → Type 0
  Assigned P inner cells env left next k = (k ≡ left) × HoldsInside inner cells next × (length next.locals ≡ length env.locals) × P

  -- what is put into the variable of a name, whatever it held
  abbrev pub PutsAt : Type 0 → Name → List ℤ → List ℤ → Values → Value → ℕ → (Trap → Type 0) → Type 0
  PutsAt P x cells after places v left T = (u : Value) → HasKind (kind_of_type x.shape) u → StandAt x.seat tokens cells (flat u)
      → Follows (put x.shape u places v left) (λ w k. (k ≡ left) × NewAt P x after w) T

  outermost : (P : Type 0) (cells after : List ℤ) (env next : Env) (text : List ℕ) (x : Name) (c : ℕ) → NamesApart outer → named text outer ≡ Some x → x.seat ≡ Cell c → Written c (scalars_of_type x.shape) cells after
      → HoldsVars outer tokens cells env → EnvReplaced env next text (NewAt P x after) → HoldsVars outer tokens after next
  outermost P cells after env next text x c apart e seat w (holds, stored) r = (held, kept)
    where
      held : Holds outer tokens after next
      held other y f = go (bytes_eq text other) refl
        where
          go : (b : Bool) → bytes_eq text other ≡ b → HoldsName tokens after next other y
          go true g =
              let same : text ≡ other = (bytes_eq-Decides text other).0 g in
              let one : x ≡ y = one_name x y (sym e ∙ ap (λ t. named t outer) same ∙ f) in
              subst (λ t. HoldsName tokens after next t y) same (subst (λ (z : Name). HoldsName tokens after next text z) one (record {
                value = r.value;
                meant = found_value text (vars_of next) (Some (record r.old { value = r.value })) r.now;
                of_type = r.new.0.0;
                stands = r.new.0.1;
              }))
            where
              one_name : (a b : Name) → Some a ≡ Some b → a ≡ b
              one_name a b h = cc
          go false g =
              let h : HoldsName tokens cells env other y = holds other y f in
              let size = size_of y h.value h.of_type in
              let away : SeatIsApart c (c + scalars_of_type x.shape) (scalars_of_type y.shape) y.seat = subst (λ s. SeatsApart s (scalars_of_type x.shape) y.seat (scalars_of_type y.shape)) seat (apart text other x y e f g) in
              record {
                value = h.value;
                meant = found_value other (vars_of next) (var_named other (vars_of env)) (r.others other g) ∙ sym (found_value other (vars_of env) (var_named other (vars_of env)) refl) ∙ h.meant;
                of_type = h.of_type;
                stands = seat_unwritten y.seat c (scalars_of_type x.shape) tokens cells after (flat h.value) w (subst (λ k. SeatIsApart c (c + scalars_of_type x.shape) k y.seat) size away) h.stands;
              }

      kept : AreStored outer next
      kept other y u t f g is = go (bytes_eq text other) refl
        where
          go : (b : Bool) → bytes_eq text other ≡ b → t ≡ y.shape
          go true h =
              let same : text ≡ other = (bytes_eq-Decides text other).0 h in
              let now : Some (record r.old { value = r.value }) ≡ Some u = sym r.now ∙ ap (λ t. var_named t (vars_of next)) same ∙ g in
              stored other y r.old t f (ap (λ t. var_named t (vars_of env)) (sym same) ∙ r.was) (old_kept r.old u r.value now ∙ is)
            where
              old_kept : (a b : Var) (w : Value) → Some (record a { value = w }) ≡ Some b → a.kept ≡ b.kept
              old_kept a b w h = let same : record a { value = w } ≡ b = cc in ap (λ (x : Var). x.kept) same
          go false h = stored other y u t f (sym (r.others other h) ∙ g) is

  pub assigns : (P : Type 0) (n : ℕ) (inner : List Name) (cells after : List ℤ) (env : Env) (text : List ℕ) (x : Name) (c : ℕ) (places : Values) (v : Value) (left : ℕ) (T : Trap → Type 0)
      → AreLaid n inner → named text (inner ++ outer) ≡ Some x → x.seat ≡ Cell c → Written c (scalars_of_type x.shape) cells after → PutsAt P x cells after places v left T
      → HoldsInside inner cells env → Follows (assign env text places v left) (Assigned P inner after env left) T
  assigns P n [] cells after env text x c places v left T laid e seat w puts holds =
      follows_more (assign env text places v left) (λ next k. (k ≡ left) × EnvReplaced env next text (NewAt P x after)) T (Assigned P [] after env left) T
      (assign_follows env text places v left (NewAt P x after) T (λ u t f g.
      let same : t ≡ x.shape = holds.0.1 text x u t e f g in
      let there = value_at_name [] cells env text x u holds.0.0 e f in
      subst (λ s. Follows (put s u.value places v left) (λ w k. (k ≡ left) × NewAt P x after w) T) (sym same) (puts u.value there.0 there.1)))
      (λ next k p. (
        p.0,
        (
          outermost P cells after env next text x c laid.1 e seat w holds.0 p.1,
          λ some.
              let can = holds.1 some in
              let room = can.1 in
              let same = w.length_same in
              let none = p.1.size ∙ ap length can.0 in
              (no_locals next.locals none, omega (arith, room, same)),
        ),
        p.1.size,
        p.1.new.1,
      ))
      (λ t h. h)
  assigns P n (y ∷ inner) cells after env text x c places v left T (d, at, le, typed, apart, laid) e seat w puts (u, rest, is, var, below) =
      subst (λ (now : Env). Follows (assign now text places v left) (Assigned P (y ∷ inner) after now left) T) (sym is)
      (⊎_elim (λ (f : (bytes_eq y.text text ≡ true) × (y ≡ x)). top f.0 f.1)
      (λ (f : (bytes_eq y.text text ≡ false) × (named text (inner ++ outer) ≡ Some x)). under f.0 f.1 (assigns P d inner cells after rest text x c places v left T laid f.1 seat w puts below))
      (choose_name (bytes_eq y.text text) y (named text (inner ++ outer)) x e))
    where
      top : bytes_eq y.text text ≡ true → y ≡ x → Follows (assign (with_local u rest) text places v left) (Assigned P (y ∷ inner) after (with_local u rest) left) T
      top f same =
          let size : scalars_of_type y.shape ≡ scalars_of_type x.shape = ap (λ (z : Name). scalars_of_type z.shape) same in
          let lies : (d ≤ c) × (c + scalars_of_type y.shape ≤ n) = subst (λ s. SeatLies d n (scalars_of_type y.shape) s) (ap (λ (z : Name). z.seat) same ∙ seat) at in
          let from = lies.0 in
          let to = lies.1 in
          subst (λ (o : Out Env). Follows o (Assigned P (y ∷ inner) after (with_local u rest) left) T) (sym (assign_top rest u text places v left (ap (λ n. bytes_eq n text) var.called ∙ f)))
          (follows_then (assigned_to u places v left) (λ z k. Gives (with_local z rest) k) (λ z k. (k ≡ left) × ((w : Value) × NewAt P x after w × (z ≡ record u { value = w }))) T (Assigned P (y ∷ inner) after (with_local u rest) left) T
          (assigned_to_follows u places v left (NewAt P x after) T (λ t g.
          let type_is : t ≡ x.shape = var.stored t g ∙ ap (λ (z : Name). z.shape) same in
          subst (λ s. Follows (put s u.value places v left) (λ w k. (k ≡ left) × NewAt P x after w) T) (sym type_is)
          (puts u.value (subst (λ (z : Name). HasKind (kind_of_type z.shape) u.value) same var.of_type) (subst (λ (z : Name). StandAt z.seat tokens cells (flat u.value)) same var.stands))))
          (λ z k p. (
            p.0,
            (
              z,
              rest,
              refl,
              new_var z p.1.0 p.1.1 p.1.2,
              inside_still d n inner cells after rest laid
                  (written_keeps c (scalars_of_type x.shape) d n low high cells after from (omega (arith, to, size)) w) below,
            ),
            refl,
            p.1.1.1,
          ))
          (λ t h. h))
        where
          new_var : (z : Var) (w : Value) → NewAt P x after w → z ≡ record u { value = w } → HoldsVar tokens after z y
          new_var z w new is = subst (λ (a : Var). HoldsVar tokens after a y) (sym is) (record {
            called = var.called;
            stored = var.stored;
            of_type = subst (λ (a : Name). HasKind (kind_of_type a.shape) w) (sym same) new.0.0;
            stands = subst (λ (a : Name). StandAt a.seat tokens after (flat w)) (sym same) new.0.1;
          })

      under : bytes_eq y.text text ≡ false → named text (inner ++ outer) ≡ Some x → Follows (assign rest text places v left) (Assigned P inner after rest left) T
          → Follows (assign (with_local u rest) text places v left) (Assigned P (y ∷ inner) after (with_local u rest) left) T
      under f g h =
          let low_seat : SeatIsBelow d (scalars_of_type x.shape) (Cell c) = subst (λ s. SeatIsBelow d (scalars_of_type x.shape) s) seat (laid_below d inner laid text x g) in
          subst (λ (o : Out Env). Follows o (Assigned P (y ∷ inner) after (with_local u rest) left) T) (sym (assign_under rest u text places v left (ap (λ n. bytes_eq n text) var.called ∙ f)))
          (follows_then (assign rest text places v left) (λ next k. Gives (with_local u next) k) (Assigned P inner after rest left) T (Assigned P (y ∷ inner) after (with_local u rest) left) T h
          (λ next k p. (
            p.0,
            (
              u,
              next,
              refl,
              record {
                called = var.called;
                stored = var.stored;
                of_type = var.of_type;
                stands = seat_unwritten y.seat c (scalars_of_type x.shape) tokens cells after (flat u.value) w
                    (lies_apart y.seat d n (scalars_of_type y.shape) (length (flat u.value)) c (c + scalars_of_type x.shape) low_seat at) var.stands;
              },
              p.1,
            ),
            ap suc p.2,
            p.3,
          ))
          (λ t h. h))
