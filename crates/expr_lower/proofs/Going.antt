-- Cells that elements of a comprehension leave as they are.
use Rattle.std.proofs.Common.{◌≡◌, ℕ, ◌+◌, ◌<◌, ◌≤◌, ◌⊎◌, inl, inr, ⊎_elim, ℤ, pos, List, ◌∷◌, length, Bool, true, false, refl, sym, ◌∙◌, subst, Some, arith}
use Rattle.std.specs.Prelude.{if◌then◌else◌, slice_get}
use Rattle.std.specs.Str.{bytes_eq}
use Rattle.std.proofs.lemmas.Bool.Decides.{nat_tests}
use Rattle.std.proofs.lemmas.Option.{slice_get_within}
use Rattle.rvc_base.specs.declared.scalar.Scalar.{Scalar}
use Rattle.rvc_base.specs.Storing.{IsSize, conv}
use Rattle.rvc_base.specs.Width.{IsNum, is_num}
use Rattle.cal_model.specs.Value.{Single, Num, scalars_of_type, stored}
use Rattle.cal_model.specs.Env.{Env, variable, with_local}
use Rattle.lower_base.specs.declared.names.Seat.{Seat}
use Rattle.lower_base.specs.declared.names.Seat.TheVariants.{Cell, Tokens}
use Rattle.lower_base.specs.Callees.{Function}
use Rattle.lower_base.specs.Calling.{HasRoom, Serves, outside}
use Rattle.lower_base.specs.Flat.{flat}
use Rattle.lower_base.specs.Held.{AllApart, AreApart, AreBelow, Holds, HoldsName, Keeps, SeatIsApart, SeatIsBelow, StandAt}
use Rattle.lower_base.specs.Names.{Name, local, named}
use Rattle.lower_base.specs.Placed.{World}
use Rattle.lower_base.proofs.Keeping.{apart_last, flat_length, scalars_same}
use Rattle.lower_base.proofs.Routined.{front_apart, front_holds}
use Rattle.lower_base.proofs.Storing.{single_stored}
use Rattle.expr_lower.proofs.Forms.{Ready}

-- a cell among some that are apart from others is apart from them
pub cell_apart : (c m d low high : ℕ) → AreApart c m low high → c ≤ d → d < m → AreApart d (d + 1) low high
cell_apart c m d low high apart le less = ⊎_elim (λ (a : m ≤ low). inl (omega (arith, a, less))) (λ (a : high ≤ c). inr (omega (arith, a, le))) apart

pub num_below : (a b : ℕ) → a ≤ b → is_num (pos b) ≡ true → is_num (pos a) ≡ true
num_below a b le e = grind (arith, nat_tests, le, e)

module _ (fs : List Function) (globals : List Name) (w : World) (serves : Serves w globals fs) (frames : List ℕ) (c filled : ℕ) where
  -- Of the cells, only those from c + i to `filled` and those from k to m may have changed, and those of routines.
  pub record Went (k m i : ℕ) (before now : List ℤ) : Type 0 where
    pub size : length now ≡ length before
    pub cell : (d : ℕ) → (d < c + i) ⊎ ((filled < d) × ((d < k) ⊎ (m ≤ d))) → AreApart d (d + 1) w.low w.high → slice_get now d ≡ slice_get before d

  pub went_keeps : (k m i : ℕ) (before now : List ℤ) → filled < k → k ≤ m → Went k m i before now → Keeps c m w.low w.high before now
  went_keeps k m i before now le ge g = record {
    size = g.size;
    cell = λ d free apart. g.cell d (⊎_elim (λ (a : d < c). inl (omega (arith, a))) (λ (a : m ≤ d). inr (omega (arith, a, le, ge), inr a)) free) apart;
  }

  pub went_join : (k h m i j : ℕ) (a b d : List ℤ) → k ≤ h → i ≤ j → Went k m i a b → Went h m j b d → Went k m i a d
  went_join k h m i j a b d le ge first second = record {
    size = second.size ∙ first.size;
    cell = λ e free apart. second.cell e
        (⊎_elim (λ (x : e < c + i). inl (omega (arith, x, ge)))
        (λ (x : (filled < e) × ((e < k) ⊎ (m ≤ e))). inr (x.0, ⊎_elim (λ (y : e < k). inl (omega (arith, y, le))) (λ (y : m ≤ e). inr y) x.1)) free) apart
        ∙ first.cell e free apart;
  }

  pub went_more : (k h m i : ℕ) (before now : List ℤ) → k ≤ h → Went h m i before now → Went k m i before now
  went_more k h m i before now le g = record {
    size = g.size;
    cell = λ d free apart. g.cell d
        (⊎_elim (λ (x : d < c + i). inl x)
        (λ (x : (filled < d) × ((d < k) ⊎ (m ≤ d))). inr (x.0, ⊎_elim (λ (y : d < k). inl (omega (arith, y, le))) (λ (y : m ≤ d). inr y) x.1)) free) apart;
  }

  -- ---- names

  -- a seat before c, or between `filled` and k
  abbrev pub SeatIsClear : ℕ → ℕ → Seat → Type 0
  SeatIsClear k size (Cell s) = (s + size ≤ c) ⊎ ((filled < s) × (s + size ≤ k))
  SeatIsClear k size (Tokens port first step) = Unit {0}

  abbrev pub AreClear : ℕ → List Name → Type 0
  AreClear k names = (text : List ℕ) (x : Name) → named text names ≡ Some x → SeatIsClear k (scalars_of_type x.shape) x.seat

  seat_below : (k size : ℕ) (seat : Seat) → c ≤ k → SeatIsClear k size seat → SeatIsBelow k size seat
  seat_below k size (Cell s) le h = ⊎_elim (λ (a : s + size ≤ c). omega (arith, a, le)) (λ (a : (filled < s) × (s + size ≤ k)). a.1) h
  seat_below k size (Tokens port first step) le h = tt

  pub clear_below : (k : ℕ) (names : List Name) → c ≤ k → AreClear k names → AreBelow k names
  clear_below k names le clear text x e = seat_below k (scalars_of_type x.shape) x.seat le (clear text x e)

  seat_clear : (k size : ℕ) (seat : Seat) → SeatIsBelow c size seat → SeatIsClear k size seat
  seat_clear k size (Cell s) h = inl h
  seat_clear k size (Tokens port first step) h = tt

  pub below_clear : (k : ℕ) (names : List Name) → AreBelow c names → AreClear k names
  below_clear k names below text x e = seat_clear k (scalars_of_type x.shape) x.seat (below text x e)

  seat_wider : (k h size : ℕ) (seat : Seat) → k ≤ h → SeatIsClear k size seat → SeatIsClear h size seat
  seat_wider k h size (Cell s) le g = ⊎_elim (λ (a : s + size ≤ c). inl a) (λ (a : (filled < s) × (s + size ≤ k)). inr (a.0, let b = a.1 in omega (arith, b, le))) g
  seat_wider k h size (Tokens port first step) le g = tt

  pub clear_wider : (k h : ℕ) (names : List Name) → k ≤ h → AreClear k names → AreClear h names
  clear_wider k h names le clear text x e = seat_wider k h (scalars_of_type x.shape) x.seat le (clear text x e)

  -- .. with a variable in a cell from k on
  pub clear_front : (k h : ℕ) (names : List Name) (text : List ℕ) (t : Scalar) (v : ℕ) → k ≤ h → filled < v → v + 1 ≤ h → AreClear k names → AreClear h (local text t v ∷ names)
  clear_front k h names text t v le from to clear other y e = by (bytes_eq text other) e
    where
      by : (b : Bool) → (if b then Some (local text t v) else named other names) ≡ Some y → SeatIsClear h (scalars_of_type y.shape) y.seat
      by true f = let same : local text t v ≡ y = cc in subst (λ (z : Name). SeatIsClear h (scalars_of_type z.shape) z.seat) same (inr (from, to))
      by false f = seat_wider k h (scalars_of_type y.shape) y.seat le (clear other y f)

  seat_went : (k m i : ℕ) (before now zs : List ℤ) (seat : Seat) → Went k m i before now → SeatIsClear k (length zs) seat → SeatIsApart w.low w.high (length zs) seat → StandAt seat w.tokens before zs → StandAt seat w.tokens now zs
  seat_went k m i before now zs (Cell s) g clear apart stands j z e =
      let within = slice_get_within zs j z e in
      g.cell (s + j)
      (⊎_elim (λ (a : s + length zs ≤ c). inl (omega (arith, a, within))) (λ (a : (filled < s) × (s + length zs ≤ k)). let x = a.0 in let y = a.1 in inr (omega (arith, x), inl (omega (arith, y, within)))) clear)
      (⊎_elim (λ (a : s + length zs ≤ w.low). inl (omega (arith, a, within))) (λ (a : w.high ≤ s). inr (omega (arith, a))) apart) ∙ stands j z e
  seat_went k m i before now zs (Tokens port first step) g clear apart stands j z e = stands j z e

  pub holds_went : (names : List Name) (env : Env) (k m i : ℕ) (before now : List ℤ) → Went k m i before now → AreClear k names → AllApart w.low w.high names → Holds names w.tokens before env → Holds names w.tokens now env
  holds_went names env k m i before now g clear apart holds text x e =
      let h : HoldsName w.tokens before env text x = holds text x e in
      let size : scalars_of_type x.shape ≡ length (flat h.value) = sym (flat_length _ h.value h.of_type ∙ scalars_same x.shape) in
      record {
        value = h.value;
        meant = h.meant;
        of_type = h.of_type;
        stands = seat_went k m i before now (flat h.value) x.seat g (subst (λ n. SeatIsClear k n x.seat) size (clear text x e)) (subst (λ n. SeatIsApart w.low w.high n x.seat) size (apart text x e)) h.stands;
      }

  -- ---- what elements find

  -- the cells hold what the names mean, none of which lies among those that are filled or from k on
  pub record IsSet (names : List Name) (env : Env) (k m : ℕ) (cells : List ℤ) : Type 0 where
    pub clear : AreClear k names × AreClear k globals
    pub apart : AllApart w.low w.high names × AllApart w.low w.high globals
    pub free : AreApart c m w.low w.high
    pub room : m ≤ length cells
    pub held : Holds names w.tokens cells env × Holds globals w.tokens cells (outside env.globals) × HasRoom fs w.high cells

  pub set_ready : (names : List Name) (env : Env) (k m : ℕ) (cells : List ℤ) → c ≤ k → IsSet names env k m cells → Ready fs globals w serves frames names env k m cells
  set_ready names env k m cells le r = record {
    below = (clear_below k names le r.clear.0, clear_below k globals le r.clear.1);
    apart = r.apart;
    free = apart_last c k m w.low w.high le r.free;
    room = r.room;
    held = r.held;
  }

  pub set_went : (names : List Name) (env : Env) (k m i : ℕ) (before now : List ℤ) → Went k m i before now → IsSet names env k m before → IsSet names env k m now
  set_went names env k m i before now g r = record {
    clear = r.clear;
    apart = r.apart;
    free = r.free;
    room = let room = r.room in let size = g.size in omega (arith, room, size);
    held = (
      holds_went names env k m i before now g r.clear.0 r.apart.0 r.held.0,
      holds_went globals (outside env.globals) k m i before now g r.clear.1 r.apart.1 r.held.1,
      λ some. let h = r.held.2 some in let size = g.size in omega (arith, h, size),
    );
  }

  -- .. with the variable of a generator that is at a number
  pub set_number_held : (names : List Name) (env : Env) (k m : ℕ) (cells : List ℤ) (text : List ℕ) (t : Scalar) (i : ℤ) → c ≤ k → filled < k → k + 2 ≤ m → IsSize t → IsNum i → slice_get cells (k + 1) ≡ Some (conv t i)
      → IsSet names env k m cells → IsSet (local text t (k + 1) ∷ names) (with_local (variable text (Single t) false (stored (Single t) (Num i))) env) (k + 2) m cells
  set_number_held names env k m cells text t i le less more size num there r =
      let made = single_stored t (Num i) i size num refl in
      let far : AreApart (k + 1) (k + 1 + 1) w.low w.high = cell_apart c m (k + 1) w.low w.high r.free (omega (arith, le)) (omega (arith, more)) in
      record {
        clear = (clear_front k (k + 2) names text t (k + 1) (omega arith) (omega (arith, less)) (omega arith) r.clear.0, clear_wider k (k + 2) globals (omega arith) r.clear.1);
        apart = (front_apart w.low w.high names text t (k + 1) far r.apart.0, r.apart.1);
        free = r.free;
        room = r.room;
        held = (
          front_holds w.tokens names text t (Single t) false (k + 1) cells env (stored (Single t) (Num i)) (conv t i) made.0 made.1 there r.held.0,
          r.held.1,
          r.held.2,
        );
      }
