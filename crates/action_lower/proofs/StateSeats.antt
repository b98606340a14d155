-- The variables of an actor as globals, and the pattern variables of an action as locals.
use Rattle.std.proofs.Common.{◌≡◌, ℕ, zero, suc, ◌+◌, ◌*◌, ◌≤◌, ◌⊎◌, inl, inr, ⊎_elim, Bool, true, false, ℤ, List, [], ◌∷◌, ◌++◌, map, length, take, refl, sym, ap, subst, ◌∙◌, Option, None, Some, arith, append_assoc, length-append}
use Rattle.std.specs.Prelude.{Contains, if◌then◌else◌, slice_get}
use Rattle.std.specs.Str.{bytes_eq}
use Rattle.std.proofs.Math.Nat.{mul-le-mul_right}
use Rattle.std.proofs.lemmas.Bool.{true≢false}
use Rattle.std.proofs.lemmas.Slice.Eq.{bytes_eq-Decides}
use Rattle.rvc_base.specs.Storing.{IsSize}
use Rattle.rvc_base.specs.declared.scalar.Scalar.{Scalar}
use Rattle.cal_model.specs.Actor.{Actor, Held, Pattern}
use Rattle.cal_model.specs.ActorState.{AreVarsOf}
use Rattle.cal_model.specs.Env.{Var, find, look_up}
use Rattle.cal_model.specs.Rates.{parts_times, taken_on}
use Rattle.cal_model.specs.Selection.{kind_of_port, pattern_var, pattern_vars, pattern_vars_from, tokens_on}
use Rattle.cal_model.specs.Sound.{AreDistinct, Each, IsPattern, IsRepeat, IsSound, max_rate, scalars_of_vars}
use Rattle.cal_model.specs.Value.{IsOf, IsType, Shape, kind_of_type, scalars_of_type}
use Rattle.cal_model.proofs.KindValues.{of-type}
use Rattle.lower_base.specs.declared.names.Seat.{Seat}
use Rattle.lower_base.specs.declared.names.Seat.TheVariants.{Cell, Tokens}
use Rattle.lower_base.specs.Calling.{outside}
use Rattle.lower_base.specs.Flat.{flat}
use Rattle.lower_base.specs.Held.{AllApart, AreBelow, Holds, HoldsName, SeatIsApart, SeatIsBelow}
use Rattle.lower_base.specs.Names.{Name, named}
use Rattle.lower_base.proofs.Keeping.{flat_length, scalars_same}
use Rattle.lower_stmt.specs.Bodies.{AreLaid, HoldLocals, SeatLies}
use Rattle.lower_stmt.specs.Changing.{AreStored, AreTyped, HoldsVars, NamesApart, SeatsApart, var_named}
use Rattle.lower_stmt.proofs.Scoping.{choose_name}
use Rattle.action_lower.specs.Seats.{numbers_of_vars, pattern_seat, pattern_seats, pattern_seats_from, pattern_shape, var_seat, var_seats}
use Rattle.action_lower.proofs.BelowState.{each-below, vars-below}
use Rattle.action_lower.proofs.Holding.{AreHeld, Found, held-found}
use Rattle.action_lower.proofs.PatternRates.{TakesItsOwn}

-- ---- names that differ

not-first : {X : Type 0} (p r : X) (ps : List X) → ¬ Contains (p ∷ ps) r → p ≡ r → ⊥
not-first p r ps h e = h (0, omega arith, e)

not-later : {X : Type 0} (p r : X) (ps : List X) → ¬ Contains (p ∷ ps) r → ¬ Contains ps r
not-later p r ps h (k, low, e) = h (suc k, omega arith, e)

-- no variable has this name
abbrev pub NoneNamed : List ℕ → List Held → Type 0
NoneNamed text [] = Unit {0}
NoneNamed text (h ∷ hs) = (h.name ≡ text → ⊥) × NoneNamed text hs

abbrev pub Differ : List Held → Type 0
Differ [] = Unit {0}
Differ (h ∷ hs) = NoneNamed h.name hs × Differ hs

none-named : (text : List ℕ) (hs : List Held) (rest : List (List ℕ)) → ¬ Contains (map (λ h. h.name) hs ++ rest) text → NoneNamed text hs
none-named text [] rest away = tt
none-named text (h ∷ hs) rest away = (not-first h.name text (map (λ h. h.name) hs ++ rest) away, none-named text hs rest (not-later h.name text (map (λ h. h.name) hs ++ rest) away))

differ : (hs : List Held) (rest : List (List ℕ)) → AreDistinct (map (λ h. h.name) hs ++ rest) → Differ hs
differ [] rest d = tt
differ (h ∷ hs) rest d = (none-named h.name hs rest d.0, differ hs rest d.1)

pub vars-differ : (actor : Actor) → IsSound actor → Differ actor.vars
vars-differ actor sound =
    differ actor.vars (map (λ f. f.name) actor.funs ++ map (λ p. p.name) actor.procs)
    (subst AreDistinct (append_assoc (map (λ x. x.name) actor.vars) (map (λ f. f.name) actor.funs) (map (λ p. p.name) actor.procs)) sound.distinct)

-- ---- where they stand

abbrev BeginsFrom : ℕ → Seat → Type 0
BeginsFrom n (Cell c) = n ≤ c
BeginsFrom n (Tokens port first step) = ⊥

later-begins : (seat : Seat) (n m : ℕ) → n ≤ m → BeginsFrom m seat → BeginsFrom n seat
later-begins (Cell c) n m le h = omega (arith, le, h)
later-begins (Tokens port first step) n m le h = absurd h

vars-begin : (c : ℕ) (hs : List Held) (text : List ℕ) (y : Name) → named text (var_seats c hs) ≡ Some y → BeginsFrom c y.seat
vars-begin c [] text y e = cc
vars-begin c (h ∷ hs) text y e =
    ⊎_elim (λ (f : (bytes_eq h.name text ≡ true) × (var_seat c h ≡ y)). subst (λ (z : Name). BeginsFrom c z.seat) f.1 (omega arith))
    (λ (f : (bytes_eq h.name text ≡ false) × (named text (var_seats (c + scalars_of_type h.shape) hs) ≡ Some y)).
    later-begins y.seat c (c + scalars_of_type h.shape) (omega arith) (vars-begin (c + scalars_of_type h.shape) hs text y f.1))
    (choose_name (bytes_eq h.name text) (var_seat c h) (named text (var_seats (c + scalars_of_type h.shape) hs)) y e)

vars-typed : (c : ℕ) (hs : List Held) → Each (λ h. IsType h.shape × IsOf h.shape h.value) hs → AreTyped (var_seats c hs)
vars-typed c [] types text y e = cc
vars-typed c (h ∷ hs) types text y e =
    ⊎_elim (λ (f : (bytes_eq h.name text ≡ true) × (var_seat c h ≡ y)). subst (λ (z : Name). IsType z.shape) f.1 types.0.0)
    (λ (f : (bytes_eq h.name text ≡ false) × (named text (var_seats (c + scalars_of_type h.shape) hs) ≡ Some y)). vars-typed (c + scalars_of_type h.shape) hs types.1 text y f.1)
    (choose_name (bytes_eq h.name text) (var_seat c h) (named text (var_seats (c + scalars_of_type h.shape) hs)) y e)

same-texts : (a b c : List ℕ) → bytes_eq a b ≡ true → bytes_eq a c ≡ true → bytes_eq b c ≡ true
same-texts a b c e f = (bytes_eq-Decides b c).1 (sym ((bytes_eq-Decides a b).0 e) ∙ (bytes_eq-Decides a c).0 f)

before-apart : (seat : Seat) (c size n : ℕ) → BeginsFrom (c + size) seat → SeatsApart (Cell c) size seat n
before-apart (Cell d) c size n h = inr h
before-apart (Tokens port first step) c size n h = absurd h

behind-apart : (seat : Seat) (c size n : ℕ) → BeginsFrom (c + size) seat → SeatsApart seat n (Cell c) size
behind-apart (Cell d) c size n h = inl h
behind-apart (Tokens port first step) c size n h = tt

vars-apart : (c : ℕ) (hs : List Held) → NamesApart (var_seats c hs)
vars-apart c [] text other x y e f differ = cc
vars-apart c (h ∷ hs) text other x y e f differ =
    ⊎_elim (λ (i : (bytes_eq h.name text ≡ true) × (var_seat c h ≡ x)).
    ⊎_elim (λ (j : (bytes_eq h.name other ≡ true) × (var_seat c h ≡ y)). absurd (true≢false (sym (same-texts h.name text other i.0 j.0) ∙ differ)))
    (λ (j : (bytes_eq h.name other ≡ false) × (named other tail ≡ Some y)).
    subst (λ (z : Name). SeatsApart z.seat (scalars_of_type z.shape) y.seat (scalars_of_type y.shape)) i.1 (before-apart y.seat c size (scalars_of_type y.shape) (vars-begin (c + size) hs other y j.1)))
    (choose_name (bytes_eq h.name other) (var_seat c h) (named other tail) y f))
    (λ (i : (bytes_eq h.name text ≡ false) × (named text tail ≡ Some x)).
    ⊎_elim (λ (j : (bytes_eq h.name other ≡ true) × (var_seat c h ≡ y)).
    subst (λ (z : Name). SeatsApart x.seat (scalars_of_type x.shape) z.seat (scalars_of_type z.shape)) j.1 (behind-apart x.seat c size (scalars_of_type x.shape) (vars-begin (c + size) hs text x i.1)))
    (λ (j : (bytes_eq h.name other ≡ false) × (named other tail ≡ Some y)). vars-apart (c + size) hs text other x y i.1 j.1 differ)
    (choose_name (bytes_eq h.name other) (var_seat c h) (named other tail) y f))
    (choose_name (bytes_eq h.name text) (var_seat c h) (named text tail) x e)
  where
    size : ℕ
    size = scalars_of_type h.shape

    tail : List Name
    tail = var_seats (c + size) hs

pub below-apart : (low high : ℕ) (names : List Name) → AreBelow low names → AllApart low high names
below-apart low high names below text x e = by x.seat (below text x e)
  where
    by : (seat : Seat) → SeatIsBelow low (scalars_of_type x.shape) seat → SeatIsApart low high (scalars_of_type x.shape) seat
    by (Cell c) h = inl h
    by (Tokens port first step) h = tt

pub globals-laid : (hs : List Held) (low high n : ℕ) → Each (λ h. IsType h.shape × IsOf h.shape h.value) hs → scalars_of_vars hs ≤ low → low ≤ n → AreLaid (var_seats 0 hs) low high n []
globals-laid hs low high n types le ge = (
  each-below n (var_seats 0 hs) (vars-below n 0 hs (omega (arith, le, ge))),
  vars-apart 0 hs,
  vars-typed 0 hs types,
  below-apart low high (var_seats 0 hs) (each-below low (var_seats 0 hs) (vars-below low 0 hs (omega (arith, le)))),
)

-- ---- what they hold

kept-is : (b : Bool) (s t : Shape) → (if b then Some s else None) ≡ Some t → t ≡ s
kept-is true s t e = cc
kept-is false s t e = cc

vars-stored : (c : ℕ) (hs : List Held) (xs : List Var) → AreVarsOf hs xs → AreStored (var_seats c hs) (outside xs)
vars-stored c [] [] are text x u t e f g = cc
vars-stored c [] (v ∷ vs) are text x u t e f g = absurd are
vars-stored c (h ∷ hs) [] are text x u t e f g = absurd are
vars-stored c (h ∷ hs) (v ∷ vs) are text x u t e f g =
    by (bytes_eq h.name text) e (ap (λ n. if bytes_eq n text then Some v else var_named text vs) (sym are.0.name) ∙ f) (λ i j. vars-stored (c + scalars_of_type h.shape) hs vs are.1 text x u t i j g)
  where
    by : (b : Bool) → (if b then Some (var_seat c h) else named text (var_seats (c + scalars_of_type h.shape) hs)) ≡ Some x → (if b then Some v else var_named text vs) ≡ Some u
        → (named text (var_seats (c + scalars_of_type h.shape) hs) ≡ Some x → var_named text vs ≡ Some u → t ≡ x.shape) → t ≡ x.shape
    by true i j later =
        let one : var_seat c h ≡ x = cc in
        let two : v ≡ u = cc in
        kept-is h.changes h.shape t (sym are.0.kept ∙ ap (λ (y : Var). y.kept) two ∙ g) ∙ ap (λ (n : Name). n.shape) one
    by false i j later = later i j

pub globals-held : (tokens : ℕ → List ℤ) (cells : List ℤ) (hs : List Held) (xs : List Var) → AreVarsOf hs xs → AreHeld tokens cells (var_seats 0 hs) xs → HoldsVars (var_seats 0 hs) tokens cells (outside xs)
globals-held tokens cells hs xs are held = (
  λ text n e.
      let f : Found tokens cells text xs n = held-found tokens cells (var_seats 0 hs) xs text n held e in
      record { value = f.value; meant = f.meant; of_type = f.of_type; stands = f.stands },
  vars-stored 0 hs xs are,
)

-- ---- and back

other-name : (text : List ℕ) (c : ℕ) (hs : List Held) (other : List ℕ) (y : Name) → NoneNamed other hs → named text (var_seats c hs) ≡ Some y → bytes_eq other text ≡ false
other-name text c [] other y all e = cc
other-name text c (h ∷ hs) other y all e =
    ⊎_elim (λ (f : (bytes_eq h.name text ≡ true) × (var_seat c h ≡ y)).
    by (bytes_eq other text) refl (λ (i : bytes_eq other text ≡ true). all.0 ((bytes_eq-Decides h.name text).0 f.0 ∙ sym ((bytes_eq-Decides other text).0 i))))
    (λ (f : (bytes_eq h.name text ≡ false) × (named text (var_seats (c + scalars_of_type h.shape) hs) ≡ Some y)). other-name text (c + scalars_of_type h.shape) hs other y all.1 f.1)
    (choose_name (bytes_eq h.name text) (var_seat c h) (named text (var_seats (c + scalars_of_type h.shape) hs)) y e)
  where
    by : (b : Bool) → bytes_eq other text ≡ b → (bytes_eq other text ≡ true → ⊥) → b ≡ false
    by true e away = absurd (away e)
    by false e away = refl

split-get : {X : Type 0} (xs ys : List X) (k : ℕ) (z : X) → slice_get (xs ++ ys) k ≡ Some z → (slice_get xs k ≡ Some z) ⊎ ((j : ℕ) × (k ≡ length xs + j) × (slice_get ys j ≡ Some z))
split-get [] ys k z e = inr (k, omega arith, e)
split-get (x ∷ xs) ys zero z e = inl e
split-get (x ∷ xs) ys (suc k) z e =
    ⊎_elim (λ (f : slice_get xs k ≡ Some z). inl f) (λ (f : (j : ℕ) × (k ≡ length xs + j) × (slice_get ys j ≡ Some z)). let at = f.1 in inr (f.0, omega (arith, at), f.2)) (split-get xs ys k z e)

-- the numbers of the variables stand in their cells
pub numbers-stand : (tokens : ℕ → List ℤ) (cells : List ℤ) (c : ℕ) (hs : List Held) (xs : List Var) → AreVarsOf hs xs → Each (λ h. IsType h.shape × IsOf h.shape h.value) hs → Differ hs → Holds (var_seats c hs) tokens cells (outside xs)
    → (k : ℕ) (z : ℤ) → slice_get (numbers_of_vars xs) k ≡ Some z → slice_get cells (c + k) ≡ Some z
numbers-stand tokens cells c [] [] are types differ holds k z e = cc
numbers-stand tokens cells c [] (x ∷ xs) are types differ holds k z e = absurd are
numbers-stand tokens cells c (h ∷ hs) [] are types differ holds k z e = absurd are
numbers-stand tokens cells c (h ∷ hs) (x ∷ xs) are types differ holds k z e =
    ⊎_elim (λ (f : slice_get (flat x.value) k ≡ Some z). first k z f)
    (λ (f : (j : ℕ) × (k ≡ length (flat x.value) + j) × (slice_get (numbers_of_vars xs) j ≡ Some z)).
    let at = f.1 in
    let place : c + scalars_of_type h.shape + f.0 ≡ c + k = omega (arith, size, at) in
    ap (slice_get cells) (sym place) ∙ numbers-stand tokens cells (c + scalars_of_type h.shape) hs xs are.1 types.1 differ.1 rest f.0 z f.2)
    (split-get (flat x.value) (numbers_of_vars xs) k z e)
  where
    size : length (flat x.value) ≡ scalars_of_type h.shape
    size = flat_length (kind_of_type h.shape) x.value (of-type x.value h.shape types.0.0 are.0.value) ∙ scalars_same h.shape

    same-name : bytes_eq h.name h.name ≡ true
    same-name = (bytes_eq-Decides h.name h.name).1 refl

    first : (k : ℕ) (z : ℤ) → slice_get (flat x.value) k ≡ Some z → slice_get cells (c + k) ≡ Some z
    first k z e =
        let here : named h.name (var_seats c (h ∷ hs)) ≡ Some (var_seat c h) = ap (λ b. if b then Some (var_seat c h) else named h.name (var_seats (c + scalars_of_type h.shape) hs)) same-name in
        let n : HoldsName tokens cells (outside (x ∷ xs)) h.name (var_seat c h) = holds h.name (var_seat c h) here in
        let found : look_up h.name (outside (x ∷ xs)) ≡ Some x.value =
        ap (λ t. if bytes_eq t h.name then Some x.value else find h.name xs) are.0.name ∙ ap (λ b. if b then Some x.value else find h.name xs) same-name in
        let value : Some n.value ≡ Some x.value = sym n.meant ∙ found in
        let same : n.value ≡ x.value = cc in
        n.stands k z (ap (λ v. slice_get (flat v) k) same ∙ e)

    rest : Holds (var_seats (c + scalars_of_type h.shape) hs) tokens cells (outside xs)
    rest text y e =
        let other : bytes_eq h.name text ≡ false = other-name text (c + scalars_of_type h.shape) hs h.name y differ.0 e in
        let there : named text (var_seats c (h ∷ hs)) ≡ Some y = ap (λ b. if b then Some (var_seat c h) else named text (var_seats (c + scalars_of_type h.shape) hs)) other ∙ e in
        let n : HoldsName tokens cells (outside (x ∷ xs)) text y = holds text y there in
        let found : look_up text (outside (x ∷ xs)) ≡ look_up text (outside xs) =
        ap (λ t. if bytes_eq t text then Some x.value else find text xs) are.0.name ∙ ap (λ b. if b then Some x.value else find text xs) other in
        record { value = n.value; meant = sym found ∙ n.meant; of_type = n.of_type; stands = n.stands }

pub numbers-many : (hs : List Held) (xs : List Var) → AreVarsOf hs xs → Each (λ h. IsType h.shape × IsOf h.shape h.value) hs → length (numbers_of_vars xs) ≡ scalars_of_vars hs
numbers-many [] [] are types = refl
numbers-many [] (x ∷ xs) are types = absurd are
numbers-many (h ∷ hs) [] are types = absurd are
numbers-many (h ∷ hs) (x ∷ xs) are types =
    let size : length (flat x.value) ≡ scalars_of_type h.shape = flat_length (kind_of_type h.shape) x.value (of-type x.value h.shape types.0.0 are.0.value) ∙ scalars_same h.shape in
    let rest = numbers-many hs xs are.1 types.1 in
    omega (arith, length-append (flat x.value) (numbers_of_vars xs), size, rest)

pub take-is : (zs cells : List ℤ) → ((k : ℕ) (z : ℤ) → slice_get zs k ≡ Some z → slice_get cells k ≡ Some z) → take (length zs) cells ≡ zs
take-is [] cells at = refl
take-is (z ∷ zs) [] at = let clash : None ≡ Some z = at 0 z refl in cc
take-is (z ∷ zs) (y ∷ cells) at =
    let same : y ≡ z = let e : Some y ≡ Some z = at 0 z refl in cc in
    ap (λ w. w ∷ take (length zs) cells) same ∙ ap (λ ws. z ∷ ws) (take-is zs cells (λ k w e. at (suc k) w e))

-- ---- pattern variables

abbrev IsToken : Seat → Type 0
IsToken (Cell c) = ⊥
IsToken (Tokens port first step) = Unit {0}

abbrev AreTokens : List Name → Type 0
AreTokens [] = Unit {0}
AreTokens (x ∷ xs) = IsToken x.seat × IsType x.shape × AreTokens xs

tokens-join : (xs ys : List Name) → AreTokens xs → AreTokens ys → AreTokens (xs ++ ys)
tokens-join [] ys h g = g
tokens-join (x ∷ xs) ys h g = (h.0, h.1, tokens-join xs ys h.2 g)

pub tokens-laid : (globals : List Name) (low high n : ℕ) (xs : List Name) → AreTokens xs → AreLaid globals low high n [] → AreLaid globals low high n xs
tokens-laid globals low high n [] are base = base
tokens-laid globals low high n (x ∷ xs) are base = (n, lies x.seat are.0, omega arith, are.1, apart x.seat are.0, tokens-laid globals low high n xs are.2 base)
  where
    lies : (seat : Seat) → IsToken seat → SeatLies n n (scalars_of_type x.shape) seat
    lies (Cell c) h = absurd h
    lies (Tokens port first step) h = tt

    apart : (seat : Seat) → IsToken seat → SeatIsApart low high (scalars_of_type x.shape) seat
    apart (Cell c) h = absurd h
    apart (Tokens port first step) h = tt

pattern-typed : (t : Scalar) (repeat : Option ℕ) (names : ℕ) → IsSize t → IsRepeat repeat → 1 ≤ names → parts_times names repeat ≤ max_rate → IsType (pattern_shape t repeat)
pattern-typed t None names size is some few = size
pattern-typed t (Some n) names size is some few =
    let wide : 1 * n ≤ names * n = mul-le-mul_right n some in
    let e : 1 * n ≡ n = omega arith in
    let f : n * 1 ≡ n = omega arith in
    (is, omega (arith, wide, few, e, f), size)

names-tokens : (t : Scalar) (q : Pattern) → IsSize t → IsRepeat q.repeat → parts_times (length q.names) q.repeat ≤ max_rate → (k : ℕ) (texts : List (List ℕ)) → k + length texts ≤ length q.names → AreTokens (pattern_seats_from t q k texts)
names-tokens t q size is few k [] low = tt
names-tokens t q size is few k (text ∷ texts) low =
    tokens-join (pattern_seats_from t q (suc k) texts) (pattern_seat t q k text ∷ []) (names-tokens t q size is few (suc k) texts (omega (arith, low))) (tt, pattern-typed t q.repeat (length q.names) size is (omega (arith, low)) few, tt)

pub patterns-tokens : (actor : Actor) (all qs : List Pattern) → ((port : ℕ) → IsSize (kind_of_port actor.ins port)) → ((port : ℕ) → taken_on port all ≤ max_rate) → Each (IsPattern actor) qs → Each (TakesItsOwn all) qs → AreTokens (pattern_seats actor.ins qs)
patterns-tokens actor all [] sizes few is own = tt
patterns-tokens actor all (q ∷ qs) sizes few is own =
    tokens-join (pattern_seats actor.ins qs) (pattern_seats_from (kind_of_port actor.ins q.port) q 0 q.names) (patterns-tokens actor all qs sizes few is.1 own.1)
    (names-tokens (kind_of_port actor.ins q.port) q (sizes q.port) is.0.repeat (let m : taken_on q.port all ≤ max_rate = few q.port in let o = own.0 in omega (arith, m, o)) 0 q.names (omega arith))

abbrev AreFixed : List Var → Type 0
AreFixed [] = Unit {0}
AreFixed (x ∷ xs) = (x.kept ≡ None) × AreFixed xs

fixed-join : (xs ys : List Var) → AreFixed xs → AreFixed ys → AreFixed (xs ++ ys)
fixed-join [] ys h g = g
fixed-join (x ∷ xs) ys h g = (h.0, fixed-join xs ys h.1 g)

names-fixed : (t : Scalar) (us : List ℤ) (q : Pattern) (k : ℕ) (texts : List (List ℕ)) → AreFixed (pattern_vars_from t us q k texts)
names-fixed t us q k [] = tt
names-fixed t us q k (text ∷ texts) = fixed-join (pattern_vars_from t us q (suc k) texts) (pattern_var t us q k text ∷ []) (names-fixed t us q (suc k) texts) (refl, tt)

pub patterns-fixed : (actor : Actor) (u : List (List ℤ)) (qs : List Pattern) → AreFixed (pattern_vars actor u qs)
patterns-fixed actor u [] = tt
patterns-fixed actor u (q ∷ qs) =
    fixed-join (pattern_vars actor u qs) (pattern_vars_from (kind_of_port actor.ins q.port) (tokens_on u q.port) q 0 q.names) (patterns-fixed actor u qs) (names-fixed (kind_of_port actor.ins q.port) (tokens_on u q.port) q 0 q.names)

pub locals-held : (tokens : ℕ → List ℤ) (cells : List ℤ) (ns : List Name) (xs : List Var) → AreHeld tokens cells ns xs → AreFixed xs → HoldLocals ns tokens cells xs
locals-held tokens cells [] [] h fixed = tt
locals-held tokens cells [] (x ∷ xs) h fixed = absurd h
locals-held tokens cells (n ∷ ns) [] h fixed = absurd h
locals-held tokens cells (n ∷ ns) (x ∷ xs) h fixed = (
  record { called = h.0.name; stored = λ t e. let clash : None ≡ Some t = sym fixed.0 ∙ e in cc; of_type = h.0.of_type; stands = h.0.stands },
  locals-held tokens cells ns xs h.1 fixed.1,
)
