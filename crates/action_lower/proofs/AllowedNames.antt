-- What may be written and read where an action's code stands: the names that it sees.
use Rattle.std.proofs.Common.{◌≡◌, ℕ, zero, suc, ◌+◌, ◌*◌, ◌<◌, ◌⊎◌, inl, inr, ⊎_elim, Bool, true, false, List, [], ◌∷◌, ◌++◌, length, map, refl, sym, ap, ◌∙◌, subst, Option, None, Some, arith}
use Rattle.std.specs.Prelude.{if◌then◌else◌}
use Rattle.std.specs.Str.{bytes_eq}
use Rattle.rvc_base.specs.declared.scalar.Scalar.{Scalar}
use Rattle.cal_model.specs.Actor.{Action, Actor, Held, Pattern, Port}
use Rattle.cal_model.specs.Kinding.{Known, Names, known_as, meant_by, with_known}
use Rattle.cal_model.specs.Rates.{parts_times, taken_on}
use Rattle.cal_model.specs.Selection.{kind_of_port}
use Rattle.cal_model.specs.Sound.{AreDistinct, Each, kind_of_tokens, known_of, names_of, with_pattern, with_patterns}
use Rattle.cal_model.specs.Value.{Kind, scalars_of_type}
use Rattle.lower_base.specs.Allowing.{Allowed, AreRead, MayRead, MayWrite, SeatIsRead}
use Rattle.lower_base.specs.Names.{Name, named}
use Rattle.lower_stmt.specs.AllowingRuns.{ChangesAreWritten, SeatIsWritten}
use Rattle.action_lower.specs.Seats.{pattern_seat, pattern_seats, pattern_seats_from, pattern_shape, seen_seats, var_seat, var_seats}
use Rattle.action_lower.proofs.PatternRates.{TakesItsOwn, take-their-own}

-- ---- tokens

module _ (a : Allowed) where
  abbrev EachRead : List Name → Type 0
  EachRead [] = Unit {0}
  EachRead (x ∷ xs) = SeatIsRead a (scalars_of_type x.shape) x.seat × EachRead xs

  read-join : (xs ys : List Name) → EachRead xs → EachRead ys → EachRead (xs ++ ys)
  read-join [] ys h g = g
  read-join (x ∷ xs) ys h g = (h.0, read-join xs ys h.1 g)

  each-read : (xs : List Name) → EachRead xs → AreRead a xs
  each-read [] h text x e = cc
  each-read (y ∷ ys) h text x e = by (bytes_eq y.text text) e (each-read ys h.1 text x)
    where
      by : (b : Bool) → (if b then Some y else named text ys) ≡ Some x → (named text ys ≡ Some x → SeatIsRead a (scalars_of_type x.shape) x.seat) → SeatIsRead a (scalars_of_type x.shape) x.seat
      by true f more = let same : y ≡ x = cc in subst (λ (z : Name). SeatIsRead a (scalars_of_type z.shape) z.seat) same h.0
      by false f more = more f

  -- variables stand in cells
  vars-each : (c : ℕ) (hs : List Held) → EachRead (var_seats c hs)
  vars-each c [] = tt
  vars-each c (h ∷ hs) = (tt, vars-each (c + scalars_of_type h.shape) hs)

  pub vars-read : (c : ℕ) (hs : List Held) → AreRead a (var_seats c hs)
  vars-read c hs = each-read (var_seats c hs) (vars-each c hs)

  -- so many tokens of a port may be read
  abbrev pub PortIsRead : ℕ → ℕ → Type 0
  PortIsRead port n = (k : ℕ) → k < n → a.tokens port k ≡ true

  -- the token of a name, or one in each turn
  token-place : (n k j m : ℕ) → k < n → j < m → k + j * n < n * m
  token-place n k zero zero low less = absurd (omega (arith, less))
  token-place n k zero (suc m) low less = let e : n * suc m ≡ n + n * m = omega arith in let z : 0 * n ≡ 0 = omega arith in omega (arith, low, e, z)
  token-place n k (suc j) zero low less = absurd (omega (arith, less))
  token-place n k (suc j) (suc m) low less =
      let one = token-place n k j m low (omega (arith, less)) in
      let e : suc j * n ≡ n + j * n = omega arith in
      let f : n * suc m ≡ n + n * m = omega arith in
      omega (arith, one, e, f)

  name-read : (t : Scalar) (q : Pattern) (k : ℕ) → k < length q.names → PortIsRead q.port (parts_times (length q.names) q.repeat) → (repeat : Option ℕ) → q.repeat ≡ repeat → MayRead a q.port k (length q.names) (scalars_of_type (pattern_shape t repeat))
  name-read t q k low read None is j less =
      let n : ℕ = length q.names in
      let all : parts_times n q.repeat ≡ n * 1 = ap (λ r. parts_times n r) is in
      let one : j ≡ 0 = omega (arith, less) in
      let place : k + 0 * n ≡ k + j * n = ap (λ i. k + i * n) (sym one) in
      let zero-is : k + 0 * n ≡ k = omega arith in
      let wide : n * 1 ≡ n = omega arith in
      read (k + j * n) (omega (arith, low, all, place, zero-is, wide))
  name-read t q k low read (Some m) is j less =
      let n : ℕ = length q.names in
      let all : parts_times n q.repeat ≡ n * m = ap (λ r. parts_times n r) is in
      let many : scalars_of_type (pattern_shape t (Some m)) ≡ m * 1 = refl in
      let wide : m * 1 ≡ m = omega arith in
      let place = token-place n k j m low (omega (arith, less, many, wide)) in
      read (k + j * n) (omega (arith, place, all))

  names-read : (t : Scalar) (q : Pattern) (k : ℕ) (texts : List (List ℕ)) → k + length texts ≡ length q.names → PortIsRead q.port (parts_times (length q.names) q.repeat) → EachRead (pattern_seats_from t q k texts)
  names-read t q k [] size read = tt
  names-read t q k (text ∷ texts) size read =
      read-join (pattern_seats_from t q (suc k) texts) (pattern_seat t q k text ∷ []) (names-read t q (suc k) texts (omega (arith, size)) read) (name-read t q k (omega (arith, size)) read q.repeat refl, tt)

  -- .. of all patterns, each of which has a port of its own
  patterns-read : (ports : List Port) (all qs : List Pattern) → Each (TakesItsOwn all) qs → Each (λ q. PortIsRead q.port (taken_on q.port all)) qs → EachRead (pattern_seats ports qs)
  patterns-read ports all [] own read = tt
  patterns-read ports all (q ∷ qs) own read =
      read-join (pattern_seats ports qs) (pattern_seats_from (kind_of_port ports q.port) q 0 q.names) (patterns-read ports all qs own.1 read.1)
      (names-read (kind_of_port ports q.port) q 0 q.names (omega arith) (subst (PortIsRead q.port) own.0 read.0))

  pub seen-read : (actor : Actor) (act : Action) → AreDistinct (map (λ q. q.port) act.patterns) → Each (λ q. PortIsRead q.port (taken_on q.port act.patterns)) act.patterns → AreRead a (seen_seats actor act)
  seen-read actor act distinct read =
      each-read (seen_seats actor act)
      (read-join (pattern_seats actor.ins act.patterns) (var_seats 0 actor.vars) (patterns-read actor.ins act.patterns act.patterns (take-their-own act.patterns distinct) read) (vars-each 0 actor.vars))

  -- ---- what changes

  -- the cells of each variable that changes may be written, if they stand from one on
  abbrev pub VarsAreWritten : ℕ → List Held → Type 0
  VarsAreWritten c [] = Unit {0}
  VarsAreWritten c (h ∷ hs) = (h.changes ≡ true → MayWrite a c (scalars_of_type h.shape)) × VarsAreWritten (c + scalars_of_type h.shape) hs

  vars-change : (c : ℕ) (hs : List Held) → VarsAreWritten c hs → (text : List ℕ) (x : Name) (u : Known) → named text (var_seats c hs) ≡ Some x → known_as text (map known_of hs) ≡ Some u → u.changes ≡ true → SeatIsWritten a (scalars_of_type x.shape) x.seat
  vars-change c [] h text x u e m changes = cc
  vars-change c (v ∷ vs) h text x u e m changes = by (bytes_eq v.name text) e m (vars-change (c + scalars_of_type v.shape) vs h.1 text x u)
    where
      by : (b : Bool) → (if b then Some (var_seat c v) else named text (var_seats (c + scalars_of_type v.shape) vs)) ≡ Some x → (if b then Some (known_of v) else known_as text (map known_of vs)) ≡ Some u
          → (named text (var_seats (c + scalars_of_type v.shape) vs) ≡ Some x → known_as text (map known_of vs) ≡ Some u → u.changes ≡ true → SeatIsWritten a (scalars_of_type x.shape) x.seat)
          → SeatIsWritten a (scalars_of_type x.shape) x.seat
      by true f g more =
          let same : var_seat c v ≡ x = cc in
          let known : known_of v ≡ u = cc in
          subst (λ (z : Name). SeatIsWritten a (scalars_of_type z.shape) z.seat) same (h.0 (ap (λ (k : Known). k.changes) known ∙ changes))
      by false f g more = more f g changes

  pub globals-change : (actor : Actor) → VarsAreWritten 0 actor.vars → ChangesAreWritten a (var_seats 0 actor.vars) (names_of actor)
  globals-change actor h text x u e m changes = vars-change 0 actor.vars h text x u e m changes

  -- names of patterns stand for tokens
  abbrev AreTokens : List Name → Type 0
  AreTokens [] = Unit {0}
  AreTokens (x ∷ xs) = SeatIsWritten a (scalars_of_type x.shape) x.seat × AreTokens xs

  tokens-join : (xs ys : List Name) → AreTokens xs → AreTokens ys → AreTokens (xs ++ ys)
  tokens-join [] ys h g = g
  tokens-join (x ∷ xs) ys h g = (h.0, tokens-join xs ys h.1 g)

  names-tokens : (t : Scalar) (q : Pattern) (k : ℕ) (texts : List (List ℕ)) → AreTokens (pattern_seats_from t q k texts)
  names-tokens t q k [] = tt
  names-tokens t q k (text ∷ texts) = tokens-join (pattern_seats_from t q (suc k) texts) (pattern_seat t q k text ∷ []) (names-tokens t q (suc k) texts) (tt, tt)

  patterns-tokens : (ports : List Port) (qs : List Pattern) → AreTokens (pattern_seats ports qs)
  patterns-tokens ports [] = tt
  patterns-tokens ports (q ∷ qs) = tokens-join (pattern_seats ports qs) (pattern_seats_from (kind_of_port ports q.port) q 0 q.names) (patterns-tokens ports qs) (names-tokens (kind_of_port ports q.port) q 0 q.names)

  -- a name is among the first ones, or is one of the others
  named-in : (xs ys : List Name) → AreTokens xs → (text : List ℕ) (x : Name) → named text (xs ++ ys) ≡ Some x → (SeatIsWritten a (scalars_of_type x.shape) x.seat) ⊎ (named text ys ≡ Some x)
  named-in [] ys h text x e = inr e
  named-in (y ∷ xs) ys h text x e = by (bytes_eq y.text text) e (named-in xs ys h.1 text x)
    where
      by : (b : Bool) → (if b then Some y else named text (xs ++ ys)) ≡ Some x → (named text (xs ++ ys) ≡ Some x → (SeatIsWritten a (scalars_of_type x.shape) x.seat) ⊎ (named text ys ≡ Some x))
          → (SeatIsWritten a (scalars_of_type x.shape) x.seat) ⊎ (named text ys ≡ Some x)
      by true f more = let same : y ≡ x = cc in inl (subst (λ (z : Name). SeatIsWritten a (scalars_of_type z.shape) z.seat) same h.0)
      by false f more = more f

  -- what changes is none of the names of patterns
  pattern-constant : (k : Kind) (texts : List (List ℕ)) (known : Names) (text : List ℕ) (u : Known) → u.changes ≡ true → meant_by text (with_pattern k texts known) ≡ Some u → meant_by text known ≡ Some u
  pattern-constant k [] known text u changes e = e
  pattern-constant k (name ∷ more) known text u changes e =
      by (bytes_eq name text) (pattern-constant k more (with_known (record { name = name; kind = k; value = None; changes = false }) known) text u changes e)
    where
      by : (b : Bool) → (if b then Some (record { name = name; kind = k; value = None; changes = false }) else meant_by text known) ≡ Some u → meant_by text known ≡ Some u
      by true f = let same : ◌≡◌ {A = Known} (record { name = name; kind = k; value = None; changes = false }) u = cc in let no : false ≡ true = ap (λ (v : Known). v.changes) same ∙ changes in absurd (cc)
      by false f = f

  patterns-constant : (actor : Actor) (qs : List Pattern) (known : Names) (text : List ℕ) (u : Known) → u.changes ≡ true → meant_by text (with_patterns actor qs known) ≡ Some u → meant_by text known ≡ Some u
  patterns-constant actor [] known text u changes e = e
  patterns-constant actor (q ∷ qs) known text u changes e =
      let kind : Kind = kind_of_tokens (kind_of_port actor.ins q.port) q.repeat in
      pattern-constant kind q.names known text u changes (patterns-constant actor qs (with_pattern kind q.names known) text u changes e)

  pub seen-change : (actor : Actor) (act : Action) → VarsAreWritten 0 actor.vars → ChangesAreWritten a (seen_seats actor act) (with_patterns actor act.patterns (names_of actor))
  seen-change actor act h text x u e m changes =
      ⊎_elim (λ (one : SeatIsWritten a (scalars_of_type x.shape) x.seat). one)
      (λ (rest : named text (var_seats 0 actor.vars) ≡ Some x). globals-change actor h text x u rest (patterns-constant actor act.patterns (names_of actor) text u changes m) changes)
      (named-in (pattern_seats actor.ins act.patterns) (var_seats 0 actor.vars) (patterns-tokens actor.ins act.patterns) text x e)
