-- The cells of what an action sees are state cells.
use Rattle.std.proofs.Common.{◌≡◌, ℕ, suc, ◌+◌, ◌≤◌, Bool, true, false, List, [], ◌∷◌, ◌++◌, subst, Some, arith}
use Rattle.std.specs.Prelude.{if◌then◌else◌}
use Rattle.std.specs.Str.{bytes_eq}
use Rattle.rvc_base.specs.declared.scalar.Scalar.{Scalar}
use Rattle.cal_model.specs.Actor.{Action, Actor, Held, Pattern, Port}
use Rattle.cal_model.specs.Selection.{kind_of_port}
use Rattle.cal_model.specs.Sound.{scalars_of_vars}
use Rattle.cal_model.specs.Value.{scalars_of_type}
use Rattle.lower_base.specs.Held.{AreBelow, SeatIsBelow}
use Rattle.lower_base.specs.Names.{Name, named}
use Rattle.action_lower.specs.Seats.{pattern_seats, pattern_seats_from, seen_seats, state_cells, var_seats}

module _ (n : ℕ) where
  abbrev pub EachBelow : List Name → Type 0
  EachBelow [] = Unit {0}
  EachBelow (x ∷ xs) = SeatIsBelow n (scalars_of_type x.shape) x.seat × EachBelow xs

  below-join : (xs ys : List Name) → EachBelow xs → EachBelow ys → EachBelow (xs ++ ys)
  below-join [] ys h g = g
  below-join (x ∷ xs) ys h g = (h.0, below-join xs ys h.1 g)

  pub each-below : (xs : List Name) → EachBelow xs → AreBelow n xs
  each-below [] h text x e = cc
  each-below (y ∷ ys) h text x e = by (bytes_eq y.text text) e (each-below ys h.1 text x)
    where
      by : (b : Bool) → (if b then Some y else named text ys) ≡ Some x → (named text ys ≡ Some x → SeatIsBelow n (scalars_of_type x.shape) x.seat) → SeatIsBelow n (scalars_of_type x.shape) x.seat
      by true f more = let same : y ≡ x = cc in subst (λ z. SeatIsBelow n (scalars_of_type z.shape) z.seat) same h.0
      by false f more = more f

  pub vars-below : (c : ℕ) (hs : List Held) → c + scalars_of_vars hs ≤ n → EachBelow (var_seats c hs)
  vars-below c [] le = tt
  vars-below c (h ∷ hs) le = (omega (arith, le), vars-below (c + scalars_of_type h.shape) hs (omega (arith, le)))

  names-below : (t : Scalar) (q : Pattern) (k : ℕ) (texts : List (List ℕ)) → EachBelow (pattern_seats_from t q k texts)
  names-below t q k [] = tt
  names-below t q k (text ∷ texts) = below-join (pattern_seats_from t q (suc k) texts) _ (names-below t q (suc k) texts) (tt, tt)

  patterns-below : (ports : List Port) (qs : List Pattern) → EachBelow (pattern_seats ports qs)
  patterns-below ports [] = tt
  patterns-below ports (q ∷ qs) = below-join (pattern_seats ports qs) _ (patterns-below ports qs) (names-below (kind_of_port ports q.port) q 0 q.names)

  pub seen-below : (actor : Actor) (act : Action) → state_cells actor ≤ n → AreBelow n (seen_seats actor act)
  seen-below actor act le =
      each-below (seen_seats actor act) (below-join (pattern_seats actor.ins act.patterns) (var_seats 0 actor.vars) (patterns-below actor.ins act.patterns) (vars-below 0 actor.vars (omega (arith, le))))
