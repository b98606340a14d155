-- Where the values of the names that an action sees stand.
-- Trusted: part of what a promise means.
use Rattle.std.specs.Prelude.{◌≡◌, ℕ, suc, ◌+◌, ℤ, List, [], ◌∷◌, ◌++◌, length, take, Option, None, Some}
use Rattle.rvc_base.specs.declared.scalar.Scalar.{Scalar}
use Rattle.cal_model.specs.Value.{Shape, Single, Many, scalars_of_type}
use Rattle.cal_model.specs.Env.{Var}
use Rattle.cal_model.specs.Actor.{Port, Held, Pattern, Action, Actor}
use Rattle.cal_model.specs.Rates.{need}
use Rattle.cal_model.specs.Selection.{State, kind_of_port, tokens_on}
use Rattle.cal_model.specs.Sound.{scalars_of_vars}
use Rattle.lower_base.specs.declared.names.Seat.TheVariants.{Cell, Tokens}
use Rattle.lower_base.specs.Names.{Name}
use Rattle.lower_base.specs.Flat.{flat}

-- ---- names

-- a variable of an actor in the cells from c on
abbrev pub var_seat : ℕ → Held → Name
var_seat c x = record { text = x.name; shape = x.shape; seat = Cell c }

-- the variables of an actor in the cells from c on, one after the other
abbrev pub var_seats : ℕ → List Held → List Name
var_seats c [] = []
var_seats c (x ∷ xs) = var_seat c x ∷ var_seats (c + scalars_of_type x.shape) xs

-- the type of what a name of a pattern stands for: a token, or a list of tokens if the pattern is repeated
abbrev pub pattern_shape : Scalar → Option ℕ → Shape
pattern_shape t None = Single t
pattern_shape t (Some n) = Many n (Single t)

-- The name at place k of a pattern. Its first token is the one at place k of the port; if the pattern is repeated,
-- each further one stands as many places behind as the pattern has names, so that the names take turns.
abbrev pub pattern_seat : Scalar → Pattern → ℕ → List ℕ → Name
pattern_seat t q k text =
    record {
      text = text;
      shape = pattern_shape t q.repeat;
      seat = Tokens q.port k (length q.names);
    }

-- the names of a pattern from place k on, the later ones in front
abbrev pub pattern_seats_from : Scalar → Pattern → ℕ → List (List ℕ) → List Name
pattern_seats_from t q k [] = []
pattern_seats_from t q k (text ∷ texts) =
    pattern_seats_from t q (suc k) texts ++ pattern_seat t q k text ∷ []

-- the pattern variables of an action, those of later patterns in front
abbrev pub pattern_seats : List Port → List Pattern → List Name
pattern_seats ports [] = []
pattern_seats ports (q ∷ qs) =
    pattern_seats ports qs ++ pattern_seats_from (kind_of_port ports q.port) q 0 q.names

-- what the guards of an action see: its pattern variables, and the actor's variables from cell 0 on
abbrev pub seen_seats : Actor → Action → List Name
seen_seats actor act = pattern_seats actor.ins act.patterns ++ var_seats 0 actor.vars

-- ---- values

-- the numbers of variables, one after the other
abbrev pub numbers_of_vars : List Var → List ℤ
numbers_of_vars [] = []
numbers_of_vars (x ∷ xs) = flat x.value ++ numbers_of_vars xs

-- how many cells the variables of an actor take: these are its state cells
abbrev pub state_cells : Actor → ℕ
state_cells actor = scalars_of_vars actor.vars

-- the state cells hold the variables of a state
abbrev pub HoldVars : Actor → State → List ℤ → Type 0
HoldVars actor x cells = take (state_cells actor) cells ≡ numbers_of_vars x.vars

-- the tokens that an action takes from a port
abbrev pub taken : Actor → List (List ℤ) → ℕ → ℕ → List ℤ
taken actor u a port = take (need actor a port) (tokens_on u port)
