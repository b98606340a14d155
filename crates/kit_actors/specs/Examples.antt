-- Actors of two actions, by what each takes and by its guard.
-- Not trusted: no promise is read with it.
use Rattle.std.specs.Prelude.{ℕ, Bool, true, false, List, [], ◌∷◌, codes, pos, None, Some}
use Rattle.rvc_base.specs.declared.scalar.Scalar.TheVariants as scalar
use Rattle.cal_ast.specs.Tree as tree
use Rattle.cal_ast.specs.Tree.{Tree}
use Rattle.cal_model.specs.Value.{Single, Num}
use Rattle.cal_model.specs.Actor.{Port, Held, Fun, Pattern, Action, Actor}
use Rattle.kit_actors.specs.declared.guarded.Takes.{Takes}
use Rattle.kit_actors.specs.declared.guarded.Takes.TheVariants.{One, Two, Other, Four}

-- A:[v], A:[v, d], B:[v], or A:[t] repeat 4
abbrev pub taken : Takes → Pattern
taken One = record { port = 0; names = codes "v" ∷ []; repeat = None }
taken Two = record { port = 0; names = codes "v" ∷ codes "d" ∷ []; repeat = None }
taken Other = record { port = 1; names = codes "v" ∷ []; repeat = None }
taken Four = record { port = 0; names = codes "t" ∷ []; repeat = Some 4 }

-- tokens of 64 bits
abbrev pub inlet : List ℕ → Port
inlet name = record { name = name; kind = scalar.Uint 64 }

abbrev pub inlets : List Port
inlets = inlet (codes "A") ∷ inlet (codes "B") ∷ []

-- uint(size=1) s := 0
abbrev pub state : Held
state = record { name = codes "s"; shape = Single (scalar.Uint 1); value = Num (pos 0); changes = true }

-- f() is true
abbrev pub always : Fun
always = record { name = codes "f"; formals = []; locals = []; result = scalar.Bool; body = tree.truth true 0 }

abbrev pub acting : List ℕ → Takes → Tree → Action
acting tag takes guard = record {
  tag = tag ∷ [];
  patterns = taken takes ∷ [];
  outputs = [];
  guards = guard ∷ [];
  locals = [];
  body = tree.nil;
  initialize = false;
}

-- the first above the second, or neither
abbrev pub ranks : Bool → List (ℕ × ℕ)
ranks true = (0, 1) ∷ []
ranks false = []

abbrev pub of_actions : List Action → Bool → Actor
of_actions actions ranked = record {
  class = codes "Example";
  ins = inlets;
  outs = [];
  vars = state ∷ [];
  funs = always ∷ [];
  procs = [];
  actions = actions;
  states = [];
  moves = [];
  pairs = ranks ranked;
}

abbrev pub example : Takes → Tree → Takes → Tree → Bool → Actor
example one guard two other ranked =
    of_actions (acting (codes "a") one guard ∷ acting (codes "b") two other ∷ []) ranked
