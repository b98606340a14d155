-- Worked examples of an actor's states and of the tokens of its ports.
use Rattle.std.proofs.Common.{◌≡◌, refl, ℕ, pos, ℤ, List, [], ◌∷◌, Bool, true, false, codes}
use Rattle.rvc_base.specs.declared.scalar.Scalar.TheVariants as scalar
use Rattle.rvc_base.specs.Width.{greatest_num}
use Rattle.cal_ast.specs.Tree as tree
use Rattle.cal_model.specs.Value.{Single, Num, Truth}
use Rattle.cal_model.specs.Env.{Var, variable}
use Rattle.cal_model.specs.Actor.{Action, Actor}
use Rattle.cal_model.specs.Selection.{start_of}
use Rattle.cal_model.specs.ActorState.{is_actor_state, kept_tokens}

-- uint(size=2) In ==> : int(size=8) s, and a constant k of 3
abbrev keeps : List Action → Actor
keeps actions = record {
  class = codes "Keeps";
  ins = record { name = codes "In"; kind = scalar.Uint 2 } ∷ [];
  outs = [];
  vars = record { name = codes "s"; shape = Single (scalar.Int 8); value = Num (pos 0); changes = true }
      ∷ record { name = codes "k"; shape = Single (scalar.Uint 4); value = Num (pos 3); changes = false } ∷ [];
  funs = [];
  procs = [];
  actions = actions;
  states = [];
  moves = [];
  pairs = [];
}

abbrev s_ : ℤ → Var
s_ z = variable (codes "s") (Single (scalar.Int 8)) true (Num z)

abbrev k_ : ℤ → Var
k_ z = variable (codes "k") (Single (scalar.Uint 4)) false (Num z)

-- an `initialize` action, which does nothing
abbrev first_ : Action
first_ = record { tag = []; patterns = []; outputs = []; guards = []; locals = []; body = tree.nil; initialize = true }

-- whether the actor with these actions can be at this state of its schedule, with these variables
abbrev can_be : List Action → ℕ → List Var → Bool
can_be actions at vars = is_actor_state (keeps actions) (record { at = at; vars = vars })

begins_in_a_state : is_actor_state (keeps []) (start_of (keeps [])) ≡ true
begins_in_a_state = refl

greatest : can_be [] 0 (s_ (pos 127) ∷ k_ (pos 3) ∷ []) ≡ true
greatest = refl

-- no value of the type, though a number of the language
too_great : can_be [] 0 (s_ greatest_num ∷ k_ (pos 3) ∷ []) ≡ false
too_great = refl

no_number : can_be [] 0 (variable (codes "s") (Single (scalar.Int 8)) true (Truth true) ∷ k_ (pos 3) ∷ []) ≡ false
no_number = refl

-- a constant has its value
another_constant : can_be [] 0 (s_ (pos 0) ∷ k_ (pos 4) ∷ []) ≡ false
another_constant = refl

-- a variable keeps its type
another_type : can_be [] 0 (variable (codes "s") (Single (scalar.Int 16)) true (Num (pos 0)) ∷ k_ (pos 3) ∷ []) ≡ false
another_type = refl

-- each has its place
another_order : can_be [] 0 (k_ (pos 3) ∷ s_ (pos 0) ∷ []) ≡ false
another_order = refl

one_is_missing : can_be [] 0 (s_ (pos 0) ∷ []) ≡ false
one_is_missing = refl

-- state 1 is the fresh one, which is there only if an `initialize` is
no_fresh_state : can_be [] 1 (s_ (pos 0) ∷ k_ (pos 3) ∷ []) ≡ false
no_fresh_state = refl

fresh_state : can_be (first_ ∷ []) 1 (s_ (pos 0) ∷ k_ (pos 3) ∷ []) ≡ true
fresh_state = refl

begins_fresh : is_actor_state (keeps (first_ ∷ [])) (start_of (keeps (first_ ∷ []))) ≡ true
begins_fresh = refl

-- 7 is no number of two bits, and 2 is
stored_in_two_bits : kept_tokens (keeps []) ((pos 7 ∷ pos 2 ∷ []) ∷ []) ≡ (pos 3 ∷ pos 2 ∷ []) ∷ []
stored_in_two_bits = refl

-- a list for each port
no_tokens : kept_tokens (keeps []) [] ≡ [] ∷ []
no_tokens = refl
