-- Worked examples of what tags stand for, computed by the definitions.
use Rattle.std.proofs.Common.{◌≡◌, ℕ, refl, List, [], ◌∷◌, Bool, true, false, codes}
use Rattle.cal_ast.specs.Tree as tree
use Rattle.cal_model.specs.Actor.{Action, Actor}
use Rattle.cal_model.specs.Tags.{is_prefix_tag, stands_for, states_seen, moves_of, pairs_of}

abbrev tagged_ : List (List ℕ) → Bool → Action
tagged_ tag initialize = record { tag = tag; patterns = []; outputs = []; guards = []; locals = []; body = tree.nil; initialize = initialize }

abbrev with_ : List Action → Actor
with_ actions = record {
  class = codes "Tags";
  ins = [];
  outs = [];
  vars = [];
  funs = [];
  procs = [];
  actions = actions;
  states = codes "s" ∷ codes "t" ∷ [];
  moves = [];
  pairs = [];
}

abbrev a_ : List (List ℕ)
a_ = codes "a" ∷ []

abbrev a_x : List (List ℕ)
a_x = codes "a" ∷ codes "x" ∷ []

abbrev a_y : List (List ℕ)
a_y = codes "a" ∷ codes "y" ∷ []

abbrev b_ : List (List ℕ)
b_ = codes "b" ∷ []

-- a.x, a.y, b, an `initialize` with the tag a, and an action without a tag
abbrev five : Actor
five = with_ (tagged_ a_x false ∷ tagged_ a_y false ∷ tagged_ b_ false ∷ tagged_ a_ true ∷ tagged_ [] false ∷ [])

of_itself : is_prefix_tag a_x a_x ≡ true
of_itself = refl

of_a_longer_one : is_prefix_tag a_ a_x ≡ true
of_a_longer_one = refl

not_of_a_shorter_one : is_prefix_tag a_x a_ ≡ false
not_of_a_shorter_one = refl

-- components are whole
by_whole_components : is_prefix_tag a_ (codes "ab" ∷ []) ≡ false
by_whole_components = refl

a_stands_for_two : stands_for a_ five ≡ 0 ∷ 1 ∷ []
a_stands_for_two = refl

a_x_stands_for_one : stands_for a_x five ≡ 0 ∷ []
a_x_stands_for_one = refl

b_stands_for_one : stands_for b_ five ≡ 2 ∷ []
b_stands_for_one = refl

-- an `initialize` has a number, and no tag stands for it
behind_initialize : stands_for a_ (with_ (tagged_ a_ true ∷ tagged_ a_x false ∷ [])) ≡ 1 ∷ []
behind_initialize = refl

stands_for_none : stands_for (codes "a" ∷ codes "z" ∷ []) five ≡ []
stands_for_none = refl

-- s (a, b) --> t
leads_by_three : moves_of five (record { from = codes "s"; tags = a_ ∷ b_ ∷ []; to = codes "t" })
    ≡ record { from = 0; action = 0; to = 1 } ∷ record { from = 0; action = 1; to = 1 } ∷ record { from = 0; action = 2; to = 1 } ∷ []
leads_by_three = refl

-- t (a.y) --> s
leads_back : moves_of five (record { from = codes "t"; tags = a_y ∷ []; to = codes "s" }) ≡ record { from = 1; action = 1; to = 0 } ∷ []
leads_back = refl

-- a > b
both_above : pairs_of five (a_ ∷ b_ ∷ []) ≡ (0, 2) ∷ (1, 2) ∷ []
both_above = refl

-- a.x > b > a.y
chain_of_three : pairs_of five (a_x ∷ b_ ∷ a_y ∷ []) ≡ (0, 2) ∷ (2, 1) ∷ []
chain_of_three = refl

-- a.x stands above itself
above_itself : pairs_of five (a_ ∷ a_x ∷ []) ≡ (0, 0) ∷ (1, 0) ∷ []
above_itself = refl

-- t (..) --> u; u (..) --> s; where s is the initial state
by_first_sight : states_seen (codes "s") (record { from = codes "t"; tags = a_ ∷ []; to = codes "u" } ∷ record { from = codes "u"; tags = b_ ∷ []; to = codes "s" } ∷ [])
    ≡ codes "s" ∷ codes "t" ∷ codes "u" ∷ []
by_first_sight = refl
