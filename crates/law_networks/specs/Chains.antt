-- Chains of instances from the top network down: which network stands at their ends, and with which values.
-- Trusted: part of what a promise means.
use Rattle.std.specs.Prelude.{◌≡◌, ◌≢◌, ℕ, List, [], ◌∷◌, ◌++◌, Some, Contains, codes}
use Rattle.cal_ast.specs.Tree.{Tree}
use Rattle.cal_model.specs.Kinding.{Names, constant}
use Rattle.cal_model.specs.Outcome.{Gives}
use Rattle.cal_model.specs.Sound.{Each}
use Rattle.cal_check.specs.Variables.{Given, none_yet, seen, valued}
use Rattle.fnl_read.specs.Net.{Instance, Parameter, a_parameter}
use Rattle.fnl_bind.specs.Library.{Entry, instance_class, instance_id, instance_parameters, network_of, var_decls}
use Rattle.fnl_bind.specs.Trees.{words}

-- ---- values of parameters

-- The names that a network declares, over the values that its parameters are given: as those of an actor, each sees those
-- before it, and a parameter has the value that it is given, stored in its type, or else its default.
abbrev pub declared_in : Entry → List Given → Names
declared_in network given =
    seen [] (valued (var_decls network.file network.net.decls) given words [] none_yet).known

-- the value that an element `Parameter` gives: that of its expression, over these names
pub record IsValueOf (file : ℕ) (names : Names) (p : Parameter) (g : Given) : Type 0 where
  pub name : List ℕ
  pub value : Tree
  pub at : ℕ
  pub left : ℕ
  pub is_parameter : p ≡ a_parameter name value at
  pub is_named : g.name ≡ name
  pub is_value : constant value names ≡ Gives g.value left
  pub is_here : g.place ≡ record { file = file; at = at }

-- the values that these elements give, in their order
abbrev pub AreValuesOf : ℕ → Names → List Parameter → List Given → Type 0
AreValuesOf file names [] [] = Unit {0}
AreValuesOf file names (p ∷ ps) (g ∷ gs) = IsValueOf file names p g × AreValuesOf file names ps gs
AreValuesOf file names ps gs = ⊥

-- the values that an instance gives, where its network is given some
abbrev pub GivesValues : Entry → List Given → Instance → List Given → Type 0
GivesValues network given i values =
    AreValuesOf network.file (declared_in network given) (instance_parameters i) values

-- ---- chains

-- At the end of a chain of instances, told by their ids, stands a network, with the values that its parameters are given:
-- the top stands at the end of the empty chain, and an instance of a network leads one further.
pub data StandsAt (library : List Entry) (top : Entry)
    : List (List ℕ) → Entry → List Given → Type 0 where
  at_top : StandsAt library top [] top []
  further : (ids : List (List ℕ)) (outer inner : Entry) (given values : List Given) (i : Instance)
      → StandsAt library top ids outer given → Contains outer.net.instances i
      → network_of (instance_class i) library ≡ Some inner → GivesValues outer given i values
      → StandsAt library top (ids ++ instance_id i ∷ []) inner values

-- ---- paths

-- the row of these ids, with `/` between each two
abbrev pub path_of : List (List ℕ) → List ℕ
path_of [] = []
path_of (id ∷ []) = id
path_of (id ∷ next ∷ ids) = id ++ (codes "/" ++ path_of (next ∷ ids))

-- an id that can be told in a path: there is one, and no `/` stands in it
abbrev pub is_no_slash : ℕ → Type 0
is_no_slash b = ◌≢◌ {A = ℕ} b 47

pub record IsId (id : List ℕ) : Type 0 where
  pub there : id ≢ []
  pub plain : Each is_no_slash id

-- .. as those of all instances are
abbrev pub HaveIds : List Entry → Type 0
HaveIds library = (e : Entry) → Contains library e → (i : Instance) → Contains e.net.instances i
    → IsId (instance_id i)
