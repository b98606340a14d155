-- A worked case: an import with three functions and a constant, of which the actor uses one, and that one uses another.
use Rattle.std.proofs.Common.{◌≡◌, ℕ, List, [], ◌∷◌, codes, map, true, false, pos, refl, Option, Some}
use Rattle.rvc_base.specs.Turns as turns
use Rattle.cal_ast.specs.Tree as tree
use Rattle.cal_ast.specs.Tree.{Tree, listed}
use Rattle.rvc_base.specs.Behaviour.{Effect, Fires}
use Rattle.cal_model.specs.Actor.{Actor}
use Rattle.cal_model.specs.Firing.{body, effect_of_body}
use Rattle.cal_model.specs.Selection.{State, start_of}
use Rattle.cal_check.specs.Actors.{Source, actor_given, violations}
use Rattle.cal_check.specs.Variables.{Spot}
use Rattle.law_unused.specs.AsWritten.{actor_as_is}
use Rattle.law_unused.specs.Keeping.{narrowed_actor}
use Rattle.law_unused.specs.WholeActor.{kept_by, whole_actor}

abbrev name : List ℕ → ℕ → Tree
name text at = tree.ident text at

abbrev number : ℕ → Tree
number at = tree.type_of (name (codes "int") at) tree.nil at

-- a function without formals
abbrev function : List ℕ → Tree → Tree
function text body = tree.function (name text 60) tree.nil (number 65) tree.nil body 50

abbrev calls : List ℕ → Tree
calls text = tree.call text tree.nil 70

-- `X () ==> int Out : action ==> Out: [ f() ] end end`
abbrev sender : Tree
sender = tree.actor (name (codes "X") 6) tree.nil tree.nil (listed (tree.port (number 40) (name (codes "Out") 44) 40 ∷ []))
    (listed (tree.action tree.absent false tree.nil (listed (tree.output tree.absent (listed (calls (codes "f") ∷ [])) tree.absent 110 ∷ [])) tree.nil tree.nil tree.absent 100 ∷ [])) 0

-- f calls g, g reads c; nothing uses h and d
abbrev importing : Source
importing = record {
  class = codes "X";
  file = 1;
  actor = sender;
  vars =
      record { name = codes "c"; file = 0; shape = number 2; start = tree.present (tree.number 7 9); changes = false; is_param = false }
      ∷ record { name = codes "d"; file = 0; shape = number 12; start = tree.present (tree.number 8 19); changes = false; is_param = false }
      ∷ [];
  funs =
      record { name = codes "f"; file = 0; decl = function (codes "f") (calls (codes "g")) }
      ∷ record { name = codes "g"; file = 0; decl = function (codes "g") (tree.variable (codes "c") 75) }
      ∷ record { name = codes "h"; file = 0; decl = function (codes "h") (tree.number 3 75) }
      ∷ [];
}

abbrev words : Spot
words = record { file = 0; at = 0 }

keeps_what_is_called : kept_by importing (codes "f") ≡ true
keeps_what_is_called = refl

keeps_what_that_calls : kept_by importing (codes "g") ≡ true
keeps_what_that_calls = refl

keeps_what_that_reads : kept_by importing (codes "c") ≡ true
keeps_what_that_reads = refl

leaves_out_a_function : kept_by importing (codes "h") ≡ false
leaves_out_a_function = refl

leaves_out_a_constant : kept_by importing (codes "d") ≡ false
leaves_out_a_constant = refl

abbrev whole_import : Actor
whole_import = whole_actor importing [] words (actor_given importing [] words)

-- all that is declared, ..
all_functions : map (λ f. f.name) (whole_import).funs ≡ codes "f" ∷ codes "g" ∷ codes "h" ∷ []
unfolding turns.max_turns
all_functions = refl

all_variables : map (λ x. x.name) (whole_import).vars ≡ codes "c" ∷ codes "d" ∷ []
unfolding turns.max_turns
all_variables = refl

-- .. and what is kept of it
kept_functions : map (λ f. f.name) (actor_given importing [] words).funs ≡ codes "f" ∷ codes "g" ∷ []
unfolding turns.max_turns
kept_functions = refl

kept_variables : map (λ x. x.name) (actor_given importing [] words).vars ≡ codes "c" ∷ []
unfolding turns.max_turns
kept_variables = refl

-- the actor is a part of the whole
pub part_of_it : actor_given importing [] words ≡ narrowed_actor (kept_by importing) (whole_import)
unfolding turns.max_turns
part_of_it = refl

-- it breaks no rule, ..
breaks_nothing : violations importing [] words ≡ []
unfolding turns.max_turns
breaks_nothing = refl

-- .. and sends the value of c, with all that is declared and without what isn't used
abbrev sends : Actor → Option (Effect State)
sends actor = effect_of_body (body actor (start_of actor) [] 0)

whole_sends : sends (whole_import) ≡ Some (Fires (start_of (whole_import)) ((pos 7 ∷ []) ∷ []))
unfolding turns.max_turns
whole_sends = refl

part_sends : sends (actor_given importing [] words) ≡ Some (Fires (start_of (actor_given importing [] words)) ((pos 7 ∷ []) ∷ []))
unfolding turns.max_turns
part_sends = refl

-- ---- as it is written

-- with all that is declared, and as it is written, which is the same here
as_is_sends : sends (actor_as_is importing [] words (actor_given importing [] words)) ≡ Some (Fires (start_of (whole_import)) ((pos 7 ∷ []) ∷ []))
unfolding turns.max_turns
as_is_sends = refl

-- f is `[[g(), 5] : for int k in c .. d][1][0]`, with two bounds that are constants of another file
abbrev ranging : Tree → Tree → Tree
ranging from to =
    let pairs = tree.comp (tree.list (listed (calls (codes "g") ∷ tree.number 5 72 ∷ [])) 70) (listed (tree.gen (number 73) (name (codes "k") 74) from to 73 ∷ [])) 70 in
    tree.index (tree.index pairs (tree.number 1 76) 70) (tree.number 0 77) 70

abbrev ranged : Source
ranged = record importing {
  funs =
      record { name = codes "f"; file = 0; decl = function (codes "f") (ranging (tree.variable (codes "c") 75) (tree.variable (codes "d") 75)) }
      ∷ record { name = codes "g"; file = 0; decl = function (codes "g") (tree.variable (codes "c") 75) }
      ∷ [];
}

abbrev whole_ranged : Actor
whole_ranged = whole_actor ranged [] words (actor_given ranged [] words)

abbrev ranged_as_is : Actor
ranged_as_is = actor_as_is ranged [] words (actor_given ranged [] words)

abbrev bodies : Actor → List Tree
bodies actor = map (λ f. f.body) actor.funs

ranged_breaks_nothing : violations ranged [] words ≡ []
unfolding turns.max_turns
ranged_breaks_nothing = refl

-- the whole has the bounds as numbers, ..
ranged_written : bodies whole_ranged ≡ ranging (tree.number 7 75) (tree.number 8 75) ∷ tree.variable (codes "c") 75 ∷ []
unfolding turns.max_turns
ranged_written = refl

-- .. and the actor as it is written has the constants, ..
ranged_stands : bodies ranged_as_is
    ≡ ranging (tree.variable (codes "c") 75) (tree.variable (codes "d") 75) ∷ tree.variable (codes "c") 75 ∷ []
unfolding turns.max_turns
ranged_stands = refl

-- .. and both send the same
whole_ranged_sends : sends whole_ranged ≡ Some (Fires (start_of whole_ranged) ((pos 7 ∷ []) ∷ []))
unfolding turns.max_turns
whole_ranged_sends = refl

ranged_as_is_sends : sends ranged_as_is ≡ Some (Fires (start_of ranged_as_is) ((pos 7 ∷ []) ∷ []))
unfolding turns.max_turns
ranged_as_is_sends = refl
