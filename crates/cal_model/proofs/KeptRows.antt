-- Worked examples of what keeps to its kind, computed by the definitions.
use Rattle.std.proofs.Common.{◌≡◌, refl, pos, [], ◌∷◌, true, false, codes}
use Rattle.std.specs.Prelude.{Some, None}
use Rattle.rvc_base.specs.declared.scalar.Scalar.TheVariants as scalar
use Rattle.cal_ast.specs.declared.expr.PrefixOp.TheVariants.{Not}
use Rattle.cal_ast.specs.declared.expr.BinOp.TheVariants.{Add}
use Rattle.cal_ast.specs.Tree as tree
use Rattle.cal_ast.specs.Tree.{Tree, listed}
use Rattle.cal_model.specs.Value.{NumKind, BoolKind, ListKind, Single, Num, Truth, Items, Nil, Cons}
use Rattle.cal_model.specs.Outcome.{Gives, Lacks}
use Rattle.cal_model.specs.Env.{Env}
use Rattle.cal_model.specs.Expression.{eval}
use Rattle.cal_model.specs.Actor.{Fun}
use Rattle.cal_model.specs.Call.{calls_of}
use Rattle.cal_model.specs.Kinding.{Fine, Names, kind}
use Rattle.cal_model.proofs.Rows.{n_, two, name_, int_type, t_}

-- n is a constant that is 2, and c a truth value
abbrev names_ : Names
names_ = record {
  globals = record { name = codes "n"; kind = NumKind; value = Some (Num (pos 2)); changes = false } ∷ record { name = codes "c"; kind = BoolKind; value = None; changes = true } ∷ [];
  locals = [];
  funs = [];
}

abbrev n_and_c : Env
n_and_c = record { globals = record { name = codes "n"; value = Num (pos 2); kept = None } ∷ record { name = codes "c"; value = Truth true; kept = None } ∷ []; locals = [] }

abbrev c_alone : Env
c_alone = record { globals = record { name = codes "c"; value = Truth true; kept = None } ∷ []; locals = [] }

-- the numbers from 1 to n
abbrev up_to_n : Tree
up_to_n = tree.comp (name_ (codes "i")) (listed (tree.gen int_type (tree.ident (codes "i") 0) (n_ 1) (name_ (codes "n")) 0 ∷ [])) 0

two_numbers : kind up_to_n names_ ≡ Fine (ListKind 2 NumKind)
two_numbers = refl

one_and_two : eval up_to_n (calls_of []) n_and_c 5 ≡ Gives (Items (Cons (Num (pos 1)) (Cons (Num (pos 2)) Nil))) 3
one_and_two = refl

-- over an environment without n it has a kind still, and lacks a name
without_n : eval up_to_n (calls_of []) c_alone 5 ≡ Lacks
without_n = refl

-- two formals of one name: the later one hides the earlier, in kinds and in calls
abbrev twice : Fun
twice = record {
  name = codes "f";
  formals = record { name = codes "x"; shape = Single (scalar.Int 8); start = None; changes = false } ∷ record { name = codes "x"; shape = Single scalar.Bool; start = None; changes = false } ∷ [];
  locals = [];
  result = scalar.Bool;
  body = tree.prefix Not (name_ (codes "x")) 0;
}

abbrev call_twice : Tree
call_twice = tree.call (codes "f") (listed (n_ 7 ∷ t_ ∷ [])) 0

call_has_kind : kind call_twice (record { globals = []; locals = []; funs = twice ∷ [] }) ≡ Fine BoolKind
call_has_kind = refl

call_gives : eval call_twice (calls_of (twice ∷ [])) (record { globals = []; locals = [] }) 5 ≡ Gives (Truth false) 4
call_gives = refl

-- a function that calls itself: it has a kind, and the bound on open calls shows as a name that is lacked
abbrev round : Fun
round = record {
  name = codes "g";
  formals = [];
  locals = [];
  result = scalar.Int 8;
  body = two Add (tree.call (codes "g") tree.nil 0) (n_ 1);
}

round_has_kind : kind round.body (record { globals = []; locals = []; funs = round ∷ [] }) ≡ Fine NumKind
round_has_kind = refl

round_lacks : eval round.body (calls_of (round ∷ [])) (record { globals = []; locals = [] }) 5 ≡ Lacks
round_lacks = refl
