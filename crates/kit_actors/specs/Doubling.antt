-- An actor that keeps the doubles of its last two tokens, as its meaning sees it.
-- Not trusted: no promise is read with it.
use Rattle.std.specs.Prelude.{[], ◌∷◌, codes, pos, true, false, None}
use Rattle.rvc_base.specs.declared.scalar.Scalar.TheVariants as scalar
use Rattle.cal_ast.specs.Tree as tree
use Rattle.cal_ast.specs.Tree.{Tree, listed}
use Rattle.cal_model.specs.Value.{Single, Many, Num, Items, Cons, Nil}
use Rattle.cal_model.specs.Actor.{Held, Local, Fun, Proc, Action, Actor}
use Rattle.kit_actors.specs.Counting.{byte, named, number, sum}

-- t[0]
abbrev pub newest : Tree
newest = tree.index (named (codes "t")) (number 0) 0

-- t[1]
abbrev pub oldest : Tree
oldest = tree.index (named (codes "t")) (number 1) 0

-- List(type: uint(size=8), size=2) t := [0, 0]
abbrev pub kept : Held
kept = record {
  name = codes "t";
  shape = Many 2 (Single (scalar.Uint 8));
  value = Items (Cons (Num (pos 0)) (Cons (Num (pos 0)) Nil));
  changes = true;
}

-- uint(size=8) v
abbrev pub formal : Local
formal = record { name = codes "v"; shape = Single (scalar.Uint 8); start = None; changes = false }

-- function twice(uint(size=8) v) --> uint(size=8): v + v end
abbrev pub twice : Fun
twice = record {
  name = codes "twice";
  formals = formal ∷ [];
  locals = [];
  result = scalar.Uint 8;
  body = sum (named (codes "v")) (named (codes "v"));
}

-- t[place] := value
abbrev pub set : Tree → Tree → Tree
set place value = tree.assign (tree.ident (codes "t") 0) (listed (place ∷ [])) value 0

-- procedure keep(uint(size=8) v) begin t[1] := t[0]; t[0] := v; end
abbrev pub keep : Proc
keep = record {
  name = codes "keep";
  formals = formal ∷ [];
  locals = [];
  body = listed (set (number 1) newest ∷ set (number 0) (named (codes "v")) ∷ []);
}

-- keep(twice(x));
abbrev pub kept_twice : Tree
kept_twice = tree.call_stmt (tree.ident (codes "keep") 0)
    (listed (tree.call (codes "twice") (listed (named (codes "x") ∷ [])) 0 ∷ [])) 0

-- action In:[x] ==> Out:[t[0] + t[1]] do keep(twice(x)); end
abbrev pub doubling : Action
doubling = record {
  tag = [];
  patterns = record { port = 0; names = codes "x" ∷ []; repeat = None } ∷ [];
  outputs = record { port = 0; values = listed (sum newest oldest ∷ []); repeat = None } ∷ [];
  guards = [];
  locals = [];
  body = listed (kept_twice ∷ []);
  initialize = false;
}

abbrev pub double : Actor
double = record {
  class = codes "Double";
  ins = byte (codes "In") ∷ [];
  outs = byte (codes "Out") ∷ [];
  vars = kept ∷ [];
  funs = twice ∷ [];
  procs = keep ∷ [];
  actions = doubling ∷ [];
  states = [];
  moves = [];
  pairs = [];
}
