-- An actor that counts up to each of its tokens, as its meaning sees it.
-- Not trusted: no promise is read with it.
use Rattle.std.specs.Prelude.{ℕ, List, [], ◌∷◌, codes, pos, true, false, None, Some}
use Rattle.rvc_base.specs.declared.scalar.Scalar.TheVariants as scalar
use Rattle.cal_ast.specs.declared.expr.BinOp.TheVariants.{Add, Lt}
use Rattle.cal_ast.specs.Tree as tree
use Rattle.cal_ast.specs.Tree.{Tree, listed}
use Rattle.cal_model.specs.Value.{Single, Num}
use Rattle.cal_model.specs.Actor.{Port, Held, Local, Action, Actor}

abbrev pub named : List ℕ → Tree
named text = tree.variable text 0

abbrev pub number : ℕ → Tree
number n = tree.number n 0

abbrev pub sum : Tree → Tree → Tree
sum l r = tree.binary Add l r 0

abbrev pub below : Tree → Tree → Tree
below l r = tree.binary Lt l r 0

-- while n < x do n := n + 1; end
abbrev pub loop : Tree
loop = tree.while_stmt (below (named (codes "n")) (named (codes "x")))
    (listed (tree.assign (tree.ident (codes "n") 0) tree.nil
    (sum (named (codes "n")) (number 1)) 0 ∷ [])) 0

-- uint(size=8) k := x + 1
abbrev pub local : Local
local = record {
  name = codes "k";
  shape = Single (scalar.Uint 8);
  start = Some (sum (named (codes "x")) (number 1));
  changes = false;
}

-- action In:[x] ==> Out:[n + k] guard x < 200
abbrev pub counting : Action
counting = record {
  tag = [];
  patterns = record { port = 0; names = codes "x" ∷ []; repeat = None } ∷ [];
  outputs = record {
    port = 0;
    values = listed (sum (named (codes "n")) (named (codes "k")) ∷ []);
    repeat = None;
  } ∷ [];
  guards = below (named (codes "x")) (number 200) ∷ [];
  locals = local ∷ [];
  body = listed (loop ∷ []);
  initialize = false;
}

-- uint(size=8) n := 0
abbrev pub counter : Held
counter = record { name = codes "n"; shape = Single (scalar.Uint 8); value = Num (pos 0); changes = true }

abbrev pub byte : List ℕ → Port
byte name = record { name = name; kind = scalar.Uint 8 }

abbrev pub count : Actor
count = record {
  class = codes "Count";
  ins = byte (codes "In") ∷ [];
  outs = byte (codes "Out") ∷ [];
  vars = counter ∷ [];
  funs = [];
  procs = [];
  actions = counting ∷ [];
  states = [];
  moves = [];
  pairs = [];
}
