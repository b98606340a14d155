-- A row as it is read: what waits, and the operand that no operator followed yet.
use Rattle.std.proofs.Common.{◌≡◌, List, [], ◌∷◌, ◌++◌, Option, None, Some, refl, sym, ◌∙◌}
use Rattle.cal_ast.specs.Tree.{Tree}
use Rattle.fnl_expr.specs.Operations.{Pending, before_operator}
use Rattle.fnl_grammar.specs.Rows.{Item, operand, operator}

pub data Read : Type 0 where
  read : (waiting : List Pending) (last : Option Tree) → Read

abbrev pub turned : Option (List Pending) → Option Read
turned None = None
turned (Some ws) = Some (read ws None)

-- one item more
abbrev pub took : Item → Option Read → Option Read
took (operand t) (Some (read ws None)) = Some (read ws (Some t))
took (operand t) (Some (read ws (Some r))) = None
took (operator op) (Some (read ws None)) = None
took (operator op) (Some (read ws (Some r))) = turned (before_operator op ws r)
took (operand t) None = None
took (operator op) None = None

abbrev pub then_reads : Option Read → List Item → Option Read
then_reads s [] = s
then_reads s (x ∷ row) = then_reads (took x s) row

abbrev pub reads : List Item → List Pending → Option Tree → Option Read
reads row ws o = then_reads (Some (read ws o)) row

abbrev pub reads_on : List Item → Option (List Pending) → Option Read
reads_on row ws = then_reads (turned ws) row

then_append : (s : Option Read) (row more : List Item) → then_reads s (row ++ more) ≡ then_reads (then_reads s row) more
then_append s [] more = refl
then_append s (x ∷ row) more = then_append (took x s) row more

pub reads_append : (row more : List Item) (ws : List Pending) (o : Option Tree) → reads (row ++ more) ws o ≡ then_reads (reads row ws o) more
reads_append row more ws o = then_append (Some (read ws o)) row more

-- nothing is read behind what can't be
pub none_more : (row : List Item) → then_reads None row ≡ None
none_more [] = refl
none_more (operand t ∷ row) = none_more row
none_more (operator op ∷ row) = none_more row

pub never_read : (row : List Item) (it : Read) → then_reads None row ≡ Some it → ⊥
never_read row it e = let no : None ≡ Some it = sym (none_more row) ∙ e in cc
