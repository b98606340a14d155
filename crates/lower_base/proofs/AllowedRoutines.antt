-- The code of a function writes only cells that may be written, and reads only tokens that may be read.
use Rattle.std.proofs.Common.{◌≡◌, ℕ, ◌+◌, ◌≤◌, List, [], ◌∷◌, length, true, arith}
use Rattle.rvc_base.specs.declared.scalar.Scalar.{Scalar}
use Rattle.cal_ast.specs.Tree.{Tree}
use Rattle.cal_model.specs.Actor.{Local, Fun}
use Rattle.cal_model.specs.Value.{Single}
use Rattle.code_ir.specs.declared.instr.Instr.{Instr}
use Rattle.lower_base.specs.declared.callees.Formal.{Formal}
use Rattle.lower_base.specs.Allowing.{Allowed, Allows, AreAllowed, AreRead, AreWritten}
use Rattle.lower_base.specs.Callees.{Function}
use Rattle.lower_base.specs.Calling.{AreInRow}
use Rattle.lower_base.specs.Names.{Name, local}
use Rattle.lower_base.specs.Routining.{IsBody, IsRoutine, behind_formals, no_more_locals, one_more_list, one_more_local, return_code}
use Rattle.lower_base.proofs.AllowedCode.{allowed_then, allows_local, allows_more, code_allowed, own_one, read_more, start_allowed}
use Rattle.lower_base.proofs.Routined.{start_grows}

module _ (a : Allowed) where
  -- formals in a row have cells of their own
  pub row_written : (c : ℕ) (xs : List Formal) → ((d : ℕ) → c ≤ d → a.cells d ≡ true) → AreInRow c xs → AreWritten a xs
  row_written c [] own row = tt
  row_written c (x ∷ xs) own row = (let at = row.0 in own x.cell (omega (arith, at)), row_written (c + 1) xs (λ d up. own d (omega (arith, up))) row.1)

  pub formals_read : (xs : List Local) (ys : List Formal) (names : List Name) → AreRead a names → AreRead a (behind_formals xs ys names)
  formals_read [] ys names read = read
  formals_read (x ∷ xs) [] names read = read
  formals_read (x ∷ xs) (y ∷ ys) names read = formals_read xs ys (local x.name y.kind y.cell ∷ names) (read_more a names x.name (Single y.kind) y.cell read)

  module _ (fs : List Function) where
    body_allowed : {t : Scalar} {e : Tree} {names : List Name} {xs : List Local} {base n m : ℕ} {code : List Instr} → Allows a fs names n → IsBody fs t e names xs base n code m → AreAllowed a code
    body_allowed {t = t} h (no_more_locals names base n m code g) =
        allowed_then a code (return_code n t) (code_allowed a fs names (allows_more (n + 1) (omega arith) h) g) (own_one n (omega arith) h, (tt, (tt, tt)))
    body_allowed h (one_more_local names x xs kind base n k m u v shape first rest) =
        let up = start_grows first in
        allowed_then a u v (start_allowed a fs names (own_one n (omega arith) h) (allows_more (n + 1) (omega arith) h) first)
        (body_allowed (allows_local x.name (Single kind) n (allows_more k (omega (arith, up)) h)) rest)
    body_allowed h (one_more_list names x xs base n k m u v typed first rest) =
        let up = first.cells in
        allowed_then a u v (first.allowed a h) (body_allowed (allows_local x.name x.shape n (allows_more k (omega (arith, up)) h)) rest)

    pub routine_allowed : (globals : List Name) (f : Fun) (g : Function) (base n m : ℕ) (code : List Instr) → Allows a fs globals n → IsRoutine globals fs f g base n code m → AreAllowed a code
    routine_allowed globals f g base n m code h is =
        let later = allows_more (n + length g.formals) (omega arith) h in
        body_allowed (record { own = later.own; formals = later.formals; read = formals_read f.formals g.formals globals h.read }) is.body
