-- Code of an expression writes only cells that may be written, and reads only tokens that may be read.
use Rattle.std.proofs.Common.{◌≡◌, ℕ, zero, suc, ◌+◌, ◌*◌, ◌≤◌, Bool, List, [], ◌∷◌, ◌++◌, true, false, ap, ◌∙◌, subst, Some, arith}
use Rattle.std.specs.Prelude.{if◌then◌else◌, pos, slice_get}
use Rattle.std.specs.Str.{bytes_eq}
use Rattle.rvc_base.specs.declared.scalar.Scalar.{Scalar}
use Rattle.cal_model.specs.Value.{Shape, Single, Many, scalars_of_type}
use Rattle.cal_ast.specs.declared.expr.PrefixOp.{PrefixOp}
use Rattle.cal_ast.specs.declared.expr.PrefixOp.TheVariants as prefixes
use Rattle.cal_ast.specs.declared.expr.BinOp.{BinOp}
use Rattle.cal_ast.specs.declared.expr.BinOp.TheVariants as binaries
use Rattle.cal_ast.specs.Tree as tree
use Rattle.cal_ast.specs.Tree.{Tree}
use Rattle.code_ir.specs.declared.instr.Instr.{Instr}
use Rattle.code_ir.specs.declared.instr.Instr.TheVariants as op
use Rattle.lower_base.specs.declared.callees.Formal.{Formal}
use Rattle.lower_base.specs.declared.names.ItemList.{ItemList}
use Rattle.lower_base.specs.declared.names.Seat.{Seat}
use Rattle.lower_base.specs.declared.names.Seat.TheVariants.{Cell, Tokens}
use Rattle.lower_base.specs.Allowing.{Allowed, Allows, AreAllowed, AreRead, AreWritten, IsAllowed, MayWrite, SeatIsRead}
use Rattle.lower_base.specs.Callees.{Function}
use Rattle.lower_base.specs.Coding.{AreArgs, IsCode, IsOffset, IsTest, in_another_way, arg_more, call, call_code, formal_stores, no_arg, number, too_great, negative, truth, variable, paren, prefix, binary, both, either, if_code, tested, both_tested, seat_instr, prefix_instr, binary_instr, item, item_instr, deep_item, whole, row, row_instr}
use Rattle.lower_base.specs.Listed.{list_named}
use Rattle.lower_base.specs.Names.{Name, IsSingle, local_of, named}
use Rattle.lower_base.specs.Parted.{deep_named, number_of}
use Rattle.lower_base.specs.Starting.{IsStart, at_value, at_zero}
use Rattle.lower_base.proofs.Finding.{is_found}
use Rattle.lower_base.proofs.Grown.{grows, grows_offset, grows_test}
use Rattle.lower_base.proofs.Listing.{IsListName, found}
use Rattle.lower_base.proofs.PartValues.{IsDeep, IsPartOf, deep_found, part_found, sized_is}

-- ---- parts of code

-- code of two parts
pub allowed_then : (a : Allowed) (x y : List Instr) → AreAllowed a x → AreAllowed a y → AreAllowed a (x ++ y)
allowed_then a [] y p q = q
allowed_then a (i ∷ x) y p q = (p.0, allowed_then a x y p.1 q)

-- .. and each of its instructions
pub allowed_at : (a : Allowed) (code : List Instr) → AreAllowed a code → (j : ℕ) (i : Instr) → slice_get code j ≡ Some i → IsAllowed a i
allowed_at a [] h j i e = cc
allowed_at a (x ∷ code) h zero i e = let same : x ≡ i = cc in subst (IsAllowed a) same h.0
allowed_at a (x ∷ code) h (suc j) i e = allowed_at a code h.1 j i e

-- ---- what is round it

-- more cells are taken by others
pub allows_more : {a : Allowed} {fs : List Function} {names : List Name} {n : ℕ} (k : ℕ) → n ≤ k → Allows a fs names n → Allows a fs names k
allows_more k le h = record { own = λ c up. h.own c (omega (arith, le, up)); formals = h.formals; read = h.read }

-- a cell and those behind it
pub own_one : {a : Allowed} {fs : List Function} {names : List Name} {n : ℕ} (c : ℕ) → n ≤ c → Allows a fs names n → a.cells c ≡ true
own_one c le h = h.own c le

pub own_all : {a : Allowed} {fs : List Function} {names : List Name} {n : ℕ} (c size : ℕ) → n ≤ c → Allows a fs names n → MayWrite a c size
own_all c size le h = λ d from to. h.own d (omega (arith, le, from))

-- one local more, which stands in cells
pub read_more : (a : Allowed) (names : List Name) (text : List ℕ) (t : Shape) (c : ℕ) → AreRead a names → AreRead a (local_of text t c ∷ names)
read_more a names text t c h other y e = by (bytes_eq text other) e
  where
    by : (b : Bool) → (if b then Some (local_of text t c) else named other names) ≡ Some y → SeatIsRead a (scalars_of_type y.shape) y.seat
    by true g = let same : local_of text t c ≡ y = cc in subst (λ (z : Name). SeatIsRead a (scalars_of_type z.shape) z.seat) same tt
    by false g = h other y g

pub allows_local : {a : Allowed} {fs : List Function} {names : List Name} {n : ℕ} (text : List ℕ) (t : Shape) (c : ℕ) → Allows a fs names n → Allows a fs (local_of text t c ∷ names) n
allows_local {a = a} {names = names} text t c h = record { own = h.own; formals = h.formals; read = read_more a names text t c h.read }

-- ---- instructions

module _ (a : Allowed) where
  one_read : (t : Shape) (seat : Seat) → IsSingle t → SeatIsRead a (scalars_of_type t) seat → IsAllowed a (seat_instr seat)
  one_read (Single t) (Cell c) s h = tt
  one_read (Single t) (Tokens port first step) s h = let same : first + 0 * step ≡ first = omega arith in subst (λ k. a.tokens port k ≡ true) same (h 0 (omega arith))
  one_read (Many n items) seat s h = absurd s

  item_at : (size : ℕ) (seat : Seat) → SeatIsRead a size seat → IsAllowed a (elim seat [ Cell c ↦ op.LoadAt c size | Tokens port first step ↦ op.TokenAt port first step size ])
  item_at size (Cell c) h = tt
  item_at size (Tokens port first step) h = h

  item_read : (l : ItemList) → SeatIsRead a l.size l.seat → IsAllowed a (item_instr l)
  item_read l h = item_at l.size l.seat h

  pub list_read : (names : List Name) (e : Tree) (l : ItemList) → AreRead a names → list_named names e ≡ Some l → SeatIsRead a l.size l.seat
  list_read names e l read g =
      let f : IsListName names e l = found names e l g in
      let one : scalars_of_type f.x.shape ≡ l.size * 1 = ap scalars_of_type f.shape in
      let size : scalars_of_type f.x.shape ≡ l.size = omega (arith, one) in
      subst (λ s. SeatIsRead a l.size s) f.seat (subst (λ k. SeatIsRead a k f.x.seat) size (read f.text f.x f.is))

  pub deep_read : (names : List Name) (e : Tree) (l : ItemList) → AreRead a names → deep_named names e ≡ Some l → SeatIsRead a l.size l.seat
  deep_read names e l read g =
      let d : IsDeep names e l = deep_found names e l g in
      let f : IsPartOf names d.part = part_found names e d.part d.is in
      let size : scalars_of_type f.x.shape ≡ l.size = sized_is f.x.shape d.part.size f.size ∙ d.size in
      subst (λ s. SeatIsRead a l.size s) (f.seat ∙ d.seat) (subst (λ k. SeatIsRead a k f.x.seat) size (read f.text f.x f.is))

  prefix_allowed : (o : PrefixOp) → IsAllowed a (prefix_instr o)
  prefix_allowed prefixes.Not = tt
  prefix_allowed prefixes.Neg = tt
  prefix_allowed prefixes.BitNot = tt

  same_allowed : (i j : Instr) → Some j ≡ Some i → IsAllowed a j → IsAllowed a i
  same_allowed i j e h = let same : j ≡ i = cc in subst (IsAllowed a) same h

  binary_allowed : (o : BinOp) (i : Instr) → binary_instr o ≡ Some i → IsAllowed a i
  binary_allowed binaries.Or i e = cc
  binary_allowed binaries.And i e = cc
  binary_allowed binaries.BitOr i e = same_allowed i op.Or e tt
  binary_allowed binaries.BitXor i e = same_allowed i op.Xor e tt
  binary_allowed binaries.BitAnd i e = same_allowed i op.And e tt
  binary_allowed binaries.Eq i e = same_allowed i op.Eq e tt
  binary_allowed binaries.Ne i e = same_allowed i op.Ne e tt
  binary_allowed binaries.Lt i e = same_allowed i op.Lt e tt
  binary_allowed binaries.Le i e = same_allowed i op.Le e tt
  binary_allowed binaries.Gt i e = same_allowed i op.Gt e tt
  binary_allowed binaries.Ge i e = same_allowed i op.Ge e tt
  binary_allowed binaries.Shl i e = same_allowed i op.Shl e tt
  binary_allowed binaries.Shr i e = same_allowed i op.Shr e tt
  binary_allowed binaries.Add i e = same_allowed i op.Add e tt
  binary_allowed binaries.Sub i e = same_allowed i op.Sub e tt
  binary_allowed binaries.Mul i e = same_allowed i op.Mul e tt
  binary_allowed binaries.Div i e = same_allowed i op.Div e tt
  binary_allowed binaries.Mod i e = same_allowed i op.Mod e tt

  -- the arguments go to the cells of the formals
  pub formals_allowed : (xs : List Formal) → AreWritten a xs → AreAllowed a (formal_stores xs)
  formals_allowed [] h = tt
  formals_allowed (x ∷ xs) h = allowed_then a (formal_stores xs) (op.Store x.cell (Some x.kind) ∷ []) (formals_allowed xs h.1) (h.0, tt)

  call_allowed : (f : Function) → AreWritten a f.formals → AreAllowed a (call_code f)
  call_allowed f h = (tt, allowed_then a (formal_stores f.formals) (op.Call f.routine ∷ []) (formals_allowed f.formals h) (tt, tt))

-- ---- expressions

module _ (a : Allowed) (fs : List Function) (names : List Name) where
  mutual
    pub code_allowed : {e : Tree} {base n m : ℕ} {code : List Instr} → Allows a fs names n → IsCode fs names e base n code m → AreAllowed a code
    code_allowed h (in_another_way e base n m code g) = g.allowed a h
    code_allowed h (number k place base n g) = (tt, tt)
    code_allowed h (too_great k place base n g) = (tt, (tt, (tt, tt)))
    code_allowed h (negative k spot base n place g) = (tt, tt)
    code_allowed h (truth b place base n) = (tt, tt)
    code_allowed h (variable text place base n x g s) = (one_read a x.shape x.seat s (h.read text x g), tt)
    code_allowed h (paren e place base n m code g) = code_allowed h g
    code_allowed h (prefix o e place base n m code g) = allowed_then a code (prefix_instr o ∷ []) (code_allowed h g) (prefix_allowed a o, tt)
    code_allowed h (binary o i l r place base n k m x y e g d) =
        allowed_then a x (y ++ i ∷ []) (code_allowed h g) (allowed_then a y (i ∷ []) (code_allowed (allows_more k (grows g) h) d) (binary_allowed a o i e, tt))
    code_allowed h (call text args place base n m part f e g) =
        allowed_then a part (call_code f) (args_allowed h g) (call_allowed a f (h.formals text f (is_found text (number_of args) fs f e).0))
    code_allowed h (item e place spot base n m code l g d) = allowed_then a code (item_instr l ∷ []) (code_allowed h d) (item_read a l (list_read a names e l h.read g), tt)
    code_allowed h (deep_item e place spot base n m code l g d) =
        allowed_then a code (item_instr l ∷ []) (offset_allowed h d) (item_read a l (deep_read a names (tree.index e place spot) l h.read g), tt)
    code_allowed h (both l r place base n k m far end x y t g d e f) =
        allowed_then a x (y ++ op.Jump end ∷ op.Const (pos 0) ∷ []) (test_allowed h g) (allowed_then a y (op.Jump end ∷ op.Const (pos 0) ∷ []) (code_allowed (allows_more k (grows_test g) h) d) (tt, (tt, tt)))
    code_allowed h (either l r place base n k m beyond end x y t g d e f) =
        allowed_then a x (op.Const (pos 1) ∷ op.Jump end ∷ y) (test_allowed h g) (tt, (tt, code_allowed (allows_more k (grows_test g) h) d))
    code_allowed h (if_code test first other place base n k j m else_at end x y z g d q e f) =
        let later = allows_more k (grows_test g) h in
        allowed_then a x (y ++ op.Jump end ∷ z) (test_allowed h g) (allowed_then a y (op.Jump end ∷ z) (code_allowed later d) (tt, code_allowed (allows_more j (grows d) later) q))

    pub args_allowed : {es : Tree} {base n m : ℕ} {code : List Instr} → Allows a fs names n → AreArgs fs names es base n code m → AreAllowed a code
    args_allowed h (no_arg base n) = tt
    args_allowed h (arg_more e es base n k m x y g d) = allowed_then a x y (code_allowed h g) (args_allowed (allows_more k (grows g) h) d)

    pub offset_allowed : {e : Tree} {base n m : ℕ} {code : List Instr} → Allows a fs names n → IsOffset fs names e base n code m → AreAllowed a code
    offset_allowed h (whole text place base n) = (tt, tt)
    offset_allowed h (row e place spot base n k m x y r g d q) =
        allowed_then a x (y ++ row_instr r ∷ []) (offset_allowed h d) (allowed_then a y (row_instr r ∷ []) (code_allowed (allows_more k (grows_offset d) h) q) (tt, tt))

    pub test_allowed : {e : Tree} {base n far m : ℕ} {code : List Instr} → Allows a fs names n → IsTest fs names e base n far code m → AreAllowed a code
    test_allowed h (tested e base n m far code g) = allowed_then a code (op.JumpIfNot far ∷ []) (code_allowed h g) (tt, tt)
    test_allowed h (both_tested l r place base n k m far x y t g d) = allowed_then a x y (test_allowed h g) (test_allowed (allows_more k (grows_test g) h) d)

  -- the start of a local in a cell
  pub start_allowed : {t : Scalar} {c : ℕ} {start : Tree} {base n m : ℕ} {code : List Instr} → a.cells c ≡ true → Allows a fs names n → IsStart fs names t c start base n code m → AreAllowed a code
  start_allowed own h (at_zero base n) = (tt, (own, tt))
  start_allowed {t = t} {c = c} own h (at_value e base n m code g) = allowed_then a code (op.Store c (Some t) ∷ []) (code_allowed h g) (own, tt)
