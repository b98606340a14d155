-- Code of expressions has no jump whose target isn't known.
use Rattle.std.proofs.Common.{◌≡◌, ℕ, List, [], ◌∷◌, ◌++◌, map, refl, ap, ◌∙◌, subst, Some}
use Rattle.std.specs.Prelude.{pos}
use Rattle.std.proofs.lemmas.List.{map-append}
use Rattle.cal_ast.specs.declared.expr.PrefixOp.{PrefixOp}
use Rattle.cal_ast.specs.declared.expr.PrefixOp.TheVariants as prefixes
use Rattle.cal_ast.specs.declared.expr.BinOp.{BinOp}
use Rattle.cal_ast.specs.declared.expr.BinOp.TheVariants as binaries
use Rattle.cal_ast.specs.Tree.{Tree}
use Rattle.code_ir.specs.declared.instr.Instr.{Instr}
use Rattle.code_ir.specs.declared.instr.Instr.TheVariants as op
use Rattle.lower_base.specs.declared.names.Seat.{Seat}
use Rattle.lower_base.specs.declared.names.Seat.TheVariants.{Cell, Tokens}
use Rattle.lower_base.specs.Names.{Name}
use Rattle.lower_base.specs.declared.names.ItemList.{ItemList}
use Rattle.lower_base.specs.declared.callees.Formal.{Formal}
use Rattle.lower_base.specs.Callees.{Function}
use Rattle.lower_base.specs.Coding.{AreArgs, IsCode, IsTest, in_another_way, arg_more, call, call_code, formal_stores, no_arg, number, too_great, negative, truth, variable, paren, prefix, binary, both, either, if_code, tested, both_tested, aimed, prefix_instr, binary_instr, seat_instr, item, item_instr, IsOffset, deep_item, whole, row, row_instr}

seat_unaimed : (out : ℕ) (seat : Seat) → aimed out (seat_instr seat) ≡ seat_instr seat
seat_unaimed out (Cell c) = refl
seat_unaimed out (Tokens port first step) = refl

item_unaimed : (out : ℕ) (l : ItemList) → aimed out (item_instr l) ≡ item_instr l
item_unaimed out l = seat_item out l.seat l.size
  where
    seat_item : (out : ℕ) (seat : Seat) (size : ℕ) → aimed out (elim seat [ Cell c ↦ op.LoadAt c size | Tokens port first step ↦ op.TokenAt port first step size ]) ≡ elim seat [ Cell c ↦ op.LoadAt c size | Tokens port first step ↦ op.TokenAt port first step size ]
    seat_item out (Cell c) size = refl
    seat_item out (Tokens port first step) size = refl

prefix_unaimed : (out : ℕ) (o : PrefixOp) → aimed out (prefix_instr o) ≡ prefix_instr o
prefix_unaimed out prefixes.Not = refl
prefix_unaimed out prefixes.Neg = refl
prefix_unaimed out prefixes.BitNot = refl

-- the instruction of an operator stays as it is
abbrev Stays : ℕ → Instr → Type 0
Stays out i = aimed out i ≡ i

binary_unaimed : (out : ℕ) (o : BinOp) (i : Instr) → binary_instr o ≡ Some i → Stays out i
binary_unaimed out binaries.Or i e = cc
binary_unaimed out binaries.And i e = cc
binary_unaimed out binaries.BitOr i e = let same : op.Or ≡ i = cc in subst (Stays out) same refl
binary_unaimed out binaries.BitXor i e = let same : op.Xor ≡ i = cc in subst (Stays out) same refl
binary_unaimed out binaries.BitAnd i e = let same : op.And ≡ i = cc in subst (Stays out) same refl
binary_unaimed out binaries.Eq i e = let same : op.Eq ≡ i = cc in subst (Stays out) same refl
binary_unaimed out binaries.Ne i e = let same : op.Ne ≡ i = cc in subst (Stays out) same refl
binary_unaimed out binaries.Lt i e = let same : op.Lt ≡ i = cc in subst (Stays out) same refl
binary_unaimed out binaries.Le i e = let same : op.Le ≡ i = cc in subst (Stays out) same refl
binary_unaimed out binaries.Gt i e = let same : op.Gt ≡ i = cc in subst (Stays out) same refl
binary_unaimed out binaries.Ge i e = let same : op.Ge ≡ i = cc in subst (Stays out) same refl
binary_unaimed out binaries.Shl i e = let same : op.Shl ≡ i = cc in subst (Stays out) same refl
binary_unaimed out binaries.Shr i e = let same : op.Shr ≡ i = cc in subst (Stays out) same refl
binary_unaimed out binaries.Add i e = let same : op.Add ≡ i = cc in subst (Stays out) same refl
binary_unaimed out binaries.Sub i e = let same : op.Sub ≡ i = cc in subst (Stays out) same refl
binary_unaimed out binaries.Mul i e = let same : op.Mul ≡ i = cc in subst (Stays out) same refl
binary_unaimed out binaries.Div i e = let same : op.Div ≡ i = cc in subst (Stays out) same refl
binary_unaimed out binaries.Mod i e = let same : op.Mod ≡ i = cc in subst (Stays out) same refl

pub join_unaimed : (out : ℕ) (a b : List Instr) → map (aimed out) a ≡ a → map (aimed out) b ≡ b → map (aimed out) (a ++ b) ≡ a ++ b
join_unaimed out a b e f = map-append (aimed out) a b ∙ ap (λ xs. xs ++ map (aimed out) b) e ∙ ap (λ ys. a ++ ys) f

pub cons_unaimed : (out : ℕ) (i : Instr) (b : List Instr) → aimed out i ≡ i → map (aimed out) b ≡ b → map (aimed out) (i ∷ b) ≡ i ∷ b
cons_unaimed out i b e f = ap (λ x. x ∷ map (aimed out) b) e ∙ ap (λ ys. i ∷ ys) f

stores_unaimed : (out : ℕ) (xs : List Formal) → map (aimed out) (formal_stores xs) ≡ formal_stores xs
stores_unaimed out [] = refl
stores_unaimed out (x ∷ xs) = join_unaimed out (formal_stores xs) (op.Store x.cell (Some x.kind) ∷ []) (stores_unaimed out xs) refl

mutual
  pub unaimed : {fs : List Function} (out : ℕ) {names : List Name} {e : Tree} {base n m : ℕ} {code : List Instr} → IsCode fs names e base n code m → map (aimed out) code ≡ code
  unaimed out (in_another_way e base n m code h) = h.aims out
  unaimed out (number k at base n h) = refl
  unaimed out (too_great k at base n h) = refl
  unaimed out (negative k at base n place h) = refl
  unaimed out (truth b at base n) = refl
  unaimed out (variable text at base n x h s) = cons_unaimed out (seat_instr x.seat) [] (seat_unaimed out x.seat) refl
  unaimed out (paren e at base n m code h) = unaimed out h
  unaimed out (prefix o e at base n m code h) = join_unaimed out code (prefix_instr o ∷ []) (unaimed out h) (cons_unaimed out (prefix_instr o) [] (prefix_unaimed out o) refl)
  unaimed out (binary o i l r at base n k m a b e h g) =
      join_unaimed out a (b ++ i ∷ []) (unaimed out h) (join_unaimed out b (i ∷ []) (unaimed out g) (cons_unaimed out i [] (binary_unaimed out o i e) refl))
  unaimed out (call text args at base n m code f e h) =
      join_unaimed out code (call_code f) (unaimed_args out h) (cons_unaimed out op.Turn (formal_stores f.formals ++ op.Call f.routine ∷ []) refl (join_unaimed out (formal_stores f.formals) (op.Call f.routine ∷ []) (stores_unaimed out f.formals) refl))
  unaimed out (item e place at base n m code l g h) = join_unaimed out code (item_instr l ∷ []) (unaimed out h) (cons_unaimed out (item_instr l) [] (item_unaimed out l) refl)
  unaimed out (deep_item e place at base n m code l g h) = join_unaimed out code (item_instr l ∷ []) (unaimed_offset out h) (cons_unaimed out (item_instr l) [] (item_unaimed out l) refl)
  unaimed out (both l r at base n k m far end a b t h g e f) =
      join_unaimed out a (b ++ op.Jump end ∷ op.Const (pos 0) ∷ []) (unaimed_test out h) (join_unaimed out b (op.Jump end ∷ op.Const (pos 0) ∷ []) (unaimed out g) refl)
  unaimed out (either l r at base n k m right end a b t h g e f) =
      join_unaimed out a (op.Const (pos 1) ∷ op.Jump end ∷ b) (unaimed_test out h)
      (cons_unaimed out (op.Const (pos 1)) (op.Jump end ∷ b) refl (cons_unaimed out (op.Jump end) b refl (unaimed out g)))
  unaimed out (if_code test first other at base n k j m else_at end a b c h g d e f) =
      join_unaimed out a (b ++ op.Jump end ∷ c) (unaimed_test out h) (join_unaimed out b (op.Jump end ∷ c) (unaimed out g) (cons_unaimed out (op.Jump end) c refl (unaimed out d)))

  unaimed_args : {fs : List Function} (out : ℕ) {names : List Name} {es : Tree} {base n m : ℕ} {code : List Instr} → AreArgs fs names es base n code m → map (aimed out) code ≡ code
  unaimed_args out (no_arg base n) = refl
  unaimed_args out (arg_more e es base n k m a b h g) = join_unaimed out a b (unaimed out h) (unaimed_args out g)

  pub unaimed_offset : {fs : List Function} (out : ℕ) {names : List Name} {e : Tree} {base n m : ℕ} {code : List Instr} → IsOffset fs names e base n code m → map (aimed out) code ≡ code
  unaimed_offset out (whole text at base n) = refl
  unaimed_offset out (row e place at base n k m a b r g h d) =
      join_unaimed out a (b ++ row_instr r ∷ []) (unaimed_offset out h) (join_unaimed out b (row_instr r ∷ []) (unaimed out d) refl)

  pub unaimed_test : {fs : List Function} (out : ℕ) {names : List Name} {e : Tree} {base n far m : ℕ} {code : List Instr} → IsTest fs names e base n far code m → map (aimed out) code ≡ code
  unaimed_test out (tested e base n m far code h) = join_unaimed out code (op.JumpIfNot far ∷ []) (unaimed out h) refl
  unaimed_test out (both_tested l r at base n k m far a b t h g) = join_unaimed out a b (unaimed_test out h) (unaimed_test out g)
