-- Code of an expression takes no cells back.
use Rattle.std.proofs.Common.{ℕ, ◌≤◌, List, arith}
use Rattle.cal_ast.specs.Tree.{Tree}
use Rattle.code_ir.specs.declared.instr.Instr.{Instr}
use Rattle.lower_base.specs.Names.{Name}
use Rattle.lower_base.specs.Callees.{Function}
use Rattle.lower_base.specs.Coding.{AreArgs, IsCode, IsOffset, IsTest, in_another_way, no_arg, arg_more, call, number, too_great, negative, truth, variable, paren, prefix, binary, both, either, if_code, tested, both_tested, item, deep_item, whole, row}

mutual
  pub grows : {fs : List Function} {names : List Name} {e : Tree} {base n m : ℕ} {code : List Instr} → IsCode fs names e base n code m → n ≤ m
  grows (in_another_way e base n m code h) = h.cells
  grows (number k at base n h) = omega arith
  grows (too_great k at base n h) = omega arith
  grows (negative k at base n place h) = omega arith
  grows (truth b at base n) = omega arith
  grows (variable text at base n x h s) = omega arith
  grows (paren e at base n m code h) = grows h
  grows (prefix o e at base n m code h) = grows h
  grows (binary o i l r at base n k m a b e h g) = let x = grows h in let y = grows g in omega (arith, x, y)
  grows (call text args at base n m code f e h) = grows_args h
  grows (item e place at base n m code l g h) = grows h
  grows (deep_item e place at base n m code l g h) = grows_offset h
  grows (both l r at base n k m far end a b t h g e f) = let x = grows_test h in let y = grows g in omega (arith, x, y)
  grows (either l r at base n k m right end a b t h g e f) = let x = grows_test h in let y = grows g in omega (arith, x, y)
  grows (if_code test first other at base n k j m else_at end a b c h g d e f) = let x = grows_test h in let y = grows g in let z = grows d in omega (arith, x, y, z)

  pub grows_args : {fs : List Function} {names : List Name} {es : Tree} {base n m : ℕ} {code : List Instr} → AreArgs fs names es base n code m → n ≤ m
  grows_args (no_arg base n) = omega arith
  grows_args (arg_more e es base n k m a b h g) = let x = grows h in let y = grows_args g in omega (arith, x, y)

  pub grows_offset : {fs : List Function} {names : List Name} {e : Tree} {base n m : ℕ} {code : List Instr} → IsOffset fs names e base n code m → n ≤ m
  grows_offset (whole text at base n) = omega arith
  grows_offset (row e place at base n k m a b r g h d) = let x = grows_offset h in let y = grows d in omega (arith, x, y)

  pub grows_test : {fs : List Function} {names : List Name} {e : Tree} {base n far m : ℕ} {code : List Instr} → IsTest fs names e base n far code m → n ≤ m
  grows_test (tested e base n m far code h) = grows h
  grows_test (both_tested l r at base n k m far a b t h g) = let x = grows_test h in let y = grows_test g in omega (arith, x, y)
