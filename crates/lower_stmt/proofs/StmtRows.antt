-- The code of loops with an assignment in them, and of a call, put together by the definitions.
use Rattle.std.proofs.Common.{ℕ, ◌+◌, pos, List, [], ◌∷◌, None, Some, refl}
use Rattle.std.specs.Prelude.{codes}
use Rattle.rvc_base.specs.declared.scalar.Scalar.TheVariants as scalar
use Rattle.cal_ast.specs.declared.expr.BinOp.TheVariants as binaries
use Rattle.cal_ast.specs.Tree as tree
use Rattle.cal_ast.specs.Tree.{Tree}
use Rattle.cal_model.specs.Value.{Single}
use Rattle.code_ir.specs.declared.instr.Instr.TheVariants as op
use Rattle.lower_base.specs.declared.names.Seat.TheVariants.{Cell}
use Rattle.lower_base.specs.Coding.{arg_more, binary, no_arg, number, variable, tested}
use Rattle.lower_base.specs.Names.{Name, local}
use Rattle.lower_stmt.specs.Stating.{IsStmt, call, each_counted, set, while_code, none, one_more}
use Rattle.lower_stmt.specs.Procedures.{Procedure, Routines, no_routines}

abbrev pub a : List ℕ
a = codes "a"

-- `int(size=8) a` in cell 0
abbrev pub names : List Name
names = record { text = codes "a"; shape = Single (scalar.Int 8); seat = Cell 0 } ∷ []

-- `a + 1`
abbrev pub sum : Tree
sum = tree.binary binaries.Add (tree.variable a 0) (tree.number 1 0) 0

-- `a := a + 1;`
abbrev pub step : Tree
step = tree.assign (tree.ident a 0) tree.nil sum 0

-- `a < 3`
abbrev test : Tree
test = tree.binary binaries.Lt (tree.variable a 0) (tree.number 3 0) 0

-- the code of the step, wherever it stands
pub step_row : (base : ℕ) → IsStmt no_routines names step base 5 (op.Load 0 ∷ op.Const (pos 1) ∷ op.Add ∷ op.Store 0 (Some (scalar.Int 8)) ∷ []) 5
step_row base =
    set names a sum 0 0 base 5 5 0 (op.Load 0 ∷ op.Const (pos 1) ∷ op.Add ∷ []) (record { text = codes "a"; shape = Single (scalar.Int 8); seat = Cell 0 }) (scalar.Int 8) refl refl refl
    (binary binaries.Add op.Add (tree.variable a 0) (tree.number 1 0) 0 base 5 5 5 (op.Load 0 ∷ []) (op.Const (pos 1) ∷ []) refl
    (variable a 0 base 5 (record { text = codes "a"; shape = Single (scalar.Int 8); seat = Cell 0 }) refl tt) (number 1 0 (base + 1) 5 refl))

-- `while a < 3 do a := a + 1; end`
pub loop_row : IsStmt no_routines names (tree.while_stmt test (tree.cons step tree.nil) 0) 0 5
    (op.Jump 6 ∷ op.Turn ∷ op.Load 0 ∷ op.Const (pos 1) ∷ op.Add ∷ op.Store 0 (Some (scalar.Int 8)) ∷ op.Load 0 ∷ op.Const (pos 3) ∷ op.Lt ∷ op.JumpIfNot 11 ∷ op.Jump 1 ∷ []) 5
loop_row =
    while_code names test (tree.cons step tree.nil) 0 0 5 5 5 6 11 (op.Load 0 ∷ op.Const (pos 3) ∷ op.Lt ∷ op.JumpIfNot 11 ∷ []) (op.Load 0 ∷ op.Const (pos 1) ∷ op.Add ∷ op.Store 0 (Some (scalar.Int 8)) ∷ [])
    (one_more names step tree.nil 2 5 5 5 (op.Load 0 ∷ op.Const (pos 1) ∷ op.Add ∷ op.Store 0 (Some (scalar.Int 8)) ∷ []) [] (step_row 2) (none names 6 5))
    (tested test 6 5 5 11 (op.Load 0 ∷ op.Const (pos 3) ∷ op.Lt ∷ [])
    (binary binaries.Lt op.Lt (tree.variable a 0) (tree.number 3 0) 0 6 5 5 5 (op.Load 0 ∷ []) (op.Const (pos 3) ∷ []) refl
    (variable a 0 6 5 (record { text = codes "a"; shape = Single (scalar.Int 8); seat = Cell 0 }) refl tt) (number 3 0 7 5 refl)))
    refl refl

-- what is seen inside a `foreach` over `uint i`, whose variable is in cell 5
abbrev inside : List Name
inside = local (codes "i") (scalar.Uint 32) 5 ∷ names

-- the code of the step, inside
inner_row : (base : ℕ) → IsStmt no_routines inside step base 6 (op.Load 0 ∷ op.Const (pos 1) ∷ op.Add ∷ op.Store 0 (Some (scalar.Int 8)) ∷ []) 6
inner_row base =
    set inside a sum 0 0 base 6 6 0 (op.Load 0 ∷ op.Const (pos 1) ∷ op.Add ∷ []) (record { text = codes "a"; shape = Single (scalar.Int 8); seat = Cell 0 }) (scalar.Int 8) refl refl refl
    (binary binaries.Add op.Add (tree.variable a 0) (tree.number 1 0) 0 base 6 6 6 (op.Load 0 ∷ []) (op.Const (pos 1) ∷ []) refl
    (variable a 0 base 6 (record { text = codes "a"; shape = Single (scalar.Int 8); seat = Cell 0 }) refl tt) (number 1 0 (base + 1) 6 refl))

-- `foreach uint i in 1 .. 3 do a := a + 1; end`
pub counted_row : IsStmt no_routines names (tree.foreach_stmt (tree.type_of (tree.ident (codes "uint") 0) tree.nil 0) (tree.ident (codes "i") 0) (tree.number 1 0) (tree.number 3 0) (tree.cons step tree.nil) 0) 0 5
    (op.Const (pos 1) ∷ op.Store 5 None ∷ op.Turn ∷ op.Load 0 ∷ op.Const (pos 1) ∷ op.Add ∷ op.Store 0 (Some (scalar.Int 8)) ∷ op.Load 5 ∷ op.Const (pos 1) ∷ op.Add ∷ op.Store 5 None ∷ op.Load 5 ∷ op.Const (pos 3) ∷ op.Gt ∷ op.JumpIfNot 2 ∷ []) 6
counted_row =
    each_counted names (tree.type_of (tree.ident (codes "uint") 0) tree.nil 0) (tree.number 1 0) (tree.number 3 0) (tree.cons step tree.nil) (codes "i") 0 0 0 5 6 (pos 1) (pos 3)
    (op.Load 0 ∷ op.Const (pos 1) ∷ op.Add ∷ op.Store 0 (Some (scalar.Int 8)) ∷ []) (scalar.Uint 32) refl refl refl refl
    (one_more inside step tree.nil 3 6 6 6 (op.Load 0 ∷ op.Const (pos 1) ∷ op.Add ∷ op.Store 0 (Some (scalar.Int 8)) ∷ []) [] (inner_row 3) (none inside 7 6))

-- a procedure of two formals of 8 bits
abbrev p : Procedure
p = record { text = codes "p"; routine = 2; formals = record { cell = 8; kind = scalar.Int 8 } ∷ record { cell = 9; kind = scalar.Int 8 } ∷ [] }

abbrev routines : Routines
routines = record { functions = []; procedures = p ∷ [] }

-- `p(a, 1);`
pub call_row : IsStmt routines names (tree.call_stmt (tree.ident (codes "p") 0) (tree.cons (tree.variable a 0) (tree.cons (tree.number 1 0) tree.nil)) 0) 0 5
    (op.Load 0 ∷ op.Const (pos 1) ∷ op.Turn ∷ op.Store 9 (Some (scalar.Int 8)) ∷ op.Store 8 (Some (scalar.Int 8)) ∷ op.Call 2 ∷ []) 5
call_row =
    call names (codes "p") (tree.cons (tree.variable a 0) (tree.cons (tree.number 1 0) tree.nil)) 0 0 0 5 5 (op.Load 0 ∷ op.Const (pos 1) ∷ []) p refl
    (arg_more (tree.variable a 0) (tree.cons (tree.number 1 0) tree.nil) 0 5 5 5 (op.Load 0 ∷ []) (op.Const (pos 1) ∷ [])
    (variable a 0 0 5 (record { text = codes "a"; shape = Single (scalar.Int 8); seat = Cell 0 }) refl tt)
    (arg_more (tree.number 1 0) tree.nil 1 5 5 5 (op.Const (pos 1) ∷ []) [] (number 1 0 1 5 refl) (no_arg 2 5)))
