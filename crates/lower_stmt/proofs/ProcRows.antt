-- A procedure that adds one to a global: its routine meets all that is asked of routines, and so does what it does.
use Rattle.std.proofs.Common.{◌≡◌, ℕ, ℤ, pos, List, [], ◌∷◌, ◌++◌, Bool, true, false, refl, sym, ap, ◌∙◌, subst, None, Some, arith}
use Rattle.std.specs.Prelude.{codes, if◌then◌else◌}
use Rattle.std.specs.Str.{bytes_eq}
use Rattle.std.proofs.lemmas.Slice.Eq.{bytes_eq-Decides}
use Rattle.rvc_base.specs.declared.scalar.Scalar.TheVariants as scalar
use Rattle.cal_ast.specs.declared.expr.BinOp.TheVariants as binaries
use Rattle.cal_ast.specs.Tree as tree
use Rattle.cal_model.specs.Value.{Single, IsType, scalars_of_type}
use Rattle.cal_model.specs.Actor.{Proc}
use Rattle.cal_model.specs.Call.{calls_of}
use Rattle.cal_model.specs.Statement.{runs_of}
use Rattle.code_ir.specs.declared.instr.Instr.{Instr}
use Rattle.code_ir.specs.declared.instr.Instr.TheVariants as op
use Rattle.code_ir.specs.declared.instr.Routine.{Routine}
use Rattle.code_ir.specs.Code.{Code}
use Rattle.lower_base.specs.declared.names.Seat.TheVariants.{Cell}
use Rattle.lower_base.specs.Coding.{binary, number, variable}
use Rattle.lower_base.specs.Held.{AreBelow, SeatIsBelow}
use Rattle.lower_base.specs.Names.{Name}
use Rattle.lower_base.specs.Routining.{no_routine, world_of}
use Rattle.lower_stmt.specs.Acting.{ServesRuns}
use Rattle.lower_stmt.specs.Changing.{AreTyped, NamesApart}
use Rattle.lower_stmt.specs.Proceeding.{AreProcRoutines, no_local, no_procedure, procedure_more}
use Rattle.lower_stmt.specs.Procedures.{Procedure}
use Rattle.lower_stmt.specs.Stating.{none, one_more, set}
use Rattle.lower_stmt.proofs.ProcServed.{acts_within}
use Rattle.lower_stmt.proofs.StmtRows.{a, names, step, sum}

-- `int(size=8) a`, as it is named
abbrev one : Name
one = record { text = codes "a"; shape = Single (scalar.Int 8); seat = Cell 0 }

-- `procedure q() begin a := a + 1; end`
abbrev q : Proc
q = record { name = codes "q"; formals = []; locals = []; body = tree.cons step tree.nil }

abbrev called : Procedure
called = record { text = codes "q"; routine = 0; formals = [] }

abbrev steps : List Instr
steps = op.Load 0 ∷ op.Const (pos 1) ∷ op.Add ∷ op.Store 0 (Some (scalar.Int 8)) ∷ []

abbrev routine : Routine
routine = record { start = 0; results = 0 }

abbrev whole : Code
whole = record { instrs = steps ++ op.Return ∷ []; routines = routine ∷ []; entries = []; cells = 1 }

-- the routine stands at the beginning of the code
pub proc_row : AreProcRoutines names whole [] (q ∷ []) 1 [] (called ∷ []) 1
proc_row =
    procedure_more [] q called routine 0 1 1 (steps ++ op.Return ∷ []) (no_procedure 1 no_routine)
    (record {
      text = refl;
      formals = tt;
      row = tt;
      body = no_local names 0 1 1 steps
          (one_more names step tree.nil 0 1 1 1 steps []
          (set names a sum 0 0 0 1 1 0 (op.Load 0 ∷ op.Const (pos 1) ∷ op.Add ∷ []) one (scalar.Int 8) refl refl refl
          (binary binaries.Add op.Add (tree.variable a 0) (tree.number 1 0) 0 0 1 1 1 (op.Load 0 ∷ []) (op.Const (pos 1) ∷ []) refl (variable a 0 0 1 one refl tt) (number 1 0 1 1 refl)))
          (none names 4 1));
    })
    refl (record { formals = tt; locals = tt }) refl refl (refl, (refl, (refl, (refl, (refl, tt)))))

-- ---- what is asked of the global

only_one : (b : Bool) (x : Name) → (if b then Some one else None) ≡ Some x → (b ≡ true) × (one ≡ x)
only_one true x e = (refl, cc)
only_one false x e = cc

below : AreBelow 1 names
below text x e = subst (λ (z : Name). SeatIsBelow 1 (scalars_of_type z.shape) z.seat) (only_one (bytes_eq (codes "a") text) x e).1 (omega arith)

sized : IsType (Single (scalar.Int 8))
sized = (omega arith, omega arith)

typed : AreTyped names
typed text x e = subst (λ (z : Name). IsType z.shape) (only_one (bytes_eq (codes "a") text) x e).1 sized

apart : NamesApart names
apart text other x y e f differ =
    let first : codes "a" ≡ text = (bytes_eq-Decides (codes "a") text).0 (only_one (bytes_eq (codes "a") text) x e).0 in
    let same : bytes_eq text other ≡ true = ap (λ t. bytes_eq t other) (sym first) ∙ (only_one (bytes_eq (codes "a") other) y f).0 in
    let both : true ≡ false = sym same ∙ differ in cc

-- the routine does what the procedure does
pub row_acts : (tokens : ℕ → List ℤ) → ServesRuns (world_of whole tokens (calls_of []) 1 1) (runs_of (q ∷ []) (calls_of [])) names (called ∷ [])
row_acts tokens = acts_within names whole tokens [] (q ∷ []) 1 [] below apart typed 1 1 proc_row (omega arith)
