-- Code of procedures that was added to a draft, part by part.
use Rattle.std.proofs.Common.{◌≡◌, ℕ, ◌+◌, List, [], ◌∷◌, ◌++◌, length, map, sym, ap, ◌∙◌, refl, subst, None, append_assoc, length-append}
use Rattle.cal_ast.specs.Tree.{Tree}
use Rattle.cal_model.specs.Actor.{Local, Proc}
use Rattle.cal_model.specs.Value.{Shape}
use Rattle.code_ir.specs.declared.instr.Instr.{Instr}
use Rattle.code_ir.specs.declared.instr.Instr.TheVariants as op
use Rattle.lower_base.specs.declared.callees.Formal.{Formal}
use Rattle.lower_base.specs.declared.draft.Draft.{Draft}
use Rattle.lower_base.specs.Growing.{◌or_else◌}
use Rattle.lower_base.specs.Lowered.{Adds, IsPut}
use Rattle.lower_base.specs.Names.{Name}
use Rattle.lower_base.specs.Routining.{StandForFormals, behind_formals, left_out_formals, some_formal}
use Rattle.lower_base.proofs.AddingRoutines.{formals_erased}
use Rattle.lower_base.proofs.Erased.{both_same, erase}
use Rattle.lower_stmt.specs.Proceeding.{IsProcBody, left_out_proc, left_out_proc_body, local_list, local_more, no_local}
use Rattle.lower_stmt.specs.ListStarting.{StartsLocal, left_out_local, local_of, starts_list, starts_one}
use Rattle.lower_stmt.specs.Procedures.{Routines}
use Rattle.lower_stmt.specs.Stating.{AreStmts}
use Rattle.lower_stmt.proofs.ErasedStmts.{all_erased}
use Rattle.lower_stmt.proofs.StartingLists.{local_erased}

pub return_adds : {rs : Routines} (names : List Name) (body : Tree) (old mid new : Draft) → Adds (AreStmts rs names body) old mid → IsPut (op.Return ∷ []) mid new → Adds (IsProcBody rs body names []) old new
return_adds {rs = rs} names body old mid new a p = record {
  code = a.code ++ op.Return ∷ [];
  is = p.is ∙ ap (λ xs. xs ++ op.Return ∷ []) a.is ∙ append_assoc old.instrs.items a.code (op.Return ∷ []);
  routines = p.routines ∙ a.routines;
  has = subst (λ m. IsProcBody rs body names [] (length old.instrs.items) old.cells (a.code ++ op.Return ∷ []) m) (sym p.cells) (no_local names (length old.instrs.items) old.cells mid.cells a.code a.has);
}

pub proc_local_adds : {rs : Routines} (names : List Name) (e : Tree) (x : Local) (xs : List Local) (c : ℕ) (old mid new : Draft) → c ≡ old.cells → Adds (StartsLocal rs.functions names x) old mid → Adds (IsProcBody rs e (local_of x.name x.shape c ∷ names) xs) mid new
    → Adds (IsProcBody rs e names (x ∷ xs)) old new
proc_local_adds {rs = rs} names e x xs c old mid new is f g =
    let n : ℕ = old.cells in
    let base : ℕ = length old.instrs.items in
    let g1 : Adds (IsProcBody rs e (local_of x.name x.shape n ∷ names) xs) mid new = subst (λ y. Adds (IsProcBody rs e (local_of x.name x.shape y ∷ names) xs) mid new) is g in
    let s2 : length mid.instrs.items ≡ base + length f.code = ap length f.is ∙ length-append old.instrs.items f.code in
    record {
      code = f.code ++ g1.code;
      is = g1.is ∙ ap (λ ys. ys ++ g1.code) f.is ∙ append_assoc old.instrs.items f.code g1.code;
      routines = g1.routines ∙ f.routines;
      has = local_then names e x xs base n mid.cells new.cells f.code g1.code f.has (subst (λ p. IsProcBody rs e (local_of x.name x.shape n ∷ names) xs p mid.cells g1.code new.cells) s2 g1.has);
    }
  where
    local_then : {rs : Routines} (names : List Name) (e : Tree) (x : Local) (xs : List Local) (base n k m : ℕ) (a b : List Instr) → StartsLocal rs.functions names x base n a k → IsProcBody rs e (local_of x.name x.shape n ∷ names) xs (base + length a) k b m → IsProcBody rs e names (x ∷ xs) base n (a ++ b) m
    local_then {rs = rs} names e x xs base n k m a b (starts_one t _ _ _ _ shape h) rest =
        local_more names x xs t base n k m a b shape h (subst (λ (s : Shape). IsProcBody rs e (local_of x.name s n ∷ names) xs (base + length a) k b m) shape rest)
    local_then names e x xs base n k m a b (starts_list _ _ _ _ typed h) rest = local_list names x xs base n k m a b typed h rest

-- ---- which cells names have doesn't matter

proc_erased : (rs : Routines) (names : List Name) (xs : List Local) (e : Tree) → left_out_proc_body rs (map erase names) xs e ≡ left_out_proc_body rs names xs e
proc_erased rs names [] e = all_erased rs names e
proc_erased rs names (x ∷ xs) e = both_same (local_erased rs.functions names x) (proc_erased rs (local_of x.name x.shape 0 ∷ names) xs e)

-- behind a local, once its start leaves out nothing
pub proc_local_open : (rs : Routines) (names : List Name) (x : Local) (xs : List Local) (e : Tree) (c : ℕ) → left_out_local rs.functions names x ≡ None
    → left_out_proc_body rs names (x ∷ xs) e ≡ left_out_proc_body rs (local_of x.name x.shape c ∷ names) xs e
proc_local_open rs names x xs e c none =
    ap (λ y. y or_else left_out_proc_body rs (local_of x.name x.shape 0 ∷ names) xs e) none
    ∙ sym (proc_erased rs (local_of x.name x.shape 0 ∷ names) xs e) ∙ proc_erased rs (local_of x.name x.shape c ∷ names) xs e

-- formals in other cells
pub proc_anywhere : (rs : Routines) (names : List Name) (xs : List Local) (ys : List Formal) (ls : List Local) (e : Tree) → StandForFormals xs ys
    → left_out_proc_body rs (behind_formals xs (map some_formal xs) names) ls e ≡ left_out_proc_body rs (behind_formals xs ys names) ls e
proc_anywhere rs names xs ys ls e h =
    sym (proc_erased rs (behind_formals xs (map some_formal xs) names) ls e) ∙ ap (λ ns. left_out_proc_body rs ns ls e) (sym (formals_erased xs ys names names h refl)) ∙ proc_erased rs (behind_formals xs ys names) ls e

-- a procedure whose formals are single values leaves out what its locals and its statements do
pub proc_open : (rs : Routines) (names : List Name) (f : Proc) (ys : List Formal) → left_out_formals f.formals ≡ None → StandForFormals f.formals ys
    → left_out_proc rs names f ≡ left_out_proc_body rs (behind_formals f.formals ys names) f.locals f.body
proc_open rs names f ys none h =
    ap (λ o. o or_else left_out_proc_body rs (behind_formals f.formals (map some_formal f.formals) names) f.locals f.body) none ∙ proc_anywhere rs names f.formals ys f.locals f.body h
