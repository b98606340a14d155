-- Instructions of generators that were put into a draft.
use Rattle.std.proofs.Common.{◌≡◌, ℕ, ◌+◌, List, [], ◌∷◌, ◌++◌, length, refl, sym, ap, ◌∙◌, subst, Option, None, Some, append_assoc, length-append}
use Rattle.std.specs.Prelude.{pos}
use Rattle.cal_ast.specs.Tree as tree
use Rattle.cal_ast.specs.Tree.{Tree}
use Rattle.code_ir.specs.declared.instr.Instr.{Instr}
use Rattle.code_ir.specs.declared.instr.Instr.TheVariants as op
use Rattle.lower_base.specs.declared.draft.Draft.{Draft}
use Rattle.lower_base.specs.Linking.{Closes}
use Rattle.lower_base.specs.Lowered.{IsPut}
use Rattle.lower_base.proofs.Adding.{put_join}
use Rattle.expr_lower.specs.Filling.{at_first, next_number, set_number}
use Rattle.lower_base.specs.Generators.{Counted, counted_by}
use Rattle.expr_lower.specs.GoingOn.{GoesOn}

pub first_put : (k : ℕ) (g gens : Tree) (x : Counted) (old d1 d2 new : Draft) → counted_by g ≡ Some x → IsPut (op.Const x.low ∷ []) old d1 → IsPut (set_number k x) d1 d2 → IsPut (at_first (k + 2) gens) d2 new
    → IsPut (at_first k (tree.cons g gens)) old new
first_put k g gens x old d1 d2 new e p q r =
    subst (λ code. IsPut code old new) (sym (ap (λ (o : Option Counted). elim o [ None ↦ [] | Some y ↦ op.Const y.low ∷ (set_number k y ++ at_first (k + 2) gens) ]) e))
    (put_join (op.Const x.low ∷ []) (set_number k x ++ at_first (k + 2) gens) old d1 new p (put_join (set_number k x) (at_first (k + 2) gens) d1 d2 new q r))

-- one that isn't written out is passed over
pub none_put : (k : ℕ) (g gens : Tree) (draft : Draft) → counted_by g ≡ None → IsPut [] draft draft → IsPut (at_first k (tree.cons g gens)) draft draft
none_put k g gens draft e p =
    subst (λ code. IsPut code draft draft) (sym (ap (λ (o : Option Counted). elim o [ None ↦ [] | Some y ↦ op.Const y.low ∷ (set_number k y ++ at_first (k + 2) gens) ]) e)) p

pub next_put : (k : ℕ) (x : Counted) (gens : Tree) (turn skip out : ℕ) (old d1 d2 d3 d4 d5 new : Draft) → IsPut (op.Load k ∷ op.Const x.high ∷ op.Lt ∷ []) old d1 → IsPut (op.Done ∷ op.Load k ∷ op.Const (pos 1) ∷ op.Add ∷ []) d1 d2 → IsPut (set_number k x) d2 d3 → IsPut (at_first (k + 2) gens) d3 d4 → IsPut (op.Jump turn ∷ []) d4 d5
    → skip ≡ length d1.instrs.items → out ≡ length d5.instrs.items → Closes d5.instrs.items new.instrs.items skip (skip + 1) out → new.routines.items ≡ d5.routines.items → new.cells ≡ d5.cells
    → GoesOn k x gens turn old new
next_put k x gens turn skip out old d1 d2 d3 d4 d5 new p q r v z skip_is out_is closes routines cells =
    let head : List Instr = op.Load k ∷ op.Const x.high ∷ op.Lt ∷ [] in
    let inner : List Instr = op.Load k ∷ op.Const (pos 1) ∷ op.Add ∷ [] in
    let first : List Instr = at_first (k + 2) gens in
    let last : List Instr = op.Jump turn ∷ [] in
    let rest : List Instr = inner ++ (set_number k x ++ (first ++ last)) in
    let all : d5.instrs.items ≡ ((((old.instrs.items ++ head) ++ op.Done ∷ inner) ++ set_number k x) ++ first) ++ last = cc (z.is, v.is, r.is, q.is, p.is) in
    let flat : ((((old.instrs.items ++ head) ++ op.Done ∷ inner) ++ set_number k x) ++ first) ++ last ≡ (old.instrs.items ++ head) ++ (op.Done ∷ [] ++ rest) = simp append_assoc in
    let start : skip ≡ length (old.instrs.items ++ head) = skip_is ∙ ap length p.is in
    let made : new.instrs.items ≡ (old.instrs.items ++ head) ++ (op.JumpIfNot out ∷ [] ++ rest) = closes (old.instrs.items ++ head) (op.Done ∷ []) rest (all ∙ flat) start refl in
    let is : new.instrs.items ≡ old.instrs.items ++ next_number k x gens turn out = made ∙ append_assoc old.instrs.items head (op.JumpIfNot out ∷ [] ++ rest) in
    let before = ap length (all ∙ flat) in
    let after_it = ap length made in
    record {
      out = out;
      end = out_is ∙ before ∙ length-append (old.instrs.items ++ head) (op.Done ∷ [] ++ rest) ∙ sym (length-append (old.instrs.items ++ head) (op.JumpIfNot out ∷ [] ++ rest)) ∙ sym after_it;
      put = record {
        is = is;
        routines = routines ∙ z.routines ∙ v.routines ∙ r.routines ∙ q.routines ∙ p.routines;
        cells = cells ∙ z.cells ∙ v.cells ∙ r.cells ∙ q.cells ∙ p.cells;
      };
    }
