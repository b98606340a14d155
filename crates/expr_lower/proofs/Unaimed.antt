-- Code of lists has no jump whose target isn't known.
use Rattle.std.proofs.Common.{◌≡◌, ℕ, ◌+◌, List, [], ◌∷◌, ◌++◌, map, refl, Option, None, Some}
use Rattle.std.specs.Prelude.{pos}
use Rattle.cal_ast.specs.Tree as tree
use Rattle.cal_ast.specs.Tree.{Tree}
use Rattle.cal_model.specs.Value.{Shape, Many, scalars_of_type}
use Rattle.code_ir.specs.declared.instr.Instr.{Instr}
use Rattle.code_ir.specs.declared.instr.Instr.TheVariants as op
use Rattle.lower_base.specs.declared.names.Seat.{Seat}
use Rattle.lower_base.specs.declared.names.Seat.TheVariants.{Cell, Tokens}
use Rattle.lower_base.specs.Callees.{Function}
use Rattle.lower_base.specs.Coding.{aimed}
use Rattle.lower_base.specs.Generators.{Counted, counted_by}
use Rattle.lower_base.specs.Names.{Name}
use Rattle.lower_base.proofs.Aimed.{cons_unaimed, join_unaimed, unaimed, unaimed_offset, unaimed_test}
use Rattle.expr_lower.specs.Filling.{AreElements, AreFills, IsFill, apart_list, apart_tail, at_first, either_list, elements as comprehension, each_number, filled_more, in_parens, item_more, items, list_element, next_number, no_elements, no_item, one_cell, one_element, part_list, set_number, take_instr, whole_list}

take_unaimed : (out c size : ℕ) (seat : Seat) → aimed out (take_instr c size seat) ≡ take_instr c size seat
take_unaimed out c size (Cell s) = refl
take_unaimed out c size (Tokens port first step) = refl

-- generators at their first numbers
abbrev firsts : ℕ → Option Counted → List Instr → List Instr
firsts k o rest = elim o [ None ↦ [] | Some x ↦ op.Const x.low ∷ (set_number k x ++ rest) ]

firsts_unaimed : (out k : ℕ) (o : Option Counted) (rest : List Instr) → map (aimed out) rest ≡ rest → map (aimed out) (firsts k o rest) ≡ firsts k o rest
firsts_unaimed out k None rest e = refl
firsts_unaimed out k (Some x) rest e = cons_unaimed out (op.Const x.low) (set_number k x ++ rest) refl (join_unaimed out (set_number k x) rest refl e)

first_unaimed : (out k : ℕ) (gens : Tree) → map (aimed out) (at_first k gens) ≡ at_first k gens
first_unaimed out k (tree.cons g gens) = firsts_unaimed out k (counted_by g) (at_first (k + 2) gens) (first_unaimed out (k + 2) gens)
first_unaimed out k other = refl

next_unaimed : (out k turn far : ℕ) (x : Counted) (gens : Tree) → map (aimed out) (next_number k x gens turn far) ≡ next_number k x gens turn far
next_unaimed out k turn far x gens =
    let head : List Instr = op.Load k ∷ op.Const x.high ∷ op.Lt ∷ op.JumpIfNot far ∷ op.Load k ∷ op.Const (pos 1) ∷ op.Add ∷ [] in
    join_unaimed out head (set_number k x ++ (at_first (k + 2) gens ++ op.Jump turn ∷ [])) refl
    (join_unaimed out (set_number k x) (at_first (k + 2) gens ++ op.Jump turn ∷ []) refl (join_unaimed out (at_first (k + 2) gens) (op.Jump turn ∷ []) (first_unaimed out (k + 2) gens) refl))

mutual
  pub fill_unaimed : {fs : List Function} (out : ℕ) {names : List Name} {e : Tree} {t : Shape} {c base n m : ℕ} {code : List Instr} → IsFill fs names e t c base n code m → map (aimed out) code ≡ code
  fill_unaimed out (one_cell names e t c base n m code h) = join_unaimed out code (op.Store c None ∷ []) (unaimed out h) refl
  fill_unaimed out (whole_list names text t at c base n x is same) = cons_unaimed out (take_instr c (scalars_of_type t) x.seat) [] (take_unaimed out c (scalars_of_type t) x.seat) refl
  fill_unaimed out (part_list names e t c base n m from code p is seat same h) = join_unaimed out code (op.CopyFrom c from p.size (scalars_of_type t) ∷ []) (unaimed_offset out h) refl
  fill_unaimed out (apart_list names e place t many at c base n k m a b small h g) =
      let tail : List Instr = apart_tail c n many (scalars_of_type t) in
      join_unaimed out a (op.Const (pos 0) ∷ (b ++ tail)) (fill_unaimed out h) (cons_unaimed out (op.Const (pos 0)) (b ++ tail) refl (join_unaimed out b tail (unaimed out g) refl))
  fill_unaimed out (in_parens names e t at c base n m code h) = fill_unaimed out h
  fill_unaimed out (items names es t at c base n m code h) = fills_unaimed out h
  fill_unaimed out (either_list names test first other t at c base n k h m else_at end a b d x y z e f) =
      join_unaimed out a (b ++ op.Jump end ∷ d) (unaimed_test out x) (join_unaimed out b (op.Jump end ∷ d) (fill_unaimed out y) (cons_unaimed out (op.Jump end) d refl (fill_unaimed out z)))
  fill_unaimed out (comprehension names item gens t at c base n m many turn code e small f h) =
      cons_unaimed out (op.Zero n 1) (at_first (n + 1) gens ++ code) refl (join_unaimed out (at_first (n + 1) gens) code (first_unaimed out (n + 1) gens) (elements_unaimed out h))
  fill_unaimed out (no_elements names item gens t at c base n e) = refl

  fills_unaimed : {fs : List Function} (out : ℕ) {names : List Name} {es : Tree} {t : Shape} {c base n m : ℕ} {code : List Instr} → AreFills fs names es t c base n code m → map (aimed out) code ≡ code
  fills_unaimed out (no_item names t c base n) = refl
  fills_unaimed out (item_more names e es t c base n k m a b h g) = join_unaimed out a b (fill_unaimed out h) (fills_unaimed out g)

  elements_unaimed : {fs : List Function} (out : ℕ) {gens item : Tree} {t : Shape} {c all filled turn : ℕ} {names : List Name} {k m : ℕ} {code : List Instr} → AreElements fs gens item t c all filled turn names k code m → map (aimed out) code ≡ code
  elements_unaimed out (one_element item t c all filled turn names k m code h) =
      join_unaimed out (op.Turn ∷ op.Load filled ∷ []) (code ++ op.StoreAt c all None ∷ filled_more filled 1) refl (join_unaimed out code (op.StoreAt c all None ∷ filled_more filled 1) (unaimed out h) refl)
  elements_unaimed out (list_element item t size c all filled turn names k m code h) =
      let last : List Instr = op.Load filled ∷ op.CopyTo c all k (scalars_of_type (Many size t)) None ∷ filled_more filled (scalars_of_type (Many size t)) in
      cons_unaimed out op.Turn (code ++ last) refl (join_unaimed out code last (fill_unaimed out h) refl)
  elements_unaimed out (each_number g gens item t x c all filled turn far names k m code e h f) = join_unaimed out code (next_number k x gens turn far) (elements_unaimed out h) (next_unaimed out k turn far x gens)
