-- Code of a list writes only cells that may be written, and reads only tokens that may be read.
use Rattle.std.proofs.Common.{◌≡◌, ℕ, suc, ◌+◌, ◌*◌, ◌≤◌, List, [], ◌∷◌, ◌++◌, true, sym, subst, Option, None, Some, arith}
use Rattle.std.specs.Prelude.{pos}
use Rattle.cal_ast.specs.Tree as tree
use Rattle.cal_ast.specs.Tree.{Tree}
use Rattle.cal_model.specs.Value.{Shape, Single, Many, scalars_of_type}
use Rattle.code_ir.specs.declared.instr.Instr.{Instr}
use Rattle.code_ir.specs.declared.instr.Instr.TheVariants as op
use Rattle.lower_base.specs.declared.names.Seat.{Seat}
use Rattle.lower_base.specs.declared.names.Seat.TheVariants.{Cell, Tokens}
use Rattle.lower_base.specs.Allowing.{Allowed, Allows, AreAllowed, IsAllowed, MayWrite, SeatIsRead}
use Rattle.lower_base.specs.Callees.{Function}
use Rattle.lower_base.specs.Generators.{Counted, counted_by}
use Rattle.lower_base.specs.Names.{Name}
use Rattle.lower_base.specs.Parted.{number_of}
use Rattle.lower_base.proofs.AllowedCode.{allowed_then, allows_local, allows_more, code_allowed, offset_allowed, own_all, own_one, test_allowed}
use Rattle.lower_base.proofs.Coded.{grows_test}
use Rattle.expr_lower.specs.Filling.{apart_list, apart_tail, AreElements, AreFills, IsFill, at_first, either_list, elements as comprehension, each_number, filled_more, in_parens, item_more, items, list_element, next_number, no_elements, no_item, one_cell, one_element, part_list, set_number, take_instr, whole_list}
use Rattle.expr_lower.specs.ListStarting.{IsListStart, all_filled, all_zero, leaf_of}
use Rattle.expr_lower.proofs.Filled.{grows_fill}
use Rattle.expr_lower.proofs.Shapes.{alike_sizes}

-- some of the cells that may be written
pub write_part : (a : Allowed) (c n d k : ℕ) → c ≤ d → d + k ≤ c + n → MayWrite a c n → MayWrite a d k
write_part a c n d k from to h = λ x low up. h x (omega (arith, from, low)) (omega (arith, to, up))

module _ (a : Allowed) (fs : List Function) where
  take_allowed : (c size : ℕ) (seat : Seat) → MayWrite a c size → SeatIsRead a size seat → IsAllowed a (take_instr c size seat)
  take_allowed c size (Cell s) write read = write
  take_allowed c size (Tokens port first step) write read = (write, read)

  -- ---- generators

  set_allowed : (k : ℕ) (x : Counted) → ((c : ℕ) → k ≤ c → a.cells c ≡ true) → AreAllowed a (set_number k x)
  set_allowed k x own = (own k (omega arith), (tt, (own (k + 1) (omega arith), tt)))

  first_allowed : (k : ℕ) (gens : Tree) → ((c : ℕ) → k ≤ c → a.cells c ≡ true) → AreAllowed a (at_first k gens)
  first_allowed k (tree.cons g gens) own = by (first_allowed (k + 2) gens (λ c up. own c (omega (arith, up)))) (counted_by g)
    where
      by : AreAllowed a (at_first (k + 2) gens) → (o : Option Counted) → AreAllowed a (elim o [ None ↦ [] | Some x ↦ op.Const x.low ∷ (set_number k x ++ at_first (k + 2) gens) ])
      by rest None = tt
      by rest (Some x) = (tt, allowed_then a (set_number k x) (at_first (k + 2) gens) (set_allowed k x own) rest)
  first_allowed k gens own = tt

  next_allowed : (k : ℕ) (x : Counted) (gens : Tree) (turn out : ℕ) → ((c : ℕ) → k ≤ c → a.cells c ≡ true) → AreAllowed a (next_number k x gens turn out)
  next_allowed k x gens turn out own =
      let back : List Instr = op.Jump turn ∷ [] in
      let rest = first_allowed (k + 2) gens (λ c up. own c (omega (arith, up))) in (
        tt,
        (
          tt,
          (
            tt,
            (
              tt,
              (
                tt,
                (
                  tt,
                  (
                    tt,
                    allowed_then a (set_number k x) (at_first (k + 2) gens ++ back) (set_allowed k x own) (allowed_then a (at_first (k + 2) gens) back rest (tt, tt)),
                  ),
                ),
              ),
            ),
          ),
        ),
      )

  more_allowed : (filled each : ℕ) → a.cells filled ≡ true → AreAllowed a (filled_more filled each)
  more_allowed filled each own = (tt, (tt, (tt, (own, tt))))

  -- ---- lists

  mutual
    pub fill_allowed : {names : List Name} {e : Tree} {t : Shape} {c base n m : ℕ} {code : List Instr} → Allows a fs names n → MayWrite a c (scalars_of_type t) → IsFill fs names e t c base n code m → AreAllowed a code
    fill_allowed h write (one_cell names e t c base n m code g) = allowed_then a code (op.Store c None ∷ []) (code_allowed a fs names h g) (write c (omega arith) (omega arith), tt)
    fill_allowed h write (whole_list names text t at c base n x is same) =
        (take_allowed c (scalars_of_type t) x.seat write (subst (λ k. SeatIsRead a k x.seat) (sym (alike_sizes t x.shape same)) (h.read text x is)), tt)
    fill_allowed h write (part_list names e t c base n m from code p is seat same g) =
        allowed_then a code (op.CopyFrom c from p.size (scalars_of_type t) ∷ []) (offset_allowed a fs names h g) (write, tt)
    fill_allowed h write (apart_list names e place t many at c base n k m x y small g d) =
        let up = grows_fill g in
        allowed_then a x (op.Const (pos 0) ∷ (y ++ apart_tail c n many (scalars_of_type t)))
        (fill_allowed (allows_more (n + many * scalars_of_type t) (omega arith) h) (own_all n (scalars_of_type (Many many t)) (omega arith) h) g)
        (tt, allowed_then a y (apart_tail c n many (scalars_of_type t)) (code_allowed a fs names (allows_more k (omega (arith, up)) h) d) (tt, (write, tt)))
    fill_allowed h write (in_parens names e t at c base n m code g) = fill_allowed h write g
    fill_allowed h write (items names es t at c base n m code g) = fills_allowed h write g
    fill_allowed h write (either_list names test first other t at c base n k j m else_at end x y z f g d q r) =
        let later = allows_more k (grows_test f) h in
        allowed_then a x (y ++ op.Jump end ∷ z) (test_allowed a fs names h f) (allowed_then a y (op.Jump end ∷ z) (fill_allowed later write g) (tt, fill_allowed (allows_more j (grows_fill g) later) write d))
    fill_allowed h write (comprehension names item gens t at c base n m many turn code q small f g) =
        let later = allows_more (n + 1) (omega arith) h in
        (own_all n 1 (omega arith) h, allowed_then a (at_first (n + 1) gens) code (first_allowed (n + 1) gens later.own) (elements_allowed later write (own_one n (omega arith) h) g))
    fill_allowed h write (no_elements names item gens t at c base n e) = tt

    pub fills_allowed : {names : List Name} {es : Tree} {t : Shape} {c base n m : ℕ} {code : List Instr} → Allows a fs names n → MayWrite a c (number_of es * scalars_of_type t) → AreFills fs names es t c base n code m → AreAllowed a code
    fills_allowed h write (no_item names t c base n) = tt
    fills_allowed h write (item_more names e es t c base n k m x y g d) =
        let all : ℕ = suc (number_of es) * scalars_of_type t in
        let sum : suc (number_of es) * scalars_of_type t ≡ scalars_of_type t + number_of es * scalars_of_type t = omega arith in
        allowed_then a x y (fill_allowed h (write_part a c all c (scalars_of_type t) (omega arith) (omega (arith, sum)) write) g)
        (fills_allowed (allows_more k (grows_fill g) h) (write_part a c all (c + scalars_of_type t) (number_of es * scalars_of_type t) (omega arith) (omega (arith, sum)) write) d)

    elements_allowed : {gens item : Tree} {t : Shape} {c all filled turn : ℕ} {names : List Name} {k m : ℕ} {code : List Instr} → Allows a fs names k → MayWrite a c all → a.cells filled ≡ true → AreElements fs gens item t c all filled turn names k code m → AreAllowed a code
    elements_allowed h write own (one_element item t c all filled turn names k m code g) =
        (tt, (tt, allowed_then a code (op.StoreAt c all None ∷ filled_more filled 1) (code_allowed a fs names h g) (write, more_allowed filled 1 own)))
    elements_allowed h write own (list_element item t size c all filled turn names k m code g) =
        let each : ℕ = scalars_of_type (Many size t) in (
          tt,
          allowed_then a code (op.Load filled ∷ op.CopyTo c all k each None ∷ filled_more filled each)
              (fill_allowed (allows_more (k + each) (omega arith) h) (own_all k each (omega arith) h) g) (tt, (write, more_allowed filled each own)),
        )
    elements_allowed h write own (each_number g gens item t x c all filled turn out names k m code e d f) =
        let later = allows_more (k + 2) (omega arith) h in
        allowed_then a code (next_number k x gens turn out) (elements_allowed (allows_local x.text (Single x.kind) (k + 1) later) write own d) (next_allowed k x gens turn out h.own)

  -- the start of a list
  pub list_start_allowed : {names : List Name} {t : Shape} {c : ℕ} {start : Tree} {base n m : ℕ} {code : List Instr} → Allows a fs names n → MayWrite a c (scalars_of_type t) → IsListStart fs names t c start base n code m → AreAllowed a code
  list_start_allowed h write (all_zero base n) = (write, tt)
  list_start_allowed {t = t} {c = c} h write (all_filled e base n m code g) = allowed_then a code (op.Copy c c (scalars_of_type t) (Some (leaf_of t)) ∷ []) (fill_allowed h write g) (write, tt)
