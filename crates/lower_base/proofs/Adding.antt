-- Code that was added to a draft, part by part.
use Rattle.std.proofs.Common.{◌≡◌, ℕ, ◌+◌, List, [], ◌∷◌, ◌++◌, length, map, true, sym, ap, ◌∙◌, subst, Some, arith, append_assoc, length-append, refl, suc, append-nil}
use Rattle.std.specs.Prelude.{pos}
use Rattle.std.proofs.lemmas.List.{length-map, map-append}
use Rattle.cal_ast.specs.declared.expr.BinOp.{BinOp}
use Rattle.cal_ast.specs.declared.expr.BinOp.TheVariants as binaries
use Rattle.cal_ast.specs.Tree as tree
use Rattle.cal_ast.specs.Tree.{Tree, listed}
use Rattle.code_ir.specs.declared.instr.Instr.{Instr}
use Rattle.code_ir.specs.declared.instr.Instr.TheVariants as op
use Rattle.lower_base.specs.declared.draft.Draft.{Draft}
use Rattle.lower_base.specs.Names.{Name}
use Rattle.lower_base.specs.Coding.{AreArgs, IsCode, IsTest, no_arg, binary, both, either, if_code, tested, both_tested, IsOffset, IsOpenTest, aimed, binary_instr, row, row_instr}
use Rattle.lower_base.specs.declared.parts.Rows.{Rows}
use Rattle.lower_base.specs.Parted.{number_of, rows_named}
use Rattle.lower_base.specs.Truths.{is_truth}
use Rattle.lower_base.specs.Linking.{Links}
use Rattle.lower_base.specs.Callees.{Function}
use Rattle.lower_base.specs.Lowered.{Adds, IsPut}
use Rattle.lower_base.proofs.Aimed.{unaimed}

pub put_join : (a b : List Instr) (old mid new : Draft) → IsPut a old mid → IsPut b mid new → IsPut (a ++ b) old new
put_join a b old mid new p q = record {
  is = q.is ∙ ap (λ xs. xs ++ b) p.is ∙ append_assoc old.instrs.items a b;
  routines = q.routines ∙ p.routines;
  cells = q.cells ∙ p.cells;
}

-- instructions that are the whole code of a form
pub put_adds : (P : ℕ → ℕ → List Instr → ℕ → Type 0) (code : List Instr) (old new : Draft) → IsPut code old new → ((base n : ℕ) → P base n code n) → Adds P old new
put_adds P code old new p coded = record {
  code = code;
  is = p.is;
  routines = p.routines;
  has = subst (λ m. P (length old.instrs.items) old.cells code m) (sym p.cells) (coded (length old.instrs.items) old.cells);
}

-- the same code is that of another form
pub same_adds : (P Q : ℕ → ℕ → List Instr → ℕ → Type 0) (old new : Draft) → ((base n m : ℕ) (code : List Instr) → P base n code m → Q base n code m) → Adds P old new → Adds Q old new
same_adds P Q old new f a = record { code = a.code; is = a.is; routines = a.routines; has = f (length old.instrs.items) old.cells new.cells a.code a.has }

-- instructions after the code of a part
pub then_put : (P Q : ℕ → ℕ → List Instr → ℕ → Type 0) (more : List Instr) (old mid new : Draft) → ((base n m : ℕ) (code : List Instr) → P base n code m → Q base n (code ++ more) m) → Adds P old mid → IsPut more mid new → Adds Q old new
then_put P Q more old mid new f a p = record {
  code = a.code ++ more;
  is = p.is ∙ ap (λ xs. xs ++ more) a.is ∙ append_assoc old.instrs.items a.code more;
  routines = p.routines ∙ a.routines;
  has = subst (λ m. Q (length old.instrs.items) old.cells (a.code ++ more) m) (sym p.cells) (f (length old.instrs.items) old.cells mid.cells a.code a.has);
}

-- where the code of a part begins that stands behind another
part_at : (P : ℕ → ℕ → List Instr → ℕ → Type 0) (old mid new : Draft) (a : List Instr) → mid.instrs.items ≡ old.instrs.items ++ a → (b : Adds P mid new) → P (length old.instrs.items + length a) mid.cells b.code new.cells
part_at P old mid new a e b = subst (λ p. P p mid.cells b.code new.cells) (ap length e ∙ length-append old.instrs.items a) b.has

pub then_adds : (P Q R : ℕ → ℕ → List Instr → ℕ → Type 0) (old mid new : Draft) → ((base n k m : ℕ) (a b : List Instr) → P base n a k → Q (base + length a) k b m → R base n (a ++ b) m) → Adds P old mid → Adds Q mid new → Adds R old new
then_adds P Q R old mid new f a b = record {
  code = a.code ++ b.code;
  is = b.is ∙ ap (λ xs. xs ++ b.code) a.is ∙ append_assoc old.instrs.items a.code b.code;
  routines = b.routines ∙ a.routines;
  has = f (length old.instrs.items) old.cells mid.cells new.cells a.code b.code a.has (part_at Q old mid new a.code a.is b);
}

pub no_items : {X : Type 0} (xs : List X) → length xs ≡ 0 → xs ≡ []
no_items [] e = refl
no_items (x ∷ xs) e = absurd (omega (arith, e))

-- as many places as there are expressions
pub places_number : {X : Type 0} (f : X → Tree) (xs : List X) → length xs ≡ number_of (listed (map f xs))
places_number f [] = refl
places_number f (x ∷ xs) = ap suc (places_number f xs)

pub args_none : {fs : List Function} (names : List Name) (draft : Draft) → Adds (AreArgs fs names tree.nil) draft draft
args_none names draft = record { code = []; is = sym (append-nil draft.instrs.items); routines = refl; has = no_arg (length draft.instrs.items) draft.cells }

pub strict_adds : {fs : List Function} (names : List Name) (o : BinOp) (i : Instr) (l r : Tree) (at : ℕ) (old d1 d2 new : Draft) → binary_instr o ≡ Some i → Adds (IsCode fs names l) old d1 → Adds (IsCode fs names r) d1 d2 → IsPut (i ∷ []) d2 new → Adds (IsCode fs names (tree.binary o l r at)) old new
strict_adds {fs = fs} names o i l r at old d1 d2 new e a b p = record {
  code = a.code ++ (b.code ++ i ∷ []);
  is = p.is ∙ ap (λ xs. xs ++ i ∷ []) (b.is ∙ ap (λ xs. xs ++ b.code) a.is) ∙ simp append_assoc;
  routines = p.routines ∙ b.routines ∙ a.routines;
  has = subst (λ m. IsCode fs names (tree.binary o l r at) (length old.instrs.items) old.cells (a.code ++ (b.code ++ i ∷ [])) m) (sym p.cells)
      (binary o i l r at (length old.instrs.items) old.cells d1.cells d2.cells a.code b.code e a.has (part_at (IsCode fs names r) old d1 d2 a.code a.is b));
}

pub row_adds : {fs : List Function} (names : List Name) (e place : Tree) (at : ℕ) (r : Rows) (old d1 d2 new : Draft) → rows_named names e ≡ Some r → Adds (IsOffset fs names e) old d1 → Adds (IsCode fs names place) d1 d2 → IsPut (row_instr r ∷ []) d2 new → Adds (IsOffset fs names (tree.index e place at)) old new
row_adds {fs = fs} names e place at r old d1 d2 new g a b p = record {
  code = a.code ++ (b.code ++ row_instr r ∷ []);
  is = p.is ∙ ap (λ xs. xs ++ row_instr r ∷ []) (b.is ∙ ap (λ xs. xs ++ b.code) a.is) ∙ simp append_assoc;
  routines = p.routines ∙ b.routines ∙ a.routines;
  has = subst (λ m. IsOffset fs names (tree.index e place at) (length old.instrs.items) old.cells (a.code ++ (b.code ++ row_instr r ∷ [])) m) (sym p.cells)
      (row e place at (length old.instrs.items) old.cells d1.cells d2.cells a.code b.code r g a.has (part_at (IsCode fs names place) old d1 d2 a.code a.is b));
}

-- ---- conditions

pub test_coded : {fs : List Function} (names : List Name) (e : Tree) (base n m : ℕ) (code : List Instr) → IsCode fs names e base n code m → IsOpenTest fs names e base n (code ++ op.Done ∷ []) m
test_coded {fs = fs} names e base n m code h out =
    subst (λ xs. IsTest fs names e base n out xs m) (sym (map-append (aimed out) code (op.Done ∷ []) ∙ ap (λ xs. xs ++ op.JumpIfNot out ∷ []) (unaimed out h))) (tested e base n m out code h)

pub tests_coded : {fs : List Function} (names : List Name) (l r : Tree) (at : ℕ) → is_truth fs names l ≡ true → (base n k m : ℕ) (a b : List Instr) → IsOpenTest fs names l base n a k → IsOpenTest fs names r (base + length a) k b m → IsOpenTest fs names (tree.binary binaries.And l r at) base n (a ++ b) m
tests_coded {fs = fs} names l r at e base n k m a b first second out =
    subst (λ xs. IsTest fs names (tree.binary binaries.And l r at) base n out xs m) (sym (map-append (aimed out) a b))
    (both_tested l r at base n k m out (map (aimed out) a) (map (aimed out) b) e (first out)
    (subst (λ x. IsTest fs names r (base + x) k out (map (aimed out) b) m) (sym (length-map a (aimed out))) (second out)))

-- ---- forms with jumps

pub length_join : (old mid a : List Instr) → mid ≡ old ++ a → length mid ≡ length old + length a
length_join old mid a e = ap length e ∙ length-append old a

pub if_adds : {fs : List Function} (names : List Name) (test first other : Tree) (at : ℕ) (old d1 d2 d3 d4 new : Draft) (i : Instr) (start exits out jump end : ℕ)
    → Adds (IsOpenTest fs names test) old d1 → Adds (IsCode fs names first) d1 d2 → IsPut (i ∷ []) d2 d3 → Adds (IsCode fs names other) d3 d4
    → start ≡ length old.instrs.items → exits ≡ length d1.instrs.items → jump ≡ length d2.instrs.items → out ≡ length d3.instrs.items → end ≡ length d4.instrs.items
    → Links d4.instrs.items new.instrs.items start exits out jump end → new.routines.items ≡ d4.routines.items → new.cells ≡ d4.cells
    → Adds (IsCode fs names (tree.if_expr test first other at)) old new
if_adds {fs = fs} names test first other at old d1 d2 d3 d4 new i start exits out jump end t f p o start_is exits_is jump_is out_is end_is links routines cells =
    let l1 = length_join old.instrs.items d1.instrs.items t.code t.is in
    let l2 = length_join d1.instrs.items d2.instrs.items f.code f.is in
    let l3 = length_join d2.instrs.items d3.instrs.items (i ∷ []) p.is in
    let l4 = length_join d3.instrs.items d4.instrs.items o.code o.is in
    let a : List Instr = map (aimed out) t.code in
    let la : length a ≡ length t.code = length-map t.code (aimed out) in
    let all : d4.instrs.items ≡ (((old.instrs.items ++ t.code) ++ f.code) ++ i ∷ []) ++ o.code = cc (o.is, p.is, f.is, t.is) in
    let flat : (((old.instrs.items ++ t.code) ++ f.code) ++ i ∷ []) ++ o.code ≡ old.instrs.items ++ (t.code ++ (f.code ++ i ∷ o.code)) = simp append_assoc in
    let m1 : exits ≡ start + length t.code = omega (arith, l1) in
    let m2 : jump ≡ exits + length f.code = omega (arith, l2) in
    let e1 : out ≡ length old.instrs.items + length a + length f.code + 1 = omega (arith, l1, l2, l3, la) in
    let e2 : end ≡ out + length o.code = omega (arith, l4) in
    let at1 : length d1.instrs.items ≡ length old.instrs.items + length a = omega (arith, l1, la) in
    record {
      code = a ++ (f.code ++ op.Jump end ∷ o.code);
      is = links old.instrs.items t.code f.code o.code i (all ∙ flat) start_is m1 m2;
      routines = routines ∙ o.routines ∙ p.routines ∙ f.routines ∙ t.routines;
      has = subst (λ m. IsCode fs names (tree.if_expr test first other at) (length old.instrs.items) old.cells (a ++ (f.code ++ op.Jump end ∷ o.code)) m) (sym cells)
          (if_code test first other at (length old.instrs.items) old.cells d1.cells d2.cells d4.cells out end a f.code o.code (t.has out)
          (subst (λ x. IsCode fs names first x d1.cells f.code d2.cells) at1 f.has)
          (subst (λ x. IsCode fs names other x d2.cells o.code d4.cells) (sym out_is) (subst (λ c. IsCode fs names other (length d3.instrs.items) c o.code d4.cells) p.cells o.has))
          e1 e2);
    }

pub both_adds : {fs : List Function} (names : List Name) (l r : Tree) (at : ℕ) (old d1 d2 d3 d4 new : Draft) (i : Instr) (start exits out jump end : ℕ) → is_truth fs names l ≡ true
    → Adds (IsOpenTest fs names l) old d1 → Adds (IsCode fs names r) d1 d2 → IsPut (i ∷ []) d2 d3 → IsPut (op.Const (pos 0) ∷ []) d3 d4
    → start ≡ length old.instrs.items → exits ≡ length d1.instrs.items → jump ≡ length d2.instrs.items → out ≡ length d3.instrs.items → end ≡ length d4.instrs.items
    → Links d4.instrs.items new.instrs.items start exits out jump end → new.routines.items ≡ d4.routines.items → new.cells ≡ d4.cells
    → Adds (IsCode fs names (tree.binary binaries.And l r at)) old new
both_adds {fs = fs} names l r at old d1 d2 d3 d4 new i start exits out jump end is_true t f p o start_is exits_is jump_is out_is end_is links routines cells =
    let l1 = length_join old.instrs.items d1.instrs.items t.code t.is in
    let l2 = length_join d1.instrs.items d2.instrs.items f.code f.is in
    let l3 = length_join d2.instrs.items d3.instrs.items (i ∷ []) p.is in
    let l4 = length_join d3.instrs.items d4.instrs.items (op.Const (pos 0) ∷ []) o.is in
    let a : List Instr = map (aimed out) t.code in
    let la : length a ≡ length t.code = length-map t.code (aimed out) in
    let all : d4.instrs.items ≡ (((old.instrs.items ++ t.code) ++ f.code) ++ i ∷ []) ++ op.Const (pos 0) ∷ [] = cc (o.is, p.is, f.is, t.is) in
    let flat : (((old.instrs.items ++ t.code) ++ f.code) ++ i ∷ []) ++ op.Const (pos 0) ∷ [] ≡ old.instrs.items ++ (t.code ++ (f.code ++ i ∷ op.Const (pos 0) ∷ [])) = simp append_assoc in
    let m1 : exits ≡ start + length t.code = omega (arith, l1) in
    let m2 : jump ≡ exits + length f.code = omega (arith, l2) in
    let e1 : out ≡ length old.instrs.items + length a + length f.code + 1 = omega (arith, l1, l2, l3, la) in
    let e2 : end ≡ out + 1 = omega (arith, l4) in
    let at1 : length d1.instrs.items ≡ length old.instrs.items + length a = omega (arith, l1, la) in
    record {
      code = a ++ (f.code ++ op.Jump end ∷ op.Const (pos 0) ∷ []);
      is = links old.instrs.items t.code f.code (op.Const (pos 0) ∷ []) i (all ∙ flat) start_is m1 m2;
      routines = routines ∙ o.routines ∙ p.routines ∙ f.routines ∙ t.routines;
      has = subst (λ m. IsCode fs names (tree.binary binaries.And l r at) (length old.instrs.items) old.cells (a ++ (f.code ++ op.Jump end ∷ op.Const (pos 0) ∷ [])) m) (sym (cells ∙ o.cells ∙ p.cells))
          (both l r at (length old.instrs.items) old.cells d1.cells d2.cells out end a f.code is_true (t.has out)
          (subst (λ x. IsCode fs names r x d1.cells f.code d2.cells) at1 f.has) e1 e2);
    }

pub either_adds : {fs : List Function} (names : List Name) (l r : Tree) (at : ℕ) (old d1 d2 d3 d4 new : Draft) (i : Instr) (start exits out jump end : ℕ) → is_truth fs names l ≡ true
    → Adds (IsOpenTest fs names l) old d1 → IsPut (op.Const (pos 1) ∷ []) d1 d2 → IsPut (i ∷ []) d2 d3 → Adds (IsCode fs names r) d3 d4
    → start ≡ length old.instrs.items → exits ≡ length d1.instrs.items → jump ≡ length d2.instrs.items → out ≡ length d3.instrs.items → end ≡ length d4.instrs.items
    → Links d4.instrs.items new.instrs.items start exits out jump end → new.routines.items ≡ d4.routines.items → new.cells ≡ d4.cells
    → Adds (IsCode fs names (tree.binary binaries.Or l r at)) old new
either_adds {fs = fs} names l r at old d1 d2 d3 d4 new i start exits out jump end is_true t f p o start_is exits_is jump_is out_is end_is links routines cells =
    let l1 = length_join old.instrs.items d1.instrs.items t.code t.is in
    let l2 = length_join d1.instrs.items d2.instrs.items (op.Const (pos 1) ∷ []) f.is in
    let l3 = length_join d2.instrs.items d3.instrs.items (i ∷ []) p.is in
    let l4 = length_join d3.instrs.items d4.instrs.items o.code o.is in
    let a : List Instr = map (aimed out) t.code in
    let la : length a ≡ length t.code = length-map t.code (aimed out) in
    let all : d4.instrs.items ≡ (((old.instrs.items ++ t.code) ++ op.Const (pos 1) ∷ []) ++ i ∷ []) ++ o.code = cc (o.is, p.is, f.is, t.is) in
    let flat : (((old.instrs.items ++ t.code) ++ op.Const (pos 1) ∷ []) ++ i ∷ []) ++ o.code ≡ old.instrs.items ++ (t.code ++ (op.Const (pos 1) ∷ i ∷ o.code)) = simp append_assoc in
    let m1 : exits ≡ start + length t.code = omega (arith, l1) in
    let m2 : jump ≡ exits + 1 = omega (arith, l2) in
    let e1 : out ≡ length old.instrs.items + length a + 2 = omega (arith, l1, l2, l3, la) in
    let e2 : end ≡ out + length o.code = omega (arith, l4) in
    record {
      code = a ++ (op.Const (pos 1) ∷ op.Jump end ∷ o.code);
      is = links old.instrs.items t.code (op.Const (pos 1) ∷ []) o.code i (all ∙ flat) start_is m1 m2;
      routines = routines ∙ o.routines ∙ p.routines ∙ f.routines ∙ t.routines;
      has = subst (λ m. IsCode fs names (tree.binary binaries.Or l r at) (length old.instrs.items) old.cells (a ++ (op.Const (pos 1) ∷ op.Jump end ∷ o.code)) m) (sym cells)
          (either l r at (length old.instrs.items) old.cells d1.cells d4.cells out end a o.code is_true (t.has out)
          (subst (λ x. IsCode fs names r x d1.cells o.code d4.cells) (sym out_is) (subst (λ c. IsCode fs names r (length d3.instrs.items) c o.code d4.cells) (p.cells ∙ f.cells) o.has))
          e1 e2);
    }
