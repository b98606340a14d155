use Rattle.std.proofs.Common.{◌≡◌, ℕ, false, List, [], ◌∷◌, refl, sym, ◌∙◌, arith, Some, None}
use Rattle.std.specs.Prelude.{string_bytes}
use Rattle.rvc_base.specs.declared.scalar.Scalar.TheVariants as scalar
use Rattle.cal_ast.specs.declared.expr.Expr.{Expr}
use Rattle.cal_ast.specs.declared.expr.ExprForm.{Number}
use Rattle.cal_model.specs.declared.bound.Bound.{Bound}
use Rattle.cal_model.specs.declared.bound.Port.{Port}
use Rattle.cal_model.specs.declared.bound.BoundPattern.{BoundPattern}
use Rattle.cal_model.specs.declared.bound.BoundOutput.{BoundOutput}
use Rattle.cal_model.specs.declared.bound.BoundAction.{BoundAction}
use Rattle.cal_model.proofs.LoneAction.{lone-bound, number-tree}
use Rattle.cal_model.proofs.tests.three_to_two.Goals as goal

none-is-one : (n : ℕ) (ns : List ℕ) → [] ≡ n ∷ ns → ⊥
none-is-one n ns h = grind arith

pub returns-clause-sound : goal.returns-clause-sound
returns-clause-sound c =
    let inlet : Port = record { name = c.in_ok-from_str.field-0; kind = scalar.Uint 8 } in
    let outlet : Port = record { name = c.new.result; kind = scalar.Uint 8 } in
    let pattern_ : BoundPattern = record { port = 0; names = c.in_ok-vec.field-0; repeat = Some 3 } in
    let output_ : BoundOutput = record { port = 0; values = c.in_ok-vec-2.field-0; repeat = None } in
    let seven : Expr = record { form = Number 7; at = 0 } in
    let eight : Expr = record { form = Number 8; at = 0 } in
    let action_ : BoundAction = record {
      tag = c.new-3.result;
      patterns = c.in_ok-vec-3.field-0;
      outputs = c.in_ok-vec-4.field-0;
      guards = c.new-4.result;
      locals = c.new-5.result;
      body = c.new-6.result;
      initialize = false;
    } in
    let b : Bound = record {
      class = c.new-7.result;
      ins = c.in_ok-vec-5.field-0;
      outs = c.in_ok-vec-6.field-0;
      vars = c.new-8.result;
      funs = c.new-9.result;
      procs = c.new-10.result;
      actions = c.in_ok-vec-7.field-0;
      states = c.new-11.result;
      moves = c.new-12.result;
      pairs = c.new-13.result;
    } in
    let none : string_bytes c.new.result ≡ [] = c.new.ensures.bytes in
    let one : string_bytes c.in_ok-from_str.field-0 ≡ 73 ∷ [] = c.in_ok-from_str.ensures.ok in
    lone-bound b inlet outlet action_ pattern_ output_ c.new-2.result seven eight
    c.in_ok-vec-5.ensures.items c.in_ok-vec-6.ensures.items c.new-8.ensures.items c.new-9.ensures.items c.new-10.ensures.items c.in_ok-vec-7.ensures.items
    c.new-11.ensures.items c.new-12.ensures.items c.new-13.ensures.items
    c.new-3.ensures.items c.in_ok-vec-3.ensures.items c.in_ok-vec-4.ensures.items c.new-4.ensures.items c.new-5.ensures.items c.new-6.ensures.items refl
    refl c.in_ok-vec.ensures.items refl refl c.in_ok-vec-2.ensures.items refl (number-tree 7 0) (number-tree 8 0) refl refl
    (λ e. none-is-one 73 [] (sym none ∙ e ∙ one))
