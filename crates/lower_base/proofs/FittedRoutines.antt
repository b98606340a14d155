-- The code of a routine fits where it stands.
use Rattle.std.proofs.Common.{ℕ, ◌+◌, ◌≤◌, pos, List, [], ◌∷◌, ◌++◌, length, refl, sym, ap, ◌∙◌, None, Some, arith, append_assoc}
use Rattle.rvc_base.specs.declared.scalar.Scalar.{Scalar}
use Rattle.rvc_base.specs.Storing.{IsSize}
use Rattle.cal_ast.specs.Tree.{Tree}
use Rattle.cal_model.specs.Actor.{Local, Fun}
use Rattle.code_ir.specs.declared.instr.Instr.{Instr}
use Rattle.code_ir.specs.declared.instr.Instr.TheVariants as op
use Rattle.code_ir.specs.Code.{Code}
use Rattle.lower_base.specs.Callees.{Function}
use Rattle.lower_base.specs.Calling.{HasRoutines}
use Rattle.lower_base.specs.Held.{AreBelow}
use Rattle.lower_base.specs.Names.{Name}
use Rattle.lower_base.specs.Placed.{StandsAt}
use Rattle.lower_base.specs.Routining.{FitsAsRoutine, FunSized, IsBody, IsRoutine, LocalsSized, no_more_locals, one_more_list, one_more_local, return_code}
use Rattle.lower_base.specs.Starting.{IsStart, at_zero, at_value}
use Rattle.lower_base.proofs.Coded.{grows}
use Rattle.lower_base.proofs.Fitted.{Plain, fits_const, fits_in, fits_one, plain_then}
use Rattle.lower_base.proofs.Keeping.{below_more}
use Rattle.lower_base.proofs.Runs.{stands_left, stands_right}
use Rattle.lower_base.proofs.Routined.{any_below, body_grows, front_below, start_grows}
use Rattle.lower_base.proofs.Served.{formals_below}

module _ (code : Code) (callable limit : ℕ) (fs : List Function) (has : HasRoutines code callable limit fs) where
  fits_first : (names : List Name) (t : Scalar) (c : ℕ) {start : Tree} {base n m : ℕ} {a : List Instr} → IsSize t → c + 1 ≤ limit → AreBelow n names → m ≤ limit → StandsAt code.instrs base a → IsStart fs names t c start base n a m → Plain code callable limit base 0 a 0
  fits_first names t c sized room below le at (at_zero base n) =
      plain_then code callable limit base 0 1 0 (op.Const (pos 0) ∷ []) (op.Store c None ∷ []) (fits_const code callable limit base 0 (pos 0))
      (fits_one code callable limit (base + 1) 1 0 (op.Store c None) (omega arith) (omega arith) refl room tt tt tt)
  fits_first names t c sized room below le at (at_value e base n m instrs g) =
      plain_then code callable limit base 0 1 0 instrs (op.Store c (Some t) ∷ []) (fits_in code callable limit fs has names 0 below le (stands_left code.instrs base instrs (op.Store c (Some t) ∷ []) at) g)
      (fits_one code callable limit (base + length instrs) 1 0 (op.Store c (Some t)) (omega arith) (omega arith) refl room tt tt sized)

  pub body_fits : {t : Scalar} {e : Tree} {names : List Name} {xs : List Local} {base n m : ℕ} {instrs : List Instr} → IsSize t → LocalsSized xs → AreBelow n names → m ≤ limit → StandsAt code.instrs base instrs → IsBody fs t e names xs base n instrs m
      → FitsAsRoutine code callable limit base instrs
  body_fits {t = t} size sizes below le at (no_more_locals names base n m instrs g) =
      let up = grows g in
      record {
        body = instrs ++ op.Store n (Some t) ∷ op.Load n ∷ [];
        is = sym (append_assoc instrs (op.Store n (Some t) ∷ op.Load n ∷ []) (op.Return ∷ []));
        fits = plain_then code callable limit base 0 1 1 instrs (op.Store n (Some t) ∷ op.Load n ∷ []) (fits_in code callable limit fs has names 0 (below_more n (n + 1) names (omega arith) below) le (stands_left code.instrs base instrs (return_code n t) at) g)
            (plain_then code callable limit (base + length instrs) 1 0 1 (op.Store n (Some t) ∷ []) (op.Load n ∷ [])
            (fits_one code callable limit (base + length instrs) 1 0 (op.Store n (Some t)) (omega arith) (omega arith) refl (omega (arith, up, le)) tt tt size)
            (fits_one code callable limit (base + length instrs + 1) 0 1 (op.Load n) (omega arith) (omega arith) refl (omega (arith, up, le)) tt tt tt));
      }
  body_fits size sizes below le at (one_more_local names x xs kind base n k m a b shape first rest) =
      let up = start_grows first in
      let more = body_grows rest in
      let later : FitsAsRoutine code callable limit (base + length a) b = body_fits size sizes.1 (front_below names x.name kind n k up (below_more n k names (omega (arith, up)) below)) le (stands_right code.instrs base a b at) rest in
      record {
        body = a ++ later.body;
        is = ap (λ c. a ++ c) later.is ∙ sym (append_assoc a later.body (op.Return ∷ []));
        fits = plain_then code callable limit base 0 0 1 a later.body (fits_first names kind n (sizes.0 kind shape) (omega (arith, up, more, le)) (below_more n (n + 1) names (omega arith) below) (omega (arith, more, le)) (stands_left code.instrs base a b at) first) later.fits;
      }
  body_fits size sizes below le at (one_more_list names x xs base n k m a b typed first rest) =
      let up = first.cells in
      let more = body_grows rest in
      let later : FitsAsRoutine code callable limit (base + length a) b = body_fits size sizes.1 (any_below names x.name x.shape n k up (below_more n k names (omega (arith, up)) below)) le (stands_right code.instrs base a b at) rest in
      record {
        body = a ++ later.body;
        is = ap (λ c. a ++ c) later.is ∙ sym (append_assoc a later.body (op.Return ∷ []));
        fits = plain_then code callable limit base 0 0 1 a later.body (first.fits code callable limit has below (omega (arith, more, le)) (stands_left code.instrs base a b at)) later.fits;
      }

pub routine_fits : (whole : Code) (callable limit : ℕ) (globals : List Name) (fs : List Function) (f : Fun) (g : Function) (base n m : ℕ) (code : List Instr) → HasRoutines whole callable limit fs → AreBelow n globals → FunSized f → m ≤ limit → StandsAt whole.instrs base code
    → IsRoutine globals fs f g base n code m → FitsAsRoutine whole callable limit base code
routine_fits whole callable limit globals fs f g base n m code has below sized le at is =
    body_fits whole callable limit fs has sized.result sized.locals
    (formals_below f.formals g.formals n (n + length g.formals) globals is.row (omega arith) (below_more n (n + length g.formals) globals (omega arith) below)) le at is.body
