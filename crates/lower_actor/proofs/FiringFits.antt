-- The code of a firing fits where it stands.
use Rattle.std.proofs.Common.{ℕ, ◌+◌, ◌≤◌, List, [], ◌∷◌, ◌++◌, length, sym, ap, subst, ◌∙◌, arith, append_assoc}
use Rattle.code_ir.specs.declared.instr.Instr.{Instr}
use Rattle.code_ir.specs.declared.instr.Instr.TheVariants as op
use Rattle.code_ir.specs.Code.{Code}
use Rattle.code_ir.specs.Typing.{NamesCells}
use Rattle.lower_base.specs.Fitting.{Fits}
use Rattle.lower_base.specs.Placed.{StandsAt}
use Rattle.lower_base.proofs.Fitted.{Plain, plain_then}
use Rattle.lower_base.proofs.Keeping.{below_more}
use Rattle.lower_base.proofs.Runs.{stands_left, stands_right}
use Rattle.lower_stmt.specs.Calls.{HasRunRoutines}
use Rattle.lower_stmt.specs.Procedures.{Routines}
use Rattle.action_lower.proofs.FittedParts.{locals-fit, outputs-fit}
use Rattle.action_lower.proofs.LocalRuns.{started_grows}
use Rattle.action_lower.proofs.Storing.{outputs-grow}
use Rattle.lower_actor.specs.Fitting.{FiringsFit}

-- ---- more cells

names-more : (k m : ℕ) (i : Instr) → k ≤ m → NamesCells k i → NamesCells m i
names-more k m (op.Load c) le h = omega (arith, le, h)
names-more k m (op.Store c t) le h = omega (arith, le, h)
names-more k m (op.LoadAt c n) le h = omega (arith, le, h)
names-more k m (op.StoreAt c n t) le h = omega (arith, le, h)
names-more k m (op.Copy d s n t) le h = (let a = h.0 in omega (arith, le, a), let b = h.1 in omega (arith, le, b))
names-more k m (op.CopyTo d n s j t) le h = (let a = h.0 in omega (arith, le, a), let b = h.1 in omega (arith, le, b))
names-more k m (op.CopyFrom d s n j) le h = (let a = h.0 in omega (arith, le, a), let b = h.1 in omega (arith, le, b))
names-more k m (op.TokenList d p j l n) le h = omega (arith, le, h)
names-more k m (op.Zero c n) le h = omega (arith, le, h)
names-more k m (op.Const v) le h = tt
names-more k m (op.Index a b) le h = tt
names-more k m (op.Token a b) le h = tt
names-more k m (op.TokenAt a b c d) le h = tt
names-more k m op.Neg le h = tt
names-more k m op.BitNot le h = tt
names-more k m op.Not le h = tt
names-more k m op.Add le h = tt
names-more k m op.Sub le h = tt
names-more k m op.Mul le h = tt
names-more k m op.Div le h = tt
names-more k m op.Mod le h = tt
names-more k m op.Shl le h = tt
names-more k m op.Shr le h = tt
names-more k m op.And le h = tt
names-more k m op.Or le h = tt
names-more k m op.Xor le h = tt
names-more k m op.Eq le h = tt
names-more k m op.Ne le h = tt
names-more k m op.Lt le h = tt
names-more k m op.Le le h = tt
names-more k m op.Gt le h = tt
names-more k m op.Ge le h = tt
names-more k m (op.Jump t) le h = tt
names-more k m (op.JumpIfNot t) le h = tt
names-more k m op.Turn le h = tt
names-more k m (op.Call r) le h = tt
names-more k m op.Return le h = tt
names-more k m op.Drop le h = tt
names-more k m op.Answer le h = tt
names-more k m op.Done le h = tt

pub fits-more : (whole : Code) (callable k m base h : ℕ) (code : List Instr) (j out e : ℕ) → k ≤ m → Fits whole callable k base h code j out e → Fits whole callable m base h code j out e
fits-more whole callable k m base h code j out e le f = record {
  height = f.height;
  first = f.first;
  last = f.last;
  exit = f.exit;
  at = λ p i g.
      let one = f.at p i g in
      record {
        enough = one.enough;
        next = one.next;
        jump = one.jump;
        inside = one.inside;
        cells = names-more k m i le one.cells;
        calls = one.calls;
        inner = one.inner;
        sized = one.sized;
      };
}

pub has-more : (whole : Code) (callable k m : ℕ) (rs : Routines) → k ≤ m → HasRunRoutines whole callable k rs → HasRunRoutines whole callable m rs
has-more whole callable k m rs le has = record {
  functions = λ text f e.
      let one = has.functions text f e in
      (one.0, one.1, record { first = one.2.first; row = one.2.row; low_end = one.2.low_end; high_end = (let h = one.2.high_end in omega (arith, le, h)); sizes = one.2.sizes });
  procedures = λ text p e.
      let one = has.procedures text p e in
      (one.0, one.1, record { first = one.2.first; row = one.2.row; low_end = one.2.low_end; high_end = (let h = one.2.high_end in omega (arith, le, h)); sizes = one.2.sizes });
}

-- ---- the whole

pub firing-fits : FiringsFit
firing-fits whole callable limit rs names ports act firsts base n m code has below sized kinds le stands is =
    let n_k = started_grows rs is.locals in
    let k_j = is.body.cells in
    let j_m = outputs-grow is.outputs in
    let wide : HasRunRoutines whole callable limit rs = has-more whole callable n limit rs (omega (arith, n_k, k_j, j_m, le)) has in
    let all : StandsAt whole.instrs base (is.a ++ (is.b ++ (is.c ++ op.Done ∷ []))) = subst (StandsAt whole.instrs base) is.is stands in
    let after : StandsAt whole.instrs (base + length is.a) (is.b ++ (is.c ++ op.Done ∷ [])) = stands_right whole.instrs base is.a (is.b ++ (is.c ++ op.Done ∷ [])) all in
    let locals = locals-fit whole callable limit rs wide sized below (omega (arith, k_j, j_m, le)) (stands_left whole.instrs base is.a (is.b ++ (is.c ++ op.Done ∷ [])) all) is.locals in
    let inner : Fits whole callable is.j (base + length is.a) 0 is.b 0 (base + length is.a + length is.b) 0 =
    is.body.fits whole callable 0 (has-more whole callable n is.j rs (omega (arith, n_k, k_j)) has) (stands_left whole.instrs (base + length is.a) is.b (is.c ++ op.Done ∷ []) after) in
    let body : Plain whole callable limit (base + length is.a) 0 is.b 0 =
    fits-more whole callable is.j limit (base + length is.a) 0 is.b 0 (base + length is.a + length is.b) 0 (omega (arith, j_m, le)) inner in
    let outputs : Plain whole callable limit (base + length is.a + length is.b) 0 is.c 0 =
    outputs-fit whole callable limit rs wide kinds (below_more is.k is.j is.behind k_j locals.1) le (stands_left whole.instrs (base + length is.a + length is.b) is.c (op.Done ∷ []) (stands_right whole.instrs (base + length is.a) is.b (is.c ++ op.Done ∷ []) after)) is.outputs in
    record {
      body = is.a ++ (is.b ++ is.c);
      is = is.is ∙ ap (λ xs. is.a ++ xs) (sym (append_assoc is.b is.c (op.Done ∷ []))) ∙ sym (append_assoc is.a (is.b ++ is.c) (op.Done ∷ []));
      fits = plain_then whole callable limit base 0 0 0 is.a (is.b ++ is.c) locals.0 (plain_then whole callable limit (base + length is.a) 0 0 0 is.b is.c body outputs);
    }
