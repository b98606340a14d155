-- The cells of what an action sends are there.
use Rattle.std.proofs.Common.{◌≡◌, ℕ, suc, ◌+◌, ◌*◌, ◌≤◌, Bool, true, false, List, [], ◌∷◌, length, refl, ap, ◌∙◌, arith}
use Rattle.std.specs.Prelude.{◌==◌, if◌then◌else◌}
use Rattle.rvc_base.specs.declared.scalar.Scalar.{Scalar}
use Rattle.cal_ast.specs.Tree.{Tree, listed}
use Rattle.cal_model.specs.Actor.{Actor, Output, Port}
use Rattle.cal_model.specs.Rates.{given_on, parts, parts_times}
use Rattle.code_ir.specs.declared.instr.Instr.{Instr}
use Rattle.lower_base.specs.declared.draft.Draft.{Draft}
use Rattle.lower_base.specs.Callees.{Function}
use Rattle.lower_base.specs.Names.{Name}
use Rattle.expr_lower.proofs.Filled.{grows_fill, grows_fills}
use Rattle.lower_stmt.specs.Procedures.{Routines}
use Rattle.action_lower.specs.FiringCode.{first_on}
use Rattle.action_lower.specs.FiringWords.{AddsFiring}
use Rattle.action_lower.specs.Sending.{AreOutputs, IsRepeated, in_turns, list_output_more, no_output, one_list, output_more}
use Rattle.action_lower.proofs.Storing.{outputs-grow, stored-grows}
use Rattle.lower_actor.specs.Coded.{SendsInside}

parts-of : (es : List Tree) → parts (listed es) ≡ length es
parts-of [] = refl
parts-of (e ∷ es) = ap suc (parts-of es)

once : (n : ℕ) → n * 1 ≡ n
once n = omega arith

repeated-inside : {fs : List Function} {names : List Name} {kind : Scalar} {times : ℕ} {es : List Tree} {base n m : ℕ} {code : List Instr} → IsRepeated fs names kind times es base n code m
    → n + length es * times ≤ m
repeated-inside {times = times} (one_list e base n m code sent) =
    let g = grows_fill sent.filled in omega (arith, g)
repeated-inside {times = times} (in_turns es base n m rows body row_is fills) =
    let g = grows_fills fills in omega (arith, row_is, g)

pub outputs-inside : {fs : List Function} {names : List Name} {ports : List Port} {os : List Output} {firsts : List ℕ} {base n m : ℕ} {code : List Instr} → AreOutputs fs names ports os firsts base n code m → (port : ℕ)
    → first_on os firsts port + given_on port os ≤ m
outputs-inside (no_output base n) port = omega arith
outputs-inside (output_more o others firsts base n k m a b first rest) port = by (o.port == port) (outputs-inside rest port)
  where
    count : parts_times (parts o.values) o.repeat ≡ length first.parts
    count = ap (λ v. parts_times (parts v) o.repeat) first.values ∙ ap (parts_times (parts (listed first.parts))) first.once ∙ (once (parts (listed first.parts)) ∙ parts-of first.parts)

    by : (c : Bool) → first_on others firsts port + given_on port others ≤ m → (if c then n else first_on others firsts port) + (if c then parts_times (parts o.values) o.repeat else given_on port others) ≤ m
    by true later = let up = stored-grows first.stored in let more = outputs-grow rest in omega (arith, count, up, more)
    by false later = later
outputs-inside (list_output_more o others firsts base n k m a b first rest) port = by (o.port == port) (outputs-inside rest port)
  where
    count : parts_times (parts o.values) o.repeat ≡ length first.parts * first.times
    count = ap (λ v. parts_times (parts v) o.repeat) first.are ∙ ap (parts_times (parts (listed first.parts))) first.repeated ∙ ap (λ l. l * first.times) (parts-of first.parts)

    by : (c : Bool) → first_on others firsts port + given_on port others ≤ m → (if c then n else first_on others firsts port) + (if c then parts_times (parts o.values) o.repeat else given_on port others) ≤ m
    by true later = let up = repeated-inside first.stored in let more = outputs-grow rest in omega (arith, count, up, more)
    by false later = later

pub firing-inside : (rs : Routines) (actor : Actor) (a entry : ℕ) (firsts : List ℕ) (old new : Draft) → AddsFiring rs actor a entry firsts old new → SendsInside actor a firsts new
firing-inside rs actor a entry firsts old new added act port e = outputs-inside (added.1 act e).has.outputs port
