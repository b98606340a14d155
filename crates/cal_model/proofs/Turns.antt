-- Loops count their turns.
use Rattle.std.proofs.Common.{◌≡◌, ℕ, zero, suc, ◌+◌, ◌<◌, ℤ, pos, ◌+ℤ◌, refl, sym, ap, ◌∙◌, arith}
use Rattle.rvc_base.specs.declared.trap.Trap.TheVariants.{TurnLimit}
use Rattle.rvc_base.specs.Turns.{max_turns}
use Rattle.cal_model.specs.Outcome.{Out, Gives, Traps}
use Rattle.cal_model.specs.Env.{Env}
use Rattle.cal_model.specs.Statement.{for_loop}

abbrev idle : ℤ → Env → ℕ → Out Env
idle at now k = Gives now k

pub counts-turns : (n left : ℕ) (i : ℤ) (env : Env) → for_loop n i idle env (n + left) ≡ Gives env left
counts-turns zero left i env = ap (λ k. Gives env k) (let e : 0 + left ≡ left = omega arith in e)
counts-turns (suc n) left i env =
    let e : suc n + left ≡ suc (n + left) = omega arith in
    ap (λ k. for_loop (suc n) i idle env k) e ∙ counts-turns n left (i +ℤ pos 1) env

pub ends-by-turns : (n left : ℕ) (i : ℤ) (env : Env) → left < n → for_loop n i idle env left ≡ Traps TurnLimit
ends-by-turns zero left i env h = absurd (omega arith)
ends-by-turns (suc n) zero i env h = refl
ends-by-turns (suc n) (suc left) i env h = ends-by-turns n left (i +ℤ pos 1) env (omega arith)

-- 1,048,576 turns may be made ..
all_turns : (i : ℤ) (env : Env) → for_loop max_turns i idle env max_turns ≡ Gives env 0
all_turns i env =
    let e : max_turns + 0 ≡ max_turns = omega arith in
    ap (λ k. for_loop max_turns i idle env k) (sym e) ∙ counts-turns max_turns 0 i env

-- .. and the one after it may not
one_more_turn : (i : ℤ) (env : Env) → for_loop (suc max_turns) i idle env max_turns ≡ Traps TurnLimit
one_more_turn i env = ends-by-turns (suc max_turns) max_turns i env (omega arith)
