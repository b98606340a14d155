-- How the number of steps to the end falls.
use Rattle.std.proofs.Common.{◌≡◌, ℕ, suc, ◌+◌, ◌-◌, ◌*◌, ◌^◌, ◌<◌, ◌≤◌, subst, List, length, arith}
use Rattle.std.specs.Prelude.{Option, None, Some}
use Rattle.std.proofs.Math.Nat.{pow-le-pow_right, mul-lt-mul_of_pos_right, mul-le-mul_right, pow-succ', one-le-pow}
use Rattle.code_ir.specs.declared.instr.Instr.{Instr}
use Rattle.code_ir.specs.declared.instr.Instr.TheVariants as op
use Rattle.code_ir.specs.Code.{Code, routine_of, body_of}
use Rattle.code_ir.specs.Typing.{IsAdmitted}
use Rattle.code_ir.specs.Standing.{Framed, entry, called, unit_of, body_left, frames_left, jumps_left}
use Rattle.code_ir.proofs.Bodies.{routine_at-bound}

pub fewer-on : (a b m w v : ℕ) → a ≤ b → w < v → a * m + w < b * m + v
fewer-on a b m w v h k = let p : a * m ≤ b * m = mul-le-mul_right m h in omega arith

pub fewer-back : (a b m w v : ℕ) → suc a ≤ b → w < m → a * m + w < b * m + v
fewer-back a b m w v h k = let p : suc a * m ≤ b * m = mul-le-mul_right m h in omega arith

power-positive : (n r : ℕ) → 0 < suc n ^ r
power-positive n r = one-le-pow r (suc n) (omega arith)

pub unit-positive : (code : Code) (r : ℕ) → 0 < unit_of code r
unit-positive code r = power-positive (length code.instrs) r

-- a body with all that it calls is shorter than one unit of a greater number
pub unit-greater : (code : Code) (r q : ℕ) → r < q → suc (length code.instrs) * unit_of code r ≤ unit_of code q
unit-greater code r q h =
    let n : ℕ = suc (length code.instrs) in
    let up : n ^ suc r ≤ n ^ q = pow-le-pow_right (omega arith) h in
    subst (λ k. k ≤ n ^ q) (pow-succ' n r) up

pub part-below : (n p x : ℕ) → 0 < x → (n - p) * x < suc n * x
part-below n p x h = mul-lt-mul_of_pos_right (omega arith) h

pub frames-bound : (code : Code) (r : ℕ) (frames : List ℕ) (below : ℕ) → IsAdmitted code → r ≤ length code.routines → Framed code r frames below → frames_left code frames + suc (length code.instrs) * unit_of code r ≤ unit_of code (suc (length code.routines))
frames-bound code r frames below admitted small (entry at) =
    let step = unit-greater code r (suc (length code.routines)) (omega arith) in omega (arith, step)
frames-bound code r frames below admitted small (called {f = f} {frames = more} h n less way rest) =
    let q : ℕ = routine_of code f in
    let bound : q ≤ length code.routines = routine_at-bound code.routines (body_of code f) in
    let more_bound = frames-bound code q more n admitted bound rest in
    let step : suc (length code.instrs) * unit_of code r ≤ unit_of code q = unit-greater code r q less in
    let part : (length code.instrs - f) * unit_of code q ≤ length code.instrs * unit_of code q = mul-le-mul_right (unit_of code q) (omega arith) in
    omega (arith, more_bound, step, part)

pub jumps-few : (o : Option Instr) → jumps_left o ≤ 1
jumps-few None = omega arith
jumps-few (Some op.Turn) = omega arith
jumps-few (Some i) = omega arith

-- a step forward in one body
pub forward : (code : Code) (p t : ℕ) → p < t → p < length code.instrs → routine_of code t ≡ routine_of code p → body_left code t < body_left code p
forward code p t less inside same =
    rw same (mul-lt-mul_of_pos_right (omega arith) (unit-positive code (routine_of code p)))

-- what is left of a body with the calls that are open below it is less than the unit of all of them
pub left-bound : (code : Code) (p : ℕ) (frames : List ℕ) (below : ℕ) → IsAdmitted code → Framed code (routine_of code p) frames below → body_left code p + frames_left code frames < unit_of code (suc (length code.routines))
left-bound code p frames below admitted framed =
    let r : ℕ = routine_of code p in
    let bound = frames-bound code r frames below admitted (routine_at-bound code.routines (body_of code p)) framed in
    let part : (length code.instrs - p) * unit_of code r < suc (length code.instrs) * unit_of code r = part-below (length code.instrs) p (unit_of code r) (unit-positive code r) in
    omega (arith, bound, part)

-- a call leaves less than what was left of the body that calls
pub called-less : (code : Code) (p s r : ℕ) → p < length code.instrs → r < routine_of code p → routine_of code s ≡ r → routine_of code (p + 1) ≡ routine_of code p → body_left code s + body_left code (p + 1) < body_left code p
called-less code p s r inside less at same =
    rw (at, same) (
    let x : ℕ = unit_of code (routine_of code p) in
    let step : suc (length code.instrs) * unit_of code r ≤ x = unit-greater code r (routine_of code p) less in
    let part : (length code.instrs - s) * unit_of code r < suc (length code.instrs) * unit_of code r = part-below (length code.instrs) s (unit_of code r) (unit-positive code r) in
    let split : suc (length code.instrs - (p + 1)) * x ≤ (length code.instrs - p) * x = mul-le-mul_right x (omega arith) in
    omega (arith, step, part, split))

pub body-positive : (code : Code) (p : ℕ) → p < length code.instrs → 0 < body_left code p
body-positive code p inside =
    let x : ℕ = unit_of code (routine_of code p) in
    let positive : 0 < x = unit-positive code (routine_of code p) in
    let split : 1 * x ≤ (length code.instrs - p) * x = mul-le-mul_right x (omega arith) in
    omega arith
