-- The room that admitted code needs is there.
use Rattle.std.proofs.Common.{◌≡◌, ℕ, suc, ◌+◌, ◌-◌, ◌*◌, ◌<◌, ◌≤◌, ◌==◌, Bool, true, false, refl, List, [], ◌∷◌, length, arith}
use Rattle.std.proofs.Math.Nat.{mul-le-mul_right, le_of_mul-le-mul_right, add-mul}
use Rattle.std.specs.Prelude.{Some, slice_get, if◌then◌else◌}
use Rattle.code_ir.specs.declared.instr.Instr.{Instr}
use Rattle.code_ir.specs.declared.instr.Instr.TheVariants as op
use Rattle.code_ir.specs.declared.instr.Routine.{Routine}
use Rattle.code_ir.specs.Code.{Code, body_of, routine_at, routine_of, results_of}
use Rattle.code_ir.specs.Typing.{IsAdmitted, Way, next, goes_on, pops, pushes}
use Rattle.code_ir.specs.Running.{State}
use Rattle.code_ir.specs.Standing.{Framed, entry, called, Stands}
use Rattle.action_machine.specs.Machine.{HasRoom, rises}

chosen : (P : ℕ → Type 0) (b : Bool) (x y : ℕ) → P x → P y → P (if b then x else y)
chosen P true x y p q = p
chosen P false x y p q = q

at-most : (routines : List Routine) (p : ℕ) → routine_at routines p ≤ length routines
at-most [] p = omega arith
at-most (r ∷ routines) p =
    let rest : routine_at routines p ≤ length routines = at-most routines p in
    chosen (λ n. n ≤ suc (length routines)) (r.start == p) 0 (suc (routine_at routines p)) (omega arith) (omega arith)

pub depth-bound : (code : Code) (r : ℕ) (frames : List ℕ) (below : ℕ) → r ≤ length code.routines → Framed code r frames below → length frames + r ≤ length code.routines
depth-bound code r frames below small (entry at) = omega (arith, small)
depth-bound code r frames below small (called {f = f} {frames = more} h n less way rest) =
    let rec = depth-bound code (routine_of code f) more n (at-most code.routines (body_of code f)) rest in
    omega (arith, rec, less)

below-bound : (code : Code) (room r : ℕ) (frames : List ℕ) (below : ℕ) → ((p h : ℕ) → Way code p h → h * (length code.routines + 1) ≤ room) → Framed code r frames below → below * (length code.routines + 1) ≤ length frames * room
below-bound code room r frames below each (entry at) = omega arith
below-bound code room r frames below each (called {f = f} {frames = more} h n less way rest) =
    let x : ℕ = length code.routines + 1 in
    let rec : n * x ≤ length more * room = below-bound code room (routine_of code f) more n each rest in
    let here : (h + results_of code r) * x ≤ room = each f (h + results_of code r) way in
    let part : h * x ≤ (h + results_of code r) * x = mul-le-mul_right x (omega arith) in
    let sum : (h + n) * x ≡ h * x + n * x = add-mul h n x in
    let more_room : (1 + length more) * room ≡ 1 * room + length more * room = add-mul 1 (length more) room in
    omega (arith, rec, here, part, sum, more_room)

-- a height in the body of this routine, with the operands under it, has room
pub height-bound : (code : Code) (room r p h : ℕ) (frames : List ℕ) (below : ℕ) → ((q k : ℕ) → Way code q k → k * (length code.routines + 1) ≤ room) → r ≤ length code.routines → Way code p h → Framed code r frames below → h + below ≤ room
height-bound code room r p h frames below each small way framed =
    let x : ℕ = length code.routines + 1 in
    let few : length frames + r ≤ length code.routines = depth-bound code r frames below small framed in
    let under : below * x ≤ length frames * room = below-bound code room r frames below each framed in
    let here : h * x ≤ room = each p h way in
    let sum : (h + below) * x ≡ h * x + below * x = add-mul h below x in
    let frames_room : (1 + length frames) * room ≡ 1 * room + length frames * room = add-mul 1 (length frames) room in
    let most : (1 + length frames) * room ≤ (length code.routines + 1) * room = mul-le-mul_right room (omega arith) in
    let turned : x * room ≡ room * x = mul-turned x room in
    let all : (h + below) * x ≤ room * x = omega (arith, under, here, sum, frames_room, most, turned) in
    le_of_mul-le-mul_right all (omega arith)
  where
    mul-turned : (a b : ℕ) → a * b ≡ b * a
    mul-turned a b = grind arith

module _ (code : Code) (s : State) (i : Instr) (operands calls : ℕ) (admitted : IsAdmitted code) (stands : Stands code s) (room : HasRoom code operands calls) (at : slice_get code.instrs s.place ≡ Some i) where
  pub operands-enough : pops i ≤ length s.stack
  operands-enough =
      let h : pops i ≤ stands.height = (admitted.typed s.place i at).height.enough stands.height stands.way in
      let n : length s.stack ≡ stands.height + stands.below = stands.operands in
      omega (arith, h, n)

  pub operands-fit : length s.stack ≤ operands
  operands-fit =
      let n : length s.stack ≡ stands.height + stands.below = stands.operands in
      let h : stands.height + stands.below ≤ operands = height-bound code operands (routine_of code s.place) s.place stands.height s.frames stands.below room.each_way (at-most code.routines (body_of code s.place)) stands.way stands.framed in
      omega (arith, h, n)

  operands-next : goes_on i ≡ true → stands.height - pops i + pushes code i + stands.below ≤ operands
  operands-next on =
      height-bound code operands (routine_of code s.place) (s.place + 1) (stands.height - pops i + pushes code i) s.frames stands.below room.each_way (at-most code.routines (body_of code s.place))
      (next stands.way at on ((admitted.typed s.place i at).height.enough stands.height stands.way)) stands.framed

  calls-fit : (r : ℕ) → r < routine_of code s.place → length s.frames < calls
  calls-fit r less =
      let few : length s.frames + routine_of code s.place ≤ length code.routines = depth-bound code (routine_of code s.place) s.frames stands.below (at-most code.routines (body_of code s.place)) stands.framed in
      let enough : length code.routines ≤ calls = room.each_call in
      omega (arith, few, enough, less)

pub depth-fits : (code : Code) (s : State) (operands calls : ℕ) → Stands code s → HasRoom code operands calls → length s.frames ≤ calls
depth-fits code s operands calls stands room =
    let few : length s.frames + routine_of code s.place ≤ length code.routines = depth-bound code (routine_of code s.place) s.frames stands.below (at-most code.routines (body_of code s.place)) stands.framed in
    let enough : length code.routines ≤ calls = room.each_call in
    omega (arith, few, enough)

pub room-for : (code : Code) (s : State) (i : Instr) (operands calls : ℕ) → IsAdmitted code → (stands : Stands code s) → HasRoom code operands calls → slice_get code.instrs s.place ≡ Some i → rises i + length s.stack ≤ operands
room-for code s (op.Const v) operands calls admitted stands room at = let h = operands-next code s (op.Const v) operands calls admitted stands room at refl in let n : length s.stack ≡ stands.height + stands.below = stands.operands in omega (arith, h, n)
room-for code s (op.Load c) operands calls admitted stands room at = let h = operands-next code s (op.Load c) operands calls admitted stands room at refl in let n : length s.stack ≡ stands.height + stands.below = stands.operands in omega (arith, h, n)
room-for code s (op.Token p k) operands calls admitted stands room at = let h = operands-next code s (op.Token p k) operands calls admitted stands room at refl in let n : length s.stack ≡ stands.height + stands.below = stands.operands in omega (arith, h, n)
room-for code s i operands calls admitted stands room at = let h = operands-fit code s i operands calls admitted stands room at in omega (arith, h)

-- a call has room, and names a routine
pub calls-room : (code : Code) (s : State) (r operands calls : ℕ) → IsAdmitted code → Stands code s → HasRoom code operands calls → slice_get code.instrs s.place ≡ Some (op.Call r) → (length s.frames < calls) × (r < length code.routines)
calls-room code s r operands calls admitted stands room at =
    let less : r < routine_of code s.place = (admitted.typed s.place (op.Call r) at).alone.calls in
    let bound : routine_of code s.place ≤ length code.routines = at-most code.routines (body_of code s.place) in
    (calls-fit code s (op.Call r) operands calls admitted stands room at r less, omega (arith, less, bound))
