-- Bodies that keep the facts of guards and firings, as can be seen from each instruction and those that may come next.
-- Not trusted: no promise is read with it.
use Rattle.std.specs.Prelude.{◌≡◌, ℕ, ◌+◌, ◌*◌, ◌<◌, ◌≤◌, Bool, true, false, if◌then◌else◌, List, [], Option, None, Some, All, slice_get}
use Rattle.code_ir.specs.declared.instr.Instr.{Instr}
use Rattle.code_ir.specs.declared.instr.Instr.TheVariants as op
use Rattle.code_ir.specs.declared.instr.Routine.{Routine}
use Rattle.code_ir.specs.Typing.{goes_on, target}
use Rattle.lowered_actor.specs.Actor.{Action, Actor, number_on}
use Rattle.lowered_actor.specs.Straight.{may_store}
use Rattle.lower_scratch.specs.declared.body.Body.{Body}
use Rattle.lower_scratch.specs.declared.body.Last.{Last}
use Rattle.lower_scratch.specs.declared.body.Last.TheVariants as last
use Rattle.lower_scratch.specs.Rows.{Enters, Flows, called, is_set, reads}

-- ---- one instruction

-- each of n cells from c on may be written
abbrev pub MayStoreEach : Actor → Bool → ℕ → ℕ → Type 0
MayStoreEach actor firing c n = (d : ℕ) → c ≤ d → d < c + n → may_store actor firing d ≡ true

-- the tokens k, k + m and so on, n of them, are among those that are taken
abbrev pub AreNeeded : List ℕ → ℕ → ℕ → ℕ → ℕ → Type 0
AreNeeded needs p k m n = (j : ℕ) → j < n → k + j * m < number_on needs p

-- It may stand in a body: it writes only where that is allowed, reads no token behind those that are taken, and ends
-- the body as it must.
abbrev pub MayStand : Actor → Bool → List ℕ → Last → Instr → Type 0
MayStand actor firing needs end (op.Const v) = Unit {0}
MayStand actor firing needs end (op.Load c) = Unit {0}
MayStand actor firing needs end (op.Store c t) = may_store actor firing c ≡ true
MayStand actor firing needs end (op.Index n m) = Unit {0}
MayStand actor firing needs end (op.LoadAt c n) = Unit {0}
MayStand actor firing needs end (op.StoreAt c n t) = MayStoreEach actor firing c n
MayStand actor firing needs end (op.Copy to from n t) = MayStoreEach actor firing to n
MayStand actor firing needs end (op.CopyTo to n from m t) = MayStoreEach actor firing to n
MayStand actor firing needs end (op.CopyFrom to from n m) = MayStoreEach actor firing to m
MayStand actor firing needs end (op.Token p k) = k < number_on needs p
MayStand actor firing needs end (op.TokenAt p k m n) = AreNeeded needs p k m n
MayStand actor firing needs end (op.TokenList to p k m n) = MayStoreEach actor firing to n
    × AreNeeded needs p k m n
MayStand actor firing needs end (op.Zero c n) = MayStoreEach actor firing c n
MayStand actor firing needs end op.Neg = Unit {0}
MayStand actor firing needs end op.BitNot = Unit {0}
MayStand actor firing needs end op.Not = Unit {0}
MayStand actor firing needs end op.Add = Unit {0}
MayStand actor firing needs end op.Sub = Unit {0}
MayStand actor firing needs end op.Mul = Unit {0}
MayStand actor firing needs end op.Div = Unit {0}
MayStand actor firing needs end op.Mod = Unit {0}
MayStand actor firing needs end op.Shl = Unit {0}
MayStand actor firing needs end op.Shr = Unit {0}
MayStand actor firing needs end op.And = Unit {0}
MayStand actor firing needs end op.Or = Unit {0}
MayStand actor firing needs end op.Xor = Unit {0}
MayStand actor firing needs end op.Eq = Unit {0}
MayStand actor firing needs end op.Ne = Unit {0}
MayStand actor firing needs end op.Lt = Unit {0}
MayStand actor firing needs end op.Le = Unit {0}
MayStand actor firing needs end op.Gt = Unit {0}
MayStand actor firing needs end op.Ge = Unit {0}
MayStand actor firing needs end (op.Jump t) = Unit {0}
MayStand actor firing needs end (op.JumpIfNot t) = Unit {0}
MayStand actor firing needs end op.Turn = Unit {0}
MayStand actor firing needs end (op.Call r) = Unit {0}
MayStand actor firing needs end op.Drop = Unit {0}
MayStand actor firing needs end op.Return = end ≡ last.Return
MayStand actor firing needs end op.Answer = end ≡ last.Answer
MayStand actor firing needs end op.Done = end ≡ last.Done

-- there is a body, and what it needs is set at a place of another one
abbrev pub MayEnter : ℕ → Option Body → Body → ℕ → Type 0
MayEnter kept None body p = ⊥
MayEnter kept (Some callee) body p = Enters kept callee body p

-- a routine that may be called at a place of a body: what it needs is set there
pub record MayCall (actor : Actor) (routines : List (Option Body)) (body : Body) (p r : ℕ) : Type 0 where
  pub callee : Body
  pub there : slice_get routines r ≡ Some (Some callee)
  pub enters : Enters actor.kept callee body p

-- an instruction at a place of a body: what it reads is set there, and what comes next stays in the body
pub record FitsHere (actor : Actor) (routines : List (Option Body)) (firing : Bool) (needs : List ℕ)
    (end : Last) (body : Body) (p : ℕ) (instr : Instr) : Type 0 where
  pub may : MayStand actor firing needs end instr
  pub reads : (c : ℕ) → reads instr c ≡ true → is_set actor.kept body p c ≡ true
  pub next : goes_on instr ≡ true → (p + 1 < body.end)
      × Flows actor.kept body instr p (p + 1)
  pub jump : (t : ℕ) → target instr ≡ Some t → (body.begin ≤ t) × (t < body.end)
      × Flows actor.kept body instr p t
  pub calls : (r : ℕ) → called instr ≡ Some r → MayCall actor routines body p r

-- .. whatever stands there
abbrev pub FitsAt : Actor → List (Option Body) → Bool → List ℕ → Last → Body → ℕ → Type 0
FitsAt actor routines firing needs end body p = (instr : Instr)
    → slice_get actor.code.instrs p ≡ Some instr
    → FitsHere actor routines firing needs end body p instr

-- .. so it is from the begin up to a place
abbrev pub FitsAll : Actor → List (Option Body) → Bool → List ℕ → Last → Body → ℕ → Type 0
FitsAll actor routines firing needs end body to = (p : ℕ) → body.begin ≤ p → p < to
    → FitsAt actor routines firing needs end body p

-- ---- whole bodies

-- Each instruction of a body fits: one that is part of a firing or of a guard, takes so many tokens from each port and
-- ends so.
pub record FitsBody (actor : Actor) (routines : List (Option Body)) (firing : Bool) (needs : List ℕ)
    (end : Last) (body : Body) : Type 0 where
  pub some : body.begin < body.end
  pub each : FitsAll actor routines firing needs end body body.end

-- the body of a routine, which takes no tokens
pub record IsRoutine (actor : Actor) (routines : List (Option Body)) (firing : Bool) (r : ℕ)
    (body : Body) : Type 0 where
  pub starts : (routine : Routine) → slice_get actor.code.routines r ≡ Some routine
      → routine.start ≡ body.begin
  pub fits : FitsBody actor routines firing [] last.Return body

-- each of these bodies is that of the routine at its place
abbrev pub AreRoutines : Actor → Bool → List (Option Body) → Type 0
AreRoutines actor firing routines = (r : ℕ) (body : Body) → slice_get routines r ≡ Some (Some body)
    → IsRoutine actor routines firing r body

-- the cells of the tokens to send are set at a place
abbrev pub AreSet : Actor → Action → Body → ℕ → Type 0
AreSet actor action body p = (port k : ℕ) → port < actor.outs → k < number_on action.gives port
    → is_set actor.kept body p (number_on action.sends port + k) ≡ true

-- .. wherever the body is done
abbrev pub Sends : Actor → Action → Body → ℕ → Type 0
Sends actor action body to = (p : ℕ) → body.begin ≤ p → p < to
    → slice_get actor.code.instrs p ≡ Some op.Done → AreSet actor action body p

-- how a firing ends, and a guard
abbrev pub last_of : Bool → Last
last_of firing = if firing then last.Done else last.Answer

-- A firing or a guard of an action has an entry: there begins a body that fits, and at first only state cells are set.
pub record HasBody (actor : Actor) (action : Action) (firing : Bool) (entry : ℕ) : Type 0 where
  pub routines : List (Option Body)
  pub are : AreRoutines actor firing routines
  pub body : Body
  pub begins : body.begin ≡ entry
  pub first : (c : ℕ) → is_set actor.kept body body.begin c ≡ true → c < actor.kept
  pub fits : FitsBody actor routines firing action.needs (last_of firing) body
  pub sends : firing ≡ true → Sends actor action body body.end

-- .. each guard of an action, and its firing
pub record HasBodies (actor : Actor) (action : Action) : Type 0 where
  pub guards : All (HasBody actor action false) action.guards
  pub firing : HasBody actor action true action.fire
