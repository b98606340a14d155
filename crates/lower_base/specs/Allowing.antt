-- What instructions write and read: cells that may be written, and tokens that may be read.
-- Trusted: part of what a promise means.
use Rattle.std.specs.Prelude.{◌≡◌, ℕ, ◌+◌, ◌*◌, ◌<◌, ◌≤◌, Bool, true, List, [], ◌∷◌, Some}
use Rattle.cal_model.specs.Value.{scalars_of_type}
use Rattle.code_ir.specs.declared.instr.Instr.{Instr}
use Rattle.code_ir.specs.declared.instr.Instr.TheVariants as op
use Rattle.lower_base.specs.declared.callees.Formal.{Formal}
use Rattle.lower_base.specs.declared.names.Seat.{Seat}
use Rattle.lower_base.specs.declared.names.Seat.TheVariants.{Cell, Tokens}
use Rattle.lower_base.specs.Callees.{Function, function_named}
use Rattle.lower_base.specs.Names.{Name, named}

-- which cells may be written, and which tokens of each port may be read
pub record Allowed : Type 0 where
  pub cells : ℕ → Bool
  pub tokens : ℕ → ℕ → Bool

-- each of n cells from c on may be written
abbrev pub MayWrite : Allowed → ℕ → ℕ → Type 0
MayWrite a c n = (d : ℕ) → c ≤ d → d < c + n → a.cells d ≡ true

-- the tokens k, k + m and so on, n of them, may be read
abbrev pub MayRead : Allowed → ℕ → ℕ → ℕ → ℕ → Type 0
MayRead a p k m n = (j : ℕ) → j < n → a.tokens p (k + j * m) ≡ true

-- an instruction writes only cells and reads only tokens of which that is so
abbrev pub IsAllowed : Allowed → Instr → Type 0
IsAllowed a (op.Store c t) = a.cells c ≡ true
IsAllowed a (op.StoreAt c n t) = MayWrite a c n
IsAllowed a (op.Copy to from n t) = MayWrite a to n
IsAllowed a (op.CopyTo to n from m t) = MayWrite a to n
IsAllowed a (op.CopyFrom to from n m) = MayWrite a to m
IsAllowed a (op.Token p k) = a.tokens p k ≡ true
IsAllowed a (op.TokenAt p k m n) = MayRead a p k m n
IsAllowed a (op.TokenList to p k m n) = MayWrite a to n × MayRead a p k m n
IsAllowed a (op.Zero c n) = MayWrite a c n
IsAllowed a instr = Unit {0}

-- .. so does each of these
abbrev pub AreAllowed : Allowed → List Instr → Type 0
AreAllowed a [] = Unit {0}
AreAllowed a (i ∷ instrs) = IsAllowed a i × AreAllowed a instrs

-- ---- what is round code

-- the tokens of a seat may be read
abbrev pub SeatIsRead : Allowed → ℕ → Seat → Type 0
SeatIsRead a size (Cell c) = Unit {0}
SeatIsRead a size (Tokens port first step) = MayRead a port first step size

-- .. so for each of the names
abbrev pub AreRead : Allowed → List Name → Type 0
AreRead a names = (text : List ℕ) (x : Name) → named text names ≡ Some x
    → SeatIsRead a (scalars_of_type x.shape) x.seat

-- the cells of formals may be written
abbrev pub AreWritten : Allowed → List Formal → Type 0
AreWritten a [] = Unit {0}
AreWritten a (x ∷ xs) = (a.cells x.cell ≡ true) × AreWritten a xs

-- What code of an expression needs: the cells from n on and those of the formals of functions may be written, and the
-- tokens of the names may be read.
pub record Allows (a : Allowed) (fs : List Function) (names : List Name) (n : ℕ) : Type 0 where
  pub own : (c : ℕ) → n ≤ c → a.cells c ≡ true
  pub formals : (text : List ℕ) (f : Function) → function_named text fs ≡ Some f
      → AreWritten a f.formals
  pub read : AreRead a names

-- code is allowed wherever that is so
abbrev pub KeepsAllowed : List Function → List Name → ℕ → List Instr → Type 0
KeepsAllowed fs names n code = (a : Allowed) → Allows a fs names n → AreAllowed a code
