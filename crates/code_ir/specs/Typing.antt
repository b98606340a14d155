-- The lines that code must meet before it runs.
-- Trusted but for `AllFitAlone` and `IsUnfit`: part of what a promise means.
use Rattle.std.specs.Prelude.{◌≡◌, ℕ, ◌+◌, ◌-◌, ◌^◌, ◌<◌, ◌≤◌, Bool, true, false, List, [], ◌∷◌, length, Option, None, Some, slice_get, take, ◌⊎◌}
use Rattle.rvc_base.specs.declared.scalar.Scalar.{Scalar}
use Rattle.rvc_base.specs.Storing.{IsSize}
use Rattle.code_ir.specs.declared.instr.Instr.{Instr}
use Rattle.code_ir.specs.declared.instr.Instr.TheVariants as op
use Rattle.code_ir.specs.declared.admitted.CodeFault.{CodeFault}
use Rattle.code_ir.specs.declared.admitted.CodeFault.TheVariants.{Bad, Memory}
use Rattle.code_ir.specs.Code.{Code, begins, is_among, body_of, routine_of, results_of}

-- ---- the places that begin bodies

-- a place that can't begin a body, after the places before it: it is outside the code, or among them
abbrev pub IsWrong : ℕ → List ℕ → ℕ → Type 0
IsWrong size before place = (size ≤ place) ⊎ (is_among place before ≡ true)

-- each place of a list is inside the code, and none stands twice
abbrev pub AreDistinct : ℕ → List ℕ → Type 0
AreDistinct size [] = Unit {0}
AreDistinct size (place ∷ places) = (place < size) × (is_among place places ≡ false)
    × AreDistinct size places

-- the places are distinct and in range, and 0 is one of them unless there are no instructions
pub record PlacesStand (code : Code) : Type 0 where
  pub distinct : AreDistinct (length code.instrs) (begins code)
  pub first : 0 < length code.instrs → is_among 0 (begins code) ≡ true

-- ---- heights

-- how many numbers an instruction pops
abbrev pub pops : Instr → ℕ
pops (op.Store c t) = 1
pops (op.Index n m) = 2
pops (op.LoadAt c n) = 1
pops (op.StoreAt c n t) = 2
pops (op.CopyTo d n s m t) = 1
pops (op.CopyFrom d s n m) = 1
pops (op.TokenAt p k m n) = 1
pops op.Neg = 1
pops op.BitNot = 1
pops op.Not = 1
pops op.Add = 2
pops op.Sub = 2
pops op.Mul = 2
pops op.Div = 2
pops op.Mod = 2
pops op.Shl = 2
pops op.Shr = 2
pops op.And = 2
pops op.Or = 2
pops op.Xor = 2
pops op.Eq = 2
pops op.Ne = 2
pops op.Lt = 2
pops op.Le = 2
pops op.Gt = 2
pops op.Ge = 2
pops (op.JumpIfNot t) = 1
pops op.Drop = 1
pops op.Answer = 1
pops instr = 0

-- how many it pushes then
abbrev pub pushes : Code → Instr → ℕ
pushes code (op.Const v) = 1
pushes code (op.Load c) = 1
pushes code (op.Index n m) = 1
pushes code (op.LoadAt c n) = 1
pushes code (op.Token p k) = 1
pushes code (op.TokenAt p k m n) = 1
pushes code op.Neg = 1
pushes code op.BitNot = 1
pushes code op.Not = 1
pushes code op.Add = 1
pushes code op.Sub = 1
pushes code op.Mul = 1
pushes code op.Div = 1
pushes code op.Mod = 1
pushes code op.Shl = 1
pushes code op.Shr = 1
pushes code op.And = 1
pushes code op.Or = 1
pushes code op.Xor = 1
pushes code op.Eq = 1
pushes code op.Ne = 1
pushes code op.Lt = 1
pushes code op.Le = 1
pushes code op.Gt = 1
pushes code op.Ge = 1
pushes code (op.Call r) = results_of code r
pushes code instr = 0

-- the next place may come after it
abbrev pub goes_on : Instr → Bool
goes_on (op.Jump t) = false
goes_on op.Return = false
goes_on op.Answer = false
goes_on op.Done = false
goes_on instr = true

-- where it may jump to
abbrev pub target : Instr → Option ℕ
target (op.Jump t) = Some t
target (op.JumpIfNot t) = Some t
target instr = None

-- some way through the code from the start of a body leads to this place, with so many operands on the stack
pub data Way (code : Code) : ℕ → ℕ → Type 0 where
  begin : {p : ℕ} → is_among p (begins code) ≡ true → Way code p 0
  next : {p h : ℕ} {i : Instr} → Way code p h → slice_get code.instrs p ≡ Some i → goes_on i ≡ true
      → pops i ≤ h → Way code (p + 1) (h - pops i + pushes code i)
  jump : {p h t : ℕ} {i : Instr} → Way code p h → slice_get code.instrs p ≡ Some i
      → target i ≡ Some t → pops i ≤ h → Way code t (h - pops i + pushes code i)

-- a body of a routine ends by `Return` at the height of its results
abbrev pub LeavesResults : Code → ℕ → ℕ → Instr → Type 0
LeavesResults code p h op.Return = h ≡ results_of code (routine_of code p)
LeavesResults code p h instr = Unit {0}

-- each way that reaches the place has the same height, which is enough
pub record HasOneHeight (code : Code) (p : ℕ) (i : Instr) : Type 0 where
  pub same : (h k : ℕ) → Way code p h → Way code p k → h ≡ k
  pub enough : (h : ℕ) → Way code p h → pops i ≤ h
  pub results : (h : ℕ) → Way code p h → LeavesResults code p h i

-- ---- what the other lines ask

-- `Return` stands in bodies of routines alone, `Answer` and `Done` in bodies of entries alone, whose number is
-- the number of routines
abbrev pub StandsInBody : ℕ → ℕ → Instr → Type 0
StandsInBody routines r op.Return = r < routines
StandsInBody routines r op.Answer = routines ≤ r
StandsInBody routines r op.Done = routines ≤ r
StandsInBody routines r instr = Unit {0}

-- a jump goes to a place of the same body, and one that goes not forward goes to a `Turn`
pub record IsTarget (code : Code) (p t : ℕ) : Type 0 where
  pub inside : t < length code.instrs
  pub same_body : body_of code t ≡ body_of code p
  pub turns : t ≤ p → slice_get code.instrs t ≡ Some op.Turn

abbrev pub JumpsInside : Code → ℕ → Instr → Type 0
JumpsInside code p (op.Jump t) = IsTarget code p t
JumpsInside code p (op.JumpIfNot t) = IsTarget code p t
JumpsInside code p instr = Unit {0}

-- the ranges of cells lie below the number of cells
abbrev pub NamesCells : ℕ → Instr → Type 0
NamesCells cells (op.Load c) = c + 1 ≤ cells
NamesCells cells (op.Store c t) = c + 1 ≤ cells
NamesCells cells (op.LoadAt c n) = c + n ≤ cells
NamesCells cells (op.StoreAt c n t) = c + n ≤ cells
NamesCells cells (op.Copy d s n t) = (d + n ≤ cells) × (s + n ≤ cells)
NamesCells cells (op.CopyTo d n s m t) = (d + n ≤ cells) × (s + m ≤ cells)
NamesCells cells (op.CopyFrom d s n m) = (d + m ≤ cells) × (s + n ≤ cells)
NamesCells cells (op.TokenList d p k m n) = d + n ≤ cells
NamesCells cells (op.Zero c n) = c + n ≤ cells
NamesCells cells instr = Unit {0}

-- A call names a routine. In the body of a routine it names one with a smaller number; the number of the
-- routine of an entry's body is the number of routines.
abbrev pub CallsSmaller : ℕ → Instr → Type 0
CallsSmaller number (op.Call r) = r < number
CallsSmaller number instr = Unit {0}

-- the instruction after one that goes on is of the same body
pub record StaysInside (code : Code) (p : ℕ) (i : Instr) : Type 0 where
  pub inside : goes_on i ≡ true → p + 1 < length code.instrs
  pub same_body : goes_on i ≡ true → is_among (p + 1) (begins code) ≡ false

-- the type in which a number is stored has a size that a type may have
abbrev pub IsSized : Option Scalar → Type 0
IsSized None = Unit {0}
IsSized (Some t) = IsSize t

abbrev pub HasSizes : Instr → Type 0
HasSizes (op.Store c t) = IsSized t
HasSizes (op.StoreAt c n t) = IsSized t
HasSizes (op.Copy d s n t) = IsSized t
HasSizes (op.CopyTo d n s m t) = IsSized t
HasSizes instr = Unit {0}

abbrev pub AllSized : List Instr → Type 0
AllSized instrs = (p : ℕ) (i : Instr) → slice_get instrs p ≡ Some i → HasSizes i

-- a number of 32 bits counts the instructions, and the routines
pub record AreFew (code : Code) : Type 0 where
  pub instrs : length code.instrs < 2 ^ 32
  pub routines : length code.routines < 2 ^ 32

-- ---- admitted code

-- the instruction at a place breaks no line but that of heights
pub record FitsAlone (code : Code) (p : ℕ) (i : Instr) : Type 0 where
  pub body : StandsInBody (length code.routines) (routine_of code p) i
  pub jumps : JumpsInside code p i
  pub cells : NamesCells code.cells i
  pub calls : CallsSmaller (routine_of code p) i
  pub after : StaysInside code p i

abbrev pub AllFitAlone : Code → Type 0
AllFitAlone code = (p : ℕ) (i : Instr) → slice_get code.instrs p ≡ Some i → FitsAlone code p i

abbrev pub IsUnfit : Code → ℕ → Type 0
IsUnfit code p = (i : Instr) × (slice_get code.instrs p ≡ Some i) × ¬ FitsAlone code p i

-- it breaks no line
pub record IsTyped (code : Code) (p : ℕ) (i : Instr) : Type 0 where
  pub alone : FitsAlone code p i
  pub height : HasOneHeight code p i

pub record IsAdmitted (code : Code) : Type 0 where
  pub places : PlacesStand code
  pub typed : (p : ℕ) (i : Instr) → slice_get code.instrs p ≡ Some i → IsTyped code p i

-- ---- what is named if a line is broken

-- it is the first of these places that is wrong
pub record IsFirstWrong (size : ℕ) (places : List ℕ) (at : ℕ) : Type 0 where
  pub index : ℕ
  pub is : slice_get places index ≡ Some at
  pub before : AreDistinct size (take index places)
  pub wrong : IsWrong size (take index places) at

-- the first of these places that is wrong, or 0 if no body begins there
abbrev pub IsWrongAmong : ℕ → List ℕ → ℕ → Type 0
IsWrongAmong size places at = IsFirstWrong size places at
    ⊎ (AreDistinct size places × (0 < size) × (is_among 0 places ≡ false) × (at ≡ 0))

abbrev pub IsWrongPlace : Code → ℕ → Type 0
IsWrongPlace code at = IsWrongAmong (length code.instrs) (begins code) at

-- the places stand, and the instruction at this one breaks a line
abbrev pub IsWrongInstr : Code → ℕ → Type 0
IsWrongInstr code at = PlacesStand code
    × ((i : Instr) × (slice_get code.instrs at ≡ Some i) × ¬ IsTyped code at i)

-- what a refusal of code says
abbrev pub IsCause : Code → CodeFault → Type 0
IsCause code (Bad at) = IsWrongPlace code at ⊎ IsWrongInstr code at
IsCause code Memory = Unit {0}
