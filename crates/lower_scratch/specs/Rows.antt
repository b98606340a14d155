-- Where the cells that runs use for themselves hold what the run wrote.
-- Not trusted: no promise is read with it.
use Rattle.std.specs.Prelude.{◌≡◌, ℕ, suc, ◌+◌, ◌-◌, ◌==◌, ◌⊎◌, Bool, true, false, ◌&&◌, ◌||◌, if◌then◌else◌, List, [], nat_le, Option, None, Some, slice_get, slice_index_or}
use Rattle.code_ir.specs.declared.instr.Instr.{Instr}
use Rattle.code_ir.specs.declared.instr.Instr.TheVariants as op
use Rattle.lower_scratch.specs.declared.body.Body.{Body}

-- ---- what is set

-- at a place of a body, for each cell from its first one on whether it is set
abbrev pub row_at : Body → ℕ → List Bool
row_at body p = elim (slice_get body.rows.items (p - body.begin)) [ None ↦ [] | Some row ↦ row.items ]

-- the row of a place says that a cell is set there
abbrev pub is_said : Body → ℕ → ℕ → Bool
is_said body p c =
    if nat_le (suc c) body.low then false else slice_index_or (row_at body p) (c - body.low) false

-- At a place a cell is set: it is a state cell, or the row of the place says so.
abbrev pub is_set : ℕ → Body → ℕ → ℕ → Bool
is_set kept body p c = nat_le (suc c) kept || is_said body p c

-- each cell that is to be set when a body is called is set at a place of another one
abbrev pub Enters : ℕ → Body → Body → ℕ → Type 0
Enters kept callee body p = (c : ℕ) → is_set kept callee callee.begin c ≡ true
    → is_set kept body p c ≡ true

-- ---- what an instruction reads and writes

-- a cell is one of n cells from c on
abbrev pub is_among : ℕ → ℕ → ℕ → Bool
is_among c n d = nat_le c d && nat_le (suc d) (c + n)

-- what an instruction surely writes
abbrev pub writes : Instr → ℕ → Bool
writes (op.Store c t) d = c == d
writes (op.Copy to from n t) d = is_among to n d
writes (op.CopyFrom to from n m) d = is_among to m d
writes (op.TokenList to p k m n) d = is_among to n d
writes (op.Zero c n) d = is_among c n d
writes instr d = false

-- what it may read
abbrev pub reads : Instr → ℕ → Bool
reads (op.Load c) d = c == d
reads (op.LoadAt c n) d = is_among c n d
reads (op.Copy to from n t) d = is_among from n d
reads (op.CopyTo to n from m t) d = is_among from m d
reads (op.CopyFrom to from n m) d = is_among from n d
reads instr d = false

-- the routine that it calls
abbrev pub called : Instr → Option ℕ
called (op.Call r) = Some r
called instr = None

-- if a cell is set at a place q, behind an instruction at p, it was set at p or is written there
abbrev pub FlowsAt : ℕ → Body → Instr → ℕ → ℕ → ℕ → Type 0
FlowsAt kept body instr p q c = is_set kept body q c ≡ true
    → (is_set kept body p c ≡ true) ⊎ (writes instr c ≡ true)

-- .. so it is with each cell
abbrev pub Flows : ℕ → Body → Instr → ℕ → ℕ → Type 0
Flows kept body instr p q = (c : ℕ) → FlowsAt kept body instr p q c
