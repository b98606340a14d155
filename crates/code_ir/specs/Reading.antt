-- The tokens that instructions may read, whatever the operands are.
-- Trusted: part of what a promise means.
use Rattle.std.specs.Prelude.{◌≡◌, ℕ, ◌+◌, ◌*◌, ◌<◌, ℤ, List, length, Some, slice_get}
use Rattle.code_ir.specs.declared.instr.Instr.{Instr}
use Rattle.code_ir.specs.declared.instr.Instr.TheVariants as op

-- the places k, k + m and so on, n of them, are below a count
abbrev pub AreBelow : ℕ → ℕ → ℕ → ℕ → Type 0
AreBelow count k m n = (i : ℕ) → i < n → k + i * m < count

-- each token that the instruction may read is there
abbrev pub NamesTokens : (ℕ → List ℤ) → Instr → Type 0
NamesTokens tokens (op.Token p k) = k < length (tokens p)
NamesTokens tokens (op.TokenAt p k m n) = AreBelow (length (tokens p)) k m n
NamesTokens tokens (op.TokenList d p k m n) = AreBelow (length (tokens p)) k m n
NamesTokens tokens instr = Unit {0}

abbrev pub AllNameTokens : (ℕ → List ℤ) → List Instr → Type 0
AllNameTokens tokens instrs = (p : ℕ) (i : Instr) → slice_get instrs p ≡ Some i
    → NamesTokens tokens i
