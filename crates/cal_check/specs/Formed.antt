-- Statements and variables as the grammar and the scopes leave them: names are identifiers, and those of one scope differ.
-- Trusted: part of what a promise means.
use Rattle.std.specs.Prelude.{◌≡◌, ◌<◌, ℕ, true, List, Option, None, Some}
use Rattle.cal_ast.specs.Tree as tree
use Rattle.cal_ast.specs.Tree.{Tree}
use Rattle.cal_model.specs.Sound.{AreDistinct, EachCall, names_of_vars}

-- a part that may be missing
abbrev pub IsOptional : Tree → Type 0
IsOptional tree.absent = Unit {0}
IsOptional (tree.present t) = Unit {0}
IsOptional other = ⊥

-- variables that are declared inside, each with its name
abbrev pub AreDeclared : Tree → Type 0
AreDeclared tree.nil = Unit {0}
AreDeclared (tree.cons (tree.var shape (tree.ident name place) start changes at) vars) =
    IsOptional start × AreDeclared vars
AreDeclared other = ⊥

abbrev mutual
  pub IsFormed : Tree → Type 0
  IsFormed (tree.assign (tree.ident name place) places value at) = Unit {0}
  IsFormed (tree.call_stmt (tree.ident name place) args at) = Unit {0}
  IsFormed (tree.if_stmt test first other at) = AreFormed first × AreFormed other
  IsFormed (tree.while_stmt test body at) = AreFormed body
  IsFormed (tree.foreach_stmt shape (tree.ident name place) from to body at) = AreFormed body
  IsFormed (tree.block vars body at) =
      AreDeclared vars × AreDistinct (names_of_vars vars) × AreFormed body
  IsFormed other = ⊥

  -- statements, or a body that may be missing
  pub AreFormed : Tree → Type 0
  AreFormed tree.nil = Unit {0}
  AreFormed (tree.cons s rest) = IsFormed s × AreFormed rest
  AreFormed tree.absent = Unit {0}
  AreFormed (tree.present body) = AreFormed body
  AreFormed other = ⊥

-- an action; an `initialize` has no patterns
abbrev pub IsActionFormed : Tree → Type 0
IsActionFormed (tree.action tagged initialize patterns outputs guards vars body at) =
    AreDeclared vars × AreFormed body × (initialize ≡ true → patterns ≡ tree.nil)
IsActionFormed other = ⊥

abbrev pub IsProcFormed : Tree → Type 0
IsProcFormed (tree.procedure (tree.ident name place) formals vars body at) =
    AreDeclared vars × AreFormed body
IsProcFormed other = ⊥

abbrev pub IsFunFormed : Tree → Type 0
IsFunFormed (tree.function name formals result vars body at) = AreDeclared vars
IsFunFormed other = ⊥

-- the calls in the types of formals are of such functions
abbrev pub FormalCalls : (P Q : List ℕ → Type 0) → Tree → Type 0
FormalCalls P Q (tree.port shape name at) = EachCall P Q shape
FormalCalls P Q other = Unit {0}

abbrev pub FormalsCall : (P Q : List ℕ → Type 0) → Tree → Type 0
FormalsCall P Q (tree.cons f fs) = FormalCalls P Q f × FormalsCall P Q fs
FormalsCall P Q other = Unit {0}

-- the declaration of a function calls only functions of lower ranks, in its types too
abbrev pub DeclCallsBelow : (rank : List ℕ → ℕ) → List ℕ → Tree → Type 0
DeclCallsBelow rank full (tree.function name formals result vars body at) =
    FormalsCall (λ other. rank other < rank full) (λ other. ⊥) formals
    × EachCall (λ other. rank other < rank full) (λ other. ⊥) result
    × EachCall (λ other. rank other < rank full) (λ other. ⊥) vars
    × EachCall (λ other. rank other < rank full) (λ other. ⊥) body
DeclCallsBelow rank full other = ⊥

-- the transitions of a schedule
abbrev pub AreMoves : Tree → Type 0
AreMoves tree.nil = Unit {0}
AreMoves (tree.cons (tree.move from tags to at) moves) = AreMoves moves
AreMoves other = ⊥

abbrev pub IsScheduleFormed : Option Tree → Type 0
IsScheduleFormed None = Unit {0}
IsScheduleFormed (Some (tree.schedule start moves at)) = AreMoves moves
IsScheduleFormed (Some other) = ⊥
