-- What a name that is called stands for, by the roles of the names that a file sees.
use Rattle.std.proofs.Common.{ℕ, Bool, true, false, List, [], ◌∷◌}
use Rattle.std.specs.Prelude.{Option, None, Some, if◌then◌else◌}
use Rattle.std.specs.Str.{bytes_eq}
use Rattle.rvc_base.specs.Rules.{not_as_asked}
use Rattle.cal_model.specs.Kinding.{Fine, Broken}
use Rattle.cal_model.specs.Sound.{Each}
use Rattle.cal_scope.specs.declared.role.Role.{Role}
use Rattle.cal_scope.specs.declared.role.Role.TheVariants.{Variable, Function, Procedure}
use Rattle.cal_scope.specs.Names.{Global, Names, full_name, global_named, is_among, is_role, local, meant_by, used_as}
use Rattle.law_sources.proofs.FormJudgements.{OnFine}

-- the text of a function is such, and that of a procedure
abbrev pub InRole : (F P : List ℕ → Type 0) → Role → List ℕ → Type 0
InRole F P Variable full = Unit {0}
InRole F P Function full = F full
InRole F P Procedure full = P full

abbrev pub IsMeant : (F P : List ℕ → Type 0) → Global → Type 0
IsMeant F P g = InRole F P g.role g.full

-- .. of all names that a file sees
abbrev pub AreMeant : (F P : List ℕ → Type 0) → List Global → Type 0
AreMeant F P gs = Each (IsMeant F P) gs

abbrev pub OnSome : {A : Type 0} → (A → Type 0) → Option A → Type 0
OnSome P None = Unit {0}
OnSome P (Some x) = P x

pub named_meant : (Q : Global → Type 0) (name : List ℕ) (gs : List Global) → Each Q gs → OnSome Q (global_named name gs)
named_meant Q name [] h = tt
named_meant Q name (g ∷ gs) h = go (bytes_eq name g.name) (named_meant Q name gs h.1)
  where
    go : (b : Bool) → OnSome Q (global_named name gs) → OnSome Q (if b then Some g else global_named name gs)
    go true rest = h.0
    go false rest = rest

meant_by_one : (F P : List ℕ → Type 0) (name : List ℕ) (names : Names) → AreMeant F P names.globals → OnSome (IsMeant F P) (meant_by name names)
meant_by_one F P name names h = go (is_among name names.locals)
  where
    go : (b : Bool) → OnSome (IsMeant F P) (if b then Some (local name) else global_named name names.globals)
    go true = tt
    go false = named_meant (IsMeant F P) name names.globals h

function_role : (F P : List ℕ → Type 0) (r : Role) (full : List ℕ) (at : ℕ) → InRole F P r full → OnFine F (if is_role Function r then Fine full else Broken not_as_asked at)
function_role F P Variable full at h = tt
function_role F P Function full at h = h
function_role F P Procedure full at h = tt

procedure_role : (F P : List ℕ → Type 0) (r : Role) (full : List ℕ) (at : ℕ) → InRole F P r full → OnFine P (if is_role Procedure r then Fine full else Broken not_as_asked at)
procedure_role F P Variable full at h = tt
procedure_role F P Function full at h = tt
procedure_role F P Procedure full at h = h

function_full : (F P : List ℕ → Type 0) (o : Option Global) (at : ℕ) → OnSome (IsMeant F P) o → OnFine F (full_name Function at o)
function_full F P None at h = tt
function_full F P (Some g) at h = function_role F P g.role g.full at h

procedure_full : (F P : List ℕ → Type 0) (o : Option Global) (at : ℕ) → OnSome (IsMeant F P) o → OnFine P (full_name Procedure at o)
procedure_full F P None at h = tt
procedure_full F P (Some g) at h = procedure_role F P g.role g.full at h

-- a name that is called as a function stands for such a text
pub function_meant : (F P : List ℕ → Type 0) (name : List ℕ) (at : ℕ) (names : Names) → AreMeant F P names.globals → OnFine F (used_as Function name at names)
function_meant F P name at names h = function_full F P (meant_by name names) at (meant_by_one F P name names h)

-- .. and one that is called as a procedure
pub procedure_meant : (F P : List ℕ → Type 0) (name : List ℕ) (at : ℕ) (names : Names) → AreMeant F P names.globals → OnFine P (used_as Procedure name at names)
procedure_meant F P name at names h = procedure_full F P (meant_by name names) at (meant_by_one F P name names h)
