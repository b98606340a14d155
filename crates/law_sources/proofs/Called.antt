-- A name that is called isn't hidden by one that is declared inside.
use Rattle.std.proofs.Common.{◌≡◌, ℕ, Bool, true, false, List, [], ◌∷◌, refl, sym, subst, ◌∙◌}
use Rattle.std.proofs.lemmas.Slice.Eq.{bytes_eq-Decides}
use Rattle.std.specs.Prelude.{Option, None, Some, if◌then◌else◌}
use Rattle.std.specs.Str.{bytes_eq}
use Rattle.rvc_base.specs.Rules.{not_as_asked}
use Rattle.cal_model.specs.Kinding.{Fine, Broken}
use Rattle.cal_model.specs.Sound.{Each}
use Rattle.cal_scope.specs.declared.role.Role.{Role}
use Rattle.cal_scope.specs.declared.role.Role.TheVariants.{Variable, Function, Procedure}
use Rattle.cal_scope.specs.Names.{Global, Names, full_name, global_named, is_among, is_role, local, used_as}
use Rattle.law_sources.proofs.Counts.{count}
use Rattle.law_sources.proofs.WordTokens.{IsWord}
use Rattle.law_sources.proofs.Hiding.{IsFree, apart, unword, not_among}
use Rattle.law_sources.proofs.ScopeJudgements.{OnFine}

-- what stands for a name of a file is the name, or no word
pub data IsTold (g : Global) : Type 0 where
  plain : g.full ≡ g.name → IsTold g
  dotted : (IsWord g.full → ⊥) → IsTold g

abbrev pub AreTold : List Global → Type 0
AreTold gs = Each IsTold gs

-- .. of a name
pub record IsToldAs (name : List ℕ) (g : Global) : Type 0 where
  pub same : name ≡ g.name
  pub told : IsTold g

-- it holds of what is found, if anything is
abbrev pub OnSome : {A : Type 0} → (A → Type 0) → Option A → Type 0
OnSome P None = Unit {0}
OnSome P (Some x) = P x

pub named_told : (name : List ℕ) (gs : List Global) → AreTold gs → OnSome (IsToldAs name) (global_named name gs)
named_told name [] h = tt
named_told name (g ∷ gs) h = go (bytes_eq name g.name) (bytes_eq-Decides name g.name).0 (named_told name gs h.1)
  where
    go : (b : Bool) → (b ≡ true → name ≡ g.name) → OnSome (IsToldAs name) (global_named name gs) → OnSome (IsToldAs name) (if b then Some g else global_named name gs)
    go true same more = record { same = same refl; told = h.0 }
    go false same more = more

free_full : (here : List (List ℕ)) (name : List ℕ) (g : Global) → count name here ≡ 0 → IsToldAs name g → IsTold g → IsFree here g.full
free_full here name g none h (plain e) = apart (subst (λ z. count z here ≡ 0) (h.same ∙ sym e) none)
free_full here name g none h (dotted u) = unword u

-- a role that no name inside has
abbrev pub IsCalled : Role → Type 0
IsCalled Variable = ⊥
IsCalled other = Unit {0}

if_free : (here : List (List ℕ)) (b : Bool) (full : List ℕ) (at : ℕ) → IsFree here full → OnFine (IsFree here) (if b then Fine full else Broken not_as_asked at)
if_free here true full at h = h
if_free here false full at h = tt

full_free : (here : List (List ℕ)) (role : Role) (name : List ℕ) (at : ℕ) (o : Option Global) → count name here ≡ 0 → OnSome (IsToldAs name) o
    → OnFine (IsFree here) (full_name role at o)
full_free here role name at None none h = tt
full_free here role name at (Some g) none h = if_free here (is_role role g.role) g.full at (free_full here name g none h h.told)

no_variable : (here : List (List ℕ)) (role : Role) (name : List ℕ) (at : ℕ) → IsCalled role → OnFine (IsFree here) (full_name role at (Some (local name)))
no_variable here Variable name at r = absurd r
no_variable here Function name at r = tt
no_variable here Procedure name at r = tt

-- what a call is written out as, no name inside has
pub called_free : (role : Role) (name : List ℕ) (at : ℕ) (names : Names) → IsCalled role → AreTold names.globals → OnFine (IsFree names.locals) (used_as role name at names)
called_free role name at names r told = go (is_among name names.locals) refl
  where
    go : (b : Bool) → is_among name names.locals ≡ b → OnFine (IsFree names.locals) (full_name role at (if b then Some (local name) else global_named name names.globals))
    go true e = no_variable names.locals role name at r
    go false e = full_free names.locals role name at (global_named name names.globals) (not_among name names.locals e) (named_told name names.globals told)
