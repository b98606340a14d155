-- Functions that are kept have ranks of their own: how many of them have lower ones.
use Rattle.std.proofs.Common.{◌≡◌, ℕ, ◌<◌, ⊎_elim, Bool, true, false, List, [], ◌∷◌, length, refl, sym, ap, ◌∙◌, Contains, Some}
use Rattle.std.specs.Prelude.{if◌then◌else◌}
use Rattle.std.specs.Str.{bytes_eq}
use Rattle.cal_model.specs.Actor.{Fun, Local}
use Rattle.cal_model.specs.Call.{fun_named}
use Rattle.cal_model.specs.Kinding.{Names, with_known}
use Rattle.cal_model.specs.Sound.{Each, FunCallsBelow, FunsNeverReturn, IsFun, known_local, with_locals}
use Rattle.cal_model.specs.Value.{kind_of_scalar}
use Rattle.cal_model.proofs.KindNames.{text-same}
use Rattle.cal_check.proofs.CallsKnown.{IsKnownFun, calls-both, calls-known, locals-both, locals-known}
use Rattle.cal_check.proofs.Lists.{each-of, head-or-rest, in-none}
use Rattle.cal_check.proofs.SameParts.{each-both}
use Rattle.cal_check.proofs.SettledFuns.{below, below-all, below-less}

-- one that is there is found by its name, or another of the name is
named-there : (fs : List Fun) (f : Fun) → Contains fs f → IsKnownFun fs f.name
named-there [] f c = absurd (in-none f c)
named-there (g ∷ gs) f c = go (bytes_eq g.name f.name) refl (λ d. named-there gs f d)
  where
    go : (b : Bool) → bytes_eq g.name f.name ≡ b → (Contains gs f → IsKnownFun gs f.name) → (h : Fun) × ((if b then Some g else fun_named f.name gs) ≡ Some h)
    go true e rest = (g, refl)
    go false e rest =
        ⊎_elim (λ (s : g ≡ f). absurd (let w : false ≡ true = sym e ∙ ap (λ x. bytes_eq x.name f.name) s ∙ text-same f.name in cc)) (λ d. rest d) (head-or-rest f g gs c)

funs-on : (xs : List Local) (names : Names) → (with_locals xs names).funs ≡ names.funs
funs-on [] names = refl
funs-on (x ∷ xs) names = funs-on xs (with_known (known_local x) names)

call-below : (rank : List ℕ → ℕ) (names : Names) (f : Fun) → FunCallsBelow rank f → IsFun names f → FunCallsBelow (λ name. below rank names.funs (rank name)) f
call-below rank names f calls is =
    let less : (name : List ℕ) → rank name < rank f.name → IsKnownFun names.funs name → below rank names.funs (rank name) < below rank names.funs (rank f.name) =
    λ name l known. below-less rank name names.funs known.0 (rank f.name) known.1 l in
    let outer = funs-on f.formals names in
    record {
      locals = locals-both (λ name. rank name < rank f.name) (IsKnownFun names.funs) (λ name. below rank names.funs (rank name) < below rank names.funs (rank f.name)) (λ name. ⊥) less
          f.locals calls.locals (locals-known (λ name. ⊥) names.funs f.locals (with_locals f.formals names) outer is.locals);
      body = calls-both (λ name. rank name < rank f.name) (IsKnownFun names.funs) (λ name. below rank names.funs (rank name) < below rank names.funs (rank f.name)) (λ name. ⊥) less
          f.body calls.body (calls-known (λ name. ⊥) names.funs f.body (with_locals f.locals (with_locals f.formals names)) (kind_of_scalar f.result) (funs-on f.locals (with_locals f.formals names) ∙ outer) is.body);
    }

pub never-return : (rank : List ℕ → ℕ) (names : Names) → Each (FunCallsBelow rank) names.funs → Each (IsFun names) names.funs → FunsNeverReturn names.funs
never-return rank names calls are = record {
  rank = λ name. below rank names.funs (rank name);
  in_range = each-of (λ f. below rank names.funs (rank f.name) < length names.funs) names.funs
      (λ f c. let g = named-there names.funs f c in below-all rank f.name names.funs g.0 g.1);
  calls = each-both (FunCallsBelow rank) (IsFun names) (FunCallsBelow (λ name. below rank names.funs (rank name))) (call-below rank names) names.funs calls are;
}
