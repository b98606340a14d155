-- A function that is put in the place of the one of its name, or behind the others.
use Rattle.std.proofs.Common.{◌≡◌, ℕ, Bool, true, false, List, [], ◌∷◌, refl, sym, ap, ◌∙◌}
use Rattle.std.specs.Prelude.{Option, Some, if◌then◌else◌}
use Rattle.std.specs.Str.{bytes_eq}
use Rattle.std.proofs.lemmas.Slice.Eq.{bytes_eq-Decides}
use Rattle.cal_model.specs.Actor.{Fun}
use Rattle.cal_model.specs.Call.{fun_named}
use Rattle.const_env.specs.Constants.{with_set}

replaced : (b c : Bool) (f g : Fun) (o : Option Fun) → c ≡ b → (if b then Some f else o) ≡ (if b then Some f else if c then Some g else o)
replaced true c f g o e = refl
replaced false c f g o e = ap (λ d. if d then Some g else o) (sym e)

kept : (b c : Bool) (f g : Fun) (o : Option Fun) → (b ≡ true → c ≡ false)
    → (if c then Some g else if b then Some f else o) ≡ (if b then Some f else if c then Some g else o)
kept true true f g o h = let no : true ≡ false = h refl in cc
kept true false f g o h = refl
kept false c f g o h = refl

-- what is found of each name then
pub fun_set : (name : List ℕ) (f : Fun) (gs : List Fun) → fun_named name (with_set f gs) ≡ (if bytes_eq f.name name then Some f else fun_named name gs)
fun_set name f [] = refl
fun_set name f (g ∷ gs) = go (bytes_eq f.name g.name) refl (fun_set name f gs)
  where
    go : (b : Bool) → bytes_eq f.name g.name ≡ b → fun_named name (with_set f gs) ≡ (if bytes_eq f.name name then Some f else fun_named name gs)
        → fun_named name (if b then f ∷ gs else g ∷ with_set f gs) ≡ (if bytes_eq f.name name then Some f else if bytes_eq g.name name then Some g else fun_named name gs)
    go true e rest = replaced (bytes_eq f.name name) (bytes_eq g.name name) f g (fun_named name gs) (ap (λ n. bytes_eq n name) (sym ((bytes_eq-Decides f.name g.name).0 e)))
    go false e rest =
        ap (λ o. if bytes_eq g.name name then Some g else o) rest
        ∙ kept (bytes_eq f.name name) (bytes_eq g.name name) f g (fun_named name gs) (λ h. other (bytes_eq g.name name) refl h)
      where
        other : (c : Bool) → bytes_eq g.name name ≡ c → bytes_eq f.name name ≡ true → c ≡ false
        other true i h = sym ((bytes_eq-Decides f.name g.name).1 ((bytes_eq-Decides f.name name).0 h ∙ sym ((bytes_eq-Decides g.name name).0 i))) ∙ e
        other false i h = refl
