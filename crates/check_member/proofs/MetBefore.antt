-- Parts that stand twice, by what was met before, in any order.
use Rattle.std.proofs.Common.{◌≡◌, Bool, true, false, ◌||◌, List, [], ◌∷◌, ◌++◌, refl, sym, ap, ◌∙◌}
use Rattle.std.specs.Prelude.{if◌then◌else◌}
use Rattle.std.specs.List.{list_any}
use Rattle.rvc_base.specs.declared.refusal.Rule.{Rule}
use Rattle.cal_check.specs.Violations.{Keyed, violation, is_met, twice}

either : (b c d e : Bool) → e ≡ (if c then true else d) → (if b then true else e) ≡ (if c then true else if b then true else d)
either true true d e h = refl
either true false d e h = refl
either false c d e h = h

-- a key that is added last
pub met-behind : {K : Type 0} (same : K → K → Bool) (k x : K) (met : List K) → is_met same k (met ++ x ∷ []) ≡ is_met same k (x ∷ met)
met-behind same k x [] = refl
met-behind same k x (y ∷ met) = either (same k y) (same k x) (is_met same k met) (is_met same k (met ++ x ∷ [])) (met-behind same k x met)

-- only which keys were met counts
pub twice-met : {K : Type 0} (same : K → K → Bool) (rule : Rule) (met others : List K) (xs : List (Keyed K)) → ((k : K) → is_met same k met ≡ is_met same k others) → twice same rule met xs ≡ twice same rule others xs
twice-met same rule met others [] h = refl
twice-met same rule met others (x ∷ xs) h =
    ap (λ b. if b then violation rule x.at ++ twice same rule met xs else twice same rule (x.key ∷ met) xs) (h x.key)
    ∙ ap (λ vs. if is_met same x.key others then violation rule x.at ++ vs else twice same rule (x.key ∷ met) xs) (twice-met same rule met others xs h)
    ∙ ap (λ vs. if is_met same x.key others then violation rule x.at ++ twice same rule others xs else vs)
    (twice-met same rule (x.key ∷ met) (x.key ∷ others) xs (λ k. ap (λ b. if same k x.key then true else b) (h k)))

-- a part that wasn't met is met behind it
pub twice-new : {K : Type 0} (same : K → K → Bool) (rule : Rule) (met : List K) (x : Keyed K) (xs : List (Keyed K)) → is_met same x.key met ≡ false → twice same rule met (x ∷ xs) ≡ twice same rule (met ++ x.key ∷ []) xs
twice-new same rule met x xs h =
    ap (λ b. if b then violation rule x.at ++ twice same rule met xs else twice same rule (x.key ∷ met) xs) h
    ∙ twice-met same rule (x.key ∷ met) (met ++ x.key ∷ []) xs (λ k. sym (met-behind same k x.key met))

pub twice-old : {K : Type 0} (same : K → K → Bool) (rule : Rule) (met : List K) (x : Keyed K) (xs : List (Keyed K)) → is_met same x.key met ≡ true → twice same rule met (x ∷ xs) ≡ violation rule x.at ++ twice same rule met xs
twice-old same rule met x xs h =
    ap (λ b. if b then violation rule x.at ++ twice same rule met xs else twice same rule (x.key ∷ met) xs) h

or-if : (b c : Bool) → (if b then true else c) ≡ (b || c)
or-if true c = refl
or-if false c = refl

-- the same as std's word for a search
pub met-any : {K : Type 0} (same : K → K → Bool) (k : K) (met : List K) → is_met same k met ≡ list_any (same k) met
met-any same k [] = refl
met-any same k (x ∷ met) = or-if (same k x) (is_met same k met) ∙ ap (λ c. same k x || c) (met-any same k met)
