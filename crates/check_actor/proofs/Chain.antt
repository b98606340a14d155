-- From what parts break to what is said of an actor.
use Rattle.std.proofs.Common.{◌≡◌, ◌⊎◌, inl, inr, Bool, true, false, List, [], ◌∷◌, ◌++◌, refl, sym, ap, subst, ◌∙◌}
use Rattle.std.specs.Prelude.{Contains, if◌then◌else◌, not, ◌&&◌, ◌||◌, ◌==◌}
use Rattle.std.proofs.lemmas.List.Elements.{Contains-append_left, Contains-append_right}
use Rattle.rvc_base.specs.Rules.{not_constant}
use Rattle.cal_check.specs.Actors.{Source, all_said, all_valued, behind_variables, declared_vars, first_valueless, has_heads, said_or_all, violations_over}
use Rattle.cal_check.specs.Actions.{Around}
use Rattle.cal_check.specs.Variables.{Found, Given, Spot}
use Rattle.cal_check.proofs.Lists.{at-head, head-or-rest, in-none, in-rest}

-- a rule that is said although another hides what isn't constant
abbrev pub IsSaid : Bool → Found → Type 0
IsSaid hides f = (hides && (f.violation.rule.0 == not_constant.0)) ≡ false

clash : false ≡ true → ⊥
clash h = cc

said_here : (hides : Bool) (fs : List Found) (f g : Found) (b : Bool) → (hides && (g.violation.rule.0 == not_constant.0)) ≡ b
    → IsSaid hides f → (g ≡ f) ⊎ Contains (all_said hides fs) f → Contains (if b then all_said hides fs else g ∷ all_said hides fs) f
said_here hides fs f g true e s (inl same) = absurd (clash (sym s ∙ subst (λ x. (hides && (x.violation.rule.0 == not_constant.0)) ≡ true) same e))
said_here hides fs f g true e s (inr h) = h
said_here hides fs f g false e s (inl same) = at-head f g (all_said hides fs) same
said_here hides fs f g false e s (inr h) = in-rest f g (all_said hides fs) h

pub said_among : (hides : Bool) (fs : List Found) (f : Found) → IsSaid hides f → Contains fs f → Contains (all_said hides fs) f
said_among hides [] f s h = absurd (in-none f h)
said_among hides (g ∷ fs) f s h =
    said_here hides fs f g (hides && (g.violation.rule.0 == not_constant.0)) refl s (next (λ i. said_among hides fs f s i) (head-or-rest f g fs h))
  where
    next : (Contains fs f → Contains (all_said hides fs) f) → (g ≡ f) ⊎ Contains fs f → (g ≡ f) ⊎ Contains (all_said hides fs) f
    next k (inl e) = inl e
    next k (inr i) = inr (k i)

pub first_said : (said all : List Found) (f : Found) → Contains said f → Contains (said_or_all said all) f
first_said [] all f h = absurd (in-none f h)
first_said (g ∷ said) all f h = h

-- ---- what the variables break

pub variables_break : (s : Source) (gs : List Given) (owner : Spot) (around : Around) (f : Found) → IsSaid (not (has_heads s around)) f
    → Contains (all_valued s gs owner).breaks f → Contains (violations_over s gs owner around) f
variables_break s gs owner around f said h =
    first_said _ _ f (said_among (not (has_heads s around)) _ f said
    (Contains-append_left (all_valued s gs owner).breaks (all_said (all_valued s gs owner).useless (behind_variables s gs owner around)) f h))

-- ---- what is broken behind them

pub behind_break : (s : Source) (gs : List Given) (owner : Spot) (around : Around) (f : Found) → IsSaid (not (has_heads s around)) f
    → IsSaid (all_valued s gs owner).useless f → Contains (behind_variables s gs owner around) f → Contains (violations_over s gs owner around) f
behind_break s gs owner around f said useful h =
    first_said _ _ f (said_among (not (has_heads s around)) _ f said
    (Contains-append_right (all_valued s gs owner).breaks (all_said (all_valued s gs owner).useless (behind_variables s gs owner around)) f
    (said_among (all_valued s gs owner).useless (behind_variables s gs owner around) f useful h)))

-- ---- nothing

over_none : (hides useless : Bool) (breaks behind valueless : List Found) → breaks ≡ [] → behind ≡ [] → valueless ≡ []
    → said_or_all (all_said hides (breaks ++ all_said useless behind)) (said_or_all (breaks ++ behind) valueless) ≡ []
over_none hides useless breaks behind valueless b h v =
    subst (λ bs. said_or_all (all_said hides (bs ++ all_said useless behind)) (said_or_all (bs ++ behind) valueless) ≡ []) (sym b)
    (subst (λ hs. said_or_all (all_said hides (all_said useless hs)) (said_or_all hs valueless) ≡ []) (sym h) v)

pub nothing_is_broken : (s : Source) (gs : List Given) (owner : Spot) (around : Around) → (all_valued s gs owner).breaks ≡ [] → behind_variables s gs owner around ≡ []
    → (all_valued s gs owner).useless ≡ false → (all_valued s gs owner).whole ≡ true → violations_over s gs owner around ≡ []
nothing_is_broken s gs owner around b h useless whole =
    over_none (not (has_heads s around)) (all_valued s gs owner).useless (all_valued s gs owner).breaks (behind_variables s gs owner around) _ b h
    (ap (λ u. if u then first_valueless (declared_vars s) (all_valued s gs owner).held owner else [])
    (ap (λ u. u || not (all_valued s gs owner).whole) useless ∙ ap not whole))

-- nothing but a variable without a value
pub valueless_is_broken : (s : Source) (gs : List Given) (owner : Spot) (around : Around) (f : Found) → (all_valued s gs owner).breaks ≡ [] → behind_variables s gs owner around ≡ []
    → ((all_valued s gs owner).useless || not (all_valued s gs owner).whole) ≡ true
    → Contains (first_valueless (declared_vars s) (all_valued s gs owner).held owner) f → Contains (violations_over s gs owner around) f
valueless_is_broken s gs owner around f b h u c =
    go (not (has_heads s around)) (all_valued s gs owner).useless (all_valued s gs owner).breaks (behind_variables s gs owner around) _ b h
    (subst (λ w. Contains (if w then first_valueless (declared_vars s) (all_valued s gs owner).held owner else []) f) (sym u) c)
  where
    go : (hides useless : Bool) (breaks behind valueless : List Found) → breaks ≡ [] → behind ≡ [] → Contains valueless f
        → Contains (said_or_all (all_said hides (breaks ++ all_said useless behind)) (said_or_all (breaks ++ behind) valueless)) f
    go hides useless breaks behind valueless b h c =
        subst (λ bs. Contains (said_or_all (all_said hides (bs ++ all_said useless behind)) (said_or_all (bs ++ behind) valueless)) f) (sym b)
        (subst (λ hs. Contains (said_or_all (all_said hides (all_said useless hs)) (said_or_all hs valueless)) f) (sym h) c)
