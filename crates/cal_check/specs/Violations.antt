-- Rules that are broken, and lists of parts that are judged.
-- Trusted: part of what a promise means.
use Rattle.std.specs.Prelude.{ℕ, Bool, true, false, List, [], ◌∷◌, ◌++◌, ◌==◌, Option, None, Some, if◌then◌else◌}
use Rattle.rvc_base.specs.declared.refusal.Rule.{Rule}
use Rattle.rvc_base.specs.Rules.{not_constant}
use Rattle.cal_model.specs.Kinding.{Judged, Fine, Broken, and_so}

-- a rule that is broken, and the offset in its file at which it is
pub record Violation : Type 0 where
  pub rule : Rule
  pub at : ℕ

abbrev pub violation : Rule → ℕ → List Violation
violation rule at = record { rule = rule; at = at } ∷ []

-- a rule that is broken unless this holds
abbrev pub unless : Bool → Rule → ℕ → List Violation
unless true rule at = []
unless false rule at = violation rule at

-- what is broken in a part: nothing, or the first rule
abbrev pub broken : {A : Type 0} → Judged A → List Violation
broken (Fine a) = []
broken (Broken rule at) = violation rule at

-- what is found, if no rule is broken
abbrev pub fine : {A : Type 0} → Judged A → Option A
fine (Fine a) = Some a
fine (Broken rule at) = None

-- what a part breaks, or what is broken behind it
abbrev pub if_fine : {A : Type 0} → Judged A → (A → List Violation) → List Violation
if_fine (Fine a) f = f a
if_fine (Broken rule at) f = violation rule at

-- what is broken behind a part, if it breaks nothing itself
abbrev pub while_fine : {A : Type 0} → Judged A → (A → List Violation) → List Violation
while_fine (Fine a) f = f a
while_fine (Broken rule at) f = []

-- of a list of parts, in order
abbrev pub all_broken : {A : Type 0} → List (Judged A) → List Violation
all_broken [] = []
all_broken (j ∷ js) = broken j ++ all_broken js

-- the parts, if none is broken
abbrev pub and_all : {A : Type 0} → Option A → Option (List A) → Option (List A)
and_all (Some a) (Some rest) = Some (a ∷ rest)
and_all (Some a) None = None
and_all None rest = None

abbrev pub all_fine : {A : Type 0} → List (Judged A) → Option (List A)
all_fine [] = Some []
all_fine (j ∷ js) = and_all (fine j) (all_fine js)

-- the first of several parts that is broken, or all parts
abbrev pub all_judged : {A : Type 0} → List (Judged A) → Judged (List A)
all_judged [] = Fine []
all_judged (Broken rule at ∷ js) = Broken rule at
all_judged (Fine a ∷ js) = and_so (all_judged js) (λ rest. Fine (a ∷ rest))

-- Without what isn't constant: nothing is said of it if a value that it may need broke a rule before.
abbrev pub without_constants : List Violation → List Violation
without_constants [] = []
without_constants (v ∷ vs) =
    if v.rule.0 == not_constant.0 then without_constants vs else v ∷ without_constants vs

abbrev pub said : Bool → List Violation → List Violation
said true vs = without_constants vs
said false vs = vs

-- the places of what stands twice: each part whose key was met before, with its place
pub record Keyed (K : Type 0) : Type 0 where
  pub key : K
  pub at : ℕ

abbrev pub is_met : {K : Type 0} → (K → K → Bool) → K → List K → Bool
is_met same k [] = false
is_met same k (met ∷ others) = if same k met then true else is_met same k others

abbrev pub twice : {K : Type 0} → (K → K → Bool) → Rule → List K → List (Keyed K) → List Violation
twice same rule met [] = []
twice same rule met (x ∷ xs) =
    if is_met same x.key met then violation rule x.at ++ twice same rule met xs
    else twice same rule (x.key ∷ met) xs
