-- What declarations start with.
use Rattle.std.proofs.Common.{◌≡◌, ℕ, Bool, true, false, [], refl, sym, ap, subst, ◌∙◌, arith, Err}
use Rattle.std.specs.Prelude.{Contains, None, Some, ◌==◌, if◌then◌else◌}
use Rattle.rvc_base.specs.Rules.{unknown_name, not_constant}
use Rattle.rvc_base.specs.Turns.{max_turns}
use Rattle.rvc_base.specs.declared.refusal.Rule.{Rule}
use Rattle.cal_ast.specs.Places.{begins}
use Rattle.cal_ast.specs.Tree as tree
use Rattle.cal_ast.specs.Tree.{Tree}
use Rattle.cal_model.specs.Value.{Kind, Shape, Value, HasKind, kind_of_type, stored}
use Rattle.cal_model.specs.Keeping.{GivesOnly}
use Rattle.cal_model.specs.Outcome.{Out, Gives, Traps, Lacks, Clashes}
use Rattle.cal_model.specs.Kinding.{Judged, Fine, Broken, Names, kind, one_kind, constant}
use Rattle.cal_model.specs.Laws.{ConstantIsValue}
use Rattle.cal_model.proofs.KindValues.{split, one-kind, not-fine, fine-is}
use Rattle.const_env.specs.Held.{Kept, names_in}
use Rattle.const_env.specs.Judging.{Breaks}
use Rattle.const_env.specs.declared.fault.KindFault.{KindFault}
use Rattle.const_env.specs.declared.fault.KindFault.TheVariants as fault
use Rattle.cal_check.specs.Constants.{constant_place, early_kind, not_yet, stored_kind, value_given}
use Rattle.cal_check.specs.Violations.{violation}
use Rattle.cal_check.specs.Variables.{Come, come, come_of, come_if}
use Rattle.check_values.proofs.Kept.{test_passes}
use Rattle.fnl_values.proofs.Constants.{keeps}
use Rattle.fnl_values.specs.Causes.{Refuses}
use Rattle.fnl_values.specs.Judging.{Starts, outcome_judged}
use Rattle.fnl_values.specs.Steady.{IsSteady}

-- ---- names that aren't known yet

fine_yet : {A : Type 0} (j : Judged A) (e : Tree) (a : A) → not_yet j e ≡ Fine a → j ≡ Fine a
fine_yet (Fine b) e a h = h
fine_yet (Broken rule at) e a h = go (rule.0 == unknown_name.0) h
  where
    go : (b : Bool) → (if b then Broken not_constant (constant_place at e) else Broken rule at) ≡ Fine a → Broken rule at ≡ Fine a
    go true f = absurd (not-fine not_constant (constant_place at e) a f)
    go false f = f

-- an expression that may be stored as one of a kind is of that kind
pub early_is : (k j : Kind) (e : Tree) (names : Names) → early_kind k e names ≡ Fine j → kind e names ≡ Fine k
early_is k j e names h =
    let s = split (kind e names) (λ found. one_kind k found (begins e)) j (fine_yet (stored_kind k e names) e j h) in
    s.1 ∙ ap Fine (sym (one-kind k s.0 j (begins e) s.2).0)

-- ---- starts

come_gives : (t : Shape) (o : Out Value) (at : ℕ) (v : Value) → GivesOnly (HasKind (kind_of_type t)) max_turns o → outcome_judged o at ≡ Fine v
    → (come_of (value_given o t at) ≡ record { value = Some (stored t v); breaks = [] }) × HasKind (kind_of_type t) v
come_gives t (Gives w left) at v h e =
    let same : w ≡ v = fine-is w v e in
    subst (λ x. (come_of (value_given (Gives w left) t at) ≡ record { value = Some (stored t x); breaks = [] }) × HasKind (kind_of_type t) x) same
    (ap (λ b. come_of (Fine (if b then Some (stored t w) else None))) (test_passes (kind_of_type t) w h.0), h.0)
come_gives t (Traps c) at v h e = absurd (cc)
come_gives t Lacks at v h e = absurd (cc)
come_gives t Clashes at v h e = absurd h

abbrev without_value : Judged Value → Come
without_value (Fine w) = record { value = None; breaks = [] }
without_value (Broken rule at) = record { value = None; breaks = violation rule at }

come_breaks : (t : Shape) (o : Out Value) (at : ℕ) (rule : Rule) (p : ℕ) → GivesOnly (HasKind (kind_of_type t)) max_turns o → outcome_judged o at ≡ Broken rule p
    → come_of (value_given o t at) ≡ record { value = None; breaks = violation rule p }
come_breaks t (Gives w left) at rule p h e = absurd (cc)
come_breaks t (Traps c) at rule p h e = ap without_value e
come_breaks t Lacks at rule p h e = ap without_value e
come_breaks t Clashes at rule p h e = absurd h

-- a start of its kind that gives a value
pub start_gives : ConstantIsValue → (env : Kept) (t : Shape) (e : Tree) (v : Value) → IsSteady env
    → early_kind (kind_of_type t) e (names_in env) ≡ Fine (kind_of_type t) → outcome_judged (constant e (names_in env)) (begins e) ≡ Fine v
    → (come t (tree.present e) (names_in env) ≡ record { value = Some (stored t v); breaks = [] }) × HasKind (kind_of_type t) v
start_gives law env t e v steady early h =
    let only = keeps law env e (kind_of_type t) steady (early_is (kind_of_type t) (kind_of_type t) e (names_in env) early) in
    let gives = come_gives t (constant e (names_in env)) (begins e) v only h in
    (ap (λ j. come_if j t e (names_in env)) early ∙ gives.0, gives.1)

-- .. or breaks a rule
pub start_breaks : ConstantIsValue → (env : Kept) (t : Shape) (e : Tree) (rule : Rule) (p : ℕ) → IsSteady env
    → early_kind (kind_of_type t) e (names_in env) ≡ Fine (kind_of_type t) → outcome_judged (constant e (names_in env)) (begins e) ≡ Broken rule p
    → come t (tree.present e) (names_in env) ≡ record { value = None; breaks = violation rule p }
start_breaks law env t e rule p steady early h =
    let only = keeps law env e (kind_of_type t) steady (early_is (kind_of_type t) (kind_of_type t) e (names_in env) early) in
    ap (λ j. come_if j t e (names_in env)) early ∙ come_breaks t (constant e (names_in env)) (begins e) rule p only h

-- a start that is of another kind
pub kind_breaks : (names : Names) (t : Shape) (e : Tree) (rule : Rule) (p : ℕ) → early_kind (kind_of_type t) e names ≡ Broken rule p
    → come t (tree.present e) names ≡ record { value = None; breaks = violation rule p }
kind_breaks names t e rule p h = ap (λ j. come_if j t e names) h

pub start_refuses : (f : KindFault) (c : Come) → Starts (Err f) c → Refuses f c.breaks
start_refuses (fault.Broken rule at) c h = subst (λ vs. Contains vs (record { rule = rule; at = at })) (sym (ap (λ d. d.breaks) h)) (0, omega arith, refl)
start_refuses fault.Memory c h = tt

pub start_fault : ConstantIsValue → (env : Kept) (t : Shape) (e : Tree) (f : KindFault) → IsSteady env
    → early_kind (kind_of_type t) e (names_in env) ≡ Fine (kind_of_type t) → Breaks f (outcome_judged (constant e (names_in env)) (begins e))
    → Starts (Err f) (come t (tree.present e) (names_in env))
start_fault law env t e (fault.Broken rule at) steady early h = start_breaks law env t e rule at steady early h
start_fault law env t e fault.Memory steady early h = tt
