-- Declarations, one after another.
use Rattle.std.proofs.Common.{◌≡◌, ℕ, Bool, true, false, List, [], ◌∷◌, ◌++◌, refl, sym, ap, subst, ◌∙◌, arith, Ok, Err}
use Rattle.std.specs.Prelude.{Some, if◌then◌else◌}
use Rattle.std.specs.declared.result.Result.{Result}
use Rattle.rvc_base.specs.declared.refusal.Rule.{Rule}
use Rattle.rvc_base.specs.declared.refusal.Front.{Front}
use Rattle.rvc_base.specs.declared.refusal.Front.TheVariants as front
use Rattle.cal_model.specs.Value.{Shape, Value, HasKind, kind_of_type}
use Rattle.cal_model.specs.Actor.{Held}
use Rattle.cal_model.specs.declared.value.Value.{Value as DeclaredValue}
use Rattle.cal_model.specs.Kinding.{Judged, Fine, Broken, Known, Names}
use Rattle.cal_model.specs.Sound.{Each}
use Rattle.const_env.specs.Held.{Kept, globals_of, held, names_in}
use Rattle.const_env.specs.Judging.{Breaks}
use Rattle.const_env.specs.declared.fault.KindFault.{KindFault}
use Rattle.const_env.specs.declared.fault.KindFault.TheVariants as fault
use Rattle.cal_check.specs.Constants.{early_type}
use Rattle.cal_check.specs.Violations.{Violation, said, violation}
use Rattle.cal_check.specs.Variables.{Spot, found_in, Given, VarDecl, Valued, come, value_of, param_broken, held_if, is_none, value_or, seen, with_var, with_type, valued}
use Rattle.fnl_values.proofs.Faults.{cause_in_first, cause_in_others}
use Rattle.fnl_values.specs.Causes.{Refuses}
use Rattle.check_given.specs.Causes.{IsCause}
use Rattle.fnl_values.specs.Judging.{Comes, Settles, fine_so_far, value_breaks}
use Rattle.fnl_values.specs.Steady.{IsConstant, IsSteady, names_of}

-- ---- names

-- an environment without functions is seen as its names alone
pub names_are : (env : Kept) → IsSteady env → names_in env ≡ names_of (globals_of env)
names_are env steady = ap (λ fs. record { globals = globals_of env; locals = []; funs = fs }) steady.no_funs

-- the name of a declaration
abbrev pub known_of : VarDecl → Shape → Value → Known
known_of x t v = record { name = x.name; kind = kind_of_type t; value = Some v; changes = x.changes }

-- an environment with one constant more
pub steady_more : (old new : Kept) (x : VarDecl) (t : Shape) (v : Value) → IsSteady old → (held new).funs ≡ (held old).funs → globals_of new ≡ known_of x t v ∷ globals_of old
    → HasKind (kind_of_type t) v → IsSteady new
steady_more old new x t v steady funs globals h = record {
  no_funs = funs ∙ steady.no_funs;
  values = subst (λ ks. Each IsConstant ks) (sym globals) (record { value = v; is = refl; has_kind = h }, steady.values);
}

-- ---- one declaration

with_typed : (x : VarDecl) (gs : List Given) (owner : Spot) (known : List Known) (after : List Held) (j : Judged Shape) → early_type x.shape (names_of known) ≡ j
    → with_var x gs owner [] (fine_so_far known after) ≡ with_type j x gs owner (names_of known) (fine_so_far known after)
with_typed x gs owner known after j h = ap (λ i. with_type i x gs owner (names_of known) (fine_so_far known after)) h

pub type_breaks : (x : VarDecl) (gs : List Given) (owner : Spot) (known : List Known) (after : List Held) (rule : Rule) (at : ℕ) (f : Front)
    → early_type x.shape (names_of known) ≡ Broken rule at → IsCause f (found_in x.file (violation rule at))
    → IsCause f (with_var x gs owner [] (fine_so_far known after)).breaks
type_breaks x gs owner known after rule at f h cause =
    subst (λ vs. IsCause f vs.breaks) (sym (with_typed x gs owner known after (Broken rule at) h)) cause

-- the same of a fault in the type
pub type_fault : (x : VarDecl) (gs : List Given) (owner : Spot) (known : List Known) (after : List Held) (k : KindFault) (f : Front)
    → Breaks k (early_type x.shape (names_of known)) → ((vs : List Violation) → Refuses k vs → IsCause f (found_in x.file vs))
    → IsCause f (with_var x gs owner [] (fine_so_far known after)).breaks
type_fault x gs owner known after (fault.Broken rule at) f h cause =
    type_breaks x gs owner known after rule at f h (cause (violation rule at) (0, omega arith, refl))
type_fault x gs owner known after fault.Memory f h cause = cause_of_none f (cause [] tt)
  where
    cause_of_none : (g : Front) → IsCause g (found_in x.file []) → IsCause g (with_var x gs owner [] (fine_so_far known after)).breaks
    cause_of_none (front.Refused r) c = absurd (omega (arith, c.1))
    cause_of_none front.Memory c = tt

pub value_broken : (x : VarDecl) (gs : List Given) (owner : Spot) (known : List Known) (after : List Held) (t : Shape) (f : Front)
    → early_type x.shape (names_of known) ≡ Fine t → IsCause f (value_breaks x gs owner t (names_of known))
    → IsCause f (with_var x gs owner [] (fine_so_far known after)).breaks
value_broken x gs owner known after t f h cause =
    subst (λ vs. IsCause f vs.breaks) (sym (with_typed x gs owner known after (Fine t) h)) cause

-- its value, which breaks nothing
pub declares : (x : VarDecl) (gs : List Given) (owner : Spot) (known : List Known) (after : List Held) (t : Shape) (v : Value)
    → early_type x.shape (names_of known) ≡ Fine t → value_of x gs t (come t x.start (names_of known)).value ≡ Some v → value_breaks x gs owner t (names_of known) ≡ []
    → with_var x gs owner [] (fine_so_far known after) ≡ fine_so_far (known_of x t v ∷ known) (held_if (Some v) x t after)
declares x gs owner known after t v h value none =
    with_typed x gs owner known after (Fine t) h
    ∙ ap (λ o. record {
      known = record { name = x.name; kind = kind_of_type t; value = Some (value_or o (kind_of_type t)); changes = x.changes } ∷ known;
      held = held_if o x t after;
      breaks = value_breaks x gs owner t (names_of known);
      useless = is_none o;
      whole = true;
    }) value
    ∙ ap (λ fs. record { known = known_of x t v ∷ known; held = held_if (Some v) x t after; breaks = fs; useless = false; whole = true }) none

-- ---- all declarations

-- what is broken stays so
broken_by_one : (x : VarDecl) (gs : List Given) (owner : Spot) (vs : Valued) (f : Front) → IsCause f vs.breaks → IsCause f (with_var x gs owner [] vs).breaks
broken_by_one x gs owner vs f h = go vs.whole
  where
    typed : (j : Judged Shape) → IsCause f (with_type j x gs owner (seen [] vs.known) vs).breaks
    typed (Fine t) = cause_in_first f vs.breaks (found_in x.file (said vs.useless (come t x.start (seen [] vs.known)).breaks) ++ param_broken x gs owner t) h
    typed (Broken rule at) = cause_in_first f vs.breaks (found_in x.file (said vs.useless (violation rule at))) h

    go : (b : Bool) → IsCause f (if b then with_type (early_type x.shape (seen [] vs.known)) x gs owner (seen [] vs.known) vs else vs).breaks
    go true = typed (early_type x.shape (seen [] vs.known))
    go false = h

pub stays_broken : (xs : List VarDecl) (gs : List Given) (owner : Spot) (vs : Valued) (f : Front) → IsCause f vs.breaks → IsCause f (valued xs gs owner [] vs).breaks
stays_broken [] gs owner vs f h = h
stays_broken (x ∷ xs) gs owner vs f h = stays_broken xs gs owner (with_var x gs owner [] vs) f (broken_by_one x gs owner vs f h)

-- ---- values

-- a start that breaks nothing, and what a parameter is given
pub comes_of : (r : Result DeclaredValue Front) (x : VarDecl) (gs : List Given) (owner : Spot) (t : Shape) (names : Names) (v : Value)
    → come t x.start names ≡ record { value = Some v; breaks = [] } → Settles r (value_of x gs t (Some v)) (param_broken x gs owner t) → Comes r x gs owner t names
comes_of (Ok w) x gs owner t names v c s =
    (ap (λ d. value_of x gs t d.value) c ∙ s.0, ap (λ d. found_in x.file d.breaks ++ param_broken x gs owner t) c ∙ s.1)
comes_of (Err f) x gs owner t names v c s =
    cause_in_others f (found_in x.file (come t x.start names).breaks) (param_broken x gs owner t) s
