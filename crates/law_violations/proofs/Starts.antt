-- Where nothing is broken each variable has a type and a value.
use Rattle.std.proofs.Common.{◌≡◌, ℕ, Bool, true, false, ◌||◌, List, [], ◌∷◌, ◌++◌, refl, sym, ap, subst, ◌∙◌}
use Rattle.std.specs.Prelude.{Option, None, Some, if◌then◌else◌, ◌==◌}
use Rattle.std.proofs.lemmas.List.{append_assoc}
use Rattle.rvc_base.specs.Rules.{not_constant, unknown_name, wrong_parameter}
use Rattle.cal_ast.specs.Places.{begins}
use Rattle.cal_ast.specs.Tree as tree
use Rattle.cal_ast.specs.Tree.{Tree}
use Rattle.cal_model.specs.Kinding.{Judged, Fine, Broken, Known, Names, and_so, constant, kind, one_kind, type_judged}
use Rattle.cal_model.specs.Outcome.{Out, Gives, Traps, Lacks, Clashes}
use Rattle.cal_model.specs.Value.{Kind, Shape, Value, kind_of_type, stored, zero_of}
use Rattle.cal_check.specs.Actors.{Source, all_found, all_funs, all_valued, around_of, behind_variables, declared_vars, members_of, params_in, params_of, said_or_all, valueless_found, vars_in, violations}
use Rattle.cal_check.specs.Constants.{constant_place, early_kind, early_type, has_kind, not_yet, stored_kind, value_given}
use Rattle.cal_check.specs.Routines.{FunDecl}
use Rattle.cal_check.specs.Variables.{Found, Given, Spot, VarDecl, Valued, come, come_if, come_of, found_in, given_broken, given_to, given_value, is_bare, is_none, none_yet, param_broken, seen, value_of, value_or, valued, with_type, with_var}
use Rattle.cal_check.specs.Violations.{said, violation}
use Rattle.cal_check.proofs.NoneBroken.{nothing-broken}
use Rattle.law_violations.specs.Numbers.{HasNumbers}
use Rattle.law_violations.specs.Values.{HasValue, HaveValues, VariablesHaveValues, begins_empty, has_start, is_given, known_with, none, one}
use Rattle.law_violations.proofs.Constants.{expressions_have_numbers, types_have_numbers}

-- ---- lists of which nothing is left

none_first : {A : Type 0} (xs ys : List A) → xs ++ ys ≡ [] → xs ≡ []
none_first [] ys h = refl
none_first (x ∷ xs) ys h = absurd cc

none_then : {A : Type 0} (xs ys : List A) → xs ++ ys ≡ [] → ys ≡ []
none_then [] ys h = h
none_then (x ∷ xs) ys h = absurd cc

all_none : (said all others : List Found) → said_or_all said (said_or_all all others) ≡ [] → all ≡ []
all_none [] [] others h = refl
all_none [] (f ∷ all) others h = absurd cc
all_none (f ∷ said) all others h = absurd cc

-- what the variables break, if the actor breaks nothing
breaks_none : (s : Source) (gs : List Given) (owner : Spot) → violations s gs owner ≡ [] → (all_valued s gs owner).breaks ≡ []
breaks_none s gs owner h =
    none_first (all_valued s gs owner).breaks (behind_variables s gs owner (around_of s gs owner))
    (all_none _ (all_found s gs owner (around_of s gs owner)) (valueless_found s owner (all_valued s gs owner)) h)

-- ---- nothing before was amiss

record IsWell (vs : Valued) : Type 0 where
  useful : vs.useless ≡ false
  whole : vs.whole ≡ true
  breaks : vs.breaks ≡ []

or_false : (a b : Bool) → (a || b) ≡ false → (a ≡ false) × (b ≡ false)
or_false true b h = absurd cc
or_false false b h = (refl, h)

well_before : (j : Judged Shape) (x : VarDecl) (gs : List Given) (owner : Spot) (names : Names) (vs : Valued) → vs.whole ≡ true → IsWell (with_type j x gs owner names vs) → IsWell vs
well_before (Fine t) x gs owner names vs w h = record {
  useful = (or_false vs.useless (is_none (value_of x gs t (come t x.start names).value)) h.useful).0;
  whole = w;
  breaks = none_first vs.breaks (found_in x.file (said vs.useless (come t x.start names).breaks) ++ param_broken x gs owner t) h.breaks;
}
well_before (Broken rule at) x gs owner names vs w h = absurd (let e : false ≡ true = h.whole in cc)

var_before : (x : VarDecl) (gs : List Given) (owner : Spot) (fs : List FunDecl) (vs : Valued) → IsWell (with_var x gs owner fs vs) → IsWell vs
var_before x gs owner fs vs h = go vs.whole refl h
  where
    go : (b : Bool) → vs.whole ≡ b → IsWell (if b then with_type (early_type x.shape (seen fs vs.known)) x gs owner (seen fs vs.known) vs else vs) → IsWell vs
    go true e g = well_before (early_type x.shape (seen fs vs.known)) x gs owner (seen fs vs.known) vs e g
    go false e g = g

all_before : (xs : List VarDecl) (gs : List Given) (owner : Spot) (fs : List FunDecl) (vs : Valued) → IsWell (valued xs gs owner fs vs) → IsWell vs
all_before [] gs owner fs vs h = h
all_before (x ∷ xs) gs owner fs vs h = var_before x gs owner fs vs (all_before xs gs owner fs (with_var x gs owner fs vs) h)

-- ---- one variable

some_same : {A : Type 0} (a b : A) → Some a ≡ Some b → a ≡ b
some_same a b h = cc

yet_fine : {A : Type 0} (j : Judged A) (e : Tree) (a : A) → not_yet j e ≡ Fine a → j ≡ Fine a
yet_fine (Fine b) e a h = h
yet_fine (Broken rule at) e a h = go (rule.0 == unknown_name.0) h
  where
    go : (b : Bool) → (if b then Broken not_constant (constant_place at e) else Broken rule at) ≡ Fine a → Broken rule at ≡ Fine a
    go true g = absurd cc
    go false g = absurd cc

-- the kind of an expression whose value is stored
stored_has_kind : (k l : Kind) (e : Tree) (names : Names) → stored_kind k e names ≡ Fine l → HasNumbers e names
stored_has_kind k l e names h = go (kind e names) refl h
  where
    go : (j : Judged Kind) → kind e names ≡ j → and_so j (λ found. one_kind k found (begins e)) ≡ Fine l → HasNumbers e names
    go (Fine found) same g = expressions_have_numbers e names found same
    go (Broken rule at) same g = absurd cc

-- what a start comes to
record IsStart (t : Shape) (start : Tree) (names : Names) (value : Value) : Type 0 where
  found : Value
  left : ℕ
  numbers : HasNumbers start names
  gives : constant start names ≡ Gives found left
  fits : has_kind (kind_of_type t) found ≡ true
  is : value ≡ stored t found

record IsFound (o : Out Value) (t : Shape) (value : Value) : Type 0 where
  found : Value
  left : ℕ
  gives : o ≡ Gives found left
  fits : has_kind (kind_of_type t) found ≡ true
  is : value ≡ stored t found

out_found : (o : Out Value) (t : Shape) (at : ℕ) (value : Value) → (come_of (value_given o t at)).value ≡ Some value → IsFound o t value
out_found (Gives v left) t at value h = go (has_kind (kind_of_type t) v) refl h
  where
    go : (b : Bool) → has_kind (kind_of_type t) v ≡ b → (if b then Some (stored t v) else None) ≡ Some value → IsFound (Gives v left) t value
    go true e g = record { found = v; left = left; gives = refl; fits = e; is = sym (some_same (stored t v) value g) }
    go false e g = absurd cc
out_found (Traps c) t at value h = absurd cc
out_found Lacks t at value h = absurd cc
out_found Clashes t at value h = absurd cc

start_found : (t : Shape) (e : Tree) (names : Names) (value : Value) → (come t (tree.present e) names).value ≡ Some value → IsStart t e names value
start_found t e names value h = go (early_kind (kind_of_type t) e names) refl h
  where
    go : (j : Judged Kind) → early_kind (kind_of_type t) e names ≡ j → (come_if j t e names).value ≡ Some value → IsStart t e names value
    go (Fine k) same g =
        let f = out_found (constant e names) t (begins e) value g in
        record {
          found = f.found;
          left = f.left;
          numbers = stored_has_kind (kind_of_type t) k e names (yet_fine (stored_kind (kind_of_type t) e names) e k same);
          gives = f.gives;
          fits = f.fits;
          is = f.is;
        }
    go (Broken rule at) same g = absurd cc

-- a start, or none
data IsOrNot (start : Tree) : Type 0 where
  there : (e : Tree) → start ≡ tree.present e → IsOrNot start
  missing : ((e : Tree) → start ≡ tree.present e → ⊥) → IsOrNot start

is_or_not : (start : Tree) → IsOrNot start
is_or_not (tree.present e) = there e refl
is_or_not tree.absent = missing (λ e h. absurd cc)
is_or_not other = missing (λ e h. absurd cc)

empty_start : (t : Shape) (start : Tree) (names : Names) (value : Value) → ((e : Tree) → start ≡ tree.present e → ⊥) → (come t start names).value ≡ Some value → value ≡ zero_of t
empty_start t (tree.present e) names value away h = absurd (away e refl)
empty_start t tree.absent names value away h = sym (some_same (zero_of t) value h)
empty_start t other names value away h = sym (some_same (zero_of t) value h)

bare : (start : Tree) → ((e : Tree) → start ≡ tree.present e → ⊥) → is_bare start None ≡ true
bare (tree.present e) away = absurd (away e refl)
bare tree.absent away = refl
bare other away = refl

-- the value of what isn't given one from outside
own_value : (x : VarDecl) (gs : List Given) (t : Shape) (names : Names) (value : Value) → (x.is_param ≡ true → is_bare x.start None ≡ true → ⊥)
    → (come t x.start names).value ≡ Some value → HasValue x gs t names value
own_value x gs t names value full h = go (is_or_not x.start) x.is_param refl
  where
    present_value : (e : Tree) → x.start ≡ tree.present e → (come t (tree.present e) names).value ≡ Some value
    present_value e same = subst (λ start. (come t start names).value ≡ Some value) same h

    from_start : (e : Tree) → x.start ≡ tree.present e → IsStart t e names value → HasValue x gs t names value
    from_start e same i = has_start e i.found i.left same i.numbers i.gives i.fits i.is

    go : IsOrNot x.start → (b : Bool) → x.is_param ≡ b → HasValue x gs t names value
    go (there e same) b p = from_start e same (start_found t e names value (present_value e same))
    go (missing away) true p = absurd (full p (bare x.start away))
    go (missing away) false p = begins_empty p away (empty_start t x.start names value away h)

given_one : (x : VarDecl) (gs : List Given) (t : Shape) (names : Names) (g : Given) (start : Option Value) (value : Value) → x.is_param ≡ true → given_to x.name gs ≡ Some g
    → given_value (Some g) t start ≡ Some value → HasValue x gs t names value
given_one x gs t names g start value p same h = go (has_kind (kind_of_type t) g.value) refl h
  where
    go : (b : Bool) → has_kind (kind_of_type t) g.value ≡ b → (if b then Some (stored t g.value) else None) ≡ Some value → HasValue x gs t names value
    go true e k = is_given g p same e (sym (some_same (stored t g.value) value k))
    go false e k = absurd cc

-- a parameter that breaks nothing isn't bare
not_bare : (x : VarDecl) (gs : List Given) (owner : Spot) (t : Shape) → param_broken x gs owner t ≡ [] → given_to x.name gs ≡ None → x.is_param ≡ true → is_bare x.start None ≡ true → ⊥
not_bare x gs owner t h same p b = go x.is_param (given_to x.name gs) p same h
  where
    if_bare : (c : Bool) → c ≡ true → (if c then found_in owner.file (violation wrong_parameter owner.at) else []) ≡ [] → ⊥
    if_bare true e g = absurd cc
    if_bare false e g = absurd cc

    go : (c : Bool) (o : Option Given) → c ≡ true → o ≡ None
        → (if c then given_broken o t ++ (if is_bare x.start o then found_in owner.file (violation wrong_parameter owner.at) else []) else []) ≡ [] → ⊥
    go true None e f g = if_bare (is_bare x.start None) b g
    go true (Some y) e f g = absurd cc
    go false o e f g = absurd cc

var_value : (x : VarDecl) (gs : List Given) (owner : Spot) (t : Shape) (names : Names) (value : Value) → param_broken x gs owner t ≡ []
    → value_of x gs t (come t x.start names).value ≡ Some value → HasValue x gs t names value
var_value x gs owner t names value fine h = go x.is_param refl h
  where
    param : x.is_param ≡ true → (o : Option Given) → given_to x.name gs ≡ o → given_value o t (come t x.start names).value ≡ Some value → HasValue x gs t names value
    param p None same g = own_value x gs t names value (not_bare x gs owner t fine same) g
    param p (Some y) same g = given_one x gs t names y (come t x.start names).value value p same g

    no_param : x.is_param ≡ false → x.is_param ≡ true → is_bare x.start None ≡ true → ⊥
    no_param p q b = let e : false ≡ true = sym p ∙ q in absurd cc

    go : (b : Bool) → x.is_param ≡ b → (if b then given_value (given_to x.name gs) t (come t x.start names).value else (come t x.start names).value) ≡ Some value → HasValue x gs t names value
    go true p g = param p (given_to x.name gs) refl g
    go false p g = own_value x gs t names value (no_param p) g

-- ---- all of them

-- a variable more, with its type and its value
record IsOne (x : VarDecl) (gs : List Given) (fs : List FunDecl) (before after : List Known) : Type 0 where
  t : Shape
  value : Value
  typed : type_judged x.shape (seen fs before) ≡ Fine t
  has : HasValue x gs t (seen fs before) value
  is : after ≡ known_with x t value ∷ before

is_some : (o : Option Value) → is_none o ≡ false → (v : Value) × (o ≡ Some v)
is_some None h = absurd cc
is_some (Some v) h = (v, refl)

typed_one : (j : Judged Shape) (x : VarDecl) (gs : List Given) (owner : Spot) (fs : List FunDecl) (vs : Valued) → early_type x.shape (seen fs vs.known) ≡ j
    → IsWell (with_type j x gs owner (seen fs vs.known) vs) → IsOne x gs fs vs.known (with_type j x gs owner (seen fs vs.known) vs).known
typed_one (Fine t) x gs owner fs vs same h =
    let (v, is_there) = is_some (value_of x gs t (come t x.start (seen fs vs.known)).value) (or_false vs.useless (is_none (value_of x gs t (come t x.start (seen fs vs.known)).value)) h.useful).1 in
    let breaks = none_then vs.breaks (found_in x.file (said vs.useless (come t x.start (seen fs vs.known)).breaks) ++ param_broken x gs owner t) h.breaks in
    let fine = none_then (found_in x.file (said vs.useless (come t x.start (seen fs vs.known)).breaks)) (param_broken x gs owner t) breaks in
    record {
      t = t;
      value = v;
      typed = yet_fine (type_judged x.shape (seen fs vs.known)) x.shape t same;
      has = var_value x gs owner t (seen fs vs.known) v fine is_there;
      is = ap (λ o. known_with x t (value_or o (kind_of_type t)) ∷ vs.known) is_there;
    }
typed_one (Broken rule at) x gs owner fs vs same h = absurd (let e : false ≡ true = h.whole in cc)

var_one : (x : VarDecl) (gs : List Given) (owner : Spot) (fs : List FunDecl) (vs : Valued) → IsWell (with_var x gs owner fs vs) → IsOne x gs fs vs.known (with_var x gs owner fs vs).known
var_one x gs owner fs vs h = go vs.whole refl h
  where
    go : (b : Bool) → vs.whole ≡ b → IsWell (if b then with_type (early_type x.shape (seen fs vs.known)) x gs owner (seen fs vs.known) vs else vs)
        → IsOne x gs fs vs.known (if b then with_type (early_type x.shape (seen fs vs.known)) x gs owner (seen fs vs.known) vs else vs).known
    go true e g = typed_one (early_type x.shape (seen fs vs.known)) x gs owner fs vs refl g
    go false e g = absurd (let f : true ≡ false = sym g.whole ∙ e in cc)

have_values : (xs : List VarDecl) (gs : List Given) (owner : Spot) (fs : List FunDecl) (vs : Valued) → IsWell (valued xs gs owner fs vs)
    → HaveValues gs fs vs.known xs (valued xs gs owner fs vs).known
have_values [] gs owner fs vs h = none vs.known
have_values (x ∷ xs) gs owner fs vs h =
    let i = var_one x gs owner fs vs (all_before xs gs owner fs (with_var x gs owner fs vs) h) in
    one vs.known x xs i.t i.value (valued xs gs owner fs (with_var x gs owner fs vs)).known i.typed (types_have_numbers x.shape (seen fs vs.known) i.t i.typed) i.has
    (subst (λ known. HaveValues gs fs known xs (valued xs gs owner fs (with_var x gs owner fs vs)).known) i.is (have_values xs gs owner fs (with_var x gs owner fs vs) h))

-- variables in two parts
in_parts : (xs ys : List VarDecl) (gs : List Given) (owner : Spot) (fs : List FunDecl) (vs : Valued) → valued (xs ++ ys) gs owner fs vs ≡ valued ys gs owner fs (valued xs gs owner fs vs)
in_parts [] ys gs owner fs vs = refl
in_parts (x ∷ xs) ys gs owner fs vs = in_parts xs ys gs owner fs (with_var x gs owner fs vs)

all_in_one : (s : Source) (gs : List Given) (owner : Spot) → all_valued s gs owner ≡ valued (declared_vars s) gs owner (all_funs s) none_yet
all_in_one s gs owner =
    sym (in_parts (s.vars ++ params_in s.file (params_of s.actor)) (vars_in s.file (members_of s.actor)) gs owner (all_funs s) none_yet)
    ∙ ap (λ xs. valued xs gs owner (all_funs s) none_yet) (append_assoc s.vars (params_in s.file (params_of s.actor)) (vars_in s.file (members_of s.actor)))

pub variables_have_values : VariablesHaveValues
variables_have_values s gs owner h =
    let n = nothing-broken s gs owner h in
    let well : IsWell (all_valued s gs owner) = record { useful = n.useful; whole = n.whole; breaks = breaks_none s gs owner h } in
    subst (λ vs. HaveValues gs (all_funs s) [] (declared_vars s) vs.known) (sym (all_in_one s gs owner))
    (have_values (declared_vars s) gs owner (all_funs s) none_yet (subst IsWell (all_in_one s gs owner) well))
