-- Instances, sizes and connections, one after another.
use Rattle.std.proofs.Common.{◌≡◌, ℕ, Bool, true, false, List, [], ◌∷◌, ◌++◌, length, refl, sym, ap, subst, ◌∙◌, arith, append_assoc, append-nil}
use Rattle.std.specs.Prelude.{Option, Some, max, not}
use Rattle.rvc_base.specs.Turns.{max_turns}
use Rattle.cal_ast.specs.Places.{begins}
use Rattle.cal_ast.specs.Tree.{Tree}
use Rattle.cal_model.specs.Value.{Kind, NumKind, Value, HasKind}
use Rattle.cal_model.specs.Outcome.{Out, Gives, Traps, Lacks, Clashes}
use Rattle.cal_model.specs.Keeping.{GivesOnly}
use Rattle.cal_model.specs.Kinding.{Judged, Fine, Broken, and_so, Names, kind, constant}
use Rattle.cal_model.specs.Laws.{ConstantIsValue}
use Rattle.const_env.specs.Held.{Kept, names_in}
use Rattle.const_env.specs.Judging.{Breaks}
use Rattle.const_env.specs.declared.fault.KindFault.{KindFault}
use Rattle.const_env.specs.declared.fault.KindFault.TheVariants as fault
use Rattle.cal_check.specs.Violations.{all_fine, and_all}
use Rattle.cal_check.specs.Variables.{Given}
use Rattle.fnl_read.specs.Net.{Port, a_port, Parameter, Instance, a_size}
use Rattle.fnl_tree.specs.Tree.{Own}
use Rattle.fnl_bind.specs.Library.{is_input, ports_of, instance_parameters}
use Rattle.fnl_bind.specs.Values.{all_given, end_judged, ends_judged, given_as, largest, or_no, parameter_judged, size_given, size_judged, size_of_kind, size_of_value, value_in}
use Rattle.fnl_values.proofs.Constants.{keeps}
use Rattle.fnl_values.proofs.Faults.{behind_more, found_first}
use Rattle.fnl_values.specs.Judging.{behind, outcome_judged}
use Rattle.fnl_values.specs.Steady.{IsSteady}
use Rattle.fnl_values.specs.Visiting.{AreVisits, Visit}

pub no_items : {A : Type 0} (xs : List A) → length xs ≡ 0 → xs ≡ []
no_items [] h = refl
no_items (x ∷ xs) h = absurd (omega (arith, h))

-- ---- ports

-- a port goes to those of its direction
pub port_first : (input : Bool) (p : Port) (ps : List Port) (names : Names) (e : Own) (found : List Own) → is_input p ≡ input → end_judged p names ≡ Fine e
    → behind (found ++ e ∷ []) (all_fine (ends_judged (ports_of input ps) names)) ≡ behind found (all_fine (ends_judged (ports_of input (p ∷ ps)) names))
port_first true (a_port true shape name at) ps names e found i h =
    behind_more found e (all_fine (ends_judged (ports_of true ps) names))
    ∙ sym (ap (behind found) (found_first e (end_judged (a_port true shape name at) names) (ends_judged (ports_of true ps) names) h))
port_first false (a_port false shape name at) ps names e found i h =
    behind_more found e (all_fine (ends_judged (ports_of false ps) names))
    ∙ sym (ap (behind found) (found_first e (end_judged (a_port false shape name at) names) (ends_judged (ports_of false ps) names) h))
port_first true (a_port false shape name at) ps names e found i h = absurd (cc)
port_first false (a_port true shape name at) ps names e found i h = absurd (cc)

pub port_passed : (input : Bool) (p : Port) (ps : List Port) (names : Names) → is_input p ≡ not input
    → all_fine (ends_judged (ports_of input ps) names) ≡ all_fine (ends_judged (ports_of input (p ∷ ps)) names)
port_passed true (a_port false shape name at) ps names i = refl
port_passed false (a_port true shape name at) ps names i = refl
port_passed true (a_port true shape name at) ps names i = absurd (cc)
port_passed false (a_port false shape name at) ps names i = absurd (cc)

-- ---- values that are given

pub given_first : (file : ℕ) (p : Parameter) (ps : List Parameter) (names : Names) (v : Value) (g : Given) → parameter_judged p names ≡ Fine (Some v) → given_as file p (Some v) ≡ Some g
    → all_given file (p ∷ ps) names ≡ and_all (Some g) (all_given file ps names)
given_first file p ps names v g h e =
    ap (λ j. and_all (given_as file p (value_in j)) (all_given file ps names)) h ∙ ap (λ o. and_all o (all_given file ps names)) e

-- an instance more
pub visit_more : (file : ℕ) (names : Names) (all : List Instance) (i : Instance) (is : List Instance) (done : List Visit) (v : Visit)
    → ((more : List Visit) → AreVisits file names (i ∷ is) more → AreVisits file names all (done ++ more)) → v.instance ≡ i → all_given file (instance_parameters i) names ≡ Some v.given
    → (more : List Visit) → AreVisits file names is more → AreVisits file names all ((done ++ v ∷ []) ++ more)
visit_more file names all i is done v h e f more are =
    subst (AreVisits file names all) (sym (append_assoc done (v ∷ []) more)) (h (v ∷ more) (e, f, are))

pub visits_all : (file : ℕ) (names : Names) (all : List Instance) (done : List Visit) → ((more : List Visit) → AreVisits file names [] more → AreVisits file names all (done ++ more)) → AreVisits file names all done
visits_all file names all done h = subst (AreVisits file names all) (append-nil done) (h [] tt)

-- ---- sizes

pub breaks_on : {A B : Type 0} (f : KindFault) (j : Judged A) (g : A → Judged B) → Breaks f j → Breaks f (and_so j g)
breaks_on (fault.Broken rule at) j g h = ap (λ i. and_so i g) h
breaks_on fault.Memory j g h = tt

size_kept : (o : Out Value) (e : Tree) (at : ℕ) → GivesOnly (HasKind NumKind) max_turns o → size_given o e at ≡ and_so (outcome_judged o (begins e)) (λ v. size_of_value v at)
size_kept (Gives v left) e at h = refl
size_kept (Traps c) e at h = refl
size_kept Lacks e at h = refl
size_kept Clashes e at h = absurd h

-- a size of a number's kind
pub size_as : ConstantIsValue → (env : Kept) (e : Tree) (at : ℕ) → IsSteady env → kind e (names_in env) ≡ Fine NumKind
    → size_judged (a_size e at) (names_in env) ≡ and_so (outcome_judged (constant e (names_in env)) (begins e)) (λ v. size_of_value v at)
size_as law env e at steady h =
    ap (λ j. and_so j (λ k. size_of_kind k e at (names_in env))) h
    ∙ size_kept (constant e (names_in env)) e at (keeps law env e NumKind steady h)

-- .. and of any kind
pub size_of : (env : Kept) (e : Tree) (at : ℕ) (k : Kind) → kind e (names_in env) ≡ Fine k → size_judged (a_size e at) (names_in env) ≡ size_of_kind k e at (names_in env)
size_of env e at k h = ap (λ j. and_so j (λ l. size_of_kind l e at (names_in env))) h

-- the largest so far, and those behind
abbrev pub IsLargestBehind : ℕ → Option (List ℕ) → Option (List ℕ) → Type 0
IsLargestBehind found rest all = (ns : List ℕ) → rest ≡ Some ns
    → (ms : List ℕ) × (all ≡ Some ms) × (largest ms ≡ max found (largest ns))

pub largest_more : (found n : ℕ) (rest all : Option (List ℕ)) → IsLargestBehind found (and_all (Some n) rest) all → IsLargestBehind (max found n) rest all
largest_more found n rest all h ns e =
    let i = h (n ∷ ns) (ap (and_all (Some n)) e) in
    (i.0, i.1, i.2 ∙ max_assoc found n (largest ns))
  where
    max_assoc : (a b c : ℕ) → max a (max b c) ≡ max (max a b) c
    max_assoc a b c = omega arith

pub largest_all : (found : ℕ) (rest all : Option (List ℕ)) → rest ≡ Some [] → IsLargestBehind found rest all → found ≡ largest (or_no all)
largest_all found rest all e h =
    let i = h [] e in
    let m : largest i.0 ≡ found = i.2 ∙ max_none found in
    sym m ∙ ap (λ o. largest (or_no o)) (sym i.1)
  where
    max_none : (n : ℕ) → max n 0 ≡ n
    max_none n = omega arith
