-- Patterns and outputs in order: where a loop has come to, and what the whole is.
use Rattle.std.proofs.Common.{◌≡◌, ℕ, suc, false, List, [], ◌∷◌, ◌++◌, length, map, Some, Option, Ok, Err, Result, Vec, Global, refl, sym, ap, subst, ◌∙◌}
use Rattle.cal_ast.specs.Tree.{Tree, listed}
use Rattle.cal_model.specs.Actor.{Pattern as GivenPattern, Port}
use Rattle.cal_model.specs.Kinding.{Judged, Fine, Broken, Names, with_known}
use Rattle.cal_model.specs.Rates.{parts}
use Rattle.cal_model.specs.Sound.{with_pattern}
use Rattle.cal_model.specs.View.{pattern_view}
use Rattle.cal_model.specs.declared.bound.BoundPattern.{BoundPattern}
use Rattle.cal_model.specs.Value.{Kind}
use Rattle.const_env.specs.Counting.{known_variable, variable_view}
use Rattle.const_env.specs.declared.fault.KindFault.{KindFault}
use Rattle.const_env.specs.declared.inside.Variable.{Variable}
use Rattle.const_env.specs.declared.names.Names.{Names as DeclaredNames}
use Rattle.cal_check.specs.Violations.{Violation, all_broken, all_fine, if_fine}
use Rattle.cal_check.specs.Actions.{outputs_broken, outputs_on, patterns_broken, patterns_fine, patterns_if, patterns_on}
use Rattle.cal_check.specs.Ports.{Asked, each_asked, numbers_twice, ports_asked}
use Rattle.check_member.specs.Asking.{asked_broken}
use Rattle.check_stmt.specs.Declaring.{seen_behind}
use Rattle.check_stmt.proofs.Walks.{seen_next}
use Rattle.check_stmt.specs.Judging.{Checks, Refuses}
use Rattle.check_stmt.proofs.Checked.{refuses_on}
use Rattle.check_action.specs.Parts.{FindsPatterns, JudgesAll}
use Rattle.check_action.proofs.Each.{all_are_fine, none_is_broken}

pub parts_of_list : {A : Type 0} (f : A → Tree) (xs : List A) → parts (listed (map f xs)) ≡ length xs
parts_of_list f [] = refl
parts_of_list f (x ∷ xs) = ap suc (parts_of_list f xs)

-- ---- ports that are asked for, and what is judged on them

-- what is broken behind the ports, if these break nothing themselves
abbrev pub behind_ports : List Asked → List Port → (List ℕ → List Violation) → List Violation
behind_ports asked ports f = if_fine (ports_asked asked ports) (λ numbers. numbers_twice numbers asked ++ f numbers)

pub ports_refused : (fault : KindFault) (asked : List Asked) (ports : List Port) (f : List ℕ → List Violation) → Refuses fault (asked_broken asked ports) → Refuses fault (behind_ports asked ports f)
ports_refused fault asked ports f h = go (ports_asked asked ports) h
  where
    go : (j : Judged (List ℕ)) → Refuses fault (if_fine j (λ numbers. numbers_twice numbers asked)) → Refuses fault (if_fine j (λ numbers. numbers_twice numbers asked ++ f numbers))
    go (Fine numbers) r = refuses_on fault (numbers_twice numbers asked) (f numbers) r
    go (Broken rule at) r = r

-- the ports are these, each once
pub ports_fine : (asked : List Asked) (ports : List Port) (numbers : List ℕ) (f : List ℕ → List Violation) → ports_asked asked ports ≡ Fine numbers → asked_broken asked ports ≡ []
    → behind_ports asked ports f ≡ f numbers
ports_fine asked ports numbers f e h =
    let once : numbers_twice numbers asked ≡ [] = ap (λ j. if_fine j (λ ns. numbers_twice ns asked)) (sym e) ∙ h in
    ap (λ j. if_fine j (λ ns. numbers_twice ns asked ++ f ns)) e ∙ ap (λ vs. vs ++ f numbers) once

pub patterns_are : (ps : Tree) (ports : List Port) (names : Names) (numbers : List ℕ) (qs : List GivenPattern) → ports_asked (each_asked ps) ports ≡ Fine numbers → asked_broken (each_asked ps) ports ≡ []
    → patterns_on ps numbers names ≡ map Fine qs → (patterns_broken ps ports names ≡ []) × (patterns_fine ps ports names ≡ Some qs)
patterns_are ps ports names numbers qs e h are = (
  ports_fine (each_asked ps) ports numbers (λ ns. all_broken (patterns_on ps ns names)) e h ∙ ap all_broken are ∙ none_is_broken qs,
  ap (λ j. patterns_if j ps names) e ∙ ap all_fine are ∙ all_are_fine qs,
)

pub found_patterns : (r : Result (Vec BoundPattern Global) KindFault) (ps : Tree) (ports : List Port) (names : Names) (numbers : List ℕ) → ports_asked (each_asked ps) ports ≡ Fine numbers → asked_broken (each_asked ps) ports ≡ []
    → JudgesAll pattern_view r (patterns_on ps numbers names) → FindsPatterns r ps ports names
found_patterns (Ok qs) ps ports names numbers e a h = patterns_are ps ports names numbers (map pattern_view qs.items) e a h
found_patterns (Err f) ps ports names numbers e a h = subst (Refuses f) (sym (ports_fine (each_asked ps) ports numbers (λ ns. all_broken (patterns_on ps ns names)) e a)) h

pub found_outputs : {A : Type 0} (r : Result A KindFault) (os : Tree) (ports : List Port) (names : Names) (numbers : List ℕ) → ports_asked (each_asked os) ports ≡ Fine numbers → asked_broken (each_asked os) ports ≡ []
    → Checks r (all_broken (outputs_on os numbers ports names)) → Checks r (outputs_broken os ports names)
found_outputs r os ports names numbers e a h = subst (Checks r) (sym (ports_fine (each_asked os) ports numbers (λ ns. all_broken (outputs_on os ns ports names)) e a)) h

-- a pattern by its parts
abbrev pub pattern_of : ℕ → List (List ℕ) → Option ℕ → GivenPattern
pattern_of port names repeat = record { port = port; names = names; repeat = repeat }

-- ---- names of patterns

-- one name more stands for tokens of a kind
pub names_next : (rest others : List (List ℕ)) (name : List ℕ) (k : Kind) (xs news : List Variable) (x : Variable) (whole : DeclaredNames → Names) → rest ≡ name ∷ others → news ≡ xs ++ x ∷ []
    → variable_view x ≡ record { name = name; kind = k; changes = false }
    → ((n : DeclaredNames) → with_pattern k rest (seen_behind xs n) ≡ whole n) → (n : DeclaredNames) → with_pattern k others (seen_behind news n) ≡ whole n
names_next rest others name k xs news x whole is new view before n =
    ap (λ m. with_pattern k others m) (seen_next xs news x n new ∙ ap (λ v. with_known (known_variable v) (seen_behind xs n)) view)
    ∙ ap (λ ns. with_pattern k ns (seen_behind xs n)) (sym is) ∙ before n
