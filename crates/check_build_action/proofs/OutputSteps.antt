-- Outputs on the ports that they ask for.
use Rattle.std.proofs.Common.{◌≡◌, ℕ, List, [], ◌++◌, map, Some, Ok, Err, Result, Vec, Global, sym, ap, subst, ◌∙◌}
use Rattle.cal_ast.specs.Tree.{Tree}
use Rattle.cal_model.specs.Actor.{Output, Port}
use Rattle.cal_model.specs.Kinding.{Judged, Fine, Broken, Names}
use Rattle.cal_model.specs.View.{output_view}
use Rattle.cal_model.specs.declared.bound.BoundOutput.{BoundOutput}
use Rattle.const_env.specs.declared.fault.KindFault.{KindFault}
use Rattle.cal_check.specs.Violations.{Violation, all_broken, all_fine, if_fine}
use Rattle.cal_check.specs.Actions.{outputs_broken, outputs_fine, outputs_if, outputs_on}
use Rattle.cal_check.specs.Ports.{Asked, each_asked, numbers_twice, ports_asked}
use Rattle.check_member.specs.Asking.{asked_broken}
use Rattle.check_member.specs.Judging.{Refuses as MemberRefuses}
use Rattle.check_member.specs.declared.fault.MemberFault.{MemberFault}
use Rattle.check_member.specs.declared.fault.MemberFault.TheVariants as member
use Rattle.check_stmt.specs.Judging.{Refuses}
use Rattle.check_stmt.proofs.Checked.{refuses_on}
use Rattle.check_action.specs.Faults.{as_kind_fault}
use Rattle.check_action.specs.Parts.{JudgesAll}
use Rattle.check_build_action.specs.Building.{FindsOutputs}
use Rattle.check_build_action.proofs.Each.{all_are_fine, none_is_broken}

pub refuses_as : (f : MemberFault) (vs : List Violation) → MemberRefuses f vs → Refuses (as_kind_fault f) vs
refuses_as (member.Broken rule at) vs h = h
refuses_as member.Memory vs h = tt

-- what is broken behind the ports, if these break nothing themselves
abbrev pub behind_ports : List Asked → List Port → (List ℕ → List Violation) → List Violation
behind_ports asked ports f = if_fine (ports_asked asked ports) (λ numbers. numbers_twice numbers asked ++ f numbers)

ports_refused : (fault : KindFault) (asked : List Asked) (ports : List Port) (f : List ℕ → List Violation) → Refuses fault (asked_broken asked ports) → Refuses fault (behind_ports asked ports f)
ports_refused fault asked ports f h = go (ports_asked asked ports) h
  where
    go : (j : Judged (List ℕ)) → Refuses fault (if_fine j (λ numbers. numbers_twice numbers asked)) → Refuses fault (if_fine j (λ numbers. numbers_twice numbers asked ++ f numbers))
    go (Fine numbers) r = refuses_on fault (numbers_twice numbers asked) (f numbers) r
    go (Broken rule at) r = r

-- the ports are these, each once
ports_fine : (asked : List Asked) (ports : List Port) (numbers : List ℕ) (f : List ℕ → List Violation) → ports_asked asked ports ≡ Fine numbers → asked_broken asked ports ≡ []
    → behind_ports asked ports f ≡ f numbers
ports_fine asked ports numbers f e h =
    let once : numbers_twice numbers asked ≡ [] = ap (λ j. if_fine j (λ ns. numbers_twice ns asked)) (sym e) ∙ h in
    ap (λ j. if_fine j (λ ns. numbers_twice ns asked ++ f ns)) e ∙ ap (λ vs. vs ++ f numbers) once

outputs_are : (os : Tree) (ports : List Port) (names : Names) (numbers : List ℕ) (found : List Output) → ports_asked (each_asked os) ports ≡ Fine numbers → asked_broken (each_asked os) ports ≡ []
    → outputs_on os numbers ports names ≡ map Fine found → (outputs_broken os ports names ≡ []) × (outputs_fine os ports names ≡ Some found)
outputs_are os ports names numbers found e h are = (
  ports_fine (each_asked os) ports numbers (λ ns. all_broken (outputs_on os ns ports names)) e h ∙ ap all_broken are ∙ none_is_broken found,
  ap (λ j. outputs_if j os ports names) e ∙ ap all_fine are ∙ all_are_fine found,
)

pub found_outputs : (r : Result (Vec BoundOutput Global) KindFault) (os : Tree) (ports : List Port) (names : Names) (numbers : List ℕ) → ports_asked (each_asked os) ports ≡ Fine numbers → asked_broken (each_asked os) ports ≡ []
    → JudgesAll output_view r (outputs_on os numbers ports names) → FindsOutputs r os ports names
found_outputs (Ok found) os ports names numbers e a h = outputs_are os ports names numbers (map output_view found.items) e a h
found_outputs (Err f) os ports names numbers e a h = subst (Refuses f) (sym (ports_fine (each_asked os) ports numbers (λ ns. all_broken (outputs_on os ns ports names)) e a)) h

pub ports_refuse : (f : MemberFault) (os : Tree) (ports : List Port) (names : Names) → MemberRefuses f (asked_broken (each_asked os) ports) → Refuses (as_kind_fault f) (outputs_broken os ports names)
ports_refuse f os ports names h =
    ports_refused (as_kind_fault f) (each_asked os) ports (λ ns. all_broken (outputs_on os ns ports names)) (refuses_as f (asked_broken (each_asked os) ports) h)
