-- Actions that break no rule take and give few tokens.
use Rattle.std.proofs.Common.{◌≡◌, ℕ, ◌≤◌, true, List, [], ◌∷◌, ◌++◌, refl, sym, ap, subst, ◌∙◌, Some}
use Rattle.cal_ast.specs.Tree as tree
use Rattle.cal_ast.specs.Tree.{Tree}
use Rattle.cal_model.specs.Actor.{Pattern, Port}
use Rattle.cal_model.specs.Kinding.{Names}
use Rattle.cal_model.specs.Rates.{given_on, taken_on}
use Rattle.cal_model.specs.Selection.{kind_of_port}
use Rattle.cal_model.specs.Sound.{kind_of_tokens, max_rate, with_pattern}
use Rattle.cal_check.specs.Violations.{all_broken}
use Rattle.cal_check.specs.Written.{behind_vars}
use Rattle.cal_check.specs.Statements.{names_behind, starts_broken, statement_broken}
use Rattle.cal_check.specs.Ports.{each_asked, numbers_twice, ports_asked}
use Rattle.cal_check.specs.Actions.{Around, action_broken, action_if, action_of, each_guard, guard_allowed, inside_broken, or_none, outputs_broken, outputs_fine, outputs_if, outputs_on, patterns_broken, patterns_fine, patterns_if, patterns_on, with_all_patterns}
use Rattle.cal_check.specs.Formed.{IsActionFormed}
use Rattle.cal_check.specs.Laws.{ConstantsFit}
use Rattle.cal_check.proofs.Fine.{all-fine, if-none, none-of}
use Rattle.cal_check.proofs.SoundActions.{behind-none, fit-pattern, or-none}
use Rattle.cal_check.proofs.SoundCounts.{all-few-given, all-few-taken, given-few, taken-few}
use Rattle.cal_check.proofs.SoundLocals.{are-sound}

pub fit-all : (ports : List Port) (qs : List Pattern) (n : Names) → ConstantsFit n → ConstantsFit (with_all_patterns ports qs n)
fit-all ports [] n fit = fit
fit-all ports (q ∷ qs) n fit =
    let k = kind_of_tokens (kind_of_port ports q.port) q.repeat in
    fit-all ports qs (with_pattern k q.names n) (fit-pattern k q.names n fit)

abbrev Few : Tree → Around → ℕ → Type 0
Few a around port = (taken_on port (action_of a around).patterns ≤ max_rate) × (given_on port (action_of a around).outputs ≤ max_rate)

-- the outputs of an action that breaks no rule behind its patterns
outputs-few : (guards vars body outputs : Tree) (around : Around) (inner : Names) (port : ℕ) → ConstantsFit inner → (formed : IsActionFormed (tree.action tree.absent true tree.nil outputs guards vars body 0))
    → inside_broken guards vars body outputs around inner ≡ [] → given_on port (or_none (outputs_fine outputs around.outs (behind_vars vars inner))) ≤ max_rate
outputs-few guards vars body outputs around inner port fit formed h =
    let one = none-of (all_broken (each_guard guards inner)) _ h in
    let two = none-of (starts_broken vars inner) _ one.1 in
    let i = if-none (names_behind vars inner) (λ behind. statement_broken body around.procs behind ++ outputs_broken outputs around.outs behind) two.1 in
    let three = none-of (statement_broken body around.procs i.0) (outputs_broken outputs around.outs i.0) i.2 in
    let n = if-none (ports_asked (each_asked outputs) around.outs) (λ numbers. numbers_twice numbers (each_asked outputs) ++ all_broken (outputs_on outputs numbers around.outs i.0)) three.1 in
    let four = none-of (numbers_twice n.0 (each_asked outputs)) (all_broken (outputs_on outputs n.0 around.outs i.0)) n.2 in
    let os = all-fine (outputs_on outputs n.0 around.outs i.0) four.1 in
    let s = are-sound vars inner i.0 formed.0 fit i.1 two.0 in
    let found : or_none (outputs_fine outputs around.outs (behind_vars vars inner)) ≡ os.0 =
    ap (λ x. or_none (outputs_fine outputs around.outs x)) s.is_behind
    ∙ or-none (outputs_fine outputs around.outs i.0) os.0 (ap (λ j. outputs_if j outputs around.outs i.0) n.1 ∙ os.2) in
    subst (λ xs. given_on port xs ≤ max_rate) (sym found) (given-few port os.0 (all-few-given outputs n.0 around.outs i.0 os.0 os.1))

pub rates-sound : (a : Tree) (around : Around) (port : ℕ) → IsActionFormed a → ConstantsFit around.names → action_broken a around ≡ [] → Few a around port
rates-sound (tree.action tagged initialize patterns outputs guards vars body at) around port formed fit h =
    let a : Tree = tree.action tagged initialize patterns outputs guards vars body at in
    let one = none-of (guard_allowed initialize guards at) _ h in
    let two = none-of (patterns_broken patterns around.ins around.names) _ one.1 in
    let n = if-none (ports_asked (each_asked patterns) around.ins) (λ numbers. numbers_twice numbers (each_asked patterns) ++ all_broken (patterns_on patterns numbers around.names)) two.0 in
    let three = none-of (numbers_twice n.0 (each_asked patterns)) (all_broken (patterns_on patterns n.0 around.names)) n.2 in
    let qs = all-fine (patterns_on patterns n.0 around.names) three.1 in
    let found : patterns_fine patterns around.ins around.names ≡ Some qs.0 = ap (λ j. patterns_if j patterns around.names) n.1 ∙ qs.2 in
    let inner = with_all_patterns around.ins qs.0 around.names in
    let inside = behind-none (patterns_fine patterns around.ins around.names) qs.0
    (λ ps. inside_broken guards vars body outputs around (with_all_patterns around.ins ps around.names)) found two.1 in
    let same : or_none (patterns_fine patterns around.ins around.names) ≡ qs.0 = or-none (patterns_fine patterns around.ins around.names) qs.0 found in
    subst (λ ps. (taken_on port (action_if ps a around).patterns ≤ max_rate) × (given_on port (action_if ps a around).outputs ≤ max_rate)) (sym same) (
      taken-few port qs.0 (all-few-taken patterns n.0 around.names qs.0 qs.1),
      outputs-few guards vars body outputs around inner port (fit-all around.ins qs.0 around.names fit) (formed.0, formed.1, λ e. refl) inside,
    )
rates-sound other around port formed fit h = absurd formed
