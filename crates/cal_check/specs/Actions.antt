-- Actions: what they are, and the rules that they break (ISO/IEC 23001-4, RVC-CAL: actions; CAL Language Report, input
-- patterns, guards, output expressions).
--
-- Patterns are judged first, since all else sees their variables: if one breaks a rule, nothing behind them is judged.
-- Trusted: part of what a promise means.
use Rattle.std.specs.Prelude.{ℕ, Bool, true, false, ◌&&◌, List, [], ◌∷◌, ◌++◌, nat_le, ℤ, pos, negsuc, Option, None, Some, if◌then◌else◌}
use Rattle.rvc_base.specs.declared.scalar.Scalar.{Scalar}
use Rattle.rvc_base.specs.Rules.{wrong_repeat, wrong_initialize}
use Rattle.cal_ast.specs.Tree as tree
use Rattle.cal_ast.specs.Tree.{Tree}
use Rattle.cal_model.specs.Value.{Kind}
use Rattle.cal_model.specs.Actor.{Port, Proc, Pattern, Output, Action}
use Rattle.cal_model.specs.Rates.{parts, parts_times}
use Rattle.cal_model.specs.Selection.{kind_of_port}
use Rattle.cal_model.specs.Kinding.{Judged, Fine, Broken, and_so, Names, kind, kinds, constant_number}
use Rattle.cal_model.specs.Sound.{max_rate, kind_of_tokens, with_pattern}
use Rattle.cal_check.specs.Violations.{Violation, unless, all_broken, if_fine, all_fine}
use Rattle.cal_check.specs.Constants.{stored_kind}
use Rattle.cal_check.specs.Written.{written, statement_written, behind_vars}
use Rattle.cal_check.specs.Statements.{test_judged, names_behind, starts_broken, statement_broken}
use Rattle.cal_check.specs.Routines.{locals_of}
use Rattle.cal_check.specs.Ports.{each_asked, ports_asked, numbers_twice}

-- ---- repeats

abbrev pub repeat_of : ℤ → ℕ → Judged (Option ℕ)
repeat_of (pos n) at =
    if nat_le 1 n && nat_le n max_rate then Fine (Some n) else Broken wrong_repeat at
repeat_of (negsuc n) at = Broken wrong_repeat at

-- how often what begins at an offset is repeated
abbrev pub repeat_judged : Tree → ℕ → Names → Judged (Option ℕ)
repeat_judged (tree.present e) at names =
    and_so (constant_number (kind e names) e names) (λ z. repeat_of z at)
repeat_judged other at names = Fine None

-- so many parts, repeated, aren't too many tokens
abbrev pub rate_judged : {A : Type 0} → ℕ → Option ℕ → A → ℕ → Judged A
rate_judged n repeat a at =
    if nat_le (parts_times n repeat) max_rate then Fine a else Broken wrong_repeat at

-- ---- patterns

abbrev pub names_listed : Tree → List (List ℕ)
names_listed (tree.cons (tree.ident name place) rest) = name ∷ names_listed rest
names_listed other = []

-- a pattern on this port; its repeat sees the actor's names
abbrev pub pattern_judged : Tree → ℕ → Names → Judged Pattern
pattern_judged (tree.pattern asked variables repeat at) port names =
    and_so (repeat_judged repeat at names) (λ n.
    rate_judged (parts variables) n
    (record { port = port; names = names_listed variables; repeat = n }) at)
pattern_judged other port names = Broken wrong_repeat 0

abbrev pub patterns_on : Tree → List ℕ → Names → List (Judged Pattern)
patterns_on (tree.cons p ps) (port ∷ ports) names =
    pattern_judged p port names ∷ patterns_on ps ports names
patterns_on ps ports names = []

abbrev pub patterns_broken : Tree → List Port → Names → List Violation
patterns_broken ps ports names =
    if_fine (ports_asked (each_asked ps) ports) (λ numbers.
    numbers_twice numbers (each_asked ps) ++ all_broken (patterns_on ps numbers names))

abbrev pub patterns_if : Judged (List ℕ) → Tree → Names → Option (List Pattern)
patterns_if (Fine numbers) ps names = all_fine (patterns_on ps numbers names)
patterns_if (Broken rule at) ps names = None

abbrev pub patterns_fine : Tree → List Port → Names → Option (List Pattern)
patterns_fine ps ports names = patterns_if (ports_asked (each_asked ps) ports) ps names

-- the names with the variables of patterns, which are constants without a value
abbrev pub with_all_patterns : List Port → List Pattern → Names → Names
with_all_patterns ports [] names = names
with_all_patterns ports (q ∷ qs) names =
    with_all_patterns ports qs
    (with_pattern (kind_of_tokens (kind_of_port ports q.port) q.repeat) q.names names)

-- ---- guards

abbrev pub each_guard : Tree → Names → List (Judged Kind)
each_guard (tree.cons e es) names = test_judged e names ∷ each_guard es names
each_guard other names = []

abbrev pub guards_written : Tree → Names → List Tree
guards_written (tree.cons e es) names = written e names ∷ guards_written es names
guards_written other names = []

-- ---- outputs

-- each value is of this kind
abbrev pub values_judged : Kind → Tree → Names → Judged (Unit {0})
values_judged k (tree.cons e es) names =
    and_so (stored_kind k e names) (λ found. values_judged k es names)
values_judged k other names = Fine tt

abbrev pub output_judged : Tree → ℕ → Scalar → Names → Judged Output
output_judged (tree.output asked values repeat at) port t names =
    and_so (kinds values names) (λ ks.
    and_so (repeat_judged repeat at names) (λ n.
    and_so (values_judged (kind_of_tokens t n) values names) (λ u.
    rate_judged (parts values) n
    (record { port = port; values = written values names; repeat = n }) at)))
output_judged other port t names = Broken wrong_repeat 0

abbrev pub outputs_on : Tree → List ℕ → List Port → Names → List (Judged Output)
outputs_on (tree.cons o os) (port ∷ numbers) ports names =
    output_judged o port (kind_of_port ports port) names ∷ outputs_on os numbers ports names
outputs_on os numbers ports names = []

abbrev pub outputs_broken : Tree → List Port → Names → List Violation
outputs_broken os ports names =
    if_fine (ports_asked (each_asked os) ports) (λ numbers.
    numbers_twice numbers (each_asked os) ++ all_broken (outputs_on os numbers ports names))

abbrev pub outputs_if : Judged (List ℕ) → Tree → List Port → Names → Option (List Output)
outputs_if (Fine numbers) os ports names = all_fine (outputs_on os numbers ports names)
outputs_if (Broken rule at) os ports names = None

abbrev pub outputs_fine : Tree → List Port → Names → Option (List Output)
outputs_fine os ports names = outputs_if (ports_asked (each_asked os) ports) os ports names

-- ---- actions

-- what an actor's actions see
pub record Around : Type 0 where
  pub ins : List Port
  pub outs : List Port
  pub procs : List Proc
  pub names : Names

abbrev pub inside_broken : Tree → Tree → Tree → Tree → Around → Names → List Violation
inside_broken guards vars body outputs around inner =
    all_broken (each_guard guards inner) ++ (starts_broken vars inner
    ++ if_fine (names_behind vars inner) (λ behind.
    statement_broken body around.procs behind ++ outputs_broken outputs around.outs behind))

abbrev pub behind_patterns : Option (List Pattern) → (List Pattern → List Violation)
    → List Violation
behind_patterns (Some qs) f = f qs
behind_patterns None f = []

abbrev pub is_without : Tree → Bool
is_without (tree.cons g gs) = false
is_without other = true

-- an `initialize` has no guard
abbrev pub guard_allowed : Bool → Tree → ℕ → List Violation
guard_allowed true guards at = unless (is_without guards) wrong_initialize at
guard_allowed false guards at = []

abbrev pub action_broken : Tree → Around → List Violation
action_broken (tree.action tagged initialize patterns outputs guards vars body at) around =
    guard_allowed initialize guards at
    ++ (patterns_broken patterns around.ins around.names
    ++ behind_patterns (patterns_fine patterns around.ins around.names) (λ qs.
    inside_broken guards vars body outputs around (with_all_patterns around.ins qs around.names)))
action_broken other around = []

-- ---- what an action is

abbrev pub tag_parts : Tree → List (List ℕ)
tag_parts (tree.tag parts at) = names_listed parts
tag_parts (tree.present t) = tag_parts t
tag_parts other = []

abbrev pub or_none : {A : Type 0} → Option (List A) → List A
or_none None = []
or_none (Some xs) = xs

-- the statements of a body, which may be missing
abbrev pub body_of : Tree → Tree
body_of (tree.present ss) = ss
body_of other = tree.nil

abbrev pub action_with : Tree → Bool → List Pattern → Tree → Tree → Tree → Tree → Around → Names
    → Action
action_with tagged initialize qs outputs guards vars body around inner = record {
  tag = tag_parts tagged;
  patterns = qs;
  outputs = or_none (outputs_fine outputs around.outs (behind_vars vars inner));
  guards = guards_written guards inner;
  locals = locals_of vars inner;
  body = statement_written (body_of body) (behind_vars vars inner);
  initialize = initialize;
}

abbrev pub action_if : List Pattern → Tree → Around → Action
action_if qs (tree.action tagged initialize patterns outputs guards vars body at) around =
    action_with tagged initialize qs outputs guards vars body around
    (with_all_patterns around.ins qs around.names)
action_if qs other around = record {
  tag = [];
  patterns = [];
  outputs = [];
  guards = [];
  locals = [];
  body = tree.nil;
  initialize = false;
}

abbrev pub patterns_of : Tree → Around → List Pattern
patterns_of (tree.action tagged initialize patterns outputs guards vars body at) around =
    or_none (patterns_fine patterns around.ins around.names)
patterns_of other around = []

abbrev pub action_of : Tree → Around → Action
action_of a around = action_if (patterns_of a around) a around
