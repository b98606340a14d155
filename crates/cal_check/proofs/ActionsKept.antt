-- Actions say and do what they say and do as they stand in the source.
use Rattle.std.proofs.Common.{◌≡◌, ℕ, ℤ, Bool, true, false, List, [], ◌∷◌, ◌++◌, map, refl, sym, ap, subst, ◌∙◌, Option, None, Some}
use Rattle.std.specs.Prelude.{if◌then◌else◌}
use Rattle.rvc_base.specs.declared.scalar.Scalar.{Scalar}
use Rattle.rvc_base.specs.Rules.{wrong_repeat}
use Rattle.rvc_base.specs.Storing.{conv}
use Rattle.rvc_base.specs.Turns.{max_turns}
use Rattle.cal_ast.specs.Tree as tree
use Rattle.cal_ast.specs.Tree.{Tree}
use Rattle.cal_model.specs.Value.{BoolKind, Kind}
use Rattle.cal_model.specs.Outcome.{Gives, and_then}
use Rattle.cal_model.specs.Env.{Env, Var}
use Rattle.cal_model.specs.Expression.{Calls, eval, eval_all}
use Rattle.cal_model.specs.Actor.{Action, Output, Pattern, Port, Proc}
use Rattle.cal_model.specs.Call.{declared}
use Rattle.cal_model.specs.Statement.{Runs, exec_all}
use Rattle.cal_model.specs.Rates.{parts}
use Rattle.cal_model.specs.Selection.{guard_then, guards_say, kind_of_port}
use Rattle.cal_model.specs.Firing.{outputs, sent_numbers}
use Rattle.cal_model.specs.Kinding.{Fine, Broken, Names, kinds, with_known}
use Rattle.cal_model.specs.Sound.{kind_of_tokens, with_pattern}
use Rattle.cal_model.proofs.KindValues.{fine-is, not-fine, split}
use Rattle.cal_check.specs.Actions.{Around, action_broken, action_if, action_of, body_of, each_guard, guard_allowed, guards_written, inside_broken, or_none, output_judged, outputs_broken, outputs_fine, outputs_if, outputs_on, patterns_broken, patterns_fine, rate_judged, repeat_judged, values_judged, with_all_patterns}
use Rattle.cal_check.specs.AsWritten.{action_as_is, done_by, guards_as_are, locals_as_are, output_as_is, outputs_as_are}
use Rattle.cal_check.specs.Formed.{AreFormed, IsActionFormed}
use Rattle.cal_check.specs.Laws.{ConstantsFit}
use Rattle.cal_check.specs.Ports.{each_asked, numbers_twice, ports_asked}
use Rattle.cal_check.specs.Routines.{locals_of}
use Rattle.cal_check.specs.Statements.{names_behind, starts_broken, statement_broken, test_judged}
use Rattle.cal_check.specs.Violations.{all_broken, all_fine, broken, fine}
use Rattle.cal_check.specs.Written.{behind_vars, statement_written, written}
use Rattle.cal_check.proofs.Fine.{all-fine, if-none, none-of}
use Rattle.cal_check.proofs.FunctionsKept.{locals-same}
use Rattle.cal_check.proofs.ScopedActions.{patterns-found}
use Rattle.cal_check.proofs.SoundActions.{behind-none, or-none}
use Rattle.cal_check.proofs.SoundLocals.{are-sound}
use Rattle.cal_check.proofs.SoundRates.{fit-all}
use Rattle.cal_check.proofs.StatementsKept.{Holds, Same, World, all-same, behind-deeper, plainly, same-then, statements-same, stored-same}
use Rattle.cal_check.proofs.WrittenUses.{fine-some, some-parts}

-- ---- guards

guards-same : (c d : Calls) (runs others : Runs) (guards : Tree) (k : Names) (env : Env) → ConstantsFit k → World c d runs others k.globals k.funs → Holds k env → all_broken (each_guard guards k) ≡ []
    → guards_say (guards_written guards k) c env ≡ guards_say (guards_as_are guards) d env
guards-same c d runs others (tree.cons e es) k env fit w h b =
    let p = none-of (broken (test_judged e k)) (all_broken (each_guard es k)) b in
    ap (λ o. guard_then o (guards_say (guards_written es k) c env)) (stored-same c d runs others BoolKind e k env max_turns fit w h p.0)
    ∙ ap (λ g. guard_then (eval e d env max_turns) g) (guards-same c d runs others es k env fit w h p.1)
guards-same c d runs others other k env fit w h b = refl

-- ---- outputs

-- the expressions of an output, which have kinds
record IsOutputOf (o : Tree) (k : Names) (out : Output) : Type 0 where
  values : Tree
  found : List Kind
  is_written : out.values ≡ written values k
  are_kinds : kinds values k ≡ Fine found
  as_is : output_as_is o out ≡ record out { values = values }

rate-is : (count : ℕ) (n : Option ℕ) (made out : Output) (at : ℕ) → rate_judged count n made at ≡ Fine out → made ≡ out
rate-is count n made out at h = go _ h
  where
    go : (b : Bool) → (if b then Fine made else Broken wrong_repeat at) ≡ Fine out → made ≡ out
    go true e = fine-is made out e
    go false e = absurd (not-fine wrong_repeat at out e)

output-is : (o : Tree) (port : ℕ) (t : Scalar) (k : Names) (out : Output) → output_judged o port t k ≡ Fine out → IsOutputOf o k out
output-is (tree.output asked values repeat at) port t k out h =
    let ks = split (kinds values k) _ out h in
    let n = split (repeat_judged repeat at k) _ out ks.2 in
    let v = split (values_judged (kind_of_tokens t n.0) values k) _ out n.2 in
    let made : Output = record { port = port; values = written values k; repeat = n.0 } in
    record { values = values; found = ks.0; is_written = sym (ap (λ x. x.values) (rate-is (parts values) n.0 made out at v.2)); are_kinds = ks.1; as_is = refl }
output-is other port t k out h = absurd (not-fine wrong_repeat 0 out h)

outputs-same : (c d : Calls) (runs others : Runs) (os : Tree) (numbers : List ℕ) (ports : List Port) (k : Names) (outs : List Output) (env : Env) (left : ℕ) → ConstantsFit k
    → World c d runs others k.globals k.funs → Holds k env → all_fine (outputs_on os numbers ports k) ≡ Some outs → outputs ports outs c env left ≡ outputs ports (outputs_as_are os outs) d env left
outputs-same c d runs others (tree.cons o os) (port ∷ numbers) ports k outs env left fit w h e =
    let p = some-parts (fine (output_judged o port (kind_of_port ports port) k)) (all_fine (outputs_on os numbers ports k)) outs e in
    let is = output-is o port (kind_of_port ports port) k p.0 (fine-some (output_judged o port (kind_of_port ports port) k) p.0 p.2) in
    subst (λ xs. outputs ports xs c env left ≡ outputs ports (outputs_as_are (tree.cons o os) xs) d env left) p.4
    ((same-then (λ vs. Unit {0}) (λ r. Unit {0}) (eval_all p.0.values c env left) (eval_all is.values d env left) _ _
    (plainly _ _ (ap (λ t. eval_all t c env left) is.is_written ∙ all-same c d runs others is.values k is.found env left fit w h is.are_kinds)) (λ vs m u.
    plainly _ _ (ap (λ x. and_then x (λ rest j. Gives ((p.0.port, map (conv (kind_of_port ports p.0.port)) (sent_numbers p.0.repeat vs)) ∷ rest) j))
    (outputs-same c d runs others os numbers ports k p.1 env m fit w h p.3)))).0
    ∙ ap (λ x. outputs ports (x ∷ outputs_as_are os p.1) d env left) (sym is.as_is))
outputs-same c d runs others (tree.cons o os) [] ports k outs env left fit w h e =
    subst (λ xs. outputs ports xs c env left ≡ outputs ports (outputs_as_are (tree.cons o os) xs) d env left) (let s : [] ≡ outs = cc in s) refl
outputs-same c d runs others other numbers ports k outs env left fit w h e =
    subst (λ xs. outputs ports xs c env left ≡ outputs ports (outputs_as_are other xs) d env left) (let s : [] ≡ outs = cc in s) refl

-- ---- actions

pub patterns-outside : (ports : List Port) (qs : List Pattern) (n : Names) → ((with_all_patterns ports qs n).globals ≡ n.globals) × ((with_all_patterns ports qs n).funs ≡ n.funs)
patterns-outside ports [] n = (refl, refl)
patterns-outside ports (q ∷ qs) n =
    let rest = patterns-outside ports qs (with_pattern (kind_of_tokens (kind_of_port ports q.port) q.repeat) q.names n) in
    let one = named-outside (kind_of_tokens (kind_of_port ports q.port) q.repeat) q.names n in
    (rest.0 ∙ one.0, rest.1 ∙ one.1)
  where
    named-outside : (k : Kind) (ns : List (List ℕ)) (n : Names) → ((with_pattern k ns n).globals ≡ n.globals) × ((with_pattern k ns n).funs ≡ n.funs)
    named-outside k [] n = (refl, refl)
    named-outside k (name ∷ more) n = named-outside k more (with_known (record { name = name; kind = k; value = None; changes = false }) n)

body-formed : (body : Tree) → AreFormed body → AreFormed (body_of body)
body-formed (tree.present ss) f = f
body-formed other f = tt

body-broken : (body : Tree) (procs : List Proc) (n : Names) → statement_broken body procs n ≡ [] → statement_broken (body_of body) procs n ≡ []
body-broken (tree.present ss) procs n h = h
body-broken other procs n h = refl

abbrev Done : Type 0
Done = List Var × List (ℕ × List ℤ)

-- the outputs, behind a body
sent-same : (c d : Calls) (runs others : Runs) (os : Tree) (numbers : List ℕ) (ports : List Port) (n : Names) (outs found : List Output) (last : Env) (left : ℕ) → ConstantsFit n
    → World c d runs others n.globals n.funs → Holds n last → all_fine (outputs_on os numbers ports n) ≡ Some outs → found ≡ outs
    → Same {A = Done} (λ r. Unit {0}) (and_then {B = Done} (outputs ports found c last left) (λ sent z. Gives (last.globals, sent) z))
    (and_then {B = Done} (outputs ports (outputs_as_are os found) d last left) (λ sent z. Gives (last.globals, sent) z))
sent-same c d runs others os numbers ports n outs found last left fit w h e same =
    let one : outputs ports found c last left ≡ outputs ports (outputs_as_are os found) d last left =
    subst (λ xs. outputs ports xs c last left ≡ outputs ports (outputs_as_are os xs) d last left) (sym same) (outputs-same c d runs others os numbers ports n outs last left fit w h e) in
    plainly {A = Done} (and_then {B = Done} (outputs ports found c last left) (λ sent z. Gives (last.globals, sent) z))
    (and_then {B = Done} (outputs ports (outputs_as_are os found) d last left) (λ sent z. Gives (last.globals, sent) z))
    (ap (λ o. and_then {B = Done} o (λ sent z. Gives (last.globals, sent) z)) one)

-- the body, behind the locals
acted-same : (c d : Calls) (runs others : Runs) (body os : Tree) (procs : List Proc) (n behind : Names) (numbers : List ℕ) (ports : List Port) (outs found : List Output) (inner : Env) (left : ℕ) → AreFormed body
    → ConstantsFit n → World c d runs others n.globals n.funs → Holds n inner → behind ≡ n → statement_broken body procs n ≡ [] → all_fine (outputs_on os numbers ports n) ≡ Some outs → found ≡ outs
    → Same {A = Done} (λ r. Unit {0})
    (and_then {B = Done} (exec_all (statement_written body behind) c runs inner left) (λ last j. and_then {B = Done} (outputs ports found c last j) (λ sent z. Gives (last.globals, sent) z)))
    (and_then {B = Done} (exec_all body d others inner left) (λ last j. and_then {B = Done} (outputs ports (outputs_as_are os found) d last j) (λ sent z. Gives (last.globals, sent) z)))
acted-same c d runs others body os procs n behind numbers ports outs found inner left formed fit w h same b e f =
    let one : Same (Holds n) (exec_all (statement_written body behind) c runs inner left) (exec_all body d others inner left) =
    subst (λ x. Same (Holds n) (exec_all (statement_written body x) c runs inner left) (exec_all body d others inner left)) (sym same)
    (statements-same c d runs others body procs n inner left formed fit w h b) in
    same-then {A = Env} {B = Done} (Holds n) (λ r. Unit {0}) (exec_all (statement_written body behind) c runs inner left) (exec_all body d others inner left)
    (λ last j. and_then {B = Done} (outputs ports found c last j) (λ sent z. Gives (last.globals, sent) z))
    (λ last j. and_then {B = Done} (outputs ports (outputs_as_are os found) d last j) (λ sent z. Gives (last.globals, sent) z))
    one (λ last j hl. sent-same c d runs others os numbers ports n outs found last j fit w hl e f)

-- what an action says and does as it is written out, and as it stands
abbrev pub DoesTheSame : (c d : Calls) (runs others : Runs) → Tree → Around → Action → Env → ℕ → Type 0
DoesTheSame c d runs others a around act env left =
    (guards_say act.guards c env ≡ guards_say (action_as_is a around act).guards d env)
    × (done_by around.outs act c runs env left ≡ done_by around.outs (action_as_is a around act) d others env left)

pub action-kept : (c d : Calls) (runs others : Runs) (a : Tree) (around : Around) (env : Env) (left : ℕ) → IsActionFormed a → ConstantsFit around.names
    → World c d runs others around.names.globals around.names.funs → action_broken a around ≡ []
    → Holds (with_all_patterns around.ins (action_of a around).patterns around.names) env → DoesTheSame c d runs others a around (action_of a around) env left
action-kept c d runs others (tree.action tagged initialize patterns os guards vars body at) around env left formed fit w h =
    let a : Tree = tree.action tagged initialize patterns os guards vars body at in
    let one = none-of (guard_allowed initialize guards at) _ h in
    let two = none-of (patterns_broken patterns around.ins around.names) _ one.1 in
    let ps = patterns-found patterns around.ins around.names two.0 in
    let qs : List Pattern = ps.found in
    let k : Names = with_all_patterns around.ins qs around.names in
    let inside = behind-none (patterns_fine patterns around.ins around.names) qs
    (λ xs. inside_broken guards vars body os around (with_all_patterns around.ins xs around.names)) ps.are two.1 in
    let same : or_none (patterns_fine patterns around.ins around.names) ≡ qs = or-none (patterns_fine patterns around.ins around.names) qs ps.are in
    let out = patterns-outside around.ins qs around.names in
    let fit_k = fit-all around.ins qs around.names fit in
    let w_k : World c d runs others k.globals k.funs =
    subst (λ gs. World c d runs others gs k.funs) (sym out.0) (subst (λ fs. World c d runs others around.names.globals fs) (sym out.1) w) in
    let three = none-of (all_broken (each_guard guards k)) _ inside in
    let four = none-of (starts_broken vars k) _ three.1 in
    let i = if-none (names_behind vars k) (λ behind. statement_broken body around.procs behind ++ outputs_broken os around.outs behind) four.1 in
    let five = none-of (statement_broken body around.procs i.0) (outputs_broken os around.outs i.0) i.2 in
    let n = if-none (ports_asked (each_asked os) around.outs) (λ numbers. numbers_twice numbers (each_asked os) ++ all_broken (outputs_on os numbers around.outs i.0)) five.1 in
    let six = none-of (numbers_twice n.0 (each_asked os)) (all_broken (outputs_on os n.0 around.outs i.0)) n.2 in
    let outs = all-fine (outputs_on os n.0 around.outs i.0) six.1 in
    let s = are-sound vars k i.0 formed.0 fit_k i.1 four.0 in
    let found : or_none (outputs_fine os around.outs (behind_vars vars k)) ≡ outs.0 =
    ap (λ x. or_none (outputs_fine os around.outs x)) s.is_behind
    ∙ or-none (outputs_fine os around.outs i.0) outs.0 (ap (λ j. outputs_if j os around.outs i.0) n.1 ∙ outs.2) in
    let deep = behind-deeper vars k i.0 formed.0 i.1 in
    let w_behind : World c d runs others i.0.globals i.0.funs =
    subst (λ gs. World c d runs others gs i.0.funs) (sym deep.globals) (subst (λ fs. World c d runs others k.globals fs) (sym deep.funs) w_k) in
    subst (λ xs. Holds (with_all_patterns around.ins xs around.names) env → DoesTheSame c d runs others a around (action_if xs a around) env left) (sym same) (λ hold. (
      guards-same c d runs others guards k env fit_k w_k hold three.0,
      (same-then {A = Env} {B = Done} (Holds i.0) (λ r. Unit {0}) (declared (locals_of vars k) c env left) (declared (locals_as_are vars k) d env left)
          (λ inner m. and_then {B = Done} (exec_all (statement_written (body_of body) (behind_vars vars k)) c runs inner m)
          (λ last j. and_then {B = Done} (outputs around.outs (or_none (outputs_fine os around.outs (behind_vars vars k))) c last j) (λ sent z. Gives (last.globals, sent) z)))
          (λ inner m. and_then {B = Done} (exec_all (body_of body) d others inner m)
          (λ last j. and_then {B = Done} (outputs around.outs (outputs_as_are os (or_none (outputs_fine os around.outs (behind_vars vars k)))) d last j) (λ sent z. Gives (last.globals, sent) z)))
          (locals-same c d runs others vars k i.0 env left formed.0 fit_k w_k hold i.1 four.0)
          (λ inner m hi. acted-same c d runs others (body_of body) os around.procs i.0 (behind_vars vars k) n.0 around.outs outs.0 (or_none (outputs_fine os around.outs (behind_vars vars k))) inner m
          (body-formed body formed.1) s.fit w_behind hi s.is_behind (body-broken body around.procs i.0 five.0) outs.2 found)).0,
    ))
action-kept c d runs others other around env left formed fit w h = absurd formed
