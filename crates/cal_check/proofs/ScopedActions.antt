-- What the scopes give of an action that breaks nothing: its names differ, and none hides a call.
use Rattle.std.proofs.Common.{◌≡◌, ℕ, suc, Bool, true, false, List, [], ◌∷◌, ◌++◌, map, refl, sym, ap, subst, ◌∙◌, Option, None, Some}
use Rattle.std.specs.Prelude.{if◌then◌else◌}
use Rattle.rvc_base.specs.Rules.{wrong_repeat}
use Rattle.cal_ast.specs.Tree as tree
use Rattle.cal_ast.specs.Tree.{Tree}
use Rattle.cal_model.specs.Actor.{Action, Actor, Output, Pattern, Port}
use Rattle.cal_model.specs.Rates.{parts}
use Rattle.cal_model.specs.Kinding.{Fine, Broken, Names}
use Rattle.cal_model.specs.Sound.{ActionHidesNoCall, AreDistinct, Each, HidesNoCall, names_in_patterns, names_of, names_of_vars, with_locals, with_patterns}
use Rattle.cal_model.proofs.KindValues.{fine-is, not-fine, split}
use Rattle.cal_check.specs.Actions.{Around, action_broken, action_if, action_of, guard_allowed, names_listed, or_none, outputs_fine, pattern_judged, patterns_broken, patterns_fine, patterns_if, patterns_on, rate_judged, repeat_judged, with_all_patterns}
use Rattle.cal_check.specs.Formed.{IsActionFormed}
use Rattle.cal_check.specs.Laws.{HasDistinctNames}
use Rattle.cal_check.specs.Ports.{Asked, asked_by, each_asked, is_named, numbers_twice, port_of, ports_asked, ports_from}
use Rattle.cal_check.specs.Routines.{locals_of}
use Rattle.cal_check.specs.Sources.{IsActionScoped, OutputsHideNoCall, names_of_patterns, nothing_inside, with_names}
use Rattle.cal_check.specs.Violations.{all_broken, all_fine, fine}
use Rattle.cal_check.specs.Written.{behind_vars}
use Rattle.cal_check.proofs.Fine.{all-fine, if-none, none-of}
use Rattle.cal_check.proofs.HiddenCalls.{SameInside, body-hides, guards-hide, locals-hide, locals-inside, locals-named, outputs-hide, patterns-inside}
use Rattle.cal_check.proofs.SoundActions.{or-none}
use Rattle.cal_check.proofs.WrittenUses.{fine-some, some-parts}

-- ---- the names of patterns

rate-is : (count : ℕ) (n : Option ℕ) (made out : Pattern) (at : ℕ) → rate_judged count n made at ≡ Fine out → made ≡ out
rate-is count n made out at h = go _ h
  where
    go : (b : Bool) → (if b then Fine made else Broken wrong_repeat at) ≡ Fine out → made ≡ out
    go true e = fine-is made out e
    go false e = absurd (not-fine wrong_repeat at out e)

pattern-named : (p ps : Tree) (port : ℕ) (names : Names) (q : Pattern) → pattern_judged p port names ≡ Fine q → names_of_patterns (tree.cons p ps) ≡ q.names ++ names_of_patterns ps
pattern-named (tree.pattern asked variables repeat at) ps port names q h =
    let n = split (repeat_judged repeat at names) _ q h in
    ap (λ x. x.names ++ names_of_patterns ps)
    (rate-is (parts variables) n.0 (record { port = port; names = names_listed variables; repeat = n.0 }) q at n.2)
pattern-named other ps port names q h = absurd (not-fine wrong_repeat 0 q h)

patterns-named : (named : Bool) (k : ℕ) (ps : Tree) (ports : List Port) (numbers : List ℕ) (names : Names) (qs : List Pattern) → ports_from named k (each_asked ps) ports ≡ Fine numbers
    → all_fine (patterns_on ps numbers names) ≡ Some qs → names_in_patterns qs ≡ names_of_patterns ps
patterns-named named k (tree.cons p ps) ports numbers names qs h e =
    let asked : Asked = asked_by p in
    let one = split (port_of named k asked asked.name ports) _ numbers h in
    let rest = split (ports_from named (suc k) (each_asked ps) ports) (λ more. Fine (one.0 ∷ more)) numbers one.2 in
    let e_here : all_fine (patterns_on (tree.cons p ps) (one.0 ∷ rest.0) names) ≡ Some qs =
    subst (λ ns. all_fine (patterns_on (tree.cons p ps) ns names) ≡ Some qs) (sym (fine-is (one.0 ∷ rest.0) numbers rest.2)) e in
    let found = some-parts (fine (pattern_judged p one.0 names)) (all_fine (patterns_on ps rest.0 names)) qs e_here in
    ap names_in_patterns (sym found.4)
    ∙ ap (λ ns. found.0.names ++ ns) (patterns-named named (suc k) ps ports rest.0 names found.1 rest.1 found.3)
    ∙ sym (pattern-named p ps one.0 names found.0 (fine-some (pattern_judged p one.0 names) found.0 found.2))
patterns-named named k other ports numbers names qs h e = ap names_in_patterns (let same : qs ≡ [] = cc in same)

-- the patterns of an action that breaks nothing
pub record PatternsFound (patterns : Tree) (ins : List Port) (names : Names) : Type 0 where
  pub found : List Pattern
  pub are : patterns_fine patterns ins names ≡ Some found
  pub named : names_in_patterns found ≡ names_of_patterns patterns

pub patterns-found : (patterns : Tree) (ins : List Port) (names : Names) → patterns_broken patterns ins names ≡ [] → PatternsFound patterns ins names
patterns-found patterns ins names h =
    let n = if-none (ports_asked (each_asked patterns) ins) (λ numbers. numbers_twice numbers (each_asked patterns) ++ all_broken (patterns_on patterns numbers names)) h in
    let two = none-of (numbers_twice n.0 (each_asked patterns)) (all_broken (patterns_on patterns n.0 names)) n.2 in
    let qs = all-fine (patterns_on patterns n.0 names) two.1 in
    record {
      found = qs.0;
      are = ap (λ j. patterns_if j patterns names) n.1 ∙ qs.2;
      named = patterns-named (is_named (each_asked patterns)) 0 patterns ins n.0 names qs.0 n.1 qs.2;
    }

-- ---- actions

outputs-in : (os : Tree) (ports : List Port) (k n m : Names) → SameInside n m → OutputsHideNoCall os n → Each (λ o. HidesNoCall o.values m) (or_none (outputs_fine os ports k))
outputs-in os ports k n m s h = go (outputs_fine os ports k) refl
  where
    go : (o : Option (List Output)) → outputs_fine os ports k ≡ o → Each (λ x. HidesNoCall x.values m) (or_none o)
    go None e = tt
    go (Some outs) e = outputs-hide os ports k n m outs s h e

pub record ActionScoped (actor : Actor) (act : Action) : Type 0 where
  pub distinct : HasDistinctNames act
  pub hides : ActionHidesNoCall actor act

pub action-scoped : (a : Tree) (around : Around) (actor : Actor) → IsActionFormed a → IsActionScoped a → action_broken a around ≡ [] → ActionScoped actor (action_of a around)
action-scoped (tree.action tagged initialize patterns outputs guards vars body at) around actor formed scoped h =
    let a : Tree = tree.action tagged initialize patterns outputs guards vars body at in
    let one = none-of (guard_allowed initialize guards at) _ h in
    let two = none-of (patterns_broken patterns around.ins around.names) _ one.1 in
    let ps = patterns-found patterns around.ins around.names two.0 in
    let qs : List Pattern = ps.found in
    let k : Names = with_all_patterns around.ins qs around.names in
    let n : Names = with_names (names_of_patterns patterns) nothing_inside in
    let m : Names = with_patterns actor qs (names_of actor) in
    let first : SameInside n m = subst (λ ns. SameInside (with_names ns nothing_inside) m) ps.named (patterns-inside actor qs nothing_inside (names_of actor) refl) in
    let both : SameInside (with_names (names_of_vars vars) n) (with_locals (locals_of vars k) m) =
    locals-inside (names_of_vars vars) (locals_of vars k) n m (locals-named vars k formed.0) first in
    let same : or_none (patterns_fine patterns around.ins around.names) ≡ qs = or-none (patterns_fine patterns around.ins around.names) qs ps.are in
    subst (λ xs. ActionScoped actor (action_if xs a around)) (sym same)
    (record {
      distinct = subst AreDistinct (sym (ap (λ ns. ns ++ map (λ x. x.name) (locals_of vars k)) ps.named ∙ ap (λ ns. names_of_patterns patterns ++ ns) (locals-named vars k formed.0))) scoped.0;
      hides = record {
        guards = guards-hide guards k n m first scoped.1;
        locals = locals-hide vars k n m formed.0 first scoped.2;
        body = body-hides body (behind_vars vars k) (with_names (names_of_vars vars) n) (with_locals (locals_of vars k) m) both scoped.3;
        outputs = outputs-in outputs around.outs (behind_vars vars k) (with_names (names_of_vars vars) n) (with_locals (locals_of vars k) m) both scoped.4;
      };
    })
action-scoped other around actor formed scoped h = absurd formed
