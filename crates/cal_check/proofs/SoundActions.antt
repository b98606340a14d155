-- Actions of which none breaks a rule.
use Rattle.std.proofs.Common.{◌≡◌, ℕ, Bool, true, false, List, [], ◌∷◌, ◌++◌, map, refl, sym, ap, subst, ◌∙◌, Option, None, Some}
use Rattle.rvc_base.specs.Rules.{wrong_initialize}
use Rattle.cal_ast.specs.Tree as tree
use Rattle.cal_ast.specs.Tree.{Tree}
use Rattle.cal_model.specs.Value.{Kind}
use Rattle.cal_model.specs.Actor.{Actor, Pattern}
use Rattle.cal_model.specs.Selection.{kind_of_port}
use Rattle.cal_model.specs.Kinding.{Names, with_known}
use Rattle.cal_model.specs.Sound.{AreDistinct, AreStatements, Each, IsAction, IsOutput, IsPlain, kind_of_tokens, names_of, with_locals, with_pattern, with_patterns}
use Rattle.cal_check.specs.Violations.{Violation, all_broken}
use Rattle.cal_check.specs.Written.{behind_vars, statement_written}
use Rattle.cal_check.specs.Statements.{names_behind, starts_broken, statement_broken}
use Rattle.cal_check.specs.Routines.{locals_of}
use Rattle.cal_check.specs.Actions.{action_broken, action_if, action_of, action_with, behind_patterns, body_of, each_guard, guard_allowed, guards_written, inside_broken, or_none, outputs_broken, outputs_fine, patterns_broken, patterns_fine, with_all_patterns}
use Rattle.cal_check.specs.Formed.{AreFormed, IsActionFormed}
use Rattle.cal_check.specs.Laws.{AreAlike, ConstantsFit, HasDistinctNames, IsGuard, around_in}
use Rattle.cal_check.specs.Uses.{OnlyUses}
use Rattle.cal_check.proofs.WrittenUses.{body-uses, guards-use, locals-use, outputs-use}
use Rattle.cal_check.proofs.Fine.{if-none, none-of, unless-true}
use Rattle.cal_check.proofs.KeptKinds.{fit-more}
use Rattle.cal_check.proofs.SoundGuards.{are-guards}
use Rattle.cal_check.proofs.SoundLocals.{are-sound}
use Rattle.cal_check.proofs.SoundStatements.{are-right}
use Rattle.cal_check.proofs.SoundPorts.{ArePatterns, outputs-sound, patterns-sound}
use Rattle.cal_check.proofs.SameParts.{each-both, guard-same, locals-same, output-same, statements-same, with-locals-alike, with-patterns-alike}

-- ---- names inside

pub fit-pattern : (k : Kind) (names : List (List ℕ)) (n : Names) → ConstantsFit n → ConstantsFit (with_pattern k names n)
fit-pattern k [] n fit = fit
fit-pattern k (name ∷ more) n fit = fit-pattern k more (with_known (record { name = name; kind = k; value = None; changes = false }) n) (fit-more (record { name = name; kind = k; value = None; changes = false }) n refl fit)

fit-patterns : (actor : Actor) (qs : List Pattern) (n : Names) → ConstantsFit n → ConstantsFit (with_patterns actor qs n)
fit-patterns actor [] n fit = fit
fit-patterns actor (q ∷ qs) n fit =
    let k : Kind = kind_of_tokens (kind_of_port actor.ins q.port) q.repeat in
    fit-patterns actor qs (with_pattern k q.names n) (fit-pattern k q.names n fit)

all-patterns : (actor : Actor) (qs : List Pattern) (n : Names) → with_all_patterns actor.ins qs n ≡ with_patterns actor qs n
all-patterns actor [] n = refl
all-patterns actor (q ∷ qs) n = all-patterns actor qs (with_pattern (kind_of_tokens (kind_of_port actor.ins q.port) q.repeat) q.names n)

-- ---- bodies

body-formed : (body : Tree) → AreFormed body → AreFormed (body_of body)
body-formed (tree.present ss) f = f
body-formed other f = tt

body-broken : (body : Tree) (actor : Actor) (n : Names) → statement_broken body actor.procs n ≡ [] → statement_broken (body_of body) actor.procs n ≡ []
body-broken (tree.present ss) actor n h = h
body-broken other actor n h = refl

-- ---- initialize

unguarded : (initialize : Bool) (guards : Tree) (at : ℕ) (n : Names) → guard_allowed initialize guards at ≡ [] → initialize ≡ true → guards_written guards n ≡ []
unguarded true (tree.cons g gs) at n h e = absurd (not-without (unless-true false wrong_initialize at h))
  where
    not-without : false ≡ true → ⊥
    not-without e = cc
unguarded true other at n h e = refl
unguarded false guards at n h e = absurd (cc)

-- ---- actions

-- what is behind the patterns, if these are fine
pub behind-none : (o : Option (List Pattern)) (qs : List Pattern) (f : List Pattern → List Violation) → o ≡ Some qs → behind_patterns o f ≡ [] → f qs ≡ []
behind-none None qs f e h = absurd (cc)
behind-none (Some ps) qs f e h = let same : ps ≡ qs = cc in subst (λ x. f x ≡ []) same h

pub or-none : {A : Type 0} (o : Option (List A)) (xs : List A) → o ≡ Some xs → or_none o ≡ xs
or-none None xs e = absurd (cc)
or-none (Some ys) xs e = cc

-- the action of parts that break nothing: n are the names inside, and m those that soundness asks for
made : (P : List ℕ → Type 0) (tagged : Tree) (initialize : Bool) (patterns outputs guards vars body : Tree) (at : ℕ) (actor : Actor) (names : Names) (qs : List Pattern)
    → IsActionFormed (tree.action tagged initialize patterns outputs guards vars body at) → OnlyUses P (tree.action tagged initialize patterns outputs guards vars body at) → ConstantsFit names → AreAlike P names (names_of actor)
    → ArePatterns patterns actor names qs → (initialize ≡ true → qs ≡ []) → guard_allowed initialize guards at ≡ []
    → inside_broken guards vars body outputs (around_in actor names) (with_patterns actor qs names) ≡ []
    → HasDistinctNames (action_with tagged initialize qs outputs guards vars body (around_in actor names) (with_patterns actor qs names))
    → IsAction actor (action_with tagged initialize qs outputs guards vars body (around_in actor names) (with_patterns actor qs names))
made P tagged initialize patterns outputs guards vars body at actor names qs f u fit alike ps none allowed h d =
    let n : Names = with_patterns actor qs names in
    let m : Names = with_patterns actor qs (names_of actor) in
    let fit_n : ConstantsFit n = fit-patterns actor qs names fit in
    let alike_n : AreAlike P n m = with-patterns-alike P actor qs names (names_of actor) alike in
    let one = none-of (all_broken (each_guard guards n)) _ h in
    let two = none-of (starts_broken vars n) _ one.1 in
    let i = if-none (names_behind vars n) (λ behind. statement_broken body actor.procs behind ++ outputs_broken outputs actor.outs behind) two.1 in
    let three = none-of (statement_broken body actor.procs i.0) (outputs_broken outputs actor.outs i.0) i.2 in
    let s = are-sound vars n i.0 f.0 fit_n i.1 two.0 in
    let r = are-right (body_of body) actor.procs i.0 (body-formed body f.1) s.fit (body-broken body actor i.0 three.0) in
    let os = outputs-sound outputs actor i.0 s.fit three.1 in
    let behind_alike : AreAlike P i.0 (with_locals (locals_of vars n) m) =
    subst (λ x. AreAlike P x (with_locals (locals_of vars n) m)) s.is_with (with-locals-alike P (locals_of vars n) n m alike_n) in
    let outs : or_none (outputs_fine outputs actor.outs (behind_vars vars n)) ≡ os.0 =
    ap (λ x. or_none (outputs_fine outputs actor.outs x)) s.is_behind ∙ or-none (outputs_fine outputs actor.outs i.0) os.0 os.1.found in
    record {
      patterns = ps.each;
      ports_in = ps.distinct;
      ports_out = subst (λ xs. AreDistinct (map (λ o. o.port) xs)) (sym outs) os.1.distinct;
      distinct = d;
      guards = each-both (OnlyUses P) (IsGuard n) (IsGuard m) (guard-same P n m alike_n) (guards_written guards n) (guards-use P guards n u.2) (are-guards guards n fit_n one.0);
      locals = locals-same P (locals_of vars n) n m alike_n (locals-use P vars n u.3) s.are_locals;
      body = subst (λ x. AreStatements (statement_written (body_of body) x) actor.procs (with_locals (locals_of vars n) m)) (sym s.is_behind)
          (statements-same P (statement_written (body_of body) i.0) actor.procs i.0 (with_locals (locals_of vars n) m) behind_alike r.bare (body-uses P body i.0 u.4) r.are);
      plain = subst (λ x. IsPlain (statement_written (body_of body) x)) (sym s.is_behind) r.bare;
      outputs = subst (λ xs. Each (IsOutput actor (with_locals (locals_of vars n) m)) xs) (sym outs)
          (each-both (λ o. OnlyUses P o.values) (IsOutput actor i.0) (IsOutput actor (with_locals (locals_of vars n) m)) (output-same P actor i.0 (with_locals (locals_of vars n) m) behind_alike) os.0 (outputs-use P outputs actor.outs i.0 os.0 u.1 os.1.found) os.1.each);
      takes_nothing = none;
      unguarded = unguarded initialize guards at n allowed;
    }

no-patterns : (initialize : Bool) (patterns : Tree) (actor : Actor) (names : Names) (qs : List Pattern) → (initialize ≡ true → patterns ≡ tree.nil)
    → patterns_fine patterns actor.ins names ≡ Some qs → initialize ≡ true → qs ≡ []
no-patterns initialize patterns actor names qs none found e =
    let nil : patterns ≡ tree.nil = none e in
    let some : Some [] ≡ Some qs = sym (ap (λ t. patterns_fine t actor.ins names) nil) ∙ found in
    cc

pub action-sound : (P : List ℕ → Type 0) (a : Tree) (actor : Actor) (names : Names) → IsActionFormed a → OnlyUses P a → ConstantsFit names → AreAlike P names (names_of actor)
    → action_broken a (around_in actor names) ≡ [] → HasDistinctNames (action_of a (around_in actor names)) → IsAction actor (action_of a (around_in actor names))
action-sound P (tree.action tagged initialize patterns outputs guards vars body at) actor names f u fit alike h d =
    let a : Tree = tree.action tagged initialize patterns outputs guards vars body at in
    let around = around_in actor names in
    let one = none-of (guard_allowed initialize guards at) _ h in
    let two = none-of (patterns_broken patterns actor.ins names) _ one.1 in
    let qs = patterns-sound patterns actor names two.0 in
    let inside = behind-none (patterns_fine patterns actor.ins names) qs.0 (λ qs. inside_broken guards vars body outputs around (with_all_patterns actor.ins qs names)) qs.1.found two.1 in
    let same : or_none (patterns_fine patterns actor.ins names) ≡ qs.0 = or-none (patterns_fine patterns actor.ins names) qs.0 qs.1.found in
    let inner : with_all_patterns actor.ins qs.0 names ≡ with_patterns actor qs.0 names = all-patterns actor qs.0 names in
    let d_same = subst (λ ps. HasDistinctNames (action_if ps a around)) same d in
    let d_inner = subst (λ n. HasDistinctNames (action_with tagged initialize qs.0 outputs guards vars body around n)) inner d_same in
    let is = made P tagged initialize patterns outputs guards vars body at actor names qs.0 f u fit alike qs.1 (no-patterns initialize patterns actor names qs.0 f.2 qs.1.found) one.0
    (subst (λ n. inside_broken guards vars body outputs around n ≡ []) inner inside) d_inner in
    subst (λ ps. IsAction actor (action_if ps a around)) (sym same)
    (subst (λ n. IsAction actor (action_with tagged initialize qs.0 outputs guards vars body around n)) (sym inner) is)
action-sound P other actor names f u fit alike h d = absurd f
