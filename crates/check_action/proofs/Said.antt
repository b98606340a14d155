-- Rules of actions that are said where what isn't constant is passed over.
use Rattle.std.proofs.Common.{◌≡◌, ℕ, suc, Bool, true, false, Ok, Err, Some, None, Option, List, [], ◌∷◌, ◌++◌, length, map, Vec, Global, Result, refl, sym, ap, subst, ◌∙◌}
use Rattle.std.specs.Prelude.{Contains, if◌then◌else◌, ◌&&◌, ◌==◌, nat_lt}
use Rattle.rvc_base.specs.Rules.{not_constant, port_named_twice, wrong_initialize}
use Rattle.rvc_base.specs.declared.refusal.Rule.{Rule}
use Rattle.cal_ast.specs.Tree.{Tree}
use Rattle.cal_check.proofs.Lists.{in-none}
use Rattle.cal_model.specs.Actor.{Pattern as GivenPattern, Port}
use Rattle.cal_model.specs.Kinding.{Judged, Fine, Broken, Names, and_so}
use Rattle.cal_model.specs.Sound.{Each}
use Rattle.cal_model.specs.View.{pattern_view}
use Rattle.cal_model.specs.declared.bound.BoundPattern.{BoundPattern}
use Rattle.const_env.specs.declared.fault.KindFault.{KindFault}
use Rattle.const_env.specs.declared.fault.KindFault.TheVariants as fault
use Rattle.cal_check.specs.Violations.{Keyed, Violation, all_broken, all_fine, and_all, if_fine, is_met, said, twice, unless, violation, without_constants}
use Rattle.cal_check.specs.Actions.{behind_patterns, guard_allowed, is_without, outputs_broken, outputs_on, patterns_if, patterns_on}
use Rattle.cal_check.specs.Ports.{Asked, each_asked, keyed_numbers, named_port, number_from, numbers_twice, port_of, ports_asked, ports_from}
use Rattle.check_member.specs.Asking.{asked_broken}
use Rattle.check_stmt.specs.Judging.{Checks, Refuses, is_passed}
use Rattle.check_stmt.proofs.Said.{passed_on, said_next, said_none, said_on}
use Rattle.check_action.specs.Parts.{FindsPatternsSaid, JudgesAllSaid}
use Rattle.check_action.proofs.Walks.{behind_ports, patterns_are, ports_fine}

-- ---- rules that are said in any case

abbrev IsOther : Violation → Type 0
IsOther v = (v.rule.0 == not_constant.0) ≡ false

all_stay : (vs : List Violation) → Each IsOther vs → without_constants vs ≡ vs
all_stay [] h = refl
all_stay (v ∷ vs) h = ap (λ b. if b then without_constants vs else v ∷ without_constants vs) h.0 ∙ ap (λ us. v ∷ us) (all_stay vs h.1)

pub others_said : (passes : Bool) (vs : List Violation) → Each IsOther vs → said passes vs ≡ vs
others_said true vs h = all_stay vs h
others_said false vs h = refl

-- ports that are asked for
clash : {A : Type 0} (a : A) (rule : Rule) (at : ℕ) → Fine a ≡ Broken rule at → ⊥
clash a rule at h = cc

same_rule : {A : Type 0} (r s : Rule) (p q : ℕ) → ◌≡◌ {A = Judged A} (Broken r p) (Broken s q) → r ≡ s
same_rule r s p q h = cc

named_other : (o : Option ℕ) (p : ℕ) (rule : Rule) (at : ℕ) → named_port o p ≡ Broken rule at → (rule.0 == not_constant.0) ≡ false
named_other None p rule at h = ap (λ r. r.0 == not_constant.0) (sym (same_rule _ rule p at h))
named_other (Some n) p rule at h = absurd (clash n rule at h)

placed_other : (b : Bool) (k p : ℕ) (r rule : Rule) (at : ℕ) → (r.0 == not_constant.0) ≡ false → (if b then Fine k else Broken r p) ≡ Broken rule at → (rule.0 == not_constant.0) ≡ false
placed_other true k p r rule at e h = absurd (clash k rule at h)
placed_other false k p r rule at e h = ap (λ x. x.0 == not_constant.0) (sym (same_rule r rule p at h)) ∙ e

port_other : (named : Bool) (k : ℕ) (a : Asked) (o : Option (List ℕ)) (ports : List Port) (rule : Rule) (at : ℕ) → port_of named k a o ports ≡ Broken rule at → (rule.0 == not_constant.0) ≡ false
port_other true k a (Some name) ports rule at h = named_other (number_from 0 name ports) a.at rule at h
port_other true k a None ports rule at h = ap (λ r. r.0 == not_constant.0) (sym (same_rule _ rule a.at at h))
port_other false k a (Some name) ports rule at h = ap (λ r. r.0 == not_constant.0) (sym (same_rule _ rule a.at at h))
port_other false k a None ports rule at h = placed_other (nat_lt k (length ports)) k a.at _ rule at refl h

ports_other : (named : Bool) (k : ℕ) (asked : List Asked) (ports : List Port) (rule : Rule) (at : ℕ) → ports_from named k asked ports ≡ Broken rule at → (rule.0 == not_constant.0) ≡ false
ports_other named k [] ports rule at h = absurd (clash [] rule at h)
ports_other named k (a ∷ rest) ports rule at h =
    go (port_of named k a a.name ports) refl (ports_from named (suc k) rest ports) (λ r q f. ports_other named (suc k) rest ports r q f) h
  where
    go : (i : Judged ℕ) → port_of named k a a.name ports ≡ i → (j : Judged (List ℕ))
        → ((r : Rule) (q : ℕ) → j ≡ Broken r q → (r.0 == not_constant.0) ≡ false)
        → and_so i (λ p. and_so j (λ ps. Fine (p ∷ ps))) ≡ Broken rule at → (rule.0 == not_constant.0) ≡ false
    go (Broken r q) e j f m = ap (λ x. x.0 == not_constant.0) (sym (same_rule r rule q at m)) ∙ port_other named k a a.name ports r q e
    go (Fine p) e (Broken r q) f m = ap (λ x. x.0 == not_constant.0) (sym (same_rule r rule q at m)) ∙ f r q refl
    go (Fine p) e (Fine ps) f m = absurd (clash (p ∷ ps) rule at m)

twice_other : (met : List ℕ) (xs : List (Keyed ℕ)) → Each IsOther (twice (λ p q. p == q) port_named_twice met xs)
twice_other met [] = tt
twice_other met (x ∷ xs) = go (is_met (λ p q. p == q) x.key met) (twice_other met xs) (twice_other (x.key ∷ met) xs)
  where
    go : (b : Bool) → Each IsOther (twice (λ p q. p == q) port_named_twice met xs) → Each IsOther (twice (λ p q. p == q) port_named_twice (x.key ∷ met) xs)
        → Each IsOther (if b then violation port_named_twice x.at ++ twice (λ p q. p == q) port_named_twice met xs else twice (λ p q. p == q) port_named_twice (x.key ∷ met) xs)
    go true h i = (refl, h)
    go false h i = i

asked_other : (asked : List Asked) (ports : List Port) (named : Bool) → Each IsOther (if_fine (ports_from named 0 asked ports) (λ numbers. numbers_twice numbers asked))
asked_other asked ports named = go (ports_from named 0 asked ports) refl
  where
    go : (j : Judged (List ℕ)) → ports_from named 0 asked ports ≡ j → Each IsOther (if_fine j (λ numbers. numbers_twice numbers asked))
    go (Fine numbers) e = twice_other [] (keyed_numbers numbers asked)
    go (Broken rule at) e = (ports_other named 0 asked ports rule at e, tt)

asked_said : (passes : Bool) (asked : List Asked) (ports : List Port) → said passes (asked_broken asked ports) ≡ asked_broken asked ports
asked_said passes asked ports = others_said passes (asked_broken asked ports) (asked_other asked ports _)

-- ---- ports that are asked for, and what is judged on them

pub ports_refused_said : (f : KindFault) (passes : Bool) (asked : List Asked) (ports : List Port) (g : List ℕ → List Violation) → Refuses f (asked_broken asked ports)
    → Refuses f (said passes (behind_ports asked ports g))
ports_refused_said f passes asked ports g h = go (ports_asked asked ports) (subst (Refuses f) (sym (asked_said passes asked ports)) h)
  where
    go : (j : Judged (List ℕ)) → Refuses f (said passes (if_fine j (λ numbers. numbers_twice numbers asked)))
        → Refuses f (said passes (if_fine j (λ numbers. numbers_twice numbers asked ++ g numbers)))
    go (Fine numbers) r = said_on f passes (numbers_twice numbers asked) (g numbers) r
    go (Broken rule at) r = r

pub found_patterns_said : (passes : Bool) (r : Result (Option (Vec BoundPattern Global)) KindFault) (ps : Tree) (ports : List Port) (names : Names) (numbers : List ℕ)
    → ports_asked (each_asked ps) ports ≡ Fine numbers → asked_broken (each_asked ps) ports ≡ []
    → JudgesAllSaid passes pattern_view r (patterns_on ps numbers names) → FindsPatternsSaid passes r ps ports names
found_patterns_said passes (Ok (Some qs)) ps ports names numbers e a h = patterns_are ps ports names numbers (map pattern_view qs.items) e a h
found_patterns_said passes (Ok None) ps ports names numbers e a (p, s, n) = (
  p,
  ap (said passes) (ports_fine (each_asked ps) ports numbers (λ ns. all_broken (patterns_on ps ns names)) e a) ∙ s,
  ap (λ j. patterns_if j ps names) e ∙ n,
)
found_patterns_said passes (Err f) ps ports names numbers e a h =
    subst (λ vs. Refuses f (said passes vs)) (sym (ports_fine (each_asked ps) ports numbers (λ ns. all_broken (patterns_on ps ns names)) e a)) h

pub found_outputs_said : {A : Type 0} (passes : Bool) (r : Result A KindFault) (os : Tree) (ports : List Port) (names : Names) (numbers : List ℕ)
    → ports_asked (each_asked os) ports ≡ Fine numbers → asked_broken (each_asked os) ports ≡ []
    → Checks r (said passes (all_broken (outputs_on os numbers ports names))) → Checks r (said passes (outputs_broken os ports names))
found_outputs_said passes r os ports names numbers e a h =
    subst (λ vs. Checks r (said passes vs)) (sym (ports_fine (each_asked os) ports numbers (λ ns. all_broken (outputs_on os ns ports names)) e a)) h

-- ---- a list of parts, one of which is broken

none_of : {A : Type 0} (a : A) (o : Option (List A)) → o ≡ None → and_all (Some a) o ≡ None
none_of a o h = ap (and_all (Some a)) h

pub none_fine : {A : Type 0} (js : List (Judged A)) (v : Violation) → Contains (all_broken js) v → all_fine js ≡ None
none_fine [] v h = absurd (in-none v h)
none_fine (Fine a ∷ js) v h = none_of a (all_fine js) (none_fine js v h)
none_fine (Broken rule at ∷ js) v h = refl

both : (a b : Bool) → (a && b) ≡ true → a ≡ true
both true b h = refl
both false b h = cc

-- what isn't constant is passed over, and so is all that is broken
pub passed_all : {A : Type 0} (f : KindFault) (passes : Bool) (js : List (Judged A)) → is_passed passes f ≡ true → Refuses f (all_broken js) → said passes (all_broken js) ≡ []
    → (passes ≡ true) × (said passes (all_broken js) ≡ []) × (all_fine js ≡ None)
passed_all (fault.Broken rule at) passes js e h s = (both passes (rule.0 == not_constant.0) e, s, none_fine js (record { rule = rule; at = at }) h)
passed_all fault.Memory passes js e h s = cc

-- a fault that isn't passed over
pub kept_on : (f : KindFault) (passes : Bool) (vs : List Violation) → is_passed passes f ≡ false → Refuses f vs → Refuses f (said passes vs)
kept_on (fault.Broken rule at) passes vs e h = passed_on passes vs rule at e h
kept_on fault.Memory passes vs e h = tt

-- ---- guards of an `initialize`

guard_said : (passes initialize : Bool) (guards : Tree) (at : ℕ) → said passes (guard_allowed initialize guards at) ≡ guard_allowed initialize guards at
guard_said passes false guards at = said_none passes
guard_said passes true guards at = go passes (is_without guards)
  where
    go : (passes b : Bool) → said passes (unless b wrong_initialize at) ≡ unless b wrong_initialize at
    go passes true = said_none passes
    go true false = refl
    go false false = refl

-- ---- an action

module _ (passes : Bool) (ga pb : List Violation) (o : Option (List GivenPattern)) (F : List GivenPattern → List Violation) where
  pub action_none : ga ≡ [] → said passes pb ≡ [] → o ≡ None → said passes (ga ++ (pb ++ behind_patterns o F)) ≡ []
  action_none g p n =
      ap (λ us. said passes (us ++ (pb ++ behind_patterns o F))) g ∙ said_next passes pb (behind_patterns o F) p ∙ ap (λ x. said passes (behind_patterns x F)) n ∙ said_none passes

  pub action_refused : (f : KindFault) → ga ≡ [] → Refuses f (said passes pb) → Refuses f (said passes (ga ++ (pb ++ behind_patterns o F)))
  action_refused f g h =
      subst (λ us. Refuses f (said passes (us ++ (pb ++ behind_patterns o F)))) (sym g) (said_on f passes pb (behind_patterns o F) h)

  pub action_behind : {A : Type 0} (r : Result A KindFault) (qs : List GivenPattern) → ga ≡ [] → pb ≡ [] → o ≡ Some qs → Checks r (said passes (F qs))
      → Checks r (said passes (ga ++ (pb ++ behind_patterns o F)))
  action_behind r qs g p e h =
      subst (λ us. Checks r (said passes (us ++ (pb ++ behind_patterns o F)))) (sym g)
      (subst (λ us. Checks r (said passes (us ++ behind_patterns o F))) (sym p)
      (subst (λ x. Checks r (said passes (behind_patterns x F))) (sym e) h))

pub guard_refused : (f : KindFault) (passes initialize : Bool) (guards : Tree) (at : ℕ) (rest : List Violation) → Refuses f (guard_allowed initialize guards at)
    → Refuses f (said passes (guard_allowed initialize guards at ++ rest))
guard_refused f passes initialize guards at rest h =
    said_on f passes (guard_allowed initialize guards at) rest (subst (Refuses f) (sym (guard_said passes initialize guards at)) h)
