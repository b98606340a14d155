-- What isn't constant, passed over.
use Rattle.std.proofs.Common.{◌≡◌, ◌≤◌, ◌⊎◌, inl, inr, Bool, true, false, ℕ, List, [], ◌∷◌, ◌++◌, length, map, refl, sym, append-nil, ap, subst, ◌∙◌, Ok, Err, Result, arith}
use Rattle.std.specs.Prelude.{Contains, if◌then◌else◌, nat_le, ◌==◌}
use Rattle.std.specs.Str.{bytes_eq}
use Rattle.std.proofs.lemmas.Bool.Decides.{nat_tests}
use Rattle.rvc_base.specs.Rules.{not_constant, port_named_twice, too_many_ports}
use Rattle.rvc_base.specs.declared.refusal.Front.{Front}
use Rattle.rvc_base.specs.declared.refusal.Front.TheVariants as front
use Rattle.rvc_base.specs.declared.refusal.Rule.{Rule}
use Rattle.cal_ast.specs.Tree as tree
use Rattle.cal_ast.specs.Tree.{Tree, listed}
use Rattle.cal_ast.specs.View.{function_tree, port_tree, procedure_tree}
use Rattle.cal_ast.specs.declared.member.Function.{Function}
use Rattle.cal_ast.specs.declared.member.Procedure.{Procedure}
use Rattle.cal_model.specs.Actor.{Fun, Proc}
use Rattle.cal_model.specs.Kinding.{Judged, Fine, Broken, Names}
use Rattle.cal_model.specs.Rates.{parts}
use Rattle.cal_model.specs.Sound.{Each, max_ports}
use Rattle.cal_check.proofs.Lists.{each-append, head-or-rest, in-none}
use Rattle.cal_check.specs.Variables.{Found, found_in}
use Rattle.cal_check.specs.Violations.{Keyed, Violation, all_broken, broken, is_met, said, twice, unless, violation, without_constants}
use Rattle.cal_check.specs.Actors.{Source, formals_broken, ins_of, outs_of, place_of, procs_in}
use Rattle.cal_check.specs.Ports.{each_port, keyed_ports, port_judged}
use Rattle.cal_check.specs.Routines.{formals_judged, fun_judged, head_judged, proc_judged}
use Rattle.check_member.specs.Parts.{bare_header_broken}
use Rattle.check_given.specs.Causes.{IsCause, SaysRule}
use Rattle.check_actor.specs.Sifting.{IsLack, IsLeft, Sifts, SiftsOn, bare_over}
use Rattle.check_actor.specs.Phases.{header_over}
use Rattle.check_actor.proofs.Causes.{cause_in_first, cause_in_others, found_of}
use Rattle.check_actor.proofs.Heads.{first_is_fine}

pub rule_of : (r : Rule) → (r.0 == not_constant.0) ≡ true → r ≡ not_constant
rule_of r e =
    let same : r.0 ≡ not_constant.0 = grind (arith, nat_tests) in
    ap (λ n. record { 0 = n }) same

pub few_broken : {A : Type 0} (j : Judged A) → length (broken j) ≤ 1
few_broken (Fine a) = omega arith
few_broken (Broken rule at) = omega arith

-- of at most one rule that is broken
one_lacks : (file : ℕ) (vs : List Violation) (v : Violation) → length vs ≤ 1 → v.rule ≡ not_constant → Contains vs v → Each IsLack (found_in file vs)
one_lacks file [] v few e h = tt
one_lacks file (x ∷ []) v few e h = go (head-or-rest v x [] h)
  where
    go : (x ≡ v) ⊎ Contains [] v → Each IsLack (found_in file (x ∷ []))
    go (inl same) = (ap (λ y. y.rule) same ∙ e, tt)
    go (inr none) = absurd (in-none v none)
one_lacks file (x ∷ y ∷ vs) v few e h = absurd (omega (arith, few))

pub passes : (file : ℕ) (vs : List Violation) (rule : Rule) (at : ℕ) → length vs ≤ 1 → (rule.0 == not_constant.0) ≡ true
    → Contains vs (record { rule = rule; at = at }) → Each IsLack (found_in file vs)
passes file vs rule at few e h = one_lacks file vs (record { rule = rule; at = at }) few (rule_of rule e) h

-- ---- lists

pub none_lack : (fs : List Found) → fs ≡ [] → Each IsLack fs
none_lack fs e = subst (Each IsLack) (sym e) tt

pub found_append : (file : ℕ) (vs ws : List Violation) → found_in file (vs ++ ws) ≡ found_in file vs ++ found_in file ws
found_append file [] ws = refl
found_append file (v ∷ vs) ws = ap (λ fs. record { violation = v; file = file } ∷ fs) (found_append file vs ws)

pub left_all : (all : List Found) → IsLeft all all
left_all all = record { only = λ h. h; cause = λ f h. h }

pub left_more : (xs ys all : List Found) → Each IsLack xs → IsLeft (xs ++ ys) all → IsLeft ys all
left_more xs ys all h i = record {
  only = λ k. i.only (each-append IsLack xs ys h k);
  cause = λ f k. i.cause f (cause_in_others f xs ys k);
}

pub refused_left : (f : Front) (xs ys all : List Found) → IsCause f xs × SaysRule f → IsLeft (xs ++ ys) all → IsCause f all × SaysRule f
refused_left f xs ys all h i = (i.cause f (cause_in_first f xs ys h.0), h.1)

pub sifts_on : (r : Result (Unit {0}) Front) (xs ys : List Found) → Sifts r xs → SiftsOn r ys (xs ++ ys)
sifts_on (Ok u) xs ys h = left_more xs ys (xs ++ ys) h (left_all (xs ++ ys))
sifts_on (Err f) xs ys h = (cause_in_first f xs ys h.0, h.1)

-- in a file
pub sifts_in : (r : Result (Unit {0}) Front) (file : ℕ) (vs ws : List Violation) → Sifts r (found_in file vs) → SiftsOn r (found_in file ws) (found_in file (vs ++ ws))
sifts_in r file vs ws h = subst (SiftsOn r (found_in file ws)) (sym (found_append file vs ws)) (sifts_on r (found_in file vs) (found_in file ws) h)

pub sifts_both : (r : Result (Unit {0}) Front) (xs ys : List Found) → Each IsLack xs → Sifts r ys → Sifts r (xs ++ ys)
sifts_both (Ok u) xs ys h s = each-append IsLack xs ys h s
sifts_both (Err f) xs ys h s = (cause_in_others f xs ys s.0, s.1)

pub first_refused : (f : Front) (xs ys : List Found) → IsCause f xs × SaysRule f → IsCause f (xs ++ ys) × SaysRule f
first_refused f xs ys h = (cause_in_first f xs ys h.0, h.1)

-- of a call that passes over what isn't constant
pub lacks_found : (file : ℕ) (vs : List Violation) → said true vs ≡ [] → Each IsLack (found_in file vs)
lacks_found file [] h = tt
lacks_found file (v ∷ vs) h = go (v.rule.0 == not_constant.0) refl h (λ i. lacks_found file vs i)
  where
    go : (b : Bool) → (v.rule.0 == not_constant.0) ≡ b → (if b then without_constants vs else v ∷ without_constants vs) ≡ []
        → (without_constants vs ≡ [] → Each IsLack (found_in file vs)) → Each IsLack (found_in file (v ∷ vs))
    go true e i k = (rule_of v.rule e, k i)
    go false e i k = absurd (cc)

-- ---- heads

pub head_fine : (full : List ℕ) (d : Function) (names : Names) (b : Fun) → fun_judged full (function_tree d) names ≡ Fine b
    → broken (head_judged (function_tree d) names) ≡ []
head_fine full d names b judged = first_is_fine (head_judged (function_tree d) names) _ b judged

pub port_fine : {A : Type 0} (a : A) (j : Judged A) → j ≡ Fine a → broken j ≡ []
port_fine a j h = ap broken h

pub lacks_none : (file : ℕ) (vs : List Violation) → vs ≡ [] → Each IsLack (found_in file vs)
lacks_none file vs e = none_lack _ (ap (found_in file) e)

pub formals_few : (p : Procedure) (names : Names) → length (formals_broken (procedure_tree p ∷ []) names) ≤ 1
formals_few p names =
    subst (λ vs. length vs ≤ 1) (sym (append-nil (broken (formals_judged (listed (map port_tree p.formals.items)) names))))
    (few_broken (formals_judged (listed (map port_tree p.formals.items)) names))

pub formals_fine : (p : Procedure) (names : Names) (b : Proc) → proc_judged (procedure_tree p) names ≡ Fine b → formals_broken (procedure_tree p ∷ []) names ≡ []
formals_fine p names b judged =
    ap (λ vs. vs ++ []) (first_is_fine (formals_judged (listed (map port_tree p.formals.items)) names) _ b judged)

pub member_sifted : (r : Result (Unit {0}) Front) (file : ℕ) (p : Procedure) (more : Tree) (names : Names) → Sifts r (found_in file (formals_broken (procedure_tree p ∷ []) names))
    → SiftsOn r (found_in file (formals_broken (procs_in more) names)) (found_in file (formals_broken (procs_in (tree.cons (procedure_tree p) more)) names))
member_sifted r file p more names h =
    sifts_in r file (broken (formals_judged (listed (map port_tree p.formals.items)) names)) (formals_broken (procs_in more) names)
    (subst (λ vs. Sifts r (found_in file vs)) (append-nil (broken (formals_judged (listed (map port_tree p.formals.items)) names))) h)

-- ---- the header

pub port_sifted : (r : Result (Unit {0}) Front) (file : ℕ) (p more : Tree) (names : Names) → Sifts r (found_in file (broken (port_judged p names)))
    → SiftsOn r (found_in file (all_broken (each_port more names))) (found_in file (all_broken (each_port (tree.cons p more) names)))
port_sifted r file p more names h = sifts_in r file (broken (port_judged p names)) (all_broken (each_port more names)) h

-- rules that are said whatever else is broken
abbrev IsSaidRule : Violation → Type 0
IsSaidRule v = (v.rule.0 == not_constant.0) ≡ false

twice_said : (met : List (List ℕ)) (xs : List (Keyed (List ℕ))) → Each IsSaidRule (twice bytes_eq port_named_twice met xs)
twice_said met [] = tt
twice_said met (x ∷ xs) = go (is_met bytes_eq x.key met) (twice_said met xs) (twice_said (x.key ∷ met) xs)
  where
    go : (b : Bool) → Each IsSaidRule (twice bytes_eq port_named_twice met xs) → Each IsSaidRule (twice bytes_eq port_named_twice (x.key ∷ met) xs)
        → Each IsSaidRule (if b then violation port_named_twice x.at ++ twice bytes_eq port_named_twice met xs else twice bytes_eq port_named_twice (x.key ∷ met) xs)
    go true h i = (refl, h)
    go false h i = i

unless_said : (b : Bool) (at : ℕ) → Each IsSaidRule (unless b too_many_ports at)
unless_said true at = tt
unless_said false at = (refl, tt)

bare_said : (ins outs : Tree) (at : ℕ) → Each IsSaidRule (bare_header_broken ins outs at)
bare_said ins outs at =
    each-append IsSaidRule (twice bytes_eq port_named_twice [] (keyed_ports ins ++ keyed_ports outs)) _ (twice_said [] (keyed_ports ins ++ keyed_ports outs))
    (each-append IsSaidRule (unless (nat_le (parts ins) max_ports) too_many_ports at) _ (unless_said (nat_le (parts ins) max_ports) at)
    (unless_said (nat_le (parts outs) max_ports) at))

each_there : (vs : List Violation) (v : Violation) → Each IsSaidRule vs → Contains vs v → IsSaidRule v
each_there [] v h c = absurd (in-none v c)
each_there (x ∷ vs) v h c = go (head-or-rest v x vs c) (λ i. each_there vs v h.1 i)
  where
    go : (x ≡ v) ⊎ Contains vs v → (Contains vs v → IsSaidRule v) → IsSaidRule v
    go (inl e) k = subst IsSaidRule e h.0
    go (inr i) k = k i

pub bare_refused : (file : ℕ) (ins outs : Tree) (at place : ℕ) (rule : Rule) → Contains (bare_header_broken ins outs at) (record { rule = rule; at = place })
    → Sifts (Err (front.Refused (record { rule = rule; place = record { file = file; offset = place } }))) (found_in file (bare_header_broken ins outs at))
bare_refused file ins outs at place rule h = (
  found_of file (bare_header_broken ins outs at) (record { rule = rule; at = place }) h,
  each_there (bare_header_broken ins outs at) (record { rule = rule; at = place }) (bare_said ins outs at) h,
)

header_parts : (file : ℕ) (xs ys zs : List Violation) → found_in file (xs ++ (ys ++ zs)) ≡ found_in file xs ++ (found_in file ys ++ found_in file zs)
header_parts file xs ys zs = found_append file xs (ys ++ zs) ∙ ap (λ fs. found_in file xs ++ fs) (found_append file ys zs)

pub header_sifted : (r : Result (Unit {0}) Front) (s : Source) (names : Names) → Each IsLack (found_in s.file (all_broken (each_port (ins_of s.actor) names)))
    → Each IsLack (found_in s.file (all_broken (each_port (outs_of s.actor) names))) → Sifts r (bare_over s) → Sifts r (header_over s names)
header_sifted r s names ins outs bare =
    subst (Sifts r) (sym (header_parts s.file (all_broken (each_port (ins_of s.actor) names)) (all_broken (each_port (outs_of s.actor) names))
    (bare_header_broken (ins_of s.actor) (outs_of s.actor) (place_of s.actor))))
    (sifts_both r _ _ ins (sifts_both r _ _ outs bare))

pub ins_refused : (f : Front) (s : Source) (names : Names) → IsCause f (found_in s.file (all_broken (each_port (ins_of s.actor) names))) × SaysRule f
    → Sifts (Err f) (header_over s names)
ins_refused f s names h =
    subst (Sifts (Err f)) (sym (header_parts s.file (all_broken (each_port (ins_of s.actor) names)) (all_broken (each_port (outs_of s.actor) names))
    (bare_header_broken (ins_of s.actor) (outs_of s.actor) (place_of s.actor)))) (first_refused f _ _ h)

pub outs_refused : (f : Front) (s : Source) (names : Names) → IsCause f (found_in s.file (all_broken (each_port (outs_of s.actor) names))) × SaysRule f
    → Sifts (Err f) (header_over s names)
outs_refused f s names h =
    subst (Sifts (Err f)) (sym (header_parts s.file (all_broken (each_port (ins_of s.actor) names)) (all_broken (each_port (outs_of s.actor) names))
    (bare_header_broken (ins_of s.actor) (outs_of s.actor) (place_of s.actor))))
    (cause_in_others f (found_in s.file (all_broken (each_port (ins_of s.actor) names))) _ (cause_in_first f _ _ h.0), h.1)
