-- Ports that patterns and outputs name, and what they send and take.
use Rattle.std.proofs.Common.{◌≡◌, ℕ, suc, ◌+◌, ◌<◌, ◌≤◌, Bool, true, false, List, [], ◌∷◌, ◌++◌, length, map, ℤ, pos, negsuc, refl, sym, ap, subst, ◌∙◌, arith, Option, None, Some}
use Rattle.std.specs.Prelude.{if◌then◌else◌, nat_le, nat_lt, ◌&&◌}
use Rattle.std.specs.Str.{bytes_eq}
use Rattle.std.proofs.lemmas.Bool.{ltb-true}
use Rattle.rvc_base.specs.Rules.{unknown_name, wrong_kind, wrong_ports, wrong_repeat, port_named_twice}
use Rattle.rvc_base.specs.declared.scalar.Scalar.{Scalar}
use Rattle.cal_ast.specs.Tree as tree
use Rattle.cal_ast.specs.Tree.{Tree}
use Rattle.cal_model.specs.Value.{Kind}
use Rattle.cal_model.specs.Actor.{Actor, Port, Pattern, Output}
use Rattle.cal_model.specs.Rates.{parts, parts_times}
use Rattle.cal_model.specs.Selection.{kind_of_port}
use Rattle.cal_model.specs.Kinding.{Fine, Names, and_so, kind, kinds, constant_number}
use Rattle.cal_model.specs.Sound.{AreAll, AreDistinct, Each, IsOutput, IsPattern, IsRepeat, kind_of_tokens, max_rate}
use Rattle.cal_model.proofs.KindValues.{not-fine, fine-is, split, tested, both}
use Rattle.cal_check.specs.Violations.{all_broken}
use Rattle.cal_check.specs.Constants.{stored_kind}
use Rattle.cal_check.specs.Written.{written}
use Rattle.cal_check.specs.Ports.{Asked, each_asked, is_named, keyed_numbers, named_port, number_from, numbers_twice, port_of, ports_asked, ports_from}
use Rattle.cal_check.specs.Actions.{names_listed, output_judged, outputs_broken, outputs_fine, outputs_if, outputs_on, pattern_judged, patterns_broken, patterns_fine, patterns_if, patterns_on, rate_judged, repeat_judged, repeat_of, values_judged}
use Rattle.cal_check.specs.Laws.{ConstantsFit}
use Rattle.cal_check.proofs.Fine.{all-fine, if-none, none-of, stored-is}
use Rattle.cal_check.proofs.Distinct.{distinct-numbers}
use Rattle.cal_check.proofs.PlainTrees.{all-plain}
use Rattle.cal_check.proofs.KeptKinds.{all-kept}

-- ---- numbers of ports

nat-lt : (n m : ℕ) → nat_lt n m ≡ true → n < m
nat-lt n m h = ltb-true n m h

number-step : (b : Bool) (k p n : ℕ) (o : Option ℕ) → (if b then Some k else o) ≡ Some p → (o ≡ Some p → p < suc k + n) → p < k + suc n
number-step true k p n o h f = let same : k ≡ p = cc in omega arith
number-step false k p n o h f = let inside : p < suc k + n = f h in omega arith

number-inside : (k : ℕ) (name : List ℕ) (ports : List Port) (p : ℕ) → number_from k name ports ≡ Some p → p < k + length ports
number-inside k name [] p h = absurd (cc)
number-inside k name (x ∷ xs) p h =
    number-step (bytes_eq x.name name) k p (length xs) (number_from (suc k) name xs) h (λ e. number-inside (suc k) name xs p e)

named-inside : (o : Option ℕ) (at p : ℕ) → named_port o at ≡ Fine p → o ≡ Some p
named-inside None at p h = absurd (not-fine unknown_name at p h)
named-inside (Some q) at p h = ap Some (fine-is q p h)

port-inside : (named : Bool) (k : ℕ) (a : Asked) (o : Option (List ℕ)) (ports : List Port) (p : ℕ) → port_of named k a o ports ≡ Fine p → p < length ports
port-inside true k a (Some name) ports p h =
    let inside : p < 0 + length ports = number-inside 0 name ports p (named-inside (number_from 0 name ports) a.at p h) in omega arith
port-inside true k a None ports p h = absurd (not-fine wrong_ports a.at p h)
port-inside false k a (Some name) ports p h = absurd (not-fine wrong_ports a.at p h)
port-inside false k a None ports p h =
    let t = tested (nat_lt k (length ports)) (Fine k) wrong_ports a.at p h in
    subst (λ q. q < length ports) (fine-is k p t.1) (nat-lt k (length ports) t.0)

-- a number for each part that asks
abbrev pub AreAsMany : List Asked → List ℕ → Type 0
AreAsMany [] [] = Unit {0}
AreAsMany (a ∷ rest) (n ∷ numbers) = AreAsMany rest numbers
AreAsMany [] (n ∷ numbers) = ⊥
AreAsMany (a ∷ rest) [] = ⊥

-- each is one of the ports, and they are as many as the parts that ask
record AreInside (asked : List Asked) (ports : List Port) (numbers : List ℕ) : Type 0 where
  pub each : Each (λ p. p < length ports) numbers
  pub many : AreAsMany asked numbers
  pub count : map (λ x. x.key) (keyed_numbers numbers asked) ≡ numbers

are-inside : (named : Bool) (k : ℕ) (asked : List Asked) (ports : List Port) (numbers : List ℕ) → ports_from named k asked ports ≡ Fine numbers → AreInside asked ports numbers
are-inside named k [] ports numbers h = subst (λ ns. AreInside [] ports ns) (fine-is [] numbers h) (record { each = tt; many = tt; count = refl })
are-inside named k (a ∷ rest) ports numbers h =
    let p = split (port_of named k a a.name ports) (λ p. and_so (ports_from named (suc k) rest ports) (λ ps. Fine (p ∷ ps))) numbers h in
    let ps = split (ports_from named (suc k) rest ports) (λ ps. Fine (p.0 ∷ ps)) numbers p.2 in
    let more = are-inside named (suc k) rest ports ps.0 ps.1 in
    subst (λ ns. AreInside (a ∷ rest) ports ns) (fine-is (p.0 ∷ ps.0) numbers ps.2)
    (record { each = (port-inside named k a a.name ports p.0 p.1, more.each); many = more.many; count = ap (λ ns. p.0 ∷ ns) more.count })

-- .. and none stands twice
pub record AreAsked (asked : List Asked) (ports : List Port) (numbers : List ℕ) : Type 0 where
  pub inside : Each (λ p. p < length ports) numbers
  pub many : AreAsMany asked numbers
  pub distinct : AreDistinct numbers

pub are-asked : (asked : List Asked) (ports : List Port) (numbers : List ℕ) → ports_asked asked ports ≡ Fine numbers → numbers_twice numbers asked ≡ [] → AreAsked asked ports numbers
are-asked asked ports numbers h i =
    let a = are-inside (is_named asked) 0 asked ports numbers h in
    record { inside = a.each; many = a.many; distinct = subst (λ ns. AreDistinct ns) a.count (distinct-numbers port_named_twice (keyed_numbers numbers asked) i) }

-- ---- repeats

repeat-is : (z : ℤ) (at : ℕ) (n : Option ℕ) → repeat_of z at ≡ Fine n → IsRepeat n
repeat-is (pos m) at n h =
    let t = tested (nat_le 1 m && nat_le m max_rate) (Fine (Some m)) wrong_repeat at n h in
    let b = both (nat_le 1 m) (nat_le m max_rate) t.0 in
    let least : 1 ≤ m = grind arith in
    subst (λ o. IsRepeat o) (fine-is (Some m) n t.1) least
repeat-is (negsuc m) at n h = absurd (not-fine wrong_repeat at n h)

is-repeat : (repeat : Tree) (at : ℕ) (names : Names) (n : Option ℕ) → repeat_judged repeat at names ≡ Fine n → IsRepeat n
is-repeat (tree.present e) at names n h =
    let z = split (constant_number (kind e names) e names) (λ z. repeat_of z at) n h in
    repeat-is z.0 at n z.2
is-repeat other at names n h = subst (λ o. IsRepeat o) (fine-is None n h) tt

-- ---- patterns

pattern-is : (p : Tree) (port : ℕ) (names : Names) (q : Pattern) → pattern_judged p port names ≡ Fine q → (q.port ≡ port) × IsRepeat q.repeat
pattern-is (tree.pattern asked variables repeat at) port names q h =
    let n = split (repeat_judged repeat at names) (λ n. rate_judged (parts variables) n (record { port = port; names = names_listed variables; repeat = n }) at) q h in
    let made : Pattern = record { port = port; names = names_listed variables; repeat = n.0 } in
    let t = tested (nat_le (parts_times (parts variables) n.0) max_rate) (Fine made) wrong_repeat at q n.2 in
    subst (λ r. (r.port ≡ port) × IsRepeat r.repeat) (fine-is made q t.1) (refl, is-repeat repeat at names n.0 n.1)
pattern-is other port names q h = absurd (not-fine wrong_repeat 0 q h)

-- patterns on these ports, none of which breaks a rule
are-patterns : (ps : Tree) (actor : Actor) (numbers : List ℕ) (names : Names) (qs : List Pattern) → Each (λ p. p < length actor.ins) numbers
    → AreAsMany (each_asked ps) numbers → patterns_on ps numbers names ≡ map Fine qs → Each (IsPattern actor) qs × (map (λ q. q.port) qs ≡ numbers)
are-patterns (tree.cons p ps) actor (port ∷ numbers) names (q ∷ qs) inside m h =
    let e : pattern_judged p port names ≡ Fine q = cc in
    let more : patterns_on ps numbers names ≡ map Fine qs = cc in
    let is = pattern-is p port names q e in
    let rest = are-patterns ps actor numbers names qs inside.1 m more in (
      (record { port = subst (λ n. n < length actor.ins) (sym is.0) inside.0; repeat = is.1 }, rest.0),
      ap (λ n. n ∷ map (λ q. q.port) qs) is.0 ∙ ap (λ ns. port ∷ ns) rest.1,
    )
are-patterns (tree.cons p ps) actor (port ∷ numbers) names [] inside m h = absurd (cc)
are-patterns (tree.cons p ps) actor [] names qs inside m h = absurd m
are-patterns other actor [] names [] inside m h = (tt, refl)
are-patterns other actor [] names (q ∷ qs) inside m h = absurd (cc)
are-patterns other actor (n ∷ numbers) names qs inside m h = absurd m

-- the patterns of an action
pub record ArePatterns (ps : Tree) (actor : Actor) (names : Names) (qs : List Pattern) : Type 0 where
  pub found : patterns_fine ps actor.ins names ≡ Some qs
  pub each : Each (IsPattern actor) qs
  pub distinct : AreDistinct (map (λ q. q.port) qs)

pub patterns-sound : (ps : Tree) (actor : Actor) (names : Names) → patterns_broken ps actor.ins names ≡ [] → (qs : List Pattern) × ArePatterns ps actor names qs
patterns-sound ps actor names h =
    let n = if-none (ports_asked (each_asked ps) actor.ins) (λ numbers. numbers_twice numbers (each_asked ps) ++ all_broken (patterns_on ps numbers names)) h in
    let two = none-of (numbers_twice n.0 (each_asked ps)) (all_broken (patterns_on ps n.0 names)) n.2 in
    let a = are-asked (each_asked ps) actor.ins n.0 n.1 two.0 in
    let qs = all-fine (patterns_on ps n.0 names) two.1 in
    let s = are-patterns ps actor n.0 names qs.0 a.inside a.many qs.1 in (
      qs.0,
      record {
        found = ap (λ j. patterns_if j ps names) n.1 ∙ qs.2;
        each = s.0;
        distinct = subst (λ ns. AreDistinct ns) (sym s.1) a.distinct;
      },
    )

-- ---- outputs

-- values of which each has this kind
all-of-kind : (k : Kind) (es : Tree) (names : Names) (ks : List Kind) (u : Unit {0}) → kinds es names ≡ Fine ks → values_judged k es names ≡ Fine u → AreAll k ks
all-of-kind k tree.nil names ks u h i = subst (λ ls. AreAll k ls) (fine-is [] ks h) tt
all-of-kind k (tree.cons e es) names ks u h i =
    let p = split (kind e names) (λ l. and_so (kinds es names) (λ ls. Fine (l ∷ ls))) ks h in
    let q = split (kinds es names) (λ ls. Fine (p.0 ∷ ls)) ks p.2 in
    let s = split (stored_kind k e names) (λ found. values_judged k es names) u i in
    let fine : kind e names ≡ Fine k = stored-is k s.0 e names s.1 in
    let same : p.0 ≡ k = fine-is p.0 k (sym p.1 ∙ fine) in
    subst (λ ls. AreAll k ls) (fine-is (p.0 ∷ q.0) ks q.2) (same, all-of-kind k es names q.0 u q.1 s.2)
all-of-kind k other names ks u h i = absurd (not-fine wrong_kind 0 ks h)

output-is : (o : Tree) (port : ℕ) (actor : Actor) (names : Names) (out : Output) → ConstantsFit names → port < length actor.outs
    → output_judged o port (kind_of_port actor.outs port) names ≡ Fine out → IsOutput actor names out × (out.port ≡ port)
output-is (tree.output asked values repeat at) port actor names out fit inside h =
    let t : Scalar = kind_of_port actor.outs port in
    let ks = split (kinds values names) _ out h in
    let n = split (repeat_judged repeat at names) _ out ks.2 in
    let u = split (values_judged (kind_of_tokens t n.0) values names) _ out n.2 in
    let made : Output = record { port = port; values = written values names; repeat = n.0 } in
    let r = tested (nat_le (parts_times (parts values) n.0) max_rate) (Fine made) wrong_repeat at out u.2 in
    subst (λ x. IsOutput actor names x × (x.port ≡ port)) (fine-is made out r.1) (
      record {
        port = inside;
        repeat = is-repeat repeat at names n.0 n.1;
        found = ks.0;
        kinds = all-kept values names ks.0 fit ks.1;
        each = all-of-kind (kind_of_tokens t n.0) values names ks.0 u.0 ks.1 u.1;
        plain = all-plain values names ks.0 ks.1;
      },
      refl,
    )
output-is other port actor names out fit inside h = absurd (not-fine wrong_repeat 0 out h)

are-outputs : (os : Tree) (actor : Actor) (numbers : List ℕ) (names : Names) (outs : List Output) → ConstantsFit names → Each (λ p. p < length actor.outs) numbers
    → AreAsMany (each_asked os) numbers → outputs_on os numbers actor.outs names ≡ map Fine outs → Each (IsOutput actor names) outs × (map (λ o. o.port) outs ≡ numbers)
are-outputs (tree.cons o os) actor (port ∷ numbers) names (out ∷ outs) fit inside m h =
    let e : output_judged o port (kind_of_port actor.outs port) names ≡ Fine out = cc in
    let more : outputs_on os numbers actor.outs names ≡ map Fine outs = cc in
    let is = output-is o port actor names out fit inside.0 e in
    let rest = are-outputs os actor numbers names outs fit inside.1 m more in
    ((is.0, rest.0), ap (λ n. n ∷ map (λ o. o.port) outs) is.1 ∙ ap (λ ns. port ∷ ns) rest.1)
are-outputs (tree.cons o os) actor (port ∷ numbers) names [] fit inside m h = absurd (cc)
are-outputs (tree.cons o os) actor [] names outs fit inside m h = absurd m
are-outputs other actor [] names [] fit inside m h = (tt, refl)
are-outputs other actor [] names (out ∷ outs) fit inside m h = absurd (cc)
are-outputs other actor (n ∷ numbers) names outs fit inside m h = absurd m

-- the outputs of an action
pub record AreOutputs (os : Tree) (actor : Actor) (names : Names) (outs : List Output) : Type 0 where
  pub found : outputs_fine os actor.outs names ≡ Some outs
  pub each : Each (IsOutput actor names) outs
  pub distinct : AreDistinct (map (λ o. o.port) outs)

pub outputs-sound : (os : Tree) (actor : Actor) (names : Names) → ConstantsFit names → outputs_broken os actor.outs names ≡ [] → (outs : List Output) × AreOutputs os actor names outs
outputs-sound os actor names fit h =
    let n = if-none (ports_asked (each_asked os) actor.outs) (λ numbers. numbers_twice numbers (each_asked os) ++ all_broken (outputs_on os numbers actor.outs names)) h in
    let two = none-of (numbers_twice n.0 (each_asked os)) (all_broken (outputs_on os n.0 actor.outs names)) n.2 in
    let a = are-asked (each_asked os) actor.outs n.0 n.1 two.0 in
    let outs = all-fine (outputs_on os n.0 actor.outs names) two.1 in
    let s = are-outputs os actor n.0 names outs.0 fit a.inside a.many outs.1 in (
      outs.0,
      record {
        found = ap (λ j. outputs_if j os actor.outs names) n.1 ∙ outs.2;
        each = s.0;
        distinct = subst (λ ns. AreDistinct ns) (sym s.1) a.distinct;
      },
    )
