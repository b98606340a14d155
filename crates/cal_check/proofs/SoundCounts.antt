-- How many tokens actions take and give, and that one of them at most is an `initialize`.
use Rattle.std.proofs.Common.{◌≡◌, ℕ, zero, suc, ◌+◌, ◌*◌, ◌≤◌, Bool, true, false, List, [], ◌∷◌, ◌++◌, map, length, refl, sym, ap, subst, ◌∙◌, arith, Option, Some}
use Rattle.std.specs.Prelude.{if◌then◌else◌, ◌==◌, nat_le, slice_get}
use Rattle.std.proofs.lemmas.Bool.{leb-true}
use Rattle.rvc_base.specs.Rules.{wrong_initialize, wrong_repeat}
use Rattle.rvc_base.specs.declared.scalar.Scalar.{Scalar}
use Rattle.cal_ast.specs.Tree as tree
use Rattle.cal_ast.specs.Tree.{Tree}
use Rattle.cal_model.specs.Actor.{Action, Held, Output, Pattern, Port}
use Rattle.cal_model.specs.Value.{scalars_of_type}
use Rattle.cal_model.specs.Kinding.{Fine, Names, kinds}
use Rattle.cal_model.specs.Rates.{given_on, parts, parts_times, taken_on, times}
use Rattle.cal_model.specs.Selection.{kind_of_port}
use Rattle.cal_model.specs.Sound.{Each, kind_of_tokens, max_rate, scalars_of_vars}
use Rattle.cal_model.proofs.KindValues.{fine-is, not-fine, split, tested}
use Rattle.cal_check.specs.Actions.{Around, action_of, names_listed, output_judged, outputs_on, pattern_judged, patterns_on, repeat_judged, values_judged}
use Rattle.cal_check.specs.Actors.{actions_of, initialized_twice, is_initialize, place_of_action, scalars_of}
use Rattle.cal_check.specs.Violations.{violation}
use Rattle.cal_check.specs.Written.{written}

-- ---- one `initialize`

is-kept : (a : Tree) (around : Around) → (action_of a around).initialize ≡ is_initialize a
is-kept (tree.action tagged initialize ins outs guards vars body at) around = refl
is-kept other around = refl

not-both : (b : Bool) → b ≡ true → b ≡ false → ⊥
not-both b h i = let e : true ≡ false = sym h ∙ i in absurd (cc)

none-more : (b : Bool) (a : Tree) (acts : List Tree) → ((if b then violation wrong_initialize (place_of_action a) else []) ++ initialized_twice true acts) ≡ [] → (b ≡ false) × (initialized_twice true acts ≡ [])
none-more true a acts h = absurd (cc)
none-more false a acts h = (refl, h)

-- behind an `initialize` there is none
none-behind : (acts : List Tree) (around : Around) (i : ℕ) (act : Action) → initialized_twice true acts ≡ [] → slice_get (actions_of acts around) i ≡ Some act → act.initialize ≡ true → ⊥
none-behind [] around i act h e t = absurd (cc)
none-behind (a ∷ acts) around zero act h e t =
    let p = none-more (is_initialize a) a acts h in
    let same : action_of a around ≡ act = cc in
    not-both (is_initialize a) (sym (is-kept a around) ∙ ap (λ x. x.initialize) same ∙ t) p.0
none-behind (a ∷ acts) around (suc i) act h e t =
    none-behind acts around i act (none-more (is_initialize a) a acts h).1 e t

pub one-initialize : (acts : List Tree) (around : Around) (i j : ℕ) (act other : Action) → initialized_twice false acts ≡ []
    → slice_get (actions_of acts around) i ≡ Some act → slice_get (actions_of acts around) j ≡ Some other → act.initialize ≡ true → other.initialize ≡ true → i ≡ j
one-initialize [] around i j act other h e f s t = absurd (cc)
one-initialize (a ∷ acts) around zero zero act other h e f s t = refl
one-initialize (a ∷ acts) around zero (suc j) act other h e f s t =
    let same : action_of a around ≡ act = cc in
    let first : is_initialize a ≡ true = sym (is-kept a around) ∙ ap (λ x. x.initialize) same ∙ s in
    absurd (none-behind acts around j other (subst (λ b. initialized_twice b acts ≡ []) first h) f t)
one-initialize (a ∷ acts) around (suc i) zero act other h e f s t =
    let same : action_of a around ≡ other = cc in
    let first : is_initialize a ≡ true = sym (is-kept a around) ∙ ap (λ x. x.initialize) same ∙ t in
    absurd (none-behind acts around i act (subst (λ b. initialized_twice b acts ≡ []) first h) e s)
one-initialize (a ∷ acts) around (suc i) (suc j) act other h e f s t =
    ap suc (go (is_initialize a) h (λ g. one-initialize acts around i j act other g e f s t))
  where
    go : (b : Bool) → initialized_twice b acts ≡ [] → (initialized_twice false acts ≡ [] → i ≡ j) → i ≡ j
    go true g ih = absurd (none-behind acts around i act g e s)
    go false g ih = ih g

-- ---- what a pattern takes

named-few : (variables : Tree) → length (names_listed variables) ≤ parts variables
named-few (tree.cons (tree.ident name place) rest) = let few = named-few rest in omega (arith, few)
named-few other = omega arith

few-times : (n m : ℕ) (repeat : Option ℕ) → n ≤ m → parts_times m repeat ≤ max_rate → parts_times n repeat ≤ max_rate
few-times n m repeat h l = more n m (times repeat) h l
  where
    more : (n m k : ℕ) → n ≤ m → m * k ≤ max_rate → n * k ≤ max_rate
    more n m k h l = grind (arith, h, l)

abbrev pub TakesFew : Pattern → Type 0
TakesFew q = parts_times (length q.names) q.repeat ≤ max_rate

abbrev pub GivesFew : Output → Type 0
GivesFew o = parts_times (parts o.values) o.repeat ≤ max_rate

few-taken : (p : Tree) (port : ℕ) (names : Names) (q : Pattern) → pattern_judged p port names ≡ Fine q → TakesFew q
few-taken (tree.pattern asked variables repeat at) port names q h =
    let n = split (repeat_judged repeat at names) _ q h in
    let made : Pattern = record { port = port; names = names_listed variables; repeat = n.0 } in
    let t = tested (nat_le (parts_times (parts variables) n.0) max_rate) (Fine made) wrong_repeat at q n.2 in
    subst TakesFew (fine-is made q t.1)
    (few-times (length (names_listed variables)) (parts variables) n.0 (named-few variables) (leb-true (parts_times (parts variables) n.0) max_rate t.0))
few-taken other port names q h = absurd (not-fine wrong_repeat 0 q h)

pub all-few-taken : (ps : Tree) (numbers : List ℕ) (names : Names) (qs : List Pattern) → patterns_on ps numbers names ≡ map Fine qs → Each TakesFew qs
all-few-taken (tree.cons p ps) (port ∷ numbers) names (q ∷ qs) h =
    let e : pattern_judged p port names ≡ Fine q = cc in
    let more : patterns_on ps numbers names ≡ map Fine qs = cc in
    (few-taken p port names q e, all-few-taken ps numbers names qs more)
all-few-taken (tree.cons p ps) [] names (q ∷ qs) h = absurd (cc)
all-few-taken ps numbers names [] h = tt
all-few-taken other numbers names (q ∷ qs) h = absurd (cc)

pub taken-few : (port : ℕ) (qs : List Pattern) → Each TakesFew qs → taken_on port qs ≤ max_rate
taken-few port [] h = omega arith
taken-few port (q ∷ qs) h = go (q.port == port) (taken-few port qs h.1)
  where
    go : (b : Bool) → taken_on port qs ≤ max_rate → (if b then parts_times (length q.names) q.repeat else taken_on port qs) ≤ max_rate
    go true ih = h.0
    go false ih = ih

-- ---- what an output gives

as-many : (values : Tree) (names : Names) → parts (written values names) ≡ parts values
as-many (tree.cons v vs) names = ap suc (as-many vs names)
as-many other names = refl

few-given : (o : Tree) (port : ℕ) (t : Scalar) (names : Names) (out : Output) → output_judged o port t names ≡ Fine out → GivesFew out
few-given (tree.output asked values repeat at) port t names out h =
    let ks = split (kinds values names) _ out h in
    let n = split (repeat_judged repeat at names) _ out ks.2 in
    let u = split (values_judged (kind_of_tokens t n.0) values names) _ out n.2 in
    let made : Output = record { port = port; values = written values names; repeat = n.0 } in
    let r = tested (nat_le (parts_times (parts values) n.0) max_rate) (Fine made) wrong_repeat at out u.2 in
    subst GivesFew (fine-is made out r.1)
    (subst (λ k. parts_times k n.0 ≤ max_rate) (sym (as-many values names)) (leb-true (parts_times (parts values) n.0) max_rate r.0))
few-given other port t names out h = absurd (not-fine wrong_repeat 0 out h)

pub all-few-given : (os : Tree) (numbers : List ℕ) (ports : List Port) (names : Names) (outs : List Output) → outputs_on os numbers ports names ≡ map Fine outs → Each GivesFew outs
all-few-given (tree.cons o os) (port ∷ numbers) ports names (out ∷ outs) h =
    let e : output_judged o port (kind_of_port ports port) names ≡ Fine out = cc in
    let more : outputs_on os numbers ports names ≡ map Fine outs = cc in
    (few-given o port (kind_of_port ports port) names out e, all-few-given os numbers ports names outs more)
all-few-given (tree.cons o os) [] ports names (out ∷ outs) h = absurd (cc)
all-few-given os numbers ports names [] h = tt
all-few-given other numbers ports names (out ∷ outs) h = absurd (cc)

pub given-few : (port : ℕ) (os : List Output) → Each GivesFew os → given_on port os ≤ max_rate
given-few port [] h = omega arith
given-few port (o ∷ os) h = go (o.port == port) (given-few port os h.1)
  where
    go : (b : Bool) → given_on port os ≤ max_rate → (if b then parts_times (parts o.values) o.repeat else given_on port os) ≤ max_rate
    go true ih = h.0
    go false ih = ih

-- ---- limits

pub count-actions : (acts : List Tree) (around : Around) → length (actions_of acts around) ≡ length acts
count-actions [] around = refl
count-actions (a ∷ acts) around = ap suc (count-actions acts around)

pub count-scalars : (vars : List Held) → scalars_of vars ≡ scalars_of_vars vars
count-scalars [] = refl
count-scalars (x ∷ vars) = ap (λ n. scalars_of_type x.shape + n) (count-scalars vars)
