-- What is written out uses what its source uses.
use Rattle.std.proofs.Common.{◌≡◌, ℕ, suc, Bool, true, false, List, [], ◌∷◌, ℤ, pos, negsuc, refl, ap, subst, Option, None, Some}
use Rattle.std.specs.Prelude.{if◌then◌else◌}
use Rattle.rvc_base.specs.declared.scalar.Scalar.{Scalar}
use Rattle.rvc_base.specs.Rules.{wrong_repeat}
use Rattle.rvc_base.specs.Width.{is_num}
use Rattle.cal_ast.specs.declared.expr.PrefixOp.TheVariants.{Neg}
use Rattle.cal_ast.specs.declared.expr.BinOp.TheVariants.{Sub}
use Rattle.cal_ast.specs.Places.{begins}
use Rattle.cal_ast.specs.Tree as tree
use Rattle.cal_ast.specs.Tree.{Tree}
use Rattle.cal_model.specs.Value.{Shape}
use Rattle.cal_model.specs.Actor.{Local, Output, Port}
use Rattle.cal_model.specs.Rates.{parts}
use Rattle.cal_model.specs.Selection.{kind_of_port}
use Rattle.cal_model.specs.Kinding.{Judged, Fine, Broken, Names, constant_number, counter, kind, kinds, with_counters, with_known}
use Rattle.cal_model.specs.Sound.{Each, kind_of_tokens}
use Rattle.cal_model.proofs.KindValues.{fine-is, not-fine, split}
use Rattle.cal_check.specs.Actions.{body_of, guards_written, output_judged, outputs_fine, outputs_if, outputs_on, rate_judged, repeat_judged, values_judged}
use Rattle.cal_check.specs.Ports.{each_asked, ports_asked}
use Rattle.cal_check.specs.Routines.{first_met, is_awaited, local_if, local_of, locals_before, locals_of, met_if, start_of, type_in, type_met}
use Rattle.cal_check.specs.Statements.{type_of_var}
use Rattle.cal_check.specs.Uses.{OnlyUses}
use Rattle.cal_check.specs.Violations.{all_fine, and_all, fine}
use Rattle.cal_check.specs.Written.{behind_vars, by_number, constant_written, gens_written, number_tree, statement_written, var_written, vars_written, with_inner, written}

-- ---- lists of parts

-- what holds of the start of a local, if it has one
abbrev pub OfStart : (Tree → Type 0) → Option Tree → Type 0
OfStart S None = Unit {0}
OfStart S (Some e) = S e

abbrev pub EachStart : (Tree → Type 0) → List Local → Type 0
EachStart S xs = Each (λ x. OfStart S x.start) xs

-- what holds of the values of outputs
abbrev pub OfValues : (Tree → Type 0) → Tree → Type 0
OfValues S (tree.output asked values repeat at) = S values
OfValues S other = Unit {0}

abbrev pub EachValues : (Tree → Type 0) → Tree → Type 0
EachValues S (tree.cons o os) = OfValues S o × EachValues S os
EachValues S other = Unit {0}

pub some-parts : {A : Type 0} (o : Option A) (p : Option (List A)) (xs : List A) → and_all o p ≡ Some xs → (x : A) × (rest : List A) × (o ≡ Some x) × (p ≡ Some rest) × (x ∷ rest ≡ xs)
some-parts None p xs h = absurd (cc)
some-parts (Some x) None xs h = absurd (cc)
some-parts (Some x) (Some rest) xs h = let e : x ∷ rest ≡ xs = cc in (x, rest, refl, refl, e)

pub fine-some : {A : Type 0} (j : Judged A) (x : A) → fine j ≡ Some x → j ≡ Fine x
fine-some (Fine y) x h = let e : y ≡ x = cc in ap Fine e
fine-some (Broken rule at) x h = absurd (cc)

-- what holds of what is written out holds of the values of each output
pub output-has : (S R : Tree → Type 0) (names : Names) → ((t : Tree) → S t → R (written t names)) → (o : Tree) (port : ℕ) (t : Scalar) (out : Output) → OfValues S o → output_judged o port t names ≡ Fine out → R out.values
output-has S R names f (tree.output asked values repeat at) port t out s h =
    let ks = split (kinds values names) _ out h in
    let n = split (repeat_judged repeat at names) _ out ks.2 in
    let v = split (values_judged (kind_of_tokens t n.0) values names) _ out n.2 in
    let made : Output = record { port = port; values = written values names; repeat = n.0 } in
    subst (λ x. R x.values) (rate-is (parts values) n.0 made out at v.2) (f values s)
  where
    rate-is : (count : ℕ) (n : Option ℕ) (made out : Output) (at : ℕ) → rate_judged count n made at ≡ Fine out → made ≡ out
    rate-is count n made out at h = go _ h
      where
        go : (b : Bool) → (if b then Fine made else Broken wrong_repeat at) ≡ Fine out → made ≡ out
        go true e = fine-is made out e
        go false e = absurd (not-fine wrong_repeat at out e)
output-has S R names f other port t out s h = absurd (not-fine wrong_repeat 0 out h)

outputs-on-have : (S R : Tree → Type 0) (names : Names) → ((t : Tree) → S t → R (written t names)) → (os : Tree) (numbers : List ℕ) (ports : List Port) (outs : List Output)
    → EachValues S os → all_fine (outputs_on os numbers ports names) ≡ Some outs → Each (λ o. R o.values) outs
outputs-on-have S R names f (tree.cons o os) (port ∷ numbers) ports outs s h =
    let p = some-parts (fine (output_judged o port (kind_of_port ports port) names)) (all_fine (outputs_on os numbers ports names)) outs h in
    let j : output_judged o port (kind_of_port ports port) names ≡ Fine p.0 = fine-some (output_judged o port (kind_of_port ports port) names) p.0 p.2 in
    subst (λ xs. Each (λ x. R x.values) xs) p.4 (output-has S R names f o port (kind_of_port ports port) p.0 s.0 j, outputs-on-have S R names f os numbers ports p.1 s.1 p.3)
outputs-on-have S R names f (tree.cons o os) [] ports outs s h = subst (λ xs. Each (λ x. R x.values) xs) (let e : [] ≡ outs = cc in e) tt
outputs-on-have S R names f other numbers ports outs s h = subst (λ xs. Each (λ x. R x.values) xs) (let e : [] ≡ outs = cc in e) tt

pub outputs-have : (S R : Tree → Type 0) (names : Names) → ((t : Tree) → S t → R (written t names)) → (os : Tree) (ports : List Port) (outs : List Output)
    → EachValues S os → outputs_fine os ports names ≡ Some outs → Each (λ o. R o.values) outs
outputs-have S R names f os ports outs s h = go (ports_asked (each_asked os) ports) h
  where
    go : (j : Judged (List ℕ)) → outputs_if j os ports names ≡ Some outs → Each (λ o. R o.values) outs
    go (Fine numbers) e = outputs-on-have S R names f os numbers ports outs s e
    go (Broken rule at) e = absurd (cc)

-- ---- uses

module _ (P : List ℕ → Type 0) where
  if-uses : (b : Bool) (t u : Tree) → OnlyUses P t → OnlyUses P u → OnlyUses P (if b then t else u)
  if-uses true t u h i = h
  if-uses false t u h i = i

  number-uses : (z : ℤ) (at : ℕ) → OnlyUses P (number_tree z at)
  number-uses (pos n) at = tt
  number-uses (negsuc n) at =
      if-uses (is_num (pos (suc n))) (tree.prefix Neg (tree.number (suc n) at) at) (tree.binary Sub (tree.prefix Neg (tree.number n at) at) (tree.number 1 at) at) tt (tt, tt)

  by-number-uses : (j : Judged ℤ) (e : Tree) → OnlyUses P e → OnlyUses P (by_number j e)
  by-number-uses (Fine z) e h = number-uses z (begins e)
  by-number-uses (Broken rule at) e h = h

  constant-uses : (e : Tree) (names : Names) → OnlyUses P e → OnlyUses P (constant_written e names)
  constant-uses e names h = by-number-uses (constant_number (kind e names) e names) e h

  mutual
    pub written-uses : (e : Tree) (names : Names) → OnlyUses P e → OnlyUses P (written e names)
    written-uses (tree.cons t ts) names h = (written-uses t names h.0, written-uses ts names h.1)
    written-uses (tree.present t) names h = written-uses t names h
    written-uses (tree.call name args at) names h = (h.0, written-uses args names h.1)
    written-uses (tree.paren e at) names h = written-uses e names h
    written-uses (tree.if_expr test first other at) names h = (written-uses test names h.0, written-uses first names h.1, written-uses other names h.2)
    written-uses (tree.list items at) names h = written-uses items names h
    written-uses (tree.comp item gens at) names h = (written-uses item (with_counters gens names) h.0, gens-uses gens names h.1)
    written-uses (tree.index base place at) names h = (written-uses base names h.0, written-uses place names h.1)
    written-uses (tree.prefix op e at) names h = written-uses e names h
    written-uses (tree.binary op l r at) names h = (written-uses l names h.0, written-uses r names h.1)
    written-uses (tree.type_of name args at) names h = written-uses args names h
    written-uses (tree.shape_arg name shape) names h = written-uses shape names h
    written-uses (tree.value_arg name value) names h = constant-uses value names h
    written-uses other names h = h

    gens-uses : (gens : Tree) (names : Names) → OnlyUses P gens → OnlyUses P (gens_written gens names)
    gens-uses (tree.cons (tree.gen shape (tree.ident name place) from to at) gens) names h =
        ((written-uses shape names h.0.0, constant-uses from names h.0.1, constant-uses to names h.0.2), gens-uses gens (with_known (counter name) names) h.1)
    gens-uses other names h = h

  var-uses : (v : Tree) (names : Names) → OnlyUses P v → OnlyUses P (var_written v names)
  var-uses (tree.var shape name start changes at) names h = (written-uses shape names h.0, written-uses start names h.1)
  var-uses other names h = h

  vars-use : (vars : Tree) (names : Names) → OnlyUses P vars → OnlyUses P (vars_written vars names)
  vars-use (tree.cons v vs) names h = (var-uses v names h.0, vars-use vs (with_inner v names) h.1)
  vars-use other names h = h

  pub statement-uses : (s : Tree) (names : Names) → OnlyUses P s → OnlyUses P (statement_written s names)
  statement-uses (tree.cons s ss) names h = (statement-uses s names h.0, statement-uses ss names h.1)
  statement-uses (tree.present ss) names h = statement-uses ss names h
  statement-uses (tree.assign (tree.ident name place) places value at) names h = (h.0, written-uses places names h.1, written-uses value names h.2)
  statement-uses (tree.assign other places value at) names h = tt
  statement-uses (tree.call_stmt name args at) names h = written-uses args names h
  statement-uses (tree.if_stmt test first other at) names h = (written-uses test names h.0, statement-uses first names h.1, statement-uses other names h.2)
  statement-uses (tree.while_stmt test body at) names h = (written-uses test names h.0, statement-uses body names h.1)
  statement-uses (tree.foreach_stmt shape (tree.ident name place) from to body at) names h =
      (written-uses shape names h.0, written-uses from names h.1, written-uses to names h.2, statement-uses body (with_known (counter name) names) h.3)
  statement-uses (tree.block vars body at) names h = (vars-use vars names h.0, statement-uses body (behind_vars vars names) h.1)
  statement-uses other names h = h

  pub body-uses : (body : Tree) (names : Names) → OnlyUses P body → OnlyUses P (statement_written (body_of body) names)
  body-uses (tree.present ss) names h = statement-uses ss names h
  body-uses other names h = tt

  -- ---- locals, guards and outputs

  start-uses : (start : Tree) (names : Names) → OnlyUses P start → OfStart (OnlyUses P) (start_of start names)
  start-uses (tree.present e) names h = written-uses e names h
  start-uses other names h = tt

  local-uses : (v : Tree) (names : Names) → OnlyUses P v → OfStart (OnlyUses P) (local_of v names).start
  local-uses (tree.var shape (tree.ident name place) start changes at) names h = start-uses start names h.1
  local-uses other names h = tt

  pub locals-use : (vars : Tree) (names : Names) → OnlyUses P vars → EachStart (OnlyUses P) (locals_of vars names)
  locals-use (tree.cons v vs) names h = (local-uses v names h.0, locals-use vs (with_inner v names) h.1)
  locals-use other names h = tt

  -- those before one whose type breaks a rule, and what stands for it

  local-if-uses : (j : Judged Shape) (x : Local) (xs : List Local) → OfStart (OnlyUses P) x.start → EachStart (OnlyUses P) xs → EachStart (OnlyUses P) (local_if j x xs)
  local-if-uses (Fine t) x xs h rest = (h, rest)
  local-if-uses (Broken rule at) x xs h rest = tt

  pub before-use : (vars : Tree) (names : Names) → OnlyUses P vars → EachStart (OnlyUses P) (locals_before vars names)
  before-use (tree.cons v vs) names h =
      local-if-uses (type_of_var v names) (local_of v names) (locals_before vs (with_inner v names)) (local-uses v names h.0) (before-use vs (with_inner v names) h.1)
  before-use other names h = tt

  type-uses : (v : Tree) → OnlyUses P v → OnlyUses P (type_in v)
  type-uses (tree.var shape name start changes at) h = h.0
  type-uses other h = tt

  type-met-uses : (b : Bool) (shape : Tree) → OnlyUses P shape → OnlyUses P (type_met b shape)
  type-met-uses true shape h = ((tt, ((h, tt, tt), tt)), tt)
  type-met-uses false shape h = tt

  met-uses : (j : Judged Shape) (v others : Tree) → OnlyUses P v → OnlyUses P others → OnlyUses P (met_if j v others)
  met-uses (Fine t) v others h rest = rest
  met-uses (Broken rule at) v others h rest = type-met-uses (is_awaited (Broken rule at)) (type_in v) (type-uses v h)

  pub met-use : (vars : Tree) (names : Names) → OnlyUses P vars → OnlyUses P (first_met vars names)
  met-use (tree.cons v vs) names h = met-uses (type_of_var v names) v (first_met vs (with_inner v names)) h.0 (met-use vs (with_inner v names) h.1)
  met-use other names h = tt

  pub guards-use : (guards : Tree) (names : Names) → OnlyUses P guards → Each (OnlyUses P) (guards_written guards names)
  guards-use (tree.cons g gs) names h = (written-uses g names h.0, guards-use gs names h.1)
  guards-use other names h = tt

  value-uses : (o : Tree) → OnlyUses P o → OfValues (OnlyUses P) o
  value-uses (tree.output asked values repeat at) h = h.0
  value-uses other h = tt

  values-use : (os : Tree) → OnlyUses P os → EachValues (OnlyUses P) os
  values-use (tree.cons o os) h = (value-uses o h.0, values-use os h.1)
  values-use other h = tt

  pub outputs-use : (os : Tree) (ports : List Port) (names : Names) (outs : List Output) → OnlyUses P os → outputs_fine os ports names ≡ Some outs → Each (λ o. OnlyUses P o.values) outs
  outputs-use os ports names outs h e = outputs-have (OnlyUses P) (OnlyUses P) names (λ t u. written-uses t names u) os ports outs (values-use os h) e
