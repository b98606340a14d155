-- Where an expression has no kind since something isn't constant, a size or a bound in it is at fault.
use Rattle.std.proofs.Common.{◌≡◌, ◌⊎◌, inl, inr, ◌*◌, ◌<◌, ℕ, ℤ, Bool, true, false, List, [], ◌∷◌, length, refl, sym, ap, subst, ◌∙◌, arith}
use Rattle.std.specs.Prelude.{Option, None, Some, if◌then◌else◌, ◌&&◌, not, nat_le, zero, suc, pos, negsuc, codes}
use Rattle.std.specs.Str.{bytes_eq}
use Rattle.rvc_base.specs.declared.refusal.Rule.{Rule}
use Rattle.rvc_base.specs.declared.scalar.Scalar.{Scalar}
use Rattle.rvc_base.specs.declared.scalar.Scalar.TheVariants as scalar
use Rattle.rvc_base.specs.Rules.{constant_traps, list_too_long, not_constant, unknown_name, unsupported_type, wrong_kind, wrong_length, wrong_number_of_arguments, wrong_type_argument}
use Rattle.rvc_base.specs.Width.{max_size}
use Rattle.cal_ast.specs.Places.{begins}
use Rattle.cal_ast.specs.declared.expr.BinOp.{BinOp}
use Rattle.cal_ast.specs.declared.expr.BinOp.TheVariants as operators
use Rattle.cal_ast.specs.declared.expr.PrefixOp.{PrefixOp}
use Rattle.cal_ast.specs.declared.expr.PrefixOp.TheVariants as prefixes
use Rattle.cal_ast.specs.Tree as tree
use Rattle.cal_ast.specs.Tree.{Tree}
use Rattle.cal_model.specs.Actor.{Fun, Local}
use Rattle.cal_model.specs.Call.{fun_named}
use Rattle.cal_model.specs.Expression.{span}
use Rattle.cal_model.specs.Kinding.{Argument, Judged, Fine, Broken, Known, Names, OfShape, OfSize, all_like, all_same, and_so, arguments_fit, binary_kind, bits_of, branch_kind, constant, constant_number, counter, counts, elements_in, is_like, is_same_kind, is_word, item_kind, kind, kind_over_numbers, kind_over_truths, kinds, list_kind, list_of_kind, list_type, list_type_of, meant_by, number_given, number_type, one_kind, prefix_kind, truth_type, type_arguments, type_judged, type_with, with_counters, with_known}
use Rattle.cal_model.specs.Outcome.{Out, Gives, Traps, Lacks, Clashes}
use Rattle.cal_model.specs.Value.{Kind, NumKind, BoolKind, ListKind, Shape, Single, Many, Value, Num, Truth, Items, kind_of_scalar, kind_of_type, max_list_scalars, scalars_of_kind, scalars_of_type}
use Rattle.law_violations.specs.Missing.{ExpressionsTell, LacksAt, OfSome, OfSomeGen, TrapsAt, TypesTell}

-- ---- rules of kinds

record IsOther (rule : Rule) : Type 0 where
  no_trap : rule ≡ constant_traps → ⊥
  no_lack : rule ≡ not_constant → ⊥

differ : (a b : ℕ) → (a < b) ⊎ (b < a) → ◌≡◌ {A = Rule} (record { 0 = a }) (record { 0 = b }) → ⊥
differ a b d e = go d (ap (λ r. r.0) e)
  where
    go : (a < b) ⊎ (b < a) → a ≡ b → ⊥
    go (inl h) s = omega arith
    go (inr h) s = omega arith

kind_rule : IsOther wrong_kind
kind_rule = record { no_trap = differ 401 407 (inl (omega arith)); no_lack = differ 401 409 (inl (omega arith)) }

argument_rule : IsOther wrong_type_argument
argument_rule = record { no_trap = differ 402 407 (inl (omega arith)); no_lack = differ 402 409 (inl (omega arith)) }

type_rule : IsOther unsupported_type
type_rule = record { no_trap = differ 403 407 (inl (omega arith)); no_lack = differ 403 409 (inl (omega arith)) }

length_rule : IsOther wrong_length
length_rule = record { no_trap = differ 405 407 (inl (omega arith)); no_lack = differ 405 409 (inl (omega arith)) }

many_rule : IsOther wrong_number_of_arguments
many_rule = record { no_trap = differ 406 407 (inl (omega arith)); no_lack = differ 406 409 (inl (omega arith)) }

name_rule : IsOther unknown_name
name_rule = record { no_trap = differ 301 407 (inl (omega arith)); no_lack = differ 301 409 (inl (omega arith)) }

list_rule : IsOther list_too_long
list_rule = record { no_trap = differ 604 407 (inr (omega arith)); no_lack = differ 604 409 (inr (omega arith)) }

abbrev ByOther : {A : Type 0} → Judged A → Type 0
ByOther (Fine x) = Unit {0}
ByOther (Broken rule at) = IsOther rule

if_or : {A : Type 0} (b : Bool) (x y : Judged A) → ByOther x → ByOther y → ByOther (if b then x else y)
if_or true x y h k = h
if_or false x y h k = k

-- ---- what operations and types break

one_by : (k l : Kind) (at : ℕ) → ByOther (one_kind k l at)
one_by k l at =
    if_or (is_same_kind k l) (Fine k) (if is_like k l then Broken wrong_length at else Broken wrong_kind at) tt
    (if_or {A = Kind} (is_like k l) (Broken wrong_length at) (Broken wrong_kind at) length_rule kind_rule)

list_of_by : (n : ℕ) (k : Kind) (at : ℕ) → ByOther (list_of_kind n k at)
list_of_by n k at = if_or (nat_le n max_list_scalars && nat_le (n * scalars_of_kind k) max_list_scalars) (Fine (ListKind n k)) (Broken list_too_long at) tt list_rule

list_by : (ks : List Kind) (at : ℕ) → ByOther (list_kind ks at)
list_by [] at = kind_rule
list_by (k ∷ ks) at =
    if_or (not (all_like k ks)) (Broken wrong_kind at) (if not (all_same k ks) then Broken wrong_length at else list_of_kind (suc (length ks)) k at) kind_rule
    (if_or (not (all_same k ks)) (Broken wrong_length at) (list_of_kind (suc (length ks)) k at) length_rule (list_of_by (suc (length ks)) k at))

prefix_by : (op : PrefixOp) (k : Kind) (at : ℕ) → ByOther (prefix_kind op k at)
prefix_by prefixes.Not BoolKind at = tt
prefix_by prefixes.Neg NumKind at = tt
prefix_by prefixes.BitNot NumKind at = tt
prefix_by op k at = kind_rule

numbers_by : (op : BinOp) (at : ℕ) → ByOther (kind_over_numbers op at)
numbers_by operators.And at = kind_rule
numbers_by operators.Or at = kind_rule
numbers_by operators.Eq at = tt
numbers_by operators.Ne at = tt
numbers_by operators.Lt at = tt
numbers_by operators.Le at = tt
numbers_by operators.Gt at = tt
numbers_by operators.Ge at = tt
numbers_by op at = tt

truths_by : (op : BinOp) (at : ℕ) → ByOther (kind_over_truths op at)
truths_by operators.And at = tt
truths_by operators.Or at = tt
truths_by operators.Eq at = tt
truths_by operators.Ne at = tt
truths_by op at = kind_rule

binary_by : (op : BinOp) (k l : Kind) (at : ℕ) → ByOther (binary_kind op k l at)
binary_by op NumKind NumKind at = numbers_by op at
binary_by op BoolKind BoolKind at = truths_by op at
binary_by op k l at = kind_rule

item_by : (k l : Kind) (at : ℕ) → ByOther (item_kind k l at)
item_by (ListKind n k) NumKind at = tt
item_by k l at = kind_rule

branch_by : (c k l : Kind) (at : ℕ) → ByOther (branch_kind c k l at)
branch_by BoolKind k l at = one_by k l at
branch_by c k l at = kind_rule

bits_by : (z : ℤ) (f : ℕ → Scalar) (at : ℕ) → ByOther (bits_of z f at)
bits_by (pos n) f at = if_or (nat_le 1 n && nat_le n max_size) (Fine (Single (f n))) (Broken wrong_type_argument at) tt argument_rule
bits_by (negsuc n) f at = argument_rule

number_by : (args : List Argument) (f : ℕ → Scalar) (at : ℕ) → ByOther (number_type args f at)
number_by [] f at = tt
number_by (OfSize name z ∷ []) f at = if_or (bytes_eq name (codes "size")) (bits_of z f at) (Broken wrong_type_argument at) (bits_by z f at) argument_rule
number_by args f at = argument_rule

truth_by : (args : List Argument) (at : ℕ) → ByOther (truth_type args at)
truth_by [] at = tt
truth_by args at = argument_rule

list_type_of_by : (t : Shape) (z : ℤ) (at : ℕ) → ByOther (list_type_of t z at)
list_type_of_by t (pos zero) at = argument_rule
list_type_of_by t (pos (suc n)) at = if_or (nat_le (scalars_of_type (Many (suc n) t)) max_list_scalars) (Fine (Many (suc n) t)) (Broken list_too_long at) tt list_rule
list_type_of_by t (negsuc n) at = argument_rule

list_type_by : (args : List Argument) (at : ℕ) → ByOther (list_type args at)
list_type_by (OfShape name t ∷ OfSize other z ∷ []) at =
    if_or (bytes_eq name (codes "type") && bytes_eq other (codes "size")) (list_type_of t z at) (Broken wrong_type_argument at) (list_type_of_by t z at) argument_rule
list_type_by (OfSize other z ∷ OfShape name t ∷ []) at =
    if_or (bytes_eq name (codes "type") && bytes_eq other (codes "size")) (list_type_of t z at) (Broken wrong_type_argument at) (list_type_of_by t z at) argument_rule
list_type_by args at = argument_rule

type_by : (name : List ℕ) (args : List Argument) (at : ℕ) → ByOther (type_with name args at)
type_by name args at = go (bytes_eq name (codes "bool")) (bytes_eq name (codes "int")) (bytes_eq name (codes "uint")) (bytes_eq name (codes "List"))
  where
    go : (a b c d : Bool)
        → ByOther (if a then truth_type args at else if b then number_type args (λ n. scalar.Int n) at else if c then number_type args (λ n. scalar.Uint n) at else if d then list_type args at else Broken unsupported_type at)
    go true b c d = truth_by args at
    go false true c d = number_by args (λ n. scalar.Int n) at
    go false false true d = number_by args (λ n. scalar.Uint n) at
    go false false false true = list_type_by args at
    go false false false false = type_rule

counts_by : (t : Shape) (at : ℕ) → ByOther (counts t at)
counts_by (Single scalar.Bool) at = kind_rule
counts_by (Single (scalar.Int n)) at = tt
counts_by (Single (scalar.Uint n)) at = tt
counts_by (Many n t) at = kind_rule

-- ---- why there is no kind

-- since a size or a bound traps (T), since one gives no number (L), or by another rule
data Why (T L : Type 0) (rule : Rule) : Type 0 where
  by_trap : rule ≡ constant_traps → T → Why T L rule
  by_lack : rule ≡ not_constant → L → Why T L rule
  by_other : IsOther rule → Why T L rule

up : {T L U M : Type 0} (rule : Rule) → (T → U) → (L → M) → Why T L rule → Why U M rule
up rule f g (by_trap e t) = by_trap e (f t)
up rule f g (by_lack e l) = by_lack e (g l)
up rule f g (by_other h) = by_other h

abbrev WhyIn : ℕ → Tree → Names → Rule → Type 0
WhyIn at e names rule = Why (OfSome (TrapsAt at) e names) (OfSome (LacksAt at) e names) rule

so_why : {A B : Type 0} (T L : Type 0) (rule : Rule) (at : ℕ) (j : Judged A) (f : A → Judged B) → and_so j f ≡ Broken rule at → (j ≡ Broken rule at → Why T L rule)
    → ((a : A) → f a ≡ Broken rule at → Why T L rule) → Why T L rule
so_why T L rule at (Fine a) f h k l = l a h
so_why T L rule at (Broken r p) f h k l = k (same h)
  where
    same : {C D : Type 0} → ◌≡◌ {A = Judged D} (Broken r p) (Broken rule at) → ◌≡◌ {A = Judged C} (Broken r p) (Broken rule at)
    same e = cc

other_why : {A : Type 0} (T L : Type 0) (rule : Rule) (at : ℕ) (j : Judged A) → ByOther j → j ≡ Broken rule at → Why T L rule
other_why T L rule at (Fine a) h e = absurd cc
other_why T L rule at (Broken r p) h e = by_other (subst IsOther (same e) h)
  where
    same : {C : Type 0} → ◌≡◌ {A = Judged C} (Broken r p) (Broken rule at) → r ≡ rule
    same e = cc

abbrev NumberWhy : ℕ → Tree → Names → Rule → Type 0
NumberWhy at e names rule = Why (TrapsAt at e names ⊎ OfSome (TrapsAt at) e names) (LacksAt at e names ⊎ OfSome (LacksAt at) e names) rule

rule_of : (r rule : Rule) (p at : ℕ) → ◌≡◌ {A = Judged ℤ} (Broken r p) (Broken rule at) → rule ≡ r
rule_of r rule p at e = cc

place_of : (r rule : Rule) (p at : ℕ) → ◌≡◌ {A = Judged ℤ} (Broken r p) (Broken rule at) → p ≡ at
place_of r rule p at e = cc

given_why : (e : Tree) (names : Names) (rule : Rule) (at : ℕ) (o : Out Value) → kind e names ≡ Fine NumKind → constant e names ≡ o → number_given o (begins e) ≡ Broken rule at
    → NumberWhy at e names rule
given_why e names rule at (Gives (Num z) left) k same h = absurd cc
given_why e names rule at (Gives (Truth b) left) k same h = by_lack (rule_of not_constant rule (begins e) at h) (inl (record {
  here = place_of not_constant rule (begins e) at h;
  is_number = k;
  none = λ number l g. absurd (let f = sym same ∙ g in cc);
  no_trap = λ cause g. absurd (let f = sym same ∙ g in cc);
}))
given_why e names rule at (Gives (Items vs) left) k same h = by_lack (rule_of not_constant rule (begins e) at h) (inl (record {
  here = place_of not_constant rule (begins e) at h;
  is_number = k;
  none = λ number l g. absurd (let f = sym same ∙ g in cc);
  no_trap = λ cause g. absurd (let f = sym same ∙ g in cc);
}))
given_why e names rule at (Traps c) k same h = by_trap (rule_of constant_traps rule (begins e) at h) (inl (record {
  here = place_of constant_traps rule (begins e) at h;
  is_number = k;
  cause = c;
  traps = same;
}))
given_why e names rule at Lacks k same h = by_lack (rule_of not_constant rule (begins e) at h) (inl (record {
  here = place_of not_constant rule (begins e) at h;
  is_number = k;
  none = λ number l g. absurd (let f = sym same ∙ g in cc);
  no_trap = λ cause g. absurd (let f = sym same ∙ g in cc);
}))
given_why e names rule at Clashes k same h = by_lack (rule_of not_constant rule (begins e) at h) (inl (record {
  here = place_of not_constant rule (begins e) at h;
  is_number = k;
  none = λ number l g. absurd (let f = sym same ∙ g in cc);
  no_trap = λ cause g. absurd (let f = sym same ∙ g in cc);
}))

number_why : (e : Tree) (names : Names) (rule : Rule) (at : ℕ) → (kind e names ≡ Broken rule at → WhyIn at e names rule)
    → constant_number (kind e names) e names ≡ Broken rule at → NumberWhy at e names rule
number_why e names rule at inside h = go (kind e names) refl h
  where
    same_kind : (r : Rule) (p : ℕ) → ◌≡◌ {A = Judged ℤ} (Broken r p) (Broken rule at) → ◌≡◌ {A = Judged Kind} (Broken r p) (Broken rule at)
    same_kind r p g = cc

    go : (j : Judged Kind) → kind e names ≡ j → constant_number j e names ≡ Broken rule at → NumberWhy at e names rule
    go (Fine NumKind) same g = given_why e names rule at (constant e names) same refl g
    go (Fine BoolKind) same g = by_other (subst IsOther (sym (rule_of wrong_kind rule (begins e) at g)) kind_rule)
    go (Fine (ListKind n k)) same g = by_other (subst IsOther (sym (rule_of wrong_kind rule (begins e) at g)) kind_rule)
    go (Broken r p) same g = up rule (λ x. inr x) (λ x. inr x) (inside (same ∙ same_kind r p g))

word_why : {A : Type 0} (T L : Type 0) (rule : Rule) (at place : ℕ) (b : Bool) (j : Judged A) → (if b then j else Broken unknown_name place) ≡ Broken rule at → (j ≡ Broken rule at → Why T L rule) → Why T L rule
word_why T L rule at place true j h k = k h
word_why T L rule at place false j h k = other_why T L rule at (Broken unknown_name place) name_rule h

variable_why : (T L : Type 0) (rule : Rule) (at place : ℕ) (o : Option Known)
    → ◌≡◌ {A = Judged Kind} (elim o [ None ↦ Broken unknown_name place | Some x ↦ Fine x.kind ]) (Broken rule at) → Why T L rule
variable_why T L rule at place None h = other_why {A = Kind} T L rule at (Broken unknown_name place) name_rule h
variable_why T L rule at place (Some x) h = absurd cc

call_why : (T L : Type 0) (rule : Rule) (at place : ℕ) (args : Tree) (names : Names) (o : Option Fun)
    → ◌≡◌ {A = Judged Kind} (elim o [ None ↦ Broken unknown_name place | Some f ↦ and_so (arguments_fit args f.formals names) (λ as_many. if as_many then Fine (kind_of_scalar f.result) else Broken wrong_number_of_arguments place) ]) (Broken rule at)
    → ((f : Fun) → arguments_fit args f.formals names ≡ Broken rule at → Why T L rule) → Why T L rule
call_why T L rule at place args names None h k = other_why {A = Kind} T L rule at (Broken unknown_name place) name_rule h
call_why T L rule at place args names (Some f) h k =
    so_why T L rule at (arguments_fit args f.formals names) (λ as_many. if as_many then Fine (kind_of_scalar f.result) else Broken wrong_number_of_arguments place) h (λ e. k f e)
    (λ b e. other_why T L rule at (if b then Fine (kind_of_scalar f.result) else Broken wrong_number_of_arguments place)
    (if_or b (Fine (kind_of_scalar f.result)) (Broken wrong_number_of_arguments place) tt many_rule) e)

abbrev T_of : ℕ → Tree → Names → Type 0
T_of at e names = OfSome (TrapsAt at) e names

abbrev L_of : ℕ → Tree → Names → Type 0
L_of at e names = OfSome (LacksAt at) e names

mutual
  kind_why : (e : Tree) (names : Names) (r : Rule) (p : ℕ) → kind e names ≡ Broken r p → WhyIn p e names r
  kind_why (tree.number n at) names r p h = absurd cc
  kind_why (tree.truth b at) names r p h = absurd cc
  kind_why (tree.variable name at) names r p h = variable_why _ _ r p at (meant_by name names) h
  kind_why (tree.call name args at) names r p h =
      call_why (T_of p args names) (L_of p args names) r p at args names (fun_named name names.funs) h (λ f e. args_why args f.formals names r p e)
  kind_why (tree.paren e at) names r p h = kind_why e names r p h
  kind_why (tree.if_expr test first other at) names r p h =
      so_why (T_of p (tree.if_expr test first other at) names) (L_of p (tree.if_expr test first other at) names) r p (kind test names)
      (λ c. and_so (kind first names) (λ k. and_so (kind other names) (λ l. branch_kind c k l at))) h
      (λ e. up r (λ x. inl x) (λ x. inl x) (kind_why test names r p e))
      (λ c g. so_why (T_of p (tree.if_expr test first other at) names) (L_of p (tree.if_expr test first other at) names) r p (kind first names)
      (λ k. and_so (kind other names) (λ l. branch_kind c k l at)) g
      (λ e. up r (λ x. inr (inl x)) (λ x. inr (inl x)) (kind_why first names r p e))
      (λ k i. so_why (T_of p (tree.if_expr test first other at) names) (L_of p (tree.if_expr test first other at) names) r p (kind other names)
      (λ l. branch_kind c k l at) i
      (λ e. up r (λ x. inr (inr x)) (λ x. inr (inr x)) (kind_why other names r p e))
      (λ l m. other_why (T_of p (tree.if_expr test first other at) names) (L_of p (tree.if_expr test first other at) names) r p (branch_kind c k l at) (branch_by c k l at) m)))
  kind_why (tree.list items at) names r p h =
      so_why (T_of p items names) (L_of p items names) r p (kinds items names) (λ ks. list_kind ks at) h (λ e. kinds_why items names r p e)
      (λ ks g. other_why (T_of p items names) (L_of p items names) r p (list_kind ks at) (list_by ks at) g)
  kind_why (tree.comp item gens at) names r p h =
      so_why (T_of p (tree.comp item gens at) names) (L_of p (tree.comp item gens at) names) r p (kind item (with_counters gens names))
      (λ k. and_so (elements_in gens names) (λ n. list_of_kind n k at)) h
      (λ e. up r (λ x. inl x) (λ x. inl x) (kind_why item (with_counters gens names) r p e))
      (λ k g. so_why (T_of p (tree.comp item gens at) names) (L_of p (tree.comp item gens at) names) r p (elements_in gens names) (λ n. list_of_kind n k at) g
      (λ e. up r (λ x. inr x) (λ x. inr x) (gens_why gens names r p e))
      (λ n i. other_why (T_of p (tree.comp item gens at) names) (L_of p (tree.comp item gens at) names) r p (list_of_kind n k at) (list_of_by n k at) i))
  kind_why (tree.index base place at) names r p h =
      so_why (T_of p (tree.index base place at) names) (L_of p (tree.index base place at) names) r p (kind base names) (λ k. and_so (kind place names) (λ l. item_kind k l at)) h
      (λ e. up r (λ x. inl x) (λ x. inl x) (kind_why base names r p e))
      (λ k g. so_why (T_of p (tree.index base place at) names) (L_of p (tree.index base place at) names) r p (kind place names) (λ l. item_kind k l at) g
      (λ e. up r (λ x. inr x) (λ x. inr x) (kind_why place names r p e))
      (λ l i. other_why (T_of p (tree.index base place at) names) (L_of p (tree.index base place at) names) r p (item_kind k l at) (item_by k l at) i))
  kind_why (tree.prefix op e at) names r p h =
      so_why (T_of p e names) (L_of p e names) r p (kind e names) (λ k. prefix_kind op k at) h (λ g. kind_why e names r p g)
      (λ k g. other_why (T_of p e names) (L_of p e names) r p (prefix_kind op k at) (prefix_by op k at) g)
  kind_why (tree.binary op a b at) names r p h =
      so_why (T_of p (tree.binary op a b at) names) (L_of p (tree.binary op a b at) names) r p (kind a names) (λ k. and_so (kind b names) (λ m. binary_kind op k m at)) h
      (λ e. up r (λ x. inl x) (λ x. inl x) (kind_why a names r p e))
      (λ k g. so_why (T_of p (tree.binary op a b at) names) (L_of p (tree.binary op a b at) names) r p (kind b names) (λ m. binary_kind op k m at) g
      (λ e. up r (λ x. inr x) (λ x. inr x) (kind_why b names r p e))
      (λ m i. other_why (T_of p (tree.binary op a b at) names) (L_of p (tree.binary op a b at) names) r p (binary_kind op k m at) (binary_by op k m at) i))
  kind_why other names r p h = other_why {A = Kind} _ _ r p (Broken wrong_kind 0) kind_rule h

  kinds_why : (es : Tree) (names : Names) (r : Rule) (p : ℕ) → kinds es names ≡ Broken r p → WhyIn p es names r
  kinds_why tree.nil names r p h = absurd cc
  kinds_why (tree.cons e es) names r p h =
      so_why (T_of p (tree.cons e es) names) (L_of p (tree.cons e es) names) r p (kind e names) (λ k. and_so (kinds es names) (λ ks. Fine (k ∷ ks))) h
      (λ g. up r (λ x. inl x) (λ x. inl x) (kind_why e names r p g))
      (λ k g. so_why (T_of p (tree.cons e es) names) (L_of p (tree.cons e es) names) r p (kinds es names) (λ ks. Fine (k ∷ ks)) g
      (λ i. up r (λ x. inr x) (λ x. inr x) (kinds_why es names r p i))
      (λ ks i. absurd cc))
  kinds_why other names r p h = other_why {A = List Kind} _ _ r p (Broken wrong_kind 0) kind_rule h

  args_why : (args : Tree) (formals : List Local) (names : Names) (r : Rule) (p : ℕ) → arguments_fit args formals names ≡ Broken r p → WhyIn p args names r
  args_why tree.nil [] names r p h = absurd cc
  args_why tree.nil (f ∷ fs) names r p h = absurd cc
  args_why (tree.cons e es) [] names r p h =
      so_why (T_of p (tree.cons e es) names) (L_of p (tree.cons e es) names) r p (kind e names) (λ k. and_so (arguments_fit es [] names) (λ as_many. Fine false)) h
      (λ g. up r (λ x. inl x) (λ x. inl x) (kind_why e names r p g))
      (λ k g. so_why (T_of p (tree.cons e es) names) (L_of p (tree.cons e es) names) r p (arguments_fit es [] names) (λ as_many. Fine false) g
      (λ i. up r (λ x. inr x) (λ x. inr x) (args_why es [] names r p i))
      (λ b i. absurd cc))
  args_why (tree.cons e es) (f ∷ fs) names r p h =
      so_why (T_of p (tree.cons e es) names) (L_of p (tree.cons e es) names) r p (kind e names)
      (λ k. and_so (one_kind (kind_of_type f.shape) k (begins e)) (λ l. arguments_fit es fs names)) h
      (λ g. up r (λ x. inl x) (λ x. inl x) (kind_why e names r p g))
      (λ k g. so_why (T_of p (tree.cons e es) names) (L_of p (tree.cons e es) names) r p (one_kind (kind_of_type f.shape) k (begins e)) (λ l. arguments_fit es fs names) g
      (λ i. other_why (T_of p (tree.cons e es) names) (L_of p (tree.cons e es) names) r p (one_kind (kind_of_type f.shape) k (begins e)) (one_by (kind_of_type f.shape) k (begins e)) i)
      (λ l i. up r (λ x. inr x) (λ x. inr x) (args_why es fs names r p i)))
  args_why other fs names r p h = other_why {A = Bool} _ _ r p (Broken wrong_kind 0) kind_rule h

  gens_why : (gens : Tree) (names : Names) (r : Rule) (p : ℕ) → elements_in gens names ≡ Broken r p
      → Why (OfSomeGen (TrapsAt p) gens names) (OfSomeGen (LacksAt p) gens names) r
  gens_why tree.nil names r p h = absurd cc
  gens_why (tree.cons (tree.gen shape (tree.ident name place) from to at) gens) names r p h =
      so_why (OfSomeGen (TrapsAt p) (tree.cons (tree.gen shape (tree.ident name place) from to at) gens) names)
      (OfSomeGen (LacksAt p) (tree.cons (tree.gen shape (tree.ident name place) from to at) gens) names) r p (type_judged shape names)
      (λ t. and_so (counts t (begins shape)) (λ s. and_so (constant_number (kind from names) from names) (λ a.
      and_so (constant_number (kind to names) to names) (λ b. and_so (elements_in gens (with_known (counter name) names)) (λ n. Fine (span a b * n)))))) h
      (λ e. up r (λ x. inl x) (λ x. inl x) (type_why shape names r p e))
      (λ t g. so_why (OfSomeGen (TrapsAt p) (tree.cons (tree.gen shape (tree.ident name place) from to at) gens) names)
      (OfSomeGen (LacksAt p) (tree.cons (tree.gen shape (tree.ident name place) from to at) gens) names) r p (counts t (begins shape))
      (λ s. and_so (constant_number (kind from names) from names) (λ a.
      and_so (constant_number (kind to names) to names) (λ b. and_so (elements_in gens (with_known (counter name) names)) (λ n. Fine (span a b * n))))) g
      (λ e. other_why (OfSomeGen (TrapsAt p) (tree.cons (tree.gen shape (tree.ident name place) from to at) gens) names)
      (OfSomeGen (LacksAt p) (tree.cons (tree.gen shape (tree.ident name place) from to at) gens) names) r p (counts t (begins shape)) (counts_by t (begins shape)) e)
      (λ s i. so_why (OfSomeGen (TrapsAt p) (tree.cons (tree.gen shape (tree.ident name place) from to at) gens) names)
      (OfSomeGen (LacksAt p) (tree.cons (tree.gen shape (tree.ident name place) from to at) gens) names) r p (constant_number (kind from names) from names)
      (λ a. and_so (constant_number (kind to names) to names) (λ b. and_so (elements_in gens (with_known (counter name) names)) (λ n. Fine (span a b * n)))) i
      (λ e. up r (λ x. inr (inl x)) (λ x. inr (inl x)) (number_why from names r p (λ k. kind_why from names r p k) e))
      (λ a j. so_why (OfSomeGen (TrapsAt p) (tree.cons (tree.gen shape (tree.ident name place) from to at) gens) names)
      (OfSomeGen (LacksAt p) (tree.cons (tree.gen shape (tree.ident name place) from to at) gens) names) r p (constant_number (kind to names) to names)
      (λ b. and_so (elements_in gens (with_known (counter name) names)) (λ n. Fine (span a b * n))) j
      (λ e. up r (λ x. inr (inr (inl x))) (λ x. inr (inr (inl x))) (number_why to names r p (λ k. kind_why to names r p k) e))
      (λ b l. so_why (OfSomeGen (TrapsAt p) (tree.cons (tree.gen shape (tree.ident name place) from to at) gens) names)
      (OfSomeGen (LacksAt p) (tree.cons (tree.gen shape (tree.ident name place) from to at) gens) names) r p (elements_in gens (with_known (counter name) names))
      (λ n. Fine (span a b * n)) l
      (λ e. up r (λ x. inr (inr (inr x))) (λ x. inr (inr (inr x))) (gens_why gens (with_known (counter name) names) r p e))
      (λ n e. absurd cc)))))
  gens_why other names r p h = other_why {A = ℕ} _ _ r p (Broken wrong_kind 0) kind_rule h

  type_why : (shape : Tree) (names : Names) (r : Rule) (p : ℕ) → type_judged shape names ≡ Broken r p → WhyIn p shape names r
  type_why (tree.type_of (tree.ident name place) args at) names r p h =
      word_why (T_of p args names) (L_of p args names) r p place (is_word name) (and_so (type_arguments args names) (λ given. type_with name given at)) h
      (λ g. so_why (T_of p args names) (L_of p args names) r p (type_arguments args names) (λ given. type_with name given at) g (λ e. type_args_why args names r p e)
      (λ given e. other_why (T_of p args names) (L_of p args names) r p (type_with name given at) (type_by name given at) e))
  type_why other names r p h = other_why {A = Shape} _ _ r p (Broken wrong_kind 0) kind_rule h

  type_args_why : (args : Tree) (names : Names) (r : Rule) (p : ℕ) → type_arguments args names ≡ Broken r p → WhyIn p args names r
  type_args_why tree.nil names r p h = absurd cc
  type_args_why (tree.cons (tree.shape_arg (tree.ident name place) shape) args) names r p h =
      so_why (T_of p shape names ⊎ T_of p args names) (L_of p shape names ⊎ L_of p args names) r p (type_judged shape names)
      (λ t. and_so (type_arguments args names) (λ others. Fine (OfShape name t ∷ others))) h
      (λ e. up r (λ x. inl x) (λ x. inl x) (type_why shape names r p e))
      (λ t g. so_why (T_of p shape names ⊎ T_of p args names) (L_of p shape names ⊎ L_of p args names) r p (type_arguments args names) (λ others. Fine (OfShape name t ∷ others)) g
      (λ e. up r (λ x. inr x) (λ x. inr x) (type_args_why args names r p e))
      (λ others e. absurd cc))
  type_args_why (tree.cons (tree.value_arg (tree.ident name place) value) args) names r p h =
      so_why ((TrapsAt p value names ⊎ T_of p value names) ⊎ T_of p args names) ((LacksAt p value names ⊎ L_of p value names) ⊎ L_of p args names) r p
      (constant_number (kind value names) value names) (λ z. and_so (type_arguments args names) (λ others. Fine (OfSize name z ∷ others))) h
      (λ e. up r (λ x. inl x) (λ x. inl x) (number_why value names r p (λ k. kind_why value names r p k) e))
      (λ z g. so_why ((TrapsAt p value names ⊎ T_of p value names) ⊎ T_of p args names) ((LacksAt p value names ⊎ L_of p value names) ⊎ L_of p args names) r p
      (type_arguments args names) (λ others. Fine (OfSize name z ∷ others)) g
      (λ e. up r (λ x. inr x) (λ x. inr x) (type_args_why args names r p e))
      (λ others e. absurd cc))
  type_args_why other names r p h = other_why {A = List Argument} _ _ r p (Broken wrong_kind 0) kind_rule h

-- ---- the laws

trap_of : {T L : Type 0} → Why T L constant_traps → T
trap_of (by_trap e t) = t
trap_of (by_lack e l) = absurd (differ 407 409 (inl (omega arith)) e)
trap_of (by_other h) = absurd (h.no_trap refl)

lack_of : {T L : Type 0} → Why T L not_constant → L
lack_of (by_trap e t) = absurd (differ 409 407 (inr (omega arith)) e)
lack_of (by_lack e l) = l
lack_of (by_other h) = absurd (h.no_lack refl)

pub expressions_tell : ExpressionsTell
expressions_tell = record {
  traps = λ e names at h. trap_of (kind_why e names constant_traps at h);
  lacks = λ e names at h. lack_of (kind_why e names not_constant at h);
}

pub types_tell : TypesTell
types_tell = record {
  traps = λ shape names at h. trap_of (type_why shape names constant_traps at h);
  lacks = λ shape names at h. lack_of (type_why shape names not_constant at h);
}
