-- Kinds of operations, of lists and of branches, taken apart.
use Rattle.std.proofs.Common.{◌≡◌, ℕ, suc, Bool, true, false, not, List, [], ◌∷◌, length, refl, sym, ap, ◌∙◌, subst, Option, None, Some}
use Rattle.std.specs.Prelude.{◌&&◌, ◌||◌, if◌then◌else◌}
use Rattle.rvc_base.specs.Rules.{unknown_name}
use Rattle.rvc_base.specs.declared.refusal.Rule.{Rule}
use Rattle.cal_ast.specs.declared.expr.PrefixOp.{PrefixOp}
use Rattle.cal_ast.specs.declared.expr.PrefixOp.TheVariants.{Not, Neg, BitNot}
use Rattle.cal_ast.specs.declared.expr.BinOp.{BinOp}
use Rattle.cal_ast.specs.declared.expr.BinOp.TheVariants.{Or, And, Eq, Ne, Lt, Le, Gt, Ge}
use Rattle.cal_model.specs.Value.{Kind, NumKind, BoolKind, ListKind}
use Rattle.cal_model.specs.Actor.{Fun}
use Rattle.cal_model.specs.Kinding.{Judged, Fine, Broken, Known, all_like, all_same, binary_kind, branch_kind, is_same_kind, item_kind, kind_over_numbers, kind_over_truths, list_kind, list_of_kind, prefix_kind}
use Rattle.cal_model.specs.Sound.{AreAll}
use Rattle.cal_model.proofs.KindValues.{both, fine-is, list-of-kind, not-fine, one-kind, same-kind}
use Rattle.lower_base.specs.Growing.{is_short}
use Rattle.lower_base.specs.Truths.{is_truth_binary, is_truth_prefix}
use Rattle.law_forms.proofs.Like.{IsOne}

-- ---- names and functions

pub known_kind : (o : Option Known) (j : Kind) (at : ℕ) → elim o [ None ↦ Broken unknown_name at | Some x ↦ Fine x.kind ] ≡ Fine j → (x : Known) × (o ≡ Some x) × (x.kind ≡ j)
known_kind None j at h = absurd (not-fine unknown_name at j h)
known_kind (Some x) j at h = (x, refl, fine-is x.kind j h)

pub called : (o : Option Fun) (f : Fun → Judged Kind) (j : Kind) (at : ℕ) → elim o [ None ↦ Broken unknown_name at | Some x ↦ f x ] ≡ Fine j → (x : Fun) × (o ≡ Some x) × (f x ≡ Fine j)
called None f j at h = absurd (not-fine unknown_name at j h)
called (Some x) f j at h = (x, refl, h)

-- ---- operators

num_no_truth : {A : Type 0} → Fine NumKind ≡ Fine BoolKind → A
num_no_truth h = let e : NumKind ≡ BoolKind = fine-is NumKind BoolKind h in absurd (cc)

-- an operator before an operand is one of single values
pub prefix_one : (op : PrefixOp) (k j : Kind) (at : ℕ) → prefix_kind op k at ≡ Fine j → IsOne k × IsOne j
prefix_one Not BoolKind j at h = (tt, subst IsOne (fine-is BoolKind j h) tt)
prefix_one Neg NumKind j at h = (tt, subst IsOne (fine-is NumKind j h) tt)
prefix_one BitNot NumKind j at h = (tt, subst IsOne (fine-is NumKind j h) tt)
prefix_one op k j at h = absurd (not-fine _ at j h)

pub prefix_truth : (op : PrefixOp) (k : Kind) (at : ℕ) → prefix_kind op k at ≡ Fine BoolKind → is_truth_prefix op ≡ true
prefix_truth Not k at h = refl
prefix_truth Neg NumKind at h = num_no_truth h
prefix_truth BitNot NumKind at h = num_no_truth h
prefix_truth op k at h = absurd (not-fine _ at BoolKind h)

over_numbers : (op : BinOp) (j : Kind) (at : ℕ) → kind_over_numbers op at ≡ Fine j → IsOne j
over_numbers And j at h = absurd (not-fine _ at j h)
over_numbers Or j at h = absurd (not-fine _ at j h)
over_numbers Eq j at h = subst IsOne (fine-is BoolKind j h) tt
over_numbers Ne j at h = subst IsOne (fine-is BoolKind j h) tt
over_numbers Lt j at h = subst IsOne (fine-is BoolKind j h) tt
over_numbers Le j at h = subst IsOne (fine-is BoolKind j h) tt
over_numbers Gt j at h = subst IsOne (fine-is BoolKind j h) tt
over_numbers Ge j at h = subst IsOne (fine-is BoolKind j h) tt
over_numbers op j at h = subst IsOne (fine-is NumKind j h) tt

over_truths : (op : BinOp) (j : Kind) (at : ℕ) → kind_over_truths op at ≡ Fine j → IsOne j
over_truths And j at h = subst IsOne (fine-is BoolKind j h) tt
over_truths Or j at h = subst IsOne (fine-is BoolKind j h) tt
over_truths Eq j at h = subst IsOne (fine-is BoolKind j h) tt
over_truths Ne j at h = subst IsOne (fine-is BoolKind j h) tt
over_truths op j at h = absurd (not-fine _ at j h)

-- so is one between two
pub binary_one : (op : BinOp) (k m j : Kind) (at : ℕ) → binary_kind op k m at ≡ Fine j → IsOne k × IsOne m × IsOne j
binary_one op NumKind NumKind j at h = (tt, tt, over_numbers op j at h)
binary_one op BoolKind BoolKind j at h = (tt, tt, over_truths op j at h)
binary_one op k m j at h = absurd (not-fine _ at j h)

truths_of_numbers : (op : BinOp) (at : ℕ) → kind_over_numbers op at ≡ Fine BoolKind → is_truth_binary op ≡ true
truths_of_numbers And at h = refl
truths_of_numbers Or at h = refl
truths_of_numbers Eq at h = refl
truths_of_numbers Ne at h = refl
truths_of_numbers Lt at h = refl
truths_of_numbers Le at h = refl
truths_of_numbers Gt at h = refl
truths_of_numbers Ge at h = refl
truths_of_numbers op at h = num_no_truth h

truths_of_truths : (op : BinOp) (at : ℕ) → kind_over_truths op at ≡ Fine BoolKind → is_truth_binary op ≡ true
truths_of_truths And at h = refl
truths_of_truths Or at h = refl
truths_of_truths Eq at h = refl
truths_of_truths Ne at h = refl
truths_of_truths op at h = absurd (not-fine _ at BoolKind h)

pub binary_truth : (op : BinOp) (k m : Kind) (at : ℕ) → binary_kind op k m at ≡ Fine BoolKind → is_truth_binary op ≡ true
binary_truth op NumKind NumKind at h = truths_of_numbers op at h
binary_truth op BoolKind BoolKind at h = truths_of_truths op at h
binary_truth op k m at h = absurd (not-fine _ at BoolKind h)

-- the left side of `and` and of `or` is a truth value
short_numbers : (op : BinOp) (j : Kind) (at : ℕ) → is_short op ≡ true → kind_over_numbers op at ≡ Fine j → ⊥
short_numbers And j at s h = not-fine _ at j h
short_numbers Or j at s h = not-fine _ at j h
short_numbers op j at s h = cc

pub short_left : (op : BinOp) (k m j : Kind) (at : ℕ) → is_short op ≡ true → binary_kind op k m at ≡ Fine j → k ≡ BoolKind
short_left op NumKind NumKind j at s h = absurd (short_numbers op j at s h)
short_left op BoolKind BoolKind j at s h = refl
short_left op k m j at s h = absurd (not-fine _ at j h)

-- ---- branches, items and lists

pub branch_parts : (c k l j : Kind) (at : ℕ) → branch_kind c k l at ≡ Fine j → (c ≡ BoolKind) × (k ≡ j) × (l ≡ j)
branch_parts BoolKind k l j at h = let i = one-kind k l j at h in (refl, i.1, sym i.0 ∙ i.1)
branch_parts NumKind k l j at h = absurd (not-fine _ at j h)
branch_parts (ListKind n c) k l j at h = absurd (not-fine _ at j h)

-- an index is put on a list, and gives an item of it
pub record IsItem (k l j : Kind) : Type 0 where
  pub count : ℕ
  pub list : k ≡ ListKind count j
  pub place : l ≡ NumKind

pub item_parts : (k l j : Kind) (at : ℕ) → item_kind k l at ≡ Fine j → IsItem k l j
item_parts (ListKind n k) NumKind j at h = record { count = n; list = ap (ListKind n) (fine-is k j h); place = refl }
item_parts k l j at h = absurd (not-fine _ at j h)

list_parts : (a b : Bool) (o : Judged Kind) (at : ℕ) (r s : Rule) (j : Kind) → (if not a then Broken r at else if not b then Broken s at else o) ≡ Fine j → (b ≡ true) × (o ≡ Fine j)
list_parts true true o at r s j h = (refl, h)
list_parts true false o at r s j h = absurd (not-fine s at j h)
list_parts false b o at r s j h = absurd (not-fine r at j h)

all_are : (k : Kind) (ks : List Kind) → all_same k ks ≡ true → AreAll k ks
all_are k [] h = tt
all_are k (l ∷ ls) h =
    let two = both (is_same_kind k l) (all_same k ls) h in
    (sym (same-kind k l two.0), all_are k ls two.1)

-- the items of a list are of one kind, and there is one at least
pub record IsListed (ks : List Kind) (j : Kind) : Type 0 where
  pub item : Kind
  pub others : List Kind
  pub some : ks ≡ item ∷ others
  pub all : AreAll item ks
  pub at : ℕ
  pub judged : list_of_kind (length ks) item at ≡ Fine j
  pub is : ListKind (length ks) item ≡ j

pub listed_kinds : (ks : List Kind) (j : Kind) (at : ℕ) → list_kind ks at ≡ Fine j → IsListed ks j
listed_kinds [] j at h = absurd (not-fine _ at j h)
listed_kinds (k ∷ ks) j at h =
    let two = list_parts (all_like k ks) (all_same k ks) (list_of_kind (suc (length ks)) k at) at _ _ j h in
    record {
      item = k;
      others = ks;
      some = refl;
      all = (refl, all_are k ks two.0);
      at = at;
      judged = two.1;
      is = list-of-kind (suc (length ks)) k j at two.1;
    }

-- ---- tests

pub or_true : (a b : Bool) → b ≡ true → a || b ≡ true
or_true true b e = refl
or_true false b e = e

pub and_true : (a b : Bool) → a ≡ true → b ≡ true → a && b ≡ true
and_true a b e f = ap (λ c. c && b) e ∙ f

pub not_both : (a b : Bool) → (a ≡ true → b ≡ true) → a && not b ≡ false
not_both true b f = ap not (f refl)
not_both false b f = refl

pub neither_true : (a b : Bool) → a || b ≡ false → (a ≡ false) × (b ≡ false)
neither_true true b e = cc
neither_true false b e = (refl, e)
