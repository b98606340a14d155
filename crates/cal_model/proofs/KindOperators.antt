-- What operations on values of kinds come to.
use Rattle.std.proofs.Common.{◌≡◌, ℕ, zero, suc, ◌+◌, ◌*◌, ◌≤◌, ℤ, pos, negsuc, ◌+ℤ◌, ◌-ℤ◌, ◌*ℤ◌, ◌^◌, Bool, true, false, refl, sym, ap, subst, ◌∙◌, arith, None, Some}
use Rattle.std.specs.Prelude.{if◌then◌else◌, nat_le, ◌==◌, unsigned_abs, int_div, int_rem, neg_ℤ}
use Rattle.std.specs.Int.{int_shr}
use Rattle.rvc_base.specs.declared.trap.Trap.TheVariants.{Overflow, DivideByZero, ShiftRange, IndexRange}
use Rattle.rvc_base.specs.Width.{IsNum, is_num, max_shift}
use Rattle.rvc_base.specs.Arithmetic.{Computed, whole, add, sub, mul, neg, div, rem, by_count, shl, shr, bit_and, bit_or, bit_xor, bit_not, is_equal, is_below}
use Rattle.rvc_base.specs.Arithmetic as arithmetic
use Rattle.cal_ast.specs.declared.expr.PrefixOp.{PrefixOp}
use Rattle.cal_ast.specs.declared.expr.PrefixOp.TheVariants.{Not, Neg, BitNot}
use Rattle.cal_ast.specs.declared.expr.BinOp.{BinOp}
use Rattle.cal_ast.specs.declared.expr.BinOp.TheVariants.{Or, And, BitOr, BitXor, BitAnd, Eq, Ne, Lt, Le, Gt, Ge, Shl, Shr, Add, Sub, Mul, Div, Mod}
use Rattle.cal_model.specs.Value.{Kind, NumKind, BoolKind, ListKind, Value, Num, Truth, Items, Values, Nil, Cons, count, joined, value_at, HasKind, HaveKind}
use Rattle.cal_model.specs.Outcome.{Out, Gives, Traps, Lacks, Clashes, and_then, turn}
use Rattle.cal_model.specs.Expression.{computed, prefixed, of_numbers, of_truths, applied, with_right, chosen, indexed, range_of, each_from}
use Rattle.cal_model.specs.Kinding.{Fine, prefix_kind, kind_over_numbers, kind_over_truths, binary_kind, item_kind, branch_kind}
use Rattle.cal_model.specs.Keeping.{AreMany}
use Rattle.cal_model.proofs.KindValues.{not-fine, fine-is, one-kind, count-joined, have-joined}
use Rattle.cal_model.proofs.Numbers.{is-num, rest-is-num, shifted-is-num, and-is-num, or-is-num, xor-is-num, not-is-num}

-- An outcome gives such a value, with no more turns left than these, or traps, or lacks a name if L allows it. It
-- never clashes.
abbrev pub Comes : (L : Type 0) {A : Type 0} → (A → Type 0) → ℕ → Out A → Type 0
Comes L P left (Gives a m) = P a × (m ≤ left)
Comes L P left (Traps c) = Unit {0}
Comes L P left Lacks = L
Comes L P left Clashes = ⊥

module _ (L : Type 0) where
  comes-less : {A : Type 0} (P : A → Type 0) (o : Out A) (m left : ℕ) → m ≤ left → Comes L P m o → Comes L P left o
  comes-less P (Gives a k) m left h c = let e : k ≤ m = c.1 in (c.0, omega arith)
  comes-less P (Traps t) m left h c = tt
  comes-less P Lacks m left h c = c
  comes-less P Clashes m left h c = c

  pub comes-then : {A B : Type 0} (P : A → Type 0) (Q : B → Type 0) (o : Out A) (f : A → ℕ → Out B) (left : ℕ)
      → Comes L P left o → ((a : A) (m : ℕ) → P a → Comes L Q m (f a m)) → Comes L Q left (and_then o f)
  comes-then P Q (Gives a m) f left c h = comes-less Q (f a m) m left c.1 (h a m c.0)
  comes-then P Q (Traps t) f left c h = tt
  comes-then P Q Lacks f left c h = c
  comes-then P Q Clashes f left c h = c

  pub comes-turn : {A : Type 0} (P : A → Type 0) (left : ℕ) (f : ℕ → Out A) → ((m : ℕ) → Comes L P m (f m)) → Comes L P left (turn left f)
  comes-turn P zero f h = tt
  comes-turn P (suc left) f h = comes-less P (f left) left (suc left) (omega arith) (h left)

  pub comes-as : {A : Type 0} (P Q : A → Type 0) (o : Out A) (left : ℕ) → ((a : A) → P a → Q a) → Comes L P left o → Comes L Q left o
  comes-as P Q (Gives a m) left h c = (h a c.0, c.1)
  comes-as P Q (Traps t) left h c = tt
  comes-as P Q Lacks left h c = c
  comes-as P Q Clashes left h c = c

  same : (left : ℕ) → left ≤ left
  same left = omega arith

  -- ---- numbers

  pub whole-comes : (z : ℤ) (left : ℕ) → Comes L (HasKind NumKind) left (computed (whole z) left)
  whole-comes z left = go (is_num z) refl
    where
      go : (b : Bool) → is_num z ≡ b → Comes L (HasKind NumKind) left (computed (if b then arithmetic.Gives z else arithmetic.Traps Overflow) left)
      go true e = (is-num z e, same left)
      go false e = tt

  quotient-comes : (b : Bool) (z : ℤ) (left : ℕ) → Comes L (HasKind NumKind) left (computed (if b then arithmetic.Traps DivideByZero else whole z) left)
  quotient-comes true z left = tt
  quotient-comes false z left = whole-comes z left

  rest-comes : (b : Bool) (z : ℤ) (left : ℕ) → IsNum z → Comes L (HasKind NumKind) left (computed (if b then arithmetic.Traps DivideByZero else arithmetic.Gives z) left)
  rest-comes true z left h = tt
  rest-comes false z left h = (h, same left)

  shift-comes : (b : ℤ) (f : ℕ → Computed) (left : ℕ) → ((n : ℕ) → Comes L (HasKind NumKind) left (computed (f n) left)) → Comes L (HasKind NumKind) left (computed (by_count b f) left)
  shift-comes (negsuc n) f left h = tt
  shift-comes (pos n) f left h = go (nat_le n max_shift)
    where
      go : (b : Bool) → Comes L (HasKind NumKind) left (computed (if b then f n else arithmetic.Traps ShiftRange) left)
      go true = h n
      go false = tt

  -- what gives a value of one kind gives one of another name for it
  renamed : (k j : Kind) (o : Out Value) (left : ℕ) → Fine k ≡ Fine j → Comes L (HasKind k) left o → Comes L (HasKind j) left o
  renamed k j o left h c = subst (λ l. Comes L (HasKind l) left o) (fine-is k j h) c

  numbers-come : (op : BinOp) (j : Kind) (at : ℕ) (a b : ℤ) (left : ℕ) → kind_over_numbers op at ≡ Fine j → IsNum a → IsNum b
      → Comes L (HasKind j) left (of_numbers op a b left)
  numbers-come Add j at a b left h p q = renamed NumKind j (of_numbers Add a b left) left h (whole-comes (a +ℤ b) left)
  numbers-come Sub j at a b left h p q = renamed NumKind j (of_numbers Sub a b left) left h (whole-comes (a -ℤ b) left)
  numbers-come Mul j at a b left h p q = renamed NumKind j (of_numbers Mul a b left) left h (whole-comes (a *ℤ b) left)
  numbers-come Div j at a b left h p q = renamed NumKind j (of_numbers Div a b left) left h (quotient-comes (unsigned_abs b == 0) (int_div a b) left)
  numbers-come Mod j at a b left h p q = renamed NumKind j (of_numbers Mod a b left) left h (rest-comes (unsigned_abs b == 0) (int_rem a b) left (rest-is-num a b p))
  numbers-come Shl j at a b left h p q = renamed NumKind j (of_numbers Shl a b left) left h (shift-comes b (λ n. whole (a *ℤ pos (2 ^ n))) left (λ n. whole-comes (a *ℤ pos (2 ^ n)) left))
  numbers-come Shr j at a b left h p q = renamed NumKind j (of_numbers Shr a b left) left h (shift-comes b (λ n. arithmetic.Gives (int_shr a n)) left (λ n. (shifted-is-num a n p, same left)))
  numbers-come BitAnd j at a b left h p q = renamed NumKind j (of_numbers BitAnd a b left) left h (and-is-num a b p, same left)
  numbers-come BitOr j at a b left h p q = renamed NumKind j (of_numbers BitOr a b left) left h (or-is-num a b p q, same left)
  numbers-come BitXor j at a b left h p q = renamed NumKind j (of_numbers BitXor a b left) left h (xor-is-num a b p q, same left)
  numbers-come Eq j at a b left h p q = renamed BoolKind j (of_numbers Eq a b left) left h (tt, same left)
  numbers-come Ne j at a b left h p q = renamed BoolKind j (of_numbers Ne a b left) left h (tt, same left)
  numbers-come Lt j at a b left h p q = renamed BoolKind j (of_numbers Lt a b left) left h (tt, same left)
  numbers-come Le j at a b left h p q = renamed BoolKind j (of_numbers Le a b left) left h (tt, same left)
  numbers-come Gt j at a b left h p q = renamed BoolKind j (of_numbers Gt a b left) left h (tt, same left)
  numbers-come Ge j at a b left h p q = renamed BoolKind j (of_numbers Ge a b left) left h (tt, same left)
  numbers-come And j at a b left h p q = absurd (not-fine _ at j h)
  numbers-come Or j at a b left h p q = absurd (not-fine _ at j h)

  truths-come : (op : BinOp) (j : Kind) (at : ℕ) (a b : Bool) (left : ℕ) → kind_over_truths op at ≡ Fine j → Comes L (HasKind j) left (of_truths op a b left)
  truths-come And j at a b left h = renamed BoolKind j (of_truths And a b left) left h (tt, same left)
  truths-come Or j at a b left h = renamed BoolKind j (of_truths Or a b left) left h (tt, same left)
  truths-come Eq j at a b left h = renamed BoolKind j (of_truths Eq a b left) left h (tt, same left)
  truths-come Ne j at a b left h = renamed BoolKind j (of_truths Ne a b left) left h (tt, same left)
  truths-come op j at a b left h = absurd (not-fine _ at j h)

  -- ---- operators

  pub prefixed-comes : (op : PrefixOp) (k j : Kind) (at : ℕ) (v : Value) (left : ℕ) → prefix_kind op k at ≡ Fine j → HasKind k v
      → Comes L (HasKind j) left (prefixed op v left)
  prefixed-comes Not BoolKind j at (Truth b) left h p = renamed BoolKind j (prefixed Not (Truth b) left) left h (tt, same left)
  prefixed-comes Not BoolKind j at v left h p = absurd p
  prefixed-comes Neg NumKind j at (Num a) left h p = renamed NumKind j (prefixed Neg (Num a) left) left h (whole-comes (neg_ℤ a) left)
  prefixed-comes Neg NumKind j at v left h p = absurd p
  prefixed-comes BitNot NumKind j at (Num a) left h p = renamed NumKind j (prefixed BitNot (Num a) left) left h (not-is-num a p, same left)
  prefixed-comes BitNot NumKind j at v left h p = absurd p
  prefixed-comes op k j at v left h p = absurd (not-fine _ at j h)

  applied-comes : (op : BinOp) (k m j : Kind) (at : ℕ) (v w : Value) (left : ℕ) → binary_kind op k m at ≡ Fine j → HasKind k v → HasKind m w
      → Comes L (HasKind j) left (applied op v w left)
  applied-comes op NumKind NumKind j at (Num a) (Num b) left h p q = numbers-come op j at a b left h p q
  applied-comes op NumKind NumKind j at (Num a) w left h p q = absurd q
  applied-comes op NumKind NumKind j at v w left h p q = absurd p
  applied-comes op BoolKind BoolKind j at (Truth a) (Truth b) left h p q = truths-come op j at a b left h
  applied-comes op BoolKind BoolKind j at (Truth a) w left h p q = absurd q
  applied-comes op BoolKind BoolKind j at v w left h p q = absurd p
  applied-comes op k m j at v w left h p q = absurd (not-fine _ at j h)

  -- if one side is a truth value, `and` and `or` give one
  and-is-truth : (k m j : Kind) (at : ℕ) (b : Bool) → binary_kind And k m at ≡ Fine j → HasKind k (Truth b) → HasKind j (Truth b)
  and-is-truth BoolKind BoolKind j at b h p = subst (λ l. HasKind l (Truth b)) (fine-is BoolKind j h) tt
  and-is-truth NumKind m j at b h p = absurd p
  and-is-truth (ListKind n k) m j at b h p = absurd p
  and-is-truth k m j at b h p = absurd (not-fine _ at j h)

  or-is-truth : (k m j : Kind) (at : ℕ) (b : Bool) → binary_kind Or k m at ≡ Fine j → HasKind k (Truth b) → HasKind j (Truth b)
  or-is-truth BoolKind BoolKind j at b h p = subst (λ l. HasKind l (Truth b)) (fine-is BoolKind j h) tt
  or-is-truth NumKind m j at b h p = absurd p
  or-is-truth (ListKind n k) m j at b h p = absurd p
  or-is-truth k m j at b h p = absurd (not-fine _ at j h)

  pub right-comes : (op : BinOp) (k m j : Kind) (at : ℕ) (v : Value) (right : ℕ → Out Value) (left : ℕ) → binary_kind op k m at ≡ Fine j → HasKind k v
      → ((n : ℕ) → Comes L (HasKind m) n (right n)) → Comes L (HasKind j) left (with_right op v right left)
  right-comes And k m j at (Truth false) right left h p r = (and-is-truth k m j at false h p, same left)
  right-comes Or k m j at (Truth true) right left h p r = (or-is-truth k m j at true h p, same left)
  right-comes op k m j at v right left h p r =
      comes-then (HasKind m) (HasKind j) (right left) (λ w n. applied op v w n) left (r left) (λ w n q. applied-comes op k m j at v w n h p q)

  -- ---- branches, places and ranges

  pub chosen-comes : (k : Kind) (v : Value) (f g : ℕ → Out Value) (left : ℕ) → HasKind BoolKind v → ((n : ℕ) → Comes L (HasKind k) n (f n)) → ((n : ℕ) → Comes L (HasKind k) n (g n))
      → Comes L (HasKind k) left (chosen v f g left)
  chosen-comes k (Truth true) f g left p h i = h left
  chosen-comes k (Truth false) f g left p h i = i left
  chosen-comes k (Num z) f g left p h i = absurd p
  chosen-comes k (Items vs) f g left p h i = absurd p

  place-comes : (k : Kind) (vs : Values) (n left : ℕ) → HaveKind k vs
      → Comes L (HasKind k) left (elim (value_at vs n) [ None ↦ Traps IndexRange | Some v ↦ Gives v left ])
  place-comes k Nil n left h = tt
  place-comes k (Cons v vs) zero left h = (h.0, same left)
  place-comes k (Cons v vs) (suc n) left h = place-comes k vs n left h.1

  pub indexed-comes : (k l j : Kind) (at : ℕ) (v w : Value) (left : ℕ) → item_kind k l at ≡ Fine j → HasKind k v → HasKind l w
      → Comes L (HasKind j) left (indexed v w left)
  indexed-comes (ListKind n k) NumKind j at (Items vs) (Num (pos i)) left h p q = renamed k j (indexed (Items vs) (Num (pos i)) left) left h (place-comes k vs i left p.1)
  indexed-comes (ListKind n k) NumKind j at (Items vs) (Num (negsuc i)) left h p q = tt
  indexed-comes (ListKind n k) NumKind j at (Items vs) w left h p q = absurd q
  indexed-comes (ListKind n k) NumKind j at v w left h p q = absurd p
  indexed-comes k l j at v w left h p q = absurd (not-fine _ at j h)

  pub range-comes : {A : Type 0} (P : A → Type 0) (v w : Value) (a b : ℤ) (f : ℤ → ℤ → Out A) (left : ℕ) → v ≡ Num a → w ≡ Num b → Comes L P left (f a b) → Comes L P left (range_of v w f)
  range-comes P v w a b f left d e h =
      subst (λ u. Comes L P left (range_of u w f)) (sym d) (subst (λ u. Comes L P left (range_of (Num a) u f)) (sym e) h)

  joined-makes : (k : Kind) (n m : ℕ) (vs ws : Values) → AreMany m k vs → AreMany (n * m) k ws → AreMany (suc n * m) k (joined vs ws)
  joined-makes k n m vs ws h i = let e : count (joined vs ws) ≡ count vs + count ws = count-joined vs ws in (e ∙ (let s : count vs + count ws ≡ suc n * m = ap (λ c. c + count ws) h.0 ∙ ap (λ c. m + c) i.0 ∙ omega arith in s), have-joined k vs ws h.1 i.1)

  pub each-comes : (k : Kind) (n m : ℕ) (i : ℤ) (f : ℤ → ℕ → Out Values) (left : ℕ) → ((j : ℤ) (l : ℕ) → Comes L (AreMany m k) l (f j l))
      → Comes L (AreMany (n * m) k) left (each_from n i f left)
  each-comes k zero m i f left h = (((let e : 0 ≡ 0 * m = omega arith in e), tt), same left)
  each-comes k (suc n) m i f left h =
      comes-then (AreMany m k) (AreMany (suc n * m) k) (f i left) _ left (h i left) (λ vs l p.
      comes-then (AreMany (n * m) k) (AreMany (suc n * m) k) (each_from n (i +ℤ pos 1) f l) _ l (each-comes k n m (i +ℤ pos 1) f l h) (λ ws r q.
      (joined-makes k n m vs ws p q, same r)))

-- an `if` has the kind of both its branches
pub branch-kind : (c k l j : Kind) (at : ℕ) → branch_kind c k l at ≡ Fine j → (c ≡ BoolKind) × (k ≡ j) × (l ≡ j)
branch-kind BoolKind k l j at h = let i = one-kind k l j at h in (refl, i.1, sym i.0 ∙ i.1)
branch-kind NumKind k l j at h = absurd (not-fine _ at j h)
branch-kind (ListKind n c) k l j at h = absurd (not-fine _ at j h)
