-- Parts of named lists, and the values that they are.
use Rattle.std.proofs.Common.{◌≡◌, ℕ, zero, suc, ◌+◌, ◌*◌, ◌<◌, ℤ, pos, negsuc, List, [], ◌∷◌, ◌++◌, length, Bool, true, false, refl, sym, ap, ◌∙◌, subst, Option, None, Some, arith}
use Rattle.std.specs.Prelude.{◌^◌, if◌then◌else◌, nat_lt, slice_get}
use Rattle.std.proofs.lemmas.Bool.Decides.{nat_tests}
use Rattle.rvc_base.specs.declared.trap.Trap.TheVariants.{IndexRange}
use Rattle.cal_ast.specs.Tree as tree
use Rattle.cal_ast.specs.Tree.{Tree}
use Rattle.cal_model.specs.Value.{Kind, Shape, Single, Many, Value, Num, Truth, Items, Values, Nil, Cons, value_at, HasKind, HaveKind, kind_of_type, scalars_of_kind, scalars_of_type}
use Rattle.cal_model.specs.Outcome.{Out, Gives, Traps, Lacks, Clashes, and_then, known}
use Rattle.cal_model.specs.Env.{Env, look_up}
use Rattle.cal_model.specs.Expression.{Calls, eval, indexed}
use Rattle.lower_base.specs.declared.names.ItemList.{ItemList}
use Rattle.lower_base.specs.declared.parts.Rows.{Rows}
use Rattle.lower_base.specs.Flat.{flat, flat_all}
use Rattle.lower_base.specs.Following.{Follows}
use Rattle.lower_base.specs.Held.{HoldsName, Holds}
use Rattle.lower_base.specs.Names.{Name, named}
use Rattle.lower_base.specs.Parted.{IsPart, Part, deep_named, item_in, item_of, part_at, part_named, rows_in, rows_named, singles_in, sized, whole_in, whole_of}
use Rattle.lower_base.proofs.Keeping.{flat_length}
use Rattle.lower_base.proofs.Listing.{item_kind}
use Rattle.lower_base.proofs.Runs.{follows_then}

-- ---- sizes

-- a list whose number of numbers fits
pub record IsSized (n : ℕ) (items : Shape) (k : ℕ) : Type 0 where
  pub each : ℕ
  pub items_are : sized items ≡ Some each
  pub is : k ≡ n * each
  pub less : k < 2 ^ 32

pub sized_list : (n : ℕ) (items : Shape) (k : ℕ) → sized (Many n items) ≡ Some k → IsSized n items k
sized_list n items k e = go (sized items) refl e
  where
    fit : (each : ℕ) (b : Bool) → sized items ≡ Some each → nat_lt (n * each) (2 ^ 32) ≡ b
        → ◌≡◌ {A = Option ℕ} (if b then Some (n * each) else None) (Some k) → IsSized n items k
    fit each true is t h = record { each = each; items_are = is; is = sym (same h); less = let s = same h in subst (λ x. x < 2 ^ 32) s (grind (arith, nat_tests, t)) }
      where
        same : ◌≡◌ {A = Option ℕ} (Some (n * each)) (Some k) → n * each ≡ k
        same h = cc
    fit each false is t h = cc

    go : (o : Option ℕ) → sized items ≡ o
        → ◌≡◌ {A = Option ℕ} (elim o [ None ↦ None | Some x ↦ if nat_lt (n * x) (2 ^ 32) then Some (n * x) else None ]) (Some k) → IsSized n items k
    go None is h = cc
    go (Some each) is h = fit each (nat_lt (n * each) (2 ^ 32)) is refl h

pub sized_is : (t : Shape) (k : ℕ) → sized t ≡ Some k → scalars_of_type t ≡ k
sized_is (Single t) k e = cc
sized_is (Many n items) k e =
    let s : IsSized n items k = sized_list n items k e in
    ap (λ m. n * m) (sized_is items s.each s.items_are) ∙ sym s.is

-- ---- parts by their names

-- the part is the whole list of a name
pub record IsWhole (names : List Name) (text : List ℕ) (p : Part) : Type 0 where
  pub x : Name
  pub is : named text names ≡ Some x
  pub seat : x.seat ≡ p.seat
  pub shape : x.shape ≡ p.shape
  pub size : sized x.shape ≡ Some p.size
  pub less : p.size < 2 ^ 32

-- the name whose list a part is in
pub record IsPartOf (names : List Name) (p : Part) : Type 0 where
  pub text : List ℕ
  pub x : Name
  pub is : named text names ≡ Some x
  pub seat : x.seat ≡ p.seat
  pub size : sized x.shape ≡ Some p.size
  pub each : ℕ
  pub part_size : sized p.shape ≡ Some each

whole_at : (names : List Name) (text : List ℕ) (x : Name) (p : Part) (t : Shape) → x.shape ≡ t → named text names ≡ Some x → whole_in x.seat t ≡ Some p → IsWhole names text p
whole_at names text x p (Single t) e is h = cc
whole_at names text x p (Many n items) e is h = go (sized (Many n items)) refl h
  where
    go : (o : Option ℕ) → sized (Many n items) ≡ o → ◌≡◌ {A = Option Part} (elim o [ None ↦ None | Some k ↦ Some (part_at x.seat (Many n items) k) ]) (Some p) → IsWhole names text p
    go None s h = cc
    go (Some k) s h =
        let same : part_at x.seat (Many n items) k ≡ p = cc in
        let list : IsSized n items k = sized_list n items k s in
        subst (λ q. IsWhole names text q) same (record { x = x; is = is; seat = refl; shape = e; size = ap sized e ∙ s; less = list.less })

whole_name : (names : List Name) (text : List ℕ) (p : Part) (o : Option Name) → named text names ≡ o → ◌≡◌ {A = Option Part} (elim o [ None ↦ None | Some x ↦ whole_of x ]) (Some p) → IsWhole names text p
whole_name names text p None e h = cc
whole_name names text p (Some x) e h = whole_at names text x p x.shape refl e h

pub whole_found : (names : List Name) (text : List ℕ) (at : ℕ) (p : Part) → part_named names (tree.variable text at) ≡ Some p → IsWhole names text p
whole_found names text at p h = whole_name names text p (named text names) refl h

item_found : (names : List Name) (q p : Part) (t : Shape) → q.shape ≡ t → IsPartOf names q → item_in q.seat q.size t ≡ Some p → IsPartOf names p
item_found names q p (Single t) e f h = cc
item_found names q p (Many n items) e f h =
    let same : part_at q.seat items q.size ≡ p = cc in
    let list : IsSized n items f.each = sized_list n items f.each (ap sized (sym e) ∙ f.part_size) in
    subst (λ r. IsPartOf names r) same (record {
      text = f.text;
      x = f.x;
      is = f.is;
      seat = f.seat;
      size = f.size;
      each = list.each;
      part_size = list.items_are;
    })

-- a chain of one index more gives an item of the part
pub record IsItemOf (names : List Name) (base : Tree) (p : Part) : Type 0 where
  pub whole : Part
  pub is : part_named names base ≡ Some whole
  pub item : item_in whole.seat whole.size whole.shape ≡ Some p

pub index_found : (names : List Name) (base place : Tree) (at : ℕ) (p : Part) → part_named names (tree.index base place at) ≡ Some p → IsItemOf names base p
index_found names base place at p e = go (part_named names base) refl e
  where
    go : (o : Option Part) → part_named names base ≡ o → ◌≡◌ {A = Option Part} (elim o [ None ↦ None | Some q ↦ item_of q ]) (Some p) → IsItemOf names base p
    go None is h = cc
    go (Some q) is h = record { whole = q; is = is; item = h }

pub part_found : (names : List Name) (e : Tree) (p : Part) → part_named names e ≡ Some p → IsPartOf names p
part_found names (tree.variable text at) p h =
    let f : IsWhole names text p = whole_found names text at p h in
    record { text = text; x = f.x; is = f.is; seat = f.seat; size = f.size; each = p.size; part_size = ap sized (sym f.shape) ∙ f.size }
part_found names (tree.index base place at) p h =
    let f : IsItemOf names base p = index_found names base place at p h in
    item_found names f.whole p f.whole.shape refl (part_found names base f.whole f.is) f.item
part_found names e p h = cc

-- ---- lists of items

-- the part that an index is put on is a list
pub record HasRows (names : List Name) (e : Tree) (r : Rows) : Type 0 where
  pub part : Part
  pub is : part_named names e ≡ Some part
  pub items : Shape
  pub shape : part.shape ≡ Many r.count items
  pub each : sized items ≡ Some r.each

rows_at : (names : List Name) (e : Tree) (r : Rows) (p : Part) (t : Shape) → part_named names e ≡ Some p → p.shape ≡ t → rows_in t ≡ Some r → HasRows names e r
rows_at names e r p (Single t) is s h = cc
rows_at names e r p (Many n items) is s h = go (sized items) refl h
  where
    go : (o : Option ℕ) → sized items ≡ o → ◌≡◌ {A = Option Rows} (elim o [ None ↦ None | Some k ↦ Some (record { count = n; each = k }) ]) (Some r) → HasRows names e r
    go None z h = cc
    go (Some k) z h =
        let made : Rows = record { count = n; each = k } in
        let same : made ≡ r = cc in
        record { part = p; is = is; items = items; shape = s ∙ ap (λ (x : Rows). Many x.count items) same; each = z ∙ ap (λ (x : Rows). Some x.each) same }

pub rows_found : (names : List Name) (e : Tree) (r : Rows) → rows_named names e ≡ Some r → HasRows names e r
rows_found names e r h = go (part_named names e) refl h
  where
    go : (o : Option Part) → part_named names e ≡ o → ◌≡◌ {A = Option Rows} (elim o [ None ↦ None | Some p ↦ rows_in p.shape ]) (Some r) → HasRows names e r
    go None is h = cc
    go (Some p) is h = rows_at names e r p p.shape is refl h

-- a chain of one index more is one on rows
pub item_has_rows : (names : List Name) (base place : Tree) (at : ℕ) → IsPart names (tree.index base place at) → rows_named names base ≡ None → ⊥
item_has_rows names base place at some none = go (part_named names base) refl
  where
    sized_items : (q : Part) (n : ℕ) (items : Shape) (o : Option ℕ) → IsPartOf names q → q.shape ≡ Many n items → sized items ≡ o
        → ◌≡◌ {A = Option Rows} (elim o [ None ↦ None | Some k ↦ Some (record { count = n; each = k }) ]) None → ⊥
    sized_items q n items None f s z h =
        let list : IsSized n items f.each = sized_list n items f.each (ap sized (sym s) ∙ f.part_size) in
        let one : ◌≡◌ {A = Option ℕ} None (Some list.each) = sym z ∙ list.items_are in
        cc
    sized_items q n items (Some k) f s z h = cc

    at_shape : (q : Part) (t : Shape) → part_named names base ≡ Some q → q.shape ≡ t → rows_in t ≡ None → ⊥
    at_shape q (Single t) is s h =
        some (ap (λ (o : Option Part). elim o [ None ↦ None | Some p ↦ item_of p ]) is ∙ ap (λ t. item_in q.seat q.size t) s)
    at_shape q (Many n items) is s h = sized_items q n items (sized items) (part_found names base q is) s refl h

    go : (o : Option Part) → part_named names base ≡ o → ⊥
    go None is = some (ap (λ (o : Option Part). elim o [ None ↦ None | Some p ↦ item_of p ]) is)
    go (Some q) is = at_shape q q.shape is refl (sym (ap (λ (o : Option Part). elim o [ None ↦ None | Some p ↦ rows_in p.shape ]) is) ∙ none)

-- ---- single values at the end of a chain

pub record IsDeep (names : List Name) (e : Tree) (l : ItemList) : Type 0 where
  pub part : Part
  pub is : part_named names e ≡ Some part
  pub shape : part.shape ≡ Single l.kind
  pub seat : part.seat ≡ l.seat
  pub size : part.size ≡ l.size

deep_at : (names : List Name) (e : Tree) (l : ItemList) (p : Part) (t : Shape) → part_named names e ≡ Some p → p.shape ≡ t → singles_in p.seat p.size t ≡ Some l → IsDeep names e l
deep_at names e l p (Single t) is s h =
    let made : ItemList = record { seat = p.seat; size = p.size; kind = t } in
    let same : made ≡ l = cc in
    record { part = p; is = is; shape = s ∙ ap (λ (x : ItemList). Single x.kind) same; seat = ap (λ (x : ItemList). x.seat) same; size = ap (λ (x : ItemList). x.size) same }
deep_at names e l p (Many n items) is s h = cc

pub deep_found : (names : List Name) (e : Tree) (l : ItemList) → deep_named names e ≡ Some l → IsDeep names e l
deep_found names e l h = go (part_named names e) refl h
  where
    go : (o : Option Part) → part_named names e ≡ o → ◌≡◌ {A = Option ItemList} (elim o [ None ↦ None | Some p ↦ singles_in p.seat p.size p.shape ]) (Some l) → IsDeep names e l
    go None is h = cc
    go (Some p) is h = deep_at names e l p p.shape is refl h

pub deep_is_part : (names : List Name) (e : Tree) (l : ItemList) → deep_named names e ≡ Some l → IsPart names e
deep_is_part names e l h none = let d : IsDeep names e l = deep_found names e l h in let z : ◌≡◌ {A = Option Part} None (Some d.part) = sym none ∙ d.is in cc

-- ---- values of parts

-- what the outcome gives, if anything, is of a type
abbrev pub OnlyOf : Shape → Out Value → Type 0
OnlyOf t o = Follows o (λ v m. HasKind (kind_of_type t) v) (λ c. Unit {0})

item_only : (n : ℕ) (items : Shape) (v i : Value) (left : ℕ) → HasKind (kind_of_type (Many n items)) v → OnlyOf items (indexed v i left)
item_only n items (Num z) i left h = absurd h
item_only n items (Truth b) i left h = absurd h
item_only n items (Items vs) (Truth b) left h = tt
item_only n items (Items vs) (Items us) left h = tt
item_only n items (Items vs) (Num (negsuc k)) left h = tt
item_only n items (Items vs) (Num (pos k)) left h = go (value_at vs k) refl
  where
    go : (o : Option Value) → value_at vs k ≡ o → OnlyOf items (elim o [ None ↦ Traps IndexRange | Some v ↦ Gives v left ])
    go None e = tt
    go (Some v) e = item_kind (kind_of_type items) vs k v h.1 e

only_any : {A : Type 0} (o : Out A) → Follows o (λ v m. Unit {0}) (λ c. Unit {0})
only_any (Gives v left) = tt
only_any (Traps c) = tt
only_any Lacks = tt
only_any Clashes = tt

-- the list that a name means
whole_only : (t : Shape) (o : Option Value) (v : Value) (left : ℕ) → o ≡ Some v → HasKind (kind_of_type t) v → OnlyOf t (known o left)
whole_only t o v left e h = subst (λ (x : Option Value). OnlyOf t (known x left)) (sym e) h

module _ (names : List Name) (tokens : ℕ → List ℤ) (cells : List ℤ) (env : Env) (calls : Calls) (holds : Holds names tokens cells env) where
  name_only : (text : List ℕ) (at : ℕ) (p : Part) (left : ℕ) → part_named names (tree.variable text at) ≡ Some p → OnlyOf p.shape (known (look_up text env) left)
  name_only text at p left h =
      let f : IsWhole names text p = whole_found names text at p h in
      let held : HoldsName tokens cells env text f.x = holds text f.x f.is in
      whole_only p.shape (look_up text env) held.value left held.meant (subst (λ t. HasKind (kind_of_type t) held.value) f.shape held.of_type)

  row_only : (q p : Part) (t : Shape) (v i : Value) (left : ℕ) → q.shape ≡ t → item_in q.seat q.size t ≡ Some p → HasKind (kind_of_type t) v → OnlyOf p.shape (indexed v i left)
  row_only q p (Single t) v i left e h k = cc
  row_only q p (Many n items) v i left e h k =
      let same : part_at q.seat items q.size ≡ p = cc in
      subst (λ (r : Part). OnlyOf r.shape (indexed v i left)) same (item_only n items v i left k)

  -- a chain gives values of the part's type
  pub part_only : (e : Tree) (p : Part) (left : ℕ) → part_named names e ≡ Some p → OnlyOf p.shape (eval e calls env left)
  part_only (tree.variable text at) p left h = name_only text at p left h
  part_only (tree.index base place at) p left h =
      let f : IsItemOf names base p = index_found names base place at p h in
      follows_then (eval base calls env left) (λ v m. and_then (eval place calls env m) (λ i k. indexed v i k)) (λ v m. HasKind (kind_of_type f.whole.shape) v) (λ c. Unit {0}) (λ v m. HasKind (kind_of_type p.shape) v) (λ c. Unit {0})
      (part_only base f.whole left f.is)
      (λ v m k. follows_then (eval place calls env m) (λ i j. indexed v i j) (λ i j. Unit {0}) (λ c. Unit {0}) (λ v m. HasKind (kind_of_type p.shape) v) (λ c. Unit {0})
      (only_any (eval place calls env m))
      (λ i j u. row_only f.whole p f.whole.shape v i j refl f.item k)
      (λ c t. tt))
      (λ c t. tt)
  part_only e p left h = cc

  -- .. and single values of a type at its end
  pub deep_only : (e : Tree) (l : ItemList) (left : ℕ) → deep_named names e ≡ Some l → OnlyOf (Single l.kind) (eval e calls env left)
  deep_only e l left h =
      let d : IsDeep names e l = deep_found names e l h in
      subst (λ t. OnlyOf t (eval e calls env left)) d.shape (part_only e d.part left d.is)

-- ---- numbers of items

pub front_get : (xs ys : List ℤ) (j : ℕ) (z : ℤ) → slice_get xs j ≡ Some z → slice_get (xs ++ ys) j ≡ Some z
front_get [] ys j z e = cc
front_get (x ∷ xs) ys zero z e = e
front_get (x ∷ xs) ys (suc j) z e = front_get xs ys j z e

pub behind_get : (xs ys : List ℤ) (j : ℕ) → slice_get (xs ++ ys) (length xs + j) ≡ slice_get ys j
behind_get [] ys j = let e : 0 + j ≡ j = omega arith in ap (λ i. slice_get ys i) e
behind_get (x ∷ xs) ys j = let e : suc (length xs) + j ≡ suc (length xs + j) = omega arith in ap (λ i. slice_get (x ∷ (xs ++ ys)) i) e ∙ behind_get xs ys j

-- those of an item stand together among those of the list
pub item_numbers : (k : Kind) (vs : Values) (q : ℕ) (u : Value) (j : ℕ) (z : ℤ) → HaveKind k vs → value_at vs q ≡ Some u → slice_get (flat u) j ≡ Some z → slice_get (flat_all vs) (q * scalars_of_kind k + j) ≡ Some z
item_numbers k Nil q u j z h e g = cc
item_numbers k (Cons v vs) zero u j z h e g =
    let same : v ≡ u = cc in
    let at : 0 * scalars_of_kind k + j ≡ j = omega arith in
    ap (λ i. slice_get (flat v ++ flat_all vs) i) at ∙ front_get (flat v) (flat_all vs) j z (subst (λ w. slice_get (flat w) j ≡ Some z) (sym same) g)
item_numbers k (Cons v vs) (suc q) u j z h e g =
    let size : length (flat v) ≡ scalars_of_kind k = flat_length k v h.0 in
    let m : ℕ = scalars_of_kind k in
    let more : suc q * m ≡ m + q * m = omega arith in
    let at : suc q * m + j ≡ length (flat v) + (q * m + j) = omega (arith, size, more) in
    ap (λ i. slice_get (flat v ++ flat_all vs) i) at ∙ behind_get (flat v) (flat_all vs) (q * m + j) ∙ item_numbers k vs q u j z h.1 e g
