-- Nothing is left out of an assignment.
use Rattle.std.proofs.Common.{◌≡◌, ℕ, List, [], ◌∷◌, Bool, true, false, refl, sym, ap, ◌∙◌, subst, Option, None, Some, arith}
use Rattle.std.specs.Prelude.{nat_eq, if◌then◌else◌}
use Rattle.std.proofs.lemmas.Bool.Decides.{nat_tests}
use Rattle.rvc_base.specs.declared.scalar.Scalar.{Scalar}
use Rattle.rvc_base.specs.declared.scalar.Scalar.TheVariants as scalar
use Rattle.cal_ast.specs.Tree as tree
use Rattle.cal_ast.specs.Tree.{Tree}
use Rattle.cal_model.specs.Value.{Kind, NumKind, BoolKind, ListKind, Shape, Single, Many, IsType, kind_of_scalar, kind_of_type}
use Rattle.cal_model.specs.Kinding.{Fine, Names, and_so, kind, kinds}
use Rattle.cal_model.specs.Sound.{AreAll, kind_inside}
use Rattle.cal_model.proofs.KindValues.{both, fine-is, split}
use Rattle.lower_base.specs.declared.names.ItemList.{ItemList}
use Rattle.lower_base.specs.declared.names.Seat.{Seat}
use Rattle.lower_base.specs.declared.names.Seat.TheVariants.{Cell}
use Rattle.lower_base.specs.Callees.{Function}
use Rattle.lower_base.specs.Growing.{left_out_fill, left_out_fills, left_out_in, left_out_many, left_out_whole as left_out_named_whole, one, ◌or_else◌}
use Rattle.lower_base.specs.Listed.{items_in, items_of, list_named}
use Rattle.lower_base.specs.Names.{Name, local_of, named}
use Rattle.lower_base.specs.Parted.{Part, alike, number_of, part_at, sized, whole_in, whole_of}
use Rattle.lower_stmt.specs.StmtGrowing.{left_out_chosen, left_out_copy, left_out_deep, left_out_each, left_out_filled, left_out_list, left_out_part, left_out_put, left_out_set, left_out_whole}
use Rattle.lower_stmt.specs.Targets.{cell_named, cell_of, cells_named, cells_of, part_in}
use Rattle.law_forms.specs.Lowerable.{IsLike}
use Rattle.law_forms.proofs.Like.{like_own, sized_type}
use Rattle.law_bodies.proofs.Types.{none_both, none_first, none_second, one_like}

-- nothing is left out of an expression, wherever a type of its kind is meant
abbrev pub NoneOf : List Function → List Name → Tree → Kind → Type 0
NoneOf fs names e k = (t : Shape) → IsLike t k → left_out_fill fs names t e ≡ None

-- ---- the words of the definitions, of what was found

abbrev part_in_name : Option Name → Option Part
part_in_name o = elim o [ None ↦ None | Some x ↦ whole_of x ]

abbrev list_in_name : Option Name → Option ItemList
list_in_name o = elim o [ None ↦ None | Some x ↦ items_of x ]

abbrev sized_part : Seat → Shape → Option ℕ → Option Part
sized_part seat t o = elim o [ None ↦ None | Some k ↦ Some (part_at seat t k) ]

-- the place of a name where a list of so many single values is meant, unless it is that of one
abbrev unlike_at : ℕ → ℕ → Option Part → Option ℕ
unlike_at n place o = elim o [ None ↦ Some place | Some p ↦ if alike (Many n one) p.shape then None else Some place ]

-- ---- places

pub all_numbers : (k : Kind) (ks : List Kind) (l : Kind) → kind_inside k ks ≡ Some l → AreAll NumKind ks
all_numbers k [] l e = tt
all_numbers (ListKind n k) (NumKind ∷ ks) l e = (refl, all_numbers k ks l e)
all_numbers (ListKind n k) (BoolKind ∷ ks) l e = cc
all_numbers (ListKind n k) (ListKind m j ∷ ks) l e = cc
all_numbers NumKind (j ∷ ks) l e = cc
all_numbers BoolKind (j ∷ ks) l e = cc

-- so many indexes choose a part of a type, of this kind
pub record IsPartOf (t : Shape) (places : Tree) (k : Kind) : Type 0 where
  pub shape : Shape
  pub is : part_in t places ≡ Some shape
  pub kind : kind_of_type shape ≡ k

no_part : (s : Scalar) (j : Kind) (ks : List Kind) (k : Kind) → kind_inside (kind_of_scalar s) (j ∷ ks) ≡ Some k → ⊥
no_part scalar.Bool j ks k e = cc
no_part (scalar.Int n) j ks k e = cc
no_part (scalar.Uint n) j ks k e = cc

inside_list : (n : ℕ) (items : Kind) (j : Kind) (ks : List Kind) (k : Kind) → kind_inside (ListKind n items) (j ∷ ks) ≡ Some k → kind_inside items ks ≡ Some k
inside_list n items NumKind ks k e = e
inside_list n items BoolKind ks k e = cc
inside_list n items (ListKind m j) ks k e = cc

pub part_of : (t : Shape) (places : Tree) (known : Names) (ks : List Kind) (k : Kind) → kinds places known ≡ Fine ks → kind_inside (kind_of_type t) ks ≡ Some k → IsPartOf t places k
part_of t tree.nil known ks k e f =
    let none : ◌≡◌ {A = List Kind} [] ks = fine-is [] ks e in
    let whole : kind_inside (kind_of_type t) [] ≡ Some k = subst (λ l. kind_inside (kind_of_type t) l ≡ Some k) (sym none) f in
    record { shape = t; is = refl; kind = cc }
part_of (Single s) (tree.cons place places) known ks k e f =
    let a = split (kind place known) (λ j. and_so (kinds places known) (λ js. Fine (j ∷ js))) ks e in
    let b = split (kinds places known) (λ js. Fine (a.0 ∷ js)) ks a.2 in
    let same : a.0 ∷ b.0 ≡ ks = fine-is (a.0 ∷ b.0) ks b.2 in
    absurd (no_part s a.0 b.0 k (subst (λ l. kind_inside (kind_of_scalar s) l ≡ Some k) (sym same) f))
part_of (Many n items) (tree.cons place places) known ks k e f =
    let a = split (kind place known) (λ j. and_so (kinds places known) (λ js. Fine (j ∷ js))) ks e in
    let b = split (kinds places known) (λ js. Fine (a.0 ∷ js)) ks a.2 in
    let same : a.0 ∷ b.0 ≡ ks = fine-is (a.0 ∷ b.0) ks b.2 in
    let inner : kind_inside (kind_of_type items) b.0 ≡ Some k = inside_list n (kind_of_type items) a.0 b.0 k (subst (λ l. kind_inside (ListKind n (kind_of_type items)) l ≡ Some k) (sym same) f) in
    let p : IsPartOf items places k = part_of items places known b.0 k b.1 inner in
    record { shape = p.shape; is = p.is; kind = p.kind }
part_of t other known ks k e f = cc

module _ (fs : List Function) (names : List Name) where
  -- ---- what is known of the value

  pub each_none : (es : Tree) → left_out_fills fs names one es ≡ None → left_out_each fs names es ≡ None
  each_none (tree.cons e es) h =
      none_both (left_out_in fs names e) (left_out_each fs names es) (none_first (left_out_in fs names e) (left_out_fills fs names one es) h)
      (each_none es (none_second (left_out_in fs names e) (left_out_fills fs names one es) h))
  each_none other h = refl

  -- of a list that is written out
  items_none : (es : Tree) (n at : ℕ) → left_out_many (Many n one) at (Some (number_of es)) (λ items. left_out_fills fs names items es) ≡ None → (nat_eq (number_of es) n ≡ true) × (left_out_fills fs names one es ≡ None)
  items_none es n at e = go (nat_eq (number_of es) n) refl e
    where
      go : (b : Bool) → nat_eq (number_of es) n ≡ b → (if b then left_out_fills fs names one es else Some at) ≡ None → (nat_eq (number_of es) n ≡ true) × (left_out_fills fs names one es ≡ None)
      go true is h = (is, h)
      go false is h = cc

  -- of a list that is named
  copy_none : (d n : ℕ) (s : Scalar) (from : List ℕ) (place at : ℕ) → left_out_named_whole names (Many n one) from place ≡ None → left_out_copy (record { cell = d; size = n; kind = s }) (list_named names (tree.variable from place)) at ≡ None
  copy_none d n s from place at e = go (named from names) e
    where
      truly : (b : Bool) → (if b then None else Some place) ≡ None → b ≡ true
      truly true h = refl
      truly false h = cc

      alike_there : (seat : Seat) (m : ℕ) (items : Shape) (o : Option ℕ) → unlike_at n place (sized_part seat (Many m items) o) ≡ None
          → alike (Many n one) (Many m items) ≡ true
      alike_there seat m items None h = cc
      alike_there seat m items (Some k) h = truly (alike (Many n one) (Many m items)) h

      fits : (seat : Seat) (m : ℕ) (items : Shape) → alike (Many n one) (Many m items) ≡ true → left_out_copy (record { cell = d; size = n; kind = s }) (items_in seat (Many m items)) at ≡ None
      fits seat m (Single t) h =
          let first = both (nat_eq n m) true h in
          let test : nat_eq n m ≡ true = first.0 in
          let same : nat_eq m n ≡ true = grind (arith, nat_tests, test) in
          ap (λ b. if b then None else Some at) same
      fits seat m (Many k items) h = let first = both (nat_eq n m) false h in cc (first.1)

      shaped : (seat : Seat) (t : Shape) → unlike_at n place (whole_in seat t) ≡ None → left_out_copy (record { cell = d; size = n; kind = s }) (items_in seat t) at ≡ None
      shaped seat (Single t) h = cc
      shaped seat (Many m items) h = fits seat m items (alike_there seat m items (sized (Many m items)) h)

      go : (o : Option Name) → unlike_at n place (part_in_name o) ≡ None → left_out_copy (record { cell = d; size = n; kind = s }) (list_in_name o) at ≡ None
      go None h = cc
      go (Some x) h = shaped x.seat x.shape h

  -- ---- a list that is assigned

  -- the name stands for values of a type, in cells
  module _ (text hidden : List ℕ) (c : ℕ) where
    abbrev Named : Shape → Type 0
    Named t = named text names ≡ Some (local_of hidden t c)

    cell_is : (t : Shape) → Named t → cell_named names text ≡ cell_of (Cell c) t
    cell_is t is = ap (λ (o : Option Name). elim o [ None ↦ None | Some x ↦ cell_of x.seat x.shape ]) is

    cells_are : (n : ℕ) (s : Scalar) → Named (Many n (Single s)) → cells_named names text ≡ Some (record { cell = c; size = n; kind = s })
    cells_are n s is =
        let listed : list_named names (tree.variable text 0) ≡ Some (record { seat = Cell c; size = n; kind = s }) = ap list_in_name is in
        ap (λ (o : Option ItemList). elim o [ None ↦ None | Some l ↦ cells_of l ]) listed

    no_cells : (n m : ℕ) (items : Shape) → Named (Many n (Many m items)) → cells_named names text ≡ None
    no_cells n m items is =
        let none : list_named names (tree.variable text 0) ≡ None = ap list_in_name is in
        ap (λ (o : Option ItemList). elim o [ None ↦ None | Some l ↦ cells_of l ]) none

    -- all of it, filled apart
    filled_none : (n : ℕ) (items : Shape) (value : Tree) (at : ℕ) → Named (Many n items) → IsType (Many n items) → NoneOf fs names value (kind_of_type (Many n items)) → left_out_filled fs names text value at ≡ None
    filled_none n items value at is typed none =
        ap (λ (o : Option Name). left_out_part fs names (part_in_name o) value at) is
        ∙ ap (λ (o : Option ℕ). left_out_part fs names (sized_part (Cell c) (Many n items) o) value at) (sized_type (Many n items) typed)
        ∙ none (Many n items) (like_own (Many n items))

    -- .. of single values
    whole_none : (n : ℕ) (s : Scalar) (value : Tree) (at : ℕ) → Named (Many n (Single s)) → IsType (Many n (Single s)) → NoneOf fs names value (kind_of_type (Many n (Single s)))
        → left_out_whole fs names (record { cell = c; size = n; kind = s }) text value at ≡ None
    whole_none n s (tree.list items list) at is typed none =
        let found = items_none items n list (none (Many n one) (refl, one_like s)) in
        ap (λ b. if b then left_out_each fs names items else Some at) found.0 ∙ each_none items found.1
    whole_none n s (tree.variable from place) at is typed none =
        copy_none c n s from place at (none (Many n one) (refl, one_like s))
    whole_none n s other at is typed none = filled_none n (Single s) other at is typed none

    list_none : (n : ℕ) (items : Shape) (value : Tree) (at : ℕ) → Named (Many n items) → IsType (Many n items) → NoneOf fs names value (kind_of_type (Many n items)) → left_out_list fs names text value at ≡ None
    list_none n (Single s) value at is typed none =
        ap (λ o. elim o [ None ↦ left_out_filled fs names text value at | Some d ↦ left_out_whole fs names d text value at ]) (cells_are n s is)
        ∙ whole_none n s value at is typed none
    list_none n (Many m items) value at is typed none =
        ap (λ o. elim o [ None ↦ left_out_filled fs names text value at | Some d ↦ left_out_whole fs names d text value at ]) (no_cells n m items is)
        ∙ filled_none n (Many m items) value at is typed none

    -- a part of it
    deep_none : (n : ℕ) (items u : Shape) (places value : Tree) (at : ℕ) → Named (Many n items) → IsType (Many n items) → part_in (Many n items) places ≡ Some u → left_out_each fs names places ≡ None → NoneOf fs names value (kind_of_type u)
        → left_out_deep fs names text places value at ≡ None
    deep_none n items u places value at is typed part each none =
        ap (λ (o : Option Name). left_out_chosen fs names (part_in_name o) places value at) is
        ∙ ap (λ (o : Option ℕ). left_out_chosen fs names (sized_part (Cell c) (Many n items) o) places value at) (sized_type (Many n items) typed)
        ∙ ap (λ o. left_out_put fs names o places value at) part
        ∙ none_both (left_out_each fs names places) (left_out_fill fs names u value) each (none u (like_own u))

    -- an item of a list of single values, or of another list
    spot_none : (n : ℕ) (items u : Shape) (spot value : Tree) (at : ℕ) → Named (Many n items) → IsType (Many n items) → part_in (Many n items) (tree.cons spot tree.nil) ≡ Some u → left_out_each fs names (tree.cons spot tree.nil) ≡ None
        → NoneOf fs names value (kind_of_type u) → left_out_set fs names text (tree.cons spot tree.nil) value at ≡ None
    spot_none n (Single s) u spot value at is typed part each none =
        let same : Single s ≡ u = cc in
        let single : left_out_in fs names value ≡ None = none one (subst (λ (t : Shape). IsLike one (kind_of_type t)) same (one_like s)) in
        ap (λ o. elim o [ None ↦ left_out_deep fs names text (tree.cons spot tree.nil) value at | Some d ↦ left_out_in fs names spot or_else left_out_in fs names value ]) (cells_are n s is)
        ∙ none_both (left_out_in fs names spot) (left_out_in fs names value) (none_first (left_out_in fs names spot) None each) single
    spot_none n (Many m items) u spot value at is typed part each none =
        ap (λ o. elim o [ None ↦ left_out_deep fs names text (tree.cons spot tree.nil) value at | Some d ↦ left_out_in fs names spot or_else left_out_in fs names value ]) (no_cells n m items is)
        ∙ deep_none n (Many m items) u (tree.cons spot tree.nil) value at is typed part each none

    some_list_none : (n : ℕ) (items u : Shape) (places value : Tree) (at : ℕ) → Named (Many n items) → IsType (Many n items) → part_in (Many n items) places ≡ Some u → left_out_each fs names places ≡ None → NoneOf fs names value (kind_of_type u)
        → left_out_set fs names text places value at ≡ None
    some_list_none n items u tree.nil value at is typed part each none =
        let same : Many n items ≡ u = cc in
        ap (λ o. elim o [ None ↦ left_out_list fs names text value at | Some d ↦ left_out_in fs names value ]) (cell_is (Many n items) is)
        ∙ list_none n items value at is typed (subst (λ (t : Shape). NoneOf fs names value (kind_of_type t)) (sym same) none)
    some_list_none n items u (tree.cons spot tree.nil) value at is typed part each none = spot_none n items u spot value at is typed part each none
    some_list_none n items u (tree.cons spot (tree.cons next places)) value at is typed part each none = deep_none n items u (tree.cons spot (tree.cons next places)) value at is typed part each none
    some_list_none n items u other value at is typed part each none = cc

    one_none : (s : Scalar) (u : Shape) (places value : Tree) (at : ℕ) → Named (Single s) → part_in (Single s) places ≡ Some u → NoneOf fs names value (kind_of_type u) → left_out_set fs names text places value at ≡ None
    one_none s u tree.nil value at is part none =
        let same : Single s ≡ u = cc in
        let single : left_out_in fs names value ≡ None = none one (subst (λ (t : Shape). IsLike one (kind_of_type t)) same (one_like s)) in
        ap (λ o. elim o [ None ↦ left_out_list fs names text value at | Some d ↦ left_out_in fs names value ]) (cell_is (Single s) is)
        ∙ single
    one_none s u other value at is part none = cc

    pub set_none : (t u : Shape) (places value : Tree) (at : ℕ) → Named t → IsType t → part_in t places ≡ Some u → left_out_each fs names places ≡ None → NoneOf fs names value (kind_of_type u) → left_out_set fs names text places value at ≡ None
    set_none (Single s) u places value at is typed part each none = one_none s u places value at is part none
    set_none (Many n items) u places value at is typed part each none = some_list_none n items u places value at is typed part each none
