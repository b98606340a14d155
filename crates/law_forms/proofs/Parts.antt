-- Parts of named lists that chains of indexes give are of the kinds of these chains.
use Rattle.std.proofs.Common.{◌≡◌, ℕ, true, List, refl, sym, ap, ◌∙◌, subst, Option, Some}
use Rattle.cal_ast.specs.Tree as tree
use Rattle.cal_ast.specs.Tree.{Tree}
use Rattle.cal_model.specs.Value.{Kind, NumKind, BoolKind, ListKind, Shape, Single, Many, kind_of_scalar, kind_of_type}
use Rattle.cal_model.specs.Kinding.{Fine, Known, Names, kind, meant_by}
use Rattle.cal_model.proofs.KindValues.{split}
use Rattle.lower_base.specs.declared.names.Seat.{Seat}
use Rattle.lower_base.specs.declared.names.Seat.TheVariants.{Cell, Tokens}
use Rattle.lower_base.specs.Growing.{first_cell}
use Rattle.lower_base.specs.Names.{IsSingle, Name}
use Rattle.lower_base.specs.Parted.{Part, alike, item_in, part_at, part_named}
use Rattle.lower_base.proofs.PartValues.{IsItemOf, IsWhole, index_found, whole_found}
use Rattle.law_forms.specs.Lowerable.{AreSeen, FlatAt, IsLike, IsSeen}
use Rattle.law_forms.proofs.Like.{IsOne, both_alike, like_kind, one_scalar}
use Rattle.law_forms.proofs.Ones.{IsItem, item_parts, known_kind}

-- what an index gives of tokens is a single value
abbrev OneAt : Seat → Shape → Type 0
OneAt (Cell c) t = Unit {0}
OneAt (Tokens port first step) t = IsSingle t

item_one : (seat : Seat) (n : ℕ) (items : Shape) → FlatAt seat (Many n items) → OneAt seat items
item_one (Cell c) n items h = tt
item_one (Tokens port first step) n (Single t) h = tt
item_one (Tokens port first step) n (Many m items) h = h

one_flat : (seat : Seat) (t : Shape) → OneAt seat t → FlatAt seat t
one_flat (Cell c) t h = tt
one_flat (Tokens port first step) (Single t) h = tt
one_flat (Tokens port first step) (Many n items) h = absurd h

-- a part of a kind, which is a single value or a list of them if it is one of tokens
record IsPartOfKind (p : Part) (k : Kind) : Type 0 where
  kind : kind_of_type p.shape ≡ k
  flat : FlatAt p.seat p.shape

record IsItemOfKind (p : Part) (k : Kind) : Type 0 where
  kind : kind_of_type p.shape ≡ k
  one : OneAt p.seat p.shape

list_item : (m n : ℕ) (a b : Kind) → ListKind m a ≡ ListKind n b → a ≡ b
list_item m n a b e = cc

item_of_kind : (q p : Part) (t : Shape) (n : ℕ) (k : Kind) → q.shape ≡ t → kind_of_type t ≡ ListKind n k → FlatAt q.seat t → item_in q.seat q.size t ≡ Some p → IsItemOfKind p k
item_of_kind q p (Single s) n k e f flat h = cc
item_of_kind q p (Many m items) n k e f flat h =
    let same : part_at q.seat items q.size ≡ p = cc in
    subst (λ (r : Part). IsItemOfKind r k) same (record { kind = list_item m n (kind_of_type items) k f; one = item_one q.seat m items flat })

named_part : (names : List Name) (text : List ℕ) (at : ℕ) (x : Known) (p : Part) → IsSeen names text x → part_named names (tree.variable text at) ≡ Some p → IsPartOfKind p x.kind
named_part names text at x p s e =
    let w : IsWhole names text p = whole_found names text at p e in
    let there : ◌≡◌ {A = Option Name} (Some s.name) (Some w.x) = sym s.is ∙ w.is in
    let same : s.name ≡ w.x = cc in
    let shape : s.name.shape ≡ p.shape = ap (λ (y : Name). y.shape) same ∙ w.shape in
    let seat : s.name.seat ≡ p.seat = ap (λ (y : Name). y.seat) same ∙ w.seat in
    record {
      kind = ap kind_of_type (sym shape) ∙ s.kind;
      flat = subst (λ (t : Shape). FlatAt p.seat t) shape (subst (λ (c : Seat). FlatAt c s.name.shape) seat s.flat);
    }

index_item : (base place : Tree) (at : ℕ) (known : Names) (names : List Name) (k : Kind) (p : Part) → ((j : Kind) (q : Part) → kind base known ≡ Fine j → part_named names base ≡ Some q → IsPartOfKind q j)
    → kind (tree.index base place at) known ≡ Fine k → part_named names (tree.index base place at) ≡ Some p → IsItemOfKind p k
index_item base place at known names k p whole h e =
    let x = split (kind base known) _ k h in
    let y = split (kind place known) _ k x.2 in
    let i : IsItem x.0 y.0 k = item_parts x.0 y.0 k at y.2 in
    let f : IsItemOf names base p = index_found names base place at p e in
    let w : IsPartOfKind f.whole x.0 = whole x.0 f.whole x.1 f.is in
    item_of_kind f.whole p f.whole.shape i.count k refl (w.kind ∙ i.list) w.flat f.item

part_of_kind : (e : Tree) (known : Names) (names : List Name) (k : Kind) (p : Part) → AreSeen known names → kind e known ≡ Fine k → part_named names e ≡ Some p → IsPartOfKind p k
part_of_kind (tree.variable text at) known names k p seen h e =
    let x = known_kind (meant_by text known) k at h in
    subst (IsPartOfKind p) x.2 (named_part names text at x.0 p (seen text x.0 x.1) e)
part_of_kind (tree.index base place at) known names k p seen h e =
    let i : IsItemOfKind p k = index_item base place at known names k p (λ j q f g. part_of_kind base known names j q seen f g) h e in
    record { kind = i.kind; flat = one_flat p.seat p.shape i.one }
part_of_kind other known names k p seen h e = cc

-- a list that an index gives of a named one stands in cells, and is of the types that are meant
pub record IsPartMeant (p : Part) (t : Shape) : Type 0 where
  pub like : alike t p.shape ≡ true
  pub cell : ℕ
  pub first : first_cell p.seat ≡ Some cell

many_not_one : (n : ℕ) (items : Shape) (k : Kind) → IsOne k → IsLike (Many n items) k → ⊥
many_not_one n items NumKind o h = h
many_not_one n items BoolKind o h = h
many_not_one n items (ListKind m k) o h = o

in_cells : (seat : Seat) (t u : Shape) (k : Kind) (n : ℕ) (items : Shape) → t ≡ Many n items → IsLike t k → kind_of_type u ≡ k → OneAt seat u → (c : ℕ) × (first_cell seat ≡ Some c)
in_cells (Cell c) t u k n items e like f one = (c, refl)
in_cells (Tokens port first step) t (Many m others) k n items e like f one = absurd one
in_cells (Tokens port first step) t (Single s) k n items e like f one =
    absurd (many_not_one n items (kind_of_scalar s) (one_scalar s) (subst (λ (j : Kind). IsLike (Many n items) j) (sym f) (subst (λ (u : Shape). IsLike u k) e like)))

pub part_meant : (base place : Tree) (at : ℕ) (known : Names) (names : List Name) (k : Kind) (p : Part) (n : ℕ) (items : Shape) → AreSeen known names → kind (tree.index base place at) known ≡ Fine k
    → part_named names (tree.index base place at) ≡ Some p → IsLike (Many n items) k → IsPartMeant p (Many n items)
part_meant base place at known names k p n items seen h e like =
    let i : IsItemOfKind p k = index_item base place at known names k p (λ j q f g. part_of_kind base known names j q seen f g) h e in
    let c = in_cells p.seat (Many n items) p.shape k n items refl like i.kind i.one in
    record { like = both_alike (Many n items) p.shape k like (like_kind p.shape k i.kind); cell = c.0; first = c.1 }
