-- Names that the code sees, and those inside them.
use Rattle.std.proofs.Common.{◌≡◌, ℕ, Bool, true, false, List, ◌∷◌, refl, sym, ap, ◌∙◌, subst, Option, None, Some}
use Rattle.std.specs.Prelude.{if◌then◌else◌}
use Rattle.std.specs.Str.{bytes_eq}
use Rattle.rvc_base.specs.declared.scalar.Scalar.{Scalar}
use Rattle.rvc_base.specs.declared.scalar.Scalar.TheVariants as scalar
use Rattle.cal_ast.specs.Tree as tree
use Rattle.cal_ast.specs.Tree.{Tree}
use Rattle.cal_model.specs.Value.{Kind, NumKind, BoolKind, ListKind, Shape, Single, Many, IsType, kind_of_type, scalars_of_type}
use Rattle.cal_model.specs.Kinding.{Known, Names, counter, meant_by, with_counters, with_known}
use Rattle.lower_base.specs.declared.names.Seat.{Seat}
use Rattle.lower_base.specs.Names.{Name, local_of, named}
use Rattle.lower_base.specs.Parted.{part_at, part_named, whole_in, whole_of}
use Rattle.law_forms.specs.Lowerable.{AreSeen, IsSeen}
use Rattle.law_forms.proofs.Like.{IsWithin, sized_type, type_within}

-- ---- one name more

-- a name inside others is seen, and those that it doesn't hide
pub seen_more : (known : Names) (names : List Name) (x : Known) (t : Shape) (c : ℕ) → IsType t → kind_of_type t ≡ x.kind → AreSeen known names → AreSeen (with_known x known) (local_of x.name t c ∷ names)
seen_more known names x t c typed kind seen text y e = go (bytes_eq x.name text) refl e
  where
    go : (b : Bool) → bytes_eq x.name text ≡ b → ◌≡◌ {A = Option Known} (if b then Some x else meant_by text known) (Some y) → IsSeen (local_of x.name t c ∷ names) text y
    go true f h =
        let same : x ≡ y = cc in
        subst (IsSeen (local_of x.name t c ∷ names) text) same (record {
          name = local_of x.name t c;
          is = ap (λ b. if b then Some (local_of x.name t c) else named text names) f;
          typed = typed;
          kind = kind;
          flat = tt;
        })
    go false f h =
        let s : IsSeen names text y = seen text y h in
        record {
          name = s.name;
          is = ap (λ b. if b then Some (local_of x.name t c) else named text names) f ∙ s.is;
          typed = s.typed;
          kind = s.kind;
          flat = s.flat;
        }

-- ---- names of lists alone

abbrev pub IsListKind : Kind → Type 0
IsListKind NumKind = ⊥
IsListKind BoolKind = ⊥
IsListKind (ListKind n k) = Unit {0}

-- the names of lists are seen, whatever other names mean
abbrev pub ListsSeen : Names → List Name → Type 0
ListsSeen known names = (text : List ℕ) (x : Known) → meant_by text known ≡ Some x → IsListKind x.kind → IsSeen names text x

pub lists_seen : (known : Names) (names : List Name) → AreSeen known names → ListsSeen known names
lists_seen known names seen = λ text x e list. seen text x e

lists_counter : (known : Names) (names : List Name) (name : List ℕ) → ListsSeen known names → ListsSeen (with_known (counter name) known) names
lists_counter known names name seen text y e = go (bytes_eq name text) e
  where
    go : (b : Bool) → ◌≡◌ {A = Option Known} (if b then Some (counter name) else meant_by text known) (Some y) → IsListKind y.kind → IsSeen names text y
    go true h list =
        let same : counter name ≡ y = cc in
        let none : ⊥ = subst (λ (x : Known). IsListKind x.kind) (sym same) list in
        absurd none
    go false h list = seen text y h list

-- the variables of generators hide none of them that is then asked for
pub lists_counters : (gens : Tree) (known : Names) (names : List Name) → ListsSeen known names → ListsSeen (with_counters gens known) names
lists_counters (tree.cons (tree.gen shape (tree.ident name place) from to at) gens) known names seen =
    lists_counters gens (with_known (counter name) known) names (lists_counter known names name seen)
lists_counters other known names seen = seen

-- ---- kinds of names are within what lists may have

abbrev pub KnownWithin : Names → Type 0
KnownWithin known = (text : List ℕ) (x : Known) → meant_by text known ≡ Some x → IsWithin x.kind

pub known_within : (known : Names) (names : List Name) → AreSeen known names → KnownWithin known
known_within known names seen text x e =
    let s : IsSeen names text x = seen text x e in
    subst IsWithin s.kind (type_within s.name.shape s.typed)

within_counter : (known : Names) (name : List ℕ) → KnownWithin known → KnownWithin (with_known (counter name) known)
within_counter known name within text y e = go (bytes_eq name text) e
  where
    go : (b : Bool) → ◌≡◌ {A = Option Known} (if b then Some (counter name) else meant_by text known) (Some y) → IsWithin y.kind
    go true h =
        let same : counter name ≡ y = cc in
        subst (λ (x : Known). IsWithin x.kind) same tt
    go false h = within text y h

pub within_counters : (gens : Tree) (known : Names) → KnownWithin known → KnownWithin (with_counters gens known)
within_counters (tree.cons (tree.gen shape (tree.ident name place) from to at) gens) known within =
    within_counters gens (with_known (counter name) known) (within_counter known name within)
within_counters other known within = within

-- generators bring no functions
pub funs_counters : (gens : Tree) (known : Names) → (with_counters gens known).funs ≡ known.funs
funs_counters (tree.cons (tree.gen shape (tree.ident name place) from to at) gens) known =
    funs_counters gens (with_known (counter name) known)
funs_counters other known = refl

-- ---- lists by their names

abbrev pub IsManyShape : Shape → Type 0
IsManyShape (Single t) = ⊥
IsManyShape (Many n items) = Unit {0}

pub many_of_kind : (t : Shape) (k : Kind) → kind_of_type t ≡ k → IsListKind k → IsManyShape t
many_of_kind (Many n items) k e list = tt
many_of_kind (Single s) k e list = single_kind s (subst IsListKind (sym e) list)
  where
    single_kind : (s : Scalar) → IsListKind (kind_of_type (Single s)) → ⊥
    single_kind scalar.Bool h = h
    single_kind (scalar.Int n) h = h
    single_kind (scalar.Uint n) h = h

whole_typed : (seat : Seat) (t : Shape) → IsType t → IsManyShape t → whole_in seat t ≡ Some (part_at seat t (scalars_of_type t))
whole_typed seat (Single s) typed many = absurd many
whole_typed seat (Many n items) typed many =
    ap (λ (o : Option ℕ). elim o [ None ↦ None | Some k ↦ Some (part_at seat (Many n items) k) ]) (sized_type (Many n items) typed)

-- the list of a name that is seen is a part of itself
pub whole_seen : (names : List Name) (text : List ℕ) (at : ℕ) (x : Known) (s : IsSeen names text x) → IsListKind x.kind
    → part_named names (tree.variable text at) ≡ Some (part_at s.name.seat s.name.shape (scalars_of_type s.name.shape))
whole_seen names text at x s list =
    ap (λ (o : Option Name). elim o [ None ↦ None | Some y ↦ whole_of y ]) s.is
    ∙ whole_typed s.name.seat s.name.shape s.typed (many_of_kind s.name.shape x.kind s.kind list)
