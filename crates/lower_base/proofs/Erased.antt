-- Which cells names have doesn't matter to what is left out.
use Rattle.std.proofs.Common.{◌≡◌, ℕ, suc, ◌-◌, List, [], ◌∷◌, map, Bool, true, false, refl, sym, ap, ◌∙◌, Option, None, Some}
use Rattle.std.specs.Prelude.{if◌then◌else◌, nat_eq, not, ◌&&◌, ◌||◌}
use Rattle.std.specs.Str.{bytes_eq}
use Rattle.rvc_base.specs.declared.scalar.Scalar.{Scalar}
use Rattle.cal_ast.specs.Tree as tree
use Rattle.cal_ast.specs.Tree.{Tree}
use Rattle.cal_ast.specs.View.{optional}
use Rattle.cal_model.specs.Actor.{Local}
use Rattle.cal_model.specs.Value.{Shape, Single, Many}
use Rattle.lower_base.specs.declared.names.ItemList.{ItemList}
use Rattle.lower_base.specs.declared.names.Seat.{Seat}
use Rattle.lower_base.specs.declared.names.Seat.TheVariants.{Cell, Tokens}
use Rattle.lower_base.specs.Generators.{Counted, counted_by, made_by, makes_none}
use Rattle.lower_base.specs.Growing.{first_cell, is_short, left_out_apart, left_out_args, left_out_element, left_out_fill, left_out_fills, left_out_gens, left_out_in, left_out_made, left_out_many, left_out_name, left_out_named, left_out_places, one, where_one, ◌or_else◌}
use Rattle.lower_base.specs.ItemsSeen.{few, first_seen, items_at, items_listed, items_made, items_seen}
use Rattle.lower_base.specs.Listed.{items_in, items_of, list_named, single_of}
use Rattle.lower_base.specs.Names.{local, Name, named, shape_named}
use Rattle.lower_base.specs.Parted.{Part, alike, deep_named, item_in, item_of, part_at, number_of, part_named, singles_in, sized, whole_in, whole_of}
use Rattle.lower_base.specs.Starting.{left_out_list_start, left_out_local, left_out_start}
use Rattle.lower_base.specs.Types.{type_size}
use Rattle.lower_base.specs.Callees.{Function, function_for}
use Rattle.lower_base.specs.declared.sorts.Sort.{Sort}
use Rattle.lower_base.specs.declared.sorts.Sort.TheVariants as sort
use Rattle.lower_base.specs.Truths.{all_give, binary_gives, call_gives, gives_at, is_truth, name_gives, prefix_gives, under_gens, under_made, with_none, with_one}

-- a seat without its cell
abbrev pub erase_seat : Seat → Seat
erase_seat (Cell c) = Cell 0
erase_seat (Tokens port first step) = Tokens port first step

abbrev pub erase : Name → Name
erase x = record { text = x.text; shape = x.shape; seat = erase_seat x.seat }

abbrev pub erased : Option Name → Option Name
erased None = None
erased (Some x) = Some (erase x)

abbrev pub erased_list : Option ItemList → Option ItemList
erased_list None = None
erased_list (Some l) = Some (record { seat = erase_seat l.seat; size = l.size; kind = l.kind })

abbrev list_in_name : Option Name → Option ItemList
list_in_name o = elim o [ None ↦ None | Some x ↦ items_of x ]

-- ---- names

pub named_erased : (text : List ℕ) (names : List Name) → named text (map erase names) ≡ erased (named text names)
named_erased text [] = refl
named_erased text (x ∷ xs) = go (bytes_eq x.text text) (named_erased text xs)
  where
    go : (b : Bool) → named text (map erase xs) ≡ erased (named text xs)
        → (if b then Some (erase x) else named text (map erase xs)) ≡ erased (if b then Some x else named text xs)
    go true h = refl
    go false h = h

items_erased : (seat : Seat) (shape : Shape) → items_in (erase_seat seat) shape ≡ erased_list (items_in seat shape)
items_erased seat (Single t) = refl
items_erased seat (Many n (Single t)) = refl
items_erased seat (Many n (Many k items)) = refl

pub list_erased : (names : List Name) (e : Tree) → list_named (map erase names) e ≡ erased_list (list_named names e)
list_erased names (tree.variable text at) = ap list_in_name (named_erased text names) ∙ go (named text names)
  where
    go : (o : Option Name) → list_in_name (erased o) ≡ erased_list (list_in_name o)
    go None = refl
    go (Some x) = items_erased x.seat x.shape
list_erased names other = refl

abbrev pub erased_part : Option Part → Option Part
erased_part None = None
erased_part (Some p) = Some (part_at (erase_seat p.seat) p.shape p.size)

whole_erased : (seat : Seat) (shape : Shape) → whole_in (erase_seat seat) shape ≡ erased_part (whole_in seat shape)
whole_erased seat (Single t) = refl
whole_erased seat (Many n items) = go (sized (Many n items))
  where
    go : (o : Option ℕ) → ◌≡◌ {A = Option Part} (elim o [ None ↦ None | Some k ↦ Some (part_at (erase_seat seat) (Many n items) k) ]) (erased_part (elim o [ None ↦ None | Some k ↦ Some (part_at seat (Many n items) k) ]))
    go None = refl
    go (Some k) = refl

item_in_erased : (seat : Seat) (size : ℕ) (shape : Shape) → item_in (erase_seat seat) size shape ≡ erased_part (item_in seat size shape)
item_in_erased seat size (Single t) = refl
item_in_erased seat size (Many n items) = refl

abbrev part_in_name : Option Name → Option Part
part_in_name o = elim o [ None ↦ None | Some x ↦ whole_of x ]

abbrev item_in_part : Option Part → Option Part
item_in_part o = elim o [ None ↦ None | Some p ↦ item_of p ]

pub part_erased : (names : List Name) (e : Tree) → part_named (map erase names) e ≡ erased_part (part_named names e)
part_erased names (tree.variable text at) = ap part_in_name (named_erased text names) ∙ go (named text names)
  where
    go : (o : Option Name) → part_in_name (erased o) ≡ erased_part (part_in_name o)
    go None = refl
    go (Some x) = whole_erased x.seat x.shape
part_erased names (tree.index base place at) = ap item_in_part (part_erased names base) ∙ go (part_named names base)
  where
    go : (o : Option Part) → item_in_part (erased_part o) ≡ erased_part (item_in_part o)
    go None = refl
    go (Some p) = item_in_erased p.seat p.size p.shape
part_erased names other = refl

abbrev deep_in_part : Option Part → Option ItemList
deep_in_part o = elim o [ None ↦ None | Some p ↦ singles_in p.seat p.size p.shape ]

singles_erased : (seat : Seat) (size : ℕ) (shape : Shape) → singles_in (erase_seat seat) size shape ≡ erased_list (singles_in seat size shape)
singles_erased seat size (Single t) = refl
singles_erased seat size (Many n items) = refl

deep_erased : (names : List Name) (e : Tree) → deep_named (map erase names) e ≡ erased_list (deep_named names e)
deep_erased names e = ap deep_in_part (part_erased names e) ∙ go (part_named names e)
  where
    go : (o : Option Part) → deep_in_part (erased_part o) ≡ erased_list (deep_in_part o)
    go None = refl
    go (Some p) = singles_erased p.seat p.size p.shape

-- ---- values that are seen to be of a sort

both_give : {a b c d : Bool} → a ≡ b → c ≡ d → a && c ≡ b && d
both_give {b = b} {c = c} e f = ap (λ x. x && c) e ∙ ap (λ x. b && x) f

abbrev shape_in : Option Name → Option Shape
shape_in o = elim o [ None ↦ None | Some x ↦ Some x.shape ]

shape_erased : (names : List Name) (text : List ℕ) → shape_named (map erase names) text ≡ shape_named names text
shape_erased names text = ap shape_in (named_erased text names) ∙ go (named text names)
  where
    go : (o : Option Name) → shape_in (erased o) ≡ shape_in o
    go None = refl
    go (Some x) = refl

with_one_same : (d : ℕ) (f g : ℕ → Bool) → ((k : ℕ) → f k ≡ g k) → with_one d f ≡ with_one d g
with_one_same d f g h = ap (λ b. if nat_eq d 0 then false else b) (h (d - 1))

with_none_same : (d : ℕ) {a b : Bool} → a ≡ b → with_none d a ≡ with_none d b
with_none_same d e = ap (with_none d) e

abbrev under_name : List Name → Tree → (List Name → Bool) → Option Counted → Bool
under_name names gens f o = elim o [ None ↦ false | Some x ↦ under_gens (local x.text x.kind 0 ∷ names) gens f ]

under_same : (names : List Name) (gens : Tree) (f : List Name → Bool) (o : Option Counted) → ((inner : List Name) → under_gens (map erase inner) gens f ≡ under_gens inner gens f)
    → under_name (map erase names) gens f o ≡ under_name names gens f o
under_same names gens f None h = refl
under_same names gens f (Some x) h = h (local x.text x.kind 0 ∷ names)

under_erased : (names : List Name) (gens : Tree) (f : List Name → Bool) → ((inner : List Name) → f (map erase inner) ≡ f inner) → under_gens (map erase names) gens f ≡ under_gens names gens f
under_erased names (tree.cons g gens) f h = under_same names gens f (counted_by g) (λ inner. under_erased inner gens f h)
under_erased names gens f h = h names

under_made_erased : (names : List Name) (gens : Tree) (f : List Name → Bool) → ((inner : List Name) → f (map erase inner) ≡ f inner) → under_made (map erase names) gens f ≡ under_made names gens f
under_made_erased names gens f h = ap (λ b. makes_none gens || b) (under_erased names gens f h)

mutual
  pub gives_erased : (s : Sort) (d : ℕ) (fs : List Function) (names : List Name) (e : Tree) → gives_at s d fs (map erase names) e ≡ gives_at s d fs names e
  gives_erased s d fs names (tree.number k at) = refl
  gives_erased s d fs names (tree.truth b at) = refl
  gives_erased s d fs names (tree.variable text at) = ap (name_gives s d) (shape_erased names text)
  gives_erased s d fs names (tree.paren e at) = gives_erased s d fs names e
  gives_erased s d fs names (tree.if_expr test first other at) = both_give (gives_erased s d fs names first) (gives_erased s d fs names other)
  gives_erased s d fs names (tree.prefix o e at) = with_none_same d (ap (prefix_gives s o) (gives_erased sort.Any 0 fs names e))
  gives_erased s d fs names (tree.binary o l r at) =
      with_none_same d (ap (λ b. binary_gives s o b (gives_at sort.Any 0 fs (map erase names) r)) (gives_erased sort.Any 0 fs names l) ∙ ap (binary_gives s o (gives_at sort.Any 0 fs names l)) (gives_erased sort.Any 0 fs names r))
  gives_erased s d fs names (tree.call text args at) = with_none_same d (ap (call_gives s (function_for text (number_of args) fs)) (all_erased sort.Any 0 fs names args))
  gives_erased s d fs names (tree.list es at) = with_one_same d (λ k. all_give s k fs (map erase names) es) (λ k. all_give s k fs names es) (λ k. all_erased s k fs names es)
  gives_erased s d fs names (tree.comp item gens at) =
      with_one_same d (λ k. under_made (map erase names) gens (λ inner. gives_at s k fs inner item)) (λ k. under_made names gens (λ inner. gives_at s k fs inner item))
      (λ k. under_made_erased names gens (λ inner. gives_at s k fs inner item) (λ inner. gives_erased s k fs inner item))
  gives_erased s d fs names (tree.index base place at) = gives_erased s (suc d) fs names base
  gives_erased s d fs names other = refl

  all_erased : (s : Sort) (d : ℕ) (fs : List Function) (names : List Name) (es : Tree) → all_give s d fs (map erase names) es ≡ all_give s d fs names es
  all_erased s d fs names (tree.cons e es) = both_give (gives_erased s d fs names e) (all_erased s d fs names es)
  all_erased s d fs names other = refl

-- ---- expressions

pub both_same : {a b c d : Option ℕ} → a ≡ b → c ≡ d → a or_else c ≡ b or_else d
both_same {b = b} {c = c} e f = ap (λ x. x or_else c) e ∙ ap (λ x. b or_else x) f

-- what is left out of an index where a single value is meant: of the place if the list is one of single values, else of a
-- chain if it is one, and else of a list that is filled apart
abbrev left_index : Option ItemList → Option ItemList → Option ℕ → Option ℕ → Option ℕ → Option ℕ
left_index single deep x y z = elim single [ Some l ↦ x | None ↦ elim deep [ Some l ↦ y or_else x | None ↦ z ] ]

index_left : (single deep : Option ItemList) (x y z : Option ℕ) → left_index (erased_list single) (erased_list deep) x y z ≡ left_index single deep x y z
index_left None None x y z = refl
index_left None (Some l) x y z = refl
index_left (Some k) deep x y z = refl

-- .. and where a list is meant
abbrev left_part : Shape → Option Part → ℕ → Option ℕ → Option ℕ → Option ℕ
left_part t o at x z = elim o [
  | Some p ↦ if alike t p.shape then elim (first_cell p.seat) [ None ↦ Some at | Some c ↦ x ] else Some at
  | None ↦ z
]

part_left : (t : Shape) (o : Option Part) (at : ℕ) (x z : Option ℕ) → left_part t (erased_part o) at x z ≡ left_part t o at x z
part_left t None at x z = refl
part_left t (Some p) at x z = ap (λ y. if alike t p.shape then y else Some at) (at_seat p.seat)
  where
    at_seat : (seat : Seat) → ◌≡◌ {A = Option ℕ} (elim (first_cell (erase_seat seat)) [ None ↦ Some at | Some c ↦ x ]) (elim (first_cell seat) [ None ↦ Some at | Some c ↦ x ])
    at_seat (Cell c) = refl
    at_seat (Tokens port first step) = refl

-- .. and of a call: of the arguments, if there are as many as formals
abbrev left_call : Option Function → ℕ → Option ℕ → Option ℕ
left_call o at x = elim o [ None ↦ Some at | Some f ↦ x ]

-- what is left out of a name where a list is meant
abbrev in_whole : Shape → ℕ → Option Part → Option ℕ
in_whole t at o = elim o [ None ↦ Some at | Some p ↦ if alike t p.shape then None else Some at ]

named_left : (names : List Name) (t : Shape) (text : List ℕ) (at : ℕ) → left_out_named (map erase names) t text at ≡ left_out_named names t text at
named_left names (Single t) text at = ap (λ o. left_out_name o at) (named_erased text names) ∙ go (named text names)
  where
    go : (o : Option Name) → left_out_name (erased o) at ≡ left_out_name o at
    go None = refl
    go (Some x) = refl
named_left names (Many n items) text at = ap (in_whole (Many n items) at) (part_erased names (tree.variable text at)) ∙ go (part_named names (tree.variable text at))
  where
    go : (o : Option Part) → in_whole (Many n items) at (erased_part o) ≡ in_whole (Many n items) at o
    go None = refl
    go (Some p) = refl

many_same : (t : Shape) (at : ℕ) (many : Option ℕ) (f g : Shape → Option ℕ) → ((items : Shape) → f items ≡ g items) → left_out_many t at many f ≡ left_out_many t at many g
many_same (Single t) at many f g h = refl
many_same (Many n items) at None f g h = refl
many_same (Many n items) at (Some k) f g h = ap (λ o. if nat_eq k n then o else Some at) (h items)

pub element_same : (t : Shape) (a b x y : Option ℕ) → a ≡ b → x ≡ y → left_out_element t a x ≡ left_out_element t b y
element_same (Single t) a b x y e f = e
element_same (Many n items) a b x y e f = f

abbrev pub inside_gens : List Name → Tree → (List Name → Option ℕ) → Option Counted → Option ℕ
inside_gens names gens f o = elim o [ None ↦ None | Some x ↦ left_out_gens (local x.text x.kind 0 ∷ names) gens f ]

inside_same : (names : List Name) (gens : Tree) (f : List Name → Option ℕ) (o : Option Counted) → ((inner : List Name) → left_out_gens (map erase inner) gens f ≡ left_out_gens inner gens f) → inside_gens (map erase names) gens f o ≡ inside_gens names gens f o
inside_same names gens f None h = refl
inside_same names gens f (Some x) h = h (local x.text x.kind 0 ∷ names)

pub gens_erased : (names : List Name) (gens : Tree) (f : List Name → Option ℕ) → ((inner : List Name) → f (map erase inner) ≡ f inner) → left_out_gens (map erase names) gens f ≡ left_out_gens names gens f
gens_erased names (tree.cons g gens) f h = inside_same names gens f (counted_by g) (λ inner. gens_erased inner gens f h)
gens_erased names gens f h = h names

made_erased : (names : List Name) (gens : Tree) (f : List Name → Option ℕ) → ((inner : List Name) → f (map erase inner) ≡ f inner) → left_out_made (map erase names) gens f ≡ left_out_made names gens f
made_erased names gens f h = ap (λ (o : Option ℕ). if makes_none gens then None else o) (gens_erased names gens f h)

-- lists that are filled apart
apart_same : (n : Option ℕ) (t : Shape) (at : ℕ) (f g : Shape → Option ℕ) (x y : Option ℕ) → ((list : Shape) → f list ≡ g list) → x ≡ y → left_out_apart n t at f x ≡ left_out_apart n t at g y
apart_same None t at f g x y h e = refl
apart_same (Some n) t at f g x y h e = ap (λ (a : Option ℕ). elim (sized (Many n t)) [ None ↦ Some at | Some size ↦ a ]) (both_same (h (Many n t)) e)

abbrev seen_in : ℕ → Option Part → Option ℕ
seen_in d o = elim o [ None ↦ None | Some p ↦ items_at d p.shape ]

listed_same : (d n : ℕ) (f g : ℕ → Option ℕ) → ((k : ℕ) → f k ≡ g k) → items_listed d n f ≡ items_listed d n g
listed_same d n f g h = ap (λ o. if nat_eq d 0 then few n else o) (h (d - 1))

made_same : (d : ℕ) (o : Option ℕ) (f g : ℕ → Option ℕ) → ((k : ℕ) → f k ≡ g k) → items_made d o f ≡ items_made d o g
made_same d o f g h = ap (λ x. if nat_eq d 0 then o else x) (h (d - 1))

mutual
  items_erased_seen : (names : List Name) (e : Tree) (d : ℕ) → items_seen (map erase names) e d ≡ items_seen names e d
  items_erased_seen names (tree.variable text at) d = ap (seen_in d) (part_erased names (tree.variable text at)) ∙ go (part_named names (tree.variable text at))
    where
      go : (o : Option Part) → seen_in d (erased_part o) ≡ seen_in d o
      go None = refl
      go (Some p) = refl
  items_erased_seen names (tree.paren e at) d = items_erased_seen names e d
  items_erased_seen names (tree.if_expr test first other at) d = items_erased_seen names first d
  items_erased_seen names (tree.list es at) d = listed_same d (number_of es) (λ k. first_seen (map erase names) es k) (λ k. first_seen names es k) (λ k. first_erased_seen names es k)
  items_erased_seen names (tree.comp item gens at) d = made_same d (made_by gens) (λ k. items_seen (map erase names) item k) (λ k. items_seen names item k) (λ k. items_erased_seen names item k)
  items_erased_seen names (tree.index base place at) d = items_erased_seen names base (suc d)
  items_erased_seen names rest d = refl

  first_erased_seen : (names : List Name) (es : Tree) (d : ℕ) → first_seen (map erase names) es d ≡ first_seen names es d
  first_erased_seen names (tree.cons e es) d = items_erased_seen names e d
  first_erased_seen names rest d = refl

mutual
  -- which cells names have doesn't matter to what is left out
  pub fill_erased : (fs : List Function) (names : List Name) (t : Shape) (e : Tree) → left_out_fill fs (map erase names) t e ≡ left_out_fill fs names t e
  fill_erased fs names t (tree.number k at) = refl
  fill_erased fs names t (tree.truth b at) = refl
  fill_erased fs names t (tree.variable text at) = named_left names t text at
  fill_erased fs names t (tree.paren e at) = fill_erased fs names t e
  fill_erased fs names t (tree.if_expr test first other at) = both_same (fill_erased fs names one test) (both_same (fill_erased fs names t first) (fill_erased fs names t other))
  fill_erased fs names t (tree.prefix o e at) = ap (where_one t at) (fill_erased fs names one e)
  fill_erased fs names t (tree.binary o l r at) =
      ap (where_one t at) (ap (λ b. if is_short o && not b then Some at else left_out_fill fs (map erase names) one l or_else left_out_fill fs (map erase names) one r) (gives_erased sort.Truths 0 fs names l)
      ∙ ap (λ x. if is_short o && not (is_truth fs names l) then Some at else x) (both_same (fill_erased fs names one l) (fill_erased fs names one r)))
  fill_erased fs names t (tree.call text args at) = ap (where_one t at) (ap (left_call (function_for text (number_of args) fs) at) (args_erased fs names args))
  fill_erased fs names t (tree.list es at) = many_same t at (Some (number_of es)) (λ items. left_out_fills fs (map erase names) items es) (λ items. left_out_fills fs names items es) (λ items. fills_erased fs names items es)
  fill_erased fs names t (tree.comp item gens at) =
      many_same t at (made_by gens) (λ items. left_out_made (map erase names) gens (λ inner. left_out_element items (left_out_fill fs inner one item) (left_out_fill fs inner items item)))
      (λ items. left_out_made names gens (λ inner. left_out_element items (left_out_fill fs inner one item) (left_out_fill fs inner items item)))
      (λ items. made_erased names gens (λ inner. left_out_element items (left_out_fill fs inner one item) (left_out_fill fs inner items item))
      (λ inner. element_same items (left_out_fill fs (map erase inner) one item) (left_out_fill fs inner one item) (left_out_fill fs (map erase inner) items item) (left_out_fill fs inner items item) (fill_erased fs inner one item) (fill_erased fs inner items item)))
  fill_erased fs names (Single s) (tree.index base place at) =
      let place_same = fill_erased fs names one place in
      let list_same : (list : Shape) → left_out_fill fs (map erase names) list base ≡ left_out_fill fs names list base = λ list. fill_erased fs names list base in
      let places_same = places_erased fs names base in
      let after : List Name → Option ℕ = λ ns. left_out_apart (items_seen ns base 0) one at (λ list. left_out_fill fs ns list base) (left_out_fill fs ns one place) in
      let after_same : after (map erase names) ≡ after names =
      ap (λ o. left_out_apart o one at (λ list. left_out_fill fs (map erase names) list base) (left_out_fill fs (map erase names) one place)) (items_erased_seen names base 0)
      ∙ apart_same (items_seen names base 0) one at (λ list. left_out_fill fs (map erase names) list base) (λ list. left_out_fill fs names list base) (left_out_fill fs (map erase names) one place) (left_out_fill fs names one place) list_same place_same in
      ap (λ o. left_index o (deep_named (map erase names) (tree.index base place at)) (left_out_fill fs (map erase names) one place) (left_out_places fs (map erase names) base) (after (map erase names))) (list_erased names base)
      ∙ ap (λ o. left_index (erased_list (list_named names base)) o (left_out_fill fs (map erase names) one place) (left_out_places fs (map erase names) base) (after (map erase names))) (deep_erased names (tree.index base place at))
      ∙ index_left (list_named names base) (deep_named names (tree.index base place at)) (left_out_fill fs (map erase names) one place) (left_out_places fs (map erase names) base) (after (map erase names))
      ∙ ap (λ x. left_index (list_named names base) (deep_named names (tree.index base place at)) x (left_out_places fs (map erase names) base) (after (map erase names))) place_same
      ∙ ap (λ y. left_index (list_named names base) (deep_named names (tree.index base place at)) (left_out_fill fs names one place) y (after (map erase names))) places_same
      ∙ ap (left_index (list_named names base) (deep_named names (tree.index base place at)) (left_out_fill fs names one place) (left_out_places fs names base)) after_same
  fill_erased fs names (Many n items) (tree.index base place at) =
      let place_same = fill_erased fs names one place in
      let list_same : (list : Shape) → left_out_fill fs (map erase names) list base ≡ left_out_fill fs names list base = λ list. fill_erased fs names list base in
      let after : List Name → Option ℕ = λ ns. left_out_apart (items_seen ns base 0) (Many n items) at (λ list. left_out_fill fs ns list base) (left_out_fill fs ns one place) in
      let after_same : after (map erase names) ≡ after names =
      ap (λ o. left_out_apart o (Many n items) at (λ list. left_out_fill fs (map erase names) list base) (left_out_fill fs (map erase names) one place)) (items_erased_seen names base 0)
      ∙ apart_same (items_seen names base 0) (Many n items) at (λ list. left_out_fill fs (map erase names) list base) (λ list. left_out_fill fs names list base) (left_out_fill fs (map erase names) one place) (left_out_fill fs names one place) list_same place_same in
      ap (λ o. left_part (Many n items) o at (left_out_places fs (map erase names) (tree.index base place at)) (after (map erase names))) (part_erased names (tree.index base place at))
      ∙ part_left (Many n items) (part_named names (tree.index base place at)) at (left_out_places fs (map erase names) (tree.index base place at)) (after (map erase names))
      ∙ ap (λ x. left_part (Many n items) (part_named names (tree.index base place at)) at x (after (map erase names))) (both_same (places_erased fs names base) place_same)
      ∙ ap (left_part (Many n items) (part_named names (tree.index base place at)) at (left_out_places fs names (tree.index base place at))) after_same
  fill_erased fs names t rest = refl

  pub fills_erased : (fs : List Function) (names : List Name) (t : Shape) (es : Tree) → left_out_fills fs (map erase names) t es ≡ left_out_fills fs names t es
  fills_erased fs names t (tree.cons e es) = both_same (fill_erased fs names t e) (fills_erased fs names t es)
  fills_erased fs names t rest = refl

  pub places_erased : (fs : List Function) (names : List Name) (e : Tree) → left_out_places fs (map erase names) e ≡ left_out_places fs names e
  places_erased fs names (tree.index base place at) = both_same (places_erased fs names base) (fill_erased fs names one place)
  places_erased fs names rest = refl

  pub args_erased : (fs : List Function) (names : List Name) (es : Tree) → left_out_args fs (map erase names) es ≡ left_out_args fs names es
  args_erased fs names (tree.cons e es) = both_same (fill_erased fs names one e) (args_erased fs names es)
  args_erased fs names rest = refl

pub out_erased : (fs : List Function) (names : List Name) (e : Tree) → left_out_in fs (map erase names) e ≡ left_out_in fs names e
out_erased fs names e = fill_erased fs names one e

-- ---- locals

pub start_erased : (fs : List Function) (names : List Name) (e : Tree) → left_out_start fs (map erase names) e ≡ left_out_start fs names e
start_erased fs names tree.absent = refl
start_erased fs names (tree.present e) = out_erased fs names e
start_erased fs names other = refl

pub list_start_erased : (fs : List Function) (names : List Name) (t : Shape) (start : Tree) → left_out_list_start fs (map erase names) t start ≡ left_out_list_start fs names t start
list_start_erased fs names t tree.absent = refl
list_start_erased fs names t (tree.present e) = fill_erased fs names t e
list_start_erased fs names t other = refl

-- what is left out of a local: of a single value, or of a list of a type whose sizes are allowed
abbrev pub in_either : Option Scalar → Option ℕ → (Scalar → Option ℕ) → Option ℕ → Option ℕ
in_either o p f g = elim o [ None ↦ elim p [ None ↦ Some 0 | Some size ↦ g ] | Some t ↦ f t ]

pub local_erased : (fs : List Function) (names : List Name) (x : Local) → left_out_local fs (map erase names) x ≡ left_out_local fs names x
local_erased fs names x = go (single_of x.shape) (type_size x.shape)
  where
    go : (o : Option Scalar) (p : Option ℕ) → in_either o p (λ t. left_out_start fs (map erase names) (optional x.start)) (left_out_list_start fs (map erase names) x.shape (optional x.start))
        ≡ in_either o p (λ t. left_out_start fs names (optional x.start)) (left_out_list_start fs names x.shape (optional x.start))
    go None None = refl
    go None (Some size) = list_start_erased fs names x.shape (optional x.start)
    go (Some t) p = start_erased fs names (optional x.start)

-- in any cell the local leaves out the same of an expression
pub any_cell_in : (fs : List Function) (names : List Name) (text : List ℕ) (t : Scalar) (c : ℕ) (e : Tree) → left_out_in fs (local text t c ∷ names) e ≡ left_out_in fs (local text t 0 ∷ names) e
any_cell_in fs names text t c e = sym (out_erased fs (local text t c ∷ names) e) ∙ out_erased fs (local text t 0 ∷ names) e
