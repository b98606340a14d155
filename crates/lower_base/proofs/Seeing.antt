-- Single values that are named, as locals or outside them.
use Rattle.std.proofs.Common.{◌≡◌, ℕ, List, ◌∷◌, ◌++◌, Bool, true, false, refl, ap, ◌∙◌, Option, None, Some}
use Rattle.std.specs.Prelude.{if◌then◌else◌}
use Rattle.std.specs.Str.{bytes_eq}
use Rattle.std.proofs.lemmas.Slice.Eq.{bytes_eq-Decides}
use Rattle.cal_ast.specs.Tree as tree
use Rattle.cal_model.specs.Value.{Shape, Single, Many}
use Rattle.lower_base.specs.declared.names.ItemList.{ItemList}
use Rattle.lower_base.specs.declared.names.OneSeat.{OneSeat}
use Rattle.lower_base.specs.declared.names.Seat.{Seat}
use Rattle.lower_base.specs.Growing.{left_out_name}
use Rattle.lower_base.specs.Listed.{items_of, list_named}
use Rattle.lower_base.specs.Names.{Name, named, shape_named}
use Rattle.lower_base.specs.Seen.{IsHidden, IsNotLocal, one_in, one_of, one_named}

-- the words of the definitions, of what was found

abbrev one_in_name : Option Name → Option OneSeat
one_in_name o = elim o [ None ↦ None | Some x ↦ one_of x ]

abbrev list_in_name : Option Name → Option ItemList
list_in_name o = elim o [ None ↦ None | Some x ↦ items_of x ]

abbrev left_shape : Shape → ℕ → Option ℕ
left_shape t at = elim t [ Single u ↦ None | Many n items ↦ Some at ]

-- ---- single values

pub record IsOneOf (names : List Name) (text : List ℕ) (s : OneSeat) : Type 0 where
  pub x : Name
  pub is : named text names ≡ Some x
  pub seat : x.seat ≡ s.seat
  pub shape : x.shape ≡ Single s.kind

pub one_found : (names : List Name) (text : List ℕ) (s : OneSeat) → one_named names text ≡ Some s → IsOneOf names text s
one_found names text s e = go (named text names) refl e
  where
    at_shape : (x : Name) (shape : Shape) → x.shape ≡ shape → named text names ≡ Some x → one_in x.seat shape ≡ Some s → IsOneOf names text s
    at_shape x (Single t) p is h =
        let made : OneSeat = record { seat = x.seat; kind = t } in
        let same : made ≡ s = cc in
        record { x = x; is = is; seat = ap (λ (o : OneSeat). o.seat) same; shape = p ∙ ap (λ (o : OneSeat). Single o.kind) same }
    at_shape x (Many n items) p is h = cc

    go : (o : Option Name) → named text names ≡ o → one_in_name o ≡ Some s → IsOneOf names text s
    go None is h = cc
    go (Some x) is h = at_shape x x.shape refl is h

-- a name of no single value is left out, and another isn't
pub one_missing : (names : List Name) (text : List ℕ) (at : ℕ) → one_named names text ≡ None → left_out_name (named text names) at ≡ Some at
one_missing names text at e = go (named text names) e
  where
    at_shape : (seat : Seat) (shape : Shape) → one_in seat shape ≡ None → left_shape shape at ≡ Some at
    at_shape seat (Single t) h = cc
    at_shape seat (Many n items) h = refl

    go : (o : Option Name) → one_in_name o ≡ None → left_out_name o at ≡ Some at
    go None h = refl
    go (Some x) h = at_shape x.seat x.shape h

pub one_there : (names : List Name) (text : List ℕ) (at : ℕ) (s : OneSeat) → one_named names text ≡ Some s → left_out_name (named text names) at ≡ None
one_there names text at s e =
    let f : IsOneOf names text s = one_found names text s e in
    ap (λ o. left_out_name o at) f.is ∙ ap (λ (t : Shape). left_shape t at) f.shape

-- ---- locals

pub hidden_one : (text : List ℕ) (locals outer : List Name) (x : Name) → IsHidden text locals x → one_named (locals ++ outer) text ≡ one_of x
hidden_one text locals outer x h = ap one_in_name (h outer)

pub outside_one : (text : List ℕ) (locals outer : List Name) → IsNotLocal text locals → one_named (locals ++ outer) text ≡ one_named outer text
outside_one text locals outer h = ap one_in_name (h outer)

pub hidden_shape : (text : List ℕ) (locals outer : List Name) (x : Name) → IsHidden text locals x → shape_named (locals ++ outer) text ≡ Some x.shape
hidden_shape text locals outer x h = ap (λ (o : Option Name). elim o [ None ↦ None | Some y ↦ Some y.shape ]) (h outer)

pub hidden_list : (text : List ℕ) (locals outer : List Name) (x : Name) → IsHidden text locals x → list_named (locals ++ outer) (tree.variable text 0) ≡ items_of x
hidden_list text locals outer x h = ap list_in_name (h outer)

pub outside_list : (text : List ℕ) (locals outer : List Name) → IsNotLocal text locals → list_named (locals ++ outer) (tree.variable text 0) ≡ list_named outer (tree.variable text 0)
outside_list text locals outer h = ap list_in_name (h outer)

-- ---- a local, and those outside it

-- a name at a seat
abbrev at_seat : List ℕ → Shape → Seat → Name
at_seat text shape seat = record { text = text; shape = shape; seat = seat }

pub local_here : (text n : List ℕ) (shape : Shape) (seat : Seat) (locals rest : List Name) → locals ≡ at_seat n shape seat ∷ rest → bytes_eq n text ≡ true
    → (outer : List Name) → named text (locals ++ outer) ≡ Some (at_seat text shape seat)
local_here text n shape seat locals rest is e outer =
    ap (λ ls. named text (ls ++ outer)) is ∙ go (bytes_eq n text) e ∙ ap (λ t. Some (at_seat t shape seat)) ((bytes_eq-Decides n text).0 e)
  where
    go : (b : Bool) → b ≡ true → (if b then Some (at_seat n shape seat) else named text (rest ++ outer)) ≡ Some (at_seat n shape seat)
    go true h = refl
    go false h = cc

pub local_past : (text n : List ℕ) (shape : Shape) (seat : Seat) (locals rest : List Name) → locals ≡ at_seat n shape seat ∷ rest → bytes_eq n text ≡ false
    → (outer : List Name) → named text (locals ++ outer) ≡ named text (rest ++ outer)
local_past text n shape seat locals rest is e outer = ap (λ ls. named text (ls ++ outer)) is ∙ go (bytes_eq n text) e
  where
    go : (b : Bool) → b ≡ false → (if b then Some (at_seat n shape seat) else named text (rest ++ outer)) ≡ named text (rest ++ outer)
    go true h = cc
    go false h = refl
