-- What the attributes of an element give.
-- Trusted: part of what a promise means.
use Rattle.std.specs.Prelude.{ℕ, ◌^◌, List, [], ◌∷◌, drop, length, Bool, true, false, ◌&&◌, ◌||◌, not, if◌then◌else◌, ◌==◌, nat_lt, nat_le, Option, None, Some, slice_index, codes}
use Rattle.std.specs.List.{list_all, slice_split}
use Rattle.std.specs.Str.{bytes_eq, is_utf8}
use Rattle.std.specs.Char.{is_ascii_digit}
use Rattle.cal_ast.specs.Tree.{Tree, number, truth, prefix}
use Rattle.cal_ast.specs.declared.expr.PrefixOp.TheVariants as prefixes
use Rattle.cal_lexer.specs.Lexis.{is_name, max_name, value_of}
use Rattle.fnl_markup.specs.Tags.{Attribute, attribute}
use Rattle.fnl_expr.specs.declared.attributes.Form.{Form}
use Rattle.fnl_expr.specs.declared.attributes.Form.TheVariants as forms
use Rattle.fnl_expr.specs.declared.kind.ExprKind.{ExprKind}
use Rattle.fnl_expr.specs.declared.kind.ExprKind.TheVariants as kinds

-- the attributes of a name, in their order
abbrev pub named : List ℕ → List Attribute → List Attribute
named key [] = []
named key (attribute name value at ∷ rest) =
    if bytes_eq name key then attribute name value at ∷ named key rest else named key rest

abbrev pub only_one : List Attribute → Option Attribute
only_one [] = None
only_one (one ∷ []) = Some one
only_one (one ∷ other ∷ rest) = None

-- the attribute of a name, if it is given once
abbrev pub given : List ℕ → List Attribute → Option Attribute
given key attributes = only_one (named key attributes)

-- one of two values: the first, or the other
abbrev pub one_of : List ℕ → List ℕ → Option Attribute → Option Bool
one_of first other None = None
one_of first other (Some (attribute name value at)) =
    if bytes_eq value first then Some true else (if bytes_eq value other then Some false else None)

abbrev pub either_given : List ℕ → List ℕ → List ℕ → List Attribute → Option Bool
either_given key first other attributes = one_of first other (given key attributes)

-- a text, and the offset at which it begins
pub data Text : Type 0 where
  text_at : (text : List ℕ) (at : ℕ) → Text

-- names with a dot between each two
unfoldable pub is_tag : List ℕ → Bool
is_tag text = list_all is_name (slice_split (λ b. b == 46) text)

-- a name, or nothing
abbrev pub is_name_or_empty : List ℕ → Bool
is_name_or_empty [] = true
is_name_or_empty (b ∷ text) = is_name (b ∷ text)

-- `size` or `type`
abbrev pub is_entry_name : List ℕ → Bool
is_entry_name text = bytes_eq text (codes "size") || bytes_eq text (codes "type")

-- whether a text is of a form
abbrev pub is_of : Form → List ℕ → Bool
is_of forms.Name text = is_name text
is_of forms.NameOrEmpty text = is_name_or_empty text
is_of forms.Tag text = is_tag text
is_of forms.Entry text = is_entry_name text
is_of forms.Any text = true

-- the text of an attribute, if it is of a form
abbrev pub text_if : Form → Option Attribute → Option Text
text_if form None = None
text_if form (Some (attribute name value at)) =
    if is_utf8 value && is_of form value then Some (text_at value at) else None

abbrev pub text_given : Form → List ℕ → List Attribute → Option Text
text_given form key attributes = text_if form (given key attributes)

-- a name of the language
abbrev pub name_given : List ℕ → List Attribute → Option Text
name_given key attributes = text_given forms.Name key attributes

abbrev pub tag_given : List ℕ → List Attribute → Option Text
tag_given key attributes = text_given forms.Tag key attributes

abbrev pub end_given : List ℕ → List Attribute → Option Text
end_given key attributes = text_given forms.NameOrEmpty key attributes

abbrev pub entry_given : List Attribute → Option Text
entry_given attributes = text_given forms.Entry (codes "name") attributes

-- the name of a type, which may be any text: which types there are is judged later
abbrev pub type_given : List Attribute → Option Text
type_given attributes = text_given forms.Any (codes "name") attributes

-- whether each of the names between dots is short enough
unfoldable pub has_short_names : List ℕ → Bool
has_short_names text =
    list_all (λ name. nat_le (length name) max_name) (slice_split (λ b. b == 46) text)

-- where a name is too long, the offset at which the text begins
abbrev pub long : Text → Option ℕ
long (text_at text at) = if has_short_names text then None else Some at

-- the earlier of two places
abbrev pub earlier : Option ℕ → Option ℕ → Option ℕ
earlier None other = other
earlier (Some at) None = Some at
earlier (Some at) (Some place) = if nat_le at place then Some at else Some place

-- Literals.

pub data Literal : Type 0 where
  a_number : (negative : Bool) (value : ℕ) → Literal
  a_truth : (value : Bool) → Literal

abbrev pub is_nothing : List ℕ → Bool
is_nothing [] = true
is_nothing (b ∷ text) = false

-- digits whose number needs at most 128 bits
abbrev pub digits : List ℕ → Option ℕ
digits text =
    if is_nothing text || not (list_all is_ascii_digit text) then None
    else (if nat_lt (value_of 10 text) (2 ^ 128) then Some (value_of 10 text) else None)

abbrev pub number_of : Bool → Option ℕ → Option Literal
number_of negative None = None
number_of negative (Some value) = Some (a_number negative value)

-- digits, and a `-` before them or none
abbrev pub integer : List ℕ → Option Literal
integer text =
    if slice_index text 0 == 45 then number_of true (digits (drop 1 text))
    else number_of false (digits text)

abbrev pub integer_in : Option Attribute → Option Literal
integer_in None = None
integer_in (Some (attribute name value at)) = integer value

abbrev pub truth_in : Option Bool → Option Literal
truth_in None = None
truth_in (Some value) = Some (a_truth value)

abbrev pub literal_of : Option Bool → List Attribute → Option Literal
literal_of None attributes = None
literal_of (Some true) attributes = integer_in (given (codes "value") attributes)
literal_of (Some false) attributes =
    truth_in (either_given (codes "value") (codes "true") (codes "false") attributes)

abbrev pub literal_given : List Attribute → Option Literal
literal_given attributes =
    literal_of (either_given (codes "literal-kind") (codes "Integer") (codes "Boolean") attributes)
    attributes

-- the expression that a literal at a place is
abbrev pub literal_tree : Literal → ℕ → Tree
literal_tree (a_number false value) at = number value at
literal_tree (a_number true value) at = prefix prefixes.Neg (number value at) at
literal_tree (a_truth value) at = truth value at

-- The kinds of expressions.

abbrev pub kind_named : List ℕ → Option ExprKind
kind_named text =
    if bytes_eq text (codes "Literal") then Some kinds.Literal
    else (if bytes_eq text (codes "Var") then Some kinds.Var
    else (if bytes_eq text (codes "List") then Some kinds.List
    else (if bytes_eq text (codes "UnaryOp") then Some kinds.Unary
    else (if bytes_eq text (codes "BinOpSeq") then Some kinds.Sequence
    else None))))

abbrev pub kind_in : Option Attribute → Option ExprKind
kind_in None = None
kind_in (Some (attribute name value at)) = kind_named value

abbrev pub kind_given : List Attribute → Option ExprKind
kind_given attributes = kind_in (given (codes "kind") attributes)
