-- The grammar of markup: which bytes spell which tags, one case a production.
--
-- The productions are those of Extensible Markup Language 1.0 (fifth edition), with their numbers, limited to this
-- profile: no document type, no processing instruction, no character data and no references between tags, the five named
-- entities alone, and names in ASCII. A `--` may stand in a comment.
--
-- A production speaks of a stretch of a text: what stands behind the bytes `from`, up to the end of the bytes `to`. Where
-- two stretches meet, one ends where the next begins, and the offset of a place is the length of the bytes before it.
-- They say nothing of how a text is read.
-- Trusted: part of what a promise means.
use Rattle.std.specs.Prelude.{◌≡◌, ℕ, ◌+◌, List, [], ◌∷◌, ◌++◌, length, Bool, true, not, ◌||◌, ◌==◌, codes, IsUtf8}
use Rattle.std.specs.List.{list_all}
use Rattle.std.specs.Str.{bytes_eq, str_eq_ignore_ascii_case}
use Rattle.fnl_markup.specs.Bytes.{is_blank, begins_name, goes_on_name}
use Rattle.fnl_markup.specs.Tags.{Attribute, attribute, Tag, opens, closes}

-- ---- blanks, names and comments

-- [S] = {blank}
pub data AreBlanks : (from to : List ℕ) → Type 0 where
  no_blanks : {from : List ℕ} → AreBlanks from from
  one_blank_more : {from to : List ℕ} (b : ℕ)
      → AreBlanks from to → is_blank b ≡ true → AreBlanks from (to ++ b ∷ [])

-- [3] S = {blank} blank
pub data IsSpace : (from to : List ℕ) → Type 0 where
  the_space : {from to : List ℕ} (b : ℕ)
      → AreBlanks from to → is_blank b ≡ true → IsSpace from (to ++ b ∷ [])

-- [5] Name = NameStartChar {NameChar}
pub data IsName : (from to name : List ℕ) → Type 0 where
  first_of_name : {from : List ℕ} (b : ℕ)
      → begins_name b ≡ true → IsName from (from ++ b ∷ []) (b ∷ [])
  next_of_name : {from to name : List ℕ} (b : ℕ)
      → IsName from to name → goes_on_name b ≡ true → IsName from (to ++ b ∷ []) (name ++ b ∷ [])

-- `-->` doesn't stand in these bytes
abbrev pub HoldsNoEnd : List ℕ → Type 0
HoldsNoEnd bytes = (before after : List ℕ) → bytes ≡ before ++ codes "-->" ++ after → ⊥

-- [15] Comment = "<!--" any bytes without "-->" "-->"
pub data IsComment : (from to : List ℕ) → Type 0 where
  the_comment : {from : List ℕ} (inside : List ℕ)
      → HoldsNoEnd inside → IsComment from (from ++ codes "<!--" ++ inside ++ codes "-->")

-- {Misc}, [27] Misc = Comment | S
pub data AreMisc : (from to : List ℕ) → Type 0 where
  no_misc : {from : List ℕ} → AreMisc from from
  one_comment_more : {from to next : List ℕ}
      → AreMisc from to → IsComment to next → AreMisc from next
  more_space : {from to next : List ℕ}
      → AreMisc from to → IsSpace to next → AreMisc from next

-- ---- attributes

-- [68] EntityRef = "&" Name ";", and the character that it stands for
pub data IsReference : (from to : List ℕ) (character : ℕ) → Type 0 where
  less_than : {from : List ℕ} → IsReference from (from ++ codes "&lt;") 60
  greater_than : {from : List ℕ} → IsReference from (from ++ codes "&gt;") 62
  ampersand : {from : List ℕ} → IsReference from (from ++ codes "&amp;") 38
  quotation_mark : {from : List ℕ} → IsReference from (from ++ codes "&quot;") 34
  apostrophe : {from : List ℕ} → IsReference from (from ++ codes "&apos;") 39

-- `"` or `'`
abbrev pub is_quote : ℕ → Bool
is_quote b = (b == 34) || (b == 39)

-- any byte but the quote, `&` and `<`
abbrev pub stands_for_itself : (quote b : ℕ) → Bool
stands_for_itself quote b = not ((b == quote) || ((b == 38) || (b == 60)))

-- {any byte but the quote, "&" and "<" | Reference}
pub data IsQuoted (quote : ℕ) : (from to value : List ℕ) → Type 0 where
  nothing_quoted : {from : List ℕ} → IsQuoted quote from from []
  one_byte_more : {from to value : List ℕ} (b : ℕ)
      → IsQuoted quote from to value → stands_for_itself quote b ≡ true
      → IsQuoted quote from (to ++ b ∷ []) (value ++ b ∷ [])
  one_reference_more : {from to next value : List ℕ} {character : ℕ}
      → IsQuoted quote from to value → IsReference to next character
      → IsQuoted quote from next (value ++ character ∷ [])

-- [41] Attribute = Name Eq AttValue, [25] Eq = [S] "=" [S], [10] AttValue = quote Quoted quote
pub data IsAttribute : (from to : List ℕ) → Attribute → Type 0 where
  the_attribute : {from a b c d name value : List ℕ} {quote : ℕ}
      → IsName from a name → AreBlanks a b → AreBlanks (b ++ codes "=") c
      → is_quote quote ≡ true → IsQuoted quote (c ++ quote ∷ []) d value
      → IsAttribute from (d ++ quote ∷ []) (attribute name value (length c + 1))

-- {S Attribute}
pub data AreAttributes : (from to : List ℕ) → List Attribute → Type 0 where
  no_attributes : {from : List ℕ} → AreAttributes from from []
  one_attribute_more : {from a b to : List ℕ} {attributes : List Attribute} {last : Attribute}
      → AreAttributes from a attributes → IsSpace a b → IsAttribute b to last
      → AreAttributes from to (attributes ++ last ∷ [])

-- ---- elements

-- [40] STag = "<" Name {S Attribute} [S] ">"
pub data IsStartTag : (from to name : List ℕ) → List Attribute → Type 0 where
  the_start_tag : {from a b c name : List ℕ} {attributes : List Attribute}
      → IsName (from ++ codes "<") a name → AreAttributes a b attributes → AreBlanks b c
      → IsStartTag from (c ++ codes ">") name attributes

-- [42] ETag = "</" Name [S] ">"
pub data IsEndTag : (from to name : List ℕ) → Type 0 where
  the_end_tag : {from a b name : List ℕ}
      → IsName (from ++ codes "</") a name → AreBlanks a b → IsEndTag from (b ++ codes ">") name

mutual
  -- [39] element = EmptyElemTag | STag content ETag
  pub data IsElement : (from to : List ℕ) → List Tag → Type 0 where
    -- [44] EmptyElemTag = "<" Name {S Attribute} [S] "/>"
    an_empty_element : {from a b c name : List ℕ} {attributes : List Attribute}
        → IsName (from ++ codes "<") a name → AreAttributes a b attributes → AreBlanks b c
        → IsElement from (c ++ codes "/>")
        (opens name attributes (length from) ∷ closes (length c) ∷ [])
    -- the names in both tags are the same
    an_element : {from a b to name : List ℕ} {attributes : List Attribute} {tags : List Tag}
        → IsStartTag from a name attributes → IsContent a b tags → IsEndTag b to name
        → IsElement from to
        (opens name attributes (length from) ∷ tags ++ closes (length b + 1) ∷ [])

  -- [43] content = {element | Comment | S}
  pub data IsContent : (from to : List ℕ) → List Tag → Type 0 where
    no_content : {from : List ℕ} → IsContent from from []
    one_element_more : {from to next : List ℕ} {tags more : List Tag}
        → IsContent from to tags → IsElement to next more → IsContent from next (tags ++ more)
    more_misc : {from to next : List ℕ} {tags : List Tag}
        → IsContent from to tags → AreMisc to next → IsContent from next tags

-- ---- texts

-- [byte order mark]
pub data MayBeMark : (from to : List ℕ) → Type 0 where
  no_mark : {from : List ℕ} → MayBeMark from from
  the_mark : {from : List ℕ} → MayBeMark from (from ++ 239 ∷ 187 ∷ 191 ∷ [])

-- an attribute `encoding` says UTF-8, in either case
abbrev pub says_utf8 : Attribute → Bool
says_utf8 (attribute name value at) =
    not (bytes_eq name (codes "encoding")) || str_eq_ignore_ascii_case value (codes "utf-8")

-- [XMLDecl], [23] XMLDecl = "<?xml" {S Attribute} [S] "?>"
pub data MayBeDeclaration : (from to : List ℕ) → Type 0 where
  no_declaration : {from : List ℕ} → MayBeDeclaration from from
  the_declaration : {from a b : List ℕ} {attributes : List Attribute}
      → AreAttributes (from ++ codes "<?xml") a attributes → list_all says_utf8 attributes ≡ true
      → AreBlanks a b → MayBeDeclaration from (b ++ codes "?>")

-- [22] prolog = [byte order mark] [XMLDecl] {Misc}
pub data IsProlog : (to : List ℕ) → Type 0 where
  the_prolog : {a b to : List ℕ}
      → MayBeMark [] a → MayBeDeclaration a b → AreMisc b to → IsProlog to

-- [1] document = prolog element {Misc}, in UTF-8
pub data IsDocument : (text : List ℕ) → List Tag → Type 0 where
  the_document : {a b text : List ℕ} {tags : List Tag}
      → IsProlog a → IsElement a b tags → AreMisc b text → IsUtf8 text → IsDocument text tags
