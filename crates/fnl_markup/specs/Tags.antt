-- The plain tags: what a tag is, without memory.
-- Trusted: part of what a promise means.
use Rattle.std.specs.Prelude.{ℕ, List, map}
use Rattle.fnl_markup.specs.declared.tag.Tag.{Tag as TheTag}
use Rattle.fnl_markup.specs.declared.tag.Tag.TheVariants as tags
use Rattle.fnl_markup.specs.declared.tag.Attribute.{Attribute as TheAttribute}

-- a name, a value, and the offset at which the value begins
pub data Attribute : Type 0 where
  attribute : (name value : List ℕ) (at : ℕ) → Attribute

-- an element begins at its `<`; the innermost element that is open ends, by a tag with its `/` there
pub data Tag : Type 0 where
  opens : (name : List ℕ) (attributes : List Attribute) (at : ℕ) → Tag
  closes : (at : ℕ) → Tag

abbrev pub plain_attribute : TheAttribute → Attribute
plain_attribute a = attribute a.name.items a.value.items a.at

abbrev pub plain : TheTag → Tag
plain (tags.Opens name attributes at) = opens name.items (map plain_attribute attributes.items) at
plain (tags.Closes at) = closes at

-- what a list of tags stands for
abbrev pub plain_tags : List TheTag → List Tag
plain_tags ts = map plain ts
