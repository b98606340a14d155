-- What a reader of markup has at hand between two bytes, and what a byte brings.
-- Trusted: part of what a promise means.
use Rattle.std.specs.Prelude.{ℕ, List, [], Bool, false}
use Rattle.rvc_base.specs.declared.refusal.Rule.{Rule}
use Rattle.fnl_markup.specs.Tags.{Attribute, Tag}
use Rattle.fnl_markup.specs.declared.place.Place.{Place}
use Rattle.fnl_markup.specs.declared.place.Place.TheVariants.{Start}

pub record State : Type 0 where
  -- what was read last, and so what may follow
  pub place : Place
  -- the offset of the last `<`
  pub start : ℕ
  -- whether what is read is the declaration
  pub declares : Bool
  -- the name of the element, its attributes, and the name and value of the next one, as far as they were read
  pub name : List ℕ
  pub attributes : List Attribute
  pub word : List ℕ
  pub value : List ℕ
  -- the offset at which that value begins
  pub value_at : ℕ
  -- the names of the elements that are open, the innermost last
  pub opened : List (List ℕ)
  -- whether the first element has begun
  pub begun : Bool
  pub tags : List Tag

-- nothing was read
abbrev pub fresh : State
fresh =
    record {
      place = Start;
      start = 0;
      declares = false;
      name = [];
      attributes = [];
      word = [];
      value = [];
      value_at = 0;
      opened = [];
      begun = false;
      tags = [];
    }

-- it goes on, or a rule is broken at an offset
pub data Next : Type 0 where
  Going : State → Next
  Fault : (rule : Rule) (at : ℕ) → Next
