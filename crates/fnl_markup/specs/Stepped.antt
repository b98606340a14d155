-- What a step of the reader answers, beside what it means.
-- Trusted for `IsFault` and `IsRefusal` alone: part of what a promise means.
use Rattle.std.specs.Prelude.{◌≡◌, ℕ, nat_le, if◌then◌else◌, List, map, Option, None, Some, Result, Ok, Err, Vec}
use Rattle.std.specs.declared.alloc.Global.{Global}
use Rattle.rvc_base.specs.declared.refusal.Rule.{Rule}
use Rattle.rvc_base.specs.declared.refusal.Refusal.{Refusal}
use Rattle.rvc_base.specs.Rules.{wrong_encoding}
use Rattle.fnl_markup.specs.Tags.{plain_attribute, plain_tags}
use Rattle.fnl_markup.specs.State.{State, Next, Going, Fault}
use Rattle.fnl_markup.specs.Markup.{Ended, ended, Broken, fault}
use Rattle.fnl_markup.specs.declared.reader.Reader.{Reader}
use Rattle.fnl_markup.specs.declared.stop.Stop.{Stop}
use Rattle.fnl_markup.specs.declared.stop.Stop.TheVariants as stops

abbrev pub bytes_of : Vec ℕ Global → List ℕ
bytes_of v = v.items

-- what a reader has at hand
abbrev pub state_of : Reader → State
state_of r = record {
  place = r.place;
  start = r.start;
  declares = r.declares;
  name = r.name.items;
  attributes = map plain_attribute r.attributes.items;
  word = r.word.items;
  value = r.value.items;
  value_at = r.value_at;
  opened = map bytes_of r.opened.items;
  begun = r.begun;
  tags = plain_tags r.tags.items;
}

-- the reader went on as is meant, or stands as before at the rule that is broken, or memory was refused
abbrev pub Stepped : {A : Type 0} → Next → State → Reader → Result A Stop → Type 0
Stepped next old now (Ok _) = next ≡ Going (state_of now)
Stepped next old now (Err (stops.Broken rule at)) = (next ≡ Fault rule at) × (state_of now ≡ old)
Stepped next old now (Err stops.Memory) = Unit {0}

-- the same of many bytes
abbrev pub Ran : Ended → Reader → Result (Unit {0}) Stop → Type 0
Ran end now (Ok _) = end ≡ ended (state_of now) None
Ran end now (Err (stops.Broken rule at)) = end ≡ ended (state_of now) (Some (fault rule at))
Ran end now (Err stops.Memory) = Unit {0}

-- what a refusal says: a file, a rule and a place in it
abbrev pub IsFault : ℕ → Broken → Refusal → Type 0
IsFault file (fault rule at) refusal = (refusal.place.file ≡ file) × (refusal.rule ≡ rule)
    × (refusal.place.offset ≡ at)

abbrev pub IsRefusal : ℕ → Option Broken → Option Refusal → Type 0
IsRefusal file (Some broken) (Some refusal) = IsFault file broken refusal
IsRefusal file None None = Unit {0}
IsRefusal file None (Some refusal) = ⊥
IsRefusal file (Some broken) None = ⊥

-- of a rule that is broken at an offset, and the encoding that is wrong behind so many bytes, the earlier
abbrev pub IsFirstOf : ℕ → Rule → ℕ → ℕ → Refusal → Type 0
IsFirstOf file rule at valid refusal =
    IsFault file (if nat_le at valid then fault rule at else fault wrong_encoding valid) refusal
