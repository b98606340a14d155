-- Openings that are noted one after another.
use Rattle.std.proofs.Common.{◌≡◌, ℕ, ◌+◌, List, [], ◌∷◌, ◌++◌, refl, sym, ap, subst, ◌∙◌, Option, None, Some}
use Rattle.std.specs.Prelude.{option_map, slice_get, if◌then◌else◌}
use Rattle.std.proofs.lemmas.List.{append_assoc, append-nil}
use Rattle.rvc_io.specs.Past.{Done, Opened, opened}
use Rattle.rvc_words.specs.Words.{PortText}
use Rattle.net_model.specs.declared.wiring.End.{End}
use Rattle.net_model.specs.declared.wiring.End.TheVariants.{Net as AtNet}
use Rattle.net_model.specs.declared.wiring.Link.{Link}
use Rattle.cmd_ports.specs.Opening.{AreNoted, HoldsBefore, Opening, feeds_from, file_at, opening_if}
use Rattle.cmd_ports.specs.Steps.{IsNoted, NotedSoFar}
use Rattle.cmd_ports.proofs.FeedSteps.{behind}

-- ---- none, and all

pub none_noted : (all : List Opening) (past : List Done) → NotedSoFar all all past past
none_noted all past = record { made = []; in_order = refl; are_noted = sym (append-nil (opened past)) }

pub all_noted : (all : List Opening) (past now : List Done) → NotedSoFar all [] past now → AreNoted all past now
all_noted all past now so = so.are_noted ∙ ap (λ os. opened past ++ os) (sym (so.in_order ∙ append-nil so.made))

-- ---- one

abbrev opening : ℕ → List ℕ → Opening
opening number file = record { number = number; name = file }

-- one more behind those that were noted
more_noted : (made : List Opening) (number : ℕ) (name : List ℕ) (past now new : List Done) → AreNoted made past now → new ≡ Opened number name ∷ now
    → AreNoted (made ++ opening number name ∷ []) past new
more_noted made number name past now new before this =
    ap opened this ∙ ap (λ os. os ++ opening number name ∷ []) before ∙ append_assoc (opened past) made (opening number name ∷ [])

pub noted_steps : (all rest : List Opening) (number : ℕ) (file : Option (List ℕ)) (past now new : List Done) → NotedSoFar all (opening_if number file ++ rest) past now
    → IsNoted number file now new → NotedSoFar all rest past new
noted_steps all rest number None past now new so this = record { made = so.made; in_order = so.in_order; are_noted = ap opened this ∙ so.are_noted }
noted_steps all rest number (Some name) past now new so this = record {
  made = so.made ++ opening number name ∷ [];
  in_order = so.in_order ∙ sym (append_assoc so.made (opening number name ∷ []) rest);
  are_noted = more_noted so.made number name past now new so.are_noted this;
}

-- the first of all
pub first_noted : (rest : List Opening) (number : ℕ) (name : List ℕ) (past new : List Done) → new ≡ Opened number name ∷ past
    → NotedSoFar (opening number name ∷ rest) rest past new
first_noted rest number name past new this = noted_steps (opening number name ∷ rest) rest number (Some name) past past new (none_noted (opening number name ∷ rest) past) this

-- one that couldn't be opened
pub noted_before : (all rest : List Opening) (number : ℕ) (file : Option (List ℕ)) (name : List ℕ) (past now new : List Done) → file ≡ Some name
    → NotedSoFar all (opening_if number file ++ rest) past now → new ≡ now → HoldsBefore all number (λ made. AreNoted made past new)
noted_before all rest number None name past now new is so this = cc
noted_before all rest number (Some other) name past now new is so this = record {
  before = so.made;
  failed = opening number other;
  after = rest;
  in_order = so.in_order;
  number_is = refl;
  holds = ap opened this ∙ so.are_noted;
}

pub none_before : (rest : List Opening) (number : ℕ) (name : List ℕ) (past new : List Done) → new ≡ past
    → HoldsBefore (opening number name ∷ rest) number (λ made. AreNoted made past new)
none_before rest number name past new this = record {
  before = [];
  failed = opening number name;
  after = rest;
  in_order = refl;
  number_is = refl;
  holds = ap opened this ∙ sym (append-nil (opened past));
}

-- ---- a file that may lack

pub noted_if : {T : Type 0} (v : T → List ℕ) (number : ℕ) (file : Option T) (name : T) (past new : List Done) → file ≡ Some name → new ≡ Opened number (v name) ∷ past
    → IsNoted number (option_map v file) past new
noted_if v number file name past new is this = subst (λ f. IsNoted number (option_map v f) past new) (sym is) this

pub unnoted_if : {T : Type 0} (v : T → List ℕ) (number : ℕ) (file : Option T) (past : List Done) → file ≡ None → IsNoted number (option_map v file) past past
unnoted_if v number file past is = subst (λ f. IsNoted number (option_map v f) past past) (sym is) refl

-- ---- links

pub noted_from : (all : List Opening) (number port : ℕ) (from : End) (links : List Link) (ins : List (List ℕ)) (words : List PortText) (past now new : List Done) → from ≡ AtNet port
    → NotedSoFar all (behind from number links ins words) past now → IsNoted number (file_at (slice_get ins port) words) now new
    → NotedSoFar all (feeds_from (number + 1) links ins words) past new
noted_from all number port from links ins words past now new is so this =
    noted_steps all (feeds_from (number + 1) links ins words) number (file_at (slice_get ins port) words) past now new
    (subst (λ f. NotedSoFar all (behind f number links ins words) past now) is so) this

pub noted_before_link : (all : List Opening) (number port : ℕ) (from : End) (links : List Link) (ins : List (List ℕ)) (words : List PortText) (name : List ℕ) (past now new : List Done) → from ≡ AtNet port
    → file_at (slice_get ins port) words ≡ Some name → NotedSoFar all (behind from number links ins words) past now → new ≡ now → HoldsBefore all number (λ made. AreNoted made past new)
noted_before_link all number port from links ins words name past now new is has so this =
    noted_before all (feeds_from (number + 1) links ins words) number (file_at (slice_get ins port) words) name past now new has
    (subst (λ f. NotedSoFar all (behind f number links ins words) past now) is so) this
