-- What a reader waits for: at each of its places, the bytes that make a line of those that it has read.
-- Trusted: part of what a promise means.
use Rattle.std.specs.Prelude.{◌≡◌, ◌⊎◌, ℕ, ◌+◌, ◌*◌, ◌<◌, ◌≤◌, suc, zero, MatchOption, Bool, true, false, List, [], ◌∷◌, ◌++◌, Option, None, Some, codes, decimal, drop, MatchBool, ◌==◌}
use Rattle.rvc_base.specs.declared.trap.Trap.{Trap as TrapName}
use Rattle.rvc_base.specs.Trap.{trap_name}
use Rattle.trace_text.specs.declared.line.Line.{Line}
use Rattle.trace_text.specs.declared.line.Line.TheVariants.{Header, Inst, Fire, Deliver, Grow, Trap, Stall}
use Rattle.trace_text.specs.declared.place.Place.{Place}
use Rattle.trace_text.specs.declared.place.Place.TheVariants.{Start, AfterR, Front, Letter, Number, AtName, InName, AtTrap, InTrap, Ending, Ended, Lost}
use Rattle.trace_text.specs.declared.place.Field.{Field}
use Rattle.trace_text.specs.declared.place.Field.TheVariants.{Instances, Links, GrowingInstances, GrowingLinks, Limit, Instance, FiringInst, FiringAction, TrappingInst, TrappingAction, StalledInst, StalledAction, StalledLink, GrownLink, GrownCapacity}
use Rattle.trace_text.specs.declared.place.Part.{Part}
use Rattle.trace_text.specs.declared.place.Part.TheVariants.{Path, Class}
use Rattle.trace_text.specs.Table.{number_bound, action_bound}
use Rattle.trace_text.specs.Names.{is_letter, is_name_byte, slash, dot}
use Rattle.trace_text.specs.Spelling.{Spells}

-- nothing more: the line is this one
abbrev pub IsAll : Line → Line → List ℕ → Type 0
IsAll this line bytes = (line ≡ this) × (bytes ≡ [])

-- these bytes, and then what P says
abbrev pub Behind : List ℕ → (List ℕ → Type 0) → List ℕ → Type 0
Behind [] P bytes = P bytes
Behind (c ∷ cs) P [] = ⊥
Behind (c ∷ cs) P (b ∷ bytes) = (b ≡ c) × Behind cs P bytes

abbrev pub Then : ℕ → (List ℕ → Type 0) → List ℕ → Type 0
Then c P bytes = Behind (c ∷ []) P bytes

-- the end of a line
abbrev pub Ends : Line → Line → List ℕ → Type 0
Ends this line bytes = Then 10 (IsAll this line) bytes

-- the digits of the number so far
abbrev pub digits_so_far : Option ℕ → List ℕ
digits_so_far None = []
digits_so_far (Some number) = decimal number

abbrev pub IsNumber : Option ℕ → Type 0
IsNumber None = Unit {0}
IsNumber (Some number) = number < number_bound

-- the other digits of a number below the bound, and then what `after` says of it
pub record Numbers (bound : ℕ) (so_far : Option ℕ) (after : ℕ → List ℕ → Type 0) (bytes : List ℕ) :
    Type 0 where
  pub fits : IsNumber so_far
  pub number : ℕ
  pub tail : List ℕ
  pub is_bounded : number < bound
  pub text : digits_so_far so_far ++ bytes ≡ decimal number ++ tail
  pub follows : after number tail

-- the rest of names joined by the separator, within one of them ..
abbrev pub Named : Bool → ℕ → (List ℕ → Type 0) → List ℕ → Type 0
Named within separator after [] = ⊥
Named true separator after (b ∷ bytes) =
    MatchBool (is_name_byte b) (Named true separator after bytes)
    (MatchBool (b == separator) (Named false separator after bytes) (after (b ∷ bytes)))
-- .. and at the start of one
Named false separator after (b ∷ bytes) = (is_letter b ≡ true) × Named true separator after bytes

abbrev pub separator_of : Part → ℕ
separator_of Path = slash
separator_of Class = dot

-- what follows the names
abbrev pub after_names : Part → ℕ → Line → List ℕ → Type 0
after_names Path inst line = Then 32 (Named false dot (Ends (Inst inst) line))
after_names Class inst line = Ends (Inst inst) line

-- the least number of a field: a limit of growth is at least 1
abbrev pub least_of : Field → ℕ
least_of (Limit instances links) = 1
least_of field = 0

abbrev pub bound_of : Field → ℕ
bound_of (FiringAction inst) = action_bound
bound_of (TrappingAction inst) = action_bound
bound_of (StalledAction inst) = action_bound
bound_of field = number_bound

abbrev pub stop_of : Field → ℕ
stop_of (Links instances) = 10
stop_of (Limit instances links) = 10
stop_of (FiringAction inst) = 10
stop_of (StalledLink inst action) = 10
stop_of (GrownCapacity link) = 10
stop_of field = 32

-- the name of a trap
abbrev pub NamesTrap : ℕ → ℕ → Line → List ℕ → Type 0
NamesTrap inst action line bytes = (trap : TrapName)
    × Behind (trap_name trap) (Ends (Trap inst action trap) line) bytes

-- the end of a first line of version 2, whose limit of growth isn't 0
abbrev pub IsLimited : ℕ → ℕ → Line → ℕ → List ℕ → Type 0
IsLimited instances links line zero bytes = ⊥
IsLimited instances links line (suc grow) bytes =
    IsAll (Header instances links (suc grow)) line bytes

-- what follows the number of a field and the byte that stops it
abbrev pub follows : Field → Line → ℕ → List ℕ → Type 0
follows (Links instances) line n = IsAll (Header instances n 0) line
follows Instances line n = Numbers number_bound None (λ l. Then 10 (IsAll (Header n l 0) line))
follows (Limit instances links) line n = IsLimited instances links line n
follows (GrowingLinks instances) line n = Numbers number_bound None
    (λ g. Then 10 (IsLimited instances n line g))
follows GrowingInstances line n =
    Numbers number_bound None (λ l. Then 32
    (Numbers number_bound None (λ g. Then 10 (IsLimited n l line g))))
follows Instance line n = Named false slash (after_names Path n line)
follows (FiringAction inst) line n = IsAll (Fire inst n) line
follows FiringInst line n = Numbers action_bound None (λ a. Then 10 (IsAll (Fire n a) line))
follows (TrappingAction inst) line n = NamesTrap inst n line
follows TrappingInst line n = Numbers action_bound None (λ a. Then 32 (NamesTrap n a line))
follows (StalledLink inst action) line n = IsAll (Stall inst action n) line
follows (StalledAction inst) line n = Numbers number_bound None
    (λ l. Then 10 (IsAll (Stall inst n l) line))
follows StalledInst line n =
    Numbers action_bound None (λ a. Then 32
    (Numbers number_bound None (λ l. Then 10 (IsAll (Stall n a l) line))))
follows (GrownCapacity link) line n = IsAll (Grow link n) line
follows GrownLink line n = Numbers number_bound None (λ c. Then 10 (IsAll (Grow n c) line))

-- a number of a line, and what follows it
abbrev pub InField : Field → Option ℕ → Line → List ℕ → Type 0
InField field so_far line bytes =
    Numbers (bound_of field) so_far (λ n. Then (stop_of field) (follows field line n)) bytes

-- what stands before the version in the first line, and what follows it
abbrev pub front : List ℕ
front = codes "rvc-trace "

abbrev pub Versions : Line → List ℕ → Type 0
Versions line bytes =
    Then 49 (Then 32 (InField Instances None line)) bytes
    ⊎ Then 50 (Then 32 (InField GrowingInstances None line)) bytes

-- The bytes that make this line of those that stand before the place.
abbrev pub Waits : Place → Line → List ℕ → Type 0
Waits Start line bytes = Spells line bytes
Waits AfterR line bytes = Ends Deliver line bytes ⊎ Behind (drop 1 front) (Versions line) bytes
Waits (Front read) line bytes = Behind (drop read front) (Versions line) bytes
Waits (Letter field) line bytes = Then 32 (InField field None line) bytes
Waits (Number field so_far) line bytes = InField field so_far line bytes
Waits (AtName inst part) line bytes =
    Named false (separator_of part) (after_names part inst line) bytes
Waits (InName inst part) line bytes =
    Named true (separator_of part) (after_names part inst line) bytes
Waits (AtTrap inst action) line bytes = NamesTrap inst action line bytes
Waits (InTrap inst action trap read) line bytes =
    Behind (drop read (trap_name trap)) (Ends (Trap inst action trap) line) bytes
Waits (Ending this) line bytes = Ends this line bytes
Waits (Ended this) line bytes = IsAll this line bytes
Waits Lost line bytes = ⊥

-- unless all is lost, some bytes make a line
abbrev pub IsAlive : Place → Type 0
IsAlive Lost = Unit {0}
IsAlive place = (line : Line) × (bytes : List ℕ) × Waits place line bytes

-- a byte leads from a place to the next
pub record Leads (place : Place) (byte : ℕ) (next : Place) : Type 0 where
  pub onward : (line : Line) (bytes : List ℕ) → Waits place line (byte ∷ bytes)
      → Waits next line bytes
  pub back : (line : Line) (bytes : List ℕ) → Waits next line bytes
      → Waits place line (byte ∷ bytes)
  pub alive : IsAlive next

-- a byte leads from the version in the first line to the next place
pub record LeadsVersion (byte : ℕ) (next : Place) : Type 0 where
  pub onward : (line : Line) (bytes : List ℕ) → Versions line (byte ∷ bytes) → Waits next line bytes
  pub back : (line : Line) (bytes : List ℕ) → Waits next line bytes → Versions line (byte ∷ bytes)
  pub alive : IsAlive next

-- a place behind the number of a field and the byte that stops it
pub record StandsBehind (field : Field) (n : ℕ) (next : Place) : Type 0 where
  pub onward : (line : Line) (bytes : List ℕ) → follows field line n bytes → Waits next line bytes
  pub back : (line : Line) (bytes : List ℕ) → Waits next line bytes → follows field line n bytes
  pub alive : IsAlive next

-- a place behind the names of a part, if the next byte is no part of them
pub record LeadsOut (inst : ℕ) (part : Part) (byte : ℕ) (next : Place) : Type 0 where
  pub onward : (line : Line) (bytes : List ℕ) → after_names part inst line (byte ∷ bytes)
      → Waits next line bytes
  pub back : (line : Line) (bytes : List ℕ) → Waits next line bytes
      → after_names part inst line (byte ∷ bytes)
  pub alive : IsAlive next

abbrev pub IsDigit : ℕ → Type 0
IsDigit byte = (48 ≤ byte) × (byte < 58)

-- the place behind the digits of a number, which are lost if it is too small
abbrev pub IsWithin : Field → ℕ → Place → Type 0
IsWithin field number next =
    ((least_of field ≤ number) × (next ≡ Number field (Some number)))
    ⊎ ((number < least_of field) × (next ≡ Lost))

-- what one digit more makes of the digits so far
abbrev pub SoFar : Option ℕ → ℕ → ℕ → Option ℕ → Type 0
SoFar None digit most next = next ≡ Some digit
SoFar (Some zero) digit most next = next ≡ None
SoFar (Some (suc n)) digit most next =
    MatchOption next (most < suc n * 10 + digit)
    (λ longer. (longer ≡ suc n * 10 + digit) × (longer ≤ most))
