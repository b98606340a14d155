-- Where a byte leads, apart from numbers and from the first byte of a line.
use Rattle.std.proofs.Common.{◌≡◌, ℕ, ◌+◌, ◌<◌, Bool, true, false, List, [], ◌∷◌, ◌++◌, None, refl, sym, subst, inl, inr, arith, length, slice_index_or, add-one}
use Rattle.std.specs.Prelude.{drop, ◌==◌, ◌≢◌, ◌≤◌, MatchBool}
use Rattle.std.proofs.lemmas.List.{drop_all}
use Rattle.std.proofs.Math.Seq.{drop-cons}
use Rattle.rvc_base.specs.declared.trap.Trap.{Trap as TrapName}
use Rattle.rvc_base.specs.declared.trap.Trap.TheVariants.{Overflow, DivideByZero, IndexRange, ShiftRange, TurnLimit}
use Rattle.rvc_base.specs.Trap.{trap_name}
use Rattle.trace_text.specs.declared.line.Line.{Line}
use Rattle.trace_text.specs.declared.line.Line.TheVariants.{Inst, Trap}
use Rattle.trace_text.specs.declared.place.Place.{Place}
use Rattle.trace_text.specs.declared.place.Place.TheVariants.{AfterR, Front, Letter, Number, AtName, InName, AtTrap, InTrap, Lost}
use Rattle.trace_text.specs.declared.place.Field.{Field}
use Rattle.trace_text.specs.declared.place.Field.TheVariants.{Instances, GrowingInstances}
use Rattle.trace_text.specs.declared.place.Part.{Part}
use Rattle.trace_text.specs.declared.place.Part.TheVariants.{Path, Class}
use Rattle.trace_text.specs.Names.{is_letter, is_name_byte}
use Rattle.trace_text.specs.Waiting.{Behind, Ends, separator_of, Versions, IsAlive, Leads, LeadsOut, LeadsVersion, front}
use Rattle.trace_text.proofs.Numbering.{alive_none, lost}
use Rattle.trace_text.proofs.Starting.{alive_letter, behind_all}

-- one byte of a text, and the others
behind_split : (text : List ℕ) (P : List ℕ → Type 0) (read byte : ℕ) (bytes : List ℕ) → read < length text
    → Behind (drop read text) P (byte ∷ bytes) ≡ ((byte ≡ slice_index_or text read 0) × Behind (drop (read + 1) text) P bytes)
behind_split text P read byte bytes low = rw (drop-cons text read 0 low, add-one) refl

behind_more : (text : List ℕ) (P : List ℕ → Type 0) (read byte : ℕ) (bytes : List ℕ) → read < length text
    → Behind (drop read text) P (byte ∷ bytes) → (byte ≡ slice_index_or text read 0) × Behind (drop (read + 1) text) P bytes
behind_more text P read byte bytes low w = subst (λ (T : Type 0). T) (behind_split text P read byte bytes low) w

behind_less : (text : List ℕ) (P : List ℕ → Type 0) (read byte : ℕ) (bytes : List ℕ) → read < length text
    → slice_index_or text read 0 ≡ byte → Behind (drop (read + 1) text) P bytes → Behind (drop read text) P (byte ∷ bytes)
behind_less text P read byte bytes low e w = subst (λ (T : Type 0). T) (sym (behind_split text P read byte bytes low)) (sym e, w)

-- a version follows what stands before it
alive_version : (line : Line) × (bytes : List ℕ) × Versions line bytes
alive_version = let some = alive_letter Instances in (some.0, 49 ∷ some.1, inl (refl, some.2))

pub front_more : (read byte : ℕ) → read < 10 → slice_index_or front read 0 ≡ byte → Leads (Front read) byte (Front (read + 1))
front_more read byte low e =
    let some = alive_version in
    record {
      onward = λ line bytes w. (behind_more front (Versions line) read byte bytes low w).1;
      back = λ line bytes w. behind_less front (Versions line) read byte bytes low e w;
      alive = (some.0, drop (read + 1) front ++ some.1, behind_all (drop (read + 1) front) (Versions some.0) some.1 some.2);
    }

pub front_lost : (read byte : ℕ) → read < 10 → (slice_index_or front read 0 ≡ byte → ⊥) → Leads (Front read) byte Lost
front_lost read byte low other = lost (Front read) byte
    (λ line bytes w. other (sym (behind_more front (Versions line) read byte bytes low w).0))

pub trap_more : (inst action : ℕ) (trap : TrapName) (read byte : ℕ) → read < length (trap_name trap)
    → slice_index_or (trap_name trap) read 0 ≡ byte → Leads (InTrap inst action trap read) byte (InTrap inst action trap (read + 1))
trap_more inst action trap read byte low e =
    let this = Trap inst action trap in
    record {
      onward = λ line bytes w. (behind_more (trap_name trap) (Ends this line) read byte bytes low w).1;
      back = λ line bytes w. behind_less (trap_name trap) (Ends this line) read byte bytes low e w;
      alive = (
        this,
        drop (read + 1) (trap_name trap) ++ (10 ∷ []),
        behind_all (drop (read + 1) (trap_name trap)) (Ends this this) (10 ∷ []) (refl, (refl, refl)),
      );
    }

pub first_front : Leads AfterR 118 (Front 2)
first_front =
    let some = alive_version in
    record {
      onward = λ line bytes w. elim w [ inl v ↦ absurd (let e : ◌≡◌ {A = ℕ} 118 10 = v.0 in omega arith) | inr v ↦ v.1 ];
      back = λ line bytes w. inr (refl, w);
      alive = (some.0, drop 2 front ++ some.1, behind_all (drop 2 front) (Versions some.0) some.1 some.2);
    }

-- the version, behind all that stands before it
pub version_at : (read byte : ℕ) (next : Place) → 10 ≤ read → LeadsVersion byte next → Leads (Front read) byte next
version_at read byte next high there = record {
  onward = λ line bytes w. there.onward line bytes (subst (λ cs. Behind cs (Versions line) (byte ∷ bytes)) none w);
  back = λ line bytes w. subst (λ cs. Behind cs (Versions line) (byte ∷ bytes)) (sym none) (there.back line bytes w);
  alive = there.alive;
}
  where
    none : drop read front ≡ []
    none = drop_all read front high

pub first_version : LeadsVersion 49 (Letter Instances)
first_version = record {
  onward = λ line bytes w. elim w [ inl v ↦ v.1 | inr v ↦ absurd (let e : ◌≡◌ {A = ℕ} 49 50 = v.0 in omega arith) ];
  back = λ line bytes w. inl (refl, w);
  alive = alive_letter Instances;
}

pub second_version : LeadsVersion 50 (Letter GrowingInstances)
second_version = record {
  onward = λ line bytes w. elim w [ inl v ↦ absurd (let e : ◌≡◌ {A = ℕ} 50 49 = v.0 in omega arith) | inr v ↦ v.1 ];
  back = λ line bytes w. inr (refl, w);
  alive = alive_letter GrowingInstances;
}

pub no_version : (byte : ℕ) → byte ≢ 49 → byte ≢ 50 → LeadsVersion byte Lost
no_version byte one two = record {
  onward = λ line bytes w. elim w [ inl v ↦ one v.0 | inr v ↦ two v.0 ];
  back = λ line bytes w. absurd w;
  alive = tt;
}

pub blank : (field : Field) → Leads (Letter field) 32 (Number field None)
blank field = record { onward = λ line bytes w. w.1; back = λ line bytes w. (refl, w); alive = alive_none field }

-- names

alive_part : (inst : ℕ) (part : Part) → IsAlive (InName inst part)
alive_part inst Path = (Inst inst, 32 ∷ 97 ∷ 10 ∷ [], (refl, (refl, (refl, (refl, refl)))))
alive_part inst Class = (Inst inst, 10 ∷ [], (refl, (refl, refl)))

alive_name : (inst : ℕ) (part : Part) → IsAlive (AtName inst part)
alive_name inst part = let some = alive_part inst part in (some.0, 97 ∷ some.1, (refl, some.2))

pub a_letter : (inst : ℕ) (part : Part) (byte : ℕ) → is_letter byte ≡ true → Leads (AtName inst part) byte (InName inst part)
a_letter inst part byte e =
    record { onward = λ line bytes w. w.1; back = λ line bytes w. (e, w); alive = alive_part inst part }

chosen : (b : Bool) (P Q : Type 0) → b ≡ true → MatchBool b P Q → P
chosen true P Q e w = w
chosen false P Q e w = absurd (cc)

chosen_back : (b : Bool) (P Q : Type 0) → b ≡ true → P → MatchBool b P Q
chosen_back true P Q e w = w
chosen_back false P Q e w = absurd (cc)

other : (b : Bool) (P Q : Type 0) → b ≡ false → MatchBool b P Q → Q
other true P Q e w = absurd (cc)
other false P Q e w = w

other_back : (b : Bool) (P Q : Type 0) → b ≡ false → Q → MatchBool b P Q
other_back true P Q e w = absurd (cc)
other_back false P Q e w = w

pub a_name_byte : (inst : ℕ) (part : Part) (byte : ℕ) → is_name_byte byte ≡ true → Leads (InName inst part) byte (InName inst part)
a_name_byte inst part byte e = record {
  onward = λ line bytes w. chosen (is_name_byte byte) _ _ e w;
  back = λ line bytes w. chosen_back (is_name_byte byte) _ _ e w;
  alive = alive_part inst part;
}

pub a_separator : (inst : ℕ) (part : Part) (byte : ℕ) → is_name_byte byte ≡ false → (byte == separator_of part) ≡ true
    → Leads (InName inst part) byte (AtName inst part)
a_separator inst part byte e d = record {
  onward = λ line bytes w. chosen (byte == separator_of part) _ _ d (other (is_name_byte byte) _ _ e w);
  back = λ line bytes w. other_back (is_name_byte byte) _ _ e (chosen_back (byte == separator_of part) _ _ d w);
  alive = alive_name inst part;
}

pub out_of_names : (inst : ℕ) (part : Part) (byte : ℕ) (next : Place) → is_name_byte byte ≡ false → (byte == separator_of part) ≡ false
    → LeadsOut inst part byte next → Leads (InName inst part) byte next
out_of_names inst part byte next e d there = record {
  onward = λ line bytes w. there.onward line bytes (other (byte == separator_of part) _ _ d (other (is_name_byte byte) _ _ e w));
  back = λ line bytes w. other_back (is_name_byte byte) _ _ e (other_back (byte == separator_of part) _ _ d (there.back line bytes w));
  alive = there.alive;
}

pub out_of_path : (inst : ℕ) → LeadsOut inst Path 32 (AtName inst Class)
out_of_path inst = record { onward = λ line bytes w. w.1; back = λ line bytes w. (refl, w); alive = alive_name inst Class }

-- the first letter of a trap's name tells it
abbrev initial : TrapName → ℕ
initial Overflow = 79
initial DivideByZero = 68
initial IndexRange = 73
initial ShiftRange = 83
initial TurnLimit = 84

initial_is : (trap : TrapName) (P : List ℕ → Type 0) (byte : ℕ) (bytes : List ℕ) → Behind (trap_name trap) P (byte ∷ bytes)
    → (byte ≡ initial trap) × Behind (drop 1 (trap_name trap)) P bytes
initial_is Overflow P byte bytes w = w
initial_is DivideByZero P byte bytes w = w
initial_is IndexRange P byte bytes w = w
initial_is ShiftRange P byte bytes w = w
initial_is TurnLimit P byte bytes w = w

is_initial : (trap : TrapName) (P : List ℕ → Type 0) (bytes : List ℕ) → Behind (drop 1 (trap_name trap)) P bytes
    → Behind (trap_name trap) P (initial trap ∷ bytes)
is_initial Overflow P bytes w = (refl, w)
is_initial DivideByZero P bytes w = (refl, w)
is_initial IndexRange P bytes w = (refl, w)
is_initial ShiftRange P bytes w = (refl, w)
is_initial TurnLimit P bytes w = (refl, w)

same_trap : (trap that : TrapName) → initial trap ≡ initial that → trap ≡ that
same_trap Overflow Overflow e = refl
same_trap DivideByZero DivideByZero e = refl
same_trap IndexRange IndexRange e = refl
same_trap ShiftRange ShiftRange e = refl
same_trap TurnLimit TurnLimit e = refl
same_trap trap that e = absurd (omega arith)

pub an_initial : (inst action : ℕ) (trap : TrapName) → Leads (AtTrap inst action) (initial trap) (InTrap inst action trap 1)
an_initial inst action trap = record {
  onward = λ line bytes w.
      let first = initial_is w.0 (Ends (Trap inst action w.0) line) (initial trap) bytes w.1 in
      subst (λ (that : TrapName). Behind (drop 1 (trap_name that)) (Ends (Trap inst action that) line) bytes)
      (same_trap w.0 trap (sym first.0)) first.1;
  back = λ line bytes w. (trap, is_initial trap (Ends (Trap inst action trap) line) bytes w);
  alive = (
    Trap inst action trap,
    drop 1 (trap_name trap) ++ (10 ∷ []),
    behind_all (drop 1 (trap_name trap)) (Ends (Trap inst action trap) (Trap inst action trap)) (10 ∷ []) (refl, (refl, refl)),
  );
}
