-- What a reader says of the bytes that it has read.
use Rattle.std.proofs.Common.{◌≡◌, ℕ, List, [], ◌∷◌, ◌++◌, refl, sym, ap, ◌∙◌, subst, inl, inr, append_assoc}
use Rattle.std.proofs.lemmas.List.{append-nil}
use Rattle.rvc_base.specs.Trap.{trap_name}
use Rattle.trace_text.specs.declared.line.Line.{Line}
use Rattle.trace_text.specs.declared.line.Line.TheVariants.{Header, Inst, Fire, Deliver, Grow, Quiet, Trap, Stall, Budget}
use Rattle.trace_text.specs.declared.place.Place.{Place}
use Rattle.trace_text.specs.declared.place.Place.TheVariants.{Start, AfterR, Front, Letter, Number, AtName, InName, AtTrap, InTrap, Ending, Ended, Lost}
use Rattle.trace_text.specs.declared.reader.LineReader.{LineReader}
use Rattle.trace_text.specs.declared.reader.Step2.TheVariants.{More, Line as TheLine, Bad}
use Rattle.trace_text.specs.Spelling.{Spells, Begins, IsFront}
use Rattle.trace_text.specs.Waiting.{Behind, Ends, Versions, Waits, IsAlive, Leads, bound_of}
use Rattle.trace_text.specs.HasRead.{HasRead}
use Rattle.trace_text.specs.ReadBack.{IsAnswer}
use Rattle.trace_text.specs.Answer.{answer_of}
use Rattle.trace_text.proofs.Decoding.{starts}
use Rattle.trace_text.proofs.Digits.{no_end}
use Rattle.trace_text.proofs.Numbering.{field_stops}
use Rattle.trace_text.proofs.Starting.{text_spread, inst_spread}

pub has_line : (line : Line) → Spells line [] → ⊥
has_line (Header n l g) w = starts (Header n l g) [] (w.1 ∙ text_spread (Header n l g))
has_line (Grow l c) w = starts (Grow l c) [] (w.1 ∙ text_spread (Grow l c))
has_line (Inst k) w = starts (Inst k) _ (w.1.4 ∙ inst_spread k w.1.0 w.1.1)
has_line (Fire i a) w = starts (Fire i a) [] (w.1 ∙ text_spread (Fire i a))
has_line Deliver w = starts Deliver [] (w.1 ∙ text_spread Deliver)
has_line Quiet w = starts Quiet [] (w.1 ∙ text_spread Quiet)
has_line (Trap i a c) w = starts (Trap i a c) [] (w.1 ∙ text_spread (Trap i a c))
has_line (Stall i a l) w = starts (Stall i a l) [] (w.1 ∙ text_spread (Stall i a l))
has_line Budget w = starts Budget [] (w.1 ∙ text_spread Budget)

not_behind : (cs : List ℕ) (P : List ℕ → Type 0) → (P [] → ⊥) → Behind cs P [] → ⊥
not_behind [] P none w = none w
not_behind (c ∷ cs) P none w = w

-- unless a line has ended, a byte more is waited for
more_comes : (place : Place) (line : Line) → answer_of place ≡ More → Waits place line [] → ⊥
more_comes Start line e w = has_line line w
more_comes AfterR line e w = elim w [ inl v ↦ v | inr v ↦ v ]
more_comes (Front read) line e w = not_behind _ (Versions line) (λ v. elim v [ inl v ↦ v | inr v ↦ v ]) w
more_comes (Letter field) line e w = w
more_comes (Number field so_far) line e w = no_end (bound_of field) so_far _ (field_stops field line) w
more_comes (AtName inst part) line e w = w
more_comes (InName inst part) line e w = w
more_comes (AtTrap inst action) line e w = not_behind (trap_name w.0) (Ends (Trap inst action w.0) line) (λ v. v) w.1
more_comes (InTrap inst action trap read) line e w = not_behind _ (Ends (Trap inst action trap) line) (λ v. v) w
more_comes (Ending this) line e w = w
more_comes (Ended this) line e w = absurd (cc)
more_comes Lost line e w = w

alive_more : (place : Place) → answer_of place ≡ More → IsAlive place → (line : Line) × (bytes : List ℕ) × Waits place line bytes
alive_more (Ended this) e some = some
alive_more Lost e some = absurd (cc)
alive_more place e some = some

-- the bytes that a place stands for, and what is said of them
pub record Stands (place : Place) (text : List ℕ) : Type 0 where
  pub onward : (line : Line) (bytes : List ℕ) → Spells line (text ++ bytes) → Waits place line bytes
  pub back : (line : Line) (bytes : List ℕ) → Waits place line bytes → Spells line (text ++ bytes)
  pub alive : IsAlive place

pub stands : (reader : LineReader) (read : List ℕ) (byte : ℕ) (next : Place) → HasRead reader read → Leads reader.place byte next
    → Stands next (read ++ byte ∷ [])
stands reader read byte next h there = record {
  onward = λ line bytes w. there.onward line bytes (h.onward line (byte ∷ bytes)
      (subst (λ (u : List ℕ). Spells line u) (append_assoc read (byte ∷ []) bytes) w));
  back = λ line bytes w. subst (λ (u : List ℕ). Spells line u) (sym (append_assoc read (byte ∷ []) bytes))
      (h.back line (byte ∷ bytes) (there.back line bytes w));
  alive = there.alive;
}

whole_on : (place : Place) (text : List ℕ) → Stands place text → (line : Line) → Spells line text → Waits place line []
whole_on place text h line w = h.onward line [] (subst (λ (u : List ℕ). Spells line u) (sym (append-nil text)) w)

whole_back : (place : Place) (text : List ℕ) → Stands place text → (line : Line) → Waits place line [] → Spells line text
whole_back place text h line w = subst (λ (u : List ℕ). Spells line u) (append-nil text) (h.back line [] w)

pub says_line : (place : Place) (text : List ℕ) → Stands place text → (line : Line) → answer_of place ≡ TheLine line → Spells line text
says_line (Ended this) text h line e =
    let same : line ≡ this = cc in
    whole_back (Ended this) text h line (same, refl)
says_line place text h line e = absurd (cc)

pub is_said : (place : Place) (text : List ℕ) → Stands place text → (line : Line) → Spells line text → answer_of place ≡ TheLine line
is_said (Ended this) text h line w =
    let all = whole_on (Ended this) text h line w in
    ap TheLine (sym all.0)
is_said Lost text h line w = absurd (whole_on Lost text h line w)
is_said place text h line w = absurd (more_comes place line refl (whole_on place text h line w))

pub says_more : (place : Place) (text : List ℕ) → Stands place text → answer_of place ≡ More → IsFront text
says_more place text h e =
    let some = alive_more place e h.alive in
    ((some.0, some.1, h.back some.0 some.1 some.2), λ line w. more_comes place line e (whole_on place text h line w))

pub more_is_said : (place : Place) (text : List ℕ) → Stands place text → IsFront text → answer_of place ≡ More
more_is_said (Ended this) text h w = absurd (w.1 this (whole_back (Ended this) text h this (refl, refl)))
more_is_said Lost text h w = absurd (h.onward w.0.0 w.0.1 w.0.2)
more_is_said place text h w = refl

pub says_bad : (place : Place) (text : List ℕ) → Stands place text → answer_of place ≡ Bad → ¬ Begins text
says_bad Lost text h e = λ w. h.onward w.0 w.1 w.2
says_bad place text h e = absurd (cc)

pub bad_is_said : (place : Place) (text : List ℕ) → Stands place text → ¬ Begins text → answer_of place ≡ Bad
bad_is_said Lost text h none = refl
bad_is_said place text h none = absurd (none (h.alive.0, h.alive.1, h.back h.alive.0 h.alive.1 h.alive.2))

pub is_answer : (place : Place) (text : List ℕ) → Stands place text → IsAnswer text (answer_of place)
is_answer (Ended this) text h = says_line (Ended this) text h this refl
is_answer Lost text h = says_bad Lost text h refl
is_answer place text h = says_more place text h refl
