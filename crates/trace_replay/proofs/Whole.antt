-- A trace behind its end line.
use Rattle.std.proofs.Common.{◌≡◌, ◌≢◌, ℕ, zero, suc, ◌+◌, ◌-◌, ◌<◌, ◌≤◌, Bool, true, false, List, [], ◌∷◌, ◌++◌, length, take, refl, ap, subst, ◌∙◌, arith, append-nil, length-append}
use Rattle.std.specs.Prelude.{Option, Some}
use Rattle.std.specs.List.{concat}
use Rattle.trace_text.specs.declared.line.Line.{Line}
use Rattle.net_model.specs.State.{State}
use Rattle.trace_replay.specs.Judging.{Trial, AtEnd, IsBehindEnd, EndsPast, IsNotRun, max_trace_bytes}
use Rattle.trace_replay.specs.Reading.{HasReached, IsWhole, TellsRest}
use Rattle.trace_replay.specs.declared.why.Why.TheVariants.{After, TooLong}
use Rattle.trace_replay.proofs.Reached.{is_longer, take_within}

told_is : (o : Option (List ℕ)) (so : Bool) (rest : List ℕ) → o ≡ Some rest → TellsRest so o → TellsRest so (Some rest)
told_is o so rest told tells = subst (TellsRest so) told tells

pub text_is : {X : Type 0} (t : Trial X) (text : List ℕ) (n passed : ℕ) (end : Line) (last : State X) (coming : Option (List ℕ)) (has : HasReached t text n passed (AtEnd end last) coming)
    → TellsRest false coming → text ≡ concat has.texts
text_is t text n passed end last coming has tells =
    let none : has.rest ≡ [] = told_is coming false has.rest has.told tells in
    has.is_text ∙ ap (λ a. concat has.texts ++ a) none ∙ append-nil (concat has.texts)

pub whole_is : {X : Type 0} (t : Trial X) (text : List ℕ) (n passed : ℕ) (end : Line) (last : State X) (coming : Option (List ℕ)) → HasReached t text n passed (AtEnd end last) coming
    → TellsRest false coming → passed ≤ max_trace_bytes → IsWhole t text end last
whole_is t text n passed end last coming has tells within =
    let none : has.rest ≡ [] = told_is coming false has.rest has.told tells in
    let is : text ≡ concat has.texts = has.is_text ∙ ap (λ a. concat has.texts ++ a) none ∙ append-nil (concat has.texts) in
    record {
      texts = has.texts;
      is_text = is;
      lead = has.lead;
      within = let count : length text ≡ length (concat has.texts) = ap length is in omega (arith, count, has.count, within);
    }

some_front : (k : ℕ) (rest : List ℕ) → 0 < k → rest ≢ [] → take k rest ≢ []
some_front zero rest low some = absurd (omega (arith, low))
some_front (suc k) [] low some = absurd (some refl)
some_front (suc k) (byte ∷ rest) low some = λ e. cc

pub behind_end : {X : Type 0} (t : Trial X) (text : List ℕ) (n passed : ℕ) (end : Line) (last : State X) (coming : Option (List ℕ)) → HasReached t text n passed (AtEnd end last) coming
    → TellsRest true coming → passed < max_trace_bytes → IsNotRun t text (n + 1) After
behind_end t text n passed end last coming has tells within =
    let some : has.rest ≢ [] = told_is coming true has.rest has.told tells in
    let low : length (concat has.texts) ≤ max_trace_bytes = omega (arith, has.count, within) in
    record {
      texts = has.texts;
      rest = take (max_trace_bytes - length (concat has.texts)) has.rest;
      reached = AtEnd end last;
      is_text = ap (take max_trace_bytes) has.is_text ∙ take_within max_trace_bytes (concat has.texts) has.rest low;
      lead = has.lead;
      number = ap (λ k. k + 1) has.number;
      longer = (is_longer max_trace_bytes (length text)).longer;
      is_longer = (is_longer max_trace_bytes (length text)).longer_so;
      is_whole = (is_longer max_trace_bytes (length text)).not_so;
      fails = IsBehindEnd tt (some_front (max_trace_bytes - length (concat has.texts)) has.rest (omega (arith, has.count, within)) some);
    }

longer_by : (rest : List ℕ) → rest ≢ [] → 0 < length rest
longer_by [] some = absurd (some refl)
longer_by (byte ∷ rest) some = omega arith

take_none : (k : ℕ) (rest : List ℕ) → k ≡ 0 → take k rest ≡ []
take_none zero rest e = refl
take_none (suc k) rest e = cc

pub past_end : {X : Type 0} (t : Trial X) (text : List ℕ) (n passed : ℕ) (end : Line) (last : State X) (coming : Option (List ℕ)) → HasReached t text n passed (AtEnd end last) coming
    → TellsRest true coming → passed ≡ max_trace_bytes → IsNotRun t text (n + 1) TooLong
past_end t text n passed end last coming has tells full =
    let some : has.rest ≢ [] = told_is coming true has.rest has.told tells in
    let low : length (concat has.texts) ≤ max_trace_bytes = omega (arith, has.count, full) in
    let long : length text ≡ length (concat has.texts) + length has.rest = ap length has.is_text ∙ length-append (concat has.texts) has.rest in
    let more : 0 < length has.rest = longer_by has.rest some in
    record {
      texts = has.texts;
      rest = [];
      reached = AtEnd end last;
      is_text = ap (take max_trace_bytes) has.is_text ∙ take_within max_trace_bytes (concat has.texts) has.rest low
          ∙ ap (λ a. concat has.texts ++ a) (take_none (max_trace_bytes - length (concat has.texts)) has.rest (omega (arith, has.count, full)));
      lead = has.lead;
      number = ap (λ k. k + 1) has.number;
      longer = true;
      is_longer = λ e. omega (arith, long, more, has.count, full);
      is_whole = λ e. cc;
      fails = EndsPast tt refl refl;
    }
