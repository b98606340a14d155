-- The tags up to an end tag depend on the bytes up to its `/` alone.
use Rattle.std.proofs.Common.{◌≡◌, ℕ, suc, ◌+◌, ◌<◌, List, [], ◌∷◌, ◌++◌, length, take, drop, subst, refl, sym, ap, ◌∙◌, arith, append_assoc}
use Rattle.std.proofs.lemmas.List.{append-nil, append_cancel_left, length-append, take-append-drop}
use Rattle.rvc_base.specs.declared.refusal.Rule.{Rule}
use Rattle.fnl_markup.specs.Tags.{Tag, opens, closes}
use Rattle.fnl_markup.specs.State.{State, fresh, Next, Going, Fault}
use Rattle.fnl_markup.specs.Step.{step}
use Rattle.fnl_markup.specs.Markup.{run, tags_read, tags_of}
use Rattle.fnl_markup.proofs.Runs.{goes_on, stops_here}
use Rattle.fnl_markup.proofs.Grows.{IsBrought, nothing, an_opening, a_closing, both, adds}

-- some tags, and more
pub record Extends (old new : List Tag) : Type 0 where
  pub more : List Tag
  pub is : new ≡ old ++ more

extended : (old new more : List Tag) → new ≡ old ++ more → Extends old new
extended old new more e = record { more = more; is = e }

tags_going : (at b : ℕ) (s next : State) (bytes : List ℕ) → step at s b ≡ Going next → tags_read (run at s (b ∷ bytes)) ≡ tags_read (run (at + 1) next bytes)
tags_going at b s next bytes e = ap tags_read (goes_on at s next b bytes e)

tags_stopped : (at b place : ℕ) (s : State) (rule : Rule) (bytes : List ℕ) → step at s b ≡ Fault rule place → tags_read (run at s (b ∷ bytes)) ≡ s.tags
tags_stopped at b place s rule bytes e = ap tags_read (stops_here at place b s rule bytes e)

-- reading only adds tags
grows_after : (at b : ℕ) (s : State) (bytes : List ℕ) (found : Next) → step at s b ≡ found → ((next : State) → Extends next.tags (tags_read (run (at + 1) next bytes))) → Extends s.tags (tags_read (run at s (b ∷ bytes)))
grows_after at b s bytes (Going next) here later =
    let behind = later next in
    let step_ = adds s.place at s b next here in
    extended s.tags _ (step_.brought ++ behind.more)
    (tags_going at b s next bytes here ∙ behind.is ∙ ap (λ ts. ts ++ behind.more) step_.grown ∙ append_assoc s.tags step_.brought behind.more)
grows_after at b s bytes (Fault rule place) here later = extended s.tags _ [] (tags_stopped at b place s rule bytes here ∙ sym (append-nil s.tags))

pub grows : (at : ℕ) (s : State) (bytes : List ℕ) → Extends s.tags (tags_read (run at s bytes))
grows at s [] = extended s.tags s.tags [] (sym (append-nil s.tags))
grows at s (b ∷ bytes) = grows_after at b s bytes (step at s b) refl (λ next. grows (at + 1) next bytes)

-- The end tag with its `/` at a place is among the tags that bytes bring, behind some: then each text that is the same
-- up to that place and with it has the same tags up to there.
pub record Holds (at : ℕ) (s : State) (bytes : List ℕ) (before : List Tag) (place : ℕ) : Type 0 where
  pub size : ℕ
  pub is_place : place ≡ at + size
  pub within : size < length bytes
  pub same : (others : List ℕ) → Extends (s.tags ++ (before ++ closes place ∷ [])) (tags_read (run at s (take (suc size) bytes ++ others)))

with_more : (old base new more : List Tag) → base ≡ old → Extends base new → Extends old new
with_more old base new more e x = extended old new x.more (x.is ∙ ap (λ ts. ts ++ x.more) e)

moved : (old brought before : List Tag) (close : Tag) (next : List Tag) → next ≡ old ++ brought → next ++ (before ++ close ∷ []) ≡ old ++ ((brought ++ before) ++ close ∷ [])
moved old brought before close next e =
    ap (λ ts. ts ++ (before ++ close ∷ [])) e ∙ append_assoc old brought (before ++ close ∷ []) ∙ ap (λ ts. old ++ ts) (sym (append_assoc brought before (close ∷ [])))

-- it comes with a later byte
later_holds : (at b : ℕ) (s next : State) (bytes : List ℕ) (brought before : List Tag) (place : ℕ) → step at s b ≡ Going next → next.tags ≡ s.tags ++ brought → Holds (at + 1) next bytes before place → Holds at s (b ∷ bytes) (brought ++ before) place
later_holds at b s next bytes brought before place here grown h = record {
  size = suc h.size;
  is_place = let there = h.is_place in omega arith;
  within = let inside = h.within in omega arith;
  same = λ others.
      let behind = h.same others in
      extended _ _ behind.more
      (tags_going at b s next (take (suc h.size) bytes ++ others) here ∙ behind.is
      ∙ ap (λ ts. ts ++ behind.more) (moved s.tags brought before (closes place) next.tags grown));
}

-- it comes with this byte
here_holds : (at b : ℕ) (s next : State) (bytes : List ℕ) (before : List Tag) (place : ℕ) → step at s b ≡ Going next → next.tags ≡ s.tags ++ (before ++ closes place ∷ []) → place ≡ at → Holds at s (b ∷ bytes) before place
here_holds at b s next bytes before place here grown same = record {
  size = 0;
  is_place = omega arith;
  within = omega arith;
  same = λ others.
      let behind = grows (at + 1) next others in
      extended _ _ behind.more (tags_going at b s next others here ∙ behind.is ∙ ap (λ ts. ts ++ behind.more) grown);
}

abbrev Later : ℕ → List ℕ → List Tag → ℕ → State → Type 0
Later at bytes after place next = (before : List Tag) → tags_read (run (at + 1) next bytes) ≡ next.tags ++ (before ++ closes place ∷ after) → Holds (at + 1) next bytes before place

-- by what the byte brings, and the rest of what is read
by_brought : (at b : ℕ) (s next : State) (bytes : List ℕ) (brought rest before after : List Tag) (place : ℕ) → IsBrought at brought → step at s b ≡ Going next → next.tags ≡ s.tags ++ brought → tags_read (run (at + 1) next bytes) ≡ next.tags ++ rest → brought ++ rest ≡ before ++ closes place ∷ after → Later at bytes after place next → Holds at s (b ∷ bytes) before place
by_brought at b s next bytes brought rest before after place nothing here grown read e later =
    later_holds at b s next bytes [] before place here grown (later before (read ∙ ap (λ ts. next.tags ++ ts) e))
by_brought at b s next bytes brought rest [] after place (an_opening {name} {attributes} {place = p}) here grown read e later = cc
by_brought at b s next bytes brought rest (t ∷ before) after place (an_opening {name} {attributes} {place = p}) here grown read e later =
    let first : opens name attributes p ≡ t = cc in
    let others : rest ≡ before ++ closes place ∷ after = cc in
    subst (λ u. Holds at s (b ∷ bytes) (u ∷ before) place) first
    (later_holds at b s next bytes (opens name attributes p ∷ []) before place here grown (later before (read ∙ ap (λ ts. next.tags ++ ts) others)))
by_brought at b s next bytes brought rest [] after place a_closing here grown read e later =
    let first : closes at ≡ closes place = cc in
    here_holds at b s next bytes [] place here (grown ∙ ap (λ t. s.tags ++ t ∷ []) first) cc
by_brought at b s next bytes brought rest (t ∷ before) after place a_closing here grown read e later =
    let first : closes at ≡ t = cc in
    let others : rest ≡ before ++ closes place ∷ after = cc in
    subst (λ u. Holds at s (b ∷ bytes) (u ∷ before) place) first
    (later_holds at b s next bytes (closes at ∷ []) before place here grown (later before (read ∙ ap (λ ts. next.tags ++ ts) others)))
by_brought at b s next bytes brought rest [] after place (both {name} {attributes} {place = p}) here grown read e later = cc
by_brought at b s next bytes brought rest (t ∷ []) after place (both {name} {attributes} {place = p}) here grown read e later =
    let first : opens name attributes p ≡ t = cc in
    let second : closes at ≡ closes place = cc in
    here_holds at b s next bytes (t ∷ []) place here (grown ∙ ap (λ u. s.tags ++ u ∷ closes at ∷ []) first ∙ ap (λ u. s.tags ++ t ∷ u ∷ []) second) cc
by_brought at b s next bytes brought rest (t ∷ u ∷ before) after place (both {name} {attributes} {place = p}) here grown read e later =
    let first : opens name attributes p ≡ t = cc in
    let second : closes at ≡ u = cc in
    let others : rest ≡ before ++ closes place ∷ after = cc in
    subst (λ x. Holds at s (b ∷ bytes) (x ∷ u ∷ before) place) first
    (subst (λ x. Holds at s (b ∷ bytes) (opens name attributes p ∷ x ∷ before) place) second
    (later_holds at b s next bytes (opens name attributes p ∷ closes at ∷ []) before place here grown (later before (read ∙ ap (λ ts. next.tags ++ ts) others))))

too_many : (old more : List Tag) (close : Tag) (after : List Tag) → old ≡ old ++ (more ++ close ∷ after) → ⊥
too_many old more close after e =
    let size : length old ≡ length (old ++ (more ++ close ∷ after)) = ap length e in
    let one = length-append old (more ++ close ∷ after) in
    let two = length-append more (close ∷ after) in
    absurd (omega arith)

holds_after : (at b : ℕ) (s : State) (bytes : List ℕ) (before after : List Tag) (place : ℕ) (found : Next) → step at s b ≡ found → tags_read (run at s (b ∷ bytes)) ≡ s.tags ++ (before ++ closes place ∷ after) → ((next : State) → Later at bytes after place next) → Holds at s (b ∷ bytes) before place
holds_after at b s bytes before after place (Going next) here e later =
    let step_ = adds s.place at s b next here in
    let rest = grows (at + 1) next bytes in
    let all : (s.tags ++ step_.brought) ++ rest.more ≡ s.tags ++ (before ++ closes place ∷ after) = sym (ap (λ ts. ts ++ rest.more) step_.grown) ∙ sym rest.is ∙ sym (tags_going at b s next bytes here) ∙ e in
    let parts : step_.brought ++ rest.more ≡ before ++ closes place ∷ after = append_cancel_left s.tags _ _ (sym (append_assoc s.tags step_.brought rest.more) ∙ all) in
    by_brought at b s next bytes step_.brought rest.more before after place step_.is_brought here step_.grown rest.is parts (later next)
holds_after at b s bytes before after place (Fault rule there) here e later =
    absurd (too_many s.tags before (closes place) after (sym (tags_stopped at b there s rule bytes here) ∙ e))

pub holds : (at : ℕ) (s : State) (bytes : List ℕ) (before after : List Tag) (place : ℕ) → tags_read (run at s bytes) ≡ s.tags ++ (before ++ closes place ∷ after) → Holds at s bytes before place
holds at s [] before after place e = absurd (too_many s.tags before (closes place) after e)
holds at s (b ∷ bytes) before after place e = holds_after at b s bytes before after place (step at s b) refl e (λ next before_ e_. holds (at + 1) next bytes before_ after place e_)

-- a text that is the same up to the end tag's `/` and with it has the same tags up to there
pub same_tags : (text other : List ℕ) (before after : List Tag) (place : ℕ) → tags_of text ≡ before ++ closes place ∷ after → take (place + 1) other ≡ take (place + 1) text → Extends (before ++ closes place ∷ []) (tags_of other)
same_tags text other before after place e same =
    let h = holds 0 fresh text before after place e in
    let count : place + 1 ≡ suc h.size = let there = h.is_place in omega arith in
    let split : take (suc h.size) text ++ drop (place + 1) other ≡ other =
    ap (λ n. take n text ++ drop (place + 1) other) (sym count) ∙ ap (λ xs. xs ++ drop (place + 1) other) (sym same) ∙ take-append-drop (place + 1) other in
    let found = h.same (drop (place + 1) other) in
    extended (before ++ closes place ∷ []) (tags_of other) found.more (sym (ap tags_of split) ∙ found.is)
