-- No trace is told to be none.
use Rattle.std.proofs.Common.{◌≡◌, ◌≢◌, ℕ, zero, suc, ◌+◌, ◌<◌, ◌≤◌, ◌⊎◌, Bool, true, false, List, [], ◌∷◌, ◌++◌, length, take, refl, sym, ap, subst, ◌∙◌, inl, inr, ⊎_elim, arith, append_assoc, append-nil, length-append}
use Rattle.std.specs.Prelude.{Some}
use Rattle.std.specs.List.{concat}
use Rattle.trace_text.specs.declared.line.Line.{Line}
use Rattle.trace_text.specs.declared.line.Line.TheVariants.{Header as FirstLine, Inst, Fire, Deliver, Grow, Quiet, Trap as TrapLine, Stall, Budget}
use Rattle.trace_text.specs.Spelling.{Spells, Begins, IsFront}
use Rattle.trace_text.specs.Laws.{IsOneLine, FrontIsNoLine}
use Rattle.net_model.specs.Network.{Network}
use Rattle.net_model.specs.State.{State}
use Rattle.net_model.specs.Event.{and_then}
use Rattle.net_model.specs.Ends.{Grows}
use Rattle.net_model.specs.Trace.{goes, opened_by}
use Rattle.net_model.specs.Wired.{IsWired}
use Rattle.net_model.specs.Laws.{AreLawful, LinesKeepSent, sent_on_link}
use Rattle.trace_replay.specs.Judging.{Trial, Reached, AtFirst, AtInstance, AtEvents, AtEnd, LeadsOn, Lead, LineFails, IsOver, RestFails, BeginsNone, IsOfNoTable, MayNotCome, IsBehindEnd, IsCutOff, GoesPast, EndsPast, after_line, due, is_end, is_of_table, max_trace_bytes}
use Rattle.trace_replay.specs.Laws.{NoneIsLost, NoTraceIsNotRun}
use Rattle.trace_replay.specs.declared.why.Why.{Why}
use Rattle.trace_replay.proofs.Traces.{traces_are_lines, after_end, after_event}
use Rattle.trace_replay.proofs.Excluded.{what_fails_may_not_come}

-- Texts side by side.

-- of two fronts of one text one is the front of the other
comparable : (these those a b : List ℕ) → these ++ a ≡ those ++ b
    → ((x : List ℕ) × (those ≡ these ++ x) × (a ≡ x ++ b)) ⊎ ((x : List ℕ) × (these ≡ those ++ x) × (b ≡ x ++ a))
comparable [] those a b same = inl (those, refl, same)
comparable (y ∷ these) [] a b same = inr (y ∷ these, refl, sym same)
comparable (y ∷ these) (z ∷ those) a b same =
    let first : y ≡ z = cc in
    let others : these ++ a ≡ those ++ b = cc in
    ⊎_elim
    (λ p. inl (p.0, ap (λ u. u ∷ those) (sym first) ∙ ap (λ u. y ∷ u) p.1, p.2))
    (λ p. inr (p.0, ap (λ u. u ∷ these) first ∙ ap (λ u. z ∷ u) p.1, p.2))
    (comparable these those a b others)

nothing_or : (x : List ℕ) → (x ≡ []) ⊎ (x ≢ [])
nothing_or [] = inl refl
nothing_or (y ∷ x) = inr (λ e. cc)

none_of_two : (x m : List ℕ) → x ++ m ≡ [] → x ≡ []
none_of_two [] m e = refl
none_of_two (y ∷ x) m e = cc

no_more : (line : Line) (text x : List ℕ) → FrontIsNoLine → (other : Line) → Spells other text → Spells line (text ++ x) → x ≡ []
no_more line text x front other spells longer = ⊎_elim (λ none. none)
    (λ some. let no_line : IsFront text = front line text x longer some in absurd (no_line.1 other spells)) (nothing_or x)

-- a text of lines has one first line
pub record Same (these those a b : List ℕ) : Type 0 where
  pub texts : these ≡ those
  pub others : a ≡ b

pub cut : (this that : Line) (these those a b : List ℕ) → FrontIsNoLine → Spells this these → Spells that those → these ++ a ≡ those ++ b → Same these those a b
cut this that these those a b front spells spells_that same = ⊎_elim
    (λ p. let none : p.0 ≡ [] = no_more that these p.0 front this spells (subst (Spells that) p.1 spells_that) in
    record {
      texts = sym (append-nil these) ∙ ap (λ x. these ++ x) (sym none) ∙ sym p.1;
      others = p.2 ∙ ap (λ x. x ++ b) none;
    })
    (λ p. let none : p.0 ≡ [] = no_more this those p.0 front that spells_that (subst (Spells this) p.1 spells) in
    record {
      texts = p.1 ∙ ap (λ x. those ++ x) none ∙ append-nil those;
      others = sym (p.2 ∙ ap (λ x. x ++ a) none);
    })
    (comparable these those a b same)

-- bytes that begin a line and are none don't begin with a whole line
pub front_not : (line : Line) (text x : List ℕ) → FrontIsNoLine → Spells line text → IsFront (text ++ x) → ⊥
front_not line text x front spells is_front =
    let begins : Begins (text ++ x) = is_front.0 in
    let whole : Spells begins.0 (text ++ (x ++ begins.1)) = subst (Spells begins.0) (append_assoc text x begins.1) begins.2 in
    let none : x ++ begins.1 ≡ [] = no_more begins.0 text (x ++ begins.1) front line spells whole in
    let nothing : x ≡ [] = none_of_two x begins.1 none in
    is_front.1 line (subst (Spells line) (sym (ap (λ a. text ++ a) nothing ∙ append-nil text)) spells)

-- States that lines lead to.

kept_next : {X : Type 0} (net : Network X) (opened s next : State X) (line : Line) → LinesKeepSent X → NoneIsLost net opened s → goes net s line ≡ Some next
    → NoneIsLost net (opened_by line opened next) next
kept_next {X} net opened s next line grows kept so = of_line line so
  where
    later : (line : Line) → goes net s line ≡ Some next → NoneIsLost net opened next
    later line so l low =
        let more = grows net s next (line ∷ []) (ap (λ o. and_then o (λ u. Some u)) so) l low in
        let count : length (sent_on_link next l) ≡ length (sent_on_link s l) + length more.0 = ap length more.1 ∙ length-append (sent_on_link s l) more.0 in
        let before : length (sent_on_link opened l) ≤ length (sent_on_link s l) = kept l low in
        omega (arith, count, before)

    of_line : (line : Line) → goes net s line ≡ Some next → NoneIsLost net (opened_by line opened next) next
    of_line Deliver so = λ l low. omega arith
    of_line (Fire i a) so = later (Fire i a) so
    of_line (TrapLine i a c) so = later (TrapLine i a c) so
    of_line (Grow l capacity) so = later (Grow l capacity) so
    of_line Quiet so = later Quiet so
    of_line (Stall i a l) so = later (Stall i a l) so
    of_line Budget so = later Budget so
    of_line (FirstLine n l g) so = later (FirstLine n l g) so
    of_line (Inst k) so = later (Inst k) so

-- on the way no token is lost
abbrev pub IsKept : {X : Type 0} → Trial X → Reached X → Type 0
IsKept t AtFirst = Unit {0}
IsKept t (AtInstance k leaf leaves) = Unit {0}
IsKept t (AtEvents opened s) = NoneIsLost t.net opened s
IsKept t (AtEnd end last) = Unit {0}

due_kept : {X : Type 0} (t : Trial X) (k : ℕ) (leaves : List (Rattle.net_model.specs.Network.Leaf X)) → IsKept t (due k leaves t.start)
due_kept t k [] = λ l low. omega arith
due_kept t k (leaf ∷ leaves) = tt

by_bool : (P : Type 0) (b : Bool) → (b ≡ true → P) → (b ≡ false → P) → P
by_bool P true p q = p refl
by_bool P false p q = q refl

pub next_kept : {X : Type 0} (t : Trial X) (reached next : Reached X) (text : List ℕ) (line : Line) → LinesKeepSent X → IsKept t reached → LeadsOn t reached text line next → IsKept t next
next_kept t AtFirst next text line grows kept on = subst (IsKept t) (sym on.1) (due_kept t 0 t.net.leaves)
next_kept t (AtInstance k leaf leaves) next text line grows kept on = subst (IsKept t) (sym on.1) (due_kept t (k + 1) leaves)
next_kept t (AtEvents opened s) next text line grows kept (last, may, is) = subst (IsKept t) (sym is)
    (by_bool (IsKept t (after_line line opened last)) (is_end line)
    (λ ends. subst (IsKept t) (sym (after_end line opened last ends)) tt)
    (λ goes_on. subst (IsKept t) (sym (after_event line opened last goes_on)) (kept_next t.net opened s last line grows kept may.goes_so)))
next_kept t (AtEnd end last) next text line grows kept on = absurd on

-- a line leads to one place
pub one_next : {X : Type 0} (t : Trial X) (reached these those : Reached X) (text : List ℕ) (line : Line) → LeadsOn t reached text line these → LeadsOn t reached text line those → these ≡ those
one_next t AtFirst these those text line p q = p.1 ∙ sym q.1
one_next t (AtInstance k leaf leaves) these those text line p q = p.1 ∙ sym q.1
one_next t (AtEvents opened s) these those text line (last, may, is) (other, may_too, is_too) =
    let same : last ≡ other = some_is last other (sym may.goes_so ∙ may_too.goes_so) in
    is ∙ ap (after_line line opened) same ∙ sym is_too
  where
    some_is : {A : Type 0} (x y : A) → Some x ≡ Some y → x ≡ y
    some_is x y e = cc
one_next t (AtEnd end last) these those text line p q = absurd p

-- what the lines of a trace lead to behind other lines that lead on, and the text there
record Remains {X : Type 0} (t : Trial X) (reached : Reached X) (rest : List ℕ) (last : Reached X) : Type 0 where
  texts : List (List ℕ)
  lead : Lead t reached texts last
  is_text : rest ≡ concat texts
  kept : IsKept t reached

remains : {X : Type 0} (t : Trial X) (from reached : Reached X) (those : List (List ℕ)) (these : List (List ℕ)) (rest : List ℕ) (end : Line) (last : State X)
    → FrontIsNoLine → IsOneLine → LinesKeepSent X → IsKept t from
    → Lead t from these (AtEnd end last) → Lead t from those reached → concat these ≡ concat those ++ rest → Remains t reached rest (AtEnd end last)
remains t from reached [] these rest end last front one grows kept lead lead_those same = record {
  texts = these;
  lead = subst (λ r. Lead t r these (AtEnd end last)) lead_those lead;
  is_text = sym same;
  kept = subst (IsKept t) lead_those kept;
}
remains t from reached (that ∷ those) [] rest end last front one grows kept lead (line, next, spells, on, more) same =
    absurd (subst (λ r. LeadsOn t r that line next) lead on)
remains t from reached (that ∷ those) (this ∷ these) rest end last front one grows kept (line, next, spells, on, more) (line_that, next_that, spells_that, on_that, more_that) same =
    let cut_here : Same this that (concat these) (concat those ++ rest) =
    cut line line_that this that (concat these) (concat those ++ rest) front spells spells_that (same ∙ append_assoc that (concat those) rest) in
    let text_same : this ≡ that = cut_here.texts in
    let line_same : line ≡ line_that = one line line_that that (subst (Spells line) text_same spells) spells_that in
    let on_too : LeadsOn t from that line_that next = subst (λ a. LeadsOn t from a line_that next) text_same (subst (λ l. LeadsOn t from this l next) line_same on) in
    let next_same : next ≡ next_that = one_next t from next next_that that line_that on_too on_that in
    remains t next_that reached those these rest end last front one grows (next_kept t from next_that that line_that grows kept on_that)
    (subst (λ r. Lead t r these (AtEnd end last)) next_same more) more_that cut_here.others

-- What stands there doesn't fail.

growth_not : {X : Type 0} (t : Trial X) (reached next : Reached X) (text : List ℕ) (l capacity : ℕ) → t.grow ≡ 0 → LeadsOn t reached text (Grow l capacity) next → ⊥
growth_not t AtFirst next text l capacity limit on = cc
growth_not t (AtInstance k leaf leaves) next text l capacity limit on = cc
growth_not t (AtEvents opened s) next text l capacity limit (last, may, is) = let grows : Grows t.net t.grow s l capacity = may.true_there in omega (arith, grows.below, limit)
growth_not t (AtEnd end last) next text l capacity limit on = on

pub no_growth_of : {X : Type 0} (t : Trial X) (reached next : Reached X) (text : List ℕ) (grow : ℕ) (line : Line) → t.grow ≡ grow → is_of_table grow line ≡ false → LeadsOn t reached text line next → ⊥
no_growth_of t reached next text zero (Grow l capacity) limit none on = growth_not t reached next text l capacity limit on
no_growth_of t reached next text zero (FirstLine n l g) limit none on = cc
no_growth_of t reached next text zero (Inst k) limit none on = cc
no_growth_of t reached next text zero (Fire i a) limit none on = cc
no_growth_of t reached next text zero Deliver limit none on = cc
no_growth_of t reached next text zero Quiet limit none on = cc
no_growth_of t reached next text zero (TrapLine i a c) limit none on = cc
no_growth_of t reached next text zero (Stall i a l) limit none on = cc
no_growth_of t reached next text zero Budget limit none on = cc
no_growth_of t reached next text (suc g) (Grow l capacity) limit none on = cc
no_growth_of t reached next text (suc g) (FirstLine n l h) limit none on = cc
no_growth_of t reached next text (suc g) (Inst k) limit none on = cc
no_growth_of t reached next text (suc g) (Fire i a) limit none on = cc
no_growth_of t reached next text (suc g) Deliver limit none on = cc
no_growth_of t reached next text (suc g) Quiet limit none on = cc
no_growth_of t reached next text (suc g) (TrapLine i a c) limit none on = cc
no_growth_of t reached next text (suc g) (Stall i a l) limit none on = cc
no_growth_of t reached next text (suc g) Budget limit none on = cc

-- a line that fails doesn't lead on
pub fails_not : {X : Type 0} (t : Trial X) (reached next : Reached X) (text : List ℕ) (line : Line) (why : Why) → IsWired t.net → AreLawful t.net → IsKept t reached
    → LineFails t reached text line why → LeadsOn t reached text line next → ⊥
fails_not t AtFirst next text line why wired lawful kept fails on = fails.1 on.0
fails_not t (AtInstance k leaf leaves) next text line why wired lawful kept fails on = fails.1 on.0
fails_not t (AtEvents opened s) next text line why wired lawful kept fails (last, may, is) = what_fails_may_not_come t opened s last line why wired lawful kept fails may
fails_not t (AtEnd end last) next text line why wired lawful kept fails on = on

-- at the end of a trace nothing fails
end_not : {X : Type 0} (t : Trial X) (reached : Reached X) (rest : List ℕ) (why : Why) (end : Line) (last : State X) → reached ≡ AtEnd end last → rest ≡ []
    → RestFails t reached rest false why → ⊥
end_not t reached rest why end last at none (BeginsNone not_over front byte more is is_front bad) = not_over (subst IsOver (sym at) tt)
end_not t reached rest why end last at none (IsOfNoTable not_over line text more is spells no_table) = not_over (subst IsOver (sym at) tt)
end_not t reached rest why end last at none (MayNotCome line cause text more is spells of_table fails) = subst (λ r. LineFails t r text line cause) at fails
end_not t reached rest why end last at none (IsBehindEnd over some) = some none
end_not t reached rest why end last at none (IsCutOff not_over is_front shorter) = not_over (subst IsOver (sym at) tt)
end_not t reached rest why end last at none (GoesPast not_over is_front longer) = cc
end_not t reached rest why end last at none (EndsPast over is longer) = cc

-- before the first byte that makes bytes begin no line no whole line stands
pub bad_not : (line : Line) (text a front : List ℕ) (byte : ℕ) (more : List ℕ) → FrontIsNoLine → Spells line text → text ++ a ≡ front ++ byte ∷ more → IsFront front
    → (Begins (front ++ byte ∷ []) → ⊥) → ⊥
bad_not line text a front byte more no_line spells same is_front bad = ⊎_elim
    (λ p. front_not line text p.0 no_line spells (subst IsFront p.1 is_front))
    (λ p. of_rest p.0 p.1 p.2)
    (comparable text front a (byte ∷ more) same)
  where
    of_rest : (x : List ℕ) → text ≡ front ++ x → byte ∷ more ≡ x ++ a → ⊥
    of_rest [] is rest = is_front.1 line (subst (Spells line) (is ∙ append-nil front) spells)
    of_rest (y ∷ x) is rest =
        let first : y ≡ byte = cc in
        let longer : text ≡ (front ++ byte ∷ []) ++ x = is ∙ ap (λ z. front ++ z ∷ x) first ∙ sym (append_assoc front (byte ∷ []) x) in
        bad (line, x, subst (Spells line) longer spells)

-- where a line leads on nothing fails
line_not : {X : Type 0} (t : Trial X) (reached next : Reached X) (rest : List ℕ) (why : Why) (text others : List ℕ) (line : Line) → FrontIsNoLine → IsOneLine → IsWired t.net → AreLawful t.net
    → IsKept t reached → rest ≡ text ++ others → Spells line text → LeadsOn t reached text line next
    → RestFails t reached rest false why → ⊥
line_not t reached next rest why text others line front one wired lawful kept is_text spells on (BeginsNone not_over first byte more is is_front bad) =
    bad_not line text others first byte more front spells (sym is_text ∙ is) is_front bad
line_not t reached next rest why text others line front one wired lawful kept is_text spells on (IsOfNoTable not_over that those more is spells_that no_table) =
    let here : Same text those others more = cut line that text those others more front spells spells_that (sym is_text ∙ is) in
    let same : line ≡ that = one line that those (subst (Spells line) here.texts spells) spells_that in
    no_growth_of t reached next text t.grow line refl (subst (λ l. is_of_table t.grow l ≡ false) (sym same) no_table) on
line_not t reached next rest why text others line front one wired lawful kept is_text spells on (MayNotCome that cause those more is spells_that of_table fails) =
    let here : Same text those others more = cut line that text those others more front spells spells_that (sym is_text ∙ is) in
    let same : line ≡ that = one line that those (subst (Spells line) here.texts spells) spells_that in
    fails_not t reached next those that cause wired lawful kept fails (subst (λ a. LeadsOn t reached a that next) here.texts (subst (λ l. LeadsOn t reached text l next) same on))
line_not t reached next rest why text others line front one wired lawful kept is_text spells on (IsBehindEnd over some) = over_not t reached next text line over on
  where
    over_not : {X : Type 0} (t : Trial X) (reached next : Reached X) (text : List ℕ) (line : Line) → IsOver reached → LeadsOn t reached text line next → ⊥
    over_not t AtFirst next text line over on = over
    over_not t (AtInstance k leaf leaves) next text line over on = over
    over_not t (AtEvents opened s) next text line over on = over
    over_not t (AtEnd end last) next text line over on = on
line_not t reached next rest why text others line front one wired lawful kept is_text spells on (IsCutOff not_over is_front shorter) =
    front_not line text others front spells (subst IsFront is_text is_front)
line_not t reached next rest why text others line front one wired lawful kept is_text spells on (GoesPast not_over is_front longer) = cc
line_not t reached next rest why text others line front one wired lawful kept is_text spells on (EndsPast over is longer) = cc

take_all : (n : ℕ) (xs : List ℕ) → length xs ≤ n → take n xs ≡ xs
take_all zero [] low = refl
take_all zero (x ∷ xs) low = absurd (omega (arith, low))
take_all (suc n) [] low = refl
take_all (suc n) (x ∷ xs) low = ap (λ a. x ∷ a) (take_all n xs (omega (arith, low)))

shorter : (longer : Bool) (n : ℕ) → n ≤ max_trace_bytes → (longer ≡ true → max_trace_bytes < n) → longer ≡ false
shorter true n low more = absurd (omega (arith, low, more refl))
shorter false n low more = refl

rest_not : {X : Type 0} (t : Trial X) (reached : Reached X) (rest : List ℕ) (why : Why) (end : Line) (last : State X) → FrontIsNoLine → IsOneLine → IsWired t.net → AreLawful t.net
    → Remains t reached rest (AtEnd end last) → RestFails t reached rest false why → ⊥
rest_not t reached rest why end last front one wired lawful remaining fails = of_texts remaining.texts remaining.lead remaining.is_text
  where
    of_texts : (texts : List (List ℕ)) → Lead t reached texts (AtEnd end last) → rest ≡ concat texts → ⊥
    of_texts [] lead is_text = end_not t reached rest why end last lead is_text fails
    of_texts (text ∷ texts) (line, next, spells, on, more) is_text =
        line_not t reached next rest why text (concat texts) line front one wired lawful remaining.kept is_text spells on fails

pub no_trace_is_not_run : {X : Type 0} → FrontIsNoLine → IsOneLine → LinesKeepSent X → NoTraceIsNotRun X
no_trace_is_not_run front one grows t text lines end last n why wired lawful low is_trace not_run =
    let trace = traces_are_lines t text lines end last is_trace in
    let whole : take max_trace_bytes text ≡ text = take_all max_trace_bytes text low in
    let same : concat trace.0 ≡ concat not_run.texts ++ not_run.rest = sym trace.1 ∙ sym whole ∙ not_run.is_text in
    let short : not_run.longer ≡ false = shorter not_run.longer (length text) low not_run.is_longer in
    rest_not t not_run.reached not_run.rest why end last front one wired lawful
    (remains t AtFirst not_run.reached not_run.texts trace.0 not_run.rest end last front one grows tt trace.2 not_run.lead same)
    (subst (λ b. RestFails t not_run.reached not_run.rest b why) short not_run.fails)
