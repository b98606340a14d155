-- No markup begins with the bytes up to the one at which no text goes on.
use Rattle.std.proofs.Common.{◌≡◌, ℕ, suc, ◌+◌, Bool, true, false, List, [], ◌∷◌, ◌++◌, length, take, drop, None, Some, refl, sym, ◌∙◌, ap, ⊎_elim, arith}
use Rattle.std.specs.Prelude.{if◌then◌else◌, nat_lt, nat_le}
use Rattle.std.specs.Str.Lossy.{utf8_valid_len}
use Rattle.std.proofs.lemmas.Bool.{cases_lt}
use Rattle.std.proofs.lemmas.List.{take_all, take-append-drop, length-take-le}
use Rattle.std.proofs.Math.Seq.{take-append-add, append_snoc}
use Rattle.rvc_base.specs.declared.refusal.Rule.{Rule}
use Rattle.rvc_base.specs.Rules.{spells_no_network, wrong_encoding}
use Rattle.fnl_markup.specs.Tags.{Tag}
use Rattle.fnl_markup.specs.State.{State, fresh, Next, Going, Fault}
use Rattle.fnl_markup.specs.Step.{step}
use Rattle.fnl_markup.specs.Markup.{Broken, fault, Ended, ended, run, reading, broken_of, broken_in, is_whole, IsMarkup}
use Rattle.fnl_markup.proofs.Runs.{goes_on, stops_here, run_stops}
use Rattle.fnl_markup.proofs.Stuck.{stuck_here, not_that}

-- the byte at which a rule is found broken, and what stands before it
pub record Stands (at : ℕ) (s last : State) (bytes : List ℕ) (rule : Rule) (place : ℕ) : Type 0 where
  pub front : List ℕ
  pub byte : ℕ
  pub rest : List ℕ
  pub split : bytes ≡ front ++ byte ∷ rest
  pub reached : run at s front ≡ ended last None
  pub broken : step (at + length front) last byte ≡ Fault rule place

nothing_broken : (s last : State) (broken : Broken) → ended s None ≡ ended last (Some broken) → ⊥
nothing_broken s last broken e = cc

stands_after : (at b : ℕ) (s last : State) (bytes : List ℕ) (rule : Rule) (place : ℕ) (found : Next) → step at s b ≡ found → ((next : State) → run (at + 1) next bytes ≡ ended last (Some (fault rule place)) → Stands (at + 1) next last bytes rule place) → run at s (b ∷ bytes) ≡ ended last (Some (fault rule place)) → Stands at s last (b ∷ bytes) rule place
stands_after at b s last bytes rule place (Going next) here later e =
    let behind = later next (sym (goes_on at s next b bytes here) ∙ e) in
    let more : at + suc (length behind.front) ≡ at + 1 + length behind.front = omega arith in
    record {
      front = b ∷ behind.front;
      byte = behind.byte;
      rest = behind.rest;
      split = ap (λ xs. b ∷ xs) behind.split;
      reached = goes_on at s next b behind.front here ∙ behind.reached;
      broken = ap (λ n. step n last behind.byte) more ∙ behind.broken;
    }
stands_after at b s last bytes rule place (Fault other there) here later e =
    let same : ended s (Some (fault other there)) ≡ ended last (Some (fault rule place)) = sym (stops_here at there b s other bytes here) ∙ e in
    let none : at + 0 ≡ at = omega arith in
    let state : s ≡ last = cc in
    let found : Fault other there ≡ Fault rule place = cc in
    record {
      front = [];
      byte = b;
      rest = bytes;
      split = refl;
      reached = ap (λ t. ended t None) state;
      broken = ap (λ n. step n last b) none ∙ ap (λ t. step at t b) (sym state) ∙ here ∙ found;
    }

pub stands : (at : ℕ) (s last : State) (bytes : List ℕ) (rule : Rule) (place : ℕ) → run at s bytes ≡ ended last (Some (fault rule place)) → Stands at s last bytes rule place
stands at s last [] rule place e = absurd (nothing_broken s last (fault rule place) e)
stands at s last (b ∷ bytes) rule place e = stands_after at b s last bytes rule place (step at s b) refl (λ next. stands (at + 1) next last bytes rule place) e

-- Another text that is the same up to the byte and with it.

up_to : (front rest : List ℕ) (byte : ℕ) → take (length front + 1) (front ++ byte ∷ rest) ≡ front ++ byte ∷ []
up_to front rest byte = take-append-add front (byte ∷ rest) 1

-- what is found broken in a text is found in each that is the same up to there
same_broken : (text other : List ℕ) (last : State) (place : ℕ) → Stands 0 fresh last text spells_no_network place → take (place + 1) other ≡ take (place + 1) text → reading other ≡ ended last (Some (fault spells_no_network place))
same_broken text other last place at same =
    let counted : place ≡ 0 + length at.front = stuck_here last.place (0 + length at.front) last at.byte place at.broken in
    let size : place + 1 ≡ length at.front + 1 = omega arith in
    let fronts : take (place + 1) text ≡ at.front ++ at.byte ∷ [] = ap (λ n. take n text) size ∙ ap (take (length at.front + 1)) at.split ∙ up_to at.front at.rest at.byte in
    let ys = drop (place + 1) other in
    let split : other ≡ at.front ++ at.byte ∷ ys = sym (take-append-drop (place + 1) other) ∙ ap (λ xs. xs ++ ys) (same ∙ fronts) ∙ append_snoc at.front at.byte ys in
    ap (run 0 fresh) split ∙ run_stops 0 fresh last at.front ys at.byte place spells_no_network at.reached at.broken

-- a rule is found broken, so the text isn't markup
not_markup : (text : List ℕ) (s : State) (rule : Rule) (place : ℕ) (tags : List Tag) → reading text ≡ ended s (Some (fault rule place)) → IsMarkup text tags → ⊥
not_markup text s rule place tags e is =
    let none : broken_in (length text) (utf8_valid_len text) (ended s (Some (fault rule place))) ≡ None = ap (broken_in (length text) (utf8_valid_len text)) (sym e) ∙ is.whole in
    cc

record IsThat (rule other : Rule) (place at : ℕ) : Type 0 where
  rules : rule ≡ other
  places : place ≡ at

earlier : (test : Bool) (rule : Rule) (place valid at : ℕ) → (if test then fault rule place else fault wrong_encoding valid) ≡ fault spells_no_network at → IsThat rule spells_no_network place at
earlier true rule place valid at e = record { rules = cc; places = cc }
earlier false rule place valid at e = let same : wrong_encoding ≡ spells_no_network = cc in absurd (not_that same)

at_the_end : (wrong whole : Bool) (size valid at : ℕ) → (if wrong then Some (fault wrong_encoding valid) else (if whole then None else Some (fault spells_no_network size))) ≡ Some (fault spells_no_network at) → size ≡ at
at_the_end true whole size valid at e = let same : wrong_encoding ≡ spells_no_network = cc in absurd (not_that same)
at_the_end false true size valid at e = cc
at_the_end false false size valid at e = cc

-- a text that begins with all of another, and has no more than one byte more of what it begins with
same_whole : (text other : List ℕ) (at : ℕ) → length text ≡ at → take (at + 1) other ≡ take (at + 1) text → other ≡ text
same_whole text other at size same =
    let all : take (at + 1) text ≡ text = take_all (at + 1) text (omega arith) in
    ⊎_elim
    (λ less. let big : length (take (at + 1) other) ≡ at + 1 = length-take-le (at + 1) other (omega arith) in let small : length (take (at + 1) other) ≡ length text = ap length (same ∙ all) in absurd (omega arith))
    (λ not_less. sym (take_all (at + 1) other (omega arith)) ∙ same ∙ all)
    (cases_lt at (length other))

by_end : (text other : List ℕ) (at : ℕ) (tags : List Tag) (end : Ended) → reading text ≡ end → broken_in (length text) (utf8_valid_len text) end ≡ Some (fault spells_no_network at) → take (at + 1) other ≡ take (at + 1) text → IsMarkup other tags → ⊥
by_end text other at tags (ended s (Some (fault rule place))) here e same is =
    let it = earlier (nat_le place (utf8_valid_len text)) rule place (utf8_valid_len text) at cc in
    let found : reading text ≡ ended s (Some (fault spells_no_network at)) = here ∙ ap (λ r. ended s (Some (fault r place))) it.rules ∙ ap (λ p. ended s (Some (fault spells_no_network p))) it.places in
    not_markup other s spells_no_network at tags (same_broken text other s at (stands 0 fresh s text spells_no_network at found) same) is
by_end text other at tags (ended s None) here e same is =
    let size : length text ≡ at = at_the_end (nat_lt (utf8_valid_len text) (length text)) (is_whole s) (length text) (utf8_valid_len text) at e in
    let alike : other ≡ text = same_whole text other at size same in
    let whole : broken_of text ≡ None = ap broken_of (sym alike) ∙ is.whole in
    let found : broken_of text ≡ Some (fault spells_no_network at) = ap (broken_in (length text) (utf8_valid_len text)) here ∙ e in
    cc

pub begins_no_markup : (text other : List ℕ) (at : ℕ) (tags : List Tag) → broken_of text ≡ Some (fault spells_no_network at) → take (at + 1) other ≡ take (at + 1) text → IsMarkup other tags → ⊥
begins_no_markup text other at tags e same is = by_end text other at tags (reading text) refl e same is
