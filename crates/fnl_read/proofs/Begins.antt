-- No network begins with the bytes up to the place of an F1.
use Rattle.std.proofs.Common.{◌≡◌, ℕ, ◌+◌, Bool, true, false, List, [], ◌∷◌, ◌++◌, length, take, Option, Some, None, refl, sym, ap, ◌∙◌, subst, ⊎_elim, arith}
use Rattle.std.specs.Prelude.{if◌then◌else◌, nat_le}
use Rattle.std.proofs.lemmas.Bool.{cases_lt}
use Rattle.std.proofs.lemmas.List.{take_all, length-take-le}
use Rattle.rvc_base.specs.declared.refusal.Rule.{Rule}
use Rattle.rvc_base.specs.Rules.{spells_no_network}
use Rattle.fnl_markup.specs.Tags.{Tag, opens, closes}
use Rattle.fnl_markup.specs.Markup.{Broken, fault, IsMarkup, broken_of, tags_of}
use Rattle.fnl_frames.specs.Net.{Net}
use Rattle.fnl_read.specs.States.{State, fresh, Next, Going, Fault}
use Rattle.fnl_read.specs.Closing.{closed}
use Rattle.fnl_read.specs.Elements.{step, run, net_in}
use Rattle.fnl_read.specs.Network.{Network, Broke, found_in, first_of, network}
use Rattle.fnl_read.proofs.Running.{fault_stays, run_append}
use Rattle.fnl_read.proofs.Stuck.{opened_never, closed_here}

-- the end tag at which tags break F1
pub record Stops (s : State) (tags : List Tag) (place : ℕ) : Type 0 where
  pub before : List Tag
  pub after : List Tag
  pub split : tags ≡ before ++ closes place ∷ after
  pub there : run (Going s) (before ++ closes place ∷ []) ≡ Fault spells_no_network place

stops_now : (s : State) (tags : List Tag) (place : ℕ) → closed place s ≡ Fault spells_no_network place → Stops s (closes place ∷ tags) place
stops_now s tags place e = record { before = []; after = tags; split = refl; there = e }

stops_later : (s next : State) (tag : Tag) (tags : List Tag) (place : ℕ) → step tag s ≡ Going next → Stops next tags place → Stops s (tag ∷ tags) place
stops_later s next tag tags place here h = record {
  before = tag ∷ h.before;
  after = h.after;
  split = ap (λ ts. tag ∷ ts) h.split;
  there = ap (λ n. run n (h.before ++ closes place ∷ [])) here ∙ h.there;
}

stops_by : (s : State) (tag : Tag) (tags : List Tag) (place : ℕ) (found : Next) → step tag s ≡ found → run found tags ≡ Fault spells_no_network place → ((next : State) → run (Going next) tags ≡ Fault spells_no_network place → Stops next tags place) → Stops s (tag ∷ tags) place
stops_by s tag tags place (Going next) here e later = stops_later s next tag tags place here (later next e)
stops_by s (opens name attributes at) tags place (Fault rule there) here e later =
    absurd (opened_never name attributes at s place (here ∙ sym (fault_stays rule there tags) ∙ e))
stops_by s (closes at) tags place (Fault rule there) here e later =
    let now : closed at s ≡ Fault spells_no_network place = here ∙ sym (fault_stays rule there tags) ∙ e in
    let same : place ≡ at = closed_here at s place now in
    subst (λ p. Stops s (closes p ∷ tags) place) same (stops_now s tags place (ap (λ p. closed p s) same ∙ now))

pub stops : (s : State) (tags : List Tag) (place : ℕ) → run (Going s) tags ≡ Fault spells_no_network place → Stops s tags place
stops s [] place e = cc
stops s (tag ∷ tags) place e = stops_by s tag tags place (step tag s) refl e (λ next later. stops next tags place later)

-- What the laws of markup say.

abbrev pub SameTags : Type 0
SameTags =
    (text other : List ℕ) (before after : List Tag) (at : ℕ) → tags_of text ≡ before ++ closes at ∷ after → take (at + 1) other ≡ take (at + 1) text
    → (more : List Tag) × (tags_of other ≡ (before ++ closes at ∷ []) ++ more)

abbrev pub NoMarkup : Type 0
NoMarkup =
    (text other : List ℕ) (at : ℕ) (tags : List Tag) → broken_of text ≡ Some (fault spells_no_network at) → take (at + 1) other ≡ take (at + 1) text
    → IsMarkup other tags → ⊥

-- a text that spells a network
pub record Spells (text : List ℕ) : Type 0 where
  pub last : State
  pub ran : run (Going fresh) (tags_of text) ≡ Going last
  pub whole : broken_of text ≡ None

never_both : (test : Bool) (rule other : Rule) (at place : ℕ) (net : Net) → (if test then Broke rule at else Broke other place) ≡ Network net → ⊥
never_both true rule other at place net e = cc
never_both false rule other at place net e = cc

spells_by : (text : List ℕ) (net : Net) (next : Next) (broken : Option Broken) (size : ℕ) → run (Going fresh) (tags_of text) ≡ next → broken_of text ≡ broken → first_of next broken size ≡ Network net → Spells text
spells_by text net (Going s) None size ran whole e = record { last = s; ran = ran; whole = whole }
spells_by text net (Going s) (Some (fault rule at)) size ran whole e = cc
spells_by text net (Fault rule at) None size ran whole e = cc
spells_by text net (Fault rule at) (Some (fault other place)) size ran whole e = absurd (never_both (nat_le at place) rule other at place net e)

spells : (text : List ℕ) (net : Net) → network text ≡ Network net → Spells text
spells text net e = spells_by text net (run (Going fresh) (tags_of text)) (broken_of text) (length text) refl refl e

-- the tags of a text break F1, so those of each text that begins so break it
by_tags : SameTags → (text other : List ℕ) (at : ℕ) → run (Going fresh) (tags_of text) ≡ Fault spells_no_network at → take (at + 1) other ≡ take (at + 1) text → Spells other → ⊥
by_tags same_tags text other at e same spelled =
    let stop = stops fresh (tags_of text) at e in
    let found = same_tags text other stop.before stop.after at stop.split same in
    let front = stop.before ++ closes at ∷ [] in
    let broke : run (Going fresh) (tags_of other) ≡ Fault spells_no_network at =
    ap (run (Going fresh)) found.1 ∙ run_append (Going fresh) front found.0 ∙ ap (λ n. run n found.0) stop.there ∙ fault_stays spells_no_network at found.0 in
    let went = spelled.ran in
    cc

-- the markup of a text breaks F1
by_markup : NoMarkup → (text other : List ℕ) (at : ℕ) → broken_of text ≡ Some (fault spells_no_network at) → take (at + 1) other ≡ take (at + 1) text → Spells other → ⊥
by_markup no_markup text other at e same spelled = no_markup text other at (tags_of other) e same (record { whole = spelled.whole; spelled = refl })

-- a text that begins with all of another, and has no more than one byte more of what it begins with
same_whole : (text other : List ℕ) (at : ℕ) → length text ≡ at → take (at + 1) other ≡ take (at + 1) text → other ≡ text
same_whole text other at size same =
    let all : take (at + 1) text ≡ text = take_all (at + 1) text (omega arith) in
    ⊎_elim
    (λ less. let big : length (take (at + 1) other) ≡ at + 1 = length-take-le (at + 1) other (omega arith) in let small : length (take (at + 1) other) ≡ length text = ap length (same ∙ all) in absurd (omega arith))
    (λ not_less. sym (take_all (at + 1) other (omega arith)) ∙ same ∙ all)
    (cases_lt at (length other))

by_end : (net : Option Net) (size at : ℕ) → found_in net size ≡ Broke spells_no_network at → size ≡ at
by_end None size at e = cc
by_end (Some net) size at e = cc

never_spelled : (text : List ℕ) (net : Net) (at : ℕ) → network text ≡ Network net → network text ≡ Broke spells_no_network at → ⊥
never_spelled text net at e f = let both : Network net ≡ Broke spells_no_network at = sym e ∙ f in cc

fault_is : (rule : Rule) (place at : ℕ) → Broke rule place ≡ Broke spells_no_network at → Fault rule place ≡ Fault spells_no_network at
fault_is rule place at e = cc

broken_is : (rule : Rule) (place at : ℕ) → Broke rule place ≡ Broke spells_no_network at → Some (fault rule place) ≡ Some (fault spells_no_network at)
broken_is rule place at e = cc

of_both : SameTags → NoMarkup → (text other : List ℕ) (at : ℕ) (test : Bool) (rule rule_ : Rule) (here place : ℕ) → run (Going fresh) (tags_of text) ≡ Fault rule here → broken_of text ≡ Some (fault rule_ place) → (if test then Broke rule here else Broke rule_ place) ≡ Broke spells_no_network at → take (at + 1) other ≡ take (at + 1) text → Spells other → ⊥
of_both same_tags no_markup text other at true rule rule_ here place ran broken e same spelled = by_tags same_tags text other at (ran ∙ fault_is rule here at e) same spelled
of_both same_tags no_markup text other at false rule rule_ here place ran broken e same spelled = by_markup no_markup text other at (broken ∙ broken_is rule_ place at e) same spelled

by_answer : SameTags → NoMarkup → (text other : List ℕ) (at : ℕ) (net : Net) (next : Next) (broken : Option Broken) → run (Going fresh) (tags_of text) ≡ next → broken_of text ≡ broken → first_of next broken (length text) ≡ Broke spells_no_network at → network text ≡ Broke spells_no_network at → take (at + 1) other ≡ take (at + 1) text → network other ≡ Network net → ⊥
by_answer same_tags no_markup text other at net (Going s) None ran broken e all same spelled =
    let size : length text ≡ at = by_end (net_in s.top) (length text) at e in
    let alike : other ≡ text = same_whole text other at size same in
    never_spelled text net at (ap network (sym alike) ∙ spelled) all
by_answer same_tags no_markup text other at net (Going s) (Some (fault rule place)) ran broken e all same spelled =
    by_markup no_markup text other at (broken ∙ broken_is rule place at e) same (spells other net spelled)
by_answer same_tags no_markup text other at net (Fault rule here) None ran broken e all same spelled =
    by_tags same_tags text other at (ran ∙ fault_is rule here at e) same (spells other net spelled)
by_answer same_tags no_markup text other at net (Fault rule here) (Some (fault rule_ place)) ran broken e all same spelled =
    of_both same_tags no_markup text other at (nat_le here place) rule rule_ here place ran broken e same (spells other net spelled)

pub begins_no_network : SameTags → NoMarkup → (text other : List ℕ) (at : ℕ) (net : Net) → network text ≡ Broke spells_no_network at → take (at + 1) other ≡ take (at + 1) text → network other ≡ Network net → ⊥
begins_no_network same_tags no_markup text other at net e same spelled =
    by_answer same_tags no_markup text other at net (run (Going fresh) (tags_of text)) (broken_of text) refl refl e e same spelled
