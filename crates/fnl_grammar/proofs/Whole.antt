-- Texts that are read, and the grammar.
use Rattle.std.proofs.Common.{◌≡◌, ◌+◌, ℕ, Bool, true, false, List, [], length, take, Option, None, Some, refl, sym, ap, subst, ◌∙◌}
use Rattle.std.specs.Prelude.{nat_le, if◌then◌else◌}
use Rattle.rvc_base.specs.declared.refusal.Rule.{Rule}
use Rattle.rvc_base.specs.Rules.{spells_no_network}
use Rattle.fnl_markup.specs.Tags.{Tag}
use Rattle.fnl_markup.specs.Markup.{Broken, fault, tags_of, broken_of}
use Rattle.fnl_frames.specs.Frames.{Frame, outside, in_network, in_port, in_decl, in_instance, in_parameter, in_connection, in_size, in_type, in_value, in_shape, in_list, in_unary, in_sequence, in_empty, in_passed}
use Rattle.fnl_frames.specs.Net.{Net}
use Rattle.fnl_read.specs.Elements.{run, net_in}
use Rattle.fnl_read.specs.Network.{Network, Broke, network, found_in, first_of}
use Rattle.fnl_read.specs.States.{State, Next, Going, Fault, fresh}
use Rattle.fnl_grammar.specs.Productions.{Spells}
use Rattle.fnl_grammar.specs.Laws.{ReadIsSpelled, SpelledIsRead, SpellsOne, NoneGoesOn}
use Rattle.fnl_grammar.proofs.Runs.{network_runs, st}
use Rattle.fnl_grammar.proofs.Stands.{Stands, at_bottom}
use Rattle.fnl_grammar.proofs.Steps.{run_after, After, ended}

-- a text that is read has no broken markup, and its tags end in a network
record IsRead (text : List ℕ) (net : Net) : Type 0 where
  markup : broken_of text ≡ None
  last : State
  runs : run (Going fresh) (tags_of text) ≡ Going last
  found : net_in last.top ≡ Some net

in_state : (s : State) (size : ℕ) (net : Net) (found : Option Net) → net_in s.top ≡ found → found_in found size ≡ Network net → net_in s.top ≡ Some net
in_state s size net None is e = absurd cc
in_state s size net (Some other) is e = let same : other ≡ net = cc in is ∙ ap Some same

never_both : (b : Bool) (rule other : Rule) (at place : ℕ) (net : Net) → (if b then Broke rule at else Broke other place) ≡ Network net → ⊥
never_both true rule other at place net e = cc
never_both false rule other at place net e = cc

read_by : (text : List ℕ) (net : Net) (next : Next) (broken : Option Broken) → run (Going fresh) (tags_of text) ≡ next → broken_of text ≡ broken
    → first_of next broken (length text) ≡ Network net → IsRead text net
read_by text net (Going s) None ran whole e = record { markup = whole; last = s; runs = ran; found = in_state s (length text) net (net_in s.top) refl e }
read_by text net (Going s) (Some (fault rule at)) ran whole e = absurd cc
read_by text net (Fault rule at) None ran whole e = absurd cc
read_by text net (Fault rule at) (Some (fault other place)) ran whole e = absurd (never_both (nat_le at place) rule other at place net e)

spelled_by : (tags : List Tag) (net : Net) (last : State) → After tags last → net_in last.top ≡ Some net → Spells tags net
spelled_by tags net last all e = by_top last.top refl
  where
    by_top : (f : Frame) → last.top ≡ f → Spells tags net
    by_top (outside None) is = let no : None ≡ Some net = ap net_in (sym is) ∙ e in absurd cc
    by_top (outside (Some other)) is =
        let some : Some other ≡ Some net = ap net_in (sym is) ∙ e in
        let same : other ≡ net = cc in
        ended (subst (λ x. Stands all.room x last.below tags) (is ∙ ap (λ x. outside (Some x)) same) all.stands)
    by_top (in_network x) is = let no : None ≡ Some net = ap net_in (sym is) ∙ e in absurd cc
    by_top (in_port a b c d) is = let no : None ≡ Some net = ap net_in (sym is) ∙ e in absurd cc
    by_top (in_decl a b c d f) is = let no : None ≡ Some net = ap net_in (sym is) ∙ e in absurd cc
    by_top (in_instance a b c d) is = let no : None ≡ Some net = ap net_in (sym is) ∙ e in absurd cc
    by_top (in_parameter a b c) is = let no : None ≡ Some net = ap net_in (sym is) ∙ e in absurd cc
    by_top (in_connection a b c d f g) is = let no : None ≡ Some net = ap net_in (sym is) ∙ e in absurd cc
    by_top (in_size a b) is = let no : None ≡ Some net = ap net_in (sym is) ∙ e in absurd cc
    by_top (in_type a b c) is = let no : None ≡ Some net = ap net_in (sym is) ∙ e in absurd cc
    by_top (in_value a b) is = let no : None ≡ Some net = ap net_in (sym is) ∙ e in absurd cc
    by_top (in_shape a b) is = let no : None ≡ Some net = ap net_in (sym is) ∙ e in absurd cc
    by_top (in_list a b) is = let no : None ≡ Some net = ap net_in (sym is) ∙ e in absurd cc
    by_top (in_unary a b c) is = let no : None ≡ Some net = ap net_in (sym is) ∙ e in absurd cc
    by_top (in_sequence a b c) is = let no : None ≡ Some net = ap net_in (sym is) ∙ e in absurd cc
    by_top in_empty is = let no : None ≡ Some net = ap net_in (sym is) ∙ e in absurd cc
    by_top in_passed is = let no : None ≡ Some net = ap net_in (sym is) ∙ e in absurd cc

pub read_is_spelled : ReadIsSpelled
read_is_spelled text net e =
    let it = read_by text net (run (Going fresh) (tags_of text)) (broken_of text) refl refl e in
    let all = run_after (tags_of text) [] fresh it.last 64 at_bottom it.runs in
    record { tags = tags_of text; markup = record { whole = it.markup; spelled = refl }; spelled = spelled_by (tags_of text) net it.last all it.found }

pub spelled_is_read : SpelledIsRead
spelled_is_read text net h =
    let ran : run (Going fresh) (tags_of text) ≡ Going (st (outside (Some net)) []) = ap (run (Going fresh)) h.markup.spelled ∙ network_runs h.spelled in
    ap (λ n. first_of n (broken_of text) (length text)) ran ∙ ap (λ b. first_of (Going (st (outside (Some net)) [])) b (length text)) h.markup.whole

pub spells_one : SpellsOne
spells_one text one other h k =
    let same : Network one ≡ Network other = sym (spelled_is_read text one h) ∙ spelled_is_read text other k in
    cc

pub none_goes_on : ((text other : List ℕ) (at : ℕ) (net : Net) → network text ≡ Broke spells_no_network at → take (at + 1) other ≡ take (at + 1) text → network other ≡ Network net → ⊥) → NoneGoesOn
none_goes_on begins text other at net e same h = begins text other at net e same (spelled_is_read other net h)
