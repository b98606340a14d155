-- The lines of a round, in three parts.
use Rattle.std.proofs.Common.{◌≡◌, ℕ, List, ◌++◌, sym, ap, subst, ◌∙◌, append_assoc}
use Rattle.std.specs.Prelude.{Result, Ok, Err, OnOk, OnErr, flat_map, option_to_list}
use Rattle.std.proofs.lemmas.Grind.{flat_map-append}
use Rattle.rvc_io.specs.Channels.{Channels, WritesOnlyAt}
use Rattle.channel_writer.specs.Held.{AppendsFront, HoldsFront, WritesOn}
use Rattle.channel_writer.proofs.Chains.{breaks-then, front-longer, writes-then}
use Rattle.trace_text.specs.declared.line.Line.TheVariants.{Deliver}
use Rattle.trace_text.specs.Text.{line_text}
use Rattle.net_model.specs.Cell.{Cell}
use Rattle.net_model.specs.Paced.{Block, close_lines, fire_lines, lines_of}
use Rattle.round_runner.specs.declared.outcome.RoundEnd.{RoundEnd}
use Rattle.round_runner.specs.declared.outcome.RoundEnd.TheVariants as round
use Rattle.round_runner.specs.Firings.{firings_text, journals}
use Rattle.round_runner.specs.Rounds.{Answers, text_of}
use Rattle.network_runner.specs.Noting.{close_text, closing_line}

close_is : (answer : RoundEnd) (block : Block) → Answers answer block → close_lines block.close ≡ option_to_list (closing_line answer)
close_is (round.Fired n) block is = ap close_lines is.0
close_is round.Idle block is = ap close_lines is.0
close_is (round.Grew link capacity) block is = ap close_lines is
close_is (round.End how) block is = ap close_lines is.2 ∙ sym (ap option_to_list is.1)

abbrev pub first_text : List ℕ
first_text = line_text Deliver

pub text_is : {X : Type 0} (cells : List (Cell X)) (answer : RoundEnd) (block : Block) → Answers answer block → journals cells ≡ block.bursts
    → first_text ++ (firings_text cells ++ close_text answer) ≡ text_of (lines_of block)
text_is cells answer block is same =
    ap (λ text. first_text ++ text)
    (ap (λ bursts. flat_map line_text (fire_lines 0 bursts) ++ close_text answer) same
    ∙ (ap (λ lines. flat_map line_text (fire_lines 0 block.bursts) ++ text_of lines) (sym (close_is answer block is))
    ∙ sym (flat_map-append line_text (fire_lines 0 block.bursts) (close_lines block.close))))

-- Two writes, one after the other.

module _ (channel : ℕ) (old now new : Channels) (pending pending_now : List ℕ) (first : List ℕ) (wrote : WritesOn channel old now pending pending_now first) (only : WritesOnlyAt channel old now) where
  pub both_written : (second pending_new : List ℕ) → WritesOn channel now new pending_now pending_new second → WritesOn channel old new pending pending_new (first ++ second)
  both_written second pending_new then_wrote told =
      writes-then (old.held channel) pending (now.held channel) pending_now (new.held channel) first (wrote told) pending_new second (then_wrote (only.same_telling ∙ told))

  pub second_broken : (second : List ℕ) → AppendsFront channel now new (pending_now ++ second) → AppendsFront channel old new (pending ++ (first ++ second))
  second_broken second broken told =
      breaks-then (old.held channel) pending (now.held channel) pending_now (new.held channel) first (wrote told) second (broken (only.same_telling ∙ told))

pub broken_longer : (channel : ℕ) (old new : Channels) (pending first second : List ℕ) → AppendsFront channel old new (pending ++ first) → AppendsFront channel old new (pending ++ (first ++ second))
broken_longer channel old new pending first second broken told =
    subst (HoldsFront (old.held channel) (new.held channel)) (append_assoc pending first second)
    (front-longer (old.held channel) (new.held channel) (pending ++ first) second (broken told))

pub on_ok : {T E : Type 0} (r : Result T E) (P Q : Type 0) → (P → Q) → OnOk r P → OnOk r Q
on_ok (Ok v) P Q f p = f p
on_ok (Err e) P Q f p = tt

pub on_err : {T E : Type 0} (r : Result T E) (P Q : Type 0) → (P → Q) → OnErr r P → OnErr r Q
on_err (Ok v) P Q f p = tt
on_err (Err e) P Q f p = f p

pub err_so : {T E : Type 0} (r : Result T E) (P : Type 0) → P → OnErr r P
err_so (Ok v) P p = tt
err_so (Err e) P p = p
