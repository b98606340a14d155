-- Transitions one after another: what they break, and where they lead.
use Rattle.std.proofs.Common.{◌≡◌, ℕ, ◌+◌, ◌<◌, ◌≤◌, true, false, not, List, [], ◌∷◌, ◌++◌, length, sym, ap, ◌∙◌, arith, append_assoc, Option, Some}
use Rattle.rvc_base.specs.Rules.{ambiguous_transition, too_many_actions}
use Rattle.std.specs.Prelude.{nat_le}
use Rattle.cal_ast.specs.Tree.{Tree}
use Rattle.cal_ast.specs.View.{move_tree, schedule_tree}
use Rattle.cal_ast.specs.declared.action.Schedule.{Schedule}
use Rattle.cal_ast.specs.declared.action.Move.{Move as DeclaredMove}
use Rattle.cal_model.specs.Actor.{Actor, Move}
use Rattle.cal_model.specs.Sound.{max_states}
use Rattle.cal_model.specs.Tags.{moves_of}
use Rattle.cal_check.specs.Schedules.{moves_broken, moves_listed, schedule_broken, some_conflict, states_of, tags_broken, transition_of, transitions_of}
use Rattle.cal_check.specs.Violations.{unless}
use Rattle.check_member.specs.Judging.{Refuses}
use Rattle.check_member.specs.Parts.{schedule_and_states_broken, tags_tree, transitions_tree}
use Rattle.check_member.specs.declared.fault.MemberFault.{MemberFault}
use Rattle.check_member.specs.declared.fault.MemberFault.TheVariants as fault
use Rattle.check_member.proofs.Broken.{refuses-left, refuses-right, refuses-same, refuses-unless}

module _ (actor : Actor) (m : DeclaredMove) (others : List DeclaredMove) (before : List Move) where
  abbrev own : List Move
  own = moves_of actor (transition_of (move_tree m))

  pub moves-fine : (grown : List Move) → tags_broken (tags_tree m.tags.items) actor.actions ≡ [] → some_conflict own before ≡ false → grown ≡ before ++ own
      → moves_broken (transitions_tree others) grown actor ≡ moves_broken (transitions_tree (m ∷ others)) before actor
  moves-fine grown tags one added =
      ap (λ g. moves_broken (transitions_tree others) g actor) added
      ∙ sym (ap (λ b. unless (not b) ambiguous_transition m.at ++ moves_broken (transitions_tree others) (before ++ own) actor) one)
      ∙ sym (ap (λ vs. vs ++ (unless (not (some_conflict own before)) ambiguous_transition m.at ++ moves_broken (transitions_tree others) (before ++ own) actor)) tags)

  pub moves-refused : (f : MemberFault) → Refuses f (tags_broken (tags_tree m.tags.items) actor.actions ++ unless (not (some_conflict own before)) ambiguous_transition m.at)
      → Refuses f (moves_broken (transitions_tree (m ∷ others)) before actor)
  moves-refused f h =
      refuses-same f _ (moves_broken (transitions_tree (m ∷ others)) before actor)
      (append_assoc (tags_broken (tags_tree m.tags.items) actor.actions) (unless (not (some_conflict own before)) ambiguous_transition m.at) (moves_broken (transitions_tree others) (before ++ own) actor))
      (refuses-left f (tags_broken (tags_tree m.tags.items) actor.actions ++ unless (not (some_conflict own before)) ambiguous_transition m.at)
      (moves_broken (transitions_tree others) (before ++ own) actor) h)

  pub moves-added : (grown : List Move) → grown ≡ before ++ own
      → grown ++ moves_listed actor (transitions_of (transitions_tree others)) ≡ before ++ moves_listed actor (transitions_of (transitions_tree (m ∷ others)))
  moves-added grown added =
      ap (λ g. g ++ moves_listed actor (transitions_of (transitions_tree others))) added
      ∙ append_assoc before own (moves_listed actor (transitions_of (transitions_tree others)))

-- ---- a schedule

module _ (schedule : Schedule) (actor : Actor) (at : ℕ) where
  abbrev all : List DeclaredMove
  all = schedule.moves.items

  abbrev whole : Option Tree
  whole = Some (schedule_tree schedule)

  pub schedule-fine : moves_broken (transitions_tree all) [] actor ≡ [] → length (states_of whole) ≤ max_states → schedule_and_states_broken whole actor at ≡ []
  schedule-fine moves few =
      ap (λ vs. vs ++ unless (nat_le (length (states_of whole)) max_states) too_many_actions at) moves
      ∙ ap (λ b. unless b too_many_actions at) (few-is (length (states_of whole)) few)
    where
      few-is : (n : ℕ) → n ≤ max_states → nat_le n max_states ≡ true
      few-is n h = grind arith

  pub schedule-refused : max_states < length (states_of whole) → Refuses (fault.Broken too_many_actions at) (schedule_and_states_broken whole actor at)
  schedule-refused many =
      refuses-right (fault.Broken too_many_actions at) (schedule_broken whole actor) (unless (nat_le (length (states_of whole)) max_states) too_many_actions at)
      (refuses-unless (nat_le (length (states_of whole)) max_states) too_many_actions at (many-is (length (states_of whole)) many))
    where
      many-is : (n : ℕ) → max_states < n → nat_le n max_states ≡ false
      many-is n h = grind arith
