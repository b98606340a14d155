-- A round of a network without instances.
use Rattle.std.proofs.Common.{◌≡◌, ℕ, ◌<◌, false, List, [], ◌∷◌, length, refl, sym, ap, subst, ◌∙◌, arith}
use Rattle.std.specs.Prelude.{None, ◌==◌}
use Rattle.std.proofs.lemmas.List.{length-map}
use Rattle.rvc_base.specs.declared.round_kind.RoundKind.{RoundKind}
use Rattle.net_model.specs.Network.{Network}
use Rattle.net_model.specs.State.{State}
use Rattle.net_model.specs.Cell.{Cell}
use Rattle.net_model.specs.Trace.{after_delivery}
use Rattle.net_model.specs.Paced.{AreBursts, ClosesBy, picked, share_of}
use Rattle.net_state.specs.Held.{Held}
use Rattle.net_state.specs.Standing.{StandsSince}
use Rattle.round_runner.specs.declared.outcome.RoundEnd.{RoundEnd}
use Rattle.round_runner.specs.declared.outcome.RoundEnd.TheVariants as round
use Rattle.round_runner.specs.Firings.{journals}
use Rattle.network_runner.specs.declared.firing.Turn.{Turn}
use Rattle.network_runner.specs.Closing.{ClosesAllIdle, IsClosedIdle}
use Rattle.network_runner.specs.Rounding.{IfGoing, IsRoundMade, is_trap, moment_by, pace_by}
use Rattle.network_runner.proofs.Rounded.{goes_on_so, matches_false, not_zero}
use Rattle.network_runner.proofs.Spent.{picked_long}

nothing_in : {A : Type 0} (xs : List A) → length xs ≡ 0 → xs ≡ []
nothing_in [] none = refl
nothing_in (x ∷ xs) none = absurd (omega (arith, none))

pub none_made : {X : Type 0} (net : Network X) (s : State X) (kind : RoundKind) (budget : ℕ) (turn : Turn) (answer : RoundEnd) (old new : Held (Cell X))
    → StandsSince net old (after_delivery net s) (after_delivery net s) → s.trapped ≡ false → 0 < turn.left → length old.cells ≡ 0 → new.cells ≡ old.cells
    → ClosesAllIdle turn.grow None answer old new → IsRoundMade net (pace_by kind budget turn) (moment_by turn s) answer 0 new
none_made {X} net s kind budget turn answer old new since untrapped left none same closed =
    let opened : State X = after_delivery net s in
    let that : IsClosedIdle net turn.grow opened answer new = closed net opened since (λ k low. absurd (omega (arith, low, none))) in
    let leaves : length net.leaves ≡ 0 = sym (length-map net.leaves (λ leaf. leaf.behaviour)) ∙ (ap (λ bs. length bs) since.now.is_of.actors ∙ (length-map old.cells (λ cell. cell.actor) ∙ none)) in
    let marks : picked net (pace_by kind budget turn) (moment_by turn s) ≡ [] = nothing_in (picked net (pace_by kind budget turn) (moment_by turn s)) (picked_long net (pace_by kind budget turn) (moment_by turn s) ∙ leaves) in
    record {
      block = record { bursts = []; close = that.close };
      last = that.last;
      is_round = record {
        untrapped = untrapped;
        halts = [];
        fired = opened;
        bursts = subst (λ ms. AreBursts net opened (share_of net (pace_by kind budget turn) (moment_by turn s)) ms 0 0 0 opened [] [] opened) (sym marks) refl;
        closes = matches_false (turn.left == 0) _ _ (not_zero turn.left left)
            (subst (λ ms. ClosesBy net turn.grow ms [] None opened that.close) (sym marks) that.closes);
        leads = that.leads;
      };
      answers = goes_on_so net turn.grow opened answer [] that.close that.closes that.answers;
      fired_are = refl;
      kept = that.last;
      stands = that.stands;
      flows_are = refl;
      untrapped = λ _. refl;
      noted = ap journals (same ∙ nothing_in old.cells none);
    }

pub if_going : (answer : RoundEnd) (P : Type 0) → (is_trap answer ≡ false → P) → IfGoing answer P
if_going (round.Fired n) P f = f refl
if_going round.Idle P f = f refl
if_going (round.Grew link capacity) P f = f refl
if_going (round.End how) P f = tt
