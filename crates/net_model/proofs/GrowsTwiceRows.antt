-- A worked run of a network in which a link grows twice at a stall, paced.
use Rattle.std.proofs.Common.{◌≡◌, ℕ, zero, suc, ◌<◌, ◌⊎◌, false, List, [], ◌∷◌, pos, refl, inl, inr, arith}
use Rattle.std.specs.Prelude.{None}
use Rattle.rvc_base.specs.Behaviour.{Waits, Picks}
use Rattle.trace_text.specs.declared.line.Line.{Line}
use Rattle.trace_text.specs.declared.line.Line.TheVariants.{Fire, Deliver, Grow, Quiet}
use Rattle.net_model.specs.State.{State, start_of, effect_at, choice_at}
use Rattle.net_model.specs.Ends.{IsStalled, LacksRoom, all_fed}
use Rattle.net_model.specs.Paced.{Moment, first_moment, next_moment, Block, GoesOn, Widens, Ends, Waiting, NoRoom, HasRoomIn, IsRound, IsPaced}
use Rattle.net_model.proofs.Rows.{pair_net, pair_in}
use Rattle.net_model.proofs.PacedRows.{plain}

-- up to the limit 4 it grows twice, and the run is quiet

abbrev four_opened_1 : State (Unit {0})
four_opened_1 = record {
  actors = tt ∷ tt ∷ tt ∷ [];
  flows = record { sent = pos 1 ∷ pos 2 ∷ pos 3 ∷ pos 4 ∷ []; arrived = 4; taken = 0; capacity = 512 }
      ∷ record { sent = []; arrived = 0; taken = 0; capacity = 512 }
      ∷ record { sent = []; arrived = 0; taken = 0; capacity = 512 }
      ∷ record { sent = []; arrived = 0; taken = 0; capacity = 1 }
      ∷ record { sent = []; arrived = 0; taken = 0; capacity = 512 } ∷ [];
  trapped = false;
}

four_room_2 : HasRoomIn pair_net four_opened_1 four_opened_1 0 0
four_room_2 zero passes = passes
four_room_2 (suc zero) passes = omega (arith, passes.1)
four_room_2 (suc (suc zero)) passes = omega (arith, passes.0)
four_room_2 (suc (suc (suc zero))) passes = omega (arith, passes.1)
four_room_2 (suc (suc (suc (suc zero)))) passes = omega (arith, passes.0)
four_room_2 (suc (suc (suc (suc (suc l))))) passes = passes

abbrev four_state_3 : State (Unit {0})
four_state_3 = record {
  actors = tt ∷ tt ∷ tt ∷ [];
  flows = record { sent = pos 1 ∷ pos 2 ∷ pos 3 ∷ pos 4 ∷ []; arrived = 4; taken = 1; capacity = 512 }
      ∷ record { sent = pos 1 ∷ []; arrived = 0; taken = 0; capacity = 512 }
      ∷ record { sent = []; arrived = 0; taken = 0; capacity = 512 }
      ∷ record { sent = pos 1 ∷ []; arrived = 0; taken = 0; capacity = 1 }
      ∷ record { sent = []; arrived = 0; taken = 0; capacity = 512 } ∷ [];
  trapped = false;
}

abbrev four_block_4 : Block
four_block_4 = record { bursts = (0 ∷ []) ∷ [] ∷ [] ∷ []; close = GoesOn }

abbrev four_at_5 : Moment (Unit {0})
four_at_5 = (first_moment (plain 4) (start_of pair_net pair_in))

four_round_6 : IsRound pair_net (plain 4) four_at_5 four_block_4 four_state_3
four_round_6 = record {
  untrapped = refl;
  halts = NoRoom ∷ Waiting ∷ Waiting ∷ [];
  fired = four_state_3;
  bursts = (four_state_3, (omega arith, refl, four_room_2, ((omega arith, (0, 3, refl, (refl, omega arith))), refl)), (four_state_3, ((omega arith, refl), refl), (four_state_3, ((omega arith, refl), refl), refl)));
  closes = refl;
  leads = refl;
}

abbrev four_opened_7 : State (Unit {0})
four_opened_7 = record {
  actors = tt ∷ tt ∷ tt ∷ [];
  flows = record { sent = pos 1 ∷ pos 2 ∷ pos 3 ∷ pos 4 ∷ []; arrived = 4; taken = 1; capacity = 512 }
      ∷ record { sent = pos 1 ∷ []; arrived = 1; taken = 0; capacity = 512 }
      ∷ record { sent = []; arrived = 0; taken = 0; capacity = 512 }
      ∷ record { sent = pos 1 ∷ []; arrived = 1; taken = 0; capacity = 1 }
      ∷ record { sent = []; arrived = 0; taken = 0; capacity = 512 } ∷ [];
  trapped = false;
}

four_each_8 : (j : ℕ) → (choice_at pair_net (all_fed pair_net four_opened_7) j ≡ Waits)
    ⊎ ((b : ℕ) × (m : ℕ) × (choice_at pair_net (all_fed pair_net four_opened_7) j ≡ Picks b) × LacksRoom pair_net (all_fed pair_net four_opened_7) j b m)
four_each_8 zero = inr (0, 3, refl, (refl, omega arith))
four_each_8 (suc zero) = inl refl
four_each_8 (suc (suc zero)) = inl refl
four_each_8 (suc (suc (suc l))) = inl refl

four_lower_9 : (m : ℕ) → m < 3 → LacksRoom pair_net (all_fed pair_net four_opened_7) 0 0 m → ⊥
four_lower_9 zero low lacks = lacks
four_lower_9 (suc zero) low lacks = omega (arith, lacks.1)
four_lower_9 (suc (suc zero)) low lacks = omega (arith, lacks.0)
four_lower_9 (suc (suc (suc l))) low lacks = absurd (omega arith)

four_stalls_10 : IsStalled pair_net four_opened_7 0 0 3
four_stalls_10 = record {
  settled = record { untrapped = refl; arrived = ((λ e. refl), ((λ e. refl), ((λ e. refl), ((λ e. refl), ((λ e. cc), tt))))) };
  each = four_each_8;
  chosen = refl;
  lowest_leaf = λ j low. absurd (omega arith);
  lacks = (refl, omega arith);
  lowest_link = four_lower_9;
}

abbrev four_state_11 : State (Unit {0})
four_state_11 = record {
  actors = tt ∷ tt ∷ tt ∷ [];
  flows = record { sent = pos 1 ∷ pos 2 ∷ pos 3 ∷ pos 4 ∷ []; arrived = 4; taken = 1; capacity = 512 }
      ∷ record { sent = pos 1 ∷ []; arrived = 1; taken = 0; capacity = 512 }
      ∷ record { sent = []; arrived = 0; taken = 0; capacity = 512 }
      ∷ record { sent = pos 1 ∷ []; arrived = 1; taken = 0; capacity = 2 }
      ∷ record { sent = []; arrived = 0; taken = 0; capacity = 512 } ∷ [];
  trapped = false;
}

abbrev four_block_12 : Block
four_block_12 = record { bursts = [] ∷ [] ∷ [] ∷ []; close = Widens 3 2 }

abbrev four_at_13 : Moment (Unit {0})
four_at_13 = next_moment four_at_5 four_block_4 four_state_3

four_round_14 : IsRound pair_net (plain 4) four_at_13 four_block_12 four_state_11
four_round_14 = record {
  untrapped = refl;
  halts = NoRoom ∷ Waiting ∷ Waiting ∷ [];
  fired = four_opened_7;
  bursts = (four_opened_7, ((omega arith, (0, 3, refl, (refl, omega arith))), refl), (four_opened_7, ((omega arith, refl), refl), (four_opened_7, ((omega arith, refl), refl), refl)));
  closes = record { leaf = 0; action = 0; stalled = four_stalls_10; below = omega arith; doubled = refl };
  leads = refl;
}

abbrev four_opened_15 : State (Unit {0})
four_opened_15 = record {
  actors = tt ∷ tt ∷ tt ∷ [];
  flows = record { sent = pos 1 ∷ pos 2 ∷ pos 3 ∷ pos 4 ∷ []; arrived = 4; taken = 1; capacity = 512 }
      ∷ record { sent = pos 1 ∷ []; arrived = 1; taken = 0; capacity = 512 }
      ∷ record { sent = []; arrived = 0; taken = 0; capacity = 512 }
      ∷ record { sent = pos 1 ∷ []; arrived = 1; taken = 0; capacity = 2 }
      ∷ record { sent = []; arrived = 0; taken = 0; capacity = 512 } ∷ [];
  trapped = false;
}

four_room_16 : HasRoomIn pair_net four_opened_15 four_opened_15 0 0
four_room_16 zero passes = passes
four_room_16 (suc zero) passes = omega (arith, passes.1)
four_room_16 (suc (suc zero)) passes = omega (arith, passes.0)
four_room_16 (suc (suc (suc zero))) passes = omega (arith, passes.1)
four_room_16 (suc (suc (suc (suc zero)))) passes = omega (arith, passes.0)
four_room_16 (suc (suc (suc (suc (suc l))))) passes = passes

abbrev four_state_17 : State (Unit {0})
four_state_17 = record {
  actors = tt ∷ tt ∷ tt ∷ [];
  flows = record { sent = pos 1 ∷ pos 2 ∷ pos 3 ∷ pos 4 ∷ []; arrived = 4; taken = 2; capacity = 512 }
      ∷ record { sent = pos 1 ∷ pos 2 ∷ []; arrived = 1; taken = 0; capacity = 512 }
      ∷ record { sent = []; arrived = 0; taken = 0; capacity = 512 }
      ∷ record { sent = pos 1 ∷ pos 2 ∷ []; arrived = 1; taken = 0; capacity = 2 }
      ∷ record { sent = []; arrived = 0; taken = 0; capacity = 512 } ∷ [];
  trapped = false;
}

abbrev four_block_18 : Block
four_block_18 = record { bursts = (0 ∷ []) ∷ [] ∷ [] ∷ []; close = GoesOn }

abbrev four_at_19 : Moment (Unit {0})
four_at_19 = next_moment four_at_13 four_block_12 four_state_11

four_round_20 : IsRound pair_net (plain 4) four_at_19 four_block_18 four_state_17
four_round_20 = record {
  untrapped = refl;
  halts = NoRoom ∷ Waiting ∷ Waiting ∷ [];
  fired = four_state_17;
  bursts = (four_state_17, (omega arith, refl, four_room_16, ((omega arith, (0, 3, refl, (refl, omega arith))), refl)), (four_state_17, ((omega arith, refl), refl), (four_state_17, ((omega arith, refl), refl), refl)));
  closes = refl;
  leads = refl;
}

abbrev four_opened_21 : State (Unit {0})
four_opened_21 = record {
  actors = tt ∷ tt ∷ tt ∷ [];
  flows = record { sent = pos 1 ∷ pos 2 ∷ pos 3 ∷ pos 4 ∷ []; arrived = 4; taken = 2; capacity = 512 }
      ∷ record { sent = pos 1 ∷ pos 2 ∷ []; arrived = 2; taken = 0; capacity = 512 }
      ∷ record { sent = []; arrived = 0; taken = 0; capacity = 512 }
      ∷ record { sent = pos 1 ∷ pos 2 ∷ []; arrived = 2; taken = 0; capacity = 2 }
      ∷ record { sent = []; arrived = 0; taken = 0; capacity = 512 } ∷ [];
  trapped = false;
}

four_room_22 : HasRoomIn pair_net four_opened_21 four_opened_21 1 0
four_room_22 zero passes = passes
four_room_22 (suc zero) passes = omega (arith, passes.0)
four_room_22 (suc (suc zero)) passes = omega (arith, passes.1)
four_room_22 (suc (suc (suc zero))) passes = omega (arith, passes.0)
four_room_22 (suc (suc (suc (suc zero)))) passes = omega (arith, passes.0)
four_room_22 (suc (suc (suc (suc (suc l))))) passes = passes

abbrev four_state_23 : State (Unit {0})
four_state_23 = record {
  actors = tt ∷ tt ∷ tt ∷ [];
  flows = record { sent = pos 1 ∷ pos 2 ∷ pos 3 ∷ pos 4 ∷ []; arrived = 4; taken = 2; capacity = 512 }
      ∷ record { sent = pos 1 ∷ pos 2 ∷ []; arrived = 2; taken = 2; capacity = 512 }
      ∷ record { sent = pos 3 ∷ []; arrived = 0; taken = 0; capacity = 512 }
      ∷ record { sent = pos 1 ∷ pos 2 ∷ []; arrived = 2; taken = 0; capacity = 2 }
      ∷ record { sent = []; arrived = 0; taken = 0; capacity = 512 } ∷ [];
  trapped = false;
}

abbrev four_block_24 : Block
four_block_24 = record { bursts = [] ∷ (0 ∷ []) ∷ [] ∷ []; close = GoesOn }

abbrev four_at_25 : Moment (Unit {0})
four_at_25 = next_moment four_at_19 four_block_18 four_state_17

four_round_26 : IsRound pair_net (plain 4) four_at_25 four_block_24 four_state_23
four_round_26 = record {
  untrapped = refl;
  halts = NoRoom ∷ Waiting ∷ Waiting ∷ [];
  fired = four_state_23;
  bursts = (four_opened_21, ((omega arith, (0, 3, refl, (refl, omega arith))), refl), (four_state_23, (omega arith, refl, four_room_22, ((omega arith, refl), refl)), (four_state_23, ((omega arith, refl), refl), refl)));
  closes = refl;
  leads = refl;
}

abbrev four_opened_27 : State (Unit {0})
four_opened_27 = record {
  actors = tt ∷ tt ∷ tt ∷ [];
  flows = record { sent = pos 1 ∷ pos 2 ∷ pos 3 ∷ pos 4 ∷ []; arrived = 4; taken = 2; capacity = 512 }
      ∷ record { sent = pos 1 ∷ pos 2 ∷ []; arrived = 2; taken = 2; capacity = 512 }
      ∷ record { sent = pos 3 ∷ []; arrived = 1; taken = 0; capacity = 512 }
      ∷ record { sent = pos 1 ∷ pos 2 ∷ []; arrived = 2; taken = 0; capacity = 2 }
      ∷ record { sent = []; arrived = 0; taken = 0; capacity = 512 } ∷ [];
  trapped = false;
}

four_room_28 : HasRoomIn pair_net four_opened_27 four_opened_27 2 0
four_room_28 zero passes = passes
four_room_28 (suc zero) passes = omega (arith, passes.0)
four_room_28 (suc (suc zero)) passes = omega (arith, passes.0)
four_room_28 (suc (suc (suc zero))) passes = omega (arith, passes.0)
four_room_28 (suc (suc (suc (suc zero)))) passes = omega (arith, passes.1)
four_room_28 (suc (suc (suc (suc (suc l))))) passes = passes

abbrev four_state_29 : State (Unit {0})
four_state_29 = record {
  actors = tt ∷ tt ∷ tt ∷ [];
  flows = record { sent = pos 1 ∷ pos 2 ∷ pos 3 ∷ pos 4 ∷ []; arrived = 4; taken = 2; capacity = 512 }
      ∷ record { sent = pos 1 ∷ pos 2 ∷ []; arrived = 2; taken = 2; capacity = 512 }
      ∷ record { sent = pos 3 ∷ []; arrived = 1; taken = 1; capacity = 512 }
      ∷ record { sent = pos 1 ∷ pos 2 ∷ []; arrived = 2; taken = 1; capacity = 2 }
      ∷ record { sent = pos 4 ∷ []; arrived = 0; taken = 0; capacity = 512 } ∷ [];
  trapped = false;
}

abbrev four_block_30 : Block
four_block_30 = record { bursts = [] ∷ [] ∷ (0 ∷ []) ∷ []; close = GoesOn }

abbrev four_at_31 : Moment (Unit {0})
four_at_31 = next_moment four_at_25 four_block_24 four_state_23

four_round_32 : IsRound pair_net (plain 4) four_at_31 four_block_30 four_state_29
four_round_32 = record {
  untrapped = refl;
  halts = NoRoom ∷ Waiting ∷ Waiting ∷ [];
  fired = four_state_29;
  bursts = (four_opened_27, ((omega arith, (0, 3, refl, (refl, omega arith))), refl), (four_opened_27, ((omega arith, refl), refl), (four_state_29, (omega arith, refl, four_room_28, ((omega arith, refl), refl)), refl)));
  closes = refl;
  leads = refl;
}

abbrev four_opened_33 : State (Unit {0})
four_opened_33 = record {
  actors = tt ∷ tt ∷ tt ∷ [];
  flows = record { sent = pos 1 ∷ pos 2 ∷ pos 3 ∷ pos 4 ∷ []; arrived = 4; taken = 2; capacity = 512 }
      ∷ record { sent = pos 1 ∷ pos 2 ∷ []; arrived = 2; taken = 2; capacity = 512 }
      ∷ record { sent = pos 3 ∷ []; arrived = 1; taken = 1; capacity = 512 }
      ∷ record { sent = pos 1 ∷ pos 2 ∷ []; arrived = 2; taken = 1; capacity = 2 }
      ∷ record { sent = pos 4 ∷ []; arrived = 1; taken = 1; capacity = 512 } ∷ [];
  trapped = false;
}

four_room_34 : HasRoomIn pair_net four_opened_33 four_opened_33 0 0
four_room_34 zero passes = passes
four_room_34 (suc zero) passes = omega (arith, passes.1)
four_room_34 (suc (suc zero)) passes = omega (arith, passes.0)
four_room_34 (suc (suc (suc zero))) passes = omega (arith, passes.1)
four_room_34 (suc (suc (suc (suc zero)))) passes = omega (arith, passes.0)
four_room_34 (suc (suc (suc (suc (suc l))))) passes = passes

abbrev four_state_35 : State (Unit {0})
four_state_35 = record {
  actors = tt ∷ tt ∷ tt ∷ [];
  flows = record { sent = pos 1 ∷ pos 2 ∷ pos 3 ∷ pos 4 ∷ []; arrived = 4; taken = 3; capacity = 512 }
      ∷ record { sent = pos 1 ∷ pos 2 ∷ pos 3 ∷ []; arrived = 2; taken = 2; capacity = 512 }
      ∷ record { sent = pos 3 ∷ []; arrived = 1; taken = 1; capacity = 512 }
      ∷ record { sent = pos 1 ∷ pos 2 ∷ pos 3 ∷ []; arrived = 2; taken = 1; capacity = 2 }
      ∷ record { sent = pos 4 ∷ []; arrived = 1; taken = 1; capacity = 512 } ∷ [];
  trapped = false;
}

abbrev four_block_36 : Block
four_block_36 = record { bursts = (0 ∷ []) ∷ [] ∷ [] ∷ []; close = GoesOn }

abbrev four_at_37 : Moment (Unit {0})
four_at_37 = next_moment four_at_31 four_block_30 four_state_29

four_round_38 : IsRound pair_net (plain 4) four_at_37 four_block_36 four_state_35
four_round_38 = record {
  untrapped = refl;
  halts = NoRoom ∷ Waiting ∷ Waiting ∷ [];
  fired = four_state_35;
  bursts = (four_state_35, (omega arith, refl, four_room_34, ((omega arith, (0, 3, refl, (refl, omega arith))), refl)), (four_state_35, ((omega arith, refl), refl), (four_state_35, ((omega arith, refl), refl), refl)));
  closes = refl;
  leads = refl;
}

abbrev four_opened_39 : State (Unit {0})
four_opened_39 = record {
  actors = tt ∷ tt ∷ tt ∷ [];
  flows = record { sent = pos 1 ∷ pos 2 ∷ pos 3 ∷ pos 4 ∷ []; arrived = 4; taken = 3; capacity = 512 }
      ∷ record { sent = pos 1 ∷ pos 2 ∷ pos 3 ∷ []; arrived = 3; taken = 2; capacity = 512 }
      ∷ record { sent = pos 3 ∷ []; arrived = 1; taken = 1; capacity = 512 }
      ∷ record { sent = pos 1 ∷ pos 2 ∷ pos 3 ∷ []; arrived = 3; taken = 1; capacity = 2 }
      ∷ record { sent = pos 4 ∷ []; arrived = 1; taken = 1; capacity = 512 } ∷ [];
  trapped = false;
}

four_each_40 : (j : ℕ) → (choice_at pair_net (all_fed pair_net four_opened_39) j ≡ Waits)
    ⊎ ((b : ℕ) × (m : ℕ) × (choice_at pair_net (all_fed pair_net four_opened_39) j ≡ Picks b) × LacksRoom pair_net (all_fed pair_net four_opened_39) j b m)
four_each_40 zero = inr (0, 3, refl, (refl, omega arith))
four_each_40 (suc zero) = inl refl
four_each_40 (suc (suc zero)) = inl refl
four_each_40 (suc (suc (suc l))) = inl refl

four_lower_41 : (m : ℕ) → m < 3 → LacksRoom pair_net (all_fed pair_net four_opened_39) 0 0 m → ⊥
four_lower_41 zero low lacks = lacks
four_lower_41 (suc zero) low lacks = omega (arith, lacks.1)
four_lower_41 (suc (suc zero)) low lacks = omega (arith, lacks.0)
four_lower_41 (suc (suc (suc l))) low lacks = absurd (omega arith)

four_stalls_42 : IsStalled pair_net four_opened_39 0 0 3
four_stalls_42 = record {
  settled = record { untrapped = refl; arrived = ((λ e. refl), ((λ e. refl), ((λ e. refl), ((λ e. refl), ((λ e. cc), tt))))) };
  each = four_each_40;
  chosen = refl;
  lowest_leaf = λ j low. absurd (omega arith);
  lacks = (refl, omega arith);
  lowest_link = four_lower_41;
}

abbrev four_state_43 : State (Unit {0})
four_state_43 = record {
  actors = tt ∷ tt ∷ tt ∷ [];
  flows = record { sent = pos 1 ∷ pos 2 ∷ pos 3 ∷ pos 4 ∷ []; arrived = 4; taken = 3; capacity = 512 }
      ∷ record { sent = pos 1 ∷ pos 2 ∷ pos 3 ∷ []; arrived = 3; taken = 2; capacity = 512 }
      ∷ record { sent = pos 3 ∷ []; arrived = 1; taken = 1; capacity = 512 }
      ∷ record { sent = pos 1 ∷ pos 2 ∷ pos 3 ∷ []; arrived = 3; taken = 1; capacity = 4 }
      ∷ record { sent = pos 4 ∷ []; arrived = 1; taken = 1; capacity = 512 } ∷ [];
  trapped = false;
}

abbrev four_block_44 : Block
four_block_44 = record { bursts = [] ∷ [] ∷ [] ∷ []; close = Widens 3 4 }

abbrev four_at_45 : Moment (Unit {0})
four_at_45 = next_moment four_at_37 four_block_36 four_state_35

four_round_46 : IsRound pair_net (plain 4) four_at_45 four_block_44 four_state_43
four_round_46 = record {
  untrapped = refl;
  halts = NoRoom ∷ Waiting ∷ Waiting ∷ [];
  fired = four_opened_39;
  bursts = (four_opened_39, ((omega arith, (0, 3, refl, (refl, omega arith))), refl), (four_opened_39, ((omega arith, refl), refl), (four_opened_39, ((omega arith, refl), refl), refl)));
  closes = record { leaf = 0; action = 0; stalled = four_stalls_42; below = omega arith; doubled = refl };
  leads = refl;
}

abbrev four_opened_47 : State (Unit {0})
four_opened_47 = record {
  actors = tt ∷ tt ∷ tt ∷ [];
  flows = record { sent = pos 1 ∷ pos 2 ∷ pos 3 ∷ pos 4 ∷ []; arrived = 4; taken = 3; capacity = 512 }
      ∷ record { sent = pos 1 ∷ pos 2 ∷ pos 3 ∷ []; arrived = 3; taken = 2; capacity = 512 }
      ∷ record { sent = pos 3 ∷ []; arrived = 1; taken = 1; capacity = 512 }
      ∷ record { sent = pos 1 ∷ pos 2 ∷ pos 3 ∷ []; arrived = 3; taken = 1; capacity = 4 }
      ∷ record { sent = pos 4 ∷ []; arrived = 1; taken = 1; capacity = 512 } ∷ [];
  trapped = false;
}

four_room_48 : HasRoomIn pair_net four_opened_47 four_opened_47 0 0
four_room_48 zero passes = passes
four_room_48 (suc zero) passes = omega (arith, passes.1)
four_room_48 (suc (suc zero)) passes = omega (arith, passes.0)
four_room_48 (suc (suc (suc zero))) passes = omega (arith, passes.1)
four_room_48 (suc (suc (suc (suc zero)))) passes = omega (arith, passes.0)
four_room_48 (suc (suc (suc (suc (suc l))))) passes = passes

abbrev four_state_49 : State (Unit {0})
four_state_49 = record {
  actors = tt ∷ tt ∷ tt ∷ [];
  flows = record { sent = pos 1 ∷ pos 2 ∷ pos 3 ∷ pos 4 ∷ []; arrived = 4; taken = 4; capacity = 512 }
      ∷ record { sent = pos 1 ∷ pos 2 ∷ pos 3 ∷ pos 4 ∷ []; arrived = 3; taken = 2; capacity = 512 }
      ∷ record { sent = pos 3 ∷ []; arrived = 1; taken = 1; capacity = 512 }
      ∷ record { sent = pos 1 ∷ pos 2 ∷ pos 3 ∷ pos 4 ∷ []; arrived = 3; taken = 1; capacity = 4 }
      ∷ record { sent = pos 4 ∷ []; arrived = 1; taken = 1; capacity = 512 } ∷ [];
  trapped = false;
}

abbrev four_block_50 : Block
four_block_50 = record { bursts = (0 ∷ []) ∷ [] ∷ [] ∷ []; close = GoesOn }

abbrev four_at_51 : Moment (Unit {0})
four_at_51 = next_moment four_at_45 four_block_44 four_state_43

four_round_52 : IsRound pair_net (plain 4) four_at_51 four_block_50 four_state_49
four_round_52 = record {
  untrapped = refl;
  halts = Waiting ∷ Waiting ∷ Waiting ∷ [];
  fired = four_state_49;
  bursts = (four_state_49, (omega arith, refl, four_room_48, ((omega arith, refl), refl)), (four_state_49, ((omega arith, refl), refl), (four_state_49, ((omega arith, refl), refl), refl)));
  closes = refl;
  leads = refl;
}

abbrev four_opened_53 : State (Unit {0})
four_opened_53 = record {
  actors = tt ∷ tt ∷ tt ∷ [];
  flows = record { sent = pos 1 ∷ pos 2 ∷ pos 3 ∷ pos 4 ∷ []; arrived = 4; taken = 4; capacity = 512 }
      ∷ record { sent = pos 1 ∷ pos 2 ∷ pos 3 ∷ pos 4 ∷ []; arrived = 4; taken = 2; capacity = 512 }
      ∷ record { sent = pos 3 ∷ []; arrived = 1; taken = 1; capacity = 512 }
      ∷ record { sent = pos 1 ∷ pos 2 ∷ pos 3 ∷ pos 4 ∷ []; arrived = 4; taken = 1; capacity = 4 }
      ∷ record { sent = pos 4 ∷ []; arrived = 1; taken = 1; capacity = 512 } ∷ [];
  trapped = false;
}

four_room_54 : HasRoomIn pair_net four_opened_53 four_opened_53 1 0
four_room_54 zero passes = passes
four_room_54 (suc zero) passes = omega (arith, passes.0)
four_room_54 (suc (suc zero)) passes = omega (arith, passes.1)
four_room_54 (suc (suc (suc zero))) passes = omega (arith, passes.0)
four_room_54 (suc (suc (suc (suc zero)))) passes = omega (arith, passes.0)
four_room_54 (suc (suc (suc (suc (suc l))))) passes = passes

abbrev four_state_55 : State (Unit {0})
four_state_55 = record {
  actors = tt ∷ tt ∷ tt ∷ [];
  flows = record { sent = pos 1 ∷ pos 2 ∷ pos 3 ∷ pos 4 ∷ []; arrived = 4; taken = 4; capacity = 512 }
      ∷ record { sent = pos 1 ∷ pos 2 ∷ pos 3 ∷ pos 4 ∷ []; arrived = 4; taken = 4; capacity = 512 }
      ∷ record { sent = pos 3 ∷ pos 7 ∷ []; arrived = 1; taken = 1; capacity = 512 }
      ∷ record { sent = pos 1 ∷ pos 2 ∷ pos 3 ∷ pos 4 ∷ []; arrived = 4; taken = 1; capacity = 4 }
      ∷ record { sent = pos 4 ∷ []; arrived = 1; taken = 1; capacity = 512 } ∷ [];
  trapped = false;
}

abbrev four_block_56 : Block
four_block_56 = record { bursts = [] ∷ (0 ∷ []) ∷ [] ∷ []; close = GoesOn }

abbrev four_at_57 : Moment (Unit {0})
four_at_57 = next_moment four_at_51 four_block_50 four_state_49

four_round_58 : IsRound pair_net (plain 4) four_at_57 four_block_56 four_state_55
four_round_58 = record {
  untrapped = refl;
  halts = Waiting ∷ Waiting ∷ Waiting ∷ [];
  fired = four_state_55;
  bursts = (four_opened_53, ((omega arith, refl), refl), (four_state_55, (omega arith, refl, four_room_54, ((omega arith, refl), refl)), (four_state_55, ((omega arith, refl), refl), refl)));
  closes = refl;
  leads = refl;
}

abbrev four_opened_59 : State (Unit {0})
four_opened_59 = record {
  actors = tt ∷ tt ∷ tt ∷ [];
  flows = record { sent = pos 1 ∷ pos 2 ∷ pos 3 ∷ pos 4 ∷ []; arrived = 4; taken = 4; capacity = 512 }
      ∷ record { sent = pos 1 ∷ pos 2 ∷ pos 3 ∷ pos 4 ∷ []; arrived = 4; taken = 4; capacity = 512 }
      ∷ record { sent = pos 3 ∷ pos 7 ∷ []; arrived = 2; taken = 1; capacity = 512 }
      ∷ record { sent = pos 1 ∷ pos 2 ∷ pos 3 ∷ pos 4 ∷ []; arrived = 4; taken = 1; capacity = 4 }
      ∷ record { sent = pos 4 ∷ []; arrived = 1; taken = 1; capacity = 512 } ∷ [];
  trapped = false;
}

four_room_60 : HasRoomIn pair_net four_opened_59 four_opened_59 2 0
four_room_60 zero passes = passes
four_room_60 (suc zero) passes = omega (arith, passes.0)
four_room_60 (suc (suc zero)) passes = omega (arith, passes.0)
four_room_60 (suc (suc (suc zero))) passes = omega (arith, passes.0)
four_room_60 (suc (suc (suc (suc zero)))) passes = omega (arith, passes.1)
four_room_60 (suc (suc (suc (suc (suc l))))) passes = passes

abbrev four_state_61 : State (Unit {0})
four_state_61 = record {
  actors = tt ∷ tt ∷ tt ∷ [];
  flows = record { sent = pos 1 ∷ pos 2 ∷ pos 3 ∷ pos 4 ∷ []; arrived = 4; taken = 4; capacity = 512 }
      ∷ record { sent = pos 1 ∷ pos 2 ∷ pos 3 ∷ pos 4 ∷ []; arrived = 4; taken = 4; capacity = 512 }
      ∷ record { sent = pos 3 ∷ pos 7 ∷ []; arrived = 2; taken = 2; capacity = 512 }
      ∷ record { sent = pos 1 ∷ pos 2 ∷ pos 3 ∷ pos 4 ∷ []; arrived = 4; taken = 2; capacity = 4 }
      ∷ record { sent = pos 4 ∷ pos 9 ∷ []; arrived = 1; taken = 1; capacity = 512 } ∷ [];
  trapped = false;
}

abbrev four_block_62 : Block
four_block_62 = record { bursts = [] ∷ [] ∷ (0 ∷ []) ∷ []; close = GoesOn }

abbrev four_at_63 : Moment (Unit {0})
four_at_63 = next_moment four_at_57 four_block_56 four_state_55

four_round_64 : IsRound pair_net (plain 4) four_at_63 four_block_62 four_state_61
four_round_64 = record {
  untrapped = refl;
  halts = Waiting ∷ Waiting ∷ Waiting ∷ [];
  fired = four_state_61;
  bursts = (four_opened_59, ((omega arith, refl), refl), (four_opened_59, ((omega arith, refl), refl), (four_state_61, (omega arith, refl, four_room_60, ((omega arith, refl), refl)), refl)));
  closes = refl;
  leads = refl;
}

abbrev four_opened_65 : State (Unit {0})
four_opened_65 = record {
  actors = tt ∷ tt ∷ tt ∷ [];
  flows = record { sent = pos 1 ∷ pos 2 ∷ pos 3 ∷ pos 4 ∷ []; arrived = 4; taken = 4; capacity = 512 }
      ∷ record { sent = pos 1 ∷ pos 2 ∷ pos 3 ∷ pos 4 ∷ []; arrived = 4; taken = 4; capacity = 512 }
      ∷ record { sent = pos 3 ∷ pos 7 ∷ []; arrived = 2; taken = 2; capacity = 512 }
      ∷ record { sent = pos 1 ∷ pos 2 ∷ pos 3 ∷ pos 4 ∷ []; arrived = 4; taken = 2; capacity = 4 }
      ∷ record { sent = pos 4 ∷ pos 9 ∷ []; arrived = 2; taken = 2; capacity = 512 } ∷ [];
  trapped = false;
}

four_nothing_66 : (i a : ℕ) → effect_at pair_net (all_fed pair_net four_opened_65) i a ≡ None
four_nothing_66 zero zero = refl
four_nothing_66 zero (suc a) = refl
four_nothing_66 (suc zero) zero = refl
four_nothing_66 (suc zero) (suc a) = refl
four_nothing_66 (suc (suc zero)) zero = refl
four_nothing_66 (suc (suc zero)) (suc a) = refl
four_nothing_66 (suc (suc (suc i))) a = refl

abbrev four_block_67 : Block
four_block_67 = record { bursts = [] ∷ [] ∷ [] ∷ []; close = Ends Quiet }

abbrev four_at_68 : Moment (Unit {0})
four_at_68 = next_moment four_at_63 four_block_62 four_state_61

four_round_69 : IsRound pair_net (plain 4) four_at_68 four_block_67 four_opened_65
four_round_69 = record {
  untrapped = refl;
  halts = Waiting ∷ Waiting ∷ Waiting ∷ [];
  fired = four_opened_65;
  bursts = (four_opened_65, ((omega arith, refl), refl), (four_opened_65, ((omega arith, refl), refl), (four_opened_65, ((omega arith, refl), refl), refl)));
  closes = record { settled = record { untrapped = refl; arrived = ((λ e. refl), ((λ e. refl), ((λ e. refl), ((λ e. refl), ((λ e. cc), tt))))) }; nothing = four_nothing_66 };
  leads = refl;
}

abbrev four_lines : List Line
four_lines = Deliver ∷ Fire 0 0 ∷ Deliver ∷ Grow 3 2 ∷ Deliver ∷ Fire 0 0 ∷ Deliver ∷ Fire 1 0 ∷ Deliver ∷ Fire 2 0 ∷ Deliver ∷ Fire 0 0 ∷ Deliver ∷ Grow 3 4 ∷ Deliver ∷ Fire 0 0 ∷ Deliver ∷ Fire 1 0 ∷ Deliver ∷ Fire 2 0 ∷ Deliver ∷ Quiet ∷ []

four_paced : IsPaced pair_net (plain 4) (start_of pair_net pair_in) four_lines four_opened_65
four_paced = record {
  blocks = four_block_4 ∷ four_block_12 ∷ four_block_18 ∷ four_block_24 ∷ four_block_30 ∷ four_block_36 ∷ four_block_44 ∷ four_block_50 ∷ four_block_56 ∷ four_block_62 ∷ [];
  reached = four_at_68;
  rounds = (four_state_3, four_round_6, (λ ends. ends), (four_state_11, four_round_14, (λ ends. ends), (four_state_17, four_round_20, (λ ends. ends), (four_state_23, four_round_26, (λ ends. ends), (four_state_29, four_round_32, (λ ends. ends), (four_state_35, four_round_38, (λ ends. ends), (four_state_43, four_round_46, (λ ends. ends), (four_state_49, four_round_52, (λ ends. ends), (four_state_55, four_round_58, (λ ends. ends), (four_state_61, four_round_64, (λ ends. ends), refl))))))))));
  final = four_block_67;
  ending = four_round_69;
  ends = tt;
  lines_are = refl;
}
