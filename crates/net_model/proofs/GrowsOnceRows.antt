-- A worked run of a network in which a link grows once at a stall, paced.
use Rattle.std.proofs.Common.{◌≡◌, ℕ, zero, suc, ◌<◌, ◌⊎◌, false, List, [], ◌∷◌, pos, refl, inl, inr, arith}
use Rattle.rvc_base.specs.Behaviour.{Waits, Picks}
use Rattle.trace_text.specs.declared.line.Line.{Line}
use Rattle.trace_text.specs.declared.line.Line.TheVariants.{Fire, Deliver, Grow, Stall}
use Rattle.net_model.specs.State.{State, start_of, choice_at}
use Rattle.net_model.specs.Ends.{IsStalled, LacksRoom, all_fed}
use Rattle.net_model.specs.Paced.{Moment, first_moment, next_moment, Block, GoesOn, Widens, Ends, Waiting, NoRoom, HasRoomIn, IsRound, IsPaced}
use Rattle.net_model.proofs.Rows.{pair_net, pair_in}
use Rattle.net_model.proofs.PacedRows.{plain}

-- up to the limit 2 the link grows once

abbrev two_opened_1 : State (Unit {0})
two_opened_1 = record {
  actors = tt ∷ tt ∷ tt ∷ [];
  flows = record { sent = pos 1 ∷ pos 2 ∷ pos 3 ∷ pos 4 ∷ []; arrived = 4; taken = 0; capacity = 512 }
      ∷ record { sent = []; arrived = 0; taken = 0; capacity = 512 }
      ∷ record { sent = []; arrived = 0; taken = 0; capacity = 512 }
      ∷ record { sent = []; arrived = 0; taken = 0; capacity = 1 }
      ∷ record { sent = []; arrived = 0; taken = 0; capacity = 512 } ∷ [];
  trapped = false;
}

two_room_2 : HasRoomIn pair_net two_opened_1 two_opened_1 0 0
two_room_2 zero passes = passes
two_room_2 (suc zero) passes = omega (arith, passes.1)
two_room_2 (suc (suc zero)) passes = omega (arith, passes.0)
two_room_2 (suc (suc (suc zero))) passes = omega (arith, passes.1)
two_room_2 (suc (suc (suc (suc zero)))) passes = omega (arith, passes.0)
two_room_2 (suc (suc (suc (suc (suc l))))) passes = passes

abbrev two_state_3 : State (Unit {0})
two_state_3 = record {
  actors = tt ∷ tt ∷ tt ∷ [];
  flows = record { sent = pos 1 ∷ pos 2 ∷ pos 3 ∷ pos 4 ∷ []; arrived = 4; taken = 1; capacity = 512 }
      ∷ record { sent = pos 1 ∷ []; arrived = 0; taken = 0; capacity = 512 }
      ∷ record { sent = []; arrived = 0; taken = 0; capacity = 512 }
      ∷ record { sent = pos 1 ∷ []; arrived = 0; taken = 0; capacity = 1 }
      ∷ record { sent = []; arrived = 0; taken = 0; capacity = 512 } ∷ [];
  trapped = false;
}

abbrev two_block_4 : Block
two_block_4 = record { bursts = (0 ∷ []) ∷ [] ∷ [] ∷ []; close = GoesOn }

abbrev two_at_5 : Moment (Unit {0})
two_at_5 = (first_moment (plain 2) (start_of pair_net pair_in))

two_round_6 : IsRound pair_net (plain 2) two_at_5 two_block_4 two_state_3
two_round_6 = record {
  untrapped = refl;
  halts = NoRoom ∷ Waiting ∷ Waiting ∷ [];
  fired = two_state_3;
  bursts = (two_state_3, (omega arith, refl, two_room_2, ((omega arith, (0, 3, refl, (refl, omega arith))), refl)), (two_state_3, ((omega arith, refl), refl), (two_state_3, ((omega arith, refl), refl), refl)));
  closes = refl;
  leads = refl;
}

abbrev two_opened_7 : State (Unit {0})
two_opened_7 = record {
  actors = tt ∷ tt ∷ tt ∷ [];
  flows = record { sent = pos 1 ∷ pos 2 ∷ pos 3 ∷ pos 4 ∷ []; arrived = 4; taken = 1; capacity = 512 }
      ∷ record { sent = pos 1 ∷ []; arrived = 1; taken = 0; capacity = 512 }
      ∷ record { sent = []; arrived = 0; taken = 0; capacity = 512 }
      ∷ record { sent = pos 1 ∷ []; arrived = 1; taken = 0; capacity = 1 }
      ∷ record { sent = []; arrived = 0; taken = 0; capacity = 512 } ∷ [];
  trapped = false;
}

two_each_8 : (j : ℕ) → (choice_at pair_net (all_fed pair_net two_opened_7) j ≡ Waits)
    ⊎ ((b : ℕ) × (m : ℕ) × (choice_at pair_net (all_fed pair_net two_opened_7) j ≡ Picks b) × LacksRoom pair_net (all_fed pair_net two_opened_7) j b m)
two_each_8 zero = inr (0, 3, refl, (refl, omega arith))
two_each_8 (suc zero) = inl refl
two_each_8 (suc (suc zero)) = inl refl
two_each_8 (suc (suc (suc l))) = inl refl

two_lower_9 : (m : ℕ) → m < 3 → LacksRoom pair_net (all_fed pair_net two_opened_7) 0 0 m → ⊥
two_lower_9 zero low lacks = lacks
two_lower_9 (suc zero) low lacks = omega (arith, lacks.1)
two_lower_9 (suc (suc zero)) low lacks = omega (arith, lacks.0)
two_lower_9 (suc (suc (suc l))) low lacks = absurd (omega arith)

two_stalls_10 : IsStalled pair_net two_opened_7 0 0 3
two_stalls_10 = record {
  settled = record { untrapped = refl; arrived = ((λ e. refl), ((λ e. refl), ((λ e. refl), ((λ e. refl), ((λ e. cc), tt))))) };
  each = two_each_8;
  chosen = refl;
  lowest_leaf = λ j low. absurd (omega arith);
  lacks = (refl, omega arith);
  lowest_link = two_lower_9;
}

abbrev two_state_11 : State (Unit {0})
two_state_11 = record {
  actors = tt ∷ tt ∷ tt ∷ [];
  flows = record { sent = pos 1 ∷ pos 2 ∷ pos 3 ∷ pos 4 ∷ []; arrived = 4; taken = 1; capacity = 512 }
      ∷ record { sent = pos 1 ∷ []; arrived = 1; taken = 0; capacity = 512 }
      ∷ record { sent = []; arrived = 0; taken = 0; capacity = 512 }
      ∷ record { sent = pos 1 ∷ []; arrived = 1; taken = 0; capacity = 2 }
      ∷ record { sent = []; arrived = 0; taken = 0; capacity = 512 } ∷ [];
  trapped = false;
}

abbrev two_block_12 : Block
two_block_12 = record { bursts = [] ∷ [] ∷ [] ∷ []; close = Widens 3 2 }

abbrev two_at_13 : Moment (Unit {0})
two_at_13 = next_moment two_at_5 two_block_4 two_state_3

two_round_14 : IsRound pair_net (plain 2) two_at_13 two_block_12 two_state_11
two_round_14 = record {
  untrapped = refl;
  halts = NoRoom ∷ Waiting ∷ Waiting ∷ [];
  fired = two_opened_7;
  bursts = (two_opened_7, ((omega arith, (0, 3, refl, (refl, omega arith))), refl), (two_opened_7, ((omega arith, refl), refl), (two_opened_7, ((omega arith, refl), refl), refl)));
  closes = record { leaf = 0; action = 0; stalled = two_stalls_10; below = omega arith; doubled = refl };
  leads = refl;
}

abbrev two_opened_15 : State (Unit {0})
two_opened_15 = record {
  actors = tt ∷ tt ∷ tt ∷ [];
  flows = record { sent = pos 1 ∷ pos 2 ∷ pos 3 ∷ pos 4 ∷ []; arrived = 4; taken = 1; capacity = 512 }
      ∷ record { sent = pos 1 ∷ []; arrived = 1; taken = 0; capacity = 512 }
      ∷ record { sent = []; arrived = 0; taken = 0; capacity = 512 }
      ∷ record { sent = pos 1 ∷ []; arrived = 1; taken = 0; capacity = 2 }
      ∷ record { sent = []; arrived = 0; taken = 0; capacity = 512 } ∷ [];
  trapped = false;
}

two_room_16 : HasRoomIn pair_net two_opened_15 two_opened_15 0 0
two_room_16 zero passes = passes
two_room_16 (suc zero) passes = omega (arith, passes.1)
two_room_16 (suc (suc zero)) passes = omega (arith, passes.0)
two_room_16 (suc (suc (suc zero))) passes = omega (arith, passes.1)
two_room_16 (suc (suc (suc (suc zero)))) passes = omega (arith, passes.0)
two_room_16 (suc (suc (suc (suc (suc l))))) passes = passes

abbrev two_state_17 : State (Unit {0})
two_state_17 = record {
  actors = tt ∷ tt ∷ tt ∷ [];
  flows = record { sent = pos 1 ∷ pos 2 ∷ pos 3 ∷ pos 4 ∷ []; arrived = 4; taken = 2; capacity = 512 }
      ∷ record { sent = pos 1 ∷ pos 2 ∷ []; arrived = 1; taken = 0; capacity = 512 }
      ∷ record { sent = []; arrived = 0; taken = 0; capacity = 512 }
      ∷ record { sent = pos 1 ∷ pos 2 ∷ []; arrived = 1; taken = 0; capacity = 2 }
      ∷ record { sent = []; arrived = 0; taken = 0; capacity = 512 } ∷ [];
  trapped = false;
}

abbrev two_block_18 : Block
two_block_18 = record { bursts = (0 ∷ []) ∷ [] ∷ [] ∷ []; close = GoesOn }

abbrev two_at_19 : Moment (Unit {0})
two_at_19 = next_moment two_at_13 two_block_12 two_state_11

two_round_20 : IsRound pair_net (plain 2) two_at_19 two_block_18 two_state_17
two_round_20 = record {
  untrapped = refl;
  halts = NoRoom ∷ Waiting ∷ Waiting ∷ [];
  fired = two_state_17;
  bursts = (two_state_17, (omega arith, refl, two_room_16, ((omega arith, (0, 3, refl, (refl, omega arith))), refl)), (two_state_17, ((omega arith, refl), refl), (two_state_17, ((omega arith, refl), refl), refl)));
  closes = refl;
  leads = refl;
}

abbrev two_opened_21 : State (Unit {0})
two_opened_21 = record {
  actors = tt ∷ tt ∷ tt ∷ [];
  flows = record { sent = pos 1 ∷ pos 2 ∷ pos 3 ∷ pos 4 ∷ []; arrived = 4; taken = 2; capacity = 512 }
      ∷ record { sent = pos 1 ∷ pos 2 ∷ []; arrived = 2; taken = 0; capacity = 512 }
      ∷ record { sent = []; arrived = 0; taken = 0; capacity = 512 }
      ∷ record { sent = pos 1 ∷ pos 2 ∷ []; arrived = 2; taken = 0; capacity = 2 }
      ∷ record { sent = []; arrived = 0; taken = 0; capacity = 512 } ∷ [];
  trapped = false;
}

two_room_22 : HasRoomIn pair_net two_opened_21 two_opened_21 1 0
two_room_22 zero passes = passes
two_room_22 (suc zero) passes = omega (arith, passes.0)
two_room_22 (suc (suc zero)) passes = omega (arith, passes.1)
two_room_22 (suc (suc (suc zero))) passes = omega (arith, passes.0)
two_room_22 (suc (suc (suc (suc zero)))) passes = omega (arith, passes.0)
two_room_22 (suc (suc (suc (suc (suc l))))) passes = passes

abbrev two_state_23 : State (Unit {0})
two_state_23 = record {
  actors = tt ∷ tt ∷ tt ∷ [];
  flows = record { sent = pos 1 ∷ pos 2 ∷ pos 3 ∷ pos 4 ∷ []; arrived = 4; taken = 2; capacity = 512 }
      ∷ record { sent = pos 1 ∷ pos 2 ∷ []; arrived = 2; taken = 2; capacity = 512 }
      ∷ record { sent = pos 3 ∷ []; arrived = 0; taken = 0; capacity = 512 }
      ∷ record { sent = pos 1 ∷ pos 2 ∷ []; arrived = 2; taken = 0; capacity = 2 }
      ∷ record { sent = []; arrived = 0; taken = 0; capacity = 512 } ∷ [];
  trapped = false;
}

abbrev two_block_24 : Block
two_block_24 = record { bursts = [] ∷ (0 ∷ []) ∷ [] ∷ []; close = GoesOn }

abbrev two_at_25 : Moment (Unit {0})
two_at_25 = next_moment two_at_19 two_block_18 two_state_17

two_round_26 : IsRound pair_net (plain 2) two_at_25 two_block_24 two_state_23
two_round_26 = record {
  untrapped = refl;
  halts = NoRoom ∷ Waiting ∷ Waiting ∷ [];
  fired = two_state_23;
  bursts = (two_opened_21, ((omega arith, (0, 3, refl, (refl, omega arith))), refl), (two_state_23, (omega arith, refl, two_room_22, ((omega arith, refl), refl)), (two_state_23, ((omega arith, refl), refl), refl)));
  closes = refl;
  leads = refl;
}

abbrev two_opened_27 : State (Unit {0})
two_opened_27 = record {
  actors = tt ∷ tt ∷ tt ∷ [];
  flows = record { sent = pos 1 ∷ pos 2 ∷ pos 3 ∷ pos 4 ∷ []; arrived = 4; taken = 2; capacity = 512 }
      ∷ record { sent = pos 1 ∷ pos 2 ∷ []; arrived = 2; taken = 2; capacity = 512 }
      ∷ record { sent = pos 3 ∷ []; arrived = 1; taken = 0; capacity = 512 }
      ∷ record { sent = pos 1 ∷ pos 2 ∷ []; arrived = 2; taken = 0; capacity = 2 }
      ∷ record { sent = []; arrived = 0; taken = 0; capacity = 512 } ∷ [];
  trapped = false;
}

two_room_28 : HasRoomIn pair_net two_opened_27 two_opened_27 2 0
two_room_28 zero passes = passes
two_room_28 (suc zero) passes = omega (arith, passes.0)
two_room_28 (suc (suc zero)) passes = omega (arith, passes.0)
two_room_28 (suc (suc (suc zero))) passes = omega (arith, passes.0)
two_room_28 (suc (suc (suc (suc zero)))) passes = omega (arith, passes.1)
two_room_28 (suc (suc (suc (suc (suc l))))) passes = passes

abbrev two_state_29 : State (Unit {0})
two_state_29 = record {
  actors = tt ∷ tt ∷ tt ∷ [];
  flows = record { sent = pos 1 ∷ pos 2 ∷ pos 3 ∷ pos 4 ∷ []; arrived = 4; taken = 2; capacity = 512 }
      ∷ record { sent = pos 1 ∷ pos 2 ∷ []; arrived = 2; taken = 2; capacity = 512 }
      ∷ record { sent = pos 3 ∷ []; arrived = 1; taken = 1; capacity = 512 }
      ∷ record { sent = pos 1 ∷ pos 2 ∷ []; arrived = 2; taken = 1; capacity = 2 }
      ∷ record { sent = pos 4 ∷ []; arrived = 0; taken = 0; capacity = 512 } ∷ [];
  trapped = false;
}

abbrev two_block_30 : Block
two_block_30 = record { bursts = [] ∷ [] ∷ (0 ∷ []) ∷ []; close = GoesOn }

abbrev two_at_31 : Moment (Unit {0})
two_at_31 = next_moment two_at_25 two_block_24 two_state_23

two_round_32 : IsRound pair_net (plain 2) two_at_31 two_block_30 two_state_29
two_round_32 = record {
  untrapped = refl;
  halts = NoRoom ∷ Waiting ∷ Waiting ∷ [];
  fired = two_state_29;
  bursts = (two_opened_27, ((omega arith, (0, 3, refl, (refl, omega arith))), refl), (two_opened_27, ((omega arith, refl), refl), (two_state_29, (omega arith, refl, two_room_28, ((omega arith, refl), refl)), refl)));
  closes = refl;
  leads = refl;
}

abbrev two_opened_33 : State (Unit {0})
two_opened_33 = record {
  actors = tt ∷ tt ∷ tt ∷ [];
  flows = record { sent = pos 1 ∷ pos 2 ∷ pos 3 ∷ pos 4 ∷ []; arrived = 4; taken = 2; capacity = 512 }
      ∷ record { sent = pos 1 ∷ pos 2 ∷ []; arrived = 2; taken = 2; capacity = 512 }
      ∷ record { sent = pos 3 ∷ []; arrived = 1; taken = 1; capacity = 512 }
      ∷ record { sent = pos 1 ∷ pos 2 ∷ []; arrived = 2; taken = 1; capacity = 2 }
      ∷ record { sent = pos 4 ∷ []; arrived = 1; taken = 1; capacity = 512 } ∷ [];
  trapped = false;
}

two_room_34 : HasRoomIn pair_net two_opened_33 two_opened_33 0 0
two_room_34 zero passes = passes
two_room_34 (suc zero) passes = omega (arith, passes.1)
two_room_34 (suc (suc zero)) passes = omega (arith, passes.0)
two_room_34 (suc (suc (suc zero))) passes = omega (arith, passes.1)
two_room_34 (suc (suc (suc (suc zero)))) passes = omega (arith, passes.0)
two_room_34 (suc (suc (suc (suc (suc l))))) passes = passes

abbrev two_state_35 : State (Unit {0})
two_state_35 = record {
  actors = tt ∷ tt ∷ tt ∷ [];
  flows = record { sent = pos 1 ∷ pos 2 ∷ pos 3 ∷ pos 4 ∷ []; arrived = 4; taken = 3; capacity = 512 }
      ∷ record { sent = pos 1 ∷ pos 2 ∷ pos 3 ∷ []; arrived = 2; taken = 2; capacity = 512 }
      ∷ record { sent = pos 3 ∷ []; arrived = 1; taken = 1; capacity = 512 }
      ∷ record { sent = pos 1 ∷ pos 2 ∷ pos 3 ∷ []; arrived = 2; taken = 1; capacity = 2 }
      ∷ record { sent = pos 4 ∷ []; arrived = 1; taken = 1; capacity = 512 } ∷ [];
  trapped = false;
}

abbrev two_block_36 : Block
two_block_36 = record { bursts = (0 ∷ []) ∷ [] ∷ [] ∷ []; close = GoesOn }

abbrev two_at_37 : Moment (Unit {0})
two_at_37 = next_moment two_at_31 two_block_30 two_state_29

two_round_38 : IsRound pair_net (plain 2) two_at_37 two_block_36 two_state_35
two_round_38 = record {
  untrapped = refl;
  halts = NoRoom ∷ Waiting ∷ Waiting ∷ [];
  fired = two_state_35;
  bursts = (two_state_35, (omega arith, refl, two_room_34, ((omega arith, (0, 3, refl, (refl, omega arith))), refl)), (two_state_35, ((omega arith, refl), refl), (two_state_35, ((omega arith, refl), refl), refl)));
  closes = refl;
  leads = refl;
}

abbrev two_opened_39 : State (Unit {0})
two_opened_39 = record {
  actors = tt ∷ tt ∷ tt ∷ [];
  flows = record { sent = pos 1 ∷ pos 2 ∷ pos 3 ∷ pos 4 ∷ []; arrived = 4; taken = 3; capacity = 512 }
      ∷ record { sent = pos 1 ∷ pos 2 ∷ pos 3 ∷ []; arrived = 3; taken = 2; capacity = 512 }
      ∷ record { sent = pos 3 ∷ []; arrived = 1; taken = 1; capacity = 512 }
      ∷ record { sent = pos 1 ∷ pos 2 ∷ pos 3 ∷ []; arrived = 3; taken = 1; capacity = 2 }
      ∷ record { sent = pos 4 ∷ []; arrived = 1; taken = 1; capacity = 512 } ∷ [];
  trapped = false;
}

two_each_40 : (j : ℕ) → (choice_at pair_net (all_fed pair_net two_opened_39) j ≡ Waits)
    ⊎ ((b : ℕ) × (m : ℕ) × (choice_at pair_net (all_fed pair_net two_opened_39) j ≡ Picks b) × LacksRoom pair_net (all_fed pair_net two_opened_39) j b m)
two_each_40 zero = inr (0, 3, refl, (refl, omega arith))
two_each_40 (suc zero) = inl refl
two_each_40 (suc (suc zero)) = inl refl
two_each_40 (suc (suc (suc l))) = inl refl

two_lower_41 : (m : ℕ) → m < 3 → LacksRoom pair_net (all_fed pair_net two_opened_39) 0 0 m → ⊥
two_lower_41 zero low lacks = lacks
two_lower_41 (suc zero) low lacks = omega (arith, lacks.1)
two_lower_41 (suc (suc zero)) low lacks = omega (arith, lacks.0)
two_lower_41 (suc (suc (suc l))) low lacks = absurd (omega arith)

two_stalls_42 : IsStalled pair_net two_opened_39 0 0 3
two_stalls_42 = record {
  settled = record { untrapped = refl; arrived = ((λ e. refl), ((λ e. refl), ((λ e. refl), ((λ e. refl), ((λ e. cc), tt))))) };
  each = two_each_40;
  chosen = refl;
  lowest_leaf = λ j low. absurd (omega arith);
  lacks = (refl, omega arith);
  lowest_link = two_lower_41;
}

abbrev two_block_43 : Block
two_block_43 = record { bursts = [] ∷ [] ∷ [] ∷ []; close = Ends (Stall 0 0 3) }

abbrev two_at_44 : Moment (Unit {0})
two_at_44 = next_moment two_at_37 two_block_36 two_state_35

two_round_45 : IsRound pair_net (plain 2) two_at_44 two_block_43 two_opened_39
two_round_45 = record {
  untrapped = refl;
  halts = NoRoom ∷ Waiting ∷ Waiting ∷ [];
  fired = two_opened_39;
  bursts = (two_opened_39, ((omega arith, (0, 3, refl, (refl, omega arith))), refl), (two_opened_39, ((omega arith, refl), refl), (two_opened_39, ((omega arith, refl), refl), refl)));
  closes = record { stalled = two_stalls_42; grown = omega arith };
  leads = refl;
}

abbrev two_lines : List Line
two_lines = Deliver ∷ Fire 0 0 ∷ Deliver ∷ Grow 3 2 ∷ Deliver ∷ Fire 0 0 ∷ Deliver ∷ Fire 1 0 ∷ Deliver ∷ Fire 2 0 ∷ Deliver ∷ Fire 0 0 ∷ Deliver ∷ Stall 0 0 3 ∷ []

two_paced : IsPaced pair_net (plain 2) (start_of pair_net pair_in) two_lines two_opened_39
two_paced = record {
  blocks = two_block_4 ∷ two_block_12 ∷ two_block_18 ∷ two_block_24 ∷ two_block_30 ∷ two_block_36 ∷ [];
  reached = two_at_44;
  rounds = (two_state_3, two_round_6, (λ ends. ends), (two_state_11, two_round_14, (λ ends. ends), (two_state_17, two_round_20, (λ ends. ends), (two_state_23, two_round_26, (λ ends. ends), (two_state_29, two_round_32, (λ ends. ends), (two_state_35, two_round_38, (λ ends. ends), refl))))));
  final = two_block_43;
  ending = two_round_45;
  ends = tt;
  lines_are = refl;
}
