-- Worked examples at the edges: agreement on each port alone, a link that holds too much, wiring that is
-- refused, links that grow, and runs from a given state.
use Rattle.std.proofs.Common.{◌≡◌, ℕ, zero, suc, ◌-◌, ◌<◌, ◌≤◌, false, List, [], ◌∷◌, ℤ, pos, length, take, refl, sym, ap, subst, arith}
use Rattle.std.specs.Prelude.{Some, codes, replicate, slice_get}
use Rattle.rvc_base.specs.declared.scalar.Scalar.TheVariants.{Uint}
use Rattle.rvc_base.specs.Behaviour.{Behaviour}
use Rattle.rvc_base.specs.Lawful.{AgreeOn}
use Rattle.trace_text.specs.declared.line.Line.TheVariants.{Fire, Deliver, Grow, Stall}
use Rattle.net_model.specs.declared.wiring.End.TheVariants.{Net as AtNet}
use Rattle.net_model.specs.Network.{Network}
use Rattle.net_model.specs.State.{Flow, State, start_of}
use Rattle.net_model.specs.Ends.{HasLessRoom, IsStuck, Grows}
use Rattle.net_model.specs.Trace.{goes, PlaysFrom, KeepsFrom}
use Rattle.net_model.specs.Wired.{IsWired}
use Rattle.net_model.proofs.Rows.{link, leaf_port, byte_port, rate, simple, sum_of_each, inc, pair_net, pair_last, pair_stalls}
use Rattle.net_model.proofs.Ending.{stalls_in_one_place}

-- An actor that takes 600 tokens of its first port and one of its second. Before the second there are 512 of 700
-- tokens: the link is full.
abbrev wide : Behaviour (Unit {0})
wide = simple (600 ∷ 1 ∷ []) sum_of_each

abbrev tokens_now : List (List ℤ)
tokens_now = replicate 600 (pos 0) ∷ replicate 512 (pos 0) ∷ []

abbrev tokens_all : List (List ℤ)
tokens_all = replicate 600 (pos 0) ∷ replicate 700 (pos 0) ∷ []

-- they agree as far as each port is needed ..
wide_agrees : AgreeOn wide (rate (600 ∷ 1 ∷ []) 0) tokens_now tokens_all
wide_agrees zero low = refl
wide_agrees (suc zero) low = refl
wide_agrees (suc (suc p)) low = absurd (omega arith)

-- .. and not in as many tokens on both ports as are needed on the first
wide_differs : AgreeOn wide (λ p. 600) tokens_now tokens_all → ⊥
wide_differs agree =
    let second : take 600 (replicate 512 (pos 0)) ≡ take 600 (replicate 700 (pos 0)) = agree 1 (omega arith) in
    let lengths : ◌≡◌ {A = ℕ} 512 600 = ap length second in
    omega arith

-- a link that holds more than its capacity lacks room also for an action that gives nothing
overfull : HasLessRoom (λ p. 0) 0 (record { sent = replicate 3 (pos 0); arrived = 3; taken = 0; capacity = 1 }) (leaf_port 0 0)
overfull = (refl, omega arith)

not_cut_off : 1 - 3 < 0 → ⊥
not_cut_off low = omega (arith, low)

-- a network of one leaf with these two links
abbrev with_links : List Rattle.net_model.specs.declared.wiring.Link.Link → Network (Unit {0})
with_links links = record {
  leaves = record { path = codes "Inc"; class = codes "Inc"; behaviour = inc } ∷ [];
  links = links;
  ins = byte_port (codes "In") ∷ [];
  outs = byte_port (codes "Out") ∷ [];
}

-- the output before the input: not in link order
swapped_links : IsWired (with_links (link (leaf_port 0 0) (AtNet 0) 512 ∷ link (AtNet 0) (leaf_port 0 0) 512 ∷ [])) → ⊥
swapped_links wired = wired.in_order 0 1 _ _ (omega arith) refl refl

-- a link that holds nothing, where an action takes a token
no_room_to_take : IsWired (with_links (link (AtNet 0) (leaf_port 0 0) 0 ∷ [])) → ⊥
no_room_to_take wired =
    let few : 1 ≤ 0 = (wired.joined 0 _ refl).holds_needs 0 in omega arith

-- a link from an output port that isn't there
no_such_port : IsWired (with_links (link (leaf_port 0 1) (AtNet 0) 512 ∷ [])) → ⊥
no_such_port wired = let low : 1 < 1 = (wired.joined 0 _ refl).from_port in omega arith

-- a link from an input of the network to an output
straight_through : IsWired (with_links (link (AtNet 0) (AtNet 0) 512 ∷ [])) → ⊥
straight_through wired = let no = (wired.joined 0 _ refl).inside refl in cc

-- a network knows the names of its ports
output_name : slice_get pair_net.outs 0 ≡ Some (record { name = codes "Out"; kind = Uint 8 })
output_name = refl

-- At a stall the link that holds one token may grow to two, if the limit is 4 ..
pair_grows : Grows pair_net 4 pair_last 3 2
pair_grows = record { leaf = 0; action = 0; stalled = pair_stalls; below = omega arith; doubled = refl }

-- .. so the run isn't stuck there, as it is if the limit is 1
pair_is_stuck : IsStuck pair_net 1 pair_last 0 0 3
pair_is_stuck = record { stalled = pair_stalls; grown = omega arith }

pair_not_stuck : (i a l : ℕ) → IsStuck pair_net 4 pair_last i a l → ⊥
pair_not_stuck i a l stuck =
    let same : 3 ≡ l = (stalls_in_one_place pair_net pair_last 0 0 3 i a l pair_stalls stuck.stalled).2 in
    let grown : 4 ≤ 1 = subst (λ m. 4 ≤ Rattle.net_model.specs.State.capacity_at pair_last m) (sym same) stuck.grown in
    omega arith

-- the state in which the link has grown
abbrev pair_wider : State (Unit {0})
pair_wider = record {
  actors = tt ∷ tt ∷ tt ∷ [];
  flows = record { sent = pos 1 ∷ pos 2 ∷ pos 3 ∷ pos 4 ∷ []; arrived = 4; taken = 1; capacity = 512 }
      ∷ record { sent = pos 1 ∷ []; arrived = 1; taken = 0; capacity = 512 }
      ∷ record { sent = []; arrived = 0; taken = 0; capacity = 512 }
      ∷ record { sent = pos 1 ∷ []; arrived = 1; taken = 0; capacity = 2 }
      ∷ record { sent = []; arrived = 0; taken = 0; capacity = 512 } ∷ [];
  trapped = false;
}

pair_goes_wider : goes pair_net pair_last (Grow 3 2) ≡ Some pair_wider
pair_goes_wider = refl

-- lines play and keep the capacities from a state in the middle of a run
pair_plays_on : PlaysFrom pair_net 1 pair_last (Stall 0 0 3 ∷ []) pair_last
pair_plays_on = ((pair_is_stuck, refl), refl)

pair_keeps_on : KeepsFrom pair_net pair_wider (Deliver ∷ Fire 0 0 ∷ [])
pair_keeps_on = grind arith

-- before the link has grown the same firing passes its capacity
pair_passes_on : KeepsFrom pair_net pair_last (Deliver ∷ Fire 0 0 ∷ []) → ⊥
pair_passes_on keeps = let passes : 2 ≤ 1 = keeps.2.2.1.1.1.0 refl in omega arith
