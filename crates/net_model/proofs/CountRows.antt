-- What is counted of worked runs.
use Rattle.std.proofs.Common.{◌≡◌, ℕ, true, false, List, [], ◌∷◌, length, refl}
use Rattle.std.specs.Prelude.{codes}
use Rattle.rvc_base.specs.declared.scalar.Scalar.TheVariants.{Uint}
use Rattle.trace_text.specs.declared.line.Line.TheVariants.{Fire, Deliver}
use Rattle.net_model.specs.declared.wiring.End.TheVariants.{Net as AtNet}
use Rattle.net_model.specs.Network.{Network}
use Rattle.net_model.specs.State.{start_of}
use Rattle.net_model.specs.Laws.{firings_shown}
use Rattle.net_model.specs.Counted.{deliveries_in, arrived_at, was_short, rest_at, sent_count}
use Rattle.net_model.proofs.Rows.{leaf_port, inc, inc_net, inc_lines, inc_last, pair_net, pair_last}

-- three firings in two deliveries, three tokens in and three out
inc_counts : length (firings_shown inc_lines) ≡ 3
inc_counts = refl

inc_deliveries : deliveries_in inc_lines ≡ 2
inc_deliveries = refl

inc_arrived : arrived_at inc_last 0 ≡ 3
inc_arrived = refl

inc_sent : sent_count inc_net inc_last 0 ≡ 3
inc_sent = refl

-- a stalled run sends nothing out
pair_sent : sent_count pair_net pair_last 0 ≡ 0
pair_sent = refl

-- an actor behind a link that holds one token of two bytes
abbrev narrow : Network (Unit {0})
narrow = record {
  leaves = record { path = codes "Inc"; class = codes "Inc"; behaviour = inc } ∷ [];
  links = record { from = AtNet 0; to = leaf_port 0 0; capacity = 1; kind = Uint 16 } ∷ [];
  ins = record { name = codes "In"; kind = Uint 16 } ∷ [];
  outs = [];
}

abbrev five_bytes : List (List ℕ)
five_bytes = (1 ∷ 0 ∷ 2 ∷ 0 ∷ 9 ∷ []) ∷ []

-- the fifth byte is no token
narrow_rest : rest_at narrow.ins five_bytes (AtNet 0) ≡ 1
narrow_rest = refl

-- after each of two deliveries the link is full: that the feed ends was never seen, and the byte doesn't count
narrow_full : was_short narrow (start_of narrow five_bytes) (Deliver ∷ Fire 0 0 ∷ Deliver ∷ []) 0 ≡ false
narrow_full = refl

-- the third delivery finds no token
narrow_short : was_short narrow (start_of narrow five_bytes) (Deliver ∷ Fire 0 0 ∷ Deliver ∷ Fire 0 0 ∷ Deliver ∷ []) 0 ≡ true
narrow_short = refl
