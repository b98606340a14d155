-- Feeds that are open for a trace and for each input link.
use Rattle.std.proofs.Common.{◌≡◌, ℕ, zero, suc, ◌≤◌, Bool, true, List, take, refl, arith}
use Rattle.std.specs.Prelude.{IfSome, None, Option, Some}
use Rattle.rvc_io.specs.Feeds.{Inputs}
use Rattle.rvc_io.specs.MemFeeds.{FeedsState, inputs_of}
use Rattle.net_model.specs.declared.wiring.End.{End}
use Rattle.net_model.specs.declared.wiring.End.TheVariants.{Leaf as AtLeaf, Net as AtNet}
use Rattle.net_model.specs.declared.wiring.Wiring.{Wiring}
use Rattle.net_model.specs.Network.{is_outside}
use Rattle.round_runner.specs.Running.{count_inputs}
use Rattle.kit_runs.proofs.Opened.{few_feeds}
use Rattle.trace_replay.specs.Feeding.{has_feed}
use Rattle.test_replay.specs.Open.{AreFirstOpen, AreOpenFor}

is_fed : (reads : List Bool) (end : End) → has_feed reads end ≡ true → is_outside end ≡ true
is_fed reads (AtLeaf inst port) h = absurd (cc)
is_fed reads (AtNet port) h = refl

opened : (feeds : Inputs) → AreFirstOpen feeds → (n : ℕ) → n ≤ 1 → feeds.is_open (suc n) ≡ true
opened feeds open_first zero low = open_first.1
opened feeds open_first (suc zero) low = open_first.2
opened feeds open_first (suc (suc n)) low = absurd (omega (arith, low))

feeds_open : (wiring : Wiring) (feeds : Inputs) → count_inputs wiring.links.items ≤ 2 → AreFirstOpen feeds → AreOpenFor wiring feeds
feeds_open wiring feeds few open_first = record {
  trace = open_first.0;
  inputs = λ l link at fed.
      let low : suc (count_inputs (take l wiring.links.items)) ≤ count_inputs wiring.links.items = few_feeds wiring.links.items l link at (is_fed wiring.open_ins.items link.from fed) in
      opened feeds open_first (count_inputs (take l wiring.links.items)) (omega (arith, low, few));
}

pub found_open : (wiring : Wiring) (found : Option FeedsState) → count_inputs wiring.links.items ≤ 2 → IfSome found (λ feeds. AreFirstOpen (inputs_of feeds)) → IfSome found (λ feeds. AreOpenFor wiring (inputs_of feeds))
found_open wiring None few open_first = tt
found_open wiring (Some feeds) few open_first = feeds_open wiring (inputs_of feeds) few open_first
