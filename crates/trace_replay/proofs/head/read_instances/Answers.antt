use Rattle.std.proofs.Common.{◌+◌, ◌<◌, ◌≡◌, ◌∙◌, Some, Err, arith, drop, length, map, refl, sym}
use Rattle.std.specs.Prelude.{slice_get, string_bytes}
use Rattle.rvc_io.specs.Feeds.{ReadFails}
use Rattle.port_files.specs.Coming.{coming_on}
use Rattle.trace_replay.specs.declared.bytes.TheConstants.{TRACE_FEED}
use Rattle.trace_replay.proofs.Heads.{Here, at_index, due_here, due_none, due_start, fault_after, here}
use Rattle.trace_replay.proofs.Pulling.{pulls_nothing, pulls_then, risen_after}
use Rattle.trace_replay.proofs.head.read_instances.Goals as goal

pub returns-clause-read : goal.returns-clause-read
returns-clause-read g c = λ t text same named has.
    due_none string_bytes t text c.args.names.now c.names.k c.names.trace.count c.names.trace.lines.passed (coming_on c.names.trace.lines.bytes (g.F.Feeds.feeds c.names.feeds) TRACE_FEED)
    named c.names-test.false (c.names.invariant.read t text same named has)

pub returns-in-Err-clause-judged : goal.returns-in-Err-clause-judged
returns-in-Err-clause-judged g c = λ t text same named has.
    let now = coming_on c.names.trace.lines.bytes (g.F.Feeds.feeds c.names.feeds) TRACE_FEED in
    let at : slice_get c.args.names.now c.names.k ≡ Some c.index-names-k.result = at_index c.args.names.now c.names.k c.index-names-k.result c.names-test.true c.index-names-k.is in
    let is : Here t.net.leaves c.names.k (string_bytes c.index-names-k.result) = here string_bytes t.net.leaves c.args.names.now c.names.k c.index-names-k.result named at in
    c.in-Err.ensures.judged t text is.leaf (drop (c.names.k + 1) t.net.leaves) (same ∙ sym c.names.invariant.grow) is.named
    (due_here t text c.names.k c.names.trace.count c.names.trace.lines.passed now (string_bytes c.index-names-k.result) is (c.names.invariant.read t text same named has))

pub returns-in-Err-clause-failed : goal.returns-in-Err-clause-failed
returns-in-Err-clause-failed g c =
    fault_after {T = Unit {0}} (Err c.in-Err.fault) (ReadFails g.F.Feeds.feeds c.names.feeds c.read_instance.new.feeds) (ReadFails g.F.Feeds.feeds c.args.feeds.now c.read_instance.new.feeds)
    (λ risen. risen_after (g.F.Feeds.feeds c.args.feeds.now).faults (g.F.Feeds.feeds c.names.feeds).faults (g.F.Feeds.feeds c.read_instance.new.feeds).faults c.names.invariant.elsewhere.faults_stay risen)
    c.in-Err.ensures.failed

pub returns-in-Err-clause-elsewhere : goal.returns-in-Err-clause-elsewhere
returns-in-Err-clause-elsewhere g c =
    pulls_then TRACE_FEED (g.F.Feeds.feeds c.args.feeds.now) (g.F.Feeds.feeds c.names.feeds) (g.F.Feeds.feeds c.read_instance.new.feeds) c.names.invariant.elsewhere c.read_instance.ensures.elsewhere

pub names-preserved : goal.names-preserved
names-preserved g c =
    let now = coming_on c.names.trace.lines.bytes (g.F.Feeds.feeds c.names.feeds) TRACE_FEED in
    let at : slice_get c.args.names.now c.names.k ≡ Some c.index-names-k.result = at_index c.args.names.now c.names.k c.index-names-k.result c.names-test.true c.index-names-k.is in
    record {
      read = λ t text same named has.
          let is : Here t.net.leaves c.names.k (string_bytes c.index-names-k.result) = here string_bytes t.net.leaves c.args.names.now c.names.k c.index-names-k.result named at in
          c.in-Ok.ensures.read t text is.leaf (drop (c.names.k + 1) t.net.leaves) (same ∙ sym c.names.invariant.grow) is.named
          (due_here t text c.names.k c.names.trace.count c.names.trace.lines.passed now (string_bytes c.index-names-k.result) is (c.names.invariant.read t text same named has));
      number = omega (arith, c.in-Ok.ensures.number, c.names.invariant.number);
      counted = c.in-Ok.ensures.counted;
      low = omega (arith, c.names-test.true);
      grow = c.read_instance.ensures.grow ∙ c.names.invariant.grow;
      elsewhere = pulls_then TRACE_FEED (g.F.Feeds.feeds c.args.feeds.now) (g.F.Feeds.feeds c.names.feeds) (g.F.Feeds.feeds c.read_instance.new.feeds)
          c.names.invariant.elsewhere c.read_instance.ensures.elsewhere;
    }

pub names-init : goal.names-init
names-init g c = record {
  read = due_start g.A.Firing.State (map string_bytes c.args.names.now) c.args.trace.now.grow c.args.trace.now.count c.args.trace.now.lines.passed
      (coming_on c.args.trace.now.lines.bytes (g.F.Feeds.feeds c.args.feeds.now) TRACE_FEED);
  number = omega arith;
  counted = c.requires.counted;
  low = omega arith;
  grow = refl;
  elsewhere = pulls_nothing TRACE_FEED (g.F.Feeds.feeds c.args.feeds.now);
}

pub names-smaller : goal.names-smaller
names-smaller g c = let low : c.names.k < length c.args.names.now = c.names-test.true in omega (arith, low)

pub returns-clause-number : goal.returns-clause-number
returns-clause-number g c = omega (arith, c.names.invariant.number, c.names.invariant.low, c.names-test.false)
