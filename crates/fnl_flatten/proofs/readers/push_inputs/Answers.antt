use Rattle.std.proofs.Common.{◌∙◌, arith}
use Rattle.fnl_flatten.proofs.Linking.{more_inputs}
use Rattle.fnl_flatten.proofs.readers.push_inputs.Goals as goal

pub ports-preserved : goal.ports-preserved
ports-preserved c = record {
  so_far = more_inputs c.args.leaf c.ports.port c.ports.left c.ports.readers.items c.push.new.self.items (omega (arith, c.ports-test.true)) c.in_ok-push.ensures.items
      ∙ c.ports.invariant.so_far;
  sum = omega (arith, c.ports.invariant.sum, c.ports-test.true);
}
