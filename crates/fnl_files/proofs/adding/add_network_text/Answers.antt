use Rattle.std.proofs.Common.{◌+◌, ◌<◌, true, length, sym, subst, rules}
use Rattle.std.specs.Prelude.{◌⊎◌}
use Rattle.cal_files.specs.Loading.{max_bytes, max_files}
use Rattle.fnl_frames.specs.Views.{net_of}
use Rattle.fnl_source.specs.Files.{network, says_network}
use Rattle.fnl_files.specs.SoFar.{IsBroken}
use Rattle.fnl_files.proofs.Broken.{broken_limit, broken_network}
use Rattle.fnl_files.proofs.adding.add_network_text.Goals as goal

pub returns-in-Err-clause-broken : goal.returns-in-Err-clause-broken
returns-in-Err-clause-broken c =
    subst (λ f. IsBroken c.args.text.now true c.args.number c.args.loading.now.bytes f) (sym c.of_front.ensures)
    (broken_network c.args.text.now c.args.number c.args.loading.now.bytes c.in-Err.front c.in-Err.ensures.refused)

pub returns-in-Err-check_limits-clause-broken : goal.returns-in-Err-check_limits-clause-broken
returns-in-Err-check_limits-clause-broken c =
    let passes : (max_files < c.args.number) ⊎ (max_bytes < c.args.loading.now.bytes + length c.args.text.now) = search rules in
    broken_limit c.args.text.now true (network (net_of c.in-Ok.net)) c.args.number c.args.loading.now.bytes c.in-Err-check_limits.fault
    (says_network c.in-Ok.ensures.spelled) c.in-Err-check_limits.ensures.refused passes

pub returns-in-Ok-add_network-clause-added : goal.returns-in-Ok-add_network-clause-added
returns-in-Ok-add_network-clause-added c = record {
  content = network (net_of c.in-Ok.net);
  says = says_network c.in-Ok.ensures.spelled;
  few = search rules;
  small = search rules;
  adds = c.in-Ok-add_network.ensures;
}
