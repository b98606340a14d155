use Rattle.std.proofs.Common.{◌≡◌, map, length, sym, ap, subst, ◌∙◌, arith}
use Rattle.std.specs.Prelude.{string_bytes}
use Rattle.std.proofs.lemmas.List.{length-map}
use Rattle.rvc_words.specs.Words.{port_text}
use Rattle.round_runner.specs.declared.outcome.Plan.{Plan}
use Rattle.network_runner.specs.Making.{CountNothing}
use Rattle.network_runner.specs.Asking.{Begins, seen_run}
use Rattle.cmd_run_network.specs.Network.{IsWiringBy}
use Rattle.cmd_run_network.proofs.Named.{head_so}
use Rattle.cmd_run_network.proofs.preparing.make_ready.Goals as goal

pub returns : goal.returns
returns g c =
    let flat = c.args.flat.now in
    let count : c.len.result ≡ length c.args.cells.items = omega arith in
    let many : c.len.result ≡ length (map g.A.Firing.cell c.args.cells.items) = count ∙ sym (length-map c.args.cells.items g.A.Firing.cell) in
    let links : c.len-2.result ≡ length flat.links.items = omega arith in
    let outs : c.len-3.result ≡ length flat.outs.items = omega arith in
    record {
      wiring = c.in_ok-wiring.wiring;
      is_wiring = subst (λ words. IsWiringBy flat (map port_text words) c.in_ok-wiring.wiring) c.as_slice.ensures.value c.in_ok-wiring.ensures;
      begins = subst (λ (plan : Plan). Begins (map g.A.Firing.cell c.args.cells.items) c.in_ok-wiring.wiring plan (g.P.Policy.kind c.args.policy) (seen_run g.A.Firing.cell c.in_ok-runner.runner)) c.plan_of-plan.ensures c.in_ok-runner.ensures.begins;
      head_is = head_so c.in_ok-head.head.items c.len.result (length (map g.A.Firing.cell c.args.cells.items)) (length flat.links.items) c.plan_of-plan.result.grow c.args.job.now.grow (map string_bytes flat.paths.items)
          (map string_bytes flat.classes.items) c.in_ok-head.ensures many (ap (λ (plan : Plan). plan.grow) c.plan_of-plan.ensures);
      places = subst (λ n. CountNothing (length flat.links.items) n c.in_ok-counts.counts) outs (subst (λ n. CountNothing n c.len-3.result c.in_ok-counts.counts) links c.in_ok-counts.ensures);
    }
