use Rattle.std.proofs.Common.{◌≡◌, ◌∙◌, ap, map, rules, subst, sym}
use Rattle.std.specs.Prelude.{[], slice_get, unwrap_or}
use Rattle.rvc_words.specs.Words.{port_text}
use Rattle.cmd_ports.specs.Matching.{names_of}
use Rattle.cmd_ports.specs.Opening.{feeds_from, file_at}
use Rattle.cmd_report.specs.About.{file_opened}
use Rattle.cmd_report.proofs.Feeds.{behind, found}
use Rattle.cmd_report.proofs.names.input_file.Goals as goal

pub returns-then-number-feed : goal.returns-then-number-feed
returns-then-number-feed c =
    let ins = names_of c.args.ins.now in
    let words = map port_text c.args.words.now in
    let from = c.in-Some.link.now.from in
    let others = c.in-Some.others.now in
    let same : c.links.number ≡ c.args.feed = search rules in
    let here : file_opened c.args.feed (behind from c.links.number others ins words) ≡ unwrap_or (file_at (slice_get ins c.in-Net.port) words) [] =
    subst (λ k. file_opened k (behind from c.links.number others ins words) ≡ unwrap_or (file_at (slice_get ins c.in-Net.port) words) []) same
    (found c.links.number c.in-Net.port from others ins words c.in-Net.is) in
    c.file_at.ensures ∙ sym (c.links.invariant.1 ∙ ap (λ ls. file_opened c.args.feed (feeds_from c.links.number ls ins words)) c.in-Some.ensures.cases.0 ∙ here)
