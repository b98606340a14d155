use Rattle.std.proofs.Common.{rules, FitsSigned, ◌+◌, ◌++◌, ℤ, List, take, drop, refl, subst}
use Rattle.std.proofs.lemmas.Int.{to_z-of_z}
use Rattle.rvc_base.specs.Width.{num_width}
use Rattle.channel_writer.specs.Held.{AppendsFront, WritesOn}
use Rattle.round_runner.specs.Sending.{outgoing, stored_bytes, stored}
use Rattle.round_runner.proofs.Written.{IsWritten, bytes_more, more_written, on_err, text_all, text_next, write_breaks}
use Rattle.round_runner.proofs.sending.send_along.Goals as goal

pub returns-in_err-write_token-clause-front : goal.returns-in_err-write_token-clause-front
returns-in_err-write_token-clause-front g c =
    let fits : FitsSigned num_width c.sent_at-token.result = search rules in
    let tokens : List ℤ = outgoing g.A.Firing.cell c.args.net.now c.args.link.0 in
    let all = text_all (λ i vs. stored_bytes c.args.kind vs) (λ i v. stored c.args.kind v) (λ i. refl) (bytes_more c.args.kind) tokens c.loop-k.k c.sent_at-token.result c.sent_at-token.ensures.token in
    let front : AppendsFront c.args.channel (g.D.Drains.channels c.loop-k.drains) (g.D.Drains.channels c.write_token.new.drains) (c.loop-k.writer ++ stored c.args.kind c.sent_at-token.result) =
    subst (λ v. AppendsFront c.args.channel (g.D.Drains.channels c.loop-k.drains) (g.D.Drains.channels c.write_token.new.drains) (c.loop-k.writer ++ stored c.args.kind v))
    (to_z-of_z num_width c.sent_at-token.result fits) c.in_err-write_token.ensures.front in
    on_err _ _ (subst (λ text. AppendsFront c.args.channel (g.D.Drains.channels c.args.drains.now) (g.D.Drains.channels c.write_token.new.drains) (c.args.writer.now ++ text)) all
    (write_breaks c.args.channel (stored_bytes c.args.kind (take c.loop-k.k tokens)) c.args.writer.now c.loop-k.writer (g.D.Drains.channels c.args.drains.now) (g.D.Drains.channels c.loop-k.drains)
    (g.D.Drains.channels c.write_token.new.drains) c.loop-k.invariant (stored c.args.kind c.sent_at-token.result) (stored_bytes c.args.kind (drop (c.loop-k.k + 1) tokens)) front))

pub loop-k-preserved : goal.loop-k-preserved
loop-k-preserved g c =
    let fits : FitsSigned num_width c.sent_at-token.result = search rules in
    let tokens : List ℤ = outgoing g.A.Firing.cell c.args.net.now c.args.link.0 in
    let next = text_next (λ i vs. stored_bytes c.args.kind vs) (λ i v. stored c.args.kind v) (λ i. refl) (bytes_more c.args.kind) tokens c.loop-k.k c.sent_at-token.result c.sent_at-token.ensures.token in
    let written : WritesOn c.args.channel (g.D.Drains.channels c.loop-k.drains) (g.D.Drains.channels c.write_token.new.drains) c.loop-k.writer c.write_token.new.writer (stored c.args.kind c.sent_at-token.result) =
    subst (λ v. WritesOn c.args.channel (g.D.Drains.channels c.loop-k.drains) (g.D.Drains.channels c.write_token.new.drains) c.loop-k.writer c.write_token.new.writer (stored c.args.kind v))
    (to_z-of_z num_width c.sent_at-token.result fits) c.in_ok-write_token.ensures.written in
    subst (λ text. IsWritten c.args.channel text c.args.writer.now c.write_token.new.writer (g.D.Drains.channels c.args.drains.now) (g.D.Drains.channels c.write_token.new.drains)) next
    (more_written c.args.channel (stored_bytes c.args.kind (take c.loop-k.k tokens)) c.args.writer.now c.loop-k.writer (g.D.Drains.channels c.args.drains.now) (g.D.Drains.channels c.loop-k.drains)
    (g.D.Drains.channels c.write_token.new.drains) c.loop-k.invariant (stored c.args.kind c.sent_at-token.result) c.write_token.new.writer written c.in_ok-write_token.ensures.elsewhere)
