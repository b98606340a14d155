use Rattle.std.proofs.Common.{◌≡◌, ◌<◌, ℕ, List, length, slice_index_or, ◌∙◌, subst}
use Rattle.rvc_base.specs.Trap.{trap_name}
use Rattle.trace_text.proofs.Advancing.{trap_more}
use Rattle.trace_text.proofs.advance.in_trap.Goals as goal

pub returns-then-name-read : goal.returns-then-name-read
returns-then-name-read c =
    let same : c.as_bytes-name.result.now ≡ trap_name c.args.trap = c.as_bytes-name.ensures.value ∙ c.name.ensures in
    let low = subst (λ (u : List ℕ). c.args.read < length u) same c.if-read-name.false in
    let this = subst (λ (u : List ℕ). slice_index_or u c.args.read 0 ≡ c.args.byte) same c.if-name-read.true in
    trap_more c.args.inst c.args.action c.args.trap c.args.read c.args.byte low this
