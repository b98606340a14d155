use Rattle.std.proofs.Common.{◌≡◌, length, sym, ap, ◌∙◌, arith}
use Rattle.std.specs.Prelude.{◌==◌}
use Rattle.std.specs.Str.{bytes_eq}
use Rattle.cal_model.specs.Certified.{places_from}
use Rattle.determinacy_cert.proofs.Keys.{same_steps}
use Rattle.determinacy_cert.proofs.key.same_places.Goals as goal

pub returns-else-count-eq1 : goal.returns-else-count-eq1
returns-else-count-eq1 c =
    let one : c.len.result ≡ length c.args.one.pattern.now.names.items = omega arith in
    let two : c.len-else-count-eq1.result ≡ length c.args.two.pattern.now.names.items = omega arith in
    ap (λ n. n == c.len-else-count-eq1.result) one ∙ ap (λ n. length c.args.one.pattern.now.names.items == n) two
    ∙ sym (same_steps c.args.count c.args.one.place (length c.args.one.pattern.now.names.items) (length c.args.two.pattern.now.names.items) (omega arith))
    ∙ ap (λ k. bytes_eq (places_from c.args.count c.args.one.place (length c.args.one.pattern.now.names.items)) (places_from c.args.count k (length c.args.two.pattern.now.names.items))) c.if-one-two.false
