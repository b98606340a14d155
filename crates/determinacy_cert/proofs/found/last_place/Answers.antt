use Rattle.std.proofs.Common.{◌≡◌, suc, ◌-◌, true, map, drop, get_or, sym, ap, ◌∙◌, arith}
use Rattle.std.specs.Prelude.{string_bytes}
use Rattle.std.specs.Str.{bytes_eq}
use Rattle.determinacy_cert.specs.Deciding.{last_place}
use Rattle.determinacy_cert.proofs.Places.{last_here}
use Rattle.determinacy_cert.proofs.found.last_place.Goals as goal

pub returns-then-eq : goal.returns-then-eq
returns-then-eq c =
    let next : suc (c.backwards.place - 1) ≡ c.backwards.place = omega arith in
    let here : bytes_eq (string_bytes (get_or c.args.names.now (c.backwards.place - 1) c.index-names-place.result)) c.args.name.now ≡ true =
    ap (λ s. bytes_eq (string_bytes s) c.args.name.now) (sym c.index-names-place.is)
    ∙ ap (λ s. bytes_eq s c.args.name.now) (sym c.as_str.ensures.value) ∙ sym c.eq.ensures ∙ c.if-eq.true in
    sym (last_here string_bytes c.args.name.now c.args.names.now (c.backwards.place - 1) c.index-names-place.result (omega arith) here
    (ap (λ k. last_place c.args.name.now (map string_bytes (drop k c.args.names.now))) next ∙ c.backwards.invariant.1))
