use Rattle.std.proofs.Common.{◌≡◌, ◌∷◌, true, false, sym, ◌∙◌, rules}
use Rattle.std.specs.Str.{bytes_eq}
use Rattle.lower_base.specs.declared.scope.Frame as chain
use Rattle.lower_base.specs.declared.scope.Frame.{out-Frame}
use Rattle.cal_model.specs.View.{shape_view}
use Rattle.lower_base.specs.declared.names.Seat.TheVariants.{Cell}
use Rattle.lower_base.specs.Seen.{local_in, locals_of}
use Rattle.lower_base.proofs.Seeing.{local_here, local_past}
use Rattle.lower_base.proofs.scope.local_named.Goals as goal

pub returns-then-eq-clause-hidden : goal.returns-then-eq-clause-hidden
returns-then-eq-clause-hidden c = λ outer.
    let these : locals_of c.outwards.at ≡ local_in (out-Frame c.in-Some.here.now) ∷ locals_of (out-Frame c.in-Some.here.now).outer = search (rules, chain.the_lemmas) in
    let same : bytes_eq ((out-Frame c.in-Some.here.now).name.now) c.args.text.now ≡ true = search rules in
    sym (c.outwards.invariant outer) ∙ local_here c.args.text.now ((out-Frame c.in-Some.here.now).name.now) (shape_view (out-Frame c.in-Some.here.now).shape.now) (Cell (out-Frame c.in-Some.here.now).cell) (locals_of c.outwards.at) (locals_of (out-Frame c.in-Some.here.now).outer) these same outer

pub outwards-preserved : goal.outwards-preserved
outwards-preserved c = λ outer.
    let these : locals_of c.outwards.at ≡ local_in (out-Frame c.in-Some.here.now) ∷ locals_of (out-Frame c.in-Some.here.now).outer = search (rules, chain.the_lemmas) in
    let differ : bytes_eq ((out-Frame c.in-Some.here.now).name.now) c.args.text.now ≡ false = search rules in
    sym (local_past c.args.text.now ((out-Frame c.in-Some.here.now).name.now) (shape_view (out-Frame c.in-Some.here.now).shape.now) (Cell (out-Frame c.in-Some.here.now).cell) (locals_of c.outwards.at) (locals_of (out-Frame c.in-Some.here.now).outer) these differ outer) ∙ c.outwards.invariant outer
