use Rattle.std.proofs.Common.{◌≡◌, ◌∷◌, [], ◌++◌, ◌<◌, map, length, subst, sym, rules}
use Rattle.std.specs.Prelude.{All}
use Rattle.std.specs.Arc.{arc_value}
use Rattle.std.proofs.lemmas.List.{map-append}
use Rattle.std.proofs.lemmas.List.Elements.{All-head, All-tail}
use Rattle.lower_actor.specs.Leaves.{StandForActors}
use Rattle.rvc_engine.proofs.Compiled.{codes_more, place_more}
use Rattle.rvc_engine.proofs.compiling.codes_at.Goals as goal

pub places-preserved : goal.places-preserved
places-preserved c =
    let opened : c.places.rest.now ≡ c.in-Some.place.now ∷ c.in-Some.others.now = search rules in
    let low : All (λ p. p < length c.args.all.now) (c.in-Some.place.now ∷ c.in-Some.others.now) = subst (All (λ p. p < length c.args.all.now)) opened c.places.invariant.low in
    let same : arc_value c.in_ok-code.code ≡ arc_value c.index-all-place.result.code = search rules in
    place_more (λ actors. StandForActors actors (map arc_value c.places.codes.items)) (λ actors. StandForActors actors (map arc_value c.push.new.self.items))
    c.args.places.now c.places.rest.now c.in-Some.others.now c.in-Some.place.now c.index-all-place.result c.args.all.now c.places.invariant opened
    (All-head (λ p. p < length c.args.all.now) c.in-Some.place.now c.in-Some.others.now low) c.index-all-place.is
    (All-tail (λ p. p < length c.args.all.now) c.in-Some.place.now c.in-Some.others.now low)
    (λ actors a h compiled. subst (λ cs. StandForActors (actors ++ a ∷ []) (map arc_value cs)) (sym c.in_ok-push.ensures.items)
    (subst (StandForActors (actors ++ a ∷ [])) (sym (map-append arc_value c.places.codes.items (c.in_ok-code.code ∷ [])))
    (codes_more actors (map arc_value c.places.codes.items) a (arc_value c.in_ok-code.code) h (subst (λ v. StandForActors (a ∷ []) (v ∷ [])) (sym same) (compiled.code, tt)))))
