use Rattle.std.proofs.Common.{◌≡◌, ◌∷◌, [], ◌++◌, ◌<◌, length, subst, sym, rules}
use Rattle.std.specs.Prelude.{All}
use Rattle.std.proofs.lemmas.List.Elements.{All-head, All-tail}
use Rattle.rvc_engine.specs.Built.{AreJudged}
use Rattle.rvc_engine.proofs.Compiled.{judged_more, place_more}
use Rattle.rvc_engine.proofs.compiling.uncertified_at.Goals as goal

pub places-preserved : goal.places-preserved
places-preserved c =
    let opened : c.places.rest.now ≡ c.in-Some.place.now ∷ c.in-Some.others.now = search rules in
    let low : All (λ p. p < length c.args.all.now) (c.in-Some.place.now ∷ c.in-Some.others.now) = subst (All (λ p. p < length c.args.all.now)) opened c.places.invariant.low in
    place_more (λ actors. AreJudged actors c.places.said.items) (λ actors. AreJudged actors c.push.new.self.items)
    c.args.places.now c.places.rest.now c.in-Some.others.now c.in-Some.place.now c.index-all-place.result c.args.all.now c.places.invariant opened
    (All-head (λ p. p < length c.args.all.now) c.in-Some.place.now c.in-Some.others.now low) c.index-all-place.is
    (All-tail (λ p. p < length c.args.all.now) c.in-Some.place.now c.in-Some.others.now low)
    (λ actors a h compiled. subst (AreJudged (actors ++ a ∷ [])) (sym c.in_ok-push.ensures.items)
    (judged_more actors c.places.said.items a c.uncertified_of.result h (subst (λ v. AreJudged (a ∷ []) (v ∷ [])) (sym c.uncertified_of.ensures) (compiled.judged, tt))))
