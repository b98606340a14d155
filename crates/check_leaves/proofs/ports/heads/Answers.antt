use Rattle.std.proofs.Common.{◌≡◌, ◌<◌, ◌++◌, ◌∷◌, get_or, length, map, subst}
use Rattle.cal_model.specs.View.{actor_of}
use Rattle.fnl_flatten.specs.View.{heads_of}
use Rattle.fnl_source.specs.Actors.{head_of}
use Rattle.check_leaves.specs.Leaves.{actors_at_leaves, at_places}
use Rattle.check_leaves.proofs.HeadsTold.{first_within, rest_within, sound_at, told_more}
use Rattle.check_leaves.proofs.ports.heads.Goals as goal

pub head_of-requires : goal.head_of-requires
head_of-requires c =
    let actors = c.args.found.now.actors.items in
    let at : c.index.result.now ≡ get_or actors c.in-Some.place.now c.index.result.now = c.index.ensures in
    let low : c.in-Some.place.now < length actors = first_within (length actors) c.in-Some.place.now c.leaves.rest.now c.in-Some.others.now c.in-Some.ensures.cases.0 c.leaves.invariant.within in
    sound_at actors c.in-Some.place.now c.index.result.now c.requires.sound low at

pub leaves-preserved : goal.leaves-preserved
leaves-preserved c =
    let actors = c.args.found.now.actors.items in
    let at : c.index.result.now ≡ get_or actors c.in-Some.place.now c.index.result.now = c.index.ensures in
    let low : c.in-Some.place.now < length actors = first_within (length actors) c.in-Some.place.now c.leaves.rest.now c.in-Some.others.now c.in-Some.ensures.cases.0 c.leaves.invariant.within in
    let told : heads_of c.leaves.heads.items ++ map head_of (at_places (map actor_of actors) (c.in-Some.place.now ∷ c.in-Some.others.now)) ≡ map head_of (actors_at_leaves c.args.found.now) =
    subst (λ ps. heads_of c.leaves.heads.items ++ map head_of (at_places (map actor_of actors) ps) ≡ map head_of (actors_at_leaves c.args.found.now)) c.in-Some.ensures.cases.0 c.leaves.invariant.told in
    record {
      within = rest_within (length actors) c.in-Some.place.now c.leaves.rest.now c.in-Some.others.now c.in-Some.ensures.cases.0 c.leaves.invariant.within;
      told = told_more actors c.in-Some.place.now c.index.result.now c.in-Some.others.now c.leaves.heads.items c.push.new.self.items c.in_ok-head_of.field-0 (map head_of (actors_at_leaves c.args.found.now))
          low at c.in_ok-head_of.ensures c.in_ok-push.ensures.items told;
    }
