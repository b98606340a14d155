use Rattle.std.proofs.Common.{◌<◌, length, map, refl, subst, sym}
use Rattle.std.specs.Prelude.{All}
use Rattle.std.specs.Arc.{arc_value}
use Rattle.lower_actor.specs.Leaves.{StandForActors}
use Rattle.cal_model.specs.View.{actor_of}
use Rattle.check_leaves.specs.Leaves.{at_places, distinct_actors}
use Rattle.fnl_files.specs.Views.{files_in}
use Rattle.rvc_engine.specs.Built.{AreJudged}
use Rattle.rvc_engine.specs.Compiling.{AreCompiled}
use Rattle.rvc_engine.proofs.ImageIs.{image_is, within_compiled}
use Rattle.rvc_engine.proofs.building.image_of.Goals as goal

pub codes_at-requires : goal.codes_at-requires
codes_at-requires c =
    let are : AreCompiled (distinct_actors c.args.checked.actors) c.in-Ok.all.items = subst (λ bs. AreCompiled (map actor_of bs) c.in-Ok.all.items) c.deref.ensures.value c.in-Ok.ensures in
    subst (λ all. All (λ p. p < length all) c.deref-2.result.now) (sym c.deref-3.ensures.value)
    (subst (All (λ p. p < length c.in-Ok.all.items)) (sym c.deref-2.ensures.value) (within_compiled c.args.checked.actors c.in-Ok.all.items c.requires.source.stand are))

pub uncertified_at-requires : goal.uncertified_at-requires
uncertified_at-requires c =
    let are : AreCompiled (distinct_actors c.args.checked.actors) c.in-Ok.all.items = subst (λ bs. AreCompiled (map actor_of bs) c.in-Ok.all.items) c.deref.ensures.value c.in-Ok.ensures in
    subst (λ all. All (λ p. p < length all) c.deref-4.result.now) (sym c.deref-5.ensures.value)
    (subst (All (λ p. p < length c.in-Ok.all.items)) (sym c.deref-4.ensures.value) (within_compiled c.args.checked.actors c.in-Ok.all.items c.requires.source.stand are))

pub returns-clause-image : goal.returns-clause-image
returns-clause-image c = λ class s.
    let are : AreCompiled (distinct_actors c.args.checked.actors) c.in-Ok.all.items = subst (λ bs. AreCompiled (map actor_of bs) c.in-Ok.all.items) c.deref.ensures.value c.in-Ok.ensures in
    let codes : StandForActors (at_places (distinct_actors c.args.checked.actors) c.deref-2.result.now) (map arc_value c.in-Ok-codes_at.codes.items) =
    c.in-Ok-codes_at.ensures (distinct_actors c.args.checked.actors) (subst (AreCompiled (distinct_actors c.args.checked.actors)) (sym c.deref-3.ensures.value) are) in
    let judged : AreJudged (at_places (distinct_actors c.args.checked.actors) c.deref-4.result.now) c.in-Ok-uncertified_at.uncertified.items =
    c.in-Ok-uncertified_at.ensures (distinct_actors c.args.checked.actors) (subst (AreCompiled (distinct_actors c.args.checked.actors)) (sym c.deref-5.ensures.value) are) in
    image_is (files_in c.args.files.now) class c.args.checked (record { flat = c.args.checked.flat; codes = c.in-Ok-codes_at.codes; uncertified = c.in-Ok-uncertified_at.uncertified }) s refl
    (subst (λ ps. StandForActors (at_places (distinct_actors c.args.checked.actors) ps) (map arc_value c.in-Ok-codes_at.codes.items)) c.deref-2.ensures.value codes)
    (subst (λ ps. AreJudged (at_places (distinct_actors c.args.checked.actors) ps) c.in-Ok-uncertified_at.uncertified.items) c.deref-4.ensures.value judged)
