-- The image of actors that are compiled.
use Rattle.std.proofs.Common.{◌≡◌, ℕ, ◌<◌, List, length, map, sym, subst, ◌∙◌}
use Rattle.std.specs.Prelude.{All}
use Rattle.std.specs.Arc.{arc_value}
use Rattle.std.proofs.lemmas.List.{length-map}
use Rattle.lower_actor.specs.Leaves.{StandForActors}
use Rattle.cal_model.specs.View.{actor_of}
use Rattle.check_leaves.specs.Leaves.{actors_at_leaves}
use Rattle.check_leaves.specs.declared.found.LeafActors.{LeafActors}
use Rattle.fnl_source.specs.Source.{Files}
use Rattle.rvc_engine.specs.Built.{AreJudged, HasImage, IsImageOf}
use Rattle.network_check.specs.Checked.{HasSource, IsNetworkOf, StandAtLeaves}
use Rattle.rvc_engine.specs.Compiling.{AreCompiled}
use Rattle.network_check.specs.declared.checked.Checked.{Checked}
use Rattle.rvc_engine.specs.declared.compiling.Compiled.{Compiled}
use Rattle.rvc_engine.specs.declared.image.Image.{Image}
use Rattle.rvc_engine.proofs.Compiled.{as_many_compiled}

pub image_is : (files : Files) (class : List ℕ) (checked : Checked) (image : Image) (s : HasSource files class checked) → image.flat ≡ checked.flat
    → StandForActors (actors_at_leaves checked.actors) (map arc_value image.codes.items) → AreJudged (actors_at_leaves checked.actors) image.uncertified.items
    → IsImageOf files class image
image_is files class checked image s flat codes judged = record {
  net = s.net;
  means = s.means;
  has = subst (λ actors. HasImage image actors s.net) (sym s.same_actors) (record {
    sound = s.has_net.sound;
    is_net = subst (λ f. IsNetworkOf (actors_at_leaves checked.actors) f s.net) (sym flat) s.has_net.is_net;
    codes = codes;
    judged = judged;
  });
}

-- all places are within what is compiled
pub within_compiled : (checked : LeafActors) (all : List Compiled) → StandAtLeaves checked → AreCompiled (map actor_of checked.actors.items) all
    → All (λ p. p < length all) checked.of_leaf.items
within_compiled checked all stand are =
    subst (λ n. All (λ p. p < n) checked.of_leaf.items) (sym (as_many_compiled (map actor_of checked.actors.items) all are ∙ length-map checked.actors.items actor_of)) stand.within
