use Rattle.fnl_source.specs.Files.{class_asked, files_of}
use Rattle.cmd_run.proofs.laws.built_images_can_be_run.Goals as goal

pub returns : goal.returns
returns c = λ library top names image built.
    record {
      actors = built.is_image.means.actors;
      net = built.is_image.net;
      has = built.is_image.has;
      is = c.cells_run_as_sources.ensures.sources (files_of built.reads) (class_asked top) built.is_image.net built.is_image.means.tree built.is_image.means.actors
          built.is_image.means built.is_image.means.is_tree built.is_image.means.are_actors built.is_image.has.sound;
    }
