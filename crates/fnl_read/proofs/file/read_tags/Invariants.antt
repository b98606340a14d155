use Rattle.std.proofs.Common.{◌≡◌, take}
use Rattle.fnl_markup.specs.Tags.{plain_tags}
use Rattle.fnl_read.specs.Elements.{run}
use Rattle.fnl_read.specs.States.{Going, fresh}
use Rattle.fnl_read.specs.Views.{state_of}
use Rattle.fnl_read.proofs.file.read_tags.Given as goal

abbrev pub invariant-loop-tag : goal.invariant-loop-tag
invariant-loop-tag l = run (Going fresh) (plain_tags (take l.tag-index l.tags)) ≡ Going (state_of l.reader)
