use Rattle.std.proofs.Common.{sym, ◌∙◌}
use Rattle.rvc_io.proofs.FileLemmas.{bytes_at-map}
use Rattle.rvc_io.proofs.files.bytes_at.Goals as goal

pub returns : goal.returns
returns c =
    c.as_slice.ensures.value ∙ sym (bytes_at-map c.args.files.now c.args.place c.index-files-place.result c.requires)
