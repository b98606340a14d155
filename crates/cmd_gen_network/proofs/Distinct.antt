-- The files of a network have different names.
use Rattle.std.proofs.Common.{ℕ, refl}
use Rattle.std.specs.Prelude.{IsTrue}
use Rattle.rvc_io.specs.Files.{are_distinct}
use Rattle.cmd_gen_network.specs.Texts.{add_file, files_of, flip_file, top_file}

pub distinct : (instances : ℕ) → IsTrue (are_distinct (files_of instances))
unfolding top_file add_file flip_file
distinct instances = refl
