-- The file at a place, as the code holds it and as contracts see it.
use Rattle.std.proofs.Common.{◌≡◌, ℕ, ◌<◌, List, [], length, map, get_or, ap, String, Vec}
use Rattle.std.specs.declared.alloc.Global.{Global}
use Rattle.std.proofs.lemmas.List.{get_or-map}
use Rattle.rvc_io.specs.Files.{File, named, bytes_at}

pub bytes_at-map : (files : List (String Global × Vec ℕ Global)) (place : ℕ) (d : String Global × Vec ℕ Global) → place < length files → bytes_at (map named files) place ≡ (get_or files place d).1.items
bytes_at-map files place d within =
    ap (λ (f : File). f.bytes) (get_or-map named files place d (record { name = []; bytes = [] }) within)
