-- What is left on feeds in memory.
use Rattle.std.proofs.Common.{◌≡◌, ℕ, zero, suc, List, ◌∷◌, Option, None, replicate, refl, ap, ◌∙◌}
use Rattle.rvc_io.specs.Files.{File}
use Rattle.rvc_io.specs.MemFeeds.{left_of_each}
use Rattle.rvc_io.specs.declared.mem_feeds.Reading.{Reading}

pub left_of_each-replicate : (files : List File) (n : ℕ) → left_of_each files (replicate n None) ≡ replicate n None
left_of_each-replicate files zero = refl
left_of_each-replicate files (suc n) = ap (λ rest. None ∷ rest) (left_of_each-replicate files n)

pub none_left : (files : List File) (readings : List (Option Reading)) (n : ℕ) → readings ≡ replicate n None → left_of_each files readings ≡ replicate n None
none_left files readings n e = ap (left_of_each files) e ∙ left_of_each-replicate files n
