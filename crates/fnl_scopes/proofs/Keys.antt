-- The index of a set of names.
use Rattle.std.proofs.Common.{◌≡◌, ℕ, false, List, [], ◌∷◌, ◌++◌, map, refl, sym, ap, ◌∙◌}
use Rattle.std.proofs.lemmas.List.{map-append}
use Rattle.std.specs.Prelude.{◌||◌, String, string_bytes, if◌then◌else◌}
use Rattle.std.specs.List.{list_any}
use Rattle.std.specs.Str.{bytes_eq}
use Rattle.std.specs.declared.alloc.Global.{Global as Heap}
use Rattle.fnl_bind.specs.Library.{is_among}
use Rattle.fnl_scopes.proofs.Repeats.{or-else, same-text}

pub among_keys : (name : List ℕ) (keys : List (String Heap)) → list_any (λ k. bytes_eq name (string_bytes k)) keys ≡ is_among name (map string_bytes keys)
among_keys name [] = refl
among_keys name (k ∷ keys) =
    ap (λ b. bytes_eq name (string_bytes k) || b) (among_keys name keys)
    ∙ ap (λ b. b || is_among name (map string_bytes keys)) (same-text name (string_bytes k))
    ∙ sym (or-else (bytes_eq (string_bytes k) name) (is_among name (map string_bytes keys)))

-- a new name goes last
pub added_key : (keys : List (String Heap)) (k : String Heap) → is_among (string_bytes k) (map string_bytes keys) ≡ false
    → map string_bytes (if list_any (λ x. bytes_eq (string_bytes k) (string_bytes x)) keys then keys else keys ++ k ∷ []) ≡ map string_bytes keys ++ string_bytes k ∷ []
added_key keys k new =
    ap (λ b. map string_bytes (if b then keys else keys ++ k ∷ [])) (among_keys (string_bytes k) keys ∙ new)
    ∙ map-append string_bytes keys (k ∷ [])
