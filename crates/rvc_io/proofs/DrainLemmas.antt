-- What channels in memory hold after one of them changed.
use Rattle.std.proofs.Common.{◌≡◌, ℕ, zero, suc, ◌<◌, Bool, true, false, List, [], ◌∷◌, ◌++◌, Option, None, Some, is_some, unwrap_or, length, get_or, set, Vec, refl, ap, sym, ◌∙◌, if◌then◌else◌, arith}
use Rattle.std.specs.declared.alloc.Global.{Global}
use Rattle.std.proofs.lemmas.List.{get_or-map, map-set, length-map}
use Rattle.rvc_io.specs.MemDrains.{held_by, held_by_each}
use Rattle.rvc_io.specs.declared.mem_drains.Channel.{Channel}

held_at : (channels : List Channel) (k : ℕ) (old : Channel) → k < length channels → old ≡ get_or channels k old → get_or (held_by_each channels) k None ≡ held_by old
held_at channels k old within read = get_or-map held_by channels k old None within ∙ ap held_by (sym read)

behind : (flag : Bool) (items new piece : List ℕ) (held : Option (List ℕ)) → held ≡ (if flag then Some items else None) → is_some held ≡ true → new ≡ items ++ piece → (if flag then Some new else None) ≡ Some (unwrap_or held [] ++ piece)
behind true items new piece held e was n = rw (e, n) refl
behind false items new piece held e was n = let none : is_some held ≡ false = ap is_some e in cc

empty_when_closed : (flag : Bool) (items : List ℕ) (held : Option (List ℕ)) → held ≡ (if flag then Some items else None) → is_some held ≡ false → (flag ≡ false → items ≡ []) → items ≡ []
empty_when_closed true items held e closed empty = let some : is_some held ≡ true = ap is_some e in cc
empty_when_closed false items held e closed empty = empty refl

-- a piece was put behind what an open channel held
pub appended : (channels : List Channel) (k : ℕ) (old : Channel) (bytes : Vec ℕ Global) (piece : List ℕ) → k < length channels → old ≡ get_or channels k old → is_some (get_or (held_by_each channels) k None) ≡ true → bytes.items ≡ old.bytes.items ++ piece → held_by_each (set channels k (record { is_open = old.is_open; bytes = bytes })) ≡ set (held_by_each channels) k (Some (unwrap_or (get_or (held_by_each channels) k None) [] ++ piece))
appended channels k old bytes piece within read was e =
    map-set held_by channels k (record { is_open = old.is_open; bytes = bytes })
    ∙ ap (set (held_by_each channels) k) (behind old.is_open old.bytes.items bytes.items piece _ (held_at channels k old within read) was e)

-- a channel that held nothing was opened
pub opened : (channels : List Channel) (k : ℕ) (old : Channel) → k < length channels → old ≡ get_or channels k old → is_some (get_or (held_by_each channels) k None) ≡ false → (old.is_open ≡ false → old.bytes.items ≡ []) → held_by_each (set channels k (record { is_open = true; bytes = old.bytes })) ≡ set (held_by_each channels) k (Some [])
opened channels k old within read closed empty =
    map-set held_by channels k (record { is_open = true; bytes = old.bytes })
    ∙ ap (λ b. set (held_by_each channels) k (Some b)) (empty_when_closed old.is_open old.bytes.items _ (held_at channels k old within read) closed empty)

some_within : (held : List (Option (List ℕ))) (k : ℕ) → is_some (get_or held k None) ≡ true → k < length held
some_within [] k e = cc
some_within (h ∷ hs) zero e = omega arith
some_within (h ∷ hs) (suc k) e = let rest : k < length hs = some_within hs k e in omega arith

-- an open channel is there
pub open_within : (channels : List Channel) (k : ℕ) → is_some (get_or (held_by_each channels) k None) ≡ true → k < length channels
open_within channels k e =
    let within : k < length (held_by_each channels) = some_within (held_by_each channels) k e in
    omega (arith, length-map channels held_by)
