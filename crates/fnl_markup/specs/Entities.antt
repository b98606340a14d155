-- The entities: `&lt;`, `&gt;`, `&quot;`, `&amp;` and `&apos;`.
-- Trusted: part of what a promise means.
use Rattle.std.specs.Prelude.{ℕ, ◌==◌, if◌then◌else◌, Option, Some, None}
use Rattle.fnl_markup.specs.declared.entity.Entity.{Entity}
use Rattle.fnl_markup.specs.declared.entity.Entity.TheVariants.{Ampersand, L, Lt, G, Gt, Q, Qu, Quo, Quot, A, Am, Amp, Ap, Apo, Apos}

-- what was read of an entity, and so many letters of its text
abbrev pub only : ℕ → Entity → ℕ → Option Entity
only letter next b = if b == letter then Some next else None

-- the entity with one more letter, if one begins so
abbrev pub longer : Entity → ℕ → Option Entity
longer Ampersand b =
    if b == 108 then Some L else (if b == 103 then Some G
    else (if b == 113 then Some Q else (if b == 97 then Some A else None)))
longer L b = only 116 Lt b
longer G b = only 116 Gt b
longer Q b = only 117 Qu b
longer Qu b = only 111 Quo b
longer Quo b = only 116 Quot b
longer A b = if b == 109 then Some Am else (if b == 112 then Some Ap else None)
longer Am b = only 112 Amp b
longer Ap b = only 111 Apo b
longer Apo b = only 115 Apos b
longer _ b = None

-- the character that an entity stands for, if all of its letters were read
abbrev pub meaning : Entity → Option ℕ
meaning Lt = Some 60
meaning Gt = Some 62
meaning Quot = Some 34
meaning Amp = Some 38
meaning Apos = Some 39
meaning _ = None
