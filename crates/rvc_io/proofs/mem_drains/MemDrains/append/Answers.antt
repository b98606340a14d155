use Rattle.std.proofs.Common.{◌≡◌, true, None, is_some, get_or, ap}
use Rattle.rvc_io.specs.MemDrains.{DrainsState, held_by_each}
use Rattle.rvc_io.proofs.DrainLemmas.{appended, open_within}
use Rattle.rvc_io.proofs.mem_drains.MemDrains.append.Goals as goal

pub returns-clause-held : goal.returns-clause-held
returns-clause-held c =
    let channels = c.self.inside.channels.items in
    let same : held_by_each channels ≡ c.args.self.now.held = ap (λ (d : DrainsState). d.held) c.self.view_is in
    let was : is_some (get_or (held_by_each channels) c.args.channel None) ≡ true = rw same c.requires.open in
    rw (← c.self.view_is) (appended channels c.args.channel c.index_mut.result.now c.extend_from_slice.new.self c.args.piece.now (open_within channels c.args.channel was) c.index_mut.ensures.value was c.in-Ok.ensures.items)
