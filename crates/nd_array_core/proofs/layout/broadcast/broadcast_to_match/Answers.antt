use Rattle.nd_array_core.proofs.NamesFromOtherCrates.{◌∙◌, refl, sym, true≢false, fun_ext}
use Rattle.nd_array_core.proofs.layout.broadcast.broadcast_to_match.Goals as goal

pub unreachable-requires : goal.unreachable-requires
unreachable-requires g c = true≢false (sym c.requires ∙ (rw c.raw_dim.ensures at (c.in-None.ensures {u = tt}).none.0 refl))

pub returns : goal.returns
returns g c =
    let part = rw c.raw_dim.ensures at c.in-Some.ensures.part in
    record { shape = part.0; elements = fun_ext part.2 }
