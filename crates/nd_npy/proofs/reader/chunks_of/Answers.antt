use Rattle.std.proofs.Common.{◌∙◌, length, ap}
use Rattle.std.specs.Simd.{first_chunks}
use Rattle.nd_npy.proofs.ItemValues.{chunks_are, chunks_counted}
use Rattle.nd_npy.proofs.reader.chunks_of.Goals as goal

pub returns-clause-items : goal.returns-clause-items
returns-clause-items g c =
    let bytes = c.args.bytes.now in
    let many = chunks_counted g.row.N c.args.count (length bytes) c.requires.some c.requires.whole in
    c.as_chunks.ensures.front ∙ ap (λ k. first_chunks g.row.N k bytes) many ∙ chunks_are g.row.N c.args.count bytes

pub returns-clause-count : goal.returns-clause-count
returns-clause-count g c = c.as_chunks.ensures.front_len ∙ chunks_counted g.row.N c.args.count (length c.args.bytes.now) c.requires.some c.requires.whole
