use Rattle.nd_layout.proofs.NamesFromOtherCrates.{◌≡◌, ◌<◌, ◌∙◌, ℕ, List, length, ap, arith, get_or, ◌/◌, remove, mul-div_cancel_left, size_of}
use Rattle.nd_layout.proofs.growing_lemmas.FreshStorageAxisOrder.{axis_long, others_fit}
use Rattle.nd_layout.proofs.AxisRemovedOrInserted.{size_of-removed}
use Rattle.nd_layout.proofs.SizesOfChangedAxes.{size_of-set}
use Rattle.nd_layout.proofs.growing.grown_layout.size_of_others.Goals as goal

quotient : (ns : List ℕ) (a size n : ℕ) → a < length ns → 0 < size_of ns → size ≡ size_of ns → n ≡ get_or ns a 0 → size / n ≡ size_of (remove ns a)
quotient ns a size n on some e f =
    (λ k. e k / f k) ∙ ap (λ s. s / get_or ns a 0) (size_of-removed ns a on) ∙ mul-div_cancel_left (size_of (remove ns a)) (axis_long ns a on some)

pub nonzero_div-result : goal.nonzero_div-result
nonzero_div-result g c = omega (arith, axis_long (g.D.Dimension.lengths c.args.dim.now) c.args.axis c.requires.on c.requires.some, c.length.ensures)

pub returns-clause-value : goal.returns-clause-value
returns-clause-value g c = quotient (g.D.Dimension.lengths c.args.dim.now) c.args.axis c.size.result c.length.result c.requires.on c.requires.some c.size.ensures c.length.ensures

pub returns-clause-small : goal.returns-clause-small
returns-clause-small g c =
    let ns = g.D.Dimension.lengths c.args.dim.now in
    let is = quotient ns c.args.axis c.size.result c.length.result c.requires.on c.requires.some c.size.ensures c.length.ensures in
    let small = others_fit ns c.args.axis c.requires.on c.requires.some c.requires.checked in
    omega (arith, is, small, size_of-set ns c.args.axis 1 c.requires.on)
