use Rattle.nd_array_core.proofs.NamesFromOtherCrates.{◌≡◌, ◌+◌, ◌∙◌, ap, get_or, set, arith, sym, subst, HasCheckedSize}
use Rattle.nd_array_core.specs.ConcatenationAndSplit.{concatenated_shape}
use Rattle.nd_array_core.specs.growth.Append.{IsJoiningRefused, TooLarge}
use Rattle.nd_array_core.proofs.growth_lemmas.AppendInFilledStorage.{lengths_fit}
use Rattle.nd_array_core.proofs.growth_lemmas.BroadcastAppends.{fits_on}
use Rattle.nd_array_core.proofs.growth.joined_shape.longest.Goals as goal

pub length-requires-2 : goal.length-requires-2
length-requires-2 g c = fits_on (g.D.Dimension.lengths c.args.dim.now) (g.D.Dimension.lengths c.args.added.now) c.args.axis c.requires.on c.requires.fits

pub overflow_add-length : goal.overflow_add-length
overflow_add-length g c =
    let fit = lengths_fit (g.D.Dimension.lengths c.args.dim.now) (g.D.Dimension.lengths c.args.added.now) c.args.axis c.requires.checked c.requires.added in
    omega (arith, fit, c.length.ensures, c.length-2.ensures)

pub returns-in-Err-clause-refused : goal.returns-in-Err-clause-refused
returns-in-Err-clause-refused g c =
    let ns = g.D.Dimension.lengths c.args.dim.now in
    let ms = g.D.Dimension.lengths c.args.added.now in
    let shape : c.slice.result.now ≡ concatenated_shape ns ms c.args.axis = c.slice.ensures.lengths ∙ (c.set_length.ensures ∙ (ap (λ n. set ns c.args.axis (n + c.length-2.result)) c.length.ensures ∙ ap (λ n. set ns c.args.axis (get_or ns c.args.axis 0 + n)) c.length-2.ensures)) in
    subst (IsJoiningRefused ns ms c.args.axis) (sym c.in-Err.ensures.cause) (TooLarge c.requires.fits (λ fits. c.in-Err.ensures.overflow (subst HasCheckedSize (sym shape) fits)))
