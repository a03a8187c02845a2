use Rattle.nd_array_core.proofs.NamesFromOtherCrates.{refl, false≢true}
use Rattle.nd_array_core.specs.reshape.EitherArray.{NotCopied}
use Rattle.nd_array_core.proofs.law_lemmas.ViewOrOwnedArrays.{ranks_shown}
use Rattle.nd_array_core.proofs.reshape.to_shape.view_or_copy.Goals as goal

pub returns-in-Err-clause-refused : goal.returns-in-Err-clause-refused
returns-in-Err-clause-refused g c = NotCopied c.requires.shape (λ serve. false≢true (c.in-None.ensures.some.1 serve))

pub returns-in-Ok-clause-shown : goal.returns-in-Ok-clause-shown
returns-in-Ok-clause-shown g c = ranks_shown c.args.array.now c.args.order (g.E.Dimension.lengths c.args.dim) c.in-Ok.copy c.in-Ok.ensures.ranks

pub copied_in-requires-clause-shape : goal.copied_in-requires-clause-shape
copied_in-requires-clause-shape g c = c.requires.shape

pub copied_in-requires-clause-clones : goal.copied_in-requires-clause-clones
copied_in-requires-clause-clones g c = c.requires.clones (λ serve. false≢true (c.in-None.ensures.some.1 serve))

pub returns-in-Some-clause-kind : goal.returns-in-Some-clause-kind
returns-in-Some-clause-kind g c = (c.in-Some.ensures.some.0 refl, c.in-Some.ensures.shows)

pub returns-in-Some-clause-serves : goal.returns-in-Some-clause-serves
returns-in-Some-clause-serves g c serve = refl

pub returns-in-Ok-clause-kind : goal.returns-in-Ok-clause-kind
returns-in-Ok-clause-kind g c = ((λ serve. false≢true (c.in-None.ensures.some.1 serve)), c.in-Ok.ensures.owns, c.in-Ok.ensures.ranks)

pub returns-in-Ok-clause-serves : goal.returns-in-Ok-clause-serves
returns-in-Ok-clause-serves g c serve = absurd (false≢true (c.in-None.ensures.some.1 serve))

pub returns-in-Err-clause-serves : goal.returns-in-Err-clause-serves
returns-in-Err-clause-serves g c serve = absurd (false≢true (c.in-None.ensures.some.1 serve))
