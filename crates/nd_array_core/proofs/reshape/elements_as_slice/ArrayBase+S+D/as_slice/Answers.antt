use Rattle.nd_array_core.proofs.NamesFromOtherCrates.{◌≡◌, IfSome, subst}
use Rattle.nd_array_core.specs.ArrayMeaning.{meaning_of}
use Rattle.nd_array_core.proofs.reshape_lemmas.RunElements.{same_elements}
use Rattle.nd_array_core.proofs.reshape.elements_as_slice.ArrayBase+S+D.as_slice.Goals as goal

pub returns-clause-elements : goal.returns-clause-elements
returns-clause-elements g c =
    let whole = c.view.ensures.whole in
    subst (λ es. IfSome c.to_slice.result (λ xs. xs.now ≡ es)) (same_elements (meaning_of c.view.result) (meaning_of c.args.self.now) whole.0 whole.2) c.to_slice.ensures.elements
