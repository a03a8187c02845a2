-- What is printed, by the kind of the items.
use Rattle.std.proofs.Common.{◌≡◌, ◌∙◌, ℕ, ◌++◌, List, Option, Some, Result, Ok, Err, refl, sym, ap, subst}
use Rattle.std.specs.Fmt.{◌++?◌}
use Rattle.std.specs.Prelude.{codes, IfSome}
use Rattle.nd_npy_text.specs.declared.item_type.ItemType.{ItemType}
use Rattle.nd_npy_text.specs.declared.item_type.Kind.{Kind}
use Rattle.nd_npy_run.specs.declared.output_or_fault.Fault.{Fault}
use Rattle.nd_npy_run.specs.declared.output_or_fault.Fault.TheVariants.{BadStep, BadHead, WrongSize, Refused, NoText, NotReduced, Memory, ReadFailed}
use Rattle.nd_npy_run.specs.declared.wanted_outputs.Wanted.{Wanted}
use Rattle.nd_npy_run.specs.declared.wanted_outputs.Wanted.TheVariants.{Text}
use Rattle.nd_npy_run.specs.ItemTexts.{text_of_kind}
use Rattle.nd_npy_run.specs.FilesAfterSteps.{Items, printed_as, printed_text, wanted_text}
use Rattle.nd_npy_run.specs.OutputAndStatus.{ComesOfArray, ComesOfText}
use Rattle.nd_npy_run.proofs.ArrayTextByElements.{BothKnown}

-- what is wanted is a text that is known
pub text_comes : (wanted : Wanted) (item_type : ItemType) (m : Items) (known : Option (List ℕ)) (made : Result (List ℕ) Fault) → wanted_text wanted item_type m ≡ known → ComesOfText known made → ComesOfArray wanted item_type m made
text_comes wanted item_type m known (Ok text) is comes = is ∙ comes
text_comes wanted item_type m known (Err (BadStep n w)) is comes = absurd comes
text_comes wanted item_type m known (Err (BadHead e)) is comes = absurd comes
text_comes wanted item_type m known (Err (WrongSize n k)) is comes = absurd comes
text_comes wanted item_type m known (Err (Refused r)) is comes = absurd comes
text_comes wanted item_type m known (Err (NoText kind)) is comes = absurd comes
text_comes wanted item_type m known (Err (NotReduced error)) is comes = absurd comes
text_comes wanted item_type m known (Err Memory) is comes = comes
text_comes wanted item_type m known (Err ReadFailed) is comes = absurd comes

-- what is wanted is told by what `asked` stands for
pub wanted_comes : (wanted asked : Wanted) (item_type : ItemType) (m : Items) (known : Option (List ℕ)) (made : Result (List ℕ) Fault) → wanted ≡ asked → wanted_text asked item_type m ≡ known → ComesOfText known made → ComesOfArray wanted item_type m made
wanted_comes wanted asked item_type m known made same is comes = text_comes wanted item_type m known made (ap (λ w. wanted_text w item_type m) same ∙ is) comes

-- items of a kind that has a text
pub kind_comes : (item_type : ItemType) (kind : Kind) (m : Items) (made : Result (List ℕ) Fault) → item_type.kind ≡ kind → ComesOfText (printed_as (text_of_kind kind item_type.order) m) made → ComesOfArray Text item_type m made
kind_comes item_type kind m made is comes =
    text_comes Text item_type m (printed_text item_type m) made refl (subst (λ text. ComesOfText text made) (ap (λ (k : Kind). printed_as (text_of_kind k item_type.order) m) (sym is)) comes)

-- what was written, and a line feed after it
pub line_comes : (known of_items : Option (List ℕ)) (written : List ℕ) (made : Result (List ℕ) Fault) → BothKnown known of_items → IfSome known (λ text. written ≡ text) → ComesOfText (Some (written ++ codes "\n")) made → ComesOfText (of_items ++? Some (codes "\n")) made
line_comes known of_items written made both is comes =
    let same : written ≡ both.0 = subst (λ o. IfSome o (λ text. written ≡ text)) both.1 is in
    let line : Some (written ++ codes "\n") ≡ of_items ++? Some (codes "\n") = rw (both.2, same) refl in
    subst (λ text. ComesOfText text made) line comes
