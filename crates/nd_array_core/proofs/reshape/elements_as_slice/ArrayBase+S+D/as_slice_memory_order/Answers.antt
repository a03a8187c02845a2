use Rattle.nd_array_core.proofs.NamesFromOtherCrates.{◌≡◌, ◌-◌, IfSome, Option, Some, None, reach_down}
use Rattle.nd_array_core.specs.reshape.ElementsAsSlice.{lowest_place}
use Rattle.nd_array_core.specs.ArrayMeaning.{meaning_of}
use Rattle.nd_array_core.proofs.reshape_lemmas.MemoryOrder.{lies_alike}
use Rattle.nd_array_core.proofs.reshape_lemmas.ElementsInPlaceOrder.{memory_order_reorders}
use Rattle.nd_array_core.proofs.reshape.elements_as_slice.ArrayBase+S+D.as_slice_memory_order.Goals as goal

if_some : {X : Type 0} {P Q : X → Type 0} (o : Option X) → ((x : X) → P x → Q x) → IfSome o P → IfSome o Q
if_some (Some x) f p = f x p
if_some None f p = p

pub returns-clause-elements : goal.returns-clause-elements
returns-clause-elements g c =
    let whole = c.view.ensures.whole in
    let lowest : lowest_place c.view.result ≡ lowest_place c.args.self.now = λ k. whole.4 k - reach_down (whole.0 k) (whole.1 k) in
    if_some c.to_slice_memory_order.result (λ xs. lies_alike (whole.0) lowest (whole.3) (whole.2)) c.to_slice_memory_order.ensures.elements

pub returns-clause-reordered : goal.returns-clause-reordered
returns-clause-reordered g c = if_some c.to_slice_memory_order.result (λ xs. memory_order_reorders (meaning_of c.args.self.now) _ _ xs.now) (returns-clause-elements g c)
