use Rattle.nd_elements.proofs.NamesFromOtherCrates.{ap, ◌∙◌, ◌≡◌, drop, length, slice_get, is_some}
use Rattle.nd_elements.proofs.tasks.StoragePartLent.{all_written, as_many_got}
use Rattle.nd_elements.proofs.storage.OwnedReprDataMut.with_part.Goals as goal

pub returns-clause-part : goal.returns-clause-part
returns-clause-part g c =
    let new = c.part_of_slice.new.items in
    let e = rw c.as_mut_slice.ensures.value at c.part_of_slice.ensures.part in
    (e.0, e.1, e.2, e.3, λ p. ap (λ l. slice_get l p) (all_written new (drop (length new) c.args.self.now.items.items) c.args.self.now.items.len (c.part_of_slice.ensures.long ∙ c.as_mut_slice.ensures.len)) ∙ e.4 p)

pub returns-clause-there : goal.returns-clause-there
returns-clause-there g c p =
    let new = c.part_of_slice.new.items in
    let old = c.args.self.now.items in
    let long : length new ≡ length old.items = c.part_of_slice.ensures.long ∙ ap length c.as_mut_slice.ensures.value in
    ap (λ l. is_some (slice_get l p)) (all_written new (drop (length new) old.items) old.len (c.part_of_slice.ensures.long ∙ c.as_mut_slice.ensures.len)) ∙ as_many_got old.items new p long
