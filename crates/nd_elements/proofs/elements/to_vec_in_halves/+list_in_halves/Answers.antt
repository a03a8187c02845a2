use Rattle.nd_elements.proofs.NamesFromOtherCrates.{arith, vec_len, on_ok_weaker, on_err_weaker, placement_of}
use Rattle.nd_elements.specs.ElementsAtNumberedPlaces.{all_elements_at, ranked_by}
use Rattle.nd_elements.proofs.elements_lemmas.ListedHalves.{both_listed, both_counted, first_refused, second_refused, front_again}
use Rattle.nd_elements.proofs.elements.to_vec_in_halves.+list_in_halves.Goals as goal

pub returns-in-Ok-clause-items : goal.returns-in-Ok-clause-items
returns-in-Ok-clause-items g t c =
    on_ok_weaker c.list_in_halves-in-Ok.result
    (both_listed (g.S.Data.stored c.args.storage.now) (placement_of c.args.layout.now) (placement_of c.in-Some.lower) (placement_of c.in-Some.upper) c.in-Some.ensures
    c.args.items.now.items c.list_in_halves.new.items.items c.list_in_halves-in-Ok.new.items.items c.in-Ok.ensures.items)
    c.list_in_halves-in-Ok.ensures.items

pub returns-in-Ok-clause-count : goal.returns-in-Ok-clause-count
returns-in-Ok-clause-count g t c =
    on_ok_weaker c.list_in_halves-in-Ok.result
    (both_counted (g.S.Data.stored c.args.storage.now) (placement_of c.args.layout.now) (placement_of c.in-Some.lower) (placement_of c.in-Some.upper) c.in-Some.ensures (vec_len c.args.items.now) (vec_len c.list_in_halves.new.items) (vec_len c.list_in_halves-in-Ok.new.items) c.in-Ok.ensures.count)
    c.list_in_halves-in-Ok.ensures.count

pub returns-in-Ok-clause-kept : goal.returns-in-Ok-clause-kept
returns-in-Ok-clause-kept g t c =
    on_err_weaker c.list_in_halves-in-Ok.result
    (front_again c.args.items.now.items (all_elements_at g.S.Data.stored (ranked_by c.in-Some.lower) c.args.storage.now) c.list_in_halves.new.items.items c.list_in_halves-in-Ok.new.items.items c.in-Ok.ensures.items)
    c.list_in_halves-in-Ok.ensures.kept

pub returns-in-Ok-clause-refused : goal.returns-in-Ok-clause-refused
returns-in-Ok-clause-refused g t c =
    on_err_weaker c.list_in_halves-in-Ok.result
    (second_refused (g.S.Data.stored c.args.storage.now) (placement_of c.args.layout.now) (placement_of c.in-Some.lower) (placement_of c.in-Some.upper) c.in-Some.ensures g.S.Elem.Clone.is_infallible)
    c.list_in_halves-in-Ok.ensures.refused

pub returns-in-Err-clause-refused : goal.returns-in-Err-clause-refused
returns-in-Err-clause-refused g t c = first_refused (g.S.Data.stored c.args.storage.now) (placement_of c.args.layout.now) (placement_of c.in-Some.lower) (placement_of c.in-Some.upper) c.in-Some.ensures g.S.Elem.Clone.is_infallible c.in-Err.ensures.refused

pub returns-in-Ok-clause-room : goal.returns-in-Ok-clause-room
returns-in-Ok-clause-room g t c = omega (arith, c.list_in_halves.ensures.room, c.list_in_halves-in-Ok.ensures.room)
