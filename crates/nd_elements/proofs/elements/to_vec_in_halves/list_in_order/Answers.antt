use Rattle.nd_elements.proofs.NamesFromOtherCrates.{sym, subst, OnOk, OnErr, by_rank}
use Rattle.nd_elements.specs.ElementsAtNumberedPlaces.{Holds, ListsAfter, ClonesAreEqualAt, MayLackAt}
use Rattle.nd_elements.proofs.elements.to_vec_in_halves.list_in_order.Goals as goal

pub list-requires-clause-clones : goal.list-requires-clause-clones
list-requires-clause-clones g c = subst (λ p. ClonesAreEqualAt g.S.Elem.Clone.is_clone g.S.Data.stored (by_rank p) c.args.storage.now) (sym c.places.ensures) c.requires.clones

pub list-requires-clause-holds : goal.list-requires-clause-holds
list-requires-clause-holds g c = subst (λ p. Holds g.S.Data.stored (by_rank p) c.args.storage.now) (sym c.places.ensures) c.requires.holds

pub returns-clause-items : goal.returns-clause-items
returns-clause-items g c = subst (λ p. OnOk c.list.result (ListsAfter g.S.Data.stored (by_rank p) c.args.storage.now c.args.items.now c.list.new.items)) c.places.ensures c.list.ensures.items

pub returns-clause-refused : goal.returns-clause-refused
returns-clause-refused g c = subst (λ p. OnErr c.list.result (MayLackAt g.S.Elem.Clone.is_infallible g.S.Data.stored (by_rank p) c.args.storage.now)) c.places.ensures c.list.ensures.refused
