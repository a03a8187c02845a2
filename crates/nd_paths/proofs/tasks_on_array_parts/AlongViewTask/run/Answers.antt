use Rattle.std.proofs.Common.{◌≡◌, ◌∙◌, sym, ap, subst}
use Rattle.nd_array_core.specs.ArrayMeaning.{placed_array}
use Rattle.nd_array_core.specs.ArrayInStorage.{found_at}
use Rattle.nd_array_core.specs.scoped.ViewTasks.{lent_view, view_left}
use Rattle.nd_paths.specs.CallbacksOnViewsAndSplits.{AsksAlong, IsDoneAlong, meaning_placed, meaning_left}
use Rattle.nd_paths.proofs.ArrayAfterPartChanged.{alike}
use Rattle.nd_paths.proofs.tasks_on_array_parts.AlongViewTask.run.Goals as goal

pub run_along-end-requires : goal.run_along-end-requires
run_along-end-requires g c =
    let v = lent_view g.D.Dimension.lengths g.D.Strides.StrideList.strides_of c.args.lent in
    let a = placed_array c.into_dyn-view.result in
    let start : meaning_placed a ≡ meaning_placed v = alike (meaning_placed v) (meaning_placed a) (c.into_dyn-view.ensures.whole.0.0 ∙ c.into_view.ensures.shape) (λ i. sym (c.elements_have_places.ensures.elements i) ∙ (c.into_dyn-view.ensures.whole.0.2 i ∙ c.into_view.ensures.elements i)) in
    subst (λ m. AsksAlong (g.P.ArrayPath.leads c.args.self.path) (g.K.ArrayTask.pre c.args.self.task) m) (sym start) c.requires.pre

pub returns-clause-done : goal.returns-clause-done
returns-clause-done g c =
    let lengths = g.D.Dimension.lengths in
    let strides = g.D.Strides.StrideList.strides_of in
    let p = g.P.ArrayPath.leads c.args.self.path in
    let post = g.K.ArrayTask.post c.args.self.task in
    let v = lent_view lengths strides c.args.lent in
    let w = view_left lengths strides c.args.lent c.into_storage.result in
    let a = placed_array c.into_dyn-view.result in
    let b = placed_array c.run_along-end.result.0 in
    let shape = c.into_dyn-view.ensures.whole.0.0 ∙ c.into_view.ensures.shape in
    let stored : w.stored ≡ b.stored = ap (λ s. (view_left lengths strides c.args.lent s).stored) c.into_storage.ensures.same in
    let start : meaning_placed a ≡ meaning_placed v = alike (meaning_placed v) (meaning_placed a) shape (λ i. sym (c.elements_have_places.ensures.elements i) ∙ (c.into_dyn-view.ensures.whole.0.2 i ∙ c.into_view.ensures.elements i)) in
    let left : meaning_left a b ≡ meaning_left v w = alike (meaning_left v w) (meaning_left a b) shape (λ i. ap (found_at b.stored) (c.into_dyn-view.ensures.whole.0.3 i ∙ c.into_view.ensures.places i) ∙ sym (ap (λ s. found_at s (v.place i)) stored)) in
    subst (λ m. IsDoneAlong p post (meaning_placed v) m c.run_along-end.result.1) left (subst (λ m. IsDoneAlong p post m (meaning_left a b) c.run_along-end.result.1) start c.run_along-end.ensures.done)
